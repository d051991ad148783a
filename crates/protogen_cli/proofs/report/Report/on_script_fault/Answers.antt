use Rattle.std.proofs.Common.{◌≡◌, ℕ, List, ◌++◌, append_assoc, ap, sym, subst, ◌∙◌}
use Rattle.std.specs.Prelude.{codes}
use Rattle.std.specs.String.{string_bytes}
use Rattle.std.specs.Fmt.{decimal}
use Rattle.protogen_cli.specs.declared.status.Status.TheVariants.{Script}
use Rattle.protogen_cli.specs.Replies.{Reply}
use Rattle.protogen_cli.proofs.report.Report.on_script_fault.Goals as goal

pub returns : goal.returns
returns c =
    let f = c.args.fault in
    let name : List ℕ = c.name.result.now in
    let reply : List ℕ → Reply = λ b. record { status = Script f; bytes = b } in
    let bytes : c.into_bytes.result.items ≡ string_bytes c.in_ok-line.line = ap (λ v. v.items) c.into_bytes.ensures.value in
    let nested = append_assoc (decimal f.line ++ codes " rule ") name (codes "\n") ∙ append_assoc (decimal f.line) (codes " rule ") (name ++ codes "\n") in
    subst (λ (w : List ℕ). reply c.into_bytes.result.items ≡ reply (codes "script line " ++ decimal f.line ++ codes " rule " ++ w ++ codes "\n"))
    c.name.ensures (ap reply (bytes ∙ c.in_ok-line.ensures.ok ∙ ap (λ (t : List ℕ). codes "script line " ++ t) (sym nested)))
