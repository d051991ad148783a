use Rattle.std.proofs.Common.{◌≡◌, ◌∙◌, ◌++◌, ℕ, Bool, Option, Some, [], ◌∷◌, ap, refl}
use Rattle.std.specs.Prelude.{◌==◌, not, if◌then◌else◌}
use Rattle.pg_table.specs.declared.cache.Desc.TheVariants.{Leave}
use Rattle.pg_terms.specs.Terms.{is, out}
use Rattle.pg_infer.proofs.Ranges.{append_grown, map_filter_more}
use Rattle.pg_infer.proofs.states.put_leaving.Goals as goal

other_than : (o : Option ℕ) (n s : ℕ) → o ≡ Some n → not (n == s) ≡ not (is o s)
other_than o n s e = rw e refl

pub loop-state-preserved : goal.loop-state-preserved
loop-state-preserved c =
    let s = c.loop-state.state in
    append_grown _ _ _ _ _ _ (c.in_ok-put_if.ensures ∙ ap (λ (b : Bool). c.loop-state.states.items ++ (if b then Leave s ∷ [] else [])) (other_than (out c.args.protocol.now) c.out.result s c.out.ensures))
    c.loop-state.invariant (map_filter_more (λ s. Leave s) (λ s. not (is (out c.args.protocol.now) s)) s)
