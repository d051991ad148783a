use Rattle.std.proofs.Common.{ap, sym, ◌∙◌, subst, IsSome, IsNone, Contains, ◌↔◌}
use Rattle.std.specs.String.{string_bytes}
use Rattle.pg_names.specs.Number.{number_of}
use Rattle.pg_names.proofs.Numbers.{IsNone-number_of, IsSome-number_of}
use Rattle.pg_names.proofs.Texts.{position-number_of}
use Rattle.pg_names.proofs.names.Names.find.Goals as goal

pub returns-in_err-place-clause-number : goal.returns-in_err-place-clause-number
returns-in_err-place-clause-number c =
    c.from_residual.ensures ∙ c.in_err-place.ensures.index
    ∙ position-number_of string_bytes c.args.text.now c.self.inside.texts.keys
    ∙ ap (λ ns. number_of ns c.args.text.now) c.self.view_is

pub returns-in_err-place-clause-none : goal.returns-in_err-place-clause-none
returns-in_err-place-clause-none c =
    subst (λ o. IsNone o ↔ ¬ Contains c.args.self.now c.args.text.now) (sym (returns-in_err-place-clause-number c)) (IsNone-number_of c.args.self.now c.args.text.now)

pub returns-clause-number : goal.returns-clause-number
returns-clause-number c =
    c.in_ok-place.ensures.index
    ∙ position-number_of string_bytes c.args.text.now c.self.inside.texts.keys
    ∙ ap (λ ns. number_of ns c.args.text.now) c.self.view_is

pub returns-clause-none : goal.returns-clause-none
returns-clause-none c =
    subst (λ o. IsNone o ↔ ¬ Contains c.args.self.now c.args.text.now) (sym (returns-clause-number c)) (IsNone-number_of c.args.self.now c.args.text.now)

pub returns-in_err-place-clause-found : goal.returns-in_err-place-clause-found
returns-in_err-place-clause-found c =
    subst (λ o. IsSome o ↔ Contains c.args.self.now c.args.text.now) (sym (returns-in_err-place-clause-number c)) (IsSome-number_of c.args.self.now c.args.text.now)

pub returns-clause-found : goal.returns-clause-found
returns-clause-found c =
    subst (λ o. IsSome o ↔ Contains c.args.self.now c.args.text.now) (sym (returns-clause-number c)) (IsSome-number_of c.args.self.now c.args.text.now)
