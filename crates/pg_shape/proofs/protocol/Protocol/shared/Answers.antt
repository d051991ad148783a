use Rattle.std.proofs.Common.{◌≡◌, ℕ, false, Option, Some, None, sym, ◌∙◌}
use Rattle.std.specs.List.{list_any}
use Rattle.pg_perm.specs.declared.draft.Draft.{Draft}
use Rattle.pg_terms.specs.Terms.{is_shared, shared}
use Rattle.pg_shape.proofs.Searches.{position_none, none_position}
use Rattle.pg_shape.proofs.protocol.Protocol.shared.Goals as goal

none_exactly : (d : Draft) (o : Option ℕ) → o ≡ shared d
    → (o ≡ None → list_any (λ c. is_shared c.role) d.caches ≡ false) × (list_any (λ c. is_shared c.role) d.caches ≡ false → o ≡ None)
none_exactly d o e = (λ n. position_none (λ c. is_shared c.role) d.caches (sym e ∙ n), λ n. e ∙ none_position (λ c. is_shared c.role) d.caches n)

pub returns-in_err-state-clause-none : goal.returns-in_err-state-clause-none
returns-in_err-state-clause-none c = none_exactly c.args.self.now c.from_residual.result (cc (c.from_residual.ensures, c.in_err-state.ensures))

pub returns-clause-none : goal.returns-clause-none
returns-clause-none c = none_exactly c.args.self.now (Some c.in_ok-state.state) (cc (c.in_ok-state.ensures, c.self.view_is))
