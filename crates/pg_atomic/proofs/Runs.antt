-- A run that goes one step further, and what is so where a transaction begins.
use Rattle.std.proofs.Common.{◌≡◌, ℕ, ◌<◌, true, List, [], ◌∷◌, ◌++◌, length, Some, refl, sym, ◌∙◌, subst, ap}
use Rattle.std.specs.Prelude.{nat_lt}
use Rattle.std.specs.List.{list_all}
use Rattle.pg_perm.specs.declared.kinds.Event.{Event}
use Rattle.pg_perm.specs.declared.step.Step.{Step}
use Rattle.pg_perm.specs.declared.draft.Draft.{Draft}
use Rattle.pg_perm.specs.Drafts.{IsWellFormed}
use Rattle.pg_shape.specs.Shaped.{IsShaped}
use Rattle.pg_atomic.specs.States.{State, state_of, initial_state}
use Rattle.pg_atomic.specs.Steps.{needs_transaction, IsAllowed, AreAllowed, after_step, after_steps, IsReached}
use Rattle.pg_atomic.specs.Safety.{HasItsRows}
use Rattle.pg_atomic.proofs.Reached.{runs_safely}

after_more : (d : Draft) (a : State) (steps : List Step) (x : Step) → after_steps d a (steps ++ x ∷ []) ≡ after_step d (after_steps d a steps) x
after_more d a [] x = refl
after_more d a (y ∷ steps) x = after_more d (after_step d a y) steps x

allowed_more : (d : Draft) (a : State) (steps : List Step) (x : Step) → AreAllowed d a steps → IsAllowed d (after_steps d a steps) x
    → AreAllowed d a (steps ++ x ∷ [])
allowed_more d a [] x before here = (here, tt)
allowed_more d a (y ∷ steps) x before here = (before.0, allowed_more d (after_step d a y) steps x before.1 here)

-- a step that may be taken where a run leads makes a longer run
pub reached_more : (d : Draft) (n : ℕ) (a : State) (x : Step) → IsReached d n a → IsAllowed d a x → IsReached d n (after_step d a x)
reached_more d n a x (steps, run, leads) here = (
  steps ++ x ∷ [],
  allowed_more d (initial_state d n) steps x run (subst (λ b. IsAllowed d b x) leads here),
  ap (λ b. after_step d b x) leads ∙ sym (after_more d (initial_state d n) steps x),
)

pub reached_has_rows : (d : Draft) (a : State) (c : ℕ) (e : Event) → IsWellFormed d → IsShaped d → IsReached d (length a.states) a → c < length a.states
    → needs_transaction d (state_of a c) e ≡ true → HasItsRows d a (record { core = c; event = e })
reached_has_rows d a c e whole shaped reached inside need = (runs_safely d (length a.states) a whole shaped reached).rows (record { core = c; event = e }) inside need

pub owner_inside : (d : Draft) (a : State) → IsWellFormed d → IsShaped d → IsReached d (length a.states) a → (o : ℕ) → a.entry.owner ≡ Some o → o < length a.states
owner_inside d a whole shaped reached o e = ((runs_safely d (length a.states) a whole shaped reached).safe.entry.owner o e).0

pub sharers_inside : (d : Draft) (a : State) → IsWellFormed d → IsShaped d → IsReached d (length a.states) a → list_all (λ c. nat_lt c (length a.states)) a.entry.sharers ≡ true
sharers_inside d a whole shaped reached = (runs_safely d (length a.states) a whole shaped reached).safe.entry.inside
