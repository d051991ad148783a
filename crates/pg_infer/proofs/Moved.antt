-- What an earlier forward and a later one do to an outstanding operation.
use Rattle.std.proofs.Common.{◌≡◌, ℕ, Bool, true, false, [], ◌∷◌, Some, refl}
use Rattle.std.specs.Prelude.{◌||◌, IfSome, if◌then◌else◌}
use Rattle.pg_perm.specs.declared.kinds.Event.{Event}
use Rattle.pg_perm.specs.declared.kinds.Side.TheVariants.{After}
use Rattle.pg_perm.specs.declared.kinds.Mode.TheVariants as mode
use Rattle.pg_perm.specs.declared.kinds.FwdClass.TheVariants.{Inv}
use Rattle.pg_perm.specs.declared.draft.Draft.{Draft}
use Rattle.pg_terms.specs.Terms.{has_class, cache_is, is_owner}
use Rattle.pg_table.specs.declared.cache.Desc.{Desc}
use Rattle.pg_table.specs.declared.cache.Desc.TheVariants.{Stable, Ask, Leave}
use Rattle.pg_table.specs.declared.cache.Phase.{Phase}
use Rattle.pg_table.specs.declared.cache.Phase.TheVariants.{Ad, Ac}
use Rattle.pg_table.specs.declared.cache.Tag.{Tag}
use Rattle.pg_table.specs.declared.cache.Tag.TheVariants as tag
use Rattle.pg_table.specs.declared.cache.Act.TheVariants as act
use Rattle.pg_table.specs.Choices.{is_later, tag_by}
use Rattle.pg_table.specs.GeneratedStates.{choice_of_mode}
use Rattle.pg_infer.specs.Moves.{desc_moved_to}
use Rattle.pg_infer.specs.Race.{start_of, event_of, is_granted, is_counting, is_tagged, choices_by_side}

pub moved_start : (d : Draft) (s : Desc) (t : ℕ) → start_of (desc_moved_to d s t) ≡ t
moved_start d (Stable s) t = refl
moved_start d (Ask event s phase g) t = refl
moved_start d (Leave s) t = refl

first_phase : (owner : Bool) → (is_counting (if owner then Ac else Ad) || is_tagged tag.Plain) ≡ false
first_phase true = refl
first_phase false = refl

pub moved_is_not_granted : (d : Draft) (s : Desc) (t : ℕ) → is_granted (desc_moved_to d s t) ≡ false
moved_is_not_granted d (Stable s) t = refl
moved_is_not_granted d (Ask event s phase g) t = first_phase (cache_is (λ c. is_owner c.role) d t)
moved_is_not_granted d (Leave s) t = refl

pub later_stalls : (d : Draft) (s : ℕ) (event : Event) (phase : Phase) (g : Tag) (f : ℕ)
    → IfSome (choice_of_mode mode.Stall (choices_by_side d After (Ask event s phase g) f)) (λ c. (c.acts ≡ act.Stall ∷ []) × (c.next ≡ Ask event s phase g))
later_stalls d s event phase g f = at (is_later d s event g f)
  where
    at : (later : Bool) → IfSome (choice_of_mode mode.Stall (if later
        then record { acts = act.Stall ∷ []; next = Ask event s phase g }
        ∷ record { acts = (if has_class Inv d f then act.Ack else act.Defer) ∷ []; next = Ask event s phase (tag_by d f) } ∷ []
        else [])) (λ c. (c.acts ≡ act.Stall ∷ []) × (c.next ≡ Ask event s phase g))
    at true = (refl, refl)
    at false = tt

pub later_is_taken : (d : Draft) (s : ℕ) (event : Event) (phase : Phase) (g : Tag) (f : ℕ)
    → IfSome (choice_of_mode mode.Defer (choices_by_side d After (Ask event s phase g) f))
    (λ c. (c.acts ≡ (if has_class Inv d f then act.Ack else act.Defer) ∷ []) × (start_of c.next ≡ s) × (event_of c.next ≡ Some event))
later_is_taken d s event phase g f = at (is_later d s event g f)
  where
    at : (later : Bool) → IfSome (choice_of_mode mode.Defer (if later
        then record { acts = act.Stall ∷ []; next = Ask event s phase g }
        ∷ record { acts = (if has_class Inv d f then act.Ack else act.Defer) ∷ []; next = Ask event s phase (tag_by d f) } ∷ []
        else [])) (λ c. (c.acts ≡ (if has_class Inv d f then act.Ack else act.Defer) ∷ []) × (start_of c.next ≡ s) × (event_of c.next ≡ Some event))
    at true = (refl, refl, refl)
    at false = tt
