-- Which of some choices is made.
use Rattle.std.proofs.Common.{◌≡◌, ℕ, Bool, true, List, [], ◌∷◌, Some, refl, sym, subst, ◌∙◌}
use Rattle.std.specs.Prelude.{slice_get}
use Rattle.std.specs.List.{list_all}
use Rattle.std.proofs.lemmas.Option.{same_Some}
use Rattle.pg_perm.specs.declared.kinds.Mode.{Mode}
use Rattle.pg_perm.specs.declared.kinds.Mode.TheVariants as mode
use Rattle.pg_shape.proofs.Searches.{all_at}
use Rattle.pg_table.specs.Choices.{Choice}
use Rattle.pg_table.specs.GeneratedStates.{choice_of_mode}

-- of some choices one is made
pub one_chosen : (m : Mode) (c : Choice) (cs : List Choice) → (k : ℕ) × (e : Choice) × (slice_get (c ∷ cs) k ≡ Some e) × (choice_of_mode m (c ∷ cs) ≡ Some e)
one_chosen mode.Stall c [] = (0, c, refl, refl)
one_chosen mode.Defer c [] = (0, c, refl, refl)
one_chosen mode.Stall c (e ∷ cs) = (0, c, refl, refl)
one_chosen mode.Defer c (e ∷ cs) = (1, e, refl, refl)

-- where all pass, it does
pub chosen_passes : (p : Choice → Bool) (m : Mode) (c : Choice) (cs : List Choice) → list_all p cs ≡ true → choice_of_mode m cs ≡ Some c → p c ≡ true
chosen_passes p m c [] h e = absurd cc
chosen_passes p m c (a ∷ cs) h e =
    let (k, f, get, chose) = one_chosen m a cs in
    subst (λ (c : Choice). p c ≡ true) (same_Some f c (sym chose ∙ e)) (all_at p (a ∷ cs) k f h get)
