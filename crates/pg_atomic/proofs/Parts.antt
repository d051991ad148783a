-- A run in parts, and the word that stores leave.
use Rattle.std.proofs.Common.{◌≡◌, ℕ, List, [], ◌∷◌, ◌++◌, Some, None, refl, ◌∙◌}
use Rattle.std.specs.Prelude.{unwrap_or}
use Rattle.std.specs.List.{last_or}
use Rattle.pg_perm.specs.declared.step.Step.{Step}
use Rattle.pg_perm.specs.declared.step.Step.TheVariants.{Txn, Stale, Load, Store}
use Rattle.pg_perm.specs.declared.draft.Draft.{Draft}
use Rattle.pg_atomic.specs.States.{State, initial_state}
use Rattle.pg_atomic.specs.Steps.{after_step, after_steps, AreAllowed, IsRun}
use Rattle.pg_atomic.specs.Stores.{words_stored, last_word_stored}

-- steps that may be taken may be taken up to a place, and then from there
pub parts_allowed : (d : Draft) (a : State) (xs ys : List Step) → AreAllowed d a (xs ++ ys) → AreAllowed d a xs × AreAllowed d (after_steps d a xs) ys
parts_allowed d a [] ys h = (tt, h)
parts_allowed d a (x ∷ xs) ys h = let p = parts_allowed d (after_step d a x) xs ys h.1 in ((h.0, p.0), p.1)

-- the word after steps is the last that is stored, or else what it was
word_after : (d : Draft) (a : State) (xs : List Step) → (after_steps d a xs).word ≡ unwrap_or (last_or (Some a.word) (words_stored xs)) 0
word_after d a [] = refl
word_after d a (Txn c e ∷ xs) = word_after d (after_step d a (Txn c e)) xs
word_after d a (Stale c ∷ xs) = word_after d a xs
word_after d a (Load c v ∷ xs) = word_after d a xs
word_after d a (Store c v ∷ xs) = word_after d (after_step d a (Store c v)) xs

zero_or_none : (words : List ℕ) → unwrap_or (last_or (Some 0) words) 0 ≡ unwrap_or (last_or None words) 0
zero_or_none [] = refl
zero_or_none (w ∷ words) = refl

-- each load of a run gives the last word that was stored before it
pub load_gives_last_store : (d : Draft) (n : ℕ) (before after : List Step) (c v : ℕ) → IsRun d n (before ++ Load c v ∷ after) → v ≡ last_word_stored before
load_gives_last_store d n before after c v run =
    let here = (parts_allowed d (initial_state d n) before (Load c v ∷ after) run).1.0 in
    here.2 ∙ word_after d (initial_state d n) before ∙ zero_or_none (words_stored before)
