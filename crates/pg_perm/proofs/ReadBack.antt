-- A word is read back as its value, where no two values have one word.
use Rattle.std.proofs.Common.{◌≡◌, ℕ, zero, suc, Bool, true, false, List, [], ◌∷◌, Some, slice_get, refl, sym, subst, ◌∙◌}
use Rattle.std.specs.Prelude.{not, ◌||◌, bytes_eq}
use Rattle.std.specs.List.{list_any}
use Rattle.std.proofs.lemmas.Bool.{and_parts}
use Rattle.std.proofs.lemmas.Option.{same_Some}
use Rattle.std.proofs.lemmas.Slice.Eq.{bytes_eq-Decides}
use Rattle.pg_perm.specs.Vocabularies.{find_word, are_apart}

itself : (w : List ℕ) → bytes_eq w w ≡ true
itself w = (bytes_eq-Decides w w).1 refl

neither : (a b : Bool) → not (a || b) ≡ true → (a ≡ false) × (not b ≡ true)
neither false false h = (refl, refl)
neither _ _ h = absurd cc

fails_alone : {V : Type 0} (p : V → Bool) (vs : List V) (n : ℕ) (v : V) → not (list_any p vs) ≡ true → slice_get vs n ≡ Some v → p v ≡ false
fails_alone p [] n v h at = absurd cc
fails_alone p (x ∷ vs) zero v h at = subst (λ y. p y ≡ false) (same_Some x v at) (neither (p x) (list_any p vs) h).0
fails_alone p (x ∷ vs) (suc n) v h at = fails_alone p vs n v (neither (p x) (list_any p vs) h).1 at

module _ {V : Type 0} (word : V → List ℕ) where
  -- what is found among more values than one
  found_next : (x : V) (vs : List V) (w : List ℕ) → bytes_eq w (word x) ≡ false → find_word word (x ∷ vs) w ≡ find_word word vs w
  found_next x vs w e = rw e refl

  found_here : (x : V) (vs : List V) (w : List ℕ) → bytes_eq w (word x) ≡ true → find_word word (x ∷ vs) w ≡ Some x
  found_here x vs w e = rw e refl

  word_at : (vs : List V) (v : V) (n : ℕ) → are_apart word vs ≡ true → slice_get vs n ≡ Some v → find_word word vs (word v) ≡ Some v
  word_at [] v n h at = absurd cc
  word_at (x ∷ vs) v zero h at = subst (λ y. find_word word (x ∷ vs) (word y) ≡ Some y) (same_Some x v at) (found_here x vs (word x) (itself (word x)))
  word_at (x ∷ vs) v (suc n) h at =
      let (alone, later) = and_parts (not (list_any (λ u. bytes_eq (word u) (word x)) vs)) (are_apart word vs) h in
      rw (found_next x vs (word v) (fails_alone (λ u. bytes_eq (word u) (word x)) vs n v alone at)) (word_at vs v n later at)

  found_at : (x v : V) (vs : List V) (w : List ℕ) (b : Bool) → bytes_eq w (word x) ≡ b → (find_word word vs w ≡ Some v → w ≡ word v)
      → find_word word (x ∷ vs) w ≡ Some v → w ≡ word v
  found_at x v vs w true e later h = subst (λ y. w ≡ word y) (same_Some x v (sym (found_here x vs w e) ∙ h)) ((bytes_eq-Decides w (word x)).0 e)
  found_at x v vs w false e later h = later (sym (found_next x vs w e) ∙ h)

  -- a word that is read as a value is the word of that value
  pub word_found : (vs : List V) (w : List ℕ) (v : V) → find_word word vs w ≡ Some v → w ≡ word v
  word_found [] w v h = absurd cc
  word_found (x ∷ vs) w v h = found_at x v vs w (bytes_eq w (word x)) refl (word_found vs w v) h

  -- the word of a value that is listed is read as that value
  pub word_again : (vs : List V) → are_apart word vs ≡ true → (v : V) → (n : ℕ) × (slice_get vs n ≡ Some v) → find_word word vs (word v) ≡ Some v
  word_again vs apart v (n, at) = word_at vs v n apart at
