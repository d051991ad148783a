-- Texts in which a byte doesn't stand, and where it stands first.
use Rattle.std.proofs.Common.{◌≡◌, ℕ, Bool, true, false, not, List, [], ◌∷◌, ◌++◌, refl, ◌∙◌}
use Rattle.std.specs.Prelude.{◌==◌, bytes_eq}
use Rattle.std.specs.List.{list_all}
use Rattle.std.proofs.lemmas.Bool.{eq-eqb, and_parts, not-true}
use Rattle.std.proofs.lemmas.List.Folds.{list_all-append}
use Rattle.std.proofs.lemmas.Slice.Eq.{bytes_eq-Decides}
use Rattle.pg_shape.proofs.Bools.{and_of_both}
use Rattle.pg_shape.proofs.Searches.{not_both}

-- the byte stands nowhere
abbrev pub lacks : ℕ → List ℕ → Bool
lacks c text = list_all (λ b. not (b == c)) text

pub lacks_both : (c : ℕ) (a b : List ℕ) → lacks c a ≡ true → lacks c b ≡ true → lacks c (a ++ b) ≡ true
lacks_both c a b h g = list_all-append (λ b. not (b == c)) a b ∙ and_of_both (lacks c a) (lacks c b) h g

-- it isn't the first
not_first : (c b : ℕ) (bs : List ℕ) → lacks c (b ∷ bs) ≡ true → b ≡ c → ⊥
not_first c b bs h e = not_both (b == c) (eq-eqb b c e) (not-true (b == c) (and_parts (not (b == c)) (lacks c bs) h).0)

lacks_after_first : (c b : ℕ) (bs : List ℕ) → lacks c (b ∷ bs) ≡ true → lacks c bs ≡ true
lacks_after_first c b bs h = (and_parts (not (b == c)) (lacks c bs) h).1

-- a text in which it doesn't stand is another than one in which it does
pub lacks_apart : (c : ℕ) (a b x : List ℕ) → lacks c a ≡ true → a ≡ b ++ c ∷ x → ⊥
lacks_apart c [] [] x h e = absurd cc
lacks_apart c [] (b ∷ bs) x h e = absurd cc
lacks_apart c (a ∷ rest) [] x h e = not_first c a rest h cc
lacks_apart c (a ∷ rest) (b ∷ bs) x h e = lacks_apart c rest bs x (lacks_after_first c a rest h) cc

-- two texts are the same before it and after it, where it stands first
pub same_around : (c : ℕ) (a b x y : List ℕ) → lacks c a ≡ true → lacks c b ≡ true → a ++ c ∷ x ≡ b ++ c ∷ y → (a ≡ b) × (x ≡ y)
same_around c [] [] x y h g e = (refl, cc)
same_around c [] (b ∷ bs) x y h g e = absurd (not_first c b bs g cc)
same_around c (a ∷ rest) [] x y h g e = absurd (not_first c a rest h cc)
same_around c (a ∷ rest) (b ∷ bs) x y h g e =
    let same = same_around c rest bs x y (lacks_after_first c a rest h) (lacks_after_first c b bs g) cc in
    (cc, same.1)

-- texts that a comparison tells apart are not the same
pub other_text : (a b : List ℕ) → bytes_eq a b ≡ false → a ≡ b → ⊥
other_text a b h e = not_both (bytes_eq a b) ((bytes_eq-Decides a b).1 e) h
