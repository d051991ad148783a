-- The first elements of a list.
use Rattle.std.proofs.Common.{◌≡◌, List, [], ◌∷◌, ap, sym, ◌∙◌, Some, None, refl}
use Rattle.std.proofs.lemmas.Option.{same_Some}
use Rattle.pg_lines.specs.Lines.{first_rest}

-- a list with a first element is that element and the rest
pub first_rest_is : {A : Type 0} (xs : List A) (x : A) (rest : List A) → Some (x, rest) ≡ first_rest xs → xs ≡ x ∷ rest
first_rest_is [] x rest h = cc
first_rest_is {A} (y ∷ ys) x rest h = ap (λ (p : A × List A). p.0 ∷ p.1) (sym (same_Some (x, rest) (y, ys) h))

-- a list without a first element is empty
pub no_first : {A : Type 0} (xs : List A) → None ≡ first_rest xs → xs ≡ []
no_first [] h = refl
no_first (x ∷ xs) h = cc

-- two elements, and none after them
pub two_firsts : {A : Type 0} (xs rest more : List A) (x y : A) → Some (x, rest) ≡ first_rest xs → Some (y, more) ≡ first_rest rest → None ≡ first_rest more
    → xs ≡ x ∷ y ∷ []
two_firsts {A} xs rest more x y h g e =
    first_rest_is xs x rest h ∙ ap (λ (zs : List A). x ∷ zs) (first_rest_is rest y more g ∙ ap (λ (zs : List A). y ∷ zs) (no_first more e))
