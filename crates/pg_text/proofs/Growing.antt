-- What a list keeps when an element is put after its others.
use Rattle.std.proofs.Common.{◌≡◌, ℕ, ◌+◌, Bool, true, false, List, [], ◌∷◌, ◌++◌, length, map, refl, sym, ap, ◌∙◌, arith, length-append, append_assoc, append-nil}
use Rattle.std.specs.Prelude.{not, ◌||◌, nat_lt, nat_le}
use Rattle.std.proofs.Math.Bool.{or-false}
use Rattle.std.specs.Str.{bytes_eq}
use Rattle.std.specs.List.{list_all, list_any}
use Rattle.std.proofs.lemmas.Bool.{and_from, or_parts, lt-ltb, ltb-true}
use Rattle.std.proofs.lemmas.Cmp.{nat_list_eq_equiv}
use Rattle.std.proofs.lemmas.List.{map-append}
use Rattle.std.proofs.lemmas.List.Folds.{list_all-append, list_any-append}
use Rattle.pg_perm.proofs.Booleans.{and_true}
use Rattle.pg_perm.specs.Drafts.{are_distinct, is_ordered, is_rising}
use Rattle.pg_lines.proofs.Weaker.{all_weaker}

-- one element is the length of one
pub one_more : {A : Type 0} (xs : List A) (x : A) → length (xs ++ x ∷ []) ≡ length xs + 1
one_more xs x = length-append xs (x ∷ [])

-- where all pass a test and the new one does, all pass it
pub all_append : {A : Type 0} (p : A → Bool) (xs : List A) (x : A) → list_all p xs ≡ true → p x ≡ true → list_all p (xs ++ x ∷ []) ≡ true
all_append p xs x h g = list_all-append p xs (x ∷ []) ∙ and_from (list_all p xs) _ h (and_from (p x) true g refl)

-- none fails a test
pub all_of_none : {A : Type 0} (p : A → Bool) (xs : List A) → xs ≡ [] → list_all p xs ≡ true
all_of_none p xs e = ap (list_all p) e

-- distinct names stay distinct with a new one after them
pub distinct_append : (ns : List (List ℕ)) (w : List ℕ) → are_distinct ns ≡ true → list_any (bytes_eq w) ns ≡ false → are_distinct (ns ++ w ∷ []) ≡ true
distinct_append [] w h g = refl
distinct_append (n ∷ ns) w h g =
    let t = and_true (not (list_any (bytes_eq n) ns)) (are_distinct ns) h in
    let s = or_parts (bytes_eq w n) (list_any (bytes_eq w) ns) g in
    let apart : bytes_eq n w ≡ false = nat_list_eq_equiv.symm n w ∙ s.0 in
    let new : list_any (bytes_eq n) (ns ++ w ∷ []) ≡ list_any (bytes_eq n) ns =
    list_any-append (bytes_eq n) ns (w ∷ []) ∙ ap (λ b. list_any (bytes_eq n) ns || (b || false)) apart ∙ or-false (list_any (bytes_eq n) ns) in
    and_from _ _ (ap not new ∙ t.0) (distinct_append ns w t.1 s.1)

-- numbers in order, none above c, stay in order with c after them
pub ordered_append : (ns : List ℕ) (c : ℕ) → is_ordered ns ≡ true → list_all (λ n. nat_le n c) ns ≡ true → is_ordered (ns ++ c ∷ []) ≡ true
ordered_append [] c h g = refl
ordered_append (n ∷ []) c h g = and_from (nat_le n c) true (and_true (nat_le n c) true g).0 refl
ordered_append (n ∷ m ∷ ns) c h g =
    let t = and_true (nat_le n m) (is_ordered (m ∷ ns)) h in
    and_from (nat_le n m) _ t.0 (ordered_append (m ∷ ns) c t.1 (and_true (nat_le n c) _ g).1)

-- rising numbers below c rise on with c after them
pub rising_append : (ns : List ℕ) (c : ℕ) → is_rising ns ≡ true → list_all (λ n. nat_lt n c) ns ≡ true → is_rising (ns ++ c ∷ []) ≡ true
rising_append [] c h g = refl
rising_append (n ∷ []) c h g = and_from (nat_lt n c) true (and_true (nat_lt n c) true g).0 refl
rising_append (n ∷ m ∷ ns) c h g =
    let t = and_true (nat_lt n m) (is_rising (m ∷ ns)) h in
    and_from (nat_lt n m) _ t.0 (rising_append (m ∷ ns) c t.1 (and_true (nat_lt n c) _ g).1)

-- numbers below n are below the number after it, and so is n
pub below_append : (ns : List ℕ) (n : ℕ) → list_all (λ m. nat_lt m n) ns ≡ true → list_all (λ m. nat_lt m (n + 1)) (ns ++ n ∷ []) ≡ true
below_append ns n h =
    all_append (λ m. nat_lt m (n + 1)) ns n (all_weaker (λ m. nat_lt m n) (λ m. nat_lt m (n + 1)) ns (λ m g. lt-ltb m (n + 1) (omega (arith, ltb-true m n g))) h)
    (lt-ltb n (n + 1) (omega arith))

-- lists of nothing make a list of nothing
pub none_both : {A : Type 0} (xs ys : List A) → xs ≡ [] → ys ≡ [] → xs ++ ys ≡ []
none_both xs ys e f = (λ i. e i ++ f i)

-- nothing has no images
pub map_none : {A B : Type 0} (f : A → B) (xs : List A) → xs ≡ [] → map f xs ≡ []
map_none f xs e = ap (map f) e

-- what is put after a list is put after all where nothing follows it
pub last_of : {A : Type 0} (xs more ys : List A) (x : A) → more ≡ xs ++ x ∷ [] → ys ≡ [] → more ++ ys ≡ (xs ++ ys) ++ x ∷ []
last_of {A} xs more ys x e f =
    (λ i. e i ++ f i) ∙ append-nil (xs ++ x ∷ []) ∙ ap (λ (zs : List A). zs ++ x ∷ []) (sym ((λ i. xs ++ f i) ∙ append-nil xs))

-- what is put after a part that stands last is put after all
pub append_after_front : {A : Type 0} (front xs more : List A) (x : A) → more ≡ xs ++ x ∷ [] → front ++ more ≡ (front ++ xs) ++ x ∷ []
append_after_front {A} front xs more x e = ap (λ (zs : List A). front ++ zs) e ∙ sym (append_assoc front xs (x ∷ []))

-- the images of a list with an element after it
pub map_append : {A B : Type 0} (f : A → B) (xs : List A) (x : A) (y : B) → f x ≡ y → map f (xs ++ x ∷ []) ≡ map f xs ++ y ∷ []
map_append {A} {B} f xs x y e = map-append f xs (x ∷ []) ∙ ap (λ (z : B). map f xs ++ z ∷ []) e

-- what all images pass, and the image of a new element
pub all_images_append : {A B : Type 0} (p : B → Bool) (f : A → B) (xs : List A) (x : A) → list_all p (map f xs) ≡ true → p (f x) ≡ true
    → list_all p (map f (xs ++ x ∷ [])) ≡ true
all_images_append p f xs x h g = ap (list_all p) (map_append f xs x (f x) refl) ∙ all_append p (map f xs) (f x) h g
