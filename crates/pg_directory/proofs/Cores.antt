-- Lists of cores: one more, one less, and who is among them.
use Rattle.std.proofs.Common.{◌≡◌, ◌≢◌, ℕ, ◌<◌, Bool, true, false, ◌||◌, List, [], ◌∷◌, Option, Some, None, refl, sym, ap, arith}
use Rattle.std.specs.Prelude.{nat_lt, ◌==◌, if◌then◌else◌}
use Rattle.std.specs.List.{list_all}
use Rattle.std.proofs.lemmas.Bool.{and_from, eqb-true, eqb-false, eq-eqb, lt-ltb, ltb-true, ltb-false, and_parts}
use Rattle.pg_perm.specs.Drafts.{is_rising}
use Rattle.pg_terms.specs.Terms.{is}
use Rattle.pg_directory.specs.DirEntries.{is_among, with_core, without_core, with_owner}

-- all cores are below n
abbrev pub are_below : ℕ → List ℕ → Bool
are_below n cores = list_all (λ c. nat_lt c n) cores

pub same_core : (c : ℕ) → (c == c) ≡ true
same_core c = eq-eqb c c refl

pub other_way : (a b : ℕ) → (a == b) ≡ false → (b == a) ≡ false
other_way a b h = at (b == a) refl
  where
    at : (t : Bool) → (b == a) ≡ t → (b == a) ≡ false
    at true e = absurd (eqb-false a b h (sym (eqb-true b a e)))
    at false e = e

or_true : (t : Bool) → (t || true) ≡ true
or_true true = refl
or_true false = refl

-- Who is among them

pub among_with_same : (c : ℕ) (xs : List ℕ) → is_among (with_core c xs) c ≡ true
among_with_same c [] = rw (same_core c) refl
among_with_same c (x ∷ xs) = at (nat_lt c x) refl (c == x) refl (among_with_same c xs)
  where
    at : (a : Bool) → nat_lt c x ≡ a → (b : Bool) → (c == x) ≡ b → is_among (with_core c xs) c ≡ true
        → is_among (if a then c ∷ x ∷ xs else if b then x ∷ xs else x ∷ with_core c xs) c ≡ true
    at true e b g below = rw (same_core c) refl
    at false e true g below = let same : x ≡ c = sym (eqb-true c x g) in rw same (rw (same_core c) refl)
    at false e false g below = rw below (or_true (x == c))

pub among_with_other : (c e : ℕ) (xs : List ℕ) → (c == e) ≡ false → is_among (with_core c xs) e ≡ is_among xs e
among_with_other c e [] ne = rw ne refl
among_with_other c e (x ∷ xs) ne = at (nat_lt c x) (c == x) (among_with_other c e xs ne)
  where
    at : (a b : Bool) → is_among (with_core c xs) e ≡ is_among xs e
        → is_among (if a then c ∷ x ∷ xs else if b then x ∷ xs else x ∷ with_core c xs) e ≡ is_among (x ∷ xs) e
    at true b below = rw ne refl
    at false true below = refl
    at false false below = ap (λ t. (x == e) || t) below

pub among_without_same : (c : ℕ) (xs : List ℕ) → is_among (without_core c xs) c ≡ false
among_without_same c [] = refl
among_without_same c (x ∷ xs) = at (x == c) refl (among_without_same c xs)
  where
    at : (b : Bool) → (x == c) ≡ b → is_among (without_core c xs) c ≡ false → is_among (if b then without_core c xs else x ∷ without_core c xs) c ≡ false
    at true e below = below
    at false e below = rw e below

pub among_without_other : (c e : ℕ) (xs : List ℕ) → (c == e) ≡ false → is_among (without_core c xs) e ≡ is_among xs e
among_without_other c e [] ne = refl
among_without_other c e (x ∷ xs) ne = at (x == c) refl (among_without_other c e xs ne)
  where
    at : (b : Bool) → (x == c) ≡ b → is_among (without_core c xs) e ≡ is_among xs e
        → is_among (if b then without_core c xs else x ∷ without_core c xs) e ≡ is_among (x ∷ xs) e
    at true g below = let same : x ≡ c = eqb-true x c g in rw same (rw ne below)
    at false g below = ap (λ t. (x == e) || t) below

-- without one that isn't among them they are the same
pub without_absent : (c : ℕ) (xs : List ℕ) → is_among xs c ≡ false → without_core c xs ≡ xs
without_absent c [] h = refl
without_absent c (x ∷ xs) h = at (x == c) h (without_absent c xs)
  where
    at : (b : Bool) → (b || is_among xs c) ≡ false → (is_among xs c ≡ false → without_core c xs ≡ xs) → (if b then without_core c xs else x ∷ without_core c xs) ≡ x ∷ xs
    at true g below = absurd cc
    at false g below = ap (λ ys. x ∷ ys) (below g)

pub among_owner_other : (o : Option ℕ) (c : ℕ) (xs : List ℕ) → is o c ≡ false → is_among (with_owner o xs) c ≡ is_among xs c
among_owner_other None c xs out = refl
among_owner_other (Some o) c xs out = among_with_other o c xs out

pub among_owner_same : (o : ℕ) (xs : List ℕ) → is_among (with_owner (Some o) xs) o ≡ true
among_owner_same o xs = among_with_same o xs

-- where one is among them there are some
pub among_some : (c : ℕ) (xs : List ℕ) → is_among xs c ≡ true → xs ≢ []
among_some c xs h e = let none : is_among xs c ≡ false = rw e refl in cc

pub with_some : (c : ℕ) (xs : List ℕ) → with_core c xs ≢ []
with_some c xs = among_some c (with_core c xs) (among_with_same c xs)

-- All of them below n

pub below_with : (n c : ℕ) (xs : List ℕ) → c < n → are_below n xs ≡ true → are_below n (with_core c xs) ≡ true
below_with n c [] low h = and_from (nat_lt c n) true (lt-ltb c n low) refl
below_with n c (x ∷ xs) low h =
    let t = and_parts (nat_lt x n) (are_below n xs) h in
    at (nat_lt c x) (c == x) t.0 (below_with n c xs low t.1)
  where
    at : (a b : Bool) → nat_lt x n ≡ true → are_below n (with_core c xs) ≡ true
        → are_below n (if a then c ∷ x ∷ xs else if b then x ∷ xs else x ∷ with_core c xs) ≡ true
    at true b first rest = and_from (nat_lt c n) (are_below n (x ∷ xs)) (lt-ltb c n low) h
    at false true first rest = h
    at false false first rest = and_from (nat_lt x n) (are_below n (with_core c xs)) first rest

pub below_without : (n c : ℕ) (xs : List ℕ) → are_below n xs ≡ true → are_below n (without_core c xs) ≡ true
below_without n c [] h = refl
below_without n c (x ∷ xs) h =
    let t = and_parts (nat_lt x n) (are_below n xs) h in
    at (x == c) t.0 (below_without n c xs t.1)
  where
    at : (b : Bool) → nat_lt x n ≡ true → are_below n (without_core c xs) ≡ true → are_below n (if b then without_core c xs else x ∷ without_core c xs) ≡ true
    at true first rest = rest
    at false first rest = and_from (nat_lt x n) (are_below n (without_core c xs)) first rest

pub below_owner : (n : ℕ) (o : Option ℕ) (xs : List ℕ) → ((c : ℕ) → o ≡ Some c → c < n) → are_below n xs ≡ true → are_below n (with_owner o xs) ≡ true
below_owner n None xs low h = h
below_owner n (Some o) xs low h = below_with n o xs (low o refl) h

-- one that is among them is below n
pub among_below : (n c : ℕ) (xs : List ℕ) → are_below n xs ≡ true → is_among xs c ≡ true → c < n
among_below n c [] h among = absurd cc
among_below n c (x ∷ xs) h among =
    let t = and_parts (nat_lt x n) (are_below n xs) h in
    at (x == c) refl among (ltb-true x n t.0) (among_below n c xs t.1)
  where
    at : (b : Bool) → (x == c) ≡ b → (b || is_among xs c) ≡ true → x < n → (is_among xs c ≡ true → c < n) → c < n
    at true e h low below = omega (arith, eqb-true x c e)
    at false e h low below = below h

-- They rise

rising_with_after : (m c : ℕ) (xs : List ℕ) → m < c → is_rising (m ∷ xs) ≡ true → is_rising (m ∷ with_core c xs) ≡ true
rising_with_after m c [] low h = and_from (nat_lt m c) true (lt-ltb m c low) refl
rising_with_after m c (x ∷ xs) low h =
    let t = and_parts (nat_lt m x) (is_rising (x ∷ xs)) h in
    at (nat_lt c x) refl (c == x) refl t.0 t.1 (λ below. rising_with_after x c xs below t.1)
  where
    at : (a : Bool) → nat_lt c x ≡ a → (b : Bool) → (c == x) ≡ b → nat_lt m x ≡ true → is_rising (x ∷ xs) ≡ true → (x < c → is_rising (x ∷ with_core c xs) ≡ true)
        → is_rising (m ∷ (if a then c ∷ x ∷ xs else if b then x ∷ xs else x ∷ with_core c xs)) ≡ true
    at true e b g first rest more = and_from (nat_lt m c) (is_rising (c ∷ x ∷ xs)) (lt-ltb m c low) (and_from (nat_lt c x) (is_rising (x ∷ xs)) e rest)
    at false e true g first rest more = h
    at false e false g first rest more =
        let apart : c ≢ x = eqb-false c x g in
        and_from (nat_lt m x) (is_rising (x ∷ with_core c xs)) first (more (omega (arith, ltb-false c x e, apart)))

pub rising_with : (c : ℕ) (xs : List ℕ) → is_rising xs ≡ true → is_rising (with_core c xs) ≡ true
rising_with c [] h = refl
rising_with c (x ∷ xs) h = at (nat_lt c x) refl (c == x) refl
  where
    at : (a : Bool) → nat_lt c x ≡ a → (b : Bool) → (c == x) ≡ b → is_rising (if a then c ∷ x ∷ xs else if b then x ∷ xs else x ∷ with_core c xs) ≡ true
    at true e b g = and_from (nat_lt c x) (is_rising (x ∷ xs)) e h
    at false e true g = h
    at false e false g =
        let apart : c ≢ x = eqb-false c x g in
        rising_with_after x c xs (omega (arith, ltb-false c x e, apart)) h

rising_skip : (m x : ℕ) (xs : List ℕ) → is_rising (m ∷ x ∷ xs) ≡ true → is_rising (m ∷ xs) ≡ true
rising_skip m x [] h = refl
rising_skip m x (y ∷ ys) h =
    let t = and_parts (nat_lt m x) (is_rising (x ∷ y ∷ ys)) h in
    let u = and_parts (nat_lt x y) (is_rising (y ∷ ys)) t.1 in
    and_from (nat_lt m y) (is_rising (y ∷ ys)) (lt-ltb m y (omega (arith, ltb-true m x t.0, ltb-true x y u.0))) u.1

rising_without_after : (m c : ℕ) (xs : List ℕ) → is_rising (m ∷ xs) ≡ true → is_rising (m ∷ without_core c xs) ≡ true
rising_without_after m c [] h = refl
rising_without_after m c (x ∷ xs) h =
    let t = and_parts (nat_lt m x) (is_rising (x ∷ xs)) h in
    at (x == c) t.0 (rising_without_after m c xs (rising_skip m x xs h)) (rising_without_after x c xs t.1)
  where
    at : (b : Bool) → nat_lt m x ≡ true → is_rising (m ∷ without_core c xs) ≡ true → is_rising (x ∷ without_core c xs) ≡ true
        → is_rising (m ∷ (if b then without_core c xs else x ∷ without_core c xs)) ≡ true
    at true first skipped rest = skipped
    at false first skipped rest = and_from (nat_lt m x) (is_rising (x ∷ without_core c xs)) first rest

pub rising_without_first : (m : ℕ) (xs : List ℕ) → is_rising (m ∷ xs) ≡ true → is_rising xs ≡ true
rising_without_first m [] h = refl
rising_without_first m (x ∷ xs) h = (and_parts (nat_lt m x) (is_rising (x ∷ xs)) h).1

pub rising_without : (c : ℕ) (xs : List ℕ) → is_rising xs ≡ true → is_rising (without_core c xs) ≡ true
rising_without c [] h = refl
rising_without c (x ∷ xs) h = at (x == c) (rising_without_after x c xs h)
  where
    at : (b : Bool) → is_rising (x ∷ without_core c xs) ≡ true → is_rising (if b then without_core c xs else x ∷ without_core c xs) ≡ true
    at true rest = rising_without_first x (without_core c xs) rest
    at false rest = rest

pub rising_owner : (o : Option ℕ) (xs : List ℕ) → is_rising xs ≡ true → is_rising (with_owner o xs) ≡ true
rising_owner None xs h = h
rising_owner (Some o) xs h = rising_with o xs h
