-- What is said of each of finitely many, as a product that computes.
use Rattle.std.proofs.Common.{◌≡◌, ℕ, zero, suc, ◌<◌, arith, Bool, true, false, ◌||◌, List, [], ◌∷◌, Option, Some, None, refl, sym, subst, ◌⊎◌, inl, inr}
use Rattle.std.specs.Prelude.{◌==◌, is_some}
use Rattle.std.proofs.lemmas.Bool.{eqb-true}
use Rattle.pg_directory.specs.DirEntries.{is_among}

-- of each number below n
abbrev pub Each : (ℕ → Type 0) → ℕ → Type 0
Each P zero = Unit {0}
Each P (suc n) = Each P n × P n

pub each : (P : ℕ → Type 0) (n : ℕ) → Each P n → (j : ℕ) → j < n → P j
each P zero h j low = absurd (omega (arith, low))
each P (suc n) h j low = elim (last_or n low) [ inl less ↦ each P n h.0 j less | inr same ↦ subst P (sym same) h.1 ]
  where
    last_or : (n : ℕ) → j < suc n → (j < n) ⊎ (j ≡ n)
    last_or n low = search arith

-- of each core in a list
abbrev pub EachOf : (ℕ → Type 0) → List ℕ → Type 0
EachOf P [] = Unit {0}
EachOf P (x ∷ xs) = P x × EachOf P xs

pub each_of : (P : ℕ → Type 0) (xs : List ℕ) → EachOf P xs → (c : ℕ) → is_among xs c ≡ true → P c
each_of P [] h c among = cc
each_of P (x ∷ xs) h c among = at (x == c) refl among (each_of P xs h.1 c)
  where
    at : (b : Bool) → (x == c) ≡ b → (b || is_among xs c) ≡ true → (is_among xs c ≡ true → P c) → P c
    at true same a rest = subst P (eqb-true x c same) h.0
    at false other a rest = rest a

-- where something is so
abbrev pub When : Bool → Type 0 → Type 0
When true P = P
When false P = Unit {0}

pub when : (b : Bool) (P : Type 0) → When b P → b ≡ true → P
when true P h is = h
when false P h is = cc

-- of what there is
abbrev pub WhereSome : (ℕ → Type 0) → Option ℕ → Type 0
WhereSome P None = Unit {0}
WhereSome P (Some x) = P x

pub where_some : (P : ℕ → Type 0) (o : Option ℕ) → WhereSome P o → (x : ℕ) → o ≡ Some x → P x
where_some P None h x is = cc
where_some P (Some y) h x is = subst P (let e : y ≡ x = cc in e) h

-- of the entry with a stamp, if it isn't 0
abbrev pub AtStamp : (ℕ → Type 0) → ℕ → Type 0
AtStamp P zero = Unit {0}
AtStamp P (suc j) = P j

pub at_stamp : (P : ℕ → Type 0) (k : ℕ) → AtStamp P k → (j : ℕ) → k ≡ suc j → P j
at_stamp P zero h j is = cc
at_stamp P (suc i) h j is = subst P (let e : i ≡ j = omega (arith, is) in e) h

-- some number below n passes a test
abbrev pub any_below : (ℕ → Bool) → ℕ → Bool
any_below f zero = false
any_below f (suc n) = f n || any_below f n

pub found : (f : ℕ → Bool) (n : ℕ) → any_below f n ≡ true → (x : ℕ) × (f x ≡ true)
found f zero h = cc
found f (suc n) h = at (f n) refl h (found f n)
  where
    at : (b : Bool) → f n ≡ b → (b || any_below f n) ≡ true → (any_below f n ≡ true → (x : ℕ) × (f x ≡ true)) → (x : ℕ) × (f x ≡ true)
    at true is a rest = (n, is)
    at false other a rest = rest a

pub is_there : {A : Type 0} (o : Option A) → is_some o ≡ true → (x : A) × (o ≡ Some x)
is_there None h = cc
is_there (Some x) h = (x, refl)
