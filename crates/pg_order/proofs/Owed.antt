-- An invalidation that is answered is owed no more.
use Rattle.std.proofs.Common.{◌≡◌, ℕ, suc, ◌<◌, arith, Bool, true, false, ◌||◌, cond, List, [], ◌∷◌, refl, sym, ap, subst}
use Rattle.std.specs.Prelude.{◌==◌, nat_lt}
use Rattle.std.proofs.lemmas.Bool.{eqb-true, lt-ltb, le-ltb, ltb-true}
use Rattle.pg_perm.proofs.Booleans.{and_true}
use Rattle.pg_perm.specs.declared.draft.Draft.{Draft}
use Rattle.pg_perm.specs.Drafts.{is_rising}
use Rattle.pg_directory.specs.DirEntries.{is_among, without_core}
use Rattle.pg_directory.specs.Sound.{IsSound}
use Rattle.pg_directory.proofs.Cores.{rising_without_first, rising_without, other_way}
use Rattle.pg_order.specs.Messages.{tally}
use Rattle.pg_order.specs.Orders.{DirOrder}
use Rattle.pg_order.specs.Views.{View, acks_owed}
use Rattle.pg_order.proofs.Steps.{IsStep, count_same}

pub above : (m y : ℕ) (xs : List ℕ) → is_rising (m ∷ xs) ≡ true → is_among xs y ≡ true → m < y
above m y [] rising among = cc
above m y (x ∷ xs) rising among =
    let (first, rest) = and_true (nat_lt m x) (is_rising (x ∷ xs)) rising in
    at (x == y) refl among (ltb-true m x first) (λ among. above x y xs rest among)
  where
    at : (b : Bool) → (x == y) ≡ b → (b || is_among xs y) ≡ true → m < x → (is_among xs y ≡ true → x < y) → m < y
    at true same among low below = let is = eqb-true x y same in omega (arith, is, low)
    at false ne among low below = let more = below among in omega (arith, low, more)

pub one_less : (a b : ℕ → Bool) (c : ℕ) (xs : List ℕ) → is_rising xs ≡ true → is_among xs c ≡ true → a c ≡ true → b c ≡ false → ((x : ℕ) → (c == x) ≡ false → a x ≡ b x) → tally a xs ≡ suc (tally b xs)
one_less a b c [] rising among pass fail same = cc
one_less a b c (x ∷ xs) rising among pass fail same = at (x == c) refl among (λ among. one_less a b c xs (rising_without_first x xs rising) among pass fail same)
  where
    -- after it nothing changes
    others : x ≡ c → tally a xs ≡ tally b xs
    others is = count_same a b xs (λ y there. let low = above x y xs rising there in same y (apart y (c == y) refl (omega (arith, is, low))))
      where
        apart : (y : ℕ) (q : Bool) → (c == y) ≡ q → c < y → (c == y) ≡ false
        apart y true e low = absurd (let is = eqb-true c y e in omega (arith, is, low))
        apart y false e low = e

    at : (q : Bool) → (x == c) ≡ q → (q || is_among xs c) ≡ true → (is_among xs c ≡ true → tally a xs ≡ suc (tally b xs)) → tally a (x ∷ xs) ≡ suc (tally b (x ∷ xs))
    at true e among below =
        let is : x ≡ c = eqb-true x c e in
        let one : cond {A = ℕ} (a x) 1 0 ≡ 1 = subst (λ z. cond {A = ℕ} (a z) 1 0 ≡ 1) (sym is) (rw pass refl) in
        let none : cond {A = ℕ} (b x) 1 0 ≡ 0 = subst (λ z. cond {A = ℕ} (b z) 1 0 ≡ 0) (sym is) (rw fail refl) in
        let rest = others is in omega (arith, one, none, rest)
    at false e among below =
        let first : cond {A = ℕ} (a x) 1 0 ≡ cond {A = ℕ} (b x) 1 0 = ap (λ z. cond {A = ℕ} z 1 0) (same x (other_way x c e)) in
        let rest = below among in omega (arith, first, rest)

-- the sharer that answers entry g owes it no more
pub owed_less : (d : Draft) (n : ℕ) (p : DirOrder) (v u : View) (c g : ℕ) → IsStep d p v u c g → IsSound d n (p.dir_entry g) → is_among (without_core (p.at g).core (p.dir_entry g).sharers) c ≡ true
    → acks_owed p v g ≡ suc (acks_owed p u g)
owed_less d n p v u c g h so among = one_less (λ x. nat_lt (v.seen x) (suc g)) (λ x. nat_lt (u.seen x) (suc g)) c (without_core (p.at g).core (p.dir_entry g).sharers)
    (rising_without (p.at g).core (p.dir_entry g).sharers so.rising) among
    (let low = h.low in lt-ltb (v.seen c) (suc g) (omega (arith, low))) (let seen = h.seen in le-ltb (u.seen c) (suc g) (omega (arith, seen)))
    (λ x ne. ap (λ k. nat_lt k (suc g)) (sym (h.others x ne)))
