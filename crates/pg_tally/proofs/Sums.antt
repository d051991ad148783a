-- Tallies of lists that are put together, and the steps that are counted.
use Rattle.std.proofs.Common.{◌≡◌, ℕ, zero, suc, ◌+◌, ◌*◌, ◌≤◌, arith, Bool, true, false, List, [], ◌∷◌, ◌++◌, length, length-append, refl, sym, ap, subst, ◌∙◌}
use Rattle.std.specs.Prelude.{count_by, cond}
use Rattle.std.specs.List.{sum_by}
use Rattle.std.proofs.lemmas.List.Sums.{sum_by-append, count_by-le-length}
use Rattle.pg_perm.specs.declared.step.Step.{Step}
use Rattle.pg_perm.specs.declared.step.Step.TheVariants.{Txn, Stale, Load, Store}
use Rattle.pg_messages.specs.declared.messages.DoneEntry.{DoneEntry}
use Rattle.pg_messages.specs.declared.messages.WorldEvent.{WorldEvent}
use Rattle.pg_tally.specs.Tallies.{is_txn, is_stale, is_load, is_store, word_loaded, is_late_load, tally_of, plus, IsAtMost}
use Rattle.pg_tally.specs.declared.tally.Tally.{Tally}

counts_add : {X : Type 0} (p : X → Bool) (xs ys : List X) → count_by p (xs ++ ys) ≡ count_by p xs + count_by p ys
counts_add p xs ys = sum_by-append (λ x. cond (p x) 1 0) xs ys

pub tally_adds : (s t : List Step) (d e : List DoneEntry) (j k : List (ℕ × WorldEvent)) → tally_of (s ++ t) (d ++ e) (j ++ k) ≡ plus (tally_of s d j) (tally_of t e k)
tally_adds s t d e j k = λ i. record {
  txns = counts_add is_txn s t i;
  stale = counts_add is_stale s t i;
  loads = counts_add is_load s t i;
  late = counts_add is_late_load d e i;
  stores = counts_add is_store s t i;
  events = length-append j k i;
  sum = sum_by-append word_loaded s t i;
}

-- one step more
one_step : (x : Step) (xs : List Step) → count_by is_txn (x ∷ xs) + count_by is_stale (x ∷ xs) + count_by is_load (x ∷ xs) + count_by is_store (x ∷ xs)
    ≡ suc (count_by is_txn xs + count_by is_stale xs + count_by is_load xs + count_by is_store xs)
one_step x xs = let t = counts_add is_txn (x ∷ []) xs in let s = counts_add is_stale (x ∷ []) xs in let l = counts_add is_load (x ∷ []) xs in let r = counts_add is_store (x ∷ []) xs in at x t s l r
  where
    at : (y : Step) → count_by is_txn (y ∷ xs) ≡ count_by is_txn (y ∷ []) + count_by is_txn xs → count_by is_stale (y ∷ xs) ≡ count_by is_stale (y ∷ []) + count_by is_stale xs
        → count_by is_load (y ∷ xs) ≡ count_by is_load (y ∷ []) + count_by is_load xs → count_by is_store (y ∷ xs) ≡ count_by is_store (y ∷ []) + count_by is_store xs
        → count_by is_txn (y ∷ xs) + count_by is_stale (y ∷ xs) + count_by is_load (y ∷ xs) + count_by is_store (y ∷ xs)
        ≡ suc (count_by is_txn xs + count_by is_stale xs + count_by is_load xs + count_by is_store xs)
    at (Txn c e) t s l r = omega (arith, t, s, l, r)
    at (Stale c) t s l r = omega (arith, t, s, l, r)
    at (Load c v) t s l r = omega (arith, t, s, l, r)
    at (Store c v) t s l r = omega (arith, t, s, l, r)

pub counted_once : (xs : List Step) → count_by is_txn xs + count_by is_stale xs + count_by is_load xs + count_by is_store xs ≡ length xs
counted_once [] = refl
counted_once (x ∷ xs) = one_step x xs ∙ ap suc (counted_once xs)

-- a tally of lists that are no longer than a number
pub tally_is_low : (steps : List Step) (done : List DoneEntry) (journal : List (ℕ × WorldEvent)) (t : Tally) → t ≡ tally_of steps done journal → t.sum ≤ length steps * 4294967295
    → (n : ℕ) → length steps ≤ n → length done ≤ n → length journal ≤ n → IsAtMost (n * 4294967295) t
tally_is_low steps done journal t exact sum n few some many = subst (IsAtMost (n * 4294967295)) (sym exact) (record {
  txns = (let most = count_by-le-length is_txn steps in omega (arith, most, few));
  stale = (let most = count_by-le-length is_stale steps in omega (arith, most, few));
  loads = (let most = count_by-le-length is_load steps in omega (arith, most, few));
  late = (let most = count_by-le-length is_late_load done in omega (arith, most, some));
  stores = (let most = count_by-le-length is_store steps in omega (arith, most, few));
  events = omega (arith, many);
  sum = (let same = ap (λ (z : Tally). z.sum) exact in omega (arith, same, sum, few));
})
