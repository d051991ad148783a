-- A history is no longer than the requests and the completed accesses of which it is made.
use Rattle.std.proofs.Common.{◌≡◌, ℕ, zero, suc, ◌+◌, ◌<◌, ◌≤◌, ◌==◌, arith, Bool, true, false, cond, List, [], ◌∷◌, ◌++◌, length, length-append, refl, ap, ◌∙◌}
use Rattle.std.specs.Prelude.{map, ◌&&◌}
use Rattle.std.specs.List.{filter}
use Rattle.std.proofs.lemmas.Bool.{ne_eqb, eqb-true}
use Rattle.std.proofs.lemmas.List.{length-map}
use Rattle.std.proofs.Math.Bool.{and-false}
use Rattle.pg_messages.specs.declared.messages.DoneEntry.{DoneEntry}
use Rattle.pg_messages.specs.declared.messages.Finished.{Finished}
use Rattle.pg_messages.specs.declared.messages.Finished.TheVariants as finish
use Rattle.pg_controllers.specs.Worlds.{World}
use Rattle.pg_serial.specs.Groups.{serial}
use Rattle.pg_serial.specs.Serial.{Entry, Done, done_step, stands, own, by_core, groups, serial_of}
use Rattle.pg_refined.specs.Shown.{entry_of, access_of, accesses}

-- Accesses of one core with one stamp

own_by : (k c : ℕ) (x : Done) (xs : List Done) (b : Bool) → stands k c x ≡ b → length (own (x ∷ xs) k c) ≡ length (map done_step (cond b (x ∷ filter (stands k c) xs) (filter (stands k c) xs)))
own_by k c x xs b e = ap (λ z. length (map done_step (cond z (x ∷ filter (stands k c) xs) (filter (stands k c) xs)))) e

own_more : (k c : ℕ) (x : Done) (xs : List Done) → length (own (x ∷ xs) k c) ≤ length (own xs k c) + 1
own_more k c x xs = at (stands k c x) refl
  where
    at : (b : Bool) → stands k c x ≡ b → length (own (x ∷ xs) k c) ≤ length (own xs k c) + 1
    at true e = let here = own_by k c x xs true e in omega (arith, here)
    at false e = let here = own_by k c x xs false e in omega (arith, here)

-- with another stamp, or of another core
own_stamp : (k c : ℕ) (x : Done) (xs : List Done) → (x.stamp == k) ≡ false → length (own (x ∷ xs) k c) ≡ length (own xs k c)
own_stamp k c x xs e = own_by k c x xs false (ap (λ b. x.core == c && b) e ∙ and-false (x.core == c))

own_core : (k c : ℕ) (x : Done) (xs : List Done) → (x.core == c) ≡ false → length (own (x ∷ xs) k c) ≡ length (own xs k c)
own_core k c x xs e = own_by k c x xs false (ap (λ b. b && x.stamp == k) e)

-- Those of the first cores

cores_stamp : (k m : ℕ) (x : Done) (xs : List Done) → (x.stamp == k) ≡ false → length (by_core (x ∷ xs) k m) ≡ length (by_core xs k m)
cores_stamp k zero x xs e = refl
cores_stamp k (suc m) x xs e =
    let new = length-append (by_core (x ∷ xs) k m) (own (x ∷ xs) k m) in
    let old = length-append (by_core xs k m) (own xs k m) in
    let here = own_stamp k m x xs e in
    let rest = cores_stamp k m x xs e in omega (arith, new, old, here, rest)

cores_low : (k m : ℕ) (x : Done) (xs : List Done) → m ≤ x.core → length (by_core (x ∷ xs) k m) ≡ length (by_core xs k m)
cores_low k zero x xs low = refl
cores_low k (suc m) x xs low =
    let new = length-append (by_core (x ∷ xs) k m) (own (x ∷ xs) k m) in
    let old = length-append (by_core xs k m) (own xs k m) in
    let here = own_core k m x xs (ne_eqb x.core m (λ same. omega (arith, same, low))) in
    let rest = cores_low k m x xs (omega (arith, low)) in omega (arith, new, old, here, rest)

cores_more : (k m : ℕ) (x : Done) (xs : List Done) → length (by_core (x ∷ xs) k m) ≤ length (by_core xs k m) + 1
cores_more k zero x xs = omega arith
cores_more k (suc m) x xs = at (x.core == m) refl (cores_more k m x xs)
  where
    at : (b : Bool) → (x.core == m) ≡ b → length (by_core (x ∷ xs) k m) ≤ length (by_core xs k m) + 1 → length (by_core (x ∷ xs) k (suc m)) ≤ length (by_core xs k (suc m)) + 1
    at true e rest =
        let new = length-append (by_core (x ∷ xs) k m) (own (x ∷ xs) k m) in
        let old = length-append (by_core xs k m) (own xs k m) in
        let same = eqb-true x.core m e in
        let here = own_more k m x xs in
        let below = cores_low k m x xs (omega (arith, same)) in omega (arith, new, old, here, below)
    at false e rest =
        let new = length-append (by_core (x ∷ xs) k m) (own (x ∷ xs) k m) in
        let old = length-append (by_core xs k m) (own xs k m) in
        let here = own_core k m x xs e in omega (arith, new, old, here, rest)

-- Those with the stamps up to one

placed : List Done → ℕ → ℕ → ℕ
placed done n zero = length (by_core done 0 n)
placed done n (suc k) = placed done n k + length (by_core done (suc k) n)

placed_low : (n k : ℕ) (x : Done) (xs : List Done) → k < x.stamp → placed (x ∷ xs) n k ≡ placed xs n k
unfolding placed
placed_low n zero x xs low = cores_stamp 0 n x xs (ne_eqb x.stamp 0 (λ same. omega (arith, same, low)))
placed_low n (suc k) x xs low =
    let here = cores_stamp (suc k) n x xs (ne_eqb x.stamp (suc k) (λ same. omega (arith, same, low))) in
    let rest = placed_low n k x xs (omega (arith, low)) in omega (arith, here, rest)

placed_more : (n k : ℕ) (x : Done) (xs : List Done) → placed (x ∷ xs) n k ≤ placed xs n k + 1
unfolding placed
placed_more n zero x xs = cores_more 0 n x xs
placed_more n (suc k) x xs = at (x.stamp == suc k) refl (placed_more n k x xs)
  where
    at : (b : Bool) → (x.stamp == suc k) ≡ b → placed (x ∷ xs) n k ≤ placed xs n k + 1 → placed (x ∷ xs) n (suc k) ≤ placed xs n (suc k) + 1
    at true e rest =
        let same = eqb-true x.stamp (suc k) e in
        let here = cores_more (suc k) n x xs in
        let below = placed_low n k x xs (omega (arith, same)) in omega (arith, here, below)
    at false e rest = let here = cores_stamp (suc k) n x xs e in omega (arith, here, rest)

none_of : (k m : ℕ) → length (by_core [] k m) ≡ 0
none_of k zero = refl
none_of k (suc m) = let here = length-append (by_core [] k m) (own [] k m) in let rest = none_of k m in omega (arith, here, rest)

none_placed : (n k : ℕ) → placed [] n k ≡ 0
unfolding placed
none_placed n zero = none_of 0 n
none_placed n (suc k) = let here = none_of (suc k) n in let rest = none_placed n k in omega (arith, here, rest)

few_placed : (n k : ℕ) (xs : List Done) → placed xs n k ≤ length xs
few_placed n k [] = let none = none_placed n k in omega (arith, none)
few_placed n k (x ∷ xs) = let one = placed_more n k x xs in let rest = few_placed n k xs in omega (arith, one, rest)

-- The whole

serial_length : (n : ℕ) (order : List Entry) (done : List Done) (k : ℕ) → length (serial (groups n order done) k) ≡ k + placed done n k
unfolding placed
serial_length n order done zero = omega arith
serial_length n order done (suc k) =
    let g = groups n order done in
    let here = length-append (serial g k) (g.entry k ∷ g.group (suc k)) in
    let rest = serial_length n order done k in omega (arith, here, rest)

accesses_short : (ds : List DoneEntry) → length (accesses ds) ≤ length ds
accesses_short [] = omega arith
accesses_short (x ∷ xs) = at x.fin (accesses_short xs)
  where
    at : (f : Finished) → length (accesses xs) ≤ length xs → length (access_of x f ++ accesses xs) ≤ length (x ∷ xs)
    at (finish.Load v) rest = omega (arith, rest)
    at (finish.Store v) rest = omega (arith, rest)
    at finish.Evict rest = omega (arith, rest)

pub history_short : (n : ℕ) (w : World) → length (serial_of n (map entry_of w.order) (accesses w.done)) ≤ length w.order + length w.done
history_short n w =
    let entries = length-map w.order entry_of in
    let all = serial_length n (map entry_of w.order) (accesses w.done) (length (map entry_of w.order)) in
    let most = few_placed n (length (map entry_of w.order)) (accesses w.done) in
    let short = accesses_short w.done in omega (arith, entries, all, most, short)
