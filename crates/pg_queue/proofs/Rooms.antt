-- Room in the lists of all cores.
use Rattle.std.proofs.Common.{◌≡◌, ℕ, zero, suc, ◌+◌, ◌<◌, ◌≤◌, List, [], ◌∷◌, ◌++◌, length, set, get_or, replicate, refl, ap, arith}
use Rattle.std.proofs.lemmas.List.{replicate_more}
use Rattle.pg_messages.specs.declared.messages.Ordered.{Ordered}
use Rattle.pg_queue.specs.Nets.{Queue, lists_of, ordered_count, HaveRoom}

pub lists_length : (qs : List Queue) → length (lists_of qs) ≡ length qs
lists_length [] = refl
lists_length (q ∷ qs) = let ih : length (lists_of qs) ≡ length qs = lists_length qs in grind (arith, ih)

pub room_at : (r : ℕ) (qs : List Queue) (k : ℕ) (d : Queue) → HaveRoom r qs → k < length qs → (get_or qs k d).room ≡ r
room_at r [] k d h l = absurd (omega (arith, l))
room_at r (q ∷ qs) zero d h l = h.0
room_at r (q ∷ qs) (suc k) d h l = room_at r qs k d h.1 (omega (arith, l))

pub count_at : (qs : List Queue) (k : ℕ) (d : Queue) → k < length qs → length (get_or qs k d).items ≤ ordered_count (lists_of qs)
count_at [] k d l = absurd (omega (arith, l))
count_at (q ∷ qs) zero d l = omega arith
count_at (q ∷ qs) (suc k) d l = let ih : length (get_or qs k d).items ≤ ordered_count (lists_of qs) = count_at qs k d (omega (arith, l)) in omega (arith, ih)

pub set_room : (r : ℕ) (qs : List Queue) (k : ℕ) (q : Queue) → HaveRoom r qs → q.room ≡ r → HaveRoom r (set qs k q)
set_room r [] k q h e = h
set_room r (p ∷ qs) zero q h e = (e, h.1)
set_room r (p ∷ qs) (suc k) q h e = (h.0, set_room r qs k q h.1 e)

pub set_count : (qs : List Queue) (k : ℕ) (d q : Queue) → k < length qs → length q.items ≡ length (get_or qs k d).items + 1
    → ordered_count (lists_of (set qs k q)) ≡ ordered_count (lists_of qs) + 1
set_count [] k d q l e = absurd (omega (arith, l))
set_count (p ∷ qs) zero d q l e = omega (arith, e)
set_count (p ∷ qs) (suc k) d q l e =
    let ih : ordered_count (lists_of (set qs k q)) ≡ ordered_count (lists_of qs) + 1 = set_count qs k d q (omega (arith, l)) e in omega (arith, ih)

pub lists_set : (qs : List Queue) (k : ℕ) (q : Queue) → lists_of (set qs k q) ≡ set (lists_of qs) k q.items
lists_set [] k q = refl
lists_set (p ∷ qs) zero q = refl
lists_set (p ∷ qs) (suc k) q = ap (λ xs. p.items ∷ xs) (lists_set qs k q)

pub lists_get : (qs : List Queue) (k : ℕ) (d : Queue) → k < length qs → get_or (lists_of qs) k [] ≡ (get_or qs k d).items
lists_get [] k d l = absurd (omega (arith, l))
lists_get (p ∷ qs) zero d l = refl
lists_get (p ∷ qs) (suc k) d l = lists_get qs k d (omega (arith, l))

pub length_one_more : (xs : List Ordered) (m : Ordered) → length (xs ++ m ∷ []) ≡ length xs + 1
length_one_more [] m = refl
length_one_more (x ∷ xs) m = let ih : length (xs ++ m ∷ []) ≡ length xs + 1 = length_one_more xs m in omega (arith, ih)

pub set_count_less : (qs : List Queue) (k : ℕ) (d q : Queue) → k < length qs → length (get_or qs k d).items ≡ length q.items + 1
    → ordered_count (lists_of qs) ≡ ordered_count (lists_of (set qs k q)) + 1
set_count_less [] k d q l e = absurd (omega (arith, l))
set_count_less (p ∷ qs) zero d q l e = omega (arith, e)
set_count_less (p ∷ qs) (suc k) d q l e =
    let ih : ordered_count (lists_of qs) ≡ ordered_count (lists_of (set qs k q)) + 1 = set_count_less qs k d q (omega (arith, l)) e in omega (arith, ih)

-- One more

pub lists_last : (qs : List Queue) (q : Queue) → lists_of (qs ++ q ∷ []) ≡ lists_of qs ++ q.items ∷ []
lists_last [] q = refl
lists_last (p ∷ qs) q = ap (λ xs. p.items ∷ xs) (lists_last qs q)

pub room_last : (r : ℕ) (qs : List Queue) (q : Queue) → HaveRoom r qs → q.room ≡ r → HaveRoom r (qs ++ q ∷ [])
room_last r [] q h e = (e, tt)
room_last r (p ∷ qs) q h e = (h.0, room_last r qs q h.1 e)

pub empty_count : (n : ℕ) → ordered_count (replicate n []) ≡ 0
empty_count zero = refl
empty_count (suc n) = let ih : ordered_count (replicate n []) ≡ 0 = empty_count n in omega (arith, ih)

pub replicate_last : {A : Type 0} (n : ℕ) (x : A) → replicate n x ++ x ∷ [] ≡ replicate (n + 1) x
replicate_last n x = replicate_more n x
