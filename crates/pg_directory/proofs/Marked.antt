-- The cores that marks name, after a change of a mark.
use Rattle.std.proofs.Common.{◌≡◌, ℕ, zero, suc, ◌+◌, ◌<◌, Bool, true, false, List, [], ◌∷◌, length, get_or, set, replicate, refl, sym, ap, ◌∙◌, arith}
use Rattle.std.specs.Prelude.{◌==◌, nat_lt}
use Rattle.std.proofs.lemmas.Bool.{eq-eqb, ne_eqb, le-ltb, lt-ltb}
use Rattle.pg_directory.specs.DirEntries.{is_among, with_core, without_core}
use Rattle.pg_directory.specs.CoreSets.{marked_cores_from}

-- no core below the first number is among them
among_below : (marks : List Bool) (i c : ℕ) → c < i → is_among (marked_cores_from i marks) c ≡ false
among_below [] i c h = refl
among_below (true ∷ marks) i c h = let apart : (i == c) ≡ false = ne_eqb i c (λ q. omega arith) in rw apart (among_below marks (i + 1) c (omega arith))
among_below (false ∷ marks) i c h = among_below marks (i + 1) c (omega arith)

-- the core k places after the first number is among them where it is marked
pub among_from : (marks : List Bool) (i c k : ℕ) → c ≡ i + k → is_among (marked_cores_from i marks) c ≡ get_or marks k false
among_from [] i c zero e = refl
among_from [] i c (suc k) e = refl
among_from (true ∷ marks) i c zero e = let same : (i == c) ≡ true = eq-eqb i c (omega arith) in rw same refl
among_from (true ∷ marks) i c (suc k) e = let apart : (i == c) ≡ false = ne_eqb i c (λ q. omega arith) in rw apart (among_from marks (i + 1) c k (omega arith))
among_from (false ∷ marks) i c zero e = among_below marks (i + 1) c (omega arith)
among_from (false ∷ marks) i c (suc k) e = among_from marks (i + 1) c k (omega arith)

with_first : (marks : List Bool) (i c : ℕ) → c < i → with_core c (marked_cores_from i marks) ≡ c ∷ marked_cores_from i marks
with_first [] i c h = refl
with_first (true ∷ marks) i c h = let first : nat_lt c i ≡ true = lt-ltb c i h in rw first refl
with_first (false ∷ marks) i c h = with_first marks (i + 1) c (omega arith)

-- a mark that is set adds its core
pub with_from : (marks : List Bool) (i c k : ℕ) → c ≡ i + k → k < length marks → marked_cores_from i (set marks k true) ≡ with_core c (marked_cores_from i marks)
with_from [] i c k e h = absurd (omega (arith, h))
with_from (true ∷ marks) i c zero e h =
    let behind : nat_lt c i ≡ false = le-ltb c i (omega arith) in
    let same : (c == i) ≡ true = eq-eqb c i (omega arith) in
    rw (behind, same) refl
with_from (false ∷ marks) i c zero e h =
    let same : i ≡ c = omega arith in
    ap (λ x. x ∷ marked_cores_from (i + 1) marks) same ∙ sym (with_first marks (i + 1) c (omega arith))
with_from (true ∷ marks) i c (suc k) e h =
    let behind : nat_lt c i ≡ false = le-ltb c i (omega arith) in
    let apart : (c == i) ≡ false = ne_eqb c i (λ q. omega arith) in
    rw (behind, apart) (ap (λ xs. i ∷ xs) (with_from marks (i + 1) c k (omega arith) (omega arith)))
with_from (false ∷ marks) i c (suc k) e h = with_from marks (i + 1) c k (omega arith) (omega arith)

without_none : (marks : List Bool) (i c : ℕ) → c < i → without_core c (marked_cores_from i marks) ≡ marked_cores_from i marks
without_none [] i c h = refl
without_none (true ∷ marks) i c h =
    let apart : (i == c) ≡ false = ne_eqb i c (λ q. omega arith) in
    rw apart (ap (λ xs. i ∷ xs) (without_none marks (i + 1) c (omega arith)))
without_none (false ∷ marks) i c h = without_none marks (i + 1) c (omega arith)

-- a mark that is taken away takes its core away
pub without_from : (marks : List Bool) (i c k : ℕ) → c ≡ i + k → k < length marks → marked_cores_from i (set marks k false) ≡ without_core c (marked_cores_from i marks)
without_from [] i c k e h = absurd (omega (arith, h))
without_from (true ∷ marks) i c zero e h =
    let same : (i == c) ≡ true = eq-eqb i c (omega arith) in
    rw same (sym (without_none marks (i + 1) c (omega arith)))
without_from (false ∷ marks) i c zero e h = sym (without_none marks (i + 1) c (omega arith))
without_from (true ∷ marks) i c (suc k) e h =
    let apart : (i == c) ≡ false = ne_eqb i c (λ q. omega arith) in
    rw apart (ap (λ xs. i ∷ xs) (without_from marks (i + 1) c k (omega arith) (omega arith)))
without_from (false ∷ marks) i c (suc k) e h = without_from marks (i + 1) c k (omega arith) (omega arith)

pub none_from : (n i : ℕ) → marked_cores_from i (replicate n false) ≡ []
none_from zero i = refl
none_from (suc n) i = none_from n (i + 1)

-- the first that is marked comes first, and without its mark come the others
pub first_from : (marks : List Bool) (i k : ℕ) → get_or marks k false ≡ true → ((j : ℕ) → j < k → get_or marks j false ≡ false)
    → marked_cores_from i marks ≡ (i + k) ∷ marked_cores_from i (set marks k false)
first_from [] i zero here below = absurd (cc here)
first_from [] i (suc k) here below = absurd (cc here)
first_from (true ∷ marks) i zero here below = let same : i ≡ i + 0 = omega arith in ap (λ n. n ∷ marked_cores_from (i + 1) marks) same
first_from (false ∷ marks) i zero here below = absurd (cc here)
first_from (true ∷ marks) i (suc k) here below = let none : true ≡ false = below zero (omega arith) in absurd (cc none)
first_from (false ∷ marks) i (suc k) here below =
    let same : (i + 1) + k ≡ i + suc k = omega arith in
    first_from marks (i + 1) k here (λ j h. below (suc j) (omega arith)) ∙ ap (λ n. n ∷ marked_cores_from (i + 1) (set marks k false)) same
