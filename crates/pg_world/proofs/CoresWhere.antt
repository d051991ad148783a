-- Sets of cores: those for which a test holds, when the test changes at one core.
use Rattle.std.proofs.Common.{◌≡◌, ◌≢◌, ℕ, zero, suc, ◌+◌, ◌-◌, ◌<◌, ◌≤◌, arith, Bool, true, false, ◌||◌, ◌&&◌, List, [], ◌∷◌, ◌++◌, length, map, set, refl, sym, ap, ◌∙◌, ◌⊎◌, inl, inr}
use Rattle.std.specs.Prelude.{◌==◌, if◌then◌else◌, nat_lt}
use Rattle.std.specs.List.{filter, range_with_len}
use Rattle.std.proofs.lemmas.Bool.{and_parts, or_parts, or_from, both_ways, eqb-true, ne_eqb, lt-ltb, ltb-true, le-ltb}
use Rattle.pg_perm.specs.Drafts.{is_rising}
use Rattle.pg_directory.proofs.Cores.{are_below}
use Rattle.pg_directory.specs.CoreSets.{marked_cores_from}
use Rattle.pg_directory.specs.DirEntries.{is_among, with_core, without_core}
use Rattle.pg_directory.proofs.Marked.{with_from, without_from}
use Rattle.pg_directory.proofs.Cores.{same_core, other_way, rising_with, rising_without, rising_without_first, below_with, below_without, without_absent}
use Rattle.pg_world.specs.Indexed.{marked, cores_where, IsCounted}

-- A test over numbers in a row

marks_first : (b : Bool) (a : ℕ) (ms : List Bool) (xs : List ℕ) → marked_cores_from (a + 1) ms ≡ xs → marked_cores_from a (b ∷ ms) ≡ (if b then a ∷ xs else xs)
marks_first true a ms xs is = ap (λ (ys : List ℕ). a ∷ ys) is
marks_first false a ms xs is = is

marks_where : (t : ℕ → Bool) (a n : ℕ) → marked_cores_from a (map t (range_with_len a n)) ≡ filter t (range_with_len a n)
marks_where t a zero = refl
marks_where t a (suc n) = marks_first (t a) a (map t (range_with_len (a + 1) n)) (filter t (range_with_len (a + 1) n)) (marks_where t (a + 1) n)

pub same_tests : (t u : ℕ → Bool) (a n : ℕ) → ((j : ℕ) → a ≤ j → j < a + n → u j ≡ t j) → map t (range_with_len a n) ≡ map u (range_with_len a n)
same_tests t u a zero same = refl
same_tests t u a (suc n) same =
    ap (λ (b : Bool). b ∷ map t (range_with_len (a + 1) n)) (sym (same a (omega arith) (omega arith)))
    ∙ ap (λ (bs : List Bool). u a ∷ bs) (same_tests t u (a + 1) n (λ j low high. same j (omega (arith, low)) (omega (arith, high))))

-- the marks when the test changes at place k
set_test : (t u : ℕ → Bool) (a n k : ℕ) → k < n → ((j : ℕ) → j ≢ a + k → u j ≡ t j) → set (map t (range_with_len a n)) k (u (a + k)) ≡ map u (range_with_len a n)
set_test t u a zero k low same = absurd (omega (arith, low))
set_test t u a (suc n) zero low same =
    let here : a + 0 ≡ a = omega arith in
    ap (λ (i : ℕ). u i ∷ map t (range_with_len (a + 1) n)) here
    ∙ ap (λ (bs : List Bool). u a ∷ bs) (same_tests t u (a + 1) n (λ j above high. same j (λ is. omega (arith, above, is))))
set_test t u a (suc n) (suc k) low same =
    let next : a + suc k ≡ a + 1 + k = omega arith in
    ap (λ (b : Bool). b ∷ set (map t (range_with_len (a + 1) n)) k (u (a + suc k))) (sym (same a (λ is. omega (arith, is))))
    ∙ ap (λ (i : ℕ). u a ∷ set (map t (range_with_len (a + 1) n)) k (u i)) next
    ∙ ap (λ (bs : List Bool). u a ∷ bs) (set_test t u (a + 1) n k (omega (arith, low)) (λ j other. same j (λ is. other (is ∙ next))))

range_size : (t : ℕ → Bool) (a n : ℕ) → length (map t (range_with_len a n)) ≡ n
range_size t a zero = refl
range_size t a (suc n) = ap suc (range_size t (a + 1) n)

set_marked : (b : Bool) (ms : List Bool) (c : ℕ) → c < length ms → marked_cores_from 0 (set ms c b) ≡ marked c b (marked_cores_from 0 ms)
set_marked true ms c low = with_from ms 0 c c (omega arith) low
set_marked false ms c low = without_from ms 0 c c (omega arith) low

-- where the test changes at core c alone, it is enough to look at it anew
pub marked_where : (t u : ℕ → Bool) (n c : ℕ) → c < n → ((j : ℕ) → j ≢ c → u j ≡ t j) → marked c (u c) (cores_where t n) ≡ cores_where u n
marked_where t u n c low same =
    let long = range_size t 0 n in
    let here : 0 + c ≡ c = omega arith in
    ap (marked c (u c)) (sym (marks_where t 0 n))
    ∙ sym (set_marked (u c) (map t (range_with_len 0 n)) c (omega (arith, low, long)))
    ∙ ap (λ (i : ℕ). marked_cores_from 0 (set (map t (range_with_len 0 n)) c (u i))) (sym here)
    ∙ ap (marked_cores_from 0) (set_test t u 0 n c low (λ j other. same j (λ is. other (is ∙ sym here))))
    ∙ marks_where u 0 n

pub same_where : (t u : ℕ → Bool) (n : ℕ) → ((j : ℕ) → j < n → u j ≡ t j) → cores_where t n ≡ cores_where u n
same_where t u n same =
    sym (marks_where t 0 n) ∙ ap (marked_cores_from 0) (same_tests t u 0 n (λ j above high. same j (omega (arith, high)))) ∙ marks_where u 0 n

-- The size of a set

long_step : (before here : Bool) (c x : ℕ) (xs ys : List ℕ) → here ≡ false → length ys ≡ suc (length xs) → length (if before then c ∷ x ∷ xs else (if here then x ∷ xs else x ∷ ys)) ≡ suc (suc (length xs))
long_step true here c x xs ys other long = refl
long_step false true c x xs ys other long = cc
long_step false false c x xs ys other long = ap suc long

pub long_with : (c : ℕ) (xs : List ℕ) → is_among xs c ≡ false → length (with_core c xs) ≡ suc (length xs)
long_with c [] none = refl
long_with c (x ∷ xs) none =
    let (other, rest) = or_parts (x == c) (is_among xs c) none in
    long_step (nat_lt c x) (c == x) c x xs (with_core c xs) (other_way x c other) (long_with c xs rest)

-- no core of an ascending list stands in it twice
rising_apart : (m c : ℕ) (xs : List ℕ) → c ≤ m → is_rising (m ∷ xs) ≡ true → is_among xs c ≡ false
rising_apart m c [] low up = refl
rising_apart m c (x ∷ xs) low up =
    let (less, rest) = and_parts (nat_lt m x) (is_rising (x ∷ xs)) up in
    let above = ltb-true m x less in
    or_from (x == c) (is_among xs c) (ne_eqb x c (λ is. omega (arith, above, low, is))) (rising_apart x c xs (omega (arith, above, low)) rest)

short_step : (here : Bool) (c x : ℕ) (xs ys : List ℕ) → (here ≡ true → suc (length ys) ≡ suc (length xs)) → (here ≡ false → suc (length ys) ≡ length xs) → suc (length (if here then ys else x ∷ ys)) ≡ suc (length xs)
short_step true c x xs ys is other = is refl
short_step false c x xs ys is other = ap suc (other refl)

pub short_without : (c : ℕ) (xs : List ℕ) → is_rising xs ≡ true → is_among xs c ≡ true → suc (length (without_core c xs)) ≡ length xs
short_without c [] up there = cc
short_without c (x ∷ xs) up there =
    short_step (x == c) c x xs (without_core c xs)
    (λ is. ap (λ (ys : List ℕ). suc (length ys)) (without_absent c xs (rising_apart x c xs (let same = eqb-true x c is in omega (arith, same)) up)))
    (λ other. short_without c xs (rising_without_first x xs up) (ap (λ (b : Bool). b || is_among xs c) (sym other) ∙ there))

present_step : (before here : Bool) (c x : ℕ) (xs ys : List ℕ) → (before ≡ true → c ∷ x ∷ xs ≡ x ∷ xs) → (here ≡ false → ys ≡ xs) → (if before then c ∷ x ∷ xs else (if here then x ∷ xs else x ∷ ys)) ≡ x ∷ xs
present_step true here c x xs ys first other = first refl
present_step false true c x xs ys first other = refl
present_step false false c x xs ys first other = ap (λ (zs : List ℕ). x ∷ zs) (other refl)

-- a core that isn't in it leaves it as it is, and so does one that is in it and is put in
pub with_present : (c : ℕ) (xs : List ℕ) → is_rising xs ≡ true → is_among xs c ≡ true → with_core c xs ≡ xs
with_present c [] up there = cc
with_present c (x ∷ xs) up there =
    present_step (nat_lt c x) (c == x) c x xs (with_core c xs)
    (λ before. let less = ltb-true c x before in absurd (both_ways (is_among (x ∷ xs) c) (or_from (x == c) (is_among xs c) (ne_eqb x c (λ is. omega (arith, less, is))) (rising_apart x c xs (omega (arith, less)) up)) there))
    (λ other. with_present c xs (rising_without_first x xs up) (ap (λ (b : Bool). b || is_among xs c) (sym (other_way c x other)) ∙ there))

-- there are at most 64
few_from : (n x : ℕ) (xs : List ℕ) → is_rising (x ∷ xs) ≡ true → are_below n (x ∷ xs) ≡ true → x + length (x ∷ xs) ≤ n
few_from n x [] up low = let under = ltb-true x n (and_parts (nat_lt x n) (are_below n []) low).0 in omega (arith, under)
few_from n x (y ∷ xs) up low =
    let (less, rest) = and_parts (nat_lt x y) (is_rising (y ∷ xs)) up in
    let above = ltb-true x y less in
    let also = few_from n y xs rest (and_parts (nat_lt x n) (are_below n (y ∷ xs)) low).1 in
    omega (arith, above, also)

pub few : (n : ℕ) (xs : List ℕ) → is_rising xs ≡ true → are_below n xs ≡ true → length xs ≤ n
few n [] up low = omega arith
few n (x ∷ xs) up low = let most = few_from n x xs up low in omega (arith, most)

-- A set with its size stays one

pub counted_none : IsCounted 0 []
counted_none = record { size = refl; rising = refl; below = refl }

pub counted_with : (size c : ℕ) (xs : List ℕ) → c < 64 → IsCounted size xs → is_among xs c ≡ false → IsCounted (size + 1) (with_core c xs)
counted_with size c xs low k none =
    let long = long_with c xs none in
    let was = k.size in
    record { size = omega (arith, long, was); rising = rising_with c xs k.rising; below = below_with 64 c xs low k.below }

pub counted_without : (size c : ℕ) (xs : List ℕ) → IsCounted size xs → is_among xs c ≡ true → IsCounted (size - 1) (without_core c xs)
counted_without size c xs k there =
    let short = short_without c xs k.rising there in
    let was = k.size in
    record { size = omega (arith, short, was); rising = rising_without c xs k.rising; below = below_without 64 c xs k.below }

-- Looking at one core after another

none_step : (b : Bool) (a : ℕ) (xs : List ℕ) → b ≡ false → xs ≡ [] → (if b then a ∷ xs else xs) ≡ []
none_step true a xs off none = cc
none_step false a xs off none = none

none_from : (t : ℕ → Bool) (a n : ℕ) → ((j : ℕ) → t j ≡ false) → filter t (range_with_len a n) ≡ []
none_from t a zero off = refl
none_from t a (suc n) off = none_step (t a) a (filter t (range_with_len (a + 1) n)) (off a) (none_from t (a + 1) n off)

pub none_where : (t : ℕ → Bool) (n : ℕ) → ((j : ℕ) → t j ≡ false) → cores_where t n ≡ []
none_where t n off = none_from t 0 n off

all_step : (b : Bool) (a : ℕ) (xs ys : List ℕ) → b ≡ true → xs ≡ ys → (if b then a ∷ xs else xs) ≡ a ∷ ys
all_step true a xs ys on is = ap (λ (zs : List ℕ). a ∷ zs) is
all_step false a xs ys on is = cc

all_from : (t : ℕ → Bool) (a n : ℕ) → ((j : ℕ) → j < a + n → t j ≡ true) → filter t (range_with_len a n) ≡ range_with_len a n
all_from t a zero on = refl
all_from t a (suc n) on = all_step (t a) a (filter t (range_with_len (a + 1) n)) (range_with_len (a + 1) n) (on a (omega arith)) (all_from t (a + 1) n (λ j low. on j (omega (arith, low))))

pub all_where : (t : ℕ → Bool) (n : ℕ) → ((j : ℕ) → j < n → t j ≡ true) → cores_where t n ≡ range_with_len 0 n
all_where t n on = all_from t 0 n (λ j low. on j (omega (arith, low)))

abbrev pub below_and : ℕ → (ℕ → Bool) → ℕ → Bool
below_and k t j = nat_lt j k && t j

pub none_below : (t : ℕ → Bool) (n : ℕ) → [] ≡ cores_where (below_and 0 t) n
none_below t n = sym (none_where (below_and 0 t) n (λ j. ap (λ (b : Bool). b && t j) (le-ltb j 0 (omega arith))))

pub all_below : (t : ℕ → Bool) (n : ℕ) → cores_where (below_and n t) n ≡ cores_where t n
all_below t n = same_where (below_and n t) t n (λ j low. sym (ap (λ (b : Bool). b && t j) (lt-ltb j n low)))

not_at : (j k : ℕ) → j ≢ k → nat_lt j (k + 1) ≡ nat_lt j k
not_at j k other = elim (let split : (j < k) ⊎ (k < j) = search (arith, other) in split) [
  | inl low ↦ lt-ltb j (k + 1) (omega (arith, low)) ∙ sym (lt-ltb j k low)
  | inr high ↦ le-ltb j (k + 1) (omega (arith, high)) ∙ sym (le-ltb j k (omega (arith, high)))
]

pub next_below : (t : ℕ → Bool) (n k : ℕ) → k < n → marked k (t k) (cores_where (below_and k t) n) ≡ cores_where (below_and (k + 1) t) n
next_below t n k low =
    ap (λ (b : Bool). marked k b (cores_where (below_and k t) n)) (sym (ap (λ (b : Bool). b && t k) (lt-ltb k (k + 1) (omega arith))))
    ∙ marked_where (below_and k t) (below_and (k + 1) t) n k low (λ j other. ap (λ (b : Bool). b && t j) (not_at j k other))

-- The cores in a set

among_first : (b : Bool) (a k : ℕ) (xs : List ℕ) → a ≢ k → is_among (if b then a ∷ xs else xs) k ≡ is_among xs k
among_first true a k xs other = ap (λ (b : Bool). b || is_among xs k) (ne_eqb a k other)
among_first false a k xs other = refl

among_earlier : (t : ℕ → Bool) (a n k : ℕ) → k < a → is_among (filter t (range_with_len a n)) k ≡ false
among_earlier t a zero k low = refl
among_earlier t a (suc n) k low =
    among_first (t a) a k (filter t (range_with_len (a + 1) n)) (λ is. omega (arith, low, is)) ∙ among_earlier t (a + 1) n k (omega (arith, low))

among_here : (b : Bool) (a : ℕ) (xs : List ℕ) → is_among xs a ≡ false → is_among (if b then a ∷ xs else xs) a ≡ b
among_here true a xs none = ap (λ (b : Bool). b || is_among xs a) (same_core a)
among_here false a xs none = none

among_from : (t : ℕ → Bool) (a n k : ℕ) → k < n → is_among (filter t (range_with_len a n)) (a + k) ≡ t (a + k)
among_from t a zero k low = absurd (omega (arith, low))
among_from t a (suc n) zero low =
    let here : a + 0 ≡ a = omega arith in
    ap (is_among (filter t (range_with_len a (suc n)))) here
    ∙ among_here (t a) a (filter t (range_with_len (a + 1) n)) (among_earlier t (a + 1) n a (omega arith))
    ∙ sym (ap t here)
among_from t a (suc n) (suc k) low =
    let next : a + suc k ≡ a + 1 + k = omega arith in
    ap (is_among (filter t (range_with_len a (suc n)))) next
    ∙ among_first (t a) a (a + 1 + k) (filter t (range_with_len (a + 1) n)) (λ is. omega (arith, is))
    ∙ among_from t (a + 1) n k (omega (arith, low))
    ∙ sym (ap t next)

pub among_where : (t : ℕ → Bool) (n k : ℕ) → k < n → is_among (cores_where t n) k ≡ t k
among_where t n k low = let here : 0 + k ≡ k = omega arith in ap (is_among (cores_where t n)) (sym here) ∙ among_from t 0 n k low ∙ ap t here
