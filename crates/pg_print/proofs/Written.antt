-- The names that a draft declares: in none stands `_` or `.`, and no two are the same.
use Rattle.std.proofs.Common.{◌≡◌, ℕ, zero, suc, ◌<◌, Bool, true, false, not, ◌&&◌, ◌||◌, List, [], ◌∷◌, length, Option, Some, None, refl, sym, ap, ◌∙◌, arith}
use Rattle.std.specs.Prelude.{◌==◌, nat_lt, slice_get, unwrap_or, bytes_eq}
use Rattle.std.specs.List.{list_all, list_any}
use Rattle.std.proofs.lemmas.Bool.Decides.{nat_tests}
use Rattle.std.proofs.lemmas.List.{length-map}
use Rattle.std.proofs.lemmas.Slice.Eq.{bytes_eq-Decides}
use Rattle.std.proofs.lemmas.Bool.{and_parts, not-true}
use Rattle.pg_perm.specs.declared.draft.Draft.{Draft}
use Rattle.pg_perm.specs.Names.{is_letter, is_digit, is_underscore, is_name_byte, is_name, is_state_name}
use Rattle.pg_perm.specs.Drafts.{cache_names, dir_names, message_names, taken_names, are_distinct, IsWellFormed}
use Rattle.pg_perm.specs.Words.{name_of, cache_name, dir_name, message_name}
use Rattle.pg_lines.proofs.Weaker.{all_weaker}
use Rattle.pg_shape.proofs.Bools.{and_of_both}
use Rattle.pg_shape.proofs.Searches.{not_both, all_at, any_at, get_below}
use Rattle.pg_print.proofs.Lacking.{lacks}

-- Bytes

no_dot : (b : ℕ) → is_name_byte b ≡ true → not (b == 46) ≡ true
no_dot b h = grind (arith, nat_tests)

letter_byte : (b : ℕ) → is_letter b ≡ true → is_name_byte b ≡ true
letter_byte b h = ap (λ (t : Bool). (t || is_digit b) || is_underscore b) h

bytes_of : (w : List ℕ) → is_name w ≡ true → list_all is_name_byte w ≡ true
bytes_of [] h = absurd cc
bytes_of (b ∷ bs) h =
    let parts = and_parts (is_letter b && nat_lt (length bs) 24) (list_all is_name_byte bs) h in
    and_of_both (is_name_byte b) (list_all is_name_byte bs) (letter_byte b (and_parts (is_letter b) (nat_lt (length bs) 24) parts.0).0) parts.1

none_all : (w : List ℕ) → list_any is_underscore w ≡ false → lacks 95 w ≡ true
none_all [] h = refl
none_all (b ∷ bs) h = at (b == 95) h (none_all bs)
  where
    at : (t : Bool) → (t || list_any is_underscore bs) ≡ false → (list_any is_underscore bs ≡ false → lacks 95 bs ≡ true) → (not t && lacks 95 bs) ≡ true
    at true h behind = absurd cc
    at false h behind = behind h

state_name_lacks : (w : List ℕ) → is_state_name w ≡ true → (lacks 95 w ≡ true) × (lacks 46 w ≡ true)
state_name_lacks w h =
    let parts = and_parts (is_name w) (not (list_any is_underscore w)) h in
    (none_all w (not-true (list_any is_underscore w) parts.1), all_weaker is_name_byte (λ b. not (b == 46)) w no_dot (bytes_of w parts.0))

-- a name by its number
name_lacks : (names : List (List ℕ)) (n : ℕ) → list_all is_state_name names ≡ true → (lacks 95 (name_of names n) ≡ true) × (lacks 46 (name_of names n) ≡ true)
name_lacks names n h = at (slice_get names n) refl
  where
    at : (o : Option (List ℕ)) → slice_get names n ≡ o → (lacks 95 (unwrap_or o []) ≡ true) × (lacks 46 (unwrap_or o []) ≡ true)
    at None e = (refl, refl)
    at (Some w) e = state_name_lacks w (all_at is_state_name names n w h e)

-- Numbers

no_other : (n : List ℕ) (ns : List (List ℕ)) (j : ℕ) → not (list_any (bytes_eq n) ns) ≡ true → j < length ns → n ≡ name_of ns j → ⊥
no_other n ns j h below e =
    let (x, get) = get_below ns j below in
    let same : n ≡ x = e ∙ ap (λ (o : Option (List ℕ)). unwrap_or o []) get in
    not_both (list_any (bytes_eq n) ns) (any_at (bytes_eq n) ns j x get ((bytes_eq-Decides n x).1 same)) (not-true (list_any (bytes_eq n) ns) h)

-- where no name stands twice, a name has one number
same_number : (names : List (List ℕ)) (i j : ℕ) → are_distinct names ≡ true → i < length names → j < length names
    → name_of names i ≡ name_of names j → i ≡ j
same_number [] i j h a b e = absurd (omega arith)
same_number (n ∷ ns) zero zero h a b e = refl
same_number (n ∷ ns) zero (suc j) h a b e =
    absurd (no_other n ns j (and_parts (not (list_any (bytes_eq n) ns)) (are_distinct ns) h).0 (omega arith) e)
same_number (n ∷ ns) (suc i) zero h a b e =
    absurd (no_other n ns i (and_parts (not (list_any (bytes_eq n) ns)) (are_distinct ns) h).0 (omega arith) (sym e))
same_number (n ∷ ns) (suc i) (suc j) h a b e =
    ap (λ (k : ℕ). suc k) (same_number ns i j (and_parts (not (list_any (bytes_eq n) ns)) (are_distinct ns) h).1 (omega arith) (omega arith) e)

-- Drafts

caches_and_dirs : (d : Draft) → IsWellFormed d → (list_all is_state_name (cache_names d) ≡ true) × (list_all is_state_name (dir_names d) ≡ true)
caches_and_dirs d w =
    let all = and_parts (is_name d.name && list_all is_state_name (cache_names d) && list_all is_state_name (dir_names d)) (list_all is_name (message_names d)) w.names in
    let first = and_parts (is_name d.name && list_all is_state_name (cache_names d)) (list_all is_state_name (dir_names d)) all.0 in
    ((and_parts (is_name d.name) (list_all is_state_name (cache_names d)) first.0).1, first.1)

pub cache_lacks : (d : Draft) → IsWellFormed d → (s : ℕ) → (lacks 95 (cache_name d s) ≡ true) × (lacks 46 (cache_name d s) ≡ true)
cache_lacks d w s = name_lacks (cache_names d) s (caches_and_dirs d w).0

pub dir_lacks : (d : Draft) → IsWellFormed d → (n : ℕ) → (lacks 95 (dir_name d n) ≡ true) × (lacks 46 (dir_name d n) ≡ true)
dir_lacks d w n = name_lacks (dir_names d) n (caches_and_dirs d w).1

distinct : (d : Draft) → IsWellFormed d → (are_distinct (cache_names d) ≡ true) × (are_distinct (dir_names d) ≡ true)
distinct d w =
    let all = and_parts (are_distinct (cache_names d) && are_distinct (dir_names d) && are_distinct (message_names d)) _ w.free in
    and_parts (are_distinct (cache_names d)) (are_distinct (dir_names d))
    (and_parts (are_distinct (cache_names d) && are_distinct (dir_names d)) (are_distinct (message_names d)) all.0).0

pub same_cache : (d : Draft) → IsWellFormed d → (s t : ℕ) → s < length d.caches → t < length d.caches → cache_name d s ≡ cache_name d t → s ≡ t
same_cache d w s t a b e =
    let count : length (cache_names d) ≡ length d.caches = length-map d.caches (λ c. c.name) in
    same_number (cache_names d) s t (distinct d w).0 (omega arith) (omega arith) e

pub same_dir : (d : Draft) → IsWellFormed d → (n m : ℕ) → n < length d.dirs → m < length d.dirs → dir_name d n ≡ dir_name d m → n ≡ m
same_dir d w n m a b e =
    let count : length (dir_names d) ≡ length d.dirs = length-map d.dirs (λ s. s.name) in
    same_number (dir_names d) n m (distinct d w).1 (omega arith) (omega arith) e

-- Messages

messages_named : (d : Draft) → IsWellFormed d → list_all is_name (message_names d) ≡ true
messages_named d w =
    (and_parts (is_name d.name && list_all is_state_name (cache_names d) && list_all is_state_name (dir_names d)) (list_all is_name (message_names d)) w.names).1

pub message_lacks : (d : Draft) → IsWellFormed d → (n : ℕ) → lacks 46 (message_name d n) ≡ true
message_lacks d w n = at (slice_get (message_names d) n) refl
  where
    at : (o : Option (List ℕ)) → slice_get (message_names d) n ≡ o → lacks 46 (unwrap_or o []) ≡ true
    at None e = refl
    at (Some name) e = all_weaker is_name_byte (λ b. not (b == 46)) name no_dot (bytes_of name (all_at is_name (message_names d) n name (messages_named d w) e))

pub same_message : (d : Draft) → IsWellFormed d → (n m : ℕ) → n < length d.messages → m < length d.messages → message_name d n ≡ message_name d m → n ≡ m
same_message d w n m a b e =
    let count : length (message_names d) ≡ length d.messages = length-map d.messages (λ m. m.name) in
    let all = and_parts (are_distinct (cache_names d) && are_distinct (dir_names d) && are_distinct (message_names d)) _ w.free in
    let free = (and_parts (are_distinct (cache_names d) && are_distinct (dir_names d)) (are_distinct (message_names d)) all.0).1 in
    same_number (message_names d) n m free (omega arith) (omega arith) e

-- no message has a name that is taken
pub message_not_taken : (d : Draft) → IsWellFormed d → (n k : ℕ) (name : List ℕ) → n < length d.messages → slice_get taken_names k ≡ Some name
    → message_name d n ≡ name → ⊥
message_not_taken d w n k name below taken e =
    let count : length (message_names d) ≡ length d.messages = length-map d.messages (λ m. m.name) in
    let (x, get) = get_below (message_names d) n (omega arith) in
    let is : name ≡ x = sym e ∙ ap (λ (o : Option (List ℕ)). unwrap_or o []) get in
    let free = (and_parts (are_distinct (cache_names d) && are_distinct (dir_names d) && are_distinct (message_names d)) _ w.free).1 in
    let not_taken = all_at (λ m. not (list_any (bytes_eq m) taken_names)) (message_names d) n x free get in
    not_both (list_any (bytes_eq x) taken_names) (any_at (bytes_eq x) taken_names k name taken ((bytes_eq-Decides x name).1 (sym is)))
    (not-true (list_any (bytes_eq x) taken_names) not_taken)
