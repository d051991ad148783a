-- What is known of a well-formed draft, part by part.
use Rattle.std.proofs.Common.{◌≡◌, ℕ, ◌+◌, ◌≤◌, Bool, true, List, length, bytes_eq}
use Rattle.std.specs.Prelude.{◌&&◌, not, nat_le}
use Rattle.std.specs.List.{list_all, list_any}
use Rattle.std.proofs.lemmas.Bool.{and_parts, leb-true}
use Rattle.pg_perm.specs.Names.{is_name, is_state_name}
use Rattle.pg_perm.specs.declared.draft.Draft.{Draft}
use Rattle.pg_perm.specs.Drafts.{cache_names, dir_names, message_names, taken_names, rule_line_count, are_distinct, has_names, has_free_names, has_numbers, has_limits, has_cache, has_core, has_take, has_row, pair_count, IsWellFormed}

-- no name is among those that no message may have
abbrev pub are_free : List (List ℕ) → Bool
are_free names = list_all (λ m. not (list_any (bytes_eq m) taken_names)) names

-- each name of a draft is one of its kind
pub record NamesAre (d : Draft) : Type 0 where
  pub protocol : is_name d.name ≡ true
  pub caches : list_all is_state_name (cache_names d) ≡ true
  pub dirs : list_all is_state_name (dir_names d) ≡ true
  pub messages : list_all is_name (message_names d) ≡ true

-- the names of a well-formed draft
names_are : (d : Draft) → has_names d ≡ true → NamesAre d
names_are d h =
    let last = and_parts (is_name d.name && list_all is_state_name (cache_names d) && list_all is_state_name (dir_names d)) (list_all is_name (message_names d)) h in
    let third = and_parts (is_name d.name && list_all is_state_name (cache_names d)) (list_all is_state_name (dir_names d)) last.0 in
    let first = and_parts (is_name d.name) (list_all is_state_name (cache_names d)) third.0 in
    record { protocol = first.0; caches = first.1; dirs = third.1; messages = last.1 }

-- the limits of a draft
pub record LimitsAre (d : Draft) : Type 0 where
  pub caches : length d.caches ≤ 16
  pub dirs : length d.dirs ≤ 16
  pub messages : length d.messages ≤ 32
  pub rules : length d.cores + length d.takes + length d.rows ≤ 512
  pub beside : list_all (λ s. nat_le (length s.beside) 77) d.dirs ≡ true
  pub pairs : list_all (λ c. nat_le (pair_count c.form) 38) d.cores ≡ true

-- the limits hold
limits_are : (d : Draft) → has_limits d ≡ true → LimitsAre d
limits_are d h =
    let a : Bool = nat_le (length d.caches) 16 in
    let b : Bool = nat_le (length d.dirs) 16 in
    let c : Bool = nat_le (length d.messages) 32 in
    let e : Bool = nat_le (rule_line_count d) 512 in
    let f : Bool = list_all (λ s. nat_le (length s.beside) 77) d.dirs in
    let g : Bool = list_all (λ c. nat_le (pair_count c.form) 38) d.cores in
    let sixth = and_parts (a && b && c && e && f) g h in
    let fifth = and_parts (a && b && c && e) f sixth.0 in
    let fourth = and_parts (a && b && c) e fifth.0 in
    let third = and_parts (a && b) c fourth.0 in
    let first = and_parts a b third.0 in
    record {
      caches = leb-true (length d.caches) 16 first.0;
      dirs = leb-true (length d.dirs) 16 first.1;
      messages = leb-true (length d.messages) 32 third.1;
      rules = leb-true (rule_line_count d) 512 fourth.1;
      beside = fifth.1;
      pairs = sixth.1;
    }

-- each line uses what is declared
pub record NumbersAre (d : Draft) : Type 0 where
  pub beside : list_all (λ s. list_all (has_cache d) s.beside) d.dirs ≡ true
  pub cores : list_all (has_core d) d.cores ≡ true
  pub takes : list_all (has_take d) d.takes ≡ true
  pub rows : list_all (has_row d) d.rows ≡ true

-- the numbers of a well-formed draft are those of lines
numbers_are : (d : Draft) → has_numbers d ≡ true → NumbersAre d
numbers_are d h =
    let a : Bool = list_all (λ s. list_all (has_cache d) s.beside) d.dirs in
    let last = and_parts (a && list_all (has_core d) d.cores && list_all (has_take d) d.takes) (list_all (has_row d) d.rows) h in
    let third = and_parts (a && list_all (has_core d) d.cores) (list_all (has_take d) d.takes) last.0 in
    let first = and_parts a (list_all (has_core d) d.cores) third.0 in
    record { beside = first.0; cores = first.1; takes = third.1; rows = last.1 }

-- no name stands twice, and that of a message is not taken
pub record NamesFree (d : Draft) : Type 0 where
  pub caches : are_distinct (cache_names d) ≡ true
  pub dirs : are_distinct (dir_names d) ≡ true
  pub messages : are_distinct (message_names d) ≡ true
  pub free : are_free (message_names d) ≡ true

-- the names of a well-formed draft are free
names_free : (d : Draft) → has_free_names d ≡ true → NamesFree d
names_free d h =
    let last = and_parts (are_distinct (cache_names d) && are_distinct (dir_names d) && are_distinct (message_names d)) (are_free (message_names d)) h in
    let third = and_parts (are_distinct (cache_names d) && are_distinct (dir_names d)) (are_distinct (message_names d)) last.0 in
    let first = and_parts (are_distinct (cache_names d)) (are_distinct (dir_names d)) third.0 in
    record { caches = first.0; dirs = first.1; messages = third.1; free = last.1 }

-- what is known of a well-formed draft
pub record WellFormedParts (d : Draft) : Type 0 where
  pub names : NamesAre d
  pub free : NamesFree d
  pub numbers : NumbersAre d
  pub limits : LimitsAre d

-- each part of what makes a draft well formed
pub well_formed_parts : (d : Draft) → IsWellFormed d → WellFormedParts d
well_formed_parts d w =
    record { names = names_are d w.names; free = names_free d w.free; numbers = numbers_are d w.numbers; limits = limits_are d w.limits }
