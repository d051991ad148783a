-- Which states the directory has.
use Rattle.std.proofs.Common.{◌≡◌, ℕ, ◌⊎◌, Bool, true, List, map, filter, length, Some, arith, inl, inr}
use Rattle.std.specs.Prelude.{slice_get}
use Rattle.std.specs.List.{list_any, range_with_len}
use Rattle.std.proofs.lemmas.Bool.{lt-ltb, ltb-true}
use Rattle.pg_perm.specs.declared.draft.Draft.{Draft}
use Rattle.pg_perm.specs.Drafts.{has_dir}
use Rattle.pg_table.specs.declared.directory.DirDesc.{DirDesc}
use Rattle.pg_table.specs.declared.directory.DirDesc.TheVariants.{State, Busy}
use Rattle.pg_table.specs.Directory.{is_after_share, dir_descs}
use Rattle.pg_table.specs.Tables.{same_dir_desc}
use Rattle.pg_table.proofs.Same.{same_dir_desc_self}
use Rattle.pg_table.proofs.Lists.{IsIn, in_of_slice_get, in_any, in_left, in_right, in_either, in_map, of_map, in_filter, of_filter, in_numbers, of_numbers}

-- a state is among those of the directory
abbrev pub is_dir_state : Draft → DirDesc → Bool
is_dir_state d x = list_any (same_dir_desc x) (dir_descs d)

-- the numbers of the declared states
abbrev numbers : Draft → List ℕ
numbers d = range_with_len 0 (length d.dirs)

-- the declared states, and those that wait for data
abbrev declared : Draft → List DirDesc
declared d = map (λ n. State n) (numbers d)

abbrev waiting : Draft → List DirDesc
waiting d = map (λ n. Busy n) (filter (is_after_share d) (numbers d))

number_in : (d : Draft) (n : ℕ) → has_dir d n ≡ true → IsIn n (numbers d)
number_in d n h = let low = ltb-true n (length d.dirs) h in in_numbers 0 (length d.dirs) n (omega arith) (omega arith)

listed_is_dir_state : (d : Draft) (x : DirDesc) → IsIn x (dir_descs d) → is_dir_state d x ≡ true
listed_is_dir_state d x among = in_any (same_dir_desc x) x (dir_descs d) among (same_dir_desc_self x)

-- a declared state is one, and so is one that waits for data before a state that a share leads to
pub declared_is_dir_state : (d : Draft) (n : ℕ) → has_dir d n ≡ true → is_dir_state d (State n) ≡ true
declared_is_dir_state d n h = listed_is_dir_state d (State n) (in_left (State n) (declared d) (waiting d) (in_map (λ n. State n) n (numbers d) (number_in d n h)))

pub busy_is_dir_state : (d : Draft) (n : ℕ) → has_dir d n ≡ true → is_after_share d n ≡ true → is_dir_state d (Busy n) ≡ true
busy_is_dir_state d n h after = listed_is_dir_state d (Busy n) (in_right (Busy n) (declared d) (waiting d)
    (in_map (λ n. Busy n) n (filter (is_after_share d) (numbers d)) (in_filter (is_after_share d) n (numbers d) after (number_in d n h))))

-- the state before which one waits is declared
pub busy_declared : (d : Draft) (k n : ℕ) → slice_get (dir_descs d) k ≡ Some (Busy n) → has_dir d n ≡ true
busy_declared d k n h = at (in_either (Busy n) (declared d) (waiting d) (in_of_slice_get (dir_descs d) k (Busy n) h))
  where
    at : IsIn (Busy n) (declared d) ⊎ IsIn (Busy n) (waiting d) → has_dir d n ≡ true
    at (inl a) = let (m, there, e) = of_map (λ n. State n) (Busy n) (numbers d) a in absurd (cc e)
    at (inr b) =
        let (m, there, e) = of_map (λ n. Busy n) (Busy n) (filter (is_after_share d) (numbers d)) b in
        let low = (of_numbers 0 (length d.dirs) m (of_filter (is_after_share d) m (numbers d) there).0).1 in
        let same : m ≡ n = cc e in
        lt-ltb n (length d.dirs) (omega arith)
