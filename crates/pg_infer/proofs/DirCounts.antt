-- How many states the directory controller has.
use Rattle.std.proofs.Common.{◌≡◌, ℕ, ◌≤◌, Bool, true, ◌&&◌, List, length, sym, subst, arith}
use Rattle.std.specs.Prelude.{map, filter}
use Rattle.std.specs.List.{range_with_len}
use Rattle.std.proofs.lemmas.Bool.{leb-true, and_parts}
use Rattle.std.proofs.lemmas.List.{length-append, length-map}
use Rattle.std.proofs.lemmas.List.FromFn.{length-range_with_len}
use Rattle.std.proofs.lemmas.List.Sums.{length-filter, count_by-le-length}
use Rattle.pg_perm.specs.declared.draft.Draft.{Draft}
use Rattle.pg_perm.specs.Drafts.{IsWellFormed}
use Rattle.pg_table.specs.declared.directory.DirDesc.{DirDesc}
use Rattle.pg_table.specs.declared.directory.DirDesc.TheVariants.{State, Busy}
use Rattle.pg_table.specs.Directory.{is_after_share, dir_descs}

-- of six tests that all pass the second does
second : (a b c d e f : Bool) → (a && b && c && d && e && f) ≡ true → b ≡ true
second a b c d e f h = (and_parts a b (and_parts (a && b) c (and_parts (a && b && c) d (and_parts (a && b && c && d) e (and_parts (a && b && c && d && e) f h).0).0).0).0).1

pub dirs_few : (d : Draft) → IsWellFormed d → length d.dirs ≤ 16
dirs_few d well = leb-true (length d.dirs) 16 (second _ _ _ _ _ _ well.limits)

-- the numbers of the directory states
abbrev dir_numbers : Draft → List ℕ
dir_numbers d = range_with_len 0 (length d.dirs)

-- there are at most two states for each that is declared
descs_few : (d : Draft) → IsWellFormed d → length (dir_descs d) ≤ 32
descs_few d well =
    let few = dirs_few d well in
    let after = filter (is_after_share d) (dir_numbers d) in
    let split = length-append (map (λ n. State n) (dir_numbers d)) (map (λ n. Busy n) after) in
    omega (
      arith,
      split,
      length-map (dir_numbers d) (λ n. State n),
      length-map after (λ n. Busy n),
      length-range_with_len 0 (length d.dirs),
      length-filter (is_after_share d) (dir_numbers d),
      count_by-le-length (is_after_share d) (dir_numbers d),
    )

pub states_few : (d : Draft) (states : List DirDesc) → IsWellFormed d → states ≡ dir_descs d → length states ≤ 32
states_few d states well all = subst (λ xs. length xs ≤ 32) (sym all) (descs_few d well)
