-- The idle directory state is there, and it has its place in the table.
use Rattle.std.proofs.Common.{◌≡◌, ℕ, zero, suc, ◌+◌, ◌<◌, List, [], ◌++◌, map, length, Option, Some, None, refl, sym, ap, ◌∙◌, arith}
use Rattle.std.specs.Prelude.{IsSome, position, unwrap_or, slice_get}
use Rattle.std.specs.List.{list_any, range_with_len}
use Rattle.std.specs.Option.{option_map}
use Rattle.pg_perm.specs.declared.draft.Draft.{Draft}
use Rattle.pg_shape.specs.Shaped.{IsShaped}
use Rattle.pg_shape.proofs.Searches.{map_or_get, any_at, position_get, position_none, not_both}
use Rattle.pg_directory.specs.DirEntries.{initial_entry}
use Rattle.pg_table.specs.declared.directory.DirDesc.{DirDesc}
use Rattle.pg_table.specs.declared.directory.DirDesc.TheVariants.{State}
use Rattle.pg_table.specs.Directory.{dir_descs, dir_inputs, dir_choice}
use Rattle.pg_table.specs.Tables.{DirTableState, same_dir_desc, dir_table}
use Rattle.pg_table.proofs.ControllerRows.{state_listed}
use Rattle.pg_controllers.specs.Directories.{Directory}
use Rattle.pg_dir.specs.Numbers.{is_idle, initial_directory}

pub has_idle : (d : Draft) (o : Option ℕ) → IsShaped d → o ≡ position is_idle d.dirs → IsSome o
has_idle d (Some i) shaped e = refl
has_idle d None shaped e =
    let (n, is_kind) = shaped.lists.idle in
    let (l, at, passes) = map_or_get is_idle _ is_kind in
    absurd (not_both (list_any is_idle d.dirs) (any_at is_idle d.dirs n l at passes) (position_none is_idle d.dirs (sym e)))

-- the declared states stand first, by their numbers
declared_at : (a n i : ℕ) (rest : List DirDesc) → i < n → slice_get (map (λ k. State k) (range_with_len a n) ++ rest) i ≡ Some (State (a + i))
declared_at a zero i rest h = absurd (omega (arith, h))
declared_at a (suc n) zero rest h = let e : a ≡ a + 0 = omega arith in ap (λ k. Some (State k)) e
declared_at a (suc n) (suc i) rest h =
    let e : a + 1 + i ≡ a + suc i = omega arith in
    declared_at (a + 1) n i rest (omega (arith, h)) ∙ ap (λ k. Some (State k)) e

-- the place of the idle state in the table
pub idle_place : (d : Draft) (t : List DirTableState) (i : ℕ) → t ≡ dir_table d → position is_idle d.dirs ≡ Some i → option_map (λ s. s.desc) (slice_get t i) ≡ Some (State i)
idle_place d t i e found =
    ap (λ t. option_map (λ s. s.desc) (slice_get t i)) e
    ∙ state_listed same_dir_desc (dir_choice d) dir_inputs (dir_descs d) (dir_descs d) i
    ∙ declared_at 0 (length d.dirs) i _ (position_get is_idle d.dirs i found).0
    ∙ ap (λ k. Some (State k)) same
  where
    same : 0 + i ≡ i
    same = omega arith

idle_is_initial : (d : Draft) (i : ℕ) → position is_idle d.dirs ≡ Some i → i ≡ (initial_entry d).dir
idle_is_initial d i found = ap (λ o. unwrap_or o 0) (sym found)

pub made_initial : (d : Draft) (i : ℕ) (cores : List ℕ) → position is_idle d.dirs ≡ Some i → cores ≡ []
    → let made : Directory = record { desc = State i; memory = 0; owner = None; sharers = cores; last = 0 } in made ≡ initial_directory d
made_initial d i cores found none =
    ap (λ (j : ℕ). record { desc = State j; memory = 0; owner = None; sharers = cores; last = 0 }) (idle_is_initial d i found)
    ∙ ap (λ (cs : List ℕ). record { desc = State (initial_entry d).dir; memory = 0; owner = None; sharers = cs; last = 0 }) none
