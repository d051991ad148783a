-- Sound tables: at each input that may come a state has one row, which does what the protocol allows there and leads to a state of the table.
-- Which forwards wait and which are taken may differ from row to row. Whatever is said of a protocol's controllers holds of each sound table.
use Rattle.std.specs.Prelude.{ℕ, ◌≡◌, Bool, true, List, [], ◌∷◌, map, Some, slice_get}
use Rattle.std.specs.List.{IsDistinct}
use Rattle.pg_perm.specs.declared.kinds.Mode.TheVariants as mode
use Rattle.pg_perm.specs.declared.draft.Draft.{Draft}
use Rattle.pg_table.specs.declared.cache.Desc.{Desc}
use Rattle.pg_table.specs.declared.cache.Input.{Input}
use Rattle.pg_table.specs.Controllers.{rows_for_by, is_among_by, state_at}
use Rattle.pg_table.specs.Descriptors.{descs}
use Rattle.pg_table.specs.Choices.{Choice, choices}
use Rattle.pg_table.specs.Tables.{Row, TableState, DirTableState, same_input, same_desc, dir_table}

-- a state is among these
abbrev pub is_among : List Desc → Desc → Bool
is_among = is_among_by same_desc

-- the states that a table has
abbrev pub states_of : List TableState → List Desc
states_of t = map (λ s. s.desc) t

-- the rows for an input
abbrev pub rows_for : Input → List Row → List Row
rows_for = rows_for_by same_input

-- a row does what one of the choices says, and goes on to the state of the table that it names
abbrev pub Follows : List TableState → List Choice → Row → Type 0
Follows t cs r = (k : ℕ) × (c : Choice) × (slice_get cs k ≡ Some c) × (r.acts ≡ c.acts) × (state_at t r.next ≡ Some c.next)

-- an input that can't come has no row, and another has one, which follows one of its choices
abbrev pub Answers : List TableState → List Choice → List Row → Type 0
Answers t [] rows = rows ≡ []
Answers t (c ∷ cs) rows = (r : Row) × (rows ≡ r ∷ []) × Follows t (c ∷ cs) r

-- a table of a cache controller is sound
pub record IsSoundCache (d : Draft) (t : List TableState) : Type 0 where
  -- no state stands twice
  pub distinct : IsDistinct same_desc (states_of t)
  -- each state is one of the protocol, and those are there that it has where every forward waits
  pub known : (s : Desc) → is_among (states_of t) s ≡ true → is_among (descs d mode.Defer) s ≡ true
  pub needed : (s : Desc) → is_among (descs d mode.Stall) s ≡ true → is_among (states_of t) s ≡ true
  -- at each input that may come each state has one row, which follows one of the choices and leads to a state of the table; at no other it has one
  pub answers : (n : ℕ) (s : TableState) (i : Input) → slice_get t n ≡ Some s → Answers t (choices d s.desc i) (rows_for i s.rows)
  -- each row is for one input
  pub single : (n k : ℕ) (s : TableState) (r : Row) → slice_get t n ≡ Some s → slice_get s.rows k ≡ Some r → (i : Input) × (r.inputs ≡ i ∷ [])

-- the tables of both controllers are sound: that of the directory controller is the one that is generated
pub record IsSound (d : Draft) (t : List TableState) (h : List DirTableState) : Type 0 where
  pub cache : IsSoundCache d t
  pub home : h ≡ dir_table d
