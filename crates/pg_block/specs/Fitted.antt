-- How the parts of a block fit each other, and what an event leaves as it is.
use Rattle.std.specs.Prelude.{ℕ, ◌≡◌, ◌<◌, ◌≤◌, ◌-◌, length}
use Rattle.pg_table.specs.Tables.{Parts, number_of}
use Rattle.pg_table.specs.Sound.{states_of}
use Rattle.pg_cache.specs.Acts.{LineView}
use Rattle.pg_dir.specs.Numbers.{IsNumbered}
use Rattle.pg_block.specs.Blocks.{Block, IsSized, given_of, line_at}

-- the line is that of core c of n, and the number of its state is the one that the tables have for it
pub record IsPlacedLine (t : Parts) (n c : ℕ) (x : LineView) : Type 0 where
  pub core : x.core ≡ c
  pub room : x.room ≡ n - 1
  pub state : x.state ≡ number_of (states_of t.cache) x.line.desc

-- each part fits the others
pub record IsFitted (b : Block) : Type 0 where
  pub sized : IsSized b
  pub few : length b.lines ≤ 64
  pub lines : (c : ℕ) → c < length b.lines → IsPlacedLine b.tables (length b.lines) c (line_at b c)
  pub cores : b.directory.cores ≡ length b.lines
  pub numbered : IsNumbered b.tables.home b.directory

-- what an event leaves as it is
pub record Continues (a b : Block) : Type 0 where
  pub tables : b.tables ≡ a.tables
  pub given : given_of b.programs ≡ given_of a.programs
  pub journal : b.journal ≡ a.journal
  pub limits : b.limits ≡ a.limits
  pub fitted : IsFitted b
