-- Blocks in which nothing has happened yet.
use Rattle.std.specs.Prelude.{ℕ, zero, suc, ◌≡◌, ◌+◌, ◌*◌, ◌-◌, List, [], ◌∷◌, length}
use Rattle.pg_table.specs.declared.cache.Desc.TheVariants.{Stable}
use Rattle.pg_table.specs.Tables.{Parts, number_of}
use Rattle.pg_table.specs.Sound.{states_of}
use Rattle.pg_table.specs.Descriptors.{out_state}
use Rattle.pg_controllers.specs.Networks.{idle_line}
use Rattle.pg_queue.specs.Nets.{empty_nets}
use Rattle.pg_cache.specs.Acts.{LineView}
use Rattle.pg_dir.specs.Numbers.{IsNumbered, initial_directory}
use Rattle.pg_block.specs.Blocks.{Block, Limits}

-- the line of core c of n, in the out state
abbrev pub new_line : Parts → ℕ → ℕ → LineView
new_line t n c = record { line = idle_line (out_state t.protocol); state = number_of (states_of t.cache) (Stable (out_state t.protocol)); core = c; room = n - 1 }

-- the lines of m cores from core k on
abbrev pub new_lines : Parts → ℕ → ℕ → ℕ → List LineView
new_lines t n k zero = []
new_lines t n k (suc m) = new_line t n k ∷ new_lines t n (suc k) m

-- room for each of k operations to be ordered, done, and worked on
abbrev pub limits_for : ℕ → ℕ → Limits
limits_for k n = record { order = k + 1; done = k + 1; journal = k * (2 * n + 2) }

-- each core's line is in the out state, nothing is on its way, the directory is as at first, and nothing has happened
pub record IsNew (b : Block) : Type 0 where
  pub lines : b.lines ≡ new_lines b.tables (length b.programs) 0 (length b.programs)
  pub nets : b.nets ≡ empty_nets (length b.programs)
  pub cores : b.directory.cores ≡ length b.programs
  pub directory : b.directory.directory ≡ initial_directory b.tables.protocol
  pub numbered : IsNumbered b.tables.home b.directory
  pub order : b.order ≡ []
  pub done : b.done ≡ []
  pub journal : b.journal ≡ []
