-- The lines and the networks of a world, as the code of a line sees them.
use Rattle.std.specs.Prelude.{ℕ, ◌-◌, List, map}
use Rattle.pg_table.specs.Tables.{TableState, number_of}
use Rattle.pg_table.specs.Sound.{states_of}
use Rattle.pg_controllers.specs.Worlds.{World, core}
use Rattle.pg_queue.specs.Nets.{Nets}
use Rattle.pg_cache.specs.Acts.{LineView}

-- by core its slot and its list, and the replies
abbrev pub nets_of : World → Nets
nets_of w = record { slots = map (λ x. x.slot) w.cores; lists = map (λ x. x.queue) w.cores; replies = w.replies }

-- the line of one of n cores, which may defer a forward for each other core
abbrev pub line_of : List TableState → ℕ → World → ℕ → LineView
line_of t n w c = record { line = (core w c).line; state = number_of (states_of t) (core w c).line.desc; core = c; room = n - 1 }
