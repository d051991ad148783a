use Rattle.std.proofs.Common.{◌≡◌, length}
use Rattle.pg_atomic_run.specs.Blocks.{AreOpen}
use Rattle.pg_atomic_run.proofs.run.open_blocks.Given as goal

-- so many blocks are open
abbrev pub invariant-loop : goal.invariant-loop
invariant-loop l = (length l.opened.items ≡ l.counter) × AreOpen l.protocol l.cores l.opened.items
