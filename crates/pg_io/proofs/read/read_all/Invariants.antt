use Rattle.std.proofs.Common.{◌≡◌, ◌<◌, ◌+◌, length}
use Rattle.pg_io.specs.Source.{Gave}
use Rattle.pg_io.proofs.read.read_all.Given as goal

abbrev pub invariant-loop-count : goal.invariant-loop-count
invariant-loop-count g l = record {
  given : Gave (g.S.Source.left l.initial.source) (g.S.Source.left l.source) l.all.items;
  faults : g.S.Source.faults l.source ≡ g.S.Source.faults l.initial.source;
  counted : l.room + length l.all.items ≡ l.limit + 1;
  some : 0 < l.room;
}

abbrev pub decreases-loop-count : goal.decreases-loop-count
decreases-loop-count g l = l.room
