use Rattle.std.proofs.Common.{refl}
use Rattle.pg_drill.specs.Drills.{drill_text}
use Rattle.pg_drill.proofs.Atomic.{tells_drill}
use Rattle.pg_drill.proofs.laws.drills_are_atomic_runs.Goals as goal

pub returns : goal.returns
returns c m seed cores blocks ops is = tells_drill m seed cores blocks ops (drill_text m seed cores blocks ops) refl
