use Rattle.std.proofs.Common.{◌≡◌, length}
use Rattle.pg_cache.specs.Acts as does
use Rattle.pg_cache.specs.Acts.{progress}
use Rattle.pg_cache.proofs.registers.Registers.serve.Given as goal

abbrev pub invariant-loop-message : goal.invariant-loop-message
invariant-loop-message l =
    (does.after_deferred l.draft l.state l.self.line.deferred (progress l.self l.wires l.done) ≡ does.after_deferred l.draft l.initial.state l.initial.self.line.deferred (progress l.initial.self l.initial.wires l.done))
    × does.IsWithinLimit (does.after_deferred l.draft l.state l.self.line.deferred (progress l.self l.wires l.done))

abbrev pub decreases-loop-message : goal.decreases-loop-message
decreases-loop-message l = length l.self.line.deferred
