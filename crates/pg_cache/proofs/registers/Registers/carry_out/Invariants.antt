use Rattle.std.proofs.Common.{◌≡◌, drop}
use Rattle.pg_cache.specs.Acts as does
use Rattle.pg_cache.specs.Acts.{progress}
use Rattle.pg_cache.proofs.registers.Registers.carry_out.Given as goal

abbrev pub invariant-loop-what : goal.invariant-loop-what
invariant-loop-what l =
    does.AllFit l.draft l.met (drop l.what-index l.acts) (progress l.self l.wires l.done)
    × (does.after_acts l.draft l.met (drop l.what-index l.acts) (progress l.self l.wires l.done) ≡ does.after_acts l.draft l.met l.acts (progress l.initial.self l.initial.wires l.initial.done))
