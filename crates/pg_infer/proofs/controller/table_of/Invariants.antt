use Rattle.std.proofs.Common.{◌≡◌, map, take}
use Rattle.pg_infer.specs.Steps.{state_of}
use Rattle.pg_infer.proofs.controller.table_of.Given as goal

-- the states so far
abbrev pub invariant-loop-state : goal.invariant-loop-state
invariant-loop-state g l = l.table ≡ map (state_of g.D.PartialEq.eq l.states (g.D.State.choice l.protocol l.mode) l.inputs) (take l.state-index l.states)
