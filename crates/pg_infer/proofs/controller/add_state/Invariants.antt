use Rattle.std.proofs.Common.{◌≡◌, [], ◌∷◌, ◌++◌, take}
use Rattle.pg_infer.proofs.Steps.{state_with}
use Rattle.pg_infer.proofs.controller.add_state.Given as goal

-- the last state has its rows at the inputs so far
abbrev pub invariant-loop-input : goal.invariant-loop-input
invariant-loop-input g l = l.table ≡ l.fn.table ++ state_with g.D.PartialEq.eq l.states (g.D.State.choice l.protocol l.mode l.state) (take l.input-index l.inputs) l.state ∷ []
