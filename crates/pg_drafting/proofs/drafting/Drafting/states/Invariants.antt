use Rattle.std.proofs.Common.{◌≡◌, length}
use Rattle.pg_drafting.specs.Draft.{draft_of}
use Rattle.pg_drafting.specs.Numbering.{states_of}
use Rattle.pg_drafting.proofs.Numbers.{with_front}
use Rattle.pg_drafting.proofs.drafting.Drafting.states.Given as goal

-- the states so far, and those of what is left, are those of all
abbrev pub invariant-loop-name : goal.invariant-loop-name
invariant-loop-name l = with_front l.states (states_of (draft_of l.self) l.left) ≡ states_of (draft_of l.self) l.names

abbrev pub decreases-loop-name : goal.decreases-loop-name
decreases-loop-name l = length l.left
