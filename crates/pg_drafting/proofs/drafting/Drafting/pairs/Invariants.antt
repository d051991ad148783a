use Rattle.std.proofs.Common.{◌≡◌, length}
use Rattle.pg_drafting.specs.Draft.{draft_of}
use Rattle.pg_drafting.specs.Numbering.{pairs_of}
use Rattle.pg_drafting.proofs.Numbers.{with_front}
use Rattle.pg_drafting.proofs.drafting.Drafting.pairs.Given as goal

-- the pairs so far, and those of what is left, are those of all
abbrev pub invariant-loop-reply : goal.invariant-loop-reply
invariant-loop-reply l = with_front l.pairs (pairs_of (draft_of l.self) l.left) ≡ pairs_of (draft_of l.self) l.names

abbrev pub decreases-loop-reply : goal.decreases-loop-reply
decreases-loop-reply l = length l.left
