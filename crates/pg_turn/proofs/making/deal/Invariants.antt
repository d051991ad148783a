use Rattle.std.proofs.Common.{◌≡◌, ◌≤◌, vec_len, vec_capacity}
use Rattle.pg_turn.proofs.Rows.{Dealt}
use Rattle.pg_turn.proofs.making.deal.Given as goal

abbrev pub invariant-loop-number : goal.invariant-loop-number
invariant-loop-number g l =
    (vec_capacity l.passes ≡ l.seats) × (vec_len l.passes ≡ l.number) × Dealt g.T.Kept.entries g.T.Kept.maker l.turn l.passes.items l.number
