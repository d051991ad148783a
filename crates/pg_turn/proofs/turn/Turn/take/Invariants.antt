use Rattle.std.proofs.Common.{◌≡◌, ◌≤◌, false}
use Rattle.pg_turn.specs.Passes.{IsOf, IsMissed, miss_count, is_holding}
use Rattle.pg_turn.proofs.turn.Turn.take.Given as goal

-- nothing has changed yet but how often the value was found taken
abbrev pub invariant-loop : goal.invariant-loop
invariant-loop g l =
    (goal.iterator-loop g).can_next l.iterator' × (goal.iterator-loop g).is_finite l.iterator' × IsOf l.self l.pass × IsMissed l.fn.pass l.pass × (is_holding l.pass ≡ false)
    × (miss_count l.fn.pass ≤ miss_count l.pass)
