use Rattle.std.proofs.Common.{◌≡◌, Some, sym, ◌∙◌}
use mathlib.Core.Option.{some-injective}
use Rattle.pg_turn.proofs.Ends.{Ended, closes, closed}
use Rattle.pg_turn.proofs.turn.Turn.close.Given.{Over}
use Rattle.pg_turn.proofs.turn.Turn.close.Goals as goal

pub unreachable-requires : goal.unreachable-requires
unreachable-requires g c =
    let k = g.T.Kept in
    let all = closes k.entries k.root k.maker c.args.self c.args.passes.items c.gather-seat.result _ _ c.requires c.gather-seat.ensures c.close_with-closed.ensures.values.2 in
    c.in_default.not-Some all.0 (some-injective _ _ (sym c.take.ensures.value ∙ all.1))

ended : (g : Over) (c : goal.After-free g) → Ended g.T.Kept.entries g.T.Kept.root g.T.Kept.maker c.args.self c.args.passes.items c.in-Some.value
ended g c =
    let k = g.T.Kept in
    closed k.entries k.root k.maker c.args.self c.args.passes.items _ c.in-Some.value
    (closes k.entries k.root k.maker c.args.self c.args.passes.items c.gather-seat.result _ _ c.requires c.gather-seat.ensures c.close_with-closed.ensures.values.2)
    c.in-Some.ensures.value

pub returns-clause-root : goal.returns-clause-root
returns-clause-root g c = (ended g c).rooted

pub returns-clause-begins : goal.returns-clause-begins
returns-clause-begins g c = (ended g c).begins

pub returns-clause-told : goal.returns-clause-told
returns-clause-told g c = (ended g c).told

pub returns-clause-named : goal.returns-clause-named
returns-clause-named g c = (ended g c).named
