use Rattle.std.proofs.Common.{◌≡◌, ◌<◌, ℕ, List, [], ◌∷◌, ◌++◌, Some, refl, sym, ap, ◌∙◌, subst, arith}
use Rattle.pg_turn.specs.Passes.{slots_out}
use Rattle.pg_turn.proofs.Parts.{joins}
use Rattle.pg_turn.proofs.Ends.{gathered_one, gathered_last, gathered_more}
use Rattle.pg_turn.proofs.closing.gather.Goals as goal

pub loop-other-init : goal.loop-other-init
loop-other-init g c = gathered_one c.args.turn.now c.args.passes.items c.pop.new.self.items c.in-Some.field-0 c.requires c.in-Some.ensures.items

pub join_seat-requires : goal.join_seat-requires
join_seat-requires g c =
    let k = g.T.Kept in
    let key = c.args.turn.now.table.shared.key in
    let words = c.args.turn.now.words in
    let i = c.loop-other.invariant in
    let seat = c.loop-other.whole in
    let p = c.in-Some-pop.field-0 in
    let last = gathered_last c.args.turn.now c.args.passes.items c.loop-other.passes.items c.pop-in-loop-other.new.self.items seat p i c.in-Some-pop.ensures.items in (
      i.table,
      last.0.table,
      last.0.slots ∙ ap slots_out last.2,
      omega (arith, words),
      joins k.maker k.entries k.root key.value.value key.seats seat.id seat.me.0 p.seat.id p.seat.me.0 i.live last.0.live last.2,
    )

pub loop-other-preserved : goal.loop-other-preserved
loop-other-preserved g c =
    let s = c.join_seat.ensures in
    gathered_more c.args.turn.now c.args.passes.items c.loop-other.passes.items c.pop-in-loop-other.new.self.items c.loop-other.whole c.join_seat.new.seat c.in-Some-pop.field-0
    c.loop-other.invariant c.in-Some-pop.ensures.items s.0 s.2
