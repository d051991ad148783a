use Rattle.std.proofs.Common.{◌≡◌, ◌<◌, ◌+◌, ℕ, List, [], ◌∷◌, ◌++◌, length, get_or, Some, refl, vec_len, sym, ap, ◌∙◌, subst, arith, rules}
use Rattle.std.specs.Prelude.{slice_get}
use Rattle.pg_turn.proofs.Parts.{cuts}
use Rattle.pg_turn.proofs.Rows.{Dealt, get_first, dealt_more}
use Rattle.pg_turn.proofs.making.deal.Goals as goal

pub split_seat-seat-requires : goal.split_seat-seat-requires
split_seat-seat-requires g c =
    let k = g.T.Kept in
    let key = c.args.turn.now.table.shared.key in
    let words = c.args.turn.now.words in
    let d = c.loop-number.invariant.2 in
    let count = d.count in
    let below = c.loop-number-test.true in
    let from = c.loop-number.auto.number in
    let p = c.index_mut.result.now in
    let at : slice_get c.loop-number.passes.items 0 ≡ Some p = get_first _ _ (omega arith) c.index_mut.ensures.value in
    let f = d.each 0 p at in
    let given = d.first p at in
    let all = c.requires.seats in
    (f.is_of.table, omega (arith, words), cuts k.maker k.entries k.root key.value.value key.seats p.seat.id p.seat.me.0 f.is_of.live (omega arith) (omega arith))

pub loop-number-preserved : goal.loop-number-preserved
loop-number-preserved g c =
    let k = g.T.Kept in
    let i = c.loop-number.invariant in
    let d = i.2 in
    let count = d.count in
    let from = c.loop-number.auto.number in
    let p = c.index_mut.result.now in
    let at : slice_get c.loop-number.passes.items 0 ≡ Some p = get_first _ _ (omega arith) c.index_mut.ensures.value in
    let s = c.split_seat-seat.ensures in
    let more = dealt_more k.entries k.maker c.args.turn.now c.loop-number.passes.items c.loop-number.number p (record { number = p.number; seat = c.split_seat-seat.new.seat })
    (record { number = c.loop-number.number; seat = c.split_seat-seat.result }) d at refl s.0 s.2 refl s.3 s.4 in (
      search rules,
      search rules,
      subst (λ l. Dealt k.entries k.maker c.args.turn.now l (c.loop-number.number + 1)) (sym c.push_reserved-in-loop-number.ensures.items) more,
    )
