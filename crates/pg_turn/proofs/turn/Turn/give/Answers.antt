use Rattle.std.proofs.Common.{◌≡◌, ◌<◌, ◌*◌, ℕ, List, [], ◌∷◌, Option, Some, length, drop, sym, ap, ◌∙◌, subst, arith}
use mathlib.Core.Option.{none}
use Rattle.atomic_table.specs.Table.{step, rest}
use Rattle.pg_turn.specs.Entries.{Names}
use Rattle.pg_turn.proofs.Steps.{releases}
use Rattle.pg_turn.proofs.turn.Turn.give.Goals as goal

pub store-requires : goal.store-requires
store-requires g c =
    let k = g.T.Kept in
    let z = c.args.self.now.table.shared.table_id in
    let key = c.args.self.now.table.shared.key in
    let seat = c.args.pass.now.seat in
    let words = c.args.self.now.words in
    let x = c.exchange-hole.ensures in
    let named = subst (λ n. Names k.maker n (drop (length seat.me.0.own.seen) (k.entries c.args.value))) (sym c.requires.pass.number_is) c.requires.own in (
      x.0 ∙ c.requires.pass.table,
      omega (arith, words),
      releases k.maker k.entries k.root key.value.value key.seats z.slots c.exchange-hole.new.seat.id seat.me.0 c.args.value (rest seat.me.1) c.exchange-hole.new.seat.me (2 * c.count-word.result) (step z.slots 0 (2 * c.count-word.result) 0 none) c.args.self.now.slots x.3 c.requires.pass.live c.requires.holding c.requires.root
          c.requires.begins named c.requires.few (ap (λ n. 2 * n) c.count-word.ensures),
    )
