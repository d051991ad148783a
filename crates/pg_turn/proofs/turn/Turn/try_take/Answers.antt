use Rattle.std.proofs.Common.{◌≡◌, ◌<◌, ◌%◌, ℕ, List, [], ◌∷◌, Option, Some, bit_or, sym, ap, ◌∙◌, subst, arith}
use mathlib.Core.Option.{none}
use Rattle.atomic_table.specs.Table.{Allows, step, rest}
use Rattle.pg_turn.specs.Views.{grabbed}
use Rattle.pg_turn.specs.Rule.{InOrder}
use Rattle.pg_turn.specs.Passes.{slots_out}
use Rattle.pg_turn.proofs.Steps.{grabs}
use Rattle.pg_turn.proofs.turn.Turn.try_take.Goals as goal

pub fetch_or-found-requires : goal.fetch_or-found-requires
fetch_or-found-requires g c =
    let k = g.T.Kept in
    let z = c.args.self.now.table.shared.table_id in
    let key = c.args.self.now.table.shared.key in
    let seat = c.args.pass.now.seat in
    let words = c.args.self.now.words in
    let empty : seat.me.1 ≡ [] = c.requires.pass.slots ∙ ap slots_out c.requires.idle in
    let P = λ (l : List (ℕ × Option g.row.T.Denot)). Allows (InOrder k.entries k.root k.maker key.value.value key.seats) z.slots seat.id (seat.me.0, l) 0 (λ n. bit_or n 1) (grabbed k.entries k.root k.maker (step z.slots 0 1 0 none) (seat.me.0, l)) in
    (c.requires.pass.table, omega (arith, words), subst P (sym empty) (grabs k.maker k.entries k.root key.value.value key.seats z.slots seat.id seat.me.0 (step z.slots 0 1 0 none) c.requires.pass.live c.requires.idle))

pub exchange-requires : goal.exchange-requires
exchange-requires g c =
    let e = c.fetch_or-found.ensures in
    let odd = c.if-found-eq1.false in
    let even : c.fetch_or-found.result % 2 ≡ 0 = omega arith in
    let won = e.2.1 even in
    let out = ap (λ m. m.1) won.1 in
    (e.0 ∙ c.requires.pass.table, (Some won.0, out ∙ ap (λ l. (0, Some won.0) ∷ l) (sym (ap rest out))))
