use Rattle.std.proofs.Common.{◌≡◌, ◌*◌, ℕ, List, [], ◌∷◌, ◌++◌, Option, Some, sym, ap, ◌∙◌, subst}
use Rattle.atomic_table.specs.Table.{opening}
use Rattle.pg_turn.specs.Views.{opened}
use Rattle.pg_turn.specs.Rule.{InOrder}
use Rattle.pg_turn.proofs.Parts.{opens}
use Rattle.pg_turn.proofs.turn.Turn.make.Goals as goal

pub new-requires : goal.new-requires
new-requires g c =
    let k = g.T.Kept in
    let word = 2 * c.count-word.result in
    let slots : c.push_reserved.new.self.items ≡ Some c.args.value ∷ [] = c.push_reserved.ensures.items ∙ ap (λ l. l ++ Some c.args.value ∷ []) c.in-Ok-with_capacity.ensures.items in
    let P = λ (x : g.row.T.Denot × List (Option g.row.T.Denot)). InOrder k.entries k.root k.maker x.0 c.args.seats (opening (word ∷ []) x.1 (opened k.entries k.maker x.0)) in
    subst P (λ i. (sym c.of.ensures i, sym slots i)) (opens k.maker k.entries k.root c.args.value c.args.seats word (ap (λ n. 2 * n) c.count-word.ensures) c.requires.few c.requires.seats)
