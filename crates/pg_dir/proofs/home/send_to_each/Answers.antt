use Rattle.std.proofs.Common.{◌≡◌, ◌≤◌, ◌∷◌, suc, length, sym, ap, subst, ◌∙◌, arith}
use Rattle.pg_queue.specs.Nets as nets
use Rattle.pg_dir.specs.Effects as effect
use Rattle.pg_dir.specs.Numbers as numbers
use Rattle.pg_dir.proofs.Sending.{one_ordered}
use Rattle.pg_dir.proofs.home.send_to_each.Goals as goal

pub loop-core-preserved : goal.loop-core-preserved
loop-core-preserved c =
    let is = c.loop-core.invariant in
    let cut : c.loop-core.left ≡ c.in-Some.core ∷ c.pop_first.new.self = c.in-Some.ensures.first in
    let size : length c.loop-core.left ≡ suc (length c.pop_first.new.self) = ap length cut in
    let one = one_ordered c.in-Some.core c.args.message c.loop-core.w in (
      ap (effect.send_to_each c.args.message c.pop_first.new.self) c.order_to.ensures ∙ ap (λ xs. effect.send_to_each c.args.message xs c.loop-core.w) (sym cut) ∙ is.0,
      subst (λ (v : nets.Nets). length c.pop_first.new.self ≤ nets.spare v) (sym c.order_to.ensures) (omega (arith, one, size, is.1)),
      subst (λ (v : nets.Nets). numbers.AreBelow (length v.slots) c.pop_first.new.self) (sym c.order_to.ensures) ((subst (numbers.AreBelow (length c.loop-core.w.slots)) cut is.2).1),
      ap (λ v. length v.slots) c.order_to.ensures ∙ is.3,
      omega (arith, size, is.4),
      is.5,
    )
