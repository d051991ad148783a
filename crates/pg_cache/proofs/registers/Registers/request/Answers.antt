use Rattle.std.proofs.Common.{◌<◌, length, sym, subst}
use Rattle.pg_cache.specs.contracts.registers.Registers.{the_view}
use Rattle.pg_cache.specs.Acts.{LineView}
use Rattle.pg_cache.proofs.Slots.{asks}
use Rattle.pg_cache.proofs.registers.Registers.request.Goals as goal

pub returns : goal.returns
returns c =
    let low = subst (λ (x : LineView). x.core < length c.args.wires.now.slots) (sym c.self.view_is) c.requires in
    rw (c.ask.ensures, c.ask_for-ask.ensures, ← c.self.view_is, ← c.met.view_is) (asks (the_view c.self.inside) c.args.wires.now _ _ c.args.done.now low)
