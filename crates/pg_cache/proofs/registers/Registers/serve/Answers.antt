use Rattle.std.proofs.Common.{List, sym, subst}
use Rattle.pg_messages.specs.declared.messages.Ordered.{Ordered}
use Rattle.pg_cache.specs.contracts.registers.Registers.{the_view}
use Rattle.pg_cache.specs.Acts.{LineView, IsWithinLimit, progress, after_deferred}
use Rattle.pg_cache.proofs.Serves.{has_room_next}
use Rattle.pg_cache.proofs.registers.Registers.serve.Goals as goal

pub serve_one-state-requires : goal.serve_one-state-requires
serve_one-state-requires c =
    has_room_next c.args.draft.now c.loop-message.state c.in-Some.message c.pop.new.self.items (progress (the_view c.self.inside) c.loop-message.wires c.args.done.now) (
    subst (λ (ms : List Ordered). IsWithinLimit (after_deferred c.args.draft.now c.loop-message.state ms (progress (the_view c.self.inside) c.loop-message.wires c.args.done.now))) c.in-Some.ensures.oldest (
    subst (λ (x : LineView). IsWithinLimit (after_deferred c.args.draft.now c.loop-message.state x.line.deferred (progress x c.loop-message.wires c.args.done.now))) (sym c.self.view_is) c.loop-message.invariant.1))
