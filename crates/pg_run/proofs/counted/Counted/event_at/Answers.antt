use Rattle.std.proofs.Common.{length, ap, sym, ◌∙◌, arith}
use Rattle.std.specs.Prelude.{◌%◌, slice_get}
use Rattle.std.proofs.lemmas.Nat.{mod_below}
use Rattle.pg_world.specs.Kept.{WorldView}
use Rattle.pg_run.proofs.Blocks.{events_in, some_enabled}
use Rattle.pg_run.proofs.counted.Counted.event_at.Goals as goal

pub nonzero_rem-at : goal.nonzero_rem-at
nonzero_rem-at c =
    let some = some_enabled c.self.inside.world c.args.self.now c.self.inside.enabled c.self.view_is c.self.invariant c.requires in
    let from = c.from.ensures in omega (arith, some, from)

pub overflow_cast-at : goal.overflow_cast-at
overflow_cast-at c =
    let some = some_enabled c.self.inside.world c.args.self.now c.self.inside.enabled c.self.view_is c.self.invariant c.requires in
    let from = c.from.ensures in
    let low = mod_below c.args.k c.from.result (omega (arith, some, from)) in omega (arith, low, from)

pub nth_enabled-requires : goal.nth_enabled-requires
nth_enabled-requires c =
    let some = some_enabled c.self.inside.world c.args.self.now c.self.inside.enabled c.self.view_is c.self.invariant c.requires in
    let from = c.from.ensures in
    let count = c.self.invariant in
    let low = mod_below c.args.k c.from.result (omega (arith, some, from)) in omega (arith, low, from, count)

pub returns : goal.returns
returns c =
    ap (λ (w : WorldView). slice_get (events_in w) (c.args.k % length (events_in w))) (sym c.self.view_is)
    ∙ ap (λ n. slice_get (events_in c.self.inside.world) (c.args.k % n)) (sym (c.from.ensures ∙ c.self.invariant)) ∙ c.nth_enabled.ensures
