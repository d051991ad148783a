use Rattle.std.proofs.Common.{◌≡◌, ◌<◌, ℕ, length, Option, sym, ap, subst, ◌∙◌}
use Rattle.std.specs.Prelude.{IfSome}
use Rattle.pg_table.specs.Pick.{pick}
use Rattle.pg_controllers.specs.Worlds.{step}
use Rattle.pg_block.specs.Blocks.{Block}
use Rattle.pg_world.specs.Kept.{IsKept, WorldView, view_of}
use Rattle.pg_world.specs.Indexed.{Index, index_of, core_in, index_after}
use Rattle.pg_world.proofs.EnabledIs.{enabled_is}
use Rattle.pg_world.proofs.Follows.{same_size, index_follows, core_there}
use Rattle.pg_world.proofs.Ready.{enabled_can_happen}
use Rattle.pg_world.proofs.Steps.{room_after, step_kept, step_shows}
use Rattle.pg_world.proofs.Worlds.{enabled_in, tells}
use Rattle.pg_world.proofs.world.World.step.Goals as goal

pub core_in-core-requires : goal.core_in-core-requires
core_in-core-requires c = enabled_is c.self.inside.block c.args.e c.self.invariant.0 ∙ enabled_in c.self.inside.block c.args.self.now c.args.e c.self.view_is c.requires

pub happen-requires-clause-can : goal.happen-requires-clause-can
happen-requires-clause-can c = enabled_can_happen c.self.inside.block c.args.e c.self.invariant.0 (enabled_in c.self.inside.block c.args.self.now c.args.e c.self.view_is c.requires)

pub note-requires : goal.note-requires
note-requires c = room_after c.self.inside.block c.happen.new.self c.args.e c.self.invariant.0 (enabled_in c.self.inside.block c.args.self.now c.args.e c.self.view_is c.requires) c.happen.ensures.rest

pub follow-requires-clause-tells : goal.follow-requires-clause-tells
follow-requires-clause-tells c =
    let on = enabled_in c.self.inside.block c.args.self.now c.args.e c.self.view_is c.requires in
    tells c.note.new.self
    (subst (λ (b : Block). IsKept b) (sym c.note.ensures) (step_kept c.self.inside.block c.happen.new.self (c.args.by, c.args.e) c.self.invariant.0 on c.happen.ensures.world c.happen.ensures.rest))

pub follow-requires-clause-core : goal.follow-requires-clause-core
follow-requires-clause-core c =
    let old = c.self.inside.block in
    let on = enabled_in old c.args.self.now c.args.e c.self.view_is c.requires in
    let kept = step_kept old c.happen.new.self (c.args.by, c.args.e) c.self.invariant.0 on c.happen.ensures.world c.happen.ensures.rest in
    let size : length c.note.new.self.lines ≡ length old.lines =
    ap (λ (b : Block). length b.lines) c.note.ensures ∙ same_size old c.happen.new.self (c.args.by, c.args.e) c.self.invariant.0 kept c.happen.ensures.rest in
    subst (λ (o : Option ℕ). IfSome o (λ k. k < length c.note.new.self.lines)) (sym c.core_in-core.ensures)
    (subst (λ (n : ℕ). IfSome (core_in c.args.e old) (λ k. k < n)) (sym size) (core_there old c.args.e (enabled_can_happen old c.args.e c.self.invariant.0 on)))

pub invariant_of-self : goal.invariant_of-self
invariant_of-self c =
    let old = c.self.inside.block in
    let new = c.happen.new.self in
    let on = enabled_in old c.args.self.now c.args.e c.self.view_is c.requires in
    let kept = step_kept old new (c.args.by, c.args.e) c.self.invariant.0 on c.happen.ensures.world c.happen.ensures.rest in
    let size = same_size old new (c.args.by, c.args.e) c.self.invariant.0 kept c.happen.ensures.rest in
    let low = subst (λ (n : ℕ). IfSome (core_in c.args.e old) (λ k. k < n)) (sym size) (core_there old c.args.e (enabled_can_happen old c.args.e c.self.invariant.0 on)) in (
      subst (λ (b : Block). IsKept b) (sym c.note.ensures) kept,
      c.follow.ensures
          ∙ ap (λ (o : Option ℕ). index_after c.args.e o c.note.new.self c.self.inside.index) c.core_in-core.ensures
          ∙ ap (λ (x : Index). index_after c.args.e (core_in c.args.e old) c.note.new.self x) c.self.invariant.1
          ∙ subst (λ (b : Block). index_after c.args.e (core_in c.args.e old) b (index_of old) ≡ index_of b) (sym c.note.ensures)
          (index_follows old new (c.args.by, c.args.e) c.self.invariant.0 kept c.happen.ensures.rest c.happen.ensures.world low),
    )

pub returns : goal.returns
returns c =
    let on = enabled_in c.self.inside.block c.args.self.now c.args.e c.self.view_is c.requires in
    ap view_of c.note.ensures
    ∙ step_shows c.self.inside.block c.happen.new.self (c.args.by, c.args.e) c.self.invariant.0 on c.happen.ensures.world c.happen.ensures.rest
    ∙ ap (λ (v : WorldView). record v { world = step v.tables.protocol (pick v.tables.cache) v.world (c.args.by, c.args.e) }) c.self.view_is
