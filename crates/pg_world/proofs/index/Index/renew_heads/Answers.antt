use Rattle.std.proofs.Common.{◌≡◌, ◌||◌, ℕ, Bool, List, length, ap, ◌∙◌, arith}
use Rattle.pg_directory.specs.DirEntries.{is_among}
use Rattle.pg_world.specs.Indexed.{marked, cores_where, can_take}
use Rattle.pg_world.proofs.CoresWhere.{below_and, next_below}
use Rattle.pg_world.proofs.index.Index.renew_heads.Goals as goal

pub loop-core-preserved : goal.loop-core-preserved
loop-core-preserved c =
    let b = c.args.block.now in
    let t : ℕ → Bool = λ k. is_among c.args.self.now.heads k || can_take b k in
    let (heads, within) = c.loop-core.invariant in
    let more = c.loop-core-test.true in
    let all = c.cores-cores.ensures in (
      c.mark.ensures
          ∙ ap (λ (on : Bool). marked c.loop-core.core on c.loop-core.heads) c.can_take.ensures
          ∙ ap (marked c.loop-core.core (t c.loop-core.core)) heads
          ∙ next_below t (length b.lines) c.loop-core.core (omega (arith, more, all)),
      omega (arith, more),
    )
