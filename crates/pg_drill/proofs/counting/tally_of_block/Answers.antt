use Rattle.std.proofs.Common.{List, length, arith, ap, ◌∙◌}
use Rattle.pg_perm.specs.declared.step.Step.{Step}
use Rattle.pg_tally.specs.Tallies.{tally_of}
use Rattle.pg_drill.proofs.Counts.{few_done, few_steps, few_events}
use Rattle.pg_drill.proofs.counting.tally_of_block.Goals as goal

pub tally_of-requires : goal.tally_of-requires
tally_of-requires c =
    let w = c.args.world.now in
    let few = few_steps w.tables.protocol w.tables.cache w.given w.world c.journal-journal.ensures.reached c.requires in
    let same = ap (λ (xs : List Step). length xs) (c.as_slice.ensures ∙ c.in_ok-steps.ensures.exact) in omega (arith, few, same)

pub returns-clause-exact : goal.returns-clause-exact
returns-clause-exact c =
    c.tally_of.ensures.exact
    ∙ (λ i. tally_of ((c.as_slice.ensures ∙ c.in_ok-steps.ensures.exact) i) (c.done-done.ensures i) (c.journal-journal.ensures.exact i))

pub returns-clause-low : goal.returns-clause-low
returns-clause-low c =
    let w = c.args.world.now in
    let r = c.journal-journal.ensures.reached in
    let steps = few_steps w.tables.protocol w.tables.cache w.given w.world r c.requires in
    let done = few_done w.tables.protocol w.tables.cache w.given w.world r c.requires in
    let same = c.cores-cores.ensures.cores in
    let few = c.cores-cores.ensures.few in
    let events = few_events w.tables.protocol w.tables.cache w.given w.world r c.requires (omega (arith, same, few)) in
    let same_steps = ap (λ (xs : List Step). length xs) (c.as_slice.ensures ∙ c.in_ok-steps.ensures.exact) in
    let same_done = ap (λ (xs : List _). length xs) c.done-done.ensures in
    let same_events = ap (λ (xs : List _). length xs) c.journal-journal.ensures.exact in
    c.tally_of.ensures.low 4194304 (omega (arith, steps, same_steps)) (omega (arith, done, same_done)) (omega (arith, events, same_events))
