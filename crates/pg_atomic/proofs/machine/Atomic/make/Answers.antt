use Rattle.std.proofs.Common.{[], sym, ap, ◌∙◌}
use Rattle.pg_terms.specs.Terms.{out}
use Rattle.pg_directory.specs.DirEntries.{initial_entry}
use Rattle.pg_atomic.proofs.Starts.{initial_state_of_parts}
use Rattle.pg_atomic.proofs.machine.Atomic.make.Goals as goal

pub returns-clause-opens : goal.returns-clause-opens
returns-clause-opens c =
    initial_state_of_parts c.args.protocol.now c.args.cores c.out.result c.idle.result c.in_ok-vec.field-0.items c.new.result (ap out (sym c.draft-draft.ensures.exact) ∙ c.out.ensures)
    (c.in_ok-vec.ensures.items_if_clones_equal (λ y e. e)) c.new.ensures
    (c.idle.ensures ∙ ap (λ d. (initial_entry d).dir) c.draft-draft.ensures.exact)

pub returns-clause-reached : goal.returns-clause-reached
returns-clause-reached c = ([], tt, returns-clause-opens c)
