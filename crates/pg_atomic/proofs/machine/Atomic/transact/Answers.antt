use Rattle.std.proofs.Common.{length, sym, ap, ◌∙◌, arith}
use Rattle.pg_directory.specs.DirEntries.{Request}
use Rattle.pg_atomic.specs.States.{State}
use Rattle.pg_atomic.proofs.Runs.{reached_has_rows, owner_inside, sharers_inside}
use Rattle.pg_atomic.proofs.Each.{length-after_transaction}
use Rattle.pg_atomic.proofs.machine.Atomic.transact.Goals as goal

pub row-row-requires-clause-rows : goal.row-row-requires-clause-rows
row-row-requires-clause-rows c =
    reached_has_rows c.args.draft.now c.args.self.now c.args.core c.args.event c.requires.well_formed c.requires.shaped c.requires.reached c.requires.core c.requires.needs

pub end-end-requires-clause-owner : goal.end-end-requires-clause-owner
end-end-requires-clause-owner c = owner_inside c.args.draft.now c.args.self.now c.requires.well_formed c.requires.shaped c.requires.reached

pub end-end-requires-clause-rows : goal.end-end-requires-clause-rows
end-end-requires-clause-rows c =
    reached_has_rows c.args.draft.now c.args.self.now c.args.core c.args.event c.requires.well_formed c.requires.shaped c.requires.reached c.requires.core c.requires.needs

pub move_cores-requires-clause-rows : goal.move_cores-requires-clause-rows
move_cores-requires-clause-rows c =
    reached_has_rows c.args.draft.now c.args.self.now c.args.core c.args.event c.requires.well_formed c.requires.shaped c.requires.reached c.requires.core c.requires.needs

pub note_request-requires-clause-core : goal.note_request-requires-clause-core
note_request-requires-clause-core c =
    let request : Request = record { core = c.args.core; event = c.args.event } in
    omega (arith, ap (λ (a : State). length a.states) c.move_cores.ensures, length-after_transaction c.args.draft.now c.args.self.now request)

pub note_request-requires-clause-owner : goal.note_request-requires-clause-owner
note_request-requires-clause-owner c = λ o e.
    let request : Request = record { core = c.args.core; event = c.args.event } in
    omega (
      arith,
      ap (λ (a : State). length a.states) c.move_cores.ensures,
      length-after_transaction c.args.draft.now c.args.self.now request,
      owner_inside c.args.draft.now c.args.self.now c.requires.well_formed c.requires.shaped c.requires.reached o
          (ap (λ (a : State). a.entry.owner) (sym c.move_cores.ensures) ∙ e),
    )

pub move_cores-requires-clause-owner : goal.move_cores-requires-clause-owner
move_cores-requires-clause-owner c = owner_inside c.args.draft.now c.args.self.now c.requires.well_formed c.requires.shaped c.requires.reached

pub move_cores-requires-clause-sharers : goal.move_cores-requires-clause-sharers
move_cores-requires-clause-sharers c = sharers_inside c.args.draft.now c.args.self.now c.requires.well_formed c.requires.shaped c.requires.reached
