use Rattle.std.specs.Prelude.{length, []}
use Rattle.pg_perm.specs.declared.kinds.Mode.TheVariants.{Stall, Defer}
use Rattle.pg_samples.specs.Drafts.{msi, mesi, mosi}
use Rattle.pg_controllers.specs.Runs.{opening}
use Rattle.pg_controllers.specs.Worked.{picks, load_and_store, owner_stores, clean_evict}
use Rattle.pg_worked.specs.Marked.{mark_of}
use Rattle.pg_worked.specs.Runs.{late_load, load_before, load_behind, evict_after_share, two_stores, stale_evict}
use Rattle.pg_worked.proofs.Direct.{IsDirect}
use Rattle.pg_worked.proofs.Marked.{AreDirect, direct_run}
use Rattle.pg_worked.proofs.laws.worked_runs_are_orderly.Goals as goal

pub returns-clause-late_load : goal.returns-clause-late_load
returns-clause-late_load c =
    let first : IsDirect msi (length load_and_store) (opening msi load_and_store) (mark_of []) = assumption in
    let then : AreDirect msi (picks msi Defer) (length load_and_store) (opening msi load_and_store) late_load = assumption in
    direct_run msi Defer load_and_store late_load first then

pub returns-clause-load_before : goal.returns-clause-load_before
returns-clause-load_before c =
    let first : IsDirect mosi (length owner_stores) (opening mosi owner_stores) (mark_of []) = assumption in
    let then : AreDirect mosi (picks mosi Defer) (length owner_stores) (opening mosi owner_stores) load_before = assumption in
    direct_run mosi Defer owner_stores load_before first then

pub returns-clause-load_behind : goal.returns-clause-load_behind
returns-clause-load_behind c =
    let first : IsDirect mosi (length owner_stores) (opening mosi owner_stores) (mark_of []) = assumption in
    let then : AreDirect mosi (picks mosi Defer) (length owner_stores) (opening mosi owner_stores) load_behind = assumption in
    direct_run mosi Defer owner_stores load_behind first then

pub returns-clause-evict_after_share : goal.returns-clause-evict_after_share
returns-clause-evict_after_share c =
    let first : IsDirect mesi (length clean_evict) (opening mesi clean_evict) (mark_of []) = assumption in
    let then : AreDirect mesi (picks mesi Stall) (length clean_evict) (opening mesi clean_evict) evict_after_share = assumption in
    direct_run mesi Stall clean_evict evict_after_share first then

pub returns-clause-stale_evict : goal.returns-clause-stale_evict
returns-clause-stale_evict c =
    let first : IsDirect msi (length two_stores) (opening msi two_stores) (mark_of []) = assumption in
    let then : AreDirect msi (picks msi Stall) (length two_stores) (opening msi two_stores) stale_evict = assumption in
    direct_run msi Stall two_stores stale_evict first then
