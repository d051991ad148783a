use Rattle.std.proofs.Common.{refl}
use Rattle.pg_controllers.proofs.laws.worked_runs.Goals as goal

pub returns-clause-stalling : goal.returns-clause-stalling
returns-clause-stalling c = (refl, refl)

pub returns-clause-deferring : goal.returns-clause-deferring
returns-clause-deferring c = record { enabled = (refl, (refl, (refl, (refl, (refl, (refl, (refl, (refl, tt)))))))); same = refl }

pub returns-clause-late : goal.returns-clause-late
returns-clause-late c = record { enabled = (refl, (refl, (refl, (refl, (refl, (refl, (refl, (refl, tt)))))))); same = refl }

pub returns-clause-load_waits : goal.returns-clause-load_waits
returns-clause-load_waits c = refl

pub returns-clause-upgrade : goal.returns-clause-upgrade
returns-clause-upgrade c = record { enabled = (refl, (refl, (refl, (refl, (refl, (refl, (refl, (refl, (refl, (refl, (refl, tt))))))))))); same = refl }

pub returns-clause-before : goal.returns-clause-before
returns-clause-before c = record { enabled = (refl, (refl, (refl, (refl, (refl, (refl, (refl, (refl, (refl, (refl, (refl, (refl, (refl, (refl, (refl, (refl, (refl, (refl, tt)))))))))))))))))); same = refl }

pub returns-clause-behind : goal.returns-clause-behind
returns-clause-behind c = record { enabled = (refl, (refl, (refl, (refl, (refl, (refl, (refl, (refl, (refl, (refl, (refl, (refl, (refl, (refl, (refl, (refl, tt)))))))))))))))); same = refl }

pub returns-clause-clean_evict : goal.returns-clause-clean_evict
returns-clause-clean_evict c = record { enabled = (refl, (refl, (refl, (refl, (refl, (refl, (refl, (refl, (refl, (refl, (refl, tt))))))))))); same = refl }

pub returns-clause-evict_waits : goal.returns-clause-evict_waits
returns-clause-evict_waits c = refl

pub returns-clause-stale_evict : goal.returns-clause-stale_evict
returns-clause-stale_evict c = record { enabled = (refl, (refl, (refl, (refl, (refl, (refl, (refl, (refl, (refl, (refl, tt)))))))))); same = refl }

pub returns-clause-one_core : goal.returns-clause-one_core
returns-clause-one_core c = record { enabled = (refl, (refl, (refl, (refl, (refl, (refl, (refl, (refl, (refl, (refl, tt)))))))))); same = refl }

pub returns-clause-permissions : goal.returns-clause-permissions
returns-clause-permissions c = (refl, refl, refl, refl)
