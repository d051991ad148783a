-- Loads and stores of the atomic machine.
use Rattle.std.specs.Prelude.{ℕ}
use Rattle.pg_perm.specs.declared.kinds.Access.{Access}
use Rattle.pg_perm.specs.declared.kinds.Access.TheVariants.{Load, Store}
use Rattle.pg_perm.specs.declared.kinds.Event.{Event}
use Rattle.pg_perm.specs.declared.kinds.Event.TheVariants as event
use Rattle.pg_perm.specs.declared.step.Step.{Step}
use Rattle.pg_perm.specs.declared.step.Step.TheVariants as step
use Rattle.pg_atomic.specs.States.{State}

abbrev pub event_of : Access → Event
event_of Load = event.Load
event_of (Store v) = event.Store

-- the word that is loaded or stored
abbrev pub word_of : State → Access → ℕ
word_of a Load = a.word
word_of a (Store v) = v

-- the step that an access of a core makes, by its word
abbrev pub step_of : ℕ → ℕ → Access → Step
step_of c word Load = step.Load c word
step_of c word (Store v) = step.Store c v
