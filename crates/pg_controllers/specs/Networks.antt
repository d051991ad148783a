-- Requests and replies, and what a core is to the networks.
use Rattle.std.specs.Prelude.{ℕ, List, [], Option, None}
use Rattle.pg_perm.specs.declared.kinds.Event.{Event}
use Rattle.pg_perm.specs.declared.kinds.Event.TheVariants as event
use Rattle.pg_perm.specs.declared.kinds.Op.{Op}
use Rattle.pg_perm.specs.declared.kinds.Op.TheVariants as op
use Rattle.pg_table.specs.declared.cache.Desc.{Desc}
use Rattle.pg_table.specs.declared.cache.Desc.TheVariants.{Stable}
use Rattle.pg_messages.specs.declared.messages.Ordered.{Ordered}
use Rattle.pg_messages.specs.declared.messages.Ask.{Ask as SentRequest}

-- what a cache controller keeps of the block: its state, the word, the stamp, how many acknowledgements are needed (once that is known) and how many came,
-- the forwards that were put off, and the operation that is outstanding
pub record Line : Type 0 where
  pub desc : Desc
  pub word : ℕ
  pub stamp : ℕ
  pub need : Option ℕ
  pub got : ℕ
  pub deferred : List Ordered
  pub pending : Option Op

-- a core: its line, the operations that it has still to begin, its request until the directory takes it, and what the directory sent it
pub record Core : Type 0 where
  pub line : Line
  pub left : List Op
  pub slot : Option SentRequest
  pub queue : List Ordered

-- a line in a stable state with nothing outstanding
abbrev pub idle_line : ℕ → Line
idle_line s = record { desc = Stable s; word = 0; stamp = 0; need = None; got = 0; deferred = []; pending = None }

-- what stands for a core that isn't there
abbrev pub idle_core : Core
idle_core = record { line = idle_line 0; left = []; slot = None; queue = [] }

-- the event that an operation is to the controller
abbrev pub event_of : Op → Event
event_of op.Load = event.Load
event_of (op.Store v) = event.Store
event_of op.Evict = event.Evict
