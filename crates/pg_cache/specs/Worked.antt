-- Lines, networks and tables for what was worked out by hand.
use Rattle.std.specs.Prelude.{ℕ, Bool, true, false, not, if◌then◌else◌, List, [], ◌∷◌, Option, Some, None, replicate}
use Rattle.std.specs.List.{list_all, list_any}
use Rattle.pg_perm.specs.declared.kinds.Mode.TheVariants as mode
use Rattle.pg_perm.specs.declared.kinds.Op.{Op}
use Rattle.pg_samples.specs.Drafts.{msi}
use Rattle.pg_table.specs.declared.cache.Act.{Act}
use Rattle.pg_table.specs.declared.cache.Act.TheVariants as act
use Rattle.pg_table.specs.declared.cache.Desc.{Desc}
use Rattle.pg_table.specs.Tables.{Parts, Row, TableState, generated_tables}
use Rattle.pg_messages.specs.declared.messages.Ordered.{Ordered}
use Rattle.pg_messages.specs.declared.messages.Reply.{Reply}
use Rattle.pg_messages.specs.declared.messages.Reply.TheVariants.{InvAck}
use Rattle.pg_controllers.specs.Networks.{Line}
use Rattle.pg_queue.specs.Nets.{Nets}
use Rattle.pg_cache.specs.Acts.{LineView, Progress, progress}
use Rattle.pg_cache.specs.Inputs.{completes}

-- the tables of MSI in both modes
abbrev pub stalling : Parts
stalling = generated_tables msi mode.Stall

abbrev pub deferring : Parts
deferring = generated_tables msi mode.Defer

-- a line with nothing outstanding, and one with an operation outstanding, with its word, its stamp and the forwards that it deferred
abbrev pub line_with : Desc → ℕ → ℕ → Line
line_with s v k = record { desc = s; word = v; stamp = k; need = None; got = 0; deferred = []; pending = None }

abbrev pub line_waiting : Desc → Op → ℕ → ℕ → List Ordered → Line
line_waiting s o v k deferred = record { desc = s; word = v; stamp = k; need = None; got = 0; deferred = deferred; pending = Some o }

-- the line of core 0, with the number of its state, and with room to defer two forwards
abbrev pub view : ℕ → Line → LineView
view n l = record { line = l; state = n; core = 0; room = 2 }

-- the networks of two cores with these replies, and nothing else
abbrev pub nets_with : List Reply → Nets
nets_with replies = record { slots = None ∷ None ∷ []; lists = [] ∷ [] ∷ []; replies = replies }

-- a line before its row is carried out, with so many replies on their way
abbrev pub with_replies : ℕ → Line → Progress
with_replies n l = progress (view 0 l) (nets_with (replicate n (InvAck 0 1))) None

-- whether each row of a table has the act done exactly where its input completes an operation
abbrev pub is_done : Act → Bool
is_done act.Done = true
is_done _ = false

abbrev pub is_done_row : Row → Bool
is_done_row r = if list_any is_done r.acts then list_all completes r.inputs else not (list_any completes r.inputs)

abbrev pub rows_tell_completions : List TableState → Bool
rows_tell_completions t = list_all (λ s. list_all is_done_row s.rows) t
