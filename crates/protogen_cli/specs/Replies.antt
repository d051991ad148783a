-- What is due to the words and the input: a status, and the bytes to write.
use Rattle.std.specs.Prelude.{ℕ, nat_lt, List, ◌++◌, length, drop, codes, if◌then◌else◌, Option, None, Some, Result, Ok, Err}
use Rattle.std.specs.Fmt.{decimal}
use Rattle.pg_perm.specs.declared.draft.Draft.{Draft}
use Rattle.pg_perm.specs.declared.fault.Fault.{Fault}
use Rattle.pg_perm.specs.Rules.{rule_name}
use Rattle.pg_text.specs.Texts.{reading}
use Rattle.pg_shape.specs.FirstFaults.{shape_fault}
use Rattle.protogen_cli.specs.declared.status.Status.{Status}
use Rattle.pg_script.specs.Scripts.{Operations}
use Rattle.pg_script.specs.Texts.{reading as script_reading}
use Rattle.pg_atomic_run.specs.Histories.{histories as atomic_histories}
use Rattle.pg_controller_run.specs.Histories.{histories as controller_histories}
use Rattle.pg_table.specs.Tables.{generated_tables}
use Rattle.pg_print.specs.TableText.{table_text}
use Rattle.pg_perm.specs.declared.kinds.Mode.{Mode}
use Rattle.protogen_cli.specs.declared.status.Status.TheVariants.{Done, Text, Usage, TooLong, Script}
use Rattle.protogen_cli.specs.declared.words.Machine.{Machine}
use Rattle.protogen_cli.specs.declared.words.Machine.TheVariants.{Atomic, Controllers}
use Rattle.protogen_cli.specs.declared.words.Command.{Command}
use Rattle.protogen_cli.specs.declared.words.Command.TheVariants.{Check, Compile, Run}
use Rattle.protogen_cli.specs.Words.{command_of}

-- a status, and what is written before the call ends with it
pub record Reply : Type 0 where
  pub status : Status
  pub bytes : List ℕ

-- the most bytes that an input may have
abbrev pub most_bytes : ℕ
most_bytes = 1048576

-- the line that tells of a fault of a text, and of a script
abbrev pub text_line : Fault → List ℕ
text_line f = codes "line " ++ decimal f.line ++ codes " rule " ++ rule_name f.rule ++ codes "\n"

abbrev pub script_line : Fault → List ℕ
script_line f = codes "script line " ++ decimal f.line ++ codes " rule " ++ rule_name f.rule ++ codes "\n"

-- the reply to words that aren't taken
abbrev pub usage_reply : Reply
usage_reply = record { status = Usage; bytes = codes "usage\n" }

-- the reply to an input of more bytes
abbrev pub too_long_reply : Reply
too_long_reply = record { status = TooLong; bytes = codes "too long\n" }

-- the reply to the first fault of a text
abbrev pub text_fault : Fault → Reply
text_fault f = record { status = Text f; bytes = text_line f }

-- the reply to the first fault of a script
abbrev pub script_fault : Fault → Reply
script_fault f = record { status = Script f; bytes = script_line f }

-- the reply to a text without a fault
abbrev pub ok_reply : Reply
ok_reply = record { status = Done; bytes = codes "ok\n" }

-- the histories of a script's blocks on a machine
abbrev pub histories_on : Machine → Draft → Operations → List ℕ
histories_on Atomic d s = atomic_histories d s
histories_on (Controllers mode seed) d s = controller_histories d mode seed s

-- the reply to what a script says on a protocol, or to the script's first fault
abbrev pub answer_to_script : Machine → Draft → Result Operations Fault → Reply
answer_to_script machine d (Ok s) = record { status = Done; bytes = histories_on machine d s }
answer_to_script machine d (Err f) = script_fault f

-- the reply to a protocol whose tables are asked for
abbrev pub tables_reply : Draft → Mode → Reply
tables_reply d m = record { status = Done; bytes = table_text (generated_tables d m) }

-- the reply to a command on a protocol, with what stands after its text
abbrev pub answer_to_protocol : Command → Draft → List ℕ → Reply
answer_to_protocol Check d rest = ok_reply
answer_to_protocol (Compile m) d rest = tables_reply d m
answer_to_protocol (Run machine) d rest = answer_to_script machine d (script_reading rest)

-- the reply to a draft by its first fault of the shape, if it has one
abbrev pub answer_to_draft : Command → Draft → List ℕ → Option Fault → Reply
answer_to_draft command d rest None = answer_to_protocol command d rest
answer_to_draft command d rest (Some f) = text_fault f

-- the reply to a text that was read, up to a place, or to its first fault of the form
abbrev pub answer_to_text : Command → List ℕ → Result (Draft × ℕ) Fault → Reply
answer_to_text command input (Ok (d, place)) = answer_to_draft command d (drop place input) (shape_fault d)
answer_to_text command input (Err f) = text_fault f

-- the reply to the input of a command
abbrev pub answer_to_input : Command → List ℕ → Reply
answer_to_input command input = if nat_lt most_bytes (length input) then too_long_reply else answer_to_text command input (reading input)

-- the reply to the input of a command, if there is one
abbrev pub answer_to_command : Option Command → List ℕ → Reply
answer_to_command None input = usage_reply
answer_to_command (Some command) input = answer_to_input command input

-- the reply to the words and the whole input
abbrev pub answer : List (List ℕ) → List ℕ → Reply
answer words input = answer_to_command (command_of words) input
