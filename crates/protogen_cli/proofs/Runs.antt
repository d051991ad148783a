-- What a run on the controllers tells, once it was done.
use Rattle.std.proofs.Common.{◌≡◌, ℕ, List, Option, None, Some, refl, sym, ap, subst, ◌∙◌}
use Rattle.std.specs.Prelude.{Result, Ok, Err, Bool, true, false, nat_lt, length, drop, if◌then◌else◌}
use Rattle.pg_perm.specs.declared.kinds.Mode.{Mode}
use Rattle.pg_perm.specs.declared.draft.Draft.{Draft}
use Rattle.pg_perm.specs.declared.fault.Fault.{Fault}
use Rattle.pg_text.specs.Texts.{reading}
use Rattle.pg_text.proofs.WellFormed.{read_well_formed}
use Rattle.pg_shape.specs.FirstFaults.{shape_fault}
use Rattle.pg_shape.specs.Shaped.{IsShaped}
use Rattle.pg_shape.proofs.Exact.{no_fault_is_shape}
use Rattle.pg_shape.proofs.ShapeGives.{shape_gives_all}
use Rattle.pg_script.specs.Scripts.{Operations}
use Rattle.pg_script.specs.Texts.{reading as script_reading}
use Rattle.pg_controller_run.specs.Histories.{histories as controller_histories}
use Rattle.pg_controller_run.proofs.Texts.{tells_histories}
use Rattle.protogen_cli.specs.declared.status.Status.{Status}
use Rattle.protogen_cli.specs.declared.status.Status.TheVariants.{Done, Text, Script, TooLong}
use Rattle.protogen_cli.specs.declared.words.Machine.TheVariants.{Controllers}
use Rattle.protogen_cli.specs.declared.words.Command.{Command}
use Rattle.protogen_cli.specs.declared.words.Command.TheVariants.{Run}
use Rattle.protogen_cli.specs.Replies.{Reply, too_long_reply, most_bytes, answer_to_script, answer_to_draft, answer_to_text, answer_to_input}
use Rattle.protogen_cli.specs.Ends.{Tells, Outside, RepliesInFull, Ends}
use Rattle.protogen_cli.specs.Runs.{TellsRun, HasRun}

-- what the histories on the controllers tell
told : (mode : Mode) (seed : ℕ) (input : List ℕ) (d : Draft) (place : ℕ) (s : Operations) (bytes : List ℕ) → reading input ≡ Ok (d, place) → IsShaped d → script_reading (drop place input) ≡ Ok s
    → bytes ≡ controller_histories d mode seed s → TellsRun input bytes
told mode seed input d place s bytes text shaped said is = record {
  protocol = d;
  place = place;
  script = s;
  text = text;
  shaped = shaped;
  operations = said;
  histories = tells_histories d mode seed s bytes (read_well_formed input d place text) shaped is;
}

not_script : (f : Fault) → Done ≡ Script f → ⊥
not_script f e = cc

not_text : (f : Fault) → Done ≡ Text f → ⊥
not_text f e = cc

not_long : Done ≡ TooLong → ⊥
not_long e = cc

-- the reply to an input, where it is done
at_script : (mode : Mode) (seed : ℕ) (input : List ℕ) (d : Draft) (place : ℕ) (read : Result Operations Fault) (r : Reply) → reading input ≡ Ok (d, place) → IsShaped d
    → script_reading (drop place input) ≡ read → r ≡ answer_to_script (Controllers mode seed) d read → Done ≡ r.status → TellsRun input r.bytes
at_script mode seed input d place (Ok s) r text shaped said is done = told mode seed input d place s r.bytes text shaped said (ap (λ (x : Reply). x.bytes) is)
at_script mode seed input d place (Err f) r text shaped said is done = absurd (not_script f (done ∙ ap (λ (x : Reply). x.status) is))

at_draft : (mode : Mode) (seed : ℕ) (input : List ℕ) (d : Draft) (place : ℕ) (fault : Option Fault) (r : Reply) → reading input ≡ Ok (d, place) → shape_fault d ≡ fault
    → r ≡ answer_to_draft (Run (Controllers mode seed)) d (drop place input) fault → Done ≡ r.status → TellsRun input r.bytes
at_draft mode seed input d place None r text clean is done =
    let well = read_well_formed input d place text in
    at_script mode seed input d place (script_reading (drop place input)) r text (shape_gives_all d well (no_fault_is_shape d well clean)) refl is done
at_draft mode seed input d place (Some f) r text broken is done = absurd (not_text f (done ∙ ap (λ (x : Reply). x.status) is))

at_text : (mode : Mode) (seed : ℕ) (input : List ℕ) (read : Result (Draft × ℕ) Fault) (r : Reply) → reading input ≡ read
    → r ≡ answer_to_text (Run (Controllers mode seed)) input read → Done ≡ r.status → TellsRun input r.bytes
at_text mode seed input (Ok (d, place)) r text is done = at_draft mode seed input d place (shape_fault d) r text refl is done
at_text mode seed input (Err f) r text is done = absurd (not_text f (done ∙ ap (λ (x : Reply). x.status) is))

at_length : (mode : Mode) (seed : ℕ) (input : List ℕ) (is_long : Bool) (r : Reply)
    → r ≡ (if is_long then too_long_reply else answer_to_text (Run (Controllers mode seed)) input (reading input)) → Done ≡ r.status → TellsRun input r.bytes
at_length mode seed input true r is done = absurd (not_long (done ∙ ap (λ (x : Reply). x.status) is))
at_length mode seed input false r is done = at_text mode seed input (reading input) r refl is done

-- a reply from its parts
pub reply_of : (s : Status) (bytes : List ℕ) (r : Reply) → s ≡ r.status → bytes ≡ r.bytes → record { status = s; bytes = bytes } ≡ r
reply_of s bytes r status is = ap (λ (x : Status). record { status = x; bytes = bytes }) status ∙ ap (λ (b : List ℕ). record { status = r.status; bytes = b }) is

same_command : (c e : Command) → Some c ≡ Some e → c ≡ e
same_command c e h = cc

-- what a call has written that ended as done
pub has_run : (mode : Mode) (seed : ℕ) (found wanted : Option Command) (command : Command) (s : Status) (reply : Reply) (left : Option (List ℕ)) (old new : Outside)
    → found ≡ wanted → found ≡ Some command → wanted ≡ Some (Run (Controllers mode seed))
    → (input : List ℕ) × Tells left input × (reply ≡ answer_to_input command input) → Ends s reply old new → s ≡ Done → HasRun left old.held new.held
has_run mode seed found wanted command s reply left old new same is asked (input, told_input, due) ends done =
    let ended : RepliesInFull Done reply old new = subst (λ (x : Status). Ends x reply old new) done ends in
    let run : command ≡ Run (Controllers mode seed) = same_command _ _ (sym is ∙ same ∙ asked) in
    let answered : reply ≡ answer_to_input (Run (Controllers mode seed)) input = due ∙ ap (λ (c : Command). answer_to_input c input) run in
    (input, reply.bytes, told_input, ended.held, at_length mode seed input (nat_lt most_bytes (length input)) reply answered ended.due)
