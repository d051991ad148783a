use Rattle.std.proofs.Common.{◌≡◌, ℕ, ◌+◌, ◌<◌, ◌≤◌, List, [], Option, None, Some, length, length-append, refl, sym, ap, subst, ◌∙◌, arith}
use Rattle.std.specs.Prelude.{Result, Ok, Err, Bool, true, false, nat_lt, drop, is_some, if◌then◌else◌}
use Rattle.std.proofs.lemmas.Bool.{lt-ltb, le-ltb}
use Rattle.pg_io.specs.ReadAll.{GaveAll, GaveCount}
use Rattle.pg_perm.specs.declared.draft.Draft.{Draft}
use Rattle.pg_perm.specs.declared.fault.Fault.{Fault}
use Rattle.pg_text.specs.Texts.{reading}
use Rattle.pg_shape.specs.FirstFaults.{shape_fault}
use Rattle.protogen_cli.specs.declared.status.Status.{Status}
use Rattle.protogen_cli.specs.declared.status.Status.TheVariants.{Done, Text, Usage, ReadFault, WriteFault, Memory, TooLong, Script}
use Rattle.protogen_cli.specs.Statuses.{IsReplied, IsOfText}
use Rattle.pg_script.specs.Scripts.{Operations}
use Rattle.pg_script.specs.Texts.{reading as script_reading}
use Rattle.protogen_cli.specs.declared.words.Command.{Command}
use Rattle.protogen_cli.specs.declared.words.Machine.{Machine}
use Rattle.protogen_cli.specs.declared.words.Command.TheVariants.{Check, Compile, Run}
use Rattle.protogen_cli.specs.Replies.{Reply, too_long_reply, most_bytes, answer_to_script, answer_to_protocol, answer_to_draft, answer_to_text, answer_to_input}
use Rattle.protogen_cli.specs.Ends.{Tells, Outside, Ends}

-- some input is told, whatever the source tells
pub some_told : (left : Option (List ℕ)) → (input : List ℕ) × Tells left input
some_told None = ([], tt)
some_told (Some left) = (left, refl)

pub answer-long : (command : Command) (input : List ℕ) → 1048576 < length input → answer_to_input command input ≡ too_long_reply
answer-long command input h = rw (lt-ltb _ _ h) refl

pub answer-short : (command : Command) (input : List ℕ) → length input ≤ 1048576 → answer_to_input command input ≡ answer_to_text command input (reading input)
answer-short command input h = rw (le-ltb _ _ h) refl

-- a source that gives all tells the input that is read
pub short_told : (command : Command) (old new : Option (List ℕ)) (bytes : List ℕ) (r : Reply) → GaveAll old new bytes → length bytes ≤ 1048576
    → r ≡ answer_to_text command bytes (reading bytes) → (input : List ℕ) × Tells old input × (r ≡ answer_to_input command input)
short_told command None new bytes r given short is = (bytes, tt, is ∙ sym (answer-short command bytes short))
short_told command (Some old) new bytes r given short is = (bytes, given.0, is ∙ sym (answer-short command bytes short))

-- a source that gives too much tells an input that is too long
pub long_told : (command : Command) (old new : Option (List ℕ)) → GaveCount old new (λ count. count ≡ 1048576 + 1)
    → (input : List ℕ) × Tells old input × (too_long_reply ≡ answer_to_input command input)
long_told command None new (bytes, given, count) = (bytes, tt, sym (answer-long command bytes (omega (arith, count))))
long_told command (Some old) None (bytes, given, count) = absurd given
long_told command (Some old) (Some new) (bytes, given, count) =
    (old, refl, sym (answer-long command old (omega (arith, ap length given, length-append bytes new, count))))

-- the reply to an input is not that for words that aren't taken
pub answer_to_input-not-usage : (command : Command) (input : List ℕ) → Usage ≡ (answer_to_input command input).status → ⊥
answer_to_input-not-usage command input = at_length (nat_lt most_bytes (length input))
  where
    at_script : (machine : Machine) (d : Draft) (read : Result Operations Fault) → Usage ≡ (answer_to_script machine d read).status → ⊥
    at_script machine d (Ok s) e = cc
    at_script machine d (Err f) e = cc

    at_protocol : (command : Command) (d : Draft) (rest : List ℕ) → Usage ≡ (answer_to_protocol command d rest).status → ⊥
    at_protocol Check d rest e = cc
    at_protocol (Run machine) d rest e = at_script machine d (script_reading rest) e
    at_protocol (Compile m) d rest e = cc

    at_draft : (d : Draft) (rest : List ℕ) (fault : Option Fault) → Usage ≡ (answer_to_draft command d rest fault).status → ⊥
    at_draft d rest None e = at_protocol command d rest e
    at_draft d rest (Some f) e = cc

    at_text : (read : Result (Draft × ℕ) Fault) → Usage ≡ (answer_to_text command input read).status → ⊥
    at_text (Ok (d, place)) e = at_draft d (drop place input) (shape_fault d) e
    at_text (Err f) e = cc

    at_length : (is_long : Bool) → Usage ≡ (if is_long then too_long_reply else answer_to_text command input (reading input)).status → ⊥
    at_length true e = cc
    at_length false e = at_text (reading input) e

-- the reply to an input has a status that a reply can have
pub answer_to_input-replied : (command : Command) (input : List ℕ) → IsReplied (answer_to_input command input).status
answer_to_input-replied command input = at_length (nat_lt most_bytes (length input))
  where
    at_script : (machine : Machine) (d : Draft) (read : Result Operations Fault) → IsReplied (answer_to_script machine d read).status
    at_script machine d (Ok s) = tt
    at_script machine d (Err f) = tt

    at_protocol : (command : Command) (d : Draft) (rest : List ℕ) → IsReplied (answer_to_protocol command d rest).status
    at_protocol Check d rest = tt
    at_protocol (Run machine) d rest = at_script machine d (script_reading rest)
    at_protocol (Compile m) d rest = tt

    at_draft : (d : Draft) (rest : List ℕ) (fault : Option Fault) → IsReplied (answer_to_draft command d rest fault).status
    at_draft d rest None = at_protocol command d rest
    at_draft d rest (Some f) = tt

    at_text : (read : Result (Draft × ℕ) Fault) → IsReplied (answer_to_text command input read).status
    at_text (Ok (d, place)) = at_draft d (drop place input) (shape_fault d)
    at_text (Err f) = tt

    at_length : (is_long : Bool) → IsReplied (if is_long then too_long_reply else answer_to_text command input (reading input)).status
    at_length true = tt
    at_length false = at_text (reading input)

-- a call that ends as with a text replies as to a text
pub of_text_due : (s : Status) (due : Reply) (old new : Outside) → Ends s due old new → IsOfText s → IsOfText due.status
of_text_due Done due old new ends of = subst IsOfText ends.due of
of_text_due (Text f) due old new ends of = subst IsOfText ends.due of
of_text_due Usage due old new ends of = absurd of
of_text_due ReadFault due old new ends of = absurd of
of_text_due WriteFault due old new ends of = absurd of
of_text_due Memory due old new ends of = absurd of
of_text_due TooLong due old new ends of = absurd of
of_text_due (Script f) due old new ends of = subst IsOfText ends.due of

-- words that aren't taken are no command
pub taken_not : (found wanted : Option Command) (command : Command) → found ≡ wanted → found ≡ Some command → is_some wanted ≡ false → ⊥
taken_not found wanted command e is h = let none : is_some (Some command) ≡ false = subst (λ (o : Option Command). is_some o ≡ false) (sym e ∙ is) h in absurd cc
