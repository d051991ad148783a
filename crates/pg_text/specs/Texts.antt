-- What a text says, and where it ends.
use Rattle.std.specs.Prelude.{ℕ, ◌≡◌, Bool, true, false, nat_lt, List, length, Option, Some, None, Result, Ok, Err, if◌then◌else◌}
use Rattle.std.specs.Option.{option_map_or}
use Rattle.pg_perm.specs.declared.draft.Draft.{Draft}
use Rattle.pg_perm.specs.declared.fault.Fault.{Fault}
use Rattle.pg_perm.specs.declared.fault.Rule.{Rule}
use Rattle.pg_perm.specs.declared.fault.Rule.TheVariants.{F1, F2, F5}
use Rattle.pg_forms.specs.declared.line.Kind.{Kind}
use Rattle.pg_forms.specs.declared.line.Line.{Line}
use Rattle.pg_lines.specs.Lines.{lines_of, words_of, place_after}
use Rattle.pg_forms.specs.Kinds.{kind_of, is_end}
use Rattle.pg_forms.specs.Reading.{line_of}
use Rattle.pg_drafting.specs.Numbering.{draft_with_line}
use Rattle.pg_faults.specs.FirstFaults.{AreClean}
use Rattle.pg_faults.specs.LineRules as faults
use Rattle.pg_faults.specs.LineRules.{kept_to_end}
use Rattle.pg_text.specs.FormFaults.{LinesAbove, no_lines_above, is_out_of_order, form_rules, Breaks}

-- the lines with a line of this kind below them
abbrev pub with_kind : Kind → Result Draft Rule → Result LinesAbove Rule
with_kind k (Ok d) = Ok (record { kind = Some k; draft = d })
with_kind k (Err R) = Err R

-- a line that is long breaks F5, where it breaks no rule before that
abbrev pub if_short : Bool → Result LinesAbove Rule → Result LinesAbove Rule
if_short true (Ok above) = Err F5
if_short false (Ok above) = Ok above
if_short is_long (Err R) = Err R

-- the lines with line n below them, or the first rule that it breaks
abbrev pub judgement : LinesAbove → ℕ → Bool → Option Line → Result LinesAbove Rule
judgement above n is_long None = Err F1
judgement above n is_long (Some l) =
    if is_out_of_order n above.kind (kind_of l) then Err F2 else if_short is_long (with_kind (kind_of l) (draft_with_line above.draft n l))

abbrev pub line_judgement : LinesAbove → ℕ → List ℕ → Result LinesAbove Rule
line_judgement above n line = judgement above n (nat_lt 80 (length (words_of line))) (line_of (words_of line))

-- whether the last line is the end line
abbrev pub has_ended_by : LinesAbove → Bool
has_ended_by above = option_map_or is_end above.kind false

-- what is read of a text whose end line is line n
abbrev pub draft_at : LinesAbove → ℕ → Draft × ℕ
draft_at above n = (above.draft, n)

-- the draft of the lines from line n on, below others, and the number of the end line; or the first fault
abbrev pub read_lines : LinesAbove → ℕ → List (List ℕ) → Result (Draft × ℕ) Fault
read_lines above n lines = faults.read_lines form_rules line_judgement draft_at above n lines

-- the draft with the place after line n in place of n
abbrev pub reading_with_place : List ℕ → Result (Draft × ℕ) Fault → Result (Draft × ℕ) Fault
reading_with_place bytes (Ok p) = Ok (p.0, place_after p.1 bytes)
reading_with_place bytes (Err f) = Err f

-- the draft of a text and the place after its end line, or its first fault
abbrev pub reading : List ℕ → Result (Draft × ℕ) Fault
reading bytes = reading_with_place bytes (read_lines no_lines_above 1 (lines_of bytes))

-- the draft is that of the text, in which no line breaks a rule, and its end line ends at the place
pub record IsText (bytes : List ℕ) (d : Draft) (place : ℕ) : Type 0 where
  pub whole : AreClean (Breaks bytes)
  pub declares : d ≡ (kept_to_end form_rules no_lines_above 1 (lines_of bytes)).0.draft
  pub ended : place ≡ place_after (kept_to_end form_rules no_lines_above 1 (lines_of bytes)).1 bytes
