-- The rules of the form of a text, and its first fault.
use Rattle.std.specs.Prelude.{ℕ, Bool, false, not, ◌||◌, ◌==◌, nat_lt, List, length, Option, Some, None, is_none, unwrap_or, if◌then◌else◌}
use Rattle.std.specs.Option.{option_map_or}
use Rattle.pg_perm.specs.declared.draft.Draft.{Draft}
use Rattle.pg_perm.specs.declared.fault.Fault.{Fault}
use Rattle.pg_perm.specs.declared.fault.Rule.{Rule}
use Rattle.pg_perm.specs.declared.fault.Rule.TheVariants.{F1, F2, F3, F4, F5, F6}
use Rattle.pg_forms.specs.declared.line.Kind.{Kind}
use Rattle.pg_forms.specs.declared.line.Line.{Line}
use Rattle.pg_lines.specs.Lines.{lines_of, words_of}
use Rattle.pg_forms.specs.Kinds.{rank_of, is_protocol, is_end, kind_of}
use Rattle.pg_forms.specs.Reading.{line_of}
use Rattle.pg_drafting.specs.Numbering.{no_draft, with_line, is_taken, is_full}
use Rattle.pg_faults.specs.FirstFaults.{IsFirstFault}
use Rattle.pg_faults.specs.LineRules.{LineRules, BreaksIn}

-- the lines above a line: the kind of the one just above, where it is in a form, and what they declare
pub record LinesAbove : Type 0 where
  pub kind : Option Kind
  pub draft : Draft

-- no lines
abbrev pub no_lines_above : LinesAbove
no_lines_above = record { kind = None; draft = no_draft }

-- a first line that is no protocol line, a later one that is, or a kind that comes before the kind just above
abbrev pub is_out_of_order : ℕ → Option Kind → Kind → Bool
is_out_of_order n above k = if n == 1 then not (is_protocol k) else is_protocol k || option_map_or (λ a. nat_lt (rank_of k) (rank_of a)) above false

-- whether the words of line n break a rule, below these lines; a line in no form has no kind, and neither declares nor uses a name
abbrev pub line_breaks : LinesAbove → ℕ → List (List ℕ) → Rule → Bool
line_breaks above n ws F1 = is_none (line_of ws)
line_breaks above n ws F2 = option_map_or (λ l. is_out_of_order n above.kind (kind_of l)) (line_of ws) false
line_breaks above n ws F3 = option_map_or (λ l. is_taken above.draft l) (line_of ws) false
line_breaks above n ws F4 = option_map_or (λ l. is_none (with_line above.draft n l)) (line_of ws) false
line_breaks above n ws F5 = nat_lt 80 (length ws) || option_map_or (λ l. is_full above.draft l) (line_of ws) false
line_breaks above n ws R = false

-- the lines above, and below them line n; a line that uses a name which is not declared declares nothing and isn't counted
abbrev pub above_with_form : LinesAbove → ℕ → Option Line → LinesAbove
above_with_form above n None = record above { kind = None }
above_with_form above n (Some l) = record { kind = Some (kind_of l); draft = unwrap_or (with_line above.draft n l) above.draft }

abbrev pub above_with_line : LinesAbove → ℕ → List ℕ → LinesAbove
above_with_line above n line = above_with_form above n (line_of (words_of line))

-- whether a line is the end line
abbrev pub is_end_line : List ℕ → Bool
is_end_line line = option_map_or (λ l. is_end (kind_of l)) (line_of (words_of line)) false

-- the rules of the lines of a text. No line after the first end line is judged, and F6 is broken after the last line where there is none
abbrev pub form_rules : LineRules LinesAbove
form_rules = record { breaks = λ above n line R. line_breaks above n (words_of line) R; after = above_with_line; ends = is_end_line; missing = F6; past = None }

-- line L of the text breaks rule R
abbrev pub Breaks : List ℕ → ℕ → Rule → Type 0
Breaks bytes L R = BreaksIn form_rules no_lines_above 1 (lines_of bytes) L R

-- the first fault of a text
abbrev pub IsFormFault : List ℕ → Fault → Type 0
IsFormFault bytes f = IsFirstFault (Breaks bytes) f
