-- How far reading has come.
use Rattle.std.proofs.Common.{◌≡◌, ℕ, ◌+◌, ◌-◌, ◌<◌, ◌≤◌, Bool, true, false, List, length, ap, sym, ◌∙◌, arith, cond, Option, Some, None}
use Rattle.std.specs.Prelude.{Result, Ok, Err, nat_lt}
use Rattle.std.specs.Option.{option_map_or}
use Rattle.pg_perm.specs.declared.draft.Draft.{Draft}
use Rattle.pg_perm.specs.declared.fault.Rule.{Rule}
use Rattle.pg_perm.specs.declared.fault.Rule.TheVariants.{F2}
use Rattle.pg_forms.specs.declared.line.Line.{Line}
use Rattle.pg_drafting.specs.Numbering.{draft_with_line}
use Rattle.pg_faults.specs.declared.error.LineError.{LineError}
use Rattle.pg_faults.specs.declared.error.LineError.TheVariants as error
use Rattle.pg_faults.specs.Answers.{Judges}
use Rattle.pg_text.specs.Answers.{Gives, text_error}
use Rattle.pg_forms.specs.Kinds.{is_end, kind_of}
use Rattle.pg_forms.specs.Reading.{line_of}
use Rattle.pg_lines.specs.Lines.{words_of, lines_of, first_line, bytes_after}
use Rattle.pg_text.specs.FormFaults.{LinesAbove, no_lines_above, is_end_line, is_out_of_order}
use Rattle.pg_text.specs.Texts.{line_judgement, judgement, with_kind, if_short, reading_with_place, read_lines, has_ended_by, reading}
use Rattle.pg_text.proofs.Judging.{read_on}
use Rattle.pg_lines.proofs.Steps.{lines_of-first, length-rest, bytes_after-more}
use Rattle.pg_forms.proofs.Options.{same_ok}

-- the lines before were read, and rest is after them
pub record IsReadSoFar (bytes rest : List ℕ) (before : ℕ) (above : LinesAbove) : Type 0 where
  pub few : before + length rest ≤ length bytes
  pub rest_is : rest ≡ bytes_after before bytes
  pub answers : read_lines no_lines_above 1 (lines_of bytes) ≡ read_lines above (before + 1) (lines_of rest)

-- a line that was taken in is the end line where the lines have ended with it
ended-ends : (above : LinesAbove) (n : ℕ) (is_long : Bool) (o : Option Line) (more : LinesAbove) → judgement above n is_long o ≡ Ok more
    → has_ended_by more ≡ option_map_or (λ l. is_end (kind_of l)) o false
ended-ends above n is_long None more h = cc
ended-ends above n is_long (Some l) more h = at (is_out_of_order n above.kind (kind_of l)) is_long (draft_with_line above.draft n l) h
  where
    at : (b long : Bool) (r : Result Draft Rule) → cond b (Err F2) (if_short long (with_kind (kind_of l) r)) ≡ Ok more → has_ended_by more ≡ is_end (kind_of l)
    at true long r g = cc
    at false true (Err R) g = cc
    at false true (Ok d) g = cc
    at false false (Err R) g = cc
    at false false (Ok d) g = ap has_ended_by (sym (same_ok _ _ g))

-- what reading gives, by the next line
by_line : (bytes rest line more : List ℕ) (before : ℕ) (above : LinesAbove) → IsReadSoFar bytes rest before above → Some (line, more) ≡ first_line rest
    → read_lines no_lines_above 1 (lines_of bytes) ≡ read_on (before + 1) (is_end_line line) (line_judgement above (before + 1) line) (lines_of more) (λ next. read_lines next (before + 1 + 1) (lines_of more))
by_line bytes rest line more before above so_far h = so_far.answers ∙ ap (read_lines above (before + 1)) (lines_of-first rest line more h)

-- a line that can't be taken in
pub error_at : (bytes rest line more : List ℕ) (before : ℕ) (above : LinesAbove) (e : LineError Rule) → IsReadSoFar bytes rest before above
    → Some (line, more) ≡ first_line rest → Judges {A = LinesAbove} (Err e) (line_judgement above (before + 1) line)
    → Gives {A = Draft × ℕ} (Err (text_error (before + 1) e)) (reading bytes)
error_at bytes rest line more before above (error.Breaks R) so_far h broken =
    ap (reading_with_place bytes) (by_line bytes rest line more before above so_far h
    ∙ ap (λ r. read_on (before + 1) (is_end_line line) r (lines_of more) (λ next. read_lines next (before + 1 + 1) (lines_of more))) broken)
error_at bytes rest line more before above error.Memory so_far h broken = tt

-- the end line
pub end_at : (bytes rest line more : List ℕ) (before : ℕ) (above next : LinesAbove) → IsReadSoFar bytes rest before above → Some (line, more) ≡ first_line rest
    → line_judgement above (before + 1) line ≡ Ok next → has_ended_by next ≡ true → reading bytes ≡ Ok (next.draft, length bytes - length more)
end_at bytes rest line more before above next so_far h taken ended =
    let is_end : is_end_line line ≡ true = sym (ended-ends above (before + 1) (nat_lt 80 (length (words_of line))) (line_of (words_of line)) next taken) ∙ ended in
    ap (reading_with_place bytes) (by_line bytes rest line more before above so_far h
    ∙ ap (λ r. read_on (before + 1) (is_end_line line) r (lines_of more) (λ next. read_lines next (before + 1 + 1) (lines_of more))) taken
    ∙ ap (λ b. read_on (before + 1) b (Ok next) (lines_of more) (λ next. read_lines next (before + 1 + 1) (lines_of more))) is_end)
    ∙ ap (λ (left : List ℕ). Ok (next.draft, length bytes - length left)) (sym (bytes_after-more bytes line rest more before so_far.rest_is h))

-- another line
pub next_at : (bytes rest line more : List ℕ) (before : ℕ) (above next : LinesAbove) → IsReadSoFar bytes rest before above → Some (line, more) ≡ first_line rest
    → line_judgement above (before + 1) line ≡ Ok next → has_ended_by next ≡ false → IsReadSoFar bytes more (before + 1) next
next_at bytes rest line more before above next so_far h taken ended =
    let is_end : is_end_line line ≡ false = sym (ended-ends above (before + 1) (nat_lt 80 (length (words_of line))) (line_of (words_of line)) next taken) ∙ ended in
    let shorter : length more < length rest = length-rest rest line more h in
    record {
      few = omega (arith, so_far.few);
      rest_is = bytes_after-more bytes line rest more before so_far.rest_is h;
      answers = by_line bytes rest line more before above so_far h
          ∙ ap (λ r. read_on (before + 1) (is_end_line line) r (lines_of more) (λ next. read_lines next (before + 1 + 1) (lines_of more))) taken
          ∙ ap (λ b. read_on (before + 1) b (Ok next) (lines_of more) (λ next. read_lines next (before + 1 + 1) (lines_of more))) is_end;
    }
