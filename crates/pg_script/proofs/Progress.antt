-- How far reading has come.
use Rattle.std.proofs.Common.{◌≡◌, ℕ, ◌+◌, ◌<◌, ◌≤◌, Bool, true, false, List, [], ◌∷◌, length, ap, sym, refl, ◌∙◌, arith, cond, Option, Some, None, Result, Ok, Err}
use Rattle.std.specs.Prelude.{◌==◌}
use Rattle.std.specs.Option.{option_map_or}
use Rattle.std.proofs.lemmas.Bool.{eqb-true}
use Rattle.pg_perm.specs.declared.fault.Fault.{Fault}
use Rattle.pg_perm.specs.declared.fault.Rule.{Rule}
use Rattle.pg_perm.specs.declared.fault.Rule.TheVariants.{C4, C5}
use Rattle.pg_lines.specs.Lines.{words_of, lines_of, first_line, line_of_cut, cut_at}
use Rattle.pg_lines.proofs.Steps.{lines_of-first, lines_of-none, length-rest}
use Rattle.pg_faults.specs.declared.error.LineError.{LineError}
use Rattle.pg_faults.specs.declared.error.LineError.TheVariants as error
use Rattle.pg_faults.specs.Answers.{Judges}
use Rattle.pg_faults.specs.LineRules.{reading_at_end}
use Rattle.pg_script.specs.declared.statement.Statement.{Statement}
use Rattle.pg_script.specs.Answers.{Gives, script_error}
use Rattle.pg_script.specs.Reading.{statement_of}
use Rattle.pg_script.specs.Scripts.{Operations}
use Rattle.pg_script.specs.ScriptFaults.{is_in_place, statement_in_place, statement_at, is_done_line, is_done}
use Rattle.pg_script.specs.Texts.{line_judgement, judgement, read_lines, reading}
use Rattle.pg_script.proofs.Judging.{read_on}

-- the lines before were read, and rest is after them
pub record IsReadSoFar (bytes rest : List ℕ) (before : ℕ) (above : Operations) : Type 0 where
  pub few : before + length rest ≤ length bytes
  pub answers : reading bytes ≡ read_lines above (before + 1) (lines_of rest)

-- the next line, and what it says
pub record IsNext (rest line more : List ℕ) (n : ℕ) (o : Option Statement) : Type 0 where
  pub is_first : Some (line, more) ≡ first_line rest
  pub says : o ≡ statement_at n line

-- a line that is taken in is `done` exactly where what it says at its place is
ended_placed : (above more : Operations) (n : ℕ) (o : Option Statement) → judgement above (statement_in_place n o) ≡ Ok more
    → option_map_or is_done o false ≡ option_map_or is_done (statement_in_place n o) false
ended_placed above more n None h = refl
ended_placed above more n (Some s) h = at (is_in_place n s) h
  where
    at : (b : Bool) → judgement above (cond b (Some s) None) ≡ Ok more → is_done s ≡ option_map_or is_done (cond b (Some s) None) false
    at true g = refl
    at false g = absurd cc

-- what reading gives, by the next line
by_line : (bytes rest line more : List ℕ) (before : ℕ) (above : Operations) → IsReadSoFar bytes rest before above → Some (line, more) ≡ first_line rest
    → reading bytes
    ≡ read_on (before + 1) (is_done_line line) (line_judgement above (before + 1) line) (lines_of more) (λ next. read_lines next (before + 1 + 1) (lines_of more))
by_line bytes rest line more before above so_far h = so_far.answers ∙ ap (read_lines above (before + 1)) (lines_of-first rest line more h)

-- a line that can't be taken in
pub error_at : (bytes rest line more : List ℕ) (before : ℕ) (above : Operations) (o : Option Statement) (e : LineError Rule) → IsReadSoFar bytes rest before above
    → IsNext rest line more (before + 1) o → Judges {A = Operations} (Err e) (judgement above o)
    → Gives {A = Operations} (Err (script_error (before + 1) e)) (reading bytes)
error_at bytes rest line more before above o (error.Breaks R) so_far next broken =
    by_line bytes rest line more before above so_far next.is_first
    ∙ ap (λ r. read_on (before + 1) (is_done_line line) r (lines_of more) (λ next. read_lines next (before + 1 + 1) (lines_of more)))
    (sym (ap (judgement above) next.says) ∙ broken)
error_at bytes rest line more before above o error.Memory so_far next broken = tt

-- what reading gives, by what the next line says that is taken in
by_taken : (bytes rest line more : List ℕ) (before : ℕ) (above below : Operations) (o : Option Statement) → IsReadSoFar bytes rest before above
    → IsNext rest line more (before + 1) o → judgement above o ≡ Ok below
    → reading bytes
    ≡ read_on (before + 1) (option_map_or is_done o false) (Ok below) (lines_of more) (λ next. read_lines next (before + 1 + 1) (lines_of more))
by_taken bytes rest line more before above below o so_far next taken =
    let go_on : Operations → Result Operations Fault = λ next. read_lines next (before + 1 + 1) (lines_of more) in
    let judges : line_judgement above (before + 1) line ≡ Ok below = sym (ap (judgement above) next.says) ∙ taken in
    by_line bytes rest line more before above so_far next.is_first
    ∙ ap (λ r. read_on (before + 1) (is_done_line line) r (lines_of more) go_on) judges
    ∙ ap (λ b. read_on (before + 1) b (Ok below) (lines_of more) go_on)
    (ended_placed above below (before + 1) (statement_of (words_of line)) judges ∙ ap (λ p. option_map_or is_done p false) (sym next.says))

-- no bytes have no line
finished_empty : (n : ℕ) (below : Operations) (more : List ℕ) → (length more == 0) ≡ true → reading_at_end (Some C5) n below (lines_of more) ≡ Ok below
finished_empty n below [] none = refl
finished_empty n below (b ∷ bs) none = absurd (omega (arith, eqb-true (length (b ∷ bs)) 0 none))

-- where nothing is after `done`
pub end_at : (bytes rest line more : List ℕ) (before : ℕ) (above below : Operations) (o : Option Statement) → IsReadSoFar bytes rest before above
    → IsNext rest line more (before + 1) o → judgement above o ≡ Ok below → option_map_or is_done o false ≡ true → (length more == 0) ≡ true
    → reading bytes ≡ Ok below
end_at bytes rest line more before above below o so_far next taken ended none =
    by_taken bytes rest line more before above below o so_far next taken
    ∙ ap (λ b. read_on (before + 1) b (Ok below) (lines_of more) (λ next. read_lines next (before + 1 + 1) (lines_of more))) ended
    ∙ finished_empty (before + 1) below more none

-- bytes have a line
some_line : (b : ℕ) (bs : List ℕ) → (line : List ℕ) × (more : List ℕ) × (lines_of (b ∷ bs) ≡ line ∷ lines_of more)
some_line b bs = at (cut_at 10 (b ∷ bs)) refl
  where
    at : (o : Option (List ℕ × List ℕ)) → cut_at 10 (b ∷ bs) ≡ o → (line : List ℕ) × (more : List ℕ) × (lines_of (b ∷ bs) ≡ line ∷ lines_of more)
    at None e = (b ∷ bs, [], lines_of-first (b ∷ bs) (b ∷ bs) [] (sym (ap (line_of_cut (b ∷ bs)) e)))
    at (Some p) e = (p.0, p.1, lines_of-first (b ∷ bs) p.0 p.1 (sym (ap (line_of_cut (b ∷ bs)) e)))

finished_past : (n : ℕ) (below : Operations) (more : List ℕ) → (length more == 0) ≡ false
    → reading_at_end (Some C5) n below (lines_of more) ≡ Err (record { line = n + 1; rule = C5 })
finished_past n below [] some = absurd cc
finished_past n below (b ∷ bs) some = ap (reading_at_end (Some C5) n below) (some_line b bs).2

-- where something is after `done`
pub past_at : (bytes rest line more : List ℕ) (before : ℕ) (above below : Operations) (o : Option Statement) → IsReadSoFar bytes rest before above
    → IsNext rest line more (before + 1) o → judgement above o ≡ Ok below → option_map_or is_done o false ≡ true → (length more == 0) ≡ false
    → reading bytes ≡ Err (record { line = before + 1 + 1; rule = C5 })
past_at bytes rest line more before above below o so_far next taken ended some =
    by_taken bytes rest line more before above below o so_far next taken
    ∙ ap (λ b. read_on (before + 1) b (Ok below) (lines_of more) (λ next. read_lines next (before + 1 + 1) (lines_of more))) ended
    ∙ finished_past (before + 1) below more some

-- another line
pub next_at : (bytes rest line more : List ℕ) (before : ℕ) (above below : Operations) (o : Option Statement) → IsReadSoFar bytes rest before above
    → IsNext rest line more (before + 1) o → judgement above o ≡ Ok below → option_map_or is_done o false ≡ false
    → IsReadSoFar bytes more (before + 1) below
next_at bytes rest line more before above below o so_far next taken goes_on =
    let shorter : length more < length rest = length-rest rest line more next.is_first in
    record {
      few = omega (arith, so_far.few);
      answers = by_taken bytes rest line more before above below o so_far next taken
          ∙ ap (λ b. read_on (before + 1) b (Ok below) (lines_of more) (λ next. read_lines next (before + 1 + 1) (lines_of more))) goes_on;
    }

-- no line is left
pub none_at : (bytes rest : List ℕ) (before : ℕ) (above : Operations) → IsReadSoFar bytes rest before above → None ≡ first_line rest
    → reading bytes ≡ Err (record { line = before + 1; rule = C4 })
none_at bytes rest before above so_far none = so_far.answers ∙ ap (read_lines above (before + 1)) (lines_of-none rest none)
