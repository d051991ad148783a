-- What is known of a line that was taken in.
use Rattle.std.proofs.Common.{◌≡◌, ℕ, false, List, Option, Some, None, Ok, refl, sym, ap, ◌∙◌, length}
use Rattle.std.specs.Prelude.{◌||◌, nat_lt, is_none, unwrap_or}
use Rattle.std.proofs.lemmas.Bool.{or_parts}
use Rattle.pg_perm.specs.declared.draft.Draft.{Draft}
use Rattle.pg_perm.specs.declared.fault.Rule.TheVariants.{F1, F2, F3, F4, F5}
use Rattle.pg_forms.specs.declared.line.Line.{Line}
use Rattle.pg_lines.specs.Lines.{words_of}
use Rattle.pg_forms.specs.Kinds.{kind_of}
use Rattle.pg_drafting.specs.Numbering.{with_line, is_taken, is_full}
use Rattle.pg_forms.specs.Reading.{line_of}
use Rattle.pg_text.specs.FormFaults.{LinesAbove, is_out_of_order, line_breaks, above_with_form, above_with_line}
use Rattle.pg_text.specs.Texts.{line_judgement}
use Rattle.pg_faults.specs.FirstFaults.{IsClean}
use Rattle.pg_text.proofs.Judging.{judge_sound}

-- what is known of a line that was taken in
pub record IsTakenIn (above : LinesAbove) (n : ℕ) (line : List ℕ) (next : LinesAbove) (l : Line) : Type 0 where
  pub is_line : line_of (words_of line) ≡ Some l
  pub in_place : is_out_of_order n above.kind (kind_of l) ≡ false
  pub new : is_taken above.draft l ≡ false
  pub room : is_full above.draft l ≡ false
  pub short : nat_lt 80 (length (words_of line)) ≡ false
  pub declares : with_line above.draft n l ≡ Some next.draft
  pub is_kind : next.kind ≡ Some (kind_of l)

-- a line in this form that was taken in
line_taken_in : (above : LinesAbove) (n : ℕ) (line : List ℕ) (next : LinesAbove) (l : Line) → line_of (words_of line) ≡ Some l → next ≡ above_with_line above n line
    → IsClean (line_breaks above n (words_of line)) → (o : Option Draft) → with_line above.draft n l ≡ o → IsTakenIn above n line next l
line_taken_in above n line next l e same clean None w =
    let declared : is_none (with_line above.draft n l) ≡ false = rw e at (clean F4) in
    absurd (cc declared)
line_taken_in above n line next l e same clean (Some d) w =
    let is_next : next ≡ record { kind = Some (kind_of l); draft = d } =
    same ∙ ap (above_with_form above n) e ∙ ap (λ (o : Option Draft). record { kind = Some (kind_of l); draft = unwrap_or o above.draft }) w in
    let long : (nat_lt 80 (length (words_of line)) || is_full above.draft l) ≡ false = rw e at (clean F5) in
    let t = or_parts (nat_lt 80 (length (words_of line))) (is_full above.draft l) long in
    record {
      is_line = e;
      in_place = rw e at (clean F2);
      new = rw e at (clean F3);
      room = t.1;
      short = t.0;
      declares = w ∙ ap Some (sym (ap (λ (a : LinesAbove). a.draft) is_next));
      is_kind = ap (λ (a : LinesAbove). a.kind) is_next;
    }

-- a line that was taken in is in a form, and breaks no rule
pub taken_in : (above : LinesAbove) (n : ℕ) (line : List ℕ) (next : LinesAbove) → line_judgement above n line ≡ Ok next → (l : Line) × IsTakenIn above n line next l
taken_in above n line next j = at (line_of (words_of line)) refl (judge_sound above n line next j)
  where
    at : (o : Option Line) → line_of (words_of line) ≡ o → (next ≡ above_with_line above n line) × IsClean (line_breaks above n (words_of line))
        → (l : Line) × IsTakenIn above n line next l
    at None e s = let formed : is_none (line_of (words_of line)) ≡ false = s.1 F1 in absurd (cc formed)
    at (Some l) e s = (l, line_taken_in above n line next l e s.0 s.1 (with_line above.draft n l) refl)
