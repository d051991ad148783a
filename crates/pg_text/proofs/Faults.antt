-- What reading a text answers, against the rules that its lines break.
use Rattle.std.proofs.Common.{◌≡◌, ℕ, List, Result, Ok, Err, refl, sym, ap, subst, ◌∙◌}
use Rattle.std.specs.Prelude.{IfOk}
use Rattle.pg_perm.specs.declared.draft.Draft.{Draft}
use Rattle.pg_perm.specs.declared.fault.Fault.{Fault}
use Rattle.pg_lines.specs.Lines.{lines_of, place_after}
use Rattle.pg_faults.specs.LineRules.{kept_to_end}
use Rattle.pg_faults.proofs.LineFaults.{same_err, same_ok, read_fault, read_whole, only_fault as only_lines_fault, only_whole}
use Rattle.pg_text.specs.declared.error.TextError.{TextError}
use Rattle.pg_text.specs.declared.error.TextError.TheVariants as error
use Rattle.pg_text.specs.Answers.{Gives}
use Rattle.pg_text.specs.FormFaults.{no_lines_above, form_rules, IsFormFault}
use Rattle.pg_text.specs.Texts.{line_judgement, draft_at, read_lines, reading_with_place, reading, IsText}
use Rattle.pg_text.proofs.Judging.{judge_exact}

-- a text that is refused has that first fault
pub reading_err_is_fault : (bytes : List ℕ) (f : Fault) → reading bytes ≡ Err f → IsFormFault bytes f
reading_err_is_fault bytes f e = at (read_lines no_lines_above 1 (lines_of bytes)) refl
  where
    at : (r : Result (Draft × ℕ) Fault) → read_lines no_lines_above 1 (lines_of bytes) ≡ r → IsFormFault bytes f
    at (Ok p) h = let k : reading bytes ≡ Ok (p.0, place_after p.1 bytes) = ap (reading_with_place bytes) h in absurd (cc (k, e))
    at (Err g) h =
        let same : g ≡ f = same_err g f (sym (ap (reading_with_place bytes) h) ∙ e) in
        read_fault form_rules line_judgement draft_at judge_exact no_lines_above 1 (lines_of bytes) f (h ∙ ap Err same)

-- a text that is taken breaks no rule, and declares the draft
pub reading_ok_is_text : (bytes : List ℕ) (d : Draft) (place : ℕ) → reading bytes ≡ Ok (d, place) → IsText bytes d place
reading_ok_is_text bytes d place e = at (read_lines no_lines_above 1 (lines_of bytes)) refl
  where
    at : (r : Result (Draft × ℕ) Fault) → read_lines no_lines_above 1 (lines_of bytes) ≡ r → IsText bytes d place
    at (Err g) h = let k : reading bytes ≡ Err g = ap (reading_with_place bytes) h in absurd (cc (k, e))
    at (Ok p) h =
        let t = read_whole form_rules line_judgement draft_at judge_exact no_lines_above 1 (lines_of bytes) p h in
        let same : (p.0, place_after p.1 bytes) ≡ (d, place) = same_ok _ _ (sym (ap (reading_with_place bytes) h) ∙ e) in
        record {
          whole = t.0;
          declares = sym (ap (λ (q : Draft × ℕ). q.0) same) ∙ ap (λ (q : Draft × ℕ). q.0) t.1;
          ended = sym (ap (λ (q : Draft × ℕ). q.1) same) ∙ ap (λ (q : Draft × ℕ). place_after q.1 bytes) t.1;
        }

-- the first fault is what reading gives
pub only_fault : (bytes : List ℕ) (f : Fault) → IsFormFault bytes f → reading bytes ≡ Err f
only_fault bytes f first = ap (reading_with_place bytes) (only_lines_fault form_rules line_judgement draft_at judge_exact no_lines_above 1 (lines_of bytes) f first)

-- the draft of a text is what reading gives
pub only_text : (bytes : List ℕ) (d : Draft) (place : ℕ) → IsText bytes d place → reading bytes ≡ Ok (d, place)
only_text bytes d place is_text =
    let last : ℕ = (kept_to_end form_rules no_lines_above 1 (lines_of bytes)).1 in
    ap (reading_with_place bytes) (only_whole form_rules line_judgement draft_at judge_exact no_lines_above 1 (lines_of bytes) is_text.whole)
    ∙ ap (λ (x : Draft). Ok (x, place_after last bytes)) (sym is_text.declares) ∙ ap (λ (n : ℕ). Ok (d, n)) (sym is_text.ended)

-- what a reader answered is the first fault
pub answered_fault : (bytes : List ℕ) (r : Result (Draft × ℕ) TextError) → Gives r (reading bytes) → (f : Fault) → r ≡ Err (error.Form f) → IsFormFault bytes f
answered_fault bytes r reads f e = let P : Result (Draft × ℕ) TextError → Type 0 = λ x. Gives x (reading bytes) in reading_err_is_fault bytes f (subst P e reads)

-- what a reader answered is the draft
pub answered_text : (bytes : List ℕ) (r : Result (Draft × ℕ) TextError) → Gives r (reading bytes) → IfOk r (λ x. IsText bytes x.0 x.1)
answered_text bytes (Ok p) reads = reading_ok_is_text bytes p.0 p.1 reads
answered_text bytes (Err e) reads = tt
