-- Written lines, read one after another.
use Rattle.std.proofs.Common.{◌≡◌, ℕ, ◌+◌, ◌≤◌, Bool, true, false, List, [], ◌∷◌, ◌++◌, length, map, Some, None, Result, Ok, refl, ap, sym, ◌∙◌, arith, append_assoc, append-nil, length-append}
use Rattle.std.specs.Prelude.{nat_lt, nat_le}
use Rattle.std.specs.List.{join_with_byte, list_all}
use Rattle.std.specs.Option.{option_map_or}
use Rattle.std.proofs.lemmas.Bool.{and_parts, ne_eqb, le-ltb, leb-true}
use Rattle.pg_lines.specs.Lines.{words_of, is_plain, are_plain}
use Rattle.pg_lines.proofs.Weaker.{all_weaker}
use Rattle.pg_lines.proofs.Written.{words_written}
use Rattle.pg_perm.specs.declared.draft.Draft.{Draft}
use Rattle.pg_perm.specs.declared.draft.MsgLine.{MsgLine}
use Rattle.pg_perm.specs.declared.draft.MsgClass.{MsgClass}
use Rattle.pg_perm.specs.declared.draft.MsgClass.TheVariants as class
use Rattle.pg_perm.specs.declared.fault.Fault.{Fault}
use Rattle.pg_perm.specs.Classes.{class_rank}
use Rattle.pg_perm.specs.Drafts.{is_ordered}
use Rattle.pg_forms.specs.declared.line.Kind.{Kind}
use Rattle.pg_forms.specs.declared.line.Line.{Line}
use Rattle.pg_forms.specs.declared.line.Line.TheVariants as line
use Rattle.pg_text.specs.FormFaults.{LinesAbove, is_out_of_order, is_end_line}
use Rattle.pg_forms.specs.Forms.{spelling, IsWellNamed}
use Rattle.pg_forms.specs.Kinds.{kind_of, rank_of, is_protocol, is_end}
use Rattle.pg_drafting.specs.Numbering.{with_line, is_taken, is_full}
use Rattle.pg_text.specs.Printing.{numbered_elements, message_line_of}
use Rattle.pg_forms.specs.Reading.{line_of}
use Rattle.pg_text.specs.Texts.{line_judgement, judgement, read_lines}
use Rattle.pg_text.proofs.Judging.{read_on}
use Rattle.pg_text.proofs.Plain.{is_word, are_words, spelling_words}
use Rattle.pg_forms.proofs.Spellings.{line_of-spelling}

-- a line as it stands in a text, without its newline
abbrev pub written_line : Line → List ℕ
written_line l = join_with_byte 32 (spelling l)

-- no words are no line
no_line : line_of [] ≡ None
unfolding line_of
no_line = refl

-- words that may be written are plain
pub words_plain : (ws : List (List ℕ)) → are_words ws ≡ true → are_plain ws ≡ true
words_plain ws h = all_weaker is_word (list_all is_plain) ws (λ w g. (and_parts (list_all is_plain w) (nat_le (length w) 24) g).0) h

-- the words of a written line
words_again : (l : Line) → IsWellNamed l → words_of (written_line l) ≡ spelling l
words_again l named = words_written (spelling l) (words_plain (spelling l) (spelling_words l named)) (λ e. absurd (cc (e, no_line, line_of-spelling l named)))

-- below these lines a line breaks no rule, but perhaps that of the order, and gives this draft
pub record IsAdded (e : Draft) (n : ℕ) (l : Line) (is_last : Bool) (more : Draft) : Type 0 where
  pub named : IsWellNamed l
  pub short : length (spelling l) ≤ 80
  pub ended : is_end (kind_of l) ≡ is_last
  pub new : is_taken e l ≡ false
  pub adds : with_line e n l ≡ Some more
  pub room : is_full e l ≡ false

-- such a line is taken in, where it is in order
judged_added : (above : LinesAbove) (n : ℕ) (l : Line) (is_last : Bool) (more : Draft) → is_out_of_order n above.kind (kind_of l) ≡ false
    → IsAdded above.draft n l is_last more → judgement above n false (Some l) ≡ Ok (record { kind = Some (kind_of l); draft = more })
judged_added above n l is_last more order added = rw (order, added.new, added.adds, added.room) refl

-- likewise as it is written
judge_written : (above : LinesAbove) (n : ℕ) (l : Line) (is_last : Bool) (more : Draft) → is_out_of_order n above.kind (kind_of l) ≡ false
    → IsAdded above.draft n l is_last more → line_judgement above n (written_line l) ≡ Ok (record { kind = Some (kind_of l); draft = more })
judge_written above n l is_last more order added =
    ap (λ ws. judgement above n (nat_lt 80 (length ws)) (line_of ws)) (words_again l added.named)
    ∙ ap (λ b. judgement above n b (line_of (spelling l))) (le-ltb 80 (length (spelling l)) added.short)
    ∙ ap (judgement above n false) (line_of-spelling l added.named)
    ∙ judged_added above n l is_last more order added

-- a written line is the end line where the line is
ends_written : (l : Line) (is_last : Bool) → IsWellNamed l → is_end (kind_of l) ≡ is_last → is_end_line (written_line l) ≡ is_last
ends_written l is_last named ended =
    ap (λ ws. option_map_or (λ m. is_end (kind_of m)) (line_of ws) false) (words_again l named)
    ∙ ap (λ o. option_map_or (λ m. is_end (kind_of m)) o false) (line_of-spelling l named) ∙ ended

-- reading goes on after a written line, or ends with it
pub read_written : (above : LinesAbove) (n : ℕ) (l : Line) (is_last : Bool) (more : Draft) (lines : List (List ℕ))
    → is_out_of_order n above.kind (kind_of l) ≡ false → IsAdded above.draft n l is_last more
    → read_lines above n (written_line l ∷ lines)
    ≡ read_on n is_last (Ok (record { kind = Some (kind_of l); draft = more })) lines (λ next. read_lines next (n + 1) lines)
read_written above n l is_last more lines order added =
    let go_on : LinesAbove → Result (Draft × ℕ) Fault = λ next. read_lines next (n + 1) lines in
    ap (λ j. read_on n (is_end_line (written_line l)) j lines go_on) (judge_written above n l is_last more order added)
    ∙ ap (λ b. read_on n b (Ok (record { kind = Some (kind_of l); draft = more })) lines go_on) (ends_written l is_last added.named added.ended)

-- a line that is not the first is in order after a kind that comes no later
pub in_order : (n : ℕ) (k j : Kind) → 2 ≤ n → is_protocol j ≡ false → rank_of k ≤ rank_of j → is_out_of_order n (Some k) j ≡ false
in_order n k j far other ranked = rw (ne_eqb n 1 (λ e. absurd (omega (arith, e, far))), other, le-ltb (rank_of j) (rank_of k) ranked) refl

-- after a line of rank r the lines are in order, and the last has rank top at most
abbrev pub IsRanked : ℕ → List Line → ℕ → Type 0
IsRanked r [] top = r ≤ top
IsRanked r (l ∷ ls) top = (r ≤ rank_of (kind_of l)) × IsRanked (rank_of (kind_of l)) ls top

-- lines of one rank are in order
pub ranked_alike : {A : Type 0} (line : A → Line) (top : ℕ) (xs : List A) (r : ℕ) → ((x : A) → rank_of (kind_of (line x)) ≡ top) → r ≤ top
    → IsRanked r (map line xs) top
ranked_alike line top [] r same h = h
ranked_alike line top (x ∷ xs) r same h = (omega (arith, same x, h), ranked_alike line top xs (rank_of (kind_of (line x))) same (omega (arith, same x)))

-- a message stands by its class
message_rank : (m : MsgLine) → rank_of (kind_of (message_line_of m)) ≡ 3 + class_rank m.class
message_rank m = at m.class
  where
    at : (c : MsgClass) → rank_of (kind_of (line.Message m.name c)) ≡ 3 + class_rank c
    at (class.Request asked) = refl
    at (class.Forward asked) = refl
    at class.Reply = refl

-- no class has a rank past that of a reply
class_most : (c : MsgClass) → class_rank c ≤ 2
class_most (class.Request asked) = omega arith
class_most (class.Forward asked) = omega arith
class_most class.Reply = omega arith

-- messages that are ordered after one
ranked_from : (m : MsgLine) (ms : List MsgLine) → is_ordered (map (λ x. class_rank x.class) (m ∷ ms)) ≡ true
    → IsRanked (rank_of (kind_of (message_line_of m))) (map message_line_of ms) 5
ranked_from m [] h = omega (arith, message_rank m, class_most m.class)
ranked_from m (x ∷ xs) h =
    let parts = and_parts (nat_le (class_rank m.class) (class_rank x.class)) (is_ordered (map (λ y. class_rank y.class) (x ∷ xs))) h in (
      omega (arith, message_rank m, message_rank x, leb-true (class_rank m.class) (class_rank x.class) parts.0),
      ranked_from x xs parts.1,
    )

-- messages that are ordered by class are in order
pub ranked_messages : (ms : List MsgLine) (r : ℕ) → r ≤ 3 → is_ordered (map (λ x. class_rank x.class) ms) ≡ true → IsRanked r (map message_line_of ms) 5
ranked_messages [] r h ordered = omega (arith, h)
ranked_messages (m ∷ ms) r h ordered = (omega (arith, h, message_rank m), ranked_from m ms ordered)

-- one more element has the next number
pub numbered_last : {A : Type 0} (num : ℕ → A → A) (from : ℕ) (front : List A) (n : ℕ) (x : A) → n ≡ from + length front
    → numbered_elements num from (front ++ x ∷ []) ≡ numbered_elements num from front ++ num n x ∷ []
numbered_last num from [] n x e = let same : from ≡ n = omega (arith, e) in ap (λ k. num k x ∷ []) same
numbered_last {A} num from (y ∷ ys) n x e = ap (λ (zs : List A). num from y ∷ zs) (numbered_last num (from + 1) ys n x (omega (arith, e)))

-- each of the elements may be added to a draft of those before it
abbrev pub AreAdded : {A : Type 0} → (List A → Draft) → (A → Line) → (ℕ → A → A) → ℕ → List A → Type 0
AreAdded {A} state line num from xs =
    (front : List A) (x : A) (rest : List A) (n : ℕ) → xs ≡ front ++ x ∷ rest
    → IsAdded (state (numbered_elements num from front)) n (line x) false (state (numbered_elements num from front ++ num n x ∷ [])) × (is_protocol (kind_of (line x)) ≡ false)

-- what reading answers after the lines of some elements, it answers before them
pub read_each : {A : Type 0} (state : List A → Draft) (line : A → Line) (num : ℕ → A → A) (from : ℕ) (xs : List A) (top : ℕ) (tail : List Line)
    (answer : Result (Draft × ℕ) Fault) → 2 ≤ from → AreAdded state line num from xs
    → ((k : Kind) (n : ℕ) → rank_of k ≤ top → n ≡ from + length xs
    → read_lines (record { kind = Some k; draft = state (numbered_elements num from xs) }) n (map written_line tail) ≡ answer)
    → (front rest : List A) (k : Kind) (n : ℕ) → xs ≡ front ++ rest → n ≡ from + length front → IsRanked (rank_of k) (map line rest) top
    → read_lines (record { kind = Some k; draft = state (numbered_elements num from front) }) n (map written_line (map line rest ++ tail)) ≡ answer
read_each {A} state line num from xs top tail answer far adds behind front [] k n split is_n ranked =
    let whole : front ≡ xs = sym (split ∙ append-nil front) in
    ap (λ (ys : List A). read_lines (record { kind = Some k; draft = state (numbered_elements num from ys) }) n (map written_line tail)) whole
    ∙ behind k n ranked (is_n ∙ ap (λ (ys : List A). from + length ys) whole)
read_each {A} state line num from xs top tail answer far adds behind front (x ∷ rest) k n split is_n ranked =
    let lines : List (List ℕ) = map written_line (map line rest ++ tail) in
    let old : Draft = state (numbered_elements num from front) in
    let more : Draft = state (numbered_elements num from front ++ num n x ∷ []) in
    let added = adds front x rest n split in
    let order = in_order n k (kind_of (line x)) (omega (arith, far, is_n)) added.1 ranked.0 in
    read_written (record { kind = Some k; draft = old }) n (line x) false more lines order added.0
    ∙ ap (λ (ys : List A). read_lines (record { kind = Some (kind_of (line x)); draft = state ys }) (n + 1) lines) (sym (numbered_last num from front n x is_n))
    ∙ read_each state line num from xs top tail answer far adds behind (front ++ x ∷ []) rest (kind_of (line x)) (n + 1)
    (split ∙ sym (append_assoc front (x ∷ []) rest)) (omega (arith, is_n, length-append front (x ∷ []))) ranked.1
