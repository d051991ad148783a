-- The text of what is within the bounds is read as the same.
use Rattle.std.proofs.Common.{◌≡◌, ℕ, ◌+◌, ◌<◌, ◌≤◌, true, false, List, [], ◌∷◌, ◌++◌, length, map, Some, None, Ok, Err, refl, sym, ap, ◌∙◌, arith, cond, append_assoc, append-nil, length-append}
use Rattle.std.specs.Prelude.{◌&&◌, ◌==◌, not, nat_lt, nat_le, codes}
use Rattle.std.specs.Fmt.{decimal}
use Rattle.std.specs.List.{list_all, join_with_byte}
use Rattle.std.specs.Option.{option_map_or}
use Rattle.std.proofs.lemmas.Bool.{and_parts, and_from, leb-true, le-leb, ltb-true, lt-ltb, ne_eqb}
use Rattle.std.proofs.lemmas.List.Folds.{list_all-append}
use Rattle.pg_perm.specs.declared.fault.Rule.TheVariants.{C2, C3}
use Rattle.pg_perm.specs.declared.kinds.Op.{Op as Operation}
use Rattle.pg_perm.specs.declared.kinds.Op.TheVariants as op
use Rattle.pg_perm.specs.Names.{is_digit}
use Rattle.pg_lines.specs.Lines.{words_of, is_plain, are_plain}
use Rattle.pg_lines.proofs.Weaker.{all_weaker}
use Rattle.pg_lines.proofs.Written.{words_written, lines_written}
use Rattle.pg_script.specs.declared.script.ScriptOp.{ScriptOp}
use Rattle.pg_script.specs.declared.statement.OpForm.{OpForm}
use Rattle.pg_script.specs.declared.statement.OpForm.TheVariants.{Load, Store, Evict}
use Rattle.pg_script.specs.declared.statement.Statement.{Statement}
use Rattle.pg_script.specs.declared.statement.Statement.TheVariants.{Cores, Blocks, Op, Done}
use Rattle.pg_script.specs.Forms.{op_words, spelling, IsShort, HasShortValue, HasShortNumbers}
use Rattle.pg_script.specs.Reading.{statement_of}
use Rattle.pg_script.specs.Scripts.{Operations, has_word, is_inside, IsWithin}
use Rattle.pg_script.specs.ScriptFaults.{no_operations, is_in_place, is_bounded, has_small_value, op_of, with_statement, statement_in_place, is_done_line, is_done}
use Rattle.pg_script.specs.Texts.{line_judgement, judgement, read_lines, reading}
use Rattle.pg_script.specs.Printing.{form_of, op_line_of, lines_in, script_text}
use Rattle.pg_script.proofs.Decimals.{decimal_word}
use Rattle.pg_script.proofs.Judging.{is_over, read_on}
use Rattle.pg_script.proofs.Spellings.{statement_of-spelling}

-- a digit is neither a space nor a newline
digit_plain : (b : ℕ) → is_digit b ≡ true → is_plain b ≡ true
digit_plain b h =
    let past : 48 ≤ b = leb-true 48 b (and_parts (nat_le 48 b) (nat_le b 57) h).0 in
    and_from (not (b == 32)) (not (b == 10)) (ap not (ne_eqb b 32 (λ e. absurd (omega (arith, past, e))))) (ap not (ne_eqb b 10 (λ e. absurd (omega (arith, past, e)))))

decimal_plain : (n : ℕ) → IsShort n → list_all is_plain (decimal n) ≡ true
decimal_plain n short = all_weaker is_digit is_plain (decimal n) digit_plain (decimal_word n short).digits

-- one more plain word
more_plain : (w : List ℕ) (ws : List (List ℕ)) → list_all is_plain w ≡ true → are_plain ws ≡ true → are_plain (w ∷ ws) ≡ true
more_plain w ws h g = and_from (list_all is_plain w) (are_plain ws) h g

form_plain : (core block : ℕ) (form : OpForm) → IsShort core → IsShort block → HasShortValue form
    → are_plain (op_words (decimal core) (decimal block) form) ≡ true
form_plain core block Load c b v =
    more_plain (decimal core) (codes "load" ∷ decimal block ∷ []) (decimal_plain core c)
    (more_plain (decimal block) [] (decimal_plain block b) refl)
form_plain core block (Store value) c b v =
    more_plain (decimal core) (codes "store" ∷ decimal block ∷ decimal value ∷ []) (decimal_plain core c)
    (more_plain (decimal block) (decimal value ∷ []) (decimal_plain block b) (more_plain (decimal value) [] (decimal_plain value v) refl))
form_plain core block Evict c b v =
    more_plain (decimal core) (codes "evict" ∷ decimal block ∷ []) (decimal_plain core c)
    (more_plain (decimal block) [] (decimal_plain block b) refl)

-- the words of a line are plain
spelling_plain : (s : Statement) → HasShortNumbers s → are_plain (spelling s) ≡ true
spelling_plain (Cores n) h = more_plain (decimal n) [] (decimal_plain n h) refl
spelling_plain (Blocks n) h = more_plain (decimal n) [] (decimal_plain n h) refl
spelling_plain (Op core block form) h = form_plain core block form h.0 h.1 h.2
spelling_plain Done h = refl

-- a line as it stands in a text, without its newline
abbrev written : Statement → List ℕ
written s = join_with_byte 32 (spelling s)

-- no words are no line
no_line : statement_of [] ≡ None
no_line = refl

-- a written line is read as what it was written for
written_again : (s : Statement) → HasShortNumbers s → statement_of (words_of (written s)) ≡ Some s
written_again s short =
    ap statement_of (words_written (spelling s) (spelling_plain s short) (λ e. absurd (cc (ap statement_of e, no_line, statement_of-spelling s short))))
    ∙ statement_of-spelling s short

-- below these lines a line is in a form for its place, with its numbers in bounds, and there is room for it
record IsAdded (above : Operations) (n : ℕ) (s : Statement) : Type 0 where
  short : HasShortNumbers s
  in_place : is_in_place n s ≡ true
  bounded : is_bounded above s ≡ true
  room : is_over above s ≡ false

-- such a line is taken in as it is written
judge_written : (above : Operations) (n : ℕ) (s : Statement) → IsAdded above n s → line_judgement above n (written s) ≡ Ok (with_statement above s)
judge_written above n s added =
    ap (λ o. judgement above (statement_in_place n o)) (written_again s added.short)
    ∙ ap (λ b. judgement above (cond b (Some s) None)) added.in_place
    ∙ ap (λ b. cond b (cond (is_over above s) (Err C3) (Ok (with_statement above s))) (Err C2)) added.bounded
    ∙ ap (λ b. cond b (Err C3) (Ok (with_statement above s))) added.room

-- reading goes on after it, or ends with it
read_written : (above : Operations) (n : ℕ) (s : Statement) (lines : List (List ℕ)) → IsAdded above n s
    → read_lines above n (written s ∷ lines) ≡ read_on n (is_done s) (Ok (with_statement above s)) lines (λ more. read_lines more (n + 1) lines)
read_written above n s lines added =
    ap (λ j. read_on n (is_done_line (written s)) j lines (λ more. read_lines more (n + 1) lines)) (judge_written above n s added)
    ∙ ap (λ b. read_on n b (Ok (with_statement above s)) lines (λ more. read_lines more (n + 1) lines))
    (ap (λ o. option_map_or is_done o false) (written_again s added.short))

-- the operation of the form of an operation is that operation
op_back : (o : Operation) → op_of (form_of o) ≡ o
op_back op.Load = refl
op_back (op.Store value) = refl
op_back op.Evict = refl

small_word : (o : Operation) → has_word o ≡ true → has_small_value (form_of o) ≡ true
small_word op.Load h = refl
small_word (op.Store value) h = h
small_word op.Evict h = refl

short_word : (o : Operation) → has_word o ≡ true → HasShortValue (form_of o)
short_word op.Load h = tt
short_word (op.Store value) h = omega (arith, leb-true value 4294967295 h)
short_word op.Evict h = tt

-- the numbers of an operation that is within the bounds are short
op_short : (s : Operations) (o : ScriptOp) → IsWithin s → is_inside s.cores s.blocks o ≡ true → HasShortNumbers (op_line_of o)
op_short s o within inside =
    let parts = and_parts (nat_lt o.core s.cores && nat_lt o.block s.blocks) (has_word o.op) inside in
    let numbers = and_parts (nat_lt o.core s.cores) (nat_lt o.block s.blocks) parts.0 in (
      omega (arith, ltb-true o.core s.cores numbers.0, within.few_cores),
      omega (arith, ltb-true o.block s.blocks numbers.1, within.few_blocks),
      short_word o.op parts.1,
    )

-- an operation of a script that is within the bounds, below some of those before it
op_added : (s : Operations) (front rest : List ScriptOp) (o : ScriptOp) (n : ℕ) → 2 < n → IsWithin s → s.ops ≡ front ++ o ∷ rest
    → IsAdded (record s { ops = front }) n (op_line_of o)
op_added s front rest o n far within split =
    let inside = and_parts (list_all (is_inside s.cores s.blocks) front) (is_inside s.cores s.blocks o && list_all (is_inside s.cores s.blocks) rest)
    (sym (list_all-append (is_inside s.cores s.blocks) front (o ∷ rest)) ∙ sym (ap (list_all (is_inside s.cores s.blocks)) split) ∙ within.inside) in
    let this = and_parts (is_inside s.cores s.blocks o) (list_all (is_inside s.cores s.blocks) rest) inside.1 in
    let parts = and_parts (nat_lt o.core s.cores && nat_lt o.block s.blocks) (has_word o.op) this.0 in
    record {
      short = op_short s o within this.0;
      in_place = lt-ltb 2 n far;
      bounded = and_from (nat_lt o.core s.cores && nat_lt o.block s.blocks) (has_small_value (form_of o.op)) parts.0 (small_word o.op parts.1);
      room = ne_eqb (length front) 16384 (λ e. absurd (omega (arith, e, ap length split, length-append front (o ∷ rest), within.few_ops)));
    }

-- the operations are read one after another, and then `done`
ops_again : (s : Operations) (front rest : List ScriptOp) (n : ℕ) → 2 < n → IsWithin s → s.ops ≡ front ++ rest
    → read_lines (record s { ops = front }) n (map written (map op_line_of rest ++ Done ∷ [])) ≡ Ok s
ops_again s front [] n far within split =
    read_written (record s { ops = front }) n Done [] (record { short = tt; in_place = lt-ltb 2 n far; bounded = refl; room = refl })
    ∙ ap (λ (os : List ScriptOp). Ok (record s { ops = os })) (sym (split ∙ append-nil front))
ops_again s front (o ∷ rest) n far within split =
    let lines : List (List ℕ) = map written (map op_line_of rest ++ Done ∷ []) in
    read_written (record s { ops = front }) n (op_line_of o) lines (op_added s front rest o n far within split)
    ∙ ap (λ x. read_lines (record s { ops = front ++ record { core = o.core; block = o.block; op = x } ∷ [] }) (n + 1) lines) (op_back o.op)
    ∙ ops_again s (front ++ o ∷ []) rest (n + 1) (omega (arith, far)) within (split ∙ sym (append_assoc front (o ∷ []) rest))

-- the lines of what is within the bounds are read as that
lines_again : (s : Operations) → IsWithin s → read_lines no_operations 1 (map written (lines_in s)) ≡ Ok s
lines_again s within =
    let ops : List (List ℕ) = map written (map op_line_of s.ops ++ Done ∷ []) in
    read_written no_operations 1 (Cores s.cores) (written (Blocks s.blocks) ∷ ops) (record {
      short = omega (arith, within.few_cores);
      in_place = refl;
      bounded = and_from (nat_le 1 s.cores) (nat_le s.cores 32) (le-leb 1 s.cores within.some_core) (le-leb s.cores 32 within.few_cores);
      room = refl;
    })
    ∙ read_written (record no_operations { cores = s.cores }) 2 (Blocks s.blocks) ops (record {
      short = omega (arith, within.few_blocks);
      in_place = refl;
      bounded = and_from (nat_le 1 s.blocks) (nat_le s.blocks 64) (le-leb 1 s.blocks within.some_block) (le-leb s.blocks 64 within.few_blocks);
      room = refl;
    })
    ∙ ops_again s [] s.ops 3 (omega arith) within refl

-- the lines of what is within the bounds are plain
ops_plain : (s : Operations) (os : List ScriptOp) → IsWithin s → list_all (is_inside s.cores s.blocks) os ≡ true
    → list_all are_plain (map spelling (map op_line_of os ++ Done ∷ [])) ≡ true
ops_plain s [] within inside = refl
ops_plain s (o ∷ os) within inside =
    let parts = and_parts (is_inside s.cores s.blocks o) (list_all (is_inside s.cores s.blocks) os) inside in
    and_from (are_plain (spelling (op_line_of o))) (list_all are_plain (map spelling (map op_line_of os ++ Done ∷ [])))
    (spelling_plain (op_line_of o) (op_short s o within parts.0)) (ops_plain s os within parts.1)

lines_plain : (s : Operations) → IsWithin s → list_all are_plain (map spelling (lines_in s)) ≡ true
lines_plain s within =
    let ops : List (List (List ℕ)) = map spelling (map op_line_of s.ops ++ Done ∷ []) in
    and_from (are_plain (spelling (Cores s.cores))) (list_all are_plain (spelling (Blocks s.blocks) ∷ ops))
    (spelling_plain (Cores s.cores) (omega (arith, within.few_cores)))
    (and_from (are_plain (spelling (Blocks s.blocks))) (list_all are_plain ops)
    (spelling_plain (Blocks s.blocks) (omega (arith, within.few_blocks))) (ops_plain s s.ops within within.inside))

map_written : (ls : List Statement) → map (join_with_byte 32) (map spelling ls) ≡ map written ls
map_written [] = refl
map_written (l ∷ ls) = ap (λ (lines : List (List ℕ)). written l ∷ lines) (map_written ls)

-- the text of what is within the bounds is read as that
pub printed_reads : (s : Operations) → IsWithin s → reading (script_text s) ≡ Ok s
printed_reads s within =
    ap (read_lines no_operations 1) (lines_written (map spelling (lines_in s)) (lines_plain s within) ∙ map_written (lines_in s)) ∙ lines_again s within
