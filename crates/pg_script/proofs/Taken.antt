-- What the lines of a script are that is read.
use Rattle.std.proofs.Common.{◌≡◌, ℕ, ◌+◌, ◌<◌, ◌≤◌, Bool, true, false, List, [], ◌∷◌, ◌++◌, length, map, Option, Some, None, Result, Ok, Err, refl, sym, ap, subst, ◌∙◌, arith, append_assoc, append-nil, length-append}
use Rattle.std.specs.Prelude.{◌&&◌, nat_lt, nat_le}
use Rattle.std.specs.List.{list_all}
use Rattle.std.specs.Option.{option_map_or}
use Rattle.std.proofs.lemmas.Bool.{and_parts, and_from, leb-true, eqb-true, eq-eqb}
use Rattle.std.proofs.lemmas.List.Folds.{list_all-append}
use Rattle.std.proofs.lemmas.Option.{cond_some}
use Rattle.pg_perm.specs.declared.fault.Rule.{Rule}
use Rattle.pg_lines.specs.Lines.{words_of, lines_of}
use Rattle.pg_script.specs.declared.script.ScriptOp.{ScriptOp}
use Rattle.pg_script.specs.declared.statement.OpForm.{OpForm}
use Rattle.pg_script.specs.declared.statement.OpForm.TheVariants.{Load, Store, Evict}
use Rattle.pg_script.specs.declared.statement.Statement.{Statement}
use Rattle.pg_script.specs.declared.statement.Statement.TheVariants.{Cores, Blocks, Op, Done}
use Rattle.pg_script.specs.Forms.{spelling}
use Rattle.pg_script.specs.Reading.{statement_of}
use Rattle.pg_script.specs.Scripts.{Operations, has_word, is_inside, IsWithin}
use Rattle.pg_script.specs.ScriptFaults.{no_operations, is_in_place, is_bounded, has_small_value, op_of, with_statement, statement_in_place, statement_at, is_done_line, is_done}
use Rattle.pg_script.specs.Texts.{line_judgement, read_lines, reading}
use Rattle.pg_script.specs.Printing.{form_of, op_line_of, lines_in}
use Rattle.pg_faults.proofs.LineFaults.{same_ok}
use Rattle.pg_script.proofs.Spellings.{statement_of-some}
use Rattle.pg_script.proofs.Judging.{is_over, judged_taken, read_on}

-- a line that is taken is in a form for its place
pub record IsLine (above more : Operations) (n : ℕ) (line : List ℕ) (s : Statement) : Type 0 where
  pub words : words_of line ≡ spelling s
  pub in_place : is_in_place n s ≡ true
  pub bounded : is_bounded above s ≡ true
  pub room : is_over above s ≡ false
  pub more_is : more ≡ with_statement above s
  pub ended : is_done_line line ≡ is_done s

-- what a line says that is in a form for its place
placed : (n : ℕ) (o : Option Statement) (s : Statement) → statement_in_place n o ≡ Some s → (o ≡ Some s) × (is_in_place n s ≡ true)
placed n None s e = absurd cc
placed n (Some t) s e =
    let found = cond_some (is_in_place n t) t s e in
    (ap Some found.1, subst (λ (x : Statement). is_in_place n x ≡ true) found.1 found.0)

pub line_taken : (above more : Operations) (n : ℕ) (line : List ℕ) → line_judgement above n line ≡ Ok more → (s : Statement) × IsLine above more n line s
line_taken above more n line e =
    let taken = judged_taken above more (statement_at n line) e in
    let s : Statement = taken.statement in
    let at_place = placed n (statement_of (words_of line)) s taken.is_some in (
      s,
      record {
        words = (statement_of-some (words_of line) s at_place.0).0;
        in_place = at_place.1;
        bounded = taken.bounded;
        room = taken.room;
        more_is = taken.more_is;
        ended = ap (λ o. option_map_or is_done o false) at_place.0;
      },
    )

-- the first line was taken, and is the last or is followed by lines that were read
pub record IsStep (above : Operations) (n : ℕ) (line : List ℕ) (lines : List (List ℕ)) (whole : Operations) : Type 0 where
  pub more : Operations
  pub statement : Statement
  pub is_line : IsLine above more n line statement
  pub goes_on : is_done statement ≡ false → read_lines more (n + 1) lines ≡ Ok whole
  pub stops : is_done statement ≡ true → (lines ≡ []) × (whole ≡ more)

pub step_taken : (above : Operations) (n : ℕ) (line : List ℕ) (lines : List (List ℕ)) (whole : Operations) → read_lines above n (line ∷ lines) ≡ Ok whole
    → IsStep above n line lines whole
step_taken above n line lines whole e = at lines (line_judgement above n line) (is_done_line line) refl refl e
  where
    at : (lines : List (List ℕ)) (j : Result Operations Rule) (b : Bool) → line_judgement above n line ≡ j → is_done_line line ≡ b
        → read_on n b j lines (λ more. read_lines more (n + 1) lines) ≡ Ok whole → IsStep above n line lines whole
    at lines (Err R) b j h e = absurd cc
    at [] (Ok more) true j h e =
        let taken = line_taken above more n line j in
        record {
          more = more;
          statement = taken.0;
          is_line = taken.1;
          goes_on = λ d. absurd (cc (d, h, taken.1.ended));
          stops = λ d. (refl, sym (same_ok more whole e));
        }
    at (next ∷ lines) (Ok more) true j h e = absurd cc
    at lines (Ok more) false j h e =
        let taken = line_taken above more n line j in
        record {
          more = more;
          statement = taken.0;
          is_line = taken.1;
          goes_on = λ d. e;
          stops = λ d. absurd (cc (d, h, taken.1.ended));
        }

-- the form of what a form does is that form
form_back : (form : OpForm) → form_of (op_of form) ≡ form
form_back Load = refl
form_back (Store value) = refl
form_back Evict = refl

-- what has a small value stores a word
word_small : (form : OpForm) → has_small_value form ≡ true → has_word (op_of form) ≡ true
word_small Load h = refl
word_small (Store value) h = h
word_small Evict h = refl

-- below the two first lines are operations and `done`
pub record AreOps (above : Operations) (lines : List (List ℕ)) (whole : Operations) : Type 0 where
  pub behind : List ScriptOp
  pub whole_is : whole ≡ record above { ops = above.ops ++ behind }
  pub words : map words_of lines ≡ map spelling (map op_line_of behind ++ Done ∷ [])
  pub within : IsWithin whole

-- an operation that is taken leaves what is said within its bounds
op_within : (above : Operations) (core block : ℕ) (form : OpForm) → IsWithin above → is_bounded above (Op core block form) ≡ true
    → is_over above (Op core block form) ≡ false → IsWithin (with_statement above (Op core block form))
op_within above core block form within bounded room =
    let o : ScriptOp = record { core = core; block = block; op = op_of form } in
    let parts = and_parts (nat_lt core above.cores && nat_lt block above.blocks) (has_small_value form) bounded in
    record {
      some_core = within.some_core;
      few_cores = within.few_cores;
      some_block = within.some_block;
      few_blocks = within.few_blocks;
      few_ops = omega (arith, length-append above.ops (o ∷ []), within.few_ops, not_full);
      inside = list_all-append (is_inside above.cores above.blocks) above.ops (o ∷ [])
          ∙ and_from (list_all (is_inside above.cores above.blocks) above.ops) (is_inside above.cores above.blocks o && true) within.inside
          (and_from (is_inside above.cores above.blocks o) true
          (and_from (nat_lt core above.cores && nat_lt block above.blocks) (has_word (op_of form)) parts.0 (word_small form parts.1)) refl);
    }
  where
    not_full : length above.ops ≡ 16384 → ⊥
    not_full e = absurd (cc (room, eq-eqb (length above.ops) 16384 e))

-- one more operation before those after it
ops_before : (above : Operations) (core block : ℕ) (form : OpForm) (line : List ℕ) (lines : List (List ℕ)) (whole : Operations)
    → words_of line ≡ spelling (Op core block form) → AreOps (with_statement above (Op core block form)) lines whole → AreOps above (line ∷ lines) whole
ops_before above core block form line lines whole words ops =
    let o : ScriptOp = record { core = core; block = block; op = op_of form } in
    record {
      behind = o ∷ ops.behind;
      whole_is = ops.whole_is ∙ ap (λ (os : List ScriptOp). record above { ops = os }) (append_assoc above.ops (o ∷ []) ops.behind);
      words = λ i. (words ∙ ap (λ f. spelling (Op core block f)) (sym (form_back form))) i ∷ ops.words i;
      within = ops.within;
    }

pub ops_read : (above : Operations) (n : ℕ) (lines : List (List ℕ)) (whole : Operations) → 2 < n → IsWithin above → read_lines above n lines ≡ Ok whole
    → AreOps above lines whole
ops_read above n [] whole far within e = absurd cc
ops_read above n (line ∷ lines) whole far within e =
    let step = step_taken above n line lines whole e in
    at step.statement step.more step.is_line step.goes_on step.stops (λ more. ops_read more (n + 1) lines whole (omega (arith, far)))
  where
    at : (s : Statement) (more : Operations) → IsLine above more n line s → (is_done s ≡ false → read_lines more (n + 1) lines ≡ Ok whole)
        → (is_done s ≡ true → (lines ≡ []) × (whole ≡ more))
        → ((more : Operations) → IsWithin more → read_lines more (n + 1) lines ≡ Ok whole → AreOps more lines whole)
        → AreOps above (line ∷ lines) whole
    at (Cores count) more taken goes_on stops behind = absurd (omega (arith, far, eqb-true n 1 taken.in_place))
    at (Blocks count) more taken goes_on stops behind = absurd (omega (arith, far, eqb-true n 2 taken.in_place))
    at (Op core block form) more taken goes_on stops behind =
        ops_before above core block form line lines whole taken.words
        (behind (with_statement above (Op core block form)) (op_within above core block form within taken.bounded taken.room)
        (sym (ap (λ (m : Operations). read_lines m (n + 1) lines) taken.more_is) ∙ goes_on refl))
    at Done more taken goes_on stops behind =
        let last = stops refl in
        record {
          behind = [];
          whole_is = last.1 ∙ taken.more_is ∙ sym (ap (λ (os : List ScriptOp). record above { ops = os }) (append-nil above.ops));
          words = (λ i. taken.words i ∷ map words_of (last.0 i));
          within = subst IsWithin (sym (last.1 ∙ taken.more_is)) within;
        }

-- so many cores and blocks, and no operation
abbrev counts : ℕ → ℕ → Operations
counts c b = record { cores = c; blocks = b; ops = [] }

-- the second line of a script that is read says how many blocks there are, and below it are operations
record AreBlocks (cores : ℕ) (lines : List (List ℕ)) (whole : Operations) : Type 0 where
  blocks : ℕ
  line : List ℕ
  rest : List (List ℕ)
  lines_are : lines ≡ line ∷ rest
  words : words_of line ≡ spelling (Blocks blocks)
  ops : AreOps (counts cores blocks) rest whole

in_range : (most n : ℕ) → (nat_le 1 n && nat_le n most) ≡ true → (1 ≤ n) × (n ≤ most)
in_range most n h = let parts = and_parts (nat_le 1 n) (nat_le n most) h in (leb-true 1 n parts.0, leb-true n most parts.1)

blocks_read : (cores : ℕ) (lines : List (List ℕ)) (whole : Operations) → 1 ≤ cores → cores ≤ 32 → read_lines (counts cores 0) 2 lines ≡ Ok whole
    → AreBlocks cores lines whole
blocks_read cores [] whole some few e = absurd cc
blocks_read cores (line ∷ lines) whole some few e =
    let step = step_taken (counts cores 0) 2 line lines whole e in
    at step.statement step.more step.is_line step.goes_on
  where
    at : (s : Statement) (more : Operations) → IsLine (counts cores 0) more 2 line s → (is_done s ≡ false → read_lines more 3 lines ≡ Ok whole)
        → AreBlocks cores (line ∷ lines) whole
    at (Cores count) more taken goes_on = absurd (cc taken.in_place)
    at (Blocks count) more taken goes_on =
        let range = in_range 64 count taken.bounded in
        record {
          blocks = count;
          line = line;
          rest = lines;
          lines_are = refl;
          words = taken.words;
          ops = ops_read (counts cores count) 3 lines whole (omega arith)
              (record { some_core = some; few_cores = few; some_block = range.0; few_blocks = range.1; few_ops = omega arith; inside = refl })
              (sym (ap (λ (m : Operations). read_lines m 3 lines) taken.more_is) ∙ goes_on refl);
        }
    at (Op core block form) more taken goes_on = absurd (cc taken.in_place)
    at Done more taken goes_on = absurd (cc taken.in_place)

-- the lines of a script that is read are those of what it says, which is within the bounds
pub record AreLines (lines : List (List ℕ)) (whole : Operations) : Type 0 where
  pub words : map words_of lines ≡ map spelling (lines_in whole)
  pub within : IsWithin whole

pub script_read : (lines : List (List ℕ)) (whole : Operations) → read_lines no_operations 1 lines ≡ Ok whole → AreLines lines whole
script_read [] whole e = absurd cc
script_read (line ∷ lines) whole e =
    let step = step_taken no_operations 1 line lines whole e in
    at step.statement step.more step.is_line step.goes_on
  where
    joined : (cores : ℕ) → words_of line ≡ spelling (Cores cores) → AreBlocks cores lines whole → AreLines (line ∷ lines) whole
    joined cores words below =
        let whole_is : whole ≡ record { cores = cores; blocks = below.blocks; ops = below.ops.behind } = below.ops.whole_is in
        record {
          words = (λ i. words i ∷ map words_of (below.lines_are i)) ∙ (λ i. spelling (Cores cores) ∷ below.words i ∷ below.ops.words i)
              ∙ sym (ap (λ (s : Operations). map spelling (lines_in s)) whole_is);
          within = below.ops.within;
        }

    at : (s : Statement) (more : Operations) → IsLine no_operations more 1 line s → (is_done s ≡ false → read_lines more 2 lines ≡ Ok whole)
        → AreLines (line ∷ lines) whole
    at (Cores count) more taken goes_on =
        let range = in_range 32 count taken.bounded in
        joined count taken.words (blocks_read count lines whole range.0 range.1
        (sym (ap (λ (m : Operations). read_lines m 2 lines) taken.more_is) ∙ goes_on refl))
    at (Blocks count) more taken goes_on = absurd (cc taken.in_place)
    at (Op core block form) more taken goes_on = absurd (cc taken.in_place)
    at Done more taken goes_on = absurd (cc taken.in_place)

-- the same of the bytes of a script
pub words_kept : (bytes : List ℕ) (s : Operations) → reading bytes ≡ Ok s → map words_of (lines_of bytes) ≡ map spelling (lines_in s)
words_kept bytes s e = (script_read (lines_of bytes) s e).words

pub within_bounds : (bytes : List ℕ) (s : Operations) → reading bytes ≡ Ok s → IsWithin s
within_bounds bytes s e = (script_read (lines_of bytes) s e).within
