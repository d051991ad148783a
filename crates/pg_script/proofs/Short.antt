-- The text of what is within the bounds is short.
use Rattle.std.proofs.Common.{◌≡◌, ℕ, ◌+◌, ◌*◌, ◌<◌, ◌≤◌, true, List, [], ◌∷◌, ◌++◌, length, map, ap, arith, length-append}
use Rattle.std.specs.Prelude.{◌&&◌, nat_lt}
use Rattle.std.specs.Fmt.{decimal}
use Rattle.std.specs.List.{list_all, join_with_byte}
use Rattle.std.proofs.lemmas.Bool.{and_parts, leb-true, ltb-true}
use Rattle.std.proofs.lemmas.Fmt.{length-decimal-le_wide}
use Rattle.pg_perm.specs.declared.kinds.Op.{Op as Operation}
use Rattle.pg_perm.specs.declared.kinds.Op.TheVariants as op
use Rattle.pg_lines.specs.Lines.{line_text, text_of}
use Rattle.pg_script.specs.declared.script.ScriptOp.{ScriptOp}
use Rattle.pg_script.specs.declared.statement.Statement.TheVariants.{Cores, Blocks, Done}
use Rattle.pg_script.specs.Forms.{op_words, spelling}
use Rattle.pg_script.specs.Printing.{form_of, op_line_of, script_text}
use Rattle.pg_script.specs.Scripts.{Operations, has_word, is_inside, IsWithin}

-- words, each with a byte after it
abbrev words_length : List (List ℕ) → ℕ
words_length [] = 0
words_length (w ∷ ws) = length w + 1 + words_length ws

line_length : (w : List ℕ) (ws : List (List ℕ)) → length (line_text (w ∷ ws)) ≡ words_length (w ∷ ws)
line_length w [] = omega (arith, length-append w (10 ∷ []))
line_length w (v ∷ ws) =
    omega (
      arith,
      length-append (join_with_byte 32 (w ∷ v ∷ ws)) (10 ∷ []),
      length-append w (32 ∷ join_with_byte 32 (v ∷ ws)),
      length-append (join_with_byte 32 (v ∷ ws)) (10 ∷ []),
      line_length v ws,
    )

-- a core, and a block, has at most 2 digits
two_digits : (n : ℕ) → n < 100 → length (decimal n) ≤ 2
two_digits n few = length-decimal-le_wide 2 n (omega arith) (omega (arith, few)) (omega (arith, few))

-- a word of 32 bits has at most 10
ten_digits : (n : ℕ) → n ≤ 4294967295 → length (decimal n) ≤ 10
ten_digits n few = length-decimal-le_wide 10 n (omega arith) (omega (arith, few)) (omega (arith, few))

form_length : (core block : ℕ) (o : Operation) → core < 100 → block < 100 → has_word o ≡ true
    → words_length (op_words (decimal core) (decimal block) (form_of o)) ≤ 23
form_length core block op.Load c b w = omega (arith, two_digits core c, two_digits block b)
form_length core block (op.Store value) c b w = omega (arith, two_digits core c, two_digits block b, ten_digits value (leb-true value 4294967295 w))
form_length core block op.Evict c b w = omega (arith, two_digits core c, two_digits block b)

-- a line of an operation that is within the bounds
op_length : (s : Operations) (o : ScriptOp) → IsWithin s → is_inside s.cores s.blocks o ≡ true → length (line_text (spelling (op_line_of o))) ≤ 26
op_length s o within inside =
    let parts = and_parts (nat_lt o.core s.cores && nat_lt o.block s.blocks) (has_word o.op) inside in
    let numbers = and_parts (nat_lt o.core s.cores) (nat_lt o.block s.blocks) parts.0 in
    let words : List (List ℕ) = op_words (decimal o.core) (decimal o.block) (form_of o.op) in
    omega (
      arith,
      line_length (111 ∷ 112 ∷ []) words,
      form_length o.core o.block o.op (omega (arith, ltb-true o.core s.cores numbers.0, within.few_cores))
          (omega (arith, ltb-true o.block s.blocks numbers.1, within.few_blocks)) parts.1,
    )

ops_length : (s : Operations) (os : List ScriptOp) → IsWithin s → list_all (is_inside s.cores s.blocks) os ≡ true
    → length (text_of (map spelling (map op_line_of os ++ Done ∷ []))) ≤ 26 * length os + 5
ops_length s [] within inside = omega arith
ops_length s (o ∷ os) within inside =
    let parts = and_parts (is_inside s.cores s.blocks o) (list_all (is_inside s.cores s.blocks) os) inside in
    let lines : List (List (List ℕ)) = map spelling (map op_line_of os ++ Done ∷ []) in
    omega (
      arith,
      length-append (line_text (spelling (op_line_of o))) (text_of lines),
      op_length s o within parts.0,
      ops_length s os within parts.1,
    )

-- a script has 16,386 lines before `done` at most, of 26 bytes each at most
pub printed_short : (s : Operations) → IsWithin s → length (script_text s) ≤ 426008
printed_short s within =
    let ops : List (List (List ℕ)) = map spelling (map op_line_of s.ops ++ Done ∷ []) in
    let cores : List (List ℕ) = spelling (Cores s.cores) in
    let blocks : List (List ℕ) = spelling (Blocks s.blocks) in
    omega (
      arith,
      length-append (line_text cores) (text_of (blocks ∷ ops)),
      length-append (line_text blocks) (text_of ops),
      line_length (99 ∷ 111 ∷ 114 ∷ 101 ∷ 115 ∷ []) (decimal s.cores ∷ []),
      line_length (98 ∷ 108 ∷ 111 ∷ 99 ∷ 107 ∷ 115 ∷ []) (decimal s.blocks ∷ []),
      two_digits s.cores (omega (arith, within.few_cores)),
      two_digits s.blocks (omega (arith, within.few_blocks)),
      ops_length s s.ops within within.inside,
      within.few_ops,
    )

-- the same of the bytes that are the text
pub bytes_short : (s : Operations) (bytes : List ℕ) → IsWithin s → bytes ≡ script_text s → length bytes ≤ 426008
bytes_short s bytes within e = omega (arith, ap length e, printed_short s within)
