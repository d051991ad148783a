-- The script of a drill, an operation at a time.
use Rattle.std.proofs.Common.{◌≡◌, ℕ, zero, suc, ◌+◌, ◌-◌, ◌*◌, ◌%◌, ◌<◌, ◌≤◌, arith, Bool, true, false, IsTrue, List, [], ◌∷◌, ◌++◌, length, refl, sym, ap, subst, ◌∙◌}
use Rattle.std.specs.Prelude.{map, nat_lt, ◌&&◌, if◌then◌else◌}
use Rattle.std.specs.List.{range_with_len, list_all}
use Rattle.std.proofs.lemmas.Bool.{and_from, le-leb, lt-ltb}
use Rattle.std.proofs.lemmas.Nat.{mod_below}
use Rattle.std.proofs.lemmas.List.FromFn.{map-range_with_len_more, length-map-range_with_len}
use Rattle.pg_sched.specs.Picks.{next_state, pick_of}
use Rattle.pg_perm.specs.declared.kinds.Op.TheVariants.{Load, Store, Evict}
use Rattle.pg_script.specs.declared.script.ScriptOp.{ScriptOp}
use Rattle.pg_script.specs.Scripts.{Operations, IsWithin, is_inside, has_word}
use Rattle.pg_script.specs.Drills.{state_after, draw, drawn_op, drill_op, drill_operations, IsDrill}

-- three draws more
pub three_more : (seed n : ℕ) → state_after seed (3 * (n + 1)) ≡ next_state (next_state (next_state (state_after seed (3 * n))))
three_more seed n = let three : 3 * (n + 1) ≡ suc (suc (suc (3 * n))) = omega arith in ap (state_after seed) three

pub first_draw : (seed n : ℕ) → draw seed (3 * (n + 1) - 2) ≡ pick_of (next_state (state_after seed (3 * n)))
first_draw seed n = let one : 3 * (n + 1) - 2 ≡ suc (3 * n) = omega arith in ap (draw seed) one

pub second_draw : (seed n : ℕ) → draw seed (3 * (n + 1) - 1) ≡ pick_of (next_state (next_state (state_after seed (3 * n))))
second_draw seed n = let two : 3 * (n + 1) - 1 ≡ suc (suc (3 * n)) = omega arith in ap (draw seed) two

-- one operation more
pub drawn_last : (seed cores blocks n x y : ℕ) (o : ScriptOp) (before after : List ScriptOp) → before ≡ map (drill_op seed cores blocks) (range_with_len 1 n)
    → x ≡ state_after seed (3 * n) → y ≡ next_state (next_state (next_state x)) → o.core ≡ pick_of (next_state x) % cores
    → o.block ≡ pick_of (next_state (next_state x)) % blocks → o.op ≡ drawn_op (n + 1) (pick_of y % 8) → after ≡ before ++ o ∷ []
    → after ≡ map (drill_op seed cores blocks) (range_with_len 1 (n + 1))
drawn_last seed cores blocks n x y o before after are state drawn core block kind pushed =
    pushed ∙ ap (λ (os : List ScriptOp). os ++ o ∷ []) are ∙ ap (λ (p : ScriptOp). map (drill_op seed cores blocks) (range_with_len 1 n) ++ p ∷ []) same
    ∙ sym (map-range_with_len_more (drill_op seed cores blocks) 1 n (n + 1) (omega arith))
  where
    same_core : o.core ≡ (drill_op seed cores blocks (n + 1)).core
    same_core = core ∙ ap (λ (z : ℕ). pick_of (next_state z) % cores) state ∙ sym (ap (λ (p : ℕ). p % cores) (first_draw seed n))

    same_block : o.block ≡ (drill_op seed cores blocks (n + 1)).block
    same_block = block ∙ ap (λ (z : ℕ). pick_of (next_state (next_state z)) % blocks) state ∙ sym (ap (λ (p : ℕ). p % blocks) (second_draw seed n))

    same_state : y ≡ state_after seed (3 * (n + 1))
    same_state = drawn ∙ ap (λ (z : ℕ). next_state (next_state (next_state z))) state ∙ sym (three_more seed n)

    same : o ≡ drill_op seed cores blocks (n + 1)
    same = λ i. record { core = same_core i; block = same_block i; op = (kind ∙ ap (λ (z : ℕ). drawn_op (n + 1) (pick_of z % 8)) same_state) i }

pub next_drawn : (seed n x y : ℕ) → x ≡ state_after seed (3 * n) → y ≡ next_state (next_state (next_state x)) → y ≡ state_after seed (3 * (n + 1))
next_drawn seed n x y state drawn = drawn ∙ ap (λ (z : ℕ). next_state (next_state (next_state z))) state ∙ sym (three_more seed n)

-- Each operation is of a core and a block that there are

drawn_word : (i kind : ℕ) → i ≤ 4294967295 → has_word (drawn_op i kind) ≡ true
drawn_word i kind few = by (nat_lt kind 4) (nat_lt kind 7)
  where
    by : (load store : Bool) → has_word (if load then Load else if store then Store i else Evict) ≡ true
    by true store = refl
    by false true = le-leb i 4294967295 few
    by false false = refl

all_inside : (seed cores blocks a n : ℕ) → 1 ≤ cores → 1 ≤ blocks → a + n ≤ 4294967296
    → list_all (is_inside cores blocks) (map (drill_op seed cores blocks) (range_with_len a n)) ≡ true
all_inside seed cores blocks a zero some_core some_block few = refl
all_inside seed cores blocks a (suc n) some_core some_block few =
    let core = draw seed (3 * a - 2) in
    let block = draw seed (3 * a - 1) in
    and_from (is_inside cores blocks (drill_op seed cores blocks a)) (list_all (is_inside cores blocks) (map (drill_op seed cores blocks) (range_with_len (a + 1) n)))
    (and_from (nat_lt (core % cores) cores && nat_lt (block % blocks) blocks) (has_word (drawn_op a (draw seed (3 * a) % 8)))
    (and_from (nat_lt (core % cores) cores) (nat_lt (block % blocks) blocks)
    (lt-ltb (core % cores) cores (mod_below core cores (omega (arith, some_core)))) (lt-ltb (block % blocks) blocks (mod_below block blocks (omega (arith, some_block)))))
    (drawn_word a (draw seed (3 * a) % 8) (omega (arith, few))))
    (all_inside seed cores blocks (a + 1) n some_core some_block (omega (arith, few)))

pub drill_is_within : (seed cores blocks ops : ℕ) → IsDrill cores blocks ops → IsWithin (drill_operations seed cores blocks ops)
drill_is_within seed cores blocks ops is = record {
  some_core = is.some_core;
  few_cores = is.few_cores;
  some_block = is.some_block;
  few_blocks = is.few_blocks;
  few_ops = (let size = length-map-range_with_len (drill_op seed cores blocks) 1 ops in let few = is.few_ops in omega (arith, size, few));
  inside = all_inside seed cores blocks 1 ops is.some_core is.some_block (let few = is.few_ops in omega (arith, few));
}

pub drawn_is_drill : (seed cores blocks ops n : ℕ) (os : List ScriptOp) → n ≡ ops
    → os ≡ map (drill_op seed cores blocks) (range_with_len 1 n) → record { cores = cores; blocks = blocks; ops = os } ≡ drill_operations seed cores blocks ops
drawn_is_drill seed cores blocks ops n os all are = ap (λ (p : List ScriptOp). record { cores = cores; blocks = blocks; ops = p }) (are ∙ ap (λ (k : ℕ). map (drill_op seed cores blocks) (range_with_len 1 k)) all)
