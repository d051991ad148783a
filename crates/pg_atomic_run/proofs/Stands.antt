-- Where the blocks stand, once an operation was made on one of them.
use Rattle.std.proofs.Common.{◌≡◌, ◌≢◌, ℕ, suc, ◌+◌, ◌<◌, ◌==◌, Bool, true, false, List, [], ◌∷◌, ◌++◌, length, length-set, get_or, set, get_or-set_same, get_or-set_other, append_assoc, Some, refl, sym, ap, subst, ◌∙◌, arith}
use Rattle.std.specs.Prelude.{slice_get, slice_set}
use Rattle.std.specs.List.{list_all}
use Rattle.std.proofs.lemmas.Bool.{and_parts, ltb-true, eqb-true, eq-eqb}
use Rattle.std.proofs.lemmas.Option.{slice_get-get_or, get_or_from_slice_get, slice_get_within, slice_get_read}
use Rattle.pg_perm.specs.declared.kinds.Op.{Op}
use Rattle.pg_perm.specs.declared.step.Step.{Step}
use Rattle.pg_perm.specs.declared.draft.Draft.{Draft}
use Rattle.pg_script.specs.declared.script.ScriptOp.{ScriptOp}
use Rattle.pg_script.specs.Scripts.{Operations, is_inside}
use Rattle.pg_history.specs.HistoryText.{block_text, block_texts}
use Rattle.pg_perm.specs.declared.step.Step.TheVariants as step
use Rattle.pg_atomic.specs.States.{State, initial_state, core_next}
use Rattle.pg_atomic.specs.Steps.{IsReached, after_step, after_steps}
use Rattle.pg_atomic.proofs.Cores.{length-each_from}
use Rattle.pg_atomic.specs.Scripts.{op_steps, steps_of}
use Rattle.pg_atomic_run.specs.declared.block.Block.{Block}
use Rattle.pg_atomic_run.specs.Histories.{ops_on, block_steps}
use Rattle.pg_atomic_run.specs.Blocks.{block_after_op, AreReached, AreStepsSoFar, AreOpen, texts_of}

-- steps leave the number of cores
length_step : (d : Draft) (a : State) (x : Step) → length (after_step d a x).states ≡ length a.states
length_step d a (step.Txn c e) = length-each_from (core_next d a (record { core = c; event = e })) 0 a.states
length_step d a (step.Stale c) = refl
length_step d a (step.Load c v) = refl
length_step d a (step.Store c v) = length-set a.states c _

pub length_steps : (d : Draft) (a : State) (xs : List Step) → length (after_steps d a xs).states ≡ length a.states
length_steps d a [] = refl
length_steps d a (x ∷ xs) = length_steps d (after_step d a x) xs ∙ length_step d a x

-- what holds of each block once one of them is another
pub set_each : (Q P : ℕ → Block → Type 0) (xs : List Block) (i : ℕ) (y : Block) → ((b : ℕ) (x : Block) → slice_get xs b ≡ Some x → Q b x)
    → ((b : ℕ) (x : Block) → (i == b) ≡ false → Q b x → P b x) → P i y → (b : ℕ) (z : Block) → slice_get (slice_set xs i y) b ≡ Some z → P b z
set_each Q P xs i y old others here b z at = by (i == b) refl
  where
    there : b < length xs
    there = let within = slice_get_within (set xs i y) b z at in omega (arith, within, length-set xs i y)

    by : (e : Bool) → (i == b) ≡ e → P b z
    by true h =
        let same : i ≡ b = eqb-true i b h in
        let low : i < length xs = omega (arith, there, same) in
        let is_z : get_or (set xs i y) b z ≡ z = get_or_from_slice_get (set xs i y) b z z at in
        let is_y : get_or (set xs i y) i z ≡ y = get_or-set_same xs i y z low in
        let one : y ≡ z = sym is_y ∙ ap (λ (k : ℕ). get_or (set xs i y) k z) same ∙ is_z in
        subst (λ (k : ℕ). P k z) same (subst (P i) one here)
    by false h =
        let apart : b ≢ i = λ e. differ h (eq-eqb i b (sym e)) in
        let is_z : get_or xs b z ≡ z = sym (get_or-set_other xs i b y z apart) ∙ get_or_from_slice_get (set xs i y) b z z at in
        others b z h (old b z (slice_get-get_or xs b z there ∙ ap Some is_z))
      where
        differ : (i == b) ≡ false → (i == b) ≡ true → ⊥
        differ h g = absurd (cc (h, g))

-- the block of an operation that is inside
pub at_block : (xs : List Block) (cores n : ℕ) (o : ScriptOp) (rest : List ScriptOp) (x : Block) → length xs ≡ n
    → list_all (is_inside cores n) (o ∷ rest) ≡ true → x ≡ get_or xs o.block x → slice_get xs o.block ≡ Some x
at_block xs cores n o rest x many inside is =
    let here = (and_parts _ _ inside).0 in
    let two = (and_parts _ _ here).0 in
    let low : o.block < n = ltb-true o.block n (and_parts _ _ two).1 in
    slice_get_read xs n o.block x (sym many) low is

pub rest_inside : (cores n : ℕ) (o : ScriptOp) (rest : List ScriptOp) → list_all (is_inside cores n) (o ∷ rest) ≡ true → list_all (is_inside cores n) rest ≡ true
rest_inside cores n o rest inside = (and_parts _ _ inside).1

-- the operations on the block of the first one, and on another
pub ops_here : (o : ScriptOp) (rest : List ScriptOp) (b : ℕ) → (o.block == b) ≡ true → ops_on (o ∷ rest) b ≡ (o.core, o.op) ∷ ops_on rest b
ops_here o rest b h = rw h refl

pub ops_apart : (o : ScriptOp) (rest : List ScriptOp) (b : ℕ) → (o.block == b) ≡ false → ops_on (o ∷ rest) b ≡ ops_on rest b
ops_apart o rest b h = rw h refl

-- the blocks once an operation was made
pub at_after : (d : Draft) (all : ℕ → List Step) (o : ScriptOp) (rest : List ScriptOp) (xs : List Block) (x : Block) → AreStepsSoFar d all (o ∷ rest) xs
    → slice_get xs o.block ≡ Some x → AreStepsSoFar d all rest (slice_set xs o.block (block_after_op d o.core o.op x))
at_after d all o rest xs x at here =
    set_each (λ b z. z.steps ++ steps_of d z.atomic (ops_on (o ∷ rest) b) ≡ all b) (λ b z. z.steps ++ steps_of d z.atomic (ops_on rest b) ≡ all b) xs o.block
    (block_after_op d o.core o.op x) at others own
  where
    others : (b : ℕ) (z : Block) → (o.block == b) ≡ false → z.steps ++ steps_of d z.atomic (ops_on (o ∷ rest) b) ≡ all b
        → z.steps ++ steps_of d z.atomic (ops_on rest b) ≡ all b
    others b z apart h = ap (λ (os : List (ℕ × Op)). z.steps ++ steps_of d z.atomic os) (sym (ops_apart o rest b apart)) ∙ h

    own : (x.steps ++ op_steps d x.atomic o.core o.op) ++ steps_of d (after_steps d x.atomic (op_steps d x.atomic o.core o.op)) (ops_on rest o.block) ≡ all o.block
    own =
        append_assoc x.steps (op_steps d x.atomic o.core o.op) (steps_of d (after_steps d x.atomic (op_steps d x.atomic o.core o.op)) (ops_on rest o.block))
        ∙ ap (λ (os : List (ℕ × Op)). x.steps ++ steps_of d x.atomic os) (sym (ops_here o rest o.block (eq-eqb o.block o.block refl)))
        ∙ at o.block x here

pub reached_after : (d : Draft) (n : ℕ) (xs : List Block) (i : ℕ) (y : Block) → AreReached d n xs → IsReached d n y.atomic → length y.atomic.states ≡ n
    → AreReached d n (slice_set xs i y)
reached_after d n xs i y reached own cores =
    set_each (λ b z. IsReached d n z.atomic × (length z.atomic.states ≡ n)) (λ b z. IsReached d n z.atomic × (length z.atomic.states ≡ n)) xs i y
    reached (λ b z apart h. h) (own, cores)

-- blocks that are open
pub open_at : (d : Draft) (s : Operations) (xs : List Block) → AreOpen d s.cores xs → AreStepsSoFar d (block_steps d s) s.ops xs
open_at d s xs opened b x at =
    let is = opened b x at in
    ap (λ (z : Block). z.steps ++ steps_of d z.atomic (ops_on s.ops b)) is

pub open_reached : (d : Draft) (n : ℕ) (xs : List Block) → AreOpen d n xs → ((b : ℕ) (x : Block) → length (initial_state d n).states ≡ n) → AreReached d n xs
open_reached d n xs opened many b x at =
    let is : x.atomic ≡ initial_state d n = ap (λ (z : Block). z.atomic) (opened b x at) in
    (([], tt, is), ap (λ (a : State). length a.states) is ∙ many b x)

-- the texts of blocks whose steps are these
pub texts_at : (steps : ℕ → List Step) (b : ℕ) (xs : List Block) → ((k : ℕ) (x : Block) → slice_get xs k ≡ Some x → x.steps ≡ steps (b + k))
    → texts_of b xs ≡ block_texts steps b (length xs)
texts_at steps b [] at = refl
texts_at steps b (x ∷ xs) at =
    let first : x.steps ≡ steps b = at 0 x refl ∙ ap steps (plus_zero b) in
    ap (λ (ys : List Step). block_text b ys ++ texts_of (b + 1) xs) first
    ∙ ap (λ (t : List ℕ). block_text b (steps b) ++ t) (texts_at steps (b + 1) xs (λ k z e. at (suc k) z e ∙ ap steps (plus_one b k)))
  where
    plus_zero : (n : ℕ) → n + 0 ≡ n
    plus_zero n = omega arith

    plus_one : (n k : ℕ) → n + suc k ≡ n + 1 + k
    plus_one n k = omega arith
