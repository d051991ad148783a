-- The blocks of a script when nothing has happened.
use Rattle.std.proofs.Common.{◌≡◌, ℕ, zero, suc, ◌+◌, ◌<◌, ◌≤◌, ◌==◌, ◌&&◌, arith, Bool, true, false, cond, List, [], ◌∷◌, ◌++◌, length, refl, sym, ap, subst, ◌∙◌}
use Rattle.std.specs.Prelude.{if◌then◌else◌, map}
use Rattle.std.specs.List.{filter, range_with_len}
use Rattle.std.proofs.lemmas.Bool.{ne_eqb}
use Rattle.std.proofs.lemmas.List.{length-map, map-append}
use Rattle.std.proofs.lemmas.List.Elements.{All-nil, All-cons, All-append}
use Rattle.std.proofs.lemmas.List.FromFn.{map-range_with_len_more, length-map-range_with_len}
use Rattle.pg_perm.specs.declared.kinds.Op.{Op}
use Rattle.pg_script.specs.declared.script.ScriptOp.{ScriptOp}
use Rattle.pg_script.specs.Scripts.{Operations, IsWithin, is_on, on_block}
use Rattle.pg_controllers.specs.Worlds.{World}
use Rattle.pg_controllers.specs.Runs.{opening}
use Rattle.pg_table.specs.Tables.{Parts}
use Rattle.pg_world.specs.Kept.{WorldView, operation_count}
use Rattle.pg_run.specs.Systems.{IsBlock, IsSystem, IsOpened, AreOpened, todo_on}

-- Each operation is of one core

-- the operations of n cores from core a on, on a block
abbrev counted : ℕ → ℕ → ℕ → List ScriptOp → ℕ
counted b a n ops = operation_count (map (λ c. map (λ (o : ScriptOp). o.op) (filter (is_on c b) ops)) (range_with_len a n))

off : (c b : ℕ) (o : ScriptOp) → o.core < c → is_on c b o ≡ false
off c b o low = ap (λ x. x && (o.block == b)) (ne_eqb o.core c (λ same. omega (arith, same, low)))

-- the operation is of an earlier core
not_counted : (b a n : ℕ) (o : ScriptOp) (ops : List ScriptOp) → o.core < a → counted b a n (o ∷ ops) ≡ counted b a n ops
not_counted b a zero o ops low = refl
not_counted b a (suc n) o ops low =
    let here = ap (λ x. length (map (λ (o : ScriptOp). o.op) (cond x (o ∷ filter (is_on a b) ops) (filter (is_on a b) ops)))) (off a b o low) in
    let rest = not_counted b (a + 1) n o ops (omega (arith, low)) in omega (arith, here, rest)

core_of : (c b : ℕ) (o : ScriptOp) → is_on c b o ≡ true → o.core < c + 1
core_of c b o on = search (arith, on)

counted_once : (b a n : ℕ) (o : ScriptOp) (ops : List ScriptOp) → counted b a n (o ∷ ops) ≤ counted b a n ops + 1
counted_once b a zero o ops = omega arith
counted_once b a (suc n) o ops = by (is_on a b o) refl (counted_once b (a + 1) n o ops)
  where
    by : (x : Bool) → is_on a b o ≡ x → counted b (a + 1) n (o ∷ ops) ≤ counted b (a + 1) n ops + 1 → counted b a (suc n) (o ∷ ops) ≤ counted b a (suc n) ops + 1
    by true on rest =
        let here = ap (λ x. length (map (λ (o : ScriptOp). o.op) (cond x (o ∷ filter (is_on a b) ops) (filter (is_on a b) ops)))) on in
        let same = not_counted b (a + 1) n o ops (core_of a b o on) in omega (arith, here, same)
    by false on rest =
        let here = ap (λ x. length (map (λ (o : ScriptOp). o.op) (cond x (o ∷ filter (is_on a b) ops) (filter (is_on a b) ops)))) on in omega (arith, here, rest)

none_counted : (b a n : ℕ) → counted b a n [] ≡ 0
none_counted b a zero = refl
none_counted b a (suc n) = let rest = none_counted b (a + 1) n in omega (arith, rest)

few_counted : (b a n : ℕ) (ops : List ScriptOp) → counted b a n ops ≤ length ops
few_counted b a n [] = let none = none_counted b a n in omega (arith, none)
few_counted b a n (o ∷ ops) =
    let one = counted_once b a n o ops in
    let rest = few_counted b a n ops in omega (arith, one, rest)

pub few_operations : (s : Operations) (b : ℕ) → operation_count (todo_on s b) ≤ length s.ops
few_operations s b = few_counted b 0 s.cores s.ops

pub todo_length : (s : Operations) (b : ℕ) → length (todo_on s b) ≡ s.cores
todo_length s b = length-map-range_with_len (λ c. on_block s c b) 0 s.cores

-- a core's operations on a block are among the lines on the block
filtered_step : (a b : Bool) (o : ScriptOp) (core : ℕ) (xs ys : List ScriptOp) → (o.core == core) ≡ a → filter (λ (o : ScriptOp). o.core == core) ys ≡ xs
    → filter (λ (o : ScriptOp). o.core == core) (if b then o ∷ ys else ys) ≡ (if a && b then o ∷ xs else xs)
filtered_step true true o core xs ys is rest = rw is (ap (λ (zs : List ScriptOp). o ∷ zs) rest)
filtered_step false true o core xs ys is rest = rw is rest
filtered_step true false o core xs ys is rest = rest
filtered_step false false o core xs ys is rest = rest

lines_filtered : (core block : ℕ) (ops : List ScriptOp) → filter (λ (o : ScriptOp). o.core == core) (filter (λ (o : ScriptOp). o.block == block) ops) ≡ filter (is_on core block) ops
lines_filtered core block [] = refl
lines_filtered core block (o ∷ ops) =
    filtered_step (o.core == core) (o.block == block) o core (filter (is_on core block) ops) (filter (λ (o : ScriptOp). o.block == block) ops) refl (lines_filtered core block ops)

pub operations_found : (s : Operations) (core block : ℕ) → map (λ (o : ScriptOp). o.op) (filter (λ (o : ScriptOp). o.core == core) (filter (λ (o : ScriptOp). o.block == block) s.ops)) ≡ on_block s core block
operations_found s core block = ap (map (λ (o : ScriptOp). o.op)) (lines_filtered core block s.ops)

-- one core more
pub todo_more : (s : Operations) (b n : ℕ) → map (λ c. on_block s c b) (range_with_len 0 n) ++ on_block s n b ∷ [] ≡ map (λ c. on_block s c b) (range_with_len 0 (n + 1))
todo_more s b n = sym (map-range_with_len_more (λ c. on_block s c b) 0 n n (omega arith))

-- Blocks

-- one block more
pub opened_last : (t u : Parts) (s : Operations) (n : ℕ) (ws vs : List WorldView) (w : WorldView) → AreOpened t s n ws → u ≡ t → IsOpened u s n w → vs ≡ ws ++ w ∷ [] → AreOpened t s (n + 1) vs
opened_last t u s n ws vs w are same one is = subst (λ (vs : List WorldView). AreOpened t s (n + 1) vs) (sym is) (record {
  each = All-append (IsBlock t) ws (w ∷ []) are.each (All-cons (IsBlock t) w [] last.block (All-nil (IsBlock t)));
  given =
      map-append (λ (v : WorldView). v.given) ws (w ∷ [])
      ∙ ap (λ (g : List (List (List Op))). g ++ w.given ∷ []) are.given ∙ ap (λ (g : List (List Op)). map (todo_on s) (range_with_len 0 n) ++ g ∷ []) last.given ∙ sym more;
  worlds =
      map-append (λ (v : WorldView). v.world) ws (w ∷ [])
      ∙ ap (λ (vs : List World). vs ++ w.world ∷ []) are.worlds ∙ ap (λ (v : World). map (opening t.protocol) (map (todo_on s) (range_with_len 0 n)) ++ v ∷ []) last.world
      ∙ sym (map-append (opening t.protocol) (map (todo_on s) (range_with_len 0 n)) (todo_on s n ∷ [])) ∙ ap (map (opening t.protocol)) (sym more);
})
  where
    last : IsOpened t s n w
    last = subst (λ (t : Parts). IsOpened t s n w) same one

    more : map (todo_on s) (range_with_len 0 (n + 1)) ≡ map (todo_on s) (range_with_len 0 n) ++ todo_on s n ∷ []
    more = map-range_with_len_more (todo_on s) 0 n n (omega arith)

pub none_opened : (t : Parts) (s : Operations) → AreOpened t s 0 []
none_opened t s = record { each = λ k d lt. absurd (omega (arith, lt)); given = refl; worlds = refl }

pub opened_length : (t : Parts) (s : Operations) (n : ℕ) (ws : List WorldView) → AreOpened t s n ws → length ws ≡ n
opened_length t s n ws are = sym (length-map ws (λ (v : WorldView). v.given)) ∙ ap length are.given ∙ length-map-range_with_len (todo_on s) 0 n

pub opened_system : (t : Parts) (s : Operations) (ws : List WorldView) → IsWithin s → AreOpened t s s.blocks ws → IsSystem t ws
opened_system t s ws within are =
    let size = opened_length t s s.blocks ws are in
    let some = within.some_block in
    let few = within.few_blocks in
    record { some = omega (arith, size, some); few = omega (arith, size, few); each = are.each }
