-- How large the tally of a block can be, and the tally of one block more.
use Rattle.std.proofs.Common.{◌≡◌, ℕ, ◌+◌, ◌*◌, ◌<◌, ◌≤◌, arith, List, [], ◌∷◌, ◌++◌, length, take, sym, ap, subst, ◌∙◌, append-nil}
use Rattle.std.specs.Prelude.{slice_get, Some}
use Rattle.std.specs.List.{flat_map}
use Rattle.std.proofs.Math.Nat.{mul-le-mul}
use Rattle.std.proofs.lemmas.Grind.{flat_map-append}
use Rattle.std.proofs.lemmas.List.{take_more}
use Rattle.std.proofs.lemmas.List.FromFn.{length-map-range_with_len}
use Rattle.std.proofs.lemmas.Option.{slice_get_within, get_or_from_slice_get}
use Rattle.pg_perm.specs.declared.kinds.Op.{Op}
use Rattle.pg_perm.specs.declared.draft.Draft.{Draft}
use Rattle.pg_script.specs.Scripts.{Operations, IsWithin}
use Rattle.pg_table.specs.Tables.{TableState}
use Rattle.pg_controllers.specs.Worlds.{World}
use Rattle.pg_safe.specs.Work.{total, operation_work}
use Rattle.pg_reached.specs.Reached.{IsReachedWorld}
use Rattle.pg_reached.proofs.Reached.{journal_bounded}
use Rattle.pg_ready.proofs.Counts.{orders_given, dones_given}
use Rattle.pg_runs.specs.Headline.{serial_order}
use Rattle.pg_world.specs.Kept.{operation_count}
use Rattle.pg_run.specs.Systems.{todo_on, todo_of}
use Rattle.pg_run.proofs.Openings.{todo_length, few_operations}
use Rattle.pg_controller_run.proofs.Final.{given_length, todo_at}
use Rattle.pg_tally.specs.declared.tally.Tally.{Tally}
use Rattle.pg_tally.specs.Tallies.{tally_of, plus, IsAtMost}
use Rattle.pg_tally.proofs.Sums.{tally_adds}
use Rattle.pg_drill.specs.Drills.{tally_of_blocks}
use Rattle.pg_drill.proofs.Lengths.{history_short}

-- One block

core_work : (n : ℕ) (os : List Op) → total (operation_work n) os ≡ length os * (2 * n + 2)
core_work n [] = omega arith
core_work n (o ∷ os) = let rest = core_work n os in omega (arith, rest)

all_work : (n : ℕ) (given : List (List Op)) → total (total (operation_work n)) given ≡ operation_count given * (2 * n + 2)
all_work n [] = omega arith
all_work n (os ∷ given) = let one = core_work n os in let rest = all_work n given in omega (arith, one, rest)

-- a world that is reached from at most 16,384 operations of at most 64 cores
module _ (d : Draft) (t : List TableState) (given : List (List Op)) (w : World) (r : IsReachedWorld d t given w) (few : operation_count given ≤ 16384) where
  pub few_done : length w.done ≤ 4194304
  few_done = let most = dones_given d t given w r in omega (arith, most, few)

  pub few_steps : length (serial_order (length given) w) ≤ 4194304
  few_steps =
      let short = history_short (length given) w in
      let order = orders_given d t given w r in
      let done = dones_given d t given w r in omega (arith, short, order, done, few)

  pub few_events : length w.cores ≤ 64 → length w.journal ≤ 4194304
  few_events cores =
      let most = journal_bounded d t given w r in
      let all = all_work (length given) given in
      let size = given_length d t given w r in
      let narrow : 2 * length given + 2 ≤ 130 = omega (arith, size, cores) in
      let product = mul-le-mul few narrow in omega (arith, most, all, product)

-- All blocks

pub one_more : (n : ℕ) (ws : List World) (w : World) → tally_of_blocks n (ws ++ w ∷ []) ≡ plus (tally_of_blocks n ws) (tally_of (serial_order n w) w.done w.journal)
one_more n ws w =
    (λ i. tally_of (steps i) (done i) (events i))
    ∙ tally_adds (flat_map (serial_order n) ws) (serial_order n w) (flat_map (λ (v : World). v.done) ws) w.done (flat_map (λ (v : World). v.journal) ws) w.journal
  where
    at_end : {A : Type 0} (f : World → List A) → flat_map f (ws ++ w ∷ []) ≡ flat_map f ws ++ f w
    at_end f = flat_map-append f ws (w ∷ []) ∙ ap (λ (t : List _). flat_map f ws ++ t) (append-nil (f w))

    steps : flat_map (serial_order n) (ws ++ w ∷ []) ≡ flat_map (serial_order n) ws ++ serial_order n w
    steps = at_end (serial_order n)

    done : flat_map (λ (v : World). v.done) (ws ++ w ∷ []) ≡ flat_map (λ (v : World). v.done) ws ++ w.done
    done = at_end (λ (v : World). v.done)

    events : flat_map (λ (v : World). v.journal) (ws ++ w ∷ []) ≡ flat_map (λ (v : World). v.journal) ws ++ w.journal
    events = at_end (λ (v : World). v.journal)

pub next_tally : (n b : ℕ) (g : List (List Op)) (ws : List World) (w : World) (old one new : Tally) → slice_get ws b ≡ Some w → length g ≡ n → old ≡ tally_of_blocks n (take b ws)
    → one ≡ tally_of (serial_order (length g) w) w.done w.journal → new ≡ plus old one → new ≡ tally_of_blocks n (take (b + 1) ws)
next_tally n b g ws w old one new here size before exact added =
    added
    ∙ ap (λ (t : Tally). plus t one) before
    ∙ ap (λ (t : Tally). plus (tally_of_blocks n (take b ws)) t) (exact ∙ ap (λ (k : ℕ). tally_of (serial_order k w) w.done w.journal) size)
    ∙ sym (one_more n (take b ws) w)
    ∙ ap (tally_of_blocks n) (sym (take_more ws b w (slice_get_within ws b w here) ∙ ap (λ (v : World). take b ws ++ v ∷ []) (get_or_from_slice_get ws b w w here)))

pub next_low : (m k n : ℕ) (a b c : Tally) → IsAtMost m a → IsAtMost k b → m + k ≤ n → c ≡ plus a b → IsAtMost n c
next_low m k n a b c low small sum added = subst (IsAtMost n) (sym added) (record {
  txns = (let x = low.txns in let y = small.txns in omega (arith, x, y, sum));
  stale = (let x = low.stale in let y = small.stale in omega (arith, x, y, sum));
  loads = (let x = low.loads in let y = small.loads in omega (arith, x, y, sum));
  late = (let x = low.late in let y = small.late in omega (arith, x, y, sum));
  stores = (let x = low.stores in let y = small.stores in omega (arith, x, y, sum));
  events = (let x = low.events in let y = small.events in omega (arith, x, y, sum));
  sum = (let x = low.sum in let y = small.sum in omega (arith, x, y, sum));
})

pub at_most_more : (m n : ℕ) (t : Tally) → IsAtMost m t → m ≤ n → IsAtMost n t
at_most_more m n t low more = record {
  txns = (let x = low.txns in omega (arith, x, more));
  stale = (let x = low.stale in omega (arith, x, more));
  loads = (let x = low.loads in omega (arith, x, more));
  late = (let x = low.late in omega (arith, x, more));
  stores = (let x = low.stores in omega (arith, x, more));
  events = (let x = low.events in omega (arith, x, more));
  sum = (let x = low.sum in omega (arith, x, more));
}

-- a block of a script
pub block_given : (s : Operations) (b : ℕ) (gs : List (List (List Op))) (g : List (List Op)) → gs ≡ todo_of s → slice_get gs b ≡ Some g → (b < s.blocks) × (g ≡ todo_on s b)
block_given s b gs g are here =
    let there = ap (λ (x : List (List (List Op))). slice_get x b) (sym are) ∙ here in
    let size : length (todo_of s) ≡ s.blocks = length-map-range_with_len (todo_on s) 0 s.blocks in
    let inside = slice_get_within (todo_of s) b g there in
    let low : b < s.blocks = omega (arith, size, inside) in
    (low, sym (get_or_from_slice_get (todo_of s) b g [] there) ∙ todo_at s b low)

pub block_size : (s : Operations) (b : ℕ) (g : List (List Op)) → g ≡ todo_on s b → length g ≡ s.cores
block_size s b g are = ap (λ (x : List (List Op)). length x) are ∙ todo_length s b

pub block_few : (s : Operations) (b : ℕ) (g : List (List Op)) → IsWithin s → g ≡ todo_on s b → operation_count g ≤ 16384
block_few s b g within are =
    let few = few_operations s b in
    let all = within.few_ops in
    let same = ap operation_count are in omega (arith, few, all, same)
