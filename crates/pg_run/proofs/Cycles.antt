-- The block of a turn is the first from its pick on, around the circle.
use Rattle.std.proofs.Common.{◌≡◌, ℕ, zero, suc, ◌+◌, ◌-◌, ◌*◌, ◌<◌, ◌≤◌, ◌⊎◌, arith, Bool, true, false, cond, List, [], length, Option, Some, None, refl, sym, ap, subst, ◌∙◌, inl, inr}
use Rattle.std.specs.Prelude.{◌%◌, slice_get}
use Rattle.std.specs.List.{find, range_with_len}
use Rattle.std.specs.Option.{option_map, option_and_then, option_or}
use Rattle.std.proofs.lemmas.Nat.{mod_below, mod-mul-add}
use Rattle.std.proofs.lemmas.Option.{same_Some}
use Rattle.std.proofs.lemmas.List.Folds.{find-append}
use Rattle.pg_perm.specs.declared.draft.Draft.{Draft}
use Rattle.pg_table.proofs.Lists.{in_numbers}
use Rattle.pg_messages.specs.declared.messages.WorldEvent.{WorldEvent}
use Rattle.pg_controllers.specs.Worlds.{Picks, World}
use Rattle.pg_world.specs.Enabled.{enabled_events}
use Rattle.pg_run.specs.Schedules.{Turn, block, is_active, places_from, active_block, event_at, turn_in, next_turn}
use Rattle.pg_run.proofs.Turns.{none_found, empty_is}

-- what is found among numbers is the first that passes
found_number : (p : ℕ → Bool) (a m t : ℕ) → find p (range_with_len a m) ≡ Some t → (a ≤ t) × (t < a + m) × ((i : ℕ) → a ≤ i → i < t → p i ≡ false)
found_number p a zero t found = absurd cc
found_number p a (suc m) t found = at (p a) refl found (found_number p (a + 1) m t)
  where
    first_or : (i : ℕ) → a ≤ i → (a ≡ i) ⊎ (a + 1 ≤ i)
    first_or i low = search arith

    at : (b : Bool) → p a ≡ b → cond b (Some a) (find p (range_with_len (a + 1) m)) ≡ Some t
        → (find p (range_with_len (a + 1) m) ≡ Some t → (a + 1 ≤ t) × (t < a + 1 + m) × ((i : ℕ) → a + 1 ≤ i → i < t → p i ≡ false))
        → (a ≤ t) × (t < a + suc m) × ((i : ℕ) → a ≤ i → i < t → p i ≡ false)
    at true e found rest = let same = same_Some a t found in (omega (arith, same), omega (arith, same), λ i low high. absurd (omega (arith, same, low, high)))
    at false e found rest =
        let (low, high, before) = rest found in (
          omega (arith, low),
          omega (arith, high),
          λ i from to. elim (first_or i from) [
            | inl same ↦ ap p (sym same) ∙ e
            | inr later ↦ before i later to
          ],
        )

-- how many steps a place is after place b
steps_on : (n b i : ℕ) → b ≤ i → i < n → (i + n - b) % n ≡ i - b
steps_on n b i from lt =
    let same : i + n - b ≡ 1 * n + (i - b) = omega (arith, from) in
    ap (λ k. k % n) same ∙ mod-mul-add 1 n (i - b) (omega (arith, lt, from))

steps_round : (n b i : ℕ) → i < b → b ≤ n → (i + n - b) % n ≡ i + n - b
steps_round n b i before low =
    let same : i + n - b ≡ 0 * n + (i + n - b) = omega arith in
    ap (λ k. k % n) same ∙ mod-mul-add 0 n (i + n - b) (omega (arith, before, low))

first_around : (p : ℕ → Bool) (n b t i : ℕ) → b < n → find p (places_from b n) ≡ Some t → i < n → (i + n - b) % n < (t + n - b) % n → p i ≡ false
first_around p n b t i low found lt less = by (find p (range_with_len b (n - b))) refl (sym (find-append p (range_with_len b (n - b)) (range_with_len 0 b)) ∙ found)
  where
    before_or : (b ≤ i) ⊎ (i < b)
    before_or = search arith

    by : (o : Option ℕ) → find p (range_with_len b (n - b)) ≡ o → option_or o (find p (range_with_len 0 b)) ≡ Some t → p i ≡ false
    by (Some u) there same =
        let is = same_Some u t same in
        let (from, to, rest) = found_number p b (n - b) t (there ∙ ap Some is) in
        let t_at = steps_on n b t from (omega (arith, to, low)) in
        elim before_or [
          | inl on ↦ let i_at = steps_on n b i on lt in rest i on (omega (arith, i_at, t_at, less, on, from))
          | inr round ↦ let i_at = steps_round n b i round (omega (arith, low)) in absurd (omega (arith, i_at, t_at, less, round, from, to, low))
        ]
    by None there same =
        let (from, to, rest) = found_number p 0 b t same in
        let t_at = steps_round n b t (omega (arith, to)) (omega (arith, low)) in
        elim before_or [
          | inl on ↦ none_found p (range_with_len b (n - b)) i there (in_numbers b (n - b) i on (omega (arith, lt, on)))
          | inr round ↦ let i_at = steps_round n b i round (omega (arith, low)) in rest i (omega arith) (omega (arith, i_at, t_at, less, low))
        ]

-- the block and the event of a turn
turn_parts : (d : Draft) (p : Picks) (ws : List World) (k : ℕ) (t : Turn) → next_turn d p ws k ≡ Some t
    → (active_block d p ws (k % length ws) ≡ Some t.block) × (event_at k (enabled_events p (block d ws t.block)) ≡ Some t.event)
turn_parts d p ws k t next = by (active_block d p ws (k % length ws)) refl next
  where
    event : (b : ℕ) (o : Option WorldEvent) → active_block d p ws (k % length ws) ≡ Some b → event_at k (enabled_events p (block d ws b)) ≡ o → option_map {T = WorldEvent} {U = Turn} (λ e. record { block = b; event = e }) o ≡ Some t
        → (active_block d p ws (k % length ws) ≡ Some t.block) × (event_at k (enabled_events p (block d ws t.block)) ≡ Some t.event)
    event b None found there same = absurd cc
    event b (Some e) found there same =
        let turn : record { block = b; event = e } ≡ t = same_Some {A = Turn} (record { block = b; event = e }) t same in
        subst (λ (t : Turn). (active_block d p ws (k % length ws) ≡ Some t.block) × (event_at k (enabled_events p (block d ws t.block)) ≡ Some t.event)) turn (found, there)

    by : (o : Option ℕ) → active_block d p ws (k % length ws) ≡ o → option_and_then (turn_in d p ws k) o ≡ Some t
        → (active_block d p ws (k % length ws) ≡ Some t.block) × (event_at k (enabled_events p (block d ws t.block)) ≡ Some t.event)
    by None found same = absurd cc
    by (Some b) found same = event b (event_at k (enabled_events p (block d ws b))) found refl same

pub turn_event : (d : Draft) (p : Picks) (ws : List World) (k : ℕ) (t : Turn) → next_turn d p ws k ≡ Some t
    → slice_get (enabled_events p (block d ws t.block)) (k % length (enabled_events p (block d ws t.block))) ≡ Some t.event
turn_event d p ws k t next = (turn_parts d p ws k t next).1

pub turn_block : (d : Draft) (p : Picks) (ws : List World) (k i : ℕ) (t : Turn) → next_turn d p ws k ≡ Some t → i < length ws
    → (i + length ws - k % length ws) % length ws < (t.block + length ws - k % length ws) % length ws → enabled_events p (block d ws i) ≡ []
turn_block d p ws k i t next lt less =
    empty_is (enabled_events p (block d ws i))
    (first_around (λ i. is_active p (block d ws i)) (length ws) (k % length ws) t.block i (mod_below k (length ws) (omega (arith, lt))) (turn_parts d p ws k t next).0 lt less)
