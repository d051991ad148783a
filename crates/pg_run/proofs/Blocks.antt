-- What the blocks of a system show, and what a turn makes of them.
use Rattle.std.proofs.Common.{◌≡◌, ℕ, suc, ◌+◌, ◌-◌, ◌<◌, arith, Bool, true, false, cond, List, [], ◌∷◌, length, get_or, set, Option, Some, None, refl, sym, ap, subst, ◌∙◌}
use Rattle.std.specs.Prelude.{◌%◌, map}
use Rattle.std.specs.List.{All, AllZip, find, range_with_len}
use Rattle.std.specs.Option.{option_map, option_map_or, option_and_then, option_or, is_some}
use Rattle.std.proofs.lemmas.List.{get_or-map, map-set, set-get_or, length-set, length-map}
use Rattle.std.proofs.lemmas.List.Elements.{All-set}
use Rattle.std.proofs.lemmas.List.Folds.{find-append}
use Rattle.pg_perm.specs.declared.kinds.Op.{Op}
use Rattle.pg_perm.specs.declared.draft.Draft.{Draft}
use Rattle.pg_messages.specs.declared.messages.WorldEvent.{WorldEvent}
use Rattle.pg_table.specs.Tables.{Parts}
use Rattle.pg_table.specs.Pick.{pick}
use Rattle.pg_table.proofs.Lists.{in_of_slice_get}
use Rattle.pg_controllers.specs.Worlds.{Picks, World, step, is_enabled}
use Rattle.pg_controllers.specs.Runs.{opening}
use Rattle.pg_reached.specs.Reached.{IsReachedWorld}
use Rattle.pg_reached.proofs.Reached.{steps_reach}
use Rattle.pg_world.specs.Enabled.{enabled_events}
use Rattle.pg_world.specs.Kept.{WorldView}
use Rattle.pg_world.proofs.Enabled.{in_enabled}
use Rattle.pg_run.specs.Schedules.{Turn, block, is_active, places_from, active_block, event_at, turn_in, next_turn, after_turn}
use Rattle.pg_run.specs.Systems.{SystemView, system_of, IsBlock, IsSystem, IsReachedSystem, active_at, turn_at, advanced, after_pick}
use Rattle.pg_run.proofs.Turns.{some_there, active_is, no_turn}

-- One block

-- the enabled events of a block
abbrev pub events_in : WorldView → List WorldEvent
events_in w = enabled_events (pick w.tables.cache) w.world

pub some_enabled : (w v : WorldView) (n : ℕ) → w ≡ v → n ≡ length (events_in w) → is_active (pick v.tables.cache) v.world ≡ true → 0 < n
some_enabled w v n is count on =
    let some = some_there (events_in v) on in
    let same = ap (λ (x : WorldView). length (events_in x)) is in
    omega (arith, some, same, count)

pub event_enabled : (p : Picks) (w : World) (k : ℕ) (e : WorldEvent) → event_at k (enabled_events p w) ≡ Some e → is_enabled p w e ≡ true
event_enabled p w k e at = in_enabled p w e (in_of_slice_get (enabled_events p w) _ e at)

pub advanced_block : (t : Parts) (k : ℕ) (w : WorldView) → IsBlock t w → IsBlock t (advanced k w)
advanced_block t k w b = by (event_at k (events_in w)) refl
  where
    by : (o : Option WorldEvent) → event_at k (events_in w) ≡ o → IsBlock t (option_map_or (λ e. record w { world = step w.tables.protocol (pick w.tables.cache) w.world (0, e) }) o w)
    by None at = b
    by (Some e) at = record {
      tables = b.tables;
      reached = subst (λ (p : Parts). IsReachedWorld t.protocol t.cache w.given (step p.protocol (pick p.cache) w.world (0, e))) (sym b.tables)
          (steps_reach t.protocol t.cache w.given w.world (0, e) b.reached (ap (λ (p : Parts). is_enabled (pick p.cache) w.world e) (sym b.tables) ∙ event_enabled (pick w.tables.cache) w.world k e at));
    }

-- All blocks

pub block_is : (d : Draft) (ws : List WorldView) (i : ℕ) (w : WorldView) → i < length ws → w ≡ get_or ws i w → block d (map (λ (v : WorldView). v.world) ws) i ≡ w.world
block_is d ws i w lt is = get_or-map (λ (v : WorldView). v.world) ws i w (opening d []) lt ∙ ap (λ (v : WorldView). v.world) (sym is)

pub is_block : (t : Parts) (ws : List WorldView) (i : ℕ) (w : WorldView) → IsSystem t ws → i < length ws → w ≡ get_or ws i w → IsBlock t w
is_block t ws i w all lt is = subst (λ (v : WorldView). IsBlock t v) (sym is) (all.each i w lt)

pub shown_active : (t : Parts) (ws : List WorldView) (s : SystemView) (i : ℕ) (w : WorldView) → IsSystem t ws → system_of t ws ≡ s → i < length ws → w ≡ get_or ws i w → is_active (pick w.tables.cache) w.world ≡ active_at s i
shown_active t ws s i w all shows lt is =
    ap (λ (p : Parts). is_active (pick p.cache) w.world) (is_block t ws i w all lt is).tables
    ∙ ap (is_active (pick t.cache)) (sym (block_is t.protocol ws i w lt is))
    ∙ ap (λ (v : SystemView). active_at v i) shows

pub shown_length : (t : Parts) (ws : List WorldView) (s : SystemView) → system_of t ws ≡ s → length ws ≡ length s.worlds
shown_length t ws s shows = sym (length-map ws (λ (v : WorldView). v.world)) ∙ ap (λ (v : SystemView). length v.worlds) shows

each_reached : (t : Parts) (ws : List WorldView) → All (IsBlock t) ws → AllZip (IsReachedWorld t.protocol t.cache) (map (λ (v : WorldView). v.given) ws) (map (λ (v : WorldView). v.world) ws)
each_reached t [] each = tt
each_reached t (w ∷ ws) each = ((each 0 w (omega arith)).reached, each_reached t ws (λ k z lt. each (suc k) z (omega (arith, lt))))

pub shown_reached : (t : Parts) (ws : List WorldView) (s : SystemView) → IsSystem t ws → system_of t ws ≡ s → IsReachedSystem s
shown_reached t ws s all shows = subst IsReachedSystem shows (each_reached t ws all.each)

-- Searches

pub search_more : (p : ℕ → Bool) (i to : ℕ) → i < to → p i ≡ false → find p (range_with_len i (to - i)) ≡ find p (range_with_len (i + 1) (to - (i + 1)))
search_more p i to lt off =
    let more : to - i ≡ suc (to - (i + 1)) = omega (arith, lt) in
    ap (λ n. find p (range_with_len i n)) more ∙ ap (λ b. cond b (Some i) (find p (range_with_len (i + 1) (to - (i + 1))))) off

pub search_here : (p : ℕ → Bool) (i to : ℕ) → i < to → p i ≡ true → find p (range_with_len i (to - i)) ≡ Some i
search_here p i to lt on =
    let more : to - i ≡ suc (to - (i + 1)) = omega (arith, lt) in
    ap (λ n. find p (range_with_len i n)) more ∙ ap (λ b. cond b (Some i) (find p (range_with_len (i + 1) (to - (i + 1))))) on

pub found_first : (s : SystemView) (k n b : ℕ) (o : Option ℕ) → n ≡ length s.worlds → o ≡ find (active_at s) (range_with_len (k % n) (n - k % n)) → o ≡ Some b
    → Some b ≡ active_block s.tables.protocol (pick s.tables.cache) s.worlds (k % length s.worlds)
found_first s k n b o same first is =
    subst (λ n. Some b ≡ find (active_at s) (places_from (k % n) n)) same
    (sym (find-append (active_at s) (range_with_len (k % n) (n - k % n)) (range_with_len 0 (k % n)) ∙ ap (λ o. option_or o (find (active_at s) (range_with_len 0 (k % n)))) (sym first ∙ is)))

pub found_second : (s : SystemView) (k n : ℕ) (o r : Option ℕ) → n ≡ length s.worlds → o ≡ find (active_at s) (range_with_len (k % n) (n - k % n)) → o ≡ None → r ≡ find (active_at s) (range_with_len 0 (k % n - 0))
    → r ≡ active_block s.tables.protocol (pick s.tables.cache) s.worlds (k % length s.worlds)
found_second s k n o r same first is second =
    let all : k % n - 0 ≡ k % n = omega arith in
    subst (λ n. r ≡ find (active_at s) (places_from (k % n) n)) same
    (second ∙ ap (λ m. find (active_at s) (range_with_len 0 m)) all
    ∙ sym (find-append (active_at s) (range_with_len (k % n) (n - k % n)) (range_with_len 0 (k % n)) ∙ ap (λ o. option_or o (find (active_at s) (range_with_len 0 (k % n)))) (sym first ∙ is)))

-- The turn at a pick

pub found_active : (s : SystemView) (k b : ℕ) → Some b ≡ active_block s.tables.protocol (pick s.tables.cache) s.worlds (k % length s.worlds) → (b < length s.worlds) × (active_at s b ≡ true)
found_active s k b found = active_is s.tables.protocol (pick s.tables.cache) s.worlds (k % length s.worlds) b (sym found)

pub some_turn : (s : SystemView) (k b : ℕ) → Some b ≡ active_block s.tables.protocol (pick s.tables.cache) s.worlds (k % length s.worlds) → true ≡ is_some (turn_at s k)
some_turn s k b found = by (turn_at s k) refl
  where
    by : (o : Option Turn) → turn_at s k ≡ o → true ≡ is_some o
    by (Some u) next = refl
    by None next =
        let (lt, on) = found_active s k b found in
        let quiet = no_turn s.tables.protocol (pick s.tables.cache) s.worlds k b next lt in
        let some = some_there (enabled_events (pick s.tables.cache) (block s.tables.protocol s.worlds b)) on in
        let none = ap length quiet in absurd (omega (arith, some, none))

advanced_given : (k : ℕ) (w : WorldView) → (advanced k w).given ≡ w.given
advanced_given k w = by (event_at k (events_in w))
  where
    by : (o : Option WorldEvent) → (option_map_or (λ e. record w { world = step w.tables.protocol (pick w.tables.cache) w.world (0, e) }) o w).given ≡ w.given
    by None = refl
    by (Some e) = refl

-- a world after the event at a pick
abbrev stepped : Draft → Picks → ℕ → World → World
stepped d p k w = option_map_or (λ e. step d p w (0, e)) (event_at k (enabled_events p w)) w

advanced_world : (k : ℕ) (w : WorldView) → (advanced k w).world ≡ stepped w.tables.protocol (pick w.tables.cache) k w.world
advanced_world k w = by (event_at k (events_in w))
  where
    by : (o : Option WorldEvent) → (option_map_or (λ e. record w { world = step w.tables.protocol (pick w.tables.cache) w.world (0, e) }) o w).world ≡ option_map_or (λ e. step w.tables.protocol (pick w.tables.cache) w.world (0, e)) o w.world
    by None = refl
    by (Some e) = refl

-- the turn steps the block that is found
turn_steps : (d : Draft) (p : Picks) (ws : List World) (k b : ℕ) → Some b ≡ active_block d p ws (k % length ws) → option_map_or (after_turn d p ws) (next_turn d p ws k) ws ≡ set ws b (stepped d p k (block d ws b))
turn_steps d p ws k b found = ap (λ o. option_map_or (after_turn d p ws) (option_and_then (turn_in d p ws k) o) ws) (sym found) ∙ by (event_at k (enabled_events p (block d ws b)))
  where
    by : (o : Option WorldEvent) → option_map_or (after_turn d p ws) (option_map {T = WorldEvent} {U = Turn} (λ e. record { block = b; event = e }) o) ws ≡ set ws b (option_map_or (λ e. step d p (block d ws b) (0, e)) o (block d ws b))
    by None = sym (set-get_or ws b (opening d []))
    by (Some e) = refl

-- what the blocks show after it
pub turn_shows : (t : Parts) (ws : List WorldView) (s : SystemView) (k b : ℕ) (w v : WorldView) → IsSystem t ws → system_of t ws ≡ s → Some b ≡ active_block s.tables.protocol (pick s.tables.cache) s.worlds (k % length s.worlds)
    → b < length ws → w ≡ get_or ws b w → v ≡ advanced k w → system_of t (set ws b v) ≡ after_pick k s
turn_shows t ws s k b w v all shows found lt is after =
    ap (λ (x : WorldView). system_of t (set ws b x)) after
    ∙ ap (λ (g : List (List (List Op))). record (system_of t (set ws b (advanced k w))) { given = g }) given
    ∙ ap (λ (x : List World). record (system_of t ws) { worlds = x }) worlds
    ∙ ap (after_pick k) shows
  where
    old : List World
    old = map (λ (v : WorldView). v.world) ws

    given : map (λ (v : WorldView). v.given) (set ws b (advanced k w)) ≡ map (λ (v : WorldView). v.given) ws
    given =
        map-set (λ (v : WorldView). v.given) ws b (advanced k w)
        ∙ ap (λ (g : List (List Op)). set (map (λ (v : WorldView). v.given) ws) b g) (advanced_given k w ∙ ap (λ (v : WorldView). v.given) is)
        ∙ sym (map-set (λ (v : WorldView). v.given) ws b (get_or ws b w))
        ∙ ap (map (λ (v : WorldView). v.given)) (set-get_or ws b w)

    worlds : map (λ (v : WorldView). v.world) (set ws b (advanced k w)) ≡ option_map_or (after_turn t.protocol (pick t.cache) old) (next_turn t.protocol (pick t.cache) old k) old
    worlds =
        map-set (λ (v : WorldView). v.world) ws b (advanced k w)
        ∙ ap (set old b) (advanced_world k w ∙ ap (λ (p : Parts). stepped p.protocol (pick p.cache) k w.world) (is_block t ws b w all lt is).tables ∙ ap (stepped t.protocol (pick t.cache) k) (sym (block_is t.protocol ws b w lt is)))
        ∙ sym (turn_steps t.protocol (pick t.cache) old k b (found ∙ ap (λ (x : SystemView). active_block x.tables.protocol (pick x.tables.cache) x.worlds (k % length x.worlds)) (sym shows)))

pub turn_keeps : (t : Parts) (ws : List WorldView) (k b : ℕ) (w v : WorldView) → IsSystem t ws → b < length ws → w ≡ get_or ws b w → v ≡ advanced k w → IsSystem t (set ws b v)
turn_keeps t ws k b w v all lt is after = record {
  some = let same = length-set ws b v in let some = all.some in omega (arith, same, some);
  few = let same = length-set ws b v in let few = all.few in omega (arith, same, few);
  each = All-set (IsBlock t) ws b v (subst (λ (x : WorldView). IsBlock t x) (sym after) (advanced_block t k w (is_block t ws b w all lt is))) all.each;
}
