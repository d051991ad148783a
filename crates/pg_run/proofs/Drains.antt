-- A schedule is what its turns make of a system.
use Rattle.std.proofs.Common.{◌≡◌, ℕ, ◌<◌, true, false, List, Option, Some, None, refl, sym, ap, subst, ◌∙◌}
use Rattle.std.specs.List.{All}
use Rattle.std.specs.Option.{option_map_or, is_some}
use Rattle.pg_table.specs.Pick.{pick}
use Rattle.pg_controllers.specs.Worlds.{World}
use Rattle.pg_safe.specs.Moving.{is_finished}
use Rattle.pg_run.specs.Schedules.{Turn, draw, drawn_pick, after_turn, work_of, drained}
use Rattle.pg_run.specs.Systems.{SystemView, IsReachedSystem, turn_at, after_pick}
use Rattle.pg_run.proofs.Turns.{no_turn}
use Rattle.pg_run.proofs.Ends.{next_work, drained_after, turns_end, all_of_quiet, all_finished}

-- a system when no event is enabled any more
abbrev pub drained_system : Option ℕ → SystemView → SystemView
drained_system x s = record s { worlds = drained s.tables.protocol (pick s.tables.cache) x s.worlds }

-- After a turn

after_turn_is : (s : SystemView) (k : ℕ) (u : Turn) → turn_at s k ≡ Some u → after_pick k s ≡ record s { worlds = after_turn s.tables.protocol (pick s.tables.cache) s.worlds u }
after_turn_is s k u next = ap (λ o. record s { worlds = option_map_or (after_turn s.tables.protocol (pick s.tables.cache) s.worlds) o s.worlds }) next

pub turn_lowers : (s n : SystemView) (k : ℕ) → IsReachedSystem s → n ≡ after_pick k s → is_some (turn_at s k) ≡ true → work_of n.tables.protocol n.worlds < work_of s.tables.protocol s.worlds
turn_lowers s n k each after some = by (turn_at s k) refl some
  where
    by : (o : Option Turn) → turn_at s k ≡ o → is_some o ≡ true → work_of n.tables.protocol n.worlds < work_of s.tables.protocol s.worlds
    by None next some = cc
    by (Some u) next some =
        subst (λ (x : SystemView). work_of x.tables.protocol x.worlds < work_of s.tables.protocol s.worlds) (sym (after ∙ after_turn_is s k u next))
        (next_work s.tables.protocol s.tables.cache s.given s.worlds k u each next)

pub turn_drains : (s n : SystemView) (k : ℕ) (x y : Option ℕ) → IsReachedSystem s → n ≡ after_pick k s → y ≡ draw x → k ≡ drawn_pick y → is_some (turn_at s k) ≡ true → drained_system y n ≡ drained_system x s
turn_drains s n k x y each after state pick_is some = by (turn_at s k) refl some
  where
    by : (o : Option Turn) → turn_at s k ≡ o → is_some o ≡ true → drained_system y n ≡ drained_system x s
    by None next some = cc
    by (Some u) next some =
        let drawn : drawn_pick (draw x) ≡ k = ap drawn_pick (sym state) ∙ sym pick_is in
        ap (drained_system y) (after ∙ after_turn_is s k u next)
        ∙ ap (λ z. record s { worlds = drained s.tables.protocol (pick s.tables.cache) z (after_turn s.tables.protocol (pick s.tables.cache) s.worlds u) }) state
        ∙ ap (λ (ws : List World). record s { worlds = ws }) (sym (drained_after s.tables.protocol s.tables.cache s.given s.worlds x u each (ap (turn_at s) drawn ∙ next)))

-- Where there is none

none_is : (o : Option Turn) → is_some o ≡ false → o ≡ None
none_is None none = refl
none_is (Some u) none = cc

stays : (s n : SystemView) (k : ℕ) → n ≡ after_pick k s → is_some (turn_at s k) ≡ false → n ≡ s
stays s n k after none = after ∙ ap (λ o. record s { worlds = option_map_or (after_turn s.tables.protocol (pick s.tables.cache) s.worlds) o s.worlds }) (none_is (turn_at s k) none)

pub ends_drained : (s n : SystemView) (k : ℕ) (x y : Option ℕ) → n ≡ after_pick k s → y ≡ draw x → k ≡ drawn_pick y → is_some (turn_at s k) ≡ false → n ≡ drained_system x s
ends_drained s n k x y after state pick_is none =
    let drawn : drawn_pick (draw x) ≡ k = ap drawn_pick (sym state) ∙ sym pick_is in
    stays s n k after none
    ∙ ap (λ (ws : List World). record s { worlds = ws }) (sym (turns_end s.tables.protocol (pick s.tables.cache) (work_of s.tables.protocol s.worlds) x s.worlds (ap (turn_at s) drawn ∙ none_is (turn_at s k) none)))

pub ends_finished : (s n : SystemView) (k : ℕ) → IsReachedSystem s → n ≡ after_pick k s → is_some (turn_at s k) ≡ false → All (λ w. is_finished w ≡ true) n.worlds
ends_finished s n k each after none =
    let quiet = all_of_quiet s.tables.protocol (pick s.tables.cache) s.worlds (λ i lt. no_turn s.tables.protocol (pick s.tables.cache) s.worlds k i (none_is (turn_at s k) none) lt) in
    subst (λ (x : SystemView). All (λ w. is_finished w ≡ true) x.worlds) (sym (stays s n k after none)) (all_finished s.tables.protocol s.tables.cache s.given s.worlds each quiet)
