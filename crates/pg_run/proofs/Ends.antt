-- Schedules end: turn after turn, until no block has an enabled event.
use Rattle.std.proofs.Common.{◌≡◌, ℕ, zero, suc, ◌<◌, ◌≤◌, arith, Bool, true, false, List, [], ◌∷◌, length, get_or, Option, Some, None, refl, sym, ap, subst, ◌∙◌}
use Rattle.std.specs.List.{All, AllZip}
use Rattle.std.specs.Option.{option_map_or}
use Rattle.std.proofs.lemmas.List.{get_or_default}
use Rattle.pg_perm.proofs.Booleans.{and_true}
use Rattle.pg_perm.specs.declared.kinds.Op.{Op}
use Rattle.pg_perm.specs.declared.draft.Draft.{Draft}
use Rattle.pg_table.specs.Tables.{TableState}
use Rattle.pg_table.specs.Pick.{pick as picked}
use Rattle.pg_table.proofs.Lists.{IsIn}
use Rattle.pg_controllers.specs.Worlds.{Picks, World, is_enabled, has_row}
use Rattle.pg_controllers.specs.Runs.{opening}
use Rattle.pg_safe.specs.Moving.{is_finished}
use Rattle.pg_reached.specs.Reached.{IsReachedWorld}
use Rattle.pg_reached.proofs.Reached.{event_can_happen}
use Rattle.pg_world.specs.Enabled.{enabled_events}
use Rattle.pg_run.specs.Schedules.{Turn, block, draw, drawn_pick, next_turn, after_turn, after_events, work_of, drained, AreReached}
use Rattle.pg_world.proofs.Enabled.{enabled_in}
use Rattle.pg_run.proofs.Turns.{turn_is, no_turn, turn_reached, turn_work}

-- the turn that comes next
abbrev pub coming : Draft → Picks → List World → Option ℕ → Option Turn
coming d p ws x = next_turn d p ws (drawn_pick (draw x))

-- One turn

pub turns_end : (d : Draft) (p : Picks) (n : ℕ) (x : Option ℕ) (ws : List World) → coming d p ws x ≡ None → after_events d p n x ws ≡ ws
turns_end d p zero x ws none = refl
turns_end d p (suc n) x ws none = ap (λ o. option_map_or (λ t. after_events d p n (draw x) (after_turn d p ws t)) o ws) none

turns_go_on : (d : Draft) (p : Picks) (n : ℕ) (x : Option ℕ) (ws : List World) (u : Turn) → coming d p ws x ≡ Some u → after_events d p (suc n) x ws ≡ after_events d p n (draw x) (after_turn d p ws u)
turns_go_on d p n x ws u next = ap (λ o. option_map_or (λ t. after_events d p n (draw x) (after_turn d p ws t)) o ws) next

pub next_reached : (d : Draft) (t : List TableState) (given : List (List (List Op))) (ws : List World) (k : ℕ) (u : Turn) → AreReached d t given ws → next_turn d (picked t) ws k ≡ Some u → AreReached d t given (after_turn d (picked t) ws u)
next_reached d t given ws k u each next = let (lt, on) = turn_is d (picked t) ws k u next in turn_reached d t given ws u each lt on

pub next_work : (d : Draft) (t : List TableState) (given : List (List (List Op))) (ws : List World) (k : ℕ) (u : Turn) → AreReached d t given ws → next_turn d (picked t) ws k ≡ Some u → work_of d (after_turn d (picked t) ws u) < work_of d ws
next_work d t given ws k u each next = let (lt, on) = turn_is d (picked t) ws k u next in turn_work d t given ws u each lt on

-- All of them

-- as many events as there is work are enough
enough : (d : Draft) (t : List TableState) (given : List (List (List Op))) (n m : ℕ) (x : Option ℕ) (ws : List World) → AreReached d t given ws → work_of d ws ≤ n → work_of d ws ≤ m
    → after_events d (picked t) n x ws ≡ after_events d (picked t) m x ws
enough d t given zero m x ws each low also = by (coming d (picked t) ws x) refl
  where
    by : (o : Option Turn) → coming d (picked t) ws x ≡ o → ws ≡ after_events d (picked t) m x ws
    by None next = sym (turns_end d (picked t) m x ws next)
    by (Some u) next = let less = next_work d t given ws (drawn_pick (draw x)) u each next in absurd (omega (arith, less, low))
enough d t given (suc n) zero x ws each low also = by (coming d (picked t) ws x) refl
  where
    by : (o : Option Turn) → coming d (picked t) ws x ≡ o → after_events d (picked t) (suc n) x ws ≡ ws
    by None next = turns_end d (picked t) (suc n) x ws next
    by (Some u) next = let less = next_work d t given ws (drawn_pick (draw x)) u each next in absurd (omega (arith, less, also))
enough d t given (suc n) (suc m) x ws each low also = by (coming d (picked t) ws x) refl (λ y vs. enough d t given n m y vs)
  where
    by : (o : Option Turn) → coming d (picked t) ws x ≡ o
        → ((y : Option ℕ) (vs : List World) → AreReached d t given vs → work_of d vs ≤ n → work_of d vs ≤ m → after_events d (picked t) n y vs ≡ after_events d (picked t) m y vs)
        → after_events d (picked t) (suc n) x ws ≡ after_events d (picked t) (suc m) x ws
    by None next rest = turns_end d (picked t) (suc n) x ws next ∙ sym (turns_end d (picked t) (suc m) x ws next)
    by (Some u) next rest =
        let less = next_work d t given ws (drawn_pick (draw x)) u each next in
        turns_go_on d (picked t) n x ws u next
        ∙ rest (draw x) (after_turn d (picked t) ws u) (next_reached d t given ws (drawn_pick (draw x)) u each next) (omega (arith, less, low)) (omega (arith, less, also))
        ∙ sym (turns_go_on d (picked t) m x ws u next)

pub drained_after : (d : Draft) (t : List TableState) (given : List (List (List Op))) (ws : List World) (x : Option ℕ) (u : Turn) → AreReached d t given ws → coming d (picked t) ws x ≡ Some u
    → drained d (picked t) x ws ≡ drained d (picked t) (draw x) (after_turn d (picked t) ws u)
drained_after d t given ws x u each next = by (work_of d ws) refl
  where
    less : work_of d (after_turn d (picked t) ws u) < work_of d ws
    less = next_work d t given ws (drawn_pick (draw x)) u each next

    by : (n : ℕ) → work_of d ws ≡ n → drained d (picked t) x ws ≡ drained d (picked t) (draw x) (after_turn d (picked t) ws u)
    by zero is = absurd (omega (arith, less, is))
    by (suc n) is =
        ap (λ n. after_events d (picked t) n x ws) is ∙ turns_go_on d (picked t) n x ws u next
        ∙ enough d t given n (work_of d (after_turn d (picked t) ws u)) (draw x) (after_turn d (picked t) ws u) (next_reached d t given ws (drawn_pick (draw x)) u each next) (omega (arith, less, is)) (omega arith)

pub all_reached : (d : Draft) (t : List TableState) (given : List (List (List Op))) (n : ℕ) (x : Option ℕ) (ws : List World) → AreReached d t given ws → AreReached d t given (after_events d (picked t) n x ws)
all_reached d t given zero x ws each = each
all_reached d t given (suc n) x ws each = by (coming d (picked t) ws x) refl (λ vs. all_reached d t given n (draw x) vs)
  where
    by : (o : Option Turn) → coming d (picked t) ws x ≡ o → ((vs : List World) → AreReached d t given vs → AreReached d t given (after_events d (picked t) n (draw x) vs)) → AreReached d t given (after_events d (picked t) (suc n) x ws)
    by None next rest = subst (AreReached d t given) (sym (turns_end d (picked t) (suc n) x ws next)) each
    by (Some u) next rest =
        subst (AreReached d t given) (sym (turns_go_on d (picked t) n x ws u next)) (rest (after_turn d (picked t) ws u) (next_reached d t given ws (drawn_pick (draw x)) u each next))

-- no event is enabled in any block
abbrev pub AreQuiet : Draft → Picks → List World → Type 0
AreQuiet d p ws = (i : ℕ) → i < length ws → enabled_events p (block d ws i) ≡ []

pub all_quiet : (d : Draft) (t : List TableState) (given : List (List (List Op))) (n : ℕ) (x : Option ℕ) (ws : List World) → AreReached d t given ws → work_of d ws ≤ n → AreQuiet d (picked t) (after_events d (picked t) n x ws)
all_quiet d t given zero x ws each low = by (coming d (picked t) ws x) refl
  where
    by : (o : Option Turn) → coming d (picked t) ws x ≡ o → AreQuiet d (picked t) ws
    by None next = λ i lt. no_turn d (picked t) ws (drawn_pick (draw x)) i next lt
    by (Some u) next = let less = next_work d t given ws (drawn_pick (draw x)) u each next in absurd (omega (arith, less, low))
all_quiet d t given (suc n) x ws each low = by (coming d (picked t) ws x) refl (λ vs. all_quiet d t given n (draw x) vs)
  where
    by : (o : Option Turn) → coming d (picked t) ws x ≡ o → ((vs : List World) → AreReached d t given vs → work_of d vs ≤ n → AreQuiet d (picked t) (after_events d (picked t) n (draw x) vs))
        → AreQuiet d (picked t) (after_events d (picked t) (suc n) x ws)
    by None next rest = subst (AreQuiet d (picked t)) (sym (turns_end d (picked t) (suc n) x ws next)) (λ i lt. no_turn d (picked t) ws (drawn_pick (draw x)) i next lt)
    by (Some u) next rest =
        let less = next_work d t given ws (drawn_pick (draw x)) u each next in
        subst (AreQuiet d (picked t)) (sym (turns_go_on d (picked t) n x ws u next))
        (rest (after_turn d (picked t) ws u) (next_reached d t given ws (drawn_pick (draw x)) u each next) (omega (arith, less, low)))

-- At the end

pub all_of_quiet : (d : Draft) (p : Picks) (ws : List World) → AreQuiet d p ws → All (λ w. enabled_events p w ≡ []) ws
all_of_quiet d p ws quiet k z lt = subst (λ w. enabled_events p w ≡ []) (get_or_default ws k (opening d []) z lt) (quiet k lt)

zip_at : {A B : Type 0} (R : A → B → Type 0) (gs : List A) (ws : List B) (k : ℕ) (z : B) → AllZip R gs ws → k < length ws → (g : A) × R g (get_or ws k z)
zip_at R [] [] k z each lt = absurd (omega (arith, lt))
zip_at R [] (w ∷ ws) k z each lt = absurd each
zip_at R (g ∷ gs) [] k z each lt = absurd each
zip_at R (g ∷ gs) (w ∷ ws) zero z each lt = (g, each.0)
zip_at R (g ∷ gs) (w ∷ ws) (suc k) z each lt = zip_at R gs ws k z each.1 (omega (arith, lt))

quiet_is_finished : (d : Draft) (t : List TableState) (g : List (List Op)) (w : World) → IsReachedWorld d t g w → enabled_events (picked t) w ≡ [] → is_finished w ≡ true
quiet_is_finished d t g w r quiet = by (is_finished w) refl
  where
    by : (b : Bool) → is_finished w ≡ b → is_finished w ≡ true
    by true done = done
    by false open_still =
        let (e, can) = event_can_happen d t g w r open_still in
        absurd (subst (IsIn e) quiet (enabled_in (picked t) w e (and_true (is_enabled (picked t) w e) (has_row d (picked t) w e) can).0))

pub all_finished : (d : Draft) (t : List TableState) (given : List (List (List Op))) (ws : List World) → AreReached d t given ws → All (λ w. enabled_events (picked t) w ≡ []) ws → All (λ w. is_finished w ≡ true) ws
all_finished d t given ws each quiet k z lt = let (g, r) = zip_at (IsReachedWorld d t) given ws k z each lt in quiet_is_finished d t g (get_or ws k z) r (quiet k z lt)
