-- What happens next in a schedule, and what it makes of the blocks.
use Rattle.std.proofs.Common.{◌≡◌, ℕ, zero, suc, ◌-◌, ◌<◌, ◌≤◌, ◌⊎◌, arith, Bool, true, false, cond, not, List, [], ◌∷◌, length, get_or, set, Option, Some, None, refl, sym, ap, subst, ◌∙◌, inl, inr}
use Rattle.std.specs.Prelude.{◌%◌, slice_get}
use Rattle.std.specs.List.{AllZip, find, range_with_len}
use Rattle.std.specs.Option.{option_map, option_and_then}
use Rattle.std.proofs.lemmas.Nat.{mod_below}
use Rattle.std.proofs.lemmas.Option.{same_Some}
use Rattle.pg_shape.proofs.Searches.{find_get}
use Rattle.pg_perm.specs.declared.kinds.Op.{Op}
use Rattle.pg_perm.specs.declared.draft.Draft.{Draft}
use Rattle.pg_table.specs.Tables.{TableState}
use Rattle.pg_table.specs.Pick.{pick as picked}
use Rattle.pg_table.proofs.Lists.{IsIn, in_of_slice_get, in_left, in_right, in_numbers}
use Rattle.pg_messages.specs.declared.messages.WorldEvent.{WorldEvent}
use Rattle.pg_controllers.specs.Worlds.{Picks, World, step, is_enabled}
use Rattle.pg_controllers.specs.Runs.{opening}
use Rattle.pg_safe.specs.Moving.{is_empty}
use Rattle.pg_safe.specs.Work.{total, work}
use Rattle.pg_reached.specs.Reached.{IsReachedWorld}
use Rattle.pg_reached.proofs.Reached.{sound_world, steps_reach, work_lowered}
use Rattle.pg_world.specs.Enabled.{enabled_events}
use Rattle.pg_run.specs.Schedules.{Turn, block, is_active, places_from, active_block, event_at, turn_in, next_turn, after_turn, work_of, AreReached}
use Rattle.pg_world.proofs.Enabled.{inside, in_enabled}

-- Lists

pub none_found : {A : Type 0} (p : A → Bool) (xs : List A) (x : A) → find p xs ≡ None → IsIn x xs → p x ≡ false
none_found p [] x none among = absurd among
none_found p (y ∷ ys) x none among = at (p y) refl none among (none_found p ys x)
  where
    at : (b : Bool) → p y ≡ b → cond b (Some y) (find p ys) ≡ None → (y ≡ x) ⊎ IsIn x ys → (find p ys ≡ None → IsIn x ys → p x ≡ false) → p x ≡ false
    at true e none among rest = absurd cc
    at false e none (inl same) rest = ap p (sym same) ∙ e
    at false e none (inr among) rest = rest none among

-- cyclically from any place on each place comes
place_in : (b n i : ℕ) → i < n → IsIn i (places_from b n)
place_in b n i lt = elim (before_or b i) [
  | inl from ↦ in_left i (range_with_len b (n - b)) (range_with_len 0 b) (in_numbers b (n - b) i from (omega (arith, from, lt)))
  | inr before ↦ in_right i (range_with_len b (n - b)) (range_with_len 0 b) (in_numbers 0 b i (omega arith) (omega (arith, before)))
]
  where
    before_or : (b i : ℕ) → (b ≤ i) ⊎ (i < b)
    before_or b i = search arith

get_there : {A : Type 0} (xs : List A) (k : ℕ) → k < length xs → slice_get xs k ≡ None → ⊥
get_there [] k lt none = omega (arith, lt)
get_there (x ∷ xs) zero lt none = cc
get_there (x ∷ xs) (suc k) lt none = get_there xs k (omega (arith, lt)) none

pub zip_set : {A B : Type 0} (R : A → B → Type 0) (gs : List A) (ws : List B) (b : ℕ) (y z : B) → AllZip R gs ws → b < length ws → ((g : A) → R g (get_or ws b z) → R g y) → AllZip R gs (set ws b y)
zip_set R [] [] b y z each lt new = absurd (omega (arith, lt))
zip_set R [] (w ∷ ws) b y z each lt new = absurd each
zip_set R (g ∷ gs) [] b y z each lt new = absurd each
zip_set R (g ∷ gs) (w ∷ ws) zero y z each lt new = (new g each.0, each.1)
zip_set R (g ∷ gs) (w ∷ ws) (suc b) y z each lt new = (each.0, zip_set R gs ws b y z each.1 (omega (arith, lt)) new)

zip_total : {A B : Type 0} (R : A → B → Type 0) (f : B → ℕ) (gs : List A) (ws : List B) (b : ℕ) (y z : B) → AllZip R gs ws → b < length ws → ((g : A) → R g (get_or ws b z) → f y < f (get_or ws b z))
    → total f (set ws b y) < total f ws
zip_total R f [] [] b y z each lt less = absurd (omega (arith, lt))
zip_total R f [] (w ∷ ws) b y z each lt less = absurd each
zip_total R f (g ∷ gs) [] b y z each lt less = absurd each
zip_total R f (g ∷ gs) (w ∷ ws) zero y z each lt less = let here = less g each.0 in omega (arith, here)
zip_total R f (g ∷ gs) (w ∷ ws) (suc b) y z each lt less = let rest = zip_total R f gs ws b y z each.1 (omega (arith, lt)) less in omega (arith, rest)

-- What comes next

pub empty_is : {A : Type 0} (xs : List A) → not (is_empty xs) ≡ false → xs ≡ []
empty_is [] h = refl
empty_is (x ∷ xs) h = cc

pub some_there : {A : Type 0} (xs : List A) → not (is_empty xs) ≡ true → 0 < length xs
some_there [] h = cc
some_there (x ∷ xs) h = omega arith

-- an active block stands at the place that is found
pub active_is : (d : Draft) (p : Picks) (ws : List World) (k b : ℕ) → active_block d p ws k ≡ Some b → (b < length ws) × (is_active p (block d ws b) ≡ true)
active_is d p ws k b found =
    let (i, at, on) = find_get (λ i. is_active p (block d ws i)) (places_from k (length ws)) b found in (inside (is_active p) ws b (opening d []) refl on, on)

-- and where none is found none is
pub none_active : (d : Draft) (p : Picks) (ws : List World) (k i : ℕ) → active_block d p ws k ≡ None → i < length ws → enabled_events p (block d ws i) ≡ []
none_active d p ws k i none lt = empty_is (enabled_events p (block d ws i)) (none_found (λ i. is_active p (block d ws i)) (places_from k (length ws)) i none (place_in k (length ws) i lt))

pub turn_is : (d : Draft) (p : Picks) (ws : List World) (k : ℕ) (t : Turn) → next_turn d p ws k ≡ Some t → (t.block < length ws) × (is_enabled p (block d ws t.block) t.event ≡ true)
turn_is d p ws k t next = by (active_block d p ws (k % length ws)) refl next
  where
    event : (b : ℕ) (o : Option WorldEvent) → active_block d p ws (k % length ws) ≡ Some b → event_at k (enabled_events p (block d ws b)) ≡ o → option_map {T = WorldEvent} {U = Turn} (λ e. record { block = b; event = e }) o ≡ Some t
        → (t.block < length ws) × (is_enabled p (block d ws t.block) t.event ≡ true)
    event b None found none same = absurd cc
    event b (Some e) found there same =
        let turn : record { block = b; event = e } ≡ t = same_Some {A = Turn} (record { block = b; event = e }) t same in
        let on = in_enabled p (block d ws b) e (in_of_slice_get (enabled_events p (block d ws b)) _ e there) in
        subst (λ (t : Turn). (t.block < length ws) × (is_enabled p (block d ws t.block) t.event ≡ true)) turn ((active_is d p ws (k % length ws) b found).0, on)

    by : (o : Option ℕ) → active_block d p ws (k % length ws) ≡ o → option_and_then (turn_in d p ws k) o ≡ Some t → (t.block < length ws) × (is_enabled p (block d ws t.block) t.event ≡ true)
    by None found same = absurd cc
    by (Some b) found same = event b (event_at k (enabled_events p (block d ws b))) found refl same

pub no_turn : (d : Draft) (p : Picks) (ws : List World) (k i : ℕ) → next_turn d p ws k ≡ None → i < length ws → enabled_events p (block d ws i) ≡ []
no_turn d p ws k i next lt = by (active_block d p ws (k % length ws)) refl next
  where
    event : (b : ℕ) (o : Option WorldEvent) → active_block d p ws (k % length ws) ≡ Some b → event_at k (enabled_events p (block d ws b)) ≡ o → option_map {T = WorldEvent} {U = Turn} (λ e. record { block = b; event = e }) o ≡ None → ⊥
    event b (Some e) found there none = cc
    event b None found there none =
        let es : List WorldEvent = enabled_events p (block d ws b) in
        get_there es (k % length es) (mod_below k (length es) (some_there es (active_is d p ws (k % length ws) b found).1)) there

    by : (o : Option ℕ) → active_block d p ws (k % length ws) ≡ o → option_and_then (turn_in d p ws k) o ≡ None → enabled_events p (block d ws i) ≡ []
    by None found none = none_active d p ws (k % length ws) i found lt
    by (Some b) found none = absurd (event b (event_at k (enabled_events p (block d ws b))) found refl none)

-- What it makes of the blocks

pub turn_reached : (d : Draft) (t : List TableState) (given : List (List (List Op))) (ws : List World) (u : Turn) → AreReached d t given ws → u.block < length ws → is_enabled (picked t) (block d ws u.block) u.event ≡ true
    → AreReached d t given (after_turn d (picked t) ws u)
turn_reached d t given ws u each lt on = zip_set (IsReachedWorld d t) given ws u.block _ (opening d []) each lt (λ g r. steps_reach d t g (block d ws u.block) (0, u.event) r on)

-- the work that is left in a block of so many cores as it was given lists
block_work : (d : Draft) (t : List TableState) (g : List (List Op)) (w : World) → IsReachedWorld d t g w → work d (length w.cores) w ≡ work d (length g) w
block_work d t g w r = ap (λ n. work d n w) (sound_world d t g w r).orderly.cores

pub turn_work : (d : Draft) (t : List TableState) (given : List (List (List Op))) (ws : List World) (u : Turn) → AreReached d t given ws → u.block < length ws → is_enabled (picked t) (block d ws u.block) u.event ≡ true
    → work_of d (after_turn d (picked t) ws u) < work_of d ws
turn_work d t given ws u each lt on = zip_total (IsReachedWorld d t) (λ w. work d (length w.cores) w) given ws u.block _ (opening d []) each lt less
  where
    w : World
    w = block d ws u.block

    less : (g : List (List Op)) → IsReachedWorld d t g w → work d (length (step d (picked t) w (0, u.event)).cores) (step d (picked t) w (0, u.event)) < work d (length w.cores) w
    less g r =
        let before = block_work d t g w r in
        let after = block_work d t g (step d (picked t) w (0, u.event)) (steps_reach d t g w (0, u.event) r on) in
        let lower = work_lowered d t g w (0, u.event) r on in
        omega (arith, before, after, lower)
