-- Statements on moves.
use Rattle.std.specs.Prelude.{ℕ, suc, ◌≡◌, ◌≢◌, ◌<◌, Bool, true, false, List, [], ◌∷◌, ◌++◌, Some, None}
use Rattle.pg_perm.specs.declared.draft.Draft.{Draft}
use Rattle.pg_perm.specs.Drafts.{IsWellFormed}
use Rattle.pg_shape.specs.Shaped.{IsShaped}
use Rattle.pg_atomic.specs.States.{State, requestor_reply}
use Rattle.pg_atomic.specs.Steps.{IsAllowed}
use Rattle.std.specs.Prelude.{◌≢◌}
use Rattle.pg_serial.specs.Serial.{Entry, entry_step}
use Rattle.pg_serial.specs.Faithful.{Level, Core, Datum, Shown, top_of, shown_entry, state_at, EachIs, IsFaithful, IsBounded}
use Rattle.std.specs.Prelude.{◌==◌, map}
use Rattle.std.specs.List.{filter}
use Rattle.pg_serial.specs.Segments.{low, Rising}
use Rattle.pg_serial.specs.Serial.{Done, by_core, done_step, stands}

-- data that memory gives for the new entry
abbrev pub IsGiven : Draft → State → ℕ → Entry → Datum → Type 0
IsGiven d a top e x = (x.stamp ≡ suc top) × (x.core ≡ e.core) × (x.word ≡ a.word) × (requestor_reply d a (record { core = e.core; event = e.event }) ≡ Some x.reply)

abbrev pub Handling : Type 0
Handling = (d : Draft) → IsWellFormed d → IsShaped d → (n : ℕ) (w : Shown) (e : Entry) (st : ℕ) (core : ℕ → Core) (sent : List Datum) (memory : ℕ) (busy : Bool) (clean : ℕ → Bool)
    → IsFaithful d n w → IsBounded n w → e.core < n → (w.core e.core).stand ≡ Level st
    → IsAllowed d (state_at d n w (top_of w)) (entry_step e)
    → ((i : ℕ) → i ≢ e.core → core i ≡ w.core i) → core e.core ≡ record (w.core e.core) { pending = true; last = suc (top_of w) }
    → EachIs (IsGiven d (state_at d n w (top_of w)) (top_of w) e) sent
    → let w2 : Shown = record w { order = w.order ++ e ∷ []; core = core; replies = w.replies ++ sent; memory = memory; busy = busy; clean = clean } in
    ((shown_entry d w2 (suc (top_of w))).owner ≡ None → busy ≡ false → memory ≡ (state_at d n w (top_of w)).word)
    → ((c : ℕ) → (shown_entry d w2 (suc (top_of w))).owner ≡ Some c → clean c ≡ true → memory ≡ (state_at d n w (top_of w)).word)
    → IsFaithful d n w2

abbrev pub Grouping : Type 0
Grouping = (done ds : List Done) (k : ℕ) → ((c : ℕ) → filter (stands k c) ds ≡ filter (stands k c) done) → Rising (λ y. y.stamp == k) (λ y. y.core) 0 ds
    → (m : ℕ) → map done_step (filter (low (λ y. y.stamp == k) (λ y. y.core) m) ds) ≡ by_core done k m
