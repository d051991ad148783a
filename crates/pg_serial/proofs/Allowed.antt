-- An entry that the directory makes of a request is allowed where it stands.
use Rattle.std.proofs.Common.{◌≡◌, ◌≢◌, ℕ, zero, suc, ◌<◌, ◌≤◌, ◌⊎◌, inl, inr, Bool, true, false, length, Option, None, Some, refl, sym, ap, subst, ◌∙◌, arith}
use Rattle.std.specs.Prelude.{not}
use Rattle.std.specs.Option.{option_map_or}
use Rattle.pg_perm.specs.declared.kinds.Event.TheVariants as event
use Rattle.pg_perm.specs.declared.kinds.Who.{Who}
use Rattle.pg_perm.specs.declared.kinds.Who.TheVariants.{Other, Sharer, Owner}
use Rattle.pg_perm.specs.declared.step.Step.{Step}
use Rattle.pg_perm.specs.declared.step.Step.TheVariants.{Txn, Stale, Load, Store}
use Rattle.pg_perm.specs.declared.draft.Draft.{Draft}
use Rattle.pg_perm.specs.Drafts.{IsWellFormed}
use Rattle.pg_terms.specs.Terms.{is, out, is_write_owner, cache_is}
use Rattle.pg_shape.specs.Shaped.{IsShaped}
use Rattle.pg_directory.specs.DirEntries.{DirEntry, who}
use Rattle.pg_directory.specs.Sound.{fits_as}
use Rattle.pg_atomic.specs.States.{State, state_of, take_next}
use Rattle.pg_atomic.specs.Steps.{may, needs_transaction, IsAllowed}
use Rattle.pg_atomic.proofs.Fits.{out_stores, shared_stores, owner_writes, out_loads, shared_loads, owner_loads}
use Rattle.pg_serial.specs.Groups.{sent_to, IsOthers}
use Rattle.pg_serial.specs.Serial.{Entry, entry_step, entry_at, StampedTo}
use Rattle.pg_serial.specs.Faithful.{Shown, run_of, top_of, shown_entry, state_at, Tells, IsTold, IsFaithful, IsHeard}
use Rattle.pg_serial.proofs.Runs.{IsGood, good_at, directory_at}
use Rattle.pg_serial.proofs.Places.{has_accesses}
use Rattle.pg_serial.proofs.Suffix.{out_at}
use Rattle.pg_serial.proofs.Words.{next_state}
use Rattle.pg_atomic.specs.Safety.{IsSafe}
use Rattle.pg_atomic.proofs.Reached.{handled_at}
use Rattle.pg_serial.proofs.Completes.{lacks_above}
use Rattle.pg_serial.proofs.Orders.{needs_as}

is_not : (b : Bool) → (b ≡ true → ⊥) → b ≡ false
is_not true h = absurd (h refl)
is_not false h = refl

-- a state that fits and isn't that of a write owner may not write
reader_fits : (d : Draft) → IsShaped d → (n : ℕ) (w : Who) (x : ℕ) → fits_as d n w x ≡ true → cache_is is_write_owner d x ≡ false → may d x event.Store ≡ false
reader_fits d s n Other x fit none = out_stores d s x fit
reader_fits d s n Sharer x fit none = shared_stores d s x fit
reader_fits d s n Owner x fit none = is_not (may d x event.Store) (λ m. let y = owner_writes d s n x fit m in cc (y, none))

-- a forward leads to a state that may not write
taken_reads : (d : Draft) → IsWellFormed d → IsShaped d → (a : State) (y : Step) (c f : ℕ) → IsSafe d a → IsAllowed d a y → c < length a.states → sent_to d a.entry y c ≡ Some f
    → may d (take_next d (state_of a c) f) event.Store ≡ false
taken_reads d whole sh a (Txn r e) c f safe allowed inside sends =
    let h = handled_at d whole sh a (record { core = r; event = e }) safe allowed.0 allowed.1 in
    let (t, row, after, reads) = h.applies c f (state_of a c) sends (safe.fits c inside) in
    rw row (reader_fits d sh _ _ t.next after reads)
taken_reads d whole sh a (Stale r) c f safe allowed inside sends = absurd cc
taken_reads d whole sh a (Load r v) c f safe allowed inside sends = absurd cc
taken_reads d whole sh a (Store r v) c f safe allowed inside sends = absurd cc

-- who may not write at its view may not later, while its request waits
pub still_reads : (d : Draft) → IsWellFormed d → IsShaped d → (n : ℕ) (w : Shown) (c lo : ℕ) → IsFaithful d n w → c < n → StampedTo c lo w.done → lo ≤ top_of w
    → ((j : ℕ) → lo ≤ j → j < top_of w → IsOthers c (entry_at w.order j)) → may d (state_of (state_at d n w lo) c) event.Store ≡ false
    → (k : ℕ) → lo ≤ k → k ≤ top_of w → may d (state_of (state_at d n w k) c) event.Store ≡ false
still_reads d whole sh n w c lo f inside stamps low others first zero from to =
    let z : lo ≡ zero = omega (arith, from) in subst (λ (i : ℕ). may d (state_of (state_at d n w i) c) event.Store ≡ false) z first
still_reads d whole sh n w c lo f inside stamps low others first (suc k) from to = let split : (lo ≡ suc k) ⊎ (lo ≤ k) = search (arith, from) in elim split [
  | inl here ↦ subst (λ (i : ℕ). may d (state_of (state_at d n w i) c) event.Store ≡ false) here first
  | inr more ↦
      let before = still_reads d whole sh n w c lo f inside stamps low others first k more (omega (arith, to)) in
      let next = next_state d whole sh n (run_of n w) (top_of w) f.run (has_accesses n w.order w.done) c k inside to (others k more to) (lacks_above w.done c lo (suc k) n stamps (omega (arith, more))) in
      ap (λ (x : ℕ). may d x event.Store) next ∙ by k (omega (arith, to)) (sent_to d (shown_entry d w k) (entry_at w.order k) c) refl before
]
  where
    by : (k : ℕ) → k < top_of w → (o : Option ℕ) → sent_to d (shown_entry d w k) (entry_at w.order k) c ≡ o → may d (state_of (state_at d n w k) c) event.Store ≡ false
        → may d (option_map_or (take_next d (state_of (state_at d n w k) c)) o (state_of (state_at d n w k) c)) event.Store ≡ false
    by k below None e before = before
    by k below (Some i) e before =
        let good : IsGood d n (state_at d n w k) = (good_at d whole sh n (run_of n w) (top_of w) f.run k (omega (arith, below))).1 in
        taken_reads d whole sh (state_at d n w k) (entry_at w.order k) c i good.0 (f.run.entries k below) (omega (arith, inside, good.1))
        (ap (λ (t : DirEntry). sent_to d t (entry_at w.order k) c) (directory_at d n (run_of n w) (has_accesses n w.order w.done) k).1 ∙ e)

out_apart : (d : Draft) → IsShaped d → (n : ℕ) (w : Who) (x : ℕ) → fits_as d n w x ≡ true → w ≢ Other → may d x event.Evict ≡ true
out_apart d s n w x fit holds = by (is (out d) x) refl
  where
    reads : (w : Who) → fits_as d n w x ≡ true → w ≢ Other → may d x event.Load ≡ true
    reads Other fit holds = absurd (holds refl)
    reads Sharer fit holds = shared_loads d s x fit
    reads Owner fit holds = owner_loads d s n x fit

    by : (b : Bool) → is (out d) x ≡ b → not (is (out d) x) ≡ true
    by true e = let lacks = out_loads d s x e in let has = reads w fit holds in absurd (cc (lacks, has))
    by false e = ap not e

pub heard_allowed : (d : Draft) → IsWellFormed d → IsShaped d → (n : ℕ) (w : Shown) (e : Entry) (st : ℕ) → IsFaithful d n w → IsHeard d n w e st
    → IsAllowed d (state_at d n w (top_of w)) (entry_step e)
heard_allowed d whole sh n w e st f heard = by e.stale refl
  where
    a : State
    a = state_at d n w (top_of w)

    c : ℕ
    c = e.core

    good : IsGood d n a
    good = (good_at d whole sh n (run_of n w) (top_of w) f.run (top_of w) (omega arith)).1

    there : c < length a.states
    there = omega (arith, heard.inside, good.1)

    directory : a.entry ≡ shown_entry d w (top_of w)
    directory = (directory_at d n (run_of n w) (has_accesses n w.order w.done) (top_of w)).1

    t : IsTold d n w c (w.core c)
    t = f.cores c heard.inside

    lo : ℕ
    lo = (w.core c).seen

    -- at its view it may not write, whether it holds something there or not
    first : e.event ≡ event.Store → may d (state_of (state_at d n w lo) c) event.Store ≡ false
    first is = at_view (who (shown_entry d w lo) c) refl
      where
        told : who (shown_entry d w lo) c ≢ Other → may d (state_of (state_at d n w lo) c) event.Store ≡ false
        told holds =
            let exact = (subst (Tells (shown_entry d w) (state_at d n w) c lo (w.core c).last (w.core c).word (w.core c).stamp) heard.level t.tells holds).0 in
            ap (λ (x : ℕ). may d x event.Store) exact ∙ heard.store is

        at_view : (v : Who) → who (shown_entry d w lo) c ≡ v → may d (state_of (state_at d n w lo) c) event.Store ≡ false
        at_view Other q =
            let low_good : IsGood d n (state_at d n w lo) = (good_at d whole sh n (run_of n w) (top_of w) f.run lo heard.view).1 in
            let low_directory = (directory_at d n (run_of n w) (has_accesses n w.order w.done) lo).1 in
            out_stores d sh (state_of (state_at d n w lo) c) (out_at d n (state_at d n w lo) c low_good heard.inside (ap (λ (s : DirEntry). who s c) low_directory ∙ q))
        at_view Sharer q = told (λ y. cc (q, y))
        at_view Owner q = told (λ y. cc (q, y))

    by : (b : Bool) → e.stale ≡ b → IsAllowed d a (entry_step e)
    by true is = rw is (there, out_at d n a c good heard.inside (ap (λ (s : DirEntry). who s c) directory ∙ heard.stale is))
    by false is =
        let need : needs_transaction d (state_of a c) e.event ≡ true =
        needs_as d sh a.entry.dir (who a.entry c) (state_of a c) e.event (good.0.fits c there)
        (λ q. ap (λ (s : DirEntry). who s c) directory ∙ heard.load q)
        (λ q o. still_reads d whole sh n w c lo f heard.inside t.seen heard.view heard.others (first q) (top_of w) heard.view (omega arith))
        (λ q. out_apart d sh a.entry.dir (who a.entry c) (state_of a c) (good.0.fits c there) (λ y. heard.evict is q (ap (λ (s : DirEntry). who s c) (sym directory) ∙ y))) in
        rw is (there, need)
