-- The directory handles a request: the order gets an entry.
use Rattle.std.proofs.Common.{◌≡◌, ◌≢◌, ℕ, suc, ◌+◌, ◌==◌, ◌<◌, ◌≤◌, Bool, true, false, List, [], ◌∷◌, ◌++◌, None, Some, refl, sym, ap, subst, ◌∙◌, arith}
use Rattle.std.specs.Prelude.{not, if◌then◌else◌}
use Rattle.std.proofs.lemmas.Bool.{eqb-true, eq-eqb}
use Rattle.std.proofs.lemmas.List.{length-append}
use Rattle.pg_perm.specs.declared.kinds.Event.{Event}
use Rattle.pg_perm.specs.declared.kinds.Event.TheVariants as event
use Rattle.pg_perm.specs.declared.kinds.Who.{Who}
use Rattle.pg_perm.specs.declared.kinds.Who.TheVariants.{Other, Sharer, Owner}
use Rattle.pg_perm.specs.declared.step.Step.TheVariants.{Txn, Stale}
use Rattle.pg_perm.specs.declared.draft.Draft.{Draft}
use Rattle.pg_perm.specs.Drafts.{IsWellFormed}
use Rattle.pg_shape.specs.Shaped.{IsShaped}
use Rattle.pg_directory.specs.Sound.{fits_as}
use Rattle.pg_atomic.specs.States.{State, requestor_reply}
use Rattle.pg_atomic.specs.Steps.{may, needs_transaction, IsAllowed, after_step, after_steps}
use Rattle.pg_atomic.proofs.Fits.{out_loads, out_stores, shared_stores}
use Rattle.pg_serial.specs.Groups.{at, IsRunTo, IsEntry}
use Rattle.pg_serial.specs.Serial.{Entry, entry_step, entry_at}
use Rattle.pg_serial.specs.Faithful.{Stand, Level, Ahead, Core, Datum, Shown, run_of, top_of, shown_entry, state_at, Tells, Looks, IsTold, IsDatum, EachIs, IsFaithful, IsBounded}
use Rattle.pg_serial.specs.Moves.{IsGiven}
use Rattle.pg_serial.proofs.Agree.{one_more, one_more_states, agrees_dir_entry}
use Rattle.pg_serial.proofs.Places.{entry_before, entry_last}
use Rattle.pg_serial.proofs.Newest.{own_above, by_core_none}
use Rattle.pg_serial.proofs.Words.{entry_word}
use Rattle.pg_serial.proofs.Frames.{tells_keep, datum_keep, each_is, each_both}
use Rattle.pg_serial.proofs.Stores.{each_is-append, stamped_weaker}

-- Which entries are allowed

-- in a state that fits, a request that may come takes a transaction
pub needs_as : (d : Draft) → IsShaped d → (n : ℕ) (w : Who) (x : ℕ) (e : Event) → fits_as d n w x ≡ true
    → (e ≡ event.Load → w ≡ Other) → (e ≡ event.Store → w ≡ Owner → may d x event.Store ≡ false) → (e ≡ event.Evict → may d x event.Evict ≡ true) → needs_transaction d x e ≡ true
needs_as d s n w x event.Load fit load store evict = let o = subst (λ (v : Who). fits_as d n v x ≡ true) (load refl) fit in ap not (out_loads d s x o)
needs_as d s n Other x event.Store fit load store evict = ap not (out_stores d s x fit)
needs_as d s n Sharer x event.Store fit load store evict = ap not (shared_stores d s x fit)
needs_as d s n Owner x event.Store fit load store evict = ap not (store refl refl)
needs_as d s n w x event.Evict fit load store evict = evict refl

-- One more

pub entry_is : (e : Entry) → IsEntry (entry_step e)
entry_is e = by e.stale
  where
    by : (b : Bool) → IsEntry (if b then Stale e.core else Txn e.core e.event)
    by true = tt
    by false = tt

pub order_done : (d : Draft) → IsWellFormed d → IsShaped d → (n : ℕ) (w : Shown) (e : Entry) (st : ℕ) (core : ℕ → Core) (sent : List Datum) (memory : ℕ) (busy : Bool) (clean : ℕ → Bool)
    → IsFaithful d n w → IsBounded n w → e.core < n → (w.core e.core).stand ≡ Level st
    → IsAllowed d (state_at d n w (top_of w)) (entry_step e)
    → ((i : ℕ) → i ≢ e.core → core i ≡ w.core i) → core e.core ≡ record (w.core e.core) { pending = true; last = suc (top_of w) }
    → EachIs (IsGiven d (state_at d n w (top_of w)) (top_of w) e) sent
    → let w2 : Shown = record w { order = w.order ++ e ∷ []; core = core; replies = w.replies ++ sent; memory = memory; busy = busy; clean = clean } in
    ((shown_entry d w2 (suc (top_of w))).owner ≡ None → busy ≡ false → memory ≡ (state_at d n w (top_of w)).word)
    → ((c : ℕ) → (shown_entry d w2 (suc (top_of w))).owner ≡ Some c → clean c ≡ true → memory ≡ (state_at d n w (top_of w)).word)
    → IsFaithful d n w2
order_done d whole s n w e st core sent memory busy clean f b inside level allowed same own given keeps cleans = record {
  run = subst (IsRunTo d n (run_of n w2)) (sym longer) runs;
  cores = λ i there. by i there (i == e.core) refl;
  replies = each_is-append (IsDatum d (entry_at w2.order) (state_at d n w2)) w.replies sent
      (each_both (λ m. m.stamp ≤ L) (IsDatum d (entry_at w.order) (state_at d n w)) (IsDatum d (entry_at w2.order) (state_at d n w2)) w.replies
      (λ m low is. datum_keep d (entry_at w.order) (entry_at w2.order) (state_at d n w) (state_at d n w2) (λ k. k ≤ L) m states (λ j at. (before j (omega (arith, at, low)), omega (arith, at, low), omega (arith, at, low))) is) b.replies f.replies)
      (each_is (IsGiven d (state_at d n w L) L e) (IsDatum d (entry_at w2.order) (state_at d n w2)) sent gives given);
  written = each_is _ _ w.written (λ v is. is ∙ sym word_top) f.written;
  memory = λ none free. keeps (subst (λ (k : ℕ). (shown_entry d w2 k).owner ≡ None) longer none) free ∙ sym word_top;
  clean = λ c owner claims. cleans c (subst (λ (k : ℕ). (shown_entry d w2 k).owner ≡ Some c) longer owner) claims ∙ sym word_top;
}
  where
    L : ℕ
    L = top_of w

    w2 : Shown
    w2 = record w { order = w.order ++ e ∷ []; core = core; replies = w.replies ++ sent; memory = memory; busy = busy; clean = clean }

    longer : top_of w2 ≡ suc L
    longer = length-append w.order (e ∷ []) ∙ (let one : L + 1 ≡ suc L = omega arith in one)

    before : (j : ℕ) → j < L → entry_at w2.order j ≡ entry_at w.order j
    before = entry_before w.order e

    last : entry_at w2.order L ≡ entry_step e
    last = entry_last w.order e

    states : (k : ℕ) → k ≤ L → state_at d n w2 k ≡ state_at d n w k
    states = one_more_states d n (run_of n w) L (entry_at w2.order) before

    dir_entries : (k : ℕ) → k ≤ L → shown_entry d w2 k ≡ shown_entry d w k
    dir_entries = agrees_dir_entry d L (entry_at w.order) (entry_at w2.order) before

    none : (run_of n w).group (suc L) ≡ []
    none = by_core_none w.done (suc L) n (λ c there. own_above w.done c (w.core c).seen (suc L) (f.cores c there).seen (omega (arith, b.views c there)))

    runs : IsRunTo d n (run_of n w2) (suc L)
    runs = one_more d n (run_of n w) L f.run (entry_at w2.order) before (subst (IsAllowed d (state_at d n w L)) (sym last) allowed) none

    next : state_at d n w2 (suc L) ≡ after_step d (state_at d n w L) (entry_step e)
    next =
        ap (after_steps d (after_step d (state_at d n w2 L) (entry_at w2.order L))) none
        ∙ ap (λ (a : State). after_step d a (entry_at w2.order L)) (states L (omega arith)) ∙ ap (after_step d (state_at d n w L)) last

    word_next : (state_at d n w2 (suc L)).word ≡ (state_at d n w L).word
    word_next = ap (λ (a : State). a.word) next ∙ entry_word d (state_at d n w L) (entry_step e) (entry_is e)

    word_top : (state_at d n w2 (top_of w2)).word ≡ (state_at d n w L).word
    word_top = ap (λ (k : ℕ). (state_at d n w2 k).word) longer ∙ word_next

    -- what memory gives is what the machine gives
    is_txn : (t : Bool) → e.stale ≡ t → (c : ℕ) (v : Event) → (if t then Stale e.core else Txn e.core e.event) ≡ Txn c v → v ≡ e.event
    is_txn true q c v h = absurd cc
    is_txn false q c v h = cc

    gives : (x : Datum) → IsGiven d (state_at d n w L) L e x → IsDatum d (entry_at w2.order) (state_at d n w2) x
    gives x (at, core, word, reply) = λ j is.
        let here : j ≡ L = omega (arith, at, is) in
        subst (λ (k : ℕ). (x.word ≡ (state_at d n w2 (suc k)).word) × ((v : Event) → entry_at w2.order k ≡ Txn x.core v → requestor_reply d (state_at d n w2 k) (record { core = x.core; event = v }) ≡ Some x.reply)) (sym here) (
          word ∙ sym word_next,
          λ v asks.
              let same_event : v ≡ e.event = is_txn e.stale refl x.core v (sym last ∙ asks) in
              ap (λ (a : State). requestor_reply d a (record { core = x.core; event = v })) (states L (omega arith))
              ∙ ap (λ (i : ℕ). requestor_reply d (state_at d n w L) (record { core = i; event = v })) core
              ∙ ap (λ (u : Event). requestor_reply d (state_at d n w L) (record { core = e.core; event = u })) same_event ∙ reply,
        )

    told : (i : ℕ) → i < n → IsTold d n w2 i (w.core i)
    told i there =
        let t : IsTold d n w i (w.core i) = f.cores i there in
        record {
          seen = t.seen;
          waits = t.waits;
          rises = t.rises;
          tells = tells_keep (shown_entry d w) (shown_entry d w2) (state_at d n w) (state_at d n w2) (λ k. k ≤ L) i (w.core i).seen (w.core i).last (w.core i).word (w.core i).stamp (w.core i).stand
              (dir_entries (w.core i).seen (b.views i there)) (λ j is. dir_entries j (omega (arith, is, b.lasts i there))) states (low i there (w.core i).stand) t.tells;
        }
      where
        low : (i : ℕ) → i < n → (u : Stand) → Looks (λ k. k ≤ top_of w) (shown_entry d w) i (w.core i).seen (w.core i).last u
        low i there (Level q) = λ h. b.views i there
        low i there (Ahead q g) = λ j is. (λ h. omega (arith, is, b.lasts i there), λ t. omega (arith, is, b.lasts i there))

    own_told : IsTold d n w2 e.core (record (w.core e.core) { pending = true; last = suc L })
    own_told =
        let t = told e.core inside in
        record {
          seen = t.seen;
          waits = λ p k above. stamped_weaker e.core (w.core e.core).seen k w.done (omega (arith, above, b.views e.core inside)) t.seen;
          rises = t.rises;
          tells = subst (Tells (shown_entry d w2) (state_at d n w2) e.core (w.core e.core).seen (suc L) (w.core e.core).word (w.core e.core).stamp) (sym level)
              (subst (Tells (shown_entry d w2) (state_at d n w2) e.core (w.core e.core).seen (w.core e.core).last (w.core e.core).word (w.core e.core).stamp) level t.tells);
        }

    by : (i : ℕ) → i < n → (t : Bool) → (i == e.core) ≡ t → IsTold d n w2 i (core i)
    by i there true is = subst (λ (k : ℕ). IsTold d n w2 k (core k)) (sym (eqb-true i e.core is)) (subst (IsTold d n w2 e.core) (sym own) own_told)
    by i there false is =
        let apart : i ≢ e.core = λ q. let y = eq-eqb i e.core q in cc (y, is) in
        subst (IsTold d n w2 i) (sym (same i apart)) (told i there)
