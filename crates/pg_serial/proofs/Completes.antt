-- Moves of lines: forwards that are answered, loads and stores that complete.
use Rattle.std.proofs.Common.{◌≡◌, ◌≢◌, ℕ, zero, suc, ◌==◌, ◌<◌, ◌≤◌, ◌⊎◌, inl, inr, Bool, true, false, List, [], ◌∷◌, ◌++◌, length, Option, None, Some, get_or-set_same, refl, sym, ap, subst, ◌∙◌, arith}
use Rattle.std.proofs.lemmas.Bool.{eqb-true, eq-eqb}
use Rattle.std.specs.Option.{option_map_or}
use Rattle.pg_perm.specs.declared.kinds.Event.{Event}
use Rattle.pg_perm.specs.declared.kinds.Event.TheVariants as event
use Rattle.pg_perm.specs.declared.step.Step.{Step}
use Rattle.pg_perm.specs.declared.step.Step.TheVariants.{Txn}
use Rattle.pg_perm.specs.declared.draft.Draft.{Draft}
use Rattle.pg_perm.specs.Drafts.{IsWellFormed}
use Rattle.pg_terms.specs.Terms.{cache_is}
use Rattle.pg_terms.specs.Rows.{allows}
use Rattle.pg_shape.specs.Shaped.{IsShaped}
use Rattle.pg_directory.specs.DirEntries.{Request}
use Rattle.pg_atomic.specs.States.{State, state_of, hit_next, take_next, requestor_end}
use Rattle.pg_atomic.specs.Steps.{may, IsAllowed, after_step}
use Rattle.pg_atomic.proofs.Transactions.{ends_fit}
use Rattle.pg_atomic.proofs.Reached.{handled_at}
use Rattle.pg_serial.specs.Groups.{base, HasEntries, OwnerSilent, Lacks, Each, IsAccessOf, IsStored, requestor, IsQuiet}
use Rattle.pg_serial.specs.Serial.{Entry, Done, Stored, own, by_core, entry_at, groups, StampedTo}
use Rattle.pg_serial.specs.Faithful.{Level, Core, Datum, Shown, Change, stored, run_of, top_of, shown_entry, state_at, Tells, IsTold, IsDatum, EachIs, IsFaithful, IsGranted, IsAlone, IsHeld, IsAnswer, served_one}
use Rattle.pg_serial.proofs.Runs.{IsGood, good_at}
use Rattle.pg_serial.proofs.Insert.{state_kept}
use Rattle.pg_serial.proofs.Places.{each-append, own_each, has_accesses}
use Rattle.pg_serial.proofs.Newest.{own_above}
use Rattle.pg_serial.proofs.Words.{own_step, next_state, caught_up, word_kept}
use Rattle.pg_serial.proofs.Replies.{served_datum}
use Rattle.pg_serial.proofs.Stores.{each_is-append, store_done}
use Rattle.pg_serial.proofs.Orders.{entry_is}

-- Lines and messages alone

pub lines_move : (d : Draft) (n : ℕ) (w : Shown) (c : ℕ) (core : ℕ → Core) (stay sent : List Datum) (written : List ℕ) (memory : ℕ) (busy : Bool) (clean : ℕ → Bool)
    → IsFaithful d n w → ((e : ℕ) → e ≢ c → core e ≡ w.core e) → IsTold d n w c (core c)
    → EachIs (IsDatum d (entry_at w.order) (state_at d n w)) stay → EachIs (IsDatum d (entry_at w.order) (state_at d n w)) sent
    → EachIs (λ v. v ≡ (state_at d n w (top_of w)).word) written
    → ((shown_entry d w (top_of w)).owner ≡ None → busy ≡ false → memory ≡ (state_at d n w (top_of w)).word)
    → ((e : ℕ) → (shown_entry d w (top_of w)).owner ≡ Some e → clean e ≡ true → memory ≡ (state_at d n w (top_of w)).word)
    → IsFaithful d n (record w { core = core; replies = stay ++ sent; written = written; memory = memory; busy = busy; clean = clean })
lines_move d n w c core stay sent written memory busy clean f same own stays sends writes keeps cleans = record {
  run = f.run;
  cores = λ e there. by e there (e == c) refl;
  replies = each_is-append (IsDatum d (entry_at w.order) (state_at d n w)) stay sent stays sends;
  written = writes;
  memory = keeps;
  clean = cleans;
}
  where
    w2 : Shown
    w2 = record w { core = core; replies = stay ++ sent; written = written; memory = memory; busy = busy; clean = clean }

    again : (e : ℕ) (x : Core) → IsTold d n w e x → IsTold d n w2 e x
    again e x t = record { seen = t.seen; waits = t.waits; rises = t.rises; tells = t.tells }

    by : (e : ℕ) → e < n → (b : Bool) → (e == c) ≡ b → IsTold d n w2 e (core e)
    by e there true is = subst (λ (i : ℕ). IsTold d n w2 i (core i)) (sym (eqb-true e c is)) (again c (core c) own)
    by e there false is =
        let apart : e ≢ c = λ q. let y = eq-eqb e c q in cc (y, is) in
        subst (IsTold d n w2 e) (sym (same e apart)) (again e (w.core e) (f.cores e there))

-- Groups that lack a core

pub lacks_above : (done : List Done) (c b k m : ℕ) → StampedTo c b done → b < k → Lacks c (by_core done k m)
lacks_above done c b k zero s more = tt
lacks_above done c b k (suc m) s more = each-append (IsAccessOf (λ e. e ≢ c)) (by_core done k m) (own done k m) (lacks_above done c b k m s more) (by (m == c) refl)
  where
    by : (t : Bool) → (m == c) ≡ t → Each (IsAccessOf (λ e. e ≢ c)) (own done k m)
    by true is = subst (λ (xs : List Step). Each (IsAccessOf (λ e. e ≢ c)) xs) (sym (own_above done m b k (subst (λ (i : ℕ). StampedTo i b done) (sym (eqb-true m c is)) s) more)) tt
    by false is = own_each (λ e. e ≢ c) done k m (λ q. let y = eq-eqb m c q in cc (y, is))

pub has_entries : (n : ℕ) (order : List Entry) (done : List Done) → HasEntries (groups n order done)
has_entries n order done k = entry_is _

-- Forwards that are answered

pub held_word : (d : Draft) → IsWellFormed d → IsShaped d → (n : ℕ) (w : Shown) (c lo hi : ℕ) → IsFaithful d n w → c < n → StampedTo c lo w.done → lo ≤ hi → hi ≤ top_of w → IsHeld d n w c lo hi
    → (k : ℕ) → lo ≤ k → k ≤ hi → (state_at d n w k).word ≡ (state_at d n w lo).word
held_word d whole s n w c lo hi f inside stamps up low h k from to =
    word_kept d whole s n (run_of n w) (top_of w) f.run (has_accesses n w.order w.done) (has_entries n w.order w.done) lo k from (omega (arith, to, low)) (λ j more less. silent j more (omega (arith, less, to)))
  where
    silent : (j : ℕ) → lo < j → j ≤ hi → OwnerSilent d (run_of n w) j
    silent zero more less = absurd (omega (arith, more))
    silent (suc b) more less = λ o owner. by o (h.owners (suc b) o more less owner)
      where
        by : (o : ℕ) → (o < n) × ((o ≡ c) ⊎ (((w.core o).pending ≡ true) × ((w.core o).last ≤ suc b))) → Lacks o (by_core w.done (suc b) n)
        by o (there, inl same) = subst (λ (i : ℕ). Lacks i (by_core w.done (suc b) n)) (sym same) (lacks_above w.done c lo (suc b) n stamps more)
        by o (there, inr p) = lacks_above w.done o b (suc b) n ((f.cores o there).waits p.0 b p.1) (omega arith)

pub quiet_line : (d : Draft) (n : ℕ) (w : Shown) (c lo hi : ℕ) → StampedTo c lo w.done → IsHeld d n w c lo hi → IsQuiet (run_of n w) c lo hi
quiet_line d n w c lo hi stamps h = record { others = h.others; lacks = λ j more less. lacks_above w.done c lo j n stamps more }

pub answer_told : (d : Draft) → IsWellFormed d → IsShaped d → (n : ℕ) (w : Shown) (c st j f : ℕ) → IsFaithful d n w → IsAnswer d n w c st j f
    → IsTold d n w c (record (w.core c) { seen = suc j; stand = Level (take_next d st f); stamp = suc j })
    × EachIs (IsDatum d (entry_at w.order) (state_at d n w)) (served_one d (w.core c).word st f (requestor (entry_at w.order j)) (suc j))
answer_told d whole s n w c st j f ok a = (
  record {
    seen = weaker w.done t.seen;
    waits = t.waits;
    rises = t.rises;
    tells = λ held. (next, word_next, refl);
  },
  served_datum d s n (run_of n w) (has_accesses n w.order w.done) c j (w.core c).word f st here word_next a.sends,
)
  where
    lo : ℕ
    lo = (w.core c).seen

    t : IsTold d n w c (w.core c)
    t = ok.cores c a.inside

    told : (state_of (state_at d n w lo) c ≡ st) × ((w.core c).word ≡ (state_at d n w lo).word) × ((w.core c).stamp ≡ lo)
    told = subst (Tells (shown_entry d w) (state_at d n w) c lo (w.core c).last (w.core c).word (w.core c).stamp) a.level t.tells a.holds

    weaker : (done : List Done) → StampedTo c lo done → StampedTo c (suc j) done
    weaker [] h = tt
    weaker (x ∷ xs) h = (λ e. omega (arith, h.0 e, a.seen), weaker xs h.1)

    here : state_of (state_at d n w j) c ≡ st
    here =
        let quiet = quiet_line d n w c lo (suc j) t.seen a.held in
        caught_up d whole s n (run_of n w) (top_of w) ok.run (has_accesses n w.order w.done) c lo j a.inside (omega (arith, a.low))
        (record { others = λ i from to. quiet.others i from (omega (arith, to)); lacks = λ i from to. quiet.lacks i from (omega (arith, to)) }) a.none j a.seen (omega arith) ∙ told.0

    next : state_of (state_at d n w (suc j)) c ≡ take_next d st f
    next =
        next_state d whole s n (run_of n w) (top_of w) ok.run (has_accesses n w.order w.done) c j a.inside a.low (a.held.others j a.seen (omega arith)) (lacks_above w.done c lo (suc j) n t.seen (omega (arith, a.seen)))
        ∙ ap (λ (o : Option ℕ). option_map_or (take_next d (state_of (state_at d n w j) c)) o (state_of (state_at d n w j) c)) a.sends ∙ ap (λ (x : ℕ). take_next d x f) here

    word_next : (w.core c).word ≡ (state_at d n w (suc j)).word
    word_next = told.1 ∙ sym (held_word d whole s n w c lo (suc j) ok a.inside t.seen (omega (arith, a.seen)) (omega (arith, a.low)) a.held (suc j) (omega (arith, a.seen)) (omega arith))

-- A store that completes

-- after its entry a core is where the machine ends, and may do what it asked for
pub granted : (d : Draft) → IsWellFormed d → IsShaped d → (n : ℕ) (w : Shown) (c p : ℕ) (e : Event) → IsFaithful d n w → c < n → p < top_of w → entry_at w.order p ≡ Txn c e → e ≢ event.Evict
    → StampedTo c p w.done → (state_of (state_at d n w (suc p)) c ≡ requestor_end d (state_at d n w p) c e) × (e ≡ event.Store → may d (requestor_end d (state_at d n w p) c e) event.Store ≡ true)
granted d whole s n w c p e f inside low entry asks stamps =
    let a : State = state_at d n w p in
    let good : IsGood d n a = (good_at d whole s n (run_of n w) (top_of w) f.run p (omega (arith, low))).1 in
    let allowed : IsAllowed d a (Txn c e) = subst (IsAllowed d a) entry (f.run.entries p low) in
    let q : Request = record { core = c; event = e } in
    let ends = ends_fit d s a c e good.0 (handled_at d whole s a q good.0 allowed.0 allowed.1) allowed.0 allowed.1 in (
      state_kept d c (base d n (run_of n w) (suc p)) (by_core w.done (suc p) n) (lacks_above w.done c p (suc p) n stamps (omega arith))
          ∙ ap (λ (x : Step). state_of (after_step d a x) c) entry ∙ own_step d n a c e good inside,
      λ is. by e is (ends.1 asks),
    )
  where
    by : (e : Event) → e ≡ event.Store → cache_is (allows e) d (requestor_end d (state_at d n w p) c e) ≡ true → may d (requestor_end d (state_at d n w p) c e) event.Store ≡ true
    by event.Load is h = absurd cc
    by event.Store is h = h
    by event.Evict is h = absurd cc

pub store_completes : (d : Draft) → IsWellFormed d → IsShaped d → (n : ℕ) (w : Shown) (u : Change) (c p v fin : ℕ) (late : Bool)
    → IsFaithful d n w → IsGranted d n w (suc p) c → IsAlone d n w u (suc p) c v → (w.core c).pending ≡ true → (w.core c).last ≡ suc p
    → entry_at w.order p ≡ Txn c event.Store → requestor_end d (state_at d n w p) c event.Store ≡ fin → hit_next d fin ≡ fin
    → u.core c ≡ record (w.core c) { seen = suc p; pending = false; stand = Level fin; word = v; stamp = suc p } → u.sent ≡ []
    → IsFaithful d n (stored w u (record { stamp = suc p; core = c; made = Stored v; late = late }))
store_completes d whole s n w u c p v fin late f h alone waits last entry ends stays changed sends =
    store_done d whole s n w u (suc p) c v late f h alone writes (subst (λ (y : Core). suc p ≤ y.seen) (sym changed) (omega arith)) (ap (λ (y : Core). y.pending) changed) tells
  where
    w2 : Shown
    w2 = stored w u (record { stamp = suc p; core = c; made = Stored v; late = late })

    stamps : StampedTo c p w.done
    stamps = (f.cores c h.inside).waits waits p (omega (arith, last))

    grant : (state_of (state_at d n w (suc p)) c ≡ requestor_end d (state_at d n w p) c event.Store) × (event.Store ≡ event.Store → may d (requestor_end d (state_at d n w p) c event.Store) event.Store ≡ true)
    grant = granted d whole s n w c p event.Store f h.inside (omega (arith, h.low)) entry (λ q. cc q) stamps

    writes : may d (state_of (state_at d n w (suc p)) c) event.Store ≡ true
    writes = ap (λ (x : ℕ). may d x event.Store) grant.0 ∙ grant.1 refl

    there : c < length (state_at d n w (suc p)).states
    there = omega (arith, h.inside, (good_at d whole s n (run_of n w) (top_of w) f.run (suc p) h.low).1.1)

    tells : IsStored d n (run_of n w) (run_of n w2) (suc p) (top_of w) c v
        → Tells (shown_entry d w2) (state_at d n w2) c (u.core c).seen (u.core c).last (u.core c).word (u.core c).stamp (u.core c).stand
        × EachIs (IsDatum d (entry_at w.order) (state_at d n w2)) u.sent
    tells kept =
        let here : state_of (state_at d n w2 (suc p)) c ≡ fin =
        ap (λ (a : State). state_of a c) kept.here
        ∙ get_or-set_same (state_at d n w (suc p)).states c (hit_next d (state_of (state_at d n w (suc p)) c)) 0 there
        ∙ ap (hit_next d) (grant.0 ∙ ends) ∙ stays in (
          subst (λ (y : Core). Tells (shown_entry d w2) (state_at d n w2) c y.seen y.last y.word y.stamp y.stand) (sym changed)
              (λ held. (here, sym (kept.words (suc p) (omega arith) h.low), refl)),
          subst (EachIs (IsDatum d (entry_at w.order) (state_at d n w2))) (sym sends) tt,
        )
