-- The other moves of a line.
use Rattle.std.proofs.Common.{◌≡◌, ◌≢◌, ℕ, suc, ◌<◌, ◌≤◌, Bool, true, false, List, ◌++◌, None, Some, refl, sym, ap, subst, ◌∙◌, arith}
use Rattle.pg_perm.specs.declared.kinds.Who.TheVariants.{Other}
use Rattle.pg_perm.specs.declared.draft.Draft.{Draft}
use Rattle.pg_perm.specs.Drafts.{IsWellFormed}
use Rattle.pg_shape.specs.Shaped.{IsShaped}
use Rattle.pg_directory.specs.DirEntries.{who}
use Rattle.pg_atomic.specs.States.{state_of}
use Rattle.pg_serial.specs.Groups.{IsQuiet}
use Rattle.pg_serial.specs.Serial.{Loaded, entry_at}
use Rattle.pg_serial.specs.Faithful.{Level, Ahead, Core, Datum, Shown, run_of, top_of, shown_entry, state_at, Tells, IsTold, IsDatum, EachIs, IsFaithful, IsHeld, IsUntouched, with_done}
use Rattle.pg_serial.proofs.Places.{has_accesses}
use Rattle.pg_serial.proofs.Words.{caught_up}
use Rattle.pg_serial.proofs.Stores.{stamped_weaker}
use Rattle.pg_serial.proofs.Loads.{load_done}
use Rattle.pg_serial.proofs.Completes.{lines_move, held_word, lacks_above}

-- a line that moves on, with what it then says
pub told_with : (d : Draft) (n : ℕ) (w : Shown) (c : ℕ) (x y : Core) → IsTold d n w c x → x.seen ≤ y.seen → (y.pending ≡ true → x.pending ≡ true) → y.last ≡ x.last
    → Tells (shown_entry d w) (state_at d n w) c y.seen y.last y.word y.stamp y.stand → IsTold d n w c y
told_with d n w c x y t up waits last tells = record {
  seen = stamped_weaker c x.seen y.seen w.done up t.seen;
  waits = λ p b above. t.waits (waits p) b (omega (arith, above, last));
  rises = t.rises;
  tells = tells;
}

-- the state of a line that is level is that of the machine till it is touched
pub exact_till : (d : Draft) → IsWellFormed d → IsShaped d → (n : ℕ) (w : Shown) (c st p : ℕ) → IsFaithful d n w → c < n → (w.core c).stand ≡ Level st → (w.core c).seen ≤ p → p ≤ top_of w
    → IsUntouched d w c (w.core c).seen p → who (shown_entry d w (w.core c).seen) c ≢ Other → state_of (state_at d n w p) c ≡ st
exact_till d whole sh n w c st p f inside level reach low u held =
    let lo : ℕ = (w.core c).seen in
    let t : IsTold d n w c (w.core c) = f.cores c inside in
    let told = subst (Tells (shown_entry d w) (state_at d n w) c lo (w.core c).last (w.core c).word (w.core c).stamp) level t.tells held in
    let quiet : IsQuiet (run_of n w) c lo p = record { others = u.others; lacks = λ j more less. lacks_above w.done c lo j n t.seen more } in
    caught_up d whole sh n (run_of n w) (top_of w) f.run (has_accesses n w.order w.done) c lo p inside low quiet u.none p reach (omega arith) ∙ told.0

-- postpone and ack early: a line that was level goes past its own entry, and isn't granted
pub postponed : (d : Draft) → IsWellFormed d → IsShaped d → (n : ℕ) (w : Shown) (c st p seen stamp : ℕ) → IsFaithful d n w → c < n → (w.core c).stand ≡ Level st → (w.core c).last ≡ suc p
    → (w.core c).seen ≤ p → p ≤ top_of w → IsUntouched d w c (w.core c).seen p → who (shown_entry d w p) c ≡ who (shown_entry d w (w.core c).seen) c → (w.core c).seen ≤ seen
    → IsTold d n w c (record (w.core c) { seen = seen; stand = Ahead st false; stamp = stamp })
postponed d whole sh n w c st p seen stamp f inside level last reach low u same_who up =
    told_with d n w c (w.core c) (record (w.core c) { seen = seen; stand = Ahead st false; stamp = stamp }) (f.cores c inside) up (λ q. q) refl
    (λ j is.
    let same : p ≡ j = omega (arith, is, last) in (
      λ holds. subst (λ (k : ℕ). state_of (state_at d n w k) c ≡ st) same (exact_till d whole sh n w c st p f inside level reach low u
          (λ none. holds (subst (λ (k : ℕ). who (shown_entry d w k) c ≡ Other) same (same_who ∙ none)))),
      λ granted. absurd cc,
    ))

-- the same of a line that was ahead
pub postponed_again : (d : Draft) (n : ℕ) (w : Shown) (c st seen : ℕ) (b : Bool) → IsFaithful d n w → c < n → (w.core c).stand ≡ Ahead st b → (w.core c).seen ≤ seen → IsTold d n w c (record (w.core c) { seen = seen })
postponed_again d n w c st seen b f inside ahead up =
    let t : IsTold d n w c (w.core c) = f.cores c inside in
    told_with d n w c (w.core c) (record (w.core c) { seen = seen }) t up (λ q. q) refl
    (subst (Tells (shown_entry d w) (state_at d n w) c seen (w.core c).last (w.core c).word (w.core c).stamp) (sym ahead)
    (subst (Tells (shown_entry d w) (state_at d n w) c (w.core c).seen (w.core c).last (w.core c).word (w.core c).stamp) ahead t.tells))

-- fill part: data comes, and acknowledgements are still to come
pub filled_part : (d : Draft) (n : ℕ) (w : Shown) (c st p seen : ℕ) (x : Datum) → IsFaithful d n w → c < n → (w.core c).last ≡ suc p → IsDatum d (entry_at w.order) (state_at d n w) x → x.stamp ≡ suc p
    → (who (shown_entry d w p) c ≢ Other → state_of (state_at d n w p) c ≡ st) → (w.core c).seen ≤ seen → IsTold d n w c (record (w.core c) { seen = seen; stand = Ahead st true; word = x.word; stamp = suc p })
filled_part d n w c st p seen x f inside last is at exact up =
    told_with d n w c (w.core c) (record (w.core c) { seen = seen; stand = Ahead st true; word = x.word; stamp = suc p }) (f.cores c inside) up (λ q. q) refl
    (λ j at_j.
    let same : p ≡ j = omega (arith, at_j, last) in
    subst (λ (k : ℕ). (who (shown_entry d w k) c ≢ Other → state_of (state_at d n w k) c ≡ st) × (true ≡ true → (x.word ≡ (state_at d n w (suc k)).word) × (suc p ≡ suc k))) same
    (exact, λ granted. ((is p at).0, refl)))

-- upgrade part: a count comes to an owner that waits
pub upgraded_part : (d : Draft) → IsWellFormed d → IsShaped d → (n : ℕ) (w : Shown) (c st p : ℕ) → IsFaithful d n w → c < n → (w.core c).stand ≡ Level st → (w.core c).last ≡ suc p
    → (w.core c).seen ≤ p → p < top_of w → IsUntouched d w c (w.core c).seen p → who (shown_entry d w (w.core c).seen) c ≢ Other → IsHeld d n w c (w.core c).seen p
    → (state_at d n w (suc p)).word ≡ (state_at d n w p).word
    → IsTold d n w c (record (w.core c) { seen = suc p; stand = Ahead st true; stamp = suc p })
upgraded_part d whole sh n w c st p f inside level last reach low u holds held same_word =
    let t : IsTold d n w c (w.core c) = f.cores c inside in
    let told = subst (Tells (shown_entry d w) (state_at d n w) c (w.core c).seen (w.core c).last (w.core c).word (w.core c).stamp) level t.tells holds in
    let word : (w.core c).word ≡ (state_at d n w (suc p)).word =
    told.1 ∙ sym (held_word d whole sh n w c (w.core c).seen p f inside t.seen (omega (arith, reach)) (omega (arith, low)) held p (omega (arith, reach)) (omega arith)) ∙ sym same_word in
    told_with d n w c (w.core c) (record (w.core c) { seen = suc p; stand = Ahead st true; stamp = suc p }) t (omega (arith, reach)) (λ q. q) refl
    (λ j is.
    let same : p ≡ j = omega (arith, is, last) in
    subst (λ (k : ℕ). (who (shown_entry d w k) c ≢ Other → state_of (state_at d n w k) c ≡ st) × (true ≡ true → ((w.core c).word ≡ (state_at d n w (suc k)).word) × (suc p ≡ suc k))) same
    (λ there. exact_till d whole sh n w c st p f inside level reach (omega (arith, low)) u holds, λ granted. (word, refl)))

-- an invalidation that is answered, an evict that is acknowledged, and a late load: the line holds nothing, and says nothing
pub emptied : (d : Draft) (n : ℕ) (w : Shown) (c st seen word stamp : ℕ) (pending : Bool) → IsFaithful d n w → c < n → (w.core c).seen ≤ seen → (pending ≡ true → (w.core c).pending ≡ true)
    → who (shown_entry d w seen) c ≡ Other → IsTold d n w c (record (w.core c) { seen = seen; stand = Level st; word = word; stamp = stamp; pending = pending })
emptied d n w c st seen word stamp pending f inside up waits nothing =
    told_with d n w c (w.core c) (record (w.core c) { seen = seen; stand = Level st; word = word; stamp = stamp; pending = pending }) (f.cores c inside) up waits refl (λ holds. absurd (holds nothing))

pub load_late : (d : Draft) → IsWellFormed d → IsShaped d → (n : ℕ) (w : Shown) (c p st word stamp : ℕ) (x : Datum) (core : ℕ → Core) (stay sent : List Datum) (written : List ℕ) (busy : Bool) (clean : ℕ → Bool)
    → IsFaithful d n w → c < n → p < top_of w → (w.core c).pending ≡ true → (w.core c).last ≡ suc p → suc p ≤ (w.core c).seen
    → IsDatum d (entry_at w.order) (state_at d n w) x → x.stamp ≡ suc p → who (shown_entry d w (suc p)) c ≢ Other → who (shown_entry d w (w.core c).seen) c ≡ Other
    → ((e : ℕ) → e ≢ c → core e ≡ w.core e) → core c ≡ record (w.core c) { stand = Level st; pending = false; word = word; stamp = stamp }
    → EachIs (IsDatum d (entry_at w.order) (state_at d n w)) stay → EachIs (IsDatum d (entry_at w.order) (state_at d n w)) sent → EachIs (λ v. v ≡ (state_at d n w (top_of w)).word) written
    → ((shown_entry d w (top_of w)).owner ≡ None → busy ≡ false → w.memory ≡ (state_at d n w (top_of w)).word)
    → ((e : ℕ) → (shown_entry d w (top_of w)).owner ≡ Some e → clean e ≡ true → w.memory ≡ (state_at d n w (top_of w)).word)
    → IsFaithful d n (with_done (record w { core = core; replies = stay ++ sent; written = written; busy = busy; clean = clean }) (record { stamp = suc p; core = c; made = Loaded x.word; late = true }))
load_late d whole sh n w c p st word stamp x core stay sent written busy clean f inside low waits last above is at holds nothing same changed stays sends writes keeps cleans =
    load_done d whole sh n (record w { core = core; replies = stay ++ sent; written = written; busy = busy; clean = clean }) c (suc p) x.word true
    (lines_move d n w c core stay sent written w.memory busy clean f same
    (subst (IsTold d n w c) (sym changed) (emptied d n w c st (w.core c).seen word stamp false f inside (omega arith) (λ q. absurd cc) nothing)) stays sends writes keeps cleans)
    inside low (subst (λ (y : Core). suc p ≤ y.seen) (sym changed) above) (ap (λ (y : Core). y.pending) changed)
    (stamped_weaker c p (suc p) w.done (omega arith) ((f.cores c inside).waits waits p (omega (arith, last)))) holds (is p at).0
