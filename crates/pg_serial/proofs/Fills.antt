-- A load that completes with its data, the opening, and what follows for the whole.
use Rattle.std.proofs.Common.{◌≡◌, ◌≢◌, ℕ, zero, suc, ◌<◌, ◌≤◌, Bool, true, false, List, [], ◌++◌, Option, None, Some, refl, sym, ap, subst, ◌∙◌, arith}
use Rattle.std.proofs.lemmas.Bool.{eqb-true}
use Rattle.pg_perm.specs.declared.kinds.Event.{Event}
use Rattle.pg_perm.specs.declared.kinds.Event.TheVariants as event
use Rattle.pg_perm.specs.declared.kinds.Who.TheVariants.{Other}
use Rattle.pg_perm.specs.declared.step.Step.{Step}
use Rattle.pg_perm.specs.declared.step.Step.TheVariants.{Txn}
use Rattle.pg_perm.specs.declared.draft.Draft.{Draft}
use Rattle.pg_perm.specs.Drafts.{IsWellFormed}
use Rattle.pg_terms.specs.Terms.{is, out}
use Rattle.pg_shape.specs.Shaped.{IsShaped}
use Rattle.pg_directory.specs.DirEntries.{who}
use Rattle.pg_atomic.specs.States.{state_of, out_state, initial_state, requestor_end, requestor_reply}
use Rattle.pg_atomic.specs.Steps.{IsRun, AreAllowed, after_steps}
use Rattle.pg_serial.specs.Groups.{at, base}
use Rattle.pg_serial.specs.Serial.{Loaded, by_core, own, entry_at, serial_of, accesses_of, made_by, StampedTo}
use Rattle.pg_serial.specs.Faithful.{Stand, Level, Core, Datum, Shown, run_of, top_of, shown_entry, state_at, Tells, IsTold, IsDatum, EachIs, IsFaithful, IsBounded, with_done}
use Rattle.pg_serial.proofs.Runs.{is_run}
use Rattle.pg_serial.proofs.Own.{in_order}
use Rattle.pg_serial.proofs.Loads.{load_done}
use Rattle.pg_serial.proofs.Stores.{stamped_weaker}
use Rattle.pg_serial.proofs.Completes.{lines_move, granted}

-- with the reply of the data a core ends where the machine does
pub datum_ends : (d : Draft) (n : ℕ) (w : Shown) (x : Datum) (p : ℕ) (e : Event) → IsDatum d (entry_at w.order) (state_at d n w) x → x.stamp ≡ suc p → entry_at w.order p ≡ Txn x.core e
    → requestor_reply d (state_at d n w p) (record { core = x.core; event = e }) ≡ Some x.reply
datum_ends d n w x p e is at asks = (is p at).1 e asks

out_is : (d : Draft) (x : ℕ) → is (out d) x ≡ true → x ≡ out_state d
out_is d x h = by (out d) refl h
  where
    by : (o : Option ℕ) → out d ≡ o → is o x ≡ true → x ≡ out_state d
    by None e g = absurd cc
    by (Some o) e g = rw e (sym (eqb-true o x g))

-- a load completes
pub load_fills : (d : Draft) → IsWellFormed d → IsShaped d → (n : ℕ) (w : Shown) (c p fin : ℕ) (late : Bool) (x : Datum) (core : ℕ → Core) (stay : List Datum) (written : List ℕ) (busy : Bool) (clean : ℕ → Bool)
    → IsFaithful d n w → c < n → suc p ≤ top_of w → (w.core c).pending ≡ true → (w.core c).last ≡ suc p → entry_at w.order p ≡ Txn c event.Load
    → IsDatum d (entry_at w.order) (state_at d n w) x → x.stamp ≡ suc p → requestor_end d (state_at d n w p) c event.Load ≡ fin
    → who (shown_entry d w (suc p)) c ≢ Other
    → ((e : ℕ) → e ≢ c → core e ≡ w.core e)
    → core c ≡ record (w.core c) { seen = suc p; pending = false; stand = Level fin; word = x.word; stamp = suc p }
    → EachIs (IsDatum d (entry_at w.order) (state_at d n w)) stay → EachIs (λ v. v ≡ (state_at d n w (top_of w)).word) written
    → ((shown_entry d w (top_of w)).owner ≡ None → busy ≡ false → w.memory ≡ (state_at d n w (top_of w)).word)
    → ((e : ℕ) → (shown_entry d w (top_of w)).owner ≡ Some e → clean e ≡ true → w.memory ≡ (state_at d n w (top_of w)).word)
    → IsFaithful d n (with_done (record w { core = core; replies = stay ++ []; written = written; busy = busy; clean = clean })
    (record { stamp = suc p; core = c; made = Loaded x.word; late = late }))
load_fills d whole s n w c p fin late x core stay written busy clean f inside low waits last entry is at ends holds same changed stays writes keeps cleans =
    load_done d whole s n w1 c (suc p) x.word late moved inside low (subst (λ (y : Core). suc p ≤ y.seen) (sym changed) (omega arith)) (ap (λ (y : Core). y.pending) changed) stamps_here holds word
  where
    w1 : Shown
    w1 = record w { core = core; replies = stay ++ []; written = written; busy = busy; clean = clean }

    stamps : StampedTo c p w.done
    stamps = (f.cores c inside).waits waits p (omega (arith, last))

    stamps_here : StampedTo c (suc p) w.done
    stamps_here = stamped_weaker c p (suc p) w.done (omega arith) stamps

    word : x.word ≡ (state_at d n w (suc p)).word
    word = (is p at).0

    here : state_of (state_at d n w (suc p)) c ≡ fin
    here = (granted d whole s n w c p event.Load f inside (omega (arith, low)) entry (λ q. cc q) stamps).0 ∙ ends

    told : IsTold d n w c (core c)
    told = subst (IsTold d n w c) (sym changed) (record {
      seen = stamps_here;
      waits = λ q b above. absurd (cc q);
      rises = (f.cores c inside).rises;
      tells = λ there. (here, word, refl);
    })

    moved : IsFaithful d n w1
    moved = lines_move d n w c core stay [] written w.memory busy clean f same told stays tt writes keeps cleans

-- The opening

none_group : (k m : ℕ) → by_core [] k m ≡ []
none_group k zero = refl
none_group k (suc m) = ap (λ (xs : List Step). xs ++ own [] k m) (none_group k m)

pub opens : (d : Draft) → IsWellFormed d → IsShaped d → (n : ℕ) (core : ℕ → Core) (clean : ℕ → Bool)
    → ((c : ℕ) → c < n → ((core c).stand ≡ Level (out_state d)) × ((core c).seen ≡ 0))
    → IsFaithful d n (record { order = []; done = []; core = core; replies = []; written = []; memory = 0; busy = false; clean = clean })
opens d whole s n core clean out = record {
  run = record { entries = λ j low. absurd (omega (arith, low)); groups = λ k low. group k (omega (arith, low)) };
  cores = λ c inside. record { seen = tt; waits = λ p b above. tt; rises = tt; tells = tells c (out c inside).0 (out c inside).1 };
  replies = tt;
  written = tt;
  memory = λ none free. word;
  clean = λ c owner claims. word;
}
  where
    w : Shown
    w = record { order = []; done = []; core = core; replies = []; written = []; memory = 0; busy = false; clean = clean }

    group : (k : ℕ) → k ≡ 0 → AreAllowed d (base d n (run_of n w) k) (by_core [] k n)
    group k z = subst (λ (xs : List Step). AreAllowed d (base d n (run_of n w) k) xs) (sym (none_group k n)) tt

    word : 0 ≡ (state_at d n w 0).word
    word = sym (ap (λ (xs : List Step). (after_steps d (initial_state d n) xs).word) (none_group 0 n))

    tells : (c : ℕ) → (core c).stand ≡ Level (out_state d) → (core c).seen ≡ 0 → Tells (shown_entry d w) (state_at d n w) c (core c).seen (core c).last (core c).word (core c).stamp (core c).stand
    tells c level seen = subst (λ (u : Stand). Tells (shown_entry d w) (state_at d n w) c (core c).seen (core c).last (core c).word (core c).stamp u) (sym level)
        (λ holds. absurd (subst (λ (k : ℕ). who (shown_entry d w k) c ≢ Other) seen holds refl))

-- The whole

pub serial_is : (d : Draft) (n : ℕ) (w : Shown) → IsFaithful d n w → IsBounded n w
    → IsRun d n (serial_of n w.order w.done) × ((c : ℕ) → c < n → accesses_of c (serial_of n w.order w.done) ≡ made_by c w.done)
serial_is d n w f b = (
  is_run d n (run_of n w) (top_of w) f.run,
  λ c inside. in_order n w.order w.done c inside (f.cores c inside).rises (stamped_weaker c (w.core c).seen (top_of w) w.done (b.views c inside) (f.cores c inside).seen),
)
