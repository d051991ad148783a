-- A load that completes leaves all that is said of the run.
use Rattle.std.proofs.Common.{◌≡◌, ◌≢◌, ℕ, ◌==◌, ◌<◌, ◌≤◌, Bool, true, false, [], ◌∷◌, ◌++◌, refl, sym, ap, subst, ◌∙◌, arith}
use Rattle.pg_perm.specs.declared.kinds.Event.TheVariants as event
use Rattle.pg_perm.specs.declared.kinds.Who.{Who}
use Rattle.pg_perm.specs.declared.kinds.Who.TheVariants.{Other}
use Rattle.pg_perm.specs.declared.draft.Draft.{Draft}
use Rattle.pg_perm.specs.Drafts.{IsWellFormed}
use Rattle.pg_shape.specs.Shaped.{IsShaped}
use Rattle.pg_directory.specs.DirEntries.{DirEntry, who}
use Rattle.pg_directory.specs.Sound.{fits, fits_as}
use Rattle.pg_atomic.specs.States.{State}
use Rattle.pg_atomic.specs.Steps.{may}
use Rattle.pg_atomic.proofs.Fits.{out_loads}
use Rattle.pg_serial.specs.Groups.{IsLoaded}
use Rattle.pg_serial.specs.Serial.{Done, Loaded, by_core, entry_at, StampedTo}
use Rattle.pg_serial.specs.Faithful.{Stand, Level, Shown, run_of, top_of, shown_entry, state_at, Tells, IsTold, IsFaithful, with_done}
use Rattle.pg_serial.proofs.Insert.{load_in}
use Rattle.pg_serial.proofs.Places.{placed, has_accesses}
use Rattle.pg_serial.proofs.Own.{rises_more, stamped_more}
use Rattle.pg_serial.proofs.Frames.{tells_keep, looks_all, datum_keep, each_is}

pub load_done : (d : Draft) → IsWellFormed d → IsShaped d → (n : ℕ) (w : Shown) (c k v : ℕ) (late : Bool) → IsFaithful d n w → c < n → k ≤ top_of w → k ≤ (w.core c).seen
    → (w.core c).pending ≡ false → StampedTo c k w.done → who (shown_entry d w k) c ≢ Other → v ≡ (state_at d n w k).word
    → IsFaithful d n (with_done w (record { stamp = k; core = c; made = Loaded v; late = late }))
load_done d whole s n w c k v late f inside low seen idle stamps holds is_word = record {
  run = loaded.run;
  cores = λ e there. by e there (e == c) refl;
  replies = each_is _ _ w.replies (λ m is. datum_keep d (entry_at w.order) (entry_at w.order) (state_at d n w) (state_at d n w2) (λ k. Unit {0}) m (λ k all. loaded.states k) (λ j at. (refl, tt, tt)) is) f.replies;
  written = each_is _ _ w.written (λ m is. is ∙ ap (λ (a : State). a.word) (sym (loaded.states (top_of w)))) f.written;
  memory = λ none free. f.memory none free ∙ ap (λ (a : State). a.word) (sym (loaded.states (top_of w)));
  clean = λ e owner claims. f.clean e owner claims ∙ ap (λ (a : State). a.word) (sym (loaded.states (top_of w)));
}
  where
    x : Done
    x = record { stamp = k; core = c; made = Loaded v; late = late }

    w2 : Shown
    w2 = with_done w x

    loaded : IsLoaded d n (run_of n w) (record (run_of n w) { group = λ j. by_core (w.done ++ x ∷ []) j n }) (top_of w)
    loaded = load_in d whole s n (run_of n w) (top_of w) f.run (has_accesses n w.order w.done) k low (λ j. by_core (w.done ++ x ∷ []) j n) c v inside holds is_word (placed n w.done x inside)

    told : (e : ℕ) → IsTold d n w e (w.core e) → (c ≡ e → (k ≤ (w.core e).seen) × ((w.core e).pending ≡ false) × StampedTo e k w.done) → IsTold d n w2 e (w.core e)
    told e t own = record {
      seen = stamped_more e (w.core e).seen w.done x t.seen (λ q. (own q).0);
      waits = λ p b above. stamped_more e b w.done x (t.waits p b above) (λ q. absurd (let i = (own q).1 in cc (p, i)));
      rises = rises_more e 0 w.done x t.rises (λ q. (omega arith, (own q).2));
      tells = tells_keep (shown_entry d w) (shown_entry d w2) (state_at d n w) (state_at d n w2) (λ k. Unit {0}) e (w.core e).seen (w.core e).last (w.core e).word (w.core e).stamp (w.core e).stand
          refl (λ j is. refl) (λ k all. loaded.states k) (looks_all (λ k. Unit {0}) (shown_entry d w) e (w.core e).seen (w.core e).last (w.core e).stand (λ k. tt)) t.tells;
    }

    by : (e : ℕ) → e < n → (b : Bool) → (e == c) ≡ b → IsTold d n w2 e (w.core e)
    by e there b is = told e (f.cores e there) (λ q. subst (λ (i : ℕ). (k ≤ (w.core i).seen) × ((w.core i).pending ≡ false) × StampedTo i k w.done) q (seen, idle, stamps))

-- a core that may read holds something
pub reader_holds : (d : Draft) → IsShaped d → (t : DirEntry) (c x : ℕ) → fits d t c x ≡ true → may d x event.Load ≡ true → who t c ≢ Other
reader_holds d s t c x fit reads is =
    let out = subst (λ (u : Who). fits_as d t.dir u x ≡ true) is fit in
    let l = out_loads d s x out in cc (l, reads)

-- a load that hits
pub hit_load : (d : Draft) → IsWellFormed d → IsShaped d → (n : ℕ) (w : Shown) (c st : ℕ) → IsFaithful d n w → c < n → (w.core c).stand ≡ Level st
    → (w.core c).pending ≡ false → (w.core c).seen ≤ top_of w → fits d (shown_entry d w (w.core c).seen) c st ≡ true → may d st event.Load ≡ true
    → IsFaithful d n (with_done w (record { stamp = (w.core c).stamp; core = c; made = Loaded (w.core c).word; late = false }))
hit_load d whole s n w c st f inside level idle low fit reads =
    let t : IsTold d n w c (w.core c) = f.cores c inside in
    let holds = reader_holds d s (shown_entry d w (w.core c).seen) c st fit reads in
    let tells = subst (λ (u : Stand). Tells (shown_entry d w) (state_at d n w) c (w.core c).seen (w.core c).last (w.core c).word (w.core c).stamp u) level t.tells in
    let (state, is_word, is_stamp) = tells holds in
    subst (λ (k : ℕ). IsFaithful d n (with_done w (record { stamp = k; core = c; made = Loaded (w.core c).word; late = false }))) (sym is_stamp)
    (load_done d whole s n w c (w.core c).seen (w.core c).word false f inside low (omega arith) idle t.seen holds is_word)
