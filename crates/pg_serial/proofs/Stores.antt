-- A store that completes after a grant of which nothing was served.
use Rattle.std.proofs.Common.{◌≡◌, ◌≢◌, ℕ, ◌==◌, ◌<◌, ◌≤◌, inl, inr, Bool, true, false, List, [], ◌∷◌, ◌++◌, length, get_or-set_same, refl, sym, ap, subst, ◌∙◌, arith}
use Rattle.std.proofs.lemmas.Bool.{eqb-true, eq-eqb}
use Rattle.pg_perm.specs.declared.kinds.Event.TheVariants as event
use Rattle.pg_perm.specs.declared.kinds.Who.TheVariants.{Other}
use Rattle.pg_perm.specs.declared.draft.Draft.{Draft}
use Rattle.pg_perm.specs.Drafts.{IsWellFormed}
use Rattle.pg_shape.specs.Shaped.{IsShaped}
use Rattle.pg_directory.specs.DirEntries.{who}
use Rattle.pg_atomic.specs.States.{State, state_of, hit_next}
use Rattle.pg_atomic.specs.Steps.{may}
use Rattle.pg_serial.specs.Groups.{IsStored}
use Rattle.pg_serial.specs.Serial.{Done, Stored, by_core, entry_at, StampedTo}
use Rattle.pg_serial.specs.Faithful.{Stand, Level, Core, Shown, Change, stored, run_of, top_of, shown_entry, state_at, Tells, IsTold, IsDatum, EachIs, IsFaithful, IsGranted, IsAlone}
use Rattle.pg_serial.proofs.Runs.{good_at}
use Rattle.pg_serial.proofs.Suffix.{store_in}
use Rattle.pg_serial.proofs.Newest.{fresh}
use Rattle.pg_serial.proofs.Places.{placed, has_accesses}
use Rattle.pg_serial.proofs.Own.{rises_more, stamped_more}
use Rattle.pg_serial.proofs.Frames.{tells_keep, datum_keep, each_is, each_both}

pub each_is-append : {X : Type 0} (P : X → Type 0) (xs ys : List X) → EachIs P xs → EachIs P ys → EachIs P (xs ++ ys)
each_is-append P [] ys h g = g
each_is-append P (x ∷ xs) ys h g = (h.0, each_is-append P xs ys h.1 g)

pub stamped_weaker : (c a b : ℕ) (done : List Done) → a ≤ b → StampedTo c a done → StampedTo c b done
stamped_weaker c a b [] low s = tt
stamped_weaker c a b (x ∷ xs) low s = (λ e. omega (arith, s.0 e, low), stamped_weaker c a b xs low s.1)

-- the accesses of who was granted are up to the grant
pub stamped_at_grant : (d : Draft) (n : ℕ) (w : Shown) (g c : ℕ) → IsFaithful d n w → IsGranted d n w g c → StampedTo c g w.done
stamped_at_grant d n w g c f h = elim h.at_grant [
  | inl p ↦ (f.cores c h.inside).waits p.0 g (omega (arith, p.1))
  | inr q ↦ subst (λ (i : ℕ). StampedTo c i w.done) q (f.cores c h.inside).seen
]

pub store_done : (d : Draft) → IsWellFormed d → IsShaped d → (n : ℕ) (w : Shown) (u : Change) (g c v : ℕ) (late : Bool)
    → IsFaithful d n w → IsGranted d n w g c → IsAlone d n w u g c v → may d (state_of (state_at d n w g) c) event.Store ≡ true
    → g ≤ (u.core c).seen → (u.core c).pending ≡ false
    → let w2 : Shown = stored w u (record { stamp = g; core = c; made = Stored v; late = late }) in
    (IsStored d n (run_of n w) (run_of n w2) g (top_of w) c v
    → Tells (shown_entry d w2) (state_at d n w2) c (u.core c).seen (u.core c).last (u.core c).word (u.core c).stamp (u.core c).stand
    × EachIs (IsDatum d (entry_at w.order) (state_at d n w2)) u.sent)
    → IsFaithful d n w2
store_done d whole s n w u g c v late f h alone writes above idle own = record {
  run = kept.run;
  cores = λ e there. by e there (e == c) refl;
  replies = each_is-append (IsDatum d (entry_at w.order) (state_at d n w2)) u.stay u.sent stays (own kept).1;
  written = each_is (λ z. z ≡ v) (λ z. z ≡ (state_at d n w2 (top_of w)).word) u.written (λ z is. is ∙ sym (kept.words (top_of w) h.low (omega arith))) alone.written;
  memory = λ none free. absurd (alone.owned none free);
  clean = λ e owner claims. absurd (alone.dirty e owner claims);
}
  where
    x : Done
    x = record { stamp = g; core = c; made = Stored v; late = late }

    w2 : Shown
    w2 = stored w u x

    kept : IsStored d n (run_of n w) (run_of n w2) g (top_of w) c v
    kept = store_in d whole s n (run_of n w) (top_of w) f.run (has_accesses n w.order w.done) g h.low (fresh d whole s n w g c f h) (λ j. by_core (w.done ++ x ∷ []) j n) c v h.inside writes (placed n w.done x h.inside)

    below : (k : ℕ) → k < g → state_at d n w2 k ≡ state_at d n w k
    below k low = kept.before k low

    stays : EachIs (IsDatum d (entry_at w.order) (state_at d n w2)) u.stay
    stays = each_both (λ m. m.stamp < g) (IsDatum d (entry_at w.order) (state_at d n w)) (IsDatum d (entry_at w.order) (state_at d n w2)) u.stay
        (λ m low is. datum_keep d (entry_at w.order) (entry_at w.order) (state_at d n w) (state_at d n w2) (λ k. k < g) m below (λ j at. (refl, omega (arith, at, low), omega (arith, at, low))) is) alone.stay alone.told

    stamps : StampedTo c g w.done
    stamps = stamped_at_grant d n w g c f h

    own_told : IsTold d n w2 c (u.core c)
    own_told = record {
      seen = stamped_more c (u.core c).seen w.done x (stamped_weaker c g (u.core c).seen w.done above stamps) (λ q. above);
      waits = λ p b low. absurd (cc (p, idle));
      rises = rises_more c 0 w.done x (f.cores c h.inside).rises (λ q. (omega arith, stamps));
      tells = (own kept).0;
    }

    other_told : (e : ℕ) → e < n → e ≢ c → IsTold d n w2 e (w.core e)
    other_told e there apart =
        let t : IsTold d n w e (w.core e) = f.cores e there in
        record {
          seen = stamped_more e (w.core e).seen w.done x t.seen (λ q. absurd (apart (sym q)));
          waits = λ p b low. stamped_more e b w.done x (t.waits p b low) (λ q. absurd (apart (sym q)));
          rises = rises_more e 0 w.done x t.rises (λ q. absurd (apart (sym q)));
          tells = tells_keep (shown_entry d w) (shown_entry d w2) (state_at d n w) (state_at d n w2) (λ k. k < g) e (w.core e).seen (w.core e).last (w.core e).word (w.core e).stamp (w.core e).stand
              refl (λ j is. refl) below (alone.others e there apart) t.tells;
        }

    by : (e : ℕ) → e < n → (b : Bool) → (e == c) ≡ b → IsTold d n w2 e (u.core e)
    by e there true is = subst (λ (i : ℕ). IsTold d n w2 i (u.core i)) (sym (eqb-true e c is)) own_told
    by e there false is =
        let apart : e ≢ c = λ q. let y = eq-eqb e c q in cc (y, is) in
        subst (IsTold d n w2 e) (sym (alone.same e apart)) (other_told e there apart)

-- a store that hits: its core stands at its grant
pub hit_store : (d : Draft) → IsWellFormed d → IsShaped d → (n : ℕ) (w : Shown) (u : Change) (c st v : ℕ)
    → IsFaithful d n w → IsGranted d n w (w.core c).seen c → IsAlone d n w u (w.core c).seen c v → (w.core c).stand ≡ Level st → who (shown_entry d w (w.core c).seen) c ≢ Other
    → may d st event.Store ≡ true → u.sent ≡ [] → u.core c ≡ record (w.core c) { stand = Level (hit_next d st); word = v; pending = false }
    → IsFaithful d n (stored w u (record { stamp = (w.core c).stamp; core = c; made = Stored v; late = false }))
hit_store d whole s n w u c st v f h alone level holds writes none changed =
    subst (λ (k : ℕ). IsFaithful d n (stored w u (record { stamp = k; core = c; made = Stored v; late = false }))) (sym is_stamp)
    (store_done d whole s n w u g c v false f h alone may_write (omega (arith, seen)) (ap (λ (y : Core). y.pending) changed) own)
  where
    g : ℕ
    g = (w.core c).seen

    tells : Tells (shown_entry d w) (state_at d n w) c (w.core c).seen (w.core c).last (w.core c).word (w.core c).stamp (Level st)
    tells = subst (λ (y : Stand). Tells (shown_entry d w) (state_at d n w) c (w.core c).seen (w.core c).last (w.core c).word (w.core c).stamp y) level (f.cores c h.inside).tells

    exact : state_of (state_at d n w g) c ≡ st
    exact = (tells holds).0

    is_stamp : (w.core c).stamp ≡ g
    is_stamp = (tells holds).2

    seen : (u.core c).seen ≡ g
    seen = ap (λ (y : Core). y.seen) changed

    may_write : may d (state_of (state_at d n w g) c) event.Store ≡ true
    may_write = ap (λ (y : ℕ). may d y event.Store) exact ∙ writes

    w2 : Shown
    w2 = stored w u (record { stamp = g; core = c; made = Stored v; late = false })

    there : c < length (state_at d n w g).states
    there = omega (arith, h.inside, (good_at d whole s n (run_of n w) (top_of w) f.run g h.low).1.1)

    own : IsStored d n (run_of n w) (run_of n w2) g (top_of w) c v
        → Tells (shown_entry d w2) (state_at d n w2) c (u.core c).seen (u.core c).last (u.core c).word (u.core c).stamp (u.core c).stand
        × EachIs (IsDatum d (entry_at w.order) (state_at d n w2)) u.sent
    own kept = (
      subst (λ (y : Core). Tells (shown_entry d w2) (state_at d n w2) c y.seen y.last y.word y.stamp y.stand) (sym changed)
          (λ held. (
            ap (λ (a : State). state_of a c) kept.here ∙ get_or-set_same (state_at d n w g).states c (hit_next d (state_of (state_at d n w g) c)) 0 there ∙ ap (hit_next d) exact,
            sym (kept.words g (omega arith) h.low),
            is_stamp,
          )),
      subst (EachIs (IsDatum d (entry_at w.order) (state_at d n w2))) (sym none) tt,
    )
