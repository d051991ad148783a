-- Behind a grant of which nothing was served no access is placed.
use Rattle.std.proofs.Common.{◌≡◌, ℕ, zero, suc, ◌==◌, ◌<◌, ◌≤◌, ◌⊎◌, inl, inr, Bool, true, false, List, [], ◌∷◌, ◌++◌, length, refl, sym, ap, subst, ◌∙◌, arith, cond}
use Rattle.std.specs.Prelude.{◌&&◌, map}
use Rattle.std.specs.List.{filter}
use Rattle.std.proofs.lemmas.Bool.{eqb-true}
use Rattle.pg_perm.specs.declared.kinds.Event.TheVariants as event
use Rattle.pg_perm.specs.declared.kinds.Who.{Who}
use Rattle.pg_perm.specs.declared.kinds.Who.TheVariants.{Other, Sharer, Owner}
use Rattle.pg_perm.specs.declared.step.Step.{Step}
use Rattle.pg_perm.specs.declared.step.Step.TheVariants.{Txn, Stale, Load, Store}
use Rattle.pg_perm.specs.declared.draft.Draft.{Draft}
use Rattle.pg_perm.specs.Drafts.{IsWellFormed}
use Rattle.pg_shape.specs.Shaped.{IsShaped}
use Rattle.pg_directory.specs.DirEntries.{DirEntry, who}
use Rattle.pg_atomic.specs.States.{State, state_of}
use Rattle.pg_atomic.specs.Steps.{may, AreAllowed, after_steps}
use Rattle.pg_atomic.proofs.Fits.{out_loads, out_stores}
use Rattle.pg_serial.specs.Groups.{Groups, base, IsRunTo, dir_entry_after, Each, IsAccessOf, IsFresh}
use Rattle.pg_serial.specs.Serial.{Entry, Done, done_step, stands, own, by_core, entry_at, groups, StampedTo}
use Rattle.pg_serial.specs.Faithful.{Shown, run_of, top_of, shown_entry, IsFaithful, IsGranted}
use Rattle.pg_serial.proofs.Runs.{IsGood, good_steps, good_at, directory_at, directory_accesses}
use Rattle.pg_serial.proofs.Insert.{allowed_first, allowed_rest}
use Rattle.pg_serial.proofs.Places.{own_each, by_core_each, has_accesses}
use Rattle.pg_serial.proofs.Suffix.{out_at}

-- none above the stamps
pub own_above : (done : List Done) (c b k : ℕ) → StampedTo c b done → b < k → own done k c ≡ []
own_above [] c b k s more = refl
own_above (x ∷ xs) c b k s more = by (x.core == c) refl (x.stamp == k) refl (own_above xs c b k s.1 more)
  where
    by : (t : Bool) → (x.core == c) ≡ t → (u : Bool) → (x.stamp == k) ≡ u → own xs k c ≡ []
        → map done_step (cond (t && u) (x ∷ filter (stands k c) xs) (filter (stands k c) xs)) ≡ []
    by false e u g rest = rest
    by true e false g rest = rest
    by true e true g rest = absurd (omega (arith, s.0 (eqb-true x.core c e), eqb-true x.stamp k g, more))

pub by_core_none : (done : List Done) (k m : ℕ) → ((c : ℕ) → c < m → own done k c ≡ []) → by_core done k m ≡ []
by_core_none done k zero none = refl
by_core_none done k (suc m) none =
    ap (λ (xs : List Step). xs ++ own done k m) (by_core_none done k m (λ c low. none c (omega (arith, low)))) ∙ none m (omega arith)

-- the accesses of a group are allowed core by core
group_first : (d : Draft) (a : State) (done : List Done) (k m n : ℕ) → m ≤ n → AreAllowed d a (by_core done k n) → AreAllowed d a (by_core done k m)
group_first d a done k m zero low allowed = let z : m ≡ zero = omega (arith, low) in rw z allowed
group_first d a done k m (suc n) low allowed = let split : (m ≡ suc n) ⊎ (m ≤ n) = search (arith, low) in elim split [
  | inl all ↦ rw all allowed
  | inr less ↦ group_first d a done k m n less (allowed_first d a (by_core done k n) (own done k n) allowed)
]

-- a core that holds nothing makes none
none_outside : (d : Draft) → IsShaped d → (n : ℕ) (a : State) (c : ℕ) (xs : List Step) → IsGood d n a → c < n → who a.entry c ≡ Other
    → AreAllowed d a xs → Each (IsAccessOf (λ e. e ≡ c)) xs → xs ≡ []
none_outside d s n a c [] good inside nothing allowed each = refl
none_outside d s n a c (Txn e ev ∷ xs) good inside nothing allowed each = absurd each.0
none_outside d s n a c (Stale e ∷ xs) good inside nothing allowed each = absurd each.0
none_outside d s n a c (Load e v ∷ xs) good inside nothing allowed each =
    let l = out_loads d s (state_of a c) (out_at d n a c good inside nothing) in
    let m = subst (λ (i : ℕ). may d (state_of a i) event.Load ≡ true) each.0 allowed.0.1 in absurd (cc (l, m))
none_outside d s n a c (Store e v ∷ xs) good inside nothing allowed each =
    let l = out_stores d s (state_of a c) (out_at d n a c good inside nothing) in
    let m = subst (λ (i : ℕ). may d (state_of a i) event.Store ≡ true) each.0 allowed.0.1 in absurd (cc (l, m))

own_outside : (d : Draft) → IsWellFormed d → IsShaped d → (n : ℕ) (order : List Entry) (done : List Done) → IsRunTo d n (groups n order done) (length order)
    → (k c : ℕ) → k ≤ length order → c < n → who (dir_entry_after d (entry_at order) k) c ≡ Other → own done k c ≡ []
own_outside d whole s n order done r k c low inside nothing =
    let g : Groups = groups n order done in
    let a : State = base d n g k in
    let good : IsGood d n a = (good_at d whole s n g (length order) r k low).0 in
    let both : AreAllowed d a (by_core done k (suc c)) = group_first d a done k (suc c) n (omega (arith, inside)) (r.groups k low) in
    let place : State = after_steps d a (by_core done k c) in
    let there : IsGood d n place = good_steps d whole s n a (by_core done k c) good (allowed_first d a (by_core done k c) (own done k c) both) in
    let directory : place.entry ≡ dir_entry_after d (entry_at order) k = directory_accesses d (λ e. Unit {0}) a (by_core done k c) (by_core_each done k c) ∙ (directory_at d n g (has_accesses n order done) k).0 in
    none_outside d s n place c (own done k c) there inside (ap (λ (t : DirEntry). who t c) directory ∙ nothing)
    (allowed_rest d a (by_core done k c) (own done k c) both) (own_each (λ e. e ≡ c) done k c refl)

pub fresh : (d : Draft) → IsWellFormed d → IsShaped d → (n : ℕ) (w : Shown) (g c : ℕ) → IsFaithful d n w → IsGranted d n w g c → IsFresh d n (run_of n w) g (top_of w)
fresh d whole s n w g c f h = record { newest = λ j more. by_core_none w.done j n (λ e inside. none j e more inside); asks = h.asks }
  where
    -- of a core that holds something there
    own_holds : (b e : ℕ) → g ≤ b → e < n → (e ≡ c) ⊎ (((w.core e).pending ≡ true) × ((w.core e).last ≤ suc b)) → own w.done (suc b) e ≡ []
    own_holds b e more inside (inr p) = own_above w.done e b (suc b) ((f.cores e inside).waits p.0 b p.1) (omega arith)
    own_holds b e more inside (inl same) = subst (λ (i : ℕ). own w.done (suc b) i ≡ []) (sym same) (elim h.at_grant [
      | inl p ↦ own_above w.done c b (suc b) ((f.cores c h.inside).waits p.0 b (omega (arith, p.1, more))) (omega arith)
      | inr q ↦ own_above w.done c g (suc b) (subst (λ (i : ℕ). StampedTo c i w.done) q (f.cores c h.inside).seen) (omega (arith, more))
    ])

    by_who : (b e : ℕ) → g ≤ b → suc b ≤ top_of w → e < n → (v : Who) → who (shown_entry d w (suc b)) e ≡ v → own w.done (suc b) e ≡ []
    by_who b e more low inside Other is = own_outside d whole s n w.order w.done f.run (suc b) e low inside is
    by_who b e more low inside Sharer is = own_holds b e more inside (h.holders e (suc b) inside (omega (arith, more)) low (λ q. cc (is, q)))
    by_who b e more low inside Owner is = own_holds b e more inside (h.holders e (suc b) inside (omega (arith, more)) low (λ q. cc (is, q)))

    none : (j e : ℕ) → g < j → e < n → own w.done j e ≡ []
    none zero e more inside = absurd (omega (arith, more))
    none (suc b) e more inside = let split : (suc b ≤ top_of w) ⊎ (top_of w < suc b) = search arith in elim split [
      | inl low ↦ by_who b e (omega (arith, more)) low inside (who (shown_entry d w (suc b)) e) refl
      | inr high ↦ own_above w.done e (w.core e).seen (suc b) (f.cores e inside).seen (omega (arith, high, h.views e inside))
    ]
