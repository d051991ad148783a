-- Runs, and the steps of operations.
use Rattle.pg_terms.specs.Rows.{allows}
use Rattle.pg_terms.specs.Terms.{cache_is}
use Rattle.std.proofs.lemmas.List.{length-replicate}
use Rattle.std.proofs.Common.{◌≡◌, ◌≢◌, ℕ, ◌+◌, ◌<◌, true, false, Bool, List, [], ◌∷◌, ◌++◌, length, get_or, refl, ap, ◌∙◌, arith}
use Rattle.std.specs.Prelude.{not, if◌then◌else◌}
use Rattle.std.proofs.lemmas.Bool.{eq-eqb}
use Rattle.pg_perm.specs.declared.kinds.Event.{Event}
use Rattle.pg_perm.specs.declared.kinds.Event.TheVariants as event
use Rattle.pg_perm.specs.declared.kinds.Op.{Op}
use Rattle.pg_perm.specs.declared.kinds.Op.TheVariants as op
use Rattle.pg_perm.specs.declared.step.Step.{Step}
use Rattle.pg_perm.specs.declared.step.Step.TheVariants.{Txn, Load, Store}
use Rattle.pg_perm.specs.declared.draft.Draft.{Draft}
use Rattle.pg_perm.specs.Drafts.{IsWellFormed}
use Rattle.pg_shape.specs.Shaped.{IsShaped}
use Rattle.pg_directory.specs.DirEntries.{Request}
use Rattle.pg_atomic.specs.States.{State, state_of, initial_state, requestor_end, core_next}
use Rattle.pg_atomic.specs.Steps.{may, needs_transaction, after_step, after_steps, AreAllowed, IsRun, IsReached}
use Rattle.pg_atomic.specs.Scripts.{op_steps, steps_of, AreOfCores}
use Rattle.pg_atomic.specs.Safety.{IsSafe}
use Rattle.pg_atomic.proofs.Cores.{length-each_from, get_or-each_from}
use Rattle.pg_atomic.proofs.Transactions.{ends_fit}
use Rattle.pg_atomic.proofs.Reached.{handled_at, safe_initial_state, safe_steps, runs_safely}

-- steps after steps
pub allowed-append : (d : Draft) (a : State) (xs ys : List Step) → AreAllowed d a xs → AreAllowed d (after_steps d a xs) ys → AreAllowed d a (xs ++ ys)
allowed-append d a [] ys h g = g
allowed-append d a (x ∷ xs) ys h g = (h.0, allowed-append d (after_step d a x) xs ys h.1 g)

pub after-append : (d : Draft) (a : State) (xs ys : List Step) → after_steps d a (xs ++ ys) ≡ after_steps d (after_steps d a xs) ys
after-append d a [] ys = refl
after-append d a (x ∷ xs) ys = after-append d (after_step d a x) xs ys

-- the requestor has the permission afterwards
pub may_after : (d : Draft) → IsWellFormed d → IsShaped d → (a : State) (c : ℕ) (e : Event) → IsSafe d a → c < length a.states → needs_transaction d (state_of a c) e ≡ true
    → (may d (requestor_end d a c e) e ≡ true) → may d (state_of (after_step d a (Txn c e)) c) e ≡ true
may_after d whole s a c e safe inside need ends =
    let q : Request = record { core = c; event = e } in
    let at_zero : 0 + c ≡ c = omega arith in
    let same : state_of (after_step d a (Txn c e)) c ≡ core_next d a q c (state_of a c) =
    get_or-each_from (core_next d a q) 0 a.states c 0 inside ∙ ap (λ (x : ℕ). core_next d a q x (get_or a.states c 0)) at_zero in
    let own : core_next d a q c (state_of a c) ≡ requestor_end d a c e = rw (eq-eqb c c refl) refl in
    ap (λ (x : ℕ). may d x e) (same ∙ own) ∙ ends

inside_after : (d : Draft) (a : State) (c : ℕ) (e : Event) → c < length a.states → c < length (after_step d a (Txn c e)).states
inside_after d a c e inside = omega (arith, inside, length-each_from (core_next d a (record { core = c; event = e })) 0 a.states)

pub may_of : (d : Draft) (x : ℕ) (e : Event) → e ≢ event.Evict → cache_is (allows e) d x ≡ true → may d x e ≡ true
may_of d x event.Load asks h = h
may_of d x event.Store asks h = h
may_of d x event.Evict asks h = absurd (asks refl)

-- a load or a store that takes a transaction may be made after it
pub permits : (d : Draft) (a : State) (c : ℕ) (e : Event) → IsWellFormed d → IsShaped d → IsReached d (length a.states) a → c < length a.states
    → needs_transaction d (state_of a c) e ≡ true → e ≢ event.Evict → may d (state_of (after_step d a (Txn c e)) c) e ≡ true
permits d a c e whole s reached inside need asks =
    let safe = (runs_safely d (length a.states) a whole s reached).safe in
    let q : Request = record { core = c; event = e } in
    let fit = ends_fit d s a c e safe (handled_at d whole s a q safe inside need) inside need in
    may_after d whole s a c e safe inside need (may_of d (requestor_end d a c e) e asks (fit.1 asks))

lacks : (b : Bool) → b ≡ false → not b ≡ true
lacks b h = ap not h

-- the steps of an operation may be taken
pub op_allowed : (d : Draft) → IsWellFormed d → IsShaped d → (a : State) (c : ℕ) (o : Op) → IsSafe d a → c < length a.states → AreAllowed d a (op_steps d a c o)
op_allowed d whole s a c op.Load safe inside = by (may d (state_of a c) event.Load) refl
  where
    by : (b : Bool) → may d (state_of a c) event.Load ≡ b → AreAllowed d a (if b then Load c a.word ∷ [] else Txn c event.Load ∷ Load c a.word ∷ [])
    by true h = ((inside, h, refl), tt)
    by false h =
        let q : Request = record { core = c; event = event.Load } in
        let need : needs_transaction d (state_of a c) event.Load ≡ true = lacks _ h in
        let fit = ends_fit d s a c event.Load safe (handled_at d whole s a q safe inside need) inside need in
        ((inside, need), ((inside_after d a c event.Load inside, may_after d whole s a c event.Load safe inside need (fit.1 (λ e. absurd (cc e))), refl), tt))
op_allowed d whole s a c (op.Store v) safe inside = by (may d (state_of a c) event.Store) refl
  where
    by : (b : Bool) → may d (state_of a c) event.Store ≡ b → AreAllowed d a (if b then Store c v ∷ [] else Txn c event.Store ∷ Store c v ∷ [])
    by true h = ((inside, h), tt)
    by false h =
        let q : Request = record { core = c; event = event.Store } in
        let need : needs_transaction d (state_of a c) event.Store ≡ true = lacks _ h in
        let fit = ends_fit d s a c event.Store safe (handled_at d whole s a q safe inside need) inside need in
        ((inside, need), ((inside_after d a c event.Store inside, may_after d whole s a c event.Store safe inside need (fit.1 (λ e. absurd (cc e)))), tt))
op_allowed d whole s a c op.Evict safe inside = by (may d (state_of a c) event.Evict) refl
  where
    by : (b : Bool) → may d (state_of a c) event.Evict ≡ b → AreAllowed d a (if b then Txn c event.Evict ∷ [] else [])
    by true h = ((inside, h), tt)
    by false h = tt

pub ops_allowed : (d : Draft) → IsWellFormed d → IsShaped d → (a : State) (n : ℕ) (ops : List (ℕ × Op)) → IsSafe d a → length a.states ≡ n → AreOfCores n ops
    → AreAllowed d a (steps_of d a ops)
ops_allowed d whole s a n [] safe cores of = tt
ops_allowed d whole s a n (o ∷ ops) safe cores of =
    let inside : o.0 < length a.states = omega (arith, of.0, cores) in
    let here = op_allowed d whole s a o.0 o.1 safe inside in
    let p = safe_steps d whole s a (op_steps d a o.0 o.1) safe here in
    allowed-append d a (op_steps d a o.0 o.1) _ here
    (ops_allowed d whole s (after_steps d a (op_steps d a o.0 o.1)) n ops p.0 (p.1 ∙ cores) of.1)

pub runs_of : (d : Draft) (n : ℕ) (ops : List (ℕ × Op)) → IsWellFormed d → IsShaped d → AreOfCores n ops → IsRun d n (steps_of d (initial_state d n) ops)
runs_of d n ops whole s of = ops_allowed d whole s (initial_state d n) n ops (safe_initial_state d whole s n) (length-opening d n) of
  where
    length-opening : (d : Draft) (n : ℕ) → length (initial_state d n).states ≡ n
    length-opening d n = length-replicate n _
