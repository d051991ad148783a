-- Where each step leads the state of each core.
use Rattle.std.proofs.Common.{◌≡◌, ◌≢◌, ℕ, ◌+◌, ◌<◌, ◌==◌, true, false, length, get_or, get_or-set_same, get_or-set_other, refl, sym, ap, ◌∙◌, arith}
use Rattle.std.proofs.lemmas.Bool.{eq-eqb}
use Rattle.pg_perm.specs.declared.kinds.Event.{Event}
use Rattle.pg_perm.specs.declared.kinds.Event.TheVariants as event
use Rattle.pg_perm.specs.declared.step.Step.TheVariants.{Txn, Store}
use Rattle.pg_perm.specs.declared.draft.Draft.{Draft}
use Rattle.pg_perm.specs.Drafts.{IsWellFormed}
use Rattle.pg_terms.specs.Terms.{cache_is}
use Rattle.pg_shape.specs.Shaped.{IsShaped}
use Rattle.pg_shape.specs.CoreRules.{is_dirty_writer}
use Rattle.pg_directory.specs.DirEntries.{Request}
use Rattle.pg_directory.specs.Sound.{IsLegal}
use Rattle.pg_atomic.specs.States.{State, state_of, next_by_forward, requestor_end, core_next, hit_next, after_transaction}
use Rattle.pg_atomic.specs.Steps.{may, needs_transaction, IsAllowed, after_step}
use Rattle.pg_atomic.specs.Safety.{IsSafe}
use Rattle.pg_atomic.proofs.Cores.{get_or-each_from}
use Rattle.pg_atomic.proofs.Legal.{legal_as}
use Rattle.pg_atomic.proofs.Transactions.{ends_fit}
use Rattle.pg_atomic.proofs.Accesses.{hit_is_dirty}
use Rattle.pg_atomic.proofs.Reached.{handled_at}
use Rattle.pg_atomic.proofs.Operations.{may_after, may_of}

-- a request that takes a transaction in a safe state may come
pub needed_is_legal : (d : Draft) (a : State) (q : Request) → IsShaped d → IsSafe d a → q.core < length a.states → needs_transaction d (state_of a q.core) q.event ≡ true
    → IsLegal d a.entry q
needed_is_legal d a q s safe inside need = legal_as d s a.entry.dir _ (state_of a q.core) q.event (safe.fits q.core inside) need

core_moves : (d : Draft) (a : State) (q : Request) (c : ℕ) → c < length a.states → state_of (after_transaction d a q) c ≡ core_next d a q c (state_of a c)
core_moves d a q c inside =
    let at_zero : 0 + c ≡ c = omega arith in
    get_or-each_from (core_next d a q) 0 a.states c 0 inside ∙ ap (λ (x : ℕ). core_next d a q x (get_or a.states c 0)) at_zero

pub requestor_moves : (d : Draft) (a : State) (q : Request) → q.core < length a.states → state_of (after_transaction d a q) q.core ≡ requestor_end d a q.core q.event
requestor_moves d a q inside =
    let own : core_next d a q q.core (state_of a q.core) ≡ requestor_end d a q.core q.event = rw (eq-eqb q.core q.core refl) refl in
    core_moves d a q q.core inside ∙ own

pub other_moves : (d : Draft) (a : State) (q : Request) (c : ℕ) → c < length a.states → (q.core == c) ≡ false
    → state_of (after_transaction d a q) c ≡ next_by_forward d a.entry q c (state_of a c)
other_moves d a q c inside apart =
    let other : core_next d a q c (state_of a c) ≡ next_by_forward d a.entry q c (state_of a c) = rw apart refl in
    core_moves d a q c inside ∙ other

-- the permission for which a transaction asks is there after it
pub transaction_grants : (d : Draft) (a : State) (c : ℕ) (e : Event) → IsWellFormed d → IsShaped d → IsSafe d a → IsAllowed d a (Txn c e) → e ≢ event.Evict
    → may d (state_of (after_step d a (Txn c e)) c) e ≡ true
transaction_grants d a c e whole s safe allowed asks =
    let q : Request = record { core = c; event = e } in
    let fit = ends_fit d s a c e safe (handled_at d whole s a q safe allowed.0 allowed.1) allowed.0 allowed.1 in
    may_after d whole s a c e safe allowed.0 allowed.1 (may_of d (requestor_end d a c e) e asks (fit.1 asks))

pub storer_moves : (d : Draft) (a : State) (c v : ℕ) → c < length a.states → state_of (after_step d a (Store c v)) c ≡ hit_next d (state_of a c)
storer_moves d a c v inside = get_or-set_same a.states c (hit_next d (state_of a c)) 0 inside

-- after a store its core is in a dirty owner that may write
pub store_leaves_dirty_owner : (d : Draft) (a : State) (c v : ℕ) → IsShaped d → IsSafe d a → IsAllowed d a (Store c v)
    → cache_is is_dirty_writer d (state_of (after_step d a (Store c v)) c) ≡ true
store_leaves_dirty_owner d a c v s safe allowed =
    ap (λ (x : ℕ). cache_is is_dirty_writer d x) (storer_moves d a c v allowed.0) ∙ hit_is_dirty d s a c safe allowed.0 allowed.1

-- and each other core is where it was
pub others_stay_at_store : (d : Draft) (a : State) (c v e : ℕ) → (c == e) ≡ false → state_of (after_step d a (Store c v)) e ≡ state_of a e
others_stay_at_store d a c v e apart = get_or-set_other a.states c e (hit_next d (state_of a c)) 0 (λ same. not_both apart (eq-eqb c e (sym same)))
  where
    not_both : (c == e) ≡ false → (c == e) ≡ true → ⊥
    not_both h g = absurd (cc (h, g))
