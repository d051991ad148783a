-- The steps of the atomic machine, and its runs.
use Rattle.std.specs.Prelude.{ℕ, ◌≡◌, ◌<◌, Bool, true, not, List, [], ◌∷◌, length, set}
use Rattle.pg_perm.specs.declared.kinds.Event.{Event}
use Rattle.pg_perm.specs.declared.kinds.Event.TheVariants as event
use Rattle.pg_perm.specs.declared.step.Step.{Step}
use Rattle.pg_perm.specs.declared.step.Step.TheVariants.{Txn, Stale, Load, Store}
use Rattle.pg_perm.specs.declared.draft.Draft.{Draft}
use Rattle.pg_terms.specs.Terms.{is, out, cache_is}
use Rattle.pg_terms.specs.Rows.{allows}
use Rattle.pg_directory.specs.DirEntries.{Request}
use Rattle.pg_atomic.specs.States.{State, state_of, initial_state, after_transaction, hit_next}

-- a core in this state has the permission for a load or a store, or has something to evict
abbrev pub may : Draft → ℕ → Event → Bool
may d x event.Load = cache_is (allows event.Load) d x
may d x event.Store = cache_is (allows event.Store) d x
may d x event.Evict = not (is (out d) x)

-- it takes a transaction: the permission for a load or a store is lacking, or there is something to evict
abbrev pub needs_transaction : Draft → ℕ → Event → Bool
needs_transaction d x event.Load = not (may d x event.Load)
needs_transaction d x event.Store = not (may d x event.Store)
needs_transaction d x event.Evict = may d x event.Evict

-- the step may be taken: a transaction that it takes, an evict of a core that holds nothing, a load of the word by a core that may read, and a
-- store by one that may write; the word is any number here, where the code has words of 32 bits
abbrev pub IsAllowed : Draft → State → Step → Type 0
IsAllowed d a (Txn c e) = (c < length a.states) × (needs_transaction d (state_of a c) e ≡ true)
IsAllowed d a (Stale c) = (c < length a.states) × (is (out d) (state_of a c) ≡ true)
IsAllowed d a (Load c v) = (c < length a.states) × (may d (state_of a c) event.Load ≡ true) × (v ≡ a.word)
IsAllowed d a (Store c v) = (c < length a.states) × (may d (state_of a c) event.Store ≡ true)

-- the state that it leads to; a store sets the word, and moves its core where a store that hits leads
abbrev pub after_step : Draft → State → Step → State
after_step d a (Txn c e) = after_transaction d a (record { core = c; event = e })
after_step d a (Stale c) = a
after_step d a (Load c v) = a
after_step d a (Store c v) = record a { states = set a.states c (hit_next d (state_of a c)); word = v }

abbrev pub after_steps : Draft → State → List Step → State
after_steps d a [] = a
after_steps d a (x ∷ xs) = after_steps d (after_step d a x) xs

-- the requests that the directory handles among the steps, in their order; a stale evict changes nothing
abbrev pub requests_of : List Step → List Request
requests_of [] = []
requests_of (Txn c e ∷ xs) = record { core = c; event = e } ∷ requests_of xs
requests_of (Stale c ∷ xs) = requests_of xs
requests_of (Load c v ∷ xs) = requests_of xs
requests_of (Store c v ∷ xs) = requests_of xs

-- the steps may be taken one after another, from this state
abbrev pub AreAllowed : Draft → State → List Step → Type 0
AreAllowed d a [] = Unit {0}
AreAllowed d a (x ∷ xs) = IsAllowed d a x × AreAllowed d (after_step d a x) xs

-- a run of the machine with n cores
abbrev pub IsRun : Draft → ℕ → List Step → Type 0
IsRun d n steps = AreAllowed d (initial_state d n) steps

-- a run of the machine with n cores leads to the state
abbrev pub IsReached : Draft → ℕ → State → Type 0
IsReached d n a = (steps : List Step) × IsRun d n steps × (a ≡ after_steps d (initial_state d n) steps)
