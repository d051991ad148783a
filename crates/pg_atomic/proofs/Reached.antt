-- What holds in each state that a run reaches.
use Rattle.std.proofs.Common.{◌≡◌, ℕ, ◌<◌, true, List, [], ◌∷◌, length, length-set, replicate, refl, sym, ap, subst, ◌∙◌, arith}
use Rattle.std.proofs.lemmas.List.{get_or-replicate, length-replicate}
use Rattle.pg_perm.specs.declared.step.Step.{Step}
use Rattle.pg_perm.specs.declared.step.Step.TheVariants.{Txn, Stale, Load, Store}
use Rattle.pg_perm.specs.declared.draft.Draft.{Draft}
use Rattle.pg_perm.specs.Drafts.{IsWellFormed}
use Rattle.pg_shape.specs.Shaped.{IsShaped}
use Rattle.pg_directory.specs.DirEntries.{Request, initial_entry}
use Rattle.pg_directory.specs.Sound.{fits}
use Rattle.pg_directory.specs.Requests.{IsHandled}
use Rattle.pg_directory.proofs.Handled.{legal_request_is_handled}
use Rattle.pg_directory.proofs.Start.{start_is_sound, out_fits_at_start}
use Rattle.pg_atomic.specs.States.{State, state_of, out_state, initial_state, core_next}
use Rattle.pg_atomic.specs.Steps.{needs_transaction, IsAllowed, after_step, after_steps, AreAllowed, IsReached}
use Rattle.pg_atomic.specs.Safety.{IsSafe, RunsSafely}
use Rattle.pg_atomic.proofs.Cores.{length-each_from}
use Rattle.pg_atomic.proofs.Legal.{legal_as}
use Rattle.pg_atomic.proofs.Transactions.{transaction_has_rows, out_fits, safe_transact}
use Rattle.pg_atomic.proofs.Accesses.{safe_store, single_writer}

-- what a transaction that is needed does
pub handled_at : (d : Draft) → IsWellFormed d → IsShaped d → (a : State) (q : Request) → IsSafe d a → q.core < length a.states
    → needs_transaction d (state_of a q.core) q.event ≡ true → IsHandled d (length a.states) a.entry q
handled_at d whole s a q safe inside need =
    legal_request_is_handled d (length a.states) a.entry q whole s safe.entry inside (legal_as d s a.entry.dir _ (state_of a q.core) q.event (safe.fits q.core inside) need)

-- the machine opens safely
pub safe_initial_state : (d : Draft) → IsWellFormed d → IsShaped d → (n : ℕ) → IsSafe d (initial_state d n)
safe_initial_state d whole s n =
    let same : length (replicate n (out_state d)) ≡ n = length-replicate n (out_state d) in
    record {
      entry = start_is_sound d (length (replicate n (out_state d))) whole s;
      fits = λ c there.
          ap (fits d (initial_entry d) c) (get_or-replicate n c (out_state d) 0 (omega (arith, there, same)))
          ∙ out_fits_at_start d c (out_state d) whole s (out_fits d s);
    }

-- a step leads from a safe state to one, with as many cores
pub safe_step : (d : Draft) → IsWellFormed d → IsShaped d → (a : State) (x : Step) → IsSafe d a → IsAllowed d a x
    → IsSafe d (after_step d a x) × (length (after_step d a x).states ≡ length a.states)
safe_step d whole s a (Txn c e) safe allowed =
    let q : Request = record { core = c; event = e } in
    (safe_transact d s a q safe (handled_at d whole s a q safe allowed.0 allowed.1) allowed.0 allowed.1, length-each_from (core_next d a q) 0 a.states)
safe_step d whole s a (Stale c) safe allowed = (safe, refl)
safe_step d whole s a (Load c v) safe allowed = (safe, refl)
safe_step d whole s a (Store c v) safe allowed = (safe_store d s a c v safe allowed.0 allowed.1, length-set a.states c _)

pub safe_steps : (d : Draft) → IsWellFormed d → IsShaped d → (a : State) (xs : List Step) → IsSafe d a → AreAllowed d a xs
    → IsSafe d (after_steps d a xs) × (length (after_steps d a xs).states ≡ length a.states)
safe_steps d whole s a [] safe allowed = (safe, refl)
safe_steps d whole s a (x ∷ xs) safe allowed =
    let p = safe_step d whole s a x safe allowed.0 in
    let r = safe_steps d whole s (after_step d a x) xs p.0 allowed.1 in
    (r.0, r.1 ∙ p.1)

-- what holds in each safe state
pub safe_runs_safely : (d : Draft) (a : State) → IsWellFormed d → IsShaped d → IsSafe d a → RunsSafely d (length a.states) a
safe_runs_safely d a whole s safe = record {
  cores = refl;
  safe = safe;
  rows = λ q inside need. transaction_has_rows d s a q safe (handled_at d whole s a q safe inside need) inside need;
  single_writer = single_writer d s a safe;
}

pub runs_safely : (d : Draft) (n : ℕ) (a : State) → IsWellFormed d → IsShaped d → IsReached d n a → RunsSafely d n a
runs_safely d n a whole s (steps, run, leads) =
    let p = safe_steps d whole s (initial_state d n) steps (safe_initial_state d whole s n) run in
    let cores : length a.states ≡ n = ap (λ (b : State). length b.states) leads ∙ p.1 ∙ length-replicate n (out_state d) in
    subst (λ (m : ℕ). RunsSafely d m a) cores (safe_runs_safely d a whole s (subst (IsSafe d) (sym leads) p.0))
