-- Two runs in groups that agree to some point go through the same states so far.
use Rattle.std.proofs.Common.{◌≡◌, ℕ, zero, suc, ◌<◌, ◌≤◌, ◌⊎◌, inl, inr, [], refl, sym, ap, subst, ◌∙◌, arith}
use Rattle.pg_perm.specs.declared.step.Step.{Step}
use Rattle.pg_perm.specs.declared.draft.Draft.{Draft}
use Rattle.pg_directory.specs.DirEntries.{DirEntry}
use Rattle.pg_atomic.specs.States.{State}
use Rattle.pg_atomic.specs.Steps.{IsAllowed, AreAllowed, after_step, after_steps}
use Rattle.pg_serial.specs.Groups.{Groups, at, base, IsRunTo, dir_entry_after_step, dir_entry_after}
use Rattle.pg_serial.proofs.Runs.{at_base}

-- the same entries below k, and groups there that lead to the same states
pub record Agrees (d : Draft) (n : ℕ) (g h : Groups) (k : ℕ) : Type 0 where
  pub entries : (j : ℕ) → j < k → h.entry j ≡ g.entry j
  pub groups : (j : ℕ) → j < k → after_steps d (base d n g j) (h.group j) ≡ at d n g j

pub agrees_base : (d : Draft) (n : ℕ) (g h : Groups) (k : ℕ) → Agrees d n g h k → (j : ℕ) → j ≤ k → base d n h j ≡ base d n g j
agrees_base d n g h k e zero low = refl
agrees_base d n g h k e (suc j) low =
    let same : base d n h j ≡ base d n g j = agrees_base d n g h k e j (omega (arith, low)) in
    let here : at d n h j ≡ at d n g j =
    at_base d n h j ∙ ap (λ (a : State). after_steps d a (h.group j)) same ∙ e.groups j (omega (arith, low)) in
    ap (λ (a : State). after_step d a (h.entry j)) here ∙ ap (after_step d (at d n g j)) (e.entries j (omega (arith, low)))

pub agrees_at : (d : Draft) (n : ℕ) (g h : Groups) (k : ℕ) → Agrees d n g h k → (j : ℕ) → j < k → at d n h j ≡ at d n g j
agrees_at d n g h k e j low =
    at_base d n h j ∙ ap (λ (a : State). after_steps d a (h.group j)) (agrees_base d n g h k e j (omega (arith, low))) ∙ e.groups j low

pub agrees_dir_entry : (d : Draft) (k : ℕ) (old new : ℕ → Step) → ((j : ℕ) → j < k → new j ≡ old j) → (j : ℕ) → j ≤ k → dir_entry_after d new j ≡ dir_entry_after d old j
agrees_dir_entry d k old new e zero low = refl
agrees_dir_entry d k old new e (suc j) low =
    ap (λ (s : DirEntry). dir_entry_after_step d s (new j)) (agrees_dir_entry d k old new e j (omega (arith, low))) ∙ ap (dir_entry_after_step d (dir_entry_after d old j)) (e j (omega (arith, low)))

-- an entry that is allowed after a run makes a longer one, where nothing stands after it yet
pub one_more : (d : Draft) (n : ℕ) (g : Groups) (top : ℕ) → IsRunTo d n g top → (new : ℕ → Step) → ((j : ℕ) → j < top → new j ≡ g.entry j)
    → IsAllowed d (at d n g top) (new top) → g.group (suc top) ≡ [] → IsRunTo d n (record g { entry = new }) (suc top)
one_more d n g top r new same allowed none = record { entries = λ j low. entry j low; groups = λ k low. group k low }
  where
    h : Groups
    h = record g { entry = new }

    agrees : Agrees d n g h top
    agrees = record { entries = same; groups = λ j low. sym (at_base d n g j) }

    here : at d n h top ≡ at d n g top
    here = at_base d n h top ∙ ap (λ (a : State). after_steps d a (g.group top)) (agrees_base d n g h top agrees top (omega arith)) ∙ sym (at_base d n g top)

    entry : (j : ℕ) → j < suc top → IsAllowed d (at d n h j) (new j)
    entry j low = let split : (j < top) ⊎ (j ≡ top) = search arith in elim split [
      | inl less ↦ subst (λ (a : State). IsAllowed d a (new j)) (sym (agrees_at d n g h top agrees j less))
          (subst (IsAllowed d (at d n g j)) (sym (same j less)) (r.entries j less))
      | inr last ↦ rw last (subst (λ (a : State). IsAllowed d a (new top)) (sym here) allowed)
    ]

    group : (k : ℕ) → k ≤ suc top → AreAllowed d (base d n h k) (g.group k)
    group k low = let split : (k ≤ top) ⊎ (k ≡ suc top) = search arith in elim split [
      | inl less ↦ subst (λ (a : State). AreAllowed d a (g.group k)) (sym (agrees_base d n g h top agrees k less)) (r.groups k less)
      | inr last ↦ rw last (rw none tt)
    ]

-- and goes through the same states
pub one_more_states : (d : Draft) (n : ℕ) (g : Groups) (top : ℕ) (new : ℕ → Step) → ((j : ℕ) → j < top → new j ≡ g.entry j)
    → (k : ℕ) → k ≤ top → at d n (record g { entry = new }) k ≡ at d n g k
one_more_states d n g top new same k low =
    let agrees : Agrees d n g (record g { entry = new }) k = record { entries = λ j less. same j (omega (arith, less, low)); groups = λ j less. sym (at_base d n g j) } in
    at_base d n (record g { entry = new }) k ∙ ap (λ (a : State). after_steps d a (g.group k)) (agrees_base d n g (record g { entry = new }) k agrees k (omega arith)) ∙ sym (at_base d n g k)
