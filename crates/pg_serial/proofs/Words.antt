-- Words between two entries, and where forwards lead a core between them.
use Rattle.std.proofs.Common.{◌≡◌, ℕ, zero, suc, ◌+◌, ◌==◌, ◌<◌, ◌≤◌, ◌⊎◌, inl, inr, Bool, true, List, [], ◌∷◌, length, get_or, Option, Some, None, refl, sym, ap, subst, ◌∙◌, arith}
use Rattle.std.specs.Prelude.{if◌then◌else◌}
use Rattle.std.proofs.lemmas.Bool.{eq-eqb}
use Rattle.std.specs.Option.{option_map_or}
use Rattle.pg_perm.specs.declared.kinds.Event.{Event}
use Rattle.pg_perm.specs.declared.kinds.Event.TheVariants as event
use Rattle.pg_perm.specs.declared.kinds.Who.{Who}
use Rattle.pg_perm.specs.declared.kinds.Who.TheVariants.{Other, Sharer, Owner}
use Rattle.pg_perm.specs.declared.step.Step.{Step}
use Rattle.pg_perm.specs.declared.step.Step.TheVariants.{Txn, Stale, Load, Store}
use Rattle.pg_perm.specs.declared.draft.Draft.{Draft}
use Rattle.pg_perm.specs.Drafts.{IsWellFormed}
use Rattle.pg_shape.specs.Shaped.{IsShaped}
use Rattle.pg_directory.specs.DirEntries.{DirEntry, Request, who}
use Rattle.pg_directory.specs.Sound.{fits_as}
use Rattle.pg_directory.proofs.Holders.{owner_of_who}
use Rattle.pg_atomic.specs.States.{State, state_of, next_by_forward, take_next, core_next, requestor_end}
use Rattle.pg_atomic.specs.Steps.{may, AreAllowed, after_step, after_steps}
use Rattle.pg_atomic.proofs.Cores.{get_or-each_from}
use Rattle.pg_atomic.proofs.Fits.{out_stores, shared_stores}
use Rattle.pg_serial.specs.Groups.{Groups, at, base, IsRunTo, dir_entry_after, Each, IsAccessOf, HasAccesses, IsEntry, HasEntries, Lacks, OwnerSilent, sent_to, IsOthers, IsQuiet}
use Rattle.pg_serial.proofs.Runs.{IsGood, at_base, good_at, directory_at}
use Rattle.pg_serial.proofs.Insert.{state_kept}

-- who may write is the owner
pub writer_as : (d : Draft) → IsShaped d → (n : ℕ) (w : Who) (x : ℕ) → fits_as d n w x ≡ true → may d x event.Store ≡ true → w ≡ Owner
writer_as d s n Other x fit m = let l = out_stores d s x fit in absurd (cc (m, l))
writer_as d s n Sharer x fit m = let l = shared_stores d s x fit in absurd (cc (m, l))
writer_as d s n Owner x fit m = refl

pub writer_owns : (d : Draft) → IsShaped d → (n : ℕ) (a : State) (c : ℕ) → IsGood d n a → c < length a.states → may d (state_of a c) event.Store ≡ true → a.entry.owner ≡ Some c
writer_owns d s n a c good inside m = owner_of_who a.entry c (writer_as d s a.entry.dir (who a.entry c) (state_of a c) (good.0.fits c inside) m)

-- where the owner makes none, accesses store nothing
no_store : (d : Draft) → IsWellFormed d → IsShaped d → (n : ℕ) (a : State) (xs : List Step) → IsGood d n a → AreAllowed d a xs → Each (IsAccessOf (λ e. Unit {0})) xs
    → ((c : ℕ) → a.entry.owner ≡ Some c → Lacks c xs) → after_steps d a xs ≡ a
no_store d whole s n a [] good allowed each silent = refl
no_store d whole s n a (Txn c e ∷ xs) good allowed each silent = absurd each.0
no_store d whole s n a (Stale c ∷ xs) good allowed each silent = absurd each.0
no_store d whole s n a (Load c v ∷ xs) good allowed each silent = no_store d whole s n a xs good allowed.1 each.1 (λ e o. (silent e o).1)
no_store d whole s n a (Store c v ∷ xs) good allowed each silent =
    absurd ((silent c (writer_owns d s n a c good allowed.0.0 allowed.0.1)).0 refl)

-- so the group leaves the state as it is
pub group_silent : (d : Draft) → IsWellFormed d → IsShaped d → (n : ℕ) (g : Groups) (top : ℕ) → IsRunTo d n g top → HasAccesses g
    → (k : ℕ) → k ≤ top → OwnerSilent d g k → at d n g k ≡ base d n g k
group_silent d whole s n g top r accesses k low silent =
    at_base d n g k ∙ no_store d whole s n (base d n g k) (g.group k) (good_at d whole s n g top r k low).0 (r.groups k low) (accesses k)
    (λ c o. silent c (ap (λ (t : DirEntry). t.owner) (sym (directory_at d n g accesses k).0) ∙ o))

pub entry_word : (d : Draft) (a : State) (x : Step) → IsEntry x → (after_step d a x).word ≡ a.word
entry_word d a (Txn c e) h = refl
entry_word d a (Stale c) h = refl
entry_word d a (Load c v) h = refl
entry_word d a (Store c v) h = absurd h

-- no store between
pub word_kept : (d : Draft) → IsWellFormed d → IsShaped d → (n : ℕ) (g : Groups) (top : ℕ) → IsRunTo d n g top → HasAccesses g → HasEntries g
    → (a b : ℕ) → a ≤ b → b ≤ top → ((j : ℕ) → a < j → j ≤ b → OwnerSilent d g j) → (at d n g b).word ≡ (at d n g a).word
word_kept d whole s n g top r accesses entries a zero from low silent =
    let z : a ≡ zero = omega (arith, from) in subst (λ (m : ℕ). (at d n g zero).word ≡ (at d n g m).word) (sym z) refl
word_kept d whole s n g top r accesses entries a (suc b) from low silent = let split : (a ≡ suc b) ⊎ (a ≤ b) = search (arith, from) in elim split [
  | inl here ↦ subst (λ (m : ℕ). (at d n g (suc b)).word ≡ (at d n g m).word) (sym here) refl
  | inr more ↦
      ap (λ (t : State). t.word) (group_silent d whole s n g top r accesses (suc b) low (silent (suc b) (omega (arith, more)) (omega arith)))
      ∙ entry_word d (at d n g b) (g.entry b) (entries b)
      ∙ word_kept d whole s n g top r accesses entries a b more (omega (arith, low)) (λ j lo hi. silent j lo (omega (arith, hi)))
]

-- Exact catch up

-- where an entry of another leads a core
others_step : (d : Draft) (n : ℕ) (a : State) (c : ℕ) (x : Step) → IsGood d n a → c < n → IsOthers c x
    → state_of (after_step d a x) c ≡ option_map_or (take_next d (state_of a c)) (sent_to d a.entry x c) (state_of a c)
others_step d n a c (Txn r e) good inside other =
    let q : Request = record { core = r; event = e } in
    let there : c < length a.states = omega (arith, inside, good.1) in
    let zero_more : 0 + c ≡ c = omega arith in
    get_or-each_from (core_next d a q) 0 a.states c 0 there ∙ ap (λ (x : ℕ). core_next d a q x (get_or a.states c 0)) zero_more
    ∙ ap (λ (b : Bool). if b then requestor_end d a r e else next_by_forward d a.entry q c (state_of a c)) other
others_step d n a c (Stale r) good inside other = refl
others_step d n a c (Load r v) good inside other = absurd other
others_step d n a c (Store r v) good inside other = absurd other

-- where its own leads it
pub own_step : (d : Draft) (n : ℕ) (a : State) (c : ℕ) (e : Event) → IsGood d n a → c < n → state_of (after_step d a (Txn c e)) c ≡ requestor_end d a c e
own_step d n a c e good inside =
    let q : Request = record { core = c; event = e } in
    let there : c < length a.states = omega (arith, inside, good.1) in
    let zero_more : 0 + c ≡ c = omega arith in
    let same : (c == c) ≡ true = eq-eqb c c refl in
    get_or-each_from (core_next d a q) 0 a.states c 0 there ∙ ap (λ (x : ℕ). core_next d a q x (get_or a.states c 0)) zero_more
    ∙ ap (λ (b : Bool). if b then requestor_end d a c e else next_by_forward d a.entry q c (state_of a c)) same

-- where one entry more leads a core
pub next_state : (d : Draft) → IsWellFormed d → IsShaped d → (n : ℕ) (g : Groups) (top : ℕ) → IsRunTo d n g top → HasAccesses g
    → (c j : ℕ) → c < n → j < top → IsOthers c (g.entry j) → Lacks c (g.group (suc j))
    → state_of (at d n g (suc j)) c ≡ option_map_or (take_next d (state_of (at d n g j) c)) (sent_to d (dir_entry_after d g.entry j) (g.entry j) c) (state_of (at d n g j) c)
next_state d whole s n g top r accesses c j inside low other lacks =
    let good : IsGood d n (at d n g j) = (good_at d whole s n g top r j (omega (arith, low))).1 in
    state_kept d c (base d n g (suc j)) (g.group (suc j)) lacks
    ∙ others_step d n (at d n g j) c (g.entry j) good inside other
    ∙ ap (λ (t : DirEntry). option_map_or (take_next d (state_of (at d n g j) c)) (sent_to d t (g.entry j) c) (state_of (at d n g j) c)) (directory_at d n g accesses j).1

-- where nothing is sent to it, its state stays
pub caught_up : (d : Draft) → IsWellFormed d → IsShaped d → (n : ℕ) (g : Groups) (top : ℕ) → IsRunTo d n g top → HasAccesses g
    → (c lo hi : ℕ) → c < n → hi ≤ top → IsQuiet g c lo hi → ((i : ℕ) → lo ≤ i → i < hi → sent_to d (dir_entry_after d g.entry i) (g.entry i) c ≡ None)
    → (k : ℕ) → lo ≤ k → k ≤ hi → state_of (at d n g k) c ≡ state_of (at d n g lo) c
caught_up d whole s n g top r accesses c lo hi inside low q none zero from to =
    let z : lo ≡ zero = omega (arith, from) in ap (λ (k : ℕ). state_of (at d n g k) c) (sym z)
caught_up d whole s n g top r accesses c lo hi inside low q none (suc k) from to = let split : (lo ≡ suc k) ⊎ (lo ≤ k) = search (arith, from) in elim split [
  | inl here ↦ ap (λ (k : ℕ). state_of (at d n g k) c) (sym here)
  | inr more ↦
      next_state d whole s n g top r accesses c k inside (omega (arith, low, to)) (q.others k more to) (q.lacks (suc k) (omega (arith, more)) to)
      ∙ ap (λ (o : Option ℕ). option_map_or (take_next d (state_of (at d n g k) c)) o (state_of (at d n g k) c)) (none k more to)
      ∙ caught_up d whole s n g top r accesses c lo hi inside low q none k more (omega (arith, to))
]
