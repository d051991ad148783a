-- What a store that hits does to a state that is safe, and the single writer.
use Rattle.std.proofs.Common.{◌≡◌, ◌≢◌, ℕ, ◌<◌, ◌==◌, Bool, true, false, length, get_or, set, length-set, get_or-set_same, get_or-set_other, Option, Some, None, [], refl, sym, ap, subst, ◌∙◌, arith}
use Rattle.std.specs.Prelude.{◌&&◌, if◌then◌else◌}
use Rattle.std.proofs.lemmas.Bool.{eqb-true, eq-eqb}
use Rattle.pg_perm.specs.declared.kinds.Event.TheVariants.{Store}
use Rattle.pg_perm.specs.declared.kinds.Who.{Who}
use Rattle.pg_perm.specs.declared.kinds.Who.TheVariants.{Other, Sharer, Owner}
use Rattle.pg_perm.specs.declared.kinds.DirKind.{DirKind}
use Rattle.pg_perm.specs.declared.kinds.DirKind.TheVariants as kind
use Rattle.pg_perm.specs.declared.draft.Draft.{Draft}
use Rattle.pg_perm.specs.declared.draft.CoreForm.{CoreForm}
use Rattle.pg_perm.specs.declared.draft.CoreForm.TheVariants.{Hit, Ask, Leave}
use Rattle.pg_terms.specs.Terms.{is, cache_is, is_read_owner, is_owner, is_read_perm, is_write_perm, lists}
use Rattle.pg_terms.specs.Due.{kind_is}
use Rattle.pg_perm.specs.declared.kinds.Perm.{Perm}
use Rattle.pg_perm.specs.declared.kinds.Perm.TheVariants as perm
use Rattle.pg_shape.specs.Shaped.{IsShaped}
use Rattle.pg_shape.specs.CoreRules.{is_hit, is_dirty_writer}
use Rattle.pg_terms.specs.Rows.{allows, store_next}
use Rattle.pg_directory.specs.DirEntries.{DirEntry, who, is_among}
use Rattle.pg_directory.specs.Sound.{IsSound, fits, fits_as}
use Rattle.pg_atomic.specs.States.{State, state_of, hit_next}
use Rattle.pg_atomic.specs.Steps.{may}
use Rattle.pg_atomic.specs.Safety.{IsSafe, HasSingleWriter}
use Rattle.pg_atomic.proofs.Fits.{cache_at, owner_line, line_of, out_loads, out_stores, shared_stores, owner_writes}

-- who may write is the owner
writer_owns : (d : Draft) → IsShaped d → (n : ℕ) (w : Who) (x : ℕ) → fits_as d n w x ≡ true → may d x Store ≡ true → (w ≡ Owner) × (lists d n x ≡ true)
writer_owns d s n Other x fit m = let l = out_stores d s x fit in absurd (cc (m, l))
writer_owns d s n Sharer x fit m = let l = shared_stores d s x fit in absurd (cc (m, l))
writer_owns d s n Owner x fit m = (refl, fit)

hit_leads : (x : ℕ) (f : CoreForm) → is_hit f ≡ true → (t : ℕ) × (store_next x Store f ≡ Some t)
hit_leads x (Hit None) h = (x, refl)
hit_leads x (Hit (Some t)) h = (t, refl)
hit_leads x (Ask request pairs) h = absurd cc
hit_leads x (Leave request) h = absurd cc

-- a store that hits leads a writer to a dirty one, in a state that the same directory states list
hit_by_shape : (d : Draft) → IsShaped d → (n x : ℕ) → lists d n x ≡ true → may d x Store ≡ true
    → (cache_is is_dirty_writer d (hit_next d x) ≡ true) × (lists d n (hit_next d x) ≡ true)
hit_by_shape d s n x at m =
    let (c, line) = line_of d s n Owner x at in
    let (l, row) = s.cores.row x Store c line (λ e. absurd (cc e)) in
    let hits = s.cores.hits x Store c l line row (sym (cache_at (allows Store) d x c line) ∙ m) in
    let (t, next) = hit_leads x l.form hits in
    let leads : hit_next d x ≡ t = rw row (rw next refl) in
    let gives = s.cores.store_hit x t l row (owner_writes d s n x at m) next in
    (ap (cache_is is_dirty_writer d) leads ∙ gives.0, ap (lists d n) leads ∙ gives.1 n ∙ at)

pub hit_is_dirty : (d : Draft) → IsShaped d → (a : State) (c : ℕ) → IsSafe d a → c < length a.states → may d (state_of a c) Store ≡ true
    → cache_is is_dirty_writer d (hit_next d (state_of a c)) ≡ true
hit_is_dirty d s a c safe inside m =
    let (owns, at) = writer_owns d s a.entry.dir (who a.entry c) (state_of a c) (safe.fits c inside) m in
    (hit_by_shape d s a.entry.dir (state_of a c) at m).0

-- a store that hits leads from a safe state to one
pub safe_store : (d : Draft) → IsShaped d → (a : State) (c v : ℕ) → IsSafe d a → c < length a.states → may d (state_of a c) Store ≡ true
    → IsSafe d (record a { states = set a.states c (hit_next d (state_of a c)); word = v })
safe_store d s a c v safe inside m =
    let y : ℕ = hit_next d (state_of a c) in
    let same : length (set a.states c y) ≡ length a.states = length-set a.states c y in
    let (owns, at) = writer_owns d s a.entry.dir (who a.entry c) (state_of a c) (safe.fits c inside) m in
    record {
      entry = subst (λ (n : ℕ). IsSound d n a.entry) (sym same) safe.entry;
      fits = λ e there. by y owns (hit_by_shape d s a.entry.dir (state_of a c) at m).1 e (omega (arith, there, same)) (e == c) refl;
    }
  where
    by : (y : ℕ) → who a.entry c ≡ Owner → lists d a.entry.dir y ≡ true → (e : ℕ) → e < length a.states → (b : Bool) → (e == c) ≡ b
        → fits d a.entry e (get_or (set a.states c y) e 0) ≡ true
    by y owns listed e there true h =
        let same : e ≡ c = eqb-true e c h in
        ap (λ (i : ℕ). fits d a.entry i (get_or (set a.states c y) i 0)) same
        ∙ ap (fits d a.entry c) (get_or-set_same a.states c y 0 inside)
        ∙ ap (λ (w : Who). fits_as d a.entry.dir w y) owns ∙ listed
    by y owns listed e there false h =
        let apart : e ≢ c = λ g. not_both h (eq-eqb e c g) in
        ap (fits d a.entry e) (get_or-set_other a.states c e y 0 apart) ∙ safe.fits e there
      where
        not_both : (e == c) ≡ false → (e == c) ≡ true → ⊥
        not_both h g = absurd (cc (h, g))

-- The single writer

read_or_write : (p : Perm) → is_read_perm p ≡ true → is_write_perm p ≡ true → ⊥
read_or_write perm.None h g = absurd cc
read_or_write perm.Read h g = absurd cc
read_or_write perm.Write h g = absurd cc

-- a directory state that lists a writer is owned
owned_by : (d : Draft) → IsShaped d → (n : ℕ) (home : DirEntry) (x : ℕ) → IsSound d n home → lists d home.dir x ≡ true → may d x Store ≡ true
    → (o : ℕ) → home.owner ≡ Some o → home.sharers ≡ []
owned_by d s n home x sound at m o owner = by sound.kind.0 sound.kind.1
  where
    none_some : home.owner ≡ None → ⊥
    none_some e = absurd (cc (owner, e))

    mixed : kind_is kind.Mixed d home.dir ≡ true → ⊥
    mixed k =
        let reads = s.lists.lists_readers home.dir x k at in
        let c = owner_line d s home.dir x at in
        let can_read = second (is_owner c.0.role) (is_read_perm c.0.perm) (sym (cache_at is_read_owner d x c.0 c.1) ∙ reads) in
        read_or_write c.0.perm can_read (sym (cache_at (allows Store) d x c.0 c.1) ∙ m)
      where
        second : (a b : Bool) → (a && b) ≡ true → b ≡ true
        second true true h = refl
        second true false h = cc
        second false b h = cc

    by : (k : DirKind) → kind_is k d home.dir ≡ true → home.sharers ≡ []
    by kind.Idle k = (sound.idle k).1
    by kind.Shared k = absurd (none_some (sound.shared k).0)
    by kind.Owned k = (sound.owned k).1
    by kind.Mixed k = absurd (mixed k)

-- beside an owner without sharers each core is neither
who_other : (home : DirEntry) (o e : ℕ) → home.owner ≡ Some o → home.sharers ≡ [] → (o == e) ≡ false → who home e ≡ Other
who_other home o e owner none apart = rw owner (rw apart (rw none refl))

owner_of : (b : Bool) (home : DirEntry) (c : ℕ) → is home.owner c ≡ b → who home c ≡ Owner → is home.owner c ≡ true
owner_of true home c h e = h
owner_of false home c h e = absurd (not_owner (is_among home.sharers c) (sym (rw h refl) ∙ e))
  where
    not_owner : (b : Bool) → (if b then Sharer else Other) ≡ Owner → ⊥
    not_owner true h = absurd cc
    not_owner false h = absurd cc

is_this : (o : Option ℕ) (c : ℕ) → is o c ≡ true → o ≡ Some c
is_this None c h = absurd cc
is_this (Some m) c h = ap Some (eqb-true m c h)

pub single_writer : (d : Draft) → IsShaped d → (a : State) → IsSafe d a → HasSingleWriter d a
single_writer d s a safe c e inside there apart m =
    let (owns, at) = writer_owns d s a.entry.dir (who a.entry c) (state_of a c) (safe.fits c inside) m in
    let owner : a.entry.owner ≡ Some c = is_this a.entry.owner c (owner_of (is a.entry.owner c) a.entry c refl owns) in
    let none = owned_by d s (length a.states) a.entry (state_of a c) safe.entry at m c owner in
    let out_there = ap (λ (w : Who). fits_as d a.entry.dir w (state_of a e)) (sym (who_other a.entry c e owner none (differ (c == e) refl))) ∙ safe.fits e there in
    (out_loads d s (state_of a e) out_there, out_stores d s (state_of a e) out_there)
  where
    differ : (b : Bool) → (c == e) ≡ b → (c == e) ≡ false
    differ true h = absurd (apart (eqb-true c e h))
    differ false h = h
