-- What is known where a request has a row: of the directory's kind, of the owner, and of what the row does.
use Rattle.std.proofs.Common.{◌≡◌, ℕ, ◌⊎◌, Bool, true, false, cond, ◌&&◌, [], Option, Some, None, refl, subst, ap, inl, inr}
use Rattle.std.specs.Prelude.{◌==◌, ◌≢◌}
use Rattle.std.specs.Option.{option_and_then}
use Rattle.pg_perm.specs.declared.kinds.DirKind.{DirKind}
use Rattle.pg_perm.specs.declared.kinds.DirKind.TheVariants as kind
use Rattle.pg_perm.specs.declared.kinds.Event.{Event}
use Rattle.pg_perm.specs.declared.kinds.Event.TheVariants.{Load, Store, Evict}
use Rattle.pg_perm.specs.declared.kinds.Who.{Who}
use Rattle.pg_perm.specs.declared.kinds.Who.TheVariants.{Other, Sharer, Owner}
use Rattle.pg_perm.specs.declared.kinds.ReqClass.{ReqClass}
use Rattle.pg_perm.specs.declared.kinds.ReqClass.TheVariants.{Read, Write}
use Rattle.pg_perm.specs.declared.kinds.FwdClass.TheVariants.{Inv, Share, Keep, Drop}
use Rattle.pg_perm.specs.declared.draft.Draft.{Draft}
use Rattle.pg_perm.specs.declared.draft.RowLine.{RowLine}
use Rattle.pg_perm.specs.declared.draft.RowForm.{RowForm}
use Rattle.pg_perm.specs.declared.draft.RowForm.TheVariants as form
use Rattle.pg_perm.specs.declared.draft.Action.{Action}
use Rattle.pg_perm.specs.declared.draft.Action.TheVariants as action
use Rattle.pg_terms.specs.declared.cases.DirCase.TheVariants as case
use Rattle.pg_terms.specs.Terms.{is, has_class, dir_row, is_case, forward_of, same_event}
use Rattle.pg_terms.specs.Due.{kind_is, forward_in}
use Rattle.pg_terms.proofs.Same.{event_equal}
use Rattle.pg_shape.specs.Shaped.{IsShaped}
use Rattle.pg_terms.specs.Rows.{action_in}
use Rattle.pg_shape.proofs.Rows.{row_at, evict_form}
use Rattle.pg_directory.specs.DirEntries.{DirEntry, Request, is_among, who, left_of, without_core, row_of}
use Rattle.pg_directory.specs.Sends.{forward_by_row, forward_sent}
use Rattle.pg_directory.specs.Sound.{IsSound}
use Rattle.pg_directory.specs.Requests.{action_of}
use Rattle.pg_directory.proofs.Cores.{other_way}

-- Owners

-- a kind without an owner, and one with an owner
abbrev pub IsFree : Draft → ℕ → Type 0
IsFree d n = (kind_is kind.Idle d n ≡ true) ⊎ (kind_is kind.Shared d n ≡ true)

abbrev pub IsTaken : Draft → ℕ → Type 0
IsTaken d n = (kind_is kind.Owned d n ≡ true) ⊎ (kind_is kind.Mixed d n ≡ true)

-- a kind is one or the other
pub free_or_taken : (d : Draft) (n : ℕ) (s : DirEntry) → IsSound d n s → IsFree d s.dir ⊎ IsTaken d s.dir
free_or_taken d n s sound = at sound.kind.0 sound.kind.1
  where
    at : (k : DirKind) → kind_is k d s.dir ≡ true → IsFree d s.dir ⊎ IsTaken d s.dir
    at kind.Idle h = inl (inl h)
    at kind.Shared h = inl (inr h)
    at kind.Owned h = inr (inl h)
    at kind.Mixed h = inr (inr h)

-- at a kind with an owner there is one
pub owner_of_taken : (d : Draft) (n : ℕ) (s : DirEntry) → IsSound d n s → IsTaken d s.dir → (o : ℕ) × (s.owner ≡ Some o)
owner_of_taken d n s sound (inl h) = (sound.owned h).0
owner_of_taken d n s sound (inr h) = sound.mixed h

-- who isn't the owner is another than the owner
pub not_the_owner : (s : DirEntry) (o c : ℕ) → s.owner ≡ Some o → is s.owner c ≡ false → (c == o) ≡ false
not_the_owner s o c e h = other_way o c (subst (λ (w : Option ℕ). is w c ≡ false) e h)

-- Rows of requests

-- the row of a load that may come is for a core that holds nothing
pub load_row : (d : Draft) (s : DirEntry) (core : ℕ) (r : RowLine) → who s core ≡ Other → row_of d s (record { core = core; event = Load }) ≡ Some r
    → dir_row d s.dir (case.Ask Read Other) ≡ Some r
load_row d s core r e row = subst (λ (w : Who). dir_row d s.dir (case.Ask Read w) ≡ Some r) e row

-- the row of an evict does nothing
pub evict_row : (d : Draft) (s : DirEntry) (core : ℕ) (r : RowLine) → row_of d s (record { core = core; event = Evict }) ≡ Some r → action_in r.form ≡ None
evict_row d s core r row =
    let w = who s core in
    let left = left_of (without_core core s.sharers) in
    let (k, get, dir, for) = row_at d s.dir (case.Evict w left) r row in
    ap action_in (evict_form d r.form w left for)

-- What rows do

-- a load is passed on where there is an owner
pub load_forward : (d : Draft) (n : ℕ) (s : DirEntry) (f : ℕ) (r : RowLine) → IsShaped d → IsSound d n s → dir_row d s.dir (case.Ask Read Other) ≡ Some r
    → action_in r.form ≡ Some (action.Forward f) → IsTaken d s.dir
load_forward d n s f r shape sound row does = at (free_or_taken d n s sound)
  where
    at : IsFree d s.dir ⊎ IsTaken d s.dir → IsTaken d s.dir
    at (inl free) = let (m, other) = shape.rows.read_memory s.dir r row free in absurd (cc (other, does))
    at (inr taken) = taken

-- by a share, a keep or a drop, and a drop where nobody shares
pub load_class : (d : Draft) (n : ℕ) (s : DirEntry) (f : ℕ) (r : RowLine) → IsShaped d → IsSound d n s → dir_row d s.dir (case.Ask Read Other) ≡ Some r
    → action_in r.form ≡ Some (action.Forward f)
    → (has_class Share d f ≡ true) ⊎ ((has_class Keep d f ≡ true) ⊎ ((has_class Drop d f ≡ true) × (s.sharers ≡ [])))
load_class d n s f r shape sound row does = at (load_forward d n s f r shape sound row does)
  where
    Class : ℕ → Type 0
    Class g = (has_class Share d g ≡ true) ⊎ ((has_class Keep d g ≡ true) ⊎ ((has_class Drop d g ≡ true) × (s.sharers ≡ [])))

    same : (g : ℕ) → action_in r.form ≡ Some (action.Forward g) → g ≡ f
    same g other = cc (other, does)

    owned : (g : ℕ) → kind_is kind.Owned d s.dir ≡ true → (has_class Share d g ≡ true) ⊎ ((has_class Keep d g ≡ true) ⊎ (has_class Drop d g ≡ true)) → Class g
    owned g h (inl c) = inl c
    owned g h (inr (inl c)) = inr (inl c)
    owned g h (inr (inr c)) = inr (inr (c, (sound.owned h).1))

    mixed : (g : ℕ) → (has_class Share d g ≡ true) ⊎ (has_class Keep d g ≡ true) → Class g
    mixed g (inl c) = inl c
    mixed g (inr c) = inr (inl c)

    at : IsTaken d s.dir → Class f
    at (inl h) = let (g, other, class) = shape.rows.read_owned s.dir r row h in subst Class (same g other) (owned g h class)
    at (inr h) = let (g, other, class) = shape.rows.read_mixed s.dir r row h in subst Class (same g other) (mixed g class)

-- a store is passed on by a drop, from another than the owner, where there is an owner
pub store_forward : (d : Draft) (n : ℕ) (s : DirEntry) (f : ℕ) (r : RowLine) (w : Who) → IsShaped d → IsSound d n s → dir_row d s.dir (case.Ask Write w) ≡ Some r
    → action_in r.form ≡ Some (action.Forward f) → (w ≢ Owner) × IsTaken d s.dir × (has_class Drop d f ≡ true)
store_forward d n s f r Owner shape sound row does = absurd (cc (shape.rows.upgrade s.dir r row, does))
store_forward d n s f r Other shape sound row does = at (free_or_taken d n s sound)
  where
    at : IsFree d s.dir ⊎ IsTaken d s.dir → (Other ≢ Owner) × IsTaken d s.dir × (has_class Drop d f ≡ true)
    at (inl free) = let (m, other) = shape.rows.write_memory s.dir Other r row free in absurd (cc (other, does))
    at (inr taken) =
        let (g, other, class) = shape.rows.write_other s.dir r row taken in
        let same : g ≡ f = cc (other, does) in
        (λ e. absurd (cc e), taken, subst (λ g. has_class Drop d g ≡ true) same class)
store_forward d n s f r Sharer shape sound row does = at (free_or_taken d n s sound)
  where
    at : IsFree d s.dir ⊎ IsTaken d s.dir → (Sharer ≢ Owner) × IsTaken d s.dir × (has_class Drop d f ≡ true)
    at (inl free) = let (m, other) = shape.rows.write_memory s.dir Sharer r row free in absurd (cc (other, does))
    at (inr taken) =
        let (g, other, class) = shape.rows.write_sharer s.dir r row taken in
        let same : g ≡ f = cc (other, does) in
        (λ e. absurd (cc e), taken, subst (λ g. has_class Drop d g ≡ true) same class)

-- no load is counted, and no store of another than the owner
pub load_counts_not : (d : Draft) (n : ℕ) (s : DirEntry) (r : RowLine) → IsShaped d → IsSound d n s → dir_row d s.dir (case.Ask Read Other) ≡ Some r
    → action_in r.form ≡ Some action.Count → ⊥
load_counts_not d n s r shape sound row does = at (free_or_taken d n s sound)
  where
    at : IsFree d s.dir ⊎ IsTaken d s.dir → ⊥
    at (inl free) = absurd (cc ((shape.rows.read_memory s.dir r row free).1, does))
    at (inr (inl taken)) = absurd (cc ((shape.rows.read_owned s.dir r row taken).1, does))
    at (inr (inr taken)) = absurd (cc ((shape.rows.read_mixed s.dir r row taken).1, does))

pub store_counts_not : (d : Draft) (n : ℕ) (s : DirEntry) (r : RowLine) (w : Who) → IsShaped d → IsSound d n s → dir_row d s.dir (case.Ask Write w) ≡ Some r
    → w ≢ Owner → action_in r.form ≡ Some action.Count → ⊥
store_counts_not d n s r Owner shape sound row other does = absurd (other refl)
store_counts_not d n s r Other shape sound row other does = at (free_or_taken d n s sound)
  where
    at : IsFree d s.dir ⊎ IsTaken d s.dir → ⊥
    at (inl free) = absurd (cc ((shape.rows.write_memory s.dir Other r row free).1, does))
    at (inr taken) = absurd (cc ((shape.rows.write_other s.dir r row taken).1, does))
store_counts_not d n s r Sharer shape sound row other does = at (free_or_taken d n s sound)
  where
    at : IsFree d s.dir ⊎ IsTaken d s.dir → ⊥
    at (inl free) = absurd (cc ((shape.rows.write_memory s.dir Sharer r row free).1, does))
    at (inr taken) = absurd (cc ((shape.rows.write_sharer s.dir r row taken).1, does))

-- a row for a load or a store does something
pub ask_acts : (d : Draft) (f : RowForm) (class : ReqClass) (w : Who) → is_case d f (case.Ask class w) ≡ true → (a : Action) × (action_in f ≡ Some a)
ask_acts d (form.Ask request who does) class w h = (does, refl)
ask_acts d (form.Evict who left) class w h = absurd cc

pub row_acts : (d : Draft) (s : DirEntry) (core : ℕ) (event : Event) (r : RowLine) → row_of d s (record { core = core; event = event }) ≡ Some r → event ≢ Evict
    → (a : Action) × (action_in r.form ≡ Some a)
row_acts d s core Load r row other = ask_acts d r.form Read (who s core) (row_at d s.dir (case.Ask Read (who s core)) r row).3
row_acts d s core Store r row other = ask_acts d r.form Write (who s core) (row_at d s.dir (case.Ask Write (who s core)) r row).3
row_acts d s core Evict r row other = absurd (other refl)

-- What is sent

-- an invalidation to a sharer, or what is passed on to the owner
abbrev pub IsSentFor : Draft → DirEntry → Event → ℕ → RowLine → ℕ → Type 0
IsSentFor d s event c r f = ((event ≡ Store) × (is_among s.sharers c ≡ true) × (forward_of d Inv ≡ Some f))
    ⊎ ((is s.owner c ≡ true) × (forward_in r.form ≡ Some f))

what_is_sent : (d : Draft) (s : DirEntry) (q : Request) (c f : ℕ) (r : RowLine) → forward_by_row d s q c r ≡ Some f
    → ((q.core == c) ≡ false) × IsSentFor d s q.event c r f
what_is_sent d s q c f r h = at (q.core == c) (same_event q.event Store) (is_among s.sharers c) (is s.owner c) refl refl refl refl h
  where
    at : (a b e g : Bool) → (q.core == c) ≡ a → same_event q.event Store ≡ b → is_among s.sharers c ≡ e → is s.owner c ≡ g
        → cond a None (cond (b && e) (forward_of d Inv) (cond g (forward_in r.form) None)) ≡ Some f
        → ((q.core == c) ≡ false) × IsSentFor d s q.event c r f
    at true b e g pa pb pe pg h = absurd cc
    at false true true g pa pb pe pg h = (pa, inl (event_equal q.event Store pb, pe, h))
    at false true false true pa pb pe pg h = (pa, inr (pg, h))
    at false true false false pa pb pe pg h = absurd cc
    at false false e true pa pb pe pg h = (pa, inr (pg, h))
    at false false e false pa pb pe pg h = absurd cc

-- what is sent is sent by a row
pub sent_has_row : (d : Draft) (s : DirEntry) (q : Request) (c f : ℕ) → forward_sent d s q c ≡ Some f
    → (r : RowLine) × (row_of d s q ≡ Some r) × ((q.core == c) ≡ false) × IsSentFor d s q.event c r f
sent_has_row d s q c f h = at (row_of d s q) refl h
  where
    at : (o : Option RowLine) → row_of d s q ≡ o → option_and_then (forward_by_row d s q c) o ≡ Some f
        → (r : RowLine) × (row_of d s q ≡ Some r) × ((q.core == c) ≡ false) × IsSentFor d s q.event c r f
    at None e h = absurd cc
    at (Some r) e h = let (apart, what) = what_is_sent d s q c f r h in (r, e, apart, what)

-- what is done is done by a row
pub action_has_row : (d : Draft) (s : DirEntry) (q : Request) (a : Action) → action_of d s q ≡ Some a → (r : RowLine) × (row_of d s q ≡ Some r) × (action_in r.form ≡ Some a)
action_has_row d s q a h = at (row_of d s q) refl h
  where
    at : (o : Option RowLine) → row_of d s q ≡ o → option_and_then (λ r. action_in r.form) o ≡ Some a → (r : RowLine) × (row_of d s q ≡ Some r) × (action_in r.form ≡ Some a)
    at None e h = absurd cc
    at (Some r) e h = (r, e, h)
