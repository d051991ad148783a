-- A writer stands at its grant, which is served, and nobody else holds anything that can be used.
use Rattle.std.proofs.Common.{◌≡◌, ◌≢◌, ℕ, zero, suc, ◌<◌, ◌≤◌, arith, Bool, true, false, [], Option, Some, None, refl, sym, ap, subst, ◌∙◌, ◌⊎◌, inl, inr}
use Rattle.std.specs.Prelude.{◌==◌}
use Rattle.std.proofs.lemmas.Bool.{eqb-true}
use Rattle.pg_perm.specs.declared.kinds.Event.TheVariants.{Store, Evict}
use Rattle.pg_perm.specs.declared.kinds.DirKind.{DirKind}
use Rattle.pg_perm.specs.declared.kinds.DirKind.TheVariants as kind
use Rattle.pg_perm.specs.declared.kinds.Who.{Who}
use Rattle.pg_perm.specs.declared.kinds.Who.TheVariants.{Other, Sharer, Owner}
use Rattle.pg_perm.specs.declared.kinds.FwdClass.TheVariants.{Inv}
use Rattle.pg_perm.specs.declared.draft.Draft.{Draft}
use Rattle.pg_terms.specs.Terms.{cache_is, has_class}
use Rattle.pg_terms.specs.Due.{kind_is}
use Rattle.pg_terms.specs.Rows.{allows}
use Rattle.pg_shape.specs.Shaped.{IsShaped}
use Rattle.pg_directory.specs.DirEntries.{DirEntry, Request, who, entry_after_row, entry_after}
use Rattle.pg_directory.specs.Sends.{forward_sent}
use Rattle.pg_directory.specs.Sound.{IsSound, fits, fits_as}
use Rattle.pg_directory.specs.Requests.{IsHandled}
use Rattle.pg_directory.specs.Kinds.{Kind, Stale, Read_shared, Read_owned, Read_share, Read_keep, Read_drop, Write_reply, Write_drop, Write_count, Evict_owner, Evict_sharer, forward_by_kind, IsOfKind}
use Rattle.pg_directory.proofs.Facts.{reader_no_writer, mixed_not_owned}
use Rattle.pg_directory.proofs.Holders.{owner_of_who, who_of_owner}
use Rattle.pg_directory.proofs.OfKind.{entry_after-some}
use Rattle.pg_directory.proofs.WhoAfter.{other_who, other_after}
use Rattle.pg_atomic.proofs.Fits.{out_stores, shared_stores, owner_writes}
use Rattle.pg_order.specs.Orders.{DirOrder}
use Rattle.pg_order.specs.Views.{View, IsWaiting, IsFresh}
use Rattle.pg_order.proofs.Known.{IsKnown}
use Rattle.pg_order.proofs.OneEntry.{stale_changes_nothing}
use Rattle.pg_order.proofs.NoOvertaking.{Behind, holders, overtakes_not}
use Rattle.pg_order.proofs.Passed.{passed_on, queued_unserved}
use Rattle.pg_order.proofs.Lost.{lost}

-- who may write owns, and nobody shares
pub writer_alone : (d : Draft) (n : ℕ) (s : DirEntry) (c x : ℕ) → IsShaped d → IsSound d n s → fits d s c x ≡ true → cache_is (allows Store) d x ≡ true
    → (s.owner ≡ Some c) × (s.sharers ≡ []) × (kind_is kind.Owned d s.dir ≡ true)
writer_alone d n s c x sh so fit may = at (who s c) refl fit
  where
    of : who s c ≡ Owner → fits_as d s.dir Owner x ≡ true → (k : DirKind) → kind_is k d s.dir ≡ true → (s.owner ≡ Some c) × (s.sharers ≡ []) × (kind_is kind.Owned d s.dir ≡ true)
    of owns f kind.Idle k = let owner = owner_of_who s c owns in let none = (so.idle k).0 in cc
    of owns f kind.Shared k = let owner = owner_of_who s c owns in let none = (so.shared k).0 in cc
    of owns f kind.Owned k = (owner_of_who s c owns, (so.owned k).1, k)
    of owns f kind.Mixed k =
        let denied = reader_no_writer d x (sh.lists.lists_readers s.dir x k f) in
        let writes = owner_writes d sh s.dir x f may in cc

    at : (w : Who) → who s c ≡ w → fits_as d s.dir w x ≡ true → (s.owner ≡ Some c) × (s.sharers ≡ []) × (kind_is kind.Owned d s.dir ≡ true)
    at Other e f = let denied = out_stores d sh x f in cc
    at Sharer e f = let denied = shared_stores d sh x f in cc
    at Owner e f = of e f so.kind.0 so.kind.1

-- whom another's request sends something is no sole owner afterwards
pub sent_not_alone : (d : Draft) (n : ℕ) (s : DirEntry) (q : Request) (c f : ℕ) → IsHandled d n s q → (q.core == c) ≡ false → forward_sent d s q c ≡ Some f
    → who (entry_after d s q) c ≡ Owner → kind_is kind.Owned d (entry_after d s q).dir ≡ true → ⊥
sent_not_alone d n s q c f h ne sends owns owned = let (k, next, of) = h.kind in by k next of (who s c) (sym (of.sends c ne) ∙ sends) (sym (other_after d s q k next c of ne) ∙ owns)
  where
    by : (k : Kind) (next : ℕ) → IsOfKind d s q k next → (w : Who) → forward_by_kind d k w ≡ Some f → other_who k w ≡ Owner → ⊥
    by Stale next of w e o = cc
    by Read_shared next of w e o = cc
    by Read_owned next of w e o = cc
    by (Read_share g) next of Other e o = cc
    by (Read_share g) next of Sharer e o = cc
    by (Read_share g) next of Owner e o = cc
    by (Read_keep g) next of Other e o = cc
    by (Read_keep g) next of Sharer e o = cc
    by (Read_keep g) next of Owner e o =
        let mixed = mixed_not_owned d next of.known.3 in
        let is_next : (entry_after d s q).dir ≡ next = ap (λ t. t.dir) of.knows in
        let not = subst (λ x. kind_is kind.Owned d x ≡ true) is_next owned in cc (mixed, not)
    by (Read_drop g) next of Other e o = cc
    by (Read_drop g) next of Sharer e o = cc
    by (Read_drop g) next of Owner e o = cc
    by Write_reply next of w e o = cc
    by (Write_drop g) next of w e o = cc
    by Write_count next of w e o = cc
    by Evict_owner next of w e o = cc
    by Evict_sharer next of w e o = cc

-- who stores owns afterwards, and nobody shares
pub store_takes : (d : Draft) (n : ℕ) (s : DirEntry) (q : Request) → IsHandled d n s q → q.event ≡ Store → ((entry_after d s q).owner ≡ Some q.core) × ((entry_after d s q).sharers ≡ [])
store_takes d n s q h store =
    let (r, row) = h.row (λ e. absurd (let x : Store ≡ Evict = sym store ∙ e in cc)) in
    let step : entry_after d s q ≡ entry_after_row d r Store q.core s = entry_after-some d s q r row ∙ ap (λ e. entry_after_row d r e q.core s) store in
    (ap (λ t. t.owner) step, ap (λ t. t.sharers) step)

-- what is known of a line that can be used: it holds something where it has caught up, and an entry of its own ahead of that is a store that it waits for
pub record IsHolding (p : DirOrder) (v : View) (e : ℕ) : Type 0 where
  pub holds : who (p.dir_entry (v.seen e)) e ≢ Other
  pub viewed : v.seen e ≤ p.top
  pub behind : v.pending e ≡ true → v.seen e < v.last e
  pub ahead : (x : ℕ) → x < p.top → v.seen e ≤ x → (p.at x).core ≡ e
      → (v.last e ≡ suc x) × (v.pending e ≡ true) × ((p.dir_entry (suc x)).owner ≡ Some e) × ((p.dir_entry (suc x)).sharers ≡ [])

-- an entry of a core in a stretch, or none
abbrev pub IsOwn : DirOrder → ℕ → ℕ → ℕ → Type 0
IsOwn p e a b = (x : ℕ) × (a ≤ x) × (x < b) × ((p.at x).core ≡ e)

pub own_or : (p : DirOrder) (e a b : ℕ) → IsOwn p e a b ⊎ ((x : ℕ) → a ≤ x → x < b → ((p.at x).core == e) ≡ false)
own_or p e a zero = inr (λ x lo hi. absurd (omega (arith, hi)))
own_or p e a (suc b) = elim (own_or p e a b) [
  | inl (x, lo, hi, own) ↦ inl (x, lo, omega (arith, hi), own)
  | inr none ↦ at ((p.at b).core == e) refl none
]
  where
    at : (t : Bool) → ((p.at b).core == e) ≡ t → ((x : ℕ) → a ≤ x → x < b → ((p.at x).core == e) ≡ false) → IsOwn p e a (suc b) ⊎ ((x : ℕ) → a ≤ x → x < suc b → ((p.at x).core == e) ≡ false)
    at true is none = elim (let split : (a ≤ b) ⊎ (b < a) = search arith in split) [
      | inl lo ↦ inl (b, lo, omega arith, eqb-true (p.at b).core e is)
      | inr hi ↦ inr (λ x lo lt. absurd (omega (arith, lo, lt, hi)))
    ]
    at false is none = inr (λ x lo lt. elim (let split : (x < b) ⊎ (x ≡ b) = omega_split x b lt in split) [ inl l ↦ none x lo l | inr q ↦ subst (λ x. ((p.at x).core == e) ≡ false) (sym q) is ])
      where
        omega_split : (x b : ℕ) → x < suc b → (x < b) ⊎ (x ≡ b)
        omega_split x b lt = search arith

-- a fresh grant that its core doesn't wait for any more is served
pub grant_served : (d : Draft) (n : ℕ) (p : DirOrder) (v : View) → IsKnown d n p → IsWaiting d p v → (g c : ℕ) → g < p.top → (p.at g).core ≡ c → (p.dir_entry (suc g)).owner ≡ Some c → v.pending c ≡ false → Behind d p v g → ⊥
grant_served d n p v k w g c inside own owns idle (inl stale) =
    let (same, none) = stale_changes_nothing d n (p.dir_entry g) (p.at g) (k.handled g inside) stale in
    let owner : who (p.dir_entry (suc g)) c ≡ Owner = who_of_owner (p.dir_entry (suc g)) c owns in
    let other : who (p.dir_entry (suc g)) c ≡ Other = ap (λ s. who s c) (k.past.follows g inside ∙ same) ∙ ap (who (p.dir_entry g)) (sym own) ∙ none in
    cc (owner, other)
grant_served d n p v k w g c inside own owns idle (inr un) =
    let pend : v.pending c ≡ true = subst (λ e. v.pending e ≡ true) own (w.forwards g inside un).1 in cc (pend, idle)

-- a settled writer excludes everybody else
pub nobody_else : (d : Draft) (n : ℕ) (p : DirOrder) (v : View) → IsKnown d n p → IsWaiting d p v → (g c e : ℕ) → g < p.top → IsFresh (suc g) c p v → (p.at g).core ≡ c → v.pending c ≡ false
    → IsHolding p v e → e ≢ c → ⊥
nobody_else d n p v k w g c e inside f mine idle u other = elim (let split : (suc g ≤ v.seen e) ⊎ (v.seen e ≤ g) = search arith in split) [ inl later ↦ after_it later | inr earlier ↦ before_it earlier ]
  where
    served : Behind d p v g → ⊥
    served b = grant_served d n p v k w g c inside mine f.owns idle b

    after_it : suc g ≤ v.seen e → ⊥
    after_it later = elim (holders d n p k (suc g) c f.owns f.alone (v.seen e) later u.viewed e) [
      | inl none ↦ u.holds none
      | inr (inl same) ↦ other same
      | inr (inr (x, lo, hi, own, live)) ↦
          let viewed = u.viewed in
          let low : x < p.top = omega (arith, hi, viewed) in
          elim (overtakes_not d n p v k w (suc g) c f x lo low) [
            | inl stale ↦ absurd (cc (stale, live))
            | inr un ↦
                let (last, pend) = subst (λ e. (v.last e ≡ suc x) × (v.pending e ≡ true)) own (w.forwards x low un) in
                let behind = u.behind pend in absurd (omega (arith, behind, last, hi))
          ]
    ]

    fresh_before : (x r : ℕ) → x < g → IsFresh (suc x) r p v → ⊥
    fresh_before x r lt fresh = served (overtakes_not d n p v k w (suc x) r fresh g lt inside)

    -- what it holds before the grant is taken by the grant, so a message of that waits
    taken : who (p.dir_entry g) e ≢ Other → v.seen e ≤ g → ⊥
    taken holds low = by (forward_sent d (p.dir_entry g) (p.at g) e) refl
      where
        ne : ((p.at g).core == e) ≡ false
        ne = at ((p.at g).core == e) refl
          where
            at : (b : Bool) → ((p.at g).core == e) ≡ b → b ≡ false
            at true same = absurd (other (sym (eqb-true (p.at g).core e same) ∙ mine))
            at false same = refl

        now : who (entry_after d (p.dir_entry g) (p.at g)) e ≡ Other
        now = elim (holders d n p k (suc g) c f.owns f.alone (suc g) (omega arith) (omega (arith, inside)) e) [
          | inl none ↦ ap (λ s. who s e) (sym (k.past.follows g inside)) ∙ none
          | inr (inl same) ↦ absurd (other same)
          | inr (inr (x, lo, hi, own, live)) ↦ absurd (omega (arith, lo, hi))
        ]

        by : (o : Option ℕ) → forward_sent d (p.dir_entry g) (p.at g) e ≡ o → ⊥
        by None sends = holds (sym ((k.handled g inside).untouched e ne sends).0 ∙ now)
        by (Some h) sends = class (has_class Inv d h) refl
          where
            waits : v.pending (p.at g).core ≡ true → ⊥
            waits pend = let is : v.pending c ≡ true = subst (λ e. v.pending e ≡ true) mine pend in cc (is, idle)

            class : (b : Bool) → has_class Inv d h ≡ b → ⊥
            class true inv = waits (w.invs g e h inside sends inv (omega (arith, low))).1
            class false not_inv = waits (w.forwards g inside (queued_unserved d p v e g h (passed_on d (p.dir_entry g) (p.at g) e h sends not_inv) low)).1

    before_it : v.seen e ≤ g → ⊥
    before_it earlier = elim (own_or p e (v.seen e) g) [
      | inl (x, lo, hi, own) ↦
          let (last, pend, owns, alone) = u.ahead x (omega (arith, hi, inside)) lo own in
          fresh_before x e hi (record { grant = last; owns = owns; alone = alone; unspent = inl pend })
      | inr none ↦ elim (lost d n p v k w e g earlier (omega (arith, inside)) none) [
        | inl same ↦ taken (λ nothing. u.holds (sym same ∙ nothing)) earlier
        | inr (x, lo, hi, inl end) ↦ absurd (omega (arith, end, hi, inside))
        | inr (x, lo, hi, inr (fresh, pend)) ↦ fresh_before x (p.at x).core hi fresh
      ]
    ]
