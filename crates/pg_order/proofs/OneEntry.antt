-- What one entry does, by its kind.
use Rattle.std.proofs.Common.{◌≡◌, ◌≢◌, ℕ, Bool, true, false, ◌&&◌, Option, Some, None, refl, sym, ap, subst, ◌∙◌, ◌⊎◌, inl, inr}
use Rattle.std.specs.Prelude.{◌==◌, if◌then◌else◌}
use Rattle.std.specs.Option.{option_and_then}
use Rattle.std.proofs.lemmas.Bool.{eqb-true}
use Rattle.pg_perm.specs.declared.kinds.DirKind.TheVariants as kind
use Rattle.pg_perm.specs.declared.kinds.Event.{Event}
use Rattle.pg_perm.specs.declared.kinds.Event.TheVariants.{Load, Store, Evict}
use Rattle.pg_perm.specs.declared.kinds.Who.{Who}
use Rattle.pg_perm.specs.declared.kinds.Who.TheVariants.{Other, Sharer, Owner}
use Rattle.pg_perm.specs.declared.kinds.FwdClass.TheVariants.{Share}
use Rattle.pg_perm.specs.declared.draft.Draft.{Draft}
use Rattle.pg_perm.specs.declared.draft.RowLine.{RowLine}
use Rattle.pg_terms.specs.Terms.{is, same_event, same_who, has_class}
use Rattle.pg_terms.specs.Due.{kind_is}
use Rattle.pg_terms.specs.Rows.{is_by_share}
use Rattle.pg_directory.specs.DirEntries.{DirEntry, Request, is_among, with_core, who, row_of, entry_after_share, entry_after_read, entry_after_row, entry_after}
use Rattle.pg_directory.specs.Sends.{forward_sent, forward_by_row}
use Rattle.pg_directory.specs.Requests.{IsHandled}
use Rattle.pg_directory.specs.Kinds.{Kind, Stale, Read_shared, Read_owned, Read_share, Read_keep, Read_drop, Write_reply, Write_drop, Write_count, Evict_owner, Evict_sharer, forward_by_kind, HasOwner, IsOfKind}
use Rattle.pg_directory.proofs.Cores.{among_with_same}
use Rattle.pg_directory.proofs.Holders.{who_is, who_of_owner}
use Rattle.pg_directory.proofs.OfKind.{entry_after-some}
use Rattle.pg_directory.proofs.WhoAfter.{other_who, other_after}
use Rattle.pg_order.specs.Orders.{is_stale, passed_forward}

-- the requestor of a load or a store holds something afterwards

owns_not : (s : DirEntry) (c : ℕ) → s.owner ≡ Some c → who s c ≢ Other
owns_not s c e h = let o = who_of_owner s c e in let x : Owner ≡ Other = sym o ∙ h in cc

shares_not : (s : DirEntry) (c : ℕ) → is_among s.sharers c ≡ true → who s c ≢ Other
shares_not s c among h = at (is s.owner c) refl
  where
    at : (b : Bool) → is s.owner c ≡ b → ⊥
    at true e = let x : Owner ≡ Other = sym (who_is s c true true e among) ∙ h in cc
    at false e = let x : Sharer ≡ Other = sym (who_is s c false true e among) ∙ h in cc

pub reader_holds : (d : Draft) (r : RowLine) (c : ℕ) (s : DirEntry) → who (entry_after_read d r c s) c ≢ Other
reader_holds d r c s = at (kind_is kind.Owned d r.next)
  where
    at : (b : Bool) → who (if b then record { dir = r.next; owner = Some c; sharers = s.sharers } else record { dir = r.next; owner = s.owner; sharers = with_core c s.sharers }) c ≢ Other
    at true = owns_not (record { dir = r.next; owner = Some c; sharers = s.sharers }) c refl
    at false = shares_not (record { dir = r.next; owner = s.owner; sharers = with_core c s.sharers }) c (among_with_same c s.sharers)

pub requestor_holds : (d : Draft) (s : DirEntry) (q : Request) (r : RowLine) → row_of d s q ≡ Some r → q.event ≢ Evict → who (entry_after d s q) q.core ≢ Other
requestor_holds d s q r row asks h = at q.event refl
  where
    now : (e : Event) → q.event ≡ e → who (entry_after_row d r e q.core s) q.core ≡ Other
    now e is = ap (λ e. who (entry_after_row d r e q.core s) q.core) (sym is) ∙ ap (λ t. who t q.core) (sym (entry_after-some d s q r row)) ∙ h

    at : (e : Event) → q.event ≡ e → ⊥
    at Load is = reader_holds d r q.core (if is_by_share d r then entry_after_share s else s) (now Load is)
    at Store is = owns_not (entry_after_row d r Store q.core s) q.core refl (now Store is)
    at Evict is = asks is

-- a request of the stale kind is an evict
pub stale_kind : (d : Draft) (n : ℕ) (s : DirEntry) (q : Request) (next : ℕ) → IsHandled d n s q → IsOfKind d s q Stale next → is_stale s q ≡ true
stale_kind d n s q next h of = at q.event refl
  where
    none : who (entry_after d s q) q.core ≡ Other
    none = ap (λ t. who t q.core) of.knows ∙ of.known

    live : q.event ≢ Evict → ⊥
    live asks = let (r, row) = h.row (λ e. absurd (asks e)) in requestor_holds d s q r row asks none

    at : (e : Event) → q.event ≡ e → (same_event q.event Evict && same_who (who s q.core) Other) ≡ true
    at Load is = absurd (live (λ e. let x : Load ≡ Evict = sym is ∙ e in cc))
    at Store is = absurd (live (λ e. let x : Store ≡ Evict = sym is ∙ e in cc))
    at Evict is = rw (is, of.known) refl

-- a stale request changes nothing
pub stale_changes_nothing : (d : Draft) (n : ℕ) (s : DirEntry) (q : Request) → IsHandled d n s q → is_stale s q ≡ true → (entry_after d s q ≡ s) × (who s q.core ≡ Other)
stale_changes_nothing d n s q h stale = at q.event refl (who s q.core) refl stale
  where
    at : (e : Event) → q.event ≡ e → (w : Who) → who s q.core ≡ w → (same_event e Evict && same_who w Other) ≡ true → (entry_after d s q ≡ s) × (who s q.core ≡ Other)
    at Load is w same h = cc
    at Store is w same h = cc
    at Evict is Other same g = (h.stale is same, same)
    at Evict is Sharer same h = cc
    at Evict is Owner same h = cc

-- whoever holds nothing is nothing afterwards, but by an entry of its own
nothing_stays : (k : Kind) → other_who k Other ≡ Other
nothing_stays Stale = refl
nothing_stays Read_shared = refl
nothing_stays Read_owned = refl
nothing_stays (Read_share f) = refl
nothing_stays (Read_keep f) = refl
nothing_stays (Read_drop f) = refl
nothing_stays Write_reply = refl
nothing_stays (Write_drop f) = refl
nothing_stays Write_count = refl
nothing_stays Evict_owner = refl
nothing_stays Evict_sharer = refl

pub still_nothing : (d : Draft) (n : ℕ) (s : DirEntry) (q : Request) (c : ℕ) → IsHandled d n s q → (q.core == c) ≡ false → who s c ≡ Other → who (entry_after d s q) c ≡ Other
still_nothing d n s q c h ne none = let (k, next, of) = h.kind in other_after d s q k next c of ne ∙ ap (other_who k) none ∙ nothing_stays k

-- what is sent to the owner is passed on by the kind

pub sent_not_own : (d : Draft) (s : DirEntry) (q : Request) (c : ℕ) → (q.core == c) ≡ true → forward_sent d s q c ≡ None
sent_not_own d s q c same = at (row_of d s q)
  where
    at : (o : Option RowLine) → option_and_then (forward_by_row d s q c) o ≡ None
    at None = refl
    at (Some r) = rw same refl

pub passed_is : (d : Draft) (s : DirEntry) (q : Request) (o : ℕ) → s.owner ≡ Some o → passed_forward d s q ≡ forward_sent d s q o
passed_is d s q o owner = rw owner refl

pub passed_other : (d : Draft) (s : DirEntry) (q : Request) (o f : ℕ) → s.owner ≡ Some o → passed_forward d s q ≡ Some f → (q.core == o) ≡ false
passed_other d s q o f owner e = at (q.core == o) refl
  where
    at : (b : Bool) → (q.core == o) ≡ b → (q.core == o) ≡ false
    at true same = absurd (let x : None ≡ Some f = sym (sent_not_own d s q o same) ∙ sym (passed_is d s q o owner) ∙ e in cc)
    at false ne = ne

pub passed_by : (d : Draft) (s : DirEntry) (q : Request) (k : Kind) (next o : ℕ) → IsOfKind d s q k next → s.owner ≡ Some o → (q.core == o) ≡ false → passed_forward d s q ≡ forward_by_kind d k Owner
passed_by d s q k next o of owner ne = passed_is d s q o owner ∙ of.sends o ne ∙ ap (forward_by_kind d k) (who_of_owner s o owner)

-- an owner and one that holds nothing are two
apart : (s : DirEntry) (c o : ℕ) → who s c ≡ Other → s.owner ≡ Some o → (c == o) ≡ false
apart s c o none owner = at (c == o) refl
  where
    at : (b : Bool) → (c == o) ≡ b → (c == o) ≡ false
    at true e = absurd (owns_not s c (owner ∙ ap Some (sym (eqb-true c o e))) none)
    at false e = e

-- an entry of a core that holds nothing, where there is an owner, is stale or passed on
pub goes_to_owner : (d : Draft) (n : ℕ) (s : DirEntry) (q : Request) (o : ℕ) → IsHandled d n s q → is_stale s q ≡ false → who s q.core ≡ Other → s.owner ≡ Some o
    → (f : ℕ) × (passed_forward d s q ≡ Some f)
goes_to_owner d n s q o h live none owner = let (k, next, of) = h.kind in by k next of (passed_by d s q k next o of owner (apart s q.core o none owner))
  where
    by : (k : Kind) (next : ℕ) → IsOfKind d s q k next → passed_forward d s q ≡ forward_by_kind d k Owner → (f : ℕ) × (passed_forward d s q ≡ Some f)
    by Stale next of e = let stale = stale_kind d n s q next h of in cc
    by Read_shared next of e = let none = of.known.1 in cc
    by Read_owned next of e = let none = of.known.0 in cc
    by (Read_share f) next of e = (f, e)
    by (Read_keep f) next of e = (f, e)
    by (Read_drop f) next of e = (f, e)
    by Write_reply next of e = let none = of.known.0 in cc
    by (Write_drop f) next of e = (f, e)
    by Write_count next of e = let owns = of.known.0 in cc
    by Evict_owner next of e = let owns = of.known.0 in cc
    by Evict_sharer next of e = let owns = of.known.0 in cc

-- a request that is passed on leaves an owner, unless it is by a share
pub owner_stays : (d : Draft) (n : ℕ) (s : DirEntry) (q : Request) (o f : ℕ) → IsHandled d n s q → s.owner ≡ Some o → passed_forward d s q ≡ Some f
    → HasOwner (entry_after d s q) ⊎ (has_class Share d f ≡ true)
owner_stays d n s q o f h owner e = let (k, next, of) = h.kind in by k next of (sym (passed_by d s q k next o of owner (passed_other d s q o f owner e)) ∙ e)
  where
    by : (k : Kind) (next : ℕ) → IsOfKind d s q k next → forward_by_kind d k Owner ≡ Some f → HasOwner (entry_after d s q) ⊎ (has_class Share d f ≡ true)
    by Stale next of e = cc
    by Read_shared next of e = cc
    by Read_owned next of e = cc
    by (Read_share g) next of e = let same : g ≡ f = cc in inr (subst (λ f. has_class Share d f ≡ true) same of.known.2)
    by (Read_keep g) next of e = inl (o, ap (λ t. t.owner) of.knows ∙ owner)
    by (Read_drop g) next of e = inl (q.core, ap (λ t. t.owner) of.knows)
    by Write_reply next of e = cc
    by (Write_drop g) next of e = inl (q.core, ap (λ t. t.owner) of.knows)
    by Write_count next of e = cc
    by Evict_owner next of e = cc
    by Evict_sharer next of e = cc
