-- The race order: whether the first forward that a core hasn't seen comes before its own entry or after it.
use Rattle.std.proofs.Common.{◌≡◌, ◌≢◌, ℕ, suc, ◌<◌, ◌≤◌, arith, true, false, Some, None, refl, sym, ap, subst, ◌∙◌, ◌⊎◌, inl, inr}
use Rattle.std.specs.Prelude.{◌==◌}
use Rattle.std.proofs.lemmas.Bool.{eq-eqb}
use Rattle.pg_perm.specs.declared.kinds.Event.TheVariants.{Store, Evict}
use Rattle.pg_perm.specs.declared.kinds.Who.{Who}
use Rattle.pg_perm.specs.declared.kinds.Who.TheVariants.{Other, Sharer, Owner}
use Rattle.pg_perm.specs.declared.kinds.FwdClass.TheVariants.{Inv}
use Rattle.pg_perm.specs.declared.draft.Draft.{Draft}
use Rattle.pg_terms.specs.Terms.{has_class}
use Rattle.pg_directory.specs.DirEntries.{DirEntry, Request, who, entry_after_row, entry_after}
use Rattle.pg_directory.specs.Sends.{forward_sent}
use Rattle.pg_directory.specs.Requests.{IsHandled}
use Rattle.pg_directory.specs.Kinds.{Kind, Stale, Read_shared, Read_owned, Read_share, Read_keep, Read_drop, Write_reply, Write_drop, Write_count, Evict_owner, Evict_sharer, forward_by_kind}
use Rattle.pg_directory.proofs.Facts.{first_has_class}
use Rattle.pg_directory.proofs.Holders.{who_of_owner}
use Rattle.pg_directory.proofs.OfKind.{entry_after-some}
use Rattle.pg_order.specs.Orders.{DirOrder, entry_message}
use Rattle.pg_order.proofs.Known.{IsKnown}
use Rattle.pg_order.proofs.Quiet.{unchanged}
use Rattle.pg_order.proofs.Invs.{who_sharer}

-- who holds nothing is sent nothing, and a sharer an invalidation alone
sharer_inv : (d : Draft) (k : Kind) (f : ℕ) → forward_by_kind d k Sharer ≡ Some f → has_class Inv d f ≡ true
sharer_inv d Stale f e = cc
sharer_inv d Read_shared f e = cc
sharer_inv d Read_owned f e = cc
sharer_inv d (Read_share g) f e = cc
sharer_inv d (Read_keep g) f e = cc
sharer_inv d (Read_drop g) f e = cc
sharer_inv d Write_reply f e = first_has_class d Inv f e
sharer_inv d (Write_drop g) f e = first_has_class d Inv f e
sharer_inv d Write_count f e = first_has_class d Inv f e
sharer_inv d Evict_owner f e = cc
sharer_inv d Evict_sharer f e = cc

other_none : (d : Draft) (k : Kind) → forward_by_kind d k Other ≡ None
other_none d Stale = refl
other_none d Read_shared = refl
other_none d Read_owned = refl
other_none d (Read_share g) = refl
other_none d (Read_keep g) = refl
other_none d (Read_drop g) = refl
other_none d Write_reply = refl
other_none d (Write_drop g) = refl
other_none d Write_count = refl
other_none d Evict_owner = refl
other_none d Evict_sharer = refl

pub sent_is : (d : Draft) (n : ℕ) (s : DirEntry) (q : Request) (c f : ℕ) → IsHandled d n s q → (q.core == c) ≡ false → forward_sent d s q c ≡ Some f → (who s c ≡ Owner) ⊎ ((who s c ≡ Sharer) × (has_class Inv d f ≡ true))
sent_is d n s q c f h ne sends = let (k, next, of) = h.kind in at k (who s c) refl (sym (of.sends c ne) ∙ sends)
  where
    at : (k : Kind) (w : Who) → who s c ≡ w → forward_by_kind d k w ≡ Some f → (who s c ≡ Owner) ⊎ ((who s c ≡ Sharer) × (has_class Inv d f ≡ true))
    at k Other is e = absurd (let none = other_none d k in cc (none, e))
    at k Sharer is e = inr (is, sharer_inv d k f e)
    at k Owner is e = inl is

-- a forward that is no invalidation, to a core that was no owner, comes after its own entry
pub after_own : (d : Draft) (n : ℕ) (p : DirOrder) → IsKnown d n p → (c seen entry g f : ℕ) → seen ≤ entry → g < p.top → seen ≤ g → (p.at entry).core ≡ c → who (p.dir_entry seen) c ≢ Owner
    → ((j : ℕ) → seen ≤ j → j < entry → ((p.at j).core == c) ≡ false) → ((j : ℕ) → seen ≤ j → j < g → entry_message d p c j ≡ None)
    → ((p.at g).core == c) ≡ false → forward_sent d (p.dir_entry g) (p.at g) c ≡ Some f → has_class Inv d f ≡ false → entry < g
after_own d n p k c seen entry g f low inside from own no_owner others quiet other sends not_inv =
    elim (let split : (g < entry) ⊎ ((g ≡ entry) ⊎ (entry < g)) = search arith in split) [
      | inl before ↦ absurd (never before)
      | inr (inl same) ↦ absurd (let mine : (p.at g).core ≡ c = subst (λ j. (p.at j).core ≡ c) (sym same) own in let is = eq-eqb (p.at g).core c mine in cc (is, other))
      | inr (inr after) ↦ after
    ]
  where
    never : g < entry → ⊥
    never before =
        let same = (unchanged d n p k c seen g from (omega (arith, inside)) (λ j lo hi. others j lo (omega (arith, hi, before))) quiet).who in
        elim (sent_is d n (p.dir_entry g) (p.at g) c f (k.handled g inside) other sends) [ inl owns ↦ no_owner (sym same ∙ owns) | inr (shares, inv) ↦ absurd (cc (inv, not_inv)) ]

-- who stores owns afterwards
pub writer_owns : (d : Draft) (n : ℕ) (s : DirEntry) (q : Request) → IsHandled d n s q → q.event ≡ Store → who (entry_after d s q) q.core ≡ Owner
writer_owns d n s q h store =
    let (r, row) = h.row (λ e. absurd (let x : Store ≡ Evict = sym store ∙ e in cc)) in
    ap (λ t. who t q.core) (entry_after-some d s q r row ∙ ap (λ e. entry_after_row d r e q.core s) store) ∙ who_of_owner (entry_after_row d r Store q.core s) q.core refl

-- an invalidation comes before the own store
pub before_own : (d : Draft) (n : ℕ) (p : DirOrder) → IsKnown d n p → (c entry g f : ℕ) → entry < p.top → g < p.top → (p.at entry).core ≡ c → (p.at entry).event ≡ Store
    → ((j : ℕ) → entry < j → j < p.top → ((p.at j).core == c) ≡ false) → ((j : ℕ) → entry < j → j < g → entry_message d p c j ≡ None)
    → ((p.at g).core == c) ≡ false → forward_sent d (p.dir_entry g) (p.at g) c ≡ Some f → has_class Inv d f ≡ true → g < entry
before_own d n p k c entry g f stands inside own store others quiet other sends inv =
    elim (let split : (g < entry) ⊎ ((g ≡ entry) ⊎ (entry < g)) = search arith in split) [
      | inl before ↦ before
      | inr (inl same) ↦ absurd (let mine : (p.at g).core ≡ c = subst (λ j. (p.at j).core ≡ c) (sym same) own in let is = eq-eqb (p.at g).core c mine in cc (is, other))
      | inr (inr after) ↦ absurd (never after)
    ]
  where
    never : entry < g → ⊥
    never later =
        let owns : who (p.dir_entry (suc entry)) c ≡ Owner = ap (λ s. who s c) (k.past.follows entry stands) ∙ ap (who (entry_after d (p.dir_entry entry) (p.at entry))) (sym own) ∙ writer_owns d n (p.dir_entry entry) (p.at entry) (k.handled entry stands) store in
        let same = (unchanged d n p k c (suc entry) g (omega (arith, later)) (omega (arith, inside)) (λ j lo hi. others j (omega (arith, lo)) (omega (arith, hi, inside))) (λ j lo hi. quiet j (omega (arith, lo)) hi)).who in
        let shares = who_sharer d n (p.dir_entry g) (p.at g) c f (k.handled g inside) other sends inv in
        let x : Sharer ≡ Owner = sym shares ∙ same ∙ owns in cc
