-- What a core holds is kept, or something that waits takes it away; data comes last.
use Rattle.std.proofs.Common.{◌≡◌, ◌≢◌, ℕ, zero, suc, ◌<◌, ◌≤◌, arith, true, false, [], Option, Some, None, refl, sym, ap, ◌∙◌, ◌⊎◌, inl, inr}
use Rattle.std.specs.Prelude.{◌==◌}
use Rattle.pg_perm.specs.declared.kinds.Who.{Who}
use Rattle.pg_perm.specs.declared.kinds.Who.TheVariants.{Other, Sharer, Owner}
use Rattle.pg_perm.specs.declared.kinds.FwdClass.TheVariants.{Inv}
use Rattle.pg_perm.specs.declared.draft.Draft.{Draft}
use Rattle.pg_terms.specs.Terms.{has_class}
use Rattle.pg_directory.specs.DirEntries.{DirEntry, Request, who, entry_after}
use Rattle.pg_directory.specs.Sends.{forward_sent}
use Rattle.pg_directory.specs.Kinds.{Kind, Stale, Read_shared, Read_owned, Read_share, Read_keep, Read_drop, Write_reply, Write_drop, Write_count, Evict_owner, Evict_sharer, forward_by_kind, IsOfKind}
use Rattle.pg_directory.proofs.Facts.{first_has_class}
use Rattle.pg_directory.proofs.Holders.{owner_of_who}
use Rattle.pg_directory.proofs.WhoAfter.{other_after}
use Rattle.pg_order.specs.Orders.{DirOrder, passed_forward}
use Rattle.pg_order.specs.Views.{View, is_unserved, IsWaitedFor, IsWaiting, IsFresh}
use Rattle.pg_order.proofs.Known.{IsKnown}
use Rattle.pg_order.proofs.OneEntry.{passed_is}
use Rattle.pg_order.proofs.NoOvertaking.{unserved_is, overtakes_not, Behind}

-- an entry that waits takes it away: a share, which is the last entry, or one after which another core owns
abbrev pub Cause : Draft → DirOrder → View → ℕ → ℕ → Type 0
Cause d p v b e = (x : ℕ) × (v.seen e ≤ x) × (x < b) × ((suc x ≡ p.top) ⊎ (IsFresh (suc x) (p.at x).core p v × (v.pending (p.at x).core ≡ true)))

abbrev pub Kept : Draft → DirOrder → View → ℕ → ℕ → Type 0
Kept d p v j e = ((who (p.dir_entry (suc j)) e ≡ who (p.dir_entry j) e) × ((forward_sent d (p.dir_entry j) (p.at j) e ≡ None) ⊎ (who (p.dir_entry j) e ≡ Owner))) ⊎ Cause d p v (suc j) e

one_lost : (d : Draft) (n : ℕ) (p : DirOrder) (v : View) → IsKnown d n p → IsWaiting d p v → (e j : ℕ) → j < p.top → v.seen e ≤ j → ((p.at j).core == e) ≡ false → Kept d p v j e
one_lost d n p v known w e j low from ne = let (k, next, of) = (known.handled j low).kind in at k next of (who (p.dir_entry j) e) refl
  where
    s : DirEntry
    s = p.dir_entry j

    q : Request
    q = p.at j

    step : entry_after d s q ≡ p.dir_entry (suc j)
    step = sym (known.past.follows j low)

    quiet : forward_sent d s q e ≡ None → Kept d p v j e
    quiet none = inl (ap (λ t. who t e) (sym step) ∙ ((known.handled j low).untouched e ne none).0, inl none)

    waits : IsWaitedFor p v j → (t : DirEntry) → entry_after d s q ≡ t → t.owner ≡ Some q.core → t.sharers ≡ [] → Kept d p v j e
    waits (last, pend) t is owner alone =
        inr (j, from, omega arith, inr (record { grant = last; owns = ap (λ (s : DirEntry). s.owner) (sym step ∙ is) ∙ owner; alone = ap (λ (s : DirEntry). s.sharers) (sym step ∙ is) ∙ alone; unspent = inl pend }, pend))

    unserved : (f : ℕ) → who s e ≡ Owner → forward_sent d s q e ≡ Some f → (is_unserved d p v j ≡ true) × (passed_forward d s q ≡ Some f)
    unserved f owns to =
        let owner = owner_of_who s e owns in
        let passes = passed_is d s q e owner ∙ to in (unserved_is d p v j e f owner passes (inl (omega (arith, from))), passes)

    inv : (f : ℕ) → forward_sent d s q e ≡ Some f → has_class Inv d f ≡ true → IsWaitedFor p v j
    inv f to class = w.invs j e f low to class (omega (arith, from))

    at : (k : Kind) (next : ℕ) → IsOfKind d s q k next → (h : Who) → who s e ≡ h → Kept d p v j e
    at Stale next of h is = quiet (of.sends e ne)
    at Read_shared next of h is = quiet (of.sends e ne)
    at Read_owned next of h is = quiet (of.sends e ne)
    at (Read_share f) next of Owner is =
        let to : forward_sent d s q e ≡ Some f = of.sends e ne ∙ ap (forward_by_kind d (Read_share f)) is in
        let (un, passes) = unserved f is to in inr (j, from, omega arith, inl (w.shares j f low un passes of.known.2))
    at (Read_share f) next of Sharer is = quiet (of.sends e ne ∙ ap (forward_by_kind d (Read_share f)) is)
    at (Read_share f) next of Other is = quiet (of.sends e ne ∙ ap (forward_by_kind d (Read_share f)) is)
    at (Read_keep f) next of Owner is = inl (ap (λ t. who t e) (sym step) ∙ other_after d s q (Read_keep f) next e of ne, inr is)
    at (Read_keep f) next of Sharer is = quiet (of.sends e ne ∙ ap (forward_by_kind d (Read_keep f)) is)
    at (Read_keep f) next of Other is = quiet (of.sends e ne ∙ ap (forward_by_kind d (Read_keep f)) is)
    at (Read_drop f) next of Owner is =
        let to : forward_sent d s q e ≡ Some f = of.sends e ne ∙ ap (forward_by_kind d (Read_drop f)) is in
        waits (w.forwards j low (unserved f is to).0) (record { dir = next; owner = Some q.core; sharers = s.sharers }) of.knows refl of.known.2
    at (Read_drop f) next of Sharer is = quiet (of.sends e ne ∙ ap (forward_by_kind d (Read_drop f)) is)
    at (Read_drop f) next of Other is = quiet (of.sends e ne ∙ ap (forward_by_kind d (Read_drop f)) is)
    at Write_reply next of Sharer is = by (forward_sent d s q e) refl (of.sends e ne ∙ ap (forward_by_kind d Write_reply) is)
      where
        by : (o : Option ℕ) → forward_sent d s q e ≡ o → forward_sent d s q e ≡ Rattle.pg_terms.specs.Terms.forward_of d Inv → Kept d p v j e
        by None to h = quiet to
        by (Some f) to h = waits (inv f to (first_has_class d Inv f (sym h ∙ to))) (record { dir = next; owner = Some q.core; sharers = [] }) of.knows refl refl
    at Write_reply next of Owner is = quiet (of.sends e ne ∙ ap (forward_by_kind d Write_reply) is)
    at Write_reply next of Other is = quiet (of.sends e ne ∙ ap (forward_by_kind d Write_reply) is)
    at (Write_drop f) next of Sharer is = by (forward_sent d s q e) refl (of.sends e ne ∙ ap (forward_by_kind d (Write_drop f)) is)
      where
        by : (o : Option ℕ) → forward_sent d s q e ≡ o → forward_sent d s q e ≡ Rattle.pg_terms.specs.Terms.forward_of d Inv → Kept d p v j e
        by None to h = quiet to
        by (Some g) to h = waits (inv g to (first_has_class d Inv g (sym h ∙ to))) (record { dir = next; owner = Some q.core; sharers = [] }) of.knows refl refl
    at (Write_drop f) next of Owner is =
        let to : forward_sent d s q e ≡ Some f = of.sends e ne ∙ ap (forward_by_kind d (Write_drop f)) is in
        waits (w.forwards j low (unserved f is to).0) (record { dir = next; owner = Some q.core; sharers = [] }) of.knows refl refl
    at (Write_drop f) next of Other is = quiet (of.sends e ne ∙ ap (forward_by_kind d (Write_drop f)) is)
    at Write_count next of Sharer is = by (forward_sent d s q e) refl (of.sends e ne ∙ ap (forward_by_kind d Write_count) is)
      where
        by : (o : Option ℕ) → forward_sent d s q e ≡ o → forward_sent d s q e ≡ Rattle.pg_terms.specs.Terms.forward_of d Inv → Kept d p v j e
        by None to h = quiet to
        by (Some f) to h = waits (inv f to (first_has_class d Inv f (sym h ∙ to))) (record { dir = next; owner = Some q.core; sharers = [] }) of.knows refl refl
    at Write_count next of Owner is = quiet (of.sends e ne ∙ ap (forward_by_kind d Write_count) is)
    at Write_count next of Other is = quiet (of.sends e ne ∙ ap (forward_by_kind d Write_count) is)
    at Evict_owner next of h is = quiet (of.sends e ne)
    at Evict_sharer next of h is = quiet (of.sends e ne)

-- a core keeps what it held at its view, or something that waits took it away
pub lost : (d : Draft) (n : ℕ) (p : DirOrder) (v : View) → IsKnown d n p → IsWaiting d p v → (e b : ℕ) → v.seen e ≤ b → b ≤ p.top → ((x : ℕ) → v.seen e ≤ x → x < b → ((p.at x).core == e) ≡ false)
    → (who (p.dir_entry b) e ≡ who (p.dir_entry (v.seen e)) e) ⊎ Cause d p v b e
lost d n p v known w e zero from upto others = let z : v.seen e ≡ zero = omega (arith, from) in inl (ap (λ j. who (p.dir_entry j) e) (sym z))
lost d n p v known w e (suc j) from upto others =
    elim (let split : (v.seen e ≤ j) ⊎ (v.seen e ≡ suc j) = search arith in split) [
      | inr here ↦ inl (ap (λ j. who (p.dir_entry j) e) (sym here))
      | inl below ↦ elim (lost d n p v known w e j below (omega (arith, upto)) (λ x lo hi. others x lo (omega (arith, hi)))) [
        | inr (x, lo, hi, cause) ↦ inr (x, lo, omega (arith, hi), cause)
        | inl same ↦ elim (one_lost d n p v known w e j (omega (arith, upto)) below (others j below (omega arith))) [ inl kept ↦ inl (kept.0 ∙ same) | inr cause ↦ inr cause ]
      ]
    ]

-- data in flight comes after every earlier message to its core
pub data_last : (d : Draft) (n : ℕ) (p : DirOrder) (v : View) → IsKnown d n p → IsWaiting d p v → (e m : ℕ) → m < p.top → v.seen e ≤ m → ((x : ℕ) → v.seen e ≤ x → x < m → ((p.at x).core == e) ≡ false)
    → (Behind d p v m → ⊥) → who (p.dir_entry m) e ≢ Owner → (x : ℕ) → v.seen e ≤ x → x < m → forward_sent d (p.dir_entry x) (p.at x) e ≡ None
data_last d n p v known w e m inside from others served unowned x lo hi =
    elim (one_lost d n p v known w e x (omega (arith, hi, inside)) lo (others x lo hi)) [
      | inr cause ↦ absurd (none (suc x) (omega (arith, hi)) cause)
      | inl kept ↦ elim kept.1 [ inl quiet ↦ quiet | inr owns ↦ absurd (unowned (same m from (omega arith) ∙ sym (same x lo (omega (arith, hi))) ∙ owns)) ]
    ]
  where
    none : (b : ℕ) → b ≤ m → Cause d p v b e → ⊥
    none b low (y, lo, hi, inl share) = omega (arith, share, hi, low, inside)
    none b low (y, lo, hi, inr (fresh, pend)) = served (overtakes_not d n p v known w (suc y) (p.at y).core fresh m (omega (arith, hi, low)) inside)

    same : (b : ℕ) → v.seen e ≤ b → b ≤ m → who (p.dir_entry b) e ≡ who (p.dir_entry (v.seen e)) e
    same b above low = elim (lost d n p v known w e b above (omega (arith, low, inside)) (λ y yl yh. others y yl (omega (arith, yh, low)))) [ inl kept ↦ kept | inr cause ↦ absurd (none b low cause) ]
