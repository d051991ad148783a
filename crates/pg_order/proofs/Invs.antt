-- An invalidation goes to a sharer, who then owes an answer.
use Rattle.std.proofs.Common.{◌≡◌, ℕ, suc, ◌<◌, ◌≤◌, arith, Bool, true, false, ◌||◌, cond, List, [], ◌∷◌, Option, Some, None, refl, sym, subst, ◌∙◌}
use Rattle.std.specs.Prelude.{◌==◌, nat_lt, ◌&&◌, if◌then◌else◌}
use Rattle.std.specs.Option.{option_and_then}
use Rattle.std.proofs.lemmas.Bool.{eqb-true, lt-ltb}
use Rattle.pg_perm.specs.declared.kinds.Event.{Event}
use Rattle.pg_perm.specs.declared.kinds.Event.TheVariants.{Load, Store, Evict}
use Rattle.pg_perm.specs.declared.kinds.Who.{Who}
use Rattle.pg_perm.specs.declared.kinds.Who.TheVariants.{Other, Sharer, Owner}
use Rattle.pg_perm.specs.declared.kinds.FwdClass.TheVariants.{Inv, Share, Keep, Drop}
use Rattle.pg_perm.specs.declared.draft.Draft.{Draft}
use Rattle.pg_perm.specs.declared.draft.RowLine.{RowLine}
use Rattle.pg_terms.specs.Terms.{has_class, same_event, is, forward_of}
use Rattle.pg_terms.specs.Due.{forward_in}
use Rattle.pg_shape.proofs.Shaped.{is_then_some}
use Rattle.pg_directory.specs.DirEntries.{DirEntry, Request, is_among, without_core, who, row_of}
use Rattle.pg_directory.specs.Sends.{forward_sent, forward_by_row}
use Rattle.pg_directory.specs.Requests.{IsHandled}
use Rattle.pg_directory.specs.Kinds.{Kind, Stale, Read_shared, Read_owned, Read_share, Read_keep, Read_drop, Write_reply, Write_drop, Write_count, Evict_owner, Evict_sharer, forward_by_kind, IsOfKind}
use Rattle.pg_directory.proofs.Facts.{one_class}
use Rattle.pg_directory.proofs.Cores.{among_without_other}
use Rattle.pg_directory.proofs.Holders.{sharer_of_who, who_of_owner}
use Rattle.pg_order.specs.Messages.{tally}
use Rattle.pg_order.specs.Orders.{DirOrder}
use Rattle.pg_order.specs.Views.{View, acks_owed}

apart : (d : Draft) (g f : ℕ) → (Some g ≡ Some f) → has_class Inv d f ≡ true → (has_class Share d g ≡ true) → ⊥
apart d g f e inv class = let same : g ≡ f = cc in cc (one_class d f Inv Share inv (subst (λ g. has_class Share d g ≡ true) same class))

apart_keep : (d : Draft) (g f : ℕ) → (Some g ≡ Some f) → has_class Inv d f ≡ true → (has_class Keep d g ≡ true) → ⊥
apart_keep d g f e inv class = let same : g ≡ f = cc in cc (one_class d f Inv Keep inv (subst (λ g. has_class Keep d g ≡ true) same class))

apart_drop : (d : Draft) (g f : ℕ) → (Some g ≡ Some f) → has_class Inv d f ≡ true → (has_class Drop d g ≡ true) → ⊥
apart_drop d g f e inv class = let same : g ≡ f = cc in cc (one_class d f Inv Drop inv (subst (λ g. has_class Drop d g ≡ true) same class))

pub who_sharer : (d : Draft) (n : ℕ) (s : DirEntry) (q : Request) (c f : ℕ) → IsHandled d n s q → (q.core == c) ≡ false → forward_sent d s q c ≡ Some f → has_class Inv d f ≡ true → who s c ≡ Sharer
who_sharer d n s q c f h ne sends inv =
    let (k, next, of) = h.kind in by k next of (who s c) (sym (of.sends c ne) ∙ sends)
  where
    by : (k : Kind) (next : ℕ) → IsOfKind d s q k next → (w : Who) → forward_by_kind d k w ≡ Some f → w ≡ Sharer
    by Stale next of w e = cc
    by Read_shared next of w e = cc
    by Read_owned next of w e = cc
    by (Read_share g) next of Other e = cc
    by (Read_share g) next of Sharer e = cc
    by (Read_share g) next of Owner e = absurd (apart d g f e inv of.known.2)
    by (Read_keep g) next of Other e = cc
    by (Read_keep g) next of Sharer e = cc
    by (Read_keep g) next of Owner e = absurd (apart_keep d g f e inv of.known.2)
    by (Read_drop g) next of Other e = cc
    by (Read_drop g) next of Sharer e = cc
    by (Read_drop g) next of Owner e = absurd (apart_drop d g f e inv of.known.3)
    by Write_reply next of Other e = cc
    by Write_reply next of Sharer e = refl
    by Write_reply next of Owner e = cc
    by (Write_drop g) next of Other e = cc
    by (Write_drop g) next of Sharer e = refl
    by (Write_drop g) next of Owner e = absurd (apart_drop d g f e inv of.known.2)
    by Write_count next of Other e = cc
    by Write_count next of Sharer e = refl
    by Write_count next of Owner e = cc
    by Evict_owner next of w e = cc
    by Evict_sharer next of w e = cc

pub inv_shares : (d : Draft) (n : ℕ) (s : DirEntry) (q : Request) (c f : ℕ) → IsHandled d n s q → (q.core == c) ≡ false → forward_sent d s q c ≡ Some f → has_class Inv d f ≡ true → is_among (without_core q.core s.sharers) c ≡ true
inv_shares d n s q c f h ne sends inv = among_without_other q.core c s.sharers ne ∙ (sharer_of_who s c (who_sharer d n s q c f h ne sends inv)).1

-- what is sent by another request than a store goes to the owner, and is no invalidation
other_sends : (d : Draft) (s : DirEntry) (q : Request) (c f : ℕ) → forward_sent d s q c ≡ Some f → same_event q.event Store ≡ false → (is s.owner c ≡ true) × ((q.core == c) ≡ false)
other_sends d s q c f sends other = at (row_of d s q) sends
  where
    by : (r : RowLine) (a b : Bool) → (q.core == c) ≡ a → is s.owner c ≡ b → (if a then None else if same_event q.event Store && is_among s.sharers c then forward_of d Inv else if b then forward_in r.form else None) ≡ Some f → (is s.owner c ≡ true) × ((q.core == c) ≡ false)
    by r true b own is h = cc
    by r false true ne is h = (is, ne)
    by r false false ne is h = absurd (let none : None ≡ Some f = rw other at h in cc)

    at : (o : Option RowLine) → option_and_then (forward_by_row d s q c) o ≡ Some f → (is s.owner c ≡ true) × ((q.core == c) ≡ false)
    at None h = cc
    at (Some r) h = by r (q.core == c) (is s.owner c) refl refl h

no_owner_inv : (d : Draft) (n : ℕ) (s : DirEntry) (q : Request) (c f : ℕ) → IsHandled d n s q → forward_sent d s q c ≡ Some f → has_class Inv d f ≡ true → same_event q.event Store ≡ false → ⊥
no_owner_inv d n s q c f h sends inv other =
    let (owns, ne) = other_sends d s q c f sends other in
    let among = inv_shares d n s q c f h ne sends inv in
    let (k, next, of) = h.kind in
    sharer_no_owner (who s c) (who_sharer d n s q c f h ne sends inv) (who_of_owner s c (is_then_some s.owner c owns))
  where
    sharer_no_owner : (w : Who) → w ≡ Sharer → w ≡ Owner → ⊥
    sharer_no_owner w a b = let x : Sharer ≡ Owner = sym a ∙ b in cc

reads : (d : Draft) (n : ℕ) (s : DirEntry) (q : Request) (c f : ℕ) → IsHandled d n s q → forward_sent d s q c ≡ Some f → has_class Inv d f ≡ true → q.event ≡ Load → ⊥
reads d n s q c f h sends inv is = no_owner_inv d n s q c f h sends inv (rw is refl)

evicts : (d : Draft) (n : ℕ) (s : DirEntry) (q : Request) (c f : ℕ) → IsHandled d n s q → forward_sent d s q c ≡ Some f → has_class Inv d f ≡ true → q.event ≡ Evict → ⊥
evicts d n s q c f h sends inv is = no_owner_inv d n s q c f h sends inv (rw is refl)

tally_some : (p : ℕ → Bool) (xs : List ℕ) (x : ℕ) → is_among xs x ≡ true → p x ≡ true → 1 ≤ tally p xs
tally_some p [] x among h = cc
tally_some p (y ∷ xs) x among h = at (y == x) refl among (λ among. tally_some p xs x among h)
  where
    at : (b : Bool) → (y == x) ≡ b → (b || is_among xs x) ≡ true → (is_among xs x ≡ true → 1 ≤ tally p xs) → 1 ≤ tally p (y ∷ xs)
    at true same among below =
        let is = eqb-true y x same in
        let first : cond {A = ℕ} (p y) 1 0 ≡ 1 = subst (λ z. cond {A = ℕ} (p z) 1 0 ≡ 1) (sym is) (rw h refl) in omega (arith, first)
    at false other among below = let rest = below among in omega (arith, rest)

pub owes_some : (p : DirOrder) (v : View) (j e : ℕ) → is_among (without_core (p.at j).core (p.dir_entry j).sharers) e ≡ true → v.seen e < suc j → 1 ≤ acks_owed p v j
owes_some p v j e among low = tally_some (λ c. nat_lt (v.seen c) (suc j)) (without_core (p.at j).core (p.dir_entry j).sharers) e among (lt-ltb (v.seen e) (suc j) low)

-- only a store sends an invalidation
pub inv_of_store : (d : Draft) (n : ℕ) (s : DirEntry) (q : Request) (c f : ℕ) → IsHandled d n s q → forward_sent d s q c ≡ Some f → has_class Inv d f ≡ true → (e : Event) → q.event ≡ e → e ≡ Store
inv_of_store d n s q c f h sends inv Store is = refl
inv_of_store d n s q c f h sends inv Load is = absurd (reads d n s q c f h sends inv is)
inv_of_store d n s q c f h sends inv Evict is = absurd (evicts d n s q c f h sends inv is)
