-- What the order of a world is, read as steps.
use Rattle.std.proofs.Common.{◌≡◌, ◌≢◌, ℕ, zero, suc, ◌<◌, ◌≤◌, arith, Bool, true, false, ◌&&◌, List, [], ◌∷◌, length, Option, Some, None, refl, sym, ap, subst, ◌∙◌, ◌⊎◌, inl, inr}
use Rattle.std.specs.Prelude.{◌==◌, map, get_or, if◌then◌else◌}
use Rattle.pg_perm.specs.declared.kinds.Event.{Event}
use Rattle.pg_perm.specs.declared.kinds.Event.TheVariants as event
use Rattle.pg_perm.specs.declared.kinds.FwdClass.TheVariants.{Inv}
use Rattle.pg_perm.specs.declared.kinds.Who.{Who}
use Rattle.pg_perm.specs.declared.kinds.Who.TheVariants.{Other, Sharer, Owner}
use Rattle.pg_perm.specs.declared.step.Step.{Step}
use Rattle.pg_perm.specs.declared.step.Step.TheVariants.{Txn, Stale}
use Rattle.pg_perm.specs.declared.draft.Draft.{Draft}
use Rattle.pg_directory.specs.DirEntries.{DirEntry, Request, who}
use Rattle.pg_directory.specs.Sends.{forward_sent}
use Rattle.pg_directory.specs.Requests.{IsHandled}
use Rattle.pg_terms.specs.Terms.{same_event, same_who, has_class}
use Rattle.pg_order.specs.Orders.{DirOrder, is_stale, passed_forward, request_at}
use Rattle.pg_order.proofs.Known.{IsKnown}
use Rattle.pg_order.proofs.OneEntry.{stale_changes_nothing, passed_is}
use Rattle.pg_order.proofs.Invs.{inv_of_store}
use Rattle.pg_order.proofs.Passed.{passed_on}
use Rattle.pg_safe.proofs.Replies.{evict_acts_not}
use Rattle.pg_messages.specs.declared.messages.OrderEntry.{OrderEntry}
use Rattle.pg_controllers.specs.Worlds.{World, order_of, request_in}
use Rattle.pg_orderly.specs.Orderly.{Mark}
use Rattle.pg_serial.specs.Groups.{requestor, sent_to, dir_entry_after_step, IsOthers}
use Rattle.pg_serial.specs.Serial.{entry_step, entry_at, nothing}
use Rattle.pg_serial.specs.Faithful.{shown_entry, top_of}
use Rattle.pg_refined.specs.Shown.{entry_of, shown, no_entry, HasFlags}

map_length : {A : Type 0} {B : Type 0} {C : Type 0} (f : A → B) (g : A → C) (xs : List A) → length (map f xs) ≡ length (map g xs)
map_length f g [] = refl
map_length f g (x ∷ xs) = ap suc (map_length f g xs)

got_entry : (xs : List OrderEntry) (j : ℕ) → get_or (map entry_of xs) j nothing ≡ entry_of (get_or xs j no_entry)
got_entry [] zero = refl
got_entry [] (suc j) = refl
got_entry (x ∷ xs) zero = refl
got_entry (x ∷ xs) (suc j) = got_entry xs j

got_request : (xs : List OrderEntry) (j : ℕ) → j < length (map request_in xs) → request_at (map request_in xs) j ≡ request_in (get_or xs j no_entry)
got_request [] j low = absurd (omega (arith, low))
got_request (x ∷ xs) zero low = refl
got_request (x ∷ xs) (suc j) low = got_request xs j (omega (arith, low))

-- the entries as steps, beside the requests that they are
pub record IsBridged (d : Draft) (p : DirOrder) (entry : ℕ → Step) (directory : ℕ → DirEntry) : Type 0 where
  pub entries : (j : ℕ) → j < p.top → ((is_stale (p.dir_entry j) (p.at j) ≡ true) × (entry j ≡ Stale (p.at j).core)) ⊎ ((is_stale (p.dir_entry j) (p.at j) ≡ false) × (entry j ≡ Txn (p.at j).core (p.at j).event))
  pub dir_entries : (k : ℕ) → k ≤ p.top → directory k ≡ p.dir_entry k

entry_is : (d : Draft) (w : World) → HasFlags d w → (j : ℕ) → j < (order_of d w).top
    → ((is_stale ((order_of d w).dir_entry j) ((order_of d w).at j) ≡ true) × (entry_at (map entry_of w.order) j ≡ Stale ((order_of d w).at j).core))
    ⊎ ((is_stale ((order_of d w).dir_entry j) ((order_of d w).at j) ≡ false) × (entry_at (map entry_of w.order) j ≡ Txn ((order_of d w).at j).core ((order_of d w).at j).event))
entry_is d w flags j low = by (get_or w.order j no_entry).stale refl
  where
    p : DirOrder
    p = order_of d w

    e : OrderEntry
    e = get_or w.order j no_entry

    here : entry_at (map entry_of w.order) j ≡ entry_step (entry_of e)
    here = ap entry_step (got_entry w.order j)

    request : p.at j ≡ request_in e
    request = got_request w.order j low

    by : (b : Bool) → (get_or w.order j no_entry).stale ≡ b
        → ((is_stale (p.dir_entry j) (p.at j) ≡ true) × (entry_at (map entry_of w.order) j ≡ Stale (p.at j).core))
        ⊎ ((is_stale (p.dir_entry j) (p.at j) ≡ false) × (entry_at (map entry_of w.order) j ≡ Txn (p.at j).core (p.at j).event))
    by true is = inl (sym (flags j low) ∙ is, here ∙ ap (λ (b : Bool). if b then Stale e.core else Txn e.core e.event) is ∙ ap (λ (q : Request). Stale q.core) (sym request))
    by false is = inr (sym (flags j low) ∙ is, here ∙ ap (λ (b : Bool). if b then Stale e.core else Txn e.core e.event) is ∙ ap (λ (q : Request). Txn q.core q.event) (sym request))

directory_is : (d : Draft) (n : ℕ) (w : World) (m : ℕ → Mark) → HasFlags d w → IsKnown d n (order_of d w) → (k : ℕ) → k ≤ (order_of d w).top → shown_entry d (shown d w m) k ≡ (order_of d w).dir_entry k
directory_is d n w m flags kn zero low = sym kn.past.starts
directory_is d n w m flags kn (suc k) low =
    let before = directory_is d n w m flags kn k (omega (arith, low)) in
    let inside : k < (order_of d w).top = omega (arith, low) in
    ap (λ (s : DirEntry). dir_entry_after_step d s (entry_at (map entry_of w.order) k)) before ∙ elim (entry_is d w flags k inside) [
      | inl (stale, is) ↦ ap (dir_entry_after_step d ((order_of d w).dir_entry k)) is
          ∙ sym (stale_changes_nothing d n ((order_of d w).dir_entry k) ((order_of d w).at k) (kn.handled k inside) stale).0 ∙ sym (kn.past.follows k inside)
      | inr (live, is) ↦ ap (dir_entry_after_step d ((order_of d w).dir_entry k)) is ∙ sym (kn.past.follows k inside)
    ]

pub bridged : (d : Draft) (n : ℕ) (w : World) (m : ℕ → Mark) → HasFlags d w → IsKnown d n (order_of d w) → IsBridged d (order_of d w) (entry_at (shown d w m).order) (shown_entry d (shown d w m))
bridged d n w m flags kn = record { entries = entry_is d w flags; dir_entries = directory_is d n w m flags kn }

pub top_is : (d : Draft) (w : World) (m : ℕ → Mark) → top_of (shown d w m) ≡ (order_of d w).top
top_is d w m = map_length entry_of request_in w.order

pub requestor_is : (d : Draft) (p : DirOrder) (entry : ℕ → Step) (directory : ℕ → DirEntry) → IsBridged d p entry directory → (j : ℕ) → j < p.top → requestor (entry j) ≡ (p.at j).core
requestor_is d p entry directory b j low = elim (b.entries j low) [ inl (stale, is) ↦ ap requestor is | inr (live, is) ↦ ap requestor is ]

-- an evict sends nothing
pub evict_sends : (d : Draft) (n : ℕ) (s : DirEntry) (q : Request) (c f : ℕ) → IsHandled d n s q → q.event ≡ event.Evict → forward_sent d s q c ≡ Some f → ⊥
evict_sends d n s q c f h evict sends = by (has_class Inv d f) refl
  where
    by : (b : Bool) → has_class Inv d f ≡ b → ⊥
    by true inv = let store = inv_of_store d n s q c f h sends inv event.Evict evict in cc
    by false other = let acts = (passed_on d s q c f sends other).action in let none = evict_acts_not d s q evict in cc (acts, none)

pub stale_evicts : (s : DirEntry) (q : Request) → is_stale s q ≡ true → (q.event ≡ event.Evict) × (who s q.core ≡ Other)
stale_evicts s q stale = by q.event refl (who s q.core) refl stale
  where
    by : (e : Event) → q.event ≡ e → (h : Who) → who s q.core ≡ h → (same_event e event.Evict && same_who h Other) ≡ true → (q.event ≡ event.Evict) × (who s q.core ≡ Other)
    by event.Load a h b e = cc
    by event.Store a h b e = cc
    by event.Evict a Other b e = (a, b)
    by event.Evict a Sharer b e = cc
    by event.Evict a Owner b e = cc

-- who holds nothing and isn't stale doesn't evict
pub live_asks : (s : DirEntry) (q : Request) → is_stale s q ≡ false → who s q.core ≡ Other → q.event ≢ event.Evict
live_asks s q live none evict = let stale : is_stale s q ≡ true = rw (evict, none) refl in cc (live, stale)

-- what an entry sends is what its request sends
pub sends_is : (d : Draft) (n : ℕ) (p : DirOrder) → IsKnown d n p → (entry : ℕ → Step) (directory : ℕ → DirEntry) → IsBridged d p entry directory → (j c : ℕ) → j < p.top → sent_to d (directory j) (entry j) c ≡ forward_sent d (p.dir_entry j) (p.at j) c
sends_is d n p kn entry directory b j c low =
    ap (λ (s : DirEntry). sent_to d s (entry j) c) (b.dir_entries j (omega (arith, low))) ∙ elim (b.entries j low) [
      | inl (stale, is) ↦ ap (λ (x : Step). sent_to d (p.dir_entry j) x c) is ∙ sym (none stale (forward_sent d (p.dir_entry j) (p.at j) c) refl)
      | inr (live, is) ↦ ap (λ (x : Step). sent_to d (p.dir_entry j) x c) is
    ]
  where
    none : is_stale (p.dir_entry j) (p.at j) ≡ true → (o : Option ℕ) → forward_sent d (p.dir_entry j) (p.at j) c ≡ o → forward_sent d (p.dir_entry j) (p.at j) c ≡ None
    none stale None e = e
    none stale (Some f) e = absurd (evict_sends d n (p.dir_entry j) (p.at j) c f (kn.handled j low) (stale_evicts (p.dir_entry j) (p.at j) stale).0 e)

-- another core's request is another's step
pub others_is : (d : Draft) (p : DirOrder) (entry : ℕ → Step) (directory : ℕ → DirEntry) → IsBridged d p entry directory → (j c : ℕ) → j < p.top → ((p.at j).core == c) ≡ false → IsOthers c (entry j)
others_is d p entry directory b j c low ne = elim (b.entries j low) [
  | inl (stale, is) ↦ subst (IsOthers c) (sym is) tt
  | inr (live, is) ↦ subst (IsOthers c) (sym is) ne
]

-- a stale request passes nothing on
pub stale_sends_nothing : (d : Draft) (n : ℕ) (s : DirEntry) (q : Request) → IsHandled d n s q → is_stale s q ≡ true → passed_forward d s q ≡ None
stale_sends_nothing d n s q h stale = at s.owner refl
  where
    none : (o : ℕ) → (t : Option ℕ) → forward_sent d s q o ≡ t → forward_sent d s q o ≡ None
    none o None e = e
    none o (Some f) e = absurd (evict_sends d n s q o f h (stale_evicts s q stale).0 e)

    at : (t : Option ℕ) → s.owner ≡ t → passed_forward d s q ≡ None
    at None is = rw is refl
    at (Some o) is = passed_is d s q o is ∙ none o (forward_sent d s q o) refl
