-- What entries of others do to a core's state: what they send it is due, and leads on to a state that fits.
use Rattle.std.proofs.Common.{◌≡◌, ◌≢◌, ℕ, zero, suc, ◌+◌, ◌<◌, ◌≤◌, arith, Bool, true, false, ◌&&◌, Option, Some, None, refl, sym, ap, subst, ◌∙◌}
use Rattle.std.specs.Prelude.{◌==◌, if◌then◌else◌}
use Rattle.std.specs.List.{list_any}
use Rattle.std.specs.Option.{option_map}
use Rattle.pg_perm.specs.declared.kinds.Event.{Event}
use Rattle.pg_perm.specs.declared.kinds.Event.TheVariants.{Store, Evict}
use Rattle.pg_perm.specs.declared.kinds.Who.{Who}
use Rattle.pg_perm.specs.declared.kinds.Who.TheVariants.{Other, Sharer, Owner}
use Rattle.pg_perm.specs.declared.kinds.FwdClass.TheVariants.{Inv}
use Rattle.pg_perm.specs.declared.draft.Draft.{Draft}
use Rattle.pg_perm.specs.declared.draft.ReplyName.{ReplyName}
use Rattle.pg_terms.specs.Terms.{is, is_owner, is_write_owner, cache_is, shared, forward_of, has_class, lists}
use Rattle.pg_terms.specs.Due.{is_to_owner, is_passed_to, is_due}
use Rattle.pg_terms.specs.Rows.{allows, final_state}
use Rattle.pg_shape.specs.Shaped.{IsShaped}
use Rattle.pg_shape.proofs.Bools.{and_of_both}
use Rattle.pg_shape.proofs.Searches.{or_left}
use Rattle.pg_directory.specs.DirEntries.{DirEntry, Request, who, entry_after}
use Rattle.pg_directory.specs.Sends.{forward_sent}
use Rattle.pg_directory.specs.Sound.{fits, fits_as}
use Rattle.pg_directory.specs.Requests.{IsHandled, IsReply, action_of}
use Rattle.pg_directory.proofs.Facts.{is_first_of_class}
use Rattle.pg_directory.proofs.Holders.{who_of_owner as owner_who, is_same}
use Rattle.pg_atomic.proofs.Fits.{out_stores, shared_stores, owner_writes}
use Rattle.pg_atomic.proofs.Transactions as txn
use Rattle.pg_messages.specs.declared.messages.Ordered.{Ordered}
use Rattle.pg_messages.specs.declared.messages.Ordered.TheVariants.{Forward}
use Rattle.pg_order.specs.Messages.{put, sent_between}
use Rattle.pg_order.specs.Orders.{DirOrder, entry_message, acks_needed, own_message, acks_carried}
use Rattle.pg_order.proofs.Known.{IsKnown}
use Rattle.pg_order.proofs.Passed.{passed_on}
use Rattle.pg_order.proofs.Invs.{who_sharer}
use Rattle.pg_order.proofs.Quiet.{quiet_sends, IsSent, forward_is}
use Rattle.pg_orderly.proofs.TagReplay.{Leads, Stays, Takes}

-- a forward that a request sends is due in each state that fits
pub sent_is_due : (d : Draft) (n : ℕ) (s : DirEntry) (q : Request) (c f x : ℕ) → IsShaped d → IsHandled d n s q → (q.core == c) ≡ false → forward_sent d s q c ≡ Some f → fits d s c x ≡ true → is_due d x f ≡ true
sent_is_due d n s q c f x sh h ne sends fit = at (has_class Inv d f) refl
  where
    at : (b : Bool) → has_class Inv d f ≡ b → is_due d x f ≡ true
    at true inv =
        let shares : is (shared d) x ≡ true = ap (λ w. fits_as d s.dir w x) (sym (who_sharer d n s q c f h ne sends inv)) ∙ fit in
        let first : is (forward_of d Inv) f ≡ true = is_same (forward_of d Inv) f (is_first_of_class d sh.forwards Inv f inv) in
        or_left (is (shared d) x && is (forward_of d Inv) f) (cache_is (λ c. is_owner c.role) d x && is_to_owner d f && list_any (is_passed_to d x f) d.rows)
        (and_of_both (is (shared d) x) (is (forward_of d Inv) f) shares first)
    at false not_inv =
        let on = passed_on d s q c f sends not_inv in
        let listed : lists d s.dir x ≡ true = ap (λ w. fits_as d s.dir w x) (sym (owner_who s c on.owner)) ∙ fit in
        txn.due_of d sh s q x f listed on.action

-- who may not write as an owner may not write at all
pub denied : (d : Draft) → IsShaped d → (n : ℕ) (w : Who) (x : ℕ) → fits_as d n w x ≡ true → cache_is is_write_owner d x ≡ false → cache_is (allows Store) d x ≡ false
denied d sh n Other x fit h = out_stores d sh x fit
denied d sh n Sharer x fit h = shared_stores d sh x fit
denied d sh n Owner x fit h = at (cache_is (allows Store) d x) refl
  where
    at : (b : Bool) → cache_is (allows Store) d x ≡ b → cache_is (allows Store) d x ≡ false
    at true e = absurd (let writes = owner_writes d sh n x fit e in cc (writes, h))
    at false e = e

-- another's entry sends nothing but a forward
pub other_forwards : (d : Draft) (p : DirOrder) (c j : ℕ) (x : Ordered) → ((p.at j).core == c) ≡ false → entry_message d p c j ≡ Some x
    → (f : ℕ) × (r : ℕ) × (n : ℕ) × (k : ℕ) × (x ≡ Forward f r n k) × IsSent d p c j f r n k
other_forwards d p c j x ne sends = at (forward_sent d (p.dir_entry j) (p.at j) c)
    (sym (ap (λ (b : Bool). if b then own_message (p.at j).event (action_of d (p.dir_entry j) (p.at j)) (acks_needed (p.dir_entry j) (p.at j)) (suc j)
    else option_map (λ f. Forward f (p.at j).core (acks_carried d (acks_needed (p.dir_entry j) (p.at j)) f) (suc j)) (forward_sent d (p.dir_entry j) (p.at j) c)) ne) ∙ sends)
  where
    at : (o : Option ℕ) → option_map (λ f. Forward f (p.at j).core (acks_carried d (acks_needed (p.dir_entry j) (p.at j)) f) (suc j)) o ≡ Some x
        → (f : ℕ) × (r : ℕ) × (n : ℕ) × (k : ℕ) × (x ≡ Forward f r n k) × IsSent d p c j f r n k
    at None e = cc
    at (Some f) e =
        let same : x ≡ Forward f (p.at j).core (acks_carried d (acks_needed (p.dir_entry j) (p.at j)) f) (suc j) = cc in
        (f, (p.at j).core, acks_carried d (acks_needed (p.dir_entry j) (p.at j)) f, suc j, same, forward_is d p c j f (p.at j).core (acks_carried d (acks_needed (p.dir_entry j) (p.at j)) f) (suc j) (sends ∙ ap Some same))

-- a core's state caught up over k entries of others
pub record IsCaught (d : Draft) (p : DirOrder) (c x a k b : ℕ) : Type 0 where
  pub state : ℕ
  pub leads : Leads d x (sent_between (entry_message d p c) a k) state
  pub fits : fits d (p.dir_entry b) c state ≡ true
  pub denies : cache_is (allows Store) d x ≡ false → cache_is (allows Store) d state ≡ false

pub catch_up : (d : Draft) (n : ℕ) (p : DirOrder) → IsShaped d → IsKnown d n p → (c x a k b : ℕ) → a + k ≡ b → b ≤ p.top → fits d (p.dir_entry a) c x ≡ true
    → ((j : ℕ) → a ≤ j → j < b → ((p.at j).core == c) ≡ false) → IsCaught d p c x a k b
catch_up d n p sh known c x a zero b sum low fit others =
    let same : a ≡ b = omega (arith, sum) in record { state = x; leads = Stays x; fits = subst (λ b. fits d (p.dir_entry b) c x ≡ true) same fit; denies = λ h. h }
catch_up d n p sh known c x a (suc k) b sum low fit others = at (entry_message d p c a) refl (λ y f. catch_up d n p sh known c y (suc a) k b (omega (arith, sum)) low f (λ j lo hi. others j (omega (arith, lo)) hi))
  where
    ne : ((p.at a).core == c) ≡ false
    ne = others a (omega arith) (omega (arith, sum))

    inside : a < p.top
    inside = omega (arith, sum, low)

    step : p.dir_entry (suc a) ≡ entry_after d (p.dir_entry a) (p.at a)
    step = known.past.follows a inside

    quiet : entry_message d p c a ≡ None → IsCaught d p c x (suc a) k b → IsCaught d p c x a (suc k) b
    quiet none rest = record { state = rest.state; leads = subst (λ o. Leads d x (put o (sent_between (entry_message d p c) (suc a) k)) rest.state) (sym none) rest.leads; fits = rest.fits; denies = rest.denies }

    at : (o : Option Ordered) → entry_message d p c a ≡ o → ((y : ℕ) → fits d (p.dir_entry (suc a)) c y ≡ true → IsCaught d p c y (suc a) k b) → IsCaught d p c x a (suc k) b
    at None none again =
        let still = ((known.handled a inside).untouched c ne (quiet_sends d (p.dir_entry a) (p.at a) (suc a) c ne none)).1 x fit in
        quiet none (again x (ap (λ s. fits d s c x) step ∙ still))
    at (Some m) sends again =
        let (f, r, i, k2, is, fw) = other_forwards d p c a m ne sends in
        let (t, row, fits_t, deny) = (known.handled a inside).applies c f x fw.sends fit in
        let rest = again t.next (ap (λ s. fits d s c t.next) step ∙ fits_t) in
        let shown : entry_message d p c a ≡ Some (Forward f r i k2) = sends ∙ ap Some is in
        record {
          state = rest.state;
          leads = subst (λ o. Leads d x (put o (sent_between (entry_message d p c) (suc a) k)) rest.state) (sym shown)
              (Takes x rest.state f r i k2 (sent_between (entry_message d p c) (suc a) k) t (sent_is_due d n (p.dir_entry a) (p.at a) c f x sh (known.handled a inside) ne fw.sends fit) row rest.leads);
          fits = rest.fits;
          denies = λ h. rest.denies (denied d sh (entry_after d (p.dir_entry a) (p.at a)).dir (who (entry_after d (p.dir_entry a) (p.at a)) c) t.next fits_t deny);
        }

-- what an entry grants
pub granted_by : (d : Draft) (n : ℕ) (p : DirOrder) → IsKnown d n p → (c entry s : ℕ) (e : Event) (name : ReplyName) → entry < p.top → (p.at entry).core ≡ c → (p.at entry).event ≡ e → e ≢ Evict
    → fits d (p.dir_entry entry) c s ≡ true → cache_is (allows e) d s ≡ false → IsReply d (p.dir_entry entry) (p.at entry) name
    → (t : ℕ) × (final_state d s e name ≡ Some t) × (fits d (p.dir_entry (suc entry)) c t ≡ true)
granted_by d n p k c entry s e name inside own event asks fit lacks reply =
    let (t, ends, fits_t, may) = (k.handled entry inside).granted (λ h. asks (sym event ∙ h)) s name (subst (λ c. fits d (p.dir_entry entry) c s ≡ true) (sym own) fit)
    (subst (λ e. cache_is (allows e) d s ≡ false) (sym event) lacks) reply in
    (t, subst (λ e. final_state d s e name ≡ Some t) event ends, ap (λ s. fits d s c t) (k.past.follows entry inside) ∙ subst (λ c. fits d (entry_after d (p.dir_entry entry) (p.at entry)) c t ≡ true) own fits_t)
