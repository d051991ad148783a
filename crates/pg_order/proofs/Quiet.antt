-- Between two entries that touch a core nothing changes for it.
use Rattle.std.proofs.Common.{◌≡◌, ℕ, zero, suc, ◌<◌, ◌≤◌, arith, Bool, true, false, Option, Some, None, refl, sym, ap, subst, ◌∙◌, ◌⊎◌, inl, inr}
use Rattle.std.specs.Prelude.{◌==◌, if◌then◌else◌}
use Rattle.std.specs.Option.{option_map}
use Rattle.pg_perm.specs.declared.kinds.Event.{Event}
use Rattle.pg_perm.specs.declared.kinds.Event.TheVariants.{Load, Store, Evict}
use Rattle.pg_perm.specs.declared.draft.Draft.{Draft}
use Rattle.pg_perm.specs.declared.draft.Action.{Action}
use Rattle.pg_perm.specs.declared.draft.Action.TheVariants as action
use Rattle.pg_directory.specs.DirEntries.{DirEntry, Request, who}
use Rattle.pg_directory.specs.Sends.{forward_sent}
use Rattle.pg_directory.specs.Sound.{fits}
use Rattle.pg_directory.specs.Requests.{action_of}
use Rattle.pg_messages.specs.declared.messages.Ordered.TheVariants.{Forward}
use Rattle.pg_order.specs.Orders.{DirOrder, acks_needed, own_message, acks_carried, message_to, entry_message}
use Rattle.pg_order.proofs.Known.{IsKnown}

-- an entry of another core that sends nothing
pub quiet_sends : (d : Draft) (s : DirEntry) (q : Request) (k c : ℕ) → (q.core == c) ≡ false → message_to d s q k c ≡ None → forward_sent d s q c ≡ None
quiet_sends d s q k c ne none = at (forward_sent d s q c) (sym (ap (λ (b : Bool). if b then own_message q.event (action_of d s q) (acks_needed s q) k else option_map (λ f. Forward f q.core (acks_carried d (acks_needed s q) f) k) (forward_sent d s q c)) ne) ∙ none)
  where
    at : (o : Option ℕ) → option_map (λ f. Forward f q.core (acks_carried d (acks_needed s q) f) k) o ≡ None → o ≡ None
    at None e = refl
    at (Some f) e = cc

-- nothing has changed for a core
pub record IsSame (d : Draft) (p : DirOrder) (c a b : ℕ) : Type 0 where
  pub who : who (p.dir_entry b) c ≡ who (p.dir_entry a) c
  pub fits : (x : ℕ) → fits d (p.dir_entry a) c x ≡ true → fits d (p.dir_entry b) c x ≡ true

pub same_at : (d : Draft) (p : DirOrder) (c a b : ℕ) → a ≡ b → IsSame d p c a b
same_at d p c a b e = subst (IsSame d p c a) e (record { who = refl; fits = λ x h. h })

same_step : (d : Draft) (n : ℕ) (p : DirOrder) → IsKnown d n p → (c a j : ℕ) → j < p.top → ((p.at j).core == c) ≡ false → entry_message d p c j ≡ None → IsSame d p c a j → IsSame d p c a (suc j)
same_step d n p k c a j low ne none before =
    let (kind, fit) = (k.handled j low).untouched c ne (quiet_sends d (p.dir_entry j) (p.at j) (suc j) c ne none) in
    let step = sym (k.past.follows j low) in
    record {
      who = ap (λ s. who s c) (sym step) ∙ kind ∙ before.who;
      fits = λ x h. ap (λ s. fits d s c x) (sym step) ∙ fit x (before.fits x h);
    }

pub unchanged : (d : Draft) (n : ℕ) (p : DirOrder) → IsKnown d n p → (c a b : ℕ) → a ≤ b → b ≤ p.top
    → ((j : ℕ) → a ≤ j → j < b → ((p.at j).core == c) ≡ false) → ((j : ℕ) → a ≤ j → j < b → entry_message d p c j ≡ None) → IsSame d p c a b
unchanged d n p k c a zero from upto others quiet = same_at d p c a zero (omega (arith, from))
unchanged d n p k c a (suc b) from upto others quiet =
    elim (let split : (a ≤ b) ⊎ (a ≡ suc b) = search arith in split) [
      | inr here ↦ same_at d p c a (suc b) here
      | inl below ↦ same_step d n p k c a b (omega (arith, upto)) (others b below (omega arith)) (quiet b below (omega arith))
          (unchanged d n p k c a b below (omega (arith, upto)) (λ j lo hi. others j lo (omega (arith, hi))) (λ j lo hi. quiet j lo (omega (arith, hi))))
    ]

-- a forward comes from an entry of another core, and tells whose it is
pub record IsSent (d : Draft) (p : DirOrder) (c j f r n k : ℕ) : Type 0 where
  pub other : ((p.at j).core == c) ≡ false
  pub sends : forward_sent d (p.dir_entry j) (p.at j) c ≡ Some f
  pub asker : r ≡ (p.at j).core
  pub count : n ≡ acks_carried d (acks_needed (p.dir_entry j) (p.at j)) f
  pub stamp : k ≡ suc j

own_no_forward : (e : Event) (a : Option Action) (n k f r m h : ℕ) → own_message e a n k ≡ Some (Forward f r m h) → ⊥
own_no_forward Load None n k f r m h e = cc
own_no_forward Load (Some (action.Reply x)) n k f r m h e = cc
own_no_forward Load (Some (action.Forward x)) n k f r m h e = cc
own_no_forward Load (Some action.Count) n k f r m h e = cc
own_no_forward Store None n k f r m h e = cc
own_no_forward Store (Some (action.Reply x)) n k f r m h e = cc
own_no_forward Store (Some (action.Forward x)) n k f r m h e = cc
own_no_forward Store (Some action.Count) n k f r m h e = cc
own_no_forward Evict a n k f r m h e = cc

pub forward_is : (d : Draft) (p : DirOrder) (c j f r n k : ℕ) → entry_message d p c j ≡ Some (Forward f r n k) → IsSent d p c j f r n k
forward_is d p c j f r n k e = at ((p.at j).core == c) refl (forward_sent d (p.dir_entry j) (p.at j) c) refl e
  where
    at : (b : Bool) → ((p.at j).core == c) ≡ b → (o : Option ℕ) → forward_sent d (p.dir_entry j) (p.at j) c ≡ o
        → (if b then own_message (p.at j).event (action_of d (p.dir_entry j) (p.at j)) (acks_needed (p.dir_entry j) (p.at j)) (suc j)
        else option_map (λ f. Forward f (p.at j).core (acks_carried d (acks_needed (p.dir_entry j) (p.at j)) f) (suc j)) o) ≡ Some (Forward f r n k) → IsSent d p c j f r n k
    at true own o s e = absurd (own_no_forward (p.at j).event (action_of d (p.dir_entry j) (p.at j)) (acks_needed (p.dir_entry j) (p.at j)) (suc j) f r n k e)
    at false ne None s e = cc
    at false ne (Some g) s e =
        let same : g ≡ f = cc in
        record { other = ne; sends = s ∙ ap Some same; asker = cc; count = subst (λ f. n ≡ acks_carried d (acks_needed (p.dir_entry j) (p.at j)) f) same (cc); stamp = cc }
