-- Who is sent a forward, and which.
use Rattle.std.proofs.Common.{◌≡◌, ℕ, Option, Some, None, refl, ap, ◌∙◌, inl, inr}
use Rattle.std.specs.Option.{option_and_then}
use Rattle.pg_perm.specs.declared.kinds.Event.TheVariants.{Store}
use Rattle.pg_perm.specs.declared.kinds.Who.TheVariants.{Other, Sharer, Owner}
use Rattle.pg_perm.specs.declared.kinds.FwdClass.TheVariants.{Inv}
use Rattle.pg_perm.specs.declared.draft.Draft.{Draft}
use Rattle.pg_perm.specs.declared.draft.RowLine.{RowLine}
use Rattle.pg_perm.specs.declared.draft.Action.TheVariants as action
use Rattle.pg_terms.specs.Terms.{forward_of}
use Rattle.pg_terms.specs.Rows.{action_in}
use Rattle.pg_directory.specs.DirEntries.{DirEntry, Request, who, row_of}
use Rattle.pg_directory.specs.Sends.{forward_sent, forward_by_row}
use Rattle.pg_directory.specs.Sound.{IsSound}
use Rattle.pg_directory.specs.Requests.{action_of}
use Rattle.pg_directory.proofs.Cores.{same_core}
use Rattle.pg_directory.proofs.Facts.{forward_acts}
use Rattle.pg_directory.proofs.Holders.{owner_of_who, sharer_of_who, other_of_who}
use Rattle.pg_directory.proofs.Handling.{IsSentFor, sent_has_row}

-- the requestor is sent none
pub none_to_requestor : (d : Draft) (s : DirEntry) (q : Request) → forward_sent d s q q.core ≡ None
none_to_requestor d s q = at (row_of d s q)
  where
    at : (o : Option RowLine) → option_and_then (forward_by_row d s q q.core) o ≡ None
    at None = refl
    at (Some r) = rw (same_core q.core) refl

-- who holds nothing is sent none
pub none_to_others : (d : Draft) (s : DirEntry) (q : Request) (c : ℕ) → who s c ≡ Other → forward_sent d s q c ≡ None
none_to_others d s q c nothing = at (forward_sent d s q c) refl
  where
    never : (r : RowLine) (f : ℕ) → IsSentFor d s q.event c r f → ⊥
    never r f (inl inv) = let out = (other_of_who s c nothing).1 in absurd (cc (out, inv.1))
    never r f (inr passes) = let out = (other_of_who s c nothing).0 in absurd (cc (out, passes.0))

    at : (o : Option ℕ) → forward_sent d s q c ≡ o → o ≡ None
    at None e = refl
    at (Some f) e = let (r, row, apart, what) = sent_has_row d s q c f e in absurd (never r f what)

-- a sharer is sent an invalidation alone, by a store
pub inv_to_sharer : (d : Draft) (s : DirEntry) (q : Request) (c f : ℕ) → who s c ≡ Sharer → forward_sent d s q c ≡ Some f → (q.event ≡ Store) × (forward_of d Inv ≡ Some f)
inv_to_sharer d s q c f shares e = let (r, row, apart, what) = sent_has_row d s q c f e in at r what
  where
    at : (r : RowLine) → IsSentFor d s q.event c r f → (q.event ≡ Store) × (forward_of d Inv ≡ Some f)
    at r (inl inv) = (inv.0, inv.2)
    at r (inr passes) = let out = (sharer_of_who s c shares).0 in absurd (cc (out, passes.0))

-- the owner is sent what is passed on alone
pub passed_to_owner : (d : Draft) (n : ℕ) (s : DirEntry) (q : Request) (c f : ℕ) → IsSound d n s → who s c ≡ Owner → forward_sent d s q c ≡ Some f
    → action_of d s q ≡ Some (action.Forward f)
passed_to_owner d n s q c f sound owns e = let (r, row, apart, what) = sent_has_row d s q c f e in at r row what
  where
    at : (r : RowLine) → row_of d s q ≡ Some r → IsSentFor d s q.event c r f → action_of d s q ≡ Some (action.Forward f)
    at r row (inl inv) = let out = (sound.owner c (owner_of_who s c owns)).1 in absurd (cc (out, inv.1))
    at r row (inr passes) = ap (λ o. option_and_then (λ r. action_in r.form) o) row ∙ forward_acts f r.form passes.1
