-- A forward that isn't an invalidation goes to the owner, and is what the row passes on.
use Rattle.std.proofs.Common.{◌≡◌, ℕ, suc, ◌<◌, ◌≤◌, arith, Bool, true, false, ◌&&◌, Option, Some, None, refl, ap, ◌∙◌}
use Rattle.std.specs.Prelude.{◌==◌, nat_lt, is_some, if◌then◌else◌}
use Rattle.std.specs.Option.{option_and_then}
use Rattle.std.proofs.lemmas.Bool.{le-ltb, lt-ltb}
use Rattle.pg_perm.specs.declared.kinds.Event.TheVariants.{Store}
use Rattle.pg_perm.specs.declared.kinds.FwdClass.TheVariants.{Inv}
use Rattle.pg_perm.specs.declared.draft.Draft.{Draft}
use Rattle.pg_perm.specs.declared.draft.RowLine.{RowLine}
use Rattle.pg_perm.specs.declared.draft.Action.TheVariants as action
use Rattle.pg_terms.specs.Terms.{same_event, is, forward_of, has_class}
use Rattle.pg_terms.specs.Due.{forward_in}
use Rattle.pg_terms.specs.Rows.{action_in}
use Rattle.pg_directory.specs.DirEntries.{DirEntry, Request, is_among, row_of}
use Rattle.pg_directory.specs.Sends.{forward_sent, forward_by_row}
use Rattle.pg_directory.specs.Sound.{IsSound}
use Rattle.pg_directory.specs.Requests.{IsHandled, action_of}
use Rattle.pg_directory.proofs.Holders.{is_same}
use Rattle.pg_shape.proofs.Shaped.{is_then_some}
use Rattle.pg_directory.proofs.Facts.{first_has_class, forward_acts, action_forwards}
use Rattle.pg_order.specs.Orders.{DirOrder, passed_forward}
use Rattle.pg_order.specs.Views.{View, is_open_at, is_unserved}
use Rattle.pg_order.proofs.OneEntry.{passed_is}

pub record IsPassedOn (d : Draft) (s : DirEntry) (q : Request) (c f : ℕ) : Type 0 where
  pub owner : s.owner ≡ Some c
  pub passed : passed_forward d s q ≡ Some f
  pub action : action_of d s q ≡ Some (action.Forward f)

pub passed_on : (d : Draft) (s : DirEntry) (q : Request) (c f : ℕ) → forward_sent d s q c ≡ Some f → has_class Inv d f ≡ false → IsPassedOn d s q c f
passed_on d s q c f sends other = at (row_of d s q) refl sends
  where
    from : (r : RowLine) → row_of d s q ≡ Some r → (a b e : Bool) → is s.owner c ≡ e → (if a then None else if b then forward_of d Inv else if e then forward_in r.form else None) ≡ Some f → IsPassedOn d s q c f
    from r row true b e own h = cc
    from r row false true e own h = absurd (let class = first_has_class d Inv f h in cc (class, other))
    from r row false false true own h =
        let owner = is_then_some s.owner c own in
        record { owner = owner; passed = passed_is d s q c owner ∙ sends; action = ap (λ (o : Option RowLine). option_and_then (λ r. action_in r.form) o) row ∙ forward_acts f r.form h }
    from r row false false false own h = cc

    at : (o : Option RowLine) → row_of d s q ≡ o → option_and_then (forward_by_row d s q c) o ≡ Some f → IsPassedOn d s q c f
    at None row h = cc
    at (Some r) row h = from r row (q.core == c) (same_event q.event Store && is_among s.sharers c) (is s.owner c) refl h

-- it isn't served while it stands in the queue
pub queued_unserved : (d : Draft) (p : DirOrder) (v : View) (c g f : ℕ) → IsPassedOn d (p.dir_entry g) (p.at g) c f → v.seen c ≤ g → is_unserved d p v g ≡ true
queued_unserved d p v c g f on low =
    let waits : nat_lt (v.seen c) (suc g) ≡ true = lt-ltb (v.seen c) (suc g) (omega (arith, low)) in
    let opens : is_open_at v g (Some c) ≡ true = rw waits refl in
    ap (λ (t : Option ℕ). is_some t && is_open_at v g (p.dir_entry g).owner) on.passed ∙ ap (is_open_at v g) on.owner ∙ opens

-- and is served once the owner has answered it
pub answered_served : (d : Draft) (p : DirOrder) (v : View) (c g f : ℕ) → IsPassedOn d (p.dir_entry g) (p.at g) c f → v.seen c ≡ suc g → (v.pending c ≡ true → suc g < v.last c) → is_unserved d p v g ≡ false
answered_served d p v c g f on seen before =
    let past : nat_lt (v.seen c) (suc g) ≡ false = le-ltb (v.seen c) (suc g) (omega (arith, seen)) in
    let closed : is_open_at v g (Some c) ≡ false = rw past (shut (v.pending c) refl) in
    ap (λ (t : Option ℕ). is_some t && is_open_at v g (p.dir_entry g).owner) on.passed ∙ ap (is_open_at v g) on.owner ∙ closed
  where
    shut : (b : Bool) → v.pending c ≡ b → (v.pending c && nat_lt (v.last c) (suc g)) ≡ false
    shut true pend = let lt = before pend in rw pend (le-ltb (v.last c) (suc g) (omega (arith, lt)))
    shut false pend = rw pend refl

-- what the row passes on is sent to the owner
pub action_passes : (d : Draft) (n : ℕ) (s : DirEntry) (q : Request) (f : ℕ) → IsSound d n s → IsHandled d n s q → action_of d s q ≡ Some (action.Forward f) → (o : ℕ) × (s.owner ≡ Some o) × (passed_forward d s q ≡ Some f)
action_passes d n s q f so h e =
    let (o, owner, ne) = h.passed f e in
    (o, owner, passed_is d s q o owner ∙ at (row_of d s q) refl o owner ne e)
  where
    by : (r : RowLine) → (o : ℕ) → s.owner ≡ Some o → (q.core == o) ≡ false → (b : Bool) → forward_in r.form ≡ Some f → forward_by_row d s q o r ≡ Some f
    by r o owner ne b acts = rw (ne, (so.owner o owner).1, and_false (same_event q.event Store), is_same s.owner o owner) acts
      where
        and_false : (b : Bool) → (b && false) ≡ false
        and_false true = refl
        and_false false = refl

    at : (t : Option RowLine) → row_of d s q ≡ t → (o : ℕ) → s.owner ≡ Some o → (q.core == o) ≡ false → option_and_then (λ r. action_in r.form) (row_of d s q) ≡ Some (action.Forward f) → option_and_then (forward_by_row d s q o) (row_of d s q) ≡ Some f
    at None row o owner ne acts = let no_row : option_and_then (λ (r : RowLine). action_in r.form) None ≡ Some (action.Forward f) = rw row at acts in cc
    at (Some r) row o owner ne acts = let acts : action_in r.form ≡ Some (action.Forward f) = rw row at acts in rw row (by r o owner ne true (action_forwards f r.form acts))
