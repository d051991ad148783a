-- Whoever answers a forward with a reply is the owner, and the reply is the one that the machine gives.
use Rattle.std.proofs.Common.{◌≡◌, ℕ, suc, ◌==◌, Bool, true, false, [], ◌∷◌, Option, Some, None, refl, sym, ap, subst, ◌∙◌, arith}
use Rattle.std.specs.Prelude.{if◌then◌else◌, ◌&&◌}
use Rattle.std.specs.Option.{option_map, option_map_or, option_and_then}
use Rattle.pg_perm.specs.declared.kinds.Event.{Event}
use Rattle.pg_perm.specs.declared.kinds.Event.TheVariants as event
use Rattle.pg_perm.specs.declared.kinds.FwdClass.TheVariants.{Inv}
use Rattle.pg_perm.specs.declared.step.Step.{Step}
use Rattle.pg_perm.specs.declared.step.Step.TheVariants.{Txn}
use Rattle.pg_perm.specs.declared.draft.Draft.{Draft}
use Rattle.pg_perm.specs.declared.draft.RowLine.{RowLine}
use Rattle.pg_perm.specs.declared.draft.TakeLine.{TakeLine}
use Rattle.pg_perm.specs.declared.draft.ReplyName.TheVariants as reply
use Rattle.pg_perm.specs.declared.draft.Action.TheVariants as action
use Rattle.pg_terms.specs.Terms.{is, same_event, forward_of, take_row}
use Rattle.pg_terms.specs.Due.{forward_in}
use Rattle.pg_terms.specs.Rows.{reply_to}
use Rattle.pg_shape.specs.Shaped.{IsShaped}
use Rattle.pg_directory.specs.DirEntries.{DirEntry, Request, is_among, row_of}
use Rattle.pg_directory.specs.Sends.{forward_sent, forward_by_row}
use Rattle.pg_directory.specs.Requests.{action_of}
use Rattle.pg_directory.proofs.Facts.{first_has_class, forward_acts}
use Rattle.pg_atomic.specs.States.{State, state_of, reply_by, requestor_reply}
use Rattle.pg_atomic.proofs.Fits.{is_then_some}
use Rattle.pg_serial.specs.Groups.{Groups, at, dir_entry_after, HasAccesses, sent_to, requestor}
use Rattle.pg_serial.specs.Faithful.{IsDatum, EachIs, served_one}
use Rattle.pg_serial.proofs.Runs.{directory_at}

-- an invalidation has no reply
no_inv : (d : Draft) → IsShaped d → (x f m : ℕ) → forward_of d Inv ≡ Some f → reply_to d x f ≡ Some m → ⊥
no_inv d s x f m first answer = by (take_row d x f) refl answer
  where
    by : (o : Option TakeLine) → take_row d x f ≡ o → option_and_then (λ t. t.reply) o ≡ Some m → ⊥
    by None e h = cc h
    by (Some t) e h = let none = (s.takes.inv x f t e (first_has_class d Inv f first)).0 in cc (none, h)

pub replier_owns : (d : Draft) → IsShaped d → (t : DirEntry) (q : Request) (c f x m : ℕ) → forward_sent d t q c ≡ Some f → reply_to d x f ≡ Some m
    → (t.owner ≡ Some c) × (action_of d t q ≡ Some (action.Forward f))
replier_owns d s t q c f x m sends answer = by_row (row_of d t q) refl
  where
    by_owner : (r : RowLine) → row_of d t q ≡ Some r → (b : Bool) → is t.owner c ≡ b → (if b then forward_in r.form else None) ≡ Some f → (t.owner ≡ Some c) × (action_of d t q ≡ Some (action.Forward f))
    by_owner r row true h g = (is_then_some t.owner c h, rw row (forward_acts f r.form g))
    by_owner r row false h g = absurd cc

    by_sharer : (r : RowLine) → row_of d t q ≡ Some r → (b : Bool) → (if b then forward_of d Inv else if is t.owner c then forward_in r.form else None) ≡ Some f → (t.owner ≡ Some c) × (action_of d t q ≡ Some (action.Forward f))
    by_sharer r row true g = absurd (no_inv d s x f m g answer)
    by_sharer r row false g = by_owner r row (is t.owner c) refl g

    by_core : (r : RowLine) → row_of d t q ≡ Some r → (b : Bool)
        → (if b then None else if same_event q.event event.Store && is_among t.sharers c then forward_of d Inv else if is t.owner c then forward_in r.form else None) ≡ Some f
        → (t.owner ≡ Some c) × (action_of d t q ≡ Some (action.Forward f))
    by_core r row true g = absurd cc
    by_core r row false g = by_sharer r row (same_event q.event event.Store && is_among t.sharers c) g

    by_row : (o : Option RowLine) → row_of d t q ≡ o → (t.owner ≡ Some c) × (action_of d t q ≡ Some (action.Forward f))
    by_row None e = let none : forward_sent d t q c ≡ None = rw e refl in absurd (cc (none, sends))
    by_row (Some r) e = let some : forward_sent d t q c ≡ forward_by_row d t q c r = rw e refl in by_core r e (q.core == c) (sym some ∙ sends)

-- the requestor gets the reply of the owner
pub reply_passed : (d : Draft) → IsShaped d → (a : State) (q : Request) (c f m : ℕ) → forward_sent d a.entry q c ≡ Some f → reply_to d (state_of a c) f ≡ Some m
    → requestor_reply d a q ≡ Some (reply.Reply m)
reply_passed d s a q c f m sends answer =
    let (owner, does) = replier_owns d s a.entry q c f (state_of a c) m sends answer in
    ap (reply_by d a) does
    ∙ ap (λ (o : Option ℕ). option_map (λ i. reply.Reply i) (option_and_then (λ i. reply_to d (state_of a i) f) o)) owner
    ∙ ap (option_map (λ i. reply.Reply i)) answer

-- one entry: what its forward makes the core send is the data that the machine has for it
pub served_datum : (d : Draft) → IsShaped d → (n : ℕ) (g : Groups) → HasAccesses g → (c j v f x : ℕ) → state_of (at d n g j) c ≡ x → v ≡ (at d n g (suc j)).word
    → sent_to d (dir_entry_after d g.entry j) (g.entry j) c ≡ Some f
    → EachIs (IsDatum d g.entry (at d n g)) (served_one d v x f (requestor (g.entry j)) (suc j))
served_datum d s n g accesses c j v f x state word sends = by (reply_to d x f) refl
  where
    gives : (r : ℕ) → reply_to d x f ≡ Some r → (k : ℕ) → suc j ≡ suc k → (v ≡ (at d n g (suc k)).word)
        × ((e : Event) → g.entry k ≡ Txn (requestor (g.entry j)) e → requestor_reply d (at d n g k) (record { core = requestor (g.entry j); event = e }) ≡ Some (reply.Reply r))
    gives r answer k is =
        let same : j ≡ k = omega (arith, is) in
        subst (λ (i : ℕ). (v ≡ (at d n g (suc i)).word) × ((e : Event) → g.entry i ≡ Txn (requestor (g.entry j)) e → requestor_reply d (at d n g i) (record { core = requestor (g.entry j); event = e }) ≡ Some (reply.Reply r))) same (
          word,
          λ e asks.
              let q : Request = record { core = requestor (g.entry j); event = e } in
              let sends_to_directory : forward_sent d (at d n g j).entry q c ≡ Some f =
              ap (λ (t : DirEntry). forward_sent d t q c) (directory_at d n g accesses j).1
              ∙ sym (ap (λ (y : Step). sent_to d (dir_entry_after d g.entry j) y c) asks) ∙ sends in
              reply_passed d s (at d n g j) q c f r sends_to_directory (ap (λ (y : ℕ). reply_to d y f) state ∙ answer),
        )

    by : (o : Option ℕ) → reply_to d x f ≡ o
        → EachIs (IsDatum d g.entry (at d n g)) (option_map_or (λ r. record { reply = reply.Reply r; core = requestor (g.entry j); word = v; stamp = suc j } ∷ []) o [])
    by None e = tt
    by (Some r) e = (gives r e, tt)
