-- What is left where data, or an acknowledgement, was taken away.
use Rattle.std.proofs.Common.{◌≡◌, ℕ, zero, suc, ◌<◌, ◌≤◌, arith, Bool, true, false, ◌&&◌, not, cond, [], ◌++◌, Some, None, refl, sym, ap, subst, ◌∙◌}
use Rattle.std.specs.Prelude.{◌==◌, slice_get}
use Rattle.std.specs.List.{remove}
use Rattle.std.proofs.lemmas.List.{append-nil}
use Rattle.pg_perm.specs.declared.draft.Draft.{Draft}
use Rattle.pg_directory.specs.Sends.{forward_sent}
use Rattle.pg_directory.specs.Requests.{action_of}
use Rattle.pg_directory.proofs.Cores.{same_core}
use Rattle.pg_messages.specs.declared.messages.Ordered.TheVariants.{Forward}
use Rattle.pg_order.specs.Messages.{tally}
use Rattle.pg_order.specs.Orders.{DirOrder, acks_needed, acks_carried, entry_message}
use Rattle.pg_order.specs.Views.{View, is_unserved, acks_owed}
use Rattle.pg_order.proofs.OneEntry.{sent_not_own}
use Rattle.pg_order.proofs.Quiet.{quiet_sends}
use Rattle.pg_messages.specs.declared.messages.Reply.TheVariants.{Data, InvAck}
use Rattle.pg_controllers.specs.Networks.{Core}
use Rattle.pg_controllers.specs.Lines.{LineResult}
use Rattle.pg_controllers.specs.Worlds.{World, core, done_of, order_of}
use Rattle.pg_orderly.specs.Orderly.{Mark, is_pending, view_of, is_storing, is_granted, brings_data, is_data_to, is_ack_to, is_write_back, is_data_due, AcksAre, IsOrderly}
use Rattle.pg_orderly.proofs.Keeping.{moved}
use Rattle.pg_orderly.proofs.Acks.{acks_same}
use Rattle.pg_orderly.proofs.Filled.{tally_removed}
use Rattle.pg_completions.proofs.Picks.{with_reply}

-- the world with the reply taken away and nothing sent
pub silent_kept : (d : Draft) (n : ℕ) (w : World) (c i : ℕ) (a : LineResult) (m : ℕ → Mark) → a.replies ≡ []
    → IsOrderly d n (moved c (record (core w c) { line = a.line; slot = a.slot }) (remove w.replies i) (w.done ++ done_of c a.done) w) m → IsOrderly d n (with_reply w c i a) m
silent_kept d n w c i a m silent o =
    subst (λ rs. IsOrderly d n (moved c (record (core w c) { line = a.line; slot = a.slot }) rs (w.done ++ done_of c a.done) w) m) (sym (ap (λ xs. remove w.replies i ++ xs) silent ∙ append-nil (remove w.replies i))) o

-- data of core c
pub record IsTaken (w : World) (c i : ℕ) : Type 0 where
  pub none : tally (is_data_to c) (remove w.replies i) ≡ 0
  pub others : (e : ℕ) → (c == e) ≡ false → tally (is_data_to e) (remove w.replies i) ≡ tally (is_data_to e) w.replies
  pub acks : (e : ℕ) → tally (is_ack_to e) (remove w.replies i) ≡ tally (is_ack_to e) w.replies
  pub wbs : tally is_write_back (remove w.replies i) ≡ tally is_write_back w.replies

pub data_taken : (d : Draft) (n : ℕ) (w : World) (m : ℕ → Mark) (i r c v cnt k : ℕ) → c < n → IsOrderly d n w m → slice_get w.replies i ≡ Some (Data r c v cnt k) → IsTaken w c i
data_taken d n w m i r c v cnt k low o get = record {
  none =
      let all = tally_removed (is_data_to c) w.replies i (Data r c v cnt k) get in
      let one : cond {A = ℕ} (c == c) 1 0 ≡ 1 = rw (same_core c) refl in
      let was = (o.answered c low).filled in
      let most = at_most (is_data_due d (order_of d w) (view_of w m) (core w c) (m c).last) in omega (arith, all, one, was, most);
  others = λ e ne.
      let all = tally_removed (is_data_to e) w.replies i (Data r c v cnt k) get in
      let none : cond {A = ℕ} (c == e) 1 0 ≡ 0 = ap (λ b. cond {A = ℕ} b 1 0) ne in omega (arith, all, none);
  acks = λ e. let all = tally_removed (is_ack_to e) w.replies i (Data r c v cnt k) get in omega (arith, all);
  wbs = let all = tally_removed is_write_back w.replies i (Data r c v cnt k) get in omega (arith, all);
}
  where
    at_most : (b : Bool) → cond {A = ℕ} b 1 0 ≤ 1
    at_most true = omega arith
    at_most false = omega arith

-- an acknowledgement for core c
pub record IsAcked (w : World) (c i : ℕ) : Type 0 where
  pub own : tally (is_ack_to c) w.replies ≡ suc (tally (is_ack_to c) (remove w.replies i))
  pub others : (e : ℕ) → (c == e) ≡ false → tally (is_ack_to e) (remove w.replies i) ≡ tally (is_ack_to e) w.replies
  pub data_as : (e : ℕ) → tally (is_data_to e) (remove w.replies i) ≡ tally (is_data_to e) w.replies
  pub wbs : tally is_write_back (remove w.replies i) ≡ tally is_write_back w.replies

pub ack_taken : (w : World) (i c k : ℕ) → slice_get w.replies i ≡ Some (InvAck c k) → IsAcked w c i
ack_taken w i c k get = record {
  own =
      let all = tally_removed (is_ack_to c) w.replies i (InvAck c k) get in
      let one : cond {A = ℕ} (c == c) 1 0 ≡ 1 = rw (same_core c) refl in omega (arith, all, one);
  others = λ e ne.
      let all = tally_removed (is_ack_to e) w.replies i (InvAck c k) get in
      let none : cond {A = ℕ} (c == e) 1 0 ≡ 0 = ap (λ b. cond {A = ℕ} b 1 0) ne in omega (arith, all, none);
  data_as = λ e. let all = tally_removed (is_data_to e) w.replies i (InvAck c k) get in omega (arith, all);
  wbs = let all = tally_removed is_write_back w.replies i (InvAck c k) get in omega (arith, all);
}

-- an entry that sends a core no message sends it no forward
pub sends_none : (d : Draft) (p : DirOrder) (c j : ℕ) → entry_message d p c j ≡ None → forward_sent d (p.dir_entry j) (p.at j) c ≡ None
sends_none d p c j none = at ((p.at j).core == c) refl
  where
    at : (b : Bool) → ((p.at j).core == c) ≡ b → forward_sent d (p.dir_entry j) (p.at j) c ≡ None
    at true own = sent_not_own d (p.dir_entry j) (p.at j) c own
    at false ne = quiet_sends d (p.dir_entry j) (p.at j) (suc j) c ne none

-- a forward to a core is its message
pub sent_to : (d : Draft) (p : DirOrder) (c j f : ℕ) → forward_sent d (p.dir_entry j) (p.at j) c ≡ Some f → entry_message d p c j ≡ Some (Forward f (p.at j).core (acks_carried d (acks_needed (p.dir_entry j) (p.at j)) f) (suc j))
sent_to d p c j f sends = at ((p.at j).core == c) refl
  where
    at : (b : Bool) → ((p.at j).core == c) ≡ b → entry_message d p c j ≡ Some (Forward f (p.at j).core (acks_carried d (acks_needed (p.dir_entry j) (p.at j)) f) (suc j))
    at true own = absurd (let none = sent_not_own d (p.dir_entry j) (p.at j) c own in cc (none, sends))
    at false ne = rw (ne, sends) refl

-- what is granted has no data due
pub granted_not_due : (d : Draft) (p : DirOrder) (v : View) (x : Core) (k : ℕ) → is_granted x.line.desc ≡ true → is_data_due d p v x k ≡ false
granted_not_due d p v x zero g = refl
granted_not_due d p v x (suc j) g = rw g (at (is_pending x) (brings_data (action_of d (p.dir_entry j) (p.at j))) (not (is_unserved d p v j)))
  where
    at : (a b e : Bool) → (a && false && b && e) ≡ false
    at true b e = refl
    at false b e = refl

-- what a core has got, and is owed, where its operation goes on
pub own_acks : (p : DirOrder) (v u : View) (c : ℕ) (x y : Core) (acks now : ℕ) → u.last c ≡ v.last c → is_pending y ≡ is_pending x → is_storing y.line.desc ≡ is_storing x.line.desc → y.line.got ≡ x.line.got → now ≡ acks
    → ((j : ℕ) → (is_pending x && is_storing x.line.desc) ≡ true → v.last c ≡ suc j → acks_owed p u j ≡ acks_owed p v j)
    → AcksAre p v x acks (v.last c) (is_pending x && is_storing x.line.desc) → AcksAre p u y now (u.last c) (is_pending y && is_storing y.line.desc)
own_acks p v u c x y acks now last pend store got same owe h =
    rw (last, pend, store, same) (acks_same p v u x y acks (v.last c) (is_pending x && is_storing x.line.desc) got owe h)
