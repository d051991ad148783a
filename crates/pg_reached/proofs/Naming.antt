-- Each message in flight belongs to a request that is still pending.
use Rattle.std.proofs.Common.{◌≡◌, ℕ, suc, ◌+◌, ◌<◌, ◌≤◌, arith, Bool, true, false, ◌&&◌, length, Some, refl, sym, ap, subst, ◌∙◌}
use Rattle.std.specs.Prelude.{slice_get, List}
use Rattle.std.proofs.lemmas.Bool.{eq-eqb}
use Rattle.pg_perm.proofs.Booleans.{and_true}
use Rattle.pg_perm.specs.declared.kinds.Op.{Op}
use Rattle.pg_perm.specs.declared.draft.Draft.{Draft}
use Rattle.pg_table.specs.Tables.{TableState}
use Rattle.pg_table.proofs.Lists.{IsIn, in_of_slice_get}
use Rattle.pg_messages.specs.declared.messages.Ordered.{Ordered}
use Rattle.pg_messages.specs.declared.messages.Reply.TheVariants.{Data, InvAck}
use Rattle.pg_order.specs.Messages.{stamp_of, tally}
use Rattle.pg_order.specs.Orders.{DirOrder, entry_message}
use Rattle.pg_controllers.specs.Worlds.{World, core, order_of}
use Rattle.pg_orderly.specs.Orderly.{IsPlaced, is_pending, is_storing, is_ack_to, AcksAre, view_of}
use Rattle.pg_orderly.proofs.Filled.{promised_at}
use Rattle.pg_safe.specs.Names.{names}
use Rattle.pg_safe.specs.Standing.{IsPendingEntry}
use Rattle.pg_safe.proofs.AddUp.{pending_stands}
use Rattle.pg_safe.proofs.Bounds.{named_waits}
use Rattle.pg_safe.proofs.Heads.{in_between}
use Rattle.pg_safe.proofs.Replies.{counted, datum}
use Rattle.pg_safe.proofs.Waiting.{sent_stamp}
use Rattle.pg_moves.specs.Kept.{IsSoundWorld}
use Rattle.pg_reached.specs.Reached.{IsReachedWorld}
use Rattle.pg_reached.proofs.Reached.{sound_world}

-- the entry of a pending core whose last stamp is known
pending_at : (d : Draft) (t : List TableState) (given : List (List Op)) (w : World) (c k : ℕ) → (r : IsReachedWorld d t given w) → c < length given → is_pending (core w c) ≡ true
    → ((sound_world d t given w r).marks c).last ≡ k → (j : ℕ) × IsPendingEntry d w c j × (k ≡ suc j)
pending_at d t given w c k r low pend last =
    let s = sound_world d t given w r in
    let (j, is, entry) = pending_stands d (length given) w s.marks c s.orderly low pend in (j, entry, sym last ∙ is)

pub ordered_names : (d : Draft) (t : List TableState) (given : List (List Op)) (w : World) (c i : ℕ) (m : Ordered) → IsReachedWorld d t given w → c < length given → slice_get (core w c).queue i ≡ Some m
    → (j : ℕ) × IsPendingEntry d w (names c m) j × (stamp_of m ≡ suc j)
ordered_names d t given w c i m r low there =
    let (j, from, upto, sends) = in_between (entry_message d p c) (s.marks c).seen pl.rest m (subst (IsIn m) pl.queue (in_of_slice_get (core w c).queue i m there)) in
    let all = pl.upto in
    let inside : j < p.top = omega (arith, upto, all) in
    let (named, waits) = named_waits d (length given) w s.marks c j m s.orderly low from inside sends in
    let who : names c m < length given = subst (λ e. e < length given) named (s.orderly.past.inside j inside) in
    let (k, entry, same) = pending_at d t given w (names c m) (suc j) r who (ap (λ e. is_pending (core w e)) (sym named) ∙ waits.1) (ap (λ e. (s.marks e).last) (sym named) ∙ waits.0) in
    (k, entry, sent_stamp d p c j m sends ∙ same)
  where
    s : IsSoundWorld d t (length given) w
    s = sound_world d t given w r

    p : DirOrder
    p = order_of d w

    pl : IsPlaced d p c (core w c) (s.marks c)
    pl = s.orderly.placed c low

pub data_names : (d : Draft) (t : List TableState) (given : List (List Op)) (w : World) (i m c v n k : ℕ) → IsReachedWorld d t given w → slice_get w.replies i ≡ Some (Data m c v n k)
    → (j : ℕ) × IsPendingEntry d w c j × (k ≡ suc j)
data_names d t given w i m c v n k r there =
    let s = sound_world d t given w r in
    let x = datum d (length given) w s.marks i m c v n k r.well_formed r.shaped s.orderly there in
    let promise = promised_at d (order_of d w) (λ c. (s.marks c).last) (length given) w.replies i (Data m c v n k) there s.orderly.promised in
    pending_at d t given w c k r x.low x.pending (sym promise.1)

pub acknowledgement_names : (d : Draft) (t : List TableState) (given : List (List Op)) (w : World) (i c k : ℕ) → IsReachedWorld d t given w → slice_get w.replies i ≡ Some (InvAck c k)
    → (is_storing (core w c).line.desc ≡ true) × ((j : ℕ) × IsPendingEntry d w c j)
acknowledgement_names d t given w i c k r there =
    let both = and_true (is_pending (core w c)) (is_storing (core w c).line.desc) (waits (is_pending (core w c) && is_storing (core w c).line.desc) refl (s.orderly.answered c low).acks) in
    let (j, entry, same) = pending_at d t given w c (s.marks c).last r low both.0 refl in
    (both.1, (j, entry))
  where
    s : IsSoundWorld d t (length given) w
    s = sound_world d t given w r

    low : c < length given
    low = promised_at d (order_of d w) (λ c. (s.marks c).last) (length given) w.replies i (InvAck c k) there s.orderly.promised

    some : 1 ≤ tally (is_ack_to c) w.replies
    some = counted (is_ack_to c) w.replies i (InvAck c k) there (eq-eqb c c refl)

    waits : (b : Bool) → (is_pending (core w c) && is_storing (core w c).line.desc) ≡ b → AcksAre (order_of d w) (view_of w s.marks) (core w c) (tally (is_ack_to c) w.replies) (s.marks c).last b → b ≡ true
    waits true is h = refl
    waits false is h = absurd (let none = h.1 in omega (arith, none, some))
