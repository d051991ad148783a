-- A world stays orderly when data comes with which an operation is done, and what was put off stands in the queue again: fills_kept of pg_world, by turns_kept.
use Rattle.std.proofs.Common.{◌≡◌, ℕ, suc, ◌<◌, ◌≤◌, arith, Bool, true, false, ◌&&◌, cond, List, length, Some, refl, sym, ap, subst, ◌∙◌, inl}
use Rattle.std.specs.Prelude.{◌==◌}
use Rattle.std.specs.List.{remove}
use Rattle.pg_perm.specs.declared.kinds.Event.{Event}
use Rattle.pg_perm.specs.declared.kinds.Event.TheVariants.{Store}
use Rattle.pg_perm.specs.declared.draft.Draft.{Draft}
use Rattle.pg_perm.specs.declared.draft.ReplyName.TheVariants as named
use Rattle.pg_perm.specs.Drafts.{IsWellFormed}
use Rattle.pg_shape.specs.Shaped.{IsShaped}
use Rattle.pg_directory.specs.Sends.{forward_sent}
use Rattle.pg_directory.specs.Sound.{fits}
use Rattle.pg_directory.specs.Requests.{IsReply}
use Rattle.pg_table.specs.declared.cache.Phase.{Phase}
use Rattle.pg_table.specs.declared.cache.Tag.{Tag}
use Rattle.pg_order.specs.Messages.{tally}
use Rattle.pg_order.specs.Orders.{DirOrder, acks_needed}
use Rattle.pg_order.specs.Views.{View, is_unserved, acks_owed}
use Rattle.pg_order.proofs.Known.{IsKnown, known}
use Rattle.pg_order.proofs.Invs.{inv_shares, inv_of_store, owes_some}
use Rattle.pg_order.proofs.OneEntry.{sent_not_own}
use Rattle.pg_messages.specs.declared.messages.Reply.{Reply}
use Rattle.pg_controllers.specs.Networks.{Core}
use Rattle.pg_messages.specs.declared.messages.DoneEntry.{DoneEntry}
use Rattle.pg_controllers.specs.Worlds.{World, core, order_of}
use Rattle.pg_orderly.specs.Orderly.{Mark, is_pending, view_of, IsPlaced, is_storing, is_ack_to, AcksAre, IsOrderly}
use Rattle.pg_orderly.proofs.Keeping.{marked, moved}
use Rattle.pg_orderly.proofs.Filled.{IsFilling, at_rest, promised_removed}
use Rattle.pg_orderly.proofs.Handled.{not_due}
use Rattle.pg_safe.proofs.Catch.{granted_by}
use Rattle.pg_safe.proofs.Replies.{IsDatum, datum}
use Rattle.pg_completions.proofs.Even.{even_last}
use Rattle.pg_completions.proofs.Turn.{viewed, turns_kept}
use Rattle.pg_completions.proofs.Taken.{IsTaken, data_taken, sends_none}

pub fills : (d : Draft) (n : ℕ) (w : World) (m : ℕ → Mark) (c : ℕ) (e : Event) (s : ℕ) (ph : Phase) (t : Tag) (i a wd cnt k f word : ℕ) (dn : List DoneEntry) → IsWellFormed d → IsShaped d → c < n
    → IsOrderly d n w m → IsFilling d w m c e s ph t i a wd cnt k f
    → IsOrderly d n (moved c (at_rest (core w c) f word k) (remove w.replies i) dn w) (marked c (record { seen = (m c).last; last = (m c).last }) m)
fills d n w m c e s ph t i a wd cnt k f word dn wf sh low o h = turns_kept d n w m c (m c).last y rs dn wf sh low o (record {
  even = even_last d p v u c (m c).last false (viewed w m c (m c).last y rs dn inside) refl waited (λ j lo hi. sends_none d p c j (h.quiet j lo hi)) h.no_inv;
  opened = λ j is un. absurd (let same : z.entry ≡ j = (let last = z.last in omega (arith, is, last)) in let served = subst (λ j. is_unserved d p v j ≡ false) same z.served in cc (un, served));
  owing = λ j x g is in_it sends class lt. absurd (
      let same : j ≡ h.entry = (let last = h.last in omega (arith, is, last)) in
      let store : e ≡ Store = inv_of_store d n (p.dir_entry j) (p.at j) x g (k0.handled j in_it) sends class e (ap (λ j. (p.at j).event) same ∙ h.event) in
      let some : 1 ≤ acks_owed p v h.entry = subst (λ j. 1 ≤ acks_owed p v j) same (owes_some p v j x (inv_shares d n (p.dir_entry j) (p.at j) x g (k0.handled j in_it) (apart j x g sends ((p.at j).core == x) refl) sends class) lt) in
      let none = complete.1 (rw (waited, h.desc, store) refl) in omega (arith, some, none));
  placed = record {
    last_low = pl.last_low;
    last_own = pl.last_own;
    last_is = pl.last_is;
    touched = λ j is. inl (pl.last_own j is);
    gap = λ j b own. omega (arith, b);
    rest = h.rest;
    upto = h.upto;
    queue = h.queue;
    line = (record { need = refl; deferred = refl; state = fit }, refl, omega arith);
  };
  promised = promised_removed d p (λ z. (m z).last) n w.replies i o.promised;
  own = record {
    filled = gone.none ∙ ap (λ b. cond {A = ℕ} b 1 0) (sym (not_due d p u y (u.last c) refl));
    acks = (refl, gone.acks c ∙ complete.0);
  };
  data_as = gone.others;
  acks_as = λ x ne. gone.acks x;
  wbs = gone.wbs;
})
  where
    p : DirOrder
    p = order_of d w

    y : Core
    y = at_rest (core w c) f word k

    rs : List Reply
    rs = remove w.replies i

    v : View
    v = view_of w m

    u : View
    u = view_of (moved c y rs dn w) (marked c (record { seen = (m c).last; last = (m c).last }) m)

    inside : c < length w.cores
    inside = let same = o.cores in omega (arith, same, low)

    k0 : IsKnown d n p
    k0 = known d n p wf sh o.past

    pl : IsPlaced d p c (core w c) (m c)
    pl = o.placed c low

    z : IsDatum d n w m c a cnt
    z = datum d n w m i a c wd cnt k wf sh o h.reply

    gone : IsTaken w c i
    gone = data_taken d n w m i a c wd cnt k low o h.reply

    waited : is_pending (core w c) ≡ true
    waited = rw (h.desc, h.slot) refl

    same : z.entry ≡ h.entry
    same = let a = z.last in let b = h.last in omega (arith, a, b)

    apart : (j x g : ℕ) → forward_sent d (p.dir_entry j) (p.at j) x ≡ Some g → (q : Bool) → ((p.at j).core == x) ≡ q → ((p.at j).core == x) ≡ false
    apart j x g sends true own = absurd (let none = sent_not_own d (p.dir_entry j) (p.at j) x own in cc (none, sends))
    apart j x g sends false ne = ne

    counted : (b : Bool) → AcksAre p v (core w c) (tally (is_ack_to c) w.replies) (m c).last b → (tally (is_ack_to c) w.replies ≡ 0) × (b ≡ true → acks_owed p v h.entry ≡ 0)
    counted false q = (q.1, λ e. cc)
    counted true q =
        let sum : AcksAre p v (core w c) (tally (is_ack_to c) w.replies) (suc h.entry) true = subst (λ k. AcksAre p v (core w c) (tally (is_ack_to c) w.replies) k true) h.last q in
        let count = subst (λ j. cnt ≡ acks_needed (p.dir_entry j) (p.at j)) same z.count in let all = h.all in
        (omega (arith, sum, count, all), λ e. omega (arith, sum, count, all))

    complete : (tally (is_ack_to c) w.replies ≡ 0) × ((is_pending (core w c) && is_storing (core w c).line.desc) ≡ true → acks_owed p v h.entry ≡ 0)
    complete = counted (is_pending (core w c) && is_storing (core w c).line.desc) (o.answered c low).acks

    fit : fits d (p.dir_entry (m c).last) c f ≡ true
    fit =
        let (x, ends, fits_x) = granted_by d n p k0 c h.entry s e (named.Reply a) (let last = h.last in let upto = pl.last_low in omega (arith, last, upto)) (pl.last_own h.entry h.last) h.event h.asks h.state h.lacks
        (subst (λ j. IsReply d (p.dir_entry j) (p.at j) (named.Reply a)) same z.reply) in
        let one : x ≡ f = (let y = h.final in cc (ends, y)) in
        ap (λ j. fits d (p.dir_entry j) c f) h.last ∙ ap (fits d (p.dir_entry (suc h.entry)) c) (sym one) ∙ fits_x
