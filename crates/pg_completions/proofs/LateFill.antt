-- A load whose invalidation was acknowledged early gets its data: it is done, and keeps nothing.
use Rattle.std.proofs.Common.{◌≡◌, ℕ, suc, ◌+◌, ◌<◌, ◌≤◌, arith, Bool, true, false, ◌&&◌, not, cond, List, [], ◌∷◌, ◌++◌, length, Option, Some, None, refl, sym, ap, subst, ◌∙◌}
use Rattle.std.specs.Prelude.{filter, slice_get}
use Rattle.std.specs.List.{remove}
use Rattle.pg_perm.specs.declared.kinds.Event.TheVariants.{Load, Store}
use Rattle.pg_perm.specs.declared.kinds.Who.TheVariants.{Owner, Sharer}
use Rattle.pg_perm.specs.declared.kinds.FwdClass.TheVariants.{Inv}
use Rattle.pg_perm.specs.declared.draft.Draft.{Draft}
use Rattle.pg_perm.specs.declared.draft.ReplyName.TheVariants as named
use Rattle.pg_perm.specs.Drafts.{IsWellFormed}
use Rattle.pg_terms.specs.Terms.{has_class}
use Rattle.pg_terms.specs.Rows.{final_state}
use Rattle.pg_shape.specs.Shaped.{IsShaped}
use Rattle.pg_directory.specs.Sends.{forward_sent}
use Rattle.pg_directory.specs.Sound.{fits}
use Rattle.pg_directory.specs.Requests.{IsReply}
use Rattle.pg_directory.proofs.Holders.{who_of_owner}
use Rattle.pg_table.specs.declared.cache.Desc.TheVariants.{Stable, Ask}
use Rattle.pg_table.specs.declared.cache.Phase.{Phase}
use Rattle.pg_table.specs.declared.cache.Tag.{Tag}
use Rattle.pg_table.specs.declared.cache.Act.TheVariants as act
use Rattle.pg_table.specs.Descriptors.{end_under_tag}
use Rattle.pg_table.specs.Choices.{Choice}
use Rattle.pg_messages.specs.declared.messages.Ordered.{Ordered}
use Rattle.pg_messages.specs.declared.messages.Ordered.TheVariants.{Forward}
use Rattle.pg_order.specs.Messages.{sent_between, tally}
use Rattle.pg_order.specs.Orders.{DirOrder, passed_forward, acks_needed, acks_carried, entry_message}
use Rattle.pg_order.specs.Views.{View, is_unserved}
use Rattle.pg_order.proofs.Known.{IsKnown, known}
use Rattle.pg_order.proofs.OneEntry.{passed_is}
use Rattle.pg_order.proofs.Invs.{who_sharer, inv_of_store}
use Rattle.pg_messages.specs.declared.messages.Reply.{Reply}
use Rattle.pg_messages.specs.declared.messages.Reply.TheVariants.{Data}
use Rattle.pg_controllers.specs.Networks.{Line, Core}
use Rattle.pg_controllers.specs.Lines.{Received, LineResult, serve, do_acts, goes_to, result_of, received_reply}
use Rattle.pg_messages.specs.declared.messages.DoneEntry.{DoneEntry}
use Rattle.pg_controllers.specs.Worlds.{World, core, done_of, order_of}
use Rattle.pg_orderly.specs.Orderly.{Mark, is_pending, view_of, is_deferred, HasPending, IsAhead, IsPlaced, is_storing, is_ack_to, AcksAre, IsOrderly}
use Rattle.pg_orderly.proofs.Keeping.{marked, moved}
use Rattle.pg_orderly.proofs.Rows.{IsEnd}
use Rattle.pg_orderly.proofs.Effects.{starts, filled, fill_acts}
use Rattle.pg_orderly.proofs.Filled.{promised_removed}
use Rattle.pg_orderly.proofs.Handled.{not_due}
use Rattle.pg_safe.proofs.AddUp.{between_counts}
use Rattle.pg_safe.proofs.Ends.{none_after}
use Rattle.pg_safe.proofs.Replies.{IsDatum, datum}
use Rattle.pg_completions.proofs.Even.{even_late}
use Rattle.pg_completions.proofs.Turn.{viewed, turns_kept}
use Rattle.pg_completions.proofs.Late.{IsLate, ahead_grants}
use Rattle.pg_completions.proofs.Ending.{serve_or_not}
use Rattle.pg_completions.proofs.Picks.{with_reply}
use Rattle.pg_completions.proofs.Taken.{silent_kept, IsTaken, data_taken, sent_to}
use Rattle.pg_completions.proofs.Filled.{done_line}

-- where one invalidation came, all that came was invalidations
pub late_inv : (d : Draft) (p : DirOrder) (c a n j f : ℕ) (t : Tag) → IsLate d t (sent_between (entry_message d p c) a n) → a ≤ j → j < a + n → forward_sent d (p.dir_entry j) (p.at j) c ≡ Some f → has_class Inv d f ≡ true
late_inv d p c a n j f t late lo hi sends = at (has_class Inv d f) refl
  where
    at : (b : Bool) → has_class Inv d f ≡ b → has_class Inv d f ≡ true
    at true inv = inv
    at false not_inv =
        let some = between_counts (is_deferred d) (entry_message d p c) a n j (Forward f (p.at j).core (acks_carried d (acks_needed (p.dir_entry j) (p.at j)) f) (suc j)) lo hi (sent_to d p c j f sends) (ap not not_inv) in
        let all : tally (is_deferred d) (sent_between (entry_message d p c) a n) ≡ cond {A = ℕ} (not (has_class Inv d late.f)) 1 0 + 0 = ap (tally (is_deferred d)) late.only in
        let none : cond {A = ℕ} (not (has_class Inv d late.f)) 1 0 ≡ 0 = ap (λ b. cond {A = ℕ} (not b) 1 0) late.inv in
        absurd (omega (arith, some, all, none))

pub late_nothing : (d : Draft) (t : Tag) (ms : List Ordered) → IsLate d t ms → filter (is_deferred d) ms ≡ []
late_nothing d t ms late = ap (filter (is_deferred d)) late.only ∙ ap (λ b. cond (not b) (Forward late.f late.r late.n late.k ∷ []) []) late.inv

pub late_kept : (d : Draft) (n : ℕ) (w : World) (m : ℕ → Mark) (c s : ℕ) (ph : Phase) (t : Tag) (i r v cnt k : ℕ) (ch : Choice) → IsWellFormed d → IsShaped d → c < n → IsOrderly d n w m
    → slice_get w.replies i ≡ Some (Data r c v cnt k) → (core w c).line.desc ≡ Ask Load s ph t → (core w c).slot ≡ None → (pends : HasPending (core w c).line Load)
    → (end : IsEnd d t (act.Fill ∷ []) (final_state d s Load (named.Reply r)) ch) → (a : IsAhead d (order_of d w) c (core w c).line (m c) Load s ph t)
    → IsLate d t (sent_between (entry_message d (order_of d w) c) (m c).last a.past)
    → (result_of d ch (received_reply d (core w c).line (Data r c v cnt k)) (core w c).line (core w c).slot ≡ goes_to (Stable end.state) (done_line pends.0 (received_reply d (core w c).line (Data r c v cnt k)) (core w c).line))
    × IsOrderly d n (with_reply w c i (result_of d ch (received_reply d (core w c).line (Data r c v cnt k)) (core w c).line (core w c).slot)) (marked c (record { seen = (m c).seen; last = (m c).last }) m)
late_kept d n w m c s ph t i r v cnt k ch wf sh low o get desc slot (op, pending, is_op) end a late = (
  effect,
  subst (λ a. IsOrderly d n (with_reply w c i a) marks) (sym effect) (silent_kept d n w c i e marks refl (turns_kept d n w m c (m c).seen y rs dn wf sh low o (record {
    even = even_late d p (view_of w m) u c (m c).seen false (viewed w m c (m c).seen y rs dn inside) refl none;
    opened = λ j is un. absurd (let same : z.entry ≡ j = (let at_it = z.last in omega (arith, is, at_it)) in let served = subst (λ j. is_unserved d p (view_of w m) j ≡ false) same z.served in cc (un, served));
    owing = λ j x g is in_it sends class lt. absurd (
        let same : a.ordered.entry ≡ j = (let at_it = a.ordered.last in omega (arith, is, at_it)) in
        let store : Load ≡ Store = inv_of_store d n (p.dir_entry j) (p.at j) x g (k0.handled j in_it) sends class Load (subst (λ j. (p.at j).event ≡ Load) same a.ordered.event) in cc);
    placed = record {
      last_low = pl.last_low;
      last_own = pl.last_own;
      last_is = pl.last_is;
      touched = pl.touched;
      gap = pl.gap;
      rest = pl.rest;
      upto = pl.upto;
      queue = pl.queue;
      line = (record { need = refl; deferred = refl; state = fit }, refl, (let upto = a.upto in omega (arith, upto)));
    };
    promised = promised_removed d p (λ z. (m z).last) n w.replies i o.promised;
    own = record {
      filled = gone.none ∙ ap (λ b. cond {A = ℕ} b 1 0) (sym (not_due d p u y (u.last c) refl));
      acks = (refl, gone.acks c ∙ no_acks);
    };
    data_as = gone.others;
    acks_as = λ x ne. gone.acks x;
    wbs = gone.wbs;
  }))),
)
  where
    p : DirOrder
    p = order_of d w

    l : Line
    l = (core w c).line

    met : Received
    met = received_reply d l (Data r c v cnt k)

    e : LineResult
    e = goes_to (Stable end.state) (done_line op met l)

    y : Core
    y = record (core w c) { line = e.line; slot = e.slot }

    rs : List Reply
    rs = remove w.replies i

    dn : List DoneEntry
    dn = w.done ++ done_of c e.done

    marks : ℕ → Mark
    marks = marked c (record { seen = (m c).seen; last = (m c).last }) m

    u : View
    u = view_of (moved c y rs dn w) marks

    inside : c < length w.cores
    inside = let same = o.cores in omega (arith, same, low)

    k0 : IsKnown d n p
    k0 = known d n p wf sh o.past

    pl : IsPlaced d p c (core w c) (m c)
    pl = o.placed c low

    z : IsDatum d n w m c r cnt
    z = datum d n w m i r c v cnt k wf sh o get

    gone : IsTaken w c i
    gone = data_taken d n w m i r c v cnt k low o get

    empty : l.deferred ≡ []
    empty = a.deferred ∙ late_nothing d t (sent_between (entry_message d p c) (m c).last a.past) late

    effect : result_of d ch met l (core w c).slot ≡ e
    effect =
        ap (result_of d ch met l) slot
        ∙ ap (λ xs. goes_to ch.next (do_acts d met xs (starts l None))) end.acts
        ∙ ap (goes_to ch.next) (fill_acts d met l None op t pending)
        ∙ ap (goes_to ch.next) (serve_or_not d met (filled op met l None) t (λ plain. empty))
        ∙ ap (λ ms. goes_to ch.next (serve d met.final ms (done_line op met l))) empty
        ∙ ap (λ s. goes_to s (done_line op met l)) end.next

    fit : fits d (p.dir_entry (m c).seen) c end.state ≡ true
    fit =
        let last = a.ordered.last in
        let at_it = z.last in
        let same : z.entry ≡ a.ordered.entry = omega (arith, last, at_it) in
        let grant = ahead_grants d n p sh k0 c (core w c) (m c) l Load s ph t pl a (named.Reply r) (subst (λ j. IsReply d (p.dir_entry j) (p.at j) (named.Reply r)) same z.reply) in
        let fin : grant.fin ≡ end.final = (let x = grant.ends in let y = end.from in cc (x, y)) in
        let told : end_under_tag d end.final t ≡ Some grant.state = subst (λ f. end_under_tag d f t ≡ Some grant.state) fin grant.told in
        let at : grant.state ≡ end.state = (let x = end.after in cc (x, told)) in
        subst (λ x. fits d (p.dir_entry (m c).seen) c x ≡ true) at grant.fits

    no_acks : tally (is_ack_to c) w.replies ≡ 0
    no_acks = (subst (AcksAre p (view_of w m) (core w c) (tally (is_ack_to c) w.replies) (m c).last) (ap (λ b. is_pending (core w c) && b) (ap is_storing desc) ∙ and_false (is_pending (core w c))) (o.answered c low).acks).1
      where
        and_false : (b : Bool) → (b && false) ≡ false
        and_false true = refl
        and_false false = refl

    none : (j : ℕ) → (m c).last ≤ j → j < (m c).seen → (p.dir_entry j).owner ≡ Some c → passed_forward d (p.dir_entry j) (p.at j) ≡ None
    none j lo hi owner = passed_is d (p.dir_entry j) (p.at j) c owner ∙ at (forward_sent d (p.dir_entry j) (p.at j) c) refl
      where
        at : (x : Option ℕ) → forward_sent d (p.dir_entry j) (p.at j) c ≡ x → x ≡ None
        at None sends = refl
        at (Some f) sends = absurd (
            let upto = a.upto in
            let more = pl.upto in
            let inv = late_inv d p c (m c).last a.past j f t late lo (omega (arith, hi, upto)) sends in
            let ne = none_after d p c (core w c) (m c) pl (m c).last (m c).seen (omega arith) (omega (arith, more)) j lo hi in
            let shares = who_sharer d n (p.dir_entry j) (p.at j) c f (k0.handled j (omega (arith, hi, more))) ne sends inv in
            let owns = who_of_owner (p.dir_entry j) c owner in
            let x : Sharer ≡ Owner = sym shares ∙ owns in cc)
