-- The last acknowledgement: the store is done, and what was put off is answered.
use Rattle.std.proofs.Common.{◌≡◌, ℕ, suc, ◌<◌, ◌≤◌, arith, Bool, true, false, ◌&&◌, cond, List, [], ◌∷◌, ◌++◌, length, Option, Some, None, refl, sym, ap, subst, ◌∙◌, inl, inr}
use Rattle.std.specs.Prelude.{◌==◌, slice_get, unwrap_or, if◌then◌else◌}
use Rattle.std.specs.List.{remove}
use Rattle.std.specs.Option.{option_map_or}
use Rattle.std.proofs.lemmas.Bool.{eqb-true}
use Rattle.pg_perm.specs.declared.kinds.Event.TheVariants.{Store, Evict}
use Rattle.pg_perm.specs.declared.kinds.Op.{Op}
use Rattle.pg_perm.specs.declared.draft.Draft.{Draft}
use Rattle.pg_perm.specs.declared.draft.CoreLine.{CoreLine}
use Rattle.pg_perm.specs.declared.draft.CoreForm.{CoreForm}
use Rattle.pg_perm.specs.declared.draft.CoreForm.TheVariants as form
use Rattle.pg_perm.specs.declared.draft.ReplyName.{ReplyName}
use Rattle.pg_perm.specs.Drafts.{IsWellFormed}
use Rattle.pg_terms.specs.Terms.{is, core_row}
use Rattle.pg_shape.specs.Shaped.{IsShaped}
use Rattle.pg_directory.specs.Sends.{forward_sent}
use Rattle.pg_directory.specs.Sound.{fits}
use Rattle.pg_directory.specs.Requests.{IsReply}
use Rattle.pg_table.specs.declared.cache.Desc.TheVariants.{Stable, Ask}
use Rattle.pg_table.specs.declared.cache.Phase.TheVariants.{A}
use Rattle.pg_table.specs.declared.cache.Tag.{Tag}
use Rattle.pg_table.specs.declared.cache.Act.TheVariants as act
use Rattle.pg_table.specs.declared.cache.Input.TheVariants as at_input
use Rattle.pg_table.specs.Descriptors.{end_under_tag, final_states_in, final_states}
use Rattle.pg_table.specs.Choices.{Choice, serve_acts, store_final}
use Rattle.pg_table.proofs.Lists.{IsIn, slice_get_of_in, of_map}
use Rattle.pg_table.proofs.Finals.{final_in, first_in}
use Rattle.pg_order.specs.Messages.{sent_between, tally}
use Rattle.pg_order.specs.Orders.{DirOrder, acks_needed, entry_message}
use Rattle.pg_order.specs.Views.{View, acks_owed}
use Rattle.pg_order.proofs.Known.{IsKnown, known}
use Rattle.pg_order.proofs.Invs.{inv_shares, owes_some}
use Rattle.pg_order.proofs.OneEntry.{sent_not_own}
use Rattle.pg_messages.specs.declared.messages.Ask.{Ask as SentRequest}
use Rattle.pg_messages.specs.declared.messages.Reply.{Reply}
use Rattle.pg_messages.specs.declared.messages.Reply.TheVariants.{InvAck}
use Rattle.pg_controllers.specs.Networks.{Line, Core}
use Rattle.pg_controllers.specs.Lines.{Received, LineResult, serve, complete, do_acts, goes_to, result_of, final_at, reply_input, received_reply}
use Rattle.pg_messages.specs.declared.messages.DoneEntry.{DoneEntry}
use Rattle.pg_controllers.specs.Worlds.{World, core, done_of, order_of}
use Rattle.pg_orderly.specs.Orderly.{Mark, is_pending, view_of, HasPending, IsAhead, IsPlaced, is_storing, is_granted, is_ack_to, IsOrderly}
use Rattle.pg_orderly.proofs.Keeping.{marked, moved}
use Rattle.pg_orderly.proofs.Rows.{IsEnd}
use Rattle.pg_orderly.proofs.Effects.{starts}
use Rattle.pg_orderly.proofs.Filled.{promised_removed}
use Rattle.pg_orderly.proofs.Filling.{IsReady, ready}
use Rattle.pg_orderly.proofs.Handled.{not_due}
use Rattle.pg_orderly.proofs.Serving.{ArePutOff}
use Rattle.pg_orderly.proofs.TagReplay.{Leads}
use Rattle.pg_safe.proofs.Catch.{granted_by}
use Rattle.pg_safe.proofs.Waiting.{adds_up}
use Rattle.pg_completions.proofs.Even.{even_last}
use Rattle.pg_completions.proofs.Turn.{viewed, turns_kept}
use Rattle.pg_completions.proofs.Late.{IsGranted, ahead_grants, plain_empty, tag_splits, store_not_late}
use Rattle.pg_completions.proofs.Ending.{serve_or_not, rests, served_kept}
use Rattle.pg_completions.proofs.Picks.{with_reply}
use Rattle.pg_completions.proofs.Taken.{IsAcked, ack_taken, granted_not_due}
use Rattle.pg_completions.proofs.Filled.{all_off}

-- A store that began in one state has one final state

form_ends_once : (d : Draft) (s x y : ℕ) (l : CoreLine) → IsShaped d → core_row d s Store ≡ Some l → (f : CoreForm) → l.form ≡ f → IsIn x (final_states_in f) → IsIn y (final_states_in f) → x ≡ y
form_ends_once d s x y l shape row (form.Hit next) is one other = absurd one
form_ends_once d s x y l shape row (form.Ask request pairs) is one other =
    let (p, p_in, p_ends) = of_map (λ p. p.fin) x pairs one in
    let (q, q_in, q_ends) = of_map (λ p. p.fin) y pairs other in
    let (j, p_at) = slice_get_of_in pairs p p_in in
    let (k, q_at) = slice_get_of_in pairs q q_in in
    sym p_ends ∙ shape.cores.one_end s j k request pairs p q l row is p_at q_at ∙ q_ends
form_ends_once d s x y l shape row (form.Leave request) is one other = absurd one

pub ends_once : (d : Draft) (s x y : ℕ) → IsShaped d → IsIn x (final_states d s Store) → IsIn y (final_states d s Store) → x ≡ y
ends_once d s x y shape one other = of (core_row d s Store) refl one other
  where
    of : (o : Option CoreLine) → core_row d s Store ≡ o → IsIn x (option_map_or (λ l. final_states_in l.form) o []) → IsIn y (option_map_or (λ l. final_states_in l.form) o []) → x ≡ y
    of None row one other = absurd one
    of (Some l) row one other = form_ends_once d s x y l shape row l.form refl one other

-- The row

abbrev pub count_done : Op → Received → Line → Option SentRequest → LineResult
count_done o m l slot = complete o m (starts (record l { got = suc l.got }) slot)

count_acts : (d : Draft) (m : Received) (l : Line) (slot : Option SentRequest) (o : Op) (t : Tag) → l.pending ≡ Some o
    → do_acts d m (act.Count ∷ [] ++ act.Done ∷ [] ++ serve_acts t) (starts l slot) ≡ do_acts d m (serve_acts t) (count_done o m l slot)
count_acts d m l slot o t pending = rw pending refl

-- the line with the last acknowledgement, before what was put off is answered
abbrev pub last_line : Op → Received → Line → LineResult
last_line o met l = let a = count_done o met l None in record a { line = record a.line { deferred = [] } }

pub record IsLastCount (d : Draft) (n : ℕ) (w : World) (m : ℕ → Mark) (c i k : ℕ) (ch : Choice) (fin state : ℕ) (op : Op) : Type 0 where
  pub effect : result_of d ch (received_reply d (core w c).line (InvAck c k)) (core w c).line (core w c).slot ≡ goes_to (Stable state) (serve d fin (core w c).line.deferred (last_line op (received_reply d (core w c).line (InvAck c k)) (core w c).line))
  pub off : ArePutOff d (core w c).line.deferred
  pub leads : Leads d fin (core w c).line.deferred state
  pub back : IsOrderly d n (moved c (rests fin (core w c) (last_line op (received_reply d (core w c).line (InvAck c k)) (core w c).line) ((core w c).line.deferred ++ (core w c).queue)) (remove w.replies i)
      (w.done ++ done_of c (serve d fin (core w c).line.deferred (last_line op (received_reply d (core w c).line (InvAck c k)) (core w c).line)).done) w) (marked c (record { seen = (m c).last; last = (m c).last }) m)
  pub marks : ℕ → Mark
  pub orderly : IsOrderly d n (with_reply w c i (result_of d ch (received_reply d (core w c).line (InvAck c k)) (core w c).line (core w c).slot)) marks

pub last_kept : (d : Draft) (n : ℕ) (w : World) (m : ℕ → Mark) (c s : ℕ) (t : Tag) (i k : ℕ) (ch : Choice) → IsWellFormed d → IsShaped d → c < n → IsOrderly d n w m
    → slice_get w.replies i ≡ Some (InvAck c k) → (core w c).line.desc ≡ Ask Store s A t → (core w c).slot ≡ None → is (core w c).line.need (suc (core w c).line.got) ≡ true
    → (pends : HasPending (core w c).line Store) → IsAhead d (order_of d w) c (core w c).line (m c) Store s A t → (end : IsEnd d t (act.Count ∷ []) (store_final (final_states d s Store)) ch)
    → IsLastCount d n w m c i k ch end.final end.state pends.0
last_kept d n w m c s t i k ch wf sh low o get desc slot last_one (op, pending, is_op) a end =
    let (u, ok) = served_kept d n c (core w c) e end.final end.state l.deferred (core w c).queue rs dn w marks wf sh low inside refl back put_off leads in
    record { effect = effect; off = put_off; leads = leads; back = back; marks = u; orderly = subst (λ a. IsOrderly d n (with_reply w c i a) u) (sym effect) ok }
  where
    p : DirOrder
    p = order_of d w

    l : Line
    l = (core w c).line

    met : Received
    met = received_reply d l (InvAck c k)

    e : LineResult
    e = last_line op met l

    y : Core
    y = rests end.final (core w c) e (l.deferred ++ (core w c).queue)

    rs : List Reply
    rs = remove w.replies i

    dn : List DoneEntry
    dn = w.done ++ done_of c (serve d end.final l.deferred e).done

    marks : ℕ → Mark
    marks = marked c (record { seen = (m c).last; last = (m c).last }) m

    v : View
    v = view_of w m

    u : View
    u = view_of (moved c y rs dn w) marks

    inside : c < length w.cores
    inside = let same = o.cores in omega (arith, same, low)

    k0 : IsKnown d n p
    k0 = known d n p wf sh o.past

    pl : IsPlaced d p c (core w c) (m c)
    pl = o.placed c low

    gone : IsAcked w c i
    gone = ack_taken w i c k get

    waited : is_pending (core w c) ≡ true
    waited = rw (desc, slot) refl

    entry : ℕ
    entry = a.ordered.entry

    entry_low : entry < p.top
    entry_low = let last = a.ordered.last in let upto = pl.last_low in omega (arith, last, upto)

    -- its reply, and where it led
    reply : (name : ReplyName) × IsReply d (p.dir_entry entry) (p.at entry) name
    reply = (k0.handled entry entry_low).replied (λ z. let x : Store ≡ Evict = sym a.ordered.event ∙ z in cc)

    grant : IsGranted d p c (m c).seen Store s t (sent_between (entry_message d p c) (m c).last a.past) reply.0
    grant = ahead_grants d n p sh k0 c (core w c) (m c) l Store s A t pl a reply.0 reply.1

    fin : grant.fin ≡ end.final
    fin = ends_once d s grant.fin end.final sh (final_in d s Store reply.0 grant.fin grant.ends) (first_in (final_states d s Store) end.final end.from)

    off : ArePutOff d (sent_between (entry_message d p c) (m c).last a.past)
    off = elim (tag_splits d t (sent_between (entry_message d p c) (m c).last a.past) a.tag) [
      | inl all ↦ all
      | inr late ↦ absurd (store_not_late d grant.fin grant.state t (sent_between (entry_message d p c) (m c).last a.past) sh grant.may grant.leads late)
    ]

    whole : l.deferred ≡ sent_between (entry_message d p c) (m c).last a.past
    whole = a.deferred ∙ all_off d (sent_between (entry_message d p c) (m c).last a.past) off

    put_off : ArePutOff d l.deferred
    put_off = subst (ArePutOff d) (sym whole) off

    leads : Leads d end.final l.deferred end.state
    leads =
        let told : end_under_tag d end.final t ≡ Some grant.state = subst (λ f. end_under_tag d f t ≡ Some grant.state) fin grant.told in
        let at : grant.state ≡ end.state = (let x = end.after in cc (x, told)) in
        subst (λ ms. Leads d end.final ms end.state) (sym whole) (subst (λ y. Leads d end.final (sent_between (entry_message d p c) (m c).last a.past) y) at (subst (λ f. Leads d f (sent_between (entry_message d p c) (m c).last a.past) grant.state) fin grant.leads))

    rd : IsReady d p c (core w c) (m c)
    rd = ready d p c (core w c) (m c) Store s A t pl a off

    -- nothing is left
    complete_now : (tally (is_ack_to c) rs ≡ 0) × (acks_owed p v entry ≡ 0)
    complete_now =
        let all = adds_up p v (core w c) (tally (is_ack_to c) w.replies) (m c).last entry (is_pending (core w c) && is_storing l.desc) (o.answered c low).acks (rw (waited, desc) refl) a.ordered.last in
        let one = gone.own in
        let needed = a.need.0 in
        let enough : acks_needed (p.dir_entry entry) (p.at entry) ≡ suc l.got = eqb-true (acks_needed (p.dir_entry entry) (p.at entry)) (suc l.got) (ap (λ o. is o (suc l.got)) (sym needed) ∙ last_one) in
        (omega (arith, all, one, enough), omega (arith, all, one, enough))

    fit : fits d (p.dir_entry (m c).last) c end.final ≡ true
    fit =
        let lacks = a.phase.1 in
        let (f, ends, fits_f) = granted_by d n p k0 c entry s Store reply.0 entry_low (pl.last_own entry a.ordered.last) a.ordered.event (λ z. cc) a.state lacks reply.1 in
        let same : f ≡ end.final = ends_once d s f end.final sh (final_in d s Store reply.0 f ends) (first_in (final_states d s Store) end.final end.from) in
        ap (λ j. fits d (p.dir_entry j) c end.final) a.ordered.last ∙ ap (fits d (p.dir_entry (suc entry)) c) (sym same) ∙ fits_f

    back : IsOrderly d n (moved c y rs dn w) marks
    back = turns_kept d n w m c (m c).last y rs dn wf sh low o (record {
      even = even_last d p v u c (m c).last false (viewed w m c (m c).last y rs dn inside) refl waited (λ j lo hi. absurd (let upto = a.upto in omega (arith, lo, hi, upto))) rd.no_inv;
      opened = λ j is un. absurd (
          let upto = pl.last_low in
          let free : is_granted l.desc ≡ false = subst (λ z. is_granted (core w z).line.desc ≡ false) (pl.last_own j is) (o.ungranted j (omega (arith, is, upto)) un) in
          let has : is_granted l.desc ≡ true = ap is_granted desc in cc (free, has));
      owing = λ j x g is in_it sends class lt. absurd (
          let same : j ≡ entry = (let at_it = a.ordered.last in omega (arith, is, at_it)) in
          let some : 1 ≤ acks_owed p v entry = subst (λ j. 1 ≤ acks_owed p v j) same (owes_some p v j x (inv_shares d n (p.dir_entry j) (p.at j) x g (k0.handled j in_it) (apart j x g sends ((p.at j).core == x) refl) sends class) lt) in
          let none = complete_now.1 in omega (arith, some, none));
      placed = record {
        last_low = pl.last_low;
        last_own = pl.last_own;
        last_is = pl.last_is;
        touched = λ j e. inl (pl.last_own j e);
        gap = λ j b own. omega (arith, b);
        rest = rd.rest;
        upto = rd.upto;
        queue = rd.queue;
        line = (record { need = refl; deferred = refl; state = fit }, refl, omega arith);
      };
      promised = promised_removed d p (λ z. (m z).last) n w.replies i o.promised;
      own = record {
        filled = gone.data_as c ∙ (o.answered c low).filled ∙ ap (λ b. cond {A = ℕ} b 1 0) (granted_not_due d p v (core w c) (m c).last (ap is_granted desc)) ∙ ap (λ b. cond {A = ℕ} b 1 0) (sym (not_due d p u y (u.last c) refl));
        acks = (refl, complete_now.0);
      };
      data_as = λ x ne. gone.data_as x;
      acks_as = gone.others;
      wbs = gone.wbs;
    })
      where
        apart : (j x g : ℕ) → forward_sent d (p.dir_entry j) (p.at j) x ≡ Some g → (q : Bool) → ((p.at j).core == x) ≡ q → ((p.at j).core == x) ≡ false
        apart j x g sends true own = absurd (let none = sent_not_own d (p.dir_entry j) (p.at j) x own in cc (none, sends))
        apart j x g sends false ne = ne

    final_is : met.final ≡ end.final
    final_is =
        ap (λ x. final_at d x (reply_input l (InvAck c k))) desc
        ∙ ap (λ (b : Bool). final_at d (Ask Store s A t) (if b then at_input.AckLast else at_input.AckMore)) last_one
        ∙ ap (λ o. unwrap_or o 0) end.from

    effect : result_of d ch met l (core w c).slot ≡ goes_to (Stable end.state) (serve d end.final l.deferred e)
    effect =
        ap (result_of d ch met l) slot
        ∙ ap (λ xs. goes_to ch.next (do_acts d met xs (starts l None))) end.acts
        ∙ ap (goes_to ch.next) (count_acts d met l None op t pending)
        ∙ ap (goes_to ch.next) (serve_or_not d met (count_done op met l None) t (λ plain. whole ∙ plain_empty d (sent_between (entry_message d p c) (m c).last a.past) (a.tag ∙ ap Some plain)))
        ∙ ap (λ f. goes_to ch.next (serve d f l.deferred e)) final_is
        ∙ ap (λ s. goes_to s (serve d end.final l.deferred e)) end.next
