-- Data with which an operation is done: what was put off is answered.
use Rattle.std.proofs.Common.{◌≡◌, ℕ, ◌<◌, arith, Bool, true, false, cond, List, [], ◌∷◌, ◌++◌, length, Some, None, refl, sym, ap, subst, ◌∙◌, inr}
use Rattle.std.specs.Prelude.{◌==◌, filter, slice_get, unwrap_or, if◌then◌else◌}
use Rattle.std.specs.List.{remove}
use Rattle.std.proofs.lemmas.Bool.{eqb-true}
use Rattle.pg_perm.specs.declared.kinds.Event.{Event}
use Rattle.pg_perm.specs.declared.kinds.Op.{Op}
use Rattle.pg_perm.specs.declared.draft.Draft.{Draft}
use Rattle.pg_perm.specs.declared.draft.ReplyName.TheVariants as named
use Rattle.pg_perm.specs.Drafts.{IsWellFormed}
use Rattle.pg_terms.specs.Rows.{final_state}
use Rattle.pg_shape.specs.Shaped.{IsShaped}
use Rattle.pg_directory.specs.Requests.{IsReply}
use Rattle.pg_table.specs.declared.cache.Desc.TheVariants.{Stable, Ask}
use Rattle.pg_table.specs.declared.cache.Phase.{Phase}
use Rattle.pg_table.specs.declared.cache.Tag.{Tag}
use Rattle.pg_table.specs.declared.cache.Tag.TheVariants.{Plain}
use Rattle.pg_table.specs.declared.cache.Act.TheVariants as act
use Rattle.pg_table.specs.declared.cache.Input.TheVariants as at_input
use Rattle.pg_table.specs.Descriptors.{end_under_tag}
use Rattle.pg_table.specs.Choices.{Choice}
use Rattle.pg_messages.specs.declared.messages.Ordered.{Ordered}
use Rattle.pg_order.specs.Messages.{sent_between}
use Rattle.pg_order.specs.Orders.{DirOrder, entry_message}
use Rattle.pg_order.proofs.Known.{IsKnown, known}
use Rattle.pg_messages.specs.declared.messages.Reply.TheVariants.{Data}
use Rattle.pg_controllers.specs.Networks.{Line}
use Rattle.pg_controllers.specs.Lines.{Received, LineResult, serve, do_acts, goes_to, result_of, final_at, reply_input, received_reply, word_after}
use Rattle.pg_messages.specs.declared.messages.DoneEntry.{DoneEntry}
use Rattle.pg_controllers.specs.Worlds.{World, core, done_of, order_of}
use Rattle.pg_orderly.specs.Orderly.{Mark, is_deferred, HasPending, IsAhead, IsAsking, IsPlaced, IsOrderly}
use Rattle.pg_orderly.proofs.Keeping.{marked, moved}
use Rattle.pg_orderly.proofs.Rows.{IsEnd}
use Rattle.pg_orderly.proofs.Effects.{starts, filled, fill_acts}
use Rattle.pg_orderly.proofs.Filled.{IsFilling}
use Rattle.pg_orderly.proofs.Filling.{ready}
use Rattle.pg_orderly.proofs.Serving.{ArePutOff}
use Rattle.pg_orderly.proofs.TagReplay.{Leads, Stays}
use Rattle.pg_safe.proofs.Ends.{begins_lacks, phase_lacks}
use Rattle.pg_safe.proofs.Heads.{fits_at}
use Rattle.pg_safe.proofs.Replies.{datum, data_quiet}
use Rattle.pg_completions.proofs.Fills.{fills}
use Rattle.pg_completions.proofs.Late.{ahead_grants, plain_empty}
use Rattle.pg_completions.proofs.Ending.{serve_or_not, served_kept}
use Rattle.pg_completions.proofs.Picks.{with_reply, quiet_queue}

-- the line that is done, before what was put off is answered
abbrev pub done_line : Op → Received → Line → LineResult
done_line o met l = let a = filled o met l None in record a { line = record a.line { deferred = [] } }

-- data with which it is done
pub record IsDone (d : Draft) (w : World) (m : ℕ → Mark) (c : ℕ) (e : Event) (s : ℕ) (ph : Phase) (t : Tag) (i r v cnt k : ℕ) (ch : Choice) : Type 0 where
  pub end : IsEnd d t (act.Fill ∷ []) (final_state d s e (named.Reply r)) ch
  pub filling : IsFilling d w m c e s ph t i r v cnt k end.final
  pub op : Op
  pub pending : (core w c).line.pending ≡ Some op
  pub off : ArePutOff d (core w c).line.deferred
  pub leads : Leads d end.final (core w c).line.deferred end.state
  pub plain : t ≡ Plain → (core w c).line.deferred ≡ []

pub done_kept : (d : Draft) (n : ℕ) (w : World) (m : ℕ → Mark) (c : ℕ) (e : Event) (s : ℕ) (ph : Phase) (t : Tag) (i r v cnt k : ℕ) (ch : Choice) → IsWellFormed d → IsShaped d → c < n → IsOrderly d n w m
    → (cnt == (core w c).line.got) ≡ true → (h : IsDone d w m c e s ph t i r v cnt k ch)
    → (result_of d ch (received_reply d (core w c).line (Data r c v cnt k)) (core w c).line (core w c).slot ≡ goes_to (Stable h.end.state) (serve d h.end.final (core w c).line.deferred (done_line h.op (received_reply d (core w c).line (Data r c v cnt k)) (core w c).line)))
    × ((u : ℕ → Mark) × IsOrderly d n (with_reply w c i (result_of d ch (received_reply d (core w c).line (Data r c v cnt k)) (core w c).line (core w c).slot)) u)
done_kept d n w m c e s ph t i r v cnt k ch wf sh low o all h = (
  effect,
  let (u, ok) = served_kept d n c (core w c) a h.end.final h.end.state l.deferred (core w c).queue (remove w.replies i) dn w marks wf sh low inside refl back h.off h.leads in
      (u, subst (λ a. IsOrderly d n (with_reply w c i a) u) (sym effect) ok),
)
  where
    l : Line
    l = (core w c).line

    met : Received
    met = received_reply d l (Data r c v cnt k)

    a : LineResult
    a = done_line h.op met l

    inside : c < length w.cores
    inside = let same = o.cores in omega (arith, same, low)

    dn : List DoneEntry
    dn = w.done ++ done_of c (serve d h.end.final l.deferred a).done

    marks : ℕ → Mark
    marks = marked c (record { seen = (m c).last; last = (m c).last }) m

    back : IsOrderly d n (moved c (Rattle.pg_completions.proofs.Ending.rests h.end.final (core w c) a (l.deferred ++ (core w c).queue)) (remove w.replies i) dn w) marks
    back = fills d n w m c e s ph t i r v cnt k h.end.final (word_after h.op v) dn wf sh low o h.filling

    final_is : met.final ≡ h.end.final
    final_is =
        ap (λ x. final_at d x (reply_input l (Data r c v cnt k))) h.filling.desc
        ∙ ap (λ (b : Bool). final_at d (Ask e s ph t) (if b then at_input.DataAll r else at_input.DataPart r)) all
        ∙ ap (λ o. unwrap_or o 0) h.end.from

    effect : result_of d ch met l (core w c).slot ≡ goes_to (Stable h.end.state) (serve d h.end.final l.deferred a)
    effect =
        ap (result_of d ch met l) h.filling.slot
        ∙ ap (λ xs. goes_to ch.next (do_acts d met xs (starts l None))) h.end.acts
        ∙ ap (goes_to ch.next) (fill_acts d met l None h.op t h.pending)
        ∙ ap (goes_to ch.next) (serve_or_not d met (filled h.op met l None) t h.plain)
        ∙ ap (λ f. goes_to ch.next (serve d f l.deferred a)) final_is
        ∙ ap (λ s. goes_to s (serve d h.end.final l.deferred a)) h.end.next

-- A line that is ahead, and has put off all that came

pub all_off : (d : Draft) (ms : List Ordered) → ArePutOff d ms → filter (is_deferred d) ms ≡ ms
all_off d [] all = refl
all_off d (m ∷ ms) all = ap (λ b. cond b (m ∷ filter (is_deferred d) ms) (filter (is_deferred d) ms)) all.0 ∙ ap (λ xs. m ∷ xs) (all_off d ms all.1)

pub ahead_done : (d : Draft) (n : ℕ) (w : World) (m : ℕ → Mark) (c : ℕ) (e : Event) (s : ℕ) (ph : Phase) (t : Tag) (i r v cnt k : ℕ) (ch : Choice) → IsWellFormed d → IsShaped d → c < n → IsOrderly d n w m
    → slice_get w.replies i ≡ Some (Data r c v cnt k) → (core w c).line.desc ≡ Ask e s ph t → (core w c).slot ≡ None → HasPending (core w c).line e → (cnt == (core w c).line.got) ≡ true
    → IsEnd d t (act.Fill ∷ []) (final_state d s e (named.Reply r)) ch → (a : IsAhead d (order_of d w) c (core w c).line (m c) e s ph t)
    → ArePutOff d (sent_between (entry_message d (order_of d w) c) (m c).last a.past)
    → IsDone d w m c e s ph t i r v cnt k ch
ahead_done d n w m c e s ph t i r v cnt k ch wf sh low o get desc slot (op, pending, is_op) all end a off =
    let z = datum d n w m i r c v cnt k wf sh o get in
    let last = a.ordered.last in
    let at_it = z.last in
    let same : z.entry ≡ a.ordered.entry = omega (arith, last, at_it) in
    let grant = ahead_grants d n p sh k0 c (core w c) (m c) (core w c).line e s ph t pl a (named.Reply r) (subst (λ j. IsReply d (p.dir_entry j) (p.at j) (named.Reply r)) same z.reply) in
    let (asks, lacks) = phase_lacks d e s ph sh a.phase in
    let rd = ready d p c (core w c) (m c) e s ph t pl a off in
    let fin : grant.fin ≡ end.final = (let x = grant.ends in let y = end.from in cc (x, y)) in
    let told : end_under_tag d end.final t ≡ Some grant.state = subst (λ f. end_under_tag d f t ≡ Some grant.state) fin grant.told in
    let at : grant.state ≡ end.state = (let x = end.after in cc (x, told)) in
    let whole : (core w c).line.deferred ≡ sent_between (entry_message d p c) (m c).last a.past = a.deferred ∙ all_off d (sent_between (entry_message d p c) (m c).last a.past) off in
    record {
      end = end;
      filling = record {
        desc = desc;
        slot = slot;
        reply = get;
        all = eqb-true cnt (core w c).line.got all;
        final = end.from;
        asks = asks;
        lacks = lacks;
        entry = a.ordered.entry;
        last = a.ordered.last;
        event = a.ordered.event;
        state = a.state;
        rest = rd.rest;
        upto = rd.upto;
        queue = rd.queue;
        quiet = rd.quiet;
        no_inv = rd.no_inv;
      };
      op = op;
      pending = pending;
      off = subst (ArePutOff d) (sym whole) off;
      leads = subst (λ ms. Leads d end.final ms end.state) (sym whole) (subst (λ y. Leads d end.final (sent_between (entry_message d p c) (m c).last a.past) y) at (subst (λ f. Leads d f (sent_between (entry_message d p c) (m c).last a.past) grant.state) fin grant.leads));
      plain = λ plain. whole ∙ plain_empty d (sent_between (entry_message d p c) (m c).last a.past) (a.tag ∙ ap Some plain);
    }
  where
    p : DirOrder
    p = order_of d w

    k0 : IsKnown d n p
    k0 = known d n p wf sh o.past

    pl : IsPlaced d p c (core w c) (m c)
    pl = o.placed c low

-- A line that is level

pub level_done : (d : Draft) (n : ℕ) (w : World) (m : ℕ → Mark) (c : ℕ) (e : Event) (s : ℕ) (ph : Phase) (t : Tag) (i r v cnt k : ℕ) (ch : Choice) → IsWellFormed d → IsShaped d → c < n → IsOrderly d n w m
    → slice_get w.replies i ≡ Some (Data r c v cnt k) → (core w c).line.desc ≡ Ask e s ph t → (core w c).slot ≡ None → HasPending (core w c).line e → (cnt == (core w c).line.got) ≡ true
    → IsEnd d t (act.Fill ∷ []) (final_state d s e (named.Reply r)) ch → t ≡ Plain → IsAsking d (order_of d w) c (core w c).line (m c) e s ph t false
    → IsDone d w m c e s ph t i r v cnt k ch
level_done d n w m c e s ph t i r v cnt k ch wf sh low o get desc slot (op, pending, is_op) all end plain a =
    let last = a.2.last in
    let behind = a.3 in
    let upto = pl.last_low in
    let quiet = data_quiet d n w m i r c v cnt k wf sh o get in
    let (asks, lacks) = begins_lacks d e s ph sh a.1 in
    let (rest, more, queue) = quiet_queue (entry_message d p c) (m c).seen (m c).last pl.rest p.top (core w c).queue (omega (arith, behind)) upto pl.upto pl.queue quiet in
    let told : end_under_tag d end.final Plain ≡ Some end.state = subst (λ t. end_under_tag d end.final t ≡ Some end.state) plain end.after in
    let same : end.final ≡ end.state = cc in
    record {
      end = end;
      filling = record {
        desc = desc;
        slot = slot;
        reply = get;
        all = eqb-true cnt (core w c).line.got all;
        final = end.from;
        asks = asks;
        lacks = lacks;
        entry = a.2.entry;
        last = last;
        event = a.2.event;
        state = fits_at d n p k0 c (core w c) (m c) a.2.entry s pl (omega (arith, last, behind)) (omega (arith, last, upto)) (λ j lo hi. quiet j lo (omega (arith, hi, last))) (inr (omega (arith, last))) a.0.state;
        rest = rest;
        upto = more;
        queue = ap (λ xs. xs ++ (core w c).queue) a.0.deferred ∙ queue;
        quiet = quiet;
        no_inv = λ j g lo hi sends inv. absurd (omega (arith, lo, hi, behind));
      };
      op = op;
      pending = pending;
      off = subst (ArePutOff d) (sym a.0.deferred) tt;
      leads = subst (λ ms. Leads d end.final ms end.state) (sym a.0.deferred) (subst (λ y. Leads d end.final [] y) same (Stays end.final));
      plain = λ plain. a.0.deferred;
    }
  where
    p : DirOrder
    p = order_of d w

    k0 : IsKnown d n p
    k0 = known d n p wf sh o.past

    pl : IsPlaced d p c (core w c) (m c)
    pl = o.placed c low
