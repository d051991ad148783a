-- What a row completes, and which operation is outstanding after it.
use Rattle.std.proofs.Common.{◌≡◌, Bool, true, false, List, [], ◌∷◌, set, get_or, Option, Some, None, refl, sym, ap, subst, ◌∙◌, inl, inr}
use Rattle.std.specs.Prelude.{is_some, is_none, if◌then◌else◌}
use Rattle.std.specs.Option.{option_map}
use Rattle.std.proofs.lemmas.List.{get_or-set_same}
use Rattle.pg_perm.specs.declared.kinds.Event.{Event}
use Rattle.pg_perm.specs.declared.kinds.Op.{Op}
use Rattle.pg_perm.specs.declared.draft.Draft.{Draft}
use Rattle.pg_table.specs.declared.cache.Desc.{Desc}
use Rattle.pg_table.specs.declared.cache.Input.{Input}
use Rattle.pg_table.specs.declared.cache.Input.TheVariants as at
use Rattle.pg_table.specs.declared.cache.Act.{Act}
use Rattle.pg_table.specs.declared.cache.Act.TheVariants as act
use Rattle.pg_table.specs.Tables.{Parts}
use Rattle.pg_table.specs.Sound.{IsSoundCache}
use Rattle.pg_table.specs.Choices.{Choice, choices}
use Rattle.pg_messages.specs.declared.messages.Finish.{Finish}
use Rattle.pg_messages.specs.declared.messages.Ordered.{Ordered}
use Rattle.pg_messages.specs.declared.messages.Ordered.TheVariants.{Forward, AckCount, PutAck}
use Rattle.pg_messages.specs.declared.messages.Reply.{Reply}
use Rattle.pg_messages.specs.declared.messages.Reply.TheVariants.{Data, InvAck, WbData}
use Rattle.pg_controllers.specs.Networks.{Line, event_of}
use Rattle.pg_controllers.specs.Lines.{Received, LineResult, do_act, do_acts, serve, send_reply, complete_pending, ordered_input, reply_input}
use Rattle.pg_queue.specs.Nets.{Nets}
use Rattle.pg_cache.specs.Acts.{LineView}
use Rattle.pg_cache.specs.Rows.{RowResult, IsReady, HasOutstanding, outstanding, finish_of, after_row}
use Rattle.pg_cache.specs.Inputs.{IsMetAt, completes, is_core}
use Rattle.pg_cache.proofs.Outcomes.{Sends, one_sends, serve_sends, quiet_leave, Starts, Goes, Outcome, outcomes, each_get}
use Rattle.pg_cache.proofs.Driven.{choice_ready}
use Rattle.pg_cache.proofs.Keeps.{row_is}

-- What is completed has the stamp of what was met

abbrev Carries : Received → Option Finish → Type 0
Carries m o = finish_of m (option_map (λ f. f.fin) o) ≡ o

by_sends : (m : Received) (a b : LineResult) → Sends a b → Carries m a.done → Carries m b.done
by_sends m a b s h = let same : b.done ≡ a.done = ap (λ (z : LineResult). z.done) s in subst (Carries m) (sym same) h

pub done_carries : (m : Received) (o : Option Op) (a : LineResult) → Carries m a.done → Carries m (complete_pending o m a).done
done_carries m None a h = h
done_carries m (Some o) a h = refl

act_carries : (d : Draft) (m : Received) (x : Act) (a : LineResult) → Carries m a.done → Carries m (do_act d m x a).done
act_carries d m act.Hit a h = refl
act_carries d m act.Skip a h = refl
act_carries d m (act.Send q) a h = h
act_carries d m act.Ack a h = by_sends m a (send_reply m.who m.count m.stamp act.Ack a) (one_sends m.who m.count m.stamp act.Ack a) h
act_carries d m (act.Give r) a h = by_sends m a (send_reply m.who m.count m.stamp (act.Give r) a) (one_sends m.who m.count m.stamp (act.Give r) a) h
act_carries d m act.Wb a h = by_sends m a (send_reply m.who m.count m.stamp act.Wb a) (one_sends m.who m.count m.stamp act.Wb a) h
act_carries d m act.Fill a h = h
act_carries d m act.Need a h = h
act_carries d m act.Count a h = h
act_carries d m act.Done a h = done_carries m a.line.pending a h
act_carries d m act.Defer a h = h
act_carries d m act.Serve a h = by_sends m (record a { line = record a.line { deferred = [] } }) (serve d m.final a.line.deferred (record a { line = record a.line { deferred = [] } }))
    (serve_sends d m.final a.line.deferred (record a { line = record a.line { deferred = [] } })) h
act_carries d m act.Stall a h = h

acts_carry : (d : Draft) (m : Received) (xs : List Act) (a : LineResult) → Carries m a.done → Carries m (do_acts d m xs a).done
acts_carry d m [] a h = h
acts_carry d m (x ∷ xs) a h = acts_carry d m xs (do_act d m x a) (act_carries d m x a h)

pub row_carries : (t : Parts) (i : Input) (m : Received) (x : LineView) (w : Nets) → IsReady t i m x w → finish_of m (option_map (λ f. f.fin) (after_row t i m x w).done) ≡ (after_row t i m x w).done
row_carries t i m x w ready =
    subst (λ (r : RowResult). Carries m r.done) (sym (row_is t i m x w ready))
    (acts_carry t.protocol m ready.choice.acts (record { line = x.line; slot = get_or w.slots x.core None; replies = []; done = None }) refl)

-- What is pending after a row

goes : (d : Draft) (s : Desc) (i : Input) (c : Choice) → is_core i ≡ false → Outcome d s i c → Goes d s c (completes i)
goes d s (at.Core e) c h o = cc
goes d s (at.Forward f) c h o = o
goes d s at.CountAll c h o = o
goes d s at.CountPart c h o = o
goes d s at.PutAck c h o = o
goes d s (at.DataAll r) c h o = o
goes d s (at.DataPart r) c h o = o
goes d s at.AckMore c h o = o
goes d s at.AckLast c h o = o

-- a state with something outstanding has a pending operation
pending_is : (o : Option Op) (e : Option Event) → option_map event_of o ≡ e → is_some e ≡ true → (x : Op) × (o ≡ Some x)
pending_is None e h some = absurd (let none : is_some e ≡ false = ap is_some (sym h) in cc (none, some))
pending_is (Some x) e h some = (x, refl)

abbrev start : LineView → Nets → LineResult
start x w = record { line = x.line; slot = get_or w.slots x.core None; replies = []; done = None }

-- the same is outstanding as the next state says
abbrev IsKept : Draft → Received → LineView → Nets → Choice → Type 0
IsKept d m x w c = option_map event_of (do_acts d m c.acts (start x w)).line.pending ≡ outstanding c.next

goes_kept : (d : Draft) (m : Received) (x : LineView) (w : Nets) (c : Choice) (b : Bool) → HasOutstanding x.line → Goes d x.line.desc c b → IsKept d m x w c
goes_kept d m x w c true has (some, none, ends) =
    let (o, pending) = pending_is x.line.pending (outstanding x.line.desc) has some in
    ap (option_map event_of) (ends m (start x w) o pending).0 ∙ sym none
goes_kept d m x w c false has (same, quiet) = ap (option_map event_of) (quiet_leave d m c.acts (start x w) quiet).0 ∙ has ∙ sym same

starts_kept : (d : Draft) (e : Event) (m : Received) (x : LineView) (w : Nets) (c : Choice) → event_of m.op ≡ e → HasOutstanding x.line → Starts e x.line.desc c → IsKept d m x w c
starts_kept d e m x w c met has (free, inl (none, inl acts)) = ap (λ (xs : List Act). option_map event_of (do_acts d m xs (start x w)).line.pending) acts ∙ has ∙ free ∙ sym none
starts_kept d e m x w c met has (free, inl (none, inr acts)) = ap (λ (xs : List Act). option_map event_of (do_acts d m xs (start x w)).line.pending) acts ∙ has ∙ free ∙ sym none
starts_kept d e m x w c met has (free, inr (q, out, acts)) = ap (λ (xs : List Act). option_map event_of (do_acts d m xs (start x w)).line.pending) acts ∙ ap Some met ∙ sym out

pub kept : (d : Draft) (i : Input) (m : Received) (x : LineView) (w : Nets) (c : Choice) → IsMetAt i m → HasOutstanding x.line → Outcome d x.line.desc i c → IsKept d m x w c
kept d (at.Core e) m x w c met has o = starts_kept d e m x w c met has o
kept d (at.Forward f) m x w c met has o = goes_kept d m x w c false has o
kept d at.CountAll m x w c met has o = goes_kept d m x w c true has o
kept d at.CountPart m x w c met has o = goes_kept d m x w c false has o
kept d at.PutAck m x w c met has o = goes_kept d m x w c true has o
kept d (at.DataAll r) m x w c met has o = goes_kept d m x w c true has o
kept d (at.DataPart r) m x w c met has o = goes_kept d m x w c false has o
kept d at.AckMore m x w c met has o = goes_kept d m x w c false has o
kept d at.AckLast m x w c met has o = goes_kept d m x w c true has o

outcome : (t : Parts) (i : Input) (m : Received) (x : LineView) (w : Nets) → IsSoundCache t.protocol t.cache → (ready : IsReady t i m x w) → Outcome t.protocol x.line.desc i ready.choice
outcome t i m x w sound ready =
    let (k, get) = choice_ready t i m x w sound ready in
    each_get (Outcome t.protocol x.line.desc i) (choices t.protocol x.line.desc i) k ready.choice (outcomes t.protocol x.line.desc i) get

pub outstanding_kept : (t : Parts) (i : Input) (m : Received) (x : LineView) (w : Nets) → IsSoundCache t.protocol t.cache → IsReady t i m x w → IsMetAt i m → HasOutstanding x.line
    → HasOutstanding (after_row t i m x w).line.line
outstanding_kept t i m x w sound ready met has =
    subst (λ (r : RowResult). HasOutstanding r.line.line) (sym (row_is t i m x w ready)) (kept t.protocol i m x w ready.choice met has (outcome t i m x w sound ready))

-- What is completed

pub goes_done : (d : Draft) (m : Received) (x : LineView) (w : Nets) (c : Choice) (b : Bool) → HasOutstanding x.line → Goes d x.line.desc c b → is_some (do_acts d m c.acts (start x w)).done ≡ b
goes_done d m x w c true has (some, none, ends) =
    let (o, pending) = pending_is x.line.pending (outstanding x.line.desc) has some in (ends m (start x w) o pending).1
goes_done d m x w c false has (same, quiet) = ap is_some (quiet_leave d m c.acts (start x w) quiet).1

pub row_completes : (t : Parts) (i : Input) (m : Received) (x : LineView) (w : Nets) → IsSoundCache t.protocol t.cache → IsReady t i m x w → HasOutstanding x.line → is_core i ≡ false
    → is_some (after_row t i m x w).done ≡ completes i
row_completes t i m x w sound ready has other =
    ap (λ (r : RowResult). is_some r.done) (row_is t i m x w ready)
    ∙ goes_done t.protocol m x w ready.choice (completes i) has (goes t.protocol x.line.desc i ready.choice other (outcome t i m x w sound ready))

starts_done : (d : Draft) (e : Event) (m : Received) (x : LineView) (w : Nets) (c : Choice) → get_or w.slots x.core None ≡ None → Starts e x.line.desc c
    → is_none (do_acts d m c.acts (start x w)).done ≡ is_some (do_acts d m c.acts (start x w)).slot
starts_done d e m x w c empty (free, inl (none, inl acts)) =
    ap (λ (xs : List Act). is_none (do_acts d m xs (start x w)).done) acts ∙ sym (ap (λ (xs : List Act). is_some (do_acts d m xs (start x w)).slot) acts ∙ ap is_some empty)
starts_done d e m x w c empty (free, inl (none, inr acts)) =
    ap (λ (xs : List Act). is_none (do_acts d m xs (start x w)).done) acts ∙ sym (ap (λ (xs : List Act). is_some (do_acts d m xs (start x w)).slot) acts ∙ ap is_some empty)
starts_done d e m x w c empty (free, inr (q, out, acts)) =
    ap (λ (xs : List Act). is_none (do_acts d m xs (start x w)).done) acts ∙ sym (ap (λ (xs : List Act). is_some (do_acts d m xs (start x w)).slot) acts)

pub row_sends : (t : Parts) (e : Event) (m : Received) (x : LineView) (w : Nets) → IsSoundCache t.protocol t.cache → IsReady t (at.Core e) m x w → get_or w.slots x.core None ≡ None
    → is_none (after_row t (at.Core e) m x w).done ≡ is_some (get_or (after_row t (at.Core e) m x w).nets.slots x.core None)
row_sends t e m x w sound ready empty =
    let is = row_is t (at.Core e) m x w ready in
    let a : LineResult = do_acts t.protocol m ready.choice.acts (start x w) in
    let slot : get_or (set w.slots x.core a.slot) x.core None ≡ a.slot = get_or-set_same w.slots x.core a.slot None ready.core in
    ap (λ (r : RowResult). is_none r.done) is
    ∙ starts_done t.protocol e m x w ready.choice empty (outcome t (at.Core e) m x w sound ready)
    ∙ ap is_some (sym slot)
    ∙ sym (ap (λ (r : RowResult). is_some (get_or r.nets.slots x.core None)) is)

pub row_sends_at : (t : Parts) (i : Input) (e : Event) (m : Received) (x : LineView) (w : Nets) → IsSoundCache t.protocol t.cache → IsReady t i m x w → i ≡ at.Core e → get_or w.slots x.core None ≡ None
    → is_none (after_row t i m x w).done ≡ is_some (get_or (after_row t i m x w).nets.slots x.core None)
row_sends_at t i e m x w sound ready is empty =
    subst (λ (i : Input). IsReady t i m x w → is_none (after_row t i m x w).done ≡ is_some (get_or (after_row t i m x w).nets.slots x.core None)) (sym is)
    (λ ready. row_sends t e m x w sound ready empty) ready

-- Messages are no operations

input_if : (b : Bool) (i j : Input) → is_core i ≡ false → is_core j ≡ false → is_core (if b then i else j) ≡ false
input_if true i j p q = p
input_if false i j p q = q

pub ordered_other : (l : Line) (m : Ordered) → is_core (ordered_input l m) ≡ false
ordered_other l (Forward f r n k) = refl
ordered_other l (AckCount n k) = input_if _ at.CountAll at.CountPart refl refl
ordered_other l (PutAck k) = refl

pub reply_other : (l : Line) (m : Reply) → is_core (reply_input l m) ≡ false
reply_other l (Data r c v n k) = input_if _ (at.DataAll r) (at.DataPart r) refl refl
reply_other l (InvAck c k) = input_if _ at.AckLast at.AckMore refl refl
reply_other l (WbData v k) = refl

met_other : (i : Input) (m : Received) → is_core i ≡ false → IsMetAt i m
met_other (at.Core e) m h = cc
met_other (at.Forward f) m h = tt
met_other at.CountAll m h = tt
met_other at.CountPart m h = tt
met_other at.PutAck m h = tt
met_other (at.DataAll r) m h = tt
met_other (at.DataPart r) m h = tt
met_other at.AckMore m h = tt
met_other at.AckLast m h = tt

pub ordered_met : (l : Line) (m : Ordered) (r : Received) → IsMetAt (ordered_input l m) r
ordered_met l m r = met_other (ordered_input l m) r (ordered_other l m)

pub reply_met : (l : Line) (m : Reply) (r : Received) → IsMetAt (reply_input l m) r
reply_met l m r = met_other (reply_input l m) r (reply_other l m)

-- The outcome of what was completed

pub some_of : (o : Option Finish) → is_some (option_map (λ f. f.fin) o) ≡ is_some o
some_of None = refl
some_of (Some f) = refl

pub none_of : (o : Option Finish) → is_none (option_map (λ f. f.fin) o) ≡ is_none o
none_of None = refl
none_of (Some f) = refl
