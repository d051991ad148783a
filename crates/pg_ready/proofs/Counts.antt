-- The order and the completed accesses of a reached world are no longer than the operations that were given.
use Rattle.std.proofs.Common.{◌≡◌, ℕ, suc, ◌+◌, ◌<◌, ◌≤◌, arith, Bool, true, false, cond, List, [], ◌∷◌, ◌++◌, length, map, set, get_or, Option, Some, None, refl, sym, ap, subst, ◌∙◌, inl, inr}
use Rattle.std.specs.Prelude.{◌==◌, slice_get, is_some, if◌then◌else◌}
use Rattle.std.specs.List.{remove}
use Rattle.std.proofs.lemmas.List.{length-append, get_or-set_same}
use Rattle.pg_perm.specs.declared.kinds.Event.{Event}
use Rattle.pg_perm.specs.declared.kinds.Op.{Op}
use Rattle.pg_perm.specs.declared.draft.Draft.{Draft}
use Rattle.pg_perm.specs.Drafts.{IsWellFormed}
use Rattle.pg_terms.specs.Terms.{is}
use Rattle.pg_shape.specs.Shaped.{IsShaped}
use Rattle.pg_table.specs.declared.cache.Act.{Act}
use Rattle.pg_table.specs.declared.cache.Act.TheVariants as act
use Rattle.pg_table.specs.declared.cache.Desc.{Desc}
use Rattle.pg_table.specs.declared.cache.Desc.TheVariants.{Stable, Ask, Leave}
use Rattle.pg_table.specs.declared.cache.Input.{Input}
use Rattle.pg_table.specs.declared.cache.Input.TheVariants as at_input
use Rattle.pg_table.specs.declared.directory.DirInput.TheVariants as met
use Rattle.pg_table.specs.Choices.{Choice, choices}
use Rattle.pg_table.specs.Directory.{DirChoice, dir_choice}
use Rattle.pg_table.specs.Tables.{TableState}
use Rattle.pg_table.specs.Pick.{pick}
use Rattle.pg_table.specs.Sound.{states_of, is_among, IsSoundCache}
use Rattle.pg_table.proofs.Picked.{picks_choice}
use Rattle.pg_messages.specs.declared.messages.Ask.{Ask as SentRequest}
use Rattle.pg_messages.specs.declared.messages.Finish.{Finish}
use Rattle.pg_messages.specs.declared.messages.Ordered.{Ordered}
use Rattle.pg_messages.specs.declared.messages.Ordered.TheVariants.{Forward, AckCount, PutAck}
use Rattle.pg_messages.specs.declared.messages.Reply.{Reply}
use Rattle.pg_messages.specs.declared.messages.Reply.TheVariants.{Data, InvAck, WbData}
use Rattle.pg_messages.specs.declared.messages.WorldEvent.{WorldEvent}
use Rattle.pg_messages.specs.declared.messages.WorldEvent.TheVariants.{Issue, Request as Request_of, Ordered as Ordered_to, Reply as Reply_at}
use Rattle.pg_order.specs.Messages.{tally}
use Rattle.pg_order.specs.Orders.{DirOrder, is_stale}
use Rattle.pg_controllers.specs.Networks.{Line, Core, event_of, idle_core}
use Rattle.pg_controllers.specs.Directories.{Posted, dir_entry_of, dir_input, do_dir_acts}
use Rattle.pg_controllers.specs.Lines.{Received, LineResult, complete_at_once, do_act, do_acts, result_of, ordered_input, reply_input, received_op, received_ordered, received_reply}
use Rattle.pg_controllers.specs.Worlds.{World, core, order_of, done_of, settle, by_choice, issue, deliver, post, handle_by, request, after_write_back, reply as replied, move, with_event, step, is_stable}
use Rattle.pg_controllers.specs.Runs.{opening_core, opening, replay, AreEnabled}
use Rattle.pg_orderly.specs.Orderly.{Mark, IsLined, IsOrderly}
use Rattle.pg_safe.specs.Moving.{IsComplete}
use Rattle.pg_safe.specs.Work.{total}
use Rattle.pg_safe.proofs.Replies.{data_due, ack_due}
use Rattle.pg_safe.proofs.States.{step_is}
use Rattle.pg_moves.specs.Kept.{IsSoundWorld}
use Rattle.pg_moves.proofs.Kept.{below_or, default_beyond, step_kept, opening_good}
use Rattle.pg_reached.specs.Reached.{IsReachedWorld}
use Rattle.pg_reached.proofs.Join.{are_kept_b}
use Rattle.pg_cache.specs.Rows.{outstanding}
use Rattle.pg_cache.specs.Inputs.{completes, is_core}
use Rattle.pg_cache.proofs.Outcomes.{one_sends, serve_sends, begins_or_ends, AreQuiet, quiet_leave, Starts, Goes, Outcome, each_get, outcomes}
use Rattle.pg_ready.proofs.Sums.{total-set, total_same}
use Rattle.pg_ready.proofs.Events.{rests}
use Rattle.pg_ready.proofs.Lists.{one_done}

-- What is counted

-- the requests that a core may still have handled, and the operations that it may still complete
abbrev pub asked : Core → ℕ
asked x = cond (is_some x.slot) 1 0 + length x.left

abbrev pub opened : Core → ℕ
opened x = cond (is_some x.line.pending) 1 0 + length x.left

-- what is listed and what may still be is no more than it was
abbrev pub AreFewer : World → World → Type 0
AreFewer w v = (length v.order + total asked v.cores ≤ length w.order + total asked w.cores) × (length v.done + total opened v.cores ≤ length w.done + total opened w.cores)

-- A row of a line

-- after a row its slot, and what it completed and has pending, count at most k more than before
abbrev pub IsWithin : ℕ → ℕ → Core → LineResult → Type 0
IsWithin k c x a = (cond (is_some a.slot) 1 0 ≤ cond (is_some x.slot) 1 0 + k) × (length (done_of c a.done) + cond (is_some a.line.pending) 1 0 ≤ cond (is_some x.line.pending) 1 0 + k)

settle_fewer : (k c : ℕ) (x : Core) (a : LineResult) (w : World) → c < length w.cores → IsWithin k c x a → asked x + k ≡ asked (core w c) → opened x + k ≡ opened (core w c) → AreFewer w (settle c x a w)
settle_fewer k c x a w low within slots waits =
    let y : Core = record x { line = a.line; slot = a.slot } in
    let (less_slots, less_waits) = within in
    let all_slots = total-set asked w.cores c y idle_core low in
    let all_waits = total-set opened w.cores c y idle_core low in
    let more = length-append w.done (done_of c a.done) in
    (omega (arith, all_slots, slots, less_slots), omega (arith, all_waits, waits, less_waits, more))

-- an operation is done at once, or its request is sent
starts_within : (d : Draft) (c : ℕ) (r : Received) (x : Core) (e : Event) (ch : Choice) → Starts e x.line.desc ch → IsWithin 1 c x (result_of d ch r x.line x.slot)
starts_within d c r x e ch (idle, how) = elim how [
  | inl (next, acts) ↦ elim acts [ inl hit ↦ by hit (at_once act.Hit refl) | inr skip ↦ by skip (at_once act.Skip refl) ]
  | inr (q, next, acts) ↦ by acts (omega arith, omega arith)
]
  where
    start : LineResult
    start = record { line = x.line; slot = x.slot; replies = []; done = None }

    by : {xs : List Act} → ch.acts ≡ xs → IsWithin 1 c x (do_acts d r xs start) → IsWithin 1 c x (result_of d ch r x.line x.slot)
    by acts h = subst (λ xs. IsWithin 1 c x (do_acts d r xs start)) (sym acts) h

    at_once : (z : Act) → do_act d r z start ≡ complete_at_once r.op r start → IsWithin 1 c x (do_act d r z start)
    at_once z same = let one = one_done c (complete_at_once r.op r start).done in subst (IsWithin 1 c x) (sym same) (omega arith, omega (arith, one))

-- acts that begin or end nothing leave the slot
act_slot : (d : Draft) (r : Received) (z : Act) (a : LineResult) → begins_or_ends z ≡ false → (do_act d r z a).slot ≡ a.slot
act_slot d r act.Hit a h = cc
act_slot d r act.Skip a h = cc
act_slot d r (act.Send q) a h = cc
act_slot d r act.Done a h = cc
act_slot d r act.Ack a h = ap (λ (b : LineResult). b.slot) (one_sends r.who r.count r.stamp act.Ack a)
act_slot d r (act.Give g) a h = ap (λ (b : LineResult). b.slot) (one_sends r.who r.count r.stamp (act.Give g) a)
act_slot d r act.Wb a h = ap (λ (b : LineResult). b.slot) (one_sends r.who r.count r.stamp act.Wb a)
act_slot d r act.Fill a h = refl
act_slot d r act.Need a h = refl
act_slot d r act.Count a h = refl
act_slot d r act.Defer a h = refl
act_slot d r act.Serve a h = ap (λ (b : LineResult). b.slot) (serve_sends d r.final a.line.deferred (record a { line = record a.line { deferred = [] } }))
act_slot d r act.Stall a h = refl

acts_slot : (d : Draft) (r : Received) (zs : List Act) (a : LineResult) → AreQuiet zs → (do_acts d r zs a).slot ≡ a.slot
acts_slot d r [] a quiet = refl
acts_slot d r (z ∷ zs) a quiet = acts_slot d r zs (do_act d r z a) quiet.1 ∙ act_slot d r z a quiet.0

-- a line with something outstanding has it pending
has_pending : (d : Draft) (p : DirOrder) (c : ℕ) (l : Line) (m : Mark) (s : Desc) (a : Option SentRequest) → IsLined d p c l m s a → is_some (outstanding s) ≡ true → (o : Op) × (l.pending ≡ Some o)
has_pending d p c l m (Stable s) a lined some = cc
has_pending d p c l m (Ask e s ph t) None lined some = let (o, pending, event) = lined.0 in (o, pending)
has_pending d p c l m (Ask e s ph t) (Some a) lined some = let (o, pending, event) = lined.0 in (o, pending)
has_pending d p c l m (Leave s) None lined some = let (o, pending, event) = lined.0 in (o, pending)
has_pending d p c l m (Leave s) (Some a) lined some = let (o, pending, event) = lined.0 in (o, pending)

-- the pending operation is completed, with the slot empty, or all is left
goes_within : (d : Draft) (c : ℕ) (r : Received) (x : Core) (ch : Choice) (b : Bool) → Goes d x.line.desc ch b → (is_some (outstanding x.line.desc) ≡ true → (o : Op) × (x.line.pending ≡ Some o))
    → (outstanding ch.next ≡ None → (result_of d ch r x.line x.slot).slot ≡ None) → IsWithin 0 c x (result_of d ch r x.line x.slot)
goes_within d c r x ch true (some, next, ends) pending empty =
    let (o, is_it) = pending some in
    let a : LineResult = result_of d ch r x.line x.slot in
    let slot : cond {A = ℕ} (is_some a.slot) 1 0 ≡ 0 = ap (λ (s : Option SentRequest). cond {A = ℕ} (is_some s) 1 0) (empty next) in
    let gone : cond {A = ℕ} (is_some a.line.pending) 1 0 ≡ 0 = ap (λ (z : Option Op). cond {A = ℕ} (is_some z) 1 0) (ends r (record { line = x.line; slot = x.slot; replies = []; done = None }) o is_it).0 in
    let was : cond {A = ℕ} (is_some x.line.pending) 1 0 ≡ 1 = ap (λ (z : Option Op). cond {A = ℕ} (is_some z) 1 0) is_it in
    let one = one_done c a.done in
    (omega (arith, slot), omega (arith, gone, was, one))
goes_within d c r x ch false (next, quiet) pending empty =
    let start : LineResult = record { line = x.line; slot = x.slot; replies = []; done = None } in
    let a : LineResult = result_of d ch r x.line x.slot in
    let (pends, dones) = quiet_leave d r ch.acts start quiet in
    let slot : cond {A = ℕ} (is_some a.slot) 1 0 ≡ cond (is_some x.slot) 1 0 = ap (λ (s : Option SentRequest). cond {A = ℕ} (is_some s) 1 0) (acts_slot d r ch.acts start quiet) in
    let same : cond {A = ℕ} (is_some a.line.pending) 1 0 ≡ cond (is_some x.line.pending) 1 0 = ap (λ (z : Option Op). cond {A = ℕ} (is_some z) 1 0) pends in
    let none : length (done_of c a.done) ≡ 0 = ap (λ (f : Option Finish). length (done_of c f)) dones in
    (omega (arith, slot), omega (arith, same, none))

-- A message is met

goes : (d : Draft) (s : Desc) (i : Input) (ch : Choice) → is_core i ≡ false → Outcome d s i ch → Goes d s ch (completes i)
goes d s (at_input.Core e) ch other o = cc
goes d s (at_input.Forward f) ch other o = o
goes d s at_input.CountAll ch other o = o
goes d s at_input.CountPart ch other o = o
goes d s at_input.PutAck ch other o = o
goes d s (at_input.DataAll r) ch other o = o
goes d s (at_input.DataPart r) ch other o = o
goes d s at_input.AckMore ch other o = o
goes d s at_input.AckLast ch other o = o

ordered_other : (l : Line) (q : Ordered) → is_core (ordered_input l q) ≡ false
ordered_other l (Forward f r n k) = refl
ordered_other l (AckCount n k) = at (n == l.got)
  where
    at : (b : Bool) → is_core (if b then at_input.CountAll else at_input.CountPart) ≡ false
    at true = refl
    at false = refl
ordered_other l (PutAck k) = refl

reply_other : (l : Line) (x : Reply) → is_core (reply_input l x) ≡ false
reply_other l (Data r c v n k) = at (n == l.got)
  where
    at : (b : Bool) → is_core (if b then at_input.DataAll r else at_input.DataPart r) ≡ false
    at true = refl
    at false = refl
reply_other l (InvAck c k) = at (is l.need (suc l.got))
  where
    at : (b : Bool) → is_core (if b then at_input.AckLast else at_input.AckMore) ≡ false
    at true = refl
    at false = refl
reply_other l (WbData v k) = refl

none_stable : (x : Desc) → outstanding x ≡ None → is_stable x ≡ true
none_stable (Stable s) none = refl
none_stable (Ask e s ph t) none = cc
none_stable (Leave s) none = cc

met_fewer : (d : Draft) (t : List TableState) (n : ℕ) (w x v : World) (m u : ℕ → Mark) (e : ℕ × WorldEvent) (c : ℕ) (i : Input) (r : Received) (y : Core) → IsSoundCache d t → IsOrderly d n (with_event e v) u
    → c < n → length x.cores ≡ n → IsLined d (order_of d w) c y.line (m c) y.line.desc y.slot → is_among (states_of t) y.line.desc ≡ true → is_core i ≡ false
    → asked y ≡ asked (core x c) → opened y ≡ opened (core x c) → by_choice d c r y x (pick t y.line.desc i) ≡ v → AreFewer x v
met_fewer d t n w x v m u e c i r y sound next low cores lined among other slots waits leads = subst (AreFewer x) leads (at (pick t y.line.desc i) refl)
  where
    inside : c < length x.cores
    inside = omega (arith, low, cores)

    at : (o : Option Choice) → pick t y.line.desc i ≡ o → AreFewer x (by_choice d c r y x o)
    at None picked = (omega arith, omega arith)
    at (Some ch) picked =
        let a : LineResult = result_of d ch r y.line y.slot in
        let (k, get) = picks_choice d t y.line.desc i ch sound among picked in
        let how = goes d y.line.desc i ch other (each_get (Outcome d y.line.desc i) (choices d y.line.desc i) k ch (outcomes d y.line.desc i) get) in
        let after : IsOrderly d n (with_event e (settle c y a x)) u = subst (λ (z : World). IsOrderly d n (with_event e z) u) (sym leads ∙ ap (λ (o : Option Choice). by_choice d c r y x o) picked) next in
        let there : core (settle c y a x) c ≡ record y { line = a.line; slot = a.slot } = get_or-set_same x.cores c (record y { line = a.line; slot = a.slot }) idle_core inside in
        let lined_after : IsLined d (order_of d (with_event e (settle c y a x))) c a.line (u c) a.line.desc a.slot =
        subst (λ (z : Core). IsLined d (order_of d (with_event e (settle c y a x))) c z.line (u c) z.line.desc z.slot) there (after.placed c low).line in
        let empty : outstanding ch.next ≡ None → a.slot ≡ None = λ none. rests d (order_of d (with_event e (settle c y a x))) c a.line (u c) ch.next a.slot (none_stable ch.next none) lined_after in
        let within = goes_within d c r y ch (completes i) how (has_pending d (order_of d w) c y.line (m c) y.line.desc y.slot lined) empty in
        settle_fewer 0 c y a x inside within (omega (arith, slots)) (omega (arith, waits))

-- Any event

-- what the directory posts changes no count
post_same : (f : Core → ℕ) → ((x : Core) (q : List Ordered) → f (record x { queue = q }) ≡ f x) → (ps : List (ℕ × Ordered)) (xs : List Core) → total f (post ps xs) ≡ total f xs
post_same f same [] xs = refl
post_same f same (p ∷ ps) xs =
    let x : Core = get_or xs p.0 idle_core in
    let y : Core = record x { queue = x.queue ++ p.1 ∷ [] } in
    post_same f same ps (set xs p.0 y) ∙ total_same f xs p.0 y idle_core (same x (x.queue ++ p.1 ∷ []))

event_fewer : (d : Draft) (t : List TableState) (n : ℕ) (w : World) (m u : ℕ → Mark) (b : ℕ) (e : WorldEvent) → IsWellFormed d → IsShaped d → IsSoundCache d t → IsOrderly d n w m → IsComplete t n w
    → IsOrderly d n (with_event (b, e) (move d (pick t) w e)) u → AreFewer w (move d (pick t) w e)
event_fewer d t n w m u b (Issue c) wf sh sound o full next = elim (below_or c n) [ inl low ↦ at low (core w c).left refl | inr out ↦ beyond out ]
  where
    beyond : n ≤ c → AreFewer w (issue d (pick t) c (core w c) w (core w c).left)
    beyond out =
        let cores = o.cores in
        let none : (core w c).left ≡ [] = ap (λ (x : Core). x.left) (default_beyond w.cores c (omega (arith, out, cores))) in
        subst (λ (os : List Op). AreFewer w (issue d (pick t) c (core w c) w os)) (sym none) (omega arith, omega arith)

    by : c < n → (v : Op) (os : List Op) → (core w c).left ≡ v ∷ os → (z : Option Choice) → pick t (core w c).line.desc (at_input.Core (event_of v)) ≡ z
        → AreFewer w (by_choice d c (received_op (core w c).line v) (record (core w c) { left = os }) w z)
    by low v os left None picked = (omega arith, omega arith)
    by low v os left (Some ch) picked =
        let y : Core = record (core w c) { left = os } in
        let (k, get) = picks_choice d t (core w c).line.desc (at_input.Core (event_of v)) ch sound (full.states c low) picked in
        let how = each_get (Outcome d (core w c).line.desc (at_input.Core (event_of v))) (choices d (core w c).line.desc (at_input.Core (event_of v))) k ch (outcomes d (core w c).line.desc (at_input.Core (event_of v))) get in
        let long : length (core w c).left ≡ suc (length os) = ap length left in
        let cores = o.cores in
        settle_fewer 1 c y (result_of d ch (received_op (core w c).line v) y.line y.slot) w (omega (arith, low, cores)) (starts_within d c (received_op (core w c).line v) y (event_of v) ch how) (omega (arith, long)) (omega (arith, long))

    at : c < n → (os : List Op) → (core w c).left ≡ os → AreFewer w (issue d (pick t) c (core w c) w os)
    at low [] left = (omega arith, omega arith)
    at low (v ∷ os) left = by low v os left (pick t (core w c).line.desc (at_input.Core (event_of v))) refl
event_fewer d t n w m u b (Request_of c) wf sh sound o full next = at (core w c).slot refl
  where
    gone : Core
    gone = record (core w c) { slot = None }

    taken : (a : SentRequest) → (core w c).slot ≡ Some a → (ch : DirChoice) → c < length w.cores → AreFewer w (handle_by d c a w (Some ch))
    taken a slot ch low =
        let p : Posted = do_dir_acts d (dir_entry_of w.directory) c (suc w.directory.last) a.word ch.acts (record { memory = w.directory.memory; invs = 0; posts = []; replies = [] }) in
        let posts_slots = post_same asked (λ x q. refl) p.posts (set w.cores c gone) in
        let posts_waits = post_same opened (λ x q. refl) p.posts (set w.cores c gone) in
        let slots = total-set asked w.cores c gone idle_core low in
        let waits = total_same opened w.cores c gone idle_core refl in
        let filled : cond {A = ℕ} (is_some (core w c).slot) 1 0 ≡ 1 = ap (λ (s : Option SentRequest). cond {A = ℕ} (is_some s) 1 0) slot in
        let more = length-append w.order (record { core = c; event = a.event; stale = is_stale (dir_entry_of w.directory) (record { core = c; event = a.event }) } ∷ []) in
        (omega (arith, posts_slots, slots, filled, more), omega (arith, posts_waits, waits))

    beyond : (a : SentRequest) → (core w c).slot ≡ Some a → length w.cores ≤ c → ⊥
    beyond a slot out = let none : (core w c).slot ≡ None = ap (λ (x : Core). x.slot) (default_beyond w.cores c out) in cc (none, slot)

    by : (a : SentRequest) → (core w c).slot ≡ Some a → (z : Option DirChoice) → AreFewer w (handle_by d c a w z)
    by a slot None = (omega arith, omega arith)
    by a slot (Some ch) = elim (below_or c (length w.cores)) [ inl low ↦ taken a slot ch low | inr out ↦ absurd (beyond a slot out) ]

    at : (s : Option SentRequest) → (core w c).slot ≡ s → AreFewer w (request d c w s)
    at None slot = (omega arith, omega arith)
    at (Some a) slot = by a slot (dir_choice d w.directory.desc (dir_input w.directory.desc (dir_entry_of w.directory) (record { core = c; event = a.event })))
event_fewer d t n w m u b (Ordered_to c) wf sh sound o full next = elim (below_or c n) [ inl low ↦ at low (core w c).queue refl | inr out ↦ beyond out ]
  where
    beyond : n ≤ c → AreFewer w (deliver d (pick t) c (core w c) w (core w c).queue)
    beyond out =
        let cores = o.cores in
        let none : (core w c).queue ≡ [] = ap (λ (x : Core). x.queue) (default_beyond w.cores c (omega (arith, out, cores))) in
        subst (λ (qs : List Ordered). AreFewer w (deliver d (pick t) c (core w c) w qs)) (sym none) (omega arith, omega arith)

    at : c < n → (qs : List Ordered) → (core w c).queue ≡ qs → AreFewer w (deliver d (pick t) c (core w c) w qs)
    at low [] queue = (omega arith, omega arith)
    at low (q ∷ qs) queue =
        let x : Core = core w c in
        met_fewer d t n w w (deliver d (pick t) c x w (q ∷ qs)) m u (b, Ordered_to c) c (ordered_input x.line q) (received_ordered x.line q) (record x { queue = qs }) sound
        (subst (λ (qs : List Ordered). IsOrderly d n (with_event (b, Ordered_to c) (deliver d (pick t) c (core w c) w qs)) u) queue next)
        low o.cores (o.placed c low).line (full.states c low) (ordered_other x.line q) refl refl refl
event_fewer d t n w m u b (Reply_at i) wf sh sound o full next = at (slice_get w.replies i) refl
  where
    rest : World
    rest = record w { replies = remove w.replies i }

    met_it : (c : ℕ) (x : Reply) → c < n → slice_get w.replies i ≡ Some x
        → replied d (pick t) rest (Some x) ≡ by_choice d c (received_reply d (core w c).line x) (core w c) rest (pick t (core w c).line.desc (reply_input (core w c).line x)) → AreFewer w (replied d (pick t) rest (Some x))
    met_it c x low get is_met = met_fewer d t n w rest (replied d (pick t) rest (Some x)) m u (b, Reply_at i) c (reply_input (core w c).line x) (received_reply d (core w c).line x) (core w c) sound
        (subst (λ (z : Option Reply). IsOrderly d n (with_event (b, Reply_at i) (replied d (pick t) rest z)) u) get next)
        low o.cores (o.placed c low).line (full.states c low) (reply_other (core w c).line x) refl refl (sym is_met)

    back : (v : ℕ) (z : Option DirChoice) → AreFewer w (after_write_back d v rest z)
    back v None = (omega arith, omega arith)
    back v (Some ch) = (omega arith, omega arith)

    at : (x : Option Reply) → slice_get w.replies i ≡ x → AreFewer w (replied d (pick t) rest x)
    at None get = (omega arith, omega arith)
    at (Some (Data r c v k s)) get = met_it c (Data r c v k s) (data_due d n w m i r c v k s wf sh o get).0 get refl
    at (Some (InvAck c s)) get = met_it c (InvAck c s) (ack_due d t n w m i c s wf sh sound o full get).0 get refl
    at (Some (WbData v s)) get = back v (dir_choice d rest.directory.desc met.Wb)

-- Runs

run_fewer : (d : Draft) (t : List TableState) (n : ℕ) → IsWellFormed d → IsShaped d → IsSoundCache d t → (es : List (ℕ × WorldEvent)) (w : World) → IsSoundWorld d t n w → AreEnabled d (pick t) w es → AreFewer w (replay d (pick t) w es)
run_fewer d t n wf sh sound [] w good on = (omega arith, omega arith)
run_fewer d t n wf sh sound (e ∷ es) w good on =
    let after = step_kept d t n w e wf sh sound (are_kept_b d t n wf sh sound w) on.0 good in
    let same = step_is d (pick t) w e on.0 in
    let (slots, waits) = subst (AreFewer w) (sym same) (event_fewer d t n w good.marks after.marks e.0 e.1 wf sh sound good.orderly good.complete (subst (λ (z : World). IsOrderly d n z after.marks) same after.orderly)) in
    let (more_slots, more_waits) = run_fewer d t n wf sh sound es (step d (pick t) w e) after on.1 in
    (omega (arith, slots, more_slots), omega (arith, waits, more_waits))

opening_counts : (d : Draft) (f : Core → ℕ) → ((os : List Op) → f (opening_core d os) ≡ length os) → (given : List (List Op)) → total f (map (opening_core d) given) ≡ total (λ (os : List Op). length os) given
opening_counts d f same [] = refl
opening_counts d f same (os ∷ given) = let here = same os in let rest = opening_counts d f same given in omega (arith, here, rest)

-- what a test counts, and a number for each, are summed as one
total_two : {A : Type 0} (t : A → Bool) (f : A → ℕ) (xs : List A) → total (λ x. cond (t x) 1 0 + f x) xs ≡ tally t xs + total f xs
total_two t f [] = refl
total_two t f (x ∷ xs) = let rest = total_two t f xs in omega (arith, rest)

reached_fewer : (d : Draft) (t : List TableState) (given : List (List Op)) (w : World) → IsReachedWorld d t given w → AreFewer (opening d given) w
reached_fewer d t given w r =
    subst (AreFewer (opening d given)) r.reached.same
    (run_fewer d t (length given) r.well_formed r.shaped r.sound w.journal (opening d given) (opening_good d t given r.well_formed r.shaped r.sound) r.reached.enabled)

pub orders_given : (d : Draft) (t : List TableState) (given : List (List Op)) (w : World) → IsReachedWorld d t given w
    → length w.order + tally (λ (x : Core). is_some x.slot) w.cores + total (λ (x : Core). length x.left) w.cores ≤ total (λ (os : List Op). length os) given
orders_given d t given w r =
    let (slots, waits) = reached_fewer d t given w r in
    let two : total asked w.cores ≡ tally (λ (x : Core). is_some x.slot) w.cores + total (λ (x : Core). length x.left) w.cores = total_two (λ (x : Core). is_some x.slot) (λ (x : Core). length x.left) w.cores in
    let first = opening_counts d asked (λ os. omega arith) given in
    omega (arith, slots, two, first)

pub dones_given : (d : Draft) (t : List TableState) (given : List (List Op)) (w : World) → IsReachedWorld d t given w
    → length w.done + tally (λ (x : Core). is_some x.line.pending) w.cores + total (λ (x : Core). length x.left) w.cores ≤ total (λ (os : List Op). length os) given
dones_given d t given w r =
    let (slots, waits) = reached_fewer d t given w r in
    let two : total opened w.cores ≡ tally (λ (x : Core). is_some x.line.pending) w.cores + total (λ (x : Core). length x.left) w.cores = total_two (λ (x : Core). is_some x.line.pending) (λ (x : Core). length x.left) w.cores in
    let first = opening_counts d opened (λ os. omega arith) given in
    omega (arith, waits, two, first)
