-- Each enabled event that a line meets finds it ready.
use Rattle.std.proofs.Common.{◌≡◌, ℕ, ◌<◌, ◌≤◌, arith, Bool, true, List, [], ◌∷◌, length, set, get_or, drop, Option, Some, None, refl, sym, ap, subst, ◌∙◌}
use Rattle.std.specs.Prelude.{slice_get, map, nat_lt, is_some, if◌then◌else◌}
use Rattle.std.specs.List.{remove}
use Rattle.std.proofs.lemmas.List.{length-map, get_or-map, set-get_or}
use Rattle.std.proofs.lemmas.Bool.{and_parts}
use Rattle.pg_perm.specs.declared.kinds.Op.{Op}
use Rattle.pg_perm.specs.declared.draft.Draft.{Draft}
use Rattle.pg_perm.specs.Drafts.{IsWellFormed}
use Rattle.pg_shape.specs.Shaped.{IsShaped}
use Rattle.pg_table.specs.declared.cache.Desc.{Desc}
use Rattle.pg_table.specs.declared.cache.Desc.TheVariants.{Stable, Ask, Leave}
use Rattle.pg_table.specs.declared.cache.Input.{Input}
use Rattle.pg_table.specs.declared.cache.Input.TheVariants as at
use Rattle.pg_table.specs.Choices.{Choice}
use Rattle.pg_table.specs.Tables.{Parts}
use Rattle.pg_table.specs.Sound.{IsSoundCache}
use Rattle.pg_table.specs.Pick.{pick}
use Rattle.pg_messages.specs.declared.messages.Ask.{Ask as SentRequest}
use Rattle.pg_messages.specs.declared.messages.Ordered.{Ordered}
use Rattle.pg_messages.specs.declared.messages.Reply.{Reply}
use Rattle.pg_messages.specs.declared.messages.Reply.TheVariants.{Data, InvAck}
use Rattle.pg_messages.specs.declared.messages.WorldEvent.{WorldEvent}
use Rattle.pg_messages.specs.declared.messages.WorldEvent.TheVariants.{Issue, Ordered as Ordered_to, Reply as Reply_at}
use Rattle.pg_order.specs.Orders.{DirOrder}
use Rattle.pg_controllers.specs.Networks.{Line, Core, event_of, idle_core}
use Rattle.pg_controllers.specs.Lines.{Received, result_of, ordered_input, reply_input, received_op, received_ordered, received_reply}
use Rattle.pg_controllers.specs.Worlds.{World, core, order_of, settle, by_choice, issue, deliver, reply, move, with_event, is_stable, is_enabled, has_row, has_first, has_next, has_reply}
use Rattle.pg_orderly.specs.Orderly.{Mark, IsLined, IsOrderly}
use Rattle.pg_safe.specs.Moving.{IsComplete}
use Rattle.pg_safe.proofs.Replies.{data_due, ack_due}
use Rattle.pg_reached.proofs.Join.{each_kept}
use Rattle.pg_reached.proofs.Happens.{enabled_happens}
use Rattle.pg_queue.specs.Nets.{without_head, without_reply}
use Rattle.pg_cache.specs.Rows.{IsReady}
use Rattle.pg_ready.specs.WorldViews.{nets_of, line_of}
use Rattle.pg_ready.proofs.Few.{got_few}
use Rattle.pg_ready.proofs.Ready.{ready_by}

pub some_is : {A : Type 0} (o : Option A) → is_some o ≡ true → (x : A) × (o ≡ Some x)
some_is None h = cc
some_is (Some x) h = (x, refl)

-- The next world is orderly
pub stepped : (t : Parts) (n : ℕ) (w : World) (m : ℕ → Mark) (e : WorldEvent) (v : World) → IsWellFormed t.protocol → IsShaped t.protocol → IsSoundCache t.protocol t.cache → IsOrderly t.protocol n w m → IsComplete t.cache n w
    → is_enabled (pick t.cache) w e ≡ true → move t.protocol (pick t.cache) w e ≡ v → (u : ℕ → Mark) × IsOrderly t.protocol n (with_event (0, e) v) u
stepped t n w m e v wf sh sound o full on moves =
    let can = enabled_happens t.protocol t.cache n w m e wf sh sound o full on in
    let (u, kept) = each_kept t.protocol t.cache n wf sh sound w m (0, e) o full can in
    let now = subst (λ (b : Bool). IsOrderly t.protocol n (with_event (0, e) (if b then move t.protocol (pick t.cache) w e else w)) u) can kept in
    (u, subst (λ (z : World). IsOrderly t.protocol n (with_event (0, e) z) u) moves now)

pub row : (t : Parts) (n : ℕ) (w : World) (m : ℕ → Mark) (e : WorldEvent) → IsWellFormed t.protocol → IsShaped t.protocol → IsSoundCache t.protocol t.cache → IsOrderly t.protocol n w m → IsComplete t.cache n w
    → is_enabled (pick t.cache) w e ≡ true → has_row t.protocol (pick t.cache) w e ≡ true
row t n w m e wf sh sound o full on = (and_parts (is_enabled (pick t.cache) w e) (has_row t.protocol (pick t.cache) w e) (enabled_happens t.protocol t.cache n w m e wf sh sound o full on)).1

slot_is : (w : World) (c : ℕ) → c < length w.cores → get_or (nets_of w).slots c None ≡ (core w c).slot
slot_is w c low = get_or-map (λ (x : Core). x.slot) w.cores c idle_core None low

list_is : (w : World) (c : ℕ) → c < length w.cores → get_or (nets_of w).lists c [] ≡ (core w c).queue
list_is w c low = get_or-map (λ (x : Core). x.queue) w.cores c idle_core [] low

-- lists in which nothing was taken
lists_are : (w : World) (c : ℕ) → c < length w.cores → (nets_of w).lists ≡ set (map (λ x. x.queue) w.cores) c (core w c).queue
lists_are w c low = sym (ap (λ (q : List Ordered). set (nets_of w).lists c q) (sym (list_is w c low)) ∙ set-get_or (nets_of w).lists c [])

pub operation_ready : (t : Parts) (n : ℕ) (w : World) (m : ℕ → Mark) (c : ℕ) (o : Op) (os : List Op) → IsWellFormed t.protocol → IsShaped t.protocol → IsSoundCache t.protocol t.cache
    → n ≤ 64 → IsOrderly t.protocol n w m → IsComplete t.cache n w → c < n → (core w c).left ≡ o ∷ os → is_enabled (pick t.cache) w (Issue c) ≡ true
    → IsReady t (at.Core (event_of o)) (received_op (core w c).line o) (line_of t.cache n w c) (nets_of w)
operation_ready t n w m c o os wf sh sound few orderly full low left on =
    let there : is_some (pick t.cache (core w c).line.desc (at.Core (event_of o))) ≡ true =
    ap (λ (xs : List Op). has_first (pick t.cache) (core w c).line xs) (sym left) ∙ row t n w m (Issue c) wf sh sound orderly full on in
    let (ch, picked) = some_is (pick t.cache (core w c).line.desc (at.Core (event_of o))) there in
    let r : Received = received_op (core w c).line o in
    let y : Core = record (core w c) { left = os } in
    let moves : move t.protocol (pick t.cache) w (Issue c) ≡ settle c y (result_of t.protocol ch r (core w c).line (core w c).slot) w =
    ap (λ (xs : List Op). issue t.protocol (pick t.cache) c (core w c) w xs) left ∙ ap (λ (z : Option Choice). by_choice t.protocol c r y w z) picked in
    let (u, next) = stepped t n w m (Issue c) (settle c y (result_of t.protocol ch r (core w c).line (core w c).slot) w) wf sh sound orderly full on moves in
    let cores = orderly.cores in
    let inside : c < length w.cores = omega (arith, low, cores) in
    ready_by t n u c (at.Core (event_of o)) r ch y w (nets_of w).slots (nets_of w).lists (0, Issue c) wf sh sound next cores low (length-map w.cores (λ (x : Core). x.slot) ∙ cores)
    (slot_is w c inside) (lists_are w c inside) (full.states c low) picked (got_few t.protocol n w m c wf sh few orderly low)

-- a line at rest has sent no request
pub rests : (d : Draft) (p : DirOrder) (c : ℕ) (l : Line) (m : Mark) (s : Desc) (a : Option SentRequest) → is_stable s ≡ true → IsLined d p c l m s a → a ≡ None
rests d p c l m (Stable s) None h lined = refl
rests d p c l m (Stable s) (Some a) h lined = absurd lined
rests d p c l m (Ask e s ph t) a h lined = cc
rests d p c l m (Leave s) a h lined = cc

pub slot_empty : (t : Parts) (n : ℕ) (w : World) (m : ℕ → Mark) (c : ℕ) → IsOrderly t.protocol n w m → c < n → is_enabled (pick t.cache) w (Issue c) ≡ true → get_or (nets_of w).slots c None ≡ None
slot_empty t n w m c o low on =
    let cores = o.cores in
    slot_is w c (omega (arith, low, cores))
    ∙ rests t.protocol (order_of t.protocol w) c (core w c).line (m c) (core w c).line.desc (core w c).slot (and_parts (is_stable (core w c).line.desc) (nat_lt 0 (length (core w c).left)) on).0 (o.placed c low).line

pub head_ready : (t : Parts) (n : ℕ) (w : World) (m : ℕ → Mark) (c : ℕ) (q : Ordered) (qs : List Ordered) → IsWellFormed t.protocol → IsShaped t.protocol → IsSoundCache t.protocol t.cache
    → n ≤ 64 → IsOrderly t.protocol n w m → IsComplete t.cache n w → c < n → (core w c).queue ≡ q ∷ qs → is_enabled (pick t.cache) w (Ordered_to c) ≡ true
    → IsReady t (ordered_input (core w c).line q) (received_ordered (core w c).line q) (line_of t.cache n w c) (without_head c (nets_of w))
head_ready t n w m c q qs wf sh sound few orderly full low queue on =
    let i : Input = ordered_input (core w c).line q in
    let there : is_some (pick t.cache (core w c).line.desc i) ≡ true =
    ap (λ (xs : List Ordered). has_next (pick t.cache) (core w c).line xs) (sym queue) ∙ row t n w m (Ordered_to c) wf sh sound orderly full on in
    let (ch, picked) = some_is (pick t.cache (core w c).line.desc i) there in
    let r : Received = received_ordered (core w c).line q in
    let y : Core = record (core w c) { queue = qs } in
    let moves : move t.protocol (pick t.cache) w (Ordered_to c) ≡ settle c y (result_of t.protocol ch r (core w c).line (core w c).slot) w =
    ap (λ (xs : List Ordered). deliver t.protocol (pick t.cache) c (core w c) w xs) queue ∙ ap (λ (z : Option Choice). by_choice t.protocol c r y w z) picked in
    let (u, next) = stepped t n w m (Ordered_to c) (settle c y (result_of t.protocol ch r (core w c).line (core w c).slot) w) wf sh sound orderly full on moves in
    let cores = orderly.cores in
    let inside : c < length w.cores = omega (arith, low, cores) in
    let lists : (without_head c (nets_of w)).lists ≡ set (map (λ x. x.queue) w.cores) c qs =
    ap (λ (xs : List Ordered). set (nets_of w).lists c (drop 1 xs)) (list_is w c inside ∙ queue) in
    ready_by t n u c i r ch y w (nets_of w).slots (without_head c (nets_of w)).lists (0, Ordered_to c) wf sh sound next cores low (length-map w.cores (λ (x : Core). x.slot) ∙ cores)
    (slot_is w c inside) lists (full.states c low) picked (got_few t.protocol n w m c wf sh few orderly low)

-- a reply to a core
reply_ready : (t : Parts) (n : ℕ) (w : World) (m : ℕ → Mark) (k c : ℕ) (i : Input) (r : Received) → IsWellFormed t.protocol → IsShaped t.protocol → IsSoundCache t.protocol t.cache
    → n ≤ 64 → IsOrderly t.protocol n w m → IsComplete t.cache n w → c < n → is_enabled (pick t.cache) w (Reply_at k) ≡ true → is_some (pick t.cache (core w c).line.desc i) ≡ true
    → move t.protocol (pick t.cache) w (Reply_at k) ≡ by_choice t.protocol c r (core w c) (record w { replies = remove w.replies k }) (pick t.cache (core w c).line.desc i)
    → IsReady t i r (line_of t.cache n w c) (without_reply k (nets_of w))
reply_ready t n w m k c i r wf sh sound few orderly full low on there is =
    let (ch, picked) = some_is (pick t.cache (core w c).line.desc i) there in
    let rest : World = record w { replies = remove w.replies k } in
    let moves : move t.protocol (pick t.cache) w (Reply_at k) ≡ settle c (core w c) (result_of t.protocol ch r (core w c).line (core w c).slot) rest =
    is ∙ ap (λ (z : Option Choice). by_choice t.protocol c r (core w c) rest z) picked in
    let (u, next) = stepped t n w m (Reply_at k) (settle c (core w c) (result_of t.protocol ch r (core w c).line (core w c).slot) rest) wf sh sound orderly full on moves in
    let cores = orderly.cores in
    let inside : c < length w.cores = omega (arith, low, cores) in
    ready_by t n u c i r ch (core w c) rest (nets_of w).slots (nets_of w).lists (0, Reply_at k) wf sh sound next cores low (length-map w.cores (λ (x : Core). x.slot) ∙ cores)
    (slot_is w c inside) (lists_are w c inside) (full.states c low) picked (got_few t.protocol n w m c wf sh few orderly low)

pub data_ready : (t : Parts) (n : ℕ) (w : World) (m : ℕ → Mark) (i r c v acks k : ℕ) → IsWellFormed t.protocol → IsShaped t.protocol → IsSoundCache t.protocol t.cache
    → n ≤ 64 → IsOrderly t.protocol n w m → IsComplete t.cache n w → slice_get w.replies i ≡ Some (Data r c v acks k) → is_enabled (pick t.cache) w (Reply_at i) ≡ true
    → (c < n) × IsReady t (reply_input (core w c).line (Data r c v acks k)) (received_reply t.protocol (core w c).line (Data r c v acks k)) (line_of t.cache n w c) (without_reply i (nets_of w))
data_ready t n w m i r c v acks k wf sh sound few orderly full get on =
    let (low, due) = data_due t.protocol n w m i r c v acks k wf sh orderly get in (
      low,
      reply_ready t n w m i c (reply_input (core w c).line (Data r c v acks k)) (received_reply t.protocol (core w c).line (Data r c v acks k)) wf sh sound few orderly full low on
          (ap (λ (x : Option Reply). has_reply t.protocol (pick t.cache) w x) (sym get) ∙ row t n w m (Reply_at i) wf sh sound orderly full on)
          (ap (λ (x : Option Reply). reply t.protocol (pick t.cache) (record w { replies = remove w.replies i }) x) get),
    )

pub ack_ready : (t : Parts) (n : ℕ) (w : World) (m : ℕ → Mark) (i c k : ℕ) → IsWellFormed t.protocol → IsShaped t.protocol → IsSoundCache t.protocol t.cache
    → n ≤ 64 → IsOrderly t.protocol n w m → IsComplete t.cache n w → slice_get w.replies i ≡ Some (InvAck c k) → is_enabled (pick t.cache) w (Reply_at i) ≡ true
    → (c < n) × IsReady t (reply_input (core w c).line (InvAck c k)) (received_reply t.protocol (core w c).line (InvAck c k)) (line_of t.cache n w c) (without_reply i (nets_of w))
ack_ready t n w m i c k wf sh sound few orderly full get on =
    let (low, due) = ack_due t.protocol t.cache n w m i c k wf sh sound orderly full get in (
      low,
      reply_ready t n w m i c (reply_input (core w c).line (InvAck c k)) (received_reply t.protocol (core w c).line (InvAck c k)) wf sh sound few orderly full low on
          (ap (λ (x : Option Reply). has_reply t.protocol (pick t.cache) w x) (sym get) ∙ row t n w m (Reply_at i) wf sh sound orderly full on)
          (ap (λ (x : Option Reply). reply t.protocol (pick t.cache) (record w { replies = remove w.replies i }) x) get),
    )
