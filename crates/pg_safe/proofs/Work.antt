-- Each event lowers the work that is left.
use Rattle.std.proofs.Common.{◌≡◌, ◌≢◌, ℕ, zero, suc, ◌+◌, ◌*◌, ◌<◌, ◌≤◌, arith, Bool, true, false, ◌||◌, not, List, [], ◌∷◌, ◌++◌, length, get_or, set, Option, Some, None, refl, sym, ap, subst, ◌∙◌, ◌⊎◌, inl, inr}
use Rattle.std.specs.Prelude.{◌==◌, nat_lt, map, slice_get, unwrap_or, if◌then◌else◌, is_some}
use Rattle.std.specs.List.{list_any, remove}
use Rattle.std.proofs.lemmas.Bool.{eqb-false, ltb-true}
use Rattle.std.proofs.lemmas.List.{length-append}
use Rattle.std.proofs.lemmas.List.Edits.{length-remove}
use Rattle.std.proofs.Math.ListN.{get_or-eq_default}
use Rattle.pg_perm.proofs.Booleans.{and_true}
use Rattle.pg_perm.specs.declared.kinds.Event.{Event}
use Rattle.pg_perm.specs.declared.kinds.Event.TheVariants.{Load, Store, Evict}
use Rattle.pg_perm.specs.declared.kinds.DirKind.TheVariants as kind
use Rattle.pg_perm.specs.declared.kinds.Op.{Op}
use Rattle.pg_perm.specs.declared.kinds.Who.{Who}
use Rattle.pg_perm.specs.declared.kinds.Who.TheVariants.{Other, Sharer, Owner}
use Rattle.pg_perm.specs.declared.kinds.FwdClass.TheVariants.{Inv, Share}
use Rattle.pg_perm.specs.declared.draft.Draft.{Draft}
use Rattle.pg_perm.specs.declared.draft.Action.{Action}
use Rattle.pg_perm.specs.declared.draft.Action.TheVariants as action
use Rattle.pg_perm.specs.Drafts.{IsWellFormed}
use Rattle.pg_terms.specs.Terms.{is, has_class, forward_of}
use Rattle.pg_terms.specs.Due.{kind_is}
use Rattle.pg_shape.specs.Shaped.{IsShaped}
use Rattle.pg_shape.proofs.Bools.{true_not}
use Rattle.pg_shape.proofs.Searches.{not_true}
use Rattle.pg_directory.specs.DirEntries.{DirEntry, without_core, who}
use Rattle.pg_directory.specs.Sound.{IsSound}
use Rattle.pg_directory.specs.Requests.{IsHandled, action_of}
use Rattle.pg_directory.proofs.Facts.{one_class, first_has_class, drop_no_share}
use Rattle.pg_directory.proofs.Handling.{action_has_row, store_forward}
use Rattle.pg_table.specs.declared.cache.Desc.{Desc}
use Rattle.pg_table.specs.declared.cache.Input.{Input}
use Rattle.pg_table.specs.declared.cache.Input.TheVariants as at_input
use Rattle.pg_table.specs.Tables.{TableState}
use Rattle.pg_table.specs.declared.directory.DirAct.{DirAct}
use Rattle.pg_table.specs.declared.directory.DirAct.TheVariants as does
use Rattle.pg_table.specs.declared.directory.DirInput.TheVariants as met
use Rattle.pg_table.specs.Choices.{Choice, choices}
use Rattle.pg_table.specs.DueInputs.{is_due_input}
use Rattle.pg_table.specs.Directory.{DirChoice, act_of_action, evict_acts, dir_choice}
use Rattle.pg_table.specs.Pick.{pick as picked}
use Rattle.pg_table.specs.Sound.{is_among, states_of, IsSoundCache}
use Rattle.pg_table.specs.Stalls.{is_stall}
use Rattle.pg_table.proofs.DueInputs.{due_chooses}
use Rattle.pg_table.proofs.Picked.{picks_some, picks_choice}
use Rattle.pg_messages.specs.declared.messages.Ordered.{Ordered}
use Rattle.pg_messages.specs.declared.messages.Ordered.TheVariants.{Forward, AckCount, PutAck}
use Rattle.pg_order.proofs.Known.{known}
use Rattle.pg_messages.specs.declared.messages.Ask.{Ask as SentRequest}
use Rattle.pg_messages.specs.declared.messages.Reply.{Reply}
use Rattle.pg_messages.specs.declared.messages.Reply.TheVariants.{Data, InvAck, WbData}
use Rattle.pg_controllers.specs.Networks.{Line, Core, idle_core, event_of}
use Rattle.pg_controllers.specs.Lines.{Received, LineResult, result_of, ordered_input, reply_input, received_op, received_ordered, received_reply}
use Rattle.pg_controllers.specs.Directories.{Posted, is_busy, dir_entry_of, dir_input, to_owner, do_dir_act, do_dir_acts}
use Rattle.pg_messages.specs.declared.messages.WorldEvent.{WorldEvent}
use Rattle.pg_messages.specs.declared.messages.WorldEvent.TheVariants.{Issue, Request as Request_of, Ordered as Ordered_to, Reply as Reply_at}
use Rattle.pg_controllers.specs.Worlds.{Picks, World, core, order_of, settle, by_choice, issue, deliver, post, handle, handle_by, request, after_write_back, reply as replied, move, is_stable, waits, has_head, is_enabled}
use Rattle.pg_orderly.specs.Orderly.{Mark, IsOrderly}
use Rattle.pg_orderly.proofs.Rows.{IsChosen}
use Rattle.pg_safe.specs.Moving.{IsComplete}
use Rattle.pg_safe.specs.Work.{total, operation_work, slot_work, message_work, core_work, work}
use Rattle.pg_safe.proofs.ActWork.{total-append, cost, acts_work, bound, choice_cost}
use Rattle.pg_safe.proofs.Counting.{without_length}
use Rattle.pg_safe.proofs.Heads.{head_of}
use Rattle.pg_safe.proofs.Waiting.{head_met}
use Rattle.pg_safe.proofs.Replies.{data_due, ack_due}
use Rattle.pg_safe.proofs.Requests.{DoesFor, request_handled, request_due}

-- Sums

total-set : {X : Type 0} (f : X → ℕ) (xs : List X) (c : ℕ) (y z : X) → c < length xs → total f (set xs c y) + f (get_or xs c z) ≡ total f xs + f y
total-set f [] c y z low = absurd (omega (arith, low))
total-set f (x ∷ xs) zero y z low = omega arith
total-set f (x ∷ xs) (suc c) y z low = let rest = total-set f xs c y z (omega (arith, low)) in omega (arith, rest)

total_set_most : {X : Type 0} (f : X → ℕ) (xs : List X) (c : ℕ) (y z : X) → f (get_or xs c z) ≤ f y → total f (set xs c y) + f (get_or xs c z) ≤ total f xs + f y
total_set_most f [] c y z more = omega (arith, more)
total_set_most f (x ∷ xs) zero y z more = omega arith
total_set_most f (x ∷ xs) (suc c) y z more = let rest = total_set_most f xs c y z more in omega (arith, rest)

-- A choice is carried out at a core

choice_work : (d : Draft) (n c : ℕ) (y : Core) (m : Received) (ch : Choice) (w : World) → c < length w.cores
    → work d n (settle c y (result_of d ch m y.line y.slot) w) + core_work d n (core w c) ≤ work d n w + core_work d n y + total (cost d n m.message) ch.acts
choice_work d n c y m ch w low =
    let a : LineResult = result_of d ch m y.line y.slot in
    let cores = total-set (core_work d n) w.cores c (record y { line = a.line; slot = a.slot }) idle_core low in
    let sent = length-append w.replies a.replies in
    let acts = acts_work d n m ch.acts (record { line = y.line; slot = y.slot; replies = []; done = None }) in
    omega (arith, cores, sent, acts)

-- A message of a queue is met

forward_is_it : (l : Line) (q : Ordered) (f : ℕ) → ordered_input l q ≡ at_input.Forward f → (r : ℕ) × (j : ℕ) × (k : ℕ) × (q ≡ Forward f r j k)
forward_is_it l (Forward g r j k) f e = let same : g ≡ f = cc in (r, j, k, ap (λ g. Forward g r j k) same)
forward_is_it l (AckCount i k) f e = absurd (at (i == l.got) e)
  where
    at : (b : Bool) → (if b then at_input.CountAll else at_input.CountPart) ≡ at_input.Forward f → ⊥
    at true e = cc
    at false e = cc
forward_is_it l (PutAck k) f e = cc

message_is : (l : Line) (q : Ordered) → (received_ordered l q).message ≡ q
message_is l (Forward f r j k) = refl
message_is l (AckCount i k) = refl
message_is l (PutAck k) = refl

bound_below : (d : Draft) (n : ℕ) (l : Line) (q : Ordered) → bound d n q (ordered_input l q) + 1 ≤ message_work d q
bound_below d n l (Forward f r j k) = at (has_class Share d f)
  where
    at : (b : Bool) → (if b then 2 else 1) + 1 ≤ (if b then 3 else 2)
    at true = omega arith
    at false = omega arith
bound_below d n l (AckCount i k) = at (i == l.got)
  where
    at : (b : Bool) → bound d n (AckCount i k) (if b then at_input.CountAll else at_input.CountPart) + 1 ≤ 1
    at true = omega arith
    at false = omega arith
bound_below d n l (PutAck k) = omega arith

pub deliver_less : (d : Draft) (n : ℕ) (pick : Picks) (w : World) (c : ℕ) (q : Ordered) (ms : List Ordered) (ch : Choice) → c < length w.cores → (core w c).queue ≡ q ∷ ms
    → pick (core w c).line.desc (ordered_input (core w c).line q) ≡ Some ch → IsChosen (choices d (core w c).line.desc (ordered_input (core w c).line q)) ch → list_any is_stall ch.acts ≡ false
    → work d n (move d pick w (Ordered_to c)) < work d n w
deliver_less d n pick w c q ms ch low queue picks chosen moves =
    let x = core w c in
    let y : Core = record (core w c) { queue = ms } in
    let goes : move d pick w (Ordered_to c) ≡ settle c y (result_of d ch (received_ordered (core w c).line q) y.line y.slot) w =
    ap (deliver d pick c (core w c) w) queue ∙ ap (by_choice d c (received_ordered (core w c).line q) y w) picks in
    let all = choice_work d n c y (received_ordered (core w c).line q) ch w low in
    let costs = choice_cost d n (core w c).line.desc (ordered_input (core w c).line q) q ch chosen (λ f e. moves) (λ f e. forward_is_it (core w c).line q f e) in
    let same : total (cost d n (received_ordered (core w c).line q).message) ch.acts ≡ total (cost d n q) ch.acts = ap (λ q. total (cost d n q) ch.acts) (message_is (core w c).line q) in
    let below = bound_below d n (core w c).line q in
    let there : total (message_work d) (core w c).queue ≡ message_work d q + total (message_work d) ms = ap (total (message_work d)) queue in
    subst (λ z. work d n z < work d n w) (sym goes) (omega (arith, all, costs, same, below, there))

-- An operation begins

pub issue_less : (d : Draft) (n : ℕ) (pick : Picks) (w : World) (c : ℕ) (o : Op) (os : List Op) (ch : Choice) → c < length w.cores → (core w c).left ≡ o ∷ os
    → pick (core w c).line.desc (at_input.Core (event_of o)) ≡ Some ch → IsChosen (choices d (core w c).line.desc (at_input.Core (event_of o))) ch → work d n (move d pick w (Issue c)) < work d n w
issue_less d n pick w c o os ch low left picks chosen =
    let y : Core = record (core w c) { left = os } in
    let goes : move d pick w (Issue c) ≡ settle c y (result_of d ch (received_op (core w c).line o) y.line y.slot) w =
    ap (issue d pick c (core w c) w) left ∙ ap (by_choice d c (received_op (core w c).line o) y w) picks in
    let all = choice_work d n c y (received_op (core w c).line o) ch w low in
    let costs = choice_cost d n (core w c).line.desc (at_input.Core (event_of o)) (PutAck 0) ch chosen (λ f e. absurd (other f e)) (λ f e. absurd (other f e)) in
    let there : total (operation_work n) (core w c).left ≡ operation_work n o + total (operation_work n) os = ap (total (operation_work n)) left in
    subst (λ z. work d n z < work d n w) (sym goes) (omega (arith, all, costs, there))
  where
    other : (f : ℕ) → at_input.Core (event_of o) ≡ at_input.Forward f → ⊥
    other f e = cc

-- A reply is met

no_forward : (l : Line) (x : Reply) (f : ℕ) → reply_input l x ≡ at_input.Forward f → ⊥
no_forward l (Data r c v i k) f e = at (i == l.got) e
  where
    at : (b : Bool) → (if b then at_input.DataAll r else at_input.DataPart r) ≡ at_input.Forward f → ⊥
    at true e = cc
    at false e = cc
no_forward l (InvAck c k) f e = at (is l.need (suc l.got)) e
  where
    at : (b : Bool) → (if b then at_input.AckLast else at_input.AckMore) ≡ at_input.Forward f → ⊥
    at true e = cc
    at false e = cc
no_forward l (WbData v k) f e = cc

no_bound : (d : Draft) (n : ℕ) (l : Line) (x : Reply) → bound d n (PutAck 0) (reply_input l x) ≡ 0
no_bound d n l (Data r c v i k) = at (i == l.got)
  where
    at : (b : Bool) → bound d n (PutAck 0) (if b then at_input.DataAll r else at_input.DataPart r) ≡ 0
    at true = refl
    at false = refl
no_bound d n l (InvAck c k) = at (is l.need (suc l.got))
  where
    at : (b : Bool) → bound d n (PutAck 0) (if b then at_input.AckLast else at_input.AckMore) ≡ 0
    at true = refl
    at false = refl
no_bound d n l (WbData v k) = refl

reply_no_message : (d : Draft) (l : Line) (x : Reply) → (received_reply d l x).message ≡ PutAck 0
reply_no_message d l (Data r c v i k) = refl
reply_no_message d l (InvAck c k) = refl
reply_no_message d l (WbData v k) = refl

taken_less : (w : World) (i : ℕ) (x : Reply) → slice_get w.replies i ≡ Some x → length (remove w.replies i) + 1 ≡ length w.replies
taken_less w i x get = length-remove w.replies i (below w.replies i get)
  where
    below : (xs : List Reply) (i : ℕ) → slice_get xs i ≡ Some x → i < length xs
    below [] i e = cc
    below (y ∷ ys) zero e = omega arith
    below (y ∷ ys) (suc i) e = let rest = below ys i e in omega (arith, rest)

met_less : (d : Draft) (n : ℕ) (w : World) (c i : ℕ) (x : Reply) (ch : Choice) → c < length w.cores → slice_get w.replies i ≡ Some x → IsChosen (choices d (core w c).line.desc (reply_input (core w c).line x)) ch
    → work d n (settle c (core w c) (result_of d ch (received_reply d (core w c).line x) (core w c).line (core w c).slot) (record w { replies = remove w.replies i })) < work d n w
met_less d n w c i x ch low get chosen =
    let v : World = record w { replies = remove w.replies i } in
    let all = choice_work d n c (core w c) (received_reply d (core w c).line x) ch v low in
    let costs = choice_cost d n (core w c).line.desc (reply_input (core w c).line x) (PutAck 0) ch chosen (λ f e. absurd (no_forward (core w c).line x f e)) (λ f e. absurd (no_forward (core w c).line x f e)) in
    let same : total (cost d n (received_reply d (core w c).line x).message) ch.acts ≡ total (cost d n (PutAck 0)) ch.acts = ap (λ q. total (cost d n q) ch.acts) (reply_no_message d (core w c).line x) in
    let none = no_bound d n (core w c).line x in
    let less = taken_less w i x get in
    omega (arith, all, costs, same, none, less)

pub data_less : (d : Draft) (n : ℕ) (pick : Picks) (w : World) (i r c v cnt k : ℕ) (ch : Choice) → c < length w.cores → slice_get w.replies i ≡ Some (Data r c v cnt k)
    → pick (core w c).line.desc (reply_input (core w c).line (Data r c v cnt k)) ≡ Some ch → IsChosen (choices d (core w c).line.desc (reply_input (core w c).line (Data r c v cnt k))) ch
    → work d n (move d pick w (Reply_at i)) < work d n w
data_less d n pick w i r c v cnt k ch low get picks chosen =
    let u : World = record w { replies = remove w.replies i } in
    let goes = ap (replied d pick u) get ∙ ap (by_choice d c (received_reply d (core w c).line (Data r c v cnt k)) (core w c) u) picks in
    subst (λ z. work d n z < work d n w) (sym goes) (met_less d n w c i (Data r c v cnt k) ch low get chosen)

pub ack_less : (d : Draft) (n : ℕ) (pick : Picks) (w : World) (i c k : ℕ) (ch : Choice) → c < length w.cores → slice_get w.replies i ≡ Some (InvAck c k)
    → pick (core w c).line.desc (reply_input (core w c).line (InvAck c k)) ≡ Some ch → IsChosen (choices d (core w c).line.desc (reply_input (core w c).line (InvAck c k))) ch
    → work d n (move d pick w (Reply_at i)) < work d n w
ack_less d n pick w i c k ch low get picks chosen =
    let u : World = record w { replies = remove w.replies i } in
    let goes = ap (replied d pick u) get ∙ ap (by_choice d c (received_reply d (core w c).line (InvAck c k)) (core w c) u) picks in
    subst (λ z. work d n z < work d n w) (sym goes) (met_less d n w c i (InvAck c k) ch low get chosen)

pub wb_less : (d : Draft) (n : ℕ) (pick : Picks) (w : World) (i v k : ℕ) → slice_get w.replies i ≡ Some (WbData v k) → work d n (move d pick w (Reply_at i)) < work d n w
wb_less d n pick w i v k get = subst (λ z. work d n z < work d n w) (sym (ap (replied d pick u) get)) (at (dir_choice d w.directory.desc met.Wb))
  where
    u : World
    u = record w { replies = remove w.replies i }

    at : (o : Option DirChoice) → work d n (after_write_back d v u o) < work d n w
    at None = let less = taken_less w i (WbData v k) get in omega (arith, less)
    at (Some ch) = let less = taken_less w i (WbData v k) get in omega (arith, less)

-- A request is handled

post_work : (d : Draft) (n : ℕ) (ps : List (ℕ × Ordered)) (xs : List Core) → total (core_work d n) (post ps xs) ≤ total (core_work d n) xs + total (λ x. message_work d x.1) ps
post_work d n [] xs = omega arith
post_work d n (p ∷ ps) xs =
    let x : Core = get_or xs p.0 idle_core in
    let y : Core = record x { queue = x.queue ++ p.1 ∷ [] } in
    let queue = total-append (message_work d) (get_or xs p.0 idle_core).queue (p.1 ∷ []) in
    let more : core_work d n y ≡ core_work d n x + message_work d p.1 = omega (arith, queue) in
    let here = total_set_most (core_work d n) xs p.0 y idle_core (omega (arith, more)) in
    let rest = post_work d n ps (set xs p.0 y) in
    omega (arith, more, here, rest)

-- what the directory sends, and what an act of it costs
abbrev posted : Draft → Posted → ℕ
posted d p = total (λ x. message_work d x.1) p.posts + length p.replies

abbrev directory_cost : Draft → DirEntry → ℕ → DirAct → ℕ
directory_cost d s c (does.Reply r) = 1
directory_cost d s c (does.Forward f) = if has_class Share d f then 3 else 2
directory_cost d s c does.Inv = 2 * length (without_core c s.sharers)
directory_cost d s c does.AckCount = 1
directory_cost d s c does.Write = 0
directory_cost d s c does.PutAck = 1
directory_cost d s c does.Stall = 0

-- where there is somebody to be sent one, an invalidation is no share
abbrev AreLight : Draft → DirEntry → ℕ → Type 0
AreLight d s c = 1 ≤ length (without_core c s.sharers) → has_class Share d (unwrap_or (forward_of d Inv) 0) ≡ false

each_work : (d : Draft) (q : Ordered) (xs : List ℕ) → message_work d q ≤ 2 → total (λ (x : ℕ × Ordered). message_work d x.1) (map (λ x. (x, q)) xs) ≤ 2 * length xs
each_work d q [] low = omega arith
each_work d q (x ∷ xs) low = let rest = each_work d q xs low in omega (arith, rest, low)

directory_act_work : (d : Draft) (s : DirEntry) (c k : ℕ) (word : Option ℕ) (x : DirAct) (p : Posted) → AreLight d s c → posted d (do_dir_act d s c k word x p) ≤ posted d p + directory_cost d s c x
directory_act_work d s c k word (does.Reply r) p light = let more = length-append p.replies (Data r c p.memory p.invs k ∷ []) in omega (arith, more)
directory_act_work d s c k word (does.Forward f) p light = at s.owner
  where
    at : (o : Option ℕ) → total (λ (x : ℕ × Ordered). message_work d x.1) (p.posts ++ to_owner o (Forward f c p.invs k)) + length p.replies ≤ posted d p + (if has_class Share d f then 3 else 2)
    at None = let more = total-append (λ (x : ℕ × Ordered). message_work d x.1) p.posts [] in omega (arith, more)
    at (Some o) = let more = total-append (λ (x : ℕ × Ordered). message_work d x.1) p.posts ((o, Forward f c p.invs k) ∷ []) in omega (arith, more)
directory_act_work d s c k word does.Inv p light = at (without_core c s.sharers) light
  where
    q : Ordered
    q = Forward (unwrap_or (forward_of d Inv) 0) c 0 k

    at : (xs : List ℕ) → (1 ≤ length xs → has_class Share d (unwrap_or (forward_of d Inv) 0) ≡ false)
        → total (λ (x : ℕ × Ordered). message_work d x.1) (p.posts ++ map (λ x. (x, q)) xs) + length p.replies ≤ posted d p + 2 * length xs
    at [] light = let more = total-append (λ (x : ℕ × Ordered). message_work d x.1) p.posts [] in omega (arith, more)
    at (x ∷ xs) light =
        let more = total-append (λ (x : ℕ × Ordered). message_work d x.1) p.posts (map (λ x. (x, q)) (x ∷ xs)) in
        let weight : message_work d q ≡ 2 = ap (λ (b : Bool). if b then 3 else 2) (light (omega arith)) in
        let all = each_work d q (x ∷ xs) (omega (arith, weight)) in omega (arith, more, all)
directory_act_work d s c k word does.AckCount p light = let more = total-append (λ (x : ℕ × Ordered). message_work d x.1) p.posts ((c, AckCount p.invs k) ∷ []) in omega (arith, more)
directory_act_work d s c k word does.Write p light = omega arith
directory_act_work d s c k word does.PutAck p light = let more = total-append (λ (x : ℕ × Ordered). message_work d x.1) p.posts ((c, PutAck k) ∷ []) in omega (arith, more)
directory_act_work d s c k word does.Stall p light = omega arith

directory_acts_work : (d : Draft) (s : DirEntry) (c k : ℕ) (word : Option ℕ) (xs : List DirAct) (p : Posted) → AreLight d s c → posted d (do_dir_acts d s c k word xs p) ≤ posted d p + total (directory_cost d s c) xs
directory_acts_work d s c k word [] p light = omega arith
directory_acts_work d s c k word (x ∷ xs) p light =
    let first = directory_act_work d s c k word x p light in
    let rest = directory_acts_work d s c k word xs (do_dir_act d s c k word x p) light in omega (arith, first, rest)

-- what a request costs: less than the request itself
action_cost : (d : Draft) (s : DirEntry) (c : ℕ) (a : Action) → directory_cost d s c (act_of_action a) ≤ 3
action_cost d s c (action.Reply m) = omega arith
action_cost d s c (action.Forward f) = at (has_class Share d f)
  where
    at : (b : Bool) → (if b then 3 else 2) ≤ 3
    at true = omega arith
    at false = omega arith
action_cost d s c action.Count = omega arith

request_cost : (d : Draft) (n : ℕ) (s : DirEntry) (c : ℕ) (e : Event) (ch : DirChoice) → IsShaped d → IsSound d n s → c < n → IsHandled d n s (record { core = c; event = e }) → DoesFor d s c e ch
    → total (directory_cost d s c) ch.acts ≤ 2 * n
request_cost d n s c Load ch sh so low h (a, acts, is_it) = subst (λ xs. total (directory_cost d s c) xs ≤ 2 * n) (sym is_it) (at a acts)
  where
    at : (a : Action) → action_of d s (record { core = c; event = Load }) ≡ Some a → total (directory_cost d s c) (act_of_action a ∷ []) ≤ 2 * n
    at (action.Reply m) acts = omega (arith, low)
    at (action.Forward f) acts =
        let (o, owner, ne) = h.passed f acts in
        let below = (so.owner o owner).0 in
        let apart : c ≢ o = eqb-false c o ne in
        let most = action_cost d s c (action.Forward f) in omega (arith, low, below, apart, most)
    at action.Count acts = omega (arith, low)
request_cost d n s c Store ch sh so low h (a, acts, is_it) = subst (λ xs. total (directory_cost d s c) xs ≤ 2 * n) (sym is_it) (with_invs (kind_is kind.Shared d s.dir || kind_is kind.Mixed d s.dir))
  where
    others : length (without_core c s.sharers) + 1 ≤ n
    others = without_length n c s.sharers low so.rising so.inside

    one : (a : Action) → action_of d s (record { core = c; event = Store }) ≡ Some a → directory_cost d s c (act_of_action a) ≤ 2
    one (action.Reply m) acts = omega arith
    one (action.Forward f) acts =
        let (r, row, act) = action_has_row d s (record { core = c; event = Store }) (action.Forward f) acts in
        let (not_owner, held_it, drops) = store_forward d n s f r (who s c) sh so row act in
        let weight : directory_cost d s c (does.Forward f) ≡ 2 = ap (λ (b : Bool). if b then 3 else 2) (drop_no_share d f drops) in omega (arith, weight)
    one action.Count acts = omega arith

    with_invs : (b : Bool) → total (directory_cost d s c) ((if b then does.Inv ∷ [] else []) ++ act_of_action a ∷ []) ≤ 2 * n
    with_invs true = let most = one a acts in let few = others in omega (arith, most, few)
    with_invs false = let most = one a acts in omega (arith, most, low)
request_cost d n s c Evict ch sh so low h is_it = subst (λ xs. total (directory_cost d s c) xs ≤ 2 * n) (sym is_it) (at (who s c))
  where
    at : (w : Who) → total (directory_cost d s c) (evict_acts w) ≤ 2 * n
    at Other = omega (arith, low)
    at Sharer = omega (arith, low)
    at Owner = omega (arith, low)

are_light : (d : Draft) (n : ℕ) (s : DirEntry) (c : ℕ) → IsShaped d → IsSound d n s → AreLight d s c
are_light d n s c sh so some =
    let (x, there) = Rattle.pg_safe.proofs.Waiting.needs_shared d n s (record { core = c; event = Store }) sh so some in
    let (f, inv) = sh.forwards.inv x there in
    let not_share = not_true (has_class Share d f) (λ share. absurd (cc (one_class d f Inv Share (first_has_class d Inv f inv) share))) in
    ap (λ o. has_class Share d (unwrap_or o 0)) inv ∙ not_share

pub request_less : (d : Draft) (n : ℕ) (pick : Picks) (w : World) (m : ℕ → Mark) (c : ℕ) (a : SentRequest) → IsWellFormed d → IsShaped d → IsOrderly d n w m → c < n → (core w c).slot ≡ Some a → is_busy w.directory.desc ≡ false
    → work d n (move d pick w (Request_of c)) < work d n w
request_less d n pick w m c a wf sh o low slot free =
    let (ch, there, acts) = request_due d n w m c a wf sh o low slot free in by ch there acts
  where
    s : DirEntry
    s = dir_entry_of w.directory

    so : IsSound d n s
    so = let p = order_of d w in subst (IsSound d n) (sym o.directory) ((known d n p wf sh o.past).sound p.top (omega arith))

    inside : c < length w.cores
    inside = let cores = o.cores in omega (arith, cores, low)

    by : (ch : DirChoice) → dir_choice d w.directory.desc (dir_input w.directory.desc s (record { core = c; event = a.event })) ≡ Some ch → DoesFor d s c a.event ch → work d n (move d pick w (Request_of c)) < work d n w
    by ch there acts =
        let y : Core = record (core w c) { slot = None } in
        let q : Posted = do_dir_acts d s c (suc w.directory.last) a.word ch.acts (record { memory = w.directory.memory; invs = 0; posts = []; replies = [] }) in
        let goes : move d pick w (Request_of c) ≡ handle d c a w ch q = ap (request d c w) slot ∙ ap (handle_by d c a w) there in
        let cores = total-set (core_work d n) w.cores c y idle_core inside in
        let mail = post_work d n q.posts (set w.cores c y) in
        let sent = length-append w.replies q.replies in
        let holds : slot_work n (core w c).slot ≡ 2 * n + 1 = ap (slot_work n) slot in
        let all = directory_acts_work d s c (suc w.directory.last) a.word ch.acts (record { memory = w.directory.memory; invs = 0; posts = []; replies = [] }) (are_light d n s c sh so) in
        let costs = request_cost d n s c a.event ch sh so low (request_handled d n w m c a wf sh o low slot) acts in
        subst (λ z. work d n z < work d n w) (sym goes) (omega (arith, cores, mail, sent, holds, all, costs))

-- Any event

below_or : (c n : ℕ) → (c < n) ⊎ (n ≤ c)
below_or c n = search arith

-- what a sound table picks where an input may come
chosen_by : (d : Draft) (t : List TableState) (x : Desc) (i : Input) → IsWellFormed d → IsShaped d → IsSoundCache d t → is_among (states_of t) x ≡ true → is_due_input d x i ≡ true
    → (ch : Choice) × (picked t x i ≡ Some ch) × IsChosen (choices d x i) ch
chosen_by d t x i wf sh sound among due =
    let (c, cs, some) = due_chooses d x i wf sh (sound.known x among) due in
    let (ch, picks) = picks_some d t x i c cs sound among some in (ch, picks, picks_choice d t x i ch sound among picks)

pub work_less : (d : Draft) (t : List TableState) (n : ℕ) (w : World) (m : ℕ → Mark) (e : WorldEvent) → IsWellFormed d → IsShaped d → IsSoundCache d t → IsOrderly d n w m → IsComplete t n w
    → is_enabled (picked t) w e ≡ true → work d n (move d (picked t) w e) < work d n w
work_less d t n w m (Issue c) wf sh sound o full on = at (below_or c n)
  where
    parts : (is_stable (core w c).line.desc ≡ true) × (nat_lt 0 (length (core w c).left) ≡ true)
    parts = and_true (is_stable (core w c).line.desc) (nat_lt 0 (length (core w c).left)) on

    stable_due : (x : Desc) (e : Event) → is_stable x ≡ true → is_due_input d x (at_input.Core e) ≡ true
    stable_due (Rattle.pg_table.specs.declared.cache.Desc.TheVariants.Stable s) e h = refl
    stable_due (Rattle.pg_table.specs.declared.cache.Desc.TheVariants.Ask a s p u) e h = cc
    stable_due (Rattle.pg_table.specs.declared.cache.Desc.TheVariants.Leave s) e h = cc

    begins : c < n → (xs : List Op) → (core w c).left ≡ xs → work d n (move d (picked t) w (Issue c)) < work d n w
    begins low [] left = absurd (let some = ltb-true 0 (length (core w c).left) parts.1 in let none : length (core w c).left ≡ 0 = ap length left in omega (arith, some, none))
    begins low (op ∷ ops) left =
        let (ch, picks, chosen) = chosen_by d t (core w c).line.desc (at_input.Core (event_of op)) wf sh sound (full.states c low) (stable_due (core w c).line.desc (event_of op) parts.0) in
        let cores = o.cores in
        issue_less d n (picked t) w c op ops ch (omega (arith, low, cores)) left picks chosen

    at : (c < n) ⊎ (n ≤ c) → work d n (move d (picked t) w (Issue c)) < work d n w
    at (inl low) = begins low (core w c).left refl
    at (inr out) = absurd (
        let cores = o.cores in
        let idle : core w c ≡ idle_core = get_or-eq_default w.cores idle_core (omega (arith, out, cores)) in
        let some = ltb-true 0 (length (core w c).left) parts.1 in
        let none : length (core w c).left ≡ 0 = ap (λ (x : Core). length x.left) idle in omega (arith, some, none))
work_less d t n w m (Request_of c) wf sh sound o full on = at (below_or c n)
  where
    parts : (is_some (core w c).slot ≡ true) × (not (is_busy w.directory.desc) ≡ true)
    parts = and_true (is_some (core w c).slot) (not (is_busy w.directory.desc)) on

    asks : c < n → (s : Option SentRequest) → (core w c).slot ≡ s → work d n (move d (picked t) w (Request_of c)) < work d n w
    asks low None slot = absurd (let some = parts.0 in let none : is_some (core w c).slot ≡ false = ap is_some slot in cc (some, none))
    asks low (Some a) slot = request_less d n (picked t) w m c a wf sh o low slot (true_not (is_busy w.directory.desc) parts.1)

    at : (c < n) ⊎ (n ≤ c) → work d n (move d (picked t) w (Request_of c)) < work d n w
    at (inl low) = asks low (core w c).slot refl
    at (inr out) = absurd (
        let cores = o.cores in
        let idle : core w c ≡ idle_core = get_or-eq_default w.cores idle_core (omega (arith, out, cores)) in
        let some = parts.0 in let none : is_some (core w c).slot ≡ false = ap (λ (x : Core). is_some x.slot) idle in cc (some, none))
work_less d t n w m (Ordered_to c) wf sh sound o full on = at (below_or c n)
  where
    meets_it : c < n → (xs : List Ordered) → (core w c).queue ≡ xs → has_head (picked t) (core w c).line xs ≡ true → work d n (move d (picked t) w (Ordered_to c)) < work d n w
    meets_it low [] queue on = cc
    meets_it low (q ∷ ms) queue on =
        let (g, hd) = head_of d (order_of d w) c (core w c) (m c) q ms (o.placed c low) queue in
        let met_it = head_met d n w m c g q sh (known d n (order_of d w) wf sh o.past) low o hd in
        let (ch, picks, chosen) = chosen_by d t (core w c).line.desc (ordered_input (core w c).line q) wf sh sound (full.states c low) met_it.due in
        let moves : list_any is_stall ch.acts ≡ false = true_not (list_any is_stall ch.acts) (ap (λ o. not (waits o)) (sym picks) ∙ on) in
        let cores = o.cores in
        deliver_less d n (picked t) w c q ms ch (omega (arith, low, cores)) queue picks chosen moves

    at : (c < n) ⊎ (n ≤ c) → work d n (move d (picked t) w (Ordered_to c)) < work d n w
    at (inl low) = meets_it low (core w c).queue refl on
    at (inr out) = absurd (
        let cores = o.cores in
        let idle : core w c ≡ idle_core = get_or-eq_default w.cores idle_core (omega (arith, out, cores)) in
        let none : has_head (picked t) (core w c).line (core w c).queue ≡ false = ap (λ (x : Core). has_head (picked t) x.line x.queue) idle in cc (on, none))
work_less d t n w m (Reply_at i) wf sh sound o full on = at (slice_get w.replies i) refl
  where
    there : (xs : List Reply) (i : ℕ) → i < length xs → slice_get xs i ≡ None → ⊥
    there [] i lt e = omega (arith, lt)
    there (x ∷ xs) zero lt e = cc
    there (x ∷ xs) (suc i) lt e = there xs i (omega (arith, lt)) e

    at : (x : Option Reply) → slice_get w.replies i ≡ x → work d n (move d (picked t) w (Reply_at i)) < work d n w
    at None get = absurd (there w.replies i (ltb-true i (length w.replies) on) get)
    at (Some (Data r c v cnt k)) get =
        let (low, due) = data_due d n w m i r c v cnt k wf sh o get in
        let (ch, picks, chosen) = chosen_by d t (core w c).line.desc (reply_input (core w c).line (Data r c v cnt k)) wf sh sound (full.states c low) due in
        let cores = o.cores in
        data_less d n (picked t) w i r c v cnt k ch (omega (arith, low, cores)) get picks chosen
    at (Some (InvAck c k)) get =
        let (low, due) = ack_due d t n w m i c k wf sh sound o full get in
        let (ch, picks, chosen) = chosen_by d t (core w c).line.desc (reply_input (core w c).line (InvAck c k)) wf sh sound (full.states c low) due in
        let cores = o.cores in
        ack_less d n (picked t) w i c k ch (omega (arith, low, cores)) get picks chosen
    at (Some (WbData v k)) get = wb_less d n (picked t) w i v k get
