-- The directory is ready for each request and for each write-back that may come.
use Rattle.std.proofs.Common.{◌≡◌, ℕ, suc, ◌+◌, ◌-◌, ◌*◌, ◌<◌, ◌≤◌, arith, true, false, not, List, [], ◌∷◌, ◌++◌, length, set, get_or, Option, Some, None, refl, sym, ap, subst, ◌∙◌}
use Rattle.std.specs.Prelude.{slice_get, is_some, IsSome, IfSome}
use Rattle.std.proofs.lemmas.Bool.{and_parts}
use Rattle.std.proofs.lemmas.List.{length-append, length-map, length-set}
use Rattle.pg_perm.specs.declared.draft.Draft.{Draft}
use Rattle.pg_perm.specs.Drafts.{IsWellFormed}
use Rattle.pg_shape.specs.Shaped.{IsShaped}
use Rattle.pg_shape.proofs.Bools.{true_not}
use Rattle.pg_directory.specs.DirEntries.{DirEntry, without_core, left_of, who}
use Rattle.pg_directory.specs.Sound.{IsSound}
use Rattle.pg_table.specs.declared.directory.DirDesc.{DirDesc}
use Rattle.pg_table.specs.declared.directory.DirDesc.TheVariants.{State, Busy}
use Rattle.pg_table.specs.Directory.{DirChoice, in_state, dir_choice}
use Rattle.pg_table.specs.Tables.{Parts}
use Rattle.pg_table.specs.Sound.{IsSoundCache}
use Rattle.pg_table.specs.Pick.{pick}
use Rattle.pg_messages.specs.declared.messages.Ask.{Ask as SentRequest}
use Rattle.pg_messages.specs.declared.messages.Ordered.{Ordered}
use Rattle.pg_messages.specs.declared.messages.Reply.TheVariants.{WbData}
use Rattle.pg_messages.specs.declared.messages.WorldEvent.TheVariants.{Request as Request_of}
use Rattle.pg_order.proofs.Known.{known}
use Rattle.pg_controllers.specs.Networks.{Core, idle_core}
use Rattle.pg_controllers.specs.Directories.{Posted, dir_state_of, is_busy, dir_entry_of, dir_input, request_input}
use Rattle.pg_controllers.specs.Worlds.{World, core, order_of, post, handle, handle_by, request, move, with_event, is_enabled, has_request}
use Rattle.pg_orderly.specs.Orderly.{Mark, IsOrderly}
use Rattle.pg_orderly.proofs.Mail.{AreBelow}
use Rattle.pg_safe.specs.Moving.{IsComplete}
use Rattle.pg_safe.specs.Work.{total}
use Rattle.pg_safe.proofs.Bounds.{networks_bounded}
use Rattle.pg_safe.proofs.Replies.{wb_due}
use Rattle.pg_safe.proofs.Requests.{request_handled}
use Rattle.pg_moves.proofs.Posts.{choice_does}
use Rattle.pg_queue.specs.Nets.{Nets, message_limit, ordered_count, spare, without_request}
use Rattle.pg_dir.specs.Effects.{choice_by, request_by, posts_for, message_count, HasRoomFor}
use Rattle.pg_ready.specs.WorldViews.{nets_of}
use Rattle.pg_ready.proofs.Ready.{count_is}
use Rattle.pg_ready.proofs.Events.{some_is, stepped, row}
use Rattle.pg_ready.proofs.Sums.{total-set, total_same}

-- Rows

pub request_row : (t : Parts) (n : ℕ) (w : World) (m : ℕ → Mark) (c : ℕ) (a : SentRequest) → IsWellFormed t.protocol → IsShaped t.protocol → IsSoundCache t.protocol t.cache → IsOrderly t.protocol n w m → IsComplete t.cache n w
    → (core w c).slot ≡ Some a → is_enabled (pick t.cache) w (Request_of c) ≡ true → IsSome (choice_by t.protocol w.directory c a)
request_row t n w m c a wf sh sound o full slot on =
    ap (λ (s : Option SentRequest). has_request t.protocol w.directory c s) (sym slot) ∙ row t n w m (Request_of c) wf sh sound o full on

pub write_back_busy : (d : Draft) (n : ℕ) (w : World) (m : ℕ → Mark) (i v k : ℕ) → IsOrderly d n w m → slice_get w.replies i ≡ Some (WbData v k) → is_busy w.directory.desc ≡ true
write_back_busy d n w m i v k o get = (wb_due d n w m i v k o get).0

-- Room

-- what is posted goes to cores that are there
posts_below : (d : Draft) (n : ℕ) (w : World) (m : ℕ → Mark) (c : ℕ) (a : SentRequest) (ch : DirChoice) → IsWellFormed d → IsShaped d → IsOrderly d n w m → c < n → (core w c).slot ≡ Some a → is_busy w.directory.desc ≡ false
    → choice_by d w.directory c a ≡ Some ch → AreBelow n (posts_for d w.directory c a ch).posts
posts_below d n w m c a ch wf sh o low slot free chosen =
    (choice_does d n s c a.event (suc w.directory.last) w.directory.memory a.word ch sh sound low (request_handled d n w m c a wf sh o low slot) (at w.directory.desc refl free chosen)).posted.below
  where
    s : DirEntry
    s = dir_entry_of w.directory

    sound : IsSound d n s
    sound = let p = order_of d w in subst (IsSound d n) (sym o.directory) ((known d n p wf sh o.past).sound p.top (omega arith))

    at : (y : DirDesc) → w.directory.desc ≡ y → is_busy y ≡ false → dir_choice d y (dir_input y s (request_by c a)) ≡ Some ch → in_state d s.dir (request_input a.event (who s c) (left_of (without_core c s.sharers))) ≡ Some ch
    at (Busy k) desc idle g = cc
    at (State k) desc idle g = ap (λ k. in_state d k (request_input a.event (who s c) (left_of (without_core c s.sharers)))) (ap dir_state_of desc) ∙ g

-- each message that is posted makes a queue longer
post_length : (ps : List (ℕ × Ordered)) (xs : List Core) → AreBelow (length xs) ps → total (λ (x : Core). length x.queue) (post ps xs) ≡ total (λ (x : Core). length x.queue) xs + length ps
post_length [] xs low = omega arith
post_length (p ∷ ps) xs low =
    let y : Core = record (get_or xs p.0 idle_core) { queue = (get_or xs p.0 idle_core).queue ++ p.1 ∷ [] } in
    let more = length-append (get_or xs p.0 idle_core).queue (p.1 ∷ []) in
    let here = total-set (λ (x : Core). length x.queue) xs p.0 y idle_core low.0 in
    let rest = post_length ps (set xs p.0 y) (subst (λ n. AreBelow n ps) (sym (length-set xs p.0 y)) low.1) in
    omega (arith, more, here, rest)

-- there is room for what stays within the limit
has_room : (k n used sent : ℕ) → k ≡ n → sent + used ≤ n * n + 1 → sent ≤ message_limit k - used
has_room k n used sent size low = subst (λ (k : ℕ). sent ≤ message_limit k - used) (sym size) (omega (arith, low))

pub request_room : (t : Parts) (n : ℕ) (w : World) (m : ℕ → Mark) (c : ℕ) (a : SentRequest) → IsWellFormed t.protocol → IsShaped t.protocol → IsSoundCache t.protocol t.cache → IsOrderly t.protocol n w m → IsComplete t.cache n w
    → c < n → (core w c).slot ≡ Some a → is_enabled (pick t.cache) w (Request_of c) ≡ true → HasRoomFor t.protocol w.directory c a (without_request c (nets_of w))
request_room t n w m c a wf sh sound o full low slot on = by (some_is (choice_by t.protocol w.directory c a) (request_row t n w m c a wf sh sound o full slot on))
  where
    d : Draft
    d = t.protocol

    gone : Core
    gone = record (core w c) { slot = None }

    rest : Nets
    rest = without_request c (nets_of w)

    cores : length (set w.cores c gone) ≡ n
    cores = length-set w.cores c gone ∙ o.cores

    free : is_busy w.directory.desc ≡ false
    free = true_not (is_busy w.directory.desc) (and_parts (is_some (core w c).slot) (not (is_busy w.directory.desc)) on).1

    by : (ch : DirChoice) × (choice_by d w.directory c a ≡ Some ch) → HasRoomFor d w.directory c a rest
    by (ch, chosen) =
        let p : Posted = posts_for d w.directory c a ch in
        let next : World = handle d c a w ch p in
        let moves : move d (pick t.cache) w (Request_of c) ≡ next = ap (request d c w) slot ∙ ap (handle_by d c a w) chosen in
        let (u, orderly) = stepped t n w m (Request_of c) next wf sh sound o full on moves in
        let bound : total (λ (x : Core). length x.queue) next.cores + length next.replies ≤ n * n + 1 = networks_bounded d n (with_event (0, Request_of c) next) u wf sh orderly in
        let posted = post_length p.posts (set w.cores c gone) (subst (λ n. AreBelow n p.posts) (sym cores) (posts_below d n w m c a ch wf sh o low slot free chosen)) in
        let same = total_same (λ (x : Core). length x.queue) w.cores c gone idle_core refl in
        let count : ordered_count rest.lists ≡ total (λ (x : Core). length x.queue) w.cores = count_is w.cores in
        let sent = length-append w.replies p.replies in
        let size : length rest.slots ≡ n = length-set (nets_of w).slots c None ∙ length-map w.cores (λ (x : Core). x.slot) ∙ o.cores in
        let fits : message_count p ≤ spare rest = has_room (length rest.slots) n (ordered_count rest.lists + length w.replies) (message_count p) size (omega (arith, bound, posted, same, count, sent)) in
        subst (λ (z : Option DirChoice). IfSome z (λ ch. message_count (posts_for d w.directory c a ch) ≤ spare rest)) (sym chosen) fits
