-- What an event makes of a block is what it makes of the block's world.
use Rattle.std.proofs.Common.{◌≡◌, ℕ, ◌<◌, List, [], ◌∷◌, ◌++◌, length, get_or, set, drop, Option, Some, None, refl, sym, ap, ◌∙◌}
use Rattle.std.specs.Prelude.{slice_get, IsSome, IfSome}
use Rattle.std.specs.List.{remove}
use Rattle.std.proofs.lemmas.List.{set-get_or, length-set}
use Rattle.pg_perm.specs.declared.kinds.Op.{Op}
use Rattle.pg_perm.specs.declared.draft.Draft.{Draft}
use Rattle.pg_table.specs.declared.cache.Input.{Input}
use Rattle.pg_table.specs.declared.cache.Input.TheVariants as at
use Rattle.pg_table.specs.declared.directory.DirInput.TheVariants as met
use Rattle.pg_table.specs.Tables.{number_of}
use Rattle.pg_table.specs.Sound.{states_of}
use Rattle.pg_table.specs.Choices.{Choice}
use Rattle.pg_table.specs.Directory.{DirChoice, dir_choice}
use Rattle.pg_table.specs.Pick.{pick}
use Rattle.pg_messages.specs.declared.messages.Ask.{Ask as SentRequest}
use Rattle.pg_messages.specs.declared.messages.Ordered.{Ordered}
use Rattle.pg_messages.specs.declared.messages.Reply.{Reply}
use Rattle.pg_messages.specs.declared.messages.Reply.TheVariants.{Data, InvAck, WbData}
use Rattle.pg_messages.specs.declared.messages.WorldEvent.TheVariants.{Issue, Request as Request_of, Ordered as Ordered_to, Reply as Reply_at}
use Rattle.pg_controllers.specs.Networks.{Core, event_of}
use Rattle.pg_controllers.specs.Lines.{Received, LineResult, result_of, ordered_input, reply_input, received_op, received_ordered, received_reply}
use Rattle.pg_controllers.specs.Directories.{Directory, Posted}
use Rattle.pg_controllers.specs.Worlds.{World, core, settle, by_choice, issue, deliver, post, request, handle, handle_by, reply, after_write_back, move}
use Rattle.pg_queue.specs.Nets.{Nets, without_request, without_head, without_reply, with_ordered, with_reply}
use Rattle.pg_cache.specs.Acts.{LineView}
use Rattle.pg_cache.specs.Rows.{RowResult, IsReady, with_result, after_pick, after_row}
use Rattle.pg_dir.specs.Numbers.{NumberedDirectory}
use Rattle.pg_dir.specs.Effects.{send_ordered, send_replies, send_posted, choice_by, posts_for, result_of_choice, write_back_by, write_back}
use Rattle.pg_block.specs.Blocks.{Program, Block, joined, world_of, IsSized, no_program, no_line, line_at, program_at, with_row, begin_by, next_operation, after_issue, take_by, head_of, after_ordered, after_answer, answer_by, request_slot, with_request_handled}
use Rattle.pg_block.specs.Blocks as blocks
use Rattle.pg_block.proofs.Joined.{core_of, joined_set, core_at, core_is, joined_posted}

abbrev with_cores : World → List Core → List Reply → World
with_cores w xs rs = record w { cores = xs; replies = rs }

-- a core's row is carried out
settle_is : (b : Block) (c : ℕ) (x : LineView) (p : Program) (ps : List Program) (q : List Ordered) (w : Nets) (n : ℕ) (a : LineResult) → x.core ≡ c → ps ≡ set b.programs c p
    → w.slots ≡ b.nets.slots → w.lists ≡ set b.nets.lists c q
    → world_of (with_row c (with_result x w n a) (record b { programs = ps })) ≡ settle c (core_of x p None q) a (record (world_of b) { replies = w.replies })
settle_is b c x p ps q w n a own programs slots lists =
    let next : LineView = record x { line = a.line; state = n } in
    let base : World = world_of (with_row c (with_result x w n a) (record b { programs = ps })) in
    let cores : joined (set b.lines c next) ps (set w.slots x.core a.slot) w.lists ≡ set (joined b.lines b.programs b.nets.slots b.nets.lists) c (core_of next p a.slot q) =
    ap (λ z. joined (set b.lines c next) z (set w.slots x.core a.slot) w.lists) programs
    ∙ ap (λ z. joined (set b.lines c next) (set b.programs c p) (set w.slots z a.slot) w.lists) own
    ∙ ap (λ z. joined (set b.lines c next) (set b.programs c p) (set z c a.slot) w.lists) slots
    ∙ ap (λ z. joined (set b.lines c next) (set b.programs c p) (set b.nets.slots c a.slot) z) lists
    ∙ joined_set b.lines b.programs b.nets.slots b.nets.lists c next p a.slot q in
    ap (λ z. with_cores base z (w.replies ++ a.replies)) cores

-- the row that is picked for core c's line
row_is : (b : Block) (c : ℕ) (i : Input) (m : Received) (w : Nets) (ch : Choice) → pick b.tables.cache (line_at b c).line.desc i ≡ Some ch
    → after_row b.tables i m (line_at b c) w ≡ with_result (line_at b c) w (number_of (states_of b.tables.cache) ch.next) (result_of b.tables.protocol ch m (line_at b c).line (get_or w.slots (line_at b c).core None))
row_is b c i m w ch picked = ap (after_pick b.tables.protocol b.tables.cache m (line_at b c) w) picked

-- with the networks of which that core's message was taken, from list q
carried : (b : Block) (c : ℕ) (i : Input) (m : Received) (p : Program) (ps : List Program) (q : List Ordered) (w : Nets) (ch : Choice) → (line_at b c).core ≡ c → ps ≡ set b.programs c p
    → w.slots ≡ b.nets.slots → w.lists ≡ set b.nets.lists c q → pick b.tables.cache (line_at b c).line.desc i ≡ Some ch
    → world_of (with_row c (after_row b.tables i m (line_at b c) w) (record b { programs = ps }))
    ≡ by_choice b.tables.protocol c m (core_of (line_at b c) p (get_or b.nets.slots c None) q) (record (world_of b) { replies = w.replies }) (pick b.tables.cache (line_at b c).line.desc i)
carried b c i m p ps q w ch own programs slots lists picked =
    let d : Draft = b.tables.protocol in
    let x : LineView = line_at b c in
    let n : ℕ = number_of (states_of b.tables.cache) ch.next in
    let slot : get_or w.slots x.core None ≡ get_or b.nets.slots c None = ap (λ (k : ℕ). get_or w.slots k None) own ∙ ap (λ (z : List (Option SentRequest)). get_or z c None) slots in
    let a : LineResult = result_of d ch m x.line (get_or b.nets.slots c None) in
    let row : after_row b.tables i m x w ≡ with_result x w n a =
    row_is b c i m w ch picked ∙ ap (λ (s : Option SentRequest). with_result x w n (result_of d ch m x.line s)) slot in
    ap (λ (r : RowResult). world_of (with_row c r (record b { programs = ps }))) row
    ∙ settle_is b c x p ps q w n a own programs slots lists
    ∙ sym (ap (by_choice d c m (core_of x p (get_or b.nets.slots c None) q) (record (world_of b) { replies = w.replies })) picked)

same_programs : (b : Block) (c : ℕ) → b.programs ≡ set b.programs c (program_at b c)
same_programs b c = sym (set-get_or b.programs c no_program)

same_lists : (b : Block) (c : ℕ) → b.nets.lists ≡ set b.nets.lists c (get_or b.nets.lists c [])
same_lists b c = sym (set-get_or b.nets.lists c [])

-- a core begins its next operation
issue_is : (b : Block) (c : ℕ) (os : List Op) → IsSized b → (line_at b c).core ≡ c → (program_at b c).left ≡ os
    → IfSome (slice_get os 0) (λ o. IsReady b.tables (at.Core (event_of o)) (received_op (line_at b c).line o) (line_at b c) b.nets)
    → world_of (begin_by c (slice_get os 0) b) ≡ issue b.tables.protocol (pick b.tables.cache) c (core_at b c) (world_of b) os
issue_is b c [] z own left ready = refl
issue_is b c (o ∷ os) z own left ready =
    let p : Program = record (program_at b c) { left = os } in
    let ps : List Program = set b.programs c (record (program_at b c) { left = drop 1 (program_at b c).left }) in
    let programs : ps ≡ set b.programs c p = ap (λ (xs : List Op). set b.programs c (record (program_at b c) { left = drop 1 xs })) left in
    carried b c (at.Core (event_of o)) (received_op (line_at b c).line o) p ps (get_or b.nets.lists c []) b.nets ready.choice own programs refl (same_lists b c) ready.picked

-- it takes the message at the head of its list
take_is : (b : Block) (c : ℕ) (ms : List Ordered) → IsSized b → (line_at b c).core ≡ c → get_or b.nets.lists c [] ≡ ms
    → IfSome (slice_get ms 0) (λ m. IsReady b.tables (ordered_input (line_at b c).line m) (received_ordered (line_at b c).line m) (line_at b c) (without_head c b.nets))
    → world_of (take_by c (slice_get ms 0) b) ≡ deliver b.tables.protocol (pick b.tables.cache) c (core_at b c) (world_of b) ms
take_is b c [] z own queue ready = refl
take_is b c (m ∷ ms) z own queue ready =
    let lists : (without_head c b.nets).lists ≡ set b.nets.lists c ms = ap (λ (xs : List Ordered). set b.nets.lists c (drop 1 xs)) queue in
    carried b c (ordered_input (line_at b c).line m) (received_ordered (line_at b c).line m) (program_at b c) b.programs ms (without_head c b.nets) ready.choice own (same_programs b c) refl lists ready.picked

-- it takes a reply
abbrev rest_of : Block → ℕ → World
rest_of b i = record (world_of b) { replies = remove b.nets.replies i }

answer_is : (b : Block) (i c : ℕ) (m : Reply) → IsSized b → (line_at b c).core ≡ c
    → IsReady b.tables (reply_input (line_at b c).line m) (received_reply b.tables.protocol (line_at b c).line m) (line_at b c) (without_reply i b.nets)
    → world_of (after_answer i c m b) ≡ by_choice b.tables.protocol c (received_reply b.tables.protocol (core (world_of b) c).line m) (core (world_of b) c) (rest_of b i)
    (pick b.tables.cache (core (world_of b) c).line.desc (reply_input (core (world_of b) c).line m))
answer_is b i c m z own ready =
    carried b c (reply_input (line_at b c).line m) (received_reply b.tables.protocol (line_at b c).line m) (program_at b c) b.programs (get_or b.nets.lists c []) (without_reply i b.nets) ready.choice own
    (same_programs b c) refl (same_lists b c) ready.picked
    ∙ sym (ap (λ (y : Core). by_choice b.tables.protocol c (received_reply b.tables.protocol y.line m) y (rest_of b i) (pick b.tables.cache y.line.desc (reply_input y.line m))) (core_is b c z))

-- the directory takes data that was written back
written_is : (d : Draft) (v : ℕ) (w : World) (o : Option DirChoice) → record w { directory = write_back_by d v w.directory o } ≡ after_write_back d v w o
written_is d v w None = refl
written_is d v w (Some ch) = refl

write_back_is : (b : Block) (i v : ℕ) (h : NumberedDirectory) → h.directory ≡ write_back b.tables.protocol v b.directory.directory
    → world_of (blocks.with_directory i h b) ≡ after_write_back b.tables.protocol v (rest_of b i) (dir_choice b.tables.protocol b.directory.directory.desc met.Wb)
write_back_is b i v h is =
    ap (λ (x : Directory). record (rest_of b i) { directory = x }) is
    ∙ written_is b.tables.protocol v (rest_of b i) (dir_choice b.tables.protocol b.directory.directory.desc met.Wb)

-- The directory handles a request

sent_slots : (rs : List Reply) (w : Nets) → (send_replies rs w).slots ≡ w.slots
sent_slots [] w = refl
sent_slots (r ∷ rs) w = sent_slots rs (with_reply r w)

sent_lists : (rs : List Reply) (w : Nets) → (send_replies rs w).lists ≡ w.lists
sent_lists [] w = refl
sent_lists (r ∷ rs) w = sent_lists rs (with_reply r w)

append_none : (xs : List Reply) → xs ≡ xs ++ []
append_none [] = refl
append_none (x ∷ xs) = ap (λ ys. x ∷ ys) (append_none xs)

append_one : (xs : List Reply) (r : Reply) (rs : List Reply) → (xs ++ r ∷ []) ++ rs ≡ xs ++ r ∷ rs
append_one [] r rs = refl
append_one (x ∷ xs) r rs = ap (λ ys. x ∷ ys) (append_one xs r rs)

sent_replies : (rs : List Reply) (w : Nets) → (send_replies rs w).replies ≡ w.replies ++ rs
sent_replies [] w = append_none w.replies
sent_replies (r ∷ rs) w = sent_replies rs (with_reply r w) ∙ append_one w.replies r rs

posted_slots : (ms : List (ℕ × Ordered)) (w : Nets) → (send_ordered ms w).slots ≡ w.slots
posted_slots [] w = refl
posted_slots (m ∷ ms) w = posted_slots ms (with_ordered m.0 m.1 w)

posted_replies : (ms : List (ℕ × Ordered)) (w : Nets) → (send_ordered ms w).replies ≡ w.replies
posted_replies [] w = refl
posted_replies (m ∷ ms) w = posted_replies ms (with_ordered m.0 m.1 w)

request_is : (b : Block) (c : ℕ) (a : SentRequest) (ch : DirChoice) (number : ℕ) → IsSized b → get_or b.nets.slots c None ≡ Some a → choice_by b.tables.protocol b.directory.directory c a ≡ Some ch
    → world_of (blocks.handle_by c (Some a) number b) ≡ request b.tables.protocol c (world_of b) (core (world_of b) c).slot
request_is b c a ch number z some chosen =
    let d : Draft = b.tables.protocol in
    let h : Directory = b.directory.directory in
    let u : Nets = without_request c b.nets in
    let p : Posted = posts_for d h c a ch in
    let out : Nets = send_posted p u in
    let base : World = world_of (with_request_handled c a number (result_of_choice d h c a u (Some ch)) b) in
    let emptied : List Core = set (joined b.lines b.programs b.nets.slots b.nets.lists) c (record (core_at b c) { slot = None }) in
    let first : world_of (blocks.handle_by c (Some a) number b) ≡ base = ap (λ (o : Option DirChoice). world_of (with_request_handled c a number (result_of_choice d h c a u o) b)) chosen in
    let slots : out.slots ≡ set b.nets.slots c None = sent_slots p.replies (send_ordered p.posts u) ∙ posted_slots p.posts u in
    let lists : out.lists ≡ (send_ordered p.posts u).lists = sent_lists p.replies (send_ordered p.posts u) in
    let replies : out.replies ≡ b.nets.replies ++ p.replies = sent_replies p.replies (send_ordered p.posts u) ∙ ap (λ (rs : List Reply). rs ++ p.replies) (posted_replies p.posts u) in
    let empty : joined b.lines b.programs (set b.nets.slots c None) b.nets.lists ≡ emptied =
    ap (λ y. joined y b.programs (set b.nets.slots c None) b.nets.lists) (sym (set-get_or b.lines c no_line))
    ∙ ap (λ y. joined (set b.lines c (line_at b c)) y (set b.nets.slots c None) b.nets.lists) (same_programs b c)
    ∙ ap (λ y. joined (set b.lines c (line_at b c)) (set b.programs c (program_at b c)) (set b.nets.slots c None) y) (same_lists b c)
    ∙ joined_set b.lines b.programs b.nets.slots b.nets.lists c (line_at b c) (program_at b c) None (get_or b.nets.lists c []) in
    let cores : joined b.lines b.programs out.slots out.lists ≡ post p.posts emptied =
    ap (λ y. joined b.lines b.programs y out.lists) slots ∙ ap (λ y. joined b.lines b.programs (set b.nets.slots c None) y) lists
    ∙ joined_posted b.lines b.programs (set b.nets.slots c None) p.posts u z.programs (length-set b.nets.slots c None ∙ z.slots) z.lists
    ∙ ap (post p.posts) empty in
    let second : base ≡ with_cores base (post p.posts emptied) (b.nets.replies ++ p.replies) =
    ap (λ y. with_cores base y out.replies) cores ∙ ap (with_cores base (post p.posts emptied)) replies in
    let third : with_cores base (post p.posts (set (joined b.lines b.programs b.nets.slots b.nets.lists) c (record (core (world_of b) c) { slot = None }))) (b.nets.replies ++ p.replies)
    ≡ with_cores base (post p.posts emptied) (b.nets.replies ++ p.replies) =
    ap (λ (y : Core). with_cores base (post p.posts (set (joined b.lines b.programs b.nets.slots b.nets.lists) c (record y { slot = None }))) (b.nets.replies ++ p.replies)) (core_is b c z) in
    let fourth : request d c (world_of b) (core (world_of b) c).slot ≡ handle d c a (world_of b) ch p =
    ap (λ (y : Core). request d c (world_of b) y.slot) (core_is b c z) ∙ ap (request d c (world_of b)) some ∙ ap (handle_by d c a (world_of b)) chosen in
    first ∙ second ∙ sym third ∙ sym fourth

-- Each kind of event

some_is : {A : Type 0} (o : Option A) → IsSome o → (x : A) × (o ≡ Some x)
some_is None e = cc
some_is (Some x) e = (x, refl)

pub issue_moves : (b : Block) (c : ℕ) → IsSized b → (line_at b c).core ≡ c → blocks.CanIssue c b → world_of (after_issue c b) ≡ move b.tables.protocol (pick b.tables.cache) (world_of b) (Issue c)
issue_moves b c z own can =
    issue_is b c (program_at b c).left z own refl can.ready
    ∙ sym (ap (λ (y : Core). issue b.tables.protocol (pick b.tables.cache) c y (world_of b) y.left) (core_is b c z))

pub ordered_moves : (b : Block) (c : ℕ) → IsSized b → (line_at b c).core ≡ c → blocks.CanTake c b → world_of (after_ordered c b) ≡ move b.tables.protocol (pick b.tables.cache) (world_of b) (Ordered_to c)
ordered_moves b c z own can =
    take_is b c (get_or b.nets.lists c []) z own refl can.ready
    ∙ sym (ap (λ (y : Core). deliver b.tables.protocol (pick b.tables.cache) c y (world_of b) y.queue) (core_is b c z))

handle_moves : (b : Block) (c number : ℕ) (o : Option SentRequest) → IsSized b → get_or b.nets.slots c None ≡ o → IfSome o (λ a. blocks.CanHandle c a b)
    → world_of (blocks.handle_by c o number b) ≡ move b.tables.protocol (pick b.tables.cache) (world_of b) (Request_of c)
handle_moves b c number None z slot can =
    sym (ap (λ (y : Core). request b.tables.protocol c (world_of b) y.slot) (core_is b c z) ∙ ap (request b.tables.protocol c (world_of b)) slot)
handle_moves b c number (Some a) z slot can = let (ch, chosen) = some_is (choice_by b.tables.protocol b.directory.directory c a) can.row in request_is b c a ch number z slot chosen

pub request_moves : (b : Block) (c number : ℕ) → IsSized b → blocks.CanRequest c b → world_of (blocks.handle_by c (request_slot b c) number b) ≡ move b.tables.protocol (pick b.tables.cache) (world_of b) (Request_of c)
request_moves b c number z can = handle_moves b c number (request_slot b c) z refl can.handles

met_moves : (b : Block) (i : ℕ) (h : NumberedDirectory) (m : Reply) → IsSized b → ((c : ℕ) → c < length b.lines → (line_at b c).core ≡ c) → blocks.CanMeet m (blocks.without_reply_at i b) → blocks.IsAfterReply m b h
    → world_of (answer_by i (Some m) h b) ≡ reply b.tables.protocol (pick b.tables.cache) (rest_of b i) (Some m)
met_moves b i h (Data r c v n k) z own can is = answer_is b i c (Data r c v n k) z (own c can.core) can.ready
met_moves b i h (InvAck c k) z own can is = answer_is b i c (InvAck c k) z (own c can.core) can.ready
met_moves b i h (WbData v k) z own can is = write_back_is b i v h is.0

pub reply_moves : (b : Block) (i : ℕ) (h : NumberedDirectory) (m : Reply) → IsSized b → ((c : ℕ) → c < length b.lines → (line_at b c).core ≡ c) → slice_get b.nets.replies i ≡ Some m
    → blocks.CanMeet m (blocks.without_reply_at i b) → blocks.IsAfterReply m b h
    → world_of (answer_by i (Some m) h b) ≡ move b.tables.protocol (pick b.tables.cache) (world_of b) (Reply_at i)
reply_moves b i h m z own get can is = met_moves b i h m z own can is ∙ sym (ap (reply b.tables.protocol (pick b.tables.cache) (rest_of b i)) get)
