-- What is enabled in a block's world can happen.
use Rattle.std.proofs.Common.{◌≡◌, ℕ, zero, suc, ◌-◌, ◌<◌, ◌≤◌, Bool, true, false, ◌&&◌, List, [], ◌∷◌, length, get_or, Option, Some, None, refl, sym, ap, subst, ◌∙◌, arith, ◌⊎◌, inl, inr}
use Rattle.std.specs.Prelude.{slice_get, map, nat_lt, not, is_some, IfSome}
use Rattle.std.proofs.lemmas.List.{get_or_past}
use Rattle.std.proofs.lemmas.Bool.{and_parts, ltb-true}
use Rattle.pg_perm.specs.declared.kinds.Op.{Op}
use Rattle.pg_table.specs.declared.cache.Input.{Input}
use Rattle.pg_table.specs.declared.cache.Input.TheVariants as at
use Rattle.pg_table.specs.Tables.{number_of}
use Rattle.pg_table.specs.Sound.{states_of}
use Rattle.pg_table.specs.Pick.{pick}
use Rattle.pg_messages.specs.declared.messages.Ask.{Ask as SentRequest}
use Rattle.pg_messages.specs.declared.messages.Ordered.{Ordered}
use Rattle.pg_messages.specs.declared.messages.Reply.{Reply}
use Rattle.pg_messages.specs.declared.messages.Reply.TheVariants.{Data, InvAck, WbData}
use Rattle.pg_messages.specs.declared.messages.WorldEvent.{WorldEvent}
use Rattle.pg_messages.specs.declared.messages.WorldEvent.TheVariants.{Issue, Request as Request_of, Ordered as Ordered_to, Reply as Reply_at}
use Rattle.pg_controllers.specs.Networks.{Line, Core, idle_core, event_of}
use Rattle.pg_controllers.specs.Lines.{Received, ordered_input, reply_input, received_op, received_ordered, received_reply}
use Rattle.pg_controllers.specs.Directories.{is_busy}
use Rattle.pg_controllers.specs.Worlds.{core, is_stable, has_head, is_enabled}
use Rattle.pg_moves.specs.Kept.{IsSoundWorld}
use Rattle.pg_reached.proofs.Reached.{sound_world}
use Rattle.pg_queue.specs.Nets.{Nets, without_head, without_reply, without_request}
use Rattle.pg_cache.specs.Acts.{LineView}
use Rattle.pg_cache.specs.Rows.{IsReady}
use Rattle.pg_dir.specs.Effects.{HasRoomFor}
use Rattle.pg_ready.specs.WorldViews.{nets_of, line_of}
use Rattle.pg_ready.proofs.Events.{operation_ready, head_ready, data_ready, ack_ready}
use Rattle.pg_ready.proofs.DirReady.{request_row, request_room, write_back_busy}
use Rattle.pg_ready.proofs.Lists.{last_stamp}
use Rattle.pg_ready.proofs.Counts.{orders_given, dones_given}
use Rattle.pg_block.specs.Blocks.{Program, Block, joined, world_of, IsSized, given_of, line_at, program_at, request_slot, without_reply_at, CanMeet, CanHandle, CanHappen}
use Rattle.pg_world.specs.Kept.{IsKept, operation_count}
use Rattle.pg_block.proofs.Joined.{joined_length, core_is}

given_length : (ps : List Program) → length (given_of ps) ≡ length ps
given_length [] = refl
given_length (p ∷ ps) = ap suc (given_length ps)

joined_slots : (ls : List LineView) (ps : List Program) (ss : List (Option SentRequest)) (qs : List (List Ordered)) → length ps ≡ length ls → length ss ≡ length ls → length qs ≡ length ls
    → map (λ (x : Core). x.slot) (joined ls ps ss qs) ≡ ss
joined_slots [] ps [] qs a b e = refl
joined_slots [] ps (z ∷ ss) qs a b e = absurd (omega (arith, b))
joined_slots (x ∷ ls) [] ss qs a b e = absurd (omega (arith, a))
joined_slots (x ∷ ls) (y ∷ ps) [] qs a b e = absurd (omega (arith, b))
joined_slots (x ∷ ls) (y ∷ ps) (z ∷ ss) [] a b e = absurd (omega (arith, e))
joined_slots (x ∷ ls) (y ∷ ps) (z ∷ ss) (v ∷ qs) a b e = ap (λ (xs : List (Option SentRequest)). z ∷ xs) (joined_slots ls ps ss qs (omega (arith, a)) (omega (arith, b)) (omega (arith, e)))

joined_lists : (ls : List LineView) (ps : List Program) (ss : List (Option SentRequest)) (qs : List (List Ordered)) → length ps ≡ length ls → length ss ≡ length ls → length qs ≡ length ls
    → map (λ (x : Core). x.queue) (joined ls ps ss qs) ≡ qs
joined_lists [] ps ss [] a b e = refl
joined_lists [] ps ss (v ∷ qs) a b e = absurd (omega (arith, e))
joined_lists (x ∷ ls) [] ss qs a b e = absurd (omega (arith, a))
joined_lists (x ∷ ls) (y ∷ ps) [] qs a b e = absurd (omega (arith, b))
joined_lists (x ∷ ls) (y ∷ ps) (z ∷ ss) [] a b e = absurd (omega (arith, e))
joined_lists (x ∷ ls) (y ∷ ps) (z ∷ ss) (v ∷ qs) a b e = ap (λ (xs : List (List Ordered)). v ∷ xs) (joined_lists ls ps ss qs (omega (arith, a)) (omega (arith, b)) (omega (arith, e)))

nets_are : (b : Block) → IsSized b → nets_of (world_of b) ≡ b.nets
nets_are b z =
    ap (λ (ss : List (Option SentRequest)). record { slots = ss; lists = map (λ (x : Core). x.queue) (world_of b).cores; replies = b.nets.replies }) (joined_slots b.lines b.programs b.nets.slots b.nets.lists z.programs z.slots z.lists)
    ∙ ap (λ (qs : List (List Ordered)). record { slots = b.nets.slots; lists = qs; replies = b.nets.replies }) (joined_lists b.lines b.programs b.nets.slots b.nets.lists z.programs z.slots z.lists)

-- how many cores there are
many : (b : Block) → IsSized b → length (given_of b.programs) ≡ length b.lines
many b z = given_length b.programs ∙ z.programs

pub line_in : (b : Block) (c : ℕ) → IsSized b → (core (world_of b) c).line ≡ (line_at b c).line
line_in b c z = ap (λ (x : Core). x.line) (core_is b c z)

line_is : (b : Block) (c : ℕ) → IsKept b → c < length b.lines → line_of b.tables.cache (length (given_of b.programs)) (world_of b) c ≡ line_at b c
line_is b c k low =
    let x : LineView = line_at b c in
    let z = k.fitted.sized in
    let p = k.fitted.lines c low in
    ap (λ (l : Line). record { line = l; state = number_of (states_of b.tables.cache) l.desc; core = c; room = length (given_of b.programs) - 1 }) (line_in b c z)
    ∙ ap (λ (n : ℕ). record { line = x.line; state = n; core = c; room = length (given_of b.programs) - 1 }) (sym p.state)
    ∙ ap (λ (n : ℕ). record { line = x.line; state = x.state; core = n; room = length (given_of b.programs) - 1 }) (sym p.core)
    ∙ ap (λ (n : ℕ). record { line = x.line; state = x.state; core = x.core; room = n - 1 }) (many b z)
    ∙ ap (λ (n : ℕ). record { line = x.line; state = x.state; core = x.core; room = n }) (sym p.room)

-- what a line of the world is ready for, the line of the block is
ready_here : (b : Block) (c : ℕ) (i : Line → Input) (r : Line → Received) (f : Nets → Nets) → IsKept b → c < length b.lines
    → IsReady b.tables (i (core (world_of b) c).line) (r (core (world_of b) c).line) (line_of b.tables.cache (length (given_of b.programs)) (world_of b) c) (f (nets_of (world_of b)))
    → IsReady b.tables (i (line_at b c).line) (r (line_at b c).line) (line_at b c) (f b.nets)
ready_here b c i r f k low ready =
    subst (λ (w : Nets). IsReady b.tables (i (line_at b c).line) (r (line_at b c).line) (line_at b c) (f w)) (nets_are b k.fitted.sized)
    (subst (λ (x : LineView). IsReady b.tables (i (line_at b c).line) (r (line_at b c).line) x (f (nets_of (world_of b)))) (line_is b c k low)
    (subst (λ (l : Line). IsReady b.tables (i l) (r l) (line_of b.tables.cache (length (given_of b.programs)) (world_of b) c) (f (nets_of (world_of b)))) (line_in b c k.fitted.sized) ready))

pub sound_block : (b : Block) → IsKept b → IsSoundWorld b.tables.protocol b.tables.cache (length (given_of b.programs)) (world_of b)
sound_block b k = sound_world b.tables.protocol b.tables.cache (given_of b.programs) (world_of b) k.reached

pub few_cores : (b : Block) → IsKept b → length (given_of b.programs) ≤ 64
few_cores b k = let few = k.fitted.few in let same = many b k.fitted.sized in omega (arith, few, same)

pub below_given : (b : Block) (c : ℕ) → IsKept b → c < length b.lines → c < length (given_of b.programs)
below_given b c k low = let same = many b k.fitted.sized in omega (arith, low, same)

done_room : (b : Block) → IsKept b → length b.done < b.limits.done
done_room b k = let most = dones_given b.tables.protocol b.tables.cache (given_of b.programs) (world_of b) k.reached in let limit = k.limits.done in omega (arith, most, limit)

order_most : (b : Block) → IsKept b → length b.order ≤ operation_count (given_of b.programs)
order_most b k = let most = orders_given b.tables.protocol b.tables.cache (given_of b.programs) (world_of b) k.reached in omega (arith, most)

-- Which cores have events

pub is_within : (c n : ℕ) → (c < n) ⊎ (n ≤ c)
is_within c zero = inr (omega arith)
is_within zero (suc n) = inl (omega arith)
is_within (suc c) (suc n) = at (is_within c n)
  where
    at : (c < n) ⊎ (n ≤ c) → (suc c < suc n) ⊎ (suc n ≤ suc c)
    at (inl h) = inl (omega (arith, h))
    at (inr h) = inr (omega (arith, h))

pub past : (b : Block) (c : ℕ) → IsSized b → length b.lines ≤ c → core (world_of b) c ≡ idle_core
past b c z h = let n = joined_length b.lines b.programs b.nets.slots b.nets.lists z.programs z.slots z.lists in get_or_past (world_of b).cores c idle_core (omega (arith, h, n))

by_core : (b : Block) (c : ℕ) (test : Core → Bool) → IsSized b → test idle_core ≡ false → test (core (world_of b) c) ≡ true → c < length b.lines
by_core b c test z idle on = at (is_within c (length b.lines))
  where
    at : (c < length b.lines) ⊎ (length b.lines ≤ c) → c < length b.lines
    at (inl h) = h
    at (inr h) = let same = sym on ∙ ap test (past b c z h) ∙ idle in cc same

-- Each kind of event

issue_ready : (b : Block) (c : ℕ) (os : List Op) → IsKept b → c < length b.lines → is_enabled (pick b.tables.cache) (world_of b) (Issue c) ≡ true → (program_at b c).left ≡ os
    → IfSome (slice_get os 0) (λ o. IsReady b.tables (at.Core (event_of o)) (received_op (line_at b c).line o) (line_at b c) b.nets)
issue_ready b c [] k low on left = tt
issue_ready b c (o ∷ os) k low on left =
    let s = sound_block b k in
    ready_here b c (λ l. at.Core (event_of o)) (λ l. received_op l o) (λ w. w) k low
    (operation_ready b.tables (length (given_of b.programs)) (world_of b) s.marks c o os k.reached.well_formed k.reached.shaped k.reached.sound (few_cores b k) s.orderly s.complete (below_given b c k low)
    (ap (λ (x : Core). x.left) (core_is b c k.fitted.sized) ∙ left) on)

ordered_ready : (b : Block) (c : ℕ) (ms : List Ordered) → IsKept b → c < length b.lines → is_enabled (pick b.tables.cache) (world_of b) (Ordered_to c) ≡ true → get_or b.nets.lists c [] ≡ ms
    → IfSome (slice_get ms 0) (λ m. IsReady b.tables (ordered_input (line_at b c).line m) (received_ordered (line_at b c).line m) (line_at b c) (without_head c b.nets))
ordered_ready b c [] k low on queue = tt
ordered_ready b c (m ∷ ms) k low on queue =
    let s = sound_block b k in
    ready_here b c (λ l. ordered_input l m) (λ l. received_ordered l m) (without_head c) k low
    (head_ready b.tables (length (given_of b.programs)) (world_of b) s.marks c m ms k.reached.well_formed k.reached.shaped k.reached.sound (few_cores b k) s.orderly s.complete (below_given b c k low)
    (ap (λ (x : Core). x.queue) (core_is b c k.fitted.sized) ∙ queue) on)

inside_lines : (b : Block) (c : ℕ) → IsKept b → c < length (given_of b.programs) → c < length b.lines
inside_lines b c k low = let same = many b k.fitted.sized in omega (arith, low, same)

meets : (b : Block) (i : ℕ) (o : Option Reply) → IsKept b → is_enabled (pick b.tables.cache) (world_of b) (Reply_at i) ≡ true → slice_get b.nets.replies i ≡ o → IfSome o (λ m. CanMeet m (without_reply_at i b))
meets b i None k on get = tt
meets b i (Some (Data r c v acks stamp)) k on get =
    let s = sound_block b k in
    let (low, ready) = data_ready b.tables (length (given_of b.programs)) (world_of b) s.marks i r c v acks stamp k.reached.well_formed k.reached.shaped k.reached.sound (few_cores b k) s.orderly s.complete get on in
    let inside : c < length b.lines = inside_lines b c k low in
    record { core = inside; ready = ready_here b c (λ l. reply_input l (Data r c v acks stamp)) (λ l. received_reply b.tables.protocol l (Data r c v acks stamp)) (without_reply i) k inside ready; room = done_room b k }
meets b i (Some (InvAck c stamp)) k on get =
    let s = sound_block b k in
    let (low, ready) = ack_ready b.tables (length (given_of b.programs)) (world_of b) s.marks i c stamp k.reached.well_formed k.reached.shaped k.reached.sound (few_cores b k) s.orderly s.complete get on in
    let inside : c < length b.lines = inside_lines b c k low in
    record { core = inside; ready = ready_here b c (λ l. reply_input l (InvAck c stamp)) (λ l. received_reply b.tables.protocol l (InvAck c stamp)) (without_reply i) k inside ready; room = done_room b k }
meets b i (Some (WbData v stamp)) k on get =
    let s = sound_block b k in
    (k.fitted.numbered, write_back_busy b.tables.protocol (length (given_of b.programs)) (world_of b) s.marks i v stamp s.orderly get)

handles : (b : Block) (c : ℕ) (o : Option SentRequest) → IsKept b → c < length b.lines → is_enabled (pick b.tables.cache) (world_of b) (Request_of c) ≡ true → get_or b.nets.slots c None ≡ o
    → IfSome o (λ a. CanHandle c a b)
handles b c None k low on slot = tt
handles b c (Some a) k low on slot =
    let s = sound_block b k in
    let here : (core (world_of b) c).slot ≡ Some a = ap (λ (x : Core). x.slot) (core_is b c k.fitted.sized) ∙ slot in
    let row = request_row b.tables (length (given_of b.programs)) (world_of b) s.marks c a k.reached.well_formed k.reached.shaped k.reached.sound s.orderly s.complete here on in
    let room = request_room b.tables (length (given_of b.programs)) (world_of b) s.marks c a k.reached.well_formed k.reached.shaped k.reached.sound s.orderly s.complete (below_given b c k low) here on in
    record { row = row; room = subst (λ (w : Nets). HasRoomFor b.tables.protocol b.directory.directory c a (without_request c w)) (nets_are b k.fitted.sized) room }

not_true : (x : Bool) → not x ≡ true → x ≡ false
not_true true h = cc
not_true false h = refl

pub enabled_can_happen : (b : Block) (e : WorldEvent) → IsKept b → is_enabled (pick b.tables.cache) (world_of b) e ≡ true → CanHappen e b
enabled_can_happen b (Issue c) k on =
    let low = by_core b c (λ (x : Core). is_stable x.line.desc && nat_lt 0 (length x.left)) k.fitted.sized refl on in
    record { core = low; programs = k.fitted.sized.programs; ready = issue_ready b c (program_at b c).left k low on refl; room = done_room b k }
enabled_can_happen b (Request_of c) k on =
    let (some, idle) = and_parts (is_some (core (world_of b) c).slot) (not (is_busy b.directory.directory.desc)) on in
    let low = by_core b c (λ (x : Core). is_some x.slot) k.fitted.sized refl some in
    let last : b.directory.directory.last ≡ length b.order = last_stamp b.tables.protocol b.tables.cache (given_of b.programs) (world_of b) k.reached in
    let most = order_most b k in
    let limit = k.limits.order in
    let stamps = k.limits.stamps in
    record {
      core = low;
      slots = k.fitted.sized.slots;
      cores = k.fitted.cores;
      numbered = k.fitted.numbered;
      idle = not_true (is_busy b.directory.directory.desc) idle;
      stamp = omega (arith, last, most, stamps);
      handles = handles b c (request_slot b c) k low on refl;
      room = omega (arith, most, limit);
    }
enabled_can_happen b (Ordered_to c) k on =
    let low = by_core b c (λ (x : Core). has_head (pick b.tables.cache) x.line x.queue) k.fitted.sized refl on in
    record { core = low; slots = k.fitted.sized.slots; lists = k.fitted.sized.lists; ready = ordered_ready b c (get_or b.nets.lists c []) k low on refl; room = done_room b k }
enabled_can_happen b (Reply_at i) k on = record { there = ltb-true i (length b.nets.replies) on; meets = meets b i (slice_get b.nets.replies i) k on refl }
