-- A block's world as it is kept, in parts, and what an event makes of them.
use Rattle.std.specs.Prelude.{ℕ, ◌≡◌, ◌<◌, ◌&&◌, nat_lt, not, is_some, Bool, true, false, List, [], ◌∷◌, ◌++◌, length, get_or, set, drop, slice_get, Option, Some, None, IfSome, IsSome}
use Rattle.pg_perm.specs.declared.kinds.Op.{Op}
use Rattle.pg_table.specs.declared.cache.Input.TheVariants as at
use Rattle.pg_table.specs.Tables.{Parts}
use Rattle.pg_messages.specs.declared.messages.Ask.{Ask as SentRequest}
use Rattle.pg_messages.specs.declared.messages.Ordered.{Ordered}
use Rattle.pg_messages.specs.declared.messages.Reply.{Reply}
use Rattle.pg_messages.specs.declared.messages.Reply.TheVariants.{Data, InvAck, WbData}
use Rattle.pg_messages.specs.declared.messages.OrderEntry.{OrderEntry}
use Rattle.pg_messages.specs.declared.messages.DoneEntry.{DoneEntry}
use Rattle.pg_messages.specs.declared.messages.WorldEvent.{WorldEvent}
use Rattle.pg_messages.specs.declared.messages.WorldEvent.TheVariants.{Issue, Request as Request_of, Ordered as Ordered_to, Reply as Reply_at}
use Rattle.pg_order.specs.Orders.{is_stale}
use Rattle.pg_controllers.specs.Networks.{Core, idle_line, event_of}
use Rattle.pg_controllers.specs.Lines.{ordered_input, reply_input, received_op, received_ordered, received_reply}
use Rattle.pg_controllers.specs.Directories.{is_busy, dir_entry_of}
use Rattle.pg_controllers.specs.Worlds.{World, done_of, is_stable}
use Rattle.pg_queue.specs.Nets.{Nets, without_request, without_head, without_reply}
use Rattle.pg_cache.specs.Acts.{LineView}
use Rattle.pg_cache.specs.Inputs.{has_stall_row}
use Rattle.pg_cache.specs.Rows.{RowResult, IsReady, IsMadeWith, after_row}
use Rattle.pg_dir.specs.Numbers.{NumberedDirectory, IsNumbered}
use Rattle.pg_dir.specs.Effects.{DirResult, HasRoomFor, request_by, choice_by, result_of_request, write_back}

-- the operations that a core was given, and those that it has still to begin
pub record Program : Type 0 where
  pub given : List Op
  pub left : List Op

-- how many entries there is room for
pub record Limits : Type 0 where
  pub order : ℕ
  pub done : ℕ
  pub journal : ℕ

-- the tables, by core its line and its operations, the networks, the directory, what happened, and the room for it
pub record Block : Type 0 where
  pub tables : Parts
  pub lines : List LineView
  pub programs : List Program
  pub nets : Nets
  pub directory : NumberedDirectory
  pub order : List OrderEntry
  pub done : List DoneEntry
  pub journal : List (ℕ × WorldEvent)
  pub limits : Limits

-- The world that it is

abbrev pub joined : List LineView → List Program → List (Option SentRequest) → List (List Ordered) → List Core
joined (l ∷ ls) (p ∷ ps) (s ∷ ss) (q ∷ qs) = record { line = l.line; left = p.left; slot = s; queue = q } ∷ joined ls ps ss qs
joined _ _ _ _ = []

abbrev pub world_of : Block → World
world_of b = record {
  cores = joined b.lines b.programs b.nets.slots b.nets.lists;
  replies = b.nets.replies;
  directory = b.directory.directory;
  order = b.order;
  done = b.done;
  journal = b.journal;
}

-- by core the operations that it was given
abbrev pub given_of : List Program → List (List Op)
given_of [] = []
given_of (p ∷ ps) = p.given ∷ given_of ps

-- each core has operations, a slot and a list
pub record IsSized (b : Block) : Type 0 where
  pub programs : length b.programs ≡ length b.lines
  pub slots : length b.nets.slots ≡ length b.lines
  pub lists : length b.nets.lists ≡ length b.lines

-- what stands for a core that isn't there
abbrev pub no_line : LineView
no_line = record { line = idle_line 0; state = 0; core = 0; room = 0 }

abbrev pub no_program : Program
no_program = record { given = []; left = [] }

abbrev pub line_at : Block → ℕ → LineView
line_at b c = get_or b.lines c no_line

abbrev pub program_at : Block → ℕ → Program
program_at b c = get_or b.programs c no_program

-- What an event makes of it

-- core c's row was carried out
abbrev pub with_row : ℕ → RowResult → Block → Block
with_row c r b = record b { lines = set b.lines c r.line; nets = r.nets; done = b.done ++ done_of c r.done }

-- core c begins an operation
abbrev pub begin_by : ℕ → Option Op → Block → Block
begin_by c None b = b
begin_by c (Some o) b = with_row c
    (after_row b.tables (at.Core (event_of o)) (received_op (line_at b c).line o) (line_at b c) b.nets)
    (record b { programs = set b.programs c (record (program_at b c) { left = drop 1 (program_at b c).left }) })

abbrev pub next_operation : Block → ℕ → Option Op
next_operation b c = slice_get (program_at b c).left 0

abbrev pub after_issue : ℕ → Block → Block
after_issue c b = begin_by c (next_operation b c) b

-- a message from the directory comes to core c
abbrev pub meet_ordered : ℕ → Ordered → Block → Block
meet_ordered c m b = with_row c (after_row b.tables (ordered_input (line_at b c).line m) (received_ordered (line_at b c).line m) (line_at b c) b.nets) b

-- it is taken from the head of its list
abbrev pub without_head_at : ℕ → Block → Block
without_head_at c b = record b { nets = without_head c b.nets }

abbrev pub take_by : ℕ → Option Ordered → Block → Block
take_by c None b = b
take_by c (Some m) b = meet_ordered c m (without_head_at c b)

abbrev pub head_of : Block → ℕ → Option Ordered
head_of b c = slice_get (get_or b.nets.lists c []) 0

abbrev pub after_ordered : ℕ → Block → Block
after_ordered c b = take_by c (head_of b c) b

-- a reply comes to core c
abbrev pub meet_reply : ℕ → Reply → Block → Block
meet_reply c m b = with_row c (after_row b.tables (reply_input (line_at b c).line m) (received_reply b.tables.protocol (line_at b c).line m) (line_at b c) b.nets) b

-- it is taken from place i
abbrev pub without_reply_at : ℕ → Block → Block
without_reply_at i b = record b { nets = without_reply i b.nets }

abbrev pub after_answer : ℕ → ℕ → Reply → Block → Block
after_answer i c m b = meet_reply c m (without_reply_at i b)

-- or to the directory
abbrev pub with_directory : ℕ → NumberedDirectory → Block → Block
with_directory i h b = record (without_reply_at i b) { directory = h }

abbrev pub meet_by : Reply → NumberedDirectory → Block → Block
meet_by (Data r c v n k) h b = meet_reply c (Data r c v n k) b
meet_by (InvAck c k) h b = meet_reply c (InvAck c k) b
meet_by (WbData v k) h b = record b { directory = h }

abbrev pub answer_by : ℕ → Option Reply → NumberedDirectory → Block → Block
answer_by i None h b = b
answer_by i (Some m) h b = meet_by m h (without_reply_at i b)

-- the directory before and after a reply: one to a core leaves it as it is, and data that was written back is written to memory
abbrev pub IsAfterReply : Reply → Block → NumberedDirectory → Type 0
IsAfterReply (Data r c v n k) b h = h ≡ b.directory
IsAfterReply (InvAck c k) b h = h ≡ b.directory
IsAfterReply (WbData v k) b h = (h.directory ≡ write_back b.tables.protocol v b.directory.directory) × IsNumbered b.tables.home h × (h.cores ≡ b.directory.cores)

-- the directory handles core c's request
abbrev pub request_slot : Block → ℕ → Option SentRequest
request_slot b c = get_or b.nets.slots c None

abbrev pub with_request_handled : ℕ → SentRequest → ℕ → DirResult → Block → Block
with_request_handled c a number r b = record b {
  nets = r.nets;
  directory = record b.directory { number = number; directory = r.directory };
  order = b.order ++ record { core = c; event = a.event; stale = is_stale (dir_entry_of b.directory.directory) (request_by c a) } ∷ [];
}

abbrev pub handle_by : ℕ → Option SentRequest → ℕ → Block → Block
handle_by c None number b = b
handle_by c (Some a) number b = with_request_handled c a number (result_of_request b.tables.protocol c a b.directory.directory (without_request c b.nets)) b

-- When it can

pub record CanIssue (c : ℕ) (b : Block) : Type 0 where
  pub core : c < length b.lines
  pub programs : length b.programs ≡ length b.lines
  pub ready : IfSome (next_operation b c) (λ o. IsReady b.tables (at.Core (event_of o)) (received_op (line_at b c).line o) (line_at b c) b.nets)
  pub room : length b.done < b.limits.done

pub record CanDeliver (c : ℕ) (m : Ordered) (b : Block) : Type 0 where
  pub core : c < length b.lines
  pub ready : IsReady b.tables (ordered_input (line_at b c).line m) (received_ordered (line_at b c).line m) (line_at b c) b.nets
  pub room : length b.done < b.limits.done

pub record CanTake (c : ℕ) (b : Block) : Type 0 where
  pub core : c < length b.lines
  pub slots : length b.nets.slots ≡ length b.lines
  pub lists : length b.nets.lists ≡ length b.lines
  pub ready : IfSome (head_of b c) (λ m. IsReady b.tables (ordered_input (line_at b c).line m) (received_ordered (line_at b c).line m) (line_at b c) (without_head c b.nets))
  pub room : length b.done < b.limits.done

pub record CanAnswer (c : ℕ) (m : Reply) (b : Block) : Type 0 where
  pub core : c < length b.lines
  pub ready : IsReady b.tables (reply_input (line_at b c).line m) (received_reply b.tables.protocol (line_at b c).line m) (line_at b c) b.nets
  pub room : length b.done < b.limits.done

-- once it is taken
abbrev pub CanMeet : Reply → Block → Type 0
CanMeet (Data r c v n k) b = CanAnswer c (Data r c v n k) b
CanMeet (InvAck c k) b = CanAnswer c (InvAck c k) b
CanMeet (WbData v k) b = IsNumbered b.tables.home b.directory × (is_busy b.directory.directory.desc ≡ true)

pub record CanReply (i : ℕ) (b : Block) : Type 0 where
  pub there : i < length b.nets.replies
  pub meets : IfSome (slice_get b.nets.replies i) (λ m. CanMeet m (without_reply_at i b))

pub record CanHandle (c : ℕ) (a : SentRequest) (b : Block) : Type 0 where
  pub row : IsSome (choice_by b.tables.protocol b.directory.directory c a)
  pub room : HasRoomFor b.tables.protocol b.directory.directory c a (without_request c b.nets)

pub record CanRequest (c : ℕ) (b : Block) : Type 0 where
  pub core : c < length b.lines
  pub slots : length b.nets.slots ≡ length b.lines
  pub cores : b.directory.cores ≡ length b.lines
  pub numbered : IsNumbered b.tables.home b.directory
  pub idle : is_busy b.directory.directory.desc ≡ false
  pub stamp : b.directory.directory.last < 4294967295
  pub handles : IfSome (request_slot b c) (λ a. CanHandle c a b)
  pub room : length b.order < b.limits.order

abbrev pub CanHappen : WorldEvent → Block → Type 0
CanHappen (Issue c) b = CanIssue c b
CanHappen (Request_of c) b = CanRequest c b
CanHappen (Ordered_to c) b = CanTake c b
CanHappen (Reply_at i) b = CanReply i b

-- What has happened: how a block was before an event, and how it is after it

abbrev pub HasHappened : WorldEvent → Block → Block → Type 0
HasHappened (Issue c) a b = b ≡ after_issue c a
HasHappened (Request_of c) a b = (b ≡ handle_by c (request_slot a c) b.directory.number a) × IsNumbered a.tables.home b.directory
HasHappened (Ordered_to c) a b = b ≡ after_ordered c a
HasHappened (Reply_at i) a b = (b ≡ answer_by i (slice_get a.nets.replies i) b.directory a) × IfSome (slice_get a.nets.replies i) (λ m. IsAfterReply m a b.directory)

-- Which events are enabled

abbrev pub heads : Parts → LineView → Option Ordered → Bool
heads t x None = false
heads t x (Some m) = not (has_stall_row t.cache x.line m)

abbrev pub enabled_at : WorldEvent → Block → Bool
enabled_at (Issue c) b = nat_lt c (length b.lines) && (is_stable (line_at b c).line.desc && nat_lt 0 (length (program_at b c).left))
enabled_at (Request_of c) b = nat_lt c (length b.lines) && (is_some (request_slot b c) && not (is_busy b.directory.directory.desc))
enabled_at (Ordered_to c) b = nat_lt c (length b.lines) && heads b.tables (line_at b c) (head_of b c)
enabled_at (Reply_at i) b = nat_lt i (length b.nets.replies)

-- the lines were made with the tables, and each core has operations, a slot and a list
pub record CanTell (b : Block) : Type 0 where
  pub sized : IsSized b
  pub made : (c : ℕ) → c < length b.lines → IsMadeWith b.tables (line_at b c)
