-- The networks of a block, and what each call does to them.
use Rattle.std.specs.Prelude.{ℕ, ◌≡◌, ◌≤◌, ◌+◌, ◌*◌, ◌-◌, List, [], ◌∷◌, ◌++◌, length, set, get_or, drop, replicate, Option, Some, None}
use Rattle.std.specs.List.{remove}
use Rattle.pg_messages.specs.declared.messages.Ask.{Ask as SentRequest}
use Rattle.pg_messages.specs.declared.messages.Ordered.{Ordered}
use Rattle.pg_messages.specs.declared.messages.Reply.{Reply}

-- by core the request in its slot and the messages on their way to it from the directory, in order; and the replies, in order of sending
pub record Nets : Type 0 where
  pub slots : List (Option SentRequest)
  pub lists : List (List Ordered)
  pub replies : List Reply

-- how many messages may be on their way in a block of n cores
abbrev pub message_limit : ℕ → ℕ
message_limit n = n * n + 1

-- how many messages are on their way to all cores in order
abbrev pub ordered_count : List (List Ordered) → ℕ
ordered_count [] = 0
ordered_count (x ∷ xs) = length x + ordered_count xs

-- for how many messages more there is room
abbrev pub spare : Nets → ℕ
spare w = message_limit (length w.slots) - (ordered_count w.lists + length w.replies)

-- What the calls make of them

abbrev pub empty_nets : ℕ → Nets
empty_nets n = record { slots = replicate n None; lists = replicate n []; replies = [] }

-- with a request in a core's slot
abbrev pub with_request : ℕ → SentRequest → Nets → Nets
with_request c a w = record w { slots = set w.slots c (Some a) }

-- with nothing in a core's slot
abbrev pub without_request : ℕ → Nets → Nets
without_request c w = record w { slots = set w.slots c None }

-- with a message last in a core's list
abbrev pub with_ordered : ℕ → Ordered → Nets → Nets
with_ordered c m w = record w { lists = set w.lists c (get_or w.lists c [] ++ m ∷ []) }

-- without the first message of a core's list
abbrev pub without_head : ℕ → Nets → Nets
without_head c w = record w { lists = set w.lists c (drop 1 (get_or w.lists c [])) }

-- with a reply sent last
abbrev pub with_reply : Reply → Nets → Nets
with_reply m w = record w { replies = w.replies ++ m ∷ [] }

-- without the reply at a place
abbrev pub without_reply : ℕ → Nets → Nets
without_reply i w = record w { replies = remove w.replies i }

-- Room

-- a core's list, and for how many messages it has room
pub record Queue : Type 0 where
  pub items : List Ordered
  pub room : ℕ

abbrev pub lists_of : List Queue → List (List Ordered)
lists_of [] = []
lists_of (q ∷ qs) = q.items ∷ lists_of qs

-- each list has room for r messages
abbrev pub HaveRoom : ℕ → List Queue → Type 0
HaveRoom r [] = Unit {0}
HaveRoom r (q ∷ qs) = (q.room ≡ r) × HaveRoom r qs

-- there is a list per core, each list has room for all messages that may be on their way, and so have the replies
pub record HasRoom (n : ℕ) (queues : List Queue) (replies : List Reply) (reply_room : ℕ) (spare : ℕ) : Type 0 where
  pub cores : length queues ≡ n
  pub few : message_limit n ≤ 4097
  pub each : HaveRoom (message_limit n) queues
  pub last : reply_room ≡ message_limit n
  pub sum : spare + (ordered_count (lists_of queues) + length replies) ≡ message_limit n
