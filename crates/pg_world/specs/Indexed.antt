-- The index of a block: by kind of event, the cores at which one may be enabled.
use Rattle.std.specs.Prelude.{ℕ, ◌≡◌, ◌||◌, Bool, true, if◌then◌else◌, is_some, List, [], ◌++◌, map, length, Option, Some, None, slice_get}
use Rattle.std.specs.List.{filter, range_with_len}
use Rattle.std.specs.Option.{option_and_then, option_map_or}
use Rattle.pg_perm.specs.Drafts.{is_rising}
use Rattle.pg_directory.proofs.Cores.{are_below}
use Rattle.pg_directory.specs.DirEntries.{is_among, with_core, without_core}
use Rattle.pg_messages.specs.declared.messages.Reply.{Reply as SentReply}
use Rattle.pg_messages.specs.declared.messages.Reply.TheVariants.{Data, InvAck, WbData}
use Rattle.pg_messages.specs.declared.messages.WorldEvent.{WorldEvent}
use Rattle.pg_messages.specs.declared.messages.WorldEvent.TheVariants.{Issue, Request, Ordered, Reply}
use Rattle.pg_block.specs.Blocks.{Block, request_slot, enabled_at}

-- Sets of cores

-- a set with a core in it, or without it
abbrev pub marked : ℕ → Bool → List ℕ → List ℕ
marked c on cores = if on then with_core c cores else without_core c cores

-- their number, and that they ascend and are below 64
pub record IsCounted (n : ℕ) (cores : List ℕ) : Type 0 where
  pub size : n ≡ length cores
  pub rising : is_rising cores ≡ true
  pub below : are_below 64 cores ≡ true

-- of n cores those for which a test holds, in ascending order
abbrev pub cores_where : (ℕ → Bool) → ℕ → List ℕ
cores_where test n = filter test (range_with_len 0 n)

-- The index

-- the cores that can begin an operation, those that have a request in their slot, and those whose next message doesn't wait
pub record Index : Type 0 where
  pub issues : List ℕ
  pub requests : List ℕ
  pub heads : List ℕ

abbrev pub can_issue : Block → ℕ → Bool
can_issue b c = enabled_at (Issue c) b

abbrev pub has_request : Block → ℕ → Bool
has_request b c = is_some (request_slot b c)

abbrev pub can_take : Block → ℕ → Bool
can_take b c = enabled_at (Ordered c) b

abbrev pub index_of : Block → Index
index_of b = record { issues = cores_where (can_issue b) (length b.lines); requests = cores_where (has_request b) (length b.lines); heads = cores_where (can_take b) (length b.lines) }

-- What it says

-- while the directory is busy no request is enabled
abbrev pub unless_busy : Bool → List ℕ → List ℕ
unless_busy busy requests = if busy then [] else requests

-- the enabled events of a block, by its index and how many replies are on their way
abbrev pub indexed_events : Bool → ℕ → Index → List WorldEvent
indexed_events busy replies x = map (λ c. Issue c) x.issues ++ map (λ c. Request c) (unless_busy busy x.requests) ++ map (λ c. Ordered c) x.heads ++ map (λ i. Reply i) (range_with_len 0 replies)

-- How it follows the events

abbrev pub receiver : SentReply → Option ℕ
receiver (Data r c v n k) = Some c
receiver (InvAck c k) = Some c
receiver (WbData v k) = None

-- the core that takes part in an event, if one does
abbrev pub core_in : WorldEvent → Block → Option ℕ
core_in (Issue c) b = Some c
core_in (Request c) b = Some c
core_in (Ordered c) b = Some c
core_in (Reply i) b = option_and_then receiver (slice_get b.nets.replies i)

-- with one core looked at anew
abbrev pub renewed : Block → ℕ → Index → Index
renewed b c x = record { issues = marked c (can_issue b c) x.issues; requests = marked c (has_request b c) x.requests; heads = marked c (can_take b c) x.heads }

-- with each core that has no message that it could take looked at anew
abbrev pub with_new_heads : Block → Index → Index
with_new_heads b x = record x { heads = cores_where (λ c. is_among x.heads c || can_take b c) (length b.lines) }

-- the messages that the directory sends at a request may come to any core
abbrev pub heads_after : WorldEvent → Block → Index → Index
heads_after (Issue c) b x = x
heads_after (Request c) b x = with_new_heads b x
heads_after (Ordered c) b x = x
heads_after (Reply i) b x = x

-- after an event in which this core takes part
abbrev pub index_after : WorldEvent → Option ℕ → Block → Index → Index
index_after e c b x = heads_after e b (option_map_or (λ c. renewed b c x) c x)
