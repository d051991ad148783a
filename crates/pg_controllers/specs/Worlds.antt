-- Worlds, their events, and what a step does.
use Rattle.std.specs.Prelude.{if◌then◌else◌, ℕ, suc, Bool, true, false, not, ◌&&◌, nat_lt, List, [], ◌∷◌, ◌++◌, map, length, get_or, set, Option, Some, None, is_some, slice_get}
use Rattle.std.specs.List.{list_any, remove}
use Rattle.pg_perm.specs.declared.kinds.Op.{Op}
use Rattle.pg_perm.specs.declared.draft.Draft.{Draft}
use Rattle.pg_directory.specs.DirEntries.{Request, entry_after}
use Rattle.pg_table.specs.declared.cache.Desc.{Desc}
use Rattle.pg_table.specs.declared.cache.Desc.TheVariants.{Stable, Ask, Leave}
use Rattle.pg_table.specs.declared.cache.Input.{Input}
use Rattle.pg_table.specs.declared.cache.Input.TheVariants as at
use Rattle.pg_table.specs.declared.directory.DirInput.TheVariants as met
use Rattle.pg_table.specs.Choices.{Choice}
use Rattle.pg_table.specs.Stalls.{is_stall}
use Rattle.pg_table.specs.Directory.{DirChoice, dir_choice}
use Rattle.pg_messages.specs.declared.messages.Ordered.{Ordered}
use Rattle.pg_order.specs.Orders.{DirOrder, dir_order, is_stale}
use Rattle.pg_messages.specs.declared.messages.Ask.{Ask as SentRequest}
use Rattle.pg_messages.specs.declared.messages.Finished.TheVariants as finish
use Rattle.pg_messages.specs.declared.messages.Reply.{Reply}
use Rattle.pg_messages.specs.declared.messages.Reply.TheVariants.{Data, InvAck, WbData}
use Rattle.pg_messages.specs.declared.messages.Finished.{Finished}
use Rattle.pg_messages.specs.declared.messages.Finish.{Finish}
use Rattle.pg_controllers.specs.Networks.{Line, Core, idle_core, event_of}
use Rattle.pg_controllers.specs.Lines.{LineResult, Received, result_of, ordered_input, reply_input, received_op, received_ordered, received_reply}
use Rattle.pg_controllers.specs.Directories.{Directory, Posted, is_busy, dir_entry_of, dir_input, do_dir_acts}
use Rattle.pg_messages.specs.declared.messages.OrderEntry.{OrderEntry}
use Rattle.pg_messages.specs.declared.messages.DoneEntry.{DoneEntry}
use Rattle.pg_messages.specs.declared.messages.WorldEvent.{WorldEvent}
use Rattle.pg_messages.specs.declared.messages.WorldEvent.TheVariants.{Issue, Request as Request_of, Ordered as Ordered_to, Reply as Reply_at}

-- what the cache controllers do in a state at an input
abbrev pub Picks : Type 0
Picks = Desc → Input → Option Choice

pub record World : Type 0 where
  pub cores : List Core
  pub replies : List Reply
  pub directory : Directory
  pub order : List OrderEntry
  pub done : List DoneEntry
  pub journal : List (ℕ × WorldEvent)

abbrev pub core : World → ℕ → Core
core w c = get_or w.cores c idle_core

abbrev pub request_in : OrderEntry → Request
request_in e = record { core = e.core; event = e.event }

-- what the directory handled
abbrev pub order_of : Draft → World → DirOrder
order_of d w = dir_order d (map request_in w.order)

-- Cores

abbrev pub done_as : ℕ → ℕ → Bool → Finished → List DoneEntry
done_as c k l (finish.Load v) = record { stamp = k; core = c; fin = finish.Load v; late = l } ∷ []
done_as c k l (finish.Store v) = record { stamp = k; core = c; fin = finish.Store v; late = l } ∷ []
done_as c k l finish.Evict = []

abbrev pub done_of : ℕ → Option Finish → List DoneEntry
done_of c None = []
done_of c (Some f) = done_as c f.stamp f.late f.fin

-- core c becomes x with the line and the slot that it has after its acts, and what it sent and completed is added
abbrev pub settle : ℕ → Core → LineResult → World → World
settle c x a w = record w { cores = set w.cores c (record x { line = a.line; slot = a.slot }); replies = w.replies ++ a.replies; done = w.done ++ done_of c a.done }

abbrev pub by_choice : Draft → ℕ → Received → Core → World → Option Choice → World
by_choice d c m x w None = w
by_choice d c m x w (Some ch) = settle c x (result_of d ch m x.line x.slot) w

abbrev pub issue : Draft → Picks → ℕ → Core → World → List Op → World
issue d pick c x w [] = w
issue d pick c x w (o ∷ os) = by_choice d c (received_op x.line o) (record x { left = os }) w (pick x.line.desc (at.Core (event_of o)))

abbrev pub deliver : Draft → Picks → ℕ → Core → World → List Ordered → World
deliver d pick c x w [] = w
deliver d pick c x w (m ∷ ms) = by_choice d c (received_ordered x.line m) (record x { queue = ms }) w (pick x.line.desc (ordered_input x.line m))

-- The directory

abbrev pub post : List (ℕ × Ordered) → List Core → List Core
post [] xs = xs
post (p ∷ ps) xs = post ps (set xs p.0 (record (get_or xs p.0 idle_core) { queue = (get_or xs p.0 idle_core).queue ++ p.1 ∷ [] }))

abbrev pub directory_after : Draft → Directory → Request → DirChoice → Posted → Directory
directory_after d h q ch p = record {
  desc = ch.next;
  memory = p.memory;
  owner = (entry_after d (dir_entry_of h) q).owner;
  sharers = (entry_after d (dir_entry_of h) q).sharers;
  last = suc h.last;
}

abbrev pub handle : Draft → ℕ → SentRequest → World → DirChoice → Posted → World
handle d c a w ch p = record w {
  cores = post p.posts (set w.cores c (record (core w c) { slot = None }));
  replies = w.replies ++ p.replies;
  directory = directory_after d w.directory (record { core = c; event = a.event }) ch p;
  order = w.order ++ record { core = c; event = a.event; stale = is_stale (dir_entry_of w.directory) (record { core = c; event = a.event }) } ∷ [];
}

abbrev pub handle_by : Draft → ℕ → SentRequest → World → Option DirChoice → World
handle_by d c a w None = w
handle_by d c a w (Some ch) = handle d c a w ch (do_dir_acts d (dir_entry_of w.directory) c (suc w.directory.last) a.word ch.acts (record { memory = w.directory.memory; invs = 0; posts = []; replies = [] }))

abbrev pub request : Draft → ℕ → World → Option SentRequest → World
request d c w None = w
request d c w (Some a) = handle_by d c a w (dir_choice d w.directory.desc (dir_input w.directory.desc (dir_entry_of w.directory) (record { core = c; event = a.event })))

abbrev pub after_write_back : Draft → ℕ → World → Option DirChoice → World
after_write_back d v w None = w
after_write_back d v w (Some ch) = record w { directory = record w.directory { desc = ch.next; memory = (do_dir_acts d (dir_entry_of w.directory) 0 0 (Some v) ch.acts (record { memory = w.directory.memory; invs = 0; posts = []; replies = [] })).memory } }

-- Replies

-- w is the world without the reply
abbrev pub reply : Draft → Picks → World → Option Reply → World
reply d pick w None = w
reply d pick w (Some (Data r c v n k)) =
    by_choice d c (received_reply d (core w c).line (Data r c v n k)) (core w c) w (pick (core w c).line.desc (reply_input (core w c).line (Data r c v n k)))
reply d pick w (Some (InvAck c k)) =
    by_choice d c (received_reply d (core w c).line (InvAck c k)) (core w c) w (pick (core w c).line.desc (reply_input (core w c).line (InvAck c k)))
reply d pick w (Some (WbData v k)) = after_write_back d v w (dir_choice d w.directory.desc met.Wb)

-- Steps

abbrev pub move : Draft → Picks → World → WorldEvent → World
move d pick w (Issue c) = issue d pick c (core w c) w (core w c).left
move d pick w (Request_of c) = request d c w (core w c).slot
move d pick w (Ordered_to c) = deliver d pick c (core w c) w (core w c).queue
move d pick w (Reply_at i) = reply d pick (record w { replies = remove w.replies i }) (slice_get w.replies i)

-- Enabled events

abbrev pub is_stable : Desc → Bool
is_stable (Stable s) = true
is_stable (Ask e s p t) = false
is_stable (Leave s) = false

abbrev pub waits : Option Choice → Bool
waits None = false
waits (Some ch) = list_any is_stall ch.acts

abbrev pub has_head : Picks → Line → List Ordered → Bool
has_head pick l [] = false
has_head pick l (m ∷ ms) = not (waits (pick l.desc (ordered_input l m)))

abbrev pub is_enabled : Picks → World → WorldEvent → Bool
is_enabled pick w (Issue c) = is_stable (core w c).line.desc && nat_lt 0 (length (core w c).left)
is_enabled pick w (Request_of c) = is_some (core w c).slot && not (is_busy w.directory.desc)
is_enabled pick w (Ordered_to c) = has_head pick (core w c).line (core w c).queue
is_enabled pick w (Reply_at i) = nat_lt i (length w.replies)

-- Rows

abbrev pub has_first : Picks → Line → List Op → Bool
has_first pick l [] = false
has_first pick l (o ∷ os) = is_some (pick l.desc (at.Core (event_of o)))

abbrev pub has_request : Draft → Directory → ℕ → Option SentRequest → Bool
has_request d h c None = false
has_request d h c (Some a) = is_some (dir_choice d h.desc (dir_input h.desc (dir_entry_of h) (record { core = c; event = a.event })))

abbrev pub has_next : Picks → Line → List Ordered → Bool
has_next pick l [] = false
has_next pick l (m ∷ ms) = is_some (pick l.desc (ordered_input l m))

abbrev pub has_reply : Draft → Picks → World → Option Reply → Bool
has_reply d pick w None = false
has_reply d pick w (Some (Data r c v n k)) = is_some (pick (core w c).line.desc (reply_input (core w c).line (Data r c v n k)))
has_reply d pick w (Some (InvAck c k)) = is_some (pick (core w c).line.desc (reply_input (core w c).line (InvAck c k)))
has_reply d pick w (Some (WbData v k)) = is_some (dir_choice d w.directory.desc met.Wb)

-- a table has a row for the event
abbrev pub has_row : Draft → Picks → World → WorldEvent → Bool
has_row d pick w (Issue c) = has_first pick (core w c).line (core w c).left
has_row d pick w (Request_of c) = has_request d w.directory c (core w c).slot
has_row d pick w (Ordered_to c) = has_next pick (core w c).line (core w c).queue
has_row d pick w (Reply_at i) = has_reply d pick w (slice_get w.replies i)

abbrev pub can_happen : Draft → Picks → World → WorldEvent → Bool
can_happen d pick w e = is_enabled pick w e && has_row d pick w e

abbrev pub with_event : ℕ × WorldEvent → World → World
with_event e w = record w { journal = w.journal ++ e ∷ [] }

abbrev pub step : Draft → Picks → World → ℕ × WorldEvent → World
step d pick w e = with_event e (if can_happen d pick w e.1 then move d pick w e.1 else w)
