-- What a world with marks shows of the run that its order and its completed accesses make.
use Rattle.std.specs.Prelude.{ℕ, ◌≡◌, ◌<◌, ◌==◌, ◌&&◌, ◌||◌, not, Bool, true, false, List, [], ◌∷◌, ◌++◌, map, get_or, Option, Some, None, is_none, if◌then◌else◌}
use Rattle.std.specs.Option.{option_map_or}
use Rattle.pg_perm.specs.declared.kinds.Event.{Event}
use Rattle.pg_perm.specs.declared.kinds.Event.TheVariants as event
use Rattle.pg_perm.specs.declared.draft.Draft.{Draft}
use Rattle.pg_perm.specs.declared.draft.ReplyName.TheVariants as reply
use Rattle.pg_terms.specs.Terms.{cache_is}
use Rattle.pg_terms.specs.Rows.{final_state}
use Rattle.pg_table.specs.declared.cache.Desc.{Desc}
use Rattle.pg_table.specs.declared.cache.Desc.TheVariants.{Stable, Ask, Leave}
use Rattle.pg_order.specs.Orders.{is_stale}
use Rattle.pg_messages.specs.declared.messages.Ask.{Ask as SentRequest}
use Rattle.pg_messages.specs.declared.messages.Finished.TheVariants as finish
use Rattle.pg_controllers.specs.Networks as net
use Rattle.pg_messages.specs.declared.messages.Reply.{Reply}
use Rattle.pg_messages.specs.declared.messages.Reply.TheVariants.{Data, InvAck, WbData}
use Rattle.pg_messages.specs.declared.messages.Finished.{Finished}
use Rattle.pg_controllers.specs.Directories.{is_busy}
use Rattle.pg_messages.specs.declared.messages.OrderEntry.{OrderEntry}
use Rattle.pg_messages.specs.declared.messages.DoneEntry.{DoneEntry}
use Rattle.pg_controllers.specs.Worlds.{World, core, order_of}
use Rattle.pg_orderly.specs.Orderly.{Mark, is_ahead, is_granted, is_pending}
use Rattle.pg_serial.specs.Serial.{Entry, Done, Loaded, Stored}
use Rattle.pg_serial.specs.Faithful as told
use Rattle.pg_serial.specs.Faithful.{Stand, Level, Ahead, Datum, Shown}

-- where a line stands
abbrev pub stand_of : Desc → Stand
stand_of (Stable s) = Level s
stand_of (Ask e s ph t) = if is_ahead ph t then Ahead s (is_granted (Ask e s ph t)) else Level s
stand_of (Leave s) = Level s

abbrev pub entry_of : OrderEntry → Entry
entry_of e = record { core = e.core; event = e.event; stale = e.stale }

-- evicts are no accesses
abbrev pub access_of : DoneEntry → Finished → List Done
access_of x (finish.Load v) = record { stamp = x.stamp; core = x.core; made = Loaded v; late = x.late } ∷ []
access_of x (finish.Store v) = record { stamp = x.stamp; core = x.core; made = Stored v; late = x.late } ∷ []
access_of x finish.Evict = []

abbrev pub accesses : List DoneEntry → List Done
accesses [] = []
accesses (x ∷ xs) = access_of x x.fin ++ accesses xs

abbrev pub datum_of : Reply → List Datum
datum_of (Data r c v n k) = record { reply = reply.Reply r; core = c; word = v; stamp = k } ∷ []
datum_of (InvAck c k) = []
datum_of (WbData v k) = []

abbrev pub data_of : List Reply → List Datum
data_of [] = []
data_of (x ∷ xs) = datum_of x ++ data_of xs

abbrev pub word_of : Reply → List ℕ
word_of (Data r c v n k) = []
word_of (InvAck c k) = []
word_of (WbData v k) = v ∷ []

abbrev pub words_of : List Reply → List ℕ
words_of [] = []
words_of (x ∷ xs) = word_of x ++ words_of xs

-- a state in which memory has the word as well
abbrev pub is_clean_state : Draft → ℕ → Bool
is_clean_state d s = cache_is (λ c. c.clean) d s

abbrev pub base_event : Desc → Event
base_event (Stable s) = event.Evict
base_event (Ask e s ph t) = e
base_event (Leave s) = event.Evict

abbrev pub base_state : Desc → ℕ
base_state (Stable s) = s
base_state (Ask e s ph t) = s
base_state (Leave s) = s

-- data to a core that makes it clean
abbrev pub cleans : Draft → ℕ → Desc → Reply → Bool
cleans d c x (Data r e v n k) = (e == c) && option_map_or (is_clean_state d) (final_state d (base_state x) (base_event x) (reply.Reply r)) false
cleans d c x (InvAck e k) = false
cleans d c x (WbData v k) = false

abbrev pub some_cleans : Draft → ℕ → Desc → List Reply → Bool
some_cleans d c x [] = false
some_cleans d c x (y ∷ ys) = cleans d c x y || some_cleans d c x ys

-- where it stands level
abbrev pub level_in : Stand → Option ℕ
level_in (Level s) = Some s
level_in (Ahead s b) = None

-- its evict is on its way without a word
abbrev pub leaves_clean : Option SentRequest → Bool
leaves_clean None = false
leaves_clean (Some a) = Rattle.pg_terms.specs.Terms.same_event a.event event.Evict && is_none a.word

-- memory is claimed to have the word of core c, if it owns: at rest or asking in a clean state, or waiting for data that makes it clean, or with an
-- evict without a word
abbrev pub is_clean_core : Draft → ℕ → net.Core → List Reply → Bool
is_clean_core d c x replies =
    (not (is_pending x) && option_map_or (is_clean_state d) (level_in (stand_of x.line.desc)) false)
    || some_cleans d c x.line.desc replies
    || leaves_clean x.slot

abbrev pub is_clean : Draft → World → ℕ → Bool
is_clean d w c = is_clean_core d c (core w c) w.replies

abbrev pub told_of : Mark → net.Core → told.Core
told_of m x = record { seen = m.seen; last = m.last; pending = is_pending x; stand = stand_of x.line.desc; word = x.line.word; stamp = x.line.stamp }

abbrev pub shown : Draft → World → (ℕ → Mark) → Shown
shown d w m = record {
  order = map entry_of w.order;
  done = accesses w.done;
  core = λ c. told_of (m c) (core w c);
  replies = data_of w.replies;
  written = words_of w.replies;
  memory = w.directory.memory;
  busy = is_busy w.directory.desc;
  clean = is_clean d w;
}

-- past the end of the order it means nothing
abbrev pub no_entry : OrderEntry
no_entry = record { core = 0; event = event.Evict; stale = true }

-- each entry is marked as stale where its evict finds that its core holds nothing
abbrev pub HasFlags : Draft → World → Type 0
HasFlags d w = (j : ℕ) → j < (order_of d w).top → (get_or w.order j no_entry).stale ≡ is_stale ((order_of d w).dir_entry j) ((order_of d w).at j)
