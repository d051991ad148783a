-- What is to be said of the world after a request besides what keeps it orderly.
use Rattle.std.specs.Prelude.{ℕ, ◌≡◌, ◌<◌, [], ◌∷◌, ◌++◌, Option, Some, unwrap_or}
use Rattle.pg_perm.specs.declared.kinds.Event.{Event}
use Rattle.pg_perm.specs.declared.kinds.Event.TheVariants as event
use Rattle.pg_perm.specs.declared.kinds.Who.{Who}
use Rattle.pg_perm.specs.declared.kinds.Who.TheVariants as role
use Rattle.pg_perm.specs.declared.draft.Draft.{Draft}
use Rattle.pg_directory.specs.DirEntries.{who}
use Rattle.pg_order.specs.Orders.{is_stale}
use Rattle.pg_messages.specs.declared.messages.Ask.{Ask as SentRequest}
use Rattle.pg_controllers.specs.Directories.{dir_entry_of}
use Rattle.pg_messages.specs.declared.messages.OrderEntry.{OrderEntry}
use Rattle.pg_controllers.specs.Worlds.{World, core}

-- the owner's evict writes the word that it brings, if it does
abbrev pub memory_after : Event → Who → Option ℕ → ℕ → ℕ
memory_after event.Evict role.Owner word v = unwrap_or word v
memory_after e w word v = v

-- a word in a slot is its line's
abbrev pub HasSlots : ℕ → World → Type 0
HasSlots n w = (c v : ℕ) (a : SentRequest) → c < n → (core w c).slot ≡ Some a → a.word ≡ Some v → v ≡ (core w c).line.word

-- the entry of a request
abbrev pub entry_for : Draft → World → ℕ → SentRequest → OrderEntry
entry_for d w c a = record { core = c; event = a.event; stale = is_stale (dir_entry_of w.directory) (record { core = c; event = a.event }) }

pub record IsOrdering (d : Draft) (w : World) (c : ℕ) (a : SentRequest) (x : World) : Type 0 where
  pub order : x.order ≡ w.order ++ entry_for d w c a ∷ []
  pub done : x.done ≡ w.done
  pub memory : x.directory.memory ≡ memory_after a.event (who (dir_entry_of w.directory) c) a.word w.directory.memory
