-- What is counted of what happened on blocks.
use Rattle.std.specs.Prelude.{ℕ, ◌≤◌, ◌+◌, ◌&&◌, Bool, true, false, List, length, count_by}
use Rattle.std.specs.List.{sum_by}
use Rattle.pg_perm.specs.declared.step.Step.{Step}
use Rattle.pg_perm.specs.declared.step.Step.TheVariants.{Txn, Stale, Load, Store}
use Rattle.pg_messages.specs.declared.messages.Finished.{Finished}
use Rattle.pg_messages.specs.declared.messages.Finished.TheVariants as finish
use Rattle.pg_messages.specs.declared.messages.DoneEntry.{DoneEntry}
use Rattle.pg_messages.specs.declared.messages.WorldEvent.{WorldEvent}
use Rattle.pg_tally.specs.declared.tally.Tally.{Tally}

-- Steps of a history

abbrev pub is_txn : Step → Bool
is_txn (Txn c e) = true
is_txn (Stale c) = false
is_txn (Load c v) = false
is_txn (Store c v) = false

abbrev pub is_stale : Step → Bool
is_stale (Txn c e) = false
is_stale (Stale c) = true
is_stale (Load c v) = false
is_stale (Store c v) = false

abbrev pub is_load : Step → Bool
is_load (Txn c e) = false
is_load (Stale c) = false
is_load (Load c v) = true
is_load (Store c v) = false

abbrev pub is_store : Step → Bool
is_store (Txn c e) = false
is_store (Stale c) = false
is_store (Load c v) = false
is_store (Store c v) = true

-- the word that a load reads; other steps read none
abbrev pub word_loaded : Step → ℕ
word_loaded (Txn c e) = 0
word_loaded (Stale c) = 0
word_loaded (Load c v) = v
word_loaded (Store c v) = 0

-- Operations that were completed

abbrev pub is_loaded : Finished → Bool
is_loaded (finish.Load v) = true
is_loaded (finish.Store v) = false
is_loaded finish.Evict = false

-- a load that was completed when its line held nothing any more
abbrev pub is_late_load : DoneEntry → Bool
is_late_load x = is_loaded x.fin && x.late

-- Tallies

-- the numbers of steps of each kind, of late loads among what was completed, and of events, and the sum of the words loaded
abbrev pub tally_of : List Step → List DoneEntry → List (ℕ × WorldEvent) → Tally
tally_of steps done journal = record {
  txns = count_by is_txn steps;
  stale = count_by is_stale steps;
  loads = count_by is_load steps;
  late = count_by is_late_load done;
  stores = count_by is_store steps;
  events = length journal;
  sum = sum_by word_loaded steps;
}

-- two tallies together
abbrev pub plus : Tally → Tally → Tally
plus a b = record {
  txns = a.txns + b.txns;
  stale = a.stale + b.stale;
  loads = a.loads + b.loads;
  late = a.late + b.late;
  stores = a.stores + b.stores;
  events = a.events + b.events;
  sum = a.sum + b.sum;
}

-- no number is above this
pub record IsAtMost (most : ℕ) (t : Tally) : Type 0 where
  pub txns : t.txns ≤ most
  pub stale : t.stale ≤ most
  pub loads : t.loads ≤ most
  pub late : t.late ≤ most
  pub stores : t.stores ≤ most
  pub events : t.events ≤ most
  pub sum : t.sum ≤ most
