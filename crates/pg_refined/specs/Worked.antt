-- What small worlds show, worked out by hand.
use Rattle.std.specs.Prelude.{ℕ, ◌≡◌, true, false, List, [], ◌∷◌, map}
use Rattle.pg_perm.specs.declared.kinds.Event.TheVariants as event
use Rattle.pg_perm.specs.declared.kinds.Op.TheVariants as op
use Rattle.pg_perm.specs.declared.draft.ReplyName.TheVariants as reply
use Rattle.pg_perm.specs.declared.step.Step.{Step}
use Rattle.pg_perm.specs.declared.step.Step.TheVariants as step
use Rattle.pg_samples.specs.Drafts.{msi, mesi}
use Rattle.pg_table.specs.declared.cache.Desc.TheVariants.{Ask}
use Rattle.pg_table.specs.declared.cache.Phase.TheVariants.{Ad, A}
use Rattle.pg_table.specs.declared.cache.Tag.TheVariants.{Plain, Gave}
use Rattle.pg_messages.specs.declared.messages.Finished.TheVariants as finish
use Rattle.pg_controllers.specs.Worlds.{World}
use Rattle.pg_controllers.specs.Worked.{shared_world_5, shared_world_6, shared_world_8, late_load_world, sharer_stores_world, load_before_world, load_behind_world, clean_evict_world, stale_evict_world, one_core_world, done_at, exclusive_world}
use Rattle.pg_serial.specs.Serial.{serial_of, accesses_of}
use Rattle.pg_serial.specs.Faithful.{Level, Ahead}
use Rattle.pg_refined.specs.Shown.{accesses, data_of, words_of, entry_of, stand_of, is_clean}
use Rattle.pg_refined.specs.Operations.{MadeOf}

-- the order of a world of n cores, with its accesses placed in it
abbrev pub history_of : ℕ → World → List Step
history_of n w = serial_of n (map entry_of w.order) (accesses w.done)

-- a load of a word that is passed on; a load that is late, before the store that ended it; and a store of a sharer
abbrev pub TwoCores : Type 0
TwoCores = (history_of 2 shared_world_8 ≡ step.Txn 0 event.Store ∷ step.Store 0 5 ∷ step.Txn 1 event.Load ∷ step.Load 1 5 ∷ [])
    × (history_of 2 late_load_world ≡ step.Txn 0 event.Load ∷ step.Load 0 0 ∷ step.Txn 1 event.Store ∷ step.Store 1 7 ∷ [])
    × (history_of 2 sharer_stores_world ≡ step.Txn 0 event.Load ∷ step.Load 0 0 ∷ step.Txn 1 event.Load ∷ step.Load 1 0 ∷ step.Txn 0 event.Store ∷ step.Store 0 7 ∷ [])

-- an owner's second store, behind a load or before it
abbrev pub ThreeCores : Type 0
ThreeCores = (history_of 3 load_before_world ≡ step.Txn 0 event.Store ∷ step.Store 0 1 ∷ step.Txn 1 event.Load ∷ step.Load 1 1
    ∷ step.Txn 2 event.Load ∷ step.Load 2 1 ∷ step.Txn 0 event.Store ∷ step.Store 0 2 ∷ [])
    × (history_of 3 load_behind_world ≡ step.Txn 0 event.Store ∷ step.Store 0 1 ∷ step.Txn 1 event.Load ∷ step.Load 1 1
    ∷ step.Txn 0 event.Store ∷ step.Store 0 2 ∷ step.Txn 2 event.Load ∷ step.Load 2 2 ∷ [])

-- evicts make no access, and one that is stale is no transaction
abbrev pub Evicts : Type 0
Evicts = (history_of 2 clean_evict_world ≡ step.Txn 0 event.Load ∷ step.Load 0 0 ∷ step.Txn 1 event.Load ∷ step.Load 1 0 ∷ step.Txn 0 event.Evict ∷ [])
    × (history_of 2 stale_evict_world ≡ step.Txn 0 event.Store ∷ step.Store 0 5 ∷ step.Txn 1 event.Store ∷ step.Store 1 6 ∷ step.Stale 0 ∷ [])
    × (history_of 1 one_core_world ≡ step.Txn 0 event.Store ∷ step.Store 0 9 ∷ step.Txn 0 event.Evict ∷ step.Txn 0 event.Load ∷ step.Load 0 9 ∷ [])
    × (accesses (done_at 1 0 finish.Evict ∷ []) ≡ [])
    × MadeOf 0 (op.Evict ∷ op.Store 9 ∷ op.Evict ∷ op.Load ∷ []) (accesses_of 0 (history_of 1 one_core_world))

-- where lines stand: level before data or a forward that was put off has come; the data and the words in flight; and a word that memory has too
abbrev pub Claims : Type 0
Claims = (stand_of (Ask event.Store 0 Ad Plain) ≡ Level 0) × (stand_of (Ask event.Store 0 Ad Gave) ≡ Ahead 0 false) × (stand_of (Ask event.Store 0 A Plain) ≡ Ahead 0 true)
    × (data_of shared_world_6.replies ≡ record { reply = reply.Reply 7; core = 1; word = 5; stamp = 2 } ∷ []) × (words_of shared_world_6.replies ≡ 5 ∷ [])
    × (is_clean msi shared_world_5 0 ≡ false) × (is_clean mesi exclusive_world 0 ≡ true)
