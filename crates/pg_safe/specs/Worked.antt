-- What small worlds have under way and left, worked out by hand.
use Rattle.std.specs.Prelude.{◌≡◌, true, false, List, [], ◌∷◌, map}
use Rattle.pg_perm.specs.declared.kinds.Mode.TheVariants as mode
use Rattle.pg_perm.specs.declared.kinds.Op.{Op}
use Rattle.pg_perm.specs.declared.kinds.Op.TheVariants as op
use Rattle.pg_samples.specs.Drafts.{msi}
use Rattle.pg_messages.specs.declared.messages.WorldEvent.TheVariants.{Issue, Request as Request_of, Ordered as Ordered_to, Reply as Reply_at}
use Rattle.pg_controllers.specs.Worlds.{World}
use Rattle.pg_controllers.specs.Worked.{world_after, store_and_load, shared_world_0, shared_world_1, shared_world_2, shared_world_3, shared_world_4, shared_world_5, shared_world_6, shared_world_7, shared_world_8}
use Rattle.pg_safe.specs.Moving.{is_settled, is_finished}
use Rattle.pg_safe.specs.Invs.{invs_at, open_shares}
use Rattle.pg_safe.specs.Work.{work}

-- core 0 stores and core 1 loads: the opening, and the world after each event
abbrev pub shared_worlds : List World
shared_worlds = shared_world_0 ∷ shared_world_1 ∷ shared_world_2 ∷ shared_world_3 ∷ shared_world_4 ∷ shared_world_5 ∷ shared_world_6 ∷ shared_world_7 ∷ shared_world_8 ∷ []

-- the work falls to none; the share is under way from its request until its word is in memory; and only the first and the last are settled
abbrev pub Events : Type 0
Events = (map (work msi 2) shared_worlds ≡ 12 ∷ 11 ∷ 10 ∷ 6 ∷ 4 ∷ 3 ∷ 2 ∷ 1 ∷ 0 ∷ [])
    × (map (open_shares msi) shared_worlds ≡ 0 ∷ 0 ∷ 0 ∷ 0 ∷ 1 ∷ 1 ∷ 1 ∷ 1 ∷ 0 ∷ [])
    × (map is_settled shared_worlds ≡ true ∷ false ∷ false ∷ false ∷ false ∷ false ∷ false ∷ false ∷ true ∷ [])
    × (map is_finished shared_worlds ≡ false ∷ false ∷ false ∷ false ∷ false ∷ false ∷ false ∷ false ∷ true ∷ [])

-- where forwards are put off, that share is put off too, and weighs one less
abbrev pub share_put_off_world : World
share_put_off_world = world_after msi mode.Defer store_and_load (Issue 0 ∷ Issue 1 ∷ Request_of 0 ∷ Request_of 1 ∷ Ordered_to 0 ∷ [])

abbrev pub PutOffShare : Type 0
PutOffShare = (open_shares msi share_put_off_world ≡ 1) × (work msi 2 share_put_off_world ≡ 3)

-- a sharer's store has one invalidation in flight, until the other sharer meets it
abbrev pub sharers_store : List (List Op)
sharers_store = (op.Load ∷ op.Store 7 ∷ []) ∷ (op.Load ∷ []) ∷ []

abbrev pub asked_world : World
asked_world = world_after msi mode.Stall sharers_store (Issue 0 ∷ Request_of 0 ∷ Reply_at 0 ∷ Issue 1 ∷ Request_of 1 ∷ Reply_at 0 ∷ Issue 0 ∷ Request_of 0 ∷ [])

abbrev pub acknowledged_world : World
acknowledged_world = world_after msi mode.Stall sharers_store (Issue 0 ∷ Request_of 0 ∷ Reply_at 0 ∷ Issue 1 ∷ Request_of 1 ∷ Reply_at 0 ∷ Issue 0 ∷ Request_of 0 ∷ Ordered_to 1 ∷ [])

abbrev pub Invalidations : Type 0
Invalidations = (invs_at msi 3 asked_world ≡ 1) × (invs_at msi 2 asked_world ≡ 0) × (invs_at msi 3 acknowledged_world ≡ 0)
