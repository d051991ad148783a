-- What is said of small worlds, worked out by hand.
use Rattle.std.specs.Prelude.{ℕ, zero, suc, ◌≡◌, true, false, [], ◌∷◌, Some, None}
use Rattle.pg_samples.specs.Drafts.{msi, mosi}
use Rattle.pg_table.specs.declared.cache.Tag.TheVariants.{Plain, Gave, Gone}
use Rattle.pg_messages.specs.declared.messages.Ordered.TheVariants.{Forward}
use Rattle.pg_order.specs.Messages.{sent_between}
use Rattle.pg_order.specs.Orders.{entry_message}
use Rattle.pg_controllers.specs.Worlds.{core, order_of}
use Rattle.pg_controllers.specs.Worked.{shared_world_4, shared_world_6}
use Rattle.pg_orderly.specs.Orderly.{Mark, view_of, tag_from, is_deferred, is_data_due, IsBusy}

-- the tag once forwards have come: of MSI a share or an invalidation, and nothing after a share; of MOSI one that keeps the owner, and then a drop
abbrev pub Tags : Type 0
Tags = (tag_from msi Plain (Forward 5 1 0 2 ∷ []) ≡ Some Gave) × (tag_from msi Plain (Forward 4 1 0 2 ∷ []) ≡ Some Gone)
    × (tag_from msi Plain (Forward 5 1 0 2 ∷ Forward 4 1 0 3 ∷ []) ≡ None) × (tag_from mosi Plain (Forward 6 1 0 2 ∷ Forward 7 2 0 3 ∷ []) ≡ Some Gone)
    × (is_deferred msi (Forward 5 1 0 2) ≡ true) × (is_deferred msi (Forward 4 1 0 2) ≡ false)

-- neither core has taken anything of the order; and core 0 has taken all
abbrev pub marks_before : ℕ → Mark
marks_before c = record { seen = 0; last = suc c }

abbrev pub marks_behind : ℕ → Mark
marks_behind zero = record { seen = 2; last = 1 }
marks_behind (suc c) = record { seen = 0; last = suc (suc c) }

-- data is due to core 1 once core 0 has served its load; what the order sends core 0 stands in its queue
abbrev pub DataDue : Type 0
DataDue = (is_data_due msi (order_of msi shared_world_4) (view_of shared_world_4 marks_before) (core shared_world_4 0) 1 ≡ true)
    × (is_data_due msi (order_of msi shared_world_4) (view_of shared_world_4 marks_before) (core shared_world_4 1) 2 ≡ false)
    × (is_data_due msi (order_of msi shared_world_6) (view_of shared_world_6 marks_behind) (core shared_world_6 1) 2 ≡ true)
    × ((core shared_world_4 0).queue ≡ sent_between (entry_message msi (order_of msi shared_world_4) 0) 0 2)

-- the directory is busy while core 0 hasn't served the load, and while the word is on its way to memory
abbrev pub BusyDirectory : Type 0
BusyDirectory = IsBusy msi (order_of msi shared_world_4) (view_of shared_world_4 marks_before) 0 true × IsBusy msi (order_of msi shared_world_6) (view_of shared_world_6 marks_behind) 1 true
