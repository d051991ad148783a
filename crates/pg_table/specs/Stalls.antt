-- Where a controller lets a message wait.
use Rattle.std.specs.Prelude.{Bool, true, false, not, ◌&&◌}
use Rattle.pg_perm.specs.declared.kinds.Event.TheVariants.{Load, Store}
use Rattle.pg_perm.specs.declared.kinds.ReqClass.TheVariants.{Read, Write}
use Rattle.pg_perm.specs.declared.draft.Draft.{Draft}
use Rattle.pg_table.specs.declared.cache.Desc.{Desc}
use Rattle.pg_table.specs.declared.cache.Desc.TheVariants.{Ask}
use Rattle.pg_table.specs.declared.cache.Phase.TheVariants.{D, Ad, A}
use Rattle.pg_table.specs.declared.cache.Input.{Input}
use Rattle.pg_table.specs.declared.cache.Input.TheVariants as at
use Rattle.pg_table.specs.declared.cache.Act.{Act}
use Rattle.pg_table.specs.declared.cache.Act.TheVariants as act
use Rattle.pg_table.specs.declared.directory.DirDesc.{DirDesc}
use Rattle.pg_table.specs.declared.directory.DirDesc.TheVariants as dir
use Rattle.pg_table.specs.declared.directory.DirInput.{DirInput}
use Rattle.pg_table.specs.declared.directory.DirInput.TheVariants as met
use Rattle.pg_table.specs.declared.directory.DirAct.{DirAct}
use Rattle.pg_table.specs.declared.directory.DirAct.TheVariants as does
use Rattle.pg_table.specs.Choices.{is_later, is_earlier}

-- Caches

-- a forward is later than the operation that is outstanding: a load waits for data, or a store for data or acknowledgements, and the forward isn't
-- an earlier one
abbrev pub is_later_at : Draft → Desc → Input → Bool
is_later_at d (Ask Load s D tag) (at.Forward f) = is_later d s Load tag f
is_later_at d (Ask Store s Ad tag) (at.Forward f) = not (is_earlier d s tag f) && is_later d s Store tag f
is_later_at d (Ask Store s A tag) (at.Forward f) = is_later d s Store tag f
is_later_at d _ _ = false

-- a cache lets its message wait
abbrev pub is_stall : Act → Bool
is_stall act.Stall = true
is_stall _ = false

-- The directory

-- a request comes while the directory waits for data
abbrev pub is_asked_busy : DirDesc → DirInput → Bool
is_asked_busy (dir.Busy n) (met.BusyAsk Read) = true
is_asked_busy (dir.Busy n) (met.BusyAsk Write) = true
is_asked_busy (dir.Busy n) met.BusyEvict = true
is_asked_busy _ _ = false

-- the directory lets its message wait
abbrev pub is_dir_stall : DirAct → Bool
is_dir_stall does.Stall = true
is_dir_stall _ = false
