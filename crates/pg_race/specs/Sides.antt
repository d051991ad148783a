-- On which side of the outstanding transaction of a cache that of a forward stands which the cache meets.
use Rattle.std.specs.Prelude.{◌≡◌, Bool, true, false}
use Rattle.pg_perm.specs.declared.kinds.Role.{Role}
use Rattle.pg_perm.specs.declared.kinds.Role.TheVariants as role
use Rattle.pg_perm.specs.declared.kinds.Event.{Event}
use Rattle.pg_perm.specs.declared.kinds.Event.TheVariants.{Load, Store, Evict}
use Rattle.pg_perm.specs.declared.kinds.FwdClass.{FwdClass}
use Rattle.pg_perm.specs.declared.kinds.FwdClass.TheVariants.{Inv, Share, Keep, Drop}
use Rattle.pg_perm.specs.declared.kinds.Side.{Side}
use Rattle.pg_perm.specs.declared.kinds.Side.TheVariants.{Before, After}

-- a store that began as a sharer: the invalidation of another's store comes before, and what goes to an owner after
abbrev pub side_of_sharer : FwdClass → Side
side_of_sharer Inv = Before
side_of_sharer Share = After
side_of_sharer Keep = After
side_of_sharer Drop = After

-- who holds nothing is sent a forward only once the directory has handled its request, and an owner only before
abbrev pub side_of_start : Role → FwdClass → Side
side_of_start role.Out class = After
side_of_start role.Shared class = side_of_sharer class
side_of_start role.Owner class = Before

-- by the state in which the operation began, by the operation, by whether data or a count was taken for it or a later forward, and by the
-- forward's class
abbrev pub side : Role → Event → Bool → FwdClass → Side
side start event true class = After
side start Load false class = side_of_start start class
side start Store false class = side_of_start start class
side start Evict false class = Before

-- an operation may be outstanding so: a store, a load that began as out, or an evict, which is granted nothing
abbrev pub IsOutstanding : Role → Event → Bool → Type 0
IsOutstanding start Load granted = start ≡ role.Out
IsOutstanding start Store granted = Unit {0}
IsOutstanding start Evict granted = granted ≡ false
