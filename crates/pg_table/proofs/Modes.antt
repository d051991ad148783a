-- The states that a cache controller has where forwards wait are among those of each mode, and those of each mode among those where all are put off.
use Rattle.std.proofs.Common.{◌≡◌, true, sym, subst}
use Rattle.pg_perm.specs.declared.kinds.Event.TheVariants.{Load, Store}
use Rattle.pg_perm.specs.declared.kinds.Mode.{Mode}
use Rattle.pg_perm.specs.declared.kinds.Mode.TheVariants as mode
use Rattle.pg_perm.specs.declared.draft.Draft.{Draft}
use Rattle.pg_perm.specs.Drafts.{IsWellFormed}
use Rattle.pg_shape.specs.Shaped.{IsShaped}
use Rattle.pg_table.specs.declared.cache.Desc.{Desc}
use Rattle.pg_table.specs.declared.cache.Desc.TheVariants.{Stable, Ask, Leave}
use Rattle.pg_table.specs.declared.cache.Phase.TheVariants.{D, Ad, Ac, A}
use Rattle.pg_table.specs.Descriptors.{descs}
use Rattle.pg_table.specs.Sound.{is_among}
use Rattle.pg_table.proofs.Members.{HasTag, IsState, is_state, is_listed}
use Rattle.pg_table.proofs.Starts.{store_plain, load_plain}

-- a state where all forwards wait is one in each mode
in_each_mode : (d : Draft) (m : Mode) (s : Desc) → IsWellFormed d → IsShaped d → IsState d mode.Stall s → IsState d m s
in_each_mode d m (Stable s) w sh h = h
in_each_mode d m (Ask Load s D tag) w sh h = (h.0, subst (HasTag d m s Load) (sym h.1) (load_plain d m s w sh h.0))
in_each_mode d m (Ask Store s Ad tag) w sh h = (h.0, h.1, subst (HasTag d m s Store) (sym h.2) (store_plain d m s w sh h.0))
in_each_mode d m (Ask Store s Ac tag) w sh h = h
in_each_mode d m (Ask Store s A tag) w sh h = (h.0, h.1, subst (HasTag d m s Store) (sym h.2) (store_plain d m s w sh h.0))
in_each_mode d m (Leave s) w sh h = h
in_each_mode d m _ w sh h = absurd h

-- so those of where all wait are among those of each mode
pub stall_among : (d : Draft) (m : Mode) (s : Desc) → IsWellFormed d → IsShaped d → is_among (descs d mode.Stall) s ≡ true → is_among (descs d m) s ≡ true
stall_among d m s w sh h = is_listed d m s sh.perms (in_each_mode d m s w sh (is_state d mode.Stall s sh.perms h))

-- and those of each mode among those of where all are put off
pub among_defer : (d : Draft) (m : Mode) (s : Desc) → IsWellFormed d → IsShaped d → is_among (descs d m) s ≡ true → is_among (descs d mode.Defer) s ≡ true
among_defer d mode.Stall s w sh h = stall_among d mode.Defer s w sh h
among_defer d mode.Defer s w sh h = h
