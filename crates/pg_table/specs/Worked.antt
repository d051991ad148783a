-- A mixed table of MSI: the mode that it picks at each input, and its states.
use Rattle.std.specs.Prelude.{List, [], ◌∷◌, if◌then◌else◌}
use Rattle.pg_perm.specs.declared.kinds.FwdClass.TheVariants as class
use Rattle.pg_perm.specs.declared.kinds.Event.TheVariants.{Load, Store}
use Rattle.pg_perm.specs.declared.kinds.Mode.{Mode}
use Rattle.pg_perm.specs.declared.kinds.Mode.TheVariants as mode
use Rattle.pg_perm.specs.declared.draft.Draft.{Draft}
use Rattle.pg_terms.specs.Terms.{has_class}
use Rattle.pg_table.specs.declared.cache.Desc.{Desc}
use Rattle.pg_table.specs.declared.cache.Desc.TheVariants as desc
use Rattle.pg_table.specs.declared.cache.Phase.TheVariants as phase
use Rattle.pg_table.specs.declared.cache.Tag.TheVariants as tag
use Rattle.pg_table.specs.declared.cache.Input.{Input}
use Rattle.pg_table.specs.declared.cache.Input.TheVariants as at

-- a load acknowledges a later invalidation at once, and every other later forward waits
abbrev pub acks_at_loads : Draft → Desc → Input → Mode
acks_at_loads d (desc.Ask Load s phase.D tag) (at.Forward f) = if has_class class.Inv d f then mode.Defer else mode.Stall
acks_at_loads d _ _ = mode.Stall

-- its states in MSI: those of mode stall, and that of a load that has met a later invalidation
abbrev pub msi_mix : List Desc
msi_mix = desc.Stable 0 ∷ desc.Stable 1 ∷ desc.Stable 2 ∷ desc.Ask Load 0 phase.D tag.Plain ∷ desc.Ask Load 0 phase.D tag.Gone
    ∷ desc.Ask Store 0 phase.Ad tag.Plain ∷ desc.Ask Store 0 phase.A tag.Plain ∷ desc.Ask Store 1 phase.Ad tag.Plain ∷ desc.Ask Store 1 phase.A tag.Plain
    ∷ desc.Leave 1 ∷ desc.Leave 2 ∷ desc.Leave 0 ∷ []
