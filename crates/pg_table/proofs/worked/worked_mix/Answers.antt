use Rattle.std.proofs.Common.{refl}
use Rattle.pg_perm.specs.Drafts.{IsWellFormed}
use Rattle.pg_shape.specs.Shaped.{IsShaped}
use Rattle.pg_shape.proofs.Exact.{no_fault_is_shape}
use Rattle.pg_shape.proofs.ShapeGives.{shape_gives_all}
use Rattle.pg_samples.specs.Drafts.{msi}
use Rattle.pg_table.specs.Worked.{acks_at_loads, msi_mix}
use Rattle.pg_table.proofs.MixTest.{tested_mix}
use Rattle.pg_table.proofs.Mixed.{mixed_is_sound}
use Rattle.pg_table.proofs.worked.worked_mix.Goals as goal

msi_formed : IsWellFormed msi
msi_formed = record { names = refl; free = refl; numbers = refl; classes = refl; lines = refl; limits = refl }

msi_shaped : IsShaped msi
msi_shaped = shape_gives_all msi msi_formed (no_fault_is_shape msi msi_formed refl)

pub returns-clause-sound : goal.returns-clause-sound
returns-clause-sound c =
    mixed_is_sound msi (acks_at_loads msi) msi_mix msi_formed msi_shaped (tested_mix msi (acks_at_loads msi) msi_mix msi_formed refl)
