use Rattle.std.proofs.Common.{refl}
use Rattle.pg_options.specs.declared.names.OptionName.TheVariants.{Mode, Seed, Cores, Blocks, Ops}
use Rattle.pg_options.proofs.parser.drill.Goals as goal

pub mode-requires : goal.mode-requires
mode-requires c = (_, c.requires.1 Mode refl)

pub number-requires : goal.number-requires
number-requires c = (_, c.requires.1 Seed refl)

pub number-requires-2 : goal.number-requires-2
number-requires-2 c = (_, c.requires.1 Cores refl)

pub number-requires-3 : goal.number-requires-3
number-requires-3 c = (_, c.requires.1 Blocks refl)

pub number-requires-4 : goal.number-requires-4
number-requires-4 c = (_, c.requires.1 Ops refl)
