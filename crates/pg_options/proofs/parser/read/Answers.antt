use Rattle.std.proofs.Common.{refl}
use Rattle.pg_options.specs.declared.names.OptionName.TheVariants.{Mode, Seed}
use Rattle.pg_options.proofs.parser.read.Goals as goal

pub mode-requires : goal.mode-requires
mode-requires c = (_, c.requires.1 Mode (rw c.in-Compile.is refl))

pub number-seed-requires : goal.number-seed-requires
number-seed-requires c = (_, c.requires.1 Seed (rw c.in-Run.is refl))

pub mode-requires-in-Run : goal.mode-requires-in-Run
mode-requires-in-Run c = (_, c.requires.1 Mode (rw c.in-Run.is refl))
