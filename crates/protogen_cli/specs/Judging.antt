-- What judging an input does to the source.
use Rattle.std.specs.Prelude.{◌≡◌, ℕ, ◌<◌, Result, Ok, Err}
use Rattle.protogen_cli.specs.declared.judge.NoReport.{NoReport}
use Rattle.protogen_cli.specs.declared.judge.NoReport.TheVariants.{Fault, Memory}
use Rattle.protogen_cli.specs.Replies.{Reply}

-- the faults rose where there is no reply for a fault, and else stand
abbrev pub RisesAtFault : Result Reply NoReport → ℕ → ℕ → Type 0
RisesAtFault (Err Fault) before after = before < after
RisesAtFault (Err Memory) before after = after ≡ before
RisesAtFault (Ok reply) before after = after ≡ before
