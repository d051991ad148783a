use Rattle.pg_options.proofs.Spells.{spelled, read_as, read_alike}
use Rattle.pg_options.proofs.laws.options_are_spelled.Goals as goal

pub returns-clause-read : goal.returns-clause-read
returns-clause-read c gs words = (spelled gs words, read_as gs words)

pub returns-clause-alike : goal.returns-clause-alike
returns-clause-alike c name gs words others a b = read_alike name gs words others a b
