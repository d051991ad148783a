use Rattle.pg_table.proofs.Ends.{load_hit, store_hit}
use Rattle.pg_table.proofs.end_laws.hits_follow_core_lines.Goals as goal

pub returns-clause-load : goal.returns-clause-load
returns-clause-load c = load_hit

pub returns-clause-store : goal.returns-clause-store
returns-clause-store c = store_hit
