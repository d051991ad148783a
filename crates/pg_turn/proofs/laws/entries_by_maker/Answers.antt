use Rattle.pg_turn.proofs.Added.{begins_taken, taken_begins, named_all, all_named}
use Rattle.pg_turn.proofs.laws.entries_by_maker.Goals as goal

pub returns-clause-begins : goal.returns-clause-begins
returns-clause-begins g c log seen = (begins_taken log seen, taken_begins log seen)

pub returns-clause-named : goal.returns-clause-named
returns-clause-named g c n es = (named_all g.T.Kept.maker n es, all_named g.T.Kept.maker n es)
