use Rattle.pg_forms.proofs.Firsts.{pairs_go_on}
use Rattle.pg_forms.proofs.pairs.NamePairs.first.Goals as goal

pub invariant_of-result : goal.invariant_of-result
invariant_of-result c =
    pairs_go_on c.self.inside.words c.in_ok-reply.rest c.in-Some.rest c.in_ok-reply.reply.now c.in-Some.fin.now c.in_ok-reply.ensures c.in-Some.ensures
    c.self.invariant
