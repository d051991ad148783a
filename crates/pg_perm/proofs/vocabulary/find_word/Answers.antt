use Rattle.pg_perm.proofs.ReadBack.{word_again, word_found}
use Rattle.pg_perm.proofs.vocabulary.find_word.Goals as goal

pub returns-clause-again : goal.returns-clause-again
returns-clause-again g c v e =
    rw (c.find_among.ensures, c.all.ensures, e) (word_again g.V.Vocabulary.word g.V.Vocabulary.all g.met.V.Vocabulary.apart v (g.met.V.Vocabulary.listed v))

pub returns-clause-alone : goal.returns-clause-alone
returns-clause-alone g c v e = word_found g.V.Vocabulary.word c.all.result.now c.args.word.now v (rw c.find_among.ensures at e)
