use Rattle.pg_infer.proofs.stable.when_leaving.Goals as goal

pub returns-in-Forward : goal.returns-in-Forward
returns-in-Forward c = rw c.in-Forward.is c.answer_choice.ensures
