use Rattle.pg_turn.proofs.Moments.{one_holder, odd_while_held, home_while_even}
use Rattle.pg_turn.proofs.laws.in_order_at_any_moment.Goals as goal

pub returns-clause-one_holder : goal.returns-clause-one_holder
returns-clause-one_holder g c first seats s r = one_holder g.T.Kept.entries g.T.Kept.root g.T.Kept.maker first seats s r

pub returns-clause-odd : goal.returns-clause-odd
returns-clause-odd g c first seats s r = odd_while_held g.T.Kept.entries g.T.Kept.root g.T.Kept.maker first seats s r

pub returns-clause-even : goal.returns-clause-even
returns-clause-even g c first seats s r = home_while_even g.T.Kept.entries g.T.Kept.root g.T.Kept.maker first seats s r
