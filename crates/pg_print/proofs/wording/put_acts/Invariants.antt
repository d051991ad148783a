use Rattle.std.proofs.Common.{◌≡◌, map, ◌++◌, length}
use Rattle.std.specs.List.{flat_map}
use Rattle.pg_print.proofs.wording.put_acts.Given as goal

-- what is written so far, and what is left, is all
abbrev pub invariant-loop-act : goal.invariant-loop-act
invariant-loop-act g l = map (λ w. w.now) l.words.items ++ flat_map (g.D.State.wording.act l.draft) l.left
    ≡ map (λ w. w.now) l.initial.words.items ++ flat_map (g.D.State.wording.act l.draft) l.acts

abbrev pub decreases-loop-act : goal.decreases-loop-act
decreases-loop-act g l = length l.left
