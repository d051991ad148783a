use Rattle.std.proofs.Common.{◌≡◌, map, ◌++◌, take}
use Rattle.pg_perm.specs.Words as word
use Rattle.pg_text.proofs.spelled.put_states.Given as goal

abbrev pub invariant-loop-state : goal.invariant-loop-state
invariant-loop-state l = map (λ w. w.now) l.words.items
    ≡ map (λ w. w.now) l.initial.words.items ++ map (word.cache_name l.draft) (take l.state-index l.states)
