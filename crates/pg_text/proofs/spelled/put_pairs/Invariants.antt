use Rattle.std.proofs.Common.{◌≡◌, map, ◌++◌, length}
use Rattle.pg_forms.specs.Pairs.{words_in}
use Rattle.pg_text.specs.Printing as text
use Rattle.pg_text.proofs.spelled.put_pairs.Given as goal

abbrev pub invariant-loop-pair : goal.invariant-loop-pair
invariant-loop-pair l = map (λ w. w.now) l.words.items ++ words_in (map (text.pair_words l.draft) l.left)
    ≡ map (λ w. w.now) l.initial.words.items ++ words_in (map (text.pair_words l.draft) l.pairs)

abbrev pub decreases-loop-pair : goal.decreases-loop-pair
decreases-loop-pair l = length l.left
