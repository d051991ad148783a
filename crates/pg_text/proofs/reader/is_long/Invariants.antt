use Rattle.std.proofs.Common.{◌≡◌, ◌+◌, length}
use Rattle.pg_text.proofs.reader.is_long.Given as goal

-- a word was passed each time
abbrev pub invariant-loop : goal.invariant-loop
invariant-loop l = length l.left + l.counter ≡ length l.words
