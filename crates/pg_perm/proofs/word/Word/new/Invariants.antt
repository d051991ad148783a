use Rattle.std.proofs.Common.{◌≡◌, take}
use Rattle.pg_perm.proofs.word.Word.new.Given as goal

-- the bytes so far are in the word
abbrev pub invariant-loop-byte : goal.invariant-loop-byte
invariant-loop-byte l = l.word.items ≡ take l.byte-index l.bytes
