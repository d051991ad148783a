use Rattle.std.proofs.Common.{◌≡◌, ◌++◌, length}
use Rattle.pg_history.specs.JournalText.{event_texts, journal_head}
use Rattle.pg_history.proofs.journal.write_journal.Given as goal

-- what was written so far, and then the words of the events left, are the head and the words of all after what there was
abbrev pub invariant-loop-entry : goal.invariant-loop-entry
invariant-loop-entry l = l.buffer.items ++ event_texts l.left ≡ l.fn.buffer.items ++ (journal_head l.fn.block ++ event_texts l.fn.journal)

abbrev pub decreases-loop-entry : goal.decreases-loop-entry
decreases-loop-entry l = length l.left
