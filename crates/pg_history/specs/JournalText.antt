-- The text of a block's journal: one line with a word for each event.
use Rattle.std.specs.Prelude.{ℕ, List, [], ◌∷◌, ◌++◌, codes}
use Rattle.std.specs.Fmt.{decimal}
use Rattle.pg_messages.specs.declared.messages.WorldEvent.{WorldEvent}
use Rattle.pg_messages.specs.declared.messages.WorldEvent.TheVariants as event

-- a space, and then the letter of an event and its number: a core, or the place of a reply
abbrev pub event_text : WorldEvent → List ℕ
event_text (event.Issue k) = codes " I" ++ decimal k
event_text (event.Request k) = codes " Q" ++ decimal k
event_text (event.Ordered k) = codes " O" ++ decimal k
event_text (event.Reply k) = codes " R" ++ decimal k

-- the words of a journal's events, in order
abbrev pub event_texts : List (ℕ × WorldEvent) → List ℕ
event_texts [] = []
event_texts (x ∷ xs) = event_text x.1 ++ event_texts xs

-- the head of the line, which names the block
abbrev pub journal_head : ℕ → List ℕ
journal_head block = codes "journal " ++ decimal block

-- the line of a block's journal
abbrev pub journal_text : ℕ → List (ℕ × WorldEvent) → List ℕ
journal_text block journal = journal_head block ++ event_texts journal ++ codes "\n"
