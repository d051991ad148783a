-- The draft that is drafted.
use Rattle.std.specs.Prelude.{◌≡◌, Result, Ok, Err}
use Rattle.pg_perm.specs.declared.draft.Draft.{Draft}
use Rattle.pg_perm.specs.declared.fault.Rule.{Rule}
use Rattle.pg_faults.specs.declared.error.LineError.{LineError}
use Rattle.pg_faults.specs.declared.error.LineError.TheVariants.{Breaks, Memory}
use Rattle.pg_drafting.specs.declared.drafting.Drafting.{Drafting}

-- the draft of the lines so far
abbrev pub draft_of : Drafting → Draft
draft_of d = record {
  line = d.line;
  name = d.name;
  caches = d.caches;
  dirs = d.dirs;
  messages = d.messages;
  cores = d.cores;
  takes = d.takes;
  rows = d.rows;
}

-- the draft that a line is to give is the new one, or the first rule that the line breaks; want of
-- memory may come in its place
abbrev pub Drafts : {A : Type 0} → Drafting → Result A (LineError Rule) → Result Draft Rule → Type 0
Drafts new (Ok x) wanted = wanted ≡ Ok (draft_of new)
Drafts new (Err (Breaks R)) wanted = wanted ≡ Err R
Drafts new (Err Memory) wanted = Unit {0}
