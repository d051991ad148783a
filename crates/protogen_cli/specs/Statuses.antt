-- How a call ends.
use Rattle.std.specs.Prelude.{ℕ}
use Rattle.protogen_cli.specs.declared.status.Status.{Status}
use Rattle.protogen_cli.specs.declared.status.Status.TheVariants.{Done, Text, Usage, ReadFault, WriteFault, Memory, TooLong, Script}

-- the exit status
abbrev pub exit_code : Status → ℕ
exit_code Done = 0
exit_code (Text fault) = 1
exit_code Usage = 2
exit_code ReadFault = 3
exit_code WriteFault = 4
exit_code Memory = 5
exit_code TooLong = 6
exit_code (Script fault) = 7

-- a reply can have this status
abbrev pub IsReplied : Status → Type 0
IsReplied Done = Unit {0}
IsReplied (Text fault) = Unit {0}
IsReplied Usage = Unit {0}
IsReplied ReadFault = ⊥
IsReplied WriteFault = ⊥
IsReplied Memory = ⊥
IsReplied TooLong = Unit {0}
IsReplied (Script fault) = Unit {0}

-- the status is one that an input has which was read to its end
abbrev pub IsOfText : Status → Type 0
IsOfText Done = Unit {0}
IsOfText (Text fault) = Unit {0}
IsOfText Usage = ⊥
IsOfText ReadFault = ⊥
IsOfText WriteFault = ⊥
IsOfText Memory = ⊥
IsOfText TooLong = ⊥
IsOfText (Script fault) = Unit {0}
