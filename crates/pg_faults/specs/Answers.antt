-- What a function answers, against what is to be answered: want of memory may come in its place.
use Rattle.std.specs.Prelude.{◌≡◌, Result, Ok, Err}
use Rattle.pg_faults.specs.declared.error.LineError.{LineError}
use Rattle.pg_faults.specs.declared.error.LineError.TheVariants.{Breaks, Memory}

abbrev pub Judges : {A F : Type 0} → Result A (LineError F) → Result A F → Type 0
Judges (Ok x) wanted = wanted ≡ Ok x
Judges (Err (Breaks f)) wanted = wanted ≡ Err f
Judges (Err Memory) wanted = Unit {0}
