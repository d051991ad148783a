-- What `shape` answers, against the first fault.
use Rattle.std.specs.Prelude.{◌≡◌, Option, Some, None, Result, Ok, Err}
use Rattle.pg_perm.specs.declared.fault.Fault.{Fault}
use Rattle.pg_shape.specs.declared.error.ShapeError.{ShapeError}
use Rattle.pg_shape.specs.declared.error.ShapeError.TheVariants as error

abbrev pub Judges : {A : Type 0} → Result A ShapeError → Option Fault → Type 0
Judges (Ok x) fault = fault ≡ None
Judges (Err (error.Fault f)) fault = fault ≡ Some f
