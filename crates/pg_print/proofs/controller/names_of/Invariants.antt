use Rattle.std.proofs.Common.{◌≡◌, map, take}
use Rattle.std.specs.String.{string_bytes}
use Rattle.pg_print.specs.TableText as print
use Rattle.pg_print.proofs.controller.names_of.Given as goal

abbrev pub invariant-loop-state : goal.invariant-loop-state
invariant-loop-state g l = map string_bytes l.names.items ≡ print.names_of g.D.State.wording l.draft (take l.state l.table)
