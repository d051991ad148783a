use Rattle.std.proofs.Common.{◌≡◌, map, ◌++◌, take}
use Rattle.std.specs.String.{string_bytes}
use Rattle.std.specs.List.{flat_map}
use Rattle.pg_lines.specs.Lines.{text_of}
use Rattle.pg_print.specs.TableText as print
use Rattle.pg_print.proofs.controller.put_states.Given as goal

-- the lines of the states so far are written
abbrev pub invariant-loop-state : goal.invariant-loop-state
invariant-loop-state g l = string_bytes l.text
    ≡ string_bytes l.initial.text ++ text_of (flat_map (print.state_lines g.D.State.wording l.draft (map string_bytes l.names)) (take l.state l.table))
