use Rattle.std.proofs.Common.{◌≡◌, ◌++◌, take}
use Rattle.std.specs.Prelude.{map}
use Rattle.pg_perm.specs.Classes.{is_forward}
use Rattle.pg_table.specs.declared.cache.Input.TheVariants.{Forward}
use Rattle.pg_table.specs.GeneratedStates.{messages_from}
use Rattle.pg_infer.proofs.inputs.put_forwards.Given as goal

abbrev pub invariant-loop-number : goal.invariant-loop-number
invariant-loop-number l = l.inputs.items ≡ l.initial.inputs.items ++ map (λ f. Forward f) (messages_from is_forward 0 (take l.number l.messages))
