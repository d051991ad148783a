use Rattle.std.proofs.Common.{◌≡◌, [], ◌∷◌, ◌++◌, take}
use Rattle.std.specs.List.{flat_map}
use Rattle.pg_perm.specs.Classes.{is_reply}
use Rattle.pg_table.specs.declared.cache.Input.TheVariants.{DataAll, DataPart}
use Rattle.pg_table.specs.GeneratedStates.{messages_from}
use Rattle.pg_infer.proofs.inputs.put_replies.Given as goal

abbrev pub invariant-loop-number : goal.invariant-loop-number
invariant-loop-number l = l.inputs.items ≡ l.initial.inputs.items ++ flat_map (λ r. DataAll r ∷ DataPart r ∷ []) (messages_from is_reply 0 (take l.number l.messages))
