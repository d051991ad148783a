-- The words for inputs and acts.
use Rattle.std.specs.Prelude.{ℕ, Bool, true, false, List, [], ◌∷◌, ◌++◌, codes}
use Rattle.std.specs.Option.{option_map_or}
use Rattle.pg_perm.specs.declared.kinds.ReqClass.{ReqClass}
use Rattle.pg_perm.specs.declared.draft.Draft.{Draft}
use Rattle.pg_perm.specs.Words.{message_name, event_word, who_word, left_word}
use Rattle.pg_terms.specs.Terms.{request_of}
use Rattle.pg_table.specs.declared.cache.Input.{Input}
use Rattle.pg_table.specs.declared.cache.Input.TheVariants as at
use Rattle.pg_table.specs.declared.cache.Act.{Act}
use Rattle.pg_table.specs.declared.cache.Act.TheVariants as act
use Rattle.pg_table.specs.declared.directory.DirInput.{DirInput}
use Rattle.pg_table.specs.declared.directory.DirInput.TheVariants as met
use Rattle.pg_table.specs.declared.directory.DirAct.{DirAct}
use Rattle.pg_table.specs.declared.directory.DirAct.TheVariants as does

-- Cache controllers

abbrev pub input_word : Draft → Input → List ℕ
input_word d (at.Core event) = event_word event
input_word d (at.Forward f) = message_name d f
input_word d at.CountAll = codes "AckCount.all"
input_word d at.CountPart = codes "AckCount.part"
input_word d at.PutAck = codes "PutAck"
input_word d (at.DataAll r) = message_name d r ++ codes ".all"
input_word d (at.DataPart r) = message_name d r ++ codes ".part"
input_word d at.AckMore = codes "InvAck.more"
input_word d at.AckLast = codes "InvAck.last"

-- one is an operation of the core, and the other a forward
abbrev pub is_operation_and_forward : Input → Input → Bool
is_operation_and_forward (at.Core event) (at.Forward f) = true
is_operation_and_forward (at.Forward f) (at.Core event) = true
is_operation_and_forward _ _ = false

abbrev pub act_words : Draft → Act → List (List ℕ)
act_words d act.Hit = codes "hit" ∷ []
act_words d act.Skip = codes "skip" ∷ []
act_words d (act.Send m) = codes "send" ∷ message_name d m ∷ []
act_words d act.Ack = codes "ack" ∷ []
act_words d (act.Give m) = codes "give" ∷ message_name d m ∷ []
act_words d act.Wb = codes "wb" ∷ []
act_words d act.Fill = codes "fill" ∷ []
act_words d act.Need = codes "need" ∷ []
act_words d act.Count = codes "count" ∷ []
act_words d act.Done = codes "done" ∷ []
act_words d act.Defer = codes "defer" ∷ []
act_words d act.Serve = codes "serve" ∷ []
act_words d act.Stall = codes "stall" ∷ []

-- The directory controller

-- the name of the first request of a class
abbrev pub request_name : Draft → ReqClass → List ℕ
request_name d class = option_map_or (message_name d) (request_of d class) []

abbrev pub dir_input_word : Draft → DirInput → List ℕ
dir_input_word d (met.Ask class who) = request_name d class ++ codes "." ++ who_word who
dir_input_word d (met.Evict who left) = codes "evict." ++ who_word who ++ codes "." ++ left_word left
dir_input_word d met.EvictNone = codes "evict.none"
dir_input_word d (met.BusyAsk class) = request_name d class
dir_input_word d met.BusyEvict = codes "evict"
dir_input_word d met.Wb = codes "WbData"

abbrev pub dir_act_words : Draft → DirAct → List (List ℕ)
dir_act_words d (does.Reply m) = codes "reply" ∷ message_name d m ∷ []
dir_act_words d (does.Forward m) = codes "forward" ∷ message_name d m ∷ []
dir_act_words d does.Inv = codes "inv" ∷ []
dir_act_words d does.AckCount = codes "ackcount" ∷ []
dir_act_words d does.Write = codes "write" ∷ []
dir_act_words d does.PutAck = codes "putack" ∷ []
dir_act_words d does.Stall = codes "stall" ∷ []
