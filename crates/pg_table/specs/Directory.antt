-- The states and the rows of the generated directory controller.
use Rattle.std.specs.Prelude.{ℕ, ◌==◌, ◌&&◌, ◌||◌, Bool, List, [], ◌∷◌, ◌++◌, map, filter, length, Option, Some, None, if◌then◌else◌}
use Rattle.std.specs.List.{list_any, range_with_len}
use Rattle.std.specs.Option.{option_and_then}
use Rattle.pg_perm.specs.declared.kinds.DirKind.TheVariants as kind
use Rattle.pg_perm.specs.declared.kinds.Who.{Who}
use Rattle.pg_perm.specs.declared.kinds.Who.TheVariants.{Other, Sharer, Owner}
use Rattle.pg_perm.specs.declared.kinds.Left.TheVariants.{Last, More}
use Rattle.pg_perm.specs.declared.kinds.ReqClass.{ReqClass}
use Rattle.pg_perm.specs.declared.kinds.ReqClass.TheVariants.{Read, Write}
use Rattle.pg_perm.specs.declared.draft.Draft.{Draft}
use Rattle.pg_perm.specs.declared.draft.RowLine.{RowLine}
use Rattle.pg_perm.specs.declared.draft.Action.{Action}
use Rattle.pg_perm.specs.declared.draft.Action.TheVariants as action
use Rattle.pg_terms.specs.declared.cases.DirCase.{DirCase}
use Rattle.pg_terms.specs.declared.cases.DirCase.TheVariants as case
use Rattle.pg_terms.specs.Terms.{dir_row}
use Rattle.pg_terms.specs.Due.{kind_is, is_due_case}
use Rattle.pg_terms.specs.Rows.{action_in, is_by_share}
use Rattle.pg_table.specs.declared.directory.DirDesc.{DirDesc}
use Rattle.pg_table.specs.declared.directory.DirDesc.TheVariants.{State, Busy}
use Rattle.pg_table.specs.declared.directory.DirInput.{DirInput}
use Rattle.pg_table.specs.declared.directory.DirInput.TheVariants as at
use Rattle.pg_table.specs.declared.directory.DirAct.{DirAct}
use Rattle.pg_table.specs.declared.directory.DirAct.TheVariants as act
use Rattle.pg_table.specs.Controllers.{ControllerChoice, GeneratedRow, GeneratedState, rows_by, state_by}

-- a row that passes a request on by a share leads to this state
abbrev pub is_after_share : Draft → ℕ → Bool
is_after_share d n = list_any (λ r. is_by_share d r && r.next == n) d.rows

-- the states of the directory controller: those that are declared, and one that waits for data before each that a share leads to
abbrev pub dir_descs : Draft → List DirDesc
dir_descs d = map (λ n. State n) (range_with_len 0 (length d.dirs)) ++ map (λ n. Busy n) (filter (is_after_share d) (range_with_len 0 (length d.dirs)))

-- the inputs of the directory controller, in their order
abbrev pub dir_inputs : List DirInput
dir_inputs = at.Ask Read Other ∷ at.Ask Write Other ∷ at.Ask Write Sharer ∷ at.Ask Write Owner
    ∷ at.Evict Owner Last ∷ at.Evict Owner More ∷ at.Evict Sharer Last ∷ at.Evict Sharer More ∷ at.EvictNone
    ∷ at.BusyAsk Read ∷ at.BusyAsk Write ∷ at.BusyEvict ∷ at.Wb ∷ []

-- the acts that are done at an input, and the state that they lead to
abbrev pub DirChoice : Type 0
DirChoice = ControllerChoice DirDesc DirAct

abbrev pub act_of_action : Action → DirAct
act_of_action (action.Reply m) = act.Reply m
act_of_action (action.Forward f) = act.Forward f
act_of_action action.Count = act.AckCount

-- where there may be sharers, a write sends them invalidations first
abbrev pub inv_acts : Draft → ℕ → ReqClass → List DirAct
inv_acts d n Write = if kind_is kind.Shared d n || kind_is kind.Mixed d n then act.Inv ∷ [] else []
inv_acts d n class = []

abbrev pub by_ask : Draft → ℕ → ReqClass → RowLine → Action → DirChoice
by_ask d n class r does = record { acts = inv_acts d n class ++ act_of_action does ∷ []; next = if is_by_share d r then Busy r.next else State r.next }

abbrev pub ask_choice : Draft → ℕ → ReqClass → RowLine → Option Action → Option DirChoice
ask_choice d n class r None = None
ask_choice d n class r (Some does) = Some (by_ask d n class r does)

-- an owner's evict writes the word that it brings, if it does
abbrev pub evict_acts : Who → List DirAct
evict_acts Owner = act.Write ∷ act.PutAck ∷ []
evict_acts who = act.PutAck ∷ []

-- the row of a case that is due
abbrev pub due_row : Draft → ℕ → DirCase → Option RowLine
due_row d n c = if is_due_case d n c then dir_row d n c else None

abbrev pub in_state : Draft → ℕ → DirInput → Option DirChoice
in_state d n (at.Ask class who) = option_and_then (λ r. ask_choice d n class r (action_in r.form)) (due_row d n (case.Ask class who))
in_state d n (at.Evict who left) = option_and_then (λ r. Some (record { acts = evict_acts who; next = State r.next })) (due_row d n (case.Evict who left))
in_state d n at.EvictNone = Some (record { acts = act.PutAck ∷ []; next = State n })
in_state d n _ = None

-- while it is busy each request waits, and the data ends that
abbrev pub when_busy : ℕ → DirInput → Option DirChoice
when_busy n (at.BusyAsk Read) = Some (record { acts = act.Stall ∷ []; next = Busy n })
when_busy n (at.BusyAsk Write) = Some (record { acts = act.Stall ∷ []; next = Busy n })
when_busy n at.BusyEvict = Some (record { acts = act.Stall ∷ []; next = Busy n })
when_busy n at.Wb = Some (record { acts = act.Write ∷ []; next = State n })
when_busy n _ = None

-- what the directory controller does in a state at an input, if that may come
abbrev pub dir_choice : Draft → DirDesc → DirInput → Option DirChoice
dir_choice d (State n) i = in_state d n i
dir_choice d (Busy n) i = when_busy n i

abbrev pub DirGenRow : Type 0
DirGenRow = GeneratedRow DirDesc DirInput DirAct

abbrev pub DirGenState : Type 0
DirGenState = GeneratedState DirDesc DirInput DirAct

-- the rows of a state
abbrev pub dir_rows : Draft → DirDesc → List DirGenRow
dir_rows d s = rows_by (dir_choice d s) dir_inputs

-- the states with their rows, which are the same in both modes
abbrev pub dir_generated_states : Draft → List DirGenState
dir_generated_states d = map (state_by (dir_choice d) dir_inputs) (dir_descs d)
