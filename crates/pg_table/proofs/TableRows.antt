-- The rows of the generated tables of cache controllers.
use Rattle.std.proofs.Common.{◌≡◌, ◌↔◌, ℕ, true, false, [], ◌∷◌, map, Option, Some, sym, subst, ap, ◌∙◌}
use Rattle.std.specs.Prelude.{slice_get}
use Rattle.std.specs.List.{list_any}
use Rattle.pg_perm.specs.declared.kinds.Event.TheVariants.{Load, Store}
use Rattle.pg_perm.specs.declared.kinds.Mode.{Mode}
use Rattle.pg_perm.specs.declared.kinds.Mode.TheVariants as mode
use Rattle.pg_perm.specs.declared.draft.Draft.{Draft}
use Rattle.pg_perm.specs.Drafts.{IsWellFormed}
use Rattle.pg_shape.specs.Shaped.{IsShaped}
use Rattle.pg_table.specs.declared.cache.Desc.{Desc}
use Rattle.pg_table.specs.declared.cache.Desc.TheVariants.{Ask}
use Rattle.pg_table.specs.declared.cache.Phase.TheVariants.{D, Ad, A}
use Rattle.pg_table.specs.declared.cache.Input.{Input}
use Rattle.pg_table.specs.declared.cache.Input.TheVariants as at
use Rattle.pg_table.specs.declared.cache.Act.TheVariants as act
use Rattle.pg_table.specs.Controllers.{row_for}
use Rattle.pg_table.specs.Descriptors.{descs}
use Rattle.pg_table.specs.Choices.{Choice, choices}
use Rattle.pg_table.specs.GeneratedStates.{inputs, choice_of_mode, rows_of}
use Rattle.pg_table.specs.Stalls.{is_later_at, is_stall}
use Rattle.pg_table.specs.Tables.{Row, TableState, same_desc, table_row, cache_table}
use Rattle.pg_table.specs.Sound.{rows_for}
use Rattle.pg_table.proofs.Same.{desc_same}
use Rattle.pg_table.proofs.Numbers.{number_is}
use Rattle.pg_table.proofs.ControllerRows.{state_whole, row_chosen, input_chosen}
use Rattle.pg_table.proofs.Distinct.{descs_distinct}
use Rattle.pg_table.proofs.RowsFor.{rows_for_input}
use Rattle.pg_table.proofs.Stalls.{both_choices, stalls_at_later, others_go_on, none_waits}

-- the choice that is made in a mode
abbrev made_in : Draft → Mode → Desc → Input → Option Choice
made_in d m s i = choice_of_mode m (choices d s i)

-- a row for an input does what is chosen there
does_chosen : (d : Draft) (m : Mode) (n k : ℕ) (s : TableState) (r : Row) (i : Input) → slice_get (cache_table d m) n ≡ Some s → slice_get s.rows k ≡ Some r → r.inputs ≡ i ∷ []
    → (c : Choice) × (choice_of_mode m (choices d s.desc i) ≡ Some c) × (r.acts ≡ c.acts)
does_chosen d m n k s r i h g e = input_chosen (made_in d m s.desc) r i (row_chosen same_desc (inputs d) (made_in d m) (descs d m) n k s r h g) e

-- What waits

-- where forwards are put off, no row lets one wait
pub none_stalls : (d : Draft) (n k : ℕ) (s : TableState) (r : Row) → slice_get (cache_table d mode.Defer) n ≡ Some s → slice_get s.rows k ≡ Some r → list_any is_stall r.acts ≡ false
none_stalls d n k s r h g =
    let (j, c, is, chose, acts) = row_chosen same_desc (inputs d) (made_in d mode.Defer) (descs d mode.Defer) n k s r h g in
    ap (list_any is_stall) acts ∙ none_waits d s.desc j c chose

-- where they wait, exactly the rows of the later ones let them wait
pub later_stalls : (d : Draft) (n k : ℕ) (s : TableState) (r : Row) (i : Input) → slice_get (cache_table d mode.Stall) n ≡ Some s → slice_get s.rows k ≡ Some r
    → r.inputs ≡ i ∷ [] → ((r.acts ≡ act.Stall ∷ []) ↔ (is_later_at d s.desc i ≡ true))
later_stalls d n k s r i h g e =
    let (c, chose, acts) = does_chosen d mode.Stall n k s r i h g e in
    let (there, back) = stalls_at_later d s.desc i c chose in
    (λ waits. there (sym acts ∙ waits), λ comes. acts ∙ back comes)

pub others_no_stall : (d : Draft) (n k : ℕ) (s : TableState) (r : Row) (i : Input) → slice_get (cache_table d mode.Stall) n ≡ Some s → slice_get s.rows k ≡ Some r
    → r.inputs ≡ i ∷ [] → is_later_at d s.desc i ≡ false → list_any is_stall r.acts ≡ false
others_no_stall d n k s r i h g e other =
    let (c, chose, acts) = does_chosen d mode.Stall n k s r i h g e in
    ap (list_any is_stall) acts ∙ others_go_on d mode.Stall s.desc i c chose other

-- The rows of later forwards

-- where forwards wait, a later one has a row, and that stays in its state
later_chosen : (d : Draft) (s : Desc) (i : Input) → is_later_at d s i ≡ true → choice_of_mode mode.Stall (choices d s i) ≡ Some (record { acts = act.Stall ∷ []; next = s })
later_chosen d (Ask Load s D t) (at.Forward f) h = ap (choice_of_mode mode.Stall) (both_choices d Load s D t f h)
later_chosen d (Ask Store s Ad t) (at.Forward f) h = ap (choice_of_mode mode.Stall) (both_choices d Store s Ad t f h)
later_chosen d (Ask Store s A t) (at.Forward f) h = ap (choice_of_mode mode.Stall) (both_choices d Store s A t f h)
later_chosen d _ _ h = absurd cc

pub later_has_row : (d : Draft) (n : ℕ) (s : TableState) (i : Input) → IsWellFormed d → IsShaped d → slice_get (cache_table d mode.Stall) n ≡ Some s
    → is_later_at d s.desc i ≡ true → rows_for i s.rows ≡ record { inputs = i ∷ []; acts = act.Stall ∷ []; next = n } ∷ []
later_has_row d n s i w sh h comes =
    let (x, get, is) = state_whole same_desc (made_in d mode.Stall) (inputs d) (descs d mode.Stall) n s h in
    subst (λ (s : TableState). is_later_at d s.desc i ≡ true → rows_for i s.rows ≡ record { inputs = i ∷ []; acts = act.Stall ∷ []; next = n } ∷ []) is
    (of x get) comes
  where
    of : (x : Desc) → slice_get (descs d mode.Stall) n ≡ Some x → is_later_at d x i ≡ true
        → rows_for i (map (table_row (descs d mode.Stall)) (rows_of d mode.Stall x)) ≡ record { inputs = i ∷ []; acts = act.Stall ∷ []; next = n } ∷ []
    of x get comes =
        rows_for_input d (λ s i. mode.Stall) (descs d mode.Stall) x i w sh
        ∙ ap (λ o. map (table_row (descs d mode.Stall)) (row_for i o)) (later_chosen d x i comes)
        ∙ ap (λ k. record { inputs = i ∷ []; acts = act.Stall ∷ []; next = k } ∷ []) (number_is same_desc desc_same (descs d mode.Stall) n x (descs_distinct d mode.Stall w sh) get)
