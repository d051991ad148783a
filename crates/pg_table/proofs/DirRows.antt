-- The rows of the generated directory controller lead to its states.
use Rattle.std.proofs.Common.{◌≡◌, ℕ, Bool, true, false, cond, ◌&&◌, List, [], ◌∷◌, Option, Some, None, refl, sym, subst}
use Rattle.std.specs.Prelude.{slice_get, ◌==◌}
use Rattle.std.specs.Option.{option_and_then}
use Rattle.std.specs.List.{list_any}
use Rattle.std.proofs.lemmas.Bool.{eq-eqb}
use Rattle.std.proofs.lemmas.Option.{same_Some}
use Rattle.pg_perm.specs.declared.kinds.Who.{Who}
use Rattle.pg_perm.specs.declared.kinds.ReqClass.{ReqClass}
use Rattle.pg_perm.specs.declared.kinds.ReqClass.TheVariants.{Read, Write}
use Rattle.pg_perm.specs.declared.draft.Draft.{Draft}
use Rattle.pg_perm.specs.declared.draft.RowLine.{RowLine}
use Rattle.pg_perm.specs.declared.draft.Action.{Action}
use Rattle.pg_perm.specs.Drafts.{has_dir, has_row_form, has_row, IsWellFormed}
use Rattle.pg_terms.specs.declared.cases.DirCase.{DirCase}
use Rattle.pg_terms.specs.declared.cases.DirCase.TheVariants as case
use Rattle.pg_terms.specs.Terms.{dir_row}
use Rattle.pg_terms.specs.Due.{is_due_case}
use Rattle.pg_terms.specs.Rows.{action_in, is_by_share}
use Rattle.pg_shape.proofs.Bools.{three_and, and_of_both}
use Rattle.pg_shape.proofs.Searches.{any_at, all_at}
use Rattle.pg_table.specs.declared.directory.DirDesc.{DirDesc}
use Rattle.pg_table.specs.declared.directory.DirDesc.TheVariants.{State, Busy}
use Rattle.pg_table.specs.declared.directory.DirInput.{DirInput}
use Rattle.pg_table.specs.declared.directory.DirInput.TheVariants as at
use Rattle.pg_table.specs.declared.directory.DirAct.{DirAct}
use Rattle.pg_table.specs.declared.directory.DirAct.TheVariants as act
use Rattle.pg_table.specs.Controllers.{state_by}
use Rattle.pg_table.specs.Directory.{dir_descs, dir_inputs, DirChoice, evict_acts, by_ask, ask_choice, due_row, dir_choice, DirGenRow, DirGenState, dir_generated_states}
use Rattle.pg_table.specs.Tables.{same_dir_desc}
use Rattle.pg_shape.proofs.Cores.{all_formed}
use Rattle.pg_shape.proofs.Rows.{row_at}
use Rattle.pg_table.proofs.Same.{same_dir_desc_self}
use Rattle.pg_table.proofs.Lists.{get_map}
use Rattle.pg_table.proofs.ControllerRows.{row_choice}
use Rattle.pg_table.proofs.DirStates.{is_dir_state, declared_is_dir_state, busy_is_dir_state, busy_declared}

-- the row of a due case is a line of the draft, which leads to a declared state
due_line : (d : Draft) (n : ℕ) (a : DirCase) (r : RowLine) → due_row d n a ≡ Some r → dir_row d n a ≡ Some r
due_line d n a r h = at (is_due_case d n a) h
  where
    at : (b : Bool) → cond b (dir_row d n a) None ≡ Some r → dir_row d n a ≡ Some r
    at true g = g
    at false g = absurd cc

row_leads : (d : Draft) → IsWellFormed d → (n : ℕ) (a : DirCase) (r : RowLine) → due_row d n a ≡ Some r
    → (k : ℕ) × (slice_get d.rows k ≡ Some r) × (has_dir d r.next ≡ true)
row_leads d w n a r h =
    let (k, get, dir, for) = row_at d n a r (due_line d n a r h) in
    let formed : has_row d r ≡ true = all_at (has_row d) d.rows k r (all_formed d w).2 get in
    (k, get, (three_and (has_dir d r.dir) (has_row_form d r.form) (has_dir d r.next) formed).2)

-- where a row that passes a request on by a share leads
share_leads : (d : Draft) (k : ℕ) (r : RowLine) → slice_get d.rows k ≡ Some r → has_dir d r.next ≡ true → is_dir_state d (cond (is_by_share d r) (Busy r.next) (State r.next)) ≡ true
share_leads d k r g h = at (is_by_share d r) refl
  where
    at : (b : Bool) → is_by_share d r ≡ b → is_dir_state d (cond b (Busy r.next) (State r.next)) ≡ true
    at true e = busy_is_dir_state d r.next h
        (any_at (λ x. is_by_share d x && x.next == r.next) d.rows k r g (and_of_both (is_by_share d r) (r.next == r.next) e (eq-eqb r.next r.next refl)))
    at false e = declared_is_dir_state d r.next h

ask_leads : (d : Draft) (n k : ℕ) (class : ReqClass) (r : RowLine) (c : DirChoice) (o : Option Action) → slice_get d.rows k ≡ Some r → has_dir d r.next ≡ true
    → ask_choice d n class r o ≡ Some c → is_dir_state d c.next ≡ true
ask_leads d n k class r c None g h e = absurd cc
ask_leads d n k class r c (Some does) g h e =
    subst (λ (c : DirChoice). is_dir_state d c.next ≡ true) (same_Some (by_ask d n class r does) c e) (share_leads d k r g h)

asked_leads : (d : Draft) → IsWellFormed d → (n : ℕ) (class : ReqClass) (a : DirCase) (c : DirChoice) (o : Option RowLine) → due_row d n a ≡ o
    → option_and_then (λ r. ask_choice d n class r (action_in r.form)) o ≡ Some c → is_dir_state d c.next ≡ true
asked_leads d w n class a c None g e = absurd cc
asked_leads d w n class a c (Some r) g e = let (k, f, h) = row_leads d w n a r g in ask_leads d n k class r c (action_in r.form) f h e

-- a choice that goes to this state leads to it
goes : (d : Draft) (x : DirDesc) (acts : List DirAct) (c : DirChoice) → Some (record { acts = acts; next = x }) ≡ Some c → is_dir_state d x ≡ true → is_dir_state d c.next ≡ true
goes d x acts c e h = subst (λ (c : DirChoice). is_dir_state d c.next ≡ true) (same_Some (record { acts = acts; next = x }) c e) h

left_leads : (d : Draft) → IsWellFormed d → (n : ℕ) (who : Who) (a : DirCase) (c : DirChoice) (o : Option RowLine) → due_row d n a ≡ o
    → option_and_then (λ r. Some (record { acts = evict_acts who; next = State r.next })) o ≡ Some c → is_dir_state d c.next ≡ true
left_leads d w n who a c None g e = absurd cc
left_leads d w n who a c (Some r) g e =
    let (k, f, h) = row_leads d w n a r g in
    goes d (State r.next) (evict_acts who) c e (declared_is_dir_state d r.next h)

-- and one that stays leads to where it is
stays : (d : Draft) (k : ℕ) (x : DirDesc) (acts : List DirAct) (c : DirChoice) → slice_get (dir_descs d) k ≡ Some x → Some (record { acts = acts; next = x }) ≡ Some c
    → is_dir_state d c.next ≡ true
stays d k x acts c g e = goes d x acts c e (any_at (same_dir_desc x) (dir_descs d) k x g (same_dir_desc_self x))

-- a choice that is made at a state of the directory leads to one
pub choice_leads : (d : Draft) → IsWellFormed d → (k : ℕ) (x : DirDesc) (i : DirInput) (c : DirChoice) → slice_get (dir_descs d) k ≡ Some x → dir_choice d x i ≡ Some c
    → is_dir_state d c.next ≡ true
choice_leads d w k (State n) (at.Ask class who) c g e = asked_leads d w n class (case.Ask class who) c (due_row d n (case.Ask class who)) refl e
choice_leads d w k (State n) (at.Evict who left) c g e = left_leads d w n who (case.Evict who left) c (due_row d n (case.Evict who left)) refl e
choice_leads d w k (State n) at.EvictNone c g e = stays d k (State n) (act.PutAck ∷ []) c g e
choice_leads d w k (Busy n) (at.BusyAsk Read) c g e = stays d k (Busy n) (act.Stall ∷ []) c g e
choice_leads d w k (Busy n) (at.BusyAsk Write) c g e = stays d k (Busy n) (act.Stall ∷ []) c g e
choice_leads d w k (Busy n) at.BusyEvict c g e = stays d k (Busy n) (act.Stall ∷ []) c g e
choice_leads d w k (Busy n) at.Wb c g e = goes d (State n) (act.Write ∷ []) c e (declared_is_dir_state d n (busy_declared d k n g))
choice_leads d _ k _ _ c _ e = absurd cc

-- each row of the directory leads to one of its states
pub dir_row_leads_to_state : (d : Draft) (n k : ℕ) (s : DirGenState) (r : DirGenRow) → IsWellFormed d → slice_get (dir_generated_states d) n ≡ Some s → slice_get s.rows k ≡ Some r
    → list_any (same_dir_desc r.choice.next) (dir_descs d) ≡ true
dir_row_leads_to_state d n k s r w h g =
    let (x, at, is) = get_map (state_by (dir_choice d) dir_inputs) (dir_descs d) n s h in
    choice_leads d w n x r.input r.choice at
    (row_choice same_dir_desc dir_inputs (dir_choice d x) k r (subst (λ (s : DirGenState). slice_get s.rows k ≡ Some r) (sym is) g))
