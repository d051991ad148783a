-- Where the generated directory controller lets requests wait.
use Rattle.std.proofs.Common.{◌≡◌, ◌↔◌, ◌⊎◌, ℕ, Bool, true, false, cond, ◌||◌, List, [], ◌∷◌, ◌++◌, Option, Some, None, refl, sym, subst, ap, ◌∙◌, inl, inr}
use Rattle.std.specs.Option.{option_and_then}
use Rattle.std.specs.List.{list_any}
use Rattle.std.proofs.lemmas.Bool.{or_from}
use Rattle.std.proofs.lemmas.Option.{same_Some}
use Rattle.std.proofs.lemmas.List.Folds.{list_any-append}
use Rattle.pg_perm.specs.declared.kinds.DirKind.TheVariants as kind
use Rattle.pg_perm.specs.declared.kinds.Who.{Who}
use Rattle.pg_perm.specs.declared.kinds.Who.TheVariants.{Other, Sharer, Owner}
use Rattle.pg_perm.specs.declared.kinds.ReqClass.{ReqClass}
use Rattle.pg_perm.specs.declared.kinds.ReqClass.TheVariants.{Read, Write, Clean, Dirty}
use Rattle.pg_perm.specs.declared.draft.Draft.{Draft}
use Rattle.pg_perm.specs.declared.draft.RowLine.{RowLine}
use Rattle.pg_perm.specs.declared.draft.Action.{Action}
use Rattle.pg_perm.specs.declared.draft.Action.TheVariants as action
use Rattle.pg_terms.specs.declared.cases.DirCase.TheVariants as case
use Rattle.pg_terms.specs.Due.{kind_is}
use Rattle.pg_terms.specs.Rows.{action_in}
use Rattle.pg_shape.proofs.Searches.{not_both}
use Rattle.pg_table.specs.declared.directory.DirDesc.{DirDesc}
use Rattle.pg_table.specs.declared.directory.DirDesc.TheVariants.{State, Busy}
use Rattle.pg_table.specs.declared.directory.DirInput.{DirInput}
use Rattle.pg_table.specs.declared.directory.DirInput.TheVariants as at
use Rattle.pg_table.specs.declared.directory.DirAct.{DirAct}
use Rattle.pg_table.specs.declared.directory.DirAct.TheVariants as act
use Rattle.pg_table.specs.Directory.{DirChoice, inv_acts, act_of_action, evict_acts, by_ask, ask_choice, due_row, dir_choice}
use Rattle.pg_table.specs.Stalls.{is_asked_busy, is_dir_stall}

acts_no_stall : (acts : List DirAct) (next : DirDesc) (c : DirChoice) → Some (record { acts = acts; next = next }) ≡ Some c → list_any is_dir_stall acts ≡ false
    → list_any is_dir_stall c.acts ≡ false
acts_no_stall acts next c e h = subst (λ (c : DirChoice). list_any is_dir_stall c.acts ≡ false) (same_Some (record { acts = acts; next = next }) c e) h

sends_no_stall : (d : Draft) (n : ℕ) (class : ReqClass) (does : Action) → list_any is_dir_stall (inv_acts d n class ++ act_of_action does ∷ []) ≡ false
sends_no_stall d n class does = list_any-append is_dir_stall (inv_acts d n class) (act_of_action does ∷ []) ∙ or_from _ _ (invs_not class) (does_not does)
  where
    inv : (b : Bool) → list_any is_dir_stall (cond b (act.Inv ∷ []) []) ≡ false
    inv true = refl
    inv false = refl

    invs_not : (class : ReqClass) → list_any is_dir_stall (inv_acts d n class) ≡ false
    invs_not Write = inv (kind_is kind.Shared d n || kind_is kind.Mixed d n)
    invs_not Read = refl
    invs_not Clean = refl
    invs_not Dirty = refl

    does_not : (does : Action) → list_any is_dir_stall (act_of_action does ∷ []) ≡ false
    does_not (action.Reply m) = refl
    does_not (action.Forward f) = refl
    does_not action.Count = refl

asks_no_stall : (d : Draft) (n : ℕ) (class : ReqClass) (r : RowLine) (c : DirChoice) (o : Option Action) → ask_choice d n class r o ≡ Some c → list_any is_dir_stall c.acts ≡ false
asks_no_stall d n class r c None e = absurd cc
asks_no_stall d n class r c (Some does) e =
    subst (λ (c : DirChoice). list_any is_dir_stall c.acts ≡ false) (same_Some (by_ask d n class r does) c e) (sends_no_stall d n class does)

asked_no_stall : (d : Draft) (n : ℕ) (class : ReqClass) (c : DirChoice) (o : Option RowLine)
    → option_and_then (λ r. ask_choice d n class r (action_in r.form)) o ≡ Some c → list_any is_dir_stall c.acts ≡ false
asked_no_stall d n class c None e = absurd cc
asked_no_stall d n class c (Some r) e = asks_no_stall d n class r c (action_in r.form) e

left_no_stall : (who : Who) (c : DirChoice) (o : Option RowLine) → option_and_then (λ r. Some (record { acts = evict_acts who; next = State r.next })) o ≡ Some c
    → list_any is_dir_stall c.acts ≡ false
left_no_stall who c None e = absurd cc
left_no_stall Other c (Some r) e = acts_no_stall (act.PutAck ∷ []) (State r.next) c e refl
left_no_stall Sharer c (Some r) e = acts_no_stall (act.PutAck ∷ []) (State r.next) c e refl
left_no_stall Owner c (Some r) e = acts_no_stall (act.Write ∷ act.PutAck ∷ []) (State r.next) c e refl

-- but where a request comes while the directory waits for data, none does
pub others_go_on : (d : Draft) (s : DirDesc) (i : DirInput) (c : DirChoice) → dir_choice d s i ≡ Some c → is_asked_busy s i ≡ false → list_any is_dir_stall c.acts ≡ false
others_go_on d (State n) (at.Ask class who) c e h = asked_no_stall d n class c (due_row d n (case.Ask class who)) e
others_go_on d (State n) (at.Evict who left) c e h = left_no_stall who c (due_row d n (case.Evict who left)) e
others_go_on d (State n) at.EvictNone c e h = acts_no_stall (act.PutAck ∷ []) (State n) c e refl
others_go_on d (Busy n) at.Wb c e h = acts_no_stall (act.Write ∷ []) (State n) c e refl
others_go_on d (Busy n) (at.BusyAsk Read) c e h = absurd cc
others_go_on d (Busy n) (at.BusyAsk Write) c e h = absurd cc
others_go_on d (Busy n) at.BusyEvict c e h = absurd cc
others_go_on d _ _ c e h = absurd cc

-- it waits, where it does
busy_waits : (d : Draft) (s : DirDesc) (i : DirInput) (c : DirChoice) → dir_choice d s i ≡ Some c → is_asked_busy s i ≡ true → c.acts ≡ act.Stall ∷ []
busy_waits d (Busy n) (at.BusyAsk Read) c e h = ap (λ (c : DirChoice). c.acts) (sym (same_Some (record { acts = act.Stall ∷ []; next = Busy n }) c e))
busy_waits d (Busy n) (at.BusyAsk Write) c e h = ap (λ (c : DirChoice). c.acts) (sym (same_Some (record { acts = act.Stall ∷ []; next = Busy n }) c e))
busy_waits d (Busy n) at.BusyEvict c e h = ap (λ (c : DirChoice). c.acts) (sym (same_Some (record { acts = act.Stall ∷ []; next = Busy n }) c e))
busy_waits d _ _ c e h = absurd cc

pub dir_stalls_when_busy : (d : Draft) (s : DirDesc) (i : DirInput) (c : DirChoice) → dir_choice d s i ≡ Some c → ((c.acts ≡ act.Stall ∷ []) ↔ (is_asked_busy s i ≡ true))
dir_stalls_when_busy d s i c e = (λ h. at (is_asked_busy s i) refl h, busy_waits d s i c e)
  where
    at : (b : Bool) → is_asked_busy s i ≡ b → c.acts ≡ act.Stall ∷ [] → b ≡ true
    at true g h = refl
    at false g h = absurd (not_both (list_any is_dir_stall c.acts) (ap (list_any is_dir_stall) h) (others_go_on d s i c e g))

-- where a request comes while it waits for data, it has that choice, and stays as it was
pub busy_request_stalls : (d : Draft) (s : DirDesc) (i : DirInput) → is_asked_busy s i ≡ true → dir_choice d s i ≡ Some (record { acts = act.Stall ∷ []; next = s })
busy_request_stalls d (Busy n) (at.BusyAsk Read) h = refl
busy_request_stalls d (Busy n) (at.BusyAsk Write) h = refl
busy_request_stalls d (Busy n) at.BusyEvict h = refl
busy_request_stalls d _ _ h = absurd cc

-- but for the requests and the data nothing comes then
pub busy_only : (d : Draft) (n : ℕ) (i : DirInput) (c : DirChoice) → dir_choice d (Busy n) i ≡ Some c → (is_asked_busy (Busy n) i ≡ true) ⊎ (i ≡ at.Wb)
busy_only d n (at.BusyAsk Read) c e = inl refl
busy_only d n (at.BusyAsk Write) c e = inl refl
busy_only d n at.BusyEvict c e = inl refl
busy_only d n at.Wb c e = inr refl
busy_only d n _ c e = absurd cc
