-- What the rows of the directory do with the requests that may come.
use Rattle.std.proofs.Common.{◌≡◌, ◌≢◌, ◌↔◌, ℕ, ◌<◌, ◌⊎◌, inl, inr, Bool, true, false, cond, ◌&&◌, List, [], ◌∷◌, ◌++◌, Option, Some, None, refl, sym, ap, ◌∙◌}
use Rattle.std.specs.Prelude.{◌==◌, ◌||◌, if◌then◌else◌}
use Rattle.std.specs.Option.{option_map_or, option_and_then}
use Rattle.std.proofs.lemmas.Option.{same_Some}
use Rattle.pg_perm.specs.declared.kinds.Event.{Event}
use Rattle.pg_perm.specs.declared.kinds.Event.TheVariants.{Load, Store, Evict}
use Rattle.pg_perm.specs.declared.kinds.DirKind.TheVariants as kind
use Rattle.pg_perm.specs.declared.kinds.Who.{Who}
use Rattle.pg_perm.specs.declared.kinds.Who.TheVariants.{Other, Sharer, Owner}
use Rattle.pg_perm.specs.declared.kinds.Left.{Left}
use Rattle.pg_perm.specs.declared.kinds.ReqClass.{ReqClass}
use Rattle.pg_perm.specs.declared.kinds.ReqClass.TheVariants.{Read, Write}
use Rattle.pg_perm.specs.declared.draft.Draft.{Draft}
use Rattle.pg_perm.specs.declared.draft.RowLine.{RowLine}
use Rattle.pg_perm.specs.declared.draft.RowForm.{RowForm}
use Rattle.pg_perm.specs.declared.draft.RowForm.TheVariants as form
use Rattle.pg_perm.specs.declared.draft.Action.{Action}
use Rattle.pg_perm.specs.declared.draft.Action.TheVariants as action
use Rattle.pg_perm.specs.Drafts.{IsWellFormed}
use Rattle.pg_terms.specs.declared.cases.DirCase.{DirCase}
use Rattle.pg_terms.specs.declared.cases.DirCase.TheVariants as case
use Rattle.pg_terms.specs.Terms.{is, same_event, dir_row, forward_of}
use Rattle.pg_terms.specs.Due.{kind_is, forward_in, is_due_case}
use Rattle.pg_perm.specs.declared.kinds.FwdClass.TheVariants.{Inv}
use Rattle.pg_terms.specs.Rows.{action_in, is_by_share}
use Rattle.pg_shape.specs.Shaped.{IsShaped}
use Rattle.pg_shape.proofs.Bools.{or_of_either}
use Rattle.pg_shape.proofs.Searches.{not_both}
use Rattle.pg_directory.specs.DirEntries.{DirEntry, Request, is_among, with_core, without_core, left_of, who, row_of, entry_after_share, entry_after_read, entry_after}
use Rattle.pg_directory.specs.Sends.{forward_sent}
use Rattle.pg_directory.specs.Sound.{IsSound, IsLegal}
use Rattle.pg_directory.specs.Requests.{action_of}
use Rattle.pg_directory.proofs.DirKinds.{sharer_dir}
use Rattle.pg_directory.proofs.DueRows.{legal_request_has_row, stale_none, stale_changes_nothing}
use Rattle.pg_directory.proofs.EntriesAfter.{by_nothing}
use Rattle.pg_directory.proofs.Facts.{forward_acts, action_forwards}
use Rattle.pg_directory.proofs.Forwards.{passed_on_to_owner}
use Rattle.pg_directory.proofs.Handling.{evict_row, row_acts, sent_has_row, action_has_row}
use Rattle.pg_directory.proofs.Holders.{is_same}
use Rattle.pg_directory.proofs.OfKind.{entry_after-some, forward_sent-some}
use Rattle.pg_table.specs.declared.directory.DirDesc.TheVariants.{State, Busy}
use Rattle.pg_table.specs.declared.directory.DirInput.TheVariants as met
use Rattle.pg_table.specs.declared.directory.DirAct.{DirAct}
use Rattle.pg_table.specs.declared.directory.DirAct.TheVariants as act
use Rattle.pg_table.specs.Directory.{DirChoice, act_of_action, by_ask, ask_choice, evict_acts, due_row, dir_choice}
use Rattle.pg_table.specs.DirRequests.{dir_of, is_busy, evict_input, input_for, request_input, request_choice}
use Rattle.pg_table.proofs.DirCases.{due_row_is}

-- Rows of cases

-- a case that has a row is due, so the row of a case that is due is its row
due_row_whole : (d : Draft) (n : ℕ) (a : DirCase) → IsShaped d → due_row d n a ≡ dir_row d n a
due_row_whole d n a shape = at (dir_row d n a) refl (is_due_case d n a) refl
  where
    at : (o : Option RowLine) → dir_row d n a ≡ o → (b : Bool) → is_due_case d n a ≡ b → due_row d n a ≡ dir_row d n a
    at o e true h = due_row_is d n a true h
    at None e false h = due_row_is d n a false h ∙ sym e
    at (Some r) e false h = absurd (not_both (is_due_case d n a) (shape.rows.only_due n a r e) h)

ask_by_row : (d : Draft) (n : ℕ) (class : ReqClass) (w : Who) (r : RowLine) (a : Action) → IsShaped d → dir_row d n (case.Ask class w) ≡ Some r → action_in r.form ≡ Some a
    → dir_choice d (State n) (met.Ask class w) ≡ Some (by_ask d n class r a)
ask_by_row d n class w r a shape row does =
    ap (λ (o : Option RowLine). option_and_then (λ r. ask_choice d n class r (action_in r.form)) o) (due_row_whole d n (case.Ask class w) shape ∙ row)
    ∙ ap (λ (o : Option Action). ask_choice d n class r o) does

evict_by_row : (d : Draft) (n : ℕ) (w : Who) (l : Left) (r : RowLine) → IsShaped d → dir_row d n (case.Evict w l) ≡ Some r
    → dir_choice d (State n) (met.Evict w l) ≡ Some (record { acts = evict_acts w; next = State r.next })
evict_by_row d n w l r shape row =
    ap (λ (o : Option RowLine). option_and_then (λ r. Some (record { acts = evict_acts w; next = State r.next })) o) (due_row_whole d n (case.Evict w l) shape ∙ row)

-- Requests

-- the class of a load and of a store
abbrev class_for : Event → ReqClass
class_for Load = Read
class_for Store = Write
class_for Evict = Read

-- a load or a store does what its row says
abbrev IsAsked : Draft → DirEntry → ℕ → Event → Type 0
IsAsked d s core event = (r : RowLine) × (a : Action) × (row_of d s (record { core = core; event = event }) ≡ Some r) × (action_in r.form ≡ Some a)
    × (request_choice d s (record { core = core; event = event }) ≡ Some (by_ask d s.dir (class_for event) r a))

asked : (d : Draft) (n : ℕ) (s : DirEntry) (core : ℕ) (event : Event) → IsWellFormed d → IsShaped d → IsSound d n s → core < n → IsLegal d s (record { core = core; event = event })
    → event ≢ Evict → IsAsked d s core event
asked d n s core Load well shape sound low legal other =
    let (r, row) = legal_request_has_row d n s (record { core = core; event = Load }) well shape sound low legal (λ e. absurd cc) in
    let (a, does) = row_acts d s core Load r row other in
    (r, a, row, does, ask_by_row d s.dir Read (who s core) r a shape row does)
asked d n s core Store well shape sound low legal other =
    let (r, row) = legal_request_has_row d n s (record { core = core; event = Store }) well shape sound low legal (λ e. absurd cc) in
    let (a, does) = row_acts d s core Store r row other in
    (r, a, row, does, ask_by_row d s.dir Write (who s core) r a shape row does)
asked d n s core Evict well shape sound low legal other = absurd (other refl)

-- an evict of a holder does what its row says
abbrev IsEvicted : Draft → DirEntry → ℕ → Type 0
IsEvicted d s core = (r : RowLine) × (row_of d s (record { core = core; event = Evict }) ≡ Some r)
    × (request_choice d s (record { core = core; event = Evict }) ≡ Some (record { acts = evict_acts (who s core); next = State r.next }))

evicted : (d : Draft) (n : ℕ) (s : DirEntry) (core : ℕ) → IsWellFormed d → IsShaped d → IsSound d n s → core < n → who s core ≢ Other → IsEvicted d s core
evicted d n s core well shape sound low holds =
    let (r, row) = legal_request_has_row d n s (record { core = core; event = Evict }) well shape sound low tt (λ e. holds) in
    (r, row, by r (who s core) holds row)
  where
    left : Left
    left = left_of (without_core core s.sharers)

    by : (r : RowLine) (w : Who) → w ≢ Other → dir_row d s.dir (case.Evict w left) ≡ Some r
        → dir_choice d (State s.dir) (evict_input w left) ≡ Some (record { acts = evict_acts w; next = State r.next })
    by r Other holds row = absurd (holds refl)
    by r Sharer holds row = evict_by_row d s.dir Sharer left r shape row
    by r Owner holds row = evict_by_row d s.dir Owner left r shape row

-- and one of a core that holds nothing changes nothing
stale_chosen : (d : Draft) (s : DirEntry) (core : ℕ) → who s core ≡ Other
    → request_choice d s (record { core = core; event = Evict }) ≡ Some (record { acts = act.PutAck ∷ []; next = State s.dir })
stale_chosen d s core nothing = ap (λ (w : Who). dir_choice d (State s.dir) (evict_input w (left_of (without_core core s.sharers)))) nothing

-- by what the core is
holds_or_not : (w : Who) → (w ≡ Other) ⊎ (w ≢ Other)
holds_or_not Other = inl refl
holds_or_not Sharer = inr (λ e. absurd cc)
holds_or_not Owner = inr (λ e. absurd cc)

-- There is a choice

has_choice : (d : Draft) (n : ℕ) (s : DirEntry) (core : ℕ) (event : Event) → IsWellFormed d → IsShaped d → IsSound d n s → core < n
    → IsLegal d s (record { core = core; event = event }) → (c : DirChoice) × (request_choice d s (record { core = core; event = event }) ≡ Some c)
has_choice d n s core Load well shape sound low legal =
    let (r, a, row, does, chosen) = asked d n s core Load well shape sound low legal (λ e. absurd cc) in (by_ask d s.dir Read r a, chosen)
has_choice d n s core Store well shape sound low legal =
    let (r, a, row, does, chosen) = asked d n s core Store well shape sound low legal (λ e. absurd cc) in (by_ask d s.dir Write r a, chosen)
has_choice d n s core Evict well shape sound low legal = by (holds_or_not (who s core))
  where
    by : (who s core ≡ Other) ⊎ (who s core ≢ Other) → (c : DirChoice) × (request_choice d s (record { core = core; event = Evict }) ≡ Some c)
    by (inl nothing) = (record { acts = act.PutAck ∷ []; next = State s.dir }, stale_chosen d s core nothing)
    by (inr holds) = let (r, row, chosen) = evicted d n s core well shape sound low holds in (record { acts = evict_acts (who s core); next = State r.next }, chosen)

pub request_has_choice : (d : Draft) (n : ℕ) (s : DirEntry) (q : Request) → IsWellFormed d → IsShaped d → IsSound d n s → q.core < n → IsLegal d s q
    → (c : DirChoice) × (request_choice d s q ≡ Some c)
request_has_choice d n s q well shape sound low legal = has_choice d n s q.core q.event well shape sound low legal

-- What is done

pub load_acts : (d : Draft) (n : ℕ) (s : DirEntry) (q : Request) (c : DirChoice) → IsWellFormed d → IsShaped d → IsSound d n s → q.core < n → IsLegal d s q
    → q.event ≡ Load → request_choice d s q ≡ Some c → (a : Action) × (action_of d s q ≡ Some a) × (c.acts ≡ act_of_action a ∷ [])
load_acts d n s q c well shape sound low legal is h = by q.event is legal h
  where
    by : (event : Event) → event ≡ Load → IsLegal d s (record { core = q.core; event = event }) → request_choice d s (record { core = q.core; event = event }) ≡ Some c
        → (a : Action) × (action_of d s (record { core = q.core; event = event }) ≡ Some a) × (c.acts ≡ act_of_action a ∷ [])
    by Load is legal h =
        let (r, a, row, does, chosen) = asked d n s q.core Load well shape sound low legal (λ e. absurd cc) in (
          a,
          ap (λ (o : Option RowLine). option_and_then (λ r. action_in r.form) o) row ∙ does,
          ap (λ (c : DirChoice). c.acts) (sym (same_Some (by_ask d s.dir Read r a) c (sym chosen ∙ h))),
        )
    by Store is legal h = absurd cc
    by Evict is legal h = absurd cc

pub store_acts : (d : Draft) (n : ℕ) (s : DirEntry) (q : Request) (c : DirChoice) → IsWellFormed d → IsShaped d → IsSound d n s → q.core < n → IsLegal d s q
    → q.event ≡ Store → request_choice d s q ≡ Some c → (a : Action) × (action_of d s q ≡ Some a)
    × (c.acts ≡ (if kind_is kind.Shared d s.dir || kind_is kind.Mixed d s.dir then act.Inv ∷ [] else []) ++ act_of_action a ∷ [])
store_acts d n s q c well shape sound low legal is h = by q.event is legal h
  where
    by : (event : Event) → event ≡ Store → IsLegal d s (record { core = q.core; event = event }) → request_choice d s (record { core = q.core; event = event }) ≡ Some c
        → (a : Action) × (action_of d s (record { core = q.core; event = event }) ≡ Some a)
        × (c.acts ≡ (if kind_is kind.Shared d s.dir || kind_is kind.Mixed d s.dir then act.Inv ∷ [] else []) ++ act_of_action a ∷ [])
    by Load is legal h = absurd cc
    by Store is legal h =
        let (r, a, row, does, chosen) = asked d n s q.core Store well shape sound low legal (λ e. absurd cc) in (
          a,
          ap (λ (o : Option RowLine). option_and_then (λ r. action_in r.form) o) row ∙ does,
          ap (λ (c : DirChoice). c.acts) (sym (same_Some (by_ask d s.dir Write r a) c (sym chosen ∙ h))),
        )
    by Evict is legal h = absurd cc

-- where there is a sharer, invalidations are sent
pub sharers_are_invalidated : (d : Draft) (n : ℕ) (s : DirEntry) (q : Request) (c : DirChoice) (k : ℕ) → IsWellFormed d → IsShaped d → IsSound d n s → q.core < n → IsLegal d s q
    → q.event ≡ Store → request_choice d s q ≡ Some c → is_among s.sharers k ≡ true → (rest : List DirAct) × (c.acts ≡ act.Inv ∷ rest)
sharers_are_invalidated d n s q c k well shape sound low legal is h shares =
    let (a, does, acts) = store_acts d n s q c well shape sound low legal is h in
    (act_of_action a ∷ [], acts ∙ ap (λ b. (if b then act.Inv ∷ [] else []) ++ act_of_action a ∷ []) (either (sharer_dir d n s sound k shares)))
  where
    either : (kind_is kind.Shared d s.dir ≡ true) ⊎ (kind_is kind.Mixed d s.dir ≡ true) → (kind_is kind.Shared d s.dir || kind_is kind.Mixed d s.dir) ≡ true
    either = or_of_either (kind_is kind.Shared d s.dir) (kind_is kind.Mixed d s.dir)

-- an evict of the owner writes the word that it brings
evict_chosen : (d : Draft) (n : ℕ) (s : DirEntry) (core : ℕ) (w : Who) → IsWellFormed d → IsShaped d → IsSound d n s → core < n → who s core ≡ w → (c : DirChoice)
    → request_choice d s (record { core = core; event = Evict }) ≡ Some c → c.acts ≡ evict_acts w
evict_chosen d n s core w well shape sound low is c h = by (holds_or_not (who s core))
  where
    by : (who s core ≡ Other) ⊎ (who s core ≢ Other) → c.acts ≡ evict_acts w
    by (inl nothing) =
        let same = same_Some (record { acts = act.PutAck ∷ []; next = State s.dir }) c (sym (stale_chosen d s core nothing) ∙ h) in
        ap (λ (c : DirChoice). c.acts) (sym same) ∙ ap evict_acts (sym nothing ∙ is)
    by (inr holds) =
        let (r, row, chosen) = evicted d n s core well shape sound low holds in
        let same = same_Some (record { acts = evict_acts (who s core); next = State r.next }) c (sym chosen ∙ h) in
        ap (λ (c : DirChoice). c.acts) (sym same) ∙ ap evict_acts is

pub owner_evict_acts : (d : Draft) (n : ℕ) (s : DirEntry) (q : Request) (c : DirChoice) → IsWellFormed d → IsShaped d → IsSound d n s → q.core < n
    → q.event ≡ Evict → who s q.core ≡ Owner → request_choice d s q ≡ Some c → c.acts ≡ act.Write ∷ act.PutAck ∷ []
owner_evict_acts d n s q c well shape sound low event is h =
    evict_chosen d n s q.core Owner well shape sound low is c (ap (λ (e : Event). request_choice d s (record { core = q.core; event = e })) (sym event) ∙ h)

pub other_evict_acts : (d : Draft) (n : ℕ) (s : DirEntry) (q : Request) (c : DirChoice) → IsWellFormed d → IsShaped d → IsSound d n s → q.core < n
    → q.event ≡ Evict → who s q.core ≢ Owner → request_choice d s q ≡ Some c → c.acts ≡ act.PutAck ∷ []
other_evict_acts d n s q c well shape sound low event is h = by (who s q.core) refl is
  where
    evict : request_choice d s (record { core = q.core; event = Evict }) ≡ Some c
    evict = ap (λ (e : Event). request_choice d s (record { core = q.core; event = e })) (sym event) ∙ h

    by : (w : Who) → who s q.core ≡ w → w ≢ Owner → c.acts ≡ act.PutAck ∷ []
    by Other e is = evict_chosen d n s q.core Other well shape sound low e c evict
    by Sharer e is = evict_chosen d n s q.core Sharer well shape sound low e c evict
    by Owner e is = absurd (is refl)

-- What is known afterwards

read_leads : (d : Draft) (r : RowLine) (core : ℕ) (s : DirEntry) → (entry_after_read d r core s).dir ≡ r.next
read_leads d r core s = by (kind_is kind.Owned d r.next)
  where
    either : Bool → DirEntry
    either b = if b then record { dir = r.next; owner = Some core; sharers = s.sharers } else record { dir = r.next; owner = s.owner; sharers = with_core core s.sharers }

    by : (b : Bool) → (either b).dir ≡ r.next
    by true = refl
    by false = refl

share_leads : (r : RowLine) (b : Bool) → (dir_of (if b then Busy r.next else State r.next) ≡ r.next) × (is_busy (if b then Busy r.next else State r.next) ≡ b)
share_leads r true = (refl, refl)
share_leads r false = (refl, refl)

no_action_no_forward : (f : RowForm) → action_in f ≡ None → forward_in f ≡ None
no_action_no_forward (form.Ask request w a) h = absurd cc
no_action_no_forward (form.Evict w l) h = refl

-- the state that the controller goes to is the one that the directory knows afterwards, and it waits where the row is by a share
abbrev Leads : Draft → DirEntry → Request → DirChoice → Type 0
Leads d s q c = (dir_of c.next ≡ (entry_after d s q).dir) × (is_busy c.next ≡ option_map_or (is_by_share d) (row_of d s q) false)

leads : (d : Draft) (n : ℕ) (s : DirEntry) (core : ℕ) (event : Event) (c : DirChoice) → IsWellFormed d → IsShaped d → IsSound d n s → core < n
    → IsLegal d s (record { core = core; event = event }) → request_choice d s (record { core = core; event = event }) ≡ Some c → Leads d s (record { core = core; event = event }) c
leads d n s core Load c well shape sound low legal h =
    let (r, a, row, does, chosen) = asked d n s core Load well shape sound low legal (λ e. absurd cc) in
    let same = same_Some (by_ask d s.dir Read r a) c (sym chosen ∙ h) in
    let after : (entry_after d s (record { core = core; event = Load })).dir ≡ r.next =
    ap (λ (s : DirEntry). s.dir) (entry_after-some d s (record { core = core; event = Load }) r row) ∙ read_leads d r core (if is_by_share d r then entry_after_share s else s) in (
      ap (λ (c : DirChoice). dir_of c.next) (sym same) ∙ (share_leads r (is_by_share d r)).0 ∙ sym after,
      ap (λ (c : DirChoice). is_busy c.next) (sym same) ∙ (share_leads r (is_by_share d r)).1 ∙ ap (λ (o : Option RowLine). option_map_or (is_by_share d) o false) (sym row),
    )
leads d n s core Store c well shape sound low legal h =
    let (r, a, row, does, chosen) = asked d n s core Store well shape sound low legal (λ e. absurd cc) in
    let same = same_Some (by_ask d s.dir Write r a) c (sym chosen ∙ h) in
    let after : (entry_after d s (record { core = core; event = Store })).dir ≡ r.next =
    ap (λ (s : DirEntry). s.dir) (entry_after-some d s (record { core = core; event = Store }) r row) in (
      ap (λ (c : DirChoice). dir_of c.next) (sym same) ∙ (share_leads r (is_by_share d r)).0 ∙ sym after,
      ap (λ (c : DirChoice). is_busy c.next) (sym same) ∙ (share_leads r (is_by_share d r)).1 ∙ ap (λ (o : Option RowLine). option_map_or (is_by_share d) o false) (sym row),
    )
leads d n s core Evict c well shape sound low legal h = by (holds_or_not (who s core))
  where
    by : (who s core ≡ Other) ⊎ (who s core ≢ Other) → Leads d s (record { core = core; event = Evict }) c
    by (inl nothing) =
        let same = same_Some (record { acts = act.PutAck ∷ []; next = State s.dir }) c (sym (stale_chosen d s core nothing) ∙ h) in (
          ap (λ (c : DirChoice). dir_of c.next) (sym same)
              ∙ ap (λ (s : DirEntry). s.dir) (sym (stale_changes_nothing d n s (record { core = core; event = Evict }) well shape sound low legal refl nothing)),
          ap (λ (c : DirChoice). is_busy c.next) (sym same)
              ∙ ap (λ (o : Option RowLine). option_map_or (is_by_share d) o false) (sym (stale_none d n s (record { core = core; event = Evict }) shape sound refl nothing)),
        )
    by (inr holds) =
        let (r, row, chosen) = evicted d n s core well shape sound low holds in
        let same = same_Some (record { acts = evict_acts (who s core); next = State r.next }) c (sym chosen ∙ h) in (
          ap (λ (c : DirChoice). dir_of c.next) (sym same) ∙ ap (λ (s : DirEntry). s.dir) (sym (entry_after-some d s (record { core = core; event = Evict }) r row)),
          ap (λ (c : DirChoice). is_busy c.next) (sym same)
              ∙ sym (by_nothing d r (no_action_no_forward r.form (evict_row d s core r row)))
              ∙ ap (λ (o : Option RowLine). option_map_or (is_by_share d) o false) (sym row),
        )

pub request_leads : (d : Draft) (n : ℕ) (s : DirEntry) (q : Request) (c : DirChoice) → IsWellFormed d → IsShaped d → IsSound d n s → q.core < n → IsLegal d s q
    → request_choice d s q ≡ Some c → dir_of c.next ≡ (entry_after d s q).dir
request_leads d n s q c well shape sound low legal h = (leads d n s q.core q.event c well shape sound low legal h).0

pub share_waits : (d : Draft) (n : ℕ) (s : DirEntry) (q : Request) (c : DirChoice) → IsWellFormed d → IsShaped d → IsSound d n s → q.core < n → IsLegal d s q
    → request_choice d s q ≡ Some c → is_busy c.next ≡ option_map_or (is_by_share d) (row_of d s q) false
share_waits d n s q c well shape sound low legal h = (leads d n s q.core q.event c well shape sound low legal h).1

-- What is sent

-- the owner is sent what the row passes on, and nothing else
pub owner_gets_action : (d : Draft) (n : ℕ) (s : DirEntry) (q : Request) (o f : ℕ) → IsSound d n s → s.owner ≡ Some o → forward_sent d s q o ≡ Some f
    → action_of d s q ≡ Some (action.Forward f)
owner_gets_action d n s q o f sound owns sent =
    let (r, row, apart, what) = sent_has_row d s q o f sent in
    ap (λ (o : Option RowLine). option_and_then (λ r. action_in r.form) o) row ∙ by r what
  where
    by : (r : RowLine) → ((q.event ≡ Store) × (is_among s.sharers o ≡ true) × (forward_of d Inv ≡ Some f)) ⊎ ((is s.owner o ≡ true) × (forward_in r.form ≡ Some f))
        → action_in r.form ≡ Some (action.Forward f)
    by r (inl (event, shares, inv)) = absurd (not_both (is_among s.sharers o) shares (sound.owner o owns).1)
    by r (inr (is, passes)) = forward_acts f r.form passes

sent_at : (a b e g : Bool) (x y : Option ℕ) → a ≡ false → e ≡ false → g ≡ true → cond a None (cond (b && e) x (cond g y None)) ≡ y
sent_at false true false true x y p q r = refl
sent_at false false false true x y p q r = refl
sent_at true b e g x y p q r = absurd cc
sent_at false b true g x y p q r = absurd cc
sent_at false b false false x y p q r = absurd cc

pub action_goes_to_owner : (d : Draft) (n : ℕ) (s : DirEntry) (q : Request) (f : ℕ) → IsWellFormed d → IsShaped d → IsSound d n s → q.core < n → IsLegal d s q
    → action_of d s q ≡ Some (action.Forward f) → (o : ℕ) × (s.owner ≡ Some o) × (forward_sent d s q o ≡ Some f)
action_goes_to_owner d n s q f well shape sound low legal does =
    let (o, owns, apart) = passed_on_to_owner d n s q well shape sound low legal f does in
    let (r, row, acts) = action_has_row d s q (action.Forward f) does in (
      o,
      owns,
      forward_sent-some d s q o r row ∙ sent_at (q.core == o) (same_event q.event Store) (is_among s.sharers o) (is s.owner o) (forward_of d Inv) (forward_in r.form) apart
          (sound.owner o owns).1 (is_same s.owner o owns) ∙ action_forwards f r.form acts,
    )

-- Evicts of cores that hold nothing

pub none_is_stale : (s : DirEntry) (q : Request) → ((request_input s q ≡ met.EvictNone) ↔ ((q.event ≡ Evict) × (who s q.core ≡ Other)))
none_is_stale s q = (there q.event (who s q.core) (left_of (without_core q.core s.sharers)), back q.event (who s q.core) (left_of (without_core q.core s.sharers)))
  where
    there : (e : Event) (w : Who) (l : Left) → input_for e w l ≡ met.EvictNone → (e ≡ Evict) × (w ≡ Other)
    there Load w l h = absurd cc
    there Store w l h = absurd cc
    there Evict Other l h = (refl, refl)
    there Evict Sharer l h = absurd cc
    there Evict Owner l h = absurd cc

    back : (e : Event) (w : Who) (l : Left) → (e ≡ Evict) × (w ≡ Other) → input_for e w l ≡ met.EvictNone
    back Evict Other l h = refl
    back Load w l (e, is) = absurd cc
    back Store w l (e, is) = absurd cc
    back Evict Sharer l (e, is) = absurd cc
    back Evict Owner l (e, is) = absurd cc
