-- Each request has its row: what is asked is legal. And each head, reply and operation has one row in each sound table.
use Rattle.std.proofs.Common.{◌≡◌, ℕ, zero, suc, ◌<◌, ◌≤◌, arith, Bool, true, false, List, [], ◌∷◌, ◌++◌, Option, Some, None, refl, sym, ap, subst, ◌∙◌, ◌⊎◌, inl, inr}
use Rattle.std.specs.Prelude.{◌==◌, slice_get, if◌then◌else◌}
use Rattle.std.specs.Option.{option_and_then}
use Rattle.pg_perm.specs.declared.kinds.Event.{Event}
use Rattle.pg_perm.specs.declared.kinds.Event.TheVariants.{Load, Store, Evict}
use Rattle.pg_perm.specs.declared.kinds.ReqClass.{ReqClass}
use Rattle.pg_perm.specs.declared.kinds.ReqClass.TheVariants.{Read, Write}
use Rattle.pg_perm.specs.declared.kinds.Who.{Who}
use Rattle.pg_perm.specs.declared.kinds.Who.TheVariants.{Other, Sharer, Owner}
use Rattle.pg_perm.specs.declared.draft.Draft.{Draft}
use Rattle.pg_perm.specs.declared.draft.RowLine.{RowLine}
use Rattle.pg_perm.specs.Drafts.{IsWellFormed}
use Rattle.pg_perm.specs.declared.draft.Action.{Action}
use Rattle.pg_terms.specs.declared.cases.DirCase.{DirCase}
use Rattle.pg_terms.specs.declared.cases.DirCase.TheVariants as case
use Rattle.pg_terms.specs.Terms.{is, out, dir_row}
use Rattle.pg_terms.specs.Rows.{action_in}
use Rattle.pg_shape.specs.Shaped.{IsShaped}
use Rattle.pg_directory.specs.DirEntries.{DirEntry, who, left_of, without_core, case_for}
use Rattle.pg_directory.specs.Sound.{fits, fits_as, IsLegalAs}
use Rattle.pg_directory.specs.Requests.{IsHandled, action_of}
use Rattle.pg_directory.proofs.Handled.{legal_request_is_handled}
use Rattle.pg_directory.proofs.Handling.{row_acts}
use Rattle.pg_directory.proofs.Holders.{is_same}
use Rattle.pg_atomic.proofs.Fits.{out_loads, shared_loads, owner_loads, owner_reads}
use Rattle.pg_table.specs.declared.cache.Desc.{Desc}
use Rattle.pg_table.specs.declared.cache.Desc.TheVariants.{Stable, Ask, Leave}
use Rattle.pg_table.specs.declared.cache.Input.{Input}
use Rattle.pg_table.specs.declared.cache.Input.TheVariants as at_input
use Rattle.pg_table.specs.Tables.{TableState}
use Rattle.pg_table.specs.declared.directory.DirDesc.{DirDesc}
use Rattle.pg_table.specs.declared.directory.DirDesc.TheVariants.{State, Busy}
use Rattle.pg_table.specs.declared.directory.DirInput.TheVariants as met
use Rattle.pg_table.specs.Choices.{choices}
use Rattle.pg_table.specs.DueInputs.{is_due_input}
use Rattle.pg_table.specs.declared.directory.DirAct.TheVariants.{PutAck}
use Rattle.pg_table.specs.Directory.{DirChoice, act_of_action, inv_acts, by_ask, ask_choice, evict_acts, due_row, in_state, dir_choice}
use Rattle.pg_table.specs.Sound.{is_among, states_of, rows_for, Answers, IsSoundCache}
use Rattle.pg_table.specs.Tables.{number_of}
use Rattle.pg_table.proofs.DueInputs.{due_chooses}
use Rattle.pg_table.proofs.Lists.{get_map}
use Rattle.pg_table.proofs.Numbers.{number_of_at}
use Rattle.pg_messages.specs.declared.messages.Ordered.{Ordered}
use Rattle.pg_order.specs.Orders.{DirOrder}
use Rattle.pg_order.proofs.Known.{IsKnown, known}
use Rattle.pg_order.proofs.OneEntry.{still_nothing}
use Rattle.pg_messages.specs.declared.messages.Ask.{Ask as SentRequest}
use Rattle.pg_messages.specs.declared.messages.Reply.TheVariants.{Data, InvAck}
use Rattle.pg_controllers.specs.Networks.{Core}
use Rattle.pg_controllers.specs.Lines.{ordered_input, reply_input}
use Rattle.pg_controllers.specs.Directories.{dir_state_of, is_busy, dir_entry_of, request_input, dir_input}
use Rattle.pg_controllers.specs.Worlds.{World, core, order_of}
use Rattle.pg_orderly.specs.Orderly.{Mark, IsLined, IsPlaced, IsOrderly}
use Rattle.pg_safe.specs.Moving.{IsComplete}
use Rattle.pg_safe.specs.OneRow.{HasOneRow}
use Rattle.pg_safe.proofs.Catch.{catch_up}
use Rattle.pg_safe.proofs.Ends.{none_after}
use Rattle.pg_safe.proofs.Heads.{head_of}
use Rattle.pg_safe.proofs.Waiting.{head_met}
use Rattle.pg_safe.proofs.Replies.{data_due, ack_due}

-- Requests

-- a core whose state is out holds nothing
out_holds_nothing : (d : Draft) (s : DirEntry) (c x : ℕ) → IsShaped d → fits d s c x ≡ true → is (out d) x ≡ true → who s c ≡ Other
out_holds_nothing d s c x sh fit gone = at (who s c) refl fit
  where
    at : (w : Who) → who s c ≡ w → fits_as d s.dir w x ≡ true → who s c ≡ Other
    at Other same f = same
    at Sharer same f = absurd (let may = shared_loads d sh x f in let lacks = out_loads d sh x gone in cc (may, lacks))
    at Owner same f = absurd (let may = owner_loads d sh s.dir x f in let lacks = out_loads d sh x gone in cc (may, lacks))

nothing_till : (d : Draft) (n : ℕ) (p : DirOrder) → IsKnown d n p → (c a b : ℕ) → a ≤ b → b ≤ p.top → ((j : ℕ) → a ≤ j → j < b → ((p.at j).core == c) ≡ false) → who (p.dir_entry a) c ≡ Other → who (p.dir_entry b) c ≡ Other
nothing_till d n p k c a zero from upto others none = let z : a ≡ zero = omega (arith, from) in subst (λ j. who (p.dir_entry j) c ≡ Other) z none
nothing_till d n p k c a (suc b) from upto others none = elim (let split : (a ≤ b) ⊎ (a ≡ suc b) = search arith in split) [
  | inr here ↦ subst (λ j. who (p.dir_entry j) c ≡ Other) here none
  | inl below ↦
      let before = nothing_till d n p k c a b below (omega (arith, upto)) (λ j lo hi. others j lo (omega (arith, hi))) none in
      ap (λ s. who s c) (k.past.follows b (omega (arith, upto))) ∙ still_nothing d n (p.dir_entry b) (p.at b) c (k.handled b (omega (arith, upto))) (others b below (omega arith)) before
]

-- what stands in a slot is legal once the directory has handled all that stands in its order
pub slot_legal : (d : Draft) (n : ℕ) (p : DirOrder) → IsShaped d → IsKnown d n p → (c : ℕ) (xc : Core) (m : Mark) → IsPlaced d p c xc m → (x : Desc) (a : SentRequest) → IsLined d p c xc.line m x (Some a)
    → IsLegalAs d (p.dir_entry p.top).dir (who (p.dir_entry p.top) c) a.event
slot_legal d n p sh k c xc m pl (Stable s) a h = absurd h
slot_legal d n p sh k c xc m pl (Leave s) a h = subst (IsLegalAs d (p.dir_entry p.top).dir (who (p.dir_entry p.top) c)) (sym h.2) tt
slot_legal d n p sh k c xc m pl (Ask Load s ph t) a h =
    let none = out_holds_nothing d (p.dir_entry m.seen) c s sh h.1.state (is_same (out d) s h.2.0) in
    let upto = pl.upto in
    subst (IsLegalAs d (p.dir_entry p.top).dir (who (p.dir_entry p.top) c)) (sym h.4)
    (nothing_till d n p k c m.seen p.top (omega (arith, upto)) (omega arith) (none_after d p c xc m pl m.seen p.top h.5 (omega arith)) none)
slot_legal d n p sh k c xc m pl (Ask Store s ph t) a h =
    let caught = catch_up d n p sh k c s m.seen pl.rest p.top pl.upto (omega arith) h.1.state (none_after d p c xc m pl m.seen p.top h.5 (omega arith)) in
    subst (IsLegalAs d (p.dir_entry p.top).dir (who (p.dir_entry p.top) c)) (sym h.4) (λ owns.
    let listed = ap (λ u. fits_as d (p.dir_entry p.top).dir u caught.state) (sym owns) ∙ caught.fits in
    (caught.state, listed, owner_reads d sh (p.dir_entry p.top).dir caught.state listed (caught.denies h.2.0)))
slot_legal d n p sh k c xc m pl (Ask Evict s ph t) a h = absurd h.2

-- what the directory does with a request
abbrev pub DoesFor : Draft → DirEntry → ℕ → Event → DirChoice → Type 0
DoesFor d s c Load ch = (a : Action) × (action_of d s (record { core = c; event = Load }) ≡ Some a) × (ch.acts ≡ act_of_action a ∷ [])
DoesFor d s c Store ch = (a : Action) × (action_of d s (record { core = c; event = Store }) ≡ Some a) × (ch.acts ≡ inv_acts d s.dir Write ++ act_of_action a ∷ [])
DoesFor d s c Evict ch = ch.acts ≡ evict_acts (who s c)

-- a request that is handled has a choice
pub row_there : (d : Draft) (n : ℕ) (s : DirEntry) (c : ℕ) (e : Event) → IsShaped d → IsHandled d n s (record { core = c; event = e })
    → (ch : DirChoice) × (in_state d s.dir (request_input e (who s c) (left_of (without_core c s.sharers))) ≡ Some ch) × DoesFor d s c e ch
row_there d n s c e sh h = at e h (who s c) refl
  where
    due : (a : DirCase) (r : RowLine) → dir_row d s.dir a ≡ Some r → due_row d s.dir a ≡ Some r
    due a r row = ap (λ (b : Bool). if b then dir_row d s.dir a else None) (sh.rows.only_due s.dir a r row) ∙ row

    asks : (class : ReqClass) (w : Who) (r : RowLine) (a : Action) → dir_row d s.dir (case.Ask class w) ≡ Some r → action_in r.form ≡ Some a → in_state d s.dir (met.Ask class w) ≡ Some (by_ask d s.dir class r a)
    asks class w r a row acts =
        ap (λ (o : Option RowLine). option_and_then (λ r. ask_choice d s.dir class r (action_in r.form)) o) (due (case.Ask class w) r row)
        ∙ ap (ask_choice d s.dir class r) acts

    evicts : (w : Who) (r : RowLine) → who s c ≡ w → dir_row d s.dir (case.Evict w (left_of (without_core c s.sharers))) ≡ Some r
        → in_state d s.dir (met.Evict w (left_of (without_core c s.sharers))) ≡ Some (record { acts = evict_acts w; next = State r.next })
    evicts w r same row =
        ap (λ (o : Option RowLine). option_and_then (λ r. Some (record { acts = evict_acts w; next = State r.next })) o) (due (case.Evict w (left_of (without_core c s.sharers))) r row)

    at : (e : Event) → IsHandled d n s (record { core = c; event = e }) → (w : Who) → who s c ≡ w
        → (ch : DirChoice) × (in_state d s.dir (request_input e (who s c) (left_of (without_core c s.sharers))) ≡ Some ch) × DoesFor d s c e ch
    at Load h w same =
        let (r, row) = h.row (λ z. let x : Load ≡ Evict = z in cc) in
        let (a, acts) = row_acts d s c Load r row (λ z. cc) in
        (by_ask d s.dir Read r a, asks Read (who s c) r a row acts, (a, ap (λ (o : Option RowLine). option_and_then (λ r. action_in r.form) o) row ∙ acts, refl))
    at Store h w same =
        let (r, row) = h.row (λ z. let x : Store ≡ Evict = z in cc) in
        let (a, acts) = row_acts d s c Store r row (λ z. cc) in
        (by_ask d s.dir Write r a, asks Write (who s c) r a row acts, (a, ap (λ (o : Option RowLine). option_and_then (λ r. action_in r.form) o) row ∙ acts, refl))
    at Evict h Other same = (
      record { acts = PutAck ∷ []; next = State s.dir },
      ap (λ w. in_state d s.dir (request_input Evict w (left_of (without_core c s.sharers)))) same,
      sym (ap evict_acts same),
    )
    at Evict h Sharer same =
        let (r, row) = h.row (λ z none. let x : Sharer ≡ Other = sym same ∙ none in cc) in (
          record { acts = evict_acts Sharer; next = State r.next },
          ap (λ w. in_state d s.dir (request_input Evict w (left_of (without_core c s.sharers)))) same
              ∙ evicts Sharer r same (ap (λ w. dir_row d s.dir (case_for Evict w (left_of (without_core c s.sharers)))) (sym same) ∙ row),
          sym (ap evict_acts same),
        )
    at Evict h Owner same =
        let (r, row) = h.row (λ z none. let x : Owner ≡ Other = sym same ∙ none in cc) in (
          record { acts = evict_acts Owner; next = State r.next },
          ap (λ w. in_state d s.dir (request_input Evict w (left_of (without_core c s.sharers)))) same
              ∙ evicts Owner r same (ap (λ w. dir_row d s.dir (case_for Evict w (left_of (without_core c s.sharers)))) (sym same) ∙ row),
          sym (ap evict_acts same),
        )

pub request_handled : (d : Draft) (n : ℕ) (w : World) (m : ℕ → Mark) (c : ℕ) (a : SentRequest) → IsWellFormed d → IsShaped d → IsOrderly d n w m → c < n → (core w c).slot ≡ Some a
    → IsHandled d n (dir_entry_of w.directory) (record { core = c; event = a.event })
request_handled d n w m c a wf sh o low slot =
    let p = order_of d w in
    let k = known d n p wf sh o.past in
    let pl = o.placed c low in
    let lined = subst (IsLined d p c (core w c).line (m c) (core w c).line.desc) slot pl.line in
    subst (λ s. IsHandled d n s (record { core = c; event = a.event })) (sym o.directory)
    (legal_request_is_handled d n (p.dir_entry p.top) (record { core = c; event = a.event }) wf sh (k.sound p.top (omega arith)) low (slot_legal d n p sh k c (core w c) (m c) pl (core w c).line.desc a lined))

-- each request has a choice while the directory isn't busy
pub request_due : (d : Draft) (n : ℕ) (w : World) (m : ℕ → Mark) (c : ℕ) (a : SentRequest) → IsWellFormed d → IsShaped d → IsOrderly d n w m → c < n → (core w c).slot ≡ Some a → is_busy w.directory.desc ≡ false
    → (ch : DirChoice) × (dir_choice d w.directory.desc (dir_input w.directory.desc (dir_entry_of w.directory) (record { core = c; event = a.event })) ≡ Some ch) × DoesFor d (dir_entry_of w.directory) c a.event ch
request_due d n w m c a wf sh o low slot free = at w.directory.desc refl free
  where
    s : DirEntry
    s = dir_entry_of w.directory

    at : (y : DirDesc) → w.directory.desc ≡ y → is_busy y ≡ false → (ch : DirChoice) × (dir_choice d y (dir_input y s (record { core = c; event = a.event })) ≡ Some ch) × DoesFor d s c a.event ch
    at (Busy k) desc h = cc
    at (State k) desc h =
        let (ch, there, does) = row_there d n s c a.event sh (request_handled d n w m c a wf sh o low slot) in
        let dir : s.dir ≡ k = ap dir_state_of desc in
        (ch, ap (λ k. in_state d k (request_input a.event (who s c) (left_of (without_core c s.sharers)))) (sym dir) ∙ there, does)

-- One row

pub one_row : (d : Draft) (t : List TableState) (x : Desc) (i : Input) → IsWellFormed d → IsShaped d → IsSoundCache d t → is_among (states_of t) x ≡ true → is_due_input d x i ≡ true → HasOneRow t x i
one_row d t x i wf sh sound among due =
    let (s, get, same) = get_map (λ s. s.desc) t (number_of (states_of t) x) x (number_of_at (states_of t) x among) in
    let (c, cs, chosen) = due_chooses d x i wf sh (sound.known x among) due in
    let rows = subst (λ cs. Answers t cs (rows_for i s.rows)) (ap (λ x. choices d x i) same ∙ chosen) (sound.answers (number_of (states_of t) x) s i get) in
    record { place = number_of (states_of t) x; state = s; stands = get; is_it = same; row = rows.0; one = rows.1 }

-- each operation
pub operation_row : (d : Draft) (t : List TableState) (n : ℕ) (w : World) (c s : ℕ) (e : Event) → IsWellFormed d → IsShaped d → IsSoundCache d t → IsComplete t n w → c < n → (core w c).line.desc ≡ Stable s
    → HasOneRow t (core w c).line.desc (at_input.Core e)
operation_row d t n w c s e wf sh sound full low desc =
    one_row d t (core w c).line.desc (at_input.Core e) wf sh sound (full.states c low) (ap (λ x. is_due_input d x (at_input.Core e)) desc)

-- each head of a queue
pub head_row : (d : Draft) (t : List TableState) (n : ℕ) (w : World) (m : ℕ → Mark) (c : ℕ) (q : Ordered) (ms : List Ordered) → IsWellFormed d → IsShaped d → IsSoundCache d t → IsOrderly d n w m → IsComplete t n w
    → c < n → (core w c).queue ≡ q ∷ ms → HasOneRow t (core w c).line.desc (ordered_input (core w c).line q)
head_row d t n w m c q ms wf sh sound o full low queue =
    let (g, hd) = head_of d (order_of d w) c (core w c) (m c) q ms (o.placed c low) queue in
    one_row d t (core w c).line.desc (ordered_input (core w c).line q) wf sh sound (full.states c low) (head_met d n w m c g q sh (known d n (order_of d w) wf sh o.past) low o hd).due

-- each reply to a core
pub data_row : (d : Draft) (t : List TableState) (n : ℕ) (w : World) (m : ℕ → Mark) (i r c v cnt k : ℕ) → IsWellFormed d → IsShaped d → IsSoundCache d t → IsOrderly d n w m → IsComplete t n w
    → slice_get w.replies i ≡ Some (Data r c v cnt k) → (c < n) × HasOneRow t (core w c).line.desc (reply_input (core w c).line (Data r c v cnt k))
data_row d t n w m i r c v cnt k wf sh sound o full get =
    let (low, due) = data_due d n w m i r c v cnt k wf sh o get in
    (low, one_row d t (core w c).line.desc (reply_input (core w c).line (Data r c v cnt k)) wf sh sound (full.states c low) due)

pub ack_row : (d : Draft) (t : List TableState) (n : ℕ) (w : World) (m : ℕ → Mark) (i c k : ℕ) → IsWellFormed d → IsShaped d → IsSoundCache d t → IsOrderly d n w m → IsComplete t n w
    → slice_get w.replies i ≡ Some (InvAck c k) → (c < n) × HasOneRow t (core w c).line.desc (reply_input (core w c).line (InvAck c k))
ack_row d t n w m i c k wf sh sound o full get =
    let (low, due) = ack_due d t n w m i c k wf sh sound o full get in
    (low, one_row d t (core w c).line.desc (reply_input (core w c).line (InvAck c k)) wf sh sound (full.states c low) due)
