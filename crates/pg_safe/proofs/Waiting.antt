-- No world is stuck: a pending core can move, or waits for one whose entry is earlier.
use Rattle.std.proofs.Common.{◌≡◌, ◌≢◌, ℕ, zero, suc, ◌+◌, ◌<◌, ◌≤◌, arith, Bool, true, false, ◌&&◌, ◌||◌, not, cond, List, [], ◌∷◌, length, get_or, Option, Some, None, refl, sym, ap, subst, ◌∙◌, ◌⊎◌, inl, inr}
use Rattle.std.specs.Prelude.{◌==◌, nat_lt, is_some, is_none}
use Rattle.std.specs.List.{list_any, list_all}
use Rattle.std.specs.Option.{option_and_then}
use Rattle.std.proofs.lemmas.Bool.{eqb-true, eq-eqb, lt-ltb, ltb-true}
use Rattle.pg_perm.proofs.Booleans.{and_true}
use Rattle.pg_perm.specs.declared.kinds.Event.{Event}
use Rattle.pg_perm.specs.declared.kinds.Event.TheVariants.{Load, Store, Evict}
use Rattle.pg_perm.specs.declared.kinds.DirKind.{DirKind}
use Rattle.pg_perm.specs.declared.kinds.DirKind.TheVariants as kind
use Rattle.pg_perm.specs.declared.kinds.FwdClass.TheVariants.{Inv, Share}
use Rattle.pg_perm.specs.declared.draft.Draft.{Draft}
use Rattle.pg_perm.specs.declared.draft.RowLine.{RowLine}
use Rattle.pg_perm.specs.declared.draft.Action.{Action}
use Rattle.pg_perm.specs.declared.draft.Action.TheVariants as action
use Rattle.pg_perm.specs.declared.draft.ReplyName.{ReplyName}
use Rattle.pg_perm.specs.Drafts.{IsWellFormed}
use Rattle.pg_terms.specs.Terms.{is, is_owner, cache_is, out, shared, forward_of, has_class}
use Rattle.pg_terms.specs.Due.{kind_is}
use Rattle.pg_shape.specs.Shaped.{IsShaped}
use Rattle.pg_shape.proofs.Bools.{or_true}
use Rattle.pg_shape.proofs.Searches.{not_true}
use Rattle.pg_directory.specs.DirEntries.{DirEntry, Request, is_among, without_core, who}
use Rattle.pg_directory.specs.Sends.{forward_sent, forward_by_row}
use Rattle.pg_directory.specs.Sound.{IsSound, fits_as}
use Rattle.pg_directory.specs.Requests.{IsReplyBy, action_of}
use Rattle.pg_directory.proofs.Cores.{among_without_same, among_without_other, among_below}
use Rattle.pg_directory.proofs.Facts.{one_class, owner_allows_load}
use Rattle.pg_directory.proofs.Holders.{is_same}
use Rattle.pg_atomic.proofs.Fits.{out_loads}
use Rattle.pg_table.specs.declared.cache.Desc.{Desc}
use Rattle.pg_table.specs.declared.cache.Desc.TheVariants.{Stable, Ask, Leave}
use Rattle.pg_table.specs.declared.cache.Phase.{Phase}
use Rattle.pg_table.specs.declared.cache.Phase.TheVariants.{D, Ad, Ac, A}
use Rattle.pg_table.specs.declared.cache.Tag.{Tag}
use Rattle.pg_table.specs.Tables.{TableState}
use Rattle.pg_table.specs.Choices.{Choice}
use Rattle.pg_table.specs.Descriptors.{store_phase}
use Rattle.pg_table.specs.Pick.{pick as picked}
use Rattle.pg_table.specs.Sound.{IsSoundCache}
use Rattle.pg_table.specs.Stalls.{is_stall}
use Rattle.pg_table.proofs.Picked.{picks_choice}
use Rattle.pg_messages.specs.declared.messages.Ordered.{Ordered}
use Rattle.pg_messages.specs.declared.messages.Ordered.TheVariants.{Forward, PutAck}
use Rattle.pg_order.specs.Messages.{stamp_of, tally}
use Rattle.pg_order.specs.Orders.{DirOrder, passed_forward, acks_needed, acks_by_event, own_message, acks_carried, entry_message}
use Rattle.pg_order.specs.Views.{View, is_open_at, is_unserved, acks_owed}
use Rattle.pg_order.proofs.Known.{IsKnown, known}
use Rattle.pg_order.proofs.Quiet.{forward_is}
use Rattle.pg_order.proofs.OneEntry.{passed_is, passed_other}
use Rattle.pg_order.proofs.Passed.{passed_on}
use Rattle.pg_order.proofs.NoOvertaking.{unserved_is, unserved_passed}
use Rattle.pg_messages.specs.declared.messages.Ask.{Ask as SentRequest}
use Rattle.pg_messages.specs.declared.messages.Reply.{Reply}
use Rattle.pg_controllers.specs.Networks.{Core, idle_core}
use Rattle.pg_controllers.specs.Lines.{ordered_input}
use Rattle.pg_controllers.specs.Directories.{is_busy}
use Rattle.pg_messages.specs.declared.messages.WorldEvent.{WorldEvent}
use Rattle.pg_messages.specs.declared.messages.WorldEvent.TheVariants.{Issue, Request as Request_of, Ordered as Ordered_to, Reply as Reply_at}
use Rattle.pg_controllers.specs.Worlds.{Picks, World, core, order_of, is_stable, waits, has_head, is_enabled}
use Rattle.pg_orderly.specs.Orderly.{Mark, is_pending, view_of, IsOrdered, IsPhase, IsAhead, is_ahead, IsAsking, IsLined, IsPlaced, is_storing, is_granted, brings_data, is_data_to, is_ack_to, is_data_due, is_write_back, AddUp, AcksAre, IsBusy, IsBusyAt, IsOrderly}
use Rattle.pg_safe.specs.Moving.{is_empty, is_at_rest, is_settled, is_finished, CanMove, ArePicked, IsComplete}
use Rattle.pg_safe.proofs.Ends.{phase_lacks}
use Rattle.pg_safe.proofs.Heads.{IsHead, head_by, head_of, from_whom, own_sends, own_asks}
use Rattle.pg_safe.proofs.Race.{IsMet, meets}

-- Needs

zero_needs : (s : DirEntry) (e : Event) (c : ℕ) → s.sharers ≡ [] → acks_by_event e (length (without_core c s.sharers)) ≡ 0
zero_needs s Load c none = refl
zero_needs s Store c none = ap (λ xs. length (without_core c xs)) none
zero_needs s Evict c none = refl

-- where acknowledgements are needed there is a shared state
pub needs_shared : (d : Draft) (n : ℕ) (s : DirEntry) (q : Request) → IsShaped d → IsSound d n s → 1 ≤ acks_needed s q → (x : ℕ) × (shared d ≡ Some x)
needs_shared d n s q sh so some = at so.kind.0 so.kind.1
  where
    empty : s.sharers ≡ [] → (x : ℕ) × (shared d ≡ Some x)
    empty none = absurd (let zero_it = zero_needs s q.event q.core none in omega (arith, some, zero_it))

    at : (k : DirKind) → kind_is k d s.dir ≡ true → (x : ℕ) × (shared d ≡ Some x)
    at kind.Idle k = empty (so.idle k).1
    at kind.Shared k = sh.lists.has_shared s.dir (inl k)
    at kind.Owned k = empty (so.owned k).1
    at kind.Mixed k = sh.lists.has_shared s.dir (inr k)

-- What a pending core knows

-- acknowledgements add up for a pending store
pub adds_up : (p : DirOrder) (v : View) (x : Core) (acks last j : ℕ) (b : Bool) → AcksAre p v x acks last b → b ≡ true → last ≡ suc j → acks_needed (p.dir_entry j) (p.at j) ≡ x.line.got + acks + acks_owed p v j
adds_up p v x acks last j b h is at = let all = subst (λ b. AcksAre p v x acks last b) is h in subst (AddUp p v x acks) at all

-- a share that is put off is the last entry
put_off_last : (d : Draft) (n : ℕ) (w : World) (m : ℕ → Mark) (c : ℕ) → IsShaped d → IsOrderly d n w m → is_pending (core w c) ≡ true → (j f r i k2 : ℕ) → (m c).last ≤ j → j < (order_of d w).top
    → entry_message d (order_of d w) c j ≡ Some (Forward f r i k2) → has_class Share d f ≡ true → suc j ≡ (order_of d w).top
put_off_last d n w m c sh o pend j f r i k2 lo inside sends share =
    let p = order_of d w in
    let fw = forward_is d p c j f r i k2 sends in
    let not_inv = not_true (has_class Inv d f) (λ h. absurd (cc (one_class d f Inv Share h share))) in
    let on = passed_on d (p.dir_entry j) (p.at j) c f fw.sends not_inv in
    let un = unserved_is d p (view_of w m) j c f on.owner on.passed (inr (pend, omega (arith, lo))) in
    o.waiting.shares j f inside un on.passed share

-- where its acknowledgements aren't those that it needs there is a shared state
short_shared : (d : Draft) (n : ℕ) (w : World) (m : ℕ → Mark) (c : ℕ) → IsShaped d → IsKnown d n (order_of d w) → c < n → IsOrderly d n w m → is_pending (core w c) ≡ true → is_storing (core w c).line.desc ≡ true
    → (j : ℕ) → (m c).last ≡ suc j → acks_needed ((order_of d w).dir_entry j) ((order_of d w).at j) ≢ (core w c).line.got → is_some (shared d) ≡ true
short_shared d n w m c sh k low o pend store j last short =
    let p = order_of d w in
    let sum = adds_up p (view_of w m) (core w c) (tally (is_ack_to c) w.replies) (m c).last j (is_pending (core w c) && is_storing (core w c).line.desc) (o.answered c low).acks (rw (pend, store) refl) last in
    let upto = (o.placed c low).last_low in
    let some : 1 ≤ acks_needed (p.dir_entry j) (p.at j) = omega (arith, sum, short) in
    let (x, there) = needs_shared d n (p.dir_entry j) (p.at j) sh (k.sound j (omega (arith, last, upto))) some in
    rw there refl

own_stamp : (e : Event) (a : Option Action) (i k : ℕ) (x : Ordered) → own_message e a i k ≡ Some x → stamp_of x ≡ k
own_stamp Load a i k x h = ap stamp_of (own_asks Load a i k x (λ z. cc) h).1
own_stamp Store a i k x h = ap stamp_of (own_asks Store a i k x (λ z. cc) h).1
own_stamp Evict a i k x h = let same : x ≡ PutAck k = cc in ap stamp_of same

-- a message has the stamp of its entry
pub sent_stamp : (d : Draft) (p : DirOrder) (c g : ℕ) (q : Ordered) → entry_message d p c g ≡ Some q → stamp_of q ≡ suc g
sent_stamp d p c g q sends = elim (from_whom d p c g q sends) [
  | inl (own, h) ↦ own_stamp (p.at g).event (action_of d (p.dir_entry g) (p.at g)) (acks_needed (p.dir_entry g) (p.at g)) (suc g) q h
  | inr (f, r, i, k, is_it, fw) ↦ ap stamp_of is_it ∙ fw.stamp
]

-- a head at a core
pub head_met : (d : Draft) (n : ℕ) (w : World) (m : ℕ → Mark) (c g : ℕ) (q : Ordered) → IsShaped d → IsKnown d n (order_of d w) → c < n → IsOrderly d n w m → IsHead d (order_of d w) c (m c) g q
    → IsMet d (core w c).line (core w c).line.desc q (is_pending (core w c) ≡ true → suc g ≤ (m c).last)
head_met d n w m c g q sh k low o hd =
    meets d n (order_of d w) sh k c (core w c) (m c) (o.placed c low) g q hd (core w c).line.desc (core w c).slot (o.placed c low).line
    (λ pend. put_off_last d n w m c sh o pend) (λ pend store. short_shared d n w m c sh k low o pend store)

-- Who moves

enabled_by : (d : Draft) (pick : Picks) (w : World) (c : ℕ) (q : Ordered) (ms : List Ordered) → (core w c).queue ≡ q ∷ ms
    → ((ch : Choice) → pick (core w c).line.desc (ordered_input (core w c).line q) ≡ Some ch → list_any is_stall ch.acts ≡ false) → is_enabled pick w (Ordered_to c) ≡ true
enabled_by d pick w c q ms queue moves = ap (has_head pick (core w c).line) queue ∙ at (pick (core w c).line.desc (ordered_input (core w c).line q)) refl
  where
    at : (o : Option Choice) → pick (core w c).line.desc (ordered_input (core w c).line q) ≡ o → not (waits o) ≡ true
    at None e = refl
    at (Some ch) e = ap not (moves ch e)

-- it can move, or some core is pending whose entry is no later than this one
abbrev pub Wakes : Picks → ℕ → World → (ℕ → Mark) → ℕ → Type 0
Wakes pick n w m j = CanMove pick w ⊎ ((e : ℕ) × (e < n) × (is_pending (core w e) ≡ true) × ((m e).last ≤ j))

-- a core moves on a message that it hasn't seen, or waits for an earlier entry
sent_wakes : (d : Draft) (n : ℕ) (w : World) (m : ℕ → Mark) (pick : Picks) (e j : ℕ) (s : Ordered) → IsShaped d → IsKnown d n (order_of d w) → e < n → IsOrderly d n w m → ArePicked d pick n w
    → (m e).seen ≤ j → j < (order_of d w).top → entry_message d (order_of d w) e j ≡ Some s → CanMove pick w ⊎ ((is_pending (core w e) ≡ true) × ((m e).last ≤ j))
sent_wakes d n w m pick e j s sh k low o picks from inside sends =
    let (q, ms, g, queue, before, hd) = head_by d (order_of d w) e (core w e) (m e) j s (o.placed e low) from inside sends in
    at q ms g queue before (head_met d n w m e g q sh k low o hd) (is_pending (core w e)) refl
  where
    at : (q : Ordered) (ms : List Ordered) (g : ℕ) → (core w e).queue ≡ q ∷ ms → g ≤ j → IsMet d (core w e).line (core w e).line.desc q (is_pending (core w e) ≡ true → suc g ≤ (m e).last)
        → (b : Bool) → is_pending (core w e) ≡ b → CanMove pick w ⊎ ((is_pending (core w e) ≡ true) × ((m e).last ≤ j))
    at q ms g queue before met false idle = inl (
      Ordered_to e,
      refl,
      enabled_by d pick w e q ms queue
          (λ ch is. met.moves (λ pend. absurd (cc (pend, idle))) ch (picks e low (ordered_input (core w e).line q) ch is)),
    )
    at q ms g queue before met true pend = elim (let split : (suc g ≤ (m e).last) ⊎ ((m e).last ≤ g) = search arith in split) [
      | inl early ↦ inl (Ordered_to e, refl, enabled_by d pick w e q ms queue (λ ch is. met.moves (λ z. early) ch (picks e low (ordered_input (core w e).line q) ch is)))
      | inr late ↦ inr (pend, omega (arith, late, before))
    ]

-- an entry of another that sends a core a forward
pub sends_forward : (d : Draft) (p : DirOrder) (c j f : ℕ) → ((p.at j).core == c) ≡ false → forward_sent d (p.dir_entry j) (p.at j) c ≡ Some f
    → entry_message d p c j ≡ Some (Forward f (p.at j).core (acks_carried d (acks_needed (p.dir_entry j) (p.at j)) f) (suc j))
sends_forward d p c j f ne sends = rw (ne, sends) refl

pub open_at : (v : View) (j o : ℕ) → is_open_at v j (Some o) ≡ true → (v.seen o < suc j) ⊎ ((v.pending o ≡ true) × (v.last o < suc j))
open_at v j o h = elim (or_true (nat_lt (v.seen o) (suc j)) (v.pending o && nat_lt (v.last o) (suc j)) h) [
  | inl seen ↦ inl (ltb-true (v.seen o) (suc j) seen)
  | inr two ↦ let (pend, last) = and_true (v.pending o) (nat_lt (v.last o) (suc j)) two in inr (pend, ltb-true (v.last o) (suc j) last)
]

-- the owner of an entry that isn't served
unserved_wakes : (d : Draft) (n : ℕ) (w : World) (m : ℕ → Mark) (pick : Picks) (j : ℕ) → IsShaped d → IsKnown d n (order_of d w) → IsOrderly d n w m → ArePicked d pick n w
    → j < (order_of d w).top → is_unserved d (order_of d w) (view_of w m) j ≡ true → Wakes pick n w m j
unserved_wakes d n w m pick j sh k o picks inside un =
    let (own, f, owner, passes) = unserved_passed d p v j un in
    let low = ((k.sound j (omega (arith, inside))).owner own owner).0 in
    let opens : is_open_at v j (Some own) ≡ true = ap (is_open_at v j) (sym owner) ∙ (and_true (is_some (passed_forward d (p.dir_entry j) (p.at j))) (is_open_at v j (p.dir_entry j).owner) un).1 in
    elim (open_at v j own opens) [
      | inr (pend, last) ↦ inr (own, low, pend, omega (arith, last))
      | inl seen ↦ elim (sent_wakes d n w m pick own j (Forward f (p.at j).core (acks_carried d (acks_needed (p.dir_entry j) (p.at j)) f) (suc j)) sh k low o picks (omega (arith, seen)) inside
          (sends_forward d p own j f (passed_other d (p.dir_entry j) (p.at j) own f owner passes) (sym (passed_is d (p.dir_entry j) (p.at j) own owner) ∙ passes))) [
            | inl moves ↦ inl moves
            | inr (pend, last) ↦ inr (own, low, pend, last)
          ]
    ]
  where
    p : DirOrder
    p = order_of d w

    v : View
    v = view_of w m

-- Data that is due and isn't there

cond_zero : (b : Bool) → 0 ≡ cond {A = ℕ} b 1 0 → b ≡ false
cond_zero true h = cc
cond_zero false h = refl

brings : (o : Option Action) (dir : ℕ) (d : Draft) (name : ReplyName) → IsReplyBy d dir o name → o ≢ Some action.Count → brings_data o ≡ true
brings None dir d name h not_count = absurd h
brings (Some (action.Reply x)) dir d name h not_count = refl
brings (Some (action.Forward x)) dir d name h not_count = refl
brings (Some action.Count) dir d name h not_count = absurd (not_count refl)

-- a pending core that was granted nothing, whose entry brings data, waits for the owner
data_wakes : (d : Draft) (n : ℕ) (w : World) (m : ℕ → Mark) (pick : Picks) (c j : ℕ) → IsShaped d → IsKnown d n (order_of d w) → c < n → IsOrderly d n w m → ArePicked d pick n w → w.replies ≡ []
    → is_pending (core w c) ≡ true → is_granted (core w c).line.desc ≡ false → (m c).last ≡ suc j → ((order_of d w).at j).event ≢ Evict
    → action_of d ((order_of d w).dir_entry j) ((order_of d w).at j) ≢ Some action.Count → Wakes pick n w m j
data_wakes d n w m pick c j sh k low o picks empty pend ungranted last asks not_count =
    let upto = (o.placed c low).last_low in
    let inside : j < p.top = omega (arith, last, upto) in
    let (name, reply) = (k.handled j inside).replied asks in
    let there = brings (action_of d (p.dir_entry j) (p.at j)) (p.dir_entry j).dir d name reply not_count in
    let filled = (o.answered c low).filled in
    let none : 0 ≡ cond {A = ℕ} (is_data_due d p v (core w c) (suc j)) 1 0 =
    ap (tally (is_data_to c)) (sym empty) ∙ filled ∙ ap (λ k. cond {A = ℕ} (is_data_due d p v (core w c) k) 1 0) last in
    let due : is_data_due d p v (core w c) (suc j) ≡ not (is_unserved d p v j) = rw (pend, ungranted, there) refl in
    unserved_wakes d n w m pick j sh k o picks inside (not_not (is_unserved d p v j) (sym due ∙ cond_zero (is_data_due d p v (core w c) (suc j)) none))
  where
    p : DirOrder
    p = order_of d w

    v : View
    v = view_of w m

    not_not : (b : Bool) → not b ≡ false → b ≡ true
    not_not true h = refl
    not_not false h = cc

-- Acknowledgements that are owed

tally_member : (t : ℕ → Bool) (xs : List ℕ) → 1 ≤ tally t xs → (x : ℕ) × (is_among xs x ≡ true) × (t x ≡ true)
tally_member t [] h = absurd (omega (arith, h))
tally_member t (x ∷ xs) h = at (t x) refl h (tally_member t xs)
  where
    first : (x == x) ≡ true
    first = eq-eqb x x refl

    or_right : (a b : Bool) → b ≡ true → (a || b) ≡ true
    or_right true b e = refl
    or_right false b e = e

    at : (b : Bool) → t x ≡ b → 1 ≤ cond {A = ℕ} b 1 0 + tally t xs → (1 ≤ tally t xs → (y : ℕ) × (is_among xs y ≡ true) × (t y ≡ true)) → (y : ℕ) × (is_among (x ∷ xs) y ≡ true) × (t y ≡ true)
    at true e h below = (x, rw first refl, e)
    at false e h below = let (y, among, passes) = below (omega (arith, h)) in (y, or_right (x == y) (is_among xs y) among, passes)

-- a sharer that owes a store its answer
owed_wakes : (d : Draft) (n : ℕ) (w : World) (m : ℕ → Mark) (pick : Picks) (j : ℕ) → IsShaped d → IsKnown d n (order_of d w) → IsOrderly d n w m → ArePicked d pick n w → j < (order_of d w).top
    → ((order_of d w).at j).event ≡ Store → 1 ≤ acks_owed (order_of d w) (view_of w m) j → 1 ≤ acks_needed ((order_of d w).dir_entry j) ((order_of d w).at j) → Wakes pick n w m j
owed_wakes d n w m pick j sh k o picks inside store some need =
    let (e, among, waits_it) = tally_member (λ c. nat_lt (v.seen c) (suc j)) (without_core (p.at j).core (p.dir_entry j).sharers) some in
    by e among (ltb-true (v.seen e) (suc j) waits_it) ((p.at j).core == e) refl
  where
    p : DirOrder
    p = order_of d w

    v : View
    v = view_of w m

    s : DirEntry
    s = p.dir_entry j

    by : (e : ℕ) → is_among (without_core (p.at j).core s.sharers) e ≡ true → v.seen e < suc j → (b : Bool) → ((p.at j).core == e) ≡ b → Wakes pick n w m j
    by e among seen true same = absurd (
        let is : (p.at j).core ≡ e = eqb-true (p.at j).core e same in
        let none = among_without_same (p.at j).core s.sharers in
        let there = subst (λ e. is_among (without_core (p.at j).core s.sharers) e ≡ true) (sym is) among in cc (none, there))
    by e among seen false ne =
        let shares : is_among s.sharers e ≡ true = sym (among_without_other (p.at j).core e s.sharers ne) ∙ among in
        let (x, there) = needs_shared d n s (p.at j) sh (k.sound j (omega (arith, inside))) need in
        let (f, inv) = sh.forwards.inv x there in
        let (r, row) = (k.handled j inside).row (λ z. absurd (let y : Store ≡ Evict = sym store ∙ z in cc)) in
        let by_row : forward_by_row d s (p.at j) e r ≡ forward_of d Inv = rw (ne, store, shares) refl in
        let sends : forward_sent d s (p.at j) e ≡ Some f = ap (λ (t : Option RowLine). option_and_then (forward_by_row d s (p.at j) e) t) row ∙ by_row ∙ inv in
        let low = among_below n e s.sharers (k.sound j (omega (arith, inside))).inside shares in
        elim (sent_wakes d n w m pick e j (Forward f (p.at j).core (acks_carried d (acks_needed s (p.at j)) f) (suc j)) sh k low o picks (omega (arith, seen)) inside (sends_forward d p e j f ne sends)) [
          | inl moves ↦ inl moves
          | inr (pend, last) ↦ inr (e, low, pend, last)
        ]

-- Pending cores

-- something of a stretch is sent, or nothing
some_or_none : {X : Type 0} (to : ℕ → Option X) (a b : ℕ) → ((j : ℕ) × (x : X) × (a ≤ j) × (j < b) × (to j ≡ Some x)) ⊎ ((j : ℕ) → a ≤ j → j < b → to j ≡ None)
some_or_none to a zero = inr (λ j lo hi. absurd (omega (arith, hi)))
some_or_none {X = X} to a (suc b) = elim (some_or_none to a b) [
  | inl (j, x, lo, hi, sends) ↦ inl (j, x, lo, omega (arith, hi), sends)
  | inr none ↦ at (to b) refl none
]
  where
    which : (j b : ℕ) → j < suc b → (j < b) ⊎ (j ≡ b)
    which j b lt = search arith

    at : (o : Option X) → to b ≡ o → ((j : ℕ) → a ≤ j → j < b → to j ≡ None) → ((j : ℕ) × (x : X) × (a ≤ j) × (j < suc b) × (to j ≡ Some x)) ⊎ ((j : ℕ) → a ≤ j → j < suc b → to j ≡ None)
    at None is none = inr (λ j lo lt. elim (which j b lt) [ inl l ↦ none j lo l | inr q ↦ ap to q ∙ is ])
    at (Some x) is none = elim (let split : (a ≤ b) ⊎ (b < a) = search arith in split) [
      | inl lo ↦ inl (b, x, lo, omega arith, is)
      | inr hi ↦ inr (λ j lo lt. absurd (omega (arith, lo, lt, hi)))
    ]

-- who was granted nothing and is in its first phase, ahead of its entry, was no owner then
first_counts_not : (d : Draft) (e : Event) (s : ℕ) (ph : Phase) → IsShaped d → IsPhase d e s ph → is_granted (Ask e s ph Rattle.pg_table.specs.declared.cache.Tag.TheVariants.Plain) ≡ false → cache_is (λ c. is_owner c.role) d s ≡ true → ⊥
first_counts_not d Load s D sh h g owner = let may = owner_allows_load d s sh.perms owner in let lacks = out_loads d sh s (is_same (out d) s h.0.0) in cc (may, lacks)
first_counts_not d Load s Ad sh h g owner = let x = h.0.1 in cc
first_counts_not d Load s Ac sh h g owner = absurd h.1
first_counts_not d Store s D sh h g owner = let phase : store_phase d s ≡ Ac = rw owner refl in let x = h.0.1 in cc (phase, x)
first_counts_not d Store s Ad sh h g owner = let phase : store_phase d s ≡ Ac = rw owner refl in let x = h.0.1 in cc (phase, x)
first_counts_not d Store s Ac sh h g owner = absurd h.1
first_counts_not d Evict s D sh h g owner = absurd h.0
first_counts_not d Evict s Ad sh h g owner = absurd h.0
first_counts_not d Evict s Ac sh h g owner = absurd h.0
first_counts_not d e s A sh h g owner = cc

same_granted : (e : Event) (s : ℕ) (ph : Phase) (t u : Tag) → is_granted (Ask e s ph t) ≡ is_granted (Ask e s ph u)
same_granted e s D t u = refl
same_granted e s Ad t u = refl
same_granted e s Ac t u = refl
same_granted e s A t u = refl

pub pending_wakes : (d : Draft) (n : ℕ) (w : World) (m : ℕ → Mark) (pick : Picks) (c : ℕ) → IsShaped d → IsKnown d n (order_of d w) → c < n → IsOrderly d n w m → ArePicked d pick n w → w.replies ≡ []
    → is_pending (core w c) ≡ true → CanMove pick w ⊎ ((e : ℕ) × (e < n) × (is_pending (core w e) ≡ true) × ((m e).last < (m c).last))
pending_wakes d n w m pick c sh k low o picks empty pend = by (core w c).line.desc refl (core w c).slot refl pl.line
  where
    p : DirOrder
    p = order_of d w

    pl : IsPlaced d p c (core w c) (m c)
    pl = o.placed c low

    Result : Type 0
    Result = CanMove pick w ⊎ ((e : ℕ) × (e < n) × (is_pending (core w e) ≡ true) × ((m e).last < (m c).last))

    at_entry : (j : ℕ) → (m c).last ≡ suc j → Wakes pick n w m j → Result
    at_entry j last (inl moves) = inl moves
    at_entry j last (inr (e, below, pend, lt)) = inr (e, below, pend, omega (arith, last, lt))

    inside : (j : ℕ) → (m c).last ≡ suc j → j < p.top
    inside j last = let upto = pl.last_low in omega (arith, last, upto)

    -- a line that is level
    level : (e : Event) → IsOrdered p (m c) e → (m c).seen < (m c).last → is_granted (core w c).line.desc ≡ false → Result
    level e od behind ungranted =
        let last = od.last in
        elim (some_or_none (entry_message d p c) (m c).seen (suc od.entry)) [
          | inl (j, x, lo, hi, sends) ↦ elim (sent_wakes d n w m pick c j x sh k low o picks lo (let there = inside od.entry last in omega (arith, hi, there)) sends) [
            | inl moves ↦ inl moves
            | inr (z, late) ↦ absurd (omega (arith, late, hi, last))
          ]
          | inr quiet ↦
              let none = sym (own_sends d p c od.entry (pl.last_own od.entry last)) ∙ quiet od.entry (omega (arith, behind, last)) (omega arith) in
              at_entry od.entry last (data_wakes d n w m pick c od.entry sh k low o picks empty pend ungranted last
              (λ evict. let x = ap (λ e. own_message e (action_of d (p.dir_entry od.entry) (p.at od.entry)) (acks_needed (p.dir_entry od.entry) (p.at od.entry)) (suc od.entry)) (sym evict) ∙ none in cc)
              (λ count. not_counted (p.at od.entry).event od.entry none count))
        ]
      where
        not_counted : (e : Event) (j : ℕ) → own_message e (action_of d (p.dir_entry j) (p.at j)) (acks_needed (p.dir_entry j) (p.at j)) (suc j) ≡ None → action_of d (p.dir_entry j) (p.at j) ≡ Some action.Count → ⊥
        not_counted Load j none count = let x = ap (λ a. own_message Load a (acks_needed (p.dir_entry j) (p.at j)) (suc j)) (sym count) ∙ none in cc
        not_counted Store j none count = let x = ap (λ a. own_message Store a (acks_needed (p.dir_entry j) (p.at j)) (suc j)) (sym count) ∙ none in cc
        not_counted Evict j none count = cc

    -- one that is ahead
    ahead : (e : Event) (s : ℕ) (ph : Phase) (t : Tag) → (core w c).line.desc ≡ Ask e s ph t → IsAhead d p c (core w c).line (m c) e s ph t → (b : Bool) → is_granted (Ask e s ph t) ≡ b → Result
    ahead e s ph t desc a false ungranted =
        let last = a.ordered.last in
        let (asks, lacks) = phase_lacks d e s ph sh a.phase in
        at_entry a.ordered.entry last (data_wakes d n w m pick c a.ordered.entry sh k low o picks empty pend (ap is_granted desc ∙ ungranted) last (λ evict. asks (sym a.ordered.event ∙ evict))
        (λ count.
        let owns = (k.handled a.ordered.entry (inside a.ordered.entry last)).counted count in
        let own = pl.last_own a.ordered.entry last in
        let listed = ap (λ u. fits_as d (p.dir_entry a.ordered.entry).dir u s) (sym (ap (who (p.dir_entry a.ordered.entry)) (sym own) ∙ owns)) ∙ a.state in
        first_counts_not d e s ph sh a.phase (same_granted e s ph Rattle.pg_table.specs.declared.cache.Tag.TheVariants.Plain t ∙ ungranted) (sh.lists.lists_owners (p.dir_entry a.ordered.entry).dir s listed)))
    ahead e s A t desc a true granted =
        let last = a.ordered.last in
        let store : is_storing (core w c).line.desc ≡ true = ap is_storing desc ∙ ap (λ e. is_storing (Ask e s A t)) a.phase.0 in
        let sum = adds_up p (view_of w m) (core w c) (tally (is_ack_to c) w.replies) (m c).last a.ordered.entry (is_pending (core w c) && is_storing (core w c).line.desc) (o.answered c low).acks (rw (pend, store) refl) last in
        let none : tally (is_ack_to c) w.replies ≡ 0 = ap (tally (is_ack_to c)) empty in
        let apart = a.need.1 in
        at_entry a.ordered.entry last (owed_wakes d n w m pick a.ordered.entry sh k o picks (inside a.ordered.entry last) (a.ordered.event ∙ a.phase.0) (omega (arith, sum, none, apart)) (omega (arith, sum, none, apart)))
    ahead e s D t desc a true granted = cc
    ahead e s Ad t desc a true granted = cc
    ahead e s Ac t desc a true granted = cc

    asking : (e : Event) (s : ℕ) (ph : Phase) (t : Tag) → (core w c).line.desc ≡ Ask e s ph t → (b : Bool) → is_ahead ph t ≡ b → IsAsking d p c (core w c).line (m c) e s ph t b → Result
    asking e s ph t desc true is a = ahead e s ph t desc a (is_granted (Ask e s ph t)) refl
    asking e s ph t desc false is a = level e a.2 a.3 (ap is_granted desc ∙ not_granted ph t is)
      where
        not_granted : (ph : Phase) (t : Tag) → is_ahead ph t ≡ false → is_granted (Ask e s ph t) ≡ false
        not_granted D t is = refl
        not_granted Ad t is = refl
        not_granted Ac t is = refl
        not_granted A t is = cc

    by : (x : Desc) → (core w c).line.desc ≡ x → (slot : Option SentRequest) → (core w c).slot ≡ slot → IsLined d p c (core w c).line (m c) x slot → Result
    by x desc (Some a) slot h = absurd (let idle : is_pending (core w c) ≡ false = ap (λ o. not (is_stable (core w c).line.desc) && is_none o) slot ∙ and_false (not (is_stable (core w c).line.desc)) in cc (idle, pend))
      where
        and_false : (b : Bool) → (b && false) ≡ false
        and_false true = refl
        and_false false = refl
    by (Stable s) desc None slot h = absurd (let idle : is_pending (core w c) ≡ false = rw desc refl in cc (idle, pend))
    by (Leave s) desc None slot h = level Evict h.2 h.3 (ap is_granted desc)
    by (Ask e s ph t) desc None slot h = asking e s ph t desc (is_ahead ph t) refl h.1

-- the first reply can be delivered
reply_moves : (pick : Picks) (w : World) (x : Reply) (xs : List Reply) → w.replies ≡ x ∷ xs → CanMove pick w
reply_moves pick w x xs is = (Reply_at 0, refl, lt-ltb 0 (length w.replies) (let some : length w.replies ≡ length (x ∷ xs) = ap length is in omega (arith, some)))

-- by the smallest last stamp
pub pending_moves : (d : Draft) (n : ℕ) (w : World) (m : ℕ → Mark) (pick : Picks) → IsShaped d → IsKnown d n (order_of d w) → IsOrderly d n w m → ArePicked d pick n w → w.replies ≡ []
    → (bound c : ℕ) → c < n → is_pending (core w c) ≡ true → (m c).last < bound → CanMove pick w
pending_moves d n w m pick sh k o picks empty zero c low pend lt = absurd (omega (arith, lt))
pending_moves d n w m pick sh k o picks empty (suc bound) c low pend lt = elim (pending_wakes d n w m pick c sh k low o picks empty pend) [
  | inl moves ↦ moves
  | inr (e, below, waits_it, less) ↦ pending_moves d n w m pick sh k o picks empty bound e below waits_it (omega (arith, less, lt))
]

-- A pending core is enough

pub some_pending : (d : Draft) (n : ℕ) (w : World) (m : ℕ → Mark) (pick : Picks) (c : ℕ) → IsShaped d → IsKnown d n (order_of d w) → IsOrderly d n w m → ArePicked d pick n w → c < n → is_pending (core w c) ≡ true → CanMove pick w
some_pending d n w m pick c sh k o picks low pend = at w.replies refl
  where
    at : (xs : List Reply) → w.replies ≡ xs → CanMove pick w
    at [] is = pending_moves d n w m pick sh k o picks is (suc (m c).last) c low pend (omega arith)
    at (x ∷ xs) is = reply_moves pick w x xs is

-- Any world

busy_moves : (d : Draft) (n : ℕ) (w : World) (m : ℕ → Mark) (pick : Picks) → IsShaped d → IsKnown d n (order_of d w) → IsOrderly d n w m → ArePicked d pick n w → is_busy w.directory.desc ≡ true → CanMove pick w
busy_moves d n w m pick sh k o picks busy = at w.replies refl
  where
    p : DirOrder
    p = order_of d w

    cond_one : (b : Bool) → 0 ≡ cond {A = ℕ} b 0 1 → b ≡ true
    cond_one true h = refl
    cond_one false h = cc

    by : (t : ℕ) → p.top ≡ t → IsBusyAt d p (view_of w m) (tally is_write_back w.replies) t → w.replies ≡ [] → CanMove pick w
    by zero top h empty = absurd h
    by (suc j) top h empty =
        let inside : j < p.top = omega (arith, top) in
        let un = cond_one (is_unserved d p (view_of w m) j) (ap (tally is_write_back) (sym empty) ∙ h.1) in
        some_pending d n w m pick (p.at j).core sh k o picks (k.past.inside j inside) (o.waiting.forwards j inside un).1

    at : (xs : List Reply) → w.replies ≡ xs → CanMove pick w
    at [] is = by p.top refl (subst (IsBusy d p (view_of w m) (tally is_write_back w.replies)) busy o.busy) is
    at (x ∷ xs) is = reply_moves pick w x xs is

core_moves : (d : Draft) (n : ℕ) (w : World) (m : ℕ → Mark) (pick : Picks) (c : ℕ) → IsShaped d → IsKnown d n (order_of d w) → IsOrderly d n w m → ArePicked d pick n w → c < n → is_at_rest (core w c) ≡ false → CanMove pick w
core_moves d n w m pick c sh k o picks low busy = by_slot (core w c).slot refl
  where
    free : (b : Bool) → is_busy w.directory.desc ≡ b → is_some (core w c).slot ≡ true → CanMove pick w
    free true is some = busy_moves d n w m pick sh k o picks is
    free false is some = (Request_of c, refl, rw (some, is) refl)

    by_queue : is_none (core w c).slot ≡ true → is_stable (core w c).line.desc ≡ true → (xs : List Ordered) → (core w c).queue ≡ xs → CanMove pick w
    by_queue none stable [] is = absurd (let rest : is_at_rest (core w c) ≡ true = rw (stable, none, is) refl in cc (rest, busy))
    by_queue none stable (q ∷ ms) is =
        let (g, hd) = head_of d (order_of d w) c (core w c) (m c) q ms (o.placed c low) is in
        let met = head_met d n w m c g q sh k low o hd in
        let idle : is_pending (core w c) ≡ false = ap (λ b. not b && is_none (core w c).slot) stable in
        (Ordered_to c, refl, enabled_by d pick w c q ms is (λ ch e. met.moves (λ pend. absurd (cc (pend, idle))) ch (picks c low (ordered_input (core w c).line q) ch e)))

    by_line : is_none (core w c).slot ≡ true → (b : Bool) → is_stable (core w c).line.desc ≡ b → CanMove pick w
    by_line none false unstable = some_pending d n w m pick c sh k o picks low (rw (unstable, none) refl)
    by_line none true stable = by_queue none stable (core w c).queue refl

    by_slot : (s : Option SentRequest) → (core w c).slot ≡ s → CanMove pick w
    by_slot (Some a) is = free (is_busy w.directory.desc) refl (rw is refl)
    by_slot None is = by_line (rw is refl) (is_stable (core w c).line.desc) refl

some_not : (t : Core → Bool) (xs : List Core) → list_all t xs ≡ false → (k : ℕ) × (k < length xs) × (t (get_or xs k idle_core) ≡ false)
some_not t [] h = cc
some_not t (x ∷ xs) h = at (t x) refl h (some_not t xs)
  where
    at : (b : Bool) → t x ≡ b → (b && list_all t xs) ≡ false → (list_all t xs ≡ false → (k : ℕ) × (k < length xs) × (t (get_or xs k idle_core) ≡ false)) → (k : ℕ) × (k < length (x ∷ xs)) × (t (get_or (x ∷ xs) k idle_core) ≡ false)
    at true e h below = let (k, lt, not_it) = below h in (suc k, omega (arith, lt), not_it)
    at false e h below = (0, omega arith, e)

-- a world in which something is under way can move
pub never_stuck : (d : Draft) (n : ℕ) (w : World) (m : ℕ → Mark) (pick : Picks) → IsWellFormed d → IsShaped d → IsOrderly d n w m → ArePicked d pick n w → is_settled w ≡ false → CanMove pick w
never_stuck d n w m pick wf sh o picks unsettled = at (list_all is_at_rest w.cores) refl
  where
    k : IsKnown d n (order_of d w)
    k = known d n (order_of d w) wf sh o.past

    directory : (b : Bool) → is_busy w.directory.desc ≡ b → list_all is_at_rest w.cores ≡ true → is_empty w.replies ≡ true → CanMove pick w
    directory true is rest none = busy_moves d n w m pick sh k o picks is
    directory false is rest none = absurd (let settled : is_settled w ≡ true = rw (rest, none, is) refl in cc (settled, unsettled))

    replies : (xs : List Reply) → w.replies ≡ xs → list_all is_at_rest w.cores ≡ true → CanMove pick w
    replies [] is rest = directory (is_busy w.directory.desc) refl rest (rw is refl)
    replies (x ∷ xs) is rest = reply_moves pick w x xs is

    at : (b : Bool) → list_all is_at_rest w.cores ≡ b → CanMove pick w
    at true rest = replies w.replies refl rest
    at false some = let (c, lt, busy) = some_not is_at_rest w.cores some in let cores = o.cores in core_moves d n w m pick c sh k o picks (omega (arith, lt, cores)) busy

-- and one that isn't finished has an enabled event
pub unfinished_moves : (d : Draft) (n : ℕ) (w : World) (m : ℕ → Mark) (pick : Picks) → IsWellFormed d → IsShaped d → IsOrderly d n w m → ArePicked d pick n w → is_finished w ≡ false
    → (e : WorldEvent) × (is_enabled pick w e ≡ true)
unfinished_moves d n w m pick wf sh o picks unfinished = at (is_settled w) refl
  where
    left : (xs : List Rattle.pg_perm.specs.declared.kinds.Op.Op) → is_empty xs ≡ false → 0 < length xs
    left [] h = cc
    left (x ∷ xs) h = omega arith

    at : (b : Bool) → is_settled w ≡ b → (e : WorldEvent) × (is_enabled pick w e ≡ true)
    at false unsettled = let (e, kind, on) = never_stuck d n w m pick wf sh o picks unsettled in (e, on)
    at true settled =
        let some : list_all (λ x. is_empty x.left) w.cores ≡ false = ap (λ b. b && list_all (λ (x : Core). is_empty x.left) w.cores) (sym settled) ∙ unfinished in
        let (c, lt, more) = some_not (λ x. is_empty x.left) w.cores some in
        let stable : is_stable (core w c).line.desc ≡ true = all_stable w.cores c lt (and_true (list_all is_at_rest w.cores) (is_empty w.replies) (and_true (list_all is_at_rest w.cores && is_empty w.replies) (not (is_busy w.directory.desc)) settled).0).0 in
        (Issue c, rw (stable, lt-ltb 0 (length (core w c).left) (left (core w c).left more)) refl)
      where
        all_stable : (xs : List Core) (c : ℕ) → c < length xs → list_all is_at_rest xs ≡ true → is_stable (get_or xs c idle_core).line.desc ≡ true
        all_stable [] c lt h = absurd (omega (arith, lt))
        all_stable (x ∷ xs) zero lt h = (and_true (is_stable x.line.desc) (is_none x.slot) (and_true (is_stable x.line.desc && is_none x.slot) (is_empty x.queue) (and_true (is_at_rest x) (list_all is_at_rest xs) h).0).0).0
        all_stable (x ∷ xs) (suc c) lt h = all_stable xs c (omega (arith, lt)) (and_true (is_at_rest x) (list_all is_at_rest xs) h).1

-- a sound table picks among the choices
pub tables_pick : (d : Draft) (t : List TableState) (n : ℕ) (w : World) → IsSoundCache d t → IsComplete t n w → ArePicked d (picked t) n w
tables_pick d t n w sound h c low i ch e = picks_choice d t (core w c).line.desc i ch sound (h.states c low) e

-- of the heads only one that is later than the operation of its pending core may wait
pub early_moves : (d : Draft) (t : List TableState) (n : ℕ) (w : World) (m : ℕ → Mark) (c : ℕ) (q : Ordered) (ms : List Ordered) → IsWellFormed d → IsShaped d → IsSoundCache d t → IsOrderly d n w m → IsComplete t n w → c < n
    → (core w c).queue ≡ q ∷ ms → (is_pending (core w c) ≡ true → stamp_of q ≤ (m c).last) → is_enabled (picked t) w (Ordered_to c) ≡ true
early_moves d t n w m c q ms wf sh sound o full low queue early =
    let k = known d n (order_of d w) wf sh o.past in
    let (g, hd) = head_of d (order_of d w) c (core w c) (m c) q ms (o.placed c low) queue in
    let met = head_met d n w m c g q sh k low o hd in
    let stamp = sent_stamp d (order_of d w) c g q hd.sends in
    enabled_by d (picked t) w c q ms queue (λ ch e. met.moves (λ pend. let le = early pend in omega (arith, le, stamp)) ch (tables_pick d t n w sound full c low (ordered_input (core w c).line q) ch e))
