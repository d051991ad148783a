-- How many messages there are: each names a core, and a core is named by no more than n.
use Rattle.std.proofs.Common.{◌≡◌, ℕ, zero, suc, ◌+◌, ◌*◌, ◌<◌, ◌≤◌, arith, Bool, true, false, ◌&&◌, not, cond, List, [], ◌∷◌, length, Option, Some, None, refl, sym, ap, subst, ◌∙◌, ◌⊎◌, inl, inr}
use Rattle.std.specs.Prelude.{◌==◌, nat_lt, filter, is_none}
use Rattle.std.proofs.lemmas.Bool.{eqb-true, eq-eqb, lt-ltb}
use Rattle.pg_perm.proofs.Booleans.{and_true}
use Rattle.pg_perm.specs.declared.kinds.Event.{Event}
use Rattle.pg_perm.specs.declared.kinds.Event.TheVariants.{Load, Store, Evict}
use Rattle.pg_perm.specs.declared.kinds.FwdClass.TheVariants.{Inv}
use Rattle.pg_perm.specs.declared.draft.Draft.{Draft}
use Rattle.pg_perm.specs.declared.draft.Action.{Action}
use Rattle.pg_perm.specs.declared.draft.Action.TheVariants as action
use Rattle.pg_perm.specs.Drafts.{IsWellFormed}
use Rattle.pg_terms.specs.Terms.{has_class}
use Rattle.pg_shape.specs.Shaped.{IsShaped}
use Rattle.pg_shape.proofs.Bools.{and_of_both, true_not}
use Rattle.pg_directory.specs.DirEntries.{is_among, without_core}
use Rattle.pg_directory.specs.Sends.{forward_sent}
use Rattle.pg_directory.specs.Requests.{action_of}
use Rattle.pg_table.specs.declared.cache.Desc.{Desc}
use Rattle.pg_table.specs.declared.cache.Desc.TheVariants.{Stable, Ask, Leave}
use Rattle.pg_table.proofs.Lists.{IsIn}
use Rattle.pg_messages.specs.declared.messages.Ordered.{Ordered}
use Rattle.pg_messages.specs.declared.messages.Ordered.TheVariants.{PutAck}
use Rattle.pg_order.specs.Messages.{put, sent_between, tally}
use Rattle.pg_order.specs.Orders.{DirOrder, entry_message, acks_needed, acks_by_event, own_message}
use Rattle.pg_order.specs.Views.{View, is_unserved, IsWaitedFor, acks_owed}
use Rattle.pg_order.proofs.Known.{IsKnown, known}
use Rattle.pg_order.proofs.Invs.{inv_shares}
use Rattle.pg_order.proofs.NoOvertaking.{unserved_is, unserved_passed}
use Rattle.pg_order.proofs.Passed.{IsPassedOn, passed_on, queued_unserved}
use Rattle.pg_messages.specs.declared.messages.Ask.{Ask as SentRequest}
use Rattle.pg_messages.specs.declared.messages.Reply.{Reply}
use Rattle.pg_messages.specs.declared.messages.Reply.TheVariants.{Data, InvAck, WbData}
use Rattle.pg_controllers.specs.Networks.{Line, Core, idle_core}
use Rattle.pg_controllers.specs.Directories.{is_busy}
use Rattle.pg_controllers.specs.Worlds.{World, core, order_of, is_stable}
use Rattle.pg_orderly.specs.Orderly.{Mark, is_pending, view_of, is_deferred, is_ahead, IsAsking, IsLined, IsPlaced, is_storing, is_granted, brings_data, is_data_to, is_ack_to, is_write_back, is_data_due, ArePromised, AcksAre, IsBusy, IsBusyAt, IsOrderly}
use Rattle.pg_orderly.proofs.Handled.{not_due}
use Rattle.pg_safe.specs.Names.{names}
use Rattle.pg_safe.specs.Work.{total}
use Rattle.pg_safe.proofs.Counting.{without_length}
use Rattle.pg_safe.proofs.Ends.{none_after}
use Rattle.pg_safe.proofs.Heads.{own_last, from_whom, own_sends, own_asks, in_between}
use Rattle.pg_safe.proofs.Replies.{evict_acts_not}
use Rattle.pg_safe.proofs.Sums.{sum, one_if, sum_most, sum_add, sum_swap, total_sum, sum_none, sum_one, sum_some, sum_among, named_length, tally_length, sum_square}
use Rattle.pg_safe.proofs.Waiting.{adds_up}

-- What one entry sends is counted at most once

-- what passes comes from entry j alone: there is none, or one
abbrev pub One : {X : Type 0} → (X → Bool) → (ℕ → Option X) → ℕ → ℕ → ℕ → Type 0
One {X = X} t to a n j = (tally t (sent_between to a n) ≡ 0) ⊎ ((tally t (sent_between to a n) ≡ 1) × (x : X) × (a ≤ j) × (j < a + n) × (to j ≡ Some x) × (t x ≡ true))

pub between_one : {X : Type 0} (t : X → Bool) (to : ℕ → Option X) (a n j : ℕ) → ((i : ℕ) (x : X) → a ≤ i → i < a + n → to i ≡ Some x → t x ≡ true → i ≡ j) → One t to a n j
between_one t to a zero j h = inl refl
between_one {X = X} t to a (suc n) j h = at (to a) refl (between_one t to (suc a) n j (λ i x lo hi. h i x (omega (arith, lo)) (omega (arith, hi))))
  where
    Result : Option X → Type 0
    Result o = (tally t (put o (sent_between to (suc a) n)) ≡ 0) ⊎ ((tally t (put o (sent_between to (suc a) n)) ≡ 1) × (x : X) × (a ≤ j) × (j < a + suc n) × (to j ≡ Some x) × (t x ≡ true))

    skip : One t to (suc a) n j → (tally t (sent_between to (suc a) n) ≡ 0) ⊎ ((tally t (sent_between to (suc a) n) ≡ 1) × (x : X) × (a ≤ j) × (j < a + suc n) × (to j ≡ Some x) × (t x ≡ true))
    skip (inl none) = inl none
    skip (inr (one, x, lo, hi, sends, passes)) = inr (one, x, omega (arith, lo), omega (arith, hi), sends, passes)

    which : (x : X) → to a ≡ Some x → (b : Bool) → t x ≡ b → One t to (suc a) n j → (one_if b + tally t (sent_between to (suc a) n) ≡ 0) ⊎ ((one_if b + tally t (sent_between to (suc a) n) ≡ 1) × (x : X) × (a ≤ j) × (j < a + suc n) × (to j ≡ Some x) × (t x ≡ true))
    which x sends false fails rest = elim (skip rest) [ inl none ↦ inl (omega (arith, none)) | inr (one, y, lo, hi, sends, passes) ↦ inr (omega (arith, one), y, lo, hi, sends, passes) ]
    which x sends true passes rest =
        let same : a ≡ j = h a x (omega arith) (omega arith) sends passes in
        elim rest [
          | inl none ↦ inr (omega (arith, none), x, omega (arith, same), omega (arith, same), ap to (sym same) ∙ sends, passes)
          | inr (one, y, lo, hi, sends, passes) ↦ absurd (omega (arith, lo, same))
        ]

    at : (o : Option X) → to a ≡ o → One t to (suc a) n j → Result o
    at None is rest = skip rest
    at (Some x) is rest = which x is (t x) refl rest

-- Who is named

idle_behind : (d : Draft) (p : DirOrder) (c : ℕ) (l : Line) (m : Mark) (x : Desc) (slot : Option SentRequest) → IsLined d p c l m x slot → (not (is_stable x) && is_none slot) ≡ false → m.last ≤ m.seen
idle_behind d p c l m (Stable s) None h idle = h.2
idle_behind d p c l m (Stable s) (Some a) h idle = absurd h
idle_behind d p c l m (Ask e s ph t) None h idle = cc
idle_behind d p c l m (Ask e s ph t) (Some a) h idle = h.5
idle_behind d p c l m (Leave s) None h idle = cc
idle_behind d p c l m (Leave s) (Some a) h idle = h.3

own_names : (e : ℕ) (ev : Event) (a : Option Action) (n k : ℕ) (x : Ordered) → own_message ev a n k ≡ Some x → names e x ≡ e
own_names e Load a n k x h = ap (names e) (own_asks Load a n k x (λ z. cc) h).1
own_names e Store a n k x h = ap (names e) (own_asks Store a n k x (λ z. cc) h).1
own_names e Evict a n k x h = let same : x ≡ PutAck k = cc in ap (names e) same

-- a message of entry i that is still in a queue names the core of the entry, which waits for it
pub named_waits : (d : Draft) (n : ℕ) (w : World) (m : ℕ → Mark) (e i : ℕ) (x : Ordered) → IsOrderly d n w m → e < n → (m e).seen ≤ i → i < (order_of d w).top → entry_message d (order_of d w) e i ≡ Some x
    → (((order_of d w).at i).core ≡ names e x) × IsWaitedFor (order_of d w) (view_of w m) i
named_waits d n w m e i x o low from inside sends = elim (from_whom d p e i x sends) [
  | inl (own, h) ↦
      let last = own_last d p e (core w e) (m e) i pl from inside own in
      let named = own_names e (p.at i).event (action_of d (p.dir_entry i) (p.at i)) (acks_needed (p.dir_entry i) (p.at i)) (suc i) x h in
      (own ∙ sym named, (ap (λ c. (m c).last) own ∙ last, ap (λ c. is_pending (core w c)) own ∙ pends (is_pending (core w e)) refl last))
  | inr (f, r, k1, k2, is_it, fw) ↦ (sym (ap (names e) is_it ∙ fw.asker), waits f (has_class Inv d f) refl fw.sends)
]
  where
    p : DirOrder
    p = order_of d w

    pl : IsPlaced d p e (core w e) (m e)
    pl = o.placed e low

    pends : (b : Bool) → is_pending (core w e) ≡ b → (m e).last ≡ suc i → b ≡ true
    pends true is last = refl
    pends false is last = absurd (let behind = idle_behind d p e (core w e).line (m e) (core w e).line.desc (core w e).slot pl.line is in omega (arith, behind, last, from))

    waits : (f : ℕ) → (b : Bool) → has_class Inv d f ≡ b → forward_sent d (p.dir_entry i) (p.at i) e ≡ Some f → IsWaitedFor p (view_of w m) i
    waits f true inv to = o.waiting.invs i e f inside to inv (omega (arith, from))
    waits f false not_inv to = o.waiting.forwards i inside (queued_unserved d p (view_of w m) e i f (passed_on d (p.dir_entry i) (p.at i) e f to not_inv) from)

-- how often a queue names a core: once at most, by the core's last entry
queue_names : (d : Draft) (n : ℕ) (w : World) (m : ℕ → Mark) (e c j : ℕ) → IsOrderly d n w m → e < n → (is_pending (core w c) ≡ true → (m c).last ≡ suc j)
    → (tally (λ x. names e x == c) (core w e).queue ≡ 0)
    ⊎ ((tally (λ x. names e x == c) (core w e).queue ≡ 1) × (is_pending (core w c) ≡ true) × (x : Ordered) × ((m e).seen ≤ j) × (j < (order_of d w).top) × (entry_message d (order_of d w) e j ≡ Some x) × (((order_of d w).at j).core ≡ c))
queue_names d n w m e c j o low last = elim (between_one (λ x. names e x == c) (entry_message d p e) (m e).seen pl.rest j (λ i x lo hi sends passes. same i x lo (omega (arith, hi, upto)) sends passes)) [
  | inl none ↦ inl (ap (tally (λ x. names e x == c)) pl.queue ∙ none)
  | inr (one, x, lo, hi, sends, passes) ↦
      let inside : j < p.top = omega (arith, hi, upto) in
      let (named, wait) = named_waits d n w m e j x o low lo inside sends in
      let is_c : (p.at j).core ≡ c = named ∙ eqb-true (names e x) c passes in
      inr (ap (tally (λ x. names e x == c)) pl.queue ∙ one, ap (λ c. is_pending (core w c)) (sym is_c) ∙ wait.1, x, lo, inside, sends, is_c)
]
  where
    p : DirOrder
    p = order_of d w

    pl : IsPlaced d p e (core w e) (m e)
    pl = o.placed e low

    upto : (m e).seen + pl.rest ≡ p.top
    upto = pl.upto

    same : (i : ℕ) (x : Ordered) → (m e).seen ≤ i → i < p.top → entry_message d p e i ≡ Some x → (names e x == c) ≡ true → i ≡ j
    same i x lo hi sends passes =
        let (named, wait) = named_waits d n w m e i x o low lo hi sends in
        let is_c : (p.at i).core ≡ c = named ∙ eqb-true (names e x) c passes in
        let now : (m c).last ≡ suc i = ap (λ c. (m c).last) (sym is_c) ∙ wait.0 in
        let then_it = last (ap (λ c. is_pending (core w c)) (sym is_c) ∙ wait.1) in omega (arith, now, then_it)

-- Who is sent what by the last entry of a pending core

-- an invalidation, or one message more
pub record IsMain (d : Draft) (w : World) (m : ℕ → Mark) (c j : ℕ) (r : ℕ) (b : Bool) : Type 0 where
  pub each : (e : ℕ) (x : Ordered) → (m e).seen ≤ j → entry_message d (order_of d w) e j ≡ Some x
      → ((is_among (without_core c ((order_of d w).dir_entry j).sharers) e && nat_lt (m e).seen (suc j)) ≡ true) ⊎ (((r == e) && b) ≡ true)
  pub few : one_if b + tally (is_data_to c) w.replies ≤ 1

main_of : (d : Draft) (n : ℕ) (w : World) (m : ℕ → Mark) (c j : ℕ) → IsWellFormed d → IsShaped d → IsOrderly d n w m → c < n → (m c).last ≡ suc j → (r : ℕ) × (b : Bool) × IsMain d w m c j r b
main_of d n w m c j wf sh o low last = by (entry_message d p c j) refl
  where
    p : DirOrder
    p = order_of d w

    v : View
    v = view_of w m

    k : IsKnown d n p
    k = known d n p wf sh o.past

    pl : IsPlaced d p c (core w c) (m c)
    pl = o.placed c low

    inside : j < p.top
    inside = let upto = pl.last_low in omega (arith, last, upto)

    mine : (p.at j).core ≡ c
    mine = pl.last_own j last

    filled : tally (is_data_to c) w.replies ≡ one_if (is_data_due d p v (core w c) (suc j))
    filled = (o.answered c low).filled ∙ ap (λ k. one_if (is_data_due d p v (core w c) k)) last

    at_most : (b : Bool) → one_if b ≤ 1
    at_most true = omega arith
    at_most false = omega arith

    -- what comes is its own, an invalidation, or passed on
    inv_or : (e : ℕ) (x : Ordered) → (m e).seen ≤ j → entry_message d p e j ≡ Some x → (e ≡ c) ⊎ (((is_among (without_core c (p.dir_entry j).sharers) e && nat_lt (m e).seen (suc j)) ≡ true) ⊎ ((f : ℕ) × IsPassedOn d (p.dir_entry j) (p.at j) e f))
    inv_or e x from sends = elim (from_whom d p e j x sends) [
      | inl (own, h) ↦ inl (sym own ∙ mine)
      | inr (f, r, k1, k2, is_it, fw) ↦ inr (class f fw.other fw.sends (has_class Inv d f) refl)
    ]
      where
        class : (f : ℕ) → ((p.at j).core == e) ≡ false → forward_sent d (p.dir_entry j) (p.at j) e ≡ Some f → (b : Bool) → has_class Inv d f ≡ b
            → ((is_among (without_core c (p.dir_entry j).sharers) e && nat_lt (m e).seen (suc j)) ≡ true) ⊎ ((f : ℕ) × IsPassedOn d (p.dir_entry j) (p.at j) e f)
        class f ne to true inv = inl (and_of_both (is_among (without_core c (p.dir_entry j).sharers) e) (nat_lt (m e).seen (suc j))
            (subst (λ c. is_among (without_core c (p.dir_entry j).sharers) e ≡ true) mine (inv_shares d n (p.dir_entry j) (p.at j) e f (k.handled j inside) ne to inv))
            (lt-ltb (m e).seen (suc j) (omega (arith, from))))
        class f ne to false not_inv = inr (f, passed_on d (p.dir_entry j) (p.at j) e f to not_inv)

    -- no data is due where the entry brings none
    no_data : brings_data (action_of d (p.dir_entry j) (p.at j)) ≡ false → tally (is_data_to c) w.replies ≡ 0
    no_data none = filled ∙ ap one_if (off (is_pending (core w c)) (not (is_granted (core w c).line.desc)) (brings_data (action_of d (p.dir_entry j) (p.at j))) (not (is_unserved d p v j)) none)
      where
        off : (a b e f : Bool) → e ≡ false → (a && b && e && f) ≡ false
        off true true true f h = cc
        off true true false f h = refl
        off true false e f h = refl
        off false b e f h = refl

    own_action : (ev : Event) (a : Option Action) (x : Ordered) → (p.at j).event ≡ ev → action_of d (p.dir_entry j) (p.at j) ≡ a → own_message ev a (acks_needed (p.dir_entry j) (p.at j)) (suc j) ≡ Some x
        → (brings_data a ≡ false) × ((f : ℕ) → a ≡ Some (action.Forward f) → ⊥)
    own_action Load a x is acts h = let count = (own_asks Load a (acks_needed (p.dir_entry j) (p.at j)) (suc j) x (λ z. cc) h).0 in (ap brings_data count, λ f e. let z : Some action.Count ≡ Some (action.Forward f) = sym count ∙ e in cc)
    own_action Store a x is acts h = let count = (own_asks Store a (acks_needed (p.dir_entry j) (p.at j)) (suc j) x (λ z. cc) h).0 in (ap brings_data count, λ f e. let z : Some action.Count ≡ Some (action.Forward f) = sym count ∙ e in cc)
    own_action Evict a x is acts h = let none = sym acts ∙ evict_acts_not d (p.dir_entry j) (p.at j) is in (ap brings_data none, λ f e. let z : None ≡ Some (action.Forward f) = sym none ∙ e in cc)

    by : (x : Option Ordered) → entry_message d p c j ≡ x → (r : ℕ) × (b : Bool) × IsMain d w m c j r b
    by (Some x) own =
        let h = sym (own_sends d p c j mine) ∙ own in
        let (none, no_forward) = own_action (p.at j).event (action_of d (p.dir_entry j) (p.at j)) x refl refl h in (
          c,
          true,
          record {
            each = λ e y from sends. elim (inv_or e y from sends) [
              | inl same ↦ inr (ap (λ t. t && true) (eq-eqb c e (sym same)))
              | inr (inl inv) ↦ inl inv
              | inr (inr (f, on)) ↦ absurd (no_forward f on.action)
            ];
            few = let zero_it = no_data none in omega (arith, zero_it);
          },
        )
    by None own = served (is_unserved d p v j) refl
      where
        served : (b : Bool) → is_unserved d p v j ≡ b → (r : ℕ) × (b : Bool) × IsMain d w m c j r b
        served true un =
            let (owner, f, owns, passes) = unserved_passed d p v j un in (
              owner,
              true,
              record {
                each = λ e y from sends. elim (inv_or e y from sends) [
                  | inl same ↦ absurd (let z = subst (λ e. entry_message d p e j ≡ Some y) same sends in cc (z, own))
                  | inr (inl inv) ↦ inl inv
                  | inr (inr (g, on)) ↦ inr (ap (λ t. t && true) (eq-eqb owner e (let is_e = on.owner in let z : Some owner ≡ Some e = sym owns ∙ is_e in cc)))
                ];
                few = let none : tally (is_data_to c) w.replies ≡ 0 = filled ∙ ap one_if (off (is_pending (core w c)) (not (is_granted (core w c).line.desc)) (brings_data (action_of d (p.dir_entry j) (p.at j))) (is_unserved d p v j) un) in omega (arith, none);
              },
            )
          where
            off : (a b e f : Bool) → f ≡ true → (a && b && e && not f) ≡ false
            off true true true true h = refl
            off true true false f h = refl
            off true false e f h = refl
            off false b e f h = refl
            off true true true false h = cc
        served false gone = (
          c,
          false,
          record {
            each = λ e y from sends. elim (inv_or e y from sends) [
              | inl same ↦ absurd (let z = subst (λ e. entry_message d p e j ≡ Some y) same sends in cc (z, own))
              | inr (inl inv) ↦ inl inv
              | inr (inr (g, on)) ↦ absurd (let un = queued_unserved d p v e j g on from in cc (un, gone))
            ];
            few = let most = at_most (is_data_due d p v (core w c) (suc j)) in let is_it = filled in omega (arith, most, is_it);
          },
        )

-- How much names a core

needs_most : (e : Event) (k : ℕ) → acks_by_event e k ≤ k
needs_most Load k = omega arith
needs_most Store k = omega arith
needs_most Evict k = omega arith

core_named : (d : Draft) (n : ℕ) (w : World) (m : ℕ → Mark) (c : ℕ) → IsWellFormed d → IsShaped d → IsOrderly d n w m → c < n
    → sum (λ e. tally (λ x. names e x == c) (core w e).queue) n + (tally (is_data_to c) w.replies + tally (is_ack_to c) w.replies) ≤ n
core_named d n w m c wf sh o low = pends (is_pending (core w c)) refl
  where
    p : DirOrder
    p = order_of d w

    v : View
    v = view_of w m

    k : IsKnown d n p
    k = known d n p wf sh o.past

    pl : IsPlaced d p c (core w c) (m c)
    pl = o.placed c low

    acks_none : (b : Bool) → (is_pending (core w c) && is_storing (core w c).line.desc) ≡ b → b ≡ false → tally (is_ack_to c) w.replies ≡ 0
    acks_none b is no_store = (subst (AcksAre p v (core w c) (tally (is_ack_to c) w.replies) (m c).last) (is ∙ no_store) (o.answered c low).acks).1

    idle : is_pending (core w c) ≡ false → sum (λ e. tally (λ x. names e x == c) (core w e).queue) n + (tally (is_data_to c) w.replies + tally (is_ack_to c) w.replies) ≤ n
    idle rest =
        let none = sum_none (λ e. tally (λ x. names e x == c) (core w e).queue) n (λ e lt. elim (queue_names d n w m e c 0 o lt (λ pend. absurd (cc (pend, rest)))) [ inl none ↦ none | inr (one, pend, x, lo, inside, sends, own) ↦ absurd (cc (pend, rest)) ]) in
        let no_acks = acks_none (is_pending (core w c) && is_storing (core w c).line.desc) refl (ap (λ b. b && is_storing (core w c).line.desc) rest) in
        let no_data : tally (is_data_to c) w.replies ≡ 0 = (o.answered c low).filled ∙ ap one_if (not_due d p v (core w c) (m c).last rest) in
        omega (arith, none, no_acks, no_data)

    waits : is_pending (core w c) ≡ true → (j : ℕ) → (m c).last ≡ suc j → sum (λ e. tally (λ x. names e x == c) (core w e).queue) n + (tally (is_data_to c) w.replies + tally (is_ack_to c) w.replies) ≤ n
    waits pend j last =
        let (r, b, main) = main_of d n w m c j wf sh o low last in
        let t : ℕ → Bool = λ e. nat_lt (m e).seen (suc j) in
        let each = sum_most (λ e. tally (λ x. names e x == c) (core w e).queue) (λ e. one_if (is_among (without_core c (p.dir_entry j).sharers) e && t e) + one_if ((r == e) && b)) n (λ e lt. most r b main e (queue_names d n w m e c j o lt (λ z. last))) in
        let both_of = sum_add (λ e. one_if (is_among (without_core c (p.dir_entry j).sharers) e && t e)) (λ e. one_if ((r == e) && b)) n in
        let invs = sum_among t (without_core c (p.dir_entry j).sharers) n in
        let one = sum_one r b n in
        let few = main.few in
        let rest = owed_acks (is_pending (core w c) && is_storing (core w c).line.desc) refl in
        omega (arith, each, both_of, invs, one, few, rest)
      where
        upto : j < p.top
        upto = let a = pl.last_low in omega (arith, last, a)

        mine : (p.at j).core ≡ c
        mine = pl.last_own j last

        most : (r : ℕ) (b : Bool) → IsMain d w m c j r b → (e : ℕ)
            → (tally (λ x. names e x == c) (core w e).queue ≡ 0) ⊎ ((tally (λ x. names e x == c) (core w e).queue ≡ 1) × (is_pending (core w c) ≡ true) × (x : Ordered) × ((m e).seen ≤ j) × (j < p.top) × (entry_message d p e j ≡ Some x) × ((p.at j).core ≡ c))
            → tally (λ x. names e x == c) (core w e).queue ≤ one_if (is_among (without_core c (p.dir_entry j).sharers) e && nat_lt (m e).seen (suc j)) + one_if ((r == e) && b)
        most r b main e (inl none) = omega (arith, none)
        most r b main e (inr (one, z, x, lo, inside, sends, own)) = elim (main.each e x lo sends) [
          | inl inv ↦ let is_one : one_if (is_among (without_core c (p.dir_entry j).sharers) e && nat_lt (m e).seen (suc j)) ≡ 1 = ap one_if inv in omega (arith, one, is_one)
          | inr it ↦ let is_one : one_if ((r == e) && b) ≡ 1 = ap one_if it in omega (arith, one, is_one)
        ]

        few_sharers : length (without_core c (p.dir_entry j).sharers) + 1 ≤ n
        few_sharers = let so = k.sound j (omega (arith, upto)) in without_length n c (p.dir_entry j).sharers low so.rising so.inside

        owed_acks : (b : Bool) → (is_pending (core w c) && is_storing (core w c).line.desc) ≡ b
            → tally (λ e. nat_lt (m e).seen (suc j)) (without_core c (p.dir_entry j).sharers) + tally (is_ack_to c) w.replies + 1 ≤ n
        owed_acks false is =
            let none = acks_none false is refl in
            let most = tally_length (λ e. nat_lt (m e).seen (suc j)) (without_core c (p.dir_entry j).sharers) in
            let few = few_sharers in omega (arith, none, most, few)
        owed_acks true is =
            let sum_is = adds_up p v (core w c) (tally (is_ack_to c) w.replies) (m c).last j (is_pending (core w c) && is_storing (core w c).line.desc) (o.answered c low).acks is last in
            let same : acks_owed p v j ≡ tally (λ e. nat_lt (m e).seen (suc j)) (without_core c (p.dir_entry j).sharers) = ap (λ c. tally (λ e. nat_lt (m e).seen (suc j)) (without_core c (p.dir_entry j).sharers)) mine in
            let most : acks_needed (p.dir_entry j) (p.at j) ≤ length (without_core (p.at j).core (p.dir_entry j).sharers) = needs_most (p.at j).event (length (without_core (p.at j).core (p.dir_entry j).sharers)) in
            let len : length (without_core (p.at j).core (p.dir_entry j).sharers) ≡ length (without_core c (p.dir_entry j).sharers) = ap (λ c. length (without_core c (p.dir_entry j).sharers)) mine in
            let few = few_sharers in omega (arith, sum_is, same, most, len, few)

    stamped : (b : Bool) → is_pending (core w c) ≡ true → (last : ℕ) → (m c).last ≡ last → IsLined d p c (core w c).line (m c) (core w c).line.desc (core w c).slot → (j : ℕ) × ((m c).last ≡ suc j)
    stamped b pend last is h = lined (core w c).line.desc (core w c).slot pend h
      where
        asking : (e : Event) (s : ℕ) (ph : Rattle.pg_table.specs.declared.cache.Phase.Phase) (t : Rattle.pg_table.specs.declared.cache.Tag.Tag) (b : Bool) → IsAsking d p c (core w c).line (m c) e s ph t b → (j : ℕ) × ((m c).last ≡ suc j)
        asking e s ph t true a = (a.ordered.entry, a.ordered.last)
        asking e s ph t false a = (a.2.entry, a.2.last)

        lined : (x : Desc) (slot : Option SentRequest) → (not (is_stable x) && is_none slot) ≡ true → IsLined d p c (core w c).line (m c) x slot → (j : ℕ) × ((m c).last ≡ suc j)
        lined (Stable s) slot pend h = cc
        lined (Ask e s ph t) None pend h = asking e s ph t (is_ahead ph t) h.1
        lined (Ask e s ph t) (Some a) pend h = cc
        lined (Leave s) None pend h = (h.2.entry, h.2.last)
        lined (Leave s) (Some a) pend h = cc

    pends : (b : Bool) → is_pending (core w c) ≡ b → sum (λ e. tally (λ x. names e x == c) (core w e).queue) n + (tally (is_data_to c) w.replies + tally (is_ack_to c) w.replies) ≤ n
    pends false rest = idle rest
    pends true pend = let (j, last) = stamped true pend (m c).last refl pl.line in waits pend j last

-- Replies

replies_named : (d : Draft) (p : DirOrder) (last : ℕ → ℕ) (n : ℕ) (xs : List Reply) → ArePromised d p last n xs → length xs ≤ sum (λ c. tally (is_data_to c) xs + tally (is_ack_to c) xs) n + tally is_write_back xs
replies_named d p last n [] h = omega arith
replies_named d p last n (Data r e v i k ∷ xs) h =
    let rest = replies_named d p last n xs h.1 in
    let some = sum_some e n h.0.0 in
    let all = sum_add (λ c. one_if (e == c)) (λ c. tally (is_data_to c) xs + tally (is_ack_to c) xs) n in
    let same = sum_most (λ c. one_if (e == c) + (tally (is_data_to c) xs + tally (is_ack_to c) xs)) (λ c. tally (is_data_to c) (Data r e v i k ∷ xs) + tally (is_ack_to c) (Data r e v i k ∷ xs)) n (λ c lt. omega arith) in
    omega (arith, rest, some, all, same)
replies_named d p last n (InvAck e k ∷ xs) h =
    let rest = replies_named d p last n xs h.1 in
    let some = sum_some e n h.0 in
    let all = sum_add (λ c. one_if (e == c)) (λ c. tally (is_data_to c) xs + tally (is_ack_to c) xs) n in
    let same = sum_most (λ c. one_if (e == c) + (tally (is_data_to c) xs + tally (is_ack_to c) xs)) (λ c. tally (is_data_to c) (InvAck e k ∷ xs) + tally (is_ack_to c) (InvAck e k ∷ xs)) n (λ c lt. omega arith) in
    omega (arith, rest, some, all, same)
replies_named d p last n (WbData v k ∷ xs) h =
    let rest = replies_named d p last n xs h.1 in
    let same = sum_most (λ c. tally (is_data_to c) xs + tally (is_ack_to c) xs) (λ c. tally (is_data_to c) (WbData v k ∷ xs) + tally (is_ack_to c) (WbData v k ∷ xs)) n (λ c lt. omega arith) in
    omega (arith, rest, same)

one_wb : (d : Draft) (n : ℕ) (w : World) (m : ℕ → Mark) → IsOrderly d n w m → tally is_write_back w.replies ≤ 1
one_wb d n w m o = at (is_busy w.directory.desc) o.busy
  where
    by : (t : ℕ) → IsBusyAt d (order_of d w) (view_of w m) (tally is_write_back w.replies) t → tally is_write_back w.replies ≤ 1
    by zero h = absurd h
    by (suc j) h = let is_it = h.1 in let most = bit (is_unserved d (order_of d w) (view_of w m) j) in omega (arith, is_it, most)
      where
        bit : (b : Bool) → cond {A = ℕ} b 0 1 ≤ 1
        bit true = omega arith
        bit false = omega arith

    at : (b : Bool) → IsBusy d (order_of d w) (view_of w m) (tally is_write_back w.replies) b → tally is_write_back w.replies ≤ 1
    at true h = by (order_of d w).top h
    at false h = omega (arith, h)

-- All networks

named_below : (d : Draft) (n : ℕ) (w : World) (m : ℕ → Mark) (e : ℕ) → IsOrderly d n w m → e < n → (x : Ordered) → IsIn x (core w e).queue → names e x < n
named_below d n w m e o low x among =
    let p = order_of d w in
    let pl = o.placed e low in
    let (i, lo, hi, sends) = in_between (entry_message d p e) (m e).seen pl.rest x (subst (IsIn x) pl.queue among) in
    let upto = pl.upto in
    let inside : i < p.top = omega (arith, hi, upto) in
    let (named, wait) = named_waits d n w m e i x o low lo inside sends in
    subst (λ c. c < n) named (o.past.inside i inside)

pub networks_bounded : (d : Draft) (n : ℕ) (w : World) (m : ℕ → Mark) → IsWellFormed d → IsShaped d → IsOrderly d n w m → total (λ x. length x.queue) w.cores + length w.replies ≤ n * n + 1
networks_bounded d n w m wf sh o =
    let queues : total (λ x. length x.queue) w.cores ≡ sum (λ e. length (core w e).queue) n =
    total_sum (λ (x : Core). length x.queue) w.cores idle_core ∙ ap (sum (λ e. length (core w e).queue)) o.cores in
    let each = sum_most (λ e. length (core w e).queue) (λ e. sum (λ c. tally (λ x. names e x == c) (core w e).queue) n) n (λ e low. named_length (names e) n (core w e).queue (named_below d n w m e o low)) in
    let swap = sum_swap (λ e c. tally (λ x. names e x == c) (core w e).queue) n n in
    let replies = replies_named d (order_of d w) (λ c. (m c).last) n w.replies o.promised in
    let both_of = sum_add (λ c. sum (λ e. tally (λ x. names e x == c) (core w e).queue) n) (λ c. tally (is_data_to c) w.replies + tally (is_ack_to c) w.replies) n in
    let all = sum_most (λ c. sum (λ e. tally (λ x. names e x == c) (core w e).queue) n + (tally (is_data_to c) w.replies + tally (is_ack_to c) w.replies)) (λ c. n) n (λ c low. core_named d n w m c wf sh o low) in
    let square = sum_square n n in
    let wb = one_wb d n w m o in
    omega (arith, queues, each, swap, replies, both_of, all, square, wb)

-- Deferred lists

pub tally_filter : {X : Type 0} (t g : X → Bool) (xs : List X) → tally t (filter g xs) ≡ tally (λ x. g x && t x) xs
tally_filter t g [] = refl
tally_filter t g (x ∷ xs) = at (g x) (tally_filter t g xs)
  where
    at : (b : Bool) → tally t (filter g xs) ≡ tally (λ x. g x && t x) xs → tally t (cond b (x ∷ filter g xs) (filter g xs)) ≡ one_if (b && t x) + tally (λ x. g x && t x) xs
    at true rest = omega (arith, rest)
    at false rest = omega (arith, rest)

in_filter : {X : Type 0} (g : X → Bool) (xs : List X) (x : X) → IsIn x (filter g xs) → IsIn x xs × (g x ≡ true)
in_filter g [] x among = absurd among
in_filter {X = X} g (y ∷ ys) x among = at (g y) refl among (λ among. in_filter g ys x among)
  where
    at : (b : Bool) → g y ≡ b → IsIn x (cond b (y ∷ filter g ys) (filter g ys)) → (IsIn x (filter g ys) → IsIn x ys × (g x ≡ true)) → IsIn x (y ∷ ys) × (g x ≡ true)
    at true passes (inl e) below = (inl e, ap g (sym e) ∙ passes)
    at true passes (inr more) below = let (among, so) = below more in (inr among, so)
    at false fails more below = let (among, so) = below more in (inr among, so)

pub deferred_bounded : (d : Draft) (n : ℕ) (w : World) (m : ℕ → Mark) (c : ℕ) → IsWellFormed d → IsShaped d → IsOrderly d n w m → c < n → length (core w c).line.deferred + 1 ≤ n
deferred_bounded d n w m c wf sh o low = by (core w c).line.desc refl (core w c).slot refl pl.line
  where
    p : DirOrder
    p = order_of d w

    v : View
    v = view_of w m

    pl : IsPlaced d p c (core w c) (m c)
    pl = o.placed c low

    none : (core w c).line.deferred ≡ [] → length (core w c).line.deferred + 1 ≤ n
    none empty = let is_it : length (core w c).line.deferred ≡ 0 = ap length empty in omega (arith, is_it, low)

    some : (k : ℕ) → is_pending (core w c) ≡ true → (m c).last + k ≡ (m c).seen → (core w c).line.deferred ≡ filter (is_deferred d) (sent_between (entry_message d p c) (m c).last k) → length (core w c).line.deferred + 1 ≤ n
    some k pend sum_is deferred =
        let named = named_length (names c) n (core w c).line.deferred members in
        let all = sum_most (λ e. tally (λ x. names c x == e) (core w c).line.deferred + one_if (c == e)) (λ e. 1) n (λ e lt. each e) in
        let both_of = sum_add (λ e. tally (λ x. names c x == e) (core w c).line.deferred) (λ e. one_if (c == e)) n in
        let square = sum_square n 1 in
        let mine = sum_some c n low in
        omega (arith, named, all, both_of, square, mine)
      where
        -- one that was put off comes from an entry that isn't served
        waits : (i : ℕ) (x : Ordered) → (m c).last ≤ i → i < (m c).last + k → entry_message d p c i ≡ Some x → is_deferred d x ≡ true
            → ((p.at i).core ≡ names c x) × IsWaitedFor p v i × (((p.at i).core == c) ≡ false) × (i < p.top)
        waits i x lo hi sends off = elim (from_whom d p c i x sends) [
          | inl (own, h) ↦ absurd (let ne = none_after d p c (core w c) (m c) pl (m c).last p.top (omega arith) (omega arith) i lo inside in let same = eq-eqb (p.at i).core c own in cc (ne, same))
          | inr (f, r, k1, k2, is_it, fw) ↦
              let not_inv : has_class Inv d f ≡ false = true_not (has_class Inv d f) (ap (is_deferred d) (sym is_it) ∙ off) in
              let on = passed_on d (p.dir_entry i) (p.at i) c f fw.sends not_inv in
              (sym (ap (names c) is_it ∙ fw.asker), o.waiting.forwards i inside (unserved_is d p v i c f on.owner on.passed (inr (pend, omega (arith, lo)))), fw.other, inside)
        ]
          where
            inside : i < p.top
            inside = let upto = pl.upto in omega (arith, hi, sum_is, upto)

        members : (x : Ordered) → IsIn x (core w c).line.deferred → names c x < n
        members x among =
            let (there, off) = in_filter (is_deferred d) (sent_between (entry_message d p c) (m c).last k) x (subst (IsIn x) deferred among) in
            let (i, lo, hi, sends) = in_between (entry_message d p c) (m c).last k x there in
            let (named, wait, other, inside) = waits i x lo hi sends off in
            subst (λ c. c < n) named (o.past.inside i inside)

        each : (e : ℕ) → tally (λ x. names c x == e) (core w c).line.deferred + one_if (c == e) ≤ 1
        each e = at (m e).last refl
          where
            counted : tally (λ x. names c x == e) (core w c).line.deferred ≡ tally (λ x. is_deferred d x && (names c x == e)) (sent_between (entry_message d p c) (m c).last k)
            counted = ap (tally (λ x. names c x == e)) deferred ∙ tally_filter (λ x. names c x == e) (is_deferred d) (sent_between (entry_message d p c) (m c).last k)

            bit : (b : Bool) → one_if b ≤ 1
            bit true = omega arith
            bit false = omega arith

            from_last : (i : ℕ) (x : Ordered) → (m c).last ≤ i → i < (m c).last + k → entry_message d p c i ≡ Some x → (is_deferred d x && (names c x == e)) ≡ true → ((m e).last ≡ suc i) × ((c == e) ≡ false)
            from_last i x lo hi sends passes =
                let (off, is_e) = and_true (is_deferred d x) (names c x == e) passes in
                let (named, wait, other, inside) = waits i x lo hi sends off in
                let core_is : (p.at i).core ≡ e = named ∙ eqb-true (names c x) e is_e in
                (ap (λ e. (m e).last) (sym core_is) ∙ wait.0, Rattle.pg_directory.proofs.Cores.other_way e c (ap (λ z. z == c) (sym core_is) ∙ other))

            by_one : (j : ℕ) → ((i : ℕ) → (m e).last ≡ suc i → i ≡ j) → tally (λ x. names c x == e) (core w c).line.deferred + one_if (c == e) ≤ 1
            by_one j only = elim (between_one (λ x. is_deferred d x && (names c x == e)) (entry_message d p c) (m c).last k j (λ i x lo hi sends passes. only i (from_last i x lo hi sends passes).0)) [
              | inl zero_it ↦ let is_it = counted in let most = bit (c == e) in omega (arith, zero_it, is_it, most)
              | inr (one, x, lo, hi, sends, passes) ↦
                  let is_it = counted in
                  let apart : one_if (c == e) ≡ 0 = ap one_if (from_last j x lo hi sends passes).1 in omega (arith, one, is_it, apart)
            ]

            at : (l : ℕ) → (m e).last ≡ l → tally (λ x. names c x == e) (core w c).line.deferred + one_if (c == e) ≤ 1
            at zero is = by_one 0 (λ i h. absurd (omega (arith, is, h)))
            at (suc j) is = by_one j (λ i h. omega (arith, is, h))

    asking : (e : Event) (s : ℕ) (ph : Rattle.pg_table.specs.declared.cache.Phase.Phase) (t : Rattle.pg_table.specs.declared.cache.Tag.Tag) (b : Bool) → is_pending (core w c) ≡ true → IsAsking d p c (core w c).line (m c) e s ph t b → length (core w c).line.deferred + 1 ≤ n
    asking e s ph t true pend a = some a.past pend a.upto a.deferred
    asking e s ph t false pend a = none a.0.deferred

    by : (x : Desc) → (core w c).line.desc ≡ x → (slot : Option SentRequest) → (core w c).slot ≡ slot → IsLined d p c (core w c).line (m c) x slot → length (core w c).line.deferred + 1 ≤ n
    by (Stable s) desc None slot h = none h.0.deferred
    by (Stable s) desc (Some a) slot h = absurd h
    by (Ask e s ph t) desc None slot h = asking e s ph t (is_ahead ph t) (rw (desc, slot) refl) h.1
    by (Ask e s ph t) desc (Some a) slot h = none h.1.deferred
    by (Leave s) desc None slot h = none h.1.deferred
    by (Leave s) desc (Some a) slot h = none h.1.deferred
