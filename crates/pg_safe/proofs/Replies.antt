-- Each reply in flight has its row.
use Rattle.std.proofs.Common.{◌≡◌, ◌≢◌, ℕ, suc, ◌<◌, ◌≤◌, arith, Bool, true, false, ◌&&◌, not, cond, List, [], ◌∷◌, Option, Some, None, refl, sym, ap, subst, ◌∙◌, ◌⊎◌, inl, inr}
use Rattle.std.specs.Prelude.{◌==◌, slice_get, if◌then◌else◌, is_some, is_none}
use Rattle.std.specs.List.{remove}
use Rattle.std.specs.Option.{option_and_then}
use Rattle.std.proofs.lemmas.Bool.{eq-eqb}
use Rattle.pg_perm.proofs.Booleans.{and_true}
use Rattle.pg_perm.specs.declared.kinds.Event.{Event}
use Rattle.pg_perm.specs.declared.kinds.Event.TheVariants.{Load, Store, Evict}
use Rattle.pg_perm.specs.declared.kinds.Mode.TheVariants as mode
use Rattle.pg_perm.specs.declared.kinds.Who.TheVariants.{Owner}
use Rattle.pg_perm.specs.declared.draft.Draft.{Draft}
use Rattle.pg_perm.specs.declared.draft.RowLine.{RowLine}
use Rattle.pg_perm.specs.declared.draft.Action.{Action}
use Rattle.pg_perm.specs.declared.draft.Action.TheVariants as action
use Rattle.pg_perm.specs.declared.draft.ReplyName.TheVariants as reply
use Rattle.pg_perm.specs.Drafts.{IsWellFormed}
use Rattle.pg_terms.specs.Terms.{is, is_owner, cache_is, shared}
use Rattle.pg_terms.specs.Rows.{action_in, final_state}
use Rattle.pg_shape.specs.Shaped.{IsShaped}
use Rattle.pg_shape.proofs.Bools.{true_not, and_of_both}
use Rattle.pg_directory.specs.DirEntries.{DirEntry, Request, who, row_of}
use Rattle.pg_directory.specs.Sound.{fits}
use Rattle.pg_directory.specs.Requests.{IsHandled, IsReply, action_of}
use Rattle.pg_directory.proofs.Handling.{evict_row}
use Rattle.pg_directory.proofs.Holders.{owner_of_who}
use Rattle.pg_table.specs.declared.cache.Desc.{Desc}
use Rattle.pg_table.specs.declared.cache.Desc.TheVariants.{Stable, Ask, Leave}
use Rattle.pg_table.specs.declared.cache.Phase.{Phase}
use Rattle.pg_table.specs.declared.cache.Phase.TheVariants.{D, Ad, Ac, A}
use Rattle.pg_table.specs.declared.cache.Tag.{Tag}
use Rattle.pg_table.specs.declared.cache.Tag.TheVariants.{Plain}
use Rattle.pg_table.specs.declared.cache.Input.TheVariants as at_input
use Rattle.pg_table.specs.Tables.{TableState}
use Rattle.pg_table.specs.declared.directory.DirInput.TheVariants as met
use Rattle.pg_table.specs.Descriptors.{end_under_tag, store_phase, descs}
use Rattle.pg_table.specs.DueInputs.{may_end, is_due_input}
use Rattle.pg_table.specs.Directory.{DirChoice, dir_choice}
use Rattle.pg_table.specs.Sound.{IsSoundCache, is_among}
use Rattle.pg_table.proofs.StoreEnds.{acks_end}
use Rattle.pg_order.specs.Messages.{tally}
use Rattle.pg_order.specs.Orders.{DirOrder, is_stale, acks_needed, acks_by_event, own_message, entry_message}
use Rattle.pg_order.specs.Views.{is_unserved}
use Rattle.pg_order.proofs.Known.{IsKnown, known}
use Rattle.pg_order.proofs.Lost.{data_last}
use Rattle.pg_order.proofs.NoOvertaking.{Behind}
use Rattle.pg_messages.specs.declared.messages.Ask.{Ask as SentRequest}
use Rattle.pg_messages.specs.declared.messages.Reply.{Reply}
use Rattle.pg_messages.specs.declared.messages.Reply.TheVariants.{Data, InvAck, WbData}
use Rattle.pg_controllers.specs.Networks.{Core}
use Rattle.pg_controllers.specs.Lines.{reply_input}
use Rattle.pg_controllers.specs.Directories.{is_busy}
use Rattle.pg_controllers.specs.Worlds.{World, core, order_of, is_stable}
use Rattle.pg_orderly.specs.Orderly.{Mark, is_pending, view_of, MayBegin, IsLevel, IsPhase, is_ahead, IsAsking, IsLined, IsPlaced, is_storing, is_granted, brings_data, is_data_to, is_ack_to, is_write_back, is_data_due, AcksAre, IsPromised, IsBusy, IsOrderly}
use Rattle.pg_orderly.proofs.Filled.{tally_removed, promised_at}
use Rattle.pg_safe.specs.Moving.{IsComplete}
use Rattle.pg_safe.proofs.Catch.{granted_by}
use Rattle.pg_safe.proofs.Ends.{begins_lacks, none_before, ahead_ends}
use Rattle.pg_safe.proofs.Heads.{fits_at, own_sends, owner_owns}
use Rattle.pg_safe.proofs.Race.{plain_of, store_waits_not}
use Rattle.pg_safe.proofs.Waiting.{needs_shared, adds_up}

-- What is counted among the replies

pub counted : (f : Reply → Bool) (xs : List Reply) (i : ℕ) (x : Reply) → slice_get xs i ≡ Some x → f x ≡ true → 1 ≤ tally f xs
counted f xs i x e passes =
    let sum = tally_removed f xs i x e in
    let one : cond {A = ℕ} (f x) 1 0 ≡ 1 = ap (λ b. cond {A = ℕ} b 1 0) passes in omega (arith, sum, one)

cond_some : (b : Bool) (k : ℕ) → k ≡ cond {A = ℕ} b 1 0 → 1 ≤ k → b ≡ true
cond_some true k e h = refl
cond_some false k e h = absurd (omega (arith, e, h))

not_pending : (b : Bool) → (b && false) ≡ true → ⊥
not_pending true h = cc
not_pending false h = cc

-- an evict does nothing but answer
pub evict_acts_not : (d : Draft) (s : DirEntry) (q : Request) → q.event ≡ Evict → action_of d s q ≡ None
evict_acts_not d s q evict = at (row_of d s (record { core = q.core; event = Evict })) refl
  where
    same : row_of d s q ≡ row_of d s (record { core = q.core; event = Evict })
    same = ap (λ e. row_of d s (record { core = q.core; event = e })) evict

    at : (o : Option RowLine) → row_of d s (record { core = q.core; event = Evict }) ≡ o → action_of d s q ≡ None
    at None is = ap (λ (o : Option RowLine). option_and_then (λ r. action_in r.form) o) (same ∙ is)
    at (Some r) is = ap (λ (o : Option RowLine). option_and_then (λ r. action_in r.form) o) (same ∙ is) ∙ evict_row d s q.core r is

-- where data is brought, the requestor is no owner
brought_to_other : (d : Draft) (n : ℕ) (s : DirEntry) (q : Request) (c : ℕ) → IsHandled d n s q → q.core ≡ c → brings_data (action_of d s q) ≡ true → who s c ≢ Owner
brought_to_other d n s q c h own brings owns = at (action_of d s q) refl brings
  where
    at : (a : Option Action) → action_of d s q ≡ a → brings_data a ≡ true → ⊥
    at None is b = cc
    at (Some (action.Reply m)) is b = let none = h.memory m is in let some = owner_of_who s c owns in cc (none, some)
    at (Some (action.Forward f)) is b =
        let (o, owner, ne) = h.passed f is in
        let some = owner_of_who s c owns in
        let same : o ≡ c = cc (owner, some) in
        let eq = eq-eqb q.core o (own ∙ sym same) in cc (eq, ne)
    at (Some action.Count) is b = cc

-- Data

-- where the entry of a level line brought data, nothing else comes before
level_quiet : (d : Draft) (n : ℕ) (w : World) (m : ℕ → Mark) (c j : ℕ) → IsKnown d n (order_of d w) → c < n → IsOrderly d n w m → (m c).seen < (m c).last → (m c).last ≡ suc j
    → ((order_of d w).at j).event ≢ Evict → is_unserved d (order_of d w) (view_of w m) j ≡ false → who ((order_of d w).dir_entry j) c ≢ Owner
    → (x : ℕ) → (m c).seen ≤ x → x < j → entry_message d (order_of d w) c x ≡ None
level_quiet d n w m c j k low o behind last asks served unowned x lo hi =
    rw (others x lo hi, data_last d n p (view_of w m) k o.waiting c j inside from others behind_it unowned x lo hi) refl
  where
    p : DirOrder
    p = order_of d w

    pl : IsPlaced d p c (core w c) (m c)
    pl = o.placed c low

    inside : j < p.top
    inside = let upto = pl.last_low in omega (arith, last, upto)

    from : (m c).seen ≤ j
    from = omega (arith, behind, last)

    others : (x : ℕ) → (m c).seen ≤ x → x < j → ((p.at x).core == c) ≡ false
    others = none_before d p c (core w c) (m c) pl j (omega (arith, inside)) (inr (omega (arith, last)))

    live : (e : Event) → (p.at j).event ≡ e → is_stale (p.dir_entry j) (p.at j) ≡ true → ⊥
    live Load is stale = let x = rw is at stale in cc
    live Store is stale = let x = rw is at stale in cc
    live Evict is stale = asks is

    behind_it : Behind d p (view_of w m) j → ⊥
    behind_it (inl stale) = live (p.at j).event refl stale
    behind_it (inr un) = cc (un, served)

level_fits : (d : Draft) (n : ℕ) (w : World) (m : ℕ → Mark) (c j s : ℕ) → IsKnown d n (order_of d w) → c < n → IsOrderly d n w m → (m c).seen < (m c).last → (m c).last ≡ suc j
    → ((order_of d w).at j).event ≢ Evict → is_unserved d (order_of d w) (view_of w m) j ≡ false → who ((order_of d w).dir_entry j) c ≢ Owner → fits d ((order_of d w).dir_entry (m c).seen) c s ≡ true
    → fits d ((order_of d w).dir_entry j) c s ≡ true
level_fits d n w m c j s k low o behind last asks served unowned fit =
    let pl = o.placed c low in
    let upto = pl.last_low in
    fits_at d n (order_of d w) k c (core w c) (m c) j s pl (omega (arith, behind, last)) (omega (arith, last, upto)) (level_quiet d n w m c j k low o behind last asks served unowned) (inr (omega (arith, last))) fit

-- what is known where data is in flight
pub record IsDatum (d : Draft) (n : ℕ) (w : World) (m : ℕ → Mark) (c r cnt : ℕ) : Type 0 where
  pub low : c < n
  pub entry : ℕ
  pub last : (m c).last ≡ suc entry
  pub inside : entry < (order_of d w).top
  pub own : ((order_of d w).at entry).core ≡ c
  pub reply : IsReply d ((order_of d w).dir_entry entry) ((order_of d w).at entry) (reply.Reply r)
  pub count : cnt ≡ acks_needed ((order_of d w).dir_entry entry) ((order_of d w).at entry)
  pub pending : is_pending (core w c) ≡ true
  pub ungranted : is_granted (core w c).line.desc ≡ false
  pub brings : brings_data (action_of d ((order_of d w).dir_entry entry) ((order_of d w).at entry)) ≡ true
  pub served : is_unserved d (order_of d w) (view_of w m) entry ≡ false
  pub unowned : who ((order_of d w).dir_entry entry) c ≢ Owner

pub datum : (d : Draft) (n : ℕ) (w : World) (m : ℕ → Mark) (i r c v cnt k : ℕ) → IsWellFormed d → IsShaped d → IsOrderly d n w m → slice_get w.replies i ≡ Some (Data r c v cnt k) → IsDatum d n w m c r cnt
datum d n w m i r c v cnt k wf sh o get =
    let p = order_of d w in
    let x = core w c in
    let promise = promised_at d p (λ c. (m c).last) n w.replies i (Data r c v cnt k) get o.promised in
    at promise.0 promise.2.0 (sym promise.1 ∙ promise.2.1) promise.2.2 promise.2.3
  where
    at : c < n → (j : ℕ) → (m c).last ≡ suc j → IsReply d ((order_of d w).dir_entry j) ((order_of d w).at j) (reply.Reply r) → cnt ≡ acks_needed ((order_of d w).dir_entry j) ((order_of d w).at j) → IsDatum d n w m c r cnt
    at low j last reply_of count =
        let p = order_of d w in
        let x = core w c in
        let pl = o.placed c low in
        let upto = pl.last_low in
        let inside : j < (order_of d w).top = omega (arith, last, upto) in
        let some = counted (is_data_to c) w.replies i (Data r c v cnt k) get (eq-eqb c c refl) in
        let due : is_data_due d (order_of d w) (view_of w m) (core w c) (suc j) ≡ true =
        subst (λ t. is_data_due d (order_of d w) (view_of w m) (core w c) t ≡ true) last (cond_some (is_data_due d (order_of d w) (view_of w m) (core w c) (m c).last) (tally (is_data_to c) w.replies) (o.answered c low).filled some) in
        let (first, served) = and_true (is_pending x && not (is_granted x.line.desc) && brings_data (action_of d (p.dir_entry j) (p.at j))) (not (is_unserved d p (view_of w m) j)) due in
        let (two, brings) = and_true (is_pending x && not (is_granted x.line.desc)) (brings_data (action_of d (p.dir_entry j) (p.at j))) first in
        let (pend, free) = and_true (is_pending x) (not (is_granted x.line.desc)) two in
        record {
          low = low;
          entry = j;
          last = last;
          inside = inside;
          own = pl.last_own j last;
          reply = reply_of;
          count = count;
          pending = pend;
          ungranted = true_not (is_granted x.line.desc) free;
          brings = brings;
          served = true_not (is_unserved d p (view_of w m) j) served;
          unowned = brought_to_other d n (p.dir_entry j) (p.at j) c ((known d n p wf sh o.past).handled j inside) (pl.last_own j last) brings;
        }

-- where data is in flight nothing that comes before it, nor its own entry, sends its core anything
pub data_quiet : (d : Draft) (n : ℕ) (w : World) (m : ℕ → Mark) (i r c v cnt k : ℕ) → IsWellFormed d → IsShaped d → IsOrderly d n w m → slice_get w.replies i ≡ Some (Data r c v cnt k)
    → (j : ℕ) → (m c).seen ≤ j → j < (m c).last → entry_message d (order_of d w) c j ≡ None
data_quiet d n w m i r c v cnt k wf sh o get j lo hi = which (datum d n w m i r c v cnt k wf sh o get)
  where
    p : DirOrder
    p = order_of d w

    no_own : (e : Event) (a : Option Action) (q z : ℕ) → e ≢ Evict → brings_data a ≡ true → own_message e a q z ≡ None
    no_own Load (Some (action.Reply x)) q z asks b = refl
    no_own Load (Some (action.Forward x)) q z asks b = refl
    no_own Load (Some action.Count) q z asks b = cc
    no_own Load None q z asks b = cc
    no_own Store (Some (action.Reply x)) q z asks b = refl
    no_own Store (Some (action.Forward x)) q z asks b = refl
    no_own Store (Some action.Count) q z asks b = cc
    no_own Store None q z asks b = cc
    no_own Evict a q z asks b = absurd (asks refl)

    which : IsDatum d n w m c r cnt → entry_message d p c j ≡ None
    which h =
        let last = h.last in
        let asks : (p.at h.entry).event ≢ Evict = (λ evict. let none = ap brings_data (evict_acts_not d (p.dir_entry h.entry) (p.at h.entry) evict) in let some = h.brings in cc (none, some)) in
        elim (let split : (j < h.entry) ⊎ (j ≡ h.entry) = before j h.entry (omega (arith, hi, last)) in split) [
          | inl early ↦ level_quiet d n w m c h.entry (known d n p wf sh o.past) h.low o (omega (arith, lo, hi)) last asks h.served h.unowned j lo early
          | inr same ↦ subst (λ j. entry_message d p c j ≡ None) (sym same)
              (own_sends d p c h.entry h.own ∙ no_own (p.at h.entry).event (action_of d (p.dir_entry h.entry) (p.at h.entry)) (acks_needed (p.dir_entry h.entry) (p.at h.entry)) (suc h.entry) asks h.brings)
        ]
      where
        before : (a b : ℕ) → a < suc b → (a < b) ⊎ (a ≡ b)
        before a b lt = search arith

pub data_due : (d : Draft) (n : ℕ) (w : World) (m : ℕ → Mark) (i r c v cnt k : ℕ) → IsWellFormed d → IsShaped d → IsOrderly d n w m → slice_get w.replies i ≡ Some (Data r c v cnt k)
    → (c < n) × (is_due_input d (core w c).line.desc (reply_input (core w c).line (Data r c v cnt k)) ≡ true)
data_due d n w m i r c v cnt k wf sh o get = (low, by (core w c).line.desc refl (core w c).slot refl pl.line)
  where
    p : DirOrder
    p = order_of d w

    kn : IsKnown d n p
    kn = known d n p wf sh o.past

    promise : IsPromised d p (λ c. (m c).last) n (Data r c v cnt k)
    promise = promised_at d p (λ c. (m c).last) n w.replies i (Data r c v cnt k) get o.promised

    low : c < n
    low = promise.0

    j : ℕ
    j = promise.2.0

    x : Core
    x = core w c

    last : (m c).last ≡ suc j
    last = sym promise.1 ∙ promise.2.1

    reply_of : IsReply d (p.dir_entry j) (p.at j) (reply.Reply r)
    reply_of = promise.2.2

    count : cnt ≡ acks_needed (p.dir_entry j) (p.at j)
    count = promise.2.3

    pl : IsPlaced d p c x (m c)
    pl = o.placed c low

    inside : j < p.top
    inside = let upto = pl.last_low in omega (arith, last, upto)

    some : 1 ≤ tally (is_data_to c) w.replies
    some = counted (is_data_to c) w.replies i (Data r c v cnt k) get (eq-eqb c c refl)

    due : is_data_due d p (view_of w m) x (suc j) ≡ true
    due = subst (λ t. is_data_due d p (view_of w m) x t ≡ true) last (cond_some (is_data_due d p (view_of w m) x (m c).last) (tally (is_data_to c) w.replies) (o.answered c low).filled some)

    parts : (is_pending x ≡ true) × (is_granted x.line.desc ≡ false) × (brings_data (action_of d (p.dir_entry j) (p.at j)) ≡ true) × (is_unserved d p (view_of w m) j ≡ false)
    parts =
        let (first, served) = and_true (is_pending x && not (is_granted x.line.desc) && brings_data (action_of d (p.dir_entry j) (p.at j))) (not (is_unserved d p (view_of w m) j)) due in
        let (two, brings) = and_true (is_pending x && not (is_granted x.line.desc)) (brings_data (action_of d (p.dir_entry j) (p.at j))) first in
        let (pend, free) = and_true (is_pending x) (not (is_granted x.line.desc)) two in
        (pend, true_not (is_granted x.line.desc) free, brings, true_not (is_unserved d p (view_of w m) j) served)

    unowned : who (p.dir_entry j) c ≢ Owner
    unowned = brought_to_other d n (p.dir_entry j) (p.at j) c (kn.handled j inside) (pl.last_own j last) parts.2

    -- data for a load comes with nothing to be acknowledged
    all_load : (s : ℕ) (ph : Phase) (t : Tag) → x.line.desc ≡ Ask Load s ph t → (p.at j).event ≡ Load → (cnt == x.line.got) ≡ true
    all_load s ph t desc load =
        let got = (subst (AcksAre p (view_of w m) x (tally (is_ack_to c) w.replies) (m c).last) (ap (λ b. is_pending x && b) (ap is_storing desc) ∙ and_false (is_pending x)) (o.answered c low).acks).0 in
        let zero_it : acks_needed (p.dir_entry j) (p.at j) ≡ 0 = ap (λ e. acks_by_event e (Rattle.std.specs.Prelude.length (Rattle.pg_directory.specs.DirEntries.without_core (p.at j).core (p.dir_entry j).sharers))) load in
        eq-eqb cnt x.line.got (count ∙ zero_it ∙ sym got)
      where
        and_false : (b : Bool) → (b && false) ≡ false
        and_false true = refl
        and_false false = refl

    -- for a store there is a shared state where it isn't all
    part_shared : (s : ℕ) (ph : Phase) (t : Tag) → x.line.desc ≡ Ask Store s ph t → (cnt == x.line.got) ≡ false → is_some (shared d) ≡ true
    part_shared s ph t desc ne =
        let sum = adds_up p (view_of w m) x (tally (is_ack_to c) w.replies) (m c).last j (is_pending x && is_storing x.line.desc) (o.answered c low).acks (rw (parts.0, desc) refl) last in
        let apart : cnt ≢ x.line.got = (λ e. let same = eq-eqb cnt x.line.got e in cc (same, ne)) in
        let (z, there) = needs_shared d n (p.dir_entry j) (p.at j) sh (kn.sound j (omega (arith, inside))) (omega (arith, sum, apart, count)) in
        rw there refl

    load_due : (s fin : ℕ) (t : Tag) → x.line.desc ≡ Ask Load s D t → (p.at j).event ≡ Load → final_state d s Load (reply.Reply r) ≡ Some fin → is_some (end_under_tag d fin t) ≡ true
        → is_due_input d (Ask Load s D t) (reply_input x.line (Data r c v cnt k)) ≡ true
    load_due s fin t desc load ends told =
        ap (λ (b : Bool). is_due_input d (Ask Load s D t) (if b then at_input.DataAll r else at_input.DataPart r)) (all_load s D t desc load)
        ∙ ap (may_end d t) ends ∙ told

    store_due : (s fin : ℕ) (t : Tag) → x.line.desc ≡ Ask Store s Ad t → final_state d s Store (reply.Reply r) ≡ Some fin → is_some (end_under_tag d fin t) ≡ true
        → is_due_input d (Ask Store s Ad t) (reply_input x.line (Data r c v cnt k)) ≡ true
    store_due s fin t desc ends told = at (cnt == x.line.got) refl
      where
        at : (b : Bool) → (cnt == x.line.got) ≡ b → is_due_input d (Ask Store s Ad t) (if b then at_input.DataAll r else at_input.DataPart r) ≡ true
        at true same = ap (may_end d t) ends ∙ told
        at false ne = and_of_both (is_some (shared d)) (is_some (final_state d s Store (reply.Reply r))) (part_shared s Ad t desc ne) (ap is_some ends)

    ahead : (e : Event) (s : ℕ) (ph : Phase) (t : Tag) → x.line.desc ≡ Ask e s ph t → is_granted (Ask e s ph t) ≡ false → (p.at j).event ≡ e → IsPhase d e s ph → (fin state : ℕ) → final_state d s e (reply.Reply r) ≡ Some fin
        → end_under_tag d fin t ≡ Some state → is_due_input d (Ask e s ph t) (reply_input x.line (Data r c v cnt k)) ≡ true
    ahead Load s D t desc g event phase fin state ends told = load_due s fin t desc event ends (ap is_some told)
    ahead Load s Ad t desc g event phase fin state ends told = let z = phase.0.1 in cc
    ahead Load s Ac t desc g event phase fin state ends told = absurd phase.1
    ahead Store s D t desc g event phase fin state ends told = absurd (store_waits_not d s phase.0.1)
    ahead Store s Ad t desc g event phase fin state ends told = store_due s fin t desc ends (ap is_some told)
    ahead Store s Ac t desc g event phase fin state ends told = absurd phase.1
    ahead Evict s D t desc g event phase fin state ends told = absurd phase.0
    ahead Evict s Ad t desc g event phase fin state ends told = absurd phase.0
    ahead Evict s Ac t desc g event phase fin state ends told = absurd phase.0
    ahead e s A t desc g event phase fin state ends told = cc

    level : (e : Event) (s : ℕ) (ph : Phase) (t : Tag) → x.line.desc ≡ Ask e s ph t → t ≡ Plain → IsLevel d p c x.line (m c) s → MayBegin d e s ph → (p.at j).event ≡ e → (m c).seen < (m c).last
        → is_due_input d (Ask e s ph t) (reply_input x.line (Data r c v cnt k)) ≡ true
    level e s ph t desc plain lv begins event behind =
        let (asks, lacks) = begins_lacks d e s ph sh begins in
        let fit = level_fits d n w m c j s kn low o behind last (λ z. asks (sym event ∙ z)) parts.3 unowned lv.state in
        let (fin, ends, fit_fin) = granted_by d n p kn c j s e (reply.Reply r) inside (pl.last_own j last) event asks fit lacks reply_of in
        by_event e ph desc begins event fin ends fit (cache_is (λ c. is_owner c.role) d s) refl
      where
        told : (fin : ℕ) → is_some (end_under_tag d fin t) ≡ true
        told fin = ap (λ t. is_some (end_under_tag d fin t)) plain

        by_event : (e : Event) (ph : Phase) → x.line.desc ≡ Ask e s ph t → MayBegin d e s ph → (p.at j).event ≡ e → (fin : ℕ) → final_state d s e (reply.Reply r) ≡ Some fin → fits d (p.dir_entry j) c s ≡ true
            → (b : Bool) → cache_is (λ c. is_owner c.role) d s ≡ b → is_due_input d (Ask e s ph t) (reply_input x.line (Data r c v cnt k)) ≡ true
        by_event Load ph desc begins event fin ends fit b owner =
            subst (λ ph. is_due_input d (Ask Load s ph t) (reply_input x.line (Data r c v cnt k)) ≡ true) (sym begins.1)
            (load_due s fin t (desc ∙ ap (λ ph. Ask Load s ph t) begins.1) event ends (told fin))
        by_event Store ph desc begins event fin ends fit true owner = absurd (unowned (owner_owns d (p.dir_entry j) c s sh fit owner))
        by_event Store ph desc begins event fin ends fit false owner =
            let first : store_phase d s ≡ Ad = rw owner refl in
            subst (λ ph. is_due_input d (Ask Store s ph t) (reply_input x.line (Data r c v cnt k)) ≡ true) (sym (begins.1 ∙ first))
            (store_due s fin t (desc ∙ ap (λ ph. Ask Store s ph t) (begins.1 ∙ first)) ends (told fin))
        by_event Evict ph desc begins event fin ends fit b owner = absurd begins

    asking : (e : Event) (s : ℕ) (ph : Phase) (t : Tag) → x.line.desc ≡ Ask e s ph t → (b : Bool) → is_ahead ph t ≡ b → IsAsking d p c x.line (m c) e s ph t b
        → is_due_input d (Ask e s ph t) (reply_input x.line (Data r c v cnt k)) ≡ true
    asking e s ph t desc true is a =
        let at_it = a.ordered.last in
        let same : a.ordered.entry ≡ j = omega (arith, at_it, last) in
        let end = ahead_ends d n p sh kn c x (m c) x.line e s ph t pl a (reply.Reply r) (subst (λ j. IsReply d (p.dir_entry j) (p.at j) (reply.Reply r)) (sym same) reply_of) in
        ahead e s ph t desc (ap is_granted (sym desc) ∙ parts.1) (subst (λ j. (p.at j).event ≡ e) same a.ordered.event) a.phase end.fin end.state end.ends end.told
    asking e s ph t desc false is a =
        let at_it = a.2.last in
        let same : a.2.entry ≡ j = omega (arith, at_it, last) in
        level e s ph t desc (plain_of ph t is) a.0 a.1 (subst (λ j. (p.at j).event ≡ e) same a.2.event) a.3

    by : (y : Desc) → x.line.desc ≡ y → (slot : Option SentRequest) → x.slot ≡ slot → IsLined d p c x.line (m c) y slot → is_due_input d x.line.desc (reply_input x.line (Data r c v cnt k)) ≡ true
    by y desc (Some a) slot h = absurd (not_pending (not (is_stable x.line.desc)) (ap (λ o. not (is_stable x.line.desc) && is_none o) (sym slot) ∙ parts.0))
    by (Stable s) desc None slot h = absurd (let idle : is_pending x ≡ false = rw desc refl in let pend = parts.0 in cc (idle, pend))
    by (Leave s) desc None slot h = absurd (
        let at_it = h.2.last in
        let same : h.2.entry ≡ j = omega (arith, at_it, last) in
        let none = evict_acts_not d (p.dir_entry j) (p.at j) (subst (λ j. (p.at j).event ≡ Evict) same h.2.event) in
        let brings = parts.2 in
        let not_it : brings_data (action_of d (p.dir_entry j) (p.at j)) ≡ false = ap brings_data none in cc (brings, not_it))
    by (Ask e s ph t) desc None slot h = subst (λ y. is_due_input d y (reply_input x.line (Data r c v cnt k)) ≡ true) (sym desc) (asking e s ph t desc (is_ahead ph t) refl h.1)

-- Acknowledgements

pub ack_due : (d : Draft) (t : List TableState) (n : ℕ) (w : World) (m : ℕ → Mark) (i c k : ℕ) → IsWellFormed d → IsShaped d → IsSoundCache d t → IsOrderly d n w m → IsComplete t n w → slice_get w.replies i ≡ Some (InvAck c k)
    → (c < n) × (is_due_input d (core w c).line.desc (reply_input (core w c).line (InvAck c k)) ≡ true)
ack_due d t n w m i c k wf sh sound o full get = (low, both_so (is_pending x && is_storing x.line.desc) refl (o.answered c low).acks)
  where
    p : DirOrder
    p = order_of d w

    kn : IsKnown d n p
    kn = known d n p wf sh o.past

    low : c < n
    low = promised_at d p (λ c. (m c).last) n w.replies i (InvAck c k) get o.promised

    x : Core
    x = core w c

    pl : IsPlaced d p c x (m c)
    pl = o.placed c low

    some : 1 ≤ tally (is_ack_to c) w.replies
    some = counted (is_ack_to c) w.replies i (InvAck c k) get (eq-eqb c c refl)

    -- there is a shared state
    there : (j : ℕ) → (m c).last ≡ suc j → (is_pending x && is_storing x.line.desc) ≡ true → is_some (shared d) ≡ true
    there j last so =
        let sum = adds_up p (view_of w m) x (tally (is_ack_to c) w.replies) (m c).last j (is_pending x && is_storing x.line.desc) (o.answered c low).acks so last in
        let upto = pl.last_low in
        let (z, is) = needs_shared d n (p.dir_entry j) (p.at j) sh (kn.sound j (omega (arith, last, upto))) (omega (arith, sum, some)) in rw is refl

    more : (y : Desc) → x.line.need ≡ None → is_due_input d y at_input.AckMore ≡ true → is_due_input d y (reply_input x.line (InvAck c k)) ≡ true
    more y need due = ap (λ o. is_due_input d y (if is o (suc x.line.got) then at_input.AckLast else at_input.AckMore)) need ∙ due

    asking : (s : ℕ) (ph : Phase) (u : Tag) → x.line.desc ≡ Ask Store s ph u → (b : Bool) → is_ahead ph u ≡ b → IsAsking d p c x.line (m c) Store s ph u b → (is_pending x && is_storing x.line.desc) ≡ true
        → is_due_input d (Ask Store s ph u) (reply_input x.line (InvAck c k)) ≡ true
    asking s A u desc true lead a so = at (is x.line.need (suc x.line.got)) refl
      where
        at : (b : Bool) → is x.line.need (suc x.line.got) ≡ b → is_due_input d (Ask Store s A u) (if b then at_input.AckLast else at_input.AckMore) ≡ true
        at true last = acks_end d s u wf sh (subst (λ y. is_among (descs d mode.Defer) y ≡ true) desc (sound.known x.line.desc (full.states c low)))
        at false not_last = refl
    asking s Ad u desc true is a so = more (Ask Store s Ad u) a.need (there a.ordered.entry a.ordered.last so)
    asking s Ac u desc true is a so = absurd a.phase.1
    asking s D u desc true is a so = absurd (store_waits_not d s a.phase.0.1)
    asking s ph u desc false is a so = first (cache_is (λ c. is_owner c.role) d s) refl
      where
        first : (b : Bool) → cache_is (λ c. is_owner c.role) d s ≡ b → is_due_input d (Ask Store s ph u) (reply_input x.line (InvAck c k)) ≡ true
        first true owner =
            let phase : store_phase d s ≡ Ac = rw owner refl in
            more (Ask Store s ph u) a.0.need (subst (λ ph. is_due_input d (Ask Store s ph u) at_input.AckMore ≡ true) (sym (a.1.1 ∙ phase)) (there a.2.entry a.2.last so))
        first false owner =
            let phase : store_phase d s ≡ Ad = rw owner refl in
            more (Ask Store s ph u) a.0.need (subst (λ ph. is_due_input d (Ask Store s ph u) at_input.AckMore ≡ true) (sym (a.1.1 ∙ phase)) (there a.2.entry a.2.last so))

    by : (y : Desc) → x.line.desc ≡ y → (slot : Option SentRequest) → x.slot ≡ slot → IsLined d p c x.line (m c) y slot → (is_pending x ≡ true) × (is_storing x.line.desc ≡ true)
        → is_due_input d x.line.desc (reply_input x.line (InvAck c k)) ≡ true
    by y desc (Some a) slot h so = absurd (not_pending (not (is_stable x.line.desc)) (ap (λ o. not (is_stable x.line.desc) && is_none o) (sym slot) ∙ so.0))
    by (Stable s) desc None slot h so = absurd (let idle : is_pending x ≡ false = rw desc refl in let pend = so.0 in cc (idle, pend))
    by (Leave s) desc None slot h so = absurd (let idle : is_storing x.line.desc ≡ false = rw desc refl in let st = so.1 in cc (idle, st))
    by (Ask Load s ph u) desc None slot h so = absurd (let idle : is_storing x.line.desc ≡ false = rw desc refl in let st = so.1 in cc (idle, st))
    by (Ask Evict s ph u) desc None slot h so = absurd (let idle : is_storing x.line.desc ≡ false = rw desc refl in let st = so.1 in cc (idle, st))
    by (Ask Store s ph u) desc None slot h so = subst (λ y. is_due_input d y (reply_input x.line (InvAck c k)) ≡ true) (sym desc) (asking s ph u desc (is_ahead ph u) refl h.1 (rw (so.0, so.1) refl))

    both_so : (b : Bool) → (is_pending x && is_storing x.line.desc) ≡ b → AcksAre p (view_of w m) x (tally (is_ack_to c) w.replies) (m c).last b → is_due_input d x.line.desc (reply_input x.line (InvAck c k)) ≡ true
    both_so true so h = by x.line.desc refl x.slot refl pl.line (and_true (is_pending x) (is_storing x.line.desc) so)
    both_so false so h = absurd (let none = h.1 in omega (arith, none, some))

-- What is written back

pub wb_due : (d : Draft) (n : ℕ) (w : World) (m : ℕ → Mark) (i v k : ℕ) → IsOrderly d n w m → slice_get w.replies i ≡ Some (WbData v k) → (is_busy w.directory.desc ≡ true) × ((ch : DirChoice) × (dir_choice d w.directory.desc met.Wb ≡ Some ch))
wb_due d n w m i v k o get = let busy = is_it (is_busy w.directory.desc) o.busy in (busy, by w.directory.desc busy)
  where
    some : 1 ≤ tally is_write_back w.replies
    some = counted is_write_back w.replies i (WbData v k) get refl

    is_it : (b : Bool) → IsBusy d (order_of d w) (view_of w m) (tally is_write_back w.replies) b → b ≡ true
    is_it true h = refl
    is_it false h = absurd (omega (arith, some, h))

    by : (y : Rattle.pg_table.specs.declared.directory.DirDesc.DirDesc) → is_busy y ≡ true → (ch : DirChoice) × (dir_choice d y met.Wb ≡ Some ch)
    by (Rattle.pg_table.specs.declared.directory.DirDesc.TheVariants.State n) h = cc
    by (Rattle.pg_table.specs.declared.directory.DirDesc.TheVariants.Busy n) h = (record { acts = Rattle.pg_table.specs.declared.directory.DirAct.TheVariants.Write ∷ []; next = Rattle.pg_table.specs.declared.directory.DirDesc.TheVariants.State n }, refl)
