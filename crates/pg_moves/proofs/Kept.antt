-- Each event keeps worlds orderly, where those at data, acknowledgements, counts and early invalidations do; so every world that is reached is orderly.
use Rattle.std.proofs.Common.{◌≡◌, ℕ, zero, suc, ◌<◌, ◌≤◌, arith, Bool, true, false, not, List, [], ◌∷◌, length, get_or, Option, Some, None, refl, sym, ap, subst, ◌∙◌, ◌⊎◌, inl, inr}
use Rattle.std.specs.Prelude.{slice_get}
use Rattle.std.specs.List.{list_any, remove}
use Rattle.std.proofs.lemmas.Bool.{ltb-true}
use Rattle.std.proofs.lemmas.List.{length-map}
use Rattle.pg_perm.proofs.Booleans.{and_true}
use Rattle.pg_perm.specs.declared.kinds.Op.{Op}
use Rattle.pg_perm.specs.declared.kinds.FwdClass.TheVariants.{Inv}
use Rattle.pg_perm.specs.declared.draft.Draft.{Draft}
use Rattle.pg_perm.specs.Drafts.{IsWellFormed}
use Rattle.pg_terms.specs.Terms.{has_class}
use Rattle.pg_shape.specs.Shaped.{IsShaped}
use Rattle.pg_table.specs.declared.cache.Input.TheVariants as at_input
use Rattle.pg_table.specs.Tables.{TableState}
use Rattle.pg_table.specs.Choices.{Choice}
use Rattle.pg_table.specs.Pick.{pick as picked}
use Rattle.pg_table.specs.Sound.{IsSoundCache}
use Rattle.pg_table.specs.Stalls.{is_stall}
use Rattle.pg_messages.specs.declared.messages.Ordered.{Ordered}
use Rattle.pg_messages.specs.declared.messages.Ordered.TheVariants.{Forward, AckCount, PutAck}
use Rattle.pg_messages.specs.declared.messages.Reply.{Reply}
use Rattle.pg_messages.specs.declared.messages.Reply.TheVariants.{Data, InvAck, WbData}
use Rattle.pg_controllers.specs.Networks.{Core, idle_core}
use Rattle.pg_controllers.specs.Lines.{received_ordered}
use Rattle.pg_messages.specs.declared.messages.WorldEvent.{WorldEvent}
use Rattle.pg_messages.specs.declared.messages.WorldEvent.TheVariants.{Issue, Request as Request_of, Ordered as Ordered_to, Reply as Reply_at}
use Rattle.pg_controllers.specs.Worlds.{Picks, World, core, by_choice, issue, deliver, request, reply as replied, move, with_event, step, waits, has_head, is_enabled, has_row, can_happen}
use Rattle.pg_controllers.specs.Runs.{opening_core, opening, replay, AreEnabled, IsReached}
use Rattle.pg_orderly.specs.Orderly.{Mark, is_pending, IsOrderly}
use Rattle.pg_orderly.proofs.Opening.{no_marks, opens}
use Rattle.pg_safe.specs.Moving.{ArePicked, IsComplete, KeepsOrderly}
use Rattle.pg_safe.proofs.DirRows.{move_dir_state, opening_dir_state}
use Rattle.pg_safe.proofs.Sides.{answers_it}
use Rattle.pg_safe.proofs.States.{complete_kept, opening_states, step_is}
use Rattle.pg_safe.proofs.Waiting.{tables_pick}
use Rattle.pg_moves.specs.Kept.{IsOrderlyWorld, IsSoundWorld}
use Rattle.pg_moves.proofs.Issued.{issue_kept}
use Rattle.pg_moves.proofs.Requested.{request_kept}
use Rattle.pg_moves.proofs.WrittenBack.{wb_kept}
use Rattle.pg_moves.proofs.Retired.{put_ack_kept}
use Rattle.pg_moves.proofs.Forwarded.{answered_kept, idle_answers, waits_kept}

pub below_or : (c n : ℕ) → (c < n) ⊎ (n ≤ c)
below_or c n = search arith

pub default_beyond : (xs : List Core) (c : ℕ) → length xs ≤ c → get_or xs c idle_core ≡ idle_core
default_beyond [] c out = refl
default_beyond (x ∷ xs) zero out = absurd (omega (arith, out))
default_beyond (x ∷ xs) (suc c) out = default_beyond xs c (omega (arith, out))

-- data, acknowledgements, counts, and invalidations that a pending line doesn't answer but acknowledges early, keep the world orderly
pub record IsKeptB (d : Draft) (t : List TableState) (n : ℕ) (w : World) (m : ℕ → Mark) : Type 0 where
  pub filled : (i r c v cnt k : ℕ) → slice_get w.replies i ≡ Some (Data r c v cnt k) → IsOrderlyWorld d n (move d (picked t) w (Reply_at i))
  pub acked : (i c k : ℕ) → slice_get w.replies i ≡ Some (InvAck c k) → IsOrderlyWorld d n (move d (picked t) w (Reply_at i))
  pub counted : (c cnt k : ℕ) (ms : List Ordered) → c < n → (core w c).queue ≡ AckCount cnt k ∷ ms → IsOrderlyWorld d n (move d (picked t) w (Ordered_to c))
  pub early : (c f r i k : ℕ) (ms : List Ordered) → c < n → (core w c).queue ≡ Forward f r i k ∷ ms → has_class Inv d f ≡ true → is_pending (core w c) ≡ true → answers_it d (core w c).line.desc f ≡ false
      → is_enabled (picked t) w (Ordered_to c) ≡ true → IsOrderlyWorld d n (move d (picked t) w (Ordered_to c))

-- they do in each orderly world
abbrev pub AreKeptB : Draft → List TableState → ℕ → Type 0
AreKeptB d t n = (w : World) (m : ℕ → Mark) → IsOrderly d n w m → IsComplete t n w → IsKeptB d t n w m

-- a forward at the head of a queue
pub forward_kept : (d : Draft) (t : List TableState) (n : ℕ) (w : World) (m : ℕ → Mark) (c f r i k : ℕ) (ms : List Ordered) → IsWellFormed d → IsShaped d → IsSoundCache d t → IsOrderly d n w m → IsComplete t n w
    → c < n → (core w c).queue ≡ Forward f r i k ∷ ms → is_enabled (picked t) w (Ordered_to c) ≡ true
    → (has_class Inv d f ≡ true → is_pending (core w c) ≡ true → answers_it d (core w c).line.desc f ≡ false → IsOrderlyWorld d n (move d (picked t) w (Ordered_to c)))
    → IsOrderlyWorld d n (move d (picked t) w (Ordered_to c))
forward_kept d t n w m c f r i k ms wf sh sound o full low queue on early = at (picked t (core w c).line.desc (at_input.Forward f)) refl
  where
    picks_one : ArePicked d (picked t) n w
    picks_one = tables_pick d t n w sound full

    moves : (ch : Choice) → picked t (core w c).line.desc (at_input.Forward f) ≡ Some ch → list_any is_stall ch.acts ≡ false
    moves ch picks = no_true (list_any is_stall ch.acts) (ap (λ o. not (waits o)) (sym picks) ∙ ap (has_head (picked t) (core w c).line) (sym queue) ∙ on)
      where
        no_true : (b : Bool) → not b ≡ true → b ≡ false
        no_true false h = refl
        no_true true h = cc

    by : (ch : Choice) → picked t (core w c).line.desc (at_input.Forward f) ≡ Some ch → (a : Bool) → answers_it d (core w c).line.desc f ≡ a → (p : Bool) → is_pending (core w c) ≡ p → (v : Bool) → has_class Inv d f ≡ v
        → IsOrderlyWorld d n (move d (picked t) w (Ordered_to c))
    by ch picks true answers p pend v inv = answered_kept d n (picked t) w m c f r i k ms ch wf sh low o queue answers picks (picks_one c low (at_input.Forward f) ch picks)
    by ch picks false answers false pend v inv = absurd (let here = idle_answers d n w m c f r i k ms wf sh low o queue pend in cc (here, answers))
    by ch picks false answers true pend true inv = early inv pend answers
    by ch picks false answers true pend false inv = waits_kept d n (picked t) w m c f r i k ms ch wf sh low o queue pend answers inv picks (picks_one c low (at_input.Forward f) ch picks) (moves ch picks)

    at : (q : Option Choice) → picked t (core w c).line.desc (at_input.Forward f) ≡ q → IsOrderlyWorld d n (move d (picked t) w (Ordered_to c))
    at None picks = subst (λ ms. IsOrderlyWorld d n (deliver d (picked t) c (core w c) w ms)) (sym queue)
        (subst (λ q. IsOrderlyWorld d n (by_choice d c (received_ordered (core w c).line (Forward f r i k)) (record (core w c) { queue = ms }) w q)) (sym picks) (m, o))
    at (Some ch) picks = by ch picks (answers_it d (core w c).line.desc f) refl (is_pending (core w c)) refl (has_class Inv d f) refl

-- an answer to an evict
pub answer_kept : (d : Draft) (t : List TableState) (n : ℕ) (w : World) (m : ℕ → Mark) (c k : ℕ) (ms : List Ordered) → IsWellFormed d → IsShaped d → IsSoundCache d t → IsOrderly d n w m → IsComplete t n w
    → c < n → (core w c).queue ≡ PutAck k ∷ ms → IsOrderlyWorld d n (move d (picked t) w (Ordered_to c))
answer_kept d t n w m c k ms wf sh sound o full low queue = at (picked t (core w c).line.desc at_input.PutAck) refl
  where
    at : (q : Option Choice) → picked t (core w c).line.desc at_input.PutAck ≡ q → IsOrderlyWorld d n (move d (picked t) w (Ordered_to c))
    at None picks = subst (λ ms. IsOrderlyWorld d n (deliver d (picked t) c (core w c) w ms)) (sym queue)
        (subst (λ q. IsOrderlyWorld d n (by_choice d c (received_ordered (core w c).line (PutAck k)) (record (core w c) { queue = ms }) w q)) (sym picks) (m, o))
    at (Some ch) picks = put_ack_kept d n (picked t) w m c k ms ch wf sh low o queue picks (tables_pick d t n w sound full c low at_input.PutAck ch picks)

-- a core begins an operation
pub begins_kept : (d : Draft) (t : List TableState) (n : ℕ) (w : World) (m : ℕ → Mark) (c : ℕ) → IsShaped d → IsSoundCache d t → IsOrderly d n w m → IsComplete t n w → is_enabled (picked t) w (Issue c) ≡ true
    → IsOrderlyWorld d n (move d (picked t) w (Issue c))
begins_kept d t n w m c sh sound o full on = elim (below_or c n) [
  | inl low ↦ issue_kept d n (picked t) w m c sh (tables_pick d t n w sound full) low o on
  | inr out ↦ let cores = o.cores in let idle : core w c ≡ idle_core = default_beyond w.cores c (omega (arith, out, cores)) in
      subst (λ os. IsOrderlyWorld d n (issue d (picked t) c (core w c) w os)) (sym (ap (λ (x : Core). x.left) idle)) (m, o)
]

-- the directory handles a request
pub asks_kept : (d : Draft) (n : ℕ) (pick : Picks) (w : World) (m : ℕ → Mark) (c : ℕ) → IsWellFormed d → IsShaped d → IsOrderly d n w m → is_enabled pick w (Request_of c) ≡ true → IsOrderlyWorld d n (move d pick w (Request_of c))
asks_kept d n pick w m c wf sh o on = elim (below_or c n) [
  | inl low ↦ request_kept d n pick w m c wf sh low o on
  | inr out ↦ let cores = o.cores in let idle : core w c ≡ idle_core = default_beyond w.cores c (omega (arith, out, cores)) in
      subst (λ a. IsOrderlyWorld d n (request d c w a)) (sym (ap (λ (x : Core). x.slot) idle)) (m, o)
]

-- data is written back
pub back_kept : (d : Draft) (n : ℕ) (pick : Picks) (w : World) (m : ℕ → Mark) (i v k : ℕ) → IsOrderly d n w m → slice_get w.replies i ≡ Some (WbData v k) → IsOrderlyWorld d n (move d pick w (Reply_at i))
back_kept d n pick w m i v k o get = subst (λ x. IsOrderlyWorld d n (replied d pick (record w { replies = remove w.replies i }) x)) (sym get) (m, wb_kept d n w m i v k o get)

-- each event
pub kept : (d : Draft) (t : List TableState) (n : ℕ) (w : World) (m : ℕ → Mark) (e : WorldEvent) → IsWellFormed d → IsShaped d → IsSoundCache d t → IsOrderly d n w m → IsComplete t n w → IsKeptB d t n w m
    → is_enabled (picked t) w e ≡ true → IsOrderlyWorld d n (move d (picked t) w e)
kept d t n w m (Issue c) wf sh sound o full rest on = begins_kept d t n w m c sh sound o full on
kept d t n w m (Request_of c) wf sh sound o full rest on = asks_kept d n (picked t) w m c wf sh o on
kept d t n w m (Ordered_to c) wf sh sound o full rest on = elim (below_or c n) [
  | inl low ↦ at low (core w c).queue refl
  | inr out ↦ let cores = o.cores in let idle : core w c ≡ idle_core = default_beyond w.cores c (omega (arith, out, cores)) in nothing [] (ap (λ (x : Core). x.queue) idle) refl
]
  where
    nothing : (ms : List Ordered) → (core w c).queue ≡ ms → ms ≡ [] → IsOrderlyWorld d n (move d (picked t) w (Ordered_to c))
    nothing ms queue none = subst (λ ms. IsOrderlyWorld d n (deliver d (picked t) c (core w c) w ms)) (sym (queue ∙ none)) (m, o)

    at : c < n → (ms : List Ordered) → (core w c).queue ≡ ms → IsOrderlyWorld d n (move d (picked t) w (Ordered_to c))
    at low [] queue = nothing [] queue refl
    at low (Forward f r i k ∷ ms) queue = forward_kept d t n w m c f r i k ms wf sh sound o full low queue on (λ inv pend answers. rest.early c f r i k ms low queue inv pend answers on)
    at low (AckCount cnt k ∷ ms) queue = rest.counted c cnt k ms low queue
    at low (PutAck k ∷ ms) queue = answer_kept d t n w m c k ms wf sh sound o full low queue
kept d t n w m (Reply_at i) wf sh sound o full rest on = at (slice_get w.replies i) refl
  where
    there : (xs : List Reply) (i : ℕ) → i < length xs → slice_get xs i ≡ None → ⊥
    there [] i lt e = omega (arith, lt)
    there (x ∷ xs) zero lt e = cc
    there (x ∷ xs) (suc i) lt e = there xs i (omega (arith, lt)) e

    at : (x : Option Reply) → slice_get w.replies i ≡ x → IsOrderlyWorld d n (move d (picked t) w (Reply_at i))
    at None get = absurd (there w.replies i (ltb-true i (length w.replies) on) get)
    at (Some (Data r c v cnt k)) get = rest.filled i r c v cnt k get
    at (Some (InvAck c k)) get = rest.acked i c k get
    at (Some (WbData v k)) get = back_kept d n (picked t) w m i v k o get

-- Runs

pub noted_kept : (d : Draft) (n : ℕ) (w : World) (e : ℕ × WorldEvent) (m : ℕ → Mark) → IsOrderly d n w m → IsOrderly d n (with_event e w) m
noted_kept d n w e m o = record {
  cores = o.cores;
  past = o.past;
  directory = o.directory;
  last = o.last;
  placed = o.placed;
  waiting = o.waiting;
  ungranted = o.ungranted;
  promised = o.promised;
  answered = o.answered;
  busy = o.busy;
  shares = o.shares;
}

-- as pg_safe asks for it
pub all_kept : (d : Draft) (t : List TableState) (n : ℕ) → IsWellFormed d → IsShaped d → IsSoundCache d t → AreKeptB d t n → KeepsOrderly d t n
all_kept d t n wf sh sound rest w m e o full on =
    let (u, ok) = kept d t n w m e.1 wf sh sound o full (rest w m o full) (and_true (is_enabled (picked t) w e.1) (has_row d (picked t) w e.1) on).0 in
    (u, subst (λ z. IsOrderly d n z u) (sym (step_is d (picked t) w e on)) (noted_kept d n (move d (picked t) w e.1) e u ok))

-- a step keeps good worlds
pub step_kept : (d : Draft) (t : List TableState) (n : ℕ) (w : World) (e : ℕ × WorldEvent) → IsWellFormed d → IsShaped d → IsSoundCache d t
    → ((m : ℕ → Mark) → IsOrderly d n w m → IsComplete t n w → IsKeptB d t n w m) → can_happen d (picked t) w e.1 ≡ true → IsSoundWorld d t n w → IsSoundWorld d t n (step d (picked t) w e)
step_kept d t n w e wf sh sound rest on good =
    let (u, ok) = kept d t n w good.marks e.1 wf sh sound good.orderly good.complete (rest good.marks good.orderly good.complete) (and_true (is_enabled (picked t) w e.1) (has_row d (picked t) w e.1) on).0 in
    let complete = complete_kept d t n w e.1 sound good.orderly.cores ok.cores good.complete in
    subst (IsSoundWorld d t n) (sym (step_is d (picked t) w e on)) (record {
      marks = u;
      orderly = noted_kept d n (move d (picked t) w e.1) e u ok;
      complete = record { states = complete.states };
      directory = move_dir_state d (picked t) w e.1 wf good.directory;
    })

pub run_kept : (d : Draft) (t : List TableState) (n : ℕ) → IsWellFormed d → IsShaped d → IsSoundCache d t → AreKeptB d t n
    → (es : List (ℕ × WorldEvent)) (w : World) → IsSoundWorld d t n w → AreEnabled d (picked t) w es → IsSoundWorld d t n (replay d (picked t) w es)
run_kept d t n wf sh sound rest [] w good on = good
run_kept d t n wf sh sound rest (e ∷ es) w good on = run_kept d t n wf sh sound rest es (step d (picked t) w e) (step_kept d t n w e wf sh sound (rest w) on.0 good) on.1

pub opening_good : (d : Draft) (t : List TableState) (given : List (List Op)) → IsWellFormed d → IsShaped d → IsSoundCache d t → IsSoundWorld d t (length given) (opening d given)
opening_good d t given wf sh sound =
    let long : length (opening d given).cores ≡ length given = length-map given (opening_core d) in
    record {
      marks = no_marks;
      orderly = opens d given wf sh;
      complete = record { states = λ c low. opening_states d t given sh sound c (omega (arith, low, long)) };
      directory = opening_dir_state d given wf sh;
    }

-- every world that is reached
pub reached_good : (d : Draft) (t : List TableState) (given : List (List Op)) (w : World) → IsWellFormed d → IsShaped d → IsSoundCache d t
    → AreKeptB d t (length given) → IsReached d (picked t) given w → IsSoundWorld d t (length given) w
reached_good d t given w wf sh sound rest reached =
    subst (IsSoundWorld d t (length given)) reached.same (run_kept d t (length given) wf sh sound rest w.journal (opening d given) (opening_good d t given wf sh sound) reached.enabled)

-- What needs no premise

-- a forward that is no invalidation
pub passed_kept : (d : Draft) (t : List TableState) (n : ℕ) (w : World) (m : ℕ → Mark) (c f r i k : ℕ) (ms : List Ordered) → IsWellFormed d → IsShaped d → IsSoundCache d t → IsOrderly d n w m → IsComplete t n w
    → c < n → (core w c).queue ≡ Forward f r i k ∷ ms → is_enabled (picked t) w (Ordered_to c) ≡ true → has_class Inv d f ≡ false → IsOrderlyWorld d n (move d (picked t) w (Ordered_to c))
passed_kept d t n w m c f r i k ms wf sh sound o full low queue on not_inv = forward_kept d t n w m c f r i k ms wf sh sound o full low queue on (λ inv pend answers. absurd (cc (inv, not_inv)))

-- an invalidation at a line that isn't pending
pub inv_kept : (d : Draft) (t : List TableState) (n : ℕ) (w : World) (m : ℕ → Mark) (c f r i k : ℕ) (ms : List Ordered) → IsWellFormed d → IsShaped d → IsSoundCache d t → IsOrderly d n w m → IsComplete t n w
    → c < n → (core w c).queue ≡ Forward f r i k ∷ ms → is_enabled (picked t) w (Ordered_to c) ≡ true → is_pending (core w c) ≡ false → IsOrderlyWorld d n (move d (picked t) w (Ordered_to c))
inv_kept d t n w m c f r i k ms wf sh sound o full low queue on idle = forward_kept d t n w m c f r i k ms wf sh sound o full low queue on (λ inv pend answers. absurd (cc (idle, pend)))
