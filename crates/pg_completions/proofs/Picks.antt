-- What a sound table picks, and the world that it makes.
use Rattle.std.proofs.Common.{◌≡◌, ℕ, ◌+◌, ◌-◌, ◌<◌, ◌≤◌, arith, Bool, true, false, ◌&&◌, List, ◌++◌, Option, Some, None, refl, ap, ◌∙◌}
use Rattle.std.specs.Prelude.{is_none, slice_get}
use Rattle.std.specs.List.{remove}
use Rattle.pg_perm.specs.declared.draft.Draft.{Draft}
use Rattle.pg_perm.specs.Drafts.{IsWellFormed}
use Rattle.pg_shape.specs.Shaped.{IsShaped}
use Rattle.pg_table.specs.declared.cache.Desc.{Desc}
use Rattle.pg_table.specs.declared.cache.Input.{Input}
use Rattle.pg_table.specs.Tables.{TableState}
use Rattle.pg_table.specs.Choices.{Choice, choices}
use Rattle.pg_table.specs.DueInputs.{is_due_input}
use Rattle.pg_table.specs.Pick.{pick as picked}
use Rattle.pg_table.specs.Sound.{is_among, states_of, IsSoundCache}
use Rattle.pg_table.proofs.DueInputs.{due_chooses}
use Rattle.pg_table.proofs.Picked.{picks_some, picks_choice}
use Rattle.pg_order.specs.Messages.{sent_between}
use Rattle.pg_order.proofs.Between.{between-append, between-quiet}
use Rattle.pg_messages.specs.declared.messages.Ask.{Ask as SentRequest}
use Rattle.pg_messages.specs.declared.messages.Reply.TheVariants.{Data, InvAck}
use Rattle.pg_controllers.specs.Lines.{LineResult, result_of, reply_input, received_reply}
use Rattle.pg_messages.specs.declared.messages.WorldEvent.TheVariants.{Reply as Reply_at}
use Rattle.pg_controllers.specs.Worlds.{World, Picks, core, done_of, by_choice, reply as replied, move}
use Rattle.pg_orderly.proofs.Keeping.{moved}
use Rattle.pg_orderly.proofs.Rows.{IsChosen}

-- where an input may come
pub chosen_by : (d : Draft) (t : List TableState) (x : Desc) (i : Input) → IsWellFormed d → IsShaped d → IsSoundCache d t → is_among (states_of t) x ≡ true → is_due_input d x i ≡ true
    → (ch : Choice) × (picked t x i ≡ Some ch) × IsChosen (choices d x i) ch
chosen_by d t x i wf sh sound among due =
    let (c, cs, some) = due_chooses d x i wf sh (sound.known x among) due in
    let (ch, picks) = picks_some d t x i c cs sound among some in (ch, picks, picks_choice d t x i ch sound among picks)

-- the world once reply i was taken and core c did what it does
abbrev pub with_reply : World → ℕ → ℕ → LineResult → World
with_reply w c i a = moved c (record (core w c) { line = a.line; slot = a.slot }) (remove w.replies i ++ a.replies) (w.done ++ done_of c a.done) w

pub data_moves : (d : Draft) (pick : Picks) (w : World) (i r c v cnt k : ℕ) (ch : Choice) → slice_get w.replies i ≡ Some (Data r c v cnt k) → pick (core w c).line.desc (reply_input (core w c).line (Data r c v cnt k)) ≡ Some ch
    → move d pick w (Reply_at i) ≡ with_reply w c i (result_of d ch (received_reply d (core w c).line (Data r c v cnt k)) (core w c).line (core w c).slot)
data_moves d pick w i r c v cnt k ch get picks =
    ap (replied d pick (record w { replies = remove w.replies i })) get
    ∙ ap (by_choice d c (received_reply d (core w c).line (Data r c v cnt k)) (core w c) (record w { replies = remove w.replies i })) picks

pub ack_moves : (d : Draft) (pick : Picks) (w : World) (i c k : ℕ) (ch : Choice) → slice_get w.replies i ≡ Some (InvAck c k) → pick (core w c).line.desc (reply_input (core w c).line (InvAck c k)) ≡ Some ch
    → move d pick w (Reply_at i) ≡ with_reply w c i (result_of d ch (received_reply d (core w c).line (InvAck c k)) (core w c).line (core w c).slot)
ack_moves d pick w i c k ch get picks =
    ap (replied d pick (record w { replies = remove w.replies i })) get
    ∙ ap (by_choice d c (received_reply d (core w c).line (InvAck c k)) (core w c) (record w { replies = remove w.replies i })) picks

pub no_slot : (a : Bool) (o : Option SentRequest) → (a && is_none o) ≡ true → o ≡ None
no_slot a None h = refl
no_slot true (Some x) h = cc
no_slot false (Some x) h = cc

-- where nothing is sent from a up to b, what is sent from a on is sent from b on
pub quiet_queue : {A : Type 0} (to : ℕ → Option A) (a b n top : ℕ) (q : List A) → a ≤ b → b ≤ top → a + n ≡ top → q ≡ sent_between to a n → ((j : ℕ) → a ≤ j → j < b → to j ≡ None)
    → (r : ℕ) × (b + r ≡ top) × (q ≡ sent_between to b r)
quiet_queue to a b n top q from upto sum is quiet =
    let g : ℕ = b - a in
    let r : ℕ = top - b in
    let at : a + g ≡ b = omega (arith, from) in
    let more : b + r ≡ top = omega (arith, upto) in
    (r, more, is ∙ between-append to a g r b n (omega (arith, at, more, sum)) at ∙ ap (λ xs. xs ++ sent_between to b r) (between-quiet to a g (λ j lo hi. quiet j lo (omega (arith, hi, at)))))
