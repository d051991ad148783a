-- What the acts of rows make of a line: from a row to a move.
use Rattle.std.proofs.Common.{◌≡◌, ◌≢◌, ℕ, Bool, true, false, List, [], ◌∷◌, ◌++◌, Option, Some, None, refl, sym, ap, ◌∙◌}
use Rattle.std.specs.Prelude.{if◌then◌else◌}
use Rattle.pg_perm.specs.declared.kinds.Event.{Event}
use Rattle.pg_perm.specs.declared.kinds.Event.TheVariants.{Load, Store}
use Rattle.pg_perm.specs.declared.kinds.Op.{Op}
use Rattle.pg_perm.specs.declared.kinds.FwdClass.TheVariants as class
use Rattle.pg_perm.specs.declared.draft.Draft.{Draft}
use Rattle.pg_perm.specs.declared.draft.ReplyName.TheVariants as reply
use Rattle.pg_terms.specs.Terms.{has_class}
use Rattle.pg_terms.specs.Rows.{final_state}
use Rattle.pg_table.specs.declared.cache.Desc.TheVariants.{Stable, Ask}
use Rattle.pg_table.specs.declared.cache.Phase.{Phase}
use Rattle.pg_table.specs.declared.cache.Phase.TheVariants.{D, Ad}
use Rattle.pg_table.specs.declared.cache.Tag.{Tag}
use Rattle.pg_table.specs.declared.cache.Tag.TheVariants.{Plain, Kept, Gave, Gone}
use Rattle.pg_table.specs.declared.cache.Input.TheVariants as at
use Rattle.pg_table.specs.declared.cache.Act.TheVariants as act
use Rattle.pg_table.specs.Choices.{Choice, data_acts, answer_acts as answer, serve_acts as serves, choices}
use Rattle.pg_messages.specs.declared.messages.Ordered.{Ordered}
use Rattle.pg_messages.specs.declared.messages.Ordered.TheVariants.{Forward}
use Rattle.pg_messages.specs.declared.messages.Ask.{Ask as SentRequest}
use Rattle.pg_messages.specs.declared.messages.Reply.TheVariants.{Data, InvAck}
use Rattle.pg_controllers.specs.Networks.{Line}
use Rattle.pg_controllers.specs.Lines.{Received, LineResult, serve, complete, do_acts, goes_to, result_of, received_ordered}
use Rattle.pg_messages.specs.declared.messages.WorldEvent.TheVariants.{Ordered as Ordered_to}
use Rattle.pg_controllers.specs.Worlds.{World, Picks, core, settle, by_choice, deliver, move}
use Rattle.pg_orderly.proofs.Rows.{IsChosen, IsAnswer, taken, IsEnd, ends_so}
use Rattle.pg_orderly.proofs.Keeping.{moved}
use Rattle.pg_orderly.proofs.Answer.{with_base, answering, written_back, owner_sends}
use Rattle.pg_orderly.proofs.Answered.{with_answer}
use Rattle.pg_orderly.proofs.Postpone.{put_off}
use Rattle.pg_orderly.proofs.Postponed.{with_put_off}

abbrev pub starts : Line → Option SentRequest → LineResult
starts l slot = record { line = l; slot = slot; replies = []; done = None }

-- A forward is answered

owner_answer : (d : Draft) (m : Received) (l : Line) (slot : Option SentRequest) (f a : ℕ) (b : Bool)
    → do_acts d m (if b then data_acts (Some a) ++ act.Wb ∷ [] else data_acts (Some a)) (starts l slot)
    ≡ record { line = record l { stamp = m.stamp }; slot = slot; replies = Data a m.who l.word m.count m.stamp ∷ written_back b l.word m.stamp; done = None }
owner_answer d m l slot f a true = refl
owner_answer d m l slot f a false = refl

pub answer_acts : (d : Draft) (m : Received) (l : Line) (slot : Option SentRequest) (f a : ℕ) → has_class class.Inv d f ≡ false
    → do_acts d m (answer d f (Some a)) (starts l slot) ≡ record { line = record l { stamp = m.stamp }; slot = slot; replies = owner_sends d f a m.who l.word m.count m.stamp; done = None }
answer_acts d m l slot f a not_inv = rw not_inv (owner_answer d m l slot f a (has_class class.Share d f))

inv_answer : (d : Draft) (m : Received) (l : Line) (slot : Option SentRequest) (f : ℕ) (o : Option ℕ) → has_class class.Inv d f ≡ true
    → do_acts d m (answer d f o) (starts l slot) ≡ record { line = record l { stamp = m.stamp }; slot = slot; replies = InvAck m.who m.stamp ∷ []; done = None }
inv_answer d m l slot f o inv = rw inv refl

-- the world after a forward to an owner at rest, by any table that picks among the choices
pub stable_answers : (d : Draft) (pick : Picks) (w : World) (c s f r i k a : ℕ) (ms : List Ordered) (ch : Choice) → (core w c).line.desc ≡ Stable s → (core w c).queue ≡ Forward f r i k ∷ ms
    → pick (Stable s) (at.Forward f) ≡ Some ch → (h : IsAnswer d s f (λ t. Stable t) ch) → has_class class.Inv d f ≡ false → h.take.reply ≡ Some a
    → move d pick w (Ordered_to c) ≡ moved c (with_answer d (core w c) h.take.next k ms) (w.replies ++ owner_sends d f a r (core w c).line.word i k) (w.done ++ []) w
stable_answers d pick w c s f r i k a ms ch desc queue picks h not_inv reply =
    ap (deliver d pick c (core w c) w) queue
    ∙ ap (by_choice d c (received_ordered (core w c).line (Forward f r i k)) (record (core w c) { queue = ms }) w) (ap (λ s. pick s (at.Forward f)) desc ∙ picks)
    ∙ ap (λ a. settle c (record (core w c) { queue = ms }) a w) effect
  where
    m : Received
    m = received_ordered (core w c).line (Forward f r i k)

    l : Line
    l = (core w c).line

    acts : ch.acts ≡ answer d f (Some a)
    acts = h.acts ∙ ap (answer d f) reply

    next : ch.next ≡ with_base d l.desc h.take.next
    next = h.next ∙ sym (ap (λ s. with_base d s h.take.next) desc)

    effect : result_of d ch m l (core w c).slot ≡ record { line = answering d l h.take.next k; slot = (core w c).slot; replies = owner_sends d f a r l.word i k; done = None }
    effect =
        ap (λ xs. goes_to ch.next (do_acts d m xs (starts l (core w c).slot))) acts
        ∙ ap (goes_to ch.next) (answer_acts d m l (core w c).slot f a not_inv)
        ∙ ap (λ s. goes_to s (record { line = record l { stamp = k }; slot = (core w c).slot; replies = owner_sends d f a r l.word i k; done = None })) next

-- A forward is put off

pub later_puts_off : (d : Draft) (pick : Picks) (w : World) (c : ℕ) (e : Event) (s : ℕ) (ph : Phase) (t : Tag) (f r i k : ℕ) (ms : List Ordered) → (core w c).line.desc ≡ Ask e s ph t → (core w c).slot ≡ None
    → (core w c).queue ≡ Forward f r i k ∷ ms → has_class class.Inv d f ≡ false → pick (Ask e s ph t) (at.Forward f) ≡ Some (taken d e s ph f)
    → move d pick w (Ordered_to c) ≡ moved c (with_put_off d (core w c) e s ph (Forward f r i k) f ms) (w.replies ++ []) (w.done ++ []) w
later_puts_off d pick w c e s ph t f r i k ms desc slot queue not_inv picks =
    ap (deliver d pick c (core w c) w) queue
    ∙ ap (by_choice d c (received_ordered (core w c).line (Forward f r i k)) (record (core w c) { queue = ms }) w) (ap (λ s. pick s (at.Forward f)) desc ∙ picks)
    ∙ ap (λ a. settle c (record (core w c) { queue = ms }) a w) effect
    ∙ ap (λ o. moved c (record { line = put_off d (core w c).line e s ph (Forward f r i k) f; left = (core w c).left; slot = o; queue = ms }) (w.replies ++ []) (w.done ++ []) w) slot
  where
    effect : result_of d (taken d e s ph f) (received_ordered (core w c).line (Forward f r i k)) (core w c).line (core w c).slot
        ≡ record { line = put_off d (core w c).line e s ph (Forward f r i k) f; slot = (core w c).slot; replies = []; done = None }
    effect = rw not_inv refl

-- An operation is done with data, and what was put off is answered

-- the line once its data has come and its operation is done
abbrev pub filled : Op → Received → Line → Option SentRequest → LineResult
filled o m l slot = complete o m (starts (record l { word = m.word; stamp = m.stamp }) slot)

pub fill_acts : (d : Draft) (m : Received) (l : Line) (slot : Option SentRequest) (o : Op) (t : Tag) → l.pending ≡ Some o
    → do_acts d m (act.Fill ∷ [] ++ act.Done ∷ [] ++ serves t) (starts l slot) ≡ do_acts d m (serves t) (filled o m l slot)
fill_acts d m l slot o t pending = rw pending refl

pub serve_acts : (d : Draft) (m : Received) (a : LineResult) (t : Tag) → t ≢ Plain → do_acts d m (serves t) a ≡ serve d m.final a.line.deferred (record a { line = record a.line { deferred = [] } })
serve_acts d m a Plain not_plain = absurd (not_plain refl)
serve_acts d m a Kept not_plain = refl
serve_acts d m a Gave not_plain = refl
serve_acts d m a Gone not_plain = refl

-- the rows of a load that gets data: there is a final state, and the tag tells the state in which it ends
pub load_ends : (d : Draft) (s r : ℕ) (t : Tag) (c : Choice) → IsChosen (choices d (Ask Load s D t) (at.DataAll r)) c → IsEnd d t (act.Fill ∷ []) (final_state d s Load (reply.Reply r)) c
load_ends d s r t c h = ends_so d t (act.Fill ∷ []) (final_state d s Load (reply.Reply r)) c h

pub store_ends : (d : Draft) (s r : ℕ) (t : Tag) (c : Choice) → IsChosen (choices d (Ask Store s Ad t) (at.DataAll r)) c → IsEnd d t (act.Fill ∷ []) (final_state d s Store (reply.Reply r)) c
store_ends d s r t c h = ends_so d t (act.Fill ∷ []) (final_state d s Store (reply.Reply r)) c h
