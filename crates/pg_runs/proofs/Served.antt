-- An operation is done, and what was put off is answered: all is kept that goes along a run.
use Rattle.std.proofs.Common.{◌≡◌, ◌≢◌, ℕ, ◌<◌, arith, List, [], ◌∷◌, ◌++◌, length, Some, None, refl, sym, ap, subst, ◌∙◌, append-nil}
use Rattle.std.proofs.lemmas.List.{length-set}
use Rattle.pg_perm.specs.declared.kinds.Op.{Op}
use Rattle.pg_perm.specs.declared.draft.Draft.{Draft}
use Rattle.pg_table.specs.declared.cache.Act.{Act}
use Rattle.pg_table.specs.declared.cache.Act.TheVariants as act
use Rattle.pg_table.specs.declared.cache.Desc.TheVariants.{Stable}
use Rattle.pg_table.specs.Choices.{answer_acts}
use Rattle.pg_messages.specs.declared.messages.Ordered.{Ordered}
use Rattle.pg_messages.specs.declared.messages.Ordered.TheVariants.{Forward, AckCount, PutAck}
use Rattle.pg_messages.specs.declared.messages.Reply.{Reply}
use Rattle.pg_controllers.specs.Networks.{Core}
use Rattle.pg_terms.specs.Rows.{reply_to}
use Rattle.pg_controllers.specs.Lines.{LineResult, next_of, send_reply, send_replies, serve}
use Rattle.pg_messages.specs.declared.messages.DoneEntry.{DoneEntry}
use Rattle.pg_controllers.specs.Worlds.{World, core}
use Rattle.pg_orderly.specs.Orderly.{Mark, IsOrderly}
use Rattle.pg_orderly.proofs.Keeping.{core_same, moved}
use Rattle.pg_orderly.proofs.Served.{resting, serves_so}
use Rattle.pg_orderly.proofs.Serving.{ArePutOff}
use Rattle.pg_orderly.proofs.TagReplay.{Leads}
use Rattle.pg_serial.specs.Serial.{made_by}
use Rattle.pg_serial.specs.Faithful.{IsFaithful}
use Rattle.pg_refined.specs.Shown.{accesses, shown}
use Rattle.pg_refined.specs.Kept.{IsRefined}
use Rattle.pg_refined.specs.Operations.{MadeOf}
use Rattle.pg_refined.proofs.Taken.{takes_done}
use Rattle.pg_refined.proofs.Whole.{IsServedTo}
use Rattle.pg_completions.proofs.Ending.{rests, serves_lead}
use Rattle.pg_runs.specs.Headline.{IsRefinedWorld}
use Rattle.pg_runs.proofs.Moves.{moved_true}

-- What answers don't touch

pub record IsAsBefore (a b : LineResult) : Type 0 where
  pub pending : b.line.pending ≡ a.line.pending
  pub slot : b.slot ≡ a.slot
  pub done : b.done ≡ a.done

said_as : (who n k : ℕ) (x : Act) (a : LineResult) → IsAsBefore a (send_reply who n k x a)
said_as who n k act.Hit a = record { pending = refl; slot = refl; done = refl }
said_as who n k act.Skip a = record { pending = refl; slot = refl; done = refl }
said_as who n k (act.Send q) a = record { pending = refl; slot = refl; done = refl }
said_as who n k act.Ack a = record { pending = refl; slot = refl; done = refl }
said_as who n k (act.Give r) a = record { pending = refl; slot = refl; done = refl }
said_as who n k act.Wb a = record { pending = refl; slot = refl; done = refl }
said_as who n k act.Fill a = record { pending = refl; slot = refl; done = refl }
said_as who n k act.Need a = record { pending = refl; slot = refl; done = refl }
said_as who n k act.Count a = record { pending = refl; slot = refl; done = refl }
said_as who n k act.Done a = record { pending = refl; slot = refl; done = refl }
said_as who n k act.Defer a = record { pending = refl; slot = refl; done = refl }
said_as who n k act.Serve a = record { pending = refl; slot = refl; done = refl }
said_as who n k act.Stall a = record { pending = refl; slot = refl; done = refl }

as_before : (a b c : LineResult) → IsAsBefore a b → IsAsBefore b c → IsAsBefore a c
as_before a b c h g = record { pending = g.pending ∙ h.pending; slot = g.slot ∙ h.slot; done = g.done ∙ h.done }

all_said_as : (who n k : ℕ) (xs : List Act) (a : LineResult) → IsAsBefore a (send_replies who n k xs a)
all_said_as who n k [] a = record { pending = refl; slot = refl; done = refl }
all_said_as who n k (x ∷ xs) a = as_before a (send_reply who n k x a) (send_replies who n k xs (send_reply who n k x a)) (said_as who n k x a) (all_said_as who n k xs (send_reply who n k x a))

pub served_as : (d : Draft) (f : ℕ) (ms : List Ordered) (a : LineResult) → IsAsBefore a (serve d f ms a)
served_as d f [] a = record { pending = refl; slot = refl; done = refl }
served_as d f (AckCount i k ∷ ms) a = served_as d f ms a
served_as d f (PutAck k ∷ ms) a = served_as d f ms a
served_as d f (Forward g r i k ∷ ms) a =
    let b = send_replies r i k (answer_acts d g (reply_to d f g)) a in
    as_before a b (serve d (next_of d f g) ms b) (all_said_as r i k (answer_acts d g (reply_to d f g)) a) (served_as d (next_of d f g) ms b)

-- Both

pub served_true : (d : Draft) (given : List (List Op)) (w : World) (m : ℕ → Mark) (c : ℕ) (x : LineResult) (f state : ℕ) (ms q : List Ordered) (rs : List Reply) (es : List DoneEntry) (o : Op) → IsRefined d given w m → c < length given
    → x.replies ≡ [] → x.slot ≡ None → x.line.pending ≡ None → (core w c).line.pending ≡ Some o → MadeOf c (o ∷ []) (made_by c (accesses es)) → ((e : ℕ) → e ≢ c → made_by e (accesses es) ≡ [])
    → ArePutOff d ms → Leads d f ms state → IsServedTo d (length given) c q (moved c (rests f (core w c) x (ms ++ q)) rs (w.done ++ es) w) ms
    → IsRefinedWorld d given (moved c (rests state (core w c) (serve d f ms x) q) (rs ++ (serve d f ms x).replies) (w.done ++ es) w)
served_true d given w m c x f state ms q rs es o h low silent empty rested pending made others off leads served =
    let (z, u, how, ok, flags, told) = served in
    let (t, end) = serves_so d c (core w c) q ms f x w0 z inside off back (sym same) how in
    let there = serves_lead d c q ms f state back z (let more = length-set w.cores c (rests f (core w c) x (ms ++ q)) in omega (arith, inside, more)) (ap (λ (x : Core). x.line.desc) at) how leads in
    let says : Stable t ≡ Stable state = sym (ap (λ (x : Core). x.line.desc) (core_same c (rests t (core w c) (serve d f ms x) q) (rs ++ (serve d f ms x).replies) dn w inside)) ∙ sym (ap (λ z. (core z c).line.desc) end) ∙ there in
    let is : t ≡ state = cc in
    let world : z ≡ moved c y (rs ++ (serve d f ms x).replies) dn w = end ∙ ap (λ t. moved c (rests t (core w c) (serve d f ms x) q) (rs ++ (serve d f ms x).replies) dn w) is in (
      u,
      moved_true d given w m c y (rs ++ (serve d f ms x).replies) es u h low (λ v a full brings. absurd (let none = keeps.slot ∙ empty in cc (none, full)))
          (takes_done w c y o es pending (keeps.pending ∙ rested) refl made others) (subst (λ z. IsOrderly d (length given) z u) world ok) (subst (λ z. IsFaithful d (length given) (shown d z u)) world told),
    )
  where
    inside : c < length w.cores
    inside = let same = h.orderly.cores in omega (arith, same, low)

    dn : List DoneEntry
    dn = w.done ++ es

    keeps : IsAsBefore x (serve d f ms x)
    keeps = served_as d f ms x

    y : Core
    y = rests state (core w c) (serve d f ms x) q

    w0 : World
    w0 = record w { replies = rs; done = dn }

    back : World
    back = moved c (rests f (core w c) x (ms ++ q)) rs dn w

    at : core back c ≡ rests f (core w c) x (ms ++ q)
    at = core_same c (rests f (core w c) x (ms ++ q)) rs dn w inside

    same : resting c f (core w c) x (ms ++ q) w0 ≡ back
    same = ap (λ rs. moved c (rests f (core w c) x (ms ++ q)) rs dn w) (ap (λ xs. rs ++ xs) silent ∙ append-nil rs)
