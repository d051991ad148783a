-- The mail of a write is the message of its entry, for each core.
use Rattle.std.proofs.Common.{◌≡◌, ℕ, Bool, true, false, List, [], ◌∷◌, ◌++◌, map, Option, Some, None, refl, sym, ap, subst, ◌∙◌, inl, inr}
use Rattle.std.specs.Prelude.{◌==◌, unwrap_or, if◌then◌else◌}
use Rattle.std.specs.Option.{option_map}
use Rattle.std.proofs.lemmas.Bool.{eqb-true}
use Rattle.pg_perm.specs.declared.kinds.Event.TheVariants.{Store}
use Rattle.pg_perm.specs.declared.kinds.Who.{Who}
use Rattle.pg_perm.specs.declared.kinds.Who.TheVariants.{Other, Sharer, Owner}
use Rattle.pg_perm.specs.declared.kinds.FwdClass.TheVariants.{Inv}
use Rattle.pg_perm.specs.declared.draft.Draft.{Draft}
use Rattle.pg_perm.specs.declared.draft.Action.{Action}
use Rattle.pg_perm.specs.declared.draft.Action.TheVariants as action
use Rattle.pg_terms.specs.Terms.{is, has_class}
use Rattle.pg_shape.specs.Shaped.{IsShaped}
use Rattle.pg_directory.specs.DirEntries.{DirEntry, Request, without_core, who}
use Rattle.pg_directory.specs.Sends.{forward_sent}
use Rattle.pg_directory.specs.Sound.{IsSound}
use Rattle.pg_directory.specs.Requests.{IsHandled, action_of}
use Rattle.pg_directory.proofs.Cores.{same_core, rising_without, among_without_same, among_without_other, other_way}
use Rattle.pg_directory.proofs.Facts.{first_has_class}
use Rattle.pg_directory.proofs.Holders.{owner_of_who, sharer_of_who, other_of_who}
use Rattle.pg_messages.specs.declared.messages.Ordered.{Ordered}
use Rattle.pg_messages.specs.declared.messages.Ordered.TheVariants.{Forward, AckCount}
use Rattle.pg_order.specs.Messages.{put}
use Rattle.pg_order.specs.Orders.{own_message, acks_needed, acks_carried, message_to}
use Rattle.pg_order.proofs.OneEntry.{passed_is}
use Rattle.pg_order.proofs.Passed.{action_passes}
use Rattle.pg_order.proofs.Invs.{who_sharer}
use Rattle.pg_order.proofs.Race.{sent_is}
use Rattle.pg_order.proofs.Steps.{inv_sent}
use Rattle.pg_controllers.specs.Directories.{to_owner}
use Rattle.pg_orderly.proofs.Mail.{mail, mail_none, mail_each, inv_of, answers_post}

abbrev pub write_mail : Draft → DirEntry → ℕ → ℕ → ℕ → Action → ℕ → List Ordered
write_mail d s c n k a e = mail e (map (λ x. (x, inv_of d c k)) (without_core c s.sharers)) ++ mail e (answers_post s c n k a)

no_answer : (s : DirEntry) (c n k e : ℕ) (a : Action) → (c == e) ≡ false → is s.owner e ≡ false → mail e (answers_post s c n k a) ≡ []
no_answer s c n k e (action.Reply m) ne out = refl
no_answer s c n k e (action.Forward f) ne out = at s.owner out
  where
    at : (o : Option ℕ) → is o e ≡ false → mail e (to_owner o (Forward f c n k)) ≡ []
    at None out = refl
    at (Some z) out = rw out refl
no_answer s c n k e action.Count ne out = rw ne refl

pub write_mail_is : (d : Draft) (n : ℕ) (s : DirEntry) (q : Request) (k e : ℕ) (a : Action) → IsShaped d → IsSound d n s → IsHandled d n s q → q.event ≡ Store → action_of d s q ≡ Some a
    → write_mail d s q.core (acks_needed s q) k a e ≡ put (message_to d s q k e) []
write_mail_is d n s q k e a sh so h store acts = at (q.core == e) refl
  where
    c : ℕ
    c = q.core

    own : (a : Action) → action_of d s q ≡ Some a → write_mail d s c (acks_needed s q) k a c ≡ put (own_message q.event (action_of d s q) (acks_needed s q) k) []
    own (action.Reply m) is =
        let none : mail c (map (λ x. (x, inv_of d c k)) (without_core c s.sharers)) ≡ [] = mail_none (inv_of d c k) c (without_core c s.sharers) (among_without_same c s.sharers) in
        let right : put (own_message q.event (action_of d s q) (acks_needed s q) k) [] ≡ [] = ap (λ z. put (own_message z (action_of d s q) (acks_needed s q) k) []) store ∙ ap (λ z. put (own_message Store z (acks_needed s q) k) []) is in
        ap (λ xs. xs ++ []) none ∙ sym right
    own (action.Forward f) is =
        let (o, owner, ne) = h.passed f is in
        let out : mail c (to_owner s.owner (Forward f c (acks_needed s q) k)) ≡ [] = rw (owner, other_way c o ne) refl in
        let none : mail c (map (λ x. (x, inv_of d c k)) (without_core c s.sharers)) ≡ [] = mail_none (inv_of d c k) c (without_core c s.sharers) (among_without_same c s.sharers) in
        let right : put (own_message q.event (action_of d s q) (acks_needed s q) k) [] ≡ [] = ap (λ z. put (own_message z (action_of d s q) (acks_needed s q) k) []) store ∙ ap (λ z. put (own_message Store z (acks_needed s q) k) []) is in
        ap (λ xs. xs ++ mail c (to_owner s.owner (Forward f c (acks_needed s q) k))) none ∙ out ∙ sym right
    own action.Count is =
        let none : mail c (map (λ x. (x, inv_of d c k)) (without_core c s.sharers)) ≡ [] = mail_none (inv_of d c k) c (without_core c s.sharers) (among_without_same c s.sharers) in
        let mine : mail c ((c, AckCount (acks_needed s q) k) ∷ []) ≡ AckCount (acks_needed s q) k ∷ [] = rw (same_core c) refl in
        let right : put (own_message q.event (action_of d s q) (acks_needed s q) k) [] ≡ AckCount (acks_needed s q) k ∷ [] = ap (λ z. put (own_message z (action_of d s q) (acks_needed s q) k) []) store ∙ ap (λ z. put (own_message Store z (acks_needed s q) k) []) is in
        ap (λ xs. xs ++ mail c ((c, AckCount (acks_needed s q) k) ∷ [])) none ∙ mine ∙ sym right

    -- another core
    other : (c == e) ≡ false → (w : Who) → who s e ≡ w → (o : Option ℕ) → forward_sent d s q e ≡ o
        → write_mail d s c (acks_needed s q) k a e ≡ put (option_map (λ f. Forward f c (acks_carried d (acks_needed s q) f) k) o) []
    other ne Other is None to =
        let (out, none) = other_of_who s e is in
        ap (λ xs. xs ++ mail e (answers_post s c (acks_needed s q) k a)) (mail_none (inv_of d c k) e (without_core c s.sharers) (among_without_other c e s.sharers ne ∙ none)) ∙ no_answer s c (acks_needed s q) k e a ne out
    other ne Other is (Some f) to = elim (sent_is d n s q e f h ne to) [
      | inl owns ↦ absurd (let x : Other ≡ Owner = sym is ∙ owns in cc)
      | inr (shares, inv) ↦ absurd (let x : Other ≡ Sharer = sym is ∙ shares in cc)
    ]
    other ne Sharer is o to =
        let (out, among) = sharer_of_who s e is in
        let (f, sends, inv) = inv_sent d n s q e sh so h store ne among in
        let class = first_has_class d Inv f inv in
        let one : mail e (map (λ x. (x, inv_of d c k)) (without_core c s.sharers)) ≡ inv_of d c k ∷ [] = mail_each (inv_of d c k) e (without_core c s.sharers) (rising_without c s.sharers so.rising) (among_without_other c e s.sharers ne ∙ among) in
        let left : write_mail d s c (acks_needed s q) k a e ≡ inv_of d c k ∷ [] =
        ap (λ xs. xs ++ mail e (answers_post s c (acks_needed s q) k a)) one ∙ ap (λ xs. inv_of d c k ∷ xs) (no_answer s c (acks_needed s q) k e a ne out) in
        let right : put (option_map (λ f. Forward f c (acks_carried d (acks_needed s q) f) k) o) [] ≡ Forward f c 0 k ∷ [] =
        ap (λ o. put (option_map (λ f. Forward f c (acks_carried d (acks_needed s q) f) k) o) []) (sym to ∙ sends) ∙ ap (λ (b : Bool). Forward f c (if b then 0 else acks_needed s q) k ∷ []) class in
        left ∙ ap (λ (z : Option ℕ). Forward (unwrap_or z 0) c 0 k ∷ []) inv ∙ sym right
    other ne Owner is o to =
        let owner = owner_of_who s e is in
        let none : mail e (map (λ x. (x, inv_of d c k)) (without_core c s.sharers)) ≡ [] = mail_none (inv_of d c k) e (without_core c s.sharers) (among_without_other c e s.sharers ne ∙ (so.owner e owner).1) in
        ap (λ xs. xs ++ mail e (answers_post s c (acks_needed s q) k a)) none ∙ owned owner a acts
      where
        owned : s.owner ≡ Some e → (a : Action) → action_of d s q ≡ Some a → mail e (answers_post s c (acks_needed s q) k a) ≡ put (option_map (λ f. Forward f c (acks_carried d (acks_needed s q) f) k) o) []
        owned owner (action.Reply m) act = absurd (let none = h.memory m act in cc (none, owner))
        owned owner action.Count act = absurd (let mine = owner_of_who s c (h.counted act) in let both : Some c ≡ Some e = sym mine ∙ owner in let same : c ≡ e = cc in let x : (c == e) ≡ true = subst (λ e. (c == e) ≡ true) same (same_core c) in cc (x, ne))
        owned owner (action.Forward f) act =
            let (z, holds, passes) = action_passes d n s q f so h act in
            let sends : forward_sent d s q e ≡ Some f = sym (passed_is d s q e owner) ∙ passes in
            let left : mail e (to_owner s.owner (Forward f c (acks_needed s q) k)) ≡ Forward f c (acks_needed s q) k ∷ [] = ap (λ o. mail e (to_owner o (Forward f c (acks_needed s q) k))) owner ∙ (rw (same_core e) refl) in
            let right : put (option_map (λ f. Forward f c (acks_carried d (acks_needed s q) f) k) o) [] ≡ Forward f c (acks_needed s q) k ∷ [] =
            ap (λ o. put (option_map (λ f. Forward f c (acks_carried d (acks_needed s q) f) k) o) []) (sym to ∙ sends) ∙ ap (λ (b : Bool). Forward f c (if b then 0 else acks_needed s q) k ∷ []) (no_inv sends (has_class Inv d f) refl) in
            left ∙ sym right
          where
            no_inv : forward_sent d s q e ≡ Some f → (b : Bool) → has_class Inv d f ≡ b → has_class Inv d f ≡ false
            no_inv sends true inv = absurd (let shares = who_sharer d n s q e f h ne sends inv in let x : Sharer ≡ Owner = sym shares ∙ is in cc)
            no_inv sends false inv = inv

    at : (b : Bool) → (q.core == e) ≡ b → write_mail d s q.core (acks_needed s q) k a e ≡ put (if b then own_message q.event (action_of d s q) (acks_needed s q) k else option_map (λ f. Forward f q.core (acks_carried d (acks_needed s q) f) k) (forward_sent d s q e)) []
    at true is = subst (λ e. write_mail d s q.core (acks_needed s q) k a e ≡ put (own_message q.event (action_of d s q) (acks_needed s q) k) []) (eqb-true q.core e is) (own a acts)
    at false ne = other ne (who s e) refl (forward_sent d s q e) refl
