-- Inputs of a cache controller with the same word are the same, but for an operation and a forward.
use Rattle.std.proofs.Common.{◌≡◌, ℕ, suc, ◌+◌, ◌<◌, ◌⊎◌, inl, inr, Bool, true, false, cond, List, [], ◌∷◌, ◌++◌, length, map, refl, sym, subst, ap, ◌∙◌, arith, append-nil}
use Rattle.std.specs.Prelude.{⊤, codes, bytes_eq}
use Rattle.std.specs.List.{position_or_len}
use Rattle.pg_perm.specs.declared.kinds.Event.{Event}
use Rattle.pg_perm.specs.declared.kinds.Event.TheVariants.{Load, Store, Evict}
use Rattle.pg_perm.specs.declared.draft.Draft.{Draft}
use Rattle.pg_perm.specs.declared.draft.MsgLine.{MsgLine}
use Rattle.pg_perm.specs.declared.draft.MsgClass.{MsgClass}
use Rattle.pg_perm.specs.Classes.{is_forward, is_reply}
use Rattle.pg_perm.specs.Drafts.{IsWellFormed}
use Rattle.pg_perm.specs.Words.{event_word, message_name}
use Rattle.pg_table.specs.declared.cache.Input.{Input}
use Rattle.pg_table.specs.declared.cache.Input.TheVariants as at
use Rattle.pg_table.specs.GeneratedStates.{messages_from, inputs}
use Rattle.pg_table.specs.Tables.{same_input, has_input}
use Rattle.pg_table.proofs.Same.{same_input_is}
use Rattle.pg_table.proofs.Lists.{IsIn, any_in, in_either, of_map, of_flat}
use Rattle.pg_table.proofs.InputsApart.{first_inputs, data_inputs_of, data_inputs, ack_inputs}
use Rattle.pg_print.specs.Words.{input_word, is_operation_and_forward}
use Rattle.pg_print.proofs.Lacking.{lacks, lacks_apart, same_around, other_text}
use Rattle.pg_print.proofs.Written.{message_lacks, same_message, message_not_taken}

-- Which messages are among the inputs

-- the number of a message is below that of those after the last
of_messages : (p : MsgClass → Bool) (n f : ℕ) (ms : List MsgLine) → IsIn f (messages_from p n ms) → f < n + length ms
of_messages p n f [] among = absurd among
of_messages p n f (m ∷ ms) among = at (p m.class) (of_messages p (n + 1) f ms) among
  where
    at : (b : Bool) → (IsIn f (messages_from p (n + 1) ms) → f < n + 1 + length ms) → IsIn f (cond b (n ∷ messages_from p (n + 1) ms) (messages_from p (n + 1) ms))
        → f < n + suc (length ms)
    at true behind (inl e) = omega (arith, e)
    at true behind (inr among) = omega (arith, behind among)
    at false behind among = omega (arith, behind among)

-- the message of an input is there
abbrev HasMessage : Draft → Input → Type 0
HasMessage d (at.Forward f) = f < length d.messages
HasMessage d (at.DataAll r) = r < length d.messages
HasMessage d (at.DataPart r) = r < length d.messages
HasMessage d _ = ⊤

-- Words in two parts

-- a text that is empty or begins with a dot
abbrev pub IsTail : List ℕ → Type 0
IsTail [] = ⊤
IsTail (b ∷ bs) = b ≡ 46

-- two texts without a dot, with such a text after each, are the same in both parts
pub same_parts : (a b x y : List ℕ) → lacks 46 a ≡ true → lacks 46 b ≡ true → IsTail x → IsTail y → a ++ x ≡ b ++ y → (a ≡ b) × (x ≡ y)
same_parts a b [] [] h g p q e = (sym (append-nil a) ∙ e ∙ append-nil b, refl)
same_parts a b [] (y ∷ ys) h g p q e = absurd (lacks_apart 46 a b ys h (sym (append-nil a) ∙ e ∙ ap (λ (c : ℕ). b ++ c ∷ ys) q))
same_parts a b (x ∷ xs) [] h g p q e = absurd (lacks_apart 46 b a xs g (sym (append-nil b) ∙ sym e ∙ ap (λ (c : ℕ). a ++ c ∷ xs) p))
same_parts a b (x ∷ xs) (y ∷ ys) h g p q e =
    let dots : a ++ 46 ∷ xs ≡ b ++ 46 ∷ ys = sym (ap (λ (c : ℕ). a ++ c ∷ xs) p) ∙ e ∙ ap (λ (c : ℕ). b ++ c ∷ ys) q in
    let same = same_around 46 a b xs ys h g dots in
    (same.0, cc (p, q, same.1))

head : Draft → Input → List ℕ
head d (at.Core event) = event_word event
head d (at.Forward f) = message_name d f
head d at.CountAll = codes "AckCount"
head d at.CountPart = codes "AckCount"
head d at.PutAck = codes "PutAck"
head d (at.DataAll r) = message_name d r
head d (at.DataPart r) = message_name d r
head d at.AckMore = codes "InvAck"
head d at.AckLast = codes "InvAck"

tail : Input → List ℕ
tail (at.Core event) = []
tail (at.Forward f) = []
tail at.CountAll = codes ".all"
tail at.CountPart = codes ".part"
tail at.PutAck = []
tail (at.DataAll r) = codes ".all"
tail (at.DataPart r) = codes ".part"
tail at.AckMore = codes ".more"
tail at.AckLast = codes ".last"

in_parts : (d : Draft) (i : Input) → input_word d i ≡ head d i ++ tail i
unfolding head tail
in_parts d (at.Core event) = sym (append-nil (event_word event))
in_parts d (at.Forward f) = sym (append-nil (message_name d f))
in_parts d at.CountAll = refl
in_parts d at.CountPart = refl
in_parts d at.PutAck = refl
in_parts d (at.DataAll r) = refl
in_parts d (at.DataPart r) = refl
in_parts d at.AckMore = refl
in_parts d at.AckLast = refl

event_lacks : (event : Event) → lacks 46 (event_word event) ≡ true
event_lacks Load = refl
event_lacks Store = refl
event_lacks Evict = refl

head_lacks : (d : Draft) → IsWellFormed d → (i : Input) → lacks 46 (head d i) ≡ true
unfolding head
head_lacks d w (at.Core event) = event_lacks event
head_lacks d w (at.Forward f) = message_lacks d w f
head_lacks d w at.CountAll = refl
head_lacks d w at.CountPart = refl
head_lacks d w at.PutAck = refl
head_lacks d w (at.DataAll r) = message_lacks d w r
head_lacks d w (at.DataPart r) = message_lacks d w r
head_lacks d w at.AckMore = refl
head_lacks d w at.AckLast = refl

is_tail : (i : Input) → IsTail (tail i)
unfolding tail
is_tail (at.Core event) = tt
is_tail (at.Forward f) = tt
is_tail at.CountAll = refl
is_tail at.CountPart = refl
is_tail at.PutAck = tt
is_tail (at.DataAll r) = refl
is_tail (at.DataPart r) = refl
is_tail at.AckMore = refl
is_tail at.AckLast = refl

-- which tail an input has
tail_number : Input → ℕ
tail_number (at.Core event) = 0
tail_number (at.Forward f) = 0
tail_number at.CountAll = 1
tail_number at.CountPart = 2
tail_number at.PutAck = 0
tail_number (at.DataAll r) = 1
tail_number (at.DataPart r) = 2
tail_number at.AckMore = 3
tail_number at.AckLast = 4

told : List ℕ → ℕ
told text = position_or_len (bytes_eq text) ([] ∷ codes ".all" ∷ codes ".part" ∷ codes ".more" ∷ codes ".last" ∷ [])

tail_told : (i : Input) → told (tail i) ≡ tail_number i
unfolding told tail tail_number
tail_told (at.Core event) = refl
tail_told (at.Forward f) = refl
tail_told at.CountAll = refl
tail_told at.CountPart = refl
tail_told at.PutAck = refl
tail_told (at.DataAll r) = refl
tail_told (at.DataPart r) = refl
tail_told at.AckMore = refl
tail_told at.AckLast = refl

same_event_word : (e f : Event) → event_word e ≡ event_word f → e ≡ f
same_event_word Load Load h = refl
same_event_word Store Store h = refl
same_event_word Evict Evict h = refl
same_event_word Load Store h = absurd (other_text (codes "load") (codes "store") refl h)
same_event_word Load Evict h = absurd (other_text (codes "load") (codes "evict") refl h)
same_event_word Store Load h = absurd (other_text (codes "store") (codes "load") refl h)
same_event_word Store Evict h = absurd (other_text (codes "store") (codes "evict") refl h)
same_event_word Evict Load h = absurd (other_text (codes "evict") (codes "load") refl h)
same_event_word Evict Store h = absurd (other_text (codes "evict") (codes "store") refl h)

event_not_put : (e : Event) → event_word e ≡ codes "PutAck" → ⊥
event_not_put Load h = other_text (codes "load") (codes "PutAck") refl h
event_not_put Store h = other_text (codes "store") (codes "PutAck") refl h
event_not_put Evict h = other_text (codes "evict") (codes "PutAck") refl h

-- inputs with the same parts
same_by_parts : (d : Draft) → IsWellFormed d → (i j : Input) → HasMessage d i → HasMessage d j → head d i ≡ head d j → tail_number i ≡ tail_number j
    → (i ≡ j) ⊎ (is_operation_and_forward i j ≡ true)
unfolding head tail_number
same_by_parts d w (at.Core e) (at.Core f) a b h t = inl (ap (λ (e : Event). at.Core e) (same_event_word e f h))
same_by_parts d w (at.Core e) (at.Forward f) a b h t = inr refl
same_by_parts d w (at.Core e) at.PutAck a b h t = absurd (event_not_put e h)
same_by_parts d w (at.Forward f) (at.Core e) a b h t = inr refl
same_by_parts d w (at.Forward f) (at.Forward g) a b h t = inl (ap (λ (n : ℕ). at.Forward n) (same_message d w f g a b h))
same_by_parts d w (at.Forward f) at.PutAck a b h t = absurd (message_not_taken d w f 1 (codes "PutAck") a refl h)
same_by_parts d w at.PutAck (at.Core e) a b h t = absurd (event_not_put e (sym h))
same_by_parts d w at.PutAck (at.Forward f) a b h t = absurd (message_not_taken d w f 1 (codes "PutAck") b refl (sym h))
same_by_parts d w at.PutAck at.PutAck a b h t = inl refl
same_by_parts d w at.CountAll at.CountAll a b h t = inl refl
same_by_parts d w at.CountAll (at.DataAll r) a b h t = absurd (message_not_taken d w r 2 (codes "AckCount") b refl (sym h))
same_by_parts d w (at.DataAll r) at.CountAll a b h t = absurd (message_not_taken d w r 2 (codes "AckCount") a refl h)
same_by_parts d w (at.DataAll r) (at.DataAll q) a b h t = inl (ap (λ (n : ℕ). at.DataAll n) (same_message d w r q a b h))
same_by_parts d w at.CountPart at.CountPart a b h t = inl refl
same_by_parts d w at.CountPart (at.DataPart r) a b h t = absurd (message_not_taken d w r 2 (codes "AckCount") b refl (sym h))
same_by_parts d w (at.DataPart r) at.CountPart a b h t = absurd (message_not_taken d w r 2 (codes "AckCount") a refl h)
same_by_parts d w (at.DataPart r) (at.DataPart q) a b h t = inl (ap (λ (n : ℕ). at.DataPart n) (same_message d w r q a b h))
same_by_parts d w at.AckMore at.AckMore a b h t = inl refl
same_by_parts d w at.AckLast at.AckLast a b h t = inl refl
same_by_parts d w _ _ a b h t = absurd cc

-- Inputs of a protocol

in_has_message : (d : Draft) (i : Input) → IsIn i (inputs d) → HasMessage d i
in_has_message d i among = thirds (in_either i (first_inputs d ++ data_inputs d) ack_inputs among)
  where
    forward : (i : Input) → IsIn i (map (λ f. at.Forward f) (messages_from is_forward 0 d.messages)) → HasMessage d i
    forward i h =
        let (f, there, e) = of_map (λ f. at.Forward f) i (messages_from is_forward 0 d.messages) h in
        subst (HasMessage d) e (omega (arith, of_messages is_forward 0 f d.messages there))

    firsts : (i : Input) → IsIn i (first_inputs d) → HasMessage d i
    firsts i (inl e) = subst (HasMessage d) e tt
    firsts i (inr (inl e)) = subst (HasMessage d) e tt
    firsts i (inr (inr (inl e))) = subst (HasMessage d) e tt
    firsts i (inr (inr (inr h))) = forward i h

    data_of : (i : Input) (r : ℕ) → r < length d.messages → IsIn i (data_inputs_of r) → HasMessage d i
    data_of i r below (inl e) = subst (HasMessage d) e below
    data_of i r below (inr (inl e)) = subst (HasMessage d) e below
    data_of i r below (inr (inr none)) = absurd none

    answers : (i : Input) → IsIn i (data_inputs d) → HasMessage d i
    answers i (inl e) = subst (HasMessage d) e tt
    answers i (inr (inl e)) = subst (HasMessage d) e tt
    answers i (inr (inr (inl e))) = subst (HasMessage d) e tt
    answers i (inr (inr (inr h))) =
        let (r, there, of) = of_flat data_inputs_of i (messages_from is_reply 0 d.messages) h in
        data_of i r (omega (arith, of_messages is_reply 0 r d.messages there)) of

    acks : (i : Input) → IsIn i ack_inputs → HasMessage d i
    acks i (inl e) = subst (HasMessage d) e tt
    acks i (inr (inl e)) = subst (HasMessage d) e tt
    acks i (inr (inr none)) = absurd none

    halves : IsIn i (first_inputs d) ⊎ IsIn i (data_inputs d) → HasMessage d i
    halves (inl h) = firsts i h
    halves (inr h) = answers i h

    thirds : IsIn i (first_inputs d ++ data_inputs d) ⊎ IsIn i ack_inputs → HasMessage d i
    thirds (inl h) = halves (in_either i (first_inputs d) (data_inputs d) h)
    thirds (inr h) = acks i h

listed_has_message : (d : Draft) (i : Input) → has_input (inputs d) i ≡ true → HasMessage d i
listed_has_message d i h =
    let (j, there, same) = any_in (λ j. same_input j i) (inputs d) h in
    subst (HasMessage d) (same_input_is j i same) (in_has_message d j there)

pub inputs_apart : (d : Draft) (i j : Input) → IsWellFormed d → has_input (inputs d) i ≡ true → has_input (inputs d) j ≡ true → input_word d i ≡ input_word d j
    → (i ≡ j) ⊎ (is_operation_and_forward i j ≡ true)
inputs_apart d i j w a b e =
    let parts = same_parts (head d i) (head d j) (tail i) (tail j) (head_lacks d w i) (head_lacks d w j) (is_tail i) (is_tail j)
    (sym (in_parts d i) ∙ e ∙ in_parts d j) in
    same_by_parts d w i j (listed_has_message d i a) (listed_has_message d j b) parts.0 (sym (tail_told i) ∙ ap told parts.1 ∙ tail_told j)

-- no forward is called like an evict
pub evict_apart : (d : Draft) (f : ℕ) → IsWellFormed d → has_input (inputs d) (at.Forward f) ≡ true → input_word d (at.Forward f) ≡ input_word d (at.Core Evict) → ⊥
evict_apart d f w a e = message_not_taken d w f 6 (codes "evict") (listed_has_message d (at.Forward f) a) refl e
