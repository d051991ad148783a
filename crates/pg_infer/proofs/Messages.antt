-- The messages of a class among the first few, and one more.
use Rattle.std.proofs.Common.{◌≡◌, ℕ, zero, suc, ◌+◌, ◌<◌, Bool, true, false, List, [], ◌∷◌, ◌++◌, length, take, refl, sym, ap, ◌∙◌, arith}
use Rattle.std.specs.Prelude.{map, slice_get, slice_index_or, if◌then◌else◌, Some}
use Rattle.std.proofs.lemmas.Option.{slice_get-get_or}
use Rattle.std.specs.List.{flat_map}
use Rattle.std.proofs.lemmas.List.{map-append}
use Rattle.std.proofs.lemmas.Grind.{flat_map-append}
use Rattle.std.proofs.lemmas.Option.{same_Some}
use Rattle.pg_perm.specs.declared.draft.MsgClass.{MsgClass}
use Rattle.pg_perm.specs.declared.draft.MsgLine.{MsgLine}
use Rattle.pg_table.specs.GeneratedStates.{messages_from}
use Rattle.pg_infer.proofs.Ranges.{if_mapped, if_flat}

one_more : (is_class : MsgClass → Bool) (n k : ℕ) (ms : List MsgLine) (m : MsgLine) → slice_get ms k ≡ Some m
    → messages_from is_class n (take (suc k) ms) ≡ messages_from is_class n (take k ms) ++ (if is_class m.class then (n + k) ∷ [] else [])
one_more is_class n k [] m e = absurd cc
one_more is_class n zero (x ∷ ms) m e = at (is_class m.class) refl
  where
    same : x ≡ m
    same = same_Some x m e

    at : (b : Bool) → is_class m.class ≡ b → messages_from is_class n (x ∷ []) ≡ (if b then (n + 0) ∷ [] else [])
    at true g = let here : n ≡ n + 0 = omega arith in rw (ap (λ (y : MsgLine). is_class y.class) same ∙ g) (ap (λ (i : ℕ). i ∷ []) here)
    at false g = rw (ap (λ (y : MsgLine). is_class y.class) same ∙ g) refl
one_more is_class n (suc k) (x ∷ ms) m e = at (is_class x.class) refl (one_more is_class (n + 1) k ms m e)
  where
    next : n + 1 + k ≡ n + suc k
    next = omega arith

    tail : ℕ → List ℕ
    tail i = if is_class m.class then i ∷ [] else []

    at : (b : Bool) → is_class x.class ≡ b
        → messages_from is_class (n + 1) (take (suc k) ms) ≡ messages_from is_class (n + 1) (take k ms) ++ tail (n + 1 + k)
        → messages_from is_class n (x ∷ take (suc k) ms) ≡ messages_from is_class n (x ∷ take k ms) ++ tail (n + suc k)
    at true g behind = rw g (ap (λ (t : List ℕ). n ∷ t) (behind ∙ ap (λ (i : ℕ). messages_from is_class (n + 1) (take k ms) ++ tail i) next))
    at false g behind = rw g (behind ∙ ap (λ (i : ℕ). messages_from is_class (n + 1) (take k ms) ++ tail i) next)

more : (is_class : MsgClass → Bool) (k : ℕ) (ms : List MsgLine) (m : MsgLine) → slice_get ms k ≡ Some m
    → messages_from is_class 0 (take k ms) ++ (if is_class m.class then k ∷ [] else []) ≡ messages_from is_class 0 (take (k + 1) ms)
more is_class k ms m e =
    let here : 0 + k ≡ k = omega arith in
    let next : suc k ≡ k + 1 = omega arith in
    ap (λ (i : ℕ). messages_from is_class 0 (take k ms) ++ (if is_class m.class then i ∷ [] else [])) (sym here) ∙ sym (one_more is_class 0 k ms m e)
    ∙ ap (λ (i : ℕ). messages_from is_class 0 (take i ms)) next

pub map_more : {A : Type 0} (f : ℕ → A) (is_class : MsgClass → Bool) (k : ℕ) (ms : List MsgLine) (m : MsgLine) → slice_get ms k ≡ Some m
    → map f (messages_from is_class 0 (take k ms)) ++ (if is_class m.class then f k ∷ [] else []) ≡ map f (messages_from is_class 0 (take (k + 1) ms))
map_more f is_class k ms m e =
    ap (λ (t : List _). map f (messages_from is_class 0 (take k ms)) ++ t) (sym (if_mapped f k (is_class m.class)))
    ∙ sym (map-append f (messages_from is_class 0 (take k ms)) (if is_class m.class then k ∷ [] else [])) ∙ ap (map f) (more is_class k ms m e)

pub flat_more : {A : Type 0} (f : ℕ → List A) (is_class : MsgClass → Bool) (k : ℕ) (ms : List MsgLine) (m : MsgLine) → slice_get ms k ≡ Some m
    → flat_map f (messages_from is_class 0 (take k ms)) ++ (if is_class m.class then f k else []) ≡ flat_map f (messages_from is_class 0 (take (k + 1) ms))
flat_more f is_class k ms m e =
    ap (λ (t : List _). flat_map f (messages_from is_class 0 (take k ms)) ++ t) (sym (if_flat f k (is_class m.class)))
    ∙ sym (flat_map-append f (messages_from is_class 0 (take k ms)) (if is_class m.class then k ∷ [] else [])) ∙ ap (flat_map f) (more is_class k ms m e)

-- the message that stands at a place
pub message_at : (ms : List MsgLine) (k n : ℕ) (m : MsgLine) → k ≡ n → n < length ms → slice_get ms n ≡ Some (slice_index_or ms k m)
message_at ms k n m same below = slice_get-get_or ms n m below ∙ ap (λ (i : ℕ). Some (slice_index_or ms i m)) (sym same)
