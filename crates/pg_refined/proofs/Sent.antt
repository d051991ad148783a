-- A reply of a take row is one that some cache sends.
use Rattle.std.proofs.Common.{◌≡◌, ℕ, Bool, true, false, ◌||◌, List, [], ◌∷◌, Some, refl, ap, ◌∙◌}
use Rattle.std.specs.Prelude.{◌==◌, ◌&&◌, if◌then◌else◌}
use Rattle.std.specs.List.{list_any}
use Rattle.pg_perm.specs.declared.draft.Draft.{Draft}
use Rattle.pg_perm.specs.declared.draft.TakeLine.{TakeLine}
use Rattle.pg_terms.specs.Terms.{is, take_row}
use Rattle.pg_shape.specs.CoreRules.{is_sent}
use Rattle.pg_directory.proofs.Holders.{is_same}

found_sent : (p : TakeLine → Bool) (xs : List TakeLine) (t : TakeLine) (a : ℕ) → Rattle.std.specs.List.find p xs ≡ Some t → t.reply ≡ Some a → list_any (λ t. is t.reply a) xs ≡ true
found_sent p [] t a e gives = cc
found_sent p (x ∷ xs) t a e gives = at (p x) e (λ e. found_sent p xs t a e gives)
  where
    first : x ≡ t → list_any (λ t. is t.reply a) (x ∷ xs) ≡ true
    first same = let here : is x.reply a ≡ true = is_same x.reply a (ap (λ (t : TakeLine). t.reply) same ∙ gives) in rw here refl

    later : (b : Bool) → (b || true) ≡ true
    later true = refl
    later false = refl

    at : (b : Bool) → (if b then Some x else Rattle.std.specs.List.find p xs) ≡ Some t → (Rattle.std.specs.List.find p xs ≡ Some t → list_any (λ t. is t.reply a) xs ≡ true) → list_any (λ t. is t.reply a) (x ∷ xs) ≡ true
    at true e more = first (cc)
    at false e more = ap (λ b. is x.reply a || b) (more e) ∙ later (is x.reply a)

pub is_sent_by : (d : Draft) (x f a : ℕ) (t : TakeLine) → take_row d x f ≡ Some t → t.reply ≡ Some a → is_sent d a ≡ true
is_sent_by d x f a t row gives = found_sent (λ t. (t.state == x) && (t.forward == f)) d.takes t a row gives
