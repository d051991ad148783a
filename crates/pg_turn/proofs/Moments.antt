-- What the rule of a turn says at any moment, in the words of its seats and its word.
use Rattle.std.proofs.Common.{◌≡◌, ℕ, ◌+◌, ◌*◌, ◌%◌, ◌/◌, ◌<◌, Bool, true, false, List, [], ◌∷◌, length, Option, Some, refl, sym, ap, ◌∙◌, subst, arith}
use Rattle.std.specs.Prelude.{slice_index}
use mathlib.Core.Option.{some}
use lib.ListN.{get_elem?}
use Rattle.atomic_table.specs.Table.{State}
use Rattle.pg_turn.specs.declared.view.View.{View}
use Rattle.pg_turn.specs.Views.{Tells}
use Rattle.pg_turn.specs.Rule.{bit, Fits, InOrder}
use Rattle.pg_turn.proofs.Steps.{off}

module _ {T R E : Type 0} (entries : T → List E) (root : T → R) (maker : E → ℕ) (first : T) (seats : ℕ) (s : State (Option T) (View T E)) (r : InOrder entries root maker first seats s) where
  pub one_holder : (j k : ℕ) (u v : View T E) → get_elem? s.views j ≡ some u → get_elem? s.views k ≡ some v → u.live ≡ true → v.live ≡ true → u.holds ≡ true → v.holds ≡ true → j ≡ k
  one_holder j k u v eu ev lu lv hu hv = ((r.each j u eu lu).holding hu).1 ∙ sym ((r.each k v ev lv).holding hv).1

  pub odd_while_held : (k : ℕ) (v : View T E) → get_elem? s.views k ≡ some v → v.live ≡ true → v.holds ≡ true → s.words ≡ (2 * length v.own.seen + 1) ∷ []
  odd_while_held k v e lives holds =
      let h = (r.each k v e lives).holding holds in
      r.word ∙ (ap (λ b. (2 * length r.log + bit b) ∷ []) h.0 ∙ ap (λ l. (2 * length l + 1) ∷ []) (sym h.2))

  pub home_while_even : slice_index s.words 0 % 2 ≡ 0
      → (value : T) × (get_elem? s.homes 0 ≡ some (some (Some value))) × (slice_index s.words 0 ≡ 2 * length (entries value)) × (root value ≡ root first)
      × ((k : ℕ) (v : View T E) → get_elem? s.views k ≡ some v → v.live ≡ true → Tells maker (entries value) v.own)
  home_while_even even =
      let h = r.home (free r.taken refl) in
      (h.0, h.1, word h.0 h.2, h.3, λ k v e lives. subst (λ l. Tells maker l v.own) (sym h.2) (r.each k v e lives).told)
    where
      is : slice_index s.words 0 ≡ 2 * length r.log + bit r.taken
      is = ap (λ ws. slice_index ws 0) r.word

      free : (b : Bool) → r.taken ≡ b → r.taken ≡ false
      free false e = e
      free true e = let at : slice_index s.words 0 ≡ 2 * length r.log + 1 = is ∙ ap (λ b. 2 * length r.log + bit b) e in absurd (omega arith)

      word : (value : T) → entries value ≡ r.log → slice_index s.words 0 ≡ 2 * length (entries value)
      word value e =
          let at : slice_index s.words 0 ≡ 2 * length r.log + 0 = is ∙ ap (λ b. 2 * length r.log + bit b) (free r.taken refl) in
          let same : length (entries value) ≡ length r.log = ap length e in
          omega arith
