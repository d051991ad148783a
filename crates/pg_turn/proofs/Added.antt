-- What holds of the entries that each pass added holds of all that were added.
use Rattle.std.proofs.Common.{◌≡◌, ◌==◌, ℕ, zero, suc, ◌<◌, Bool, true, false, cond, List, [], ◌∷◌, ◌++◌, length, drop, take, refl, sym, ap, ◌∙◌, subst, eq-eqb, arith}
use Rattle.std.proofs.lemmas.List.Elements.{filter-append}
use Rattle.std.proofs.lemmas.List.Prefix.{front_rest}
use Rattle.std.proofs.lemmas.List.{take_at, take-append-drop}
use Rattle.std.specs.List.{All, AllPass}
use mathlib.Core.Logic.{dite}
use native.Mathlib.Decide.{ℕ_discrete}
use Rattle.pg_turn.specs.Entries.{StartsWith, Each, by, Names, NamedBelow}
use Rattle.pg_turn.proofs.Logs.{all_below}

module _ {E : Type 0} where
  pub each_all : (P : E → Type 0) (es : List E) → Each P es → All P es
  each_all P [] h k d lt = absurd (omega arith)
  each_all P (e ∷ es) h zero d lt = h.0
  each_all P (e ∷ es) h (suc k) d lt = each_all P es h.1 k d (omega arith)

  pub all_each : (P : E → Type 0) (es : List E) → All P es → Each P es
  all_each P [] h = tt
  all_each P (e ∷ es) h = (h 0 e (omega arith), all_each P es (λ k d lt. h (suc k) d (omega arith)))

  pub begins_taken : (log seen : List E) → StartsWith log seen → take (length seen) log ≡ seen
  begins_taken log seen s = ap (take (length seen)) s.1 ∙ take_at seen s.0 (length seen) refl

  pub taken_begins : (log seen : List E) → take (length seen) log ≡ seen → StartsWith log seen
  taken_begins log seen e = (drop (length seen) log, sym (take-append-drop (length seen) log) ∙ ap (λ l. l ++ drop (length seen) log) e)

  module _ (maker : E → ℕ) where
    pub named_all : (n : ℕ) (es : List E) → Names maker n es → All (λ e. maker e ≡ n) es
    named_all n [] h k d lt = absurd (omega arith)
    named_all n (e ∷ es) h zero d lt = h.0
    named_all n (e ∷ es) h (suc k) d lt = named_all n es h.1 k d (omega arith)

    pub all_named : (n : ℕ) (es : List E) → All (λ e. maker e ≡ n) es → Names maker n es
    all_named n [] h = tt
    all_named n (e ∷ es) h = (h 0 e (omega arith), all_named n es (λ k d lt. h (suc k) d (omega arith)))

    -- P holds of all entries if it holds of those by each maker
    pub each_by : (P : E → Type 0) (n : ℕ) (es : List E) → NamedBelow maker n es → ((k : ℕ) → k < n → Each P (by maker k es)) → Each P es
    each_by P n [] below h = tt
    each_by P n (e ∷ es) below h =
        let own : Each P (e ∷ by maker (maker e) es)
        = subst (λ b. Each P (cond b (e ∷ by maker (maker e) es) (by maker (maker e) es))) (eq-eqb (maker e) (maker e) refl) (h (maker e) below.0) in
        (own.0, each_by P n es below.1 (λ k lt. rest k (maker e == k) (h k lt)))
      where
        rest : (k : ℕ) (b : Bool) → Each P (cond b (e ∷ by maker k es) (by maker k es)) → Each P (by maker k es)
        rest k true each = each.1
        rest k false each = each

    -- P holds of all new entries if it holds of the new ones by each maker
    pub new_entries : (P : E → Type 0) (n : ℕ) (base log : List E) → StartsWith log base → All (λ e. maker e < n) (drop (length base) log)
        → ((k : ℕ) → k < n → Each P (drop (length (by maker k base)) (by maker k log))) → Each P (drop (length base) log)
    new_entries P n base log s below h =
        let new = drop (length base) log in
        let grown : log ≡ base ++ new = s.1 ∙ ap (λ l. base ++ l) (sym (front_rest log base s.0 s.1)) in
        let split : (k : ℕ) → by maker k log ≡ by maker k base ++ by maker k new = λ k. ap (by maker k) grown ∙ filter-append (λ e. maker e == k) base new in
        each_by P n new (all_below maker n new below)
        (λ k lt. subst (Each P) (front_rest (by maker k log) (by maker k base) (by maker k new) (split k)) (h k lt))
