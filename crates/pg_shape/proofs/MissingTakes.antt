-- Which pairs lack a take line: none where a draft has the shape.
use Rattle.std.proofs.Common.{◌≡◌, ℕ, zero, suc, ◌<◌, ◌≤◌, ◌⊎◌, true, false, length, Option, Some, None, refl, sym, subst, ap, ◌∙◌, arith, inl, inr, Bor}
use Rattle.std.specs.Prelude.{slice_get, is_none}
use Rattle.std.specs.Option.{option_copied}
use Rattle.std.proofs.lemmas.Bool.{or_left, or_right, cases_lt, and_parts, and_from, or_cases, false_from_ne_true}
use Rattle.std.proofs.lemmas.Option.{slice_get_within}
use Rattle.pg_perm.specs.declared.kinds.FwdClass.TheVariants.{Inv}
use Rattle.pg_perm.specs.declared.draft.Draft.{Draft}
use Rattle.pg_perm.specs.declared.draft.CacheLine.{CacheLine}
use Rattle.pg_perm.specs.declared.draft.TakeLine.{TakeLine}
use Rattle.pg_perm.specs.declared.fault.Rule.TheVariants.{S13}
use Rattle.pg_terms.specs.Terms.{is_shared, is_owner, is_forward_of, cache_is, shared, forward_of, take_row}
use Rattle.pg_terms.specs.Due.{is_to_owner, is_due}
use Rattle.pg_shape.specs.CacheRules.{cache_breaks, lacks_take_line, lacks_take_lines_below, lacks_take_lines}
use Rattle.pg_shape.specs.ShapeFaults.{HasShape}
use Rattle.pg_shape.proofs.DueForwards.{due_parts, due_has_class}
use Rattle.pg_shape.proofs.Searches.{not_both, position_get, map_or_get, copied_none}
use Rattle.pg_shape.proofs.Shaped.{cache_keeps, take_is_due}

-- a forward that is due has a class and so a line
due_below : (d : Draft) (s f : ℕ) → is_due d s f ≡ true → f < length d.messages
due_below d s f due =
    let (class, h) = due_has_class d s f due in
    let (m, e, p) = map_or_get (λ m. is_forward_of class m.class) (slice_get d.messages f) h in
    slice_get_within d.messages f m e

-- where a forward below a number is due and has no take row, one is found to be so
lacking_is_found : (d : Draft) (s f n : ℕ) → f < n → is_due d s f ≡ true → is_none (take_row d s f) ≡ true → lacks_take_lines_below d s n ≡ true
lacking_is_found d s f zero below due none = absurd (omega (arith, below))
lacking_is_found d s f (suc n) below due none = at (cases_lt f n) (lacking_is_found d s f n)
  where
    at : (f < n) ⊎ (n ≤ f) → (f < n → is_due d s f ≡ true → is_none (take_row d s f) ≡ true → lacks_take_lines_below d s n ≡ true)
        → lacks_take_lines_below d s (suc n) ≡ true
    at (inl less) behind = or_right (lacks_take_line d s n) (lacks_take_lines_below d s n) (behind less due none)
    at (inr more) behind =
        let same : f ≡ n = omega (arith, below, more) in
        let here : lacks_take_line d s n ≡ true =
        subst (λ k. lacks_take_line d s k ≡ true) same (and_from (is_due d s f) (is_none (take_row d s f)) due none) in
        or_left (lacks_take_line d s n) (lacks_take_lines_below d s n) here

-- and what is found to be so is so
found_is_lacking : (d : Draft) (s n : ℕ) → lacks_take_lines_below d s n ≡ true → (f : ℕ) × (is_due d s f ≡ true) × (is_none (take_row d s f) ≡ true)
found_is_lacking d s zero h = absurd cc
found_is_lacking d s (suc n) h = at (or_cases (lacks_take_line d s n) (lacks_take_lines_below d s n) h) (found_is_lacking d s n)
  where
    at : (lacks_take_line d s n ≡ true) ⊎ (lacks_take_lines_below d s n ≡ true)
        → (lacks_take_lines_below d s n ≡ true → (f : ℕ) × (is_due d s f ≡ true) × (is_none (take_row d s f) ≡ true))
        → (f : ℕ) × (is_due d s f ≡ true) × (is_none (take_row d s f) ≡ true)
    at (inl here) behind = let p = and_parts (is_due d s n) (is_none (take_row d s n)) here in (n, p.0, p.1)
    at (inr lower) behind = behind lower

-- a state lacks take lines exactly where a pair of it is due without one
pub lacks_due_pair : (d : Draft) (s : ℕ) (c : CacheLine)
    → (cache_breaks d s c S13 ≡ true → (f : ℕ) × (is_due d s f ≡ true) × (take_row d s f ≡ None))
    × (((f : ℕ) × (is_due d s f ≡ true) × (take_row d s f ≡ None)) → cache_breaks d s c S13 ≡ true)
lacks_due_pair d s c = (
  λ h. let (f, due, none) = found_is_lacking d s (length d.messages) h in (f, due, none_of (take_row d s f) none),
  λ p. lacking_is_found d s p.0 (length d.messages) (due_below d s p.0 p.1) p.1 (ap is_none p.2),
)
  where
    none_of : (o : Option TakeLine) → is_none o ≡ true → o ≡ None
    none_of None h = refl
    none_of (Some t) h = absurd cc

-- the state of a due pair is there
due_state : (d : Draft) (s f : ℕ) → is_due d s f ≡ true → (c : CacheLine) × (slice_get d.caches s ≡ Some c)
due_state d s f due = at (due_parts d s f due)
  where
    at : ((shared d ≡ Some s) × (forward_of d Inv ≡ Some f)) ⊎ ((cache_is (λ c. is_owner c.role) d s ≡ true) × (is_to_owner d f ≡ true))
        → (c : CacheLine) × (slice_get d.caches s ≡ Some c)
    at (inl p) = let (c, e, role) = (position_get (λ c. is_shared c.role) d.caches s p.0).1 in (c, e)
    at (inr p) = let (c, e, role) = map_or_get (λ c. is_owner c.role) (slice_get d.caches s) p.0 in (c, e)

-- a due pair has a take line
pub due_has_take : (d : Draft) → HasShape d → (s f : ℕ) → is_due d s f ≡ true → is_none (take_row d s f) ≡ false
due_has_take d h s f due = false_from_ne_true (is_none (take_row d s f)) lacking
  where
    lacking : is_none (take_row d s f) ≡ true → ⊥
    lacking none =
        let (c, e) = due_state d s f due in
        not_both (lacks_take_lines d s) (lacking_is_found d s f (length d.messages) (due_below d s f due) due none) (cache_keeps d h s c e S13)

-- there is no take row exactly where the pair isn't due
pub take_rows : (d : Draft) → HasShape d → (s f : ℕ) → (take_row d s f ≡ None → is_due d s f ≡ false) × (is_due d s f ≡ false → take_row d s f ≡ None)
take_rows d h s f = (λ e. false_from_ne_true (is_due d s f) (λ due. not_both (is_none (take_row d s f)) (ap is_none e) (due_has_take d h s f due)), at (take_row d s f) refl)
  where
    at : (o : Option TakeLine) → take_row d s f ≡ o → is_due d s f ≡ false → o ≡ None
    at None e other = refl
    at (Some t) e other = absurd (not_both (is_due d s f) (take_is_due d h s f t e) other)

-- what the reader of take rows answers
pub take_answered : (d : Draft) → HasShape d → (s f : ℕ) (o : Option (Bor TakeLine)) → option_copied o ≡ take_row d s f
    → (o ≡ None → is_due d s f ≡ false) × (is_due d s f ≡ false → o ≡ None)
take_answered d h s f o e = let rows = take_rows d h s f in (λ none. rows.0 (sym e ∙ ap option_copied none), λ other. copied_none o (e ∙ rows.1 other))
