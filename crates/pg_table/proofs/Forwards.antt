-- Forwards that may come are of a class.
use Rattle.std.proofs.Common.{◌≡◌, ℕ, ◌⊎◌, true, false, ◌&&◌, inl, inr}
use Rattle.std.specs.Option.{option_map_or}
use Rattle.std.specs.List.{list_any}
use Rattle.std.proofs.lemmas.Bool.{and_parts}
use Rattle.pg_perm.specs.declared.kinds.Event.{Event}
use Rattle.pg_perm.specs.declared.kinds.FwdClass.{FwdClass}
use Rattle.pg_perm.specs.declared.kinds.FwdClass.TheVariants as class
use Rattle.pg_perm.specs.declared.draft.Draft.{Draft}
use Rattle.pg_terms.specs.Terms.{is_owner, is, cache_is, shared, forward_of, has_class, keep_of}
use Rattle.pg_terms.specs.Due.{is_to_owner, is_passed_to, is_due}
use Rattle.pg_terms.specs.Rows.{may_keep}
use Rattle.pg_shape.proofs.Bools.{three_and, or_true, one_three}
use Rattle.pg_shape.proofs.Searches.{any_get, map_or_get}
use Rattle.pg_shape.proofs.Shaped.{is_then_some}
use Rattle.pg_directory.proofs.Facts.{first_has_class}
use Rattle.pg_table.specs.declared.cache.Tag.{Tag}
use Rattle.pg_table.specs.declared.cache.Tag.TheVariants.{Plain, Kept, Gave, Gone}
use Rattle.pg_table.specs.Descriptors.{final_states}
use Rattle.pg_table.specs.Choices.{is_later}

-- what is due is of a class
pub due_class : (d : Draft) (s f : ℕ) → is_due d s f ≡ true → (c : FwdClass) × (has_class c d f ≡ true)
due_class d s f h = at (or_true (is (shared d) s && is (forward_of d class.Inv) f) _ h)
  where
    owned : (has_class class.Share d f ≡ true) ⊎ ((has_class class.Keep d f ≡ true) ⊎ (has_class class.Drop d f ≡ true)) → (c : FwdClass) × (has_class c d f ≡ true)
    owned (inl k) = (class.Share, k)
    owned (inr (inl k)) = (class.Keep, k)
    owned (inr (inr k)) = (class.Drop, k)

    at : ((is (shared d) s && is (forward_of d class.Inv) f) ≡ true)
        ⊎ ((cache_is (λ c. is_owner c.role) d s && is_to_owner d f && list_any (is_passed_to d s f) d.rows) ≡ true)
        → (c : FwdClass) × (has_class c d f ≡ true)
    at (inl inv) = (class.Inv, first_has_class d class.Inv f (is_then_some (forward_of d class.Inv) f (and_parts (is (shared d) s) _ inv).1))
    at (inr other) = owned (one_three (has_class class.Share d f) (has_class class.Keep d f) (has_class class.Drop d f)
        (three_and (cache_is (λ c. is_owner c.role) d s) (is_to_owner d f) _ other).1)

-- and so is a later forward
pub later_class : (d : Draft) (s : ℕ) (e : Event) (t : Tag) (f : ℕ) → is_later d s e t f ≡ true → (c : FwdClass) × (has_class c d f ≡ true)
later_class d s e Plain f h = let (k, x, g, due) = any_get (λ x. is_due d x f) (final_states d s e) h in due_class d x f due
later_class d s e Kept f h =
    let (k, x, g, kept) = any_get (λ x. may_keep d x && option_map_or (λ k. is_due d k f) (keep_of d x) false) (final_states d s e) h in
    let (y, o, due) = map_or_get (λ k. is_due d k f) (keep_of d x) (and_parts (may_keep d x) _ kept).1 in
    due_class d y f due
later_class d s e Gave f h = absurd cc
later_class d s e Gone f h = absurd cc
