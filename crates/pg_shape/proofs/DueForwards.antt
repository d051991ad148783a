-- What a forward that is due is, and in which state it is.
use Rattle.std.proofs.Common.{◌≡◌, ℕ, ◌⊎◌, true, false, ◌&&◌, Option, Some, sym, ap, ◌∙◌, inl, inr}
use Rattle.std.specs.Prelude.{slice_get}
use Rattle.std.specs.Option.{option_map_or}
use Rattle.std.specs.List.{list_any}
use Rattle.std.proofs.lemmas.Bool.{and_parts, or_cases}
use Rattle.pg_perm.specs.declared.kinds.FwdClass.{FwdClass}
use Rattle.pg_perm.specs.declared.kinds.FwdClass.TheVariants.{Inv, Share, Keep, Drop}
use Rattle.pg_perm.specs.declared.draft.MsgClass.{MsgClass}
use Rattle.pg_perm.specs.declared.draft.MsgClass.TheVariants.{Request, Forward, Reply}
use Rattle.pg_perm.specs.declared.draft.MsgLine.{MsgLine}
use Rattle.pg_perm.specs.declared.draft.Draft.{Draft}
use Rattle.pg_terms.specs.Terms.{is, is_owner, is_forward_of, cache_is, shared, forward_of, has_class}
use Rattle.pg_terms.specs.Due.{is_to_owner, is_passed_to, is_due}
use Rattle.pg_terms.proofs.Same.{forward_equal}
use Rattle.pg_shape.proofs.Bools.{three_and, one_three}
use Rattle.pg_shape.proofs.Searches.{not_both, position_get, map_or_get}
use Rattle.pg_shape.proofs.Shaped.{is_then_some}

-- a message is a forward of one class
one_class : (m : MsgClass) (a b : FwdClass) → is_forward_of a m ≡ true → is_forward_of b m ≡ true → a ≡ b
one_class (Request c) a b h g = absurd cc
one_class (Forward c) a b h g = forward_equal a c h ∙ sym (forward_equal b c g)
one_class Reply a b h g = absurd cc

-- so is the message of a number
class_of_forward : (d : Draft) (f : ℕ) (a b : FwdClass) → has_class a d f ≡ true → has_class b d f ≡ true → a ≡ b
class_of_forward d f a b h g =
    let (x, e, p) = map_or_get (λ m. is_forward_of a m.class) (slice_get d.messages f) h in
    one_class x.class a b p (sym (ap (λ (o : Option MsgLine). option_map_or (λ m. is_forward_of b m.class) o false) e) ∙ g)

-- the first forward of a class is of it
pub first_has_class : (d : Draft) (f : ℕ) (class : FwdClass) → forward_of d class ≡ Some f → has_class class d f ≡ true
first_has_class d f class e =
    let (m, g, p) = (position_get (λ m. is_forward_of class m.class) d.messages f e).1 in
    ap (λ (o : Option MsgLine). option_map_or (λ m. is_forward_of class m.class) o false) g ∙ p

-- an invalidation is none that goes to an owner
inv_not_to_owner : (d : Draft) (f : ℕ) → has_class Inv d f ≡ true → is_to_owner d f ≡ true → ⊥
inv_not_to_owner d f inv to = at (one_three (has_class Share d f) (has_class Keep d f) (has_class Drop d f) to)
  where
    at : (has_class Share d f ≡ true) ⊎ ((has_class Keep d f ≡ true) ⊎ (has_class Drop d f ≡ true)) → ⊥
    at (inl h) = absurd (cc (class_of_forward d f Inv Share inv h))
    at (inr (inl h)) = absurd (cc (class_of_forward d f Inv Keep inv h))
    at (inr (inr h)) = absurd (cc (class_of_forward d f Inv Drop inv h))

-- a pair that is due is one of the two
pub due_parts : (d : Draft) (s f : ℕ) → is_due d s f ≡ true
    → ((shared d ≡ Some s) × (forward_of d Inv ≡ Some f)) ⊎ ((cache_is (λ c. is_owner c.role) d s ≡ true) × (is_to_owner d f ≡ true))
due_parts d s f due =
    at (or_cases (is (shared d) s && is (forward_of d Inv) f) (cache_is (λ c. is_owner c.role) d s && is_to_owner d f && list_any (is_passed_to d s f) d.rows) due)
  where
    at : ((is (shared d) s && is (forward_of d Inv) f) ≡ true)
        ⊎ ((cache_is (λ c. is_owner c.role) d s && is_to_owner d f && list_any (is_passed_to d s f) d.rows) ≡ true)
        → ((shared d ≡ Some s) × (forward_of d Inv ≡ Some f)) ⊎ ((cache_is (λ c. is_owner c.role) d s ≡ true) × (is_to_owner d f ≡ true))
    at (inl p) = let q = and_parts (is (shared d) s) (is (forward_of d Inv) f) p in inl (is_then_some (shared d) s q.0, is_then_some (forward_of d Inv) f q.1)
    at (inr p) = let q = three_and (cache_is (λ c. is_owner c.role) d s) (is_to_owner d f) (list_any (is_passed_to d s f) d.rows) p in inr (q.0, q.1)

-- an invalidation is due in the shared state alone
pub inv_at_shared : (d : Draft) (s f : ℕ) → is_due d s f ≡ true → has_class Inv d f ≡ true → shared d ≡ Some s
inv_at_shared d s f due inv = at (due_parts d s f due)
  where
    at : ((shared d ≡ Some s) × (forward_of d Inv ≡ Some f)) ⊎ ((cache_is (λ c. is_owner c.role) d s ≡ true) × (is_to_owner d f ≡ true)) → shared d ≡ Some s
    at (inl p) = p.0
    at (inr p) = absurd (inv_not_to_owner d f inv p.1)

-- a forward of another class is due in an owner's state alone
pub other_at_owner : (d : Draft) (s f : ℕ) → is_due d s f ≡ true → has_class Inv d f ≡ false → cache_is (λ c. is_owner c.role) d s ≡ true
other_at_owner d s f due other = at (due_parts d s f due)
  where
    at : ((shared d ≡ Some s) × (forward_of d Inv ≡ Some f)) ⊎ ((cache_is (λ c. is_owner c.role) d s ≡ true) × (is_to_owner d f ≡ true))
        → cache_is (λ c. is_owner c.role) d s ≡ true
    at (inl p) = absurd (not_both (has_class Inv d f) (first_has_class d f Inv p.1) other)
    at (inr p) = p.0

-- a forward that is due has a class
pub due_has_class : (d : Draft) (s f : ℕ) → is_due d s f ≡ true → (class : FwdClass) × (has_class class d f ≡ true)
due_has_class d s f due = at (due_parts d s f due)
  where
    one : (has_class Share d f ≡ true) ⊎ ((has_class Keep d f ≡ true) ⊎ (has_class Drop d f ≡ true)) → (class : FwdClass) × (has_class class d f ≡ true)
    one (inl h) = (Share, h)
    one (inr (inl h)) = (Keep, h)
    one (inr (inr h)) = (Drop, h)

    at : ((shared d ≡ Some s) × (forward_of d Inv ≡ Some f)) ⊎ ((cache_is (λ c. is_owner c.role) d s ≡ true) × (is_to_owner d f ≡ true))
        → (class : FwdClass) × (has_class class d f ≡ true)
    at (inl p) = (Inv, first_has_class d f Inv p.1)
    at (inr p) = one (one_three (has_class Share d f) (has_class Keep d f) (has_class Drop d f) p.1)
