-- The tag tells the state in which the forwards leave the core that were put off.
use Rattle.std.proofs.Common.{◌≡◌, ℕ, Bool, true, false, List, [], ◌∷◌, Some, None, subst}
use Rattle.std.specs.Prelude.{if◌then◌else◌}
use Rattle.pg_perm.specs.declared.kinds.FwdClass.TheVariants.{Inv}
use Rattle.pg_perm.specs.declared.draft.Draft.{Draft}
use Rattle.pg_perm.specs.declared.draft.TakeLine.{TakeLine}
use Rattle.pg_terms.specs.Terms.{has_class, take_row}
use Rattle.pg_terms.specs.Due.{is_due}
use Rattle.pg_shape.specs.Shaped.{IsShaped}
use Rattle.pg_table.specs.declared.cache.Tag.{Tag}
use Rattle.pg_table.specs.declared.cache.Tag.TheVariants.{Plain, Kept, Gave, Gone}
use Rattle.pg_table.specs.Descriptors.{end_under_tag}
use Rattle.pg_table.specs.Choices.{tag_by}
use Rattle.pg_table.proofs.Tags.{tag_tells_take_row}
use Rattle.pg_messages.specs.declared.messages.Ordered.{Ordered}
use Rattle.pg_messages.specs.declared.messages.Ordered.TheVariants.{Forward}
use Rattle.pg_orderly.specs.Orderly.{tag_from}

-- these forwards lead from a state to another, each by its take row
pub data Leads (d : Draft) : ℕ → List Ordered → ℕ → Type 0 where
  Stays : (x : ℕ) → Leads d x [] x
  Takes : (x y f r n k : ℕ) (ms : List Ordered) (t : TakeLine) → is_due d x f ≡ true → take_row d x f ≡ Some t → Leads d t.next ms y → Leads d x (Forward f r n k ∷ ms) y

one_more : (d : Draft) → IsShaped d → (f x g : ℕ) (t : Tag) (l : TakeLine) → end_under_tag d f t ≡ Some x → is_due d x g ≡ true → take_row d x g ≡ Some l → end_under_tag d f (tag_by d g) ≡ Some l.next
one_more d sh f x g t l at due row =
    let (k, there, told) = tag_tells_take_row d f t x g sh at due in
    let same : k ≡ l = cc (there, row) in subst (λ (k : TakeLine). end_under_tag d f (tag_by d g) ≡ Some k.next) same told

pub tag_replays : (d : Draft) → IsShaped d → (f x y : ℕ) (t u : Tag) (ms : List Ordered) → tag_from d t ms ≡ Some u → end_under_tag d f t ≡ Some x → Leads d x ms y → end_under_tag d f u ≡ Some y
tag_replays d sh f x _ t u _ tags at (Stays _) = let same : t ≡ u = cc in subst (λ t. end_under_tag d f t ≡ Some x) same at
tag_replays d sh f x y Plain u _ tags at (Takes _ _ g r n k ms l due row rest) = tag_replays d sh f l.next y (tag_by d g) u ms tags (one_more d sh f x g Plain l at due row) rest
tag_replays d sh f x y Kept u _ tags at (Takes _ _ g r n k ms l due row rest) =
    tag_replays d sh f l.next y (tag_by d g) u ms (kept (has_class Inv d g) tags) (one_more d sh f x g Kept l at due row) rest
  where
    kept : (b : Bool) → (if b then None else tag_from d (tag_by d g) ms) ≡ Some u → tag_from d (tag_by d g) ms ≡ Some u
    kept true e = cc
    kept false e = e
tag_replays d sh f x y Gave u _ tags at (Takes _ _ g r n k ms l due row rest) = cc
tag_replays d sh f x y Gone u _ tags at (Takes _ _ g r n k ms l due row rest) = cc
