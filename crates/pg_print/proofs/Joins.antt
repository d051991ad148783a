-- Joined names tell which names were joined.
use Rattle.std.proofs.Common.{◌≡◌, ℕ, Bool, true, false, cond, ◌&&◌, List, [], ◌∷◌, ◌++◌, length, refl, sym, ◌∙◌, append_assoc, arith}
use Rattle.std.specs.Prelude.{codes}
use Rattle.std.proofs.lemmas.Bool.{eqb-true, and_parts}
use Rattle.pg_print.specs.Names.{is_single, join_names}
use Rattle.pg_print.proofs.Lacking.{lacks, lacks_both, lacks_apart, same_around}

-- where `_` stands in neither name, it doesn't stand in the joined one
pub join_lacks : (a b : List ℕ) → lacks 95 a ≡ true → lacks 95 b ≡ true → lacks 95 (join_names a b) ≡ true
join_lacks a b h g = at (is_single a && is_single b)
  where
    at : (t : Bool) → lacks 95 (cond t (a ++ b) (a ++ codes "." ++ b)) ≡ true
    at true = lacks_both 95 a b h g
    at false = lacks_both 95 (a ++ codes ".") b (lacks_both 95 a (codes ".") h refl) g

single_same : (a b x y : List ℕ) → length a ≡ 1 → length x ≡ 1 → a ++ b ≡ x ++ y → (a ≡ x) × (b ≡ y)
single_same [] b x y h g e = absurd (omega arith)
single_same (p ∷ q ∷ a) b x y h g e = absurd (omega arith)
single_same (p ∷ []) b [] y h g e = absurd (omega arith)
single_same (p ∷ []) b (q ∷ r ∷ x) y h g e = absurd (omega arith)
single_same (p ∷ []) b (q ∷ []) y h g e = (cc, cc)

-- with a dot between them
dotted : (a b : List ℕ) → a ++ codes "." ++ b ≡ a ++ 46 ∷ b
dotted a b = append_assoc a (codes ".") b

pub same_join : (a b x y : List ℕ) → lacks 46 a ≡ true → lacks 46 b ≡ true → lacks 46 x ≡ true → lacks 46 y ≡ true → join_names a b ≡ join_names x y
    → (a ≡ x) × (b ≡ y)
same_join a b x y ha hb hx hy e = at (is_single a && is_single b) refl (is_single x && is_single y) refl e
  where
    one : (a b : List ℕ) → (is_single a && is_single b) ≡ true → length a ≡ 1
    one a b h = eqb-true (length a) 1 (and_parts (is_single a) (is_single b) h).0

    at : (t : Bool) → (is_single a && is_single b) ≡ t → (u : Bool) → (is_single x && is_single y) ≡ u
        → cond t (a ++ b) (a ++ codes "." ++ b) ≡ cond u (x ++ y) (x ++ codes "." ++ y) → (a ≡ x) × (b ≡ y)
    at true f true g e = single_same a b x y (one a b f) (one x y g) e
    at true f false g e = absurd (lacks_apart 46 (a ++ b) x y (lacks_both 46 a b ha hb) (e ∙ dotted x y))
    at false f true g e = absurd (lacks_apart 46 (x ++ y) a b (lacks_both 46 x y hx hy) (sym e ∙ dotted a b))
    at false f false g e = same_around 46 a x b y ha hx (sym (dotted a b) ∙ e ∙ dotted x y)
