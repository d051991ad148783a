-- Histories of bells, one bell longer.
use Rattle.std.proofs.Common.{◌≡◌, ◌≢◌, ℕ, zero, suc, ◌+◌, ◌<◌, ◌≤◌, ◌==◌, true, false, cond, List, [], ◌∷◌, ◌++◌, length, map, filter, slice_get, Some, All, get_or, sym, refl, ap, ◌∙◌, subst, eq-eqb, ne_eqb, arith, append_assoc}
use Rattle.std.proofs.lemmas.List.{map-append, append-nil, length-append, length_push}
use Rattle.std.proofs.lemmas.List.Elements.{filter-append, All-head, All-tail}
use Rattle.std.proofs.lemmas.Option.{slice_get_within}
use Rattle.pg_bells.specs.declared.bell.Bell.{Bell}
use Rattle.pg_bells.specs.Histories.{blocks, Numbered, Stands, Rises}

pub get_longer : {A : Type 0} (l m : List A) (i : ℕ) (a : A) → slice_get l i ≡ Some a → slice_get (l ++ m) i ≡ Some a
get_longer [] m i a e = cc
get_longer (x ∷ xs) m zero a e = e
get_longer (x ∷ xs) m (suc i) a e = get_longer xs m i a e

get_last : {A : Type 0} (l : List A) (a : A) (i : ℕ) → i ≡ length l → slice_get (l ++ a ∷ []) i ≡ Some a
get_last [] a zero e = refl
get_last [] a (suc i) e = absurd (omega arith)
get_last (x ∷ xs) a zero e = absurd (omega arith)
get_last (x ∷ xs) a (suc i) e = get_last xs a i (omega arith)

pub blocks-append : (c : ℕ) (l m : List Bell) → blocks c (l ++ m) ≡ blocks c l ++ blocks c m
blocks-append c l m = let test = λ (b : Bell). b.core == c in ap (map (λ (b : Bell). b.block)) (filter-append test l m) ∙ map-append (λ (b : Bell). b.block) (filter test l) (filter test m)

one : (c : ℕ) (b : Bell) → b.core ≡ c → blocks c (b ∷ []) ≡ b.block ∷ []
one c b e = ap (λ t. map (λ (b : Bell). b.block) (cond t (b ∷ []) [])) (eq-eqb b.core c e)

none : (c : ℕ) (b : Bell) → b.core ≢ c → blocks c (b ∷ []) ≡ []
none c b e = ap (λ t. map (λ (b : Bell). b.block) (cond t (b ∷ []) [])) (ne_eqb b.core c e)

pub blocks_own : (c : ℕ) (l : List Bell) (b : Bell) → b.core ≡ c → blocks c (l ++ b ∷ []) ≡ blocks c l ++ b.block ∷ []
blocks_own c l b e = blocks-append c l (b ∷ []) ∙ ap (λ m. blocks c l ++ m) (one c b e)

pub blocks_other : (c : ℕ) (l : List Bell) (b : Bell) → b.core ≢ c → blocks c (l ++ b ∷ []) ≡ blocks c l
blocks_other c l b e = blocks-append c l (b ∷ []) ∙ ap (λ m. blocks c l ++ m) (none c b e) ∙ append-nil (blocks c l)

pub blocks_none : (n c : ℕ) (l : List Bell) → All (λ b. b.core < n) l → n ≤ c → blocks c l ≡ []
blocks_none n c [] all h = refl
blocks_none n c (b ∷ l) all h =
    let first = All-head (λ (b : Bell). b.core < n) b l all in
    let apart : b.core ≢ c = λ e. absurd (omega (arith, first, e)) in
    blocks-append c (b ∷ []) l ∙ ap (λ m. m ++ blocks c l) (none c b apart) ∙ blocks_none n c l (All-tail (λ (b : Bell). b.core < n) b l all) h

pub numbered_more : (before l : List Bell) (b : Bell) → Numbered before l → b.serial ≡ length (blocks b.core (before ++ l)) → Numbered before (l ++ b ∷ [])
numbered_more before [] b n e = (e ∙ ap (λ m. length (blocks b.core m)) (append-nil before), tt)
numbered_more before (x ∷ l) b n e = (n.0, numbered_more (before ++ x ∷ []) l b n.1 (e ∙ ap (λ m. length (blocks b.core m)) (sym (append_assoc before (x ∷ []) l))))

pub numbered_at : (before l : List Bell) (b : Bell) (rest : List Bell) → Numbered before (l ++ b ∷ rest) → b.serial ≡ length (blocks b.core (before ++ l))
numbered_at before [] b rest n = n.0 ∙ ap (λ m. length (blocks b.core m)) (sym (append-nil before))
numbered_at before (x ∷ l) b rest n = numbered_at (before ++ x ∷ []) l b rest n.1 ∙ ap (λ m. length (blocks b.core m)) (append_assoc before (x ∷ []) l)

pub stands_more : (l m : List Bell) (b : Bell) → Stands l b → Stands (l ++ m) b
stands_more l m b s = ap (λ bs. slice_get bs b.serial) (blocks-append b.core l m) ∙ get_longer (blocks b.core l) (blocks b.core m) b.serial b.block s

pub stands_new : (l : List Bell) (b : Bell) → b.serial ≡ length (blocks b.core l) → Stands (l ++ b ∷ []) b
stands_new l b e = ap (λ bs. slice_get bs b.serial) (blocks_own b.core l b refl) ∙ get_last (blocks b.core l) b.block b.serial e

pub rises : (gone taken : List Bell) (b : Bell) → All (Stands gone) taken → b.serial ≡ length (blocks b.core gone) → Rises taken b
rises gone taken b stand e k d lt same =
    let a : Bell = get_or taken k d in
    let inside : a.serial < length (blocks a.core gone) = slice_get_within (blocks a.core gone) a.serial a.block (stand k d lt) in
    let long : length (blocks a.core gone) ≡ b.serial = ap (λ c. length (blocks c gone)) same ∙ sym e in
    omega (arith, inside, long)
