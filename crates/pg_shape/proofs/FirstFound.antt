-- The first fault among lines.
use Rattle.std.proofs.Common.{◌≡◌, ℕ, zero, suc, ◌+◌, ◌<◌, ◌⊎◌, Bool, true, List, [], ◌∷◌, map, Option, Some, None, refl, sym, subst, arith, inl, inr}
use Rattle.std.specs.Prelude.{slice_get, IsTrue}
use Rattle.std.proofs.lemmas.Option.{same_Some}
use Rattle.pg_perm.specs.declared.draft.Draft.{Draft}
use Rattle.pg_perm.specs.declared.draft.CacheLine.{CacheLine}
use Rattle.pg_perm.specs.declared.draft.DirLine.{DirLine}
use Rattle.pg_perm.specs.declared.draft.MsgLine.{MsgLine}
use Rattle.pg_perm.specs.declared.draft.CoreLine.{CoreLine}
use Rattle.pg_perm.specs.declared.draft.TakeLine.{TakeLine}
use Rattle.pg_perm.specs.declared.draft.RowLine.{RowLine}
use Rattle.pg_perm.specs.declared.fault.Fault.{Fault}
use Rattle.pg_perm.specs.declared.fault.Rule.{Rule}
use Rattle.pg_perm.specs.declared.fault.Rule.TheVariants.{F1}
use Rattle.pg_perm.specs.Rules.{IsNoLater}
use Rattle.pg_perm.specs.Drafts.{is_rising}
use Rattle.pg_shape.specs.TextRules.{text_breaks}
use Rattle.pg_shape.specs.CacheRules.{cache_breaks}
use Rattle.pg_shape.specs.DirRules.{dir_breaks}
use Rattle.pg_shape.specs.MessageRules.{message_breaks}
use Rattle.pg_shape.specs.CoreRules.{core_breaks}
use Rattle.pg_shape.specs.TakeRules.{take_breaks}
use Rattle.pg_shape.specs.RowRules.{row_breaks}
use Rattle.pg_shape.specs.ShapeFaults.{IsBrokenIn}
use Rattle.pg_shape.specs.FirstFaults.{first_rule, fault_or, first_fault_in, or_later}
use Rattle.pg_shape.proofs.Rising.{IsOneOf, rising_head, rising_tail}
use Rattle.pg_shape.proofs.FirstRules.{IsOfShape, first_rule-some, first_rule-none}

pub text_of_shape : (d : Draft) → IsOfShape (text_breaks d)
text_of_shape d F1 h = refl
text_of_shape d _ h = grind (arith, h)

pub cache_of_shape : (d : Draft) (n : ℕ) (x : CacheLine) → IsOfShape (cache_breaks d n x)
cache_of_shape d n x F1 h = refl
cache_of_shape d n x _ h = grind (arith, h)

pub dir_of_shape : (d : Draft) (n : ℕ) (x : DirLine) → IsOfShape (dir_breaks d n x)
dir_of_shape d n x F1 h = refl
dir_of_shape d n x _ h = grind (arith, h)

pub message_of_shape : (d : Draft) (n : ℕ) (x : MsgLine) → IsOfShape (message_breaks d n x)
message_of_shape d n x F1 h = refl
message_of_shape d n x _ h = grind (arith, h)

pub core_of_shape : (d : Draft) (n : ℕ) (x : CoreLine) → IsOfShape (core_breaks d n x)
core_of_shape d n x F1 h = refl
core_of_shape d n x _ h = grind (arith, h)

pub take_of_shape : (d : Draft) (n : ℕ) (x : TakeLine) → IsOfShape (take_breaks d n x)
take_of_shape d n x F1 h = refl
take_of_shape d n x _ h = grind (arith, h)

pub row_of_shape : (d : Draft) (n : ℕ) (x : RowLine) → IsOfShape (row_breaks d n x)
row_of_shape d n x F1 h = refl
row_of_shape d n x _ h = grind (arith, h)

-- o is the first of the pairs, or there is none
abbrev pub IsFirstOf : (ℕ → Rule → Type 0) → Option Fault → Type 0
IsFirstOf P None = (L : ℕ) (R : Rule) → P L R → ⊥
IsFirstOf P (Some f) = P f.line f.rule × ((L : ℕ) (R : Rule) → P L R → IsNoLater f L R)

-- the lines of the one are below those of the other
abbrev pub AreApart : (ℕ → Rule → Type 0) → (ℕ → Rule → Type 0) → Type 0
AreApart P Q = (L : ℕ) (R : Rule) (M : ℕ) (S : Rule) → P L R → Q M S → L < M

abbrev pub Either : (ℕ → Rule → Type 0) → (ℕ → Rule → Type 0) → ℕ → Rule → Type 0
Either P Q L R = P L R ⊎ Q L R

-- the first of two kinds of pairs, of which the one stands before the other
pub first_of_two : (P Q : ℕ → Rule → Type 0) (o p : Option Fault) → AreApart P Q → IsFirstOf P o → IsFirstOf Q p → IsFirstOf (Either P Q) (or_later o p)
first_of_two P Q None None apart a b = none
  where
    none : (L : ℕ) (R : Rule) → Either P Q L R → ⊥
    none L R (inl h) = a L R h
    none L R (inr h) = b L R h
first_of_two P Q None (Some f) apart a b = (inr b.0, least)
  where
    least : (L : ℕ) (R : Rule) → Either P Q L R → IsNoLater f L R
    least L R (inl h) = absurd (a L R h)
    least L R (inr h) = b.1 L R h
first_of_two P Q (Some f) p apart a b = (inl a.0, least)
  where
    least : (L : ℕ) (R : Rule) → Either P Q L R → IsNoLater f L R
    least L R (inl h) = a.1 L R h
    least L R (inr h) = inl (apart f.line f.rule L R a.0 h)

-- the first of the same pairs
pub first_of_same : (P Q : ℕ → Rule → Type 0) (o : Option Fault) → ((L : ℕ) (R : Rule) → P L R → Q L R) → ((L : ℕ) (R : Rule) → Q L R → P L R)
    → IsFirstOf P o → IsFirstOf Q o
first_of_same P Q None there back a = λ L R h. a L R (back L R h)
first_of_same P Q (Some f) there back a = (there f.line f.rule a.0, λ L R h. a.1 L R (back L R h))

-- what one line breaks
abbrev pub BrokenAt : ℕ → (Rule → Bool) → ℕ → Rule → Type 0
BrokenAt line test L R = (L ≡ line) × IsTrue (test R)

pub first_at : (line : ℕ) (test : Rule → Bool) → IsOfShape test → IsFirstOf (BrokenAt line test) (fault_or line (first_rule test) None)
first_at line test of_shape = at (first_rule test) refl
  where
    at : (o : Option Rule) → first_rule test ≡ o → IsFirstOf (BrokenAt line test) (fault_or line o None)
    at None e = λ L R h. absurd (cc (h.1, first_rule-none test of_shape e R))
    at (Some S) e =
        let p = first_rule-some test S of_shape e in
        ((refl, p.0), λ L R h. inr (sym h.0, p.1 R h.1))

fault_or-later : (line : ℕ) (o : Option Rule) (later : Option Fault) → or_later (fault_or line o None) later ≡ fault_or line o later
fault_or-later line None later = refl
fault_or-later line (Some R) later = refl

-- what lines break, of which the first is number n of its kind
abbrev pub BrokenFrom : {X : Type 0} → (X → ℕ) → (ℕ → X → Rule → Bool) → ℕ → List X → ℕ → Rule → Type 0
BrokenFrom line breaks n [] L R = ⊥
BrokenFrom line breaks n (x ∷ xs) L R = BrokenAt (line x) (breaks n x) L R ⊎ BrokenFrom line breaks (suc n) xs L R

pub broken_line : {X : Type 0} (line : X → ℕ) (breaks : ℕ → X → Rule → Bool) (n : ℕ) (xs : List X) (L : ℕ) (R : Rule)
    → BrokenFrom line breaks n xs L R → IsOneOf L (map line xs)
broken_line line breaks n [] L R b = absurd b
broken_line line breaks n (x ∷ xs) L R (inl b) = inl b.0
broken_line line breaks n (x ∷ xs) L R (inr b) = inr (broken_line line breaks (suc n) xs L R b)

-- the first fault among lines that rise
pub first_from : {X : Type 0} (line : X → ℕ) (breaks : ℕ → X → Rule → Bool) → ((n : ℕ) (x : X) → IsOfShape (breaks n x)) → (n : ℕ) (xs : List X)
    → is_rising (map line xs) ≡ true → IsFirstOf (BrokenFrom line breaks n xs) (first_fault_in line breaks n xs)
first_from line breaks of_shape n [] h = λ L R b. b
first_from line breaks of_shape n (x ∷ xs) h =
    let behind = first_from line breaks of_shape (suc n) xs (rising_tail (line x) (map line xs) h) in
    subst (IsFirstOf (Either (BrokenAt (line x) (breaks n x)) (BrokenFrom line breaks (suc n) xs))) (fault_or-later (line x) (first_rule (breaks n x)) (first_fault_in line breaks (suc n) xs))
    (first_of_two _ _ _ _ apart (first_at (line x) (breaks n x) (of_shape n x)) behind)
  where
    apart : AreApart (BrokenAt (line x) (breaks n x)) (BrokenFrom line breaks (suc n) xs)
    apart L R M S a b = omega (arith, a.0, rising_head (line x) (map line xs) h M (broken_line line breaks (suc n) xs M S b))

-- a line that breaks a rule is found from the first on
pub to_from : {X : Type 0} (line : X → ℕ) (breaks : ℕ → X → Rule → Bool) (n : ℕ) (xs : List X) (L : ℕ) (R : Rule) (k : ℕ) (x : X)
    → slice_get xs k ≡ Some x → L ≡ line x → IsTrue (breaks (n + k) x R) → BrokenFrom line breaks n xs L R
to_from line breaks n [] L R k x e l b = absurd cc
to_from line breaks n (y ∷ xs) L R zero x e l b =
    let same : y ≡ x = same_Some y x e in
    let here : n + zero ≡ n = omega arith in
    inl (subst (λ z. BrokenAt (line z) (breaks n z) L R) (sym same) (l, subst (λ m. IsTrue (breaks m x R)) here b))
to_from line breaks n (y ∷ xs) L R (suc k) x e l b =
    let there : n + suc k ≡ suc n + k = omega arith in
    inr (to_from line breaks (suc n) xs L R k x e l (subst (λ m. IsTrue (breaks m x R)) there b))

-- and has a place
pub from_from : {X : Type 0} (line : X → ℕ) (breaks : ℕ → X → Rule → Bool) (n : ℕ) (xs : List X) (L : ℕ) (R : Rule) → BrokenFrom line breaks n xs L R
    → (k : ℕ) × (x : X) × (slice_get xs k ≡ Some x) × (L ≡ line x) × IsTrue (breaks (n + k) x R)
from_from line breaks n [] L R b = absurd b
from_from line breaks n (y ∷ xs) L R (inl b) =
    let here : n ≡ n + zero = omega arith in
    (zero, y, refl, b.0, subst (λ m. IsTrue (breaks m y R)) here b.1)
from_from line breaks n (y ∷ xs) L R (inr b) =
    let (k, x, e, l, h) = from_from line breaks (suc n) xs L R b in
    let there : suc n + k ≡ n + suc k = omega arith in
    (suc k, x, e, l, subst (λ m. IsTrue (breaks m x R)) there h)

-- the first fault among the lines of a kind
pub first_in_kind : {X : Type 0} (line : X → ℕ) (breaks : ℕ → X → Rule → Bool) → ((n : ℕ) (x : X) → IsOfShape (breaks n x)) → (xs : List X)
    → is_rising (map line xs) ≡ true → IsFirstOf (IsBrokenIn line breaks xs) (first_fault_in line breaks 0 xs)
first_in_kind line breaks of_shape xs h = first_of_same (BrokenFrom line breaks 0 xs) (IsBrokenIn line breaks xs) _ back there (first_from line breaks of_shape 0 xs h)
  where
    there : (L : ℕ) (R : Rule) → IsBrokenIn line breaks xs L R → BrokenFrom line breaks 0 xs L R
    there L R b =
        let (k, x, e, l, h) = b in
        let here : k ≡ 0 + k = omega arith in
        to_from line breaks 0 xs L R k x e l (subst (λ m. IsTrue (breaks m x R)) here h)

    back : (L : ℕ) (R : Rule) → BrokenFrom line breaks 0 xs L R → IsBrokenIn line breaks xs L R
    back L R b =
        let (k, x, e, l, h) = from_from line breaks 0 xs L R b in
        let here : 0 + k ≡ k = omega arith in
        (k, x, e, l, subst (λ m. IsTrue (breaks m x R)) here h)

-- the line of what is broken is one of the kind
pub in_kind : {X : Type 0} (line : X → ℕ) (breaks : ℕ → X → Rule → Bool) (xs : List X) (L : ℕ) (R : Rule) → IsBrokenIn line breaks xs L R → IsOneOf L (map line xs)
in_kind line breaks xs L R b =
    let (k, x, e, l, h) = b in
    let here : k ≡ 0 + k = omega arith in
    broken_line line breaks 0 xs L R (to_from line breaks 0 xs L R k x e l (subst (λ m. IsTrue (breaks m x R)) here h))
