-- What the first fault is, against the rules that lines break.
use Rattle.std.proofs.Common.{◌≡◌, ℕ, Bool, true, List, [], ◌∷◌, ◌++◌, map, Option, Some, None, refl, subst, ap, ◌∙◌, inl, inr, append_assoc}
use Rattle.pg_perm.specs.declared.draft.Draft.{Draft}
use Rattle.pg_perm.specs.declared.fault.Fault.{Fault}
use Rattle.pg_perm.specs.declared.fault.Rule.{Rule}
use Rattle.pg_perm.specs.Drafts.{is_rising, IsWellFormed}
use Rattle.pg_perm.proofs.Ranks.{same_fault}
use Rattle.pg_shape.specs.TextRules.{text_breaks}
use Rattle.pg_shape.specs.CacheRules.{cache_breaks}
use Rattle.pg_shape.specs.DirRules.{dir_breaks}
use Rattle.pg_shape.specs.MessageRules.{message_breaks}
use Rattle.pg_shape.specs.CoreRules.{core_breaks}
use Rattle.pg_shape.specs.TakeRules.{take_breaks}
use Rattle.pg_shape.specs.RowRules.{row_breaks}
use Rattle.pg_shape.specs.ShapeFaults.{IsBrokenIn, BreaksShape, HasShape, IsShapeFault}
use Rattle.pg_shape.specs.FirstFaults.{first_rule, fault_or, first_fault_in, or_later, shape_fault}
use Rattle.pg_shape.proofs.Rising.{IsOneOf, in_front, one_of_last_part, rising_tail, rising_front, rising_last_part, rising_apart}
use Rattle.pg_shape.proofs.FirstRules.{IsOfShape}
use Rattle.pg_shape.proofs.FirstFound.{text_of_shape, cache_of_shape, dir_of_shape, message_of_shape, core_of_shape, take_of_shape, row_of_shape, IsFirstOf, AreApart, Either, BrokenAt, first_of_two, first_at, first_in_kind, in_kind}

-- o is the first of pairs, whose lines are among these
record Judged (P : ℕ → Rule → Type 0) (lines : List ℕ) (o : Option Fault) : Type 0 where
  first : IsFirstOf P o
  within : (L : ℕ) (R : Rule) → P L R → IsOneOf L lines

-- the lines of one kind
one_kind : {X : Type 0} (line : X → ℕ) (breaks : ℕ → X → Rule → Bool) → ((n : ℕ) (x : X) → IsOfShape (breaks n x)) → (xs : List X)
    → is_rising (map line xs) ≡ true → Judged (IsBrokenIn line breaks xs) (map line xs) (first_fault_in line breaks 0 xs)
one_kind line breaks of_shape xs h = record { first = first_in_kind line breaks of_shape xs h; within = in_kind line breaks xs }

-- the lines of one kind, and of those after it
one_more : (P Q : ℕ → Rule → Type 0) (ns ms : List ℕ) (o p : Option Fault) → is_rising (ns ++ ms) ≡ true → Judged P ns o → Judged Q ms p
    → Judged (Either P Q) (ns ++ ms) (or_later o p)
one_more P Q ns ms o p h a b = record { first = first_of_two P Q o p apart a.first b.first; within = within }
  where
    apart : AreApart P Q
    apart L R M S x y = rising_apart ns ms h L M (a.within L R x) (b.within M S y)

    within : (L : ℕ) (R : Rule) → Either P Q L R → IsOneOf L (ns ++ ms)
    within L R (inl x) = in_front ns ms L (a.within L R x)
    within L R (inr y) = one_of_last_part ns ms L (b.within L R y)

-- lists in a row, from the back
regroup : (a b c d e f : List ℕ) → a ++ b ++ c ++ d ++ e ++ f ≡ a ++ (b ++ (c ++ (d ++ (e ++ f))))
regroup a b c d e f = append_assoc (a ++ b ++ c ++ d) e f ∙ append_assoc (a ++ b ++ c) d (e ++ f) ∙ append_assoc (a ++ b) c (d ++ (e ++ f))
    ∙ append_assoc a b (c ++ (d ++ (e ++ f)))

-- the protocol line
text_line : (d : Draft) → Judged (BrokenAt d.line (text_breaks d)) (d.line ∷ []) (fault_or d.line (first_rule (text_breaks d)) None)
text_line d = record { first = first_at d.line (text_breaks d) (text_of_shape d); within = λ L R b. inl b.0 }

-- the first fault of a well-formed draft is the first broken pair
judged : (d : Draft) → IsWellFormed d → IsFirstOf (BreaksShape d) (shape_fault d)
judged d h =
    let caches = map (λ c. c.line) d.caches in
    let dirs = map (λ l. l.line) d.dirs in
    let messages = map (λ m. m.line) d.messages in
    let cores = map (λ c. c.line) d.cores in
    let takes = map (λ t. t.line) d.takes in
    let rows = map (λ r. r.line) d.rows in
    let all : is_rising (d.line ∷ (caches ++ (dirs ++ (messages ++ (cores ++ (takes ++ rows)))))) ≡ true =
    subst (λ ns. is_rising (d.line ∷ ns) ≡ true) (regroup caches dirs messages cores takes rows) h.lines in
    let r0 = rising_tail d.line (caches ++ (dirs ++ (messages ++ (cores ++ (takes ++ rows))))) all in
    let r1 = rising_last_part caches (dirs ++ (messages ++ (cores ++ (takes ++ rows)))) r0 in
    let r2 = rising_last_part dirs (messages ++ (cores ++ (takes ++ rows))) r1 in
    let r3 = rising_last_part messages (cores ++ (takes ++ rows)) r2 in
    let r4 = rising_last_part cores (takes ++ rows) r3 in
    let r5 = rising_last_part takes rows r4 in
    let j5 = one_kind (λ r. r.line) (row_breaks d) (row_of_shape d) d.rows r5 in
    let j4 = one_more _ _ takes rows _ _ r4 (one_kind (λ t. t.line) (take_breaks d) (take_of_shape d) d.takes (rising_front takes rows r4)) j5 in
    let j3 = one_more _ _ cores (takes ++ rows) _ _ r3 (one_kind (λ c. c.line) (core_breaks d) (core_of_shape d) d.cores (rising_front cores (takes ++ rows) r3)) j4 in
    let j2 = one_more _ _ messages (cores ++ (takes ++ rows)) _ _ r2 (one_kind (λ m. m.line) (message_breaks d) (message_of_shape d) d.messages (rising_front messages (cores ++ (takes ++ rows)) r2)) j3 in
    let j1 = one_more _ _ dirs (messages ++ (cores ++ (takes ++ rows))) _ _ r1 (one_kind (λ l. l.line) (dir_breaks d) (dir_of_shape d) d.dirs (rising_front dirs (messages ++ (cores ++ (takes ++ rows))) r1)) j2 in
    let j0 = one_more _ _ caches (dirs ++ (messages ++ (cores ++ (takes ++ rows)))) _ _ r0 (one_kind (λ c. c.line) (cache_breaks d) (cache_of_shape d) d.caches (rising_front caches (dirs ++ (messages ++ (cores ++ (takes ++ rows)))) r0)) j1 in
    (one_more (BrokenAt d.line (text_breaks d)) _ (d.line ∷ []) (caches ++ (dirs ++ (messages ++ (cores ++ (takes ++ rows))))) _ _ all (text_line d) j0).first

-- a draft that is refused has that first fault
pub shape_fault_is_first : (d : Draft) (f : Fault) → IsWellFormed d → shape_fault d ≡ Some f → IsShapeFault d f
shape_fault_is_first d f h e =
    let P : Option Fault → Type 0 = IsFirstOf (BreaksShape d) in
    let first = subst P e (judged d h) in
    record { broken = first.0; least = first.1 }

-- a draft that isn't has the shape
pub no_fault_is_shape : (d : Draft) → IsWellFormed d → shape_fault d ≡ None → HasShape d
no_fault_is_shape d h e =
    let P : Option Fault → Type 0 = IsFirstOf (BreaksShape d) in
    record { whole = subst P e (judged d h) }

-- the first fault is what is found
pub only_fault : (d : Draft) (f : Fault) → IsWellFormed d → IsShapeFault d f → shape_fault d ≡ Some f
only_fault d f h first = at (shape_fault d) refl
  where
    at : (o : Option Fault) → shape_fault d ≡ o → o ≡ Some f
    at None e = absurd ((no_fault_is_shape d h e).whole f.line f.rule first.broken)
    at (Some g) e =
        let other = shape_fault_is_first d g h e in
        ap Some (same_fault g f (other.least f.line f.rule first.broken) (first.least g.line g.rule other.broken))

-- where there is the shape, none is found
pub shape_has_no_fault : (d : Draft) → IsWellFormed d → HasShape d → shape_fault d ≡ None
shape_has_no_fault d h shape = at (shape_fault d) refl
  where
    at : (o : Option Fault) → shape_fault d ≡ o → o ≡ None
    at None e = refl
    at (Some g) e = absurd (shape.whole g.line g.rule (shape_fault_is_first d g h e).broken)
