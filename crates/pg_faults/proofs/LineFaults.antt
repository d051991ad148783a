-- What reading lines one after another answers, against the rules that they break.
use Rattle.std.proofs.Common.{◌≡◌, ℕ, ◌+◌, ◌≤◌, Bool, true, false, List, [], ◌∷◌, Option, Some, None, Result, Ok, Err, refl, sym, subst, ap, ◌∙◌, arith, inl, inr}
use Rattle.std.specs.Prelude.{not}
use Rattle.pg_perm.specs.declared.fault.Fault.{Fault}
use Rattle.pg_perm.specs.declared.fault.Rule.{Rule}
use Rattle.pg_perm.specs.Rules.{rule_rank, IsNoLater}
use Rattle.pg_perm.proofs.Ranks.{same_fault}
use Rattle.pg_faults.specs.FirstFaults.{IsFirst, IsClean, AreClean, IsFirstFault}
use Rattle.pg_faults.specs.LineRules.{LineRules, BreaksPast, BreaksIn, kept_to_end, reading_at_end, read_on, read_lines, IsExact}

-- one failure has one reason
pub same_err : {A E : Type 0} (x y : E) → ◌≡◌ {A = Result A E} (Err x) (Err y) → x ≡ y
same_err x y e = cc

-- one success has one value
pub same_ok : {A E : Type 0} (x y : A) → ◌≡◌ {A = Result A E} (Ok x) (Ok y) → x ≡ y
same_ok x y e = cc

-- there is one first fault
pub same_first : (Breaks : ℕ → Rule → Type 0) (f g : Fault) → IsFirstFault Breaks f
    → IsFirstFault Breaks g → f ≡ g
same_first Breaks f g a b =
    same_fault f g (a.least g.line g.rule b.broken) (b.least f.line f.rule a.broken)

-- a rule comes no later than itself
no_later : (R Q : Rule) → Q ≡ R → rule_rank R ≤ rule_rank Q
no_later R Q e = omega (arith, ap rule_rank e)

-- a line that stands after the end line has its number
past_at : (past : Option Rule) (n : ℕ) (lines : List (List ℕ)) (L : ℕ) (R : Rule)
    → BreaksPast past n lines L R → L ≡ n
past_at None n lines L R b = absurd b
past_at (Some Q) n [] L R b = absurd b
past_at (Some Q) n (line ∷ lines) L R b = b.0

-- the fault that is found after the end line is the first there
past_fault : {Y : Type 0} (past : Option Rule) (n : ℕ) (whole : Y) (lines : List (List ℕ)) (f : Fault)
    → reading_at_end past n whole lines ≡ Err f → IsFirstFault (BreaksPast past (n + 1) lines) f
past_fault None n whole lines f e = absurd cc
past_fault (Some Q) n whole [] f e = absurd cc
past_fault (Some Q) n whole (line ∷ lines) f e =
    let first : IsFirstFault (BreaksPast (Some Q) (n + 1) (line ∷ lines)) (record { line = n + 1; rule = Q }) =
    record { broken = (refl, refl); least = λ L R b. inr (sym b.0, no_later Q R b.1) } in
    subst (IsFirstFault (BreaksPast (Some Q) (n + 1) (line ∷ lines))) (same_err _ f e) first

-- where none is found there, none is broken
past_whole : {Y : Type 0} (past : Option Rule) (n : ℕ) (whole : Y) (lines : List (List ℕ)) (y : Y)
    → reading_at_end past n whole lines ≡ Ok y
    → AreClean (BreaksPast past (n + 1) lines) × (whole ≡ y)
past_whole None n whole lines y e = (λ L R b. b, same_ok whole y e)
past_whole (Some Q) n whole [] y e = (λ L R b. b, same_ok whole y e)
past_whole (Some Q) n whole (line ∷ lines) y e = absurd cc

module _ {S : Type 0} (rules : LineRules S) where
  -- no broken line has a number before that of the first line
  first_line_on : (above : S) (n : ℕ) (lines : List (List ℕ)) (L : ℕ) (R : Rule)
      → BreaksIn rules above n lines L R → n ≤ L
  first_line_on above n [] L R b = omega (arith, b.0)
  first_line_on above n (line ∷ lines) L R (inl b) = omega (arith, b.0)
  first_line_on above n (line ∷ lines) L R (inr (inl b)) =
      omega (arith, past_at rules.past (n + 1) lines L R b.1)
  first_line_on above n (line ∷ lines) L R (inr (inr b)) =
      omega (arith, first_line_on (rules.after above n line) (n + 1) lines L R b.1)

  -- where no line is left, the missing end line is the first fault
  first_missing : (above : S) (n : ℕ)
      → IsFirstFault (BreaksIn rules above n []) (record { line = n; rule = rules.missing })
  first_missing above n =
      record { broken = (refl, refl); least = λ L R b. inr (sym b.0, no_later rules.missing R b.1) }

  -- where the first line is refused, its fault is the first
  first_here : (above : S) (n : ℕ) (line : List ℕ) (lines : List (List ℕ)) (R : Rule)
      → IsFirst (rules.breaks above n line) R
      → IsFirstFault (BreaksIn rules above n (line ∷ lines)) (record { line = n; rule = R })
  first_here above n line lines R p = record { broken = inl (refl, p.0); least = least }
    where
      least : (L : ℕ) (Q : Rule) → BreaksIn rules above n (line ∷ lines) L Q
          → IsNoLater (record { line = n; rule = R }) L Q
      least L Q (inl b) = inr (sym b.0, p.1 Q b.1)
      least L Q (inr (inl b)) = inl (omega (arith, past_at rules.past (n + 1) lines L Q b.1))
      least L Q (inr (inr b)) =
          inl (omega (arith, first_line_on (rules.after above n line) (n + 1) lines L Q b.1))

  -- where the first line breaks no rule and is the end line, the first fault after it is the first
  first_past : (above : S) (n : ℕ) (line : List ℕ) (lines : List (List ℕ)) (f : Fault)
      → IsClean (rules.breaks above n line) → rules.ends line ≡ true
      → IsFirstFault (BreaksPast rules.past (n + 1) lines) f
      → IsFirstFault (BreaksIn rules above n (line ∷ lines)) f
  first_past above n line lines f clean ended p =
      record { broken = inr (inl (ended, p.broken)); least = least }
    where
      least : (L : ℕ) (Q : Rule) → BreaksIn rules above n (line ∷ lines) L Q → IsNoLater f L Q
      least L Q (inl b) = absurd (cc (b.1, clean Q))
      least L Q (inr (inl b)) = p.least L Q b.1
      least L Q (inr (inr b)) = absurd (cc (b.0, ap not ended))

  -- where it is not, the first fault below it is the first
  first_below : (above : S) (n : ℕ) (line : List ℕ) (lines : List (List ℕ)) (f : Fault)
      → IsClean (rules.breaks above n line) → rules.ends line ≡ false
      → IsFirstFault (BreaksIn rules (rules.after above n line) (n + 1) lines) f
      → IsFirstFault (BreaksIn rules above n (line ∷ lines)) f
  first_below above n line lines f clean goes_on p =
      record { broken = inr (inr (ap not goes_on, p.broken)); least = least }
    where
      least : (L : ℕ) (Q : Rule) → BreaksIn rules above n (line ∷ lines) L Q → IsNoLater f L Q
      least L Q (inl b) = absurd (cc (b.1, clean Q))
      least L Q (inr (inl b)) = absurd (cc (b.0, goes_on))
      least L Q (inr (inr b)) = p.least L Q b.1

  -- where the first line breaks no rule, and none after it does, none does
  clean_past : (above : S) (n : ℕ) (line : List ℕ) (lines : List (List ℕ))
      → IsClean (rules.breaks above n line) → rules.ends line ≡ true
      → AreClean (BreaksPast rules.past (n + 1) lines)
      → AreClean (BreaksIn rules above n (line ∷ lines))
  clean_past above n line lines clean ended past L R (inl b) = absurd (cc (b.1, clean R))
  clean_past above n line lines clean ended past L R (inr (inl b)) = past L R b.1
  clean_past above n line lines clean ended past L R (inr (inr b)) = absurd (cc (b.0, ap not ended))

  clean_below : (above : S) (n : ℕ) (line : List ℕ) (lines : List (List ℕ))
      → IsClean (rules.breaks above n line) → rules.ends line ≡ false
      → AreClean (BreaksIn rules (rules.after above n line) (n + 1) lines)
      → AreClean (BreaksIn rules above n (line ∷ lines))
  clean_below above n line lines clean goes_on below L R (inl b) = absurd (cc (b.1, clean R))
  clean_below above n line lines clean goes_on below L R (inr (inl b)) = absurd (cc (b.0, goes_on))
  clean_below above n line lines clean goes_on below L R (inr (inr b)) = below L R b.1

module _ {S Y : Type 0} (rules : LineRules S) (judge : S → ℕ → List ℕ → Result S Rule) (gist : S → ℕ
    → Y) (exact : IsExact rules judge) where
  -- the fault that reading the lines answers is the first
  pub read_fault : (above : S) (n : ℕ) (lines : List (List ℕ)) (f : Fault)
      → read_lines rules judge gist above n lines ≡ Err f
      → IsFirstFault (BreaksIn rules above n lines) f
  read_fault above n [] f e =
      subst (IsFirstFault (BreaksIn rules above n [])) (same_err _ f e) (first_missing rules above n)
  read_fault above n (line ∷ lines) f e =
      at (judge above n line) (rules.ends line) refl refl e (read_fault (rules.after above n line) (n + 1) lines f)
    where
      at : (j : Result S Rule) (b : Bool) → judge above n line ≡ j → rules.ends line ≡ b
          → read_on rules.past gist n b j lines (λ more. read_lines rules judge gist more (n + 1) lines) ≡ Err f
          → (read_lines rules judge gist (rules.after above n line) (n + 1) lines ≡ Err f
          → IsFirstFault (BreaksIn rules (rules.after above n line) (n + 1) lines) f)
          → IsFirstFault (BreaksIn rules above n (line ∷ lines)) f
      at (Err R) b j h e below =
          subst (IsFirstFault (BreaksIn rules above n (line ∷ lines))) (same_err _ f e)
          (first_here rules above n line lines R (exact.first above n line R j))
      at (Ok more) true j h e below =
          first_past rules above n line lines f (exact.clean above n line more j).1 h (past_fault rules.past n (gist more n) lines f e)
      at (Ok more) false j h e below =
          let p = exact.clean above n line more j in
          first_below rules above n line lines f p.1 h (below (sym (ap (λ (a : S). read_lines rules judge gist a (n + 1) lines) p.0) ∙ e))

  -- the gist of what the lines up to the end line say
  abbrev gist_of : S × ℕ → Y
  gist_of p = gist p.0 p.1

  -- lines that are read break no rule, and their gist is what is read
  pub read_whole : (above : S) (n : ℕ) (lines : List (List ℕ)) (y : Y)
      → read_lines rules judge gist above n lines ≡ Ok y
      → AreClean (BreaksIn rules above n lines) × (y ≡ gist_of (kept_to_end rules above n lines))
  read_whole above n [] y e = absurd cc
  read_whole above n (line ∷ lines) y e =
      at (judge above n line) (rules.ends line) refl refl e (read_whole (rules.after above n line) (n + 1) lines y)
    where
      at : (j : Result S Rule) (b : Bool) → judge above n line ≡ j → rules.ends line ≡ b
          → read_on rules.past gist n b j lines (λ more. read_lines rules judge gist more (n + 1) lines) ≡ Ok y
          → (read_lines rules judge gist (rules.after above n line) (n + 1) lines ≡ Ok y
          → AreClean (BreaksIn rules (rules.after above n line) (n + 1) lines) × (y ≡ gist_of (kept_to_end rules (rules.after above n line) (n + 1) lines)))
          → AreClean (BreaksIn rules above n (line ∷ lines)) × (y ≡ gist_of (kept_to_end rules above n (line ∷ lines)))
      at (Err R) b j h e below = absurd cc
      at (Ok more) true j h e below =
          let p = exact.clean above n line more j in
          let past = past_whole rules.past n (gist more n) lines y e in
          (clean_past rules above n line lines p.1 h past.0, rw h (sym past.1 ∙ ap (λ (a : S). gist a n) p.0))
      at (Ok more) false j h e below =
          let p = exact.clean above n line more j in
          let rest = below (sym (ap (λ (a : S). read_lines rules judge gist a (n + 1) lines) p.0) ∙ e) in
          (clean_below rules above n line lines p.1 h rest.0, rw h rest.1)

  -- the first fault is what reading answers
  pub only_fault : (above : S) (n : ℕ) (lines : List (List ℕ)) (f : Fault)
      → IsFirstFault (BreaksIn rules above n lines) f
      → read_lines rules judge gist above n lines ≡ Err f
  only_fault above n lines f first = at (read_lines rules judge gist above n lines) refl
    where
      at : (r : Result Y Fault) → read_lines rules judge gist above n lines ≡ r → r ≡ Err f
      at (Ok y) e = absurd ((read_whole above n lines y e).0 f.line f.rule first.broken)
      at (Err g) e =
          ap Err (same_first (BreaksIn rules above n lines) g f (read_fault above n lines g e) first)

  -- what lines say that break no rule is what reading answers
  pub only_whole : (above : S) (n : ℕ) (lines : List (List ℕ))
      → AreClean (BreaksIn rules above n lines)
      → read_lines rules judge gist above n lines ≡ Ok (gist_of (kept_to_end rules above n lines))
  only_whole above n lines clean = at (read_lines rules judge gist above n lines) refl
    where
      at : (r : Result Y Fault) → read_lines rules judge gist above n lines ≡ r
          → r ≡ Ok (gist_of (kept_to_end rules above n lines))
      at (Err g) e = absurd (clean g.line g.rule (read_fault above n lines g e).broken)
      at (Ok y) e = ap Ok (read_whole above n lines y e).1
