use Rattle.std.proofs.Common.{◌≡◌, ◌+◌, ℕ, List, [], ◌∷◌, ◌++◌, length, length-append, Some, ap, ◌∙◌, arith}
use Rattle.std.specs.Prelude.{slice_get}
use Rattle.pg_turn.proofs.Ends.{get_front, get_last}
use Rattle.pg_visit.proofs.tests.two_passes.Goals as goal

pub returns-clause-first : goal.returns-clause-first
returns-clause-first c =
    let made = c.in-Ok.ensures.passes in
    let front = c.pop-2.new.self.items in
    let whole = c.in-Some.ensures.items in
    let rest = c.in-Some-pop.ensures.items in
    let count : length c.in-Ok.passes.items ≡ 2 = made.count ∙ c.in-Ok.ensures.seats in
    let long = ap length whole ∙ length-append c.pop.new.self.items (c.in-Some.second ∷ []) in
    let longer = ap length rest ∙ length-append front (c.in-Some-pop.first ∷ []) in
    let none : length front ≡ 0 = omega arith in
    let there = ap (λ l. slice_get l (length front)) whole
    ∙ get_front c.pop.new.self.items (c.in-Some.second ∷ []) (length front) c.in-Some-pop.first (ap (λ l. slice_get l (length front)) rest ∙ get_last front c.in-Some-pop.first) in
    let f = made.each (length front) c.in-Some-pop.first there in
    (f.is_of, f.number ∙ none, f.idle)

pub returns-clause-second : goal.returns-clause-second
returns-clause-second c =
    let made = c.in-Ok.ensures.passes in
    let front = c.pop.new.self.items in
    let whole = c.in-Some.ensures.items in
    let count : length c.in-Ok.passes.items ≡ 2 = made.count ∙ c.in-Ok.ensures.seats in
    let long = ap length whole ∙ length-append front (c.in-Some.second ∷ []) in
    let one : length front ≡ 1 = omega arith in
    let f = made.each (length front) c.in-Some.second (ap (λ l. slice_get l (length front)) whole ∙ get_last front c.in-Some.second) in
    (f.is_of, f.number ∙ one, f.idle)
