-- What the last pass learns, and what follows from it.
use Rattle.std.proofs.Common.{◌≡◌, ◌≢◌, ℕ, zero, suc, ◌+◌, ◌<◌, ◌≤◌, ◌==◌, ◌&&◌, ◌⊎◌, ⊎_elim, inl, inr, Bool, true, false, cond, List, [], ◌∷◌, ◌++◌, length, map, flat_map, slice_get, Some, None, All, Any, get_or, sum_by, count_by, sym, refl, ap, ◌∙◌, subst, arith, append_assoc}
use Rattle.std.proofs.lemmas.Bool.{cases_eq, cases_Bool, and_parts, and_from, and_left, and_right, eqb-true, eq-eqb, ne_eqb, cases_lt}
use mathlib.Core.Option.{some}
use lib.ListN.{get_elem?}
use Rattle.crossbeam_queue.specs.Fifo.{Learns}
use Rattle.std.proofs.lemmas.List.{map-append, append-nil, length-append, length-map, length_push}
use Rattle.std.proofs.lemmas.List.Sums.{sum_by-append}
use Rattle.std.proofs.lemmas.List.Elements.{All-append, All-weaker, All-push, All-nil, All-cons, All-same, All-map, All-head, All-tail}
use Rattle.std.proofs.lemmas.Option.{slice_get_within}
use Rattle.pg_bells.specs.declared.bell.Bell.{Bell}
use Rattle.pg_bells.specs.declared.view.Ringing.{Ringing}
use Rattle.pg_bells.specs.declared.view.View.{View}
use Rattle.pg_bells.specs.declared.pass.RingPass.{RingPass}
use Rattle.pg_bells.specs.declared.pass.AnswerPass.{AnswerPass}
use Rattle.pg_bells.specs.Histories.{blocks, Numbered, Stands}
use Rattle.pg_bells.specs.Rule.{InOrder, Fits, IsTrueOf, IsSpentAt, AllJoined, Closes, all_ringing}
use Rattle.pg_bells.specs.Passes.{core_of, rung_by, taken_by, IsRinger, IsAnswerer}
use Rattle.pg_bells.specs.Closing.{all_taken, rung_count, WasRung, NoneTwice, AreLeft}
use Rattle.pg_bells.specs.Gathering.{ring_view, answer_view, told_by_rings, told_by_answers}
use Rattle.pg_bells.proofs.HistoryLists.{blocks-append, blocks_own, blocks_other, blocks_none, stands_more}
use Rattle.pg_bells.proofs.Steps.{dead, spent_apart, same_at, at_get, joined_spent}
use Rattle.pg_bells.proofs.Counts.{sum_cons, sum_same, sum_none, sum_both, sum_map, sum_one, count_true, get_same, eqb-swap, count, count_here, count_else, count_none, found, covered}

joined_true : (all : List Bell) (views : List View) (rs : List Ringing) → AllJoined all views rs → All (λ r. IsTrueOf all views r) rs
joined_true all views [] j = All-nil (λ (r : Ringing). IsTrueOf all views r)
joined_true all views (r ∷ rs) j = All-cons (λ (s : Ringing). IsTrueOf all views s) r rs j.0 (joined_true all views rs j.3)

joined_apart : (all : List Bell) (views : List View) (n : ℕ) (rs : List Ringing) → AllJoined all views rs → count (λ (r : Ringing). r.number) n rs ≤ 1
joined_apart all views n [] j = omega arith
joined_apart all views n (r ∷ rs) j = ⊎_elim
    (λ e. let c = count_here (λ (s : Ringing). s.number) n r rs e in let rest = count_none (λ (s : Ringing). s.number) n rs (subst (λ m. All (λ (s : Ringing). s.number ≢ m) rs) e j.2) in omega (arith, c, rest))
    (λ ne. let c = count_else (λ (s : Ringing). s.number) n r rs ne in let rest = joined_apart all views n rs j.3 in omega (arith, c, rest)) (cases_eq r.number n)

-- a pass that took in others, and they, have numbers of their own
all_apart : (n m : ℕ) (own : Ringing) (rs : List Ringing) → All (λ r. r.number ≢ own.number) rs → count (λ (r : Ringing). r.number) m rs ≤ 1 → count (λ (r : Ringing). r.number) m (rs ++ own ∷ []) ≤ 1
all_apart n m own rs apart le =
    let c = sum_by-append (λ (r : Ringing). cond (r.number == m) 1 0) rs (own ∷ []) in ⊎_elim
    (λ e. let one = count_here (λ (r : Ringing). r.number) m own [] e in let rest = count_none (λ (r : Ringing). r.number) m rs (subst (λ k. All (λ (r : Ringing). r.number ≢ k) rs) e apart) in omega (arith, c, one, rest))
    (λ ne. let one = count_else (λ (r : Ringing). r.number) m own [] ne in omega (arith, c, one, le)) (cases_eq own.number m)

pub learns : (n : ℕ) (v : View) → v.live ≡ true → Learns InOrder n v (Closes v)
learns n v live items views order at =
    let gone : List Bell = order.gone in let all : List Bell = gone ++ items in
    let f : Fits gone all views n v = order.live n v at live in
    let facts : All (λ r. IsTrueOf all views r) (all_ringing v) = All-push (λ (r : Ringing). IsTrueOf all views r) v.joined v.own (joined_true all views v.joined f.joined) f.own in
    let ends : All (λ r. IsSpentAt views r.number) v.joined = joined_spent all views v.joined f.joined in
    let places : All (λ r. (r.number ≡ n) ⊎ IsSpentAt views r.number) (all_ringing v) = All-push (λ (r : Ringing). (r.number ≡ n) ⊎ IsSpentAt views r.number) v.joined v.own
    (All-weaker (λ (r : Ringing). IsSpentAt views r.number) (λ (r : Ringing). (r.number ≡ n) ⊎ IsSpentAt views r.number) (λ r s. inr s) v.joined ends) (inl f.number) in
    record {
      gone = gone;
      passes = length views;
      numbered = order.numbered;
      below = order.below;
      took = f.took;
      rung = All-weaker (λ (r : Ringing). IsTrueOf all views r) (λ (r : Ringing). r.rung ≡ blocks r.number all) (λ r t. t.rung) (all_ringing v) facts;
      counted = All-weaker (λ (r : Ringing). IsTrueOf all views r) (λ (r : Ringing). 0 < r.passes → r.passes ≡ length views) (λ r t p. (t.passes p).0) (all_ringing v) facts;
      apart = λ m. all_apart n m v.own v.joined
          (All-weaker (λ (r : Ringing). IsSpentAt views r.number) (λ (r : Ringing). r.number ≢ v.own.number) (λ r s e. spent_apart views n v at live r.number s (e ∙ f.number)) v.joined ends)
          (joined_apart all views m v.joined f.joined);
      whole = λ cover test. sym (sum_one (λ (x : View). count_by test x.took) views n v at
          (λ k u there ne.
          let once = cover k (at_get views k u u there).0 in
          let here = found (λ (r : Ringing). r.number) (λ (r : Ringing). (r.number ≡ n) ⊎ IsSpentAt views r.number) k (all_ringing v) places (omega (arith, once)) in
          let idle : u.took ≡ [] = ⊎_elim (λ e. absurd (ne (sym here.1 ∙ e)))
          (λ s. order.idle k u there (ap (λ (x : View). x.live) (same_at views k u s.0 there (ap (λ j. get_elem? views j) (sym here.1) ∙ s.1)) ∙ s.2)) here.2 in
          ap (λ bs. count_by test bs) idle)) ∙ order.whole test;
    }

-- in a numbered history no core and serial stand twice, and those of earlier bells don't stand again
abbrev is_at : ℕ → ℕ → Bell → Bool
is_at core serial b = (b.core == core) && (b.serial == serial)

pub numbered_once : (before l : List Bell) → Numbered before l → (core serial : ℕ) → (count_by (is_at core serial) l ≤ 1) × (serial < length (blocks core before) → count_by (is_at core serial) l ≡ 0)
numbered_once before [] n core serial = (omega arith, λ _. refl)
numbered_once before (b ∷ l) n core serial =
    let c = sum_cons (λ x. cond (is_at core serial x) 1 0) b l in let rest = numbered_once (before ++ b ∷ []) l n.1 core serial in
    let more : length (blocks core before) ≤ length (blocks core (before ++ b ∷ [])) = ⊎_elim
    (λ e. let x = ap length (blocks_own core before b e) in let y = length_push (blocks core before) b.block in omega (arith, x, y))
    (λ ne. let x = ap length (blocks_other core before b ne) in omega (arith, x)) (cases_eq b.core core) in
    ⊎_elim
    (λ yes'. let parts = and_parts (b.core == core) (b.serial == serial) yes' in let same = eqb-true b.core core parts.0 in let at = eqb-true b.serial serial parts.1 in
    let here : ◌≡◌ {A = ℕ} (cond (is_at core serial b) 1 0) 1 = ap (λ t. cond t 1 0) yes' in
    let long : serial ≡ length (blocks core before) = sym at ∙ n.0 ∙ ap (λ k. length (blocks k before)) same in
    let grown : length (blocks core (before ++ b ∷ [])) ≡ length (blocks core before) + 1 = ap length (blocks_own core before b same) ∙ length_push (blocks core before) b.block in
    let none = rest.1 (omega (arith, long, grown)) in
    (omega (arith, c, here, none), λ lt. absurd (omega (arith, lt, long))))
    (λ not'. let here : ◌≡◌ {A = ℕ} (cond (is_at core serial b) 1 0) 0 = ap (λ t. cond t 1 0) not' in let one = rest.0 in
    (omega (arith, c, here, one), λ lt. let none = rest.1 (omega (arith, lt, more)) in omega (arith, c, here, none)))
    (cases_Bool (is_at core serial b))

first : (m : ℕ) (b : Bell) (l : List Bell) → length (blocks m (b ∷ l)) ≡ cond (m == b.core) 1 0 + length (blocks m l)
first m b l = ⊎_elim
    (λ e. let x = ap length (blocks-append m (b ∷ []) l) in let y = length-append (blocks m (b ∷ [])) (blocks m l) in let z = ap length (blocks_own m [] b e) in
    let t : ◌≡◌ {A = ℕ} (cond (m == b.core) 1 0) 1 = ap (λ t. cond t 1 0) (eq-eqb m b.core (sym e)) in omega (arith, x, y, z, t))
    (λ ne. let x = ap length (blocks-append m (b ∷ []) l) in let y = length-append (blocks m (b ∷ [])) (blocks m l) in let z = ap length (blocks_other m [] b ne) in
    let t : ◌≡◌ {A = ℕ} (cond (m == b.core) 1 0) 0 = ap (λ t. cond t 1 0) (ne_eqb m b.core (λ e. ne (sym e))) in omega (arith, x, y, z, t)) (cases_eq b.core m)

-- each bell is of one of the passes
partition : (n : ℕ) (l : List Bell) (rs : List Ringing) → All (λ b. b.core < n) l → ((j : ℕ) → j < n → count (λ (r : Ringing). r.number) j rs ≡ 1) → sum_by (λ r. length (blocks r.number l)) rs ≡ length l
partition n [] rs below cover = sum_none (λ (r : Ringing). 0) rs (λ k d lt. refl)
partition n (b ∷ l) rs below cover =
    let one = λ (r : Ringing). cond (r.number == b.core) 1 0 in
    let more = λ (r : Ringing). length (blocks r.number l) in
    let whole = λ (r : Ringing). length (blocks r.number (b ∷ l)) in
    let each : All (λ r. whole r ≡ one r + more r) rs = λ k d lt. let r : Ringing = get_or rs k d in first r.number b l in
    let same = sum_same whole (λ r. one r + more r) rs each in
    let both = sum_both one more rs in
    let here = cover b.core (All-head (λ (x : Bell). x.core < n) b l below) in
    let rest = partition n l rs (All-tail (λ (x : Bell). x.core < n) b l below) cover in
    omega (arith, same, both, here, rest)

nothing_at : (i a : ℕ) → slice_get [] i ≡ Some a → ⊥
nothing_at i a e = cc

-- what is known of each pass, in words of what it says of itself
IsAmong : ℕ → List RingPass → Ringing → Type 0
IsAmong n rings r = (r.number < n) × (r.number ≡ 0 → r.passes ≡ n) × ((r.rung ≡ []) ⊎ Any (λ p. (core_of p ≡ r.number) × (rung_by p ≡ r.rung)) rings)

module _ (n : ℕ) (rings : List RingPass) (answers : List AnswerPass)
    (ring_facts : All (λ p. IsRinger n p.core p.count (ring_view p)) rings) (answer_facts : All (λ p. IsAnswerer n (answer_view p)) answers) where
  among : All (IsAmong n rings) (told_by_answers answers ++ told_by_rings rings)
  unfolding IsAmong
  among = All-append (IsAmong n rings) (told_by_answers answers) (told_by_rings rings)
      (All-map (IsAmong n rings) (λ (p : AnswerPass). (answer_view p).own) answers
      (All-weaker (λ (p : AnswerPass). IsAnswerer n (answer_view p)) (λ (p : AnswerPass). IsAmong n rings (answer_view p).own) (λ p f. (f.0.1, f.0.2, inl f.1)) answers answer_facts))
      (All-map (IsAmong n rings) (λ (p : RingPass). (ring_view p).own) rings
      (λ k d lt. let p : RingPass = get_or rings k d in let f = ring_facts k d lt in (f.0.1, f.0.2, inr (k, p, lt, get_same rings k d lt, (sym f.1, refl)))))

  module _ (v : View) (items : List Bell) (c : Closes v items) (told : all_ringing v ≡ told_by_answers answers ++ told_by_rings rings)
      (took : v.took ≡ all_taken answers) (long : length rings + length answers ≡ n) where
    facts : All (IsAmong n rings) (all_ringing v)
    facts = All-same (IsAmong n rings) (all_ringing v) (told_by_answers answers ++ told_by_rings rings) told among

    full : length (all_ringing v) ≡ n
    full = let a = ap length told in let b = length-append (told_by_answers answers) (told_by_rings rings) in let x = length-map answers (λ (p : AnswerPass). (answer_view p).own) in let y = length-map rings (λ (p : RingPass). (ring_view p).own) in
        omega (arith, a, b, x, y, long)

    cover : (j : ℕ) → j < n → count (λ (r : Ringing). r.number) j (all_ringing v) ≡ 1
    unfolding IsAmong
    cover = covered (λ (r : Ringing). r.number) (all_ringing v) n full (All-weaker (IsAmong n rings) (λ (r : Ringing). r.number < n) (λ r f. f.0) (all_ringing v) facts) c.apart

    some_pass : 0 < n
    some_pass = let a = full in let b = length_push v.joined v.own in omega (arith, a, b)

    counted_is : c.passes ≡ n
    unfolding IsAmong
    counted_is = let at = cover 0 some_pass in
        let first = found (λ (r : Ringing). r.number) (λ (r : Ringing). (0 < r.passes → r.passes ≡ c.passes) × IsAmong n rings r) 0 (all_ringing v) (λ k d lt. (c.counted k d lt, facts k d lt)) (omega (arith, at)) in
        let is = first.2.1.1 first.1 in let pos = some_pass in sym (first.2.0 (omega (arith, is, pos))) ∙ is

    whole : (test : Bell → Bool) → count_by test v.took ≡ count_by test c.gone
    whole = c.whole (λ j lt. cover j (subst (λ m. j < m) counted_is lt))

    below : All (λ b. b.core < n) (c.gone ++ items)
    below = subst (λ m. All (λ (b : Bell). b.core < m) (c.gone ++ items)) counted_is c.below

    pub rung : All (WasRung rings) (all_taken answers)
    unfolding IsAmong
    rung k d lt =
        let b : Bell = get_or (all_taken answers) k d in let core : ℕ = b.core in
        let stand : Stands c.gone b = All-same (Stands c.gone) (all_taken answers) v.took (sym took) c.took k d lt in
        let there : slice_get (blocks core (c.gone ++ items)) b.serial ≡ Some b.block = stands_more c.gone items b stand in
        let inside : core < n = ⊎_elim (λ h. h) (λ h. absurd (nothing_at b.serial b.block (ap (λ bs. slice_get bs b.serial) (sym (blocks_none n core (c.gone ++ items) below h)) ∙ there))) (cases_lt core n) in
        let once = cover core inside in
        let at = found (λ (r : Ringing). r.number) (λ (r : Ringing). (r.rung ≡ blocks r.number (c.gone ++ items)) × IsAmong n rings r) core (all_ringing v) (λ j e l. (c.rung j e l, facts j e l)) (omega (arith, once)) in
        let r : Ringing = at.0 in
        let read : slice_get r.rung b.serial ≡ Some b.block = ap (λ bs. slice_get bs b.serial) (at.2.0 ∙ ap (λ m. blocks m (c.gone ++ items)) at.1) ∙ there in
        ⊎_elim (λ none. absurd (nothing_at b.serial b.block (ap (λ bs. slice_get bs b.serial) (sym none) ∙ read)))
        (λ p. (p.0, p.1, p.2, p.3, (p.4.0 ∙ at.1, ap (λ bs. slice_get bs b.serial) p.4.1 ∙ read))) at.2.1.2

    pub once : NoneTwice (all_taken answers)
    once core serial = let test = λ (b : Bell). (b.core == core) && (b.serial == serial) in
        let a = ap (λ bs. count_by test bs) took in let b = whole test in let x = sum_by-append (λ (y : Bell). cond (test y) 1 0) c.gone items in let le = (numbered_once [] (c.gone ++ items) c.numbered core serial).0 in
        omega (arith, a, b, x, le)

    pub left : AreLeft (length items) rings answers
    left = let a = ap length took in let b = whole (λ _. true) in let x = count_true v.took in let y = count_true c.gone in let z = length-append c.gone items in
        let p = partition n (c.gone ++ items) (all_ringing v) below cover in
        let q = sum_same (λ (r : Ringing). length r.rung) (λ (r : Ringing). length (blocks r.number (c.gone ++ items))) (all_ringing v) (λ k d lt. ap length (c.rung k d lt)) in
        let s = ap (λ rs. sum_by (λ (r : Ringing). length r.rung) rs) told in
        let t = sum_by-append (λ (r : Ringing). length r.rung) (told_by_answers answers) (told_by_rings rings) in
        let u = sum_map (λ (r : Ringing). length r.rung) (λ (p : AnswerPass). (answer_view p).own) answers in
        let none = sum_none (λ (p : AnswerPass). length (answer_view p).own.rung) answers (λ k d lt. ap length (answer_facts k d lt).1) in
        let w = sum_map (λ (r : Ringing). length r.rung) (λ (p : RingPass). (ring_view p).own) rings in
        omega (arith, a, b, x, y, z, p, q, s, t, u, none, w)
