-- Each step keeps the bells in order.
use Rattle.std.proofs.Common.{◌≡◌, ◌≢◌, ℕ, zero, suc, ◌+◌, ◌<◌, ◌≤◌, ◌⊎◌, ⊎_elim, inl, inr, Bool, true, false, cond, List, [], ◌∷◌, ◌++◌, length, set, map, slice_get, Some, All, get_or, sum_by, count_by, sym, refl, ap, ◌∙◌, subst, arith, append_assoc}
use Rattle.std.proofs.lemmas.Bool.{both_ways}
use mathlib.Core.Option.{some, some-injective, some-ne-none}
use lib.ListN.{get_elem?}
use Rattle.crossbeam_queue.specs.Fifo.{Pushes, Pops, Forks, Merges, Learns}
use Rattle.crossbeam_queue.proofs.Lists.{at_set, at_snoc, at_longer, at_last, set_here, set_else}
use Rattle.std.proofs.lemmas.List.{length-set, length-append, length_push}
use Rattle.std.proofs.lemmas.List.Sums.{sum_by-set, sum_by-append}
use Rattle.std.proofs.lemmas.List.Elements.{All-append, All-weaker, All-push, All-nil, All-cons}
use Rattle.pg_bells.specs.declared.bell.Bell.{Bell}
use Rattle.pg_bells.specs.declared.view.Ringing.{Ringing}
use Rattle.pg_bells.specs.declared.view.View.{View}
use Rattle.pg_bells.specs.Histories.{blocks, Numbered, Stands, Rises}
use Rattle.pg_bells.specs.Rule.{InOrder, Fits, IsTrueOf, IsSpentAt, AllJoined, Shows, ringing, newcomer, spent, counted, rang, took, joined}
use Rattle.pg_bells.proofs.HistoryLists.{blocks-append, blocks_own, blocks_other, blocks_none, numbered_more, numbered_at, stands_more, stands_new, rises}

pub shows : (n : ℕ) (v : View) → v.live ≡ true → Learns InOrder n v (Shows v)
shows n v live items views order at = let f = order.live n v at live in record { gone = order.gone; numbered = order.numbered; rung = f.own.rung; took = f.took }

pub at_get : {A : Type 0} (l : List A) (i : ℕ) (a d : A) → get_elem? l i ≡ some a → (i < length l) × (get_or l i d ≡ a)
at_get [] i a d e = absurd (some-ne-none a (sym e))
at_get (x ∷ xs) zero a d e = (omega arith, some-injective x a e)
at_get (x ∷ xs) (suc i) a d e = let rest = at_get xs i a d e in let inside = rest.0 in (omega arith, rest.1)

at_end : {A : Type 0} (l : List A) (a b : A) (j : ℕ) → get_elem? (l ++ a ∷ []) j ≡ some b → (get_elem? l j ≡ some b) ⊎ ((j ≡ length l) × (a ≡ b))
at_end [] a b zero e = inr (refl, some-injective a b e)
at_end [] a b (suc j) e = absurd (some-ne-none b (sym e))
at_end (x ∷ xs) a b zero e = inl e
at_end (x ∷ xs) a b (suc j) e = ⊎_elim (λ h. inl h) (λ h. inr (ap suc h.0, h.1)) (at_end xs a b j e)

sum_set : (f : View → ℕ) (views : List View) (n : ℕ) (v w : View) → get_elem? views n ≡ some v → sum_by f (set views n w) + f v ≡ sum_by f views + f w
sum_set f views n v w at = let here = at_get views n v v at in ap (λ u. sum_by f (set views n w) + f u) (sym here.1) ∙ sum_by-set f views n w v here.0

pub dead : (u v : View) → u.live ≡ false → v.live ≡ true → u ≡ v → ⊥
dead u v ended lives e = both_ways u.live ended (ap (λ (x : View). x.live) e ∙ lives)

pub same_at : (views : List View) (n : ℕ) (u v : View) → get_elem? views n ≡ some u → get_elem? views n ≡ some v → u ≡ v
same_at views n u v a b = some-injective u v (sym a ∙ b)

-- a spent place is not live, and stays spent
pub spent_apart : (views : List View) (n : ℕ) (v : View) → get_elem? views n ≡ some v → v.live ≡ true → (m : ℕ) → IsSpentAt views m → m ≢ n
spent_apart views n v at live m (u, there, ended) e = dead u v ended live (same_at views n u v (ap (λ k. get_elem? views k) (sym e) ∙ there) at)

spent_stays : (views : List View) (n : ℕ) (w : View) (m : ℕ) → m ≢ n → IsSpentAt views m → IsSpentAt (set views n w) m
spent_stays views n w m ne (u, there, ended) = (u, set_else views n m w ne ∙ there, ended)

true_stays : (all more : List Bell) (views later : List View) (r : Ringing) → IsTrueOf all views r → length later ≡ length views → blocks r.number more ≡ blocks r.number all → IsTrueOf more later r
true_stays all more views later r t e same = record { rung = t.rung ∙ sym same; passes = λ p. let q = t.passes p in (q.0 ∙ sym e, q.1) }

joined_stay : (all more : List Bell) (views later : List View) → ((r : Ringing) → IsTrueOf all views r → IsSpentAt views r.number → IsTrueOf more later r × IsSpentAt later r.number) → (rs : List Ringing) → AllJoined all views rs → AllJoined more later rs
joined_stay all more views later each [] j = tt
joined_stay all more views later each (r ∷ rs) j = let x = each r j.0 j.1 in (x.0, x.1, j.2, joined_stay all more views later each rs j.3)

pub joined_spent : (all : List Bell) (views : List View) (rs : List Ringing) → AllJoined all views rs → All (λ r. IsSpentAt views r.number) rs
joined_spent all views [] j = All-nil (λ (r : Ringing). IsSpentAt views r.number)
joined_spent all views (r ∷ rs) j = All-cons (λ (r : Ringing). IsSpentAt views r.number) r rs j.1 (joined_spent all views rs j.3)

ordered : (gone all items : List Bell) (views : List View) → all ≡ gone ++ items → Numbered [] all → All (λ b. b.core < length views) all
    → ((n : ℕ) (v : View) → get_elem? views n ≡ some v → v.live ≡ true → Fits gone all views n v)
    → ((n : ℕ) (v : View) → get_elem? views n ≡ some v → v.live ≡ false → v.took ≡ [])
    → ((test : Bell → Bool) → sum_by (λ v. count_by test v.took) views ≡ count_by test gone) → InOrder items views
ordered gone all items views e numbered below live idle whole = record {
  gone = gone;
  numbered = subst (λ l. Numbered [] l) e numbered;
  below = subst (λ l. All (λ (b : Bell). b.core < length views) l) e below;
  live = subst (λ l. (n : ℕ) (v : View) → get_elem? views n ≡ some v → v.live ≡ true → Fits gone l views n v) e live;
  idle = idle;
  whole = whole;
}

below_longer : (l : List Bell) (m n : ℕ) → m ≤ n → All (λ b. b.core < m) l → All (λ b. b.core < n) l
below_longer l m n le all k d lt = let h = all k d lt in omega arith

pub opens : InOrder [] (newcomer 0 1 ∷ [])
opens = ordered [] [] [] (newcomer 0 1 ∷ []) refl tt (All-nil (λ (b : Bell). b.core < 1))
    (λ n v at live. ⊎_elim (λ none. absurd (some-ne-none v (sym none)))
    (λ h. subst (λ (x : ℕ × View). Fits [] [] (newcomer 0 1 ∷ []) x.0 x.1) (λ i. (sym h.0 i, h.1 i))
    (record { number = refl; own = record { rung = refl; passes = λ _. (refl, refl) }; took = All-nil (Stands []); joined = tt }))
    (at_end [] (newcomer 0 1) v n at))
    (λ n v at ended. ⊎_elim (λ none. absurd (some-ne-none v (sym none))) (λ h. absurd (dead v (newcomer 0 1) ended refl (sym h.1))) (at_end [] (newcomer 0 1) v n at))
    (λ test. refl)

pub rings : (room n : ℕ) (v : View) (b : Bell) → v.live ≡ true → b.core ≡ v.own.number → b.serial ≡ length v.own.rung → Pushes InOrder room n v b (λ w. w ≡ rang v b.block)
rings room n v b live core serial items views _ order at =
    let w : View = rang v b.block in let vs : List View = set views n w in let all : List Bell = order.gone ++ items in let more : List Bell = all ++ b ∷ [] in
    let f : Fits order.gone all views n v = order.live n v at live in let long : length vs ≡ length views = length-set views n w in
    let here : n < length views = (at_get views n v v at).0 in
    let other : (m : ℕ) → m ≢ n → blocks m more ≡ blocks m all = λ m ne. blocks_other m all b (λ e. ne (sym e ∙ core ∙ f.number)) in
    let joined : (rs : List Ringing) → AllJoined all views rs → AllJoined more vs rs = joined_stay all more views vs
    (λ r t s. let ne = spent_apart views n v at live r.number s in (true_stays all more views vs r t long (other r.number ne), spent_stays views n w r.number ne s)) in
    let mine : Fits order.gone more vs n w = record {
      number = f.number;
      own = record { rung = ap (λ bs. bs ++ b.block ∷ []) f.own.rung ∙ sym (blocks_own v.own.number all b core); passes = λ p. let q = f.own.passes p in (q.0 ∙ sym long, q.1) };
      took = f.took;
      joined = joined v.joined f.joined;
    } in (
      w,
      ordered order.gone more (items ++ b ∷ []) vs (append_assoc order.gone items (b ∷ []))
          (numbered_more [] all b order.numbered (serial ∙ ap length f.own.rung ∙ ap (λ c. length (blocks c all)) (sym core)))
          (All-push (λ (x : Bell). x.core < length vs) all b (below_longer all (length views) (length vs) (omega (arith, long)) order.below) (let c : b.core ≡ n = core ∙ f.number in omega (arith, c, here, long)))
          (λ k u there alive. ⊎_elim (λ h. subst (λ (x : ℕ × View). Fits order.gone more vs x.0 x.1) (λ i. (sym h.0 i, h.1 i)) mine)
          (λ h. let g : Fits order.gone all views k u = order.live k u h.1 alive in record {
            number = g.number;
            own = true_stays all more views vs u.own g.own long (other u.own.number (λ e. h.0 (sym g.number ∙ e)));
            took = g.took;
            joined = joined u.joined g.joined;
          }) (at_set views n k w u there))
          (λ k u there ended. ⊎_elim (λ h. absurd (dead u w ended live (sym h.1))) (λ h. order.idle k u h.1 ended) (at_set views n k w u there))
          (λ test. let s = sum_set (λ (x : View). count_by test x.took) views n v w at in let t = order.whole test in omega arith),
      refl,
    )

-- what is known of the history stays where only bells leave the queue
longer : (all : List Bell) (views later : List View) (n : ℕ) (v w : View) → get_elem? views n ≡ some v → v.live ≡ true → later ≡ set views n w → (rs : List Ringing) → AllJoined all views rs → AllJoined all later rs
longer all views later n v w at live e = joined_stay all all views later
    (λ r t s. let ne = spent_apart views n v at live r.number s in (true_stays all all views later r t (ap length e ∙ length-set views n w) refl, subst (λ l. IsSpentAt l r.number) (sym e) (spent_stays views n w r.number ne s)))

pub answers : (n : ℕ) (v : View) → v.live ≡ true → Pops InOrder n v (λ b w. (w ≡ took v b) × Rises v.took b)
answers n v live b items views order at =
    let w : View = took v b in let vs : List View = set views n w in let gone : List Bell = order.gone in let all : List Bell = gone ++ b ∷ items in let left : List Bell = gone ++ b ∷ [] in
    let f : Fits gone all views n v = order.live n v at live in let long : length vs ≡ length views = length-set views n w in
    let serial : b.serial ≡ length (blocks b.core gone) = numbered_at [] gone b items order.numbered in
    let joined : (rs : List Ringing) → AllJoined all views rs → AllJoined all vs rs = longer all views vs n v w at live refl in
    let stand : (bs : List Bell) → All (Stands gone) bs → All (Stands left) bs = λ bs h. All-weaker (Stands gone) (Stands left) (stands_more gone (b ∷ [])) bs h in
    let mine : Fits left all vs n w = record {
      number = f.number;
      own = true_stays all all views vs v.own f.own long refl;
      took = All-push (Stands left) v.took b (stand v.took f.took) (stands_new gone b serial);
      joined = joined v.joined f.joined;
    } in (
      w,
      ordered left all items vs (sym (append_assoc gone (b ∷ []) items)) order.numbered
          (below_longer all (length views) (length vs) (omega (arith, long)) order.below)
          (λ k u there alive. ⊎_elim (λ h. subst (λ (x : ℕ × View). Fits left all vs x.0 x.1) (λ i. (sym h.0 i, h.1 i)) mine)
          (λ h. let g : Fits gone all views k u = order.live k u h.1 alive in record {
            number = g.number;
            own = true_stays all all views vs u.own g.own long refl;
            took = stand u.took g.took;
            joined = joined u.joined g.joined;
          }) (at_set views n k w u there))
          (λ k u there ended. ⊎_elim (λ h. absurd (dead u w ended live (sym h.1))) (λ h. order.idle k u h.1 ended) (at_set views n k w u there))
          (λ test. let s = sum_set (λ (x : View). count_by test x.took) views n v w at in let t = order.whole test in
          let x = sum_by-append (λ (a : Bell). cond (test a) 1 0) v.took (b ∷ []) in let y = sum_by-append (λ (a : Bell). cond (test a) 1 0) gone (b ∷ []) in omega arith),
      (refl, rises gone v.took b f.took serial),
    )

pub forks : (n : ℕ) (v : View) → v.live ≡ true → 0 < v.own.passes → Forks InOrder n v (counted v) (newcomer v.own.passes 0)
forks n v live first items views order at =
    let w : View = counted v in let new : View = newcomer v.own.passes 0 in let ws : List View = set views n w in let vs : List View = ws ++ new ∷ [] in
    let gone : List Bell = order.gone in let all : List Bell = gone ++ items in
    let f : Fits gone all views n v = order.live n v at live in let own = f.own.passes first in
    let same : length ws ≡ length views = length-set views n w in let long : length vs ≡ length ws + 1 = length_push ws new in
    let zeroth : n ≡ 0 = sym f.number ∙ own.1 in
    let others : (r : Ringing) → r.number ≢ n → IsTrueOf all views r → IsTrueOf all vs r = λ r ne t. record { rung = t.rung; passes = λ p. absurd (ne ((t.passes p).1 ∙ sym zeroth)) } in
    let joined : (rs : List Ringing) → AllJoined all views rs → AllJoined all vs rs = joined_stay all all views vs
    (λ r t s. let ne = spent_apart views n v at live r.number s in let kept = spent_stays views n w r.number ne s in (others r ne t, (kept.0, at_longer ws (new ∷ []) r.number kept.0 kept.1, kept.2))) in
    let mine : Fits gone all vs n w = record {
      number = f.number;
      own = record { rung = f.own.rung; passes = λ p. (let e = own.0 in omega (arith, e, same, long), own.1) };
      took = f.took;
      joined = joined v.joined f.joined;
    } in
    let last : Fits gone all vs (length ws) new = record {
      number = own.0 ∙ sym same;
      own = record { rung = sym (blocks_none (length views) v.own.passes all order.below (let e = own.0 in omega (arith, e))); passes = λ p. absurd (omega (arith, p)) };
      took = All-nil (Stands gone);
      joined = tt;
    } in
    ordered gone all items vs refl order.numbered (below_longer all (length views) (length vs) (omega (arith, same, long)) order.below)
    (λ k u there alive. ⊎_elim
    (λ e. ⊎_elim (λ h. subst (λ (x : ℕ × View). Fits gone all vs x.0 x.1) (λ i. (sym h.0 i, h.1 i)) mine)
    (λ h. let g : Fits gone all views k u = order.live k u h.1 alive in record {
      number = g.number;
      own = others u.own (λ x. h.0 (sym g.number ∙ x)) g.own;
      took = g.took;
      joined = joined u.joined g.joined;
    }) (at_set views n k w u e))
    (λ h. subst (λ (x : ℕ × View). Fits gone all vs x.0 x.1) (λ i. (sym h.0 i, h.1 i)) last) (at_end ws new u k there))
    (λ k u there ended. ⊎_elim
    (λ e. ⊎_elim (λ h. absurd (dead u w ended live (sym h.1))) (λ h. order.idle k u h.1 ended) (at_set views n k w u e))
    (λ h. absurd (dead u new ended refl (sym h.1))) (at_end ws new u k there))
    (λ test. let s = sum_set (λ (x : View). count_by test x.took) views n v w at in let t = order.whole test in
    let x = sum_by-append (λ (y : View). count_by test y.took) ws (new ∷ []) in omega arith)

pub merges : (n : ℕ) (v : View) (m : ℕ) (u : View) → v.live ≡ true → u.live ≡ true → Merges InOrder n v m u (joined v u) spent
merges n v m u live alive items views order at apart there =
    let w : View = joined v u in let ws : List View = set views n w in let vs : List View = set ws m spent in let gone : List Bell = order.gone in let all : List Bell = gone ++ items in
    let was : get_elem? views m ≡ some u = ⊎_elim (λ x. absurd (apart x.0)) (λ x. x.1) (at_set views n m w u there) in
    let f : Fits gone all views n v = order.live n v at live in let g : Fits gone all views m u = order.live m u was alive in
    let same : length ws ≡ length views = length-set views n w in let long : length vs ≡ length views = length-set ws m spent ∙ same in
    let other : (r : Ringing) → IsTrueOf all views r → IsTrueOf all vs r = λ r t. true_stays all all views vs r t long refl in
    let kept : (k : ℕ) → IsSpentAt views k → IsSpentAt vs k = λ k s. spent_stays ws m spent k (spent_apart views m u was alive k s) (spent_stays views n w k (spent_apart views n v at live k s) s) in
    let joins : (rs : List Ringing) → AllJoined all views rs → AllJoined all vs rs = joined_stay all all views vs (λ r t s. (other r t, kept r.number s)) in
    let inside : m < length ws = (at_get ws m u u there).0 in
    let new : (r : Ringing) → IsSpentAt views r.number → r.number ≢ u.own.number = λ r s e. spent_apart views m u was alive r.number s (e ∙ g.number) in
    let mine : Fits gone all vs n w = record {
      number = f.number;
      own = other v.own f.own;
      took = All-append (Stands gone) u.took v.took g.took f.took;
      joined = (
        other u.own g.own,
        (spent, ap (λ k. get_elem? vs k) g.number ∙ set_here ws m spent inside, refl),
        All-weaker (λ (r : Ringing). IsSpentAt views r.number) (λ (r : Ringing). r.number ≢ u.own.number) new v.joined (joined_spent all views v.joined f.joined),
        joins v.joined f.joined,
      );
    } in
    ordered gone all items vs refl order.numbered (below_longer all (length views) (length vs) (omega (arith, long)) order.below)
    (λ k x here lives. ⊎_elim (λ h. absurd (dead spent x refl lives h.1))
    (λ e. ⊎_elim (λ h. subst (λ (y : ℕ × View). Fits gone all vs y.0 y.1) (λ i. (sym h.0 i, h.1 i)) mine)
    (λ h. let q : Fits gone all views k x = order.live k x h.1 lives in record { number = q.number; own = other x.own q.own; took = q.took; joined = joins x.joined q.joined })
    (at_set views n k w x e.1))
    (at_set ws m k spent x here))
    (λ k x here ended. ⊎_elim (λ h. ap (λ (y : View). y.took) (sym h.1))
    (λ e. ⊎_elim (λ h. absurd (dead x w ended refl (sym h.1))) (λ h. order.idle k x h.1 ended) (at_set views n k w x e.1))
    (at_set ws m k spent x here))
    (λ test. let s = sum_set (λ (x : View). count_by test x.took) views n v w at in let t = sum_set (λ (x : View). count_by test x.took) ws m u spent there in
    let x = sum_by-append (λ (a : Bell). cond (test a) 1 0) u.took v.took in let y = order.whole test in omega arith)
