-- The moves of a line alone: it asks, puts off a forward, acknowledges an invalidation, takes part of what it needs, or retires.
use Rattle.std.proofs.Common.{◌≡◌, ℕ, zero, suc, ◌<◌, ◌≤◌, arith, Bool, true, false, ◌||◌, List, [], ◌∷◌, ◌++◌, length, Some, None, refl, sym, ap, subst, ◌∙◌, inl, inr}
use Rattle.std.specs.Prelude.{◌==◌, if◌then◌else◌}
use Rattle.std.proofs.lemmas.Bool.{eqb-true, eq-eqb}
use Rattle.pg_perm.specs.declared.kinds.Event.{Event}
use Rattle.pg_perm.specs.declared.kinds.FwdClass.TheVariants.{Inv}
use Rattle.pg_perm.specs.declared.kinds.Who.TheVariants.{Other}
use Rattle.pg_perm.specs.declared.draft.Draft.{Draft}
use Rattle.pg_terms.specs.Terms.{has_class}
use Rattle.pg_directory.specs.DirEntries.{DirEntry, Request, who, entry_after}
use Rattle.pg_directory.specs.Sends.{forward_sent}
use Rattle.pg_directory.specs.Requests.{IsHandled}
use Rattle.pg_table.specs.declared.cache.Desc.{Desc}
use Rattle.pg_table.specs.declared.cache.Desc.TheVariants.{Ask}
use Rattle.pg_table.specs.declared.cache.Phase.{Phase}
use Rattle.pg_table.specs.declared.cache.Phase.TheVariants.{D, Ad, Ac, A}
use Rattle.pg_table.specs.declared.cache.Tag.{Tag}
use Rattle.pg_messages.specs.declared.messages.Ordered.{Ordered}
use Rattle.pg_order.specs.Orders.{DirOrder, entry_message}
use Rattle.pg_order.proofs.Invs.{inv_of_store}
use Rattle.pg_order.proofs.Quiet.{quiet_sends, unchanged}
use Rattle.pg_controllers.specs.Networks as net
use Rattle.pg_messages.specs.declared.messages.Reply.{Reply}
use Rattle.pg_messages.specs.declared.messages.Reply.TheVariants.{Data, InvAck, WbData}
use Rattle.pg_controllers.specs.Worlds.{World, core, order_of}
use Rattle.pg_orderly.specs.Orderly.{Mark, is_ahead, is_granted, is_pending, IsPlaced}
use Rattle.pg_orderly.proofs.Keeping.{marked, moved, core_same, core_other}
use Rattle.pg_safe.proofs.Alone.{store_takes}
use Rattle.pg_safe.proofs.Ends.{none_before}
use Rattle.pg_safe.proofs.Heads.{IsHead}
use Rattle.pg_serial.specs.Serial.{entry_at}
use Rattle.pg_serial.specs.Faithful.{Ahead, EachIs, IsDatum, IsFaithful, IsTold, Level, shown_entry, state_at, top_of}
use Rattle.pg_serial.proofs.Completes.{lines_move}
use Rattle.pg_serial.proofs.Rest.{emptied, postponed, postponed_again}
use Rattle.pg_refined.specs.Shown.{cleans, data_of, is_clean, is_clean_core, leaves_clean, shown, some_cleans, stand_of, told_of, words_of}
use Rattle.pg_refined.proofs.Bridge.{others_is, sends_is}
use Rattle.pg_refined.proofs.Lines.{lined_level}
use Rattle.pg_refined.proofs.Data.{data-append, words-append}
use Rattle.pg_refined.proofs.Clean.{clean_is, clean_from}
use Rattle.pg_refined.proofs.Granted.{IsJoined}
use Rattle.pg_refined.proofs.Completes.{AreFewer, append_nil}
use Rattle.pg_refined.proofs.Moves.{ne_eq, told_as, told_other, told_same, told_with_replies}

-- a line that moves, with what it then says
pub line_moves : (d : Draft) (n : ℕ) (w : World) (m : ℕ → Mark) (c : ℕ) (y : net.Core) (x : Mark) (rs : List Reply) → IsJoined d n w m → c < n → AreFewer d w.replies rs
    → IsTold d n (shown d w m) c (told_of x y) → (((order_of d w).dir_entry (order_of d w).top).owner ≡ Some c → is_clean_core d c y rs ≡ true → is_clean d w c ≡ true) → IsFaithful d n (shown d w m)
    → IsFaithful d n (shown d (moved c y rs w.done w) (marked c x m))
line_moves d n w m c y x rs b there fewer says own_clean f =
    told_with_replies d n (record (shown d z (marked c x m)) { replies = data_of rs ++ [] }) (data_of rs)
    (lines_move d n (shown d w m) c (shown d z (marked c x m)).core (data_of rs) [] (words_of rs) w.directory.memory (shown d w m).busy (is_clean d z) f
    (λ e other. told_other d w m c e y x rs w.done other) (subst (IsTold d n (shown d w m) c) (sym (told_same d w m c y x rs w.done inside)) says)
    (fewer.data_stay (IsDatum d (entry_at (shown d w m).order) (state_at d n (shown d w m))) f.replies) tt
    (fewer.words_stay (λ v. v ≡ (state_at d n (shown d w m) (top_of (shown d w m))).word) f.written) f.memory cleans)
    (append_nil (data_of rs))
  where
    z : World
    z = moved c y rs w.done w

    inside : c < length w.cores
    inside = let same = b.orderly.cores in omega (arith, same, there)

    cleans : (e : ℕ) → (shown_entry d (shown d w m) (top_of (shown d w m))).owner ≡ Some e → is_clean d z e ≡ true → w.directory.memory ≡ (state_at d n (shown d w m) (top_of (shown d w m))).word
    cleans e owner clean = f.clean e owner (by (e == c) refl)
      where
        at_top : ((order_of d w).dir_entry (order_of d w).top).owner ≡ Some e
        at_top = ap (λ (t : DirEntry). t.owner) (sym (b.bridge.dir_entries (order_of d w).top (omega arith))) ∙ subst (λ k. (shown_entry d (shown d w m) k).owner ≡ Some e) b.top owner

        other_clean : core z e ≡ core w e → is_clean d w e ≡ true
        other_clean same = elim (clean_is d e (core w e) rs (ap (λ u. is_clean_core d e u rs) (sym same) ∙ clean)) [
          | inl rests ↦ clean_from d e (core w e) w.replies (inl rests)
          | inr (inl some) ↦ clean_from d e (core w e) w.replies (inr (inl (fewer.cleans_less e (core w e).line.desc some)))
          | inr (inr leaves) ↦ clean_from d e (core w e) w.replies (inr (inr leaves))
        ]

        by : (q : Bool) → (e == c) ≡ q → is_clean d w e ≡ true
        by true is =
            let same = eqb-true e c is in
            subst (λ e. is_clean d w e ≡ true) (sym same) (own_clean (subst (λ e. ((order_of d w).dir_entry (order_of d w).top).owner ≡ Some e) same at_top)
            (ap (λ u. is_clean_core d c u rs) (sym (core_same c y rs w.done w inside)) ∙ subst (λ e. is_clean d z e ≡ true) same clean))
        by false is = other_clean (core_other c e y rs w.done w (ne_eq c e (λ q. let r = eq-eqb e c q in cc (r, is))))

-- acknowledgements are no data
pub acks_more : (d : Draft) (xs : List Reply) (r k : ℕ) → AreFewer d xs (xs ++ InvAck r k ∷ [])
acks_more d xs r k = record {
  data_stay = λ P h. subst (EachIs P) (sym (data-append xs (InvAck r k ∷ []) ∙ append_nil (data_of xs))) h;
  words_stay = λ P h. subst (EachIs P) (sym (words-append xs (InvAck r k ∷ []) ∙ append_nil (words_of xs))) h;
  cleans_less = λ z u h. same z u xs h;
}
  where
    same : (z : ℕ) (u : Desc) (xs : List Reply) → some_cleans d z u (xs ++ InvAck r k ∷ []) ≡ true → some_cleans d z u xs ≡ true
    same z u [] h = cc
    same z u (e ∷ xs) h = at (cleans d z u e) h (same z u xs)
      where
        at : (p : Bool) → (p || some_cleans d z u (xs ++ InvAck r k ∷ [])) ≡ true → (some_cleans d z u (xs ++ InvAck r k ∷ []) ≡ true → some_cleans d z u xs ≡ true) → (p || some_cleans d z u xs) ≡ true
        at true h more = refl
        at false h more = more h

-- Forwards that are put off, and invalidations that are acknowledged early

-- the line afterwards is ahead, where it was or not, with the same grant
pub record IsPutAhead (d : Draft) (w : World) (m : ℕ → Mark) (c g : ℕ) (e : Event) (s : ℕ) (ph : Phase) (t u : Tag) (q : Ordered) (y : net.Core) : Type 0 where
  pub desc : (core w c).line.desc ≡ Ask e s ph t
  pub slot : (core w c).slot ≡ None
  pub head : IsHead d (order_of d w) c (m c) g q
  -- what comes first comes after its own entry
  pub first : is_ahead ph t ≡ false → (m c).last < suc g
  pub line : y.line.desc ≡ Ask e s ph u
  pub ahead : is_ahead ph u ≡ true
  pub granted : is_granted (Ask e s ph u) ≡ is_granted (Ask e s ph t)
  pub word : y.line.word ≡ (core w c).line.word
  pub stamp : is_ahead ph t ≡ true → y.line.stamp ≡ (core w c).line.stamp
  pub empty : y.slot ≡ None

plain_ungranted : (e : Event) (s : ℕ) (ph : Phase) (t : Tag) → is_ahead ph t ≡ false → is_granted (Ask e s ph t) ≡ false
plain_ungranted e s D t h = refl
plain_ungranted e s Ad t h = refl
plain_ungranted e s Ac t h = refl
plain_ungranted e s A t h = cc

pub put_off_told : (d : Draft) (n : ℕ) (w : World) (m : ℕ → Mark) (c g : ℕ) (e : Event) (s : ℕ) (ph : Phase) (t u : Tag) (q : Ordered) (y : net.Core) (rs : List Reply) → IsJoined d n w m → c < n
    → IsPutAhead d w m c g e s ph t u q y → AreFewer d w.replies rs → IsFaithful d n (shown d w m)
    → IsFaithful d n (shown d (moved c y rs w.done w) (marked c (record { seen = suc g; last = (m c).last }) m))
put_off_told d n w m c g e s ph t u q y rs b there h fewer f = line_moves d n w m c y (record { seen = suc g; last = (m c).last }) rs b there fewer (says (is_ahead ph t) refl) own_clean f
  where
    p : DirOrder
    p = order_of d w

    pl : IsPlaced d p c (core w c) (m c)
    pl = b.orderly.placed c there

    pend : is_pending (core w c) ≡ true
    pend = rw (h.desc, h.slot) refl

    pend_y : is_pending y ≡ true
    pend_y = rw (h.line, h.empty) refl

    stand_y : stand_of y.line.desc ≡ Ahead s (is_granted (Ask e s ph t))
    stand_y = ap stand_of h.line ∙ ap (λ z. if z then Ahead s (is_granted (Ask e s ph u)) else Level s) h.ahead ∙ ap (Ahead s) h.granted

    says : (z : Bool) → is_ahead ph t ≡ z → IsTold d n (shown d w m) c (told_of (record { seen = suc g; last = (m c).last }) y)
    says true is = subst (IsTold d n (shown d w m) c)
        (sym (told_as (record (told_of (m c) (core w c)) { seen = suc g }) (told_of (record { seen = suc g; last = (m c).last }) y) refl refl (pend_y ∙ sym pend)
        (stand_y ∙ sym (ap stand_of h.desc ∙ ap (λ z. if z then Ahead s (is_granted (Ask e s ph t)) else Level s) is)) h.word (h.stamp is)))
        (postponed_again d n (shown d w m) c s (suc g) (is_granted (Ask e s ph t)) f there (ap stand_of h.desc ∙ ap (λ z. if z then Ahead s (is_granted (Ask e s ph t)) else Level s) is) (let from = h.head.from in omega (arith, from)))
    says false is =
        let level : stand_of (core w c).line.desc ≡ Level s = ap stand_of h.desc ∙ ap (λ z. if z then Ahead s (is_granted (Ask e s ph t)) else Level s) is in
        let lv = lined_level d p c (core w c).line (m c) (core w c).line.desc (core w c).slot pl.line s level in
        at (m c).last refl (lv.behind pend) (h.first is) level
      where
        at : (l : ℕ) → (m c).last ≡ l → (m c).seen < (m c).last → (m c).last < suc g → stand_of (core w c).line.desc ≡ Level s → IsTold d n (shown d w m) c (told_of (record { seen = suc g; last = (m c).last }) y)
        at zero last behind first level = absurd (omega (arith, last, behind))
        at (suc j) last behind first level =
            let top = b.top in
            let inside = h.head.inside in
            let others = none_before d p c (core w c) (m c) pl j (omega (arith, last, first, inside)) (inr (omega (arith, last))) in
            let quiet : (i : ℕ) → (m c).seen ≤ i → i < j → entry_message d p c i ≡ None = (λ i lo hi. h.head.quiet i lo (omega (arith, hi, last, first))) in
            let same = (unchanged d n p b.known c (m c).seen j (omega (arith, behind, last)) (omega (arith, last, first, inside)) others quiet).who in
            subst (IsTold d n (shown d w m) c)
            (sym (told_as (record (told_of (m c) (core w c)) { seen = suc g; stand = Ahead s false; stamp = y.line.stamp }) (told_of (record { seen = suc g; last = (m c).last }) y) refl refl (pend_y ∙ sym pend)
            (stand_y ∙ ap (Ahead s) (plain_ungranted e s ph t is)) h.word refl))
            (postponed d b.whole b.shaped n (shown d w m) c s j (suc g) y.line.stamp f there level last (omega (arith, behind, last)) (omega (arith, last, first, inside, top))
            (record {
              others = λ i lo hi. others_is d p _ _ b.bridge i c (omega (arith, hi, last, first, inside)) (others i lo hi);
              none = λ i lo hi. sends_is d n p b.known _ _ b.bridge i c (omega (arith, hi, last, first, inside)) ∙ quiet_sends d (p.dir_entry i) (p.at i) (suc i) c (others i lo hi) (quiet i lo hi);
            })
            (ap (λ (z : DirEntry). who z c) (b.bridge.dir_entries j (omega (arith, last, first, inside))) ∙ same ∙ ap (λ (z : DirEntry). who z c) (sym (b.bridge.dir_entries (m c).seen (omega (arith, behind, last, first, inside)))))
            (let from = h.head.from in omega (arith, from)))

    -- its tag alone is new
    own_clean : (p.dir_entry p.top).owner ≡ Some c → is_clean_core d c y rs ≡ true → is_clean d w c ≡ true
    own_clean owner z = elim (clean_is d c y rs z) [
      | inl (rests, rest) ↦ absurd (cc (rests, pend_y))
      | inr (inl some) ↦ clean_from d c (core w c) w.replies (inr (inl (ap (λ v. some_cleans d c v w.replies) h.desc ∙ same_cleans w.replies (fewer.cleans_less c (Ask e s ph u) (ap (λ v. some_cleans d c v rs) (sym h.line) ∙ some)))))
      | inr (inr leaves) ↦ absurd (let none = ap leaves_clean h.empty in cc (none, leaves))
    ]
      where
        same_cleans : (xs : List Reply) → some_cleans d c (Ask e s ph u) xs ≡ true → some_cleans d c (Ask e s ph t) xs ≡ true
        same_cleans xs h = sym (equal xs) ∙ h
          where
            equal : (xs : List Reply) → some_cleans d c (Ask e s ph u) xs ≡ some_cleans d c (Ask e s ph t) xs
            equal [] = refl
            equal (Data r z v i k ∷ xs) = ap (λ b. cleans d c (Ask e s ph t) (Data r z v i k) || b) (equal xs)
            equal (InvAck z k ∷ xs) = equal xs
            equal (WbData v k ∷ xs) = equal xs

-- Invalidations that are answered

-- after an invalidation a core holds nothing
pub inv_empties : (d : Draft) (n : ℕ) (s : DirEntry) (q : Request) (c f : ℕ) → IsHandled d n s q → (q.core == c) ≡ false → forward_sent d s q c ≡ Some f → has_class Inv d f ≡ true → who (entry_after d s q) c ≡ Other
inv_empties d n s q c f h ne sends inv =
    let store = inv_of_store d n s q c f h sends inv q.event refl in
    let (owner, alone) = store_takes d n s q h store in rw (owner, alone, ne) refl

-- a line that holds nothing says nothing
pub emptied_told : (d : Draft) (n : ℕ) (w : World) (m : ℕ → Mark) (c st g : ℕ) (y : net.Core) (rs : List Reply) → IsJoined d n w m → c < n → (m c).seen ≤ suc g → suc g ≤ (order_of d w).top
    → who ((order_of d w).dir_entry (suc g)) c ≡ Other → stand_of y.line.desc ≡ Level st → (is_pending y ≡ true → is_pending (core w c) ≡ true) → AreFewer d w.replies rs
    → (((order_of d w).dir_entry (order_of d w).top).owner ≡ Some c → is_clean_core d c y rs ≡ true → is_clean d w c ≡ true) → IsFaithful d n (shown d w m)
    → IsFaithful d n (shown d (moved c y rs w.done w) (marked c (record { seen = suc g; last = (m c).last }) m))
emptied_told d n w m c st g y rs b there from low none level waits fewer own_clean f =
    line_moves d n w m c y (record { seen = suc g; last = (m c).last }) rs b there fewer
    (subst (IsTold d n (shown d w m) c)
    (sym (told_as (record (told_of (m c) (core w c)) { seen = suc g; stand = Level st; word = y.line.word; stamp = y.line.stamp; pending = is_pending y }) (told_of (record { seen = suc g; last = (m c).last }) y) refl refl refl level refl refl))
    (emptied d n (shown d w m) c st (suc g) y.line.word y.line.stamp (is_pending y) f there from waits (ap (λ (z : DirEntry). who z c) (b.bridge.dir_entries (suc g) low) ∙ none)))
    own_clean f
