-- What is said stays so when a line that is level answers a forward.
use Rattle.std.proofs.Common.{◌≡◌, ◌≢◌, ℕ, suc, ◌<◌, ◌≤◌, arith, Bool, true, false, ◌&&◌, ◌||◌, not, List, [], ◌∷◌, ◌++◌, length, Option, Some, refl, sym, ap, subst, ◌∙◌, ◌⊎◌, inl, inr}
use Rattle.std.specs.Prelude.{◌==◌, is_none, if◌then◌else◌}
use Rattle.std.specs.Option.{option_map_or, option_and_then}
use Rattle.std.proofs.lemmas.Bool.{eqb-true, eq-eqb}
use Rattle.pg_perm.specs.declared.kinds.Event.TheVariants.{Load, Store, Evict}
use Rattle.pg_perm.specs.declared.kinds.FwdClass.TheVariants.{Share}
use Rattle.pg_perm.specs.declared.kinds.Who.TheVariants.{Owner}
use Rattle.pg_perm.specs.declared.draft.Draft.{Draft}
use Rattle.pg_perm.specs.declared.draft.TakeLine.{TakeLine}
use Rattle.pg_perm.specs.declared.draft.ReplyName.TheVariants as named
use Rattle.pg_terms.specs.Terms.{cache_is, has_class, is_owner, take_row}
use Rattle.pg_terms.specs.Rows.{reply_to}
use Rattle.pg_shape.specs.CoreRules.{is_sent}
use Rattle.pg_directory.specs.DirEntries.{DirEntry, who}
use Rattle.pg_directory.proofs.Holders.{who_of_owner as owns_it}
use Rattle.pg_atomic.specs.States.{take_next}
use Rattle.pg_table.specs.declared.cache.Desc.{Desc}
use Rattle.pg_table.specs.declared.cache.Desc.TheVariants.{Stable, Ask, Leave}
use Rattle.pg_table.specs.declared.cache.Phase.TheVariants.{Ad, Ac}
use Rattle.pg_table.specs.declared.cache.Tag.TheVariants.{Plain}
use Rattle.pg_table.specs.Descriptors.{store_phase}
use Rattle.pg_messages.specs.declared.messages.Ordered.{Ordered}
use Rattle.pg_messages.specs.declared.messages.Ordered.TheVariants.{Forward}
use Rattle.pg_order.specs.Orders.{DirOrder}
use Rattle.pg_order.specs.Views.{is_unserved}
use Rattle.pg_order.proofs.Quiet.{IsSent, forward_is, quiet_sends, unchanged}
use Rattle.pg_order.proofs.Passed.{IsPassedOn, passed_on, queued_unserved}
use Rattle.pg_controllers.specs.Networks as net
use Rattle.pg_messages.specs.declared.messages.Reply.{Reply}
use Rattle.pg_messages.specs.declared.messages.Reply.TheVariants.{Data}
use Rattle.pg_controllers.specs.Worlds.{World, core, order_of}
use Rattle.pg_orderly.specs.Orderly.{Mark, is_pending, view_of, is_ahead, IsPlaced}
use Rattle.pg_orderly.proofs.Keeping.{marked, moved, core_same, core_other}
use Rattle.pg_orderly.proofs.Answer.{base, base_stable, is_level, owner_sends, with_base, written_back}
use Rattle.pg_orderly.proofs.Answered.{IsAnswering, with_answer}
use Rattle.pg_safe.proofs.Ends.{none_before}
use Rattle.pg_safe.proofs.Heads.{IsHead}
use Rattle.pg_safe.proofs.Race.{plain_of}
use Rattle.pg_serial.specs.Groups.{requestor}
use Rattle.pg_serial.specs.Serial.{entry_at}
use Rattle.pg_serial.specs.Faithful as told
use Rattle.pg_serial.specs.Faithful.{Datum, EachIs, IsAnswer, IsDatum, IsFaithful, IsTold, Level, Shown, Stand, shown_entry, served_one, state_at, top_of}
use Rattle.pg_serial.proofs.Completes.{answer_told, lines_move}
use Rattle.pg_serial.proofs.Stores.{each_is-append}
use Rattle.pg_refined.specs.Shown.{base_event, cleans, data_of, is_clean, is_clean_core, is_clean_state, leaves_clean, level_in, shown, some_cleans, stand_of, told_of, words_of}
use Rattle.pg_refined.proofs.Bridge.{requestor_is, sends_is}
use Rattle.pg_refined.proofs.Sent.{is_sent_by}
use Rattle.pg_refined.proofs.Lines.{lined_level}
use Rattle.pg_refined.proofs.Data.{data-append, datum_as, words-append}
use Rattle.pg_refined.proofs.Clean.{clean_is, clean_from, cleans_load, load_cleans, next_clean, owner_class}
use Rattle.pg_refined.proofs.Granted.{IsJoined}
use Rattle.pg_refined.proofs.Held.{held_through}
use Rattle.pg_refined.proofs.Moves.{ne_eq, told_as, told_other, told_same, told_with_replies}

-- Level lines

level_stand : (x : Desc) → is_level x ≡ true → stand_of x ≡ Level (base x)
level_stand (Stable s) h = refl
level_stand (Ask Load s ph t) h = cc
level_stand (Ask Store s ph t) h = at (is_ahead ph t) h
  where
    at : (b : Bool) → not b ≡ true → (if b then told.Ahead s (Rattle.pg_orderly.specs.Orderly.is_granted (Ask Store s ph t)) else Level s) ≡ Level s
    at true e = cc
    at false e = refl
level_stand (Ask Evict s ph t) h = cc
level_stand (Leave s) h = refl

pub level_next : (d : Draft) (x : Desc) (s : ℕ) → is_level x ≡ true → stand_of (with_base d x s) ≡ Level s
level_next d (Stable t) s h = refl
level_next d (Ask Load t ph tg) s h = cc
level_next d (Ask Store t ph tg) s h =
    let plain = plain_of ph tg (no (is_ahead ph tg) h) in
    ap (λ tg. stand_of (Ask Store s (store_phase d s) tg)) plain ∙ at (cache_is (λ c. is_owner c.role) d s)
  where
    no : (b : Bool) → not b ≡ true → b ≡ false
    no true e = cc
    no false e = refl

    at : (b : Bool) → stand_of (Ask Store s (if b then Ac else Ad) Plain) ≡ Level s
    at true = refl
    at false = refl
level_next d (Ask Evict t ph tg) s h = cc
level_next d (Leave t) s h = refl

pub level_event : (d : Draft) (x : Desc) (s : ℕ) → is_level x ≡ true → base_event (with_base d x s) ≢ Load
level_event d (Stable t) s h = λ e. cc e
level_event d (Ask Load t ph tg) s h = cc
level_event d (Ask Store t ph tg) s h = λ e. cc e
level_event d (Ask Evict t ph tg) s h = cc
level_event d (Leave t) s h = λ e. cc e

-- Answers

back_data : (b : Bool) (w k : ℕ) → data_of (written_back b w k) ≡ []
back_data true w k = refl
back_data false w k = refl

sends_answer : (d : Draft) (x f a v i : ℕ) (r : ℕ) (k r2 k2 : ℕ) → reply_to d x f ≡ Some a → r2 ≡ r → k2 ≡ k → served_one d v x f r2 k2 ≡ data_of (owner_sends d f a r v i k)
sends_answer d x f a v i r k r2 k2 gives who_same stamp =
    ap (λ (o : Option ℕ). option_map_or (λ y. record { reply = named.Reply y; core = r2; word = v; stamp = k2 } ∷ []) o []) gives
    ∙ ap (λ y. datum_as a y v k2 ∷ []) who_same ∙ ap (λ y. datum_as a r v y ∷ []) stamp ∙ ap (λ xs. datum_as a r v k ∷ xs) (sym (back_data (has_class Share d f) v k))

sent_reply : (d : Draft) (x f a : ℕ) (t : TakeLine) → take_row d x f ≡ Some t → t.reply ≡ Some a → is_sent d a ≡ true
sent_reply d x f a t row gives = is_sent_by d x f a t row gives

pub answers_told : (d : Draft) (n : ℕ) (w : World) (m : ℕ → Mark) (c f r i k : ℕ) (ms : List Ordered) (t : TakeLine) (a g : ℕ) → IsJoined d n w m → c < n → IsAnswering d w m c f r i k ms t a
    → IsHead d (order_of d w) c (m c) g (Forward f r i k) → IsFaithful d n (shown d w m)
    → IsFaithful d n (shown d (moved c (with_answer d (core w c) t.next k ms) (w.replies ++ owner_sends d f a r (core w c).line.word i k) w.done w) (marked c (record { seen = suc g; last = (m c).last }) m))
answers_told d n w m c f r i k ms t a g b there h hd faithful =
    told_with_replies d n (record (shown d x2 m2) { replies = data_of w.replies ++ served_one d v st f (requestor (entry_at (shown d w m).order g)) (suc g) }) (data_of rs)
    (lines_move d n (shown d w m) c (shown d x2 m2).core (data_of w.replies) (served_one d v st f (requestor (entry_at (shown d w m).order g)) (suc g)) (words_of rs) w.directory.memory (shown d w m).busy (is_clean d x2)
    faithful others (subst (IsTold d n (shown d w m) c) (sym own) moves.0) faithful.replies moves.1 writes faithful.memory (λ z owner clean. faithful.clean z owner (fewer z clean)))
    (ap (λ xs. data_of w.replies ++ xs) same_data ∙ sym (data-append w.replies (owner_sends d f a r v i k)))
  where
    p : DirOrder
    p = order_of d w

    st : ℕ
    st = base (core w c).line.desc

    v : ℕ
    v = (core w c).line.word

    rs : List Reply
    rs = w.replies ++ owner_sends d f a r v i k

    m2 : ℕ → Mark
    m2 = marked c (record { seen = suc g; last = (m c).last }) m

    y : net.Core
    y = with_answer d (core w c) t.next k ms

    x2 : World
    x2 = moved c y rs w.done w

    pl : IsPlaced d p c (core w c) (m c)
    pl = b.orderly.placed c there

    inside : c < length w.cores
    inside = let same = b.orderly.cores in omega (arith, same, there)

    fw : IsSent d p c g f r i k
    fw = forward_is d p c g f r i k hd.sends

    on : IsPassedOn d (p.dir_entry g) (p.at g) c f
    on = passed_on d (p.dir_entry g) (p.at g) c f fw.sends h.not_inv

    un : is_unserved d p (view_of w m) g ≡ true
    un = queued_unserved d p (view_of w m) c g f on hd.from

    level : stand_of (core w c).line.desc ≡ Level st
    level = level_stand (core w c).line.desc h.level

    side : (m c).last ≤ (m c).seen ⊎ (suc g ≤ (m c).last)
    side = by (is_pending (core w c)) refl
      where
        by : (q : Bool) → is_pending (core w c) ≡ q → (m c).last ≤ (m c).seen ⊎ (suc g ≤ (m c).last)
        by true is = let lt = h.before is in let stamp = fw.stamp in inr (omega (arith, lt, stamp))
        by false is = inl ((lined_level d p c (core w c).line (m c) (core w c).line.desc (core w c).slot pl.line st level).past is)

    apart : (j : ℕ) → (m c).seen ≤ j → j < g → ((p.at j).core == c) ≡ false
    apart = none_before d p c (core w c) (m c) pl g (let i = hd.inside in omega (arith, i)) side

    apart_too : (j : ℕ) → (m c).seen ≤ j → j < suc g → ((p.at j).core == c) ≡ false
    apart_too j lo hi = elim (let split : (j < g) ⊎ (j ≡ g) = last_or j g hi in split) [ inl less ↦ apart j lo less | inr is ↦ subst (λ j. ((p.at j).core == c) ≡ false) (sym is) fw.other ]
      where
        last_or : (j g : ℕ) → j < suc g → (j < g) ⊎ (j ≡ g)
        last_or j g hi = search arith

    owns : who (p.dir_entry (m c).seen) c ≡ Owner
    owns = sym ((unchanged d n p b.known c (m c).seen g hd.from (let i = hd.inside in omega (arith, i)) apart hd.quiet).who) ∙ owns_it (p.dir_entry g) c on.owner

    viewed : (m c).seen ≤ p.top
    viewed = let upto = pl.upto in omega (arith, upto)

    gives : reply_to d st f ≡ Some a
    gives = ap (λ (o : Option TakeLine). option_and_then (λ t. t.reply) o) h.take ∙ h.gives

    next : take_next d st f ≡ t.next
    next = ap (λ (o : Option TakeLine). option_map_or (λ t. t.next) o st) h.take

    answer : IsAnswer d n (shown d w m) c st g f
    answer = record {
      inside = there;
      low = let i = hd.inside in let top = b.top in omega (arith, i, top);
      seen = hd.from;
      level = level;
      holds = λ none. let z = ap (λ (s : DirEntry). who s c) (sym (b.bridge.dir_entries (m c).seen viewed)) ∙ none in cc (owns, z);
      held = held_through d n w m b c g there hd.inside hd.from owns apart_too hd.quiet un;
      none = λ j lo hi. let i = hd.inside in sends_is d n p b.known _ _ b.bridge j c (omega (arith, hi, i)) ∙ quiet_sends d (p.dir_entry j) (p.at j) (suc j) c (apart j lo hi) (hd.quiet j lo hi);
      sends = sends_is d n p b.known _ _ b.bridge g c hd.inside ∙ fw.sends;
      idle = λ pend. let lt = h.before pend in let stamp = fw.stamp in omega (arith, lt, stamp);
    }

    moves : IsTold d n (shown d w m) c (record (told_of (m c) (core w c)) { seen = suc g; stand = Level (take_next d st f); stamp = suc g })
        × EachIs (IsDatum d (entry_at (shown d w m).order) (state_at d n (shown d w m))) (served_one d v st f (requestor (entry_at (shown d w m).order g)) (suc g))
    moves = answer_told d b.whole b.shaped n (shown d w m) c st g f faithful answer

    own : (shown d x2 m2).core c ≡ record (told_of (m c) (core w c)) { seen = suc g; stand = Level (take_next d st f); stamp = suc g }
    own = told_same d w m c y (record { seen = suc g; last = (m c).last }) rs w.done inside
        ∙ told_as (record (told_of (m c) (core w c)) { seen = suc g; stand = Level (take_next d st f); stamp = suc g }) (told_of (record { seen = suc g; last = (m c).last }) y) refl refl
        (ap (λ q. not q && is_none (core w c).slot) (base_stable d (core w c).line.desc t.next)) (level_next d (core w c).line.desc t.next h.level ∙ ap Level (sym next)) refl fw.stamp

    others : (z : ℕ) → z ≢ c → (shown d x2 m2).core z ≡ (shown d w m).core z
    others z other = told_other d w m c z y (record { seen = suc g; last = (m c).last }) rs w.done other

    asks : requestor (entry_at (shown d w m).order g) ≡ r
    asks = requestor_is d p _ _ b.bridge g hd.inside ∙ sym fw.asker

    same_data : served_one d v st f (requestor (entry_at (shown d w m).order g)) (suc g) ≡ data_of (owner_sends d f a r v i k)
    same_data = sends_answer d st f a v i r k (requestor (entry_at (shown d w m).order g)) (suc g) gives asks (sym fw.stamp)

    -- a share is the last entry
    word_now : v ≡ (state_at d n (shown d w m) (suc g)).word
    word_now = let first = (subst (EachIs (IsDatum d (entry_at (shown d w m).order) (state_at d n (shown d w m)))) same_data moves.1).0 in (first g fw.stamp).0

    writes : EachIs (λ z. z ≡ (state_at d n (shown d w m) (top_of (shown d w m))).word) (words_of rs)
    writes = subst (EachIs (λ z. z ≡ (state_at d n (shown d w m) (top_of (shown d w m))).word)) (sym (words-append w.replies (owner_sends d f a r v i k)))
        (each_is-append (λ z. z ≡ (state_at d n (shown d w m) (top_of (shown d w m))).word) (words_of w.replies) (words_of (written_back (has_class Share d f) v k)) faithful.written (back (has_class Share d f) refl))
      where
        back : (q : Bool) → has_class Share d f ≡ q → EachIs (λ z. z ≡ (state_at d n (shown d w m) (top_of (shown d w m))).word) (words_of (written_back q v k))
        back false is = tt
        back true is =
            let at_top = b.orderly.waiting.shares g f hd.inside un on.passed is in
            (word_now ∙ ap (λ j. (state_at d n (shown d w m) j).word) (at_top ∙ sym b.top), tt)

    -- none is clean that wasn't
    fewer : (z : ℕ) → is_clean d x2 z ≡ true → is_clean d w z ≡ true
    fewer z clean = by (z == c) refl
      where
        -- the new data doesn't clean
        new_not : (z : ℕ) (u : Desc) → cleans d z u (Data a r v i k) ≡ true → ⊥
        new_not z u q = let q2 = (cleans_load d b.shaped z u a r v i k q).memory in let from = sent_reply d st f a t h.take h.gives in cc (q2, from)

        back_not : (z : ℕ) (u : Desc) (q : Bool) → some_cleans d z u (written_back q v k) ≡ false
        back_not z u true = refl
        back_not z u false = refl

        old : (z : ℕ) (u : Desc) (xs : List Reply) → some_cleans d z u (xs ++ owner_sends d f a r v i k) ≡ true → some_cleans d z u xs ≡ true
        old z u [] q = absurd (at (cleans d z u (Data a r v i k)) refl q)
          where
            at : (p : Bool) → cleans d z u (Data a r v i k) ≡ p → (p || some_cleans d z u (written_back (has_class Share d f) v k)) ≡ true → ⊥
            at true is q = new_not z u is
            at false is q = let none = back_not z u (has_class Share d f) in cc (none, q)
        old z u (e ∷ xs) q = at (cleans d z u e) q (old z u xs)
          where
            at : (p : Bool) → (p || some_cleans d z u (xs ++ owner_sends d f a r v i k)) ≡ true → (some_cleans d z u (xs ++ owner_sends d f a r v i k) ≡ true → some_cleans d z u xs ≡ true) → (p || some_cleans d z u xs) ≡ true
            at true q more = refl
            at false q more = more q

        own_clean : is_clean_core d c y rs ≡ true → is_clean_core d c (core w c) w.replies ≡ true
        own_clean q = elim (clean_is d c y rs q) [
          | inl (rests, (s, at_level, clean)) ↦
              let same : t.next ≡ s = same_level t.next s (ap level_in (sym (level_next d (core w c).line.desc t.next h.level)) ∙ at_level) in
              let was = next_clean d b.shaped st f t h.take (owner_class d n (p.dir_entry g) (p.at g) c f (b.known.handled g hd.inside) fw.other on.owner fw.sends) (subst (λ s. is_clean_state d s ≡ true) (sym same) clean) in
              clean_from d c (core w c) w.replies (inl (ap (λ q. not q && is_none (core w c).slot) (sym (base_stable d (core w c).line.desc t.next)) ∙ rests, (st, ap level_in level, was)))
          | inr (inl some) ↦ absurd (let none = load_cleans d b.shaped c y.line.desc rs (level_event d (core w c).line.desc t.next h.level) in cc (none, some))
          | inr (inr leaves) ↦ clean_from d c (core w c) w.replies (inr (inr leaves))
        ]
          where
            same_level : (t s : ℕ) → level_in (Level t) ≡ Some s → t ≡ s
            same_level t s e = cc

        other_clean : (core w z ≡ core x2 z) → is_clean d w z ≡ true
        other_clean same = elim (clean_is d z (core x2 z) rs clean) [
          | inl (rests, (s, at_level, clean)) ↦ clean_from d z (core w z) w.replies (inl (ap is_pending same ∙ rests, (s, ap (λ (u : net.Core). level_in (stand_of u.line.desc)) same ∙ at_level, clean)))
          | inr (inl some) ↦ clean_from d z (core w z) w.replies (inr (inl (ap (λ (u : net.Core). some_cleans d z u.line.desc w.replies) same ∙ old z (core x2 z).line.desc w.replies some)))
          | inr (inr leaves) ↦ clean_from d z (core w z) w.replies (inr (inr (ap (λ (u : net.Core). leaves_clean u.slot) same ∙ leaves)))
        ]

        by : (q : Bool) → (z == c) ≡ q → is_clean d w z ≡ true
        by true is = subst (λ z. is_clean d w z ≡ true) (sym (eqb-true z c is))
            (own_clean (ap (λ u. is_clean_core d c u rs) (sym (core_same c y rs w.done w inside)) ∙ subst (λ z. is_clean d x2 z ≡ true) (eqb-true z c is) clean))
        by false is = other_clean (sym (core_other c z y rs w.done w (ne_eq c z (λ q. let e = eq-eqb z c q in cc (e, is)))))
