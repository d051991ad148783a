-- A forward that is later than the operation of a core is put off.
use Rattle.std.proofs.Common.{◌≡◌, ℕ, suc, ◌+◌, ◌-◌, ◌<◌, ◌≤◌, arith, Bool, true, false, not, cond, List, [], ◌∷◌, ◌++◌, Option, Some, None, refl, sym, ap, ◌∙◌, ◌⊎◌, inl, inr}
use Rattle.std.specs.Prelude.{◌==◌, filter, if◌then◌else◌}
use Rattle.std.proofs.lemmas.Bool.{eqb-true}
use Rattle.std.proofs.lemmas.List.Elements.{filter-append}
use Rattle.pg_perm.specs.declared.kinds.Event.{Event}
use Rattle.pg_perm.specs.declared.kinds.FwdClass.TheVariants.{Inv, Share, Keep}
use Rattle.pg_perm.specs.declared.draft.Draft.{Draft}
use Rattle.pg_terms.specs.Terms.{has_class}
use Rattle.pg_table.specs.declared.cache.Desc.TheVariants.{Ask}
use Rattle.pg_table.specs.declared.cache.Phase.{Phase}
use Rattle.pg_table.specs.declared.cache.Phase.TheVariants.{D, Ad, Ac, A}
use Rattle.pg_table.specs.declared.cache.Tag.{Tag}
use Rattle.pg_table.specs.declared.cache.Tag.TheVariants.{Plain, Kept, Gave, Gone}
use Rattle.pg_table.specs.Choices.{is_later, tag_by}
use Rattle.pg_messages.specs.declared.messages.Ordered.{Ordered}
use Rattle.pg_messages.specs.declared.messages.Ordered.TheVariants.{Forward, AckCount, PutAck}
use Rattle.pg_order.specs.Messages.{put, sent_between}
use Rattle.pg_order.specs.Orders.{DirOrder, entry_message, acks_needed}
use Rattle.pg_order.proofs.Known.{IsKnown, known}
use Rattle.pg_order.proofs.Between.{between-append, between-quiet}
use Rattle.pg_order.proofs.Quiet.{unchanged}
use Rattle.pg_controllers.specs.Networks.{Line, Core}
use Rattle.pg_orderly.specs.Orderly.{Mark, tag_from, is_deferred, IsLevel, IsOrdered, IsFirstPhase, IsPhase, IsAhead, is_ahead, MayBegin, IsNeed, IsPlaced}

-- Tags

abbrev pub MayFollow : Draft → Tag → ℕ → Type 0
MayFollow d t f = (t ≡ Plain) ⊎ ((t ≡ Kept) × (has_class Inv d f ≡ false))

pub may_follow : (d : Draft) (s : ℕ) (e : Event) (t : Tag) (f : ℕ) → is_later d s e t f ≡ true → has_class Inv d f ≡ false → MayFollow d t f
may_follow d s e Plain f h not_inv = inl refl
may_follow d s e Kept f h not_inv = inr (refl, not_inv)
may_follow d s e Gave f h not_inv = cc
may_follow d s e Gone f h not_inv = cc

pub tag_more : (d : Draft) (t u : Tag) (ms : List Ordered) (f r n k : ℕ) → tag_from d t ms ≡ Some u → MayFollow d u f → tag_from d t (ms ++ Forward f r n k ∷ []) ≡ Some (tag_by d f)
tag_more d Plain u [] f r n k h may = refl
tag_more d Kept u [] f r n k h (inl e) = cc
tag_more d Kept u [] f r n k h (inr (e, not_inv)) = rw not_inv refl
tag_more d Gave u [] f r n k h (inl e) = cc
tag_more d Gave u [] f r n k h (inr (e, not_inv)) = cc
tag_more d Gone u [] f r n k h (inl e) = cc
tag_more d Gone u [] f r n k h (inr (e, not_inv)) = cc
tag_more d Plain u (Forward g q i j ∷ ms) f r n k h may = tag_more d (tag_by d g) u ms f r n k h may
tag_more d Plain u (AckCount i j ∷ ms) f r n k h may = cc
tag_more d Plain u (PutAck j ∷ ms) f r n k h may = cc
tag_more d Kept u (Forward g q i j ∷ ms) f r n k h may = at (has_class Inv d g) h (λ h. tag_more d (tag_by d g) u ms f r n k h may)
  where
    at : (b : Bool) → (if b then None else tag_from d (tag_by d g) ms) ≡ Some u → (tag_from d (tag_by d g) ms ≡ Some u → tag_from d (tag_by d g) (ms ++ Forward f r n k ∷ []) ≡ Some (tag_by d f))
        → (if b then None else tag_from d (tag_by d g) (ms ++ Forward f r n k ∷ [])) ≡ Some (tag_by d f)
    at true h below = cc
    at false h below = below h
tag_more d Kept u (AckCount i j ∷ ms) f r n k h may = cc
tag_more d Kept u (PutAck j ∷ ms) f r n k h may = cc
tag_more d Gave u (m ∷ ms) f r n k h may = cc
tag_more d Gone u (m ∷ ms) f r n k h may = cc

pub ahead_by : (d : Draft) (ph : Phase) (f : ℕ) → is_ahead ph (tag_by d f) ≡ true
ahead_by d ph f = at ph (has_class Share d f) (has_class Keep d f)
  where
    at : (ph : Phase) (a b : Bool) → is_ahead ph (if a then Gave else if b then Kept else Gone) ≡ true
    at A a b = refl
    at D true b = refl
    at D false true = refl
    at D false false = refl
    at Ad true b = refl
    at Ad false true = refl
    at Ad false false = refl
    at Ac true b = refl
    at Ac false true = refl
    at Ac false false = refl

-- The line

-- the line with the forward put off
abbrev pub put_off : Draft → Line → Event → ℕ → Phase → Ordered → ℕ → Line
put_off d l e s ph m f = record l { desc = Ask e s ph (tag_by d f); deferred = l.deferred ++ m ∷ [] }

-- from entry a on nothing comes but this message, of entry g
one_message : (to : ℕ → Option Ordered) (a g : ℕ) (m : Ordered) → a ≤ g → ((j : ℕ) → a ≤ j → j < g → to j ≡ None) → to g ≡ Some m
    → (k : ℕ) × (a + k ≡ suc g) × (sent_between to a k ≡ m ∷ [])
one_message to a g m low quiet sends =
    let k : ℕ = g - a in
    let at : a + k ≡ g = omega (arith, low) in
    (k + 1, omega (arith, at), between-append to a k 1 g (k + 1) refl at ∙ ap (λ xs. xs ++ put (to g) []) (between-quiet to a k (λ j lo hi. quiet j lo (omega (arith, hi, at)))) ∙ ap (λ o. put o []) sends)

kept_need : (ph : Phase) (n : ℕ) (l : Line) (x : Line) → x.need ≡ l.need → x.got ≡ l.got → IsNeed ph n l → IsNeed ph n x
kept_need D n l x need got h = need ∙ h
kept_need Ad n l x need got h = need ∙ h
kept_need Ac n l x need got h = need ∙ h
kept_need A n l x need got h = (need ∙ h.0, λ e. h.1 (sym got ∙ e))

-- a line that is ahead takes one more
pub ahead_more : (d : Draft) (p : DirOrder) (c g : ℕ) (l : Line) (m : Mark) (e : Event) (s : ℕ) (ph : Phase) (t : Tag) (f r i k : ℕ) → IsAhead d p c l m e s ph t → m.seen ≤ g
    → ((j : ℕ) → m.seen ≤ j → j < g → entry_message d p c j ≡ None) → entry_message d p c g ≡ Some (Forward f r i k) → MayFollow d t f → has_class Inv d f ≡ false
    → IsAhead d p c (put_off d l e s ph (Forward f r i k) f) (record { seen = suc g; last = m.last }) e s ph (tag_by d f)
ahead_more d p c g l m e s ph t f r i k a low quiet sends may not_inv =
    let (z, sum, one) = one_message (entry_message d p c) m.seen g (Forward f r i k) low quiet sends in
    let upto = a.upto in
    let all : sent_between (entry_message d p c) m.last (a.past + z) ≡ sent_between (entry_message d p c) m.last a.past ++ Forward f r i k ∷ [] =
    between-append (entry_message d p c) m.last a.past z m.seen (a.past + z) refl upto ∙ ap (λ xs. sent_between (entry_message d p c) m.last a.past ++ xs) one in
    record {
      ordered = record { entry = a.ordered.entry; last = a.ordered.last; event = a.ordered.event };
      past = a.past + z;
      upto = omega (arith, upto, sum);
      state = a.state;
      phase = a.phase;
      tag = ap (tag_from d Plain) all ∙ tag_more d Plain t (sent_between (entry_message d p c) m.last a.past) f r i k a.tag may;
      deferred = ap (λ xs. xs ++ Forward f r i k ∷ []) a.deferred
          ∙ sym (ap (filter (is_deferred d)) all ∙ filter-append (is_deferred d) (sent_between (entry_message d p c) m.last a.past) (Forward f r i k ∷ []) ∙ ap (λ b. filter (is_deferred d) (sent_between (entry_message d p c) m.last a.past) ++ cond (not b) (Forward f r i k ∷ []) []) not_inv);
      need = kept_need ph (acks_needed (p.dir_entry a.ordered.entry) (p.at a.ordered.entry)) l (put_off d l e s ph (Forward f r i k) f) refl refl a.need;
    }

level_need : (ph : Phase) (n : ℕ) (l : Line) → IsFirstPhase ph → l.need ≡ None → IsNeed ph n l
level_need D n l h e = e
level_need Ad n l h e = e
level_need Ac n l h e = absurd h
level_need A n l h e = absurd h

first_is : (d : Draft) (e : Event) (s : ℕ) (ph : Phase) → IsFirstPhase ph → MayBegin d e s ph → IsPhase d e s ph
first_is d e s D h b = (b, h)
first_is d e s Ad h b = (b, h)
first_is d e s Ac h b = absurd h
first_is d e s A h b = absurd h

-- a line that is level takes its first
pub ahead_first : (d : Draft) (n : ℕ) (p : DirOrder) → IsKnown d n p → (c g : ℕ) (x : Core) (m : Mark) (e : Event) (s : ℕ) (ph : Phase) (f r i k : ℕ) → IsPlaced d p c x m → g < p.top
    → IsLevel d p c x.line m s → MayBegin d e s ph → IsFirstPhase ph → (o : IsOrdered p m e) → m.seen < m.last → m.last ≤ g
    → ((j : ℕ) → m.seen ≤ j → j < g → entry_message d p c j ≡ None) → entry_message d p c g ≡ Some (Forward f r i k) → has_class Inv d f ≡ false
    → IsAhead d p c (put_off d x.line e s ph (Forward f r i k) f) (record { seen = suc g; last = m.last }) e s ph (tag_by d f)
ahead_first d n p known c g x m e s ph f r i k pl inside lv begins first o behind later quiet sends not_inv =
    let last = o.last in
    let (z, sum, one) = one_message (entry_message d p c) m.last g (Forward f r i k) later (λ j lo hi. quiet j (omega (arith, lo, behind)) hi) sends in
    let same = unchanged d n p known c m.seen o.entry (omega (arith, last, behind)) (omega (arith, last, later, inside))
    (λ j lo hi. others j lo hi ((p.at j).core == c) refl) (λ j lo hi. quiet j lo (omega (arith, hi, last, later))) in
    record {
      ordered = record { entry = o.entry; last = o.last; event = o.event };
      past = z;
      upto = sum;
      state = same.fits s lv.state;
      phase = first_is d e s ph first begins;
      tag = ap (tag_from d Plain) one;
      deferred = ap (λ xs. xs ++ Forward f r i k ∷ []) lv.deferred ∙ sym (ap (filter (is_deferred d)) one ∙ ap (λ b. cond (not b) (Forward f r i k ∷ []) []) not_inv);
      need = level_need ph (acks_needed (p.dir_entry o.entry) (p.at o.entry)) (put_off d x.line e s ph (Forward f r i k) f) first lv.need;
    }
  where
    others : (j : ℕ) → m.seen ≤ j → j < o.entry → (b : Bool) → ((p.at j).core == c) ≡ b → ((p.at j).core == c) ≡ false
    others j lo hi true own = let last = o.last in let viewed = pl.gap j (omega (arith, hi, last)) (eqb-true (p.at j).core c own) in absurd (omega (arith, viewed, lo))
    others j lo hi false ne = ne
