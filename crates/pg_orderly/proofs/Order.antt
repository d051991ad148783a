-- A world stays orderly when the directory handles a request.
use Rattle.std.proofs.Common.{◌≡◌, ℕ, suc, ◌+◌, ◌<◌, ◌≤◌, arith, Bool, true, false, [], ◌++◌, Option, Some, None, refl, sym, ap, subst, ◌∙◌, ◌⊎◌, inl, inr}
use Rattle.std.specs.Prelude.{◌==◌, nat_lt, filter, is_none, is_some}
use Rattle.std.proofs.lemmas.Bool.{eqb-false}
use Rattle.pg_perm.specs.declared.kinds.Event.{Event}
use Rattle.pg_perm.specs.declared.kinds.Event.TheVariants.{Load, Store, Evict}
use Rattle.pg_perm.specs.declared.draft.Draft.{Draft}
use Rattle.pg_terms.specs.Terms.{has_class}
use Rattle.pg_directory.specs.DirEntries.{Request}
use Rattle.pg_directory.specs.Sound.{fits}
use Rattle.pg_table.specs.declared.cache.Desc.{Desc}
use Rattle.pg_table.specs.declared.cache.Desc.TheVariants.{Stable, Ask, Leave}
use Rattle.pg_table.specs.declared.cache.Phase.{Phase}
use Rattle.pg_table.specs.declared.cache.Phase.TheVariants.{Ad, Ac}
use Rattle.pg_table.specs.declared.cache.Tag.{Tag}
use Rattle.pg_table.specs.declared.cache.Tag.TheVariants.{Plain}
use Rattle.pg_table.specs.Descriptors.{store_phase}
use Rattle.pg_order.specs.Messages.{put, sent_between}
use Rattle.pg_order.specs.Orders.{DirOrder, acks_needed, entry_message}
use Rattle.pg_order.proofs.Appended.{IsAppended, message_old, between_same, between_more}
use Rattle.pg_messages.specs.declared.messages.Ask.{Ask as SentRequest}
use Rattle.pg_controllers.specs.Networks.{Line, Core}
use Rattle.pg_orderly.specs.Orderly.{Mark, Touches, MayBegin, tag_from, is_deferred, IsLevel, IsOrdered, IsNeed, IsAhead, is_ahead, IsAsking, IsLined, IsPlaced}

-- One core, when an entry is appended

level_more : (d : Draft) (p : DirOrder) (q : Request) (r : DirOrder) → IsAppended d p q r → (c : ℕ) (l : Line) (m : Mark) (s : ℕ) → m.seen ≤ p.top → IsLevel d p c l m s → IsLevel d r c l m s
level_more d p q r a c l m s low h = record { need = h.need; deferred = h.deferred; state = ap (λ t. fits d t c s) (a.dir_entry m.seen low) ∙ h.state }

ordered_more : (d : Draft) (p : DirOrder) (q : Request) (r : DirOrder) → IsAppended d p q r → (m : Mark) (e : Event) → m.last ≤ p.top → IsOrdered p m e → IsOrdered r m e
ordered_more d p q r a m e low h =
    let last = h.last in
    record { entry = h.entry; last = h.last; event = ap (λ (x : Request). x.event) (a.at h.entry (omega (arith, last, low))) ∙ h.event }

ahead_still : (d : Draft) (p : DirOrder) (q : Request) (r : DirOrder) → IsAppended d p q r → (c : ℕ) (l : Line) (m : Mark) (e : Event) (s : ℕ) (ph : Phase) (t : Tag) → m.seen ≤ p.top → m.last ≤ p.top
    → IsAhead d p c l m e s ph t → IsAhead d r c l m e s ph t
ahead_still d p q r a c l m e s ph t low lower h =
    let upto = h.upto in
    let last = h.ordered.last in
    let inside : h.ordered.entry < p.top = omega (arith, last, lower) in
    let same : sent_between (entry_message d r c) m.last h.past ≡ sent_between (entry_message d p c) m.last h.past = between_same (entry_message d r c) (entry_message d p c) m.last h.past (λ j lo hi. message_old d p q r a c j (omega (arith, hi, upto, low))) in
    record {
      ordered = record { entry = h.ordered.entry; last = h.ordered.last; event = ap (λ (x : Request). x.event) (a.at h.ordered.entry inside) ∙ h.ordered.event };
      past = h.past;
      upto = h.upto;
      state = ap (λ t. fits d t c s) (a.dir_entry h.ordered.entry (omega (arith, inside))) ∙ h.state;
      phase = h.phase;
      tag = ap (tag_from d Plain) same ∙ h.tag;
      deferred = h.deferred ∙ ap (filter (is_deferred d)) (sym same);
      need = subst (λ n. IsNeed ph n l) (sym (ap (λ s. acks_needed s (r.at h.ordered.entry)) (a.dir_entry h.ordered.entry (omega (arith, inside))) ∙ ap (acks_needed (p.dir_entry h.ordered.entry)) (a.at h.ordered.entry inside))) h.need;
    }

asking_more : (d : Draft) (p : DirOrder) (q : Request) (r : DirOrder) → IsAppended d p q r → (c : ℕ) (l : Line) (m : Mark) (e : Event) (s : ℕ) (ph : Phase) (t : Tag) (b : Bool) → m.seen ≤ p.top → m.last ≤ p.top
    → IsAsking d p c l m e s ph t b → IsAsking d r c l m e s ph t b
asking_more d p q r a c l m e s ph t true low lower h = ahead_still d p q r a c l m e s ph t low lower h
asking_more d p q r a c l m e s ph t false low lower h = (level_more d p q r a c l m s low h.0, h.1, ordered_more d p q r a m e lower h.2, h.3)

pub lined_more : (d : Draft) (p : DirOrder) (q : Request) (r : DirOrder) → IsAppended d p q r → (c : ℕ) (l : Line) (m : Mark) (s : Desc) (slot : Option SentRequest) → m.seen ≤ p.top → m.last ≤ p.top
    → IsLined d p c l m s slot → IsLined d r c l m s slot
lined_more d p q r a c l m (Stable s) None low lower h = (level_more d p q r a c l m s low h.0, h.1, h.2)
lined_more d p q r a c l m (Stable s) (Some k) low lower h = h
lined_more d p q r a c l m (Ask e s ph t) None low lower h = (h.0, asking_more d p q r a c l m e s ph t (is_ahead ph t) low lower h.1)
lined_more d p q r a c l m (Ask e s ph t) (Some k) low lower h = (h.0, level_more d p q r a c l m s low h.1, h.2, h.3, h.4, h.5)
lined_more d p q r a c l m (Leave s) None low lower h = (h.0, level_more d p q r a c l m s low h.1, ordered_more d p q r a m Evict lower h.2, h.3)
lined_more d p q r a c l m (Leave s) (Some k) low lower h = (h.0, level_more d p q r a c l m s low h.1, h.2, h.3)

-- its own operation now stands in the order
asked_ordered : (d : Draft) (p : DirOrder) (c : ℕ) (q : Request) (r : DirOrder) → IsAppended d p q r → (l : Line) (m : Mark) (s : Desc) (k : SentRequest) → m.seen ≤ p.top → q.event ≡ k.event → IsLined d p c l m s (Some k)
    → IsLined d r c l (record { seen = m.seen; last = suc p.top }) s None
asked_ordered d p c q r a l m (Stable s) k low is h = absurd h
asked_ordered d p c q r a l m (Ask e s ph t) k low is h =
    let lv = level_more d p q r a c l m s low h.1 in
    let event : (r.at p.top).event ≡ e = ap (λ (x : Request). x.event) a.new ∙ is ∙ h.4 in
    let ordered : IsOrdered r (record { seen = m.seen; last = suc p.top }) e = record { entry = p.top; last = refl; event = event } in (
      h.0,
      subst (IsAsking d r c l (record { seen = m.seen; last = suc p.top }) e s ph t) (sym (level ph t h.3 e s h.2))
          (record { need = lv.need; deferred = lv.deferred; state = lv.state }, h.2, ordered, omega (arith, low)),
    )
  where
    first : (s : ℕ) → is_ahead (store_phase d s) Plain ≡ false
    first s = at (Rattle.pg_terms.specs.Terms.cache_is (λ c. Rattle.pg_terms.specs.Terms.is_owner c.role) d s)
      where
        at : (b : Bool) → is_ahead (Rattle.std.specs.Prelude.if◌then◌else◌ b Ac Ad) Plain ≡ false
        at true = refl
        at false = refl

    level : (ph : Phase) (t : Tag) → t ≡ Plain → (e : Event) (s : ℕ) → MayBegin d e s ph → is_ahead ph t ≡ false
    level ph t plain Load s b = rw (plain, b.1) refl
    level ph t plain Store s b = rw (plain, b.1) (first s)
    level ph t plain Evict s b = absurd b
asked_ordered d p c q r a l m (Leave s) k low is h =
    let lv = level_more d p q r a c l m s low h.1 in
    (h.0, record { need = lv.need; deferred = lv.deferred; state = lv.state }, record { entry = p.top; last = refl; event = ap (λ (x : Request). x.event) a.new ∙ is ∙ h.2 }, omega (arith, low))

seen_low : (d : Draft) (p : DirOrder) (c : ℕ) (x : Core) (m : Mark) → IsPlaced d p c x m → m.seen ≤ p.top
seen_low d p c x m h = let upto = h.upto in omega (arith, upto)

-- a core that is sent what the entry sends it
abbrev pub mailed : Draft → DirOrder → ℕ → ℕ → Core → Core
mailed d r j e x = record { line = x.line; left = x.left; slot = x.slot; queue = x.queue ++ put (entry_message d r e j) [] }

touches_more : (d : Draft) (p : DirOrder) (q : Request) (r : DirOrder) → IsAppended d p q r → (c j : ℕ) → j < p.top → Touches d p c j → Touches d r c j
touches_more d p q r a c j low (inl own) = inl (ap (λ (x : Request). x.core) (a.at j low) ∙ own)
touches_more d p q r a c j low (inr (m, sends)) = inr (m, message_old d p q r a c j low ∙ sends)

pub placed_other : (d : Draft) (p : DirOrder) (q : Request) (r : DirOrder) → IsAppended d p q r → (e : ℕ) (x : Core) (m : Mark) → (q.core == e) ≡ false → IsPlaced d p e x m → IsPlaced d r e (mailed d r p.top e x) m
placed_other d p q r a e x m ne h =
    let low = seen_low d p e x m h in
    let lower = h.last_low in
    let top = a.top in
    let upto = h.upto in
    record {
      last_low = omega (arith, lower, top);
      last_own = λ j is. ap (λ (x : Request). x.core) (a.at j (omega (arith, is, lower))) ∙ h.last_own j is;
      last_is = λ j b own. elim (let split : (j < p.top) ⊎ (j ≡ p.top) = search arith in split) [
        | inl old ↦ h.last_is j old (sym (ap (λ (x : Request). x.core) (a.at j old)) ∙ own)
        | inr is ↦ absurd (let mine = subst (λ j. (r.at j).core ≡ e) is own in let core = ap (λ (x : Request). x.core) a.new in eqb-false q.core e ne (sym core ∙ mine))
      ];
      touched = λ j is. touches_more d p q r a e j (omega (arith, is, low)) (h.touched j is);
      gap = λ j b own. h.gap j b (sym (ap (λ (x : Request). x.core) (a.at j (omega (arith, b, lower)))) ∙ own);
      rest = h.rest + 1;
      upto = omega (arith, upto, top);
      queue = ap (λ xs. xs ++ put (entry_message d r e p.top) []) h.queue ∙ sym (between_more d p q r a e m.seen h.rest upto);
      line = lined_more d p q r a e x.line m x.line.desc x.slot low lower h.line;
    }

abbrev pub asked_off : Draft → DirOrder → ℕ → ℕ → Core → Core
asked_off d r j e x = record { line = x.line; left = x.left; slot = None; queue = x.queue ++ put (entry_message d r e j) [] }

pub asked_after : (d : Draft) (p : DirOrder) (c : ℕ) (l : Line) (m : Mark) (s : Desc) (k : SentRequest) → IsLined d p c l m s (Some k) → m.last ≤ m.seen
asked_after d p c l m (Stable s) k h = absurd h
asked_after d p c l m (Ask e s ph t) k h = h.5
asked_after d p c l m (Leave s) k h = h.3

pub placed_own : (d : Draft) (p : DirOrder) (q : Request) (r : DirOrder) → IsAppended d p q r → (c : ℕ) (x : Core) (m : Mark) (k : SentRequest) → q.core ≡ c → q.event ≡ k.event → x.slot ≡ Some k
    → IsPlaced d p c x m → IsPlaced d r c (asked_off d r p.top c x) (record { seen = m.seen; last = suc p.top })
placed_own d p q r a c x m k own event slot h =
    let low = seen_low d p c x m h in
    let lower = h.last_low in
    let top = a.top in
    let upto = h.upto in
    let line : IsLined d p c x.line m x.line.desc (Some k) = subst (IsLined d p c x.line m x.line.desc) slot h.line in
    let behind = asked_after d p c x.line m x.line.desc k line in
    record {
      last_low = omega (arith, top);
      last_own = λ j is. let same : p.top ≡ j = omega (arith, is) in subst (λ j. (r.at j).core ≡ c) same (ap (λ (x : Request). x.core) a.new ∙ own);
      last_is = λ j b mine. omega (arith, b, top);
      touched = λ j is. touches_more d p q r a c j (omega (arith, is, low)) (h.touched j is);
      gap = λ j b mine. let before = h.last_is j (omega (arith, b)) (sym (ap (λ (x : Request). x.core) (a.at j (omega (arith, b)))) ∙ mine) in omega (arith, before, behind);
      rest = h.rest + 1;
      upto = omega (arith, upto, top);
      queue = ap (λ xs. xs ++ put (entry_message d r c p.top) []) h.queue ∙ sym (between_more d p q r a c m.seen h.rest upto);
      line = asked_ordered d p c q r a x.line m x.line.desc k low event line;
    }
