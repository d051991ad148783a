-- A line asks, and what is written back reaches the directory.
use Rattle.std.proofs.Common.{◌≡◌, ◌≢◌, ℕ, ◌<◌, ◌≤◌, arith, Bool, true, false, ◌&&◌, not, Option, Some, None, refl, sym, ap, subst, ◌∙◌, inl, inr}
use Rattle.std.specs.Prelude.{◌==◌, is_none, slice_get, if◌then◌else◌}
use Rattle.std.specs.List.{remove}
use Rattle.std.specs.Option.{option_and_then}
use Rattle.std.proofs.lemmas.Bool.{eqb-true}
use Rattle.pg_perm.specs.declared.kinds.Event.{Event}
use Rattle.pg_perm.specs.declared.kinds.Event.TheVariants as event
use Rattle.pg_perm.specs.declared.kinds.ReqClass.TheVariants.{Dirty}
use Rattle.pg_perm.specs.declared.kinds.Who.{Who}
use Rattle.pg_perm.specs.declared.kinds.Who.TheVariants.{Other, Sharer, Owner}
use Rattle.pg_perm.specs.declared.draft.Draft.{Draft}
use Rattle.pg_perm.specs.declared.draft.CacheLine.{CacheLine}
use Rattle.pg_perm.specs.declared.draft.CoreLine.{CoreLine}
use Rattle.pg_perm.specs.declared.draft.CoreForm.{CoreForm}
use Rattle.pg_perm.specs.declared.draft.CoreForm.TheVariants as form
use Rattle.pg_terms.specs.Terms.{cache_is, core_row, is_owner}
use Rattle.pg_terms.specs.Rows.{allows}
use Rattle.pg_shape.specs.CoreRules.{asks_class}
use Rattle.pg_shape.specs.Shaped.{IsCache, IsShaped}
use Rattle.pg_directory.specs.DirEntries.{DirEntry, who}
use Rattle.pg_directory.specs.Sound.{fits, fits_as}
use Rattle.pg_directory.proofs.Holders.{who_of_owner as owns_it}
use Rattle.pg_atomic.proofs.Fits.{cache_at, owner_line, owner_loads, shared_loads}
use Rattle.pg_table.specs.declared.cache.Desc.{Desc}
use Rattle.pg_table.specs.declared.cache.Desc.TheVariants.{Stable, Ask, Leave}
use Rattle.pg_table.specs.declared.cache.Phase.TheVariants.{D, Ad, Ac}
use Rattle.pg_table.specs.declared.cache.Tag.TheVariants.{Plain}
use Rattle.pg_table.specs.Choices.{evict_request_in}
use Rattle.pg_table.specs.Descriptors.{out_state, store_phase}
use Rattle.pg_order.specs.Orders.{DirOrder}
use Rattle.pg_messages.specs.declared.messages.Ask.{Ask as SentRequest}
use Rattle.pg_controllers.specs.Networks as net
use Rattle.pg_messages.specs.declared.messages.Reply.TheVariants.{WbData}
use Rattle.pg_table.specs.declared.directory.DirDesc.{DirDesc}
use Rattle.pg_controllers.specs.Worlds.{World, core, order_of}
use Rattle.pg_orderly.specs.Orderly.{Mark, is_pending, IsPlaced}
use Rattle.pg_orderly.proofs.Keeping.{marked, moved}
use Rattle.pg_safe.proofs.Ends.{none_after}
use Rattle.pg_serial.specs.Serial.{entry_at}
use Rattle.pg_serial.specs.Faithful.{IsDatum, IsFaithful, IsTold, Level, state_at, top_of}
use Rattle.pg_serial.proofs.Rest.{emptied}
use Rattle.pg_refined.specs.Shown.{is_clean, is_clean_core, is_clean_state, leaves_clean, level_in, shown, stand_of, told_of}
use Rattle.pg_refined.proofs.Lines.{IsAtLevel, lined_level}
use Rattle.pg_refined.proofs.Data.{data_removed, no_cleans, word_at, words_removed}
use Rattle.pg_refined.proofs.Clean.{clean_is, clean_from, out_dirty}
use Rattle.pg_refined.proofs.Granted.{IsJoined}
use Rattle.pg_refined.proofs.Hits.{idle_none}
use Rattle.pg_refined.proofs.Ordered.{owned_since}
use Rattle.pg_refined.proofs.Completes.{all_of}
use Rattle.pg_refined.proofs.Moves.{told_again, told_as}
use Rattle.pg_refined.proofs.Rest.{line_moves}

-- where no mark moves
pub marks_still : (d : Draft) (n : ℕ) (w : World) (m : ℕ → Mark) (c : ℕ) → IsFaithful d n (shown d w (marked c (record { seen = (m c).seen; last = (m c).last }) m)) → IsFaithful d n (shown d w m)
marks_still d n w m c f = told_again d n (shown d w (marked c (record { seen = (m c).seen; last = (m c).last }) m)) (shown d w m).core (is_clean d w) f (λ e low. by e (c == e) refl) (λ e q. q)
  where
    by : (e : ℕ) (q : Bool) → (c == e) ≡ q → told_of (m e) (core w e) ≡ told_of (if c == e then record { seen = (m c).seen; last = (m c).last } else m e) (core w e)
    by e true is = sym (ap (λ (q : Bool). told_of (if q then record { seen = (m c).seen; last = (m c).last } else m e) (core w e)) is ∙ ap (λ z. told_of (m z) (core w e)) (eqb-true c e is))
    by e false is = sym (ap (λ (q : Bool). told_of (if q then record { seen = (m c).seen; last = (m c).last } else m e) (core w e)) is)

-- A line asks

abbrev pub asked_desc : Draft → ℕ → Event → Desc
asked_desc d s event.Load = Ask event.Load (out_state d) D Plain
asked_desc d s event.Store = Ask event.Store s (store_phase d s) Plain
asked_desc d s event.Evict = Leave s

pub record IsAsked (d : Draft) (w : World) (c s : ℕ) (e : Event) (q : ℕ) (a : SentRequest) (y : net.Core) : Type 0 where
  pub desc : (core w c).line.desc ≡ Stable s
  pub slot : (core w c).slot ≡ None
  pub lacks : e ≢ event.Evict → cache_is (allows e) d s ≡ false
  pub leaves : e ≡ event.Evict → option_and_then (λ (l : CoreLine). evict_request_in l.form) (core_row d s event.Evict) ≡ Some q
  pub asks : a.event ≡ e
  pub brings : a.word ≡ (if asks_class Dirty d q then Some (core w c).line.word else None)
  pub line : y.line.desc ≡ asked_desc d s e
  pub word : y.line.word ≡ (core w c).line.word
  pub stamp : y.line.stamp ≡ (core w c).line.stamp
  pub full : y.slot ≡ Some a

store_level : (d : Draft) (s : ℕ) → stand_of (Ask event.Store s (store_phase d s) Plain) ≡ Level s
store_level d s = at (cache_is (λ c. is_owner c.role) d s)
  where
    at : (b : Bool) → stand_of (Ask event.Store s (if b then Ac else Ad) Plain) ≡ Level s
    at true = refl
    at false = refl

-- who lacks permission and fits holds nothing, where the state is to be read
pub lacks_nothing : (d : Draft) (t : DirEntry) (c s : ℕ) → IsShaped d → fits d t c s ≡ true → cache_is (allows event.Load) d s ≡ false → who t c ≡ Other
lacks_nothing d t c s sh fit lacks = at (who t c) refl fit
  where
    at : (h : Who) → who t c ≡ h → fits_as d t.dir h s ≡ true → who t c ≡ Other
    at Other is f = is
    at Sharer is f = absurd (let may = shared_loads d sh s f in cc (may, lacks))
    at Owner is f = absurd (let may = owner_loads d sh t.dir s f in cc (may, lacks))

pub asked_told : (d : Draft) (n : ℕ) (w : World) (m : ℕ → Mark) (c s : ℕ) (e : Event) (q : ℕ) (a : SentRequest) (y : net.Core) → IsJoined d n w m → c < n → IsAsked d w c s e q a y → IsFaithful d n (shown d w m)
    → IsFaithful d n (shown d (moved c y w.replies w.done w) m)
asked_told d n w m c s e q a y b there h f =
    marks_still d n (moved c y w.replies w.done w) m c
    (line_moves d n w m c y (record { seen = (m c).seen; last = (m c).last }) w.replies b there (all_of d w.replies) (says e refl) own_clean f)
  where
    p : DirOrder
    p = order_of d w

    pl : IsPlaced d p c (core w c) (m c)
    pl = b.orderly.placed c there

    lv : IsAtLevel d p c (core w c).line (m c) (core w c).line.desc (core w c).slot s
    lv = lined_level d p c (core w c).line (m c) (core w c).line.desc (core w c).slot pl.line s (ap stand_of h.desc)

    idle : is_pending (core w c) ≡ false
    idle = rw h.desc refl

    viewed : (m c).seen ≤ p.top
    viewed = let upto = pl.upto in omega (arith, upto)

    full : is_pending y ≡ false
    full = ap (λ o. not (Rattle.pg_controllers.specs.Worlds.is_stable y.line.desc) && is_none o) h.full ∙ no (not (Rattle.pg_controllers.specs.Worlds.is_stable y.line.desc))
      where
        no : (b : Bool) → (b && false) ≡ false
        no true = refl
        no false = refl

    same : stand_of y.line.desc ≡ Level s → IsTold d n (shown d w m) c (told_of (record { seen = (m c).seen; last = (m c).last }) y)
    same level = subst (IsTold d n (shown d w m) c)
        (sym (told_as (told_of (m c) (core w c)) (told_of (record { seen = (m c).seen; last = (m c).last }) y) refl refl (full ∙ sym idle) (level ∙ sym (ap stand_of h.desc)) h.word h.stamp)) (f.cores c there)

    says : (z : Event) → e ≡ z → IsTold d n (shown d w m) c (told_of (record { seen = (m c).seen; last = (m c).last }) y)
    says event.Store is = same (ap stand_of h.line ∙ ap (λ e. stand_of (asked_desc d s e)) is ∙ store_level d s)
    says event.Evict is = same (ap stand_of h.line ∙ ap (λ e. stand_of (asked_desc d s e)) is)
    says event.Load is =
        let none = lacks_nothing d (p.dir_entry (m c).seen) c s b.shaped lv.level.state (ap (λ e. cache_is (allows e) d s) (sym is) ∙ h.lacks (λ z. cc (is, z))) in
        subst (IsTold d n (shown d w m) c)
        (sym (told_as (record (told_of (m c) (core w c)) { seen = (m c).seen; stand = Level (out_state d); word = y.line.word; stamp = y.line.stamp; pending = false }) (told_of (record { seen = (m c).seen; last = (m c).last }) y) refl refl full
        (ap stand_of h.line ∙ ap (λ e. stand_of (asked_desc d s e)) is) refl refl))
        (emptied d n (shown d w m) c (out_state d) (m c).seen y.line.word y.line.stamp false f there (omega arith) (λ z. absurd cc) (ap (λ (t : DirEntry). who t c) (b.bridge.dir_entries (m c).seen viewed) ∙ none))

    out_clean : is_clean_state d (out_state d) ≡ true → ⊥
    out_clean clean = let (o, is) = b.shaped.perms.start in let out_is : out_state d ≡ o = rw is refl in let dirty = out_dirty d b.shaped o is in let un = subst (λ z. is_clean_state d z ≡ false) (sym out_is) dirty in cc (clean, un)

    -- an owner whose evict brings no word is clean
    evicts_clean : (p.dir_entry p.top).owner ≡ Some c → e ≡ event.Evict → leaves_clean (Some a) ≡ true → is_clean_state d s ≡ true
    evicts_clean owner evict leaves = at (is_clean_state d s) refl
      where
        owns : who (p.dir_entry (m c).seen) c ≡ Owner
        owns = owns_it (p.dir_entry (m c).seen) c (owned_since d n p b.known c (m c).seen p.top (omega arith) (none_after d p c (core w c) (m c) pl (m c).seen p.top (lv.past idle) (omega arith)) owner (m c).seen (omega arith) viewed)

        role : (l : CacheLine) × IsCache d s l × (is_owner l.role ≡ true)
        role = owner_line d b.shaped (p.dir_entry (m c).seen).dir s (ap (λ h. fits_as d (p.dir_entry (m c).seen).dir h s) (sym owns) ∙ lv.level.state)

        leave : (x : CoreForm) → evict_request_in x ≡ Some q → x ≡ form.Leave q
        leave (form.Hit next) e = cc
        leave (form.Ask request pairs) e = cc
        leave (form.Leave request) e = ap form.Leave (cc)

        dirty : (o : Option CoreLine) → core_row d s event.Evict ≡ o → option_and_then (λ (l : CoreLine). evict_request_in l.form) o ≡ Some q → is_clean_state d s ≡ false → asks_class Dirty d q ≡ true
        dirty None row e un = cc
        dirty (Some x) row e un = b.shaped.cores.evict_dirty s q x role.0 role.1 role.2 (sym (cache_at (λ (c : CacheLine). c.clean) d s role.0 role.1) ∙ un) row (leave x.form e)

        brings : asks_class Dirty d q ≡ true → ⊥
        brings asks =
            let word : a.word ≡ Some (core w c).line.word = h.brings ∙ ap (λ (b : Bool). if b then Some (core w c).line.word else None) asks in
            not_clean (Rattle.pg_terms.specs.Terms.same_event a.event event.Evict) word leaves
          where
            not_clean : (z : Bool) → a.word ≡ Some (core w c).line.word → (z && is_none a.word) ≡ true → ⊥
            not_clean true word l = let none : is_none a.word ≡ false = rw word refl in cc (none, l)
            not_clean false word l = cc

        at : (b : Bool) → is_clean_state d s ≡ b → is_clean_state d s ≡ true
        at true is = is
        at false is = absurd (brings (dirty (core_row d s event.Evict) refl (h.leaves evict) is))

    own_clean : (p.dir_entry p.top).owner ≡ Some c → is_clean_core d c y w.replies ≡ true → is_clean d w c ≡ true
    own_clean owner z = elim (clean_is d c y w.replies z) [
      | inl (rests, (t, at_level, clean)) ↦ by e refl t at_level clean
      | inr (inl some) ↦ absurd (let none = no_cleans d c y.line.desc w.replies (idle_none d n w m b c there idle) in cc (none, some))
      | inr (inr leaves) ↦ left e refl (ap leaves_clean (sym h.full) ∙ leaves)
    ]
      where
        was : is_clean_state d s ≡ true → is_clean d w c ≡ true
        was clean = clean_from d c (core w c) w.replies (inl (idle, (s, ap (λ u. level_in (stand_of u)) h.desc, clean)))

        level_same : (t s : ℕ) → level_in (Level s) ≡ Some t → s ≡ t
        level_same t s e = cc

        by : (z : Event) → e ≡ z → (t : ℕ) → level_in (stand_of y.line.desc) ≡ Some t → is_clean_state d t ≡ true → is_clean d w c ≡ true
        by event.Load is t at_level clean = absurd (out_clean (subst (λ z. is_clean_state d z ≡ true) (sym (level_same t (out_state d) (ap level_in (sym (ap stand_of h.line ∙ ap (λ e. stand_of (asked_desc d s e)) is)) ∙ at_level))) clean))
        by event.Store is t at_level clean = was (subst (λ z. is_clean_state d z ≡ true) (sym (level_same t s (ap level_in (sym (ap stand_of h.line ∙ ap (λ e. stand_of (asked_desc d s e)) is ∙ store_level d s)) ∙ at_level))) clean)
        by event.Evict is t at_level clean = was (subst (λ z. is_clean_state d z ≡ true) (sym (level_same t s (ap level_in (sym (ap stand_of h.line ∙ ap (λ e. stand_of (asked_desc d s e)) is)) ∙ at_level))) clean)

        left : (z : Event) → e ≡ z → leaves_clean (Some a) ≡ true → is_clean d w c ≡ true
        left event.Evict is leaves = was (evicts_clean owner is leaves)
        left event.Load is leaves = absurd (let other : Rattle.pg_terms.specs.Terms.same_event a.event event.Evict ≡ false = rw (h.asks, is) refl in let none = ap (λ b. b && is_none a.word) (sym other) ∙ leaves in cc none)
        left event.Store is leaves = absurd (let other : Rattle.pg_terms.specs.Terms.same_event a.event event.Evict ≡ false = rw (h.asks, is) refl in let none = ap (λ b. b && is_none a.word) (sym other) ∙ leaves in cc none)

-- What is written back

abbrev pub wrote : World → ℕ → ℕ → DirDesc → World
wrote w i v x = record w { replies = remove w.replies i; directory = record w.directory { desc = x; memory = v } }

pub wrote_told : (d : Draft) (n : ℕ) (w : World) (m : ℕ → Mark) (i v k : ℕ) (x : DirDesc) → slice_get w.replies i ≡ Some (WbData v k) → IsFaithful d n (shown d w m) → IsFaithful d n (shown d (wrote w i v x) m)
wrote_told d n w m i v k x get f = record {
  run = f.run;
  cores = λ e there. let t = f.cores e there in record { seen = t.seen; waits = t.waits; rises = t.rises; tells = t.tells };
  replies = data_removed (IsDatum d (entry_at (shown d w m).order) (state_at d n (shown d w m))) w.replies i f.replies;
  written = words_removed (λ z. z ≡ (state_at d n (shown d w m) (top_of (shown d w m))).word) w.replies i f.written;
  memory = λ none free. word_at (λ z. z ≡ (state_at d n (shown d w m) (top_of (shown d w m))).word) w.replies i v k f.written get;
  clean = λ e owner clean. word_at (λ z. z ≡ (state_at d n (shown d w m) (top_of (shown d w m))).word) w.replies i v k f.written get;
}
