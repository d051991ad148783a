-- Loads and stores that hit.
use Rattle.std.proofs.Common.{◌≡◌, ◌≢◌, ℕ, suc, ◌<◌, ◌≤◌, arith, Bool, true, false, cond, List, [], ◌∷◌, ◌++◌, length, Option, Some, None, refl, sym, ap, subst, ◌∙◌, inl, inr}
use Rattle.std.specs.Prelude.{◌==◌}
use Rattle.std.specs.Option.{option_and_then}
use Rattle.std.proofs.lemmas.Bool.{eqb-true, eq-eqb}
use Rattle.pg_perm.specs.declared.kinds.Event.TheVariants as event
use Rattle.pg_perm.specs.declared.kinds.Who.TheVariants.{Other, Owner}
use Rattle.pg_perm.specs.declared.draft.Draft.{Draft}
use Rattle.pg_perm.specs.declared.draft.CoreLine.{CoreLine}
use Rattle.pg_terms.specs.Terms.{cache_is, core_row, lists}
use Rattle.pg_terms.specs.Rows.{allows, store_next}
use Rattle.pg_directory.specs.DirEntries.{DirEntry, who}
use Rattle.pg_directory.specs.Sound.{fits, fits_as}
use Rattle.pg_directory.proofs.Holders.{who_of_owner}
use Rattle.pg_atomic.specs.States.{hit_next}
use Rattle.pg_atomic.proofs.Fits.{owner_writes}
use Rattle.pg_table.specs.declared.cache.Desc.TheVariants.{Stable}
use Rattle.pg_order.specs.Messages.{tally}
use Rattle.pg_order.specs.Orders.{DirOrder}
use Rattle.pg_order.specs.Views.{IsFresh}
use Rattle.pg_messages.specs.declared.messages.Finished.TheVariants as finish
use Rattle.pg_controllers.specs.Networks as net
use Rattle.pg_messages.specs.declared.messages.DoneEntry.{DoneEntry}
use Rattle.pg_controllers.specs.Worlds.{World, core, order_of}
use Rattle.pg_orderly.specs.Orderly.{Mark, is_pending, view_of, is_data_to, IsLevel, IsPlaced}
use Rattle.pg_orderly.proofs.Keeping.{moved, core_same, core_other}
use Rattle.pg_orderly.proofs.Handled.{not_due}
use Rattle.pg_safe.proofs.SingleWriter.{IsSettled, writer_settled}
use Rattle.pg_serial.specs.Serial.{Stored, Loaded}
use Rattle.pg_serial.specs.Faithful as told
use Rattle.pg_serial.specs.Faithful.{Change, Datum, EachIs, IsAlone, IsDatum, IsFaithful, IsGranted, Level, Shown, shown_entry, state_at, stored, top_of, with_done}
use Rattle.pg_serial.proofs.Frames.{each_both}
use Rattle.pg_serial.proofs.Loads.{hit_load}
use Rattle.pg_serial.proofs.Stores.{hit_store}
use Rattle.pg_refined.specs.Shown.{accesses, data_of, is_clean, is_clean_core, leaves_clean, level_in, shown, some_cleans, stand_of, told_of, words_of}
use Rattle.pg_refined.proofs.Lines.{lined_level}
use Rattle.pg_refined.proofs.Data.{no_cleans, none_to}
use Rattle.pg_refined.proofs.Clean.{clean_is, clean_from, dirty_state}
use Rattle.pg_refined.proofs.Granted.{IsJoined, data_below, granted_since, none_written, others_below, owner_dirty, owner_or_busy}
use Rattle.pg_refined.proofs.Moves.{accesses-append, ne_eq, told_again, told_as, told_other_still, told_same_still, told_with_done, told_with_replies}

append_nil : {A : Type 0} (xs : List A) → xs ++ [] ≡ xs
append_nil [] = refl
append_nil (x ∷ xs) = ap (λ t. x ∷ t) (append_nil xs)

-- to a core that isn't pending no data is in flight
pub idle_none : (d : Draft) (n : ℕ) (w : World) (m : ℕ → Mark) → IsJoined d n w m → (c : ℕ) → c < n → is_pending (core w c) ≡ false → tally (is_data_to c) w.replies ≡ 0
idle_none d n w m b c there idle =
    (b.orderly.answered c there).filled ∙ ap (λ q. cond {A = ℕ} q 1 0) (not_due d (order_of d w) (view_of w m) (core w c) (m c).last idle)

-- a load that hits: the line stays, and the access is stamped with its stamp
pub hit_load_told : (d : Draft) (n : ℕ) (w : World) (m : ℕ → Mark) (c s : ℕ) (y : net.Core) → IsJoined d n w m → c < n → (core w c).line.desc ≡ Stable s → (core w c).slot ≡ None
    → cache_is (allows event.Load) d s ≡ true → y.line.desc ≡ Stable s → y.slot ≡ None → y.line.word ≡ (core w c).line.word → y.line.stamp ≡ (core w c).line.stamp
    → IsFaithful d n (shown d w m)
    → IsFaithful d n (shown d (moved c y w.replies (w.done ++ record { stamp = (core w c).line.stamp; core = c; fin = finish.Load (core w c).line.word; late = false } ∷ []) w) m)
hit_load_told d n w m c s y b there desc slot may at empty word stamp f =
    told_with_done d n (record (shown d x m) { done = accesses w.done ++ record { stamp = (core w c).line.stamp; core = c; made = Loaded (core w c).line.word; late = false } ∷ [] }) (accesses dn)
    (told_again d n (with_done (shown d w m) (record { stamp = (core w c).line.stamp; core = c; made = Loaded (core w c).line.word; late = false })) (shown d x m).core (is_clean d x)
    (hit_load d b.whole b.shaped n (shown d w m) c s f there (ap stand_of desc) idle (let upto = pl.upto in let top = b.top in omega (arith, upto, top)) fit may)
    same fewer)
    (sym (accesses-append w.done (e ∷ [])))
  where
    e : DoneEntry
    e = record { stamp = (core w c).line.stamp; core = c; fin = finish.Load (core w c).line.word; late = false }

    dn : List DoneEntry
    dn = w.done ++ e ∷ []

    x : World
    x = moved c y w.replies dn w

    pl : IsPlaced d (order_of d w) c (core w c) (m c)
    pl = b.orderly.placed c there

    inside : c < length w.cores
    inside = let same = b.orderly.cores in omega (arith, same, there)

    idle : is_pending (core w c) ≡ false
    idle = rw desc refl

    fit : fits d (shown_entry d (shown d w m) (m c).seen) c s ≡ true
    fit =
        let upto = pl.upto in
        ap (λ (t : DirEntry). fits d t c s) (b.bridge.dir_entries (m c).seen (omega (arith, upto)))
        ∙ (lined_level d (order_of d w) c (core w c).line (m c) (core w c).line.desc (core w c).slot pl.line s (ap stand_of desc)).level.state

    own : told_of (m c) y ≡ told_of (m c) (core w c)
    own = told_as (told_of (m c) (core w c)) (told_of (m c) y) refl refl (let q : is_pending y ≡ false = rw at refl in q ∙ sym idle) (ap stand_of (at ∙ sym desc)) word stamp

    same : (z : ℕ) → z < n → (shown d x m).core z ≡ (shown d w m).core z
    same z low = by (z == c) refl
      where
        by : (q : Bool) → (z == c) ≡ q → (shown d x m).core z ≡ (shown d w m).core z
        by true is = subst (λ z. (shown d x m).core z ≡ (shown d w m).core z) (sym (eqb-true z c is)) (told_same_still d w m c y w.replies dn inside ∙ own)
        by false is = told_other_still d w m c z y w.replies dn (λ q. let r = eq-eqb z c q in cc (r, is))

    fewer : (z : ℕ) → is_clean d x z ≡ true → is_clean d w z ≡ true
    fewer z q = by (z == c) refl
      where
        own_clean : is_clean_core d c y w.replies ≡ true → is_clean_core d c (core w c) w.replies ≡ true
        own_clean q = elim (clean_is d c y w.replies q) [
          | inl (rests, (t, level, clean)) ↦ clean_from d c (core w c) w.replies (inl (idle, (t, ap (λ u. level_in (stand_of u)) (desc ∙ sym at) ∙ level, clean)))
          | inr (inl some) ↦ clean_from d c (core w c) w.replies (inr (inl (ap (λ u. some_cleans d c u w.replies) (desc ∙ sym at) ∙ some)))
          | inr (inr leaves) ↦ absurd (let none = ap leaves_clean empty in cc (none, leaves))
        ]

        by : (t : Bool) → (z == c) ≡ t → is_clean d w z ≡ true
        by false is = let ne = ne_eq c z (λ q. let r = eq-eqb z c q in cc (r, is)) in ap (λ u. is_clean_core d z u w.replies) (sym (core_other c z y w.replies dn w ne)) ∙ q
        by true is = subst (λ z. is_clean d w z ≡ true) (sym (eqb-true z c is))
            (own_clean (ap (λ u. is_clean_core d c u w.replies) (sym (core_same c y w.replies dn w inside)) ∙ subst (λ z. is_clean d x z ≡ true) (eqb-true z c is) q))

-- a store that hits
pub hit_store_told : (d : Draft) (n : ℕ) (w : World) (m : ℕ → Mark) (c s t v : ℕ) (y : net.Core) → IsJoined d n w m → c < n → (core w c).line.desc ≡ Stable s → (core w c).slot ≡ None
    → cache_is (allows event.Store) d s ≡ true → option_and_then (λ (l : CoreLine). store_next s event.Store l.form) (core_row d s event.Store) ≡ Some t
    → y.line.desc ≡ Stable t → y.slot ≡ None → y.line.word ≡ v → y.line.stamp ≡ (core w c).line.stamp
    → IsFaithful d n (shown d w m)
    → IsFaithful d n (shown d (moved c y w.replies (w.done ++ record { stamp = (core w c).line.stamp; core = c; fin = finish.Store v; late = false } ∷ []) w) m)
hit_store_told d n w m c s t v y b there desc slot may next at empty word stamp f =
    told_with_done d n (record (shown d x m) { done = accesses w.done ++ record { stamp = (core w c).line.stamp; core = c; made = Stored v; late = false } ∷ [] }) (accesses dn)
    (told_with_replies d n (record (shown d x m) { done = accesses w.done ++ record { stamp = (core w c).line.stamp; core = c; made = Stored v; late = false } ∷ []; replies = data_of w.replies ++ [] }) (data_of w.replies)
    (hit_store d b.whole b.shaped n (shown d w m) u c s v f granted alone (ap stand_of desc) holds may refl own) (append_nil (data_of w.replies)))
    (sym (accesses-append w.done (e ∷ [])))
  where
    p : DirOrder
    p = order_of d w

    e : DoneEntry
    e = record { stamp = (core w c).line.stamp; core = c; fin = finish.Store v; late = false }

    dn : List DoneEntry
    dn = w.done ++ e ∷ []

    x : World
    x = moved c y w.replies dn w

    u : Change
    u = record { core = (shown d x m).core; stay = data_of w.replies; sent = []; written = words_of w.replies; busy = (shown d w m).busy; clean = is_clean d x }

    pl : IsPlaced d p c (core w c) (m c)
    pl = b.orderly.placed c there

    inside : c < length w.cores
    inside = let same = b.orderly.cores in omega (arith, same, there)

    idle : is_pending (core w c) ≡ false
    idle = rw desc refl

    level : IsLevel d p c (core w c).line (m c) s
    level = (lined_level d p c (core w c).line (m c) (core w c).line.desc (core w c).slot pl.line s (ap stand_of desc)).level

    behind : (m c).last ≤ (m c).seen
    behind = (lined_level d p c (core w c).line (m c) (core w c).line.desc (core w c).slot pl.line s (ap stand_of desc)).past idle

    g : IsSettled p c (m c)
    g = writer_settled d n p b.shaped b.known c (core w c) (m c) s pl level.state may behind

    fresh : IsFresh (suc g.entry) c p (view_of w m)
    fresh = record { grant = g.last; owns = g.owns; alone = g.alone; unspent = inr g.seen }

    fresh_here : IsFresh (m c).seen c p (view_of w m)
    fresh_here = subst (λ k. IsFresh k c p (view_of w m)) (sym g.seen) fresh

    low : (m c).seen ≤ p.top
    low = let upto = pl.upto in omega (arith, upto)

    granted : IsGranted d n (shown d w m) (m c).seen c
    granted = granted_since d n w m b (m c).seen c low fresh_here

    owns : who (p.dir_entry (m c).seen) c ≡ Owner
    owns = who_of_owner (p.dir_entry (m c).seen) c fresh_here.owns

    holds : who (shown_entry d (shown d w m) (m c).seen) c ≢ Other
    holds none = let y = ap (λ (t : DirEntry). who t c) (sym (b.bridge.dir_entries (m c).seen low)) ∙ none in cc (owns, y)

    hits : hit_next d s ≡ t
    hits = rw next refl

    own : (shown d x m).core c ≡ record (told_of (m c) (core w c)) { stand = Level (hit_next d s); word = v; pending = false }
    own = told_same_still d w m c y w.replies dn inside
        ∙ told_as (record (told_of (m c) (core w c)) { stand = Level (hit_next d s); word = v; pending = false }) (told_of (m c) y) refl refl (rw at refl) (ap stand_of at ∙ ap Level (sym hits)) word stamp

    dirty : (z : ℕ) → (shown_entry d (shown d w m) (top_of (shown d w m))).owner ≡ Some z → is_clean d x z ≡ true → ⊥
    dirty z owner clean = by (z == c) refl
      where
        own_clean : is_clean_core d c y w.replies ≡ true → ⊥
        own_clean q = elim (clean_is d c y w.replies q) [
          | inl (rests, (r, at_level, clean)) ↦
              let same : t ≡ r = level_in_same t r (ap level_in (ap stand_of (sym at)) ∙ at_level) in
              let listed : lists d (p.dir_entry (m c).seen).dir s ≡ true = ap (λ h. fits_as d (p.dir_entry (m c).seen).dir h s) (sym owns) ∙ level.state in
              let writes = owner_writes d b.shaped (p.dir_entry (m c).seen).dir s listed may in
              let un = dirty_state d t (next_dirty writes) in
              let un_r = subst (λ t. Rattle.pg_refined.specs.Shown.is_clean_state d t ≡ false) same un in cc (un_r, clean)
          | inr (inl some) ↦ let none = no_cleans d c y.line.desc w.replies (idle_none d n w m b c there idle) in cc (some, none)
          | inr (inr leaves) ↦ let none = ap leaves_clean empty in cc (none, leaves)
        ]
          where
            level_in_same : (t r : ℕ) → level_in (Level t) ≡ Some r → t ≡ r
            level_in_same t r e = cc

            next_dirty : cache_is Rattle.pg_terms.specs.Terms.is_write_owner d s ≡ true → cache_is Rattle.pg_shape.specs.CoreRules.is_dirty_writer d t ≡ true
            next_dirty writes = row (core_row d s event.Store) refl next
              where
                row : (o : Option CoreLine) → core_row d s event.Store ≡ o → option_and_then (λ (l : CoreLine). store_next s event.Store l.form) o ≡ Some t → cache_is Rattle.pg_shape.specs.CoreRules.is_dirty_writer d t ≡ true
                row None is e = cc
                row (Some l) is e = (b.shaped.cores.store_hit s t l is writes e).0

        at_top : ((order_of d w).dir_entry (order_of d w).top).owner ≡ Some z
        at_top = ap (λ (t : DirEntry). t.owner) (sym (b.bridge.dir_entries p.top (omega arith))) ∙ subst (λ k. (shown_entry d (shown d w m) k).owner ≡ Some z) b.top owner

        by : (q : Bool) → (z == c) ≡ q → ⊥
        by true is = own_clean (ap (λ u. is_clean_core d c u w.replies) (sym (core_same c y w.replies dn w inside)) ∙ subst (λ z. is_clean d x z ≡ true) (eqb-true z c is) clean)
        by false is =
            let other : z ≢ c = λ q. let r = eq-eqb z c q in cc (r, is) in
            owner_dirty d n w m b (m c).seen c low fresh_here z at_top other (ap (λ u. is_clean_core d z u w.replies) (sym (core_other c z y w.replies dn w (ne_eq c z other))) ∙ clean)

    alone : IsAlone d n (shown d w m) u (m c).seen c v
    alone = record {
      same = λ z other. told_other_still d w m c z y w.replies dn other;
      others = λ z low_z other. subst (λ k. told.Looks (λ i. i < k) (shown_entry d (shown d w m)) z (m z).seen (m z).last (stand_of (core w z).line.desc)) (sym g.seen) (others_below d n w m b g.entry c g.inside fresh g.own z low_z other);
      stay = subst (λ k. EachIs (λ (q : Datum). q.stamp < k) (data_of w.replies)) (sym g.seen)
          (each_both (λ (q : Datum). q.core ≢ c → q.stamp < suc g.entry) (λ (q : Datum). q.core ≢ c) (λ (q : Datum). q.stamp < suc g.entry) (data_of w.replies) (λ q below other. below other)
          (data_below d n w m b g.entry c fresh g.own) (none_to c w.replies (idle_none d n w m b c there idle)));
      told = f.replies;
      written = subst (EachIs (λ z. z ≡ v)) (sym (none_written d n w m b (m c).seen c low fresh_here)) tt;
      owned = λ none free. owner_or_busy d n w m b (m c).seen c low fresh_here
          (ap (λ (t : DirEntry). t.owner) (sym (b.bridge.dir_entries p.top (omega arith))) ∙ subst (λ k. (shown_entry d (shown d w m) k).owner ≡ None) b.top none) free;
      dirty = dirty;
    }
