-- Operations that complete with data, with the last acknowledgement, or with a count.
use Rattle.std.proofs.Common.{◌≡◌, ◌≢◌, ℕ, zero, suc, ◌<◌, ◌≤◌, arith, Bool, true, false, ◌&&◌, ◌||◌, cond, List, [], ◌∷◌, ◌++◌, Option, Some, None, refl, sym, ap, subst, ◌∙◌, inl, inr}
use Rattle.std.specs.Prelude.{◌==◌, is_none, slice_get, if◌then◌else◌}
use Rattle.std.specs.List.{remove}
use Rattle.std.specs.Option.{option_map_or, option_and_then}
use Rattle.std.proofs.lemmas.Bool.{eq-eqb}
use Rattle.pg_perm.specs.declared.kinds.Event.{Event}
use Rattle.pg_perm.specs.declared.kinds.Event.TheVariants as event
use Rattle.pg_perm.specs.declared.kinds.Who.TheVariants.{Other}
use Rattle.pg_perm.specs.declared.draft.Draft.{Draft}
use Rattle.pg_perm.specs.declared.draft.Pair.{Pair}
use Rattle.pg_perm.specs.declared.draft.CoreLine.{CoreLine}
use Rattle.pg_perm.specs.declared.draft.CoreForm.{CoreForm}
use Rattle.pg_perm.specs.declared.draft.CoreForm.TheVariants as form
use Rattle.pg_perm.specs.declared.draft.ReplyName.{ReplyName}
use Rattle.pg_perm.specs.declared.draft.ReplyName.TheVariants as named
use Rattle.pg_terms.specs.Terms.{core_row}
use Rattle.pg_terms.specs.Rows.{allows, final_state, final_under}
use Rattle.pg_shape.specs.Shaped.{IsShaped}
use Rattle.pg_directory.specs.DirEntries.{who}
use Rattle.pg_directory.specs.Sound.{fits}
use Rattle.pg_atomic.specs.States.{requestor_end, state_of}
use Rattle.pg_table.specs.declared.cache.Desc.{Desc}
use Rattle.pg_table.specs.declared.cache.Desc.TheVariants.{Ask}
use Rattle.pg_table.specs.declared.cache.Phase.{Phase}
use Rattle.pg_table.specs.declared.cache.Tag.{Tag}
use Rattle.pg_order.specs.Messages.{tally}
use Rattle.pg_order.specs.Orders.{entry_message}
use Rattle.pg_messages.specs.declared.messages.Finished.TheVariants as finish
use Rattle.pg_messages.specs.declared.messages.Reply.{Reply}
use Rattle.pg_messages.specs.declared.messages.Reply.TheVariants.{Data}
use Rattle.pg_controllers.specs.Worlds.{World, core, order_of}
use Rattle.pg_orderly.specs.Orderly.{Mark, is_ahead, is_granted, is_data_to, IsPlaced}
use Rattle.pg_orderly.proofs.Keeping.{marked, moved}
use Rattle.pg_orderly.proofs.Filled.{IsFilling, at_rest, promised_at, tally_removed}
use Rattle.pg_safe.proofs.Ends.{none_before}
use Rattle.pg_serial.specs.Serial.{entry_at}
use Rattle.pg_serial.specs.Faithful.{IsDatum, IsFaithful, Level, state_at}
use Rattle.pg_refined.specs.Shown.{cleans, is_clean_state, shown, some_cleans, stand_of}
use Rattle.pg_refined.proofs.Lines.{lined_level}
use Rattle.pg_refined.proofs.Data.{data_at, datum_as}
use Rattle.pg_refined.proofs.Clean.{clean_from}
use Rattle.pg_refined.proofs.Granted.{IsJoined}
use Rattle.pg_refined.proofs.Completes.{IsPendingAt, ends_so, entry_inside, entry_txn, exact_ahead, exact_by, exact_level, final_stays, load_told, one_less, store_told}

pub some_at : (d : Draft) (c : ℕ) (u : Desc) (xs : List Reply) (i : ℕ) (y : Reply) → slice_get xs i ≡ Some y → cleans d c u y ≡ true → some_cleans d c u xs ≡ true
some_at d c u [] i y e h = cc
some_at d c u (x ∷ xs) zero y e h = let same : x ≡ y = cc in let here : cleans d c u x ≡ true = ap (cleans d c u) same ∙ h in rw here (left (some_cleans d c u xs))
  where
    left : (b : Bool) → (true || b) ≡ true
    left true = refl
    left false = refl
some_at d c u (x ∷ xs) (suc i) y e h = ap (λ b. cleans d c u x || b) (some_at d c u xs i y e h) ∙ right (cleans d c u x)
  where
    right : (b : Bool) → (b || true) ≡ true
    right true = refl
    right false = refl

at_most : (t : ℕ) (b : Bool) → t ≡ cond {A = ℕ} b 1 0 → t ≤ 1
at_most t true e = let one : t ≡ 1 = e in omega (arith, one)
at_most t false e = let none : t ≡ 0 = e in omega (arith, none)

-- once its data is taken, none is in flight
pub taken_none : (d : Draft) (n : ℕ) (w : World) (m : ℕ → Mark) → IsJoined d n w m → (c i a v cnt k : ℕ) → c < n → slice_get w.replies i ≡ Some (Data a c v cnt k) → tally (is_data_to c) (remove w.replies i) ≡ 0
taken_none d n w m b c i a v cnt k there get =
    let sum = tally_removed (is_data_to c) w.replies i (Data a c v cnt k) get in
    let one : cond {A = ℕ} (c == c) 1 0 ≡ 1 = ap (λ b. cond {A = ℕ} b 1 0) (eq-eqb c c refl) in
    let most = at_most (tally (is_data_to c) w.replies) _ (b.orderly.answered c there).filled in
    omega (arith, sum, one, most)

-- the machine's state before the entry is that in which it asked
pub exact_asked : (d : Draft) (n : ℕ) (w : World) (m : ℕ → Mark) → IsJoined d n w m → (c p : ℕ) (e : Event) (s : ℕ) (ph : Phase) (t : Tag) → c < n → IsPendingAt d w m c p e → (core w c).line.desc ≡ Ask e s ph t
    → fits d ((order_of d w).dir_entry p) c s ≡ true → ((j : ℕ) → (m c).seen ≤ j → j < p → entry_message d (order_of d w) c j ≡ None) → IsFaithful d n (shown d w m) → state_of (state_at d n (shown d w m) p) c ≡ s
exact_asked d n w m b c p e s ph t there h desc fit quiet f = exact_by d n w m b c p s there (let low = inside in omega (arith, low)) f fit (by (is_ahead ph t) refl)
  where
    inside : p < (order_of d w).top
    inside = entry_inside d n w m b c p e there h

    pl : IsPlaced d (order_of d w) c (core w c) (m c)
    pl = b.orderly.placed c there

    by : (q : Bool) → is_ahead ph t ≡ q → who ((order_of d w).dir_entry p) c ≢ Other → state_of (state_at d n (shown d w m) p) c ≡ s
    by true is held = exact_ahead d n w m b c p s (is_granted (Ask e s ph t)) there inside h.last f (ap stand_of desc ∙ rw is refl) held
    by false is held =
        let level : stand_of (core w c).line.desc ≡ Level s = ap stand_of desc ∙ rw is refl in
        let lt = (lined_level d (order_of d w) c (core w c).line (m c) (core w c).line.desc (core w c).slot pl.line s level).behind h.pending in
        let last = h.last in
        exact_level d n w m b c p s there (let low = inside in omega (arith, low)) (omega (arith, lt, last)) f level
        (none_before d (order_of d w) c (core w c) (m c) pl p (let low = inside in omega (arith, low)) (inr (omega (arith, last)))) quiet held

-- Data

filling_pending : (d : Draft) (n : ℕ) (w : World) (m : ℕ → Mark) (c : ℕ) (e : Event) (s : ℕ) (ph : Phase) (t : Tag) (i a wd cnt k f : ℕ) → (h : IsFilling d w m c e s ph t i a wd cnt k f) → IsPendingAt d w m c h.entry e
filling_pending d n w m c e s ph t i a wd cnt k f h = record { pending = rw (h.desc, h.slot) refl; last = h.last; does = h.event; asks = h.asks }

filling_stamp : (d : Draft) (n : ℕ) (w : World) (m : ℕ → Mark) → IsJoined d n w m → (c : ℕ) (e : Event) (s : ℕ) (ph : Phase) (t : Tag) (i a wd cnt k f : ℕ) → (h : IsFilling d w m c e s ph t i a wd cnt k f) → k ≡ suc h.entry
filling_stamp d n w m b c e s ph t i a wd cnt k f h = (promised_at d (order_of d w) (λ c. (m c).last) n w.replies i (Data a c wd cnt k) h.reply b.orderly.promised).1 ∙ h.last

filling_ends : (d : Draft) (n : ℕ) (w : World) (m : ℕ → Mark) → IsJoined d n w m → (c : ℕ) (e : Event) (s : ℕ) (ph : Phase) (t : Tag) (i a wd cnt k f : ℕ) → c < n → (h : IsFilling d w m c e s ph t i a wd cnt k f) → IsFaithful d n (shown d w m)
    → (requestor_end d (state_at d n (shown d w m) h.entry) c e ≡ f) × IsDatum d (entry_at (shown d w m).order) (state_at d n (shown d w m)) (datum_as a c wd (suc h.entry))
filling_ends d n w m b c e s ph t i a wd cnt k f there h faithful =
    let pend = filling_pending d n w m c e s ph t i a wd cnt k f h in
    let stamp = filling_stamp d n w m b c e s ph t i a wd cnt k f h in
    let it = data_at (IsDatum d (entry_at (shown d w m).order) (state_at d n (shown d w m))) w.replies i a c wd cnt k faithful.replies h.reply in
    let exact = exact_asked d n w m b c h.entry e s ph t there pend h.desc h.state (λ j lo hi. let last = h.last in h.quiet j lo (omega (arith, hi, last))) faithful in (
      ends_so d (state_at d n (shown d w m) h.entry) c s f e (named.Reply a) h.asks exact ((it h.entry stamp).1 e (entry_txn d n w m b c h.entry e there pend)) h.final,
      subst (λ k. IsDatum d (entry_at (shown d w m).order) (state_at d n (shown d w m)) (datum_as a c wd k)) stamp it,
    )

-- a store completes with its data
pub fill_store_told : (d : Draft) (n : ℕ) (w : World) (m : ℕ → Mark) (c s : ℕ) (ph : Phase) (t : Tag) (i a wd cnt k f v : ℕ) (late : Bool) → IsJoined d n w m → c < n → IsFilling d w m c event.Store s ph t i a wd cnt k f → IsFaithful d n (shown d w m)
    → IsFaithful d n (shown d (moved c (at_rest (core w c) f v k) (remove w.replies i) (w.done ++ record { stamp = k; core = c; fin = finish.Store v; late = late } ∷ []) w) (marked c (record { seen = (m c).last; last = (m c).last }) m))
fill_store_told d n w m c s ph t i a wd cnt k f v late b there h faithful =
    let pend = filling_pending d n w m c event.Store s ph t i a wd cnt k f h in
    let stamp = filling_stamp d n w m b c event.Store s ph t i a wd cnt k f h in
    subst (λ l. IsFaithful d n (shown d (moved c (at_rest (core w c) f v k) (remove w.replies i) (w.done ++ record { stamp = k; core = c; fin = finish.Store v; late = late } ∷ []) w) (marked c (record { seen = l; last = (m c).last }) m))) (sym h.last)
    (subst (λ j. IsFaithful d n (shown d (moved c (at_rest (core w c) f v k) (remove w.replies i) (w.done ++ record { stamp = j; core = c; fin = finish.Store v; late = late } ∷ []) w) (marked c (record { seen = suc h.entry; last = (m c).last }) m))) (sym stamp)
    (store_told d n w m c h.entry f v late (at_rest (core w c) f v k) (remove w.replies i) b there pend
    (filling_ends d n w m b c event.Store s ph t i a wd cnt k f there h faithful).0 (final_stays d b.shaped s f (named.Reply a) h.final)
    (record { desc = refl; word = refl; stamp = stamp; slot = refl; fewer = one_less d w.replies i; none = taken_none d n w m b c i a wd cnt k there h.reply }) faithful))

-- a load completes with its data
pub fill_load_told : (d : Draft) (n : ℕ) (w : World) (m : ℕ → Mark) (c s : ℕ) (ph : Phase) (t : Tag) (i a wd cnt k f : ℕ) (late : Bool) → IsJoined d n w m → c < n → IsFilling d w m c event.Load s ph t i a wd cnt k f → IsFaithful d n (shown d w m)
    → IsFaithful d n (shown d (moved c (at_rest (core w c) f wd k) (remove w.replies i) (w.done ++ record { stamp = k; core = c; fin = finish.Load wd; late = late } ∷ []) w) (marked c (record { seen = (m c).last; last = (m c).last }) m))
fill_load_told d n w m c s ph t i a wd cnt k f late b there h faithful =
    let pend = filling_pending d n w m c event.Load s ph t i a wd cnt k f h in
    let stamp = filling_stamp d n w m b c event.Load s ph t i a wd cnt k f h in
    let ends = filling_ends d n w m b c event.Load s ph t i a wd cnt k f there h faithful in
    subst (λ l. IsFaithful d n (shown d (moved c (at_rest (core w c) f wd k) (remove w.replies i) (w.done ++ record { stamp = k; core = c; fin = finish.Load wd; late = late } ∷ []) w) (marked c (record { seen = l; last = (m c).last }) m))) (sym h.last)
    (subst (λ j. IsFaithful d n (shown d (moved c (at_rest (core w c) f wd k) (remove w.replies i) (w.done ++ record { stamp = j; core = c; fin = finish.Load wd; late = late } ∷ []) w) (marked c (record { seen = suc h.entry; last = (m c).last }) m))) (sym stamp)
    (load_told d n w m c h.entry f late a wd (at_rest (core w c) f wd k) (remove w.replies i) b there pend ends.0 ends.1
    (record { desc = refl; word = refl; stamp = stamp; slot = refl; fewer = one_less d w.replies i; none = taken_none d n w m b c i a wd cnt k there h.reply })
    (λ clean. clean_from d c (core w c) w.replies (inr (inl (some_at d c (core w c).line.desc w.replies i (Data a c wd cnt k) h.reply (cleaned clean))))) faithful))
  where
    cleaned : is_clean_state d f ≡ true → cleans d c (core w c).line.desc (Data a c wd cnt k) ≡ true
    cleaned clean =
        let is : (c == c) ≡ true = eq-eqb c c refl in
        let fin : option_map_or (is_clean_state d) (final_state d s event.Load (named.Reply a)) false ≡ true = ap (λ o. option_map_or (is_clean_state d) o false) h.final ∙ clean in
        ap (λ u. cleans d c u (Data a c wd cnt k)) h.desc ∙ ap (λ q. q && option_map_or (is_clean_state d) (final_state d s event.Load (named.Reply a)) false) is ∙ fin

-- The last acknowledgement

-- all finals of a store are one
pub one_final : (d : Draft) → IsShaped d → (s f t : ℕ) (name : ReplyName) → Rattle.pg_table.specs.Choices.store_final (Rattle.pg_table.specs.Descriptors.final_states d s event.Store) ≡ Some f → final_state d s event.Store name ≡ Some t → t ≡ f
one_final d sh s f t name first fin = at (core_row d s event.Store) refl first fin
  where
    place : (pairs : List Pair) (q : ReplyName) (t : ℕ) → Rattle.std.specs.Option.option_map (λ (p : Pair). p.fin) (Rattle.pg_terms.specs.Rows.pair_under q pairs) ≡ Some t → (j : ℕ) × (x : Pair) × (slice_get pairs j ≡ Some x) × (x.fin ≡ t)
    place pairs q t e = under (Rattle.pg_terms.specs.Rows.pair_under q pairs) refl e
      where
        under : (o : Option Pair) → Rattle.pg_terms.specs.Rows.pair_under q pairs ≡ o → Rattle.std.specs.Option.option_map (λ (p : Pair). p.fin) o ≡ Some t → (j : ℕ) × (x : Pair) × (slice_get pairs j ≡ Some x) × (x.fin ≡ t)
        under None is e = cc
        under (Some x) is e = let (j, get, pass) = Rattle.pg_shape.proofs.Searches.find_get _ pairs x is in (j, x, get, cc)

    first_of : (pairs : List Pair) (f : ℕ) → Rattle.pg_table.specs.Choices.store_final (Rattle.std.specs.Prelude.map (λ (p : Pair). p.fin) pairs) ≡ Some f → (x : Pair) × (slice_get pairs 0 ≡ Some x) × (x.fin ≡ f)
    first_of [] f e = cc
    first_of (x ∷ xs) f e = (x, refl, cc)

    by : (x : CoreLine) → core_row d s event.Store ≡ Some x → (y : CoreForm) → x.form ≡ y → Rattle.pg_table.specs.Choices.store_final (Rattle.pg_table.specs.Descriptors.final_states_in y) ≡ Some f → final_under name y ≡ Some t → t ≡ f
    by x row (form.Hit next) is a b = cc
    by x row (form.Leave q) is a b = cc
    by x row (form.Ask request pairs) is a b =
        let (u, get0, fin0) = first_of pairs f a in
        let (j, v, get, fin_v) = place pairs name t b in
        sym fin_v ∙ sym (sh.cores.one_end s 0 j request pairs u v x row is get0 get) ∙ fin0

    at : (o : Option CoreLine) → core_row d s event.Store ≡ o → Rattle.pg_table.specs.Choices.store_final (option_map_or (λ (l : CoreLine). Rattle.pg_table.specs.Descriptors.final_states_in l.form) o []) ≡ Some f → option_and_then (λ (l : CoreLine). final_under name l.form) o ≡ Some t → t ≡ f
    at None row a b = cc
    at (Some x) row a b = by x row x.form refl a b
