-- What is said stays so when an operation completes.
use Rattle.std.proofs.Common.{◌≡◌, ◌≢◌, ℕ, zero, suc, ◌<◌, ◌≤◌, arith, Bool, true, false, ◌||◌, List, [], ◌∷◌, ◌++◌, length, Option, Some, None, refl, sym, ap, subst, ◌∙◌, inl, inr}
use Rattle.std.specs.Prelude.{◌==◌, unwrap_or}
use Rattle.std.specs.List.{remove}
use Rattle.std.specs.Option.{option_and_then}
use Rattle.std.proofs.lemmas.Bool.{eqb-true, eq-eqb}
use Rattle.pg_perm.specs.declared.kinds.Event.{Event}
use Rattle.pg_perm.specs.declared.kinds.Event.TheVariants as event
use Rattle.pg_perm.specs.declared.kinds.Who.{Who}
use Rattle.pg_perm.specs.declared.kinds.Who.TheVariants.{Other, Sharer, Owner}
use Rattle.pg_perm.specs.declared.step.Step.TheVariants.{Txn}
use Rattle.pg_perm.specs.declared.draft.Draft.{Draft}
use Rattle.pg_perm.specs.declared.draft.CoreLine.{CoreLine}
use Rattle.pg_perm.specs.declared.draft.CoreForm.{CoreForm}
use Rattle.pg_perm.specs.declared.draft.CoreForm.TheVariants as form
use Rattle.pg_perm.specs.declared.draft.ReplyName.{ReplyName}
use Rattle.pg_terms.specs.Terms.{is, cache_is, core_row, out}
use Rattle.pg_terms.specs.Rows.{final_state, final_under, store_next}
use Rattle.pg_shape.specs.CoreRules.{is_dirty_writer, stays_at_store}
use Rattle.pg_shape.specs.Shaped.{IsShaped}
use Rattle.pg_directory.specs.DirEntries.{DirEntry, who}
use Rattle.pg_directory.specs.Sound.{fits, fits_as}
use Rattle.pg_atomic.specs.States.{State, requestor_end, hit_next, requestor_reply, state_of}
use Rattle.pg_table.specs.declared.cache.Desc.{Desc}
use Rattle.pg_table.specs.declared.cache.Desc.TheVariants.{Stable}
use Rattle.pg_order.specs.Messages.{tally}
use Rattle.pg_order.specs.Orders.{DirOrder, entry_message}
use Rattle.pg_order.specs.Views.{IsFresh}
use Rattle.pg_order.proofs.OneEntry.{requestor_holds}
use Rattle.pg_order.proofs.Quiet.{quiet_sends, unchanged}
use Rattle.pg_messages.specs.declared.messages.Finished.TheVariants as finish
use Rattle.pg_controllers.specs.Networks as net
use Rattle.pg_messages.specs.declared.messages.Reply.{Reply}
use Rattle.pg_messages.specs.declared.messages.DoneEntry.{DoneEntry}
use Rattle.pg_controllers.specs.Worlds.{World, core, order_of}
use Rattle.pg_orderly.specs.Orderly.{Mark, is_pending, view_of, is_data_to, IsPlaced}
use Rattle.pg_orderly.proofs.Keeping.{marked, moved, core_same, core_other}
use Rattle.pg_safe.proofs.Alone.{store_takes}
use Rattle.pg_serial.specs.Serial.{Loaded, Stored, entry_at}
use Rattle.pg_serial.specs.Faithful as told
use Rattle.pg_serial.specs.Faithful.{Ahead, Change, Datum, EachIs, IsAlone, IsDatum, IsFaithful, Level, Shown, Stand, Tells, shown_entry, run_of, state_at, stored, top_of, with_done}
use Rattle.pg_serial.proofs.Frames.{each_both}
use Rattle.pg_serial.proofs.Runs.{good_at, directory_at}
use Rattle.pg_serial.proofs.Places.{has_accesses}
use Rattle.pg_serial.proofs.Completes.{store_completes}
use Rattle.pg_serial.proofs.Fills.{load_fills}
use Rattle.pg_serial.proofs.Rest.{exact_till}
use Rattle.pg_serial.proofs.Suffix.{out_at}
use Rattle.pg_refined.specs.Shown.{accesses, cleans, data_of, is_clean, is_clean_core, is_clean_state, leaves_clean, level_in, shown, some_cleans, stand_of, told_of, words_of}
use Rattle.pg_refined.proofs.Bridge.{others_is, sends_is}
use Rattle.pg_refined.proofs.Data.{data_removed, datum_as, no_cleans, none_to, words_removed}
use Rattle.pg_refined.proofs.Clean.{clean_is, clean_from, dirty_state}
use Rattle.pg_refined.proofs.Granted.{IsJoined, asks_live, data_below, granted_since, none_written, others_below, owner_dirty, owner_or_busy}
use Rattle.pg_refined.proofs.Moves.{accesses-append, ne_eq, told_as, told_other, told_same, told_with_done, told_with_replies}

pub append_nil : {A : Type 0} (xs : List A) → xs ++ [] ≡ xs
append_nil [] = refl
append_nil (x ∷ xs) = ap (λ t. x ∷ t) (append_nil xs)

-- Replies of which some are gone

pub record AreFewer (d : Draft) (xs ys : List Reply) : Type 1 where
  pub data_stay : (P : Datum → Type 0) → EachIs P (data_of xs) → EachIs P (data_of ys)
  pub words_stay : (P : ℕ → Type 0) → EachIs P (words_of xs) → EachIs P (words_of ys)
  pub cleans_less : (z : ℕ) (u : Desc) → some_cleans d z u ys ≡ true → some_cleans d z u xs ≡ true

pub all_of : (d : Draft) (xs : List Reply) → AreFewer d xs xs
all_of d xs = record { data_stay = λ P h. h; words_stay = λ P h. h; cleans_less = λ z u h. h }

cleans_removed : (d : Draft) (z : ℕ) (u : Desc) (xs : List Reply) (i : ℕ) → some_cleans d z u (remove xs i) ≡ true → some_cleans d z u xs ≡ true
cleans_removed d z u [] zero h = h
cleans_removed d z u [] (suc i) h = h
cleans_removed d z u (x ∷ xs) zero h = right (cleans d z u x) (some_cleans d z u xs) h
  where
    right : (a b : Bool) → b ≡ true → (a || b) ≡ true
    right true true h = refl
    right false true h = refl
    right a false h = cc
cleans_removed d z u (x ∷ xs) (suc i) h = at (cleans d z u x) h (cleans_removed d z u xs i)
  where
    at : (a : Bool) → (a || some_cleans d z u (remove xs i)) ≡ true → (some_cleans d z u (remove xs i) ≡ true → some_cleans d z u xs ≡ true) → (a || some_cleans d z u xs) ≡ true
    at true h more = refl
    at false h more = more h

pub one_less : (d : Draft) (xs : List Reply) (i : ℕ) → AreFewer d xs (remove xs i)
one_less d xs i = record { data_stay = λ P h. data_removed P xs i h; words_stay = λ P h. words_removed P xs i h; cleans_less = λ z u h. cleans_removed d z u xs i h }

-- The machine's state

out_one : (d : Draft) (x y : ℕ) → is (out d) x ≡ true → is (out d) y ≡ true → x ≡ y
out_one d x y h g = at (out d) h g
  where
    at : (o : Option ℕ) → is o x ≡ true → is o y ≡ true → x ≡ y
    at None h g = cc
    at (Some z) h g = sym (eqb-true z x h) ∙ eqb-true z y g

-- a state that fits is the machine's, if that is so where the core holds something
pub exact_by : (d : Draft) (n : ℕ) (w : World) (m : ℕ → Mark) → IsJoined d n w m → (c j s : ℕ) → c < n → j ≤ (order_of d w).top → IsFaithful d n (shown d w m) → fits d ((order_of d w).dir_entry j) c s ≡ true
    → (who ((order_of d w).dir_entry j) c ≢ Other → state_of (state_at d n (shown d w m) j) c ≡ s) → state_of (state_at d n (shown d w m) j) c ≡ s
exact_by d n w m b c j s there low f fit held = by (who ((order_of d w).dir_entry j) c) refl
  where
    by : (h : Who) → who ((order_of d w).dir_entry j) c ≡ h → state_of (state_at d n (shown d w m) j) c ≡ s
    by Owner is = held (λ none. cc (is, none))
    by Sharer is = held (λ none. cc (is, none))
    by Other is =
        let top = b.top in
        let good = (good_at d b.whole b.shaped n (run_of n (shown d w m)) (top_of (shown d w m)) f.run j (omega (arith, low, top))).1 in
        let directory = (directory_at d n (run_of n (shown d w m)) (has_accesses n (shown d w m).order (shown d w m).done) j).1 ∙ b.bridge.dir_entries j low in
        let out_there = out_at d n (state_at d n (shown d w m) j) c good there (ap (λ (t : DirEntry). who t c) directory ∙ is) in
        out_one d (state_of (state_at d n (shown d w m) j) c) s out_there (ap (λ h. fits_as d ((order_of d w).dir_entry j).dir h s) (sym is) ∙ fit)

-- of a line that is level with it, where nothing was sent since
pub exact_level : (d : Draft) (n : ℕ) (w : World) (m : ℕ → Mark) → IsJoined d n w m → (c j s : ℕ) → c < n → j ≤ (order_of d w).top → (m c).seen ≤ j → IsFaithful d n (shown d w m) → stand_of (core w c).line.desc ≡ Level s
    → ((i : ℕ) → (m c).seen ≤ i → i < j → (((order_of d w).at i).core == c) ≡ false) → ((i : ℕ) → (m c).seen ≤ i → i < j → entry_message d (order_of d w) c i ≡ None)
    → who ((order_of d w).dir_entry j) c ≢ Other → state_of (state_at d n (shown d w m) j) c ≡ s
exact_level d n w m b c j s there low from f level others quiet held =
    let top = b.top in
    exact_till d b.whole b.shaped n (shown d w m) c s j f there level from (omega (arith, low, top))
    (record {
      others = λ i lo hi. others_is d (order_of d w) _ _ b.bridge i c (omega (arith, hi, low)) (others i lo hi);
      none = λ i lo hi. sends_is d n (order_of d w) b.known _ _ b.bridge i c (omega (arith, hi, low)) ∙ quiet_sends d ((order_of d w).dir_entry i) ((order_of d w).at i) (suc i) c (others i lo hi) (quiet i lo hi);
    })
    (λ none. held ((unchanged d n (order_of d w) b.known c (m c).seen j from low others quiet).who ∙ ap (λ (t : DirEntry). who t c) (sym (b.bridge.dir_entries (m c).seen (omega (arith, from, low)))) ∙ none))

-- of a line that is ahead, before its entry
pub exact_ahead : (d : Draft) (n : ℕ) (w : World) (m : ℕ → Mark) → IsJoined d n w m → (c j s : ℕ) (g : Bool) → c < n → j < (order_of d w).top → (m c).last ≡ suc j → IsFaithful d n (shown d w m) → stand_of (core w c).line.desc ≡ Ahead s g
    → who ((order_of d w).dir_entry j) c ≢ Other → state_of (state_at d n (shown d w m) j) c ≡ s
exact_ahead d n w m b c j s g there low last f ahead held =
    let t = f.cores c there in
    (subst (Tells (shown_entry d (shown d w m)) (state_at d n (shown d w m)) c (m c).seen (m c).last (core w c).line.word (core w c).line.stamp) ahead t.tells j last).0
    (λ none. held (ap (λ (t : DirEntry). who t c) (sym (b.bridge.dir_entries j (omega (arith, low)))) ∙ none))

-- where it ends
pub ends_so : (d : Draft) (a : State) (c s fin : ℕ) (e : Event) (name : ReplyName) → e ≢ event.Evict → state_of a c ≡ s → requestor_reply d a (record { core = c; event = e }) ≡ Some name → final_state d s e name ≡ Some fin → requestor_end d a c e ≡ fin
ends_so d a c s fin event.Load name asks state got ends = ap (λ o. unwrap_or (option_and_then (final_state d (state_of a c) event.Load) o) (state_of a c)) got ∙ ap (λ x. unwrap_or (final_state d x event.Load name) (state_of a c)) state ∙ ap (λ o. unwrap_or o (state_of a c)) ends
ends_so d a c s fin event.Store name asks state got ends = ap (λ o. unwrap_or (option_and_then (final_state d (state_of a c) event.Store) o) (state_of a c)) got ∙ ap (λ x. unwrap_or (final_state d x event.Store name) (state_of a c)) state ∙ ap (λ o. unwrap_or o (state_of a c)) ends
ends_so d a c s fin event.Evict name asks state got ends = absurd (asks refl)

-- the final of a store stays at a hit, and is dirty
pub final_stays : (d : Draft) → IsShaped d → (s t : ℕ) (name : ReplyName) → final_state d s event.Store name ≡ Some t → (hit_next d t ≡ t) × (cache_is is_dirty_writer d t ≡ true)
final_stays d sh s t name h = at (core_row d s event.Store) refl h
  where
    hits : (x : CoreForm) → stays_at_store t x ≡ true → unwrap_or (store_next t event.Store x) t ≡ t
    hits (form.Hit None) e = refl
    hits (form.Hit (Some z)) e = eqb-true z t e
    hits (form.Ask q pairs) e = cc
    hits (form.Leave q) e = cc

    stay : (o : Option CoreLine) → core_row d t event.Store ≡ o → ((y : CoreLine) → core_row d t event.Store ≡ Some y → stays_at_store t y.form ≡ true) → unwrap_or (option_and_then (λ (l : CoreLine). store_next t event.Store l.form) o) t ≡ t
    stay None is all = refl
    stay (Some y) is all = hits y.form (all y is)

    at : (o : Option CoreLine) → core_row d s event.Store ≡ o → option_and_then (λ (l : CoreLine). final_under name l.form) o ≡ Some t → (hit_next d t ≡ t) × (cache_is is_dirty_writer d t ≡ true)
    at None is e = cc
    at (Some x) is e = let (dirty, all) = sh.cores.store_final s t name x is e in (stay (core_row d t event.Store) refl all, dirty)

-- A pending operation's entry

pub record IsPendingAt (d : Draft) (w : World) (m : ℕ → Mark) (c p : ℕ) (e : Event) : Type 0 where
  pub pending : is_pending (core w c) ≡ true
  pub last : (m c).last ≡ suc p
  pub does : ((order_of d w).at p).event ≡ e
  pub asks : e ≢ event.Evict

pub entry_inside : (d : Draft) (n : ℕ) (w : World) (m : ℕ → Mark) → IsJoined d n w m → (c p : ℕ) (e : Event) → c < n → IsPendingAt d w m c p e → p < (order_of d w).top
entry_inside d n w m b c p e there h = let low = (b.orderly.placed c there).last_low in let last = h.last in omega (arith, low, last)

pub entry_txn : (d : Draft) (n : ℕ) (w : World) (m : ℕ → Mark) → IsJoined d n w m → (c p : ℕ) (e : Event) → c < n → IsPendingAt d w m c p e → entry_at (shown d w m).order p ≡ Txn c e
entry_txn d n w m b c p e there h = elim (b.bridge.entries p (entry_inside d n w m b c p e there h)) [
  | inl (stale, is) ↦ absurd (let live = asks_live ((order_of d w).dir_entry p) ((order_of d w).at p) e h.does h.asks in cc (stale, live))
  | inr (live, is) ↦ is ∙ ap (λ z. Txn z ((order_of d w).at p).event) ((b.orderly.placed c there).last_own p h.last) ∙ ap (λ z. Txn c z) h.does
]

pub holds_after : (d : Draft) (n : ℕ) (w : World) (m : ℕ → Mark) → IsJoined d n w m → (c p : ℕ) (e : Event) → c < n → IsPendingAt d w m c p e → who (shown_entry d (shown d w m) (suc p)) c ≢ Other
holds_after d n w m b c p e there h none =
    let inside = entry_inside d n w m b c p e there h in
    let asks : ((order_of d w).at p).event ≢ event.Evict = (λ z. h.asks (sym h.does ∙ z)) in
    let (r, row) = (b.known.handled p inside).row (λ z. absurd (asks z)) in
    requestor_holds d ((order_of d w).dir_entry p) ((order_of d w).at p) r row asks
    (ap (λ (t : DirEntry). who t ((order_of d w).at p).core) (sym (b.known.past.follows p inside)) ∙ ap (who ((order_of d w).dir_entry (suc p))) ((b.orderly.placed c there).last_own p h.last)
    ∙ ap (λ (t : DirEntry). who t c) (sym (b.bridge.dir_entries (suc p) inside)) ∙ none)

-- Stores

-- the line that a store leaves, and the replies that stay
pub record IsDoneLine (d : Draft) (w : World) (c p f v : ℕ) (y : net.Core) (rs : List Reply) : Type 1 where
  pub desc : y.line.desc ≡ Stable f
  pub word : y.line.word ≡ v
  pub stamp : y.line.stamp ≡ suc p
  pub slot : y.slot ≡ None
  pub fewer : AreFewer d w.replies rs
  pub none : tally (is_data_to c) rs ≡ 0

abbrev pub done_store : ℕ → ℕ → ℕ → Bool → DoneEntry
done_store c p v late = record { stamp = suc p; core = c; fin = finish.Store v; late = late }

abbrev pub done_load : ℕ → ℕ → ℕ → Bool → DoneEntry
done_load c p v late = record { stamp = suc p; core = c; fin = finish.Load v; late = late }

pub store_told : (d : Draft) (n : ℕ) (w : World) (m : ℕ → Mark) (c p f v : ℕ) (late : Bool) (y : net.Core) (rs : List Reply) → IsJoined d n w m → c < n → IsPendingAt d w m c p event.Store
    → requestor_end d (state_at d n (shown d w m) p) c event.Store ≡ f → (hit_next d f ≡ f) × (cache_is is_dirty_writer d f ≡ true) → IsDoneLine d w c p f v y rs → IsFaithful d n (shown d w m)
    → IsFaithful d n (shown d (moved c y rs (w.done ++ done_store c p v late ∷ []) w) (marked c (record { seen = suc p; last = (m c).last }) m))
store_told d n w m c p f v late y rs b there h ends fin done faithful =
    told_with_done d n (record (shown d x m2) { done = accesses w.done ++ record { stamp = suc p; core = c; made = Stored v; late = late } ∷ [] }) (accesses dn)
    (told_with_replies d n (record (shown d x m2) { done = accesses w.done ++ record { stamp = suc p; core = c; made = Stored v; late = late } ∷ []; replies = data_of rs ++ [] }) (data_of rs)
    (store_completes d b.whole b.shaped n (shown d w m) u c p v f late faithful granted alone h.pending h.last (entry_txn d n w m b c p event.Store there h) ends fin.0 own refl)
    (append_nil (data_of rs)))
    (sym (accesses-append w.done (done_store c p v late ∷ [])))
  where
    past : DirOrder
    past = order_of d w

    dn : List DoneEntry
    dn = w.done ++ done_store c p v late ∷ []

    m2 : ℕ → Mark
    m2 = marked c (record { seen = suc p; last = (m c).last }) m

    x : World
    x = moved c y rs dn w

    u : Change
    u = record { core = (shown d x m2).core; stay = data_of rs; sent = []; written = words_of rs; busy = (shown d w m).busy; clean = is_clean d x }

    pl : IsPlaced d past c (core w c) (m c)
    pl = b.orderly.placed c there

    cores : c < length w.cores
    cores = let same = b.orderly.cores in omega (arith, same, there)

    inside : p < past.top
    inside = entry_inside d n w m b c p event.Store there h

    mine : (past.at p).core ≡ c
    mine = pl.last_own p h.last

    fresh : IsFresh (suc p) c past (view_of w m)
    fresh =
        let (owner, alone) = store_takes d n (past.dir_entry p) (past.at p) (b.known.handled p inside) h.does in
        let step = b.known.past.follows p inside in
        record { grant = h.last; owns = ap (λ (t : DirEntry). t.owner) step ∙ owner ∙ ap Some mine; alone = ap (λ (t : DirEntry). t.sharers) step ∙ alone; unspent = inl h.pending }

    granted : told.IsGranted d n (shown d w m) (suc p) c
    granted = granted_since d n w m b (suc p) c inside fresh

    own : (shown d x m2).core c ≡ record (told_of (m c) (core w c)) { seen = suc p; pending = false; stand = Level f; word = v; stamp = suc p }
    own = told_same d w m c y (record { seen = suc p; last = (m c).last }) rs dn cores
        ∙ told_as (record (told_of (m c) (core w c)) { seen = suc p; pending = false; stand = Level f; word = v; stamp = suc p }) (told_of (record { seen = suc p; last = (m c).last }) y) refl refl (rw done.desc refl) (ap stand_of done.desc) done.word done.stamp

    dirty : (z : ℕ) → (shown_entry d (shown d w m) (top_of (shown d w m))).owner ≡ Some z → is_clean d x z ≡ true → ⊥
    dirty z owner clean = by (z == c) refl
      where
        own_clean : is_clean_core d c y rs ≡ true → ⊥
        own_clean q = elim (clean_is d c y rs q) [
          | inl (rests, (r, at_level, clean)) ↦
              let same : f ≡ r = same_level f r (ap level_in (ap stand_of (sym done.desc)) ∙ at_level) in
              let un = subst (λ f. is_clean_state d f ≡ false) same (dirty_state d f fin.1) in cc (un, clean)
          | inr (inl some) ↦ let none = no_cleans d c y.line.desc rs done.none in cc (some, none)
          | inr (inr leaves) ↦ let none = ap leaves_clean done.slot in cc (none, leaves)
        ]
          where
            same_level : (t r : ℕ) → level_in (Level t) ≡ Some r → t ≡ r
            same_level t r e = cc

        other_clean : core x z ≡ core w z → is_clean d w z ≡ true
        other_clean same = elim (clean_is d z (core w z) rs (ap (λ u. is_clean_core d z u rs) (sym same) ∙ clean)) [
          | inl rests ↦ clean_from d z (core w z) w.replies (inl rests)
          | inr (inl some) ↦ clean_from d z (core w z) w.replies (inr (inl (done.fewer.cleans_less z (core w z).line.desc some)))
          | inr (inr leaves) ↦ clean_from d z (core w z) w.replies (inr (inr leaves))
        ]

        at_top : (past.dir_entry past.top).owner ≡ Some z
        at_top = ap (λ (t : DirEntry). t.owner) (sym (b.bridge.dir_entries past.top (omega arith))) ∙ subst (λ k. (shown_entry d (shown d w m) k).owner ≡ Some z) b.top owner

        by : (q : Bool) → (z == c) ≡ q → ⊥
        by true is = own_clean (ap (λ u. is_clean_core d c u rs) (sym (core_same c y rs dn w cores)) ∙ subst (λ z. is_clean d x z ≡ true) (eqb-true z c is) clean)
        by false is =
            let other : z ≢ c = λ q. let r = eq-eqb z c q in cc (r, is) in
            owner_dirty d n w m b (suc p) c inside fresh z at_top other (other_clean (core_other c z y rs dn w (ne_eq c z other)))

    alone : IsAlone d n (shown d w m) u (suc p) c v
    alone = record {
      same = λ z other. told_other d w m c z y (record { seen = suc p; last = (m c).last }) rs dn other;
      others = λ z low_z other. others_below d n w m b p c inside fresh mine z low_z other;
      stay = each_both (λ (q : Datum). q.core ≢ c → q.stamp < suc p) (λ (q : Datum). q.core ≢ c) (λ (q : Datum). q.stamp < suc p) (data_of rs) (λ q below other. below other)
          (done.fewer.data_stay (λ (q : Datum). q.core ≢ c → q.stamp < suc p) (data_below d n w m b p c fresh mine)) (none_to c rs done.none);
      told = done.fewer.data_stay (IsDatum d (entry_at (shown d w m).order) (state_at d n (shown d w m))) faithful.replies;
      written = done.fewer.words_stay (λ z. z ≡ v) (subst (EachIs (λ z. z ≡ v)) (sym (none_written d n w m b (suc p) c inside fresh)) tt);
      owned = λ none free. owner_or_busy d n w m b (suc p) c inside fresh
          (ap (λ (t : DirEntry). t.owner) (sym (b.bridge.dir_entries past.top (omega arith))) ∙ subst (λ k. (shown_entry d (shown d w m) k).owner ≡ None) b.top none) free;
      dirty = dirty;
    }

-- Loads

-- a load completes with data that its final is told by
pub load_told : (d : Draft) (n : ℕ) (w : World) (m : ℕ → Mark) (c p f : ℕ) (late : Bool) (a v : ℕ) (y : net.Core) (rs : List Reply) → IsJoined d n w m → c < n → IsPendingAt d w m c p event.Load
    → requestor_end d (state_at d n (shown d w m) p) c event.Load ≡ f → IsDatum d (entry_at (shown d w m).order) (state_at d n (shown d w m)) (datum_as a c v (suc p)) → IsDoneLine d w c p f v y rs
    → (is_clean_state d f ≡ true → is_clean d w c ≡ true) → IsFaithful d n (shown d w m)
    → IsFaithful d n (shown d (moved c y rs (w.done ++ done_load c p v late ∷ []) w) (marked c (record { seen = suc p; last = (m c).last }) m))
load_told d n w m c p f late a v y rs b there h ends datum done cleaned faithful =
    told_with_done d n (record (shown d x m2) { done = accesses w.done ++ record { stamp = suc p; core = c; made = Loaded v; late = late } ∷ [] }) (accesses dn)
    (told_with_replies d n (record (shown d x m2) { done = accesses w.done ++ record { stamp = suc p; core = c; made = Loaded v; late = late } ∷ []; replies = data_of rs ++ [] }) (data_of rs)
    (load_fills d b.whole b.shaped n (shown d w m) c p f late (datum_as a c v (suc p)) (shown d x m2).core (data_of rs) (words_of rs) (shown d w m).busy (is_clean d x)
    faithful there (let top = b.top in omega (arith, inside, top)) h.pending h.last (entry_txn d n w m b c p event.Load there h) datum refl ends (holds_after d n w m b c p event.Load there h)
    (λ z other. told_other d w m c z y (record { seen = suc p; last = (m c).last }) rs dn other) own
    (done.fewer.data_stay (IsDatum d (entry_at (shown d w m).order) (state_at d n (shown d w m))) faithful.replies)
    (done.fewer.words_stay (λ z. z ≡ (state_at d n (shown d w m) (top_of (shown d w m))).word) faithful.written)
    faithful.memory (λ z owner clean. faithful.clean z owner (fewer z clean)))
    (append_nil (data_of rs)))
    (sym (accesses-append w.done (done_load c p v late ∷ [])))
  where
    past : DirOrder
    past = order_of d w

    dn : List DoneEntry
    dn = w.done ++ done_load c p v late ∷ []

    m2 : ℕ → Mark
    m2 = marked c (record { seen = suc p; last = (m c).last }) m

    x : World
    x = moved c y rs dn w

    cores : c < length w.cores
    cores = let same = b.orderly.cores in omega (arith, same, there)

    inside : p < past.top
    inside = entry_inside d n w m b c p event.Load there h

    own : (shown d x m2).core c ≡ record (told_of (m c) (core w c)) { seen = suc p; pending = false; stand = Level f; word = v; stamp = suc p }
    own = told_same d w m c y (record { seen = suc p; last = (m c).last }) rs dn cores
        ∙ told_as (record (told_of (m c) (core w c)) { seen = suc p; pending = false; stand = Level f; word = v; stamp = suc p }) (told_of (record { seen = suc p; last = (m c).last }) y) refl refl (rw done.desc refl) (ap stand_of done.desc) done.word done.stamp

    fewer : (z : ℕ) → is_clean d x z ≡ true → is_clean d w z ≡ true
    fewer z clean = by (z == c) refl
      where
        own_clean : is_clean_core d c y rs ≡ true → is_clean d w c ≡ true
        own_clean q = elim (clean_is d c y rs q) [
          | inl (rests, (r, at_level, clean)) ↦
              let same : f ≡ r = same_level f r (ap level_in (ap stand_of (sym done.desc)) ∙ at_level) in
              cleaned (subst (λ f. is_clean_state d f ≡ true) (sym same) clean)
          | inr (inl some) ↦ absurd (let none = no_cleans d c y.line.desc rs done.none in cc (some, none))
          | inr (inr leaves) ↦ absurd (let none = ap leaves_clean done.slot in cc (none, leaves))
        ]
          where
            same_level : (t r : ℕ) → level_in (Level t) ≡ Some r → t ≡ r
            same_level t r e = cc

        other_clean : core x z ≡ core w z → is_clean d w z ≡ true
        other_clean same = elim (clean_is d z (core w z) rs (ap (λ u. is_clean_core d z u rs) (sym same) ∙ clean)) [
          | inl rests ↦ clean_from d z (core w z) w.replies (inl rests)
          | inr (inl some) ↦ clean_from d z (core w z) w.replies (inr (inl (done.fewer.cleans_less z (core w z).line.desc some)))
          | inr (inr leaves) ↦ clean_from d z (core w z) w.replies (inr (inr leaves))
        ]

        by : (q : Bool) → (z == c) ≡ q → is_clean d w z ≡ true
        by true is = subst (λ z. is_clean d w z ≡ true) (sym (eqb-true z c is))
            (own_clean (ap (λ u. is_clean_core d c u rs) (sym (core_same c y rs dn w cores)) ∙ subst (λ z. is_clean d x z ≡ true) (eqb-true z c is) clean))
        by false is = other_clean (core_other c z y rs dn w (ne_eq c z (λ q. let e = eq-eqb z c q in cc (e, is))))
