-- What is said stays so when the directory handles a request.
use Rattle.std.proofs.Common.{◌≡◌, ◌≢◌, ℕ, zero, suc, ◌<◌, ◌≤◌, arith, Bool, true, false, ◌&&◌, not, List, [], ◌∷◌, ◌++◌, length, Option, Some, None, refl, sym, ap, subst, ◌∙◌, ◌⊎◌, inl, inr}
use Rattle.std.specs.Prelude.{◌==◌, get_or, is_none, map, unwrap_or}
use Rattle.std.proofs.lemmas.Bool.{eqb-true, eq-eqb}
use Rattle.pg_perm.specs.declared.kinds.Event.{Event}
use Rattle.pg_perm.specs.declared.kinds.Event.TheVariants as event
use Rattle.pg_perm.specs.declared.kinds.Who.{Who}
use Rattle.pg_perm.specs.declared.kinds.Who.TheVariants.{Other, Sharer, Owner}
use Rattle.pg_perm.specs.declared.draft.Draft.{Draft}
use Rattle.pg_perm.specs.declared.draft.Action.{Action}
use Rattle.pg_perm.specs.declared.draft.Action.TheVariants as action
use Rattle.pg_terms.specs.Terms.{is, cache_is}
use Rattle.pg_terms.specs.Rows.{allows}
use Rattle.pg_directory.specs.DirEntries.{DirEntry, Request, is_among, who, entry_after}
use Rattle.pg_directory.specs.Sound.{IsSound}
use Rattle.pg_directory.specs.Requests.{IsHandled, action_of}
use Rattle.pg_directory.specs.Kinds.{Kind, Stale, Read_shared, Read_owned, Read_share, Read_keep, Read_drop, Write_reply, Write_drop, Write_count, Evict_owner, Evict_sharer, IsOfKind}
use Rattle.pg_directory.proofs.Holders.{who_of_owner, owner_of_who}
use Rattle.pg_atomic.specs.States.{State, reply_by}
use Rattle.pg_table.specs.declared.cache.Desc.{Desc}
use Rattle.pg_table.specs.declared.cache.Desc.TheVariants.{Stable, Ask, Leave}
use Rattle.pg_order.specs.Orders.{DirOrder, is_stale, passed_forward}
use Rattle.pg_order.proofs.Known.{IsKnown}
use Rattle.pg_order.proofs.Appended.{IsAppended}
use Rattle.pg_order.proofs.OneEntry.{requestor_holds, passed_by}
use Rattle.pg_messages.specs.declared.messages.Ask.{Ask as SentRequest}
use Rattle.pg_controllers.specs.Networks as net
use Rattle.pg_messages.specs.declared.messages.Reply.{Reply}
use Rattle.pg_controllers.specs.Directories.{is_busy, dir_entry_of}
use Rattle.pg_messages.specs.declared.messages.OrderEntry.{OrderEntry}
use Rattle.pg_controllers.specs.Worlds.{World, core, order_of, request_in, is_stable}
use Rattle.pg_orderly.specs.Orderly.{Mark, is_pending, is_share, MayBegin, IsLined, IsPlaced}
use Rattle.pg_orderly.proofs.Keeping.{marked}
use Rattle.pg_orderly.proofs.Order.{asked_after, asked_off}
use Rattle.pg_orderly.proofs.Handled.{IsHandling, directory_sends, request_of}
use Rattle.pg_safe.proofs.Ends.{none_after}
use Rattle.pg_safe.proofs.Requests.{request_handled}
use Rattle.pg_serial.specs.Serial.{Entry, entry_step, entry_at}
use Rattle.pg_serial.specs.Moves.{IsGiven}
use Rattle.pg_serial.specs.Faithful.{EachIs, IsFaithful, IsHeard, Level, Shown, Tells, shown_entry, run_of, state_at, top_of}
use Rattle.pg_serial.proofs.Runs.{directory_at}
use Rattle.pg_serial.proofs.Places.{has_accesses}
use Rattle.pg_serial.proofs.Allowed.{heard_allowed}
use Rattle.pg_serial.proofs.Orders.{order_done}
use Rattle.pg_serial.proofs.Completes.{held_word}
use Rattle.pg_refined.specs.Shown.{HasFlags, accesses, base_state, data_of, entry_of, is_clean, is_clean_core, leaves_clean, no_entry, shown, stand_of, told_of, words_of}
use Rattle.pg_refined.specs.Ordering.{HasSlots, IsOrdering, entry_for, memory_after}
use Rattle.pg_refined.proofs.Bridge.{live_asks, others_is, stale_evicts}
use Rattle.pg_refined.proofs.Data.{data-append, no_cleans, words-append}
use Rattle.pg_refined.proofs.Clean.{clean_is, clean_from}
use Rattle.pg_refined.proofs.Granted.{IsJoined, bounded}
use Rattle.pg_refined.proofs.Held.{owner_before}
use Rattle.pg_refined.proofs.Hits.{idle_none}
use Rattle.pg_refined.proofs.Lines.{first_plain}
use Rattle.pg_refined.proofs.Moves.{ne_eq, told_as}

-- Flags

got_old : (xs : List OrderEntry) (e : OrderEntry) (j : ℕ) → j < length xs → get_or (xs ++ e ∷ []) j no_entry ≡ get_or xs j no_entry
got_old [] e j low = absurd (omega (arith, low))
got_old (x ∷ xs) e zero low = refl
got_old (x ∷ xs) e (suc j) low = got_old xs e j (omega (arith, low))

got_new : (xs : List OrderEntry) (e : OrderEntry) → get_or (xs ++ e ∷ []) (length xs) no_entry ≡ e
got_new [] e = refl
got_new (x ∷ xs) e = got_new xs e

map_length : (xs : List OrderEntry) → length (map request_in xs) ≡ length xs
map_length [] = refl
map_length (x ∷ xs) = ap suc (map_length xs)

pub flags_more : (d : Draft) (w x : World) (c : ℕ) (a : SentRequest) → HasFlags d w → dir_entry_of w.directory ≡ (order_of d w).dir_entry (order_of d w).top → IsAppended d (order_of d w) (request_of c a) (order_of d x)
    → x.order ≡ w.order ++ entry_for d w c a ∷ [] → HasFlags d x
flags_more d w x c a flags directory more order j low = elim (let split : (j < p.top) ⊎ (j ≡ p.top) = old_or j (order_of d x).top more.top low in split) [
  | inl old ↦
      ap (λ xs. (get_or xs j no_entry).stale) order ∙ ap (λ (e : OrderEntry). e.stale) (got_old w.order (entry_for d w c a) j (let n = map_length w.order in omega (arith, n, old)))
      ∙ flags j old ∙ sym (ap (λ s. is_stale s ((order_of d x).at j)) (more.dir_entry j (omega (arith, old))) ∙ ap (is_stale (p.dir_entry j)) (more.at j old))
  | inr is ↦ subst (λ j. (get_or x.order j no_entry).stale ≡ is_stale ((order_of d x).dir_entry j) ((order_of d x).at j)) (sym is)
      (ap (λ xs. (get_or xs p.top no_entry).stale) order ∙ ap (λ k. (get_or (w.order ++ entry_for d w c a ∷ []) k no_entry).stale) (map_length w.order) ∙ ap (λ (e : OrderEntry). e.stale) (got_new w.order (entry_for d w c a))
      ∙ ap (λ s. is_stale s (request_of c a)) directory ∙ sym (ap (λ s. is_stale s ((order_of d x).at p.top)) (more.dir_entry p.top (omega arith)) ∙ ap (is_stale (p.dir_entry p.top)) more.new))
]
  where
    p : DirOrder
    p = order_of d w

    old_or : (j t : ℕ) → t ≡ suc p.top → j < t → (j < p.top) ⊎ (j ≡ p.top)
    old_or j t is low = at p.top is
      where
        at : (q : ℕ) → t ≡ suc q → (j < q) ⊎ (j ≡ q)
        at q is = search (arith, is, low)

-- Who owns

-- who owns and hasn't asked since owned all along
pub owned_since : (d : Draft) (n : ℕ) (p : DirOrder) → IsKnown d n p → (c a b : ℕ) → b ≤ p.top → ((j : ℕ) → a ≤ j → j < b → ((p.at j).core == c) ≡ false) → (p.dir_entry b).owner ≡ Some c
    → (k : ℕ) → a ≤ k → k ≤ b → (p.dir_entry k).owner ≡ Some c
owned_since d n p kn c a zero low others owns k from to = let z : k ≡ zero = omega (arith, to) in subst (λ k. (p.dir_entry k).owner ≡ Some c) (sym z) owns
owned_since d n p kn c a (suc b) low others owns k from to = elim (let split : (k ≡ suc b) ⊎ (k ≤ b) = last_or k b to in split) [
  | inl here ↦ subst (λ k. (p.dir_entry k).owner ≡ Some c) (sym here) owns
  | inr less ↦ owned_since d n p kn c a b (omega (arith, low)) (λ j lo hi. others j lo (omega (arith, hi))) (before (omega (arith, from, less))) k from less
]
  where
    last_or : (k b : ℕ) → k ≤ suc b → (k ≡ suc b) ⊎ (k ≤ b)
    last_or k b to = search arith

    before : a ≤ b → (p.dir_entry b).owner ≡ Some c
    before more = elim (owner_before d n (p.dir_entry b) (p.at b) c (kn.handled b low) (ap (λ (s : DirEntry). s.owner) (sym (kn.past.follows b low)) ∙ owns)) [
      | inl old ↦ old
      | inr asks ↦ absurd (let ne = others b more (omega arith) in let is = eq-eqb (p.at b).core c (sym asks) in cc (ne, is))
    ]

-- Lines that ask

asked_level : (d : Draft) (p : DirOrder) (c : ℕ) (l : net.Line) (m : Mark) (x : Desc) (a : SentRequest) → IsLined d p c l m x (Some a) → stand_of x ≡ Level (base_state x)
asked_level d p c l m (Stable s) a h = refl
asked_level d p c l m (Leave s) a h = refl
asked_level d p c l m (Ask e s ph t) a h = rw (h.3, first_plain d e s ph h.2) refl

asked_store : (d : Draft) (p : DirOrder) (c : ℕ) (l : net.Line) (m : Mark) (x : Desc) (a : SentRequest) → IsLined d p c l m x (Some a) → a.event ≡ event.Store → cache_is (allows event.Store) d (base_state x) ≡ false
asked_store d p c l m (Stable s) a h is = absurd h
asked_store d p c l m (Leave s) a h is = let evict = h.2 in cc (evict, is)
asked_store d p c l m (Ask e s ph t) a h is = (subst (λ e. MayBegin d e s ph) (sym h.4 ∙ is) h.2).0

asked_waits : (d : Draft) (p : DirOrder) (c : ℕ) (l : net.Line) (m : Mark) (x : Desc) (a : SentRequest) → IsLined d p c l m x (Some a) → is_stable x ≡ false
asked_waits d p c l m (Stable s) a h = absurd h
asked_waits d p c l m (Leave s) a h = refl
asked_waits d p c l m (Ask e s ph t) a h = refl

-- Kinds

-- only an owner's evict or a share leaves no owner where there was one
loses_owner : (d : Draft) (n : ℕ) (s : DirEntry) (q : Request) (o : ℕ) → IsSound d n s → IsHandled d n s q → s.owner ≡ Some o → (entry_after d s q).owner ≡ None
    → ((q.event ≡ event.Evict) × (who s q.core ≡ Owner)) ⊎ (is_share d (passed_forward d s q) ≡ true)
loses_owner d n s q o so h owner gone = let (k, next, of) = h.kind in by k next of
  where
    still : (t : Option ℕ) → (entry_after d s q).owner ≡ t → t ≡ s.owner → ⊥
    still t is same = cc (is, same, owner, gone)

    asker : (next : ℕ) → (entry_after d s q).owner ≡ Some q.core → ⊥
    asker next is = cc (is, gone)

    evicts : (e : Event) → q.event ≡ e → who s q.core ≡ Owner → (entry_after d s q).sharers ≡ s.sharers → (q.event ≡ event.Evict) × (who s q.core ≡ Owner)
    evicts event.Evict is owns same = (is, owns)
    evicts event.Load is owns same = absurd (never (λ z. cc (z, is)) owns same)
      where
        never : q.event ≢ event.Evict → who s q.core ≡ Owner → (entry_after d s q).sharers ≡ s.sharers → ⊥
        never asks owns same =
            let (r, row) = h.row (λ z. absurd (asks z)) in
            let none : is_among (entry_after d s q).sharers q.core ≡ false = ap (λ xs. is_among xs q.core) same ∙ (so.owner q.core (owner_of_who s q.core owns)).1 in
            requestor_holds d s q r row asks (rw (gone, none) refl)
    evicts event.Store is owns same = absurd (never (λ z. cc (z, is)) owns same)
      where
        never : q.event ≢ event.Evict → who s q.core ≡ Owner → (entry_after d s q).sharers ≡ s.sharers → ⊥
        never asks owns same =
            let (r, row) = h.row (λ z. absurd (asks z)) in
            let none : is_among (entry_after d s q).sharers q.core ≡ false = ap (λ xs. is_among xs q.core) same ∙ (so.owner q.core (owner_of_who s q.core owns)).1 in
            requestor_holds d s q r row asks (rw (gone, none) refl)

    by : (k : Kind) (next : ℕ) → IsOfKind d s q k next → ((q.event ≡ event.Evict) × (who s q.core ≡ Owner)) ⊎ (is_share d (passed_forward d s q) ≡ true)
    by Stale next of = absurd (let e = ap (λ (t : DirEntry). t.owner) of.knows in cc (e, gone, owner))
    by Read_shared next of = absurd (let e = ap (λ (t : DirEntry). t.owner) of.knows in cc (e, gone, owner))
    by Read_owned next of = absurd (let e = ap (λ (t : DirEntry). t.owner) of.knows in cc (e, gone))
    by (Read_share f) next of =
        let apart = owner_apart of.known.0 in
        inr (ap (is_share d) (passed_by d s q (Read_share f) next o of owner apart) ∙ of.known.2)
      where
        owner_apart : who s q.core ≡ Other → (q.core == o) ≡ false
        owner_apart none = ne_eq q.core o (λ same. let owns = who_of_owner s q.core (owner ∙ ap Some same) in cc (owns, none))
    by (Read_keep f) next of = absurd (let e = ap (λ (t : DirEntry). t.owner) of.knows in cc (e, gone, owner))
    by (Read_drop f) next of = absurd (let e = ap (λ (t : DirEntry). t.owner) of.knows in cc (e, gone))
    by Write_reply next of = absurd (let e = ap (λ (t : DirEntry). t.owner) of.knows in cc (e, gone))
    by (Write_drop f) next of = absurd (let e = ap (λ (t : DirEntry). t.owner) of.knows in cc (e, gone))
    by Write_count next of = absurd (let e = ap (λ (t : DirEntry). t.owner) of.knows in cc (e, gone))
    by Evict_owner next of = inl (evicts q.event refl of.known.0 (ap (λ (t : DirEntry). t.sharers) of.knows))
    by Evict_sharer next of = absurd (let e = ap (λ (t : DirEntry). t.owner) of.knows in cc (e, gone, owner))

-- The request

map-append : (xs : List OrderEntry) (e : OrderEntry) → map entry_of (xs ++ e ∷ []) ≡ map entry_of xs ++ entry_of e ∷ []
map-append [] e = refl
map-append (x ∷ xs) e = ap (λ t. entry_of x ∷ t) (map-append xs e)

directory_words : (o : Option Action) (c v i k : ℕ) → words_of (directory_sends o c v i k) ≡ []
directory_words None c v i k = refl
directory_words (Some (action.Reply r)) c v i k = refl
directory_words (Some (action.Forward f)) c v i k = refl
directory_words (Some action.Count) c v i k = refl

append_nil : {A : Type 0} (xs : List A) → xs ++ [] ≡ xs
append_nil [] = refl
append_nil (x ∷ xs) = ap (λ t. x ∷ t) (append_nil xs)

-- the same run, written otherwise
shown_as : (d : Draft) (n : ℕ) (s t : Shown) → IsFaithful d n s → s.order ≡ t.order → s.done ≡ t.done → s.replies ≡ t.replies → s.written ≡ t.written → s.core ≡ t.core → s.memory ≡ t.memory → s.busy ≡ t.busy → s.clean ≡ t.clean
    → IsFaithful d n t
shown_as d n s t f order done replies written cores memory busy clean =
    subst (λ z. IsFaithful d n (record t { order = z })) order (subst (λ z. IsFaithful d n (record t { order = s.order; done = z })) done
    (subst (λ z. IsFaithful d n (record t { order = s.order; done = s.done; replies = z })) replies (subst (λ z. IsFaithful d n (record t { order = s.order; done = s.done; replies = s.replies; written = z })) written
    (subst (λ z. IsFaithful d n (record t { order = s.order; done = s.done; replies = s.replies; written = s.written; core = z })) cores
    (subst (λ z. IsFaithful d n (record t { order = s.order; done = s.done; replies = s.replies; written = s.written; core = s.core; memory = z })) memory
    (subst (λ z. IsFaithful d n (record t { order = s.order; done = s.done; replies = s.replies; written = s.written; core = s.core; memory = s.memory; busy = z })) busy
    (subst (λ z. IsFaithful d n (record t { order = s.order; done = s.done; replies = s.replies; written = s.written; core = s.core; memory = s.memory; busy = s.busy; clean = z })) clean f)))))))

pub order_told : (d : Draft) (n : ℕ) (w : World) (m : ℕ → Mark) (c : ℕ) (a : SentRequest) (x : World) → IsJoined d n w m → HasSlots n w → c < n → IsHandling d n w m c a x → IsOrdering d w c a x
    → IsJoined d n x (marked c (record { seen = (m c).seen; last = suc (order_of d w).top }) m) → IsFaithful d n (shown d w m)
    → IsFaithful d n (shown d x (marked c (record { seen = (m c).seen; last = suc (order_of d w).top }) m))
order_told d n w m c a x b slots there h more b2 f =
    shown_as d n (record (shown d w m) { order = map entry_of w.order ++ e ∷ []; core = (shown d x m2).core; replies = data_of w.replies ++ data_of given; memory = x.directory.memory; busy = is_busy x.directory.desc; clean = is_clean d x })
    (shown d x m2)
    (order_done d b.whole b.shaped n (shown d w m) e st (shown d x m2).core (data_of given) x.directory.memory (is_busy x.directory.desc) (is_clean d x)
    f (bounded d n w m b) there level allowed others own gives keeps cleans)
    (sym (ap (map entry_of) more.order ∙ map-append w.order (entry_for d w c a)))
    (ap accesses (sym more.done))
    (sym (ap data_of h.replies ∙ data-append w.replies given))
    (sym (ap words_of h.replies ∙ words-append w.replies given ∙ ap (λ t. words_of w.replies ++ t) (directory_words act c w.directory.memory _ _) ∙ append_nil (words_of w.replies)))
    refl refl refl refl
  where
    p : DirOrder
    p = order_of d w

    m2 : ℕ → Mark
    m2 = marked c (record { seen = (m c).seen; last = suc p.top }) m

    q : Request
    q = request_of c a

    s : DirEntry
    s = dir_entry_of w.directory

    act : Option Action
    act = action_of d s q

    given : List Reply
    given = directory_sends act c w.directory.memory (Rattle.pg_order.specs.Orders.acks_needed s q) (suc p.top)

    e : Entry
    e = entry_of (entry_for d w c a)

    st : ℕ
    st = base_state (core w c).line.desc

    pl : IsPlaced d p c (core w c) (m c)
    pl = b.orderly.placed c there

    lined : IsLined d p c (core w c).line (m c) (core w c).line.desc (Some a)
    lined = subst (IsLined d p c (core w c).line (m c) (core w c).line.desc) h.slot pl.line

    level : stand_of (core w c).line.desc ≡ Level st
    level = asked_level d p c (core w c).line (m c) (core w c).line.desc a lined

    behind : (m c).last ≤ (m c).seen
    behind = asked_after d p c (core w c).line (m c) (core w c).line.desc a lined

    alone : (j : ℕ) → (m c).seen ≤ j → j < p.top → ((p.at j).core == c) ≡ false
    alone = none_after d p c (core w c) (m c) pl (m c).seen p.top behind (omega arith)

    viewed : (m c).seen ≤ p.top
    viewed = let upto = pl.upto in omega (arith, upto)

    directory_top : shown_entry d (shown d w m) (top_of (shown d w m)) ≡ s
    directory_top = ap (shown_entry d (shown d w m)) b.top ∙ b.bridge.dir_entries p.top (omega arith) ∙ sym b.orderly.directory

    idle : is_pending (core w c) ≡ false
    idle = ap (λ o. not (is_stable (core w c).line.desc) && is_none o) h.slot ∙ no (not (is_stable (core w c).line.desc))
      where
        no : (t : Bool) → (t && false) ≡ false
        no true = refl
        no false = refl

    handled : IsHandled d n s q
    handled = request_handled d n w m c a b.whole b.shaped b.orderly there h.slot

    sound : IsSound d n s
    sound = subst (IsSound d n) (sym b.orderly.directory) (b.known.sound p.top (omega arith))

    heard : IsHeard d n (shown d w m) e st
    heard = record {
      inside = there;
      level = level;
      view = let top = b.top in omega (arith, viewed, top);
      others = λ j lo hi. let top = b.top in others_is d p _ _ b.bridge j c (omega (arith, hi, top)) (alone j lo (omega (arith, hi, top)));
      stale = λ stale. ap (λ (t : DirEntry). who t c) directory_top ∙ (stale_evicts s q stale).1;
      load = λ load. ap (λ (t : DirEntry). who t c) (directory_top ∙ b.orderly.directory) ∙ subst (λ ev. Rattle.pg_directory.specs.Sound.IsLegalAs d (p.dir_entry p.top).dir (who (p.dir_entry p.top) c) ev) load h.legal;
      store = λ store. asked_store d p c (core w c).line (m c) (core w c).line.desc a lined store;
      evict = λ live evict none. live_asks s q live (ap (λ (t : DirEntry). who t c) (sym directory_top) ∙ none) evict;
    }

    allowed : Rattle.pg_atomic.specs.Steps.IsAllowed d (state_at d n (shown d w m) (top_of (shown d w m))) (entry_step e)
    allowed = heard_allowed d b.whole b.shaped n (shown d w m) e st f heard

    others : (i : ℕ) → i ≢ c → (shown d x m2).core i ≡ (shown d w m).core i
    others i other = let ne = ne_eq c i other in ap (λ z. told_of (m2 i) z) (h.others i ne) ∙ ap (λ (t : Bool). told_of (Rattle.std.specs.Prelude.if◌then◌else◌ t (record { seen = (m c).seen; last = suc p.top }) (m i)) (core w i)) ne

    own : (shown d x m2).core c ≡ record (told_of (m c) (core w c)) { pending = true; last = suc (top_of (shown d w m)) }
    own =
        let is : (c == c) ≡ true = eq-eqb c c refl in
        ap (λ z. told_of (m2 c) z) h.own ∙ ap (λ (t : Bool). told_of (Rattle.std.specs.Prelude.if◌then◌else◌ t (record { seen = (m c).seen; last = suc p.top }) (m c)) (asked_off d (order_of d x) p.top c (core w c))) is
        ∙ told_as (record (told_of (m c) (core w c)) { pending = true; last = suc (top_of (shown d w m)) }) (told_of (record { seen = (m c).seen; last = suc p.top }) (asked_off d (order_of d x) p.top c (core w c)))
        refl (ap suc (sym b.top)) (ap (λ t. not t && true) (asked_waits d p c (core w c).line (m c) (core w c).line.desc a lined)) refl refl refl

    now : State
    now = state_at d n (shown d w m) (top_of (shown d w m))

    memory_known : s.owner ≡ None → w.directory.memory ≡ now.word
    memory_known none = f.memory (ap (λ (t : DirEntry). t.owner) directory_top ∙ none) h.free

    gives : EachIs (IsGiven d now (top_of (shown d w m)) e) (data_of given)
    gives = by act refl
      where
        by : (o : Option Action) → act ≡ o → EachIs (IsGiven d now (top_of (shown d w m)) e) (data_of (directory_sends o c w.directory.memory (Rattle.pg_order.specs.Orders.acks_needed s q) (suc p.top)))
        by None is = tt
        by (Some (action.Forward g)) is = tt
        by (Some action.Count) is = tt
        by (Some (action.Reply r)) is =
            let at_directory : now.entry ≡ s = (directory_at d n (run_of n (shown d w m)) (has_accesses n (shown d w m).order (shown d w m).done) (top_of (shown d w m))).1 ∙ directory_top in
            ((ap suc (sym b.top), refl, memory_known (handled.memory r is), ap (λ (t : DirEntry). reply_by d now (action_of d t q)) at_directory ∙ ap (reply_by d now) is), tt)

    -- the owner's word
    owner_word : s.owner ≡ Some c → (core w c).line.word ≡ now.word
    owner_word owns =
        let owned = owned_since d n p b.known c (m c).seen p.top (omega arith) alone (ap (λ (t : DirEntry). t.owner) (sym b.orderly.directory) ∙ owns) in
        let there_owns = who_of_owner (p.dir_entry (m c).seen) c (owned (m c).seen (omega arith) viewed) in
        let t = f.cores c there in
        let told_at = subst (Tells (shown_entry d (shown d w m)) (state_at d n (shown d w m)) c (m c).seen (m c).last (core w c).line.word (core w c).line.stamp) level t.tells
        (λ none. let y = ap (λ (t : DirEntry). who t c) (sym (b.bridge.dir_entries (m c).seen viewed)) ∙ none in cc (there_owns, y)) in
        let top = b.top in
        told_at.1 ∙ sym (held_word d b.whole b.shaped n (shown d w m) c (m c).seen (top_of (shown d w m)) f there t.seen (omega (arith, viewed, top)) (omega arith)
        (record {
          others = λ j lo hi. others_is d p _ _ b.bridge j c (omega (arith, hi, top)) (alone j lo (omega (arith, hi, top)));
          owners = λ k o lt le owner.
              let mine = owned k (omega (arith, lt)) (omega (arith, le, top)) in
              let here : (p.dir_entry k).owner ≡ Some o = ap (λ (t : DirEntry). t.owner) (sym (b.bridge.dir_entries k (omega (arith, le, top)))) ∙ owner in
              let same : o ≡ c = cc (mine, here) in (subst (λ o. o < n) (sym same) there, inl same);
        }) (top_of (shown d w m)) (omega (arith, viewed, top)) (omega arith))

    evicted : a.event ≡ event.Evict → who s c ≡ Owner → x.directory.memory ≡ now.word
    evicted evict owns = more.memory ∙ ap (λ ev. memory_after ev (who s c) a.word w.directory.memory) evict ∙ ap (λ h. memory_after event.Evict h a.word w.directory.memory) owns ∙ by a.word refl
      where
        by : (o : Option ℕ) → a.word ≡ o → unwrap_or o w.directory.memory ≡ now.word
        by None is = f.clean c (ap (λ (t : DirEntry). t.owner) directory_top ∙ owner_of_who s c owns)
            (clean_from d c (core w c) w.replies (inr (inr (ap leaves_clean h.slot ∙ rw (evict, is) refl))))
        by (Some v) is = slots c v a there h.slot is ∙ owner_word (owner_of_who s c owns)

    -- either the owner evicts, or memory stays
    which : ((a.event ≡ event.Evict) × (who s c ≡ Owner)) ⊎ (((a.event ≡ event.Evict) × (who s c ≡ Owner) → ⊥) × (x.directory.memory ≡ w.directory.memory))
    which = by a.event refl (who s c) refl
      where
        by : (ev : Event) → a.event ≡ ev → (h : Who) → who s c ≡ h → ((a.event ≡ event.Evict) × (who s c ≡ Owner)) ⊎ (((a.event ≡ event.Evict) × (who s c ≡ Owner) → ⊥) × (x.directory.memory ≡ w.directory.memory))
        by event.Evict ei Owner hi = inl (ei, hi)
        by event.Evict ei Sharer hi = inr ((λ z. let y = z.1 in cc (y, hi)), more.memory ∙ ap (λ ev. memory_after ev (who s c) a.word w.directory.memory) ei ∙ ap (λ h. memory_after event.Evict h a.word w.directory.memory) hi)
        by event.Evict ei Other hi = inr ((λ z. let y = z.1 in cc (y, hi)), more.memory ∙ ap (λ ev. memory_after ev (who s c) a.word w.directory.memory) ei ∙ ap (λ h. memory_after event.Evict h a.word w.directory.memory) hi)
        by event.Load ei h hi = inr ((λ z. let y = z.0 in cc (y, ei)), more.memory ∙ ap (λ ev. memory_after ev (who s c) a.word w.directory.memory) ei)
        by event.Store ei h hi = inr ((λ z. let y = z.0 in cc (y, ei)), more.memory ∙ ap (λ ev. memory_after ev (who s c) a.word w.directory.memory) ei)

    w2 : Shown
    w2 = record (shown d w m) { order = map entry_of w.order ++ e ∷ []; core = (shown d x m2).core; replies = data_of w.replies ++ data_of given; memory = x.directory.memory; busy = is_busy x.directory.desc; clean = is_clean d x }

    directory_after : shown_entry d w2 (suc (top_of (shown d w m))) ≡ entry_after d s q
    directory_after =
        let top2 = h.past.top in
        ap (λ o. Rattle.pg_serial.specs.Groups.dir_entry_after d (entry_at o) (suc (top_of (shown d w m)))) (sym (ap (map entry_of) more.order ∙ map-append w.order (entry_for d w c a)))
        ∙ ap (shown_entry d (shown d x m2)) (ap suc b.top) ∙ b2.bridge.dir_entries (suc p.top) (omega (arith, top2)) ∙ h.past.after ∙ ap (λ t. entry_after d t q) (sym b.orderly.directory)

    keeps : (shown_entry d w2 (suc (top_of (shown d w m)))).owner ≡ None → is_busy x.directory.desc ≡ false → x.directory.memory ≡ now.word
    keeps none free = elim which [
      | inl (evict, owns) ↦ evicted evict owns
      | inr (not_so, stays) ↦ stays ∙ memory_known (owner_gone s.owner refl not_so (ap (λ (t : DirEntry). t.owner) (sym directory_after) ∙ none))
    ]
      where
        owner_gone : (o : Option ℕ) → s.owner ≡ o → ((a.event ≡ event.Evict) × (who s c ≡ Owner) → ⊥) → (entry_after d s q).owner ≡ None → s.owner ≡ None
        owner_gone None is not_so gone = is
        owner_gone (Some z) is not_so gone = absurd (elim (loses_owner d n s q z sound handled is gone) [ inl evict ↦ not_so evict | inr share ↦ let busy = h.busy ∙ share in cc (busy, free) ])

    cleans : (z : ℕ) → (shown_entry d w2 (suc (top_of (shown d w m)))).owner ≡ Some z → is_clean d x z ≡ true → x.directory.memory ≡ now.word
    cleans z owner clean = elim which [
      | inl (evict, owns) ↦ evicted evict owns
      | inr (not_so, stays) ↦ stays ∙ by_owner s.owner refl
    ]
      where
        owner_after : (entry_after d s q).owner ≡ Some z
        owner_after = ap (λ (t : DirEntry). t.owner) (sym directory_after) ∙ owner

        -- where there was an owner, the directory sends nothing
        sends_none : (y : ℕ) → s.owner ≡ Some y → given ≡ []
        sends_none y is = by act refl
          where
            by : (o : Option Action) → act ≡ o → directory_sends o c w.directory.memory (Rattle.pg_order.specs.Orders.acks_needed s q) (suc p.top) ≡ []
            by None at = refl
            by (Some (action.Forward g)) at = refl
            by (Some action.Count) at = refl
            by (Some (action.Reply r)) at = absurd (let none = handled.memory r at in cc (none, is))

        replies_same : (y : ℕ) → s.owner ≡ Some y → x.replies ≡ w.replies
        replies_same y is = h.replies ∙ ap (λ t. w.replies ++ t) (sends_none y is) ∙ append_nil w.replies

        by_owner : (o : Option ℕ) → s.owner ≡ o → w.directory.memory ≡ now.word
        by_owner None is = memory_known is
        by_owner (Some y) is = at (z == c) refl
          where
            old_clean : (z == c) ≡ false → is_clean d w z ≡ true
            old_clean ne_zc =
                let ne = ne_eq c z (λ t. let r = eq-eqb z c t in cc (r, ne_zc)) in
                ap (λ u. is_clean_core d z (core w z) u) (sym (replies_same y is)) ∙ ap (λ u. is_clean_core d z u x.replies) (sym (h.others z ne)) ∙ clean

            own_clean : is_clean_core d c (core x c) x.replies ≡ true → ⊥
            own_clean t =
                let t2 : is_clean_core d c (asked_off d (order_of d x) p.top c (core w c)) w.replies ≡ true = ap (λ u. is_clean_core d c (asked_off d (order_of d x) p.top c (core w c)) u) (sym (replies_same y is)) ∙ ap (λ u. is_clean_core d c u x.replies) (sym h.own) ∙ t in
                elim (clean_is d c (asked_off d (order_of d x) p.top c (core w c)) w.replies t2) [
                  | inl (rests, rest) ↦ let waits : is_pending (asked_off d (order_of d x) p.top c (core w c)) ≡ true = ap (λ t. not t && true) (asked_waits d p c (core w c).line (m c) (core w c).line.desc a lined) in cc (rests, waits)
                  | inr (inl some) ↦ let none = no_cleans d c (core w c).line.desc w.replies (idle_none d n w m b c there idle) in cc (none, some)
                  | inr (inr leaves) ↦ cc leaves
                ]

            at : (t : Bool) → (z == c) ≡ t → w.directory.memory ≡ now.word
            at true same = absurd (own_clean (subst (λ z. is_clean d x z ≡ true) (eqb-true z c same) clean))
            at false ne = elim (owner_before d n s q z handled owner_after) [
              | inl old ↦ f.clean z (ap (λ (t : DirEntry). t.owner) directory_top ∙ old) (old_clean ne)
              | inr asks ↦ absurd (let r = eq-eqb z c asks in cc (r, ne))
            ]
