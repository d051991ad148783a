-- The parts of an orderly world, each as something that computes.
use Rattle.std.proofs.Common.{◌≡◌, ℕ, zero, suc, ◌-◌, ◌<◌, ◌≤◌, arith, Bool, true, false, ◌&&◌, ◌||◌, List, [], ◌∷◌, Option, Some, None, refl, ap, inl, inr}
use Rattle.std.specs.Prelude.{◌==◌, filter, nat_lt, is_some, length, map, if◌then◌else◌}
use Rattle.std.specs.Option.{option_map, option_and_then}
use Rattle.std.proofs.lemmas.Bool.{eqb-true, eqb-false, eq-eqb, and_parts, ltb-true, ltb-false, lt-ltb}
use Rattle.pg_perm.specs.declared.kinds.Event.{Event}
use Rattle.pg_perm.specs.declared.kinds.Event.TheVariants as event
use Rattle.pg_perm.specs.declared.kinds.Who.{Who}
use Rattle.pg_perm.specs.declared.kinds.Who.TheVariants.{Other, Sharer, Owner}
use Rattle.pg_perm.specs.declared.kinds.FwdClass.TheVariants.{Inv, Share}
use Rattle.pg_perm.specs.declared.kinds.Op.{Op}
use Rattle.pg_perm.specs.declared.draft.Draft.{Draft}
use Rattle.pg_perm.specs.declared.draft.RowLine.{RowLine}
use Rattle.pg_perm.specs.declared.draft.Action.{Action}
use Rattle.pg_perm.specs.declared.draft.Action.TheVariants as action
use Rattle.pg_perm.specs.declared.draft.ReplyName.TheVariants as reply
use Rattle.pg_terms.specs.Terms.{is, is_read_owner, cache_is, lists, has_class, same_event, forward_of}
use Rattle.pg_terms.specs.Due.{forward_in}
use Rattle.pg_terms.specs.Rows.{reply_to}
use Rattle.pg_directory.specs.DirEntries.{DirEntry, Request, is_among, who, row_of, entry_after, initial_entry}
use Rattle.pg_directory.specs.Sends.{forward_by_row, forward_sent}
use Rattle.pg_directory.specs.Sound.{fits, IsLegalAs}
use Rattle.pg_directory.specs.Requests.{IsReplyBy, action_of}
use Rattle.pg_table.specs.declared.cache.Desc.{Desc}
use Rattle.pg_table.specs.declared.cache.Desc.TheVariants.{Stable, Ask, Leave}
use Rattle.pg_table.specs.declared.cache.Phase.{Phase}
use Rattle.pg_table.specs.declared.cache.Phase.TheVariants.{D, Ad, Ac, A}
use Rattle.pg_table.specs.declared.cache.Tag.{Tag}
use Rattle.pg_table.specs.declared.cache.Tag.TheVariants.{Plain}
use Rattle.pg_messages.specs.declared.messages.Ask.{Ask as SentRequest}
use Rattle.pg_messages.specs.declared.messages.Reply.{Reply}
use Rattle.pg_messages.specs.declared.messages.Reply.TheVariants.{Data, InvAck, WbData}
use Rattle.pg_order.specs.Messages.{sent_between, tally}
use Rattle.pg_order.specs.Orders.{DirOrder, IsDirOrder, dir_order, dir_entry_at, request_at, acks_needed, passed_forward, entry_message}
use Rattle.pg_order.specs.Views.{View, is_unserved, IsWaitedFor, IsWaiting}
use Rattle.pg_controllers.specs.Networks.{Line, Core, event_of}
use Rattle.pg_controllers.specs.Directories.{is_busy, dir_entry_of}
use Rattle.pg_controllers.specs.Worlds.{World, core, order_of, request_in}
use Rattle.pg_orderly.specs.Orderly.{Mark, view_of, Touches, MayBegin, HasPending, IsLevel, IsOrdered, IsPhase, IsNeed, IsAhead, is_ahead, IsAsking, IsLined, IsPlaced, IsPromised, ArePromised, IsAnswered, is_granted, is_write_back, IsBusy, IsOrderly, tag_from, is_deferred}
use Rattle.pg_worked.proofs.Each.{Each, each, EachOf, each_of, When, when, WhereSome, where_some, AtStamp, at_stamp, any_below, found, is_there}

-- no draft here has more states
abbrev pub most_states : ℕ
most_states = 16

-- Legal requests

abbrev may_upgrade : Draft → ℕ → ℕ → Bool
may_upgrade d dir x = lists d dir x && cache_is is_read_owner d x

abbrev LegalBy : Draft → ℕ → Who → Event → Type 0
LegalBy d dir w event.Load = w ≡ Other
LegalBy d dir Owner event.Store = any_below (may_upgrade d dir) most_states ≡ true
LegalBy d dir w event.Store = Unit {0}
LegalBy d dir w event.Evict = Unit {0}

legal_by : (d : Draft) (dir : ℕ) (w : Who) (e : Event) → LegalBy d dir w e → IsLegalAs d dir w e
legal_by d dir w event.Load h = h
legal_by d dir Owner event.Store h = λ is. let (x, both) = found (may_upgrade d dir) most_states h in let parts = and_parts (lists d dir x) (cache_is is_read_owner d x) both in (x, parts.0, parts.1)
legal_by d dir Sharer event.Store h = λ is. cc
legal_by d dir Other event.Store h = λ is. cc
legal_by d dir w event.Evict h = tt

pub record IsEntry (d : Draft) (n : ℕ) (p : DirOrder) (j : ℕ) : Type 0 where
  pub inside : nat_lt (p.at j).core n ≡ true
  pub legal : LegalBy d (p.dir_entry j).dir (who (p.dir_entry j) (p.at j).core) (p.at j).event
  pub follows : p.dir_entry (suc j) ≡ entry_after d (p.dir_entry j) (p.at j)

-- Lines

abbrev IsAsked : DirOrder → Event → ℕ → Type 0
IsAsked p e zero = ⊥
IsAsked p e (suc j) = (p.at j).event ≡ e

abbrev IsPendingAs : Line → Event → Type 0
IsPendingAs l e = option_map event_of l.pending ≡ Some e

abbrev Needs : Phase → ℕ → Line → Type 0
Needs A n l = (l.need ≡ Some n) × ((l.got == n) ≡ false)
Needs ph n l = l.need ≡ None

pub record GoesAhead (d : Draft) (p : DirOrder) (c : ℕ) (l : Line) (m : Mark) (e : Event) (s : ℕ) (ph : Phase) (t : Tag) : Type 0 where
  pub ordered : IsAsked p e m.last
  pub low : nat_lt m.seen m.last ≡ false
  pub state : AtStamp (λ j. fits d (p.dir_entry j) c s ≡ true) m.last
  pub phase : IsPhase d e s ph
  pub tag : tag_from d Plain (sent_between (entry_message d p c) m.last (m.seen - m.last)) ≡ Some t
  pub deferred : l.deferred ≡ filter (is_deferred d) (sent_between (entry_message d p c) m.last (m.seen - m.last))
  pub need : AtStamp (λ j. Needs ph (acks_needed (p.dir_entry j) (p.at j)) l) m.last

abbrev Asks : Draft → DirOrder → ℕ → Line → Mark → Event → ℕ → Phase → Tag → Bool → Type 0
Asks d p c l m e s ph t true = GoesAhead d p c l m e s ph t
Asks d p c l m e s ph t false = IsLevel d p c l m s × MayBegin d e s ph × IsAsked p e m.last × (nat_lt m.seen m.last ≡ true)

abbrev Lines : Draft → DirOrder → ℕ → Line → Mark → Desc → Option SentRequest → Type 0
Lines d p c l m (Stable s) None = IsLevel d p c l m s × (l.pending ≡ None) × (nat_lt m.seen m.last ≡ false)
Lines d p c l m (Stable s) (Some a) = ⊥
Lines d p c l m (Ask e s ph t) None = IsPendingAs l e × Asks d p c l m e s ph t (is_ahead ph t)
Lines d p c l m (Ask e s ph t) (Some a) = IsPendingAs l e × IsLevel d p c l m s × MayBegin d e s ph × (t ≡ Plain) × (a.event ≡ e) × (nat_lt m.seen m.last ≡ false)
Lines d p c l m (Leave s) None = IsPendingAs l event.Evict × IsLevel d p c l m s × IsAsked p event.Evict m.last × (nat_lt m.seen m.last ≡ true)
Lines d p c l m (Leave s) (Some a) = IsPendingAs l event.Evict × IsLevel d p c l m s × (a.event ≡ event.Evict) × (nat_lt m.seen m.last ≡ false)

ordered_at : (p : DirOrder) (m : Mark) (e : Event) (k : ℕ) → m.last ≡ k → IsAsked p e k → IsOrdered p m e
ordered_at p m e zero is h = absurd h
ordered_at p m e (suc j) is h = record { entry = j; last = is; event = h }

ordered_by : (p : DirOrder) (m : Mark) (e : Event) → IsAsked p e m.last → IsOrdered p m e
ordered_by p m e h = ordered_at p m e m.last refl h

pending_as : (l : Line) (e : Event) → IsPendingAs l e → HasPending l e
pending_as l e h = at l.pending refl h
  where
    at : (o : Option Op) → l.pending ≡ o → option_map event_of o ≡ Some e → HasPending l e
    at None is h = cc
    at (Some o) is h = (o, is, let same : event_of o ≡ e = cc in same)

needs : (ph : Phase) (n : ℕ) (l : Line) → Needs ph n l → IsNeed ph n l
needs A n l h = (h.0, λ same. at same h.1)
  where
    at : l.got ≡ n → (l.got == n) ≡ false → ⊥
    at same other = eqb-false l.got n other same
needs D n l h = h
needs Ad n l h = h
needs Ac n l h = h

ahead_at : (d : Draft) (p : DirOrder) (c : ℕ) (l : Line) (m : Mark) (e : Event) (s : ℕ) (ph : Phase) (t : Tag) (k : ℕ) → m.last ≡ k → IsAsked p e k
    → AtStamp (λ j. fits d (p.dir_entry j) c s ≡ true) k → AtStamp (λ j. Needs ph (acks_needed (p.dir_entry j) (p.at j)) l) k
    → GoesAhead d p c l m e s ph t → IsAhead d p c l m e s ph t
ahead_at d p c l m e s ph t zero is asked state need h = absurd asked
ahead_at d p c l m e s ph t (suc j) is asked state need h = record {
  ordered = record { entry = j; last = is; event = asked };
  past = m.seen - m.last;
  upto = let low = ltb-false m.seen m.last h.low in omega (arith, low);
  state = state;
  phase = h.phase;
  tag = h.tag;
  deferred = h.deferred;
  need = needs ph (acks_needed (p.dir_entry j) (p.at j)) l need;
}

asks : (d : Draft) (p : DirOrder) (c : ℕ) (l : Line) (m : Mark) (e : Event) (s : ℕ) (ph : Phase) (t : Tag) (b : Bool) → Asks d p c l m e s ph t b → IsAsking d p c l m e s ph t b
asks d p c l m e s ph t true h = ahead_at d p c l m e s ph t m.last refl h.ordered h.state h.need h
asks d p c l m e s ph t false h = (h.0, h.1, ordered_by p m e h.2, ltb-true m.seen m.last h.3)

lines : (d : Draft) (p : DirOrder) (c : ℕ) (l : Line) (m : Mark) (s : Desc) (slot : Option SentRequest) → Lines d p c l m s slot → IsLined d p c l m s slot
lines d p c l m (Stable s) None h = (h.0, h.1, ltb-false m.seen m.last h.2)
lines d p c l m (Stable s) (Some a) h = absurd h
lines d p c l m (Ask e s ph t) None h = (pending_as l e h.0, asks d p c l m e s ph t (is_ahead ph t) h.1)
lines d p c l m (Ask e s ph t) (Some a) h = (pending_as l e h.0, h.1, h.2, h.3, h.4, ltb-false m.seen m.last h.5)
lines d p c l m (Leave s) None h = (pending_as l event.Evict h.0, h.1, ordered_by p m event.Evict h.2, ltb-true m.seen m.last h.3)
lines d p c l m (Leave s) (Some a) h = (pending_as l event.Evict h.0, h.1, h.2, ltb-false m.seen m.last h.3)

-- Places

abbrev Concerns : Draft → DirOrder → ℕ → ℕ → Bool → Type 0
Concerns d p c j true = Unit {0}
Concerns d p c j false = is_some (entry_message d p c j) ≡ true

touches : (d : Draft) (p : DirOrder) (c j : ℕ) → Concerns d p c j ((p.at j).core == c) → Touches d p c j
touches d p c j h = at ((p.at j).core == c) refl h
  where
    at : (b : Bool) → ((p.at j).core == c) ≡ b → Concerns d p c j b → Touches d p c j
    at true is h = inl (eqb-true (p.at j).core c is)
    at false is h = inr (is_there (entry_message d p c j) h)

pub record IsAt (d : Draft) (p : DirOrder) (c : ℕ) (x : Core) (m : Mark) : Type 0 where
  pub last_low : nat_lt p.top m.last ≡ false
  pub seen_low : nat_lt p.top m.seen ≡ false
  pub last_own : AtStamp (λ j. ((p.at j).core == c) ≡ true) m.last
  pub last_is : Each (λ j. When ((p.at j).core == c) (nat_lt j m.last ≡ true)) p.top
  pub touched : AtStamp (λ j. Concerns d p c j ((p.at j).core == c)) m.seen
  pub gap : Each (λ j. When ((p.at j).core == c) (When (nat_lt (suc j) m.last) (nat_lt j m.seen ≡ true))) p.top
  pub queue : x.queue ≡ sent_between (entry_message d p c) m.seen (p.top - m.seen)
  pub line : Lines d p c x.line m x.line.desc x.slot

placed : (d : Draft) (p : DirOrder) (c : ℕ) (x : Core) (m : Mark) → IsAt d p c x m → IsPlaced d p c x m
placed d p c x m h = record {
  last_low = last_low;
  last_own = λ j is. eqb-true (p.at j).core c (at_stamp (λ j. ((p.at j).core == c) ≡ true) m.last h.last_own j is);
  last_is = λ j low own. let it = when ((p.at j).core == c) (nat_lt j m.last ≡ true) (each (λ j. When ((p.at j).core == c) (nat_lt j m.last ≡ true)) p.top h.last_is j low) (eq-eqb (p.at j).core c own) in ltb-true j m.last it;
  touched = λ j is. touches d p c j (at_stamp (λ j. Concerns d p c j ((p.at j).core == c)) m.seen h.touched j is);
  gap = λ j low own. gap j low own;
  rest = p.top - m.seen;
  upto = let low = ltb-false p.top m.seen h.seen_low in omega (arith, low);
  queue = h.queue;
  line = lines d p c x.line m x.line.desc x.slot h.line;
}
  where
    last_low : m.last ≤ p.top
    last_low = ltb-false p.top m.last h.last_low

    gap : (j : ℕ) → suc j < m.last → (p.at j).core ≡ c → suc j ≤ m.seen
    gap j low own =
        let one = each (λ j. When ((p.at j).core == c) (When (nat_lt (suc j) m.last) (nat_lt j m.seen ≡ true))) p.top h.gap j (omega (arith, low, last_low)) in
        let two = when ((p.at j).core == c) (When (nat_lt (suc j) m.last) (nat_lt j m.seen ≡ true)) one (eq-eqb (p.at j).core c own) in
        ltb-true j m.seen (when (nat_lt (suc j) m.last) (nat_lt j m.seen ≡ true) two (lt-ltb (suc j) m.last low))

-- Forwards and invalidations that wait

abbrev with_first : Option ℕ → List ℕ → List ℕ
with_first None xs = xs
with_first (Some o) xs = o ∷ xs

-- the cores that a request may send a forward
abbrev pub holders : DirEntry → List ℕ
holders s = with_first s.owner s.sharers

or_left : (a b : Bool) → a ≡ true → (a || b) ≡ true
or_left true b h = refl
or_left false b h = cc

or_right : (a b : Bool) → b ≡ true → (a || b) ≡ true
or_right true b h = refl
or_right false b h = h

sharer_holds : (o : Option ℕ) (xs : List ℕ) (c : ℕ) → is_among xs c ≡ true → is_among (with_first o xs) c ≡ true
sharer_holds None xs c h = h
sharer_holds (Some o) xs c h = or_right (o == c) (is_among xs c) h

owner_holds : (o : Option ℕ) (xs : List ℕ) (c : ℕ) → is o c ≡ true → is_among (with_first o xs) c ≡ true
owner_holds None xs c h = cc
owner_holds (Some o) xs c h = or_left (o == c) (is_among xs c) h

holder : (d : Draft) (s : DirEntry) (q : Request) (c f : ℕ) → forward_sent d s q c ≡ Some f → is_among (holders s) c ≡ true
holder d s q c f h = at (row_of d s q) h
  where
    by : (r : RowLine) (a z x y : Bool) → is_among s.sharers c ≡ x → is s.owner c ≡ y
        → (if a then None else if z && x then forward_of d Inv else if y then forward_in r.form else None) ≡ Some f → is_among (holders s) c ≡ true
    by r true z x y e o h = cc
    by r false true true y e o h = sharer_holds s.owner s.sharers c e
    by r false false true true e o h = owner_holds s.owner s.sharers c o
    by r false false true false e o h = cc
    by r false true false true e o h = owner_holds s.owner s.sharers c o
    by r false true false false e o h = cc
    by r false false false true e o h = owner_holds s.owner s.sharers c o
    by r false false false false e o h = cc

    at : (o : Option RowLine) → option_and_then (forward_by_row d s q c) o ≡ Some f → is_among (holders s) c ≡ true
    at None h = cc
    at (Some r) h = by r (q.core == c) (same_event q.event event.Store) (is_among s.sharers c) (is s.owner c) refl refl h

abbrev WaitsIfUnserved : Draft → DirOrder → View → ℕ → Type 0
WaitsIfUnserved d p v j = When (is_unserved d p v j) (IsWaitedFor p v j)

abbrev WaitsForAck : Draft → DirOrder → View → ℕ → ℕ → Type 0
WaitsForAck d p v j c = When (nat_lt (v.seen c) (suc j)) (WhereSome (λ f. When (has_class Inv d f) (IsWaitedFor p v j)) (forward_sent d (p.dir_entry j) (p.at j) c))

-- where a share isn't served
abbrev WhereShared : Draft → DirOrder → View → (ℕ → Type 0) → ℕ → Type 0
WhereShared d p v P j = When (is_unserved d p v j) (WhereSome (λ f. When (has_class Share d f) (P j)) (passed_forward d (p.dir_entry j) (p.at j)))

where_shared : (d : Draft) (p : DirOrder) (v : View) (P : ℕ → Type 0) (j f : ℕ) → WhereShared d p v P j → is_unserved d p v j ≡ true → passed_forward d (p.dir_entry j) (p.at j) ≡ Some f → has_class Share d f ≡ true → P j
where_shared d p v P j f h un is share =
    when (has_class Share d f) (P j) (where_some (λ f. When (has_class Share d f) (P j)) (passed_forward d (p.dir_entry j) (p.at j))
    (when (is_unserved d p v j) (WhereSome (λ f. When (has_class Share d f) (P j)) (passed_forward d (p.dir_entry j) (p.at j))) h un) f is) share

pub record Waits (d : Draft) (p : DirOrder) (v : View) : Type 0 where
  pub lasts : Each (λ j. nat_lt j (v.last (p.at j).core) ≡ true) p.top
  pub forwards : Each (WaitsIfUnserved d p v) p.top
  pub invs : Each (λ j. EachOf (WaitsForAck d p v j) (holders (p.dir_entry j))) p.top
  pub shares : Each (WhereShared d p v (λ j. suc j ≡ p.top)) p.top

waits : (d : Draft) (p : DirOrder) (v : View) → Waits d p v → IsWaiting d p v
waits d p v h = record {
  lasts = λ j low. ltb-true j (v.last (p.at j).core) (each (λ j. nat_lt j (v.last (p.at j).core) ≡ true) p.top h.lasts j low);
  forwards = λ j low un. when (is_unserved d p v j) (IsWaitedFor p v j) (each (WaitsIfUnserved d p v) p.top h.forwards j low) un;
  invs = λ j c f low sends inv late. invs j c f low sends inv late;
  shares = λ j f low un is share. where_shared d p v (λ j. suc j ≡ p.top) j f (each (WhereShared d p v (λ j. suc j ≡ p.top)) p.top h.shares j low) un is share;
}
  where
    invs : (j c f : ℕ) → j < p.top → forward_sent d (p.dir_entry j) (p.at j) c ≡ Some f → has_class Inv d f ≡ true → v.seen c < suc j → IsWaitedFor p v j
    invs j c f low sends inv late =
        let one = each (λ j. EachOf (WaitsForAck d p v j) (holders (p.dir_entry j))) p.top h.invs j low in
        let two = each_of (WaitsForAck d p v j) (holders (p.dir_entry j)) one c (holder d (p.dir_entry j) (p.at j) c f sends) in
        let three = when (nat_lt (v.seen c) (suc j)) (WhereSome (λ f. When (has_class Inv d f) (IsWaitedFor p v j)) (forward_sent d (p.dir_entry j) (p.at j) c)) two (lt-ltb (v.seen c) (suc j) late) in
        when (has_class Inv d f) (IsWaitedFor p v j) (where_some (λ f. When (has_class Inv d f) (IsWaitedFor p v j)) (forward_sent d (p.dir_entry j) (p.at j) c) three f sends) inv

-- Replies

abbrev answers_by : Draft → ℕ → ℕ → ℕ → ℕ → Bool
answers_by d dir f r x = lists d dir x && is (reply_to d x f) r

abbrev Brings : Draft → ℕ → Option Action → ℕ → Type 0
Brings d dir None r = ⊥
Brings d dir (Some (action.Reply m)) r = r ≡ m
Brings d dir (Some (action.Forward f)) r = any_below (answers_by d dir f r) most_states ≡ true
Brings d dir (Some action.Count) r = ⊥

there : (o : Option ℕ) (r : ℕ) → is o r ≡ true → o ≡ Some r
there None r h = cc
there (Some m) r h = ap (λ x. Some x) (eqb-true m r h)

brings : (d : Draft) (dir : ℕ) (a : Option Action) (r : ℕ) → Brings d dir a r → IsReplyBy d dir a (reply.Reply r)
brings d dir None r h = absurd h
brings d dir (Some (action.Reply m)) r h = ap (λ x. reply.Reply x) h
brings d dir (Some (action.Forward f)) r h =
    let (x, both) = found (answers_by d dir f r) most_states h in
    let parts = and_parts (lists d dir x) (is (reply_to d x f) r) both in
    (x, r, parts.0, there (reply_to d x f) r parts.1, refl)
brings d dir (Some action.Count) r h = absurd h

abbrev OfEntry : Draft → DirOrder → ℕ → ℕ → ℕ → Type 0
OfEntry d p r n zero = ⊥
OfEntry d p r n (suc j) = Brings d (p.dir_entry j).dir (action_of d (p.dir_entry j) (p.at j)) r × (n ≡ acks_needed (p.dir_entry j) (p.at j))

abbrev Promised : Draft → DirOrder → (ℕ → ℕ) → ℕ → Reply → Type 0
Promised d p last cores (Data r c v n k) = (nat_lt c cores ≡ true) × (k ≡ last c) × OfEntry d p r n k
Promised d p last cores (InvAck c k) = nat_lt c cores ≡ true
Promised d p last cores (WbData v k) = Unit {0}

abbrev pub AllPromised : Draft → DirOrder → (ℕ → ℕ) → ℕ → List Reply → Type 0
AllPromised d p last cores [] = Unit {0}
AllPromised d p last cores (x ∷ xs) = Promised d p last cores x × AllPromised d p last cores xs

promised : (d : Draft) (p : DirOrder) (last : ℕ → ℕ) (cores : ℕ) (x : Reply) → Promised d p last cores x → IsPromised d p last cores x
promised d p last cores (Data r c v n zero) h = absurd h.2
promised d p last cores (Data r c v n (suc j)) h = (ltb-true c cores h.0, h.1, (j, refl, brings d (p.dir_entry j).dir (action_of d (p.dir_entry j) (p.at j)) r h.2.0, h.2.1))
promised d p last cores (InvAck c k) h = ltb-true c cores h
promised d p last cores (WbData v k) h = tt

all_promised : (d : Draft) (p : DirOrder) (last : ℕ → ℕ) (cores : ℕ) (xs : List Reply) → AllPromised d p last cores xs → ArePromised d p last cores xs
all_promised d p last cores [] h = tt
all_promised d p last cores (x ∷ xs) h = (promised d p last cores x h.0, all_promised d p last cores xs h.1)

-- All of it

pub record IsDirect (d : Draft) (n : ℕ) (w : World) (m : ℕ → Mark) : Type 0 where
  pub cores : length w.cores ≡ n
  pub entries : Each (IsEntry d n (order_of d w)) (order_of d w).top
  pub directory : dir_entry_of w.directory ≡ (order_of d w).dir_entry (order_of d w).top
  pub last : w.directory.last ≡ (order_of d w).top
  pub placed : Each (λ c. IsAt d (order_of d w) c (core w c) (m c)) n
  pub waiting : Waits d (order_of d w) (view_of w m)
  pub ungranted : Each (λ j. When (is_unserved d (order_of d w) (view_of w m) j) (is_granted (core w ((order_of d w).at j).core).line.desc ≡ false)) (order_of d w).top
  pub promised : AllPromised d (order_of d w) (λ c. (m c).last) n w.replies
  pub answered : Each (λ c. IsAnswered d (order_of d w) (view_of w m) c (core w c) w.replies) n
  pub busy : IsBusy d (order_of d w) (view_of w m) (tally is_write_back w.replies) (is_busy w.directory.desc)
  pub shares : Each (WhereShared d (order_of d w) (view_of w m) (λ j. is_busy w.directory.desc ≡ true)) (order_of d w).top

dir_order_is : (d : Draft) (n : ℕ) (qs : List Request) → Each (IsEntry d n (dir_order d qs)) (length qs) → IsDirOrder d n (dir_order d qs)
dir_order_is d n qs h = record {
  starts = refl;
  inside = λ j low. let it = (entry j low).inside in ltb-true (request_at qs j).core n it;
  legal = λ j low. legal_by d (dir_entry_at d (initial_entry d) qs j).dir (who (dir_entry_at d (initial_entry d) qs j) (request_at qs j).core) (request_at qs j).event (entry j low).legal;
  follows = λ j low. (entry j low).follows;
}
  where
    entry : (j : ℕ) → j < length qs → IsEntry d n (dir_order d qs) j
    entry j low = each (IsEntry d n (dir_order d qs)) (length qs) h j low

pub direct : (d : Draft) (n : ℕ) (w : World) (m : ℕ → Mark) → IsDirect d n w m → IsOrderly d n w m
direct d n w m h =
    let p : DirOrder = order_of d w in
    let v : View = view_of w m in
    record {
      cores = h.cores;
      past = dir_order_is d n (map request_in w.order) h.entries;
      directory = h.directory;
      last = h.last;
      placed = λ c low. placed d p c (core w c) (m c) (each (λ c. IsAt d p c (core w c) (m c)) n h.placed c low);
      waiting = waits d p v h.waiting;
      ungranted = λ j low un. when (is_unserved d p v j) (is_granted (core w (p.at j).core).line.desc ≡ false)
          (each (λ j. When (is_unserved d p v j) (is_granted (core w (p.at j).core).line.desc ≡ false)) p.top h.ungranted j low) un;
      promised = all_promised d p (λ c. (m c).last) n w.replies h.promised;
      answered = λ c low. each (λ c. IsAnswered d p v c (core w c) w.replies) n h.answered c low;
      busy = h.busy;
      shares = λ j f low un is share. where_shared d p v (λ j. is_busy w.directory.desc ≡ true) j f (each (WhereShared d p v (λ j. is_busy w.directory.desc ≡ true)) p.top h.shares j low) un is share;
    }
