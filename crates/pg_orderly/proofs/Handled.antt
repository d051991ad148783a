-- A world stays orderly when the directory handles a request: the whole.
use Rattle.std.proofs.Common.{◌≡◌, ℕ, zero, suc, ◌<◌, ◌≤◌, arith, Bool, true, false, ◌&&◌, not, cond, List, [], ◌∷◌, ◌++◌, length, Option, Some, None, refl, sym, ap, subst, ◌∙◌, ◌⊎◌, inl, inr}
use Rattle.std.specs.Prelude.{◌==◌, nat_lt, is_none, is_some}
use Rattle.std.specs.List.{list_all}
use Rattle.std.proofs.lemmas.Bool.{eqb-true, lt-ltb}
use Rattle.pg_perm.specs.declared.kinds.Event.{Event}
use Rattle.pg_perm.specs.declared.kinds.Event.TheVariants.{Load, Store, Evict}
use Rattle.pg_perm.specs.declared.kinds.FwdClass.TheVariants.{Share}
use Rattle.pg_perm.specs.declared.draft.Draft.{Draft}
use Rattle.pg_perm.specs.declared.draft.Action.{Action}
use Rattle.pg_perm.specs.declared.draft.Action.TheVariants as action
use Rattle.pg_perm.specs.declared.draft.ReplyName.TheVariants as reply
use Rattle.pg_perm.specs.Drafts.{IsWellFormed}
use Rattle.pg_terms.specs.Terms.{has_class}
use Rattle.pg_shape.specs.Shaped.{IsShaped}
use Rattle.pg_directory.specs.DirEntries.{DirEntry, Request, is_among, without_core, entry_after}
use Rattle.pg_directory.specs.Sound.{IsSound, IsLegal}
use Rattle.pg_directory.specs.Requests.{IsHandled, IsReply, IsReplyBy, action_of}
use Rattle.pg_directory.proofs.Cores.{same_core, among_without_same, among_without_other}
use Rattle.pg_directory.proofs.DirKinds.{sharer_low}
use Rattle.pg_table.specs.declared.cache.Desc.{Desc}
use Rattle.pg_table.specs.declared.cache.Desc.TheVariants.{Stable, Ask, Leave}
use Rattle.pg_table.specs.declared.cache.Phase.{Phase}
use Rattle.pg_table.specs.declared.cache.Phase.TheVariants.{Ad, Ac}
use Rattle.pg_order.specs.Messages.{tally}
use Rattle.pg_order.specs.Orders.{DirOrder, IsDirOrder, passed_forward, acks_by_event, acks_needed}
use Rattle.pg_order.specs.Views.{View, is_open_at, is_unserved}
use Rattle.pg_order.proofs.Known.{IsKnown, known}
use Rattle.pg_order.proofs.NoOvertaking.{unserved_is}
use Rattle.pg_order.proofs.Passed.{action_passes}
use Rattle.pg_order.proofs.Appended.{IsAppended, past_more, IsEntered, unserved_old, owed_old, waiting_more}
use Rattle.pg_messages.specs.declared.messages.Ask.{Ask as SentRequest}
use Rattle.pg_messages.specs.declared.messages.Reply.{Reply}
use Rattle.pg_messages.specs.declared.messages.Reply.TheVariants.{Data, InvAck, WbData}
use Rattle.pg_controllers.specs.Networks.{Line, Core}
use Rattle.pg_controllers.specs.Directories.{is_busy, dir_entry_of}
use Rattle.pg_controllers.specs.Worlds.{World, core, order_of, is_stable}
use Rattle.pg_orderly.specs.Orderly.{Mark, is_pending, view_of, MayBegin, IsLined, IsPlaced, is_storing, is_granted, brings_data, is_data_to, is_ack_to, is_write_back, is_data_due, IsPromised, ArePromised, AcksAre, IsAnswered, IsBusy, IsBusyAt, is_share, IsOrderly}
use Rattle.pg_orderly.proofs.Keeping.{marked, each}
use Rattle.pg_orderly.proofs.Acks.{storing_is}
use Rattle.pg_orderly.proofs.Answer.{tally-append, promised_more}
use Rattle.pg_orderly.proofs.Order.{mailed, asked_off, placed_other, placed_own}

-- what the directory answers itself
abbrev pub directory_sends : Option Action → ℕ → ℕ → ℕ → ℕ → List Reply
directory_sends (Some (action.Reply r)) c w n k = Data r c w n k ∷ []
directory_sends _ c w n k = []

abbrev pub request_of : ℕ → SentRequest → Request
request_of c a = record { core = c; event = a.event }

-- what is so of the world after the directory's row
pub record IsHandling (d : Draft) (n : ℕ) (w : World) (m : ℕ → Mark) (c : ℕ) (a : SentRequest) (x : World) : Type 0 where
  pub slot : (core w c).slot ≡ Some a
  pub free : is_busy w.directory.desc ≡ false
  -- from what the core's line says
  pub legal : IsLegal d ((order_of d w).dir_entry (order_of d w).top) (request_of c a)
  pub past : IsAppended d (order_of d w) (request_of c a) (order_of d x)
  pub cores : length x.cores ≡ length w.cores
  pub own : core x c ≡ asked_off d (order_of d x) (order_of d w).top c (core w c)
  pub others : (e : ℕ) → (c == e) ≡ false → core x e ≡ mailed d (order_of d x) (order_of d w).top e (core w e)
  pub replies : x.replies ≡ w.replies ++ directory_sends (action_of d (dir_entry_of w.directory) (request_of c a)) c w.directory.memory (acks_needed (dir_entry_of w.directory) (request_of c a)) (suc (order_of d w).top)
  pub directory : dir_entry_of x.directory ≡ entry_after d (dir_entry_of w.directory) (request_of c a)
  pub last : x.directory.last ≡ suc w.directory.last
  pub busy : is_busy x.directory.desc ≡ is_share d (passed_forward d (dir_entry_of w.directory) (request_of c a))

-- What is counted

directory_data_other : (o : Option Action) (e c w n k : ℕ) → (c == e) ≡ false → tally (is_data_to e) (directory_sends o c w n k) ≡ 0
directory_data_other None e c w n k ne = refl
directory_data_other (Some (action.Reply r)) e c w n k ne = rw ne refl
directory_data_other (Some (action.Forward f)) e c w n k ne = refl
directory_data_other (Some action.Count) e c w n k ne = refl

directory_acks : (o : Option Action) (e c w n k : ℕ) → tally (is_ack_to e) (directory_sends o c w n k) ≡ 0
directory_acks None e c w n k = refl
directory_acks (Some (action.Reply r)) e c w n k = refl
directory_acks (Some (action.Forward f)) e c w n k = refl
directory_acks (Some action.Count) e c w n k = refl

directory_write_backs : (o : Option Action) (c w n k : ℕ) → tally is_write_back (directory_sends o c w n k) ≡ 0
directory_write_backs None c w n k = refl
directory_write_backs (Some (action.Reply r)) c w n k = refl
directory_write_backs (Some (action.Forward f)) c w n k = refl
directory_write_backs (Some action.Count) c w n k = refl

abbrev is_reply : Option Action → Bool
is_reply (Some (action.Reply r)) = true
is_reply _ = false

directory_data_own : (o : Option Action) (c w n k : ℕ) → tally (is_data_to c) (directory_sends o c w n k) ≡ cond {A = ℕ} (is_reply o) 1 0
directory_data_own None c w n k = refl
directory_data_own (Some (action.Reply r)) c w n k = rw (same_core c) refl
directory_data_own (Some (action.Forward f)) c w n k = refl
directory_data_own (Some action.Count) c w n k = refl

pub not_due : (d : Draft) (p : DirOrder) (v : View) (x : Core) (k : ℕ) → is_pending x ≡ false → is_data_due d p v x k ≡ false
not_due d p v x zero idle = refl
not_due d p v x (suc j) idle = rw idle refl

-- old data is promised as it was
old_promised : (d : Draft) (p : DirOrder) (q : Request) (r : DirOrder) → IsAppended d p q r → (c n : ℕ) (last now : ℕ → ℕ) (xs : List Reply) → ((e : ℕ) → e < n → last e ≤ p.top) → ((e : ℕ) → (c == e) ≡ false → now e ≡ last e)
    → tally (is_data_to c) xs ≡ 0 → ArePromised d p last n xs → ArePromised d r now n xs
old_promised d p q r a c n last now [] low same none h = tt
old_promised d p q r a c n last now (Data t e v i k ∷ xs) low same none h = at (c == e) refl (old_promised d p q r a c n last now xs low same rest h.1)
  where
    rest : tally (is_data_to c) xs ≡ 0
    rest = omega (arith, none)

    at : (b : Bool) → (c == e) ≡ b → ArePromised d r now n xs → IsPromised d r now n (Data t e v i k) × ArePromised d r now n xs
    at true is more = absurd (let one : cond {A = ℕ} (e == c) 1 0 ≡ 1 = (let e_is = eqb-true c e is in subst (λ e. cond {A = ℕ} (e == c) 1 0 ≡ 1) e_is (rw (same_core c) refl)) in omega (arith, none, one))
    at false ne more =
        let (below, stamp, promise) = h.0 in
        let (j, entry, reply, needed) = promise in
        let top = low e below in
        let inside : j < p.top = omega (arith, stamp, entry, top) in
        let at = a.at j inside in let dir_entry = a.dir_entry j (omega (arith, inside)) in
        ((below, stamp ∙ sym (same e ne), (j, entry, rw (at, dir_entry) reply, rw (at, dir_entry) needed)), more)
old_promised d p q r a c n last now (InvAck e k ∷ xs) low same none h = (h.0, old_promised d p q r a c n last now xs low same (omega (arith, none)) h.1)
old_promised d p q r a c n last now (WbData v k ∷ xs) low same none h = (tt, old_promised d p q r a c n last now xs low same (omega (arith, none)) h.1)

-- all sharers owe an answer
all_owe : (p : ℕ → Bool) (xs : List ℕ) → ((e : ℕ) → is_among xs e ≡ true → p e ≡ true) → tally p xs ≡ length xs
all_owe p [] h = refl
all_owe p (x ∷ xs) h =
    let first : cond {A = ℕ} (p x) 1 0 ≡ 1 = rw (h x (rw (same_core x) refl)) refl in
    let rest = all_owe p xs (λ e in_it. h e (right (x == e) (is_among xs e) in_it)) in omega (arith, first, rest)
  where
    right : (s t : Bool) → t ≡ true → (Rattle.std.specs.Prelude.◌||◌ s t) ≡ true
    right true t h = refl
    right false t h = h

ungranted_asked : (d : Draft) (p : DirOrder) (c : ℕ) (l : Line) (m : Mark) (s : Desc) (k : SentRequest) → IsLined d p c l m s (Some k) → is_granted s ≡ false
ungranted_asked d p c l m (Stable s) k h = refl
ungranted_asked d p c l m (Ask e s ph t) k h = at e s ph h.2
  where
    first : (s : ℕ) (b : Bool) → is_granted (Ask Store s (Rattle.std.specs.Prelude.if◌then◌else◌ b Ac Ad) t) ≡ false
    first s true = refl
    first s false = refl

    at : (e : Event) (s : ℕ) (ph : Phase) → MayBegin d e s ph → is_granted (Ask e s ph t) ≡ false
    at Load s ph b = rw b.1 refl
    at Store s ph b = rw b.1 (first s (Rattle.pg_terms.specs.Terms.cache_is (λ c. Rattle.pg_terms.specs.Terms.is_owner c.role) d s))
    at Evict s ph b = absurd b
ungranted_asked d p c l m (Leave s) k h = refl

asked_asks : (d : Draft) (p : DirOrder) (c : ℕ) (l : Line) (m : Mark) (s : Desc) (k : SentRequest) → IsLined d p c l m s (Some k) → is_stable s ≡ false
asked_asks d p c l m (Stable s) k h = absurd h
asked_asks d p c l m (Ask e s ph t) k h = refl
asked_asks d p c l m (Leave s) k h = refl

pub handling_kept : (d : Draft) (n : ℕ) (w : World) (m : ℕ → Mark) (c : ℕ) (k : SentRequest) (x : World) → IsWellFormed d → IsShaped d → c < n → IsOrderly d n w m → IsHandling d n w m c k x
    → IsOrderly d n x (marked c (record { seen = (m c).seen; last = suc (order_of d w).top }) m)
handling_kept d n w m c k x wf sh low o h = record {
  cores = h.cores ∙ o.cores;
  past = now;
  directory = h.directory ∙ ap (λ s. entry_after d s q) o.directory ∙ sym (ap r.dir_entry a.top ∙ a.after);
  last = let was = o.last in let more = h.last in let top = a.top in omega (arith, was, more, top);
  placed = λ e b. each (λ e. e < n → IsPlaced d r e (core x e) (marks e)) c (λ b. own_placed) (λ e ne b. rw (h.others e ne, ne) (placed_other d p q r a e (core w e) (m e) ne (o.placed e b))) e b;
  waiting = waiting_more d p q r c v u a entered refl pl.last_low no_share o.waiting;
  ungranted = λ j b e. elim (which j b) [
    | inl old ↦ let was = o.ungranted j old (sym (unserved_old d p q r c v u a entered j old) ∙ e) in subst (λ z. is_granted (core x z).line.desc ≡ false) (sym (ap (λ (x : Request). x.core) (a.at j old))) (grants (p.at j).core ∙ was)
    | inr is ↦ subst (λ j. is_granted (core x (r.at j).core).line.desc ≡ false) (sym is) (subst (λ z. is_granted (core x z).line.desc ≡ false) (sym (ap (λ (x : Request). x.core) a.new)) (grants c ∙ ungranted_asked d p c (core w c).line (m c) (core w c).line.desc k line))
  ];
  promised = subst (ArePromised d r (λ e. (marks e).last) n) (sym h.replies) (promised_more d r (λ e. (marks e).last) n w.replies (directory_sends act c w.directory.memory (acks_needed s q) (suc p.top))
      (old_promised d p q r a c n (λ e. (m e).last) (λ e. (marks e).last) w.replies (λ e b. (o.placed e b).last_low) (λ e ne. (entered.others e ne).0) none_before o.promised) (promises act refl));
  answered = λ e b. each (λ e. e < n → IsAnswered d r u e (core x e) x.replies) c (λ b. own_answered) (λ e ne b. other_answered e ne b) e b;
  busy = busy (is_busy x.directory.desc) refl;
  shares = λ j f b e to class. elim (which j b) [
    | inl old ↦ absurd (no_share j f old (sym (unserved_old d p q r c v u a entered j old) ∙ e) (sym (rw (a.dir_entry j (omega (arith, old)), a.at j old) refl) ∙ to) class)
    | inr is ↦ h.busy ∙ ap (is_share d) (sym (passed_new is) ∙ to) ∙ class
  ];
}
  where
    p : DirOrder
    p = order_of d w

    r : DirOrder
    r = order_of d x

    q : Request
    q = request_of c k

    s : DirEntry
    s = dir_entry_of w.directory

    act : Option Action
    act = action_of d s q

    a : IsAppended d p q r
    a = h.past

    pl : IsPlaced d p c (core w c) (m c)
    pl = o.placed c low

    marks : ℕ → Mark
    marks = marked c (record { seen = (m c).seen; last = suc p.top }) m

    v : View
    v = view_of w m

    u : View
    u = view_of x marks

    line : IsLined d p c (core w c).line (m c) (core w c).line.desc (Some k)
    line = subst (IsLined d p c (core w c).line (m c) (core w c).line.desc) h.slot pl.line

    idle : is_pending (core w c) ≡ false
    idle = rw (h.slot, asked_asks d p c (core w c).line (m c) (core w c).line.desc k line) refl

    pends : is_pending (core x c) ≡ true
    pends = rw (h.own, asked_asks d p c (core w c).line (m c) (core w c).line.desc k line) refl

    entered : IsEntered p c v u
    entered = record {
      seen = each (λ e. (marks e).seen ≡ (m e).seen) c (rw (same_core c) refl) (λ e ne. rw ne refl);
      others = λ e ne. (rw ne refl, ap is_pending (h.others e ne));
      last = rw (same_core c) refl;
      pending = pends;
      idle = idle;
    }

    dir_entry_new : p.dir_entry p.top ≡ s
    dir_entry_new = sym o.directory

    now : IsDirOrder d n r
    now = past_more d n p q r a o.past low h.legal

    k0 : IsKnown d n r
    k0 = known d n r wf sh now

    which : (j : ℕ) → j < r.top → (j < p.top) ⊎ (j ≡ p.top)
    which j b = let top = a.top in search arith

    at_top : p.top < r.top
    at_top = let top = a.top in omega (arith, top)

    no_share : (j f : ℕ) → j < p.top → is_unserved d p v j ≡ true → passed_forward d (p.dir_entry j) (p.at j) ≡ Some f → has_class Share d f ≡ true → ⊥
    no_share j f old e to class = let busy = o.shares j f old e to class in let free = h.free in cc (busy, free)

    passed_new : {j : ℕ} → j ≡ p.top → passed_forward d (r.dir_entry j) (r.at j) ≡ passed_forward d s q
    passed_new is = rw is (rw (a.dir_entry p.top (omega arith), a.new, dir_entry_new) refl)

    own_placed : IsPlaced d r c (core x c) (marks c)
    own_placed = rw (h.own, same_core c) (placed_own d p q r a c (core w c) (m c) k refl refl h.slot pl)

    grants : (e : ℕ) → is_granted (core x e).line.desc ≡ is_granted (core w e).line.desc
    grants = each (λ e. is_granted (core x e).line.desc ≡ is_granted (core w e).line.desc) c (ap (λ (z : Core). is_granted z.line.desc) h.own) (λ e ne. ap (λ (z : Core). is_granted z.line.desc) (h.others e ne))

    none_before : tally (is_data_to c) w.replies ≡ 0
    none_before = (o.answered c low).filled ∙ ap (λ b. cond {A = ℕ} b 1 0) (not_due d p v (core w c) (m c).last idle)

    handled_now : IsHandled d n s q
    handled_now = subst (λ s. IsHandled d n s q) dir_entry_new (subst (λ z. IsHandled d n z q) (a.dir_entry p.top (omega arith)) (subst (IsHandled d n (r.dir_entry p.top)) a.new (k0.handled p.top at_top)))

    sound_now : IsSound d n s
    sound_now = subst (IsSound d n) (a.dir_entry p.top (omega arith) ∙ dir_entry_new) (k0.sound p.top (omega (arith, at_top)))

    promises : (t : Option Action) → act ≡ t → ArePromised d r (λ e. (marks e).last) n (directory_sends t c w.directory.memory (acks_needed s q) (suc p.top))
    promises None is = tt
    promises (Some (action.Reply z)) is =
        let same : r.dir_entry p.top ≡ s = a.dir_entry p.top (omega arith) ∙ dir_entry_new in
        let replies : IsReply d s q (reply.Reply z) = subst (λ t. IsReplyBy d s.dir t (reply.Reply z)) (sym is) refl in
        let last = entered.last in
        ((low, sym last, (p.top, refl, rw (a.new, same) replies, rw (a.new, same) refl)), tt)
    promises (Some (action.Forward f)) is = tt
    promises (Some action.Count) is = tt

    -- the new entry is served exactly if it isn't passed on
    unserved_new : (t : Option Action) → act ≡ t → (is_pending (core x c) && not (is_granted (core x c).line.desc) && brings_data t && not (is_unserved d r u p.top)) ≡ is_reply t
    unserved_new None is = rw pends (off (not (is_granted (core x c).line.desc)) (not (is_unserved d r u p.top)))
      where
        off : (a b : Bool) → (a && false && b) ≡ false
        off true b = refl
        off false b = refl
    unserved_new (Some action.Count) is = rw pends (off (not (is_granted (core x c).line.desc)) (not (is_unserved d r u p.top)))
      where
        off : (a b : Bool) → (a && false && b) ≡ false
        off true b = refl
        off false b = refl
    unserved_new (Some (action.Reply z)) is =
        let grant : is_granted (core x c).line.desc ≡ false = grants c ∙ ungranted_asked d p c (core w c).line (m c) (core w c).line.desc k line in
        let none : passed_forward d s q ≡ None = rw (handled_now.memory z is) refl in
        let served : is_unserved d r u p.top ≡ false = ap (λ (t : Option ℕ). is_some t && is_open_at u p.top (r.dir_entry p.top).owner) (passed_new refl ∙ none) in
        rw (pends, grant, served) refl
    unserved_new (Some (action.Forward f)) is =
        let (z, owner, to) = action_passes d n s q f sound_now handled_now is in
        let same : r.dir_entry p.top ≡ s = a.dir_entry p.top (omega arith) ∙ dir_entry_new in
        let seen = entered.seen z in
        let z_low = (sound_now.owner z owner).0 in
        let upto = (o.placed z z_low).upto in
        let waits : is_unserved d r u p.top ≡ true = unserved_is d r u p.top z f (ap (λ (s : DirEntry). s.owner) same ∙ owner) (passed_new refl ∙ to) (inl (omega (arith, seen, upto))) in
        rw (pends, waits) (off (not (is_granted (core x c).line.desc)))
      where
        off : (a : Bool) → (a && true && false) ≡ false
        off true = refl
        off false = refl

    due_new : is_data_due d r u (core x c) (suc p.top) ≡ is_reply act
    due_new =
        let same : action_of d (r.dir_entry p.top) (r.at p.top) ≡ act = rw (a.new, a.dir_entry p.top (omega arith), dir_entry_new) refl in
        ap (λ t. is_pending (core x c) && not (is_granted (core x c).line.desc) && brings_data t && not (is_unserved d r u p.top)) same ∙ unserved_new act refl

    own_acks : (b : Bool) → (is_pending (core x c) && is_storing (core x c).line.desc) ≡ b → AcksAre r u (core x c) 0 (suc p.top) b
    own_acks false is = (idle_got, refl)
      where
        was : AcksAre p v (core w c) (tally (is_ack_to c) w.replies) (m c).last false
        was = rw idle at (o.answered c low).acks

        idle_got : (core x c).line.got ≡ 0
        idle_got = ap (λ (z : Core). z.line.got) h.own ∙ was.0
    own_acks true is =
        let was : AcksAre p v (core w c) (tally (is_ack_to c) w.replies) (m c).last false = rw idle at (o.answered c low).acks in
        let got : (core x c).line.got ≡ 0 = ap (λ (z : Core). z.line.got) h.own ∙ was.0 in
        let store = storing_is d r c (core x c).line (marks c) (core x c).line.desc (core x c).slot own_placed.line is p.top entered.last in
        let all = all_owe (λ e. nat_lt (u.seen e) (suc p.top)) (without_core (r.at p.top).core (r.dir_entry p.top).sharers) (λ e among. owes e among ((r.at p.top).core == e) refl) in
        let need : acks_needed (r.dir_entry p.top) (r.at p.top) ≡ length (without_core (r.at p.top).core (r.dir_entry p.top).sharers) = ap (λ e. acks_by_event e (length (without_core (r.at p.top).core (r.dir_entry p.top).sharers))) store in
        omega (arith, got, all, need)
      where
        owes : (e : ℕ) → is_among (without_core (r.at p.top).core (r.dir_entry p.top).sharers) e ≡ true → (b : Bool) → ((r.at p.top).core == e) ≡ b → nat_lt (u.seen e) (suc p.top) ≡ true
        owes e among true mine = absurd (let none = among_without_same (r.at p.top).core (r.dir_entry p.top).sharers in let same = eqb-true (r.at p.top).core e mine in let there : is_among (without_core (r.at p.top).core (r.dir_entry p.top).sharers) e ≡ false = subst (λ e. is_among (without_core (r.at p.top).core (r.dir_entry p.top).sharers) e ≡ false) same none in cc (among, there))
        owes e among false ne =
            let shares : is_among (r.dir_entry p.top).sharers e ≡ true = sym (among_without_other (r.at p.top).core e (r.dir_entry p.top).sharers ne) ∙ among in
            let e_low = sharer_low d n (r.dir_entry p.top) (k0.sound p.top (omega (arith, at_top))) e shares in
            let upto = (o.placed e e_low).upto in let seen = entered.seen e in lt-ltb (u.seen e) (suc p.top) (omega (arith, upto, seen))

    own_answered : IsAnswered d r u c (core x c) x.replies
    own_answered = record {
      filled =
          let sum = tally-append (is_data_to c) w.replies (directory_sends act c w.directory.memory (acks_needed s q) (suc p.top)) in
          let new = directory_data_own act c w.directory.memory (acks_needed s q) (suc p.top) in
          let none = none_before in
          let total : tally (is_data_to c) (w.replies ++ directory_sends act c w.directory.memory (acks_needed s q) (suc p.top)) ≡ cond {A = ℕ} (is_reply act) 1 0 = omega (arith, sum, new, none) in
          ap (tally (is_data_to c)) h.replies ∙ total ∙ ap (λ b. cond {A = ℕ} b 1 0) (sym due_new) ∙ ap (λ k. cond {A = ℕ} (is_data_due d r u (core x c) k) 1 0) (sym entered.last);
      acks =
          let was : AcksAre p v (core w c) (tally (is_ack_to c) w.replies) (m c).last false = rw idle at (o.answered c low).acks in
          let sum = tally-append (is_ack_to c) w.replies (directory_sends act c w.directory.memory (acks_needed s q) (suc p.top)) in
          let new = directory_acks act c c w.directory.memory (acks_needed s q) (suc p.top) in
          let old = was.1 in
          let total : tally (is_ack_to c) (w.replies ++ directory_sends act c w.directory.memory (acks_needed s q) (suc p.top)) ≡ 0 = omega (arith, sum, new, old) in
          rw (h.replies, total, entered.last) (own_acks (is_pending (core x c) && is_storing (core x c).line.desc) refl);
    }

    due_old : (e : ℕ) → (c == e) ≡ false → (k : ℕ) → k ≤ p.top → is_data_due d r u (core x e) k ≡ is_data_due d p v (core w e) k
    due_old e ne zero b = refl
    due_old e ne (suc j) b = rw (unserved_old d p q r c v u a entered j (omega (arith, b)), h.others e ne, a.dir_entry j (omega (arith, b)), a.at j (omega (arith, b))) refl

    acks_old : (e : ℕ) → (c == e) ≡ false → (acks k : ℕ) → k ≤ p.top → (b : Bool) → AcksAre p v (core w e) acks k b → AcksAre r u (core x e) acks k b
    acks_old e ne acks k b false z = rw (h.others e ne) z
    acks_old e ne acks zero b true z = absurd z
    acks_old e ne acks (suc j) b true z = rw (owed_old d p q r c v u a entered j (omega (arith, b)), h.others e ne, a.dir_entry j (omega (arith, b)), a.at j (omega (arith, b))) z

    other_answered : (e : ℕ) → (c == e) ≡ false → e < n → IsAnswered d r u e (core x e) x.replies
    other_answered e ne b = record {
      filled =
          let sum = tally-append (is_data_to e) w.replies (directory_sends act c w.directory.memory (acks_needed s q) (suc p.top)) in
          let new = directory_data_other act e c w.directory.memory (acks_needed s q) (suc p.top) ne in
          let total : tally (is_data_to e) (w.replies ++ directory_sends act c w.directory.memory (acks_needed s q) (suc p.top)) ≡ tally (is_data_to e) w.replies = omega (arith, sum, new) in
          ap (tally (is_data_to e)) h.replies ∙ total ∙ (o.answered e b).filled ∙ ap (λ b. cond {A = ℕ} b 1 0) (sym (due_old e ne (m e).last (o.placed e b).last_low)) ∙ ap (λ k. cond {A = ℕ} (is_data_due d r u (core x e) k) 1 0) (sym (entered.others e ne).0);
      acks =
          let sum = tally-append (is_ack_to e) w.replies (directory_sends act c w.directory.memory (acks_needed s q) (suc p.top)) in
          let new = directory_acks act e c w.directory.memory (acks_needed s q) (suc p.top) in
          let total : tally (is_ack_to e) (w.replies ++ directory_sends act c w.directory.memory (acks_needed s q) (suc p.top)) ≡ tally (is_ack_to e) w.replies = omega (arith, sum, new) in
          let kind : (is_pending (core x e) && is_storing (core x e).line.desc) ≡ (is_pending (core w e) && is_storing (core w e).line.desc) = ap (λ (z : Core). is_pending z && is_storing z.line.desc) (h.others e ne) in
          rw (h.replies, total, (entered.others e ne).0, kind) (acks_old e ne (tally (is_ack_to e) w.replies) (m e).last (o.placed e b).last_low (is_pending (core w e) && is_storing (core w e).line.desc) (o.answered e b).acks);
    }

    wbs : tally is_write_back x.replies ≡ 0
    wbs =
        let sum = tally-append is_write_back w.replies (directory_sends act c w.directory.memory (acks_needed s q) (suc p.top)) in
        let new = directory_write_backs act c w.directory.memory (acks_needed s q) (suc p.top) in
        let old : tally is_write_back w.replies ≡ 0 = rw h.free at o.busy in
        ap (tally is_write_back) h.replies ∙ omega (arith, sum, new, old)

    busy : (b : Bool) → is_busy x.directory.desc ≡ b → IsBusy d r u (tally is_write_back x.replies) b
    busy false is = wbs
    busy true is = subst (IsBusyAt d r u (tally is_write_back x.replies)) (sym a.top) (ap (is_share d) (passed_new refl) ∙ share, wbs ∙ ap (λ b. cond {A = ℕ} b 0 1) (sym unserved))
      where
        share : is_share d (passed_forward d s q) ≡ true
        share = sym h.busy ∙ is

        by : (t : Option ℕ) → passed_forward d s q ≡ t → (y : Option ℕ) → s.owner ≡ y → is_share d t ≡ true → is_unserved d r u p.top ≡ true
        by None e y owner z = cc
        by (Some f) e None owner z = absurd (let none : passed_forward d s q ≡ None = rw owner refl in cc (none, e))
        by (Some f) e (Some y) owner z =
            let same : r.dir_entry p.top ≡ s = a.dir_entry p.top (omega arith) ∙ dir_entry_new in
            let seen = entered.seen y in
            let upto = (o.placed y (sound_now.owner y owner).0).upto in
            unserved_is d r u p.top y f (ap (λ (s : DirEntry). s.owner) same ∙ owner) (passed_new refl ∙ e) (inl (omega (arith, seen, upto)))

        unserved : is_unserved d r u p.top ≡ true
        unserved = by (passed_forward d s q) refl s.owner refl share
