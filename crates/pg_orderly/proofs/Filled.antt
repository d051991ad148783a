-- A world stays orderly when data comes with which an operation is done: what was put off stands in the queue again.
use Rattle.std.proofs.Common.{◌≡◌, ◌≢◌, ℕ, zero, suc, ◌+◌, ◌<◌, ◌≤◌, arith, Bool, true, false, ◌&&◌, not, cond, List, [], ◌∷◌, ◌++◌, length, Some, None, refl, sym, ap, subst, ◌∙◌, ◌⊎◌, inl, inr}
use Rattle.std.specs.Prelude.{◌==◌, slice_get}
use Rattle.std.specs.List.{remove}
use Rattle.std.proofs.lemmas.Bool.{eqb-true}
use Rattle.std.proofs.lemmas.List.{length-set}
use Rattle.pg_perm.specs.declared.kinds.Event.{Event}
use Rattle.pg_perm.specs.declared.kinds.Event.TheVariants.{Store, Evict}
use Rattle.pg_perm.specs.declared.kinds.FwdClass.TheVariants.{Inv}
use Rattle.pg_perm.specs.declared.draft.Draft.{Draft}
use Rattle.pg_perm.specs.declared.draft.ReplyName.TheVariants as named
use Rattle.pg_perm.specs.Drafts.{IsWellFormed}
use Rattle.pg_terms.specs.Terms.{has_class, cache_is, forward_of}
use Rattle.pg_terms.specs.Rows.{allows, final_state}
use Rattle.pg_shape.specs.Shaped.{IsShaped}
use Rattle.pg_directory.specs.DirEntries.{entry_after}
use Rattle.pg_directory.specs.Sends.{forward_sent}
use Rattle.pg_directory.specs.Sound.{fits}
use Rattle.pg_directory.specs.Requests.{IsReply, action_of}
use Rattle.pg_directory.proofs.Cores.{same_core}
use Rattle.pg_directory.proofs.Facts.{is_first_of_class}
use Rattle.pg_table.specs.declared.cache.Desc.TheVariants.{Stable, Ask}
use Rattle.pg_table.specs.declared.cache.Phase.{Phase}
use Rattle.pg_table.specs.declared.cache.Tag.{Tag}
use Rattle.pg_order.specs.Messages.{sent_between, tally}
use Rattle.pg_order.specs.Orders.{DirOrder, acks_needed, entry_message}
use Rattle.pg_order.specs.Views.{View, is_unserved, IsWaitedFor, acks_owed}
use Rattle.pg_order.proofs.Known.{IsKnown, known}
use Rattle.pg_order.proofs.Back.{IsBack, unserved_back, owed_back}
use Rattle.pg_order.proofs.Invs.{inv_shares, owes_some}
use Rattle.pg_order.proofs.OneEntry.{sent_not_own}
use Rattle.pg_messages.specs.declared.messages.Reply.{Reply}
use Rattle.pg_messages.specs.declared.messages.Reply.TheVariants.{Data}
use Rattle.pg_controllers.specs.Networks.{Core}
use Rattle.pg_controllers.specs.Directories.{is_busy}
use Rattle.pg_messages.specs.declared.messages.DoneEntry.{DoneEntry}
use Rattle.pg_controllers.specs.Worlds.{World, core, order_of}
use Rattle.pg_orderly.specs.Orderly.{Mark, is_pending, view_of, IsPlaced, is_storing, is_granted, brings_data, is_data_to, is_ack_to, is_write_back, is_data_due, IsPromised, ArePromised, AcksAre, IsAnswered, IsBusy, IsOrderly}
use Rattle.pg_orderly.proofs.Keeping.{marked, moved, core_same, core_other, each}
use Rattle.pg_orderly.proofs.Acks.{storing_is}
use Rattle.pg_orderly.proofs.Postponed.{promised_same, busy_same, answered_same}
use Rattle.pg_orderly.proofs.Handled.{not_due}

-- A reply is taken away

pub tally_removed : (f : Reply → Bool) (xs : List Reply) (i : ℕ) (x : Reply) → slice_get xs i ≡ Some x → tally f (remove xs i) + cond {A = ℕ} (f x) 1 0 ≡ tally f xs
tally_removed f [] i x e = cc
tally_removed f (y ∷ xs) zero x e = let same : y ≡ x = cc in let first : cond {A = ℕ} (f y) 1 0 ≡ cond {A = ℕ} (f x) 1 0 = ap (λ y. cond {A = ℕ} (f y) 1 0) same in omega (arith, first)
tally_removed f (y ∷ xs) (suc i) x e = let rest = tally_removed f xs i x e in omega (arith, rest)

pub promised_at : (d : Draft) (p : DirOrder) (last : ℕ → ℕ) (n : ℕ) (xs : List Reply) (i : ℕ) (x : Reply) → slice_get xs i ≡ Some x → ArePromised d p last n xs → IsPromised d p last n x
promised_at d p last n [] i x e h = cc
promised_at d p last n (y ∷ xs) zero x e h = let same : y ≡ x = cc in subst (IsPromised d p last n) same h.0
promised_at d p last n (y ∷ xs) (suc i) x e h = promised_at d p last n xs i x e h.1

pub promised_removed : (d : Draft) (p : DirOrder) (last : ℕ → ℕ) (n : ℕ) (xs : List Reply) (i : ℕ) → ArePromised d p last n xs → ArePromised d p last n (remove xs i)
promised_removed d p last n [] zero h = tt
promised_removed d p last n [] (suc i) h = tt
promised_removed d p last n (y ∷ xs) zero h = h.1
promised_removed d p last n (y ∷ xs) (suc i) h = (h.0, promised_removed d p last n xs i h.1)

-- data that is due is data of an entry that is served
pub due_served : (d : Draft) (p : DirOrder) (v : View) (x : Core) (j : ℕ) → is_data_due d p v x (suc j) ≡ true → is_unserved d p v j ≡ false
due_served d p v x j h = last (is_pending x) (not (is_granted x.line.desc)) (brings_data (action_of d (p.dir_entry j) (p.at j))) (is_unserved d p v j) h
  where
    last : (a b e u : Bool) → (a && b && e && not u) ≡ true → u ≡ false
    last true true true true h = cc
    last a b e false h = refl
    last true true false true h = cc
    last true false e true h = cc
    last false b e true h = cc

pub record IsFilling (d : Draft) (w : World) (m : ℕ → Mark) (c : ℕ) (e : Event) (s : ℕ) (ph : Phase) (t : Tag) (i a wd cnt k f : ℕ) : Type 0 where
  pub desc : (core w c).line.desc ≡ Ask e s ph t
  pub slot : (core w c).slot ≡ None
  pub reply : slice_get w.replies i ≡ Some (Data a c wd cnt k)
  pub all : cnt ≡ (core w c).line.got
  pub final : final_state d s e (named.Reply a) ≡ Some f
  pub asks : e ≢ Evict
  pub lacks : cache_is (allows e) d s ≡ false
  -- from what the line says: where its entry stands, and that nothing but forwards that were put off has come since
  pub entry : ℕ
  pub last : (m c).last ≡ suc entry
  pub event : ((order_of d w).at entry).event ≡ e
  pub state : fits d ((order_of d w).dir_entry entry) c s ≡ true
  pub rest : ℕ
  pub upto : (m c).last + rest ≡ (order_of d w).top
  pub queue : (core w c).line.deferred ++ (core w c).queue ≡ sent_between (entry_message d (order_of d w) c) (m c).last rest
  pub quiet : (j : ℕ) → (m c).seen ≤ j → j < (m c).last → entry_message d (order_of d w) c j ≡ None
  pub no_inv : (j g : ℕ) → (m c).last ≤ j → j < (m c).seen → forward_sent d ((order_of d w).dir_entry j) ((order_of d w).at j) c ≡ Some g → forward_of d Inv ≡ Some g → ⊥

-- the core once its operation is done, with a word and a stamp
abbrev pub at_rest : Core → ℕ → ℕ → ℕ → Core
at_rest x f word k = record { line = record { desc = Stable f; word = word; stamp = k; need = None; got = 0; deferred = []; pending = None }; left = x.left; slot = None; queue = x.line.deferred ++ x.queue }

pub fills_kept : (d : Draft) (n : ℕ) (w : World) (m : ℕ → Mark) (c : ℕ) (e : Event) (s : ℕ) (ph : Phase) (t : Tag) (i a wd cnt k f word : ℕ) (dn : List DoneEntry) → IsWellFormed d → IsShaped d → c < n
    → IsOrderly d n w m → IsFilling d w m c e s ph t i a wd cnt k f
    → IsOrderly d n (moved c (at_rest (core w c) f word k) (remove w.replies i) dn w) (marked c (record { seen = (m c).last; last = (m c).last }) m)
fills_kept d n w m c e s ph t i a wd cnt k f word dn wf sh low o h = record {
  cores = length-set w.cores c y ∙ o.cores;
  past = o.past;
  directory = o.directory;
  last = o.last;
  placed = λ z b. each (λ z. z < n → IsPlaced d p z (core x z) (marks z)) c (λ b. rw (core_same c y rs dn w inside, same_core c) own_placed) (λ z ne b. rw (core_other c z y rs dn w ne, ne) (o.placed z b)) z b;
  waiting = record {
    lasts = λ j b. subst (λ k. suc j ≤ k) (sym (back.last (p.at j).core)) (o.waiting.lasts j b);
    forwards = λ j b un. let was = sym (same j) ∙ un in still j (o.waiting.forwards j b was) (λ is. absurd (let open_there = subst (λ j. is_unserved d p v j ≡ true) is was in cc (open_there, served)));
    invs = λ j z g b sends class lt. let waits = o.waiting.invs j z g b sends class (earlier j z g sends class lt) in still j waits (λ is. owes_none j z g b is sends class (earlier j z g sends class lt));
    shares = λ j g b un to class. o.waiting.shares j g b (sym (same j) ∙ un) to class;
  };
  ungranted = λ j b un.
      let was = sym (same j) ∙ un in
      let ne = other j (o.waiting.forwards j b was) (λ is. absurd (let open_there = subst (λ j. is_unserved d p v j ≡ true) is was in cc (open_there, served))) in
      ap (λ (z : Core). is_granted z.line.desc) (core_other c (p.at j).core y rs dn w ne) ∙ o.ungranted j b was;
  promised = promised_same d p (λ z. (m z).last) (λ z. (marks z).last) n rs back.last (promised_removed d p (λ z. (m z).last) n w.replies i o.promised);
  answered = λ z b. each (λ z. z < n → IsAnswered d p u z (core x z) rs) c (λ b. subst (λ q. IsAnswered d p u c q rs) (sym (core_same c y rs dn w inside)) own_answered)
      (λ z ne b. subst (λ q. IsAnswered d p u z q rs) (sym (core_other c z y rs dn w ne)) (other_answered z ne b)) z b;
  busy = subst (λ b. IsBusy d p u b (is_busy w.directory.desc)) (sym (wbs (is_write_back (Data a c wd cnt k)) refl)) (busy_same d p v u (tally is_write_back w.replies) (is_busy w.directory.desc) same o.busy);
  shares = λ j g b un to class. o.shares j g b (sym (same j) ∙ un) to class;
}
  where
    p : DirOrder
    p = order_of d w

    y : Core
    y = at_rest (core w c) f word k

    rs : List Reply
    rs = remove w.replies i

    marks : ℕ → Mark
    marks = marked c (record { seen = (m c).last; last = (m c).last }) m

    x : World
    x = moved c y rs dn w

    v : View
    v = view_of w m

    u : View
    u = view_of x marks

    pl : IsPlaced d p c (core w c) (m c)
    pl = o.placed c low

    inside : c < length w.cores
    inside = let same = o.cores in omega (arith, same, low)

    k0 : IsKnown d n p
    k0 = known d n p wf sh o.past

    entry_low : h.entry < p.top
    entry_low = let last = h.last in let upto = pl.last_low in omega (arith, last, upto)

    mine : (p.at h.entry).core ≡ c
    mine = pl.last_own h.entry h.last

    waited : is_pending (core w c) ≡ true
    waited = rw (h.desc, h.slot) refl

    back : IsBack d p v u c
    back = record {
      last = each (λ z. (marks z).last ≡ (m z).last) c (rw (same_core c) refl) (λ z ne. rw ne refl);
      others = λ z ne. (rw ne refl, ap is_pending (core_other c z y rs dn w ne));
      seen = rw (same_core c) refl;
      pending = ap is_pending (core_same c y rs dn w inside);
      was = waited;
      quiet = h.quiet;
      no_inv = h.no_inv;
    }

    same : (j : ℕ) → is_unserved d p u j ≡ is_unserved d p v j
    same = unserved_back d p v u c back

    taken : tally (is_data_to c) rs + 1 ≡ tally (is_data_to c) w.replies
    taken =
        let all = tally_removed (is_data_to c) w.replies i (Data a c wd cnt k) h.reply in
        let one : cond {A = ℕ} (c == c) 1 0 ≡ 1 = rw (same_core c) refl in omega (arith, all, one)

    due : (b : Bool) → is_data_due d p v (core w c) (m c).last ≡ b → b ≡ true
    due true is = refl
    due false is = absurd (let was = (o.answered c low).filled in let none : cond {A = ℕ} (is_data_due d p v (core w c) (m c).last) 1 0 ≡ 0 = ap (λ b. cond {A = ℕ} b 1 0) is in let all = taken in omega (arith, was, none, all))

    is_due : is_data_due d p v (core w c) (suc h.entry) ≡ true
    is_due = ap (is_data_due d p v (core w c)) (sym h.last) ∙ due (is_data_due d p v (core w c) (m c).last) refl

    served : is_unserved d p v h.entry ≡ false
    served = due_served d p v (core w c) h.entry is_due

    empty : tally (is_data_to c) rs ≡ 0
    empty =
        let was = (o.answered c low).filled in let all = taken in
        let one : cond {A = ℕ} (is_data_due d p v (core w c) (m c).last) 1 0 ≡ 1 = ap (λ b. cond {A = ℕ} b 1 0) (due (is_data_due d p v (core w c) (m c).last) refl) in omega (arith, was, all, one)

    promise : IsPromised d p (λ z. (m z).last) n (Data a c wd cnt k)
    promise = promised_at d p (λ z. (m z).last) n w.replies i (Data a c wd cnt k) h.reply o.promised

    reply_is : IsReply d (p.dir_entry h.entry) (p.at h.entry) (named.Reply a) × (cnt ≡ acks_needed (p.dir_entry h.entry) (p.at h.entry))
    reply_is =
        let (below, stamp, more) = promise in
        let (j, entry, reply, count) = more in
        let last = h.last in
        let same : j ≡ h.entry = omega (arith, stamp, entry, last) in
        subst (λ j. IsReply d (p.dir_entry j) (p.at j) (named.Reply a) × (cnt ≡ acks_needed (p.dir_entry j) (p.at j))) same (reply, count)

    fit : fits d (p.dir_entry (m c).last) c f ≡ true
    fit =
        let q = p.at h.entry in
        let (g, is, fits_now, allowed) = (k0.handled h.entry entry_low).granted (λ z. h.asks (sym h.event ∙ z)) s (named.Reply a)
        (subst (λ z. fits d (p.dir_entry h.entry) z s ≡ true) (sym mine) h.state) (subst (λ z. cache_is (allows z) d s ≡ false) (sym h.event) h.lacks) reply_is.0 in
        let one : Some g ≡ Some f = sym is ∙ ap (λ z. final_state d s z (named.Reply a)) h.event ∙ h.final in
        let same : g ≡ f = cc in
        ap (λ j. fits d (p.dir_entry j) c f) h.last ∙ ap (λ t. fits d t c f) (k0.past.follows h.entry entry_low) ∙ ap (λ z. fits d (entry_after d (p.dir_entry h.entry) (p.at h.entry)) z f) (sym mine)
        ∙ ap (fits d (entry_after d (p.dir_entry h.entry) (p.at h.entry)) (p.at h.entry).core) (sym same) ∙ fits_now

    own_placed : IsPlaced d p c y (record { seen = (m c).last; last = (m c).last })
    own_placed = record {
      last_low = pl.last_low;
      last_own = pl.last_own;
      last_is = pl.last_is;
      touched = λ j is. inl (pl.last_own j is);
      gap = λ j b own. omega (arith, b);
      rest = h.rest;
      upto = h.upto;
      queue = h.queue;
      line = (record { need = refl; deferred = refl; state = fit }, refl, omega arith);
    }

    -- all acknowledgements are there
    counted : (b : Bool) → AcksAre p v (core w c) (tally (is_ack_to c) w.replies) (m c).last b → (tally (is_ack_to c) w.replies ≡ 0) × (b ≡ true → acks_owed p v h.entry ≡ 0)
    counted false q = (q.1, λ e. cc)
    counted true q =
        let sum : AcksAre p v (core w c) (tally (is_ack_to c) w.replies) (suc h.entry) true = subst (λ k. AcksAre p v (core w c) (tally (is_ack_to c) w.replies) k true) h.last q in
        let count = reply_is.1 in let all = h.all in
        (omega (arith, sum, count, all), λ e. omega (arith, sum, count, all))

    complete : (tally (is_ack_to c) w.replies ≡ 0) × ((is_pending (core w c) && is_storing (core w c).line.desc) ≡ true → acks_owed p v h.entry ≡ 0)
    complete = counted (is_pending (core w c) && is_storing (core w c).line.desc) (o.answered c low).acks

    acks_as : (z : ℕ) → tally (is_ack_to z) rs ≡ tally (is_ack_to z) w.replies
    acks_as z = let all = tally_removed (is_ack_to z) w.replies i (Data a c wd cnt k) h.reply in omega (arith, all)

    wbs : (b : Bool) → is_write_back (Data a c wd cnt k) ≡ b → tally is_write_back rs ≡ tally is_write_back w.replies
    wbs b is = let all = tally_removed is_write_back w.replies i (Data a c wd cnt k) h.reply in omega (arith, all)

    own_answered : IsAnswered d p u c y rs
    own_answered = record {
      filled = empty ∙ ap (λ b. cond {A = ℕ} b 1 0) (sym (not_due d p u y (u.last c) refl));
      acks = (refl, acks_as c ∙ complete.0);
    }

    owes : (z : ℕ) → z < n → (j : ℕ) → (is_pending (core w z) && is_storing (core w z).line.desc) ≡ true → (m z).last ≡ suc j → acks_owed p u j ≡ acks_owed p v j
    owes z b j store last =
        let at = o.placed z b in let upto = at.last_low in
        owed_back d n p v u c sh k0 back j (omega (arith, last, upto)) (storing_is d p z (core w z).line (m z) (core w z).line.desc (core w z).slot at.line store j last)

    other_answered : (z : ℕ) → (c == z) ≡ false → z < n → IsAnswered d p u z (core w z) rs
    other_answered z ne b =
        let all = tally_removed (is_data_to z) w.replies i (Data a c wd cnt k) h.reply in
        let none : cond {A = ℕ} (c == z) 1 0 ≡ 0 = ap (λ b. cond {A = ℕ} b 1 0) ne in
        let data_as : tally (is_data_to z) rs ≡ tally (is_data_to z) w.replies = omega (arith, all, none) in
        let kept = answered_same d p v u z (core w z) (core w z) w.replies (back.last z) refl refl refl refl same (owes z b) (o.answered z b) in
        record { filled = data_as ∙ kept.filled; acks = subst (λ k. AcksAre p u (core w z) k (u.last z) (is_pending (core w z) && is_storing (core w z).line.desc)) (sym (acks_as z)) kept.acks }

    -- who waits for an entry other than this one isn't this core
    other : (j : ℕ) → IsWaitedFor p v j → (j ≡ h.entry → ⊥) → (c == (p.at j).core) ≡ false
    other j (last, pend) apart = at (c == (p.at j).core) refl
      where
        at : (b : Bool) → (c == (p.at j).core) ≡ b → (c == (p.at j).core) ≡ false
        at true is = absurd (let e = eqb-true c (p.at j).core is in let here : (m c).last ≡ suc j = subst (λ z. (m z).last ≡ suc j) (sym e) last in let own = h.last in apart (omega (arith, here, own)))
        at false ne = ne

    still : (j : ℕ) → IsWaitedFor p v j → (j ≡ h.entry → ⊥) → IsWaitedFor p u j
    still j (last, pend) apart = let ne = other j (last, pend) apart in (back.last (p.at j).core ∙ last, (back.others (p.at j).core ne).1 ∙ pend)

    -- an invalidation that isn't answered now wasn't answered before
    earlier : (j z g : ℕ) → forward_sent d (p.dir_entry j) (p.at j) z ≡ Some g → has_class Inv d g ≡ true → u.seen z < suc j → v.seen z < suc j
    earlier j z g sends class lt = at (c == z) refl
      where
        own : forward_sent d (p.dir_entry j) (p.at j) c ≡ Some g → (m c).last < suc j → (m c).seen < suc j
        own sends after = elim (let split : ((m c).seen ≤ j) ⊎ (j < (m c).seen) = search arith in split) [
          | inl seen ↦ omega (arith, seen)
          | inr between ↦ absurd (h.no_inv j g (omega (arith, after)) between sends (is_first_of_class d sh.forwards Inv g class))
        ]

        at : (b : Bool) → (c == z) ≡ b → v.seen z < suc j
        at true is =
            let e = eqb-true c z is in
            let seen = back.seen in
            let after : u.seen c < suc j = subst (λ z. u.seen z < suc j) (sym e) lt in
            subst (λ z. v.seen z < suc j) e (own (subst (λ z. forward_sent d (p.dir_entry j) (p.at j) z ≡ Some g) (sym e) sends) (omega (arith, seen, after)))
        at false ne = let same = (back.others z ne).0 in omega (arith, same, lt)

    -- this core's own entry has no invalidation that isn't answered
    owes_none : (j z g : ℕ) → j < p.top → j ≡ h.entry → forward_sent d (p.dir_entry j) (p.at j) z ≡ Some g → has_class Inv d g ≡ true → v.seen z < suc j → ⊥
    owes_none j z g b is sends class lt =
        let among = inv_shares d n (p.dir_entry j) (p.at j) z g (k0.handled j b) (apart ((p.at j).core == z) refl) sends class in
        let some : 1 ≤ acks_owed p v h.entry = subst (λ j. 1 ≤ acks_owed p v j) is (owes_some p v j z among lt) in
        let none = complete.1 (storing (store_only j z g b sends class is)) in omega (arith, some, none)
      where
        apart : (q : Bool) → ((p.at j).core == z) ≡ q → ((p.at j).core == z) ≡ false
        apart true own = absurd (let none = sent_not_own d (p.dir_entry j) (p.at j) z own in cc (none, sends))
        apart false ne = ne

        storing : e ≡ Store → (is_pending (core w c) && is_storing (core w c).line.desc) ≡ true
        storing store = rw (waited, h.desc, store) refl

        store_only : (j z g : ℕ) → j < p.top → forward_sent d (p.dir_entry j) (p.at j) z ≡ Some g → has_class Inv d g ≡ true → j ≡ h.entry → e ≡ Store
        store_only j z g b sends class is = Rattle.pg_order.proofs.Invs.inv_of_store d n (p.dir_entry j) (p.at j) z g (k0.handled j b) sends class e (ap (λ j. (p.at j).event) is ∙ h.event)
