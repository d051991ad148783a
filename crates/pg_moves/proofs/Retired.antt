-- A world stays orderly when an evict is done.
use Rattle.std.proofs.Common.{◌≡◌, ℕ, suc, ◌<◌, ◌≤◌, arith, Bool, true, false, ◌&&◌, not, cond, List, [], ◌∷◌, ◌++◌, length, Option, Some, None, refl, sym, ap, subst, ◌∙◌, ◌⊎◌, inl, inr, append-nil}
use Rattle.std.specs.Prelude.{◌==◌, is_some}
use Rattle.std.proofs.lemmas.Bool.{eqb-true, eq-eqb}
use Rattle.std.proofs.lemmas.List.{length-set}
use Rattle.pg_perm.specs.declared.kinds.Event.{Event}
use Rattle.pg_perm.specs.declared.kinds.Event.TheVariants.{Load, Store, Evict}
use Rattle.pg_perm.specs.declared.kinds.Who.TheVariants.{Other}
use Rattle.pg_perm.specs.declared.draft.Draft.{Draft}
use Rattle.pg_perm.specs.Drafts.{IsWellFormed}
use Rattle.pg_shape.specs.Shaped.{IsShaped}
use Rattle.pg_directory.specs.DirEntries.{who, entry_after}
use Rattle.pg_directory.specs.Sends.{forward_sent}
use Rattle.pg_directory.specs.Sound.{fits, fits_as}
use Rattle.pg_directory.specs.Requests.{action_of}
use Rattle.pg_directory.proofs.Cores.{same_core}
use Rattle.pg_atomic.proofs.Transactions.{out_fits}
use Rattle.pg_table.specs.declared.cache.Desc.{Desc}
use Rattle.pg_table.specs.declared.cache.Desc.TheVariants.{Stable, Ask, Leave}
use Rattle.pg_table.specs.declared.cache.Phase.{Phase}
use Rattle.pg_table.specs.declared.cache.Phase.TheVariants.{D, Ad, Ac, A}
use Rattle.pg_table.specs.declared.cache.Tag.{Tag}
use Rattle.pg_table.specs.declared.cache.Input.TheVariants as at_input
use Rattle.pg_table.specs.declared.cache.Act.TheVariants as act
use Rattle.pg_table.specs.Choices.{Choice, choices}
use Rattle.pg_perm.specs.declared.kinds.Op.{Op}
use Rattle.pg_perm.specs.declared.kinds.Op.TheVariants as op
use Rattle.pg_table.specs.Descriptors.{out_state}
use Rattle.pg_messages.specs.declared.messages.Ordered.{Ordered}
use Rattle.pg_messages.specs.declared.messages.Ordered.TheVariants.{PutAck}
use Rattle.pg_order.specs.Messages.{tally}
use Rattle.pg_order.specs.Orders.{DirOrder, passed_forward, entry_message}
use Rattle.pg_order.specs.Views.{View, is_unserved, IsWaitedFor, IsWaiting, acks_owed}
use Rattle.pg_order.proofs.Known.{IsKnown, known}
use Rattle.pg_order.proofs.Between.{Head, head}
use Rattle.pg_order.proofs.OneEntry.{sent_not_own}
use Rattle.pg_order.proofs.Invs.{inv_of_store}
use Rattle.pg_order.proofs.Steps.{IsStep, unserved_same, owed_same}
use Rattle.pg_order.proofs.Back.{IsBack, unserved_back, owed_back}
use Rattle.pg_messages.specs.declared.messages.Ask.{Ask as SentRequest}
use Rattle.pg_controllers.specs.Networks.{Core, event_of}
use Rattle.pg_controllers.specs.Lines.{LineResult, goes_to, complete_pending, received_ordered}
use Rattle.pg_controllers.specs.Directories.{is_busy}
use Rattle.pg_messages.specs.declared.messages.WorldEvent.TheVariants.{Ordered as Ordered_to}
use Rattle.pg_messages.specs.declared.messages.DoneEntry.{DoneEntry}
use Rattle.pg_controllers.specs.Worlds.{Picks, World, core, order_of, settle, by_choice, deliver, move}
use Rattle.pg_orderly.specs.Orderly.{Mark, is_pending, view_of, HasPending, IsLined, IsPlaced, is_granted, is_storing, is_write_back, is_ack_to, brings_data, is_data_due, AcksAre, IsAnswered, IsOrderly}
use Rattle.pg_orderly.proofs.Acks.{storing_is}
use Rattle.pg_orderly.proofs.Keeping.{marked, moved, core_same, core_other, each}
use Rattle.pg_orderly.proofs.Handled.{not_due}
use Rattle.pg_orderly.proofs.Postponed.{promised_same, busy_same, answered_same}
use Rattle.pg_safe.proofs.Heads.{head_of, from_whom, own_last}
use Rattle.pg_safe.proofs.Replies.{evict_acts_not}
use Rattle.pg_orderly.proofs.Rows.{IsChosen, none_chosen, only_chosen}
use Rattle.pg_moves.specs.Kept.{IsOrderlyWorld}
use Rattle.pg_moves.proofs.Posts.{evict_passes}

-- the core once its evict is done
abbrev pub retired : Draft → Core → ℕ → ℕ → List Ordered → Core
retired d x word stamp ms = record {
  line = record { desc = Stable (out_state d); word = word; stamp = stamp; need = None; got = 0; deferred = x.line.deferred; pending = None };
  left = x.left;
  slot = x.slot;
  queue = ms;
}

pub retires_kept : (d : Draft) (n : ℕ) (w : World) (m : ℕ → Mark) (c s k word stamp : ℕ) (ms : List Ordered) (dn : List DoneEntry) → IsWellFormed d → IsShaped d → c < n → IsOrderly d n w m
    → (core w c).line.desc ≡ Leave s → (core w c).slot ≡ None → (core w c).queue ≡ PutAck k ∷ ms
    → (g : ℕ) × IsOrderly d n (moved c (retired d (core w c) word stamp ms) w.replies dn w) (marked c (record { seen = suc g; last = (m c).last }) m)
    × ((m c).seen ≤ g) × (g < (order_of d w).top) × ((j : ℕ) → (m c).seen ≤ j → j < g → entry_message d (order_of d w) c j ≡ None) × (entry_message d (order_of d w) c g ≡ Some (PutAck k))
retires_kept d n w m c s k word stamp ms dn wf sh low o desc slot queue = (
  g,
  record {
    cores = length-set w.cores c y ∙ o.cores;
    past = o.past;
    directory = o.directory;
    last = o.last;
    placed = λ e b. each (λ e. e < n → IsPlaced d p e (core x e) (marks e)) c (λ b. rw (here, same_core c) placed) (λ e ne b. rw (there e ne, ne) (o.placed e b)) e b;
    waiting = record {
      lasts = λ j b. subst (λ k. suc j ≤ k) (sym (lasts (p.at j).core)) (o.waiting.lasts j b);
      forwards = λ j b un. let was = sym (same j) ∙ un in still j (o.waiting.forwards j b was) (λ is_it. let shut = subst (λ j. is_unserved d p v j ≡ false) (sym is_it) served in cc (shut, was));
      invs = λ j z f b sends class lt.
          let waits = o.waiting.invs j z f b sends class (earlier j z lt) in
          still j waits (λ is_it. let store = inv_of_store d n (p.dir_entry j) (p.at j) z f (k0.handled j b) sends class (p.at j).event refl in
          let here : (p.at j).event ≡ Evict = subst (λ j. (p.at j).event ≡ Evict) (sym is_it) evict in let z : Store ≡ Evict = sym store ∙ here in cc);
      shares = λ j f b un to class. o.waiting.shares j f b (sym (same j) ∙ un) to class;
    };
    ungranted = λ j b un. each (λ e. is_granted (core w e).line.desc ≡ false → is_granted (core x e).line.desc ≡ false) c
        (λ z. ap (λ (z : Core). is_granted z.line.desc) here) (λ e ne z. ap (λ (z : Core). is_granted z.line.desc) (there e ne) ∙ z) (p.at j).core (o.ungranted j b (sym (same j) ∙ un));
    promised = promised_same d p (λ e. (m e).last) (λ e. (marks e).last) n w.replies lasts o.promised;
    answered = each (λ e. e < n → IsAnswered d p u e (core x e) w.replies) c (λ b. subst (λ z. IsAnswered d p u c z w.replies) (sym here) own_answered)
        (λ e ne b. subst (λ z. IsAnswered d p u e z w.replies) (sym (there e ne)) (answered_same d p v u e (core w e) (core w e) w.replies (lasts e) refl refl refl refl same (owes e b) (o.answered e b)));
    busy = busy_same d p v u (tally is_write_back w.replies) (is_busy w.directory.desc) same o.busy;
    shares = λ j f b un to class. o.shares j f b (sym (same j) ∙ un) to class;
  },
  hd.from,
  inside,
  hd.quiet,
  hd.sends,
)
  where
    p : DirOrder
    p = order_of d w

    pl : IsPlaced d p c (core w c) (m c)
    pl = o.placed c low

    k0 : IsKnown d n p
    k0 = known d n p wf sh o.past

    hd : Head (entry_message d p c) (m c).seen pl.rest (PutAck k) ms
    hd = head (entry_message d p c) (m c).seen pl.rest (PutAck k) ms (sym queue ∙ pl.queue)

    g : ℕ
    g = hd.at

    inside : g < p.top
    inside = let a = hd.upto in let b = pl.upto in omega (arith, a, b)

    y : Core
    y = retired d (core w c) word stamp ms

    x : World
    x = moved c y w.replies dn w

    marks : ℕ → Mark
    marks = marked c (record { seen = suc g; last = (m c).last }) m

    v : View
    v = view_of w m

    -- it has seen its entry
    v1 : View
    v1 = view_of w marks

    u : View
    u = view_of x marks

    has_room : c < length w.cores
    has_room = let same = o.cores in omega (arith, same, low)

    here : core x c ≡ y
    here = core_same c y w.replies dn w has_room

    there : (e : ℕ) → (c == e) ≡ false → core x e ≡ core w e
    there e ne = core_other c e y w.replies dn w ne

    lined : IsLined d p c (core w c).line (m c) (Leave s) None
    lined = rw (desc, slot) at pl.line

    own : (p.at g).core ≡ c
    own = elim (from_whom d p c g (PutAck k) hd.sends) [ inl (mine, e) ↦ mine | inr (f, r, i, k2, is_it, fw) ↦ absurd (let z = is_it in cc) ]

    last : (m c).last ≡ suc g
    last = own_last d p c (core w c) (m c) g pl hd.from inside own

    evict : (p.at g).event ≡ Evict
    evict = let at = lined.2.last in let same : lined.2.entry ≡ g = omega (arith, last, at) in subst (λ j. (p.at j).event ≡ Evict) same lined.2.event

    pending : is_pending (core w c) ≡ true
    pending = rw (desc, slot) refl

    lasts : (e : ℕ) → (marks e).last ≡ (m e).last
    lasts = each (λ e. (marks e).last ≡ (m e).last) c (rw (same_core c) refl) (λ e ne. rw ne refl)

    seen_now : (marks c).seen ≡ suc g
    seen_now = rw (same_core c) refl

    step : IsStep d p v v1 c g
    step = record {
      last = lasts;
      pending = λ e. refl;
      others = λ e ne. rw ne refl;
      seen = seen_now;
      low = hd.from;
      quiet = hd.quiet;
    }

    back : IsBack d p v1 u c
    back = record {
      last = λ e. refl;
      others = λ e ne. (refl, ap is_pending (there e ne));
      seen = seen_now ∙ sym last ∙ sym (lasts c);
      pending = ap is_pending here;
      was = pending;
      quiet = λ j lo hi. absurd (let a = seen_now in let b = lasts c in omega (arith, lo, hi, a, b, last));
      no_inv = λ j f lo hi sends inv. absurd (let a = seen_now in let b = lasts c in omega (arith, lo, hi, a, b, last));
    }

    nothing_passed : passed_forward d (p.dir_entry g) (p.at g) ≡ None
    nothing_passed = evict_passes d n (p.dir_entry g) (p.at g) (k0.sound g (omega (arith, inside))) (k0.handled g inside) evict

    served_by : (z : View) → is_unserved d p z g ≡ false
    served_by z = ap (λ (t : Option ℕ). is_some t && Rattle.pg_order.specs.Views.is_open_at z g (p.dir_entry g).owner) nothing_passed

    served : is_unserved d p v g ≡ false
    served = served_by v

    same : (j : ℕ) → is_unserved d p u j ≡ is_unserved d p v j
    same j = unserved_back d p v1 u c back j ∙ elim (let split : (j ≡ g) ⊎ ((j < g) ⊎ (g < j)) = search arith in split) [
      | inl is_it ↦ subst (λ j. is_unserved d p v1 j ≡ is_unserved d p v j) (sym is_it) (served_by v1 ∙ sym served)
      | inr (inl lt) ↦ unserved_same d p v v1 c g step j (λ is_it. omega (arith, is_it, lt))
      | inr (inr gt) ↦ unserved_same d p v v1 c g step j (λ is_it. omega (arith, is_it, gt))
    ]

    owes : (e : ℕ) → e < n → (j : ℕ) → (is_pending (core w e) && is_storing (core w e).line.desc) ≡ true → (m e).last ≡ suc j → acks_owed p u j ≡ acks_owed p v j
    owes e b j store at_last =
        let at = o.placed e b in
        let upto = at.last_low in
        let is_store = storing_is d p e (core w e).line (m e) (core w e).line.desc (core w e).slot at.line store j at_last in
        let in_it : j < p.top = omega (arith, at_last, upto) in
        owed_back d n p v1 u c sh k0 back j in_it is_store
        ∙ owed_same d n p v v1 c g sh k0 step j in_it is_store (λ f is_it sends inv.
        let none = sent_not_own d (p.dir_entry g) (p.at g) c (eq-eqb (p.at g).core c own) in
        let some : None ≡ Some f = sym none ∙ subst (λ j. forward_sent d (p.dir_entry j) (p.at j) c ≡ Some f) is_it sends in cc)

    earlier : (j z : ℕ) → u.seen z < suc j → v.seen z < suc j
    earlier j z = each (λ z. (marks z).seen < suc j → (m z).seen < suc j) c (λ lt. let a = seen_now in let from = hd.from in omega (arith, lt, a, from)) (λ z ne lt. subst (λ (t : Mark). t.seen < suc j) (other_mark z ne) lt) z
      where
        other_mark : (z : ℕ) → (c == z) ≡ false → marks z ≡ m z
        other_mark z ne = rw ne refl

    still : (j : ℕ) → IsWaitedFor p v j → (j ≡ g → ⊥) → IsWaitedFor p u j
    still j (at_last, pend) apart = (lasts (p.at j).core ∙ at_last, ap is_pending (there (p.at j).core (ne (c == (p.at j).core) refl)) ∙ pend)
      where
        ne : (b : Bool) → (c == (p.at j).core) ≡ b → (c == (p.at j).core) ≡ false
        ne false e = e
        ne true e = absurd (let is_it = eqb-true c (p.at j).core e in let z : (m c).last ≡ suc j = ap (λ e. (m e).last) is_it ∙ at_last in apart (omega (arith, z, last)))

    fit_out : fits d (p.dir_entry (suc g)) c (out_state d) ≡ true
    fit_out =
        let none : who (p.dir_entry (suc g)) c ≡ Other = ap (λ s. who s c) (k0.past.follows g inside) ∙ ap (λ e. who (entry_after d (p.dir_entry g) (p.at g)) e) (sym own) ∙ (k0.handled g inside).left evict in
        ap (λ w. fits_as d (p.dir_entry (suc g)).dir w (out_state d)) none ∙ out_fits d sh

    placed : IsPlaced d p c y (record { seen = suc g; last = (m c).last })
    placed = record {
      last_low = pl.last_low;
      last_own = pl.last_own;
      last_is = pl.last_is;
      touched = λ j e. let same : g ≡ j = omega (arith, e) in inl (ap (λ j. (p.at j).core) (sym same) ∙ own);
      gap = λ j lt mine. omega (arith, lt, last);
      rest = hd.rest;
      upto = hd.upto ∙ pl.upto;
      queue = hd.later;
      line = subst (IsLined d p c y.line (record { seen = suc g; last = (m c).last }) (Stable (out_state d))) (sym slot)
          (record { need = refl; deferred = lined.1.deferred; state = fit_out }, refl, omega (arith, last));
    }

    no_data : is_data_due d p v (core w c) (m c).last ≡ false
    no_data = ap (is_data_due d p v (core w c)) last ∙ by (is_pending (core w c)) (not (is_granted (core w c).line.desc)) (not (is_unserved d p v g))
      where
        none : brings_data (action_of d (p.dir_entry g) (p.at g)) ≡ false
        none = ap brings_data (evict_acts_not d (p.dir_entry g) (p.at g) evict)

        by : (a b e : Bool) → (a && b && brings_data (action_of d (p.dir_entry g) (p.at g)) && e) ≡ false
        by a b e = rw none (shut a b e)
          where
            shut : (a b e : Bool) → (a && b && false && e) ≡ false
            shut true true e = refl
            shut true false e = refl
            shut false b e = refl

    acks_none : AcksAre p v (core w c) (tally (is_ack_to c) w.replies) (m c).last false
    acks_none = subst (AcksAre p v (core w c) (tally (is_ack_to c) w.replies) (m c).last) (ap (λ z. is_pending (core w c) && is_storing z) desc ∙ and_false (is_pending (core w c))) (o.answered c low).acks
      where
        and_false : (b : Bool) → (b && false) ≡ false
        and_false true = refl
        and_false false = refl

    own_answered : IsAnswered d p u c y w.replies
    own_answered = record {
      filled = (o.answered c low).filled ∙ ap (λ b. cond {A = ℕ} b 1 0) (no_data ∙ sym (not_due d p u y (u.last c) refl));
      acks = (refl, acks_none.1);
    }

-- From the row

pub evicting : (o : Op) → event_of o ≡ Evict → o ≡ op.Evict
evicting op.Load e = cc
evicting (op.Store v) e = cc
evicting op.Evict e = refl

pub no_choice : (d : Draft) (e : Event) (s : ℕ) (ph : Phase) (t : Tag) → choices d (Ask e s ph t) at_input.PutAck ≡ []
no_choice d Load s D t = refl
no_choice d Load s Ad t = refl
no_choice d Load s Ac t = refl
no_choice d Load s A t = refl
no_choice d Store s D t = refl
no_choice d Store s Ad t = refl
no_choice d Store s Ac t = refl
no_choice d Store s A t = refl
no_choice d Evict s ph t = refl

pub put_ack_kept : (d : Draft) (n : ℕ) (pick : Picks) (w : World) (m : ℕ → Mark) (c k : ℕ) (ms : List Ordered) (ch : Choice) → IsWellFormed d → IsShaped d → c < n → IsOrderly d n w m
    → (core w c).queue ≡ PutAck k ∷ ms → pick (core w c).line.desc at_input.PutAck ≡ Some ch → IsChosen (choices d (core w c).line.desc at_input.PutAck) ch → IsOrderlyWorld d n (move d pick w (Ordered_to c))
put_ack_kept d n pick w m c k ms ch wf sh low o queue picks chosen = by (core w c).line.desc refl (core w c).slot refl pl.line chosen
  where
    p : DirOrder
    p = order_of d w

    pl : IsPlaced d p c (core w c) (m c)
    pl = o.placed c low

    x : Core
    x = core w c

    world_by : Choice → World
    world_by ch = by_choice d c (received_ordered x.line (PutAck k)) (record x { queue = ms }) w (Some ch)

    leaves : (s : ℕ) → x.line.desc ≡ Leave s → x.slot ≡ None → HasPending x.line Evict → ch ≡ record { acts = act.Done ∷ []; next = Stable (out_state d) } → IsOrderlyWorld d n (move d pick w (Ordered_to c))
    leaves s desc slot (v, pending, is_evict) same_choice =
        let (g, ok, from, inside_g, quiet, sends) = retires_kept d n w m c s k x.line.word x.line.stamp ms (w.done ++ []) wf sh low o desc slot queue in
        let marks = marked c (record { seen = suc g; last = (m c).last }) m in
        (marks, subst (λ z. IsOrderly d n z marks) (sym moves) (subst (λ rs. IsOrderly d n (moved c (retired d x x.line.word x.line.stamp ms) rs (w.done ++ []) w) marks) (sym (append-nil w.replies)) ok))
      where
        out : Desc
        out = Stable (out_state d)

        end : Option Op → LineResult
        end t = goes_to (Stable (out_state d)) (complete_pending t (received_ordered x.line (PutAck k)) (record { line = x.line; slot = x.slot; replies = []; done = None }))

        ends : end x.line.pending ≡ end (Some op.Evict)
        ends = ap end (pending ∙ ap Some (evicting v is_evict))

        moves : move d pick w (Ordered_to c) ≡ moved c (retired d x x.line.word x.line.stamp ms) (w.replies ++ []) (w.done ++ []) w
        moves =
            ap (deliver d pick c x w) queue
            ∙ ap (by_choice d c (received_ordered x.line (PutAck k)) (record x { queue = ms }) w) picks
            ∙ ap world_by same_choice
            ∙ ap (λ a. settle c (record x { queue = ms }) a w) ends

    by : (y : Desc) → x.line.desc ≡ y → (slot : Option SentRequest) → x.slot ≡ slot → IsLined d p c x.line (m c) y slot → IsChosen (choices d y at_input.PutAck) ch → IsOrderlyWorld d n (move d pick w (Ordered_to c))
    by (Stable s) desc slot is_slot l h = absurd (none_chosen ch h)
    by (Ask e s ph t) desc slot is_slot l h = absurd (none_chosen ch (subst (λ cs. IsChosen cs ch) (no_choice d e s ph t) h))
    by (Leave s) desc None is_slot l h = leaves s desc is_slot l.0 (only_chosen (record { acts = act.Done ∷ []; next = Stable (out_state d) }) ch h)
    by (Leave s) desc (Some a) is_slot l h = absurd (
        let (g, hd) = head_of d p c x (m c) (PutAck k) ms pl queue in
        elim (from_whom d p c g (PutAck k) hd.sends) [
          | inl (mine, e) ↦ let last = own_last d p c x (m c) g pl hd.from hd.inside mine in let from = hd.from in let behind = l.3 in omega (arith, last, from, behind)
          | inr (f, r, i, k2, is_it, fw) ↦ cc is_it
        ])
