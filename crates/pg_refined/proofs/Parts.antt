-- Forwards that are put off, invalidations that are answered, and what comes in part.
use Rattle.std.proofs.Common.{◌≡◌, ℕ, suc, ◌<◌, ◌≤◌, arith, true, false, ◌&&◌, not, List, [], ◌∷◌, ◌++◌, Some, None, refl, sym, ap, subst, ◌∙◌, inl, inr}
use Rattle.std.specs.Prelude.{◌==◌, is_none, slice_get}
use Rattle.std.specs.List.{remove}
use Rattle.pg_perm.specs.declared.kinds.Event.{Event}
use Rattle.pg_perm.specs.declared.kinds.Event.TheVariants as event
use Rattle.pg_perm.specs.declared.kinds.Who.TheVariants.{Owner}
use Rattle.pg_perm.specs.declared.draft.Draft.{Draft}
use Rattle.pg_perm.specs.declared.draft.TakeLine.{TakeLine}
use Rattle.pg_perm.specs.declared.draft.Action.TheVariants as action
use Rattle.pg_terms.specs.Terms.{out}
use Rattle.pg_directory.specs.DirEntries.{DirEntry, who, entry_after}
use Rattle.pg_directory.specs.Sound.{fits}
use Rattle.pg_directory.specs.Requests.{action_of}
use Rattle.pg_table.specs.declared.cache.Desc.TheVariants.{Stable, Ask}
use Rattle.pg_table.specs.declared.cache.Phase.{Phase}
use Rattle.pg_table.specs.declared.cache.Phase.TheVariants.{D, Ad, Ac, A}
use Rattle.pg_table.specs.declared.cache.Tag.{Tag}
use Rattle.pg_table.specs.declared.cache.Tag.TheVariants.{Plain}
use Rattle.pg_table.specs.Choices.{tag_by}
use Rattle.pg_messages.specs.declared.messages.Ordered.{Ordered}
use Rattle.pg_messages.specs.declared.messages.Ordered.TheVariants.{Forward, AckCount, PutAck}
use Rattle.pg_order.specs.Orders.{DirOrder, entry_message}
use Rattle.pg_order.proofs.Quiet.{IsSent, forward_is, quiet_sends, unchanged}
use Rattle.pg_controllers.specs.Networks as net
use Rattle.pg_messages.specs.declared.messages.Reply.{Reply}
use Rattle.pg_messages.specs.declared.messages.Reply.TheVariants.{Data, InvAck}
use Rattle.pg_controllers.specs.Worlds.{World, core, order_of}
use Rattle.pg_orderly.specs.Orderly.{Mark, is_granted, is_pending, IsPlaced}
use Rattle.pg_orderly.proofs.Keeping.{marked, moved}
use Rattle.pg_orderly.proofs.Postpone.{ahead_by}
use Rattle.pg_orderly.proofs.Postponed.{IsPutOff, with_put_off}
use Rattle.pg_orderly.proofs.Answer.{base_stable, base, with_base}
use Rattle.pg_orderly.proofs.Answered.{with_answer}
use Rattle.pg_orderly.proofs.Invalidated.{IsInvalidating}
use Rattle.pg_safe.proofs.Alone.{store_takes}
use Rattle.pg_safe.proofs.Ends.{none_before}
use Rattle.pg_safe.proofs.Heads.{IsHead, own_last}
use Rattle.pg_serial.specs.Groups.{Lacks, OwnerSilent}
use Rattle.pg_serial.specs.Serial.{by_core, entry_at}
use Rattle.pg_serial.specs.Faithful.{Ahead, IsDatum, IsFaithful, IsTold, IsUntouched, Level, run_of, state_at, top_of}
use Rattle.pg_serial.proofs.Places.{has_accesses}
use Rattle.pg_serial.proofs.Words.{word_kept}
use Rattle.pg_serial.proofs.Completes.{has_entries, lacks_above}
use Rattle.pg_serial.proofs.Rest.{filled_part, upgraded_part}
use Rattle.pg_refined.specs.Shown.{base_event, is_clean, is_clean_core, is_clean_state, leaves_clean, level_in, shown, stand_of, told_of}
use Rattle.pg_refined.proofs.Bridge.{others_is, sends_is}
use Rattle.pg_refined.proofs.Data.{data_at, datum_as}
use Rattle.pg_refined.proofs.Clean.{clean_is, clean_from, load_cleans, out_dirty}
use Rattle.pg_refined.proofs.Granted.{IsJoined}
use Rattle.pg_refined.proofs.Held.{held_to}
use Rattle.pg_refined.proofs.Answers.{level_event, level_next}
use Rattle.pg_refined.proofs.Completes.{all_of, one_less}
use Rattle.pg_refined.proofs.Fills.{exact_asked}
use Rattle.pg_refined.proofs.Moves.{told_as}
use Rattle.pg_refined.proofs.Rest.{acks_more, emptied_told, inv_empties, line_moves, put_off_told}

same_grant : (e : Event) (s : ℕ) (ph : Phase) (t u : Tag) → is_granted (Ask e s ph t) ≡ is_granted (Ask e s ph u)
same_grant e s D t u = refl
same_grant e s Ad t u = refl
same_grant e s Ac t u = refl
same_grant e s A t u = refl

-- a forward is put off
pub postponed_told : (d : Draft) (n : ℕ) (w : World) (m : ℕ → Mark) (c g : ℕ) (e : Event) (s : ℕ) (ph : Phase) (t : Tag) (f r i k : ℕ) (ms : List Ordered) → IsJoined d n w m → c < n
    → IsPutOff d w m c e s ph t f r i k ms → IsHead d (order_of d w) c (m c) g (Forward f r i k) → IsFaithful d n (shown d w m)
    → IsFaithful d n (shown d (moved c (with_put_off d (core w c) e s ph (Forward f r i k) f ms) w.replies w.done w) (marked c (record { seen = suc g; last = (m c).last }) m))
postponed_told d n w m c g e s ph t f r i k ms b there h hd faithful =
    put_off_told d n w m c g e s ph t (tag_by d f) (Forward f r i k) (with_put_off d (core w c) e s ph (Forward f r i k) f ms) w.replies b there
    (record {
      desc = h.desc;
      slot = h.slot;
      head = hd;
      first = λ is. let lt = (h.first is).1 in let stamp = (forward_is d (order_of d w) c g f r i k hd.sends).stamp in omega (arith, lt, stamp);
      line = refl;
      ahead = ahead_by d ph f;
      granted = same_grant e s ph (tag_by d f) t;
      word = refl;
      stamp = λ is. refl;
      empty = refl;
    }) (all_of d w.replies) faithful

-- an invalidation is answered
pub invalidated_told : (d : Draft) (n : ℕ) (w : World) (m : ℕ → Mark) (c g f r i k : ℕ) (ms : List Ordered) (t : TakeLine) → IsJoined d n w m → c < n
    → IsInvalidating d w m c f r i k ms t → IsHead d (order_of d w) c (m c) g (Forward f r i k) → IsFaithful d n (shown d w m)
    → IsFaithful d n (shown d (moved c (with_answer d (core w c) t.next k ms) (w.replies ++ InvAck r k ∷ []) w.done w) (marked c (record { seen = suc g; last = (m c).last }) m))
invalidated_told d n w m c g f r i k ms t b there h hd faithful =
    emptied_told d n w m c t.next g (with_answer d (core w c) t.next k ms) (w.replies ++ InvAck r k ∷ []) b there (let from = hd.from in omega (arith, from)) hd.inside
    (ap (λ (z : DirEntry). who z c) (b.known.past.follows g hd.inside) ∙ inv_empties d n ((order_of d w).dir_entry g) ((order_of d w).at g) c f (b.known.handled g hd.inside) fw.other fw.sends h.inv)
    (level_next d (core w c).line.desc t.next h.level)
    (λ q. sym pend ∙ q) (acks_more d w.replies r k) (λ owner q. own_clean q) faithful
  where
    fw : IsSent d (order_of d w) c g f r i k
    fw = forward_is d (order_of d w) c g f r i k hd.sends

    pend : is_pending (with_answer d (core w c) t.next k ms) ≡ is_pending (core w c)
    pend = ap (λ q. not q && is_none (core w c).slot) (base_stable d (core w c).line.desc t.next)

    own_clean : is_clean_core d c (with_answer d (core w c) t.next k ms) (w.replies ++ InvAck r k ∷ []) ≡ true → is_clean d w c ≡ true
    own_clean q = elim (clean_is d c (with_answer d (core w c) t.next k ms) (w.replies ++ InvAck r k ∷ []) q) [
      | inl (rests, (s, at_level, clean)) ↦
          let same : t.next ≡ s = same_level t.next s (ap level_in (sym (level_next d (core w c).line.desc t.next h.level)) ∙ at_level) in
          let un = out_dirty d b.shaped t.next (b.shaped.takes.inv (base (core w c).line.desc) f t h.take h.inv).1 in
          absurd (let un2 = subst (λ z. is_clean_state d z ≡ false) same un in cc (un2, clean))
      | inr (inl some) ↦ absurd (let none = load_cleans d b.shaped c (with_base d (core w c).line.desc t.next) (w.replies ++ InvAck r k ∷ []) (level_event d (core w c).line.desc t.next h.level) in cc (none, some))
      | inr (inr leaves) ↦ clean_from d c (core w c) w.replies (inr (inr leaves))
    ]
      where
        same_level : (t s : ℕ) → level_in (Level t) ≡ Some s → t ≡ s
        same_level t s e = cc

-- What comes in part

-- a store's line that is granted isn't clean
granted_dirty : (d : Draft) (n : ℕ) (w : World) (m : ℕ → Mark) → IsJoined d n w m → (c s : ℕ) (t : Tag) (y : net.Core) (rs : List Reply) → y.line.desc ≡ Ask event.Store s A t → y.slot ≡ None → is_clean_core d c y rs ≡ true → ⊥
granted_dirty d n w m b c s t y rs at empty q = elim (clean_is d c y rs q) [
  | inl (rests, rest) ↦ let waits : is_pending y ≡ true = rw (at, empty) refl in cc (rests, waits)
  | inr (inl some) ↦ let none = load_cleans d b.shaped c y.line.desc rs (λ e. let is = ap base_event at in cc (is, e)) in cc (none, some)
  | inr (inr leaves) ↦ let none = ap leaves_clean empty in cc (none, leaves)
]

-- data comes, and acknowledgements are still to come
pub record IsFilledPart (d : Draft) (w : World) (m : ℕ → Mark) (c p s : ℕ) (t : Tag) (i a v cnt k seen : ℕ) (y : net.Core) : Type 0 where
  pub desc : (core w c).line.desc ≡ Ask event.Store s Ad t
  pub slot : (core w c).slot ≡ None
  pub reply : slice_get w.replies i ≡ Some (Data a c v cnt k)
  pub last : (m c).last ≡ suc p
  pub does : ((order_of d w).at p).event ≡ event.Store
  pub state : fits d ((order_of d w).dir_entry p) c s ≡ true
  pub quiet : (j : ℕ) → (m c).seen ≤ j → j < p → entry_message d (order_of d w) c j ≡ None
  pub up : (m c).seen ≤ seen
  pub line : y.line.desc ≡ Ask event.Store s A t
  pub word : y.line.word ≡ v
  pub stamp : y.line.stamp ≡ k
  pub empty : y.slot ≡ None

pub part_told : (d : Draft) (n : ℕ) (w : World) (m : ℕ → Mark) (c p s : ℕ) (t : Tag) (i a v cnt k seen : ℕ) (y : net.Core) → IsJoined d n w m → c < n → IsFilledPart d w m c p s t i a v cnt k seen y → IsFaithful d n (shown d w m)
    → IsFaithful d n (shown d (moved c y (remove w.replies i) w.done w) (marked c (record { seen = seen; last = (m c).last }) m))
part_told d n w m c p s t i a v cnt k seen y b there h faithful =
    line_moves d n w m c y (record { seen = seen; last = (m c).last }) (remove w.replies i) b there (one_less d w.replies i)
    (subst (IsTold d n (shown d w m) c)
    (sym (told_as (record (told_of (m c) (core w c)) { seen = seen; stand = Ahead s true; word = v; stamp = suc p }) (told_of (record { seen = seen; last = (m c).last }) y) refl refl
    (rw (h.line, h.empty) refl ∙ sym pend) (ap stand_of h.line) h.word (h.stamp ∙ stamp)))
    (filled_part d n (shown d w m) c s p seen (datum_as a c v k) faithful there h.last
    (data_at (IsDatum d (entry_at (shown d w m).order) (state_at d n (shown d w m))) w.replies i a c v cnt k faithful.replies h.reply) stamp
    (λ held. exact_asked d n w m b c p event.Store s Ad t there (record { pending = pend; last = h.last; does = h.does; asks = λ q. cc q }) h.desc h.state h.quiet faithful) h.up))
    (λ owner q. absurd (granted_dirty d n w m b c s t y (remove w.replies i) h.line h.empty q)) faithful
  where
    pend : is_pending (core w c) ≡ true
    pend = rw (h.desc, h.slot) refl

    stamp : k ≡ suc p
    stamp = (Rattle.pg_orderly.proofs.Filled.promised_at d (order_of d w) (λ c. (m c).last) n w.replies i (Data a c v cnt k) h.reply b.orderly.promised).1 ∙ h.last

-- a count comes, and acknowledgements are still to come
pub record IsUpgradedPart (d : Draft) (w : World) (m : ℕ → Mark) (c s i k g : ℕ) (y : net.Core) : Type 0 where
  pub desc : (core w c).line.desc ≡ Ask event.Store s Ac Plain
  pub slot : (core w c).slot ≡ None
  pub head : IsHead d (order_of d w) c (m c) g (AckCount i k)
  pub own : ((order_of d w).at g).core ≡ c
  pub does : ((order_of d w).at g).event ≡ event.Store
  pub counts : action_of d ((order_of d w).dir_entry g) ((order_of d w).at g) ≡ Some action.Count
  pub line : y.line.desc ≡ Ask event.Store s A Plain
  pub word : y.line.word ≡ (core w c).line.word
  pub stamp : y.line.stamp ≡ suc g
  pub empty : y.slot ≡ None

pub upgraded_told : (d : Draft) (n : ℕ) (w : World) (m : ℕ → Mark) (c s i k g : ℕ) (y : net.Core) → IsJoined d n w m → c < n → IsUpgradedPart d w m c s i k g y → IsFaithful d n (shown d w m)
    → IsFaithful d n (shown d (moved c y w.replies w.done w) (marked c (record { seen = suc g; last = (m c).last }) m))
upgraded_told d n w m c s i k g y b there h f =
    line_moves d n w m c y (record { seen = suc g; last = (m c).last }) w.replies b there (all_of d w.replies)
    (subst (IsTold d n (shown d w m) c)
    (sym (told_as (record (told_of (m c) (core w c)) { seen = suc g; stand = Ahead s true; stamp = suc g }) (told_of (record { seen = suc g; last = (m c).last }) y) refl refl
    (rw (h.line, h.empty) refl ∙ sym pend) (ap stand_of h.line) h.word h.stamp))
    (upgraded_part d b.whole b.shaped n (shown d w m) c s g f there (ap stand_of h.desc) last h.head.from (let inside = h.head.inside in let top = b.top in omega (arith, inside, top)) untouched
    (λ none. let z = ap (λ (s : DirEntry). who s c) (sym (b.bridge.dir_entries (m c).seen (let inside = h.head.inside in let from = h.head.from in omega (arith, inside, from)))) ∙ none in cc (owns, z))
    (held_to d n w m b c g there (let inside = h.head.inside in omega (arith, inside)) owns apart h.head.quiet) word))
    (λ owner q. absurd (granted_dirty d n w m b c s Plain y w.replies h.line h.empty q)) f
  where
    p : DirOrder
    p = order_of d w

    pl : IsPlaced d p c (core w c) (m c)
    pl = b.orderly.placed c there

    pend : is_pending (core w c) ≡ true
    pend = rw (h.desc, h.slot) refl

    last : (m c).last ≡ suc g
    last = own_last d p c (core w c) (m c) g pl h.head.from h.head.inside h.own

    apart : (j : ℕ) → (m c).seen ≤ j → j < g → ((p.at j).core == c) ≡ false
    apart = none_before d p c (core w c) (m c) pl g (let inside = h.head.inside in omega (arith, inside)) (inr (omega (arith, last)))

    owns : who (p.dir_entry (m c).seen) c ≡ Owner
    owns = sym ((unchanged d n p b.known c (m c).seen g h.head.from (let inside = h.head.inside in omega (arith, inside)) apart h.head.quiet).who)
        ∙ ap (who (p.dir_entry g)) (sym h.own) ∙ (b.known.handled g h.head.inside).counted h.counts

    untouched : IsUntouched d (shown d w m) c (m c).seen g
    untouched = record {
      others = λ j lo hi. let inside = h.head.inside in others_is d p _ _ b.bridge j c (omega (arith, hi, inside)) (apart j lo hi);
      none = λ j lo hi. let inside = h.head.inside in sends_is d n p b.known _ _ b.bridge j c (omega (arith, hi, inside)) ∙ quiet_sends d (p.dir_entry j) (p.at j) (suc j) c (apart j lo hi) (h.head.quiet j lo hi);
    }

    -- after its entry the core owns, and has made no access there
    silent : OwnerSilent d (run_of n (shown d w m)) (suc g)
    silent z owner =
        let inside = h.head.inside in
        let taken = (store_takes d n (p.dir_entry g) (p.at g) (b.known.handled g inside) h.does).0 in
        let here : (p.dir_entry (suc g)).owner ≡ Some z = ap (λ (s : DirEntry). s.owner) (sym (b.bridge.dir_entries (suc g) inside)) ∙ owner in
        let mine : (p.dir_entry (suc g)).owner ≡ Some c = ap (λ (s : DirEntry). s.owner) (b.known.past.follows g inside) ∙ taken ∙ ap Some h.own in
        let same : c ≡ z = cc (mine, here) in
        subst (λ z. Lacks z (by_core (shown d w m).done (suc g) n)) same
        (lacks_above (shown d w m).done c g (suc g) n ((f.cores c there).waits pend g (omega (arith, last))) (omega arith))

    word : (state_at d n (shown d w m) (suc g)).word ≡ (state_at d n (shown d w m) g).word
    word =
        let inside = h.head.inside in let top = b.top in
        word_kept d b.whole b.shaped n (run_of n (shown d w m)) (top_of (shown d w m)) f.run (has_accesses n (shown d w m).order (shown d w m).done) (has_entries n (shown d w m).order (shown d w m).done) g (suc g) (omega arith) (omega (arith, inside, top))
        (λ j more less. let same : suc g ≡ j = omega (arith, more, less) in subst (OwnerSilent d (run_of n (shown d w m))) same silent)

-- an acknowledgement is counted: nothing of what is said changes
pub counted_told : (d : Draft) (n : ℕ) (w : World) (m : ℕ → Mark) (c i k s : ℕ) (ph : Phase) (t : Tag) (y : net.Core) → IsJoined d n w m → c < n → (core w c).line.desc ≡ Ask event.Store s ph t → (core w c).slot ≡ None
    → y.line.desc ≡ Ask event.Store s ph t → y.line.word ≡ (core w c).line.word → y.line.stamp ≡ (core w c).line.stamp → y.slot ≡ None → IsFaithful d n (shown d w m)
    → IsFaithful d n (shown d (moved c y (remove w.replies i) w.done w) (marked c (record { seen = (m c).seen; last = (m c).last }) m))
counted_told d n w m c i k s ph t y b there desc slot at word stamp empty f =
    line_moves d n w m c y (record { seen = (m c).seen; last = (m c).last }) (remove w.replies i) b there (one_less d w.replies i)
    (subst (IsTold d n (shown d w m) c)
    (sym (told_as (told_of (m c) (core w c)) (told_of (record { seen = (m c).seen; last = (m c).last }) y) refl refl (rw (at, empty) refl ∙ sym pend) (ap stand_of (at ∙ sym desc)) word stamp)) (f.cores c there))
    (λ owner q. absurd (never q)) f
  where
    pend : is_pending (core w c) ≡ true
    pend = rw (desc, slot) refl

    never : is_clean_core d c y (remove w.replies i) ≡ true → ⊥
    never q = elim (clean_is d c y (remove w.replies i) q) [
      | inl (rests, rest) ↦ let waits : is_pending y ≡ true = rw (at, empty) refl in cc (rests, waits)
      | inr (inl some) ↦ let none = load_cleans d b.shaped c y.line.desc (remove w.replies i) (λ e. let is = ap base_event at in cc (is, e)) in cc (none, some)
      | inr (inr leaves) ↦ let none = ap leaves_clean empty in cc (none, leaves)
    ]

-- an evict is acknowledged
pub retired_told : (d : Draft) (n : ℕ) (w : World) (m : ℕ → Mark) (c g k st : ℕ) (y : net.Core) → IsJoined d n w m → c < n → IsHead d (order_of d w) c (m c) g (PutAck k) → ((order_of d w).at g).core ≡ c → ((order_of d w).at g).event ≡ event.Evict
    → y.line.desc ≡ Stable st → out d ≡ Some st → y.slot ≡ None → IsFaithful d n (shown d w m)
    → IsFaithful d n (shown d (moved c y w.replies w.done w) (marked c (record { seen = suc g; last = (m c).last }) m))
retired_told d n w m c g k st y b there hd own does at gone empty f =
    emptied_told d n w m c st g y w.replies b there (let from = hd.from in omega (arith, from)) hd.inside
    (ap (λ (z : DirEntry). who z c) (b.known.past.follows g hd.inside) ∙ ap (who (entry_after d ((order_of d w).dir_entry g) ((order_of d w).at g))) (sym own) ∙ (b.known.handled g hd.inside).left does)
    (ap stand_of at) (λ q. let rests : is_pending y ≡ false = rw at refl in cc (q, rests)) (all_of d w.replies) (λ owner q. absurd (never q)) f
  where
    never : is_clean_core d c y w.replies ≡ true → ⊥
    never q = elim (clean_is d c y w.replies q) [
      | inl (rests, (s, at_level, clean)) ↦
          let same : st ≡ s = same_level st s (ap level_in (ap stand_of (sym at)) ∙ at_level) in
          let un = subst (λ z. is_clean_state d z ≡ false) same (out_dirty d b.shaped st gone) in cc (un, clean)
      | inr (inl some) ↦ let none = load_cleans d b.shaped c y.line.desc w.replies (λ e. let is = ap base_event at in cc (is, e)) in cc (none, some)
      | inr (inr leaves) ↦ let none = ap leaves_clean empty in cc (none, leaves)
    ]
      where
        same_level : (t s : ℕ) → level_in (Level t) ≡ Some s → t ≡ s
        same_level t s e = cc
