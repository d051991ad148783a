-- What a fill and an upgrade ask for, from an orderly world and the row.
use Rattle.std.proofs.Common.{◌≡◌, ℕ, zero, suc, ◌+◌, ◌<◌, ◌≤◌, arith, Bool, true, false, ◌&&◌, not, ◌++◌, Option, Some, None, refl, ap, subst, ◌∙◌, inl, inr}
use Rattle.std.specs.Prelude.{is_none, slice_get}
use Rattle.pg_perm.specs.declared.kinds.Event.{Event}
use Rattle.pg_perm.specs.declared.kinds.Event.TheVariants as event
use Rattle.pg_perm.specs.declared.draft.Draft.{Draft}
use Rattle.pg_perm.specs.declared.draft.ReplyName.TheVariants as named
use Rattle.pg_terms.specs.Rows.{final_state}
use Rattle.pg_table.specs.declared.cache.Desc.TheVariants.{Ask}
use Rattle.pg_table.specs.declared.cache.Phase.{Phase}
use Rattle.pg_table.specs.declared.cache.Phase.TheVariants.{Ac}
use Rattle.pg_table.specs.declared.cache.Tag.{Tag}
use Rattle.pg_table.specs.declared.cache.Tag.TheVariants.{Plain}
use Rattle.pg_messages.specs.declared.messages.Ordered.TheVariants.{AckCount}
use Rattle.pg_order.specs.Messages.{sent_between}
use Rattle.pg_order.specs.Orders.{DirOrder, entry_message}
use Rattle.pg_order.proofs.Between.{between-append, between-quiet}
use Rattle.pg_messages.specs.declared.messages.Ask.{Ask as SentRequest}
use Rattle.pg_messages.specs.declared.messages.Reply.TheVariants.{Data}
use Rattle.pg_controllers.specs.Worlds.{World, core, is_stable, order_of}
use Rattle.pg_orderly.specs.Orderly.{Mark, IsAhead, IsAsking, IsLined, IsPlaced, is_ahead}
use Rattle.pg_orderly.proofs.Acks.{ordered_is}
use Rattle.pg_orderly.proofs.Filled.{IsFilling}
use Rattle.pg_orderly.proofs.Filling.{IsReady, ready}
use Rattle.pg_orderly.proofs.Serving.{ArePutOff}
use Rattle.pg_safe.proofs.Ends.{begins_lacks, phase_lacks}
use Rattle.pg_safe.proofs.Heads.{IsHead, fits_at, from_whom, own_last}
use Rattle.pg_safe.proofs.Replies as replies
use Rattle.pg_refined.proofs.Granted.{IsJoined}
use Rattle.pg_refined.proofs.Counts.{IsUpgraded}

-- where it isn't pending its slot is full
slot_none : (b : Bool) (slot : Option SentRequest) → (b && is_none slot) ≡ true → slot ≡ None
slot_none true None e = refl
slot_none true (Some a) e = cc
slot_none false slot e = cc

pub filling_of : (d : Draft) (n : ℕ) (w : World) (m : ℕ → Mark) (c : ℕ) (e : Event) (s : ℕ) (ph : Phase) (t : Tag) (i a wd cnt k f : ℕ) → IsJoined d n w m → (core w c).line.desc ≡ Ask e s ph t → slice_get w.replies i ≡ Some (Data a c wd cnt k)
    → cnt ≡ (core w c).line.got → final_state d s e (named.Reply a) ≡ Some f
    → ((x : IsAhead d (order_of d w) c (core w c).line (m c) e s ph t) → ArePutOff d (sent_between (entry_message d (order_of d w) c) (m c).last x.past)) → IsFilling d w m c e s ph t i a wd cnt k f
filling_of d n w m c e s ph t i a wd cnt k f b desc get all fin off = by (is_ahead ph t) lined
  where
    p : DirOrder
    p = order_of d w

    it : replies.IsDatum d n w m c a cnt
    it = replies.datum d n w m i a c wd cnt k b.whole b.shaped b.orderly get

    pl : IsPlaced d p c (core w c) (m c)
    pl = b.orderly.placed c it.low

    empty : (core w c).slot ≡ None
    empty = slot_none (not (is_stable (core w c).line.desc)) (core w c).slot it.pending

    lined : IsAsking d p c (core w c).line (m c) e s ph t (is_ahead ph t)
    lined = (subst (λ x. IsLined d p c (core w c).line (m c) x None) desc (subst (IsLined d p c (core w c).line (m c) (core w c).line.desc) empty pl.line)).1

    quiet : (j : ℕ) → (m c).seen ≤ j → j < (m c).last → entry_message d p c j ≡ None
    quiet = replies.data_quiet d n w m i a c wd cnt k b.whole b.shaped b.orderly get

    by : (q : Bool) → IsAsking d p c (core w c).line (m c) e s ph t q → IsFilling d w m c e s ph t i a wd cnt k f
    by true x =
        let lacks = phase_lacks d e s ph b.shaped x.phase in
        let r : IsReady d p c (core w c) (m c) = ready d p c (core w c) (m c) e s ph t pl x (off x) in
        record {
          desc = desc;
          slot = empty;
          reply = get;
          all = all;
          final = fin;
          asks = lacks.0;
          lacks = lacks.1;
          entry = x.ordered.entry;
          last = x.ordered.last;
          event = x.ordered.event;
          state = x.state;
          rest = r.rest;
          upto = r.upto;
          queue = r.queue;
          quiet = r.quiet;
          no_inv = r.no_inv;
        }
    by false x =
        let lacks = begins_lacks d e s ph b.shaped x.1 in
        let last = x.2.last in
        let behind = x.3 in
        let low = pl.last_low in
        let upto = pl.upto in
        let (gap, sum) = apart (m c).seen (m c).last (omega (arith, behind)) in
        let (rest, whole) = apart (m c).last p.top low in
        let none = between-quiet (entry_message d p c) (m c).seen gap (λ j lo hi. quiet j lo (omega (arith, hi, sum))) in
        record {
          desc = desc;
          slot = empty;
          reply = get;
          all = all;
          final = fin;
          asks = lacks.0;
          lacks = lacks.1;
          entry = x.2.entry;
          last = last;
          event = x.2.event;
          state = fits_at d n p b.known c (core w c) (m c) x.2.entry s pl (omega (arith, behind, last)) (omega (arith, last, low)) (λ j lo hi. quiet j lo (omega (arith, hi, last))) (inr (omega (arith, last))) x.0.state;
          rest = rest;
          upto = whole;
          queue = ap (λ xs. xs ++ (core w c).queue) x.0.deferred ∙ pl.queue
              ∙ between-append (entry_message d p c) (m c).seen gap rest (m c).last pl.rest (omega (arith, sum, whole, upto)) sum ∙ ap (λ xs. xs ++ sent_between (entry_message d p c) (m c).last rest) none;
          quiet = quiet;
          no_inv = λ j g lo hi sends inv. absurd (omega (arith, lo, hi, behind));
        }
      where
        apart : (a b : ℕ) → a ≤ b → (r : ℕ) × (a + r ≡ b)
        apart zero b le = (b, omega arith)
        apart (suc a) zero le = absurd (omega (arith, le))
        apart (suc a) (suc b) le = let (r, is) = apart a b (omega (arith, le)) in (r, omega (arith, is))

-- the head of a line that waits for a count is its own
pub upgrade_of : (d : Draft) (n : ℕ) (w : World) (m : ℕ → Mark) (c s i k f g : ℕ) → IsJoined d n w m → c < n → (core w c).line.desc ≡ Ask event.Store s Ac Plain → (core w c).slot ≡ None → IsHead d (order_of d w) c (m c) g (AckCount i k)
    → final_state d s event.Store named.AckCount ≡ Some f → IsUpgraded d w m c s i k f g
upgrade_of d n w m c s i k f g b there desc empty hd fin = record { desc = desc; slot = empty; head = hd; own = own; does = does; final = fin }
  where
    p : DirOrder
    p = order_of d w

    pl : IsPlaced d p c (core w c) (m c)
    pl = b.orderly.placed c there

    own : (p.at g).core ≡ c
    own = elim (from_whom d p c g (AckCount i k) hd.sends) [ inl mine ↦ mine.0 | inr theirs ↦ absurd (let is = theirs.4 in cc is) ]

    lined : IsLined d p c (core w c).line (m c) (Ask event.Store s Ac Plain) None
    lined = subst (λ x. IsLined d p c (core w c).line (m c) x None) desc (subst (IsLined d p c (core w c).line (m c) (core w c).line.desc) empty pl.line)

    does : (p.at g).event ≡ event.Store
    does = ordered_is p (m c) event.Store lined.1.2 g (own_last d p c (core w c) (m c) g pl hd.from hd.inside own)
