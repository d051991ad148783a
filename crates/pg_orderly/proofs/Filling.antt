-- A line that is ahead, and has put off all that came, may be filled.
use Rattle.std.proofs.Common.{◌≡◌, ℕ, zero, suc, ◌+◌, ◌<◌, ◌≤◌, arith, Bool, true, false, not, cond, List, [], ◌∷◌, ◌++◌, Option, Some, None, refl, sym, ap, ◌∙◌, ◌⊎◌, inl, inr}
use Rattle.std.specs.Prelude.{◌==◌, filter}
use Rattle.pg_perm.specs.declared.kinds.Event.{Event}
use Rattle.pg_perm.specs.declared.kinds.FwdClass.TheVariants.{Inv}
use Rattle.pg_perm.specs.declared.draft.Draft.{Draft}
use Rattle.pg_terms.specs.Terms.{has_class, forward_of}
use Rattle.pg_directory.specs.Sends.{forward_sent}
use Rattle.pg_directory.proofs.Facts.{first_has_class}
use Rattle.pg_table.specs.declared.cache.Phase.{Phase}
use Rattle.pg_table.specs.declared.cache.Tag.{Tag}
use Rattle.pg_messages.specs.declared.messages.Ordered.{Ordered}
use Rattle.pg_messages.specs.declared.messages.Ordered.TheVariants.{Forward}
use Rattle.pg_order.specs.Messages.{put, sent_between}
use Rattle.pg_order.specs.Orders.{DirOrder, acks_needed, acks_carried, entry_message}
use Rattle.pg_order.proofs.Between.{between-append}
use Rattle.pg_order.proofs.OneEntry.{sent_not_own}
use Rattle.pg_controllers.specs.Networks.{Core}
use Rattle.pg_orderly.specs.Orderly.{Mark, is_deferred, IsAhead, IsPlaced}
use Rattle.pg_orderly.proofs.Serving.{ArePutOff}

filter_all : (d : Draft) (ms : List Ordered) → ArePutOff d ms → filter (is_deferred d) ms ≡ ms
filter_all d [] all = refl
filter_all d (m ∷ ms) all = ap (λ b. cond b (m ∷ filter (is_deferred d) ms) (filter (is_deferred d) ms)) all.0 ∙ ap (λ xs. m ∷ xs) (filter_all d ms all.1)

put_off_at : (d : Draft) (to : ℕ → Option Ordered) (a n j : ℕ) (m : Ordered) → ArePutOff d (sent_between to a n) → a ≤ j → j < a + n → to j ≡ Some m → is_deferred d m ≡ true
put_off_at d to a zero j m all lo hi e = absurd (omega (arith, lo, hi))
put_off_at d to a (suc n) j m all lo hi e = elim (let split : (a ≡ j) ⊎ (suc a ≤ j) = search arith in split) [
  | inl is ↦ let here : ArePutOff d (put (to a) (sent_between to (suc a) n)) = all in let sends : to a ≡ Some m = ap to is ∙ e in (rw sends at here).0
  | inr more ↦ put_off_at d to (suc a) n j m (rest (to a) all) more (omega (arith, hi)) e
]
  where
    rest : (o : Option Ordered) → ArePutOff d (put o (sent_between to (suc a) n)) → ArePutOff d (sent_between to (suc a) n)
    rest None all = all
    rest (Some x) all = all.1

-- a forward to a core is its message
sent_to : (d : Draft) (p : DirOrder) (c j f : ℕ) → forward_sent d (p.dir_entry j) (p.at j) c ≡ Some f → entry_message d p c j ≡ Some (Forward f (p.at j).core (acks_carried d (acks_needed (p.dir_entry j) (p.at j)) f) (suc j))
sent_to d p c j f sends = at ((p.at j).core == c) refl
  where
    at : (b : Bool) → ((p.at j).core == c) ≡ b → entry_message d p c j ≡ Some (Forward f (p.at j).core (acks_carried d (acks_needed (p.dir_entry j) (p.at j)) f) (suc j))
    at true own = absurd (let none = sent_not_own d (p.dir_entry j) (p.at j) c own in cc (none, sends))
    at false ne = rw (ne, sends) refl

pub record IsReady (d : Draft) (p : DirOrder) (c : ℕ) (x : Core) (m : Mark) : Type 0 where
  pub rest : ℕ
  pub upto : m.last + rest ≡ p.top
  pub queue : x.line.deferred ++ x.queue ≡ sent_between (entry_message d p c) m.last rest
  pub quiet : (j : ℕ) → m.seen ≤ j → j < m.last → entry_message d p c j ≡ None
  pub no_inv : (j g : ℕ) → m.last ≤ j → j < m.seen → forward_sent d (p.dir_entry j) (p.at j) c ≡ Some g → forward_of d Inv ≡ Some g → ⊥

pub ready : (d : Draft) (p : DirOrder) (c : ℕ) (x : Core) (m : Mark) (e : Event) (s : ℕ) (ph : Phase) (t : Tag) → IsPlaced d p c x m → (a : IsAhead d p c x.line m e s ph t) → ArePutOff d (sent_between (entry_message d p c) m.last a.past) → IsReady d p c x m
ready d p c x m e s ph t pl a all =
    let upto = a.upto in let more = pl.upto in
    record {
      rest = a.past + pl.rest;
      upto = omega (arith, upto, more);
      queue = ap (λ xs. xs ++ x.queue) (a.deferred ∙ filter_all d (sent_between (entry_message d p c) m.last a.past) all) ∙ ap (λ xs. sent_between (entry_message d p c) m.last a.past ++ xs) pl.queue
          ∙ sym (between-append (entry_message d p c) m.last a.past pl.rest m.seen (a.past + pl.rest) refl upto);
      quiet = λ j lo hi. absurd (omega (arith, lo, hi, upto));
      no_inv = λ j g lo hi sends inv.
          let off = put_off_at d (entry_message d p c) m.last a.past j (Forward g (p.at j).core (acks_carried d (acks_needed (p.dir_entry j) (p.at j)) g) (suc j)) all lo (omega (arith, hi, upto)) (sent_to d p c j g sends) in
          let class = first_has_class d Inv g inv in let none : not (has_class Inv d g) ≡ false = rw class refl in cc (off, none);
    }
