-- Who owns while a core answers.
use Rattle.std.proofs.Common.{◌≡◌, ℕ, suc, ◌<◌, ◌≤◌, arith, true, false, Some, None, sym, ap, subst, ◌∙◌, ◌⊎◌, inl, inr}
use Rattle.std.specs.Prelude.{◌==◌}
use Rattle.pg_perm.specs.declared.kinds.Who.TheVariants.{Owner}
use Rattle.pg_perm.specs.declared.draft.Draft.{Draft}
use Rattle.pg_directory.specs.DirEntries.{DirEntry, Request, who, entry_after}
use Rattle.pg_directory.specs.Requests.{IsHandled}
use Rattle.pg_directory.specs.Kinds.{Kind, Stale, Read_shared, Read_owned, Read_share, Read_keep, Read_drop, Write_reply, Write_drop, Write_count, Evict_owner, Evict_sharer, entry_after_kind}
use Rattle.pg_directory.proofs.Holders.{owner_of_who}
use Rattle.pg_order.specs.Orders.{DirOrder, entry_message}
use Rattle.pg_order.specs.Views.{is_unserved}
use Rattle.pg_order.proofs.Quiet.{unchanged}
use Rattle.pg_controllers.specs.Worlds.{World, core, order_of}
use Rattle.pg_orderly.specs.Orderly.{Mark, is_pending, view_of}
use Rattle.pg_serial.specs.Faithful.{IsHeld, shown_entry}
use Rattle.pg_refined.specs.Shown.{shown}
use Rattle.pg_refined.proofs.Bridge.{others_is}
use Rattle.pg_refined.proofs.Granted.{IsJoined}

-- who owns after a request owned before it, or asked
owner_kind : (k : Kind) (r next o : ℕ) (s : DirEntry) → (entry_after_kind k r next s).owner ≡ Some o → (s.owner ≡ Some o) ⊎ (o ≡ r)
owner_kind Stale r next o s e = inl e
owner_kind Read_shared r next o s e = inl e
owner_kind Read_owned r next o s e = inr (cc e)
owner_kind (Read_share f) r next o s e = absurd cc
owner_kind (Read_keep f) r next o s e = inl e
owner_kind (Read_drop f) r next o s e = inr (cc e)
owner_kind Write_reply r next o s e = inr (cc e)
owner_kind (Write_drop f) r next o s e = inr (cc e)
owner_kind Write_count r next o s e = inr (cc e)
owner_kind Evict_owner r next o s e = absurd cc
owner_kind Evict_sharer r next o s e = inl e

pub owner_before : (d : Draft) (n : ℕ) (s : DirEntry) (q : Request) (o : ℕ) → IsHandled d n s q → (entry_after d s q).owner ≡ Some o → (s.owner ≡ Some o) ⊎ (o ≡ q.core)
owner_before d n s q o h owns = let (k, next, of) = h.kind in owner_kind k q.core next o s (ap (λ (t : DirEntry). t.owner) (sym of.knows) ∙ owns)

-- from its view on till an entry it owns
pub owns_till : (d : Draft) (n : ℕ) (w : World) (m : ℕ → Mark) → IsJoined d n w m → (c g : ℕ) → g ≤ (order_of d w).top → who ((order_of d w).dir_entry (m c).seen) c ≡ Owner
    → ((j : ℕ) → (m c).seen ≤ j → j < g → (((order_of d w).at j).core == c) ≡ false) → ((j : ℕ) → (m c).seen ≤ j → j < g → entry_message d (order_of d w) c j ≡ None)
    → (k : ℕ) → (m c).seen ≤ k → k ≤ g → ((order_of d w).dir_entry k).owner ≡ Some c
owns_till d n w m b c g low owns others quiet k from to =
    owner_of_who ((order_of d w).dir_entry k) c ((unchanged d n (order_of d w) b.known c (m c).seen k from (omega (arith, to, low)) (λ j lo hi. others j lo (omega (arith, hi, to))) (λ j lo hi. quiet j lo (omega (arith, hi, to)))).who ∙ owns)

-- up to an entry: the core alone
pub held_to : (d : Draft) (n : ℕ) (w : World) (m : ℕ → Mark) → IsJoined d n w m → (c g : ℕ) → c < n → g ≤ (order_of d w).top → who ((order_of d w).dir_entry (m c).seen) c ≡ Owner
    → ((j : ℕ) → (m c).seen ≤ j → j < g → (((order_of d w).at j).core == c) ≡ false) → ((j : ℕ) → (m c).seen ≤ j → j < g → entry_message d (order_of d w) c j ≡ None)
    → IsHeld d n (shown d w m) c (m c).seen g
held_to d n w m b c g inside low owns others quiet = record {
  others = λ j lo hi. others_is d p _ _ b.bridge j c (omega (arith, hi, low)) (others j lo hi);
  owners = λ k o more less owner.
      let mine = owns_till d n w m b c g low owns others quiet k (omega (arith, more)) less in
      let here : (p.dir_entry k).owner ≡ Some o = ap (λ (s : DirEntry). s.owner) (sym (b.bridge.dir_entries k (omega (arith, less, low)))) ∙ owner in
      let same : o ≡ c = cc (mine, here) in (subst (λ o. o < n) (sym same) inside, inl same);
}
  where
    p : DirOrder
    p = order_of d w

-- and after the entry that it answers it, or the requestor, which waits
pub held_through : (d : Draft) (n : ℕ) (w : World) (m : ℕ → Mark) → IsJoined d n w m → (c g : ℕ) → c < n → g < (order_of d w).top → (m c).seen ≤ g → who ((order_of d w).dir_entry (m c).seen) c ≡ Owner
    → ((j : ℕ) → (m c).seen ≤ j → j < suc g → (((order_of d w).at j).core == c) ≡ false) → ((j : ℕ) → (m c).seen ≤ j → j < g → entry_message d (order_of d w) c j ≡ None)
    → is_unserved d (order_of d w) (view_of w m) g ≡ true → IsHeld d n (shown d w m) c (m c).seen (suc g)
held_through d n w m b c g inside low from owns others quiet un = record {
  others = λ j lo hi. others_is d p _ _ b.bridge j c (omega (arith, hi, low)) (others j lo hi);
  owners = λ k o more less owner. elim (till k g less) [
    | inl to ↦ (held_to d n w m b c g inside (omega (arith, low)) owns (λ j lo hi. others j lo (omega (arith, hi))) quiet).owners k o more to owner
    | inr here ↦ last k o here owner
  ];
}
  where
    p : DirOrder
    p = order_of d w

    till : (k g : ℕ) → k ≤ suc g → (k ≤ g) ⊎ (k ≡ suc g)
    till k g less = search arith

    last : (k o : ℕ) → k ≡ suc g → (shown_entry d (shown d w m) k).owner ≡ Some o → (o < n) × ((o ≡ c) ⊎ ((is_pending (core w o) ≡ true) × ((m o).last ≤ k)))
    last k o here owner =
        let there : (p.dir_entry (suc g)).owner ≡ Some o = ap (λ (s : DirEntry). s.owner) (sym (b.bridge.dir_entries (suc g) low)) ∙ subst (λ k. (shown_entry d (shown d w m) k).owner ≡ Some o) here owner in (
          (((b.known.sound (suc g) low).owner o there).0),
          elim (owner_before d n (p.dir_entry g) (p.at g) o (b.known.handled g low) (ap (λ (s : DirEntry). s.owner) (sym (b.known.past.follows g low)) ∙ there)) [
            | inl old ↦ let mine = owns_till d n w m b c g (omega (arith, low)) owns (λ j lo hi. others j lo (omega (arith, hi))) quiet g from (omega arith) in let same : o ≡ c = cc (old, mine) in inl same
            | inr asks ↦ let (at, pend) = subst (λ e. ((m e).last ≡ suc g) × (is_pending (core w e) ≡ true)) (sym asks) (b.orderly.waiting.forwards g low un) in inr (pend, omega (arith, at, here))
          ],
        )
