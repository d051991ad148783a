-- A count stands at the head of a queue: it answers the store of a core that is level, which owns.
use Rattle.std.proofs.Common.{◌≡◌, ℕ, suc, ◌+◌, ◌<◌, ◌≤◌, arith, Bool, true, false, ◌&&◌, not, cond, List, [], ◌∷◌, ◌++◌, Option, Some, None, refl, sym, ap, subst, ◌∙◌, inl, inr}
use Rattle.std.specs.Prelude.{is_some}
use Rattle.std.proofs.lemmas.Bool.{eq-eqb}
use Rattle.std.proofs.lemmas.List.{append-nil}
use Rattle.pg_perm.specs.declared.kinds.Event.{Event}
use Rattle.pg_perm.specs.declared.kinds.Event.TheVariants.{Load, Store, Evict}
use Rattle.pg_perm.specs.declared.draft.Draft.{Draft}
use Rattle.pg_perm.specs.declared.draft.Action.TheVariants as action
use Rattle.pg_perm.specs.Drafts.{IsWellFormed}
use Rattle.pg_shape.specs.Shaped.{IsShaped}
use Rattle.pg_directory.specs.DirEntries.{who}
use Rattle.pg_directory.specs.Sound.{fits}
use Rattle.pg_directory.specs.Requests.{action_of}
use Rattle.pg_directory.proofs.Holders.{owner_of_who}
use Rattle.pg_table.specs.declared.cache.Desc.{Desc}
use Rattle.pg_table.specs.declared.cache.Desc.TheVariants.{Stable, Ask, Leave}
use Rattle.pg_table.specs.declared.cache.Phase.{Phase}
use Rattle.pg_table.specs.declared.cache.Tag.{Tag}
use Rattle.pg_table.specs.declared.cache.Tag.TheVariants.{Plain}
use Rattle.pg_messages.specs.declared.messages.Ordered.{Ordered}
use Rattle.pg_messages.specs.declared.messages.Ordered.TheVariants.{AckCount}
use Rattle.pg_order.specs.Messages.{sent_between, tally}
use Rattle.pg_order.specs.Orders.{DirOrder, acks_needed, own_message, entry_message}
use Rattle.pg_order.specs.Views.{is_open_at, is_unserved}
use Rattle.pg_order.proofs.Known.{IsKnown, known}
use Rattle.pg_order.proofs.Between.{Head, head}
use Rattle.pg_order.proofs.OneEntry.{sent_not_own, passed_is}
use Rattle.pg_messages.specs.declared.messages.Ask.{Ask as SentRequest}
use Rattle.pg_controllers.specs.Networks.{Line}
use Rattle.pg_controllers.specs.Lines.{LineResult, result_of, ordered_input, received_ordered}
use Rattle.pg_messages.specs.declared.messages.WorldEvent.TheVariants.{Ordered as Ordered_to}
use Rattle.pg_controllers.specs.Worlds.{World, Picks, core, done_of, order_of, by_choice, deliver, move}
use Rattle.pg_orderly.specs.Orderly.{Mark, is_pending, view_of, HasPending, IsLevel, IsOrdered, MayBegin, is_ahead, IsAsking, IsLined, IsPlaced, is_granted, brings_data, is_data_to, is_data_due, IsOrderly}
use Rattle.pg_orderly.proofs.Keeping.{moved}
use Rattle.pg_orderly.proofs.Acks.{ordered_is, asking_is}
use Rattle.pg_table.specs.Choices.{Choice}
use Rattle.pg_safe.proofs.Heads.{from_whom, own_last, own_asks, load_counts_not, fits_at}
use Rattle.pg_safe.proofs.Race.{plain_of}

-- the world once a message was taken from a queue and core c did what it does
abbrev pub with_message : World → ℕ → List Ordered → LineResult → World
with_message w c ms a = moved c (record { line = a.line; left = (core w c).left; slot = a.slot; queue = ms }) (w.replies ++ a.replies) (w.done ++ done_of c a.done) w

pub message_moves : (d : Draft) (pick : Picks) (w : World) (c : ℕ) (q : Ordered) (ms : List Ordered) (ch : Choice) → (core w c).queue ≡ q ∷ ms → pick (core w c).line.desc (ordered_input (core w c).line q) ≡ Some ch
    → move d pick w (Ordered_to c) ≡ with_message w c ms (result_of d ch (received_ordered (core w c).line q) (core w c).line (core w c).slot)
message_moves d pick w c q ms ch queue picks =
    ap (deliver d pick c (core w c) w) queue ∙ ap (by_choice d c (received_ordered (core w c).line q) (record (core w c) { queue = ms }) w) picks

pub silent_message : (d : Draft) (n : ℕ) (w : World) (c : ℕ) (ms : List Ordered) (a : LineResult) (m : ℕ → Mark) → a.replies ≡ []
    → IsOrderly d n (moved c (record { line = a.line; left = (core w c).left; slot = a.slot; queue = ms }) w.replies (w.done ++ done_of c a.done) w) m → IsOrderly d n (with_message w c ms a) m
silent_message d n w c ms a m silent o =
    subst (λ rs. IsOrderly d n (moved c (record { line = a.line; left = (core w c).left; slot = a.slot; queue = ms }) rs (w.done ++ done_of c a.done) w) m) (sym (ap (λ xs. w.replies ++ xs) silent ∙ append-nil w.replies)) o

-- the line that meets it
pub record IsCounting (d : Draft) (n : ℕ) (w : World) (m : ℕ → Mark) (c cnt k : ℕ) (ms : List Ordered) : Type 0 where
  pub entry : ℕ
  pub last : (m c).last ≡ suc entry
  pub inside : entry < (order_of d w).top
  pub from : (m c).seen ≤ entry
  pub quiet : (j : ℕ) → (m c).seen ≤ j → j < entry → entry_message d (order_of d w) c j ≡ None
  pub rest : ℕ
  pub upto : suc entry + rest ≡ (order_of d w).top
  pub later : ms ≡ sent_between (entry_message d (order_of d w) c) (suc entry) rest
  pub own : ((order_of d w).at entry).core ≡ c
  pub event : ((order_of d w).at entry).event ≡ Store
  pub counts : action_of d ((order_of d w).dir_entry entry) ((order_of d w).at entry) ≡ Some action.Count
  pub needed : cnt ≡ acks_needed ((order_of d w).dir_entry entry) ((order_of d w).at entry)
  pub s : ℕ
  pub ph : Phase
  pub t : Tag
  pub desc : (core w c).line.desc ≡ Ask Store s ph t
  pub plain : t ≡ Plain
  pub slot : (core w c).slot ≡ None
  pub pends : HasPending (core w c).line Store
  pub level : IsLevel d (order_of d w) c (core w c).line (m c) s
  pub begins : MayBegin d Store s ph
  pub state : fits d ((order_of d w).dir_entry entry) c s ≡ true
  pub served : is_unserved d (order_of d w) (view_of w m) entry ≡ false
  pub none : tally (is_data_to c) w.replies ≡ 0

pub counting : (d : Draft) (n : ℕ) (w : World) (m : ℕ → Mark) (c cnt k : ℕ) (ms : List Ordered) → IsWellFormed d → IsShaped d → c < n → IsOrderly d n w m → (core w c).queue ≡ AckCount cnt k ∷ ms → IsCounting d n w m c cnt k ms
counting d n w m c cnt k ms wf sh low o queue = elim (from_whom d p c g (AckCount cnt k) hd.sends) [
  | inl (own, sends) ↦ by own (own_last d p c (core w c) (m c) g pl hd.from inside own) (is_store (p.at g).event refl sends) (core w c).line.desc refl (core w c).slot refl pl.line
  | inr (f, r, i, j, is, fw) ↦ cc
]
  where
    p : DirOrder
    p = order_of d w

    l : Line
    l = (core w c).line

    k0 : IsKnown d n p
    k0 = known d n p wf sh o.past

    pl : IsPlaced d p c (core w c) (m c)
    pl = o.placed c low

    hd : Head (entry_message d p c) (m c).seen pl.rest (AckCount cnt k) ms
    hd = head (entry_message d p c) (m c).seen pl.rest (AckCount cnt k) ms (sym queue ∙ pl.queue)

    g : ℕ
    g = hd.at

    inside : g < p.top
    inside = let a = hd.upto in let b = pl.upto in omega (arith, a, b)

    -- it is a store that is counted
    is_store : (e : Event) → (p.at g).event ≡ e → own_message (p.at g).event (action_of d (p.dir_entry g) (p.at g)) (acks_needed (p.dir_entry g) (p.at g)) (suc g) ≡ Some (AckCount cnt k)
        → ((p.at g).event ≡ Store) × (action_of d (p.dir_entry g) (p.at g) ≡ Some action.Count) × (cnt ≡ acks_needed (p.dir_entry g) (p.at g))
    is_store Load is sends = absurd (
        let (count, same) = own_asks (p.at g).event (action_of d (p.dir_entry g) (p.at g)) (acks_needed (p.dir_entry g) (p.at g)) (suc g) (AckCount cnt k) (λ z. let y : Load ≡ Evict = sym is ∙ z in cc) sends in
        load_counts_not d n (p.dir_entry g) (p.at g) (k0.handled g inside) (k0.past.legal g inside) is count)
    is_store Store is sends =
        let (count, same) = own_asks (p.at g).event (action_of d (p.dir_entry g) (p.at g)) (acks_needed (p.dir_entry g) (p.at g)) (suc g) (AckCount cnt k) (λ z. let y : Store ≡ Evict = sym is ∙ z in cc) sends in
        (is, count, cc)
    is_store Evict is sends = absurd (let x = ap (λ e. own_message e (action_of d (p.dir_entry g) (p.at g)) (acks_needed (p.dir_entry g) (p.at g)) (suc g)) (sym is) ∙ sends in cc)

    Counts : Type 0
    Counts = ((p.at g).event ≡ Store) × (action_of d (p.dir_entry g) (p.at g) ≡ Some action.Count) × (cnt ≡ acks_needed (p.dir_entry g) (p.at g))

    served : Counts → (p.at g).core ≡ c → is_unserved d p (view_of w m) g ≡ false
    served h own =
        let owner = owner_of_who (p.dir_entry g) c (ap (who (p.dir_entry g)) (sym own) ∙ (k0.handled g inside).counted h.1) in
        let none = passed_is d (p.dir_entry g) (p.at g) c owner ∙ sent_not_own d (p.dir_entry g) (p.at g) c (eq-eqb (p.at g).core c own) in
        ap (λ (x : Option ℕ). is_some x && is_open_at (view_of w m) g (p.dir_entry g).owner) none

    no_data : Counts → (m c).last ≡ suc g → tally (is_data_to c) w.replies ≡ 0
    no_data h last = (o.answered c low).filled ∙ ap (λ k. cond {A = ℕ} (is_data_due d p (view_of w m) (core w c) k) 1 0) last
        ∙ ap (λ a. cond {A = ℕ} (is_pending (core w c) && not (is_granted l.desc) && brings_data a && not (is_unserved d p (view_of w m) g)) 1 0) h.1
        ∙ at (is_pending (core w c)) (not (is_granted l.desc)) (not (is_unserved d p (view_of w m) g))
      where
        at : (a b e : Bool) → cond {A = ℕ} (a && b && false && e) 1 0 ≡ 0
        at true true e = refl
        at true false e = refl
        at false b e = refl

    is_it : (e : Event) → IsOrdered p (m c) e → (m c).last ≡ suc g → (p.at g).event ≡ e
    is_it e od last = ordered_is p (m c) e od g last

    by : (p.at g).core ≡ c → (m c).last ≡ suc g → Counts → (x : Desc) → l.desc ≡ x → (slot : Option SentRequest) → (core w c).slot ≡ slot → IsLined d p c l (m c) x slot → IsCounting d n w m c cnt k ms
    by own last h (Stable s) desc None slot q = absurd (let low = q.2 in let from = hd.from in omega (arith, low, from, last))
    by own last h (Stable s) desc (Some a) slot q = absurd q
    by own last h (Leave s) desc None slot q = absurd (let x : Store ≡ Evict = sym h.0 ∙ is_it Evict q.2 last in cc)
    by own last h (Leave s) desc (Some a) slot q = absurd (let low = q.3 in let from = hd.from in omega (arith, low, from, last))
    by own last h (Ask e s ph t) desc (Some a) slot q = absurd (let low = q.5 in let from = hd.from in omega (arith, low, from, last))
    by own last h (Ask Load s ph t) desc None slot q = absurd (let x : Store ≡ Load = sym h.0 ∙ is_it Load (asking_is d p c l (m c) Load s ph t (is_ahead ph t) q.1) last in cc)
    by own last h (Ask Evict s ph t) desc None slot q = absurd (let x : Store ≡ Evict = sym h.0 ∙ is_it Evict (asking_is d p c l (m c) Evict s ph t (is_ahead ph t) q.1) last in cc)
    by own last h (Ask Store s ph t) desc None slot q = at (is_ahead ph t) refl q.1
      where
        at : (b : Bool) → is_ahead ph t ≡ b → IsAsking d p c l (m c) Store s ph t b → IsCounting d n w m c cnt k ms
        at true lead a = absurd (let upto = a.upto in let from = hd.from in omega (arith, upto, from, last))
        at false level a = record {
          entry = g;
          last = last;
          inside = inside;
          from = hd.from;
          quiet = hd.quiet;
          rest = hd.rest;
          upto = hd.upto ∙ pl.upto;
          later = hd.later;
          own = own;
          event = h.0;
          counts = h.1;
          needed = h.2;
          s = s;
          ph = ph;
          t = t;
          desc = desc;
          plain = plain_of ph t level;
          slot = slot;
          pends = q.0;
          level = a.0;
          begins = a.1;
          state = fits_at d n p k0 c (core w c) (m c) g s pl hd.from (omega (arith, inside)) hd.quiet (inr (omega (arith, last))) a.0.state;
          served = served h own;
          none = no_data h last;
        }
