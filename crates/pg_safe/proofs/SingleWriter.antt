-- A core that may write excludes all others from reading and writing.
use Rattle.std.proofs.Common.{◌≡◌, ◌≢◌, ℕ, zero, suc, ◌<◌, ◌≤◌, arith, Bool, true, false, ◌&&◌, not, [], Option, Some, None, refl, sym, ap, subst, ◌∙◌, ◌⊎◌, inl, inr}
use Rattle.std.specs.Prelude.{◌==◌, slice_get, is_none}
use Rattle.std.specs.Option.{option_map_or}
use Rattle.std.proofs.lemmas.Bool.{eqb-true}
use Rattle.pg_perm.specs.declared.kinds.Event.TheVariants.{Load, Store}
use Rattle.pg_perm.specs.declared.kinds.DirKind.TheVariants as kind
use Rattle.pg_perm.specs.declared.kinds.Perm.{Perm}
use Rattle.pg_perm.specs.declared.kinds.Perm.TheVariants as perm
use Rattle.pg_perm.specs.declared.draft.Draft.{Draft}
use Rattle.pg_perm.specs.declared.draft.CacheLine.{CacheLine}
use Rattle.pg_perm.specs.Drafts.{IsWellFormed}
use Rattle.pg_terms.specs.Terms.{is_none_perm, is_write_perm, cache_is}
use Rattle.pg_terms.specs.Due.{kind_is}
use Rattle.pg_terms.specs.Rows.{allows}
use Rattle.pg_shape.specs.Shaped.{IsShaped}
use Rattle.pg_directory.specs.DirEntries.{DirEntry, who, entry_after}
use Rattle.pg_directory.specs.Sound.{fits, fits_as}
use Rattle.pg_directory.proofs.Holders.{who_of_owner}
use Rattle.pg_atomic.proofs.Fits.{out_loads}
use Rattle.pg_table.specs.declared.cache.Desc.{Desc}
use Rattle.pg_table.specs.declared.cache.Desc.TheVariants.{Stable, Ask}
use Rattle.pg_table.specs.declared.cache.Phase.TheVariants.{Ad, Ac}
use Rattle.pg_table.specs.declared.cache.Tag.TheVariants.{Plain}
use Rattle.pg_messages.specs.declared.messages.Ordered.{Ordered}
use Rattle.pg_order.specs.Orders.{DirOrder, entry_message}
use Rattle.pg_order.specs.Views.{IsFresh}
use Rattle.pg_order.proofs.Known.{IsKnown, known}
use Rattle.pg_messages.specs.declared.messages.Ask.{Ask as SentRequest}
use Rattle.pg_controllers.specs.Networks.{Line, Core}
use Rattle.pg_controllers.specs.Worlds.{World, core, order_of, is_stable}
use Rattle.pg_orderly.specs.Orderly.{Mark, is_pending, view_of, Touches, IsLevel, IsLined, IsPlaced, IsOrderly}
use Rattle.pg_orderly.proofs.Answer.{base, is_level, level_of, level_behind}
use Rattle.pg_controllers.specs.Usable.{perm_at, usable}
use Rattle.pg_safe.proofs.Alone.{writer_alone, sent_not_alone, store_takes, IsHolding, nobody_else}

-- Permissions

writes_at : (d : Draft) (s : ℕ) → perm_at d s ≡ perm.Write → cache_is (allows Store) d s ≡ true
writes_at d s h = at (slice_get d.caches s) h
  where
    at : (o : Option CacheLine) → option_map_or (λ c. c.perm) o perm.None ≡ perm.Write → option_map_or (allows Store) o false ≡ true
    at None h = cc
    at (Some c) h = ap is_write_perm h

some_loads : (p : Perm) → p ≢ perm.None → not (is_none_perm p) ≡ true
some_loads perm.None h = absurd (h refl)
some_loads perm.Read h = refl
some_loads perm.Write h = refl

loads_at : (d : Draft) (s : ℕ) → perm_at d s ≢ perm.None → cache_is (allows Load) d s ≡ true
loads_at d s h = at (slice_get d.caches s) h
  where
    at : (o : Option CacheLine) → option_map_or (λ c. c.perm) o perm.None ≢ perm.None → option_map_or (allows Load) o false ≡ true
    at None h = absurd (h refl)
    at (Some c) h = some_loads c.perm h

-- Lines

-- one that can be used is level with its state
usable_level : (d : Draft) (x : Desc) → usable d x ≢ perm.None → (is_level x ≡ true) × (perm_at d (base x) ≢ perm.None)
usable_level d (Stable s) h = (refl, h)
usable_level d (Ask Store s Ad Plain) h = (refl, h)
usable_level d (Ask Store s Ac Plain) h = (refl, h)
usable_level d _ h = absurd (h refl)

-- one that may write is at rest
writer_rests : (d : Draft) (p : DirOrder) (c : ℕ) (l : Line) (m : Mark) (x : Desc) (slot : Option SentRequest) → IsLined d p c l m x slot → usable d x ≡ perm.Write
    → (s : ℕ) × (x ≡ Stable s) × (cache_is (allows Store) d s ≡ true) × IsLevel d p c l m s × (m.last ≤ m.seen)
writer_rests d p c l m (Stable s) None h u = (s, refl, writes_at d s u, h.0, h.2)
writer_rests d p c l m (Stable s) (Some a) h u = absurd h
writer_rests d p c l m (Ask Store s Ad Plain) None h u = let may = writes_at d s u in let denied = h.1.1.0 in cc
writer_rests d p c l m (Ask Store s Ad Plain) (Some a) h u = let may = writes_at d s u in let denied = h.2.0 in cc
writer_rests d p c l m (Ask Store s Ac Plain) None h u = let may = writes_at d s u in let denied = h.1.1.0 in cc
writer_rests d p c l m (Ask Store s Ac Plain) (Some a) h u = let may = writes_at d s u in let denied = h.2.0 in cc
writer_rests d p c l m _ slot h u = cc

-- a pending line that can be used waits for a store that it has not seen yet
usable_stores : (d : Draft) (p : DirOrder) (c : ℕ) (l : Line) (m : Mark) (x : Desc) (slot : Option SentRequest) → usable d x ≢ perm.None → IsLined d p c l m x slot → (not (is_stable x) && is_none slot) ≡ true
    → (m.seen < m.last) × ((j : ℕ) → m.last ≡ suc j → (p.at j).event ≡ Store)
usable_stores d p c l m (Stable s) slot u h pend = cc
usable_stores d p c l m x (Some a) u h pend = absurd (both_not (not (is_stable x)) pend)
  where
    both_not : (b : Bool) → (b && false) ≡ true → ⊥
    both_not true e = cc
    both_not false e = cc
usable_stores d p c l m (Ask Store s Ad Plain) None u h pend = let o = h.1.2 in (h.1.3, λ j e. let last = o.last in let same : o.entry ≡ j = omega (arith, last, e) in subst (λ j. (p.at j).event ≡ Store) same o.event)
usable_stores d p c l m (Ask Store s Ac Plain) None u h pend = let o = h.1.2 in (h.1.3, λ j e. let last = o.last in let same : o.entry ≡ j = omega (arith, last, e) in subst (λ j. (p.at j).event ≡ Store) same o.event)
usable_stores d p c l m _ None u h pend = absurd (u refl)

-- A writer stands at its grant

pub record IsSettled (p : DirOrder) (c : ℕ) (m : Mark) : Type 0 where
  pub entry : ℕ
  pub inside : entry < p.top
  pub seen : m.seen ≡ suc entry
  pub last : m.last ≡ suc entry
  pub own : (p.at entry).core ≡ c
  pub owns : (p.dir_entry (suc entry)).owner ≡ Some c
  pub alone : (p.dir_entry (suc entry)).sharers ≡ []

pub writer_settled : (d : Draft) (n : ℕ) (p : DirOrder) → IsShaped d → IsKnown d n p → (c : ℕ) (x : Core) (m : Mark) (s : ℕ) → IsPlaced d p c x m → fits d (p.dir_entry m.seen) c s ≡ true
    → cache_is (allows Store) d s ≡ true → m.last ≤ m.seen → IsSettled p c m
writer_settled d n p sh k c x m s pl fit may low = at m.seen refl
  where
    viewed : m.seen ≤ p.top
    viewed = let upto = pl.upto in omega (arith, upto)

    by : (g : ℕ) → m.seen ≡ suc g → ((p.dir_entry (suc g)).owner ≡ Some c) × ((p.dir_entry (suc g)).sharers ≡ []) × (kind_is kind.Owned d (p.dir_entry (suc g)).dir ≡ true) → IsSettled p c m
    by g is (owns, alone, sole) = touch (pl.touched g is)
      where
        inside : g < p.top
        inside = omega (arith, viewed, is)

        mine : (p.at g).core ≡ c → IsSettled p c m
        mine own = let last = pl.last_is g inside own in record { entry = g; inside = inside; seen = is; last = omega (arith, last, low, is); own = own; owns = owns; alone = alone }

        step : p.dir_entry (suc g) ≡ entry_after d (p.dir_entry g) (p.at g)
        step = k.past.follows g inside

        which : (b : Bool) → ((p.at g).core == c) ≡ b → (o : Ordered) → entry_message d p c g ≡ Some o → IsSettled p c m
        which true same o sends = mine (eqb-true (p.at g).core c same)
        which false ne o sends = sends_it (sentby d p g) refl
          where
            sentby : (d : Draft) (p : DirOrder) (g : ℕ) → Option ℕ
            sentby d p g = Rattle.pg_directory.specs.Sends.forward_sent d (p.dir_entry g) (p.at g) c

            sends_it : (f : Option ℕ) → Rattle.pg_directory.specs.Sends.forward_sent d (p.dir_entry g) (p.at g) c ≡ f → IsSettled p c m
            sends_it None none = absurd (let quiet : entry_message d p c g ≡ None = rw (ne, none) refl in cc (quiet, sends))
            sends_it (Some f) e = absurd (sent_not_alone d n (p.dir_entry g) (p.at g) c f (k.handled g inside) ne e
                (ap (λ s. who s c) (sym step) ∙ who_of_owner (p.dir_entry (suc g)) c owns) (subst (λ (s : DirEntry). kind_is kind.Owned d s.dir ≡ true) step sole))

        touch : Touches d p c g → IsSettled p c m
        touch (inl own) = mine own
        touch (inr (o, sends)) = which ((p.at g).core == c) refl o sends

    at : (t : ℕ) → m.seen ≡ t → IsSettled p c m
    at zero is =
        let sole = writer_alone d n (p.dir_entry m.seen) c s sh (k.sound m.seen viewed) fit may in
        let none : (p.dir_entry m.seen).owner ≡ None = ap (λ t. (p.dir_entry t).owner) is ∙ ap (λ (s : DirEntry). s.owner) k.past.starts in
        let some = sole.0 in cc (none, some)
    at (suc g) is = by g is (subst (λ t. ((p.dir_entry t).owner ≡ Some c) × ((p.dir_entry t).sharers ≡ []) × (kind_is kind.Owned d (p.dir_entry t).dir ≡ true)) is
        (writer_alone d n (p.dir_entry m.seen) c s sh (k.sound m.seen viewed) fit may))

-- A line that can be used holds something

pub usable_holds : (d : Draft) (n : ℕ) (w : World) (m : ℕ → Mark) (e : ℕ) → IsShaped d → IsKnown d n (order_of d w) → IsPlaced d (order_of d w) e (core w e) (m e)
    → usable d (core w e).line.desc ≢ perm.None → IsHolding (order_of d w) (view_of w m) e
usable_holds d n w m e sh k pl u = record {
  holds = λ none. let out = ap (λ h. fits_as d (p.dir_entry (m e).seen).dir h (base x.line.desc)) (sym none) ∙ fit in let denied = out_loads d sh (base x.line.desc) out in let may = loads_at d (base x.line.desc) lv.1 in cc (denied, may);
  viewed = let upto = pl.upto in omega (arith, upto);
  behind = λ pend. (stores pend).0;
  ahead = ahead;
}
  where
    p : DirOrder
    p = order_of d w

    x : Core
    x = core w e

    lv : (is_level x.line.desc ≡ true) × (perm_at d (base x.line.desc) ≢ perm.None)
    lv = usable_level d x.line.desc u

    fit : fits d (p.dir_entry (m e).seen) e (base x.line.desc) ≡ true
    fit = (level_of d p e x.line (m e) x.line.desc x.slot lv.0 pl.line).state

    stores : is_pending x ≡ true → ((m e).seen < (m e).last) × ((j : ℕ) → (m e).last ≡ suc j → (p.at j).event ≡ Store)
    stores pend = usable_stores d p e x.line (m e) x.line.desc x.slot u pl.line pend

    ahead : (j : ℕ) → j < p.top → (m e).seen ≤ j → (p.at j).core ≡ e
        → ((m e).last ≡ suc j) × (is_pending x ≡ true) × ((p.dir_entry (suc j)).owner ≡ Some e) × ((p.dir_entry (suc j)).sharers ≡ [])
    ahead j inside from own = at (is_pending x) refl
      where
        mine : suc j ≤ (m e).last
        mine = pl.last_is j inside own

        at : (b : Bool) → is_pending x ≡ b → ((m e).last ≡ suc j) × (is_pending x ≡ true) × ((p.dir_entry (suc j)).owner ≡ Some e) × ((p.dir_entry (suc j)).sharers ≡ [])
        at false idle = let low = level_behind d p e x.line (m e) x.line.desc x.slot lv.0 pl.line idle in absurd (omega (arith, low, mine, from))
        at true pend =
            let last : (m e).last ≡ suc j = elim (let split : (suc j < (m e).last) ⊎ ((m e).last ≡ suc j) = omega_split (suc j) (m e).last mine in split) [
              | inl lt ↦ let viewed = pl.gap j lt own in absurd (omega (arith, viewed, from))
              | inr same ↦ same
            ] in
            let (owner, alone) = store_takes d n (p.dir_entry j) (p.at j) (k.handled j inside) ((stores pend).1 j last) in
            let step = k.past.follows j inside in
            (last, pend, ap (λ (s : DirEntry). s.owner) step ∙ owner ∙ ap Some own, ap (λ (s : DirEntry). s.sharers) step ∙ alone)
          where
            omega_split : (a b : ℕ) → a ≤ b → (a < b) ⊎ (b ≡ a)
            omega_split a b le = search arith

-- The single writer

pub single_writer : (d : Draft) (n : ℕ) (w : World) (m : ℕ → Mark) (c e : ℕ) → IsWellFormed d → IsShaped d → IsOrderly d n w m → c < n → e < n → e ≢ c
    → usable d (core w c).line.desc ≡ perm.Write → usable d (core w e).line.desc ≡ perm.None
single_writer d n w m c e wf sh o low below other writes = at (usable d (core w e).line.desc) refl
  where
    p : DirOrder
    p = order_of d w

    k : IsKnown d n p
    k = known d n p wf sh o.past

    never : usable d (core w e).line.desc ≢ perm.None → ⊥
    never u =
        let pl = o.placed c low in
        let (s, desc, may, level, behind) = writer_rests d p c (core w c).line (m c) (core w c).line.desc (core w c).slot pl.line writes in
        let g = writer_settled d n p sh k c (core w c) (m c) s pl level.state may behind in
        let idle : is_pending (core w c) ≡ false = rw desc refl in
        let fresh : IsFresh (suc g.entry) c p (view_of w m) = record { grant = g.last; owns = g.owns; alone = g.alone; unspent = inr g.seen } in
        nobody_else d n p (view_of w m) k o.waiting g.entry c e g.inside fresh g.own idle (usable_holds d n w m e sh k (o.placed e below) u) other

    at : (q : Perm) → usable d (core w e).line.desc ≡ q → q ≡ perm.None
    at perm.None is = refl
    at perm.Read is = absurd (never (λ none. let x : perm.Read ≡ perm.None = sym is ∙ none in cc))
    at perm.Write is = absurd (never (λ none. let x : perm.Write ≡ perm.None = sym is ∙ none in cc))
