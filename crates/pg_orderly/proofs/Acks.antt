-- Acknowledgements that add up stay so where the same is owed.
use Rattle.std.proofs.Common.{◌≡◌, ℕ, zero, suc, ◌+◌, Bool, true, false, ◌&&◌, not, Option, Some, None, refl, sym, ap, subst, ◌∙◌, arith}
use Rattle.std.specs.Prelude.{is_none}
use Rattle.pg_perm.specs.declared.kinds.Event.{Event}
use Rattle.pg_perm.specs.declared.kinds.Event.TheVariants.{Load, Store, Evict}
use Rattle.pg_perm.specs.declared.draft.Draft.{Draft}
use Rattle.pg_table.specs.declared.cache.Desc.{Desc}
use Rattle.pg_table.specs.declared.cache.Desc.TheVariants.{Stable, Ask, Leave}
use Rattle.pg_table.specs.declared.cache.Phase.{Phase}
use Rattle.pg_table.specs.declared.cache.Tag.{Tag}
use Rattle.pg_order.specs.Orders.{DirOrder}
use Rattle.pg_order.specs.Views.{View, acks_owed}
use Rattle.pg_messages.specs.declared.messages.Ask.{Ask as SentRequest}
use Rattle.pg_controllers.specs.Networks.{Line, Core}
use Rattle.pg_controllers.specs.Worlds.{is_stable}
use Rattle.pg_orderly.specs.Orderly.{Mark, IsOrdered, is_ahead, IsAsking, IsLined, is_storing, AcksAre}

pub ordered_is : (p : DirOrder) (m : Mark) (e : Event) → IsOrdered p m e → (j : ℕ) → m.last ≡ suc j → (p.at j).event ≡ e
ordered_is p m e o j at = let last = o.last in let same : o.entry ≡ j = omega (arith, last, at) in subst (λ j. (p.at j).event ≡ e) same o.event

pub asking_is : (d : Draft) (p : DirOrder) (c : ℕ) (l : Line) (m : Mark) (e : Event) (s : ℕ) (ph : Phase) (t : Tag) (b : Bool) → IsAsking d p c l m e s ph t b → IsOrdered p m e
asking_is d p c l m e s ph t true a = a.ordered
asking_is d p c l m e s ph t false a = a.2

-- the entry of a store that stands in the order is a store
pub storing_is : (d : Draft) (p : DirOrder) (c : ℕ) (l : Line) (m : Mark) (s : Desc) (slot : Option SentRequest) → IsLined d p c l m s slot
    → ((not (is_stable s) && is_none slot) && is_storing s) ≡ true → (j : ℕ) → m.last ≡ suc j → (p.at j).event ≡ Store
storing_is d p c l m (Stable s) slot h e j at = cc
storing_is d p c l m (Ask Load s ph t) slot h e j at = no ((not (is_stable (Ask Load s ph t)) && is_none slot)) e
  where
    no : (b : Bool) → (b && false) ≡ true → (p.at j).event ≡ Store
    no true e = cc
    no false e = cc
storing_is d p c l m (Ask Store s ph t) (Some a) h e j at = cc
storing_is d p c l m (Ask Store s ph t) None h e j at = ordered_is p m Store (asking_is d p c l m Store s ph t (is_ahead ph t) h.1) j at
storing_is d p c l m (Ask Evict s ph t) slot h e j at = no ((not (is_stable (Ask Evict s ph t)) && is_none slot)) e
  where
    no : (b : Bool) → (b && false) ≡ true → (p.at j).event ≡ Store
    no true e = cc
    no false e = cc
storing_is d p c l m (Leave s) slot h e j at = no ((not (is_stable (Leave s)) && is_none slot)) e
  where
    no : (b : Bool) → (b && false) ≡ true → (p.at j).event ≡ Store
    no true e = cc
    no false e = cc

pub acks_same : (p : DirOrder) (v u : View) (x y : Core) (acks k : ℕ) (b : Bool) → y.line.got ≡ x.line.got → ((j : ℕ) → b ≡ true → k ≡ suc j → acks_owed p u j ≡ acks_owed p v j)
    → AcksAre p v x acks k b → AcksAre p u y acks k b
acks_same p v u x y acks k false got same h = (got ∙ h.0, h.1)
acks_same p v u x y acks zero true got same h = absurd h
acks_same p v u x y acks (suc j) true got same h = h ∙ ap (λ t. x.line.got + acks + t) (sym (same j refl refl)) ∙ ap (λ t. t + acks + acks_owed p u j) (sym got)
