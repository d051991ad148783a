-- A line that is level answers a forward.
use Rattle.std.proofs.Common.{◌≡◌, ℕ, suc, ◌+◌, ◌<◌, ◌≤◌, arith, Bool, true, false, ◌&&◌, not, List, [], ◌∷◌, ◌++◌, Option, Some, None, refl, sym, ap, subst, ◌∙◌}
use Rattle.std.specs.Prelude.{is_none, if◌then◌else◌}
use Rattle.pg_perm.specs.declared.kinds.Event.{Event}
use Rattle.pg_perm.specs.declared.kinds.Event.TheVariants.{Load, Store, Evict}
use Rattle.pg_perm.specs.declared.kinds.FwdClass.TheVariants.{Share}
use Rattle.pg_perm.specs.declared.draft.Draft.{Draft}
use Rattle.pg_terms.specs.Terms.{has_class, cache_is, take_row, forward_of, is_write_owner}
use Rattle.pg_terms.specs.Rows.{allows}
use Rattle.pg_directory.specs.Sound.{fits}
use Rattle.pg_table.specs.declared.cache.Desc.{Desc}
use Rattle.pg_table.specs.declared.cache.Desc.TheVariants.{Stable, Ask, Leave}
use Rattle.pg_table.specs.declared.cache.Phase.{Phase}
use Rattle.pg_table.specs.declared.cache.Phase.TheVariants.{D, Ad, Ac, A}
use Rattle.pg_table.specs.declared.cache.Tag.{Tag}
use Rattle.pg_table.specs.declared.cache.Tag.TheVariants.{Plain, Kept, Gave, Gone}
use Rattle.pg_table.specs.Descriptors.{store_phase}
use Rattle.pg_order.specs.Messages.{tally}
use Rattle.pg_order.specs.Orders.{DirOrder}
use Rattle.pg_messages.specs.declared.messages.Ask.{Ask as SentRequest}
use Rattle.pg_messages.specs.declared.messages.Reply.{Reply}
use Rattle.pg_messages.specs.declared.messages.Reply.TheVariants.{Data, WbData}
use Rattle.pg_controllers.specs.Networks.{Line}
use Rattle.pg_controllers.specs.Worlds.{is_stable}
use Rattle.pg_orderly.specs.Orderly.{Mark, IsLevel, IsOrdered, is_ahead, IsAsking, IsLined, is_storing, is_granted, ArePromised}

-- Lines that are level

-- the state that a line is level with
abbrev pub base : Desc → ℕ
base (Stable s) = s
base (Ask e s ph t) = s
base (Leave s) = s

abbrev pub with_base : Draft → Desc → ℕ → Desc
with_base d (Stable s) x = Stable x
with_base d (Ask e s ph t) x = Ask e x (store_phase d x) t
with_base d (Leave s) x = Leave x

-- nothing of its own entry was taken, and it is no load
abbrev pub is_level : Desc → Bool
is_level (Stable s) = true
is_level (Ask Store s ph t) = not (is_ahead ph t)
is_level (Ask e s ph t) = false
is_level (Leave s) = true

not_ahead : (ph : Phase) (t : Tag) → not (is_ahead ph t) ≡ true → (is_ahead ph t ≡ false) × (t ≡ Plain)
not_ahead A t h = cc
not_ahead D Plain h = (refl, refl)
not_ahead D Kept h = cc
not_ahead D Gave h = cc
not_ahead D Gone h = cc
not_ahead Ad Plain h = (refl, refl)
not_ahead Ad Kept h = cc
not_ahead Ad Gave h = cc
not_ahead Ad Gone h = cc
not_ahead Ac Plain h = (refl, refl)
not_ahead Ac Kept h = cc
not_ahead Ac Gave h = cc
not_ahead Ac Gone h = cc

first_plain : (d : Draft) (x : ℕ) → is_ahead (store_phase d x) Plain ≡ false
first_plain d x = at (cache_is (λ c. Rattle.pg_terms.specs.Terms.is_owner c.role) d x)
  where
    at : (b : Bool) → is_ahead (if b then Ac else Ad) Plain ≡ false
    at true = refl
    at false = refl

first_ungranted : (d : Draft) (e : Event) (x : ℕ) (t : Tag) → is_granted (Ask e x (store_phase d x) t) ≡ false
first_ungranted d e x t = at (cache_is (λ c. Rattle.pg_terms.specs.Terms.is_owner c.role) d x)
  where
    at : (b : Bool) → is_granted (Ask e x (if b then Ac else Ad) t) ≡ false
    at true = refl
    at false = refl

pub base_grant : (d : Draft) (s : Desc) (x : ℕ) → is_level s ≡ true → is_granted (with_base d s x) ≡ is_granted s
base_grant d (Stable s) x h = refl
base_grant d (Ask Load s ph t) x h = cc
base_grant d (Ask Store s ph t) x h = first_ungranted d Store x t ∙ sym (at ph h)
  where
    at : (ph : Phase) → not (is_ahead ph t) ≡ true → is_granted (Ask Store s ph t) ≡ false
    at D h = refl
    at Ad h = refl
    at Ac h = refl
    at A h = cc
base_grant d (Ask Evict s ph t) x h = cc
base_grant d (Leave s) x h = refl

pub base_stable : (d : Draft) (s : Desc) (x : ℕ) → is_stable (with_base d s x) ≡ is_stable s
base_stable d (Stable s) x = refl
base_stable d (Ask e s ph t) x = refl
base_stable d (Leave s) x = refl

pub base_store : (d : Draft) (s : Desc) (x : ℕ) → is_storing (with_base d s x) ≡ is_storing s
base_store d (Stable s) x = refl
base_store d (Ask Load s ph t) x = refl
base_store d (Ask Store s ph t) x = refl
base_store d (Ask Evict s ph t) x = refl
base_store d (Leave s) x = refl

-- what a level line says
pub level_of : (d : Draft) (p : DirOrder) (c : ℕ) (l : Line) (m : Mark) (s : Desc) (slot : Option SentRequest) → is_level s ≡ true → IsLined d p c l m s slot → IsLevel d p c l m (base s)
level_of d p c l m (Stable s) None lv h = h.0
level_of d p c l m (Stable s) (Some a) lv h = absurd h
level_of d p c l m (Ask Load s ph t) slot lv h = cc
level_of d p c l m (Ask Store s ph t) None lv h = (subst (IsAsking d p c l m Store s ph t) (not_ahead ph t lv).0 h.1).0
level_of d p c l m (Ask Store s ph t) (Some a) lv h = h.1
level_of d p c l m (Ask Evict s ph t) slot lv h = cc
level_of d p c l m (Leave s) None lv h = h.1
level_of d p c l m (Leave s) (Some a) lv h = h.1

-- where it isn't pending, it has seen its last entry
pub level_behind : (d : Draft) (p : DirOrder) (c : ℕ) (l : Line) (m : Mark) (s : Desc) (slot : Option SentRequest) → is_level s ≡ true → IsLined d p c l m s slot → (not (is_stable s) && is_none slot) ≡ false → m.last ≤ m.seen
level_behind d p c l m (Stable s) None lv h idle = h.2
level_behind d p c l m (Stable s) (Some a) lv h idle = absurd h
level_behind d p c l m (Ask e s ph t) None lv h idle = cc
level_behind d p c l m (Ask e s ph t) (Some a) lv h idle = h.5
level_behind d p c l m (Leave s) None lv h idle = cc
level_behind d p c l m (Leave s) (Some a) lv h idle = h.3

abbrev pub answering : Draft → Line → ℕ → ℕ → Line
answering d l x k = record l { desc = with_base d l.desc x; stamp = k }

pub level_moves : (d : Draft) (p : DirOrder) (c g x k : ℕ) (l : Line) (m : Mark) (s : Desc) (slot : Option SentRequest) → is_level s ≡ true → IsLined d p c l m s slot → m.seen ≤ g
    → fits d (p.dir_entry (suc g)) c x ≡ true → cache_is (allows Store) d x ≡ false → ((not (is_stable s) && is_none slot) ≡ true → suc g < m.last)
    → IsLined d p c (record l { desc = with_base d s x; stamp = k }) (record { seen = suc g; last = m.last }) (with_base d s x) slot
level_moves d p c g x k l m (Stable s) None lv h low fit deny before = let q = h.2 in (record { need = h.0.need; deferred = h.0.deferred; state = fit }, h.1, omega (arith, q, low))
level_moves d p c g x k l m (Stable s) (Some a) lv h low fit deny before = absurd h
level_moves d p c g x k l m (Ask Load s ph t) slot lv h low fit deny before = cc
level_moves d p c g x k l m (Ask Store s ph t) None lv h low fit deny before =
    let (level, plain) = not_ahead ph t lv in
    let was = subst (IsAsking d p c l m Store s ph t) level h.1 in
    let ahead : is_ahead (store_phase d x) t ≡ false = ap (is_ahead (store_phase d x)) plain ∙ first_plain d x in
    let ordered : IsOrdered p (record { seen = suc g; last = m.last }) Store = record { entry = was.2.entry; last = was.2.last; event = was.2.event } in (
      h.0,
      subst (IsAsking d p c (record l { desc = Ask Store x (store_phase d x) t; stamp = k }) (record { seen = suc g; last = m.last }) Store x (store_phase d x) t) (sym ahead)
          (record { need = was.0.need; deferred = was.0.deferred; state = fit }, (deny, refl), ordered, before refl),
    )
level_moves d p c g x k l m (Ask Store s ph t) (Some a) lv h low fit deny before =
    let q = h.5 in
    (h.0, record { need = h.1.need; deferred = h.1.deferred; state = fit }, (deny, refl), h.3, h.4, omega (arith, q, low))
level_moves d p c g x k l m (Ask Evict s ph t) slot lv h low fit deny before = cc
level_moves d p c g x k l m (Leave s) None lv h low fit deny before =
    (h.0, record { need = h.1.need; deferred = h.1.deferred; state = fit }, record { entry = h.2.entry; last = h.2.last; event = h.2.event }, before refl)
level_moves d p c g x k l m (Leave s) (Some a) lv h low fit deny before =
    let q = h.3 in
    (h.0, record { need = h.1.need; deferred = h.1.deferred; state = fit }, h.2, omega (arith, q, low))

-- Replies

pub tally-append : {A : Type 0} (f : A → Bool) (xs ys : List A) → tally f (xs ++ ys) ≡ tally f xs + tally f ys
tally-append f [] ys = omega arith
tally-append f (x ∷ xs) ys = let rest = tally-append f xs ys in omega (arith, rest)

pub promised_more : (d : Draft) (p : DirOrder) (last : ℕ → ℕ) (n : ℕ) (xs ys : List Reply) → ArePromised d p last n xs → ArePromised d p last n ys → ArePromised d p last n (xs ++ ys)
promised_more d p last n [] ys h g = g
promised_more d p last n (x ∷ xs) ys h g = (h.0, promised_more d p last n xs ys h.1 g)

-- what an owner sends that answers a forward
abbrev pub written_back : Bool → ℕ → ℕ → List Reply
written_back true w k = WbData w k ∷ []
written_back false w k = []

abbrev pub owner_sends : Draft → ℕ → ℕ → ℕ → ℕ → ℕ → ℕ → List Reply
owner_sends d f m r w i k = Data m r w i k ∷ written_back (has_class Share d f) w k
