-- What a line says by where it stands.
use Rattle.std.proofs.Common.{◌≡◌, ◌≢◌, ℕ, ◌<◌, ◌≤◌, Bool, true, false, ◌&&◌, not, Option, Some, None, refl, ap, subst, ◌∙◌}
use Rattle.std.specs.Prelude.{is_none, if◌then◌else◌}
use Rattle.pg_perm.specs.declared.kinds.Event.{Event}
use Rattle.pg_perm.specs.declared.kinds.Event.TheVariants.{Load, Store, Evict}
use Rattle.pg_perm.specs.declared.draft.Draft.{Draft}
use Rattle.pg_terms.specs.Terms.{cache_is, is_owner}
use Rattle.pg_table.specs.declared.cache.Desc.{Desc}
use Rattle.pg_table.specs.declared.cache.Desc.TheVariants.{Stable, Ask, Leave}
use Rattle.pg_table.specs.declared.cache.Phase.{Phase}
use Rattle.pg_table.specs.declared.cache.Phase.TheVariants.{D, Ad, Ac, A}
use Rattle.pg_table.specs.declared.cache.Tag.{Tag}
use Rattle.pg_table.specs.declared.cache.Tag.TheVariants.{Plain}
use Rattle.pg_order.specs.Orders.{DirOrder}
use Rattle.pg_messages.specs.declared.messages.Ask.{Ask as SentRequest}
use Rattle.pg_controllers.specs.Networks.{Line}
use Rattle.pg_controllers.specs.Worlds.{is_stable}
use Rattle.pg_orderly.specs.Orderly.{Mark, MayBegin, IsLevel, IsPhase, IsAhead, is_ahead, is_granted, IsAsking, IsLined}
use Rattle.pg_serial.specs.Faithful.{Level, Ahead}
use Rattle.pg_refined.specs.Shown.{stand_of}

abbrev pub is_waiting : Desc → Option SentRequest → Bool
is_waiting x slot = not (is_stable x) && is_none slot

-- level: with its state, before its own entry where that is pending, and else past it
pub record IsAtLevel (d : Draft) (p : DirOrder) (c : ℕ) (l : Line) (m : Mark) (x : Desc) (slot : Option SentRequest) (s : ℕ) : Type 0 where
  pub level : IsLevel d p c l m s
  pub behind : is_waiting x slot ≡ true → m.seen < m.last
  pub past : is_waiting x slot ≡ false → m.last ≤ m.seen

at_level : (d : Draft) (p : DirOrder) (c : ℕ) (l : Line) (m : Mark) (x : Desc) (slot : Option SentRequest) (t s : ℕ) → t ≡ s → IsAtLevel d p c l m x slot t → IsAtLevel d p c l m x slot s
at_level d p c l m x slot t s same h = subst (IsAtLevel d p c l m x slot) same h

level_same : (t s : ℕ) → Level t ≡ Level s → t ≡ s
level_same t s e = cc

pub lined_level : (d : Draft) (p : DirOrder) (c : ℕ) (l : Line) (m : Mark) (x : Desc) (slot : Option SentRequest) → IsLined d p c l m x slot → (s : ℕ) → stand_of x ≡ Level s → IsAtLevel d p c l m x slot s
lined_level d p c l m (Stable t) None h s e = at_level d p c l m (Stable t) None t s (level_same t s e) (record { level = h.0; behind = λ q. cc; past = λ q. h.2 })
lined_level d p c l m (Stable t) (Some a) h s e = absurd h
lined_level d p c l m (Ask ev t ph tg) None h s e = by (is_ahead ph tg) h.1 e
  where
    by : (b : Bool) → IsAsking d p c l m ev t ph tg b → (if b then Ahead t (is_granted (Ask ev t ph tg)) else Level t) ≡ Level s → IsAtLevel d p c l m (Ask ev t ph tg) None s
    by true a e = cc
    by false a e = at_level d p c l m (Ask ev t ph tg) None t s (level_same t s e) (record { level = a.0; behind = λ q. a.3; past = λ q. cc })
lined_level d p c l m (Ask ev t ph tg) (Some a) h s e = by (is_ahead ph tg) e
  where
    by : (b : Bool) → (if b then Ahead t (is_granted (Ask ev t ph tg)) else Level t) ≡ Level s → IsAtLevel d p c l m (Ask ev t ph tg) (Some a) s
    by true e = cc
    by false e = at_level d p c l m (Ask ev t ph tg) (Some a) t s (level_same t s e) (record { level = h.1; behind = λ q. cc; past = λ q. h.5 })
lined_level d p c l m (Leave t) None h s e = at_level d p c l m (Leave t) None t s (level_same t s e) (record { level = h.1; behind = λ q. h.3; past = λ q. cc })
lined_level d p c l m (Leave t) (Some a) h s e = at_level d p c l m (Leave t) (Some a) t s (level_same t s e) (record { level = h.1; behind = λ q. cc; past = λ q. h.3 })

-- ahead of its own entry
pub record IsPastOwn (d : Draft) (p : DirOrder) (c : ℕ) (l : Line) (m : Mark) (x : Desc) (slot : Option SentRequest) (s : ℕ) (b : Bool) : Type 0 where
  pub event : Event
  pub phase : Phase
  pub tag : Tag
  pub desc : x ≡ Ask event s phase tag
  pub ahead : is_ahead phase tag ≡ true
  pub empty : slot ≡ None
  pub grant : b ≡ is_granted x
  pub line : IsAhead d p c l m event s phase tag

pub first_plain : (d : Draft) (e : Event) (s : ℕ) (ph : Phase) → MayBegin d e s ph → is_ahead ph Plain ≡ false
first_plain d Load s ph h = ap (λ ph. is_ahead ph Plain) h.1
first_plain d Store s ph h = ap (λ ph. is_ahead ph Plain) h.1 ∙ at (cache_is (λ c. is_owner c.role) d s)
  where
    at : (b : Bool) → is_ahead (if b then Ac else Ad) Plain ≡ false
    at true = refl
    at false = refl
first_plain d Evict s ph h = absurd h

pub lined_ahead : (d : Draft) (p : DirOrder) (c : ℕ) (l : Line) (m : Mark) (x : Desc) (slot : Option SentRequest) → IsLined d p c l m x slot → (s : ℕ) (b : Bool) → stand_of x ≡ Ahead s b → IsPastOwn d p c l m x slot s b
lined_ahead d p c l m (Stable t) slot h s b e = cc
lined_ahead d p c l m (Leave t) slot h s b e = cc
lined_ahead d p c l m (Ask ev t ph tg) None h s b e = by (is_ahead ph tg) refl h.1 e
  where
    same : (t s : ℕ) (a b : Bool) → Ahead t a ≡ Ahead s b → (t ≡ s) × (b ≡ a)
    same t s a b e = (cc, cc)

    by : (q : Bool) → is_ahead ph tg ≡ q → IsAsking d p c l m ev t ph tg q → (if q then Ahead t (is_granted (Ask ev t ph tg)) else Level t) ≡ Ahead s b → IsPastOwn d p c l m (Ask ev t ph tg) None s b
    by false is a e = cc
    by true is a e =
        let q = same t s (is_granted (Ask ev t ph tg)) b e in
        record { event = ev; phase = ph; tag = tg; desc = ap (λ t. Ask ev t ph tg) q.0; ahead = is; empty = refl; grant = q.1; line = subst (λ t. IsAhead d p c l m ev t ph tg) q.0 a }
lined_ahead d p c l m (Ask ev t ph tg) (Some a) h s b e = by (is_ahead ph tg) refl e
  where
    by : (q : Bool) → is_ahead ph tg ≡ q → (if q then Ahead t (is_granted (Ask ev t ph tg)) else Level t) ≡ Ahead s b → IsPastOwn d p c l m (Ask ev t ph tg) (Some a) s b
    by false is e = cc
    by true is e = absurd (let plain = first_plain d ev t ph h.2 in let at : is_ahead ph Plain ≡ true = subst (λ tg. is_ahead ph tg ≡ true) h.3 is in cc (plain, at))

pub phase_asks : (d : Draft) (e : Event) (s : ℕ) (ph : Phase) → IsPhase d e s ph → e ≢ Evict
phase_asks d e s A h = λ is. cc (h.0, is)
phase_asks d e s D h = λ is. (subst (λ e. MayBegin d e s D) is h.0)
phase_asks d e s Ad h = λ is. (subst (λ e. MayBegin d e s Ad) is h.0)
phase_asks d e s Ac h = λ is. (subst (λ e. MayBegin d e s Ac) is h.0)
