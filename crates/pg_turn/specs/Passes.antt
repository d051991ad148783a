-- What contracts see of a turn and of its passes.
use Rattle.std.specs.Prelude.{◌≡◌, ◌<◌, ◌+◌, ℕ, List, [], ◌∷◌, ◌++◌, length, drop, map, Bool, true, false, Option, Some, None, slice_get}
use Rattle.atomic_table.specs.Seated.{TableId}
use Rattle.atomic_table.specs.declared.shared.Seat.{Seat}
use Rattle.pg_turn.specs.declared.view.Past.{Past}
use Rattle.pg_turn.specs.declared.view.View.{View}
use Rattle.pg_turn.specs.declared.turn.Turn.{Turn}
use Rattle.pg_turn.specs.declared.turn.Pass.{Pass}
use Rattle.pg_turn.specs.Entries.{StartsWith, by}

-- the slots that the seat of a pass has out: the one of the value, emptied, while it holds the value
abbrev pub slots_out : {T : Type 0} → Bool → List (ℕ × Option T)
slots_out true = (0, None) ∷ []
slots_out false = []

-- what holds between calls of the seat of a pass with this number
pub record IsAt {T E : Type 0} (z : TableId) (first : T) (number : ℕ) (seat : Seat (Option T) (View T E)) : Type 0 where
  pub table : seat.table_id ≡ z
  pub live : seat.me.0.live ≡ true
  pub first_is : seat.me.0.origin ≡ Some first
  pub number_is : seat.me.0.own.number ≡ number
  pub alone : seat.me.0.joined ≡ []
  pub slots : seat.me.1 ≡ slots_out seat.me.0.holds

module _ {T R E : Type 0} where
  -- the value that the turn was made of
  abbrev pub first_value : Turn T R E → T
  first_value t = t.table.shared.key.value.value

  -- how many passes it has
  abbrev pub pass_count : Turn T R E → ℕ
  pass_count t = t.table.shared.key.seats

  -- the entries that the pass has seen
  abbrev pub seen_by : Pass T R E → List E
  seen_by p = p.seat.me.0.own.seen

  -- the entries that it made
  abbrev pub made_by : Pass T R E → List E
  made_by p = p.seat.me.0.own.mine

  -- how often it tried to take the value and found it taken
  abbrev pub miss_count : Pass T R E → ℕ
  miss_count p = p.seat.me.0.misses

  -- whether it holds the value
  abbrev pub is_holding : Pass T R E → Bool
  is_holding p = p.seat.me.0.holds

  -- the pass is one of this turn
  abbrev pub IsOf : Turn T R E → Pass T R E → Type 0
  IsOf t p = IsAt t.table.shared.table_id (first_value t) p.number p.seat

  -- the pass of this number, as it is made: it has seen the first entries, and made those of them that name it
  pub record IsFresh (entries : T → List E) (maker : E → ℕ) (t : Turn T R E) (k : ℕ) (p : Pass T R E) : Type 0 where
    pub is_of : IsOf t p
    pub number : p.number ≡ k
    pub seen : seen_by p ≡ entries (first_value t)
    pub mine : made_by p ≡ by maker k (entries (first_value t))
    pub misses : miss_count p ≡ 0
    pub idle : is_holding p ≡ false

  -- nothing has changed but how often the value was found taken
  pub record IsMissed (p q : Pass T R E) : Type 0 where
    pub number : q.number ≡ p.number
    pub seen : seen_by q ≡ seen_by p
    pub mine : made_by q ≡ made_by p
    pub idle : is_holding q ≡ is_holding p

  -- the pass p has taken this value, and is q now. The entries begin with all that it had seen, and it made just those of them that it knows to be its own
  pub record Takes (entries : T → List E) (maker : E → ℕ) (p : Pass T R E) (value : T) (q : Pass T R E) : Type 0 where
    pub number : q.number ≡ p.number
    pub holding : is_holding q ≡ true
    pub seen : seen_by q ≡ entries value
    pub mine : made_by q ≡ made_by p
    pub begins : StartsWith (entries value) (seen_by p)
    pub own : by maker p.number (entries value) ≡ made_by p

  -- the pass p has given this value back, and is q now. It made the entries that are new
  pub record Gives (entries : T → List E) (p : Pass T R E) (value : T) (q : Pass T R E) : Type 0 where
    pub number : q.number ≡ p.number
    pub idle : is_holding q ≡ false
    pub misses : miss_count q ≡ miss_count p
    pub seen : seen_by q ≡ entries value
    pub mine : made_by q ≡ made_by p ++ drop (length (seen_by p)) (entries value)

  -- what a pass knows is true of these entries: they begin with all that it has seen, and those that name it are just those that it made, in its order
  pub record IsTrueOf (maker : E → ℕ) (log : List E) (p : Pass T R E) : Type 0 where
    pub begins : StartsWith log (seen_by p)
    pub own : by maker p.number log ≡ made_by p

  -- the passes of the turn, by number, as they are made
  pub record AreFresh (entries : T → List E) (maker : E → ℕ) (t : Turn T R E) (ps : List (Pass T R E)) : Type 0 where
    pub count : length ps ≡ pass_count t
    pub each : (k : ℕ) (p : Pass T R E) → slice_get ps k ≡ Some p → IsFresh entries maker t k p

  -- the passes of the turn, by number, of which none holds the value
  pub record AreIdle (t : Turn T R E) (ps : List (Pass T R E)) : Type 0 where
    pub count : length ps ≡ pass_count t
    pub each : (k : ℕ) (p : Pass T R E) → slice_get ps k ≡ Some p → IsOf t p × (p.number ≡ k) × (is_holding p ≡ false)

  -- what each of them knows is true of these entries
  abbrev pub AreTrueOf : (E → ℕ) → List E → List (Pass T R E) → Type 0
  AreTrueOf maker log ps = (k : ℕ) (p : Pass T R E) → slice_get ps k ≡ Some p → IsTrueOf maker log p

  -- the seat has taken in all others of these passes, and its own stands last
  pub record IsWhole (t : Turn T R E) (ps : List (Pass T R E)) (seat : Seat (Option T) (View T E)) : Type 0 where
    pub table : seat.table_id ≡ t.table.shared.table_id
    pub live : seat.me.0.live ≡ true
    pub idle : seat.me.0.holds ≡ false
    pub all : map (λ (p : Pass T R E). p.seat.me.0.own) ps ≡ seat.me.0.joined ++ seat.me.0.own ∷ []
