-- The lines of a draft that break a rule of the shape, and the first.
use Rattle.std.specs.Prelude.{ℕ, ◌≡◌, Bool, List, slice_get, Some, IsTrue, ◌⊎◌}
use Rattle.pg_perm.specs.declared.draft.Draft.{Draft}
use Rattle.pg_perm.specs.declared.fault.Fault.{Fault}
use Rattle.pg_perm.specs.declared.fault.Rule.{Rule}
use Rattle.pg_perm.specs.Rules.{IsNoLater}
use Rattle.pg_shape.specs.TextRules.{text_breaks}
use Rattle.pg_shape.specs.CacheRules.{cache_breaks}
use Rattle.pg_shape.specs.DirRules.{dir_breaks}
use Rattle.pg_shape.specs.MessageRules.{message_breaks}
use Rattle.pg_shape.specs.CoreRules.{core_breaks}
use Rattle.pg_shape.specs.TakeRules.{take_breaks}
use Rattle.pg_shape.specs.RowRules.{row_breaks}

-- line L of these lines breaks rule R
abbrev pub IsBrokenIn : {X : Type 0} → (X → ℕ) → (ℕ → X → Rule → Bool) → List X → ℕ → Rule → Type 0
IsBrokenIn {X} line breaks xs L R = (n : ℕ) × (x : X) × (slice_get xs n ≡ Some x) × (L ≡ line x) × IsTrue (breaks n x R)

-- line L breaks rule R of the shape
abbrev pub BreaksShape : Draft → ℕ → Rule → Type 0
BreaksShape d L R = ((L ≡ d.line) × IsTrue (text_breaks d R))
    ⊎ IsBrokenIn (λ c. c.line) (cache_breaks d) d.caches L R ⊎ IsBrokenIn (λ l. l.line) (dir_breaks d) d.dirs L R
    ⊎ IsBrokenIn (λ m. m.line) (message_breaks d) d.messages L R ⊎ IsBrokenIn (λ c. c.line) (core_breaks d) d.cores L R
    ⊎ IsBrokenIn (λ t. t.line) (take_breaks d) d.takes L R ⊎ IsBrokenIn (λ r. r.line) (row_breaks d) d.rows L R

-- no line breaks a rule of the shape
pub record HasShape (d : Draft) : Type 0 where
  pub whole : (L : ℕ) (R : Rule) → BreaksShape d L R → ⊥

-- the first fault of the shape
pub record IsShapeFault (d : Draft) (f : Fault) : Type 0 where
  pub broken : BreaksShape d f.line f.rule
  pub least : (L : ℕ) (R : Rule) → BreaksShape d L R → IsNoLater f L R
