-- The rule that the queue of bells and the views of all passes keep. A pass's number is its place among the views.
use Rattle.std.specs.Prelude.{◌≡◌, ◌≢◌, ℕ, ◌+◌, ◌<◌, ◌≤◌, ◌==◌, Bool, true, false, List, [], ◌∷◌, ◌++◌, length, sum_by, count_by, All}
use mathlib.Core.Option.{some}
use lib.ListN.{get_elem?}
use Rattle.pg_bells.specs.declared.bell.Bell.{Bell}
use Rattle.pg_bells.specs.declared.view.Ringing.{Ringing}
use Rattle.pg_bells.specs.declared.view.View.{View}
use Rattle.pg_bells.specs.Histories.{blocks, Numbered, Stands, Rises}

abbrev pub ringing : ℕ → ℕ → List ℕ → Ringing
ringing number passes rung = record { number = number; passes = passes; rung = rung }

-- the view of a pass that rang and took nothing yet
abbrev pub newcomer : ℕ → ℕ → View
newcomer number passes = record { live = true; own = ringing number passes []; took = []; joined = [] }

-- the view that is left of a pass that was taken in
abbrev pub spent : View
spent = record { live = false; own = ringing 0 0 []; took = []; joined = [] }

-- what each step makes of a view
abbrev pub counted : View → View
counted v = record v { own = record v.own { passes = v.own.passes + 1 } }

abbrev pub rang : View → ℕ → View
rang v block = record v { own = record v.own { rung = v.own.rung ++ block ∷ [] } }

abbrev pub took : View → Bell → View
took v b = record v { took = v.took ++ b ∷ [] }

abbrev pub joined : View → View → View
joined v other = record v { live = true; took = other.took ++ v.took; joined = other.own ∷ v.joined }

-- what a pass says of itself is true of all bells that were rung: it rang for just these blocks, and the first pass knows how many passes there are
pub record IsTrueOf (all : List Bell) (views : List View) (r : Ringing) : Type 0 where
  pub rung : r.rung ≡ blocks r.number all
  pub passes : 0 < r.passes → (r.passes ≡ length views) × (r.number ≡ 0)

abbrev pub IsSpentAt : List View → ℕ → Type 0
IsSpentAt views n = (v : View) × (get_elem? views n ≡ some v) × (v.live ≡ false)

-- what the passes said that were taken in is true, their views are spent, and no two have one number
abbrev pub AllJoined : List Bell → List View → List Ringing → Type 0
AllJoined all views [] = Unit {0}
AllJoined all views (r ∷ rs) =
    IsTrueOf all views r × IsSpentAt views r.number × All (λ s. s.number ≢ r.number) rs × AllJoined all views rs

-- what a live pass knows is true of the bells that left the queue, and of all bells
pub record Fits (gone all : List Bell) (views : List View) (n : ℕ) (v : View) : Type 0 where
  pub number : v.own.number ≡ n
  pub own : IsTrueOf all views v.own
  pub took : All (Stands gone) v.took
  pub joined : AllJoined all views v.joined

-- All bells that were rung are those that left the queue and then those in it. They are numbered, and the cores are numbers of passes.
-- What each live pass knows is true. A spent one has no bells, and the passes together have each bell that left the queue as often as it left.
pub record InOrder (items : List Bell) (views : List View) : Type 0 where
  pub gone : List Bell
  pub numbered : Numbered [] (gone ++ items)
  pub below : All (λ b. b.core < length views) (gone ++ items)
  pub live : (n : ℕ) (v : View) → get_elem? views n ≡ some v → v.live ≡ true → Fits gone (gone ++ items) views n v
  pub idle : (n : ℕ) (v : View) → get_elem? views n ≡ some v → v.live ≡ false → v.took ≡ []
  pub whole : (test : Bell → Bool) → sum_by (λ v. count_by test v.took) views ≡ count_by test gone

-- what a pass learns where a call is refused: the bells so far, the last of which wait, and that what the pass knows is true of them
pub record Shows (v : View) (items : List Bell) : Type 0 where
  pub gone : List Bell
  pub numbered : Numbered [] (gone ++ items)
  pub rung : v.own.rung ≡ blocks v.own.number (gone ++ items)
  pub took : All (Stands gone) v.took

-- what a pass says of itself, and what those said that it took in
abbrev pub all_ringing : View → List Ringing
all_ringing v = v.joined ++ v.own ∷ []

-- What the pass that took in others learns at the end. Where it took in all of them, its bells are all that left the queue
pub record Closes (v : View) (items : List Bell) : Type 0 where
  pub gone : List Bell
  pub passes : ℕ
  pub numbered : Numbered [] (gone ++ items)
  pub below : All (λ b. b.core < passes) (gone ++ items)
  pub took : All (Stands gone) v.took
  pub rung : All (λ r. r.rung ≡ blocks r.number (gone ++ items)) (all_ringing v)
  pub counted : All (λ r. 0 < r.passes → r.passes ≡ passes) (all_ringing v)
  pub apart : (n : ℕ) → count_by (λ r. r.number == n) (all_ringing v) ≤ 1
  pub whole : ((n : ℕ) → n < passes → count_by (λ r. r.number == n) (all_ringing v) ≡ 1)
      → (test : Bell → Bool) → count_by test v.took ≡ count_by test gone
