-- What is known once all passes have come back.
use Rattle.std.specs.Prelude.{◌≡◌, ℕ, ◌+◌, ◌≤◌, ◌==◌, ◌&&◌, List, length, sum_by, count_by, flat_map, All, Any, slice_get, Some}
use Rattle.pg_bells.specs.declared.bell.Bell.{Bell}
use Rattle.pg_bells.specs.declared.pass.RingPass.{RingPass}
use Rattle.pg_bells.specs.declared.pass.AnswerPass.{AnswerPass}
use Rattle.pg_bells.specs.Passes.{core_of, rung_by, taken_by}

-- all bells that were taken
abbrev pub all_taken : List AnswerPass → List Bell
all_taken answers = flat_map (λ pass. taken_by pass) answers

-- how many bells were rung
abbrev pub rung_count : List RingPass → ℕ
rung_count rings = sum_by (λ pass. length (rung_by pass)) rings

-- the ring pass of the bell's core rang it, with this serial and block
abbrev pub WasRung : List RingPass → Bell → Type 0
WasRung rings b = Any (λ pass. (core_of pass ≡ b.core) × (slice_get (rung_by pass) b.serial ≡ Some b.block)) rings

-- no two bells have the same core and serial
abbrev pub NoneTwice : List Bell → Type 0
NoneTwice bells = (core serial : ℕ) → count_by (λ b. (b.core == core) && (b.serial == serial)) bells ≤ 1

-- so many of the bells that were rung were not taken
abbrev pub AreLeft : ℕ → List RingPass → List AnswerPass → Type 0
AreLeft left rings answers = left + length (all_taken answers) ≡ rung_count rings
