-- The passes as they are made, for the functions that make them.
use Rattle.std.specs.Prelude.{◌≡◌, ℕ, ◌+◌, ◌<◌, List, length, slice_index_or}
use Rattle.crossbeam_queue.specs.Passes.{view}
use Rattle.pg_bells.specs.declared.pass.RingPass.{RingPass}
use Rattle.pg_bells.specs.declared.pass.AnswerPass.{AnswerPass}
use Rattle.pg_bells.specs.Rule.{newcomer}

-- the ring pass of this core, which isn't the first pass
abbrev pub IsNewRinger : ℕ → RingPass → Type 0
IsNewRinger core pass = (pass.core ≡ core) × (pass.count ≡ 0) × (view pass.pass ≡ newcomer core 0)

abbrev pub AreNewRingers : List RingPass → Type 0
AreNewRingers passes =
    (k : ℕ) (d : RingPass) → k < length passes → IsNewRinger (k + 1) (slice_index_or passes k d)

-- answer passes whose numbers go on from this one
abbrev pub AreNewAnswerers : ℕ → List AnswerPass → Type 0
AreNewAnswerers number passes =
    (k : ℕ) (d : AnswerPass) → k < length passes
    → view (slice_index_or passes k d).pass ≡ newcomer (number + k) 0
