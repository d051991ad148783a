-- What a caller knows of bells and of their passes.
use Rattle.std.specs.Prelude.{◌≡◌, ℕ, ◌+◌, ◌<◌, true, List, [], length, slice_index_or}
use Rattle.crossbeam_queue.specs.Fifo.{Held}
use Rattle.crossbeam_queue.specs.Passes.{view, IsPassOf, ruled_capacity}
use Rattle.pg_bells.specs.declared.bell.Bell.{Bell}
use Rattle.pg_bells.specs.declared.view.View.{View}
use Rattle.pg_bells.specs.declared.pass.RingPass.{RingPass}
use Rattle.pg_bells.specs.declared.pass.AnswerPass.{AnswerPass}
use Rattle.pg_bells.specs.declared.bells.Bells.{Bells}
use Rattle.pg_bells.specs.Rule.{Shows}

-- how many bells can wait, and how many passes of either kind there are
abbrev pub room_of : Bells → ℕ
room_of bells = ruled_capacity bells.queue

abbrev pub ringers_of : Bells → ℕ
ringers_of bells = bells.ringers

abbrev pub answerers_of : Bells → ℕ
answerers_of bells = bells.answerers

-- the core of a ring pass, and the blocks for which it rang: a bell's serial is its place among them
abbrev pub core_of : RingPass → ℕ
core_of pass = pass.core

abbrev pub rung_by : RingPass → List ℕ
rung_by pass = (view pass.pass).own.rung

-- the bells that an answer pass took
abbrev pub taken_by : AnswerPass → List Bell
taken_by pass = (view pass.pass).took

-- one of so many passes, that took in no other
abbrev pub IsOneOf : ℕ → View → Type 0
IsOneOf passes v =
    (v.live ≡ true) × (v.own.number < passes) × (v.own.number ≡ 0 → v.own.passes ≡ passes) × (v.joined ≡ [])

abbrev pub IsRinger : ℕ → ℕ → ℕ → View → Type 0
IsRinger passes core count v =
    IsOneOf passes v × (v.own.number ≡ core) × (length v.own.rung ≡ count) × (v.took ≡ [])

abbrev pub IsAnswerer : ℕ → View → Type 0
IsAnswerer passes v = IsOneOf passes v × (v.own.rung ≡ [])

-- the pass was made with these bells
abbrev pub IsRingPassOf : Bells → RingPass → Type 0
IsRingPassOf bells pass =
    IsPassOf bells.queue pass.pass
    × IsRinger (bells.ringers + bells.answerers) pass.core pass.count (view pass.pass)

abbrev pub IsAnswerPassOf : Bells → AnswerPass → Type 0
IsAnswerPassOf bells pass =
    IsPassOf bells.queue pass.pass × IsAnswerer (bells.ringers + bells.answerers) (view pass.pass)

-- at a moment of the call as many bells waited as there is room for, or none; those that waited were the last that were rung
abbrev pub WasFull : Bells → RingPass → Type 0
WasFull bells pass = Held (room_of bells) (Shows (view pass.pass))

abbrev pub WasEmpty : AnswerPass → Type 0
WasEmpty pass = Held 0 (Shows (view pass.pass))

-- the ring passes of cores 0, 1, ..
abbrev pub AreByCore : List RingPass → Type 0
AreByCore passes =
    (k : ℕ) (d : RingPass) → k < length passes → core_of (slice_index_or passes k d) ≡ k
