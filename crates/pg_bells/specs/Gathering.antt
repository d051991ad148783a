-- What passes know and say of themselves, for the functions that take them in.
use Rattle.std.specs.Prelude.{List, map}
use Rattle.crossbeam_queue.specs.Passes.{view}
use Rattle.pg_bells.specs.declared.view.Ringing.{Ringing}
use Rattle.pg_bells.specs.declared.view.View.{View}
use Rattle.pg_bells.specs.declared.pass.RingPass.{RingPass}
use Rattle.pg_bells.specs.declared.pass.AnswerPass.{AnswerPass}

abbrev pub ring_view : RingPass → View
ring_view pass = view pass.pass

abbrev pub answer_view : AnswerPass → View
answer_view pass = view pass.pass

abbrev pub told_by_rings : List RingPass → List Ringing
told_by_rings rings = map (λ pass. (ring_view pass).own) rings

abbrev pub told_by_answers : List AnswerPass → List Ringing
told_by_answers answers = map (λ pass. (answer_view pass).own) answers
