-- The worked runs.
use Rattle.std.proofs.Common.{◌≡◌, ◌<◌, refl, arith}
use Rattle.pg_samples.specs.Drafts.{mesi}
use Rattle.pg_atomic.specs.States.{initial_state}
use Rattle.pg_atomic.specs.Steps.{IsRun}
use Rattle.pg_atomic.specs.Worked.{states_after_each, mesi_steps, mesi_states, passing_protocol, passing_steps, passing_states}

pub mesi_leads : states_after_each mesi (initial_state mesi 2) mesi_steps ≡ mesi_states
mesi_leads = refl

pub passing_leads : states_after_each passing_protocol (initial_state passing_protocol 3) passing_steps ≡ passing_states
passing_leads = refl

first_of_two : 0 < 2
first_of_two = omega arith

second_of_two : 1 < 2
second_of_two = omega arith

pub mesi_may_run : IsRun mesi 2 mesi_steps
mesi_may_run = (
  (first_of_two, refl),
  (
    (first_of_two, refl, refl),
    (
      (first_of_two, refl),
      (
        (second_of_two, refl),
        (
          (second_of_two, refl),
          (
            (second_of_two, refl, refl),
            (
              (first_of_two, refl, refl),
              ((second_of_two, refl), ((second_of_two, refl), ((second_of_two, refl), ((second_of_two, refl), tt)))),
            ),
          ),
        ),
      ),
    ),
  ),
)

first_of_three : 0 < 3
first_of_three = omega arith

second_of_three : 1 < 3
second_of_three = omega arith

third_of_three : 2 < 3
third_of_three = omega arith

pub passing_may_run : IsRun passing_protocol 3 passing_steps
passing_may_run = (
  (first_of_three, refl),
  (
    (first_of_three, refl, refl),
    (
      (second_of_three, refl),
      (
        (third_of_three, refl),
        (
          (third_of_three, refl),
          ((first_of_three, refl), ((first_of_three, refl, refl), ((second_of_three, refl), ((second_of_three, refl), ((second_of_three, refl), ((second_of_three, refl), tt)))))),
        ),
      ),
    ),
  ),
)
