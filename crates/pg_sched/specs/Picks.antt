-- The picks of a schedule: a linear congruential generator on 64 bits (Knuth's MMIX), of which a pick takes the high 31.
use Rattle.std.specs.Prelude.{ℕ, ◌+◌, ◌*◌, ◌/◌, ◌%◌, ◌^◌}

-- the state after x
abbrev pub next_state : ℕ → ℕ
next_state x = (x * 6364136223846793005 + 1442695040888963407) % 2 ^ 64

-- the pick that a state gives
abbrev pub pick_of : ℕ → ℕ
pick_of x = x / 2 ^ 33
