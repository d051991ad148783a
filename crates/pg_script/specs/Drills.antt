-- The script of a drill: operations that are drawn from a seed, on the draws of a schedule.
use Rattle.std.specs.Prelude.{ℕ, zero, suc, ◌-◌, ◌*◌, ◌%◌, ◌≤◌, nat_lt, map, if◌then◌else◌}
use Rattle.std.specs.List.{range_with_len}
use Rattle.pg_sched.specs.Picks.{next_state, pick_of}
use Rattle.pg_perm.specs.declared.kinds.Op.{Op}
use Rattle.pg_perm.specs.declared.kinds.Op.TheVariants.{Load, Store, Evict}
use Rattle.pg_script.specs.declared.script.ScriptOp.{ScriptOp}
use Rattle.pg_script.specs.Scripts.{Operations}

-- the state of a seed after n draws
abbrev pub state_after : ℕ → ℕ → ℕ
state_after seed zero = seed
state_after seed (suc n) = next_state (state_after seed n)

-- draw n of a seed, counted from 1
abbrev pub draw : ℕ → ℕ → ℕ
draw seed n = pick_of (state_after seed n)

-- what operation i is, by a number below 8: half of them are loads, one is an evict, and the rest are stores of i
abbrev pub drawn_op : ℕ → ℕ → Op
drawn_op i kind = if nat_lt kind 4 then Load else if nat_lt kind 7 then Store i else Evict

-- operation i, counted from 1, is made of three draws: its core, its block and what it is
abbrev pub drill_op : ℕ → ℕ → ℕ → ℕ → ScriptOp
drill_op seed cores blocks i = record {
  core = draw seed (3 * i - 2) % cores;
  block = draw seed (3 * i - 1) % blocks;
  op = drawn_op i (draw seed (3 * i) % 8);
}

-- the script of a drill of so many operations
abbrev pub drill_operations : ℕ → ℕ → ℕ → ℕ → Operations
drill_operations seed cores blocks ops = record {
  cores = cores;
  blocks = blocks;
  ops = map (drill_op seed cores blocks) (range_with_len 1 ops);
}

-- a drill has 1 to 32 cores, 1 to 64 blocks and 1 to 16384 operations
pub record IsDrill (cores blocks ops : ℕ) : Type 0 where
  pub some_core : 1 ≤ cores
  pub few_cores : cores ≤ 32
  pub some_block : 1 ≤ blocks
  pub few_blocks : blocks ≤ 64
  pub some_op : 1 ≤ ops
  pub few_ops : ops ≤ 16384
