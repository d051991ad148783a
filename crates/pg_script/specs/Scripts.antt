-- What a script says, and its bounds.
use Rattle.std.specs.Prelude.{ℕ, ◌≤◌, ◌==◌, ◌&&◌, Bool, true, IsTrue, nat_lt, nat_le, List, length, map, filter}
use Rattle.std.specs.List.{list_all}
use Rattle.pg_perm.specs.declared.kinds.Op.{Op}
use Rattle.pg_perm.specs.declared.kinds.Op.TheVariants.{Load, Store, Evict}
use Rattle.pg_script.specs.declared.script.ScriptOp.{ScriptOp}

-- how many cores and blocks there are, and the operations in the order of their lines
pub record Operations : Type 0 where
  pub cores : ℕ
  pub blocks : ℕ
  pub ops : List ScriptOp

-- a store writes a word of 32 bits
abbrev pub has_word : Op → Bool
has_word Load = true
has_word (Store value) = nat_le value 4294967295
has_word Evict = true

-- the operation is of a core and a block that there are
abbrev pub is_inside : ℕ → ℕ → ScriptOp → Bool
is_inside cores blocks o = nat_lt o.core cores && nat_lt o.block blocks && has_word o.op

-- 1 to 32 cores, 1 to 64 blocks, and at most 16384 operations, each of a core and a block that there are
pub record IsWithin (s : Operations) : Type 0 where
  pub some_core : 1 ≤ s.cores
  pub few_cores : s.cores ≤ 32
  pub some_block : 1 ≤ s.blocks
  pub few_blocks : s.blocks ≤ 64
  pub few_ops : length s.ops ≤ 16384
  pub inside : IsTrue (list_all (is_inside s.cores s.blocks) s.ops)

-- the operation is of this core on this block
abbrev pub is_on : ℕ → ℕ → ScriptOp → Bool
is_on core block o = o.core == core && o.block == block

-- the operations of a core on a block, in the order of their lines
abbrev pub on_block : Operations → ℕ → ℕ → List Op
on_block s core block = map (λ o. o.op) (filter (is_on core block) s.ops)
