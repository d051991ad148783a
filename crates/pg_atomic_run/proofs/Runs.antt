-- The steps of a block are a run.
use Rattle.std.proofs.Common.{◌≡◌, ℕ, ◌==◌, Bool, true, false, List, [], ◌∷◌, refl, sym, subst}
use Rattle.std.specs.List.{list_all}
use Rattle.std.proofs.lemmas.Bool.{and_parts, ltb-true}
use Rattle.pg_perm.specs.declared.kinds.Op.{Op}
use Rattle.pg_perm.specs.declared.draft.Draft.{Draft}
use Rattle.pg_perm.specs.Drafts.{IsWellFormed}
use Rattle.pg_shape.specs.Shaped.{IsShaped}
use Rattle.pg_script.specs.declared.script.ScriptOp.{ScriptOp}
use Rattle.pg_script.specs.Scripts.{Operations, is_inside, IsWithin}
use Rattle.pg_atomic.specs.Steps.{IsRun}
use Rattle.pg_atomic.specs.Scripts.{AreOfCores}
use Rattle.pg_atomic.proofs.Operations.{runs_of}
use Rattle.pg_atomic_run.specs.Histories.{ops_on, block_steps}
use Rattle.pg_atomic_run.proofs.Stands.{rest_inside, ops_here, ops_apart}

-- the operations on a block are of cores that there are
ops_inside : (cores n : ℕ) (ops : List ScriptOp) (b : ℕ) → list_all (is_inside cores n) ops ≡ true → AreOfCores cores (ops_on ops b)
ops_inside cores n [] b inside = tt
ops_inside cores n (o ∷ rest) b inside = by (ops_inside cores n rest b (rest_inside cores n o rest inside)) (o.block == b) refl
  where
    by : AreOfCores cores (ops_on rest b) → (e : Bool) → (o.block == b) ≡ e → AreOfCores cores (ops_on (o ∷ rest) b)
    by others true h =
        let here = (and_parts _ _ inside).0 in
        let two = (and_parts _ _ here).0 in
        let low = ltb-true o.core cores (and_parts _ _ two).0 in
        subst (λ (os : List (ℕ × Op)). AreOfCores cores os) (sym (ops_here o rest b h)) (low, others)
    by others false h = subst (λ (os : List (ℕ × Op)). AreOfCores cores os) (sym (ops_apart o rest b h)) others

-- the steps of a block are a run
pub block_run : (d : Draft) (s : Operations) (b : ℕ) → IsWellFormed d → IsShaped d → IsWithin s → IsRun d s.cores (block_steps d s b)
block_run d s b well shape within = runs_of d s.cores (ops_on s.ops b) well shape (ops_inside s.cores s.blocks s.ops b within.inside)
