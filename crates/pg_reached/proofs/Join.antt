-- Every event keeps worlds orderly, so every world that is reached is.
use Rattle.std.proofs.Common.{◌≡◌, ◌≢◌, ℕ, ◌+◌, ◌<◌, ◌≤◌, List, length}
use Rattle.pg_perm.specs.declared.kinds.Op.{Op}
use Rattle.pg_perm.specs.declared.kinds.Perm.TheVariants as perm
use Rattle.pg_perm.specs.declared.draft.Draft.{Draft}
use Rattle.pg_perm.specs.Drafts.{IsWellFormed}
use Rattle.pg_shape.specs.Shaped.{IsShaped}
use Rattle.pg_table.specs.Tables.{TableState}
use Rattle.pg_table.specs.Pick.{pick as picked}
use Rattle.pg_table.specs.Sound.{IsSoundCache}
use Rattle.pg_messages.specs.declared.messages.WorldEvent.{WorldEvent}
use Rattle.pg_controllers.specs.Worlds.{World, core}
use Rattle.pg_controllers.specs.Runs.{opening, replay, AreEnabled, IsReached}
use Rattle.pg_safe.specs.Moving.{KeepsOrderly}
use Rattle.pg_controllers.specs.Usable.{usable}
use Rattle.pg_safe.specs.Work.{total, operation_work, work}
use Rattle.pg_safe.proofs.SingleWriter.{single_writer}
use Rattle.pg_safe.proofs.Through.{runs_bounded}
use Rattle.pg_moves.specs.Kept.{IsSoundWorld}
use Rattle.pg_moves.proofs.Kept.{AreKeptB, all_kept, reached_good}
use Rattle.pg_completions.proofs.DataKept.{data_kept}
use Rattle.pg_completions.proofs.AckKept.{ack_kept}
use Rattle.pg_completions.proofs.CountKept.{count_kept}
use Rattle.pg_completions.proofs.EarlyKept.{early_kept}

pub are_kept_b : (d : Draft) (t : List TableState) (n : ℕ) → IsWellFormed d → IsShaped d → IsSoundCache d t → AreKeptB d t n
are_kept_b d t n wf sh sound w m o full = record {
  filled = λ i r c v cnt k get. data_kept d t n w m i r c v cnt k wf sh sound o full get;
  acked = λ i c k get. ack_kept d t n w m i c k wf sh sound o full get;
  counted = λ c cnt k ms low queue. count_kept d t n w m c cnt k ms wf sh sound o full low queue;
  early = λ c f r i k ms low queue inv pend answers on. early_kept d t n w m c f r i k ms wf sh sound o full low queue inv pend answers on;
}

-- each event
pub each_kept : (d : Draft) (t : List TableState) (n : ℕ) → IsWellFormed d → IsShaped d → IsSoundCache d t → KeepsOrderly d t n
each_kept d t n wf sh sound = all_kept d t n wf sh sound (are_kept_b d t n wf sh sound)

-- every world that is reached
pub reached_orderly : (d : Draft) (t : List TableState) (given : List (List Op)) (w : World) → IsWellFormed d → IsShaped d → IsSoundCache d t → IsReached d (picked t) given w → IsSoundWorld d t (length given) w
reached_orderly d t given w wf sh sound reached = reached_good d t given w wf sh sound (are_kept_b d t (length given) wf sh sound) reached

-- what follows at once
pub reached_single : (d : Draft) (t : List TableState) (given : List (List Op)) (w : World) (c e : ℕ) → IsWellFormed d → IsShaped d → IsSoundCache d t → IsReached d (picked t) given w
    → c < length given → e < length given → e ≢ c → usable d (core w c).line.desc ≡ perm.Write → usable d (core w e).line.desc ≡ perm.None
reached_single d t given w c e wf sh sound reached low lower apart may =
    let good = reached_orderly d t given w wf sh sound reached in single_writer d (length given) w good.marks c e wf sh good.orderly low lower apart may

pub runs_end : (d : Draft) (t : List TableState) (given : List (List Op)) (es : List (ℕ × WorldEvent)) → IsWellFormed d → IsShaped d → IsSoundCache d t → AreEnabled d (picked t) (opening d given) es
    → length (replay d (picked t) (opening d given) es).journal + work d (length given) (replay d (picked t) (opening d given) es) ≤ total (total (operation_work (length given))) given
runs_end d t given es wf sh sound on = runs_bounded d t given es wf sh sound (each_kept d t (length given) wf sh sound) on
