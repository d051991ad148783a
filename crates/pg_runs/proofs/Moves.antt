-- A move of one core keeps all that goes along a run.
use Rattle.std.proofs.Common.{◌≡◌, ℕ, ◌<◌, arith, List, [], ◌++◌, length, Some, sym, subst, append-nil}
use Rattle.pg_perm.specs.declared.kinds.Op.{Op}
use Rattle.pg_perm.specs.declared.draft.Draft.{Draft}
use Rattle.pg_messages.specs.declared.messages.Ask.{Ask as SentRequest}
use Rattle.pg_controllers.specs.Networks as net
use Rattle.pg_messages.specs.declared.messages.Reply.{Reply}
use Rattle.pg_messages.specs.declared.messages.DoneEntry.{DoneEntry}
use Rattle.pg_controllers.specs.Worlds.{World}
use Rattle.pg_orderly.specs.Orderly.{Mark, IsOrderly}
use Rattle.pg_orderly.proofs.Keeping.{moved}
use Rattle.pg_serial.specs.Faithful.{IsFaithful}
use Rattle.pg_refined.specs.Shown.{shown}
use Rattle.pg_refined.specs.Kept.{IsRefined}
use Rattle.pg_refined.proofs.Moves.{flags_stay}
use Rattle.pg_refined.proofs.Slots.{slots_moved}
use Rattle.pg_refined.proofs.Taken.{IsTaking, taken_moved}

-- a word in the slot of a core is its line's
abbrev pub BringsOwn : net.Core → Type 0
BringsOwn y = (v : ℕ) (a : SentRequest) → y.slot ≡ Some a → a.word ≡ Some v → v ≡ y.line.word

pub moved_true : (d : Draft) (given : List (List Op)) (w : World) (m : ℕ → Mark) (c : ℕ) (y : net.Core) (rs : List Reply) (es : List DoneEntry) (u : ℕ → Mark) → IsRefined d given w m → c < length given
    → BringsOwn y → IsTaking w c y es → IsOrderly d (length given) (moved c y rs (w.done ++ es) w) u → IsFaithful d (length given) (shown d (moved c y rs (w.done ++ es) w) u)
    → IsRefined d given (moved c y rs (w.done ++ es) w) u
moved_true d given w m c y rs es u h low own taking o faithful = record {
  orderly = o;
  flags = flags_stay d w c y rs (w.done ++ es) h.flags;
  slots = slots_moved (length given) w c y rs (w.done ++ es) inside h.slots own;
  taken = taken_moved given w c y rs es inside taking h.taken;
  faithful = faithful;
}
  where
    inside : c < length w.cores
    inside = let same = h.orderly.cores in omega (arith, same, low)

-- where nothing is done
pub still_true : (d : Draft) (given : List (List Op)) (w : World) (m : ℕ → Mark) (c : ℕ) (y : net.Core) (rs : List Reply) (u : ℕ → Mark) → IsRefined d given w m → c < length given
    → BringsOwn y → IsTaking w c y [] → IsOrderly d (length given) (moved c y rs w.done w) u → IsFaithful d (length given) (shown d (moved c y rs w.done w) u) → IsRefined d given (moved c y rs w.done w) u
still_true d given w m c y rs u h low own taking o faithful =
    subst (λ dn. IsRefined d given (moved c y rs dn w) u) (append-nil w.done)
    (moved_true d given w m c y rs [] u h low own taking (subst (λ dn. IsOrderly d (length given) (moved c y rs dn w) u) (sym (append-nil w.done)) o)
    (subst (λ dn. IsFaithful d (length given) (shown d (moved c y rs dn w) u)) (sym (append-nil w.done)) faithful))
