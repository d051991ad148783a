-- The whole: a faithful world's order with its accesses is a run of the atomic machine.
use Rattle.std.proofs.Common.{◌≡◌, ℕ, zero, suc, ◌<◌, arith, List, [], ◌∷◌, length, refl}
use Rattle.std.specs.Prelude.{map, get_or}
use Rattle.pg_perm.specs.declared.kinds.Op.{Op}
use Rattle.pg_perm.specs.declared.draft.Draft.{Draft}
use Rattle.pg_perm.specs.Drafts.{IsWellFormed}
use Rattle.pg_shape.specs.Shaped.{IsShaped}
use Rattle.pg_atomic.specs.States as atomic
use Rattle.pg_atomic.specs.Steps.{IsRun}
use Rattle.pg_controllers.specs.Networks.{idle_core}
use Rattle.pg_controllers.specs.Worlds.{World}
use Rattle.pg_controllers.specs.Runs.{opening, opening_core}
use Rattle.pg_orderly.specs.Orderly.{Mark, IsOrderly}
use Rattle.pg_serial.specs.Serial.{serial_of, accesses_of, made_by}
use Rattle.pg_serial.specs.Faithful.{IsFaithful, Level}
use Rattle.pg_serial.proofs.Fills.{opens, serial_is}
use Rattle.pg_refined.specs.Shown.{HasFlags, accesses, entry_of, is_clean, shown, stand_of}
use Rattle.pg_refined.proofs.Granted.{bounded, joined}

pub refines : (d : Draft) (n : ℕ) (w : World) (m : ℕ → Mark) → IsWellFormed d → IsShaped d → IsOrderly d n w m → HasFlags d w → IsFaithful d n (shown d w m)
    → IsRun d n (serial_of n (map entry_of w.order) (accesses w.done)) × ((c : ℕ) → c < n → accesses_of c (serial_of n (map entry_of w.order) (accesses w.done)) ≡ made_by c (accesses w.done))
refines d n w m wf sh o flags f = serial_is d n (shown d w m) f (bounded d n w m (joined d n w m wf sh o flags))

-- The opening

pub opening_flags : (d : Draft) (given : List (List Op)) → HasFlags d (opening d given)
opening_flags d given j low = absurd (omega (arith, low))

opened : (d : Draft) (given : List (List Op)) (c : ℕ) → c < length given → stand_of (get_or (map (opening_core d) given) c idle_core).line.desc ≡ Level (atomic.out_state d)
opened d [] c low = absurd (omega (arith, low))
opened d (ops ∷ given) zero low = refl
opened d (ops ∷ given) (suc c) low = opened d given c (omega (arith, low))

pub opening_told : (d : Draft) (given : List (List Op)) → IsWellFormed d → IsShaped d → IsFaithful d (length given) (shown d (opening d given) (λ c. record { seen = 0; last = 0 }))
opening_told d given wf sh =
    opens d wf sh (length given) (shown d (opening d given) (λ c. record { seen = 0; last = 0 })).core (is_clean d (opening d given)) (λ c low. (opened d given c low, refl))
