-- The opening is orderly.
use Rattle.std.proofs.Common.{◌≡◌, ℕ, ◌<◌, arith, List, [], length, get_or, Option, Some, None, true, refl, sym, subst}
use Rattle.std.specs.Prelude.{unwrap_or}
use Rattle.std.proofs.lemmas.List.{get_or-map, length-map}
use Rattle.pg_perm.specs.declared.kinds.Op.{Op}
use Rattle.pg_perm.specs.declared.draft.Draft.{Draft}
use Rattle.pg_perm.specs.Drafts.{IsWellFormed}
use Rattle.pg_terms.specs.Terms.{is, out}
use Rattle.pg_shape.specs.Shaped.{IsShaped}
use Rattle.pg_directory.proofs.Cores.{same_core}
use Rattle.pg_directory.proofs.Start.{out_fits_at_start}
use Rattle.pg_table.specs.Descriptors.{out_state}
use Rattle.pg_order.specs.Orders.{dir_order}
use Rattle.pg_controllers.specs.Networks.{idle_core}
use Rattle.pg_controllers.specs.Worlds.{core}
use Rattle.pg_controllers.specs.Runs.{opening_core, opening}
use Rattle.pg_orderly.specs.Orderly.{Mark, view_of, IsPlaced, IsAnswered, IsOrderly}

abbrev pub no_marks : ℕ → Mark
no_marks c = record { seen = 0; last = 0 }

out_there : (o : Option ℕ) (s : ℕ) → o ≡ Some s → is o (unwrap_or o 0) ≡ true
out_there None s e = cc
out_there (Some x) s e = same_core x

opens_core : (d : Draft) (given : List (List Op)) (c : ℕ) → c < length given → core (opening d given) c ≡ opening_core d (get_or given c [])
opens_core d given c low = get_or-map (opening_core d) given c [] idle_core low

opens_placed : (d : Draft) → IsWellFormed d → IsShaped d → (c : ℕ) (ops : List Op) → IsPlaced d (dir_order d []) c (opening_core d ops) (record { seen = 0; last = 0 })
opens_placed d w sh c ops = record {
  last_low = omega arith;
  last_own = λ j e. cc;
  last_is = λ j low e. absurd (omega (arith, low));
  touched = λ j e. cc;
  gap = λ j low e. absurd (omega (arith, low));
  rest = 0;
  upto = refl;
  queue = refl;
  line = (record { need = refl; deferred = refl; state = let (s, e) = sh.perms.start in out_fits_at_start d c (out_state d) w sh (out_there (out d) s e) }, refl, omega arith);
}

pub opens : (d : Draft) (given : List (List Op)) → IsWellFormed d → IsShaped d → IsOrderly d (length given) (opening d given) no_marks
opens d given w sh = record {
  cores = length-map given (opening_core d);
  past = record { starts = refl; inside = λ j low. absurd (omega (arith, low)); legal = λ j low. absurd (omega (arith, low)); follows = λ j low. absurd (omega (arith, low)) };
  directory = refl;
  last = refl;
  placed = λ c low. subst (λ x. IsPlaced d (dir_order d []) c x (record { seen = 0; last = 0 })) (sym (opens_core d given c low)) (opens_placed d w sh c (get_or given c []));
  waiting = record {
    lasts = λ j low. absurd (omega (arith, low));
    forwards = λ j low u. absurd (omega (arith, low));
    invs = λ j c f low s h k. absurd (omega (arith, low));
    shares = λ j f low u e h. absurd (omega (arith, low));
  };
  ungranted = λ j low u. absurd (omega (arith, low));
  promised = tt;
  answered = λ c low. subst (λ x. IsAnswered d (dir_order d []) (view_of (opening d given) no_marks) c x []) (sym (opens_core d given c low)) (record { filled = refl; acks = (refl, refl) });
  busy = refl;
  shares = λ j f low u e h. absurd (omega (arith, low));
}
