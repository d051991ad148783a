-- The first enabled event can happen, and what an event adds to those that a pass has seen.
use Rattle.std.proofs.Common.{◌≡◌, ℕ, ◌<◌, Bool, true, false, nat_eq, arith, List, [], ◌∷◌, ◌++◌, length, drop, Some, refl, sym, ap, subst, ◌∙◌}
use Rattle.std.specs.Prelude.{slice_get}
use Rattle.std.proofs.lemmas.List.{append-nil}
use Rattle.std.proofs.Math.Seq.{drop-append_seam}
use Rattle.pg_table.proofs.Lists.{in_of_slice_get}
use Rattle.pg_messages.specs.declared.messages.WorldEvent.{WorldEvent}
use Rattle.pg_controllers.specs.Worlds.{Picks, World, is_enabled}
use Rattle.pg_turn.specs.Entries.{StartsWith, Names}
use Rattle.pg_world.specs.Enabled.{enabled_events}
use Rattle.pg_world.specs.Turns.{seat_of}
use Rattle.pg_world.proofs.Enabled.{in_enabled}
use Rattle.pg_world.proofs.Finished.{finished_is}
use Rattle.std.proofs.lemmas.Bool.{eqb-false}
use Rattle.pg_perm.specs.declared.kinds.Op.{Op}
use Rattle.pg_perm.specs.declared.draft.Draft.{Draft}
use Rattle.pg_table.specs.Tables.{TableState}
use Rattle.pg_table.specs.Pick.{pick}
use Rattle.pg_safe.specs.Moving.{is_finished}
use Rattle.pg_reached.specs.Reached.{IsReachedWorld}

pub first_enabled : (p : Picks) (w : World) (i : ℕ) (e : WorldEvent) → slice_get (enabled_events p w) i ≡ Some e → is_enabled p w e ≡ true
first_enabled p w i e get = in_enabled p w e (in_of_slice_get (enabled_events p w) i e get)

abbrev Events : Type 0
Events = List (ℕ × WorldEvent)

-- after all that was seen stands the rest alone
pub added : (old new seen rest : Events) → seen ≡ old → new ≡ old ++ rest → StartsWith new seen × (drop (length seen) new ≡ rest)
added old new seen rest is more =
    let all : new ≡ seen ++ rest = more ∙ ap (λ (es : Events). es ++ rest) (sym is) in
    ((rest, all), ap (drop (length seen)) all ∙ drop-append_seam seen rest)

pub one_added : (number n : ℕ) (e : WorldEvent) (old new seen : Events) → seen ≡ old → new ≡ old ++ (n, e) ∷ [] → n ≡ number → Names seat_of number (drop (length seen) new)
one_added number n e old new seen is more same = subst (Names seat_of number) (sym (added old new seen ((n, e) ∷ []) is more).1) (same, tt)

pub none_added : (number : ℕ) (old new seen : Events) → seen ≡ old → new ≡ old → Names seat_of number (drop (length seen) new)
none_added number old new seen is same = subst (Names seat_of number) (sym (added old new seen [] is (same ∙ sym (append-nil old))).1) tt

-- where a world isn't finished an event is enabled
pub some_enabled : (d : Draft) (t : List TableState) (given : List (List Op)) (w : World) (done : Bool) → IsReachedWorld d t given w → done ≡ is_finished w → done ≡ false → 0 < length (enabled_events (pick t) w)
some_enabled d t given w done reached is open_still =
    let none : nat_eq (length (enabled_events (pick t) w)) 0 ≡ false = sym (finished_is d t given w reached) ∙ sym is ∙ open_still in
    let some = eqb-false (length (enabled_events (pick t) w)) 0 none in
    omega (arith, some)
