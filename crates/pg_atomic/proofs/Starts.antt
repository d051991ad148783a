-- The idle directory state is there, and how a machine starts.
use Rattle.std.proofs.Common.{◌≡◌, ℕ, Bool, List, [], replicate, Option, Some, None, refl, sym, ap, ◌∙◌}
use Rattle.std.specs.Prelude.{IsSome, position, unwrap_or}
use Rattle.std.specs.List.{list_any}
use Rattle.pg_perm.specs.declared.draft.Draft.{Draft}
use Rattle.pg_perm.specs.declared.draft.DirLine.{DirLine}
use Rattle.pg_perm.specs.declared.kinds.DirKind.TheVariants as kind
use Rattle.pg_terms.specs.Terms.{out}
use Rattle.pg_terms.specs.Due.{same_kind}
use Rattle.pg_shape.specs.Shaped.{IsShaped}
use Rattle.pg_shape.proofs.Searches.{map_or_get, any_at, position_none, not_both}
use Rattle.pg_directory.specs.DirEntries.{DirEntry, initial_entry}
use Rattle.pg_atomic.specs.States.{State, out_state, initial_state}

abbrev is_idle : DirLine → Bool
is_idle l = same_kind kind.Idle l.kind

pub has_idle : (d : Draft) (o : Option ℕ) → IsShaped d → o ≡ position is_idle d.dirs → IsSome o
has_idle d (Some i) shaped e = refl
has_idle d None shaped e =
    let (n, is_kind) = shaped.lists.idle in
    let (l, at, passes) = map_or_get is_idle _ is_kind in
    absurd (not_both (list_any is_idle d.dirs) (any_at is_idle d.dirs n l at passes) (position_none is_idle d.dirs (sym e)))

-- the state of which the parts are those of the start is the start
pub initial_state_of_parts : (d : Draft) (n o i : ℕ) (xs cores : List ℕ) → out d ≡ Some o → xs ≡ replicate n o → cores ≡ [] → i ≡ (initial_entry d).dir
    → let made : State = record { states = xs; entry = record { dir = i; owner = None; sharers = cores }; word = 0 } in made ≡ initial_state d n
initial_state_of_parts d n o i xs cores first states none idle =
    let each : xs ≡ replicate n (out_state d) = states ∙ ap (λ x. replicate n (unwrap_or x 0)) (sym first) in
    ap (λ (ys : List ℕ). record { states = ys; entry = record { dir = i; owner = None; sharers = cores }; word = 0 }) each
    ∙ ap (λ (s : DirEntry). record { states = replicate n (out_state d); entry = s; word = 0 })
    (ap (λ (j : ℕ). record { dir = j; owner = None; sharers = cores }) idle ∙ ap (λ (cs : List ℕ). record (initial_entry d) { sharers = cs }) none)
