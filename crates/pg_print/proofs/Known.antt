-- Which states there are.
use Rattle.std.proofs.Common.{◌≡◌, ◌≢◌, ℕ, ◌<◌, true, ◌⊎◌, inl, inr, List, length, map, filter, refl, sym, subst, arith}
use Rattle.std.specs.List.{list_any, range_with_len}
use Rattle.pg_perm.specs.declared.kinds.Event.{Event}
use Rattle.pg_perm.specs.declared.kinds.Event.TheVariants.{Load, Store}
use Rattle.pg_perm.specs.declared.kinds.Mode.{Mode}
use Rattle.pg_perm.specs.declared.draft.Draft.{Draft}
use Rattle.pg_shape.specs.Shaped.{HasPerms}
use Rattle.pg_table.specs.declared.cache.Desc.{Desc}
use Rattle.pg_table.specs.declared.cache.Desc.TheVariants.{Stable, Ask, Leave}
use Rattle.pg_table.specs.declared.cache.Phase.{Phase}
use Rattle.pg_table.specs.declared.cache.Phase.TheVariants.{D, Ad, Ac, A}
use Rattle.pg_table.specs.declared.directory.DirDesc.{DirDesc}
use Rattle.pg_table.specs.declared.directory.DirDesc.TheVariants.{State, Busy}
use Rattle.pg_table.specs.Descriptors.{out_state, descs}
use Rattle.pg_table.specs.Directory.{is_after_share, dir_descs}
use Rattle.pg_table.specs.Sound.{is_among}
use Rattle.pg_table.specs.Tables.{same_dir_desc}
use Rattle.pg_table.proofs.Same.{same_dir_desc_is}
use Rattle.pg_table.proofs.Lists.{IsIn, any_in, in_either, of_map, of_filter, of_numbers}
use Rattle.pg_table.proofs.Members.{IsStart, IsState, out_one, is_state}

-- States of cache controllers

-- a load asks in the out state, for data; a store asks in a state in which stores do, in another phase
abbrev pub IsAsked : Draft → Event → ℕ → Phase → Type 0
IsAsked d event s phase = ((event ≡ Load) × (phase ≡ D) × (s ≡ out_state d)) ⊎ ((event ≡ Store) × (phase ≢ D) × IsStart d s)

abbrev pub StateFits : Draft → Desc → Type 0
StateFits d (Stable s) = s < length d.caches
StateFits d (Ask event s phase tag) = IsAsked d event s phase
StateFits d (Leave s) = s < length d.caches

is_fit : (d : Draft) (m : Mode) (s : Desc) → IsState d m s → StateFits d s
is_fit d m (Stable s) h = h
is_fit d m (Ask Load s D tag) h = inl (refl, refl, sym (out_one d s h.0))
is_fit d m (Ask Store s Ad tag) h = inr (refl, (λ e. absurd cc), h.0)
is_fit d m (Ask Store s Ac tag) h = inr (refl, (λ e. absurd cc), h.0)
is_fit d m (Ask Store s A tag) h = inr (refl, (λ e. absurd cc), h.0)
is_fit d m (Leave s) h = h
is_fit d m _ h = absurd h

pub state_fits : (d : Draft) (m : Mode) (s : Desc) → HasPerms d → is_among (descs d m) s ≡ true → StateFits d s
state_fits d m s perms h = is_fit d m s (is_state d m s perms h)

-- States of the directory controller

abbrev pub DirStateFits : Draft → DirDesc → Type 0
DirStateFits d (State n) = n < length d.dirs
DirStateFits d (Busy n) = n < length d.dirs

abbrev dir_numbers : Draft → List ℕ
dir_numbers d = range_with_len 0 (length d.dirs)

below : (d : Draft) (n : ℕ) → IsIn n (dir_numbers d) → n < length d.dirs
below d n among = omega (arith, (of_numbers 0 (length d.dirs) n among).1)

dir_in_fits : (d : Draft) (s : DirDesc) → IsIn s (dir_descs d) → DirStateFits d s
dir_in_fits d s among = at (in_either s (map (λ n. State n) (dir_numbers d)) (map (λ n. Busy n) (filter (is_after_share d) (dir_numbers d))) among)
  where
    at : IsIn s (map (λ n. State n) (dir_numbers d)) ⊎ IsIn s (map (λ n. Busy n) (filter (is_after_share d) (dir_numbers d))) → DirStateFits d s
    at (inl h) = let (n, there, e) = of_map (λ n. State n) s (dir_numbers d) h in subst (DirStateFits d) e (below d n there)
    at (inr h) =
        let (n, there, e) = of_map (λ n. Busy n) s (filter (is_after_share d) (dir_numbers d)) h in
        subst (DirStateFits d) e (below d n (of_filter (is_after_share d) n (dir_numbers d) there).0)

pub dir_state_fits : (d : Draft) (s : DirDesc) → list_any (same_dir_desc s) (dir_descs d) ≡ true → DirStateFits d s
dir_state_fits d s h =
    let (x, there, same) = any_in (same_dir_desc s) (dir_descs d) h in
    subst (DirStateFits d) (sym (same_dir_desc_is s x same)) (dir_in_fits d x there)
