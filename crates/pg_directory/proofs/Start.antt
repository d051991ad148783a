-- What the directory knows at first.
use Rattle.std.proofs.Common.{◌≡◌, ℕ, true, false, Option, Some, None, refl, ap, ◌∙◌}
use Rattle.std.specs.Prelude.{slice_get, position, unwrap_or}
use Rattle.std.specs.Option.{option_map_or}
use Rattle.std.specs.List.{list_any}
use Rattle.pg_perm.specs.declared.kinds.DirKind.{DirKind}
use Rattle.pg_perm.specs.declared.kinds.DirKind.TheVariants as kind
use Rattle.pg_perm.specs.declared.draft.Draft.{Draft}
use Rattle.pg_perm.specs.declared.draft.DirLine.{DirLine}
use Rattle.pg_perm.specs.Drafts.{IsWellFormed}
use Rattle.pg_terms.specs.Terms.{is, out}
use Rattle.pg_terms.specs.Due.{same_kind, kind_is}
use Rattle.pg_shape.specs.Shaped.{IsShaped}
use Rattle.pg_shape.proofs.Searches.{not_both, any_at, position_get, position_none, map_or_get}
use Rattle.pg_directory.specs.DirEntries.{initial_entry}
use Rattle.pg_directory.specs.Sound.{IsSound, fits}
use Rattle.pg_directory.proofs.Facts.{one_kind}

-- the first idle state is idle
pub start_is_idle : (d : Draft) → IsShaped d → kind_is kind.Idle d (initial_entry d).dir ≡ true
start_is_idle d shape = at (position (λ l. same_kind kind.Idle l.kind) d.dirs) refl
  where
    at : (o : Option ℕ) → position (λ l. same_kind kind.Idle l.kind) d.dirs ≡ o → kind_is kind.Idle d (unwrap_or o 0) ≡ true
    at None e =
        let (n, idle) = shape.lists.idle in
        let (l, get, same) = map_or_get (λ l. same_kind kind.Idle l.kind) (slice_get d.dirs n) idle in
        absurd (not_both (list_any (λ l. same_kind kind.Idle l.kind) d.dirs)
        (any_at (λ l. same_kind kind.Idle l.kind) d.dirs n l get same)
        (position_none (λ l. same_kind kind.Idle l.kind) d.dirs e))
    at (Some i) e =
        let (l, get, same) = (position_get (λ l. same_kind kind.Idle l.kind) d.dirs i e).1 in
        ap (λ (o : Option DirLine). option_map_or (λ l. same_kind kind.Idle l.kind) o false) get ∙ same

-- it is sound
pub start_is_sound : (d : Draft) (n : ℕ) → IsWellFormed d → IsShaped d → IsSound d n (initial_entry d)
start_is_sound d n well shape =
    let idle = start_is_idle d shape in
    let only : (k : DirKind) → kind_is k d (initial_entry d).dir ≡ true → k ≡ kind.Idle = λ k g. one_kind d (initial_entry d).dir k kind.Idle g idle in
    record {
      idle = λ h. (refl, refl);
      shared = λ h. absurd (cc (only kind.Shared h));
      owned = λ h. absurd (cc (only kind.Owned h));
      mixed = λ h. absurd (cc (only kind.Mixed h));
      kind = (kind.Idle, idle);
      owner = λ o e. absurd (cc e);
      inside = refl;
      rising = refl;
    }

-- and the out state fits for every core
pub out_fits_at_start : (d : Draft) (c x : ℕ) → IsWellFormed d → IsShaped d → is (out d) x ≡ true → fits d (initial_entry d) c x ≡ true
out_fits_at_start d c x well shape h = h
