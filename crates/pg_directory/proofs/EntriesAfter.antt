-- What the directory knows after a request, by the request's row.
use Rattle.std.proofs.Common.{◌≡◌, ℕ, Bool, true, false, Option, Some, None, refl, ap, ◌∙◌}
use Rattle.std.specs.Option.{option_map_or}
use Rattle.pg_perm.specs.declared.kinds.DirKind.TheVariants as kind
use Rattle.pg_perm.specs.declared.kinds.Event.TheVariants.{Load}
use Rattle.pg_perm.specs.declared.kinds.FwdClass.TheVariants.{Share}
use Rattle.pg_perm.specs.declared.draft.Draft.{Draft}
use Rattle.pg_perm.specs.declared.draft.RowLine.{RowLine}
use Rattle.pg_terms.specs.Terms.{has_class}
use Rattle.pg_terms.specs.Due.{kind_is, forward_in}
use Rattle.pg_directory.specs.DirEntries.{DirEntry, Request, with_core, with_owner, row_of, entry_after_row, entry_after}
use Rattle.pg_terms.specs.Rows.{is_by_share}

pub after_is : (d : Draft) (s : DirEntry) (q : Request) (r : RowLine) → row_of d s q ≡ Some r → entry_after d s q ≡ entry_after_row d r q.event q.core s
after_is d s q r e = ap (λ (o : Option RowLine). option_map_or (λ r. entry_after_row d r q.event q.core s) o s) e

-- whether a row passes on by a share
pub by_share : (d : Draft) (r : RowLine) (f : ℕ) (b : Bool) → forward_in r.form ≡ Some f → has_class Share d f ≡ b → is_by_share d r ≡ b
by_share d r f b e h = ap (λ (o : Option ℕ). option_map_or (has_class Share d) o false) e ∙ h

pub by_nothing : (d : Draft) (r : RowLine) → forward_in r.form ≡ None → is_by_share d r ≡ false
by_nothing d r e = ap (λ (o : Option ℕ). option_map_or (has_class Share d) o false) e

-- the owner and one more core share
abbrev pub shared_with : ℕ → ℕ → DirEntry → DirEntry
shared_with next c s = record { dir = next; owner = None; sharers = with_core c (with_owner s.owner s.sharers) }

-- one more core shares
abbrev pub joined_by : ℕ → ℕ → DirEntry → DirEntry
joined_by next c s = record { dir = next; owner = s.owner; sharers = with_core c s.sharers }

-- a core owns
abbrev pub owned_by : ℕ → ℕ → DirEntry → DirEntry
owned_by next c s = record { dir = next; owner = Some c; sharers = s.sharers }

-- a read by a share makes the owner a sharer
pub after_share_is : (d : Draft) (r : RowLine) (c : ℕ) (s : DirEntry) → is_by_share d r ≡ true → kind_is kind.Owned d r.next ≡ false
    → entry_after_row d r Load c s ≡ shared_with r.next c s
after_share_is d r c s h g = rw (h, g) refl

-- a read by another way to a state that isn't owned adds a sharer
pub after_joined_is : (d : Draft) (r : RowLine) (c : ℕ) (s : DirEntry) → is_by_share d r ≡ false → kind_is kind.Owned d r.next ≡ false
    → entry_after_row d r Load c s ≡ joined_by r.next c s
after_joined_is d r c s h g = rw (h, g) refl

-- a read to an owned state makes an owner
pub after_owned_is : (d : Draft) (r : RowLine) (c : ℕ) (s : DirEntry) → is_by_share d r ≡ false → kind_is kind.Owned d r.next ≡ true
    → entry_after_row d r Load c s ≡ owned_by r.next c s
after_owned_is d r c s h g = rw (h, g) refl
