-- Kinds of directory states, and who may be there.
use Rattle.std.proofs.Common.{◌≡◌, ◌≢◌, ◌<◌, ◌⊎◌, inl, inr, ℕ, Bool, true, false, Some, refl, sym}
use Rattle.std.specs.Prelude.{slice_get}
use Rattle.pg_perm.specs.declared.kinds.DirKind.{DirKind}
use Rattle.pg_perm.specs.declared.kinds.DirKind.TheVariants as kind
use Rattle.pg_perm.specs.declared.draft.Draft.{Draft}
use Rattle.pg_perm.specs.declared.draft.DirLine.{DirLine}
use Rattle.pg_terms.specs.Due.{same_kind, kind_is}
use Rattle.pg_terms.proofs.Same.{kind_equal}
use Rattle.pg_shape.proofs.Searches.{map_or_get}
use Rattle.pg_directory.specs.DirEntries.{DirEntry, is_among, without_core}
use Rattle.pg_directory.specs.Sound.{IsSound}
use Rattle.pg_directory.proofs.Facts.{one_kind}
use Rattle.pg_directory.proofs.Cores.{among_some, among_below, without_absent}

-- Kinds

-- the line of a directory state of a kind
pub dir_line_of_kind : (k : DirKind) (d : Draft) (n : ℕ) → kind_is k d n ≡ true → (l : DirLine) × (slice_get d.dirs n ≡ Some l) × (l.kind ≡ k)
dir_line_of_kind k d n e = let (l, g, same) = map_or_get (λ l. same_kind k l.kind) (slice_get d.dirs n) e in (l, g, sym (kind_equal k l.kind same))

pub other_kind : (j k : DirKind) (d : Draft) (n : ℕ) → j ≢ k → kind_is j d n ≡ true → kind_is k d n ≡ false
other_kind j k d n ne e = at (kind_is k d n) refl
  where
    at : (b : Bool) → kind_is k d n ≡ b → kind_is k d n ≡ false
    at true g = absurd (ne (one_kind d n j k e g))
    at false g = g

-- Who may be there

-- where there is an owner, the directory state is owned or mixed
pub owner_dir : (d : Draft) (n : ℕ) (s : DirEntry) → IsSound d n s → (o : ℕ) → s.owner ≡ Some o → (kind_is kind.Owned d s.dir ≡ true) ⊎ (kind_is kind.Mixed d s.dir ≡ true)
owner_dir d n s so o e = at so.kind.0 so.kind.1
  where
    at : (k : DirKind) → kind_is k d s.dir ≡ true → (kind_is kind.Owned d s.dir ≡ true) ⊎ (kind_is kind.Mixed d s.dir ≡ true)
    at kind.Idle g = let none = (so.idle g).0 in absurd cc
    at kind.Shared g = let none = (so.shared g).0 in absurd cc
    at kind.Owned g = inl g
    at kind.Mixed g = inr g

-- where there is a sharer, the directory state is shared or mixed
pub sharer_dir : (d : Draft) (n : ℕ) (s : DirEntry) → IsSound d n s → (c : ℕ) → is_among s.sharers c ≡ true
    → (kind_is kind.Shared d s.dir ≡ true) ⊎ (kind_is kind.Mixed d s.dir ≡ true)
sharer_dir d n s so c e = at so.kind.0 so.kind.1
  where
    at : (k : DirKind) → kind_is k d s.dir ≡ true → (kind_is kind.Shared d s.dir ≡ true) ⊎ (kind_is kind.Mixed d s.dir ≡ true)
    at kind.Idle g = absurd (among_some c s.sharers e (so.idle g).1)
    at kind.Shared g = inl g
    at kind.Owned g = absurd (among_some c s.sharers e (so.owned g).1)
    at kind.Mixed g = inr g

-- the owner is no sharer
pub owner_out : (d : Draft) (n : ℕ) (s : DirEntry) → IsSound d n s → (o : ℕ) → s.owner ≡ Some o → without_core o s.sharers ≡ s.sharers
owner_out d n s so o e = without_absent o s.sharers (so.owner o e).1

-- a sharer is one of the n cores
pub sharer_low : (d : Draft) (n : ℕ) (s : DirEntry) → IsSound d n s → (c : ℕ) → is_among s.sharers c ≡ true → c < n
sharer_low d n s so c e = among_below n c s.sharers so.inside e
