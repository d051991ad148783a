-- What a core is to the directory, by the owner and by the sharers.
use Rattle.std.proofs.Common.{◌≡◌, ℕ, Bool, true, false, List, Option, Some, refl, sym, subst, ◌∙◌}
use Rattle.std.specs.Prelude.{◌==◌}
use Rattle.std.proofs.lemmas.Bool.{eqb-true}
use Rattle.pg_perm.specs.declared.kinds.Who.{Who}
use Rattle.pg_perm.specs.declared.kinds.Who.TheVariants.{Other, Sharer, Owner}
use Rattle.pg_perm.specs.declared.draft.Draft.{Draft}
use Rattle.pg_terms.specs.Terms.{is, out, shared, lists}
use Rattle.pg_directory.specs.DirEntries.{DirEntry, is_among, with_core, with_owner, who}
use Rattle.pg_directory.specs.Sound.{fits}
use Rattle.pg_directory.proofs.Cores.{same_core, among_with_same, among_with_other}
use Rattle.pg_directory.proofs.Holders.{owner_of_who, sharer_of_who, other_of_who, is_same}

-- Members

-- who was among them still is when one joins
still_among : (c y : ℕ) (xs : List ℕ) → is_among xs y ≡ true → is_among (with_core c xs) y ≡ true
still_among c y xs h = at (c == y) refl
  where
    at : (b : Bool) → (c == y) ≡ b → is_among (with_core c xs) y ≡ true
    at true e = subst (λ z. is_among (with_core c xs) z ≡ true) (eqb-true c y e) (among_with_same c xs)
    at false e = among_with_other c y xs e ∙ h

-- an owner that joins is among them
pub owner_joined : (o c : ℕ) (owner : Option ℕ) (xs : List ℕ) → owner ≡ Some o → is_among (with_core c (with_owner owner xs)) o ≡ true
owner_joined o c owner xs e =
    subst (λ (w : Option ℕ). is_among (with_core c (with_owner w xs)) o ≡ true) (sym e) (still_among c o (with_core o xs) (among_with_same o xs))

-- What a core is

pub who_owns : (s : DirEntry) (c : ℕ) → is s.owner c ≡ true → who s c ≡ Owner
who_owns s c h = rw h refl

-- the owner and the sharers, by what a core is
abbrev pub HoldsAs : DirEntry → ℕ → Who → Type 0
HoldsAs s c Other = (is s.owner c ≡ false) × (is_among s.sharers c ≡ false)
HoldsAs s c Sharer = (is s.owner c ≡ false) × (is_among s.sharers c ≡ true)
HoldsAs s c Owner = is s.owner c ≡ true

pub holds_as_who : (s : DirEntry) (c : ℕ) (w : Who) → who s c ≡ w → HoldsAs s c w
holds_as_who s c Other e = other_of_who s c e
holds_as_who s c Sharer e = sharer_of_who s c e
holds_as_who s c Owner e = is_same s.owner c (owner_of_who s c e)

-- The states that fit

pub owner_fits : (d : Draft) (s : DirEntry) (c x : ℕ) → is s.owner c ≡ true → lists d s.dir x ≡ true → fits d s c x ≡ true
owner_fits d s c x h g = rw h g

pub sharer_fits : (d : Draft) (s : DirEntry) (c x : ℕ) → is s.owner c ≡ false → is_among s.sharers c ≡ true → shared d ≡ Some x → fits d s c x ≡ true
sharer_fits d s c x h g e = rw (h, g, e) (same_core x)

pub other_fits : (d : Draft) (s : DirEntry) (c x : ℕ) → is s.owner c ≡ false → is_among s.sharers c ≡ false → out d ≡ Some x → fits d s c x ≡ true
other_fits d s c x h g e = rw (h, g, e) (same_core x)
