-- What a core is to the directory.
use Rattle.std.proofs.Common.{◌≡◌, ℕ, Bool, true, false, Option, Some, None, refl, sym, ap, ◌∙◌}
use Rattle.std.specs.Prelude.{◌==◌, if◌then◌else◌}
use Rattle.pg_perm.specs.declared.kinds.Who.{Who}
use Rattle.pg_perm.specs.declared.kinds.Who.TheVariants.{Other, Sharer, Owner}
use Rattle.pg_terms.specs.Terms.{is}
use Rattle.pg_shape.proofs.Shaped.{is_then_some}
use Rattle.pg_directory.specs.DirEntries.{DirEntry, is_among, who}
use Rattle.pg_directory.proofs.Cores.{same_core}

-- what a core is, by whether it is the owner and whether it shares
abbrev pub who_by : Bool → Bool → Who
who_by owns shares = if owns then Owner else if shares then Sharer else Other

by_owner : (a b : Bool) → who_by a b ≡ Owner → a ≡ true
by_owner true b e = refl
by_owner false true e = absurd cc
by_owner false false e = absurd cc

by_sharer : (a b : Bool) → who_by a b ≡ Sharer → (a ≡ false) × (b ≡ true)
by_sharer true b e = absurd cc
by_sharer false true e = (refl, refl)
by_sharer false false e = absurd cc

by_other : (a b : Bool) → who_by a b ≡ Other → (a ≡ false) × (b ≡ false)
by_other true b e = absurd cc
by_other false true e = absurd cc
by_other false false e = (refl, refl)

pub is_same : (o : Option ℕ) (c : ℕ) → o ≡ Some c → is o c ≡ true
is_same o c e = ap (λ p. is p c) e ∙ same_core c

pub owner_of_who : (s : DirEntry) (c : ℕ) → who s c ≡ Owner → s.owner ≡ Some c
owner_of_who s c e = is_then_some s.owner c (by_owner (is s.owner c) (is_among s.sharers c) e)

pub sharer_of_who : (s : DirEntry) (c : ℕ) → who s c ≡ Sharer → (is s.owner c ≡ false) × (is_among s.sharers c ≡ true)
sharer_of_who s c e = by_sharer (is s.owner c) (is_among s.sharers c) e

pub other_of_who : (s : DirEntry) (c : ℕ) → who s c ≡ Other → (is s.owner c ≡ false) × (is_among s.sharers c ≡ false)
other_of_who s c e = by_other (is s.owner c) (is_among s.sharers c) e

-- what a core is follows from whether it is the owner and whether it shares
pub who_is : (s : DirEntry) (c : ℕ) (a b : Bool) → is s.owner c ≡ a → is_among s.sharers c ≡ b → who s c ≡ who_by a b
who_is s c a b e g = ap (λ t. who_by t (is_among s.sharers c)) e ∙ ap (λ t. who_by a t) g

pub who_of_owner : (s : DirEntry) (c : ℕ) → s.owner ≡ Some c → who s c ≡ Owner
who_of_owner s c e = who_is s c true (is_among s.sharers c) (is_same s.owner c e) refl

pub who_of_sharer : (s : DirEntry) (c : ℕ) → is s.owner c ≡ false → is_among s.sharers c ≡ true → who s c ≡ Sharer
who_of_sharer s c e g = who_is s c false true e g

pub who_of_other : (s : DirEntry) (c : ℕ) → is s.owner c ≡ false → is_among s.sharers c ≡ false → who s c ≡ Other
who_of_other s c e g = who_is s c false false e g

-- two entries in which a core is the owner alike and shares alike
pub who_same : (s t : DirEntry) (c : ℕ) → is t.owner c ≡ is s.owner c → is_among t.sharers c ≡ is_among s.sharers c → who t c ≡ who s c
who_same s t c e g = who_is t c (is s.owner c) (is_among s.sharers c) e g

-- where one core is the owner, another isn't
pub one_owner : (o : Option ℕ) (r c : ℕ) → o ≡ Some r → (r == c) ≡ false → is o c ≡ false
one_owner o r c e ne = ap (λ p. is p c) e ∙ ne

-- one that isn't the owner is another core
pub owner_differs : (o : Option ℕ) (r c : ℕ) → o ≡ Some r → is o c ≡ false → (r == c) ≡ false
owner_differs o r c e out = sym (ap (λ p. is p c) e) ∙ out

pub none_owns : (o : Option ℕ) (c : ℕ) → o ≡ None → is o c ≡ false
none_owns o c e = ap (λ p. is p c) e
