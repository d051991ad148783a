-- Which transactions the directory meets.
use Rattle.std.proofs.Common.{◌≡◌, ◌≢◌, ℕ, true, refl}
use Rattle.pg_perm.specs.declared.kinds.Event.{Event}
use Rattle.pg_perm.specs.declared.kinds.Event.TheVariants.{Load, Store, Evict}
use Rattle.pg_perm.specs.declared.kinds.Who.{Who}
use Rattle.pg_perm.specs.declared.kinds.Who.TheVariants.{Other, Sharer, Owner}
use Rattle.pg_perm.specs.declared.draft.Draft.{Draft}
use Rattle.pg_shape.specs.Shaped.{IsShaped}
use Rattle.pg_shape.proofs.Bools.{true_not}
use Rattle.pg_directory.specs.Sound.{fits_as, IsLegalAs}
use Rattle.pg_atomic.specs.Steps.{needs_transaction}
use Rattle.pg_atomic.proofs.Fits.{shared_loads, owner_loads, owner_reads}

-- a core whose state fits needs a transaction only where it is legal
pub legal_as : (d : Draft) → IsShaped d → (n : ℕ) (w : Who) (x : ℕ) (e : Event) → fits_as d n w x ≡ true → needs_transaction d x e ≡ true → IsLegalAs d n w e
legal_as d s n Other x Load h g = refl
legal_as d s n Sharer x Load h g = let l = shared_loads d s x h in absurd (cc (g, l))
legal_as d s n Owner x Load h g = let l = owner_loads d s n x h in absurd (cc (g, l))
legal_as d s n Other x Store h g = λ e. absurd (cc e)
legal_as d s n Sharer x Store h g = λ e. absurd (cc e)
legal_as d s n Owner x Store h g = λ e. (x, h, owner_reads d s n x h (true_not _ g))
legal_as d s n w x Evict h g = tt

-- who needs to evict holds something
pub holds_as : (d : Draft) (n : ℕ) (w : Who) (x : ℕ) → fits_as d n w x ≡ true → needs_transaction d x Evict ≡ true → w ≢ Other
holds_as d n Other x h g = absurd (cc (g, h))
holds_as d n Sharer x h g = λ e. absurd (cc e)
holds_as d n Owner x h g = λ e. absurd (cc e)
