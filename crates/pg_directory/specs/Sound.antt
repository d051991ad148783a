-- What holds of a directory between requests, and which requests may come.
use Rattle.std.specs.Prelude.{ℕ, ◌≡◌, ◌≢◌, ◌<◌, Bool, true, false, IsTrue, List, [], ◌∷◌, Some, None, nat_lt}
use Rattle.std.specs.List.{list_all}
use Rattle.pg_perm.specs.declared.kinds.DirKind.{DirKind}
use Rattle.pg_perm.specs.declared.kinds.DirKind.TheVariants as kind
use Rattle.pg_perm.specs.declared.kinds.Event.{Event}
use Rattle.pg_perm.specs.declared.kinds.Event.TheVariants as event
use Rattle.pg_perm.specs.declared.kinds.Who.{Who}
use Rattle.pg_perm.specs.declared.kinds.Who.TheVariants.{Other, Sharer, Owner}
use Rattle.pg_perm.specs.declared.draft.Draft.{Draft}
use Rattle.pg_perm.specs.Drafts.{is_rising}
use Rattle.pg_terms.specs.Terms.{is, is_read_owner, cache_is, out, shared as shared_state, lists}
use Rattle.pg_terms.specs.Due.{kind_is}
use Rattle.pg_directory.specs.DirEntries.{DirEntry, Request, is_among, who, entry_after}

-- the kind of the directory's state tells whether there is an owner and whether there are sharers; all of them are among n cores, and the
-- owner is no sharer
pub record IsSound (d : Draft) (n : ℕ) (s : DirEntry) : Type 0 where
  pub idle : kind_is kind.Idle d s.dir ≡ true → (s.owner ≡ None) × (s.sharers ≡ [])
  pub shared : kind_is kind.Shared d s.dir ≡ true → (s.owner ≡ None) × (s.sharers ≢ [])
  pub owned : kind_is kind.Owned d s.dir ≡ true → ((o : ℕ) × (s.owner ≡ Some o)) × (s.sharers ≡ [])
  pub mixed : kind_is kind.Mixed d s.dir ≡ true → (o : ℕ) × (s.owner ≡ Some o)
  pub kind : (k : DirKind) × (kind_is k d s.dir ≡ true)
  pub owner : (o : ℕ) → s.owner ≡ Some o → (o < n) × (is_among s.sharers o ≡ false)
  pub inside : IsTrue (list_all (λ c. nat_lt c n) s.sharers)
  pub rising : IsTrue (is_rising s.sharers)

-- a cache state that a core may be in, by what it is to the directory: the owner in a state that the directory's state lists, a sharer in
-- the shared state, and any other in the out state
abbrev pub fits_as : Draft → ℕ → Who → ℕ → Bool
fits_as d dir Owner q = lists d dir q
fits_as d dir Sharer q = is (shared_state d) q
fits_as d dir Other q = is (out d) q

abbrev pub fits : Draft → DirEntry → ℕ → ℕ → Bool
fits d s c q = fits_as d s.dir (who s c) q

-- a request that may come: a load only of a core that holds nothing, and a store of the owner only where the owner may be one that may only
-- read. An evict may come at any time: that of a core that holds nothing is stale
abbrev pub IsLegalAs : Draft → ℕ → Who → Event → Type 0
IsLegalAs d dir w event.Load = w ≡ Other
IsLegalAs d dir w event.Store = w ≡ Owner → (x : ℕ) × (lists d dir x ≡ true) × (cache_is is_read_owner d x ≡ true)
IsLegalAs d dir w event.Evict = Unit {0}

abbrev pub IsLegal : Draft → DirEntry → Request → Type 0
IsLegal d s q = IsLegalAs d s.dir (who s q.core) q.event

-- each of the requests comes from one of n cores, and may come where those before it led
abbrev pub AreLegal : Draft → ℕ → DirEntry → List Request → Type 0
AreLegal d n s [] = Unit {0}
AreLegal d n s (q ∷ qs) = (q.core < n) × IsLegal d s q × AreLegal d n (entry_after d s q) qs
