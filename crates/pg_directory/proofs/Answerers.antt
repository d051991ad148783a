-- Who answers a request: memory only where there is no owner, and the owner's own request is the only one that is counted.
use Rattle.std.proofs.Common.{◌≡◌, ℕ, ◌⊎◌, ◌<◌, Some, None, refl, inl, inr}
use Rattle.std.specs.Prelude.{◌≢◌}
use Rattle.pg_perm.specs.declared.kinds.Event.{Event}
use Rattle.pg_perm.specs.declared.kinds.Event.TheVariants.{Load, Store, Evict}
use Rattle.pg_perm.specs.declared.kinds.Who.{Who}
use Rattle.pg_perm.specs.declared.kinds.Who.TheVariants.{Other, Sharer, Owner}
use Rattle.pg_perm.specs.declared.kinds.ReqClass.TheVariants.{Read, Write}
use Rattle.pg_perm.specs.declared.draft.Draft.{Draft}
use Rattle.pg_perm.specs.declared.draft.RowLine.{RowLine}
use Rattle.pg_perm.specs.declared.draft.Action.TheVariants as action
use Rattle.pg_perm.specs.Drafts.{IsWellFormed}
use Rattle.pg_terms.specs.declared.cases.DirCase.TheVariants as case
use Rattle.pg_terms.specs.Terms.{dir_row}
use Rattle.pg_shape.specs.Shaped.{IsShaped}
use Rattle.pg_terms.specs.Rows.{action_in}
use Rattle.pg_directory.specs.DirEntries.{DirEntry, Request, who, row_of}
use Rattle.pg_directory.specs.Sound.{IsSound, IsLegal, IsLegalAs}
use Rattle.pg_directory.specs.Requests.{action_of}
use Rattle.pg_directory.proofs.Handling.{IsFree, IsTaken, free_or_taken, load_row, evict_row, load_counts_not, store_counts_not, action_has_row}

-- at a kind without an owner there is none
none_of_free : (d : Draft) (n : ℕ) (s : DirEntry) → IsSound d n s → IsFree d s.dir → s.owner ≡ None
none_of_free d n s sound (inl h) = (sound.idle h).0
none_of_free d n s sound (inr h) = (sound.shared h).0

-- a load that memory answers comes where there is no owner
load_memory : (d : Draft) (n : ℕ) (s : DirEntry) (m : ℕ) (r : RowLine) → IsShaped d → IsSound d n s → dir_row d s.dir (case.Ask Read Other) ≡ Some r
    → action_in r.form ≡ Some (action.Reply m) → s.owner ≡ None
load_memory d n s m r shape sound row does = at (free_or_taken d n s sound)
  where
    at : IsFree d s.dir ⊎ IsTaken d s.dir → s.owner ≡ None
    at (inl free) = none_of_free d n s sound free
    at (inr (inl taken)) = absurd (cc ((shape.rows.read_owned s.dir r row taken).1, does))
    at (inr (inr taken)) = absurd (cc ((shape.rows.read_mixed s.dir r row taken).1, does))

-- and so does a store
store_memory : (d : Draft) (n : ℕ) (s : DirEntry) (m : ℕ) (r : RowLine) (w : Who) → IsShaped d → IsSound d n s → dir_row d s.dir (case.Ask Write w) ≡ Some r
    → action_in r.form ≡ Some (action.Reply m) → s.owner ≡ None
store_memory d n s m r Owner shape sound row does = absurd (cc (shape.rows.upgrade s.dir r row, does))
store_memory d n s m r Other shape sound row does = at (free_or_taken d n s sound)
  where
    at : IsFree d s.dir ⊎ IsTaken d s.dir → s.owner ≡ None
    at (inl free) = none_of_free d n s sound free
    at (inr taken) = absurd (cc ((shape.rows.write_other s.dir r row taken).1, does))
store_memory d n s m r Sharer shape sound row does = at (free_or_taken d n s sound)
  where
    at : IsFree d s.dir ⊎ IsTaken d s.dir → s.owner ≡ None
    at (inl free) = none_of_free d n s sound free
    at (inr taken) = absurd (cc ((shape.rows.write_sharer s.dir r row taken).1, does))

memory_by : (d : Draft) (n : ℕ) (s : DirEntry) (core : ℕ) (event : Event) → IsShaped d → IsSound d n s → IsLegalAs d s.dir (who s core) event
    → (m : ℕ) (r : RowLine) → row_of d s (record { core = core; event = event }) ≡ Some r → action_in r.form ≡ Some (action.Reply m) → s.owner ≡ None
memory_by d n s core Load shape sound legal m r row does = load_memory d n s m r shape sound (load_row d s core r legal row) does
memory_by d n s core Store shape sound legal m r row does = store_memory d n s m r (who s core) shape sound row does
memory_by d n s core Evict shape sound legal m r row does = absurd (cc (evict_row d s core r row, does))

-- memory answers only where there is no owner
pub memory_answers_without_owner : (d : Draft) (n : ℕ) (s : DirEntry) (q : Request) → IsWellFormed d → IsShaped d → IsSound d n s → q.core < n → IsLegal d s q
    → (m : ℕ) → action_of d s q ≡ Some (action.Reply m) → s.owner ≡ None
memory_answers_without_owner d n s q well shape sound below legal m h =
    let (r, row, does) = action_has_row d s q (action.Reply m) h in
    memory_by d n s q.core q.event shape sound legal m r row does

-- who isn't another than the owner is the owner
is_owner : (w : Who) → (w ≢ Owner → ⊥) → w ≡ Owner
is_owner Owner h = refl
is_owner Other h = absurd (h (λ e. absurd (cc e)))
is_owner Sharer h = absurd (h (λ e. absurd (cc e)))

counted_by : (d : Draft) (n : ℕ) (s : DirEntry) (core : ℕ) (event : Event) → IsShaped d → IsSound d n s → IsLegalAs d s.dir (who s core) event
    → (r : RowLine) → row_of d s (record { core = core; event = event }) ≡ Some r → action_in r.form ≡ Some action.Count → who s core ≡ Owner
counted_by d n s core Load shape sound legal r row does = absurd (load_counts_not d n s r shape sound (load_row d s core r legal row) does)
counted_by d n s core Store shape sound legal r row does =
    is_owner (who s core) (λ other. store_counts_not d n s r (who s core) shape sound row other does)
counted_by d n s core Evict shape sound legal r row does = absurd (cc (evict_row d s core r row, does))

-- a count goes only to the owner
pub counted : (d : Draft) (n : ℕ) (s : DirEntry) (q : Request) → IsWellFormed d → IsShaped d → IsSound d n s → q.core < n → IsLegal d s q
    → action_of d s q ≡ Some action.Count → who s q.core ≡ Owner
counted d n s q well shape sound below legal h =
    let (r, row, does) = action_has_row d s q action.Count h in
    counted_by d n s q.core q.event shape sound legal r row does
