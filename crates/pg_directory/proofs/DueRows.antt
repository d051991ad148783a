-- Which requests have a row.
use Rattle.std.proofs.Common.{◌≡◌, ◌≢◌, ◌<◌, ◌⊎◌, inl, inr, ℕ, Bool, true, false, [], Option, Some, None, refl, sym, ap, ◌∙◌}
use Rattle.std.specs.Prelude.{◌==◌}
use Rattle.std.specs.List.{list_any}
use Rattle.std.specs.Option.{option_map_or}
use Rattle.std.proofs.lemmas.Bool.{eqb-true}
use Rattle.pg_perm.specs.declared.kinds.DirKind.{DirKind}
use Rattle.pg_perm.specs.declared.kinds.DirKind.TheVariants as kind
use Rattle.pg_perm.specs.declared.kinds.Event.{Event}
use Rattle.pg_perm.specs.declared.kinds.Event.TheVariants.{Load, Store, Evict}
use Rattle.pg_perm.specs.declared.kinds.Who.{Who}
use Rattle.pg_perm.specs.declared.kinds.Who.TheVariants.{Other, Sharer, Owner}
use Rattle.pg_perm.specs.declared.kinds.Left.{Left}
use Rattle.pg_perm.specs.declared.kinds.Left.TheVariants.{Last, More}
use Rattle.pg_perm.specs.declared.kinds.ReqClass.TheVariants.{Read, Write}
use Rattle.pg_perm.specs.declared.draft.Draft.{Draft}
use Rattle.pg_perm.specs.declared.draft.DirLine.{DirLine}
use Rattle.pg_perm.specs.declared.draft.RowLine.{RowLine}
use Rattle.pg_perm.specs.Drafts.{IsWellFormed}
use Rattle.pg_terms.specs.declared.cases.DirCase.{DirCase}
use Rattle.pg_terms.specs.declared.cases.DirCase.TheVariants as case
use Rattle.pg_terms.specs.Terms.{is, is_read_owner, cache_is, listed_states, lists}
use Rattle.pg_terms.specs.Due.{kind_is, due_cases, lists_read_owner, cases_at, same_case, is_due_case}
use Rattle.pg_shape.specs.Shaped.{IsShaped}
use Rattle.pg_shape.proofs.Searches.{any_get, any_at}
use Rattle.pg_directory.specs.DirEntries.{DirEntry, Request, without_core, left_of, who, case_for, case_of, row_of, entry_after_row, entry_after}
use Rattle.pg_directory.specs.Sound.{IsSound, IsLegalAs, IsLegal}
use Rattle.pg_directory.proofs.Holders.{owner_of_who, sharer_of_who}
use Rattle.pg_directory.proofs.DirKinds.{dir_line_of_kind, owner_dir, sharer_dir}

-- Due cases

-- the cases that are due at a directory state of a kind
due_at : (d : Draft) (n : ℕ) (k : DirKind) → kind_is k d n ≡ true → cases_at d n ≡ due_cases k (lists_read_owner d (listed_states d n))
due_at d n k e =
    let (l, g, same) = dir_line_of_kind k d n e in
    let whole : cases_at d n ≡ due_cases l.kind (lists_read_owner d l.beside) = ap (λ o. option_map_or (λ (l : DirLine). due_cases l.kind (lists_read_owner d l.beside)) o []) g in
    let list : listed_states d n ≡ l.beside = ap (λ o. option_map_or (λ (l : DirLine). l.beside) o []) g in
    whole ∙ ap (λ x. due_cases x (lists_read_owner d l.beside)) same ∙ ap (λ x. due_cases k (lists_read_owner d x)) (sym list)

due_as : (d : Draft) (n : ℕ) (k : DirKind) (a : DirCase) (b : Bool) → kind_is k d n ≡ true
    → ((reads : Bool) → list_any (same_case a) (due_cases k reads) ≡ b) → is_due_case d n a ≡ b
due_as d n k a b e h = ap (λ cases. list_any (same_case a) cases) (due_at d n k e) ∙ h (lists_read_owner d (listed_states d n))

-- a directory state lists a read owner
reads_at : (d : Draft) (n x : ℕ) → lists d n x ≡ true → cache_is is_read_owner d x ≡ true → lists_read_owner d (listed_states d n) ≡ true
reads_at d n x h reads =
    let (j, y, g, same) = any_get (λ y. y == x) (listed_states d n) h in
    any_at (cache_is is_read_owner d) (listed_states d n) j y g (ap (cache_is is_read_owner d) (eqb-true y x same) ∙ reads)

-- whether or not it lists one
always : {b : Bool} (p : Bool → Bool) → p true ≡ b → p false ≡ b → (reads : Bool) → p reads ≡ b
always p e g true = e
always p e g false = g

load_due : (d : Draft) (n : ℕ) (k : DirKind) → kind_is k d n ≡ true → is_due_case d n (case.Ask Read Other) ≡ true
load_due d n kind.Idle e = due_as d n kind.Idle (case.Ask Read Other) true e (λ reads. refl)
load_due d n kind.Shared e = due_as d n kind.Shared (case.Ask Read Other) true e (λ reads. refl)
load_due d n kind.Owned e = due_as d n kind.Owned (case.Ask Read Other) true e (always (λ reads. list_any (same_case (case.Ask Read Other)) (due_cases kind.Owned reads)) refl refl)
load_due d n kind.Mixed e = due_as d n kind.Mixed (case.Ask Read Other) true e (λ reads. refl)

store_due : (d : Draft) (n : ℕ) (k : DirKind) → kind_is k d n ≡ true → is_due_case d n (case.Ask Write Other) ≡ true
store_due d n kind.Idle e = due_as d n kind.Idle (case.Ask Write Other) true e (λ reads. refl)
store_due d n kind.Shared e = due_as d n kind.Shared (case.Ask Write Other) true e (λ reads. refl)
store_due d n kind.Owned e = due_as d n kind.Owned (case.Ask Write Other) true e (always (λ reads. list_any (same_case (case.Ask Write Other)) (due_cases kind.Owned reads)) refl refl)
store_due d n kind.Mixed e = due_as d n kind.Mixed (case.Ask Write Other) true e (λ reads. refl)

due_store_sharer : (d : Draft) (n : ℕ) → (kind_is kind.Shared d n ≡ true) ⊎ (kind_is kind.Mixed d n ≡ true) → is_due_case d n (case.Ask Write Sharer) ≡ true
due_store_sharer d n (inl e) = due_as d n kind.Shared (case.Ask Write Sharer) true e (λ reads. refl)
due_store_sharer d n (inr e) = due_as d n kind.Mixed (case.Ask Write Sharer) true e (λ reads. refl)

due_store_owner : (d : Draft) (n : ℕ) → (kind_is kind.Owned d n ≡ true) ⊎ (kind_is kind.Mixed d n ≡ true) → lists_read_owner d (listed_states d n) ≡ true
    → is_due_case d n (case.Ask Write Owner) ≡ true
due_store_owner d n (inl e) reads =
    ap (λ cases. list_any (same_case (case.Ask Write Owner)) cases) (due_at d n kind.Owned e ∙ ap (λ b. due_cases kind.Owned b) reads)
due_store_owner d n (inr e) reads = due_as d n kind.Mixed (case.Ask Write Owner) true e (λ b. refl)

due_evict_sharer : (d : Draft) (n : ℕ) (l : Left) → (kind_is kind.Shared d n ≡ true) ⊎ (kind_is kind.Mixed d n ≡ true) → is_due_case d n (case.Evict Sharer l) ≡ true
due_evict_sharer d n Last (inl e) = due_as d n kind.Shared (case.Evict Sharer Last) true e (λ reads. refl)
due_evict_sharer d n More (inl e) = due_as d n kind.Shared (case.Evict Sharer More) true e (λ reads. refl)
due_evict_sharer d n Last (inr e) = due_as d n kind.Mixed (case.Evict Sharer Last) true e (λ reads. refl)
due_evict_sharer d n More (inr e) = due_as d n kind.Mixed (case.Evict Sharer More) true e (λ reads. refl)

due_evict_owner : (d : Draft) (n : ℕ) (l : Left) → (kind_is kind.Owned d n ≡ true) ⊎ (kind_is kind.Mixed d n ≡ true) → (kind_is kind.Owned d n ≡ true → l ≡ Last)
    → is_due_case d n (case.Evict Owner l) ≡ true
due_evict_owner d n Last (inl e) last =
    due_as d n kind.Owned (case.Evict Owner Last) true e (always (λ reads. list_any (same_case (case.Evict Owner Last)) (due_cases kind.Owned reads)) refl refl)
due_evict_owner d n More (inl e) last = let wrong = last e in absurd cc
due_evict_owner d n Last (inr e) last = due_as d n kind.Mixed (case.Evict Owner Last) true e (λ reads. refl)
due_evict_owner d n More (inr e) last = due_as d n kind.Mixed (case.Evict Owner More) true e (λ reads. refl)

due_evict_other : (d : Draft) (n : ℕ) (k : DirKind) (l : Left) → kind_is k d n ≡ true → is_due_case d n (case.Evict Other l) ≡ false
due_evict_other d n kind.Idle l e = due_as d n kind.Idle (case.Evict Other l) false e (λ reads. refl)
due_evict_other d n kind.Shared l e = due_as d n kind.Shared (case.Evict Other l) false e (λ reads. refl)
due_evict_other d n kind.Owned l e =
    due_as d n kind.Owned (case.Evict Other l) false e (always (λ reads. list_any (same_case (case.Evict Other l)) (due_cases kind.Owned reads)) refl refl)
due_evict_other d n kind.Mixed l e = due_as d n kind.Mixed (case.Evict Other l) false e (λ reads. refl)

-- the case of a request that may come and isn't a stale evict is due
due_for : (d : Draft) (n : ℕ) (s : DirEntry) → IsSound d n s → (c : ℕ) (event : Event) (w : Who) → who s c ≡ w → IsLegalAs d s.dir w event → (event ≡ Evict → w ≢ Other)
    → is_due_case d s.dir (case_for event w (left_of (without_core c s.sharers))) ≡ true
due_for d n s so c Load Other is legal live = load_due d s.dir so.kind.0 so.kind.1
due_for d n s so c Load Sharer is legal live = absurd cc
due_for d n s so c Load Owner is legal live = absurd cc
due_for d n s so c Store Other is legal live = store_due d s.dir so.kind.0 so.kind.1
due_for d n s so c Store Sharer is legal live = due_store_sharer d s.dir (sharer_dir d n s so c (sharer_of_who s c is).1)
due_for d n s so c Store Owner is legal live =
    let (x, listed, reads) = legal refl in
    due_store_owner d s.dir (owner_dir d n s so c (owner_of_who s c is)) (reads_at d s.dir x listed reads)
due_for d n s so c Evict Other is legal live = absurd (live refl refl)
due_for d n s so c Evict Sharer is legal live = due_evict_sharer d s.dir (left_of (without_core c s.sharers)) (sharer_dir d n s so c (sharer_of_who s c is).1)
due_for d n s so c Evict Owner is legal live =
    due_evict_owner d s.dir (left_of (without_core c s.sharers)) (owner_dir d n s so c (owner_of_who s c is)) (λ e. ap (λ xs. left_of (without_core c xs)) (so.owned e).1)

-- Rows

-- a request that may come has a row, unless it is a stale evict
pub legal_request_has_row : (d : Draft) (n : ℕ) (s : DirEntry) (q : Request) → IsWellFormed d → IsShaped d → IsSound d n s → q.core < n → IsLegal d s q
    → (q.event ≡ Evict → who s q.core ≢ Other) → (r : RowLine) × (row_of d s q ≡ Some r)
legal_request_has_row d n s q w sh so low legal live = sh.rows.due s.dir (case_of s q) (due_for d n s so q.core q.event (who s q.core) refl legal live)

-- a stale evict has none
pub stale_none : (d : Draft) (n : ℕ) (s : DirEntry) (q : Request) → IsShaped d → IsSound d n s → q.event ≡ Evict → who s q.core ≡ Other → row_of d s q ≡ None
stale_none d n s q sh so event is = at (row_of d s q) refl
  where
    this : case_of s q ≡ case.Evict Other (left_of (without_core q.core s.sharers))
    this = ap (λ e. case_for e (who s q.core) (left_of (without_core q.core s.sharers))) event ∙ ap (λ w. case.Evict w (left_of (without_core q.core s.sharers))) is

    at : (o : Option RowLine) → row_of d s q ≡ o → o ≡ None
    at None e = refl
    at (Some r) e =
        let due = sh.rows.only_due s.dir (case_of s q) r e in
        let not = ap (λ a. is_due_case d s.dir a) this ∙ due_evict_other d s.dir so.kind.0 (left_of (without_core q.core s.sharers)) so.kind.1 in
        absurd cc

-- and changes nothing
pub stale_changes_nothing : (d : Draft) (n : ℕ) (s : DirEntry) (q : Request) → IsWellFormed d → IsShaped d → IsSound d n s → q.core < n → IsLegal d s q
    → q.event ≡ Evict → who s q.core ≡ Other → entry_after d s q ≡ s
stale_changes_nothing d n s q w sh so low legal event is = ap (λ o. option_map_or (λ r. entry_after_row d r q.event q.core s) o s) (stale_none d n s q sh so event is)
