-- What the shape gives: facts on the numbers of states and messages, each of which follows from rules that no line breaks. Whatever is said of
-- protocols above is derived from these.
use Rattle.std.specs.Prelude.{ℕ, ◌≡◌, ◌⊎◌, true, false, List, [], slice_get, Some, None}
use Rattle.pg_perm.specs.declared.kinds.Event.{Event}
use Rattle.pg_perm.specs.declared.kinds.Event.TheVariants.{Load, Store, Evict}
use Rattle.pg_perm.specs.declared.kinds.DirKind.TheVariants as kind
use Rattle.pg_perm.specs.declared.kinds.Who.{Who}
use Rattle.pg_perm.specs.declared.kinds.Who.TheVariants.{Other, Sharer, Owner}
use Rattle.pg_perm.specs.declared.kinds.Left.TheVariants.{Last, More}
use Rattle.pg_perm.specs.declared.kinds.ReqClass.TheVariants.{Read, Write, Clean, Dirty}
use Rattle.pg_perm.specs.declared.kinds.FwdClass.{FwdClass}
use Rattle.pg_perm.specs.declared.kinds.FwdClass.TheVariants.{Inv, Share, Keep, Drop}
use Rattle.pg_perm.specs.declared.draft.Draft.{Draft}
use Rattle.pg_perm.specs.declared.draft.CacheLine.{CacheLine}
use Rattle.pg_perm.specs.declared.draft.DirLine.{DirLine}
use Rattle.pg_perm.specs.declared.draft.CoreLine.{CoreLine}
use Rattle.pg_perm.specs.declared.draft.CoreForm.TheVariants.{Hit, Ask, Leave}
use Rattle.pg_perm.specs.declared.draft.Pair.{Pair}
use Rattle.pg_perm.specs.declared.draft.ReplyName.{ReplyName}
use Rattle.pg_perm.specs.declared.draft.ReplyName.TheVariants as reply
use Rattle.pg_perm.specs.declared.draft.TakeLine.{TakeLine}
use Rattle.pg_perm.specs.declared.draft.RowLine.{RowLine}
use Rattle.pg_perm.specs.declared.draft.Action.TheVariants as action
use Rattle.pg_perm.specs.Drafts.{IsWellFormed}
use Rattle.pg_terms.specs.declared.cases.DirCase.{DirCase}
use Rattle.pg_terms.specs.declared.cases.DirCase.TheVariants as case
use Rattle.pg_terms.specs.Terms.{is_out, is_shared, is_owner, is_none_perm, is_read_perm, is_read_owner, is_write_owner, cache_is, out, shared, request_of, forward_of, has_class, lists, core_row, take_row, dir_row, keep_of}
use Rattle.pg_terms.specs.Due.{kind_is, forward_in, is_due, is_due_case, is_load_reply, is_store_reply}
use Rattle.pg_shape.specs.DirRules.{has_no_owner}
use Rattle.pg_shape.specs.CoreRules.{is_hit, is_dirty_writer, stays_at_store, asks_class, is_from_cache}
use Rattle.pg_terms.specs.Rows.{allows, store_next, may_keep, final_under, action_in}
use Rattle.pg_shape.specs.NextRules.{requestor_final, requestor_final_by, owner_store_final}
use Rattle.pg_shape.specs.ShapeFaults.{HasShape}

-- the line of a cache state
abbrev pub IsCache : Draft → ℕ → CacheLine → Type 0
IsCache d s c = slice_get d.caches s ≡ Some c

-- the line of a directory state
abbrev pub IsDir : Draft → ℕ → DirLine → Type 0
IsDir d n l = slice_get d.dirs n ≡ Some l

-- out has no permission, shared may read, an owner may read at least, and only an owner is clean
pub record HasPerms (d : Draft) : Type 0 where
  pub start : (s : ℕ) × (out d ≡ Some s)
  pub out_none : (s : ℕ) (c : CacheLine) → IsCache d s c → is_out c.role ≡ true → (out d ≡ Some s) × (is_none_perm c.perm ≡ true)
  pub shared_read : (s : ℕ) (c : CacheLine) → IsCache d s c → is_shared c.role ≡ true → (shared d ≡ Some s) × (is_read_perm c.perm ≡ true)
  pub owner_some : (s : ℕ) (c : CacheLine) → IsCache d s c → is_owner c.role ≡ true → is_none_perm c.perm ≡ false
  pub clean_owner : (s : ℕ) (c : CacheLine) → IsCache d s c → c.clean ≡ true → is_owner c.role ≡ true

-- idle and shared list nothing; owned and mixed list some owners, mixed those that may only read; each owner is listed; there is one idle state
pub record HasLists (d : Draft) : Type 0 where
  pub lists_none : (n : ℕ) (l : DirLine) → IsDir d n l → has_no_owner l.kind ≡ true → l.beside ≡ []
  pub lists_some : (n : ℕ) (l : DirLine) → IsDir d n l → has_no_owner l.kind ≡ false → (s : ℕ) × (lists d n s ≡ true)
  pub lists_owners : (n s : ℕ) → lists d n s ≡ true → cache_is (λ c. is_owner c.role) d s ≡ true
  pub lists_readers : (n s : ℕ) → kind_is kind.Mixed d n ≡ true → lists d n s ≡ true → cache_is is_read_owner d s ≡ true
  pub owner_listed : (s : ℕ) → cache_is (λ c. is_owner c.role) d s ≡ true → (n : ℕ) × (lists d n s ≡ true)
  pub idle : (n : ℕ) × (kind_is kind.Idle d n ≡ true)
  pub one_idle : (n m : ℕ) → kind_is kind.Idle d n ≡ true → kind_is kind.Idle d m ≡ true → n ≡ m
  pub has_shared : (n : ℕ) → (kind_is kind.Shared d n ≡ true) ⊎ (kind_is kind.Mixed d n ≡ true) → (s : ℕ) × (shared d ≡ Some s)

-- there is at most one forward of a class, and an invalidation where there is a shared state
pub record HasForwards (d : Draft) : Type 0 where
  pub one : (class : FwdClass) (f g : ℕ) → has_class class d f ≡ true → has_class class d g ≡ true → f ≡ g
  pub inv : (s : ℕ) → shared d ≡ Some s → (f : ℕ) × (forward_of d Inv ≡ Some f)

-- a cache answers each forward that may come, and goes where its class says
pub record HasTakes (d : Draft) : Type 0 where
  pub due : (s f : ℕ) → is_due d s f ≡ true → (t : TakeLine) × (take_row d s f ≡ Some t)
  pub passed : (n s f k : ℕ) (r : RowLine) → slice_get d.rows k ≡ Some r → r.dir ≡ n → forward_in r.form ≡ Some f → lists d n s ≡ true → is_due d s f ≡ true
  pub inv : (s f : ℕ) (t : TakeLine) → take_row d s f ≡ Some t → has_class Inv d f ≡ true → (t.reply ≡ None) × (out d ≡ Some t.next)
  pub share : (s f : ℕ) (t : TakeLine) → take_row d s f ≡ Some t → has_class Share d f ≡ true → ((m : ℕ) × (t.reply ≡ Some m)) × (shared d ≡ Some t.next)
  pub keep : (s f : ℕ) (t : TakeLine) → take_row d s f ≡ Some t → has_class Keep d f ≡ true → ((m : ℕ) × (t.reply ≡ Some m))
      × (cache_is is_read_owner d t.next ≡ true) × (cache_is (λ c. c.clean) d t.next ≡ true → cache_is (λ c. c.clean) d s ≡ true)
  pub drop : (s f : ℕ) (t : TakeLine) → take_row d s f ≡ Some t → has_class Drop d f ≡ true → ((m : ℕ) × (t.reply ≡ Some m)) × (out d ≡ Some t.next)
  pub settles : (s t : ℕ) → keep_of d s ≡ Some t → may_keep d t ≡ true → keep_of d t ≡ Some t

-- each due case has a row; memory answers where there is no owner, and else the request is passed on, or counted where the owner asks
pub record HasRows (d : Draft) : Type 0 where
  pub due : (n : ℕ) (a : DirCase) → is_due_case d n a ≡ true → (r : RowLine) × (dir_row d n a ≡ Some r)
  pub only_due : (n : ℕ) (a : DirCase) (r : RowLine) → dir_row d n a ≡ Some r → is_due_case d n a ≡ true
  pub read_memory : (n : ℕ) (r : RowLine) → dir_row d n (case.Ask Read Other) ≡ Some r → (kind_is kind.Idle d n ≡ true) ⊎ (kind_is kind.Shared d n ≡ true)
      → (m : ℕ) × (action_in r.form ≡ Some (action.Reply m))
  pub read_owned : (n : ℕ) (r : RowLine) → dir_row d n (case.Ask Read Other) ≡ Some r → kind_is kind.Owned d n ≡ true
      → (f : ℕ) × (action_in r.form ≡ Some (action.Forward f)) × ((has_class Share d f ≡ true) ⊎ ((has_class Keep d f ≡ true) ⊎ (has_class Drop d f ≡ true)))
  pub read_mixed : (n : ℕ) (r : RowLine) → dir_row d n (case.Ask Read Other) ≡ Some r → kind_is kind.Mixed d n ≡ true
      → (f : ℕ) × (action_in r.form ≡ Some (action.Forward f)) × ((has_class Share d f ≡ true) ⊎ (has_class Keep d f ≡ true))
  pub write_memory : (n : ℕ) (w : Who) (r : RowLine) → dir_row d n (case.Ask Write w) ≡ Some r → (kind_is kind.Idle d n ≡ true) ⊎ (kind_is kind.Shared d n ≡ true)
      → (m : ℕ) × (action_in r.form ≡ Some (action.Reply m))
  pub write_other : (n : ℕ) (r : RowLine) → dir_row d n (case.Ask Write Other) ≡ Some r → (kind_is kind.Owned d n ≡ true) ⊎ (kind_is kind.Mixed d n ≡ true)
      → (f : ℕ) × (action_in r.form ≡ Some (action.Forward f)) × (has_class Drop d f ≡ true)
  pub write_sharer : (n : ℕ) (r : RowLine) → dir_row d n (case.Ask Write Sharer) ≡ Some r → (kind_is kind.Owned d n ≡ true) ⊎ (kind_is kind.Mixed d n ≡ true)
      → (f : ℕ) × (action_in r.form ≡ Some (action.Forward f)) × (has_class Drop d f ≡ true)
  pub upgrade : (n : ℕ) (r : RowLine) → dir_row d n (case.Ask Write Owner) ≡ Some r → action_in r.form ≡ Some action.Count

-- where a READ leads, and that it ends
pub record HasReads (d : Draft) : Type 0 where
  pub memory : (n m s : ℕ) (r : RowLine) → dir_row d n (case.Ask Read Other) ≡ Some r → action_in r.form ≡ Some (action.Reply m) → requestor_final d Load Other m ≡ Some s
      → ((kind_is kind.Shared d r.next ≡ true) × (shared d ≡ Some s))
      ⊎ ((kind_is kind.Idle d n ≡ true) × (kind_is kind.Owned d r.next ≡ true) × (lists d r.next s ≡ true) × (cache_is (λ c. is_owner c.role) d s ≡ true))
  pub share : (n f : ℕ) (r : RowLine) → dir_row d n (case.Ask Read Other) ≡ Some r → action_in r.form ≡ Some (action.Forward f) → has_class Share d f ≡ true
      → (kind_is kind.Shared d r.next ≡ true) × ((x s : ℕ) → lists d n x ≡ true → requestor_final_by d Load Other f x ≡ Some s → shared d ≡ Some s)
  pub keep : (n f : ℕ) (r : RowLine) → dir_row d n (case.Ask Read Other) ≡ Some r → action_in r.form ≡ Some (action.Forward f) → has_class Keep d f ≡ true
      → (kind_is kind.Mixed d r.next ≡ true) × ((x s : ℕ) → lists d n x ≡ true → keep_of d x ≡ Some s → lists d r.next s ≡ true)
      × ((x s : ℕ) → lists d n x ≡ true → requestor_final_by d Load Other f x ≡ Some s → shared d ≡ Some s)
  pub drop : (n f : ℕ) (r : RowLine) → dir_row d n (case.Ask Read Other) ≡ Some r → action_in r.form ≡ Some (action.Forward f) → has_class Drop d f ≡ true
      → (kind_is kind.Owned d r.next ≡ true)
      × ((x s : ℕ) → lists d n x ≡ true → requestor_final_by d Load Other f x ≡ Some s → (lists d r.next s ≡ true) × (cache_is (λ c. is_owner c.role) d s ≡ true))
  pub memory_final : (n m : ℕ) (r : RowLine) → dir_row d n (case.Ask Read Other) ≡ Some r → action_in r.form ≡ Some (action.Reply m)
      → (s : ℕ) × (requestor_final d Load Other m ≡ Some s)
  pub passed_final : (n f x : ℕ) (r : RowLine) → dir_row d n (case.Ask Read Other) ≡ Some r → action_in r.form ≡ Some (action.Forward f) → lists d n x ≡ true
      → (s : ℕ) × (requestor_final_by d Load Other f x ≡ Some s)

-- where a WRITE leads, and that it ends
pub record HasWrites (d : Draft) : Type 0 where
  pub owned : (n : ℕ) (w : Who) (r : RowLine) → dir_row d n (case.Ask Write w) ≡ Some r → kind_is kind.Owned d r.next ≡ true
  pub memory : (n m s : ℕ) (w : Who) (r : RowLine) → dir_row d n (case.Ask Write w) ≡ Some r → action_in r.form ≡ Some (action.Reply m)
      → requestor_final d Store w m ≡ Some s → lists d r.next s ≡ true
  pub passed : (n f x s : ℕ) (w : Who) (r : RowLine) → dir_row d n (case.Ask Write w) ≡ Some r → action_in r.form ≡ Some (action.Forward f)
      → lists d n x ≡ true → requestor_final_by d Store w f x ≡ Some s → lists d r.next s ≡ true
  pub upgrade : (n x s : ℕ) (r : RowLine) → dir_row d n (case.Ask Write Owner) ≡ Some r → lists d n x ≡ true → cache_is is_read_owner d x ≡ true
      → owner_store_final d x ≡ Some s → lists d r.next s ≡ true
  pub memory_final : (n m : ℕ) (w : Who) (r : RowLine) → dir_row d n (case.Ask Write w) ≡ Some r → action_in r.form ≡ Some (action.Reply m)
      → (s : ℕ) × (requestor_final d Store w m ≡ Some s)
  pub passed_final : (n f x : ℕ) (w : Who) (r : RowLine) → dir_row d n (case.Ask Write w) ≡ Some r → action_in r.form ≡ Some (action.Forward f) → lists d n x ≡ true
      → (s : ℕ) × (requestor_final_by d Store w f x ≡ Some s)
  pub upgrade_final : (x : ℕ) → cache_is is_read_owner d x ≡ true → (s : ℕ) × (owner_store_final d x ≡ Some s)

-- where an evict leads
pub record HasEvicts (d : Draft) : Type 0 where
  pub owner_last : (n : ℕ) (r : RowLine) → dir_row d n (case.Evict Owner Last) ≡ Some r → kind_is kind.Idle d r.next ≡ true
  pub owner_more : (n : ℕ) (r : RowLine) → dir_row d n (case.Evict Owner More) ≡ Some r → kind_is kind.Shared d r.next ≡ true
  pub shared_last : (n : ℕ) (r : RowLine) → dir_row d n (case.Evict Sharer Last) ≡ Some r → kind_is kind.Shared d n ≡ true → kind_is kind.Idle d r.next ≡ true
  pub shared_more : (n : ℕ) (r : RowLine) → dir_row d n (case.Evict Sharer More) ≡ Some r → kind_is kind.Shared d n ≡ true → kind_is kind.Shared d r.next ≡ true
  pub mixed_last : (n : ℕ) (r : RowLine) → dir_row d n (case.Evict Sharer Last) ≡ Some r → kind_is kind.Mixed d n ≡ true
      → ((kind_is kind.Mixed d r.next ≡ true) ⊎ (kind_is kind.Owned d r.next ≡ true)) × ((x : ℕ) → lists d n x ≡ true → lists d r.next x ≡ true)
  pub mixed_more : (n : ℕ) (r : RowLine) → dir_row d n (case.Evict Sharer More) ≡ Some r → kind_is kind.Mixed d n ≡ true
      → (kind_is kind.Mixed d r.next ≡ true) × ((x : ℕ) → lists d n x ≡ true → lists d r.next x ≡ true)

-- what a core does: with the permission it is done, without it asks for each reply that may come, and it gives its copy up by a class that tells
-- whether memory has to be written
pub record HasCores (d : Draft) : Type 0 where
  pub row : (s : ℕ) (event : Event) (c : CacheLine) → IsCache d s c → (event ≡ Evict → is_out c.role ≡ false) → (x : CoreLine) × (core_row d s event ≡ Some x)
  pub hits : (s : ℕ) (event : Event) (c : CacheLine) (x : CoreLine) → IsCache d s c → core_row d s event ≡ Some x → allows event c ≡ true → is_hit x.form ≡ true
  pub load_hit : (s : ℕ) (x : CoreLine) → core_row d s Load ≡ Some x → is_hit x.form ≡ true → x.form ≡ Hit None
  pub store_hit : (s t : ℕ) (x : CoreLine) → core_row d s Store ≡ Some x → cache_is is_write_owner d s ≡ true → store_next s Store x.form ≡ Some t
      → (cache_is is_dirty_writer d t ≡ true) × ((n : ℕ) → lists d n t ≡ lists d n s)
  pub load : (s : ℕ) (x : CoreLine) (c : CacheLine) → IsCache d s c → core_row d s Load ≡ Some x → allows Load c ≡ false
      → (request : ℕ) × (pairs : List Pair) × (x.form ≡ Ask request pairs) × (request_of d Read ≡ Some request)
  pub load_reply : (s m : ℕ) (x : CoreLine) → out d ≡ Some s → core_row d s Load ≡ Some x → is_load_reply d m ≡ true
      → (t : ℕ) × (final_under (reply.Reply m) x.form ≡ Some t)
  pub load_final : (s t : ℕ) (name : ReplyName) (x : CoreLine) → core_row d s Load ≡ Some x → final_under name x.form ≡ Some t
      → (shared d ≡ Some t) ⊎ (cache_is (λ c. is_owner c.role) d t ≡ true)
  pub store : (s : ℕ) (x : CoreLine) (c : CacheLine) → IsCache d s c → core_row d s Store ≡ Some x → allows Store c ≡ false
      → (request : ℕ) × (pairs : List Pair) × (x.form ≡ Ask request pairs) × (request_of d Write ≡ Some request)
  pub store_reply_out : (s m : ℕ) (x : CoreLine) → out d ≡ Some s → core_row d s Store ≡ Some x → is_store_reply d Other m ≡ true
      → (t : ℕ) × (final_under (reply.Reply m) x.form ≡ Some t)
  pub store_reply_shared : (s m : ℕ) (x : CoreLine) → shared d ≡ Some s → core_row d s Store ≡ Some x → is_store_reply d Sharer m ≡ true
      → (t : ℕ) × (final_under (reply.Reply m) x.form ≡ Some t)
  pub store_count : (s : ℕ) (x : CoreLine) → cache_is is_read_owner d s ≡ true → core_row d s Store ≡ Some x
      → (t : ℕ) × (final_under reply.AckCount x.form ≡ Some t)
  pub store_final : (s t : ℕ) (name : ReplyName) (x : CoreLine) → core_row d s Store ≡ Some x → final_under name x.form ≡ Some t
      → (cache_is is_dirty_writer d t ≡ true) × ((y : CoreLine) → core_row d t Store ≡ Some y → stays_at_store t y.form ≡ true)
  pub one_end : (s j k request : ℕ) (pairs : List Pair) (p q : Pair) (x : CoreLine) → core_row d s Store ≡ Some x → x.form ≡ Ask request pairs
      → slice_get pairs j ≡ Some p → slice_get pairs k ≡ Some q → p.fin ≡ q.fin
  pub evict : (s : ℕ) (x : CoreLine) → core_row d s Evict ≡ Some x → (m : ℕ) × (x.form ≡ Leave m)
  pub evict_shared : (s m : ℕ) (x : CoreLine) → shared d ≡ Some s → core_row d s Evict ≡ Some x → x.form ≡ Leave m → asks_class Clean d m ≡ true
  pub evict_dirty : (s m : ℕ) (x : CoreLine) (c : CacheLine) → IsCache d s c → is_owner c.role ≡ true → c.clean ≡ false → core_row d s Evict ≡ Some x → x.form ≡ Leave m
      → asks_class Dirty d m ≡ true
  pub clean_final : (s t : ℕ) (name : ReplyName) (x : CoreLine) → core_row d s Load ≡ Some x → final_under name x.form ≡ Some t
      → cache_is (λ c. c.clean) d t ≡ true → is_from_cache d name ≡ false

-- all that the shape gives
pub record IsShaped (d : Draft) : Type 0 where
  pub perms : HasPerms d
  pub lists : HasLists d
  pub forwards : HasForwards d
  pub takes : HasTakes d
  pub rows : HasRows d
  pub reads : HasReads d
  pub writes : HasWrites d
  pub evicts : HasEvicts d
  pub cores : HasCores d

-- the draft of a protocol: it is well formed, no line breaks a rule of the shape, and so it has all that the shape gives
pub record IsProtocol (d : Draft) : Type 0 where
  pub well_formed : IsWellFormed d
  pub shape : HasShape d
  pub shaped : IsShaped d
