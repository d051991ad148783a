-- That a load or a store gets a reply, and that it ends in a state that fits with each reply that it may get.
use Rattle.std.proofs.Common.{◌≡◌, ℕ, ◌⊎◌, ◌<◌, true, false, [], Option, Some, None, refl, sym, subst, ap, ◌∙◌, inl, inr}
use Rattle.std.specs.Prelude.{◌≢◌}
use Rattle.std.specs.Option.{option_and_then}
use Rattle.pg_perm.specs.declared.kinds.DirKind.TheVariants as kind
use Rattle.pg_perm.specs.declared.kinds.Event.{Event}
use Rattle.pg_perm.specs.declared.kinds.Event.TheVariants.{Load, Store, Evict}
use Rattle.pg_perm.specs.declared.kinds.Who.{Who}
use Rattle.pg_perm.specs.declared.kinds.Who.TheVariants.{Other, Sharer, Owner}
use Rattle.pg_perm.specs.declared.kinds.ReqClass.TheVariants.{Read, Write}
use Rattle.pg_perm.specs.declared.kinds.FwdClass.TheVariants.{Share, Keep, Drop}
use Rattle.pg_perm.specs.declared.draft.Draft.{Draft}
use Rattle.pg_perm.specs.declared.draft.CoreLine.{CoreLine}
use Rattle.pg_perm.specs.declared.draft.RowLine.{RowLine}
use Rattle.pg_perm.specs.declared.draft.TakeLine.{TakeLine}
use Rattle.pg_perm.specs.declared.draft.ReplyName.{ReplyName}
use Rattle.pg_perm.specs.declared.draft.ReplyName.TheVariants as reply
use Rattle.pg_perm.specs.declared.draft.Action.{Action}
use Rattle.pg_perm.specs.declared.draft.Action.TheVariants as action
use Rattle.pg_perm.specs.Drafts.{IsWellFormed}
use Rattle.pg_terms.specs.declared.cases.DirCase.{DirCase}
use Rattle.pg_terms.specs.declared.cases.DirCase.TheVariants as case
use Rattle.pg_terms.specs.Terms.{is, is_owner, cache_is, out, shared, has_class, lists, core_row, take_row, dir_row}
use Rattle.pg_terms.specs.Due.{kind_is}
use Rattle.pg_terms.specs.Rows.{allows, final_under, reply_to, action_in, final_state}
use Rattle.pg_shape.specs.NextRules.{requestor_final, requestor_final_by}
use Rattle.pg_shape.specs.Shaped.{IsShaped}
use Rattle.pg_shape.proofs.Shaped.{is_then_some}
use Rattle.pg_directory.specs.DirEntries.{DirEntry, Request, is_among, with_owner, who, row_of, entry_after_write, entry_after_row, entry_after}
use Rattle.pg_directory.specs.Sound.{IsSound, IsLegal, IsLegalAs, fits_as, fits}
use Rattle.pg_directory.specs.Requests.{action_of, IsReplyBy, IsReply}
use Rattle.pg_directory.proofs.Cores.{same_core, among_with_same}
use Rattle.pg_directory.proofs.Members.{holds_as_who, owner_fits, sharer_fits}
use Rattle.pg_directory.proofs.Facts.{shared_not_owned, mixed_not_owned, keep_no_share, drop_no_share, action_forwards, reply_forwards_nothing, shared_allows_load, owner_allows_load, writer_allows_store, owner_reads, lists_some_owner}
use Rattle.pg_directory.proofs.EntriesAfter.{after_is, by_share, by_nothing, shared_with, joined_by, owned_by, after_share_is, after_joined_is, after_owned_is}
use Rattle.pg_directory.proofs.Handling.{IsTaken, load_row, load_forward, load_class, load_counts_not, store_forward, store_counts_not, row_acts, action_has_row}
use Rattle.pg_directory.proofs.Forwards.{takes_passed}

-- Replies

-- what answers to a listed state
listed_answer : (d : Draft) (n f x : ℕ) (a : DirCase) (r : RowLine) → IsShaped d → dir_row d n a ≡ Some r → action_in r.form ≡ Some (action.Forward f)
    → (has_class Share d f ≡ true) ⊎ ((has_class Keep d f ≡ true) ⊎ (has_class Drop d f ≡ true)) → lists d n x ≡ true → (m : ℕ) × (reply_to d x f ≡ Some m)
listed_answer d n f x a r shape row does class at = by_class class
  where
    take : (t : TakeLine) × (take_row d x f ≡ Some t)
    take = takes_passed d n f x a r shape row does at

    answer : (m : ℕ) × (take.0.reply ≡ Some m) → (m : ℕ) × (reply_to d x f ≡ Some m)
    answer p = (p.0, ap (λ (o : Option TakeLine). option_and_then (λ t. t.reply) o) take.1 ∙ p.1)

    by_class : (has_class Share d f ≡ true) ⊎ ((has_class Keep d f ≡ true) ⊎ (has_class Drop d f ≡ true)) → (m : ℕ) × (reply_to d x f ≡ Some m)
    by_class (inl c) = answer (shape.takes.share x f take.0 take.1 c).0
    by_class (inr (inl c)) = answer (shape.takes.keep x f take.0 take.1 c).0
    by_class (inr (inr c)) = answer (shape.takes.drop x f take.0 take.1 c).0

taken_lists : (d : Draft) (n : ℕ) → IsShaped d → IsTaken d n → (x : ℕ) × (lists d n x ≡ true)
taken_lists d n shape (inl h) = lists_some_owner d n kind.Owned shape.lists refl h
taken_lists d n shape (inr h) = lists_some_owner d n kind.Mixed shape.lists refl h

-- a request that is passed on may get what some listed state answers
passed_replies : (d : Draft) (n f : ℕ) (a : DirCase) (r : RowLine) → IsShaped d → IsTaken d n → dir_row d n a ≡ Some r → action_in r.form ≡ Some (action.Forward f)
    → (has_class Share d f ≡ true) ⊎ ((has_class Keep d f ≡ true) ⊎ (has_class Drop d f ≡ true))
    → (name : ReplyName) × IsReplyBy d n (Some (action.Forward f)) name
passed_replies d n f a r shape taken row does class =
    let (x, at) = taken_lists d n shape taken in
    let (m, to) = listed_answer d n f x a r shape row does class at in
    (reply.Reply m, (x, m, at, to, refl))

-- a row replies
row_replies : (d : Draft) (n : ℕ) (s : DirEntry) (core : ℕ) (event : Event) → IsShaped d → IsSound d n s → IsLegalAs d s.dir (who s core) event
    → (r : RowLine) (a : Action) → row_of d s (record { core = core; event = event }) ≡ Some r → action_in r.form ≡ Some a → event ≢ Evict
    → (name : ReplyName) × IsReplyBy d s.dir (Some a) name
row_replies d n s core event shape sound legal r (action.Reply m) row does other = (reply.Reply m, refl)
row_replies d n s core event shape sound legal r action.Count row does other = (reply.AckCount, refl)
row_replies d n s core Load shape sound legal r (action.Forward f) row does other =
    let at = load_row d s core r legal row in
    passed_replies d s.dir f (case.Ask Read Other) r shape (load_forward d n s f r shape sound at does) at does (class (load_class d n s f r shape sound at does))
  where
    class : (has_class Share d f ≡ true) ⊎ ((has_class Keep d f ≡ true) ⊎ ((has_class Drop d f ≡ true) × (s.sharers ≡ [])))
        → (has_class Share d f ≡ true) ⊎ ((has_class Keep d f ≡ true) ⊎ (has_class Drop d f ≡ true))
    class (inl c) = inl c
    class (inr (inl c)) = inr (inl c)
    class (inr (inr c)) = inr (inr c.0)
row_replies d n s core Store shape sound legal r (action.Forward f) row does other =
    let (w, taken, class) = store_forward d n s f r (who s core) shape sound row does in
    passed_replies d s.dir f (case.Ask Write (who s core)) r shape taken row does (inr (inr class))
row_replies d n s core Evict shape sound legal r (action.Forward f) row does other = absurd (other refl)

-- a load or a store that has a row may get some reply
pub replied : (d : Draft) (n : ℕ) (s : DirEntry) (q : Request) → IsWellFormed d → IsShaped d → IsSound d n s → q.core < n → IsLegal d s q
    → (r : RowLine) → row_of d s q ≡ Some r → q.event ≢ Evict → (name : ReplyName) × IsReply d s q name
replied d n s q well shape sound below legal r row other =
    let (a, does) = row_acts d s q.core q.event r row other in
    let acts : action_of d s q ≡ Some a = ap (λ (o : Option RowLine). option_and_then (λ r. action_in r.form) o) row ∙ does in
    let (name, is_reply) = row_replies d n s q.core q.event shape sound legal r a row does other in
    (name, subst (λ (o : Option Action). IsReplyBy d s.dir o name) (sym acts) is_reply)

-- Final states

-- with this reply a core in this state ends in one that fits, and that has the permission
abbrev pub EndsGranted : Draft → DirEntry → ℕ → Event → ℕ → ReplyName → Type 0
EndsGranted d s core event x name = (t : ℕ) × (final_state d x event name ≡ Some t) × (fits d s core t ≡ true) × (cache_is (allows event) d t ≡ true)

-- the final state of the requestor is that of the state it asks in
final_is : (d : Draft) (event : Event) (n x m : ℕ) (w : Who) → w ≢ Owner → fits_as d n w x ≡ true → requestor_final d event w m ≡ final_state d x event (reply.Reply m)
final_is d event n x m Other other fit =
    ap (λ (o : Option ℕ). option_and_then (λ c. final_under (reply.Reply m) c.form) (option_and_then (λ s. core_row d s event) o)) (is_then_some (out d) x fit)
final_is d event n x m Sharer other fit =
    ap (λ (o : Option ℕ). option_and_then (λ c. final_under (reply.Reply m) c.form) (option_and_then (λ s. core_row d s event) o)) (is_then_some (shared d) x fit)
final_is d event n x m Owner other fit = absurd (other refl)

-- what ends by the owner's answer ends by the reply
by_reply : (d : Draft) (event : Event) (w : Who) (f x m t : ℕ) → reply_to d x f ≡ Some m → requestor_final_by d event w f x ≡ Some t → requestor_final d event w m ≡ Some t
by_reply d event w f x m t to ends = sym (ap (λ (o : Option ℕ). option_and_then (requestor_final d event w) o) to) ∙ ends

-- the state in which a store ends may write
store_ends_writing : (d : Draft) (x t : ℕ) (name : ReplyName) → IsShaped d → final_state d x Store name ≡ Some t → cache_is (allows Store) d t ≡ true
store_ends_writing d x t name shape ends = at (core_row d x Store) refl ends
  where
    at : (o : Option CoreLine) → core_row d x Store ≡ o → option_and_then (λ c. final_under name c.form) o ≡ Some t → cache_is (allows Store) d t ≡ true
    at None e h = absurd cc
    at (Some c) e h = writer_allows_store d t (shape.cores.store_final x t name c e h).0

-- Loads

-- a load ends shared, and the requestor shares
ends_shared : (d : Draft) (s : DirEntry) (core x t : ℕ) (name : ReplyName) → IsShaped d → is s.owner core ≡ false → is_among s.sharers core ≡ true
    → final_state d x Load name ≡ Some t → shared d ≡ Some t → EndsGranted d s core Load x name
ends_shared d s core x t name shape apart among ends e =
    (t, ends, sharer_fits d s core t apart among e, shared_allows_load d t shape.perms e)

-- or as an owner, and the requestor owns
ends_owning : (d : Draft) (s : DirEntry) (core x t : ℕ) (name : ReplyName) → IsShaped d → is s.owner core ≡ true → final_state d x Load name ≡ Some t
    → lists d s.dir t ≡ true → cache_is (λ c. is_owner c.role) d t ≡ true → EndsGranted d s core Load x name
ends_owning d s core x t name shape owns ends at owner =
    (t, ends, owner_fits d s core t owns at, owner_allows_load d t shape.perms owner)

load_by_memory : (d : Draft) (s : DirEntry) (core x m : ℕ) (r : RowLine) → IsShaped d → who s core ≡ Other → fits_as d s.dir Other x ≡ true
    → dir_row d s.dir (case.Ask Read Other) ≡ Some r → action_in r.form ≡ Some (action.Reply m) → EndsGranted d (entry_after_row d r Load core s) core Load x (reply.Reply m)
load_by_memory d s core x m r shape legal fit row does = at final_state.0 final_state.1 (shape.reads.memory s.dir m final_state.0 r row does final_state.1)
  where
    final_state : (t : ℕ) × (requestor_final d Load Other m ≡ Some t)
    final_state = shape.reads.memory_final s.dir m r row does

    at : (t : ℕ) → requestor_final d Load Other m ≡ Some t
        → ((kind_is kind.Shared d r.next ≡ true) × (shared d ≡ Some t))
        ⊎ ((kind_is kind.Idle d s.dir ≡ true) × (kind_is kind.Owned d r.next ≡ true) × (lists d r.next t ≡ true) × (cache_is (λ c. is_owner c.role) d t ≡ true))
        → EndsGranted d (entry_after_row d r Load core s) core Load x (reply.Reply m)
    at t ends (inl (next, e)) =
        let by = by_nothing d r (reply_forwards_nothing m r.form does) in
        subst (λ (s : DirEntry). EndsGranted d s core Load x (reply.Reply m)) (sym (after_joined_is d r core s by (shared_not_owned d r.next next)))
        (ends_shared d (joined_by r.next core s) core x t (reply.Reply m) shape (holds_as_who s core Other legal).0 (among_with_same core s.sharers)
        (sym (final_is d Load s.dir x m Other (λ e. absurd (cc e)) fit) ∙ ends) e)
    at t ends (inr (idle, next, listed, owner)) =
        let by = by_nothing d r (reply_forwards_nothing m r.form does) in
        subst (λ (s : DirEntry). EndsGranted d s core Load x (reply.Reply m)) (sym (after_owned_is d r core s by next))
        (ends_owning d (owned_by r.next core s) core x t (reply.Reply m) shape (same_core core)
        (sym (final_is d Load s.dir x m Other (λ e. absurd (cc e)) fit) ∙ ends) listed owner)

load_by_owner : (d : Draft) (n : ℕ) (s : DirEntry) (core f x y m : ℕ) (r : RowLine) → IsShaped d → IsSound d n s → who s core ≡ Other → fits_as d s.dir Other x ≡ true
    → dir_row d s.dir (case.Ask Read Other) ≡ Some r → action_in r.form ≡ Some (action.Forward f) → lists d s.dir y ≡ true → reply_to d y f ≡ Some m
    → EndsGranted d (entry_after_row d r Load core s) core Load x (reply.Reply m)
load_by_owner d n s core f x y m r shape sound legal fit row does listed to =
    let (t, ends) = shape.reads.passed_final s.dir f y r row does listed in
    let same = sym (final_is d Load s.dir x m Other (λ e. absurd (cc e)) fit) ∙ by_reply d Load Other f y m t to ends in
    by_class t ends same (load_class d n s f r shape sound row does)
  where
    by_class : (t : ℕ) → requestor_final_by d Load Other f y ≡ Some t → final_state d x Load (reply.Reply m) ≡ Some t
        → (has_class Share d f ≡ true) ⊎ ((has_class Keep d f ≡ true) ⊎ ((has_class Drop d f ≡ true) × (s.sharers ≡ [])))
        → EndsGranted d (entry_after_row d r Load core s) core Load x (reply.Reply m)
    by_class t ends same (inl class) =
        let (next, finals) = shape.reads.share s.dir f r row does class in
        let by = by_share d r f true (action_forwards f r.form does) class in
        subst (λ (s : DirEntry). EndsGranted d s core Load x (reply.Reply m)) (sym (after_share_is d r core s by (shared_not_owned d r.next next)))
        (ends_shared d (shared_with r.next core s) core x t (reply.Reply m) shape refl (among_with_same core (with_owner s.owner s.sharers)) same (finals y t listed ends))
    by_class t ends same (inr (inl class)) =
        let (next, kept, finals) = shape.reads.keep s.dir f r row does class in
        let by = by_share d r f false (action_forwards f r.form does) (keep_no_share d f class) in
        subst (λ (s : DirEntry). EndsGranted d s core Load x (reply.Reply m)) (sym (after_joined_is d r core s by (mixed_not_owned d r.next next)))
        (ends_shared d (joined_by r.next core s) core x t (reply.Reply m) shape (holds_as_who s core Other legal).0 (among_with_same core s.sharers) same (finals y t listed ends))
    by_class t ends same (inr (inr (class, alone))) =
        let (next, finals) = shape.reads.drop s.dir f r row does class in
        let by = by_share d r f false (action_forwards f r.form does) (drop_no_share d f class) in
        let (at, owner) = finals y t listed ends in
        subst (λ (s : DirEntry). EndsGranted d s core Load x (reply.Reply m)) (sym (after_owned_is d r core s by next))
        (ends_owning d (owned_by r.next core s) core x t (reply.Reply m) shape (same_core core) same at owner)

-- Stores

-- who stores owns
ends_writing : (d : Draft) (s : DirEntry) (core x t : ℕ) (name : ReplyName) (r : RowLine) → IsShaped d → final_state d x Store name ≡ Some t → lists d r.next t ≡ true
    → EndsGranted d (entry_after_write r core s) core Store x name
ends_writing d s core x t name r shape ends at =
    (t, ends, owner_fits d (entry_after_write r core s) core t (same_core core) at, store_ends_writing d x t name shape ends)

store_by_memory : (d : Draft) (s : DirEntry) (core x m : ℕ) (r : RowLine) (w : Who) → IsShaped d → w ≢ Owner → fits_as d s.dir w x ≡ true
    → dir_row d s.dir (case.Ask Write w) ≡ Some r → action_in r.form ≡ Some (action.Reply m) → EndsGranted d (entry_after_write r core s) core Store x (reply.Reply m)
store_by_memory d s core x m r w shape other fit row does =
    let (t, ends) = shape.writes.memory_final s.dir m w r row does in
    ends_writing d s core x t (reply.Reply m) r shape (sym (final_is d Store s.dir x m w other fit) ∙ ends) (shape.writes.memory s.dir m t w r row does ends)

store_by_owner : (d : Draft) (s : DirEntry) (core f x y m : ℕ) (r : RowLine) (w : Who) → IsShaped d → w ≢ Owner → fits_as d s.dir w x ≡ true
    → dir_row d s.dir (case.Ask Write w) ≡ Some r → action_in r.form ≡ Some (action.Forward f) → lists d s.dir y ≡ true → reply_to d y f ≡ Some m
    → EndsGranted d (entry_after_write r core s) core Store x (reply.Reply m)
store_by_owner d s core f x y m r w shape other fit row does listed to =
    let (t, ends) = shape.writes.passed_final s.dir f y w r row does listed in
    ends_writing d s core x t (reply.Reply m) r shape (sym (final_is d Store s.dir x m w other fit) ∙ by_reply d Store w f y m t to ends)
    (shape.writes.passed s.dir f y t w r row does listed ends)

-- a store of the owner ends by a count
store_by_count : (d : Draft) (s : DirEntry) (core x : ℕ) (r : RowLine) → IsShaped d → lists d s.dir x ≡ true → cache_is (allows Store) d x ≡ false
    → dir_row d s.dir (case.Ask Write Owner) ≡ Some r → EndsGranted d (entry_after_write r core s) core Store x reply.AckCount
store_by_count d s core x r shape listed lacks row =
    let reader = owner_reads d x shape.perms (shape.lists.lists_owners s.dir x listed) lacks in
    let (t, ends) = shape.writes.upgrade_final x reader in
    ends_writing d s core x t reply.AckCount r shape ends (shape.writes.upgrade s.dir x t r row listed reader ends)

-- Both

-- a reply is by what a row does
reply_has_row : (d : Draft) (s : DirEntry) (q : Request) (name : ReplyName) → IsReply d s q name
    → (r : RowLine) × (a : Action) × (row_of d s q ≡ Some r) × (action_in r.form ≡ Some a) × IsReplyBy d s.dir (Some a) name
reply_has_row d s q name is_reply = at (action_of d s q) refl is_reply
  where
    at : (o : Option Action) → action_of d s q ≡ o → IsReplyBy d s.dir o name
        → (r : RowLine) × (a : Action) × (row_of d s q ≡ Some r) × (action_in r.form ≡ Some a) × IsReplyBy d s.dir (Some a) name
    at None e none = absurd none
    at (Some a) e some = let (r, row, does) = action_has_row d s q a e in (r, a, row, does, some)

load_ends : (d : Draft) (n : ℕ) (s : DirEntry) (core x : ℕ) (r : RowLine) (a : Action) (name : ReplyName) → IsShaped d → IsSound d n s → who s core ≡ Other
    → fits_as d s.dir Other x ≡ true → dir_row d s.dir (case.Ask Read Other) ≡ Some r → action_in r.form ≡ Some a → IsReplyBy d s.dir (Some a) name
    → EndsGranted d (entry_after_row d r Load core s) core Load x name
load_ends d n s core x r (action.Reply m) name shape sound legal fit row does is_reply =
    subst (λ (name : ReplyName). EndsGranted d (entry_after_row d r Load core s) core Load x name) (sym is_reply) (load_by_memory d s core x m r shape legal fit row does)
load_ends d n s core x r (action.Forward f) name shape sound legal fit row does (y, m, listed, to, is_reply) =
    subst (λ (name : ReplyName). EndsGranted d (entry_after_row d r Load core s) core Load x name) (sym is_reply)
    (load_by_owner d n s core f x y m r shape sound legal fit row does listed to)
load_ends d n s core x r action.Count name shape sound legal fit row does is_reply = absurd (load_counts_not d n s r shape sound row does)

store_ends : (d : Draft) (n : ℕ) (s : DirEntry) (core x : ℕ) (r : RowLine) (a : Action) (name : ReplyName) (w : Who) → IsShaped d → IsSound d n s → w ≢ Owner
    → fits_as d s.dir w x ≡ true → dir_row d s.dir (case.Ask Write w) ≡ Some r → action_in r.form ≡ Some a → IsReplyBy d s.dir (Some a) name
    → EndsGranted d (entry_after_write r core s) core Store x name
store_ends d n s core x r (action.Reply m) name w shape sound other fit row does is_reply =
    subst (λ (name : ReplyName). EndsGranted d (entry_after_write r core s) core Store x name) (sym is_reply) (store_by_memory d s core x m r w shape other fit row does)
store_ends d n s core x r (action.Forward f) name w shape sound other fit row does (y, m, listed, to, is_reply) =
    subst (λ (name : ReplyName). EndsGranted d (entry_after_write r core s) core Store x name) (sym is_reply)
    (store_by_owner d s core f x y m r w shape other fit row does listed to)
store_ends d n s core x r action.Count name w shape sound other fit row does is_reply = absurd (store_counts_not d n s r w shape sound row other does)

upgrade_ends : (d : Draft) (s : DirEntry) (core x : ℕ) (r : RowLine) (a : Action) (name : ReplyName) → IsShaped d
    → lists d s.dir x ≡ true → cache_is (allows Store) d x ≡ false → dir_row d s.dir (case.Ask Write Owner) ≡ Some r → action_in r.form ≡ Some a
    → IsReplyBy d s.dir (Some a) name → EndsGranted d (entry_after_write r core s) core Store x name
upgrade_ends d s core x r (action.Reply m) name shape listed lacks row does is_reply = absurd (cc (shape.rows.upgrade s.dir r row, does))
upgrade_ends d s core x r (action.Forward f) name shape listed lacks row does is_reply = absurd (cc (shape.rows.upgrade s.dir r row, does))
upgrade_ends d s core x r action.Count name shape listed lacks row does is_reply =
    subst (λ (name : ReplyName). EndsGranted d (entry_after_write r core s) core Store x name) (sym is_reply) (store_by_count d s core x r shape listed lacks row)

row_ends : (d : Draft) (n : ℕ) (s : DirEntry) (core : ℕ) (event : Event) → IsShaped d → IsSound d n s → IsLegalAs d s.dir (who s core) event → event ≢ Evict
    → (x : ℕ) (r : RowLine) (a : Action) (name : ReplyName) → fits d s core x ≡ true → cache_is (allows event) d x ≡ false
    → row_of d s (record { core = core; event = event }) ≡ Some r → action_in r.form ≡ Some a → IsReplyBy d s.dir (Some a) name
    → EndsGranted d (entry_after_row d r event core s) core event x name
row_ends d n s core Load shape sound legal other x r a name fit lacks row does is_reply =
    load_ends d n s core x r a name shape sound legal (subst (λ (w : Who). fits_as d s.dir w x ≡ true) legal fit) (load_row d s core r legal row) does is_reply
row_ends d n s core Store shape sound legal other x r a name fit lacks row does is_reply = at (who s core) fit row
  where
    at : (w : Who) → fits_as d s.dir w x ≡ true → dir_row d s.dir (case.Ask Write w) ≡ Some r → EndsGranted d (entry_after_write r core s) core Store x name
    at Other fit row = store_ends d n s core x r a name Other shape sound (λ e. absurd (cc e)) fit row does is_reply
    at Sharer fit row = store_ends d n s core x r a name Sharer shape sound (λ e. absurd (cc e)) fit row does is_reply
    at Owner fit row = upgrade_ends d s core x r a name shape fit lacks row does is_reply
row_ends d n s core Evict shape sound legal other x r a name fit lacks row does is_reply = absurd (other refl)

-- with each reply that a load or a store may get, it ends in a state that fits afterwards and has the permission
pub granted : (d : Draft) (n : ℕ) (s : DirEntry) (q : Request) → IsWellFormed d → IsShaped d → IsSound d n s → q.core < n → IsLegal d s q
    → q.event ≢ Evict → (x : ℕ) (name : ReplyName) → fits d s q.core x ≡ true → cache_is (allows q.event) d x ≡ false → IsReply d s q name
    → EndsGranted d (entry_after d s q) q.core q.event x name
granted d n s q well shape sound below legal other x name fit lacks is_reply =
    let (r, a, row, does, by) = reply_has_row d s q name is_reply in
    subst (λ (s : DirEntry). EndsGranted d s q.core q.event x name) (sym (after_is d s q r row))
    (row_ends d n s q.core q.event shape sound legal other x r a name fit lacks row does by)
