-- Each request that the directory answers or passes on ends in a state.
use Rattle.std.proofs.Common.{◌≡◌, ℕ, ◌<◌, ◌⊎◌, Bool, true, false, ◌&&◌, length, [], Option, Some, None, refl, sym, subst, ap, ◌∙◌, inl, inr}
use Rattle.std.specs.Prelude.{slice_get, ◌==◌}
use Rattle.std.specs.Option.{option_map_or, option_and_then}
use Rattle.std.specs.List.{list_any}
use Rattle.std.proofs.lemmas.Bool.{eqb-true, eq-eqb, and_parts, and_from}
use Rattle.std.proofs.lemmas.Option.{slice_get_within}
use Rattle.pg_perm.specs.declared.kinds.Event.{Event}
use Rattle.pg_perm.specs.declared.kinds.Event.TheVariants.{Load, Store, Evict}
use Rattle.pg_perm.specs.declared.kinds.DirKind.{DirKind}
use Rattle.pg_perm.specs.declared.kinds.DirKind.TheVariants as kind
use Rattle.pg_perm.specs.declared.kinds.Who.{Who}
use Rattle.pg_perm.specs.declared.kinds.Who.TheVariants.{Other, Sharer, Owner}
use Rattle.pg_perm.specs.declared.kinds.ReqClass.{ReqClass}
use Rattle.pg_perm.specs.declared.kinds.ReqClass.TheVariants.{Read, Write}
use Rattle.pg_perm.specs.declared.draft.Draft.{Draft}
use Rattle.pg_perm.specs.declared.draft.DirLine.{DirLine}
use Rattle.pg_perm.specs.declared.draft.CoreLine.{CoreLine}
use Rattle.pg_perm.specs.declared.draft.TakeLine.{TakeLine}
use Rattle.pg_perm.specs.declared.draft.RowLine.{RowLine}
use Rattle.pg_perm.specs.declared.draft.RowForm.{RowForm}
use Rattle.pg_perm.specs.declared.draft.ReplyName.TheVariants as reply
use Rattle.pg_perm.specs.declared.draft.Action.{Action}
use Rattle.pg_perm.specs.declared.draft.Action.TheVariants as action
use Rattle.pg_terms.specs.declared.cases.DirCase.TheVariants as case
use Rattle.pg_terms.specs.Terms.{is, is_out, is_shared, is_read_owner, cache_is, out, shared, request_of, same_who, lists, core_row, take_row, dir_row}
use Rattle.pg_terms.specs.Due.{same_kind, due_cases, lists_read_owner, same_case, is_due_case, is_row_for, is_row_from, is_answer, brings_reply, row_brings_reply, is_load_reply, is_store_reply}
use Rattle.pg_terms.proofs.Same.{who_same}
use Rattle.pg_shape.specs.NextRules.{requestor_row, requestor_final, requestor_final_by, owner_store_final}
use Rattle.pg_terms.specs.Rows.{final_under, reply_to, action_in}
use Rattle.pg_shape.specs.ShapeFaults.{HasShape}
use Rattle.pg_shape.specs.Shaped.{HasLists, HasTakes, HasRows, HasCores}
use Rattle.pg_shape.proofs.Bools.{three_both}
use Rattle.pg_shape.proofs.Searches.{any_at, find_get, position_get, map_or_get, not_both}
use Rattle.pg_shape.proofs.Shaped.{has_out, has_core_row, row_is_due}
use Rattle.pg_shape.proofs.Rows.{ask_row, same_action, row_at}

no_evict : (event : Event) → (event ≡ Load) ⊎ (event ≡ Store) → event ≡ Evict → ⊥
no_evict event (inl e) at = absurd (cc (e, at))
no_evict event (inr e) at = absurd (cc (e, at))

-- the place of a first one is within
first_within : (d : Draft) (s : ℕ) → (out d ≡ Some s) ⊎ (shared d ≡ Some s) → s < length d.caches
first_within d s (inl e) = (position_get (λ c. is_out c.role) d.caches s e).0
first_within d s (inr e) = (position_get (λ c. is_shared c.role) d.caches s e).0

-- where the requestor has a row, and the row a final state, the requestor ends in it
ends : (d : Draft) (event : Event) (w : Who) (m : ℕ) (x : CoreLine) (t : ℕ) → requestor_row d event w ≡ Some x → final_under (reply.Reply m) x.form ≡ Some t
    → requestor_final d event w m ≡ Some t
ends d event w m x t e f = ap (λ (o : Option CoreLine). option_and_then (λ c. final_under (reply.Reply m) c.form) o) e ∙ f

-- the row of out, and of shared
other_row : (d : Draft) → HasShape d → (event : Event) → (event ≡ Load) ⊎ (event ≡ Store) → (s : ℕ) → out d ≡ Some s
    → (x : CoreLine) × (core_row d s event ≡ Some x) × (requestor_row d event Other ≡ Some x)
other_row d h event which s e =
    let (x, f) = has_core_row d h s event (first_within d s (inl e)) (λ at. absurd (no_evict event which at)) in
    (x, f, ap (λ (o : Option ℕ). option_and_then (λ n. core_row d n event) o) e ∙ f)

sharer_row : (d : Draft) → HasShape d → (event : Event) → (event ≡ Load) ⊎ (event ≡ Store) → (s : ℕ) → shared d ≡ Some s
    → (x : CoreLine) × (core_row d s event ≡ Some x) × (requestor_row d event Sharer ≡ Some x)
sharer_row d h event which s e =
    let (x, f) = has_core_row d h s event (first_within d s (inr e)) (λ at. absurd (no_evict event which at)) in
    (x, f, ap (λ (o : Option ℕ). option_and_then (λ n. core_row d n event) o) e ∙ f)

-- a row line for a request, and what it brings
record Brings (d : Draft) (class : ReqClass) (w : Who) (m : ℕ) : Type 0 where
  line : RowLine
  place : ℕ
  at : slice_get d.rows place ≡ Some line
  for : is_row_for d class line.form ≡ true
  from : is_row_from d class w line.form ≡ true
  with : row_brings_reply d line.dir line.form m ≡ true

-- the row of a request brings what its action brings
brought : (d : Draft) → HasShape d → (n : ℕ) (class : ReqClass) (w : Who) (r : RowLine) (x : Action) (m : ℕ) → dir_row d n (case.Ask class w) ≡ Some r
    → action_in r.form ≡ Some x → brings_reply d n x m ≡ true → Brings d class w m
brought d h n class w r x m e does b =
    let a = ask_row d h n class w r e in
    let (k, g, dir, is_for) = row_at d n (case.Ask class w) r e in
    let same : a.does ≡ x = same_action d n class w r a x does in
    record {
      line = r;
      place = k;
      at = g;
      for = subst (λ (f : RowForm). is_row_for d class f ≡ true) (sym a.spelled) a.asks;
      from = subst (λ (f : RowForm). is_row_from d class w f ≡ true) (sym a.spelled) (and_from (is (request_of d class) a.request) (same_who w w) a.asks (who_same w));
      with = subst (λ (f : RowForm). row_brings_reply d r.dir f m ≡ true) (sym a.spelled)
          (subst (λ (y : Action). brings_reply d r.dir y m ≡ true) (sym same) (subst (λ k. brings_reply d k x m ≡ true) (sym a.dir) b));
    }

load_may_get : (d : Draft) (m : ℕ) → Brings d Read Other m → is_load_reply d m ≡ true
load_may_get d m b =
    any_at (λ r. is_row_for d Read r.form && row_brings_reply d r.dir r.form m) d.rows b.place b.line b.at
    (and_from (is_row_for d Read b.line.form) (row_brings_reply d b.line.dir b.line.form m) b.for b.with)

store_may_get : (d : Draft) (w : Who) (m : ℕ) → Brings d Write w m → is_store_reply d w m ≡ true
store_may_get d w m b =
    any_at (λ r. is_row_from d Write w r.form && row_brings_reply d r.dir r.form m) d.rows b.place b.line b.at
    (and_from (is_row_from d Write w b.line.form) (row_brings_reply d b.line.dir b.line.form m) b.from b.with)

-- a listed owner's answer to what is passed on
record Answers (d : Draft) (n f x : ℕ) : Type 0 where
  reply : ℕ
  to : reply_to d x f ≡ Some reply
  brings : brings_reply d n (action.Forward f) reply ≡ true

answers : (d : Draft) → HasTakes d → (n f x : ℕ) (t : TakeLine) (m : ℕ) → take_row d x f ≡ Some t → t.reply ≡ Some m → lists d n x ≡ true → Answers d n f x
answers d takes n f x t m e answer at =
    let (j, g, p) = find_get (λ t. (t.state == x) && (t.forward == f)) d.takes t e in
    let q = and_parts (t.state == x) (t.forward == f) p in
    let state : t.state ≡ x = eqb-true t.state x q.0 in
    record {
      reply = m;
      to = ap (λ (o : Option TakeLine). option_and_then (λ t. t.reply) o) e ∙ answer;
      brings = any_at (is_answer d n f m) d.takes j t g
          (three_both (t.forward == f) (is t.reply m) (lists d n t.state) q.1 (ap (λ (o : Option ℕ). is o m) answer ∙ eq-eqb m m refl)
          (subst (λ s. lists d n s ≡ true) (sym state) at));
    }

by_answer : (d : Draft) (event : Event) (w : Who) (f x m s : ℕ) → reply_to d x f ≡ Some m → requestor_final d event w m ≡ Some s → requestor_final_by d event w f x ≡ Some s
by_answer d event w f x m s e g = ap (λ (o : Option ℕ). option_and_then (requestor_final d event w) o) e ∙ g

-- a load ends under each reply that it may get
load_ends : (d : Draft) → HasShape d → HasCores d → (m : ℕ) → is_load_reply d m ≡ true → (s : ℕ) × (requestor_final d Load Other m ≡ Some s)
load_ends d h cores m may =
    let (o, e) = has_out d h in
    let (x, row, asks) = other_row d h Load (inl refl) o e in
    let (t, f) = cores.load_reply o m x e row may in
    (t, ends d Load Other m x t asks f)

-- and so does a store of another, or of a sharer
store_ends_other : (d : Draft) → HasShape d → HasCores d → (m : ℕ) → is_store_reply d Other m ≡ true → (s : ℕ) × (requestor_final d Store Other m ≡ Some s)
store_ends_other d h cores m may =
    let (o, e) = has_out d h in
    let (x, row, asks) = other_row d h Store (inr refl) o e in
    let (t, f) = cores.store_reply_out o m x e row may in
    (t, ends d Store Other m x t asks f)

store_ends_sharer : (d : Draft) → HasShape d → HasCores d → (m o : ℕ) → shared d ≡ Some o → is_store_reply d Sharer m ≡ true
    → (s : ℕ) × (requestor_final d Store Sharer m ≡ Some s)
store_ends_sharer d h cores m o e may =
    let (x, row, asks) = sharer_row d h Store (inr refl) o e in
    let (t, f) = cores.store_reply_shared o m x e row may in
    (t, ends d Store Sharer m x t asks f)

-- where a sharer writes, there is a shared state
sharer_kind : (k : DirKind) (reads : Bool) → list_any (same_case (case.Ask Write Sharer)) (due_cases k reads) ≡ true
    → (same_kind kind.Shared k ≡ true) ⊎ (same_kind kind.Mixed k ≡ true)
sharer_kind kind.Idle reads h = absurd cc
sharer_kind kind.Shared reads h = inl refl
sharer_kind kind.Owned true h = absurd cc
sharer_kind kind.Owned false h = absurd cc
sharer_kind kind.Mixed reads h = inr refl

has_sharers : (d : Draft) → HasShape d → HasLists d → (n : ℕ) (r : RowLine) → dir_row d n (case.Ask Write Sharer) ≡ Some r → (s : ℕ) × (shared d ≡ Some s)
has_sharers d h l n r e = at (slice_get d.dirs n) refl (row_is_due d h n (case.Ask Write Sharer) r e)
  where
    of_kind : (x : DirLine) → slice_get d.dirs n ≡ Some x → (same_kind kind.Shared x.kind ≡ true) ⊎ (same_kind kind.Mixed x.kind ≡ true) → (s : ℕ) × (shared d ≡ Some s)
    of_kind x g (inl k) = l.has_shared n (inl (ap (λ (o : Option DirLine). option_map_or (λ l. same_kind kind.Shared l.kind) o false) g ∙ k))
    of_kind x g (inr k) = l.has_shared n (inr (ap (λ (o : Option DirLine). option_map_or (λ l. same_kind kind.Mixed l.kind) o false) g ∙ k))

    at : (o : Option DirLine) → slice_get d.dirs n ≡ o → is_due_case d n (case.Ask Write Sharer) ≡ true → (s : ℕ) × (shared d ≡ Some s)
    at None g due =
        absurd (not_both (is_due_case d n (case.Ask Write Sharer)) due
        (ap (λ (o : Option DirLine). list_any (same_case (case.Ask Write Sharer)) (option_map_or (λ l. due_cases l.kind (lists_read_owner d l.beside)) o [])) g))
    at (Some x) g due =
        of_kind x g (sharer_kind x.kind (lists_read_owner d x.beside)
        (subst (λ (o : Option DirLine). list_any (same_case (case.Ask Write Sharer)) (option_map_or (λ l. due_cases l.kind (lists_read_owner d l.beside)) o []) ≡ true) g due))

-- a READ that memory answers ends
pub read_memory_ends : (d : Draft) → HasShape d → HasCores d → (n m : ℕ) (r : RowLine) → dir_row d n (case.Ask Read Other) ≡ Some r
    → action_in r.form ≡ Some (action.Reply m) → (s : ℕ) × (requestor_final d Load Other m ≡ Some s)
read_memory_ends d h cores n m r e does = load_ends d h cores m (load_may_get d m (brought d h n Read Other r (action.Reply m) m e does (eq-eqb m m refl)))

-- a READ that an owner answers ends
pub read_passed_ends : (d : Draft) → HasShape d → HasTakes d → HasCores d → (n f x : ℕ) (r : RowLine) (t : TakeLine) (m : ℕ) → dir_row d n (case.Ask Read Other) ≡ Some r
    → action_in r.form ≡ Some (action.Forward f) → take_row d x f ≡ Some t → t.reply ≡ Some m → lists d n x ≡ true → (s : ℕ) × (requestor_final_by d Load Other f x ≡ Some s)
read_passed_ends d h takes cores n f x r t m e does row answer at =
    let a = answers d takes n f x t m row answer at in
    let (s, g) = load_ends d h cores a.reply (load_may_get d a.reply (brought d h n Read Other r (action.Forward f) a.reply e does a.brings)) in
    (s, by_answer d Load Other f x a.reply s a.to g)

-- a WRITE that memory answers ends
pub write_memory_ends : (d : Draft) → HasShape d → HasLists d → HasRows d → HasCores d → (n m : ℕ) (w : Who) (r : RowLine) → dir_row d n (case.Ask Write w) ≡ Some r
    → action_in r.form ≡ Some (action.Reply m) → (s : ℕ) × (requestor_final d Store w m ≡ Some s)
write_memory_ends d h l rows cores n m Other r e does =
    store_ends_other d h cores m (store_may_get d Other m (brought d h n Write Other r (action.Reply m) m e does (eq-eqb m m refl)))
write_memory_ends d h l rows cores n m Sharer r e does =
    let (o, is_shared) = has_sharers d h l n r e in
    store_ends_sharer d h cores m o is_shared (store_may_get d Sharer m (brought d h n Write Sharer r (action.Reply m) m e does (eq-eqb m m refl)))
write_memory_ends d h l rows cores n m Owner r e does = absurd (cc (rows.upgrade n r e, does))

-- a WRITE that an owner answers ends
pub write_passed_ends : (d : Draft) → HasShape d → HasLists d → HasTakes d → HasRows d → HasCores d → (n f x : ℕ) (w : Who) (r : RowLine) (t : TakeLine) (m : ℕ)
    → dir_row d n (case.Ask Write w) ≡ Some r → action_in r.form ≡ Some (action.Forward f) → take_row d x f ≡ Some t → t.reply ≡ Some m → lists d n x ≡ true
    → (s : ℕ) × (requestor_final_by d Store w f x ≡ Some s)
write_passed_ends d h l takes rows cores n f x Other r t m e does row answer at =
    let a = answers d takes n f x t m row answer at in
    let (s, g) = store_ends_other d h cores a.reply (store_may_get d Other a.reply (brought d h n Write Other r (action.Forward f) a.reply e does a.brings)) in
    (s, by_answer d Store Other f x a.reply s a.to g)
write_passed_ends d h l takes rows cores n f x Sharer r t m e does row answer at =
    let a = answers d takes n f x t m row answer at in
    let (o, is_shared) = has_sharers d h l n r e in
    let (s, g) = store_ends_sharer d h cores a.reply o is_shared (store_may_get d Sharer a.reply (brought d h n Write Sharer r (action.Forward f) a.reply e does a.brings)) in
    (s, by_answer d Store Sharer f x a.reply s a.to g)
write_passed_ends d h l takes rows cores n f x Owner r t m e does row answer at = absurd (cc (rows.upgrade n r e, does))

-- a store of an owner that may only read ends
pub upgrade_ends : (d : Draft) → HasShape d → HasCores d → (x : ℕ) → cache_is is_read_owner d x ≡ true → (s : ℕ) × (owner_store_final d x ≡ Some s)
upgrade_ends d h cores x reader =
    let (c, e, p) = map_or_get is_read_owner (slice_get d.caches x) reader in
    let (y, row) = has_core_row d h x Store (slice_get_within d.caches x c e) (λ at. absurd (no_evict Store (inr refl) at)) in
    let (s, f) = cores.store_count x y reader row in
    (s, ap (λ (o : Option CoreLine). option_and_then (λ c. final_under reply.AckCount c.form) o) row ∙ f)
