-- Where row lines lead.
use Rattle.std.proofs.Common.{◌≡◌, ℕ, ◌⊎◌, Bool, true, not, ◌&&◌, ◌||◌, List, Option, Some, None, refl, sym, subst, inl, inr, ap, ◌∙◌}
use Rattle.std.specs.Prelude.{slice_get}
use Rattle.std.specs.Option.{option_and_then}
use Rattle.std.proofs.lemmas.Bool.{and_parts, not-false, or_cases}
use Rattle.pg_perm.specs.declared.kinds.Event.TheVariants.{Load, Store}
use Rattle.pg_perm.specs.declared.kinds.DirKind.TheVariants as kind
use Rattle.pg_perm.specs.declared.kinds.Who.{Who}
use Rattle.pg_perm.specs.declared.kinds.Who.TheVariants.{Other, Sharer, Owner}
use Rattle.pg_perm.specs.declared.kinds.Left.{Left}
use Rattle.pg_perm.specs.declared.kinds.Left.TheVariants.{Last, More}
use Rattle.pg_perm.specs.declared.kinds.ReqClass.{ReqClass}
use Rattle.pg_perm.specs.declared.kinds.ReqClass.TheVariants.{Read, Write}
use Rattle.pg_perm.specs.declared.kinds.FwdClass.TheVariants.{Share, Keep, Drop}
use Rattle.pg_perm.specs.declared.draft.Draft.{Draft}
use Rattle.pg_perm.specs.declared.draft.RowLine.{RowLine}
use Rattle.pg_perm.specs.declared.draft.RowForm.{RowForm}
use Rattle.pg_perm.specs.declared.draft.RowForm.TheVariants as form
use Rattle.pg_perm.specs.declared.draft.Action.{Action}
use Rattle.pg_perm.specs.declared.draft.Action.TheVariants as action
use Rattle.pg_perm.specs.declared.fault.Rule.TheVariants.{S17}
use Rattle.pg_terms.specs.declared.cases.DirCase.TheVariants as case
use Rattle.pg_terms.specs.Terms.{is, is_owner, is_read_owner, cache_is, shared, request_of, has_class, listed_states, lists, dir_row, keep_of}
use Rattle.pg_terms.specs.Due.{kind_is, forward_in}
use Rattle.pg_shape.specs.NextRules.{requestor_final, requestor_final_by, owner_store_final, lists_owner, is_read_end, is_shared_by, is_kept, is_owner_by, is_listed_by, is_upgrade_listed, are_shared, are_kept, are_owners, are_listed, are_upgraded, lists_each, leads_to_shared, leads_to_mixed, leads_to_owned, reads_rightly, lists_writer, writes_rightly, keeps_owner, leaves_rightly, evicts_rightly, leads_rightly}
use Rattle.pg_terms.specs.Rows.{reply_to, action_in}
use Rattle.pg_shape.specs.ShapeFaults.{HasShape}
use Rattle.pg_shape.specs.Shaped.{HasLists, HasTakes, HasRows, HasReads, HasWrites, HasEvicts, HasCores}
use Rattle.pg_shape.proofs.Bools.{three_and, where_so}
use Rattle.pg_shape.proofs.Shaped.{row_keeps, is_then_some}
use Rattle.pg_shape.proofs.Takes.{answered}
use Rattle.pg_shape.proofs.Finals.{read_memory_ends, read_passed_ends, write_memory_ends, write_passed_ends, upgrade_ends}
use Rattle.pg_shape.proofs.Rows.{IsAskRow, ask_row, same_action, listed_all, row_at, evict_form, passing}

-- the row of a request that is passed on is a row line that passes it on
passed_at : (d : Draft) → HasShape d → (n : ℕ) (class : ReqClass) (w : Who) (r : RowLine) (f : ℕ) → dir_row d n (case.Ask class w) ≡ Some r
    → action_in r.form ≡ Some (action.Forward f) → (k : ℕ) × (slice_get d.rows k ≡ Some r) × (r.dir ≡ n) × (forward_in r.form ≡ Some f)
passed_at d h n class w r f e does =
    let a = ask_row d h n class w r e in
    let (k, g, dir, is_for) = row_at d n (case.Ask class w) r e in
    let same : a.does ≡ action.Forward f = same_action d n class w r a (action.Forward f) does in
    (k, g, dir, ap forward_in a.spelled ∙ ap (λ (x : Action). forward_in (form.Ask a.request w x)) same)

-- a READ's row leads where its action says
read_leads : (d : Draft) (n : ℕ) (w : Who) (r : RowLine) (a : IsAskRow d n Read w r) (x : Action) → action_in r.form ≡ Some x → reads_rightly d r w x ≡ true
read_leads d n w r a x e =
    let all = (and_parts (not (is (request_of d Read) a.request) || reads_rightly d r w a.does) (not (is (request_of d Write) a.request) || writes_rightly d r w a.does) a.leads).0 in
    subst (λ (y : Action). reads_rightly d r w y ≡ true) (same_action d n Read w r a x e) (where_so (is (request_of d Read) a.request) (reads_rightly d r w a.does) all a.asks)

-- and so does a WRITE's
write_leads : (d : Draft) (n : ℕ) (w : Who) (r : RowLine) (a : IsAskRow d n Write w r) → writes_rightly d r w a.does ≡ true
write_leads d n w r a =
    let all = (and_parts (not (is (request_of d Read) a.request) || reads_rightly d r w a.does) (not (is (request_of d Write) a.request) || writes_rightly d r w a.does) a.leads).1 in
    where_so (is (request_of d Write) a.request) (writes_rightly d r w a.does) all a.asks

-- the list of the directory state that the row is of
at_dir : (d : Draft) (n : ℕ) (p : List ℕ → Bool) (r : RowLine) → r.dir ≡ n → p (listed_states d r.dir) ≡ true → p (listed_states d n) ≡ true
at_dir d n p r e h = subst (λ m. p (listed_states d m) ≡ true) e h

read_memory : (d : Draft) → HasShape d → (n m s : ℕ) (r : RowLine) → dir_row d n (case.Ask Read Other) ≡ Some r → action_in r.form ≡ Some (action.Reply m)
    → requestor_final d Load Other m ≡ Some s
    → ((kind_is kind.Shared d r.next ≡ true) × (shared d ≡ Some s))
    ⊎ ((kind_is kind.Idle d n ≡ true) × (kind_is kind.Owned d r.next ≡ true) × (lists d r.next s ≡ true) × (cache_is (λ c. is_owner c.role) d s ≡ true))
read_memory d h n m s r e does fin =
    let a = ask_row d h n Read Other r e in
    let ends : is_read_end d r s ≡ true = passing (is_read_end d r) (requestor_final d Load Other m) s (read_leads d n Other r a (action.Reply m) does) fin in
    at a.dir (or_cases (kind_is kind.Shared d r.next && is (shared d) s) (kind_is kind.Idle d r.dir && kind_is kind.Owned d r.next && lists_owner d r.next s) ends)
  where
    at : r.dir ≡ n → ((kind_is kind.Shared d r.next && is (shared d) s) ≡ true) ⊎ ((kind_is kind.Idle d r.dir && kind_is kind.Owned d r.next && lists_owner d r.next s) ≡ true)
        → ((kind_is kind.Shared d r.next ≡ true) × (shared d ≡ Some s))
        ⊎ ((kind_is kind.Idle d n ≡ true) × (kind_is kind.Owned d r.next ≡ true) × (lists d r.next s ≡ true) × (cache_is (λ c. is_owner c.role) d s ≡ true))
    at dir (inl p) = let q = and_parts (kind_is kind.Shared d r.next) (is (shared d) s) p in inl (q.0, is_then_some (shared d) s q.1)
    at dir (inr p) =
        let q = three_and (kind_is kind.Idle d r.dir) (kind_is kind.Owned d r.next) (lists_owner d r.next s) p in
        let o = and_parts (lists d r.next s) (cache_is (λ c. is_owner c.role) d s) q.2 in
        inr (subst (λ k. kind_is kind.Idle d k ≡ true) dir q.0, q.1, o.0, o.1)

-- the parts of what a READ that is passed on leads to
read_parts : (d : Draft) → HasShape d → (n f : ℕ) (r : RowLine) → dir_row d n (case.Ask Read Other) ≡ Some r → action_in r.form ≡ Some (action.Forward f)
    → (r.dir ≡ n) × ((not (has_class Share d f) || leads_to_shared d r Other f) ≡ true) × ((not (has_class Keep d f) || leads_to_mixed d r Other f) ≡ true)
    × ((not (has_class Drop d f) || leads_to_owned d r Other f) ≡ true)
read_parts d h n f r e does =
    let a = ask_row d h n Read Other r e in
    let q = three_and (not (has_class Share d f) || leads_to_shared d r Other f) (not (has_class Keep d f) || leads_to_mixed d r Other f)
    (not (has_class Drop d f) || leads_to_owned d r Other f) (read_leads d n Other r a (action.Forward f) does) in
    (a.dir, q.0, q.1, q.2)

-- where all loads that the listed owners answer end shared, one does
shared_by : (d : Draft) (n f x s : ℕ) (r : RowLine) → r.dir ≡ n → are_shared d Other f (listed_states d r.dir) ≡ true → lists d n x ≡ true
    → requestor_final_by d Load Other f x ≡ Some s → shared d ≡ Some s
shared_by d n f x s r dir all at fin =
    let one : is_shared_by d Other f x ≡ true = listed_all (is_shared_by d Other f) d n x (at_dir d n (are_shared d Other f) r dir all) at in
    is_then_some (shared d) s (passing (is (shared d)) (requestor_final_by d Load Other f x) s one fin)

pub shape_gives_reads : (d : Draft) → HasShape d → HasLists d → HasTakes d → HasCores d → HasReads d
shape_gives_reads d h l takes cores = record {
  memory_final = read_memory_ends d h cores;
  passed_final = λ n f x r e does at.
      let (k, g, dir, passed) = passed_at d h n Read Other r f e does in
      let (t, m, row, answer) = answered d h l takes n f x k r g dir passed at in
      read_passed_ends d h takes cores n f x r t m e does row answer at;
  memory = read_memory d h;
  share = λ n f r e does class.
      let p = read_parts d h n f r e does in
      let q = and_parts (kind_is kind.Shared d r.next) (are_shared d Other f (listed_states d r.dir)) (where_so (has_class Share d f) (leads_to_shared d r Other f) p.1 class) in
      (q.0, λ x s at fin. shared_by d n f x s r p.0 q.1 at fin);
  keep = λ n f r e does class.
      let p = read_parts d h n f r e does in
      let q = three_and (kind_is kind.Mixed d r.next) (are_kept d r.next (listed_states d r.dir)) (are_shared d Other f (listed_states d r.dir))
      (where_so (has_class Keep d f) (leads_to_mixed d r Other f) p.2 class) in (
        q.0,
        λ x s at kept. passing (lists d r.next) (keep_of d x) s (listed_all (is_kept d r.next) d n x (at_dir d n (are_kept d r.next) r p.0 q.1) at) kept,
        λ x s at fin. shared_by d n f x s r p.0 q.2 at fin,
      );
  drop = λ n f r e does class.
      let p = read_parts d h n f r e does in
      let q = and_parts (kind_is kind.Owned d r.next) (are_owners d Other r.next f (listed_states d r.dir)) (where_so (has_class Drop d f) (leads_to_owned d r Other f) p.3 class) in
      (q.0, λ x s at fin. owner_by n f x s r p.0 q.1 at fin);
}
  where
    owner_by : (n f x s : ℕ) (r : RowLine) → r.dir ≡ n → are_owners d Other r.next f (listed_states d r.dir) ≡ true → lists d n x ≡ true → requestor_final_by d Load Other f x ≡ Some s
        → (lists d r.next s ≡ true) × (cache_is (λ c. is_owner c.role) d s ≡ true)
    owner_by n f x s r dir all at fin =
        let one : is_owner_by d Other r.next f x ≡ true = listed_all (is_owner_by d Other r.next f) d n x (at_dir d n (are_owners d Other r.next f) r dir all) at in
        and_parts (lists d r.next s) (cache_is (λ c. is_owner c.role) d s) (passing (lists_owner d r.next) (requestor_final_by d Load Other f x) s one fin)

-- a WRITE leads to an owned state
write_owned : (d : Draft) → HasShape d → (n : ℕ) (w : Who) (r : RowLine) → dir_row d n (case.Ask Write w) ≡ Some r → kind_is kind.Owned d r.next ≡ true
write_owned d h n Other r e = let a = ask_row d h n Write Other r e in (and_parts (kind_is kind.Owned d r.next) (lists_writer d r Other a.does) (write_leads d n Other r a)).0
write_owned d h n Sharer r e = let a = ask_row d h n Write Sharer r e in (and_parts (kind_is kind.Owned d r.next) (lists_writer d r Sharer a.does) (write_leads d n Sharer r a)).0
write_owned d h n Owner r e =
    let a = ask_row d h n Write Owner r e in
    (and_parts (kind_is kind.Owned d r.next) (are_upgraded d r.next (listed_states d r.dir)) (write_leads d n Owner r a)).0

-- the WRITE of another, or of a sharer, leads to a state that lists where it ends
writer_listed : (d : Draft) → HasShape d → (n : ℕ) (w : Who) (r : RowLine) (x : Action) → dir_row d n (case.Ask Write w) ≡ Some r → action_in r.form ≡ Some x
    → (w ≡ Other) ⊎ (w ≡ Sharer) → (r.dir ≡ n) × (lists_writer d r w x ≡ true)
writer_listed d h n w r x e does k = let a = ask_row d h n Write w r e in (a.dir, subst (λ (y : Action). lists_writer d r w y ≡ true) (same_action d n Write w r a x does) (at w (write_leads d n w r a) k))
  where
    at : (v : Who) → writes_rightly d r v (ask_row d h n Write w r e).does ≡ true → (v ≡ Other) ⊎ (v ≡ Sharer) → lists_writer d r v (ask_row d h n Write w r e).does ≡ true
    at Other p k = (and_parts (kind_is kind.Owned d r.next) (lists_writer d r Other (ask_row d h n Write w r e).does) p).1
    at Sharer p k = (and_parts (kind_is kind.Owned d r.next) (lists_writer d r Sharer (ask_row d h n Write w r e).does) p).1
    at Owner p (inl k) = absurd cc
    at Owner p (inr k) = absurd cc

write_memory : (d : Draft) → HasShape d → (n m s : ℕ) (w : Who) (r : RowLine) → dir_row d n (case.Ask Write w) ≡ Some r → action_in r.form ≡ Some (action.Reply m)
    → requestor_final d Store w m ≡ Some s → lists d r.next s ≡ true
write_memory d h n m s Other r e does fin = passing (lists d r.next) (requestor_final d Store Other m) s (writer_listed d h n Other r (action.Reply m) e does (inl refl)).1 fin
write_memory d h n m s Sharer r e does fin = passing (lists d r.next) (requestor_final d Store Sharer m) s (writer_listed d h n Sharer r (action.Reply m) e does (inr refl)).1 fin
write_memory d h n m s Owner r e does fin = absurd cc

no_final : (d : Draft) (o : Option ℕ) (s : ℕ) → option_and_then (requestor_final d Store Owner) o ≡ Some s → ⊥
no_final d None s e = absurd cc
no_final d (Some m) s e = absurd cc

write_passed : (d : Draft) → HasShape d → (n f x s : ℕ) (w : Who) (r : RowLine) → dir_row d n (case.Ask Write w) ≡ Some r → action_in r.form ≡ Some (action.Forward f)
    → lists d n x ≡ true → requestor_final_by d Store w f x ≡ Some s → lists d r.next s ≡ true
write_passed d h n f x s Other r e does at fin =
    let p = writer_listed d h n Other r (action.Forward f) e does (inl refl) in
    passing (lists d r.next) (requestor_final_by d Store Other f x) s (listed_all (is_listed_by d Other r.next f) d n x (at_dir d n (are_listed d Other r.next f) r p.0 p.1) at) fin
write_passed d h n f x s Sharer r e does at fin =
    let p = writer_listed d h n Sharer r (action.Forward f) e does (inr refl) in
    passing (lists d r.next) (requestor_final_by d Store Sharer f x) s (listed_all (is_listed_by d Sharer r.next f) d n x (at_dir d n (are_listed d Sharer r.next f) r p.0 p.1) at) fin
write_passed d h n f x s Owner r e does at fin = absurd (no_final d (reply_to d x f) s fin)

pub shape_gives_writes : (d : Draft) → HasShape d → HasLists d → HasTakes d → HasRows d → HasCores d → HasWrites d
shape_gives_writes d h l takes rows cores = record {
  owned = write_owned d h;
  memory = write_memory d h;
  passed = write_passed d h;
  upgrade = upgraded;
  memory_final = write_memory_ends d h l rows cores;
  passed_final = λ n f x w r e does at.
      let (k, g, dir, passed) = passed_at d h n Write w r f e does in
      let (t, m, row, answer) = answered d h l takes n f x k r g dir passed at in
      write_passed_ends d h l takes rows cores n f x w r t m e does row answer at;
  upgrade_final = upgrade_ends d h cores;
}
  where
    upgraded : (n x s : ℕ) (r : RowLine) → dir_row d n (case.Ask Write Owner) ≡ Some r → lists d n x ≡ true → cache_is is_read_owner d x ≡ true
        → owner_store_final d x ≡ Some s → lists d r.next s ≡ true
    upgraded n x s r e at reader fin =
        let a = ask_row d h n Write Owner r e in
        let all = (and_parts (kind_is kind.Owned d r.next) (are_upgraded d r.next (listed_states d r.dir)) (write_leads d n Owner r a)).1 in
        let one : is_upgrade_listed d r.next x ≡ true = listed_all (is_upgrade_listed d r.next) d n x (at_dir d n (are_upgraded d r.next) r a.dir all) at in
        where_so (cache_is is_read_owner d x) (lists d r.next s) (passing (λ t. not (cache_is is_read_owner d x) || lists d r.next t) (owner_store_final d x) s one fin) reader

-- an evict's row leads where it may
evict_leads : (d : Draft) → HasShape d → (n : ℕ) (w : Who) (l : Left) (r : RowLine) → dir_row d n (case.Evict w l) ≡ Some r → (r.dir ≡ n) × (evicts_rightly d r w l ≡ true)
evict_leads d h n w l r e =
    let (k, g, dir, for) = row_at d n (case.Evict w l) r e in
    let leads : leads_rightly d r r.form ≡ true = not-false (leads_rightly d r r.form) (row_keeps d h k r g S17) in
    (dir, subst (λ (x : RowForm). leads_rightly d r x ≡ true) (evict_form d r.form w l for) leads)

-- of a sharer, where there is no owner and where there is one
sharer_leads : (d : Draft) → HasShape d → (n : ℕ) (l : Left) (r : RowLine) → dir_row d n (case.Evict Sharer l) ≡ Some r
    → (r.dir ≡ n) × (kind_is kind.Shared d n ≡ true → leaves_rightly d r l ≡ true) × (kind_is kind.Mixed d n ≡ true → keeps_owner d r l ≡ true)
sharer_leads d h n l r e =
    let p = evict_leads d h n Sharer l r e in
    let q = and_parts (not (kind_is kind.Shared d r.dir) || leaves_rightly d r l) (not (kind_is kind.Mixed d r.dir) || keeps_owner d r l) p.1 in (
      p.0,
      λ k. where_so (kind_is kind.Shared d r.dir) (leaves_rightly d r l) q.0 (subst (λ m. kind_is kind.Shared d m ≡ true) (sym p.0) k),
      λ k. where_so (kind_is kind.Mixed d r.dir) (keeps_owner d r l) q.1 (subst (λ m. kind_is kind.Mixed d m ≡ true) (sym p.0) k),
    )

pub shape_gives_evicts : (d : Draft) → HasShape d → HasEvicts d
shape_gives_evicts d h = record {
  owner_last = λ n r e. (evict_leads d h n Owner Last r e).1;
  owner_more = λ n r e. (evict_leads d h n Owner More r e).1;
  shared_last = λ n r e k. (sharer_leads d h n Last r e).1 k;
  shared_more = λ n r e k. (sharer_leads d h n More r e).1 k;
  mixed_last = λ n r e k.
      let p = sharer_leads d h n Last r e in
      let q = and_parts (kind_is kind.Mixed d r.next || kind_is kind.Owned d r.next) (lists_each d r.next (listed_states d r.dir)) (p.2 k) in
      (or_cases (kind_is kind.Mixed d r.next) (kind_is kind.Owned d r.next) q.0, λ x at. each n r p.0 q.1 x at);
  mixed_more = λ n r e k.
      let p = sharer_leads d h n More r e in
      let q = and_parts (kind_is kind.Mixed d r.next) (lists_each d r.next (listed_states d r.dir)) (p.2 k) in
      (q.0, λ x at. each n r p.0 q.1 x at);
}
  where
    each : (n : ℕ) (r : RowLine) → r.dir ≡ n → lists_each d r.next (listed_states d r.dir) ≡ true → (x : ℕ) → lists d n x ≡ true → lists d r.next x ≡ true
    each n r dir all x at = listed_all (lists d r.next) d n x (at_dir d n (lists_each d r.next) r dir all) at
