-- What the shape says of take lines.
use Rattle.std.proofs.Common.{◌≡◌, ℕ, ◌⊎◌, Bool, true, false, not, ◌&&◌, ◌||◌, [], Option, Some, None, refl, sym, subst, ap, ◌∙◌, inl, inr}
use Rattle.std.specs.Prelude.{slice_get, ◌==◌, is_none, is_some}
use Rattle.std.specs.Option.{option_map, option_map_or, option_and_then}
use Rattle.std.specs.List.{list_any}
use Rattle.std.proofs.lemmas.Bool.{or_parts, eqb-true, eq-eqb, and_parts, and_from, not-false}
use Rattle.std.proofs.lemmas.Option.{same_Some}
use Rattle.pg_perm.specs.declared.kinds.DirKind.{DirKind}
use Rattle.pg_perm.specs.declared.kinds.DirKind.TheVariants as kind
use Rattle.pg_perm.specs.declared.kinds.Who.{Who}
use Rattle.pg_perm.specs.declared.kinds.Who.TheVariants.{Other, Sharer, Owner}
use Rattle.pg_perm.specs.declared.kinds.ReqClass.{ReqClass}
use Rattle.pg_perm.specs.declared.kinds.ReqClass.TheVariants.{Read, Write}
use Rattle.pg_perm.specs.declared.kinds.FwdClass.{FwdClass}
use Rattle.pg_perm.specs.declared.kinds.FwdClass.TheVariants.{Inv, Share, Keep, Drop}
use Rattle.pg_perm.specs.declared.draft.Draft.{Draft}
use Rattle.pg_perm.specs.declared.draft.DirLine.{DirLine}
use Rattle.pg_perm.specs.declared.draft.TakeLine.{TakeLine}
use Rattle.pg_perm.specs.declared.draft.RowLine.{RowLine}
use Rattle.pg_perm.specs.declared.draft.RowForm.{RowForm}
use Rattle.pg_perm.specs.declared.draft.RowForm.TheVariants as form
use Rattle.pg_perm.specs.declared.draft.Action.TheVariants as action
use Rattle.pg_perm.specs.declared.fault.Rule.TheVariants.{S12, S14, S15, S16}
use Rattle.pg_terms.specs.declared.cases.DirCase.{DirCase}
use Rattle.pg_terms.specs.declared.cases.DirCase.TheVariants as case
use Rattle.pg_terms.specs.Terms.{is, is_other, is_owner, is_read_owner, is_forward_of, cache_is, out, shared, request_of, forward_of, has_class, listed_states, lists, take_row, is_case, same_who, keep_of}
use Rattle.pg_terms.specs.Due.{same_kind, kind_is, forward_in, is_to_owner, is_passed_to, is_due, cases_at, same_case, is_due_case}
use Rattle.pg_shape.specs.DirRules.{has_no_owner}
use Rattle.pg_shape.specs.TakeRules.{invalidates_wrongly, shares_wrongly, keeps_wrongly, drops_wrongly, answers_wrongly, takes_wrongly, keeps_moving}
use Rattle.pg_terms.specs.Rows.{may_keep}
use Rattle.pg_shape.specs.RowRules.{is_reply, reads_by, writes_by, acts_wrongly}
use Rattle.pg_shape.specs.ShapeFaults.{HasShape}
use Rattle.pg_shape.specs.Shaped.{HasTakes, HasLists}
use Rattle.pg_terms.proofs.Same.{case_same}
use Rattle.pg_shape.proofs.Bools.{three_not, and_not, or_of_either, one_three, three_both}
use Rattle.pg_shape.proofs.Searches.{any_get, any_at, find_get, position_get, some_of, not_both}
use Rattle.pg_shape.proofs.Shaped.{take_keeps, row_keeps, is_then_some, due_class_of}
use Rattle.pg_shape.proofs.MissingTakes.{due_has_take}

-- the row of a pair is a take line for it, which breaks no rule
taken : (d : Draft) → HasShape d → (s f : ℕ) (t : TakeLine) → take_row d s f ≡ Some t
    → (t.state ≡ s) × (t.forward ≡ f) × (answers_wrongly d t ≡ false) × (keeps_moving d t ≡ false)
taken d h s f t e =
    let (k, g, p) = find_get (λ t. (t.state == s) && (t.forward == f)) d.takes t e in
    let q = and_parts (t.state == s) (t.forward == f) p in
    let wrong : takes_wrongly d t ≡ false = take_keeps d h k t g S12 in
    (eqb-true t.state s q.0, eqb-true t.forward f q.1, (or_parts (not (is_due d t.state t.forward)) (answers_wrongly d t) wrong).1, take_keeps d h k t g S14)

-- of four points that all are not so, each isn't
four_not : (a b c e w x y z : Bool) → ((a && w) || (b && x) || (c && y) || (e && z)) ≡ false
    → ((a && w) ≡ false) × ((b && x) ≡ false) × ((c && y) ≡ false) × ((e && z) ≡ false)
four_not a b c e w x y z h = at (a && w) (b && x) (c && y) (e && z) h
  where
    at : (p q r s : Bool) → (p || q || r || s) ≡ false → (p ≡ false) × (q ≡ false) × (r ≡ false) × (s ≡ false)
    at true q r s h = absurd cc
    at false true r s h = absurd cc
    at false false true s h = absurd cc
    at false false false s h = (refl, refl, refl, h)

answering : (d : Draft) (t : TakeLine) → answers_wrongly d t ≡ false
    → ((has_class Inv d t.forward && invalidates_wrongly d t) ≡ false) × ((has_class Share d t.forward && shares_wrongly d t) ≡ false)
    × ((has_class Keep d t.forward && keeps_wrongly d t) ≡ false) × ((has_class Drop d t.forward && drops_wrongly d t) ≡ false)
answering d t h = four_not (has_class Inv d t.forward) (has_class Share d t.forward) (has_class Keep d t.forward) (has_class Drop d t.forward)
    (invalidates_wrongly d t) (shares_wrongly d t) (keeps_wrongly d t) (drops_wrongly d t) h

of_class : (d : Draft) (class : FwdClass) (f g : ℕ) → g ≡ f → has_class class d f ≡ true → has_class class d g ≡ true
of_class d class f g e h = subst (λ n. has_class class d n ≡ true) (sym e) h

-- where there is one, and it isn't another, it is this one
this_one : (o : Option ℕ) (m n : ℕ) → o ≡ Some m → is_other o n ≡ false → o ≡ Some n
this_one None m n e h = absurd cc
this_one (Some k) m n e h = ap Some (eqb-true k n (not-false (k == n) h))

is_none-some : (o : Option ℕ) → is_none o ≡ false → (m : ℕ) × (o ≡ Some m)
is_none-some None h = absurd cc
is_none-some (Some m) h = (m, refl)

none_of : (o : Option ℕ) → is_some o ≡ false → o ≡ None
none_of None h = refl
none_of (Some m) h = absurd cc

-- keep leads on to the state that it stays in
keep_row : (d : Draft) (s t : ℕ) → keep_of d s ≡ Some t → (f : ℕ) × (x : TakeLine) × (forward_of d Keep ≡ Some f) × (take_row d s f ≡ Some x) × (x.next ≡ t)
keep_row d s t e = at (forward_of d Keep) refl e
  where
    next : (o : Option TakeLine) → option_map (λ x. x.next) o ≡ Some t → (x : TakeLine) × (o ≡ Some x) × (x.next ≡ t)
    next None e = absurd cc
    next (Some x) e = (x, refl, same_Some x.next t e)

    at : (o : Option ℕ) → forward_of d Keep ≡ o → option_map (λ x. x.next) (option_and_then (λ f. take_row d s f) o) ≡ Some t
        → (f : ℕ) × (x : TakeLine) × (forward_of d Keep ≡ Some f) × (take_row d s f ≡ Some x) × (x.next ≡ t)
    at None g e = absurd cc
    at (Some f) g e = let (x, r, n) = next (take_row d s f) e in (f, x, g, r, n)

-- where the keep forward may come, it leads somewhere
keep_some : (d : Draft) → HasShape d → (s f : ℕ) → forward_of d Keep ≡ Some f → is_due d s f ≡ true → (t : ℕ) × (keep_of d s ≡ Some t)
keep_some d h s f e due =
    let (x, r) = some_of (take_row d s f) (due_has_take d h s f due) in
    (x.next, ap (λ (o : Option ℕ). option_map (λ x. x.next) (option_and_then (λ g. take_row d s g) o)) e ∙ ap (λ (o : Option TakeLine). option_map (λ x. x.next) o) r)

keep_class : (d : Draft) (f : ℕ) → forward_of d Keep ≡ Some f → has_class Keep d f ≡ true
keep_class d f e =
    let (m, g, class) = (position_get (λ m. is_forward_of Keep m.class) d.messages f e).1 in
    ap (λ o. option_map_or (λ m. is_forward_of Keep m.class) o false) g ∙ class

settled : (d : Draft) → HasShape d → (s t : ℕ) → keep_of d s ≡ Some t → may_keep d t ≡ true → keep_of d t ≡ Some t
settled d h s t e may =
    let (f, x, keep, row, next) = keep_row d s t e in
    let (state, forward, right, moves) = taken d h s f x row in
    let class = of_class d Keep f x.forward forward (keep_class d f keep) in
    let may_next : may_keep d x.next ≡ true = subst (λ n. may_keep d n ≡ true) (sym next) may in
    let stays : is_other (keep_of d x.next) x.next ≡ false = last_not (has_class Keep d x.forward) (may_keep d x.next) (is_other (keep_of d x.next) x.next) moves class may_next in
    let due : is_due d t f ≡ true = subst (λ o. option_map_or (is_due d t) o false ≡ true) keep may in
    let (u, kept) = keep_some d h t f keep due in
    this_one (keep_of d t) u t kept (subst (λ n. is_other (keep_of d n) n ≡ false) next stays)
  where
    last_not : (a b c : Bool) → (a && b && c) ≡ false → a ≡ true → b ≡ true → c ≡ false
    last_not true true c h e g = h
    last_not true false c h e g = absurd cc
    last_not false b c h e g = absurd cc

-- a directory state that lists a state has an owner
pub has_owner : (d : Draft) → HasLists d → (n s : ℕ) → lists d n s ≡ true → (kind_is kind.Owned d n ≡ true) ⊎ (kind_is kind.Mixed d n ≡ true)
has_owner d l n s at = by (slice_get d.dirs n) refl
  where
    empty : (x : DirLine) → slice_get d.dirs n ≡ Some x → has_no_owner x.kind ≡ true → ⊥
    empty x e k =
        let none : listed_states d n ≡ [] = ap (λ (o : Option DirLine). option_map_or (λ l. l.beside) o []) e ∙ l.lists_none n x e k in
        not_both (lists d n s) at (ap (λ states. list_any (λ y. y == s) states) none)

    of_kind : (x : DirLine) → slice_get d.dirs n ≡ Some x → (k : DirKind) → x.kind ≡ k → (kind_is kind.Owned d n ≡ true) ⊎ (kind_is kind.Mixed d n ≡ true)
    of_kind x e kind.Idle g = absurd (empty x e (ap has_no_owner g))
    of_kind x e kind.Shared g = absurd (empty x e (ap has_no_owner g))
    of_kind x e kind.Owned g = inl (ap (λ (o : Option DirLine). option_map_or (λ l. same_kind kind.Owned l.kind) o false) e ∙ ap (same_kind kind.Owned) g)
    of_kind x e kind.Mixed g = inr (ap (λ (o : Option DirLine). option_map_or (λ l. same_kind kind.Mixed l.kind) o false) e ∙ ap (same_kind kind.Mixed) g)

    by : (o : Option DirLine) → slice_get d.dirs n ≡ o → (kind_is kind.Owned d n ≡ true) ⊎ (kind_is kind.Mixed d n ≡ true)
    by None e =
        let none : listed_states d n ≡ [] = ap (λ (o : Option DirLine). option_map_or (λ l. l.beside) o []) e in
        absurd (not_both (lists d n s) at (ap (λ states. list_any (λ y. y == s) states) none))
    by (Some x) e = of_kind x e x.kind refl

-- what READ and WRITE pass on where there is an owner goes to it
to_owner_read : (d : Draft) (n f : ℕ) → reads_by d n (action.Forward f) ≡ true → (kind_is kind.Owned d n ≡ true) ⊎ (kind_is kind.Mixed d n ≡ true)
    → is_to_owner d f ≡ true
to_owner_read d n f h k = at (kind_is kind.Owned d n) (kind_is kind.Mixed d n) (has_class Share d f) (has_class Keep d f) (has_class Drop d f) h k
  where
    at : (o m s p q : Bool) → ((not o || s || p || q) && (not m || s || p)) ≡ true → (o ≡ true) ⊎ (m ≡ true) → (s || p || q) ≡ true
    at o m true p q h k = refl
    at o m false true q h k = refl
    at o m false false true h k = refl
    at true m false false false h k = absurd cc
    at false true false false false h k = absurd cc
    at false false false false false h (inl k) = absurd cc
    at false false false false false h (inr k) = absurd cc

to_owner_drop : (d : Draft) (n f : ℕ) → (not (kind_is kind.Owned d n || kind_is kind.Mixed d n) || has_class Drop d f) ≡ true
    → (kind_is kind.Owned d n ≡ true) ⊎ (kind_is kind.Mixed d n ≡ true) → is_to_owner d f ≡ true
to_owner_drop d n f h k = at (kind_is kind.Owned d n) (kind_is kind.Mixed d n) (has_class Share d f) (has_class Keep d f) (has_class Drop d f) h k
  where
    at : (o m s p q : Bool) → (not (o || m) || q) ≡ true → (o ≡ true) ⊎ (m ≡ true) → (s || p || q) ≡ true
    at o m true p q h k = refl
    at o m false true q h k = refl
    at o m false false true h k = refl
    at true m false false false h k = absurd cc
    at false true false false false h k = absurd cc
    at false false false false false h (inl k) = absurd cc
    at false false false false false h (inr k) = absurd cc

to_owner_write : (d : Draft) (n f : ℕ) (w : Who) → writes_by d n w (action.Forward f) ≡ true
    → (kind_is kind.Owned d n ≡ true) ⊎ (kind_is kind.Mixed d n ≡ true) → is_to_owner d f ≡ true
to_owner_write d n f Other h k = to_owner_drop d n f h k
to_owner_write d n f Sharer h k = to_owner_drop d n f h k
to_owner_write d n f Owner h k = absurd cc

-- what a row line passes on where there is an owner goes to it
to_owner : (d : Draft) → HasShape d → (n f k : ℕ) (r : RowLine) → slice_get d.rows k ≡ Some r → r.dir ≡ n → forward_in r.form ≡ Some f
    → (kind_is kind.Owned d n ≡ true) ⊎ (kind_is kind.Mixed d n ≡ true) → is_to_owner d f ≡ true
to_owner d h n f k r e dir passed kinds =
    let acts : acts_wrongly d n r.form ≡ false = subst (λ m. acts_wrongly d m r.form ≡ false) dir (row_keeps d h k r e S16) in
    let due : list_any (is_case d r.form) (cases_at d n) ≡ true =
    subst (λ m. list_any (is_case d r.form) (cases_at d m) ≡ true) dir (not-false (list_any (is_case d r.form) (cases_at d r.dir)) (row_keeps d h k r e S15)) in
    at r.form passed acts due
  where
    by : (request : ℕ) (w : Who) → acts_wrongly d n (form.Ask request w (action.Forward f)) ≡ false
        → (is (request_of d Read) request ≡ true) ⊎ (is (request_of d Write) request ≡ true) → is_to_owner d f ≡ true
    by request w acts which = by_class which (three_not ((kind_is kind.Idle d n || kind_is kind.Shared d n) && not (is_reply (action.Forward f)))
        (is (request_of d Read) request && not (reads_by d n (action.Forward f))) (is (request_of d Write) request && not (writes_by d n w (action.Forward f))) acts)
      where
        by_class : (is (request_of d Read) request ≡ true) ⊎ (is (request_of d Write) request ≡ true)
            → (((kind_is kind.Idle d n || kind_is kind.Shared d n) && not (is_reply (action.Forward f))) ≡ false)
            × ((is (request_of d Read) request && not (reads_by d n (action.Forward f))) ≡ false)
            × ((is (request_of d Write) request && not (writes_by d n w (action.Forward f))) ≡ false)
            → is_to_owner d f ≡ true
        by_class (inl q) parts =
            to_owner_read d n f (not-false (reads_by d n (action.Forward f)) (and_not (is (request_of d Read) request) (not (reads_by d n (action.Forward f))) parts.1 q)) kinds
        by_class (inr q) parts =
            to_owner_write d n f w (not-false (writes_by d n w (action.Forward f)) (and_not (is (request_of d Write) request) (not (writes_by d n w (action.Forward f))) parts.2 q)) kinds

    of_case : (request : ℕ) (w : Who) (a : DirCase) → is_case d (form.Ask request w (action.Forward f)) a ≡ true → is_due_case d n a ≡ true
        → (is (request_of d Read) request ≡ true) ⊎ (is (request_of d Write) request ≡ true)
    of_case request w (case.Evict v m) for due = absurd cc
    of_case request w (case.Ask c v) for due = at_class (due_class_of d n c v due) (and_parts (is (request_of d c) request) (same_who w v) for).0
      where
        at_class : (c ≡ Read) ⊎ (c ≡ Write) → is (request_of d c) request ≡ true → (is (request_of d Read) request ≡ true) ⊎ (is (request_of d Write) request ≡ true)
        at_class (inl q) p = inl (subst (λ (x : ReqClass). is (request_of d x) request ≡ true) q p)
        at_class (inr q) p = inr (subst (λ (x : ReqClass). is (request_of d x) request ≡ true) q p)

    at : (x : RowForm) → forward_in x ≡ Some f → acts_wrongly d n x ≡ false → list_any (is_case d x) (cases_at d n) ≡ true → is_to_owner d f ≡ true
    at (form.Ask request w (action.Reply m)) passed acts due = absurd cc
    at (form.Ask request w (action.Forward g)) passed acts due =
        let same : g ≡ f = same_Some g f passed in
        let (j, a, e, for) = any_get (is_case d (form.Ask request w (action.Forward g))) (cases_at d n) due in
        by request w (subst (λ x. acts_wrongly d n (form.Ask request w (action.Forward x)) ≡ false) same acts)
        (of_case request w a for (any_at (same_case a) (cases_at d n) j a e (case_same a)))
    at (form.Ask request w action.Count) passed acts due = absurd cc
    at (form.Evict w l) passed acts due = absurd cc

-- the pair that a row line passes on is due
passed_due : (d : Draft) → HasShape d → HasLists d → (n s f k : ℕ) (r : RowLine) → slice_get d.rows k ≡ Some r → r.dir ≡ n → forward_in r.form ≡ Some f → lists d n s ≡ true
    → is_due d s f ≡ true
passed_due d h l n s f k r e dir passed at =
    let owner = l.lists_owners n s at in
    let to = to_owner d h n f k r e dir passed (has_owner d l n s at) in
    let this : is_passed_to d s f r ≡ true =
    and_from (is (forward_in r.form) f) (lists d r.dir s) (ap (λ (o : Option ℕ). is o f) passed ∙ eq-eqb f f refl) (subst (λ m. lists d m s ≡ true) (sym dir) at) in
    or_of_either (is (shared d) s && is (forward_of d Inv) f) (cache_is (λ c. is_owner c.role) d s && is_to_owner d f && list_any (is_passed_to d s f) d.rows)
    (inr (three_both (cache_is (λ c. is_owner c.role) d s) (is_to_owner d f) (list_any (is_passed_to d s f) d.rows) owner to (any_at (is_passed_to d s f) d.rows k r e this)))

pub shape_gives_takes : (d : Draft) → HasShape d → HasLists d → (s : ℕ) × (out d ≡ Some s) → HasTakes d
shape_gives_takes d h l start = record {
  due = λ s f due. some_of (take_row d s f) (due_has_take d h s f due);
  passed = passed_due d h l;
  inv = λ s f t e class.
      let (state, forward, right, moves) = taken d h s f t e in
      let wrong = and_not (has_class Inv d t.forward) (invalidates_wrongly d t) (answering d t right).0 (of_class d Inv f t.forward forward class) in
      let parts = or_parts (is_some t.reply) (is_other (out d) t.next) wrong in
      (none_of t.reply parts.0, this_one (out d) start.0 t.next start.1 parts.1);
  share = λ s f t e class.
      let (state, forward, right, moves) = taken d h s f t e in
      let wrong = and_not (has_class Share d t.forward) (shares_wrongly d t) (answering d t right).1 (of_class d Share f t.forward forward class) in
      let parts = or_parts (is_none t.reply) (not (is (shared d) t.next)) wrong in
      (is_none-some t.reply parts.0, is_then_some (shared d) t.next (not-false (is (shared d) t.next) parts.1));
  keep = λ s f t e class.
      let (state, forward, right, moves) = taken d h s f t e in
      let wrong = and_not (has_class Keep d t.forward) (keeps_wrongly d t) (answering d t right).2 (of_class d Keep f t.forward forward class) in
      let parts = three_not (is_none t.reply) (not (cache_is is_read_owner d t.next)) (cache_is (λ c. c.clean) d t.next && not (cache_is (λ c. c.clean) d t.state)) wrong in (
        is_none-some t.reply parts.0,
        not-false (cache_is is_read_owner d t.next) parts.1,
        λ clean. subst (λ n. cache_is (λ c. c.clean) d n ≡ true) state
            (not-false (cache_is (λ c. c.clean) d t.state) (and_not (cache_is (λ c. c.clean) d t.next) (not (cache_is (λ c. c.clean) d t.state)) parts.2 clean)),
      );
  drop = λ s f t e class.
      let (state, forward, right, moves) = taken d h s f t e in
      let wrong = and_not (has_class Drop d t.forward) (drops_wrongly d t) (answering d t right).3 (of_class d Drop f t.forward forward class) in
      let parts = or_parts (is_none t.reply) (is_other (out d) t.next) wrong in
      (is_none-some t.reply parts.0, this_one (out d) start.0 t.next start.1 parts.1);
  settles = settled d h;
}

-- a listed owner answers what is passed on with a reply
pub answered : (d : Draft) → HasShape d → HasLists d → HasTakes d → (n f x k : ℕ) (r : RowLine) → slice_get d.rows k ≡ Some r → r.dir ≡ n
    → forward_in r.form ≡ Some f → lists d n x ≡ true → (t : TakeLine) × (m : ℕ) × (take_row d x f ≡ Some t) × (t.reply ≡ Some m)
answered d h l takes n f x k r e dir passed at =
    let (t, row) = takes.due x f (takes.passed n x f k r e dir passed at) in
    of_three t row (to_owner d h n f k r e dir passed (has_owner d l n x at))
  where
    by_class : (t : TakeLine) → take_row d x f ≡ Some t → (has_class Share d f ≡ true) ⊎ ((has_class Keep d f ≡ true) ⊎ (has_class Drop d f ≡ true))
        → (t : TakeLine) × (m : ℕ) × (take_row d x f ≡ Some t) × (t.reply ≡ Some m)
    by_class t row (inl c) = let p = (takes.share x f t row c).0 in (t, p.0, row, p.1)
    by_class t row (inr (inl c)) = let p = (takes.keep x f t row c).0 in (t, p.0, row, p.1)
    by_class t row (inr (inr c)) = let p = (takes.drop x f t row c).0 in (t, p.0, row, p.1)

    of_three : (t : TakeLine) → take_row d x f ≡ Some t → is_to_owner d f ≡ true → (t : TakeLine) × (m : ℕ) × (take_row d x f ≡ Some t) × (t.reply ≡ Some m)
    of_three t row to = by_class t row (one_three (has_class Share d f) (has_class Keep d f) (has_class Drop d f) to)
