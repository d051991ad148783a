-- What the shape says of row lines.
use Rattle.std.proofs.Common.{◌≡◌, ℕ, ◌⊎◌, Bool, true, false, not, ◌&&◌, ◌||◌, Option, Some, refl, sym, subst, ap, ◌∙◌}
use Rattle.std.specs.Prelude.{slice_get, ◌==◌}
use Rattle.std.specs.List.{list_all}
use Rattle.std.proofs.lemmas.Bool.{eqb-true, and_parts, not-false, or_cases}
use Rattle.std.proofs.lemmas.Option.{same_Some}
use Rattle.pg_perm.specs.declared.kinds.DirKind.TheVariants as kind
use Rattle.pg_perm.specs.declared.kinds.Who.{Who}
use Rattle.pg_perm.specs.declared.kinds.Who.TheVariants.{Other, Sharer, Owner}
use Rattle.pg_perm.specs.declared.kinds.Left.{Left}
use Rattle.pg_perm.specs.declared.kinds.ReqClass.{ReqClass}
use Rattle.pg_perm.specs.declared.kinds.ReqClass.TheVariants.{Read, Write}
use Rattle.pg_perm.specs.declared.kinds.FwdClass.{FwdClass}
use Rattle.pg_perm.specs.declared.kinds.FwdClass.TheVariants.{Share, Keep, Drop}
use Rattle.pg_perm.specs.declared.draft.Draft.{Draft}
use Rattle.pg_perm.specs.declared.draft.RowLine.{RowLine}
use Rattle.pg_perm.specs.declared.draft.RowForm.{RowForm}
use Rattle.pg_perm.specs.declared.draft.RowForm.TheVariants as form
use Rattle.pg_perm.specs.declared.draft.Action.{Action}
use Rattle.pg_perm.specs.declared.draft.Action.TheVariants as action
use Rattle.pg_perm.specs.declared.fault.Rule.TheVariants.{S16, S17}
use Rattle.pg_terms.specs.declared.cases.DirCase.{DirCase}
use Rattle.pg_terms.specs.declared.cases.DirCase.TheVariants as case
use Rattle.pg_terms.specs.Terms.{is, request_of, same_who, same_left, has_class, listed_states, lists, is_case, dir_row}
use Rattle.pg_terms.specs.Due.{kind_is}
use Rattle.pg_terms.proofs.Same.{who_equal, left_equal}
use Rattle.pg_shape.specs.RowRules.{is_reply, is_count, forwards_by_class, reads_by, writes_by, acts_wrongly}
use Rattle.pg_shape.specs.NextRules.{is_none_or, leads_rightly}
use Rattle.pg_shape.specs.ShapeFaults.{HasShape}
use Rattle.pg_shape.specs.Shaped.{HasRows}
use Rattle.pg_terms.specs.Rows.{action_in}
use Rattle.pg_shape.proofs.Bools.{three_not, and_not, or_of_either, one_three, where_so}
use Rattle.pg_shape.proofs.Searches.{any_get, all_at, find_get, some_of}
use Rattle.pg_shape.proofs.Shaped.{row_keeps, row_is_due, due_case_has_row}

-- where all listed states pass, one that is listed does
pub listed_all : (p : ℕ → Bool) (d : Draft) (n x : ℕ) → list_all p (listed_states d n) ≡ true → lists d n x ≡ true → p x ≡ true
listed_all p d n x all lists =
    let (j, y, e, same) = any_get (λ y. y == x) (listed_states d n) lists in
    subst (λ z. p z ≡ true) (eqb-true y x same) (all_at p (listed_states d n) j y all e)

-- what isn't there passes, and what is there does
pub passing : (p : ℕ → Bool) (o : Option ℕ) (s : ℕ) → is_none_or p o ≡ true → o ≡ Some s → p s ≡ true
passing p o s h e = let P : Option ℕ → Type 0 = λ x. is_none_or p x ≡ true in subst P e h

-- a row line for a request
pub record IsAskRow (d : Draft) (n : ℕ) (class : ReqClass) (w : Who) (r : RowLine) : Type 0 where
  pub request : ℕ
  pub does : Action
  pub spelled : r.form ≡ form.Ask request w does
  pub asks : is (request_of d class) request ≡ true
  pub dir : r.dir ≡ n
  pub acts : acts_wrongly d n (form.Ask request w does) ≡ false
  pub leads : leads_rightly d r (form.Ask request w does) ≡ true

ask_form : (d : Draft) (f : RowForm) (class : ReqClass) (w : Who) → is_case d f (case.Ask class w) ≡ true
    → (request : ℕ) × (does : Action) × (f ≡ form.Ask request w does) × (is (request_of d class) request ≡ true)
ask_form d (form.Ask request who does) class w h =
    let p = and_parts (is (request_of d class) request) (same_who who w) h in
    (request, does, ap (λ (x : Who). form.Ask request x does) (who_equal who w p.1), p.0)
ask_form d (form.Evict who left) class w h = absurd cc

pub evict_form : (d : Draft) (f : RowForm) (w : Who) (l : Left) → is_case d f (case.Evict w l) ≡ true → f ≡ form.Evict w l
evict_form d (form.Ask request who does) w l h = absurd cc
evict_form d (form.Evict who left) w l h =
    let p = and_parts (same_who who w) (same_left left l) h in
    ap (λ (x : Who). form.Evict x left) (who_equal who w p.0) ∙ ap (λ (x : Left). form.Evict w x) (left_equal left l p.1)

-- the row of a case is a row line for it
pub row_at : (d : Draft) (n : ℕ) (a : DirCase) (r : RowLine) → dir_row d n a ≡ Some r
    → (k : ℕ) × (slice_get d.rows k ≡ Some r) × (r.dir ≡ n) × (is_case d r.form a ≡ true)
row_at d n a r e =
    let (k, g, p) = find_get (λ r. (r.dir == n) && is_case d r.form a) d.rows r e in
    let q = and_parts (r.dir == n) (is_case d r.form a) p in
    (k, g, eqb-true r.dir n q.0, q.1)

pub ask_row : (d : Draft) → HasShape d → (n : ℕ) (class : ReqClass) (w : Who) (r : RowLine) → dir_row d n (case.Ask class w) ≡ Some r → IsAskRow d n class w r
ask_row d h n class w r e =
    let (k, g, dir, for) = row_at d n (case.Ask class w) r e in
    let (request, does, f, asks) = ask_form d r.form class w for in
    let acts : acts_wrongly d r.dir r.form ≡ false = row_keeps d h k r g S16 in
    let leads : leads_rightly d r r.form ≡ true = not-false (leads_rightly d r r.form) (row_keeps d h k r g S17) in
    record {
      request = request;
      does = does;
      spelled = f;
      asks = asks;
      dir = dir;
      acts = subst (λ m. acts_wrongly d m (form.Ask request w does) ≡ false) dir (subst (λ (x : RowForm). acts_wrongly d r.dir x ≡ false) f acts);
      leads = subst (λ (x : RowForm). leads_rightly d r x ≡ true) f leads;
    }

-- where memory answers, the action is a reply
is_reply-form : (a : Action) → is_reply a ≡ true → (m : ℕ) × (a ≡ action.Reply m)
is_reply-form (action.Reply m) h = (m, refl)
is_reply-form (action.Forward f) h = absurd cc
is_reply-form action.Count h = absurd cc

is_count-form : (a : Action) → is_count a ≡ true → a ≡ action.Count
is_count-form (action.Reply m) h = absurd cc
is_count-form (action.Forward f) h = absurd cc
is_count-form action.Count h = refl

forwards-form : (class : FwdClass) (d : Draft) (a : Action) → forwards_by_class class d a ≡ true → (f : ℕ) × (a ≡ action.Forward f) × (has_class class d f ≡ true)
forwards-form class d (action.Reply m) h = absurd cc
forwards-form class d (action.Forward f) h = (f, refl, h)
forwards-form class d action.Count h = absurd cc

-- what the row's form does
does_form : (d : Draft) (n : ℕ) (class : ReqClass) (w : Who) (r : RowLine) (a : IsAskRow d n class w r) → action_in r.form ≡ Some a.does
does_form d n class w r a = ap action_in a.spelled

pub same_action : (d : Draft) (n : ℕ) (class : ReqClass) (w : Who) (r : RowLine) (a : IsAskRow d n class w r) (x : Action) → action_in r.form ≡ Some x → a.does ≡ x
same_action d n class w r a x e = same_Some {A = Action} a.does x (sym (does_form d n class w r a) ∙ e)

-- the action is none that breaks a rule
acting : (d : Draft) (n : ℕ) (class : ReqClass) (w : Who) (r : RowLine) (a : IsAskRow d n class w r)
    → (((kind_is kind.Idle d n || kind_is kind.Shared d n) && not (is_reply a.does)) ≡ false)
    × ((is (request_of d Read) a.request && not (reads_by d n a.does)) ≡ false) × ((is (request_of d Write) a.request && not (writes_by d n w a.does)) ≡ false)
acting d n class w r a = three_not ((kind_is kind.Idle d n || kind_is kind.Shared d n) && not (is_reply a.does)) (is (request_of d Read) a.request && not (reads_by d n a.does))
    (is (request_of d Write) a.request && not (writes_by d n w a.does)) a.acts

-- without an owner memory answers
from_memory : (d : Draft) (n : ℕ) (class : ReqClass) (w : Who) (r : RowLine) → IsAskRow d n class w r
    → (kind_is kind.Idle d n ≡ true) ⊎ (kind_is kind.Shared d n ≡ true) → (m : ℕ) × (action_in r.form ≡ Some (action.Reply m))
from_memory d n class w r a k =
    let by = (acting d n class w r a).0 in
    let (m, e) = is_reply-form a.does (not-false (is_reply a.does) (and_not _ _ by (or_of_either (kind_is kind.Idle d n) (kind_is kind.Shared d n) k))) in
    (m, does_form d n class w r a ∙ ap Some e)

-- READ where there is an owner
read_by : (d : Draft) (n : ℕ) (w : Who) (r : RowLine) (a : IsAskRow d n Read w r) → reads_by d n a.does ≡ true
read_by d n w r a = not-false (reads_by d n a.does) (and_not (is (request_of d Read) a.request) (not (reads_by d n a.does)) (acting d n Read w r a).1 a.asks)

-- WRITE where there is an owner
write_by : (d : Draft) (n : ℕ) (w : Who) (r : RowLine) (a : IsAskRow d n Write w r) → writes_by d n w a.does ≡ true
write_by d n w r a = not-false (writes_by d n w a.does) (and_not (is (request_of d Write) a.request) (not (writes_by d n w a.does)) (acting d n Write w r a).2 a.asks)

one_of_three : (d : Draft) (a : Action) → (forwards_by_class Share d a || forwards_by_class Keep d a || forwards_by_class Drop d a) ≡ true
    → (f : ℕ) × (a ≡ action.Forward f) × ((has_class Share d f ≡ true) ⊎ ((has_class Keep d f ≡ true) ⊎ (has_class Drop d f ≡ true)))
one_of_three d (action.Reply m) h = absurd cc
one_of_three d (action.Forward f) h = (f, refl, one_three (has_class Share d f) (has_class Keep d f) (has_class Drop d f) h)
one_of_three d action.Count h = absurd cc

one_of_two : (d : Draft) (a : Action) → (forwards_by_class Share d a || forwards_by_class Keep d a) ≡ true
    → (f : ℕ) × (a ≡ action.Forward f) × ((has_class Share d f ≡ true) ⊎ (has_class Keep d f ≡ true))
one_of_two d (action.Reply m) h = absurd cc
one_of_two d (action.Forward f) h = (f, refl, or_cases (has_class Share d f) (has_class Keep d f) h)
one_of_two d action.Count h = absurd cc

owned_by : (d : Draft) (n : ℕ) (a : Action) → reads_by d n a ≡ true → kind_is kind.Owned d n ≡ true
    → (forwards_by_class Share d a || forwards_by_class Keep d a || forwards_by_class Drop d a) ≡ true
owned_by d n a h k = four (kind_is kind.Owned d n) (forwards_by_class Share d a) (forwards_by_class Keep d a) (forwards_by_class Drop d a) _ h k
  where
    four : (o s k t b : Bool) → ((not o || s || k || t) && b) ≡ true → o ≡ true → (s || k || t) ≡ true
    four true s k t b h e = (and_parts (s || k || t) b h).0
    four false s k t b h e = absurd cc

mixed_by : (d : Draft) (n : ℕ) (a : Action) → reads_by d n a ≡ true → kind_is kind.Mixed d n ≡ true → (forwards_by_class Share d a || forwards_by_class Keep d a) ≡ true
mixed_by d n a h k = three (kind_is kind.Mixed d n) (forwards_by_class Share d a) (forwards_by_class Keep d a) _ h k
  where
    three : (o s k b : Bool) → (b && (not o || s || k)) ≡ true → o ≡ true → (s || k) ≡ true
    three true s k true h e = h
    three true s k false h e = absurd cc
    three false s k b h e = absurd cc

-- a WRITE that is passed on drops the owner
dropped : (d : Draft) (n : ℕ) (w : Who) (r : RowLine) (a : IsAskRow d n Write w r)
    → (not (kind_is kind.Owned d n || kind_is kind.Mixed d n) || forwards_by_class Drop d a.does) ≡ true
    → (kind_is kind.Owned d n ≡ true) ⊎ (kind_is kind.Mixed d n ≡ true)
    → (f : ℕ) × (action_in r.form ≡ Some (action.Forward f)) × (has_class Drop d f ≡ true)
dropped d n w r a by k =
    let (f, e, class) = forwards-form Drop d a.does (where_so (kind_is kind.Owned d n || kind_is kind.Mixed d n) (forwards_by_class Drop d a.does) by (or_of_either (kind_is kind.Owned d n) (kind_is kind.Mixed d n) k)) in
    (f, does_form d n Write w r a ∙ ap Some e, class)

pub shape_gives_rows : (d : Draft) → HasShape d → HasRows d
shape_gives_rows d h = record {
  due = λ n a due. some_of (dir_row d n a) (due_case_has_row d h n a due);
  only_due = row_is_due d h;
  read_memory = λ n r e. from_memory d n Read Other r (ask_row d h n Read Other r e);
  read_owned = λ n r e k.
      let a = ask_row d h n Read Other r e in
      let (f, g, class) = one_of_three d a.does (owned_by d n a.does (read_by d n Other r a) k) in
      (f, does_form d n Read Other r a ∙ ap Some g, class);
  read_mixed = λ n r e k.
      let a = ask_row d h n Read Other r e in
      let (f, g, class) = one_of_two d a.does (mixed_by d n a.does (read_by d n Other r a) k) in
      (f, does_form d n Read Other r a ∙ ap Some g, class);
  write_memory = λ n w r e. from_memory d n Write w r (ask_row d h n Write w r e);
  write_other = λ n r e. let a = ask_row d h n Write Other r e in dropped d n Other r a (write_by d n Other r a);
  write_sharer = λ n r e. let a = ask_row d h n Write Sharer r e in dropped d n Sharer r a (write_by d n Sharer r a);
  upgrade = λ n r e.
      let a = ask_row d h n Write Owner r e in
      does_form d n Write Owner r a ∙ ap Some (is_count-form a.does (write_by d n Owner r a));
}
