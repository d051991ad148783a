-- What a draft with the shape keeps, and what that says of its rows.
use Rattle.std.proofs.Common.{◌≡◌, ℕ, ◌<◌, ◌⊎◌, Bool, true, false, not, ◌&&◌, List, [], length, Option, Some, None, refl, sym, subst, ap, ◌∙◌, inl, inr, Bor}
use Rattle.std.specs.Prelude.{slice_get, is_none, is_some, ◌==◌}
use Rattle.std.specs.Option.{option_map_or, option_copied, IsSome}
use Rattle.std.specs.List.{list_any}
use Rattle.std.proofs.lemmas.Bool.{or_parts, eqb-true, and_parts, not-false, false_from_ne_true}
use Rattle.std.proofs.lemmas.Option.{same_Some}
use Rattle.pg_perm.specs.declared.kinds.Event.{Event}
use Rattle.pg_perm.specs.declared.kinds.Event.TheVariants.{Load, Store, Evict}
use Rattle.pg_perm.specs.declared.kinds.DirKind.{DirKind}
use Rattle.pg_perm.specs.declared.kinds.DirKind.TheVariants as kind
use Rattle.pg_perm.specs.declared.kinds.Who.{Who}
use Rattle.pg_perm.specs.declared.kinds.ReqClass.{ReqClass}
use Rattle.pg_perm.specs.declared.kinds.ReqClass.TheVariants.{Read, Write, Clean, Dirty}
use Rattle.pg_perm.specs.declared.draft.MsgClass.{MsgClass}
use Rattle.pg_perm.specs.declared.draft.MsgClass.TheVariants.{Request, Forward, Reply}
use Rattle.pg_perm.specs.declared.draft.Draft.{Draft}
use Rattle.pg_perm.specs.declared.draft.CacheLine.{CacheLine}
use Rattle.pg_perm.specs.declared.draft.DirLine.{DirLine}
use Rattle.pg_perm.specs.declared.draft.MsgLine.{MsgLine}
use Rattle.pg_perm.specs.declared.draft.CoreLine.{CoreLine}
use Rattle.pg_perm.specs.declared.draft.TakeLine.{TakeLine}
use Rattle.pg_perm.specs.declared.draft.RowLine.{RowLine}
use Rattle.pg_perm.specs.declared.draft.RowForm.{RowForm}
use Rattle.pg_perm.specs.declared.draft.RowForm.TheVariants as form
use Rattle.pg_perm.specs.declared.fault.Rule.{Rule}
use Rattle.pg_perm.specs.declared.fault.Rule.TheVariants.{S2, S5, S8, S12, S15, S18}
use Rattle.pg_terms.specs.declared.cases.DirCase.{DirCase}
use Rattle.pg_terms.specs.declared.cases.DirCase.TheVariants as case
use Rattle.pg_terms.specs.Terms.{is, is_request_of, same_who, out, request_of, core_row, take_row, is_case, dir_row}
use Rattle.pg_terms.specs.Due.{is_due, due_cases, lists_read_owner, cases_at, same_case, is_due_case}
use Rattle.pg_terms.proofs.Same.{who_equal, left_equal, request_equal, case_equal, case_same}
use Rattle.pg_shape.specs.TextRules.{text_breaks}
use Rattle.pg_shape.specs.CacheRules.{cache_breaks, lacks_core_lines}
use Rattle.pg_shape.specs.DirRules.{dir_breaks, lacks_row}
use Rattle.pg_shape.specs.MessageRules.{message_breaks}
use Rattle.pg_shape.specs.CoreRules.{core_breaks}
use Rattle.pg_shape.specs.TakeRules.{take_breaks, takes_wrongly}
use Rattle.pg_shape.specs.RowRules.{row_breaks, is_not_due}
use Rattle.pg_shape.specs.ShapeFaults.{HasShape}
use Rattle.pg_shape.proofs.Bools.{three_not, and_not}
use Rattle.pg_shape.proofs.Searches.{not_both, any_get, any_at, any_not, find_get, position_get, get_below, some_of, copied_none}

-- no rule is broken by the protocol line
pub text_keeps : (d : Draft) → HasShape d → (R : Rule) → text_breaks d R ≡ false
text_keeps d h R = false_from_ne_true (text_breaks d R) (λ b. h.whole d.line R (inl (refl, b)))

-- or by the line of a cache state
pub cache_keeps : (d : Draft) → HasShape d → (n : ℕ) (x : CacheLine) → slice_get d.caches n ≡ Some x → (R : Rule) → cache_breaks d n x R ≡ false
cache_keeps d h n x e R = false_from_ne_true (cache_breaks d n x R) (λ b. h.whole x.line R (inr (inl (n, x, e, refl, b))))

-- or by the line of a directory state
pub dir_keeps : (d : Draft) → HasShape d → (n : ℕ) (x : DirLine) → slice_get d.dirs n ≡ Some x → (R : Rule) → dir_breaks d n x R ≡ false
dir_keeps d h n x e R = false_from_ne_true (dir_breaks d n x R) (λ b. h.whole x.line R (inr (inr (inl (n, x, e, refl, b)))))

-- or by the line of a message
pub message_keeps : (d : Draft) → HasShape d → (n : ℕ) (x : MsgLine) → slice_get d.messages n ≡ Some x → (R : Rule) → message_breaks d n x R ≡ false
message_keeps d h n x e R = false_from_ne_true (message_breaks d n x R) (λ b. h.whole x.line R (inr (inr (inr (inl (n, x, e, refl, b))))))

-- or by a core line
pub core_keeps : (d : Draft) → HasShape d → (n : ℕ) (x : CoreLine) → slice_get d.cores n ≡ Some x → (R : Rule) → core_breaks d n x R ≡ false
core_keeps d h n x e R = false_from_ne_true (core_breaks d n x R) (λ b. h.whole x.line R (inr (inr (inr (inr (inl (n, x, e, refl, b)))))))

-- or by a take line
pub take_keeps : (d : Draft) → HasShape d → (n : ℕ) (x : TakeLine) → slice_get d.takes n ≡ Some x → (R : Rule) → take_breaks d n x R ≡ false
take_keeps d h n x e R = false_from_ne_true (take_breaks d n x R) (λ b. h.whole x.line R (inr (inr (inr (inr (inr (inl (n, x, e, refl, b))))))))

-- or by a row line
pub row_keeps : (d : Draft) → HasShape d → (n : ℕ) (x : RowLine) → slice_get d.rows n ≡ Some x → (R : Rule) → row_breaks d n x R ≡ false
row_keeps d h n x e R = false_from_ne_true (row_breaks d n x R) (λ b. h.whole x.line R (inr (inr (inr (inr (inr (inr (n, x, e, refl, b))))))))

pub is_then_some : (o : Option ℕ) (n : ℕ) → is o n ≡ true → o ≡ Some n
is_then_some None n h = absurd cc
is_then_some (Some m) n h = ap Some (eqb-true m n h)

-- there is an out state
pub has_out : (d : Draft) → HasShape d → (s : ℕ) × (out d ≡ Some s)
has_out d h = some_of (out d) (or_parts (is_none (out d)) _ (text_keeps d h S2)).0

-- a cache state has its core rows
pub has_core_row : (d : Draft) → HasShape d → (s : ℕ) (event : Event) → s < length d.caches → (event ≡ Evict → is (out d) s ≡ false)
    → (c : CoreLine) × (core_row d s event ≡ Some c)
has_core_row d h s event below leaves =
    let (x, e) = get_below d.caches s below in
    let rows : lacks_core_lines d s ≡ false = cache_keeps d h s x e S8 in
    at event leaves (three_not (is_none (core_row d s Load)) (is_none (core_row d s Store)) _ rows)
  where
    at : (event : Event) → (event ≡ Evict → is (out d) s ≡ false)
        → (is_none (core_row d s Load) ≡ false) × (is_none (core_row d s Store) ≡ false)
        × ((not (is (out d) s) && is_none (core_row d s Evict)) ≡ false)
        → (c : CoreLine) × (core_row d s event ≡ Some c)
    at Load leaves t = some_of (core_row d s Load) t.0
    at Store leaves t = some_of (core_row d s Store) t.1
    at Evict leaves t = some_of (core_row d s Evict) (and_not (not (is (out d) s)) _ t.2 (ap not (leaves refl)))

-- a pair with a take line is due
pub take_is_due : (d : Draft) → HasShape d → (s f : ℕ) (t : TakeLine) → take_row d s f ≡ Some t → is_due d s f ≡ true
take_is_due d h s f t e =
    let (k, g, passes) = find_get (λ t. (t.state == s) && (t.forward == f)) d.takes t e in
    let same = and_parts (t.state == s) (t.forward == f) passes in
    let state : t.state ≡ s = eqb-true t.state s same.0 in
    let forward : t.forward ≡ f = eqb-true t.forward f same.1 in
    let wrong : takes_wrongly d t ≡ false = take_keeps d h k t g S12 in
    let right = not-false (is_due d t.state t.forward) (or_parts (not (is_due d t.state t.forward)) _ wrong).0 in
    subst (λ m. is_due d m f ≡ true) state (subst (λ m. is_due d t.state m ≡ true) forward right)

-- a message is a request of one class
one_class : (m : MsgClass) (a b : ReqClass) → is_request_of a m ≡ true → is_request_of b m ≡ true → a ≡ b
one_class (Request c) a b h g = request_equal a c h ∙ sym (request_equal b c g)
one_class (Forward c) a b h g = absurd cc
one_class Reply a b h g = absurd cc

-- the first requests of two classes differ
pub class_equal : (d : Draft) (a b : ReqClass) (m : ℕ) → is (request_of d a) m ≡ true → is (request_of d b) m ≡ true → a ≡ b
class_equal d a b m h g =
    let (x, e, p) = (position_get (λ x. is_request_of a x.class) d.messages m (is_then_some (request_of d a) m h)).1 in
    let (y, f, q) = (position_get (λ x. is_request_of b x.class) d.messages m (is_then_some (request_of d b) m g)).1 in
    let same : y ≡ x = same_Some y x (sym f ∙ e) in
    one_class x.class a b p (subst (λ (z : MsgLine). is_request_of b z.class ≡ true) same q)

-- a row line is for one case
one_case : (d : Draft) (form : RowForm) (a b : DirCase) → is_case d form a ≡ true → is_case d form b ≡ true → same_case a b ≡ true
one_case d (form.Ask request who action) (case.Ask c w) (case.Ask e v) h g =
    let p = and_parts (is (request_of d c) request) _ h in
    let q = and_parts (is (request_of d e) request) _ g in
    let class : c ≡ e = class_equal d c e request p.0 q.0 in
    let sender : w ≡ v = sym (who_equal who w p.1) ∙ who_equal who v q.1 in
    let same : case.Ask c w ≡ case.Ask e v = cc (class, sender) in
    subst (λ (x : DirCase). same_case (case.Ask c w) x ≡ true) same (case_same (case.Ask c w))
one_case d (form.Ask request who action) (case.Ask c w) (case.Evict v l) h g = absurd cc
one_case d (form.Ask request who action) (case.Evict w l) b h g = absurd cc
one_case d (form.Evict who left) (case.Ask c w) b h g = absurd cc
one_case d (form.Evict who left) (case.Evict w l) (case.Ask c v) h g = absurd cc
one_case d (form.Evict who left) (case.Evict w l) (case.Evict v m) h g =
    let p = and_parts (same_who who w) _ h in
    let q = and_parts (same_who who v) _ g in
    let sender : w ≡ v = sym (who_equal who w p.0) ∙ who_equal who v q.0 in
    let others : l ≡ m = sym (left_equal left l p.1) ∙ left_equal left m q.1 in
    let same : case.Evict w l ≡ case.Evict v m = cc (sender, others) in
    subst (λ (x : DirCase). same_case (case.Evict w l) x ≡ true) same (case_same (case.Evict w l))

-- a case with a row line is due
pub row_is_due : (d : Draft) → HasShape d → (n : ℕ) (a : DirCase) (r : RowLine) → dir_row d n a ≡ Some r → is_due_case d n a ≡ true
row_is_due d h n a r e =
    let (k, g, passes) = find_get (λ r. (r.dir == n) && is_case d r.form a) d.rows r e in
    let same = and_parts (r.dir == n) (is_case d r.form a) passes in
    let dir : r.dir ≡ n = eqb-true r.dir n same.0 in
    let wrong : is_not_due d r ≡ false = row_keeps d h k r g S15 in
    let due = not-false (list_any (is_case d r.form) (cases_at d r.dir)) wrong in
    let (j, b, f, for) = any_get (is_case d r.form) (cases_at d r.dir) due in
    let right = any_at (same_case a) (cases_at d r.dir) j b f (one_case d r.form a b same.1 for) in
    subst (λ m. list_any (same_case a) (cases_at d m) ≡ true) dir right

-- READ and WRITE are there
has_request : (d : Draft) → HasShape d → (c : ReqClass) → (c ≡ Read) ⊎ (c ≡ Write) → is_some (request_of d c) ≡ true
has_request d h c which = at which
  where
    parts : (is_none (request_of d Read) ≡ false) × (is_none (request_of d Write) ≡ false)
    parts = or_parts (is_none (request_of d Read)) (is_none (request_of d Write)) (text_keeps d h S5)

    some : (o : Option ℕ) → is_none o ≡ false → is_some o ≡ true
    some None h = absurd cc
    some (Some m) h = refl

    at : (c ≡ Read) ⊎ (c ≡ Write) → is_some (request_of d c) ≡ true
    at (inl e) = subst (λ (x : ReqClass). is_some (request_of d x) ≡ true) (sym e) (some (request_of d Read) parts.0)
    at (inr e) = subst (λ (x : ReqClass). is_some (request_of d x) ≡ true) (sym e) (some (request_of d Write) parts.1)

-- what is due of requests is READ or WRITE
due_class : (k : DirKind) (reads : Bool) (c : ReqClass) (w : Who) → list_any (same_case (case.Ask c w)) (due_cases k reads) ≡ true → (c ≡ Read) ⊎ (c ≡ Write)
due_class k reads Read w h = inl refl
due_class k reads Write w h = inr refl
due_class kind.Owned true Clean w h = absurd cc
due_class kind.Owned false Clean w h = absurd cc
due_class kind.Owned true Dirty w h = absurd cc
due_class kind.Owned false Dirty w h = absurd cc
due_class _ reads Clean w h = absurd cc
due_class _ reads Dirty w h = absurd cc

-- what is due of requests at a directory state is READ or WRITE
pub due_class_of : (d : Draft) (n : ℕ) (c : ReqClass) (w : Who) → is_due_case d n (case.Ask c w) ≡ true → (c ≡ Read) ⊎ (c ≡ Write)
due_class_of d n c w due = at (slice_get d.dirs n) due
  where
    at : (o : Option DirLine) → list_any (same_case (case.Ask c w)) (option_map_or (λ l. due_cases l.kind (lists_read_owner d l.beside)) o []) ≡ true
        → (c ≡ Read) ⊎ (c ≡ Write)
    at None due = absurd cc
    at (Some l) due = due_class l.kind (lists_read_owner d l.beside) c w due

-- a due case of a directory state that is there has a row line
due_has_row : (d : Draft) → HasShape d → (n : ℕ) (l : DirLine) (a : DirCase) → slice_get d.dirs n ≡ Some l → is_due_case d n a ≡ true
    → is_none (dir_row d n a) ≡ false
due_has_row d h n l a e due =
    let (j, b, f, same) = any_get (same_case a) (cases_at d n) due in
    let lacks : lacks_row d n b ≡ false = any_not (lacks_row d n) (cases_at d n) j b (dir_keeps d h n l e S18) f in
    let cases : cases_at d n ≡ due_cases l.kind (lists_read_owner d l.beside) =
    ap (λ (o : Option DirLine). option_map_or (λ l. due_cases l.kind (lists_read_owner d l.beside)) o []) e in
    at a (subst (λ (x : DirCase). lacks_row d n x ≡ false) (sym (case_equal a b same)) lacks) (subst (λ (cs : List DirCase). list_any (same_case a) cs ≡ true) cases due)
  where
    at : (a : DirCase) → lacks_row d n a ≡ false → list_any (same_case a) (due_cases l.kind (lists_read_owner d l.beside)) ≡ true
        → is_none (dir_row d n a) ≡ false
    at (case.Ask c w) lacks due = and_not (is_some (request_of d c)) _ lacks (has_request d h c (due_class l.kind _ c w due))
    at (case.Evict w m) lacks due = lacks

-- a case that is due has a row line
pub due_case_has_row : (d : Draft) → HasShape d → (n : ℕ) (a : DirCase) → is_due_case d n a ≡ true → is_none (dir_row d n a) ≡ false
due_case_has_row d h n a due = at (slice_get d.dirs n) refl
  where
    at : (o : Option DirLine) → slice_get d.dirs n ≡ o → is_none (dir_row d n a) ≡ false
    at (Some l) e = due_has_row d h n l a e due
    at None e =
        let cases : cases_at d n ≡ [] = ap (λ (o : Option DirLine). option_map_or (λ l. due_cases l.kind (lists_read_owner d l.beside)) o []) e in
        absurd (not_both (is_due_case d n a) due (ap (list_any (same_case a)) cases))

-- there is no row exactly where the case isn't due
pub dir_rows : (d : Draft) → HasShape d → (n : ℕ) (a : DirCase) → (dir_row d n a ≡ None → is_due_case d n a ≡ false) × (is_due_case d n a ≡ false → dir_row d n a ≡ None)
dir_rows d h n a = (λ e. false_from_ne_true (is_due_case d n a) (λ due. not_both (is_none (dir_row d n a)) (ap is_none e) (due_case_has_row d h n a due)), at (dir_row d n a) refl)
  where
    at : (o : Option RowLine) → dir_row d n a ≡ o → is_due_case d n a ≡ false → o ≡ None
    at None e other = refl
    at (Some r) e other = absurd (not_both (is_due_case d n a) (row_is_due d h n a r e) other)

-- what the reader of rows answers
pub row_answered : (d : Draft) → HasShape d → (n : ℕ) (a : DirCase) (o : Option (Bor RowLine)) → option_copied o ≡ dir_row d n a
    → (o ≡ None → is_due_case d n a ≡ false) × (is_due_case d n a ≡ false → o ≡ None)
row_answered d h n a o e = let rows = dir_rows d h n a in (λ none. rows.0 (sym e ∙ ap option_copied none), λ other. copied_none o (e ∙ rows.1 other))

-- what the reader of core rows finds is there
pub core_answered : (d : Draft) → HasShape d → (s : ℕ) (event : Event) → s < length d.caches → (event ≡ Evict → is (out d) s ≡ false)
    → (o : Option (Bor CoreLine)) → option_copied o ≡ core_row d s event → IsSome o
core_answered d h s event below leaves o e = let (x, f) = has_core_row d h s event below leaves in at o x (e ∙ f)
  where
    at : (o : Option (Bor CoreLine)) (x : CoreLine) → option_copied o ≡ Some x → IsSome o
    at None x e = absurd cc
    at (Some y) x e = refl

-- what the reader of the out state finds is there
pub out_answered : (d : Draft) → HasShape d → (o : Option ℕ) → o ≡ out d → IsSome o
out_answered d h o e = let (s, f) = has_out d h in subst IsSome (sym (e ∙ f)) refl
