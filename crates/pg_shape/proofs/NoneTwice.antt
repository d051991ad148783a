-- What doesn't stand twice where a draft has the shape.
use Rattle.std.proofs.Common.{◌≡◌, ℕ, zero, suc, ◌<◌, Bool, true, false, ◌&&◌, ◌||◌, List, [], ◌∷◌, Some, refl, sym, subst, ap, ◌∙◌, arith}
use Rattle.std.specs.Prelude.{slice_get, take, ◌==◌}
use Rattle.std.specs.List.{list_any}
use Rattle.std.proofs.lemmas.Bool.{or_parts, eq-eqb, and_parts, and_from}
use Rattle.std.proofs.lemmas.Option.{same_Some}
use Rattle.pg_perm.specs.declared.kinds.ReqClass.{ReqClass}
use Rattle.pg_perm.specs.declared.kinds.ReqClass.TheVariants.{Read, Write}
use Rattle.pg_perm.specs.declared.kinds.FwdClass.TheVariants.{Inv}
use Rattle.pg_perm.specs.declared.draft.Draft.{Draft}
use Rattle.pg_perm.specs.declared.draft.DirLine.{DirLine}
use Rattle.pg_perm.specs.declared.draft.MsgLine.{MsgLine}
use Rattle.pg_perm.specs.declared.draft.CoreLine.{CoreLine}
use Rattle.pg_perm.specs.declared.draft.TakeLine.{TakeLine}
use Rattle.pg_perm.specs.declared.draft.RowLine.{RowLine}
use Rattle.pg_perm.specs.declared.draft.RowForm.{RowForm}
use Rattle.pg_perm.specs.declared.draft.RowForm.TheVariants as form
use Rattle.pg_perm.specs.declared.fault.Rule.TheVariants.{S5, S6, S9}
use Rattle.pg_terms.specs.declared.cases.DirCase.{DirCase}
use Rattle.pg_terms.specs.declared.cases.DirCase.TheVariants as case
use Rattle.pg_terms.specs.Terms.{is_out, is_shared, is_request_of, is_forward_of, cache_is, shared, request_of, has_class, lists_state, same_event, same_who, same_left, is, is_case}
use Rattle.pg_terms.proofs.Same.{event_same, who_equal, who_same, left_equal, left_same}
use Rattle.pg_shape.specs.DirRules.{has_twice}
use Rattle.pg_shape.specs.MessageRules.{has_request, is_second_request, has_forward, is_inv_to_none}
use Rattle.pg_shape.specs.CoreRules.{asks_class, has_core_line}
use Rattle.pg_shape.specs.TakeRules.{has_take_line}
use Rattle.pg_shape.specs.RowRules.{same_words, has_row_line}
use Rattle.pg_shape.specs.ShapeFaults.{HasShape}
use Rattle.pg_shape.specs.Shaped.{IsDir}
use Rattle.pg_shape.proofs.Bools.{and_not}
use Rattle.pg_shape.proofs.Searches.{not_both, any_at, map_or_get, some_of}
use Rattle.pg_shape.proofs.Shaped.{message_keeps, core_keeps, take_keeps, row_keeps, is_then_some}
use Rattle.pg_shape.proofs.States.{any_above, PassesOnce, one_place, one_out, one_shared, right_list}

-- Roles

-- there is one out state
pub out_once : (d : Draft) → HasShape d → (s t : ℕ) → cache_is (λ c. is_out c.role) d s ≡ true → cache_is (λ c. is_out c.role) d t ≡ true → s ≡ t
out_once d h s t at_s at_t =
    let (x, e, p) = map_or_get (λ c. is_out c.role) (slice_get d.caches s) at_s in
    let (y, f, q) = map_or_get (λ c. is_out c.role) (slice_get d.caches t) at_t in
    one_place (λ c. is_out c.role) d.caches (one_out d h) s t x y e p f q

-- and at most one shared state
pub shared_once : (d : Draft) → HasShape d → (s t : ℕ) → cache_is (λ c. is_shared c.role) d s ≡ true → cache_is (λ c. is_shared c.role) d t ≡ true → s ≡ t
shared_once d h s t at_s at_t =
    let (x, e, p) = map_or_get (λ c. is_shared c.role) (slice_get d.caches s) at_s in
    let (y, f, q) = map_or_get (λ c. is_shared c.role) (slice_get d.caches t) at_t in
    one_place (λ c. is_shared c.role) d.caches (one_shared d h) s t x y e p f q

-- Lists of states

-- where no state stands twice, two places of one are the same
distinct_places : (states : List ℕ) → has_twice states ≡ false → (i j s : ℕ) → slice_get states i ≡ Some s → slice_get states j ≡ Some s → i ≡ j
distinct_places [] h i j s e g = absurd cc
distinct_places (x ∷ states) h zero zero s e g = refl
distinct_places (x ∷ states) h zero (suc j) s e g =
    let there : lists_state states x ≡ true = any_at (λ y. y == x) states j s g (eq-eqb s x (sym (same_Some x s e))) in
    absurd (not_both (lists_state states x) there (or_parts (lists_state states x) (has_twice states) h).0)
distinct_places (x ∷ states) h (suc i) zero s e g =
    let there : lists_state states x ≡ true = any_at (λ y. y == x) states i s e (eq-eqb s x (sym (same_Some x s g))) in
    absurd (not_both (lists_state states x) there (or_parts (lists_state states x) (has_twice states) h).0)
distinct_places (x ∷ states) h (suc i) (suc j) s e g = ap suc (distinct_places states (or_parts (lists_state states x) (has_twice states) h).1 i j s e g)

-- a directory state lists no state twice
pub listed_once : (d : Draft) → HasShape d → (n : ℕ) (l : DirLine) → IsDir d n l → (i j s : ℕ) → slice_get l.beside i ≡ Some s → slice_get l.beside j ≡ Some s → i ≡ j
listed_once d h n l e = distinct_places l.beside (right_list d h n l e).2

-- Requests and forwards

-- above a READ or a WRITE there is none
no_second_request : (d : Draft) → HasShape d → (n : ℕ) (m : MsgLine) → slice_get d.messages n ≡ Some m
    → ((is_request_of Read m.class && has_request Read (take n d.messages)) ≡ false) × ((is_request_of Write m.class && has_request Write (take n d.messages)) ≡ false)
no_second_request d h n m e =
    let kept : is_second_request (take n d.messages) m ≡ false = message_keeps d h n m e S5 in
    or_parts (is_request_of Read m.class && has_request Read (take n d.messages)) (is_request_of Write m.class && has_request Write (take n d.messages)) kept

-- two requests of a class of which each is the first are one
one_request : (d : Draft) (class : ReqClass) → PassesOnce (λ m. is_request_of class m.class) d.messages → (m n : ℕ)
    → asks_class class d m ≡ true → asks_class class d n ≡ true → m ≡ n
one_request d class once m n at_m at_n =
    let (x, e, p) = map_or_get (λ x. is_request_of class x.class) (slice_get d.messages m) at_m in
    let (y, f, q) = map_or_get (λ x. is_request_of class x.class) (slice_get d.messages n) at_n in
    one_place (λ x. is_request_of class x.class) d.messages once m n x y e p f q

-- there is one READ
pub read_once : (d : Draft) → HasShape d → (m n : ℕ) → asks_class Read d m ≡ true → asks_class Read d n ≡ true → m ≡ n
read_once d h = one_request d Read (λ k x e p. and_not (is_request_of Read x.class) (has_request Read (take k d.messages)) (no_second_request d h k x e).0 p)

-- and one WRITE
pub write_once : (d : Draft) → HasShape d → (m n : ℕ) → asks_class Write d m ≡ true → asks_class Write d n ≡ true → m ≡ n
write_once d h = one_request d Write (λ k x e p. and_not (is_request_of Write x.class) (has_request Write (take k d.messages)) (no_second_request d h k x e).1 p)

-- where there is an invalidation there is a shared state
pub inv_has_shared : (d : Draft) → HasShape d → (f : ℕ) → has_class Inv d f ≡ true → (s : ℕ) × (shared d ≡ Some s)
inv_has_shared d h f inv =
    let (m, e, class) = map_or_get (λ m. is_forward_of Inv m.class) (slice_get d.messages f) inv in
    let kept : (has_forward (take f d.messages) m.class || is_inv_to_none d m) ≡ false = message_keeps d h f m e S6 in
    some_of (shared d) (and_not (is_forward_of Inv m.class) _ (or_parts (has_forward (take f d.messages) m.class) (is_inv_to_none d m) kept).1 class)

-- Cases

-- two lines that are for the same are one, where above each there is none for the same
one_line : {X : Type 0} (same : X → X → Bool) (xs : List X) → ((k : ℕ) (x : X) → slice_get xs k ≡ Some x → list_any (λ y. same y x) (take k xs) ≡ false)
    → (j k : ℕ) (x y : X) → slice_get xs j ≡ Some x → slice_get xs k ≡ Some y → same x y ≡ true → same y x ≡ true → j ≡ k
one_line same xs first j k x y e f xy yx = omega (arith, not_below j k x y e f xy, not_below k j y x f e yx)
  where
    not_below : (j k : ℕ) (x y : _) → slice_get xs j ≡ Some x → slice_get xs k ≡ Some y → same x y ≡ true → j < k → ⊥
    not_below j k x y e f p below = not_both (list_any (λ z. same z y) (take k xs)) (any_above (λ z. same z y) xs j k x below e p) (first k y f)

-- a core line is the only one of its case
pub core_once : (d : Draft) → HasShape d → (j k : ℕ) (x y : CoreLine) → slice_get d.cores j ≡ Some x → slice_get d.cores k ≡ Some y
    → x.state ≡ y.state → x.event ≡ y.event → j ≡ k
core_once d h j k x y e f state event =
    one_line (λ a b. (a.state == b.state) && same_event a.event b.event) d.cores first j k x y e f
    (and_from (x.state == y.state) (same_event x.event y.event) (eq-eqb x.state y.state state) (subst (λ a. same_event x.event a ≡ true) event (event_same x.event)))
    (and_from (y.state == x.state) (same_event y.event x.event) (eq-eqb y.state x.state (sym state)) (subst (λ a. same_event a x.event ≡ true) event (event_same x.event)))
  where
    first : (n : ℕ) (c : CoreLine) → slice_get d.cores n ≡ Some c → has_core_line (take n d.cores) c ≡ false
    first n c g = core_keeps d h n c g S9

-- so is a take line
pub take_once : (d : Draft) → HasShape d → (j k : ℕ) (x y : TakeLine) → slice_get d.takes j ≡ Some x → slice_get d.takes k ≡ Some y
    → x.state ≡ y.state → x.forward ≡ y.forward → j ≡ k
take_once d h j k x y e f state forward =
    one_line (λ a b. (a.state == b.state) && (a.forward == b.forward)) d.takes first j k x y e f
    (and_from (x.state == y.state) (x.forward == y.forward) (eq-eqb x.state y.state state) (eq-eqb x.forward y.forward forward))
    (and_from (y.state == x.state) (y.forward == x.forward) (eq-eqb y.state x.state (sym state)) (eq-eqb y.forward x.forward (sym forward)))
  where
    first : (n : ℕ) (t : TakeLine) → slice_get d.takes n ≡ Some t → has_take_line (take n d.takes) t ≡ false
    first n t g = take_keeps d h n t g S9

-- two forms of row lines for one case have the same words
case_words : (d : Draft) (f g : RowForm) (a : DirCase) → is_case d f a ≡ true → is_case d g a ≡ true → same_words f g ≡ true
case_words d (form.Ask request who action) (form.Ask q w b) (case.Ask class v) h k =
    let p = and_parts (is (request_of d class) request) (same_who who v) h in
    let r = and_parts (is (request_of d class) q) (same_who w v) k in
    let one : request ≡ q = same_Some request q (sym (is_then_some (request_of d class) request p.0) ∙ is_then_some (request_of d class) q r.0) in
    and_from (request == q) (same_who who w) (eq-eqb request q one) (subst (λ x. same_who who x ≡ true) (who_equal who v p.1 ∙ sym (who_equal w v r.1)) (who_same who))
case_words d (form.Evict who left) (form.Evict w l) (case.Evict v m) h k =
    let p = and_parts (same_who who v) (same_left left m) h in
    let r = and_parts (same_who w v) (same_left l m) k in
    and_from (same_who who w) (same_left left l) (subst (λ x. same_who who x ≡ true) (who_equal who v p.0 ∙ sym (who_equal w v r.0)) (who_same who))
    (subst (λ x. same_left left x ≡ true) (left_equal left m p.1 ∙ sym (left_equal l m r.1)) (left_same left))
case_words d (form.Ask request who action) g (case.Evict v m) h k = absurd cc
case_words d (form.Evict who left) g (case.Ask class v) h k = absurd cc
case_words d (form.Ask request who action) (form.Evict w l) (case.Ask class v) h k = absurd cc
case_words d (form.Evict who left) (form.Ask q w b) (case.Evict v m) h k = absurd cc

-- and a row line
pub row_once : (d : Draft) → HasShape d → (j k : ℕ) (x y : RowLine) (a : DirCase) → slice_get d.rows j ≡ Some x → slice_get d.rows k ≡ Some y
    → x.dir ≡ y.dir → is_case d x.form a ≡ true → is_case d y.form a ≡ true → j ≡ k
row_once d h j k x y a e f dir p q =
    one_line (λ a b. (a.dir == b.dir) && same_words a.form b.form) d.rows first j k x y e f
    (and_from (x.dir == y.dir) (same_words x.form y.form) (eq-eqb x.dir y.dir dir) (case_words d x.form y.form a p q))
    (and_from (y.dir == x.dir) (same_words y.form x.form) (eq-eqb y.dir x.dir (sym dir)) (case_words d y.form x.form a q p))
  where
    first : (n : ℕ) (r : RowLine) → slice_get d.rows n ≡ Some r → has_row_line (take n d.rows) r ≡ false
    first n r g = row_keeps d h n r g S9
