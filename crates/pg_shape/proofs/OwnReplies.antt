-- The replies that a core line names are those that a core may get, each once.
use Rattle.std.proofs.Common.{◌≡◌, ℕ, zero, suc, true, false, not, List, [], ◌∷◌, length, Some, refl, sym, subst, ap, ◌∙◌}
use Rattle.std.specs.Prelude.{slice_get, is_some}
use Rattle.std.proofs.lemmas.Bool.{or_parts, and_parts, not-false, ltb-true}
use Rattle.std.proofs.lemmas.Option.{same_Some}
use Rattle.pg_perm.specs.declared.kinds.Role.{Role}
use Rattle.pg_perm.specs.declared.kinds.Role.TheVariants as role
use Rattle.pg_perm.specs.declared.kinds.Event.{Event}
use Rattle.pg_perm.specs.declared.kinds.Event.TheVariants.{Load, Store, Evict}
use Rattle.pg_perm.specs.declared.kinds.Who.TheVariants.{Other, Sharer}
use Rattle.pg_perm.specs.declared.draft.Draft.{Draft}
use Rattle.pg_perm.specs.declared.draft.CacheLine.{CacheLine}
use Rattle.pg_perm.specs.declared.draft.CoreLine.{CoreLine}
use Rattle.pg_perm.specs.declared.draft.CoreForm.{CoreForm}
use Rattle.pg_perm.specs.declared.draft.CoreForm.TheVariants.{Hit, Ask, Leave}
use Rattle.pg_perm.specs.declared.draft.Pair.{Pair}
use Rattle.pg_perm.specs.declared.draft.ReplyName.{ReplyName}
use Rattle.pg_perm.specs.declared.draft.ReplyName.TheVariants as reply
use Rattle.pg_perm.specs.Drafts.{has_cache, has_core_form, has_core, IsWellFormed}
use Rattle.pg_terms.specs.Terms.{is_owner, same_event, cache_is, out, shared, request_of, core_row}
use Rattle.pg_terms.specs.Due.{same_reply, is_load_reply, is_store_reply}
use Rattle.pg_terms.specs.Rows.{final_under}
use Rattle.pg_terms.proofs.Same.{reply_equal, reply_same}
use Rattle.pg_shape.specs.CoreRules.{class_of, is_asked, names_reply, names_twice, names_another, misses_reply, names_wrongly}
use Rattle.pg_shape.specs.ShapeFaults.{HasShape}
use Rattle.pg_shape.proofs.Bools.{three_not, and_not}
use Rattle.pg_shape.proofs.Searches.{all_at, not_both, any_at, any_not, get_below, map_or_get}
use Rattle.pg_shape.proofs.Cores.{at_cache, all_formed, Keeps, core_row_get, core_row_keeps, has_request, final_get, role_owner, out_line, shared_line}

-- a line that asks is for no evict
asks_no_evict : (d : Draft) (event : Event) (request : ℕ) (pairs : List Pair) → has_core_form d event (Ask request pairs) ≡ true → same_event event Evict ≡ false
asks_no_evict d Load request pairs h = refl
asks_no_evict d Store request pairs h = refl
asks_no_evict d Evict request pairs h = absurd cc

-- the core row of a state that is there names its replies rightly
named_rightly : (d : Draft) → IsWellFormed d → HasShape d → (s : ℕ) (c : CacheLine) (event : Event) (x : CoreLine) (request : ℕ) (pairs : List Pair)
    → slice_get d.caches s ≡ Some c → core_row d s event ≡ Some x → x.form ≡ Ask request pairs
    → (names_twice pairs ≡ false) × (names_another d c.role event pairs ≡ false)
named_rightly d w h s c event x request pairs e row is_ask =
    let keeps : Keeps d s event (Ask request pairs) = subst (λ (f : CoreForm). Keeps d s event f) is_ask (core_row_keeps d w h s event x row) in
    let (m, r) = has_request d h event (asks_no_evict d event request pairs keeps.formed) in
    let wrong : cache_is (λ c. names_wrongly d c.role event pairs) d s ≡ false =
    and_not (is_some (request_of d (class_of event))) (cache_is (λ c. names_wrongly d c.role event pairs) d s) keeps.replies (ap is_some r) in
    let none = three_not (names_twice pairs) (names_another d c.role event pairs) (misses_reply d c.role event pairs)
    (sym (at_cache (λ c. names_wrongly d c.role event pairs) d s c e) ∙ wrong) in
    (none.0, none.1)

-- where no reply stands twice, that of the first pair isn't that of a later one
first_reply_once : (x : Pair) (pairs : List Pair) → names_twice (x ∷ pairs) ≡ false → (k : ℕ) (q : Pair) → slice_get pairs k ≡ Some q → q.reply ≡ x.reply → ⊥
first_reply_once x pairs h k q g same =
    not_both (names_reply pairs x.reply)
    (any_at (λ p. same_reply p.reply x.reply) pairs k q g (subst (λ (n : ReplyName). same_reply q.reply n ≡ true) same (reply_same q.reply)))
    (or_parts (names_reply pairs x.reply) (names_twice pairs) h).0

-- so two places of one reply are the same
distinct_replies : (pairs : List Pair) → names_twice pairs ≡ false → (j k : ℕ) (p q : Pair) → slice_get pairs j ≡ Some p → slice_get pairs k ≡ Some q
    → p.reply ≡ q.reply → j ≡ k
distinct_replies [] h j k p q e g same = absurd cc
distinct_replies (x ∷ pairs) h zero zero p q e g same = refl
distinct_replies (x ∷ pairs) h zero (suc k) p q e g same =
    absurd (first_reply_once x pairs h k q g (sym same ∙ ap (λ (y : Pair). y.reply) (sym (same_Some x p e))))
distinct_replies (x ∷ pairs) h (suc j) zero p q e g same =
    absurd (first_reply_once x pairs h j p e (same ∙ ap (λ (y : Pair). y.reply) (sym (same_Some x q g))))
distinct_replies (x ∷ pairs) h (suc j) (suc k) p q e g same =
    ap suc (distinct_replies pairs (or_parts (names_reply pairs x.reply) (names_twice pairs) h).1 j k p q e g same)

-- the state of a core row is there
row_state : (d : Draft) → IsWellFormed d → (s : ℕ) (event : Event) (x : CoreLine) → core_row d s event ≡ Some x → (c : CacheLine) × (slice_get d.caches s ≡ Some c)
row_state d w s event x e =
    let (k, g, state, at) = core_row_get d s event x e in
    let formed : has_core d x ≡ true = all_at (has_core d) d.cores k x (all_formed d w).0 g in
    let there : has_cache d x.state ≡ true = (and_parts (has_cache d x.state) (has_core_form d x.event x.form) formed).0 in
    get_below d.caches s (ltb-true s (length d.caches) (subst (λ n. has_cache d n ≡ true) state there))

-- a core row names no reply twice
pub reply_once : (d : Draft) → IsWellFormed d → HasShape d → (s j k request : ℕ) (event : Event) (pairs : List Pair) (p q : Pair) (x : CoreLine)
    → core_row d s event ≡ Some x → x.form ≡ Ask request pairs → slice_get pairs j ≡ Some p → slice_get pairs k ≡ Some q → p.reply ≡ q.reply → j ≡ k
reply_once d w h s j k request event pairs p q x row is_ask =
    let (c, e) = row_state d w s event x row in
    distinct_replies pairs (named_rightly d w h s c event x request pairs e row is_ask).0 j k p q

-- a line with a final state asks
ask_of_final : (name : ReplyName) (form : CoreForm) (t : ℕ) → final_under name form ≡ Some t → (request : ℕ) × (pairs : List Pair) × (form ≡ Ask request pairs)
ask_of_final name (Hit next) t e = absurd cc
ask_of_final name (Ask request pairs) t e = (request, pairs, refl)
ask_of_final name (Leave request) t e = absurd cc

-- a reply with a final state is one that a core may get
final_is_asked : (d : Draft) → IsWellFormed d → HasShape d → (s t : ℕ) (c : CacheLine) (event : Event) (name : ReplyName) (x : CoreLine)
    → slice_get d.caches s ≡ Some c → core_row d s event ≡ Some x → final_under name x.form ≡ Some t → is_asked d c.role event name ≡ true
final_is_asked d w h s t c event name x e row final =
    let (request, pairs, is_ask) = ask_of_final name x.form t final in
    let under : final_under name (Ask request pairs) ≡ Some t = subst (λ (f : CoreForm). final_under name f ≡ Some t) is_ask final in
    let (k, p, g, same, fin) = final_get name pairs t under in
    let none = (named_rightly d w h s c event x request pairs e row is_ask).1 in
    let asked = not-false (is_asked d c.role event p.reply) (any_not (λ p. not (is_asked d c.role event p.reply)) pairs k p none g) in
    subst (λ (n : ReplyName). is_asked d c.role event n ≡ true) (reply_equal p.reply name same) asked

-- a load has a final state only under a reply that a load may get
pub load_final_comes : (d : Draft) → IsWellFormed d → HasShape d → (s t : ℕ) (name : ReplyName) (x : CoreLine) → core_row d s Load ≡ Some x
    → final_under name x.form ≡ Some t → (m : ℕ) × (name ≡ reply.Reply m) × (is_load_reply d m ≡ true)
load_final_comes d w h s t name x row final =
    let (c, e) = row_state d w s Load x row in
    at name (final_is_asked d w h s t c Load name x e row final)
  where
    at : (name : ReplyName) → is_asked d role.Out Load name ≡ true → (m : ℕ) × (name ≡ reply.Reply m) × (is_load_reply d m ≡ true)
    at reply.AckCount h = absurd cc
    at (reply.Reply m) h = (m, refl, h)

-- a store of out only under one that a store of others may get
pub out_final_comes : (d : Draft) → IsWellFormed d → HasShape d → (s t : ℕ) (name : ReplyName) (x : CoreLine) → out d ≡ Some s → core_row d s Store ≡ Some x
    → final_under name x.form ≡ Some t → (m : ℕ) × (name ≡ reply.Reply m) × (is_store_reply d Other m ≡ true)
out_final_comes d w h s t name x at_out row final =
    let (c, e, is_so, none) = out_line d h s at_out in
    at name (subst (λ (r : Role). is_asked d r Store name ≡ true) is_so (final_is_asked d w h s t c Store name x e row final))
  where
    at : (name : ReplyName) → is_asked d role.Out Store name ≡ true → (m : ℕ) × (name ≡ reply.Reply m) × (is_store_reply d Other m ≡ true)
    at reply.AckCount h = absurd cc
    at (reply.Reply m) h = (m, refl, h)

-- a store of shared only under one that a store of sharers may get
pub shared_final_comes : (d : Draft) → IsWellFormed d → HasShape d → (s t : ℕ) (name : ReplyName) (x : CoreLine) → shared d ≡ Some s → core_row d s Store ≡ Some x
    → final_under name x.form ≡ Some t → (m : ℕ) × (name ≡ reply.Reply m) × (is_store_reply d Sharer m ≡ true)
shared_final_comes d w h s t name x at_shared row final =
    let (c, e, is_so, reads) = shared_line d h s at_shared in
    at name (subst (λ (r : Role). is_asked d r Store name ≡ true) is_so (final_is_asked d w h s t c Store name x e row final))
  where
    at : (name : ReplyName) → is_asked d role.Shared Store name ≡ true → (m : ℕ) × (name ≡ reply.Reply m) × (is_store_reply d Sharer m ≡ true)
    at reply.AckCount h = absurd cc
    at (reply.Reply m) h = (m, refl, h)

-- a store of an owner only under the count
pub owner_final_comes : (d : Draft) → IsWellFormed d → HasShape d → (s t : ℕ) (name : ReplyName) (x : CoreLine) → cache_is (λ c. is_owner c.role) d s ≡ true
    → core_row d s Store ≡ Some x → final_under name x.form ≡ Some t → name ≡ reply.AckCount
owner_final_comes d w h s t name x owner row final =
    let (c, e, owns) = map_or_get (λ c. is_owner c.role) (slice_get d.caches s) owner in
    at name (subst (λ (r : Role). is_asked d r Store name ≡ true) (role_owner c.role owns) (final_is_asked d w h s t c Store name x e row final))
  where
    at : (name : ReplyName) → is_asked d role.Owner Store name ≡ true → name ≡ reply.AckCount
    at reply.AckCount h = refl
    at (reply.Reply m) h = absurd cc
