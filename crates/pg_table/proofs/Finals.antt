-- The final states of loads and stores, and the states that forwards lead to: that they are states.
use Rattle.std.proofs.Common.{◌≡◌, ℕ, ◌<◌, Bool, true, false, ◌&&◌, List, [], ◌∷◌, length, Option, Some, None, refl, sym, subst, ap, ◌∙◌, arith, inl}
use Rattle.std.specs.Prelude.{◌==◌, map, nat_lt, if◌then◌else◌}
use Rattle.std.specs.Option.{option_map, option_map_or, option_and_then}
use Rattle.std.specs.List.{list_all}
use Rattle.std.proofs.lemmas.Bool.{ltb-true, and_parts}
use Rattle.std.proofs.lemmas.Option.{same_Some}
use Rattle.pg_perm.specs.declared.kinds.Event.{Event}
use Rattle.pg_perm.specs.declared.kinds.Event.TheVariants.{Load, Store, Evict}
use Rattle.pg_perm.specs.declared.kinds.FwdClass.TheVariants.{Keep}
use Rattle.pg_perm.specs.declared.draft.Draft.{Draft}
use Rattle.pg_perm.specs.declared.draft.CoreLine.{CoreLine}
use Rattle.pg_perm.specs.declared.draft.TakeLine.{TakeLine}
use Rattle.pg_perm.specs.declared.draft.Pair.{Pair}
use Rattle.pg_perm.specs.declared.draft.ReplyName.{ReplyName}
use Rattle.pg_perm.specs.declared.draft.CoreForm.{CoreForm}
use Rattle.pg_perm.specs.declared.draft.CoreForm.TheVariants.{Hit, Ask, Leave}
use Rattle.pg_perm.specs.Drafts.{has_cache, has_message, has_reply_name, has_pair, has_core_form, has_take, IsWellFormed}
use Rattle.pg_perm.specs.Classes.{is_request, is_forward, is_reply}
use Rattle.pg_terms.specs.Terms.{shared, forward_of, core_row, take_row, keep_of}
use Rattle.pg_terms.specs.Rows.{store_next, may_keep, final_under, final_state}
use Rattle.pg_shape.proofs.Bools.{three_and}
use Rattle.pg_shape.proofs.Searches.{find_get, all_at}
use Rattle.pg_shape.proofs.Cores.{four_and, all_formed, core_formed, core_row_get, final_get}
use Rattle.pg_table.specs.declared.cache.Tag.{Tag}
use Rattle.pg_table.specs.declared.cache.Tag.TheVariants.{Plain, Kept, Gave, Gone}
use Rattle.pg_table.specs.Descriptors.{may_give, end_under_tag, final_states_in, final_states}
use Rattle.pg_table.specs.Choices.{store_final}
use Rattle.pg_table.proofs.Lists.{IsIn, in_of_slice_get, all_in, in_map, of_map}
use Rattle.pg_table.proofs.Members.{out_below, shared_below}

-- Rows of well-formed drafts

-- the form of a core row is one of its event
pub row_is_formed : (d : Draft) (s : ℕ) (event : Event) (l : CoreLine) → IsWellFormed d → core_row d s event ≡ Some l → has_core_form d event l.form ≡ true
row_is_formed d s event l well e =
    let (k, get, state, of) = core_row_get d s event l e in
    subst (λ (e : Event). has_core_form d e l.form ≡ true) of (core_formed d well k l get)

-- a take row leads to a state
pub take_below : (d : Draft) (s f : ℕ) (t : TakeLine) → IsWellFormed d → take_row d s f ≡ Some t → t.next < length d.caches
take_below d s f t well e =
    let (k, get, passes) = find_get (λ t. (t.state == s) && (t.forward == f)) d.takes t e in
    let formed : has_take d t ≡ true = all_at (has_take d) d.takes k t (all_formed d well).1 get in
    let next : has_cache d t.next ≡ true = (four_and (has_cache d t.state) (has_message is_forward d t.forward)
    (option_map_or (has_message is_reply d) t.reply true) (has_cache d t.next) formed).3 in
    ltb-true t.next (length d.caches) next

-- a store that is a hit leads to a state
pub hit_below : (d : Draft) (s t : ℕ) (f : CoreForm) → has_core_form d Store f ≡ true → s < length d.caches → store_next s Store f ≡ Some t → t < length d.caches
hit_below d s t (Hit None) formed below e = subst (λ n. n < length d.caches) (same_Some s t e) below
hit_below d s t (Hit (Some next)) formed below e = subst (λ n. n < length d.caches) (same_Some next t e) (ltb-true next (length d.caches) formed)
hit_below d s t (Ask request pairs) formed below e = absurd cc
hit_below d s t (Leave request) formed below e = absurd cc

-- Final states

-- of a line that asks all pairs are formed, and there are some
pub asks_formed : (d : Draft) (event : Event) (request : ℕ) (pairs : List Pair) → has_core_form d event (Ask request pairs) ≡ true
    → (list_all (has_pair d) pairs ≡ true) × (0 < length pairs)
asks_formed d Load request pairs h =
    let (a, b, c) = three_and (has_message is_request d request) (list_all (has_pair d) pairs) (nat_lt 0 (length pairs)) h in (b, ltb-true 0 (length pairs) c)
asks_formed d Store request pairs h =
    let (a, b, c) = three_and (has_message is_request d request) (list_all (has_pair d) pairs) (nat_lt 0 (length pairs)) h in (b, ltb-true 0 (length pairs) c)
asks_formed d Evict request pairs h = absurd cc

in_form_below : (d : Draft) (event : Event) (x : ℕ) (f : CoreForm) → has_core_form d event f ≡ true → IsIn x (final_states_in f) → x < length d.caches
in_form_below d event x (Hit next) formed among = absurd among
in_form_below d event x (Ask request pairs) formed among =
    let (p, there, e) = of_map (λ p. p.fin) x pairs among in
    let paired : has_pair d p ≡ true = all_in (has_pair d) p pairs (asks_formed d event request pairs formed).0 there in
    subst (λ n. n < length d.caches) e (ltb-true p.fin (length d.caches) (and_parts (has_reply_name d p.reply) (has_cache d p.fin) paired).1)
in_form_below d event x (Leave request) formed among = absurd among

-- a final state is a state
pub final_below : (d : Draft) (s : ℕ) (event : Event) (x : ℕ) → IsWellFormed d → IsIn x (final_states d s event) → x < length d.caches
final_below d s event x well among = at (core_row d s event) refl among
  where
    at : (o : Option CoreLine) → core_row d s event ≡ o → IsIn x (option_map_or (λ l. final_states_in l.form) o []) → x < length d.caches
    at None e among = absurd among
    at (Some l) e among = in_form_below d event x l.form (row_is_formed d s event l well e) among

-- there is a final state where the row asks
pub asking_ends : (d : Draft) (s : ℕ) (event : Event) (l : CoreLine) (request : ℕ) (pairs : List Pair) → IsWellFormed d → core_row d s event ≡ Some l
    → l.form ≡ Ask request pairs → (x : ℕ) × IsIn x (final_states d s event)
asking_ends d s event l request pairs well row asks =
    let formed : has_core_form d event (Ask request pairs) ≡ true = subst (λ (f : CoreForm). has_core_form d event f ≡ true) asks (row_is_formed d s event l well row) in
    let all : final_states d s event ≡ map (λ p. p.fin) pairs = ap (λ (o : Option CoreLine). option_map_or (λ l. final_states_in l.form) o []) row ∙ ap final_states_in asks in
    subst (λ (xs : List ℕ). (x : ℕ) × IsIn x xs) (sym all) (some pairs (asks_formed d event request pairs formed).1)
  where
    some : (ps : List Pair) → 0 < length ps → (x : ℕ) × IsIn x (map (λ p. p.fin) ps)
    some [] h = absurd (omega (arith, h))
    some (p ∷ ps) h = (p.fin, inl refl)

under_in : (name : ReplyName) (f : CoreForm) (x : ℕ) → final_under name f ≡ Some x → IsIn x (final_states_in f)
under_in name (Hit next) x h = absurd cc
under_in name (Ask request pairs) x h =
    let (k, p, get, same, is) = final_get name pairs x h in
    subst (λ n. IsIn n (map (λ p. p.fin) pairs)) is (in_map (λ p. p.fin) p pairs (in_of_slice_get pairs k p get))
under_in name (Leave request) x h = absurd cc

-- the state that an operation ends in under a reply is one of its final states
pub final_in : (d : Draft) (s : ℕ) (event : Event) (name : ReplyName) (x : ℕ) → final_state d s event name ≡ Some x → IsIn x (final_states d s event)
final_in d s event name x h = at (core_row d s event) h
  where
    at : (o : Option CoreLine) → option_and_then (λ c. final_under name c.form) o ≡ Some x → IsIn x (option_map_or (λ l. final_states_in l.form) o [])
    at None h = absurd cc
    at (Some l) h = under_in name l.form x h

-- and so is the first
pub first_in : (xs : List ℕ) (x : ℕ) → store_final xs ≡ Some x → IsIn x xs
first_in [] x h = absurd cc
first_in (y ∷ ys) x h = inl (same_Some y x h)

-- Later forwards

keep_below : (d : Draft) (s x : ℕ) → IsWellFormed d → keep_of d s ≡ Some x → x < length d.caches
keep_below d s x well e = at (forward_of d Keep) e
  where
    next : (f : ℕ) (o : Option TakeLine) → take_row d s f ≡ o → option_map (λ t. t.next) o ≡ Some x → x < length d.caches
    next f None row e = absurd cc
    next f (Some t) row e = subst (λ n. n < length d.caches) (same_Some t.next x e) (take_below d s f t well row)

    at : (o : Option ℕ) → option_map (λ t. t.next) (option_and_then (λ f. take_row d s f) o) ≡ Some x → x < length d.caches
    at None e = absurd cc
    at (Some f) e = next f (take_row d s f) refl e

-- they lead a final state to a state
pub after_below : (d : Draft) (f x : ℕ) (tag : Tag) → IsWellFormed d → f < length d.caches → end_under_tag d f tag ≡ Some x → x < length d.caches
after_below d f x Plain well below e = subst (λ n. n < length d.caches) (same_Some f x e) below
after_below d f x Kept well below e = at (may_keep d f) e
  where
    at : (b : Bool) → (if b then keep_of d f else None) ≡ Some x → x < length d.caches
    at true e = keep_below d f x well e
    at false e = absurd cc
after_below d f x Gave well below e = at (may_give d f) e
  where
    at : (b : Bool) → (if b then shared d else None) ≡ Some x → x < length d.caches
    at true e = shared_below d x e
    at false e = absurd cc
after_below d f x Gone well below e = out_below d x e
