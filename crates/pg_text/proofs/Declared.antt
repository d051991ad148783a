-- What is found for the words of a line is declared as its place asks.
use Rattle.std.proofs.Common.{◌≡◌, ℕ, suc, Bool, true, false, List, [], ◌∷◌, length, slice_get, Option, Some, None, refl, ap, subst, ◌∙◌, arith}
use Rattle.std.specs.Prelude.{◌≢◌, nat_lt, codes}
use Rattle.std.specs.List.{list_all}
use Rattle.std.specs.Option.{option_map_or}
use Rattle.std.proofs.lemmas.Bool.{and_from, lt-ltb}
use Rattle.std.proofs.lemmas.List.{length-map}
use Rattle.std.proofs.lemmas.Option.{same_Some, cond_some}
use Rattle.pg_names.specs.Number.{number_of}
use Rattle.pg_names.proofs.Numbers.{number_of-within}
use Rattle.pg_perm.specs.declared.draft.Draft.{Draft}
use Rattle.pg_perm.specs.declared.draft.CacheLine.{CacheLine}
use Rattle.pg_perm.specs.declared.draft.DirLine.{DirLine}
use Rattle.pg_perm.specs.declared.draft.MsgLine.{MsgLine}
use Rattle.pg_perm.specs.declared.draft.CoreLine.{CoreLine}
use Rattle.pg_perm.specs.declared.draft.TakeLine.{TakeLine}
use Rattle.pg_perm.specs.declared.draft.RowLine.{RowLine}
use Rattle.pg_perm.specs.declared.draft.Pair.{Pair}
use Rattle.pg_perm.specs.declared.draft.ReplyName.{ReplyName}
use Rattle.pg_perm.specs.declared.draft.ReplyName.TheVariants as reply
use Rattle.pg_perm.specs.declared.draft.CoreForm.{CoreForm}
use Rattle.pg_perm.specs.declared.draft.CoreForm.TheVariants as form
use Rattle.pg_perm.specs.declared.draft.RowForm.{RowForm}
use Rattle.pg_perm.specs.declared.draft.Action.{Action}
use Rattle.pg_perm.specs.declared.draft.MsgClass.{MsgClass}
use Rattle.pg_perm.specs.declared.draft.MsgClass.TheVariants.{Request, Forward, Reply}
use Rattle.pg_perm.specs.declared.kinds.Event.{Event}
use Rattle.pg_perm.specs.declared.kinds.Event.TheVariants.{Load, Store, Evict}
use Rattle.pg_perm.specs.declared.kinds.Who.TheVariants.{Other, Sharer, Owner}
use Rattle.pg_perm.specs.Classes.{is_request, is_forward, is_reply}
use Rattle.pg_perm.specs.Drafts.{cache_names, dir_names, message_names, has_cache, has_dir, has_message, has_reply_name, has_pair}
use Rattle.pg_perm.specs.Drafts.{has_core_form, has_core, has_take, has_action, has_row_form, has_row, pair_count}
use Rattle.pg_forms.specs.declared.line.CoreShape.{CoreShape}
use Rattle.pg_forms.specs.declared.line.CoreShape.TheVariants.{Hit, Ask, Leave}
use Rattle.pg_forms.specs.declared.line.RowShape.{RowShape}
use Rattle.pg_forms.specs.declared.line.RowShape.TheVariants as row
use Rattle.pg_forms.specs.Forms.{IsShapeOf, IsRowShape}
use Rattle.pg_drafting.specs.Numbering.{cache_number, dir_number, message_number, reply_name, pair_of, pairs_of, core_form, core_of, states_of}
use Rattle.pg_drafting.specs.Numbering.{take_reply, take_of, action_by_class, action_of, row_form, row_of}
use Rattle.pg_forms.proofs.Options.{then_some, word_test_some, option_map-some}

-- a number of a cache state is that of one which is declared
pub cache_found : (d : Draft) (w : List ℕ) (s : ℕ) → cache_number d w ≡ Some s → has_cache d s ≡ true
cache_found d w s e = lt-ltb s (length d.caches) (omega (arith, number_of-within (cache_names d) w s e, length-map d.caches (λ (c : CacheLine). c.name)))

-- a number of a directory state is that of one which is declared
pub dir_found : (d : Draft) (w : List ℕ) (s : ℕ) → dir_number d w ≡ Some s → has_dir d s ≡ true
dir_found d w s e = lt-ltb s (length d.dirs) (omega (arith, number_of-within (dir_names d) w s e, length-map d.dirs (λ (s : DirLine). s.name)))

-- a number of a message is that of one which is declared in the class
pub message_found : (is_class : MsgClass → Bool) (d : Draft) (w : List ℕ) (m : ℕ) → message_number is_class d w ≡ Some m → has_message is_class d m ≡ true
unfolding message_number
message_found is_class d w m e =
    then_some (number_of (message_names d) w) _ m e (λ n is_n e.
    then_some (slice_get d.messages n) _ m e (λ x is_x e.
    let t = cond_some (is_class x.class) n m e in
    subst (λ (k : ℕ). has_message is_class d k ≡ true) t.1 (ap (λ (o : Option MsgLine). option_map_or (λ y. is_class y.class) o false) is_x ∙ t.0)))

-- the reply of a pair is declared
reply_found : (d : Draft) (w : List ℕ) (r : ReplyName) → reply_name d w ≡ Some r → has_reply_name d r ≡ true
reply_found d w r =
    word_test_some (λ r. has_reply_name d r ≡ true) w (codes "AckCount") _ _ r (λ h e. subst (λ r. has_reply_name d r ≡ true) (same_Some _ _ e) refl)
    (λ e. option_map-some reply.Reply (message_number is_reply d w) r e (λ m is_m f. subst (λ r. has_reply_name d r ≡ true) f (message_found is_reply d w m is_m)))

-- a pair is declared
pair_found : (d : Draft) (r f : List ℕ) (p : Pair) → pair_of d r f ≡ Some p → has_pair d p ≡ true
unfolding pair_of
pair_found d r f p e =
    then_some (reply_name d r) _ p e (λ reply is_reply e.
    then_some (cache_number d f) _ p e (λ fin is_fin e.
    subst (λ p. has_pair d p ≡ true) (same_Some _ p e) (and_from _ _ (reply_found d r reply is_reply) (cache_found d f fin is_fin))))

-- pairs are declared, and are as many as there are words for
pairs_found : (d : Draft) (ps : List (List ℕ × List ℕ)) (qs : List Pair) → pairs_of d ps ≡ Some qs
    → (list_all (has_pair d) qs ≡ true) × (length qs ≡ length ps)
pairs_found d [] qs e = subst (λ qs. (list_all (has_pair d) qs ≡ true) × (length qs ≡ 0)) (same_Some [] qs e) (refl, refl)
pairs_found d (p ∷ ps) qs e =
    then_some (pair_of d p.0 p.1) _ qs e (λ pair is_pair e.
    then_some (pairs_of d ps) _ qs e (λ more is_more e.
    let t = pairs_found d ps more is_more in
    subst (λ qs. (list_all (has_pair d) qs ≡ true) × (length qs ≡ suc (length ps))) (same_Some _ qs e)
    (and_from _ _ (pair_found d p.0 p.1 pair is_pair) t.0, ap suc t.1)))

-- the states beside a directory state are declared, and are as many as there are words for
pub states_found : (d : Draft) (ws : List (List ℕ)) (states : List ℕ) → states_of d ws ≡ Some states
    → (list_all (has_cache d) states ≡ true) × (length states ≡ length ws)
states_found d [] states e = subst (λ states. (list_all (has_cache d) states ≡ true) × (length states ≡ 0)) (same_Some [] states e) (refl, refl)
states_found d (w ∷ ws) states e =
    then_some (cache_number d w) _ states e (λ state is_state e.
    then_some (states_of d ws) _ states e (λ more is_more e.
    let t = states_found d ws more is_more in
    subst (λ states. (list_all (has_cache d) states ≡ true) × (length states ≡ suc (length ws))) (same_Some _ states e)
    (and_from _ _ (cache_found d w state is_state) t.0, ap suc t.1)))

-- how many pairs of words a line has
abbrev pub shape_pairs : CoreShape → ℕ
shape_pairs (Hit next) = 0
shape_pairs (Ask request pairs) = length pairs
shape_pairs (Leave request) = 0

-- as many as there are pairs in words, and one at least
some_pair : (ps : List (List ℕ × List ℕ)) (qs : List Pair) → ps ≢ [] → length qs ≡ length ps → nat_lt 0 (length qs) ≡ true
some_pair [] qs h e = absurd (h refl)
some_pair (p ∷ ps) qs h e = lt-ltb 0 (length qs) (omega (arith, e))

-- the form of a line at a load is declared
load_found : (d : Draft) (shape : CoreShape) (f : CoreForm) → IsShapeOf Load shape → core_form d shape ≡ Some f
    → (has_core_form d Load f ≡ true) × (pair_count f ≡ shape_pairs shape)
unfolding core_form
load_found d (Hit None) f s e = subst (λ f. (has_core_form d Load f ≡ true) × (pair_count f ≡ 0)) (same_Some _ f e) (refl, refl)
load_found d (Hit (Some w)) f s e =
    then_some (cache_number d w) _ f e (λ next is_next e.
    subst (λ f. (has_core_form d Load f ≡ true) × (pair_count f ≡ 0)) (same_Some _ f e) (cache_found d w next is_next, refl))
load_found d (Ask w ps) f s e =
    then_some (message_number is_request d w) _ f e (λ request is_request_of e.
    then_some (pairs_of d ps) _ f e (λ pairs are_pairs e.
    let t = pairs_found d ps pairs are_pairs in
    subst (λ f. (has_core_form d Load f ≡ true) × (pair_count f ≡ length ps)) (same_Some _ f e)
    (and_from _ _ (and_from _ _ (message_found is_request d w request is_request_of) t.0) (some_pair ps pairs s.2 t.1), t.1)))
load_found d (Leave w) f s e = absurd s

-- the form of a line at an evict is declared
evict_found : (d : Draft) (shape : CoreShape) (f : CoreForm) → IsShapeOf Evict shape → core_form d shape ≡ Some f
    → (has_core_form d Evict f ≡ true) × (pair_count f ≡ shape_pairs shape)
unfolding core_form
evict_found d (Hit next) f s e = absurd s
evict_found d (Ask w ps) f s e = absurd s
evict_found d (Leave w) f s e =
    then_some (message_number is_request d w) _ f e (λ request is_request_of e.
    subst (λ f. (has_core_form d Evict f ≡ true) × (pair_count f ≡ 0)) (same_Some _ f e) (message_found is_request d w request is_request_of, refl))

-- a store is in the shapes of a load
store_shape : (shape : CoreShape) → IsShapeOf Store shape → IsShapeOf Load shape
store_shape (Hit next) s = s
store_shape (Ask w ps) s = s
store_shape (Leave w) s = s

-- and in its forms
store_form : (d : Draft) (f : CoreForm) → has_core_form d Store f ≡ has_core_form d Load f
store_form d (form.Hit next) = refl
store_form d (form.Ask request pairs) = refl
store_form d (form.Leave request) = refl

-- the form of a core line is declared
form_found : (d : Draft) (event : Event) (shape : CoreShape) (f : CoreForm) → IsShapeOf event shape → core_form d shape ≡ Some f
    → (has_core_form d event f ≡ true) × (pair_count f ≡ shape_pairs shape)
form_found d Load shape f s e = load_found d shape f s e
form_found d Store shape f s e = let t = load_found d shape f (store_shape shape s) e in (store_form d f ∙ t.0, t.1)
form_found d Evict shape f s e = evict_found d shape f s e

-- a core line is declared, in line n and with a pair for each two words
pub core_found : (d : Draft) (n : ℕ) (w : List ℕ) (event : Event) (shape : CoreShape) (c : CoreLine) → IsShapeOf event shape
    → core_of d n w event shape ≡ Some c → (has_core d c ≡ true) × (c.line ≡ n) × (pair_count c.form ≡ shape_pairs shape)
unfolding core_of
core_found d n w event shape c s e =
    then_some (cache_number d w) _ c e (λ state is_state e.
    then_some (core_form d shape) _ c e (λ f is_form e.
    let t = form_found d event shape f s is_form in
    subst (λ (c : CoreLine). (has_core d c ≡ true) × (c.line ≡ n) × (pair_count c.form ≡ shape_pairs shape)) (same_Some _ c e)
    (and_from _ _ (cache_found d w state is_state) t.0, refl, t.1)))

-- the reply of a take line is declared
take_reply_found : (d : Draft) (o : Option (List ℕ)) (r : Option ℕ) → take_reply d o ≡ Some r → option_map_or (has_message is_reply d) r true ≡ true
unfolding take_reply
take_reply_found d None r e = subst (λ r. option_map_or (has_message is_reply d) r true ≡ true) (same_Some None r e) refl
take_reply_found d (Some w) r e =
    then_some (message_number is_reply d w) _ r e (λ m is_m e.
    subst (λ r. option_map_or (has_message is_reply d) r true ≡ true) (same_Some (Some m) r e) (message_found is_reply d w m is_m))

-- a take line is declared, in line n
pub take_found : (d : Draft) (n : ℕ) (w f : List ℕ) (r : Option (List ℕ)) (x : List ℕ) (t : TakeLine) → take_of d n w f r x ≡ Some t
    → (has_take d t ≡ true) × (t.line ≡ n)
unfolding take_of
take_found d n w f r x t e =
    then_some (cache_number d w) _ t e (λ state is_state e.
    then_some (message_number is_forward d f) _ t e (λ forward is_forward_of e.
    then_some (take_reply d r) _ t e (λ reply is_reply_of e.
    then_some (cache_number d x) _ t e (λ next is_next e.
    subst (λ (t : TakeLine). (has_take d t ≡ true) × (t.line ≡ n)) (same_Some _ t e) (
      and_from _ _ (and_from _ _ (and_from _ _ (cache_found d w state is_state) (message_found is_forward d f forward is_forward_of))
          (take_reply_found d r reply is_reply_of)) (cache_found d x next is_next),
      refl,
    )))))

-- what a message does in a row is declared
by_class_found : (d : Draft) (n : ℕ) (x : MsgLine) (class : MsgClass) (a : Action) → slice_get d.messages n ≡ Some x → x.class ≡ class
    → action_by_class n class ≡ Some a → has_action d a ≡ true
by_class_found d n x (Request class) a is_x h e = absurd cc
by_class_found d n x (Forward class) a is_x h e =
    subst (λ a. has_action d a ≡ true) (same_Some _ a e)
    (ap (λ (o : Option MsgLine). option_map_or (λ y. is_forward y.class) o false) is_x ∙ ap is_forward h)
by_class_found d n x Reply a is_x h e =
    subst (λ a. has_action d a ≡ true) (same_Some _ a e)
    (ap (λ (o : Option MsgLine). option_map_or (λ y. is_reply y.class) o false) is_x ∙ ap is_reply h)

-- the action of a row is declared
action_found : (d : Draft) (w : List ℕ) (a : Action) → action_of d w ≡ Some a → has_action d a ≡ true
unfolding action_of
action_found d w a =
    word_test_some (λ a. has_action d a ≡ true) w (codes "count") _ _ a (λ h e. subst (λ a. has_action d a ≡ true) (same_Some _ _ e) refl)
    (λ e. then_some (number_of (message_names d) w) _ a e (λ n is_n e.
    then_some (slice_get d.messages n) _ a e (λ x is_x e. by_class_found d n x x.class a is_x refl e)))

-- the form of a row line is declared
row_form_found : (d : Draft) (shape : RowShape) (f : RowForm) → IsRowShape shape → row_form d shape ≡ Some f → has_row_form d f ≡ true
unfolding row_form
row_form_found d (row.Ask w sender a) f s e =
    then_some (message_number is_request d w) _ f e (λ request is_request_of e.
    then_some (action_of d a) _ f e (λ act is_act e.
    subst (λ f. has_row_form d f ≡ true) (same_Some _ f e) (and_from _ _ (message_found is_request d w request is_request_of) (action_found d a act is_act))))
row_form_found d (row.Evict Other others) f s e = absurd s
row_form_found d (row.Evict Sharer others) f s e = subst (λ f. has_row_form d f ≡ true) (same_Some _ f e) refl
row_form_found d (row.Evict Owner others) f s e = subst (λ f. has_row_form d f ≡ true) (same_Some _ f e) refl

-- a row line is declared, in line n
pub row_found : (d : Draft) (n : ℕ) (w : List ℕ) (shape : RowShape) (x : List ℕ) (r : RowLine) → IsRowShape shape → row_of d n w shape x ≡ Some r
    → (has_row d r ≡ true) × (r.line ≡ n)
unfolding row_of
row_found d n w shape x r s e =
    then_some (dir_number d w) _ r e (λ dir is_dir e.
    then_some (row_form d shape) _ r e (λ f is_form e.
    then_some (dir_number d x) _ r e (λ next is_next e.
    subst (λ (r : RowLine). (has_row d r ≡ true) × (r.line ≡ n)) (same_Some _ r e)
    (and_from _ _ (and_from _ _ (dir_found d w dir is_dir) (row_form_found d shape f s is_form)) (dir_found d x next is_next), refl))))
