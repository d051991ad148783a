-- What may be done with a forward that meets an outstanding operation, by the race order.
use Rattle.std.proofs.Common.{◌≡◌, ℕ, Bool, true, false, not, [], ◌∷◌, ◌++◌, Option, Some, None, refl, sym, subst, ap, ◌∙◌, inl, inr}
use Rattle.std.specs.Prelude.{◌&&◌, slice_get, if◌then◌else◌}
use Rattle.std.specs.List.{list_any}
use Rattle.std.specs.Option.{option_map, option_map_or, option_and_then}
use Rattle.std.proofs.lemmas.Option.{same_Some}
use Rattle.std.proofs.lemmas.Bool.{and_parts}
use Rattle.pg_perm.specs.declared.kinds.Role.{Role}
use Rattle.pg_perm.specs.declared.kinds.Role.TheVariants as role
use Rattle.pg_perm.specs.declared.kinds.Event.{Event}
use Rattle.pg_perm.specs.declared.kinds.Event.TheVariants.{Load, Store, Evict}
use Rattle.pg_perm.specs.declared.kinds.Mode.{Mode}
use Rattle.pg_perm.specs.declared.kinds.Side.{Side}
use Rattle.pg_perm.specs.declared.kinds.Side.TheVariants.{Before, After}
use Rattle.pg_perm.specs.declared.kinds.FwdClass.{FwdClass}
use Rattle.pg_perm.specs.declared.kinds.FwdClass.TheVariants.{Inv, Share, Keep, Drop}
use Rattle.pg_perm.specs.declared.draft.Draft.{Draft}
use Rattle.pg_perm.specs.declared.draft.CacheLine.{CacheLine}
use Rattle.pg_perm.specs.declared.draft.TakeLine.{TakeLine}
use Rattle.pg_perm.specs.declared.draft.MsgLine.{MsgLine}
use Rattle.pg_perm.specs.declared.draft.MsgClass.{MsgClass}
use Rattle.pg_perm.specs.declared.draft.MsgClass.TheVariants as message
use Rattle.pg_perm.specs.Drafts.{IsWellFormed}
use Rattle.pg_terms.specs.Terms.{is, is_out, is_shared, is_owner, is_read_perm, is_read_owner, cache_is, out, shared, same_forward, is_forward_of, has_class, take_row}
use Rattle.pg_terms.specs.Due.{is_due}
use Rattle.pg_shape.specs.Shaped.{IsShaped}
use Rattle.pg_shape.proofs.Searches.{not_both, not_true, position_get, get_below, map_or_get}
use Rattle.pg_shape.proofs.Shaped.{is_then_some}
use Rattle.pg_directory.proofs.Holders.{is_same}
use Rattle.pg_race.specs.Sides.{side, IsOutstanding}
use Rattle.pg_table.specs.declared.cache.Desc.{Desc}
use Rattle.pg_table.specs.declared.cache.Desc.TheVariants.{Stable, Ask, Leave}
use Rattle.pg_table.specs.declared.cache.Phase.TheVariants.{D, Ad, Ac, A}
use Rattle.pg_table.specs.declared.cache.Tag.{Tag}
use Rattle.pg_table.specs.declared.cache.Tag.TheVariants as tag
use Rattle.pg_table.specs.declared.cache.Input.TheVariants as at
use Rattle.pg_table.specs.declared.cache.Act.TheVariants as act
use Rattle.pg_table.specs.Choices.{only_choice, choices_if_some, data_acts, answer_acts, answer_choices, earlier_choices, later_choices, is_earlier, choices}
use Rattle.pg_table.specs.Descriptors.{descs}
use Rattle.pg_table.specs.Sound.{is_among}
use Rattle.pg_table.proofs.Members.{IsStart, IsState, is_state}
use Rattle.pg_infer.specs.Race.{class_in, class_of, is_before, role_of_start, is_tagged, event_of, start_of, role_of, is_granted, choices_by_side, is_wait, is_answer}

has_class_in : (class : FwdClass) (m : MsgClass) → is_forward_of class m ≡ option_map_or (same_forward class) (class_in m) false
has_class_in class (message.Request c) = refl
has_class_in class (message.Forward c) = refl
has_class_in class message.Reply = refl

has_class_at : (class : FwdClass) (o : Option MsgLine)
    → option_map_or (λ m. is_forward_of class m.class) o false ≡ option_map_or (same_forward class) (option_and_then (λ m. class_in m.class) o) false
has_class_at class None = refl
has_class_at class (Some m) = has_class_in class m.class

-- a message is a forward of a class just where that is its class
has_class_is : (class : FwdClass) (d : Draft) (f : ℕ) → has_class class d f ≡ option_map_or (same_forward class) (class_of d f) false
has_class_is class d f = has_class_at class (slice_get d.messages f)

decided_start : (is_shared : Bool) (class : FwdClass) → (is_shared && same_forward Inv class) ≡ is_before (side (if is_shared then role.Shared else role.Out) Store false class)
decided_start true Inv = refl
decided_start true Share = refl
decided_start true Keep = refl
decided_start true Drop = refl
decided_start false Inv = refl
decided_start false Share = refl
decided_start false Keep = refl
decided_start false Drop = refl

pub race_decides : (d : Draft) (s : ℕ) (t : Tag) (f : ℕ) (class : FwdClass) → class_of d f ≡ Some class
    → is_earlier d s t f ≡ is_before (side (role_of_start d s) Store (is_tagged t) class)
race_decides d s tag.Plain f class e =
    ap (λ (b : Bool). is (shared d) s && b) (has_class_is Inv d f ∙ ap (λ (o : Option FwdClass). option_map_or (same_forward Inv) o false) e)
    ∙ decided_start (is (shared d) s) class
race_decides d s tag.Kept f class e = refl
race_decides d s tag.Gave f class e = refl
race_decides d s tag.Gone f class e = refl

and_false : (b : Bool) → (b && false) ≡ false
and_false true = refl
and_false false = refl

-- what is no forward comes before nothing
pub no_forward_before : (d : Draft) (s : ℕ) (t : Tag) (f : ℕ) → class_of d f ≡ None → is_earlier d s t f ≡ false
no_forward_before d s tag.Plain f e =
    ap (λ (b : Bool). is (shared d) s && b) (has_class_is Inv d f ∙ ap (λ (o : Option FwdClass). option_map_or (same_forward Inv) o false) e) ∙ and_false (is (shared d) s)
no_forward_before d s tag.Kept f e = refl
no_forward_before d s tag.Gave f e = refl
no_forward_before d s tag.Gone f e = refl

-- The roles of the states in which operations begin

out_role_is : (r : Role) → is_out r ≡ true → r ≡ role.Out
out_role_is role.Out h = refl
out_role_is role.Shared h = absurd cc
out_role_is role.Owner h = absurd cc

shared_role_is : (r : Role) → is_shared r ≡ true → r ≡ role.Shared
shared_role_is role.Out h = absurd cc
shared_role_is role.Shared h = refl
shared_role_is role.Owner h = absurd cc

owner_role_is : (r : Role) → is_owner r ≡ true → r ≡ role.Owner
owner_role_is role.Out h = absurd cc
owner_role_is role.Shared h = absurd cc
owner_role_is role.Owner h = refl

role_at : (d : Draft) (s : ℕ) (c : CacheLine) (r : Role) → slice_get d.caches s ≡ Some c → c.role ≡ r → role_of d s ≡ Some r
role_at d s c r get e = ap (λ (o : Option CacheLine). option_map (λ c. c.role) o) get ∙ ap Some e

role_of_out : (d : Draft) (s : ℕ) → out d ≡ Some s → role_of d s ≡ Some role.Out
role_of_out d s e = let (c, get, t) = (position_get (λ c. is_out c.role) d.caches s e).1 in role_at d s c role.Out get (out_role_is c.role t)

role_of_shared : (d : Draft) (s : ℕ) → shared d ≡ Some s → role_of d s ≡ Some role.Shared
role_of_shared d s e = let (c, get, t) = (position_get (λ c. is_shared c.role) d.caches s e).1 in role_at d s c role.Shared get (shared_role_is c.role t)

role_of_owner : (d : Draft) (s : ℕ) → cache_is (λ c. is_owner c.role) d s ≡ true → role_of d s ≡ Some role.Owner
role_of_owner d s e = let (c, get, t) = map_or_get (λ c. is_owner c.role) (slice_get d.caches s) e in role_at d s c role.Owner get (owner_role_is c.role t)

read_owner_owns : (d : Draft) (s : ℕ) → cache_is is_read_owner d s ≡ true → cache_is (λ c. is_owner c.role) d s ≡ true
read_owner_owns d s e =
    let (c, get, t) = map_or_get is_read_owner (slice_get d.caches s) e in
    ap (λ (o : Option CacheLine). option_map_or (λ c. is_owner c.role) o false) get ∙ (and_parts (is_owner c.role) (is_read_perm c.perm) t).0

-- each state in which a store asks has a role
start_has_role : (d : Draft) (s : ℕ) → IsStart d s → (r : Role) × (role_of d s ≡ Some r)
start_has_role d s (inl e) = (role.Out, role_of_out d s e)
start_has_role d s (inr (inl e)) = (role.Shared, role_of_shared d s e)
start_has_role d s (inr (inr e)) = (role.Owner, role_of_owner d s (read_owner_owns d s e))

-- out isn't shared
out_not_shared : (d : Draft) (s : ℕ) → out d ≡ Some s → is (shared d) s ≡ false
out_not_shared d s e = not_true (is (shared d) s) (λ h. absurd (at (same_Some role.Out role.Shared (sym (role_of_out d s e) ∙ role_of_shared d s (is_then_some (shared d) s h)))))
  where
    at : role.Out ≡ role.Shared → ⊥
    at e = absurd cc

-- a store that waits for data began in a state of the role that its test gives
role_of_first : (d : Draft) (s : ℕ) → IsStart d s → cache_is (λ c. is_owner c.role) d s ≡ false → role_of d s ≡ Some (role_of_start d s)
role_of_first d s (inl e) free = role_of_out d s e ∙ ap (λ (b : Bool). Some (if b then role.Shared else role.Out)) (sym (out_not_shared d s e))
role_of_first d s (inr (inl e)) free = role_of_shared d s e ∙ ap (λ (b : Bool). Some (if b then role.Shared else role.Out)) (sym (is_same (shared d) s e))
role_of_first d s (inr (inr e)) free = absurd (not_both (cache_is (λ c. is_owner c.role) d s) (read_owner_owns d s e) free)

-- What is done, by the state

-- a forward that a state meets is treated as on the side where the race order puts its class
abbrev IsDecided : Draft → Desc → Event → ℕ → FwdClass → Role → Type 0
IsDecided d s event f class start = choices d s (at.Forward f) ≡ choices_by_side d (side start event (is_granted s) class) s f

decided_load : (d : Draft) (s : ℕ) (t : Tag) (f : ℕ) (class : FwdClass) → IsDecided d (Ask Load s D t) Load f class role.Out
decided_load d s tag.Plain f class = refl
decided_load d s tag.Kept f class = refl
decided_load d s tag.Gave f class = refl
decided_load d s tag.Gone f class = refl

decided_first : (d : Draft) (s : ℕ) (t : Tag) (f : ℕ) (class : FwdClass) → class_of d f ≡ Some class
    → IsDecided d (Ask Store s Ad t) Store f class (role_of_start d s)
decided_first d s t f class e =
    ap (λ (b : Bool). if b then earlier_choices d s f else later_choices d s Store Ad t f) (race_decides d s t f class e)
    ∙ at (side (role_of_start d s) Store (is_tagged t) class)
  where
    at : (x : Side) → (if is_before x then earlier_choices d s f else later_choices d s Store Ad t f) ≡ choices_by_side d x (Ask Store s Ad t) f
    at Before = refl
    at After = refl

decided_counting : (d : Draft) (s : ℕ) (t : Tag) (f : ℕ) (class : FwdClass) → t ≡ tag.Plain → IsDecided d (Ask Store s Ac t) Store f class role.Owner
decided_counting d s t f class e = subst (λ (t : Tag). IsDecided d (Ask Store s Ac t) Store f class role.Owner) (sym e) refl

decided_waiting : (d : Draft) (s : ℕ) (t : Tag) (f : ℕ) (class : FwdClass) (r : Role) → IsDecided d (Ask Store s A t) Store f class r
decided_waiting d s t f class r = refl

decided_leaving : (d : Draft) (s : ℕ) (f : ℕ) (class : FwdClass) (r : Role) → IsDecided d (Leave s) Evict f class r
decided_leaving d s f class r = refl

abbrev HasDecided : Draft → Desc → Event → ℕ → FwdClass → Type 0
HasDecided d s event f class = (start : Role) × (role_of d (start_of s) ≡ Some start) × IsOutstanding start event (is_granted s) × IsDecided d s event f class start

decided_ask : (d : Draft) (event : Event) (x : Desc) (f : ℕ) (class : FwdClass) (e : Event) → HasDecided d x e f class → Some e ≡ Some event → HasDecided d x event f class
decided_ask d event x f class e done same = subst (λ (v : Event). HasDecided d x v f class) (same_Some e event same) done

decided : (d : Draft) (m : Mode) (s : Desc) (event : Event) (f : ℕ) (class : FwdClass) → IsState d m s → event_of s ≡ Some event → class_of d f ≡ Some class
    → HasDecided d s event f class
decided d m (Stable s) event f class there e has = absurd cc
decided d m (Ask Load s D t) event f class there e has =
    decided_ask d event (Ask Load s D t) f class Load (role.Out, role_of_out d s there.0, refl, decided_load d s t f class) e
decided d m (Ask Store s Ad t) event f class there e has =
    decided_ask d event (Ask Store s Ad t) f class Store (role_of_start d s, role_of_first d s there.0 there.1, tt, decided_first d s t f class has) e
decided d m (Ask Store s Ac t) event f class there e has =
    decided_ask d event (Ask Store s Ac t) f class Store (role.Owner, role_of_owner d s there.1, tt, decided_counting d s t f class there.2) e
decided d m (Ask Store s A t) event f class there e has =
    let (r, begun) = start_has_role d s there.0 in
    decided_ask d event (Ask Store s A t) f class Store (r, begun, tt, decided_waiting d s t f class r) e
decided d m (Leave s) event f class there e has =
    let (c, get) = get_below d.caches s there in
    decided_ask d event (Leave s) f class Evict (c.role, role_at d s c c.role get refl, refl, decided_leaving d s f class c.role) e
decided d m _ event f class there e has = absurd there

-- the race order decides in each state with an outstanding operation
pub race_decides_all : (d : Draft) (m : Mode) (s : Desc) (event : Event) (f : ℕ) (class : FwdClass) → IsWellFormed d → IsShaped d → is_among (descs d m) s ≡ true
    → event_of s ≡ Some event → class_of d f ≡ Some class
    → (start : Role) × (role_of d (start_of s) ≡ Some start) × IsOutstanding start event (is_granted s)
    × (choices d s (at.Forward f) ≡ choices_by_side d (side start event (is_granted s) class) s f)
race_decides_all d m s event f class formed shaped among e has = decided d m s event f class (is_state d m s shaped.perms among) e has

-- Answers

answer_is : (inv share : Bool) (r : Option ℕ) → list_any is_wait (if inv then act.Ack ∷ [] else if share then data_acts r ++ act.Wb ∷ [] else data_acts r) ≡ false
answer_is true share r = refl
answer_is false true None = refl
answer_is false true (Some r) = refl
answer_is false false None = refl
answer_is false false (Some r) = refl

pub answers_do_not_wait : (d : Draft) (s : ℕ) (f : ℕ) (onward : ℕ → Desc) → is_answer (answer_choices d s f onward) ≡ true
answers_do_not_wait d s f onward = at (is_due d s f) (take_row d s f)
  where
    at : (due : Bool) (row : Option TakeLine) → is_answer (if due then choices_if_some row (λ t. only_choice (answer_acts d f t.reply) (onward t.next)) else []) ≡ true
    at false row = refl
    at true None = refl
    at true (Some t) = ap not (answer_is (has_class Inv d f) (has_class Share d f) t.reply)
