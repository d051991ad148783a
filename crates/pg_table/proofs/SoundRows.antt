-- The rows of sound tables, and the numbers of their states.
use Rattle.std.proofs.Common.{◌≡◌, ℕ, zero, suc, ◌⊎◌, inl, inr, Bool, true, false, ◌||◌, List, [], ◌∷◌, Option, Some, None, refl, sym, subst, ap, ◌∙◌}
use Rattle.std.specs.Prelude.{not, slice_get, if◌then◌else◌}
use Rattle.std.specs.List.{list_any}
use Rattle.std.specs.Option.{option_map, option_and_then}
use Rattle.std.proofs.lemmas.Bool.{not-true}
use Rattle.std.proofs.lemmas.Option.{same_Some}
use Rattle.pg_perm.specs.declared.kinds.Event.{Event}
use Rattle.pg_perm.specs.declared.kinds.FwdClass.TheVariants as class
use Rattle.pg_perm.specs.declared.draft.Draft.{Draft}
use Rattle.pg_terms.specs.Terms.{has_class}
use Rattle.pg_shape.proofs.Searches.{not_both, all_at}
use Rattle.pg_table.specs.declared.cache.Desc.{Desc}
use Rattle.pg_table.specs.declared.cache.Desc.TheVariants.{Ask}
use Rattle.pg_table.specs.declared.cache.Phase.{Phase}
use Rattle.pg_table.specs.declared.cache.Tag.{Tag}
use Rattle.pg_table.specs.declared.cache.Act.TheVariants as act
use Rattle.pg_table.specs.declared.cache.Input.{Input}
use Rattle.pg_table.specs.declared.cache.Input.TheVariants as at
use Rattle.pg_table.specs.Controllers.{state_at}
use Rattle.pg_table.specs.Choices.{Choice, tag_by, choices}
use Rattle.pg_table.specs.Stalls.{is_later_at, is_stall}
use Rattle.pg_table.specs.Tables.{Row, TableState, same_desc, has_input, number_of, find_row}
use Rattle.pg_table.specs.Sound.{is_among, states_of, rows_for, Follows, Answers, IsSoundCache}
use Rattle.pg_table.specs.Pick.{choice_in, pick}
use Rattle.pg_table.proofs.Same.{desc_same, same_input_self}
use Rattle.pg_table.proofs.Lists.{IsIn, in_of_slice_get, in_filter}
use Rattle.pg_table.proofs.Numbers.{number_is, number_of_at}
use Rattle.pg_table.proofs.Found.{sound_finds, sound_finds_none}
use Rattle.pg_table.proofs.Picked.{states_of_at, row_is_choice}
use Rattle.pg_table.proofs.Stalls.{both_choices, later_is_forward, others}

-- Numbers

-- a state stands at its number alone
pub number_of_state : (d : Draft) (t : List TableState) (n : ℕ) (s : Desc) → IsSoundCache d t → state_at t n ≡ Some s → number_of (states_of t) s ≡ n
number_of_state d t n s sound get = number_is same_desc desc_same (states_of t) n s sound.distinct (states_of_at t n ∙ get)

desc_at : (t : List TableState) (n : ℕ) (s : TableState) → slice_get t n ≡ Some s → state_at t n ≡ Some s.desc
desc_at t n s get = ap (λ (o : Option TableState). option_map (λ s. s.desc) o) get

pub number_of_row_state : (d : Draft) (t : List TableState) (n : ℕ) (s : TableState) → IsSoundCache d t → slice_get t n ≡ Some s → number_of (states_of t) s.desc ≡ n
number_of_row_state d t n s sound get = number_of_state d t n s.desc sound (desc_at t n s get)

pub state_at_number : (d : Draft) (t : List TableState) (s : Desc) → IsSoundCache d t → is_among (states_of t) s ≡ true → state_at t (number_of (states_of t) s) ≡ Some s
state_at_number d t s sound among = sym (states_of_at t (number_of (states_of t) s)) ∙ number_of_at (states_of t) s among

pub picked_is_found : (d : Draft) (t : List TableState) (n : ℕ) (s : TableState) (i : Input) → IsSoundCache d t → slice_get t n ≡ Some s
    → pick t s.desc i ≡ option_and_then (choice_in t) (find_row t n i)
picked_is_found d t n s i sound get = ap (λ (k : ℕ). option_and_then (choice_in t) (find_row t k i)) (number_of_row_state d t n s sound get)

pub found_is_picked : (d : Draft) (t : List TableState) (n : ℕ) (s : TableState) (i : Input) (r : Row) → IsSoundCache d t → slice_get t n ≡ Some s → find_row t n i ≡ Some r
    → (c : Choice) × (pick t s.desc i ≡ Some c) × (r.acts ≡ c.acts) × (r.next ≡ number_of (states_of t) c.next)
found_is_picked d t n s i r sound get found = at (choices d s.desc i) refl
  where
    at : (cs : List Choice) → choices d s.desc i ≡ cs → (c : Choice) × (pick t s.desc i ≡ Some c) × (r.acts ≡ c.acts) × (r.next ≡ number_of (states_of t) c.next)
    at [] e = absurd (let none : find_row t n i ≡ None = sound_finds_none d t n s i sound get e in cc)
    at (x ∷ xs) e =
        let (q, finds, (k, c, chose, acts, leads)) = sound_finds d t n s i x xs sound get e in
        let same : q ≡ r = same_Some q r (sym finds ∙ found) in
        let does : r.acts ≡ c.acts = ap (λ (r : Row). r.acts) (sym same) ∙ acts in
        let goes : state_at t r.next ≡ Some c.next = ap (λ (r : Row). state_at t r.next) (sym same) ∙ leads in (
          c,
          picked_is_found d t n s i sound get ∙ ap (λ (o : Option Row). option_and_then (choice_in t) o) found ∙ row_is_choice t r c does goes,
          does,
          sym (number_of_state d t r.next c.next sound goes),
        )

-- Rows

-- a row for an input is among those for it
row_is_for : (s : TableState) (k : ℕ) (r : Row) (i : Input) → slice_get s.rows k ≡ Some r → r.inputs ≡ i ∷ [] → IsIn r (rows_for i s.rows)
row_is_for s k r i get one =
    in_filter (λ r. has_input r.inputs i) r s.rows (ap (λ (is : List Input). has_input is i) one ∙ ap (λ b. b || false) (same_input_self i))
    (in_of_slice_get s.rows k r get)

-- a row of a sound table follows a choice
row_follows : (d : Draft) (t : List TableState) (n k : ℕ) (s : TableState) (r : Row) (i : Input) → IsSoundCache d t → slice_get t n ≡ Some s → slice_get s.rows k ≡ Some r
    → r.inputs ≡ i ∷ [] → Follows t (choices d s.desc i) r
row_follows d t n k s r i sound get row one = at (choices d s.desc i) refl (sound.answers n s i get)
  where
    among : IsIn r (rows_for i s.rows)
    among = row_is_for s k r i row one

    at : (cs : List Choice) → choices d s.desc i ≡ cs → Answers t cs (rows_for i s.rows) → Follows t cs r
    at [] e none = absurd (subst (IsIn r) none among)
    at (x ∷ xs) e (q, only, follows) = only_one (subst (IsIn r) only among)
      where
        only_one : IsIn r (q ∷ []) → Follows t (x ∷ xs) r
        only_one (inl same) = subst (Follows t (x ∷ xs)) same follows
        only_one (inr none) = absurd none

-- Later forwards

stays_at : (d : Draft) (t : List TableState) (n m : ℕ) (s : TableState) → IsSoundCache d t → slice_get t n ≡ Some s → state_at t m ≡ Some s.desc → m ≡ n
stays_at d t n m s sound get leads = sym (number_of_state d t m s.desc sound leads) ∙ number_of_row_state d t n s sound get

-- what a row does and where it leads, where its choice is one of two
abbrev pub Either : Draft → List TableState → ℕ → Event → ℕ → Phase → ℕ → Row → Type 0
Either d t n e x p f r = ((r.acts ≡ act.Stall ∷ []) × (r.next ≡ n))
    ⊎ ((r.acts ≡ (if has_class class.Inv d f then act.Ack else act.Defer) ∷ []) × (state_at t r.next ≡ Some (Ask e x p (tag_by d f))))

pub later_either : (d : Draft) (t : List TableState) (n k : ℕ) (s : TableState) (r : Row) (e : Event) (x : ℕ) (p : Phase) (g : Tag) (f : ℕ) → IsSoundCache d t
    → slice_get t n ≡ Some s → slice_get s.rows k ≡ Some r → s.desc ≡ Ask e x p g → r.inputs ≡ at.Forward f ∷ []
    → is_later_at d (Ask e x p g) (at.Forward f) ≡ true → Either d t n e x p f r
later_either d t n k s r e x p g f sound get row is one later =
    let follows : Follows t (choices d (Ask e x p g) (at.Forward f)) r =
    subst (λ (s : Desc). Follows t (choices d s (at.Forward f)) r) is (row_follows d t n k s r (at.Forward f) sound get row one) in
    by (subst (λ (cs : List Choice). Follows t cs r) (both_choices d e x p g f later) follows)
  where
    by : Follows t (record { acts = act.Stall ∷ []; next = Ask e x p g }
        ∷ record { acts = (if has_class class.Inv d f then act.Ack else act.Defer) ∷ []; next = Ask e x p (tag_by d f) } ∷ []) r → Either d t n e x p f r
    by (zero, c, chose, acts, leads) =
        let same = same_Some (record { acts = act.Stall ∷ []; next = Ask e x p g }) c chose in
        inl (acts ∙ ap (λ (c : Choice). c.acts) (sym same), stays_at d t n r.next s sound get (leads ∙ ap (λ (c : Choice). Some c.next) (sym same) ∙ ap Some (sym is)))
    by (suc zero, c, chose, acts, leads) =
        let same = same_Some (record { acts = (if has_class class.Inv d f then act.Ack else act.Defer) ∷ []; next = Ask e x p (tag_by d f) }) c chose in
        inr (acts ∙ ap (λ (c : Choice). c.acts) (sym same), leads ∙ ap (λ (c : Choice). Some c.next) (sym same))
    by (suc (suc j), c, chose, acts, leads) = absurd cc

pub stalls_alone : (d : Draft) (t : List TableState) (n k : ℕ) (s : TableState) (r : Row) (i : Input) → IsSoundCache d t → slice_get t n ≡ Some s → slice_get s.rows k ≡ Some r
    → r.inputs ≡ i ∷ [] → list_any is_stall r.acts ≡ true → (is_later_at d s.desc i ≡ true) × (r.acts ≡ act.Stall ∷ []) × (r.next ≡ n)
stalls_alone d t n k s r i sound get row one waits = side (is_later_at d s.desc i) refl
  where
    taken : (b : Bool) → list_any is_stall ((if b then act.Ack else act.Defer) ∷ []) ≡ false
    taken true = refl
    taken false = refl

    by : (f : ℕ) (e : Event) (x : ℕ) (p : Phase) → Either d t n e x p f r → (r.acts ≡ act.Stall ∷ []) × (r.next ≡ n)
    by f e x p (inl both) = both
    by f e x p (inr (acts, leads)) = absurd (not_both (list_any is_stall r.acts) waits (ap (list_any is_stall) acts ∙ taken (has_class class.Inv d f)))

    side : (b : Bool) → is_later_at d s.desc i ≡ b → (is_later_at d s.desc i ≡ true) × (r.acts ≡ act.Stall ∷ []) × (r.next ≡ n)
    side true later =
        let (e, x, p, g, f, is, forward) = later_is_forward d s.desc i later in
        let comes : is_later_at d (Ask e x p g) (at.Forward f) ≡ true = cc (later, is, forward) in
        let (acts, stays) = by f e x p (later_either d t n k s r e x p g f sound get row is (one ∙ ap (λ (i : Input). i ∷ []) forward) comes) in
        (later, acts, stays)
    side false earlier =
        let (j, c, chose, acts, leads) = row_follows d t n k s r i sound get row one in
        let goes = all_at (λ (c : Choice). not (list_any is_stall c.acts)) (choices d s.desc i) j c (others d s.desc i earlier) chose in
        absurd (not_both (list_any is_stall r.acts) waits (ap (list_any is_stall) acts ∙ not-true (list_any is_stall c.acts) goes))
