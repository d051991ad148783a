-- What sound tables pick.
use Rattle.std.proofs.Common.{◌≡◌, ℕ, zero, suc, true, List, [], ◌∷◌, Option, Some, None, refl, sym, subst, ap, ◌∙◌}
use Rattle.std.specs.Prelude.{slice_get}
use Rattle.std.specs.Option.{option_map, option_and_then}
use Rattle.std.proofs.lemmas.Option.{same_Some}
use Rattle.pg_perm.specs.declared.draft.Draft.{Draft}
use Rattle.pg_table.specs.declared.cache.Act.{Act}
use Rattle.pg_table.specs.declared.cache.Desc.{Desc}
use Rattle.pg_table.specs.declared.cache.Input.{Input}
use Rattle.pg_table.specs.Controllers.{state_at}
use Rattle.pg_table.specs.Choices.{Choice, choices}
use Rattle.pg_table.specs.Tables.{Row, TableState, number_of}
use Rattle.pg_table.specs.Sound.{is_among, states_of, IsSoundCache}
use Rattle.pg_table.specs.Pick.{choice_in, pick}
use Rattle.pg_table.proofs.Lists.{get_map}
use Rattle.pg_table.proofs.Numbers.{at_among, number_of_at}
use Rattle.pg_table.proofs.Found.{sound_finds, sound_finds_none}

-- the state that a number is of stands there among the states
pub states_of_at : (t : List TableState) (n : ℕ) → slice_get (states_of t) n ≡ state_at t n
states_of_at [] n = refl
states_of_at (x ∷ xs) zero = refl
states_of_at (x ∷ xs) (suc n) = states_of_at xs n

-- and is one of the table
state_at_among : (t : List TableState) (n : ℕ) (s : Desc) → state_at t n ≡ Some s → is_among (states_of t) s ≡ true
state_at_among t n s h = at_among (states_of t) n s (states_of_at t n ∙ h)

-- a state that is among those of a table stands with its rows at its number
stands : (t : List TableState) (s : Desc) → is_among (states_of t) s ≡ true
    → (x : TableState) × (slice_get t (number_of (states_of t) s) ≡ Some x) × (x.desc ≡ s)
stands t s among = get_map (λ x. x.desc) t (number_of (states_of t) s) s (number_of_at (states_of t) s among)

-- a row that does what a choice says and leads where it says is that choice
pub row_is_choice : (t : List TableState) (r : Row) (c : Choice) → r.acts ≡ c.acts → state_at t r.next ≡ Some c.next → choice_in t r ≡ Some c
row_is_choice t r c acts leads =
    ap (λ (o : Option Desc). option_map (λ s. record { acts = r.acts; next = s }) o) leads
    ∙ ap (λ (acts : List Act). Some (record { acts = acts; next = c.next })) acts

-- where there is a choice one is picked, which leads to a state of the table
picks : (d : Draft) (t : List TableState) (s : Desc) (i : Input) (c : Choice) (cs : List Choice) → IsSoundCache d t → is_among (states_of t) s ≡ true
    → choices d s i ≡ c ∷ cs
    → (e : Choice) × (pick t s i ≡ Some e) × ((k : ℕ) × (slice_get (choices d s i) k ≡ Some e)) × (is_among (states_of t) e.next ≡ true)
picks d t s i c cs sound among h =
    let (x, get, is) = stands t s among in
    let (r, found, follows) = sound_finds d t (number_of (states_of t) s) x i c cs sound get (ap (λ s. choices d s i) is ∙ h) in
    let (k, e, chose, acts, leads) = follows in (
      e,
      ap (λ (o : Option Row). option_and_then (choice_in t) o) found ∙ row_is_choice t r e acts leads,
      (k, ap (λ cs. slice_get cs k) h ∙ chose),
      state_at_among t r.next e.next leads,
    )

pub picks_some : (d : Draft) (t : List TableState) (s : Desc) (i : Input) (c : Choice) (cs : List Choice) → IsSoundCache d t → is_among (states_of t) s ≡ true
    → choices d s i ≡ c ∷ cs → (e : Choice) × (pick t s i ≡ Some e)
picks_some d t s i c cs sound among h = let (e, picked, one, leads) = picks d t s i c cs sound among h in (e, picked)

-- where there is none, none is
pub picks_none : (d : Draft) (t : List TableState) (s : Desc) (i : Input) → IsSoundCache d t → is_among (states_of t) s ≡ true → choices d s i ≡ [] → pick t s i ≡ None
picks_none d t s i sound among h =
    let (x, get, is) = stands t s among in
    ap (λ (o : Option Row). option_and_then (choice_in t) o)
    (sound_finds_none d t (number_of (states_of t) s) x i sound get (ap (λ s. choices d s i) is ∙ h))

-- what is picked is one of the choices, and leads to a state of the table
picked_follows : (d : Draft) (t : List TableState) (s : Desc) (i : Input) (c : Choice) → IsSoundCache d t → is_among (states_of t) s ≡ true
    → pick t s i ≡ Some c → ((k : ℕ) × (slice_get (choices d s i) k ≡ Some c)) × (is_among (states_of t) c.next ≡ true)
picked_follows d t s i c sound among h = at (choices d s i) refl
  where
    at : (cs : List Choice) → choices d s i ≡ cs → ((k : ℕ) × (slice_get (choices d s i) k ≡ Some c)) × (is_among (states_of t) c.next ≡ true)
    at [] e = absurd (let none : pick t s i ≡ None = picks_none d t s i sound among e in cc)
    at (x ∷ xs) e =
        let (y, picked, one, leads) = picks d t s i x xs sound among e in
        let same : y ≡ c = same_Some y c (sym picked ∙ h) in
        subst (λ (c : Choice). ((k : ℕ) × (slice_get (choices d s i) k ≡ Some c)) × (is_among (states_of t) c.next ≡ true)) same (one, leads)

pub picks_choice : (d : Draft) (t : List TableState) (s : Desc) (i : Input) (c : Choice) → IsSoundCache d t → is_among (states_of t) s ≡ true
    → pick t s i ≡ Some c → (k : ℕ) × (slice_get (choices d s i) k ≡ Some c)
picks_choice d t s i c sound among h = (picked_follows d t s i c sound among h).0

pub picks_onward : (d : Draft) (t : List TableState) (s : Desc) (i : Input) (c : Choice) → IsSoundCache d t → is_among (states_of t) s ≡ true
    → pick t s i ≡ Some c → is_among (states_of t) c.next ≡ true
picks_onward d t s i c sound among h = (picked_follows d t s i c sound among h).1
