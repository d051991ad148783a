-- What the choices of a cache controller are, by state and input.
use Rattle.std.proofs.Common.{◌≡◌, ℕ, zero, suc, Bool, true, false, List, [], ◌∷◌, ◌++◌, Option, Some, None, refl, ap, ◌⊎◌, inl, inr}
use Rattle.std.specs.Prelude.{slice_get, if◌then◌else◌}
use Rattle.pg_perm.specs.declared.kinds.Event.{Event}
use Rattle.pg_perm.specs.declared.kinds.FwdClass.TheVariants as class
use Rattle.pg_perm.specs.declared.draft.Draft.{Draft}
use Rattle.pg_perm.specs.declared.draft.TakeLine.{TakeLine}
use Rattle.pg_terms.specs.Terms.{has_class, take_row}
use Rattle.pg_terms.specs.Due.{is_due}
use Rattle.pg_table.specs.declared.cache.Desc.{Desc}
use Rattle.pg_table.specs.declared.cache.Desc.TheVariants.{Stable, Ask}
use Rattle.pg_table.specs.declared.cache.Phase.{Phase}
use Rattle.pg_table.specs.declared.cache.Tag.{Tag}
use Rattle.pg_table.specs.declared.cache.Act.{Act}
use Rattle.pg_table.specs.declared.cache.Act.TheVariants as act
use Rattle.pg_table.specs.Descriptors.{end_under_tag}
use Rattle.pg_table.specs.Choices.{Choice, only_choice, choices_if_some, answer_acts, answer_choices, is_later, tag_by, later_choices, serve_acts, end_choices}

-- what is picked is one of the choices
abbrev pub IsChosen : List Choice → Choice → Type 0
IsChosen cs c = (k : ℕ) × (slice_get cs k ≡ Some c)

pub none_chosen : (c : Choice) → IsChosen [] c → ⊥
none_chosen c (k, e) = cc

pub only_chosen : (x c : Choice) → IsChosen (x ∷ []) c → c ≡ x
only_chosen x c (zero, e) = cc
only_chosen x c (suc k, e) = cc

pub one_of_two : (x y c : Choice) → IsChosen (x ∷ y ∷ []) c → (c ≡ x) ⊎ (c ≡ y)
one_of_two x y c (zero, e) = inl (cc)
one_of_two x y c (suc zero, e) = inr (cc)
one_of_two x y c (suc (suc k), e) = cc

-- a choice that is there where a test passes
pub where_true : (b : Bool) (cs : List Choice) (c : Choice) → IsChosen (if b then cs else []) c → (b ≡ true) × IsChosen cs c
where_true true cs c h = (refl, h)
where_true false cs c h = absurd (none_chosen c h)

-- and one that an option gives
pub where_given : {A : Type 0} (o : Option A) (f : A → List Choice) (c : Choice) → IsChosen (choices_if_some o f) c → (x : A) × (o ≡ Some x) × IsChosen (f x) c
where_given None f c h = absurd (none_chosen c h)
where_given (Some x) f c h = (x, refl, h)

-- a forward that is answered
pub record IsAnswer (d : Draft) (s f : ℕ) (onward : ℕ → Desc) (c : Choice) : Type 0 where
  pub due : is_due d s f ≡ true
  pub take : TakeLine
  pub row : take_row d s f ≡ Some take
  pub acts : c.acts ≡ answer_acts d f take.reply
  pub next : c.next ≡ onward take.next

pub answers : (d : Draft) (s f : ℕ) (onward : ℕ → Desc) (c : Choice) → IsChosen (answer_choices d s f onward) c → IsAnswer d s f onward c
answers d s f onward c h =
    let (due, h) = where_true (is_due d s f) (choices_if_some (take_row d s f) (λ t. only_choice (answer_acts d f t.reply) (onward t.next))) c h in
    let (t, row, h) = where_given (take_row d s f) (λ t. only_choice (answer_acts d f t.reply) (onward t.next)) c h in
    let same = only_chosen (record { acts = answer_acts d f t.reply; next = onward t.next }) c h in
    record { due = due; take = t; row = row; acts = ap (λ (c : Choice). c.acts) same; next = ap (λ (c : Choice). c.next) same }

-- a later forward waits, or is taken
abbrev pub taken : Draft → Event → ℕ → Phase → ℕ → Choice
taken d e s ph f = record { acts = (if has_class class.Inv d f then act.Ack else act.Defer) ∷ []; next = Ask e s ph (tag_by d f) }

pub laters : (d : Draft) (s : ℕ) (e : Event) (ph : Phase) (t : Tag) (f : ℕ) (c : Choice) → IsChosen (later_choices d s e ph t f) c
    → (is_later d s e t f ≡ true) × ((c ≡ record { acts = act.Stall ∷ []; next = Ask e s ph t }) ⊎ (c ≡ taken d e s ph f))
laters d s e ph t f c h =
    let (is, h) = where_true (is_later d s e t f) (record { acts = act.Stall ∷ []; next = Ask e s ph t } ∷ taken d e s ph f ∷ []) c h in
    (is, one_of_two (record { acts = act.Stall ∷ []; next = Ask e s ph t }) (taken d e s ph f) c h)

-- the operation is done
pub record IsEnd (d : Draft) (t : Tag) (first : List Act) (o : Option ℕ) (c : Choice) : Type 0 where
  pub final : ℕ
  pub from : o ≡ Some final
  pub state : ℕ
  pub after : end_under_tag d final t ≡ Some state
  pub acts : c.acts ≡ first ++ act.Done ∷ [] ++ serve_acts t
  pub next : c.next ≡ Stable state

pub ends_so : (d : Draft) (t : Tag) (acts : List Act) (o : Option ℕ) (c : Choice) → IsChosen (end_choices d t acts o) c → IsEnd d t acts o c
ends_so d t acts None c h = absurd (none_chosen c h)
ends_so d t acts (Some f) c h =
    let (x, at, h) = where_given (end_under_tag d f t) (λ x. only_choice (acts ++ act.Done ∷ [] ++ serve_acts t) (Stable x)) c h in
    let same = only_chosen (record { acts = acts ++ act.Done ∷ [] ++ serve_acts t; next = Stable x }) c h in
    record { final = f; from = refl; state = x; after = at; acts = ap (λ (c : Choice). c.acts) same; next = ap (λ (c : Choice). c.next) same }
