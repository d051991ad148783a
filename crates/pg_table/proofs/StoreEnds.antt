-- A store may end under each of its tags: all final states of its row are one, so a tag that tells of one tells of each.
use Rattle.std.proofs.Common.{◌≡◌, ℕ, true, List, [], ◌∷◌, Option, Some, None, refl, sym, ap, ◌∙◌, inl}
use Rattle.std.specs.Prelude.{is_some}
use Rattle.std.specs.Option.{option_map_or}
use Rattle.pg_perm.specs.declared.kinds.Event.TheVariants.{Store}
use Rattle.pg_perm.specs.declared.kinds.Mode.TheVariants as mode
use Rattle.pg_perm.specs.declared.draft.Draft.{Draft}
use Rattle.pg_perm.specs.declared.draft.CoreLine.{CoreLine}
use Rattle.pg_perm.specs.declared.draft.CoreForm.{CoreForm}
use Rattle.pg_perm.specs.declared.draft.CoreForm.TheVariants as form
use Rattle.pg_perm.specs.declared.draft.ReplyName.TheVariants as reply
use Rattle.pg_perm.specs.Drafts.{IsWellFormed}
use Rattle.pg_terms.specs.Terms.{core_row}
use Rattle.pg_terms.specs.Rows.{final_state}
use Rattle.pg_shape.specs.Shaped.{IsShaped}
use Rattle.pg_table.specs.declared.cache.Desc.TheVariants.{Ask}
use Rattle.pg_table.specs.declared.cache.Phase.TheVariants.{Ad, A}
use Rattle.pg_table.specs.declared.cache.Tag.{Tag}
use Rattle.pg_table.specs.declared.cache.Input.TheVariants as at
use Rattle.pg_table.specs.Descriptors.{end_under_tag, final_states_in, final_states, is_tag_of, descs}
use Rattle.pg_table.specs.Choices.{store_final}
use Rattle.pg_table.specs.DueInputs.{may_end, is_due_input}
use Rattle.pg_table.specs.Sound.{is_among}
use Rattle.pg_table.proofs.Lists.{IsIn, slice_get_of_in, any_in, of_map}
use Rattle.pg_table.proofs.Members.{is_state}
use Rattle.pg_table.proofs.Finals.{final_in}

-- two final states of a store's row are one
form_ends_once : (d : Draft) (s x y : ℕ) (l : CoreLine) → IsShaped d → core_row d s Store ≡ Some l → (f : CoreForm) → l.form ≡ f
    → IsIn x (final_states_in f) → IsIn y (final_states_in f) → x ≡ y
form_ends_once d s x y l shape row (form.Hit next) is one other = absurd one
form_ends_once d s x y l shape row (form.Ask request pairs) is one other =
    let (p, p_in, p_ends) = of_map (λ p. p.fin) x pairs one in
    let (q, q_in, q_ends) = of_map (λ p. p.fin) y pairs other in
    let (j, p_at) = slice_get_of_in pairs p p_in in
    let (k, q_at) = slice_get_of_in pairs q q_in in
    sym p_ends ∙ shape.cores.one_end s j k request pairs p q l row is p_at q_at ∙ q_ends
form_ends_once d s x y l shape row (form.Leave request) is one other = absurd one

-- a store that began in one state has one final state
pub ends_once : (d : Draft) (s x y : ℕ) → IsShaped d → IsIn x (final_states d s Store) → IsIn y (final_states d s Store) → x ≡ y
ends_once d s x y shape one other = of (core_row d s Store) refl one other
  where
    of : (o : Option CoreLine) → core_row d s Store ≡ o → IsIn x (option_map_or (λ l. final_states_in l.form) o [])
        → IsIn y (option_map_or (λ l. final_states_in l.form) o []) → x ≡ y
    of None row one other = absurd one
    of (Some l) row one other = form_ends_once d s x y l shape row l.form refl one other

-- so a tag of the store tells of each of its final states
pub tells : (d : Draft) (s x : ℕ) (tag : Tag) → IsShaped d → is_tag_of d s Store tag ≡ true → IsIn x (final_states d s Store) → is_some (end_under_tag d x tag) ≡ true
tells d s x tag shape has one =
    let (y, other, told) = any_in (λ f. is_some (end_under_tag d f tag)) (final_states d s Store) has in
    ap (λ n. is_some (end_under_tag d n tag)) (ends_once d s x y shape one other) ∙ told

-- under a tag it may end with each option that is a final state, or none
ends_by : (d : Draft) (s : ℕ) (tag : Tag) (o : Option ℕ) → IsShaped d → is_tag_of d s Store tag ≡ true
    → ((x : ℕ) → o ≡ Some x → IsIn x (final_states d s Store)) → may_end d tag o ≡ is_some o
ends_by d s tag None shape has each = refl
ends_by d s tag (Some x) shape has each = tells d s x tag shape has (each x refl)

-- with each data that its row has a final state for
pub data_ends : (d : Draft) (s r : ℕ) (tag : Tag) → IsWellFormed d → IsShaped d → is_among (descs d mode.Defer) (Ask Store s Ad tag) ≡ true
    → is_due_input d (Ask Store s Ad tag) (at.DataAll r) ≡ is_some (final_state d s Store (reply.Reply r))
data_ends d s r tag well shape among =
    ends_by d s tag (final_state d s Store (reply.Reply r)) shape (is_state d mode.Defer (Ask Store s Ad tag) shape.perms among).2
    (final_in d s Store (reply.Reply r))

-- the first of some final states may be the end
first_ends : (d : Draft) (tag : Tag) (xs : List ℕ) (y : ℕ) → IsIn y xs → ((x : ℕ) → IsIn x xs → is_some (end_under_tag d x tag) ≡ true)
    → may_end d tag (store_final xs) ≡ true
first_ends d tag [] y among each = absurd among
first_ends d tag (x ∷ xs) y among each = each x (inl refl)

-- and with the last acknowledgement
pub acks_end : (d : Draft) (s : ℕ) (tag : Tag) → IsWellFormed d → IsShaped d → is_among (descs d mode.Defer) (Ask Store s A tag) ≡ true
    → is_due_input d (Ask Store s A tag) at.AckLast ≡ true
acks_end d s tag well shape among =
    let has : is_tag_of d s Store tag ≡ true = (is_state d mode.Defer (Ask Store s A tag) shape.perms among).2 in
    let (y, there, told) = any_in (λ f. is_some (end_under_tag d f tag)) (final_states d s Store) has in
    first_ends d tag (final_states d s Store) y there (λ x one. tells d s x tag shape has one)
