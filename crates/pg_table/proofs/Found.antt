-- What is found in the tables.
use Rattle.std.proofs.Common.{◌≡◌, ℕ, List, [], ◌∷◌, Some, None, subst, ap, ◌∙◌}
use Rattle.std.specs.Prelude.{slice_get}
use Rattle.pg_perm.specs.declared.draft.Draft.{Draft}
use Rattle.pg_table.specs.declared.cache.Input.{Input}
use Rattle.pg_table.specs.Choices.{Choice, choices}
use Rattle.pg_table.specs.Tables.{Row, TableState, same_input, find_row}
use Rattle.pg_table.specs.Sound.{rows_for, Follows, Answers, IsSoundCache}
use Rattle.pg_table.proofs.ControllerRows.{found_row}

-- where a choice may be made, a row is found that follows one
pub sound_finds : (d : Draft) (t : List TableState) (n : ℕ) (s : TableState) (i : Input) (c : Choice) (cs : List Choice) → IsSoundCache d t → slice_get t n ≡ Some s
    → choices d s.desc i ≡ c ∷ cs → (r : Row) × (find_row t n i ≡ Some r) × Follows t (c ∷ cs) r
sound_finds d t n s i c cs sound get e =
    let (r, one, follows) : Answers t (c ∷ cs) (rows_for i s.rows) = subst (λ cs. Answers t cs (rows_for i s.rows)) e (sound.answers n s i get) in
    (r, found_row same_input t n s i get ∙ ap (λ rows. slice_get rows 0) one, follows)

-- where none may be, none is
pub sound_finds_none : (d : Draft) (t : List TableState) (n : ℕ) (s : TableState) (i : Input) → IsSoundCache d t → slice_get t n ≡ Some s
    → choices d s.desc i ≡ [] → find_row t n i ≡ None
sound_finds_none d t n s i sound get e =
    let none : Answers t [] (rows_for i s.rows) = subst (λ cs. Answers t cs (rows_for i s.rows)) e (sound.answers n s i get) in
    found_row same_input t n s i get ∙ ap (λ rows. slice_get rows 0) none
