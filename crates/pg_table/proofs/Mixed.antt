-- Mixed tables are sound, and so are the generated ones.
use Rattle.std.proofs.Common.{◌≡◌, true, List, [], ◌∷◌, map, Option, Some, refl, sym, subst, ap, ◌∙◌}
use Rattle.std.specs.Prelude.{slice_get}
use Rattle.std.specs.List.{IsDistinct}
use Rattle.pg_perm.specs.declared.kinds.Mode.{Mode}
use Rattle.pg_perm.specs.declared.draft.Draft.{Draft}
use Rattle.pg_perm.specs.Drafts.{IsWellFormed}
use Rattle.pg_shape.specs.Shaped.{IsShaped}
use Rattle.pg_table.specs.declared.cache.Desc.{Desc}
use Rattle.pg_table.specs.declared.cache.Input.{Input}
use Rattle.pg_table.specs.Controllers.{row_for, state_at}
use Rattle.pg_table.specs.Descriptors.{descs}
use Rattle.pg_table.specs.Choices.{Choice, choices}
use Rattle.pg_table.specs.GeneratedStates.{inputs, choice_of_mode}
use Rattle.pg_table.specs.MixedTables.{mixed_rows, mixed_table, IsMix}
use Rattle.pg_table.specs.Tables.{TableState, same_desc, number_of, table_row, cache_table, dir_table}
use Rattle.pg_table.specs.Sound.{is_among, states_of, rows_for, Answers, IsSoundCache, IsSound}
use Rattle.pg_table.proofs.ControllerRows.{states_listed, state_listed, state_whole}
use Rattle.pg_table.proofs.Chosen.{one_chosen}
use Rattle.pg_table.proofs.RowsFor.{rows_for_input, row_single}
use Rattle.pg_table.proofs.Numbers.{at_among, number_of_at}
use Rattle.pg_table.proofs.Distinct.{descs_distinct}
use Rattle.pg_table.proofs.Modes.{stall_among, among_defer}
use Rattle.pg_table.proofs.Onward.{chosen_leads_to_state}

-- The rows of a state

-- the choice that is picked
abbrev picked : Draft → (Desc → Input → Mode) → Desc → Input → Option Choice
picked d pick s i = choice_of_mode (pick s i) (choices d s i)

-- the number of a state is that of the state in the table
numbered : (d : Draft) (pick : Desc → Input → Mode) (ss : List Desc) (s : Desc) → is_among ss s ≡ true → state_at (mixed_table d pick ss) (number_of ss s) ≡ Some s
numbered d pick ss s h = state_listed same_desc (picked d pick) (inputs d) ss ss (number_of ss s) ∙ number_of_at ss s h

answers_for : (d : Draft) (pick : Desc → Input → Mode) (ss : List Desc) (x : Desc) (i : Input) (cs : List Choice) → IsWellFormed d → IsShaped d → IsMix d pick ss
    → is_among ss x ≡ true → choices d x i ≡ cs → Answers (mixed_table d pick ss) cs (rows_for i (map (table_row ss) (mixed_rows d pick x)))
answers_for d pick ss x i [] w sh mix among e =
    rows_for_input d pick ss x i w sh ∙ ap (λ cs. map (table_row ss) (row_for i (choice_of_mode (pick x i) cs))) e
answers_for d pick ss x i (c ∷ cs) w sh mix among e =
    let (k, f, get, chose) = one_chosen (pick x i) c cs in
    let all = rows_for_input d pick ss x i w sh ∙ ap (λ cs. map (table_row ss) (row_for i (choice_of_mode (pick x i) cs))) e
    ∙ ap (λ o. map (table_row ss) (row_for i o)) chose in
    let leads = numbered d pick ss f.next (mix.onward x i f among (ap (choice_of_mode (pick x i)) e ∙ chose)) in
    (table_row ss (record { input = i; choice = f }), all, (k, f, get, refl, leads))

-- Sound tables

sound_cache : (d : Draft) (pick : Desc → Input → Mode) (ss : List Desc) → IsWellFormed d → IsShaped d → IsMix d pick ss → IsSoundCache d (mixed_table d pick ss)
sound_cache d pick ss w sh mix = record {
  distinct = subst (IsDistinct same_desc) (sym names) mix.distinct;
  known = λ s h. mix.known s (subst (λ ss. is_among ss s ≡ true) names h);
  needed = λ s h. subst (λ ss. is_among ss s ≡ true) (sym names) (mix.needed s h);
  answers = λ n s i h.
      let (x, get, is) = state_whole same_desc (picked d pick) (inputs d) ss n s h in
      subst (λ (s : TableState). Answers (mixed_table d pick ss) (choices d s.desc i) (rows_for i s.rows)) is
      (answers_for d pick ss x i (choices d x i) w sh mix (at_among ss n x get) refl);
  single = λ n k s r h g.
      let (x, get, is) = state_whole same_desc (picked d pick) (inputs d) ss n s h in
      row_single ss (mixed_rows d pick x) k r (subst (λ (s : TableState). slice_get s.rows k ≡ Some r) (sym is) g);
}
  where
    names : states_of (mixed_table d pick ss) ≡ ss
    names = states_listed same_desc (picked d pick) (inputs d) ss ss

-- mixed tables are sound
pub mixed_is_sound : (d : Draft) (pick : Desc → Input → Mode) (ss : List Desc) → IsWellFormed d → IsShaped d → IsMix d pick ss
    → IsSound d (mixed_table d pick ss) (dir_table d)
mixed_is_sound d pick ss w sh mix = record { cache = sound_cache d pick ss w sh mix; home = refl }

-- the states of a mode are a mix, in which all forwards wait or all are put off
mode_is_mix : (d : Draft) (m : Mode) → IsWellFormed d → IsShaped d → IsMix d (λ s i. m) (descs d m)
mode_is_mix d m w sh = record {
  distinct = descs_distinct d m w sh;
  known = λ s. among_defer d m s w sh;
  needed = λ s. stall_among d m s w sh;
  onward = λ s i c. chosen_leads_to_state d m s i c w sh;
}

-- and so the generated tables are sound
pub generated_is_sound : (d : Draft) (m : Mode) → IsWellFormed d → IsShaped d → IsSound d (cache_table d m) (dir_table d)
generated_is_sound d m w sh = mixed_is_sound d (λ s i. m) (descs d m) w sh (mode_is_mix d m w sh)
