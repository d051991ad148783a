-- A test that states are those of a mixed table.
use Rattle.std.proofs.Common.{◌≡◌, Bool, true, ◌&&◌, List, [], ◌∷◌, Option, Some, None, refl, sym, ap, ◌∙◌}
use Rattle.std.specs.List.{list_all}
use Rattle.pg_perm.specs.declared.kinds.Mode.{Mode}
use Rattle.pg_perm.specs.declared.kinds.Mode.TheVariants as mode
use Rattle.pg_perm.specs.declared.draft.Draft.{Draft}
use Rattle.pg_perm.specs.Drafts.{IsWellFormed}
use Rattle.pg_shape.proofs.Cores.{four_and}
use Rattle.pg_shape.proofs.Searches.{all_at}
use Rattle.pg_table.specs.declared.cache.Desc.{Desc}
use Rattle.pg_table.specs.declared.cache.Input.{Input}
use Rattle.pg_table.specs.Descriptors.{descs}
use Rattle.pg_table.specs.Choices.{Choice, choices}
use Rattle.pg_table.specs.GeneratedStates.{inputs, choice_of_mode}
use Rattle.pg_table.specs.MixedTables.{IsMix}
use Rattle.pg_table.specs.Tables.{same_desc}
use Rattle.pg_table.specs.Sound.{is_among}
use Rattle.pg_table.proofs.Numbers.{are_apart, apart_distinct, among_at}
use Rattle.pg_table.proofs.Lists.{IsIn, all_in}
use Rattle.pg_table.proofs.Inputs.{choices_in}

-- The test

-- these are all among those
abbrev are_among : List Desc → List Desc → Bool
are_among ss xs = list_all (is_among ss) xs

-- a choice leads to one of them
abbrev leads_among : List Desc → Option Choice → Bool
leads_among ss None = true
leads_among ss (Some c) = is_among ss c.next

-- and each that is made in these states does
abbrev all_lead : Draft → (Desc → Input → Mode) → List Desc → List Desc → Bool
all_lead d pick ss xs = list_all (λ s. list_all (λ i. leads_among ss (choice_of_mode (pick s i) (choices d s i))) (inputs d)) xs

abbrev pub is_mix : Draft → (Desc → Input → Mode) → List Desc → Bool
is_mix d pick ss = are_apart same_desc ss && are_among (descs d mode.Defer) ss && are_among ss (descs d mode.Stall)
    && all_lead d pick ss ss

-- What it tells

among_all : (ss xs : List Desc) (s : Desc) → are_among ss xs ≡ true → is_among xs s ≡ true → is_among ss s ≡ true
among_all ss xs s all h = let (n, get) = among_at xs s h in all_at (is_among ss) xs n s all get

-- where something is chosen at an input, that is one of the inputs
chosen_input : (d : Draft) (m : Mode) (s : Desc) (i : Input) (c : Choice) → IsWellFormed d → choice_of_mode m (choices d s i) ≡ Some c → IsIn i (inputs d)
chosen_input d m s i c w e = at (choices d s i) refl e
  where
    at : (cs : List Choice) → choices d s i ≡ cs → choice_of_mode m cs ≡ Some c → IsIn i (inputs d)
    at [] h e = absurd cc
    at (a ∷ cs) h e = choices_in d s i a cs w h

-- states that pass are those of a mixed table
pub tested_mix : (d : Draft) (pick : Desc → Input → Mode) (ss : List Desc) → IsWellFormed d → is_mix d pick ss ≡ true → IsMix d pick ss
tested_mix d pick ss w h =
    let (apart, known, needed, onward) = four_and (are_apart same_desc ss) (are_among (descs d mode.Defer) ss) (are_among ss (descs d mode.Stall)) (all_lead d pick ss ss) h in
    record {
      distinct = apart_distinct same_desc ss apart;
      known = λ s. among_all (descs d mode.Defer) ss s known;
      needed = λ s. among_all ss (descs d mode.Stall) s needed;
      onward = λ s i c among chose.
          let (n, get) = among_at ss s among in
          let input = chosen_input d (pick s i) s i c w chose in
          let row = all_at (λ s. list_all (λ i. leads_among ss (choice_of_mode (pick s i) (choices d s i))) (inputs d)) ss n s onward get in
          sym (ap (leads_among ss) chose) ∙ all_in (λ i. leads_among ss (choice_of_mode (pick s i) (choices d s i))) i (inputs d) row input;
    }
