-- Each choice that is made in a state of a controller leads to one of its states.
use Rattle.std.proofs.Common.{◌≡◌, ℕ, true, List, Some, sym, subst}
use Rattle.std.specs.Prelude.{slice_get}
use Rattle.std.specs.List.{list_any}
use Rattle.pg_perm.specs.declared.kinds.Mode.{Mode}
use Rattle.pg_perm.specs.declared.draft.Draft.{Draft}
use Rattle.pg_perm.specs.Drafts.{IsWellFormed}
use Rattle.pg_shape.specs.Shaped.{IsShaped}
use Rattle.pg_table.specs.declared.cache.Desc.{Desc}
use Rattle.pg_table.specs.declared.cache.Input.{Input}
use Rattle.pg_table.specs.declared.directory.DirDesc.{DirDesc}
use Rattle.pg_table.specs.declared.directory.DirInput.{DirInput}
use Rattle.pg_table.specs.Descriptors.{descs}
use Rattle.pg_table.specs.Choices.{Choice, choices}
use Rattle.pg_table.specs.GeneratedStates.{choice_of_mode}
use Rattle.pg_table.specs.Directory.{dir_descs, DirChoice, dir_choice}
use Rattle.pg_table.specs.Tables.{same_desc, same_dir_desc}
use Rattle.pg_table.proofs.Same.{desc_same, dir_desc_same}
use Rattle.pg_table.proofs.Numbers.{at_among, among_turned}
use Rattle.pg_table.proofs.Onward.{chosen_leads_to_state}
use Rattle.pg_table.proofs.DirRows.{choice_leads}

pub cache_leads : (d : Draft) (m : Mode) (xs : List Desc) (n : ℕ) (s : Desc) (i : Input) (c : Choice) → IsWellFormed d → IsShaped d → xs ≡ descs d m
    → slice_get xs n ≡ Some s → choice_of_mode m (choices d s i) ≡ Some c → list_any (λ x. same_desc x c.next) xs ≡ true
cache_leads d m xs n s i c w sh all get chose =
    let among = at_among (descs d m) n s (subst (λ (xs : List Desc). slice_get xs n ≡ Some s) all get) in
    subst (λ (xs : List Desc). list_any (λ x. same_desc x c.next) xs ≡ true) (sym all)
    (among_turned same_desc desc_same (descs d m) c.next (chosen_leads_to_state d m s i c w sh among chose))

pub dir_choice_leads_to_state : (d : Draft) (xs : List DirDesc) (n : ℕ) (s : DirDesc) (i : DirInput) (c : DirChoice) → IsWellFormed d → xs ≡ dir_descs d
    → slice_get xs n ≡ Some s → dir_choice d s i ≡ Some c → list_any (λ x. same_dir_desc x c.next) xs ≡ true
dir_choice_leads_to_state d xs n s i c w all get chose =
    let place = subst (λ (xs : List DirDesc). slice_get xs n ≡ Some s) all get in
    subst (λ (xs : List DirDesc). list_any (λ x. same_dir_desc x c.next) xs ≡ true) (sym all)
    (among_turned same_dir_desc dir_desc_same (dir_descs d) c.next (choice_leads d w n s i c place chose))
