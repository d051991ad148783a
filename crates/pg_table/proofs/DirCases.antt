-- Which cases have a row of the generated directory controller.
use Rattle.std.proofs.Common.{◌≡◌, ℕ, Bool, true, false, cond, [], Option, Some, None, refl, ap, ◌∙◌}
use Rattle.std.specs.Prelude.{slice_get}
use Rattle.std.specs.Option.{option_map_or, option_and_then}
use Rattle.std.specs.List.{list_any}
use Rattle.pg_perm.specs.declared.kinds.DirKind.{DirKind}
use Rattle.pg_perm.specs.declared.kinds.DirKind.TheVariants as kind
use Rattle.pg_perm.specs.declared.kinds.Who.{Who}
use Rattle.pg_perm.specs.declared.kinds.Who.TheVariants.{Other, Sharer, Owner}
use Rattle.pg_perm.specs.declared.kinds.Left.{Left}
use Rattle.pg_perm.specs.declared.kinds.Left.TheVariants.{Last, More}
use Rattle.pg_perm.specs.declared.kinds.ReqClass.{ReqClass}
use Rattle.pg_perm.specs.declared.kinds.ReqClass.TheVariants.{Read, Write}
use Rattle.pg_perm.specs.declared.draft.Draft.{Draft}
use Rattle.pg_perm.specs.declared.draft.DirLine.{DirLine}
use Rattle.pg_perm.specs.declared.draft.RowLine.{RowLine}
use Rattle.pg_terms.specs.declared.cases.DirCase.{DirCase}
use Rattle.pg_terms.specs.declared.cases.DirCase.TheVariants as case
use Rattle.pg_terms.specs.Terms.{dir_row}
use Rattle.pg_terms.specs.Due.{due_cases, lists_read_owner, same_case, is_due_case}
use Rattle.pg_shape.specs.Shaped.{IsShaped}
use Rattle.pg_terms.specs.Rows.{action_in}
use Rattle.pg_shape.proofs.Rows.{row_at}
use Rattle.pg_directory.proofs.Handling.{ask_acts}
use Rattle.pg_table.specs.declared.directory.DirDesc.{DirDesc}
use Rattle.pg_table.specs.declared.directory.DirDesc.TheVariants.{State, Busy}
use Rattle.pg_table.specs.declared.directory.DirInput.{DirInput}
use Rattle.pg_table.specs.declared.directory.DirInput.TheVariants as at
use Rattle.pg_table.specs.Directory.{dir_inputs, DirChoice, evict_acts, by_ask, ask_choice, due_row, dir_choice}
use Rattle.pg_table.specs.Tables.{has_dir_input}

pub due_row_is : (d : Draft) (n : ℕ) (a : DirCase) (b : Bool) → is_due_case d n a ≡ b → due_row d n a ≡ cond b (dir_row d n a) None
due_row_is d n a b h = ap (λ b. cond b (dir_row d n a) None) h

pub ask_has_row : (d : Draft) (n : ℕ) (class : ReqClass) (who : Who) → IsShaped d → is_due_case d n (case.Ask class who) ≡ true
    → (c : DirChoice) × (dir_choice d (State n) (at.Ask class who) ≡ Some c)
ask_has_row d n class who sh due =
    let (r, e) = sh.rows.due n (case.Ask class who) due in
    let (k, get, dir, for) = row_at d n (case.Ask class who) r e in
    let (does, acts) = ask_acts d r.form class who for in (
      by_ask d n class r does,
      ap (λ o. option_and_then (λ r. ask_choice d n class r (action_in r.form)) o) (due_row_is d n (case.Ask class who) true due ∙ e)
          ∙ ap (λ o. ask_choice d n class r o) acts,
    )

pub evict_has_row : (d : Draft) (n : ℕ) (who : Who) (left : Left) → IsShaped d → is_due_case d n (case.Evict who left) ≡ true
    → (c : DirChoice) × (dir_choice d (State n) (at.Evict who left) ≡ Some c)
evict_has_row d n who left sh due =
    let (r, e) = sh.rows.due n (case.Evict who left) due in (
      record { acts = evict_acts who; next = State r.next },
      ap (λ o. option_and_then (λ r. Some (record { acts = evict_acts who; next = State r.next })) o)
          (due_row_is d n (case.Evict who left) true due ∙ e),
    )

-- a case that isn't due has none
pub ask_has_none : (d : Draft) (n : ℕ) (class : ReqClass) (who : Who) → is_due_case d n (case.Ask class who) ≡ false → dir_choice d (State n) (at.Ask class who) ≡ None
ask_has_none d n class who h = ap (λ o. option_and_then (λ r. ask_choice d n class r (action_in r.form)) o) (due_row_is d n (case.Ask class who) false h)

pub evict_has_none : (d : Draft) (n : ℕ) (who : Who) (left : Left) → is_due_case d n (case.Evict who left) ≡ false → dir_choice d (State n) (at.Evict who left) ≡ None
evict_has_none d n who left h =
    ap (λ o. option_and_then (λ r. Some (record { acts = evict_acts who; next = State r.next })) o) (due_row_is d n (case.Evict who left) false h)

-- the input of a case
abbrev input_of : DirCase → DirInput
input_of (case.Ask class who) = at.Ask class who
input_of (case.Evict who left) = at.Evict who left

-- the input of a case that is due at a directory state of some kind is among the inputs
due_input : (k : DirKind) (reads : Bool) (a : DirCase) → list_any (same_case a) (due_cases k reads) ≡ true → has_dir_input dir_inputs (input_of a) ≡ true
due_input k reads (case.Ask Read Other) h = refl
due_input k reads (case.Ask Write w) h = asked w
  where
    asked : (w : Who) → has_dir_input dir_inputs (at.Ask Write w) ≡ true
    asked Other = refl
    asked Sharer = refl
    asked Owner = refl
due_input k reads (case.Evict Owner Last) h = refl
due_input k reads (case.Evict Owner More) h = refl
due_input k reads (case.Evict Sharer Last) h = refl
due_input k reads (case.Evict Sharer More) h = refl
due_input kind.Owned true _ h = absurd cc
due_input kind.Owned false _ h = absurd cc
due_input kind.Idle reads _ h = absurd cc
due_input kind.Shared reads _ h = absurd cc
due_input kind.Mixed reads _ h = absurd cc

due_listed : (d : Draft) (n : ℕ) (a : DirCase) → is_due_case d n a ≡ true → has_dir_input dir_inputs (input_of a) ≡ true
due_listed d n a h = at (slice_get d.dirs n) h
  where
    at : (o : Option DirLine) → list_any (same_case a) (option_map_or (λ l. due_cases l.kind (lists_read_owner d l.beside)) o []) ≡ true → has_dir_input dir_inputs (input_of a) ≡ true
    at None h = absurd cc
    at (Some l) h = due_input l.kind (lists_read_owner d l.beside) a h

pub ask_listed : (d : Draft) (n : ℕ) (class : ReqClass) (who : Who) → is_due_case d n (case.Ask class who) ≡ true → has_dir_input dir_inputs (at.Ask class who) ≡ true
ask_listed d n class who h = due_listed d n (case.Ask class who) h

pub evict_listed : (d : Draft) (n : ℕ) (who : Who) (left : Left) → is_due_case d n (case.Evict who left) ≡ true → has_dir_input dir_inputs (at.Evict who left) ≡ true
evict_listed d n who left h = due_listed d n (case.Evict who left) h

-- each input at which the directory makes a choice is among the inputs
due_of : (d : Draft) (n : ℕ) (a : DirCase) (f : RowLine → Option DirChoice) (c : DirChoice) → option_and_then f (due_row d n a) ≡ Some c → is_due_case d n a ≡ true
due_of d n a f c e = at (is_due_case d n a) e
  where
    at : (b : Bool) → option_and_then f (cond b (dir_row d n a) None) ≡ Some c → b ≡ true
    at true e = refl
    at false e = absurd cc

pub choice_listed : (d : Draft) (s : DirDesc) (i : DirInput) (c : DirChoice) → dir_choice d s i ≡ Some c → has_dir_input dir_inputs i ≡ true
choice_listed d (State n) (at.Ask class who) c e =
    ask_listed d n class who (due_of d n (case.Ask class who) (λ r. ask_choice d n class r (action_in r.form)) c e)
choice_listed d (State n) (at.Evict who left) c e =
    evict_listed d n who left (due_of d n (case.Evict who left) (λ r. Some (record { acts = evict_acts who; next = State r.next })) c e)
choice_listed d (State n) at.EvictNone c e = refl
choice_listed d (Busy n) (at.BusyAsk Read) c e = refl
choice_listed d (Busy n) (at.BusyAsk Write) c e = refl
choice_listed d (Busy n) at.BusyEvict c e = refl
choice_listed d (Busy n) at.Wb c e = refl
choice_listed d _ _ c e = absurd cc
