-- The text of MOESI is read as its draft, which has the shape.
use Rattle.std.proofs.Common.{◌≡◌, ℕ, List, refl, sym, ap, ◌∙◌}
use Rattle.std.specs.Prelude.{Result, Ok, Err, None, length}
use Rattle.pg_perm.specs.declared.draft.Draft.{Draft}
use Rattle.pg_perm.specs.declared.fault.Fault.{Fault}
use Rattle.pg_perm.specs.Drafts.{IsWellFormed}
use Rattle.pg_samples.specs.Drafts.{moesi}
use Rattle.pg_samples.specs.declared.texts.TheConstants.{MOESI}
use Rattle.pg_shape.specs.FirstFaults.{shape_fault}
use Rattle.pg_shape.specs.Answers.{Judges}
use Rattle.pg_shape.specs.Shaped.{IsShaped}
use Rattle.pg_shape.proofs.Exact.{no_fault_is_shape}
use Rattle.pg_shape.proofs.ShapeGives.{shape_gives_all}
use Rattle.pg_shape.specs.declared.error.ShapeError.{ShapeError}
use Rattle.pg_shape.specs.declared.error.ShapeError.TheVariants as shapes
use Rattle.pg_text.specs.Answers.{Gives}
use Rattle.pg_text.specs.declared.error.TextError.{TextError}
use Rattle.pg_text.specs.declared.error.TextError.TheVariants as texts
use Rattle.pg_text.specs.Texts.{reading}
use Rattle.pg_text.specs.Printing.{draft_text, renumbered_draft}
use Rattle.pg_text.proofs.Printed.{printed_reads}

pub moesi_is_well_formed : IsWellFormed moesi
moesi_is_well_formed = record { names = refl; free = refl; numbers = refl; classes = refl; lines = refl; limits = refl }

moesi_has_no_fault : shape_fault moesi ≡ None
moesi_has_no_fault = refl

pub moesi_is_shaped : IsShaped moesi
moesi_is_shaped = shape_gives_all moesi moesi_is_well_formed (no_fault_is_shape moesi moesi_is_well_formed moesi_has_no_fault)

moesi_is_printed : draft_text moesi ≡ MOESI.now
moesi_is_printed = refl

moesi_is_numbered : renumbered_draft moesi ≡ moesi
moesi_is_numbered = refl

moesi_reads : reading MOESI.now ≡ Ok (moesi, length (draft_text moesi))
moesi_reads = ap reading (sym moesi_is_printed) ∙ printed_reads moesi moesi_is_well_formed ∙ ap (λ (d : Draft). Ok (d, length (draft_text moesi))) moesi_is_numbered

not_both : (r : Result (Draft × ℕ) Fault) (p : Draft × ℕ) (f : Fault) → r ≡ Err f → r ≡ Ok p → ⊥
not_both r p f refused read = cc

pub only_want_of_memory : (bytes : List ℕ) (e : TextError) → Gives {A = Draft × ℕ} (Err e) (reading bytes) → bytes ≡ MOESI.now → e ≡ texts.Memory
only_want_of_memory bytes (texts.Form f) gives same = absurd (not_both (reading bytes) (moesi, length (draft_text moesi)) f gives (ap reading same ∙ moesi_reads))
only_want_of_memory bytes texts.Memory gives same = refl

draft_read : Result (Draft × ℕ) Fault → Draft
draft_read (Ok p) = p.0
draft_read (Err f) = moesi

pub draft_is_moesi : (bytes : List ℕ) (d : Draft) (place : ℕ) → reading bytes ≡ Ok (d, place) → bytes ≡ MOESI.now → d ≡ moesi
unfolding draft_read
draft_is_moesi bytes d place gives same = ap draft_read (sym gives ∙ ap reading same ∙ moesi_reads)

pub never_refused : (d : Draft) (e : ShapeError) → Judges {A = Draft} (Err e) (shape_fault d) → d ≡ moesi → ⊥
never_refused d (shapes.Fault f) judges same = let wrong = sym judges ∙ ap shape_fault same ∙ moesi_has_no_fault in cc
