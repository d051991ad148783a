-- The ends of the names of states, which tell the phase and the tag.
use Rattle.std.proofs.Common.{◌≡◌, ℕ, List, [], ◌∷◌, ◌++◌, Option, Some, refl, sym, ap, ◌∙◌}
use Rattle.std.specs.Prelude.{find, bytes_eq, codes}
use Rattle.std.proofs.lemmas.Option.{same_Some}
use Rattle.pg_table.specs.declared.cache.Phase.{Phase}
use Rattle.pg_table.specs.declared.cache.Phase.TheVariants.{D, Ad, Ac, A}
use Rattle.pg_table.specs.declared.cache.Tag.{Tag}
use Rattle.pg_table.specs.declared.cache.Tag.TheVariants.{Plain, Kept, Gave, Gone}
use Rattle.pg_print.specs.Names.{phase_word, tag_word}

abbrev pub ending : Phase → Tag → List ℕ
ending p t = phase_word p ++ tag_word t

every_end : List (Phase × Tag)
every_end =
    (D, Plain) ∷ (D, Kept) ∷ (D, Gave) ∷ (D, Gone) ∷ (Ad, Plain) ∷ (Ad, Kept) ∷ (Ad, Gave) ∷ (Ad, Gone)
    ∷ (Ac, Plain) ∷ (Ac, Kept) ∷ (Ac, Gave) ∷ (Ac, Gone) ∷ (A, Plain) ∷ (A, Kept) ∷ (A, Gave) ∷ (A, Gone) ∷ []

-- the phase and the tag that an end tells
told : List ℕ → Option (Phase × Tag)
told text = find (λ e. bytes_eq (ending e.0 e.1) text) every_end

told_of : (p : Phase) (t : Tag) → told (ending p t) ≡ Some (p, t)
unfolding told every_end
told_of D Plain = refl
told_of D Kept = refl
told_of D Gave = refl
told_of D Gone = refl
told_of Ad Plain = refl
told_of Ad Kept = refl
told_of Ad Gave = refl
told_of Ad Gone = refl
told_of Ac Plain = refl
told_of Ac Kept = refl
told_of Ac Gave = refl
told_of Ac Gone = refl
told_of A Plain = refl
told_of A Kept = refl
told_of A Gave = refl
told_of A Gone = refl

pub same_ending : (p q : Phase) (t u : Tag) → ending p t ≡ ending q u → (p ≡ q) × (t ≡ u)
same_ending p q t u e =
    let same : (p, t) ≡ (q, u) = same_Some (p, t) (q, u) (sym (told_of p t) ∙ ap told e ∙ told_of q u) in
    (ap (λ (x : Phase × Tag). x.0) same, ap (λ (x : Phase × Tag). x.1) same)

-- what stands after the `_` of a phase
abbrev pub letters : Phase → List ℕ
letters D = codes "D"
letters Ad = codes "AD"
letters Ac = codes "AC"
letters A = codes "A"

-- each end begins with `_`
pub ending_begins : (p : Phase) (t : Tag) → ending p t ≡ 95 ∷ (letters p ++ tag_word t)
ending_begins D t = refl
ending_begins Ad t = refl
ending_begins Ac t = refl
ending_begins A t = refl
