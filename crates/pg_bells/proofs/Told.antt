-- The laws of histories.
use Rattle.std.proofs.Common.{◌≡◌, ℕ, ◌+◌, ◌<◌, ◌≤◌, List, [], ◌∷◌, ◌++◌, length, All, AllPairs, get_or, sym, refl, ap, ◌∙◌, subst, arith, append_assoc}
use Rattle.std.proofs.lemmas.List.Elements.{All-cons, All-nil}
use Rattle.std.proofs.lemmas.List.Quantifiers.{all_pairs_push}
use Rattle.std.proofs.lemmas.List.{append-nil}
use Rattle.pg_bells.specs.declared.bell.Bell.{Bell}
use Rattle.pg_bells.specs.Histories.{blocks, Numbered, Stands, Rises, IsRising}
use Rattle.pg_bells.proofs.HistoryLists.{stands_more, stands_new}

pub stand_all : (before l : List Bell) → Numbered before l → All (Stands (before ++ l)) l
stand_all before [] n = All-nil (Stands (before ++ []))
stand_all before (b ∷ l) n =
    let e : (before ++ b ∷ []) ++ l ≡ before ++ (b ∷ l) = append_assoc before (b ∷ []) l in
    All-cons (Stands (before ++ b ∷ l)) b l (subst (λ m. Stands m b) e (stands_more (before ++ b ∷ []) l b (stands_new before b n.0)))
    (subst (λ m. All (Stands m) l) e (stand_all (before ++ b ∷ []) l n.1))

pub rising_more : (taken : List Bell) (b : Bell) → IsRising taken → Rises taken b → IsRising (taken ++ b ∷ [])
rising_more taken b rising rises = all_pairs_push (λ (x y : Bell). x.core ≡ y.core → x.serial < y.serial) taken b rising rises
