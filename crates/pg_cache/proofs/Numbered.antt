-- The row that is found leads to a state, which has the row's number.
use Rattle.std.proofs.Common.{◌≡◌, ℕ, zero, suc, ◌<◌, arith, List, [], ◌∷◌, length, Option, Some, None, refl, ap, subst}
use Rattle.std.specs.Prelude.{slice_get, find}
use Rattle.std.specs.Option.{option_map, option_and_then}
use Rattle.pg_perm.specs.declared.draft.Draft.{Draft}
use Rattle.pg_table.specs.declared.cache.Desc.{Desc}
use Rattle.pg_table.specs.declared.cache.Input.{Input}
use Rattle.pg_table.specs.Tables.{Row}
use Rattle.pg_table.specs.Tables.{TableState}
use Rattle.pg_table.specs.Choices.{Choice, choices}
use Rattle.pg_table.specs.Tables.{find_row, has_input}
use Rattle.pg_table.specs.Controllers.{state_at}
use Rattle.pg_table.specs.Sound.{IsSoundCache}
use Rattle.pg_table.proofs.Found.{sound_finds, sound_finds_none}

pub leads : (d : Draft) (t : List TableState) (n : ℕ) (i : Input) (r : Row) → IsSoundCache d t → find_row t n i ≡ Some r → (s : Desc) × (state_at t r.next ≡ Some s)
leads d t n i r sound found = at (slice_get t n) refl
  where
    by : (s : TableState) → slice_get t n ≡ Some s → (cs : List Choice) → choices d s.desc i ≡ cs → (s : Desc) × (state_at t r.next ≡ Some s)
    by s get [] e = absurd (let none = sound_finds_none d t n s i sound get e in cc (none, found))
    by s get (c ∷ cs) e =
        let (q, finds, follows) = sound_finds d t n s i c cs sound get e in let (k, ch, is, acts, next) = follows in
        let same : q ≡ r = cc (finds, found) in
        (ch.next, subst (λ (z : Row). state_at t z.next ≡ Some ch.next) same next)

    at : (o : Option TableState) → slice_get t n ≡ o → (s : Desc) × (state_at t r.next ≡ Some s)
    at None get = absurd (let none : find_row t n i ≡ None = ap (λ (o : Option TableState). option_and_then (λ s. find (λ r. has_input r.inputs i) s.rows) o) get in cc (none, found))
    at (Some s) get = by s get (choices d s.desc i) refl

pub there : (xs : List TableState) (n : ℕ) (s : Desc) → option_map (λ s. s.desc) (slice_get xs n) ≡ Some s → n < length xs
there [] n s e = cc
there (x ∷ xs) zero s e = omega arith
there (x ∷ xs) (suc n) s e = let ih = there xs n s e in omega (arith, ih)

pub leads_there : (d : Draft) (t : List TableState) (n : ℕ) (i : Input) (r : Row) → IsSoundCache d t → find_row t n i ≡ Some r → r.next < length t
leads_there d t n i r sound found = let (s, at) = leads d t n i r sound found in there t r.next s at
