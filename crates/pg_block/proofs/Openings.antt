-- New lines.
use Rattle.std.proofs.Common.{◌≡◌, ℕ, zero, suc, ◌+◌, ◌-◌, ◌<◌, List, [], ◌∷◌, ◌++◌, length, get_or, refl, sym, ap, ◌∙◌, arith}
use Rattle.pg_table.specs.declared.cache.Desc.TheVariants.{Stable}
use Rattle.pg_table.specs.Tables.{Parts, number_of}
use Rattle.pg_table.specs.Sound.{states_of, IsSoundCache}
use Rattle.pg_table.specs.Descriptors.{out_state}
use Rattle.pg_controllers.specs.Networks.{Line, idle_line}
use Rattle.pg_cache.specs.Acts.{LineView}
use Rattle.pg_cache.specs.Rows.{IsMadeWith}
use Rattle.pg_cache.proofs.Unique.{number_is}
use Rattle.pg_block.specs.Blocks.{no_line}
use Rattle.pg_block.specs.Openings.{new_line, new_lines}

pub made_line : (t : Parts) (n c : ℕ) (x : LineView) → IsSoundCache t.protocol t.cache → x.line ≡ idle_line (out_state t.protocol) → IsMadeWith t x → x.core ≡ c → x.room ≡ n - 1 → x ≡ new_line t n c
made_line t n c x sound idle made core room =
    let number : number_of (states_of t.cache) x.line.desc ≡ x.state = number_is t.cache x.state x.line.desc sound.distinct made in
    let state : x.state ≡ number_of (states_of t.cache) (Stable (out_state t.protocol)) = sym number ∙ ap (λ (l : Line). number_of (states_of t.cache) l.desc) idle in
    ap (λ (l : Line). record { line = l; state = x.state; core = x.core; room = x.room }) idle
    ∙ ap (λ (k : ℕ). record { line = idle_line (out_state t.protocol); state = k; core = x.core; room = x.room }) state
    ∙ ap (λ (k : ℕ). record { line = idle_line (out_state t.protocol); state = number_of (states_of t.cache) (Stable (out_state t.protocol)); core = k; room = x.room }) core
    ∙ ap (λ (k : ℕ). record { line = idle_line (out_state t.protocol); state = number_of (states_of t.cache) (Stable (out_state t.protocol)); core = c; room = k }) room

next_last : (t : Parts) (n k m : ℕ) → new_lines t n k (suc m) ≡ new_lines t n k m ++ new_line t n (k + m) ∷ []
next_last t n k zero = let same : k + 0 ≡ k = omega arith in sym (ap (λ c. new_line t n c ∷ []) same)
next_last t n k (suc m) =
    let same : suc k + m ≡ k + suc m = omega arith in
    ap (λ (xs : List LineView). new_line t n k ∷ xs) (next_last t n (suc k) m ∙ ap (λ c. new_lines t n (suc k) m ++ new_line t n c ∷ []) same)

pub lines_last : (t : Parts) (n i : ℕ) → new_lines t n 0 (i + 1) ≡ new_lines t n 0 i ++ new_line t n i ∷ []
lines_last t n i =
    let one : i + 1 ≡ suc i = omega arith in
    let here : 0 + i ≡ i = omega arith in
    ap (new_lines t n 0) one ∙ next_last t n 0 i ∙ ap (λ c. new_lines t n 0 i ++ new_line t n c ∷ []) here

pub lines_length : (t : Parts) (n k m : ℕ) → length (new_lines t n k m) ≡ m
lines_length t n k zero = refl
lines_length t n k (suc m) = ap suc (lines_length t n (suc k) m)

pub lines_at : (t : Parts) (n k m c : ℕ) → c < m → get_or (new_lines t n k m) c no_line ≡ new_line t n (k + c)
lines_at t n k zero c low = absurd (omega (arith, low))
lines_at t n k (suc m) zero low = let same : k + 0 ≡ k = omega arith in sym (ap (new_line t n) same)
lines_at t n k (suc m) (suc c) low =
    let same : suc k + c ≡ k + suc c = omega arith in lines_at t n (suc k) m c (omega (arith, low)) ∙ ap (new_line t n) same
