-- The enabled events of a world are all that are ever enabled.
use Rattle.std.proofs.Common.{◌≡◌, ℕ, zero, suc, ◌<◌, arith, Bool, true, false, ◌&&◌, not, List, [], ◌∷◌, ◌++◌, length, map, get_or, refl, inl, inr}
use Rattle.std.specs.Prelude.{nat_lt, is_some}
use Rattle.std.specs.List.{Contains, range_with_len}
use Rattle.std.proofs.lemmas.Bool.{ltb-true}
use Rattle.pg_table.proofs.Lists.{IsIn, in_left, in_right, in_map, in_filter, of_filter, in_numbers}
use Rattle.pg_messages.specs.declared.messages.WorldEvent.{WorldEvent}
use Rattle.pg_messages.specs.declared.messages.WorldEvent.TheVariants.{Issue, Request, Ordered, Reply}
use Rattle.pg_controllers.specs.Networks.{idle_core}
use Rattle.pg_controllers.specs.Directories.{is_busy}
use Rattle.pg_controllers.specs.Worlds.{Picks, World, is_stable, has_head, is_enabled}
use Rattle.pg_world.specs.Enabled.{events_of, enabled_events}

-- what passes where the rest of a list fails stands in the list
pub inside : {A : Type 0} (t : A → Bool) (xs : List A) (i : ℕ) (z : A) → t z ≡ false → t (get_or xs i z) ≡ true → i < length xs
inside t [] i z fails passes = absurd cc
inside t (x ∷ xs) zero z fails passes = omega arith
inside t (x ∷ xs) (suc i) z fails passes = let below = inside t xs i z fails passes in omega (arith, below)

pub contains_of_in : {A : Type 0} (xs : List A) (x : A) → IsIn x xs → Contains xs x
contains_of_in [] x among = absurd among
contains_of_in (y ∷ ys) x (inl e) = (0, omega arith, e)
contains_of_in (y ∷ ys) x (inr among) = let (k, lt, e) = contains_of_in ys x among in (suc k, omega (arith, lt), e)

pub in_of_contains : {A : Type 0} (xs : List A) (x : A) → Contains xs x → IsIn x xs
in_of_contains {A = A} xs x (k, lt, e) = at xs k lt e
  where
    at : (xs : List A) (k : ℕ) → k < length xs → get_or xs k x ≡ x → IsIn x xs
    at [] k lt e = absurd (omega (arith, lt))
    at (y ∷ ys) zero lt e = inl e
    at (y ∷ ys) (suc k) lt e = inr (at ys k (omega (arith, lt)) e)

number_in : (n c : ℕ) → c < n → IsIn c (range_with_len 0 n)
number_in n c lt = in_numbers 0 n c (omega arith) (omega (arith, lt))

issue_in : (n r c : ℕ) → c < n → IsIn (Issue c) (events_of n r)
issue_in n r c lt = in_left _ _ _ (in_left _ _ _ (in_left _ _ _ (in_map (λ c. Issue c) c _ (number_in n c lt))))

request_in : (n r c : ℕ) → c < n → IsIn (Request c) (events_of n r)
request_in n r c lt = in_left _ _ _ (in_left _ _ _ (in_right _ (map (λ c. Issue c) (range_with_len 0 n)) _ (in_map (λ c. Request c) c _ (number_in n c lt))))

ordered_in : (n r c : ℕ) → c < n → IsIn (Ordered c) (events_of n r)
ordered_in n r c lt = in_left _ _ _ (in_right _ (map (λ c. Issue c) (range_with_len 0 n) ++ map (λ c. Request c) (range_with_len 0 n)) _ (in_map (λ c. Ordered c) c _ (number_in n c lt)))

reply_in : (n r i : ℕ) → i < r → IsIn (Reply i) (events_of n r)
reply_in n r i lt =
    in_right _ (map (λ c. Issue c) (range_with_len 0 n) ++ map (λ c. Request c) (range_with_len 0 n) ++ map (λ c. Ordered c) (range_with_len 0 n)) _ (in_map (λ i. Reply i) i _ (number_in r i lt))

listed : (p : Picks) (w : World) (e : WorldEvent) → is_enabled p w e ≡ true → IsIn e (events_of (length w.cores) (length w.replies))
listed p w (Issue c) on = issue_in (length w.cores) (length w.replies) c (inside (λ x. is_stable x.line.desc && nat_lt 0 (length x.left)) w.cores c idle_core refl on)
listed p w (Request c) on = request_in (length w.cores) (length w.replies) c (inside (λ x. is_some x.slot && not (is_busy w.directory.desc)) w.cores c idle_core refl on)
listed p w (Ordered c) on = ordered_in (length w.cores) (length w.replies) c (inside (λ x. has_head p x.line x.queue) w.cores c idle_core refl on)
listed p w (Reply i) on = reply_in (length w.cores) (length w.replies) i (ltb-true i (length w.replies) on)

pub enabled_in : (p : Picks) (w : World) (e : WorldEvent) → is_enabled p w e ≡ true → IsIn e (enabled_events p w)
enabled_in p w e on = in_filter (is_enabled p w) e (events_of (length w.cores) (length w.replies)) on (listed p w e on)

pub in_enabled : (p : Picks) (w : World) (e : WorldEvent) → IsIn e (enabled_events p w) → is_enabled p w e ≡ true
in_enabled p w e among = (of_filter (is_enabled p w) e (events_of (length w.cores) (length w.replies)) among).1
