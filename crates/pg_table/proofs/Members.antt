-- Which states a cache controller has: a form of `is_among (descs d m) s` by cases.
use Rattle.std.proofs.Common.{◌≡◌, ℕ, ◌<◌, ◌⊎◌, Bool, true, false, not, List, [], ◌∷◌, ◌++◌, length, Option, Some, None, refl, sym, subst, ap, ◌∙◌, arith, inl, inr}
use Rattle.std.specs.Prelude.{map, filter, is_some, slice_get, unwrap_or, if◌then◌else◌}
use Rattle.std.specs.Option.{option_map_or}
use Rattle.std.specs.List.{flat_map}
use Rattle.std.proofs.lemmas.Option.{slice_get_within}
use Rattle.pg_perm.specs.declared.kinds.Event.{Event}
use Rattle.pg_perm.specs.declared.kinds.Event.TheVariants.{Load, Store}
use Rattle.pg_perm.specs.declared.kinds.Mode.{Mode}
use Rattle.pg_perm.specs.declared.kinds.Mode.TheVariants as mode
use Rattle.pg_perm.specs.declared.draft.Draft.{Draft}
use Rattle.pg_perm.specs.declared.draft.CacheLine.{CacheLine}
use Rattle.pg_terms.specs.Terms.{is, is_out, is_shared, is_owner, is_read_owner, cache_is, out, shared}
use Rattle.pg_shape.specs.Shaped.{HasPerms}
use Rattle.pg_shape.proofs.Searches.{position_get, map_or_get}
use Rattle.pg_shape.proofs.Shaped.{is_then_some}
use Rattle.pg_table.specs.declared.cache.Desc.{Desc}
use Rattle.pg_table.specs.declared.cache.Desc.TheVariants.{Stable, Ask, Leave}
use Rattle.pg_table.specs.declared.cache.Phase.TheVariants.{D, Ad, Ac, A}
use Rattle.pg_table.specs.declared.cache.Tag.{Tag}
use Rattle.pg_table.specs.declared.cache.Tag.TheVariants.{Plain, Kept, Gave, Gone}
use Rattle.pg_table.specs.Descriptors.{out_state, is_tag_of, tags, stable_states, store_starts, first_states, waiting_states, store_states, descs}
use Rattle.pg_table.specs.Tables.{same_desc}
use Rattle.pg_table.specs.Sound.{is_among}
use Rattle.pg_table.proofs.Same.{same_desc_is, same_desc_self}
use Rattle.pg_table.proofs.Lists.{IsIn, any_in, in_any, in_left, in_right, in_either, in_map, of_map, in_filter, of_filter, in_flat, of_flat, in_numbers, of_numbers}

-- the states in which a store asks
abbrev pub IsStart : Draft → ℕ → Type 0
IsStart d s = (out d ≡ Some s) ⊎ ((shared d ≡ Some s) ⊎ (cache_is is_read_owner d s ≡ true))

-- the tags of an operation that began in this state
abbrev pub HasTag : Draft → Mode → ℕ → Event → Tag → Type 0
HasTag d mode.Stall s event tag = tag ≡ Plain
HasTag d mode.Defer s event tag = is_tag_of d s event tag ≡ true

-- the states of the cache controller
abbrev pub IsState : Draft → Mode → Desc → Type 0
IsState d m (Stable s) = s < length d.caches
IsState d m (Ask Load s D tag) = (out d ≡ Some s) × HasTag d m s Load tag
IsState d m (Ask Store s Ad tag) = IsStart d s × (cache_is (λ c. is_owner c.role) d s ≡ false) × HasTag d m s Store tag
IsState d m (Ask Store s Ac tag) = IsStart d s × (cache_is (λ c. is_owner c.role) d s ≡ true) × (tag ≡ Plain)
IsState d m (Ask Store s A tag) = IsStart d s × (is_some (shared d) ≡ true) × HasTag d m s Store tag
IsState d m (Leave s) = s < length d.caches
IsState d m _ = ⊥

-- Parts of the list of states

-- the first out state and the first shared state are states
pub out_below : (d : Draft) (s : ℕ) → out d ≡ Some s → s < length d.caches
out_below d s e = (position_get (λ c. is_out c.role) d.caches s e).0

pub shared_below : (d : Draft) (s : ℕ) → shared d ≡ Some s → s < length d.caches
shared_below d s e = (position_get (λ c. is_shared c.role) d.caches s e).0

-- there is an out state
pub out_is_out_state : (d : Draft) → HasPerms d → out d ≡ Some (out_state d)
out_is_out_state d perms = let (s, e) = perms.start in subst (λ (o : Option ℕ). o ≡ Some (unwrap_or o 0)) (sym e) refl

pub out_one : (d : Draft) (s : ℕ) → out d ≡ Some s → out_state d ≡ s
out_one d s e = ap (λ (o : Option ℕ). unwrap_or o 0) e

in_states : (d : Draft) (s : ℕ) → s < length d.caches → IsIn s (stable_states d)
in_states d s h = in_numbers 0 (length d.caches) s (omega arith) (omega (arith, h))

of_states : (d : Draft) (s : ℕ) → IsIn s (stable_states d) → s < length d.caches
of_states d s among = omega (arith, (of_numbers 0 (length d.caches) s among).1)

-- Tags

any_tag : (t : Tag) → IsIn t (Plain ∷ Kept ∷ Gave ∷ Gone ∷ [])
any_tag Plain = inl refl
any_tag Kept = inr (inl refl)
any_tag Gave = inr (inr (inl refl))
any_tag Gone = inr (inr (inr (inl refl)))

in_tags : (d : Draft) (m : Mode) (s : ℕ) (event : Event) (t : Tag) → HasTag d m s event t → IsIn t (tags d m s event)
in_tags d mode.Stall s event t h = inl (sym h)
in_tags d mode.Defer s event t h = in_filter (is_tag_of d s event) t (Plain ∷ Kept ∷ Gave ∷ Gone ∷ []) h (any_tag t)

of_tags : (d : Draft) (m : Mode) (s : ℕ) (event : Event) (t : Tag) → IsIn t (tags d m s event) → HasTag d m s event t
of_tags d mode.Stall s event t (inl e) = sym e
of_tags d mode.Stall s event t (inr none) = absurd none
of_tags d mode.Defer s event t among = (of_filter (is_tag_of d s event) t (Plain ∷ Kept ∷ Gave ∷ Gone ∷ []) among).1

-- Where stores begin

in_option : (o : Option ℕ) (s : ℕ) → o ≡ Some s → IsIn s (option_map_or (λ s. s ∷ []) o [])
in_option o s e = subst (λ (o : Option ℕ). IsIn s (option_map_or (λ s. s ∷ []) o [])) (sym e) (inl refl)

of_option : (o : Option ℕ) (s : ℕ) → IsIn s (option_map_or (λ s. s ∷ []) o []) → o ≡ Some s
of_option None s among = absurd among
of_option (Some t) s (inl e) = ap Some e
of_option (Some t) s (inr none) = absurd none

-- where a test of a cache state passes, there is the state
test_below : (p : CacheLine → Bool) (d : Draft) (s : ℕ) → cache_is p d s ≡ true → s < length d.caches
test_below p d s h = let (c, get, t) = map_or_get p (slice_get d.caches s) h in slice_get_within d.caches s c get

in_starts : (d : Draft) (s : ℕ) → IsStart d s → IsIn s (store_starts d)
in_starts d s (inl e) = inl (out_one d s e)
in_starts d s (inr (inl e)) = inr (in_left s (option_map_or (λ s. s ∷ []) (shared d) []) (filter (cache_is is_read_owner d) (stable_states d)) (in_option (shared d) s e))
in_starts d s (inr (inr h)) = inr (in_right s (option_map_or (λ s. s ∷ []) (shared d) []) (filter (cache_is is_read_owner d) (stable_states d))
    (in_filter (cache_is is_read_owner d) s (stable_states d) h (in_states d s (test_below is_read_owner d s h))))

of_starts : (d : Draft) (s : ℕ) → HasPerms d → IsIn s (store_starts d) → IsStart d s
of_starts d s perms (inl e) = inl (out_is_out_state d perms ∙ ap Some e)
of_starts d s perms (inr among) = at (in_either s (option_map_or (λ s. s ∷ []) (shared d) []) (filter (cache_is is_read_owner d) (stable_states d)) among)
  where
    at : IsIn s (option_map_or (λ s. s ∷ []) (shared d) []) ⊎ IsIn s (filter (cache_is is_read_owner d) (stable_states d)) → IsStart d s
    at (inl a) = inr (inl (of_option (shared d) s a))
    at (inr b) = inr (inr (of_filter (cache_is is_read_owner d) s (stable_states d) b).1)

-- The states of the controller

-- what is made of each tag is a state, where it is one for each tag that there is
of_each : (d : Draft) (m : Mode) (s : ℕ) (event : Event) (f : Tag → Desc) (x : Desc) → ((t : Tag) → HasTag d m s event t → IsState d m (f t))
    → IsIn x (map f (tags d m s event)) → IsState d m x
of_each d m s event f x each among =
    let (t, there, e) = of_map f x (tags d m s event) among in
    subst (IsState d m) e (each t (of_tags d m s event t there))

of_first : (d : Draft) (m : Mode) (s : ℕ) (x : Desc) → IsStart d s → IsIn x (first_states d m s) → IsState d m x
of_first d m s x start among = at (cache_is (λ c. is_owner c.role) d s) refl among
  where
    at : (b : Bool) → cache_is (λ c. is_owner c.role) d s ≡ b
        → IsIn x (if b then Ask Store s Ac Plain ∷ [] else map (λ t. Ask Store s Ad t) (tags d m s Store)) → IsState d m x
    at true e (inl same) = subst (IsState d m) same (start, e, refl)
    at true e (inr none) = absurd none
    at false e among = of_each d m s Store (λ t. Ask Store s Ad t) x (λ t has. (start, e, has)) among

of_waiting : (d : Draft) (m : Mode) (s : ℕ) (x : Desc) → IsStart d s → IsIn x (waiting_states d m s) → IsState d m x
of_waiting d m s x start among = at (is_some (shared d)) refl among
  where
    at : (b : Bool) → is_some (shared d) ≡ b → IsIn x (if b then map (λ t. Ask Store s A t) (tags d m s Store) else []) → IsState d m x
    at true e among = of_each d m s Store (λ t. Ask Store s A t) x (λ t has. (start, e, has)) among
    at false e none = absurd none

of_stores : (d : Draft) (m : Mode) (x : Desc) → HasPerms d → IsIn x (flat_map (store_states d m) (store_starts d)) → IsState d m x
of_stores d m x perms among = at s.0 (of_starts d s.0 perms s.1) (in_either x (first_states d m s.0) (waiting_states d m s.0) s.2)
  where
    s : (s : ℕ) × IsIn s (store_starts d) × IsIn x (store_states d m s)
    s = of_flat (store_states d m) x (store_starts d) among

    at : (s : ℕ) → IsStart d s → IsIn x (first_states d m s) ⊎ IsIn x (waiting_states d m s) → IsState d m x
    at s start (inl a) = of_first d m s x start a
    at s start (inr b) = of_waiting d m s x start b

of_stable : (d : Draft) (m : Mode) (x : Desc) → IsIn x (map (λ s. Stable s) (stable_states d)) → IsState d m x
of_stable d m x among = let (s, there, e) = of_map (λ s. Stable s) x (stable_states d) among in subst (IsState d m) e (of_states d s there)

of_leaving : (d : Draft) (m : Mode) (x : Desc) → IsIn x (map (λ s. Leave s) (filter (λ s. not (is (out d) s)) (stable_states d))) → IsState d m x
of_leaving d m x among =
    let (s, there, e) = of_map (λ s. Leave s) x (filter (λ s. not (is (out d) s)) (stable_states d)) among in
    subst (IsState d m) e (of_states d s (of_filter (λ s. not (is (out d) s)) s (stable_states d) there).0)

-- in one of five lists
in_five : (x : Desc) (a b c e f : List Desc) → IsIn x (a ++ b ++ c ++ e ++ f) → IsIn x a ⊎ (IsIn x b ⊎ (IsIn x c ⊎ (IsIn x e ⊎ IsIn x f)))
in_five x a b c e f among = four_five (in_either x (a ++ b ++ c ++ e) f among)
  where
    two : IsIn x a ⊎ IsIn x b → IsIn x a ⊎ (IsIn x b ⊎ (IsIn x c ⊎ (IsIn x e ⊎ IsIn x f)))
    two (inl h) = inl h
    two (inr h) = inr (inl h)

    three : IsIn x (a ++ b) ⊎ IsIn x c → IsIn x a ⊎ (IsIn x b ⊎ (IsIn x c ⊎ (IsIn x e ⊎ IsIn x f)))
    three (inl h) = two (in_either x a b h)
    three (inr h) = inr (inr (inl h))

    four_of : IsIn x (a ++ b ++ c) ⊎ IsIn x e → IsIn x a ⊎ (IsIn x b ⊎ (IsIn x c ⊎ (IsIn x e ⊎ IsIn x f)))
    four_of (inl h) = three (in_either x (a ++ b) c h)
    four_of (inr h) = inr (inr (inr (inl h)))

    four_five : IsIn x (a ++ b ++ c ++ e) ⊎ IsIn x f → IsIn x a ⊎ (IsIn x b ⊎ (IsIn x c ⊎ (IsIn x e ⊎ IsIn x f)))
    four_five (inl h) = four_of (in_either x (a ++ b ++ c) e h)
    four_five (inr h) = inr (inr (inr (inr h)))

of_five : (x : Desc) (a b c e f : List Desc) → IsIn x a ⊎ (IsIn x b ⊎ (IsIn x c ⊎ (IsIn x e ⊎ IsIn x f))) → IsIn x (a ++ b ++ c ++ e ++ f)
of_five x a b c e f (inl h) = in_left x (a ++ b ++ c ++ e) f (in_left x (a ++ b ++ c) e (in_left x (a ++ b) c (in_left x a b h)))
of_five x a b c e f (inr (inl h)) = in_left x (a ++ b ++ c ++ e) f (in_left x (a ++ b ++ c) e (in_left x (a ++ b) c (in_right x a b h)))
of_five x a b c e f (inr (inr (inl h))) = in_left x (a ++ b ++ c ++ e) f (in_left x (a ++ b ++ c) e (in_right x (a ++ b) c h))
of_five x a b c e f (inr (inr (inr (inl h)))) = in_left x (a ++ b ++ c ++ e) f (in_right x (a ++ b ++ c) e h)
of_five x a b c e f (inr (inr (inr (inr h)))) = in_right x (a ++ b ++ c ++ e) f h

-- in one of the parts of the list of states
abbrev IsInPart : Draft → Mode → Desc → Type 0
IsInPart d m x = IsIn x (map (λ s. Stable s) (stable_states d)) ⊎ (IsIn x (map (λ t. Ask Load (out_state d) D t) (tags d m (out_state d) Load))
    ⊎ (IsIn x (flat_map (store_states d m) (store_starts d)) ⊎ (IsIn x (map (λ s. Leave s) (filter (λ s. not (is (out d) s)) (stable_states d)))
    ⊎ IsIn x (Leave (out_state d) ∷ []))))

-- a state of the list is one of the controller
pub is_state : (d : Draft) (m : Mode) (s : Desc) → HasPerms d → is_among (descs d m) s ≡ true → IsState d m s
is_state d m s perms h =
    let (x, there, same) = any_in (same_desc s) (descs d m) h in
    subst (IsState d m) (sym (same_desc_is s x same)) (at x (in_five x (map (λ s. Stable s) (stable_states d)) (map (λ t. Ask Load (out_state d) D t) (tags d m (out_state d) Load))
    (flat_map (store_states d m) (store_starts d)) (map (λ s. Leave s) (filter (λ s. not (is (out d) s)) (stable_states d))) (Leave (out_state d) ∷ []) there))
  where
    at : (x : Desc) → IsInPart d m x → IsState d m x
    at x (inl a) = of_stable d m x a
    at x (inr (inl b)) = of_each d m (out_state d) Load (λ t. Ask Load (out_state d) D t) x (λ t has. (out_is_out_state d perms, has)) b
    at x (inr (inr (inl c))) = of_stores d m x perms c
    at x (inr (inr (inr (inl e)))) = of_leaving d m x e
    at x (inr (inr (inr (inr (inl e))))) = subst (IsState d m) e (out_below d (out_state d) (out_is_out_state d perms))
    at x (inr (inr (inr (inr (inr none))))) = absurd none

in_stores : (d : Draft) (m : Mode) (s : ℕ) (x : Desc) → IsStart d s → IsIn x (store_states d m s) → IsInPart d m x
in_stores d m s x start among = inr (inr (inl (in_flat (store_states d m) s x (store_starts d) (in_starts d s start) among)))

in_load : (d : Draft) (m : Mode) (s : ℕ) (tag : Tag) → HasTag d m s Load tag → out_state d ≡ s → IsInPart d m (Ask Load s D tag)
in_load d m s tag has e =
    let there : HasTag d m (out_state d) Load tag = subst (λ n. HasTag d m n Load tag) (sym e) has in
    subst (λ n. IsInPart d m (Ask Load n D tag)) e
    (inr (inl (in_map (λ t. Ask Load (out_state d) D t) tag (tags d m (out_state d) Load) (in_tags d m (out_state d) Load tag there))))

in_first : (d : Draft) (m : Mode) (s : ℕ) (tag : Tag) → cache_is (λ c. is_owner c.role) d s ≡ false → HasTag d m s Store tag → IsIn (Ask Store s Ad tag) (first_states d m s)
in_first d m s tag e has =
    subst (λ b. IsIn (Ask Store s Ad tag) (if b then Ask Store s Ac Plain ∷ [] else map (λ t. Ask Store s Ad t) (tags d m s Store))) (sym e)
    (in_map (λ t. Ask Store s Ad t) tag (tags d m s Store) (in_tags d m s Store tag has))

in_counting : (d : Draft) (m : Mode) (s : ℕ) (tag : Tag) → cache_is (λ c. is_owner c.role) d s ≡ true → tag ≡ Plain → IsIn (Ask Store s Ac tag) (first_states d m s)
in_counting d m s tag e plain =
    subst (λ b. IsIn (Ask Store s Ac tag) (if b then Ask Store s Ac Plain ∷ [] else map (λ t. Ask Store s Ad t) (tags d m s Store))) (sym e)
    (inl (ap (λ t. Ask Store s Ac t) (sym plain)))

in_waiting : (d : Draft) (m : Mode) (s : ℕ) (tag : Tag) → is_some (shared d) ≡ true → HasTag d m s Store tag → IsIn (Ask Store s A tag) (waiting_states d m s)
in_waiting d m s tag e has =
    subst (λ b. IsIn (Ask Store s A tag) (if b then map (λ t. Ask Store s A t) (tags d m s Store) else [])) (sym e)
    (in_map (λ t. Ask Store s A t) tag (tags d m s Store) (in_tags d m s Store tag has))

in_part : (d : Draft) (m : Mode) (s : Desc) → HasPerms d → IsState d m s → IsInPart d m s
in_part d m (Stable s) perms h = inl (in_map (λ s. Stable s) s (stable_states d) (in_states d s h))
in_part d m (Ask Load s D tag) perms h = in_load d m s tag h.1 (out_one d s h.0)
in_part d m (Ask Store s Ad tag) perms h =
    in_stores d m s (Ask Store s Ad tag) h.0 (in_left (Ask Store s Ad tag) (first_states d m s) (waiting_states d m s) (in_first d m s tag h.1 h.2))
in_part d m (Ask Store s Ac tag) perms h =
    in_stores d m s (Ask Store s Ac tag) h.0 (in_left (Ask Store s Ac tag) (first_states d m s) (waiting_states d m s) (in_counting d m s tag h.1 h.2))
in_part d m (Ask Store s A tag) perms h =
    in_stores d m s (Ask Store s A tag) h.0 (in_right (Ask Store s A tag) (first_states d m s) (waiting_states d m s) (in_waiting d m s tag h.1 h.2))
in_part d m (Leave s) perms h = at (is (out d) s) refl
  where
    at : (b : Bool) → is (out d) s ≡ b → IsInPart d m (Leave s)
    at true e = inr (inr (inr (inr (inl (ap Leave (out_one d s (is_then_some (out d) s e)))))))
    at false e = inr (inr (inr (inl (in_map (λ s. Leave s) s (filter (λ s. not (is (out d) s)) (stable_states d))
        (in_filter (λ s. not (is (out d) s)) s (stable_states d) (ap not e) (in_states d s h))))))
in_part d m _ perms h = absurd h

-- and a state of the controller is in the list
pub is_listed : (d : Draft) (m : Mode) (s : Desc) → HasPerms d → IsState d m s → is_among (descs d m) s ≡ true
is_listed d m s perms h =
    in_any (same_desc s) s (descs d m) (of_five s (map (λ s. Stable s) (stable_states d)) (map (λ t. Ask Load (out_state d) D t) (tags d m (out_state d) Load))
    (flat_map (store_states d m) (store_starts d)) (map (λ s. Leave s) (filter (λ s. not (is (out d) s)) (stable_states d))) (Leave (out_state d) ∷ []) (in_part d m s perms h)) (same_desc_self s)
