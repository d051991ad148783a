-- States with the same name are the same.
use Rattle.std.proofs.Common.{◌≡◌, ℕ, true, inl, inr, List, [], ◌∷◌, ◌++◌, refl, sym, ap, ◌∙◌, append_assoc}
use Rattle.std.specs.List.{list_any}
use Rattle.pg_perm.specs.declared.kinds.Event.{Event}
use Rattle.pg_perm.specs.declared.kinds.Event.TheVariants.{Store}
use Rattle.pg_perm.specs.declared.kinds.Mode.{Mode}
use Rattle.pg_perm.specs.declared.draft.Draft.{Draft}
use Rattle.pg_perm.specs.Drafts.{IsWellFormed}
use Rattle.pg_perm.specs.Words.{cache_name, dir_name}
use Rattle.pg_shape.specs.Shaped.{IsShaped}
use Rattle.pg_table.specs.declared.cache.Desc.{Desc}
use Rattle.pg_table.specs.declared.cache.Desc.TheVariants.{Stable, Ask, Leave}
use Rattle.pg_table.specs.declared.cache.Phase.{Phase}
use Rattle.pg_table.specs.declared.cache.Phase.TheVariants.{D, A}
use Rattle.pg_table.specs.declared.cache.Tag.{Tag}
use Rattle.pg_table.specs.declared.cache.Tag.TheVariants.{Plain}
use Rattle.pg_table.specs.declared.directory.DirDesc.{DirDesc}
use Rattle.pg_table.specs.declared.directory.DirDesc.TheVariants.{State, Busy}
use Rattle.pg_table.specs.Descriptors.{out_state, final_states, descs}
use Rattle.pg_table.specs.Directory.{dir_descs}
use Rattle.pg_table.specs.Sound.{is_among}
use Rattle.pg_table.specs.Tables.{same_dir_desc}
use Rattle.pg_print.specs.Names.{first_name, join_names, phase_word, tag_word, state_name, dir_state_name}
use Rattle.pg_print.proofs.Lacking.{lacks, lacks_apart, same_around}
use Rattle.pg_print.proofs.Endings.{letters, ending_begins, same_ending}
use Rattle.pg_print.proofs.Written.{cache_lacks, dir_lacks, same_cache, same_dir}
use Rattle.pg_print.proofs.Joins.{join_lacks, same_join}
use Rattle.pg_print.proofs.Known.{IsAsked, StateFits, DirStateFits, state_fits, dir_state_fits}
use Rattle.pg_table.proofs.Members.{out_below, out_is_out_state}
use Rattle.pg_print.proofs.Starts.{start_ends}

-- what stands before the `_` of the name of a state that has asked
abbrev begun : Draft → Event → ℕ → List ℕ
begun d event s = join_names (cache_name d s) (first_name d (final_states d s event))

-- and of one that leaves
abbrev left : Draft → ℕ → List ℕ
left d s = join_names (cache_name d s) (cache_name d (out_state d))

-- and what stands after it
abbrev phase_and_tag : Phase → Tag → List ℕ
phase_and_tag p t = letters p ++ tag_word t

ask_written : (d : Draft) (event : Event) (s : ℕ) (p : Phase) (t : Tag) → state_name d (Ask event s p t) ≡ begun d event s ++ 95 ∷ phase_and_tag p t
ask_written d event s p t = append_assoc (begun d event s) (phase_word p) (tag_word t) ∙ ap (λ (x : List ℕ). begun d event s ++ x) (ending_begins p t)

same_phase_and_tag : (p q : Phase) (t u : Tag) → phase_and_tag p t ≡ phase_and_tag q u → (p ≡ q) × (t ≡ u)
same_phase_and_tag p q t u e = same_ending p q t u (ending_begins p t ∙ ap (λ (x : List ℕ). 95 ∷ x) e ∙ sym (ending_begins q u))

first_lacks : (d : Draft) → IsWellFormed d → (ss : List ℕ) → (lacks 95 (first_name d ss) ≡ true) × (lacks 46 (first_name d ss) ≡ true)
first_lacks d w [] = (refl, refl)
first_lacks d w (s ∷ ss) = cache_lacks d w s

begun_lacks : (d : Draft) → IsWellFormed d → (event : Event) (s : ℕ) → lacks 95 (begun d event s) ≡ true
begun_lacks d w event s = join_lacks (cache_name d s) (first_name d (final_states d s event)) (cache_lacks d w s).0 (first_lacks d w (final_states d s event)).0

left_lacks : (d : Draft) → IsWellFormed d → (s : ℕ) → lacks 95 (left d s) ≡ true
left_lacks d w s = join_lacks (cache_name d s) (cache_name d (out_state d)) (cache_lacks d w s).0 (cache_lacks d w (out_state d)).0

-- two states that have asked
asks_apart : (d : Draft) → IsWellFormed d → IsShaped d → (e f : Event) (s r : ℕ) (p q : Phase) (t u : Tag) → IsAsked d e s p → IsAsked d f r q
    → state_name d (Ask e s p t) ≡ state_name d (Ask f r q u) → Ask e s p t ≡ Ask f r q u
asks_apart d w shaped e f s r p q t u asked other named =
    let same = same_around 95 (begun d e s) (begun d f r) (phase_and_tag p t) (phase_and_tag q u) (begun_lacks d w e s) (begun_lacks d w f r)
    (sym (ask_written d e s p t) ∙ named ∙ ask_written d f r q u) in
    let ends = same_phase_and_tag p q t u same.1 in
    let names = same_join (cache_name d s) (first_name d (final_states d s e)) (cache_name d r) (first_name d (final_states d r f))
    (cache_lacks d w s).1 (first_lacks d w (final_states d s e)).1 (cache_lacks d w r).1 (first_lacks d w (final_states d r f)).1 same.0 in
    at asked other ends.0 ends.1 names.0
  where
    at : IsAsked d e s p → IsAsked d f r q → p ≡ q → t ≡ u → cache_name d s ≡ cache_name d r → Ask e s p t ≡ Ask f r q u
    at (inl (load, phase, start)) (inl (loads, phases, starts)) phased tagged named = cc
    at (inl (load, phase, start)) (inr (stores, phases, starts)) phased tagged named = absurd (phases (sym phased ∙ phase))
    at (inr (store, phase, start)) (inl (loads, phases, starts)) phased tagged named = absurd (phase (phased ∙ phases))
    at (inr (store, phase, start)) (inr (stores, phases, starts)) phased tagged named =
        let began : s ≡ r = same_cache d w s r (start_ends d w shaped s start).0 (start_ends d w shaped r starts).0 named in
        cc

-- one that has asked and one that leaves
ask_not_left : (d : Draft) → IsWellFormed d → IsShaped d → (e : Event) (s r : ℕ) (p : Phase) (t : Tag) → IsAsked d e s p
    → state_name d (Ask e s p t) ≡ state_name d (Leave r) → ⊥
ask_not_left d w shaped e s r p t asked named =
    let same = same_around 95 (begun d e s) (left d r) (phase_and_tag p t) (phase_and_tag A Plain) (begun_lacks d w e s) (left_lacks d w r)
    (sym (ask_written d e s p t) ∙ named) in
    let names = same_join (cache_name d s) (first_name d (final_states d s e)) (cache_name d r) (cache_name d (out_state d))
    (cache_lacks d w s).1 (first_lacks d w (final_states d s e)).1 (cache_lacks d w r).1 (cache_lacks d w (out_state d)).1 same.0 in
    at asked (same_phase_and_tag p A t Plain same.1).0 names.1
  where
    at : IsAsked d e s p → p ≡ A → first_name d (final_states d s e) ≡ cache_name d (out_state d) → ⊥
    at (inl (load, phase, start)) phased named = absurd cc
    at (inr (store, phase, start)) phased named =
        let (f, first, below, other) = (start_ends d w shaped s start).1 in
        let stored : first_name d (final_states d s Store) ≡ cache_name d (out_state d) = ap (λ (event : Event). first_name d (final_states d s event)) (sym store) ∙ named in
        other (same_cache d w f (out_state d) below (out_below d (out_state d) (out_is_out_state d shaped.perms)) (sym first ∙ stored))

apart : (d : Draft) → IsWellFormed d → IsShaped d → (s t : Desc) → StateFits d s → StateFits d t → state_name d s ≡ state_name d t → s ≡ t
apart d w shaped (Stable s) (Stable t) a b e = ap (λ (n : ℕ). Stable n) (same_cache d w s t a b e)
apart d w shaped (Stable s) (Ask event t p u) a b e =
    absurd (lacks_apart 95 (cache_name d s) (begun d event t) (phase_and_tag p u) (cache_lacks d w s).0 (e ∙ ask_written d event t p u))
apart d w shaped (Stable s) (Leave t) a b e = absurd (lacks_apart 95 (cache_name d s) (left d t) (phase_and_tag A Plain) (cache_lacks d w s).0 e)
apart d w shaped (Ask event s p u) (Stable t) a b e =
    absurd (lacks_apart 95 (cache_name d t) (begun d event s) (phase_and_tag p u) (cache_lacks d w t).0 (sym e ∙ ask_written d event s p u))
apart d w shaped (Ask event s p u) (Ask other t q v) a b e = asks_apart d w shaped event other s t p q u v a b e
apart d w shaped (Ask event s p u) (Leave t) a b e = absurd (ask_not_left d w shaped event s t p u a e)
apart d w shaped (Leave s) (Stable t) a b e = absurd (lacks_apart 95 (cache_name d t) (left d s) (phase_and_tag A Plain) (cache_lacks d w t).0 (sym e))
apart d w shaped (Leave s) (Ask event t p u) a b e = absurd (ask_not_left d w shaped event t s p u b (sym e))
apart d w shaped (Leave s) (Leave t) a b e =
    let same = same_around 95 (left d s) (left d t) (phase_and_tag A Plain) (phase_and_tag A Plain) (left_lacks d w s) (left_lacks d w t) e in
    let names = same_join (cache_name d s) (cache_name d (out_state d)) (cache_name d t) (cache_name d (out_state d))
    (cache_lacks d w s).1 (cache_lacks d w (out_state d)).1 (cache_lacks d w t).1 (cache_lacks d w (out_state d)).1 same.0 in
    ap (λ (n : ℕ). Leave n) (same_cache d w s t a b names.0)

-- states of a cache controller with the same name are the same
pub states_apart : (d : Draft) (m : Mode) (s t : Desc) → IsWellFormed d → IsShaped d → is_among (descs d m) s ≡ true → is_among (descs d m) t ≡ true
    → state_name d s ≡ state_name d t → s ≡ t
states_apart d m s t w shaped a b e =
    apart d w shaped s t (state_fits d m s shaped.perms a) (state_fits d m t shaped.perms b) e

dir_names_apart : (d : Draft) → IsWellFormed d → (s t : DirDesc) → DirStateFits d s → DirStateFits d t → dir_state_name d s ≡ dir_state_name d t → s ≡ t
dir_names_apart d w (State n) (State m) a b e = ap (λ (k : ℕ). State k) (same_dir d w n m a b e)
dir_names_apart d w (State n) (Busy m) a b e = absurd (lacks_apart 95 (dir_name d n) (dir_name d m) (letters D) (dir_lacks d w n).0 e)
dir_names_apart d w (Busy n) (State m) a b e = absurd (lacks_apart 95 (dir_name d m) (dir_name d n) (letters D) (dir_lacks d w m).0 (sym e))
dir_names_apart d w (Busy n) (Busy m) a b e =
    let same = same_around 95 (dir_name d n) (dir_name d m) (letters D) (letters D) (dir_lacks d w n).0 (dir_lacks d w m).0 e in
    ap (λ (k : ℕ). Busy k) (same_dir d w n m a b same.0)

-- states of the directory controller with the same name are the same
pub dir_states_apart : (d : Draft) (s t : DirDesc) → IsWellFormed d → list_any (same_dir_desc s) (dir_descs d) ≡ true
    → list_any (same_dir_desc t) (dir_descs d) ≡ true → dir_state_name d s ≡ dir_state_name d t → s ≡ t
dir_states_apart d s t w a b e = dir_names_apart d w s t (dir_state_fits d s a) (dir_state_fits d t b) e
