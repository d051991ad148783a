-- Where the operations of a cache end.
use Rattle.std.proofs.Common.{◌≡◌, ℕ, inl, true, List, [], ◌∷◌, ◌++◌, Option, Some, None, refl, sym, subst, ap, ◌∙◌}
use Rattle.std.specs.Prelude.{slice_get, is_some, unwrap_or, if◌then◌else◌}
use Rattle.std.specs.Option.{option_and_then}
use Rattle.pg_perm.specs.declared.kinds.Event.TheVariants.{Load, Store}
use Rattle.pg_perm.specs.declared.kinds.Mode.TheVariants as mode
use Rattle.pg_perm.specs.declared.draft.Draft.{Draft}
use Rattle.pg_perm.specs.declared.draft.CoreLine.{CoreLine}
use Rattle.pg_perm.specs.declared.draft.ReplyName.{ReplyName}
use Rattle.pg_perm.specs.declared.draft.ReplyName.TheVariants as reply
use Rattle.pg_terms.specs.Terms.{cache_is, shared, request_of, core_row}
use Rattle.pg_terms.specs.Rows.{allows, store_next, final_state}
use Rattle.pg_perm.specs.declared.kinds.ReqClass.TheVariants.{Read, Write}
use Rattle.pg_shape.specs.Shaped.{IsShaped}
use Rattle.pg_shape.proofs.Searches.{map_or_get}
use Rattle.pg_table.specs.declared.cache.Desc.TheVariants.{Stable, Ask}
use Rattle.pg_table.specs.declared.cache.Phase.TheVariants.{D, Ad, Ac, A}
use Rattle.pg_table.specs.declared.cache.Tag.{Tag}
use Rattle.pg_table.specs.declared.cache.Tag.TheVariants.{Plain}
use Rattle.pg_table.specs.declared.cache.Act.{Act}
use Rattle.pg_table.specs.declared.cache.Act.TheVariants as act
use Rattle.pg_table.specs.declared.cache.Input.TheVariants as at
use Rattle.pg_table.specs.Descriptors.{out_state, end_under_tag, final_states, store_phase, descs}
use Rattle.pg_table.specs.Choices.{only_choice, choices_if_some, choices_if_shared, serve_acts, end_choices, store_final, choices}
use Rattle.pg_table.specs.Sound.{is_among}
use Rattle.pg_table.proofs.Lists.{IsIn}
use Rattle.pg_table.proofs.Members.{is_state}
use Rattle.pg_table.proofs.Finals.{final_in}
use Rattle.pg_table.proofs.StoreEnds.{ends_once, tells}
use Rattle.pg_table.proofs.DueInputs.{hit_next}

-- the one final state of a store is that of each of its replies
store_final_is : (d : Draft) (s x : ℕ) (name : ReplyName) → IsShaped d → final_state d s Store name ≡ Some x → store_final (final_states d s Store) ≡ Some x
store_final_is d s x name shape final = at (final_states d s Store) refl (final_in d s Store name x final)
  where
    at : (xs : List ℕ) → final_states d s Store ≡ xs → IsIn x xs → store_final xs ≡ Some x
    at [] e among = absurd among
    at (y ∷ ys) e among =
        let first : IsIn y (final_states d s Store) = subst (IsIn y) (sym e) (inl refl) in
        ap Some (ends_once d s y x shape first (final_in d s Store name x final))

-- an operation ends where its tag tells
ends_at : (d : Draft) (g : Tag) (acts : List Act) (o : Option ℕ) (x y : ℕ) → o ≡ Some x → end_under_tag d x g ≡ Some y
    → end_choices d g acts o ≡ record { acts = acts ++ act.Done ∷ [] ++ serve_acts g; next = Stable y } ∷ []
ends_at d g acts o x y final ends =
    ap (λ (o : Option ℕ). end_choices d g acts o) final
    ∙ ap (λ (o : Option ℕ). choices_if_some o (λ x. only_choice (acts ++ act.Done ∷ [] ++ serve_acts g) (Stable x))) ends

part_at : (d : Draft) (s x : ℕ) (g : Tag) (o : Option ℕ) → is_some (shared d) ≡ true → o ≡ Some x
    → choices_if_shared d (choices_if_some o (λ x. only_choice (act.Fill ∷ act.Need ∷ []) (Ask Store s A g)))
    ≡ record { acts = act.Fill ∷ act.Need ∷ []; next = Ask Store s A g } ∷ []
part_at d s x g o there final =
    ap (λ b. if b then choices_if_some o (λ x. only_choice (act.Fill ∷ act.Need ∷ []) (Ask Store s A g)) else []) there
    ∙ ap (λ (o : Option ℕ). choices_if_some o (λ x. only_choice (act.Fill ∷ act.Need ∷ []) (Ask Store s A g))) final

some_is : (o : Option ℕ) → is_some o ≡ true → (x : ℕ) × (o ≡ Some x)
some_is None h = absurd cc
some_is (Some x) h = (x, refl)

pub ack_ends_as_data : (d : Draft) (s r x : ℕ) (g : Tag) → IsShaped d → is_among (descs d mode.Defer) (Ask Store s A g) ≡ true → final_state d s Store (reply.Reply r) ≡ Some x
    → (y : ℕ) × (end_under_tag d x g ≡ Some y)
    × (choices d (Ask Store s Ad g) (at.DataAll r) ≡ record { acts = act.Fill ∷ act.Done ∷ serve_acts g; next = Stable y } ∷ [])
    × (choices d (Ask Store s Ad g) (at.DataPart r) ≡ record { acts = act.Fill ∷ act.Need ∷ []; next = Ask Store s A g } ∷ [])
    × (choices d (Ask Store s A g) at.AckLast ≡ record { acts = act.Count ∷ act.Done ∷ serve_acts g; next = Stable y } ∷ [])
ack_ends_as_data d s r x g shape among final =
    let (start, there, has) = is_state d mode.Defer (Ask Store s A g) shape.perms among in
    let (y, ends) = some_is (end_under_tag d x g) (tells d s x g shape has (final_in d s Store (reply.Reply r) x final)) in (
      y,
      ends,
      ends_at d g (act.Fill ∷ []) (final_state d s Store (reply.Reply r)) x y final ends,
      part_at d s x g (final_state d s Store (reply.Reply r)) there final,
      ends_at d g (act.Count ∷ []) (store_final (final_states d s Store)) x y (store_final_is d s x (reply.Reply r) shape final) ends,
    )

pub ack_ends_as_count : (d : Draft) (s x : ℕ) → IsShaped d → is_some (shared d) ≡ true → final_state d s Store reply.AckCount ≡ Some x
    → (choices d (Ask Store s Ac Plain) at.CountAll ≡ record { acts = act.Done ∷ []; next = Stable x } ∷ [])
    × (choices d (Ask Store s Ac Plain) at.CountPart ≡ record { acts = act.Need ∷ []; next = Ask Store s A Plain } ∷ [])
    × (choices d (Ask Store s A Plain) at.AckLast ≡ record { acts = act.Count ∷ act.Done ∷ []; next = Stable x } ∷ [])
ack_ends_as_count d s x shape there final = (
  ends_at d Plain [] (final_state d s Store reply.AckCount) x x final refl,
  ap (λ b. if b then only_choice (act.Need ∷ []) (Ask Store s A Plain) else []) there,
  ends_at d Plain (act.Count ∷ []) (store_final (final_states d s Store)) x x (store_final_is d s x reply.AckCount shape final) refl,
)

-- Hits

pub load_hit : (d : Draft) (s : ℕ) → cache_is (allows Load) d s ≡ true → choices d (Stable s) (at.Core Load) ≡ record { acts = act.Hit ∷ []; next = Stable s } ∷ []
load_hit d s may = ap
    (λ b. if b then only_choice (act.Hit ∷ []) (Stable s) else choices_if_some (request_of d Read) (λ q. only_choice (act.Send q ∷ []) (Ask Load (out_state d) D Plain))) may

pub store_hit : (d : Draft) (s : ℕ) → IsShaped d → cache_is (allows Store) d s ≡ true → choices d (Stable s) (at.Core Store)
    ≡ record { acts = act.Hit ∷ []; next = Stable (unwrap_or (option_and_then (λ l. store_next s Store l.form) (core_row d s Store)) s) } ∷ []
store_hit d s shape may =
    let (c, get, allowed) = map_or_get (allows Store) (slice_get d.caches s) may in
    let (x, row) = shape.cores.row s Store c get (λ e. absurd cc) in
    let (t, leads) = hit_next s x.form (shape.cores.hits s Store c x get row allowed) in
    let next : option_and_then (λ (l : CoreLine). store_next s Store l.form) (core_row d s Store) ≡ Some t =
    ap (λ (o : Option CoreLine). option_and_then (λ l. store_next s Store l.form) o) row ∙ leads in
    ap
    (λ b. if b then choices_if_some (option_and_then (λ l. store_next s Store l.form) (core_row d s Store)) (λ t. only_choice (act.Hit ∷ []) (Stable t))
    else choices_if_some (request_of d Write) (λ q. only_choice (act.Send q ∷ []) (Ask Store s (store_phase d s) Plain))) may
    ∙ hits (option_and_then (λ l. store_next s Store l.form) (core_row d s Store)) t next
  where
    hits : (o : Option ℕ) (t : ℕ) → o ≡ Some t → choices_if_some o (λ t. only_choice (act.Hit ∷ []) (Stable t)) ≡ record { acts = act.Hit ∷ []; next = Stable (unwrap_or o s) } ∷ []
    hits None t e = absurd cc
    hits (Some x) t e = refl
