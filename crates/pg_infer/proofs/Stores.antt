-- What a store does, by what it meets.
use Rattle.std.proofs.Common.{◌≡◌, ℕ, true, false, [], ◌∷◌, refl}
use Rattle.std.specs.Option.{option_and_then}
use Rattle.pg_perm.specs.declared.kinds.Event.TheVariants.{Store}
use Rattle.pg_perm.specs.declared.kinds.ReqClass.TheVariants.{Write}
use Rattle.pg_perm.specs.declared.draft.Draft.{Draft}
use Rattle.pg_terms.specs.Terms.{cache_is, request_of, core_row}
use Rattle.pg_terms.specs.Rows.{allows, store_next}
use Rattle.pg_table.specs.declared.cache.Desc.TheVariants.{Stable, Ask}
use Rattle.pg_table.specs.declared.cache.Tag.TheVariants.{Plain}
use Rattle.pg_table.specs.declared.cache.Act.TheVariants as act
use Rattle.pg_table.specs.Descriptors.{store_phase}
use Rattle.pg_table.specs.declared.cache.Tag.{Tag}
use Rattle.pg_table.specs.declared.cache.Input.TheVariants as at
use Rattle.pg_table.specs.Choices.{only_choice, choices_if_some, by_store, is_earlier, earlier_choices, when_storing}

pub with_permission : (d : Draft) (s : ℕ) → cache_is (allows Store) d s ≡ true
    → by_store d s ≡ choices_if_some (option_and_then (λ l. store_next s Store l.form) (core_row d s Store)) (λ t. only_choice (act.Hit ∷ []) (Stable t))
with_permission d s e = rw e refl

pub without_permission : (d : Draft) (s : ℕ) → cache_is (allows Store) d s ≡ false
    → by_store d s ≡ choices_if_some (request_of d Write) (λ q. only_choice (act.Send q ∷ []) (Ask Store s (store_phase d s) Plain))
without_permission d s e = rw e refl

pub meets_earlier : (d : Draft) (s : ℕ) (t : Tag) (f : ℕ) → is_earlier d s t f ≡ true → when_storing d s t (at.Forward f) ≡ earlier_choices d s f
meets_earlier d s t f e = rw e refl
