use Rattle.std.proofs.Common.{ℕ, Bool, [], ◌∷◌, ap}
use Rattle.std.specs.Prelude.{map, not}
use Rattle.std.specs.List.{filter, range_with_len}
use Rattle.pg_terms.specs.Terms.{is, out}
use Rattle.pg_table.specs.declared.cache.Desc.TheVariants.{Stable, Leave}
use Rattle.pg_infer.proofs.Ranges.{append_same, put_in_turn}
use Rattle.pg_infer.proofs.states.descs.Goals as goal

pub returns : goal.returns
returns c =
    let others : ℕ → Bool = λ s. not (is (out c.args.protocol.now) s) in
    put_in_turn _ _ _ _ _ _ _ _ _ _ _ c.new-states.ensures.items
    (append_same _ _ _ _ c.in_ok-put_stable.ensures (ap (λ (n : ℕ). map (λ s. Stable s) (range_with_len 0 n)) c.count.ensures))
    c.in_ok-put_load.ensures c.in_ok-put_stores.ensures
    (append_same _ _ _ _ c.in_ok-put_leaving.ensures (ap (λ (n : ℕ). map (λ s. Leave s) (filter others (range_with_len 0 n))) c.count-2.ensures))
    (append_same _ _ _ _ c.in_ok-put.ensures (ap (λ (n : ℕ). Leave n ∷ []) c.out_state.ensures))
