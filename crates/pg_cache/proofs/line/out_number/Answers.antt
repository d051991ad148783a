use Rattle.std.proofs.Common.{◌≡◌, ◌≤◌, ℕ, arith, List, length, Some, sym, ap, subst, ◌∙◌}
use Rattle.pg_perm.specs.declared.draft.Draft.{Draft}
use Rattle.pg_shape.specs.Shaped.{IsShaped}
use Rattle.pg_terms.specs.Terms.{out}
use Rattle.pg_table.specs.declared.cache.Desc.TheVariants.{Stable}
use Rattle.pg_table.specs.Controllers.{state_at}
use Rattle.pg_table.specs.Descriptors.{out_state}
use Rattle.pg_table.specs.Tables.{TableState, number_of}
use Rattle.pg_table.specs.Sound.{states_of}
use Rattle.pg_table.proofs.Members.{out_one}
use Rattle.pg_cache.proofs.Starting.{out_inside, before_out}
use Rattle.pg_cache.proofs.line.out_number.Goals as goal

pub desc-requires : goal.desc-requires
desc-requires c =
    let shaped : IsShaped c.args.t.now.protocol = subst IsShaped c.protocol.ensures.exact c.draft-draft.ensures.shaped in
    let inside = out_inside c.args.t.now.protocol c.args.t.now.cache shaped c.cache-table.ensures.sound.cache in
    let len : length c.cache-table.result.now ≡ length c.args.t.now.cache = ap (λ (t : List TableState). length t) c.cache-table.ensures.exact in
    let low : c.loop-table.number ≤ number_of (states_of c.args.t.now.cache) (Stable (out_state c.args.t.now.protocol)) = c.loop-table.invariant in
    omega (arith, inside, len, low)

pub loop-table-preserved : goal.loop-table-preserved
loop-table-preserved c =
    let shaped : IsShaped c.args.t.now.protocol = subst IsShaped c.protocol.ensures.exact c.draft-draft.ensures.shaped in
    let at : state_at c.args.t.now.cache c.loop-table.number ≡ Some c.desc.result = ap (λ (t : List TableState). state_at t c.loop-table.number) (sym c.cache-table.ensures.exact) ∙ c.desc.ensures in
    let out_is : out_state c.args.t.now.protocol ≡ c.out-out.result = out_one c.args.t.now.protocol c.out-out.result (ap (λ (d : Draft). out d) (sym c.protocol-2.ensures.exact) ∙ c.out-out.ensures) in
    let less = before_out c.args.t.now.protocol c.args.t.now.cache c.loop-table.number c.desc.result shaped c.cache-table.ensures.sound.cache at
    (λ same. c.is_other.ensures.other c.loop-table-test.true (same ∙ ap (λ (n : ℕ). Stable n) out_is)) c.loop-table.invariant in
    omega (arith, less)

pub loop-table-smaller : goal.loop-table-smaller
loop-table-smaller c =
    let shaped : IsShaped c.args.t.now.protocol = subst IsShaped c.protocol.ensures.exact c.draft-draft.ensures.shaped in
    let at : state_at c.args.t.now.cache c.loop-table.number ≡ Some c.desc.result = ap (λ (t : List TableState). state_at t c.loop-table.number) (sym c.cache-table.ensures.exact) ∙ c.desc.ensures in
    let out_is : out_state c.args.t.now.protocol ≡ c.out-out.result = out_one c.args.t.now.protocol c.out-out.result (ap (λ (d : Draft). out d) (sym c.protocol-2.ensures.exact) ∙ c.out-out.ensures) in
    let less = before_out c.args.t.now.protocol c.args.t.now.cache c.loop-table.number c.desc.result shaped c.cache-table.ensures.sound.cache at
    (λ same. c.is_other.ensures.other c.loop-table-test.true (same ∙ ap (λ (n : ℕ). Stable n) out_is)) c.loop-table.invariant in
    omega (arith, less)

pub returns : goal.returns
returns c =
    let at : state_at c.args.t.now.cache c.loop-table.number ≡ Some c.desc.result = ap (λ (t : List TableState). state_at t c.loop-table.number) (sym c.cache-table.ensures.exact) ∙ c.desc.ensures in
    let out_is : out_state c.args.t.now.protocol ≡ c.out-out.result = out_one c.args.t.now.protocol c.out-out.result (ap (λ (d : Draft). out d) (sym c.protocol-2.ensures.exact) ∙ c.out-out.ensures) in
    at ∙ ap Some (c.is_other.ensures.same c.loop-table-test.false ∙ ap (λ (n : ℕ). Stable n) (sym out_is))
