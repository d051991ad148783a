use Rattle.std.proofs.Common.{◌≡◌, ℕ, zero, suc, ◌-◌, ◌<◌, false, ◌||◌, sym, subst, ap, ◌∙◌, arith}
use Rattle.pg_perm.specs.declared.draft.Draft.{Draft}
use Rattle.pg_shape.specs.CacheRules.{lacks_take_line, lacks_take_lines_below}
use Rattle.pg_shape.proofs.cache_rules.lacks_take_lines_below.Goals as goal

-- where the last forward below a number lacks none, those below it answer for all
next_below : (d : Draft) (s n : ℕ) → 0 < n → lacks_take_line d s (n - 1) ≡ false
    → lacks_take_lines_below d s (n - 1) ≡ lacks_take_lines_below d s n
next_below d s zero h e = absurd (omega (arith, h))
next_below d s (suc f) h e =
    let less : suc f - 1 ≡ f = omega arith in
    let answered : lacks_take_line d s f ≡ false = subst (λ k. lacks_take_line d s k ≡ false) less e in
    ap (lacks_take_lines_below d s) less ∙ sym (ap (λ b. b || lacks_take_lines_below d s f) answered)

pub loop-left-preserved : goal.loop-left-preserved
loop-left-preserved c =
    next_below c.args.draft.now c.args.state c.loop-left.left c.loop-left-test.true (sym c.if-lacks_take_line.ensures)
    ∙ c.loop-left.invariant
