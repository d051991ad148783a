use Rattle.std.proofs.Common.{◌≡◌, ℕ, zero, suc, ◌-◌, ◌<◌, false, ◌||◌, List, sym, subst, ap, ◌∙◌, arith}
use Rattle.pg_perm.specs.declared.kinds.Role.{Role}
use Rattle.pg_perm.specs.declared.kinds.Event.{Event}
use Rattle.pg_perm.specs.declared.draft.Draft.{Draft}
use Rattle.pg_perm.specs.declared.draft.Pair.{Pair}
use Rattle.pg_perm.specs.declared.draft.ReplyName.TheVariants.{Reply}
use Rattle.pg_shape.specs.CoreRules.{misses_reply_name, misses_below}
use Rattle.pg_shape.proofs.core_rules.misses_below.Goals as goal

-- where the last reply below a number isn't missed, those below it answer for all
next_below : (d : Draft) (role : Role) (event : Event) (pairs : List Pair) (n : ℕ) → 0 < n → misses_reply_name d role event pairs (Reply (n - 1)) ≡ false
    → misses_below d role event pairs (n - 1) ≡ misses_below d role event pairs n
next_below d role event pairs zero h e = absurd (omega (arith, h))
next_below d role event pairs (suc m) h e =
    let less : suc m - 1 ≡ m = omega arith in
    let named : misses_reply_name d role event pairs (Reply m) ≡ false = subst (λ k. misses_reply_name d role event pairs (Reply k) ≡ false) less e in
    ap (misses_below d role event pairs) less ∙ sym (ap (λ b. b || misses_below d role event pairs m) named)

pub loop-left-preserved : goal.loop-left-preserved
loop-left-preserved c =
    next_below c.args.draft.now c.args.role c.args.event c.args.pairs.now c.loop-left.left c.loop-left-test.true (sym c.if-misses_reply_name.ensures)
    ∙ c.loop-left.invariant
