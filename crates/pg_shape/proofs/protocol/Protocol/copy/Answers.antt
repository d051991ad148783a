use Rattle.std.proofs.Common.{sym, subst, ◌∙◌}
use Rattle.pg_perm.proofs.Clones.{draft_same}
use Rattle.pg_shape.specs.Shaped.{IsProtocol}
use Rattle.pg_shape.proofs.protocol.Protocol.copy.Goals as goal

pub invariant_of-result : goal.invariant_of-result
invariant_of-result c =
    let same = draft_same _ _ c.in_ok-draft.ensures.cases in
    subst IsProtocol (sym same) c.self.invariant

pub returns : goal.returns
returns c = draft_same _ _ c.in_ok-draft.ensures.cases ∙ c.self.view_is
