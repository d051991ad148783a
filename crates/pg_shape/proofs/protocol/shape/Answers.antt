use Rattle.std.proofs.Common.{◌≡◌, sym, ◌∙◌, subst}
use Rattle.pg_shape.specs.ShapeFaults.{IsShapeFault}
use Rattle.pg_shape.proofs.Exact.{shape_fault_is_first, no_fault_is_shape}
use Rattle.pg_shape.proofs.ShapeGives.{shape_gives_all}
use Rattle.pg_shape.proofs.protocol.shape.Goals as goal

pub invariant_of-result : goal.invariant_of-result
invariant_of-result c =
    let shape = no_fault_is_shape c.args.draft c.requires (sym c.shape_fault.ensures ∙ c.in-None.is) in
    record { well_formed = c.requires; shape = shape; shaped = shape_gives_all c.args.draft c.requires shape }

pub returns-in-Some-clause-fault : goal.returns-in-Some-clause-fault
returns-in-Some-clause-fault c = λ f e.
    let same : c.in-Some.fault ≡ f = cc in
    subst (IsShapeFault c.args.draft) same (shape_fault_is_first c.args.draft c.in-Some.fault c.requires (sym c.shape_fault.ensures ∙ c.in-Some.is))

pub returns-in-None-clause-whole : goal.returns-in-None-clause-whole
returns-in-None-clause-whole c = no_fault_is_shape c.args.draft c.requires (sym c.shape_fault.ensures ∙ c.in-None.is)

pub returns-in-None-clause-shaped : goal.returns-in-None-clause-shaped
returns-in-None-clause-shaped c = shape_gives_all c.args.draft c.requires (no_fault_is_shape c.args.draft c.requires (sym c.shape_fault.ensures ∙ c.in-None.is))
