use Rattle.std.proofs.Common.{None, sym, ap, subst, ◌∙◌}
use Rattle.std.specs.Prelude.{is_some, is_none, get_or}
use Rattle.pg_cache.specs.Acts.{LineView}
use Rattle.pg_cache.specs.Rows.{RowResult, HasOutstanding, after_row}
use Rattle.pg_cache.proofs.Completed.{outstanding_kept, row_completes, row_sends_at}
use Rattle.pg_cache.proofs.line.Line.carry_out.Goals as goal

pub invariant_of-self : goal.invariant_of-self
invariant_of-self c =
    let has : HasOutstanding c.args.self.now.line = subst (λ (x : LineView). HasOutstanding x.line) c.self.view_is c.self.invariant in
    let row = c.drive.ensures.row ∙ ap (λ (x : LineView). after_row c.args.t.now c.args.input c.args.met.now x c.args.w.now) c.self.view_is in
    subst (λ (r : RowResult). HasOutstanding r.line.line) (sym row)
    (outstanding_kept c.args.t.now c.args.input c.args.met.now c.args.self.now c.args.w.now c.drive.ensures.sound c.requires.ready c.requires.met has)

pub returns-clause-row : goal.returns-clause-row
returns-clause-row c = c.drive.ensures.row ∙ ap (λ (x : LineView). after_row c.args.t.now c.args.input c.args.met.now x c.args.w.now) c.self.view_is

pub returns-clause-complete : goal.returns-clause-complete
returns-clause-complete c other =
    let has : HasOutstanding c.args.self.now.line = subst (λ (x : LineView). HasOutstanding x.line) c.self.view_is c.self.invariant in
    let row = c.drive.ensures.row ∙ ap (λ (x : LineView). after_row c.args.t.now c.args.input c.args.met.now x c.args.w.now) c.self.view_is in
    ap (λ (r : RowResult). is_some r.done) row
    ∙ row_completes c.args.t.now c.args.input c.args.met.now c.args.self.now c.args.w.now c.drive.ensures.sound c.requires.ready has other

pub returns-clause-sent : goal.returns-clause-sent
returns-clause-sent c e is empty =
    let row = c.drive.ensures.row ∙ ap (λ (x : LineView). after_row c.args.t.now c.args.input c.args.met.now x c.args.w.now) c.self.view_is in
    ap (λ (r : RowResult). is_none r.done) row
    ∙ row_sends_at c.args.t.now c.args.input e c.args.met.now c.args.self.now c.args.w.now c.drive.ensures.sound c.requires.ready is empty
    ∙ sym (ap (λ (r : RowResult). is_some (get_or r.nets.slots c.args.self.now.core None)) row)
