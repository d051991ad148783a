use Rattle.std.proofs.Common.{◌≡◌, Option, sym, ap, subst, ◌∙◌}
use Rattle.std.specs.Option.{option_map}
use Rattle.std.specs.Prelude.{is_some, is_none}
use Rattle.pg_messages.specs.declared.messages.Finish.{Finish}
use Rattle.pg_cache.specs.Rows.{RowResult, finish_of}
use Rattle.pg_cache.proofs.Completed.{row_carries, some_of, none_of}
use Rattle.pg_cache.proofs.line.Line.drive.Goals as goal

pub returns-clause-row : goal.returns-clause-row
returns-clause-row c =
    let row = c.carry_out-done.ensures.row in
    let done = ap (λ (r : RowResult). r.done) row in
    let carries : finish_of c.args.met.now (option_map (λ (f : Finish). f.fin) c.carry_out-done.result) ≡ c.carry_out-done.result =
    subst (λ (o : Option Finish). finish_of c.args.met.now (option_map (λ (f : Finish). f.fin) o) ≡ o) (sym done)
    (row_carries c.args.t.now c.args.input c.args.met.now c.args.self.now c.args.w.now c.requires.ready) in
    let is : finish_of c.args.met.now c.outcome_of.result ≡ c.carry_out-done.result = ap (finish_of c.args.met.now) c.outcome_of.ensures ∙ carries in
    ap (λ (o : Option Finish). record { line = c.carry_out-done.new.self; nets = c.carry_out-done.new.w; done = o }) is ∙ row

pub returns-clause-complete : goal.returns-clause-complete
returns-clause-complete c other = ap is_some c.outcome_of.ensures ∙ some_of c.carry_out-done.result ∙ c.carry_out-done.ensures.complete other

pub returns-clause-sent : goal.returns-clause-sent
returns-clause-sent c e is empty = ap is_none c.outcome_of.ensures ∙ none_of c.carry_out-done.result ∙ c.carry_out-done.ensures.sent e is empty
