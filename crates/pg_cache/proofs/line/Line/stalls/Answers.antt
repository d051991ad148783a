use Rattle.std.proofs.Common.{◌≡◌, ℕ, List, Some, None, sym, ap, ◌∙◌}
use Rattle.pg_table.specs.declared.cache.Input.{Input}
use Rattle.pg_table.specs.Tables.{TableState, find_row}
use Rattle.pg_controllers.specs.Lines.{ordered_input}
use Rattle.pg_cache.specs.Acts.{LineView}
use Rattle.pg_cache.proofs.Driven.{stall_row_is}
use Rattle.pg_cache.proofs.line.Line.stalls.Goals as goal

pub returns-in-Some : goal.returns-in-Some
returns-in-Some c =
    let found : find_row c.args.t.now.cache c.args.self.now.state (ordered_input c.args.self.now.line c.args.m.now) ≡ Some c.in-Some.row.now =
    ap (λ (y : LineView). find_row c.args.t.now.cache y.state (ordered_input y.line c.args.m.now)) (sym c.self.view_is)
    ∙ ap (λ (n : ℕ). find_row c.args.t.now.cache n (ordered_input c.self.inside.registers.line c.args.m.now)) (sym c.state.ensures)
    ∙ ap (λ (i : Input). find_row c.args.t.now.cache c.state.result i) (sym c.ordered_input.ensures)
    ∙ ap (λ (t : List TableState). find_row t c.state.result c.ordered_input.result) (sym c.cache.ensures.exact)
    ∙ sym c.in-Some.ensures in
    c.is_stall_row.ensures ∙ sym (stall_row_is c.args.t.now c.args.self.now c.args.m.now (Some c.in-Some.row.now) c.cache.ensures.sound.cache c.requires found)

pub returns-in-None : goal.returns-in-None
returns-in-None c =
    let found : find_row c.args.t.now.cache c.args.self.now.state (ordered_input c.args.self.now.line c.args.m.now) ≡ None =
    ap (λ (y : LineView). find_row c.args.t.now.cache y.state (ordered_input y.line c.args.m.now)) (sym c.self.view_is)
    ∙ ap (λ (n : ℕ). find_row c.args.t.now.cache n (ordered_input c.self.inside.registers.line c.args.m.now)) (sym c.state.ensures)
    ∙ ap (λ (i : Input). find_row c.args.t.now.cache c.state.result i) (sym c.ordered_input.ensures)
    ∙ ap (λ (t : List TableState). find_row t c.state.result c.ordered_input.result) (sym c.cache.ensures.exact)
    ∙ sym c.in-None.ensures in
    sym (stall_row_is c.args.t.now c.args.self.now c.args.m.now None c.cache.ensures.sound.cache c.requires found)
