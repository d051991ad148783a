use Rattle.std.proofs.Common.{◌≡◌, List, Option, Some, None, sym, ap, ◌∙◌}
use Rattle.pg_table.specs.declared.cache.Input.TheVariants as at
use Rattle.pg_table.specs.Controllers.{state_at}
use Rattle.pg_table.specs.Tables.{TableState, find_row}
use Rattle.pg_messages.specs.declared.messages.Finish.{Finish}
use Rattle.pg_cache.specs.Acts.{LineView, done_alone}
use Rattle.pg_cache.proofs.Numbered.{leads_there}
use Rattle.pg_cache.proofs.Evicts.{ends_so, end_finds}
use Rattle.pg_cache.proofs.registers.Registers.end_evict.Goals as goal

pub desc-desc-requires : goal.desc-desc-requires
desc-desc-requires c =
    let found : find_row c.args.t.now.cache c.args.self.now.state at.PutAck ≡ Some c.in-Some.row.now =
    ap (λ (x : LineView). find_row c.args.t.now.cache x.state at.PutAck) (sym c.self.view_is) ∙ ap (λ (t : List TableState). find_row t c.self.inside.state at.PutAck) (sym c.cache-table.ensures.exact) ∙ sym c.in-Some.ensures in
    rw c.cache-table.ensures.exact (leads_there c.args.t.now.protocol c.args.t.now.cache c.args.self.now.state at.PutAck c.in-Some.row.now c.cache-table.ensures.sound.cache found)

pub returns-clause-row : goal.returns-clause-row
returns-clause-row c w =
    let found : find_row c.args.t.now.cache c.args.self.now.state at.PutAck ≡ Some c.in-Some.row.now =
    ap (λ (x : LineView). find_row c.args.t.now.cache x.state at.PutAck) (sym c.self.view_is) ∙ ap (λ (t : List TableState). find_row t c.self.inside.state at.PutAck) (sym c.cache-table.ensures.exact) ∙ sym c.in-Some.ensures in
    let at : state_at c.args.t.now.cache c.in-Some.row.now.next ≡ Some c.desc-desc.result = ap (λ (t : List TableState). state_at t c.in-Some.row.now.next) (sym c.cache-table.ensures.exact) ∙ c.desc-desc.ensures in
    ap (λ (x : LineView). record { line = record x { line = record x.line { desc = c.desc-desc.result }; state = c.in-Some.row.now.next }; nets = w; done = c.finish_pending-done.result })
    (c.self-2.view_is ∙ c.finish_pending-done.ensures.line)
    ∙ ap (λ (o : Option Finish). record { line = record c.args.self.now { line = record (done_alone c.args.met.now c.args.self.now).line { desc = c.desc-desc.result }; state = c.in-Some.row.now.next }; nets = w; done = o }) c.finish_pending-done.ensures.done
    ∙ ends_so c.args.t.now c.args.met.now c.args.self.now w c.in-Some.row.now c.desc-desc.result c.cache-table.ensures.sound.cache c.requires.made c.requires.picked found at

pub returns-in_default-clause-row : goal.returns-in_default-clause-row
returns-in_default-clause-row c w =
    let found : find_row c.args.t.now.cache c.args.self.now.state at.PutAck ≡ None =
    ap (λ (x : LineView). find_row c.args.t.now.cache x.state at.PutAck) (sym c.self.view_is) ∙ ap (λ (t : List TableState). find_row t c.self.inside.state at.PutAck) (sym c.cache-table.ensures.exact) ∙ sym c.in_default.ensures in
    absurd (end_finds c.args.t.now c.args.self.now c.cache-table.ensures.sound.cache c.requires.made c.requires.picked found)

pub returns-in_default-clause-done : goal.returns-in_default-clause-done
returns-in_default-clause-done c =
    let found : find_row c.args.t.now.cache c.args.self.now.state at.PutAck ≡ None =
    ap (λ (x : LineView). find_row c.args.t.now.cache x.state at.PutAck) (sym c.self.view_is) ∙ ap (λ (t : List TableState). find_row t c.self.inside.state at.PutAck) (sym c.cache-table.ensures.exact) ∙ sym c.in_default.ensures in
    absurd (end_finds c.args.t.now c.args.self.now c.cache-table.ensures.sound.cache c.requires.made c.requires.picked found)
