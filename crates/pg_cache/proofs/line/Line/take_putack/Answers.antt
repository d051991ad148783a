use Rattle.std.proofs.Common.{◌≡◌, Option, Some, sym, ap, subst, ◌∙◌}
use Rattle.std.specs.Prelude.{is_some}
use Rattle.std.specs.Option.{option_map}
use Rattle.pg_table.specs.declared.cache.Input.{Input}
use Rattle.pg_table.specs.declared.cache.Input.TheVariants as at
use Rattle.pg_table.specs.Pick.{pick}
use Rattle.pg_messages.specs.declared.messages.Finish.{Finish}
use Rattle.pg_controllers.specs.Lines.{Received, ordered_input, received_ordered}
use Rattle.pg_queue.specs.Nets.{Nets}
use Rattle.pg_cache.specs.Acts.{LineView, done_alone}
use Rattle.pg_cache.specs.Rows.{RowResult, HasOutstanding, finish_of, after_row}
use Rattle.pg_cache.proofs.Completed.{some_of}
use Rattle.pg_cache.proofs.Evicts.{no_nets, some_is, end_some, end_carries, end_kept, putack_input}
use Rattle.pg_cache.proofs.line.Line.take_putack.Goals as goal

pub invariant_of-self : goal.invariant_of-self
invariant_of-self c =
    let has : HasOutstanding c.args.self.now.line = subst (λ (x : LineView). HasOutstanding x.line) c.self.view_is c.self.invariant in
    let (ch, picked) = some_is (pick c.args.t.now.cache c.args.self.now.line.desc at.PutAck) c.requires.picked in
    let row = c.end_evict-done.ensures.row no_nets ∙ ap (λ (x : LineView). after_row c.args.t.now at.PutAck c.received_ordered-met.result x no_nets) c.self.view_is in
    subst (λ (r : RowResult). HasOutstanding r.line.line) (sym row) (end_kept c.args.t.now c.received_ordered-met.result c.args.self.now no_nets ch c.end_evict-done.ensures.sound c.requires.made has picked)

pub unwrap-requires : goal.unwrap-requires
unwrap-requires c =
    let has : HasOutstanding c.args.self.now.line = subst (λ (x : LineView). HasOutstanding x.line) c.self.view_is c.self.invariant in
    let (ch, picked) = some_is (pick c.args.t.now.cache c.args.self.now.line.desc at.PutAck) c.requires.picked in
    let done : c.end_evict-done.result ≡ (done_alone c.received_ordered-met.result c.args.self.now).done = c.end_evict-done.ensures.done ∙ ap (λ (x : LineView). (done_alone c.received_ordered-met.result x).done) c.self.view_is in
    ap is_some c.outcome_of.ensures ∙ some_of c.end_evict-done.result ∙ ap is_some done
    ∙ end_some c.args.t.now c.received_ordered-met.result c.args.self.now ch c.end_evict-done.ensures.sound c.requires.made has picked

pub returns : goal.returns
returns c = record { row = λ w. ap (λ (o : Option Finish). record { line = c.end_evict-done.new.self; nets = w; done = o }) fin ∙ row w }
  where
    met : Received
    met = received_ordered c.args.self.now.line c.args.m

    met_is : c.received_ordered-met.result ≡ met
    met_is = c.received_ordered-met.ensures ∙ ap (λ (x : LineView). received_ordered x.line c.args.m) c.self.view_is

    row : (w : Nets) → record { line = c.end_evict-done.new.self; nets = w; done = c.end_evict-done.result } ≡ after_row c.args.t.now (ordered_input c.args.self.now.line c.args.m) met c.args.self.now w
    row w = c.end_evict-done.ensures.row w ∙ ap (λ (m : Received). after_row c.args.t.now at.PutAck m c.self.inside.registers w) met_is ∙ ap (λ (x : LineView). after_row c.args.t.now at.PutAck met x w) c.self.view_is
        ∙ ap (λ (i : Input). after_row c.args.t.now i met c.args.self.now w) (putack_input c.args.self.now.line c.args.m c.requires.kind)

    done : c.end_evict-done.result ≡ (done_alone met c.args.self.now).done
    done = c.end_evict-done.ensures.done ∙ ap (λ (m : Received). (done_alone m c.self.inside.registers).done) met_is ∙ ap (λ (x : LineView). (done_alone met x).done) c.self.view_is

    fin : finish_of met (Some c.unwrap.result) ≡ c.end_evict-done.result
    fin = ap (finish_of met) (sym c.unwrap.ensures ∙ c.outcome_of.ensures) ∙ ap (λ (o : Option Finish). finish_of met (option_map (λ (f : Finish). f.fin) o)) done ∙ end_carries met c.args.self.now ∙ sym done
