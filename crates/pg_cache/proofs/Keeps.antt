-- What a row leaves as it is.
use Rattle.std.proofs.Common.{◌≡◌, true, Some, sym, ap, subst, ◌∙◌}
use Rattle.pg_table.specs.declared.cache.Input.{Input}
use Rattle.pg_table.specs.Tables.{Parts, number_of}
use Rattle.pg_table.specs.Sound.{states_of, is_among, IsSoundCache}
use Rattle.pg_table.proofs.Picked.{picks_onward}
use Rattle.pg_table.proofs.Numbers.{number_of_at}
use Rattle.pg_controllers.specs.Lines.{Received}
use Rattle.pg_queue.specs.Nets.{Nets}
use Rattle.pg_cache.specs.Acts.{LineView}
use Rattle.pg_cache.specs.Rows.{RowResult, IsReady, IsMadeWith, after_pick, after_row}
use Rattle.pg_cache.proofs.Unique.{is_there, get_states}

-- what is picked
pub row_is : (t : Parts) (i : Input) (m : Received) (x : LineView) (w : Nets) (ready : IsReady t i m x w) → after_row t i m x w ≡ after_pick t.protocol t.cache m x w (Some ready.choice)
row_is t i m x w ready = ap (after_pick t.protocol t.cache m x w) ready.picked

-- the line's state keeps its number
pub made_kept : (t : Parts) (i : Input) (m : Received) (x : LineView) (w : Nets) → IsSoundCache t.protocol t.cache → IsReady t i m x w → IsMadeWith t (after_row t i m x w).line
made_kept t i m x w sound ready =
    let among : is_among (states_of t.cache) ready.choice.next ≡ true =
    picks_onward t.protocol t.cache x.line.desc i ready.choice sound (is_there t.cache x.state x.line.desc ready.made) ready.picked in
    subst (λ (r : RowResult). IsMadeWith t r.line) (sym (row_is t i m x w ready))
    (sym (get_states t.cache (number_of (states_of t.cache) ready.choice.next)) ∙ number_of_at (states_of t.cache) ready.choice.next among)
