use Rattle.std.proofs.Common.{◌≡◌, true, length, drop}
use Rattle.pg_turn.specs.Entries.{by}
use Rattle.pg_turn.proofs.Added.{each_all, all_each, new_entries}
use Rattle.pg_turn.proofs.laws.new_entries_of_all.Goals as goal

pub returns : goal.returns
returns g c p n base log begins below each =
    let maker = g.T.Kept.maker in
    let P = λ (e : g.row.T-Entry.Denot). p e ≡ true in
    each_all P (drop (length base) log) (new_entries maker P n base log begins below (λ k lt. all_each P (drop (length (by maker k base)) (by maker k log)) (each k lt)))
