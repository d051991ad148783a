-- What a call of a line makes of the block.
use Rattle.std.proofs.Common.{◌≡◌, ℕ, ◌<◌, List, length, get_or, ap, ◌∙◌, slice_index_or}
use Rattle.std.proofs.lemmas.List.{get_or_default}
use Rattle.pg_table.specs.declared.cache.Input.{Input}
use Rattle.pg_table.specs.Tables.{Parts}
use Rattle.pg_controllers.specs.Networks.{Line}
use Rattle.pg_controllers.specs.Lines.{Received}
use Rattle.pg_queue.specs.Nets.{Nets}
use Rattle.pg_cache.specs.Acts.{LineView}
use Rattle.pg_cache.specs.Rows.{RowResult, after_row}
use Rattle.pg_block.specs.Blocks.{Block, with_row, no_line, line_at}

pub index_is : (xs : List LineView) (i : ℕ) (x : LineView) → i < length xs → x ≡ slice_index_or xs i x → x ≡ get_or xs i no_line
index_is xs i x low is = is ∙ get_or_default xs i x no_line low

-- the row that a line's call carried out, with the line, the tables and the networks as the block has them
pub row_here : (b : Block) (c : ℕ) (i : Parts → Line → Input) (m : Parts → Line → Received) (t : Parts) (x : LineView) (w : Nets) (r : RowResult) (v : Nets) → t ≡ b.tables → x ≡ line_at b c → w ≡ v
    → r ≡ after_row t (i t x.line) (m t x.line) x w → with_row c r b ≡ with_row c (after_row b.tables (i b.tables (line_at b c).line) (m b.tables (line_at b c).line) (line_at b c) v) b
row_here b c i m t x w r v tables line nets row =
    ap (λ (z : RowResult). with_row c z b)
    (row
    ∙ ap (λ (t : Parts). after_row t (i t x.line) (m t x.line) x w) tables
    ∙ ap (λ (y : LineView). after_row b.tables (i b.tables y.line) (m b.tables y.line) y w) line
    ∙ ap (λ (n : Nets). after_row b.tables (i b.tables (line_at b c).line) (m b.tables (line_at b c).line) (line_at b c) n) nets)

-- the block that an equation begins with
abbrev pub from : {a b : Block} → a ≡ b → Block
from {a = x} e = x
