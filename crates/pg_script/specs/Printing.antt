-- The text of a script.
use Rattle.std.specs.Prelude.{ℕ, ◌≡◌, ◌⊎◌, List, [], ◌∷◌, ◌++◌, map}
use Rattle.pg_perm.specs.declared.kinds.Op.{Op}
use Rattle.pg_perm.specs.declared.kinds.Op.TheVariants as op
use Rattle.pg_lines.specs.Lines.{text_of}
use Rattle.pg_script.specs.declared.script.ScriptOp.{ScriptOp}
use Rattle.pg_script.specs.declared.statement.OpForm.{OpForm}
use Rattle.pg_script.specs.declared.statement.OpForm.TheVariants.{Load, Store, Evict}
use Rattle.pg_script.specs.declared.statement.Statement.{Statement}
use Rattle.pg_script.specs.declared.statement.Statement.TheVariants as line
use Rattle.pg_script.specs.Forms.{spelling}
use Rattle.pg_script.specs.Scripts.{Operations}

abbrev pub form_of : Op → OpForm
form_of op.Load = Load
form_of (op.Store value) = Store value
form_of op.Evict = Evict

abbrev pub op_line_of : ScriptOp → Statement
op_line_of o = line.Op o.core o.block (form_of o.op)

-- the lines of a script
abbrev pub lines_in : Operations → List Statement
lines_in s = line.Cores s.cores ∷ line.Blocks s.blocks ∷ map op_line_of s.ops ++ line.Done ∷ []

-- the text of a script
abbrev pub script_text : Operations → List ℕ
script_text s = text_of (map spelling (lines_in s))

-- the text is these bytes, or they lack its last newline
abbrev pub IsTextOf : List ℕ → List ℕ → Type 0
IsTextOf bytes text = (text ≡ bytes) ⊎ (text ≡ bytes ++ 10 ∷ [])
