use Rattle.std.specs.Prelude.{ℕ, Bool, true, false}
use Rattle.pg_perm.specs.declared.draft.MsgClass.TheVariants as class
use Rattle.pg_forms.specs.declared.line.Kind.{Kind}
use Rattle.pg_forms.specs.declared.line.Kind.TheVariants.{Protocol, Cache, Dir, Request, Forward, Reply, Core, Take, Row, End}
use Rattle.pg_forms.specs.declared.line.Line.{Line}
use Rattle.pg_forms.specs.declared.line.Line.TheVariants as line

-- the place of a kind in the order of a text
abbrev pub rank_of : Kind → ℕ
rank_of Protocol = 0
rank_of Cache = 1
rank_of Dir = 2
rank_of Request = 3
rank_of Forward = 4
rank_of Reply = 5
rank_of Core = 6
rank_of Take = 7
rank_of Row = 8
rank_of End = 9

abbrev pub is_protocol : Kind → Bool
is_protocol Protocol = true
is_protocol _ = false

abbrev pub is_end : Kind → Bool
is_end End = true
is_end _ = false

abbrev pub kind_of : Line → Kind
kind_of (line.Protocol name) = Protocol
kind_of (line.Cache name role perm clean) = Cache
kind_of (line.Dir name kind beside) = Dir
kind_of (line.Message name (class.Request asked)) = Request
kind_of (line.Message name (class.Forward asked)) = Forward
kind_of (line.Message name class.Reply) = Reply
kind_of (line.Core state event shape) = Core
kind_of (line.Take state forward reply next) = Take
kind_of (line.Row dir shape next) = Row
kind_of line.End = End
