use Rattle.std.proofs.Common.{subst, sym}
use Rattle.std.specs.Str.{IsUtf8}
use Rattle.std.proofs.lemmas.Str.{IsUtf8-from_ascii}
use Rattle.pg_perm.proofs.Ascii.{name-ascii}
use Rattle.pg_perm.proofs.word.Word.as_str.Goals as goal

pub unreachable-requires : goal.unreachable-requires
unreachable-requires c =
    c.in-Err.ensures.cases.0 (subst IsUtf8 (sym c.bytes.ensures.bytes) (IsUtf8-from_ascii _ (name-ascii _ c.bytes.ensures.name)))
