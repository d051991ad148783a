use Rattle.std.proofs.Common.{◌≡◌, ◌++◌, take, Err, ℕ, rules, arith, length-append}
use Rattle.std.proofs.lemmas.List.{length-take-le}
use Rattle.pg_io.specs.declared.read.ReadAllError.TheVariants.{Memory}
use Rattle.pg_io.proofs.Gave.{Gave-append}
use Rattle.pg_io.proofs.read.read_all.Goals as goal

pub returns-then-room-eq0-clause-taken : goal.returns-then-room-eq0-clause-taken
returns-then-room-eq0-clause-taken g c = (
  c.loop-count.all.items ++ take c.in-Bytes.count c.read.new.buf,
  Gave-append _ _ _ _ _ c.loop-count.invariant.given c.in-Bytes.ensures.given,
  omega (arith, length-append {A = ℕ}, length-take-le {A = ℕ}, c.in-Bytes.ensures),
)

pub returns-in_err-extend_from_slice-in-Bytes-clause-taken :
    goal.returns-in_err-extend_from_slice-in-Bytes-clause-taken
returns-in_err-extend_from_slice-in-Bytes-clause-taken g c =
    let refused : c.from_residual.result ≡ Err Memory = search rules in
    rw refused (
      c.loop-count.all.items ++ take c.in-Bytes.count c.read.new.buf,
      Gave-append _ _ _ _ _ c.loop-count.invariant.given c.in-Bytes.ensures.given,
      omega (arith, length-append {A = ℕ}, length-take-le {A = ℕ}, c.in-Bytes.ensures),
    )
