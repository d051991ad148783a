use Rattle.std.proofs.Common.{◌≡◌, ℕ, ◌+◌, ◌-◌, ◌≤◌, ◌<◌, ◌^◌, length, decimal, drop, sym, ap, ◌∙◌, arith, length-drop, length-append}
use Rattle.std.proofs.lemmas.Fmt.{length-decimal-le}
use Rattle.pg_history.proofs.line.Line.number.Goals as goal

-- a number of 64 bits has at most 20 digits
digits : (n : ℕ) → n < 2 ^ 64 → length (decimal n) ≤ 20
digits n fits = length-decimal-le 20 n (omega arith) (omega arith) fits

pub write_digits-self-inside-requires : goal.write_digits-self-inside-requires
write_digits-self-inside-requires c =
    let few = digits c.args.number c.ranges.number.fits in
    let left : length c.args.self.now ≡ length c.self.inside.bytes - c.self.inside.start =
    sym (ap length c.self.view_is) ∙ length-drop c.self.inside.start c.self.inside.bytes in
    let begun = c.self.invariant in
    let whole = c.self.told in
    (omega arith, omega arith)

pub returns-clause-short : goal.returns-clause-short
returns-clause-short c =
    let few = digits c.args.number c.ranges.number.fits in
    let before = drop c.self.inside.start c.self.inside.bytes in
    let all : length (drop c.write_digits-self-inside.result c.write_digits-self-inside.new.buf) ≡ length (decimal c.args.number) + length before =
    ap length c.write_digits-self-inside.ensures.written ∙ length-append (decimal c.args.number) before in
    let left : length before ≡ length c.args.self.now = ap length c.self.view_is in
    omega arith
