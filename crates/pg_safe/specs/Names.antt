-- Which core a message in a queue names.
use Rattle.std.specs.Prelude.{ℕ}
use Rattle.pg_messages.specs.declared.messages.Ordered.{Ordered}
use Rattle.pg_messages.specs.declared.messages.Ordered.TheVariants.{Forward, AckCount, PutAck}

-- a forward the core for which it comes, and another message the core that gets it
abbrev pub names : ℕ → Ordered → ℕ
names e (Forward f r i k) = r
names e (AckCount i k) = e
names e (PutAck k) = e
