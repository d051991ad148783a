-- The messages that the directory sends in its order, and lists of them.
use Rattle.std.specs.Prelude.{ℕ, zero, suc, ◌+◌, Bool, cond, List, [], ◌∷◌, Option, Some, None}
use Rattle.pg_messages.specs.declared.messages.Ordered.{Ordered}
use Rattle.pg_messages.specs.declared.messages.Ordered.TheVariants.{Forward, AckCount, PutAck}

-- the stamp of the request that caused it
abbrev pub stamp_of : Ordered → ℕ
stamp_of (Forward f r n k) = k
stamp_of (AckCount n k) = k
stamp_of (PutAck k) = k

-- a list with one more before it, if there is one
abbrev pub put : {A : Type 0} → Option A → List A → List A
put None rest = rest
put (Some m) rest = m ∷ rest

-- what is sent by n entries from number a on
abbrev pub sent_between : {A : Type 0} → (ℕ → Option A) → ℕ → ℕ → List A
sent_between to a zero = []
sent_between to a (suc n) = put (to a) (sent_between to (suc a) n)

-- how many pass a test
abbrev pub tally : {A : Type 0} → (A → Bool) → List A → ℕ
tally p [] = 0
tally p (x ∷ xs) = cond (p x) 1 0 + tally p xs
