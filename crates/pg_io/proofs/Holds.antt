use Rattle.std.proofs.Common.{◌∙◌, ℕ, List, [], ◌++◌, Option, None, Some, ap, sym, append_assoc, append-nil}
use Rattle.pg_io.specs.Sink.{Holds}

-- what two writes put, one after the other
pub Holds-append : (first second third : Option (List ℕ)) (xs ys : List ℕ) → Holds first second xs → Holds second third ys → Holds first third (xs ++ ys)
Holds-append None second third xs ys one two = tt
Holds-append (Some a) None third xs ys one two = absurd one
Holds-append (Some a) (Some b) None xs ys one two = absurd two
Holds-append (Some a) (Some b) (Some c) xs ys one two =
    two ∙ ap (λ zs. zs ++ ys) one ∙ append_assoc a xs ys

-- what no write put
pub Holds-nothing : (held : Option (List ℕ)) → Holds held held []
Holds-nothing None = tt
Holds-nothing (Some a) = sym (append-nil a)
