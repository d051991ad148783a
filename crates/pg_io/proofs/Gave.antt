use Rattle.std.proofs.Common.{◌∙◌, ℕ, List, [], ◌++◌, Option, None, Some, ap, sym, refl, append_assoc, append-nil}
use Rattle.pg_io.specs.Source.{Gave}
use Rattle.pg_io.specs.ReadAll.{GaveAll}

-- what two reads gave, one after the other
pub Gave-append : (first second third : Option (List ℕ)) (xs ys : List ℕ) → Gave first second xs → Gave second third ys → Gave first third (xs ++ ys)
Gave-append None second third xs ys one two = tt
Gave-append (Some a) None third xs ys one two = absurd one
Gave-append (Some a) (Some b) None xs ys one two = absurd two
Gave-append (Some a) (Some b) (Some c) xs ys one two =
    one ∙ ap (λ zs. xs ++ zs) two ∙ sym (append_assoc xs ys c)

-- what no read gave
pub Gave-nothing : (left : Option (List ℕ)) → Gave left left []
Gave-nothing None = tt
Gave-nothing (Some a) = refl

-- all that was left was given
pub Gave-all : (old new : Option (List ℕ)) (bytes : List ℕ) → GaveAll old new bytes → Gave old new bytes
Gave-all None new bytes all = tt
Gave-all (Some a) new bytes all = rw all.1 (all.0 ∙ sym (append-nil bytes))
