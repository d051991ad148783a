-- What a line with an outstanding operation waits for, and the forwards that it answers afterwards.
use Rattle.std.specs.Prelude.{ℕ, suc, ◌≡◌, Bool, List, [], ◌∷◌, ◌++◌, Option, Some, None}
use Rattle.pg_terms.specs.Terms.{is}
use Rattle.pg_messages.specs.declared.messages.Ordered.{Ordered}

-- how many acknowledgements an operation needs, where that is known, and how many were got
pub record AckState : Type 0 where
  pub need : Option ℕ
  pub got : ℕ

-- none was got, and it isn't known how many are needed
abbrev pub no_acks : AckState
no_acks = record { need = None; got = 0 }

-- one more was got
abbrev pub with_ack : AckState → AckState
with_ack a = record a { got = suc a.got }

-- so many are needed
abbrev pub with_need : ℕ → AckState → AckState
with_need n a = record a { need = Some n }

-- all were got, and it is known that these are all
abbrev pub AreAllGot : AckState → Type 0
AreAllGot a = a.need ≡ Some a.got

-- one more is the last that is needed
abbrev pub is_next_last : AckState → Bool
is_next_last a = is a.need (suc a.got)

-- the forwards that were deferred, the oldest first, and how many there is room for
pub record DeferredForwards : Type 0 where
  pub items : List Ordered
  pub room : ℕ

abbrev pub none_deferred : ℕ → DeferredForwards
none_deferred room = record { items = []; room = room }

-- one more was deferred
abbrev pub with_deferred : Ordered → DeferredForwards → DeferredForwards
with_deferred m q = record q { items = q.items ++ m ∷ [] }
