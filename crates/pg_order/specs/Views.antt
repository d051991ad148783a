-- How far the cores have caught up with the directory's order.
use Rattle.std.specs.Prelude.{ℕ, suc, ◌≡◌, ◌<◌, ◌≤◌, ◌⊎◌, ◌&&◌, ◌||◌, Bool, true, false, nat_lt, [], Option, Some, None, is_some}
use Rattle.pg_order.specs.Messages.{tally}
use Rattle.pg_directory.specs.DirEntries.{without_core}
use Rattle.pg_perm.specs.declared.kinds.FwdClass.TheVariants.{Inv, Share}
use Rattle.pg_perm.specs.declared.draft.Draft.{Draft}
use Rattle.pg_terms.specs.Terms.{has_class}
use Rattle.pg_directory.specs.Sends.{forward_sent}
use Rattle.pg_order.specs.Orders.{DirOrder, passed_forward}

-- by core: the stamp up to which it has caught up, the stamp of its last entry, and whether its operation stands in the order
pub record View : Type 0 where
  pub seen : ℕ → ℕ
  pub last : ℕ → ℕ
  pub pending : ℕ → Bool

-- an owner hasn't served entry j: it stands in its queue, or was deferred
abbrev pub is_open_at : View → ℕ → Option ℕ → Bool
is_open_at v j None = false
is_open_at v j (Some o) = nat_lt (v.seen o) (suc j) || (v.pending o && nat_lt (v.last o) (suc j))

abbrev pub is_unserved : Draft → DirOrder → View → ℕ → Bool
is_unserved d p v j = is_some (passed_forward d (p.dir_entry j) (p.at j)) && is_open_at v j (p.dir_entry j).owner

-- the requestor of entry j waits for it
abbrev pub IsWaitedFor : DirOrder → View → ℕ → Type 0
IsWaitedFor p v j = (v.last (p.at j).core ≡ suc j) × (v.pending (p.at j).core ≡ true)

pub record IsWaiting (d : Draft) (p : DirOrder) (v : View) : Type 0 where
  pub lasts : (j : ℕ) → j < p.top → suc j ≤ v.last (p.at j).core
  -- a forward that isn't served has a requestor that waits for it
  pub forwards : (j : ℕ) → j < p.top → is_unserved d p v j ≡ true → IsWaitedFor p v j
  -- an invalidation that isn't answered has a writer that waits for it
  pub invs : (j c f : ℕ) → j < p.top → forward_sent d (p.dir_entry j) (p.at j) c ≡ Some f → has_class Inv d f ≡ true → v.seen c < suc j → IsWaitedFor p v j
  -- a share that isn't served is the last entry
  pub shares : (j f : ℕ) → j < p.top → is_unserved d p v j ≡ true → passed_forward d (p.dir_entry j) (p.at j) ≡ Some f → has_class Share d f ≡ true → suc j ≡ p.top

-- nothing that was ordered after its grant of ownership has been served by core c
pub record IsFresh (g c : ℕ) (p : DirOrder) (v : View) : Type 0 where
  pub grant : v.last c ≡ g
  pub owns : (p.dir_entry g).owner ≡ Some c
  pub alone : (p.dir_entry g).sharers ≡ []
  pub unspent : (v.pending c ≡ true) ⊎ (v.seen c ≡ g)

-- how many sharers have still to answer entry j
abbrev pub acks_owed : DirOrder → View → ℕ → ℕ
acks_owed p v j = tally (λ c. nat_lt (v.seen c) (suc j)) (without_core (p.at j).core (p.dir_entry j).sharers)
