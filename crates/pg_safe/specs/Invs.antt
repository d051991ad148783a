-- Invalidations of a stamp in flight, and shares under way.
use Rattle.std.specs.Prelude.{ℕ, ◌+◌, Bool, false, ◌==◌, ◌&&◌}
use Rattle.pg_perm.specs.declared.kinds.FwdClass.TheVariants.{Inv, Share}
use Rattle.pg_perm.specs.declared.draft.Draft.{Draft}
use Rattle.pg_terms.specs.Terms.{has_class}
use Rattle.pg_messages.specs.declared.messages.Ordered.{Ordered}
use Rattle.pg_messages.specs.declared.messages.Ordered.TheVariants.{Forward, AckCount, PutAck}
use Rattle.pg_order.specs.Messages.{tally}
use Rattle.pg_controllers.specs.Networks.{Core}
use Rattle.pg_controllers.specs.Worlds.{World}
use Rattle.pg_orderly.specs.Orderly.{is_write_back}
use Rattle.pg_safe.specs.Work.{total}

abbrev pub is_inv_at : Draft → ℕ → Ordered → Bool
is_inv_at d k (Forward f r i j) = has_class Inv d f && (j == k)
is_inv_at d k (AckCount i j) = false
is_inv_at d k (PutAck j) = false

-- how many stand in the queues
abbrev pub invs_at : Draft → ℕ → World → ℕ
invs_at d k w = total (λ (x : Core). tally (is_inv_at d k) x.queue) w.cores

-- how many shares are under way: in a queue, put off, or written back
abbrev pub is_share_of : Draft → Ordered → Bool
is_share_of d (Forward f r i j) = has_class Share d f
is_share_of d (AckCount i j) = false
is_share_of d (PutAck j) = false

abbrev pub open_shares : Draft → World → ℕ
open_shares d w = total (λ (x : Core). tally (is_share_of d) x.queue + tally (is_share_of d) x.line.deferred) w.cores + tally is_write_back w.replies
