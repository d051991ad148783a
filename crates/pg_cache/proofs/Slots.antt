-- A request that goes into a core's slot.
use Rattle.std.proofs.Common.{◌≡◌, ◌<◌, length, Option, Some, None, refl}
use Rattle.std.proofs.lemmas.List.{get_or-set_same, set-set, length-set}
use Rattle.pg_messages.specs.declared.messages.Ask.{Ask}
use Rattle.pg_messages.specs.declared.messages.Finish.{Finish}
use Rattle.pg_queue.specs.Nets.{Nets, with_request}
use Rattle.pg_controllers.specs.Networks.{Line}
use Rattle.pg_cache.specs.Acts.{LineView, progress}

pub asks : (x : LineView) (w : Nets) (a : Ask) (l : Line) (dn : Option Finish) → x.core < length w.slots
    → progress (record x { line = l }) (with_request x.core a w) dn ≡ record (progress x w dn) { result = record { line = l; slot = Some a; replies = w.replies; done = dn } }
asks x w a l dn low = rw (get_or-set_same w.slots x.core (Some a) None low, set-set w.slots x.core (Some a) None, length-set w.slots x.core (Some a)) refl
