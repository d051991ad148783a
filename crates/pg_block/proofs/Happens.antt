-- What has happened is the move of the world, and the parts still fit.
use Rattle.std.proofs.Common.{◌≡◌, ℕ, zero, suc, ◌<◌, List, [], ◌∷◌, length, Option, Some, None, refl, sym, subst, arith}
use Rattle.std.specs.Prelude.{slice_get, IfSome}
use Rattle.pg_table.specs.Pick.{pick}
use Rattle.pg_messages.specs.declared.messages.Reply.{Reply}
use Rattle.pg_messages.specs.declared.messages.WorldEvent.{WorldEvent}
use Rattle.pg_messages.specs.declared.messages.WorldEvent.TheVariants.{Issue, Request as Request_of, Ordered as Ordered_to, Reply as Reply_at}
use Rattle.pg_controllers.specs.Worlds.{move}
use Rattle.pg_dir.specs.Numbers.{NumberedDirectory, IsNumbered}
use Rattle.pg_block.specs.Blocks.{Block, world_of, request_slot, handle_by, answer_by, without_reply_at, CanHappen, CanMeet, HasHappened, IsAfterReply}
use Rattle.pg_block.specs.Fitted.{IsFitted, Continues}
use Rattle.pg_block.proofs.Moves.{issue_moves, ordered_moves, request_moves, reply_moves}
use Rattle.pg_block.proofs.Fits.{issue_continues, ordered_continues, request_continues, reply_continues}

abbrev pub IsMoved : WorldEvent → Block → Block → Type 0
IsMoved e a b = (world_of b ≡ move a.tables.protocol (pick a.tables.cache) (world_of a) e) × Continues a b

not_none : {A : Type 0} (xs : List A) (i : ℕ) → i < length xs → slice_get xs i ≡ None → ⊥
not_none [] i h e = omega (arith, h)
not_none (x ∷ xs) zero h e = cc
not_none (x ∷ xs) (suc i) h e = not_none xs i (omega (arith, h)) e

reply_moved : (a : Block) (i : ℕ) (o : Option Reply) (h : NumberedDirectory) → IsFitted a → i < length a.nets.replies → slice_get a.nets.replies i ≡ o → IfSome o (λ m. CanMeet m (without_reply_at i a)) → IfSome o (λ m. IsAfterReply m a h)
    → IsMoved (Reply_at i) a (answer_by i o h a)
reply_moved a i None h f there get can is = absurd (not_none a.nets.replies i there get)
reply_moved a i (Some m) h f there get can is = (reply_moves a i h m f.sized (λ c low. (f.lines c low).core) get can is, reply_continues a i m h f can is)

pub happened_is : (e : WorldEvent) (a b : Block) → IsFitted a → CanHappen e a → HasHappened e a b → IsMoved e a b
happened_is (Issue c) a b f can is = subst (IsMoved (Issue c) a) (sym is) (issue_moves a c f.sized (f.lines c can.core).core can, issue_continues a c f can)
happened_is (Ordered_to c) a b f can is = subst (IsMoved (Ordered_to c) a) (sym is) (ordered_moves a c f.sized (f.lines c can.core).core can, ordered_continues a c f can)
happened_is (Request_of c) a b f can is =
    let next : Block = handle_by c (request_slot a c) b.directory.number a in
    let numbered : IsNumbered a.tables.home next.directory = subst (λ (z : Block). IsNumbered a.tables.home z.directory) is.0 is.1 in
    subst (IsMoved (Request_of c) a) (sym is.0) (request_moves a c b.directory.number f.sized can, request_continues a c b.directory.number (request_slot a c) f numbered)
happened_is (Reply_at i) a b f can is =
    subst (IsMoved (Reply_at i) a) (sym is.0) (reply_moved a i (slice_get a.nets.replies i) b.directory f can.there refl can.meets is.1)
