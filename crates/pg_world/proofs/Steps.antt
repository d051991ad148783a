-- A world stays reached as its events happen.
use Rattle.std.proofs.Common.{◌≡◌, ℕ, ◌<◌, true, List, [], ◌∷◌, ◌++◌, length, sym, ap, subst, ◌∙◌, arith}
use Rattle.pg_perm.specs.declared.kinds.Op.{Op}
use Rattle.pg_table.specs.Tables.{Parts}
use Rattle.pg_table.specs.Pick.{pick}
use Rattle.pg_messages.specs.declared.messages.WorldEvent.{WorldEvent}
use Rattle.pg_controllers.specs.Worlds.{World, move, with_event, step, is_enabled}
use Rattle.pg_safe.proofs.States.{step_is}
use Rattle.pg_reached.specs.Reached.{IsReachedWorld}
use Rattle.pg_reached.proofs.Reached.{journal_bounded, work_lowered, can_happen_there, steps_reach}
use Rattle.pg_block.specs.Blocks.{Block, Limits, world_of, given_of}
use Rattle.pg_block.specs.Fitted.{Continues}
use Rattle.pg_world.specs.Kept.{IsKept, WorldView, view_of}

-- the journal has room for an event that is enabled
pub journal_room : (b : Block) (e : WorldEvent) → IsKept b → is_enabled (pick b.tables.cache) (world_of b) e ≡ true → length b.journal < b.limits.journal
journal_room b e k on =
    let most = journal_bounded b.tables.protocol b.tables.cache (given_of b.programs) (world_of b) k.reached in
    let less = work_lowered b.tables.protocol b.tables.cache (given_of b.programs) (world_of b) (0, e) k.reached on in
    let limit = k.limits.journal in
    omega (arith, most, less, limit)

abbrev pub with_entry : ℕ × WorldEvent → Block → Block
with_entry e b = record b { journal = b.journal ++ e ∷ [] }

-- the world after an event that is enabled
stepped : (a b : Block) (e : ℕ × WorldEvent) → IsKept a → is_enabled (pick a.tables.cache) (world_of a) e.1 ≡ true → world_of b ≡ move a.tables.protocol (pick a.tables.cache) (world_of a) e.1
    → world_of (with_entry e b) ≡ step a.tables.protocol (pick a.tables.cache) (world_of a) e
stepped a b e k on moved =
    ap (with_event e) moved
    ∙ sym (step_is a.tables.protocol (pick a.tables.cache) (world_of a) e (can_happen_there a.tables.protocol a.tables.cache (given_of a.programs) (world_of a) e.1 k.reached on))

pub step_kept : (a b : Block) (e : ℕ × WorldEvent) → IsKept a → is_enabled (pick a.tables.cache) (world_of a) e.1 ≡ true → world_of b ≡ move a.tables.protocol (pick a.tables.cache) (world_of a) e.1
    → Continues a b → IsKept (with_entry e b)
step_kept a b e k on moved c = record {
  fitted = record {
    sized = record { programs = c.fitted.sized.programs; slots = c.fitted.sized.slots; lists = c.fitted.sized.lists };
    few = c.fitted.few;
    lines = c.fitted.lines;
    cores = c.fitted.cores;
    numbered = c.fitted.numbered;
  };
  limits = record {
    order = rw c.given (rw c.limits k.limits.order);
    done = rw c.given (rw c.limits k.limits.done);
    journal = rw c.given (rw c.limits k.limits.journal);
    stamps = rw c.given k.limits.stamps;
  };
  reached =
      subst (λ (g : List (List Op)). IsReachedWorld b.tables.protocol b.tables.cache g (world_of (with_entry e b))) (sym c.given)
      (subst (λ (t : Parts). IsReachedWorld t.protocol t.cache (given_of a.programs) (world_of (with_entry e b))) (sym c.tables)
      (subst (λ (w : World). IsReachedWorld a.tables.protocol a.tables.cache (given_of a.programs) w) (sym (stepped a b e k on moved))
      (steps_reach a.tables.protocol a.tables.cache (given_of a.programs) (world_of a) e k.reached on)));
}

abbrev view_with : Parts → List (List Op) → World → ℕ → WorldView
view_with t g w n = record { tables = t; given = g; world = w; limit = n }

pub step_shows : (a b : Block) (e : ℕ × WorldEvent) → IsKept a → is_enabled (pick a.tables.cache) (world_of a) e.1 ≡ true → world_of b ≡ move a.tables.protocol (pick a.tables.cache) (world_of a) e.1
    → Continues a b → view_of (with_entry e b) ≡ record (view_of a) { world = step a.tables.protocol (pick a.tables.cache) (world_of a) e }
step_shows a b e k on moved c =
    ap (λ (t : Parts). view_with t (given_of b.programs) (world_of (with_entry e b)) b.limits.journal) c.tables
    ∙ ap (λ (g : List (List Op)). view_with a.tables g (world_of (with_entry e b)) b.limits.journal) c.given
    ∙ ap (λ (w : World). view_with a.tables (given_of a.programs) w b.limits.journal) (stepped a b e k on moved)
    ∙ ap (λ (l : Limits). view_with a.tables (given_of a.programs) (step a.tables.protocol (pick a.tables.cache) (world_of a) e) l.journal) c.limits

pub room_after : (a b : Block) (e : WorldEvent) → IsKept a → is_enabled (pick a.tables.cache) (world_of a) e ≡ true → Continues a b → length b.journal < b.limits.journal
room_after a b e k on c = rw c.journal (rw c.limits (journal_room a e k on))
