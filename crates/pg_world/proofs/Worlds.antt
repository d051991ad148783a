-- What a world shows is what its block is.
use Rattle.std.proofs.Common.{◌≡◌, ℕ, ◌<◌, ◌+◌, ◌*◌, ◌-◌, ◌^◌, ◌≤◌, true, false, length, sym, ap, subst, ◌∙◌, nat_eq, arith}
use Rattle.std.proofs.lemmas.Bool.{and_parts}
use Rattle.std.proofs.lemmas.Nat.{mul-le}
use Rattle.pg_table.specs.Pick.{pick}
use Rattle.pg_messages.specs.declared.messages.WorldEvent.{WorldEvent}
use Rattle.pg_controllers.specs.Worlds.{is_enabled, has_row}
use Rattle.pg_safe.specs.Moving.{is_finished}
use Rattle.pg_reached.proofs.Reached.{event_can_happen, journal_bounded, messages_bounded}
use Rattle.pg_block.proofs.Joined.{joined_length}
use Rattle.pg_world.specs.Enabled.{enabled_events}
use Rattle.pg_world.proofs.Finished.{finished_is}
use Rattle.pg_world.proofs.Steps.{journal_room}
use Rattle.pg_block.specs.Blocks.{Block, CanTell, enabled_at, world_of, given_of}
use Rattle.pg_world.specs.Kept.{IsKept, WorldView, operation_count, view_of}
use Rattle.pg_world.proofs.Made.{journal_most}
use Rattle.pg_world.proofs.Ready.{few_cores}
use Rattle.pg_world.proofs.EnabledIs.{made_at, enabled_is}

pub tells : (b : Block) → IsKept b → CanTell b
tells b k = record { sized = k.fitted.sized; made = λ c low. made_at b c k low }

pub shown_enabled : (b : Block) (v : WorldView) (e : WorldEvent) → IsKept b → view_of b ≡ v → enabled_at e b ≡ is_enabled (pick v.tables.cache) v.world e
shown_enabled b v e k is = enabled_is b e k ∙ ap (λ (x : WorldView). is_enabled (pick x.tables.cache) x.world e) is

pub enabled_in : (b : Block) (v : WorldView) (e : WorldEvent) → view_of b ≡ v → is_enabled (pick v.tables.cache) v.world e ≡ true → is_enabled (pick b.tables.cache) (world_of b) e ≡ true
enabled_in b v e is on = ap (λ (x : WorldView). is_enabled (pick x.tables.cache) x.world e) is ∙ on

pub core_count : (b : Block) (v : WorldView) → IsKept b → view_of b ≡ v → length b.lines ≡ length v.world.cores
core_count b v k is =
    let z = k.fitted.sized in sym (joined_length b.lines b.programs b.nets.slots b.nets.lists z.programs z.slots z.lists) ∙ ap (λ (x : WorldView). length x.world.cores) is

pub finished_count : (b : Block) (v : WorldView) → IsKept b → view_of b ≡ v → nat_eq (length (enabled_events (pick v.tables.cache) v.world)) 0 ≡ is_finished v.world
finished_count b v k is =
    subst (λ (x : WorldView). nat_eq (length (enabled_events (pick x.tables.cache) x.world)) 0 ≡ is_finished x.world) is
    (sym (finished_is b.tables.protocol b.tables.cache (given_of b.programs) (world_of b) k.reached))

pub room_left : (b : Block) (v : WorldView) → IsKept b → view_of b ≡ v → is_finished v.world ≡ false → 0 < b.limits.journal - length b.journal
room_left b v k is open_still =
    let (e, can) = event_can_happen b.tables.protocol b.tables.cache (given_of b.programs) (world_of b) k.reached (ap (λ (x : WorldView). is_finished x.world) is ∙ open_still) in
    let on = (and_parts (is_enabled (pick b.tables.cache) (world_of b) e) (has_row b.tables.protocol (pick b.tables.cache) (world_of b) e) can).0 in
    let room = journal_room b e k on in
    omega (arith, room)

square_few : (n : ℕ) → n ≤ 64 → n * n ≤ 4096
square_few n few =
    let rest : ℕ = 64 - n in
    let sum : n + rest ≡ 64 = omega (arith, few) in
    let square : (n + rest) * (n + rest) ≡ 4096 = ap (λ k. k * k) sum in
    omega (arith, square)

pub replies_few : (b : Block) → IsKept b → length b.nets.replies ≤ 4097
replies_few b k =
    let most = messages_bounded b.tables.protocol b.tables.cache (given_of b.programs) (world_of b) k.reached in
    let square = square_few (length (given_of b.programs)) (few_cores b k) in
    omega (arith, most, square)

pub journal_few : (b : Block) → IsKept b → length b.journal < 2 ^ 62
journal_few b k =
    let given = given_of b.programs in
    let most = journal_bounded b.tables.protocol b.tables.cache given (world_of b) k.reached in
    let all = journal_most given in
    let ops = k.limits.stamps in
    let cores = few_cores b k in
    let each : 2 * length given + 2 ≤ 130 = omega arith in
    let count : operation_count given ≤ 4294967295 = omega arith in
    let product = mul-le (operation_count given) (2 * length given + 2) 4294967295 130 count each in
    omega (arith, most, all, product)
