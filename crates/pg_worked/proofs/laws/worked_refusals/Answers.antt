use Rattle.std.proofs.Common.{◌≡◌, ℕ, ◌+◌, arith, true, false, refl, subst, ◌∙◌}
use Rattle.std.specs.Prelude.{[]}
use Rattle.pg_samples.specs.Drafts.{mesi, mosi}
use Rattle.pg_order.specs.Messages.{sent_between}
use Rattle.pg_order.specs.Orders.{acks_needed, entry_message}
use Rattle.pg_controllers.specs.Worlds.{core, order_of}
use Rattle.pg_orderly.specs.Orderly.{IsPlaced}
use Rattle.pg_worked.specs.Marked.{mark_of}
use Rattle.pg_worked.specs.Refused.{IsRefused, data_with_a_count, lost_invalidation, overtaking, acknowledged_twice, forgotten_share, written_back_twice}
use Rattle.pg_worked.proofs.laws.worked_refusals.Goals as goal

-- two entries are left to a core that has seen two of four
two_left : (rest : ℕ) → 2 + rest ≡ 4 → rest ≡ 2
two_left rest h = omega (arith, h)

wrong_count : IsRefused mosi 3 data_with_a_count
wrong_count h =
    let (j, is, of, count) = h.promised.0.2 in
    let same : 2 ≡ j = omega (arith, is) in
    let one : 1 ≡ 0 = count ∙ subst (λ i. acks_needed ((order_of mosi data_with_a_count.world).dir_entry i) ((order_of mosi data_with_a_count.world).at i) ≡ 0) same refl in
    omega (arith, one)

no_message : IsRefused mosi 3 lost_invalidation
no_message h =
    let place : IsPlaced mosi (order_of mosi lost_invalidation.world) 1 (core lost_invalidation.world 1) (mark_of lost_invalidation.marks 1) = h.placed 1 (omega arith) in
    let is : [] ≡ sent_between (entry_message mosi (order_of mosi lost_invalidation.world) 1) 2 2 = subst (λ k. [] ≡ sent_between (entry_message mosi (order_of mosi lost_invalidation.world) 1) 2 k) (two_left place.rest place.upto) place.queue in
    cc

overtaken : IsRefused mosi 3 overtaking
overtaken h =
    let place : IsPlaced mosi (order_of mosi overtaking.world) 0 (core overtaking.world 0) (mark_of overtaking.marks 0) = h.placed 0 (omega arith) in
    let is : (core overtaking.world 0).queue ≡ sent_between (entry_message mosi (order_of mosi overtaking.world) 0) 2 2 = subst (λ k. (core overtaking.world 0).queue ≡ sent_between (entry_message mosi (order_of mosi overtaking.world) 0) 2 k) (two_left place.rest place.upto) place.queue in
    cc

too_many : IsRefused mosi 3 acknowledged_twice
too_many h = let is : 2 ≡ 3 = (h.answered 0 (omega arith)).acks in omega (arith, is)

not_busy : IsRefused mesi 2 forgotten_share
not_busy h = let is : false ≡ true = h.shares 1 6 (omega arith) refl refl refl in cc

twice : IsRefused mesi 2 written_back_twice
twice h = let is : 2 ≡ 1 = h.busy.1 in omega (arith, is)

pub returns : goal.returns
returns c = (wrong_count, no_message, overtaken, too_many, not_busy, twice)
