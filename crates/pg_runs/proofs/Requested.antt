-- The directory handles a request, and data is written back: all is kept that goes along a run.
use Rattle.std.proofs.Common.{◌≡◌, ℕ, suc, ◌+◌, ◌<◌, arith, Bool, true, false, not, List, ◌++◌, length, Option, Some, None, refl, sym, ap, subst, ◌∙◌}
use Rattle.std.specs.Prelude.{slice_get, is_some, get_or}
use Rattle.std.specs.List.{remove}
use Rattle.pg_perm.proofs.Booleans.{and_true}
use Rattle.pg_perm.specs.declared.kinds.Op.{Op}
use Rattle.pg_perm.specs.declared.draft.Draft.{Draft}
use Rattle.pg_perm.specs.Drafts.{IsWellFormed}
use Rattle.pg_shape.specs.Shaped.{IsShaped}
use Rattle.pg_table.specs.declared.directory.DirDesc.{DirDesc}
use Rattle.pg_table.specs.declared.directory.DirDesc.TheVariants.{State, Busy}
use Rattle.pg_table.specs.declared.directory.DirInput.TheVariants as met
use Rattle.pg_table.specs.Directory.{DirChoice, dir_choice}
use Rattle.pg_order.specs.Messages.{tally}
use Rattle.pg_messages.specs.declared.messages.Ask.{Ask as SentRequest}
use Rattle.pg_controllers.specs.Networks as net
use Rattle.pg_messages.specs.declared.messages.Reply.TheVariants.{WbData}
use Rattle.pg_controllers.specs.Directories.{is_busy, dir_entry_of, dir_input}
use Rattle.pg_messages.specs.declared.messages.WorldEvent.TheVariants.{Request as Request_of}
use Rattle.pg_controllers.specs.Worlds.{Picks, World, core, order_of, handle_by, request, after_write_back, move, is_enabled}
use Rattle.pg_orderly.specs.Orderly.{Mark, view_of, is_write_back, IsBusy, IsOrderly}
use Rattle.pg_orderly.proofs.Filled.{tally_removed}
use Rattle.pg_orderly.proofs.Keeping.{marked}
use Rattle.pg_orderly.proofs.Handled.{request_of, IsHandling, handling_kept}
use Rattle.pg_safe.proofs.Requests.{DoesFor, request_due}
use Rattle.pg_serial.specs.Serial.{made_by}
use Rattle.pg_refined.specs.Shown.{accesses, HasFlags}
use Rattle.pg_refined.specs.Ordering.{IsOrdering}
use Rattle.pg_refined.specs.Operations.{HaveTaken, MadeOf, pending_ops}
use Rattle.pg_refined.specs.Kept.{IsRefined}
use Rattle.pg_refined.proofs.Granted.{joined}
use Rattle.pg_refined.proofs.Asks.{wrote, wrote_told}
use Rattle.pg_refined.proofs.Ordered.{flags_more, order_told}
use Rattle.pg_refined.proofs.Slots.{orders, slots_handled}
use Rattle.pg_refined.proofs.Taken.{taken_handled}
use Rattle.pg_moves.proofs.Requested.{handling}
use Rattle.pg_moves.proofs.WrittenBack.{wb_kept}
use Rattle.pg_runs.specs.Headline.{IsRefinedWorld}

-- the directory handles a request
pub request_true : (d : Draft) (given : List (List Op)) (pick : Picks) (w : World) (m : ℕ → Mark) (c : ℕ) → IsWellFormed d → IsShaped d → c < length given → IsRefined d given w m → is_enabled pick w (Request_of c) ≡ true
    → IsRefinedWorld d given (move d pick w (Request_of c))
request_true d given pick w m c wf sh low h on = at (core w c).slot refl
  where
    n : ℕ
    n = length given

    free : is_busy w.directory.desc ≡ false
    free = by (is_busy w.directory.desc) refl
      where
        by : (b : Bool) → is_busy w.directory.desc ≡ b → is_busy w.directory.desc ≡ false
        by false e = e
        by true e = absurd (let not_so = (and_true (is_some (core w c).slot) (not (is_busy w.directory.desc)) on).1 in let no_way : not (is_busy w.directory.desc) ≡ false = ap not e in cc (not_so, no_way))

    by : (a : SentRequest) → (core w c).slot ≡ Some a → (ch : DirChoice) → dir_choice d w.directory.desc (dir_input w.directory.desc (dir_entry_of w.directory) (request_of c a)) ≡ Some ch → DoesFor d (dir_entry_of w.directory) c a.event ch
        → IsRefined d given (handle_by d c a w (Some ch)) (marked c (record { seen = (m c).seen; last = suc (order_of d w).top }) m)
    by a slot ch chosen does = record {
      orderly = orderly;
      flags = flags;
      slots = slots_handled d n w m c a x handles h.slots;
      taken = taken_handled given d n w m c a x handles order.done h.taken;
      faithful = order_told d n w m c a x (joined d n w m wf sh h.orderly h.flags) h.slots low handles order (joined d n x marks wf sh orderly flags) h.faithful;
    }
      where
        x : World
        x = handle_by d c a w (Some ch)

        marks : ℕ → Mark
        marks = marked c (record { seen = (m c).seen; last = suc (order_of d w).top }) m

        handles : IsHandling d n w m c a x
        handles = handling d n w m c a ch wf sh low h.orderly slot free chosen

        order : IsOrdering d w c a x
        order = orders d w c a ch does

        orderly : IsOrderly d n x marks
        orderly = handling_kept d n w m c a x wf sh low h.orderly handles

        flags : HasFlags d x
        flags = flags_more d w x c a h.flags h.orderly.directory handles.past order.order

    at : (t : Option SentRequest) → (core w c).slot ≡ t → IsRefinedWorld d given (move d pick w (Request_of c))
    at None slot = (m, subst (λ z. IsRefined d given z m) (sym (ap (request d c w) slot)) h)
    at (Some a) slot =
        let (ch, chosen, does) = request_due d n w m c a wf sh h.orderly low slot free in
        let marks = marked c (record { seen = (m c).seen; last = suc (order_of d w).top }) m in
        (marks, subst (λ z. IsRefined d given z marks) (sym (ap (request d c w) slot ∙ ap (handle_by d c a w) chosen)) (by a slot ch chosen does))

-- what doesn't touch the cores, the order, nor what is done keeps the operations
pub taken_same : (given : List (List Op)) (w x : World) → x.cores ≡ w.cores → x.done ≡ w.done → HaveTaken given w → HaveTaken given x
taken_same given w x cores done h c low =
    let k = h c low in
    record {
      taken = k.taken;
      all = k.all ∙ ap (λ cs. k.taken ++ (pending_ops (get_or cs c net.idle_core).line.pending ++ (get_or cs c net.idle_core).left)) (sym cores);
      made = subst (λ dn. MadeOf c k.taken (made_by c (accesses dn))) (sym done) k.made;
    }

-- data is written back
pub back_true : (d : Draft) (given : List (List Op)) (w : World) (m : ℕ → Mark) (i v k : ℕ) → IsRefined d given w m → slice_get w.replies i ≡ Some (WbData v k)
    → IsRefinedWorld d given (after_write_back d v (record w { replies = remove w.replies i }) (dir_choice d w.directory.desc met.Wb))
back_true d given w m i v k h get = at w.directory.desc refl h.orderly.busy (wb_kept d (length given) w m i v k h.orderly get)
  where
    n : ℕ
    n = length given

    one : tally is_write_back (remove w.replies i) + 1 ≡ tally is_write_back w.replies
    one = tally_removed is_write_back w.replies i (WbData v k) get

    world_at : DirDesc → World
    world_at y = after_write_back d v (record w { replies = remove w.replies i }) (dir_choice d y met.Wb)

    at : (y : DirDesc) → w.directory.desc ≡ y → IsBusy d (order_of d w) (view_of w m) (tally is_write_back w.replies) (is_busy w.directory.desc) → IsOrderly d n (world_at w.directory.desc) m → IsRefinedWorld d given (world_at w.directory.desc)
    at (State x) desc busy orderly =
        let none : tally is_write_back w.replies ≡ 0 = subst (λ y. IsBusy d (order_of d w) (view_of w m) (tally is_write_back w.replies) (is_busy y)) desc busy in
        absurd (omega (arith, one, none))
    at (Busy x) desc busy orderly = (
      m,
      subst (λ y. IsRefined d given (world_at y) m) (sym desc) (record {
        orderly = subst (λ y. IsOrderly d n (world_at y) m) desc orderly;
        flags = h.flags;
        slots = h.slots;
        taken = taken_same given w (wrote w i v (State x)) refl refl h.taken;
        faithful = wrote_told d n w m i v k (State x) get h.faithful;
      }),
    )
