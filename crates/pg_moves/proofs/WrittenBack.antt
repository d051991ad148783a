-- A world stays orderly when data is written back to a directory that is busy.
use Rattle.std.proofs.Common.{◌≡◌, ℕ, zero, suc, ◌+◌, ◌≤◌, arith, Bool, true, false, ◌&&◌, cond, Some, refl, sym, ap, subst, ◌∙◌}
use Rattle.std.specs.Prelude.{slice_get}
use Rattle.std.specs.List.{remove}
use Rattle.pg_perm.specs.declared.draft.Draft.{Draft}
use Rattle.pg_table.specs.declared.directory.DirDesc.{DirDesc}
use Rattle.pg_table.specs.declared.directory.DirDesc.TheVariants.{State, Busy}
use Rattle.pg_table.specs.declared.directory.DirInput.TheVariants as met
use Rattle.pg_table.specs.Directory.{dir_choice}
use Rattle.pg_order.specs.Messages.{tally}
use Rattle.pg_order.specs.Orders.{DirOrder}
use Rattle.pg_order.specs.Views.{View, is_unserved}
use Rattle.pg_messages.specs.declared.messages.Reply.TheVariants.{WbData}
use Rattle.pg_controllers.specs.Directories.{Directory, is_busy, dir_entry_of, do_dir_acts}
use Rattle.pg_controllers.specs.Worlds.{World, core, order_of, after_write_back}
use Rattle.pg_orderly.specs.Orderly.{Mark, view_of, is_pending, is_storing, is_write_back, is_data_to, is_ack_to, AcksAre, IsBusy, IsBusyAt, IsOrderly}
use Rattle.pg_orderly.proofs.Filled.{tally_removed, promised_removed}

-- the world with a reply taken away, and the directory changed
abbrev back_directory : World → ℕ → Directory → World
back_directory w i h = record w { replies = remove w.replies i; directory = h }

-- where one was under way, no share is open
pub ends_share : (d : Draft) (p : DirOrder) (v : View) (wbs k : ℕ) → 1 ≤ wbs → k ≡ p.top → IsBusyAt d p v wbs k → (wbs ≡ 1) × ((j : ℕ) → suc j ≡ p.top → is_unserved d p v j ≡ false)
ends_share d p v wbs zero some at b = absurd b
ends_share d p v wbs (suc j) some at b = by (is_unserved d p v j) refl b.1
  where
    by : (t : Bool) → is_unserved d p v j ≡ t → wbs ≡ cond {A = ℕ} t 0 1 → (wbs ≡ 1) × ((i : ℕ) → suc i ≡ p.top → is_unserved d p v i ≡ false)
    by true e count = absurd (omega (arith, some, count))
    by false e count = (count, λ i top. let same : j ≡ i = omega (arith, top, at) in subst (λ j. is_unserved d p v j ≡ false) same e)

pub wb_kept : (d : Draft) (n : ℕ) (w : World) (m : ℕ → Mark) (i v k : ℕ) → IsOrderly d n w m → slice_get w.replies i ≡ Some (WbData v k)
    → IsOrderly d n (after_write_back d v (record w { replies = remove w.replies i }) (dir_choice d w.directory.desc met.Wb)) m
wb_kept d n w m i v k o get = at w.directory.desc refl o.busy
  where
    p : DirOrder
    p = order_of d w

    one : tally is_write_back (remove w.replies i) + 1 ≡ tally is_write_back w.replies
    one = tally_removed is_write_back w.replies i (WbData v k) get

    data_as : (c : ℕ) → tally (is_data_to c) (remove w.replies i) ≡ tally (is_data_to c) w.replies
    data_as c = let all = tally_removed (is_data_to c) w.replies i (WbData v k) get in omega (arith, all)

    acks_as : (c : ℕ) → tally (is_ack_to c) (remove w.replies i) ≡ tally (is_ack_to c) w.replies
    acks_as c = let all = tally_removed (is_ack_to c) w.replies i (WbData v k) get in omega (arith, all)

    kept : (h : Directory) → dir_entry_of h ≡ dir_entry_of w.directory → h.last ≡ w.directory.last → is_busy h.desc ≡ false → IsBusy d p (view_of w m) (tally is_write_back w.replies) true → IsOrderly d n (back_directory w i h) m
    kept h dir_entry last free busy =
        let (count, closed) = ends_share d p (view_of w m) (tally is_write_back w.replies) p.top (omega (arith, one)) refl busy in
        record {
          cores = o.cores;
          past = o.past;
          directory = dir_entry ∙ o.directory;
          last = last ∙ o.last;
          placed = o.placed;
          waiting = o.waiting;
          ungranted = o.ungranted;
          promised = promised_removed d p (λ c. (m c).last) n w.replies i o.promised;
          answered = λ c b. record {
            filled = data_as c ∙ (o.answered c b).filled;
            acks = subst (λ acks. AcksAre p (view_of w m) (core w c) acks (m c).last (is_pending (core w c) && is_storing (core w c).line.desc)) (sym (acks_as c)) (o.answered c b).acks;
          };
          busy = subst (IsBusy d p (view_of w m) (tally is_write_back (remove w.replies i))) (sym free) (omega (arith, one, count));
          shares = λ j f b un to class. absurd (let top = o.waiting.shares j f b un to class in let shut = closed j top in cc (un, shut));
        }

    at : (y : DirDesc) → w.directory.desc ≡ y → IsBusy d p (view_of w m) (tally is_write_back w.replies) (is_busy w.directory.desc) → IsOrderly d n (after_write_back d v (record w { replies = remove w.replies i }) (dir_choice d y met.Wb)) m
    at (State x) desc busy =
        let none : tally is_write_back w.replies ≡ 0 = subst (λ y. IsBusy d p (view_of w m) (tally is_write_back w.replies) (is_busy y)) desc busy in
        absurd (omega (arith, one, none))
    at (Busy x) desc busy = kept (record w.directory { desc = State x; memory = v }) (ap (λ (y : DirDesc). record { dir = Rattle.pg_controllers.specs.Directories.dir_state_of y; owner = w.directory.owner; sharers = w.directory.sharers }) (sym desc)) refl refl
        (subst (λ y. IsBusy d p (view_of w m) (tally is_write_back w.replies) (is_busy y)) desc busy)
