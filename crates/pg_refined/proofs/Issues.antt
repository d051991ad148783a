-- Rows of operations, as moves.
use Rattle.std.proofs.Common.{◌≡◌, ℕ, ◌<◌, false, List, [], ◌∷◌, ◌++◌, Some, None, refl, sym, ap, subst, ◌∙◌, inl, inr}
use Rattle.pg_perm.specs.declared.kinds.Op.{Op}
use Rattle.pg_perm.specs.declared.kinds.Op.TheVariants as op
use Rattle.pg_perm.specs.declared.draft.Draft.{Draft}
use Rattle.pg_table.specs.declared.cache.Desc.{Desc}
use Rattle.pg_table.specs.declared.cache.Desc.TheVariants.{Stable}
use Rattle.pg_table.specs.declared.cache.Input.TheVariants as at
use Rattle.pg_table.specs.declared.cache.Act.TheVariants as act
use Rattle.pg_table.specs.Choices.{Choice}
use Rattle.pg_messages.specs.declared.messages.Finished.TheVariants as finish
use Rattle.pg_controllers.specs.Networks.{Core, event_of}
use Rattle.pg_controllers.specs.Lines.{ask_for, received_op}
use Rattle.pg_messages.specs.declared.messages.WorldEvent.TheVariants.{Issue}
use Rattle.pg_controllers.specs.Worlds.{Picks, World, by_choice, core, issue, move}
use Rattle.pg_orderly.specs.Orderly.{Mark, is_pending}
use Rattle.pg_orderly.proofs.Keeping.{moved}
use Rattle.pg_serial.specs.Faithful.{IsFaithful, IsTold}
use Rattle.pg_refined.specs.Shown.{shown, stand_of, told_of, some_cleans, level_in}
use Rattle.pg_refined.specs.Operations.{pending_ops}
use Rattle.pg_refined.proofs.Clean.{clean_is, clean_from}
use Rattle.pg_refined.proofs.Completes.{all_of, append_nil}
use Rattle.pg_refined.proofs.Granted.{IsJoined}
use Rattle.pg_refined.proofs.Moves.{told_as}
use Rattle.pg_refined.proofs.Rest.{line_moves}
use Rattle.pg_refined.proofs.Asks.{marks_still}
use Rattle.pg_refined.proofs.Taken.{IsTaking}

-- an operation that is picked
pub issued : (d : Draft) (pick : Picks) (w : World) (c : ℕ) (o : Op) (os : List Op) (ch : Choice) → (core w c).left ≡ o ∷ os → pick (core w c).line.desc (at.Core (event_of o)) ≡ Some ch
    → move d pick w (Issue c) ≡ by_choice d c (received_op (core w c).line o) (record (core w c) { left = os }) w (Some ch)
issued d pick w c o os ch left picked = ap (issue d pick c (core w c) w) left ∙ ap (by_choice d c (received_op (core w c).line o) (record (core w c) { left = os }) w) picked

-- the line once it is done, with a state and a word
abbrev pub hit_core : Core → Desc → ℕ → List Op → Core
hit_core x s v os = record { line = record x.line { desc = s; word = v }; left = os; slot = x.slot; queue = x.queue }

pub hit_load_row : (d : Draft) (pick : Picks) (w : World) (c : ℕ) (s : Desc) (os : List Op) → (core w c).left ≡ op.Load ∷ os → pick (core w c).line.desc (at.Core (event_of op.Load)) ≡ Some (record { acts = act.Hit ∷ []; next = s })
    → move d pick w (Issue c) ≡ moved c (hit_core (core w c) s (core w c).line.word os) w.replies (w.done ++ record { stamp = (core w c).line.stamp; core = c; fin = finish.Load (core w c).line.word; late = false } ∷ []) w
hit_load_row d pick w c s os left picked = issued d pick w c op.Load os (record { acts = act.Hit ∷ []; next = s }) left picked
    ∙ ap (λ rs. moved c (hit_core (core w c) s (core w c).line.word os) rs (w.done ++ record { stamp = (core w c).line.stamp; core = c; fin = finish.Load (core w c).line.word; late = false } ∷ []) w) (append_nil w.replies)

pub hit_store_row : (d : Draft) (pick : Picks) (w : World) (c v : ℕ) (s : Desc) (os : List Op) → (core w c).left ≡ op.Store v ∷ os → pick (core w c).line.desc (at.Core (event_of (op.Store v))) ≡ Some (record { acts = act.Hit ∷ []; next = s })
    → move d pick w (Issue c) ≡ moved c (hit_core (core w c) s v os) w.replies (w.done ++ record { stamp = (core w c).line.stamp; core = c; fin = finish.Store v; late = false } ∷ []) w
hit_store_row d pick w c v s os left picked = issued d pick w c (op.Store v) os (record { acts = act.Hit ∷ []; next = s }) left picked
    ∙ ap (λ rs. moved c (hit_core (core w c) s v os) rs (w.done ++ record { stamp = (core w c).line.stamp; core = c; fin = finish.Store v; late = false } ∷ []) w) (append_nil w.replies)

-- a line that asks
abbrev pub ask_core : Draft → Core → Desc → ℕ → Op → List Op → Core
ask_core d x s q o os = record { line = record x.line { desc = s; pending = Some o }; left = os; slot = Some (ask_for d q o x.line); queue = x.queue }

pub ask_row : (d : Draft) (pick : Picks) (w : World) (c q : ℕ) (s : Desc) (o : Op) (os : List Op) → (core w c).left ≡ o ∷ os → pick (core w c).line.desc (at.Core (event_of o)) ≡ Some (record { acts = act.Send q ∷ []; next = s })
    → move d pick w (Issue c) ≡ moved c (ask_core d (core w c) s q o os) w.replies w.done w
ask_row d pick w c q s o os left picked = issued d pick w c o os (record { acts = act.Send q ∷ []; next = s }) left picked
    ∙ ap (λ rs. moved c (ask_core d (core w c) s q o os) rs (w.done ++ []) w) (append_nil w.replies) ∙ ap (λ dn. moved c (ask_core d (core w c) s q o os) w.replies dn w) (append_nil w.done)

-- an evict of a line that is out is skipped
pub skip_row : (d : Draft) (pick : Picks) (w : World) (c : ℕ) (s : Desc) (os : List Op) → (core w c).left ≡ op.Evict ∷ os → pick (core w c).line.desc (at.Core (event_of op.Evict)) ≡ Some (record { acts = act.Skip ∷ []; next = s })
    → move d pick w (Issue c) ≡ moved c (hit_core (core w c) s (core w c).line.word os) w.replies w.done w
skip_row d pick w c s os left picked = issued d pick w c op.Evict os (record { acts = act.Skip ∷ []; next = s }) left picked
    ∙ ap (λ rs. moved c (hit_core (core w c) s (core w c).line.word os) rs (w.done ++ []) w) (append_nil w.replies) ∙ ap (λ dn. moved c (hit_core (core w c) s (core w c).line.word os) w.replies dn w) (append_nil w.done)

pub skip_told : (d : Draft) (n : ℕ) (w : World) (m : ℕ → Mark) (c s : ℕ) (os : List Op) → IsJoined d n w m → c < n → (core w c).line.desc ≡ Stable s → IsFaithful d n (shown d w m)
    → IsFaithful d n (shown d (moved c (hit_core (core w c) (Stable s) (core w c).line.word os) w.replies w.done w) m)
skip_told d n w m c s os b there desc f =
    marks_still d n (moved c y w.replies w.done w) m c
    (line_moves d n w m c y (record { seen = (m c).seen; last = (m c).last }) w.replies b there (all_of d w.replies)
    (subst (IsTold d n (shown d w m) c) (sym (told_as (told_of (m c) (core w c)) (told_of (record { seen = (m c).seen; last = (m c).last }) y) refl refl pend (ap stand_of (sym desc)) refl refl)) (f.cores c there))
    (λ owner q. elim (clean_is d c y w.replies q) [
      | inl (rests, (t, level, clean)) ↦ clean_from d c (core w c) w.replies (inl (sym pend ∙ rests, (t, ap (λ u. level_in (stand_of u)) desc ∙ level, clean)))
      | inr (inl some) ↦ clean_from d c (core w c) w.replies (inr (inl (ap (λ u. some_cleans d c u w.replies) desc ∙ some)))
      | inr (inr leaves) ↦ clean_from d c (core w c) w.replies (inr (inr leaves))
    ]) f)
  where
    y : Core
    y = hit_core (core w c) (Stable s) (core w c).line.word os

    pend : is_pending y ≡ is_pending (core w c)
    pend = sym (rw desc refl)

pub takes_skip : (w : World) (c : ℕ) (s : Desc) (os : List Op) → (core w c).line.pending ≡ None → (core w c).left ≡ op.Evict ∷ os → IsTaking w c (hit_core (core w c) s (core w c).line.word os) []
takes_skip w c s os idle left = record { more = op.Evict ∷ []; all = ap (λ t. pending_ops t ++ (core w c).left) idle ∙ left ∙ sym (ap (λ t. op.Evict ∷ (pending_ops t ++ os)) idle); made = refl; others = λ e other. refl }
