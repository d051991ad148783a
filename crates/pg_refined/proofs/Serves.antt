-- Forwards that were put off are answered one after another, and both what keeps the world orderly and what is said of the run go along.
use Rattle.std.proofs.Common.{◌≡◌, ℕ, suc, ◌<◌, arith, true, false, List, [], ◌∷◌, ◌++◌, length, Some, refl, sym, ap, subst, ◌∙◌}
use Rattle.pg_perm.specs.declared.kinds.FwdClass.TheVariants.{Inv}
use Rattle.pg_perm.specs.declared.draft.Draft.{Draft}
use Rattle.pg_perm.specs.Drafts.{IsWellFormed}
use Rattle.pg_terms.specs.Terms.{has_class, take_row}
use Rattle.pg_shape.specs.Shaped.{IsShaped}
use Rattle.pg_table.specs.declared.cache.Desc.TheVariants.{Stable}
use Rattle.pg_messages.specs.declared.messages.Ordered.{Ordered}
use Rattle.pg_messages.specs.declared.messages.Ordered.TheVariants.{Forward, AckCount, PutAck}
use Rattle.pg_controllers.specs.Networks.{Core}
use Rattle.pg_controllers.specs.Worlds.{World, core}
use Rattle.pg_orderly.specs.Orderly.{Mark, is_pending, IsOrderly}
use Rattle.pg_orderly.proofs.Keeping.{core_same, marked, moved}
use Rattle.pg_orderly.proofs.Answer.{base, is_level, owner_sends, with_base}
use Rattle.pg_orderly.proofs.Answered.{IsAnswering, answers_kept, with_answer}
use Rattle.pg_orderly.proofs.Due.{HasAnswer, answer_there}
use Rattle.pg_orderly.proofs.Serving.{ArePutOff, Serves, Done, Next, not_true}
use Rattle.pg_serial.specs.Faithful.{IsFaithful}
use Rattle.pg_refined.specs.Shown.{HasFlags, shown}
use Rattle.pg_refined.proofs.Granted.{joined}
use Rattle.pg_refined.proofs.Answers.{answers_told}
use Rattle.pg_refined.proofs.Moves.{flags_stay}

pub serves_told : (d : Draft) (n : ℕ) (c : ℕ) (q ms : List Ordered) (w : World) (m : ℕ → Mark) (s : ℕ) → IsWellFormed d → IsShaped d → c < n → IsOrderly d n w m → HasFlags d w → IsFaithful d n (shown d w m)
    → (core w c).line.desc ≡ Stable s → (core w c).queue ≡ ms ++ q → ArePutOff d ms
    → (z : World) × (marks : ℕ → Mark) × Serves d c q w ms z × IsOrderly d n z marks × HasFlags d z × IsFaithful d n (shown d z marks)
serves_told d n c q [] w m s wf sh low o flags f desc queue off = (w, m, Done w, o, flags, f)
serves_told d n c q (AckCount i k ∷ ms) w m s wf sh low o flags f desc queue off = absurd (let no_forward = off.0 in cc)
serves_told d n c q (PutAck k ∷ ms) w m s wf sh low o flags f desc queue off = absurd (let no_forward = off.0 in cc)
serves_told d n c q (Forward f r i k ∷ ms) w m s wf sh low o flags faithful desc queue off =
    let level : is_level (core w c).line.desc ≡ true = rw desc refl in
    let idle : is_pending (core w c) ≡ false = rw desc refl in
    let not_inv = not_true (has_class Inv d f) off.0 in
    let a = answer_there d n w m c f r i k (ms ++ q) wf sh low o level queue not_inv (λ b. absurd (cc (b, idle))) in
    let b : HasAnswer d s f = subst (λ x. HasAnswer d (base x) f) desc a in
    let row = subst (λ x. take_row d (base x) f ≡ Some b.take) (sym desc) b.row in
    let h : IsAnswering d w m c f r i k (ms ++ q) b.take b.reply = record { level = level; queue = queue; not_inv = not_inv; take = row; gives = b.gives; denies = b.denies; before = λ p. absurd (cc (p, idle)) } in
    let (g, next, from, inside_g, quiet, sends) = answers_kept d n w m c f r i k (ms ++ q) b.take b.reply wf sh low o h in
    let told = answers_told d n w m c f r i k (ms ++ q) b.take b.reply g (joined d n w m wf sh o flags) low h (record { from = from; inside = inside_g; quiet = quiet; sends = sends }) faithful in
    let inside : c < length w.cores = (let same = o.cores in omega (arith, same, low)) in
    let at = core_same c (with_answer d (core w c) b.take.next k (ms ++ q)) (w.replies ++ owner_sends d f b.reply r (core w c).line.word i k) w.done w inside in
    let (z, marks, rest, done, flags_z, told_z) = serves_told d n c q ms (moved c (with_answer d (core w c) b.take.next k (ms ++ q)) (w.replies ++ owner_sends d f b.reply r (core w c).line.word i k) w.done w)
    (marked c (record { seen = suc g; last = (m c).last }) m) b.take.next wf sh low next
    (flags_stay d w c (with_answer d (core w c) b.take.next k (ms ++ q)) (w.replies ++ owner_sends d f b.reply r (core w c).line.word i k) w.done flags) told
    (ap (λ (x : Core). x.line.desc) at ∙ ap (λ x. with_base d x b.take.next) desc) (ap (λ (x : Core). x.queue) at) off.1 in
    (z, marks, Next w z s f r i k ms b desc rest, done, flags_z, told_z)
