-- A world stays orderly when forwards that were put off are answered, one after another.
use Rattle.std.proofs.Common.{◌≡◌, ℕ, suc, ◌<◌, Bool, true, false, List, [], ◌∷◌, ◌++◌, length, Some, refl, sym, ap, subst, ◌∙◌, arith}
use Rattle.std.specs.Prelude.{is_none}
use Rattle.pg_perm.specs.declared.kinds.FwdClass.TheVariants.{Inv}
use Rattle.pg_perm.specs.declared.draft.Draft.{Draft}
use Rattle.pg_perm.specs.Drafts.{IsWellFormed}
use Rattle.pg_terms.specs.Terms.{has_class}
use Rattle.pg_shape.specs.Shaped.{IsShaped}
use Rattle.pg_table.specs.declared.cache.Desc.TheVariants.{Stable}
use Rattle.pg_messages.specs.declared.messages.Ordered.{Ordered}
use Rattle.pg_messages.specs.declared.messages.Ordered.TheVariants.{Forward, AckCount, PutAck}
use Rattle.pg_controllers.specs.Networks.{Core}
use Rattle.pg_controllers.specs.Worlds.{World, core}
use Rattle.pg_orderly.specs.Orderly.{Mark, is_pending, is_deferred, IsOrderly}
use Rattle.pg_orderly.proofs.Keeping.{moved, core_same}
use Rattle.pg_orderly.proofs.Answer.{owner_sends}
use Rattle.pg_orderly.proofs.Answered.{with_answer, answers_kept}
use Rattle.pg_orderly.proofs.Due.{HasAnswer, answer_there}

-- one after another these are answered by core c, which is at rest
pub data Serves (d : Draft) (c : ℕ) (q : List Ordered) : World → List Ordered → World → Type 0 where
  Done : (w : World) → Serves d c q w [] w
  Next : (w z : World) (s f r i k : ℕ) (ms : List Ordered) → (a : HasAnswer d s f) → (core w c).line.desc ≡ Stable s
      → Serves d c q (moved c (with_answer d (core w c) a.take.next k (ms ++ q)) (w.replies ++ owner_sends d f a.reply r (core w c).line.word i k) w.done w) ms z → Serves d c q w (Forward f r i k ∷ ms) z

-- only forwards that are no invalidations
abbrev pub ArePutOff : Draft → List Ordered → Type 0
ArePutOff d [] = Unit {0}
ArePutOff d (m ∷ ms) = (is_deferred d m ≡ true) × ArePutOff d ms

pub not_true : (b : Bool) → Rattle.std.specs.Prelude.not b ≡ true → b ≡ false
not_true true h = cc
not_true false h = refl

pub serves_kept : (d : Draft) (n : ℕ) (c : ℕ) (q ms : List Ordered) (w : World) (m : ℕ → Mark) (s : ℕ) → IsWellFormed d → IsShaped d → c < n → IsOrderly d n w m
    → (core w c).line.desc ≡ Stable s → (core w c).queue ≡ ms ++ q → ArePutOff d ms → (z : World) × (marks : ℕ → Mark) × Serves d c q w ms z × IsOrderly d n z marks
serves_kept d n c q [] w m s wf sh low o desc queue off = (w, m, Done w, o)
serves_kept d n c q (AckCount i k ∷ ms) w m s wf sh low o desc queue off = absurd (let no_forward = off.0 in cc)
serves_kept d n c q (PutAck k ∷ ms) w m s wf sh low o desc queue off = absurd (let no_forward = off.0 in cc)
serves_kept d n c q (Forward f r i k ∷ ms) w m s wf sh low o desc queue off =
    let level : Rattle.pg_orderly.proofs.Answer.is_level (core w c).line.desc ≡ true = rw desc refl in
    let idle : is_pending (core w c) ≡ false = rw desc refl in
    let not_inv = not_true (has_class Inv d f) off.0 in
    let a = answer_there d n w m c f r i k (ms ++ q) wf sh low o level queue not_inv (λ b. absurd (cc (b, idle))) in
    let b : HasAnswer d s f = subst (λ x. HasAnswer d (Rattle.pg_orderly.proofs.Answer.base x) f) desc a in
    let row = subst (λ x. Rattle.pg_terms.specs.Terms.take_row d (Rattle.pg_orderly.proofs.Answer.base x) f ≡ Some b.take) (sym desc) b.row in
    let (g, next, from, inside_g, quiet, sends) = answers_kept d n w m c f r i k (ms ++ q) b.take b.reply wf sh low o (record { level = level; queue = queue; not_inv = not_inv; take = row; gives = b.gives; denies = b.denies; before = λ p. absurd (cc (p, idle)) }) in
    let inside : c < length w.cores = (let same = o.cores in omega (arith, same, low)) in
    let at = core_same c (with_answer d (core w c) b.take.next k (ms ++ q)) (w.replies ++ owner_sends d f b.reply r (core w c).line.word i k) w.done w inside in
    let (z, marks, rest, done) = serves_kept d n c q ms (moved c (with_answer d (core w c) b.take.next k (ms ++ q)) (w.replies ++ owner_sends d f b.reply r (core w c).line.word i k) w.done w)
    (Rattle.pg_orderly.proofs.Keeping.marked c (record { seen = suc g; last = (m c).last }) m) b.take.next wf sh low next
    (ap (λ (x : Core). x.line.desc) at ∙ ap (λ x. Rattle.pg_orderly.proofs.Answer.with_base d x b.take.next) desc) (ap (λ (x : Core). x.queue) at) off.1 in
    (z, marks, Next w z s f r i k ms b desc rest, done)
