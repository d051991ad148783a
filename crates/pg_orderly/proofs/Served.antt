-- The act of serving is what answering one after another makes of the world.
use Rattle.std.proofs.Common.{◌≡◌, ℕ, ◌<◌, Bool, true, false, List, [], ◌∷◌, ◌++◌, length, set, Some, refl, sym, ap, subst, ◌∙◌, append_assoc}
use Rattle.std.specs.Prelude.{if◌then◌else◌}
use Rattle.std.proofs.lemmas.List.{set-set}
use Rattle.pg_perm.specs.declared.kinds.FwdClass.TheVariants.{Inv, Share}
use Rattle.pg_perm.specs.declared.draft.Draft.{Draft}
use Rattle.pg_terms.specs.Terms.{has_class, take_row}
use Rattle.pg_terms.specs.Rows.{reply_to}
use Rattle.pg_table.specs.declared.cache.Desc.TheVariants.{Stable}
use Rattle.pg_table.specs.declared.cache.Act.TheVariants as act
use Rattle.pg_table.specs.Choices.{data_acts, answer_acts}
use Rattle.pg_messages.specs.declared.messages.Ordered.{Ordered}
use Rattle.pg_messages.specs.declared.messages.Ordered.TheVariants.{Forward}
use Rattle.pg_messages.specs.declared.messages.Reply.TheVariants.{Data, WbData}
use Rattle.pg_controllers.specs.Networks.{Core}
use Rattle.pg_controllers.specs.Lines.{LineResult, send_replies, serve, next_of}
use Rattle.pg_controllers.specs.Worlds.{World, core}
use Rattle.pg_orderly.proofs.Keeping.{moved, core_same}
use Rattle.pg_orderly.proofs.Answer.{owner_sends, written_back}
use Rattle.pg_orderly.proofs.Answered.{with_answer}
use Rattle.pg_orderly.proofs.Due.{HasAnswer}
use Rattle.pg_orderly.proofs.Serving.{Serves, Done, Next, ArePutOff, not_true}

-- what is said to a core is put after what was said
said : (r i k a f : ℕ) (d : Draft) (x : LineResult) (b : Bool)
    → send_replies r i k (if b then data_acts (Some a) ++ act.Wb ∷ [] else data_acts (Some a)) x
    ≡ record { line = record x.line { stamp = k }; slot = x.slot; replies = x.replies ++ Data a r x.line.word i k ∷ written_back b x.line.word k; done = x.done }
said r i k a f d x true = ap (λ rs. record { line = record x.line { stamp = k }; slot = x.slot; replies = rs; done = x.done }) (append_assoc x.replies (Data a r x.line.word i k ∷ []) (WbData x.line.word k ∷ []))
said r i k a f d x false = refl

pub says_answer : (d : Draft) (r i k a f : ℕ) (x : LineResult) → has_class Inv d f ≡ false
    → send_replies r i k (answer_acts d f (Some a)) x ≡ record { line = record x.line { stamp = k }; slot = x.slot; replies = x.replies ++ owner_sends d f a r x.line.word i k; done = x.done }
says_answer d r i k a f x not_inv = rw not_inv (said r i k a f d x (has_class Share d f))

-- the world in which core c is at rest in a state, with these messages in its queue, and has sent what is in x
abbrev pub resting : ℕ → ℕ → Core → LineResult → List Ordered → World → World
resting c s y x ms w = moved c (record { line = record x.line { desc = Stable s }; left = y.left; slot = x.slot; queue = ms }) (w.replies ++ x.replies) w.done w

-- after it, the same world with more said
answered_once : (d : Draft) (c s : ℕ) (y : Core) (x : LineResult) (f r i k a t : ℕ) (q ms : List Ordered) (w : World) → c < length w.cores
    → moved c (with_answer d (core (resting c s y x q w) c) t k ms) ((resting c s y x q w).replies ++ owner_sends d f a r (core (resting c s y x q w) c).line.word i k) (resting c s y x q w).done (resting c s y x q w)
    ≡ resting c t y (record { line = record x.line { stamp = k }; slot = x.slot; replies = x.replies ++ owner_sends d f a r x.line.word i k; done = x.done }) ms w
answered_once d c s y x f r i k a t q ms w low =
    ap (λ (z : Core). moved c (with_answer d z t k ms) ((w.replies ++ x.replies) ++ owner_sends d f a r z.line.word i k) w.done (resting c s y x q w)) at
    ∙ ap (λ xs. record w { cores = xs; replies = (w.replies ++ x.replies) ++ owner_sends d f a r x.line.word i k; done = w.done }) twice
    ∙ ap (λ rs. record w { cores = set w.cores c new; replies = rs; done = w.done }) (append_assoc w.replies x.replies (owner_sends d f a r x.line.word i k))
  where
    old : Core
    old = record { line = record x.line { desc = Stable s }; left = y.left; slot = x.slot; queue = q }

    new : Core
    new = record { line = record x.line { desc = Stable t; stamp = k }; left = y.left; slot = x.slot; queue = ms }

    at : core (resting c s y x q w) c ≡ old
    at = core_same c old (w.replies ++ x.replies) w.done w low

    twice : set (set w.cores c old) c new ≡ set w.cores c new
    twice = set-set w.cores c old new

pub serves_so : (d : Draft) (c : ℕ) (y : Core) (q ms : List Ordered) (s : ℕ) (x : LineResult) (w z : World) → c < length w.cores → ArePutOff d ms → (v : World) → v ≡ resting c s y x (ms ++ q) w → Serves d c q v ms z
    → (t : ℕ) × (z ≡ resting c t y (serve d s ms x) q w)
serves_so d c y q _ s x w _ low off v is (Done _) = (s, is)
serves_so d c y q _ s x w z low off v is (Next _ _ u f r i k ms a desc more) =
    let at : core (resting c s y x (Forward f r i k ∷ ms ++ q) w) c ≡ record { line = record x.line { desc = Stable s }; left = y.left; slot = x.slot; queue = Forward f r i k ∷ ms ++ q } =
    core_same c (record { line = record x.line { desc = Stable s }; left = y.left; slot = x.slot; queue = Forward f r i k ∷ ms ++ q }) (w.replies ++ x.replies) w.done w low in
    let here : Stable u ≡ Stable s = sym desc ∙ ap (λ v. (core v c).line.desc) is ∙ ap (λ (z : Core). z.line.desc) at in
    let same : u ≡ s = cc in
    let b : HasAnswer d s f = subst (λ u. HasAnswer d u f) same a in
    let row : take_row d s f ≡ Some a.take = subst (λ u. take_row d u f ≡ Some a.take) same a.row in
    let says : send_replies r i k (answer_acts d f (reply_to d s f)) x ≡ record { line = record x.line { stamp = k }; slot = x.slot; replies = x.replies ++ owner_sends d f a.reply r x.line.word i k; done = x.done } =
    rw (row, a.gives) (says_answer d r i k a.reply f x (not_true (has_class Inv d f) off.0)) in
    let next : next_of d s f ≡ a.take.next = rw row refl in
    let once = ap (λ v. moved c (with_answer d (core v c) a.take.next k (ms ++ q)) (v.replies ++ owner_sends d f a.reply r (core v c).line.word i k) v.done v) is
    ∙ answered_once d c s y x f r i k a.reply a.take.next (Forward f r i k ∷ ms ++ q) (ms ++ q) w low in
    let (t, end) = serves_so d c y q ms a.take.next (record { line = record x.line { stamp = k }; slot = x.slot; replies = x.replies ++ owner_sends d f a.reply r x.line.word i k; done = x.done }) w z low off.1 _ once more in (
      t,
      end ∙ ap (λ n. resting c t y (serve d n ms (record { line = record x.line { stamp = k }; slot = x.slot; replies = x.replies ++ owner_sends d f a.reply r x.line.word i k; done = x.done })) q w) (sym next)
          ∙ ap (λ x. resting c t y (serve d (next_of d s f) ms x) q w) (sym says),
    )
