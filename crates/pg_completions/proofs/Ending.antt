-- A world in which an operation is done, and what was put off stands in the queue again, leads to that in which it is answered.
use Rattle.std.proofs.Common.{◌≡◌, ℕ, ◌<◌, arith, List, [], ◌∷◌, ◌++◌, length, Some, refl, sym, ap, subst, ◌∙◌}
use Rattle.std.proofs.lemmas.List.{length-set, append-nil}
use Rattle.pg_perm.specs.declared.draft.Draft.{Draft}
use Rattle.pg_perm.specs.declared.draft.TakeLine.{TakeLine}
use Rattle.pg_perm.specs.Drafts.{IsWellFormed}
use Rattle.pg_terms.specs.Terms.{take_row}
use Rattle.pg_shape.specs.Shaped.{IsShaped}
use Rattle.pg_table.specs.declared.cache.Desc.TheVariants.{Stable}
use Rattle.pg_table.specs.declared.cache.Tag.{Tag}
use Rattle.pg_table.specs.declared.cache.Tag.TheVariants.{Plain, Kept, Gave, Gone}
use Rattle.pg_table.specs.Choices.{serve_acts}
use Rattle.pg_messages.specs.declared.messages.Ordered.{Ordered}
use Rattle.pg_messages.specs.declared.messages.Ordered.TheVariants.{Forward}
use Rattle.pg_messages.specs.declared.messages.Reply.{Reply}
use Rattle.pg_controllers.specs.Networks.{Core}
use Rattle.pg_controllers.specs.Lines.{Received, LineResult, serve, do_acts}
use Rattle.pg_messages.specs.declared.messages.DoneEntry.{DoneEntry}
use Rattle.pg_controllers.specs.Worlds.{World, core}
use Rattle.pg_orderly.specs.Orderly.{Mark, IsOrderly}
use Rattle.pg_orderly.proofs.Keeping.{moved, core_same}
use Rattle.pg_orderly.proofs.Answered.{with_answer}
use Rattle.pg_orderly.proofs.Answer.{with_base, owner_sends}
use Rattle.pg_orderly.proofs.Serving.{Serves, Done, Next, ArePutOff, serves_kept}
use Rattle.pg_orderly.proofs.Served.{resting, serves_so}
use Rattle.pg_orderly.proofs.TagReplay.{Leads, Stays, Takes}

-- the act of serving, or none where nothing was put off
pub serve_or_not : (d : Draft) (m : Received) (a : LineResult) (t : Tag) → (t ≡ Plain → a.line.deferred ≡ []) → do_acts d m (serve_acts t) a ≡ serve d m.final a.line.deferred (record a { line = record a.line { deferred = [] } })
serve_or_not d m a Plain none =
    sym (ap (λ ms. serve d m.final ms (record a { line = record a.line { deferred = [] } })) (none refl) ∙ ap (λ ms. record a { line = record a.line { deferred = ms } }) (sym (none refl)))
serve_or_not d m a Kept none = refl
serve_or_not d m a Gave none = refl
serve_or_not d m a Gone none = refl

-- answering leads where the take rows lead
pub serves_lead : (d : Draft) (c : ℕ) (q ms : List Ordered) (s y : ℕ) (w z : World) → c < length w.cores → (core w c).line.desc ≡ Stable s → Serves d c q w ms z → Leads d s ms y → (core z c).line.desc ≡ Stable y
serves_lead d c q _ s y w _ low desc (Done _) leads = by s y [] desc refl leads
  where
    by : (s y : ℕ) (ms : List Ordered) → (core w c).line.desc ≡ Stable s → ms ≡ [] → Leads d s ms y → (core w c).line.desc ≡ Stable y
    by s _ _ desc e (Stays _) = desc
    by s y _ desc e (Takes _ _ f r n k ms t due row rest) = cc
serves_lead d c q _ s y w z low desc (Next _ _ u f r i k ms a here more) leads =
    by s y (Forward f r i k ∷ ms) desc refl leads (λ v desc leads. serves_lead d c q ms v y next z (let more = length-set w.cores c (with_answer d (core w c) a.take.next k (ms ++ q)) in omega (arith, low, more)) desc more leads)
  where
    next : World
    next = moved c (with_answer d (core w c) a.take.next k (ms ++ q)) (w.replies ++ owner_sends d f a.reply r (core w c).line.word i k) w.done w

    at : core next c ≡ with_answer d (core w c) a.take.next k (ms ++ q)
    at = core_same c (with_answer d (core w c) a.take.next k (ms ++ q)) (w.replies ++ owner_sends d f a.reply r (core w c).line.word i k) w.done w low

    by : (s y : ℕ) (xs : List Ordered) → (core w c).line.desc ≡ Stable s → xs ≡ Forward f r i k ∷ ms → Leads d s xs y → ((v : ℕ) → (core next c).line.desc ≡ Stable v → Leads d v ms y → (core z c).line.desc ≡ Stable y) → (core z c).line.desc ≡ Stable y
    by s _ _ desc e (Stays _) again = cc
    by s y _ desc e (Takes _ _ g r2 n2 k2 ms2 t due row rest) again =
        let same : g ≡ f = cc in
        let behind : ms2 ≡ ms = cc in
        let is : u ≡ s = (let x : Stable u ≡ Stable s = sym here ∙ desc in cc) in
        let theirs : take_row d s f ≡ Some a.take = subst (λ u. take_row d u f ≡ Some a.take) is a.row in
        let mine : take_row d s f ≡ Some t = subst (λ g. take_row d s g ≡ Some t) same row in
        let one : t ≡ a.take = cc (theirs, mine) in
        let now : (core next c).line.desc ≡ Stable a.take.next = ap (λ (x : Core). x.line.desc) at ∙ ap (λ x. with_base d x a.take.next) desc in
        let onward : Leads d a.take.next ms y = subst (λ (t : TakeLine). Leads d t.next ms y) one (subst (λ ms. Leads d t.next ms y) behind rest) in
        again a.take.next now onward

-- core c at rest in a state, as its acts left it
abbrev pub rests : ℕ → Core → LineResult → List Ordered → Core
rests s y x ms = record { line = record x.line { desc = Stable s }; left = y.left; slot = x.slot; queue = ms }

pub served_kept : (d : Draft) (n c : ℕ) (y : Core) (x : LineResult) (f state : ℕ) (ms q : List Ordered) (rs : List Reply) (dn : List DoneEntry) (w : World) (m : ℕ → Mark) → IsWellFormed d → IsShaped d → c < n → c < length w.cores
    → x.replies ≡ [] → IsOrderly d n (moved c (rests f y x (ms ++ q)) rs dn w) m → ArePutOff d ms → Leads d f ms state
    → (u : ℕ → Mark) × IsOrderly d n (moved c (rests state y (serve d f ms x) q) (rs ++ (serve d f ms x).replies) dn w) u
served_kept d n c y x f state ms q rs dn w m wf sh low inside silent o off leads =
    let (z, u, how, ok) = serves_kept d n c q ms back m f wf sh low o (ap (λ (x : Core). x.line.desc) at) (ap (λ (x : Core). x.queue) at) off in
    let (t, end) = serves_so d c y q ms f x w0 z inside off back (sym same) how in
    let there = serves_lead d c q ms f state back z (let more = length-set w.cores c (rests f y x (ms ++ q)) in omega (arith, inside, more)) (ap (λ (x : Core). x.line.desc) at) how leads in
    let told : Stable t ≡ Stable state = sym (ap (λ (x : Core). x.line.desc) (core_same c (rests t y (serve d f ms x) q) (rs ++ (serve d f ms x).replies) dn w inside)) ∙ sym (ap (λ z. (core z c).line.desc) end) ∙ there in
    let is : t ≡ state = cc in
    (u, subst (λ z. IsOrderly d n z u) (end ∙ ap (λ t. moved c (rests t y (serve d f ms x) q) (rs ++ (serve d f ms x).replies) dn w) is) ok)
  where
    w0 : World
    w0 = record w { replies = rs; done = dn }

    back : World
    back = moved c (rests f y x (ms ++ q)) rs dn w

    at : core back c ≡ rests f y x (ms ++ q)
    at = core_same c (rests f y x (ms ++ q)) rs dn w inside

    same : resting c f y x (ms ++ q) w0 ≡ back
    same = ap (λ rs. moved c (rests f y x (ms ++ q)) rs dn w) (ap (λ xs. rs ++ xs) silent ∙ append-nil rs)
