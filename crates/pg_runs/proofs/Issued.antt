-- A core begins an operation: all is kept that goes along a run.
use Rattle.std.proofs.Common.{◌≡◌, ℕ, ◌<◌, Bool, true, false, List, [], ◌∷◌, ◌++◌, Option, Some, None, refl, sym, ap, subst, ◌∙◌, inl, inr}
use Rattle.std.specs.Prelude.{length, nat_lt, if◌then◌else◌}
use Rattle.std.specs.Option.{option_and_then}
use Rattle.pg_perm.proofs.Booleans.{and_true}
use Rattle.pg_perm.specs.declared.kinds.Event.TheVariants.{Load, Store, Evict}
use Rattle.pg_perm.specs.declared.kinds.ReqClass.TheVariants.{Read, Write}
use Rattle.pg_perm.specs.declared.kinds.Op.{Op}
use Rattle.pg_perm.specs.declared.kinds.Op.TheVariants as op
use Rattle.pg_perm.specs.declared.draft.Draft.{Draft}
use Rattle.pg_perm.specs.declared.draft.CoreLine.{CoreLine}
use Rattle.pg_perm.specs.Drafts.{IsWellFormed}
use Rattle.pg_terms.specs.Terms.{is, cache_is, out, request_of, core_row}
use Rattle.pg_terms.specs.Rows.{allows, store_next}
use Rattle.pg_shape.specs.Shaped.{IsShaped}
use Rattle.pg_table.specs.declared.cache.Desc.{Desc}
use Rattle.pg_table.specs.declared.cache.Desc.TheVariants.{Stable, Ask, Leave}
use Rattle.pg_table.specs.declared.cache.Phase.TheVariants.{D}
use Rattle.pg_table.specs.declared.cache.Tag.TheVariants.{Plain}
use Rattle.pg_table.specs.declared.cache.Input.TheVariants as at_input
use Rattle.pg_table.specs.declared.cache.Act.TheVariants as act
use Rattle.pg_table.specs.Descriptors.{out_state, store_phase}
use Rattle.pg_table.specs.Choices.{Choice, only_choice, choices_if_some as given_by, evict_request_in, choices}
use Rattle.pg_messages.specs.declared.messages.Ask.{Ask as SentRequest}
use Rattle.pg_messages.specs.declared.messages.Finished.TheVariants as finish
use Rattle.pg_controllers.specs.Networks.{Core, event_of}
use Rattle.pg_controllers.specs.Lines.{ask_for}
use Rattle.pg_messages.specs.declared.messages.WorldEvent.TheVariants.{Issue}
use Rattle.pg_messages.specs.declared.messages.DoneEntry.{DoneEntry}
use Rattle.pg_controllers.specs.Worlds.{Picks, World, core, order_of, issue, move, is_stable, is_enabled}
use Rattle.pg_orderly.specs.Orderly.{Mark, IsLined, IsOrderly}
use Rattle.pg_orderly.proofs.Rows.{IsChosen, only_chosen, where_given}
use Rattle.pg_orderly.proofs.Keeping.{moved}
use Rattle.pg_safe.specs.Moving.{ArePicked}
use Rattle.pg_serial.specs.Faithful.{IsFaithful}
use Rattle.pg_refined.specs.Shown.{shown}
use Rattle.pg_refined.specs.Kept.{IsRefined}
use Rattle.pg_refined.proofs.Granted.{IsJoined, joined}
use Rattle.pg_refined.proofs.Hits.{hit_load_told, hit_store_told}
use Rattle.pg_refined.proofs.Asks.{IsAsked, asked_told}
use Rattle.pg_refined.proofs.Issues as rows
use Rattle.pg_refined.proofs.Issues.{hit_core, ask_core, hit_load_row, hit_store_row, ask_row, skip_row, skip_told, takes_skip}
use Rattle.pg_refined.proofs.Taken.{IsTaking, makes_load, makes_store, makes_no_other, takes_asked, takes_hit}
use Rattle.pg_moves.proofs.Issued as kept
use Rattle.pg_moves.proofs.Issued.{by_test, rests, stable_is}
use Rattle.pg_runs.specs.Headline.{IsRefinedWorld}
use Rattle.pg_runs.proofs.Moves.{BringsOwn, moved_true, still_true}

-- a word that is asked with is the line's
own_word : (b : Bool) (x v : ℕ) → (if b then Some x else None) ≡ Some v → v ≡ x
own_word true x v e = cc
own_word false x v e = cc

pub issued_true : (d : Draft) (given : List (List Op)) (pick : Picks) (w : World) (m : ℕ → Mark) (c s : ℕ) (o : Op) (os : List Op) (ch : Choice) → IsWellFormed d → IsShaped d → c < length given → IsRefined d given w m
    → (core w c).line.desc ≡ Stable s → (core w c).left ≡ o ∷ os → pick (core w c).line.desc (at_input.Core (event_of o)) ≡ Some ch → IsChosen (choices d (Stable s) (at_input.Core (event_of o))) ch
    → IsRefined d given (move d pick w (Issue c)) m
issued_true d given pick w m c s o os ch wf sh low h desc left picks chosen = by o left picks chosen ord
  where
    n : ℕ
    n = length given

    x : Core
    x = core w c

    b : IsJoined d n w m
    b = joined d n w m wf sh h.orderly h.flags

    lined : (x.slot ≡ None) × IsLined d (order_of d w) c x.line (m c) (Stable s) None
    lined = let pl = h.orderly.placed c low in rests d (order_of d w) c s x.line (m c) x.slot (subst (λ y. IsLined d (order_of d w) c x.line (m c) y x.slot) desc pl.line)

    idle : x.line.pending ≡ None
    idle = lined.1.1

    ord : IsOrderly d n (move d pick w (Issue c)) m
    ord = subst (λ z. IsOrderly d n z m) (sym (rows.issued d pick w c o os ch left picks)) (kept.issued d n w m c s o os ch sh low h.orderly desc chosen)

    -- it is done at once
    at_once : (v : Op) (t word : ℕ) (e : DoneEntry) → move d pick w (Issue c) ≡ moved c (hit_core x (Stable t) word os) w.replies (w.done ++ e ∷ []) w → IsOrderly d n (move d pick w (Issue c)) m
        → IsTaking w c (hit_core x (Stable t) word os) (e ∷ []) → IsFaithful d n (shown d (moved c (hit_core x (Stable t) word os) w.replies (w.done ++ e ∷ []) w) m) → IsRefined d given (move d pick w (Issue c)) m
    at_once v t word e row orderly taking faithful = subst (λ z. IsRefined d given z m) (sym row)
        (moved_true d given w m c (hit_core x (Stable t) word os) w.replies (e ∷ []) m h low (λ v a full brings. absurd (let none = lined.0 in cc (none, full))) taking (subst (λ z. IsOrderly d n z m) row orderly) faithful)

    asks : (v : Op) (next : Desc) (q : ℕ) → x.left ≡ v ∷ os → pick x.line.desc (at_input.Core (event_of v)) ≡ Some (record { acts = act.Send q ∷ []; next = next }) → IsOrderly d n (move d pick w (Issue c)) m
        → IsAsked d w c s (event_of v) q (ask_for d q v x.line) (ask_core d x next q v os) → IsRefined d given (move d pick w (Issue c)) m
    asks v next q left picks orderly asked = subst (λ z. IsRefined d given z m) (sym row)
        (still_true d given w m c (ask_core d x next q v os) w.replies m h low own (takes_asked w c (ask_core d x next q v os) v os idle left refl refl) (subst (λ z. IsOrderly d n z m) row orderly)
        (asked_told d n w m c s (event_of v) q (ask_for d q v x.line) (ask_core d x next q v os) b low asked h.faithful))
      where
        row : move d pick w (Issue c) ≡ moved c (ask_core d x next q v os) w.replies w.done w
        row = ask_row d pick w c q next v os left picks

        own : BringsOwn (ask_core d x next q v os)
        own z a full brings = let same : ask_for d q v x.line ≡ a = cc in own_word _ x.line.word z (ap (λ (a : SentRequest). a.word) same ∙ brings)

    by : (v : Op) → x.left ≡ v ∷ os → pick x.line.desc (at_input.Core (event_of v)) ≡ Some ch → IsChosen (choices d (Stable s) (at_input.Core (event_of v))) ch → IsOrderly d n (move d pick w (Issue c)) m
        → IsRefined d given (move d pick w (Issue c)) m
    by op.Load left picks g orderly = elim (by_test (cache_is (allows Load) d s) (only_choice (act.Hit ∷ []) (Stable s)) (given_by (request_of d Read) (λ q. only_choice (act.Send q ∷ []) (Ask Load (out_state d) D Plain))) ch g) [
      | inl (may, g) ↦
          let is = only_chosen (record { acts = act.Hit ∷ []; next = Stable s }) ch g in
          at_once op.Load s x.line.word (record { stamp = x.line.stamp; core = c; fin = finish.Load x.line.word; late = false }) (hit_load_row d pick w c (Stable s) os left (picks ∙ ap Some is)) orderly
          (takes_hit w c (hit_core x (Stable s) x.line.word os) op.Load os (record { stamp = x.line.stamp; core = c; fin = finish.Load x.line.word; late = false }) idle left idle refl refl (makes_load c x.line.stamp x.line.word false)
          (λ e other. makes_no_other c e x.line.stamp (finish.Load x.line.word) false other))
          (hit_load_told d n w m c s (hit_core x (Stable s) x.line.word os) b low desc lined.0 may refl lined.0 refl refl h.faithful)
      | inr (lacks, g) ↦
          let (q, there, g) = where_given (request_of d Read) (λ q. only_choice (act.Send q ∷ []) (Ask Load (out_state d) D Plain)) ch g in
          let is = only_chosen (record { acts = act.Send q ∷ []; next = Ask Load (out_state d) D Plain }) ch g in
          asks op.Load (Ask Load (out_state d) D Plain) q left (picks ∙ ap Some is) orderly
          (record { desc = desc; slot = lined.0; lacks = λ z. lacks; leaves = λ z. cc; asks = refl; brings = refl; line = refl; word = refl; stamp = refl; full = refl })
    ]
    by (op.Store v) left picks g orderly = elim (by_test (cache_is (allows Store) d s) (given_by (option_and_then (λ l. store_next s Store l.form) (core_row d s Store)) (λ t. only_choice (act.Hit ∷ []) (Stable t)))
        (given_by (request_of d Write) (λ q. only_choice (act.Send q ∷ []) (Ask Store s (store_phase d s) Plain))) ch g) [
          | inl (may, g) ↦
              let (t, there, g) = where_given (option_and_then (λ l. store_next s Store l.form) (core_row d s Store)) (λ t. only_choice (act.Hit ∷ []) (Stable t)) ch g in
              let is = only_chosen (record { acts = act.Hit ∷ []; next = Stable t }) ch g in
              at_once (op.Store v) t v (record { stamp = x.line.stamp; core = c; fin = finish.Store v; late = false }) (hit_store_row d pick w c v (Stable t) os left (picks ∙ ap Some is)) orderly
              (takes_hit w c (hit_core x (Stable t) v os) (op.Store v) os (record { stamp = x.line.stamp; core = c; fin = finish.Store v; late = false }) idle left idle refl refl (makes_store c x.line.stamp v false)
              (λ e other. makes_no_other c e x.line.stamp (finish.Store v) false other))
              (hit_store_told d n w m c s t v (hit_core x (Stable t) v os) b low desc lined.0 may there refl lined.0 refl refl h.faithful)
          | inr (lacks, g) ↦
              let (q, there, g) = where_given (request_of d Write) (λ q. only_choice (act.Send q ∷ []) (Ask Store s (store_phase d s) Plain)) ch g in
              let is = only_chosen (record { acts = act.Send q ∷ []; next = Ask Store s (store_phase d s) Plain }) ch g in
              asks (op.Store v) (Ask Store s (store_phase d s) Plain) q left (picks ∙ ap Some is) orderly
              (record { desc = desc; slot = lined.0; lacks = λ z. lacks; leaves = λ z. cc; asks = refl; brings = refl; line = refl; word = refl; stamp = refl; full = refl })
        ]
    by op.Evict left picks g orderly = elim (by_test (is (out d) s) (only_choice (act.Skip ∷ []) (Stable s)) (given_by (option_and_then (λ l. evict_request_in l.form) (core_row d s Evict)) (λ q. only_choice (act.Send q ∷ []) (Leave s))) ch g) [
      | inl (gone, g) ↦
          let is = only_chosen (record { acts = act.Skip ∷ []; next = Stable s }) ch g in
          let row = skip_row d pick w c (Stable s) os left (picks ∙ ap Some is) in
          subst (λ z. IsRefined d given z m) (sym row)
          (still_true d given w m c (hit_core x (Stable s) x.line.word os) w.replies m h low (λ v a full brings. absurd (let none = lined.0 in cc (none, full))) (takes_skip w c (Stable s) os idle left)
          (subst (λ z. IsOrderly d n z m) row orderly) (skip_told d n w m c s os b low desc h.faithful))
      | inr (there, g) ↦
          let (q, leaves, g) = where_given (option_and_then (λ (l : CoreLine). evict_request_in l.form) (core_row d s Evict)) (λ q. only_choice (act.Send q ∷ []) (Leave s)) ch g in
          let is = only_chosen (record { acts = act.Send q ∷ []; next = Leave s }) ch g in
          asks op.Evict (Leave s) q left (picks ∙ ap Some is) orderly
          (record { desc = desc; slot = lined.0; lacks = λ z. absurd (z refl); leaves = λ z. leaves; asks = refl; brings = refl; line = refl; word = refl; stamp = refl; full = refl })
    ]

-- a core begins an operation
pub issue_true : (d : Draft) (given : List (List Op)) (pick : Picks) (w : World) (m : ℕ → Mark) (c : ℕ) → IsWellFormed d → IsShaped d → ArePicked d pick (length given) w → c < length given → IsRefined d given w m
    → is_enabled pick w (Issue c) ≡ true → IsRefinedWorld d given (move d pick w (Issue c))
issue_true d given pick w m c wf sh picks low h on = at (core w c).left refl
  where
    stable : (s : ℕ) × ((core w c).line.desc ≡ Stable s)
    stable = stable_is (core w c).line.desc (and_true (is_stable (core w c).line.desc) (nat_lt 0 (length (core w c).left)) on).0

    by : (v : Op) (os : List Op) → (core w c).left ≡ v ∷ os → (t : Option Choice) → pick (core w c).line.desc (at_input.Core (event_of v)) ≡ t → IsRefinedWorld d given (move d pick w (Issue c))
    by v os left None is = (m, subst (λ z. IsRefined d given z m) (sym (ap (issue d pick c (core w c) w) left ∙ ap (Rattle.pg_controllers.specs.Worlds.by_choice d c (Rattle.pg_controllers.specs.Lines.received_op (core w c).line v) (record (core w c) { left = os }) w) is)) h)
    by v os left (Some ch) is = (m, issued_true d given pick w m c stable.0 v os ch wf sh low h stable.1 left is (subst (λ y. IsChosen (choices d y (at_input.Core (event_of v))) ch) stable.1 (picks c low (at_input.Core (event_of v)) ch is)))

    at : (os : List Op) → (core w c).left ≡ os → IsRefinedWorld d given (move d pick w (Issue c))
    at [] left = (m, subst (λ z. IsRefined d given z m) (sym (ap (issue d pick c (core w c) w) left)) h)
    at (v ∷ os) left = by v os left (pick (core w c).line.desc (at_input.Core (event_of v))) refl
