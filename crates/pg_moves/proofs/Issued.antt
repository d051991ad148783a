-- A world stays orderly when a core begins an operation.
use Rattle.std.proofs.Common.{◌≡◌, ℕ, ◌<◌, Bool, true, false, ◌&&◌, not, List, [], ◌∷◌, ◌++◌, Option, Some, None, refl, sym, ap, subst, ◌∙◌, ◌⊎◌, inl, inr, append-nil}
use Rattle.std.specs.Prelude.{length, nat_lt, is_none, unwrap_or, if◌then◌else◌}
use Rattle.std.specs.Option.{option_and_then}
use Rattle.pg_perm.proofs.Booleans.{and_true}
use Rattle.pg_perm.specs.declared.kinds.Event.TheVariants.{Load, Store, Evict}
use Rattle.pg_perm.specs.declared.kinds.Who.{Who}
use Rattle.pg_perm.specs.declared.kinds.Who.TheVariants.{Other, Sharer, Owner}
use Rattle.pg_perm.specs.declared.kinds.ReqClass.TheVariants.{Read, Write}
use Rattle.pg_perm.specs.declared.kinds.Op.{Op}
use Rattle.pg_perm.specs.declared.kinds.Op.TheVariants as op
use Rattle.pg_perm.specs.declared.draft.Draft.{Draft}
use Rattle.pg_perm.specs.declared.draft.CoreLine.{CoreLine}
use Rattle.pg_terms.specs.Terms.{is, cache_is, is_owner, out, request_of, core_row}
use Rattle.pg_terms.specs.Rows.{allows, store_next}
use Rattle.pg_shape.specs.Shaped.{IsShaped}
use Rattle.pg_directory.specs.DirEntries.{DirEntry, who}
use Rattle.pg_directory.specs.Sound.{fits, fits_as}
use Rattle.pg_atomic.proofs.Fits.{is_then_some, out_stores, shared_loads, shared_stores, owner_loads, owner_writes}
use Rattle.pg_table.specs.declared.cache.Desc.{Desc}
use Rattle.pg_table.specs.declared.cache.Desc.TheVariants.{Stable, Ask, Leave}
use Rattle.pg_table.specs.declared.cache.Phase.TheVariants.{D, Ad, Ac}
use Rattle.pg_table.specs.declared.cache.Tag.TheVariants.{Plain}
use Rattle.pg_table.specs.declared.cache.Input.TheVariants as at_input
use Rattle.pg_table.specs.declared.cache.Act.TheVariants as act
use Rattle.pg_table.specs.Descriptors.{out_state, store_phase}
use Rattle.pg_table.specs.Choices.{Choice, only_choice, choices_if_some, evict_request_in, choices}
use Rattle.pg_order.specs.Orders.{DirOrder}
use Rattle.pg_messages.specs.declared.messages.Ask.{Ask as SentRequest}
use Rattle.pg_controllers.specs.Networks.{Line, Core, event_of}
use Rattle.pg_controllers.specs.Lines.{ask_for, result_of, received_op}
use Rattle.pg_messages.specs.declared.messages.WorldEvent.TheVariants.{Issue}
use Rattle.pg_messages.specs.declared.messages.DoneEntry.{DoneEntry}
use Rattle.pg_controllers.specs.Worlds.{Picks, World, core, order_of, settle, by_choice, issue, move, is_stable, is_enabled}
use Rattle.pg_orderly.specs.Orderly.{Mark, is_pending, is_granted, MayBegin, IsLevel, IsLined, IsPlaced, IsOrderly}
use Rattle.pg_orderly.proofs.Rows.{IsChosen, only_chosen, where_given}
use Rattle.pg_orderly.proofs.Keeping.{moved}
use Rattle.pg_safe.specs.Moving.{ArePicked}
use Rattle.pg_moves.specs.Kept.{IsOrderlyWorld}
use Rattle.pg_moves.proofs.Still.{placed_with, stands_still}

-- States

-- who may not read holds nothing
pub lacks_out : (d : Draft) (s : DirEntry) (c x : ℕ) → IsShaped d → fits d s c x ≡ true → cache_is (allows Load) d x ≡ false → out d ≡ Some x
lacks_out d s c x sh fit lacks = at (who s c) fit
  where
    at : (w : Who) → fits_as d s.dir w x ≡ true → out d ≡ Some x
    at Other f = is_then_some (out d) x f
    at Sharer f = absurd (let may = shared_loads d sh x f in cc (may, lacks))
    at Owner f = absurd (let may = owner_loads d sh s.dir x f in cc (may, lacks))

-- where a store that hits leads fits where its state did
hit_fits : (d : Draft) (s : DirEntry) (c x t : ℕ) (l : CoreLine) → IsShaped d → fits d s c x ≡ true → cache_is (allows Store) d x ≡ true → core_row d x Store ≡ Some l → store_next x Store l.form ≡ Some t → fits d s c t ≡ true
hit_fits d s c x t l sh fit may row next = at (who s c) fit
  where
    at : (w : Who) → fits_as d s.dir w x ≡ true → fits_as d s.dir w t ≡ true
    at Other f = absurd (let lacks = out_stores d sh x f in cc (may, lacks))
    at Sharer f = absurd (let lacks = shared_stores d sh x f in cc (may, lacks))
    at Owner f = (sh.cores.store_hit x t l row (owner_writes d sh s.dir x f may) next).1 s.dir ∙ f

pub given_then : {A B : Type 0} (o : Option A) (f : A → Option B) (b : B) → option_and_then f o ≡ Some b → (a : A) × (o ≡ Some a) × (f a ≡ Some b)
given_then None f b e = cc
given_then (Some a) f b e = (a, refl, e)

-- one of two lists by a test
pub by_test : (b : Bool) (xs ys : List Choice) (ch : Choice) → IsChosen (if b then xs else ys) ch → ((b ≡ true) × IsChosen xs ch) ⊎ ((b ≡ false) × IsChosen ys ch)
by_test true xs ys ch h = inl (refl, h)
by_test false xs ys ch h = inr (refl, h)

and_false : (b : Bool) → (b && false) ≡ false
and_false true = refl
and_false false = refl

first_ungranted : (d : Draft) (s : ℕ) → is_granted (Ask Store s (store_phase d s) Plain) ≡ false
first_ungranted d s = at (cache_is (λ c. is_owner c.role) d s)
  where
    at : (b : Bool) → is_granted (Ask Store s (if b then Ac else Ad) Plain) ≡ false
    at true = refl
    at false = refl

-- The line

pub stable_is : (x : Desc) → is_stable x ≡ true → (s : ℕ) × (x ≡ Stable s)
stable_is (Stable s) h = (s, refl)
stable_is (Ask e s p t) h = cc
stable_is (Leave s) h = cc

-- a line at rest has nothing in its slot
pub rests : (d : Draft) (p : DirOrder) (c s : ℕ) (l : Line) (m : Mark) (slot : Option SentRequest) → IsLined d p c l m (Stable s) slot → (slot ≡ None) × IsLined d p c l m (Stable s) None
rests d p c s l m None h = (refl, h)
rests d p c s l m (Some a) h = absurd h

pub issued : (d : Draft) (n : ℕ) (w : World) (m : ℕ → Mark) (c s : ℕ) (o : Op) (os : List Op) (ch : Choice) → IsShaped d → c < n → IsOrderly d n w m → (core w c).line.desc ≡ Stable s
    → IsChosen (choices d (Stable s) (at_input.Core (event_of o))) ch
    → IsOrderly d n (settle c (record (core w c) { left = os }) (result_of d ch (received_op (core w c).line o) (core w c).line (core w c).slot) w) m
issued d n w m c s o os ch sh low ord desc chosen = by o chosen
  where
    p : DirOrder
    p = order_of d w

    x : Core
    x = core w c

    pl : IsPlaced d p c x (m c)
    pl = ord.placed c low

    at_rest : (x.slot ≡ None) × IsLined d p c x.line (m c) (Stable s) None
    at_rest = rests d p c s x.line (m c) x.slot (subst (λ y. IsLined d p c x.line (m c) y x.slot) desc pl.line)

    idle : is_pending x ≡ false
    idle = ap (λ y. not (is_stable y) && is_none x.slot) desc

    level : IsLevel d p c x.line (m c) s
    level = at_rest.1.0

    -- nothing is sent
    quietly : (y : Core) (dn : List DoneEntry) → IsOrderly d n (moved c y w.replies dn w) m → IsOrderly d n (moved c y (w.replies ++ []) dn w) m
    quietly y dn h = subst (λ rs. IsOrderly d n (moved c y rs dn w) m) (sym (append-nil w.replies)) h

    level_on : (l : Line) (t : ℕ) → l.need ≡ None → l.deferred ≡ x.line.deferred → fits d (p.dir_entry (m c).seen) c t ≡ true → IsLevel d p c l (m c) t
    level_on l t need deferred fit = record { need = need; deferred = deferred ∙ level.deferred; state = fit }

    -- it is done at once
    done_core : ℕ → ℕ → Core
    done_core t word = record { line = record x.line { desc = Stable t; word = word }; left = os; slot = x.slot; queue = x.queue }

    at_once : (t word : ℕ) (dn : List DoneEntry) → fits d (p.dir_entry (m c).seen) c t ≡ true → IsOrderly d n (moved c (done_core t word) (w.replies ++ []) dn w) m
    at_once t word dn fit = quietly (done_core t word) dn (stands_still d n w m c (done_core t word) dn low ord (record {
      idle = idle;
      still = refl;
      ungranted = refl;
      got = λ z. z;
      placed = placed_with d p c x (done_core t word) (m c) refl (subst (IsLined d p c (done_core t word).line (m c) (Stable t)) (sym at_rest.0) (level_on (done_core t word).line t level.need refl fit, at_rest.1.1, at_rest.1.2)) pl;
    }))

    -- it asks
    asking_core : Desc → Op → ℕ → Core
    asking_core next o q = record { line = record x.line { desc = next; pending = Some o }; left = os; slot = Some (ask_for d q o x.line); queue = x.queue }

    asks : (next : Desc) (o : Op) (q : ℕ) (dn : List DoneEntry) → is_granted next ≡ false → IsLined d p c (asking_core next o q).line (m c) next (Some (ask_for d q o x.line))
        → IsOrderly d n (moved c (asking_core next o q) (w.replies ++ []) dn w) m
    asks next o q dn ungranted line = quietly (asking_core next o q) dn (stands_still d n w m c (asking_core next o q) dn low ord (record {
      idle = idle;
      still = and_false (not (is_stable next));
      ungranted = ungranted;
      got = λ z. z;
      placed = placed_with d p c x (asking_core next o q) (m c) refl line pl;
    }))

    world_by : Op → Choice → World
    world_by o ch = settle c (record x { left = os }) (result_of d ch (received_op x.line o) x.line x.slot) w

    IsGood : Op → Choice → Type 0
    IsGood o ch = IsOrderly d n (world_by o ch) m

    by : (o : Op) → IsChosen (choices d (Stable s) (at_input.Core (event_of o))) ch → IsGood o ch
    by op.Load h = elim (by_test (cache_is (allows Load) d s) (only_choice (act.Hit ∷ []) (Stable s)) (choices_if_some (request_of d Read) (λ q. only_choice (act.Send q ∷ []) (Ask Load (out_state d) D Plain))) ch h) [
      | inl (may, h) ↦ subst (IsGood op.Load) (sym (only_chosen (record { acts = act.Hit ∷ []; next = Stable s }) ch h)) (at_once s x.line.word _ level.state)
      | inr (lacks, h) ↦
          let (q, there, h) = where_given (request_of d Read) (λ q. only_choice (act.Send q ∷ []) (Ask Load (out_state d) D Plain)) ch h in
          let gone = lacks_out d (p.dir_entry (m c).seen) c s sh level.state lacks in
          let same : s ≡ out_state d = sym (ap (λ o. unwrap_or o 0) gone) in
          let begins : MayBegin d Load (out_state d) D = (gone ∙ ap Some same, refl) in
          subst (IsGood op.Load) (sym (only_chosen (record { acts = act.Send q ∷ []; next = Ask Load (out_state d) D Plain }) ch h))
          (asks (Ask Load (out_state d) D Plain) op.Load q _ refl
          ((op.Load, refl, refl), level_on (asking_core (Ask Load (out_state d) D Plain) op.Load q).line (out_state d) level.need refl (subst (λ t. fits d (p.dir_entry (m c).seen) c t ≡ true) same level.state), begins, refl, refl, at_rest.1.2))
    ]
    by (op.Store v) h = elim (by_test (cache_is (allows Store) d s) (choices_if_some (option_and_then (λ l. store_next s Store l.form) (core_row d s Store)) (λ t. only_choice (act.Hit ∷ []) (Stable t)))
        (choices_if_some (request_of d Write) (λ q. only_choice (act.Send q ∷ []) (Ask Store s (store_phase d s) Plain))) ch h) [
          | inl (may, h) ↦
              let (t, there, h) = where_given (option_and_then (λ l. store_next s Store l.form) (core_row d s Store)) (λ t. only_choice (act.Hit ∷ []) (Stable t)) ch h in
              let (l, row, next) = given_then (core_row d s Store) (λ (l : CoreLine). store_next s Store l.form) t there in
              subst (IsGood (op.Store v)) (sym (only_chosen (record { acts = act.Hit ∷ []; next = Stable t }) ch h))
              (at_once t v _ (hit_fits d (p.dir_entry (m c).seen) c s t l sh level.state may row next))
          | inr (lacks, h) ↦
              let (q, there, h) = where_given (request_of d Write) (λ q. only_choice (act.Send q ∷ []) (Ask Store s (store_phase d s) Plain)) ch h in
              subst (IsGood (op.Store v)) (sym (only_chosen (record { acts = act.Send q ∷ []; next = Ask Store s (store_phase d s) Plain }) ch h))
              (asks (Ask Store s (store_phase d s) Plain) (op.Store v) q _ (first_ungranted d s)
              ((op.Store v, refl, refl), level_on (asking_core (Ask Store s (store_phase d s) Plain) (op.Store v) q).line s level.need refl level.state, (lacks, refl), refl, refl, at_rest.1.2))
        ]
    by op.Evict h = elim (by_test (is (out d) s) (only_choice (act.Skip ∷ []) (Stable s)) (choices_if_some (option_and_then (λ l. evict_request_in l.form) (core_row d s Evict)) (λ q. only_choice (act.Send q ∷ []) (Leave s))) ch h) [
      | inl (gone, h) ↦ subst (IsGood op.Evict) (sym (only_chosen (record { acts = act.Skip ∷ []; next = Stable s }) ch h)) (at_once s x.line.word _ level.state)
      | inr (there, h) ↦
          let (q, is, h) = where_given (option_and_then (λ (l : CoreLine). evict_request_in l.form) (core_row d s Evict)) (λ q. only_choice (act.Send q ∷ []) (Leave s)) ch h in
          subst (IsGood op.Evict) (sym (only_chosen (record { acts = act.Send q ∷ []; next = Leave s }) ch h))
          (asks (Leave s) op.Evict q _ refl ((op.Evict, refl, refl), level_on (asking_core (Leave s) op.Evict q).line s level.need refl level.state, refl, at_rest.1.2))
    ]

-- a core begins an operation
pub issue_kept : (d : Draft) (n : ℕ) (pick : Picks) (w : World) (m : ℕ → Mark) (c : ℕ) → IsShaped d → ArePicked d pick n w → c < n → IsOrderly d n w m → is_enabled pick w (Issue c) ≡ true
    → IsOrderlyWorld d n (move d pick w (Issue c))
issue_kept d n pick w m c sh picks low o on = at (core w c).left
  where
    stable : (s : ℕ) × ((core w c).line.desc ≡ Stable s)
    stable = stable_is (core w c).line.desc (and_true (is_stable (core w c).line.desc) (nat_lt 0 (length (core w c).left)) on).0

    by : (v : Op) (os : List Op) (t : Option Choice) → pick (core w c).line.desc (at_input.Core (event_of v)) ≡ t → IsOrderlyWorld d n (by_choice d c (received_op (core w c).line v) (record (core w c) { left = os }) w t)
    by v os None is = (m, o)
    by v os (Some ch) is = (m, issued d n w m c stable.0 v os ch sh low o stable.1 (subst (λ y. IsChosen (choices d y (at_input.Core (event_of v))) ch) stable.1 (picks c low (at_input.Core (event_of v)) ch is)))

    at : (os : List Op) → IsOrderlyWorld d n (issue d pick c (core w c) w os)
    at [] = (m, o)
    at (v ∷ os) = by v os (pick (core w c).line.desc (at_input.Core (event_of v))) refl
