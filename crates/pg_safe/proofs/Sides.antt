-- On which side of its own entry a core meets a forward: what the lemmas that keep worlds orderly ask of the race.
use Rattle.std.proofs.Common.{◌≡◌, ◌≢◌, ℕ, suc, ◌<◌, arith, Bool, true, false, ◌&&◌, not, List, ◌∷◌, Option, Some, None, refl, sym, ap, subst, ◌∙◌, ◌⊎◌, inl, inr}
use Rattle.std.specs.Prelude.{is_none}
use Rattle.std.proofs.lemmas.Bool.{eq-eqb}
use Rattle.pg_perm.proofs.Booleans.{and_true}
use Rattle.pg_perm.specs.declared.kinds.Event.{Event}
use Rattle.pg_perm.specs.declared.kinds.Event.TheVariants.{Load, Store, Evict}
use Rattle.pg_perm.specs.declared.kinds.FwdClass.TheVariants.{Inv}
use Rattle.pg_perm.specs.declared.draft.Draft.{Draft}
use Rattle.pg_perm.specs.Drafts.{IsWellFormed}
use Rattle.pg_terms.specs.Terms.{is, is_owner, cache_is, out, shared, has_class}
use Rattle.pg_shape.specs.Shaped.{IsShaped}
use Rattle.pg_directory.specs.DirEntries.{who}
use Rattle.pg_directory.specs.Sound.{fits_as}
use Rattle.pg_directory.specs.Requests.{action_of}
use Rattle.pg_directory.proofs.Holders.{is_same}
use Rattle.pg_table.specs.declared.cache.Desc.{Desc}
use Rattle.pg_table.specs.declared.cache.Desc.TheVariants.{Stable, Ask, Leave}
use Rattle.pg_table.specs.declared.cache.Phase.{Phase}
use Rattle.pg_table.specs.declared.cache.Phase.TheVariants.{D, Ad, Ac, A}
use Rattle.pg_table.specs.declared.cache.Tag.{Tag}
use Rattle.pg_table.specs.declared.cache.Tag.TheVariants.{Plain}
use Rattle.pg_table.specs.Descriptors.{store_phase}
use Rattle.pg_table.specs.Choices.{is_earlier}
use Rattle.pg_messages.specs.declared.messages.Ordered.{Ordered}
use Rattle.pg_messages.specs.declared.messages.Ordered.TheVariants.{Forward}
use Rattle.pg_order.specs.Orders.{DirOrder, entry_message, acks_needed, own_message}
use Rattle.pg_order.proofs.Known.{IsKnown, known}
use Rattle.pg_order.proofs.Quiet.{IsSent, forward_is}
use Rattle.pg_order.proofs.Race.{sent_is, before_own}
use Rattle.pg_messages.specs.declared.messages.Ask.{Ask as SentRequest}
use Rattle.pg_controllers.specs.Worlds.{World, core, order_of, is_stable}
use Rattle.pg_orderly.specs.Orderly.{Mark, is_pending, MayBegin, IsLevel, IsOrdered, IsAsking, is_ahead, IsFirstPhase, IsLined, IsPlaced, IsOrderly}
use Rattle.pg_safe.proofs.Catch.{sent_is_due}
use Rattle.pg_safe.proofs.Ends.{none_after}
use Rattle.pg_safe.proofs.Heads.{IsHead, head_of, fits_at, own_sends, own_count, owner_counts, out_not_due, owner_owns}
use Rattle.pg_safe.proofs.Race.{store_waits_not}

-- a state at which this forward is answered, and not put off
abbrev pub answers_it : Draft → Desc → ℕ → Bool
answers_it d (Stable s) f = true
answers_it d (Ask Store s Ad t) f = is_earlier d s t f
answers_it d (Ask Store s Ac t) f = true
answers_it d (Leave s) f = true
answers_it d _ f = false

side : (g entry last : ℕ) → last ≡ suc entry → g ≢ entry → (suc g < last) ⊎ (entry < g)
side g entry last e ne = search arith

-- what is answered at a pending line comes before its own entry
pub answered_before : (d : Draft) (n : ℕ) (w : World) (m : ℕ → Mark) (c f r i k : ℕ) (ms : List Ordered) → IsWellFormed d → IsShaped d → IsOrderly d n w m → c < n → (core w c).queue ≡ Forward f r i k ∷ ms
    → answers_it d (core w c).line.desc f ≡ true → is_pending (core w c) ≡ true → k < (m c).last
answered_before d n w m c f r i k ms wf sh o low queue answers pend =
    let (g, hd) = head_of d p c (core w c) (m c) (Forward f r i k) ms pl queue in
    by g hd (forward_is d p c g f r i k hd.sends) (core w c).line.desc (core w c).slot pend answers pl.line
  where
    p : DirOrder
    p = order_of d w

    kn : IsKnown d n p
    kn = known d n p wf sh o.past

    pl : IsPlaced d p c (core w c) (m c)
    pl = o.placed c low

    -- a level line, whose entry sends it something or stores
    sides : (g : ℕ) → IsHead d p c (m c) g (Forward f r i k) → IsSent d p c g f r i k → (e : Event) → IsOrdered p (m c) e → ((entry : ℕ) → (m c).last ≡ suc entry → (p.at entry).event ≡ e → entry < g → ⊥) → k < (m c).last
    sides g hd fw e od never =
        let last = od.last in
        let stamp = fw.stamp in
        let apart : g ≢ od.entry = (λ same. let own = pl.last_own od.entry last in let is_own = eq-eqb (p.at g).core c (ap (λ j. (p.at j).core) same ∙ own) in let other = fw.other in cc (is_own, other)) in
        elim (side g od.entry (m c).last last apart) [
          | inl early ↦ omega (arith, early, stamp)
          | inr late ↦ absurd (never od.entry last od.event late)
        ]

    quiet_own : (g entry : ℕ) → IsHead d p c (m c) g (Forward f r i k) → (m c).seen < (m c).last → (m c).last ≡ suc entry → entry < g → entry_message d p c entry ≡ None
    quiet_own g entry hd behind last late = hd.quiet entry (omega (arith, last, behind)) late

    storing : (g : ℕ) → IsHead d p c (m c) g (Forward f r i k) → IsSent d p c g f r i k → (s : ℕ) (ph : Phase) (t : Tag) → answers_it d (Ask Store s ph t) f ≡ true → IsLevel d p c (core w c).line (m c) s → MayBegin d Store s ph
        → (m c).seen < (m c).last → (entry : ℕ) → (m c).last ≡ suc entry → (p.at entry).event ≡ Store → entry < g → ⊥
    storing g hd fw s D t answers lv begins behind entry last event late = cc
    storing g hd fw s A t answers lv begins behind entry last event late = cc
    storing g hd fw s Ad Plain answers lv begins behind entry last event late =
        let inside = hd.inside in
        let (shares, inv) = and_true (is (shared d) s) (has_class Inv d f) answers in
        let before = before_own d n p kn c entry g f (omega (arith, late, inside)) hd.inside (pl.last_own entry last) event
        (λ j lo hi. none_after d p c (core w c) (m c) pl (suc entry) p.top (omega (arith, last)) (omega arith) j lo hi)
        (λ j lo hi. hd.quiet j (omega (arith, lo, last, behind)) hi) fw.other fw.sends inv in omega (arith, before, late)
    storing g hd fw s Ad t answers lv begins behind entry last event late = cc
    storing g hd fw s Ac t answers lv begins behind entry last event late =
        let inside = hd.inside in
        let low_entry : entry < p.top = omega (arith, late, inside) in
        let own = pl.last_own entry last in
        let owner = is_ac (cache_is (λ c. is_owner c.role) d s) refl begins.1 in
        let fit = fits_at d n p kn c (core w c) (m c) entry s pl (omega (arith, last, behind)) (omega (arith, low_entry)) (λ j lo hi. hd.quiet j lo (omega (arith, hi, late))) (inr (omega (arith, last))) lv.state in
        let owns = owner_owns d (p.dir_entry entry) c s sh fit owner in
        let count = owner_counts d n (p.dir_entry entry) (p.at entry) sh (kn.handled entry low_entry) event (ap (who (p.dir_entry entry)) own ∙ owns) in
        let none = quiet_own g entry hd behind last late in
        let some = own_sends d p c entry own ∙ ap (λ a. own_message (p.at entry).event a (acks_needed (p.dir_entry entry) (p.at entry)) (suc entry)) count
        ∙ own_count (p.at entry).event (acks_needed (p.dir_entry entry) (p.at entry)) (suc entry) (λ z. let y : Store ≡ Evict = sym event ∙ z in cc) in
        cc (none, some)
      where
        is_ac : (b : Bool) → cache_is (λ c. is_owner c.role) d s ≡ b → Ac ≡ store_phase d s → b ≡ true
        is_ac true e h = refl
        is_ac false e h = absurd (let first : store_phase d s ≡ Ad = rw e refl in let x : Ac ≡ Ad = h ∙ first in cc)

    by : (g : ℕ) → IsHead d p c (m c) g (Forward f r i k) → IsSent d p c g f r i k → (x : Desc) (slot : Option SentRequest) → (not (is_stable x) && is_none slot) ≡ true → answers_it d x f ≡ true
        → IsLined d p c (core w c).line (m c) x slot → k < (m c).last
    by g hd fw (Stable s) slot pend answers h = cc
    by g hd fw (Ask e s ph t) (Some a) pend answers h = cc
    by g hd fw (Leave s) (Some a) pend answers h = cc
    by g hd fw (Leave s) None pend answers h = sides g hd fw Evict h.2 (λ entry last event late.
        let none = quiet_own g entry hd h.3 last late in
        let some = own_sends d p c entry (pl.last_own entry last) ∙ ap (λ e. own_message e (action_of d (p.dir_entry entry) (p.at entry)) (acks_needed (p.dir_entry entry) (p.at entry)) (suc entry)) event in cc (none, some))
    by g hd fw (Ask Load s ph t) None pend answers h = cc
    by g hd fw (Ask Evict s ph t) None pend answers h = cc
    by g hd fw (Ask Store s ph t) None pend answers h = asking (is_ahead ph t) refl h.1
      where
        not_ahead : (ph : Phase) (t : Tag) → is_ahead ph t ≡ true → answers_it d (Ask Store s ph t) f ≡ true → ph ≡ Ac ⊎ ⊥
        not_ahead D t a b = cc
        not_ahead Ad Plain a b = cc
        not_ahead Ad t a b = cc
        not_ahead Ac t a b = inl refl
        not_ahead A t a b = cc

        asking : (b : Bool) → is_ahead ph t ≡ b → IsAsking d p c (core w c).line (m c) Store s ph t b → k < (m c).last
        asking true lead a = elim (not_ahead ph t lead answers) [ inl is_ac ↦ absurd (let phase = subst (λ ph. Rattle.pg_orderly.specs.Orderly.IsPhase d Store s ph) is_ac a.phase in phase.1) | inr never ↦ absurd never ]
        asking false lead a = sides g hd fw Store a.2 (λ entry last event late. storing g hd fw s ph t answers a.0 a.1 a.3 entry last event late)

-- what is put off at a level line, and is no invalidation, comes after its own entry
pub put_off_after : (d : Draft) (n : ℕ) (w : World) (m : ℕ → Mark) (c : ℕ) (e : Event) (s : ℕ) (ph : Phase) (t : Tag) (f r i k : ℕ) (ms : List Ordered) → IsWellFormed d → IsShaped d → IsOrderly d n w m → c < n
    → (core w c).line.desc ≡ Ask e s ph t → (core w c).slot ≡ None → (core w c).queue ≡ Forward f r i k ∷ ms → has_class Inv d f ≡ false → IsFirstPhase ph → is_ahead ph t ≡ false → (m c).last < k
put_off_after d n w m c e s ph t f r i k ms wf sh o low desc slot queue not_inv first level =
    let (g, hd) = head_of d p c (core w c) (m c) (Forward f r i k) ms pl queue in
    by g hd (forward_is d p c g f r i k hd.sends) (lined (subst (λ x. IsLined d p c (core w c).line (m c) x (core w c).slot) desc pl.line))
  where
    p : DirOrder
    p = order_of d w

    kn : IsKnown d n p
    kn = known d n p wf sh o.past

    pl : IsPlaced d p c (core w c) (m c)
    pl = o.placed c low

    lined : IsLined d p c (core w c).line (m c) (Ask e s ph t) (core w c).slot → IsAsking d p c (core w c).line (m c) e s ph t false
    lined h = let at_none = subst (IsLined d p c (core w c).line (m c) (Ask e s ph t)) slot h in subst (IsAsking d p c (core w c).line (m c) e s ph t) level at_none.1

    by : (g : ℕ) → IsHead d p c (m c) g (Forward f r i k) → IsSent d p c g f r i k → IsAsking d p c (core w c).line (m c) e s ph t false → (m c).last < k
    by g hd fw a =
        let last = a.2.last in
        let stamp = fw.stamp in
        let inside = hd.inside in
        let apart : g ≢ a.2.entry = (λ same. let own = pl.last_own a.2.entry last in let is_own = eq-eqb (p.at g).core c (ap (λ j. (p.at j).core) same ∙ own) in let other = fw.other in cc (is_own, other)) in
        elim (side g a.2.entry (m c).last last apart) [
          | inr late ↦ omega (arith, late, last, stamp)
          | inl early ↦ absurd (
              let fit = fits_at d n p kn c (core w c) (m c) g s pl hd.from (omega (arith, inside)) hd.quiet (inr (omega (arith, early))) a.0.state in
              never e ph first a.1 fit)
        ]
      where
        never : (e : Event) (ph : Phase) → IsFirstPhase ph → MayBegin d e s ph → Rattle.pg_directory.specs.Sound.fits d (p.dir_entry g) c s ≡ true → ⊥
        never Load ph first begins fit = out_not_due d s f sh (is_same (out d) s begins.0) (sent_is_due d n (p.dir_entry g) (p.at g) c f s sh (kn.handled g hd.inside) fw.other fw.sends fit)
        never Store D first begins fit = store_waits_not d s begins.1
        never Store Ad first begins fit = elim (sent_is d n (p.dir_entry g) (p.at g) c f (kn.handled g hd.inside) fw.other fw.sends) [
          | inl owns ↦
              let owner = sh.lists.lists_owners (p.dir_entry g).dir s (ap (λ u. fits_as d (p.dir_entry g).dir u s) (sym owns) ∙ fit) in
              let ac : store_phase d s ≡ Ac = rw owner refl in let x : Ad ≡ Ac = begins.1 ∙ ac in cc
          | inr (shares, inv) ↦ cc (inv, not_inv)
        ]
        never Store Ac first begins fit = absurd first
        never Store A first begins fit = absurd first
        never Evict ph first begins fit = absurd begins
