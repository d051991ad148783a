-- The race law: each head of a queue has its row, and the row of one that isn't later than the operation of its core isn't the stall row.
use Rattle.std.proofs.Common.{◌≡◌, ◌≢◌, ℕ, suc, ◌<◌, ◌≤◌, arith, Bool, true, false, ◌&&◌, not, [], ◌∷◌, ◌++◌, Option, Some, None, refl, sym, ap, subst, ◌∙◌, ◌⊎◌, inl, inr}
use Rattle.std.specs.Prelude.{◌==◌, slice_get, if◌then◌else◌, is_some, is_none}
use Rattle.std.specs.List.{list_any}
use Rattle.std.proofs.lemmas.Option.{same_Some}
use Rattle.std.proofs.lemmas.Bool.{eq-eqb}
use Rattle.pg_perm.specs.declared.kinds.Event.{Event}
use Rattle.pg_perm.specs.declared.kinds.Event.TheVariants.{Load, Store, Evict}
use Rattle.pg_perm.specs.declared.kinds.FwdClass.TheVariants.{Inv, Share}
use Rattle.pg_perm.specs.declared.draft.Draft.{Draft}
use Rattle.pg_perm.specs.declared.draft.ReplyName.TheVariants as reply
use Rattle.pg_perm.specs.declared.draft.Action.TheVariants as action
use Rattle.pg_terms.specs.Terms.{is, is_owner, cache_is, out, shared, has_class}
use Rattle.pg_terms.specs.Due.{is_due}
use Rattle.pg_terms.specs.Rows.{allows, final_state}
use Rattle.pg_shape.specs.Shaped.{IsShaped}
use Rattle.pg_shape.proofs.Bools.{and_of_both}
use Rattle.pg_shape.proofs.Searches.{or_left, or_right}
use Rattle.pg_directory.specs.Sends.{forward_sent}
use Rattle.pg_directory.specs.Sound.{fits, fits_as}
use Rattle.pg_directory.specs.Requests.{action_of}
use Rattle.pg_directory.proofs.Holders.{is_same}
use Rattle.pg_table.specs.declared.cache.Desc.{Desc}
use Rattle.pg_table.specs.declared.cache.Desc.TheVariants.{Stable, Ask, Leave}
use Rattle.pg_table.specs.declared.cache.Phase.{Phase}
use Rattle.pg_table.specs.declared.cache.Phase.TheVariants.{D, Ad, Ac, A}
use Rattle.pg_table.specs.declared.cache.Tag.{Tag}
use Rattle.pg_table.specs.declared.cache.Tag.TheVariants.{Plain, Kept, Gave, Gone}
use Rattle.pg_table.specs.declared.cache.Input.{Input}
use Rattle.pg_table.specs.declared.cache.Input.TheVariants as at_input
use Rattle.pg_table.specs.declared.cache.Act.TheVariants as act
use Rattle.pg_table.specs.Descriptors.{end_under_tag, final_states, store_phase, out_state}
use Rattle.pg_table.specs.Choices.{Choice, only_choice, data_acts, answer_acts, answer_choices, is_later, is_earlier, earlier_choices, later_choices, choices}
use Rattle.pg_table.specs.DueInputs.{is_due_input}
use Rattle.pg_table.specs.Stalls.{is_stall}
use Rattle.pg_table.proofs.Lists.{slice_get_of_in}
use Rattle.pg_table.proofs.Finals.{final_in}
use Rattle.pg_table.proofs.Tags.{due_later_plain, due_later_kept}
use Rattle.pg_messages.specs.declared.messages.Ordered.{Ordered}
use Rattle.pg_messages.specs.declared.messages.Ordered.TheVariants.{Forward, AckCount, PutAck}
use Rattle.pg_order.specs.Messages.{sent_between}
use Rattle.pg_order.specs.Orders.{DirOrder, entry_message, acks_needed}
use Rattle.pg_order.proofs.Known.{IsKnown}
use Rattle.pg_order.proofs.Quiet.{unchanged, IsSent}
use Rattle.pg_order.proofs.Race.{sent_is}
use Rattle.pg_messages.specs.declared.messages.Ask.{Ask as SentRequest}
use Rattle.pg_controllers.specs.Networks.{Line, Core}
use Rattle.pg_controllers.specs.Lines.{ordered_input}
use Rattle.pg_controllers.specs.Worlds.{is_stable}
use Rattle.pg_orderly.specs.Orderly.{Mark, MayBegin, IsLevel, IsPhase, IsOrdered, IsAhead, is_ahead, IsAsking, IsLined, IsPlaced, is_storing, tag_from}
use Rattle.pg_orderly.proofs.Rows.{IsChosen, only_chosen, where_true, answers, ends_so}
use Rattle.pg_safe.proofs.Catch.{sent_is_due, granted_by}
use Rattle.pg_safe.proofs.Ends.{begins_lacks, phase_lacks, none_after, ahead_ends}
use Rattle.pg_safe.proofs.Heads.{IsHead, fits_at, own_last, from_whom, own_sends, own_asks, own_count, owner_counts, load_counts_not, out_not_due, owner_owns, tag_gave, in_between}

-- What moves

-- no choice lets the message wait
abbrev pub IsMoving : Draft → Desc → Input → Type 0
IsMoving d x i = (ch : Choice) → IsChosen (choices d x i) ch → list_any is_stall ch.acts ≡ false

-- a line meets a message: that may come, and early ones don't wait
pub record IsMet (d : Draft) (l : Line) (x : Desc) (q : Ordered) (early : Type 0) : Type 0 where
  pub due : is_due_input d x (ordered_input l q) ≡ true
  pub moves : early → IsMoving d x (ordered_input l q)

answer_moves : (d : Draft) (f : ℕ) (o : Option ℕ) → list_any is_stall (answer_acts d f o) ≡ false
answer_moves d f o = at (has_class Inv d f) (has_class Share d f) o
  where
    at : (a b : Bool) (o : Option ℕ) → list_any is_stall (if a then act.Ack ∷ [] else if b then data_acts o ++ act.Wb ∷ [] else data_acts o) ≡ false
    at true b o = refl
    at false true None = refl
    at false true (Some r) = refl
    at false false None = refl
    at false false (Some r) = refl

answered_moves : (d : Draft) (s f : ℕ) (onward : ℕ → Desc) (ch : Choice) → IsChosen (answer_choices d s f onward) ch → list_any is_stall ch.acts ≡ false
answered_moves d s f onward ch h = let a = answers d s f onward ch h in ap (list_any is_stall) a.acts ∙ answer_moves d f a.take.reply

by_answer : (d : Draft) (l : Line) (x : Desc) (s f r n k : ℕ) (q : Ordered) (onward : ℕ → Desc) (early : Type 0) → q ≡ Forward f r n k → choices d x (at_input.Forward f) ≡ answer_choices d s f onward
    → is_due_input d x (at_input.Forward f) ≡ true → IsMet d l x q early
by_answer d l x s f r n k q onward early is same due =
    subst (λ q. IsMet d l x q early) (sym is) (record { due = due; moves = λ e ch h. answered_moves d s f onward ch (subst (λ cs. IsChosen cs ch) same h) })

by_later : (d : Draft) (l : Line) (x : Desc) (f r n k : ℕ) (q : Ordered) (early : Type 0) → q ≡ Forward f r n k → is_due_input d x (at_input.Forward f) ≡ true → (early → ⊥) → IsMet d l x q early
by_later d l x f r n k q early is due never = subst (λ q. IsMet d l x q early) (sym is) (record { due = due; moves = λ e. absurd (never e) })

-- Phases

pub plain_of : (ph : Phase) (t : Tag) → is_ahead ph t ≡ false → t ≡ Plain
plain_of A t h = cc
plain_of ph Plain h = refl
plain_of _ _ h = cc

pub store_waits_not : (d : Draft) (s : ℕ) → D ≡ store_phase d s → ⊥
store_waits_not d s h = at (cache_is (λ c. is_owner c.role) d s) h
  where
    at : (b : Bool) → D ≡ (if b then Ac else Ad) → ⊥
    at true h = cc
    at false h = cc

phase_later : (d : Draft) (e : Event) (s : ℕ) (ph : Phase) (t : Tag) (f : ℕ) → IsPhase d e s ph → is_later d s e t f ≡ true → is_due_input d (Ask e s ph t) (at_input.Forward f) ≡ true
phase_later d Load s D t f h l = l
phase_later d Load s Ad t f h l = let x = h.0.1 in cc
phase_later d Load s Ac t f h l = absurd h.1
phase_later d Load s A t f h l = let x = h.0 in cc
phase_later d Store s D t f h l = absurd (store_waits_not d s h.0.1)
phase_later d Store s Ad t f h l = or_left (is_later d s Store t f) (is_earlier d s t f && is_due d s f) l
phase_later d Store s Ac t f h l = absurd h.1
phase_later d Store s A t f h l = l
phase_later d Evict s D t f h l = absurd h.0
phase_later d Evict s Ad t f h l = absurd h.0
phase_later d Evict s Ac t f h l = absurd h.0
phase_later d Evict s A t f h l = let x = h.0 in cc

-- A forward that is later than the operation of a level line may come there

late_due : (d : Draft) (n : ℕ) (p : DirOrder) → IsShaped d → IsKnown d n p → (c : ℕ) (x : Core) (m : Mark) (g s : ℕ) (e : Event) (entry f : ℕ) → IsPlaced d p c x m → g < p.top
    → ((j : ℕ) → m.seen ≤ j → j < g → entry_message d p c j ≡ None) → m.seen < m.last → m.last ≡ suc entry → entry < g → (p.at entry).event ≡ e → e ≢ Evict → cache_is (allows e) d s ≡ false
    → fits d (p.dir_entry m.seen) c s ≡ true → ((p.at g).core == c) ≡ false → forward_sent d (p.dir_entry g) (p.at g) c ≡ Some f → is_later d s e Plain f ≡ true
late_due d n p sh k c x m g s e entry f pl inside quiet behind last later event asks lacks fit ne sends =
    let from : m.seen ≤ entry = omega (arith, behind, last) in
    let fit_entry = fits_at d n p k c x m entry s pl from (omega (arith, later, inside)) (λ j lo hi. quiet j lo (omega (arith, hi, later))) (inr (omega (arith, last))) fit in
    let (name, reply) = (k.handled entry (omega (arith, later, inside))).replied (λ h. asks (sym event ∙ h)) in
    let (fin, ends, fit_fin) = granted_by d n p k c entry s e name (omega (arith, later, inside)) (pl.last_own entry last) event asks fit_entry lacks reply in
    let fit_g = (unchanged d n p k c (suc entry) g later (omega (arith, inside)) (none_after d p c x m pl (suc entry) g (omega (arith, last)) (omega (arith, inside)))
    (λ j lo hi. quiet j (omega (arith, lo, from)) hi)).fits fin fit_fin in
    let due = sent_is_due d n (p.dir_entry g) (p.at g) c f fin sh (k.handled g inside) ne sends fit_g in
    let (place, get) = slice_get_of_in (final_states d s e) fin (final_in d s e name fin ends) in
    due_later_plain d s e place fin f get due

-- A store that is level is answered where the forward comes before it

store_early : (d : Draft) (n : ℕ) (p : DirOrder) → IsShaped d → IsKnown d n p → (c g s : ℕ) (l : Line) (q : Ordered) (f r i k2 : ℕ) (early : Type 0) → g < p.top → q ≡ Forward f r i k2 → IsSent d p c g f r i k2
    → fits d (p.dir_entry g) c s ≡ true → IsMet d l (Ask Store s (store_phase d s) Plain) q early
store_early d n p sh k c g s l q f r i k2 early inside is_it fw fit = at (cache_is (λ c. is_owner c.role) d s) refl
  where
    due : is_due d s f ≡ true
    due = sent_is_due d n (p.dir_entry g) (p.at g) c f s sh (k.handled g inside) fw.other fw.sends fit

    at : (b : Bool) → cache_is (λ c. is_owner c.role) d s ≡ b → IsMet d l (Ask Store s (if b then Ac else Ad) Plain) q early
    at true owner = by_answer d l (Ask Store s Ac Plain) s f r i k2 q (λ t. Ask Store t (store_phase d t) Plain) early is_it refl due
    at false owner =
        let before : is_earlier d s Plain f ≡ true = elim (sent_is d n (p.dir_entry g) (p.at g) c f (k.handled g inside) fw.other fw.sends) [
          | inl owns ↦ absurd (let own = sh.lists.lists_owners (p.dir_entry g).dir s (ap (λ w. fits_as d (p.dir_entry g).dir w s) (sym owns) ∙ fit) in cc (own, owner))
          | inr (shares, inv) ↦ and_of_both (is (shared d) s) (has_class Inv d f) (ap (λ w. fits_as d (p.dir_entry g).dir w s) (sym shares) ∙ fit) inv
        ] in
        by_answer d l (Ask Store s Ad Plain) s f r i k2 q (λ t. Ask Store t (store_phase d t) Plain) early is_it
        (ap (λ (b : Bool). if b then earlier_choices d s f else later_choices d s Store Ad Plain f) before)
        (or_right (is_later d s Store Plain f) (is_earlier d s Plain f && is_due d s f) (and_of_both (is_earlier d s Plain f) (is_due d s f) before due))

-- All lines

-- at an idle line nothing comes but a forward, which is due
pub record IsIdleMet (d : Draft) (p : DirOrder) (c g s : ℕ) (q : Ordered) : Type 0 where
  pub f : ℕ
  pub r : ℕ
  pub i : ℕ
  pub k : ℕ
  pub is_it : q ≡ Forward f r i k
  pub fw : IsSent d p c g f r i k
  pub fit : fits d (p.dir_entry g) c s ≡ true
  pub due : is_due d s f ≡ true

idle : (d : Draft) (n : ℕ) (p : DirOrder) → IsShaped d → IsKnown d n p → (c : ℕ) (x : Core) (m : Mark) (g : ℕ) (q : Ordered) (s : ℕ) → IsPlaced d p c x m → IsHead d p c m g q → m.last ≤ m.seen
    → fits d (p.dir_entry m.seen) c s ≡ true → IsIdleMet d p c g s q
idle d n p sh k c x m g q s pl hd low fit = elim (from_whom d p c g q hd.sends) [
  | inl (own, e) ↦ absurd (let last = own_last d p c x m g pl hd.from hd.inside own in let from = hd.from in omega (arith, last, low, from))
  | inr (f, r, i, k2, is, fw) ↦
      let inside = hd.inside in
      let fit_g = fits_at d n p k c x m g s pl hd.from (omega (arith, inside)) hd.quiet (inl low) fit in
      record { f = f; r = r; i = i; k = k2; is_it = is; fw = fw; fit = fit_g; due = sent_is_due d n (p.dir_entry g) (p.at g) c f s sh (k.handled g hd.inside) fw.other fw.sends fit_g }
]

-- before and after its own entry
side : (g entry last : ℕ) → last ≡ suc entry → (suc g ≤ last) ⊎ (entry < g)
side g entry last e = search arith

pub meets : (d : Draft) (n : ℕ) (p : DirOrder) → IsShaped d → IsKnown d n p → (c : ℕ) (xc : Core) (m : Mark) → IsPlaced d p c xc m → (g : ℕ) (q : Ordered) → IsHead d p c m g q → (x : Desc) (slot : Option SentRequest)
    → IsLined d p c xc.line m x slot
    → ((not (is_stable x) && is_none slot) ≡ true → (j f r i k2 : ℕ) → m.last ≤ j → j < p.top → entry_message d p c j ≡ Some (Forward f r i k2) → has_class Share d f ≡ true → suc j ≡ p.top)
    → ((not (is_stable x) && is_none slot) ≡ true → is_storing x ≡ true → (j : ℕ) → m.last ≡ suc j → acks_needed (p.dir_entry j) (p.at j) ≢ xc.line.got → is_some (shared d) ≡ true)
    → IsMet d xc.line x q ((not (is_stable x) && is_none slot) ≡ true → suc g ≤ m.last)
meets d n p sh k c xc m pl g q hd (Stable s) None h shares short =
    let a = idle d n p sh k c xc m g q s pl hd h.2 h.0.state in by_answer d xc.line (Stable s) s a.f a.r a.i a.k q (λ t. Stable t) _ a.is_it refl a.due
meets d n p sh k c xc m pl g q hd (Stable s) (Some a) h shares short = absurd h
meets d n p sh k c xc m pl g q hd (Leave s) (Some _) h shares short =
    let a = idle d n p sh k c xc m g q s pl hd h.3 h.1.state in by_answer d xc.line (Leave s) s a.f a.r a.i a.k q (λ t. Leave t) _ a.is_it refl a.due
meets d n p sh k c xc m pl g q hd (Ask Load s ph t) (Some _) h shares short =
    let a = idle d n p sh k c xc m g q s pl hd h.5 h.1.state in absurd (out_not_due d s a.f sh (is_same (out d) s h.2.0) a.due)
meets d n p sh k c xc m pl g q hd (Ask Store s ph t) (Some o) h shares short =
    let a = idle d n p sh k c xc m g q s pl hd h.5 h.1.state in
    subst (λ ph. IsMet d xc.line (Ask Store s ph t) q ((not (is_stable (Ask Store s ph t)) && is_none (Some o)) ≡ true → suc g ≤ m.last)) (sym h.2.1)
    (subst (λ t. IsMet d xc.line (Ask Store s (store_phase d s) t) q ((not (is_stable (Ask Store s (store_phase d s) t)) && is_none (Some o)) ≡ true → suc g ≤ m.last)) (sym h.3)
    (store_early d n p sh k c g s xc.line q a.f a.r a.i a.k _ hd.inside a.is_it a.fw a.fit))
meets d n p sh k c xc m pl g q hd (Ask Evict s ph t) (Some _) h shares short = absurd h.2
meets d n p sh k c xc m pl g q hd (Leave s) None h shares short = elim (from_whom d p c g q hd.sends) [
  | inl (own, e) ↦
      let last = own_last d p c xc m g pl hd.from hd.inside own in
      let o = h.2.last in
      let same : h.2.entry ≡ g = omega (arith, last, o) in
      let evict : (p.at g).event ≡ Evict = subst (λ j. (p.at j).event ≡ Evict) same h.2.event in
      let is : q ≡ PutAck (suc g) = (let e2 = rw evict at e in cc) in
      subst (λ q. IsMet d xc.line (Leave s) q (true ≡ true → suc g ≤ m.last)) (sym is) (record { due = refl; moves = λ early ch h. ap (λ (c : Choice). list_any is_stall c.acts) (only_chosen (record { acts = act.Done ∷ []; next = Stable (out_state d) }) ch h) })
  | inr (f, r, i, k2, is, fw) ↦
      let last = h.2.last in
      let behind = h.3 in
      let inside = hd.inside in
      elim (side g h.2.entry m.last last) [
        | inl early ↦
            let fit_g = fits_at d n p k c xc m g s pl hd.from (omega (arith, inside)) hd.quiet (inr early) h.1.state in
            by_answer d xc.line (Leave s) s f r i k2 q (λ t. Leave t) _ is refl (sent_is_due d n (p.dir_entry g) (p.at g) c f s sh (k.handled g hd.inside) fw.other fw.sends fit_g)
        | inr late ↦ absurd (let none = hd.quiet h.2.entry (omega (arith, last, behind)) late in
            let some = own_sends d p c h.2.entry (pl.last_own h.2.entry last) ∙ ap (λ e. Rattle.pg_order.specs.Orders.own_message e (action_of d (p.dir_entry h.2.entry) (p.at h.2.entry)) (acks_needed (p.dir_entry h.2.entry) (p.at h.2.entry)) (suc h.2.entry)) h.2.event in
            cc (none, some))
      ]
]
meets d n p sh k c xc m pl g q hd (Ask e s ph t) None h shares short = by (is_ahead ph t) refl h.1
  where
    early : Type 0
    early = true ≡ true → suc g ≤ m.last

    ahead : IsAhead d p c xc.line m e s ph t → IsMet d xc.line (Ask e s ph t) q early
    ahead a = elim (from_whom d p c g q hd.sends) [
      | inl (own, z) ↦ absurd (let last = own_last d p c xc m g pl hd.from hd.inside own in let from = hd.from in let upto = a.upto in omega (arith, last, from, upto))
      | inr (f, r, i, k2, is, fw) ↦
          let last = a.ordered.last in
          let low = pl.last_low in
          let upto = a.upto in
          let from = hd.from in
          let inside = hd.inside in
          let (asks, lacks) = phase_lacks d e s ph sh a.phase in
          let (name, reply) = (k.handled a.ordered.entry (omega (arith, last, low))).replied (λ z. asks (sym a.ordered.event ∙ z)) in
          let end = ahead_ends d n p sh k c xc m xc.line e s ph t pl a name reply in
          let fit_g = fits_at d n p k c xc m g end.state pl hd.from (omega (arith, inside)) hd.quiet (inl (omega (arith, upto))) end.fits in
          let due = sent_is_due d n (p.dir_entry g) (p.at g) c f end.state sh (k.handled g hd.inside) fw.other fw.sends fit_g in
          let (place, get) = slice_get_of_in (final_states d s e) end.fin (final_in d s e name end.fin end.ends) in
          by_later d xc.line (Ask e s ph t) f r i k2 q early is
          (phase_later d e s ph t f a.phase (by_tag f end.fin end.state place get t end.told a.tag due))
          (λ z. let is_early = z refl in omega (arith, is_early, from, upto))
    ]
      where
        by_tag : (f fin y place : ℕ) → slice_get (final_states d s e) place ≡ Some fin → (u : Tag) → end_under_tag d fin u ≡ Some y → tag_from d Plain (sent_between (entry_message d p c) m.last a.past) ≡ Some u → is_due d y f ≡ true
            → is_later d s e u f ≡ true
        by_tag f fin y place get Plain told tag due = due_later_plain d s e place fin f get (subst (λ y. is_due d y f ≡ true) (sym (same_Some fin y told)) due)
        by_tag f fin y place get Kept told tag due = due_later_kept d s e place fin y f get told due
        by_tag f fin y place get Gone told tag due = absurd (out_not_due d y f sh (is_same (out d) y told) due)
        by_tag f fin y place get Gave told tag due = elim (tag_gave d Plain (sent_between (entry_message d p c) m.last a.past) tag) [
          | inl no_tag ↦ cc
          | inr (f2, r2, n2, k2, among, share) ↦ absurd (
              let (j, lo, hi, sends) = in_between (entry_message d p c) m.last a.past (Forward f2 r2 n2 k2) among in
              let upto = a.upto in
              let from = hd.from in
              let inside = hd.inside in
              let end = shares refl j f2 r2 n2 k2 lo (omega (arith, hi, upto, from, inside)) sends share in
              omega (arith, end, hi, upto, from, inside))
        ]

    by : (b : Bool) → is_ahead ph t ≡ b → IsAsking d p c xc.line m e s ph t b → IsMet d xc.line (Ask e s ph t) q early
    by true is a = ahead a
    by false is a = level e (plain_of ph t is) ph a.0 a.1 a.2 a.3 short
      where
        level : (e : Event) → t ≡ Plain → (ph : Phase) → IsLevel d p c xc.line m s → MayBegin d e s ph → IsOrdered p m e → m.seen < m.last
            → (true ≡ true → is_storing (Ask e s ph t) ≡ true → (j : ℕ) → m.last ≡ suc j → acks_needed (p.dir_entry j) (p.at j) ≢ xc.line.got → is_some (shared d) ≡ true)
            → IsMet d xc.line (Ask e s ph t) q (true ≡ true → suc g ≤ m.last)
        level Load plain ph lv begins o behind short =
            subst (λ ph. IsMet d xc.line (Ask Load s ph t) q (true ≡ true → suc g ≤ m.last)) (sym begins.1) (elim (from_whom d p c g q hd.sends) [
              | inl (own, z) ↦ absurd (
                  let last = own_last d p c xc m g pl hd.from hd.inside own in
                  let at_it = o.last in
                  let same : o.entry ≡ g = omega (arith, last, at_it) in
                  let load : (p.at g).event ≡ Load = subst (λ j. (p.at j).event ≡ Load) same o.event in
                  load_counts_not d n (p.dir_entry g) (p.at g) (k.handled g hd.inside) (k.past.legal g hd.inside) load
                  (own_asks (p.at g).event (action_of d (p.dir_entry g) (p.at g)) (acks_needed (p.dir_entry g) (p.at g)) (suc g) q (λ z. let y : Load ≡ Evict = sym load ∙ z in cc) z).0)
              | inr (f, r, i, k2, is, fw) ↦
                  let inside = hd.inside in
                  let last = o.last in
                  elim (side g o.entry m.last last) [
                    | inl early ↦ absurd (
                        let fit_g = fits_at d n p k c xc m g s pl hd.from (omega (arith, inside)) hd.quiet (inr early) lv.state in
                        out_not_due d s f sh (is_same (out d) s begins.0) (sent_is_due d n (p.dir_entry g) (p.at g) c f s sh (k.handled g hd.inside) fw.other fw.sends fit_g))
                    | inr late ↦ by_later d xc.line (Ask Load s D t) f r i k2 q (true ≡ true → suc g ≤ m.last) is
                        (subst (λ t. is_later d s Load t f ≡ true) (sym plain)
                        (late_due d n p sh k c xc m g s Load o.entry f pl hd.inside hd.quiet behind last late o.event (λ z. cc) (begins_lacks d Load s ph sh begins).1 lv.state fw.other fw.sends))
                        (λ z. let is_early = z refl in omega (arith, is_early, last, late))
                  ]
            ])
        level Store plain ph lv begins o behind short =
            subst (λ ph. IsMet d xc.line (Ask Store s ph t) q (true ≡ true → suc g ≤ m.last)) (sym begins.1)
            (subst (λ t. IsMet d xc.line (Ask Store s (store_phase d s) t) q (true ≡ true → suc g ≤ m.last)) (sym plain) (elim (from_whom d p c g q hd.sends) [
              | inl (own, z) ↦
                  let last = own_last d p c xc m g pl hd.from hd.inside own in
                  let at_it = o.last in
                  let same : o.entry ≡ g = omega (arith, last, at_it) in
                  let store : (p.at g).event ≡ Store = subst (λ j. (p.at j).event ≡ Store) same o.event in
                  let (count, is) = own_asks (p.at g).event (action_of d (p.dir_entry g) (p.at g)) (acks_needed (p.dir_entry g) (p.at g)) (suc g) q (λ z. let y : Store ≡ Evict = sym store ∙ z in cc) z in
                  counted own last count is
              | inr (f, r, i, k2, is, fw) ↦
                  let inside = hd.inside in
                  let last = o.last in
                  elim (side g o.entry m.last last) [
                    | inl early ↦
                        let fit_g = fits_at d n p k c xc m g s pl hd.from (omega (arith, inside)) hd.quiet (inr early) lv.state in
                        store_early d n p sh k c g s xc.line q f r i k2 _ hd.inside is fw fit_g
                    | inr late ↦ after_it f r i k2 is fw late (cache_is (λ c. is_owner c.role) d s) refl
                  ]
            ]))
          where
            after_it : (f r i k2 : ℕ) → q ≡ Forward f r i k2 → IsSent d p c g f r i k2 → o.entry < g → (b : Bool) → cache_is (λ c. is_owner c.role) d s ≡ b
                → IsMet d xc.line (Ask Store s (if b then Ac else Ad) Plain) q (true ≡ true → suc g ≤ m.last)
            after_it f r i k2 is fw late false not_owner =
                let last = o.last in
                by_later d xc.line (Ask Store s Ad Plain) f r i k2 q (true ≡ true → suc g ≤ m.last) is
                (or_left (is_later d s Store Plain f) (is_earlier d s Plain f && is_due d s f)
                (late_due d n p sh k c xc m g s Store o.entry f pl hd.inside hd.quiet behind last late o.event (λ z. cc) begins.0 lv.state fw.other fw.sends))
                (λ z. let is_early = z refl in omega (arith, is_early, last, late))
            after_it f r i k2 is fw late true owner = absurd (
                let last = o.last in
                let inside = hd.inside in
                let from : m.seen ≤ o.entry = omega (arith, last, behind) in
                let own = pl.last_own o.entry last in
                let low : o.entry < p.top = omega (arith, late, inside) in
                let fit_entry = fits_at d n p k c xc m o.entry s pl from (omega (arith, low)) (λ j lo hi. hd.quiet j lo (omega (arith, hi, late))) (inr (omega (arith, last))) lv.state in
                let owns = owner_owns d (p.dir_entry o.entry) c s sh fit_entry owner in
                let count = owner_counts d n (p.dir_entry o.entry) (p.at o.entry) sh (k.handled o.entry low) o.event (ap (Rattle.pg_directory.specs.DirEntries.who (p.dir_entry o.entry)) own ∙ owns) in
                let none = hd.quiet o.entry from late in
                let some = own_sends d p c o.entry own ∙ ap (λ a. Rattle.pg_order.specs.Orders.own_message (p.at o.entry).event a (acks_needed (p.dir_entry o.entry) (p.at o.entry)) (suc o.entry)) count
                ∙ own_count (p.at o.entry).event (acks_needed (p.dir_entry o.entry) (p.at o.entry)) (suc o.entry) (λ z. let y : Store ≡ Evict = sym o.event ∙ z in cc) in
                cc (none, some))

            counted : (p.at g).core ≡ c → m.last ≡ suc g → action_of d (p.dir_entry g) (p.at g) ≡ Some action.Count → q ≡ AckCount (acks_needed (p.dir_entry g) (p.at g)) (suc g)
                → IsMet d xc.line (Ask Store s (store_phase d s) Plain) q (true ≡ true → suc g ≤ m.last)
            counted own last count is =
                let inside = hd.inside in
                let fit_g = fits_at d n p k c xc m g s pl hd.from (omega (arith, inside)) hd.quiet (inr (omega (arith, last))) lv.state in
                let owns = (k.handled g hd.inside).counted count in
                let listed = ap (λ w. fits_as d (p.dir_entry g).dir w s) (sym (ap (Rattle.pg_directory.specs.DirEntries.who (p.dir_entry g)) (sym own) ∙ owns)) ∙ fit_g in
                let owner = sh.lists.lists_owners (p.dir_entry g).dir s listed in
                let phase : store_phase d s ≡ Ac = rw owner refl in
                subst (λ q. IsMet d xc.line (Ask Store s (store_phase d s) Plain) q (true ≡ true → suc g ≤ m.last)) (sym is)
                (subst (λ ph. IsMet d xc.line (Ask Store s ph Plain) (AckCount (acks_needed (p.dir_entry g) (p.at g)) (suc g)) (true ≡ true → suc g ≤ m.last)) (sym phase)
                (all (acks_needed (p.dir_entry g) (p.at g) == xc.line.got) refl))
              where
                moves_all : (ch : Choice) → IsChosen (choices d (Ask Store s Ac Plain) at_input.CountAll) ch → list_any is_stall ch.acts ≡ false
                moves_all ch h = let e = ends_so d Plain [] (final_state d s Store reply.AckCount) ch h in ap (list_any is_stall) e.acts

                moves_part : (ch : Choice) → IsChosen (choices d (Ask Store s Ac Plain) at_input.CountPart) ch → list_any is_stall ch.acts ≡ false
                moves_part ch h =
                    let (there, h) = where_true (is_some (shared d)) (only_choice (act.Need ∷ []) (Ask Store s A Plain)) ch h in
                    ap (λ (c : Choice). list_any is_stall c.acts) (only_chosen (record { acts = act.Need ∷ []; next = Ask Store s A Plain }) ch h)

                all : (b : Bool) → (acks_needed (p.dir_entry g) (p.at g) == xc.line.got) ≡ b → IsMet d xc.line (Ask Store s Ac Plain) (AckCount (acks_needed (p.dir_entry g) (p.at g)) (suc g)) (true ≡ true → suc g ≤ m.last)
                all true same = record {
                  due = ap (λ (b : Bool). is_due_input d (Ask Store s Ac Plain) (if b then at_input.CountAll else at_input.CountPart)) same;
                  moves = λ e ch h. moves_all ch (subst (λ (b : Bool). IsChosen (choices d (Ask Store s Ac Plain) (if b then at_input.CountAll else at_input.CountPart)) ch) same h);
                }
                all false ne = record {
                  due = ap (λ (b : Bool). is_due_input d (Ask Store s Ac Plain) (if b then at_input.CountAll else at_input.CountPart)) ne ∙ short refl refl g last (λ z. let same_it = eq-eqb (acks_needed (p.dir_entry g) (p.at g)) xc.line.got z in cc (same_it, ne));
                  moves = λ e ch h. moves_part ch (subst (λ (b : Bool). IsChosen (choices d (Ask Store s Ac Plain) (if b then at_input.CountAll else at_input.CountPart)) ch) ne h);
                }
        level Evict plain ph lv begins o behind short = absurd begins
