-- How the operation of a line that is ahead may end: in a state that its tag tells, which fits where it has caught up.
use Rattle.std.proofs.Common.{◌≡◌, ◌≢◌, ℕ, suc, ◌<◌, ◌≤◌, arith, Bool, true, false, Some, refl, sym, subst, ◌∙◌, ◌⊎◌, inl, inr}
use Rattle.std.specs.Prelude.{◌==◌}
use Rattle.std.proofs.lemmas.Bool.{eqb-true}
use Rattle.pg_perm.specs.declared.kinds.Event.{Event}
use Rattle.pg_perm.specs.declared.kinds.Event.TheVariants.{Load, Store, Evict}
use Rattle.pg_perm.specs.declared.draft.Draft.{Draft}
use Rattle.pg_perm.specs.declared.draft.ReplyName.{ReplyName}
use Rattle.pg_terms.specs.Terms.{cache_is, out}
use Rattle.pg_terms.specs.Rows.{allows, final_state}
use Rattle.pg_shape.specs.Shaped.{IsShaped}
use Rattle.pg_directory.specs.Sound.{fits}
use Rattle.pg_directory.specs.Requests.{IsReply}
use Rattle.pg_directory.proofs.Holders.{is_same}
use Rattle.pg_atomic.proofs.Fits.{out_loads}
use Rattle.pg_table.specs.declared.cache.Phase.{Phase}
use Rattle.pg_table.specs.declared.cache.Phase.TheVariants.{D, Ad, Ac, A}
use Rattle.pg_table.specs.declared.cache.Tag.{Tag}
use Rattle.pg_table.specs.declared.cache.Tag.TheVariants.{Plain}
use Rattle.pg_table.specs.Descriptors.{end_under_tag}
use Rattle.pg_order.specs.Messages.{sent_between}
use Rattle.pg_order.specs.Orders.{DirOrder, entry_message}
use Rattle.pg_order.proofs.Known.{IsKnown}
use Rattle.pg_controllers.specs.Networks.{Line, Core}
use Rattle.pg_orderly.specs.Orderly.{Mark, MayBegin, IsPhase, IsAhead, IsPlaced}
use Rattle.pg_orderly.proofs.TagReplay.{tag_replays}
use Rattle.pg_safe.proofs.Catch.{catch_up, granted_by}

-- an operation that begins so lacks the permission, and is no evict
pub begins_lacks : (d : Draft) (e : Event) (s : ℕ) (ph : Phase) → IsShaped d → MayBegin d e s ph → (e ≢ Evict) × (cache_is (allows e) d s ≡ false)
begins_lacks d Load s ph sh h = (λ e. cc, out_loads d sh s (is_same (out d) s h.0))
begins_lacks d Store s ph sh h = (λ e. cc, h.0)
begins_lacks d Evict s ph sh h = absurd h

pub phase_lacks : (d : Draft) (e : Event) (s : ℕ) (ph : Phase) → IsShaped d → IsPhase d e s ph → (e ≢ Evict) × (cache_is (allows e) d s ≡ false)
phase_lacks d e s D sh h = begins_lacks d e s D sh h.0
phase_lacks d e s Ad sh h = begins_lacks d e s Ad sh h.0
phase_lacks d e s Ac sh h = begins_lacks d e s Ac sh h.0
phase_lacks d e s A sh h = (λ is. let x : Evict ≡ Store = sym is ∙ h.0 in cc, subst (λ e. cache_is (allows e) d s ≡ false) (sym h.0) h.1)

-- no entry from its last one on is its own
pub none_after : (d : Draft) (p : DirOrder) (c : ℕ) (x : Core) (m : Mark) → IsPlaced d p c x m → (a b : ℕ) → m.last ≤ a → b ≤ p.top → (j : ℕ) → a ≤ j → j < b → ((p.at j).core == c) ≡ false
none_after d p c x m pl a b low upto j lo hi = at ((p.at j).core == c) refl
  where
    at : (t : Bool) → ((p.at j).core == c) ≡ t → ((p.at j).core == c) ≡ false
    at false ne = ne
    at true own = let last = pl.last_is j (omega (arith, hi, upto)) (eqb-true (p.at j).core c own) in absurd (omega (arith, last, low, lo))

-- none in a stretch that it hasn't seen is its own but its last one, where that is still ahead of it
pub none_before : (d : Draft) (p : DirOrder) (c : ℕ) (x : Core) (m : Mark) → IsPlaced d p c x m → (g : ℕ) → g ≤ p.top → (m.last ≤ m.seen) ⊎ (suc g ≤ m.last) → (j : ℕ) → m.seen ≤ j → j < g → ((p.at j).core == c) ≡ false
none_before d p c x m pl g upto (inl low) j lo hi = none_after d p c x m pl m.seen g low upto j lo hi
none_before d p c x m pl g upto (inr early) j lo hi = at ((p.at j).core == c) refl
  where
    at : (t : Bool) → ((p.at j).core == c) ≡ t → ((p.at j).core == c) ≡ false
    at false ne = ne
    at true own = let viewed = pl.gap j (omega (arith, hi, early)) (eqb-true (p.at j).core c own) in absurd (omega (arith, viewed, lo))

pub record IsEnding (d : Draft) (p : DirOrder) (c seen : ℕ) (e : Event) (s : ℕ) (t : Tag) (name : ReplyName) : Type 0 where
  pub fin : ℕ
  pub ends : final_state d s e name ≡ Some fin
  pub state : ℕ
  pub told : end_under_tag d fin t ≡ Some state
  pub fits : fits d (p.dir_entry seen) c state ≡ true

pub ahead_ends : (d : Draft) (n : ℕ) (p : DirOrder) → IsShaped d → IsKnown d n p → (c : ℕ) (x : Core) (m : Mark) (l : Line) (e : Event) (s : ℕ) (ph : Phase) (t : Tag) → IsPlaced d p c x m
    → (a : IsAhead d p c l m e s ph t) → (name : ReplyName) → IsReply d (p.dir_entry a.ordered.entry) (p.at a.ordered.entry) name → IsEnding d p c m.seen e s t name
ahead_ends d n p sh k c x m l e s ph t pl a name reply =
    let last = a.ordered.last in
    let low = pl.last_low in
    let upto = a.upto in
    let rest = pl.upto in
    let (asks, lacks) = phase_lacks d e s ph sh a.phase in
    let (fin, ends, fit) = granted_by d n p k c a.ordered.entry s e name (omega (arith, last, low)) (pl.last_own a.ordered.entry last) a.ordered.event asks a.state lacks reply in
    let caught = catch_up d n p sh k c fin m.last a.past m.seen upto (omega (arith, rest)) (subst (λ j. fits d (p.dir_entry j) c fin ≡ true) (sym last) fit)
    (none_after d p c x m pl m.last m.seen (omega arith) (omega (arith, rest))) in
    record { fin = fin; ends = ends; state = caught.state; told = tag_replays d sh fin fin caught.state Plain t (sent_between (entry_message d p c) m.last a.past) a.tag refl caught.leads; fits = caught.fits }
