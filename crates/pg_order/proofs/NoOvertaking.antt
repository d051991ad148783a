-- No overtaking: what is ordered after a fresh grant of ownership is stale, or isn't served yet.
use Rattle.std.proofs.Common.{◌≡◌, ℕ, zero, suc, ◌<◌, ◌≤◌, Bool, true, false, ◌&&◌, ◌||◌, [], Option, Some, None, refl, sym, ap, subst, ◌∙◌, ◌⊎◌, inl, inr, arith}
use Rattle.std.specs.Prelude.{◌==◌, nat_lt, is_some}
use Rattle.std.proofs.lemmas.Bool.{eqb-true, lt-ltb}
use Rattle.pg_perm.specs.declared.kinds.Who.TheVariants.{Other, Owner}
use Rattle.pg_perm.specs.declared.draft.Draft.{Draft}
use Rattle.pg_perm.specs.Drafts.{IsWellFormed}
use Rattle.pg_shape.specs.Shaped.{IsShaped}
use Rattle.pg_directory.specs.DirEntries.{DirEntry, who, entry_after}
use Rattle.pg_directory.specs.Kinds.{HasOwner}
use Rattle.pg_directory.proofs.Holders.{who_of_owner}
use Rattle.pg_order.specs.Orders.{DirOrder, IsDirOrder, is_stale, passed_forward}
use Rattle.pg_order.specs.Views.{View, is_open_at, is_unserved, IsWaiting, IsFresh}
use Rattle.pg_order.proofs.Known.{IsKnown, known}
use Rattle.pg_order.proofs.OneEntry.{stale_changes_nothing, still_nothing, goes_to_owner, owner_stays}

-- a core has an entry that isn't stale, from number g on and below j
abbrev pub Entered : DirOrder → ℕ → ℕ → ℕ → Type 0
Entered p g j c = (x : ℕ) × (g ≤ x) × (x < j) × ((p.at x).core ≡ c) × (is_stale (p.dir_entry x) (p.at x) ≡ false)

abbrev pub Holder : DirOrder → ℕ → ℕ → ℕ → ℕ → Type 0
Holder p g c j e = (who (p.dir_entry j) e ≡ Other) ⊎ ((e ≡ c) ⊎ Entered p g j e)

at_grant : (s : DirEntry) (c e : ℕ) → s.owner ≡ Some c → s.sharers ≡ [] → (who s e ≡ Other) ⊎ (e ≡ c)
at_grant s c e owner alone = at (c == e) refl
  where
    at : (b : Bool) → (c == e) ≡ b → (who s e ≡ Other) ⊎ (e ≡ c)
    at true h = inr (sym (eqb-true c e h))
    at false h = inl (rw (owner, alone, h) refl)

more : (p : DirOrder) (g c j e : ℕ) → Holder p g c j e → (who (p.dir_entry j) e ≡ Other → who (p.dir_entry (suc j)) e ≡ Other) → Holder p g c (suc j) e
more p g c j e (inl none) keep = inl (keep none)
more p g c j e (inr (inl same)) keep = inr (inl same)
more p g c j e (inr (inr (x, from, low, own, live))) keep = inr (inr (x, from, omega (arith, low), own, live))

holder_step : (d : Draft) (n : ℕ) (p : DirOrder) → IsKnown d n p → (g c j e : ℕ) → j < p.top → g ≤ j → Holder p g c j e → Holder p g c (suc j) e
holder_step d n p k g c j e low from before = at ((p.at j).core == e) refl
  where
    step : entry_after d (p.dir_entry j) (p.at j) ≡ p.dir_entry (suc j)
    step = sym (k.past.follows j low)

    own : (p.at j).core ≡ e → (b : Bool) → is_stale (p.dir_entry j) (p.at j) ≡ b → Holder p g c (suc j) e
    own mine true stale = more p g c j e before (λ none. ap (λ s. who s e) (sym step ∙ (stale_changes_nothing d n (p.dir_entry j) (p.at j) (k.handled j low) stale).0) ∙ none)
    own mine false live = inr (inr (j, from, omega arith, mine, live))

    at : (b : Bool) → ((p.at j).core == e) ≡ b → Holder p g c (suc j) e
    at true same = own (eqb-true (p.at j).core e same) (is_stale (p.dir_entry j) (p.at j)) refl
    at false ne = more p g c j e before (λ none. ap (λ s. who s e) (sym step) ∙ still_nothing d n (p.dir_entry j) (p.at j) e (k.handled j low) ne none)

pub holders : (d : Draft) (n : ℕ) (p : DirOrder) → IsKnown d n p → (g c : ℕ) → (p.dir_entry g).owner ≡ Some c → (p.dir_entry g).sharers ≡ []
    → (j : ℕ) → g ≤ j → j ≤ p.top → (e : ℕ) → Holder p g c j e
holders d n p k g c owner alone zero from upto e =
    let z : g ≡ zero = omega (arith, from) in
    elim (at_grant (p.dir_entry zero) c e (rw z at owner) (rw z at alone)) [ inl none ↦ inl none | inr same ↦ inr (inl same) ]
holders d n p k g c owner alone (suc j) from upto e =
    let split : (g ≤ j) ⊎ (g ≡ suc j) = search arith in
    elim split [
      | inl below ↦ holder_step d n p k g c j e (omega (arith, upto)) below (holders d n p k g c owner alone j below (omega (arith, upto)) e)
      | inr here ↦ elim (at_grant (p.dir_entry (suc j)) c e (rw here at owner) (rw here at alone)) [ inl none ↦ inl none | inr same ↦ inr (inl same) ]
    ]

-- entry j is stale, or isn't served
abbrev pub Behind : Draft → DirOrder → View → ℕ → Type 0
Behind d p v j = (is_stale (p.dir_entry j) (p.at j) ≡ true) ⊎ (is_unserved d p v j ≡ true)

-- what it takes for an entry not to be served
abbrev pub Open : View → ℕ → ℕ → Type 0
Open v j o = (v.seen o < suc j) ⊎ ((v.pending o ≡ true) × (v.last o < suc j))

or_right : (a : Bool) → (a || true) ≡ true
or_right true = refl
or_right false = refl

open_is : (v : View) (j o : ℕ) → Open v j o → is_open_at v j (Some o) ≡ true
open_is v j o (inl low) = rw (lt-ltb (v.seen o) (suc j) low) refl
open_is v j o (inr (pend, low)) = rw (pend, lt-ltb (v.last o) (suc j) low) (or_right (nat_lt (v.seen o) (suc j)))

pub unserved_is : (d : Draft) (p : DirOrder) (v : View) (j o f : ℕ) → (p.dir_entry j).owner ≡ Some o → passed_forward d (p.dir_entry j) (p.at j) ≡ Some f → Open v j o → is_unserved d p v j ≡ true
unserved_is d p v j o f owner to at =
    ap (λ (t : Option ℕ). is_some t && is_open_at v j (p.dir_entry j).owner) to ∙ ap (is_open_at v j) owner ∙ open_is v j o at

-- an unserved entry is passed on to an owner
pub unserved_passed : (d : Draft) (p : DirOrder) (v : View) (j : ℕ) → is_unserved d p v j ≡ true → (o f : ℕ) × ((p.dir_entry j).owner ≡ Some o) × (passed_forward d (p.dir_entry j) (p.at j) ≡ Some f)
unserved_passed d p v j h = at (passed_forward d (p.dir_entry j) (p.at j)) refl (p.dir_entry j).owner refl h
  where
    at : (t : Option ℕ) → passed_forward d (p.dir_entry j) (p.at j) ≡ t → (u : Option ℕ) → (p.dir_entry j).owner ≡ u → (is_some t && is_open_at v j u) ≡ true
        → (o f : ℕ) × ((p.dir_entry j).owner ≡ Some o) × (passed_forward d (p.dir_entry j) (p.at j) ≡ Some f)
    at None e u g h = cc
    at (Some f) e None g h = cc
    at (Some f) e (Some o) g h = (o, f, g, e)

-- there is an owner at each entry from the grant on
pub owner_since : (d : Draft) (n : ℕ) (p : DirOrder) (v : View) → IsKnown d n p → IsWaiting d p v → (g c : ℕ) → (p.dir_entry g).owner ≡ Some c
    → (j : ℕ) → j < p.top → ((x : ℕ) → x < j → g ≤ x → Behind d p v x) → (i : ℕ) → g ≤ i → i ≤ j → HasOwner (p.dir_entry i)
owner_since d n p v k w g c owner j low below zero from upto = let z : g ≡ zero = omega (arith, from) in (c, rw z at owner)
owner_since d n p v k w g c owner j low below (suc i) from upto =
    let split : (g ≤ i) ⊎ (g ≡ suc i) = search arith in
    elim split [
      | inr here ↦ (c, rw here at owner)
      | inl there ↦
          let lt : i < j = omega (arith, upto) in
          let inside : i < p.top = omega (arith, lt, low) in
          let before = owner_since d n p v k w g c owner j low below i there (omega (arith, lt)) in
          by i lt inside before (below i lt there)
    ]
  where
    by : (i : ℕ) → i < j → i < p.top → HasOwner (p.dir_entry i) → Behind d p v i → HasOwner (p.dir_entry (suc i))
    by i lt inside before (inl stale) =
        subst HasOwner (sym (k.past.follows i inside ∙ (stale_changes_nothing d n (p.dir_entry i) (p.at i) (k.handled i inside) stale).0)) before
    by i lt inside before (inr u) =
        let (o, f, owner, to) = unserved_passed d p v i u in
        elim (owner_stays d n (p.dir_entry i) (p.at i) o f (k.handled i inside) owner to) [
          | inl some ↦ subst HasOwner (sym (k.past.follows i inside)) some
          | inr share ↦ let end = w.shares i f inside u to share in absurd (omega (arith, end, lt, low))
        ]

one_entry : (d : Draft) (n : ℕ) (p : DirOrder) (v : View) → IsKnown d n p → IsWaiting d p v → (g c : ℕ) → IsFresh g c p v
    → (j : ℕ) → g ≤ j → j < p.top → ((x : ℕ) → x < j → g ≤ x → Behind d p v x) → Behind d p v j
one_entry d n p v k w g c f j from low below = at (is_stale (p.dir_entry j) (p.at j)) refl (holders d n p k g c f.owns f.alone j from (omega (arith, low)) (p.at j).core)
  where
    -- an entry between waits, and is its core's last
    waits : (e x : ℕ) → g ≤ x → x < j → (p.at x).core ≡ e → is_stale (p.dir_entry x) (p.at x) ≡ false → (v.last e ≡ suc x) × (v.pending e ≡ true)
    waits e x lo hi own live = elim (below x hi lo) [
      | inl stale ↦ absurd (cc (live, stale))
      | inr u ↦ subst (λ e. (v.last e ≡ suc x) × (v.pending e ≡ true)) own (w.forwards x (omega (arith, hi, low)) u)
    ]

    owned : HasOwner (p.dir_entry j)
    owned = owner_since d n p v k w g c f.owns j low below j from (omega arith)

    waits_for : (o : ℕ) → (p.dir_entry j).owner ≡ Some o → Holder p g c j o → Open v j o
    waits_for o owner (inl none) = absurd (let x : Owner ≡ Other = sym (who_of_owner (p.dir_entry j) o owner) ∙ none in cc)
    waits_for o owner (inr (inl same)) = elim f.unspent [
      | inl pend ↦ let grant = f.grant in rw same (inr (pend, omega (arith, grant, from)))
      | inr seen ↦ rw same (inl (omega (arith, seen, from)))
    ]
    waits_for o owner (inr (inr (x, lo, hi, own, live))) = let (last, pend) = waits o x lo hi own live in inr (pend, omega (arith, last, hi))

    asks : is_stale (p.dir_entry j) (p.at j) ≡ false → who (p.dir_entry j) (p.at j).core ≡ Other → is_unserved d p v j ≡ true
    asks live none =
        let (fwd, to) = goes_to_owner d n (p.dir_entry j) (p.at j) owned.0 (k.handled j low) live none owned.1 in
        unserved_is d p v j owned.0 fwd owned.1 to (waits_for owned.0 owned.1 (holders d n p k g c f.owns f.alone j from (omega (arith, low)) owned.0))

    at : (b : Bool) → is_stale (p.dir_entry j) (p.at j) ≡ b → Holder p g c j (p.at j).core → Behind d p v j
    at true stale h = inl stale
    at false live (inl none) = inr (asks live none)
    at false live (inr (inl same)) = let b = w.lasts j low in let e : suc j ≤ v.last c = rw same at b in let grant = f.grant in absurd (omega (arith, e, grant, from))
    at false live (inr (inr (x, lo, hi, own, stands))) =
        let b = w.lasts j low in let (last, pend) = waits (p.at j).core x lo hi own stands in absurd (omega (arith, b, last, hi))

below_all : (d : Draft) (n : ℕ) (p : DirOrder) (v : View) → IsKnown d n p → IsWaiting d p v → (g c : ℕ) → IsFresh g c p v
    → (m : ℕ) → m ≤ p.top → (j : ℕ) → j < m → g ≤ j → Behind d p v j
below_all d n p v k w g c f zero bound j lt from = absurd (omega (arith, lt))
below_all d n p v k w g c f (suc m) bound j lt from =
    let before = below_all d n p v k w g c f m (omega (arith, bound)) in
    let split : (j < m) ⊎ (j ≡ m) = search arith in
    elim split [ inl l ↦ before j l from | inr e ↦ one_entry d n p v k w g c f j from (omega (arith, lt, bound)) (λ x xl xg. before x (omega (arith, xl, e)) xg) ]

pub overtakes_not : (d : Draft) (n : ℕ) (p : DirOrder) (v : View) → IsKnown d n p → IsWaiting d p v → (g c : ℕ) → IsFresh g c p v → (j : ℕ) → g ≤ j → j < p.top → Behind d p v j
overtakes_not d n p v k w g c f j from low = below_all d n p v k w g c f p.top (omega arith) j low from

pub no_overtaking : (d : Draft) (n : ℕ) (p : DirOrder) (v : View) (g c j : ℕ) → IsWellFormed d → IsShaped d → IsDirOrder d n p → IsWaiting d p v → IsFresh g c p v → g ≤ j → j < p.top
    → (is_stale (p.dir_entry j) (p.at j) ≡ true) ⊎ (is_unserved d p v j ≡ true)
no_overtaking d n p v g c j wf sh h w f from low = overtakes_not d n p v (known d n p wf sh h) w g c f j from low
