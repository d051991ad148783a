-- The passes are taken in, and the turn ends.
use Rattle.std.proofs.Common.{◌≡◌, ◌≢◌, ◌⊎◌, ℕ, zero, suc, ◌+◌, ◌<◌, ◌≤◌, Bool, true, false, true≢false, List, [], ◌∷◌, ◌++◌, length, drop, map, Option, Some, None, refl, sym, ap, ◌∙◌, subst, ⊎_elim, inl, inr, arith, append_assoc, length-append}
use Rattle.std.specs.Prelude.{slice_get}
use Rattle.std.proofs.lemmas.List.{append-nil, map-append}
use Rattle.pg_turn.specs.declared.turn.Turn.{Turn}
use Rattle.pg_turn.specs.declared.turn.Pass.{Pass}
use Rattle.pg_turn.specs.declared.view.Past.{Past}
use Rattle.pg_turn.specs.declared.view.View.{View}
use Rattle.atomic_table.specs.declared.shared.Seat.{Seat}
use Rattle.std.proofs.lemmas.List.Prefix.{front_rest}
use Rattle.std.specs.List.{All}
use mathlib.Core.Option.{some, some-injective}
use lib.ListN.{get_elem?}
use Rattle.atomic_table.specs.Table.{State, Final, Seen}
use Rattle.pg_turn.specs.Entries.{StartsWith, by}
use Rattle.pg_turn.specs.Views.{Tells, absorbed}
use Rattle.pg_turn.specs.Rule.{Spent, Fits, InOrder}
use Rattle.pg_turn.specs.Passes.{IsOf, AreIdle, AreTrueOf, IsWhole, first_value, pass_count, is_holding}
use Rattle.pg_turn.proofs.Logs.{at_inside, below_more, below_all}
use Rattle.pg_turn.proofs.Steps.{off}
use Rattle.pg_turn.proofs.Rows.{get_end}

module _ {A : Type 0} where
  pub get_front : (l m : List A) (k : ℕ) (a : A) → slice_get l k ≡ Some a → slice_get (l ++ m) k ≡ Some a
  get_front [] m k a e = absurd cc
  get_front (x ∷ xs) m zero a e = e
  get_front (x ∷ xs) m (suc k) a e = get_front xs m k a e

  get_some : (l : List A) (k : ℕ) → k < length l → (a : A) × (slice_get l k ≡ Some a)
  get_some [] k h = absurd (omega arith)
  get_some (x ∷ xs) zero h = (x, refl)
  get_some (x ∷ xs) (suc k) h = get_some xs k (omega arith)

  pub get_last : (l : List A) (a : A) → slice_get (l ++ a ∷ []) (length l) ≡ Some a
  get_last [] a = refl
  get_last (x ∷ xs) a = get_last xs a

module _ {T R E : Type 0} where
  abbrev pub own_of : Pass T R E → Past E
  own_of p = p.seat.me.0.own

  -- of all passes these are left, and the seat has taken in the others
  pub record Gathered (t : Turn T R E) (all ps : List (Pass T R E)) (seat : Seat (Option T) (View T E)) : Type 0 where
    pub left : (k : ℕ) (p : Pass T R E) → slice_get ps k ≡ Some p → IsOf t p × (p.number ≡ k) × (is_holding p ≡ false)
    pub table : seat.table_id ≡ t.table.shared.table_id
    pub live : seat.me.0.live ≡ true
    pub idle : seat.me.0.holds ≡ false
    pub whole : map own_of all ≡ map own_of ps ++ (seat.me.0.joined ++ seat.me.0.own ∷ [])

  last_is : (t : Turn T R E) (ps front : List (Pass T R E)) (p : Pass T R E) → ps ≡ front ++ p ∷ []
      → ((k : ℕ) (q : Pass T R E) → slice_get ps k ≡ Some q → IsOf t q × (q.number ≡ k) × (is_holding q ≡ false)) → IsOf t p × (p.number ≡ length front) × (is_holding p ≡ false)
  last_is t ps front p eq each = each (length front) p (ap (λ l. slice_get l (length front)) eq ∙ get_last front p)

  front_is : (t : Turn T R E) (ps front : List (Pass T R E)) (p : Pass T R E) → ps ≡ front ++ p ∷ []
      → ((k : ℕ) (q : Pass T R E) → slice_get ps k ≡ Some q → IsOf t q × (q.number ≡ k) × (is_holding q ≡ false))
      → (k : ℕ) (q : Pass T R E) → slice_get front k ≡ Some q → IsOf t q × (q.number ≡ k) × (is_holding q ≡ false)
  front_is t ps front p eq each k q e = each k q (ap (λ l. slice_get l k) eq ∙ get_front front (p ∷ []) k q e)

  pub gathered_last : (t : Turn T R E) (all ps front : List (Pass T R E)) (seat : Seat (Option T) (View T E)) (p : Pass T R E) → Gathered t all ps seat → ps ≡ front ++ p ∷ []
      → IsOf t p × (p.number ≡ length front) × (is_holding p ≡ false)
  gathered_last t all ps front seat p g eq = last_is t ps front p eq g.left

  pub gathered_one : (t : Turn T R E) (all front : List (Pass T R E)) (p : Pass T R E) → AreIdle t all → all ≡ front ++ p ∷ [] → Gathered t all front p.seat
  gathered_one t all front p are eq =
      let last = last_is t all front p eq are.each in record {
        left = front_is t all front p eq are.each;
        table = last.0.table;
        live = last.0.live;
        idle = last.2;
        whole = ap (map own_of) eq ∙ (map-append own_of front (p ∷ []) ∙ ap (λ l. map own_of front ++ (l ++ own_of p ∷ [])) (sym last.0.alone));
      }

  pub gathered_more : (t : Turn T R E) (all ps front : List (Pass T R E)) (seat after : Seat (Option T) (View T E)) (p : Pass T R E) → Gathered t all ps seat → ps ≡ front ++ p ∷ []
      → after.table_id ≡ seat.table_id → after.me ≡ (absorbed seat.me.0 p.seat.me.0, seat.me.1) → Gathered t all front after
  gathered_more t all ps front seat after p g eq table me = record {
    left = front_is t ps front p eq g.left;
    table = table ∙ g.table;
    live = ap (λ m. m.0.live) me ∙ g.live;
    idle = ap (λ m. m.0.holds) me ∙ g.idle;
    whole = g.whole
        ∙ (ap (λ l. map own_of l ++ (seat.me.0.joined ++ seat.me.0.own ∷ [])) eq
        ∙ (ap (λ l. l ++ (seat.me.0.joined ++ seat.me.0.own ∷ [])) (map-append own_of front (p ∷ []))
        ∙ (append_assoc (map own_of front) (own_of p ∷ []) (seat.me.0.joined ++ seat.me.0.own ∷ [])
        ∙ ap (λ m. map own_of front ++ (m.0.joined ++ m.0.own ∷ [])) (sym me))));
  }

module _ {A B : Type 0} where
  get_map : (f : A → B) (l : List A) (k : ℕ) (a : A) → slice_get l k ≡ Some a → slice_get (map f l) k ≡ Some (f a)
  get_map f [] k a e = absurd cc
  get_map f (x ∷ xs) zero a e = ap (λ (y : A). Some (f y)) (let h : x ≡ a = cc in h)
  get_map f (x ∷ xs) (suc k) a e = get_map f xs k a e

module _ {T R E : Type 0} (entries : T → List E) (root : T → R) (maker : E → ℕ) where
  spent_at : (log : List E) (views : List (View T E)) (ps : List (Past E)) (k : ℕ) (p : Past E) → slice_get ps k ≡ Some p → Spent maker log views ps
      → Tells maker log p × ((u : View T E) × (get_elem? views p.number ≡ some u) × (u.live ≡ false))
  spent_at log views [] k p e h = absurd cc
  spent_at log views (x ∷ xs) zero p e h =
      let P : Past E → Type 0 = λ y. Tells maker log y × ((u : View T E) × (get_elem? views y.number ≡ some u) × (u.live ≡ false)) in
      subst P (let q : x ≡ p = cc in q) h.0
  spent_at log views (x ∷ xs) (suc k) p e h = spent_at log views xs k p e h.1

  -- what holds of the value at the end
  pub record Ended (t : Turn T R E) (ps : List (Pass T R E)) (value : T) : Type 0 where
    pub rooted : root value ≡ root (first_value t)
    pub begins : StartsWith (entries value) (entries (first_value t))
    pub told : AreTrueOf maker (entries value) ps
    pub named : All (λ e. maker e < pass_count t) (drop (length (entries (first_value t))) (entries value))

  module _ (t : Turn T R E) (ps : List (Pass T R E)) (seat : Seat (Option T) (View T E)) (are : AreIdle t ps) (is : IsWhole t ps seat) (s : State (Option T) (View T E))
      (r : InOrder entries root maker (first_value t) (pass_count t) s) (at : get_elem? s.views seat.id ≡ some seat.me.0) where
    fits : Fits maker (first_value t) r.log r.taken r.holder s.views seat.id seat.me.0
    fits = r.each seat.id seat.me.0 at is.live

    -- the seat of a pass was taken in, or it is the one that took in the others
    which : (k : ℕ) (p : Pass T R E) → slice_get ps k ≡ Some p
        → (Tells maker r.log (own_of p) × ((u : View T E) × (get_elem? s.views (own_of p).number ≡ some u) × (u.live ≡ false))) ⊎ (seat.me.0.own ≡ own_of p)
    which k p e =
        let there : slice_get (seat.me.0.joined ++ seat.me.0.own ∷ []) k ≡ Some (own_of p) = ap (λ l. slice_get l k) (sym is.all) ∙ get_map own_of ps k p e in
        ⊎_elim
        (λ h. inl (spent_at r.log s.views seat.me.0.joined k (own_of p) h fits.others))
        (λ (x : (k ≡ length seat.me.0.joined) × (seat.me.0.own ≡ own_of p)). inr x.1)
        (get_end seat.me.0.joined k seat.me.0.own (own_of p) there)

    tells : (k : ℕ) (p : Pass T R E) → slice_get ps k ≡ Some p → Tells maker r.log (own_of p)
    tells k p e = ⊎_elim (λ x. x.0) (λ q. subst (Tells maker r.log) q fits.told) (which k p e)

    -- nobody holds the value
    at_home : r.taken ≡ false
    at_home = go r.taken refl
      where
        go : (b : Bool) → r.taken ≡ b → r.taken ≡ false
        go false e = e
        go true e =
            let h = r.held e in
            let inside = at_inside s.views r.holder h.0 h.1 in
            let room = r.room in
            let count = are.count in
            let found = get_some ps r.holder (omega arith) in
            let p = found.0 in
            let a = are.each r.holder p found.1 in
            let number : (own_of p).number ≡ r.holder = a.0.number_is ∙ a.1 in
            ⊎_elim
            (λ x. absurd (off (sym x.1.2 ∙ (ap (λ (v : View T E). v.live) (some-injective _ _ (sym x.1.1 ∙ (ap (λ i. get_elem? s.views i) number ∙ h.1))) ∙ h.2))))
            (λ (q : seat.me.0.own ≡ own_of p).
            let here : seat.id ≡ r.holder = sym fits.number_is ∙ (ap (λ (o : Past E). o.number) q ∙ number) in
            absurd (off (sym is.idle ∙ (ap (λ (v : View T E). v.holds) (some-injective _ _ (sym at ∙ (ap (λ i. get_elem? s.views i) here ∙ h.1))) ∙ h.3))))
            (which r.holder p found.1)

    ended : (value : T) → entries value ≡ r.log → root value ≡ root (first_value t) → Ended t ps value
    ended value same rooted =
        let grown : entries value ≡ entries (first_value t) ++ r.more = same ∙ r.grown in
        record {
          rooted = rooted;
          begins = (r.more, grown);
          told = λ k p e.
              let x : Tells maker (entries value) (own_of p) = subst (λ l. Tells maker l (own_of p)) (sym same) (tells k p e) in
              record { begins = x.0; own = ap (λ n. by maker n (entries value)) (sym (are.each k p e).0.number_is) ∙ x.1 };
          named = subst (All (λ e. maker e < pass_count t)) (sym (front_rest (entries value) (entries (first_value t)) r.more grown))
              (below_all maker (pass_count t) r.more (below_more maker (length s.views) (pass_count t) r.more r.room r.named));
        }

  pub closes : (t : Turn T R E) (ps : List (Pass T R E)) (seat : Seat (Option T) (View T E)) (words : List ℕ) (slots : List (Option T)) → AreIdle t ps → IsWhole t ps seat
      → Final (Seen (InOrder entries root maker (first_value t) (pass_count t)) seat.id seat.me.0) words slots
      → (value : T) × (get_elem? slots 0 ≡ some (Some value)) × Ended t ps value
  closes t ps seat words slots are is f =
      let home = f.1.0.home (at_home t ps seat are is f.0 f.1.0 f.1.1) in
      (home.0, f.4 0 (Some home.0) home.1, ended t ps seat are is f.0 f.1.0 f.1.1 home.0 home.2 home.3)

  -- the value that was taken out
  pub closed : (t : Turn T R E) (ps : List (Pass T R E)) (slots : List (Option T)) (value : T)
      → (v : T) × (get_elem? slots 0 ≡ some (Some v)) × Ended t ps v → get_elem? slots 0 ≡ some (Some value) → Ended t ps value
  closed t ps slots value x e =
      let same : Some x.0 ≡ Some value = some-injective _ _ (sym x.1 ∙ e) in
      subst (Ended t ps) (let h : x.0 ≡ value = cc in h) x.2
