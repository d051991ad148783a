-- The passes in a list, while they are made.
use Rattle.std.proofs.Common.{◌≡◌, ◌≢◌, ◌⊎◌, ℕ, zero, suc, ◌+◌, ◌<◌, ◌≤◌, Bool, true, false, List, [], ◌∷◌, ◌++◌, length, length-set, get_or, set, Option, Some, None, refl, sym, ap, ◌∙◌, subst, ⊎_elim, inl, inr, arith, length-append}
use Rattle.std.specs.Prelude.{slice_get, vec_len}
use Rattle.pg_turn.specs.declared.turn.Turn.{Turn}
use Rattle.pg_turn.specs.declared.turn.Pass.{Pass}
use Rattle.pg_turn.specs.declared.view.View.{View}
use Rattle.pg_turn.specs.Entries.{by}
use Rattle.pg_turn.specs.Views.{counted, newcomer, opened, first_entries}
use Rattle.pg_turn.specs.Passes.{IsAt, IsOf, IsFresh, slots_out, first_value, pass_count}

module _ {A : Type 0} where
  pub get_first : (l : List A) (a : A) → 0 < length l → a ≡ get_or l 0 a → slice_get l 0 ≡ Some a
  get_first [] a h e = absurd (omega arith)
  get_first (x ∷ xs) a h e = ap (λ (y : A). Some y) (sym e)

  get_set : (l : List A) (k : ℕ) (a b : A) → slice_get (set l 0 a) k ≡ Some b → ((k ≡ 0) × (a ≡ b)) ⊎ (slice_get l k ≡ Some b)
  get_set [] k a b e = absurd cc
  get_set (x ∷ xs) zero a b e = inl (refl, cc)
  get_set (x ∷ xs) (suc k) a b e = inr e

  pub get_end : (l : List A) (k : ℕ) (a b : A) → slice_get (l ++ a ∷ []) k ≡ Some b → (slice_get l k ≡ Some b) ⊎ ((k ≡ length l) × (a ≡ b))
  get_end [] zero a b e = inr (refl, cc)
  get_end [] (suc k) a b e = absurd cc
  get_end (x ∷ xs) zero a b e = inl e
  get_end (x ∷ xs) (suc k) a b e = ⊎_elim (λ h. inl h) (λ t. inr (let h = t.0 in omega arith, t.1)) (get_end xs k a b e)

module _ {T R E : Type 0} (entries : T → List E) (maker : E → ℕ) (t : Turn T R E) where
  -- so many passes are made, by number, and the first one counts them
  pub record Dealt (ps : List (Pass T R E)) (n : ℕ) : Type 0 where
    pub count : length ps ≡ n
    pub each : (k : ℕ) (p : Pass T R E) → slice_get ps k ≡ Some p → IsFresh entries maker t k p
    pub first : (p : Pass T R E) → slice_get ps 0 ≡ Some p → p.seat.me.0.given ≡ n

  -- the first pass, as it was before but for its count
  still_fresh : (k : ℕ) (p q : Pass T R E) → q.number ≡ p.number → q.seat.table_id ≡ p.seat.table_id → q.seat.me ≡ (counted p.seat.me.0, p.seat.me.1)
      → IsFresh entries maker t k p → IsFresh entries maker t k q
  still_fresh k p q number table me f = record {
    is_of = record {
      table = table ∙ f.is_of.table;
      live = ap (λ m. m.0.live) me ∙ f.is_of.live;
      first_is = ap (λ m. m.0.origin) me ∙ f.is_of.first_is;
      number_is = ap (λ m. m.0.own.number) me ∙ (f.is_of.number_is ∙ sym number);
      alone = ap (λ m. m.0.joined) me ∙ f.is_of.alone;
      slots = ap (λ m. m.1) me ∙ (f.is_of.slots ∙ ap slots_out (sym (ap (λ m. m.0.holds) me)));
    };
    number = number ∙ f.number;
    seen = ap (λ m. m.0.own.seen) me ∙ f.seen;
    mine = ap (λ m. m.0.own.mine) me ∙ f.mine;
    misses = ap (λ m. m.0.misses) me ∙ f.misses;
    idle = ap (λ m. m.0.holds) me ∙ f.idle;
  }

  -- the pass that was split off
  new_fresh : (n : ℕ) (v : View T E) (q : Pass T R E) → v.origin ≡ Some (first_value t) → v.given ≡ n → q.number ≡ n → q.seat.table_id ≡ t.table.shared.table_id
      → q.seat.me ≡ (newcomer entries maker v, []) → IsFresh entries maker t n q
  new_fresh n v q origin given number table me = record {
    is_of = record {
      table = table;
      live = ap (λ m. m.0.live) me;
      first_is = ap (λ m. m.0.origin) me ∙ origin;
      number_is = ap (λ m. m.0.own.number) me ∙ (given ∙ sym number);
      alone = ap (λ m. m.0.joined) me;
      slots = ap (λ m. m.1) me ∙ ap slots_out (sym (ap (λ m. m.0.holds) me));
    };
    number = number;
    seen = ap (λ m. m.0.own.seen) me ∙ ap (first_entries entries maker) origin;
    mine = ap (λ m. m.0.own.mine) me ∙ (ap (λ k. by maker k (first_entries entries maker v.origin)) given ∙ ap (λ o. by maker n (first_entries entries maker o)) origin);
    misses = ap (λ m. m.0.misses) me;
    idle = ap (λ m. m.0.holds) me;
  }

  pub dealt_one : (q : Pass T R E) → q.number ≡ 0 → q.seat.table_id ≡ t.table.shared.table_id → q.seat.me ≡ (opened entries maker (first_value t), []) → Dealt (q ∷ []) 1
  dealt_one q number table me = record {
    count = refl;
    each = one;
    first = λ p e. ap (λ (x : Pass T R E). x.seat.me.0.given) (let h : p ≡ q = cc in h) ∙ ap (λ m. m.0.given) me;
  }
    where
      fresh : IsFresh entries maker t 0 q
      fresh = record {
        is_of = record {
          table = table;
          live = ap (λ m. m.0.live) me;
          first_is = ap (λ m. m.0.origin) me;
          number_is = ap (λ m. m.0.own.number) me ∙ sym number;
          alone = ap (λ m. m.0.joined) me;
          slots = ap (λ m. m.1) me ∙ ap slots_out (sym (ap (λ m. m.0.holds) me));
        };
        number = number;
        seen = ap (λ m. m.0.own.seen) me;
        mine = ap (λ m. m.0.own.mine) me;
        misses = ap (λ m. m.0.misses) me;
        idle = ap (λ m. m.0.holds) me;
      }

      one : (k : ℕ) (p : Pass T R E) → slice_get (q ∷ []) k ≡ Some p → IsFresh entries maker t k p
      one zero p e = subst (IsFresh entries maker t 0) (let h : q ≡ p = cc in h) fresh
      one (suc k) p e = absurd cc

  pub dealt_more : (ps : List (Pass T R E)) (n : ℕ) (p q new : Pass T R E) → Dealt ps n → slice_get ps 0 ≡ Some p
      → q.number ≡ p.number → q.seat.table_id ≡ p.seat.table_id → q.seat.me ≡ (counted p.seat.me.0, p.seat.me.1)
      → new.number ≡ n → new.seat.table_id ≡ p.seat.table_id → new.seat.me ≡ (newcomer entries maker p.seat.me.0, [])
      → Dealt (set ps 0 q ++ new ∷ []) (n + 1)
  dealt_more ps n p q new d at q_number q_table q_me number table me =
      let f = d.each 0 p at in
      let long : length (set ps 0 q) ≡ n = length-set ps 0 q ∙ d.count in
      let left = still_fresh 0 p q q_number q_table q_me f in
      let right = new_fresh n p.seat.me.0 new f.is_of.first_is (d.first p at) number (table ∙ f.is_of.table) me in
      record {
        count = length-append (set ps 0 q) (new ∷ []) ∙ ap (λ m. m + 1) long;
        each = λ k u e. ⊎_elim
            (λ was. ⊎_elim
            (λ (x : (k ≡ 0) × (q ≡ u)). subst (λ (y : ℕ × Pass T R E). IsFresh entries maker t y.0 y.1) (λ i. (sym x.0 i, x.1 i)) left)
            (λ here. d.each k u here)
            (get_set ps k q u was))
            (λ (x : (k ≡ length (set ps 0 q)) × (new ≡ u)). subst (λ (y : ℕ × Pass T R E). IsFresh entries maker t y.0 y.1) (λ i. (sym (x.0 ∙ long) i, x.1 i)) right)
            (get_end (set ps 0 q) k new u e);
        first = head ps at d.count;
      }
    where
      head : (l : List (Pass T R E)) → slice_get l 0 ≡ Some p → length l ≡ n → (u : Pass T R E) → slice_get (set l 0 q ++ new ∷ []) 0 ≡ Some u → u.seat.me.0.given ≡ n + 1
      head [] e count u e' = absurd cc
      head (x ∷ xs) e count u e' = ap (λ (y : Pass T R E). y.seat.me.0.given) (let h : u ≡ q = cc in h) ∙ (ap (λ m. m.0.given) q_me ∙ ap (λ m. m + 1) (d.first p at))
