-- A turn begins, a pass more is made, and one is taken in.
use Rattle.std.proofs.Common.{◌≡◌, ◌≢◌, ◌⊎◌, ◌==◌, ℕ, zero, suc, ◌+◌, ◌*◌, ◌^◌, ◌<◌, ◌≤◌, Bool, true, false, true≢false, List, [], ◌∷◌, ◌++◌, length, length-set, Option, Some, None, refl, sym, ap, ◌∙◌, subst, ⊎_elim, arith, length-append}
use Rattle.std.specs.Prelude.{slice_set}
use Rattle.std.proofs.lemmas.List.{append-nil}
use mathlib.Core.Option.{some, some-ne-none, some-injective}
use mathlib.Core.Logic.{dite}
use native.Mathlib.Decide.{ℕ_discrete}
use lib.ListN.{get_elem?}
use Rattle.atomic_table.specs.Table.{State, Splits, Joins, opening}
use Rattle.atomic_table.proofs.Lists.{at_set, set_here, set_else, at_longer}
use Rattle.pg_turn.specs.declared.view.Past.{Past}
use Rattle.pg_turn.specs.declared.view.View.{View}
use Rattle.pg_turn.specs.Entries.{by}
use Rattle.pg_turn.specs.Views.{Tells, counted, absorbed, nobody, opened, newcomer, past_of, first_entries}
use Rattle.pg_turn.specs.Rule.{bit, Spent, Fits, InOrder}
use Rattle.pg_turn.proofs.Logs.{starts_all, at_inside, at_end, tells_new, below_more}
use Rattle.pg_turn.proofs.Steps.{off}

module _ {E T R : Type 0} (maker : E → ℕ) (entries : T → List E) (root : T → R) where
  -- what was taken in stays true as long as its places do
  spent_kept : (log : List E) (before after : List (View T E)) (ps : List (Past E))
      → ((i : ℕ) (u : View T E) → get_elem? before i ≡ some u → u.live ≡ false → get_elem? after i ≡ some u)
      → Spent maker log before ps → Spent maker log after ps
  spent_kept log before after [] stay h = tt
  spent_kept log before after (p ∷ ps) stay h = ((h.0.0, (h.0.1.0, stay p.number h.0.1.0 h.0.1.1 h.0.1.2, h.0.1.2)), spent_kept log before after ps stay h.1)

  -- two seats of which one lives and one doesn't are at two places
  apart : (views : List (View T E)) (i k : ℕ) (u v : View T E) → get_elem? views i ≡ some u → u.live ≡ false → get_elem? views k ≡ some v → v.live ≡ true → i ≢ k
  apart views i k u v at dead at' lives same =
      true≢false (sym lives ∙ (ap (λ (x : View T E). x.live) (some-injective _ _ (sym at' ∙ (ap (λ j. get_elem? views j) (sym same) ∙ at))) ∙ dead))

  module _ (origin : T) (seats : ℕ) where
    -- a pass more
    pub cuts : (id : ℕ) (v : View T E) → v.live ≡ true → 0 < v.given → v.given < seats
        → Splits (InOrder entries root maker origin seats) id v (counted v) (newcomer entries maker v)
    cuts id v lives counts few s r at =
        let f = r.each id v at lives in
        let g = f.given_is counts in
        let new = newcomer entries maker v in
        let set_views = slice_set s.views id (counted v) in
        let views = set_views ++ new ∷ [] in
        let longer : length views ≡ length s.views + 1 = length-append set_views (new ∷ []) ∙ ap (λ n. n + 1) (length-set s.views id (counted v)) in
        let stay : (i : ℕ) (u : View T E) → i ≢ id → get_elem? s.views i ≡ some u → get_elem? views i ≡ some u
        = λ i u ne e. at_longer set_views (new ∷ []) i u (set_else s.views id i (counted v) ne ∙ e) in
        let dead : (i : ℕ) (u : View T E) → get_elem? s.views i ≡ some u → u.live ≡ false → get_elem? views i ≡ some u
        = λ i u e d. stay i u (apart s.views i id u v e d at lives) e in
        let here : get_elem? views id ≡ some (counted v) = at_longer set_views (new ∷ []) id (counted v) (set_here s.views id (counted v) (at_inside s.views id v at)) in
        let place : length set_views ≡ v.given = length-set s.views id (counted v) ∙ sym g.0 in
        let mine : Fits maker origin r.log r.taken r.holder views id (counted v) = record {
          number_is = f.number_is;
          origin_is = f.origin_is;
          told = f.told;
          given_is = λ _. (ap (λ n. n + 1) g.0 ∙ sym longer, g.1);
          holding = f.holding;
          others = spent_kept r.log s.views views v.joined dead f.others;
        } in
        let named = below_more maker (length s.views) v.given r.more (let e = g.0 in omega arith) r.named in
        let tells : Tells maker r.log (past_of maker v.given (entries origin)) = subst (λ l. Tells maker l (past_of maker v.given (entries origin))) (sym r.grown) (tells_new maker (entries origin) r.more v.given named) in
        let theirs : Fits maker origin r.log r.taken r.holder views (length set_views) new = record {
          number_is = sym place;
          origin_is = f.origin_is;
          told = subst (λ o. Tells maker r.log (past_of maker v.given (first_entries entries maker o))) (sym f.origin_is) tells;
          given_is = λ some_given. absurd (let h : 0 < 0 = some_given in omega arith);
          holding = λ h. absurd (off h);
          others = tt;
        } in
        let fits : (k : ℕ) (u : View T E) → k ≢ id → get_elem? s.views k ≡ some u → u.live ≡ true → Fits maker origin r.log r.taken r.holder views k u
        = λ k u ne e lu. let h = r.each k u e lu in record {
          number_is = h.number_is;
          origin_is = h.origin_is;
          told = h.told;
          given_is = λ some_given. absurd (ne ((h.given_is some_given).1 ∙ sym g.1));
          holding = h.holding;
          others = spent_kept r.log s.views views u.joined dead h.others;
        } in
        record {
          log = r.log;
          more = r.more;
          taken = r.taken;
          holder = r.holder;
          grown = r.grown;
          word = r.word;
          small = r.small;
          home = r.home;
          held = λ is. let h = r.held is in dite (ℕ_discrete r.holder id)
              (λ q. let same : v ≡ h.0 = some-injective _ _ (sym at ∙ (ap (λ i. get_elem? s.views i) (sym q) ∙ h.1)) in
              (counted v, ap (λ i. get_elem? views i) q ∙ here, lives, ap (λ (x : View T E). x.holds) same ∙ h.3))
              (λ ne. (h.0, stay r.holder h.0 ne h.1, h.2, h.3));
          named = below_more maker (length s.views) (length views) r.more (omega arith) r.named;
          room = let a = r.room in let b = g.0 in omega arith;
          each = λ k u e lu. ⊎_elim
              (λ was. ⊎_elim
              (λ (t : (k ≡ id) × (counted v ≡ u)). subst (λ (x : ℕ × View T E). Fits maker origin r.log r.taken r.holder views x.0 x.1) (λ i. (sym t.0 i, t.1 i)) mine)
              (λ (t : (k ≢ id) × (get_elem? s.views k ≡ some u)). fits k u t.0 t.1 lu)
              (at_set s.views id k (counted v) u was))
              (λ (t : (k ≡ length set_views) × (new ≡ u)). subst (λ (x : ℕ × View T E). Fits maker origin r.log r.taken r.holder views x.0 x.1) (λ i. (sym t.0 i, t.1 i)) theirs)
              (at_end set_views new u k e);
        }

    -- a pass is taken in
    pub joins : (id : ℕ) (v : View T E) (other : ℕ) (w : View T E) → v.live ≡ true → w.live ≡ true → w.holds ≡ false
        → Joins (InOrder entries root maker origin seats) id v other w (absorbed v w) nobody
    joins id v other w lives lives_too free s r at ne there =
        let f = r.each id v at lives in
        let there' : get_elem? s.views other ≡ some w = sym (set_else s.views id other (absorbed v w) ne) ∙ there in
        let g = r.each other w there' lives_too in
        let once = slice_set s.views id (absorbed v w) in
        let views = slice_set once other nobody in
        let long : length views ≡ length s.views = length-set once other nobody ∙ length-set s.views id (absorbed v w) in
        let stay : (i : ℕ) (u : View T E) → i ≢ id → i ≢ other → get_elem? s.views i ≡ some u → get_elem? views i ≡ some u
        = λ i u a b e. set_else once other i nobody b ∙ (set_else s.views id i (absorbed v w) a ∙ e) in
        let dead : (i : ℕ) (u : View T E) → get_elem? s.views i ≡ some u → u.live ≡ false → get_elem? views i ≡ some u
        = λ i u e d. stay i u (apart s.views i id u v e d at lives) (apart s.views i other u w e d there' lives_too) e in
        let here : get_elem? views id ≡ some (absorbed v w) = set_else once other id nobody (λ q. ne (sym q)) ∙ set_here s.views id (absorbed v w) (at_inside s.views id v at) in
        let gone : get_elem? views other ≡ some nobody = set_here once other nobody (at_inside once other w there) in
        let mine : Fits maker origin r.log r.taken r.holder views id (absorbed v w) = record {
          number_is = f.number_is;
          origin_is = f.origin_is;
          told = f.told;
          given_is = λ some_given. let h = f.given_is some_given in (h.0 ∙ sym long, h.1);
          holding = f.holding;
          others = ((g.told, (nobody, ap (λ i. get_elem? views i) g.number_is ∙ gone, refl)), spent_kept r.log s.views views v.joined dead f.others);
        } in
        let fits : (k : ℕ) (u : View T E) → get_elem? s.views k ≡ some u → u.live ≡ true → Fits maker origin r.log r.taken r.holder views k u
        = λ k u e lu. let h = r.each k u e lu in record {
          number_is = h.number_is;
          origin_is = h.origin_is;
          told = h.told;
          given_is = λ some_given. let x = h.given_is some_given in (x.0 ∙ sym long, x.1);
          holding = h.holding;
          others = spent_kept r.log s.views views u.joined dead h.others;
        } in
        record {
          log = r.log;
          more = r.more;
          taken = r.taken;
          holder = r.holder;
          grown = r.grown;
          word = r.word;
          small = r.small;
          home = r.home;
          held = λ is. let h = r.held is in
              let unlike : r.holder ≢ other = λ q. off (sym free ∙ (ap (λ (x : View T E). x.holds) (some-injective _ _ (sym there' ∙ (ap (λ i. get_elem? s.views i) (sym q) ∙ h.1))) ∙ h.3)) in
              dite (ℕ_discrete r.holder id)
              (λ q. let same : v ≡ h.0 = some-injective _ _ (sym at ∙ (ap (λ i. get_elem? s.views i) (sym q) ∙ h.1)) in
              (absorbed v w, ap (λ i. get_elem? views i) q ∙ here, lives, ap (λ (x : View T E). x.holds) same ∙ h.3))
              (λ differs. (h.0, stay r.holder h.0 differs unlike h.1, h.2, h.3));
          named = below_more maker (length s.views) (length views) r.more (omega arith) r.named;
          room = let a = r.room in omega arith;
          each = λ k u e lu. ⊎_elim
              (λ (t : (k ≡ other) × (nobody ≡ u)). absurd (off (ap (λ (x : View T E). x.live) t.1 ∙ lu)))
              (λ (t : (k ≢ other) × (get_elem? once k ≡ some u)). ⊎_elim
              (λ (q : (k ≡ id) × (absorbed v w ≡ u)). subst (λ (x : ℕ × View T E). Fits maker origin r.log r.taken r.holder views x.0 x.1) (λ i. (sym q.0 i, q.1 i)) mine)
              (λ (q : (k ≢ id) × (get_elem? s.views k ≡ some u)). fits k u q.1 lu)
              (at_set s.views id k (absorbed v w) u t.1))
              (at_set once other k nobody u e);
        }

    -- a turn begins
    pub opens : (word : ℕ) → word ≡ 2 * length (entries origin) → length (entries origin) < 2 ^ 62 → 0 < seats
        → InOrder entries root maker origin seats (opening (word ∷ []) (Some origin ∷ []) (opened entries maker origin))
    opens word is few some_seats = record {
      log = entries origin;
      more = [];
      taken = false;
      holder = 0;
      grown = sym (append-nil (entries origin));
      word = ap (λ n. n ∷ []) (let e : word ≡ 2 * length (entries origin) + 0 = omega arith in e);
      small = few;
      home = λ _. (origin, refl, refl, refl);
      held = λ h. absurd (off h);
      named = tt;
      room = omega arith;
      each = λ k v e lv. first k v e;
    }
      where
        first : (k : ℕ) (v : View T E) → get_elem? (opened entries maker origin ∷ []) k ≡ some v → Fits maker origin (entries origin) false 0 (opened entries maker origin ∷ []) k v
        first zero v e = subst (Fits maker origin (entries origin) false 0 (opened entries maker origin ∷ []) 0) (some-injective _ _ e) record {
          number_is = refl;
          origin_is = refl;
          told = (starts_all (entries origin), refl);
          given_is = λ _. (refl, refl);
          holding = λ h. absurd (off h);
          others = tt;
        }
        first (suc k) v e = absurd (some-ne-none v (sym e))
