-- Each step keeps the rule.
use Rattle.std.proofs.Common.{◌≡◌, ◌≢◌, ◌⊎◌, ◌==◌, ℕ, zero, suc, ◌+◌, ◌*◌, ◌^◌, ◌%◌, ◌<◌, ◌≤◌, Bool, true, false, true≢false, List, [], ◌∷◌, ◌++◌, length, length-set, drop, bit_or, Option, Some, None, refl, sym, ap, ◌∙◌, subst, inl, inr, ⊎_elim, arith, append_assoc, length-append}
use Rattle.std.specs.Prelude.{slice_index, slice_set}
use Rattle.std.proofs.lemmas.List.{append-nil}
use Rattle.std.proofs.lemmas.List.Prefix.{front_rest}
use mathlib.Core.Option.{some, none, some-ne-none, some-injective}
use mathlib.Core.Logic.{dite}
use native.Mathlib.Decide.{ℕ_discrete}
use lib.ListN.{get_elem?}
use Rattle.atomic_table.specs.Table.{State, Me, Step, Act, Valid, stepped, carried_after, Allows, Splits, Joins, opening}
use Rattle.atomic_table.specs.Table.Act.{keeps, takes, gives}
use Rattle.atomic_table.proofs.Lists.{at_set, set_here, set_else, at_longer, at_last}
use Rattle.pg_turn.specs.declared.view.Past.{Past}
use Rattle.pg_turn.specs.declared.view.View.{View}
use Rattle.pg_turn.specs.Entries.{StartsWith, by, Names, NamedBelow}
use Rattle.pg_turn.specs.Views.{Tells, past_of, missed, took, gave, counted, absorbed, nobody, opened, newcomer, first_entries, HasRoot, IsNext, grabbed, returned, released}
use Rattle.pg_turn.specs.Rule.{bit, Spent, Fits, InOrder}
use Rattle.pg_turn.proofs.Logs.{or_one, starts_all, at_inside, at_end, tells_more, tells_own, tells_new, below_more, below_named, below_append}

pub off : false ≡ true → ⊥
off e = true≢false (sym e)

module _ {E T R : Type 0} (maker : E → ℕ) (entries : T → List E) (root : T → R) where
  -- what was taken in stays true, since a live seat's place is another
  pub spent_stay : (log log' new : List E) (id : ℕ) (v w : View T E) (views : List (View T E)) (ps : List (Past E)) → log' ≡ log ++ new → Names maker id new
      → get_elem? views id ≡ some v → v.live ≡ true → Spent maker log views ps → Spent maker log' (slice_set views id w) ps
  spent_stay log log' new id v w views [] eq named at lives h = tt
  spent_stay log log' new id v w views (p ∷ ps) eq named at lives h =
      let other : p.number ≢ id = λ same. true≢false (sym lives ∙ (ap (λ (x : View T E). x.live) (some-injective _ _ (sym at ∙ (ap (λ i. get_elem? views i) (sym same) ∙ h.0.1.1))) ∙ h.0.1.2)) in (
        (
          subst (λ l. Tells maker l p) (sym eq) (tells_more maker log new id p named other h.0.0),
          (h.0.1.0, set_else views id p.number w other ∙ h.0.1.1, h.0.1.2),
        ),
        spent_stay log log' new id v w views ps eq named at lives h.1,
      )

  module _ (origin : T) (seats : ℕ) where
    abbrev Rule : State (Option T) (View T E) → Type 0
    Rule s = InOrder entries root maker origin seats s

    -- where nobody has the value, it is in its slot
    abbrev Home : Bool → List E → List (mathlib.Core.Option.Option (Option T)) → Type 0
    Home taken log homes = taken ≡ false → (value : T) × (get_elem? homes 0 ≡ some (some (Some value))) × (entries value ≡ log) × (root value ≡ root origin)

    -- where somebody has it, a live seat has
    abbrev Held : Bool → ℕ → List (View T E) → Type 0
    Held taken holder views = taken ≡ true → (v : View T E) × (get_elem? views holder ≡ some v) × (v.live ≡ true) × (v.holds ≡ true)

    -- a step of a live seat, which adds these entries
    moved : (s : State (Option T) (View T E)) (r : Rule s) (id : ℕ) (v w : View T E) → get_elem? s.views id ≡ some v → v.live ≡ true
        → (log new : List E) (taken : Bool) (holder : ℕ) (words : List ℕ) (homes : List (mathlib.Core.Option.Option (Option T)))
        → log ≡ r.log ++ new → Names maker id new → length log < 2 ^ 62 → words ≡ (2 * length log + bit taken) ∷ []
        → Home taken log homes → Held taken holder (slice_set s.views id w)
        → ((k : ℕ) (u : View T E) → k ≢ id → get_elem? s.views k ≡ some u → u.live ≡ true → u.holds ≡ true → (taken ≡ true) × (k ≡ holder) × (u.own.seen ≡ log))
        → Fits maker origin log taken holder (slice_set s.views id w) id w
        → Rule record { words = words; homes = homes; views = slice_set s.views id w }
    moved s r id v w at lives log new taken holder words homes eq named few word home held reason fits =
        let inside = at_inside s.views id v at in record {
          log = log;
          more = r.more ++ new;
          taken = taken;
          holder = holder;
          grown = eq ∙ (ap (λ l. l ++ new) r.grown ∙ append_assoc (entries origin) r.more new);
          word = word;
          small = few;
          home = home;
          held = held;
          named = let count : length s.views ≡ length (slice_set s.views id w) = sym (length-set s.views id w) in
              subst (λ n. NamedBelow maker n (r.more ++ new)) count (below_append maker (length s.views) r.more new r.named (below_named maker id (length s.views) new inside named));
          room = let a = r.room in let b : length (slice_set s.views id w) ≡ length s.views = length-set s.views id w in omega arith;
          each = λ k u e lu. ⊎_elim
              (λ (t : (k ≡ id) × (w ≡ u)). subst (λ (x : ℕ × View T E). Fits maker origin log taken holder (slice_set s.views id w) x.0 x.1) (λ i. (sym t.0 i, t.1 i)) fits)
              (λ (t : (k ≢ id) × (get_elem? s.views k ≡ some u)). let f = r.each k u t.1 lu in record {
                number_is = f.number_is;
                origin_is = f.origin_is;
                told = subst (λ l. Tells maker l u.own) (sym eq) (tells_more maker r.log new id u.own named (λ q. t.0 (sym f.number_is ∙ q)) f.told);
                given_is = λ some_given. let g = f.given_is some_given in (g.0 ∙ sym (length-set s.views id w), g.1);
                holding = λ h. reason k u t.0 t.1 lu h;
                others = spent_stay r.log log new id v w s.views u.joined eq named at lives f.others;
              })
              (at_set s.views id k w u e);
        }

    -- what a step of a seat may do
    abbrev pub Goes : State (Option T) (View T E) → ℕ → Me (Option T) (View T E) → (ℕ → ℕ) → (ℕ → Me (Option T) (View T E) → Type 0) → Type 0
    Goes s id m f then = (w : View T E) × (a : Act (Option T)) × Valid s.homes m.1 a × Rule (stepped s 0 (f (slice_index s.words 0)) id m.1 w a)
        × then (slice_index s.words 0) (w, carried_after m.1 a)

    word_of : (s : State (Option T) (View T E)) (r : Rule s) (taken : Bool) → r.taken ≡ taken → slice_index s.words 0 ≡ 2 * length r.log + bit taken
    word_of s r taken is = ap (λ ws. slice_index ws 0) r.word ∙ ap (λ b. 2 * length r.log + bit b) is

    -- the words after a try
    words_tried : (s : State (Option T) (View T E)) (r : Rule s) → slice_set s.words 0 (bit_or (slice_index s.words 0) 1) ≡ (2 * length r.log + bit true) ∷ []
    words_tried s r = ap (λ ws. slice_set ws 0 (bit_or (slice_index ws 0) 1)) r.word ∙ ap (λ n. n ∷ []) (or_one (length r.log) r.taken)

    -- a try finds the value taken
    misses : (s : State (Option T) (View T E)) (r : Rule s) (id : ℕ) (v : View T E) (st : Step (Option T)) → get_elem? s.views id ≡ some v → v.live ≡ true → v.holds ≡ false
        → r.taken ≡ true → Goes s id (v, []) (λ n. bit_or n 1) (grabbed entries root maker st (v, []))
    misses s r id v st at lives free is =
        let f = r.each id v at lives in
        let found = word_of s r true is in
        let odd : slice_index s.words 0 % 2 ≡ 1 = omega arith in
        let same : r.log ≡ r.log ++ [] = sym (append-nil r.log) in
        let h = r.held is in
        let apart : r.holder ≢ id = λ q. off (sym free ∙ (ap (λ (x : View T E). x.holds) (some-injective _ _ (sym at ∙ (ap (λ i. get_elem? s.views i) (sym q) ∙ h.1))) ∙ h.3)) in (
          missed v,
          keeps,
          tt,
          moved s r id v (missed v) at lives r.log [] true r.holder _ s.homes same tt r.small (words_tried s r)
              (λ q. absurd (true≢false q))
              (λ _. (h.0, set_else s.views id r.holder (missed v) apart ∙ h.1, h.2, h.3))
              (λ k u _ e lu hu. let g = (r.each k u e lu).holding hu in (refl, g.1, g.2))
              record {
                number_is = f.number_is;
                origin_is = f.origin_is;
                told = f.told;
                given_is = λ some_given. let g = f.given_is some_given in (g.0 ∙ sym (length-set s.views id (missed v)), g.1);
                holding = λ h. absurd (off (sym free ∙ h));
                others = spent_stay r.log r.log [] id v (missed v) s.views v.joined same tt at lives f.others;
              },
          (λ _. refl, λ even. absurd (omega arith)),
        )

    -- a try finds the value
    wins : (s : State (Option T) (View T E)) (r : Rule s) (id : ℕ) (v : View T E) (st : Step (Option T)) → get_elem? s.views id ≡ some v → v.live ≡ true → v.holds ≡ false
        → r.taken ≡ false → Goes s id (v, []) (λ n. bit_or n 1) (grabbed entries root maker st (v, []))
    wins s r id v st at lives free is =
        let f = r.each id v at lives in
        let found = word_of s r false is in
        let even : slice_index s.words 0 % 2 ≡ 0 = omega arith in
        let same : r.log ≡ r.log ++ [] = sym (append-nil r.log) in
        let h = r.home is in
        let w = took v (entries h.0) in (
          w,
          takes 0 (Some h.0),
          h.1,
          moved s r id v w at lives r.log [] true id _ _ same tt r.small (words_tried s r)
              (λ q. absurd (true≢false q))
              (λ _. (w, set_here s.views id w (at_inside s.views id v at), lives, refl))
              (λ k u _ e lu hu. absurd (off (sym is ∙ ((r.each k u e lu).holding hu).0)))
              record {
                number_is = f.number_is;
                origin_is = f.origin_is;
                told = (subst (λ l. StartsWith r.log l) (sym h.2) (starts_all r.log), f.told.1);
                given_is = λ some_given. let g = f.given_is some_given in (g.0 ∙ sym (length-set s.views id w), g.1);
                holding = λ _. (refl, refl, h.2);
                others = spent_stay r.log r.log [] id v w s.views v.joined same tt at lives f.others;
              },
          (
            λ odd. absurd (omega arith),
            λ _. (
              h.0,
              refl,
              (
                subst (λ l. StartsWith l v.own.seen) (sym h.2) f.told.0,
                ap (by maker v.own.number) h.2 ∙ f.told.1,
                subst (λ o. HasRoot entries root maker o h.0) (sym f.origin_is) h.3,
              ),
            ),
          ),
        )

    -- a try
    pub grabs : (slots : ℕ) (id : ℕ) (v : View T E) (st : Step (Option T)) → v.live ≡ true → v.holds ≡ false
        → Allows Rule slots id (v, []) 0 (λ n. bit_or n 1) (grabbed entries root maker st (v, []))
    grabs slots id v st lives free s r wide at fits =
        let go : (b : Bool) → r.taken ≡ b → Goes s id (v, []) (λ n. bit_or n 1) (grabbed entries root maker st (v, []))
        = elim [ true ↦ misses s r id v st at lives free | false ↦ wins s r id v st at lives free ] in
        go r.taken refl

    -- the value goes back with entries that its holder added
    pub releases : (slots : ℕ) (id : ℕ) (v : View T E) (value : T) (rest : List (ℕ × Option T)) (m : Me (Option T) (View T E)) (word : ℕ) (st : Step (Option T))
        → slots ≡ 1 → m ≡ (v, (0, Some value) ∷ rest) → v.live ≡ true → v.holds ≡ true → root value ≡ root origin
        → StartsWith (entries value) v.own.seen → Names maker v.own.number (drop (length v.own.seen) (entries value)) → length (entries value) < 2 ^ 62
        → word ≡ 2 * length (entries value)
        → Allows Rule slots id m 0 (λ _. word) (λ _. released entries st m word)
    releases slots id v value rest m word st one is lives holds_it rooted starts named few count =
        subst (λ (x : Me (Option T) (View T E)). Allows Rule slots id x 0 (λ _. word) (λ _. released entries st x word)) (sym is) go
      where
        go : Allows Rule slots id (v, (0, Some value) ∷ rest) 0 (λ _. word) (λ _. released entries st (v, (0, Some value) ∷ rest) word)
        go s r wide at fits =
            let f = r.each id v at lives in
            let mine = f.holding holds_it in
            let new = drop (length v.own.seen) (entries value) in
            let whole : entries value ≡ v.own.seen ++ new = starts.1 ∙ ap (λ l. v.own.seen ++ l) (sym (front_rest (entries value) v.own.seen starts.0 starts.1)) in
            let eq : entries value ≡ r.log ++ new = whole ∙ ap (λ l. l ++ new) mine.2 in
            let named' : Names maker id new = subst (λ n. Names maker n new) f.number_is named in
            let w = gave v (entries value) in
            let told : by maker v.own.number (entries value) ≡ v.own.mine ++ new = ap (by maker v.own.number) eq ∙ tells_own maker r.log new v.own named f.told in
            let words : slice_set s.words 0 word ≡ (2 * length (entries value) + bit false) ∷ [] = ap (λ ws. slice_set ws 0 word) r.word ∙ ap (λ n. n ∷ []) (let e : word ≡ 2 * length (entries value) + 0 = omega arith in e) in
            let there : 0 < length s.homes = omega arith in (
              w,
              gives,
              tt,
              moved s r id v w at lives (entries value) new false r.holder _ _ eq named' few words
                  (λ _. (value, set_here s.homes 0 (some (Some value)) there, refl, rooted))
                  (λ q. absurd (off q))
                  (λ k u ne e lu hu. absurd (ne (((r.each k u e lu).holding hu).1 ∙ sym mine.1)))
                  record {
                    number_is = f.number_is;
                    origin_is = f.origin_is;
                    told = (starts_all (entries value), told);
                    given_is = λ some_given. let g = f.given_is some_given in (g.0 ∙ sym (length-set s.views id w), g.1);
                    holding = λ h. absurd (off h);
                    others = spent_stay r.log (entries value) new id v w s.views v.joined eq named' at lives f.others;
                  },
              refl,
            )
