-- The list of the states of all cores, from their numbers.
use Rattle.std.proofs.Common.{◌≡◌, ◌≢◌, ℕ, zero, suc, ◌+◌, ◌<◌, Bool, true, false, List, [], ◌∷◌, length, get_or, set, Some, refl, sym, ap, subst, ◌∙◌, arith, add-zero, zero-add}
use Rattle.std.specs.Prelude.{◌==◌, nat_lt, IsSome}
use Rattle.std.proofs.lemmas.Bool.{eq-eqb, eqb-true, eqb-false, ltb-true}
use Rattle.std.proofs.lemmas.List.{ext_get_or, get_or-set_same, get_or-set_other, length-set}
use Rattle.pg_perm.proofs.Booleans.{and_true}
use Rattle.pg_perm.specs.declared.draft.Draft.{Draft}
use Rattle.pg_terms.specs.Terms.{take_row}
use Rattle.pg_directory.specs.DirEntries.{Request, is_among, without_core}
use Rattle.pg_directory.proofs.Cores.{are_below, among_without_same}
use Rattle.pg_directory.specs.Sends.{forward_sent}
use Rattle.pg_atomic.specs.States.{State, state_of, next_by_forward, core_next, requestor_end, each_from, after_transaction}
use Rattle.pg_atomic.specs.Safety.{HasItsRows}

pub length-each : (f : ℕ → ℕ → ℕ) (i : ℕ) (xs : List ℕ) → length (each_from f i xs) ≡ length xs
length-each f i [] = refl
length-each f i (x ∷ xs) = ap suc (length-each f (i + 1) xs)

-- the state of the core k places after the first
get_or-each : (f : ℕ → ℕ → ℕ) (i k : ℕ) (xs : List ℕ) → k < length xs → get_or (each_from f i xs) k 0 ≡ f (i + k) (get_or xs k 0)
get_or-each f i k [] h = absurd (omega (arith, h))
get_or-each f i zero (x ∷ xs) h = ap (λ n. f n x) (sym (add-zero i))
get_or-each f i (suc k) (x ∷ xs) h =
    let next : (i + 1) + k ≡ i + suc k = omega arith in
    get_or-each f (i + 1) k xs (omega (arith, h)) ∙ ap (λ n. f n (get_or xs k 0)) next

-- a list that has each state is that list
each_is : (f : ℕ → ℕ → ℕ) (xs ys : List ℕ) → length ys ≡ length xs → ((k : ℕ) → k < length xs → get_or ys k 0 ≡ f k (get_or xs k 0)) → ys ≡ each_from f 0 xs
each_is f xs ys same h = ext_get_or 0 ys (each_from f 0 xs) (same ∙ sym (length-each f 0 xs)) (λ k b.
    let inside : k < length xs = omega (arith, b, same) in
    let first : 0 + k ≡ k = omega arith in
    h k inside ∙ sym (get_or-each f 0 k xs inside ∙ ap (λ n. f n (get_or xs k 0)) first))

-- all but those left have moved, and these haven't yet
pub record HasMoved (f : ℕ → ℕ → ℕ) (a b : State) (left : List ℕ) : Type 0 where
  pub entry : b.entry ≡ a.entry
  pub word : b.word ≡ a.word
  pub cores : length b.states ≡ length a.states
  pub moved : (k : ℕ) → is_among left k ≡ false → get_or b.states k 0 ≡ f k (get_or a.states k 0)
  pub waiting : (k : ℕ) → is_among left k ≡ true → get_or b.states k 0 ≡ get_or a.states k 0
  pub below : are_below (length a.states) left ≡ true

-- the first of those left is a core that there is
pub first_below : (n c : ℕ) (left : List ℕ) → are_below n (c ∷ left) ≡ true → c < n
first_below n c left h = ltb-true c n (and_true (nat_lt c n) (are_below n left) h).0

-- at first nothing has moved, where those that aren't left stay
pub none_moved : (f : ℕ → ℕ → ℕ) (a : State) (left : List ℕ) → ((k : ℕ) → is_among left k ≡ false → f k (get_or a.states k 0) ≡ get_or a.states k 0)
    → are_below (length a.states) left ≡ true → HasMoved f a a left
none_moved f a left stay below = record {
  entry = refl;
  word = refl;
  cores = refl;
  moved = λ k h. sym (stay k h);
  waiting = λ k h. refl;
  below = below;
}

pub one_moves : (f : ℕ → ℕ → ℕ) (a b : State) (c x : ℕ) (left rest : List ℕ) → HasMoved f a b left → left ≡ c ∷ rest → rest ≡ without_core c left
    → x ≡ f c (get_or a.states c 0) → HasMoved f a (record b { states = set b.states c x }) rest
one_moves f a b c x left rest before first gone e =
    let below : are_below (length a.states) (c ∷ rest) ≡ true = subst (λ xs. are_below (length a.states) xs ≡ true) first before.below in
    let inside : c < length b.states = omega (arith, first_below (length a.states) c rest below, before.cores) in
    record {
      entry = before.entry;
      word = before.word;
      cores = length-set b.states c x ∙ before.cores;
      moved = λ k h. moves below inside k h (c == k) refl;
      waiting = λ k h. waits k h (c == k) refl;
      below = (and_true (nat_lt c (length a.states)) (are_below (length a.states) rest) below).1;
    }
  where
    moves : are_below (length a.states) (c ∷ rest) ≡ true → c < length b.states → (k : ℕ) → is_among rest k ≡ false → (t : Bool) → (c == k) ≡ t
        → get_or (set b.states c x) k 0 ≡ f k (get_or a.states k 0)
    moves below inside k h true g =
        let same : c ≡ k = eqb-true c k g in
        subst (λ n. get_or (set b.states c x) n 0 ≡ f n (get_or a.states n 0)) same (get_or-set_same b.states c x 0 inside ∙ e)
    moves below inside k h false g =
        let out : is_among (c ∷ rest) k ≡ false = rw g h in
        get_or-set_other b.states c k x 0 (λ q. eqb-false c k g (sym q)) ∙ before.moved k (subst (λ xs. is_among xs k ≡ false) (sym first) out)

    waits : (k : ℕ) → is_among rest k ≡ true → (t : Bool) → (c == k) ≡ t → get_or (set b.states c x) k 0 ≡ get_or a.states k 0
    waits k h true g =
        let same : c ≡ k = eqb-true c k g in
        let out : is_among rest c ≡ false = subst (λ xs. is_among xs c ≡ false) (sym gone) (among_without_same c left) in
        let inside : is_among rest c ≡ true = subst (λ n. is_among rest n ≡ true) (sym same) h in
        absurd (cc (sym out ∙ inside))
    waits k h false g =
        let among : is_among (c ∷ rest) k ≡ true = rw g h in
        get_or-set_other b.states c k x 0 (λ q. eqb-false c k g (sym q)) ∙ before.waiting k (subst (λ xs. is_among xs k ≡ true) (sym first) among)

pub all_moved : (f : ℕ → ℕ → ℕ) (a b : State) → HasMoved f a b [] → b ≡ record a { states = each_from f 0 a.states }
all_moved f a b before =
    let moved : b.states ≡ each_from f 0 a.states = each_is f a.states b.states before.cores (λ k h. before.moved k refl) in
    ap (λ xs. record b { states = xs }) moved ∙ ap (λ s. record b { states = each_from f 0 a.states; entry = s }) before.entry
    ∙ ap (λ w. record a { states = each_from f 0 a.states; word = w }) before.word

-- where a request leads a core that hasn't moved yet is where it led it at first
pub leads_as_first : (d : Draft) (q : Request) (f : ℕ → ℕ → ℕ) (a b : State) (c : ℕ) (left : List ℕ) → HasMoved f a b left → is_among left c ≡ true
    → next_by_forward d b.entry q c (state_of b c) ≡ next_by_forward d a.entry q c (state_of a c)
leads_as_first d q f a b c left before among =
    ap (λ s. next_by_forward d s q c (state_of b c)) before.entry ∙ ap (next_by_forward d a.entry q c) (before.waiting c among)

-- it has the row for its forward that it had at first
pub has_its_row : (d : Draft) (q : Request) (f : ℕ → ℕ → ℕ) (a b : State) (c : ℕ) (left : List ℕ) → HasItsRows d a q → HasMoved f a b left
    → is_among left c ≡ true → (m : ℕ) → forward_sent d b.entry q c ≡ Some m → IsSome (take_row d (state_of b c) m)
has_its_row d q f a b c left rows before among m e =
    let (t, at) = rows.takes c m (ap (λ s. forward_sent d s q c) (sym before.entry) ∙ e) in
    subst (λ x. IsSome (take_row d x m)) (sym (before.waiting c among)) (subst IsSome (sym at) refl)

-- the first is among them
pub first_among : (c : ℕ) (left rest : List ℕ) → left ≡ c ∷ rest → is_among left c ≡ true
first_among c left rest first =
    let same : (c == c) ≡ true = eq-eqb c c refl in
    let here : is_among (c ∷ rest) c ≡ true = rw same refl in
    subst (λ xs. is_among xs c ≡ true) (sym first) here

-- the requestor moves to the state in which it ends
at_requestor : (d : Draft) (a : State) (q : Request) (x : ℕ) → core_next d a q q.core x ≡ requestor_end d a q.core q.event
at_requestor d a q x = let same : (q.core == q.core) ≡ true = eq-eqb q.core q.core refl in rw same refl

-- a whole transaction: the others take their forwards, and the requestor ends
pub requestor_moves : (d : Draft) (a : State) (q : Request) → q.core < length a.states
    → set (each_from (next_by_forward d a.entry q) 0 a.states) q.core (requestor_end d a q.core q.event) ≡ each_from (core_next d a q) 0 a.states
requestor_moves d a q inside =
    let others : List ℕ = each_from (next_by_forward d a.entry q) 0 a.states in
    let end : ℕ = requestor_end d a q.core q.event in
    let cores : length others ≡ length a.states = length-each (next_by_forward d a.entry q) 0 a.states in
    each_is (core_next d a q) a.states (set others q.core end) (length-set others q.core end ∙ cores) (λ k h. at k h (q.core == k) refl)
  where
    at : (k : ℕ) → k < length a.states → (b : Bool) → (q.core == k) ≡ b
        → get_or (set (each_from (next_by_forward d a.entry q) 0 a.states) q.core (requestor_end d a q.core q.event)) k 0 ≡ core_next d a q k (get_or a.states k 0)
    at k h true e =
        let same : q.core ≡ k = eqb-true q.core k e in
        let length_others = length-each (next_by_forward d a.entry q) 0 a.states in
        subst (λ n. get_or (set (each_from (next_by_forward d a.entry q) 0 a.states) q.core (requestor_end d a q.core q.event)) n 0 ≡ core_next d a q n (get_or a.states n 0)) same
        (get_or-set_same (each_from (next_by_forward d a.entry q) 0 a.states) q.core (requestor_end d a q.core q.event) 0 (omega (arith, inside, length_others))
        ∙ sym (at_requestor d a q (get_or a.states q.core 0)))
    at k h false e =
        let apart : k ≢ q.core = λ g. eqb-false q.core k e (sym g) in
        get_or-set_other (each_from (next_by_forward d a.entry q) 0 a.states) q.core k (requestor_end d a q.core q.event) 0 apart
        ∙ get_or-each (next_by_forward d a.entry q) 0 k a.states h ∙ (rw e (ap (λ n. next_by_forward d a.entry q n (get_or a.states k 0)) (zero-add k)))

pub length-after_transaction : (d : Draft) (a : State) (q : Request) → length (after_transaction d a q).states ≡ length a.states
length-after_transaction d a q = length-each (core_next d a q) 0 a.states

-- after a transaction the requestor is in the state in which it ends
pub requestor_ends : (d : Draft) (a : State) (q : Request) → q.core < length a.states → state_of (after_transaction d a q) q.core ≡ requestor_end d a q.core q.event
requestor_ends d a q inside =
    get_or-each (core_next d a q) 0 q.core a.states inside ∙ ap (λ n. core_next d a q n (state_of a q.core)) (zero-add q.core) ∙ at_requestor d a q (state_of a q.core)
