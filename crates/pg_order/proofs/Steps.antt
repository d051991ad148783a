-- What stays when one core catches up with the next entry that touches it.
use Rattle.std.proofs.Common.{◌≡◌, ◌≢◌, ℕ, suc, ◌+◌, ◌<◌, ◌≤◌, arith, Bool, true, false, ◌&&◌, ◌||◌, cond, List, [], ◌∷◌, Option, Some, None, refl, sym, ap, subst, ◌∙◌, ◌⊎◌, inl, inr}
use Rattle.std.specs.Prelude.{◌==◌, nat_lt, is_some}
use Rattle.std.proofs.lemmas.Bool.{eqb-true, le-ltb, lt-ltb}
use Rattle.pg_perm.specs.declared.kinds.Event.TheVariants.{Store, Evict}
use Rattle.pg_perm.specs.declared.kinds.FwdClass.TheVariants.{Inv}
use Rattle.pg_perm.specs.declared.draft.Draft.{Draft}
use Rattle.pg_terms.specs.Terms.{forward_of}
use Rattle.pg_shape.specs.Shaped.{IsShaped}
use Rattle.pg_directory.specs.DirEntries.{DirEntry, Request, is_among, without_core}
use Rattle.pg_directory.specs.Sends.{forward_sent}
use Rattle.pg_directory.specs.Sound.{IsSound}
use Rattle.pg_directory.specs.Requests.{IsHandled}
use Rattle.pg_directory.proofs.Cores.{among_without_same, among_without_other}
use Rattle.pg_directory.proofs.OfKind.{forward_sent-some}
use Rattle.pg_directory.proofs.Untouched.{sharer_inv}
use Rattle.pg_order.specs.Messages.{tally}
use Rattle.pg_order.specs.Orders.{DirOrder, passed_forward, entry_message}
use Rattle.pg_order.specs.Views.{View, is_open_at, is_unserved, IsWaiting, acks_owed}
use Rattle.pg_order.proofs.Known.{IsKnown}
use Rattle.pg_order.proofs.OneEntry.{passed_is, sent_not_own}
use Rattle.pg_order.proofs.Quiet.{quiet_sends}

-- core c has caught up with entry g, and nothing else has changed
pub record IsStep (d : Draft) (p : DirOrder) (v u : View) (c g : ℕ) : Type 0 where
  pub last : (e : ℕ) → u.last e ≡ v.last e
  pub pending : (e : ℕ) → u.pending e ≡ v.pending e
  pub others : (e : ℕ) → (c == e) ≡ false → u.seen e ≡ v.seen e
  pub seen : u.seen c ≡ suc g
  pub low : v.seen c ≤ g
  pub quiet : (j : ℕ) → v.seen c ≤ j → j < g → entry_message d p c j ≡ None

pub open_other : (d : Draft) (p : DirOrder) (v u : View) (c g : ℕ) → IsStep d p v u c g → (j o : ℕ) → (c == o) ≡ false → is_open_at u j (Some o) ≡ is_open_at v j (Some o)
open_other d p v u c g h j o ne = rw (h.others o ne, h.pending o, h.last o) refl

open_before : (d : Draft) (p : DirOrder) (v u : View) (c g : ℕ) → IsStep d p v u c g → (j : ℕ) → suc j ≤ v.seen c → is_open_at u j (Some c) ≡ is_open_at v j (Some c)
open_before d p v u c g h j low =
    let seen = h.seen in let from = h.low in
    let past : nat_lt (u.seen c) (suc j) ≡ false = le-ltb (u.seen c) (suc j) (omega (arith, seen, from, low)) in
    let was : nat_lt (v.seen c) (suc j) ≡ false = le-ltb (v.seen c) (suc j) low in
    rw (past, was, h.pending c, h.last c) refl

open_after : (d : Draft) (p : DirOrder) (v u : View) (c g : ℕ) → IsStep d p v u c g → (j : ℕ) → g < j → is_open_at u j (Some c) ≡ is_open_at v j (Some c)
open_after d p v u c g h j low =
    let seen = h.seen in let from = h.low in
    let still : nat_lt (u.seen c) (suc j) ≡ true = lt-ltb (u.seen c) (suc j) (omega (arith, seen, low)) in
    let was : nat_lt (v.seen c) (suc j) ≡ true = lt-ltb (v.seen c) (suc j) (omega (arith, from, low)) in
    rw (still, was) refl

pub quiet_passes_nothing : (d : Draft) (p : DirOrder) (c j : ℕ) → (p.dir_entry j).owner ≡ Some c → entry_message d p c j ≡ None → passed_forward d (p.dir_entry j) (p.at j) ≡ None
quiet_passes_nothing d p c j owner none = at ((p.at j).core == c) refl
  where
    at : (b : Bool) → ((p.at j).core == c) ≡ b → passed_forward d (p.dir_entry j) (p.at j) ≡ None
    at true own = passed_is d (p.dir_entry j) (p.at j) c owner ∙ sent_not_own d (p.dir_entry j) (p.at j) c own
    at false ne = passed_is d (p.dir_entry j) (p.at j) c owner ∙ quiet_sends d (p.dir_entry j) (p.at j) (suc j) c ne none

-- no other entry is served by it, and none becomes unserved
pub unserved_same : (d : Draft) (p : DirOrder) (v u : View) (c g : ℕ) → IsStep d p v u c g → (j : ℕ) → j ≢ g → is_unserved d p u j ≡ is_unserved d p v j
unserved_same d p v u c g h j apart = at (p.dir_entry j).owner refl
  where
    opens : (o : ℕ) → (p.dir_entry j).owner ≡ Some o → is_open_at u j (Some o) ≡ is_open_at v j (Some o) → is_unserved d p u j ≡ is_unserved d p v j
    opens o e same = ap (λ b. is_some (passed_forward d (p.dir_entry j) (p.at j)) && b) (ap (is_open_at u j) e ∙ same ∙ ap (is_open_at v j) (sym e))

    nothing : passed_forward d (p.dir_entry j) (p.at j) ≡ None → is_unserved d p u j ≡ is_unserved d p v j
    nothing e = ap (λ (t : Option ℕ). is_some t && is_open_at u j (p.dir_entry j).owner) e ∙ sym (ap (λ (t : Option ℕ). is_some t && is_open_at v j (p.dir_entry j).owner) e)

    own : (p.dir_entry j).owner ≡ Some c → is_unserved d p u j ≡ is_unserved d p v j
    own e = elim (let split : (suc j ≤ v.seen c) ⊎ (v.seen c ≤ j) = search arith in split) [
      | inl low ↦ opens c e (open_before d p v u c g h j low)
      | inr from ↦ elim (let split : (j < g) ⊎ (g < j) = search arith in split) [
        | inl hi ↦ nothing (quiet_passes_nothing d p c j e (h.quiet j from hi))
        | inr past ↦ opens c e (open_after d p v u c g h j past)
      ]
    ]

    by : (o : ℕ) → (p.dir_entry j).owner ≡ Some o → (b : Bool) → (c == o) ≡ b → is_unserved d p u j ≡ is_unserved d p v j
    by o e true same = own (e ∙ ap Some (sym (eqb-true c o same)))
    by o e false ne = opens o e (open_other d p v u c g h j o ne)

    at : (o : Option ℕ) → (p.dir_entry j).owner ≡ o → is_unserved d p u j ≡ is_unserved d p v j
    at None e = nothing (rw e refl)
    at (Some o) e = by o e (c == o) refl

-- what isn't served afterwards wasn't served before
pub still_unserved : (d : Draft) (p : DirOrder) (v u : View) (c g : ℕ) → IsStep d p v u c g → (is_unserved d p u g ≡ true → is_unserved d p v g ≡ true)
    → (j : ℕ) → is_unserved d p u j ≡ true → is_unserved d p v j ≡ true
still_unserved d p v u c g h at j e = elim (let split : (j ≡ g) ⊎ ((j < g) ⊎ (g < j)) = search arith in split) [
  | inl same ↦ subst (λ j. is_unserved d p v j ≡ true) (sym same) (at (subst (λ j. is_unserved d p u j ≡ true) same e))
  | inr (inl low) ↦ sym (unserved_same d p v u c g h j (λ same. omega (arith, same, low))) ∙ e
  | inr (inr hi) ↦ sym (unserved_same d p v u c g h j (λ same. omega (arith, same, hi))) ∙ e
]

seen_grows : (d : Draft) (p : DirOrder) (v u : View) (c g : ℕ) → IsStep d p v u c g → (e : ℕ) → v.seen e ≤ u.seen e
seen_grows d p v u c g h e = at (c == e) refl
  where
    at : (b : Bool) → (c == e) ≡ b → v.seen e ≤ u.seen e
    at true same = let seen = h.seen in let low = h.low in subst (λ e. v.seen e ≤ u.seen e) (eqb-true c e same) (omega (arith, seen, low))
    at false ne = let same = h.others e ne in omega (arith, same)

pub waiting_stays : (d : Draft) (p : DirOrder) (v u : View) (c g : ℕ) → IsStep d p v u c g → (is_unserved d p u g ≡ true → is_unserved d p v g ≡ true) → IsWaiting d p v → IsWaiting d p u
waiting_stays d p v u c g h at w = record {
  lasts = λ j low. subst (λ k. suc j ≤ k) (sym (h.last (p.at j).core)) (w.lasts j low);
  forwards = λ j low e. let (last, pend) = w.forwards j low (still_unserved d p v u c g h at j e) in (h.last (p.at j).core ∙ last, h.pending (p.at j).core ∙ pend);
  invs = λ j e f low sends class lt.
      let grows = seen_grows d p v u c g h e in
      let (last, pend) = w.invs j e f low sends class (omega (arith, grows, lt)) in (h.last (p.at j).core ∙ last, h.pending (p.at j).core ∙ pend);
  shares = λ j f low e to class. w.shares j f low (still_unserved d p v u c g h at j e) to class;
}

-- Acknowledgements

-- a store sends an invalidation to each sharer
pub inv_sent : (d : Draft) (n : ℕ) (s : DirEntry) (q : Request) (c : ℕ) → IsShaped d → IsSound d n s → IsHandled d n s q → q.event ≡ Store → (q.core == c) ≡ false → is_among s.sharers c ≡ true
    → (f : ℕ) × (forward_sent d s q c ≡ Some f) × (forward_of d Inv ≡ Some f)
inv_sent d n s q c sh so h store ne among =
    let (f, inv) = sharer_inv d n s sh so c among in
    let (r, row) = h.row (λ e. absurd (let x : Store ≡ Evict = sym store ∙ e in cc)) in
    (f, forward_sent-some d s q c r row ∙ (rw (ne, store, among) inv), inv)

pub to_sharer : (d : Draft) (p : DirOrder) (c j f : ℕ) → ((p.at j).core == c) ≡ false → forward_sent d (p.dir_entry j) (p.at j) c ≡ Some f → entry_message d p c j ≢ None
to_sharer d p c j f ne sends none = let x = sym (quiet_sends d (p.dir_entry j) (p.at j) (suc j) c ne none) ∙ sends in cc

pub count_same : (a b : ℕ → Bool) (xs : List ℕ) → ((x : ℕ) → is_among xs x ≡ true → a x ≡ b x) → tally a xs ≡ tally b xs
count_same a b [] same = refl
count_same a b (x ∷ xs) same =
    let first : a x ≡ b x = same x (rw (eqb-same x) refl) in
    let rest : tally a xs ≡ tally b xs = count_same a b xs (λ y h. same y (or_right (x == y) (is_among xs y) h)) in
    ap (λ t. cond t 1 0 + tally a xs) first ∙ ap (λ t. cond (b x) 1 0 + t) rest
  where
    eqb-same : (x : ℕ) → (x == x) ≡ true
    eqb-same x = search arith

    or_right : (s t : Bool) → t ≡ true → (s || t) ≡ true
    or_right true t h = refl
    or_right false t h = h

-- the sharers that an entry waits for are those that it waited for
pub owed_same : (d : Draft) (n : ℕ) (p : DirOrder) (v u : View) (c g : ℕ) → IsShaped d → IsKnown d n p → IsStep d p v u c g
    → (j : ℕ) → j < p.top → (p.at j).event ≡ Store → ((f : ℕ) → j ≡ g → forward_sent d (p.dir_entry j) (p.at j) c ≡ Some f → forward_of d Inv ≡ Some f → ⊥) → acks_owed p u j ≡ acks_owed p v j
owed_same d n p v u c g sh k h j low store no_inv = count_same (λ x. nat_lt (u.seen x) (suc j)) (λ x. nat_lt (v.seen x) (suc j)) (without_core (p.at j).core (p.dir_entry j).sharers) (λ x among. at x among (c == x) refl)
  where
    own : is_among (without_core (p.at j).core (p.dir_entry j).sharers) c ≡ true → nat_lt (u.seen c) (suc j) ≡ nat_lt (v.seen c) (suc j)
    own among = is ((p.at j).core == c) refl
      where
        sends : ((p.at j).core == c) ≡ false → (f : ℕ) × (forward_sent d (p.dir_entry j) (p.at j) c ≡ Some f) × (forward_of d Inv ≡ Some f)
        sends ne = inv_sent d n (p.dir_entry j) (p.at j) c sh (k.sound j (omega (arith, low))) (k.handled j low) store ne (sym (among_without_other (p.at j).core c (p.dir_entry j).sharers ne) ∙ among)

        from : v.seen c ≤ j → ((p.at j).core == c) ≡ false → nat_lt (u.seen c) (suc j) ≡ nat_lt (v.seen c) (suc j)
        from lo ne = let (f, to, inv) = sends ne in elim (let split : (j < g) ⊎ ((j ≡ g) ⊎ (g < j)) = search arith in split) [
          | inl hi ↦ absurd (to_sharer d p c j f ne to (h.quiet j lo hi))
          | inr (inl same) ↦ absurd (no_inv f same to inv)
          | inr (inr past) ↦ let seen = h.seen in let was = h.low in
              lt-ltb (u.seen c) (suc j) (omega (arith, seen, past)) ∙ sym (lt-ltb (v.seen c) (suc j) (omega (arith, was, past)))
        ]

        is : (b : Bool) → ((p.at j).core == c) ≡ b → nat_lt (u.seen c) (suc j) ≡ nat_lt (v.seen c) (suc j)
        is true mine = absurd (let none = among_without_same (p.at j).core (p.dir_entry j).sharers in let same = eqb-true (p.at j).core c mine in let x : is_among (without_core (p.at j).core (p.dir_entry j).sharers) c ≡ false = subst (λ c. is_among (without_core (p.at j).core (p.dir_entry j).sharers) c ≡ false) same none in cc)
        is false ne = elim (let split : (suc j ≤ v.seen c) ⊎ (v.seen c ≤ j) = search arith in split) [
          | inl before ↦ let seen = h.seen in let was = h.low in le-ltb (u.seen c) (suc j) (omega (arith, seen, was, before)) ∙ sym (le-ltb (v.seen c) (suc j) before)
          | inr lo ↦ from lo ne
        ]

    at : (x : ℕ) → is_among (without_core (p.at j).core (p.dir_entry j).sharers) x ≡ true → (b : Bool) → (c == x) ≡ b → nat_lt (u.seen x) (suc j) ≡ nat_lt (v.seen x) (suc j)
    at x among true same = let e = eqb-true c x same in subst (λ x. nat_lt (u.seen x) (suc j) ≡ nat_lt (v.seen x) (suc j)) e (own (subst (λ y. is_among (without_core (p.at j).core (p.dir_entry j).sharers) y ≡ true) (sym e) among))
    at x among false ne = ap (λ k. nat_lt k (suc j)) (h.others x ne)

-- an entry that its owner has put off isn't served
pub unserved_kept : (d : Draft) (p : DirOrder) (v u : View) (c g : ℕ) → IsStep d p v u c g → v.pending c ≡ true → v.last c ≤ g → is_unserved d p u g ≡ is_unserved d p v g
unserved_kept d p v u c g h pend later = at (p.dir_entry g).owner refl
  where
    opens : (o : ℕ) → (p.dir_entry g).owner ≡ Some o → is_open_at u g (Some o) ≡ is_open_at v g (Some o) → is_unserved d p u g ≡ is_unserved d p v g
    opens o e same = ap (λ b. is_some (passed_forward d (p.dir_entry g) (p.at g)) && b) (ap (is_open_at u g) e ∙ same ∙ ap (is_open_at v g) (sym e))

    or_true : (b : Bool) → (b || true) ≡ true
    or_true true = refl
    or_true false = refl

    own : is_open_at u g (Some c) ≡ is_open_at v g (Some c)
    own =
        let low = h.low in let same = h.last c in
        let was : nat_lt (v.seen c) (suc g) ≡ true = lt-ltb (v.seen c) (suc g) (omega (arith, low)) in
        let put_off : nat_lt (u.last c) (suc g) ≡ true = lt-ltb (u.last c) (suc g) (omega (arith, same, later)) in
        let now : is_open_at u g (Some c) ≡ true = rw (h.pending c, pend, put_off) (or_true (nat_lt (u.seen c) (suc g))) in
        let before : is_open_at v g (Some c) ≡ true = rw was refl in now ∙ sym before

    by : (o : ℕ) → (p.dir_entry g).owner ≡ Some o → (b : Bool) → (c == o) ≡ b → is_unserved d p u g ≡ is_unserved d p v g
    by o e true same = opens c (e ∙ ap Some (sym (eqb-true c o same))) own
    by o e false ne = opens o e (open_other d p v u c g h g o ne)

    at : (o : Option ℕ) → (p.dir_entry g).owner ≡ o → is_unserved d p u g ≡ is_unserved d p v g
    at None e = ap (λ b. is_some (passed_forward d (p.dir_entry g) (p.at g)) && b) (ap (is_open_at u g) e ∙ ap (is_open_at v g) (sym e))
    at (Some o) e = by o e (c == o) refl

-- then all is served as it was
pub all_unserved_same : (d : Draft) (p : DirOrder) (v u : View) (c g : ℕ) → IsStep d p v u c g → is_unserved d p u g ≡ is_unserved d p v g → (j : ℕ) → is_unserved d p u j ≡ is_unserved d p v j
all_unserved_same d p v u c g h at j = elim (let split : (j ≡ g) ⊎ ((j < g) ⊎ (g < j)) = search arith in split) [
  | inl same ↦ subst (λ j. is_unserved d p u j ≡ is_unserved d p v j) (sym same) at
  | inr (inl low) ↦ unserved_same d p v u c g h j (λ same. omega (arith, same, low))
  | inr (inr hi) ↦ unserved_same d p v u c g h j (λ same. omega (arith, same, hi))
]
