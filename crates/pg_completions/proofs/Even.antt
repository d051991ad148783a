-- What stays when one core has moved on, and all that is served and all that is owed is as it was.
use Rattle.std.proofs.Common.{◌≡◌, ℕ, suc, ◌<◌, ◌≤◌, arith, Bool, true, false, ◌&&◌, ◌||◌, Option, Some, None, refl, sym, ap, subst, ◌∙◌, ◌⊎◌, inl, inr}
use Rattle.std.specs.Prelude.{◌==◌, nat_lt, is_some}
use Rattle.std.proofs.lemmas.Bool.{eqb-true, le-ltb, lt-ltb, ltb-true}
use Rattle.pg_perm.specs.declared.kinds.Event.TheVariants.{Store}
use Rattle.pg_perm.specs.declared.kinds.FwdClass.TheVariants.{Inv}
use Rattle.pg_perm.specs.declared.draft.Draft.{Draft}
use Rattle.pg_terms.specs.Terms.{forward_of, has_class}
use Rattle.pg_shape.specs.Shaped.{IsShaped}
use Rattle.pg_directory.specs.DirEntries.{is_among, without_core}
use Rattle.pg_directory.specs.Sends.{forward_sent}
use Rattle.pg_directory.proofs.Cores.{among_without_same, among_without_other}
use Rattle.pg_directory.proofs.Facts.{is_first_of_class}
use Rattle.pg_order.specs.Orders.{DirOrder, passed_forward}
use Rattle.pg_order.specs.Views.{View, is_open_at, is_unserved, acks_owed}
use Rattle.pg_order.proofs.Known.{IsKnown}
use Rattle.pg_order.proofs.Steps.{inv_sent, count_same}
use Rattle.pg_order.proofs.OneEntry.{passed_is}

-- only core c has moved, and what it may have to serve or to answer is what it was
pub record IsEven (d : Draft) (p : DirOrder) (v u : View) (c : ℕ) : Type 0 where
  pub last : (e : ℕ) → u.last e ≡ v.last e
  pub others : (e : ℕ) → (c == e) ≡ false → (u.seen e ≡ v.seen e) × (u.pending e ≡ v.pending e)
  pub opens : (j : ℕ) → (p.dir_entry j).owner ≡ Some c → (passed_forward d (p.dir_entry j) (p.at j) ≡ None) ⊎ (is_open_at u j (Some c) ≡ is_open_at v j (Some c))
  pub sees : (j f : ℕ) → forward_sent d (p.dir_entry j) (p.at j) c ≡ Some f → forward_of d Inv ≡ Some f → nat_lt (u.seen c) (suc j) ≡ nat_lt (v.seen c) (suc j)

-- all is served as it was
pub unserved_even : (d : Draft) (p : DirOrder) (v u : View) (c : ℕ) → IsEven d p v u c → (j : ℕ) → is_unserved d p u j ≡ is_unserved d p v j
unserved_even d p v u c h j = at (p.dir_entry j).owner refl
  where
    opens : (o : ℕ) → (p.dir_entry j).owner ≡ Some o → is_open_at u j (Some o) ≡ is_open_at v j (Some o) → is_unserved d p u j ≡ is_unserved d p v j
    opens o e same = ap (λ b. is_some (passed_forward d (p.dir_entry j) (p.at j)) && b) (ap (is_open_at u j) e ∙ same ∙ ap (is_open_at v j) (sym e))

    nothing : passed_forward d (p.dir_entry j) (p.at j) ≡ None → is_unserved d p u j ≡ is_unserved d p v j
    nothing e = ap (λ (t : Option ℕ). is_some t && is_open_at u j (p.dir_entry j).owner) e ∙ sym (ap (λ (t : Option ℕ). is_some t && is_open_at v j (p.dir_entry j).owner) e)

    own : (p.dir_entry j).owner ≡ Some c → is_unserved d p u j ≡ is_unserved d p v j
    own e = elim (h.opens j e) [ inl none ↦ nothing none | inr same ↦ opens c e same ]

    by : (o : ℕ) → (p.dir_entry j).owner ≡ Some o → (b : Bool) → (c == o) ≡ b → is_unserved d p u j ≡ is_unserved d p v j
    by o e true same = own (e ∙ ap Some (sym (eqb-true c o same)))
    by o e false ne = let (seen, pend) = h.others o ne in opens o e (rw (seen, pend, h.last o) refl)

    at : (o : Option ℕ) → (p.dir_entry j).owner ≡ o → is_unserved d p u j ≡ is_unserved d p v j
    at None e = nothing (rw e refl)
    at (Some o) e = by o e (c == o) refl

-- and the same is owed
pub owed_even : (d : Draft) (n : ℕ) (p : DirOrder) (v u : View) (c : ℕ) → IsShaped d → IsKnown d n p → IsEven d p v u c → (j : ℕ) → j < p.top → (p.at j).event ≡ Store → acks_owed p u j ≡ acks_owed p v j
owed_even d n p v u c sh k h j low store = count_same (λ x. nat_lt (u.seen x) (suc j)) (λ x. nat_lt (v.seen x) (suc j)) (without_core (p.at j).core (p.dir_entry j).sharers) (λ x among. at x among (c == x) refl)
  where
    own : is_among (without_core (p.at j).core (p.dir_entry j).sharers) c ≡ true → (b : Bool) → ((p.at j).core == c) ≡ b → nat_lt (u.seen c) (suc j) ≡ nat_lt (v.seen c) (suc j)
    own among true mine = absurd (let none = among_without_same (p.at j).core (p.dir_entry j).sharers in let same = eqb-true (p.at j).core c mine in let x : is_among (without_core (p.at j).core (p.dir_entry j).sharers) c ≡ false = subst (λ c. is_among (without_core (p.at j).core (p.dir_entry j).sharers) c ≡ false) same none in cc (x, among))
    own among false ne =
        let (f, to, inv) = inv_sent d n (p.dir_entry j) (p.at j) c sh (k.sound j (omega (arith, low))) (k.handled j low) store ne (sym (among_without_other (p.at j).core c (p.dir_entry j).sharers ne) ∙ among) in
        h.sees j f to inv

    at : (x : ℕ) → is_among (without_core (p.at j).core (p.dir_entry j).sharers) x ≡ true → (b : Bool) → (c == x) ≡ b → nat_lt (u.seen x) (suc j) ≡ nat_lt (v.seen x) (suc j)
    at x among true same = let e = eqb-true c x same in subst (λ x. nat_lt (u.seen x) (suc j) ≡ nat_lt (v.seen x) (suc j)) e (own (subst (λ y. is_among (without_core (p.at j).core (p.dir_entry j).sharers) y ≡ true) (sym e) among) ((p.at j).core == c) refl)
    at x among false ne = ap (λ k. nat_lt k (suc j)) (h.others x ne).0

-- an invalidation that isn't answered now wasn't answered before
pub earlier_even : (d : Draft) (p : DirOrder) (v u : View) (c : ℕ) → IsShaped d → IsEven d p v u c → (j z g : ℕ) → forward_sent d (p.dir_entry j) (p.at j) z ≡ Some g → has_class Inv d g ≡ true → u.seen z < suc j → v.seen z < suc j
earlier_even d p v u c sh h j z g sends class lt = at (c == z) refl
  where
    own : forward_sent d (p.dir_entry j) (p.at j) c ≡ Some g → u.seen c < suc j → v.seen c < suc j
    own sends after = ltb-true (v.seen c) (suc j) (sym (h.sees j g sends (is_first_of_class d sh.forwards Inv g class)) ∙ lt-ltb (u.seen c) (suc j) after)

    at : (b : Bool) → (c == z) ≡ b → v.seen z < suc j
    at true is =
        let e = eqb-true c z is in
        subst (λ z. v.seen z < suc j) e (own (subst (λ z. forward_sent d (p.dir_entry j) (p.at j) z ≡ Some g) (sym e) sends) (subst (λ z. u.seen z < suc j) (sym e) lt))
    at false ne = let same = (h.others z ne).0 in omega (arith, same, lt)

-- How a core may move on so

-- the view of a world in which core c has a mark and is pending or not
pub record IsViewed (v u : View) (c to : ℕ) (pend : Bool) : Type 0 where
  pub last : (e : ℕ) → u.last e ≡ v.last e
  pub others : (e : ℕ) → (c == e) ≡ false → (u.seen e ≡ v.seen e) × (u.pending e ≡ v.pending e)
  pub seen : u.seen c ≡ to
  pub pending : u.pending c ≡ pend

-- it has seen what it had seen
pub even_same : (d : Draft) (p : DirOrder) (v u : View) (c seen : ℕ) (pend : Bool) → IsViewed v u c seen pend → seen ≡ v.seen c → pend ≡ v.pending c → IsEven d p v u c
even_same d p v u c seen pend h same still = record {
  last = h.last;
  others = h.others;
  opens = λ j own. inr (rw (h.seen ∙ same, h.pending ∙ still, h.last c) refl);
  sees = λ j f sends inv. ap (λ k. nat_lt k (suc j)) (h.seen ∙ same);
}

passed_none : (d : Draft) (p : DirOrder) (c j : ℕ) → (p.dir_entry j).owner ≡ Some c → forward_sent d (p.dir_entry j) (p.at j) c ≡ None → passed_forward d (p.dir_entry j) (p.at j) ≡ None
passed_none d p c j owner none = passed_is d (p.dir_entry j) (p.at j) c owner ∙ none

or_true : (b : Bool) → (b || true) ≡ true
or_true true = refl
or_true false = refl

or_both : (b : Bool) → (b && false) ≡ false
or_both true = refl
or_both false = refl

-- it stands at its own entry: nothing was sent to it in between, and no invalidation since
pub even_last : (d : Draft) (p : DirOrder) (v u : View) (c seen : ℕ) (pend : Bool) → IsViewed v u c seen pend → seen ≡ v.last c → v.pending c ≡ true
    → ((j : ℕ) → v.seen c ≤ j → j < v.last c → forward_sent d (p.dir_entry j) (p.at j) c ≡ None)
    → ((j f : ℕ) → v.last c ≤ j → j < v.seen c → forward_sent d (p.dir_entry j) (p.at j) c ≡ Some f → forward_of d Inv ≡ Some f → ⊥) → IsEven d p v u c
even_last d p v u c seen pend h at_last was nothing no_inv = record {
  last = h.last;
  others = h.others;
  opens = λ j own. stands j own;
  sees = λ j f sends inv. sees j f sends inv;
}
  where
    now : u.seen c ≡ v.last c
    now = h.seen ∙ at_last

    behind : (j : ℕ) → v.last c ≤ j → is_open_at u j (Some c) ≡ is_open_at v j (Some c)
    behind j low =
        let s = now in
        let here : nat_lt (u.seen c) (suc j) ≡ true = lt-ltb (u.seen c) (suc j) (omega (arith, s, low)) in
        let past : nat_lt (v.last c) (suc j) ≡ true = lt-ltb (v.last c) (suc j) (omega (arith, low)) in
        let a : is_open_at u j (Some c) ≡ true = rw here refl in
        let b : is_open_at v j (Some c) ≡ true = rw (was, past) (or_true (nat_lt (v.seen c) (suc j))) in a ∙ sym b

    before : (j : ℕ) → suc j ≤ v.last c → suc j ≤ v.seen c → is_open_at u j (Some c) ≡ is_open_at v j (Some c)
    before j low lower =
        let s = now in let l = h.last c in
        let here : nat_lt (u.seen c) (suc j) ≡ false = le-ltb (u.seen c) (suc j) (omega (arith, s, low)) in
        let mine : nat_lt (u.last c) (suc j) ≡ false = le-ltb (u.last c) (suc j) (omega (arith, l, low)) in
        let past : nat_lt (v.last c) (suc j) ≡ false = le-ltb (v.last c) (suc j) low in
        let viewed : nat_lt (v.seen c) (suc j) ≡ false = le-ltb (v.seen c) (suc j) lower in
        let a : is_open_at u j (Some c) ≡ false = rw (here, mine) (or_both (u.pending c)) in
        let b : is_open_at v j (Some c) ≡ false = rw (viewed, past) (or_both (v.pending c)) in a ∙ sym b

    stands : (j : ℕ) → (p.dir_entry j).owner ≡ Some c → (passed_forward d (p.dir_entry j) (p.at j) ≡ None) ⊎ (is_open_at u j (Some c) ≡ is_open_at v j (Some c))
    stands j own = elim (let split : (v.last c ≤ j) ⊎ (suc j ≤ v.last c) = search arith in split) [
      | inl low ↦ inr (behind j low)
      | inr low ↦ elim (let split : (v.seen c ≤ j) ⊎ (suc j ≤ v.seen c) = search arith in split) [
        | inl from ↦ inl (passed_none d p c j own (nothing j from (omega (arith, low))))
        | inr lower ↦ inr (before j low lower)
      ]
    ]

    both : (j : ℕ) (b : Bool) → nat_lt (u.seen c) (suc j) ≡ b → nat_lt (v.seen c) (suc j) ≡ b → nat_lt (u.seen c) (suc j) ≡ nat_lt (v.seen c) (suc j)
    both j b x y = x ∙ sym y

    sees : (j f : ℕ) → forward_sent d (p.dir_entry j) (p.at j) c ≡ Some f → forward_of d Inv ≡ Some f → nat_lt (u.seen c) (suc j) ≡ nat_lt (v.seen c) (suc j)
    sees j f to inv =
        let s = now in
        elim (let split : (v.last c ≤ j) ⊎ (suc j ≤ v.last c) = search arith in split) [
          | inl after ↦ elim (let split : (v.seen c ≤ j) ⊎ (j < v.seen c) = search arith in split) [
            | inl both_after ↦ both j true (lt-ltb (u.seen c) (suc j) (omega (arith, s, after))) (lt-ltb (v.seen c) (suc j) (omega (arith, both_after)))
            | inr between ↦ absurd (no_inv j f after between to inv)
          ]
          | inr low ↦ elim (let split : (v.seen c ≤ j) ⊎ (suc j ≤ v.seen c) = search arith in split) [
            | inl from ↦ absurd (let none = nothing j from (omega (arith, low)) in cc (none, to))
            | inr lower ↦ both j false (le-ltb (u.seen c) (suc j) (omega (arith, s, low))) (le-ltb (v.seen c) (suc j) lower)
          ]
        ]

-- it has seen what it had seen, and has put off nothing that came since its own entry
pub even_late : (d : Draft) (p : DirOrder) (v u : View) (c seen : ℕ) (pend : Bool) → IsViewed v u c seen pend → seen ≡ v.seen c
    → ((j : ℕ) → v.last c ≤ j → j < v.seen c → (p.dir_entry j).owner ≡ Some c → passed_forward d (p.dir_entry j) (p.at j) ≡ None) → IsEven d p v u c
even_late d p v u c seen pend h same none = record {
  last = h.last;
  others = h.others;
  opens = λ j own. stands j own;
  sees = λ j f sends inv. ap (λ k. nat_lt k (suc j)) (h.seen ∙ same);
}
  where
    now : u.seen c ≡ v.seen c
    now = h.seen ∙ same

    stands : (j : ℕ) → (p.dir_entry j).owner ≡ Some c → (passed_forward d (p.dir_entry j) (p.at j) ≡ None) ⊎ (is_open_at u j (Some c) ≡ is_open_at v j (Some c))
    stands j own = elim (let split : (v.seen c ≤ j) ⊎ (j < v.seen c) = search arith in split) [
      | inl from ↦
          let s = now in
          let here : nat_lt (u.seen c) (suc j) ≡ true = lt-ltb (u.seen c) (suc j) (omega (arith, s, from)) in
          let was : nat_lt (v.seen c) (suc j) ≡ true = lt-ltb (v.seen c) (suc j) (omega (arith, from)) in
          let a : is_open_at u j (Some c) ≡ true = rw here refl in
          let b : is_open_at v j (Some c) ≡ true = rw was refl in inr (a ∙ sym b)
      | inr lower ↦ elim (let split : (v.last c ≤ j) ⊎ (suc j ≤ v.last c) = search arith in split) [
        | inl after ↦ inl (none j after lower own)
        | inr low ↦
            let s = now in let l = h.last c in
            let here : nat_lt (u.seen c) (suc j) ≡ false = le-ltb (u.seen c) (suc j) (omega (arith, s, lower)) in
            let mine : nat_lt (u.last c) (suc j) ≡ false = le-ltb (u.last c) (suc j) (omega (arith, l, low)) in
            let past : nat_lt (v.last c) (suc j) ≡ false = le-ltb (v.last c) (suc j) low in
            let viewed : nat_lt (v.seen c) (suc j) ≡ false = le-ltb (v.seen c) (suc j) (omega (arith, lower)) in
            let a : is_open_at u j (Some c) ≡ false = rw (here, mine) (or_both (u.pending c)) in
            let b : is_open_at v j (Some c) ≡ false = rw (viewed, past) (or_both (v.pending c)) in inr (a ∙ sym b)
      ]
    ]
