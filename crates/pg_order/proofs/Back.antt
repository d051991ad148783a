-- What stays when an operation is done, and what was put off stands in the queue again: the core has caught up to its own entry.
use Rattle.std.proofs.Common.{◌≡◌, ℕ, suc, ◌<◌, ◌≤◌, arith, Bool, true, false, ◌&&◌, ◌||◌, Option, Some, None, refl, sym, ap, subst, ◌∙◌, ◌⊎◌, inl, inr}
use Rattle.std.specs.Prelude.{◌==◌, nat_lt, is_some}
use Rattle.std.proofs.lemmas.Bool.{eqb-true, le-ltb, lt-ltb}
use Rattle.pg_perm.specs.declared.kinds.Event.TheVariants.{Store}
use Rattle.pg_perm.specs.declared.kinds.FwdClass.TheVariants.{Inv}
use Rattle.pg_perm.specs.declared.draft.Draft.{Draft}
use Rattle.pg_terms.specs.Terms.{forward_of}
use Rattle.pg_shape.specs.Shaped.{IsShaped}
use Rattle.pg_directory.specs.DirEntries.{is_among, without_core}
use Rattle.pg_directory.specs.Sends.{forward_sent}
use Rattle.pg_directory.proofs.Cores.{among_without_same, among_without_other}
use Rattle.pg_order.specs.Orders.{DirOrder, passed_forward, entry_message}
use Rattle.pg_order.specs.Views.{View, is_open_at, is_unserved, acks_owed}
use Rattle.pg_order.proofs.Known.{IsKnown}
use Rattle.pg_order.proofs.Steps.{quiet_passes_nothing, inv_sent, to_sharer, count_same}

pub record IsBack (d : Draft) (p : DirOrder) (v u : View) (c : ℕ) : Type 0 where
  pub last : (e : ℕ) → u.last e ≡ v.last e
  pub others : (e : ℕ) → (c == e) ≡ false → (u.seen e ≡ v.seen e) × (u.pending e ≡ v.pending e)
  pub seen : u.seen c ≡ v.last c
  pub pending : u.pending c ≡ false
  pub was : v.pending c ≡ true
  -- nothing came between what it had seen and its own entry, or what came after that was no invalidation
  pub quiet : (j : ℕ) → v.seen c ≤ j → j < v.last c → entry_message d p c j ≡ None
  pub no_inv : (j f : ℕ) → v.last c ≤ j → j < v.seen c → forward_sent d (p.dir_entry j) (p.at j) c ≡ Some f → forward_of d Inv ≡ Some f → ⊥

-- then all is served as it was
pub unserved_back : (d : Draft) (p : DirOrder) (v u : View) (c : ℕ) → IsBack d p v u c → (j : ℕ) → is_unserved d p u j ≡ is_unserved d p v j
unserved_back d p v u c h j = at (p.dir_entry j).owner refl
  where
    opens : (o : ℕ) → (p.dir_entry j).owner ≡ Some o → is_open_at u j (Some o) ≡ is_open_at v j (Some o) → is_unserved d p u j ≡ is_unserved d p v j
    opens o e same = ap (λ b. is_some (passed_forward d (p.dir_entry j) (p.at j)) && b) (ap (is_open_at u j) e ∙ same ∙ ap (is_open_at v j) (sym e))

    nothing : passed_forward d (p.dir_entry j) (p.at j) ≡ None → is_unserved d p u j ≡ is_unserved d p v j
    nothing e = ap (λ (t : Option ℕ). is_some t && is_open_at u j (p.dir_entry j).owner) e ∙ sym (ap (λ (t : Option ℕ). is_some t && is_open_at v j (p.dir_entry j).owner) e)

    or_true : (b : Bool) → (b || true) ≡ true
    or_true true = refl
    or_true false = refl

    behind : v.last c ≤ j → is_open_at u j (Some c) ≡ is_open_at v j (Some c)
    behind low =
        let seen = h.seen in let same = h.last c in
        let now : nat_lt (u.seen c) (suc j) ≡ true = lt-ltb (u.seen c) (suc j) (omega (arith, seen, low)) in
        let past : nat_lt (v.last c) (suc j) ≡ true = lt-ltb (v.last c) (suc j) (omega (arith, low)) in
        let a : is_open_at u j (Some c) ≡ true = rw now refl in
        let b : is_open_at v j (Some c) ≡ true = rw (h.was, past) (or_true (nat_lt (v.seen c) (suc j))) in a ∙ sym b

    before : suc j ≤ v.last c → suc j ≤ v.seen c → is_open_at u j (Some c) ≡ is_open_at v j (Some c)
    before low lower =
        let seen = h.seen in
        let now : nat_lt (u.seen c) (suc j) ≡ false = le-ltb (u.seen c) (suc j) (omega (arith, seen, low)) in
        let past : nat_lt (v.last c) (suc j) ≡ false = le-ltb (v.last c) (suc j) low in
        let viewed : nat_lt (v.seen c) (suc j) ≡ false = le-ltb (v.seen c) (suc j) lower in
        let a : is_open_at u j (Some c) ≡ false = rw (now, h.pending) refl in
        let b : is_open_at v j (Some c) ≡ false = rw (h.was, past, viewed) refl in a ∙ sym b

    own : (p.dir_entry j).owner ≡ Some c → is_unserved d p u j ≡ is_unserved d p v j
    own e = elim (let split : (v.last c ≤ j) ⊎ (suc j ≤ v.last c) = search arith in split) [
      | inl low ↦ opens c e (behind low)
      | inr low ↦ elim (let split : (v.seen c ≤ j) ⊎ (suc j ≤ v.seen c) = search arith in split) [
        | inl from ↦ nothing (quiet_passes_nothing d p c j e (h.quiet j from (omega (arith, low))))
        | inr lower ↦ opens c e (before low lower)
      ]
    ]

    by : (o : ℕ) → (p.dir_entry j).owner ≡ Some o → (b : Bool) → (c == o) ≡ b → is_unserved d p u j ≡ is_unserved d p v j
    by o e true same = own (e ∙ ap Some (sym (eqb-true c o same)))
    by o e false ne = let (seen, pend) = h.others o ne in opens o e (rw (seen, pend, h.last o) refl)

    at : (o : Option ℕ) → (p.dir_entry j).owner ≡ o → is_unserved d p u j ≡ is_unserved d p v j
    at None e = nothing (rw e refl)
    at (Some o) e = by o e (c == o) refl

-- and the same is owed
pub owed_back : (d : Draft) (n : ℕ) (p : DirOrder) (v u : View) (c : ℕ) → IsShaped d → IsKnown d n p → IsBack d p v u c → (j : ℕ) → j < p.top → (p.at j).event ≡ Store → acks_owed p u j ≡ acks_owed p v j
owed_back d n p v u c sh k h j low store = count_same (λ x. nat_lt (u.seen x) (suc j)) (λ x. nat_lt (v.seen x) (suc j)) (without_core (p.at j).core (p.dir_entry j).sharers) (λ x among. at x among (c == x) refl)
  where
    both : (b : Bool) → nat_lt (u.seen c) (suc j) ≡ b → nat_lt (v.seen c) (suc j) ≡ b → nat_lt (u.seen c) (suc j) ≡ nat_lt (v.seen c) (suc j)
    both b x y = x ∙ sym y

    own : is_among (without_core (p.at j).core (p.dir_entry j).sharers) c ≡ true → (b : Bool) → ((p.at j).core == c) ≡ b → nat_lt (u.seen c) (suc j) ≡ nat_lt (v.seen c) (suc j)
    own among true mine = absurd (let none = among_without_same (p.at j).core (p.dir_entry j).sharers in let same = eqb-true (p.at j).core c mine in let x : is_among (without_core (p.at j).core (p.dir_entry j).sharers) c ≡ false = subst (λ c. is_among (without_core (p.at j).core (p.dir_entry j).sharers) c ≡ false) same none in cc (x, among))
    own among false ne =
        let (f, to, inv) = inv_sent d n (p.dir_entry j) (p.at j) c sh (k.sound j (omega (arith, low))) (k.handled j low) store ne (sym (among_without_other (p.at j).core c (p.dir_entry j).sharers ne) ∙ among) in
        let seen = h.seen in
        elim (let split : (v.last c ≤ j) ⊎ (suc j ≤ v.last c) = search arith in split) [
          | inl after ↦ elim (let split : (v.seen c ≤ j) ⊎ (j < v.seen c) = search arith in split) [
            | inl both_after ↦ both true (lt-ltb (u.seen c) (suc j) (omega (arith, seen, after))) (lt-ltb (v.seen c) (suc j) (omega (arith, both_after)))
            | inr between ↦ absurd (h.no_inv j f after between to inv)
          ]
          | inr before ↦ elim (let split : (v.seen c ≤ j) ⊎ (suc j ≤ v.seen c) = search arith in split) [
            | inl from ↦ absurd (to_sharer d p c j f ne to (h.quiet j from (omega (arith, before))))
            | inr lower ↦ both false (le-ltb (u.seen c) (suc j) (omega (arith, seen, before))) (le-ltb (v.seen c) (suc j) lower)
          ]
        ]

    at : (x : ℕ) → is_among (without_core (p.at j).core (p.dir_entry j).sharers) x ≡ true → (b : Bool) → (c == x) ≡ b → nat_lt (u.seen x) (suc j) ≡ nat_lt (v.seen x) (suc j)
    at x among true same = let e = eqb-true c x same in subst (λ x. nat_lt (u.seen x) (suc j) ≡ nat_lt (v.seen x) (suc j)) e (own (subst (λ y. is_among (without_core (p.at j).core (p.dir_entry j).sharers) y ≡ true) (sym e) among) ((p.at j).core == c) refl)
    at x among false ne = ap (λ k. nat_lt k (suc j)) (h.others x ne).0
