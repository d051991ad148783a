-- What stays when an entry is appended.
use Rattle.std.proofs.Common.{◌≡◌, ℕ, zero, suc, ◌+◌, ◌<◌, ◌≤◌, arith, Bool, true, false, ◌&&◌, List, [], ◌∷◌, ◌++◌, length, Option, Some, None, refl, sym, ap, subst, ◌∙◌, ◌⊎◌, inl, inr}
use Rattle.std.specs.Prelude.{◌==◌, nat_lt, is_some}
use Rattle.std.proofs.lemmas.Bool.{eqb-true, le-ltb}
use Rattle.pg_perm.specs.declared.draft.Draft.{Draft}
use Rattle.pg_directory.specs.DirEntries.{DirEntry, Request, entry_after, initial_entry}
use Rattle.pg_directory.specs.Sound.{IsLegal}
use Rattle.pg_order.specs.Messages.{put, sent_between, tally}
use Rattle.pg_order.specs.Orders.{DirOrder, dir_entry_at, request_at, dir_order, IsDirOrder, passed_forward, message_to, entry_message}
use Rattle.pg_order.specs.Views.{View, is_open_at, is_unserved, IsWaitedFor, IsWaiting, acks_owed}
use Rattle.pg_order.proofs.Between.{between-append}

pub record IsAppended (d : Draft) (p : DirOrder) (q : Request) (r : DirOrder) : Type 0 where
  pub top : r.top ≡ suc p.top
  pub at : (j : ℕ) → j < p.top → r.at j ≡ p.at j
  pub new : r.at p.top ≡ q
  pub dir_entry : (j : ℕ) → j ≤ p.top → r.dir_entry j ≡ p.dir_entry j
  pub after : r.dir_entry (suc p.top) ≡ entry_after d (p.dir_entry p.top) q

request_more : (qs : List Request) (q : Request) (j : ℕ) → j < length qs → request_at (qs ++ q ∷ []) j ≡ request_at qs j
request_more [] q j low = absurd (omega (arith, low))
request_more (x ∷ qs) q zero low = refl
request_more (x ∷ qs) q (suc j) low = request_more qs q j (omega (arith, low))

request_new : (qs : List Request) (q : Request) → request_at (qs ++ q ∷ []) (length qs) ≡ q
request_new [] q = refl
request_new (x ∷ qs) q = request_new qs q

dir_entry_more : (d : Draft) (s : DirEntry) (qs : List Request) (q : Request) (j : ℕ) → j ≤ length qs → dir_entry_at d s (qs ++ q ∷ []) j ≡ dir_entry_at d s qs j
dir_entry_more d s qs q zero low = refl
dir_entry_more d s [] q (suc j) low = absurd (omega (arith, low))
dir_entry_more d s (x ∷ qs) q (suc j) low = dir_entry_more d (entry_after d s x) qs q j (omega (arith, low))

dir_entry_new : (d : Draft) (s : DirEntry) (qs : List Request) (q : Request) → dir_entry_at d s (qs ++ q ∷ []) (suc (length qs)) ≡ entry_after d (dir_entry_at d s qs (length qs)) q
dir_entry_new d s [] q = refl
dir_entry_new d s (x ∷ qs) q = dir_entry_new d (entry_after d s x) qs q

length_more : (qs : List Request) (q : Request) → length (qs ++ q ∷ []) ≡ suc (length qs)
length_more [] q = refl
length_more (x ∷ qs) q = ap suc (length_more qs q)

pub appended : (d : Draft) (qs : List Request) (q : Request) → IsAppended d (dir_order d qs) q (dir_order d (qs ++ q ∷ []))
appended d qs q = record {
  top = length_more qs q;
  at = request_more qs q;
  new = request_new qs q;
  dir_entry = dir_entry_more d (initial_entry d) qs q;
  after = dir_entry_new d (initial_entry d) qs q;
}

pub past_more : (d : Draft) (n : ℕ) (p : DirOrder) (q : Request) (r : DirOrder) → IsAppended d p q r → IsDirOrder d n p → q.core < n → IsLegal d (p.dir_entry p.top) q → IsDirOrder d n r
past_more d n p q r a h low legal = record {
  starts = a.dir_entry 0 (omega arith) ∙ h.starts;
  inside = λ j b. elim (which j b) [ inl old ↦ subst (λ (x : Request). x.core < n) (sym (a.at j old)) (h.inside j old) | inr is ↦ subst (λ j. (r.at j).core < n) (sym is) (subst (λ (x : Request). x.core < n) (sym a.new) low) ];
  legal = λ j b. elim (which j b) [
    | inl old ↦ rw (a.at j old, a.dir_entry j (omega (arith, old))) (h.legal j old)
    | inr is ↦ subst (λ j. IsLegal d (r.dir_entry j) (r.at j)) (sym is) (rw (a.new, a.dir_entry p.top (omega arith)) legal)
  ];
  follows = λ j b. elim (which j b) [
    | inl old ↦ a.dir_entry (suc j) (omega (arith, old)) ∙ h.follows j old ∙ ap (λ s. entry_after d s (p.at j)) (sym (a.dir_entry j (omega (arith, old)))) ∙ ap (entry_after d (r.dir_entry j)) (sym (a.at j old))
    | inr is ↦ subst (λ j. r.dir_entry (suc j) ≡ entry_after d (r.dir_entry j) (r.at j)) (sym is) (a.after ∙ ap (λ s. entry_after d s q) (sym (a.dir_entry p.top (omega arith))) ∙ ap (entry_after d (r.dir_entry p.top)) (sym a.new))
  ];
}
  where
    which : (j : ℕ) → j < r.top → (j < p.top) ⊎ (j ≡ p.top)
    which j b = let top = a.top in search arith

pub message_old : (d : Draft) (p : DirOrder) (q : Request) (r : DirOrder) → IsAppended d p q r → (c j : ℕ) → j < p.top → entry_message d r c j ≡ entry_message d p c j
message_old d p q r a c j low = ap (λ s. message_to d s (r.at j) (suc j) c) (a.dir_entry j (omega (arith, low))) ∙ ap (λ x. message_to d (p.dir_entry j) x (suc j) c) (a.at j low)

pub between_same : {A : Type 0} (f g : ℕ → Option A) (a n : ℕ) → ((j : ℕ) → a ≤ j → j < a + n → f j ≡ g j) → sent_between f a n ≡ sent_between g a n
between_same f g a zero same = refl
between_same f g a (suc n) same = ap (λ o. put o (sent_between f (suc a) n)) (same a (omega arith) (omega arith)) ∙ ap (put (g a)) (between_same f g (suc a) n (λ j lo hi. same j (omega (arith, lo)) (omega (arith, hi))))

-- a core is sent one more
pub between_more : (d : Draft) (p : DirOrder) (q : Request) (r : DirOrder) → IsAppended d p q r → (c a n : ℕ) → a + n ≡ p.top
    → sent_between (entry_message d r c) a (n + 1) ≡ sent_between (entry_message d p c) a n ++ put (entry_message d r c p.top) []
between_more d p q r x c a n upto =
    between-append (entry_message d r c) a n 1 p.top (n + 1) refl upto
    ∙ ap (λ xs. xs ++ put (entry_message d r c p.top) []) (between_same (entry_message d r c) (entry_message d p c) a n (λ j lo hi. message_old d p q r x c j (omega (arith, hi, upto))))

-- core c's entry is appended, and it waits for it
pub record IsEntered (p : DirOrder) (c : ℕ) (v u : View) : Type 0 where
  pub seen : (e : ℕ) → u.seen e ≡ v.seen e
  pub others : (e : ℕ) → (c == e) ≡ false → (u.last e ≡ v.last e) × (u.pending e ≡ v.pending e)
  pub last : u.last c ≡ suc p.top
  pub pending : u.pending c ≡ true
  pub idle : v.pending c ≡ false

open_same : (p : DirOrder) (c : ℕ) (v u : View) → IsEntered p c v u → (j o : ℕ) → j < p.top → is_open_at u j (Some o) ≡ is_open_at v j (Some o)
open_same p c v u h j o low = at (c == o) refl
  where
    at : (b : Bool) → (c == o) ≡ b → is_open_at u j (Some o) ≡ is_open_at v j (Some o)
    at true same =
        let e : c ≡ o = eqb-true c o same in
        let last = h.last in
        let not_yet : nat_lt (u.last c) (suc j) ≡ false = le-ltb (u.last c) (suc j) (omega (arith, last, low)) in
        subst (λ o. is_open_at u j (Some o) ≡ is_open_at v j (Some o)) e (rw (h.seen c, h.pending, h.idle, not_yet) refl)
    at false ne = let (last, pend) = h.others o ne in rw (h.seen o, last, pend) refl

pub unserved_old : (d : Draft) (p : DirOrder) (q : Request) (r : DirOrder) (c : ℕ) (v u : View) → IsAppended d p q r → IsEntered p c v u → (j : ℕ) → j < p.top → is_unserved d r u j ≡ is_unserved d p v j
unserved_old d p q r c v u a h j low =
    ap (λ s. is_some (passed_forward d s (r.at j)) && is_open_at u j s.owner) (a.dir_entry j (omega (arith, low)))
    ∙ ap (λ x. is_some (passed_forward d (p.dir_entry j) x) && is_open_at u j (p.dir_entry j).owner) (a.at j low)
    ∙ at (p.dir_entry j).owner refl
  where
    at : (o : Option ℕ) → (p.dir_entry j).owner ≡ o → (is_some (passed_forward d (p.dir_entry j) (p.at j)) && is_open_at u j (p.dir_entry j).owner) ≡ is_unserved d p v j
    at None e = ap (λ b. is_some (passed_forward d (p.dir_entry j) (p.at j)) && b) (ap (is_open_at u j) e ∙ ap (is_open_at v j) (sym e))
    at (Some o) e = ap (λ b. is_some (passed_forward d (p.dir_entry j) (p.at j)) && b) (ap (is_open_at u j) e ∙ open_same p c v u h j o low ∙ ap (is_open_at v j) (sym e))

pub owed_old : (d : Draft) (p : DirOrder) (q : Request) (r : DirOrder) (c : ℕ) (v u : View) → IsAppended d p q r → IsEntered p c v u → (j : ℕ) → j < p.top → acks_owed r u j ≡ acks_owed p v j
owed_old d p q r c v u a h j low =
    ap (λ s. tally (λ e. nat_lt (u.seen e) (suc j)) (Rattle.pg_directory.specs.DirEntries.without_core (r.at j).core s.sharers)) (a.dir_entry j (omega (arith, low)))
    ∙ ap (λ (x : Request). tally (λ e. nat_lt (u.seen e) (suc j)) (Rattle.pg_directory.specs.DirEntries.without_core x.core (p.dir_entry j).sharers)) (a.at j low)
    ∙ each (Rattle.pg_directory.specs.DirEntries.without_core (p.at j).core (p.dir_entry j).sharers)
  where
    each : (xs : List ℕ) → tally (λ e. nat_lt (u.seen e) (suc j)) xs ≡ tally (λ e. nat_lt (v.seen e) (suc j)) xs
    each [] = refl
    each (x ∷ xs) = rw (h.seen x, each xs) refl

-- waiting goes on, and the requestor waits for its own entry. No share is open
pub waiting_more : (d : Draft) (p : DirOrder) (q : Request) (r : DirOrder) (c : ℕ) (v u : View) → IsAppended d p q r → IsEntered p c v u → q.core ≡ c → v.last c ≤ p.top
    → ((j f : ℕ) → j < p.top → is_unserved d p v j ≡ true → passed_forward d (p.dir_entry j) (p.at j) ≡ Some f → Rattle.pg_terms.specs.Terms.has_class Rattle.pg_perm.specs.declared.kinds.FwdClass.TheVariants.Share d f ≡ true → ⊥)
    → IsWaiting d p v → IsWaiting d r u
waiting_more d p q r c v u a h own behind free w = record {
  lasts = λ j b. elim (which j b) [
    | inl old ↦ grows (p.at j).core (r.at j).core (ap (λ (x : Request). x.core) (a.at j old)) j (w.lasts j old)
    | inr is ↦ subst (λ j. suc j ≤ u.last (r.at j).core) (sym is) (let last = h.last in subst (λ e. suc p.top ≤ u.last e) (sym asks) (omega (arith, last)))
  ];
  forwards = λ j b e. elim (which j b) [ inl old ↦ still j old (w.forwards j old (sym (unserved_old d p q r c v u a h j old) ∙ e)) | inr is ↦ subst (IsWaitedFor r u) (sym is) new ];
  invs = λ j e f b sends class lt. elim (which j b) [
    | inl old ↦ still j old (w.invs j e f old (sym (rw (a.dir_entry j (omega (arith, old)), a.at j old) refl) ∙ sends) class (let same = h.seen e in omega (arith, same, lt)))
    | inr is ↦ subst (IsWaitedFor r u) (sym is) new
  ];
  shares = λ j f b e to class. elim (which j b) [
    | inl old ↦ absurd (free j f old (sym (unserved_old d p q r c v u a h j old) ∙ e) (sym (rw (a.dir_entry j (omega (arith, old)), a.at j old) refl) ∙ to) class)
    | inr is ↦ let top = a.top in omega (arith, is, top)
  ];
}
  where
    which : (j : ℕ) → j < r.top → (j < p.top) ⊎ (j ≡ p.top)
    which j b = let top = a.top in search arith

    asks : (r.at p.top).core ≡ c
    asks = ap (λ (x : Request). x.core) a.new ∙ own

    new : IsWaitedFor r u p.top
    new = (ap u.last asks ∙ h.last, ap u.pending asks ∙ h.pending)

    -- a core that waits isn't the one that asks now
    other : (e : ℕ) → v.pending e ≡ true → (c == e) ≡ false
    other e pend = at (c == e) refl
      where
        at : (b : Bool) → (c == e) ≡ b → (c == e) ≡ false
        at true same = absurd (let is = eqb-true c e same in let idle = h.idle in let waits = subst (λ e. v.pending e ≡ true) (sym is) pend in cc (idle, waits))
        at false ne = ne

    still : (j : ℕ) → j < p.top → IsWaitedFor p v j → IsWaitedFor r u j
    still j old (last, pend) =
        let same = h.others (p.at j).core (other (p.at j).core pend) in
        let core = ap (λ (x : Request). x.core) (a.at j old) in
        (ap u.last core ∙ same.0 ∙ last, ap u.pending core ∙ same.1 ∙ pend)

    grows : (e z : ℕ) → z ≡ e → (j : ℕ) → suc j ≤ v.last e → suc j ≤ u.last z
    grows e z is j low = subst (λ z. suc j ≤ u.last z) (sym is) (at (c == e) refl)
      where
        at : (b : Bool) → (c == e) ≡ b → suc j ≤ u.last e
        at true same = let same = eqb-true c e same in subst (λ e. suc j ≤ u.last e) same (let last = h.last in let was = subst (λ e. suc j ≤ v.last e) (sym same) low in omega (arith, last, was, behind))
        at false ne = let same = (h.others e ne).0 in omega (arith, same, low)
