-- The head of a queue: where it comes from, and what it is to a line.
use Rattle.std.proofs.Common.{◌≡◌, ◌≢◌, ℕ, zero, suc, ◌+◌, ◌<◌, ◌≤◌, arith, Bool, true, false, ◌&&◌, List, [], ◌∷◌, Option, Some, None, refl, sym, ap, subst, ◌∙◌, ◌⊎◌, inl, inr}
use Rattle.std.specs.Prelude.{◌==◌, if◌then◌else◌}
use Rattle.std.specs.List.{list_any}
use Rattle.std.specs.Option.{option_and_then}
use Rattle.std.proofs.lemmas.Bool.{eqb-true, eq-eqb}
use Rattle.pg_perm.proofs.Booleans.{and_true}
use Rattle.pg_perm.specs.declared.kinds.Event.{Event}
use Rattle.pg_perm.specs.declared.kinds.Event.TheVariants.{Load, Store, Evict}
use Rattle.pg_perm.specs.declared.kinds.ReqClass.TheVariants.{Write}
use Rattle.pg_perm.specs.declared.kinds.Role.{Role}
use Rattle.pg_perm.specs.declared.kinds.Role.TheVariants as role
use Rattle.pg_perm.specs.declared.kinds.Who.{Who}
use Rattle.pg_perm.specs.declared.kinds.Who.TheVariants.{Other, Sharer, Owner}
use Rattle.pg_perm.specs.declared.kinds.FwdClass.TheVariants.{Inv, Share, Keep}
use Rattle.pg_perm.specs.declared.draft.Draft.{Draft}
use Rattle.pg_perm.specs.declared.draft.RowLine.{RowLine}
use Rattle.pg_perm.specs.declared.draft.Action.{Action}
use Rattle.pg_perm.specs.declared.draft.Action.TheVariants as action
use Rattle.pg_terms.specs.declared.cases.DirCase.TheVariants as case
use Rattle.pg_terms.specs.Terms.{is, is_shared, is_owner, cache_is, out, shared, forward_of, has_class, dir_row}
use Rattle.pg_terms.specs.Due.{is_to_owner, is_passed_to, is_due}
use Rattle.pg_terms.specs.Rows.{action_in}
use Rattle.pg_shape.specs.Shaped.{IsShaped}
use Rattle.pg_shape.proofs.Bools.{or_true, three_and}
use Rattle.pg_directory.specs.DirEntries.{DirEntry, Request, who, case_for, left_of, without_core}
use Rattle.pg_directory.specs.Sound.{fits, fits_as, IsLegalAs}
use Rattle.pg_directory.specs.Requests.{IsHandled, action_of}
use Rattle.pg_directory.proofs.Facts.{owner_allows_load}
use Rattle.pg_atomic.proofs.Fits.{cache_at, shared_line, out_loads, shared_loads}
use Rattle.pg_table.specs.declared.cache.Tag.{Tag}
use Rattle.pg_table.specs.declared.cache.Tag.TheVariants.{Plain, Kept, Gave, Gone}
use Rattle.pg_table.specs.Choices.{tag_by}
use Rattle.pg_table.proofs.Lists.{IsIn}
use Rattle.pg_messages.specs.declared.messages.Ordered.{Ordered}
use Rattle.pg_messages.specs.declared.messages.Ordered.TheVariants.{Forward, AckCount}
use Rattle.pg_order.specs.Messages.{put, sent_between}
use Rattle.pg_order.specs.Orders.{DirOrder, entry_message, acks_needed, own_message}
use Rattle.pg_order.proofs.Known.{IsKnown}
use Rattle.pg_order.proofs.Between.{head}
use Rattle.pg_order.proofs.Quiet.{unchanged, IsSent}
use Rattle.pg_controllers.specs.Networks.{Core}
use Rattle.pg_orderly.specs.Orderly.{Mark, tag_from, IsPlaced}
use Rattle.pg_safe.proofs.Catch.{other_forwards}
use Rattle.pg_safe.proofs.Ends.{none_before}

-- Heads

pub record IsHead (d : Draft) (p : DirOrder) (c : ℕ) (m : Mark) (g : ℕ) (q : Ordered) : Type 0 where
  pub from : m.seen ≤ g
  pub inside : g < p.top
  pub quiet : (j : ℕ) → m.seen ≤ j → j < g → entry_message d p c j ≡ None
  pub sends : entry_message d p c g ≡ Some q

pub head_of : (d : Draft) (p : DirOrder) (c : ℕ) (x : Core) (m : Mark) (q : Ordered) (ms : List Ordered) → IsPlaced d p c x m → x.queue ≡ q ∷ ms → (g : ℕ) × IsHead d p c m g q
head_of d p c x m q ms pl queue =
    let hd = head (entry_message d p c) m.seen pl.rest q ms (sym queue ∙ pl.queue) in
    let upto = pl.upto in
    let there = hd.upto in
    (hd.at, record { from = hd.from; inside = omega (arith, upto, there); quiet = hd.quiet; sends = hd.sends })

none_between : {A : Type 0} (to : ℕ → Option A) (a n : ℕ) → sent_between to a n ≡ [] → (j : ℕ) → a ≤ j → j < a + n → to j ≡ None
none_between to a zero e j lo hi = absurd (omega (arith, lo, hi))
none_between {A = A} to a (suc n) e j lo hi = at (to a) refl e (λ e. none_between to (suc a) n e j)
  where
    at : (o : Option A) → to a ≡ o → put o (sent_between to (suc a) n) ≡ [] → (sent_between to (suc a) n ≡ [] → suc a ≤ j → j < suc a + n → to j ≡ None) → to j ≡ None
    at None none e below = elim (let split : (a ≡ j) ⊎ (suc a ≤ j) = search arith in split) [ inl same ↦ ap to (sym same) ∙ none | inr more ↦ below e more (omega (arith, hi)) ]
    at (Some x) some e below = cc

-- where an entry that a core hasn't seen sends it something, its queue has a head that is no later
pub head_by : (d : Draft) (p : DirOrder) (c : ℕ) (x : Core) (m : Mark) (j : ℕ) (s : Ordered) → IsPlaced d p c x m → m.seen ≤ j → j < p.top → entry_message d p c j ≡ Some s
    → (q : Ordered) × (ms : List Ordered) × (g : ℕ) × (x.queue ≡ q ∷ ms) × (g ≤ j) × IsHead d p c m g q
head_by d p c x m j s pl from inside sends = at x.queue refl
  where
    at : (xs : List Ordered) → x.queue ≡ xs → (q : Ordered) × (ms : List Ordered) × (g : ℕ) × (x.queue ≡ q ∷ ms) × (g ≤ j) × IsHead d p c m g q
    at [] e =
        let upto = pl.upto in
        let none = none_between (entry_message d p c) m.seen pl.rest (sym pl.queue ∙ e) j from (omega (arith, upto, inside)) in cc (none, sends)
    at (q ∷ ms) e =
        let (g, hd) = head_of d p c x m q ms pl e in
        elim (let split : (g ≤ j) ⊎ (j < g) = search arith in split) [
          | inl low ↦ (q, ms, g, e, low, hd)
          | inr late ↦ absurd (let none = hd.quiet j from late in cc (none, sends))
        ]

-- a state that fits where the core has caught up fits at the head
pub fits_at : (d : Draft) (n : ℕ) (p : DirOrder) → IsKnown d n p → (c : ℕ) (x : Core) (m : Mark) (g : ℕ) (s : ℕ) → IsPlaced d p c x m → m.seen ≤ g → g ≤ p.top
    → ((j : ℕ) → m.seen ≤ j → j < g → entry_message d p c j ≡ None) → (m.last ≤ m.seen) ⊎ (suc g ≤ m.last) → fits d (p.dir_entry m.seen) c s ≡ true → fits d (p.dir_entry g) c s ≡ true
fits_at d n p k c x m g s pl from upto quiet side fit = (unchanged d n p k c m.seen g from upto (none_before d p c x m pl g upto side) quiet).fits s fit

-- an entry of its own that it hasn't seen is its last
pub own_last : (d : Draft) (p : DirOrder) (c : ℕ) (x : Core) (m : Mark) (g : ℕ) → IsPlaced d p c x m → m.seen ≤ g → g < p.top → (p.at g).core ≡ c → m.last ≡ suc g
own_last d p c x m g pl from inside own = elim (split (suc g) m.last (pl.last_is g inside own)) [
  | inl lt ↦ let viewed = pl.gap g lt own in absurd (omega (arith, viewed, from))
  | inr same ↦ same
]
  where
    split : (a b : ℕ) → a ≤ b → (a < b) ⊎ (b ≡ a)
    split a b le = search arith

-- what comes is its own, or another's forward
pub from_whom : (d : Draft) (p : DirOrder) (c g : ℕ) (q : Ordered) → entry_message d p c g ≡ Some q
    → (((p.at g).core ≡ c) × (own_message (p.at g).event (action_of d (p.dir_entry g) (p.at g)) (acks_needed (p.dir_entry g) (p.at g)) (suc g) ≡ Some q))
    ⊎ ((f : ℕ) × (r : ℕ) × (n : ℕ) × (k : ℕ) × (q ≡ Forward f r n k) × IsSent d p c g f r n k)
from_whom d p c g q sends = at ((p.at g).core == c) refl
  where
    at : (b : Bool) → ((p.at g).core == c) ≡ b → (((p.at g).core ≡ c) × (own_message (p.at g).event (action_of d (p.dir_entry g) (p.at g)) (acks_needed (p.dir_entry g) (p.at g)) (suc g) ≡ Some q))
        ⊎ ((f : ℕ) × (r : ℕ) × (n : ℕ) × (k : ℕ) × (q ≡ Forward f r n k) × IsSent d p c g f r n k)
    at true own = inl (eqb-true (p.at g).core c own, rw own at sends)
    at false ne = inr (other_forwards d p c g q ne sends)

pub own_sends : (d : Draft) (p : DirOrder) (c j : ℕ) → (p.at j).core ≡ c → entry_message d p c j ≡ own_message (p.at j).event (action_of d (p.dir_entry j) (p.at j)) (acks_needed (p.dir_entry j) (p.at j)) (suc j)
own_sends d p c j own = rw (eq-eqb (p.at j).core c own) refl

-- What is its own

pub own_asks : (e : Event) (a : Option Action) (n k : ℕ) (q : Ordered) → e ≢ Evict → own_message e a n k ≡ Some q → (a ≡ Some action.Count) × (q ≡ AckCount n k)
own_asks Load None n k q asks h = cc
own_asks Load (Some (action.Reply x)) n k q asks h = cc
own_asks Load (Some (action.Forward x)) n k q asks h = cc
own_asks Load (Some action.Count) n k q asks h = (refl, cc)
own_asks Store None n k q asks h = cc
own_asks Store (Some (action.Reply x)) n k q asks h = cc
own_asks Store (Some (action.Forward x)) n k q asks h = cc
own_asks Store (Some action.Count) n k q asks h = (refl, cc)
own_asks Evict a n k q asks h = absurd (asks refl)

pub own_count : (e : Event) (n k : ℕ) → e ≢ Evict → own_message e (Some action.Count) n k ≡ Some (AckCount n k)
own_count Load n k asks = refl
own_count Store n k asks = refl
own_count Evict n k asks = absurd (asks refl)

-- a store of the owner is answered by a count
pub owner_counts : (d : Draft) (n : ℕ) (s : DirEntry) (q : Request) → IsShaped d → IsHandled d n s q → q.event ≡ Store → who s q.core ≡ Owner → action_of d s q ≡ Some action.Count
owner_counts d n s q sh h store owns =
    let (r, row) = h.row (λ e. absurd (let x : Store ≡ Evict = sym store ∙ e in cc)) in
    let as_case : dir_row d s.dir (case.Ask Write Owner) ≡ Some r =
    ap (λ w. dir_row d s.dir (case_for Store w (left_of (without_core q.core s.sharers)))) (sym owns)
    ∙ ap (λ e. dir_row d s.dir (case_for e (who s q.core) (left_of (without_core q.core s.sharers)))) (sym store) ∙ row in
    ap (λ (o : Option RowLine). option_and_then (λ r. action_in r.form) o) row ∙ sh.rows.upgrade s.dir r as_case

-- no load is counted
pub load_counts_not : (d : Draft) (n : ℕ) (s : DirEntry) (q : Request) → IsHandled d n s q → IsLegalAs d s.dir (who s q.core) q.event → q.event ≡ Load → action_of d s q ≡ Some action.Count → ⊥
load_counts_not d n s q h legal load count =
    let none : who s q.core ≡ Other = subst (IsLegalAs d s.dir (who s q.core)) load legal in
    let owns = h.counted count in
    let x : Other ≡ Owner = sym none ∙ owns in cc

-- States

pub out_not_due : (d : Draft) (x f : ℕ) → IsShaped d → is (out d) x ≡ true → is_due d x f ≡ true → ⊥
out_not_due d x f sh gone due = at (or_true (is (shared d) x && is (forward_of d Inv) f) (cache_is (λ c. is_owner c.role) d x && is_to_owner d f && list_any (is_passed_to d x f) d.rows) due)
  where
    at : ((is (shared d) x && is (forward_of d Inv) f) ≡ true) ⊎ ((cache_is (λ c. is_owner c.role) d x && is_to_owner d f && list_any (is_passed_to d x f) d.rows) ≡ true) → ⊥
    at (inl h) = let may = shared_loads d sh x (and_true (is (shared d) x) (is (forward_of d Inv) f) h).0 in let lacks = out_loads d sh x gone in cc (may, lacks)
    at (inr h) =
        let may = owner_allows_load d x sh.perms (three_and (cache_is (λ c. is_owner c.role) d x) (is_to_owner d f) (list_any (is_passed_to d x f) d.rows) h).0 in
        let lacks = out_loads d sh x gone in cc (may, lacks)

roles_apart : (r : Role) → is_shared r ≡ true → is_owner r ≡ true → ⊥
roles_apart role.Out h g = cc
roles_apart role.Shared h g = cc
roles_apart role.Owner h g = cc

shared_owns_not : (d : Draft) (x : ℕ) → is (shared d) x ≡ true → cache_is (λ c. is_owner c.role) d x ≡ true → ⊥
shared_owns_not d x h owner = let (c, get, same) = shared_line d x h in roles_apart c.role same (sym (cache_at (λ c. is_owner c.role) d x c get) ∙ owner)

-- a core whose state is an owner's owns
pub owner_owns : (d : Draft) (s : DirEntry) (c x : ℕ) → IsShaped d → fits d s c x ≡ true → cache_is (λ c. is_owner c.role) d x ≡ true → who s c ≡ Owner
owner_owns d s c x sh fit owner = at (who s c) refl fit
  where
    at : (w : Who) → who s c ≡ w → fits_as d s.dir w x ≡ true → who s c ≡ Owner
    at Other is f = absurd (let may = owner_allows_load d x sh.perms owner in let lacks = out_loads d sh x f in cc (may, lacks))
    at Sharer is f = absurd (shared_owns_not d x f owner)
    at Owner is f = is

-- Tags

tag_share : (d : Draft) (f : ℕ) → tag_by d f ≡ Gave → has_class Share d f ≡ true
tag_share d f e = at (has_class Share d f) (has_class Keep d f) e
  where
    at : (a b : Bool) → (if a then Gave else if b then Kept else Gone) ≡ Gave → a ≡ true
    at true b e = refl
    at false true e = cc
    at false false e = cc

-- the word was given to memory by a share
pub tag_gave : (d : Draft) (t : Tag) (ms : List Ordered) → tag_from d t ms ≡ Some Gave
    → (t ≡ Gave) ⊎ ((f : ℕ) × (r : ℕ) × (n : ℕ) × (k : ℕ) × IsIn (Forward f r n k) ms × (has_class Share d f ≡ true))
tag_gave d t [] h = inl (cc)
tag_gave d Plain (Forward f r n k ∷ ms) h = elim (tag_gave d (tag_by d f) ms h) [
  | inl e ↦ inr (f, r, n, k, inl refl, tag_share d f e)
  | inr (f2, r2, n2, k2, among, share) ↦ inr (f2, r2, n2, k2, inr among, share)
]
tag_gave d Kept (Forward f r n k ∷ ms) h = at (has_class Inv d f) h (λ h. tag_gave d (tag_by d f) ms h)
  where
    at : (b : Bool) → (if b then None else tag_from d (tag_by d f) ms) ≡ Some Gave
        → (tag_from d (tag_by d f) ms ≡ Some Gave → (tag_by d f ≡ Gave) ⊎ ((f : ℕ) × (r : ℕ) × (n : ℕ) × (k : ℕ) × IsIn (Forward f r n k) ms × (has_class Share d f ≡ true)))
        → (Kept ≡ Gave) ⊎ ((g : ℕ) × (r2 : ℕ) × (n2 : ℕ) × (k2 : ℕ) × IsIn (Forward g r2 n2 k2) (Forward f r n k ∷ ms) × (has_class Share d g ≡ true))
    at true h below = cc
    at false h below = elim (below h) [
      | inl e ↦ inr (f, r, n, k, inl refl, tag_share d f e)
      | inr (f2, r2, n2, k2, among, share) ↦ inr (f2, r2, n2, k2, inr among, share)
    ]
tag_gave d _ (m ∷ ms) h = cc

pub in_between : {A : Type 0} (to : ℕ → Option A) (a n : ℕ) (x : A) → IsIn x (sent_between to a n) → (j : ℕ) × (a ≤ j) × (j < a + n) × (to j ≡ Some x)
in_between to a zero x among = absurd among
in_between {A = A} to a (suc n) x among = at (to a) refl among (λ among. in_between to (suc a) n x among)
  where
    later : (j : ℕ) × (suc a ≤ j) × (j < suc a + n) × (to j ≡ Some x) → (j : ℕ) × (a ≤ j) × (j < a + suc n) × (to j ≡ Some x)
    later (j, lo, hi, sends) = (j, omega (arith, lo), omega (arith, hi), sends)

    at : (o : Option A) → to a ≡ o → IsIn x (put o (sent_between to (suc a) n)) → (IsIn x (sent_between to (suc a) n) → (j : ℕ) × (suc a ≤ j) × (j < suc a + n) × (to j ≡ Some x))
        → (j : ℕ) × (a ≤ j) × (j < a + suc n) × (to j ≡ Some x)
    at None is among below = later (below among)
    at (Some y) is (inl e) below = (a, omega arith, omega arith, is ∙ ap Some e)
    at (Some y) is (inr among) below = later (below among)
