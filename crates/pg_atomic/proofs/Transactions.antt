-- What a transaction does to a state that is safe.
use Rattle.std.proofs.Common.{◌≡◌, ◌≢◌, ℕ, ◌+◌, ◌<◌, ◌==◌, Bool, true, false, length, get_or, Option, Some, None, refl, sym, ap, subst, ◌∙◌, arith, inl, inr, ◌⊎◌}
use Rattle.std.specs.Prelude.{◌&&◌, if◌then◌else◌}
use Rattle.std.specs.Option.{option_map, option_map_or, option_and_then}
use Rattle.std.specs.List.{list_any}
use Rattle.std.proofs.lemmas.Bool.{eqb-true, eq-eqb}
use Rattle.pg_perm.specs.declared.kinds.Event.{Event}
use Rattle.pg_perm.specs.declared.kinds.Event.TheVariants.{Load, Store, Evict}
use Rattle.pg_perm.specs.declared.kinds.Who.{Who}
use Rattle.pg_perm.specs.declared.kinds.Who.TheVariants.{Owner}
use Rattle.pg_perm.specs.declared.kinds.Role.{Role}
use Rattle.pg_perm.specs.declared.kinds.Role.TheVariants as role
use Rattle.pg_perm.specs.declared.kinds.FwdClass.TheVariants.{Inv, Share, Keep, Drop}
use Rattle.pg_perm.specs.declared.draft.Draft.{Draft}
use Rattle.pg_perm.specs.declared.draft.CacheLine.{CacheLine}
use Rattle.pg_perm.specs.declared.draft.CoreLine.{CoreLine}
use Rattle.pg_perm.specs.declared.draft.RowLine.{RowLine}
use Rattle.pg_perm.specs.declared.draft.RowForm.{RowForm}
use Rattle.pg_perm.specs.declared.draft.RowForm.TheVariants as form
use Rattle.pg_perm.specs.declared.draft.TakeLine.{TakeLine}
use Rattle.pg_perm.specs.declared.draft.ReplyName.{ReplyName}
use Rattle.pg_perm.specs.declared.draft.ReplyName.TheVariants as reply
use Rattle.pg_perm.specs.declared.draft.Action.{Action}
use Rattle.pg_perm.specs.declared.draft.Action.TheVariants as action
use Rattle.pg_terms.specs.Terms.{is, is_out, is_shared, is_owner, cache_is, same_event, out, shared, forward_of, has_class, lists, core_row, take_row}
use Rattle.pg_terms.specs.Due.{forward_in, is_due, is_to_owner, is_passed_to}
use Rattle.pg_shape.specs.Shaped.{IsShaped, IsCache}
use Rattle.pg_terms.specs.Rows.{action_in, allows, reply_to}
use Rattle.pg_shape.proofs.Bools.{or_true, one_three, true_not}
use Rattle.pg_shape.proofs.Rows.{row_at}
use Rattle.pg_directory.specs.DirEntries.{DirEntry, Request, who, row_of, case_of, entry_after, is_among}
use Rattle.pg_directory.specs.Sends.{forward_sent, forward_by_row}
use Rattle.pg_directory.proofs.Cores.{among_below}
use Rattle.pg_directory.specs.Sound.{IsSound, fits, fits_as}
use Rattle.pg_directory.specs.Requests.{IsHandled, IsReply, IsReplyBy, action_of}
use Rattle.pg_atomic.specs.States.{State, state_of, out_state, take_next, next_by_forward, reply_by, requestor_reply, requestor_end, each_from, core_next, after_transaction}
use Rattle.pg_atomic.specs.Steps.{needs_transaction}
use Rattle.pg_atomic.specs.Safety.{IsSafe, HasItsRows}
use Rattle.pg_atomic.proofs.Cores.{length-each_from, get_or-each_from}
use Rattle.pg_atomic.proofs.Fits.{is_then_some, shared_line, owner_line, line_of}
use Rattle.pg_atomic.proofs.Legal.{holds_as}

-- Rows

-- who needs to evict isn't in the out state
not_out : (d : Draft) → IsShaped d → (x : ℕ) (c : CacheLine) → IsCache d x c → needs_transaction d x Evict ≡ true → is_out c.role ≡ false
not_out d s x c at g = split (is_out c.role) refl
  where
    split : (b : Bool) → is_out c.role ≡ b → b ≡ false
    split true h = let p : is (out d) x ≡ true = rw (s.perms.out_none x c at h).0 (eq-eqb x x refl) in absurd (cc (g, p))
    split false h = refl

core_there : (d : Draft) → IsShaped d → (n : ℕ) (w : Who) (x : ℕ) (e : Event) → fits_as d n w x ≡ true → needs_transaction d x e ≡ true
    → (l : CoreLine) × (core_row d x e ≡ Some l)
core_there d s n w x Load h g = let p = line_of d s n w x h in s.cores.row x Load p.0 p.1 (λ e. absurd (cc e))
core_there d s n w x Store h g = let p = line_of d s n w x h in s.cores.row x Store p.0 p.1 (λ e. absurd (cc e))
core_there d s n w x Evict h g = let p = line_of d s n w x h in s.cores.row x Evict p.0 p.1 (λ e. not_out d s x p.0 p.1 g)

-- what is passed on, from the action
passes_on : (x : RowForm) (f : ℕ) → action_in x ≡ Some (action.Forward f) → forward_in x ≡ Some f
passes_on (form.Ask request w (action.Reply m)) f h = absurd cc
passes_on (form.Ask request w (action.Forward g)) f h = cc
passes_on (form.Ask request w action.Count) f h = absurd cc
passes_on (form.Evict w left) f h = absurd cc

owner_apart : (r : Role) → is_owner r ≡ true → is_shared r ≡ true → ⊥
owner_apart role.Out h g = absurd cc
owner_apart role.Shared h g = absurd cc
owner_apart role.Owner h g = absurd cc

-- a forward that is due at an owner goes to owners
to_owner : (d : Draft) → IsShaped d → (n x f : ℕ) → lists d n x ≡ true → is_due d x f ≡ true → is_to_owner d f ≡ true
to_owner d s n x f at due = by (owner_line d s n x at) (or_true _ _ due)
  where
    first : (a b : Bool) → (a && b) ≡ true → a ≡ true
    first true b h = refl
    first false b h = cc

    middle : (a b e : Bool) → (a && b && e) ≡ true → b ≡ true
    middle true true e h = refl
    middle true false e h = cc
    middle false b e h = absurd cc

    by : (c : CacheLine) × IsCache d x c × (is_owner c.role ≡ true) → ((is (shared d) x && is (forward_of d Inv) f) ≡ true)
        ⊎ ((cache_is (λ c. is_owner c.role) d x && is_to_owner d f && list_any (is_passed_to d x f) d.rows) ≡ true) → is_to_owner d f ≡ true
    by c (inl h) =
        let p = shared_line d x (first (is (shared d) x) _ h) in
        let same : p.0 ≡ c.0 = cc (p.1, c.1) in
        absurd (owner_apart c.0.role c.2 (subst (λ (l : CacheLine). is_shared l.role ≡ true) same p.2))
    by c (inr h) = middle (cache_is (λ c. is_owner c.role) d x) _ _ h

-- a listed owner answers what is passed on with a reply
pub answers : (d : Draft) → IsShaped d → (n x f : ℕ) → lists d n x ≡ true → is_due d x f ≡ true → (m : ℕ) × (reply_to d x f ≡ Some m)
answers d s n x f at due = by (s.takes.due x f due) (one_three _ _ _ (to_owner d s n x f at due))
  where
    from : (t : TakeLine) (m : ℕ) → take_row d x f ≡ Some t → t.reply ≡ Some m → reply_to d x f ≡ Some m
    from t m row e = rw row e

    by : (t : TakeLine) × (take_row d x f ≡ Some t) → (has_class Share d f ≡ true) ⊎ ((has_class Keep d f ≡ true) ⊎ (has_class Drop d f ≡ true))
        → (m : ℕ) × (reply_to d x f ≡ Some m)
    by (t, row) (inl h) = let p = (s.takes.share x f t row h).0 in (p.0, from t p.0 row p.1)
    by (t, row) (inr (inl h)) = let p = (s.takes.keep x f t row h).0 in (p.0, from t p.0 row p.1)
    by (t, row) (inr (inr h)) = let p = (s.takes.drop x f t row h).0 in (p.0, from t p.0 row p.1)

-- what a row passes on is due at a listed owner
pub due_of : (d : Draft) → IsShaped d → (home : DirEntry) (q : Request) (x f : ℕ) → lists d home.dir x ≡ true → action_of d home q ≡ Some (action.Forward f)
    → is_due d x f ≡ true
due_of d s home q x f at does = by (row_of d home q) refl
  where
    by : (o : Option RowLine) → row_of d home q ≡ o → is_due d x f ≡ true
    by None e = let h : action_of d home q ≡ None = rw e refl in absurd (cc (h, does))
    by (Some r) e =
        let h : action_of d home q ≡ action_in r.form = rw e refl in
        let (k, g, dir, for) = row_at d home.dir (case_of home q) r e in
        s.takes.passed home.dir x f k r g dir (passes_on r.form f (sym h ∙ does)) at

-- the reply of the owner
owner_reply : (d : Draft) (a : State) (owner : Option ℕ) (o f m : ℕ) → owner ≡ Some o → reply_to d (state_of a o) f ≡ Some m
    → option_map (λ m. reply.Reply m) (option_and_then (λ o. reply_to d (state_of a o) f) owner) ≡ Some (reply.Reply m)
owner_reply d a owner o f m e answer = rw e (rw answer refl)

owns : (home : DirEntry) (o : ℕ) → home.owner ≡ Some o → who home o ≡ Owner
owns home o owner = rw owner (rw (eq-eqb o o refl) refl)

-- the requestor gets a reply, and it is one that may come
pub requestor_gets_reply : (d : Draft) → IsShaped d → (a : State) (q : Request) → IsSafe d a → IsHandled d (length a.states) a.entry q → q.event ≢ Evict
    → (name : ReplyName) × (requestor_reply d a q ≡ Some name) × IsReply d a.entry q name
requestor_gets_reply d s a q safe h asks = by (action_of d a.entry q) refl (h.replied asks)
  where
    by : (o : Option Action) → action_of d a.entry q ≡ o → (name : ReplyName) × IsReply d a.entry q name
        → (name : ReplyName) × (requestor_reply d a q ≡ Some name) × IsReply d a.entry q name
    by None e (name, is_reply) = absurd (subst (λ (o : Option Action). IsReplyBy d a.entry.dir o name) e is_reply)
    by (Some (action.Reply m)) e r = (reply.Reply m, rw e refl, rw e refl)
    by (Some (action.Forward f)) e r =
        let (o, owner, apart) = h.passed f e in
        let inside = (safe.entry.owner o owner).0 in
        let x : ℕ = state_of a o in
        let at : lists d a.entry.dir x ≡ true = sym (ap (λ (w : Who). fits_as d a.entry.dir w x) (owns a.entry o owner)) ∙ safe.fits o inside in
        let (m, answer) = answers d s a.entry.dir x f at (due_of d s a.entry q x f at e) in
        let may_come : IsReplyBy d a.entry.dir (Some (action.Forward f)) (reply.Reply m) = (x, m, at, answer, refl) in
        (reply.Reply m, ap (reply_by d a) e ∙ owner_reply d a a.entry.owner o f m owner answer, subst (λ (x : Option Action). IsReplyBy d a.entry.dir x (reply.Reply m)) (sym e) may_come)
    by (Some action.Count) e r = (reply.AckCount, rw e refl, rw e refl)

is_not : (b : Bool) → b ≡ false → b ≡ true → ⊥
is_not b h g = absurd (cc (h, g))

load_lacks : (d : Draft) (x : ℕ) (e : Event) → e ≢ Evict → needs_transaction d x e ≡ true → cache_is (allows e) d x ≡ false
load_lacks d x Load asks g = true_not _ g
load_lacks d x Store asks g = true_not _ g
load_lacks d x Evict asks g = absurd (asks refl)

-- a core that is sent a forward is there
sent_inside : (d : Draft) (n : ℕ) (home : DirEntry) (q : Request) (c f : ℕ) → IsSound d n home → forward_sent d home q c ≡ Some f → c < n
sent_inside d n home q c f sound e = by_row (row_of d home q) refl
  where
    by_owner : (b : Bool) (o : Option ℕ) → is home.owner c ≡ b → (if b then o else None) ≡ Some f → c < n
    by_owner true o h g = (sound.owner c (is_then_some home.owner c h)).0
    by_owner false o h g = absurd cc

    by_sharer : (b : Bool) (i o : Option ℕ) → (same_event q.event Store && is_among home.sharers c) ≡ b
        → (if b then i else if is home.owner c then o else None) ≡ Some f → c < n
    by_sharer true i o h g = among_below n c home.sharers sound.inside (second (same_event q.event Store) (is_among home.sharers c) h)
      where
        second : (a b : Bool) → (a && b) ≡ true → b ≡ true
        second true true h = refl
        second true false h = cc
        second false b h = absurd cc
    by_sharer false i o h g = by_owner (is home.owner c) o refl g

    by_core : (b : Bool) (i o : Option ℕ)
        → (if b then None else if same_event q.event Store && is_among home.sharers c then i else if is home.owner c then o else None) ≡ Some f → c < n
    by_core true i o g = absurd cc
    by_core false i o g = by_sharer (same_event q.event Store && is_among home.sharers c) i o refl g

    by_row : (r : Option RowLine) → row_of d home q ≡ r → c < n
    by_row None h = let none : forward_sent d home q c ≡ None = rw h refl in absurd (cc (none, e))
    by_row (Some r) h = let some : forward_sent d home q c ≡ forward_by_row d home q c r = rw h refl in
        by_core (q.core == c) (forward_of d Inv) (forward_in r.form) (sym some ∙ e)

-- a transaction that is needed has its rows
pub transaction_has_rows : (d : Draft) → IsShaped d → (a : State) (q : Request) → IsSafe d a → IsHandled d (length a.states) a.entry q → q.core < length a.states
    → needs_transaction d (state_of a q.core) q.event ≡ true → HasItsRows d a q
transaction_has_rows d s a q safe h inside need =
    let fit = safe.fits q.core inside in
    record {
      core = core_there d s a.entry.dir (who a.entry q.core) (state_of a q.core) q.event fit need;
      dir = h.row (λ e. holds_as d a.entry.dir (who a.entry q.core) (state_of a q.core) fit (subst (λ (v : Event). needs_transaction d (state_of a q.core) v ≡ true) e need));
      takes = λ c f e. let p = h.applies c f (state_of a c) e (safe.fits c (sent_inside d (length a.states) a.entry q c f safe.entry e)) in (p.0, p.1);
      passed = λ f does. let p = h.passed f does in (p.0, p.1, λ e. is_not (q.core == p.0) p.2 (eq-eqb q.core p.0 e));
      ends = λ asks.
          let (name, gets, may_come) = requestor_gets_reply d s a q safe h asks in
          let g = h.granted asks (state_of a q.core) name fit (load_lacks d (state_of a q.core) q.event asks need) may_come in
          (name, g.0, gets, g.1);
    }

-- States afterwards

pub out_fits : (d : Draft) → IsShaped d → is (out d) (out_state d) ≡ true
out_fits d s = let p = s.perms.start in rw p.1 (eq-eqb p.0 p.0 refl)

-- the state in which the requestor ends fits, and has the permission
pub ends_fit : (d : Draft) → IsShaped d → (a : State) (c : ℕ) (e : Event) → IsSafe d a → IsHandled d (length a.states) a.entry (record { core = c; event = e })
    → c < length a.states → needs_transaction d (state_of a c) e ≡ true
    → (fits d (entry_after d a.entry (record { core = c; event = e })) c (requestor_end d a c e) ≡ true) × (e ≢ Evict → cache_is (allows e) d (requestor_end d a c e) ≡ true)
ends_fit d s a c Load safe h inside need =
    let (name, gets, may_come) = requestor_gets_reply d s a (record { core = c; event = Load }) safe h (λ e. absurd (cc e)) in
    let g = h.granted (λ e. absurd (cc e)) (state_of a c) name (safe.fits c inside) (true_not _ need) may_come in
    (rw gets (rw g.1 g.2), λ e. rw gets (rw g.1 g.3))
ends_fit d s a c Store safe h inside need =
    let (name, gets, may_come) = requestor_gets_reply d s a (record { core = c; event = Store }) safe h (λ e. absurd (cc e)) in
    let g = h.granted (λ e. absurd (cc e)) (state_of a c) name (safe.fits c inside) (true_not _ need) may_come in
    (rw gets (rw g.1 g.2), λ e. rw gets (rw g.1 g.3))
ends_fit d s a c Evict safe h inside need =
    (ap (λ (w : Who). fits_as d (entry_after d a.entry (record { core = c; event = Evict })).dir w (out_state d)) (h.left refl) ∙ out_fits d s, λ e. absurd (e refl))

-- a core that is sent a forward, or none, ends in a state that fits
taken_fits : (d : Draft) (n : ℕ) (home : DirEntry) (q : Request) (c x : ℕ) → IsHandled d n home q → (q.core == c) ≡ false → fits d home c x ≡ true
    → fits d (entry_after d home q) c (next_by_forward d home q c x) ≡ true
taken_fits d n home q c x h apart fit = by (forward_sent d home q c) refl
  where
    by : (o : Option ℕ) → forward_sent d home q c ≡ o → fits d (entry_after d home q) c (option_map_or (take_next d x) o x) ≡ true
    by None e = (h.untouched c apart e).1 x fit
    by (Some f) e = let p = h.applies c f x e fit in rw p.1 p.2

moved_fits : (d : Draft) → IsShaped d → (a : State) (q : Request) (c : ℕ) → IsSafe d a → IsHandled d (length a.states) a.entry q → q.core < length a.states
    → needs_transaction d (state_of a q.core) q.event ≡ true → c < length a.states → fits d (entry_after d a.entry q) c (core_next d a q c (state_of a c)) ≡ true
moved_fits d s a q c safe h inside need there = by (q.core == c) refl
  where
    by : (b : Bool) → (q.core == c) ≡ b → fits d (entry_after d a.entry q) c (if b then requestor_end d a q.core q.event else next_by_forward d a.entry q c (state_of a c)) ≡ true
    by true e =
        subst (λ (x : ℕ). fits d (entry_after d a.entry q) x (requestor_end d a q.core q.event) ≡ true) (eqb-true q.core c e)
        (ends_fit d s a q.core q.event safe h inside need).0
    by false e = taken_fits d (length a.states) a.entry q c (state_of a c) h e (safe.fits c there)

-- a transaction leads from a safe state to one
pub safe_transact : (d : Draft) → IsShaped d → (a : State) (q : Request) → IsSafe d a → IsHandled d (length a.states) a.entry q → q.core < length a.states
    → needs_transaction d (state_of a q.core) q.event ≡ true → IsSafe d (after_transaction d a q)
safe_transact d s a q safe h inside need =
    let same : length (each_from (core_next d a q) 0 a.states) ≡ length a.states = length-each_from (core_next d a q) 0 a.states in
    record {
      entry = subst (λ (n : ℕ). IsSound d n (entry_after d a.entry q)) (sym same) h.sound;
      fits = λ c there.
          let below : c < length a.states = omega (arith, there, same) in
          let at_zero : 0 + c ≡ c = omega arith in
          let is_moved = get_or-each_from (core_next d a q) 0 a.states c 0 below ∙ ap (λ (x : ℕ). core_next d a q x (get_or a.states c 0)) at_zero in
          ap (λ (x : ℕ). fits d (entry_after d a.entry q) c x) is_moved ∙ moved_fits d s a q c safe h inside need below;
    }
