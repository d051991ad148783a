-- The row that is found is the choice that the table picks.
use Rattle.std.proofs.Common.{◌≡◌, ℕ, ◌-◌, ◌≤◌, ◌<◌, arith, Bool, true, false, List, [], ◌∷◌, ◌++◌, length, get_or, Option, Some, None, refl, sym, ap, subst, ◌∙◌, ◌⊎◌, inl, inr}
use Rattle.std.specs.List.{list_any}
use Rattle.std.specs.Prelude.{slice_get}
use Rattle.std.specs.Option.{option_map, option_map_or, option_and_then}
use Rattle.std.proofs.lemmas.List.{append-nil}
use Rattle.pg_table.specs.declared.cache.Desc.{Desc}
use Rattle.pg_table.specs.declared.cache.Act.{Act}
use Rattle.pg_table.specs.declared.cache.Act.TheVariants as act
use Rattle.pg_table.specs.declared.cache.Input.{Input}
use Rattle.pg_table.specs.Controllers.{state_at}
use Rattle.pg_table.specs.Tables.{Row, Parts, find_row, number_of}
use Rattle.pg_table.specs.Choices.{Choice, choices}
use Rattle.pg_table.specs.Sound.{states_of, IsSoundCache}
use Rattle.pg_table.specs.Pick.{pick, choice_in}
use Rattle.pg_table.proofs.Picked.{picks_choice}
use Rattle.pg_table.specs.Stalls.{is_stall}
use Rattle.pg_order.specs.Messages.{tally}
use Rattle.pg_messages.specs.declared.messages.Ordered.{Ordered}
use Rattle.pg_messages.specs.declared.messages.Reply.{Reply}
use Rattle.pg_controllers.specs.Lines.{Received, LineResult, do_acts, ordered_input}
use Rattle.pg_queue.specs.Nets.{Nets}
use Rattle.pg_cache.specs.Acts.{LineView, IsWithinLimit, AllFit, progress, after_acts}
use Rattle.pg_cache.specs.Rows.{IsReady, IsMadeWith, HasRoomFor, after_choice, after_pick, after_row, is_defer, is_count}
use Rattle.pg_cache.specs.Inputs.{has_stall_row}
use Rattle.pg_cache.proofs.Settles.{behind, acts_behind}
use Rattle.pg_cache.proofs.AllFits.{all_fit}
use Rattle.pg_cache.proofs.Once.{AreOnce, once, each_get}
use Rattle.pg_cache.proofs.Unique.{number_is, is_there}

abbrev pub choice_of : List Act → Desc → Choice
choice_of xs s = record { acts = xs; next = s }

-- the number of a ready line's state
number_ready : (t : Parts) (i : Input) (m : Received) (x : LineView) (w : Nets) → IsSoundCache t.protocol t.cache → IsReady t i m x w → number_of (states_of t.cache) x.line.desc ≡ x.state
number_ready t i m x w sound ready = number_is t.cache x.state x.line.desc sound.distinct ready.made

picked : (t : Parts) (i : Input) (m : Received) (x : LineView) (w : Nets) (r : Row) (s : Desc) → IsSoundCache t.protocol t.cache → IsReady t i m x w
    → find_row t.cache x.state i ≡ Some r → state_at t.cache r.next ≡ Some s → pick t.cache x.line.desc i ≡ Some (record { acts = r.acts; next = s })
picked t i m x w r s sound ready found at =
    ap (λ (n : ℕ). option_and_then (choice_in t.cache) (find_row t.cache n i)) (number_ready t i m x w sound ready)
    ∙ ap (option_and_then (choice_in t.cache)) found
    ∙ ap (λ (o : Option Desc). option_map (choice_of r.acts) o) at

-- a ready line finds a row
pub finds : (t : Parts) (i : Input) (m : Received) (x : LineView) (w : Nets) → IsSoundCache t.protocol t.cache → IsReady t i m x w → find_row t.cache x.state i ≡ None → ⊥
finds t i m x w sound ready none =
    let nothing : pick t.cache x.line.desc i ≡ None =
    ap (λ (n : ℕ). option_and_then (choice_in t.cache) (find_row t.cache n i)) (number_ready t i m x w sound ready) ∙ ap (option_and_then (choice_in t.cache)) none in
    let some = ready.picked in
    cc (nothing, some)

-- what it picks is one of the choices
pub choice_ready : (t : Parts) (i : Input) (m : Received) (x : LineView) (w : Nets) → IsSoundCache t.protocol t.cache → (ready : IsReady t i m x w)
    → (k : ℕ) × (slice_get (choices t.protocol x.line.desc i) k ≡ Some ready.choice)
choice_ready t i m x w sound ready = picks_choice t.protocol t.cache x.line.desc i ready.choice sound (is_there t.cache x.state x.line.desc ready.made) ready.picked

-- How often

none_tally : {A : Type 0} (p : A → Bool) (xs : List A) → list_any p xs ≡ false → tally p xs ≡ 0
none_tally p [] h = refl
none_tally p (x ∷ xs) h = at (p x) refl (λ e. none_tally p xs e)
  where
    at : (b : Bool) → p x ≡ b → (list_any p xs ≡ false → tally p xs ≡ 0) → tally p (x ∷ xs) ≡ 0
    at true e rest = absurd (let yes : list_any p (x ∷ xs) ≡ true = rw e refl in cc (yes, h))
    at false e rest = let same : list_any p (x ∷ xs) ≡ list_any p xs = rw e refl in let none = rest (sym same ∙ h) in rw e (omega (arith, none))

one_counts : (xs : List Act) (g : ℕ) → tally is_count xs ≤ 1 → (list_any is_count xs ≡ true → g < 64) → tally is_count xs ≤ 64 - g
one_counts xs g one few = at (list_any is_count xs) refl
  where
    at : (b : Bool) → list_any is_count xs ≡ b → tally is_count xs ≤ 64 - g
    at true e = let low = few e in omega (arith, one, low)
    at false e = let none = none_tally is_count xs e in omega (arith, none)

one_defers : (xs : List Act) (l r : ℕ) → (tally is_defer xs ≡ 0) ⊎ (xs ≡ act.Defer ∷ []) → (list_any is_defer xs ≡ true → l < r) → tally is_defer xs ≤ r - l
one_defers xs l r (inl none) few = omega (arith, none)
one_defers xs l r (inr only) few =
    let n : tally is_defer xs ≡ 1 = ap (λ (xs : List Act). tally is_defer xs) only in
    let low = few (ap (λ (xs : List Act). list_any is_defer xs) only) in
    omega (arith, n, low)

pub fits : (t : Parts) (i : Input) (m : Received) (x : LineView) (w : Nets) (r : Row) (s : Desc) → IsSoundCache t.protocol t.cache → IsReady t i m x w
    → find_row t.cache x.state i ≡ Some r → state_at t.cache r.next ≡ Some s → AllFit t.protocol m r.acts (progress x w None)
fits t i m x w r s sound ready found at =
    let same : ready.choice ≡ record { acts = r.acts; next = s } = let p = ready.picked in let q = picked t i m x w r s sound ready found at in cc (p, q) in
    let (k, get) = choice_ready t i m x w sound ready in
    let (off, one) : AreOnce r.acts = subst (λ (c : Choice). AreOnce c.acts) same (each_get (choices t.protocol x.line.desc i) k ready.choice (once t.protocol x.line.desc i) get) in
    let has : HasRoomFor t.protocol (record { acts = r.acts; next = s }) m x w = subst (λ (c : Choice). HasRoomFor t.protocol c m x w) same ready.room in
    all_fit t.protocol m r.acts (progress x w None) (room has) (one_defers r.acts (length x.line.deferred) x.room off has.defers) (one_counts r.acts x.line.got one has.counts) ready.core
  where
    start : LineResult
    start = record { line = x.line; slot = get_or w.slots x.core None; replies = []; done = None }

    from : (progress x w None).result ≡ behind w.replies start
    from = ap (λ (z : List Reply). record start { replies = z }) (sym (append-nil w.replies))

    room : HasRoomFor t.protocol (record { acts = r.acts; next = s }) m x w → IsWithinLimit (after_acts t.protocol m r.acts (progress x w None))
    room has =
        let all : length (do_acts t.protocol m r.acts (progress x w None).result).replies ≡ length (w.replies ++ (do_acts t.protocol m r.acts start).replies) =
        ap (λ (z : LineResult). length z.replies) (ap (do_acts t.protocol m r.acts) from ∙ acts_behind t.protocol m w.replies r.acts start) in
        let sends = has.sends in
        omega (arith, all, sends)

pub drives : (t : Parts) (i : Input) (m : Received) (x : LineView) (w : Nets) (r : Row) (s : Desc) → IsSoundCache t.protocol t.cache → IsReady t i m x w
    → find_row t.cache x.state i ≡ Some r → state_at t.cache r.next ≡ Some s → after_choice t.protocol (record { acts = r.acts; next = s }) r.next m x w ≡ after_row t i m x w
drives t i m x w r s sound ready found at =
    ap (λ (n : ℕ). after_choice t.protocol (record { acts = r.acts; next = s }) n m x w) (sym (number_is t.cache r.next s sound.distinct at))
    ∙ ap (after_pick t.protocol t.cache m x w) (sym (picked t i m x w r s sound ready found at))

-- What a line lets wait

pub stall_row_is : (t : Parts) (x : LineView) (m : Ordered) (o : Option Row) → IsSoundCache t.protocol t.cache → IsMadeWith t x → find_row t.cache x.state (ordered_input x.line m) ≡ o
    → has_stall_row t.cache x.line m ≡ option_map_or (λ (r : Row). list_any is_stall r.acts) o false
stall_row_is t x m o sound made found =
    ap (λ (n : ℕ). option_map_or (λ (r : Row). list_any is_stall r.acts) (find_row t.cache n (ordered_input x.line m)) false) (number_is t.cache x.state x.line.desc sound.distinct made)
    ∙ ap (λ (o : Option Row). option_map_or (λ (r : Row). list_any is_stall r.acts) o false) found
