-- A line is ready where the world after its row is orderly.
use Rattle.std.proofs.Common.{◌≡◌, ℕ, ◌+◌, ◌-◌, ◌*◌, ◌<◌, ◌≤◌, arith, Bool, true, false, List, [], ◌∷◌, ◌++◌, length, set, get_or, Option, Some, None, refl, sym, ap, ◌∙◌, ◌⊎◌, inl, inr}
use Rattle.std.specs.Prelude.{map}
use Rattle.std.specs.List.{list_any}
use Rattle.std.proofs.lemmas.List.{length-append, map-set, get_or-set_same}
use Rattle.pg_perm.specs.Drafts.{IsWellFormed}
use Rattle.pg_shape.specs.Shaped.{IsShaped}
use Rattle.pg_table.specs.declared.cache.Act.{Act}
use Rattle.pg_table.specs.declared.cache.Act.TheVariants as act
use Rattle.pg_table.specs.declared.cache.Input.{Input}
use Rattle.pg_table.specs.Choices.{Choice, choices}
use Rattle.pg_table.specs.Tables.{Parts, number_of}
use Rattle.pg_table.specs.Sound.{states_of, is_among, IsSoundCache}
use Rattle.pg_table.specs.Pick.{pick}
use Rattle.pg_table.proofs.Numbers.{number_of_at}
use Rattle.pg_table.proofs.Picked.{picks_choice}
use Rattle.pg_messages.specs.declared.messages.Ask.{Ask as SentRequest}
use Rattle.pg_messages.specs.declared.messages.Ordered.{Ordered}
use Rattle.pg_messages.specs.declared.messages.WorldEvent.{WorldEvent}
use Rattle.pg_order.specs.Messages.{tally}
use Rattle.pg_controllers.specs.Networks.{Core, idle_core}
use Rattle.pg_controllers.specs.Lines.{Received, LineResult, do_acts, result_of}
use Rattle.pg_controllers.specs.Worlds.{World, core, settle, with_event}
use Rattle.pg_orderly.specs.Orderly.{Mark, IsOrderly}
use Rattle.pg_safe.specs.Work.{total}
use Rattle.pg_safe.proofs.Bounds.{networks_bounded, deferred_bounded}
use Rattle.pg_queue.specs.Nets.{message_limit, ordered_count}
use Rattle.pg_cache.specs.Rows.{IsReady, is_defer}
use Rattle.pg_cache.proofs.Once.{AreOnce, once, each_get}
use Rattle.pg_cache.proofs.Unique.{get_states}

any_tally : {A : Type 0} (p : A → Bool) (xs : List A) → list_any p xs ≡ true → 0 < tally p xs
any_tally p [] h = cc
any_tally p (x ∷ xs) h = at (p x) refl (any_tally p xs)
  where
    at : (b : Bool) → p x ≡ b → (list_any p xs ≡ true → 0 < tally p xs) → 0 < tally p (x ∷ xs)
    at true e rest = rw e (omega arith)
    at false e rest = let same : list_any p (x ∷ xs) ≡ list_any p xs = rw e refl in let some = rest (sym same ∙ h) in rw e (omega (arith, some))

pub count_is : (xs : List Core) → ordered_count (map (λ x. x.queue) xs) ≡ total (λ (x : Core). length x.queue) xs
count_is [] = refl
count_is (x ∷ xs) = ap (λ n. length x.queue + n) (count_is xs)

pub ready_by : (t : Parts) (n : ℕ) (u : ℕ → Mark) (c : ℕ) (i : Input) (r : Received) (ch : Choice) (y : Core) (w : World) (slots : List (Option SentRequest)) (lists : List (List Ordered)) (e : ℕ × WorldEvent)
    → IsWellFormed t.protocol → IsShaped t.protocol → IsSoundCache t.protocol t.cache
    → IsOrderly t.protocol n (with_event e (settle c y (result_of t.protocol ch r y.line y.slot) w)) u
    → length w.cores ≡ n → c < n → length slots ≡ n → get_or slots c None ≡ y.slot → lists ≡ set (map (λ x. x.queue) w.cores) c y.queue
    → is_among (states_of t.cache) y.line.desc ≡ true → pick t.cache y.line.desc i ≡ Some ch → y.line.got < 64
    → IsReady t i r (record { line = y.line; state = number_of (states_of t.cache) y.line.desc; core = c; room = n - 1 }) (record { slots = slots; lists = lists; replies = w.replies })
ready_by t n u c i r ch y w slots lists e wf sh sound o cores low size slot queue among picked got = record {
  made = sym (get_states t.cache (number_of (states_of t.cache) y.line.desc)) ∙ number_of_at (states_of t.cache) y.line.desc among;
  core = omega (arith, low, size);
  choice = ch;
  picked = picked;
  room = record { sends = sends; defers = defers once_each.0; counts = λ any. got };
}
  where
    a : LineResult
    a = result_of t.protocol ch r y.line y.slot

    after : Core
    after = record y { line = a.line; slot = a.slot }

    next : World
    next = with_event e (settle c y a w)

    same : result_of t.protocol ch r y.line (get_or slots c None) ≡ a
    same = ap (λ (s : Option SentRequest). result_of t.protocol ch r y.line s) slot

    sends : ordered_count lists + length (w.replies ++ (result_of t.protocol ch r y.line (get_or slots c None)).replies) ≤ message_limit (length slots)
    sends =
        let bound : total (λ (x : Core). length x.queue) next.cores + length next.replies ≤ n * n + 1 = networks_bounded t.protocol n next u wf sh o in
        let count : ordered_count lists ≡ total (λ (x : Core). length x.queue) next.cores =
        ap ordered_count (queue ∙ sym (map-set (λ (x : Core). x.queue) w.cores c after)) ∙ count_is next.cores in
        let sent : length (w.replies ++ (result_of t.protocol ch r y.line (get_or slots c None)).replies) ≡ length next.replies = ap (λ (z : LineResult). length (w.replies ++ z.replies)) same in
        let limit : message_limit (length slots) ≡ n * n + 1 = ap message_limit size in
        rw limit (omega (arith, bound, count, sent))

    once_each : AreOnce ch.acts
    once_each = let (k, get) = picks_choice t.protocol t.cache y.line.desc i ch sound among picked in each_get (choices t.protocol y.line.desc i) k ch (once t.protocol y.line.desc i) get

    defers : (tally is_defer ch.acts ≡ 0) ⊎ (ch.acts ≡ act.Defer ∷ []) → list_any is_defer ch.acts ≡ true → length y.line.deferred < n - 1
    defers (inl none) any = absurd (let some = any_tally is_defer ch.acts any in omega (arith, some, none))
    defers (inr only) any =
        let bound : length (core next c).line.deferred + 1 ≤ n = deferred_bounded t.protocol n next u c wf sh o low in
        let here : core next c ≡ after = get_or-set_same w.cores c after idle_core (omega (arith, low, cores)) in
        let now : length (core next c).line.deferred ≡ length a.line.deferred = ap (λ (x : Core). length x.line.deferred) here in
        let longer : length a.line.deferred ≡ length (y.line.deferred ++ r.message ∷ []) =
        ap (λ (xs : List Act). length (do_acts t.protocol r xs (record { line = y.line; slot = y.slot; replies = []; done = None })).line.deferred) only in
        let one : length (y.line.deferred ++ r.message ∷ []) ≡ length y.line.deferred + 1 = length-append y.line.deferred (r.message ∷ []) in
        omega (arith, bound, now, longer, one)
