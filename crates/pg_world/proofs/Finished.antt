-- A world is finished exactly where no event is enabled.
use Rattle.std.proofs.Common.{◌≡◌, ℕ, zero, suc, Bool, true, false, ◌&&◌, List, [], ◌∷◌, length, get_or, Option, Some, None, refl, sym, ap, subst, ◌∙◌, inl, nat_eq, arith}
use Rattle.std.specs.Prelude.{nat_lt, not, is_none, is_some}
use Rattle.std.specs.List.{list_all}
use Rattle.std.proofs.lemmas.Bool.{and_parts, ne_eqb, le-ltb}
use Rattle.pg_perm.specs.declared.kinds.Op.{Op}
use Rattle.pg_perm.specs.declared.draft.Draft.{Draft}
use Rattle.pg_table.specs.Tables.{TableState}
use Rattle.pg_table.specs.Pick.{pick}
use Rattle.pg_table.proofs.Lists.{IsIn}
use Rattle.pg_messages.specs.declared.messages.Ask.{Ask as SentRequest}
use Rattle.pg_messages.specs.declared.messages.Ordered.{Ordered}
use Rattle.pg_messages.specs.declared.messages.Reply.{Reply}
use Rattle.pg_messages.specs.declared.messages.WorldEvent.{WorldEvent}
use Rattle.pg_messages.specs.declared.messages.WorldEvent.TheVariants.{Issue, Request as Request_of, Ordered as Ordered_to, Reply as Reply_at}
use Rattle.pg_controllers.specs.Networks.{Core, idle_core}
use Rattle.pg_controllers.specs.Directories.{is_busy}
use Rattle.pg_controllers.specs.Worlds.{Picks, World, core, is_stable, has_head, is_enabled, has_row}
use Rattle.pg_safe.specs.Moving.{is_empty, is_at_rest, is_finished}
use Rattle.pg_reached.specs.Reached.{IsReachedWorld}
use Rattle.pg_reached.proofs.Reached.{event_can_happen}
use Rattle.pg_world.specs.Enabled.{enabled_events}
use Rattle.pg_world.proofs.Enabled.{enabled_in, in_enabled}

all_at : (p : Core → Bool) (xs : List Core) (c : ℕ) → list_all p xs ≡ true → p idle_core ≡ true → p (get_or xs c idle_core) ≡ true
all_at p [] c all idle = idle
all_at p (x ∷ xs) zero all idle = (and_parts (p x) (list_all p xs) all).0
all_at p (x ∷ xs) (suc c) all idle = all_at p xs c (and_parts (p x) (list_all p xs) all).1 idle

empty_nil : {A : Type 0} (xs : List A) → is_empty xs ≡ true → xs ≡ []
empty_nil [] h = refl
empty_nil (x ∷ xs) h = cc

none_is : {A : Type 0} (o : Option A) → is_none o ≡ true → o ≡ None
none_is None h = refl
none_is (Some x) h = cc

and_no : (b : Bool) → b && false ≡ false
and_no true = refl
and_no false = refl

pub still : (p : Picks) (w : World) (e : WorldEvent) → is_finished w ≡ true → is_enabled p w e ≡ false
still p w e done =
    let (settled, left) = and_parts _ _ done in
    let (quiet, idle) = and_parts _ _ settled in
    let (rest, replies) = and_parts _ _ quiet in
    at e rest left (empty_nil w.replies replies)
  where
    at : (e : WorldEvent) → list_all is_at_rest w.cores ≡ true → list_all (λ (x : Core). is_empty x.left) w.cores ≡ true → w.replies ≡ [] → is_enabled p w e ≡ false
    at (Issue c) rest left replies =
        let none = empty_nil (core w c).left (all_at (λ (x : Core). is_empty x.left) w.cores c left refl) in
        ap (λ (os : List Op). is_stable (core w c).line.desc && nat_lt 0 (length os)) none ∙ and_no (is_stable (core w c).line.desc)
    at (Request_of c) rest left replies =
        let (both, queue) = and_parts _ _ (all_at is_at_rest w.cores c rest refl) in
        let (stable, slot) = and_parts _ _ both in
        ap (λ (a : Option SentRequest). is_some a && not (is_busy w.directory.desc)) (none_is (core w c).slot slot)
    at (Ordered_to c) rest left replies =
        let (both, queue) = and_parts _ _ (all_at is_at_rest w.cores c rest refl) in
        ap (λ (ms : List Ordered). has_head p (core w c).line ms) (empty_nil (core w c).queue queue)
    at (Reply_at i) rest left replies = ap (λ (rs : List Reply). nat_lt i (length rs)) replies ∙ le-ltb i 0 (omega arith)

-- where nothing is enabled the world is finished
pub quiet_finished : (d : Draft) (t : List TableState) (given : List (List Op)) (w : World) → IsReachedWorld d t given w → enabled_events (pick t) w ≡ [] → is_finished w ≡ true
quiet_finished d t given w r quiet = by (is_finished w) refl
  where
    by : (b : Bool) → is_finished w ≡ b → is_finished w ≡ true
    by true is = is
    by false is =
        let (e, can) = event_can_happen d t given w r is in
        let on : is_enabled (pick t) w e ≡ true = (and_parts (is_enabled (pick t) w e) (has_row d (pick t) w e) can).0 in
        absurd (subst (λ (es : List WorldEvent). IsIn e es) quiet (enabled_in (pick t) w e on))

-- where it is finished nothing is enabled
finished_quiet : (p : Picks) (w : World) (es : List WorldEvent) → enabled_events p w ≡ es → is_finished w ≡ true → es ≡ []
finished_quiet p w [] is done = refl
finished_quiet p w (e ∷ es) is done =
    let on : is_enabled p w e ≡ true = in_enabled p w e (subst (λ (xs : List WorldEvent). IsIn e xs) (sym is) (inl refl)) in
    let off = still p w e done in
    absurd (cc (on, off))

pub finished_is : (d : Draft) (t : List TableState) (given : List (List Op)) (w : World) → IsReachedWorld d t given w → is_finished w ≡ nat_eq (length (enabled_events (pick t) w)) 0
finished_is d t given w r = by (enabled_events (pick t) w) refl
  where
    by : (es : List WorldEvent) → enabled_events (pick t) w ≡ es → is_finished w ≡ nat_eq (length (enabled_events (pick t) w)) 0
    by [] is = quiet_finished d t given w r is ∙ sym (ap (λ (xs : List WorldEvent). nat_eq (length xs) 0) is)
    by (e ∷ es) is = of (is_finished w) refl
      where
        of : (b : Bool) → is_finished w ≡ b → is_finished w ≡ nat_eq (length (enabled_events (pick t) w)) 0
        of false done = done ∙ sym (ap (λ (xs : List WorldEvent). nat_eq (length xs) 0) is ∙ ne_eqb (suc (length es)) 0 (λ z. cc z))
        of true done = let none = finished_quiet (pick t) w (e ∷ es) is done in absurd (cc none)
