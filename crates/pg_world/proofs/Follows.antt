-- The index of a block follows its events, and says which are enabled.
use Rattle.std.proofs.Common.{◌≡◌, ◌≢◌, ℕ, zero, suc, ◌+◌, ◌-◌, ◌<◌, ◌≤◌, arith, Bool, true, false, ◌&&◌, ◌||◌, List, [], ◌∷◌, ◌++◌, length, map, get_or, set, Option, Some, None, refl, sym, ap, subst, ◌∙◌}
use Rattle.std.specs.Prelude.{if◌then◌else◌, ◌==◌, nat_lt, not, is_some, slice_get, IfSome}
use Rattle.std.specs.List.{filter, range_with_len, remove}
use Rattle.std.specs.Option.{option_and_then, option_map_or, option_map}
use Rattle.std.proofs.lemmas.Bool.{lt-ltb, ne_eqb, eqb-true, eqb-false}
use Rattle.std.proofs.lemmas.List.{get_or-set_other, length-append, length-map, append-nil, append_assoc}
use Rattle.std.proofs.lemmas.List.Elements.{filter-append}
use Rattle.std.proofs.lemmas.Option.{slice_get-map}
use Rattle.pg_perm.specs.declared.kinds.Op.{Op}
use Rattle.pg_perm.specs.declared.draft.Draft.{Draft}
use Rattle.pg_directory.specs.DirEntries.{is_among}
use Rattle.pg_directory.proofs.Cores.{same_core}
use Rattle.pg_table.specs.Choices.{Choice}
use Rattle.pg_table.specs.Directory.{DirChoice, dir_choice}
use Rattle.pg_table.specs.declared.cache.Input.TheVariants as at
use Rattle.pg_table.specs.declared.directory.DirInput.TheVariants as met
use Rattle.pg_table.specs.Tables.{TableState}
use Rattle.pg_table.specs.Pick.{pick}
use Rattle.pg_messages.specs.declared.messages.Ask.{Ask as SentRequest}
use Rattle.pg_messages.specs.declared.messages.Ordered.{Ordered as SentOrdered}
use Rattle.pg_messages.specs.declared.messages.Reply.{Reply as SentReply}
use Rattle.pg_messages.specs.declared.messages.Reply.TheVariants.{Data, InvAck, WbData}
use Rattle.pg_messages.specs.declared.messages.WorldEvent.{WorldEvent}
use Rattle.pg_messages.specs.declared.messages.WorldEvent.TheVariants.{Issue, Request, Ordered, Reply}
use Rattle.pg_controllers.specs.Networks.{Core, idle_core, event_of}
use Rattle.pg_controllers.specs.Lines.{Received, result_of, ordered_input, reply_input, received_op, received_ordered, received_reply}
use Rattle.pg_controllers.specs.Directories.{is_busy, dir_entry_of, dir_input, do_dir_acts}
use Rattle.pg_controllers.specs.Worlds.{Picks, World, core, by_choice, issue, deliver, post, handle_by, request, reply, after_write_back, move, is_stable, has_head, is_enabled}
use Rattle.pg_block.specs.Blocks.{Block, world_of, given_of, request_slot, without_reply_at, CanMeet, CanHappen, CanReply}
use Rattle.pg_block.specs.Fitted.{Continues}
use Rattle.pg_block.proofs.Joined.{core_is, joined_length}
use Rattle.pg_world.specs.Kept.{IsKept, WorldView, view_of}
use Rattle.pg_world.specs.Enabled.{events_of, enabled_events}
use Rattle.pg_world.specs.Indexed.{marked, cores_where, Index, can_issue, has_request, can_take, index_of, unless_busy, indexed_events, receiver, core_in, renewed, with_new_heads, index_after}
use Rattle.pg_world.proofs.EnabledIs.{enabled_is}
use Rattle.pg_world.proofs.Made.{given_length}
use Rattle.pg_world.proofs.Steps.{with_entry}
use Rattle.pg_world.proofs.CoresWhere.{among_where, same_where, marked_where, none_where, all_where, below_and, none_below, all_below, next_below}

-- One core after another

abbrev pub index_below : ℕ → Block → Index
index_below k b = record {
  issues = cores_where (below_and k (can_issue b)) (length b.lines);
  requests = cores_where (below_and k (has_request b)) (length b.lines);
  heads = cores_where (below_and k (can_take b)) (length b.lines);
}

abbrev index : List ℕ → List ℕ → List ℕ → Index
index issues requests heads = record { issues = issues; requests = requests; heads = heads }

same_index : (a b c x y z : List ℕ) → a ≡ x → b ≡ y → c ≡ z → index a b c ≡ index x y z
same_index a b c x y z p q r = ap (λ (l : List ℕ). index l b c) p ∙ ap (λ (l : List ℕ). index x l c) q ∙ ap (λ (l : List ℕ). index x y l) r

pub index_begins : (b : Block) → index [] [] [] ≡ index_below 0 b
index_begins b = same_index _ _ _ _ _ _ (none_below (can_issue b) (length b.lines)) (none_below (has_request b) (length b.lines)) (none_below (can_take b) (length b.lines))

pub index_goes_on : (b : Block) (k : ℕ) → k < length b.lines → renewed b k (index_below k b) ≡ index_below (k + 1) b
index_goes_on b k low =
    same_index _ _ _ _ _ _ (next_below (can_issue b) (length b.lines) k low) (next_below (has_request b) (length b.lines) k low) (next_below (can_take b) (length b.lines) k low)

pub index_ends : (b : Block) → index_below (length b.lines) b ≡ index_of b
index_ends b = same_index _ _ _ _ _ _ (all_below (can_issue b) (length b.lines)) (all_below (has_request b) (length b.lines)) (all_below (can_take b) (length b.lines))

-- Cores that take no part in an event

choice_apart : (d : Draft) (c k : ℕ) (m : Received) (y : Core) (x : World) (o : Option Choice) → (c ≡ k → ⊥) → core (by_choice d c m y x o) k ≡ core x k
choice_apart d c k m y x None other = refl
choice_apart d c k m y x (Some ch) other =
    get_or-set_other x.cores c k (record y { line = (result_of d ch m y.line y.slot).line; slot = (result_of d ch m y.line y.slot).slot }) idle_core (λ is. other (sym is))

issue_apart : (d : Draft) (p : Picks) (c k : ℕ) (x : Core) (w : World) (os : List Op) → (c ≡ k → ⊥) → core (issue d p c x w os) k ≡ core w k
issue_apart d p c k x w [] other = refl
issue_apart d p c k x w (o ∷ os) other = choice_apart d c k (received_op x.line o) (record x { left = os }) w (p x.line.desc (at.Core (event_of o))) other

deliver_apart : (d : Draft) (p : Picks) (c k : ℕ) (x : Core) (w : World) (ms : List SentOrdered) → (c ≡ k → ⊥) → core (deliver d p c x w ms) k ≡ core w k
deliver_apart d p c k x w [] other = refl
deliver_apart d p c k x w (m ∷ ms) other = choice_apart d c k (received_ordered x.line m) (record x { queue = ms }) w (p x.line.desc (ordered_input x.line m)) other

written_apart : (d : Draft) (v k : ℕ) (w : World) (o : Option DirChoice) → core (after_write_back d v w o) k ≡ core w k
written_apart d v k w None = refl
written_apart d v k w (Some ch) = refl

reply_apart : (d : Draft) (p : Picks) (k : ℕ) (w : World) (o : Option SentReply) → (option_and_then receiver o ≡ Some k → ⊥) → core (reply d p w o) k ≡ core w k
reply_apart d p k w None other = refl
reply_apart d p k w (Some (Data r c v n i)) other =
    choice_apart d c k (received_reply d (core w c).line (Data r c v n i)) (core w c) w (p (core w c).line.desc (reply_input (core w c).line (Data r c v n i))) (λ is. other (ap Some is))
reply_apart d p k w (Some (InvAck c i)) other =
    choice_apart d c k (received_reply d (core w c).line (InvAck c i)) (core w c) w (p (core w c).line.desc (reply_input (core w c).line (InvAck c i))) (λ is. other (ap Some is))
reply_apart d p k w (Some (WbData v i)) other = written_apart d v k w (dir_choice d w.directory.desc met.Wb)

-- A request: the directory's messages come last to the lists of cores, and all else of other cores stays

record IsPosted (x y : Core) : Type 0 where
  line : y.line ≡ x.line
  left : y.left ≡ x.left
  slot : y.slot ≡ x.slot
  more : List SentOrdered
  queue : y.queue ≡ x.queue ++ more

as_it_is : (x : Core) → IsPosted x x
as_it_is x = record { line = refl; left = refl; slot = refl; more = []; queue = sym (append-nil x.queue) }

abbrev with_last : Core → SentOrdered → Core
with_last x m = record x { queue = x.queue ++ m ∷ [] }

set_posted : (xs : List Core) (c k : ℕ) (m : SentOrdered) → IsPosted (get_or xs k idle_core) (get_or (set xs c (with_last (get_or xs c idle_core) m)) k idle_core)
set_posted [] c k m = as_it_is idle_core
set_posted (x ∷ xs) zero zero m = record { line = refl; left = refl; slot = refl; more = m ∷ []; queue = refl }
set_posted (x ∷ xs) zero (suc k) m = as_it_is (get_or xs k idle_core)
set_posted (x ∷ xs) (suc c) zero m = as_it_is x
set_posted (x ∷ xs) (suc c) (suc k) m = set_posted xs c k m

joined_posts : (x y z : Core) → IsPosted x y → IsPosted y z → IsPosted x z
joined_posts x y z p q = record {
  line = q.line ∙ p.line;
  left = q.left ∙ p.left;
  slot = q.slot ∙ p.slot;
  more = p.more ++ q.more;
  queue = q.queue ∙ ap (λ (ms : List SentOrdered). ms ++ q.more) p.queue ∙ append_assoc x.queue p.more q.more;
}

posted : (ps : List (ℕ × SentOrdered)) (xs : List Core) (k : ℕ) → IsPosted (get_or xs k idle_core) (get_or (post ps xs) k idle_core)
posted [] xs k = as_it_is (get_or xs k idle_core)
posted (p ∷ ps) xs k =
    let ys = set xs p.0 (with_last (get_or xs p.0 idle_core) p.1) in
    joined_posts (get_or xs k idle_core) (get_or ys k idle_core) (get_or (post ps ys) k idle_core) (set_posted xs p.0 k p.1) (posted ps ys k)

handled_posted : (d : Draft) (c k : ℕ) (a : SentRequest) (w : World) (o : Option DirChoice) → (c ≡ k → ⊥) → IsPosted (core w k) (core (handle_by d c a w o) k)
handled_posted d c k a w None other = as_it_is (core w k)
handled_posted d c k a w (Some ch) other =
    let p = do_dir_acts d (dir_entry_of w.directory) c (suc w.directory.last) a.word ch.acts (record { memory = w.directory.memory; invs = 0; posts = []; replies = [] }) in
    let xs = set w.cores c (record (core w c) { slot = None }) in
    let same : get_or xs k idle_core ≡ core w k = get_or-set_other w.cores c k (record (core w c) { slot = None }) idle_core (λ is. other (sym is)) in
    subst (λ (x : Core). IsPosted x (get_or (post p.posts xs) k idle_core)) same (posted p.posts xs k)

request_posted : (d : Draft) (c k : ℕ) (w : World) (o : Option SentRequest) → (c ≡ k → ⊥) → IsPosted (core w k) (core (request d c w o) k)
request_posted d c k w None other = as_it_is (core w k)
request_posted d c k w (Some a) other = handled_posted d c k a w (dir_choice d w.directory.desc (dir_input w.directory.desc (dir_entry_of w.directory) (record { core = c; event = a.event }))) other

-- a message that a core can take is still its next one
head_stays : (p : Picks) (x y : Core) → IsPosted x y → has_head p x.line x.queue ≡ true → has_head p y.line y.queue ≡ true
head_stays p x y post on =
    ap (λ l. has_head p l y.queue) post.line ∙ ap (has_head p x.line) post.queue ∙ longer x.queue on
  where
    longer : (ms : List SentOrdered) → has_head p x.line ms ≡ true → has_head p x.line (ms ++ post.more) ≡ true
    longer [] on = cc
    longer (m ∷ ms) on = on

-- a request aside, whose messages may come to any core
abbrev IsAside : WorldEvent → Type 0
IsAside (Issue c) = Unit {0}
IsAside (Request c) = ⊥
IsAside (Ordered c) = Unit {0}
IsAside (Reply i) = Unit {0}

move_apart : (b : Block) (e : WorldEvent) (k : ℕ) → IsAside e → (core_in e b ≡ Some k → ⊥) → core (move b.tables.protocol (pick b.tables.cache) (world_of b) e) k ≡ core (world_of b) k
move_apart b (Issue c) k aside other =
    issue_apart b.tables.protocol (pick b.tables.cache) c k (core (world_of b) c) (world_of b) (core (world_of b) c).left (λ is. other (ap Some is))
move_apart b (Request c) k aside other = absurd aside
move_apart b (Ordered c) k aside other =
    deliver_apart b.tables.protocol (pick b.tables.cache) c k (core (world_of b) c) (world_of b) (core (world_of b) c).queue (λ is. other (ap Some is))
move_apart b (Reply i) k aside other =
    reply_apart b.tables.protocol (pick b.tables.cache) k (record (world_of b) { replies = remove b.nets.replies i }) (slice_get b.nets.replies i) other

-- An event that happened

-- what a core can do is seen by its world
issue_seen : (b : Block) (k : ℕ) → IsKept b → can_issue b k ≡ (is_stable (core (world_of b) k).line.desc && nat_lt 0 (length (core (world_of b) k).left))
issue_seen b k kept = enabled_is b (Issue k) kept

request_seen : (b : Block) (k : ℕ) → IsKept b → has_request b k ≡ is_some (core (world_of b) k).slot
request_seen b k kept = sym (ap (λ (x : Core). is_some x.slot) (core_is b k kept.fitted.sized))

take_seen : (b : Block) (k : ℕ) → IsKept b → can_take b k ≡ has_head (pick b.tables.cache) (core (world_of b) k).line (core (world_of b) k).queue
take_seen b k kept = enabled_is b (Ordered k) kept

-- the same core can do the same
record IsSameAt (a b : Block) (k : ℕ) : Type 0 where
  issue : can_issue b k ≡ can_issue a k
  request : has_request b k ≡ has_request a k
  take : can_take b k ≡ can_take a k

same_at_core : (a b : Block) (k : ℕ) → IsKept a → IsKept b → b.tables ≡ a.tables → core (world_of b) k ≡ core (world_of a) k → IsSameAt a b k
same_at_core a b k ka kb tables is = record {
  issue = issue_seen b k kb ∙ ap (λ (x : Core). is_stable x.line.desc && nat_lt 0 (length x.left)) is ∙ sym (issue_seen a k ka);
  request = request_seen b k kb ∙ ap (λ (x : Core). is_some x.slot) is ∙ sym (request_seen a k ka);
  take =
      take_seen b k kb
      ∙ ap (λ (x : Core). has_head (pick b.tables.cache) x.line x.queue) is
      ∙ ap (λ t. has_head (pick t.cache) (core (world_of a) k).line (core (world_of a) k).queue) tables
      ∙ sym (take_seen a k ka);
}

renewed_is : (a b : Block) (c : ℕ) → length b.lines ≡ length a.lines → c < length b.lines → ((k : ℕ) → (c ≡ k → ⊥) → IsSameAt a b k) → renewed b c (index_of a) ≡ index_of b
renewed_is a b c long low same =
    let n = length b.lines in
    ap (λ (m : ℕ). renewed b c (index (cores_where (can_issue a) m) (cores_where (has_request a) m) (cores_where (can_take a) m))) (sym long)
    ∙ same_index _ _ _ _ _ _ (marked_where (can_issue a) (can_issue b) n c low (λ j other. (same j (λ is. other (sym is))).issue))
    (marked_where (has_request a) (has_request b) n c low (λ j other. (same j (λ is. other (sym is))).request))
    (marked_where (can_take a) (can_take b) n c low (λ j other. (same j (λ is. other (sym is))).take))

kept_index : (a b : Block) → length b.lines ≡ length a.lines → ((k : ℕ) → IsSameAt a b k) → index_of a ≡ index_of b
kept_index a b long same =
    let n = length b.lines in
    ap (λ (m : ℕ). index (cores_where (can_issue a) m) (cores_where (has_request a) m) (cores_where (can_take a) m)) (sym long)
    ∙ same_index _ _ _ _ _ _ (same_where (can_issue a) (can_issue b) n (λ j low. (same j).issue)) (same_where (has_request a) (has_request b) n (λ j low. (same j).request))
    (same_where (can_take a) (can_take b) n (λ j low. (same j).take))

option_renewed : (a b : Block) (o : Option ℕ) → length b.lines ≡ length a.lines → IfSome o (λ c. c < length b.lines) → ((k : ℕ) → (o ≡ Some k → ⊥) → IsSameAt a b k) → option_map_or (λ c. renewed b c (index_of a)) o (index_of a) ≡ index_of b
option_renewed a b None long low same = kept_index a b long (λ k. same k (λ is. cc))
option_renewed a b (Some c) long low same = renewed_is a b c long low (λ k other. same k (λ is. other (cc is)))

-- after a request the other cores can do the same, and perhaps take a message
record IsOpenedAt (a b : Block) (k : ℕ) : Type 0 where
  issue : can_issue b k ≡ can_issue a k
  request : has_request b k ≡ has_request a k
  take : can_take a k ≡ true → can_take b k ≡ true

opened_core : (a b : Block) (k : ℕ) → IsKept a → IsKept b → b.tables ≡ a.tables → IsPosted (core (world_of a) k) (core (world_of b) k) → IsOpenedAt a b k
opened_core a b k ka kb tables p = record {
  issue = issue_seen b k kb ∙ ap (λ l. is_stable l.desc && nat_lt 0 (length (core (world_of b) k).left)) p.line
      ∙ ap (λ (os : List Op). is_stable (core (world_of a) k).line.desc && nat_lt 0 (length os)) p.left ∙ sym (issue_seen a k ka);
  request = request_seen b k kb ∙ ap is_some p.slot ∙ sym (request_seen a k ka);
  take = λ on.
      take_seen b k kb
      ∙ ap (λ t. has_head (pick t.cache) (core (world_of b) k).line (core (world_of b) k).queue) tables
      ∙ head_stays (pick a.tables.cache) (core (world_of a) k) (core (world_of b) k) p (sym (take_seen a k ka) ∙ on);
}

either : (x y : Bool) → (x ≡ true → y ≡ true) → (x || y) ≡ y
either true y so = sym (so refl)
either false y so = refl

-- the cores that could take a message, with core c looked at anew
abbrev looked_at : Block → Block → ℕ → ℕ → Bool
looked_at a b c j = if j == c then can_take b c else can_take a j

looked_same : (a b : Block) (c : ℕ) → looked_at a b c c ≡ can_take b c
looked_same a b c = ap (λ (x : Bool). if x then can_take b c else can_take a c) (same_core c)

looked_other : (a b : Block) (c j : ℕ) → j ≢ c → looked_at a b c j ≡ can_take a j
looked_other a b c j other = ap (λ (x : Bool). if x then can_take b c else can_take a j) (ne_eqb j c other)

heads_found : (a b : Block) (c : ℕ) → c < length b.lines → ((k : ℕ) → (c ≡ k → ⊥) → IsOpenedAt a b k)
    → cores_where (λ j. is_among (marked c (can_take b c) (cores_where (can_take a) (length b.lines))) j || can_take b j) (length b.lines) ≡ cores_where (can_take b) (length b.lines)
heads_found a b c low same =
    let n = length b.lines in
    let heads : marked c (can_take b c) (cores_where (can_take a) n) ≡ cores_where (looked_at a b c) n =
    ap (λ (x : Bool). marked c x (cores_where (can_take a) n)) (sym (looked_same a b c)) ∙ marked_where (can_take a) (looked_at a b c) n c low (λ j other. looked_other a b c j other) in
    ap (λ (xs : List ℕ). cores_where (λ j. is_among xs j || can_take b j) n) heads
    ∙ same_where (λ j. is_among (cores_where (looked_at a b c) n) j || can_take b j) (can_take b) n
    (λ j inside. sym (ap (λ (x : Bool). x || can_take b j) (among_where (looked_at a b c) n j inside) ∙ either (looked_at a b c j) (can_take b j) (λ on. still j on (j == c) refl)))
  where
    still : (j : ℕ) → looked_at a b c j ≡ true → (x : Bool) → (j == c) ≡ x → can_take b j ≡ true
    still j on true is = let same = eqb-true j c is in ap (can_take b) same ∙ sym (looked_same a b c) ∙ sym (ap (looked_at a b c) same) ∙ on
    still j on false is = (same j (λ eq. eqb-false j c is (sym eq))).take (sym (looked_other a b c j (eqb-false j c is)) ∙ on)

request_followed : (a b : Block) (c : ℕ) → length b.lines ≡ length a.lines → c < length b.lines → ((k : ℕ) → (c ≡ k → ⊥) → IsOpenedAt a b k) → with_new_heads b (renewed b c (index_of a)) ≡ index_of b
request_followed a b c long low same =
    let n = length b.lines in
    ap (λ (m : ℕ). with_new_heads b (renewed b c (index (cores_where (can_issue a) m) (cores_where (has_request a) m) (cores_where (can_take a) m)))) (sym long)
    ∙ same_index _ _ _ _ _ _ (marked_where (can_issue a) (can_issue b) n c low (λ j other. (same j (λ is. other (sym is))).issue))
    (marked_where (has_request a) (has_request b) n c low (λ j other. (same j (λ is. other (sym is))).request))
    (heads_found a b c low same)

follows : (a b : Block) (e : WorldEvent) → length b.lines ≡ length a.lines → IfSome (core_in e a) (λ c. c < length b.lines) → (IsAside e → (k : ℕ) → (core_in e a ≡ Some k → ⊥) → IsSameAt a b k)
    → ((c : ℕ) → e ≡ Request c → (k : ℕ) → (c ≡ k → ⊥) → IsOpenedAt a b k) → index_after e (core_in e a) b (index_of a) ≡ index_of b
follows a b (Issue c) long low same opened = option_renewed a b (Some c) long low (same tt)
follows a b (Request c) long low same opened = request_followed a b c long low (opened c refl)
follows a b (Ordered c) long low same opened = option_renewed a b (Some c) long low (same tt)
follows a b (Reply i) long low same opened = option_renewed a b (core_in (Reply i) a) long low (same tt)

-- as many cores as before
given_size : (b : Block) → IsKept b → length (given_of b.programs) ≡ length b.lines
given_size b k = given_length b.programs ∙ k.fitted.sized.programs

pub same_size : (a b : Block) (e : ℕ × WorldEvent) → IsKept a → IsKept (with_entry e b) → Continues a b → length b.lines ≡ length a.lines
same_size a b e ka kb c = sym (given_size (with_entry e b) kb) ∙ ap length c.given ∙ given_size a ka

pub index_follows : (a b : Block) (e : ℕ × WorldEvent) → IsKept a → IsKept (with_entry e b) → Continues a b → world_of b ≡ move a.tables.protocol (pick a.tables.cache) (world_of a) e.1 → IfSome (core_in e.1 a) (λ c. c < length b.lines)
    → index_after e.1 (core_in e.1 a) (with_entry e b) (index_of a) ≡ index_of (with_entry e b)
index_follows a b e ka kb c moved low =
    let long = same_size a b e ka kb c in
    follows a (with_entry e b) e.1 long low
    (λ aside k other. same_at_core a (with_entry e b) k ka kb c.tables (ap (λ (w : World). core w k) moved ∙ move_apart a e.1 k aside other))
    (λ x is k other. opened_core a (with_entry e b) k ka kb c.tables
    (subst (λ (w : World). IsPosted (core (world_of a) k) (core w k)) (sym (moved ∙ ap (move a.tables.protocol (pick a.tables.cache) (world_of a)) is)) (request_posted a.tables.protocol x k (world_of a) (core (world_of a) x).slot other)))

-- the core that takes part is there
pub core_there : (b : Block) (e : WorldEvent) → CanHappen e b → IfSome (core_in e b) (λ c. c < length b.lines)
core_there b (Issue c) can = can.core
core_there b (Request c) can = can.core
core_there b (Ordered c) can = can.core
core_there b (Reply i) can = at (slice_get b.nets.replies i) can.meets
  where
    at : (o : Option SentReply) → IfSome o (λ m. CanMeet m (without_reply_at i b)) → IfSome (option_and_then receiver o) (λ c. c < length b.lines)
    at None meets = tt
    at (Some (Data r c v n k)) meets = meets.core
    at (Some (InvAck c k)) meets = meets.core
    at (Some (WbData v k)) meets = tt

-- What the index says

filter_map_is : (p : WorldEvent → Bool) (f : ℕ → WorldEvent) (t : ℕ → Bool) (xs : List ℕ) → ((c : ℕ) → p (f c) ≡ t c) → filter p (map f xs) ≡ map f (filter t xs)
filter_map_is p f t [] same = refl
filter_map_is p f t (x ∷ xs) same = at (p (f x)) (t x) (same x) (filter_map_is p f t xs same)
  where
    at : (a b : Bool) → a ≡ b → filter p (map f xs) ≡ map f (filter t xs)
        → (if a then f x ∷ filter p (map f xs) else filter p (map f xs)) ≡ map f (if b then x ∷ filter t xs else filter t xs)
    at true true is rest = ap (λ (es : List WorldEvent). f x ∷ es) rest
    at true false is rest = cc
    at false true is rest = cc
    at false false is rest = rest

and_no : (b : Bool) → (b && false) ≡ false
and_no true = refl
and_no false = refl

and_yes : (b : Bool) → (b && true) ≡ b
and_yes true = refl
and_yes false = refl

unless_is : (busy : Bool) (t : ℕ → Bool) (n : ℕ) → cores_where (λ c. t c && not busy) n ≡ unless_busy busy (cores_where t n)
unless_is true t n = none_where (λ c. t c && false) n (λ j. and_no (t j))
unless_is false t n = same_where (λ c. t c && true) t n (λ j low. sym (and_yes (t j)))

four : (a b c r x y z s : List WorldEvent) → a ≡ x → b ≡ y → c ≡ z → r ≡ s → a ++ b ++ c ++ r ≡ x ++ y ++ z ++ s
four a b c r x y z s p q t u =
    ap (λ (l : List WorldEvent). l ++ b ++ c ++ r) p ∙ ap (λ (l : List WorldEvent). x ++ l ++ c ++ r) q ∙ ap (λ (l : List WorldEvent). x ++ y ++ l ++ r) t ∙ ap (λ (l : List WorldEvent). x ++ y ++ z ++ l) u

-- the enabled events, kind by kind
by_kind : (p : Picks) (w : World) (n r : ℕ) → filter (is_enabled p w) (events_of n r)
    ≡ filter (is_enabled p w) (map (λ c. Issue c) (range_with_len 0 n)) ++ filter (is_enabled p w) (map (λ c. Request c) (range_with_len 0 n))
    ++ filter (is_enabled p w) (map (λ c. Ordered c) (range_with_len 0 n)) ++ filter (is_enabled p w) (map (λ i. Reply i) (range_with_len 0 r))
by_kind p w n r =
    let a = map (λ c. Issue c) (range_with_len 0 n) in
    let b = map (λ c. Request c) (range_with_len 0 n) in
    let c = map (λ c. Ordered c) (range_with_len 0 n) in
    let s = map (λ i. Reply i) (range_with_len 0 r) in
    let q = is_enabled p w in
    filter-append q (a ++ b ++ c) s
    ∙ ap (λ (l : List WorldEvent). l ++ filter q s) (filter-append q (a ++ b) c)
    ∙ ap (λ (l : List WorldEvent). l ++ filter q c ++ filter q s) (filter-append q a b)

pub index_says : (b : Block) → IsKept b → indexed_events (is_busy b.directory.directory.desc) (length b.nets.replies) (index_of b) ≡ enabled_events (pick b.tables.cache) (world_of b)
index_says b k =
    let p = pick b.tables.cache in
    let w = world_of b in
    let n = length b.lines in
    let r = length b.nets.replies in
    let z = k.fitted.sized in
    let size : length w.cores ≡ n = joined_length b.lines b.programs b.nets.slots b.nets.lists z.programs z.slots z.lists in
    let q = is_enabled p w in
    let issues : filter q (map (λ c. Issue c) (range_with_len 0 n)) ≡ map (λ c. Issue c) (cores_where (can_issue b) n) =
    filter_map_is q (λ c. Issue c) (can_issue b) (range_with_len 0 n) (λ c. sym (enabled_is b (Issue c) k)) in
    let requests : filter q (map (λ c. Request c) (range_with_len 0 n)) ≡ map (λ c. Request c) (unless_busy (is_busy w.directory.desc) (cores_where (has_request b) n)) =
    filter_map_is q (λ c. Request c) (λ c. has_request b c && not (is_busy w.directory.desc)) (range_with_len 0 n) (λ c. sym (ap (λ (a : Bool). a && not (is_busy w.directory.desc)) (request_seen b c k)))
    ∙ ap (map (λ c. Request c)) (unless_is (is_busy w.directory.desc) (has_request b) n) in
    let heads : filter q (map (λ c. Ordered c) (range_with_len 0 n)) ≡ map (λ c. Ordered c) (cores_where (can_take b) n) =
    filter_map_is q (λ c. Ordered c) (can_take b) (range_with_len 0 n) (λ c. sym (enabled_is b (Ordered c) k)) in
    let replies : filter q (map (λ i. Reply i) (range_with_len 0 r)) ≡ map (λ i. Reply i) (range_with_len 0 r) =
    filter_map_is q (λ i. Reply i) (λ i. nat_lt i r) (range_with_len 0 r) (λ i. refl) ∙ ap (map (λ i. Reply i)) (all_where (λ i. nat_lt i r) r (λ j low. lt-ltb j r low)) in
    sym (ap (λ (m : ℕ). filter q (events_of m r)) size ∙ by_kind p w n r ∙ four _ _ _ _ _ _ _ _ issues requests heads replies)

-- Places in it

abbrev issues_of : Index → List WorldEvent
issues_of x = map (λ c. Issue c) x.issues

abbrev requests_of : Bool → Index → List WorldEvent
requests_of busy x = map (λ c. Request c) (unless_busy busy x.requests)

abbrev heads_of : Index → List WorldEvent
heads_of x = map (λ c. Ordered c) x.heads

abbrev replies_of : ℕ → List WorldEvent
replies_of r = map (λ i. Reply i) (range_with_len 0 r)

range_size : (a n : ℕ) → length (range_with_len a n) ≡ n
range_size a zero = refl
range_size a (suc n) = ap suc (range_size (a + 1) n)

two : (busy : Bool) (x : Index) → length (issues_of x ++ requests_of busy x) ≡ length x.issues + length (unless_busy busy x.requests)
two busy x =
    let sum = length-append (issues_of x) (requests_of busy x) in
    let a = length-map x.issues (λ c. Issue c) in
    let b = length-map (unless_busy busy x.requests) (λ c. Request c) in
    omega (arith, sum, a, b)

three : (busy : Bool) (x : Index) → length (issues_of x ++ requests_of busy x ++ heads_of x) ≡ length x.issues + length (unless_busy busy x.requests) + length x.heads
three busy x =
    let sum = length-append (issues_of x ++ requests_of busy x) (heads_of x) in
    let a = two busy x in
    let b = length-map x.heads (λ c. Ordered c) in
    omega (arith, sum, a, b)

pub event_count : (busy : Bool) (r : ℕ) (x : Index) → length x.issues + length (unless_busy busy x.requests) + length x.heads + r ≡ length (indexed_events busy r x)
event_count busy r x =
    let sum = length-append (issues_of x ++ requests_of busy x ++ heads_of x) (replies_of r) in
    let a = three busy x in
    let b = length-map (range_with_len 0 r) (λ i. Reply i) in
    let c = range_size 0 r in
    omega (arith, sum, a, b, c)

left_at : {A : Type 0} (xs ys : List A) (k : ℕ) → k < length xs → slice_get (xs ++ ys) k ≡ slice_get xs k
left_at [] ys k low = absurd (omega (arith, low))
left_at (x ∷ xs) ys zero low = refl
left_at (x ∷ xs) ys (suc k) low = left_at xs ys k (omega (arith, low))

right_at : {A : Type 0} (xs ys : List A) (k : ℕ) → length xs ≤ k → slice_get (xs ++ ys) k ≡ slice_get ys (k - length xs)
right_at [] ys k low = ap (slice_get ys) (let same : k ≡ k - 0 = omega arith in same)
right_at (x ∷ xs) ys zero low = absurd (omega (arith, low))
right_at (x ∷ xs) ys (suc k) low = right_at xs ys k (omega (arith, low)) ∙ ap (slice_get ys) (let same : k - length xs ≡ suc k - suc (length xs) = omega arith in same)

mapped_at : (f : ℕ → WorldEvent) (xs : List ℕ) (k c : ℕ) → slice_get xs k ≡ Some c → slice_get (map f xs) k ≡ Some (f c)
mapped_at f xs k c get = slice_get-map f xs k ∙ ap (option_map f) get

pub issue_at : (busy : Bool) (r i c : ℕ) (x : Index) → i < length x.issues → slice_get x.issues i ≡ Some c → slice_get (indexed_events busy r x) i ≡ Some (Issue c)
issue_at busy r i c x low get =
    let a = length-map x.issues (λ c. Issue c) in
    let b = two busy x in
    let d = three busy x in
    left_at (issues_of x ++ requests_of busy x ++ heads_of x) (replies_of r) i (omega (arith, low, d))
    ∙ left_at (issues_of x ++ requests_of busy x) (heads_of x) i (omega (arith, low, b))
    ∙ left_at (issues_of x) (requests_of busy x) i (omega (arith, low, a))
    ∙ mapped_at (λ c. Issue c) x.issues i c get

pub request_at : (busy : Bool) (r i c : ℕ) (x : Index) → length x.issues ≤ i → i < length x.issues + length (unless_busy busy x.requests) → slice_get (unless_busy busy x.requests) (i - length x.issues) ≡ Some c
    → slice_get (indexed_events busy r x) i ≡ Some (Request c)
request_at busy r i c x from low get =
    let a = length-map x.issues (λ c. Issue c) in
    let b = two busy x in
    let d = three busy x in
    let place : i - length (issues_of x) ≡ i - length x.issues = omega (arith, a) in
    left_at (issues_of x ++ requests_of busy x ++ heads_of x) (replies_of r) i (omega (arith, low, d))
    ∙ left_at (issues_of x ++ requests_of busy x) (heads_of x) i (omega (arith, low, b))
    ∙ right_at (issues_of x) (requests_of busy x) i (omega (arith, from, a))
    ∙ ap (slice_get (requests_of busy x)) place
    ∙ mapped_at (λ c. Request c) (unless_busy busy x.requests) (i - length x.issues) c get

pub head_at : (busy : Bool) (r i c : ℕ) (x : Index) → length x.issues + length (unless_busy busy x.requests) ≤ i → i < length x.issues + length (unless_busy busy x.requests) + length x.heads
    → slice_get x.heads (i - (length x.issues + length (unless_busy busy x.requests))) ≡ Some c → slice_get (indexed_events busy r x) i ≡ Some (Ordered c)
head_at busy r i c x from low get =
    let b = two busy x in
    let d = three busy x in
    let place : i - length (issues_of x ++ requests_of busy x) ≡ i - (length x.issues + length (unless_busy busy x.requests)) = omega (arith, b) in
    left_at (issues_of x ++ requests_of busy x ++ heads_of x) (replies_of r) i (omega (arith, low, d))
    ∙ right_at (issues_of x ++ requests_of busy x) (heads_of x) i (omega (arith, from, b))
    ∙ ap (slice_get (heads_of x)) place
    ∙ mapped_at (λ c. Ordered c) x.heads (i - (length x.issues + length (unless_busy busy x.requests))) c get

numbered : (a n k : ℕ) → k < n → slice_get (range_with_len a n) k ≡ Some (a + k)
numbered a zero k low = absurd (omega (arith, low))
numbered a (suc n) zero low = let same : a ≡ a + 0 = omega arith in ap Some same
numbered a (suc n) (suc k) low = let same : a + 1 + k ≡ a + suc k = omega arith in numbered (a + 1) n k (omega (arith, low)) ∙ ap Some same

pub reply_at : (busy : Bool) (r i : ℕ) (x : Index) → length x.issues + length (unless_busy busy x.requests) + length x.heads ≤ i → i < length (indexed_events busy r x)
    → slice_get (indexed_events busy r x) i ≡ Some (Reply (i - (length x.issues + length (unless_busy busy x.requests) + length x.heads)))
reply_at busy r i x from low =
    let d = three busy x in
    let all = event_count busy r x in
    let j = i - (length x.issues + length (unless_busy busy x.requests) + length x.heads) in
    let place : i - length (issues_of x ++ requests_of busy x ++ heads_of x) ≡ j = omega (arith, d) in
    let here : 0 + j ≡ j = omega arith in
    right_at (issues_of x ++ requests_of busy x ++ heads_of x) (replies_of r) i (omega (arith, from, d))
    ∙ ap (slice_get (replies_of r)) place
    ∙ mapped_at (λ i. Reply i) (range_with_len 0 r) j j (numbered 0 r j (omega (arith, from, low, all)) ∙ ap Some here)

pub shown_events : (b : Block) (v : WorldView) (x : Index) (busy : Bool) (r : ℕ) → IsKept b → view_of b ≡ v → x ≡ index_of b → busy ≡ is_busy v.world.directory.desc → r ≡ length v.world.replies
    → indexed_events busy r x ≡ enabled_events (pick v.tables.cache) v.world
shown_events b v x busy r k shown index directory replies =
    let idle = is_busy b.directory.directory.desc in
    let many : r ≡ length b.nets.replies = replies ∙ sym (ap (λ (y : WorldView). length y.world.replies) shown) in
    ap (λ (y : Bool). indexed_events y r x) (directory ∙ sym (ap (λ (y : WorldView). is_busy y.world.directory.desc) shown))
    ∙ ap (λ (n : ℕ). indexed_events idle n x) many
    ∙ ap (λ (y : Index). indexed_events idle (length b.nets.replies) y) index
    ∙ index_says b k
    ∙ ap (λ (y : WorldView). enabled_events (pick y.tables.cache) y.world) shown
