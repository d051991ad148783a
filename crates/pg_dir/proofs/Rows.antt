-- The row that the directory's table has for a request, and what the calls with it make.
use Rattle.std.proofs.Common.{◌≡◌, ℕ, zero, suc, true, ◌<◌, ◌≤◌, List, [], ◌∷◌, length, Option, Some, None, refl, sym, ap, subst, ◌∙◌, arith, unwrap_or, slice_get}
use Rattle.std.specs.Prelude.{IsSome, IfSome}
use Rattle.std.specs.Option.{option_map}
use Rattle.pg_perm.specs.declared.draft.Draft.{Draft}
use Rattle.pg_perm.specs.Drafts.{IsWellFormed}
use Rattle.pg_directory.specs.DirEntries.{Request, entry_after}
use Rattle.pg_table.specs.Tables.{DirTableState}
use Rattle.pg_table.specs.declared.directory.DirDesc.{DirDesc}
use Rattle.pg_table.specs.Tables.{DirRow}
use Rattle.pg_table.specs.Directory.{DirChoice, dir_choice}
use Rattle.pg_table.specs.Tables.{find_dir_row, dir_table}
use Rattle.pg_table.proofs.DirFound.{dir_finds}
use Rattle.pg_messages.specs.declared.messages.Ask.{Ask as SentRequest}
use Rattle.pg_controllers.specs.Directories.{Directory, is_busy, dir_state_of, dir_entry_of, dir_input}
use Rattle.pg_table.specs.declared.directory.DirDesc.TheVariants.{State, Busy}
use Rattle.pg_table.specs.declared.directory.DirInput.TheVariants as met
use Rattle.pg_table.specs.declared.directory.DirAct.TheVariants as act
use Rattle.pg_queue.specs.Nets.{Nets, spare}
use Rattle.pg_dir.specs.Effects.{Effects, DirResult, after_acts, AllFit, nothing_posted, request_by, choice_by, choice_for, posts_for, message_count, result_of_request, result_of_choice, with_entry, row_for, DoesChoice, write_back, write_back_by}
use Rattle.pg_dir.specs.Numbers.{NumberedDirectory, IsNumbered}
use Rattle.pg_dir.proofs.Sending.{acts_are, all_fit}

pub map_some : {A : Type 0} {B : Type 0} (f : A → B) (o : Option A) (x : B) → option_map f o ≡ Some x → (s : A) × (o ≡ Some s) × (f s ≡ x)
map_some f None x e = cc
map_some f (Some s) x e = (s, refl, ap (λ o. unwrap_or o x) e)

some_is : {A : Type 0} (o : Option A) → IsSome o → (x : A) × (o ≡ Some x)
some_is None e = cc
some_is (Some x) e = (x, refl)

inside_of : {A : Type 0} (xs : List A) (n : ℕ) (x : A) → slice_get xs n ≡ Some x → n < length xs
inside_of [] n x e = cc
inside_of (y ∷ xs) zero x e = omega arith
inside_of (y ∷ xs) (suc n) x e = let ih : n < length xs = inside_of xs n x e in omega (arith, ih)

found_in : (d : Draft) (v : NumberedDirectory) (q : Request) → IsWellFormed d → IsNumbered (dir_table d) v → IsSome (choice_for d v.directory q)
    → (r : DirRow) × (row_for (dir_table d) v q ≡ Some r) × DoesChoice (dir_table d) (choice_for d v.directory q) r
found_in d v q wf at some =
    let (s, here, is) = map_some (λ s. s.desc) (slice_get (dir_table d) v.number) v.directory.desc at in
    let (ch, chosen) = some_is (choice_for d v.directory q) some in
    let there : dir_choice d s.desc (dir_input v.directory.desc (dir_entry_of v.directory) q) ≡ Some ch =
    ap (λ x. dir_choice d x (dir_input v.directory.desc (dir_entry_of v.directory) q)) is ∙ chosen in
    let (r, finds, acts, next) = dir_finds d v.number s (dir_input v.directory.desc (dir_entry_of v.directory) q) ch wf here there in
    (r, finds, (ch, chosen, acts, next))

-- there is a row for what is picked, and it does that
pub found : (d : Draft) (t : List DirTableState) (v : NumberedDirectory) (q : Request) → IsWellFormed d → t ≡ dir_table d → IsNumbered t v → IsSome (choice_for d v.directory q)
    → (r : DirRow) × (row_for t v q ≡ Some r) × DoesChoice t (choice_for d v.directory q) r
found d t v q wf e = subst (λ u. IsNumbered u v → IsSome (choice_for d v.directory q) → (r : DirRow) × (row_for u v q ≡ Some r) × DoesChoice u (choice_for d v.directory q) r) (sym e) (found_in d v q wf)

pub has_row : (d : Draft) (t : List DirTableState) (v : NumberedDirectory) (q : Request) → IsWellFormed d → t ≡ dir_table d → IsNumbered t v → IsSome (choice_for d v.directory q) → IsSome (row_for t v q)
has_row d t v q wf e at some = let (r, finds, rest) = found d t v q wf e at some in subst IsSome (sym finds) refl

-- the row that was found
pub drives : (d : Draft) (t : List DirTableState) (v : NumberedDirectory) (q : Request) (r : DirRow) → IsWellFormed d → t ≡ dir_table d → IsNumbered t v → IsSome (choice_for d v.directory q)
    → row_for t v q ≡ Some r → DoesChoice t (choice_for d v.directory q) r
drives d t v q r wf e at some is =
    let (x, finds, does) = found d t v q wf e at some in
    let same : x ≡ r = ap (λ o. unwrap_or o x) (sym finds ∙ is) in
    subst (DoesChoice t (choice_for d v.directory q)) same does

pub leads_inside : (t : List DirTableState) (p : Option DirChoice) (r : DirRow) → DoesChoice t p r → r.next < length t
leads_inside t p r (ch, chosen, acts, next) =
    let (s, here, is) = map_some (λ s. s.desc) (slice_get t r.next) ch.next next in inside_of t r.next s here

-- what is sent has room, act by act
pub row_fits : (d : Draft) (t : List DirTableState) (h : Directory) (c : ℕ) (a : SentRequest) (w : Nets) (r : DirRow) (k : ℕ) → k ≡ suc h.last → DoesChoice t (choice_by d h c a) r
    → IfSome (choice_by d h c a) (λ ch. message_count (posts_for d h c a ch) ≤ spare w)
    → AllFit d (dir_entry_of h) c k a.word r.acts (record { memory = h.memory; invs = 0; nets = w })
row_fits d t h c a w r k e (ch, chosen, acts, next) room =
    let roomy : message_count (posts_for d h c a ch) ≤ spare w = subst (λ o. IfSome o (λ x. message_count (posts_for d h c a x) ≤ spare w)) chosen room in
    let all : AllFit d (dir_entry_of h) c (suc h.last) a.word ch.acts (record { memory = h.memory; invs = 0; nets = w }) =
    all_fit d (dir_entry_of h) c (suc h.last) a.word ch.acts (nothing_posted h.memory) w roomy in
    subst (λ n. AllFit d (dir_entry_of h) c n a.word r.acts (record { memory = h.memory; invs = 0; nets = w })) (sym e)
    (subst (λ ys. AllFit d (dir_entry_of h) c (suc h.last) a.word ys (record { memory = h.memory; invs = 0; nets = w })) (sym acts) all)

abbrev pub made : Draft → Directory → ℕ → SentRequest → DirDesc → ℕ → Effects → DirResult
made d h c a x k does = record { directory = record (with_entry (entry_after d (dir_entry_of h) (request_by c a)) h) { desc = x; memory = does.memory; last = k }; nets = does.nets }

-- what the row makes is what the world's definition says
pub row_makes : (d : Draft) (t : List DirTableState) (h : Directory) (c : ℕ) (a : SentRequest) (w : Nets) (r : DirRow) (k : ℕ) (x : DirDesc) → k ≡ suc h.last → DoesChoice t (choice_by d h c a) r
    → option_map (λ s. s.desc) (slice_get t r.next) ≡ Some x
    → made d h c a x k (after_acts d (dir_entry_of h) c k a.word r.acts (record { memory = h.memory; invs = 0; nets = w })) ≡ result_of_request d c a h w
row_makes d t h c a w r k x e (ch, chosen, acts, next) leads =
    let desc : x ≡ ch.next = ap (λ o. unwrap_or o x) (sym leads ∙ next) in
    ap (λ y. made d h c a y k (after_acts d (dir_entry_of h) c k a.word r.acts (record { memory = h.memory; invs = 0; nets = w }))) desc
    ∙ ap (λ n. made d h c a ch.next n (after_acts d (dir_entry_of h) c n a.word r.acts (record { memory = h.memory; invs = 0; nets = w }))) e
    ∙ ap (λ ys. made d h c a ch.next (suc h.last) (after_acts d (dir_entry_of h) c (suc h.last) a.word ys (record { memory = h.memory; invs = 0; nets = w }))) acts
    ∙ ap (made d h c a ch.next (suc h.last)) (acts_are d (dir_entry_of h) c (suc h.last) a.word ch.acts (nothing_posted h.memory) w)
    ∙ ap (result_of_choice d h c a w) (sym chosen)

abbrev at_home : Directory → Nets → DirResult
at_home y v = record { directory = y; nets = v }

pub drive_makes : (d e : Draft) (h y : Directory) (c : ℕ) (a : SentRequest) (v w : Nets) (r : DirRow) (k : ℕ) → d ≡ e
    → y ≡ (made d h c a y.desc k (after_acts d (dir_entry_of h) c k a.word r.acts (record { memory = h.memory; invs = 0; nets = w }))).directory
    → v ≡ (after_acts d (dir_entry_of h) c k a.word r.acts (record { memory = h.memory; invs = 0; nets = w })).nets
    → record { directory = y; nets = v } ≡ made e h c a y.desc k (after_acts e (dir_entry_of h) c k a.word r.acts (record { memory = h.memory; invs = 0; nets = w }))
drive_makes d e h y c a v w r k same directory nets =
    let x : DirResult = made d h c a y.desc k (after_acts d (dir_entry_of h) c k a.word r.acts (record { memory = h.memory; invs = 0; nets = w })) in
    let one : at_home y v ≡ at_home x.directory v = ap (λ z. at_home z v) directory in
    let two : at_home x.directory v ≡ at_home x.directory x.nets = ap (at_home x.directory) nets in
    one ∙ two ∙ ap (λ f. made f h c a y.desc k (after_acts f (dir_entry_of h) c k a.word r.acts (record { memory = h.memory; invs = 0; nets = w }))) same

-- Data that an owner writes back

abbrev pub as_desc : Directory → ℕ → DirDesc → Directory
as_desc h word x = record h { desc = x; memory = word }

pub wb_choice : (d : Draft) (x : DirDesc) → is_busy x ≡ true → dir_choice d x met.Wb ≡ Some (record { acts = act.Write ∷ []; next = State (dir_state_of x) })
wb_choice d (State n) e = cc
wb_choice d (Busy n) e = refl

wb_in : (d : Draft) (v : NumberedDirectory) → IsWellFormed d → IsNumbered (dir_table d) v → is_busy v.directory.desc ≡ true
    → (r : DirRow) × (find_dir_row (dir_table d) v.number met.Wb ≡ Some r) × (option_map (λ s. s.desc) (slice_get (dir_table d) r.next) ≡ Some (State (dir_state_of v.directory.desc)))
wb_in d v wf at busy =
    let (s, here, is) = map_some (λ s. s.desc) (slice_get (dir_table d) v.number) v.directory.desc at in
    let there : dir_choice d s.desc met.Wb ≡ Some (record { acts = act.Write ∷ []; next = State (dir_state_of v.directory.desc) }) =
    ap (λ x. dir_choice d x met.Wb) is ∙ wb_choice d v.directory.desc busy in
    let (r, finds, acts, next) = dir_finds d v.number s met.Wb (record { acts = act.Write ∷ []; next = State (dir_state_of v.directory.desc) }) wf here there in
    (r, finds, next)

pub wb_found : (d : Draft) (t : List DirTableState) (v : NumberedDirectory) → IsWellFormed d → t ≡ dir_table d → IsNumbered t v → is_busy v.directory.desc ≡ true
    → (r : DirRow) × (find_dir_row t v.number met.Wb ≡ Some r) × (option_map (λ s. s.desc) (slice_get t r.next) ≡ Some (State (dir_state_of v.directory.desc)))
wb_found d t v wf e = subst (λ u. IsNumbered u v → is_busy v.directory.desc ≡ true
    → (r : DirRow) × (find_dir_row u v.number met.Wb ≡ Some r) × (option_map (λ s. s.desc) (slice_get u r.next) ≡ Some (State (dir_state_of v.directory.desc)))) (sym e) (wb_in d v wf)

pub wb_there : (d : Draft) (t : List DirTableState) (v : NumberedDirectory) → IsWellFormed d → t ≡ dir_table d → IsNumbered t v → is_busy v.directory.desc ≡ true → IsSome (find_dir_row t v.number met.Wb)
wb_there d t v wf e at busy = let (r, finds, next) = wb_found d t v wf e at busy in subst IsSome (sym finds) refl

pub wb_leads : (d : Draft) (t : List DirTableState) (v : NumberedDirectory) (r : DirRow) → IsWellFormed d → t ≡ dir_table d → IsNumbered t v → is_busy v.directory.desc ≡ true
    → find_dir_row t v.number met.Wb ≡ Some r → option_map (λ s. s.desc) (slice_get t r.next) ≡ Some (State (dir_state_of v.directory.desc))
wb_leads d t v r wf e at busy is =
    let (x, finds, next) = wb_found d t v wf e at busy in
    let same : x ≡ r = ap (λ o. unwrap_or o x) (sym finds ∙ is) in
    subst (λ z. option_map (λ s. s.desc) (slice_get t z.next) ≡ Some (State (dir_state_of v.directory.desc))) same next

pub wb_inside : (t : List DirTableState) (n : ℕ) (x : DirDesc) → option_map (λ s. s.desc) (slice_get t n) ≡ Some x → n < length t
wb_inside t n x e = let (s, here, is) = map_some (λ s. s.desc) (slice_get t n) x e in inside_of t n s here

pub wb_makes : (d : Draft) (h : Directory) (t : List DirTableState) (n : ℕ) (x : DirDesc) (word : ℕ) → is_busy h.desc ≡ true
    → option_map (λ s. s.desc) (slice_get t n) ≡ Some (State (dir_state_of h.desc)) → option_map (λ s. s.desc) (slice_get t n) ≡ Some x
    → record h { desc = x; memory = word } ≡ write_back d word h
wb_makes d h t n x word busy a b =
    let same : x ≡ State (dir_state_of h.desc) = ap (λ o. unwrap_or o x) (sym b ∙ a) in
    let one : as_desc h word x ≡ as_desc h word (State (dir_state_of h.desc)) = ap (as_desc h word) same in
    one ∙ ap (write_back_by d word h) (sym (wb_choice d h.desc busy))
