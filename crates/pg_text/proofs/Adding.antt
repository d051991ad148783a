-- Each line of a well-formed draft may be added to the draft of the lines before it.
use Rattle.std.proofs.Common.{◌≡◌, ℕ, ◌+◌, ◌≤◌, Bool, true, false, List, [], ◌∷◌, ◌++◌, length, map, Option, Some, None, is_some, refl, ap, sym, ◌∙◌, arith, bytes_eq, length-append}
use Rattle.std.specs.Prelude.{not, nat_le}
use Rattle.std.specs.List.{list_all, list_any}
use Rattle.std.proofs.lemmas.Bool.{and_parts, or_parts, or_from, not-true, lt-leb, leb-true}
use Rattle.std.proofs.lemmas.Cmp.{nat_list_eq_equiv}
use Rattle.std.proofs.lemmas.List.{length-map}
use Rattle.std.proofs.lemmas.List.Folds.{list_all-map}
use Rattle.pg_names.specs.Number.{number_of}
use Rattle.pg_names.proofs.Numbers.{is_some-number_of}
use Rattle.pg_perm.specs.Names.{is_name, is_state_name}
use Rattle.pg_perm.specs.declared.draft.Draft.{Draft}
use Rattle.pg_perm.specs.declared.draft.CacheLine.{CacheLine}
use Rattle.pg_perm.specs.declared.draft.DirLine.{DirLine}
use Rattle.pg_perm.specs.declared.draft.MsgLine.{MsgLine}
use Rattle.pg_perm.specs.declared.draft.MsgClass.{MsgClass}
use Rattle.pg_perm.specs.declared.draft.MsgClass.TheVariants as class
use Rattle.pg_perm.specs.declared.draft.CoreLine.{CoreLine}
use Rattle.pg_perm.specs.declared.draft.CoreForm.{CoreForm}
use Rattle.pg_perm.specs.declared.draft.CoreForm.TheVariants as form
use Rattle.pg_perm.specs.declared.draft.TakeLine.{TakeLine}
use Rattle.pg_perm.specs.declared.draft.RowLine.{RowLine}
use Rattle.pg_perm.specs.declared.draft.RowForm.{RowForm}
use Rattle.pg_perm.specs.declared.draft.RowForm.TheVariants as rows
use Rattle.pg_perm.specs.Drafts.{taken_names, are_distinct, has_cache, has_core, has_take, has_row, pair_count}
use Rattle.pg_perm.specs.Words.{cache_name}
use Rattle.pg_forms.specs.declared.line.Line.TheVariants as line
use Rattle.pg_forms.specs.Forms.{spelling, shape_words}
use Rattle.pg_forms.specs.Pairs.{words_in}
use Rattle.pg_forms.specs.Kinds.{kind_of, is_protocol, is_end}
use Rattle.pg_drafting.specs.Numbering.{put_dir, put_core, put_take, put_row}
use Rattle.pg_text.specs.Printing.{numbered_elements, pair_words, core_shape, cache_line_of, dir_line_of, message_line_of, core_line_of, take_line_of, row_line_of}
use Rattle.pg_text.proofs.Parts.{WellFormedParts}
use Rattle.pg_text.proofs.NumbersAgain.{KnowsCaches, KnowsDirs, KnowsMessages, core_again, states_again, take_again, row_again}
use Rattle.pg_text.proofs.WellNamed.{dir_line_named, message_line_named, core_line_named, take_line_named, row_line_named}
use Rattle.pg_text.proofs.ReadAgain.{AreAdded}

-- an element passes the test that all pass
inside : {A : Type 0} (p : A → Bool) (xs front : List A) (x : A) (rest : List A) → xs ≡ front ++ x ∷ rest → list_all p xs ≡ true → p x ≡ true
inside {A} p xs front x rest split h = at front (ap (list_all p) (sym split) ∙ h)
  where
    at : (ys : List A) → list_all p (ys ++ x ∷ rest) ≡ true → p x ≡ true
    at [] g = (and_parts (p x) (list_all p rest) g).0
    at (y ∷ ys) g = at ys (and_parts (p y) (list_all p (ys ++ x ∷ rest)) g).1

-- an element's name passes the test that all names pass
named_inside : {A : Type 0} (p : List ℕ → Bool) (name : A → List ℕ) (xs front : List A) (x : A) (rest : List A) → xs ≡ front ++ x ∷ rest
    → list_all p (map name xs) ≡ true → p (name x) ≡ true
named_inside {A} p name xs front x rest split h = inside (λ (y : A). p (name y)) xs front x rest split (sym (list_all-map p name xs) ∙ h)

-- a word that is none of the names is none among them
not_among : {A : Type 0} (w : List ℕ) (name : A → List ℕ) (front : List A) (x : A) (rest : List A)
    → list_any (bytes_eq w) (map name (front ++ x ∷ rest)) ≡ false → bytes_eq w (name x) ≡ false
not_among w name [] x rest h = (or_parts (bytes_eq w (name x)) (list_any (bytes_eq w) (map name rest)) h).0
not_among w name (y ∷ ys) x rest h =
    not_among w name ys x rest (or_parts (bytes_eq w (name y)) (list_any (bytes_eq w) (map name (ys ++ x ∷ rest))) h).1

-- among distinct names none before another is that one
before_distinct : {A : Type 0} (name : A → List ℕ) (front : List A) (x : A) (rest : List A) → are_distinct (map name (front ++ x ∷ rest)) ≡ true
    → list_any (bytes_eq (name x)) (map name front) ≡ false
before_distinct name [] x rest h = refl
before_distinct name (y ∷ ys) x rest h =
    let names : List (List ℕ) = map name (ys ++ x ∷ rest) in
    let parts = and_parts (not (list_any (bytes_eq (name y)) names)) (are_distinct names) h in
    or_from (bytes_eq (name x) (name y)) (list_any (bytes_eq (name x)) (map name ys))
    (nat_list_eq_equiv.symm (name x) (name y) ∙ not_among (name y) name ys x rest (not-true (list_any (bytes_eq (name y)) names) parts.0))
    (before_distinct name ys x rest parts.1)

-- what numbering keeps
pub map_numbered : {A B : Type 0} (num : ℕ → A → A) (f : A → B) (from : ℕ) (xs : List A) → ((n : ℕ) (x : A) → f (num n x) ≡ f x)
    → map f (numbered_elements num from xs) ≡ map f xs
map_numbered num f from [] same = refl
map_numbered {B = B} num f from (x ∷ xs) same =
    ap (λ (y : B). y ∷ map f (numbered_elements num (from + 1) xs)) (same from x) ∙ ap (λ (ys : List B). f x ∷ ys) (map_numbered num f (from + 1) xs same)

-- numbering keeps how many there are
pub length_numbered : {A : Type 0} (num : ℕ → A → A) (from : ℕ) (xs : List A) → length (numbered_elements num from xs) ≡ length xs
length_numbered num from [] = refl
length_numbered num from (x ∷ xs) = omega (arith, length_numbered num (from + 1) xs)

-- a name is new after others among distinct names
new_name : {A : Type 0} (num : ℕ → A → A) (name : A → List ℕ) (from : ℕ) (xs front : List A) (x : A) (rest : List A)
    → ((n : ℕ) (y : A) → name (num n y) ≡ name y) → xs ≡ front ++ x ∷ rest → are_distinct (map name xs) ≡ true
    → is_some (number_of (map name (numbered_elements num from front)) (name x)) ≡ false
new_name {A} num name from xs front x rest same split distinct =
    ap (λ names. is_some (number_of names (name x))) (map_numbered num name from front same)
    ∙ is_some-number_of (map name front) (name x)
    ∙ before_distinct name front x rest (ap (λ (ys : List A). are_distinct (map name ys)) (sym split) ∙ distinct)

-- there is room for an element after others of as many as there may be
room_left : {A : Type 0} (num : ℕ → A → A) (from : ℕ) (xs front : List A) (x : A) (rest : List A) (other most now : ℕ) → xs ≡ front ++ x ∷ rest
    → length xs + other ≤ most → now ≡ length (numbered_elements num from front) + other → nat_le most now ≡ false
room_left num from xs front x rest other most now split few is_now =
    lt-leb most now (omega (arith, few, is_now, length_numbered num from front, ap length split, length-append front (x ∷ rest)))

-- the lines with other numbers
abbrev pub cache_at : ℕ → CacheLine → CacheLine
cache_at n c = record c { line = n }

abbrev pub dir_at : ℕ → DirLine → DirLine
dir_at n s = record s { line = n }

abbrev pub message_at : ℕ → MsgLine → MsgLine
message_at n m = record m { line = n }

abbrev pub core_at : ℕ → CoreLine → CoreLine
core_at n c = record c { line = n }

abbrev pub take_at : ℕ → TakeLine → TakeLine
take_at n t = record t { line = n }

abbrev pub row_at : ℕ → RowLine → RowLine
row_at n r = record r { line = n }

-- the drafts of a text that starts with the protocol line of a draft
abbrev pub draft_of_parts : Draft → List CacheLine → List DirLine → List MsgLine → List CoreLine → List TakeLine → List RowLine → Draft
draft_of_parts d cs ss ms ks ts rs =
    record { line = 1; name = d.name; caches = cs; dirs = ss; messages = ms; cores = ks; takes = ts; rows = rs }

-- the drafts know what was numbered
knows_caches : (d : Draft) (from : ℕ) (ss : List DirLine) (ms : List MsgLine) (ks : List CoreLine) (ts : List TakeLine) (rs : List RowLine) → WellFormedParts d
    → KnowsCaches (draft_of_parts d (numbered_elements cache_at from d.caches) ss ms ks ts rs) d
knows_caches d from ss ms ks ts rs k =
    record { same = map_numbered cache_at (λ (c : CacheLine). c.name) from d.caches (λ n c. refl); distinct = k.free.caches }

-- likewise of directory states
knows_dirs : (d : Draft) (from : ℕ) (cs : List CacheLine) (ms : List MsgLine) (ks : List CoreLine) (ts : List TakeLine) (rs : List RowLine) → WellFormedParts d
    → KnowsDirs (draft_of_parts d cs (numbered_elements dir_at from d.dirs) ms ks ts rs) d
knows_dirs d from cs ms ks ts rs k =
    record { same = map_numbered dir_at (λ (s : DirLine). s.name) from d.dirs (λ n s. refl); distinct = k.free.dirs }

-- likewise of messages
knows_messages : (d : Draft) (from : ℕ) (cs : List CacheLine) (ss : List DirLine) (ks : List CoreLine) (ts : List TakeLine) (rs : List RowLine) → WellFormedParts d
    → KnowsMessages (draft_of_parts d cs ss (numbered_elements message_at from d.messages) ks ts rs) d
knows_messages d from cs ss ks ts rs k =
    record {
      same = map_numbered message_at (λ (m : MsgLine). m.name) from d.messages (λ n m. refl);
      classes = map_numbered message_at (λ (m : MsgLine). m.class) from d.messages (λ n m. refl);
      distinct = k.free.messages;
      free = k.free.free;
    }

-- a cache line has few words
short_cache : (c : CacheLine) → length (spelling (cache_line_of c)) ≤ 80
short_cache c = at c.clean
  where
    at : (b : Bool) → length (spelling (line.Cache c.name c.role c.perm b)) ≤ 80
    at true = omega arith
    at false = omega arith

-- the cache lines
pub caches_added : (d : Draft) (from : ℕ) → WellFormedParts d
    → AreAdded (λ cs. draft_of_parts d cs [] [] [] [] []) cache_line_of cache_at from d.caches
caches_added d from k front x rest n split = (
  record {
    named = named_inside is_state_name (λ (c : CacheLine). c.name) d.caches front x rest split k.names.caches;
    short = short_cache x;
    ended = refl;
    new = new_name cache_at (λ (c : CacheLine). c.name) from d.caches front x rest (λ n c. refl) split k.free.caches;
    adds = refl;
    room = room_left cache_at from d.caches front x rest 0 16 _ split (omega (arith, k.limits.caches)) (omega arith);
  },
  refl,
)

-- the dir lines
pub dirs_added : (d : Draft) (first from : ℕ) → WellFormedParts d
    → AreAdded (λ ss. draft_of_parts d (numbered_elements cache_at first d.caches) ss [] [] [] []) (dir_line_of d) dir_at from d.dirs
dirs_added d first from k front x rest n split =
    let e : Draft = draft_of_parts d (numbered_elements cache_at first d.caches) (numbered_elements dir_at from front) [] [] [] [] in
    let there = inside (λ (s : DirLine). list_all (has_cache d) s.beside) d.dirs front x rest split k.numbers.beside in
    let few = leb-true (length x.beside) 77 (inside (λ (s : DirLine). nat_le (length s.beside) 77) d.dirs front x rest split k.limits.beside) in
    let states = states_again e d x.beside (knows_caches d first (numbered_elements dir_at from front) [] [] [] [] k) there in (
      record {
        named = dir_line_named d x k.names (named_inside is_state_name (λ (s : DirLine). s.name) d.dirs front x rest split k.names.dirs) there;
        short = omega (arith, few, length-map x.beside (cache_name d));
        ended = refl;
        new = new_name dir_at (λ (s : DirLine). s.name) from d.dirs front x rest (λ n s. refl) split k.free.dirs;
        adds = ap (put_dir e n x.name x.kind) states;
        room = room_left dir_at from d.dirs front x rest 0 16 _ split (omega (arith, k.limits.dirs)) (omega arith);
      },
      refl,
    )

-- what is said of a message line by its class
message_short : (m : MsgLine) → length (spelling (message_line_of m)) ≤ 80
message_short m = at m.class
  where
    at : (c : MsgClass) → length (spelling (line.Message m.name c)) ≤ 80
    at (class.Request asked) = omega arith
    at (class.Forward asked) = omega arith
    at class.Reply = omega arith

-- it is neither the end line nor a protocol line
message_kind : (m : MsgLine) → (is_end (kind_of (message_line_of m)) ≡ false) × (is_protocol (kind_of (message_line_of m)) ≡ false)
message_kind m = at m.class
  where
    at : (c : MsgClass) → (is_end (kind_of (line.Message m.name c)) ≡ false) × (is_protocol (kind_of (line.Message m.name c)) ≡ false)
    at (class.Request asked) = (refl, refl)
    at (class.Forward asked) = (refl, refl)
    at class.Reply = (refl, refl)

-- the request, forward and reply lines
pub messages_added : (d : Draft) (from : ℕ) (cs : List CacheLine) (ss : List DirLine) → WellFormedParts d
    → AreAdded (λ ms. draft_of_parts d cs ss ms [] [] []) message_line_of message_at from d.messages
messages_added d from cs ss k front x rest n split =
    let free_of : (list_any (bytes_eq x.name) taken_names) ≡ false =
    not-true _ (named_inside (λ m. not (list_any (bytes_eq m) taken_names)) (λ (m : MsgLine). m.name) d.messages front x rest split k.free.free) in (
      record {
        named = message_line_named x (named_inside is_name (λ (m : MsgLine). m.name) d.messages front x rest split k.names.messages);
        short = message_short x;
        ended = (message_kind x).0;
        new = or_from _ _ free_of (new_name message_at (λ (m : MsgLine). m.name) from d.messages front x rest (λ n m. refl) split k.free.messages);
        adds = refl;
        room = room_left message_at from d.messages front x rest 0 32 _ split (omega (arith, k.limits.messages)) (omega arith);
      },
      (message_kind x).1,
    )

-- a pair has two words
length_words_in : (ps : List (List ℕ × List ℕ)) → length (words_in ps) ≡ length ps + length ps
length_words_in [] = refl
length_words_in (p ∷ ps) = omega (arith, length_words_in ps)

-- the form of a core line with few pairs has few words
short_shape : (d : Draft) (f : CoreForm) → pair_count f ≤ 38 → length (shape_words (core_shape d f)) ≤ 77
short_shape d (form.Hit None) few = omega arith
short_shape d (form.Hit (Some next)) few = omega arith
short_shape d (form.Ask request pairs) few = omega (arith, few, length_words_in (map (pair_words d) pairs), length-map pairs (pair_words d))
short_shape d (form.Leave request) few = omega arith

-- the core lines
pub cores_added : (d : Draft) (first second third from : ℕ) → WellFormedParts d
    → AreAdded (λ ks. draft_of_parts d (numbered_elements cache_at first d.caches) (numbered_elements dir_at second d.dirs) (numbered_elements message_at third d.messages) ks [] []) (core_line_of d) core_at from d.cores
cores_added d first second third from k front x rest n split =
    let cs : List CacheLine = numbered_elements cache_at first d.caches in
    let ss : List DirLine = numbered_elements dir_at second d.dirs in
    let ms : List MsgLine = numbered_elements message_at third d.messages in
    let ks : List CoreLine = numbered_elements core_at from front in
    let e : Draft = draft_of_parts d cs ss ms ks [] [] in
    let there = inside (has_core d) d.cores front x rest split k.numbers.cores in
    let few = leb-true (pair_count x.form) 38 (inside (λ (c : CoreLine). nat_le (pair_count c.form) 38) d.cores front x rest split k.limits.pairs) in
    let core = core_again e d n x (knows_caches d first ss ms ks [] [] k) (knows_messages d third cs ss ks [] [] k) there in (
      record {
        named = core_line_named d x k.names there;
        short = omega (arith, short_shape d x.form few);
        ended = refl;
        new = refl;
        adds = ap (put_core e) core;
        room = room_left core_at from d.cores front x rest 0 512 _ split (omega (arith, k.limits.rules)) (omega arith);
      },
      refl,
    )

-- a take line has few words
short_take : (d : Draft) (t : TakeLine) → length (spelling (take_line_of d t)) ≤ 80
short_take d t = at t.reply
  where
    at : (r : Option ℕ) → length (spelling (take_line_of d (record t { reply = r }))) ≤ 80
    at None = omega arith
    at (Some m) = omega arith

-- the take lines
pub takes_added : (d : Draft) (first second third fourth from : ℕ) → WellFormedParts d
    → AreAdded (λ ts. draft_of_parts d (numbered_elements cache_at first d.caches) (numbered_elements dir_at second d.dirs) (numbered_elements message_at third d.messages) (numbered_elements core_at fourth d.cores) ts []) (take_line_of d) take_at from d.takes
takes_added d first second third fourth from k front x rest n split =
    let cs : List CacheLine = numbered_elements cache_at first d.caches in
    let ss : List DirLine = numbered_elements dir_at second d.dirs in
    let ms : List MsgLine = numbered_elements message_at third d.messages in
    let ks : List CoreLine = numbered_elements core_at fourth d.cores in
    let ts : List TakeLine = numbered_elements take_at from front in
    let e : Draft = draft_of_parts d cs ss ms ks ts [] in
    let there = inside (has_take d) d.takes front x rest split k.numbers.takes in
    let take = take_again e d n x (knows_caches d first ss ms ks ts [] k) (knows_messages d third cs ss ks ts [] k) there in (
      record {
        named = take_line_named d x k.names there;
        short = short_take d x;
        ended = refl;
        new = refl;
        adds = ap (put_take e) take;
        room = room_left take_at from d.takes front x rest (length d.cores) 512 _ split (omega (arith, k.limits.rules)) (omega (arith, length_numbered core_at fourth d.cores));
      },
      refl,
    )

-- a row line has few words
short_row : (d : Draft) (r : RowLine) → length (spelling (row_line_of d r)) ≤ 80
short_row d r = at r.form
  where
    at : (f : RowForm) → length (spelling (row_line_of d (record r { form = f }))) ≤ 80
    at (rows.Ask request who act) = omega arith
    at (rows.Evict who left) = omega arith

-- the row lines
pub rows_added : (d : Draft) (first second third fourth fifth from : ℕ) → WellFormedParts d
    → AreAdded (λ rs. draft_of_parts d (numbered_elements cache_at first d.caches) (numbered_elements dir_at second d.dirs) (numbered_elements message_at third d.messages) (numbered_elements core_at fourth d.cores) (numbered_elements take_at fifth d.takes) rs) (row_line_of d) row_at from d.rows
rows_added d first second third fourth fifth from k front x rest n split =
    let cs : List CacheLine = numbered_elements cache_at first d.caches in
    let ss : List DirLine = numbered_elements dir_at second d.dirs in
    let ms : List MsgLine = numbered_elements message_at third d.messages in
    let ks : List CoreLine = numbered_elements core_at fourth d.cores in
    let ts : List TakeLine = numbered_elements take_at fifth d.takes in
    let rs : List RowLine = numbered_elements row_at from front in
    let e : Draft = draft_of_parts d cs ss ms ks ts rs in
    let there = inside (has_row d) d.rows front x rest split k.numbers.rows in
    let row = row_again e d n x (knows_dirs d second cs ms ks ts rs k) (knows_messages d third cs ss ks ts rs k) there in (
      record {
        named = row_line_named d x k.names k.free.free there;
        short = short_row d x;
        ended = refl;
        new = refl;
        adds = ap (put_row e) row;
        room = room_left row_at from d.rows front x rest (length d.cores + length d.takes) 512 _ split (omega (arith, k.limits.rules))
            (omega (arith, length_numbered core_at fourth d.cores, length_numbered take_at fifth d.takes));
      },
      refl,
    )
