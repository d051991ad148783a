-- Every draft that is read is well formed.
use Rattle.std.proofs.Common.{◌≡◌, ℕ, suc, ◌+◌, ◌≤◌, Bool, true, false, List, [], ◌∷◌, ◌++◌, length, map}
use Rattle.std.proofs.Common.{Option, Some, None, Result, Ok, Err, refl, sym, ap, subst, ◌∙◌, arith, cond, inl, inr}
use Rattle.std.specs.Prelude.{◌||◌, ◌⊎◌, ◌==◌, not, nat_lt, nat_le, is_some, IfOk, bytes_eq}
use Rattle.std.specs.List.{list_all, list_any}
use Rattle.std.proofs.lemmas.Bool.{and_from, or_parts, le-leb, leb-true, leb-false, lt-ltb, ltb-true, ltb-false, eqb-true}
use Rattle.std.proofs.lemmas.List.Folds.{list_all-map}
use Rattle.std.proofs.lemmas.Option.{same_Some}
use Rattle.pg_names.specs.Number.{number_of}
use Rattle.pg_names.proofs.Numbers.{is_some-number_of}
use Rattle.pg_perm.specs.declared.fault.Fault.{Fault}
use Rattle.pg_perm.specs.declared.fault.Rule.{Rule}
use Rattle.pg_perm.specs.declared.draft.Draft.{Draft}
use Rattle.pg_perm.specs.declared.draft.CacheLine.{CacheLine}
use Rattle.pg_perm.specs.declared.draft.DirLine.{DirLine}
use Rattle.pg_perm.specs.declared.draft.MsgLine.{MsgLine}
use Rattle.pg_perm.specs.declared.draft.CoreLine.{CoreLine}
use Rattle.pg_perm.specs.declared.draft.TakeLine.{TakeLine}
use Rattle.pg_perm.specs.declared.draft.RowLine.{RowLine}
use Rattle.pg_perm.specs.declared.draft.MsgClass.{MsgClass}
use Rattle.pg_perm.specs.declared.draft.MsgClass.TheVariants.{Request, Forward, Reply}
use Rattle.pg_perm.specs.Names.{is_name, is_state_name}
use Rattle.pg_perm.specs.Classes.{class_rank}
use Rattle.pg_perm.specs.Drafts.{cache_names, dir_names, message_names, rule_line_count, taken_names, are_distinct, has_cache, has_core, has_take, has_row}
use Rattle.pg_perm.specs.Drafts.{is_ordered, is_rising, line_numbers, pair_count, IsWellFormed}
use Rattle.pg_forms.specs.declared.line.Kind.{Kind}
use Rattle.pg_forms.specs.declared.line.Line.{Line}
use Rattle.pg_forms.specs.declared.line.Line.TheVariants.{Protocol, Cache, Dir, Message, Core, Take, Row, End}
use Rattle.pg_forms.specs.declared.line.CoreShape.{CoreShape}
use Rattle.pg_forms.specs.declared.line.CoreShape.TheVariants.{Hit, Ask, Leave}
use Rattle.pg_text.specs.declared.error.TextError.{TextError}
use Rattle.pg_lines.specs.Lines.{lines_of, words_of, place_after}
use Rattle.pg_text.specs.Answers.{Gives}
use Rattle.pg_forms.specs.Kinds.{rank_of, is_protocol, kind_of}
use Rattle.pg_forms.specs.Pairs.{words_in}
use Rattle.pg_forms.specs.Forms.{spelling, shape_words, IsWellNamed}
use Rattle.pg_drafting.specs.Numbering.{no_draft, states_of, core_of, take_of, row_of, with_line, is_taken, is_full}
use Rattle.pg_text.specs.FormFaults.{LinesAbove, no_lines_above, is_out_of_order, is_end_line}
use Rattle.pg_text.specs.Texts.{line_judgement, read_lines, reading}
use Rattle.pg_text.proofs.Judging.{read_on}
use Rattle.pg_forms.proofs.Options.{option_map-some, same_ok}
use Rattle.pg_forms.proofs.Spellings.{line_of-some}
use Rattle.pg_text.proofs.TakenIn.{IsTakenIn, taken_in}
use Rattle.pg_lines.proofs.Weaker.{all_weaker}
use Rattle.pg_text.proofs.Growing.{one_more, all_append, all_of_none}
use Rattle.pg_text.proofs.Growing.{distinct_append, ordered_append, rising_append, below_append, map_append, all_images_append}
use Rattle.pg_text.proofs.Listed.{Listing, IsBefore, before_later, cache_last, dir_last, message_last, core_last, take_last, row_last}
use Rattle.pg_text.proofs.Declared.{states_found, shape_pairs, core_found, take_found, row_found}

-- the cache lines of a well-formed draft
pub record AreCaches (cs : List CacheLine) : Type 0 where
  named : list_all is_state_name (map (λ c. c.name) cs) ≡ true
  distinct : are_distinct (map (λ c. c.name) cs) ≡ true
  few : length cs ≤ 16

-- the dir lines, below so many cache lines
pub record AreDirs (caches : ℕ) (ss : List DirLine) : Type 0 where
  named : list_all is_state_name (map (λ s. s.name) ss) ≡ true
  distinct : are_distinct (map (λ s. s.name) ss) ≡ true
  few : length ss ≤ 16
  known : list_all (λ s. list_all (λ k. nat_lt k caches) s.beside) ss ≡ true
  short : list_all (λ s. nat_le (length s.beside) 77) ss ≡ true

-- the message lines
pub record AreMessages (ms : List MsgLine) : Type 0 where
  named : list_all is_name (map (λ m. m.name) ms) ≡ true
  distinct : are_distinct (map (λ m. m.name) ms) ≡ true
  free : list_all (λ m. not (list_any (bytes_eq m) taken_names)) (map (λ m. m.name) ms) ≡ true
  few : length ms ≤ 32
  ordered : is_ordered (map (λ m. class_rank m.class) ms) ≡ true

-- the number of each line
abbrev numbers : Draft → Listing ℕ
numbers d = record {
  first = d.line;
  cache = λ c. c.line;
  dir = λ s. s.line;
  message = λ m. m.line;
  core = λ c. c.line;
  take = λ t. t.line;
  row = λ r. r.line;
}

-- the numbers of the lines rise, and are below that of the next line
pub record AreLines (next : ℕ) (numbers : List ℕ) : Type 0 where
  rise : is_rising numbers ≡ true
  below : list_all (λ m. nat_lt m next) numbers ≡ true

-- the draft of lines above line n that break no rule
pub record IsGrown (d : Draft) (n : ℕ) : Type 0 where
  named : is_name d.name ≡ true
  caches : AreCaches d.caches
  dirs : AreDirs (length d.caches) d.dirs
  messages : AreMessages d.messages
  cores : list_all (has_core d) d.cores ≡ true
  short : list_all (λ c. nat_le (pair_count c.form) 38) d.cores ≡ true
  takes : list_all (has_take d) d.takes ≡ true
  rows : list_all (has_row d) d.rows ≡ true
  few : rule_line_count d ≤ 512
  lines : AreLines n (line_numbers d)

-- both, up to a place in the order
abbrev pub HasGrown : Draft → ℕ → ℕ → Type 0
HasGrown d n r = IsGrown d n × IsBefore d r

-- what is grown is well formed
grown_formed : (d : Draft) (n : ℕ) → IsGrown d n → IsWellFormed d
grown_formed d n g =
    record {
      names = and_from _ _ (and_from _ _ (and_from _ _ g.named g.caches.named) g.dirs.named) g.messages.named;
      free = and_from _ _ (and_from _ _ (and_from _ _ g.caches.distinct g.dirs.distinct) g.messages.distinct) g.messages.free;
      numbers = and_from _ _ (and_from _ _ (and_from _ _ g.dirs.known g.cores) g.takes) g.rows;
      classes = g.messages.ordered;
      lines = g.lines.rise;
      limits =
          and_from _ _ (and_from _ _ (and_from _ _ (and_from _ _ (and_from _ _
          (le-leb (length d.caches) 16 g.caches.few) (le-leb (length d.dirs) 16 g.dirs.few)) (le-leb (length d.messages) 32 g.messages.few))
          (le-leb (rule_line_count d) 512 g.few)) g.dirs.short) g.short;
    }

-- the numbers with that of the next line after them
lines_on : (n : ℕ) (old new : List ℕ) → AreLines n old → new ≡ old ++ n ∷ [] → AreLines (n + 1) new
lines_on n old new l e =
    subst (AreLines (n + 1)) (sym e) (record { rise = rising_append old n l.rise l.below; below = below_append old n l.below })

-- numbers below n are below the number after it
lines_later : (n : ℕ) (numbers : List ℕ) → AreLines n numbers → AreLines (n + 1) numbers
lines_later n numbers l =
    record {
      rise = l.rise;
      below = all_weaker (λ m. nat_lt m n) (λ m. nat_lt m (n + 1)) numbers (λ m g. lt-ltb m (n + 1) (omega (arith, ltb-true m n g))) l.below;
    }

-- one more is within a limit that isn't reached
one_within : {A : Type 0} (xs : List A) (x : A) (limit : ℕ) → nat_le limit (length xs) ≡ false → length (xs ++ x ∷ []) ≤ limit
one_within xs x limit h = omega (arith, one_more xs x, leb-false limit (length xs) h)

-- a new name is none of those that are there
new_name : (names : List (List ℕ)) (w : List ℕ) → is_some (number_of names w) ≡ false → list_any (bytes_eq w) names ≡ false
new_name names w h = sym (is_some-number_of names w) ∙ h

-- a cache line goes after the others
cache_step : (d : Draft) (n : ℕ) (c : CacheLine) → HasGrown d n 1 → c.line ≡ n → is_state_name c.name ≡ true
    → is_some (number_of (cache_names d) c.name) ≡ false → nat_le 16 (length d.caches) ≡ false → HasGrown (record d { caches = d.caches ++ c ∷ [] }) (n + 1) 1
cache_step d n c grew line named new room =
    let g = grew.0 in
    let b = grew.1 in
    let dirs = b.no_dirs (omega arith) in
    let messages = b.no_messages (omega arith) in
    let cores = b.no_cores (omega arith) in
    let takes = b.no_takes (omega arith) in
    let rows = b.no_rows (omega arith) in (
      record {
        named = g.named;
        caches = record {
          named = all_images_append is_state_name (λ (x : CacheLine). x.name) d.caches c g.caches.named named;
          distinct = ap are_distinct (map_append (λ (x : CacheLine). x.name) d.caches c c.name refl)
              ∙ distinct_append (cache_names d) c.name g.caches.distinct (new_name (cache_names d) c.name new);
          few = one_within d.caches c 16 room;
        };
        dirs = subst (AreDirs (length (d.caches ++ c ∷ []))) (sym dirs)
            (record { named = refl; distinct = refl; few = omega arith; known = refl; short = refl });
        messages = g.messages;
        cores = all_of_none _ d.cores cores;
        short = g.short;
        takes = all_of_none _ d.takes takes;
        rows = all_of_none _ d.rows rows;
        few = g.few;
        lines = lines_on n (line_numbers d) _ g.lines (cache_last (numbers d) d c n line b);
      },
      record { no_dirs = b.no_dirs; no_messages = b.no_messages; no_cores = b.no_cores; no_takes = b.no_takes; no_rows = b.no_rows; ranked = b.ranked },
    )

-- a dir line goes after the others
dir_step : (d : Draft) (n : ℕ) (s : DirLine) → HasGrown d n 2 → s.line ≡ n → is_state_name s.name ≡ true
    → is_some (number_of (dir_names d) s.name) ≡ false → nat_le 16 (length d.dirs) ≡ false → list_all (has_cache d) s.beside ≡ true
    → length s.beside ≤ 77 → HasGrown (record d { dirs = d.dirs ++ s ∷ [] }) (n + 1) 2
dir_step d n s grew line named new room known short =
    let g = grew.0 in
    let b = grew.1 in
    let messages = b.no_messages (omega arith) in
    let cores = b.no_cores (omega arith) in
    let takes = b.no_takes (omega arith) in
    let rows = b.no_rows (omega arith) in (
      record {
        named = g.named;
        caches = g.caches;
        dirs = record {
          named = all_images_append is_state_name (λ (x : DirLine). x.name) d.dirs s g.dirs.named named;
          distinct = ap are_distinct (map_append (λ (x : DirLine). x.name) d.dirs s s.name refl)
              ∙ distinct_append (dir_names d) s.name g.dirs.distinct (new_name (dir_names d) s.name new);
          few = one_within d.dirs s 16 room;
          known = all_append (λ (x : DirLine). list_all (λ k. nat_lt k (length d.caches)) x.beside) d.dirs s g.dirs.known known;
          short = all_append (λ (x : DirLine). nat_le (length x.beside) 77) d.dirs s g.dirs.short (le-leb (length s.beside) 77 short);
        };
        messages = g.messages;
        cores = all_of_none _ d.cores cores;
        short = g.short;
        takes = all_of_none _ d.takes takes;
        rows = all_of_none _ d.rows rows;
        few = g.few;
        lines = lines_on n (line_numbers d) _ g.lines (dir_last (numbers d) d s n line b);
      },
      record {
        no_dirs = λ h. absurd (omega (arith, h));
        no_messages = b.no_messages;
        no_cores = b.no_cores;
        no_takes = b.no_takes;
        no_rows = b.no_rows;
        ranked = b.ranked;
      },
    )

-- a message line goes after the others
message_step : (d : Draft) (n : ℕ) (m : MsgLine) → HasGrown d n (3 + class_rank m.class) → class_rank m.class ≤ 2 → m.line ≡ n → is_name m.name ≡ true
    → list_any (bytes_eq m.name) taken_names ≡ false → is_some (number_of (message_names d) m.name) ≡ false → nat_le 32 (length d.messages) ≡ false
    → HasGrown (record d { messages = d.messages ++ m ∷ [] }) (n + 1) (3 + class_rank m.class)
message_step d n m grew rank line named free new room =
    let g = grew.0 in
    let b = grew.1 in
    let cores = b.no_cores (omega (arith, rank)) in
    let takes = b.no_takes (omega (arith, rank)) in
    let rows = b.no_rows (omega (arith, rank)) in
    let ranks : list_all (λ r. nat_le r (class_rank m.class)) (map (λ (x : MsgLine). class_rank x.class) d.messages) ≡ true =
    list_all-map (λ r. nat_le r (class_rank m.class)) (λ (x : MsgLine). class_rank x.class) d.messages
    ∙ all_weaker (λ (x : MsgLine). nat_le (3 + class_rank x.class) (3 + class_rank m.class)) (λ x. nat_le (class_rank x.class) (class_rank m.class)) d.messages
    (λ x h. le-leb (class_rank x.class) (class_rank m.class) (omega (arith, leb-true (3 + class_rank x.class) (3 + class_rank m.class) h))) b.ranked in (
      record {
        named = g.named;
        caches = g.caches;
        dirs = g.dirs;
        messages = record {
          named = all_images_append is_name (λ (x : MsgLine). x.name) d.messages m g.messages.named named;
          distinct = ap are_distinct (map_append (λ (x : MsgLine). x.name) d.messages m m.name refl)
              ∙ distinct_append (message_names d) m.name g.messages.distinct (new_name (message_names d) m.name new);
          free = all_images_append (λ w. not (list_any (bytes_eq w) taken_names)) (λ (x : MsgLine). x.name) d.messages m g.messages.free (ap not free);
          few = one_within d.messages m 32 room;
          ordered = ap is_ordered (map_append (λ (x : MsgLine). class_rank x.class) d.messages m (class_rank m.class) refl)
              ∙ ordered_append (map (λ (x : MsgLine). class_rank x.class) d.messages) (class_rank m.class) g.messages.ordered ranks;
        };
        cores = all_of_none _ d.cores cores;
        short = g.short;
        takes = all_of_none _ d.takes takes;
        rows = all_of_none _ d.rows rows;
        few = g.few;
        lines = lines_on n (line_numbers d) _ g.lines
            (message_last (numbers d) d m n line (before_later d (3 + class_rank m.class) 5 (omega (arith, rank)) b));
      },
      record {
        no_dirs = λ h. absurd (omega (arith, h));
        no_messages = λ h. absurd (omega (arith, h));
        no_cores = b.no_cores;
        no_takes = b.no_takes;
        no_rows = b.no_rows;
        ranked = all_append (λ (x : MsgLine). nat_le (3 + class_rank x.class) (3 + class_rank m.class)) d.messages m b.ranked
            (le-leb (3 + class_rank m.class) (3 + class_rank m.class) (omega arith));
      },
    )

-- a core line goes after the others
core_step : (d : Draft) (n : ℕ) (c : CoreLine) → HasGrown d n 6 → c.line ≡ n → has_core d c ≡ true → pair_count c.form ≤ 38
    → nat_le 512 (rule_line_count d) ≡ false → HasGrown (record d { cores = d.cores ++ c ∷ [] }) (n + 1) 6
core_step d n c grew line known short room =
    let g = grew.0 in
    let b = grew.1 in
    let takes = b.no_takes (omega arith) in
    let rows = b.no_rows (omega arith) in (
      record {
        named = g.named;
        caches = g.caches;
        dirs = g.dirs;
        messages = g.messages;
        cores = all_append (has_core d) d.cores c g.cores known;
        short = all_append (λ (x : CoreLine). nat_le (pair_count x.form) 38) d.cores c g.short (le-leb (pair_count c.form) 38 short);
        takes = all_of_none _ d.takes takes;
        rows = all_of_none _ d.rows rows;
        few = omega (arith, one_more d.cores c, leb-false 512 (rule_line_count d) room);
        lines = lines_on n (line_numbers d) _ g.lines (core_last (numbers d) d c n line b);
      },
      record {
        no_dirs = λ h. absurd (omega (arith, h));
        no_messages = λ h. absurd (omega (arith, h));
        no_cores = λ h. absurd (omega (arith, h));
        no_takes = b.no_takes;
        no_rows = b.no_rows;
        ranked = b.ranked;
      },
    )

-- a take line goes after the others
take_step : (d : Draft) (n : ℕ) (t : TakeLine) → HasGrown d n 7 → t.line ≡ n → has_take d t ≡ true
    → nat_le 512 (rule_line_count d) ≡ false → HasGrown (record d { takes = d.takes ++ t ∷ [] }) (n + 1) 7
take_step d n t grew line known room =
    let g = grew.0 in
    let b = grew.1 in
    let rows = b.no_rows (omega arith) in (
      record {
        named = g.named;
        caches = g.caches;
        dirs = g.dirs;
        messages = g.messages;
        cores = g.cores;
        short = g.short;
        takes = all_append (has_take d) d.takes t g.takes known;
        rows = all_of_none _ d.rows rows;
        few = omega (arith, one_more d.takes t, leb-false 512 (rule_line_count d) room);
        lines = lines_on n (line_numbers d) _ g.lines (take_last (numbers d) d t n line b);
      },
      record {
        no_dirs = λ h. absurd (omega (arith, h));
        no_messages = λ h. absurd (omega (arith, h));
        no_cores = λ h. absurd (omega (arith, h));
        no_takes = λ h. absurd (omega (arith, h));
        no_rows = b.no_rows;
        ranked = b.ranked;
      },
    )

-- a row line goes after the others
row_step : (d : Draft) (n : ℕ) (r : RowLine) → HasGrown d n 8 → r.line ≡ n → has_row d r ≡ true
    → nat_le 512 (rule_line_count d) ≡ false → HasGrown (record d { rows = d.rows ++ r ∷ [] }) (n + 1) 8
row_step d n r grew line known room =
    let g = grew.0 in
    let b = grew.1 in (
      record {
        named = g.named;
        caches = g.caches;
        dirs = g.dirs;
        messages = g.messages;
        cores = g.cores;
        short = g.short;
        takes = g.takes;
        rows = all_append (has_row d) d.rows r g.rows known;
        few = omega (arith, one_more d.rows r, leb-false 512 (rule_line_count d) room);
        lines = lines_on n (line_numbers d) _ g.lines (row_last (numbers d) d r n line);
      },
      record {
        no_dirs = λ h. absurd (omega (arith, h));
        no_messages = λ h. absurd (omega (arith, h));
        no_cores = λ h. absurd (omega (arith, h));
        no_takes = λ h. absurd (omega (arith, h));
        no_rows = λ h. absurd (omega (arith, h));
        ranked = b.ranked;
      },
    )

-- as many words as two for each pair
pair_words : (ps : List (List ℕ × List ℕ)) → length (words_in ps) ≡ length ps + length ps
pair_words [] = refl
pair_words (p ∷ ps) = let more : length (words_in ps) ≡ length ps + length ps = pair_words ps in omega (arith, more)

-- a line of 80 words has 38 pairs at most
few_pairs : (shape : CoreShape) → suc (suc (suc (length (shape_words shape)))) ≤ 80 → shape_pairs shape ≤ 38
few_pairs (Hit next) h = omega arith
few_pairs (Ask request pairs) h = let long : suc (suc (suc (suc (length (words_in pairs))))) ≤ 80 = h in omega (arith, long, pair_words pairs)
few_pairs (Leave request) h = omega arith

-- an end line declares nothing
end_step : (d : Draft) (n : ℕ) → HasGrown d n 9 → HasGrown d (n + 1) 9
end_step d n grew =
    let g = grew.0 in (
      record {
        named = g.named;
        caches = g.caches;
        dirs = g.dirs;
        messages = g.messages;
        cores = g.cores;
        short = g.short;
        takes = g.takes;
        rows = g.rows;
        few = g.few;
        lines = lines_later n (line_numbers d) g.lines;
      },
      grew.1,
    )

-- a line that declares a message
message_line : (d : Draft) (n : ℕ) (name : List ℕ) (class : MsgClass) (more : Draft) → HasGrown d n (3 + class_rank class) → class_rank class ≤ 2
    → is_name name ≡ true → is_taken d (Message name class) ≡ false → is_full d (Message name class) ≡ false
    → with_line d n (Message name class) ≡ Some more → HasGrown more (n + 1) (3 + class_rank class)
message_line d n name class more grew rank named new room e =
    let t = or_parts (list_any (bytes_eq name) taken_names) (is_some (number_of (message_names d) name)) new in
    subst (λ (x : Draft). HasGrown x (n + 1) (3 + class_rank class)) (same_Some _ more e)
    (message_step d n (record { line = n; name = name; class = class }) grew rank refl named t.0 t.1 room)

-- a line that breaks no rule, and isn't the protocol line, goes after the others
line_step : (d : Draft) (n : ℕ) (l : Line) (more : Draft) → HasGrown d n (rank_of (kind_of l)) → is_protocol (kind_of l) ≡ false → IsWellNamed l
    → is_taken d l ≡ false → is_full d l ≡ false → length (spelling l) ≤ 80 → with_line d n l ≡ Some more → HasGrown more (n + 1) (rank_of (kind_of l))
line_step d n (Protocol name) more grew other named new room short e = absurd cc
line_step d n (Cache name role perm clean) more grew other named new room short e =
    subst (λ (x : Draft). HasGrown x (n + 1) 1) (same_Some _ more e)
    (cache_step d n (record { line = n; name = name; role = role; perm = perm; clean = clean }) grew refl named new room)
line_step d n (Dir name kind beside) more grew other named new room short e =
    option_map-some _ (states_of d beside) more e (λ states are_states is_more.
    let t = states_found d beside states are_states in
    let words : suc (suc (suc (length beside))) ≤ 80 = short in
    subst (λ (x : Draft). HasGrown x (n + 1) 2) is_more
    (dir_step d n (record { line = n; name = name; kind = kind; beside = states }) grew refl named.0 new room t.0 (omega (arith, words, t.1))))
line_step d n (Message name (Request class)) more grew other named new room short e =
    message_line d n name (Request class) more grew (omega arith) named new room e
line_step d n (Message name (Forward class)) more grew other named new room short e =
    message_line d n name (Forward class) more grew (omega arith) named new room e
line_step d n (Message name Reply) more grew other named new room short e =
    message_line d n name Reply more grew (omega arith) named new room e
line_step d n (Core state event shape) more grew other named new room short e =
    option_map-some _ (core_of d n state event shape) more e (λ c is_core is_more.
    let t = core_found d n state event shape c named.1 is_core in
    subst (λ (x : Draft). HasGrown x (n + 1) 6) is_more (core_step d n c grew t.1 t.0 (omega (arith, few_pairs shape short, t.2)) room))
line_step d n (Take state forward reply next) more grew other named new room short e =
    option_map-some _ (take_of d n state forward reply next) more e (λ t is_take is_more.
    let k = take_found d n state forward reply next t is_take in
    subst (λ (x : Draft). HasGrown x (n + 1) 7) is_more (take_step d n t grew k.1 k.0 room))
line_step d n (Row dir shape next) more grew other named new room short e =
    option_map-some _ (row_of d n dir shape next) more e (λ r is_row is_more.
    let k = row_found d n dir shape next r named.1 is_row in
    subst (λ (x : Draft). HasGrown x (n + 1) 8) is_more (row_step d n r grew k.1 k.0 room))
line_step d n End more grew other named new room short e = subst (λ (x : Draft). HasGrown x (n + 1) 9) (same_Some d more e) (end_step d n grew)

-- the protocol line begins the draft
protocol_step : (name : List ℕ) → is_name name ≡ true → HasGrown (record no_draft { line = 1; name = name }) 2 0
protocol_step name named = (
  record {
    named = named;
    caches = record { named = refl; distinct = refl; few = omega arith };
    dirs = record { named = refl; distinct = refl; few = omega arith; known = refl; short = refl };
    messages = record { named = refl; distinct = refl; free = refl; few = omega arith; ordered = refl };
    cores = refl;
    short = refl;
    takes = refl;
    rows = refl;
    few = omega arith;
    lines = record { rise = refl; below = refl };
  },
  record { no_dirs = λ h. refl; no_messages = λ h. refl; no_cores = λ h. refl; no_takes = λ h. refl; no_rows = λ h. refl; ranked = refl },
)

-- the first line is the protocol line
first_step : (l : Line) (more : Draft) → not (is_protocol (kind_of l)) ≡ false → IsWellNamed l → with_line no_draft 1 l ≡ Some more
    → HasGrown more 2 (rank_of (kind_of l))
first_step (Protocol name) more first named e = subst (λ (x : Draft). HasGrown x 2 0) (same_Some _ more e) (protocol_step name named)
first_step (Message name (Request class)) more first named e = absurd cc
first_step (Message name (Forward class)) more first named e = absurd cc
first_step (Message name Reply) more first named e = absurd cc
first_step _ more first named e = absurd cc

-- no line is above, or the lines above break no rule
abbrev pub IsAbove : LinesAbove → ℕ → Type 0
IsAbove above n = ((above ≡ no_lines_above) × (n ≡ 1)) ⊎ ((k : Kind) × (above.kind ≡ Some k) × (2 ≤ n) × HasGrown above.draft n (rank_of k))

-- a line in order is not the protocol line, and its kind comes no earlier than that just above
pub in_order : (n : ℕ) (a k : Kind) → 2 ≤ n → is_out_of_order n (Some a) k ≡ false → (is_protocol k ≡ false) × (rank_of a ≤ rank_of k)
in_order n a k h e = at (n == 1) refl e
  where
    at : (b : Bool) → (n == 1) ≡ b → cond b (not (is_protocol k)) (is_protocol k || nat_lt (rank_of k) (rank_of a)) ≡ false
        → (is_protocol k ≡ false) × (rank_of a ≤ rank_of k)
    at true f g = absurd (omega (arith, h, eqb-true n 1 f))
    at false f g = let t = or_parts (is_protocol k) _ g in (t.0, ltb-false (rank_of k) (rank_of a) t.1)

-- another line is not the first
later : (above : LinesAbove) (n : ℕ) → IsAbove above n → 2 ≤ n + 1
later above n (inl h) = omega (arith, h.1)
later above n (inr h) = omega (arith, h.2)

-- a line that was taken in below lines that break no rule breaks none
above_next : (above : LinesAbove) (n : ℕ) (line : List ℕ) (next : LinesAbove) (l : Line) → IsAbove above n → IsTakenIn above n line next l
    → HasGrown next.draft (n + 1) (rank_of (kind_of l))
above_next above n line next l (inl h) t =
    let spelled = line_of-some (words_of line) l t.is_line in
    let first : is_out_of_order 1 None (kind_of l) ≡ false = sym (λ i. is_out_of_order (h.1 i) (h.0 i).kind (kind_of l)) ∙ t.in_place in
    let begins : with_line no_draft 1 l ≡ Some next.draft = sym (λ i. with_line (h.0 i).draft (h.1 i) l) ∙ t.declares in
    subst (λ (k : ℕ). HasGrown next.draft (k + 1) (rank_of (kind_of l))) (sym h.1) (first_step l next.draft first spelled.1 begins)
above_next above n line next l (inr h) t =
    let spelled = line_of-some (words_of line) l t.is_line in
    let in_place : is_out_of_order n (Some h.0) (kind_of l) ≡ false = sym (ap (λ (o : Option Kind). is_out_of_order n o (kind_of l)) h.1) ∙ t.in_place in
    let order = in_order n h.0 (kind_of l) h.2 in_place in
    let words : length (spelling l) ≤ 80 = omega (arith, ap length spelled.0, ltb-false 80 (length (words_of line)) t.short) in
    let before = before_later above.draft (rank_of h.0) (rank_of (kind_of l)) order.1 h.3.1 in
    line_step above.draft n l next.draft (h.3.0, before) order.0 spelled.1 t.new t.room words t.declares

-- with that line, the lines above break no rule
pub above_later : (above : LinesAbove) (n : ℕ) (line : List ℕ) (next : LinesAbove) (l : Line) → IsAbove above n → IsTakenIn above n line next l
    → IsAbove next (n + 1)
above_later above n line next l a t = inr (kind_of l, t.is_kind, later above n a, above_next above n line next l a t)

-- the draft of lines that break no rule is well formed
lines_well_formed : (above : LinesAbove) (n : ℕ) (lines : List (List ℕ)) (p : Draft × ℕ) → IsAbove above n → read_lines above n lines ≡ Ok p
    → IsWellFormed p.0
lines_well_formed above n [] p a e = absurd cc
lines_well_formed above n (line ∷ lines) p a e =
    at (line_judgement above n line) (is_end_line line) refl e (λ next b. lines_well_formed next (n + 1) lines p b)
  where
    at : (j : Result LinesAbove Rule) (b : Bool) → line_judgement above n line ≡ j → read_on n b j lines (λ more. read_lines more (n + 1) lines) ≡ Ok p
        → ((next : LinesAbove) → IsAbove next (n + 1) → read_lines next (n + 1) lines ≡ Ok p → IsWellFormed p.0) → IsWellFormed p.0
    at (Err R) b j e behind = absurd cc
    at (Ok next) b j e behind = by b e (taken_in above n line next j)
      where
        by : (b : Bool) → read_on n b (Ok next) lines (λ more. read_lines more (n + 1) lines) ≡ Ok p
            → (l : Line) × IsTakenIn above n line next l → IsWellFormed p.0
        by true e t =
            let grew = above_next above n line next t.0 a t.1 in
            subst (λ (q : Draft × ℕ). IsWellFormed q.0) (same_ok _ p e) (grown_formed next.draft (n + 1) grew.0)
        by false e t = behind next (above_later above n line next t.0 a t.1) e

-- a text that is read gives a well-formed draft
pub read_well_formed : (bytes : List ℕ) (d : Draft) (place : ℕ) → reading bytes ≡ Ok (d, place) → IsWellFormed d
read_well_formed bytes d place e = at (read_lines no_lines_above 1 (lines_of bytes)) refl
  where
    at : (r : Result (Draft × ℕ) Fault) → read_lines no_lines_above 1 (lines_of bytes) ≡ r → IsWellFormed d
    at (Err g) h = let k : reading bytes ≡ Err g = rw h refl in absurd (cc (k, e))
    at (Ok p) h =
        let k : reading bytes ≡ Ok (p.0, place_after p.1 bytes) = rw h refl in
        let same : (p.0, place_after p.1 bytes) ≡ (d, place) = same_ok _ _ (sym k ∙ e) in
        subst IsWellFormed (ap (λ (q : Draft × ℕ). q.0) same) (lines_well_formed no_lines_above 1 (lines_of bytes) p (inl (refl, refl)) h)

-- the draft that a reader answered is well formed
pub answered_well_formed : (bytes : List ℕ) (r : Result (Draft × ℕ) TextError) → Gives r (reading bytes) → IfOk r (λ x. IsWellFormed x.0)
answered_well_formed bytes (Ok p) reads = read_well_formed bytes p.0 p.1 reads
answered_well_formed bytes (Err e) reads = tt
