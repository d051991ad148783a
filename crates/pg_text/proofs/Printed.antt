-- The text of a well-formed draft is read as that draft, with its lines numbered from 1, and is short.
use Rattle.std.proofs.Common.{◌≡◌, ℕ, ◌+◌, ◌*◌, ◌≤◌, Bool, true, false, List, [], ◌∷◌, ◌++◌, length, map, Result, Ok, Some, refl, ap, sym, ◌∙◌, arith, append_assoc, length-append}
use Rattle.std.specs.Prelude.{◌&&◌, nat_le}
use Rattle.std.specs.List.{join_with_byte, list_all}
use Rattle.std.proofs.lemmas.Bool.{and_parts, and_from, le-leb, leb-true}
use Rattle.std.proofs.lemmas.List.{length-map}
use Rattle.std.proofs.lemmas.List.Folds.{list_all-append}
use Rattle.pg_lines.specs.Lines.{line_text, text_of, place_after, is_plain, are_plain}
use Rattle.pg_lines.proofs.Written.{lines_written, place_written}
use Rattle.pg_perm.specs.declared.draft.Draft.{Draft}
use Rattle.pg_perm.specs.declared.draft.CacheLine.{CacheLine}
use Rattle.pg_perm.specs.declared.draft.DirLine.{DirLine}
use Rattle.pg_perm.specs.declared.draft.MsgLine.{MsgLine}
use Rattle.pg_perm.specs.declared.draft.CoreLine.{CoreLine}
use Rattle.pg_perm.specs.declared.draft.TakeLine.{TakeLine}
use Rattle.pg_perm.specs.declared.fault.Fault.{Fault}
use Rattle.pg_perm.specs.Drafts.{IsWellFormed}
use Rattle.pg_forms.specs.declared.line.Kind.{Kind}
use Rattle.pg_forms.specs.declared.line.Kind.TheVariants as kind
use Rattle.pg_forms.specs.declared.line.Line.{Line}
use Rattle.pg_forms.specs.declared.line.Line.TheVariants.{Protocol, End}
use Rattle.pg_drafting.specs.Numbering.{no_draft}
use Rattle.pg_text.specs.FormFaults.{no_lines_above}
use Rattle.pg_forms.specs.Forms.{spelling}
use Rattle.pg_forms.specs.Kinds.{rank_of}
use Rattle.pg_text.specs.Printing.{numbered_elements, cache_line_of, dir_line_of, message_line_of, core_line_of, take_line_of, row_line_of, lines_in, draft_text, renumbered_draft}
use Rattle.pg_text.specs.Texts.{read_lines, reading_with_place, reading}
use Rattle.pg_text.proofs.Plain.{is_word, are_words, spelling_words}
use Rattle.pg_text.proofs.Parts.{WellFormedParts, well_formed_parts}
use Rattle.pg_text.proofs.ReadAgain.{written_line, words_plain, IsAdded, read_written, read_each, in_order, ranked_alike, ranked_messages}
use Rattle.pg_text.proofs.Adding.{cache_at, dir_at, message_at, core_at, take_at, row_at, draft_of_parts}
use Rattle.pg_text.proofs.Adding.{caches_added, dirs_added, messages_added, cores_added, takes_added, rows_added}

-- the numbers of the first line of each kind
abbrev dirs_from : Draft → ℕ
dirs_from d = 2 + length d.caches

abbrev messages_from : Draft → ℕ
messages_from d = dirs_from d + length d.dirs

abbrev cores_from : Draft → ℕ
cores_from d = messages_from d + length d.messages

abbrev takes_from : Draft → ℕ
takes_from d = cores_from d + length d.cores

abbrev rows_from : Draft → ℕ
rows_from d = takes_from d + length d.takes

-- the lines with the numbers that they have in the text
abbrev caches_in : Draft → List CacheLine
caches_in d = numbered_elements cache_at 2 d.caches

abbrev dirs_in : Draft → List DirLine
dirs_in d = numbered_elements dir_at (dirs_from d) d.dirs

abbrev messages_in : Draft → List MsgLine
messages_in d = numbered_elements message_at (messages_from d) d.messages

abbrev cores_in : Draft → List CoreLine
cores_in d = numbered_elements core_at (cores_from d) d.cores

abbrev takes_in : Draft → List TakeLine
takes_in d = numbered_elements take_at (takes_from d) d.takes

-- the lines from the first of each kind on
abbrev row_lines_on : Draft → List Line
row_lines_on d = map (row_line_of d) d.rows ++ End ∷ []

abbrev take_lines_on : Draft → List Line
take_lines_on d = map (take_line_of d) d.takes ++ row_lines_on d

abbrev core_lines_on : Draft → List Line
core_lines_on d = map (core_line_of d) d.cores ++ take_lines_on d

abbrev message_lines_on : Draft → List Line
message_lines_on d = map message_line_of d.messages ++ core_lines_on d

abbrev dir_lines_on : Draft → List Line
dir_lines_on d = map (dir_line_of d) d.dirs ++ message_lines_on d

abbrev cache_lines_on : Draft → List Line
cache_lines_on d = map cache_line_of d.caches ++ dir_lines_on d

-- lists in a row, grouped from the right
regrouped : (a b c e f g h : List Line) → a ++ b ++ c ++ e ++ f ++ g ++ h ≡ a ++ (b ++ (c ++ (e ++ (f ++ (g ++ h)))))
regrouped a b c e f g h =
    append_assoc (a ++ b ++ c ++ e ++ f) g h ∙ append_assoc (a ++ b ++ c ++ e) f (g ++ h) ∙ append_assoc (a ++ b ++ c) e (f ++ (g ++ h))
    ∙ append_assoc (a ++ b) c (e ++ (f ++ (g ++ h))) ∙ append_assoc a b (c ++ (e ++ (f ++ (g ++ h))))

-- the lines of a draft, grouped so
lines_grouped : (d : Draft) → lines_in d ≡ Protocol d.name ∷ cache_lines_on d
lines_grouped d =
    ap (λ (ls : List Line). Protocol d.name ∷ ls)
    (regrouped (map cache_line_of d.caches) (map (dir_line_of d) d.dirs) (map message_line_of d.messages) (map (core_line_of d) d.cores)
    (map (take_line_of d) d.takes) (map (row_line_of d) d.rows) (End ∷ []))

-- what reading the text answers
abbrev answer : Draft → Result (Draft × ℕ) Fault
answer d = Ok (renumbered_draft d, rows_from d + length d.rows)

-- the end line adds nothing
end_added : (e : Draft) (n : ℕ) → IsAdded e n End true e
end_added e n = record { named = tt; short = omega arith; ended = refl; new = refl; adds = refl; room = refl }

-- after all others, reading ends with the end line
read_end : (e : Draft) (k : Kind) (n : ℕ) → 2 ≤ n → rank_of k ≤ 8 → read_lines (record { kind = Some k; draft = e }) n (map written_line (End ∷ [])) ≡ Ok (e, n)
read_end e k n far ranked =
    read_written (record { kind = Some k; draft = e }) n End true e [] (in_order n k kind.End far refl (omega (arith, ranked))) (end_added e n)

-- reading from the first row line on
read_rows : (d : Draft) → WellFormedParts d → (k : Kind) (n : ℕ) → rank_of k ≤ 7 → n ≡ rows_from d
    → read_lines (record { kind = Some k; draft = draft_of_parts d (caches_in d) (dirs_in d) (messages_in d) (cores_in d) (takes_in d) [] }) n (map written_line (row_lines_on d))
    ≡ answer d
read_rows d w k n ranked is_n =
    read_each (draft_of_parts d (caches_in d) (dirs_in d) (messages_in d) (cores_in d) (takes_in d)) (row_line_of d) row_at (rows_from d) d.rows 8 (End ∷ [])
    (answer d) (omega arith)
    (rows_added d 2 (dirs_from d) (messages_from d) (cores_from d) (takes_from d) (rows_from d) w)
    (λ j m below is_m. read_end (renumbered_draft d) j m (omega (arith, is_m)) below ∙ ap (λ (i : ℕ). Ok (renumbered_draft d, i)) is_m)
    [] d.rows k n refl (omega (arith, is_n)) (ranked_alike (row_line_of d) 8 d.rows (rank_of k) (λ x. refl) (omega (arith, ranked)))

-- from the first take line on
read_takes : (d : Draft) → WellFormedParts d → (k : Kind) (n : ℕ) → rank_of k ≤ 6 → n ≡ takes_from d
    → read_lines (record { kind = Some k; draft = draft_of_parts d (caches_in d) (dirs_in d) (messages_in d) (cores_in d) [] [] }) n (map written_line (take_lines_on d))
    ≡ answer d
read_takes d w k n ranked is_n =
    read_each (λ ts. draft_of_parts d (caches_in d) (dirs_in d) (messages_in d) (cores_in d) ts []) (take_line_of d) take_at (takes_from d) d.takes 7
    (row_lines_on d) (answer d) (omega arith)
    (takes_added d 2 (dirs_from d) (messages_from d) (cores_from d) (takes_from d) w)
    (λ j m below is_m. read_rows d w j m below is_m)
    [] d.takes k n refl (omega (arith, is_n)) (ranked_alike (take_line_of d) 7 d.takes (rank_of k) (λ x. refl) (omega (arith, ranked)))

-- from the first core line on
read_cores : (d : Draft) → WellFormedParts d → (k : Kind) (n : ℕ) → rank_of k ≤ 5 → n ≡ cores_from d
    → read_lines (record { kind = Some k; draft = draft_of_parts d (caches_in d) (dirs_in d) (messages_in d) [] [] [] }) n (map written_line (core_lines_on d)) ≡ answer d
read_cores d w k n ranked is_n =
    read_each (λ ks. draft_of_parts d (caches_in d) (dirs_in d) (messages_in d) ks [] []) (core_line_of d) core_at (cores_from d) d.cores 6
    (take_lines_on d) (answer d) (omega arith)
    (cores_added d 2 (dirs_from d) (messages_from d) (cores_from d) w)
    (λ j m below is_m. read_takes d w j m below is_m)
    [] d.cores k n refl (omega (arith, is_n)) (ranked_alike (core_line_of d) 6 d.cores (rank_of k) (λ x. refl) (omega (arith, ranked)))

-- from the first request, forward or reply line on
read_messages : (d : Draft) → IsWellFormed d → (k : Kind) (n : ℕ) → rank_of k ≤ 2 → n ≡ messages_from d
    → read_lines (record { kind = Some k; draft = draft_of_parts d (caches_in d) (dirs_in d) [] [] [] [] }) n (map written_line (message_lines_on d)) ≡ answer d
read_messages d w k n ranked is_n =
    read_each (λ ms. draft_of_parts d (caches_in d) (dirs_in d) ms [] [] []) message_line_of message_at (messages_from d) d.messages 5
    (core_lines_on d) (answer d) (omega arith)
    (messages_added d (messages_from d) (caches_in d) (dirs_in d) (well_formed_parts d w))
    (λ j m below is_m. read_cores d (well_formed_parts d w) j m below is_m)
    [] d.messages k n refl (omega (arith, is_n)) (ranked_messages d.messages (rank_of k) (omega (arith, ranked)) w.classes)

-- from the first dir line on
read_dirs : (d : Draft) → IsWellFormed d → (k : Kind) (n : ℕ) → rank_of k ≤ 1 → n ≡ dirs_from d
    → read_lines (record { kind = Some k; draft = draft_of_parts d (caches_in d) [] [] [] [] [] }) n (map written_line (dir_lines_on d)) ≡ answer d
read_dirs d w k n ranked is_n =
    read_each (λ ss. draft_of_parts d (caches_in d) ss [] [] [] []) (dir_line_of d) dir_at (dirs_from d) d.dirs 2
    (message_lines_on d) (answer d) (omega arith)
    (dirs_added d 2 (dirs_from d) (well_formed_parts d w))
    (λ j m below is_m. read_messages d w j m below is_m)
    [] d.dirs k n refl (omega (arith, is_n)) (ranked_alike (dir_line_of d) 2 d.dirs (rank_of k) (λ x. refl) (omega (arith, ranked)))

-- from the first cache line on
read_caches : (d : Draft) → IsWellFormed d
    → read_lines (record { kind = Some kind.Protocol; draft = draft_of_parts d [] [] [] [] [] [] }) 2 (map written_line (cache_lines_on d)) ≡ answer d
read_caches d w =
    read_each (λ cs. draft_of_parts d cs [] [] [] [] []) cache_line_of cache_at 2 d.caches 1 (dir_lines_on d) (answer d) (omega arith)
    (caches_added d 2 (well_formed_parts d w))
    (λ j m below is_m. read_dirs d w j m below is_m)
    [] d.caches kind.Protocol 2 refl (omega arith) (ranked_alike cache_line_of 1 d.caches 0 (λ x. refl) (omega arith))

-- the protocol line gives the draft its name
protocol_added : (d : Draft) → WellFormedParts d → IsAdded no_draft 1 (Protocol d.name) false (draft_of_parts d [] [] [] [] [] [])
protocol_added d w = record { named = w.names.protocol; short = omega arith; ended = refl; new = refl; adds = refl; room = refl }

-- the lines of the text are read as the draft, and the end line is the last
read_all : (d : Draft) → IsWellFormed d → read_lines no_lines_above 1 (map written_line (lines_in d)) ≡ answer d
read_all d w =
    ap (λ (ls : List Line). read_lines no_lines_above 1 (map written_line ls)) (lines_grouped d)
    ∙ read_written no_lines_above 1 (Protocol d.name) false (draft_of_parts d [] [] [] [] [] []) (map written_line (cache_lines_on d)) refl (protocol_added d (well_formed_parts d w))
    ∙ read_caches d w

-- a line of at most 80 words that may be written
abbrev is_writable : Line → Bool
is_writable l = are_words (spelling l) && nat_le (length (spelling l)) 80

-- a line that may be added may be written
writable : (e : Draft) (n : ℕ) (l : Line) (is_last : Bool) (more : Draft) → IsAdded e n l is_last more → is_writable l ≡ true
writable e n l is_last more added =
    and_from (are_words (spelling l)) (nat_le (length (spelling l)) 80) (spelling_words l added.named) (le-leb (length (spelling l)) 80 added.short)

-- where the line of each element may be written, all may be
each_writable : {A : Type 0} (line : A → Line) (xs : List A) → ((front : List A) (x : A) (rest : List A) → xs ≡ front ++ x ∷ rest → is_writable (line x) ≡ true)
    → (front rest : List A) → xs ≡ front ++ rest → list_all is_writable (map line rest) ≡ true
each_writable line xs each front [] split = refl
each_writable line xs each front (x ∷ rest) split =
    and_from (is_writable (line x)) (list_all is_writable (map line rest)) (each front x rest split)
    (each_writable line xs each (front ++ x ∷ []) rest (split ∙ sym (append_assoc front (x ∷ []) rest)))

-- lines in a row
both_writable : (ls ms : List Line) → list_all is_writable ls ≡ true → list_all is_writable ms ≡ true → list_all is_writable (ls ++ ms) ≡ true
both_writable ls ms h g = list_all-append is_writable ls ms ∙ and_from (list_all is_writable ls) (list_all is_writable ms) h g

-- each line of the text may be written
all_writable : (d : Draft) → WellFormedParts d → list_all is_writable (lines_in d) ≡ true
all_writable d w =
    let caches : List Line = map cache_line_of d.caches in
    let dirs : List Line = map (dir_line_of d) d.dirs in
    let messages : List Line = map message_line_of d.messages in
    let cores : List Line = map (core_line_of d) d.cores in
    let takes : List Line = map (take_line_of d) d.takes in
    let rows : List Line = map (row_line_of d) d.rows in
    let first = writable no_draft 1 (Protocol d.name) false (draft_of_parts d [] [] [] [] [] []) (protocol_added d w) in
    let second = each_writable cache_line_of d.caches
    (λ front x rest split. writable _ _ _ _ _ (caches_added d 0 w front x rest 0 split).0) [] d.caches refl in
    let third = each_writable (dir_line_of d) d.dirs
    (λ front x rest split. writable _ _ _ _ _ (dirs_added d 0 0 w front x rest 0 split).0) [] d.dirs refl in
    let fourth = each_writable message_line_of d.messages
    (λ front x rest split. writable _ _ _ _ _ (messages_added d 0 [] [] w front x rest 0 split).0) [] d.messages refl in
    let fifth = each_writable (core_line_of d) d.cores
    (λ front x rest split. writable _ _ _ _ _ (cores_added d 0 0 0 0 w front x rest 0 split).0) [] d.cores refl in
    let sixth = each_writable (take_line_of d) d.takes
    (λ front x rest split. writable _ _ _ _ _ (takes_added d 0 0 0 0 0 w front x rest 0 split).0) [] d.takes refl in
    let seventh = each_writable (row_line_of d) d.rows
    (λ front x rest split. writable _ _ _ _ _ (rows_added d 0 0 0 0 0 0 w front x rest 0 split).0) [] d.rows refl in
    and_from (is_writable (Protocol d.name)) (list_all is_writable (caches ++ dirs ++ messages ++ cores ++ takes ++ rows ++ End ∷ [])) first
    (both_writable (caches ++ dirs ++ messages ++ cores ++ takes ++ rows) (End ∷ [])
    (both_writable (caches ++ dirs ++ messages ++ cores ++ takes) rows
    (both_writable (caches ++ dirs ++ messages ++ cores) takes
    (both_writable (caches ++ dirs ++ messages) cores
    (both_writable (caches ++ dirs) messages (both_writable caches dirs second third) fourth) fifth) sixth) seventh) refl)

-- the words of such lines are plain
all_plain : (ls : List Line) → list_all is_writable ls ≡ true → list_all are_plain (map spelling ls) ≡ true
all_plain [] h = refl
all_plain (l ∷ ls) h =
    let parts = and_parts (is_writable l) (list_all is_writable ls) h in
    let words = (and_parts (are_words (spelling l)) (nat_le (length (spelling l)) 80) parts.0).0 in
    and_from (are_plain (spelling l)) (list_all are_plain (map spelling ls)) (words_plain (spelling l) words) (all_plain ls parts.1)

-- the lines as they stand in the text
map_written : (ls : List Line) → map (join_with_byte 32) (map spelling ls) ≡ map written_line ls
map_written [] = refl
map_written (l ∷ ls) = ap (λ (lines : List (List ℕ)). written_line l ∷ lines) (map_written ls)

-- how many elements lists in a row have
length_seven : (a b c e f g h : List Line)
    → length (a ++ b ++ c ++ e ++ f ++ g ++ h) ≡ length a + length b + length c + length e + length f + length g + length h
length_seven a b c e f g h =
    omega (
      arith,
      length-append (a ++ b ++ c ++ e ++ f ++ g) h,
      length-append (a ++ b ++ c ++ e ++ f) g,
      length-append (a ++ b ++ c ++ e) f,
      length-append (a ++ b ++ c) e,
      length-append (a ++ b) c,
      length-append a b,
    )

-- how many lines there are: the end line is the last
length_lines : (d : Draft) → length (lines_in d) ≡ rows_from d + length d.rows
length_lines d =
    omega (
      arith,
      length_seven (map cache_line_of d.caches) (map (dir_line_of d) d.dirs) (map message_line_of d.messages) (map (core_line_of d) d.cores)
          (map (take_line_of d) d.takes) (map (row_line_of d) d.rows) (End ∷ []),
      length-map d.caches cache_line_of,
      length-map d.dirs (dir_line_of d),
      length-map d.messages message_line_of,
      length-map d.cores (core_line_of d),
      length-map d.takes (take_line_of d),
      length-map d.rows (row_line_of d),
    )

-- the text of a well-formed draft is read as that draft, to its end
pub printed_reads : (d : Draft) → IsWellFormed d → reading (draft_text d) ≡ Ok (renumbered_draft d, length (draft_text d))
printed_reads d w =
    let lines : List (List (List ℕ)) = map spelling (lines_in d) in
    let plain : list_all are_plain lines ≡ true = all_plain (lines_in d) (all_writable d (well_formed_parts d w)) in
    let last : rows_from d + length d.rows ≡ length lines = sym (length-map (lines_in d) spelling ∙ length_lines d) in
    ap (λ (ls : List (List ℕ)). reading_with_place (text_of lines) (read_lines no_lines_above 1 ls)) (lines_written lines plain ∙ map_written (lines_in d))
    ∙ ap (reading_with_place (text_of lines)) (read_all d w)
    ∙ ap (λ (n : ℕ). Ok (renumbered_draft d, place_after n (text_of lines))) last
    ∙ ap (λ (n : ℕ). Ok (renumbered_draft d, n)) (place_written lines plain)

-- words that may be written take 25 bytes each, with those between them
line_short : (ws : List (List ℕ)) → are_words ws ≡ true → length (join_with_byte 32 ws) ≤ 25 * length ws
line_short [] h = omega arith
line_short (w ∷ []) h =
    let word = and_parts (list_all is_plain w) (nat_le (length w) 24) (and_parts (is_word w) true h).0 in
    omega (arith, leb-true (length w) 24 word.1)
line_short (w ∷ v ∷ ws) h =
    let parts = and_parts (is_word w) (are_words (v ∷ ws)) h in
    let word = and_parts (list_all is_plain w) (nat_le (length w) 24) parts.0 in
    omega (arith, leb-true (length w) 24 word.1, length-append w (32 ∷ join_with_byte 32 (v ∷ ws)), line_short (v ∷ ws) parts.1)

-- lines that may be written take 2,001 bytes each at most
text_short : (ls : List Line) → list_all is_writable ls ≡ true → length (text_of (map spelling ls)) ≤ 2001 * length ls
text_short [] h = omega arith
text_short (l ∷ ls) h =
    let parts = and_parts (is_writable l) (list_all is_writable ls) h in
    let line = and_parts (are_words (spelling l)) (nat_le (length (spelling l)) 80) parts.0 in
    omega (
      arith,
      line_short (spelling l) line.0,
      leb-true (length (spelling l)) 80 line.1,
      length-append (line_text (spelling l)) (text_of (map spelling ls)),
      length-append (join_with_byte 32 (spelling l)) (10 ∷ []),
      text_short ls parts.1,
    )

-- the text of a well-formed draft is short: it has 578 lines at most
pub printed_short : (d : Draft) → IsWellFormed d → length (draft_text d) ≤ 1300000
printed_short d w =
    let k = well_formed_parts d w in
    omega (
      arith,
      text_short (lines_in d) (all_writable d k),
      length_lines d,
      k.limits.caches,
      k.limits.dirs,
      k.limits.messages,
      k.limits.rules,
    )

-- the same of the bytes that are the text
pub bytes_read : (d : Draft) (bytes : List ℕ) → IsWellFormed d → bytes ≡ draft_text d → reading bytes ≡ Ok (renumbered_draft d, length bytes)
bytes_read d bytes w e = ap reading e ∙ printed_reads d w ∙ ap (λ (text : List ℕ). Ok (renumbered_draft d, length text)) (sym e)

pub bytes_short : (d : Draft) (bytes : List ℕ) → IsWellFormed d → bytes ≡ draft_text d → length bytes ≤ 1300000
bytes_short d bytes w e = omega (arith, ap length e, printed_short d w)
