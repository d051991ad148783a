-- The lines that were read are, word for word, those of the draft.
use Rattle.std.proofs.Common.{◌≡◌, ℕ, suc, ◌+◌, Bool, true, false, List, [], ◌∷◌, ◌++◌, map, take, slice_get}
use Rattle.std.proofs.Common.{Option, Some, None, Result, Ok, Err, refl, sym, ap, subst, ◌∙◌, arith, append_assoc, inl, inr}
use Rattle.std.specs.Prelude.{not, codes, unwrap_or}
use Rattle.std.specs.Option.{option_map, option_map_or}
use Rattle.std.proofs.lemmas.Option.{same_Some, cond_some}
use Rattle.pg_names.specs.Number.{number_of}
use Rattle.pg_names.proofs.Numbers.{slice_get-number_of}
use Rattle.pg_perm.specs.declared.fault.Fault.{Fault}
use Rattle.pg_perm.specs.declared.fault.Rule.{Rule}
use Rattle.pg_perm.specs.declared.draft.Draft.{Draft}
use Rattle.pg_perm.specs.declared.draft.CacheLine.{CacheLine}
use Rattle.pg_perm.specs.declared.draft.DirLine.{DirLine}
use Rattle.pg_perm.specs.declared.draft.MsgLine.{MsgLine}
use Rattle.pg_perm.specs.declared.draft.CoreLine.{CoreLine}
use Rattle.pg_perm.specs.declared.draft.TakeLine.{TakeLine}
use Rattle.pg_perm.specs.declared.draft.RowLine.{RowLine}
use Rattle.pg_perm.specs.declared.draft.Pair.{Pair}
use Rattle.pg_perm.specs.declared.draft.ReplyName.{ReplyName}
use Rattle.pg_perm.specs.declared.draft.ReplyName.TheVariants as reply
use Rattle.pg_perm.specs.declared.draft.CoreForm.{CoreForm}
use Rattle.pg_perm.specs.declared.draft.RowForm.{RowForm}
use Rattle.pg_perm.specs.declared.draft.Action.{Action}
use Rattle.pg_perm.specs.declared.draft.MsgClass.{MsgClass}
use Rattle.pg_perm.specs.declared.draft.MsgClass.TheVariants.{Request, Forward, Reply}
use Rattle.pg_perm.specs.declared.kinds.Event.{Event}
use Rattle.pg_perm.specs.Classes.{is_request, is_forward, is_reply}
use Rattle.pg_perm.specs.Drafts.{cache_names, dir_names, message_names}
use Rattle.pg_perm.specs.Words.{name_of, cache_name, message_name}
use Rattle.pg_forms.specs.declared.line.Kind.{Kind}
use Rattle.pg_forms.specs.declared.line.Line.{Line}
use Rattle.pg_forms.specs.declared.line.Line.TheVariants.{Protocol, Cache, Dir, Message, Core, Take, Row, End}
use Rattle.pg_forms.specs.declared.line.CoreShape.{CoreShape}
use Rattle.pg_forms.specs.declared.line.CoreShape.TheVariants.{Hit, Ask, Leave}
use Rattle.pg_forms.specs.declared.line.RowShape.{RowShape}
use Rattle.pg_forms.specs.declared.line.RowShape.TheVariants as row
use Rattle.pg_lines.specs.Lines.{lines_of, words_of, place_after}
use Rattle.pg_forms.specs.Kinds.{rank_of, is_protocol, is_end, kind_of}
use Rattle.pg_forms.specs.Forms.{spelling}
use Rattle.pg_drafting.specs.Numbering.{no_draft, cache_number, dir_number, message_number, reply_name, pair_of, pairs_of, core_form, core_of, states_of}
use Rattle.pg_drafting.specs.Numbering.{take_reply, take_of, action_by_class, action_of, row_form, row_of, with_line}
use Rattle.pg_text.specs.FormFaults.{LinesAbove, no_lines_above, is_out_of_order, is_end_line}
use Rattle.pg_text.specs.Texts.{line_judgement, read_lines, reading}
use Rattle.pg_text.proofs.Judging.{read_on}
use Rattle.pg_text.specs.Printing.{reply_word, pair_words, core_shape, action_word, row_shape_of}
use Rattle.pg_text.specs.Printing.{cache_line_of, dir_line_of, message_line_of, core_line_of, take_line_of, row_line_of, lines_in}
use Rattle.pg_forms.proofs.Options.{then_some, word_test_some, option_map-some, same_ok}
use Rattle.pg_forms.proofs.Spellings.{line_of-some}
use Rattle.pg_text.proofs.Growing.{map_append}
use Rattle.pg_text.proofs.Listed.{Listing, IsBefore, before_later, listed, cache_last, dir_last, message_last, core_last, take_last, row_last}
use Rattle.pg_text.proofs.TakenIn.{IsTakenIn, taken_in}
use Rattle.pg_text.proofs.WellFormed.{IsAbove, in_order, above_later}

-- the name with the number of a word is that word
name_back : (names : List (List ℕ)) (w : List ℕ) (n : ℕ) → number_of names w ≡ Some n → name_of names n ≡ w
name_back names w n e = ap (λ (o : Option (List ℕ)). unwrap_or o []) (slice_get-number_of names w n e)

-- the same of a message
message_back : (is_class : MsgClass → Bool) (d : Draft) (w : List ℕ) (m : ℕ) → message_number is_class d w ≡ Some m → message_name d m ≡ w
unfolding message_number
message_back is_class d w m e =
    then_some (number_of (message_names d) w) _ m e (λ n is_n e.
    then_some (slice_get d.messages n) _ m e (λ x is_x e.
    subst (λ (k : ℕ). message_name d k ≡ w) (cond_some (is_class x.class) n m e).1 (name_back (message_names d) w n is_n)))

-- the same of the reply of a pair
reply_back : (d : Draft) (w : List ℕ) (r : ReplyName) → reply_name d w ≡ Some r → reply_word d r ≡ w
reply_back d w r =
    word_test_some (λ r. reply_word d r ≡ w) w (codes "AckCount") _ _ r (λ h e. subst (λ r. reply_word d r ≡ w) (same_Some _ _ e) (sym h))
    (λ e. option_map-some reply.Reply (message_number is_reply d w) r e (λ m is_m f. subst (λ r. reply_word d r ≡ w) f (message_back is_reply d w m is_m)))

-- the same of a pair
pair_back : (d : Draft) (r f : List ℕ) (p : Pair) → pair_of d r f ≡ Some p → pair_words d p ≡ (r, f)
unfolding pair_of
pair_back d r f p e =
    then_some (reply_name d r) _ p e (λ reply is_reply e.
    then_some (cache_number d f) _ p e (λ fin is_fin e.
    subst (λ p. pair_words d p ≡ (r, f)) (same_Some _ p e)
    (λ i. (reply_back d r reply is_reply i, name_back (cache_names d) f fin is_fin i))))

-- the same of pairs
pairs_back : (d : Draft) (ps : List (List ℕ × List ℕ)) (qs : List Pair) → pairs_of d ps ≡ Some qs → map (pair_words d) qs ≡ ps
pairs_back d [] qs e = subst (λ qs. map (pair_words d) qs ≡ []) (same_Some [] qs e) refl
pairs_back d (p ∷ ps) qs e =
    then_some (pair_of d p.0 p.1) _ qs e (λ pair is_pair e.
    then_some (pairs_of d ps) _ qs e (λ more is_more e.
    subst (λ qs. map (pair_words d) qs ≡ p ∷ ps) (same_Some _ qs e)
    (λ i. pair_back d p.0 p.1 pair is_pair i ∷ pairs_back d ps more is_more i)))

-- the same of the states of a dir line
states_back : (d : Draft) (ws : List (List ℕ)) (states : List ℕ) → states_of d ws ≡ Some states → map (cache_name d) states ≡ ws
states_back d [] states e = subst (λ states. map (cache_name d) states ≡ []) (same_Some [] states e) refl
states_back d (w ∷ ws) states e =
    then_some (cache_number d w) _ states e (λ state is_state e.
    then_some (states_of d ws) _ states e (λ more is_more e.
    subst (λ states. map (cache_name d) states ≡ w ∷ ws) (same_Some _ states e)
    (λ i. name_back (cache_names d) w state is_state i ∷ states_back d ws more is_more i)))

-- the same of what stands after an event
form_back : (d : Draft) (shape : CoreShape) (f : CoreForm) → core_form d shape ≡ Some f → core_shape d f ≡ shape
unfolding core_form
form_back d (Hit None) f e = subst (λ f. core_shape d f ≡ Hit None) (same_Some _ f e) refl
form_back d (Hit (Some w)) f e =
    then_some (cache_number d w) _ f e (λ next is_next e.
    subst (λ f. core_shape d f ≡ Hit (Some w)) (same_Some _ f e)
    (ap (λ (v : List ℕ). Hit (Some v)) (name_back (cache_names d) w next is_next)))
form_back d (Ask w ps) f e =
    then_some (message_number is_request d w) _ f e (λ request is_request_of e.
    then_some (pairs_of d ps) _ f e (λ pairs are_pairs e.
    subst (λ f. core_shape d f ≡ Ask w ps) (same_Some _ f e)
    (λ i. Ask (message_back is_request d w request is_request_of i) (pairs_back d ps pairs are_pairs i))))
form_back d (Leave w) f e =
    then_some (message_number is_request d w) _ f e (λ request is_request_of e.
    subst (λ f. core_shape d f ≡ Leave w) (same_Some _ f e) (ap Leave (message_back is_request d w request is_request_of)))

-- a core line in numbers is that line
core_back : (d : Draft) (n : ℕ) (w : List ℕ) (event : Event) (shape : CoreShape) (c : CoreLine) → core_of d n w event shape ≡ Some c
    → core_line_of d c ≡ Core w event shape
unfolding core_of
core_back d n w event shape c e =
    then_some (cache_number d w) _ c e (λ state is_state e.
    then_some (core_form d shape) _ c e (λ f is_form e.
    subst (λ (c : CoreLine). core_line_of d c ≡ Core w event shape) (same_Some _ c e)
    (λ i. Core (name_back (cache_names d) w state is_state i) event (form_back d shape f is_form i))))

-- the reply of a take line
take_reply_back : (d : Draft) (o : Option (List ℕ)) (r : Option ℕ) → take_reply d o ≡ Some r → option_map (message_name d) r ≡ o
unfolding take_reply
take_reply_back d None r e = subst (λ r. option_map (message_name d) r ≡ None) (same_Some None r e) refl
take_reply_back d (Some w) r e =
    then_some (message_number is_reply d w) _ r e (λ m is_m e.
    subst (λ r. option_map (message_name d) r ≡ Some w) (same_Some (Some m) r e) (ap Some (message_back is_reply d w m is_m)))

-- a take line in numbers is that line
take_back : (d : Draft) (n : ℕ) (w f : List ℕ) (r : Option (List ℕ)) (x : List ℕ) (t : TakeLine) → take_of d n w f r x ≡ Some t
    → take_line_of d t ≡ Take w f r x
unfolding take_of
take_back d n w f r x t e =
    then_some (cache_number d w) _ t e (λ state is_state e.
    then_some (message_number is_forward d f) _ t e (λ forward is_forward_of e.
    then_some (take_reply d r) _ t e (λ reply is_reply_of e.
    then_some (cache_number d x) _ t e (λ next is_next e.
    subst (λ (t : TakeLine). take_line_of d t ≡ Take w f r x) (same_Some _ t e)
    (λ i. Take (name_back (cache_names d) w state is_state i) (message_back is_forward d f forward is_forward_of i) (take_reply_back d r reply is_reply_of i)
    (name_back (cache_names d) x next is_next i))))))

-- what a message does in a row is named as that message
by_class_back : (d : Draft) (w : List ℕ) (n : ℕ) (class : MsgClass) (a : Action) → message_name d n ≡ w → action_by_class n class ≡ Some a
    → action_word d a ≡ w
by_class_back d w n (Request class) a h e = absurd cc
by_class_back d w n (Forward class) a h e = subst (λ a. action_word d a ≡ w) (same_Some _ a e) h
by_class_back d w n Reply a h e = subst (λ a. action_word d a ≡ w) (same_Some _ a e) h

-- the action of a row
action_back : (d : Draft) (w : List ℕ) (a : Action) → action_of d w ≡ Some a → action_word d a ≡ w
unfolding action_of
action_back d w a =
    word_test_some (λ a. action_word d a ≡ w) w (codes "count") _ _ a (λ h e. subst (λ a. action_word d a ≡ w) (same_Some _ _ e) (sym h))
    (λ e. then_some (number_of (message_names d) w) _ a e (λ n is_n e.
    then_some (slice_get d.messages n) _ a e (λ x is_x e. by_class_back d w n x.class a (name_back (message_names d) w n is_n) e)))

-- what stands after the state of a row line
row_form_back : (d : Draft) (shape : RowShape) (f : RowForm) → row_form d shape ≡ Some f → row_shape_of d f ≡ shape
unfolding row_form
row_form_back d (row.Ask w sender a) f e =
    then_some (message_number is_request d w) _ f e (λ request is_request_of e.
    then_some (action_of d a) _ f e (λ act is_act e.
    subst (λ f. row_shape_of d f ≡ row.Ask w sender a) (same_Some _ f e)
    (λ i. row.Ask (message_back is_request d w request is_request_of i) sender (action_back d a act is_act i))))
row_form_back d (row.Evict sender others) f e = subst (λ f. row_shape_of d f ≡ row.Evict sender others) (same_Some _ f e) refl

-- a row line in numbers is that line
row_back : (d : Draft) (n : ℕ) (w : List ℕ) (shape : RowShape) (x : List ℕ) (r : RowLine) → row_of d n w shape x ≡ Some r
    → row_line_of d r ≡ Row w shape x
unfolding row_of
row_back d n w shape x r e =
    then_some (dir_number d w) _ r e (λ dir is_dir e.
    then_some (row_form d shape) _ r e (λ f is_form e.
    then_some (dir_number d x) _ r e (λ next is_next e.
    subst (λ (r : RowLine). row_line_of d r ≡ Row w shape x) (same_Some _ r e)
    (λ i. Row (name_back (dir_names d) w dir is_dir i) (row_form_back d shape f is_form i) (name_back (dir_names d) x next is_next i)))))

-- each line of a draft, with the words for its numbers
abbrev in_words : Draft → Listing Line
in_words d = record {
  first = Protocol d.name;
  cache = cache_line_of;
  dir = dir_line_of d;
  message = message_line_of;
  core = core_line_of d;
  take = take_line_of d;
  row = row_line_of d;
}

-- the lines of a draft without the end line
abbrev lines_above : Draft → List Line
lines_above d = listed (in_words d) d

-- nothing has the same images by each function
none_same : {A B : Type 0} (f g : A → B) (xs : List A) → xs ≡ [] → map f xs ≡ map g xs
none_same f g xs e = ap (map f) e ∙ sym (ap (map g) e)

-- a cache line goes after the others
cache_read : (d : Draft) (c : CacheLine) → IsBefore d 1 → lines_above (record d { caches = d.caches ++ c ∷ [] })
    ≡ lines_above d ++ cache_line_of c ∷ []
cache_read d c b =
    let more = record d { caches = d.caches ++ c ∷ [] } in
    let dirs = none_same (dir_line_of more) (dir_line_of d) d.dirs (b.no_dirs (omega arith)) in
    let cores = none_same (core_line_of more) (core_line_of d) d.cores (b.no_cores (omega arith)) in
    let takes = none_same (take_line_of more) (take_line_of d) d.takes (b.no_takes (omega arith)) in
    let rows = none_same (row_line_of more) (row_line_of d) d.rows (b.no_rows (omega arith)) in
    (λ i. Protocol d.name ∷ map cache_line_of (d.caches ++ c ∷ []) ++ dirs i ++ map message_line_of d.messages ++ cores i ++ takes i ++ rows i)
    ∙ cache_last (in_words d) d c _ refl b

-- a dir line goes after the others
dir_read : (d : Draft) (s : DirLine) (l : Line) → IsBefore d 2 → dir_line_of d s ≡ l
    → lines_above (record d { dirs = d.dirs ++ s ∷ [] }) ≡ lines_above d ++ l ∷ []
dir_read d s l b e =
    let more = record d { dirs = d.dirs ++ s ∷ [] } in
    let rows = none_same (row_line_of more) (row_line_of d) d.rows (b.no_rows (omega arith)) in
    (λ i. Protocol d.name ∷ map cache_line_of d.caches ++ map (dir_line_of d) (d.dirs ++ s ∷ []) ++ map message_line_of d.messages
    ++ map (core_line_of d) d.cores ++ map (take_line_of d) d.takes ++ rows i)
    ∙ dir_last (in_words d) d s l e b

-- a message line goes after the others
message_read : (d : Draft) (m : MsgLine) → IsBefore d 5 → lines_above (record d { messages = d.messages ++ m ∷ [] })
    ≡ lines_above d ++ message_line_of m ∷ []
message_read d m b =
    let more = record d { messages = d.messages ++ m ∷ [] } in
    let cores = none_same (core_line_of more) (core_line_of d) d.cores (b.no_cores (omega arith)) in
    let takes = none_same (take_line_of more) (take_line_of d) d.takes (b.no_takes (omega arith)) in
    let rows = none_same (row_line_of more) (row_line_of d) d.rows (b.no_rows (omega arith)) in
    (λ i. Protocol d.name ∷ map cache_line_of d.caches ++ map (dir_line_of d) d.dirs ++ map message_line_of (d.messages ++ m ∷ [])
    ++ cores i ++ takes i ++ rows i)
    ∙ message_last (in_words d) d m _ refl b

-- a line that is declared, and is neither the protocol line nor the end line, goes after the others
line_read : (d : Draft) (n : ℕ) (l : Line) (more : Draft) → IsBefore d (rank_of (kind_of l)) → is_protocol (kind_of l) ≡ false
    → is_end (kind_of l) ≡ false → with_line d n l ≡ Some more → lines_above more ≡ lines_above d ++ l ∷ []
line_read d n (Protocol name) more b other goes_on e = absurd cc
line_read d n (Cache name role perm clean) more b other goes_on e =
    subst (λ (x : Draft). lines_above x ≡ lines_above d ++ Cache name role perm clean ∷ []) (same_Some _ more e)
    (cache_read d (record { line = n; name = name; role = role; perm = perm; clean = clean }) b)
line_read d n (Dir name kind beside) more b other goes_on e =
    option_map-some _ (states_of d beside) more e (λ states are_states is_more.
    subst (λ (x : Draft). lines_above x ≡ lines_above d ++ Dir name kind beside ∷ []) is_more
    (dir_read d (record { line = n; name = name; kind = kind; beside = states }) _ b (ap (Dir name kind) (states_back d beside states are_states))))
line_read d n (Message name (Request class)) more b other goes_on e =
    subst (λ (x : Draft). lines_above x ≡ lines_above d ++ Message name (Request class) ∷ []) (same_Some _ more e)
    (message_read d (record { line = n; name = name; class = Request class }) (before_later d 3 5 (omega arith) b))
line_read d n (Message name (Forward class)) more b other goes_on e =
    subst (λ (x : Draft). lines_above x ≡ lines_above d ++ Message name (Forward class) ∷ []) (same_Some _ more e)
    (message_read d (record { line = n; name = name; class = Forward class }) (before_later d 4 5 (omega arith) b))
line_read d n (Message name Reply) more b other goes_on e =
    subst (λ (x : Draft). lines_above x ≡ lines_above d ++ Message name Reply ∷ []) (same_Some _ more e)
    (message_read d (record { line = n; name = name; class = Reply }) b)
line_read d n (Core state event shape) more b other goes_on e =
    option_map-some _ (core_of d n state event shape) more e (λ c is_core is_more.
    subst (λ (x : Draft). lines_above x ≡ lines_above d ++ Core state event shape ∷ []) is_more
    (core_last (in_words d) d c _ (core_back d n state event shape c is_core) b))
line_read d n (Take state forward reply next) more b other goes_on e =
    option_map-some _ (take_of d n state forward reply next) more e (λ t is_take is_more.
    subst (λ (x : Draft). lines_above x ≡ lines_above d ++ Take state forward reply next ∷ []) is_more
    (take_last (in_words d) d t _ (take_back d n state forward reply next t is_take) b))
line_read d n (Row dir shape next) more b other goes_on e =
    option_map-some _ (row_of d n dir shape next) more e (λ r is_row is_more.
    subst (λ (x : Draft). lines_above x ≡ lines_above d ++ Row dir shape next ∷ []) is_more
    (row_last (in_words d) d r _ (row_back d n dir shape next r is_row)))
line_read d n End more b other goes_on e = absurd cc

-- the first line is the protocol line, and no other is above it
first_read : (l : Line) (more : Draft) → not (is_protocol (kind_of l)) ≡ false → with_line no_draft 1 l ≡ Some more
    → lines_above more ≡ l ∷ []
first_read (Protocol name) more first e = subst (λ (x : Draft). lines_above x ≡ Protocol name ∷ []) (same_Some _ more e) refl
first_read (Message name (Request class)) more first e = absurd cc
first_read (Message name (Forward class)) more first e = absurd cc
first_read (Message name Reply) more first e = absurd cc
first_read _ more first e = absurd cc

-- the lines above, in words
abbrev read_above : LinesAbove → List (List (List ℕ))
read_above above = option_map_or (λ k. map spelling (lines_above above.draft)) above.kind []

-- where a line is above, they are the lines of the draft
words_above : (above : LinesAbove) (k : Kind) → above.kind ≡ Some k → read_above above ≡ map spelling (lines_above above.draft)
words_above above k e = ap (λ (o : Option Kind). option_map_or (λ k. map spelling (lines_above above.draft)) o []) e

-- a line that isn't the end line goes after those above
above_read : (above : LinesAbove) (n : ℕ) (line : List ℕ) (next : LinesAbove) (l : Line) → IsAbove above n → IsTakenIn above n line next l
    → is_end (kind_of l) ≡ false → read_above next ≡ read_above above ++ words_of line ∷ []
above_read above n line next l (inl h) t goes_on =
    let spelled = line_of-some (words_of line) l t.is_line in
    let first : is_out_of_order 1 None (kind_of l) ≡ false = sym (λ i. is_out_of_order (h.1 i) (h.0 i).kind (kind_of l)) ∙ t.in_place in
    let begins : with_line no_draft 1 l ≡ Some next.draft = sym (λ i. with_line (h.0 i).draft (h.1 i) l) ∙ t.declares in
    words_above next (kind_of l) t.is_kind ∙ ap (map spelling) (first_read l next.draft first begins) ∙ ap (λ (ws : List (List ℕ)). ws ∷ []) (sym spelled.0)
    ∙ ap (λ (a : LinesAbove). read_above a ++ words_of line ∷ []) (sym h.0)
above_read above n line next l (inr h) t goes_on =
    let spelled = line_of-some (words_of line) l t.is_line in
    let in_place : is_out_of_order n (Some h.0) (kind_of l) ≡ false = sym (ap (λ (o : Option Kind). is_out_of_order n o (kind_of l)) h.1) ∙ t.in_place in
    let order = in_order n h.0 (kind_of l) h.2 in_place in
    let before = before_later above.draft (rank_of h.0) (rank_of (kind_of l)) order.1 h.3.1 in
    words_above next (kind_of l) t.is_kind ∙ ap (map spelling) (line_read above.draft n l next.draft before order.0 goes_on t.declares)
    ∙ map_append spelling (lines_above above.draft) l (words_of line) (sym spelled.0)
    ∙ ap (λ (front : List (List (List ℕ))). front ++ words_of line ∷ []) (sym (words_above above h.0 h.1))

-- an end line declares nothing
end_declares : (d : Draft) (n : ℕ) (l : Line) (more : Draft) → is_end (kind_of l) ≡ true → with_line d n l ≡ Some more → (d ≡ more) × (l ≡ End)
end_declares d n End more ended e = (same_Some d more e, refl)
end_declares d n (Message name (Request class)) more ended e = absurd cc
end_declares d n (Message name (Forward class)) more ended e = absurd cc
end_declares d n (Message name Reply) more ended e = absurd cc
end_declares d n _ more ended e = absurd cc

-- the end line is no first line
end_not_first : (l : Line) → l ≡ End → not (is_protocol (kind_of l)) ≡ true
end_not_first l e = ap (λ (x : Line). not (is_protocol (kind_of x))) e

-- with the end line the lines are those of the draft
end_read : (above : LinesAbove) (n : ℕ) (line : List ℕ) (next : LinesAbove) (l : Line) → IsAbove above n → IsTakenIn above n line next l
    → is_end (kind_of l) ≡ true → map spelling (lines_in next.draft) ≡ read_above above ++ words_of line ∷ []
end_read above n line next l (inl h) t ended =
    let first : is_out_of_order 1 None (kind_of l) ≡ false = sym (λ i. is_out_of_order (h.1 i) (h.0 i).kind (kind_of l)) ∙ t.in_place in
    let other = end_not_first l (end_declares above.draft n l next.draft ended t.declares).1 in
    absurd (cc (first, other))
end_read above n line next l (inr h) t ended =
    let spelled = line_of-some (words_of line) l t.is_line in
    let same = end_declares above.draft n l next.draft ended t.declares in
    ap (λ (d : Draft). map spelling (lines_in d)) (sym same.0)
    ∙ map_append spelling (lines_above above.draft) End (words_of line) (sym (spelled.0 ∙ ap spelling same.1))
    ∙ ap (λ (front : List (List (List ℕ))). front ++ words_of line ∷ []) (sym (words_above above h.0 h.1))

-- the lines from line n on, up to the end line, stand after those above as the lines of the draft
abbrev IsRead : LinesAbove → ℕ → List (List ℕ) → Draft × ℕ → Type 0
IsRead above n lines p = (m : ℕ) × (map spelling (lines_in p.0) ≡ read_above above ++ map words_of (take m lines)) × (p.1 + 1 ≡ n + m)

-- whether a line that was taken in is the end line
ends_as : (above : LinesAbove) (n : ℕ) (line : List ℕ) (next : LinesAbove) (l : Line) → IsTakenIn above n line next l → is_end_line line ≡ is_end (kind_of l)
ends_as above n line next l t = ap (λ (o : Option Line). option_map_or (λ l. is_end (kind_of l)) o false) t.is_line

-- a line in front of lines that were read
read_front : (above : LinesAbove) (n : ℕ) (line : List ℕ) (lines : List (List ℕ)) (next : LinesAbove) (p : Draft × ℕ)
    → read_above next ≡ read_above above ++ words_of line ∷ [] → IsRead next (n + 1) lines p → IsRead above n (line ∷ lines) p
read_front above n line lines next p e r = (
  suc r.0,
  r.1 ∙ ap (λ (front : List (List (List ℕ))). front ++ map words_of (take r.0 lines)) e
      ∙ append_assoc (read_above above) (words_of line ∷ []) (map words_of (take r.0 lines)),
  omega (arith, r.2),
)

-- lines that were read are those of the draft
lines_read : (above : LinesAbove) (n : ℕ) (lines : List (List ℕ)) (p : Draft × ℕ) → IsAbove above n → read_lines above n lines ≡ Ok p
    → IsRead above n lines p
lines_read above n [] p a e = absurd cc
lines_read above n (line ∷ lines) p a e = at (line_judgement above n line) (is_end_line line) refl refl e (λ next b. lines_read next (n + 1) lines p b)
  where
    at : (j : Result LinesAbove Rule) (b : Bool) → line_judgement above n line ≡ j → is_end_line line ≡ b → read_on n b j lines (λ more. read_lines more (n + 1) lines) ≡ Ok p
        → ((next : LinesAbove) → IsAbove next (n + 1) → read_lines next (n + 1) lines ≡ Ok p → IsRead next (n + 1) lines p)
        → IsRead above n (line ∷ lines) p
    at (Err R) b j h e behind = absurd cc
    at (Ok next) true j h e behind =
        let t = taken_in above n line next j in
        let words = end_read above n line next t.0 a t.1 (sym (ends_as above n line next t.0 t.1) ∙ h) in
        subst (IsRead above n (line ∷ lines)) (same_ok _ p e) (1, words, refl)
    at (Ok next) false j h e behind =
        let t = taken_in above n line next j in
        let words = above_read above n line next t.0 a t.1 (sym (ends_as above n line next t.0 t.1) ∙ h) in
        read_front above n line lines next p words (behind next (above_later above n line next t.0 a t.1) e)

-- the lines of a text up to the end line are those of the draft, and the place is after them
pub read_spelled : (bytes : List ℕ) (d : Draft) (place : ℕ) → reading bytes ≡ Ok (d, place)
    → (n : ℕ) × (map words_of (take n (lines_of bytes)) ≡ map spelling (lines_in d)) × (place ≡ place_after n bytes)
read_spelled bytes d place e = at (read_lines no_lines_above 1 (lines_of bytes)) refl
  where
    at : (r : Result (Draft × ℕ) Fault) → read_lines no_lines_above 1 (lines_of bytes) ≡ r
        → (n : ℕ) × (map words_of (take n (lines_of bytes)) ≡ map spelling (lines_in d)) × (place ≡ place_after n bytes)
    at (Err g) h = let k : reading bytes ≡ Err g = rw h refl in absurd (cc (k, e))
    at (Ok p) h =
        let k : reading bytes ≡ Ok (p.0, place_after p.1 bytes) = rw h refl in
        let r = lines_read no_lines_above 1 (lines_of bytes) p (inl (refl, refl)) h in
        let count : r.0 ≡ p.1 = omega (arith, r.2) in
        let same : (p.0, place_after p.1 bytes) ≡ (d, place) = same_ok _ _ (sym k ∙ e) in (
          r.0,
          sym r.1 ∙ ap (λ (q : Draft × ℕ). map spelling (lines_in q.0)) same,
          sym (ap (λ (q : Draft × ℕ). q.1) same) ∙ ap (λ (m : ℕ). place_after m bytes) (sym count),
        )
