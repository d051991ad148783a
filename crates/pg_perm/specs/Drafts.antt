-- What a draft declares, and which drafts are those of texts.
use Rattle.std.specs.Prelude.{ℕ, ◌+◌, Bool, true, false, not, ◌&&◌, nat_lt, nat_le, List, [], ◌∷◌, ◌++◌, map, length, codes, slice_get, IsTrue, bytes_eq}
use Rattle.std.specs.List.{list_all, list_any}
use Rattle.std.specs.Option.{option_map_or}
use Rattle.pg_perm.specs.declared.kinds.Event.{Event}
use Rattle.pg_perm.specs.declared.kinds.Event.TheVariants.{Evict}
use Rattle.pg_perm.specs.declared.kinds.Who.{Who}
use Rattle.pg_perm.specs.declared.kinds.Who.TheVariants.{Other, Sharer, Owner}
use Rattle.pg_perm.specs.declared.draft.Draft.{Draft}
use Rattle.pg_perm.specs.declared.draft.CoreLine.{CoreLine}
use Rattle.pg_perm.specs.declared.draft.TakeLine.{TakeLine}
use Rattle.pg_perm.specs.declared.draft.RowLine.{RowLine}
use Rattle.pg_perm.specs.declared.draft.Pair.{Pair}
use Rattle.pg_perm.specs.declared.draft.ReplyName.{ReplyName}
use Rattle.pg_perm.specs.declared.draft.ReplyName.TheVariants as reply
use Rattle.pg_perm.specs.declared.draft.CoreForm.{CoreForm}
use Rattle.pg_perm.specs.declared.draft.CoreForm.TheVariants.{Hit, Ask, Leave}
use Rattle.pg_perm.specs.declared.draft.RowForm.{RowForm}
use Rattle.pg_perm.specs.declared.draft.RowForm.TheVariants as row
use Rattle.pg_perm.specs.declared.draft.Action.{Action}
use Rattle.pg_perm.specs.declared.draft.Action.TheVariants as action
use Rattle.pg_perm.specs.declared.draft.MsgClass.{MsgClass}
use Rattle.pg_perm.specs.Names.{is_name, is_state_name}
use Rattle.pg_perm.specs.Classes.{is_request, is_forward, is_reply, class_rank}

abbrev pub cache_names : Draft → List (List ℕ)
cache_names d = map (λ c. c.name) d.caches

abbrev pub dir_names : Draft → List (List ℕ)
dir_names d = map (λ s. s.name) d.dirs

abbrev pub message_names : Draft → List (List ℕ)
message_names d = map (λ m. m.name) d.messages

-- how many core, take and row lines there are
abbrev pub rule_line_count : Draft → ℕ
rule_line_count d = length d.cores + length d.takes + length d.rows

-- the names that no message may have
abbrev pub taken_names : List (List ℕ)
taken_names = codes "InvAck" ∷ codes "PutAck" ∷ codes "AckCount" ∷ codes "WbData" ∷ codes "hit" ∷ codes "count" ∷ codes "evict" ∷ []

-- each name is one of its kind
abbrev pub has_names : Draft → Bool
has_names d = is_name d.name && list_all is_state_name (cache_names d) && list_all is_state_name (dir_names d) && list_all is_name (message_names d)

-- no name stands twice
abbrev pub are_distinct : List (List ℕ) → Bool
are_distinct [] = true
are_distinct (n ∷ ns) = not (list_any (bytes_eq n) ns) && are_distinct ns

-- no name is declared twice in its space or taken there
abbrev pub has_free_names : Draft → Bool
has_free_names d = are_distinct (cache_names d) && are_distinct (dir_names d) && are_distinct (message_names d)
    && list_all (λ m. not (list_any (bytes_eq m) taken_names)) (message_names d)

-- the number is that of a cache state
abbrev pub has_cache : Draft → ℕ → Bool
has_cache d s = nat_lt s (length d.caches)

-- the number is that of a directory state
abbrev pub has_dir : Draft → ℕ → Bool
has_dir d s = nat_lt s (length d.dirs)

-- the number is that of a message of a class
abbrev pub has_message : (MsgClass → Bool) → Draft → ℕ → Bool
has_message is_class d m = option_map_or (λ x. is_class x.class) (slice_get d.messages m) false

abbrev pub has_reply_name : Draft → ReplyName → Bool
has_reply_name d reply.AckCount = true
has_reply_name d (reply.Reply m) = has_message is_reply d m

abbrev pub has_pair : Draft → Pair → Bool
has_pair d p = has_reply_name d p.reply && has_cache d p.fin

-- at a load or a store a core hits or asks, with a reply at least, and at an evict it leaves
abbrev pub has_core_form : Draft → Event → CoreForm → Bool
has_core_form d Evict (Hit next) = false
has_core_form d Evict (Ask request pairs) = false
has_core_form d Evict (Leave request) = has_message is_request d request
has_core_form d event (Hit next) = option_map_or (has_cache d) next true
has_core_form d event (Ask request pairs) = has_message is_request d request && list_all (has_pair d) pairs && nat_lt 0 (length pairs)
has_core_form d event (Leave request) = false

abbrev pub has_core : Draft → CoreLine → Bool
has_core d c = has_cache d c.state && has_core_form d c.event c.form

abbrev pub has_take : Draft → TakeLine → Bool
has_take d t = has_cache d t.state && has_message is_forward d t.forward && option_map_or (has_message is_reply d) t.reply true && has_cache d t.next

abbrev pub has_action : Draft → Action → Bool
has_action d (action.Reply m) = has_message is_reply d m
has_action d (action.Forward m) = has_message is_forward d m
has_action d action.Count = true

-- who may evict
abbrev pub is_holder : Who → Bool
is_holder Other = false
is_holder Sharer = true
is_holder Owner = true

abbrev pub has_row_form : Draft → RowForm → Bool
has_row_form d (row.Ask request who action) = has_message is_request d request && has_action d action
has_row_form d (row.Evict who left) = is_holder who

abbrev pub has_row : Draft → RowLine → Bool
has_row d r = has_dir d r.dir && has_row_form d r.form && has_dir d r.next

-- each number is that of a line which is declared as its place asks, and each line is in a form
abbrev pub has_numbers : Draft → Bool
has_numbers d = list_all (λ s. list_all (has_cache d) s.beside) d.dirs && list_all (has_core d) d.cores && list_all (has_take d) d.takes && list_all (has_row d) d.rows

-- no number is above the one after it
abbrev pub is_ordered : List ℕ → Bool
is_ordered [] = true
is_ordered (n ∷ []) = true
is_ordered (n ∷ m ∷ ns) = nat_le n m && is_ordered (m ∷ ns)

-- each number is below the one after it
abbrev pub is_rising : List ℕ → Bool
is_rising [] = true
is_rising (n ∷ []) = true
is_rising (n ∷ m ∷ ns) = nat_lt n m && is_rising (m ∷ ns)

-- the numbers of the lines, in the order of a text
abbrev pub line_numbers : Draft → List ℕ
line_numbers d = d.line ∷ map (λ c. c.line) d.caches ++ map (λ s. s.line) d.dirs ++ map (λ m. m.line) d.messages ++ map (λ c. c.line) d.cores
    ++ map (λ t. t.line) d.takes ++ map (λ r. r.line) d.rows

-- how many replies a core line has
abbrev pub pair_count : CoreForm → ℕ
pair_count (Hit next) = 0
pair_count (Ask request pairs) = length pairs
pair_count (Leave request) = 0

-- the limits on lines hold, and no line has more than 80 words
abbrev pub has_limits : Draft → Bool
has_limits d = nat_le (length d.caches) 16 && nat_le (length d.dirs) 16 && nat_le (length d.messages) 32 && nat_le (rule_line_count d) 512
    && list_all (λ s. nat_le (length s.beside) 77) d.dirs && list_all (λ c. nat_le (pair_count c.form) 38) d.cores

-- the draft is that of a text which breaks no rule of the form, up to the numbers of its lines
pub record IsWellFormed (d : Draft) : Type 0 where
  pub names : IsTrue (has_names d)
  pub free : IsTrue (has_free_names d)
  pub numbers : IsTrue (has_numbers d)
  pub classes : IsTrue (is_ordered (map (λ m. class_rank m.class) d.messages))
  pub lines : IsTrue (is_rising (line_numbers d))
  pub limits : IsTrue (has_limits d)
