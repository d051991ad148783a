-- What the acts of the directory controller do to memory and to the networks, act by act.
use Rattle.std.specs.Prelude.{ℕ, suc, ◌≡◌, slice_get, ◌+◌, ◌<◌, ◌≤◌, List, [], ◌∷◌, length, Option, Some, None, unwrap_or, IfSome}
use Rattle.std.specs.Option.{option_map}
use Rattle.pg_perm.specs.declared.kinds.FwdClass.TheVariants.{Inv}
use Rattle.pg_perm.specs.declared.draft.Draft.{Draft}
use Rattle.pg_terms.specs.Terms.{forward_of}
use Rattle.pg_directory.specs.DirEntries.{DirEntry, Request, without_core}
use Rattle.pg_table.specs.declared.directory.DirAct.{DirAct}
use Rattle.pg_table.specs.declared.directory.DirAct.TheVariants as act
use Rattle.pg_table.specs.declared.directory.DirInput.TheVariants as met
use Rattle.pg_table.specs.Directory.{DirChoice, dir_choice}
use Rattle.pg_table.specs.Tables.{DirRow, DirTableState, find_dir_row}
use Rattle.pg_dir.specs.Numbers.{NumberedDirectory}
use Rattle.pg_messages.specs.declared.messages.Ask.{Ask as SentRequest}
use Rattle.pg_messages.specs.declared.messages.Ordered.{Ordered}
use Rattle.pg_messages.specs.declared.messages.Ordered.TheVariants.{Forward, AckCount, PutAck}
use Rattle.pg_messages.specs.declared.messages.Reply.{Reply}
use Rattle.pg_messages.specs.declared.messages.Reply.TheVariants.{Data, InvAck, WbData}
use Rattle.pg_controllers.specs.Directories.{Directory, Posted, do_dir_acts, dir_entry_of, dir_input}
use Rattle.pg_controllers.specs.Worlds.{directory_after}
use Rattle.pg_queue.specs.Nets.{Nets, with_reply, with_ordered, spare}

-- What the acts do, one by one

-- what the acts of a row work on: memory's word, how many invalidations were sent, and the networks
pub record Effects : Type 0 where
  pub memory : ℕ
  pub invs : ℕ
  pub nets : Nets

-- the invalidation for a write of core c with stamp k
abbrev pub invalidation : Draft → ℕ → ℕ → Ordered
invalidation d c k = Forward (unwrap_or (forward_of d Inv) 0) c 0 k

-- a message is sent to each of some cores
abbrev pub send_to_each : Ordered → List ℕ → Nets → Nets
send_to_each m [] w = w
send_to_each m (c ∷ cs) w = send_to_each m cs (with_ordered c m w)

-- a message is sent to the owner, where there is one
abbrev pub send_to_owner : Option ℕ → Ordered → Nets → Nets
send_to_owner None m w = w
send_to_owner (Some o) m w = with_ordered o m w

-- an act for a request of core c with stamp k and the word that it brings
abbrev pub after_act : Draft → DirEntry → ℕ → ℕ → Option ℕ → DirAct → Effects → Effects
after_act d s c k word (act.Reply r) x = record x { nets = with_reply (Data r c x.memory x.invs k) x.nets }
after_act d s c k word (act.Forward f) x = record x { nets = send_to_owner s.owner (Forward f c x.invs k) x.nets }
after_act d s c k word act.Inv x = record x { invs = length (without_core c s.sharers); nets = send_to_each (invalidation d c k) (without_core c s.sharers) x.nets }
after_act d s c k word act.AckCount x = record x { nets = with_ordered c (AckCount x.invs k) x.nets }
after_act d s c k word act.Write x = record x { memory = unwrap_or word x.memory }
after_act d s c k word act.PutAck x = record x { nets = with_ordered c (PutAck k) x.nets }
after_act d s c k word act.Stall x = x

abbrev pub after_acts : Draft → DirEntry → ℕ → ℕ → Option ℕ → List DirAct → Effects → Effects
after_acts d s c k word [] x = x
after_acts d s c k word (y ∷ ys) x = after_acts d s c k word ys (after_act d s c k word y x)

-- the networks have room for what an act sends, where there is room for n messages more
abbrev pub Fits : DirEntry → ℕ → DirAct → ℕ → Type 0
Fits s c (act.Reply r) n = 0 < n
Fits s c (act.Forward f) n = IfSome s.owner (λ o. 0 < n)
Fits s c act.Inv n = length (without_core c s.sharers) ≤ n
Fits s c act.AckCount n = 0 < n
Fits s c act.Write n = Unit {0}
Fits s c act.PutAck n = 0 < n
Fits s c act.Stall n = Unit {0}

-- they have room for what each act sends, at its turn
abbrev pub AllFit : Draft → DirEntry → ℕ → ℕ → Option ℕ → List DirAct → Effects → Type 0
AllFit d s c k word [] x = Unit {0}
AllFit d s c k word (y ∷ ys) x = Fits s c y (spare x.nets) × AllFit d s c k word ys (after_act d s c k word y x)

-- what the acts for a request of core c with stamp k make of memory and the networks, and that there is room for it
abbrev pub row_effects : Draft → Directory → ℕ → ℕ → Option ℕ → List DirAct → Nets → Effects
row_effects d h c k word acts w = after_acts d (dir_entry_of h) c k word acts (record { memory = h.memory; invs = 0; nets = w })

abbrev pub RowFits : Draft → Directory → ℕ → ℕ → Option ℕ → List DirAct → Nets → Type 0
RowFits d h c k word acts w = AllFit d (dir_entry_of h) c k word acts (record { memory = h.memory; invs = 0; nets = w })

-- What a request makes of the directory and the networks

-- messages to cores are sent, in order
abbrev pub send_ordered : List (ℕ × Ordered) → Nets → Nets
send_ordered [] w = w
send_ordered (p ∷ ps) w = send_ordered ps (with_ordered p.0 p.1 w)

-- replies are sent, in order
abbrev pub send_replies : List Reply → Nets → Nets
send_replies [] w = w
send_replies (m ∷ ms) w = send_replies ms (with_reply m w)

abbrev pub send_posted : Posted → Nets → Nets
send_posted p w = send_replies p.replies (send_ordered p.posts w)

abbrev pub effects_of : Posted → Nets → Effects
effects_of p w = record { memory = p.memory; invs = p.invs; nets = send_posted p w }

abbrev pub nothing_posted : ℕ → Posted
nothing_posted memory = record { memory = memory; invs = 0; posts = []; replies = [] }

abbrev pub request_by : ℕ → SentRequest → Request
request_by c a = record { core = c; event = a.event }

-- what the directory does at a request, if anything
abbrev pub choice_for : Draft → Directory → Request → Option DirChoice
choice_for d h q = dir_choice d h.desc (dir_input h.desc (dir_entry_of h) q)

abbrev pub choice_by : Draft → Directory → ℕ → SentRequest → Option DirChoice
choice_by d h c a = choice_for d h (request_by c a)

-- what it posts then
abbrev pub posts_for : Draft → Directory → ℕ → SentRequest → DirChoice → Posted
posts_for d h c a ch = do_dir_acts d (dir_entry_of h) c (suc h.last) a.word ch.acts (nothing_posted h.memory)

abbrev pub message_count : Posted → ℕ
message_count p = length p.posts + length p.replies

-- the networks have room for what the directory sends at a request
abbrev pub HasRoomFor : Draft → Directory → ℕ → SentRequest → Nets → Type 0
HasRoomFor d h c a w = IfSome (choice_by d h c a) (λ ch. message_count (posts_for d h c a ch) ≤ spare w)

-- the directory with the owner and the sharers of an entry
abbrev pub with_entry : DirEntry → Directory → Directory
with_entry s h = record h { owner = s.owner; sharers = s.sharers }

-- the directory and the networks after a request
pub record DirResult : Type 0 where
  pub directory : Directory
  pub nets : Nets

abbrev pub result_of_choice : Draft → Directory → ℕ → SentRequest → Nets → Option DirChoice → DirResult
result_of_choice d h c a w None = record { directory = h; nets = w }
result_of_choice d h c a w (Some ch) = record { directory = directory_after d h (request_by c a) ch (posts_for d h c a ch); nets = send_posted (posts_for d h c a ch) w }

abbrev pub result_of_request : Draft → ℕ → SentRequest → Directory → Nets → DirResult
result_of_request d c a h w = result_of_choice d h c a w (choice_by d h c a)

-- The table

-- the row of the table for a request
abbrev pub row_for : List DirTableState → NumberedDirectory → Request → Option DirRow
row_for t v q = find_dir_row t v.number (dir_input v.directory.desc (dir_entry_of v.directory) q)

-- a row of the table does what the directory does
abbrev pub DoesChoice : List DirTableState → Option DirChoice → DirRow → Type 0
DoesChoice t choice r = (ch : DirChoice) × (choice ≡ Some ch) × (r.acts ≡ ch.acts) × (option_map (λ s. s.desc) (slice_get t r.next) ≡ Some ch.next)

-- What data that an owner writes back makes of the directory

abbrev pub write_back_by : Draft → ℕ → Directory → Option DirChoice → Directory
write_back_by d v h None = h
write_back_by d v h (Some ch) = record h { desc = ch.next; memory = (do_dir_acts d (dir_entry_of h) 0 0 (Some v) ch.acts (nothing_posted h.memory)).memory }

abbrev pub write_back : Draft → ℕ → Directory → Directory
write_back d v h = write_back_by d v h (dir_choice d h.desc met.Wb)

-- the word of data that is written back
abbrev pub word_written_back : Reply → Option ℕ
word_written_back (WbData v k) = Some v
word_written_back (Data r c v n k) = None
word_written_back (InvAck c k) = None
