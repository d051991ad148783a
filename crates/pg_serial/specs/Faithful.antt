-- What the lines and the messages of a block say of the run that its order and its completed accesses make.
use Rattle.std.specs.Prelude.{None, ℕ, suc, ◌≡◌, ◌≢◌, ◌<◌, ◌≤◌, ◌⊎◌, Bool, true, false, List, [], ◌∷◌, ◌++◌, length, Some}
use Rattle.pg_perm.specs.declared.kinds.Event.{Event}
use Rattle.pg_perm.specs.declared.kinds.Who.TheVariants.{Other}
use Rattle.pg_perm.specs.declared.step.Step.{Step}
use Rattle.pg_perm.specs.declared.step.Step.TheVariants.{Txn}
use Rattle.pg_perm.specs.declared.draft.Draft.{Draft}
use Rattle.pg_perm.specs.declared.draft.ReplyName.{ReplyName}
use Rattle.pg_perm.specs.declared.draft.ReplyName.TheVariants as reply
use Rattle.std.specs.Option.{option_map_or}
use Rattle.pg_terms.specs.Rows.{reply_to}
use Rattle.pg_directory.specs.DirEntries.{DirEntry, who}
use Rattle.pg_perm.specs.declared.kinds.Event.TheVariants as event
use Rattle.pg_atomic.specs.States.{State, state_of, requestor_reply}
use Rattle.pg_atomic.specs.Steps.{may}
use Rattle.pg_serial.specs.Groups.{Groups, at, IsRunTo, IsFromNothing, IsOthers, dir_entry_after, sent_to}
use Rattle.pg_serial.specs.Serial.{Entry, Done, groups, entry_at, Rises, StampedTo}

-- where a line stands: level with a state, as of the view; or past its own entry, which it asked in a state, and granted or not
pub data Stand : Type 0 where
  Level : ℕ → Stand
  Ahead : ℕ → Bool → Stand

-- of a core: the stamp of the entry that its line has caught up to, the stamp of its last entry, whether that entry is pending, and the line
pub record Core : Type 0 where
  pub seen : ℕ
  pub last : ℕ
  pub pending : Bool
  pub stand : Stand
  pub word : ℕ
  pub stamp : ℕ

-- data in flight
pub record Datum : Type 0 where
  pub reply : ReplyName
  pub core : ℕ
  pub word : ℕ
  pub stamp : ℕ

-- what a block shows of itself; a core is clean where memory is claimed to have the word that it has
pub record Shown : Type 0 where
  pub order : List Entry
  pub done : List Done
  pub core : ℕ → Core
  pub replies : List Datum
  pub written : List ℕ
  pub memory : ℕ
  pub busy : Bool
  pub clean : ℕ → Bool

abbrev pub run_of : ℕ → Shown → Groups
run_of n w = groups n w.order w.done

abbrev pub top_of : Shown → ℕ
top_of w = length w.order

-- the directory and the machine after k entries, group k included
abbrev pub shown_entry : Draft → Shown → ℕ → DirEntry
shown_entry d w k = dir_entry_after d (entry_at w.order) k

abbrev pub state_at : Draft → ℕ → Shown → ℕ → State
state_at d n w k = at d n (run_of n w) k

-- what a line says of the run. Level: if the core holds something there, its state and its word are those after its view, and its stamp is the
-- view. Ahead: if the core held something before its last entry, its state was that in which it asked; and once granted it has the word after it
abbrev pub Tells : (ℕ → DirEntry) → (ℕ → State) → ℕ → ℕ → ℕ → ℕ → ℕ → Stand → Type 0
Tells dir_entries run c seen last word stamp (Level s) = who (dir_entries seen) c ≢ Other → (state_of (run seen) c ≡ s) × (word ≡ (run seen).word) × (stamp ≡ seen)
Tells dir_entries run c seen last word stamp (Ahead s granted) = (j : ℕ) → last ≡ suc j
    → (who (dir_entries j) c ≢ Other → state_of (run j) c ≡ s) × (granted ≡ true → (word ≡ (run (suc j)).word) × (stamp ≡ suc j))

-- what is so of one core: its accesses are stamped up to its view, and below its entry while that is pending; their stamps don't fall; and its line
pub record IsTold (d : Draft) (n : ℕ) (w : Shown) (c : ℕ) (x : Core) : Type 0 where
  pub seen : StampedTo c x.seen w.done
  pub waits : x.pending ≡ true → (b : ℕ) → x.last ≤ suc b → StampedTo c b w.done
  pub rises : Rises c 0 w.done
  pub tells : Tells (shown_entry d w) (state_at d n w) c x.seen x.last x.word x.stamp x.stand

-- data has the word after its entry, and is the reply that the machine gives there
abbrev pub IsDatum : Draft → (ℕ → Step) → (ℕ → State) → Datum → Type 0
IsDatum d entry run x = (j : ℕ) → x.stamp ≡ suc j
    → (x.word ≡ (run (suc j)).word) × ((e : Event) → entry j ≡ Txn x.core e → requestor_reply d (run j) (record { core = x.core; event = e }) ≡ Some x.reply)

abbrev pub EachIs : {X : Type 0} → (X → Type 0) → List X → Type 0
EachIs P [] = Unit {0}
EachIs P (x ∷ xs) = P x × EachIs P xs

pub record IsFaithful (d : Draft) (n : ℕ) (w : Shown) : Type 0 where
  -- the order with its accesses is a run
  pub run : IsRunTo d n (run_of n w) (top_of w)
  pub cores : (c : ℕ) → c < n → IsTold d n w c (w.core c)
  pub replies : EachIs (IsDatum d (entry_at w.order) (state_at d n w)) w.replies
  pub written : EachIs (λ v. v ≡ (state_at d n w (top_of w)).word) w.written
  pub memory : (shown_entry d w (top_of w)).owner ≡ None → w.busy ≡ false → w.memory ≡ (state_at d n w (top_of w)).word
  pub clean : (c : ℕ) → (shown_entry d w (top_of w)).owner ≡ Some c → w.clean c ≡ true → w.memory ≡ (state_at d n w (top_of w)).word

-- What soundness says

-- nothing was served after a grant of ownership: core c is pending at entry g, or stands there; each later entry is of a core that holds nothing;
-- and who holds something after it is c, or is pending with an entry up to there
pub record IsGranted (d : Draft) (n : ℕ) (w : Shown) (g c : ℕ) : Type 0 where
  pub inside : c < n
  pub low : g ≤ top_of w
  pub at_grant : (((w.core c).pending ≡ true) × ((w.core c).last ≡ g)) ⊎ ((w.core c).seen ≡ g)
  pub asks : (j : ℕ) → g ≤ j → j < top_of w → IsFromNothing n (shown_entry d w j) (entry_at w.order j)
  pub holders : (e k : ℕ) → e < n → g < k → k ≤ top_of w → who (shown_entry d w k) e ≢ Other → (e ≡ c) ⊎ (((w.core e).pending ≡ true) × ((w.core e).last ≤ k))
  pub views : (e : ℕ) → e < n → (w.core e).seen ≤ top_of w

-- the entries after which a line looks at the run have a property
abbrev pub Looks : (ℕ → Type 0) → (ℕ → DirEntry) → ℕ → ℕ → ℕ → Stand → Type 0
Looks P dir_entries c seen last (Level s) = who (dir_entries seen) c ≢ Other → P seen
Looks P dir_entries c seen last (Ahead s granted) = (j : ℕ) → last ≡ suc j → (who (dir_entries j) c ≢ Other → P j) × (granted ≡ true → P (suc j))

-- one completed access more
abbrev pub with_done : Shown → Done → Shown
with_done w x = record w { done = w.done ++ x ∷ [] }

-- a store completes in group g: what has changed beside it, where the replies that stay and those that are sent are told apart
pub record Change : Type 0 where
  pub core : ℕ → Core
  pub stay : List Datum
  pub sent : List Datum
  pub written : List ℕ
  pub busy : Bool
  pub clean : ℕ → Bool

abbrev pub stored : Shown → Change → Done → Shown
stored w u x = record {
  order = w.order;
  done = w.done ++ x ∷ [];
  core = u.core;
  replies = u.stay ++ u.sent;
  written = u.written;
  memory = w.memory;
  busy = u.busy;
  clean = u.clean;
}

-- what other cores and messages say is of entries before the grant, and memory isn't claimed to have the word
pub record IsAlone (d : Draft) (n : ℕ) (w : Shown) (u : Change) (g c v : ℕ) : Type 0 where
  pub same : (e : ℕ) → e ≢ c → u.core e ≡ w.core e
  pub others : (e : ℕ) → e < n → e ≢ c → Looks (λ k. k < g) (shown_entry d w) e (w.core e).seen (w.core e).last (w.core e).stand
  pub stay : EachIs (λ x. x.stamp < g) u.stay
  pub told : EachIs (IsDatum d (entry_at w.order) (state_at d n w)) u.stay
  pub written : EachIs (λ z. z ≡ v) u.written
  pub owned : (shown_entry d w (top_of w)).owner ≡ None → u.busy ≡ false → ⊥
  pub dirty : (e : ℕ) → (shown_entry d w (top_of w)).owner ≡ Some e → u.clean e ≡ true → ⊥

-- nothing looks beyond the order
pub record IsBounded (n : ℕ) (w : Shown) : Type 0 where
  pub views : (c : ℕ) → c < n → (w.core c).seen ≤ top_of w
  pub lasts : (c : ℕ) → c < n → (w.core c).last ≤ top_of w
  pub replies : EachIs (λ x. x.stamp ≤ top_of w) w.replies

-- the data that a core sends in a state, with a word, where it takes a forward for another core
abbrev pub served_one : Draft → ℕ → ℕ → ℕ → ℕ → ℕ → List Datum
served_one d v x f c k = option_map_or (λ r. record { reply = reply.Reply r; core = c; word = v; stamp = k } ∷ []) (reply_to d x f) []

-- who owns meanwhile is the core, or waits for an entry up to there
pub record IsHeld (d : Draft) (n : ℕ) (w : Shown) (c lo hi : ℕ) : Type 0 where
  pub others : (j : ℕ) → lo ≤ j → j < hi → IsOthers c (entry_at w.order j)
  pub owners : (k o : ℕ) → lo < k → k ≤ hi → (shown_entry d w k).owner ≡ Some o → (o < n) × ((o ≡ c) ⊎ (((w.core o).pending ≡ true) × ((w.core o).last ≤ k)))

-- an owner answers a forward: its line moves to the entry that sent it, and it sends the data that the machine has
pub record IsAnswer (d : Draft) (n : ℕ) (w : Shown) (c st j f : ℕ) : Type 0 where
  pub inside : c < n
  pub low : j < top_of w
  pub seen : (w.core c).seen ≤ j
  pub level : (w.core c).stand ≡ Level st
  pub holds : who (shown_entry d w (w.core c).seen) c ≢ Other
  pub held : IsHeld d n w c (w.core c).seen (suc j)
  pub none : (i : ℕ) → (w.core c).seen ≤ i → i < j → sent_to d (shown_entry d w i) (entry_at w.order i) c ≡ None
  pub sends : sent_to d (shown_entry d w j) (entry_at w.order j) c ≡ Some f
  pub idle : (w.core c).pending ≡ true → suc (suc j) ≤ (w.core c).last

-- between two entries nothing of the core's, and nothing sent to it
pub record IsUntouched (d : Draft) (w : Shown) (c lo hi : ℕ) : Type 0 where
  pub others : (i : ℕ) → lo ≤ i → i < hi → IsOthers c (entry_at w.order i)
  pub none : (i : ℕ) → lo ≤ i → i < hi → sent_to d (shown_entry d w i) (entry_at w.order i) c ≡ None

-- what the directory makes of a request: a stale entry where its core holds nothing, and else one that it needs
pub record IsHeard (d : Draft) (n : ℕ) (w : Shown) (e : Entry) (st : ℕ) : Type 0 where
  pub inside : e.core < n
  pub level : (w.core e.core).stand ≡ Level st
  pub view : (w.core e.core).seen ≤ top_of w
  pub others : (j : ℕ) → (w.core e.core).seen ≤ j → j < top_of w → IsOthers e.core (entry_at w.order j)
  pub stale : e.stale ≡ true → who (shown_entry d w (top_of w)) e.core ≡ Other
  pub load : e.event ≡ event.Load → who (shown_entry d w (top_of w)) e.core ≡ Other
  pub store : e.event ≡ event.Store → may d st event.Store ≡ false
  pub evict : e.stale ≡ false → e.event ≡ event.Evict → who (shown_entry d w (top_of w)) e.core ≢ Other
