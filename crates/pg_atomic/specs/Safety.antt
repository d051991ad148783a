-- What holds in each state that a run reaches.
use Rattle.std.specs.Prelude.{ℕ, ◌≡◌, ◌≢◌, ◌<◌, true, false, length, Some}
use Rattle.pg_perm.specs.declared.kinds.Event.TheVariants.{Load, Store, Evict}
use Rattle.pg_perm.specs.declared.draft.Draft.{Draft}
use Rattle.pg_perm.specs.declared.draft.CoreLine.{CoreLine}
use Rattle.pg_perm.specs.declared.draft.RowLine.{RowLine}
use Rattle.pg_perm.specs.declared.draft.TakeLine.{TakeLine}
use Rattle.pg_perm.specs.declared.draft.ReplyName.{ReplyName}
use Rattle.pg_perm.specs.declared.draft.Action.TheVariants as action
use Rattle.pg_terms.specs.Terms.{core_row, take_row}
use Rattle.pg_directory.specs.DirEntries.{Request, row_of}
use Rattle.pg_directory.specs.Sends.{forward_sent}
use Rattle.pg_directory.specs.Sound.{IsSound, fits}
use Rattle.pg_directory.specs.Requests.{action_of}
use Rattle.pg_terms.specs.Rows.{final_state}
use Rattle.pg_atomic.specs.States.{State, state_of, requestor_reply}
use Rattle.pg_atomic.specs.Steps.{may, needs_transaction}

-- what the directory knows is sound, and the state of each core fits it
pub record IsSafe (d : Draft) (a : State) : Type 0 where
  pub entry : IsSound d (length a.states) a.entry
  pub fits : (c : ℕ) → c < length a.states → fits d a.entry c (state_of a c) ≡ true

-- a transaction has its rows: that of the core, that of the directory, and one for each forward that is sent; what is passed on goes to the
-- owner, which is another core; and a load or a store gets a reply under which it ends
pub record HasItsRows (d : Draft) (a : State) (q : Request) : Type 0 where
  pub core : (x : CoreLine) × (core_row d (state_of a q.core) q.event ≡ Some x)
  pub dir : (r : RowLine) × (row_of d a.entry q ≡ Some r)
  pub takes : (c f : ℕ) → forward_sent d a.entry q c ≡ Some f → (t : TakeLine) × (take_row d (state_of a c) f ≡ Some t)
  pub passed : (f : ℕ) → action_of d a.entry q ≡ Some (action.Forward f) → (o : ℕ) × (a.entry.owner ≡ Some o) × ((q.core ≡ o) → ⊥)
  pub ends : q.event ≢ Evict → (name : ReplyName) × (t : ℕ) × (requestor_reply d a q ≡ Some name) × (final_state d (state_of a q.core) q.event name ≡ Some t)

-- single writer, multiple readers: where a core may write, no other may read or write
abbrev pub HasSingleWriter : Draft → State → Type 0
HasSingleWriter d a = (c e : ℕ) → c < length a.states → e < length a.states → c ≢ e → may d (state_of a c) Store ≡ true
    → (may d (state_of a e) Load ≡ false) × (may d (state_of a e) Store ≡ false)

-- all of it
pub record RunsSafely (d : Draft) (n : ℕ) (a : State) : Type 0 where
  pub cores : length a.states ≡ n
  pub safe : IsSafe d a
  pub rows : (q : Request) → q.core < n → needs_transaction d (state_of a q.core) q.event ≡ true → HasItsRows d a q
  pub single_writer : HasSingleWriter d a
