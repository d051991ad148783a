-- The directory's state stays one of its table, which has one row for each request and for what is written back.
use Rattle.pg_perm.specs.declared.draft.DirLine.{DirLine}
use Rattle.pg_shape.proofs.Searches.{map_or_get}
use Rattle.pg_directory.specs.DirEntries.{initial_entry}
use Rattle.pg_directory.proofs.Start.{start_is_sound}
use Rattle.pg_table.proofs.DirStates.{declared_is_dir_state}
use Rattle.pg_terms.specs.Due.{same_kind}
use Rattle.pg_controllers.specs.Runs.{opening}
use Rattle.std.proofs.lemmas.Bool.{lt-ltb}
use Rattle.std.proofs.Common.{length, arith, ◌≡◌, ℕ, zero, suc, ◌<◌, true, false, List, [], ◌∷◌, map, Option, Some, None, refl, sym, ap, subst}
use Rattle.std.specs.Prelude.{slice_get}
use Rattle.std.specs.List.{list_any, remove}
use Rattle.pg_perm.specs.declared.draft.Draft.{Draft}
use Rattle.pg_perm.specs.Drafts.{IsWellFormed}
use Rattle.pg_shape.specs.Shaped.{IsShaped}
use Rattle.pg_table.specs.declared.directory.DirDesc.{DirDesc}
use Rattle.pg_table.specs.declared.directory.DirInput.{DirInput}
use Rattle.pg_table.specs.declared.directory.DirInput.TheVariants as met
use Rattle.pg_table.specs.Choices.{Choice}
use Rattle.pg_table.specs.Directory.{dir_descs, DirChoice, dir_choice, DirGenState, dir_rows, dir_generated_states}
use Rattle.pg_table.specs.Tables.{same_dir_desc, dir_number_of, dir_table_row, dir_table_state}
use Rattle.pg_table.proofs.DirRows.{choice_leads}
use Rattle.pg_table.proofs.DirTables.{one_row}
use Rattle.pg_table.proofs.Numbers.{dir_number_of_at}
use Rattle.pg_messages.specs.declared.messages.Ordered.{Ordered}
use Rattle.pg_messages.specs.declared.messages.Ask.{Ask as SentRequest}
use Rattle.pg_controllers.specs.Networks as net
use Rattle.pg_messages.specs.declared.messages.Reply.{Reply}
use Rattle.pg_messages.specs.declared.messages.Reply.TheVariants.{Data, InvAck, WbData}
use Rattle.pg_controllers.specs.Networks.{Core}
use Rattle.pg_controllers.specs.Lines.{Received}
use Rattle.pg_perm.specs.declared.kinds.Op.{Op}
use Rattle.pg_controllers.specs.Directories.{is_busy, dir_entry_of, dir_input}
use Rattle.pg_messages.specs.declared.messages.WorldEvent.{WorldEvent}
use Rattle.pg_messages.specs.declared.messages.WorldEvent.TheVariants.{Issue, Request as Request_of, Ordered as Ordered_to, Reply as Reply_at}
use Rattle.pg_controllers.specs.Worlds.{Picks, World, core, by_choice, issue, deliver, handle_by, request, after_write_back, reply as replied, move}
use Rattle.pg_orderly.specs.Orderly.{Mark, IsOrderly}
use Rattle.pg_safe.specs.OneRow.{HasDirState, HasDirRow}
use Rattle.pg_safe.proofs.Requests.{request_due}
use Rattle.pg_safe.proofs.Replies.{wb_due}

goes_on : (d : Draft) (x : DirDesc) (i : DirInput) (ch : DirChoice) → IsWellFormed d → list_any (same_dir_desc x) (dir_descs d) ≡ true → dir_choice d x i ≡ Some ch → list_any (same_dir_desc ch.next) (dir_descs d) ≡ true
goes_on d x i ch wf there chosen = choice_leads d wf (dir_number_of (dir_descs d) x) x i ch (dir_number_of_at (dir_descs d) x there) chosen

choice_dir_state : (d : Draft) (c : ℕ) (m : Received) (y : Core) (w : World) (o : Option Choice) → (by_choice d c m y w o).directory ≡ w.directory
choice_dir_state d c m y w None = refl
choice_dir_state d c m y w (Some ch) = refl

-- each event keeps that
pub move_dir_state : (d : Draft) (pick : Picks) (w : World) (e : WorldEvent) → IsWellFormed d → HasDirState d w → HasDirState d (move d pick w e)
move_dir_state d pick w (Issue c) wf h = at (core w c).left
  where
    at : (os : List Op) → HasDirState d (issue d pick c (core w c) w os)
    at [] = h
    at (o ∷ os) = subst (λ z. list_any (same_dir_desc z.desc) (dir_descs d) ≡ true)
        (sym (choice_dir_state d c (Rattle.pg_controllers.specs.Lines.received_op (core w c).line o) (record (core w c) { left = os }) w (pick (core w c).line.desc (Rattle.pg_table.specs.declared.cache.Input.TheVariants.Core (net.event_of o))))) h
move_dir_state d pick w (Request_of c) wf h = at (core w c).slot
  where
    by : (a : SentRequest) (o : Option DirChoice) → dir_choice d w.directory.desc (dir_input w.directory.desc (dir_entry_of w.directory) (record { core = c; event = a.event })) ≡ o → HasDirState d (handle_by d c a w o)
    by a None chosen = h
    by a (Some ch) chosen = goes_on d w.directory.desc (dir_input w.directory.desc (dir_entry_of w.directory) (record { core = c; event = a.event })) ch wf h chosen

    at : (s : Option SentRequest) → HasDirState d (request d c w s)
    at None = h
    at (Some a) = by a (dir_choice d w.directory.desc (dir_input w.directory.desc (dir_entry_of w.directory) (record { core = c; event = a.event }))) refl
move_dir_state d pick w (Ordered_to c) wf h = at (core w c).queue
  where
    at : (ms : List Ordered) → HasDirState d (deliver d pick c (core w c) w ms)
    at [] = h
    at (q ∷ ms) = subst (λ z. list_any (same_dir_desc z.desc) (dir_descs d) ≡ true)
        (sym (choice_dir_state d c (Rattle.pg_controllers.specs.Lines.received_ordered (core w c).line q) (record (core w c) { queue = ms }) w (pick (core w c).line.desc (Rattle.pg_controllers.specs.Lines.ordered_input (core w c).line q)))) h
move_dir_state d pick w (Reply_at i) wf h = at (slice_get w.replies i)
  where
    u : World
    u = record w { replies = remove w.replies i }

    back : (v : ℕ) (o : Option DirChoice) → dir_choice d w.directory.desc met.Wb ≡ o → HasDirState d (after_write_back d v u o)
    back v None chosen = h
    back v (Some ch) chosen = goes_on d w.directory.desc met.Wb ch wf h chosen

    at : (x : Option Reply) → HasDirState d (replied d pick u x)
    at None = h
    at (Some (Data r c v n k)) = subst (λ z. list_any (same_dir_desc z.desc) (dir_descs d) ≡ true)
        (sym (choice_dir_state d c (Rattle.pg_controllers.specs.Lines.received_reply d (core w c).line (Data r c v n k)) (core w c) u (pick (core w c).line.desc (Rattle.pg_controllers.specs.Lines.reply_input (core w c).line (Data r c v n k))))) h
    at (Some (InvAck c k)) = subst (λ z. list_any (same_dir_desc z.desc) (dir_descs d) ≡ true)
        (sym (choice_dir_state d c (Rattle.pg_controllers.specs.Lines.received_reply d (core w c).line (InvAck c k)) (core w c) u (pick (core w c).line.desc (Rattle.pg_controllers.specs.Lines.reply_input (core w c).line (InvAck c k))))) h
    at (Some (WbData v k)) = back v (dir_choice d w.directory.desc met.Wb) refl

there_below : (xs : List DirLine) (k : ℕ) (x : DirLine) → slice_get xs k ≡ Some x → k < length xs
there_below [] k x e = cc
there_below (y ∷ ys) zero x e = omega arith
there_below (y ∷ ys) (suc k) x e = let rest = there_below ys k x e in omega (arith, rest)

-- and it holds of the opening
pub opening_dir_state : (d : Draft) (given : List (List Op)) → IsWellFormed d → IsShaped d → HasDirState d (opening d given)
opening_dir_state d given wf sh =
    let (k, is_it) = (start_is_sound d 0 wf sh).kind in
    let (l, get, same) = map_or_get (λ l. same_kind k l.kind) (slice_get d.dirs (initial_entry d).dir) is_it in
    declared_is_dir_state d (initial_entry d).dir (lt-ltb (initial_entry d).dir (length d.dirs) (there_below d.dirs (initial_entry d).dir l get))

-- One row

get_mapped : {X Y : Type 0} (f : X → Y) (xs : List X) (k : ℕ) (x : X) → slice_get xs k ≡ Some x → slice_get (map f xs) k ≡ Some (f x)
get_mapped f [] k x e = cc
get_mapped f (y ∷ ys) zero x e = let same : y ≡ x = cc in ap (λ y. Some (f y)) same
get_mapped f (y ∷ ys) (suc k) x e = get_mapped f ys k x e

pub directory_has_row : (d : Draft) (x : DirDesc) (i : DirInput) (ch : DirChoice) → list_any (same_dir_desc x) (dir_descs d) ≡ true → dir_choice d x i ≡ Some ch → HasDirRow d x i
directory_has_row d x i ch there chosen =
    let k = dir_number_of (dir_descs d) x in
    let made : DirGenState = record { desc = x; rows = dir_rows d x } in
    let first = get_mapped (λ s. record { desc = s; rows = dir_rows d s }) (dir_descs d) (dir_number_of (dir_descs d) x) x (dir_number_of_at (dir_descs d) x there) in
    let get = get_mapped (dir_table_state (dir_descs d)) (dir_generated_states d) (dir_number_of (dir_descs d) x) made first in
    record {
      place = k;
      state = dir_table_state (dir_descs d) made;
      stands = get;
      is_it = refl;
      row = dir_table_row (dir_descs d) (record { input = i; choice = ch });
      one = one_row d k (dir_table_state (dir_descs d) made) i ch get chosen;
    }

-- each request, while the directory isn't busy
pub request_row : (d : Draft) (n : ℕ) (w : World) (m : ℕ → Mark) (c : ℕ) (a : SentRequest) → IsWellFormed d → IsShaped d → IsOrderly d n w m → HasDirState d w → c < n → (core w c).slot ≡ Some a → is_busy w.directory.desc ≡ false
    → HasDirRow d w.directory.desc (dir_input w.directory.desc (dir_entry_of w.directory) (record { core = c; event = a.event }))
request_row d n w m c a wf sh o directory low slot free =
    let (ch, there, does) = request_due d n w m c a wf sh o low slot free in
    directory_has_row d w.directory.desc (dir_input w.directory.desc (dir_entry_of w.directory) (record { core = c; event = a.event })) ch directory there

-- and what is written back
pub wb_row : (d : Draft) (n : ℕ) (w : World) (m : ℕ → Mark) (i v k : ℕ) → IsOrderly d n w m → HasDirState d w → slice_get w.replies i ≡ Some (WbData v k) → HasDirRow d w.directory.desc met.Wb
wb_row d n w m i v k o directory get = let (busy, found) = wb_due d n w m i v k o get in directory_has_row d w.directory.desc met.Wb found.0 directory found.1
