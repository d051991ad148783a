-- What is enabled in a block is what is enabled in its world.
use Rattle.std.proofs.Common.{◌≡◌, ℕ, ◌<◌, ◌≤◌, Bool, true, false, ◌&&◌, List, [], ◌∷◌, length, Option, Some, None, refl, sym, ap, ◌∙◌, ◌⊎◌, inl, inr}
use Rattle.std.specs.Prelude.{nat_lt, not, is_some, slice_get, get_or}
use Rattle.std.specs.List.{list_any}
use Rattle.std.specs.Option.{option_map_or, option_and_then}
use Rattle.std.proofs.lemmas.Bool.{lt-ltb, le-ltb}
use Rattle.pg_perm.specs.declared.draft.Draft.{Draft}
use Rattle.pg_table.specs.declared.cache.Desc.{Desc}
use Rattle.pg_table.specs.declared.cache.Input.{Input}
use Rattle.pg_table.specs.Tables.{Row, TableState, number_of, find_row}
use Rattle.pg_table.specs.Controllers.{state_at}
use Rattle.pg_table.specs.Sound.{states_of, is_among, IsSoundCache}
use Rattle.pg_table.specs.Stalls.{is_stall}
use Rattle.pg_table.specs.Pick.{choice_in, pick}
use Rattle.pg_table.proofs.Numbers.{number_of_at}
use Rattle.pg_table.proofs.Lists.{get_map}
use Rattle.pg_table.proofs.SoundRows.{found_is_picked, state_at_number}
use Rattle.pg_messages.specs.declared.messages.Ordered.{Ordered}
use Rattle.pg_messages.specs.declared.messages.WorldEvent.{WorldEvent}
use Rattle.pg_messages.specs.declared.messages.WorldEvent.TheVariants.{Issue, Request as Request_of, Ordered as Ordered_to, Reply as Reply_at}
use Rattle.pg_controllers.specs.Networks.{Core, idle_core}
use Rattle.pg_controllers.specs.Lines.{ordered_input}
use Rattle.pg_controllers.specs.Directories.{is_busy}
use Rattle.pg_controllers.specs.Worlds.{core, waits, has_head, is_stable, is_enabled}
use Rattle.pg_cache.specs.Rows.{IsMadeWith}
use Rattle.pg_block.specs.Blocks.{Block, world_of, line_at, program_at, head_of, request_slot, heads, enabled_at}
use Rattle.pg_world.specs.Kept.{IsKept}
use Rattle.pg_block.proofs.Joined.{core_is}
use Rattle.pg_world.proofs.Ready.{sound_block, line_in, below_given, is_within, past}

-- a row that is found is the one that is picked
stall_is : (d : Draft) (t : List TableState) (s : Desc) (i : Input) → IsSoundCache d t → is_among (states_of t) s ≡ true
    → option_map_or (λ (r : Row). list_any is_stall r.acts) (find_row t (number_of (states_of t) s) i) false ≡ waits (pick t s i)
stall_is d t s i sound among = at (find_row t (number_of (states_of t) s) i) refl
  where
    at : (o : Option Row) → find_row t (number_of (states_of t) s) i ≡ o → option_map_or (λ (r : Row). list_any is_stall r.acts) (find_row t (number_of (states_of t) s) i) false ≡ waits (pick t s i)
    at None e = ap (λ (o : Option Row). option_map_or (λ (r : Row). list_any is_stall r.acts) o false) e ∙ sym (ap (λ (o : Option Row). waits (option_and_then (choice_in t) o)) e)
    at (Some r) e =
        let (x, get, is) = get_map (λ (x : TableState). x.desc) t (number_of (states_of t) s) s (number_of_at (states_of t) s among) in
        let (c, picked, acts, next) = found_is_picked d t (number_of (states_of t) s) x i r sound get e in
        ap (λ (o : Option Row). option_map_or (λ (r : Row). list_any is_stall r.acts) o false) e ∙ ap (list_any is_stall) acts
        ∙ sym (ap (λ (z : Desc). waits (pick t z i)) (sym is) ∙ ap waits picked)

among_at : (b : Block) (c : ℕ) → IsKept b → c < length b.lines → is_among (states_of b.tables.cache) (line_at b c).line.desc ≡ true
among_at b c k low = let full = (sound_block b k).complete.states c (below_given b c k low) in sym (ap (λ l. is_among (states_of b.tables.cache) l.desc) (line_in b c k.fitted.sized)) ∙ full

pub made_at : (b : Block) (c : ℕ) → IsKept b → c < length b.lines → IsMadeWith b.tables (line_at b c)
made_at b c k low =
    ap (state_at b.tables.cache) (k.fitted.lines c low).state
    ∙ state_at_number b.tables.protocol b.tables.cache (line_at b c).line.desc k.reached.sound (among_at b c k low)

head_is : (b : Block) (c : ℕ) (ms : List Ordered) → IsKept b → c < length b.lines → heads b.tables (line_at b c) (slice_get ms 0) ≡ has_head (pick b.tables.cache) (line_at b c).line ms
head_is b c [] k low = refl
head_is b c (m ∷ ms) k low = ap not (stall_is b.tables.protocol b.tables.cache (line_at b c).line.desc (ordered_input (line_at b c).line m) k.reached.sound (among_at b c k low))

-- a test of a core, which says no of a core that isn't there
by_place : (b : Block) (c : ℕ) (here : Bool) (test : Core → Bool) → IsKept b → test idle_core ≡ false → (c < length b.lines → here ≡ test (core (world_of b) c))
    → nat_lt c (length b.lines) && here ≡ test (core (world_of b) c)
by_place b c here test k idle same = at (is_within c (length b.lines))
  where
    at : (c < length b.lines) ⊎ (length b.lines ≤ c) → nat_lt c (length b.lines) && here ≡ test (core (world_of b) c)
    at (inl low) = ap (λ (x : Bool). x && here) (lt-ltb c (length b.lines) low) ∙ same low
    at (inr high) = ap (λ (x : Bool). x && here) (le-ltb c (length b.lines) high) ∙ sym (ap test (past b c k.fitted.sized high) ∙ idle)

pub enabled_is : (b : Block) (e : WorldEvent) → IsKept b → enabled_at e b ≡ is_enabled (pick b.tables.cache) (world_of b) e
enabled_is b (Issue c) k =
    by_place b c (is_stable (line_at b c).line.desc && nat_lt 0 (length (program_at b c).left)) (λ (x : Core). is_stable x.line.desc && nat_lt 0 (length x.left)) k refl
    (λ low. sym (ap (λ (x : Core). is_stable x.line.desc && nat_lt 0 (length x.left)) (core_is b c k.fitted.sized)))
enabled_is b (Request_of c) k =
    by_place b c (is_some (request_slot b c) && not (is_busy b.directory.directory.desc)) (λ (x : Core). is_some x.slot && not (is_busy b.directory.directory.desc)) k refl
    (λ low. sym (ap (λ (x : Core). is_some x.slot && not (is_busy b.directory.directory.desc)) (core_is b c k.fitted.sized)))
enabled_is b (Ordered_to c) k =
    by_place b c (heads b.tables (line_at b c) (head_of b c)) (λ (x : Core). has_head (pick b.tables.cache) x.line x.queue) k refl
    (λ low. head_is b c (get_or b.nets.lists c []) k low ∙ sym (ap (λ (x : Core). has_head (pick b.tables.cache) x.line x.queue) (core_is b c k.fitted.sized)))
enabled_is b (Reply_at i) k = refl
