-- Where stores begin, and that they end elsewhere than in out.
use Rattle.std.proofs.Common.{◌≡◌, ◌≢◌, ℕ, ◌<◌, Bool, true, false, cond, ◌&&◌, inl, inr, List, [], ◌∷◌, length, map, Option, Some, refl, sym, ap, ◌∙◌, subst}
use Rattle.std.specs.Prelude.{◌==◌, nat_lt, slice_get, unwrap_or, find}
use Rattle.std.specs.List.{list_all}
use Rattle.std.specs.Option.{option_map, option_map_or}
use Rattle.std.proofs.lemmas.Bool.{eq-eqb, and_parts}
use Rattle.std.proofs.lemmas.Option.{slice_get_within}
use Rattle.pg_perm.specs.declared.kinds.Event.{Event}
use Rattle.pg_perm.specs.declared.kinds.Event.TheVariants.{Load, Store, Evict}
use Rattle.pg_perm.specs.declared.kinds.Perm.{Perm}
use Rattle.pg_perm.specs.declared.kinds.Perm.TheVariants as perm
use Rattle.pg_perm.specs.declared.draft.Draft.{Draft}
use Rattle.pg_perm.specs.declared.draft.CacheLine.{CacheLine}
use Rattle.pg_perm.specs.declared.draft.CoreLine.{CoreLine}
use Rattle.pg_perm.specs.declared.draft.CoreForm.TheVariants as form
use Rattle.pg_perm.specs.declared.draft.Pair.{Pair}
use Rattle.pg_perm.specs.declared.draft.ReplyName.{ReplyName}
use Rattle.pg_perm.specs.declared.draft.ReplyName.TheVariants as reply
use Rattle.pg_perm.specs.Drafts.{has_cache, has_core_form, has_core, has_take, has_row, IsWellFormed}
use Rattle.pg_perm.specs.Words.{cache_name}
use Rattle.pg_terms.specs.Terms.{same_event, is_out, is_shared, is_owner, is_none_perm, is_read_perm, is_write_perm, is_read_owner, is_write_owner, cache_is, out, shared, core_row}
use Rattle.pg_terms.specs.Due.{same_reply}
use Rattle.pg_shape.specs.CoreRules.{is_dirty_writer}
use Rattle.pg_terms.specs.Rows.{allows, final_under}
use Rattle.pg_shape.specs.Shaped.{HasPerms, IsShaped}
use Rattle.pg_shape.proofs.Searches.{not_both, find_get, position_get, map_or_get, all_at}
use Rattle.pg_directory.proofs.Facts.{out_no_writer}
use Rattle.pg_table.specs.Descriptors.{out_state, final_states_in, final_states}
use Rattle.pg_table.proofs.Members.{IsStart}
use Rattle.pg_print.specs.Names.{first_name}

-- The states in which a store asks

none_no_write : (p : Perm) → is_none_perm p ≡ true → is_write_perm p ≡ false
none_no_write perm.None h = refl
none_no_write perm.Read h = refl
none_no_write perm.Write h = absurd cc

read_no_write : (p : Perm) → is_read_perm p ≡ true → is_write_perm p ≡ false
read_no_write perm.None h = refl
read_no_write perm.Read h = refl
read_no_write perm.Write h = absurd cc

-- the state is there, and allows no store
abbrev Denies : Draft → ℕ → Type 0
Denies d s = (c : CacheLine) × (slice_get d.caches s ≡ Some c) × (allows Store c ≡ false)

out_denies : (d : Draft) → HasPerms d → (s : ℕ) → out d ≡ Some s → Denies d s
out_denies d perms s e =
    let (c, get, h) = (position_get (λ c. is_out c.role) d.caches s e).1 in
    (c, get, none_no_write c.perm (perms.out_none s c get h).1)

shared_denies : (d : Draft) → HasPerms d → (s : ℕ) → shared d ≡ Some s → Denies d s
shared_denies d perms s e =
    let (c, get, h) = (position_get (λ c. is_shared c.role) d.caches s e).1 in
    (c, get, read_no_write c.perm (perms.shared_read s c get h).1)

reader_denies : (d : Draft) (s : ℕ) → cache_is is_read_owner d s ≡ true → Denies d s
reader_denies d s h =
    let (c, get, reads) = map_or_get is_read_owner (slice_get d.caches s) h in
    (c, get, read_no_write c.perm (and_parts (is_owner c.role) (is_read_perm c.perm) reads).1)

start_denies : (d : Draft) → HasPerms d → (s : ℕ) → IsStart d s → Denies d s
start_denies d perms s (inl e) = out_denies d perms s e
start_denies d perms s (inr (inl e)) = shared_denies d perms s e
start_denies d perms s (inr (inr h)) = reader_denies d s h

-- Where they end

reply_itself : (r : ReplyName) → same_reply r r ≡ true
reply_itself reply.AckCount = refl
reply_itself (reply.Reply m) = eq-eqb m m refl

asks_some : (d : Draft) (event : Event) (request : ℕ) (pairs : List Pair) → has_core_form d event (form.Ask request pairs) ≡ true
    → nat_lt 0 (length pairs) ≡ true
asks_some d Load request pairs h = (and_parts _ (nat_lt 0 (length pairs)) h).1
asks_some d Store request pairs h = (and_parts _ (nat_lt 0 (length pairs)) h).1
asks_some d Evict request pairs h = absurd cc

-- a line of a draft is in a form
row_formed : (d : Draft) → IsWellFormed d → (s : ℕ) (event : Event) (x : CoreLine) → core_row d s event ≡ Some x → has_core_form d x.event x.form ≡ true
row_formed d w s event x row =
    let (k, at, h) = find_get (λ c. (c.state == s) && same_event c.event event) d.cores x row in
    let all = and_parts (list_all (λ l. list_all (has_cache d) l.beside) d.dirs && list_all (has_core d) d.cores && list_all (has_take d) d.takes) (list_all (has_row d) d.rows) w.numbers in
    let cores = and_parts (list_all (λ l. list_all (has_cache d) l.beside) d.dirs) (list_all (has_core d) d.cores)
    (and_parts (list_all (λ l. list_all (has_cache d) l.beside) d.dirs && list_all (has_core d) d.cores) (list_all (has_take d) d.takes) all.0).0 in
    (and_parts (has_cache d x.state) (has_core_form d x.event x.form) (all_at (has_core d) d.cores k x cores.1 at)).1

-- an owner that may write isn't out
writer_not_out : (d : Draft) → HasPerms d → (f : ℕ) → cache_is is_dirty_writer d f ≡ true → f ≢ out_state d
writer_not_out d perms f h e =
    let (o, is_o) = perms.start in
    let same : out_state d ≡ o = ap (λ (x : Option ℕ). unwrap_or x 0) is_o in
    let is_f : out d ≡ Some f = is_o ∙ ap (λ (n : ℕ). Some n) (sym (e ∙ same)) in
    let (c, get, dirty) = map_or_get is_dirty_writer (slice_get d.caches f) h in
    let writes : cache_is is_write_owner d f ≡ true = ap (λ (o : Option CacheLine). option_map_or is_write_owner o false) get ∙ (and_parts (is_write_owner c) _ dirty).0 in
    not_both (cache_is is_write_owner d f) writes (out_no_writer d f is_f)

-- the states of these numbers have a first, whose name is that of a state other than out
abbrev pub EndsIn : Draft → List ℕ → Type 0
EndsIn d ss = (f : ℕ) × (first_name d ss ≡ cache_name d f) × (f < length d.caches) × (f ≢ out_state d)

-- a state in which a store asks is there, and the store ends in another than out
pub start_ends : (d : Draft) → IsWellFormed d → IsShaped d → (s : ℕ) → IsStart d s → (s < length d.caches) × EndsIn d (final_states d s Store)
start_ends d w shaped s h =
    let (c, get, denied) = start_denies d shaped.perms s h in
    let (x, row) = shaped.cores.row s Store c get (λ e. absurd cc) in
    let (request, pairs, asks, first) = shaped.cores.store s x c get row denied in
    let formed : has_core_form d x.event (form.Ask request pairs) ≡ true = ap (has_core_form d x.event) (sym asks) ∙ row_formed d w s Store x row in
    let ends : final_states d s Store ≡ map (λ p. p.fin) pairs = ap (λ (o : Option CoreLine). option_map_or (λ l. final_states_in l.form) o []) row ∙ ap final_states_in asks in
    let P : List ℕ → Type 0 = EndsIn d in
    (slice_get_within d.caches s c get, subst P (sym ends) (at x row request pairs asks (asks_some d x.event request pairs formed)))
  where
    at : (x : CoreLine) → core_row d s Store ≡ Some x → (request : ℕ) (pairs : List Pair) → x.form ≡ form.Ask request pairs → nat_lt 0 (length pairs) ≡ true
        → EndsIn d (map (λ p. p.fin) pairs)
    at x row request [] asks some = absurd cc
    at x row request (p ∷ ps) asks some =
        let under : final_under p.reply x.form ≡ Some p.fin = ap (final_under p.reply) asks
        ∙ ap (λ (b : Bool). option_map (λ (q : Pair). q.fin) (cond b (Some p) (find (λ q. same_reply q.reply p.reply) ps))) (reply_itself p.reply) in
        let dirty = (shaped.cores.store_final s p.fin p.reply x row under).0 in
        let (line, found, writes) = map_or_get is_dirty_writer (slice_get d.caches p.fin) dirty in
        (p.fin, refl, slice_get_within d.caches p.fin line found, writer_not_out d shaped.perms p.fin dirty)
