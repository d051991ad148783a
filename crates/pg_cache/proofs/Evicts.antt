-- The row for the answer to an evict.
use Rattle.std.proofs.Common.{◌≡◌, ℕ, true, false, List, [], ◌∷◌, ◌++◌, set, get_or, Option, Some, None, refl, sym, ap, subst, ◌∙◌}
use Rattle.std.specs.Prelude.{is_some}
use Rattle.std.specs.Option.{option_map, option_and_then}
use Rattle.std.proofs.lemmas.List.{append-nil, set-get_or}
use Rattle.pg_perm.specs.declared.kinds.Event.TheVariants.{Load, Store, Evict}
use Rattle.pg_perm.specs.declared.kinds.Op.{Op}
use Rattle.pg_perm.specs.declared.draft.Draft.{Draft}
use Rattle.pg_table.specs.declared.cache.Desc.{Desc}
use Rattle.pg_table.specs.declared.cache.Desc.TheVariants.{Stable, Ask, Leave}
use Rattle.pg_table.specs.declared.cache.Phase.TheVariants.{D, Ad, Ac, A}
use Rattle.pg_table.specs.declared.cache.Input.TheVariants as at
use Rattle.pg_table.specs.declared.cache.Act.{Act}
use Rattle.pg_table.specs.declared.cache.Act.TheVariants as act
use Rattle.pg_table.specs.Controllers.{state_at}
use Rattle.pg_table.specs.Tables.{Row, Parts, find_row}
use Rattle.pg_table.specs.Sound.{IsSoundCache}
use Rattle.pg_table.specs.Choices.{Choice, choices}
use Rattle.pg_table.specs.Pick.{pick, choice_in}
use Rattle.pg_table.proofs.Picked.{picks_choice}
use Rattle.pg_messages.specs.declared.messages.Ordered.{Ordered}
use Rattle.pg_messages.specs.declared.messages.Ordered.TheVariants.{Forward, AckCount, PutAck}
use Rattle.pg_controllers.specs.Networks.{Line}
use Rattle.pg_controllers.specs.Lines.{Received, LineResult, complete_pending, do_acts, ordered_input}
use Rattle.pg_queue.specs.Nets.{Nets}
use Rattle.pg_cache.specs.Acts.{LineView, done_alone}
use Rattle.pg_cache.specs.Rows.{RowResult, HasOutstanding, IsMadeWith, finish_of, after_choice, after_pick, after_row}
use Rattle.pg_cache.specs.Inputs.{IsPutAck}
use Rattle.pg_cache.proofs.Outcomes.{Goes, Outcome, outcomes, Each, each_get}
use Rattle.pg_cache.proofs.Unique.{number_is, is_there}
use Rattle.pg_cache.proofs.Completed.{goes_done, done_carries, kept}

abbrev Dones : Choice → Type 0
Dones c = c.acts ≡ act.Done ∷ []

ends_alone : (d : Draft) (s : Desc) → Each Dones (choices d s at.PutAck)
ends_alone d (Stable s) = tt
ends_alone d (Ask Load s D t) = tt
ends_alone d (Ask Load s Ad t) = tt
ends_alone d (Ask Load s Ac t) = tt
ends_alone d (Ask Load s A t) = tt
ends_alone d (Ask Store s D t) = tt
ends_alone d (Ask Store s Ad t) = tt
ends_alone d (Ask Store s Ac t) = tt
ends_alone d (Ask Store s A t) = tt
ends_alone d (Ask Evict s p t) = tt
ends_alone d (Leave s) = (refl, tt)

-- Its one act is to end the pending operation
pub end_picked : (t : Parts) (x : LineView) (c : Choice) → IsSoundCache t.protocol t.cache → IsMadeWith t x → pick t.cache x.line.desc at.PutAck ≡ Some c → c.acts ≡ act.Done ∷ []
end_picked t x c sound made picked =
    let (k, get) = picks_choice t.protocol t.cache x.line.desc at.PutAck c sound (is_there t.cache x.state x.line.desc made) picked in
    each_get Dones (choices t.protocol x.line.desc at.PutAck) k c (ends_alone t.protocol x.line.desc) get

-- a choice that only ends the pending operation leaves the networks
alone : (d : Draft) (s : Desc) (n : ℕ) (m : Received) (x : LineView) (w : Nets)
    → after_choice d (record { acts = act.Done ∷ []; next = s }) n m x w ≡ record { line = record x { line = record (done_alone m x).line { desc = s }; state = n }; nets = w; done = (done_alone m x).done }
alone d s n m x w = by x.line.pending
  where
    in_nets : LineResult → RowResult
    in_nets a = record { line = record x { line = record a.line { desc = s }; state = n }; nets = record w { slots = set w.slots x.core a.slot; replies = w.replies ++ a.replies }; done = a.done }

    by_itself : LineResult → RowResult
    by_itself a = record { line = record x { line = record a.line { desc = s }; state = n }; nets = w; done = a.done }

    by : (o : Option Op) → in_nets (complete_pending o m (record { line = x.line; slot = get_or w.slots x.core None; replies = []; done = None }))
        ≡ by_itself (complete_pending o m (record { line = x.line; slot = None; replies = []; done = None }))
    by None = rw (set-get_or w.slots x.core None, append-nil w.replies) refl
    by (Some o) = rw (set-get_or w.slots x.core None, append-nil w.replies) refl

pub some_is : {A : Type 0} (o : Option A) → is_some o ≡ true → (x : A) × (o ≡ Some x)
some_is None h = cc
some_is (Some x) h = (x, refl)

pub ends_so : (t : Parts) (m : Received) (x : LineView) (w : Nets) (r : Row) (s : Desc) → IsSoundCache t.protocol t.cache → IsMadeWith t x → is_some (pick t.cache x.line.desc at.PutAck) ≡ true
    → find_row t.cache x.state at.PutAck ≡ Some r → state_at t.cache r.next ≡ Some s
    → record { line = record x { line = record (done_alone m x).line { desc = s }; state = r.next }; nets = w; done = (done_alone m x).done } ≡ after_row t at.PutAck m x w
ends_so t m x w r s sound made some found there =
    let picked : pick t.cache x.line.desc at.PutAck ≡ Some (record { acts = r.acts; next = s }) =
    ap (λ (n : ℕ). option_and_then (choice_in t.cache) (find_row t.cache n at.PutAck)) (number_is t.cache x.state x.line.desc sound.distinct made)
    ∙ ap (option_and_then (choice_in t.cache)) found
    ∙ ap (λ (o : Option Desc). option_map (λ s. record { acts = r.acts; next = s }) o) there in
    let acts : r.acts ≡ act.Done ∷ [] = end_picked t x (record { acts = r.acts; next = s }) sound made picked in
    sym (alone t.protocol s r.next m x w)
    ∙ ap (λ (xs : List Act). after_choice t.protocol (record { acts = xs; next = s }) r.next m x w) (sym acts)
    ∙ ap (λ (n : ℕ). after_choice t.protocol (record { acts = r.acts; next = s }) n m x w) (sym (number_is t.cache r.next s sound.distinct there))
    ∙ ap (after_pick t.protocol t.cache m x w) (sym picked)

pub end_finds : (t : Parts) (x : LineView) → IsSoundCache t.protocol t.cache → IsMadeWith t x → is_some (pick t.cache x.line.desc at.PutAck) ≡ true → find_row t.cache x.state at.PutAck ≡ None → ⊥
end_finds t x sound made some none =
    let nothing : is_some (pick t.cache x.line.desc at.PutAck) ≡ false =
    ap (λ (n : ℕ). is_some (option_and_then (choice_in t.cache) (find_row t.cache n at.PutAck))) (number_is t.cache x.state x.line.desc sound.distinct made)
    ∙ ap (λ (o : Option Row). is_some (option_and_then (choice_in t.cache) o)) none in
    cc (nothing, some)

-- What the answer to an evict completes

abbrev pub no_nets : Nets
no_nets = record { slots = []; lists = []; replies = [] }

pub end_some : (t : Parts) (m : Received) (x : LineView) (c : Choice) → IsSoundCache t.protocol t.cache → IsMadeWith t x → HasOutstanding x.line → pick t.cache x.line.desc at.PutAck ≡ Some c
    → is_some (done_alone m x).done ≡ true
end_some t m x c sound made has picked =
    let (k, get) = picks_choice t.protocol t.cache x.line.desc at.PutAck c sound (is_there t.cache x.state x.line.desc made) picked in
    let goes : Goes t.protocol x.line.desc c true = each_get (Outcome t.protocol x.line.desc at.PutAck) (choices t.protocol x.line.desc at.PutAck) k c (outcomes t.protocol x.line.desc at.PutAck) get in
    let only = end_picked t x c sound made picked in
    ap (λ (xs : List Act). is_some (do_acts t.protocol m xs (record { line = x.line; slot = None; replies = []; done = None })).done) (sym only)
    ∙ goes_done t.protocol m x no_nets c true has goes

pub end_carries : (m : Received) (x : LineView) → finish_of m (option_map (λ f. f.fin) (done_alone m x).done) ≡ (done_alone m x).done
end_carries m x = done_carries m x.line.pending (record { line = x.line; slot = None; replies = []; done = None }) refl

pub end_kept : (t : Parts) (m : Received) (x : LineView) (w : Nets) (c : Choice) → IsSoundCache t.protocol t.cache → IsMadeWith t x → HasOutstanding x.line → pick t.cache x.line.desc at.PutAck ≡ Some c
    → HasOutstanding (after_row t at.PutAck m x w).line.line
end_kept t m x w c sound made has picked =
    let (k, get) = picks_choice t.protocol t.cache x.line.desc at.PutAck c sound (is_there t.cache x.state x.line.desc made) picked in
    let outcome = each_get (Outcome t.protocol x.line.desc at.PutAck) (choices t.protocol x.line.desc at.PutAck) k c (outcomes t.protocol x.line.desc at.PutAck) get in
    subst (λ (r : RowResult). HasOutstanding r.line.line) (sym (ap (after_pick t.protocol t.cache m x w) picked)) (kept t.protocol at.PutAck m x w c tt has outcome)

pub putack_input : (l : Line) (m : Ordered) → IsPutAck m → at.PutAck ≡ ordered_input l m
putack_input l (Forward f r n k) h = absurd h
putack_input l (AckCount n k) h = absurd h
putack_input l (PutAck k) h = refl
