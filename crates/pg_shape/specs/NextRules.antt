-- The rule on the directory state to which a row line leads.
-- S17: a next state that isn't the one of the table in docs/TEXT.md.
use Rattle.std.specs.Prelude.{ℕ, Bool, true, not, ◌&&◌, ◌||◌, List, Option, None}
use Rattle.std.specs.List.{list_all}
use Rattle.std.specs.Option.{option_map_or, option_and_then}
use Rattle.pg_perm.specs.declared.kinds.DirKind.TheVariants as kind
use Rattle.pg_perm.specs.declared.kinds.Event.{Event}
use Rattle.pg_perm.specs.declared.kinds.Event.TheVariants.{Load, Store}
use Rattle.pg_perm.specs.declared.kinds.Who.{Who}
use Rattle.pg_perm.specs.declared.kinds.Who.TheVariants.{Other, Sharer, Owner}
use Rattle.pg_perm.specs.declared.kinds.Left.{Left}
use Rattle.pg_perm.specs.declared.kinds.Left.TheVariants.{Last, More}
use Rattle.pg_perm.specs.declared.kinds.ReqClass.TheVariants.{Read, Write}
use Rattle.pg_perm.specs.declared.kinds.FwdClass.TheVariants.{Share, Keep, Drop}
use Rattle.pg_perm.specs.declared.draft.Draft.{Draft}
use Rattle.pg_perm.specs.declared.draft.CoreLine.{CoreLine}
use Rattle.pg_perm.specs.declared.draft.ReplyName.TheVariants as reply
use Rattle.pg_perm.specs.declared.draft.RowLine.{RowLine}
use Rattle.pg_perm.specs.declared.draft.RowForm.{RowForm}
use Rattle.pg_perm.specs.declared.draft.RowForm.TheVariants as form
use Rattle.pg_perm.specs.declared.draft.Action.{Action}
use Rattle.pg_perm.specs.declared.draft.Action.TheVariants as action
use Rattle.pg_terms.specs.Terms.{is_owner, is, is_read_owner, cache_is, out, shared, request_of, has_class, listed_states, lists, core_row, keep_of}
use Rattle.pg_terms.specs.Due.{kind_is}
use Rattle.pg_terms.specs.Rows.{final_under, reply_to}

-- what isn't there passes
abbrev pub is_none_or : (ℕ → Bool) → Option ℕ → Bool
is_none_or test o = option_map_or test o true

-- the core row of the requestor: that of out for another, that of shared for a sharer
abbrev pub requestor_row : Draft → Event → Who → Option CoreLine
requestor_row d event Other = option_and_then (λ s. core_row d s event) (out d)
requestor_row d event Sharer = option_and_then (λ s. core_row d s event) (shared d)
requestor_row d event Owner = None

-- the final state of the requestor, under a reply
abbrev pub requestor_final : Draft → Event → Who → ℕ → Option ℕ
requestor_final d event who m = option_and_then (λ c. final_under (reply.Reply m) c.form) (requestor_row d event who)

-- the final state of the requestor, where an owner in a state answers
abbrev pub requestor_final_by : Draft → Event → Who → ℕ → ℕ → Option ℕ
requestor_final_by d event who f s = option_and_then (requestor_final d event who) (reply_to d s f)

-- the final state of a store of an owner
abbrev pub owner_store_final : Draft → ℕ → Option ℕ
owner_store_final d s = option_and_then (λ c. final_under reply.AckCount c.form) (core_row d s Store)

-- the directory state lists the cache state, which is an owner
abbrev pub lists_owner : Draft → ℕ → ℕ → Bool
lists_owner d n s = lists d n s && cache_is (λ c. is_owner c.role) d s

-- a load that memory answers: to kind shared where it ends shared, and from idle to an owned state that lists where it ends, which is an owner
abbrev pub is_read_end : Draft → RowLine → ℕ → Bool
is_read_end d r s = (kind_is kind.Shared d r.next && is (shared d) s)
    || (kind_is kind.Idle d r.dir && kind_is kind.Owned d r.next && lists_owner d r.next s)

abbrev pub reads_memory : Draft → RowLine → Who → ℕ → Bool
reads_memory d r who m = is_none_or (is_read_end d r) (requestor_final d Load who m)

-- a load that an owner answers ends shared
abbrev pub is_shared_by : Draft → Who → ℕ → ℕ → Bool
is_shared_by d who f s = is_none_or (is (shared d)) (requestor_final_by d Load who f s)

abbrev pub are_shared : Draft → Who → ℕ → List ℕ → Bool
are_shared d who f owners = list_all (is_shared_by d who f) owners

-- the state that the keep forward leads an owner to is listed
abbrev pub is_kept : Draft → ℕ → ℕ → Bool
is_kept d next s = is_none_or (lists d next) (keep_of d s)

abbrev pub are_kept : Draft → ℕ → List ℕ → Bool
are_kept d next owners = list_all (is_kept d next) owners

-- the state in which a load ends that an owner answers is listed, and is an owner
abbrev pub is_owner_by : Draft → Who → ℕ → ℕ → ℕ → Bool
is_owner_by d who next f s = is_none_or (lists_owner d next) (requestor_final_by d Load who f s)

abbrev pub are_owners : Draft → Who → ℕ → ℕ → List ℕ → Bool
are_owners d who next f owners = list_all (is_owner_by d who next f) owners

-- the state in which a store ends that an owner answers is listed
abbrev pub is_listed_by : Draft → Who → ℕ → ℕ → ℕ → Bool
is_listed_by d who next f s = is_none_or (lists d next) (requestor_final_by d Store who f s)

abbrev pub are_listed : Draft → Who → ℕ → ℕ → List ℕ → Bool
are_listed d who next f owners = list_all (is_listed_by d who next f) owners

-- the state in which a store of a read owner ends is listed
abbrev pub is_upgrade_listed : Draft → ℕ → ℕ → Bool
is_upgrade_listed d next s = is_none_or (λ t. not (cache_is is_read_owner d s) || lists d next t) (owner_store_final d s)

abbrev pub are_upgraded : Draft → ℕ → List ℕ → Bool
are_upgraded d next owners = list_all (is_upgrade_listed d next) owners

-- a directory state lists all these states
abbrev pub lists_each : Draft → ℕ → List ℕ → Bool
lists_each d next states = list_all (lists d next) states

-- a load that is passed on to the owner, which becomes a sharer
abbrev pub leads_to_shared : Draft → RowLine → Who → ℕ → Bool
leads_to_shared d r who f = kind_is kind.Shared d r.next && are_shared d who f (listed_states d r.dir)

-- a load that is passed on to the owner, which stays the owner
abbrev pub leads_to_mixed : Draft → RowLine → Who → ℕ → Bool
leads_to_mixed d r who f = kind_is kind.Mixed d r.next && are_kept d r.next (listed_states d r.dir) && are_shared d who f (listed_states d r.dir)

-- a load that is passed on to the owner, which gives its copy to the requestor
abbrev pub leads_to_owned : Draft → RowLine → Who → ℕ → Bool
leads_to_owned d r who f = kind_is kind.Owned d r.next && are_owners d who r.next f (listed_states d r.dir)

abbrev pub reads_owner : Draft → RowLine → Who → ℕ → Bool
reads_owner d r who f = (not (has_class Share d f) || leads_to_shared d r who f) && (not (has_class Keep d f) || leads_to_mixed d r who f)
    && (not (has_class Drop d f) || leads_to_owned d r who f)

-- a READ; that its action is none of these is another rule's
abbrev pub reads_rightly : Draft → RowLine → Who → Action → Bool
reads_rightly d r who (action.Reply m) = reads_memory d r who m
reads_rightly d r who (action.Forward f) = reads_owner d r who f
reads_rightly d r who action.Count = true

-- the state in which a store ends that memory answers is listed
abbrev pub is_final_listed : Draft → Who → ℕ → ℕ → Bool
is_final_listed d who next m = is_none_or (lists d next) (requestor_final d Store who m)

-- the states in which a store of another or of a sharer ends are listed
abbrev pub lists_writer : Draft → RowLine → Who → Action → Bool
lists_writer d r who (action.Reply m) = is_final_listed d who r.next m
lists_writer d r who (action.Forward f) = are_listed d who r.next f (listed_states d r.dir)
lists_writer d r who action.Count = true

abbrev pub writes_rightly : Draft → RowLine → Who → Action → Bool
writes_rightly d r Other action = kind_is kind.Owned d r.next && lists_writer d r Other action
writes_rightly d r Sharer action = kind_is kind.Owned d r.next && lists_writer d r Sharer action
writes_rightly d r Owner action = kind_is kind.Owned d r.next && are_upgraded d r.next (listed_states d r.dir)

-- a sharer gives its copy up where there is an owner: the owner stays
abbrev pub keeps_owner : Draft → RowLine → Left → Bool
keeps_owner d r Last = (kind_is kind.Mixed d r.next || kind_is kind.Owned d r.next) && lists_each d r.next (listed_states d r.dir)
keeps_owner d r More = kind_is kind.Mixed d r.next && lists_each d r.next (listed_states d r.dir)

-- who gives a copy up was the owner, or was a sharer and there is no owner
abbrev pub leaves_rightly : Draft → RowLine → Left → Bool
leaves_rightly d r Last = kind_is kind.Idle d r.next
leaves_rightly d r More = kind_is kind.Shared d r.next

abbrev pub evicts_rightly : Draft → RowLine → Who → Left → Bool
evicts_rightly d r Other left = true
evicts_rightly d r Sharer left = (not (kind_is kind.Shared d r.dir) || leaves_rightly d r left) && (not (kind_is kind.Mixed d r.dir) || keeps_owner d r left)
evicts_rightly d r Owner left = leaves_rightly d r left

-- a row line of this form leads to a directory state that it may; else it breaks S17
abbrev pub leads_rightly : Draft → RowLine → RowForm → Bool
leads_rightly d r (form.Ask request who action) = (not (is (request_of d Read) request) || reads_rightly d r who action)
    && (not (is (request_of d Write) request) || writes_rightly d r who action)
leads_rightly d r (form.Evict who left) = evicts_rightly d r who left
