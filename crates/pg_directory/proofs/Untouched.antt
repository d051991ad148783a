-- Cores that a request neither comes from nor sends a forward, and cores that evict.
use Rattle.std.proofs.Common.{◌≡◌, ◌≢◌, ◌<◌, ℕ, Bool, true, false, Option, Some, None, refl, sym, subst, ap, ◌∙◌}
use Rattle.std.specs.Prelude.{◌==◌, if◌then◌else◌}
use Rattle.pg_perm.specs.declared.kinds.Event.TheVariants.{Evict}
use Rattle.pg_perm.specs.declared.kinds.Who.{Who}
use Rattle.pg_perm.specs.declared.kinds.Who.TheVariants.{Other, Sharer, Owner}
use Rattle.pg_perm.specs.declared.kinds.FwdClass.TheVariants.{Inv}
use Rattle.pg_perm.specs.declared.draft.Draft.{Draft}
use Rattle.pg_perm.specs.declared.draft.RowLine.{RowLine}
use Rattle.pg_perm.specs.Drafts.{IsWellFormed}
use Rattle.pg_terms.specs.Terms.{is, lists, forward_of}
use Rattle.pg_shape.specs.Shaped.{IsShaped}
use Rattle.pg_directory.specs.DirEntries.{DirEntry, Request, is_among, who, entry_after_evict, entry_after_row, entry_after}
use Rattle.pg_directory.specs.Sends.{forward_sent}
use Rattle.pg_directory.specs.Sound.{IsSound, IsLegal, fits_as, fits}
use Rattle.pg_directory.specs.Kinds.{Kind, Stale, Read_shared, Read_owned, Read_share, Read_keep, Read_drop, Write_reply, Write_drop, Write_count, Evict_owner, Evict_sharer, entry_after_kind, to_holder, forward_by_kind, KindFacts}
use Rattle.pg_directory.proofs.Cores.{among_without_same}
use Rattle.pg_directory.proofs.Holders.{owner_of_who, sharer_of_who, is_same, who_of_other, one_owner}
use Rattle.pg_directory.proofs.DirKinds.{sharer_dir}
use Rattle.pg_directory.proofs.DueRows.{legal_request_has_row, stale_changes_nothing}
use Rattle.pg_directory.proofs.OfKind.{entry_after-some, legal_request_has_kind}
use Rattle.pg_directory.proofs.WhoAfter.{shared_who, dropped_who, other_who, other_after_kind}

-- where there is a sharer, there is an invalidation forward
pub sharer_inv : (d : Draft) (n : ℕ) (s : DirEntry) → IsShaped d → IsSound d n s → (c : ℕ) → is_among s.sharers c ≡ true → (f : ℕ) × (forward_of d Inv ≡ Some f)
sharer_inv d n s sh so c among =
    let (x, e) = sh.lists.has_shared s.dir (sharer_dir d n s so c among) in
    sh.forwards.inv x e

-- who is sent nothing by a share, or by a drop
not_shared : (w : Who) (f : ℕ) → to_holder w None (Some f) ≡ None → shared_who w ≡ w
not_shared Other f e = refl
not_shared Sharer f e = refl
not_shared Owner f e = absurd cc

not_dropped : (w : Who) (f : ℕ) → to_holder w None (Some f) ≡ None → dropped_who w ≡ w
not_dropped Other f e = refl
not_dropped Sharer f e = refl
not_dropped Owner f e = absurd cc

not_owner : (w : Who) (f : ℕ) → to_holder w None (Some f) ≡ None → w ≢ Owner
not_owner Other f e h = cc
not_owner Sharer f e h = cc
not_owner Owner f e h = cc

-- who is sent no invalidation, and isn't an owner who gets none, holds nothing
not_written : (d : Draft) (n : ℕ) (s : DirEntry) → IsShaped d → IsSound d n s → (c : ℕ) (o : Option ℕ) (w : Who) → who s c ≡ w → (w ≡ Owner → o ≢ None)
    → to_holder w (forward_of d Inv) o ≡ None → Other ≡ w
not_written d n s sh so c o Other e some none = refl
not_written d n s sh so c o Sharer e some none = let (f, inv) = sharer_inv d n s sh so c (sharer_of_who s c e).1 in absurd cc
not_written d n s sh so c o Owner e some none = absurd (some refl none)

-- where there is no owner nobody is the owner
not_ours : (s : DirEntry) (c : ℕ) → s.owner ≡ None → who s c ≢ Owner
not_ours s c none e = let owns = owner_of_who s c e in cc

-- where another core is the owner
not_theirs : (s : DirEntry) (r c : ℕ) → (r == c) ≡ false → who s r ≡ Owner → who s c ≢ Owner
not_theirs s r c ne mine e =
    let out : is s.owner c ≡ false = one_owner s.owner r c (owner_of_who s r mine) ne in
    let yes : is s.owner c ≡ true = is_same s.owner c (owner_of_who s c e) in
    cc

-- a core that isn't touched stays what it is
pub same_who_kind : (d : Draft) (n : ℕ) (s : DirEntry) → IsShaped d → IsSound d n s → (k : Kind) (r next c : ℕ) → (r == c) ≡ false → KindFacts d k r next s
    → forward_by_kind d k (who s c) ≡ None → other_who k (who s c) ≡ who s c
same_who_kind d n s sh so Stale r next c ne known quiet = refl
same_who_kind d n s sh so Read_shared r next c ne known quiet = refl
same_who_kind d n s sh so Read_owned r next c ne known quiet = refl
same_who_kind d n s sh so (Read_share f) r next c ne known quiet = not_shared (who s c) f quiet
same_who_kind d n s sh so (Read_keep f) r next c ne known quiet = refl
same_who_kind d n s sh so (Read_drop f) r next c ne known quiet = not_dropped (who s c) f quiet
same_who_kind d n s sh so Write_reply r next c ne known quiet =
    not_written d n s sh so c None (who s c) refl (λ e. absurd (not_ours s c known.0 e)) quiet
same_who_kind d n s sh so (Write_drop f) r next c ne known quiet = not_written d n s sh so c (Some f) (who s c) refl (λ e h. cc) quiet
same_who_kind d n s sh so Write_count r next c ne known quiet =
    not_written d n s sh so c None (who s c) refl (λ e. absurd (not_theirs s r c ne known.0 e)) quiet
same_who_kind d n s sh so Evict_owner r next c ne known quiet = refl
same_who_kind d n s sh so Evict_sharer r next c ne known quiet = refl

-- the states of an owner that isn't touched stay listed
pub same_lists_kind : (d : Draft) (s : DirEntry) (k : Kind) (r next c : ℕ) → (r == c) ≡ false → KindFacts d k r next s → forward_by_kind d k (who s c) ≡ None → who s c ≡ Owner
    → (x : ℕ) → lists d s.dir x ≡ true → lists d (entry_after_kind k r next s).dir x ≡ true
same_lists_kind d s Stale r next c ne known quiet owns x h = h
same_lists_kind d s Read_shared r next c ne known quiet owns x h = absurd (not_ours s c known.1 owns)
same_lists_kind d s Read_owned r next c ne known quiet owns x h = absurd (not_ours s c known.0 owns)
same_lists_kind d s (Read_share f) r next c ne known quiet owns x h = absurd (not_owner (who s c) f quiet owns)
same_lists_kind d s (Read_keep f) r next c ne known quiet owns x h = absurd (not_owner (who s c) f quiet owns)
same_lists_kind d s (Read_drop f) r next c ne known quiet owns x h = absurd (not_owner (who s c) f quiet owns)
same_lists_kind d s Write_reply r next c ne known quiet owns x h = absurd (not_ours s c known.0 owns)
same_lists_kind d s (Write_drop f) r next c ne known quiet owns x h =
    let sends : to_holder Owner (forward_of d Inv) (Some f) ≡ None = subst (λ w. to_holder w (forward_of d Inv) (Some f) ≡ None) owns quiet in absurd cc
same_lists_kind d s Write_count r next c ne known quiet owns x h = absurd (not_theirs s r c ne known.0 owns)
same_lists_kind d s Evict_owner r next c ne known quiet owns x h = absurd (not_theirs s r c ne known.0 owns)
same_lists_kind d s Evict_sharer r next c ne known quiet owns x h = (known.2 (c, owner_of_who s c owns)).0 x h

-- what fits a core fits it where the directory's state lists no less
pub fits_more : (d : Draft) (a b : ℕ) (w : Who) (x : ℕ) → (w ≡ Owner → lists d a x ≡ true → lists d b x ≡ true) → fits_as d a w x ≡ true → fits_as d b w x ≡ true
fits_more d a b Other x more h = h
fits_more d a b Sharer x more h = h
fits_more d a b Owner x more h = more refl h

pub untouched_kind : (d : Draft) (n : ℕ) (s : DirEntry) → IsShaped d → IsSound d n s → (k : Kind) (r next c : ℕ) → (r == c) ≡ false → KindFacts d k r next s
    → forward_by_kind d k (who s c) ≡ None
    → (who (entry_after_kind k r next s) c ≡ who s c) × ((x : ℕ) → fits d s c x ≡ true → fits d (entry_after_kind k r next s) c x ≡ true)
untouched_kind d n s sh so k r next c ne known quiet = (same, fit)
  where
    same : who (entry_after_kind k r next s) c ≡ who s c
    same = other_after_kind d s k r next c ne known ∙ same_who_kind d n s sh so k r next c ne known quiet

    fit : (x : ℕ) → fits d s c x ≡ true → fits d (entry_after_kind k r next s) c x ≡ true
    fit x h =
        ap (λ w. fits_as d (entry_after_kind k r next s).dir w x) same
        ∙ fits_more d s.dir (entry_after_kind k r next s).dir (who s c) x (λ owns. same_lists_kind d s k r next c ne known quiet owns x) h

pub others_are_untouched : (d : Draft) (n : ℕ) (s : DirEntry) (q : Request) → IsWellFormed d → IsShaped d → IsSound d n s → q.core < n → IsLegal d s q
    → (c : ℕ) → (q.core == c) ≡ false → forward_sent d s q c ≡ None
    → (who (entry_after d s q) c ≡ who s c) × ((x : ℕ) → fits d s c x ≡ true → fits d (entry_after d s q) c x ≡ true)
others_are_untouched d n s q w sh so low legal c ne quiet =
    let (k, next, of) = legal_request_has_kind d n s q w sh so low legal in
    subst (λ t. (who t c ≡ who s c) × ((x : ℕ) → fits d s c x ≡ true → fits d t c x ≡ true)) (sym of.knows)
    (untouched_kind d n s sh so k q.core next c ne of.known (sym (of.sends c ne) ∙ quiet))

-- Evicts

gone : (o : Option ℕ) (c : ℕ) (b : Bool) → is o c ≡ b → is (if b then None else o) c ≡ false
gone o c true e = refl
gone o c false e = e

after_evict_nothing : (r : RowLine) (c : ℕ) (s : DirEntry) → who (entry_after_evict r c s) c ≡ Other
after_evict_nothing r c s = who_of_other (entry_after_evict r c s) c (gone s.owner c (is s.owner c) refl) (among_without_same c s.sharers)

-- an evict leaves nothing
pub evict_leaves_nothing : (d : Draft) (n : ℕ) (s : DirEntry) (q : Request) → IsWellFormed d → IsShaped d → IsSound d n s → q.core < n → IsLegal d s q
    → q.event ≡ Evict → who (entry_after d s q) q.core ≡ Other
evict_leaves_nothing d n s q w sh so low legal event = at (who s q.core) refl
  where
    live : who s q.core ≢ Other → who (entry_after d s q) q.core ≡ Other
    live some =
        let (r, e) = legal_request_has_row d n s q w sh so low legal (λ h. some) in
        ap (λ t. who t q.core) (entry_after-some d s q r e ∙ ap (λ a. entry_after_row d r a q.core s) event) ∙ after_evict_nothing r q.core s

    at : (x : Who) → who s q.core ≡ x → who (entry_after d s q) q.core ≡ Other
    at Other is = ap (λ t. who t q.core) (stale_changes_nothing d n s q w sh so low legal event is) ∙ is
    at Sharer is = live (λ h. absurd (let both = sym is ∙ h in cc))
    at Owner is = live (λ h. absurd (let both = sym is ∙ h in cc))
