-- What cores are to the directory after a request of a kind.
use Rattle.std.proofs.Common.{◌≡◌, ℕ, false, [], refl, sym, ap, ◌∙◌}
use Rattle.std.specs.Prelude.{◌==◌}
use Rattle.pg_perm.specs.declared.kinds.Who.{Who}
use Rattle.pg_perm.specs.declared.kinds.Who.TheVariants.{Other, Sharer, Owner}
use Rattle.pg_perm.specs.declared.draft.Draft.{Draft}
use Rattle.pg_directory.specs.DirEntries.{DirEntry, Request, is_among, with_owner, who, entry_after}
use Rattle.pg_directory.specs.Sound.{IsSound}
use Rattle.pg_directory.specs.Kinds.{Kind, Stale, Read_shared, Read_owned, Read_share, Read_keep, Read_drop, Write_reply, Write_drop, Write_count, Evict_owner, Evict_sharer, requestor_by_kind, who_after_share, who_after_drop, other_by_kind, entry_after_kind, KindFacts, IsOfKind}
use Rattle.pg_directory.proofs.Cores.{among_with_same, among_without_same, among_with_other, among_without_other, among_owner_other, among_owner_same}
use Rattle.pg_directory.proofs.Holders.{owner_of_who, sharer_of_who, other_of_who, who_of_owner, who_of_sharer, who_of_other, who_same, one_owner, none_owns}

abbrev pub shared_who : Who → Who
shared_who w = who_after_share w

abbrev pub dropped_who : Who → Who
dropped_who w = who_after_drop w

abbrev pub other_who : Kind → Who → Who
other_who k w = other_by_kind k w

after_share : (s : DirEntry) (f r next c : ℕ) → (r == c) ≡ false → (w : Who) → who s c ≡ w → who (entry_after_kind (Read_share f) r next s) c ≡ shared_who w
after_share s f r next c ne Other e =
    let out = other_of_who s c e in
    who_of_other (entry_after_kind (Read_share f) r next s) c refl (among_with_other r c (with_owner s.owner s.sharers) ne ∙ among_owner_other s.owner c s.sharers out.0 ∙ out.1)
after_share s f r next c ne Sharer e =
    let out = sharer_of_who s c e in
    who_of_sharer (entry_after_kind (Read_share f) r next s) c refl (among_with_other r c (with_owner s.owner s.sharers) ne ∙ among_owner_other s.owner c s.sharers out.0 ∙ out.1)
after_share s f r next c ne Owner e =
    who_of_sharer (entry_after_kind (Read_share f) r next s) c refl
    (among_with_other r c (with_owner s.owner s.sharers) ne ∙ ap (λ o. is_among (with_owner o s.sharers) c) (owner_of_who s c e) ∙ among_owner_same c s.sharers)

after_drop : (s : DirEntry) (f r next c : ℕ) → (r == c) ≡ false → s.sharers ≡ [] → (w : Who) → who s c ≡ w → who (entry_after_kind (Read_drop f) r next s) c ≡ dropped_who w
after_drop s f r next c ne empty Other e = who_of_other (entry_after_kind (Read_drop f) r next s) c ne (other_of_who s c e).1
after_drop s f r next c ne empty Sharer e = who_of_sharer (entry_after_kind (Read_drop f) r next s) c ne (sharer_of_who s c e).1
after_drop s f r next c ne empty Owner e = who_of_other (entry_after_kind (Read_drop f) r next s) c ne (ap (λ xs. is_among xs c) empty)

pub other_after_kind : (d : Draft) (s : DirEntry) (k : Kind) (r next c : ℕ) → (r == c) ≡ false → KindFacts d k r next s → who (entry_after_kind k r next s) c ≡ other_who k (who s c)
other_after_kind d s Stale r next c ne known = refl
other_after_kind d s Read_shared r next c ne known = who_same s (entry_after_kind Read_shared r next s) c refl (among_with_other r c s.sharers ne)
other_after_kind d s Read_owned r next c ne known = who_same s (entry_after_kind Read_owned r next s) c (ne ∙ sym (none_owns s.owner c known.0)) refl
other_after_kind d s (Read_share f) r next c ne known = after_share s f r next c ne (who s c) refl
other_after_kind d s (Read_keep f) r next c ne known = who_same s (entry_after_kind (Read_keep f) r next s) c refl (among_with_other r c s.sharers ne)
other_after_kind d s (Read_drop f) r next c ne known = after_drop s f r next c ne known.2 (who s c) refl
other_after_kind d s Write_reply r next c ne known = who_of_other (entry_after_kind Write_reply r next s) c ne refl
other_after_kind d s (Write_drop f) r next c ne known = who_of_other (entry_after_kind (Write_drop f) r next s) c ne refl
other_after_kind d s Write_count r next c ne known = who_of_other (entry_after_kind Write_count r next s) c ne refl
other_after_kind d s Evict_owner r next c ne known =
    who_same s (entry_after_kind Evict_owner r next s) c (sym (one_owner s.owner r c (owner_of_who s r known.0) ne)) refl
other_after_kind d s Evict_sharer r next c ne known = who_same s (entry_after_kind Evict_sharer r next s) c refl (among_without_other r c s.sharers ne)

-- what another core is after a request
pub other_after : (d : Draft) (s : DirEntry) (q : Request) (k : Kind) (next c : ℕ) → IsOfKind d s q k next → (q.core == c) ≡ false
    → who (entry_after d s q) c ≡ other_who k (who s c)
other_after d s q k next c of ne = ap (λ t. who t c) of.knows ∙ other_after_kind d s k q.core next c ne of.known

-- what the requestor is afterwards
requestor_after_kind : (d : Draft) (n : ℕ) (s : DirEntry) → IsSound d n s → (k : Kind) (r next : ℕ) → KindFacts d k r next s → who (entry_after_kind k r next s) r ≡ requestor_by_kind k
requestor_after_kind d n s so Stale r next known = known
requestor_after_kind d n s so Read_shared r next known = who_of_sharer (entry_after_kind Read_shared r next s) r (other_of_who s r known.0).0 (among_with_same r s.sharers)
requestor_after_kind d n s so Read_owned r next known = who_of_owner (entry_after_kind Read_owned r next s) r refl
requestor_after_kind d n s so (Read_share f) r next known =
    who_of_sharer (entry_after_kind (Read_share f) r next s) r refl (among_with_same r (with_owner s.owner s.sharers))
requestor_after_kind d n s so (Read_keep f) r next known =
    who_of_sharer (entry_after_kind (Read_keep f) r next s) r (other_of_who s r known.0).0 (among_with_same r s.sharers)
requestor_after_kind d n s so (Read_drop f) r next known = who_of_owner (entry_after_kind (Read_drop f) r next s) r refl
requestor_after_kind d n s so Write_reply r next known = who_of_owner (entry_after_kind Write_reply r next s) r refl
requestor_after_kind d n s so (Write_drop f) r next known = who_of_owner (entry_after_kind (Write_drop f) r next s) r refl
requestor_after_kind d n s so Write_count r next known = who_of_owner (entry_after_kind Write_count r next s) r refl
requestor_after_kind d n s so Evict_owner r next known =
    who_of_other (entry_after_kind Evict_owner r next s) r refl (so.owner r (owner_of_who s r known.0)).1
requestor_after_kind d n s so Evict_sharer r next known =
    who_of_other (entry_after_kind Evict_sharer r next s) r (sharer_of_who s r known.0).0 (among_without_same r s.sharers)

pub requestor_after : (d : Draft) (n : ℕ) (s : DirEntry) (q : Request) (k : Kind) (next : ℕ) → IsSound d n s → IsOfKind d s q k next
    → who (entry_after d s q) q.core ≡ requestor_by_kind k
requestor_after d n s q k next so of = ap (λ t. who t q.core) of.knows ∙ requestor_after_kind d n s so k q.core next of.known
