-- What a directory knows stays sound.
use Rattle.std.proofs.Common.{◌≡◌, ◌≢◌, ◌<◌, ℕ, Bool, true, false, List, [], ◌∷◌, Option, Some, None, refl, sym, subst, ap, ◌∙◌}
use Rattle.std.proofs.lemmas.Option.{same_Some}
use Rattle.pg_perm.specs.declared.kinds.DirKind.{DirKind}
use Rattle.pg_perm.specs.declared.kinds.DirKind.TheVariants as dirs
use Rattle.pg_perm.specs.declared.draft.Draft.{Draft}
use Rattle.pg_perm.specs.Drafts.{IsWellFormed, is_rising}
use Rattle.pg_terms.specs.Due.{kind_is}
use Rattle.pg_shape.specs.Shaped.{IsShaped}
use Rattle.pg_directory.specs.DirEntries.{DirEntry, Request, is_among, with_core, without_core, with_owner, entry_after}
use Rattle.pg_directory.specs.Sound.{IsSound, IsLegal}
use Rattle.pg_directory.specs.Kinds.{Kind, Stale, Read_shared, Read_owned, Read_share, Read_keep, Read_drop, Write_reply, Write_drop, Write_count, Evict_owner, Evict_sharer, entry_after_kind, KindFacts, IsOfKind}
use Rattle.pg_directory.proofs.Cores.{are_below, among_with_other, among_without_other, with_some, below_with, below_without, below_owner, rising_with, rising_without, rising_owner, other_way}
use Rattle.pg_directory.proofs.Holders.{sharer_of_who, other_of_who, owner_differs}
use Rattle.pg_directory.proofs.Facts.{one_kind}
use Rattle.pg_directory.proofs.OfKind.{legal_request_has_kind}

-- a directory state is of no other kind
wrong : (j k : DirKind) (d : Draft) (n : ℕ) → j ≢ k → kind_is j d n ≡ true → kind_is k d n ≡ true → ⊥
wrong j k d n ne e g = ne (one_kind d n j k e g)

-- Sound by the kind of the state

sound_idle : (d : Draft) (n next : ℕ) (o : Option ℕ) (xs : List ℕ) → kind_is dirs.Idle d next ≡ true → o ≡ None → xs ≡ []
    → IsSound d n (record { dir = next; owner = o; sharers = xs })
sound_idle d n next o xs at none empty = record {
  idle = λ h. (none, empty);
  shared = λ h. absurd (wrong dirs.Idle dirs.Shared d next (λ e. cc) at h);
  owned = λ h. absurd (wrong dirs.Idle dirs.Owned d next (λ e. cc) at h);
  mixed = λ h. absurd (wrong dirs.Idle dirs.Mixed d next (λ e. cc) at h);
  kind = (dirs.Idle, at);
  owner = λ c e. absurd cc;
  inside = ap (are_below n) empty;
  rising = ap is_rising empty;
}

sound_shared : (d : Draft) (n next : ℕ) (o : Option ℕ) (xs : List ℕ) → kind_is dirs.Shared d next ≡ true → o ≡ None → xs ≢ [] → are_below n xs ≡ true → is_rising xs ≡ true
    → IsSound d n (record { dir = next; owner = o; sharers = xs })
sound_shared d n next o xs at none some inside rising = record {
  idle = λ h. absurd (wrong dirs.Shared dirs.Idle d next (λ e. cc) at h);
  shared = λ h. (none, some);
  owned = λ h. absurd (wrong dirs.Shared dirs.Owned d next (λ e. cc) at h);
  mixed = λ h. absurd (wrong dirs.Shared dirs.Mixed d next (λ e. cc) at h);
  kind = (dirs.Shared, at);
  owner = λ c e. absurd cc;
  inside = inside;
  rising = rising;
}

sound_owned : (d : Draft) (n next : ℕ) (o : Option ℕ) (c : ℕ) (xs : List ℕ) → kind_is dirs.Owned d next ≡ true → o ≡ Some c → c < n → xs ≡ []
    → IsSound d n (record { dir = next; owner = o; sharers = xs })
sound_owned d n next o c xs at owns low empty = record {
  idle = λ h. absurd (wrong dirs.Owned dirs.Idle d next (λ e. cc) at h);
  shared = λ h. absurd (wrong dirs.Owned dirs.Shared d next (λ e. cc) at h);
  owned = λ h. ((c, owns), empty);
  mixed = λ h. absurd (wrong dirs.Owned dirs.Mixed d next (λ e. cc) at h);
  kind = (dirs.Owned, at);
  owner = λ e h. (subst (λ x. x < n) (same_Some c e (sym owns ∙ h)) low, ap (λ ys. is_among ys e) empty);
  inside = ap (are_below n) empty;
  rising = ap is_rising empty;
}

sound_mixed : (d : Draft) (n next : ℕ) (o : Option ℕ) (c : ℕ) (xs : List ℕ) → kind_is dirs.Mixed d next ≡ true → o ≡ Some c → c < n → is_among xs c ≡ false
    → are_below n xs ≡ true → is_rising xs ≡ true → IsSound d n (record { dir = next; owner = o; sharers = xs })
sound_mixed d n next o c xs at owns low out inside rising = record {
  idle = λ h. absurd (wrong dirs.Mixed dirs.Idle d next (λ e. cc) at h);
  shared = λ h. absurd (wrong dirs.Mixed dirs.Shared d next (λ e. cc) at h);
  owned = λ h. absurd (wrong dirs.Mixed dirs.Owned d next (λ e. cc) at h);
  mixed = λ h. (c, owns);
  kind = (dirs.Mixed, at);
  owner = λ e h. subst (λ x. (x < n) × (is_among xs x ≡ false)) (same_Some c e (sym owns ∙ h)) (low, out);
  inside = inside;
  rising = rising;
}

-- idle where no sharers are left, and else shared
sound_left : (d : Draft) (n next : ℕ) (o : Option ℕ) (xs : List ℕ) → o ≡ None → (xs ≡ [] → kind_is dirs.Idle d next ≡ true) → (xs ≢ [] → kind_is dirs.Shared d next ≡ true)
    → are_below n xs ≡ true → is_rising xs ≡ true → IsSound d n (record { dir = next; owner = o; sharers = xs })
sound_left d n next o [] none idle shared inside rising = sound_idle d n next o [] (idle refl) none refl
sound_left d n next o (x ∷ xs) none idle shared inside rising =
    sound_shared d n next o (x ∷ xs) (shared (λ e. cc)) none (λ e. cc) inside rising

-- mixed, or owned where no sharers are left
sound_kept : (d : Draft) (n next : ℕ) (o : Option ℕ) (c : ℕ) (xs : List ℕ) → o ≡ Some c → c < n → is_among xs c ≡ false → (xs ≢ [] → kind_is dirs.Mixed d next ≡ true)
    → (b : Bool) → kind_is dirs.Mixed d next ≡ b → (b ≡ false → kind_is dirs.Owned d next ≡ true) → are_below n xs ≡ true → is_rising xs ≡ true
    → IsSound d n (record { dir = next; owner = o; sharers = xs })
sound_kept d n next o c xs owns low out some true e owned inside rising = sound_mixed d n next o c xs e owns low out inside rising
sound_kept d n next o c [] owns low out some false e owned inside rising = sound_owned d n next o c [] (owned refl) owns low refl
sound_kept d n next o c (x ∷ xs) owns low out some false e owned inside rising = let mixed = some (λ g. cc) in absurd cc

-- By kinds

pub sound_after_kind : (d : Draft) (n : ℕ) (s : DirEntry) → IsSound d n s → (k : Kind) (r next : ℕ) → r < n → KindFacts d k r next s → IsSound d n (entry_after_kind k r next s)
sound_after_kind d n s so Stale r next low known = so
sound_after_kind d n s so Read_shared r next low known =
    sound_shared d n next s.owner (with_core r s.sharers) known.2 known.1 (with_some r s.sharers) (below_with n r s.sharers low so.inside) (rising_with r s.sharers so.rising)
sound_after_kind d n s so Read_owned r next low known = sound_owned d n next (Some r) r s.sharers known.2 refl low known.1
sound_after_kind d n s so (Read_share f) r next low known =
    let all = with_owner s.owner s.sharers in
    sound_shared d n next None (with_core r all) known.3 refl (with_some r all)
    (below_with n r all low (below_owner n s.owner s.sharers (λ c e. (so.owner c e).0) so.inside)) (rising_with r all (rising_owner s.owner s.sharers so.rising))
sound_after_kind d n s so (Read_keep f) r next low known =
    let (o, owns) = known.1 in
    let keeps = so.owner o owns in
    sound_mixed d n next s.owner o (with_core r s.sharers) known.3 owns keeps.0
    (among_with_other r o s.sharers (other_way o r (owner_differs s.owner o r owns (other_of_who s r known.0).0)) ∙ keeps.1)
    (below_with n r s.sharers low so.inside) (rising_with r s.sharers so.rising)
sound_after_kind d n s so (Read_drop f) r next low known = sound_owned d n next (Some r) r s.sharers known.4 refl low known.2
sound_after_kind d n s so Write_reply r next low known = sound_owned d n next (Some r) r [] known.1 refl low refl
sound_after_kind d n s so (Write_drop f) r next low known = sound_owned d n next (Some r) r [] known.3 refl low refl
sound_after_kind d n s so Write_count r next low known = sound_owned d n next (Some r) r [] known.1 refl low refl
sound_after_kind d n s so Evict_owner r next low known = sound_left d n next None s.sharers refl known.1 known.2 so.inside so.rising
sound_after_kind d n s so Evict_sharer r next low known = at s.owner refl
  where
    at : (o : Option ℕ) → s.owner ≡ o → IsSound d n (record { dir = next; owner = s.owner; sharers = without_core r s.sharers })
    at None e =
        let leads = known.1 e in
        sound_left d n next s.owner (without_core r s.sharers) e leads.0 leads.1 (below_without n r s.sharers so.inside) (rising_without r s.sharers so.rising)
    at (Some o) e =
        let leads = known.2 (o, e) in
        let keeps = so.owner o e in
        sound_kept d n next s.owner o (without_core r s.sharers) e keeps.0
        (among_without_other r o s.sharers (other_way o r (owner_differs s.owner o r e (sharer_of_who s r known.0).0)) ∙ keeps.1)
        leads.1 (kind_is dirs.Mixed d next) refl leads.2 (below_without n r s.sharers so.inside) (rising_without r s.sharers so.rising)

-- of a request of a kind
pub sound_after : (d : Draft) (n : ℕ) (s : DirEntry) (q : Request) (k : Kind) (next : ℕ) → IsSound d n s → q.core < n → IsOfKind d s q k next → IsSound d n (entry_after d s q)
sound_after d n s q k next so low of = subst (λ t. IsSound d n t) (sym of.knows) (sound_after_kind d n s so k q.core next low of.known)

-- of a request that may come
pub entry_after_is_sound : (d : Draft) (n : ℕ) (s : DirEntry) (q : Request) → IsWellFormed d → IsShaped d → IsSound d n s → q.core < n → IsLegal d s q → IsSound d n (entry_after d s q)
entry_after_is_sound d n s q w sh so low legal = let (k, next, of) = legal_request_has_kind d n s q w sh so low legal in sound_after d n s q k next so low of
