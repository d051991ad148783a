-- Each request that may come is of a kind.
use Rattle.std.proofs.Common.{◌≡◌, ◌≢◌, ◌<◌, ◌⊎◌, inl, inr, ℕ, Bool, true, false, List, [], ◌∷◌, Option, Some, None, refl, sym, ap, ◌∙◌}
use Rattle.std.specs.Prelude.{slice_get, ◌==◌, if◌then◌else◌}
use Rattle.std.specs.Option.{option_map_or, option_and_then}
use Rattle.pg_perm.specs.declared.kinds.DirKind.{DirKind}
use Rattle.pg_perm.specs.declared.kinds.DirKind.TheVariants as dirs
use Rattle.pg_perm.specs.declared.kinds.Event.{Event}
use Rattle.pg_perm.specs.declared.kinds.Event.TheVariants.{Load, Store, Evict}
use Rattle.pg_perm.specs.declared.kinds.Who.{Who}
use Rattle.pg_perm.specs.declared.kinds.Who.TheVariants.{Other, Sharer, Owner}
use Rattle.pg_perm.specs.declared.kinds.Left.{Left}
use Rattle.pg_perm.specs.declared.kinds.Left.TheVariants.{Last, More}
use Rattle.pg_perm.specs.declared.kinds.ReqClass.TheVariants.{Write}
use Rattle.pg_perm.specs.declared.kinds.FwdClass.TheVariants.{Inv, Share, Keep, Drop}
use Rattle.pg_perm.specs.declared.draft.Draft.{Draft}
use Rattle.pg_perm.specs.declared.draft.RowLine.{RowLine}
use Rattle.pg_perm.specs.declared.draft.RowForm.{RowForm}
use Rattle.pg_perm.specs.declared.draft.RowForm.TheVariants as form
use Rattle.pg_perm.specs.declared.draft.Action.TheVariants as action
use Rattle.pg_perm.specs.declared.draft.MsgClass.{MsgClass}
use Rattle.pg_perm.specs.declared.draft.MsgClass.TheVariants as msg
use Rattle.pg_perm.specs.declared.draft.MsgLine.{MsgLine}
use Rattle.pg_perm.specs.Drafts.{IsWellFormed}
use Rattle.pg_terms.specs.declared.cases.DirCase.TheVariants as case
use Rattle.pg_terms.specs.Terms.{is, is_forward_of, forward_of, has_class, lists, keep_of, dir_row}
use Rattle.pg_terms.specs.Due.{kind_is, forward_in}
use Rattle.pg_shape.specs.Shaped.{IsShaped}
use Rattle.pg_terms.specs.Rows.{action_in, is_by_share}
use Rattle.pg_shape.proofs.Rows.{row_at, evict_form}
use Rattle.pg_shape.proofs.Shaped.{is_then_some}
use Rattle.pg_directory.specs.DirEntries.{DirEntry, Request, is_among, with_core, without_core, left_of, who, case_for, row_of, entry_after_share, entry_after_read, entry_after_row, entry_after}
use Rattle.pg_directory.specs.Sends.{forward_by_row, forward_sent}
use Rattle.pg_directory.specs.Sound.{IsSound, IsLegal}
use Rattle.pg_directory.specs.Kinds.{Kind, Stale, Read_shared, Read_owned, Read_share, Read_keep, Read_drop, Write_reply, Write_drop, Write_count, Evict_owner, Evict_sharer, to_holder, HasOwner, IsOfKind}
use Rattle.pg_directory.proofs.Holders.{who_by, owner_of_who, sharer_of_who, is_same}
use Rattle.pg_directory.proofs.Facts.{one_kind}
use Rattle.pg_directory.proofs.DirKinds.{other_kind, sharer_dir, owner_out}
use Rattle.pg_directory.proofs.DueRows.{legal_request_has_row, stale_none}

-- it is of some kind, and leads somewhere
abbrev pub IsOfSome : Draft → DirEntry → Request → Type 0
IsOfSome d s q = (k : Kind) × (next : ℕ) × IsOfKind d s q k next

-- What a row does

form_reply : (f : RowForm) (m : ℕ) → action_in f ≡ Some (action.Reply m) → forward_in f ≡ None
form_reply (form.Ask request w (action.Reply m)) n e = refl
form_reply (form.Ask request w (action.Forward f)) n e = absurd cc
form_reply (form.Ask request w action.Count) n e = absurd cc
form_reply (form.Evict w l) n e = refl

form_count : (f : RowForm) → action_in f ≡ Some action.Count → forward_in f ≡ None
form_count (form.Ask request w (action.Reply m)) e = absurd cc
form_count (form.Ask request w (action.Forward f)) e = absurd cc
form_count (form.Ask request w action.Count) e = refl
form_count (form.Evict w l) e = refl

form_forward : (f : RowForm) (g : ℕ) → action_in f ≡ Some (action.Forward g) → forward_in f ≡ Some g
form_forward (form.Ask request w (action.Reply m)) g e = absurd cc
form_forward (form.Ask request w (action.Forward f)) g e = cc
form_forward (form.Ask request w action.Count) g e = absurd cc
form_forward (form.Evict w l) g e = absurd cc

-- with an evict nothing is done
evict_does : (d : Draft) (n : ℕ) (w : Who) (l : Left) (r : RowLine) → dir_row d n (case.Evict w l) ≡ Some r → action_in r.form ≡ None
evict_does d n w l r e =
    let (k, g, dir, is_for) = row_at d n (case.Evict w l) r e in
    ap action_in (evict_form d r.form w l is_for)

form_evict : (d : Draft) (n : ℕ) (w : Who) (l : Left) (r : RowLine) → dir_row d n (case.Evict w l) ≡ Some r → forward_in r.form ≡ None
form_evict d n w l r e =
    let (k, g, dir, is_for) = row_at d n (case.Evict w l) r e in
    ap forward_in (evict_form d r.form w l is_for)

pub entry_after-some : (d : Draft) (s : DirEntry) (q : Request) (r : RowLine) → row_of d s q ≡ Some r → entry_after d s q ≡ entry_after_row d r q.event q.core s
entry_after-some d s q r e = ap (λ o. option_map_or (λ r. entry_after_row d r q.event q.core s) o s) e

pub forward_sent-some : (d : Draft) (s : DirEntry) (q : Request) (c : ℕ) (r : RowLine) → row_of d s q ≡ Some r → forward_sent d s q c ≡ forward_by_row d s q c r
forward_sent-some d s q c r e = ap (λ o. option_and_then (forward_by_row d s q c) o) e

-- what is done, by the row
does_by_row : (d : Draft) (s : DirEntry) (q : Request) (r : RowLine) → row_of d s q ≡ Some r → option_and_then (λ r. action_in r.form) (row_of d s q) ≡ action_in r.form
does_by_row d s q r e = ap (λ o. option_and_then (λ r. action_in r.form) o) e

-- the row of a request, by what its core is
pub row_as : (d : Draft) (s : DirEntry) (c : ℕ) (event : Event) (w : Who) (r : RowLine) → who s c ≡ w → row_of d s (record { core = c; event = event }) ≡ Some r
    → dir_row d s.dir (case_for event w (left_of (without_core c s.sharers))) ≡ Some r
row_as d s c event w r is e = ap (λ x. dir_row d s.dir (case_for event x (left_of (without_core c s.sharers)))) (sym is) ∙ e

-- Loads

abbrev load : ℕ → Request
load c = record { core = c; event = Load }

abbrev after_load : Bool → Bool → ℕ → ℕ → DirEntry → DirEntry
after_load share owned next c s =
    let t = if share then entry_after_share s else s in
    if owned then record { dir = next; owner = Some c; sharers = t.sharers } else record { dir = next; owner = t.owner; sharers = with_core c t.sharers }

load_after : (d : Draft) (s : DirEntry) (c : ℕ) (r : RowLine) (share owned : Bool) → row_of d s (load c) ≡ Some r → is_by_share d r ≡ share → kind_is dirs.Owned d r.next ≡ owned
    → entry_after d s (load c) ≡ after_load share owned r.next c s
load_after d s c r share owned e by own =
    entry_after-some d s (load c) r e
    ∙ ap (λ b. entry_after_read d r c (if b then entry_after_share s else s)) by
    ∙ ap (λ b. if b then record { dir = r.next; owner = Some c; sharers = (if share then entry_after_share s else s).sharers }
    else record { dir = r.next; owner = (if share then entry_after_share s else s).owner; sharers = with_core c (if share then entry_after_share s else s).sharers }) own

passed_on : (a b : Bool) (o : Option ℕ) → (if a then o else None) ≡ to_holder (who_by a b) None o
passed_on true b o = refl
passed_on false true o = refl
passed_on false false o = refl

load_sent : (d : Draft) (s : DirEntry) (c : ℕ) (r : RowLine) (o : Option ℕ) → row_of d s (load c) ≡ Some r → forward_in r.form ≡ o → (e : ℕ) → (c == e) ≡ false
    → forward_sent d s (load c) e ≡ to_holder (who s e) None o
load_sent d s c r o at by e ne =
    forward_sent-some d s (load c) e r at
    ∙ ap (λ b. if b then None else if is s.owner e then forward_in r.form else None) ne
    ∙ ap (λ p. if is s.owner e then p else None) by
    ∙ passed_on (is s.owner e) (is_among s.sharers e) o

no_holder : (w : Who) → to_holder w None None ≡ None
no_holder Other = refl
no_holder Sharer = refl
no_holder Owner = refl

not_by_share : (d : Draft) (r : RowLine) → forward_in r.form ≡ None → is_by_share d r ≡ false
not_by_share d r e = ap (λ o. option_map_or (has_class Share d) o false) e

by_forward : (d : Draft) (r : RowLine) (f : ℕ) → forward_in r.form ≡ Some f → is_by_share d r ≡ has_class Share d f
by_forward d r f e = ap (λ o. option_map_or (has_class Share d) o false) e

-- a forward is of one class
share_not : (class : MsgClass) → (is_forward_of Keep class ≡ true) ⊎ (is_forward_of Drop class ≡ true) → is_forward_of Share class ≡ false
share_not (msg.Request c) h = refl
share_not (msg.Forward Inv) h = refl
share_not (msg.Forward Share) h = absurd (elim h [ inl e ↦ cc | inr e ↦ cc ])
share_not (msg.Forward Keep) h = refl
share_not (msg.Forward Drop) h = refl
share_not msg.Reply h = refl

no_share : (d : Draft) (f : ℕ) → (has_class Keep d f ≡ true) ⊎ (has_class Drop d f ≡ true) → has_class Share d f ≡ false
no_share d f h = at (slice_get d.messages f) h
  where
    at : (o : Option MsgLine) → (option_map_or (λ m. is_forward_of Keep m.class) o false ≡ true) ⊎ (option_map_or (λ m. is_forward_of Drop m.class) o false ≡ true)
        → option_map_or (λ m. is_forward_of Share m.class) o false ≡ false
    at None e = refl
    at (Some m) e = share_not m.class e

-- a load that memory answers
read_shared : (d : Draft) (s : DirEntry) (c m : ℕ) (r : RowLine) → row_of d s (load c) ≡ Some r → action_in r.form ≡ Some (action.Reply m) → who s c ≡ Other → s.owner ≡ None
    → kind_is dirs.Shared d r.next ≡ true → IsOfKind d s (load c) Read_shared r.next
read_shared d s c m r e does is none leads = record {
  knows = load_after d s c r false false e (not_by_share d r (form_reply r.form m does)) (other_kind dirs.Shared dirs.Owned d r.next (λ h. cc) leads);
  sends = λ x ne. load_sent d s c r None e (form_reply r.form m does) x ne ∙ no_holder (who s x);
  known = (is, none, leads);
  asks = refl;
  does = (m, does_by_row d s (load c) r e ∙ does);
}

read_owned : (d : Draft) (s : DirEntry) (c m : ℕ) (r : RowLine) → row_of d s (load c) ≡ Some r → action_in r.form ≡ Some (action.Reply m) → s.owner ≡ None → s.sharers ≡ []
    → kind_is dirs.Owned d r.next ≡ true → IsOfKind d s (load c) Read_owned r.next
read_owned d s c m r e does none empty leads = record {
  knows = load_after d s c r false true e (not_by_share d r (form_reply r.form m does)) leads;
  sends = λ x ne. load_sent d s c r None e (form_reply r.form m does) x ne ∙ no_holder (who s x);
  known = (none, empty, leads);
  asks = refl;
  does = (m, does_by_row d s (load c) r e ∙ does);
}

-- a load that is passed on
read_share : (d : Draft) (s : DirEntry) (c f : ℕ) (r : RowLine) → row_of d s (load c) ≡ Some r → action_in r.form ≡ Some (action.Forward f) → who s c ≡ Other → HasOwner s
    → has_class Share d f ≡ true → kind_is dirs.Shared d r.next ≡ true → IsOfKind d s (load c) (Read_share f) r.next
read_share d s c f r e does is owns class leads = record {
  knows = load_after d s c r true false e (by_forward d r f (form_forward r.form f does) ∙ class) (other_kind dirs.Shared dirs.Owned d r.next (λ h. cc) leads);
  sends = λ x ne. load_sent d s c r (Some f) e (form_forward r.form f does) x ne;
  known = (is, owns, class, leads);
  asks = refl;
  does = does_by_row d s (load c) r e ∙ does;
}

read_keep : (d : Draft) (s : DirEntry) (c f : ℕ) (r : RowLine) → row_of d s (load c) ≡ Some r → action_in r.form ≡ Some (action.Forward f) → who s c ≡ Other → HasOwner s
    → has_class Keep d f ≡ true → kind_is dirs.Mixed d r.next ≡ true → ((x t : ℕ) → lists d s.dir x ≡ true → keep_of d x ≡ Some t → lists d r.next t ≡ true)
    → IsOfKind d s (load c) (Read_keep f) r.next
read_keep d s c f r e does is owns class leads kept = record {
  knows = load_after d s c r false false e (by_forward d r f (form_forward r.form f does) ∙ no_share d f (inl class)) (other_kind dirs.Mixed dirs.Owned d r.next (λ h. cc) leads);
  sends = λ x ne. load_sent d s c r (Some f) e (form_forward r.form f does) x ne;
  known = (is, owns, class, leads, kept);
  asks = refl;
  does = does_by_row d s (load c) r e ∙ does;
}

read_drop : (d : Draft) (s : DirEntry) (c f : ℕ) (r : RowLine) → row_of d s (load c) ≡ Some r → action_in r.form ≡ Some (action.Forward f) → who s c ≡ Other → HasOwner s
    → s.sharers ≡ [] → has_class Drop d f ≡ true → kind_is dirs.Owned d r.next ≡ true → IsOfKind d s (load c) (Read_drop f) r.next
read_drop d s c f r e does is owns empty class leads = record {
  knows = load_after d s c r false true e (by_forward d r f (form_forward r.form f does) ∙ no_share d f (inr class)) leads;
  sends = λ x ne. load_sent d s c r (Some f) e (form_forward r.form f does) x ne;
  known = (is, owns, empty, class, leads);
  asks = refl;
  does = does_by_row d s (load c) r e ∙ does;
}

load_kind : (d : Draft) (n : ℕ) (s : DirEntry) → IsShaped d → IsSound d n s → (c : ℕ) → who s c ≡ Other → (r : RowLine) → row_of d s (load c) ≡ Some r
    → (k : DirKind) → kind_is k d s.dir ≡ true → IsOfSome d s (load c)
load_kind d n s sh so c is r e dirs.Idle g =
    let row = row_as d s c Load Other r is e in
    let (m, does) = sh.rows.read_memory s.dir r row (inl g) in
    let (t, fin) = sh.reads.memory_final s.dir m r row does in
    elim (sh.reads.memory s.dir m t r row does fin) [
      | inl h ↦ (Read_shared, r.next, read_shared d s c m r e does is (so.idle g).0 h.0)
      | inr h ↦ (Read_owned, r.next, read_owned d s c m r e does (so.idle g).0 (so.idle g).1 h.1)
    ]
load_kind d n s sh so c is r e dirs.Shared g =
    let row = row_as d s c Load Other r is e in
    let (m, does) = sh.rows.read_memory s.dir r row (inr g) in
    let (t, fin) = sh.reads.memory_final s.dir m r row does in
    elim (sh.reads.memory s.dir m t r row does fin) [
      | inl h ↦ (Read_shared, r.next, read_shared d s c m r e does is (so.shared g).0 h.0)
      | inr h ↦ let wrong = one_kind d s.dir dirs.Idle dirs.Shared h.0 g in absurd cc
    ]
load_kind d n s sh so c is r e dirs.Owned g =
    let row = row_as d s c Load Other r is e in
    let (f, does, classes) = sh.rows.read_owned s.dir r row g in
    elim classes [
      | inl share ↦ (Read_share f, r.next, read_share d s c f r e does is (so.owned g).0 share (sh.reads.share s.dir f r row does share).0)
      | inr (inl keep) ↦
          let leads = sh.reads.keep s.dir f r row does keep in
          (Read_keep f, r.next, read_keep d s c f r e does is (so.owned g).0 keep leads.0 leads.1)
      | inr (inr drop) ↦
          (Read_drop f, r.next, read_drop d s c f r e does is (so.owned g).0 (so.owned g).1 drop (sh.reads.drop s.dir f r row does drop).0)
    ]
load_kind d n s sh so c is r e dirs.Mixed g =
    let row = row_as d s c Load Other r is e in
    let (f, does, classes) = sh.rows.read_mixed s.dir r row g in
    elim classes [
      | inl share ↦ (Read_share f, r.next, read_share d s c f r e does is (so.mixed g) share (sh.reads.share s.dir f r row does share).0)
      | inr keep ↦
          let leads = sh.reads.keep s.dir f r row does keep in
          (Read_keep f, r.next, read_keep d s c f r e does is (so.mixed g) keep leads.0 leads.1)
    ]

-- Stores

abbrev store : ℕ → Request
store c = record { core = c; event = Store }

invs : (a b : Bool) (i o : Option ℕ) → (a ≡ true → b ≡ false) → (if b then i else if a then o else None) ≡ to_holder (who_by a b) i o
invs true true i o one = let wrong = one refl in absurd cc
invs true false i o one = refl
invs false true i o one = refl
invs false false i o one = refl

store_sent : (d : Draft) (n : ℕ) (s : DirEntry) → IsSound d n s → (c : ℕ) (r : RowLine) (o : Option ℕ) → row_of d s (store c) ≡ Some r → forward_in r.form ≡ o
    → (e : ℕ) → (c == e) ≡ false → forward_sent d s (store c) e ≡ to_holder (who s e) (forward_of d Inv) o
store_sent d n s so c r o at by e ne =
    forward_sent-some d s (store c) e r at
    ∙ ap (λ b. if b then None else if is_among s.sharers e then forward_of d Inv else if is s.owner e then forward_in r.form else None) ne
    ∙ ap (λ p. if is_among s.sharers e then forward_of d Inv else if is s.owner e then p else None) by
    ∙ invs (is s.owner e) (is_among s.sharers e) (forward_of d Inv) o (λ h. (so.owner e (is_then_some s.owner e h)).1)

write_reply : (d : Draft) (n : ℕ) (s : DirEntry) → IsSound d n s → (c m : ℕ) (r : RowLine) → row_of d s (store c) ≡ Some r → action_in r.form ≡ Some (action.Reply m)
    → s.owner ≡ None → kind_is dirs.Owned d r.next ≡ true → IsOfKind d s (store c) Write_reply r.next
write_reply d n s so c m r e does none leads = record {
  knows = entry_after-some d s (store c) r e;
  sends = λ x ne. store_sent d n s so c r None e (form_reply r.form m does) x ne;
  known = (none, leads);
  asks = refl;
  does = (m, does_by_row d s (store c) r e ∙ does);
}

write_drop : (d : Draft) (n : ℕ) (s : DirEntry) → IsSound d n s → (c f : ℕ) (r : RowLine) → row_of d s (store c) ≡ Some r → action_in r.form ≡ Some (action.Forward f)
    → who s c ≢ Owner → HasOwner s → has_class Drop d f ≡ true → kind_is dirs.Owned d r.next ≡ true → IsOfKind d s (store c) (Write_drop f) r.next
write_drop d n s so c f r e does is owns class leads = record {
  knows = entry_after-some d s (store c) r e;
  sends = λ x ne. store_sent d n s so c r (Some f) e (form_forward r.form f does) x ne;
  known = (is, owns, class, leads);
  asks = refl;
  does = does_by_row d s (store c) r e ∙ does;
}

write_count : (d : Draft) (n : ℕ) (s : DirEntry) → IsSound d n s → (c : ℕ) (r : RowLine) → row_of d s (store c) ≡ Some r → action_in r.form ≡ Some action.Count
    → who s c ≡ Owner → kind_is dirs.Owned d r.next ≡ true → IsOfKind d s (store c) Write_count r.next
write_count d n s so c r e does is leads = record {
  knows = entry_after-some d s (store c) r e;
  sends = λ x ne. store_sent d n s so c r None e (form_count r.form does) x ne;
  known = (is, leads);
  asks = refl;
  does = does_by_row d s (store c) r e ∙ does;
}

-- a store of a core that isn't the owner
store_kind : (d : Draft) (n : ℕ) (s : DirEntry) → IsShaped d → IsSound d n s → (c : ℕ) (w : Who) → who s c ≡ w → w ≢ Owner → (r : RowLine) → row_of d s (store c) ≡ Some r
    → (dir_row d s.dir (case.Ask Write w) ≡ Some r → (kind_is dirs.Owned d s.dir ≡ true) ⊎ (kind_is dirs.Mixed d s.dir ≡ true)
    → (f : ℕ) × (action_in r.form ≡ Some (action.Forward f)) × (has_class Drop d f ≡ true))
    → (k : DirKind) → kind_is k d s.dir ≡ true → IsOfSome d s (store c)
store_kind d n s sh so c w is out r e passes k g = at k g (row_as d s c Store w r is e)
  where
    reply : (m : ℕ) → action_in r.form ≡ Some (action.Reply m) → s.owner ≡ None → dir_row d s.dir (case.Ask Write w) ≡ Some r → IsOfSome d s (store c)
    reply m does none row = (Write_reply, r.next, write_reply d n s so c m r e does none (sh.writes.owned s.dir w r row))

    passed : (f : ℕ) → action_in r.form ≡ Some (action.Forward f) → HasOwner s → has_class Drop d f ≡ true → dir_row d s.dir (case.Ask Write w) ≡ Some r → IsOfSome d s (store c)
    passed f does owns class row = (Write_drop f, r.next, write_drop d n s so c f r e does (λ h. out (sym is ∙ h)) owns class (sh.writes.owned s.dir w r row))

    at : (k : DirKind) → kind_is k d s.dir ≡ true → dir_row d s.dir (case.Ask Write w) ≡ Some r → IsOfSome d s (store c)
    at dirs.Idle g row = let (m, does) = sh.rows.write_memory s.dir w r row (inl g) in reply m does (so.idle g).0 row
    at dirs.Shared g row = let (m, does) = sh.rows.write_memory s.dir w r row (inr g) in reply m does (so.shared g).0 row
    at dirs.Owned g row = let (f, does, class) = passes row (inl g) in passed f does (so.owned g).0 class row
    at dirs.Mixed g row = let (f, does, class) = passes row (inr g) in passed f does (so.mixed g) class row

-- a store of the owner
store_owner : (d : Draft) (n : ℕ) (s : DirEntry) → IsShaped d → IsSound d n s → (c : ℕ) → who s c ≡ Owner → (r : RowLine) → row_of d s (store c) ≡ Some r → IsOfSome d s (store c)
store_owner d n s sh so c is r e =
    let row = row_as d s c Store Owner r is e in
    (Write_count, r.next, write_count d n s so c r e (sh.rows.upgrade s.dir r row) is (sh.writes.owned s.dir Owner r row))

-- Evicts

abbrev evict : ℕ → Request
evict c = record { core = c; event = Evict }

if_same : (b : Bool) (o : Option ℕ) → (if b then o else o) ≡ o
if_same true o = refl
if_same false o = refl

evict_sent : (d : Draft) (s : DirEntry) (c : ℕ) (w : Who) (r : RowLine) → who s c ≡ w → row_of d s (evict c) ≡ Some r → (e : ℕ) → (c == e) ≡ false → forward_sent d s (evict c) e ≡ None
evict_sent d s c w r as_w at e ne =
    forward_sent-some d s (evict c) e r at
    ∙ ap (λ b. if b then None else if is s.owner e then forward_in r.form else None) ne
    ∙ ap (λ p. if is s.owner e then p else None) (form_evict d s.dir w (left_of (without_core c s.sharers)) r (row_as d s c Evict w r as_w at))
    ∙ if_same (is s.owner e) None

left_last : (xs : List ℕ) → left_of xs ≡ Last → xs ≡ []
left_last [] e = refl
left_last (x ∷ xs) e = absurd cc

left_more : (xs : List ℕ) → xs ≢ [] → left_of xs ≡ More
left_more [] ne = absurd (ne refl)
left_more (x ∷ xs) ne = refl

-- the row of an evict, by whether sharers are left
evict_row : (d : Draft) (s : DirEntry) (c : ℕ) (w : Who) (l : Left) (r : RowLine) → who s c ≡ w → left_of (without_core c s.sharers) ≡ l → row_of d s (evict c) ≡ Some r
    → dir_row d s.dir (case.Evict w l) ≡ Some r
evict_row d s c w l r is left e = ap (λ x. dir_row d s.dir (case.Evict w x)) (sym left) ∙ row_as d s c Evict w r is e

evict_stale : (d : Draft) (n : ℕ) (s : DirEntry) → IsShaped d → IsSound d n s → (c : ℕ) → who s c ≡ Other → IsOfKind d s (evict c) Stale s.dir
evict_stale d n s sh so c is =
    let none = stale_none d n s (evict c) sh so refl is in
    record {
      knows = ap (λ o. option_map_or (λ r. entry_after_row d r Evict c s) o s) none;
      sends = λ e ne. ap (λ o. option_and_then (forward_by_row d s (evict c) e) o) none;
      known = is;
      asks = refl;
      does = ap (λ o. option_and_then (λ r. action_in r.form) o) none;
    }

evict_owner : (d : Draft) (n : ℕ) (s : DirEntry) → IsShaped d → IsSound d n s → (c : ℕ) → who s c ≡ Owner → (r : RowLine) → row_of d s (evict c) ≡ Some r
    → IsOfKind d s (evict c) Evict_owner r.next
evict_owner d n s sh so c is r e =
    let rest : without_core c s.sharers ≡ s.sharers = owner_out d n s so c (owner_of_who s c is) in
    record {
      knows =
          entry_after-some d s (evict c) r e
          ∙ ap (λ b. record { dir = r.next; owner = if b then None else s.owner; sharers = without_core c s.sharers }) (is_same s.owner c (owner_of_who s c is))
          ∙ ap (λ xs. record { dir = r.next; owner = None; sharers = xs }) rest;
      sends = λ x ne. evict_sent d s c Owner r is e x ne;
      known = (
        is,
        (λ h. sh.evicts.owner_last s.dir r (evict_row d s c Owner Last r is (ap left_of (rest ∙ h)) e)),
        (λ h. sh.evicts.owner_more s.dir r (evict_row d s c Owner More r is (ap left_of rest ∙ left_more s.sharers h) e)),
      );
      asks = refl;
      does = does_by_row d s (evict c) r e ∙ evict_does d s.dir Owner (left_of (without_core c s.sharers)) r (row_as d s c Evict Owner r is e);
    }

evict_sharer : (d : Draft) (n : ℕ) (s : DirEntry) → IsShaped d → IsSound d n s → (c : ℕ) → who s c ≡ Sharer → (r : RowLine) → row_of d s (evict c) ≡ Some r
    → (kind_is dirs.Shared d s.dir ≡ true) ⊎ (kind_is dirs.Mixed d s.dir ≡ true) → IsOfKind d s (evict c) Evict_sharer r.next
evict_sharer d n s sh so c is r e at = record {
  knows = entry_after-some d s (evict c) r e ∙ ap (λ b. record { dir = r.next; owner = if b then None else s.owner; sharers = without_core c s.sharers }) (sharer_of_who s c is).0;
  sends = λ x ne. evict_sent d s c Sharer r is e x ne;
  known = (
    is,
    (λ none. (
      (λ h. sh.evicts.shared_last s.dir r (legal_request_has_row Last (ap left_of h)) (at_shared none at)),
      (λ h. sh.evicts.shared_more s.dir r (legal_request_has_row More (left_more (without_core c s.sharers) h)) (at_shared none at)),
    )),
    (λ owns. mixed (at_mixed owns at) (left_of (without_core c s.sharers)) refl),
  );
  asks = refl;
  does = does_by_row d s (evict c) r e ∙ evict_does d s.dir Sharer (left_of (without_core c s.sharers)) r (row_as d s c Evict Sharer r is e);
}
  where
    legal_request_has_row : (l : Left) → left_of (without_core c s.sharers) ≡ l → dir_row d s.dir (case.Evict Sharer l) ≡ Some r
    legal_request_has_row l left = evict_row d s c Sharer l r is left e

    at_shared : s.owner ≡ None → (kind_is dirs.Shared d s.dir ≡ true) ⊎ (kind_is dirs.Mixed d s.dir ≡ true) → kind_is dirs.Shared d s.dir ≡ true
    at_shared none (inl h) = h
    at_shared none (inr h) = let (o, owns) = so.mixed h in absurd cc

    at_mixed : HasOwner s → (kind_is dirs.Shared d s.dir ≡ true) ⊎ (kind_is dirs.Mixed d s.dir ≡ true) → kind_is dirs.Mixed d s.dir ≡ true
    at_mixed owns (inl h) = let none = (so.shared h).0 in let owner = owns.1 in absurd cc
    at_mixed owns (inr h) = h

    mixed : kind_is dirs.Mixed d s.dir ≡ true → (l : Left) → left_of (without_core c s.sharers) ≡ l
        → ((x : ℕ) → lists d s.dir x ≡ true → lists d r.next x ≡ true)
        × (without_core c s.sharers ≢ [] → kind_is dirs.Mixed d r.next ≡ true)
        × (kind_is dirs.Mixed d r.next ≡ false → kind_is dirs.Owned d r.next ≡ true)
    mixed m Last left =
        let leads = sh.evicts.mixed_last s.dir r (legal_request_has_row Last left) m in
        (leads.1, (λ some. absurd (some (left_last (without_core c s.sharers) left))), (λ out. elim leads.0 [ inl h ↦ absurd cc | inr h ↦ h ]))
    mixed m More left =
        let leads = sh.evicts.mixed_more s.dir r (legal_request_has_row More left) m in
        (leads.1, (λ some. leads.0), (λ out. let h = leads.0 in absurd cc))

-- Requests

kind_for : (d : Draft) (n : ℕ) (s : DirEntry) → IsWellFormed d → IsShaped d → IsSound d n s → (c : ℕ) → c < n → (event : Event) (w : Who) → who s c ≡ w
    → IsLegal d s (record { core = c; event = event }) → IsOfSome d s (record { core = c; event = event })
kind_for d n s wf sh so c low Load w is legal =
    let (r, e) = legal_request_has_row d n s (load c) wf sh so low legal (λ h. absurd cc) in
    load_kind d n s sh so c legal r e so.kind.0 so.kind.1
kind_for d n s wf sh so c low Store Other is legal =
    let (r, e) = legal_request_has_row d n s (store c) wf sh so low legal (λ h. absurd cc) in
    store_kind d n s sh so c Other is (λ h. cc) r e (sh.rows.write_other s.dir r) so.kind.0 so.kind.1
kind_for d n s wf sh so c low Store Sharer is legal =
    let (r, e) = legal_request_has_row d n s (store c) wf sh so low legal (λ h. absurd cc) in
    store_kind d n s sh so c Sharer is (λ h. cc) r e (sh.rows.write_sharer s.dir r) so.kind.0 so.kind.1
kind_for d n s wf sh so c low Store Owner is legal =
    let (r, e) = legal_request_has_row d n s (store c) wf sh so low legal (λ h. absurd cc) in
    store_owner d n s sh so c is r e
kind_for d n s wf sh so c low Evict Other is legal = (Stale, s.dir, evict_stale d n s sh so c is)
kind_for d n s wf sh so c low Evict Sharer is legal =
    let (r, e) = legal_request_has_row d n s (evict c) wf sh so low legal (λ h nothing. absurd (let both = sym is ∙ nothing in cc)) in
    (Evict_sharer, r.next, evict_sharer d n s sh so c is r e (sharer_dir d n s so c (sharer_of_who s c is).1))
kind_for d n s wf sh so c low Evict Owner is legal =
    let (r, e) = legal_request_has_row d n s (evict c) wf sh so low legal (λ h nothing. absurd (let both = sym is ∙ nothing in cc)) in
    (Evict_owner, r.next, evict_owner d n s sh so c is r e)

pub legal_request_has_kind : (d : Draft) (n : ℕ) (s : DirEntry) (q : Request) → IsWellFormed d → IsShaped d → IsSound d n s → q.core < n → IsLegal d s q
    → (k : Kind) × (next : ℕ) × IsOfKind d s q k next
legal_request_has_kind d n s q w sh so low legal = kind_for d n s w sh so q.core low q.event (who s q.core) refl legal
