-- When memory is claimed to have a core's word.
use Rattle.std.proofs.Common.{◌≡◌, ◌≢◌, ℕ, Bool, true, false, ◌&&◌, ◌||◌, not, List, [], ◌∷◌, Option, Some, None, refl, sym, ap, subst, ◌∙◌, ◌⊎◌, inl, inr}
use Rattle.std.specs.Prelude.{◌==◌, slice_get}
use Rattle.std.specs.Option.{option_map_or, option_and_then}
use Rattle.pg_perm.proofs.Booleans.{and_true}
use Rattle.pg_perm.specs.declared.kinds.Event.{Event}
use Rattle.pg_perm.specs.declared.kinds.Event.TheVariants.{Load, Store, Evict}
use Rattle.pg_perm.specs.declared.kinds.FwdClass.TheVariants.{Share, Keep, Drop}
use Rattle.pg_perm.specs.declared.kinds.Role.{Role}
use Rattle.pg_perm.specs.declared.kinds.Role.TheVariants as role
use Rattle.pg_perm.specs.declared.kinds.Who.TheVariants.{Owner}
use Rattle.pg_perm.specs.declared.draft.Draft.{Draft}
use Rattle.pg_perm.specs.declared.draft.CacheLine.{CacheLine}
use Rattle.pg_perm.specs.declared.draft.CoreLine.{CoreLine}
use Rattle.pg_perm.specs.declared.draft.CoreForm.TheVariants as form
use Rattle.pg_perm.specs.declared.draft.TakeLine.{TakeLine}
use Rattle.pg_perm.specs.declared.draft.ReplyName.{ReplyName}
use Rattle.pg_perm.specs.declared.draft.ReplyName.TheVariants as named
use Rattle.pg_terms.specs.Terms.{is, is_owner, is_shared, is_out, shared, out, core_row, cache_is, has_class, take_row}
use Rattle.pg_terms.specs.Rows.{final_state, final_under}
use Rattle.pg_shape.specs.CoreRules.{is_dirty_writer, is_from_cache}
use Rattle.pg_shape.specs.Shaped.{IsShaped, IsCache}
use Rattle.pg_directory.specs.DirEntries.{DirEntry, Request}
use Rattle.pg_directory.specs.Sends.{forward_sent}
use Rattle.pg_directory.specs.Requests.{IsHandled}
use Rattle.pg_directory.specs.Kinds.{Kind, Stale, Read_shared, Read_owned, Read_share, Read_keep, Read_drop, Write_reply, Write_drop, Write_count, Evict_owner, Evict_sharer, forward_by_kind, IsOfKind}
use Rattle.pg_directory.proofs.Holders.{who_of_owner as owns_it, is_same}
use Rattle.pg_atomic.proofs.Fits.{cache_at, out_line, shared_line}
use Rattle.pg_table.specs.declared.cache.Desc.{Desc}
use Rattle.pg_messages.specs.declared.messages.Reply.{Reply}
use Rattle.pg_messages.specs.declared.messages.Reply.TheVariants.{Data, InvAck, WbData}
use Rattle.pg_controllers.specs.Networks.{Core}
use Rattle.pg_orderly.specs.Orderly.{is_pending}
use Rattle.pg_refined.specs.Shown.{base_event, base_state, cleans, is_clean_core, is_clean_state, leaves_clean, level_in, some_cleans, stand_of}

-- The three ways

abbrev pub IsClean : Draft → ℕ → Core → List Reply → Type 0
IsClean d e x rs = ((is_pending x ≡ false) × ((s : ℕ) × (level_in (stand_of x.line.desc) ≡ Some s) × (is_clean_state d s ≡ true)))
    ⊎ ((some_cleans d e x.line.desc rs ≡ true) ⊎ (leaves_clean x.slot ≡ true))

pub clean_is : (d : Draft) (e : ℕ) (x : Core) (rs : List Reply) → is_clean_core d e x rs ≡ true → IsClean d e x rs
clean_is d e x rs h = by (is_pending x) refl (level_in (stand_of x.line.desc)) refl (some_cleans d e x.line.desc rs) refl (leaves_clean x.slot) refl h
  where
    by : (p : Bool) → is_pending x ≡ p → (o : Option ℕ) → level_in (stand_of x.line.desc) ≡ o → (q : Bool) → some_cleans d e x.line.desc rs ≡ q
        → (r : Bool) → leaves_clean x.slot ≡ r → ((not p && option_map_or (is_clean_state d) o false) || q || r) ≡ true → IsClean d e x rs
    by p pe o oe true qe r re h = inr (inl qe)
    by p pe o oe false qe true re h = inr (inr re)
    by true pe o oe false qe false re h = cc
    by false pe None oe false qe false re h = cc
    by false pe (Some s) oe false qe false re h = inl (pe, (s, oe, at (is_clean_state d s) h))
      where
        at : (b : Bool) → ((true && b) || false || false) ≡ true → b ≡ true
        at true e = refl
        at false e = cc

pub clean_from : (d : Draft) (e : ℕ) (x : Core) (rs : List Reply) → IsClean d e x rs → is_clean_core d e x rs ≡ true
clean_from d e x rs (inl (idle, (s, level, clean))) = rw (idle, level, clean) (one (some_cleans d e x.line.desc rs) (leaves_clean x.slot))
  where
    one : (q r : Bool) → (true || q || r) ≡ true
    one true r = refl
    one false true = refl
    one false false = refl
clean_from d e x rs (inr (inl some)) = two (not (is_pending x) && option_map_or (is_clean_state d) (level_in (stand_of x.line.desc)) false) (some_cleans d e x.line.desc rs) (leaves_clean x.slot) some
  where
    two : (p q r : Bool) → q ≡ true → (p || q || r) ≡ true
    two true true r h = refl
    two false true r h = refl
    two p false r h = cc
clean_from d e x rs (inr (inr leaves)) = three (not (is_pending x) && option_map_or (is_clean_state d) (level_in (stand_of x.line.desc)) false) (some_cleans d e x.line.desc rs) (leaves_clean x.slot) leaves
  where
    three : (p q r : Bool) → r ≡ true → (p || q || r) ≡ true
    three true true true h = refl
    three true false true h = refl
    three false true true h = refl
    three false false true h = refl
    three p q false h = cc

-- Clean states

dirty_line : (c : CacheLine) → is_dirty_writer c ≡ true → c.clean ≡ false
dirty_line c h = at c.clean (and_true (Rattle.pg_terms.specs.Terms.is_write_owner c) (not c.clean) h).1
  where
    at : (b : Bool) → not b ≡ true → b ≡ false
    at true e = cc
    at false e = refl

pub dirty_state : (d : Draft) (t : ℕ) → cache_is is_dirty_writer d t ≡ true → is_clean_state d t ≡ false
dirty_state d t h = at (slice_get d.caches t) h
  where
    at : (o : Option CacheLine) → option_map_or is_dirty_writer o false ≡ true → option_map_or (λ (c : CacheLine). c.clean) o false ≡ false
    at None h = cc
    at (Some c) h = dirty_line c h

-- only an owner is clean
owner_clean : (d : Draft) → IsShaped d → (t : ℕ) (c : CacheLine) → IsCache d t c → is_owner c.role ≡ false → is_clean_state d t ≡ false
owner_clean d sh t c line other = cache_at (λ (c : CacheLine). c.clean) d t c line ∙ at c.clean refl
  where
    at : (b : Bool) → c.clean ≡ b → c.clean ≡ false
    at true e = absurd (let owner = sh.perms.clean_owner t c line e in cc (owner, other))
    at false e = e

shared_not : (r : Role) → is_shared r ≡ true → is_owner r ≡ false
shared_not role.Out h = refl
shared_not role.Shared h = refl
shared_not role.Owner h = cc

out_not : (r : Role) → is_out r ≡ true → is_owner r ≡ false
out_not role.Out h = refl
out_not role.Shared h = refl
out_not role.Owner h = cc

pub shared_dirty : (d : Draft) → IsShaped d → (t : ℕ) → shared d ≡ Some t → is_clean_state d t ≡ false
shared_dirty d sh t h = let (c, line, r) = shared_line d t (is_same (shared d) t h) in owner_clean d sh t c line (shared_not c.role r)

pub out_dirty : (d : Draft) → IsShaped d → (t : ℕ) → out d ≡ Some t → is_clean_state d t ≡ false
out_dirty d sh t h = let (c, line, r) = out_line d t (is_same (out d) t h) in owner_clean d sh t c line (out_not c.role r)

-- Finals

row_of_final : (d : Draft) (x : ℕ) (e : Event) (name : ReplyName) (t : ℕ) → final_state d x e name ≡ Some t → (l : CoreLine) × (core_row d x e ≡ Some l) × (final_under name l.form ≡ Some t)
row_of_final d x e name t h = at (core_row d x e) refl h
  where
    at : (o : Option CoreLine) → core_row d x e ≡ o → option_and_then (λ c. final_under name c.form) o ≡ Some t → (l : CoreLine) × (core_row d x e ≡ Some l) × (final_under name l.form ≡ Some t)
    at None row h = cc
    at (Some l) row h = (l, row, h)

pub store_dirty : (d : Draft) → IsShaped d → (x : ℕ) (name : ReplyName) (t : ℕ) → final_state d x Store name ≡ Some t → is_clean_state d t ≡ false
store_dirty d sh x name t h = let (l, row, fin) = row_of_final d x Store name t h in dirty_state d t (sh.cores.store_final x t name l row fin).0

pub load_memory : (d : Draft) → IsShaped d → (x : ℕ) (name : ReplyName) (t : ℕ) → final_state d x Load name ≡ Some t → is_clean_state d t ≡ true → is_from_cache d name ≡ false
load_memory d sh x name t h clean = let (l, row, fin) = row_of_final d x Load name t h in sh.cores.clean_final x t name l row fin clean

evict_ends_not : (d : Draft) → IsShaped d → (x : ℕ) (name : ReplyName) (t : ℕ) → final_state d x Evict name ≡ Some t → ⊥
evict_ends_not d sh x name t h =
    let (l, row, fin) = row_of_final d x Evict name t h in
    let (q, leaves) = sh.cores.evict x l row in
    let none : final_under name (form.Leave q) ≡ Some t = subst (λ y. final_under name y ≡ Some t) leaves fin in cc none

-- data that cleans comes from memory, to a load
pub record IsFromMemory (d : Draft) (x : Desc) (r : ℕ) : Type 0 where
  pub load : base_event x ≡ Load
  pub memory : is_from_cache d (named.Reply r) ≡ false
  pub fin : ℕ
  pub ends : final_state d (base_state x) (base_event x) (named.Reply r) ≡ Some fin
  pub clean : is_clean_state d fin ≡ true

pub cleans_load : (d : Draft) → IsShaped d → (e : ℕ) (x : Desc) (r c v n k : ℕ) → cleans d e x (Data r c v n k) ≡ true → IsFromMemory d x r
cleans_load d sh e x r c v n k h = at (final_state d (base_state x) (base_event x) (named.Reply r)) refl (and_true (c == e) (option_map_or (is_clean_state d) (final_state d (base_state x) (base_event x) (named.Reply r)) false) h).1
  where
    by : (ev : Event) → base_event x ≡ ev → (t : ℕ) → final_state d (base_state x) ev (named.Reply r) ≡ Some t → is_clean_state d t ≡ true → IsFromMemory d x r
    by Load is t fin clean = record { load = is; memory = load_memory d sh (base_state x) (named.Reply r) t fin clean; fin = t; ends = ap (λ ev. final_state d (base_state x) ev (named.Reply r)) is ∙ fin; clean = clean }
    by Store is t fin clean = absurd (let dirty = store_dirty d sh (base_state x) (named.Reply r) t fin in cc (clean, dirty))
    by Evict is t fin clean = absurd (evict_ends_not d sh (base_state x) (named.Reply r) t fin)

    at : (o : Option ℕ) → final_state d (base_state x) (base_event x) (named.Reply r) ≡ o → option_map_or (is_clean_state d) o false ≡ true → IsFromMemory d x r
    at None fin h = cc
    at (Some t) fin h = by (base_event x) refl t fin h

pub load_cleans : (d : Draft) → IsShaped d → (e : ℕ) (x : Desc) (ys : List Reply) → base_event x ≢ Load → some_cleans d e x ys ≡ false
load_cleans d sh e x [] other = refl
load_cleans d sh e x (Data r c v n k ∷ ys) other = at (cleans d e x (Data r c v n k)) refl (load_cleans d sh e x ys other)
  where
    at : (b : Bool) → cleans d e x (Data r c v n k) ≡ b → some_cleans d e x ys ≡ false → some_cleans d e x (Data r c v n k ∷ ys) ≡ false
    at true is rest = absurd (other (cleans_load d sh e x r c v n k is).load)
    at false is rest = ap (λ b. b || some_cleans d e x ys) is ∙ rest
load_cleans d sh e x (InvAck c k ∷ ys) other = load_cleans d sh e x ys other
load_cleans d sh e x (WbData v k ∷ ys) other = load_cleans d sh e x ys other

-- Forwards

-- what goes to the owner is a share, a keep or a drop
pub owner_class : (d : Draft) (n : ℕ) (s : DirEntry) (q : Request) (c f : ℕ) → IsHandled d n s q → (q.core == c) ≡ false → s.owner ≡ Some c → forward_sent d s q c ≡ Some f
    → (has_class Share d f ≡ true) ⊎ ((has_class Keep d f ≡ true) ⊎ (has_class Drop d f ≡ true))
owner_class d n s q c f h ne owner sends = let (k, next, of) = h.kind in by k next of (sym (of.sends c ne ∙ ap (forward_by_kind d k) (owns_it s c owner)) ∙ sends)
  where
    by : (k : Kind) (next : ℕ) → IsOfKind d s q k next → forward_by_kind d k Owner ≡ Some f → (has_class Share d f ≡ true) ⊎ ((has_class Keep d f ≡ true) ⊎ (has_class Drop d f ≡ true))
    by Stale next of e = cc
    by Read_shared next of e = cc
    by Read_owned next of e = cc
    by (Read_share g) next of e = let same : g ≡ f = cc in inl (subst (λ f. has_class Share d f ≡ true) same of.known.2)
    by (Read_keep g) next of e = let same : g ≡ f = cc in inr (inl (subst (λ f. has_class Keep d f ≡ true) same of.known.2))
    by (Read_drop g) next of e = let same : g ≡ f = cc in inr (inr (subst (λ f. has_class Drop d f ≡ true) same of.known.3))
    by Write_reply next of e = cc
    by (Write_drop g) next of e = let same : g ≡ f = cc in inr (inr (subst (λ f. has_class Drop d f ≡ true) same of.known.2))
    by Write_count next of e = cc
    by Evict_owner next of e = cc
    by Evict_sharer next of e = cc

-- an owner that answers is clean only if it was
pub next_clean : (d : Draft) → IsShaped d → (x f : ℕ) (t : TakeLine) → take_row d x f ≡ Some t → (has_class Share d f ≡ true) ⊎ ((has_class Keep d f ≡ true) ⊎ (has_class Drop d f ≡ true))
    → is_clean_state d t.next ≡ true → is_clean_state d x ≡ true
next_clean d sh x f t row (inl share) clean = absurd (let dirty = shared_dirty d sh t.next (sh.takes.share x f t row share).1 in cc (clean, dirty))
next_clean d sh x f t row (inr (inl keep)) clean = (sh.takes.keep x f t row keep).2 clean
next_clean d sh x f t row (inr (inr drop)) clean = absurd (let dirty = out_dirty d sh t.next (sh.takes.drop x f t row drop).1 in cc (clean, dirty))
