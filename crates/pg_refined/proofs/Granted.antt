-- What an orderly world says of the run after a grant of ownership of which nothing was served.
use Rattle.std.proofs.Common.{◌≡◌, ◌≢◌, ℕ, zero, suc, ◌<◌, ◌≤◌, arith, Bool, true, false, ◌&&◌, ◌||◌, not, cond, [], Option, Some, None, refl, sym, ap, subst, ◌∙◌, ◌⊎◌, inl, inr}
use Rattle.std.specs.Prelude.{◌==◌, is_none}
use Rattle.std.specs.Option.{option_map_or}
use Rattle.std.proofs.lemmas.Bool.{eqb-true}
use Rattle.pg_perm.proofs.Booleans.{and_true}
use Rattle.pg_perm.specs.declared.kinds.Event.{Event}
use Rattle.pg_perm.specs.declared.kinds.Event.TheVariants.{Evict}
use Rattle.pg_perm.specs.declared.kinds.FwdClass.TheVariants.{Share, Keep, Drop}
use Rattle.pg_perm.specs.declared.kinds.Who.TheVariants.{Other, Owner}
use Rattle.pg_perm.specs.declared.draft.Draft.{Draft}
use Rattle.pg_perm.specs.Drafts.{IsWellFormed}
use Rattle.pg_terms.specs.Terms.{has_class}
use Rattle.pg_shape.specs.Shaped.{IsShaped}
use Rattle.pg_directory.specs.DirEntries.{DirEntry, Request, who, entry_after}
use Rattle.pg_directory.specs.Requests.{IsHandled}
use Rattle.pg_directory.specs.Kinds.{Kind, Stale, Read_shared, Read_owned, Read_share, Read_keep, Read_drop, Write_reply, Write_drop, Write_count, Evict_owner, Evict_sharer, forward_by_kind, HasOwner, IsOfKind}
use Rattle.pg_directory.proofs.Facts.{one_class}
use Rattle.pg_directory.proofs.Holders.{who_of_owner}
use Rattle.pg_order.specs.Messages.{tally}
use Rattle.pg_order.specs.Orders.{DirOrder, is_stale, passed_forward}
use Rattle.pg_order.specs.Views.{View, is_unserved, IsWaiting, IsFresh}
use Rattle.pg_order.proofs.Known.{IsKnown, known}
use Rattle.pg_order.proofs.OneEntry.{stale_changes_nothing, owner_stays, passed_by, passed_other}
use Rattle.pg_order.proofs.NoOvertaking.{Entered, holders, overtakes_not, unserved_passed, owner_since}
use Rattle.pg_messages.specs.declared.messages.Reply.TheVariants.{Data}
use Rattle.pg_controllers.specs.Directories.{is_busy}
use Rattle.pg_controllers.specs.Worlds.{World, core, order_of}
use Rattle.pg_orderly.specs.Orderly.{Mark, is_pending, view_of, is_granted, is_write_back, is_share, IsBusy, IsBusyAt, IsOrderly}
use Rattle.pg_orderly.proofs.Acks.{ordered_is}
use Rattle.pg_safe.proofs.Replies as replies
use Rattle.pg_serial.specs.Groups.{IsFromNothing}
use Rattle.pg_serial.specs.Serial.{entry_at}
use Rattle.pg_serial.specs.Faithful.{Stand, Level, Ahead, Datum, Looks, IsGranted, IsBounded, EachIs, shown_entry, top_of}
use Rattle.pg_refined.specs.Shown.{HasFlags, cleans, data_of, is_clean, is_clean_state, leaves_clean, level_in, shown, some_cleans, stand_of, words_of}
use Rattle.pg_refined.proofs.Bridge.{IsBridged, bridged, top_is, stale_evicts, live_asks, stale_sends_nothing}
use Rattle.pg_refined.proofs.Lines.{lined_level, lined_ahead, phase_asks}
use Rattle.pg_refined.proofs.Data.{cleaning, each_data, no_words}

-- an orderly world with its flags, read as a run
pub record IsJoined (d : Draft) (n : ℕ) (w : World) (m : ℕ → Mark) : Type 0 where
  pub whole : IsWellFormed d
  pub shaped : IsShaped d
  pub orderly : IsOrderly d n w m
  pub flags : HasFlags d w
  pub known : IsKnown d n (order_of d w)
  pub bridge : IsBridged d (order_of d w) (entry_at (shown d w m).order) (shown_entry d (shown d w m))
  pub top : top_of (shown d w m) ≡ (order_of d w).top

pub joined : (d : Draft) (n : ℕ) (w : World) (m : ℕ → Mark) → IsWellFormed d → IsShaped d → IsOrderly d n w m → HasFlags d w → IsJoined d n w m
joined d n w m wf sh o flags =
    let k = known d n (order_of d w) wf sh o.past in
    record { whole = wf; shaped = sh; orderly = o; flags = flags; known = k; bridge = bridged d n w m flags k; top = top_is d w m }

-- Behind the grant

-- who has an entry after it waits for that, and it isn't served
pub record IsBehind (d : Draft) (p : DirOrder) (v : View) (g j e : ℕ) : Type 0 where
  pub entry : ℕ
  pub from : g ≤ entry
  pub low : entry < j
  pub last : v.last e ≡ suc entry
  pub pending : v.pending e ≡ true
  pub unserved : is_unserved d p v entry ≡ true

pub entered_waits : (d : Draft) (n : ℕ) (p : DirOrder) (v : View) → IsKnown d n p → IsWaiting d p v → (g c : ℕ) → IsFresh g c p v → (j e : ℕ) → j ≤ p.top → Entered p g j e → IsBehind d p v g j e
entered_waits d n p v k w g c f j e low (x, lo, hi, own, live) = elim (overtakes_not d n p v k w g c f x lo (omega (arith, hi, low))) [
  | inl stale ↦ absurd (cc (stale, live))
  | inr un ↦ let (last, pend) = subst (λ e. (v.last e ≡ suc x) × (v.pending e ≡ true)) own (w.forwards x (omega (arith, hi, low)) un) in
      record { entry = x; from = lo; low = hi; last = last; pending = pend; unserved = un }
]

-- each entry after it is of a core that holds nothing
pub asks_nothing : (d : Draft) (n : ℕ) (p : DirOrder) (v : View) → IsKnown d n p → IsWaiting d p v → (g c : ℕ) → IsFresh g c p v → (j : ℕ) → g ≤ j → j < p.top → who (p.dir_entry j) (p.at j).core ≡ Other
asks_nothing d n p v k w g c f j from low = elim (holders d n p k g c f.owns f.alone j from (omega (arith, low)) (p.at j).core) [
  | inl none ↦ none
  | inr (inl same) ↦ absurd (let b = w.lasts j low in let e : suc j ≤ v.last c = subst (λ e. suc j ≤ v.last e) same b in let grant = f.grant in omega (arith, e, grant, from))
  | inr (inr entered) ↦ absurd (let b = w.lasts j low in let h = entered_waits d n p v k w g c f j (p.at j).core (omega (arith, low)) entered in let last = h.last in let lt = h.low in omega (arith, b, last, lt))
]

pub granted_since : (d : Draft) (n : ℕ) (w : World) (m : ℕ → Mark) → IsJoined d n w m → (g c : ℕ) → g ≤ (order_of d w).top → IsFresh g c (order_of d w) (view_of w m) → IsGranted d n (shown d w m) g c
granted_since d n w m b g c low f = record {
  inside = ((b.known.sound g low).owner c f.owns).0;
  low = let top = b.top in omega (arith, top, low);
  at_grant = elim f.unspent [ inl pend ↦ inl (pend, f.grant) | inr seen ↦ inr seen ];
  asks = λ j from less. asks j from (let top = b.top in omega (arith, top, less));
  holders = λ e k there more less held. let top = b.top in hold e k more (omega (arith, top, less)) held;
  views = λ e there. let upto = (b.orderly.placed e there).upto in let top = b.top in omega (arith, upto, top);
}
  where
    p : DirOrder
    p = order_of d w

    v : View
    v = view_of w m

    asks : (j : ℕ) → g ≤ j → j < p.top → IsFromNothing n (shown_entry d (shown d w m) j) (entry_at (shown d w m).order j)
    asks j from less =
        let inside = b.known.past.inside j less in
        let none = ap (λ (s : DirEntry). who s (p.at j).core) (b.bridge.dir_entries j (omega (arith, less))) ∙ asks_nothing d n p v b.known b.orderly.waiting g c f j from less in
        elim (b.bridge.entries j less) [
          | inl (stale, is) ↦ subst (IsFromNothing n (shown_entry d (shown d w m) j)) (sym is) (inside, none)
          | inr (live, is) ↦ subst (IsFromNothing n (shown_entry d (shown d w m) j)) (sym is)
              (inside, none, live_asks (p.dir_entry j) (p.at j) live (asks_nothing d n p v b.known b.orderly.waiting g c f j from less))
        ]

    hold : (e k : ℕ) → g < k → k ≤ p.top → who (shown_entry d (shown d w m) k) e ≢ Other → (e ≡ c) ⊎ ((is_pending (core w e) ≡ true) × ((m e).last ≤ k))
    hold e k more less held = elim (holders d n p b.known g c f.owns f.alone k (omega (arith, more)) less e) [
      | inl none ↦ absurd (held (ap (λ (s : DirEntry). who s e) (b.bridge.dir_entries k less) ∙ none))
      | inr (inl same) ↦ inl same
      | inr (inr entered) ↦ let h = entered_waits d n p v b.known b.orderly.waiting g c f k e less entered in let last = h.last in let lt = h.low in inr (h.pending, omega (arith, last, lt))
    ]

-- What others say

less_or : (k g : ℕ) → (g ≤ k → ⊥) → k < g
less_or k g not_more = elim (let split : (k < g) ⊎ (g ≤ k) = search arith in split) [ inl low ↦ low | inr high ↦ absurd (not_more high) ]

-- an entry of another that was served is before the grant
pub served_below : (d : Draft) (n : ℕ) (p : DirOrder) (v : View) → IsKnown d n p → IsWaiting d p v → (g c : ℕ) → IsFresh (suc g) c p v → (p.at g).core ≡ c
    → (j e : ℕ) → j < p.top → (p.at j).core ≡ e → e ≢ c → is_stale (p.dir_entry j) (p.at j) ≡ false → is_unserved d p v j ≡ false → suc j < suc g
served_below d n p v k w g c f mine j e low own other live served = less_or (suc j) (suc g) (λ from. elim (let split : (j ≡ g) ⊎ (suc g ≤ j) = same_or j g from in split) [
  | inl same ↦ other (sym own ∙ ap (λ j. (p.at j).core) same ∙ mine)
  | inr more ↦ elim (overtakes_not d n p v k w (suc g) c f j more low) [ inl stale ↦ cc (stale, live) | inr un ↦ cc (un, served) ]
])
  where
    same_or : (j g : ℕ) → suc g ≤ suc j → (j ≡ g) ⊎ (suc g ≤ j)
    same_or j g from = search arith

-- the entry of a line that is ahead isn't stale
pub asks_live : (s : DirEntry) (q : Request) (e : Event) → q.event ≡ e → e ≢ Evict → is_stale s q ≡ false
asks_live s q e is asks = at (is_stale s q) refl
  where
    at : (b : Bool) → is_stale s q ≡ b → b ≡ false
    at true stale = absurd (asks (sym is ∙ (stale_evicts s q stale).0))
    at false live = refl

pub others_below : (d : Draft) (n : ℕ) (w : World) (m : ℕ → Mark) → IsJoined d n w m → (g c : ℕ) → g < (order_of d w).top → IsFresh (suc g) c (order_of d w) (view_of w m) → ((order_of d w).at g).core ≡ c
    → (e : ℕ) → e < n → e ≢ c → Looks (λ k. k < suc g) (shown_entry d (shown d w m)) e (m e).seen (m e).last (stand_of (core w e).line.desc)
others_below d n w m b g c inside f mine e there other = by (stand_of (core w e).line.desc) refl
  where
    p : DirOrder
    p = order_of d w

    v : View
    v = view_of w m

    none : (k : ℕ) → suc g ≤ k → k ≤ p.top → who (shown_entry d (shown d w m) k) e ≢ Other → ((is_pending (core w e) ≡ true) × ((m e).last ≤ k) → ⊥) → ⊥
    none k from low held apart = elim (holders d n p b.known (suc g) c f.owns f.alone k from low e) [
      | inl nothing ↦ held (ap (λ (s : DirEntry). who s e) (b.bridge.dir_entries k low) ∙ nothing)
      | inr (inl same) ↦ other same
      | inr (inr entered) ↦ let h = entered_waits d n p v b.known b.orderly.waiting (suc g) c f k e low entered in let last = h.last in let lt = h.low in apart (h.pending, omega (arith, last, lt))
    ]

    by : (u : Stand) → stand_of (core w e).line.desc ≡ u → Looks (λ k. k < suc g) (shown_entry d (shown d w m)) e (m e).seen (m e).last u
    by (Level s) is = λ held. less_or (m e).seen (suc g) (λ from.
        let pl = b.orderly.placed e there in
        let upto = pl.upto in
        none (m e).seen from (omega (arith, upto)) held (λ q. let lt = (lined_level d p e (core w e).line (m e) (core w e).line.desc (core w e).slot pl.line s is).behind q.0 in omega (arith, lt, q.1)))
    by (Ahead s t) is = λ j at.
        let pl = b.orderly.placed e there in
        let a = lined_ahead d p e (core w e).line (m e) (core w e).line.desc (core w e).slot pl.line s t is in
        let upto = pl.last_low in
        let low : j < p.top = omega (arith, at, upto) in
        let live = asks_live (p.dir_entry j) (p.at j) a.event (ordered_is p (m e) a.event a.line.ordered j at) (phase_asks d a.event s a.phase a.line.phase) in (
          λ held. less_or j (suc g) (λ from. none j from (omega (arith, low)) held (λ q. omega (arith, q.1, at))),
          λ granted. served_below d n p v b.known b.orderly.waiting g c f mine j e low (pl.last_own j at) other live (served j e low (pl.last_own j at) t granted a.grant (is_unserved d p v j) refl),
        )
      where
        served : (j e : ℕ) → j < p.top → (p.at j).core ≡ e → (t : Bool) → t ≡ true → t ≡ is_granted (core w e).line.desc → (q : Bool) → is_unserved d p v j ≡ q → q ≡ false
        served j e low own t granted grant true un = absurd (let free = subst (λ e. is_granted (core w e).line.desc ≡ false) own (b.orderly.ungranted j low un) in cc (granted, grant, free))
        served j e low own t granted grant false un = refl

-- data to others is of entries before the grant
pub data_below : (d : Draft) (n : ℕ) (w : World) (m : ℕ → Mark) → IsJoined d n w m → (g c : ℕ) → IsFresh (suc g) c (order_of d w) (view_of w m) → ((order_of d w).at g).core ≡ c
    → EachIs (λ (x : Datum). x.core ≢ c → x.stamp < suc g) (data_of w.replies)
data_below d n w m b g c f mine = each_data (λ (x : Datum). x.core ≢ c → x.stamp < suc g) w.replies (λ i r e v t k stands other.
    let h = replies.datum d n w m i r e v t k b.whole b.shaped b.orderly stands in
    let promise = Rattle.pg_orderly.proofs.Filled.promised_at d (order_of d w) (λ e. (m e).last) n w.replies i (Data r e v t k) stands b.orderly.promised in
    let last = h.last in
    let lt = served_below d n (order_of d w) (view_of w m) b.known b.orderly.waiting g c f mine h.entry e h.inside h.own other
    (live h.entry (λ evict. let none = ap Rattle.pg_orderly.specs.Orderly.brings_data (replies.evict_acts_not d ((order_of d w).dir_entry h.entry) ((order_of d w).at h.entry) evict) in let some = h.brings in cc (none, some))) h.served in
    let stamp = promise.1 in omega (arith, lt, last, stamp))
  where
    live : (j : ℕ) → ((order_of d w).at j).event ≢ Evict → is_stale ((order_of d w).dir_entry j) ((order_of d w).at j) ≡ false
    live j asks = asks_live ((order_of d w).dir_entry j) ((order_of d w).at j) ((order_of d w).at j).event refl asks

-- There is an owner, or the directory is busy

same_or_less : (g top : ℕ) → g ≤ top → (g ≡ top) ⊎ ((j : ℕ) × (top ≡ suc j) × (g ≤ j))
same_or_less g zero low = inl (omega (arith, low))
same_or_less g (suc j) low = elim (let split : (g ≡ suc j) ⊎ (g ≤ j) = search arith in split) [ inl same ↦ inl same | inr less ↦ inr (j, refl, less) ]

pub owner_or_busy : (d : Draft) (n : ℕ) (w : World) (m : ℕ → Mark) → IsJoined d n w m → (g c : ℕ) → g ≤ (order_of d w).top → IsFresh g c (order_of d w) (view_of w m)
    → ((order_of d w).dir_entry (order_of d w).top).owner ≡ None → is_busy w.directory.desc ≡ false → ⊥
owner_or_busy d n w m b g c low f none free = elim (same_or_less g (order_of d w).top low) [
  | inl here ↦ let owns : (p.dir_entry p.top).owner ≡ Some c = subst (λ k. (p.dir_entry k).owner ≡ Some c) here f.owns in cc (owns, none)
  | inr (j, is, from) ↦ behind j is from
]
  where
    p : DirOrder
    p = order_of d w

    v : View
    v = view_of w m

    gone : (j : ℕ) → p.top ≡ suc j → HasOwner (p.dir_entry (suc j)) → ⊥
    gone j is (o, owns) = let e : (p.dir_entry (suc j)).owner ≡ None = subst (λ k. (p.dir_entry k).owner ≡ None) is none in cc (e, owns)

    behind : (j : ℕ) → p.top ≡ suc j → g ≤ j → ⊥
    behind j is from =
        let less : j < p.top = omega (arith, is) in
        let before = owner_since d n p v b.known b.orderly.waiting g c f.owns j less (λ x lt gx. overtakes_not d n p v b.known b.orderly.waiting g c f x gx (omega (arith, lt, less))) j from (omega arith) in
        elim (overtakes_not d n p v b.known b.orderly.waiting g c f j from less) [
          | inl stale ↦ gone j is (subst HasOwner (sym (b.known.past.follows j less ∙ (stale_changes_nothing d n (p.dir_entry j) (p.at j) (b.known.handled j less) stale).0)) before)
          | inr un ↦
              let (o, h, owner, to) = unserved_passed d p v j un in
              elim (owner_stays d n (p.dir_entry j) (p.at j) o h (b.known.handled j less) owner to) [
                | inl some ↦ gone j is (subst HasOwner (sym (b.known.past.follows j less)) some)
                | inr share ↦ let busy = b.orderly.shares j h less un to share in cc (busy, free)
              ]
        ]

-- Nobody is clean whose data is still to come

pub clean_waits : (d : Draft) (n : ℕ) (w : World) (m : ℕ → Mark) → IsJoined d n w m → (e x : ℕ) → is_pending (core w e) ≡ true → (m e).last ≡ suc x → is_unserved d (order_of d w) (view_of w m) x ≡ true
    → is_clean d w e ≡ true → ⊥
clean_waits d n w m b e x pend last un clean = by (core w e).slot refl pend clean
  where
    waits : (q : Bool) → some_cleans d e (core w e).line.desc w.replies ≡ q → q ≡ true → ⊥
    waits false is e = cc
    waits true is q =
        let h = cleaning d e (core w e).line.desc w.replies is in
        let (to, ends) = and_true (h.to == e) (option_map_or (is_clean_state d) (Rattle.pg_terms.specs.Rows.final_state d (Rattle.pg_refined.specs.Shown.base_state (core w e).line.desc) (Rattle.pg_refined.specs.Shown.base_event (core w e).line.desc) (Rattle.pg_perm.specs.declared.draft.ReplyName.TheVariants.Reply h.reply)) false) h.clean in
        let same : h.to ≡ e = eqb-true h.to e to in
        let it = replies.datum d n w m h.place h.reply h.to h.word h.count h.stamp b.whole b.shaped b.orderly h.stands in
        let at : (m e).last ≡ suc it.entry = subst (λ e. (m e).last ≡ suc it.entry) same it.last in
        let is_x : it.entry ≡ x = omega (arith, at, last) in
        let served = subst (λ j. is_unserved d (order_of d w) (view_of w m) j ≡ false) is_x it.served in
        cc (served, un)

    split : (p a q r : Bool) → p ≡ true → r ≡ false → ((not p && a) || q || r) ≡ true → q ≡ true
    split true a true r h g e = refl
    split true a false true h g e = cc
    split true a false false h g e = cc
    split false a q r h g e = cc

    by : (slot : Option Rattle.pg_messages.specs.declared.messages.Ask.Ask) → (core w e).slot ≡ slot → is_pending (core w e) ≡ true → is_clean d w e ≡ true → ⊥
    by None is pend clean =
        waits (some_cleans d e (core w e).line.desc w.replies) refl
        (split (is_pending (core w e)) (option_map_or (is_clean_state d) (level_in (stand_of (core w e).line.desc)) false) (some_cleans d e (core w e).line.desc w.replies) (leaves_clean (core w e).slot) pend (ap leaves_clean is) clean)
    by (Some a) is pend clean = no_slot (not (Rattle.pg_controllers.specs.Worlds.is_stable (core w e).line.desc)) (ap (λ s. not (Rattle.pg_controllers.specs.Worlds.is_stable (core w e).line.desc) && is_none s) (sym is) ∙ pend)
      where
        no_slot : (b : Bool) → (b && false) ≡ true → ⊥
        no_slot true e = cc
        no_slot false e = cc

-- who owns after the grant and isn't its core isn't clean
pub owner_dirty : (d : Draft) (n : ℕ) (w : World) (m : ℕ → Mark) → IsJoined d n w m → (g c : ℕ) → g ≤ (order_of d w).top → IsFresh g c (order_of d w) (view_of w m)
    → (e : ℕ) → ((order_of d w).dir_entry (order_of d w).top).owner ≡ Some e → e ≢ c → is_clean d w e ≡ true → ⊥
owner_dirty d n w m b g c low f e owner other clean = elim (holders d n p b.known g c f.owns f.alone p.top low (omega arith) e) [
  | inl none ↦ let y = who_of_owner (p.dir_entry p.top) e owner in cc (y, none)
  | inr (inl same) ↦ other same
  | inr (inr entered) ↦ let h = entered_waits d n p (view_of w m) b.known b.orderly.waiting g c f p.top e (omega arith) entered in clean_waits d n w m b e h.entry h.pending h.last h.unserved clean
]
  where
    p : DirOrder
    p = order_of d w

-- No word is written back

-- a share leaves no owner
pub share_leaves : (d : Draft) (n : ℕ) (s : DirEntry) (q : Request) (f : ℕ) → IsHandled d n s q → passed_forward d s q ≡ Some f → has_class Share d f ≡ true → (entry_after d s q).owner ≡ None
share_leaves d n s q f h to share = at s.owner refl
  where
    by : (o : ℕ) → s.owner ≡ Some o → (k : Kind) (next : ℕ) → IsOfKind d s q k next → forward_by_kind d k Owner ≡ Some f → (entry_after d s q).owner ≡ None
    by o owner Stale next of e = cc
    by o owner Read_shared next of e = cc
    by o owner Read_owned next of e = cc
    by o owner (Read_share g) next of e = ap (λ (t : DirEntry). t.owner) of.knows
    by o owner (Read_keep g) next of e = let same : g ≡ f = cc in absurd (cc (one_class d f Keep Share (subst (λ g. has_class Keep d g ≡ true) same of.known.2) share))
    by o owner (Read_drop g) next of e = let same : g ≡ f = cc in absurd (cc (one_class d f Drop Share (subst (λ g. has_class Drop d g ≡ true) same of.known.3) share))
    by o owner Write_reply next of e = cc
    by o owner (Write_drop g) next of e = let same : g ≡ f = cc in absurd (cc (one_class d f Drop Share (subst (λ g. has_class Drop d g ≡ true) same of.known.2) share))
    by o owner Write_count next of e = cc
    by o owner Evict_owner next of e = cc
    by o owner Evict_sharer next of e = cc

    at : (t : Option ℕ) → s.owner ≡ t → (entry_after d s q).owner ≡ None
    at None is = absurd (let none : passed_forward d s q ≡ None = rw is refl in cc (none, to))
    at (Some o) is = let (k, next, of) = h.kind in by o is k next of (sym (passed_by d s q k next o of is (passed_other d s q o f is to)) ∙ to)

pub none_written : (d : Draft) (n : ℕ) (w : World) (m : ℕ → Mark) → IsJoined d n w m → (g c : ℕ) → g ≤ (order_of d w).top → IsFresh g c (order_of d w) (view_of w m) → words_of w.replies ≡ []
none_written d n w m b g c low f = no_words w.replies (by (is_busy w.directory.desc) b.orderly.busy)
  where
    p : DirOrder
    p = order_of d w

    v : View
    v = view_of w m

    shared : (j : ℕ) → is_share d (passed_forward d (p.dir_entry j) (p.at j)) ≡ true → (h : ℕ) × (passed_forward d (p.dir_entry j) (p.at j) ≡ Some h) × (has_class Share d h ≡ true)
    shared j is = at (passed_forward d (p.dir_entry j) (p.at j)) refl is
      where
        at : (o : Option ℕ) → passed_forward d (p.dir_entry j) (p.at j) ≡ o → is_share d o ≡ true → (h : ℕ) × (passed_forward d (p.dir_entry j) (p.at j) ≡ Some h) × (has_class Share d h ≡ true)
        at None e q = cc
        at (Some h) e q = (h, e, q)

    at_top : (l : ℕ) → l ≡ p.top → IsBusyAt d p v (tally is_write_back w.replies) l → tally is_write_back w.replies ≡ 0
    at_top zero is h = absurd h
    at_top (suc j) is h =
        let less : j < p.top = omega (arith, is) in
        let (x, to, share) = shared j h.0 in
        elim (let split : (g ≤ j) ⊎ (g ≡ suc j) = low_or g j low is in split) [
          | inl from ↦ elim (overtakes_not d n p v b.known b.orderly.waiting g c f j from less) [
            | inl stale ↦ absurd (let none = stale_sends_nothing d n (p.dir_entry j) (p.at j) (b.known.handled j less) stale in cc (none, to))
            | inr un ↦ h.1 ∙ ap (λ b. cond {A = ℕ} b 0 1) un
          ]
          | inr here ↦ absurd (
              let none = ap (λ (t : DirEntry). t.owner) (b.known.past.follows j less) ∙ share_leaves d n (p.dir_entry j) (p.at j) x (b.known.handled j less) to share in
              let owns : (p.dir_entry (suc j)).owner ≡ Some c = subst (λ k. (p.dir_entry k).owner ≡ Some c) here f.owns in cc (none, owns))
        ]
      where
        low_or : (g j : ℕ) → g ≤ p.top → suc j ≡ p.top → (g ≤ j) ⊎ (g ≡ suc j)
        low_or g j low is = at p.top low is
          where
            at : (t : ℕ) → g ≤ t → suc j ≡ t → (g ≤ j) ⊎ (g ≡ suc j)
            at t low is = search (arith, low, is)

    by : (q : Bool) → IsBusy d p v (tally is_write_back w.replies) q → tally is_write_back w.replies ≡ 0
    by true h = at_top p.top refl h
    by false h = h

pub bounded : (d : Draft) (n : ℕ) (w : World) (m : ℕ → Mark) → IsJoined d n w m → IsBounded n (shown d w m)
bounded d n w m b = record {
  views = λ c there. let upto = (b.orderly.placed c there).upto in let top = b.top in omega (arith, upto, top);
  lasts = λ c there. let upto = (b.orderly.placed c there).last_low in let top = b.top in omega (arith, upto, top);
  replies = each_data (λ (x : Datum). x.stamp ≤ top_of (shown d w m)) w.replies (λ i r e v t k stands.
      let promise = Rattle.pg_orderly.proofs.Filled.promised_at d (order_of d w) (λ e. (m e).last) n w.replies i (Data r e v t k) stands b.orderly.promised in
      let upto = (b.orderly.placed e promise.0).last_low in let stamp = promise.1 in let top = b.top in omega (arith, upto, stamp, top));
}
