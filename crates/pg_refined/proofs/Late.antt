-- A load whose data comes after it acknowledged an invalidation; and that it is either so, or all that came was put off.
use Rattle.std.proofs.Common.{◌≡◌, ◌≢◌, ℕ, zero, suc, ◌+◌, ◌<◌, ◌≤◌, arith, Bool, true, false, not, List, [], ◌∷◌, ◌++◌, length, Some, None, refl, sym, ap, subst, ◌∙◌, ◌⊎◌, inl, inr}
use Rattle.std.specs.Prelude.{◌==◌, slice_get, if◌then◌else◌}
use Rattle.std.specs.List.{remove}
use Rattle.std.proofs.lemmas.Bool.{eqb-true, eq-eqb}
use Rattle.pg_perm.specs.declared.kinds.Event.TheVariants as event
use Rattle.pg_perm.specs.declared.kinds.FwdClass.TheVariants.{Inv, Share, Keep}
use Rattle.pg_perm.specs.declared.kinds.Who.TheVariants.{Other}
use Rattle.pg_perm.specs.declared.draft.Draft.{Draft}
use Rattle.pg_terms.specs.Terms.{has_class, out}
use Rattle.pg_directory.specs.DirEntries.{DirEntry, who}
use Rattle.pg_directory.specs.Sends.{forward_sent}
use Rattle.pg_directory.proofs.Facts.{one_class}
use Rattle.pg_table.specs.declared.cache.Desc.TheVariants.{Stable, Ask}
use Rattle.pg_table.specs.declared.cache.Phase.TheVariants.{D}
use Rattle.pg_table.specs.declared.cache.Tag.{Tag}
use Rattle.pg_table.specs.declared.cache.Tag.TheVariants.{Plain, Kept, Gave, Gone}
use Rattle.pg_table.specs.Choices.{tag_by}
use Rattle.pg_table.proofs.Lists.{IsIn}
use Rattle.pg_messages.specs.declared.messages.Ordered.{Ordered}
use Rattle.pg_messages.specs.declared.messages.Ordered.TheVariants.{Forward, AckCount, PutAck}
use Rattle.pg_order.specs.Messages.{sent_between}
use Rattle.pg_order.specs.Orders.{DirOrder, entry_message}
use Rattle.pg_order.proofs.Known.{IsKnown}
use Rattle.pg_order.proofs.OneEntry.{still_nothing}
use Rattle.pg_order.proofs.Quiet.{IsSent, forward_is}
use Rattle.pg_messages.specs.declared.messages.Finished.TheVariants as finish
use Rattle.pg_controllers.specs.Networks as net
use Rattle.pg_messages.specs.declared.messages.Reply.{Reply}
use Rattle.pg_messages.specs.declared.messages.Reply.TheVariants.{Data}
use Rattle.pg_messages.specs.declared.messages.DoneEntry.{DoneEntry}
use Rattle.pg_controllers.specs.Worlds.{World, core, order_of}
use Rattle.pg_orderly.specs.Orderly.{Mark, is_pending, tag_from, IsAhead, IsPlaced}
use Rattle.pg_orderly.proofs.Keeping.{marked, moved, core_same, core_other}
use Rattle.pg_orderly.proofs.Serving.{ArePutOff}
use Rattle.pg_safe.proofs.Ends.{none_after}
use Rattle.pg_safe.proofs.Heads.{in_between}
use Rattle.pg_serial.specs.Serial.{Loaded, entry_at}
use Rattle.pg_serial.specs.Faithful.{IsDatum, IsFaithful, Level, state_at, top_of}
use Rattle.pg_serial.proofs.Rest.{load_late}
use Rattle.pg_refined.specs.Shown.{accesses, data_of, is_clean, is_clean_core, is_clean_state, leaves_clean, level_in, shown, stand_of, told_of, words_of}
use Rattle.pg_refined.proofs.Data.{data_at, datum_as, no_cleans}
use Rattle.pg_refined.proofs.Clean.{clean_is, clean_from, out_dirty}
use Rattle.pg_refined.proofs.Granted.{IsJoined}
use Rattle.pg_refined.proofs.Completes.{AreFewer, IsPendingAt, append_nil, entry_inside, holds_after, one_less}
use Rattle.pg_refined.proofs.Fills.{taken_none}
use Rattle.pg_refined.proofs.Moves.{accesses-append, ne_eq, told_as, told_other, told_same, told_with_done, told_with_replies}
use Rattle.pg_refined.proofs.Asks.{marks_still}
use Rattle.pg_refined.proofs.Rest.{inv_empties}

-- What the tag tells

-- after a tag that isn't plain only what is put off comes
kept_put_off : (d : Draft) (t u : Tag) (ms : List Ordered) → t ≢ Plain → tag_from d t ms ≡ Some u → ArePutOff d ms
kept_put_off d Plain u ms other h = absurd (other refl)
kept_put_off d Kept u [] other h = tt
kept_put_off d Kept u (Forward f r n k ∷ ms) other h = at (has_class Inv d f) refl h (λ q. kept_put_off d (tag_by d f) u ms (never_plain f) q)
  where
    never_plain : (f : ℕ) → tag_by d f ≢ Plain
    never_plain f = at (has_class Share d f) (has_class Keep d f)
      where
        at : (a b : Bool) → (if a then Gave else if b then Kept else Gone) ≢ Plain
        at true b = λ e. cc e
        at false true = λ e. cc e
        at false false = λ e. cc e

    at : (b : Bool) → has_class Inv d f ≡ b → (if b then None else tag_from d (tag_by d f) ms) ≡ Some u → (tag_from d (tag_by d f) ms ≡ Some u → ArePutOff d ms) → ArePutOff d (Forward f r n k ∷ ms)
    at true is h more = cc
    at false is h more = (ap not is, more h)
kept_put_off d Kept u (AckCount n k ∷ ms) other h = cc
kept_put_off d Kept u (PutAck k ∷ ms) other h = cc
kept_put_off d Gave u [] other h = tt
kept_put_off d Gave u (m ∷ ms) other h = cc
kept_put_off d Gone u [] other h = tt
kept_put_off d Gone u (m ∷ ms) other h = cc

pub data CameFirst (d : Draft) (ms : List Ordered) : Type 0 where
  AllPutOff : ArePutOff d ms → CameFirst d ms
  OneInv : (f r n k : ℕ) → ms ≡ Forward f r n k ∷ [] → has_class Inv d f ≡ true → CameFirst d ms

-- all that came was put off, or one invalidation came
pub came_first : (d : Draft) (t : Tag) (ms : List Ordered) → tag_from d Plain ms ≡ Some t → CameFirst d ms
came_first d t [] h = AllPutOff tt
came_first d t (AckCount n k ∷ ms) h = cc
came_first d t (PutAck k ∷ ms) h = cc
came_first d t (Forward f r n k ∷ ms) h = at (has_class Inv d f) refl
  where
    not_plain : tag_by d f ≢ Plain
    not_plain = by (has_class Share d f) (has_class Keep d f)
      where
        by : (a b : Bool) → (if a then Gave else if b then Kept else Gone) ≢ Plain
        by true b = λ e. cc e
        by false true = λ e. cc e
        by false false = λ e. cc e

    gone : has_class Inv d f ≡ true → tag_by d f ≡ Gone
    gone inv = by (has_class Share d f) refl (has_class Keep d f) refl
      where
        by : (a : Bool) → has_class Share d f ≡ a → (b : Bool) → has_class Keep d f ≡ b → (if a then Gave else if b then Kept else Gone) ≡ Gone
        by true sa b kb = absurd (cc (one_class d f Inv Share inv sa))
        by false sa true kb = absurd (cc (one_class d f Inv Keep inv kb))
        by false sa false kb = refl

    no_more : (ms : List Ordered) → tag_from d Gone ms ≡ Some t → ms ≡ []
    no_more [] e = refl
    no_more (m ∷ ms) e = cc

    at : (b : Bool) → has_class Inv d f ≡ b → CameFirst d (Forward f r n k ∷ ms)
    at false is = AllPutOff (ap not is, kept_put_off d (tag_by d f) t ms not_plain h)
    at true is = OneInv f r n k (ap (λ xs. Forward f r n k ∷ xs) (no_more ms (subst (λ z. tag_from d z ms ≡ Some t) (gone is) h))) is

-- so an entry there sent an invalidation
pub inv_there : (d : Draft) (p : DirOrder) (c a n f r i k : ℕ) → sent_between (entry_message d p c) a n ≡ Forward f r i k ∷ [] → (j : ℕ) × (a ≤ j) × (j < a + n) × IsSent d p c j f r i k
inv_there d p c a n f r i k e =
    let (j, lo, hi, sends) = in_between (entry_message d p c) a n (Forward f r i k) (subst (IsIn (Forward f r i k)) (sym e) (inl refl)) in (j, lo, hi, forward_is d p c j f r i k sends)

-- of a line that is ahead: all that came after its entry was put off, or an invalidation came there
pub late_or_put_off : (d : Draft) (p : DirOrder) (c : ℕ) (l : net.Line) (m : Mark) (e : Rattle.pg_perm.specs.declared.kinds.Event.Event) (s : ℕ) (ph : Rattle.pg_table.specs.declared.cache.Phase.Phase) (t : Tag) → (a : IsAhead d p c l m e s ph t)
    → ArePutOff d (sent_between (entry_message d p c) m.last a.past) ⊎ ((j : ℕ) × (m.last ≤ j) × (j < m.seen) × ((f : ℕ) × (has_class Inv d f ≡ true) × (((p.at j).core == c) ≡ false) × (forward_sent d (p.dir_entry j) (p.at j) c ≡ Some f)))
late_or_put_off d p c l m e s ph t a = by (came_first d t (sent_between (entry_message d p c) m.last a.past) a.tag)
  where
    by : CameFirst d (sent_between (entry_message d p c) m.last a.past)
        → ArePutOff d (sent_between (entry_message d p c) m.last a.past) ⊎ ((j : ℕ) × (m.last ≤ j) × (j < m.seen) × ((f : ℕ) × (has_class Inv d f ≡ true) × (((p.at j).core == c) ≡ false) × (forward_sent d (p.dir_entry j) (p.at j) c ≡ Some f)))
    by (AllPutOff all) = inl all
    by (OneInv f r n k is inv) =
        let (j, lo, hi, fw) = inv_there d p c m.last a.past f r n k is in
        let upto = a.upto in
        inr (j, lo, omega (arith, hi, upto), (f, inv, fw.other, fw.sends))

-- who holds nothing holds nothing till an entry of its own
pub nothing_till : (d : Draft) (n : ℕ) (p : DirOrder) → IsKnown d n p → (c a b : ℕ) → a ≤ b → b ≤ p.top → ((j : ℕ) → a ≤ j → j < b → ((p.at j).core == c) ≡ false) → who (p.dir_entry a) c ≡ Other → who (p.dir_entry b) c ≡ Other
nothing_till d n p k c a zero from upto others none = let z : a ≡ zero = omega (arith, from) in subst (λ j. who (p.dir_entry j) c ≡ Other) z none
nothing_till d n p k c a (suc b) from upto others none = elim (let split : (a ≤ b) ⊎ (a ≡ suc b) = search arith in split) [
  | inr here ↦ subst (λ j. who (p.dir_entry j) c ≡ Other) here none
  | inl below ↦
      let before = nothing_till d n p k c a b below (omega (arith, upto)) (λ j lo hi. others j lo (omega (arith, hi))) none in
      ap (λ s. who s c) (k.past.follows b (omega (arith, upto))) ∙ still_nothing d n (p.dir_entry b) (p.at b) c (k.handled b (omega (arith, upto))) (others b below (omega arith)) before
]

-- The fill

pub record IsLate (d : Draft) (w : World) (m : ℕ → Mark) (c s st : ℕ) (t : Tag) (i a v cnt k p j f : ℕ) (y : net.Core) : Type 0 where
  pub desc : (core w c).line.desc ≡ Ask event.Load s D t
  pub slot : (core w c).slot ≡ None
  pub reply : slice_get w.replies i ≡ Some (Data a c v cnt k)
  pub last : (m c).last ≡ suc p
  pub does : ((order_of d w).at p).event ≡ event.Load
  -- an invalidation came after its entry
  pub from : (m c).last ≤ j
  pub low : j < (m c).seen
  pub other : (((order_of d w).at j).core == c) ≡ false
  pub sends : forward_sent d ((order_of d w).dir_entry j) ((order_of d w).at j) c ≡ Some f
  pub inv : has_class Inv d f ≡ true
  pub line : y.line.desc ≡ Stable st
  pub gone : out d ≡ Some st
  pub empty : y.slot ≡ None

pub late_told : (d : Draft) (n : ℕ) (w : World) (m : ℕ → Mark) (c s st : ℕ) (t : Tag) (i a v cnt k p j f : ℕ) (y : net.Core) → IsJoined d n w m → c < n → IsLate d w m c s st t i a v cnt k p j f y → IsFaithful d n (shown d w m)
    → IsFaithful d n (shown d (moved c y (remove w.replies i) (w.done ++ record { stamp = k; core = c; fin = finish.Load v; late = true } ∷ []) w) m)
late_told d n w m c s st t i a v cnt k p j f y b there h faithful =
    subst (λ z. IsFaithful d n (shown d (moved c y rs (w.done ++ record { stamp = z; core = c; fin = finish.Load v; late = true } ∷ []) w) m)) (sym stamp)
    (marks_still d n x m c
    (told_with_done d n (record (shown d x m2) { done = accesses w.done ++ record { stamp = suc p; core = c; made = Loaded v; late = true } ∷ [] }) (accesses dn)
    (told_with_replies d n (record (shown d x m2) { done = accesses w.done ++ record { stamp = suc p; core = c; made = Loaded v; late = true } ∷ []; replies = data_of rs ++ [] }) (data_of rs)
    (load_late d b.whole b.shaped n (shown d w m) c p st y.line.word y.line.stamp (datum_as a c v (suc p)) (shown d x m2).core (data_of rs) [] (words_of rs) (shown d w m).busy (is_clean d x)
    faithful there (let top = b.top in omega (arith, inside, top)) pend h.last (let last = h.last in let from = h.from in let low = h.low in omega (arith, last, from, low))
    datum refl (holds_after d n w m b c p event.Load there at_entry) (ap (λ (z : DirEntry). who z c) (b.bridge.dir_entries (m c).seen viewed) ∙ nothing)
    (λ z other. told_other d w m c z y (record { seen = (m c).seen; last = (m c).last }) rs dn other) own
    (fewer.data_stay (IsDatum d (entry_at (shown d w m).order) (state_at d n (shown d w m))) faithful.replies) tt
    (fewer.words_stay (λ z. z ≡ (state_at d n (shown d w m) (top_of (shown d w m))).word) faithful.written)
    faithful.memory (λ z owner clean. faithful.clean z owner (less z clean)))
    (append_nil (data_of rs)))
    (sym (accesses-append w.done (record { stamp = suc p; core = c; fin = finish.Load v; late = true } ∷ [])))))
  where
    past : DirOrder
    past = order_of d w

    rs : List Reply
    rs = remove w.replies i

    dn : List DoneEntry
    dn = w.done ++ record { stamp = suc p; core = c; fin = finish.Load v; late = true } ∷ []

    m2 : ℕ → Mark
    m2 = marked c (record { seen = (m c).seen; last = (m c).last }) m

    x : World
    x = moved c y rs dn w

    fewer : AreFewer d w.replies rs
    fewer = one_less d w.replies i

    pl : IsPlaced d past c (core w c) (m c)
    pl = b.orderly.placed c there

    cores : c < length w.cores
    cores = let same = b.orderly.cores in omega (arith, same, there)

    viewed : (m c).seen ≤ past.top
    viewed = let upto = pl.upto in omega (arith, upto)

    pend : is_pending (core w c) ≡ true
    pend = rw (h.desc, h.slot) refl

    at_entry : IsPendingAt d w m c p event.Load
    at_entry = record { pending = pend; last = h.last; does = h.does; asks = λ q. cc q }

    inside : p < past.top
    inside = entry_inside d n w m b c p event.Load there at_entry

    stamp : k ≡ suc p
    stamp = (Rattle.pg_orderly.proofs.Filled.promised_at d past (λ c. (m c).last) n w.replies i (Data a c v cnt k) h.reply b.orderly.promised).1 ∙ h.last

    datum : IsDatum d (entry_at (shown d w m).order) (state_at d n (shown d w m)) (datum_as a c v (suc p))
    datum = subst (λ k. IsDatum d (entry_at (shown d w m).order) (state_at d n (shown d w m)) (datum_as a c v k)) stamp
        (data_at (IsDatum d (entry_at (shown d w m).order) (state_at d n (shown d w m))) w.replies i a c v cnt k faithful.replies h.reply)

    nothing : who (past.dir_entry (m c).seen) c ≡ Other
    nothing =
        let low : j < past.top = (let lt = h.low in omega (arith, lt, viewed)) in
        nothing_till d n past b.known c (suc j) (m c).seen h.low viewed (none_after d past c (core w c) (m c) pl (suc j) (m c).seen (let from = h.from in omega (arith, from)) viewed)
        (ap (λ (z : DirEntry). who z c) (b.known.past.follows j low) ∙ inv_empties d n (past.dir_entry j) (past.at j) c f (b.known.handled j low) h.other h.sends h.inv)

    own : (shown d x m2).core c ≡ record (told_of (m c) (core w c)) { stand = Level st; pending = false; word = y.line.word; stamp = y.line.stamp }
    own = told_same d w m c y (record { seen = (m c).seen; last = (m c).last }) rs dn cores
        ∙ told_as (record (told_of (m c) (core w c)) { stand = Level st; pending = false; word = y.line.word; stamp = y.line.stamp }) (told_of (record { seen = (m c).seen; last = (m c).last }) y) refl refl (rw h.line refl) (ap stand_of h.line) refl refl

    less : (z : ℕ) → is_clean d x z ≡ true → is_clean d w z ≡ true
    less z clean = by (z == c) refl
      where
        never : is_clean_core d c y rs ≡ true → ⊥
        never q = elim (clean_is d c y rs q) [
          | inl (rests, (r, at_level, clean)) ↦
              let same : st ≡ r = same_level st r (ap level_in (ap stand_of (sym h.line)) ∙ at_level) in
              let un = subst (λ z. is_clean_state d z ≡ false) same (out_dirty d b.shaped st h.gone) in cc (un, clean)
          | inr (inl some) ↦ let none = no_cleans d c y.line.desc rs (taken_none d n w m b c i a v cnt k there h.reply) in cc (some, none)
          | inr (inr leaves) ↦ let none = ap leaves_clean h.empty in cc (none, leaves)
        ]
          where
            same_level : (t r : ℕ) → level_in (Level t) ≡ Some r → t ≡ r
            same_level t r e = cc

        other_clean : core x z ≡ core w z → is_clean d w z ≡ true
        other_clean same = elim (clean_is d z (core w z) rs (ap (λ u. is_clean_core d z u rs) (sym same) ∙ clean)) [
          | inl rests ↦ clean_from d z (core w z) w.replies (inl rests)
          | inr (inl some) ↦ clean_from d z (core w z) w.replies (inr (inl (fewer.cleans_less z (core w z).line.desc some)))
          | inr (inr leaves) ↦ clean_from d z (core w z) w.replies (inr (inr leaves))
        ]

        by : (q : Bool) → (z == c) ≡ q → is_clean d w z ≡ true
        by true is = absurd (never (ap (λ u. is_clean_core d c u rs) (sym (core_same c y rs dn w cores)) ∙ subst (λ z. is_clean d x z ≡ true) (eqb-true z c is) clean))
        by false is = other_clean (core_other c z y rs dn w (ne_eq c z (λ q. let e = eq-eqb z c q in cc (e, is))))
