-- What the directory's row for a request does: what it posts to each core, what it replies, and where it leads.
use Rattle.std.proofs.Common.{◌≡◌, ℕ, ◌<◌, Bool, true, false, ◌&&◌, ◌||◌, List, [], ◌∷◌, ◌++◌, map, length, Option, Some, None, refl, sym, ap, subst, ◌∙◌}
use Rattle.std.specs.Prelude.{◌==◌, if◌then◌else◌}
use Rattle.std.specs.Option.{option_map, option_map_or, option_and_then}
use Rattle.std.proofs.lemmas.Bool.{eqb-true}
use Rattle.pg_perm.specs.declared.kinds.DirKind.{DirKind}
use Rattle.pg_perm.specs.declared.kinds.DirKind.TheVariants as kind
use Rattle.pg_perm.specs.declared.kinds.Event.{Event}
use Rattle.pg_perm.specs.declared.kinds.Event.TheVariants.{Load, Store, Evict}
use Rattle.pg_perm.specs.declared.kinds.ReqClass.{ReqClass}
use Rattle.pg_perm.specs.declared.kinds.ReqClass.TheVariants.{Read, Write}
use Rattle.pg_perm.specs.declared.kinds.Who.{Who}
use Rattle.pg_perm.specs.declared.kinds.Who.TheVariants.{Other, Sharer, Owner}
use Rattle.pg_perm.specs.declared.kinds.FwdClass.TheVariants.{Inv, Share}
use Rattle.pg_perm.specs.declared.draft.Draft.{Draft}
use Rattle.pg_perm.specs.declared.draft.RowLine.{RowLine}
use Rattle.pg_perm.specs.declared.draft.Action.{Action}
use Rattle.pg_perm.specs.declared.draft.Action.TheVariants as action
use Rattle.pg_terms.specs.declared.cases.DirCase.{DirCase}
use Rattle.pg_terms.specs.declared.cases.DirCase.TheVariants as case
use Rattle.pg_terms.specs.Terms.{is, has_class, dir_row, same_event, forward_of}
use Rattle.pg_terms.specs.Due.{kind_is, forward_in, is_due_case}
use Rattle.pg_terms.specs.Rows.{action_in, is_by_share}
use Rattle.pg_shape.specs.Shaped.{IsShaped}
use Rattle.pg_directory.specs.DirEntries.{DirEntry, Request, is_among, without_core, left_of, who, case_for, row_of, entry_after_read, entry_after_row, entry_after}
use Rattle.pg_directory.specs.Sends.{forward_by_row, forward_sent}
use Rattle.pg_directory.specs.Sound.{IsSound}
use Rattle.pg_directory.specs.Requests.{IsHandled, action_of}
use Rattle.pg_directory.proofs.Cores.{same_core, among_without_other, other_way}
use Rattle.pg_directory.proofs.DirKinds.{sharer_low}
use Rattle.pg_directory.proofs.Facts.{forward_acts}
use Rattle.pg_table.specs.declared.directory.DirDesc.TheVariants.{State, Busy}
use Rattle.pg_table.specs.declared.directory.DirInput.TheVariants as met
use Rattle.pg_table.specs.declared.directory.DirAct.TheVariants as act
use Rattle.pg_table.specs.Directory.{DirChoice, act_of_action, inv_acts, by_ask, ask_choice, evict_acts, due_row, in_state}
use Rattle.pg_messages.specs.declared.messages.Ordered.{Ordered}
use Rattle.pg_messages.specs.declared.messages.Ordered.TheVariants.{Forward, AckCount, PutAck}
use Rattle.pg_order.specs.Messages.{put}
use Rattle.pg_order.specs.Orders.{passed_forward, own_message, acks_needed, acks_carried, message_to}
use Rattle.pg_order.proofs.OneEntry.{passed_is}
use Rattle.pg_order.proofs.Passed.{action_passes}
use Rattle.pg_controllers.specs.Directories.{dir_state_of, is_busy, Posted, to_owner, do_dir_acts, request_input}
use Rattle.pg_orderly.specs.Orderly.{is_share}
use Rattle.pg_orderly.proofs.Mail.{mail, mail-append, AreBelow, inv_of, answers_post, first, write_posts}
use Rattle.pg_orderly.proofs.MailIs.{write_mail_is}
use Rattle.pg_orderly.proofs.Handled.{directory_sends}
use Rattle.pg_safe.proofs.Replies.{evict_acts_not}
use Rattle.pg_moves.proofs.Issued.{given_then}

-- What is passed on

acts_with : (d : Draft) (s : DirEntry) (q : Request) (r : RowLine) → row_of d s q ≡ Some r → action_of d s q ≡ action_in r.form
acts_with d s q r row = ap (λ (o : Option RowLine). option_and_then (λ r. action_in r.form) o) row

-- where the row passes nothing on, nothing but an invalidation is sent
sends_none : (d : Draft) (s : DirEntry) (q : Request) (r : RowLine) (e : ℕ) → row_of d s q ≡ Some r → forward_in r.form ≡ None → (same_event q.event Store && is_among s.sharers e) ≡ false → forward_sent d s q e ≡ None
sends_none d s q r e row none out = ap (option_and_then (forward_by_row d s q e)) row ∙ at (q.core == e) (is s.owner e)
  where
    at : (a b : Bool) → (if a then None else if (same_event q.event Store && is_among s.sharers e) then forward_of d Inv else if b then forward_in r.form else None) ≡ None
    at true b = refl
    at false true = rw out none
    at false false = rw out refl

passes_row : (d : Draft) (n : ℕ) (s : DirEntry) (q : Request) (r : RowLine) → IsSound d n s → IsHandled d n s q → row_of d s q ≡ Some r → passed_forward d s q ≡ forward_in r.form
passes_row d n s q r so h row = at (forward_in r.form) refl
  where
    none : forward_in r.form ≡ None → (o : Option ℕ) → s.owner ≡ o → passed_forward d s q ≡ None
    none nothing None owner = rw owner refl
    none nothing (Some o) owner =
        passed_is d s q o owner ∙ sends_none d s q r o row nothing (ap (λ b. same_event q.event Store && b) (so.owner o owner).1 ∙ and_false (same_event q.event Store))
      where
        and_false : (b : Bool) → (b && false) ≡ false
        and_false true = refl
        and_false false = refl

    at : (o : Option ℕ) → forward_in r.form ≡ o → passed_forward d s q ≡ forward_in r.form
    at None e = none e s.owner refl ∙ sym e
    at (Some f) e = (action_passes d n s q f so h (acts_with d s q r row ∙ forward_acts f r.form e)).2 ∙ sym e

share_is : (d : Draft) (o : Option ℕ) → is_share d o ≡ option_map_or (has_class Share d) o false
share_is d None = refl
share_is d (Some f) = refl

-- the next state is busy where a share is passed on
busy_is : (d : Draft) (n : ℕ) (s : DirEntry) (q : Request) (r : RowLine) → IsSound d n s → IsHandled d n s q → row_of d s q ≡ Some r
    → is_busy (if is_by_share d r then Busy r.next else State r.next) ≡ is_share d (passed_forward d s q)
busy_is d n s q r so h row = at (is_by_share d r) ∙ sym (ap (is_share d) (passes_row d n s q r so h row) ∙ share_is d (forward_in r.form))
  where
    at : (b : Bool) → is_busy (if b then Busy r.next else State r.next) ≡ b
    at true = refl
    at false = refl

next_is : (n : ℕ) (b : Bool) → dir_state_of (if b then Busy n else State n) ≡ n
next_is n true = refl
next_is n false = refl

-- the directory's state afterwards is the row's next
dir_after : (d : Draft) (s : DirEntry) (q : Request) (r : RowLine) → row_of d s q ≡ Some r → (entry_after d s q).dir ≡ r.next
dir_after d s q r row = ap (λ (o : Option RowLine). (option_map_or (λ r. entry_after_row d r q.event q.core s) o s).dir) row ∙ at q.event
  where
    reads : (t : DirEntry) (c : ℕ) → (entry_after_read d r c t).dir ≡ r.next
    reads t c = by (kind_is kind.Owned d r.next)
      where
        dir : DirEntry → ℕ
        dir t = t.dir

        by : (b : Bool) → dir (if b then record { dir = r.next; owner = Some c; sharers = t.sharers } else record { dir = r.next; owner = t.owner; sharers = Rattle.pg_directory.specs.DirEntries.with_core c t.sharers }) ≡ r.next
        by true = refl
        by false = refl

    at : (e : Event) → (entry_after_row d r e q.core s).dir ≡ r.next
    at Load = reads (if is_by_share d r then Rattle.pg_directory.specs.DirEntries.entry_after_share s else s) q.core
    at Store = refl
    at Evict = refl

-- What is posted

pub record IsPosted (d : Draft) (n : ℕ) (s : DirEntry) (q : Request) (k memory : ℕ) (p : Posted) : Type 0 where
  pub mails : (e : ℕ) → mail e p.posts ≡ put (message_to d s q k e) []
  pub below : AreBelow n p.posts
  pub replies : p.replies ≡ directory_sends (action_of d s q) q.core memory (acks_needed s q) k

to_owner_below : (d : Draft) (n : ℕ) (s : DirEntry) (m : Ordered) → IsSound d n s → AreBelow n (to_owner s.owner m)
to_owner_below d n s m so = at s.owner refl
  where
    at : (o : Option ℕ) → s.owner ≡ o → AreBelow n (to_owner o m)
    at None e = tt
    at (Some o) e = ((so.owner o e).0, tt)

answer_below : (d : Draft) (n : ℕ) (s : DirEntry) (c k i : ℕ) (a : Action) → IsSound d n s → c < n → AreBelow n (answers_post s c k i a)
answer_below d n s c k i (action.Reply m) so low = tt
answer_below d n s c k i (action.Forward f) so low = to_owner_below d n s (Forward f c k i) so
answer_below d n s c k i action.Count so low = (low, tt)

below-append : (n : ℕ) (xs ys : List (ℕ × Ordered)) → AreBelow n xs → AreBelow n ys → AreBelow n (xs ++ ys)
below-append n [] ys h g = g
below-append n (x ∷ xs) ys h g = (h.0, below-append n xs ys h.1 g)

each_below : (n : ℕ) (m : Ordered) (xs : List ℕ) → ((e : ℕ) → is_among xs e ≡ true → e < n) → AreBelow n (map (λ x. (x, m)) xs)
each_below n m [] h = tt
each_below n m (x ∷ xs) h = (h x (rw (same_core x) refl), each_below n m xs (λ e among. h e (right (x == e) (is_among xs e) among)))
  where
    right : (a b : Bool) → b ≡ true → (a || b) ≡ true
    right true b e = refl
    right false b e = e

without_low : (d : Draft) (n : ℕ) (s : DirEntry) (c e : ℕ) → IsSound d n s → is_among (without_core c s.sharers) e ≡ true → e < n
without_low d n s c e so among = at (c == e) refl
  where
    at : (b : Bool) → (c == e) ≡ b → e < n
    at true is = absurd (let none = Rattle.pg_directory.proofs.Cores.among_without_same c s.sharers in let there = subst (λ e. is_among (without_core c s.sharers) e ≡ true) (sym (eqb-true c e is)) among in cc (none, there))
    at false ne = sharer_low d n s so e (sym (among_without_other c e s.sharers ne) ∙ among)

-- a load
load_does : (d : Draft) (s : DirEntry) (c k memory : ℕ) (word : Option ℕ) (a : Action)
    → do_dir_acts d s c k word (act_of_action a ∷ []) (first memory) ≡ record { memory = memory; invs = 0; posts = answers_post s c 0 k a; replies = directory_sends (Some a) c memory 0 k }
load_does d s c k memory word (action.Reply m) = refl
load_does d s c k memory word (action.Forward f) = refl
load_does d s c k memory word action.Count = refl

pub load_mail : (d : Draft) (n : ℕ) (s : DirEntry) (c k : ℕ) (r : RowLine) (a : Action) → IsSound d n s → IsHandled d n s (record { core = c; event = Load }) → row_of d s (record { core = c; event = Load }) ≡ Some r → action_in r.form ≡ Some a
    → (e : ℕ) → mail e (answers_post s c 0 k a) ≡ put (message_to d s (record { core = c; event = Load }) k e) []
load_mail d n s c k r a so h row acts e = at (c == e) refl a acts
  where
    q : Request
    q = record { core = c; event = Load }

    act_is : (a : Action) → action_in r.form ≡ Some a → action_of d s q ≡ Some a
    act_is a acts = acts_with d s q r row ∙ acts

    forwards_none : (a : Action) → action_in r.form ≡ Some a → ((f : ℕ) → a ≡ action.Forward f → ⊥) → forward_in r.form ≡ None
    forwards_none a acts other = by (forward_in r.form) refl
      where
        by : (o : Option ℕ) → forward_in r.form ≡ o → forward_in r.form ≡ None
        by None e = e
        by (Some f) e = absurd (let fwd = forward_acts f r.form e in other f (let both : Some a ≡ Some (action.Forward f) = sym acts ∙ fwd in cc))

    zero_count : (f : ℕ) → acks_carried d 0 f ≡ 0
    zero_count f = by (has_class Inv d f)
      where
        by : (b : Bool) → (if◌then◌else◌ {A = ℕ} b 0 0) ≡ 0
        by true = refl
        by false = refl

    other_none : (c == e) ≡ false → forward_sent d s q e ≡ None → put (if c == e then own_message Load (action_of d s q) 0 k else option_map (λ f. Forward f c (acks_carried d 0 f) k) (forward_sent d s q e)) [] ≡ []
    other_none ne none = rw (ne, none) refl

    at : (b : Bool) → (c == e) ≡ b → (a : Action) → action_in r.form ≡ Some a → mail e (answers_post s c 0 k a) ≡ put (if c == e then own_message Load (action_of d s q) 0 k else option_map (λ f. Forward f c (acks_carried d 0 f) k) (forward_sent d s q e)) []
    at true is (action.Reply m) acts = rw (is, act_is (action.Reply m) acts) refl
    at true is (action.Forward f) acts =
        let (o, owner, ne) = h.passed f (act_is (action.Forward f) acts) in
        let same = eqb-true c e is in
        let out : (o == e) ≡ false = subst (λ e. (o == e) ≡ false) same (other_way c o ne) in
        let left : mail e (to_owner s.owner (Forward f c 0 k)) ≡ [] = ap (λ o. mail e (to_owner o (Forward f c 0 k))) owner ∙ (rw out refl) in
        let right : put (own_message Load (action_of d s q) 0 k) [] ≡ [] = ap (λ a. put (own_message Load a 0 k) []) (act_is (action.Forward f) acts) in
        left ∙ (rw is (sym right))
    at true is action.Count acts = rw (is, act_is action.Count acts) refl
    at false ne (action.Reply m) acts = sym (other_none ne (sends_none d s q r e row (forwards_none (action.Reply m) acts (λ f z. cc)) refl))
    at false ne action.Count acts =
        let left : mail e ((c, AckCount 0 k) ∷ []) ≡ [] = rw ne refl in
        left ∙ sym (other_none ne (sends_none d s q r e row (forwards_none action.Count acts (λ f z. cc)) refl))
    at false ne (action.Forward f) acts =
        let (o, owner, passes) = action_passes d n s q f so h (act_is (action.Forward f) acts) in
        let sends : forward_sent d s q o ≡ Some f = sym (passed_is d s q o owner) ∙ passes in
        by o owner sends (o == e) refl
      where
        by : (o : ℕ) → s.owner ≡ Some o → forward_sent d s q o ≡ Some f → (b : Bool) → (o == e) ≡ b
            → mail e (to_owner s.owner (Forward f c 0 k)) ≡ put (if c == e then own_message Load (action_of d s q) 0 k else option_map (λ f. Forward f c (acks_carried d 0 f) k) (forward_sent d s q e)) []
        by o owner sends true is =
            let there : forward_sent d s q e ≡ Some f = subst (λ e. forward_sent d s q e ≡ Some f) (eqb-true o e is) sends in
            let left : mail e (to_owner s.owner (Forward f c 0 k)) ≡ Forward f c 0 k ∷ [] = ap (λ o. mail e (to_owner o (Forward f c 0 k))) owner ∙ (rw is refl) in
            let right : put (if c == e then own_message Load (action_of d s q) 0 k else option_map (λ f. Forward f c (acks_carried d 0 f) k) (forward_sent d s q e)) [] ≡ Forward f c (acks_carried d 0 f) k ∷ [] = rw (ne, there) refl in
            left ∙ ap (λ i. Forward f c i k ∷ []) (sym (zero_count f)) ∙ sym right
        by o owner sends false out =
            let left : mail e (to_owner s.owner (Forward f c 0 k)) ≡ [] = ap (λ o. mail e (to_owner o (Forward f c 0 k))) owner ∙ (rw out refl) in
            let none : forward_sent d s q e ≡ None = ap (option_and_then (forward_by_row d s q e)) row ∙ (rw (ne, owner, out) refl) in
            left ∙ sym (other_none ne none)

-- an evict
evict_does : (d : Draft) (s : DirEntry) (c k memory : ℕ) (word : Option ℕ) (w : Who)
    → ((do_dir_acts d s c k word (evict_acts w) (first memory)).posts ≡ (c, PutAck k) ∷ []) × ((do_dir_acts d s c k word (evict_acts w) (first memory)).replies ≡ [])
evict_does d s c k memory word Other = (refl, refl)
evict_does d s c k memory word Sharer = (refl, refl)
evict_does d s c k memory word Owner = (refl, refl)

pub evict_mail : (d : Draft) (s : DirEntry) (q : Request) (k : ℕ) → q.event ≡ Evict → (e : ℕ) → mail e ((q.core, PutAck k) ∷ []) ≡ put (message_to d s q k e) []
evict_mail d s q k evict e = at (q.core == e) refl
  where
    none : forward_sent d s q e ≡ None
    none = by (row_of d s q) refl
      where
        by : (o : Option RowLine) → row_of d s q ≡ o → forward_sent d s q e ≡ None
        by None row = ap (option_and_then (forward_by_row d s q e)) row
        by (Some r) row = sends_none d s q r e row (passes (forward_in r.form) refl) (ap (λ v. same_event v Store && is_among s.sharers e) evict)
          where
            passes : (o : Option ℕ) → forward_in r.form ≡ o → forward_in r.form ≡ None
            passes None is = is
            passes (Some f) is = absurd (let some = acts_with d s q r row ∙ forward_acts f r.form is in let nothing = evict_acts_not d s q evict in cc (some, nothing))

    at : (b : Bool) → (q.core == e) ≡ b → mail e ((q.core, PutAck k) ∷ []) ≡ put (message_to d s q k e) []
    at true is = rw (is, evict) refl
    at false ne = rw (ne, none) refl

-- a store
store_does : (d : Draft) (n : ℕ) (s : DirEntry) (c k memory : ℕ) (word : Option ℕ) (r : RowLine) (a : Action) → IsShaped d → IsSound d n s → c < n → IsHandled d n s (record { core = c; event = Store })
    → row_of d s (record { core = c; event = Store }) ≡ Some r → action_in r.form ≡ Some a
    → IsPosted d n s (record { core = c; event = Store }) k memory (do_dir_acts d s c k word (inv_acts d s.dir Write ++ act_of_action a ∷ []) (first memory))
store_does d n s c k memory word r a sh so low h row acts = subst (IsPosted d n s q k memory) (sym (write_posts d s c k memory word a none)) (record {
  mails = λ e. mail-append e (map (λ x. (x, inv_of d c k)) (without_core c s.sharers)) (answers_post s c (length (without_core c s.sharers)) k a) ∙ write_mail_is d n s q k e a sh so h refl act_is;
  below = below-append n (map (λ x. (x, inv_of d c k)) (without_core c s.sharers)) (answers_post s c (length (without_core c s.sharers)) k a)
      (each_below n (inv_of d c k) (without_core c s.sharers) (λ e among. without_low d n s c e so among)) (answer_below d n s c (length (without_core c s.sharers)) k a so low);
  replies = ap (λ o. directory_sends o c memory (length (without_core c s.sharers)) k) (sym act_is);
})
  where
    q : Request
    q = record { core = c; event = Store }

    act_is : action_of d s q ≡ Some a
    act_is = acts_with d s q r row ∙ acts

    none : (kind_is kind.Shared d s.dir || kind_is kind.Mixed d s.dir) ≡ false → without_core c s.sharers ≡ []
    none out = by so.kind.0 so.kind.1
      where
        gone : s.sharers ≡ [] → without_core c s.sharers ≡ []
        gone e = ap (without_core c) e

        right : (a b : Bool) → (a || b) ≡ false → b ≡ true → ⊥
        right true b e f = cc
        right false b e f = cc

        left : (a b : Bool) → (a || b) ≡ false → a ≡ true → ⊥
        left true b e f = cc
        left false b e f = cc

        by : (k : DirKind) → kind_is k d s.dir ≡ true → without_core c s.sharers ≡ []
        by kind.Idle is_it = gone (so.idle is_it).1
        by kind.Owned is_it = gone (so.owned is_it).1
        by kind.Shared is_it = absurd (left (kind_is kind.Shared d s.dir) (kind_is kind.Mixed d s.dir) out is_it)
        by kind.Mixed is_it = absurd (right (kind_is kind.Shared d s.dir) (kind_is kind.Mixed d s.dir) out is_it)

-- What a choice of the directory does

pub record IsDoing (d : Draft) (n : ℕ) (s : DirEntry) (q : Request) (k memory : ℕ) (word : Option ℕ) (ch : DirChoice) : Type 0 where
  pub posted : IsPosted d n s q k memory (do_dir_acts d s q.core k word ch.acts (first memory))
  pub dir : dir_state_of ch.next ≡ (entry_after d s q).dir
  pub busy : is_busy ch.next ≡ is_share d (passed_forward d s q)

due_there : (d : Draft) (n : ℕ) (c : DirCase) (r : RowLine) → due_row d n c ≡ Some r → dir_row d n c ≡ Some r
due_there d n c r h = at (is_due_case d n c) h
  where
    at : (b : Bool) → (if b then dir_row d n c else None) ≡ Some r → dir_row d n c ≡ Some r
    at true h = h
    at false h = cc

ask_there : (d : Draft) (n : ℕ) (class : ReqClass) (r : RowLine) (o : Option Action) (ch : DirChoice) → ask_choice d n class r o ≡ Some ch → (a : Action) × (o ≡ Some a) × (by_ask d n class r a ≡ ch)
ask_there d n class r None ch h = cc
ask_there d n class r (Some a) ch h = (a, refl, cc)

-- an evict passes nothing on
pub evict_passes : (d : Draft) (n : ℕ) (s : DirEntry) (q : Request) → IsSound d n s → IsHandled d n s q → q.event ≡ Evict → passed_forward d s q ≡ None
evict_passes d n s q so h evict = at (row_of d s q) refl
  where
    nothing : row_of d s q ≡ None → (o : Option ℕ) → s.owner ≡ o → passed_forward d s q ≡ None
    nothing row None owner = rw owner refl
    nothing row (Some o) owner = passed_is d s q o owner ∙ ap (option_and_then (forward_by_row d s q o)) row

    at : (o : Option RowLine) → row_of d s q ≡ o → passed_forward d s q ≡ None
    at None row = nothing row s.owner refl
    at (Some r) row = passes_row d n s q r so h row ∙ by (forward_in r.form) refl
      where
        by : (o : Option ℕ) → forward_in r.form ≡ o → forward_in r.form ≡ None
        by None e = e
        by (Some f) e = absurd (let some = acts_with d s q r row ∙ forward_acts f r.form e in let none = evict_acts_not d s q evict in cc (some, none))

pub choice_does : (d : Draft) (n : ℕ) (s : DirEntry) (c : ℕ) (e : Event) (k memory : ℕ) (word : Option ℕ) (ch : DirChoice) → IsShaped d → IsSound d n s → c < n → IsHandled d n s (record { core = c; event = e })
    → in_state d s.dir (request_input e (who s c) (left_of (without_core c s.sharers))) ≡ Some ch → IsDoing d n s (record { core = c; event = e }) k memory word ch
choice_does d n s c Load k memory word ch sh so low h chosen =
    let (r, there, does) = given_then (due_row d s.dir (case.Ask Read (who s c))) (λ r. ask_choice d s.dir Read r (action_in r.form)) ch chosen in
    let row = due_there d s.dir (case.Ask Read (who s c)) r there in
    let (a, acts, same) = ask_there d s.dir Read r (action_in r.form) ch does in
    let q : Request = record { core = c; event = Load } in
    subst (IsDoing d n s q k memory word) same (record {
      posted = subst (IsPosted d n s q k memory) (sym (load_does d s c k memory word a)) (record {
        mails = load_mail d n s c k r a so h row acts;
        below = answer_below d n s c 0 k a so low;
        replies = ap (λ o. directory_sends o c memory 0 k) (sym (acts_with d s q r row ∙ acts));
      });
      dir = next_is r.next (is_by_share d r) ∙ sym (dir_after d s q r row);
      busy = busy_is d n s q r so h row;
    })
choice_does d n s c Store k memory word ch sh so low h chosen =
    let (r, there, does) = given_then (due_row d s.dir (case.Ask Write (who s c))) (λ r. ask_choice d s.dir Write r (action_in r.form)) ch chosen in
    let row = due_there d s.dir (case.Ask Write (who s c)) r there in
    let (a, acts, same) = ask_there d s.dir Write r (action_in r.form) ch does in
    let q : Request = record { core = c; event = Store } in
    subst (IsDoing d n s q k memory word) same (record {
      posted = store_does d n s c k memory word r a sh so low h row acts;
      dir = next_is r.next (is_by_share d r) ∙ sym (dir_after d s q r row);
      busy = busy_is d n s q r so h row;
    })
choice_does d n s c Evict k memory word ch sh so low h chosen = by (who s c) refl chosen
  where
    q : Request
    q = record { core = c; event = Evict }

    posts : (w : Who) → IsPosted d n s q k memory (do_dir_acts d s c k word (evict_acts w) (first memory))
    posts w =
        let (posts, replies) = evict_does d s c k memory word w in
        record {
          mails = λ e. ap (mail e) posts ∙ evict_mail d s q k refl e;
          below = subst (AreBelow n) (sym posts) (low, tt);
          replies = replies ∙ ap (λ o. directory_sends o c memory (acks_needed s q) k) (sym (evict_acts_not d s q refl));
        }

    no_share : is_share d (passed_forward d s q) ≡ false
    no_share = ap (is_share d) (evict_passes d n s q so h refl)

    leaves : (w : Who) → who s c ≡ w → in_state d s.dir (met.Evict w (left_of (without_core c s.sharers))) ≡ Some ch → IsDoing d n s q k memory word ch
    leaves w is_it chosen =
        let (r, there, does) = given_then (due_row d s.dir (case.Evict w (left_of (without_core c s.sharers)))) (λ (r : RowLine). Some (record { acts = evict_acts w; next = State r.next })) ch chosen in
        let row : row_of d s q ≡ Some r = ap (λ w. dir_row d s.dir (case_for Evict w (left_of (without_core c s.sharers)))) is_it ∙ due_there d s.dir (case.Evict w (left_of (without_core c s.sharers))) r there in
        let same : record { acts = evict_acts w; next = State r.next } ≡ ch = cc in
        subst (IsDoing d n s q k memory word) same (record { posted = posts w; dir = sym (dir_after d s q r row); busy = sym no_share })

    by : (w : Who) → who s c ≡ w → in_state d s.dir (request_input Evict w (left_of (without_core c s.sharers))) ≡ Some ch → IsDoing d n s q k memory word ch
    by Other is_it chosen =
        let same : record { acts = act.PutAck ∷ []; next = State s.dir } ≡ ch = cc in
        subst (IsDoing d n s q k memory word) same (record { posted = posts Other; dir = sym (ap (λ (t : DirEntry). t.dir) (h.stale refl is_it)); busy = sym no_share })
    by Sharer is_it chosen = leaves Sharer is_it chosen
    by Owner is_it chosen = leaves Owner is_it chosen
