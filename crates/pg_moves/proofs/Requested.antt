-- A world stays orderly when the directory handles a request: from its row.
use Rattle.std.proofs.Common.{◌≡◌, ℕ, zero, suc, ◌<◌, ◌≤◌, arith, Bool, true, false, not, List, [], ◌∷◌, ◌++◌, map, length, get_or, set, Option, Some, None, refl, sym, ap, subst, ◌∙◌}
use Rattle.std.specs.Prelude.{is_some}
use Rattle.std.proofs.lemmas.Bool.{eqb-false}
use Rattle.std.proofs.lemmas.List.{get_or-set_same, get_or-set_other, length-set}
use Rattle.pg_perm.proofs.Booleans.{and_true}
use Rattle.pg_perm.specs.declared.draft.Draft.{Draft}
use Rattle.pg_perm.specs.Drafts.{IsWellFormed}
use Rattle.pg_shape.specs.Shaped.{IsShaped}
use Rattle.pg_directory.specs.DirEntries.{DirEntry, Request, without_core, left_of, who, entry_after, initial_entry}
use Rattle.pg_directory.specs.Sound.{IsSound}
use Rattle.pg_directory.specs.Requests.{action_of}
use Rattle.pg_table.specs.declared.directory.DirDesc.{DirDesc}
use Rattle.pg_table.specs.declared.directory.DirDesc.TheVariants.{State, Busy}
use Rattle.pg_table.specs.Directory.{DirChoice, in_state, dir_choice}
use Rattle.pg_order.specs.Messages.{put}
use Rattle.pg_order.specs.Orders.{DirOrder, dir_entry_at, request_at, dir_order, acks_needed, message_to, entry_message}
use Rattle.pg_order.proofs.Known.{IsKnown, known}
use Rattle.pg_order.proofs.Appended.{IsAppended}
use Rattle.pg_messages.specs.declared.messages.Ask.{Ask as SentRequest}
use Rattle.pg_controllers.specs.Networks.{Core, idle_core}
use Rattle.pg_controllers.specs.Directories.{Posted, dir_state_of, is_busy, dir_entry_of, request_input, dir_input, do_dir_acts}
use Rattle.pg_messages.specs.declared.messages.WorldEvent.TheVariants.{Request as Request_of}
use Rattle.pg_messages.specs.declared.messages.OrderEntry.{OrderEntry}
use Rattle.pg_controllers.specs.Worlds.{Picks, World, core, request_in, order_of, handle, handle_by, request, move, is_enabled}
use Rattle.pg_orderly.specs.Orderly.{Mark, IsLined, IsPlaced, IsOrderly}
use Rattle.pg_orderly.proofs.Keeping.{marked}
use Rattle.pg_orderly.proofs.Mail.{mail, AreBelow, with_mail, length-post, post_core, first}
use Rattle.pg_orderly.proofs.Handled.{directory_sends, request_of, IsHandling, handling_kept}
use Rattle.pg_safe.proofs.Requests.{slot_legal, request_handled}
use Rattle.pg_moves.specs.Kept.{IsOrderlyWorld}
use Rattle.pg_moves.proofs.Posts.{IsDoing, choice_does}

-- An entry is appended

request_more : (qs : List Request) (q : Request) (j : ℕ) → j < length qs → request_at (qs ++ q ∷ []) j ≡ request_at qs j
request_more [] q j low = absurd (omega (arith, low))
request_more (x ∷ qs) q zero low = refl
request_more (x ∷ qs) q (suc j) low = request_more qs q j (omega (arith, low))

request_new : (qs : List Request) (q : Request) → request_at (qs ++ q ∷ []) (length qs) ≡ q
request_new [] q = refl
request_new (x ∷ qs) q = request_new qs q

dir_entry_more : (d : Draft) (s : DirEntry) (qs : List Request) (q : Request) (j : ℕ) → j ≤ length qs → dir_entry_at d s (qs ++ q ∷ []) j ≡ dir_entry_at d s qs j
dir_entry_more d s qs q zero low = refl
dir_entry_more d s [] q (suc j) low = absurd (omega (arith, low))
dir_entry_more d s (x ∷ qs) q (suc j) low = dir_entry_more d (entry_after d s x) qs q j (omega (arith, low))

dir_entry_new : (d : Draft) (s : DirEntry) (qs : List Request) (q : Request) → dir_entry_at d s (qs ++ q ∷ []) (suc (length qs)) ≡ entry_after d (dir_entry_at d s qs (length qs)) q
dir_entry_new d s [] q = refl
dir_entry_new d s (x ∷ qs) q = dir_entry_new d (entry_after d s x) qs q

length_more : (qs : List Request) (q : Request) → length (qs ++ q ∷ []) ≡ suc (length qs)
length_more [] q = refl
length_more (x ∷ qs) q = ap suc (length_more qs q)

appended : (d : Draft) (qs : List Request) (q : Request) → IsAppended d (dir_order d qs) q (dir_order d (qs ++ q ∷ []))
appended d qs q = record {
  top = length_more qs q;
  at = request_more qs q;
  new = request_new qs q;
  dir_entry = dir_entry_more d (initial_entry d) qs q;
  after = dir_entry_new d (initial_entry d) qs q;
}

mapped : (os : List OrderEntry) (e : OrderEntry) → map request_in (os ++ e ∷ []) ≡ map request_in os ++ request_in e ∷ []
mapped [] e = refl
mapped (x ∷ os) e = ap (λ qs. request_in x ∷ qs) (mapped os e)

-- The row

abbrev slot_gone : Core → Core
slot_gone x = record { line = x.line; left = x.left; slot = None; queue = x.queue }

pub handling : (d : Draft) (n : ℕ) (w : World) (m : ℕ → Mark) (c : ℕ) (a : SentRequest) (ch : DirChoice) → IsWellFormed d → IsShaped d → c < n → IsOrderly d n w m → (core w c).slot ≡ Some a → is_busy w.directory.desc ≡ false
    → dir_choice d w.directory.desc (dir_input w.directory.desc (dir_entry_of w.directory) (request_of c a)) ≡ Some ch
    → IsHandling d n w m c a (handle d c a w ch (do_dir_acts d (dir_entry_of w.directory) c (suc w.directory.last) a.word ch.acts (first w.directory.memory)))
handling d n w m c a ch wf sh low o slot free chosen = record {
  slot = slot;
  free = free;
  legal = slot_legal d n p sh k0 c (core w c) (m c) pl (core w c).line.desc a (subst (IsLined d p c (core w c).line (m c) (core w c).line.desc) slot pl.line);
  past = more;
  cores = length-post posted.posts xs ∙ length-set w.cores c (slot_gone (core w c));
  own = at_core c ∙ ap (λ z. with_mail z (mail c posted.posts)) (get_or-set_same w.cores c (slot_gone (core w c)) idle_core inside) ∙ ap (λ ms. with_mail (slot_gone (core w c)) ms) (mail_is c);
  others = λ e ne. at_core e ∙ ap (λ z. with_mail z (mail e posted.posts)) (get_or-set_other w.cores c e (slot_gone (core w c)) idle_core (λ is_it. eqb-false c e ne (sym is_it))) ∙ ap (λ ms. with_mail (core w e) ms) (mail_is e);
  replies = ap (λ rs. w.replies ++ rs) (does.posted.replies ∙ ap (λ k. directory_sends (action_of d s q) c w.directory.memory (acks_needed s q) (suc k)) o.last);
  directory = ap (λ n. record { dir = n; owner = (entry_after d s q).owner; sharers = (entry_after d s q).sharers }) does.dir;
  last = refl;
  busy = does.busy;
}
  where
    p : DirOrder
    p = order_of d w

    q : Request
    q = request_of c a

    s : DirEntry
    s = dir_entry_of w.directory

    k0 : IsKnown d n p
    k0 = known d n p wf sh o.past

    pl : IsPlaced d p c (core w c) (m c)
    pl = o.placed c low

    inside : c < length w.cores
    inside = let same = o.cores in omega (arith, same, low)

    sound : IsSound d n s
    sound = subst (IsSound d n) (sym o.directory) (k0.sound p.top (omega arith))

    posted : Posted
    posted = do_dir_acts d s c (suc w.directory.last) a.word ch.acts (first w.directory.memory)

    in_it : (y : DirDesc) → w.directory.desc ≡ y → is_busy y ≡ false → dir_choice d y (dir_input y s q) ≡ Some ch → in_state d s.dir (request_input a.event (who s c) (left_of (without_core c s.sharers))) ≡ Some ch
    in_it (Busy k) desc h g = cc
    in_it (State k) desc h g =
        let dir : s.dir ≡ k = ap dir_state_of desc in
        ap (λ k. in_state d k (request_input a.event (who s c) (left_of (without_core c s.sharers)))) dir ∙ g

    does : IsDoing d n s q (suc w.directory.last) w.directory.memory a.word ch
    does = choice_does d n s c a.event (suc w.directory.last) w.directory.memory a.word ch sh sound low (request_handled d n w m c a wf sh o low slot) (in_it w.directory.desc refl free chosen)

    xs : List Core
    xs = set w.cores c (slot_gone (core w c))

    x : World
    x = handle d c a w ch posted

    r : DirOrder
    r = order_of d x

    more : IsAppended d p q r
    more = subst (λ qs. IsAppended d p q (dir_order d qs)) (sym (mapped w.order (record { core = c; event = a.event; stale = Rattle.pg_order.specs.Orders.is_stale s q }))) (appended d (map request_in w.order) q)

    at_core : (e : ℕ) → core x e ≡ with_mail (get_or xs e idle_core) (mail e posted.posts)
    at_core e = post_core posted.posts xs e (subst (λ n. AreBelow n posted.posts) (sym (length-set w.cores c (slot_gone (core w c)) ∙ o.cores)) does.posted.below)

    mail_is : (e : ℕ) → mail e posted.posts ≡ put (entry_message d r e p.top) []
    mail_is e =
        does.posted.mails e
        ∙ ap (λ k. put (message_to d s q (suc k) e) []) o.last
        ∙ ap (λ t. put (message_to d t q (suc p.top) e) []) (o.directory ∙ sym (more.dir_entry p.top (omega arith)))
        ∙ ap (λ t. put (message_to d (r.dir_entry p.top) t (suc p.top) e) []) (sym more.new)

-- the directory handles a request
pub request_kept : (d : Draft) (n : ℕ) (pick : Picks) (w : World) (m : ℕ → Mark) (c : ℕ) → IsWellFormed d → IsShaped d → c < n → IsOrderly d n w m → is_enabled pick w (Request_of c) ≡ true
    → IsOrderlyWorld d n (move d pick w (Request_of c))
request_kept d n pick w m c wf sh low o on = at (core w c).slot refl
  where
    free : is_busy w.directory.desc ≡ false
    free = by (is_busy w.directory.desc) refl
      where
        by : (b : Bool) → is_busy w.directory.desc ≡ b → is_busy w.directory.desc ≡ false
        by false e = e
        by true e = absurd (let not_so = (and_true (is_some (core w c).slot) (not (is_busy w.directory.desc)) on).1 in let no_way : not (is_busy w.directory.desc) ≡ false = ap not e in cc (not_so, no_way))

    by : (a : SentRequest) → (core w c).slot ≡ Some a → (t : Option DirChoice) → dir_choice d w.directory.desc (dir_input w.directory.desc (dir_entry_of w.directory) (request_of c a)) ≡ t → IsOrderlyWorld d n (handle_by d c a w t)
    by a slot None chosen = (m, o)
    by a slot (Some ch) chosen = (
      marked c (record { seen = (m c).seen; last = suc (order_of d w).top }) m,
      handling_kept d n w m c a (handle d c a w ch (do_dir_acts d (dir_entry_of w.directory) c (suc w.directory.last) a.word ch.acts (first w.directory.memory))) wf sh low o (handling d n w m c a ch wf sh low o slot free chosen),
    )

    at : (t : Option SentRequest) → (core w c).slot ≡ t → IsOrderlyWorld d n (request d c w t)
    at None slot = (m, o)
    at (Some a) slot = by a slot (dir_choice d w.directory.desc (dir_input w.directory.desc (dir_entry_of w.directory) (request_of c a))) refl
