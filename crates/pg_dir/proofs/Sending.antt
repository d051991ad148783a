-- What the acts do, one by one, is what the world's definition posts, sent.
use Rattle.std.proofs.Common.{◌≡◌, ℕ, zero, suc, set, get_or, ◌+◌, ◌<◌, ◌≤◌, List, [], ◌∷◌, ◌++◌, map, length, Option, Some, None, refl, sym, ap, subst, ◌∙◌, arith}
use Rattle.std.specs.Prelude.{IfSome}
use Rattle.std.proofs.lemmas.List.{length-append, length-map}
use Rattle.pg_perm.specs.declared.draft.Draft.{Draft}
use Rattle.pg_directory.specs.DirEntries.{DirEntry, without_core}
use Rattle.pg_table.specs.declared.directory.DirAct.{DirAct}
use Rattle.pg_table.specs.declared.directory.DirAct.TheVariants as act
use Rattle.pg_messages.specs.declared.messages.Ordered.{Ordered}
use Rattle.pg_messages.specs.declared.messages.Ordered.TheVariants.{Forward, AckCount, PutAck}
use Rattle.pg_messages.specs.declared.messages.Reply.{Reply}
use Rattle.pg_messages.specs.declared.messages.Reply.TheVariants.{Data}
use Rattle.pg_controllers.specs.Directories.{Posted, to_owner, do_dir_act, do_dir_acts}
use Rattle.pg_queue.specs.Nets.{Nets, with_reply, with_ordered, ordered_count, spare}
use Rattle.pg_dir.specs.Effects.{Effects, send_ordered, send_replies, invalidation, send_to_each, send_to_owner, after_act, after_acts, Fits, AllFit, send_posted, effects_of, message_count}

send_ordered_append : (a b : List (ℕ × Ordered)) (w : Nets) → send_ordered (a ++ b) w ≡ send_ordered b (send_ordered a w)
send_ordered_append [] b w = refl
send_ordered_append (p ∷ a) b w = send_ordered_append a b (with_ordered p.0 p.1 w)

send_replies_append : (a b : List Reply) (w : Nets) → send_replies (a ++ b) w ≡ send_replies b (send_replies a w)
send_replies_append [] b w = refl
send_replies_append (r ∷ a) b w = send_replies_append a b (with_reply r w)

replies_before_ordered : (rs : List Reply) (c : ℕ) (m : Ordered) (w : Nets) → send_replies rs (with_ordered c m w) ≡ with_ordered c m (send_replies rs w)
replies_before_ordered [] c m w = refl
replies_before_ordered (r ∷ rs) c m w = replies_before_ordered rs c m (with_reply r w)

replies_before_posts : (rs : List Reply) (ps : List (ℕ × Ordered)) (w : Nets) → send_replies rs (send_ordered ps w) ≡ send_ordered ps (send_replies rs w)
replies_before_posts rs [] w = refl
replies_before_posts rs (p ∷ ps) w = replies_before_posts rs ps (with_ordered p.0 p.1 w) ∙ ap (send_ordered ps) (replies_before_ordered rs p.0 p.1 w)

-- what is posted last is sent last
posts_last : (p : Posted) (ms : List (ℕ × Ordered)) (w : Nets) → send_posted (record p { posts = p.posts ++ ms }) w ≡ send_ordered ms (send_posted p w)
posts_last p ms w = ap (send_replies p.replies) (send_ordered_append p.posts ms w) ∙ replies_before_posts p.replies ms (send_ordered p.posts w)

replies_last : (p : Posted) (rs : List Reply) (w : Nets) → send_posted (record p { replies = p.replies ++ rs }) w ≡ send_replies rs (send_posted p w)
replies_last p rs w = send_replies_append p.replies rs (send_ordered p.posts w)

to_each : (m : Ordered) (cs : List ℕ) (w : Nets) → send_ordered (map (λ x. (x, m)) cs) w ≡ send_to_each m cs w
to_each m [] w = refl
to_each m (c ∷ cs) w = to_each m cs (with_ordered c m w)

to_the_owner : (o : Option ℕ) (m : Ordered) (w : Nets) → send_ordered (to_owner o m) w ≡ send_to_owner o m w
to_the_owner None m w = refl
to_the_owner (Some o) m w = refl

abbrev at_nets : Posted → ℕ → Nets → Effects
at_nets p i w = record { memory = p.memory; invs = i; nets = w }

with_nets : (p : Posted) (i : ℕ) {v w : Nets} → v ≡ w → at_nets p i v ≡ at_nets p i w
with_nets p i e = ap (at_nets p i) e

act_is : (d : Draft) (s : DirEntry) (c k : ℕ) (word : Option ℕ) (y : DirAct) (p : Posted) (w : Nets)
    → after_act d s c k word y (effects_of p w) ≡ effects_of (do_dir_act d s c k word y p) w
act_is d s c k word (act.Reply r) p w = with_nets p p.invs (sym (replies_last p (Data r c p.memory p.invs k ∷ []) w))
act_is d s c k word (act.Forward f) p w =
    with_nets p p.invs (sym (posts_last p (to_owner s.owner (Forward f c p.invs k)) w ∙ to_the_owner s.owner (Forward f c p.invs k) (send_posted p w)))
act_is d s c k word act.Inv p w =
    with_nets p (length (without_core c s.sharers)) (sym (posts_last p (map (λ x. (x, invalidation d c k)) (without_core c s.sharers)) w ∙ to_each (invalidation d c k) (without_core c s.sharers) (send_posted p w)))
act_is d s c k word act.AckCount p w = with_nets p p.invs (sym (posts_last p ((c, AckCount p.invs k) ∷ []) w))
act_is d s c k word act.Write p w = refl
act_is d s c k word act.PutAck p w = with_nets p p.invs (sym (posts_last p ((c, PutAck k) ∷ []) w))
act_is d s c k word act.Stall p w = refl

pub acts_are : (d : Draft) (s : DirEntry) (c k : ℕ) (word : Option ℕ) (ys : List DirAct) (p : Posted) (w : Nets)
    → after_acts d s c k word ys (effects_of p w) ≡ effects_of (do_dir_acts d s c k word ys p) w
acts_are d s c k word [] p w = refl
acts_are d s c k word (y ∷ ys) p w = ap (after_acts d s c k word ys) (act_is d s c k word y p w) ∙ acts_are d s c k word ys (do_dir_act d s c k word y p) w

-- Room

ordered_room : (ls : List (List Ordered)) (c : ℕ) (m : Ordered) → ordered_count (set ls c (get_or ls c [] ++ m ∷ [])) ≤ ordered_count ls + 1
ordered_room [] c m = omega arith
ordered_room (l ∷ ls) zero m = omega (arith, length-append l (m ∷ []))
ordered_room (l ∷ ls) (suc c) m = let ih : ordered_count (set ls c (get_or ls c [] ++ m ∷ [])) ≤ ordered_count ls + 1 = ordered_room ls c m in omega (arith, ih)

pub one_ordered : (c : ℕ) (m : Ordered) (w : Nets) → spare w ≤ spare (with_ordered c m w) + 1
one_ordered c m w = let one = ordered_room w.lists c m in omega (arith, one)

ordered_spare : (ps : List (ℕ × Ordered)) (w : Nets) → spare w ≤ spare (send_ordered ps w) + length ps
ordered_spare [] w = omega arith
ordered_spare (p ∷ ps) w =
    let one = one_ordered p.0 p.1 w in
    let ih = ordered_spare ps (with_ordered p.0 p.1 w) in
    omega (arith, one, ih)

replies_spare : (rs : List Reply) (w : Nets) → spare w ≤ spare (send_replies rs w) + length rs
replies_spare [] w = omega arith
replies_spare (r ∷ rs) w =
    let one = length-append w.replies (r ∷ []) in
    let ih = replies_spare rs (with_reply r w) in
    omega (arith, one, ih)

posted_spare : (p : Posted) (w : Nets) → spare w ≤ spare (send_posted p w) + message_count p
posted_spare p w =
    let first = replies_spare p.replies (send_ordered p.posts w) in
    let second = ordered_spare p.posts w in
    omega (arith, first, second)

owner_room : (o : Option ℕ) (m : Ordered) (a b n : ℕ) → a + length (to_owner o m) ≤ b → b ≤ n + a → IfSome o (λ x. 0 < n)
owner_room None m a b n h g = tt
owner_room (Some o) m a b n h g = omega (arith, h, g)

-- an act sends only what there is room for, where all that is sent has room
act_fits : (d : Draft) (s : DirEntry) (c k : ℕ) (word : Option ℕ) (y : DirAct) (p : Posted) (w : Nets)
    → message_count (do_dir_act d s c k word y p) ≤ spare w → Fits s c y (spare (send_posted p w))
act_fits d s c k word (act.Reply r) p w h = omega (arith, h, posted_spare p w, length-append p.replies (Data r c p.memory p.invs k ∷ []))
act_fits d s c k word (act.Forward f) p w h =
    let long = length-append p.posts (to_owner s.owner (Forward f c p.invs k)) in
    owner_room s.owner (Forward f c p.invs k) (message_count p) (spare w) (spare (send_posted p w)) (omega (arith, long, h)) (posted_spare p w)
act_fits d s c k word act.Inv p w h =
    let long = length-append p.posts (map (λ x. (x, invalidation d c k)) (without_core c s.sharers)) in
    let each = length-map {B = ℕ × Ordered} (without_core c s.sharers) (λ x. (x, invalidation d c k)) in
    omega (arith, h, posted_spare p w, long, each)
act_fits d s c k word act.AckCount p w h = omega (arith, h, posted_spare p w, length-append p.posts ((c, AckCount p.invs k) ∷ []))
act_fits d s c k word act.Write p w h = tt
act_fits d s c k word act.PutAck p w h = omega (arith, h, posted_spare p w, length-append p.posts ((c, PutAck k) ∷ []))
act_fits d s c k word act.Stall p w h = tt

act_grows : (d : Draft) (s : DirEntry) (c k : ℕ) (word : Option ℕ) (y : DirAct) (p : Posted) → message_count p ≤ message_count (do_dir_act d s c k word y p)
act_grows d s c k word (act.Reply r) p = omega (arith, length-append p.replies (Data r c p.memory p.invs k ∷ []))
act_grows d s c k word (act.Forward f) p = omega (arith, length-append p.posts (to_owner s.owner (Forward f c p.invs k)))
act_grows d s c k word act.Inv p = omega (arith, length-append p.posts (map (λ x. (x, invalidation d c k)) (without_core c s.sharers)))
act_grows d s c k word act.AckCount p = omega (arith, length-append p.posts ((c, AckCount p.invs k) ∷ []))
act_grows d s c k word act.Write p = omega arith
act_grows d s c k word act.PutAck p = omega (arith, length-append p.posts ((c, PutAck k) ∷ []))
act_grows d s c k word act.Stall p = omega arith

acts_grow : (d : Draft) (s : DirEntry) (c k : ℕ) (word : Option ℕ) (ys : List DirAct) (p : Posted) → message_count p ≤ message_count (do_dir_acts d s c k word ys p)
acts_grow d s c k word [] p = omega arith
acts_grow d s c k word (y ∷ ys) p =
    let one = act_grows d s c k word y p in
    let more = acts_grow d s c k word ys (do_dir_act d s c k word y p) in
    omega (arith, one, more)

pub all_fit : (d : Draft) (s : DirEntry) (c k : ℕ) (word : Option ℕ) (ys : List DirAct) (p : Posted) (w : Nets)
    → message_count (do_dir_acts d s c k word ys p) ≤ spare w → AllFit d s c k word ys (effects_of p w)
all_fit d s c k word [] p w h = tt
all_fit d s c k word (y ∷ ys) p w h =
    let more = acts_grow d s c k word ys (do_dir_act d s c k word y p) in (
      act_fits d s c k word y p w (omega (arith, more, h)),
      subst (AllFit d s c k word ys) (sym (act_is d s c k word y p w)) (all_fit d s c k word ys (do_dir_act d s c k word y p) w h),
    )
