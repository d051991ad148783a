-- What a moved world shows.
use Rattle.std.proofs.Common.{◌≡◌, ◌≢◌, ℕ, ◌<◌, Bool, true, false, List, [], ◌∷◌, ◌++◌, length, refl, sym, ap, subst, ◌∙◌}
use Rattle.std.specs.Prelude.{◌==◌, if◌then◌else◌}
use Rattle.std.proofs.lemmas.Bool.{eqb-true, eq-eqb}
use Rattle.pg_perm.specs.declared.draft.Draft.{Draft}
use Rattle.pg_controllers.specs.Networks as net
use Rattle.pg_messages.specs.declared.messages.Reply.{Reply}
use Rattle.pg_messages.specs.declared.messages.DoneEntry.{DoneEntry}
use Rattle.pg_controllers.specs.Worlds.{World, core}
use Rattle.pg_orderly.specs.Orderly.{Mark}
use Rattle.pg_orderly.proofs.Keeping.{marked, moved, core_same, core_other}
use Rattle.pg_serial.specs.Serial.{Done}
use Rattle.pg_serial.specs.Faithful as told
use Rattle.pg_serial.specs.Faithful.{Datum, IsFaithful, IsTold, Shown, Stand}
use Rattle.pg_refined.specs.Shown.{HasFlags, access_of, accesses, shown, told_of}

pub ne_eq : (c e : ℕ) → e ≢ c → (c == e) ≡ false
ne_eq c e other = at (c == e) refl
  where
    at : (b : Bool) → (c == e) ≡ b → b ≡ false
    at true same = absurd (other (sym (eqb-true c e same)))
    at false same = refl

pub told_other : (d : Draft) (w : World) (m : ℕ → Mark) (c e : ℕ) (y : net.Core) (x : Mark) (rs : List Reply) (dn : List DoneEntry) → e ≢ c
    → (shown d (moved c y rs dn w) (marked c x m)).core e ≡ (shown d w m).core e
told_other d w m c e y x rs dn other =
    let ne = ne_eq c e other in
    ap (λ z. told_of (if c == e then x else m e) z) (core_other c e y rs dn w ne) ∙ ap (λ (b : Bool). told_of (if b then x else m e) (core w e)) ne

pub told_same : (d : Draft) (w : World) (m : ℕ → Mark) (c : ℕ) (y : net.Core) (x : Mark) (rs : List Reply) (dn : List DoneEntry) → c < length w.cores
    → (shown d (moved c y rs dn w) (marked c x m)).core c ≡ told_of x y
told_same d w m c y x rs dn low =
    ap (λ z. told_of (if c == c then x else m c) z) (core_same c y rs dn w low) ∙ ap (λ (b : Bool). told_of (if b then x else m c) y) (eq-eqb c c refl)

-- the same with the marks as they were
pub told_other_still : (d : Draft) (w : World) (m : ℕ → Mark) (c e : ℕ) (y : net.Core) (rs : List Reply) (dn : List DoneEntry) → e ≢ c → (shown d (moved c y rs dn w) m).core e ≡ (shown d w m).core e
told_other_still d w m c e y rs dn other = ap (told_of (m e)) (core_other c e y rs dn w (ne_eq c e other))

pub told_same_still : (d : Draft) (w : World) (m : ℕ → Mark) (c : ℕ) (y : net.Core) (rs : List Reply) (dn : List DoneEntry) → c < length w.cores → (shown d (moved c y rs dn w) m).core c ≡ told_of (m c) y
told_same_still d w m c y rs dn low = ap (told_of (m c)) (core_same c y rs dn w low)

-- a core whose fields are these
pub told_as : (x y : told.Core) → y.seen ≡ x.seen → y.last ≡ x.last → y.pending ≡ x.pending → y.stand ≡ x.stand → y.word ≡ x.word → y.stamp ≡ x.stamp → y ≡ x
told_as x y seen last pend stand word stamp =
    ap (λ k. record { seen = k; last = y.last; pending = y.pending; stand = y.stand; word = y.word; stamp = y.stamp }) seen
    ∙ ap (λ k. record { seen = x.seen; last = k; pending = y.pending; stand = y.stand; word = y.word; stamp = y.stamp }) last
    ∙ ap (λ k. record { seen = x.seen; last = x.last; pending = k; stand = y.stand; word = y.word; stamp = y.stamp }) pend
    ∙ ap (λ k. record { seen = x.seen; last = x.last; pending = x.pending; stand = k; word = y.word; stamp = y.stamp }) stand
    ∙ ap (λ k. record { seen = x.seen; last = x.last; pending = x.pending; stand = x.stand; word = k; stamp = y.stamp }) word
    ∙ ap (λ k. record { seen = x.seen; last = x.last; pending = x.pending; stand = x.stand; word = x.word; stamp = k }) stamp

-- what is said stays so with the same cores, and where no more are clean
pub told_again : (d : Draft) (n : ℕ) (s : Shown) (cores : ℕ → told.Core) (clean : ℕ → Bool) → IsFaithful d n s → ((e : ℕ) → e < n → cores e ≡ s.core e) → ((e : ℕ) → clean e ≡ true → s.clean e ≡ true)
    → IsFaithful d n (record s { core = cores; clean = clean })
told_again d n s cores clean f same fewer = record {
  run = f.run;
  cores = λ e there.
      let t = f.cores e there in
      let again : IsTold d n (record s { core = cores; clean = clean }) e (s.core e) = record { seen = t.seen; waits = t.waits; rises = t.rises; tells = t.tells } in
      subst (IsTold d n (record s { core = cores; clean = clean }) e) (sym (same e there)) again;
  replies = f.replies;
  written = f.written;
  memory = f.memory;
  clean = λ e owner claims. f.clean e owner (fewer e claims);
}

-- replies, words and accesses may be written otherwise
pub told_with_replies : (d : Draft) (n : ℕ) (s : Shown) (rs : List Datum) → IsFaithful d n s → s.replies ≡ rs → IsFaithful d n (record s { replies = rs })
told_with_replies d n s rs f same = subst (λ xs. IsFaithful d n (record s { replies = xs })) same f

pub told_with_done : (d : Draft) (n : ℕ) (s : Shown) (dn : List Done) → IsFaithful d n s → s.done ≡ dn → IsFaithful d n (record s { done = dn })
told_with_done d n s dn f same = subst (λ xs. IsFaithful d n (record s { done = xs })) same f

append_assoc : {A : Type 0} (xs ys zs : List A) → (xs ++ ys) ++ zs ≡ xs ++ (ys ++ zs)
append_assoc [] ys zs = refl
append_assoc (x ∷ xs) ys zs = ap (λ t. x ∷ t) (append_assoc xs ys zs)

pub accesses-append : (xs ys : List DoneEntry) → accesses (xs ++ ys) ≡ accesses xs ++ accesses ys
accesses-append [] ys = refl
accesses-append (x ∷ xs) ys = ap (λ t. access_of x x.fin ++ t) (accesses-append xs ys) ∙ sym (append_assoc (access_of x x.fin) (accesses xs) (accesses ys))

-- a move leaves the order, and so its flags
pub flags_stay : (d : Draft) (w : World) (c : ℕ) (y : net.Core) (rs : List Reply) (dn : List DoneEntry) → HasFlags d w → HasFlags d (moved c y rs dn w)
flags_stay d w c y rs dn flags = flags
