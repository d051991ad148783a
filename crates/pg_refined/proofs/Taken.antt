-- Each core's completed accesses are those of the operations that it has taken.
use Rattle.std.proofs.Common.{◌≡◌, ◌≢◌, ℕ, zero, suc, ◌<◌, arith, Bool, true, false, cond, List, [], ◌∷◌, ◌++◌, length, Some, None, refl, sym, ap, subst, ◌∙◌}
use Rattle.std.specs.Prelude.{◌==◌, get_or, map}
use Rattle.std.specs.List.{filter}
use Rattle.std.proofs.lemmas.Bool.{eqb-true, eq-eqb}
use Rattle.pg_perm.specs.declared.kinds.Op.{Op}
use Rattle.pg_perm.specs.declared.kinds.Op.TheVariants as op
use Rattle.pg_perm.specs.declared.step.Step.{Step}
use Rattle.pg_perm.specs.declared.draft.Draft.{Draft}
use Rattle.pg_messages.specs.declared.messages.Ask.{Ask as SentRequest}
use Rattle.pg_messages.specs.declared.messages.Finished.TheVariants as finish
use Rattle.pg_messages.specs.declared.messages.Finished.{Finished}
use Rattle.pg_controllers.specs.Networks as net
use Rattle.pg_messages.specs.declared.messages.Reply.{Reply}
use Rattle.pg_controllers.specs.Networks.{idle_core}
use Rattle.pg_messages.specs.declared.messages.DoneEntry.{DoneEntry}
use Rattle.pg_controllers.specs.Worlds.{World, core}
use Rattle.pg_controllers.specs.Runs.{opening, opening_core}
use Rattle.pg_orderly.specs.Orderly.{Mark}
use Rattle.pg_orderly.proofs.Keeping.{moved, core_same, core_other}
use Rattle.pg_orderly.proofs.Handled.{IsHandling}
use Rattle.pg_serial.specs.Serial.{Done, done_step, is_of, made_by}
use Rattle.pg_refined.specs.Shown.{accesses}
use Rattle.pg_refined.specs.Operations.{HasTaken, HaveTaken, MadeOf, pending_ops}
use Rattle.pg_refined.proofs.Moves.{accesses-append, ne_eq}

append_assoc : {A : Type 0} (xs ys zs : List A) → (xs ++ ys) ++ zs ≡ xs ++ (ys ++ zs)
append_assoc [] ys zs = refl
append_assoc (x ∷ xs) ys zs = ap (λ t. x ∷ t) (append_assoc xs ys zs)

append_nil : {A : Type 0} (xs : List A) → xs ++ [] ≡ xs
append_nil [] = refl
append_nil (x ∷ xs) = ap (λ t. x ∷ t) (append_nil xs)

pub made-append : (c : ℕ) (os ps : List Op) (xs ys : List Step) → MadeOf c os xs → MadeOf c ps ys → MadeOf c (os ++ ps) (xs ++ ys)
made-append c [] ps xs ys h g = subst (λ t. MadeOf c ps (t ++ ys)) (sym h) g
made-append c (op.Evict ∷ os) ps xs ys h g = made-append c os ps xs ys h g
made-append c (op.Load ∷ os) ps [] ys h g = absurd h
made-append c (op.Load ∷ os) ps (x ∷ xs) ys h g = (h.0, made-append c os ps xs ys h.1 g)
made-append c (op.Store v ∷ os) ps [] ys h g = absurd h
made-append c (op.Store v ∷ os) ps (x ∷ xs) ys h g = (h.0, made-append c os ps xs ys h.1 g)

by-append : (c : ℕ) (xs ys : List Done) → made_by c (xs ++ ys) ≡ made_by c xs ++ made_by c ys
by-append c [] ys = refl
by-append c (x ∷ xs) ys = at (is_of c x) (by-append c xs ys)
  where
    at : (b : Bool) → map done_step (filter (is_of c) (xs ++ ys)) ≡ map done_step (filter (is_of c) xs) ++ map done_step (filter (is_of c) ys)
        → map done_step (cond b (x ∷ filter (is_of c) (xs ++ ys)) (filter (is_of c) (xs ++ ys))) ≡ map done_step (cond b (x ∷ filter (is_of c) xs) (filter (is_of c) xs)) ++ map done_step (filter (is_of c) ys)
    at true e = ap (λ t. done_step x ∷ t) e
    at false e = e

-- what a core takes in a move: some operations, which make the new accesses
pub record IsTaking (w : World) (c : ℕ) (y : net.Core) (es : List DoneEntry) : Type 0 where
  pub more : List Op
  pub all : pending_ops (core w c).line.pending ++ (core w c).left ≡ more ++ (pending_ops y.line.pending ++ y.left)
  pub made : MadeOf c more (made_by c (accesses es))
  pub others : (e : ℕ) → e ≢ c → made_by e (accesses es) ≡ []

-- a move that takes nothing
pub takes_none : (w : World) (c : ℕ) (y : net.Core) → y.line.pending ≡ (core w c).line.pending → y.left ≡ (core w c).left → IsTaking w c y []
takes_none w c y pending left = record { more = []; all = ap (λ o. pending_ops o ++ (core w c).left) (sym pending) ∙ ap (λ t. pending_ops y.line.pending ++ t) (sym left); made = refl; others = λ e other. refl }

-- a line asks
pub takes_asked : (w : World) (c : ℕ) (y : net.Core) (o : Op) (os : List Op) → (core w c).line.pending ≡ None → (core w c).left ≡ o ∷ os → y.line.pending ≡ Some o → y.left ≡ os → IsTaking w c y []
takes_asked w c y o os idle left pending rest = record {
  more = [];
  all = ap (λ t. pending_ops t ++ (core w c).left) idle ∙ left ∙ sym (ap (λ t. pending_ops t ++ y.left) pending ∙ ap (λ t. o ∷ t) rest);
  made = refl;
  others = λ e other. refl;
}

-- what one access makes
pub makes_load : (c k v : ℕ) (late : Bool) → MadeOf c (op.Load ∷ []) (made_by c (accesses (record { stamp = k; core = c; fin = finish.Load v; late = late } ∷ [])))
makes_load c k v late = at (c == c) (eq-eqb c c refl)
  where
    at : (b : Bool) → b ≡ true → MadeOf c (op.Load ∷ []) (map done_step (cond b (record { stamp = k; core = c; made = Rattle.pg_serial.specs.Serial.Loaded v; late = late } ∷ []) []))
    at true e = ((v, refl), refl)
    at false e = cc

pub makes_store : (c k v : ℕ) (late : Bool) → MadeOf c (op.Store v ∷ []) (made_by c (accesses (record { stamp = k; core = c; fin = finish.Store v; late = late } ∷ [])))
makes_store c k v late = at (c == c) (eq-eqb c c refl)
  where
    at : (b : Bool) → b ≡ true → MadeOf c (op.Store v ∷ []) (map done_step (cond b (record { stamp = k; core = c; made = Rattle.pg_serial.specs.Serial.Stored v; late = late } ∷ []) []))
    at true e = (refl, refl)
    at false e = cc

pub makes_no_other : (c e k : ℕ) (fin : Finished) (late : Bool) → e ≢ c → made_by e (accesses (record { stamp = k; core = c; fin = fin; late = late } ∷ [])) ≡ []
makes_no_other c e k (finish.Load v) late other = ap (λ b. map done_step (cond b (record { stamp = k; core = c; made = Rattle.pg_serial.specs.Serial.Loaded v; late = late } ∷ []) [])) (ne_eq c e other)
makes_no_other c e k (finish.Store v) late other = ap (λ b. map done_step (cond b (record { stamp = k; core = c; made = Rattle.pg_serial.specs.Serial.Stored v; late = late } ∷ []) [])) (ne_eq c e other)
makes_no_other c e k finish.Evict late other = refl

-- a hit
pub takes_hit : (w : World) (c : ℕ) (y : net.Core) (o : Op) (os : List Op) (x : DoneEntry) → (core w c).line.pending ≡ None → (core w c).left ≡ o ∷ os → y.line.pending ≡ None → y.left ≡ os → x.core ≡ c
    → MadeOf c (o ∷ []) (made_by c (accesses (x ∷ []))) → ((e : ℕ) → e ≢ c → made_by e (accesses (x ∷ [])) ≡ []) → IsTaking w c y (x ∷ [])
takes_hit w c y o os x idle left rests rest own made others = record {
  more = o ∷ [];
  all = ap (λ t. pending_ops t ++ (core w c).left) idle ∙ left ∙ sym (ap (λ t. o ∷ pending_ops t ++ y.left) rests ∙ ap (λ t. o ∷ t) rest);
  made = made;
  others = others;
}

-- a completion
pub takes_done : (w : World) (c : ℕ) (y : net.Core) (o : Op) (es : List DoneEntry) → (core w c).line.pending ≡ Some o → y.line.pending ≡ None → y.left ≡ (core w c).left
    → MadeOf c (o ∷ []) (made_by c (accesses es)) → ((e : ℕ) → e ≢ c → made_by e (accesses es) ≡ []) → IsTaking w c y es
takes_done w c y o es pending rests left made others = record {
  more = o ∷ [];
  all = ap (λ t. pending_ops t ++ (core w c).left) pending ∙ sym (ap (λ t. o ∷ pending_ops t ++ y.left) rests ∙ ap (λ t. o ∷ t) left);
  made = made;
  others = others;
}

-- Kept

pub taken_moved : (given : List (List Op)) (w : World) (c : ℕ) (y : net.Core) (rs : List Reply) (es : List DoneEntry) → c < length w.cores → IsTaking w c y es → HaveTaken given w → HaveTaken given (moved c y rs (w.done ++ es) w)
taken_moved given w c y rs es inside t h e low = at (c == e) refl
  where
    x : World
    x = moved c y rs (w.done ++ es) w

    done : (e : ℕ) → made_by e (accesses (w.done ++ es)) ≡ made_by e (accesses w.done) ++ made_by e (accesses es)
    done e = ap (made_by e) (accesses-append w.done es) ∙ by-append e (accesses w.done) (accesses es)

    own : HasTaken given w c → HasTaken given x c
    own k = record {
      taken = k.taken ++ t.more;
      all = k.all ∙ ap (λ z. k.taken ++ z) t.all ∙ sym (append_assoc k.taken t.more (pending_ops y.line.pending ++ y.left))
          ∙ ap (λ (z : net.Core). (k.taken ++ t.more) ++ (pending_ops z.line.pending ++ z.left)) (sym (core_same c y rs (w.done ++ es) w inside));
      made = subst (MadeOf c (k.taken ++ t.more)) (sym (done c)) (made-append c k.taken t.more (made_by c (accesses w.done)) (made_by c (accesses es)) k.made t.made);
    }

    at : (b : Bool) → (c == e) ≡ b → HasTaken given x e
    at true is = let same = eqb-true c e is in subst (HasTaken given x) same (own (subst (HasTaken given w) (sym same) (h e low)))
    at false ne =
        let k = h e low in
        let other : e ≢ c = (λ same. let is = eq-eqb c e (sym same) in cc (is, ne)) in
        record {
          taken = k.taken;
          all = k.all ∙ ap (λ (z : net.Core). k.taken ++ (pending_ops z.line.pending ++ z.left)) (sym (core_other c e y rs (w.done ++ es) w ne));
          made = subst (MadeOf e k.taken) (sym (done e ∙ ap (λ z. made_by e (accesses w.done) ++ z) (t.others e other) ∙ append_nil (made_by e (accesses w.done)))) k.made;
        }

pub taken_handled : (given : List (List Op)) (d : Draft) (n : ℕ) (w : World) (m : ℕ → Mark) (c : ℕ) (a : SentRequest) (x : World) → IsHandling d n w m c a x → x.done ≡ w.done → HaveTaken given w → HaveTaken given x
taken_handled given d n w m c a x h done taken e low = at (c == e) refl
  where
    by : (core x e).line.pending ≡ (core w e).line.pending → (core x e).left ≡ (core w e).left → HasTaken given x e
    by pending left =
        let k = taken e low in
        record {
          taken = k.taken;
          all = k.all ∙ ap (λ z. k.taken ++ (pending_ops z ++ (core w e).left)) (sym pending) ∙ ap (λ z. k.taken ++ (pending_ops (core x e).line.pending ++ z)) (sym left);
          made = subst (λ z. MadeOf e k.taken (made_by e (accesses z))) (sym done) k.made;
        }

    at : (b : Bool) → (c == e) ≡ b → HasTaken given x e
    at true is =
        let same = eqb-true c e is in
        by (ap (λ (e : ℕ). (core x e).line.pending) (sym same) ∙ ap (λ (y : net.Core). y.line.pending) h.own ∙ ap (λ (e : ℕ). (core w e).line.pending) same)
        (ap (λ (e : ℕ). (core x e).left) (sym same) ∙ ap (λ (y : net.Core). y.left) h.own ∙ ap (λ (e : ℕ). (core w e).left) same)
    at false ne = by (ap (λ (y : net.Core). y.line.pending) (h.others e ne)) (ap (λ (y : net.Core). y.left) (h.others e ne))

-- The opening

opening_left : (d : Draft) (given : List (List Op)) (c : ℕ) → c < length given → get_or given c [] ≡ pending_ops (get_or (map (opening_core d) given) c idle_core).line.pending ++ (get_or (map (opening_core d) given) c idle_core).left
opening_left d [] c low = absurd (omega (arith, low))
opening_left d (ops ∷ given) zero low = refl
opening_left d (ops ∷ given) (suc c) low = opening_left d given c (omega (arith, low))

pub opening_taken : (d : Draft) (given : List (List Op)) → HaveTaken given (opening d given)
opening_taken d given c low = record { taken = []; all = opening_left d given c low; made = refl }
