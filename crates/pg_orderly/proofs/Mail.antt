-- What the directory's row sends to a core is the message of its entry.
use Rattle.std.proofs.Common.{◌≡◌, ℕ, ◌<◌, arith, Bool, true, false, ◌||◌, List, [], ◌∷◌, ◌++◌, map, length, get_or, set, Option, Some, refl, sym, ap, subst, ◌∙◌, append-nil, append_assoc}
use Rattle.std.specs.Prelude.{◌==◌, unwrap_or, if◌then◌else◌}
use Rattle.std.proofs.lemmas.Bool.{eqb-true, eqb-false}
use Rattle.std.proofs.lemmas.List.{get_or-set_same, get_or-set_other, length-set}
use Rattle.pg_perm.specs.Drafts.{is_rising}
use Rattle.pg_perm.specs.declared.kinds.DirKind.TheVariants as kind
use Rattle.pg_perm.specs.declared.kinds.ReqClass.TheVariants.{Write}
use Rattle.pg_perm.specs.declared.kinds.FwdClass.TheVariants.{Inv}
use Rattle.pg_perm.specs.declared.draft.Draft.{Draft}
use Rattle.pg_perm.specs.declared.draft.Action.{Action}
use Rattle.pg_perm.specs.declared.draft.Action.TheVariants as action
use Rattle.pg_terms.specs.Terms.{forward_of}
use Rattle.pg_terms.specs.Due.{kind_is}
use Rattle.pg_directory.specs.DirEntries.{DirEntry, is_among, without_core}
use Rattle.pg_directory.proofs.Cores.{rising_without_first}
use Rattle.pg_table.specs.declared.directory.DirAct.TheVariants as act
use Rattle.pg_table.specs.Directory.{act_of_action, inv_acts}
use Rattle.pg_messages.specs.declared.messages.Ordered.{Ordered}
use Rattle.pg_messages.specs.declared.messages.Ordered.TheVariants.{Forward, AckCount}
use Rattle.pg_order.proofs.Owed.{above}
use Rattle.pg_messages.specs.declared.messages.Reply.TheVariants.{Data}
use Rattle.pg_controllers.specs.Networks.{Core, idle_core}
use Rattle.pg_controllers.specs.Directories.{Posted, to_owner, do_dir_acts}
use Rattle.pg_controllers.specs.Worlds.{post}
use Rattle.pg_orderly.proofs.Handled.{directory_sends}

-- what is posted to a core
abbrev pub mail : ℕ → List (ℕ × Ordered) → List Ordered
mail c [] = []
mail c (x ∷ xs) = if x.0 == c then x.1 ∷ mail c xs else mail c xs

abbrev pub AreBelow : ℕ → List (ℕ × Ordered) → Type 0
AreBelow n [] = Unit {0}
AreBelow n (x ∷ xs) = (x.0 < n) × AreBelow n xs

abbrev pub with_mail : Core → List Ordered → Core
with_mail x ms = record x { queue = x.queue ++ ms }

pub length-post : (ps : List (ℕ × Ordered)) (xs : List Core) → length (post ps xs) ≡ length xs
length-post [] xs = refl
length-post (p ∷ ps) xs =
    length-post ps (set xs p.0 (record (get_or xs p.0 idle_core) { queue = (get_or xs p.0 idle_core).queue ++ p.1 ∷ [] }))
    ∙ length-set xs p.0 (record (get_or xs p.0 idle_core) { queue = (get_or xs p.0 idle_core).queue ++ p.1 ∷ [] })

-- each core gets its mail
pub post_core : (ps : List (ℕ × Ordered)) (xs : List Core) (c : ℕ) → AreBelow (length xs) ps → get_or (post ps xs) c idle_core ≡ with_mail (get_or xs c idle_core) (mail c ps)
post_core [] xs c low = ap (λ q. record (get_or xs c idle_core) { queue = q }) (sym (append-nil (get_or xs c idle_core).queue))
post_core (p ∷ ps) xs c low = post_core ps ys c (subst (λ n. AreBelow n ps) (sym (length-set xs p.0 y)) low.1) ∙ at (p.0 == c) refl
  where
    y : Core
    y = record (get_or xs p.0 idle_core) { queue = (get_or xs p.0 idle_core).queue ++ p.1 ∷ [] }

    ys : List Core
    ys = set xs p.0 y

    at : (b : Bool) → (p.0 == c) ≡ b → with_mail (get_or ys c idle_core) (mail c ps) ≡ with_mail (get_or xs c idle_core) (if b then p.1 ∷ mail c ps else mail c ps)
    at true e =
        let is = eqb-true p.0 c e in
        subst (λ c. with_mail (get_or ys c idle_core) (mail c ps) ≡ with_mail (get_or xs c idle_core) (p.1 ∷ mail c ps)) is
        (ap (λ x. with_mail x (mail p.0 ps)) (get_or-set_same xs p.0 y idle_core low.0) ∙ ap (λ q. record (get_or xs p.0 idle_core) { queue = q }) (append_assoc (get_or xs p.0 idle_core).queue (p.1 ∷ []) (mail p.0 ps)))
    at false ne = ap (λ x. with_mail x (mail c ps)) (get_or-set_other xs p.0 c y idle_core (λ e. eqb-false p.0 c ne (sym e)))

pub mail-append : (c : ℕ) (xs ys : List (ℕ × Ordered)) → mail c (xs ++ ys) ≡ mail c xs ++ mail c ys
mail-append c [] ys = refl
mail-append c (x ∷ xs) ys = at (x.0 == c) (mail-append c xs ys)
  where
    at : (b : Bool) → mail c (xs ++ ys) ≡ mail c xs ++ mail c ys → (if b then x.1 ∷ mail c (xs ++ ys) else mail c (xs ++ ys)) ≡ (if b then x.1 ∷ mail c xs else mail c xs) ++ mail c ys
    at true e = ap (λ ms. x.1 ∷ ms) e
    at false e = e

-- one message to each of these
pub mail_none : (m : Ordered) (c : ℕ) (xs : List ℕ) → is_among xs c ≡ false → mail c (map (λ x. (x, m)) xs) ≡ []
mail_none m c [] out = refl
mail_none m c (x ∷ xs) out = at (x == c) refl out (λ out. mail_none m c xs out)
  where
    at : (b : Bool) → (x == c) ≡ b → (b || is_among xs c) ≡ false → (is_among xs c ≡ false → mail c (map (λ x. (x, m)) xs) ≡ []) → mail c (map (λ x. (x, m)) (x ∷ xs)) ≡ []
    at true e out below = cc
    at false e out below = rw e (below out)

not_among : (c : ℕ) (xs : List ℕ) → is_rising (c ∷ xs) ≡ true → is_among xs c ≡ false
not_among c xs rising = at (is_among xs c) refl
  where
    at : (b : Bool) → is_among xs c ≡ b → is_among xs c ≡ false
    at true e = absurd (let low = above c c xs rising e in omega (arith, low))
    at false e = e

pub mail_each : (m : Ordered) (c : ℕ) (xs : List ℕ) → is_rising xs ≡ true → is_among xs c ≡ true → mail c (map (λ x. (x, m)) xs) ≡ m ∷ []
mail_each m c [] rising among = cc
mail_each m c (x ∷ xs) rising among = at (x == c) refl among (λ among. mail_each m c xs (rising_without_first x xs rising) among)
  where
    at : (b : Bool) → (x == c) ≡ b → (b || is_among xs c) ≡ true → (is_among xs c ≡ true → mail c (map (λ x. (x, m)) xs) ≡ m ∷ []) → mail c (map (λ x. (x, m)) (x ∷ xs)) ≡ m ∷ []
    at true e among below = let is = eqb-true x c e in rw e (ap (λ ms. m ∷ ms) (mail_none m c xs (not_among c xs (subst (λ x. is_rising (x ∷ xs) ≡ true) is rising))))
    at false e among below = rw e (below among)

-- What a write posts

abbrev pub inv_of : Draft → ℕ → ℕ → Ordered
inv_of d c k = Forward (unwrap_or (forward_of d Inv) 0) c 0 k

abbrev pub answers_post : DirEntry → ℕ → ℕ → ℕ → Action → List (ℕ × Ordered)
answers_post s c n k (action.Reply m) = []
answers_post s c n k (action.Forward f) = to_owner s.owner (Forward f c n k)
answers_post s c n k action.Count = (c, AckCount n k) ∷ []

abbrev pub first : ℕ → Posted
first memory = record { memory = memory; invs = 0; posts = []; replies = [] }

write_with : (d : Draft) (s : DirEntry) (c k memory : ℕ) (word : Option ℕ) (a : Action)
    → do_dir_acts d s c k word (act.Inv ∷ act_of_action a ∷ []) (first memory)
    ≡ record {
      memory = memory;
      invs = length (without_core c s.sharers);
      posts = map (λ x. (x, inv_of d c k)) (without_core c s.sharers) ++ answers_post s c (length (without_core c s.sharers)) k a;
      replies = directory_sends (Some a) c memory (length (without_core c s.sharers)) k;
    }
write_with d s c k memory word (action.Reply m) = ap (λ ps. record { memory = memory; invs = length (without_core c s.sharers); posts = ps; replies = Data m c memory (length (without_core c s.sharers)) k ∷ [] }) (sym (append-nil (map (λ x. (x, inv_of d c k)) (without_core c s.sharers))))
write_with d s c k memory word (action.Forward f) = refl
write_with d s c k memory word action.Count = refl

write_without : (d : Draft) (s : DirEntry) (c k memory : ℕ) (word : Option ℕ) (a : Action) → without_core c s.sharers ≡ []
    → do_dir_acts d s c k word (act_of_action a ∷ []) (first memory)
    ≡ record {
      memory = memory;
      invs = length (without_core c s.sharers);
      posts = map (λ x. (x, inv_of d c k)) (without_core c s.sharers) ++ answers_post s c (length (without_core c s.sharers)) k a;
      replies = directory_sends (Some a) c memory (length (without_core c s.sharers)) k;
    }
write_without d s c k memory word (action.Reply m) none = rw none refl
write_without d s c k memory word (action.Forward f) none = rw none refl
write_without d s c k memory word action.Count none = rw none refl

-- what a write posts, whichever acts its row has
pub write_posts : (d : Draft) (s : DirEntry) (c k memory : ℕ) (word : Option ℕ) (a : Action) → ((kind_is kind.Shared d s.dir || kind_is kind.Mixed d s.dir) ≡ false → without_core c s.sharers ≡ [])
    → do_dir_acts d s c k word (inv_acts d s.dir Write ++ act_of_action a ∷ []) (first memory)
    ≡ record {
      memory = memory;
      invs = length (without_core c s.sharers);
      posts = map (λ x. (x, inv_of d c k)) (without_core c s.sharers) ++ answers_post s c (length (without_core c s.sharers)) k a;
      replies = directory_sends (Some a) c memory (length (without_core c s.sharers)) k;
    }
write_posts d s c k memory word a none = at (kind_is kind.Shared d s.dir || kind_is kind.Mixed d s.dir) none
  where
    at : (b : Bool) → (b ≡ false → without_core c s.sharers ≡ []) → do_dir_acts d s c k word ((if b then act.Inv ∷ [] else []) ++ act_of_action a ∷ []) (first memory)
        ≡ record {
          memory = memory;
          invs = length (without_core c s.sharers);
          posts = map (λ x. (x, inv_of d c k)) (without_core c s.sharers) ++ answers_post s c (length (without_core c s.sharers)) k a;
          replies = directory_sends (Some a) c memory (length (without_core c s.sharers)) k;
        }
    at true none = write_with d s c k memory word a
    at false none = write_without d s c k memory word a (none refl)
