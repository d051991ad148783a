-- The cores of a block, put together from their parts.
use Rattle.std.proofs.Common.{◌≡◌, ℕ, zero, suc, List, [], ◌∷◌, ◌++◌, length, get_or, set, Option, None, refl, sym, ap, ◌∙◌, arith}
use Rattle.std.proofs.lemmas.List.{set-get_or, length-set}
use Rattle.pg_messages.specs.declared.messages.Ask.{Ask as SentRequest}
use Rattle.pg_messages.specs.declared.messages.Ordered.{Ordered}
use Rattle.pg_controllers.specs.Networks.{Core, idle_core}
use Rattle.pg_controllers.specs.Worlds.{core, post}
use Rattle.pg_cache.specs.Acts.{LineView}
use Rattle.pg_queue.specs.Nets.{Nets, with_ordered}
use Rattle.pg_dir.specs.Effects.{send_ordered}
use Rattle.pg_block.specs.Blocks.{Program, Block, joined, world_of, IsSized, no_line, no_program, line_at, program_at}

abbrev pub core_of : LineView → Program → Option SentRequest → List Ordered → Core
core_of l p s q = record { line = l.line; left = p.left; slot = s; queue = q }

pub joined_set : (ls : List LineView) (ps : List Program) (ss : List (Option SentRequest)) (qs : List (List Ordered)) (c : ℕ) (l : LineView) (p : Program) (s : Option SentRequest) (q : List Ordered)
    → joined (set ls c l) (set ps c p) (set ss c s) (set qs c q) ≡ set (joined ls ps ss qs) c (core_of l p s q)
joined_set [] ps ss qs c l p s q = refl
joined_set (x ∷ ls) [] ss qs zero l p s q = refl
joined_set (x ∷ ls) [] ss qs (suc c) l p s q = refl
joined_set (x ∷ ls) (y ∷ ps) [] qs zero l p s q = refl
joined_set (x ∷ ls) (y ∷ ps) [] qs (suc c) l p s q = refl
joined_set (x ∷ ls) (y ∷ ps) (z ∷ ss) [] zero l p s q = refl
joined_set (x ∷ ls) (y ∷ ps) (z ∷ ss) [] (suc c) l p s q = refl
joined_set (x ∷ ls) (y ∷ ps) (z ∷ ss) (v ∷ qs) zero l p s q = refl
joined_set (x ∷ ls) (y ∷ ps) (z ∷ ss) (v ∷ qs) (suc c) l p s q = ap (λ (xs : List Core). core_of x y z v ∷ xs) (joined_set ls ps ss qs c l p s q)

pub joined_at : (ls : List LineView) (ps : List Program) (ss : List (Option SentRequest)) (qs : List (List Ordered)) (c : ℕ) → length ps ≡ length ls → length ss ≡ length ls → length qs ≡ length ls
    → get_or (joined ls ps ss qs) c idle_core ≡ core_of (get_or ls c no_line) (get_or ps c no_program) (get_or ss c None) (get_or qs c [])
joined_at [] [] [] [] c a b e = refl
joined_at [] (y ∷ ps) ss qs c a b e = absurd (omega (arith, a))
joined_at [] [] (z ∷ ss) qs c a b e = absurd (omega (arith, b))
joined_at [] [] [] (v ∷ qs) c a b e = absurd (omega (arith, e))
joined_at (x ∷ ls) [] ss qs c a b e = absurd (omega (arith, a))
joined_at (x ∷ ls) (y ∷ ps) [] qs c a b e = absurd (omega (arith, b))
joined_at (x ∷ ls) (y ∷ ps) (z ∷ ss) [] c a b e = absurd (omega (arith, e))
joined_at (x ∷ ls) (y ∷ ps) (z ∷ ss) (v ∷ qs) zero a b e = refl
joined_at (x ∷ ls) (y ∷ ps) (z ∷ ss) (v ∷ qs) (suc c) a b e = joined_at ls ps ss qs c (omega (arith, a)) (omega (arith, b)) (omega (arith, e))

pub joined_length : (ls : List LineView) (ps : List Program) (ss : List (Option SentRequest)) (qs : List (List Ordered)) → length ps ≡ length ls → length ss ≡ length ls → length qs ≡ length ls
    → length (joined ls ps ss qs) ≡ length ls
joined_length [] ps ss qs a b e = refl
joined_length (x ∷ ls) [] ss qs a b e = absurd (omega (arith, a))
joined_length (x ∷ ls) (y ∷ ps) [] qs a b e = absurd (omega (arith, b))
joined_length (x ∷ ls) (y ∷ ps) (z ∷ ss) [] a b e = absurd (omega (arith, e))
joined_length (x ∷ ls) (y ∷ ps) (z ∷ ss) (v ∷ qs) a b e = ap suc (joined_length ls ps ss qs (omega (arith, a)) (omega (arith, b)) (omega (arith, e)))

abbrev pub core_at : Block → ℕ → Core
core_at b c = core_of (line_at b c) (program_at b c) (get_or b.nets.slots c None) (get_or b.nets.lists c [])

pub core_is : (b : Block) (c : ℕ) → IsSized b → core (world_of b) c ≡ core_at b c
core_is b c z = joined_at b.lines b.programs b.nets.slots b.nets.lists c z.programs z.slots z.lists

-- a message to a core, and messages in order
abbrev with_last : ℕ → Ordered → List Core → List Core
with_last c m xs = set xs c (record (get_or xs c idle_core) { queue = (get_or xs c idle_core).queue ++ m ∷ [] })

joined_last : (ls : List LineView) (ps : List Program) (ss : List (Option SentRequest)) (qs : List (List Ordered)) (c : ℕ) (m : Ordered) → length ps ≡ length ls → length ss ≡ length ls → length qs ≡ length ls
    → joined ls ps ss (set qs c (get_or qs c [] ++ m ∷ [])) ≡ with_last c m (joined ls ps ss qs)
joined_last ls ps ss qs c m a b e =
    let queue : List Ordered = get_or qs c [] ++ m ∷ [] in
    ap (λ z. joined z ps ss (set qs c queue)) (sym (set-get_or ls c no_line)) ∙ ap (λ z. joined (set ls c (get_or ls c no_line)) z ss (set qs c queue)) (sym (set-get_or ps c no_program))
    ∙ ap (λ z. joined (set ls c (get_or ls c no_line)) (set ps c (get_or ps c no_program)) z (set qs c queue)) (sym (set-get_or ss c None))
    ∙ joined_set ls ps ss qs c (get_or ls c no_line) (get_or ps c no_program) (get_or ss c None) queue
    ∙ sym (ap (λ (v : Core). set (joined ls ps ss qs) c (record v { queue = v.queue ++ m ∷ [] })) (joined_at ls ps ss qs c a b e))

pub joined_posted : (ls : List LineView) (ps : List Program) (ss : List (Option SentRequest)) (ms : List (ℕ × Ordered)) (w : Nets) → length ps ≡ length ls → length ss ≡ length ls → length w.lists ≡ length ls
    → joined ls ps ss (send_ordered ms w).lists ≡ post ms (joined ls ps ss w.lists)
joined_posted ls ps ss [] w a b e = refl
joined_posted ls ps ss (m ∷ ms) w a b e =
    joined_posted ls ps ss ms (with_ordered m.0 m.1 w) a b (length-set w.lists m.0 (get_or w.lists m.0 [] ++ m.1 ∷ []) ∙ e)
    ∙ ap (post ms) (joined_last ls ps ss w.lists m.0 m.1 a b e)
