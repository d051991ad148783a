-- Worlds that are new.
use Rattle.std.proofs.Common.{◌≡◌, ℕ, suc, ◌+◌, ◌*◌, ◌<◌, ◌≤◌, List, [], ◌∷◌, ◌++◌, length, get_or, replicate, refl, sym, ap, subst, ◌∙◌, arith}
use Rattle.std.specs.Prelude.{map, None}
use Rattle.std.proofs.lemmas.List.{length-replicate}
use Rattle.pg_perm.specs.declared.kinds.Op.{Op}
use Rattle.pg_perm.specs.Drafts.{IsWellFormed}
use Rattle.pg_shape.specs.Shaped.{IsShaped}
use Rattle.pg_table.specs.Tables.{Parts}
use Rattle.pg_table.specs.Sound.{IsSoundCache, IsSound}
use Rattle.pg_controllers.specs.Networks.{Core}
use Rattle.pg_controllers.specs.Directories.{Directory}
use Rattle.pg_controllers.specs.Worlds.{World}
use Rattle.pg_controllers.specs.Runs.{opening, opening_core}
use Rattle.pg_safe.specs.Work.{total, operation_work}
use Rattle.pg_reached.specs.Reached.{IsReachedWorld}
use Rattle.pg_reached.proofs.Reached.{openings_reached}
use Rattle.pg_queue.specs.Nets.{Nets}
use Rattle.pg_cache.specs.Acts.{LineView}
use Rattle.pg_block.specs.Blocks.{Program, Limits, Block, joined, world_of, given_of, no_line}
use Rattle.pg_block.specs.Fitted.{IsPlacedLine}
use Rattle.pg_block.specs.Openings.{IsNew, new_line, new_lines, limits_for}
use Rattle.pg_block.proofs.Openings.{lines_length, lines_at}
use Rattle.pg_world.specs.Kept.{IsKept, AreWhole, operation_count, longest_journal}

pub given_length : (ps : List Program) → length (given_of ps) ≡ length ps
given_length [] = refl
given_length (p ∷ ps) = ap suc (given_length ps)

pub given_last : (ps : List Program) (p : Program) → given_of (ps ++ p ∷ []) ≡ given_of ps ++ p.given ∷ []
given_last [] p = refl
given_last (q ∷ ps) p = ap (λ (xs : List (List Op)). q.given ∷ xs) (given_last ps p)

pub whole_last : (ps : List Program) (p : Program) → AreWhole ps → p.left ≡ p.given → AreWhole (ps ++ p ∷ [])
whole_last [] p all is = (is, tt)
whole_last (q ∷ ps) p all is = (all.0, whole_last ps p all.1 is)

-- The opening

opens : (t : Parts) (n k : ℕ) (ps : List Program) → AreWhole ps → joined (new_lines t n k (length ps)) ps (replicate (length ps) None) (replicate (length ps) []) ≡ map (opening_core t.protocol) (given_of ps)
opens t n k [] all = refl
opens t n k (p ∷ ps) all =
    ap (λ (os : List Op). record { line = (new_line t n k).line; left = os; slot = None; queue = [] } ∷ joined (new_lines t n (suc k) (length ps)) ps (replicate (length ps) None) (replicate (length ps) [])) all.0
    ∙ ap (λ (xs : List Core). opening_core t.protocol p.given ∷ xs) (opens t n (suc k) ps all.1)

pub new_opens : (b : Block) → IsNew b → AreWhole b.programs → world_of b ≡ opening b.tables.protocol (given_of b.programs)
new_opens b new all =
    let n : ℕ = length b.programs in
    ap (λ (ls : List LineView). record (world_of b) { cores = joined ls b.programs b.nets.slots b.nets.lists }) new.lines
    ∙ ap (λ (w : Nets). record (world_of b) { cores = joined (new_lines b.tables n 0 n) b.programs w.slots w.lists; replies = w.replies }) new.nets
    ∙ ap (λ (cores : List Core). record (world_of b) { cores = cores; replies = [] }) (opens b.tables n 0 b.programs all)
    ∙ ap (λ (h : Directory). record (opening b.tables.protocol (given_of b.programs)) { directory = h; order = b.order; done = b.done; journal = b.journal }) new.directory
    ∙ ap (λ o. record (opening b.tables.protocol (given_of b.programs)) { order = o; done = b.done; journal = b.journal }) new.order
    ∙ ap (λ o. record (opening b.tables.protocol (given_of b.programs)) { done = o; journal = b.journal }) new.done
    ∙ ap (λ o. record (opening b.tables.protocol (given_of b.programs)) { journal = o }) new.journal

-- Limits

core_work : (n : ℕ) (os : List Op) → total (operation_work n) os ≡ length os * (2 * n + 2)
core_work n [] = omega arith
core_work n (o ∷ os) =
    let rest = core_work n os in omega (arith, rest)

all_work : (n : ℕ) (given : List (List Op)) → total (total (operation_work n)) given ≡ total (λ (os : List Op). length os) given * (2 * n + 2)
all_work n [] = omega arith
all_work n (os ∷ given) =
    let one = core_work n os in
    let rest = all_work n given in
    omega (arith, one, rest)

pub journal_most : (given : List (List Op)) → longest_journal given ≡ operation_count given * (2 * length given + 2)
journal_most given = all_work (length given) given

-- A new block is kept

pub new_kept : (b : Block) → IsWellFormed b.tables.protocol → IsShaped b.tables.protocol → IsSoundCache b.tables.protocol b.tables.cache → IsNew b → AreWhole b.programs → length b.programs ≤ 64
    → operation_count (given_of b.programs) ≤ 16384 → b.limits ≡ limits_for (operation_count (given_of b.programs)) (length b.programs) → IsKept b
new_kept b wf sh sound new all few short limits = record {
  fitted = record {
    sized = record { programs = sym many; slots = ap (λ (w : Nets). length w.slots) new.nets ∙ length-replicate _ _ ∙ sym many; lists = ap (λ (w : Nets). length w.lists) new.nets ∙ length-replicate _ _ ∙ sym many };
    few = rw many few;
    lines = λ c low. placed c (rw (sym many) low);
    cores = new.cores ∙ sym many;
    numbered = new.numbered;
  };
  limits = record {
    order = rw limits (omega arith);
    done = rw limits (omega arith);
    journal = rw limits (let most = journal_most (given_of b.programs) in let same = ap (λ k. operation_count (given_of b.programs) * (2 * k + 2)) (given_length b.programs) in omega (arith, most, same));
    stamps = omega (arith, short);
  };
  reached = subst (λ (w : World). IsReachedWorld b.tables.protocol b.tables.cache (given_of b.programs) w) (sym (new_opens b new all)) (openings_reached b.tables.protocol b.tables.cache (given_of b.programs) wf sh sound);
}
  where
    many : length b.lines ≡ length b.programs
    many = ap length new.lines ∙ lines_length b.tables (length b.programs) 0 (length b.programs)

    placed : (c : ℕ) → c < length b.programs → IsPlacedLine b.tables (length b.lines) c (get_or b.lines c no_line)
    placed c low =
        let here : get_or b.lines c no_line ≡ new_line b.tables (length b.programs) c = ap (λ (ls : List LineView). get_or ls c no_line) new.lines ∙ lines_at b.tables (length b.programs) 0 (length b.programs) c low ∙ ap (new_line b.tables (length b.programs)) (omega arith) in
        rw many (subst (λ (x : LineView). IsPlacedLine b.tables (length b.programs) c x) (sym here) (record { core = refl; room = refl; state = refl }))

-- one program more is counted
pub counted : (p : Program) (ps : List Program) → operation_count (given_of (p ∷ ps)) ≡ length p.given + operation_count (given_of ps)
counted p ps = refl

-- a block that was made with tables and programs

pub made_kept : (b : Block) (t : Parts) (ps : List Program) (todo : List (List Op)) (ops : ℕ) → IsWellFormed t.protocol → IsShaped t.protocol → IsSound t.protocol t.cache t.home → b.tables ≡ t → b.programs ≡ ps → IsNew b
    → b.limits ≡ limits_for ops (length ps) → given_of ps ≡ todo → AreWhole ps → ops ≡ operation_count todo → length todo ≤ 64 → operation_count todo ≤ 16384 → IsKept b
made_kept b t ps todo ops wf sh sound tables programs new limits given all count few short =
    new_kept b (subst (λ (z : Parts). IsWellFormed z.protocol) (sym tables) wf) (subst (λ (z : Parts). IsShaped z.protocol) (sym tables) sh) (subst (λ (z : Parts). IsSoundCache z.protocol z.cache) (sym tables) sound.cache) new
    (subst AreWhole (sym programs) all) (rw many few) (rw same short)
    (limits ∙ ap (λ k. limits_for k (length ps)) (count ∙ sym same) ∙ ap (λ (qs : List Program). limits_for (operation_count (given_of b.programs)) (length qs)) (sym programs))
  where
    same : operation_count (given_of b.programs) ≡ operation_count todo
    same = ap (λ (qs : List Program). operation_count (given_of qs)) programs ∙ ap operation_count given

    many : length b.programs ≡ length todo
    many = ap length programs ∙ sym (given_length ps) ∙ ap length given

pub made_opens : (b : Block) (t : Parts) (ps : List Program) (todo : List (List Op)) → b.tables ≡ t → b.programs ≡ ps → IsNew b → given_of ps ≡ todo → AreWhole ps → world_of b ≡ opening t.protocol todo
made_opens b t ps todo tables programs new given all =
    new_opens b new (subst AreWhole (sym programs) all)
    ∙ ap (λ (z : Parts). opening z.protocol (given_of b.programs)) tables ∙ ap (λ (qs : List Program). opening t.protocol (given_of qs)) programs ∙ ap (opening t.protocol) given

pub few_programs : (ps : List Program) (todo : List (List Op)) → given_of ps ≡ todo → length todo ≤ 64 → length ps ≤ 64
few_programs ps todo given few = let same = sym (given_length ps) ∙ ap length given in omega (arith, same, few)

pub made_room : (b : Block) (ps : List Program) (todo : List (List Op)) (ops : ℕ) → b.limits ≡ limits_for ops (length ps) → given_of ps ≡ todo → ops ≡ operation_count todo
    → b.limits.journal ≡ operation_count todo * (2 * length todo + 2)
made_room b ps todo ops limits given count =
    let many : length ps ≡ length todo = sym (given_length ps) ∙ ap length given in
    ap (λ (l : Limits). l.journal) limits ∙ ap (λ (k : ℕ). k * (2 * length ps + 2)) count ∙ ap (λ (n : ℕ). operation_count todo * (2 * n + 2)) many
