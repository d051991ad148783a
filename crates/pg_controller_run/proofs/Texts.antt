-- The text of all histories.
use Rattle.std.proofs.Common.{◌≡◌, ℕ, zero, suc, ◌+◌, ◌-◌, ◌<◌, arith, List, [], ◌++◌, length, get_or, refl, sym, ap, ◌∙◌}
use Rattle.std.specs.Prelude.{map, slice_get, Some, codes}
use Rattle.std.proofs.lemmas.Option.{get_or_from_slice_get}
use Rattle.pg_perm.specs.declared.kinds.Mode.{Mode}
use Rattle.pg_perm.specs.declared.kinds.Op.{Op}
use Rattle.pg_perm.specs.declared.step.Step.{Step}
use Rattle.pg_perm.specs.declared.draft.Draft.{Draft}
use Rattle.pg_perm.specs.Drafts.{IsWellFormed}
use Rattle.pg_shape.specs.Shaped.{IsShaped}
use Rattle.pg_script.specs.Scripts.{Operations}
use Rattle.pg_history.specs.HistoryText.{block_text, block_texts, histories_text}
use Rattle.pg_table.specs.Tables.{Parts, generated_tables}
use Rattle.pg_table.specs.Pick.{pick as picked}
use Rattle.pg_controllers.specs.Worlds.{World}
use Rattle.pg_controllers.specs.Runs.{opening}
use Rattle.pg_runs.specs.Headline.{serial_order}
use Rattle.pg_run.specs.Schedules.{block, scheduled}
use Rattle.pg_run.specs.Systems.{SystemView, todo_of}
use Rattle.pg_run.proofs.Openings.{todo_length}
use Rattle.pg_controller_run.specs.Histories.{TellsHistories, final_worlds, block_steps, histories, serial_steps}
use Rattle.pg_controller_run.proofs.Final.{todo_at, history_of_block, final_length}

-- One block

pub steps_are : (s : SystemView) (b : ℕ) (g : List (List Op)) (w : World) (xs : List Step) → slice_get s.given b ≡ Some g → slice_get s.worlds b ≡ Some w → xs ≡ serial_order (length g) w → xs ≡ serial_steps s b
steps_are s b g w xs given world exact =
    exact
    ∙ ap (λ (v : World). serial_order (length g) v) (sym (get_or_from_slice_get s.worlds b w (opening s.tables.protocol []) world))
    ∙ ap (λ (h : List (List Op)). serial_order (length h) (block s.tables.protocol s.worlds b)) (sym (get_or_from_slice_get s.given b g [] given))

-- All blocks

pub one_more : (steps : ℕ → List Step) (b n : ℕ) → b < n → block_texts steps b (n - b) ≡ block_text b (steps b) ++ block_texts steps (b + 1) (n - (b + 1))
one_more steps b n low = ap (block_texts steps b) (more low)
  where
    more : b < n → n - b ≡ suc (n - (b + 1))
    more low = omega (arith, low)

same_texts : (f g : ℕ → List Step) (b n : ℕ) → ((i : ℕ) → i < b + n → f i ≡ g i) → block_texts f b n ≡ block_texts g b n
same_texts f g b zero same = refl
same_texts f g b (suc n) same =
    ap (λ (xs : List Step). block_text b xs ++ block_texts f (b + 1) n) (same b (omega arith))
    ∙ ap (λ (t : List ℕ). block_text b (g b) ++ t) (same_texts f g (b + 1) n (λ i low. same i (omega (arith, low))))

-- a system of the generated tables and a script's blocks, once a seed has drained it, shows the histories of the run
pub record IsDrained (d : Draft) (m : Mode) (seed : ℕ) (s : Operations) (v : SystemView) : Type 0 where
  pub protocol : v.tables.protocol ≡ d
  pub given : v.given ≡ todo_of s
  pub worlds : v.worlds ≡ final_worlds d m seed s

pub drained : (d : Draft) (m : Mode) (seed : ℕ) (s : Operations) (t : Parts) (o v : SystemView) → t ≡ generated_tables d m → o.tables ≡ t → o.given ≡ todo_of s
    → o.worlds ≡ map (opening t.protocol) (todo_of s) → v ≡ record o { worlds = scheduled o.tables.protocol (picked o.tables.cache) seed o.worlds } → IsDrained d m seed s v
drained d m seed s t o v made follows given opened is = record {
  protocol = ap (λ (x : SystemView). x.tables.protocol) is ∙ ap (λ (p : Parts). p.protocol) tables;
  given = ap (λ (x : SystemView). x.given) is ∙ given;
  worlds =
      ap (λ (x : SystemView). x.worlds) is ∙ ap (λ (ws : List World). scheduled o.tables.protocol (picked o.tables.cache) seed ws) opened
      ∙ ap (λ (p : Parts). scheduled p.protocol (picked p.cache) seed (map (opening t.protocol) (todo_of s))) tables
      ∙ ap (λ (p : Parts). scheduled d (picked (generated_tables d m).cache) seed (map (opening p.protocol) (todo_of s))) made;
}
  where
    tables : o.tables ≡ generated_tables d m
    tables = follows ∙ made

pub drained_histories : (d : Draft) (m : Mode) (seed : ℕ) (s : Operations) (v : SystemView) → IsWellFormed d → IsShaped d → IsDrained d m seed s v
    → histories_text (serial_steps v) (length v.worlds) ≡ histories d m seed s
drained_histories d m seed s v well shape is =
    ap (histories_text (serial_steps v)) (ap (λ (ws : List World). length ws) is.worlds ∙ final_length d m seed s well shape)
    ∙ ap (λ (t : List ℕ). t ++ codes "end\n") (same_texts (serial_steps v) (block_steps d m seed s) 0 s.blocks each)
  where
    cores : (b : ℕ) → b < s.blocks → length (get_or v.given b []) ≡ s.cores
    cores b low = ap (λ (g : List (List (List Op))). length (get_or g b [])) is.given ∙ ap (λ (g : List (List Op)). length g) (todo_at s b low) ∙ todo_length s b

    each : (b : ℕ) → b < 0 + s.blocks → serial_steps v b ≡ block_steps d m seed s b
    each b low =
        ap (λ (n : ℕ). serial_order n (block v.tables.protocol v.worlds b)) (cores b (omega (arith, low)))
        ∙ ap (λ (e : Draft). serial_order s.cores (block e v.worlds b)) is.protocol
        ∙ ap (λ (ws : List World). serial_order s.cores (block d ws b)) is.worlds

pub tells_histories : (d : Draft) (m : Mode) (seed : ℕ) (s : Operations) (text : List ℕ) → IsWellFormed d → IsShaped d → text ≡ histories d m seed s → TellsHistories d s text
tells_histories d m seed s text well shape exact = record {
  steps = block_steps d m seed s;
  told = exact;
  atomic = λ b low. history_of_block d m seed b s well shape low;
}
