-- A word in a slot is its line's, and the directory's memory after a request is as the row says.
use Rattle.std.proofs.Common.{◌≡◌, ℕ, suc, ◌<◌, Bool, true, false, ◌||◌, List, [], ◌∷◌, ◌++◌, length, Option, Some, None, refl, sym, ap, ◌∙◌}
use Rattle.std.specs.Prelude.{◌==◌, if◌then◌else◌}
use Rattle.std.proofs.lemmas.Bool.{eqb-true}
use Rattle.pg_perm.specs.declared.kinds.DirKind.TheVariants as kind
use Rattle.pg_perm.specs.declared.kinds.Event.{Event}
use Rattle.pg_perm.specs.declared.kinds.Event.TheVariants as event
use Rattle.pg_perm.specs.declared.kinds.ReqClass.TheVariants.{Write}
use Rattle.pg_perm.specs.declared.kinds.Who.{Who}
use Rattle.pg_perm.specs.declared.kinds.Who.TheVariants as role
use Rattle.pg_perm.specs.declared.draft.Draft.{Draft}
use Rattle.pg_perm.specs.declared.draft.Action.{Action}
use Rattle.pg_perm.specs.declared.draft.Action.TheVariants as action
use Rattle.pg_terms.specs.Due.{kind_is}
use Rattle.pg_directory.specs.DirEntries.{DirEntry, who}
use Rattle.pg_table.specs.declared.directory.DirAct.TheVariants as act
use Rattle.pg_table.specs.Directory.{DirChoice, act_of_action, evict_acts, inv_acts}
use Rattle.pg_messages.specs.declared.messages.Ask.{Ask as SentRequest}
use Rattle.pg_controllers.specs.Networks as net
use Rattle.pg_messages.specs.declared.messages.Reply.{Reply}
use Rattle.pg_controllers.specs.Directories.{Posted, do_dir_acts, dir_entry_of}
use Rattle.pg_messages.specs.declared.messages.DoneEntry.{DoneEntry}
use Rattle.pg_controllers.specs.Worlds.{World, handle_by, core}
use Rattle.pg_orderly.specs.Orderly.{Mark}
use Rattle.pg_orderly.proofs.Keeping.{moved, core_same, core_other}
use Rattle.pg_orderly.proofs.Handled.{IsHandling}
use Rattle.pg_safe.proofs.Requests.{DoesFor}
use Rattle.pg_refined.specs.Ordering.{HasSlots, IsOrdering, memory_after}

-- Slots

pub slots_moved : (n : ℕ) (w : World) (c : ℕ) (y : net.Core) (rs : List Reply) (dn : List DoneEntry) → c < length w.cores → HasSlots n w
    → ((v : ℕ) (a : SentRequest) → y.slot ≡ Some a → a.word ≡ Some v → v ≡ y.line.word) → HasSlots n (moved c y rs dn w)
slots_moved n w c y rs dn inside h own e v a low slot word = at (c == e) refl
  where
    at : (b : Bool) → (c == e) ≡ b → v ≡ (core (moved c y rs dn w) e).line.word
    at true is =
        let same = eqb-true c e is in
        let here : core (moved c y rs dn w) e ≡ y = ap (core (moved c y rs dn w)) (sym same) ∙ core_same c y rs dn w inside in
        own v a (ap (λ (x : net.Core). x.slot) (sym here) ∙ slot) word ∙ ap (λ (x : net.Core). x.line.word) (sym here)
    at false ne =
        let here = core_other c e y rs dn w ne in
        h e v a low (ap (λ (x : net.Core). x.slot) (sym here) ∙ slot) word ∙ ap (λ (x : net.Core). x.line.word) (sym here)

pub slots_handled : (d : Draft) (n : ℕ) (w : World) (m : ℕ → Mark) (c : ℕ) (a : SentRequest) (x : World) → IsHandling d n w m c a x → HasSlots n w → HasSlots n x
slots_handled d n w m c a x h s e v b low slot word = at (c == e) refl
  where
    at : (t : Bool) → (c == e) ≡ t → v ≡ (core x e).line.word
    at true is =
        let same = eqb-true c e is in
        let none : (core x e).slot ≡ None = ap (λ (e : ℕ). (core x e).slot) (sym same) ∙ ap (λ (y : net.Core). y.slot) h.own in absurd (cc (none, slot))
    at false ne =
        let here = h.others e ne in
        s e v b low (ap (λ (y : net.Core). y.slot) (sym here) ∙ slot) word ∙ ap (λ (y : net.Core). y.line.word) (sym here)

-- The directory

not_written : (d : Draft) (s : DirEntry) (c k : ℕ) (word : Option ℕ) (a : Action) (p : Posted) → (do_dir_acts d s c k word (act_of_action a ∷ []) p).memory ≡ p.memory
not_written d s c k word (action.Reply r) p = refl
not_written d s c k word (action.Forward f) p = refl
not_written d s c k word action.Count p = refl

store_keeps : (d : Draft) (s : DirEntry) (c k : ℕ) (word : Option ℕ) (a : Action) (p : Posted) → (do_dir_acts d s c k word (inv_acts d s.dir Write ++ act_of_action a ∷ []) p).memory ≡ p.memory
store_keeps d s c k word a p = at (kind_is kind.Shared d s.dir || kind_is kind.Mixed d s.dir)
  where
    at : (b : Bool) → (do_dir_acts d s c k word ((if b then act.Inv ∷ [] else []) ++ act_of_action a ∷ []) p).memory ≡ p.memory
    at false = not_written d s c k word a p
    at true = after a
      where
        after : (a : Action) → (do_dir_acts d s c k word (act.Inv ∷ act_of_action a ∷ []) p).memory ≡ p.memory
        after (action.Reply r) = refl
        after (action.Forward f) = refl
        after action.Count = refl

memory_is : (d : Draft) (s : DirEntry) (c k : ℕ) (word : Option ℕ) (e : Event) (ch : DirChoice) (p : Posted) → DoesFor d s c e ch → (do_dir_acts d s c k word ch.acts p).memory ≡ memory_after e (who s c) word p.memory
memory_is d s c k word event.Load ch p (a, acts, is) = ap (λ xs. (do_dir_acts d s c k word xs p).memory) is ∙ not_written d s c k word a p
memory_is d s c k word event.Store ch p (a, acts, is) = ap (λ xs. (do_dir_acts d s c k word xs p).memory) is ∙ store_keeps d s c k word a p
memory_is d s c k word event.Evict ch p is = ap (λ xs. (do_dir_acts d s c k word xs p).memory) is ∙ at (who s c)
  where
    at : (h : Who) → (do_dir_acts d s c k word (evict_acts h) p).memory ≡ memory_after event.Evict h word p.memory
    at role.Owner = refl
    at role.Sharer = refl
    at role.Other = refl

-- what the directory's choice makes of the world
pub orders : (d : Draft) (w : World) (c : ℕ) (a : SentRequest) (ch : DirChoice) → DoesFor d (dir_entry_of w.directory) c a.event ch → IsOrdering d w c a (handle_by d c a w (Some ch))
orders d w c a ch does = record { order = refl; done = refl; memory = memory_is d (dir_entry_of w.directory) c (suc w.directory.last) a.word a.event ch (record { memory = w.directory.memory; invs = 0; posts = []; replies = [] }) does }
