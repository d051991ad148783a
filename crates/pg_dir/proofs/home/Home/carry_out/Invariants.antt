use Rattle.std.proofs.Common.{◌≡◌, length, drop}
use Rattle.pg_dir.specs.Effects as effect
use Rattle.pg_controllers.specs.Directories as dirs
use Rattle.pg_dir.proofs.home.Home.carry_out.Given as goal

abbrev pub invariant-loop-act : goal.invariant-loop-act
invariant-loop-act l =
    effect.AllFit l.draft (dirs.dir_entry_of l.self.directory) l.given.core l.given.stamp l.given.word (drop l.act-index l.acts) (record { memory = l.memory; invs = l.invs; nets = l.w })
    × (effect.after_acts l.draft (dirs.dir_entry_of l.self.directory) l.given.core l.given.stamp l.given.word (drop l.act-index l.acts) (record { memory = l.memory; invs = l.invs; nets = l.w })
    ≡ effect.after_acts l.draft (dirs.dir_entry_of l.self.directory) l.given.core l.given.stamp l.given.word l.acts (record { memory = l.initial.memory; invs = l.initial.invs; nets = l.initial.w }))
    × (length l.w.slots ≡ length l.initial.w.slots)
