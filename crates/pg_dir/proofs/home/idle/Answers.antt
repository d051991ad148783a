use Rattle.pg_dir.proofs.Starts.{has_idle}
use Rattle.pg_dir.proofs.home.idle.Goals as goal

pub unwrap-requires : goal.unwrap-requires
unwrap-requires c = has_idle c.args.draft.now c.idle_state.result c.requires.shaped c.idle_state.ensures
