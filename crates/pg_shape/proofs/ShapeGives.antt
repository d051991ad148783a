-- All that the shape gives.
use Rattle.pg_perm.specs.declared.draft.Draft.{Draft}
use Rattle.pg_perm.specs.Drafts.{IsWellFormed}
use Rattle.pg_shape.specs.ShapeFaults.{HasShape}
use Rattle.pg_shape.specs.Shaped.{IsShaped}
use Rattle.pg_shape.proofs.States.{shape_gives_perms, shape_gives_lists, forwards}
use Rattle.pg_shape.proofs.Takes.{shape_gives_takes}
use Rattle.pg_shape.proofs.Rows.{shape_gives_rows}
use Rattle.pg_shape.proofs.Nexts.{shape_gives_reads, shape_gives_writes, shape_gives_evicts}
use Rattle.pg_shape.proofs.Cores.{shape_gives_cores}

pub shape_gives_all : (d : Draft) → IsWellFormed d → HasShape d → IsShaped d
shape_gives_all d w h = record {
  perms = shape_gives_perms d h;
  lists = shape_gives_lists d h;
  forwards = forwards d h;
  takes = shape_gives_takes d h (shape_gives_lists d h) (shape_gives_perms d h).start;
  rows = shape_gives_rows d h;
  reads = shape_gives_reads d h (shape_gives_lists d h) (shape_gives_takes d h (shape_gives_lists d h) (shape_gives_perms d h).start) (shape_gives_cores d w h);
  writes = shape_gives_writes d h (shape_gives_lists d h) (shape_gives_takes d h (shape_gives_lists d h) (shape_gives_perms d h).start) (shape_gives_rows d h) (shape_gives_cores d w h);
  evicts = shape_gives_evicts d h;
  cores = shape_gives_cores d w h;
}
