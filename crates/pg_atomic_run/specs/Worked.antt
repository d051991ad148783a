-- A script that was worked out by hand.
use Rattle.std.specs.Prelude.{[], ◌∷◌}
use Rattle.pg_perm.specs.declared.kinds.Op.TheVariants.{Load, Store, Evict}
use Rattle.pg_script.specs.Scripts.{Operations}

-- two cores on three blocks: core 0 stores on the first, and core 1 loads it twice; core 1 loads the second, core 0 evicts it, which has nothing of it,
-- and core 1 evicts it; nobody does anything on the third
abbrev pub worked_script : Operations
worked_script = record {
  cores = 2;
  blocks = 3;
  ops =
      record { core = 0; block = 0; op = Store 5 } ∷
      record { core = 1; block = 1; op = Load } ∷
      record { core = 1; block = 0; op = Load } ∷
      record { core = 0; block = 1; op = Evict } ∷
      record { core = 1; block = 0; op = Load } ∷
      record { core = 1; block = 1; op = Evict } ∷ [];
}

-- three cores on one block: each loads it, and then each again
abbrev pub loads_of_three : Operations
loads_of_three = record {
  cores = 3;
  blocks = 1;
  ops =
      record { core = 0; block = 0; op = Load } ∷
      record { core = 1; block = 0; op = Load } ∷
      record { core = 2; block = 0; op = Load } ∷
      record { core = 0; block = 0; op = Load } ∷
      record { core = 1; block = 0; op = Load } ∷
      record { core = 2; block = 0; op = Load } ∷ [];
}
