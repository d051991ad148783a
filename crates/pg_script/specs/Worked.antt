-- What a small script says, written by hand.
use Rattle.std.specs.Prelude.{[], ◌∷◌}
use Rattle.pg_perm.specs.declared.kinds.Op.TheVariants.{Load, Store, Evict}
use Rattle.pg_script.specs.Scripts.{Operations}

-- two cores and two blocks: core 0 does three things on block 0, of which other lines stand between
abbrev pub worked_operations : Operations
worked_operations = record {
  cores = 2;
  blocks = 2;
  ops =
      record { core = 0; block = 0; op = Store 5 }
      ∷ record { core = 1; block = 0; op = Load }
      ∷ record { core = 0; block = 1; op = Evict }
      ∷ record { core = 0; block = 0; op = Load }
      ∷ record { core = 1; block = 1; op = Store 7 }
      ∷ record { core = 0; block = 0; op = Evict }
      ∷ [];
}
