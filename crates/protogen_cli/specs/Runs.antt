-- What a run on the controllers tells.
use Rattle.std.specs.Prelude.{ℕ, ◌≡◌, List, drop, Option, Ok}
use Rattle.pg_perm.specs.declared.draft.Draft.{Draft}
use Rattle.pg_text.specs.Texts.{reading}
use Rattle.pg_shape.specs.Shaped.{IsShaped}
use Rattle.pg_script.specs.Scripts.{Operations}
use Rattle.pg_script.specs.Texts.{reading as script_reading}
use Rattle.pg_io.specs.Sink.{Holds}
use Rattle.pg_controller_run.specs.Histories.{TellsHistories}
use Rattle.protogen_cli.specs.Ends.{Tells}

-- the input is the text of a protocol that has the shape, with a script after it, and the bytes tell of each block of the script a run of the protocol's atomic machine:
-- each load gives the word of the last store before it, and each core makes the accesses of all its operations in their order
pub record TellsRun (input bytes : List ℕ) : Type 0 where
  pub protocol : Draft
  pub place : ℕ
  pub script : Operations
  pub text : reading input ≡ Ok (protocol, place)
  pub shaped : IsShaped protocol
  pub operations : script_reading (drop place input) ≡ Ok script
  pub histories : TellsHistories protocol script bytes

-- what was written since tells so of what was left to read; nothing is said of what isn't told
abbrev pub HasRun : Option (List ℕ) → Option (List ℕ) → Option (List ℕ) → Type 0
HasRun left old new = (input : List ℕ) × (bytes : List ℕ) × Tells left input × Holds old new bytes × TellsRun input bytes
