use Rattle.pg_lines.specs.Lines.{lines_of, words_of}
use Rattle.std.proofs.Common.{◌≡◌, map}
use Rattle.pg_script.specs.Forms.{spelling}
use Rattle.pg_script.specs.Printing.{lines_in, script_text, IsTextOf}
use Rattle.pg_script.specs.Scripts.{IsWithin}
use Rattle.pg_script.specs.Texts.{IsScript}
use Rattle.pg_script.proofs.Faults.{reading_ok_is_script, answered_fault, answered}
use Rattle.pg_script.proofs.Bytes.{text_kept}
use Rattle.pg_script.proofs.Taken.{words_kept, within_bounds}
use Rattle.pg_script.proofs.text.read.Goals as goal

pub returns-clause-fault : goal.returns-clause-fault
returns-clause-fault c = answered_fault c.args.bytes.now c.read_lines.result c.read_lines.ensures

pub returns-clause-script : goal.returns-clause-script
returns-clause-script c = answered (IsScript c.args.bytes.now) c.args.bytes.now c.read_lines.result c.read_lines.ensures (reading_ok_is_script c.args.bytes.now)

pub returns-clause-kept : goal.returns-clause-kept
returns-clause-kept c =
    answered (λ s. map words_of (lines_of c.args.bytes.now) ≡ map spelling (lines_in s)) c.args.bytes.now c.read_lines.result c.read_lines.ensures
    (words_kept c.args.bytes.now)

pub returns-clause-within : goal.returns-clause-within
returns-clause-within c = answered IsWithin c.args.bytes.now c.read_lines.result c.read_lines.ensures (within_bounds c.args.bytes.now)

pub returns-clause-text : goal.returns-clause-text
returns-clause-text c =
    answered (λ s. IsTextOf c.args.bytes.now (script_text s)) c.args.bytes.now c.read_lines.result c.read_lines.ensures (text_kept c.args.bytes.now)
