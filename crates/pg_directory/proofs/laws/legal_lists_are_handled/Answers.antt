use Rattle.pg_directory.proofs.Lists.{entry_after_parts, legal_parts, sound_after_all, handled_in_list}
use Rattle.pg_directory.proofs.laws.legal_lists_are_handled.Goals as goal

pub returns-clause-sound : goal.returns-clause-sound
returns-clause-sound c = sound_after_all

pub returns-clause-handled : goal.returns-clause-handled
returns-clause-handled c = handled_in_list

pub returns-clause-parts : goal.returns-clause-parts
returns-clause-parts c = legal_parts

pub returns-clause-leads : goal.returns-clause-leads
returns-clause-leads c = entry_after_parts
