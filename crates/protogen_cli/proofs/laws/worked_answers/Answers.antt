use Rattle.std.proofs.Common.{refl}
use Rattle.std.specs.Fmt.{digits}
use Rattle.pg_forms.specs.Reading.{name_at, state_at, protocol_line, cache_line, dir_line, forward_line, request_line, reply_line, leaving_shape, core_line, take_line, asking_row, evicting_row, row_line, end_line, line_of}
use Rattle.pg_drafting.specs.Numbering.{message_number, pair_of, core_form, core_of, take_reply, take_of, action_of, row_form, row_of}
use Rattle.protogen_cli.proofs.laws.worked_answers.Goals as goal

pub returns-clause-no_words : goal.returns-clause-no_words
unfolding digits name_at state_at protocol_line cache_line dir_line forward_line request_line reply_line leaving_shape core_line take_line asking_row evicting_row row_line end_line line_of message_number pair_of core_form core_of take_reply take_of action_of row_form row_of
returns-clause-no_words c = refl

pub returns-clause-empty_input : goal.returns-clause-empty_input
unfolding digits name_at state_at protocol_line cache_line dir_line forward_line request_line reply_line leaving_shape core_line take_line asking_row evicting_row row_line end_line line_of message_number pair_of core_form core_of take_reply take_of action_of row_form row_of
returns-clause-empty_input c = refl

pub returns-clause-empty_line : goal.returns-clause-empty_line
unfolding digits name_at state_at protocol_line cache_line dir_line forward_line request_line reply_line leaving_shape core_line take_line asking_row evicting_row row_line end_line line_of message_number pair_of core_form core_of take_reply take_of action_of row_form row_of
returns-clause-empty_line c = refl

pub returns-clause-small_text : goal.returns-clause-small_text
unfolding digits name_at state_at protocol_line cache_line dir_line forward_line request_line reply_line leaving_shape core_line take_line asking_row evicting_row row_line end_line line_of message_number pair_of core_form core_of take_reply take_of action_of row_form row_of
returns-clause-small_text c = refl

pub returns-clause-msi : goal.returns-clause-msi
unfolding digits name_at state_at protocol_line cache_line dir_line forward_line request_line reply_line leaving_shape core_line take_line asking_row evicting_row row_line end_line line_of message_number pair_of core_form core_of take_reply take_of action_of row_form row_of
returns-clause-msi c = refl

pub returns-clause-without_take : goal.returns-clause-without_take
unfolding digits name_at state_at protocol_line cache_line dir_line forward_line request_line reply_line leaving_shape core_line take_line asking_row evicting_row row_line end_line line_of message_number pair_of core_form core_of take_reply take_of action_of row_form row_of
returns-clause-without_take c = refl
