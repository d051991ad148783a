use Rattle.std.proofs.Common.{refl}
use Rattle.pg_forms.specs.Reading.{name_at, state_at, protocol_line, cache_line, dir_line, forward_line, request_line, reply_line, leaving_shape, core_line, take_line, asking_row, evicting_row, row_line, end_line, line_of}
use Rattle.pg_forms.proofs.laws.worked_refusals.Goals as goal

pub returns-clause-empty_line : goal.returns-clause-empty_line
unfolding name_at state_at protocol_line cache_line dir_line forward_line request_line reply_line leaving_shape core_line take_line asking_row evicting_row row_line end_line line_of
returns-clause-empty_line c = refl

pub returns-clause-capital : goal.returns-clause-capital
unfolding name_at state_at protocol_line cache_line dir_line forward_line request_line reply_line leaving_shape core_line take_line asking_row evicting_row row_line end_line line_of
returns-clause-capital c = refl

pub returns-clause-space_before : goal.returns-clause-space_before
unfolding name_at state_at protocol_line cache_line dir_line forward_line request_line reply_line leaving_shape core_line take_line asking_row evicting_row row_line end_line line_of
returns-clause-space_before c = refl

pub returns-clause-space_behind : goal.returns-clause-space_behind
unfolding name_at state_at protocol_line cache_line dir_line forward_line request_line reply_line leaving_shape core_line take_line asking_row evicting_row row_line end_line line_of
returns-clause-space_behind c = refl

pub returns-clause-two_spaces : goal.returns-clause-two_spaces
unfolding name_at state_at protocol_line cache_line dir_line forward_line request_line reply_line leaving_shape core_line take_line asking_row evicting_row row_line end_line line_of
returns-clause-two_spaces c = refl

pub returns-clause-protocol_of_two : goal.returns-clause-protocol_of_two
unfolding name_at state_at protocol_line cache_line dir_line forward_line request_line reply_line leaving_shape core_line take_line asking_row evicting_row row_line end_line line_of
returns-clause-protocol_of_two c = refl

pub returns-clause-underscore : goal.returns-clause-underscore
unfolding name_at state_at protocol_line cache_line dir_line forward_line request_line reply_line leaving_shape core_line take_line asking_row evicting_row row_line end_line line_of
returns-clause-underscore c = refl

pub returns-clause-not_clean : goal.returns-clause-not_clean
unfolding name_at state_at protocol_line cache_line dir_line forward_line request_line reply_line leaving_shape core_line take_line asking_row evicting_row row_line end_line line_of
returns-clause-not_clean c = refl

pub returns-clause-no_such_kind : goal.returns-clause-no_such_kind
unfolding name_at state_at protocol_line cache_line dir_line forward_line request_line reply_line leaving_shape core_line take_line asking_row evicting_row row_line end_line line_of
returns-clause-no_such_kind c = refl

pub returns-clause-beside_underscore : goal.returns-clause-beside_underscore
unfolding name_at state_at protocol_line cache_line dir_line forward_line request_line reply_line leaving_shape core_line take_line asking_row evicting_row row_line end_line line_of
returns-clause-beside_underscore c = refl

pub returns-clause-class_of_forward : goal.returns-clause-class_of_forward
unfolding name_at state_at protocol_line cache_line dir_line forward_line request_line reply_line leaving_shape core_line take_line asking_row evicting_row row_line end_line line_of
returns-clause-class_of_forward c = refl

pub returns-clause-class_of_request : goal.returns-clause-class_of_request
unfolding name_at state_at protocol_line cache_line dir_line forward_line request_line reply_line leaving_shape core_line take_line asking_row evicting_row row_line end_line line_of
returns-clause-class_of_request c = refl

pub returns-clause-reply_without_data : goal.returns-clause-reply_without_data
unfolding name_at state_at protocol_line cache_line dir_line forward_line request_line reply_line leaving_shape core_line take_line asking_row evicting_row row_line end_line line_of
returns-clause-reply_without_data c = refl

pub returns-clause-ask_without_reply : goal.returns-clause-ask_without_reply
unfolding name_at state_at protocol_line cache_line dir_line forward_line request_line reply_line leaving_shape core_line take_line asking_row evicting_row row_line end_line line_of
returns-clause-ask_without_reply c = refl

pub returns-clause-hit_of_two : goal.returns-clause-hit_of_two
unfolding name_at state_at protocol_line cache_line dir_line forward_line request_line reply_line leaving_shape core_line take_line asking_row evicting_row row_line end_line line_of
returns-clause-hit_of_two c = refl

pub returns-clause-reply_without_state : goal.returns-clause-reply_without_state
unfolding name_at state_at protocol_line cache_line dir_line forward_line request_line reply_line leaving_shape core_line take_line asking_row evicting_row row_line end_line line_of
returns-clause-reply_without_state c = refl

pub returns-clause-evict_hits : goal.returns-clause-evict_hits
unfolding name_at state_at protocol_line cache_line dir_line forward_line request_line reply_line leaving_shape core_line take_line asking_row evicting_row row_line end_line line_of
returns-clause-evict_hits c = refl

pub returns-clause-take_without_state : goal.returns-clause-take_without_state
unfolding name_at state_at protocol_line cache_line dir_line forward_line request_line reply_line leaving_shape core_line take_line asking_row evicting_row row_line end_line line_of
returns-clause-take_without_state c = refl

pub returns-clause-take_of_two_replies : goal.returns-clause-take_of_two_replies
unfolding name_at state_at protocol_line cache_line dir_line forward_line request_line reply_line leaving_shape core_line take_line asking_row evicting_row row_line end_line line_of
returns-clause-take_of_two_replies c = refl

pub returns-clause-other_evicts : goal.returns-clause-other_evicts
unfolding name_at state_at protocol_line cache_line dir_line forward_line request_line reply_line leaving_shape core_line take_line asking_row evicting_row row_line end_line line_of
returns-clause-other_evicts c = refl

pub returns-clause-row_without_action : goal.returns-clause-row_without_action
unfolding name_at state_at protocol_line cache_line dir_line forward_line request_line reply_line leaving_shape core_line take_line asking_row evicting_row row_line end_line line_of
returns-clause-row_without_action c = refl

pub returns-clause-end_with_word : goal.returns-clause-end_with_word
unfolding name_at state_at protocol_line cache_line dir_line forward_line request_line reply_line leaving_shape core_line take_line asking_row evicting_row row_line end_line line_of
returns-clause-end_with_word c = refl
