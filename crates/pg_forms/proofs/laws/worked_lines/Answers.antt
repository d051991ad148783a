use Rattle.std.proofs.Common.{refl}
use Rattle.pg_forms.specs.Reading.{name_at, state_at, protocol_line, cache_line, dir_line, forward_line, request_line, reply_line, leaving_shape, core_line, take_line, asking_row, evicting_row, row_line, end_line, line_of}
use Rattle.pg_forms.proofs.laws.worked_lines.Goals as goal

pub returns-clause-protocol : goal.returns-clause-protocol
unfolding name_at state_at protocol_line cache_line dir_line forward_line request_line reply_line leaving_shape core_line take_line asking_row evicting_row row_line end_line line_of
returns-clause-protocol c = refl

pub returns-clause-cache : goal.returns-clause-cache
unfolding name_at state_at protocol_line cache_line dir_line forward_line request_line reply_line leaving_shape core_line take_line asking_row evicting_row row_line end_line line_of
returns-clause-cache c = refl

pub returns-clause-clean : goal.returns-clause-clean
unfolding name_at state_at protocol_line cache_line dir_line forward_line request_line reply_line leaving_shape core_line take_line asking_row evicting_row row_line end_line line_of
returns-clause-clean c = refl

pub returns-clause-dir : goal.returns-clause-dir
unfolding name_at state_at protocol_line cache_line dir_line forward_line request_line reply_line leaving_shape core_line take_line asking_row evicting_row row_line end_line line_of
returns-clause-dir c = refl

pub returns-clause-dir_beside : goal.returns-clause-dir_beside
unfolding name_at state_at protocol_line cache_line dir_line forward_line request_line reply_line leaving_shape core_line take_line asking_row evicting_row row_line end_line line_of
returns-clause-dir_beside c = refl

pub returns-clause-request : goal.returns-clause-request
unfolding name_at state_at protocol_line cache_line dir_line forward_line request_line reply_line leaving_shape core_line take_line asking_row evicting_row row_line end_line line_of
returns-clause-request c = refl

pub returns-clause-forward : goal.returns-clause-forward
unfolding name_at state_at protocol_line cache_line dir_line forward_line request_line reply_line leaving_shape core_line take_line asking_row evicting_row row_line end_line line_of
returns-clause-forward c = refl

pub returns-clause-reply : goal.returns-clause-reply
unfolding name_at state_at protocol_line cache_line dir_line forward_line request_line reply_line leaving_shape core_line take_line asking_row evicting_row row_line end_line line_of
returns-clause-reply c = refl

pub returns-clause-hit : goal.returns-clause-hit
unfolding name_at state_at protocol_line cache_line dir_line forward_line request_line reply_line leaving_shape core_line take_line asking_row evicting_row row_line end_line line_of
returns-clause-hit c = refl

pub returns-clause-hit_to : goal.returns-clause-hit_to
unfolding name_at state_at protocol_line cache_line dir_line forward_line request_line reply_line leaving_shape core_line take_line asking_row evicting_row row_line end_line line_of
returns-clause-hit_to c = refl

pub returns-clause-ask : goal.returns-clause-ask
unfolding name_at state_at protocol_line cache_line dir_line forward_line request_line reply_line leaving_shape core_line take_line asking_row evicting_row row_line end_line line_of
returns-clause-ask c = refl

pub returns-clause-leave : goal.returns-clause-leave
unfolding name_at state_at protocol_line cache_line dir_line forward_line request_line reply_line leaving_shape core_line take_line asking_row evicting_row row_line end_line line_of
returns-clause-leave c = refl

pub returns-clause-take : goal.returns-clause-take
unfolding name_at state_at protocol_line cache_line dir_line forward_line request_line reply_line leaving_shape core_line take_line asking_row evicting_row row_line end_line line_of
returns-clause-take c = refl

pub returns-clause-take_replying : goal.returns-clause-take_replying
unfolding name_at state_at protocol_line cache_line dir_line forward_line request_line reply_line leaving_shape core_line take_line asking_row evicting_row row_line end_line line_of
returns-clause-take_replying c = refl

pub returns-clause-row : goal.returns-clause-row
unfolding name_at state_at protocol_line cache_line dir_line forward_line request_line reply_line leaving_shape core_line take_line asking_row evicting_row row_line end_line line_of
returns-clause-row c = refl

pub returns-clause-row_evict : goal.returns-clause-row_evict
unfolding name_at state_at protocol_line cache_line dir_line forward_line request_line reply_line leaving_shape core_line take_line asking_row evicting_row row_line end_line line_of
returns-clause-row_evict c = refl

pub returns-clause-end_line : goal.returns-clause-end_line
unfolding name_at state_at protocol_line cache_line dir_line forward_line request_line reply_line leaving_shape core_line take_line asking_row evicting_row row_line end_line line_of
returns-clause-end_line c = refl
