use Rattle.std.proofs.Common.{refl}
use Rattle.pg_forms.specs.Reading.{line_of, protocol_line, name_at, cache_line, state_at, dir_line, request_line, reply_line, core_line, leaving_shape, end_line}
use Rattle.pg_drafting.specs.Numbering.{message_number, pair_of, core_form, core_of}
use Rattle.pg_text.proofs.laws.worked_texts.Goals as goal

pub returns-clause-no_line : goal.returns-clause-no_line
unfolding line_of protocol_line name_at cache_line state_at request_line reply_line core_line leaving_shape end_line message_number pair_of core_form core_of
returns-clause-no_line c = refl

pub returns-clause-no_end : goal.returns-clause-no_end
unfolding line_of protocol_line name_at cache_line state_at request_line reply_line core_line leaving_shape end_line message_number pair_of core_form core_of
returns-clause-no_end c = refl

pub returns-clause-empty_line : goal.returns-clause-empty_line
unfolding line_of protocol_line name_at cache_line state_at request_line reply_line core_line leaving_shape end_line message_number pair_of core_form core_of
returns-clause-empty_line c = refl

pub returns-clause-space_at_end : goal.returns-clause-space_at_end
unfolding line_of protocol_line name_at cache_line state_at request_line reply_line core_line leaving_shape end_line message_number pair_of core_form core_of
returns-clause-space_at_end c = refl

pub returns-clause-long_name : goal.returns-clause-long_name
unfolding line_of protocol_line name_at cache_line state_at request_line reply_line core_line leaving_shape end_line message_number pair_of core_form core_of
returns-clause-long_name c = refl

pub returns-clause-underscore : goal.returns-clause-underscore
unfolding line_of protocol_line name_at cache_line state_at request_line reply_line core_line leaving_shape end_line message_number pair_of core_form core_of
returns-clause-underscore c = refl

pub returns-clause-end_first : goal.returns-clause-end_first
unfolding line_of protocol_line name_at cache_line state_at request_line reply_line core_line leaving_shape end_line message_number pair_of core_form core_of
returns-clause-end_first c = refl

pub returns-clause-protocol_twice : goal.returns-clause-protocol_twice
unfolding line_of protocol_line name_at cache_line state_at request_line reply_line core_line leaving_shape end_line message_number pair_of core_form core_of
returns-clause-protocol_twice c = refl

pub returns-clause-out_of_order : goal.returns-clause-out_of_order
unfolding line_of protocol_line name_at cache_line state_at request_line reply_line core_line leaving_shape end_line message_number pair_of core_form core_of
returns-clause-out_of_order c = refl

pub returns-clause-taken : goal.returns-clause-taken
unfolding line_of protocol_line name_at cache_line state_at request_line reply_line core_line leaving_shape end_line message_number pair_of core_form core_of
returns-clause-taken c = refl

pub returns-clause-declared_twice : goal.returns-clause-declared_twice
unfolding line_of protocol_line name_at cache_line state_at request_line reply_line core_line leaving_shape end_line message_number pair_of core_form core_of
returns-clause-declared_twice c = refl

pub returns-clause-hit_is_no_request : goal.returns-clause-hit_is_no_request
unfolding line_of protocol_line name_at cache_line state_at request_line reply_line core_line leaving_shape end_line message_number pair_of core_form core_of
returns-clause-hit_is_no_request c = refl

pub returns-clause-too_many_words : goal.returns-clause-too_many_words
unfolding line_of protocol_line name_at cache_line state_at dir_line request_line reply_line core_line leaving_shape end_line message_number pair_of core_form core_of
returns-clause-too_many_words c = refl

pub returns-clause-text : goal.returns-clause-text
unfolding line_of protocol_line name_at cache_line state_at request_line reply_line core_line leaving_shape end_line message_number pair_of core_form core_of
returns-clause-text c = refl

pub returns-clause-well_formed : goal.returns-clause-well_formed
returns-clause-well_formed c = record { names = refl; free = refl; numbers = refl; classes = refl; lines = refl; limits = refl }

pub returns-clause-printed : goal.returns-clause-printed
returns-clause-printed c = refl

pub returns-clause-renumbered : goal.returns-clause-renumbered
returns-clause-renumbered c = refl
