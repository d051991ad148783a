-- What a request does.
use Rattle.std.proofs.Common.{ℕ, ◌<◌}
use Rattle.pg_perm.specs.declared.draft.Draft.{Draft}
use Rattle.pg_perm.specs.Drafts.{IsWellFormed}
use Rattle.pg_shape.specs.Shaped.{IsShaped}
use Rattle.pg_directory.specs.DirEntries.{DirEntry, Request}
use Rattle.pg_directory.specs.Sound.{IsSound, IsLegal}
use Rattle.pg_directory.specs.Requests.{IsHandled}
use Rattle.pg_directory.proofs.DueRows.{legal_request_has_row, stale_changes_nothing}
use Rattle.pg_directory.proofs.OfKind.{legal_request_has_kind}
use Rattle.pg_directory.proofs.SoundAfter.{entry_after_is_sound}
use Rattle.pg_directory.proofs.Untouched.{others_are_untouched, evict_leaves_nothing}
use Rattle.pg_directory.proofs.Forwards.{passed_on_to_owner, forward_is_due, applies}
use Rattle.pg_directory.proofs.Answerers.{memory_answers_without_owner, counted}
use Rattle.pg_directory.proofs.Grants.{replied, granted}

pub legal_request_is_handled : (d : Draft) (n : ℕ) (s : DirEntry) (q : Request) → IsWellFormed d → IsShaped d → IsSound d n s → q.core < n → IsLegal d s q → IsHandled d n s q
legal_request_is_handled d n s q w sh so low legal = record {
  kind = legal_request_has_kind d n s q w sh so low legal;
  sound = entry_after_is_sound d n s q w sh so low legal;
  row = legal_request_has_row d n s q w sh so low legal;
  untouched = others_are_untouched d n s q w sh so low legal;
  due = forward_is_due d n s q sh so;
  applies = applies d n s q w sh so low legal;
  passed = passed_on_to_owner d n s q w sh so low legal;
  memory = memory_answers_without_owner d n s q w sh so low legal;
  counted = counted d n s q w sh so low legal;
  replied = λ other. let r = legal_request_has_row d n s q w sh so low legal (λ e. absurd (other e)) in replied d n s q w sh so low legal r.0 r.1 other;
  granted = granted d n s q w sh so low legal;
  left = evict_leaves_nothing d n s q w sh so low legal;
  stale = stale_changes_nothing d n s q w sh so low legal;
}
