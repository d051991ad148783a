-- A clone of a draft equals the draft, and so does a clone of each of its parts.
use Rattle.std.proofs.Common.{rules, ◌≡◌, List, ℕ, Some, None, ap, refl}
use Rattle.std.proofs.lemmas.List.Elements.{same_from_all_zip}
use Rattle.pg_perm.specs.declared.draft.Draft.{Draft}
use Rattle.pg_perm.specs.declared.draft.CacheLine.{CacheLine}
use Rattle.pg_perm.specs.declared.draft.DirLine.{DirLine}
use Rattle.pg_perm.specs.declared.draft.MsgLine.{MsgLine}
use Rattle.pg_perm.specs.declared.draft.CoreLine.{CoreLine}
use Rattle.pg_perm.specs.declared.draft.CoreForm.{CoreForm}
use Rattle.pg_perm.specs.declared.draft.CoreForm.TheVariants.{Hit, Ask, Leave}
use Rattle.pg_perm.specs.contracts.draft.DraftClone.TheImpl.{ghosts as of_draft}
use Rattle.pg_perm.specs.contracts.draft.CacheLineClone.TheImpl.{ghosts as of_cache}
use Rattle.pg_perm.specs.contracts.draft.DirLineClone.TheImpl.{ghosts as of_dir}
use Rattle.pg_perm.specs.contracts.draft.MsgLineClone.TheImpl.{ghosts as of_message}
use Rattle.pg_perm.specs.contracts.draft.CoreLineClone.TheImpl.{ghosts as of_core}
use Rattle.pg_perm.specs.contracts.draft.CoreFormClone.TheImpl.{ghosts as of_form}
use Rattle.pg_perm.specs.contracts.word.WordClone.TheImpl.{ghosts as of_word}

word_same : (word copy : List ℕ) → of_word.is_clone word copy → copy ≡ word
word_same word copy h = search (rules, same_from_all_zip)

cache_same : (line copy : CacheLine) → of_cache.is_clone line copy → copy ≡ line
cache_same line copy h =
    let name = word_same line.name copy.name h.1.0 in
    λ i. record {
      line = h.0 i;
      name = name i;
      role = h.1.1.0 i;
      perm = h.1.1.1.0 i;
      clean = h.1.1.1.1 i;
    }

dir_same : (line copy : DirLine) → of_dir.is_clone line copy → copy ≡ line
dir_same line copy h =
    let name = word_same line.name copy.name h.1.0 in
    let beside = same_from_all_zip _ line.beside copy.beside h.1.1.1 (λ _ _ same. same) in
    λ i. record { line = h.0 i; name = name i; kind = h.1.1.0 i; beside = beside i }

message_same : (line copy : MsgLine) → of_message.is_clone line copy → copy ≡ line
message_same line copy h =
    let name = word_same line.name copy.name h.1.0 in
    λ i. record { line = h.0 i; name = name i; class = h.1.1 i }

form_same : (form copy : CoreForm) → of_form.is_clone form copy → copy ≡ form
form_same (Hit None) (Hit None) h = refl
form_same (Hit (Some state)) (Hit (Some state_copy)) h = ap (λ n. Hit (Some n)) h
form_same (Ask request pairs) (Ask request_copy pairs_copy) h =
    let same = same_from_all_zip _ pairs pairs_copy h.1 (λ _ _ same. same) in
    λ i. Ask (h.0 i) (same i)
form_same (Leave request) (Leave request_copy) h = ap Leave h
form_same (Hit None) (Hit (Some _)) h = absurd h
form_same (Hit (Some _)) (Hit None) h = absurd h
form_same (Hit _) (Ask _ _) h = absurd h
form_same (Hit _) (Leave _) h = absurd h
form_same (Ask _ _) (Hit _) h = absurd h
form_same (Ask _ _) (Leave _) h = absurd h
form_same (Leave _) (Hit _) h = absurd h
form_same (Leave _) (Ask _ _) h = absurd h

core_same : (line copy : CoreLine) → of_core.is_clone line copy → copy ≡ line
core_same line copy h =
    let form = form_same line.form copy.form h.1.1.1 in
    λ i. record { line = h.0 i; state = h.1.0 i; event = h.1.1.0 i; form = form i }

pub draft_same : (draft copy : Draft) → of_draft.is_clone draft copy → copy ≡ draft
draft_same draft copy h =
    let name = word_same draft.name copy.name h.1.0 in
    let caches = same_from_all_zip _ draft.caches copy.caches h.1.1.0 cache_same in
    let dirs = same_from_all_zip _ draft.dirs copy.dirs h.1.1.1.0 dir_same in
    let messages = same_from_all_zip _ draft.messages copy.messages h.1.1.1.1.0 message_same in
    let cores = same_from_all_zip _ draft.cores copy.cores h.1.1.1.1.1.0 core_same in
    let takes = same_from_all_zip _ draft.takes copy.takes h.1.1.1.1.1.1.0 (λ _ _ same. same) in
    let rows = same_from_all_zip _ draft.rows copy.rows h.1.1.1.1.1.1.1 (λ _ _ same. same) in
    λ i. record {
      line = h.0 i;
      name = name i;
      caches = caches i;
      dirs = dirs i;
      messages = messages i;
      cores = cores i;
      takes = takes i;
      rows = rows i;
    }
