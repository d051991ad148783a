-- What is found to be the same is one, and each is the same as itself.
use Rattle.std.proofs.Common.{◌≡◌, true, ap, refl}
use Rattle.std.proofs.lemmas.Bool.{and_parts, and_from, eqb-true, eq-eqb}
use denote.Enum.Bare.{same_true, true_same}
use Rattle.pg_perm.specs.declared.kinds.Event.{Event}
use Rattle.pg_perm.specs.declared.kinds.Who.{Who}
use Rattle.pg_perm.specs.declared.kinds.Left.{Left}
use Rattle.pg_perm.specs.declared.kinds.ReqClass.{ReqClass}
use Rattle.pg_perm.specs.declared.kinds.FwdClass.{FwdClass}
use Rattle.pg_perm.specs.declared.kinds.DirKind.{DirKind}
use Rattle.pg_perm.specs.contracts.kinds.Event.{the_type as event_type}
use Rattle.pg_perm.specs.contracts.kinds.Who.{the_type as who_type}
use Rattle.pg_perm.specs.contracts.kinds.Left.{the_type as left_type}
use Rattle.pg_perm.specs.contracts.kinds.ReqClass.{the_type as request_type}
use Rattle.pg_perm.specs.contracts.kinds.FwdClass.{the_type as forward_type}
use Rattle.pg_perm.specs.contracts.kinds.DirKind.{the_type as kind_type}
use Rattle.pg_perm.specs.declared.draft.ReplyName.{ReplyName}
use Rattle.pg_perm.specs.declared.draft.ReplyName.TheVariants.{AckCount, Reply}
use Rattle.pg_terms.specs.declared.cases.DirCase.{DirCase}
use Rattle.pg_terms.specs.declared.cases.DirCase.TheVariants.{Ask, Evict}
use Rattle.pg_terms.specs.Terms.{same_event, same_who, same_left, same_request, same_forward}
use Rattle.pg_terms.specs.Due.{same_kind, same_case, same_reply}

pub event_equal : (a b : Event) → same_event a b ≡ true → a ≡ b
event_equal = same_true event_type tt

pub event_same : (a : Event) → same_event a a ≡ true
event_same a = true_same event_type a a refl

pub who_equal : (a b : Who) → same_who a b ≡ true → a ≡ b
who_equal = same_true who_type tt

pub who_same : (a : Who) → same_who a a ≡ true
who_same a = true_same who_type a a refl

pub left_equal : (a b : Left) → same_left a b ≡ true → a ≡ b
left_equal = same_true left_type tt

pub left_same : (a : Left) → same_left a a ≡ true
left_same a = true_same left_type a a refl

pub request_equal : (a b : ReqClass) → same_request a b ≡ true → a ≡ b
request_equal = same_true request_type tt

pub request_same : (a : ReqClass) → same_request a a ≡ true
request_same a = true_same request_type a a refl

pub forward_equal : (a b : FwdClass) → same_forward a b ≡ true → a ≡ b
forward_equal = same_true forward_type tt

pub kind_equal : (a b : DirKind) → same_kind a b ≡ true → a ≡ b
kind_equal = same_true kind_type tt

pub case_equal : (a b : DirCase) → same_case a b ≡ true → a ≡ b
case_equal (Ask c w) (Ask e v) h =
    let (class, sender) = and_parts (same_request c e) (same_who w v) h in
    cc (request_equal c e class, who_equal w v sender)
case_equal (Evict w l) (Evict v m) h =
    let (sender, others) = and_parts (same_who w v) (same_left l m) h in
    cc (who_equal w v sender, left_equal l m others)
case_equal _ _ h = absurd cc

pub case_same : (a : DirCase) → same_case a a ≡ true
case_same (Ask c w) = and_from (same_request c c) (same_who w w) (request_same c) (who_same w)
case_same (Evict w l) = and_from (same_who w w) (same_left l l) (who_same w) (left_same l)

pub reply_equal : (a b : ReplyName) → same_reply a b ≡ true → a ≡ b
reply_equal AckCount AckCount h = refl
reply_equal (Reply m) (Reply n) h = ap Reply (eqb-true m n h)
reply_equal _ _ h = absurd cc

pub reply_same : (r : ReplyName) → same_reply r r ≡ true
reply_same AckCount = refl
reply_same (Reply m) = eq-eqb m m refl
