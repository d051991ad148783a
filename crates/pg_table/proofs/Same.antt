-- Tests that two are the same pass just where the two are equal.
use Rattle.std.proofs.Common.{◌≡◌, Bool, true, refl, ap}
use Rattle.std.specs.Prelude.{◌==◌, ◌&&◌}
use Rattle.std.proofs.lemmas.Bool.{eqb-true, eq-eqb, and_parts}
use denote.Enum.Bare.{sameb, same_true, true_same}
use Rattle.pg_perm.specs.contracts.kinds.Event.{the_type as event_type}
use Rattle.pg_perm.specs.contracts.kinds.ReqClass.{the_type as request_type}
use Rattle.pg_perm.specs.contracts.kinds.Who.{the_type as who_type}
use Rattle.pg_perm.specs.contracts.kinds.Left.{the_type as left_type}
use Rattle.pg_shape.proofs.Bools.{and_of_both}
use Rattle.pg_table.specs.contracts.cache.Phase.{the_type as phase_type}
use Rattle.pg_table.specs.contracts.cache.Tag.{the_type as tag_type}
use Rattle.pg_table.specs.declared.cache.Desc.{Desc}
use Rattle.pg_table.specs.declared.cache.Desc.TheVariants.{Stable, Ask, Leave}
use Rattle.pg_table.specs.declared.cache.Input.{Input}
use Rattle.pg_table.specs.declared.cache.Input.TheVariants as at
use Rattle.pg_table.specs.declared.directory.DirDesc.{DirDesc}
use Rattle.pg_table.specs.declared.directory.DirDesc.TheVariants.{State, Busy}
use Rattle.pg_table.specs.declared.directory.DirInput.{DirInput}
use Rattle.pg_table.specs.declared.directory.DirInput.TheVariants as met
use Rattle.pg_table.specs.Tables.{same_desc, same_input, same_dir_desc, same_dir_input}

-- a test passes just where two are equal
pub record IsSame {X : Type 0} (same : X → X → Bool) : Type 0 where
  pub is : (a b : X) → same a b ≡ true → a ≡ b
  pub self : (a : X) → same a a ≡ true

-- States of caches

pub same_desc_is : (a b : Desc) → same_desc a b ≡ true → a ≡ b
same_desc_is (Stable s) (Stable t) h = ap (λ n. Stable n) (eqb-true s t h)
same_desc_is (Ask e s p a) (Ask f t q b) h =
    let (events, more) = and_parts (sameb event_type e f) ((s == t) && (sameb phase_type p q && sameb tag_type a b)) h in
    let (starts, last) = and_parts (s == t) (sameb phase_type p q && sameb tag_type a b) more in
    let (phases, tags) = and_parts (sameb phase_type p q) (sameb tag_type a b) last in
    cc (same_true event_type tt e f events, eqb-true s t starts, same_true phase_type tt p q phases, same_true tag_type tt a b tags)
same_desc_is (Leave s) (Leave t) h = ap (λ n. Leave n) (eqb-true s t h)
same_desc_is _ _ h = absurd cc

pub same_desc_self : (a : Desc) → same_desc a a ≡ true
same_desc_self (Stable s) = eq-eqb s s refl
same_desc_self (Ask e s p a) = rw (true_same event_type e e refl, eq-eqb s s refl, true_same phase_type p p refl, true_same tag_type a a refl) refl
same_desc_self (Leave s) = eq-eqb s s refl

pub desc_same : IsSame same_desc
desc_same = record { is = same_desc_is; self = same_desc_self }

-- Inputs of caches

pub same_input_is : (a b : Input) → same_input a b ≡ true → a ≡ b
same_input_is (at.Core e) (at.Core f) h = ap (λ x. at.Core x) (same_true event_type tt e f h)
same_input_is (at.Forward n) (at.Forward m) h = ap (λ x. at.Forward x) (eqb-true n m h)
same_input_is at.CountAll at.CountAll h = refl
same_input_is at.CountPart at.CountPart h = refl
same_input_is at.PutAck at.PutAck h = refl
same_input_is (at.DataAll n) (at.DataAll m) h = ap (λ x. at.DataAll x) (eqb-true n m h)
same_input_is (at.DataPart n) (at.DataPart m) h = ap (λ x. at.DataPart x) (eqb-true n m h)
same_input_is at.AckMore at.AckMore h = refl
same_input_is at.AckLast at.AckLast h = refl
same_input_is _ _ h = absurd cc

pub same_input_self : (a : Input) → same_input a a ≡ true
same_input_self (at.Core e) = true_same event_type e e refl
same_input_self (at.Forward n) = eq-eqb n n refl
same_input_self (at.DataAll n) = eq-eqb n n refl
same_input_self (at.DataPart n) = eq-eqb n n refl
same_input_self _ = refl

pub input_same : IsSame same_input
input_same = record { is = same_input_is; self = same_input_self }

-- States of the directory

pub same_dir_desc_is : (a b : DirDesc) → same_dir_desc a b ≡ true → a ≡ b
same_dir_desc_is (State n) (State m) h = ap (λ x. State x) (eqb-true n m h)
same_dir_desc_is (Busy n) (Busy m) h = ap (λ x. Busy x) (eqb-true n m h)
same_dir_desc_is _ _ h = absurd cc

pub same_dir_desc_self : (a : DirDesc) → same_dir_desc a a ≡ true
same_dir_desc_self (State n) = eq-eqb n n refl
same_dir_desc_self (Busy n) = eq-eqb n n refl

pub dir_desc_same : IsSame same_dir_desc
dir_desc_same = record { is = same_dir_desc_is; self = same_dir_desc_self }

-- Inputs of the directory

same_dir_input_is : (a b : DirInput) → same_dir_input a b ≡ true → a ≡ b
same_dir_input_is (met.Ask a w) (met.Ask b v) h =
    let (requests, senders) = and_parts (sameb request_type a b) (sameb who_type w v) h in
    cc (same_true request_type tt a b requests, same_true who_type tt w v senders)
same_dir_input_is (met.Evict w l) (met.Evict v m) h =
    let (senders, lefts) = and_parts (sameb who_type w v) (sameb left_type l m) h in
    cc (same_true who_type tt w v senders, same_true left_type tt l m lefts)
same_dir_input_is met.EvictNone met.EvictNone h = refl
same_dir_input_is (met.BusyAsk a) (met.BusyAsk b) h = ap (λ x. met.BusyAsk x) (same_true request_type tt a b h)
same_dir_input_is met.BusyEvict met.BusyEvict h = refl
same_dir_input_is met.Wb met.Wb h = refl
same_dir_input_is _ _ h = absurd cc

same_dir_input_self : (a : DirInput) → same_dir_input a a ≡ true
same_dir_input_self (met.Ask a w) = and_of_both (sameb request_type a a) (sameb who_type w w) (true_same request_type a a refl) (true_same who_type w w refl)
same_dir_input_self (met.Evict w l) = and_of_both (sameb who_type w w) (sameb left_type l l) (true_same who_type w w refl) (true_same left_type l l refl)
same_dir_input_self (met.BusyAsk a) = true_same request_type a a refl
same_dir_input_self _ = refl

pub dir_input_same : IsSame same_dir_input
dir_input_same = record { is = same_dir_input_is; self = same_dir_input_self }
