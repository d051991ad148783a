-- Data and write-backs among the replies.
use Rattle.std.proofs.Common.{◌≡◌, ◌≢◌, ℕ, zero, suc, arith, Bool, true, false, ◌||◌, cond, List, [], ◌∷◌, ◌++◌, Some, refl, sym, ap, subst, ◌∙◌}
use Rattle.std.specs.Prelude.{◌==◌, slice_get}
use Rattle.std.specs.List.{remove}
use Rattle.std.proofs.lemmas.Bool.{eq-eqb}
use Rattle.pg_perm.specs.declared.draft.Draft.{Draft}
use Rattle.pg_perm.specs.declared.draft.ReplyName.TheVariants as reply
use Rattle.pg_table.specs.declared.cache.Desc.{Desc}
use Rattle.pg_order.specs.Messages.{tally}
use Rattle.pg_messages.specs.declared.messages.Reply.{Reply}
use Rattle.pg_messages.specs.declared.messages.Reply.TheVariants.{Data, InvAck, WbData}
use Rattle.pg_orderly.specs.Orderly.{is_data_to, is_write_back}
use Rattle.pg_serial.specs.Faithful.{Datum, EachIs}
use Rattle.pg_refined.specs.Shown.{cleans, data_of, datum_of, some_cleans, word_of, words_of}

abbrev pub datum_as : ℕ → ℕ → ℕ → ℕ → Datum
datum_as r c v k = record { reply = reply.Reply r; core = c; word = v; stamp = k }

-- what holds of each data
pub each_data : (P : Datum → Type 0) (xs : List Reply) → ((i r c v n k : ℕ) → slice_get xs i ≡ Some (Data r c v n k) → P (datum_as r c v k)) → EachIs P (data_of xs)
each_data P [] h = tt
each_data P (Data r c v n k ∷ xs) h = (h 0 r c v n k refl, each_data P xs (λ i r c v n k e. h (suc i) r c v n k e))
each_data P (InvAck c k ∷ xs) h = each_data P xs (λ i r c v n k e. h (suc i) r c v n k e)
each_data P (WbData v k ∷ xs) h = each_data P xs (λ i r c v n k e. h (suc i) r c v n k e)

pub data_at : (P : Datum → Type 0) (xs : List Reply) (i r c v n k : ℕ) → EachIs P (data_of xs) → slice_get xs i ≡ Some (Data r c v n k) → P (datum_as r c v k)
data_at P [] i r c v n k h e = cc
data_at P (x ∷ xs) zero r c v n k h e = let same : x ≡ Data r c v n k = cc in (subst (λ x. EachIs P (datum_of x ++ data_of xs)) same h).0
data_at P (Data r2 c2 v2 n2 k2 ∷ xs) (suc i) r c v n k h e = data_at P xs i r c v n k h.1 e
data_at P (InvAck c2 k2 ∷ xs) (suc i) r c v n k h e = data_at P xs i r c v n k h e
data_at P (WbData v2 k2 ∷ xs) (suc i) r c v n k h e = data_at P xs i r c v n k h e

pub data_removed : (P : Datum → Type 0) (xs : List Reply) (i : ℕ) → EachIs P (data_of xs) → EachIs P (data_of (remove xs i))
data_removed P [] zero h = tt
data_removed P [] (suc i) h = tt
data_removed P (Data r c v n k ∷ xs) zero h = h.1
data_removed P (InvAck c k ∷ xs) zero h = h
data_removed P (WbData v k ∷ xs) zero h = h
data_removed P (Data r c v n k ∷ xs) (suc i) h = (h.0, data_removed P xs i h.1)
data_removed P (InvAck c k ∷ xs) (suc i) h = data_removed P xs i h
data_removed P (WbData v k ∷ xs) (suc i) h = data_removed P xs i h

append_assoc : {A : Type 0} (xs ys zs : List A) → (xs ++ ys) ++ zs ≡ xs ++ (ys ++ zs)
append_assoc [] ys zs = refl
append_assoc (x ∷ xs) ys zs = ap (λ t. x ∷ t) (append_assoc xs ys zs)

pub data-append : (xs ys : List Reply) → data_of (xs ++ ys) ≡ data_of xs ++ data_of ys
data-append [] ys = refl
data-append (x ∷ xs) ys = ap (λ t. datum_of x ++ t) (data-append xs ys) ∙ sym (append_assoc (datum_of x) (data_of xs) (data_of ys))

pub words-append : (xs ys : List Reply) → words_of (xs ++ ys) ≡ words_of xs ++ words_of ys
words-append [] ys = refl
words-append (x ∷ xs) ys = ap (λ t. word_of x ++ t) (words-append xs ys) ∙ sym (append_assoc (word_of x) (words_of xs) (words_of ys))

-- nobody is sent data of whom none is counted
pub none_to : (c : ℕ) (xs : List Reply) → tally (is_data_to c) xs ≡ 0 → EachIs (λ (x : Datum). x.core ≢ c) (data_of xs)
none_to c [] none = tt
none_to c (Data r e v n k ∷ xs) none =
    let rest : tally (is_data_to c) xs ≡ 0 = omega (arith, none) in
    (λ same. let is : (e == c) ≡ true = eq-eqb e c same in let one : cond {A = ℕ} (e == c) 1 0 ≡ 1 = ap (λ b. cond {A = ℕ} b 1 0) is in omega (arith, one, none), none_to c xs rest)
none_to c (InvAck e k ∷ xs) none = none_to c xs (omega (arith, none))
none_to c (WbData v k ∷ xs) none = none_to c xs (omega (arith, none))

pub no_words : (xs : List Reply) → tally is_write_back xs ≡ 0 → words_of xs ≡ []
no_words [] none = refl
no_words (Data r e v n k ∷ xs) none = no_words xs (omega (arith, none))
no_words (InvAck e k ∷ xs) none = no_words xs (omega (arith, none))
no_words (WbData v k ∷ xs) none = absurd (omega (arith, none))

pub words_removed : (P : ℕ → Type 0) (xs : List Reply) (i : ℕ) → EachIs P (words_of xs) → EachIs P (words_of (remove xs i))
words_removed P [] zero h = tt
words_removed P [] (suc i) h = tt
words_removed P (Data r c v n k ∷ xs) zero h = h
words_removed P (InvAck c k ∷ xs) zero h = h
words_removed P (WbData v k ∷ xs) zero h = h.1
words_removed P (Data r c v n k ∷ xs) (suc i) h = words_removed P xs i h
words_removed P (InvAck c k ∷ xs) (suc i) h = words_removed P xs i h
words_removed P (WbData v k ∷ xs) (suc i) h = (h.0, words_removed P xs i h.1)

pub word_at : (P : ℕ → Type 0) (xs : List Reply) (i v k : ℕ) → EachIs P (words_of xs) → slice_get xs i ≡ Some (WbData v k) → P v
word_at P [] i v k h e = cc
word_at P (x ∷ xs) zero v k h e = let same : x ≡ WbData v k = cc in (subst (λ x. EachIs P (word_of x ++ words_of xs)) same h).0
word_at P (Data r2 c2 v2 n2 k2 ∷ xs) (suc i) v k h e = word_at P xs i v k h e
word_at P (InvAck c2 k2 ∷ xs) (suc i) v k h e = word_at P xs i v k h e
word_at P (WbData v2 k2 ∷ xs) (suc i) v k h e = word_at P xs i v k h.1 e

-- where some data makes a core clean, there is that data
pub record IsCleaning (d : Draft) (c : ℕ) (x : Desc) (xs : List Reply) : Type 0 where
  pub place : ℕ
  pub reply : ℕ
  pub to : ℕ
  pub word : ℕ
  pub count : ℕ
  pub stamp : ℕ
  pub stands : slice_get xs place ≡ Some (Data reply to word count stamp)
  pub clean : cleans d c x (Data reply to word count stamp) ≡ true

pub cleaning : (d : Draft) (c : ℕ) (x : Desc) (xs : List Reply) → some_cleans d c x xs ≡ true → IsCleaning d c x xs
cleaning d c x [] e = cc
cleaning d c x (y ∷ ys) e = at (cleans d c x y) refl e (λ e. cleaning d c x ys e)
  where
    here : (y : Reply) → cleans d c x y ≡ true → IsCleaning d c x (y ∷ ys)
    here (Data r c2 v n k) is = record { place = 0; reply = r; to = c2; word = v; count = n; stamp = k; stands = refl; clean = is }
    here (InvAck c2 k) is = cc
    here (WbData v k) is = cc

    at : (b : Bool) → cleans d c x y ≡ b → (b || some_cleans d c x ys) ≡ true → (some_cleans d c x ys ≡ true → IsCleaning d c x ys) → IsCleaning d c x (y ∷ ys)
    at true is e more = here y is
    at false is e more = let h = more e in record { place = suc h.place; reply = h.reply; to = h.to; word = h.word; count = h.count; stamp = h.stamp; stands = h.stands; clean = h.clean }

pub no_cleans : (d : Draft) (c : ℕ) (x : Desc) (xs : List Reply) → tally (is_data_to c) xs ≡ 0 → some_cleans d c x xs ≡ false
no_cleans d c x [] none = refl
no_cleans d c x (Data r e v n k ∷ xs) none =
    let rest : tally (is_data_to c) xs ≡ 0 = omega (arith, none) in
    at (e == c) refl (no_cleans d c x xs rest)
  where
    at : (b : Bool) → (e == c) ≡ b → some_cleans d c x xs ≡ false → some_cleans d c x (Data r e v n k ∷ xs) ≡ false
    at true is rest = absurd (let one : cond {A = ℕ} (e == c) 1 0 ≡ 1 = ap (λ b. cond {A = ℕ} b 1 0) is in omega (arith, one, none))
    at false is rest = rw is rest
no_cleans d c x (InvAck e k ∷ xs) none = no_cleans d c x xs (omega (arith, none))
no_cleans d c x (WbData v k ∷ xs) none = no_cleans d c x xs (omega (arith, none))
