-- Inputs of the directory controller with the same word are the same.
use Rattle.std.proofs.Common.{◌≡◌, ℕ, ◌<◌, true, false, List, [], ◌∷◌, ◌++◌, length, Option, Some, None, refl, sym, ap, ◌∙◌, append-nil, append_assoc}
use Rattle.std.specs.Prelude.{⊤, not, codes, slice_get, find, bytes_eq}
use Rattle.std.specs.Option.{option_map_or}
use Rattle.std.proofs.lemmas.Option.{same_Some}
use denote.Enum.Bare.{same_true}
use Rattle.pg_perm.specs.contracts.kinds.ReqClass.{the_type as request_type}
use Rattle.pg_perm.specs.declared.kinds.Perm.{Perm}
use Rattle.pg_perm.specs.declared.kinds.Perm.TheVariants as perm
use Rattle.pg_perm.specs.declared.kinds.Event.TheVariants.{Load, Store}
use Rattle.pg_perm.specs.declared.kinds.ReqClass.{ReqClass}
use Rattle.pg_perm.specs.declared.kinds.ReqClass.TheVariants.{Read, Write, Clean, Dirty}
use Rattle.pg_perm.specs.declared.kinds.Who.TheVariants as who
use Rattle.pg_perm.specs.declared.kinds.Left.TheVariants as left
use Rattle.pg_perm.specs.declared.draft.Draft.{Draft}
use Rattle.pg_perm.specs.declared.draft.MsgLine.{MsgLine}
use Rattle.pg_perm.specs.declared.draft.MsgClass.{MsgClass}
use Rattle.pg_perm.specs.declared.draft.MsgClass.TheVariants as message
use Rattle.pg_perm.specs.Drafts.{taken_names, IsWellFormed}
use Rattle.pg_perm.specs.Words.{who_word, left_word, message_name}
use Rattle.pg_terms.specs.Terms.{is_out, is_none_perm, is_write_perm, is_request_of, request_of}
use Rattle.pg_shape.specs.Shaped.{IsShaped}
use Rattle.pg_shape.proofs.Searches.{position_get}
use Rattle.pg_table.specs.declared.directory.DirInput.{DirInput}
use Rattle.pg_table.specs.declared.directory.DirInput.TheVariants as met
use Rattle.pg_table.specs.Directory.{dir_inputs}
use Rattle.pg_table.specs.Tables.{has_dir_input}
use Rattle.pg_print.specs.Words.{request_name, dir_input_word}
use Rattle.pg_print.proofs.Lacking.{lacks, other_text}
use Rattle.pg_print.proofs.InputWords.{IsTail, same_parts}
use Rattle.pg_print.proofs.Written.{message_lacks, same_message, message_not_taken}

-- Requests

-- a request of a class, with its place and its name
abbrev HasRequest : Draft → ReqClass → Type 0
HasRequest d class = (q : ℕ) × (request_of d class ≡ Some q)

has_read : (d : Draft) → IsShaped d → HasRequest d Read
has_read d shaped =
    let (s, is_out_state) = shaped.perms.start in
    let (c, get, h) = (position_get (λ c. is_out c.role) d.caches s is_out_state).1 in
    let (x, row) = shaped.cores.row s Load c get (λ e. absurd cc) in
    let (q, pairs, asks, first) = shaped.cores.load s x c get row (denies c.perm (shaped.perms.out_none s c get h).1) in
    (q, first)
  where
    denies : (p : Perm) → is_none_perm p ≡ true → not (is_none_perm p) ≡ false
    denies p h = ap not h

has_write : (d : Draft) → IsShaped d → HasRequest d Write
has_write d shaped =
    let (s, is_out_state) = shaped.perms.start in
    let (c, get, h) = (position_get (λ c. is_out c.role) d.caches s is_out_state).1 in
    let (x, row) = shaped.cores.row s Store c get (λ e. absurd cc) in
    let (q, pairs, asks, first) = shaped.cores.store s x c get row (denies c.perm (shaped.perms.out_none s c get h).1) in
    (q, first)
  where
    denies : (p : Perm) → is_none_perm p ≡ true → is_write_perm p ≡ false
    denies perm.None h = refl
    denies perm.Read h = absurd cc
    denies perm.Write h = absurd cc

-- the class is that of a READ or a WRITE
abbrev IsAsking : ReqClass → Type 0
IsAsking Read = ⊤
IsAsking Write = ⊤
IsAsking Clean = ⊥
IsAsking Dirty = ⊥

has_request : (d : Draft) → IsShaped d → (class : ReqClass) → IsAsking class → HasRequest d class
has_request d shaped Read a = has_read d shaped
has_request d shaped Write a = has_write d shaped
has_request d shaped Clean a = absurd a
has_request d shaped Dirty a = absurd a

one_class : (a b : ReqClass) (m : MsgClass) → is_request_of a m ≡ true → is_request_of b m ≡ true → a ≡ b
one_class a b (message.Request c) h g = same_true request_type tt a c h ∙ sym (same_true request_type tt b c g)
one_class a b (message.Forward f) h g = absurd cc
one_class a b message.Reply h g = absurd cc

name_is : (d : Draft) (class : ReqClass) (q : ℕ) → request_of d class ≡ Some q → request_name d class ≡ message_name d q
name_is d class q h = ap (λ (o : Option ℕ). option_map_or (message_name d) o []) h

below : (d : Draft) (class : ReqClass) (q : ℕ) → request_of d class ≡ Some q → q < length d.messages
below d class q h = (position_get (λ m. is_request_of class m.class) d.messages q h).0

request_lacks : (d : Draft) → IsWellFormed d → IsShaped d → (class : ReqClass) → IsAsking class → lacks 46 (request_name d class) ≡ true
request_lacks d w shaped class a = let (q, is) = has_request d shaped class a in ap (lacks 46) (name_is d class q is) ∙ message_lacks d w q

same_request_name : (d : Draft) → IsWellFormed d → IsShaped d → (a b : ReqClass) → IsAsking a → IsAsking b → request_name d a ≡ request_name d b → a ≡ b
same_request_name d w shaped a b asked other e =
    let (q, is) = has_request d shaped a asked in
    let (r, are) = has_request d shaped b other in
    let same : q ≡ r = same_message d w q r (below d a q is) (below d b r are) (sym (name_is d a q is) ∙ e ∙ name_is d b r are) in
    let (x, get, h) = (position_get (λ m. is_request_of a m.class) d.messages q is).1 in
    let (y, got, g) = (position_get (λ m. is_request_of b m.class) d.messages r are).1 in
    let one : x ≡ y = same_Some x y (sym get ∙ ap (slice_get d.messages) same ∙ got) in
    one_class a b x.class h (ap (λ (m : MsgLine). is_request_of b m.class) one ∙ g)

request_not_taken : (d : Draft) → IsWellFormed d → IsShaped d → (class : ReqClass) → IsAsking class → (k : ℕ) (name : List ℕ) → slice_get taken_names k ≡ Some name
    → request_name d class ≡ name → ⊥
request_not_taken d w shaped class a k name taken e =
    let (q, is) = has_request d shaped class a in
    message_not_taken d w q k name (below d class q is) taken (sym (name_is d class q is) ∙ e)

-- Words in two parts

head : Draft → DirInput → List ℕ
head d (met.Ask class who) = request_name d class
head d (met.Evict who left) = codes "evict"
head d met.EvictNone = codes "evict"
head d (met.BusyAsk class) = request_name d class
head d met.BusyEvict = codes "evict"
head d met.Wb = codes "WbData"

tail : DirInput → List ℕ
tail (met.Ask class who) = codes "." ++ who_word who
tail (met.Evict who left) = codes "." ++ who_word who ++ codes "." ++ left_word left
tail met.EvictNone = codes ".none"
tail (met.BusyAsk class) = []
tail met.BusyEvict = []
tail met.Wb = []

in_parts : (d : Draft) (i : DirInput) → dir_input_word d i ≡ head d i ++ tail i
unfolding head tail
in_parts d (met.Ask class who) = append_assoc (request_name d class) (codes ".") (who_word who)
in_parts d (met.Evict who.Other left.Last) = refl
in_parts d (met.Evict who.Other left.More) = refl
in_parts d (met.Evict who.Sharer left.Last) = refl
in_parts d (met.Evict who.Sharer left.More) = refl
in_parts d (met.Evict who.Owner left.Last) = refl
in_parts d (met.Evict who.Owner left.More) = refl
in_parts d met.EvictNone = refl
in_parts d (met.BusyAsk class) = sym (append-nil (request_name d class))
in_parts d met.BusyEvict = refl
in_parts d met.Wb = refl

is_tail : (i : DirInput) → IsTail (tail i)
unfolding tail
is_tail (met.Ask class who) = refl
is_tail (met.Evict who left) = refl
is_tail met.EvictNone = refl
is_tail (met.BusyAsk class) = tt
is_tail met.BusyEvict = tt
is_tail met.Wb = tt

-- the class of an input is that of a READ or a WRITE
abbrev Asks : DirInput → Type 0
Asks (met.Ask class who) = IsAsking class
Asks (met.Evict who left) = ⊤
Asks met.EvictNone = ⊤
Asks (met.BusyAsk class) = IsAsking class
Asks met.BusyEvict = ⊤
Asks met.Wb = ⊤

head_lacks : (d : Draft) → IsWellFormed d → IsShaped d → (i : DirInput) → Asks i → lacks 46 (head d i) ≡ true
unfolding head
head_lacks d w shaped (met.Ask class who) a = request_lacks d w shaped class a
head_lacks d w shaped (met.Evict who left) a = refl
head_lacks d w shaped met.EvictNone a = refl
head_lacks d w shaped (met.BusyAsk class) a = request_lacks d w shaped class a
head_lacks d w shaped met.BusyEvict a = refl
head_lacks d w shaped met.Wb a = refl

-- the tails tell what they are of
every_tail : List DirInput
every_tail =
    met.Ask Read who.Other ∷ met.Ask Read who.Sharer ∷ met.Ask Read who.Owner ∷ met.Evict who.Other left.Last ∷ met.Evict who.Other left.More
    ∷ met.Evict who.Sharer left.Last ∷ met.Evict who.Sharer left.More ∷ met.Evict who.Owner left.Last ∷ met.Evict who.Owner left.More ∷ met.EvictNone ∷ []

-- the input without its class, and without what tells apart those that have no tail
bare : DirInput → Option DirInput
bare (met.Ask class who) = Some (met.Ask Read who)
bare (met.Evict who left) = Some (met.Evict who left)
bare met.EvictNone = Some met.EvictNone
bare (met.BusyAsk class) = None
bare met.BusyEvict = None
bare met.Wb = None

told : List ℕ → Option DirInput
told text = find (λ i. bytes_eq (tail i) text) every_tail

tail_told : (i : DirInput) → told (tail i) ≡ bare i
unfolding told every_tail tail bare
tail_told (met.Ask class who.Other) = refl
tail_told (met.Ask class who.Sharer) = refl
tail_told (met.Ask class who.Owner) = refl
tail_told (met.Evict who.Other left.Last) = refl
tail_told (met.Evict who.Other left.More) = refl
tail_told (met.Evict who.Sharer left.Last) = refl
tail_told (met.Evict who.Sharer left.More) = refl
tail_told (met.Evict who.Owner left.Last) = refl
tail_told (met.Evict who.Owner left.More) = refl
tail_told met.EvictNone = refl
tail_told (met.BusyAsk class) = refl
tail_told met.BusyEvict = refl
tail_told met.Wb = refl

same_by_parts : (d : Draft) → IsWellFormed d → IsShaped d → (i j : DirInput) → Asks i → Asks j → head d i ≡ head d j → bare i ≡ bare j → i ≡ j
unfolding head bare
same_by_parts d w shaped (met.Ask a p) (met.Ask b q) asked other h t =
    let class : a ≡ b = same_request_name d w shaped a b asked other h in
    cc (class, t)
same_by_parts d w shaped (met.Evict p l) (met.Evict q k) asked other h t = cc t
same_by_parts d w shaped met.EvictNone met.EvictNone asked other h t = refl
same_by_parts d w shaped (met.BusyAsk a) (met.BusyAsk b) asked other h t = ap (λ (c : ReqClass). met.BusyAsk c) (same_request_name d w shaped a b asked other h)
same_by_parts d w shaped (met.BusyAsk a) met.BusyEvict asked other h t = absurd (request_not_taken d w shaped a asked 6 (codes "evict") refl h)
same_by_parts d w shaped (met.BusyAsk a) met.Wb asked other h t = absurd (request_not_taken d w shaped a asked 3 (codes "WbData") refl h)
same_by_parts d w shaped met.BusyEvict (met.BusyAsk b) asked other h t = absurd (request_not_taken d w shaped b other 6 (codes "evict") refl (sym h))
same_by_parts d w shaped met.BusyEvict met.BusyEvict asked other h t = refl
same_by_parts d w shaped met.BusyEvict met.Wb asked other h t = absurd (other_text (codes "evict") (codes "WbData") refl h)
same_by_parts d w shaped met.Wb (met.BusyAsk b) asked other h t = absurd (request_not_taken d w shaped b other 3 (codes "WbData") refl (sym h))
same_by_parts d w shaped met.Wb met.BusyEvict asked other h t = absurd (other_text (codes "WbData") (codes "evict") refl h)
same_by_parts d w shaped met.Wb met.Wb asked other h t = refl
same_by_parts d w shaped _ _ asked other h t = absurd cc

-- Inputs of the directory

listed_asks : (i : DirInput) → has_dir_input dir_inputs i ≡ true → Asks i
listed_asks (met.Ask Read who) h = tt
listed_asks (met.Ask Write who) h = tt
listed_asks (met.Ask Clean who) h = absurd cc
listed_asks (met.Ask Dirty who) h = absurd cc
listed_asks (met.Evict who left) h = tt
listed_asks met.EvictNone h = tt
listed_asks (met.BusyAsk Read) h = tt
listed_asks (met.BusyAsk Write) h = tt
listed_asks (met.BusyAsk Clean) h = absurd cc
listed_asks (met.BusyAsk Dirty) h = absurd cc
listed_asks met.BusyEvict h = tt
listed_asks met.Wb h = tt

pub dir_inputs_apart : (d : Draft) (i j : DirInput) → IsWellFormed d → IsShaped d → has_dir_input dir_inputs i ≡ true → has_dir_input dir_inputs j ≡ true
    → dir_input_word d i ≡ dir_input_word d j → i ≡ j
dir_inputs_apart d i j w shaped a b e =
    let parts = same_parts (head d i) (head d j) (tail i) (tail j) (head_lacks d w shaped i (listed_asks i a)) (head_lacks d w shaped j (listed_asks j b)) (is_tail i) (is_tail j)
    (sym (in_parts d i) ∙ e ∙ in_parts d j) in
    same_by_parts d w shaped i j (listed_asks i a) (listed_asks j b) parts.0 (sym (tail_told i) ∙ ap told parts.1 ∙ tail_told j)
