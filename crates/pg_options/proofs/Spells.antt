-- Options that were read spell their words.
use Rattle.std.proofs.Common.{◌≡◌, inl, inr, ℕ, Bool, true, false, ◌==◌, List, [], ◌∷◌, ◌++◌, Option, Some, None, option_map, codes, if◌then◌else◌, refl, sym, ap, ap₂, subst, ◌∙◌, arith}
use Rattle.std.specs.Option.{option_and_then}
use Rattle.std.specs.Str.{bytes_eq}
use Rattle.pg_perm.specs.Vocabularies.{find_word}
use Rattle.pg_options.specs.declared.names.OptionName.{OptionName}
use Rattle.pg_options.specs.declared.names.OptionName.TheVariants as option
use Rattle.pg_options.specs.Names.{option_names, option_word}
use Rattle.pg_options.specs.Options.{Given, cut, option_of, with_first, given_in, first_in_two, first_by_cut, first_given, command_name, command_if_right, command_of}
use Rattle.std.proofs.lemmas.Slice.Eq.{bytes_eq-Decides}
use Rattle.pg_options.specs.Rule.{Gives, Spell}
use Rattle.pg_options.proofs.Firsts.{First, given_by, first_is, next}

some_eq : {X : Type 0} (x y : X) → Some x ≡ Some y → x ≡ y
some_eq x y e = cc

-- an option's word is the word that names it
named_among : (os : List OptionName) (w : List ℕ) (p : OptionName) → find_word option_word os w ≡ Some p → w ≡ option_word p
named_among [] w p e = cc
named_among (x ∷ xs) w p e = at_first (named_among xs w p) (bytes_eq w (option_word x)) refl e
  where
    at_first : (find_word option_word xs w ≡ Some p → w ≡ option_word p) → (b : Bool) → bytes_eq w (option_word x) ≡ b
        → (if b then Some x else find_word option_word xs w) ≡ Some p → w ≡ option_word p
    at_first ih true same e = (bytes_eq-Decides w (option_word x)).0 same ∙ ap option_word (some_eq x p e)
    at_first ih false same e = ih e

cut_joins : (w : List ℕ) (p : List ℕ × List ℕ) → cut w ≡ Some p → w ≡ p.0 ++ codes "=" ++ p.1
cut_joins [] p e = cc
cut_joins (b ∷ bs) p e = at_first (cut_joins bs) (b == 61) refl (cut bs) refl e
  where
    at_first : ((r : List ℕ × List ℕ) → cut bs ≡ Some r → bs ≡ r.0 ++ codes "=" ++ r.1) → (t : Bool) → (b == 61) ≡ t → (q : Option (List ℕ × List ℕ)) → cut bs ≡ q
        → (if t then Some ([], bs) else option_map (λ r. (b ∷ r.0, r.1)) q) ≡ Some p → b ∷ bs ≡ p.0 ++ codes "=" ++ p.1
    at_first ih true same q is e =
        let is_b : b ≡ 61 = grind (arith, same) in
        ap (λ (n : ℕ). n ∷ bs) is_b ∙ ap (λ (r : List ℕ × List ℕ). r.0 ++ codes "=" ++ r.1) (some_eq ([], bs) p e)
    at_first ih false same None is e = cc
    at_first ih false same (Some r) is e = ap (λ l. b ∷ l) (ih r is) ∙ ap (λ (r : List ℕ × List ℕ). r.0 ++ codes "=" ++ r.1) (some_eq (b ∷ r.0, r.1) p e)

-- what is read by a name
abbrev read_by : List (List ℕ) → Option Given → First
read_by rest f = option_map (λ g. (g, rest)) f

abbrev pair : Given → List (List ℕ) → Given × List (List ℕ)
pair g rest = (g, rest)

abbrev named : OptionName → List ℕ → Given
named q value = record { option = q; value = value }

by_name : (name value : List ℕ) (rest after : List (List ℕ)) (g : Given) (p : Option OptionName) → option_of name ≡ p
    → read_by rest (option_map (λ q. named q value) p) ≡ Some (g, after)
    → (name ≡ option_word g.option) × (value ≡ g.value) × (rest ≡ after)
by_name name value rest after g None is e = cc
by_name name value rest after g (Some q) is e =
    let same : pair (named q value) rest ≡ pair g after = some_eq _ _ e in (
      named_among option_names name q is ∙ ap (λ (x : Given × List (List ℕ)). option_word x.0.option) same,
      ap (λ (x : Given × List (List ℕ)). x.0.value) same,
      ap (λ (x : Given × List (List ℕ)). x.1) same,
    )

in_two : (w : List ℕ) (ws rest : List (List ℕ)) (g : Given) → first_in_two w ws ≡ Some (g, rest) → Gives g (w ∷ ws) rest
in_two w [] rest g e = cc
in_two w (v ∷ ws) rest g e =
    let (name, value, after) = by_name w v ws rest g (option_of w) refl e in
    inl (ap (λ (x : List ℕ). x ∷ v ∷ ws) name ∙ ap (λ (x : List ℕ). option_word g.option ∷ x ∷ ws) value ∙ ap (λ (x : List (List ℕ)). option_word g.option ∷ g.value ∷ x) after)

by_cut : (p : Option (List ℕ × List ℕ)) (w : List ℕ) (ws rest : List (List ℕ)) (g : Given) → cut w ≡ p → first_by_cut p w ws ≡ Some (g, rest) → Gives g (w ∷ ws) rest
by_cut None w ws rest g is e = in_two w ws rest g e
by_cut (Some (n, v)) w ws rest g is e =
    let (name, value, after) = by_name n v ws rest g (option_of n) refl e in
    let joined : w ≡ option_word g.option ++ codes "=" ++ g.value = cut_joins w (n, v) is ∙ ap₂ (λ (x y : List ℕ). x ++ codes "=" ++ y) name value in
    inr (ap₂ (λ (x : List ℕ) (xs : List (List ℕ)). x ∷ xs) joined after)

first_gives : (words rest : List (List ℕ)) (g : Given) → first_given words ≡ Some (g, rest) → Gives g words rest
first_gives [] rest g e = cc
first_gives (w ∷ ws) rest g e = by_cut (cut w) w ws rest g refl e

none_left : (f : First) → given_by f ≡ Some [] → ⊥
none_left None e = cc
none_left (Some (g, rest)) e = at_rest (given_in rest) e
  where
    at_rest : (left : Option (List Given)) → with_first (Some g) left ≡ Some [] → ⊥
    at_rest None e = cc
    at_rest (Some gs) e = cc

some_head : (f g : Given) (fs gs : List Given) → Some (f ∷ fs) ≡ Some (g ∷ gs) → f ≡ g
some_head f g fs gs e = cc

some_tail : (f g : Given) (fs gs : List Given) → Some (f ∷ fs) ≡ Some (g ∷ gs) → fs ≡ gs
some_tail f g fs gs e = cc

at_left : (f g : Given) (gs : List Given) (left : Option (List Given)) → with_first (Some f) left ≡ Some (g ∷ gs) → (f ≡ g) × (left ≡ Some gs)
at_left f g gs None e = cc
at_left f g gs (Some rs) e = (some_head f g rs gs e, ap Some (some_tail f g rs gs e))

at_first : (w : List ℕ) (ws : List (List ℕ)) (g : Given) (gs : List Given) → ((rest : List (List ℕ)) → given_in rest ≡ Some gs → Spell gs rest) → (f : First)
    → first_given (w ∷ ws) ≡ f → given_by f ≡ Some (g ∷ gs) → Spell (g ∷ gs) (w ∷ ws)
at_first w ws g gs ih None is e = cc
at_first w ws g gs ih (Some (f, rest)) is e =
    let (same, behind) = at_left f g gs (given_in rest) e in
    (rest, subst (λ (x : Given). Gives x (w ∷ ws) rest) same (first_gives (w ∷ ws) rest f is), ih rest behind)

pub spelled : (gs : List Given) (words : List (List ℕ)) → given_in words ≡ Some gs → Spell gs words
spelled [] [] e = refl
spelled [] (w ∷ ws) e = absurd (none_left (first_given (w ∷ ws)) (sym (first_is w ws) ∙ e))
spelled (g ∷ gs) [] e = cc
spelled (g ∷ gs) (w ∷ ws) e = at_first w ws g gs (spelled gs) (first_given (w ∷ ws)) refl (sym (first_is w ws) ∙ e)

-- and words that spell options are read as these

two_words : (o : OptionName) (value : List ℕ) (rest : List (List ℕ)) → first_given (option_word o ∷ value ∷ rest) ≡ Some (named o value, rest)
two_words option.Mode value rest = refl
two_words option.Seed value rest = refl
two_words option.Cores value rest = refl
two_words option.Blocks value rest = refl
two_words option.Ops value rest = refl

one_word : (o : OptionName) (value : List ℕ) (rest : List (List ℕ)) → first_given ((option_word o ++ codes "=" ++ value) ∷ rest) ≡ Some (named o value, rest)
one_word option.Mode value rest = refl
one_word option.Seed value rest = refl
one_word option.Cores value rest = refl
one_word option.Blocks value rest = refl
one_word option.Ops value rest = refl

first_spelled : (g : Given) (words rest : List (List ℕ)) → Gives g words rest → first_given words ≡ Some (g, rest)
first_spelled g words rest (inl is) = ap first_given is ∙ two_words g.option g.value rest
first_spelled g words rest (inr is) = ap first_given is ∙ one_word g.option g.value rest

pub read_as : (gs : List Given) (words : List (List ℕ)) → Spell gs words → given_in words ≡ Some gs
read_as [] words is = ap given_in is
read_as (g ∷ gs) words (rest, first, others) = next words g rest (sym (first_spelled g words rest first)) ∙ ap (with_first (Some g)) (read_as gs rest others)

pub read_alike : (name : List ℕ) (gs : List Given) (words others : List (List ℕ)) → Spell gs words → Spell gs others → command_of (name ∷ words) ≡ command_of (name ∷ others)
read_alike name gs words others a b =
    ap (λ (read : Option (List Given)). option_and_then (λ c. option_and_then (command_if_right c) read) (command_name name)) (read_as gs words a ∙ sym (read_as gs others b))
