-- Options read one after another.
use Rattle.std.proofs.Common.{◌≡◌, ◌<◌, ℕ, Bool, true, false, ◌&&◌, ◌||◌, ◌==◌, ◌⊎◌, inl, inr, List, [], ◌∷◌, length, Option, Some, None, option_map, refl, sym, ap, ◌∙◌, arith}
use Rattle.std.specs.Option.{option_and_then, option_map_or}
use Rattle.pg_options.specs.declared.names.CommandName.{CommandName}
use Rattle.pg_options.specs.declared.names.OptionName.{OptionName}
use Rattle.pg_options.specs.Names.{same_option}
use Rattle.pg_options.specs.Options.{Given, cut, given, with_first, given_in, first_by_cut, first_given, is_given, is_right, are_right, are_options}

abbrev pub First : Type 0
First = Option (Given × List (List ℕ))

-- the options of words that begin with this one
abbrev pub given_by : First → Option (List Given)
given_by None = None
given_by (Some (g, rest)) = with_first (Some g) (given_in rest)

by_name : (g : Option Given) (rest : List (List ℕ)) → with_first g (given_in rest) ≡ given_by (option_map (λ g. (g, rest)) g)
by_name None rest = refl
by_name (Some g) rest = refl

by_cut_one : (p : Option (List ℕ × List ℕ)) (word : List ℕ) → option_and_then (λ p. with_first (given p.0 p.1) (Some [])) p ≡ given_by (first_by_cut p word [])
by_cut_one None word = refl
by_cut_one (Some (name, value)) word = by_name (given name value) []

by_cut : (p : Option (List ℕ × List ℕ)) (word value : List ℕ) (rest : List (List ℕ))
    → option_map_or (λ p. with_first (given p.0 p.1) (given_in (value ∷ rest))) p (with_first (given word value) (given_in rest)) ≡ given_by (first_by_cut p word (value ∷ rest))
by_cut None word value rest = by_name (given word value) rest
by_cut (Some (name, v)) word value rest = by_name (given name v) (value ∷ rest)

pub first_is : (word : List ℕ) (rest : List (List ℕ)) → given_in (word ∷ rest) ≡ given_by (first_given (word ∷ rest))
first_is word [] = by_cut_one (cut word) word
first_is word (value ∷ rest) = by_cut (cut word) word value rest

-- there are no more options, and the words have all been read or are none
pub last : (words : List (List ℕ)) → None ≡ first_given words → (words ≡ []) ⊎ (given_in words ≡ None)
last [] e = inl refl
last (word ∷ rest) e = inr (first_is word rest ∙ ap given_by (sym e))

-- an option and those after it
pub next : (words : List (List ℕ)) (g : Given) (rest : List (List ℕ)) → Some (g, rest) ≡ first_given words → given_in words ≡ with_first (Some g) (given_in rest)
next [] g rest e = cc
next (word ∷ ws) g rest e = first_is word ws ∙ ap given_by (sym e)

-- ---- whether an option is given

some_eq : {X : Type 0} (x y : X) → Some x ≡ Some y → x ≡ y
some_eq x y e = cc

-- where the words are options, so are those that are left, and the option is given by those if at all
abbrev pub Keeps : OptionName → Option (List Given) → Option (List Given) → Type 0
Keeps o all left = (gs : List Given) → all ≡ Some gs → (rs : List Given) × (left ≡ Some rs) × (is_given o rs ≡ is_given o gs)

passed : (o : OptionName) (g : Given) (left : Option (List Given)) (rs : List Given) (b : Bool) → with_first (Some g) left ≡ Some rs → same_option g.option o ≡ false → is_given o rs ≡ b
    → (ls : List Given) × (left ≡ Some ls) × (is_given o ls ≡ b)
passed o g None rs b e other is = cc
passed o g (Some ls) rs b e other is = (ls, refl, ap (λ (t : Bool). t || is_given o ls) (sym other) ∙ ap (is_given o) (some_eq (g ∷ ls) rs e) ∙ is)

pub keeps_next : (words : List (List ℕ)) (o : OptionName) (g : Given) (rest : List (List ℕ)) (all : Option (List Given)) → Some (g, rest) ≡ first_given words
    → same_option g.option o ≡ false → Keeps o all (given_in words) → Keeps o all (given_in rest)
keeps_next words o g rest all e other keeps = λ gs is. let (rs, left, same) = keeps gs is in passed o g (given_in rest) rs (is_given o gs) (sym (next words g rest e) ∙ left) other same

met : (o : OptionName) (g : Given) (left : Option (List Given)) (rs : List Given) → with_first (Some g) left ≡ Some rs → same_option g.option o ≡ true → true ≡ is_given o rs
met o g None rs e same = cc
met o g (Some ls) rs e same = ap (λ (t : Bool). t || is_given o ls) (sym same) ∙ ap (is_given o) (some_eq (g ∷ ls) rs e)

pub keeps_met : (words : List (List ℕ)) (o : OptionName) (g : Given) (rest : List (List ℕ)) (all : Option (List Given)) → Some (g, rest) ≡ first_given words
    → same_option g.option o ≡ true → Keeps o all (given_in words) → (gs : List Given) → all ≡ Some gs → true ≡ is_given o gs
keeps_met words o g rest all e same keeps gs is =
    let (rs, left, kept) = keeps gs is in met o g (given_in rest) rs (sym (next words g rest e) ∙ left) same ∙ kept

pub keeps_last : (words : List (List ℕ)) (o : OptionName) (all : Option (List Given)) → None ≡ first_given words → Keeps o all (given_in words)
    → (gs : List Given) → all ≡ Some gs → false ≡ is_given o gs
keeps_last words o all e keeps gs is = let (rs, left, kept) = keeps gs is in elim (last words e) [
  | inl none ↦ ap (is_given o) (some_eq [] rs (sym (ap given_in none) ∙ left)) ∙ kept
  | inr wrong ↦ let bad : None ≡ Some rs = sym wrong ∙ left in absurd cc
]

-- ---- whether they are right

right_at : (command : CommandName) (g : Given) (left : Option (List Given)) → ((gs : List Given) → left ≡ Some gs → true ≡ is_right command g gs)
    → are_options command left ≡ are_options command (with_first (Some g) left)
right_at command g None right = refl
right_at command g (Some gs) right = ap (λ (t : Bool). t && are_right command gs) (right gs refl)

pub right_next : (words : List (List ℕ)) (command : CommandName) (g : Given) (rest : List (List ℕ)) (all : Bool) → Some (g, rest) ≡ first_given words
    → ((gs : List Given) → given_in rest ≡ Some gs → true ≡ is_right command g gs)
    → are_options command (given_in words) ≡ all → are_options command (given_in rest) ≡ all
right_next words command g rest all e right so_far = right_at command g (given_in rest) right ∙ ap (are_options command) (sym (next words g rest e)) ∙ so_far

wrong_at : (command : CommandName) (g : Given) (left : Option (List Given)) → ((gs : List Given) → left ≡ Some gs → false ≡ is_right command g gs)
    → false ≡ are_options command (with_first (Some g) left)
wrong_at command g None wrong = refl
wrong_at command g (Some gs) wrong = ap (λ (t : Bool). t && are_right command gs) (wrong gs refl)

pub wrong_first : (words : List (List ℕ)) (command : CommandName) (g : Given) (rest : List (List ℕ)) (all : Bool) → Some (g, rest) ≡ first_given words
    → ((gs : List Given) → given_in rest ≡ Some gs → false ≡ is_right command g gs)
    → are_options command (given_in words) ≡ all → false ≡ all
wrong_first words command g rest all e wrong so_far = wrong_at command g (given_in rest) wrong ∙ ap (are_options command) (sym (next words g rest e)) ∙ so_far

not_zero : (n : ℕ) → 0 < n → false ≡ (n == 0)
not_zero n some = grind (arith, some)

empty_test : (words : List (List ℕ)) (command : CommandName) (all b : Bool) (n : ℕ) → (words ≡ []) ⊎ (given_in words ≡ None) → length words ≡ n → b ≡ (n == 0)
    → are_options command (given_in words) ≡ all → b ≡ all
empty_test [] command all b n h long is so_far = is ∙ ap (λ (k : ℕ). k == 0) (sym long) ∙ so_far
empty_test (w ∷ ws) command all b n (inl none) long is so_far = cc
empty_test (w ∷ ws) command all b n (inr wrong) long is so_far = is ∙ sym (not_zero n (omega (arith, long))) ∙ sym (ap (are_options command) wrong) ∙ so_far

pub right_last : (words : List (List ℕ)) (command : CommandName) (all b : Bool) (n : ℕ) → None ≡ first_given words → length words ≡ n → b ≡ (n == 0)
    → are_options command (given_in words) ≡ all → b ≡ all
right_last words command all b n e long is so_far = empty_test words command all b n (last words e) long is so_far
