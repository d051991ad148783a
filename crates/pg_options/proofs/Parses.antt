-- `clap` takes the words of options that are right, and finds their values.
use Rattle.std.proofs.Common.{◌≡◌, inl, inr, Bool, true, false, not, ◌&&◌, ◌||◌, List, [], ◌∷◌, ◌++◌, map, drop, Option, Some, None, option_map, find, codes, if◌then◌else◌, refl, sym, ap, ap₂, subst, ◌∙◌, append_assoc}
use Rattle.std.specs.Prelude.{fold, slice_get, is_some}
use Rattle.std.proofs.lemmas.List.{append-nil}
use Rattle.std.specs.Str.{bytes_eq}
use Rattle.std.specs.List.{list_any, list_all}
use Rattle.std.specs.Option.{option_map_or, option_and_then}
use Rattle.clap.specs.Walk.{Held, Row, Walk, Text, has_row, first_of, walked, with_default, finished, rows_after, nothing_held, more_values, default_rows}
use Rattle.clap.specs.Simple.{App, built, is_simple, matches_of, argument_words, names_of, entered, HasMatchesOf}
use Rattle.clap.specs.Matches.{found_of, first_value}
use Rattle.clap.specs.declared.parser.matches.ArgMatches.{ArgMatches}
use Rattle.clap.specs.declared.parser.matches.ValueSource.TheVariants.{DefaultValue}
use Rattle.clap.specs.declared.builder.value_parser.Reading.TheVariants.{AsWritten}
use Rattle.clap.proofs.WalkLemmas.{first_value-rows}
use Rattle.clap.specs.Takes.{takes, built_takes, turn_passes, walk_passes, settle_passes, default_passes, is_valid, entered_passes}
use Rattle.pg_options.specs.declared.names.CommandName.{CommandName}
use Rattle.pg_options.specs.declared.names.CommandName.TheVariants as c
use Rattle.pg_options.specs.declared.names.OptionName.{OptionName}
use Rattle.pg_options.specs.Names.{option_word, long_name, same_option, default_of, options_of, has_option}
use Rattle.pg_options.specs.Options.{Given, allows, is_given, is_right, are_right, value_of}
use Rattle.pg_options.specs.Parsers.{parser_of, AreRight}
use Rattle.pg_options.specs.Rule.{Spell}
use Rattle.pg_options.proofs.Plain.{plain_value}
use Rattle.pg_options.proofs.Spells.{spelled}
use Rattle.pg_options.proofs.Walks.{built_rule, rules_of, shape_of, row, at_last, name_same, has_given, same_swapped, options_same, at, IsPlain, IsRead, after_one, after_two, one_walked, one_passes, one_read, name_walked, name_passes, value_walked, value_passes_too, two_read}

and_parts : (a b : Bool) → (a && b) ≡ true → (a ≡ true) × (b ≡ true)
and_parts true b e = (refl, e)
and_parts false b e = cc

and_of : (a b : Bool) → a ≡ true → b ≡ true → (a && b) ≡ true
and_of a b x y = ap₂ (λ (s t : Bool). s && t) x y

or_parts : (a b : Bool) → (a || b) ≡ false → (a ≡ false) × (b ≡ false)
or_parts true b e = cc
or_parts false b e = (refl, e)

not_true : (b : Bool) → not b ≡ true → b ≡ false
not_true true e = cc
not_true false e = refl

-- ---- options that were not given yet

abbrev IsFresh : List Given → List Given → Type 0
IsFresh fs [] = Unit {0}
IsFresh fs (g ∷ gs) = (is_given g.option fs ≡ false) × IsFresh fs gs

given_more : (p : OptionName) (g : Given) (fs : List Given) → is_given p fs ≡ false → same_option g.option p ≡ false → is_given p (fs ++ g ∷ []) ≡ false
given_more p g [] old other = ap (λ (b : Bool). b || false) other
given_more p g (f ∷ fs) old other =
    let (here, behind) = or_parts (same_option f.option p) (is_given p fs) old in
    ap₂ (λ (a b : Bool). a || b) here (given_more p g fs behind other)

fresh_more : (g : Given) (fs gs : List Given) → IsFresh fs gs → is_given g.option gs ≡ false → IsFresh (fs ++ g ∷ []) gs
fresh_more g fs [] fresh once = tt
fresh_more g fs (h ∷ gs) fresh once =
    let (here, behind) = or_parts (same_option h.option g.option) (is_given g.option gs) once in
    (given_more h.option g fs fresh.0 (same_swapped g.option h.option ∙ here), fresh_more g fs gs fresh.1 behind)

fresh_first : (gs : List Given) → IsFresh [] gs
fresh_first [] = tt
fresh_first (g ∷ gs) = (refl, fresh_first gs)

-- ---- the walk over all words

pub record IsWalked (command : CommandName) (fs : List Given) (h : Held) (words : List Text) : Type 0 where
  pub held : Held
  pub walked_to : fold (walked (rules_of command) []) (at h) words ≡ at held
  pub passes : walk_passes (shape_of command) [] (at h) words ≡ true
  pub read : IsRead command fs held

module _ (command : CommandName) (fs all : List Given) (g : Given) (h : Held) (has : has_option command g.option ≡ true) (fresh : is_given g.option fs ≡ false)
    (read : IsRead command fs h) where
  in_one : (rest : List Text) → IsWalked command all (after_one command fs g h has fresh read) rest
      → IsWalked command all h ((option_word g.option ++ codes "=" ++ g.value) ∷ rest)
  unfolding walk_passes
  in_one rest w = record {
    held = w.held;
    walked_to = ap (λ (x : Walk). fold (walked (rules_of command) []) x rest) (one_walked command fs g h has fresh read) ∙ w.walked_to;
    passes = ap₂ (λ (b : Bool) (x : Walk). b && walk_passes (shape_of command) [] x rest) (one_passes command fs g h has fresh read) (one_walked command fs g h has fresh read) ∙ w.passes;
    read = w.read;
  }

  in_two : (rest : List Text) → IsPlain g.value → IsWalked command all (after_two command fs g h has fresh read) rest
      → IsWalked command all h (option_word g.option ∷ g.value ∷ rest)
  unfolding walk_passes
  in_two rest plain w = record {
    held = w.held;
    walked_to = ap (λ (x : Walk). fold (walked (rules_of command) []) (walked (rules_of command) [] x g.value) rest) (name_walked command fs g h has fresh read)
        ∙ ap (λ (x : Walk). fold (walked (rules_of command) []) x rest) (value_walked command fs g h has fresh read plain) ∙ w.walked_to;
    passes = ap₂ (λ (b : Bool) (x : Walk). b && (turn_passes (shape_of command) [] x g.value && walk_passes (shape_of command) [] (walked (rules_of command) [] x g.value) rest))
        (name_passes command fs g h has fresh read) (name_walked command fs g h has fresh read)
        ∙ ap₂ (λ (b : Bool) (x : Walk). b && walk_passes (shape_of command) [] x rest) (value_passes_too command fs g h has fresh read plain) (value_walked command fs g h has fresh read plain) ∙ w.passes;
    read = w.read;
  }

pub walked_all : (command : CommandName) (gs : List Given) (words : List Text) (fs all : List Given) (h : Held) → Spell gs words → are_right command gs ≡ true → IsFresh fs gs
    → fs ++ gs ≡ all → IsRead command fs h → IsWalked command all h words
unfolding walk_passes
walked_all command [] words fs all h spell right fresh is read =
    subst (IsWalked command all h) (sym spell) (record {
      held = h;
      walked_to = refl;
      passes = refl;
      read = subst (λ xs. IsRead command xs h) (sym (append-nil fs) ∙ is) read;
    })
walked_all command (g ∷ gs) words fs all h (rest, gives, spell) right fresh is read =
    let (first, behind) = and_parts (is_right command g gs) (are_right command gs) right in
    let (may, once) = and_parts (has_option command g.option && allows g.option g.value) (not (is_given g.option gs)) first in
    let (has, value) = and_parts (has_option command g.option) (allows g.option g.value) may in
    let more = fresh_more g fs gs fresh.1 (not_true (is_given g.option gs) once) in
    let joined = append_assoc fs (g ∷ []) gs ∙ is in
    elim gives [
      | inl two ↦ subst (IsWalked command all h) (sym two) (in_two command fs all g h has fresh.0 read rest (plain_value g.option g.value value)
          (walked_all command gs rest (fs ++ g ∷ []) all (after_two command fs g h has fresh.0 read) spell behind more joined (two_read command fs g h has fresh.0 read)))
      | inr one ↦ subst (IsWalked command all h) (sym one) (in_one command fs all g h has fresh.0 read rest
          (walked_all command gs rest (fs ++ g ∷ []) all (after_one command fs g h has fresh.0 read) spell behind more joined (one_read command fs g h has fresh.0 read)))
    ]

-- ---- the parser that is built, and what it takes

abbrev built_app : CommandName → App
built_app command = record { top = shape_of command; subs = [] }

is_built : (command : CommandName) → built (parser_of command) ≡ built_app command
is_built c.Check = refl
is_built c.Atomic = refl
is_built c.Compile = refl
is_built c.Run = refl
is_built c.Drill = refl

simple : (command : CommandName) → is_simple (parser_of command) ≡ true
simple c.Check = refl
simple c.Atomic = refl
simple c.Compile = refl
simple c.Run = refl
simple c.Drill = refl

named : (command : CommandName) (words : List Text) → argument_words (parser_of command) words ≡ drop 1 words
named c.Check words = refl
named c.Atomic words = refl
named c.Compile words = refl
named c.Run words = refl
named c.Drill words = refl

defaults_pass : (command : CommandName) → list_all default_passes (rules_of command) ≡ true
defaults_pass c.Check = refl
defaults_pass c.Atomic = refl
defaults_pass c.Compile = refl
defaults_pass c.Run = refl
defaults_pass c.Drill = refl

valid : (command : CommandName) (rows : List Row) → is_valid (shape_of command) rows false ≡ true
valid c.Check rows = refl
valid c.Atomic rows = refl
valid c.Compile rows = refl
valid c.Run rows = refl
valid c.Drill rows = refl

whole_walk : (command : CommandName) (words : List Text) (gs : List Given) → AreRight command words gs → IsWalked command gs nothing_held (drop 1 words)
whole_walk command words gs right = walked_all command gs (drop 1 words) [] gs nothing_held (spelled gs (drop 1 words) right.0) right.1 (fresh_first gs) refl (record { rows = refl; passes = refl })

-- a level passes whose walk ends between words
level_at : (command : CommandName) (words : List Text) (end : Walk) (held : Held) → end ≡ at held → walk_passes (shape_of command) [] (at nothing_held) words ≡ true
    → settle_passes (rules_of command) false held ≡ true
    → (entered_passes (built_app command) end.stopped && (walk_passes (shape_of command) [] (at nothing_held) words && (settle_passes (rules_of command) false end.held
    && (list_all default_passes (rules_of command) && is_valid (shape_of command) (finished (rules_of command) end.held) (is_some (entered (built_app command) end.stopped)))))) ≡ true
level_at command words end held is passes settles =
    ap (λ (w : Walk). entered_passes (built_app command) w.stopped && (walk_passes (shape_of command) [] (at nothing_held) words && (settle_passes (rules_of command) false w.held
    && (list_all default_passes (rules_of command) && is_valid (shape_of command) (finished (rules_of command) w.held) (is_some (entered (built_app command) w.stopped)))))) is
    ∙ and_of _ _ passes (and_of _ _ settles (and_of _ _ (defaults_pass command) (valid command _)))

-- `clap` refuses no words that are right
pub takes_right : (command : CommandName) (words : List Text) (gs : List Given) → AreRight command words gs → takes (parser_of command) words ≡ true
takes_right command words gs right =
    let w = whole_walk command words gs right in
    ap₂ (λ (b : Bool) (p : App × List Text). b && built_takes p.0 nothing_held p.1) (simple command) (λ i. (is_built command i, named command words i))
    ∙ level_at command (drop 1 words) (fold (walked (rules_of command) []) (at nothing_held) (drop 1 words)) w.held w.walked_to w.passes w.read.passes

-- ---- the values that are found

first_at : (id : Text) (rows : List Row) (r : Row) → has_row id rows ≡ false → bytes_eq r.id id ≡ true → first_of id (rows ++ r ∷ []) ≡ slice_get r.values 0
first_at id [] r new same = ap (λ (b : Bool). option_and_then (λ x. slice_get x.values 0) (if b then Some r else None)) same
first_at id (x ∷ rows) r new same =
    let (here, behind) = or_parts (bytes_eq x.id id) (has_row id rows) new in
    ap (λ (b : Bool). option_and_then (λ x. slice_get x.values 0) (if b then Some x else find (λ r. bytes_eq r.id id) (rows ++ r ∷ []))) here ∙ first_at id rows r behind same

first_before : (id : Text) (rows : List Row) (r : Row) → bytes_eq r.id id ≡ false → first_of id (rows ++ r ∷ []) ≡ first_of id rows
first_before id [] r other = ap (λ (b : Bool). option_and_then (λ x. slice_get x.values 0) (if b then Some r else None)) other
first_before id (x ∷ rows) r other = at_first (bytes_eq x.id id) (first_before id rows r other)
  where
    at_first : (b : Bool) → first_of id (rows ++ r ∷ []) ≡ first_of id rows
        → option_and_then (λ x. slice_get x.values 0) (if b then Some x else find (λ r. bytes_eq r.id id) (rows ++ r ∷ []))
        ≡ option_and_then (λ x. slice_get x.values 0) (if b then Some x else find (λ r. bytes_eq r.id id) rows)
    at_first true ih = refl
    at_first false ih = ih

first_kept : (id : Text) (rows : List Row) (r : Row) (v : Text) → first_of id rows ≡ Some v → first_of id (rows ++ r ∷ []) ≡ Some v
first_kept id [] r v e = cc
first_kept id (x ∷ rows) r v e = at_first (bytes_eq x.id id) (first_kept id rows r v) e
  where
    at_first : (b : Bool) → (first_of id rows ≡ Some v → first_of id (rows ++ r ∷ []) ≡ Some v)
        → option_and_then (λ x. slice_get x.values 0) (if b then Some x else find (λ r. bytes_eq r.id id) rows) ≡ Some v
        → option_and_then (λ x. slice_get x.values 0) (if b then Some x else find (λ r. bytes_eq r.id id) (rows ++ r ∷ [])) ≡ Some v
    at_first true ih e = e
    at_first false ih e = ih e

none_first : (id : Text) (rows : List Row) → has_row id rows ≡ false → first_of id rows ≡ None
none_first id [] new = refl
none_first id (x ∷ rows) new =
    let (here, behind) = or_parts (bytes_eq x.id id) (has_row id rows) new in
    ap (λ (b : Bool). option_and_then (λ x. slice_get x.values 0) (if b then Some x else find (λ r. bytes_eq r.id id) rows)) here ∙ none_first id rows behind

-- the row of an option that isn't given
abbrev default_row : OptionName → Row
default_row p = record { id = long_name p; values = default_of p ∷ []; count = None; source = Some DefaultValue; reading = AsWritten }

with_default_is : (p : OptionName) (rows : List Row) (b : Bool) → has_row (long_name p) rows ≡ b → with_default rows (built_rule p) ≡ (if b then rows else rows ++ default_row p ∷ [])
with_default_is p rows true has = ap (λ (b : Bool). if b then rows else default_rows (long_name p) AsWritten (default_of p ∷ []) rows) has
with_default_is p rows false has =
    let more : Row → List Row = more_values DefaultValue (default_of p ∷ []) in
    ap (λ (b : Bool). if b then rows else default_rows (long_name p) AsWritten (default_of p ∷ []) rows) has ∙ at_last (long_name p) more (default_row p ∷ []) rows has

kept_by : (id : Text) (p : OptionName) (rows : List Row) (v : Text) → first_of id rows ≡ Some v → first_of id (with_default rows (built_rule p)) ≡ Some v
kept_by id p rows v e = at_row_test (has_row (long_name p) rows) refl
  where
    at_row_test : (b : Bool) → has_row (long_name p) rows ≡ b → first_of id (with_default rows (built_rule p)) ≡ Some v
    at_row_test true has = ap (first_of id) (with_default_is p rows true has) ∙ e
    at_row_test false has = ap (first_of id) (with_default_is p rows false has) ∙ first_kept id rows (default_row p) v e

kept_all : (id : Text) (ps : List OptionName) (rows : List Row) (v : Text) → first_of id rows ≡ Some v → first_of id (fold with_default rows (map built_rule ps)) ≡ Some v
kept_all id [] rows v e = e
kept_all id (p ∷ ps) rows v e = kept_all id ps (with_default rows (built_rule p)) v (kept_by id p rows v e)

has_other : (p q : OptionName) (rows : List Row) → has_row (long_name q) rows ≡ false → same_option p q ≡ false → has_row (long_name q) (with_default rows (built_rule p)) ≡ false
has_other p q rows new other = at_row_test (has_row (long_name p) rows) refl
  where
    more : (rows : List Row) → has_row (long_name q) rows ≡ false → has_row (long_name q) (rows ++ default_row p ∷ []) ≡ false
    more [] new = ap (λ (b : Bool). b || false) (name_same p q ∙ other)
    more (r ∷ rs) new =
        let (here, behind) = or_parts (bytes_eq r.id (long_name q)) (has_row (long_name q) rs) new in
        ap₂ (λ (a b : Bool). a || b) here (more rs behind)

    at_row_test : (b : Bool) → has_row (long_name p) rows ≡ b → has_row (long_name q) (with_default rows (built_rule p)) ≡ false
    at_row_test true has = ap (has_row (long_name q)) (with_default_is p rows true has) ∙ new
    at_row_test false has = ap (has_row (long_name q)) (with_default_is p rows false has) ∙ more rows new

-- an option of the parser that has no row gets its default
default_found : (q : OptionName) (ps : List OptionName) (rows : List Row) → list_any (λ own. same_option own q) ps ≡ true → has_row (long_name q) rows ≡ false
    → first_of (long_name q) (fold with_default rows (map built_rule ps)) ≡ Some (default_of q)
default_found q [] rows own new = cc
default_found q (p ∷ ps) rows own new = at_first (same_option p q) refl (default_found q ps (with_default rows (built_rule p))) own
  where
    at_first : (b : Bool) → same_option p q ≡ b
        → (list_any (λ own. same_option own q) ps ≡ true → has_row (long_name q) (with_default rows (built_rule p)) ≡ false
        → first_of (long_name q) (fold with_default (with_default rows (built_rule p)) (map built_rule ps)) ≡ Some (default_of q))
        → (b || list_any (λ own. same_option own q) ps) ≡ true
        → first_of (long_name q) (fold with_default (with_default rows (built_rule p)) (map built_rule ps)) ≡ Some (default_of q)
    at_first true same ih own =
        let is : p ≡ q = options_same p q same in
        let fresh : has_row (long_name p) rows ≡ false = ap (λ (x : OptionName). has_row (long_name x) rows) is ∙ new in
        kept_all (long_name q) ps (with_default rows (built_rule p)) (default_of q)
        (ap (first_of (long_name q)) (with_default_is p rows false fresh) ∙ first_at (long_name q) rows (default_row p) new (name_same p q ∙ same) ∙ ap (λ (x : OptionName). Some (default_of x)) is)
    at_first false other ih own = ih own (has_other p q rows new other)

-- the first value of an option among rows of options
first_given_row : (q : OptionName) (gs : List Given) → first_of (long_name q) (map row gs) ≡ option_map (λ g. g.value) (find (λ g. same_option g.option q) gs)
first_given_row q [] = refl
first_given_row q (g ∷ gs) = at_first (same_option g.option q) (bytes_eq (long_name g.option) (long_name q)) (name_same g.option q) (first_given_row q gs)
  where
    at_first : (a b : Bool) → b ≡ a → first_of (long_name q) (map row gs) ≡ option_map (λ g. g.value) (find (λ g. same_option g.option q) gs)
        → option_and_then (λ x. slice_get x.values 0) (if b then Some (row g) else find (λ r. bytes_eq r.id (long_name q)) (map row gs))
        ≡ option_map (λ g. g.value) (if a then Some g else find (λ g. same_option g.option q) gs)
    at_first true b same ih = ap (λ (t : Bool). option_and_then (λ x. slice_get x.values 0) (if t then Some (row g) else find (λ r. bytes_eq r.id (long_name q)) (map row gs))) same
    at_first false b same ih = ap (λ (t : Bool). option_and_then (λ x. slice_get x.values 0) (if t then Some (row g) else find (λ r. bytes_eq r.id (long_name q)) (map row gs))) same ∙ ih

found_or_not : (q : OptionName) (gs : List Given) (o : Option Given) → find (λ g. same_option g.option q) gs ≡ o → is_given q gs ≡ is_some o
found_or_not q [] o e = ap is_some e
found_or_not q (g ∷ gs) o e = at_first (same_option g.option q) (found_or_not q gs) e
  where
    at_first : (b : Bool) → ((o : Option Given) → find (λ g. same_option g.option q) gs ≡ o → is_given q gs ≡ is_some o)
        → (if b then Some g else find (λ g. same_option g.option q) gs) ≡ o → (b || is_given q gs) ≡ is_some o
    at_first true ih e = ap is_some e
    at_first false ih e = ih o e

value_found : (command : CommandName) (q : OptionName) (gs : List Given) → has_option command q ≡ true
    → first_of (long_name q) (fold with_default (map row gs) (rules_of command)) ≡ Some (value_of q gs)
value_found command q gs own = at_find (find (λ g. same_option g.option q) gs) refl
  where
    at_find : (f : Option Given) → find (λ g. same_option g.option q) gs ≡ f → first_of (long_name q) (fold with_default (map row gs) (rules_of command)) ≡ Some (value_of q gs)
    at_find None e =
        default_found q (options_of command) (map row gs) own (has_given q gs ∙ found_or_not q gs None e)
        ∙ ap (λ (f : Option Given). Some (option_map_or (λ g. g.value) f (default_of q))) (sym e)
    at_find (Some g) e =
        kept_all (long_name q) (options_of command) (map row gs) g.value (first_given_row q gs ∙ ap (option_map (λ g. g.value)) e)
        ∙ ap (λ (f : Option Given). Some (option_map_or (λ g. g.value) f (default_of q))) (sym e)

matches_are : (command : CommandName) (words : List Text) (gs : List Given) → AreRight command words gs → matches_of (parser_of command) words ≡ fold with_default (map row gs) (rules_of command)
matches_are command words gs right =
    let w = whole_walk command words gs right in
    ap₂ (λ (a : App) (ws : List Text). rows_after a.top.rules (names_of a) ws) (is_built command) (named command words)
    ∙ ap (λ (e : Walk). finished (rules_of command) e.held) w.walked_to
    ∙ ap (λ (rows : List Row). fold with_default rows (rules_of command)) w.read.rows

-- `clap` finds the values of the options
pub finds_values : (command : CommandName) (words : List Text) (gs : List Given) (m : ArgMatches) (q : OptionName) → AreRight command words gs → HasMatchesOf (parser_of command) words m
    → has_option command q ≡ true → first_value (found_of m) (long_name q) ≡ Some (value_of q gs)
finds_values command words gs m q right matches own =
    first_value-rows (found_of m) (long_name q) ∙ ap (first_of (long_name q)) ((matches (simple command)).0 ∙ matches_are command words gs right) ∙ value_found command q gs own
