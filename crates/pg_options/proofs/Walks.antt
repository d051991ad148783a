-- What `clap` makes of words that are options of a command.
use Rattle.std.proofs.Common.{◌≡◌, Bool, true, false, not, ◌&&◌, ◌||◌, List, [], ◌∷◌, ◌++◌, map, Option, Some, None, codes, if◌then◌else◌, refl, sym, ap, ap₂, ◌∙◌}
use Rattle.std.proofs.lemmas.List.{append-nil, map-append}
use Rattle.std.specs.Str.{bytes_eq}
use Rattle.std.specs.Option.{option_map_or}
use Rattle.std.specs.Prelude.{nat_lt}
use Rattle.clap.specs.Lexer.{long_of, short_of}
use Rattle.clap.specs.Walk.{Held, Row, Rule, Walk, Waiting, Step, Text, idle, option, next, trailing, at_row, has_row, used, settled, reacted, walked, after_flag, after_step, long_met, long_or_other, arg_by_long, arg_by_id, option_word as option_value, short_or_plain, used_by_id, more_values}
use Rattle.clap.specs.Simple.{Shape, new_shape}
use Rattle.clap.specs.Takes.{settle_passes, turn_passes, use_passes, flag_word_passes, step_passes, long_passes, bundle_passes}
use Rattle.clap.specs.declared.builder.action.ArgAction.TheVariants.{Set}
use Rattle.clap.specs.declared.builder.value_parser.Reading.TheVariants.{AsWritten}
use Rattle.clap.specs.declared.builder.value_parser.ValueParser.TheVariants as parses
use Rattle.clap.specs.declared.parser.matches.ValueSource.TheVariants.{CommandLine}
use Rattle.pg_options.specs.declared.names.CommandName.{CommandName}
use Rattle.pg_options.specs.declared.names.OptionName.{OptionName}
use Rattle.pg_options.specs.declared.names.OptionName.TheVariants as o
use Rattle.pg_options.specs.declared.names.CommandName.TheVariants as c
use Rattle.pg_options.specs.Names.{option_word, long_name, same_option, options_of, has_option, command_word}
use Rattle.pg_options.specs.Options.{Given, is_given}
use Rattle.pg_options.specs.Parsers.{parser_rule}

-- ---- the parser that was built

abbrev pub built_rule : OptionName → Rule
built_rule o = record (parser_rule o) {
  action = Some Set;
  range = Some (record { start_inclusive = 1; end_inclusive = 1 });
  parser = Some parses.String;
}

abbrev pub rules_of : CommandName → List Rule
rules_of command = map built_rule (options_of command)

abbrev pub shape_of : CommandName → Shape
shape_of command = record (new_shape (command_word command)) {
  rules = rules_of command;
  disable_help_flag = true;
  disable_help_subcommand = true;
  is_built = true;
}

-- ---- rows

abbrev pub row : Given → Row
row g = record { id = long_name g.option; values = g.value ∷ []; count = None; source = Some CommandLine; reading = AsWritten }

or_false : (a b : Bool) → (a || b) ≡ false → (a ≡ false) × (b ≡ false)
or_false true b e = cc
or_false false b e = (refl, e)

-- a row of an id that no row has goes last
pub at_last : (id : Text) (change : Row → List Row) (missing rows : List Row) → has_row id rows ≡ false → at_row id change missing rows ≡ rows ++ missing
at_last id change missing [] new = refl
at_last id change missing (r ∷ rs) new =
    let (here, behind) = or_false (bytes_eq r.id id) (has_row id rs) new in
    ap (λ (t : Bool). if t then change r ++ rs else r ∷ at_row id change missing rs) here ∙ ap (λ rest. r ∷ rest) (at_last id change missing rs behind)

-- the rows after an option that none of them has
pub used_last : (g : Given) (rows : List Row) → has_row (long_name g.option) rows ≡ false → used (built_rule g.option) (g.value ∷ []) rows ≡ rows ++ row g ∷ []
used_last g rows new =
    let gone = at_last (long_name g.option) (λ _. []) [] rows new ∙ append-nil rows in
    let more : Row → List Row = more_values CommandLine (g.value ∷ []) in
    ap (at_row (long_name g.option) more (row g ∷ [])) gone ∙ at_last (long_name g.option) more (row g ∷ []) rows new

-- ---- names

pub name_same : (p o : OptionName) → bytes_eq (long_name p) (long_name o) ≡ same_option p o
name_same o.Mode o.Mode = refl
name_same o.Mode o.Seed = refl
name_same o.Mode o.Cores = refl
name_same o.Mode o.Blocks = refl
name_same o.Mode o.Ops = refl
name_same o.Seed o.Mode = refl
name_same o.Seed o.Seed = refl
name_same o.Seed o.Cores = refl
name_same o.Seed o.Blocks = refl
name_same o.Seed o.Ops = refl
name_same o.Cores o.Mode = refl
name_same o.Cores o.Seed = refl
name_same o.Cores o.Cores = refl
name_same o.Cores o.Blocks = refl
name_same o.Cores o.Ops = refl
name_same o.Blocks o.Mode = refl
name_same o.Blocks o.Seed = refl
name_same o.Blocks o.Cores = refl
name_same o.Blocks o.Blocks = refl
name_same o.Blocks o.Ops = refl
name_same o.Ops o.Mode = refl
name_same o.Ops o.Seed = refl
name_same o.Ops o.Cores = refl
name_same o.Ops o.Blocks = refl
name_same o.Ops o.Ops = refl

pub options_same : (p q : OptionName) → same_option p q ≡ true → p ≡ q
options_same o.Mode o.Mode e = refl
options_same o.Mode o.Seed e = cc
options_same o.Mode o.Cores e = cc
options_same o.Mode o.Blocks e = cc
options_same o.Mode o.Ops e = cc
options_same o.Seed o.Mode e = cc
options_same o.Seed o.Seed e = refl
options_same o.Seed o.Cores e = cc
options_same o.Seed o.Blocks e = cc
options_same o.Seed o.Ops e = cc
options_same o.Cores o.Mode e = cc
options_same o.Cores o.Seed e = cc
options_same o.Cores o.Cores e = refl
options_same o.Cores o.Blocks e = cc
options_same o.Cores o.Ops e = cc
options_same o.Blocks o.Mode e = cc
options_same o.Blocks o.Seed e = cc
options_same o.Blocks o.Cores e = cc
options_same o.Blocks o.Blocks e = refl
options_same o.Blocks o.Ops e = cc
options_same o.Ops o.Mode e = cc
options_same o.Ops o.Seed e = cc
options_same o.Ops o.Cores e = cc
options_same o.Ops o.Blocks e = cc
options_same o.Ops o.Ops e = refl

same_self : (o : OptionName) → bytes_eq (long_name o) (long_name o) ≡ true
same_self o.Mode = refl
same_self o.Seed = refl
same_self o.Cores = refl
same_self o.Blocks = refl
same_self o.Ops = refl

pub same_swapped : (p o : OptionName) → same_option p o ≡ same_option o p
same_swapped o.Mode o.Mode = refl
same_swapped o.Mode o.Seed = refl
same_swapped o.Mode o.Cores = refl
same_swapped o.Mode o.Blocks = refl
same_swapped o.Mode o.Ops = refl
same_swapped o.Seed o.Mode = refl
same_swapped o.Seed o.Seed = refl
same_swapped o.Seed o.Cores = refl
same_swapped o.Seed o.Blocks = refl
same_swapped o.Seed o.Ops = refl
same_swapped o.Cores o.Mode = refl
same_swapped o.Cores o.Seed = refl
same_swapped o.Cores o.Cores = refl
same_swapped o.Cores o.Blocks = refl
same_swapped o.Cores o.Ops = refl
same_swapped o.Blocks o.Mode = refl
same_swapped o.Blocks o.Seed = refl
same_swapped o.Blocks o.Cores = refl
same_swapped o.Blocks o.Blocks = refl
same_swapped o.Blocks o.Ops = refl
same_swapped o.Ops o.Mode = refl
same_swapped o.Ops o.Seed = refl
same_swapped o.Ops o.Cores = refl
same_swapped o.Ops o.Blocks = refl
same_swapped o.Ops o.Ops = refl

found_long : (command : CommandName) (p : OptionName) → has_option command p ≡ true → arg_by_long (rules_of command) (long_name p) ≡ Some (built_rule p)
found_long c.Check p e = cc
found_long c.Atomic p e = cc
found_long c.Compile o.Mode e = refl
found_long c.Compile o.Seed e = cc
found_long c.Compile o.Cores e = cc
found_long c.Compile o.Blocks e = cc
found_long c.Compile o.Ops e = cc
found_long c.Run o.Mode e = refl
found_long c.Run o.Seed e = refl
found_long c.Run o.Cores e = cc
found_long c.Run o.Blocks e = cc
found_long c.Run o.Ops e = cc
found_long c.Drill o.Mode e = refl
found_long c.Drill o.Seed e = refl
found_long c.Drill o.Cores e = refl
found_long c.Drill o.Blocks e = refl
found_long c.Drill o.Ops e = refl

found_id : (command : CommandName) (p : OptionName) → has_option command p ≡ true → arg_by_id (rules_of command) (long_name p) ≡ Some (built_rule p)
found_id c.Check p e = cc
found_id c.Atomic p e = cc
found_id c.Compile o.Mode e = refl
found_id c.Compile o.Seed e = cc
found_id c.Compile o.Cores e = cc
found_id c.Compile o.Blocks e = cc
found_id c.Compile o.Ops e = cc
found_id c.Run o.Mode e = refl
found_id c.Run o.Seed e = refl
found_id c.Run o.Cores e = cc
found_id c.Run o.Blocks e = cc
found_id c.Run o.Ops e = cc
found_id c.Drill o.Mode e = refl
found_id c.Drill o.Seed e = refl
found_id c.Drill o.Cores e = refl
found_id c.Drill o.Blocks e = refl
found_id c.Drill o.Ops e = refl

pub has_given : (o : OptionName) (gs : List Given) → has_row (long_name o) (map row gs) ≡ is_given o gs
has_given o [] = refl
has_given o (g ∷ gs) = ap₂ (λ (a b : Bool). a || b) (name_same g.option o) (has_given o gs)

-- ---- what words look like

abbrev pub dashes : Text
dashes = 45 ∷ 45 ∷ []

long_one : (p : OptionName) (v : Text) → long_of (option_word p ++ codes "=" ++ v) ≡ Some (long_name p, Some v)
long_one o.Mode v = refl
long_one o.Seed v = refl
long_one o.Cores v = refl
long_one o.Blocks v = refl
long_one o.Ops v = refl

long_two : (p : OptionName) → long_of (option_word p) ≡ Some (long_name p, None)
long_two o.Mode = refl
long_two o.Seed = refl
long_two o.Cores = refl
long_two o.Blocks = refl
long_two o.Ops = refl

more_one : (p : OptionName) (v : Text) → bytes_eq (option_word p ++ codes "=" ++ v) dashes ≡ false
more_one o.Mode v = refl
more_one o.Seed v = refl
more_one o.Cores v = refl
more_one o.Blocks v = refl
more_one o.Ops v = refl

more_two : (p : OptionName) → bytes_eq (option_word p) dashes ≡ false
more_two o.Mode = refl
more_two o.Seed = refl
more_two o.Cores = refl
more_two o.Blocks = refl
more_two o.Ops = refl

-- the word begins with no hyphen
pub record IsPlain (v : Text) : Type 0 where
  pub more : bytes_eq v dashes ≡ false
  pub long : long_of v ≡ None
  pub short : short_of v ≡ None

-- ---- one word

abbrev pub at : Held → Walk
at h = record { held = h; waiting = idle; position = 1; is_trailing = false; stopped = None }

abbrev pub waiting_at : Text → Held → Walk
waiting_at id h = record { held = h; waiting = option id; position = 1; is_trailing = false; stopped = None }

abbrev met_at : List Rule → Waiting → Text → Held → Bool → Option (Text × Option Text) → Held × Step
met_at rs waits w h more long = if more then (h, trailing 1) else long_or_other rs waits w long h

abbrev walk_at : List Rule → Waiting → Text → Held → Held × Step → Walk
walk_at rs waits w h met = after_step rs w (record { held = h; waiting = waits; position = 1; is_trailing = false; stopped = None }) met.0 met.1

walked_is : (rs : List Rule) (w : Text) (h : Held) → walked rs [] (at h) w ≡ walk_at rs idle w h (met_at rs idle w h (bytes_eq w dashes) (long_of w))
unfolding walked
walked_is rs w h = refl

walked_on : (rs : List Rule) (id w : Text) (h : Held) → walked rs [] (waiting_at id h) w ≡ walk_at rs (option id) w h (met_at rs (option id) w h (bytes_eq w dashes) (long_of w))
unfolding walked
walked_on rs id w h = refl

-- whether a word passes, by what it looks like
abbrev passes_at : Shape → Waiting → Text → Held → Bool → Option (Text × Option Text) → Bool
passes_at s waits w h more long = (more || flag_word_passes s.rules s.args_override_self long w h) && step_passes s 1 (met_at s.rules waits w h more long).0 (met_at s.rules waits w h more long).1

abbrev long_met_at : List Rule → Text → Held → Option Rule → Option Text → Held × Step
long_met_at rs w h a v = after_flag rs idle w (long_met rs a v h).0 (long_met rs a v h).1

abbrev value_met_at : List Rule → Text → Text → Held → Option Rule → Held × Step
value_met_at rs id v h a = ((option_value a id v h).0, next (option_value a id v h).1)

use_passes_new : (g : Given) (rows : List Row) → has_row (long_name g.option) rows ≡ false → use_passes false (built_rule g.option) (g.value ∷ []) rows ≡ true
use_passes_new g rows new = ap (λ (t : Bool). (not t || false) && true) new

-- the rows of what was read so far, the last option settled
pub record IsRead (command : CommandName) (fs : List Given) (h : Held) : Type 0 where
  pub rows : (settled (rules_of command) h).rows ≡ map row fs
  pub passes : settle_passes (rules_of command) false h ≡ true

rows_with : (fs : List Given) (g : Given) (rows : List Row) → rows ≡ map row fs → is_given g.option fs ≡ false
    → (used (built_rule g.option) (g.value ∷ []) rows ≡ map row (fs ++ g ∷ [])) × (use_passes false (built_rule g.option) (g.value ∷ []) rows ≡ true)
rows_with fs g rows are fresh =
    let new : has_row (long_name g.option) rows ≡ false = ap (has_row (long_name g.option)) are ∙ has_given g.option fs ∙ fresh in
    (used_last g rows new ∙ ap (λ (r : List Row). r ++ row g ∷ []) are ∙ sym (map-append row fs (g ∷ [])), use_passes_new g rows new)

module _ (command : CommandName) (fs : List Given) (g : Given) (h : Held) (has : has_option command g.option ≡ true) (fresh : is_given g.option fs ≡ false)
    (read : IsRead command fs h) where
  abbrev pub one_word : Text
  one_word = option_word g.option ++ codes "=" ++ g.value

  abbrev pub after_one : Held
  after_one = reacted (rules_of command) (built_rule g.option) (g.value ∷ []) h

  pub one_walked : walked (rules_of command) [] (at h) one_word ≡ at after_one
  one_walked = walked_is (rules_of command) one_word h
      ∙ ap₂ (λ (b : Bool) (l : Option (Text × Option Text)). walk_at (rules_of command) idle one_word h (met_at (rules_of command) idle one_word h b l)) (more_one g.option g.value) (long_one g.option g.value)
      ∙ ap (λ (a : Option Rule). walk_at (rules_of command) idle one_word h (long_met_at (rules_of command) one_word h a (Some g.value))) (found_long command g.option has)

  pub one_passes : turn_passes (shape_of command) [] (at h) one_word ≡ true
  one_passes = ap₂ (λ (b : Bool) (l : Option (Text × Option Text)). passes_at (shape_of command) idle one_word h b l) (more_one g.option g.value) (long_one g.option g.value)
      ∙ ap (λ (a : Option Rule). long_passes (rules_of command) false a (Some g.value) h
      && step_passes (shape_of command) 1 (long_met_at (rules_of command) one_word h a (Some g.value)).0 (long_met_at (rules_of command) one_word h a (Some g.value)).1) (found_long command g.option has)
      ∙ ap₂ (λ (a b : Bool). (a && b) && true) read.passes (rows_with fs g _ read.rows fresh).1

  pub one_read : IsRead command (fs ++ g ∷ []) after_one
  one_read = record { rows = (rows_with fs g _ read.rows fresh).0; passes = refl }

  -- the option alone, and then its value
  abbrev pub after_name : Held
  after_name = record (settled (rules_of command) h) { pending = Some (long_name g.option, []) }

  abbrev pub after_two : Held
  after_two = record (settled (rules_of command) h) { pending = Some (long_name g.option, g.value ∷ []) }

  pub name_walked : walked (rules_of command) [] (at h) (option_word g.option) ≡ waiting_at (long_name g.option) after_name
  name_walked = walked_is (rules_of command) (option_word g.option) h
      ∙ ap₂ (λ (b : Bool) (l : Option (Text × Option Text)). walk_at (rules_of command) idle (option_word g.option) h (met_at (rules_of command) idle (option_word g.option) h b l)) (more_two g.option) (long_two g.option)
      ∙ ap (λ (a : Option Rule). walk_at (rules_of command) idle (option_word g.option) h (long_met_at (rules_of command) (option_word g.option) h a None)) (found_long command g.option has)

  pub name_passes : turn_passes (shape_of command) [] (at h) (option_word g.option) ≡ true
  name_passes = ap₂ (λ (b : Bool) (l : Option (Text × Option Text)). passes_at (shape_of command) idle (option_word g.option) h b l) (more_two g.option) (long_two g.option)
      ∙ ap (λ (a : Option Rule). long_passes (rules_of command) false a None h
      && step_passes (shape_of command) 1 (long_met_at (rules_of command) (option_word g.option) h a None).0 (long_met_at (rules_of command) (option_word g.option) h a None).1) (found_long command g.option has)
      ∙ ap (λ (a : Bool). a && true) read.passes

  pub value_walked : IsPlain g.value → walked (rules_of command) [] (waiting_at (long_name g.option) after_name) g.value ≡ at after_two
  value_walked plain = walked_on (rules_of command) (long_name g.option) g.value after_name
      ∙ ap₂ (λ (b : Bool) (l : Option (Text × Option Text)). walk_at (rules_of command) (option (long_name g.option)) g.value after_name (met_at (rules_of command) (option (long_name g.option)) g.value after_name b l)) plain.more plain.long
      ∙ ap (λ (l : Option Text). walk_at (rules_of command) (option (long_name g.option)) g.value after_name (short_or_plain (rules_of command) (option (long_name g.option)) g.value l after_name)) plain.short
      ∙ ap (λ (a : Option Rule). walk_at (rules_of command) (option (long_name g.option)) g.value after_name (value_met_at (rules_of command) (long_name g.option) g.value after_name a)) (found_id command g.option has)
      ∙ ap (λ (b : Bool). record { held = after_two; waiting = if nat_lt (if b then 1 else 0) 1 then option (long_name g.option) else idle; position = 1; is_trailing = false; stopped = None }) (same_self g.option)

  pub value_passes_too : IsPlain g.value → turn_passes (shape_of command) [] (waiting_at (long_name g.option) after_name) g.value ≡ true
  value_passes_too plain = ap₂ (λ (b : Bool) (l : Option (Text × Option Text)). passes_at (shape_of command) (option (long_name g.option)) g.value after_name b l) plain.more plain.long
      ∙ ap (λ (l : Option Text). flag_word_passes (rules_of command) false None g.value after_name
      && step_passes (shape_of command) 1 (short_or_plain (rules_of command) (option (long_name g.option)) g.value l after_name).0 (short_or_plain (rules_of command) (option (long_name g.option)) g.value l after_name).1) plain.short
      ∙ ap (λ (l : Option Text). option_map_or (λ flags. bundle_passes (rules_of command) false flags after_name) l true && true) plain.short

  pub two_read : IsRead command (fs ++ g ∷ []) after_two
  two_read = record {
    rows = ap (λ (a : Option Rule). used_by_id a (g.value ∷ []) (settled (rules_of command) h).rows) (found_id command g.option has) ∙ (rows_with fs g _ read.rows fresh).0;
    passes = ap (λ (a : Option Rule). option_map_or (λ r. use_passes false r (g.value ∷ []) (settled (rules_of command) h).rows) a true) (found_id command g.option has) ∙ (rows_with fs g _ read.rows fresh).1;
  }
