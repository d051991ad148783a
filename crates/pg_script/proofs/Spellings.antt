-- A line that is read is spelled so, and what is spelled so is read again.
use Rattle.std.proofs.Common.{◌≡◌, ℕ, List, [], ◌∷◌, Some, refl, ap, subst, ◌∙◌}
use Rattle.std.specs.Prelude.{codes}
use Rattle.std.specs.Fmt.{decimal}
use Rattle.std.specs.Option.{option_map, option_and_then}
use Rattle.std.proofs.lemmas.Option.{same_Some, option_and_then_some}
use Rattle.pg_script.specs.declared.statement.OpForm.{OpForm}
use Rattle.pg_script.specs.declared.statement.OpForm.TheVariants.{Load, Store, Evict}
use Rattle.pg_script.specs.declared.statement.Statement.{Statement}
use Rattle.pg_script.specs.declared.statement.Statement.TheVariants.{Cores, Blocks, Op, Done}
use Rattle.pg_script.specs.Forms.{op_words, spelling, IsShort, HasShortValue, HasShortNumbers}
use Rattle.pg_script.specs.Numbers.{number_of}
use Rattle.pg_script.specs.Reading.{plain_form, valued_form, op_form, op_line, count_of, done_line, statement_of}
use Rattle.pg_script.proofs.Options.{word_test_some, nothing_found, option_map-some}
use Rattle.pg_script.proofs.Decimals.{number_found, number_again}

-- these words are the spelling of this form, after a core and a block
abbrev IsForm : List ℕ → List (List ℕ) → OpForm → Type 0
IsForm w ws form = ((core block : List ℕ) → core ∷ w ∷ block ∷ ws ≡ op_words core block form) × HasShortValue form

-- a word that is read as a form without a value
plain_found : (w : List ℕ) (form : OpForm) → plain_form w ≡ Some form → IsForm w [] form
plain_found w form =
    word_test_some (IsForm w []) w (codes "load") _ _ form (λ h e. subst (IsForm w []) (same_Some Load form e) (λ core block i. core ∷ h i ∷ block ∷ [], tt))
    (word_test_some (IsForm w []) w (codes "evict") _ _ form (λ h e. subst (IsForm w []) (same_Some Evict form e) (λ core block i. core ∷ h i ∷ block ∷ [], tt))
    (nothing_found form))

-- words that are read as a form with a value
valued_found : (w value : List ℕ) (form : OpForm) → valued_form w value ≡ Some form → IsForm w (value ∷ []) form
valued_found w value form =
    word_test_some (IsForm w (value ∷ [])) w (codes "store") _ _ form (λ h e.
    option_map-some (λ n. Store n) (number_of value) form e (λ n is_n f.
    let number = number_found value n is_n in
    subst (IsForm w (value ∷ [])) f (λ core block i. core ∷ h i ∷ block ∷ number.0 i ∷ [], number.1)))
    (nothing_found form)

form_found : (w : List ℕ) (ws : List (List ℕ)) (form : OpForm) → op_form w ws ≡ Some form → IsForm w ws form
form_found w [] form e = plain_found w form e
form_found w (value ∷ []) form e = valued_found w value form e
form_found w (value ∷ v ∷ ws) form e = absurd cc

-- these words are the spelling of this line
abbrev IsSpelled : List (List ℕ) → Statement → Type 0
IsSpelled ws s = (ws ≡ spelling s) × HasShortNumbers s

-- words after `op`
op_found : (w : List ℕ) (ws : List (List ℕ)) (s : Statement) → w ≡ codes "op" → op_line ws ≡ Some s → IsSpelled (w ∷ ws) s
op_found w [] s h e = absurd cc
op_found w (c ∷ []) s h e = absurd cc
op_found w (c ∷ v ∷ []) s h e = absurd cc
op_found w (c ∷ v ∷ b ∷ ws) s h e =
    option_and_then_some _ (number_of c) s e (λ core is_core e.
    option_and_then_some _ (number_of b) s e (λ block is_block e.
    option_map-some _ (op_form v ws) s e (λ form is_form f.
    let core_word = number_found c core is_core in
    let block_word = number_found b block is_block in
    let words = form_found v ws form is_form in
    subst (IsSpelled (w ∷ c ∷ v ∷ b ∷ ws)) f (
      (λ i. h i ∷ core_word.0 i ∷ v ∷ block_word.0 i ∷ ws) ∙ ap (λ (vs : List (List ℕ)). codes "op" ∷ vs) (words.0 (decimal core) (decimal block)),
      (core_word.1, block_word.1, words.1),
    ))))

-- words that are one number
count_found : (ws : List (List ℕ)) (n : ℕ) → count_of ws ≡ Some n → (ws ≡ decimal n ∷ []) × IsShort n
count_found [] n e = absurd cc
count_found (w ∷ []) n e = let number = number_found w n e in ((λ i. number.0 i ∷ []), number.1)
count_found (w ∷ v ∷ ws) n e = absurd cc

-- words after `done`
done_found : (w : List ℕ) (ws : List (List ℕ)) (s : Statement) → w ≡ codes "done" → done_line ws ≡ Some s → IsSpelled (w ∷ ws) s
done_found w [] s h e = subst (IsSpelled (w ∷ [])) (same_Some Done s e) ((λ i. h i ∷ []), tt)
done_found w (v ∷ ws) s h e = absurd cc

-- a line that is read is spelled so
pub statement_of-some : (ws : List (List ℕ)) (s : Statement) → statement_of ws ≡ Some s → (ws ≡ spelling s) × HasShortNumbers s
statement_of-some [] s e = absurd cc
statement_of-some (w ∷ ws) s e =
    let P : Statement → Type 0 = IsSpelled (w ∷ ws) in
    word_test_some P w (codes "cores") _ _ s (λ h e.
    option_map-some (λ n. Cores n) (count_of ws) s e (λ n is_n f. let count = count_found ws n is_n in subst P f ((λ i. h i ∷ count.0 i), count.1)))
    (word_test_some P w (codes "blocks") _ _ s (λ h e.
    option_map-some (λ n. Blocks n) (count_of ws) s e (λ n is_n f. let count = count_found ws n is_n in subst P f ((λ i. h i ∷ count.0 i), count.1)))
    (word_test_some P w (codes "op") _ _ s (op_found w ws s)
    (word_test_some P w (codes "done") _ _ s (done_found w ws s)
    (nothing_found s)))) e

-- what an operation is is read again
op_again : (core block : ℕ) (form : OpForm) → IsShort core → IsShort block → HasShortValue form
    → op_line (op_words (decimal core) (decimal block) form) ≡ Some (Op core block form)
op_again core block Load c b v =
    ap (option_and_then (λ m. option_and_then (λ n. Some (Op m n Load)) (number_of (decimal block)))) (number_again core c)
    ∙ ap (option_and_then (λ n. Some (Op core n Load))) (number_again block b)
op_again core block (Store value) c b v =
    ap (option_and_then (λ m. option_and_then (λ n. option_map (λ f. Op m n f) (option_map (λ x. Store x) (number_of (decimal value)))) (number_of (decimal block)))) (number_again core c)
    ∙ ap (option_and_then (λ n. option_map (λ f. Op core n f) (option_map (λ x. Store x) (number_of (decimal value))))) (number_again block b)
    ∙ ap (λ o. option_map (λ f. Op core block f) (option_map (λ x. Store x) o)) (number_again value v)
op_again core block Evict c b v =
    ap (option_and_then (λ m. option_and_then (λ n. Some (Op m n Evict)) (number_of (decimal block)))) (number_again core c)
    ∙ ap (option_and_then (λ n. Some (Op core n Evict))) (number_again block b)

-- a line that is spelled so is read again
pub statement_of-spelling : (s : Statement) → HasShortNumbers s → statement_of (spelling s) ≡ Some s
statement_of-spelling (Cores n) h = ap (option_map (λ m. Cores m)) (number_again n h)
statement_of-spelling (Blocks n) h = ap (option_map (λ m. Blocks m)) (number_again n h)
statement_of-spelling (Op core block form) h = op_again core block form h.0 h.1 h.2
statement_of-spelling Done h = refl
