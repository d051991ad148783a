-- What is said of a run that goes through the same states where it is looked at.
use Rattle.std.proofs.Common.{◌≡◌, ◌≢◌, ℕ, suc, List, [], ◌∷◌, sym, ap, subst, ◌∙◌}
use Rattle.pg_perm.specs.declared.kinds.Who.TheVariants.{Other}
use Rattle.pg_perm.specs.declared.step.Step.{Step}
use Rattle.pg_perm.specs.declared.draft.Draft.{Draft}
use Rattle.pg_directory.specs.DirEntries.{DirEntry, who}
use Rattle.pg_atomic.specs.States.{State, state_of, requestor_reply}
use Rattle.pg_serial.specs.Faithful.{Stand, Level, Ahead, Datum, Tells, Looks, IsDatum, EachIs}

pub tells_keep : (dir_entries homes2 : ℕ → DirEntry) (run run2 : ℕ → State) (P : ℕ → Type 0) (c seen last word stamp : ℕ) (stand : Stand)
    → homes2 seen ≡ dir_entries seen → ((j : ℕ) → last ≡ suc j → homes2 j ≡ dir_entries j) → ((k : ℕ) → P k → run2 k ≡ run k)
    → Looks P dir_entries c seen last stand → Tells dir_entries run c seen last word stamp stand → Tells homes2 run2 c seen last word stamp stand
tells_keep dir_entries homes2 run run2 P c seen last word stamp (Level s) same before agree looks tells =
    λ holds.
    let held : who (dir_entries seen) c ≢ Other = subst (λ (t : DirEntry). who t c ≢ Other) same holds in
    let (state, is_word, is_stamp) = tells held in
    let e : run2 seen ≡ run seen = agree seen (looks held) in
    (ap (λ (a : State). state_of a c) e ∙ state, is_word ∙ ap (λ (a : State). a.word) (sym e), is_stamp)
tells_keep dir_entries homes2 run run2 P c seen last word stamp (Ahead s granted) same before agree looks tells =
    λ j is.
    let told = tells j is in (
      λ holds.
          let held : who (dir_entries j) c ≢ Other = subst (λ (t : DirEntry). who t c ≢ Other) (before j is) holds in
          ap (λ (a : State). state_of a c) (agree j ((looks j is).0 held)) ∙ told.0 held,
      λ g. let e : run2 (suc j) ≡ run (suc j) = agree (suc j) ((looks j is).1 g) in ((told.1 g).0 ∙ ap (λ (a : State). a.word) (sym e), (told.1 g).1),
    )

looks_weaker : (P Q : ℕ → Type 0) (dir_entries : ℕ → DirEntry) (c seen last : ℕ) (stand : Stand) → ((k : ℕ) → P k → Q k) → Looks P dir_entries c seen last stand → Looks Q dir_entries c seen last stand
looks_weaker P Q dir_entries c seen last (Level s) more looks = λ h. more seen (looks h)
looks_weaker P Q dir_entries c seen last (Ahead s granted) more looks = λ j is. (λ h. more j ((looks j is).0 h), λ g. more (suc j) ((looks j is).1 g))

-- a line looks everywhere, if nothing else is known
pub looks_all : (P : ℕ → Type 0) (dir_entries : ℕ → DirEntry) (c seen last : ℕ) (stand : Stand) → ((k : ℕ) → P k) → Looks P dir_entries c seen last stand
looks_all P dir_entries c seen last (Level s) all = λ h. all seen
looks_all P dir_entries c seen last (Ahead s granted) all = λ j is. (λ h. all j, λ g. all (suc j))

pub datum_keep : (d : Draft) (entry entry2 : ℕ → Step) (run run2 : ℕ → State) (P : ℕ → Type 0) (x : Datum) → ((k : ℕ) → P k → run2 k ≡ run k)
    → ((j : ℕ) → x.stamp ≡ suc j → (entry2 j ≡ entry j) × P j × P (suc j)) → IsDatum d entry run x → IsDatum d entry2 run2 x
datum_keep d entry entry2 run run2 P x agree there is = λ j at.
    let (same, here, behind) = there j at in (
      (is j at).0 ∙ ap (λ (a : State). a.word) (sym (agree (suc j) behind)),
      λ e asks. ap (λ (a : State). requestor_reply d a (record { core = x.core; event = e })) (agree j here) ∙ (is j at).1 e (sym same ∙ asks),
    )

pub each_is : {X : Type 0} (P Q : X → Type 0) (xs : List X) → ((x : X) → P x → Q x) → EachIs P xs → EachIs Q xs
each_is P Q [] more each = tt
each_is P Q (x ∷ xs) more each = (more x each.0, each_is P Q xs more each.1)

pub each_both : {X : Type 0} (P Q R : X → Type 0) (xs : List X) → ((x : X) → P x → Q x → R x) → EachIs P xs → EachIs Q xs → EachIs R xs
each_both P Q R [] more p q = tt
each_both P Q R (x ∷ xs) more p q = (more x p.0 q.0, each_both P Q R xs more p.1 q.1)
