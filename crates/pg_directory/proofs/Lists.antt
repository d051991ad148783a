-- Requests one after another.
use Rattle.std.proofs.Common.{◌≡◌, ℕ, List, [], ◌∷◌, ◌++◌, refl}
use Rattle.pg_perm.specs.declared.draft.Draft.{Draft}
use Rattle.pg_perm.specs.Drafts.{IsWellFormed}
use Rattle.pg_shape.specs.Shaped.{IsShaped}
use Rattle.pg_directory.specs.DirEntries.{DirEntry, Request, entry_after, entry_after_all}
use Rattle.pg_directory.specs.Sound.{IsSound, AreLegal}
use Rattle.pg_directory.specs.Requests.{IsHandled}
use Rattle.pg_directory.proofs.Handled.{legal_request_is_handled}

pub entry_after_parts : (d : Draft) (s : DirEntry) (xs ys : List Request) → entry_after_all d s (xs ++ ys) ≡ entry_after_all d (entry_after_all d s xs) ys
entry_after_parts d s [] ys = refl
entry_after_parts d s (x ∷ xs) ys = entry_after_parts d (entry_after d s x) xs ys

pub legal_parts : (d : Draft) (n : ℕ) (s : DirEntry) (xs ys : List Request) → AreLegal d n s (xs ++ ys) → AreLegal d n s xs × AreLegal d n (entry_after_all d s xs) ys
legal_parts d n s [] ys h = (tt, h)
legal_parts d n s (x ∷ xs) ys h = let p = legal_parts d n (entry_after d s x) xs ys h.2 in ((h.0, h.1, p.0), p.1)

-- what the directory knows stays sound
pub sound_after_all : (d : Draft) (n : ℕ) (s : DirEntry) (qs : List Request) → IsWellFormed d → IsShaped d → IsSound d n s → AreLegal d n s qs → IsSound d n (entry_after_all d s qs)
sound_after_all d n s [] w sh so legal = so
sound_after_all d n s (q ∷ qs) w sh so legal =
    sound_after_all d n (entry_after d s q) qs w sh (legal_request_is_handled d n s q w sh so legal.0 legal.1).sound legal.2

-- and each request does what it does alone
pub handled_in_list : (d : Draft) (n : ℕ) (s : DirEntry) (before after : List Request) (q : Request) → IsWellFormed d → IsShaped d → IsSound d n s
    → AreLegal d n s (before ++ q ∷ after) → IsHandled d n (entry_after_all d s before) q
handled_in_list d n s before after q w sh so legal =
    let p = legal_parts d n s before (q ∷ after) legal in
    legal_request_is_handled d n (entry_after_all d s before) q w sh (sound_after_all d n s before w sh so p.0) p.1.0 p.1.1
