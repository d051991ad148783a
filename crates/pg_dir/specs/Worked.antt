-- Directories, requests and networks of three cores, for what was worked out by hand.
use Rattle.std.specs.Prelude.{ℕ, List, [], ◌∷◌, Option, Some, None}
use Rattle.pg_perm.specs.declared.kinds.Event.{Event}
use Rattle.pg_table.specs.declared.directory.DirDesc.{DirDesc}
use Rattle.pg_messages.specs.declared.messages.Ask.{Ask as SentRequest}
use Rattle.pg_messages.specs.declared.messages.Ordered.{Ordered}
use Rattle.pg_messages.specs.declared.messages.Reply.{Reply}
use Rattle.pg_controllers.specs.Directories.{Directory}
use Rattle.pg_queue.specs.Nets.{Nets}
use Rattle.pg_dir.specs.Effects.{DirResult}
use Rattle.pg_dir.specs.Numbers.{NumberedDirectory}

-- the directory in a state, with memory's word, the owner, the sharers, and the stamp of the last request
abbrev pub dir_with : DirDesc → ℕ → Option ℕ → List ℕ → ℕ → Directory
dir_with s v owner sharers last = record { desc = s; memory = v; owner = owner; sharers = sharers; last = last }

-- the directory of three cores, with the number of its state
abbrev pub numbered : ℕ → Directory → NumberedDirectory
numbered n h = record { cores = 3; number = n; directory = h }

-- a request without a word, and one that brings a word
abbrev pub asking : ℕ → Event → SentRequest
asking q e = record { request = q; event = e; word = None }

abbrev pub bringing : ℕ → ℕ → Event → SentRequest
bringing v q e = record { request = q; event = e; word = Some v }

-- the networks of three cores with these messages to each of them, and these replies
abbrev pub nets_with : List Ordered → List Ordered → List Ordered → List Reply → Nets
nets_with to_0 to_1 to_2 replies = record { slots = None ∷ None ∷ None ∷ []; lists = to_0 ∷ to_1 ∷ to_2 ∷ []; replies = replies }

abbrev pub silent : Nets
silent = nets_with [] [] [] []

abbrev pub result_with : Directory → Nets → DirResult
result_with h w = record { directory = h; nets = w }
