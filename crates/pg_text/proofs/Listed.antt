-- The lines of a draft in the order of a text, when a line goes after them.
use Rattle.std.proofs.Common.{◌≡◌, ℕ, ◌+◌, ◌≤◌, ◌<◌, true, List, [], ◌∷◌, ◌++◌, map, ap, arith}
use Rattle.std.specs.Prelude.{nat_le}
use Rattle.std.specs.List.{list_all}
use Rattle.std.proofs.lemmas.Bool.{le-leb, leb-true}
use Rattle.pg_perm.specs.declared.draft.Draft.{Draft}
use Rattle.pg_perm.specs.declared.draft.CacheLine.{CacheLine}
use Rattle.pg_perm.specs.declared.draft.DirLine.{DirLine}
use Rattle.pg_perm.specs.declared.draft.MsgLine.{MsgLine}
use Rattle.pg_perm.specs.declared.draft.CoreLine.{CoreLine}
use Rattle.pg_perm.specs.declared.draft.TakeLine.{TakeLine}
use Rattle.pg_perm.specs.declared.draft.RowLine.{RowLine}
use Rattle.pg_perm.specs.Classes.{class_rank}
use Rattle.pg_lines.proofs.Weaker.{all_weaker}
use Rattle.pg_text.proofs.Growing.{last_of, append_after_front, map_append, map_none}

-- the draft has no lines of kinds after this place in the order
pub record IsBefore (d : Draft) (r : ℕ) : Type 0 where
  pub no_dirs : r < 2 → d.dirs ≡ []
  pub no_messages : r < 3 → d.messages ≡ []
  pub no_cores : r < 6 → d.cores ≡ []
  pub no_takes : r < 7 → d.takes ≡ []
  pub no_rows : r < 8 → d.rows ≡ []
  pub ranked : list_all (λ m. nat_le (3 + class_rank m.class) r) d.messages ≡ true

-- what is before a place is before a later place
pub before_later : (d : Draft) (r s : ℕ) → r ≤ s → IsBefore d r → IsBefore d s
before_later d r s h b =
    record {
      no_dirs = λ g. b.no_dirs (omega (arith, h, g));
      no_messages = λ g. b.no_messages (omega (arith, h, g));
      no_cores = λ g. b.no_cores (omega (arith, h, g));
      no_takes = λ g. b.no_takes (omega (arith, h, g));
      no_rows = λ g. b.no_rows (omega (arith, h, g));
      ranked = all_weaker (λ (m : MsgLine). nat_le (3 + class_rank m.class) r) (λ m. nat_le (3 + class_rank m.class) s) d.messages
          (λ m g. le-leb (3 + class_rank m.class) s (omega (arith, h, leb-true (3 + class_rank m.class) r g))) b.ranked;
    }

-- what is listed for the protocol line, and for each other line
pub record Listing (B : Type 0) : Type 0 where
  pub first : B
  pub cache : CacheLine → B
  pub dir : DirLine → B
  pub message : MsgLine → B
  pub core : CoreLine → B
  pub take : TakeLine → B
  pub row : RowLine → B

module _ {B : Type 0} (listing : Listing B) where
  abbrev to_caches : Draft → List B
  to_caches d = listing.first ∷ map listing.cache d.caches

  abbrev to_dirs : Draft → List B
  to_dirs d = to_caches d ++ map listing.dir d.dirs

  abbrev to_messages : Draft → List B
  to_messages d = to_dirs d ++ map listing.message d.messages

  abbrev to_cores : Draft → List B
  to_cores d = to_messages d ++ map listing.core d.cores

  abbrev to_takes : Draft → List B
  to_takes d = to_cores d ++ map listing.take d.takes

  -- all that is listed
  abbrev pub listed : Draft → List B
  listed d = to_takes d ++ map listing.row d.rows

  -- a row line is last
  pub row_last : (d : Draft) (r : RowLine) (y : B) → listing.row r ≡ y → listed (record d { rows = d.rows ++ r ∷ [] }) ≡ listed d ++ y ∷ []
  row_last d r y e = append_after_front (to_takes d) (map listing.row d.rows) _ y (map_append listing.row d.rows r y e)

  -- a take line is last where there are no row lines
  pub take_last : (d : Draft) (t : TakeLine) (y : B) → listing.take t ≡ y → IsBefore d 7
      → listed (record d { takes = d.takes ++ t ∷ [] }) ≡ listed d ++ y ∷ []
  take_last d t y e b =
      last_of (to_takes d) _ (map listing.row d.rows) y (append_after_front (to_cores d) (map listing.take d.takes) _ y (map_append listing.take d.takes t y e))
      (map_none listing.row d.rows (b.no_rows (omega arith)))

  -- what is last up to the core lines is last where no lines follow them
  cores_last : (d : Draft) (more : List B) (y : B) → IsBefore d 6 → more ≡ to_cores d ++ y ∷ []
      → more ++ map listing.take d.takes ++ map listing.row d.rows ≡ listed d ++ y ∷ []
  cores_last d more y b e =
      last_of (to_takes d) _ (map listing.row d.rows) y
      (last_of (to_cores d) more (map listing.take d.takes) y e (map_none listing.take d.takes (b.no_takes (omega arith))))
      (map_none listing.row d.rows (b.no_rows (omega arith)))

  -- a core line is last where no lines follow the core lines
  pub core_last : (d : Draft) (c : CoreLine) (y : B) → listing.core c ≡ y → IsBefore d 6
      → listed (record d { cores = d.cores ++ c ∷ [] }) ≡ listed d ++ y ∷ []
  core_last d c y e b = cores_last d _ y b (append_after_front (to_messages d) (map listing.core d.cores) _ y (map_append listing.core d.cores c y e))

  -- the same of the message lines
  messages_last : (d : Draft) (more : List B) (y : B) → IsBefore d 5 → more ≡ to_messages d ++ y ∷ []
      → more ++ map listing.core d.cores ++ map listing.take d.takes ++ map listing.row d.rows ≡ listed d ++ y ∷ []
  messages_last d more y b e =
      cores_last d _ y (before_later d 5 6 (omega arith) b)
      (last_of (to_messages d) more (map listing.core d.cores) y e (map_none listing.core d.cores (b.no_cores (omega arith))))

  pub message_last : (d : Draft) (m : MsgLine) (y : B) → listing.message m ≡ y → IsBefore d 5
      → listed (record d { messages = d.messages ++ m ∷ [] }) ≡ listed d ++ y ∷ []
  message_last d m y e b = messages_last d _ y b (append_after_front (to_dirs d) (map listing.message d.messages) _ y (map_append listing.message d.messages m y e))

  -- the same of the dir lines
  dirs_last : (d : Draft) (more : List B) (y : B) → IsBefore d 2 → more ≡ to_dirs d ++ y ∷ []
      → more ++ map listing.message d.messages ++ map listing.core d.cores ++ map listing.take d.takes ++ map listing.row d.rows ≡ listed d ++ y ∷ []
  dirs_last d more y b e =
      messages_last d _ y (before_later d 2 5 (omega arith) b)
      (last_of (to_dirs d) more (map listing.message d.messages) y e (map_none listing.message d.messages (b.no_messages (omega arith))))

  pub dir_last : (d : Draft) (s : DirLine) (y : B) → listing.dir s ≡ y → IsBefore d 2
      → listed (record d { dirs = d.dirs ++ s ∷ [] }) ≡ listed d ++ y ∷ []
  dir_last d s y e b = dirs_last d _ y b (append_after_front (to_caches d) (map listing.dir d.dirs) _ y (map_append listing.dir d.dirs s y e))

  -- a cache line is last where no lines follow the cache lines
  pub cache_last : (d : Draft) (c : CacheLine) (y : B) → listing.cache c ≡ y → IsBefore d 1
      → listed (record d { caches = d.caches ++ c ∷ [] }) ≡ listed d ++ y ∷ []
  cache_last d c y e b =
      dirs_last d _ y (before_later d 1 2 (omega arith) b)
      (last_of (to_caches d) _ (map listing.dir d.dirs) y (ap (λ (ys : List B). listing.first ∷ ys) (map_append listing.cache d.caches c y e))
      (map_none listing.dir d.dirs (b.no_dirs (omega arith))))
