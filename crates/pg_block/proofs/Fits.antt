-- After an event the parts of a block fit each other as before.
use Rattle.std.proofs.Common.{◌≡◌, ℕ, zero, suc, ◌<◌, ◌≤◌, List, [], ◌∷◌, length, get_or, set, drop, Option, Some, None, refl, sym, ap, subst, ◌∙◌, arith, ◌⊎◌, inl, inr}
use Rattle.std.specs.Prelude.{IfSome}
use Rattle.std.proofs.lemmas.List.{length-set, get_or-set_same, get_or-set_other}
use Rattle.pg_perm.specs.declared.kinds.Op.{Op}
use Rattle.pg_table.specs.declared.cache.Input.{Input}
use Rattle.pg_table.specs.declared.cache.Input.TheVariants as at
use Rattle.pg_table.specs.Tables.{Parts}
use Rattle.pg_table.specs.Directory.{DirChoice}
use Rattle.pg_messages.specs.declared.messages.Ask.{Ask as SentRequest}
use Rattle.pg_messages.specs.declared.messages.Ordered.{Ordered}
use Rattle.pg_messages.specs.declared.messages.Reply.{Reply}
use Rattle.pg_messages.specs.declared.messages.Reply.TheVariants.{Data, InvAck, WbData}
use Rattle.pg_controllers.specs.Networks.{event_of}
use Rattle.pg_controllers.specs.Directories.{Posted}
use Rattle.pg_controllers.specs.Lines.{Received, received_op, received_ordered, received_reply, ordered_input, reply_input}
use Rattle.pg_queue.specs.Nets.{Nets, without_head, without_reply, without_request, with_ordered, with_reply}
use Rattle.pg_cache.specs.Acts.{LineView}
use Rattle.pg_cache.specs.Rows.{RowResult, IsReady, after_row}
use Rattle.pg_cache.proofs.Keeps.{row_is}
use Rattle.pg_dir.specs.Numbers.{NumberedDirectory, IsNumbered}
use Rattle.pg_dir.specs.Effects.{send_ordered, send_replies, result_of_request, result_of_choice, choice_by, posts_for}
use Rattle.pg_block.specs.Blocks.{Program, Block, given_of, no_program, no_line, line_at, program_at, with_row, next_operation, after_issue, begin_by, head_of, take_by, after_ordered, answer_by, without_reply_at, handle_by, CanIssue, CanTake, CanMeet, IsAfterReply}
use Rattle.pg_block.specs.Fitted.{IsPlacedLine, IsFitted, Continues}

-- one of n cores, or another
decide : (c k : ℕ) → (c ≡ k) ⊎ ((c ≡ k) → ⊥)
decide zero zero = inl refl
decide zero (suc k) = inr (λ e. cc e)
decide (suc c) zero = inr (λ e. cc e)
decide (suc c) (suc k) = at (decide c k)
  where
    at : (c ≡ k) ⊎ ((c ≡ k) → ⊥) → (suc c ≡ suc k) ⊎ ((suc c ≡ suc k) → ⊥)
    at (inl e) = inl (ap suc e)
    at (inr other) = inr (λ e. other (omega (arith, e)))

-- what a row makes of a line is in its place, and the networks are of as many cores
row_placed : (t : Parts) (n c : ℕ) (i : Input) (m : Received) (x : LineView) (w : Nets) → IsReady t i m x w → IsPlacedLine t n c x → IsPlacedLine t n c (after_row t i m x w).line
row_placed t n c i m x w ready p = subst (λ (r : RowResult). IsPlacedLine t n c r.line) (sym (row_is t i m x w ready)) (record { core = p.core; room = p.room; state = refl })

row_slots : (t : Parts) (i : Input) (m : Received) (x : LineView) (w : Nets) → IsReady t i m x w → length (after_row t i m x w).nets.slots ≡ length w.slots
row_slots t i m x w ready = ap (λ (r : RowResult). length r.nets.slots) (row_is t i m x w ready) ∙ length-set w.slots x.core _

row_lists : (t : Parts) (i : Input) (m : Received) (x : LineView) (w : Nets) → IsReady t i m x w → (after_row t i m x w).nets.lists ≡ w.lists
row_lists t i m x w ready = ap (λ (r : RowResult). r.nets.lists) (row_is t i m x w ready)

placed_after : (t : Parts) (n : ℕ) (ls : List LineView) (c : ℕ) (y : LineView) → ((k : ℕ) → k < length ls → IsPlacedLine t n k (get_or ls k no_line)) → c < length ls → IsPlacedLine t n c y
    → (k : ℕ) → k < length ls → IsPlacedLine t n k (get_or (set ls c y) k no_line)
placed_after t n ls c y all low placed k within = by (decide c k)
  where
    by : (c ≡ k) ⊎ ((c ≡ k) → ⊥) → IsPlacedLine t n k (get_or (set ls c y) k no_line)
    by (inl e) = subst (λ (j : ℕ). IsPlacedLine t n j (get_or (set ls c y) j no_line)) e (subst (IsPlacedLine t n c) (sym (get_or-set_same ls c y no_line low)) placed)
    by (inr other) = subst (IsPlacedLine t n k) (sym (get_or-set_other ls c k y no_line (λ e. other (sym e)))) (all k within)

-- a core's row is carried out, and its operations advance
row_continues : (b : Block) (c : ℕ) (i : Input) (m : Received) (ps : List Program) (w : Nets) → IsFitted b → c < length b.lines → IsReady b.tables i m (line_at b c) w
    → length w.slots ≡ length b.lines → length w.lists ≡ length b.lines → length ps ≡ length b.lines → given_of ps ≡ given_of b.programs
    → Continues b (with_row c (after_row b.tables i m (line_at b c) w) (record b { programs = ps }))
row_continues b c i m ps w f low ready slots lists programs given = record {
  tables = refl;
  given = given;
  journal = refl;
  limits = refl;
  fitted = record {
    sized = record { programs = programs ∙ sym same; slots = row_slots b.tables i m (line_at b c) w ready ∙ slots ∙ sym same; lists = ap length (row_lists b.tables i m (line_at b c) w ready) ∙ lists ∙ sym same };
    few = subst (λ (n : ℕ). n ≤ 64) (sym same) f.few;
    lines = λ k within. subst (λ (n : ℕ). IsPlacedLine b.tables n k (get_or (set b.lines c y) k no_line)) (sym same) (placed_after b.tables (length b.lines) b.lines c y f.lines low (row_placed b.tables (length b.lines) c i m (line_at b c) w ready (f.lines c low)) k (subst (λ (n : ℕ). k < n) same within));
    cores = f.cores ∙ sym same;
    numbered = f.numbered;
  };
}
  where
    y : LineView
    y = (after_row b.tables i m (line_at b c) w).line

    same : length (set b.lines c y) ≡ length b.lines
    same = length-set b.lines c y

-- nothing happens
stays : (b : Block) → IsFitted b → Continues b b
stays b f = record { tables = refl; given = refl; journal = refl; limits = refl; fitted = f }

-- operations that are begun were given
given_set : (ps : List Program) (c : ℕ) (left : List Op) → given_of (set ps c (record (get_or ps c no_program) { left = left })) ≡ given_of ps
given_set [] c left = refl
given_set (p ∷ ps) zero left = refl
given_set (p ∷ ps) (suc c) left = ap (λ (xs : List (List Op)). p.given ∷ xs) (given_set ps c left)

begin_continues : (b : Block) (c : ℕ) (o : Option Op) → IsFitted b → c < length b.lines → IfSome o (λ o. IsReady b.tables (at.Core (event_of o)) (received_op (line_at b c).line o) (line_at b c) b.nets)
    → Continues b (begin_by c o b)
begin_continues b c None f low ready = stays b f
begin_continues b c (Some o) f low ready =
    let ps : List Program = set b.programs c (record (program_at b c) { left = drop 1 (program_at b c).left }) in
    row_continues b c (at.Core (event_of o)) (received_op (line_at b c).line o) ps b.nets f low ready f.sized.slots f.sized.lists (length-set b.programs c _ ∙ f.sized.programs) (given_set b.programs c (drop 1 (program_at b c).left))

pub issue_continues : (b : Block) (c : ℕ) → IsFitted b → CanIssue c b → Continues b (after_issue c b)
issue_continues b c f can = begin_continues b c (next_operation b c) f can.core can.ready

take_continues : (b : Block) (c : ℕ) (o : Option Ordered) → IsFitted b → c < length b.lines
    → IfSome o (λ m. IsReady b.tables (ordered_input (line_at b c).line m) (received_ordered (line_at b c).line m) (line_at b c) (without_head c b.nets)) → Continues b (take_by c o b)
take_continues b c None f low ready = stays b f
take_continues b c (Some m) f low ready =
    row_continues b c (ordered_input (line_at b c).line m) (received_ordered (line_at b c).line m) b.programs (without_head c b.nets) f low ready f.sized.slots (length-set b.nets.lists c _ ∙ f.sized.lists) f.sized.programs refl

pub ordered_continues : (b : Block) (c : ℕ) → IsFitted b → CanTake c b → Continues b (after_ordered c b)
ordered_continues b c f can = take_continues b c (head_of b c) f can.core can.ready

pub reply_continues : (b : Block) (i : ℕ) (m : Reply) (h : NumberedDirectory) → IsFitted b → CanMeet m (without_reply_at i b) → IsAfterReply m b h → Continues b (answer_by i (Some m) h b)
reply_continues b i (Data r c v n k) h f can is =
    row_continues b c (reply_input (line_at b c).line (Data r c v n k)) (received_reply b.tables.protocol (line_at b c).line (Data r c v n k)) b.programs (without_reply i b.nets) f can.core can.ready f.sized.slots f.sized.lists f.sized.programs refl
reply_continues b i (InvAck c k) h f can is =
    row_continues b c (reply_input (line_at b c).line (InvAck c k)) (received_reply b.tables.protocol (line_at b c).line (InvAck c k)) b.programs (without_reply i b.nets) f can.core can.ready f.sized.slots f.sized.lists f.sized.programs refl
reply_continues b i (WbData v k) h f can is = record {
  tables = refl;
  given = refl;
  journal = refl;
  limits = refl;
  fitted = record { sized = record { programs = f.sized.programs; slots = f.sized.slots; lists = f.sized.lists }; few = f.few; lines = f.lines; cores = is.2 ∙ f.cores; numbered = is.1 };
}

-- The directory's messages leave as many cores

posted_length : (ms : List (ℕ × Ordered)) (w : Nets) → length (send_ordered ms w).lists ≡ length w.lists
posted_length [] w = refl
posted_length (m ∷ ms) w = posted_length ms (with_ordered m.0 m.1 w) ∙ length-set w.lists m.0 _

posted_slots : (ms : List (ℕ × Ordered)) (w : Nets) → (send_ordered ms w).slots ≡ w.slots
posted_slots [] w = refl
posted_slots (m ∷ ms) w = posted_slots ms (with_ordered m.0 m.1 w)

sent_slots : (rs : List Reply) (w : Nets) → (send_replies rs w).slots ≡ w.slots
sent_slots [] w = refl
sent_slots (r ∷ rs) w = sent_slots rs (with_reply r w)

sent_lists : (rs : List Reply) (w : Nets) → (send_replies rs w).lists ≡ w.lists
sent_lists [] w = refl
sent_lists (r ∷ rs) w = sent_lists rs (with_reply r w)

result_slots : (b : Block) (c : ℕ) (a : SentRequest) (w : Nets) → (result_of_request b.tables.protocol c a b.directory.directory w).nets.slots ≡ w.slots
result_slots b c a w = by (choice_by b.tables.protocol b.directory.directory c a)
  where
    posts : DirChoice → Posted
    posts ch = posts_for b.tables.protocol b.directory.directory c a ch

    by : (o : Option DirChoice) → (result_of_choice b.tables.protocol b.directory.directory c a w o).nets.slots ≡ w.slots
    by None = refl
    by (Some ch) = sent_slots (posts ch).replies (send_ordered (posts ch).posts w) ∙ posted_slots (posts ch).posts w

result_lists : (b : Block) (c : ℕ) (a : SentRequest) (w : Nets) → length (result_of_request b.tables.protocol c a b.directory.directory w).nets.lists ≡ length w.lists
result_lists b c a w = by (choice_by b.tables.protocol b.directory.directory c a)
  where
    posts : DirChoice → Posted
    posts ch = posts_for b.tables.protocol b.directory.directory c a ch

    by : (o : Option DirChoice) → length (result_of_choice b.tables.protocol b.directory.directory c a w o).nets.lists ≡ length w.lists
    by None = refl
    by (Some ch) = ap length (sent_lists (posts ch).replies (send_ordered (posts ch).posts w)) ∙ posted_length (posts ch).posts w

pub request_continues : (b : Block) (c number : ℕ) (o : Option SentRequest) → IsFitted b → IsNumbered b.tables.home (handle_by c o number b).directory → Continues b (handle_by c o number b)
request_continues b c number None f numbered = stays b f
request_continues b c number (Some a) f numbered = record {
  tables = refl;
  given = refl;
  journal = refl;
  limits = refl;
  fitted = record {
    sized = record {
      programs = f.sized.programs;
      slots = ap length (result_slots b c a (without_request c b.nets)) ∙ length-set b.nets.slots c None ∙ f.sized.slots;
      lists = result_lists b c a (without_request c b.nets) ∙ f.sized.lists;
    };
    few = f.few;
    lines = f.lines;
    cores = f.cores;
    numbered = numbered;
  };
}
