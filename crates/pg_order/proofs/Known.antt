-- What is known of each entry.
use Rattle.std.proofs.Common.{ℕ, zero, suc, ◌<◌, ◌≤◌, arith, sym, subst}
use Rattle.pg_perm.specs.declared.draft.Draft.{Draft}
use Rattle.pg_perm.specs.Drafts.{IsWellFormed}
use Rattle.pg_shape.specs.Shaped.{IsShaped}
use Rattle.pg_directory.specs.Sound.{IsSound}
use Rattle.pg_directory.specs.Requests.{IsHandled}
use Rattle.pg_directory.proofs.Start.{start_is_sound}
use Rattle.pg_directory.proofs.Handled.{legal_request_is_handled}
use Rattle.pg_order.specs.Orders.{DirOrder, IsDirOrder}

pub record IsKnown (d : Draft) (n : ℕ) (p : DirOrder) : Type 0 where
  pub past : IsDirOrder d n p
  pub sound : (j : ℕ) → j ≤ p.top → IsSound d n (p.dir_entry j)
  pub handled : (j : ℕ) → j < p.top → IsHandled d n (p.dir_entry j) (p.at j)

sounds : (d : Draft) (n : ℕ) (p : DirOrder) → IsWellFormed d → IsShaped d → IsDirOrder d n p → (j : ℕ) → j ≤ p.top → IsSound d n (p.dir_entry j)
sounds d n p w sh h zero low = subst (IsSound d n) (sym h.starts) (start_is_sound d n w sh)
sounds d n p w sh h (suc j) low =
    let before = sounds d n p w sh h j (omega (arith, low)) in
    let lt : j < p.top = omega (arith, low) in
    subst (IsSound d n) (sym (h.follows j lt)) (legal_request_is_handled d n (p.dir_entry j) (p.at j) w sh before (h.inside j lt) (h.legal j lt)).sound

pub known : (d : Draft) (n : ℕ) (p : DirOrder) → IsWellFormed d → IsShaped d → IsDirOrder d n p → IsKnown d n p
known d n p w sh h = record {
  past = h;
  sound = sounds d n p w sh h;
  handled = λ j lt. legal_request_is_handled d n (p.dir_entry j) (p.at j) w sh (sounds d n p w sh h j (omega (arith, lt))) (h.inside j lt) (h.legal j lt);
}
