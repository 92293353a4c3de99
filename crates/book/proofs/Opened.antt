-- An opened book: it is sound for every m (opened-sound), and has no column (opened-columns).
-- Assumes nothing.
use mathlib.Core.Path.{◌≡◌, sym, ◌∙◌}
use mathlib.Core.Logic.{inl, inr}
use mathlib.Core.Bool.{true, false, true≢false}
use mathlib.Core.List.{[]}
use Prim.Native.Nat.{ℕ, zero, suc, ◌-◌}
use native.Mathlib.Omega.{arith}
use lib.ListN.{length, replicate, length-replicate, get_or-replicate, get_or-eq_default}
use Rattle.lists.specs.Lists.{at, up_from}
use Rattle.lists.proofs.Tests.{lt-or-le}
use Rattle.pool.proofs.Opening.{pool-opened}
use Rattle.book.specs.Book.{is_booked, columns_from, columns_in, is_sound}
use Rattle.book.specs.Entries.{opened}
use Rattle.book.proofs.Columns.{columns-nil, columns-absent, zero-absent}
use Rattle.book.proofs.Sound.{of-sound}

pub zeros-at : (n x : ℕ) → at (replicate n 0) x ≡ 0
zeros-at n x =
    elim (lt-or-le (x - 1) n) [
      | inl h ↦ get_or-replicate n (x - 1) 0 0 h
      | inr h ↦ get_or-eq_default (replicate n 0) 0 {n = x - 1} (omega (arith, length-replicate {A = ℕ} n 0))
    ]

-- ---- the opened book

pub opened-absent : (n c l : ℕ) → is_booked (opened n c).heads l ≡ false
opened-absent n c l = zero-absent (replicate n 0) l (zeros-at n l)

pub opened-sound : (m n c : ℕ) → is_sound m (opened n c) ≡ true
unfolding up_from
opened-sound m n c =
    of-sound m (opened n c)
    (record {
      pool = pool-opened 0 c (omega arith) n;
      zero = λ x h. zeros-at c x;
      fits = λ l p e. absurd (true≢false (sym e ∙ opened-absent n c l));
    })

from-opened : (n c k i : ℕ) → columns_from (opened n c) i k ≡ []
from-opened n c zero i = columns-nil (opened n c) i
from-opened n c (suc k) i = columns-absent (opened n c) i k (opened-absent n c i) ∙ from-opened n c k (suc i)

pub opened-columns : (n c : ℕ) → columns_in (opened n c) ≡ []
opened-columns n c = from-opened n c (length (opened n c).heads) 1
