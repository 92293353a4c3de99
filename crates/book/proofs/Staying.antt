-- Columns that stay, in this order: a chain cut at a record by its place; where one chain and the free chain of the pool changed, and the rows
-- at no other record, every other id's column stays (column-stays); a column that stays is the same column, booked as before.
-- Assumes nothing.
use mathlib.Core.Path.{◌≡◌, sym, ap, ◌∙◌}
use mathlib.Core.Logic.{◌≢◌}
use mathlib.Core.Bool.{not}
use mathlib.Core.List.{List, [], ◌∷◌, ◌++◌}
use Prim.Native.Nat.{ℕ, suc, ◌+◌, ◌-◌, ◌≤◌}
use native.Mathlib.Omega.{arith}
use lib.Dec.{eqb}
use lib.ListN.{length, take, drop}
use lib.Seq.{split_at, take-suc}
use Rattle.lists.specs.Lists.{at, put, times, values_at}
use Rattle.lists.proofs.Place.{values-frame}
use Rattle.symbolic.specs.Columns.{Column, column_with}
use Rattle.pool.specs.Chains.{chain}
use Rattle.pool.specs.Whole.{Pool}
use Rattle.pool.proofs.Chains.{linked-low}
use Rattle.pool.proofs.Whole.{pool-linked}
use Rattle.pool.proofs.Changes.{PoolAfter}
use Rattle.book.specs.Book.{Book, book_of, is_booked, column_for, ColumnStays}

-- ---- a list cut after its first n, the last of which is p

pub record Cut (cs : List ℕ) (n p : ℕ) : Type 0 where
  pub before : List ℕ
  pub rest : List ℕ
  pub parts : cs ≡ before ++ (p ∷ rest)
  pub taken : take n cs ≡ before ++ (p ∷ [])

pub cut_at : (cs : List ℕ) (n p : ℕ) → 1 ≤ n → n ≤ length cs → p ≡ at cs n → Cut cs n p
cut_at cs n p low high e =
    let j : suc (n - 1) ≡ n = omega arith in
    record {
      before = take (n - 1) cs;
      rest = drop (suc (n - 1)) cs;
      parts = split_at cs (n - 1) 0 (omega arith) ∙ ap (λ (x : ℕ). take (n - 1) cs ++ (x ∷ drop (suc (n - 1)) cs)) (sym e);
      taken = ap (λ (k : ℕ). take k cs) (sym j) ∙ take-suc cs (n - 1) 0 (omega arith) ∙ ap (λ (x : ℕ). take (n - 1) cs ++ (x ∷ [])) (sym e);
    }

-- ---- another id's column

pub column-stays : {ns₀ hs₀ : List ℕ} {f₀ k : ℕ} {ns : List ℕ} {h f : ℕ} {rs fs : List ℕ} → Pool ns₀ hs₀ f₀ → PoolAfter ns₀ hs₀ f₀ k ns h f rs fs →
    (rows₀ rows : List ℕ) → ((x : ℕ) → 1 ≤ x → times x (chain ns₀ (at hs₀ k)) + times x (chain ns₀ f₀) ≡ 0 → at rows x ≡ at rows₀ x) →
    (l : ℕ) → 1 ≤ l → l ≤ length hs₀ → l ≢ k → ColumnStays (book_of hs₀ rows₀ ns₀ f₀) (book_of (put hs₀ k h) rows ns f) l
column-stays {ns₀} {hs₀} {f₀} {k} {ns} {h} {f} p a rows₀ rows same l low high d =
    let e : at (put hs₀ k h) l ≡ at hs₀ l = a.other-head l low d in
    let r : chain ns (at (put hs₀ k h) l) ≡ chain ns₀ (at hs₀ l) = ap (chain ns) e ∙ a.other-same l low high d in
    record {
      head = e;
      records = r;
      rows = ap (values_at rows) r ∙ values-frame rows₀ rows (chain ns₀ (at hs₀ l)) (λ x n. same x (linked-low ns₀ (at hs₀ l) (chain ns₀ (at hs₀ l)) x (pool-linked p l low high) n) (a.other-apart l low high d x n));
    }

module _ {b a : Book} {l : ℕ} (s : ColumnStays b a l) where
  pub stays-column : column_for a l ≡ column_for b l
  stays-column = ap {B = Column} (λ rows. column_with l rows) s.rows

  pub stays-booked : is_booked a.heads l ≡ is_booked b.heads l
  stays-booked = ap (λ (h : ℕ). not (eqb h 0)) s.head
