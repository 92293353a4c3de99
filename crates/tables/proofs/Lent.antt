-- Loans that stay the same (`SameColumns`): at the start, one change after another, and a host's tables at the end. Assumes nothing.
use Rattle.std.proofs.Common.{◌≡◌, ℕ, List, length, refl, ap, ◌∙◌, subst}
use Rattle.std.specs.Borrow.{Bor}
use Rattle.tables.specs.Stored.{stored_of}
use Rattle.tables.specs.Lent.{columns_lent, SameColumns}
use Rattle.tables.specs.declared.ColumnsMut.{ColumnsMut}

pub same-start : {a : ColumnsMut} → SameColumns a a
same-start =
    record {
      heads = refl;
      parents = refl;
      rows = refl;
      counts = refl;
      next = refl;
      parents-long = refl;
      rows_long = refl;
      counts-long = refl;
      next-long = refl;
    }

pub same-again : {a b c : ColumnsMut} → SameColumns a b → SameColumns b c → SameColumns a c
same-again p q =
    record {
      heads = q.heads ∙ p.heads;
      parents = q.parents ∙ p.parents;
      rows = q.rows ∙ p.rows;
      counts = q.counts ∙ p.counts;
      next = q.next ∙ p.next;
      parents-long = q.parents-long ∙ p.parents-long;
      rows_long = q.rows_long ∙ p.rows_long;
      counts-long = q.counts-long ∙ p.counts-long;
      next-long = q.next-long ∙ p.next-long;
    }

pub same-count : {a b : ColumnsMut} → SameColumns a b → length b.heads.now ≡ length a.heads.now
same-count e = ap (λ (h : Bor (List ℕ)). length h.now) e.heads

-- a host's tables, which a struct lent, are as the struct has them
pub lent-back : {a b : ColumnsMut} {ps rs cs ns : List ℕ} → SameColumns a b → ps ≡ b.parents.now → rs ≡ b.rows.now → cs ≡ b.counts.now → ns ≡ b.next.now → (f : ℕ) →
    columns_lent b f ≡ stored_of a.heads.now ps rs cs ns f
lent-back {a} {b} e p r c n f =
    rw (p, r, c, n) (subst (λ (h : Bor (List ℕ)). columns_lent b f ≡ stored_of h.now b.parents.now b.rows.now b.counts.now b.next.now f) e.heads refl)
