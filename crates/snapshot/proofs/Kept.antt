-- Laws of what is kept: row and multiplicity are read back from their place; what stays kept while the work table changes
-- (`records-stay`, `parents-stay`); what the places say is what was kept (`records-back`, `parents-back`). Assumes nothing.
use mathlib.Core.Path.{◌≡◌, refl, sym, ap, ◌∙◌}
use mathlib.Core.Logic.{inl, inr}
use mathlib.Core.List.{List, [], ◌∷◌, map}
use Prim.Native.Nat.{ℕ, zero, suc, ◌+◌, ◌*◌, ◌≤◌, ◌<◌}
use native.Mathlib.Omega.{arith}
use lib.ListN.{length, get_or, get_or-map}
use lib.Seq.{ext_get_or}
use Rattle.workspace.specs.Regions.{cell, region, Apart, OnlyIn}
use Rattle.workspace.specs.Parts.{upper_weight}
use Rattle.workspace.proofs.Regions.{region-length, region-cell, only-region}
use Rattle.snapshot.specs.Snapshot.{paired, paired_row, paired_count, all_paired, RecordsKept, ParentsKept, CanUnpair, Unpaired, Taken, CanRestore, Restored}

-- ---- row and multiplicity in one place

pub paired-row : (i n : ℕ) → i < upper_weight → paired_row (paired i n) ≡ i
paired-row i n h = omega arith

pub paired-count : (i n : ℕ) → i < upper_weight → paired_count (paired i n) ≡ n
paired-count i n h = omega arith

pub all-paired-length : (is ns : List ℕ) → length is ≡ length ns → length (all_paired is ns) ≡ length is
unfolding all_paired
all-paired-length [] ns e = refl
all-paired-length (i ∷ is) [] e = absurd (omega arith)
all-paired-length (i ∷ is) (n ∷ ns) e = ap suc (all-paired-length is ns (omega arith))

pub all-paired-at : (is ns : List ℕ) (k : ℕ) → k < length is → k < length ns → get_or (all_paired is ns) k 0 ≡ paired (get_or is k 0) (get_or ns k 0)
unfolding all_paired
all-paired-at [] ns k p q = absurd (omega arith)
all-paired-at (i ∷ is) [] k p q = absurd (omega arith)
all-paired-at (i ∷ is) (n ∷ ns) zero p q = refl
all-paired-at (i ∷ is) (n ∷ ns) (suc k) p q = all-paired-at is ns k (omega arith) (omega arith)

-- what was paired is read back
pub rows_back : (is ns : List ℕ) → length is ≡ length ns → ((k : ℕ) → get_or is k 0 < upper_weight) → map paired_row (all_paired is ns) ≡ is
unfolding all_paired
rows_back [] ns e h = refl
rows_back (i ∷ is) [] e h = absurd (omega arith)
rows_back (i ∷ is) (n ∷ ns) e h = rw (paired-row i n (h 0), rows_back is ns (omega arith) (λ k. h (suc k))) refl

pub counts-back : (is ns : List ℕ) → length is ≡ length ns → ((k : ℕ) → get_or is k 0 < upper_weight) → map paired_count (all_paired is ns) ≡ ns
unfolding all_paired
counts-back [] [] e h = refl
counts-back [] (n ∷ ns) e h = absurd (omega arith)
counts-back (i ∷ is) [] e h = absurd (omega arith)
counts-back (i ∷ is) (n ∷ ns) e h = rw (paired-count i n (h 0), counts-back is ns (omega arith) (λ k. h (suc k))) refl

-- ---- what stays kept

-- records, if the work table changed elsewhere only
pub records-stay : {work after : List ℕ} {a b l : ℕ} {rows counts next : List ℕ} → RecordsKept work a rows counts next → OnlyIn b l work after →
    Apart b l a (2 * length next) → RecordsKept after a rows counts next
records-stay {a} {b} {l} {next = next} k o s =
    let f : ℕ = length next in
    record {
      inside = omega (arith, k.inside, o.same_length);
      pairs = only-region o a f (elim s [ inl p ↦ inl p | inr p ↦ inr (omega arith) ]) ∙ k.pairs;
      nexts = only-region o (a + f) f (elim s [ inl p ↦ inl (omega arith) | inr p ↦ inr (omega arith) ]) ∙ k.nexts;
    }

-- parents, if the lower parts of their places hold what they held
pub parents-stay : {work after : List ℕ} {a : ℕ} {parents : List ℕ} → ParentsKept work a parents → length after ≡ length work →
    ((i : ℕ) → i < length parents → paired_row (cell after a i) ≡ paired_row (cell work a i)) → ParentsKept after a parents
parents-stay k e h = record { inside = omega (arith, k.inside); parents-are = λ i l. h i l ∙ k.parents-are i l }

-- ---- what can be brought back

module _ {rows counts next work : List ℕ} {a : ℕ} {rows₀ counts₀ next₀ : List ℕ} (c : CanRestore rows counts next work a rows₀ counts₀ next₀) where
  pub can-unpair : CanUnpair rows counts next work a
  can-unpair =
      let t = c.can in
      let within : a + 2 * length next₀ ≤ length work = c.kept.inside in
      let f : length next ≡ length next₀ = c.next-long in
      record {
        inside = omega arith;
        rows_long = omega (arith, c.rows_long, t.rows_long);
        counts-long = omega (arith, c.counts-long, t.counts-long);
        counts-small = λ k h.
            let e : cell work a k ≡ paired (get_or rows₀ k 0) (get_or counts₀ k 0) =
            sym (region-cell work a (length next₀) k (omega arith)) ∙ ap (λ (xs : List ℕ). get_or xs k 0) c.kept.pairs ∙
            all-paired-at rows₀ counts₀ k (omega (arith, t.rows_long)) (omega (arith, t.counts-long)) in
            omega (arith, t.rows-small k, t.counts-small k);
      }

  -- what the places say is what was kept
  pub records-back : {rows₁ counts₁ next₁ : List ℕ} → length next₁ ≡ length next → Unpaired rows₁ counts₁ next₁ work a →
      Restored rows₀ counts₀ next₀ rows₁ counts₁ next₁
  records-back {rows₁} {counts₁} {next₁} f u =
      let t = c.can in
      let g : length next₁ ≡ length next₀ = f ∙ c.next-long in
      let s : length rows₀ ≡ length counts₀ = t.rows_long ∙ sym t.counts-long in
      let q : region work a (length next₁) ≡ all_paired rows₀ counts₀ = ap (λ (n : ℕ). region work a n) g ∙ c.kept.pairs in
      record {
        rows_are = u.rows_are ∙ ap (map paired_row) q ∙ rows_back rows₀ counts₀ s t.rows-small;
        counts-are = u.counts-are ∙ ap (map paired_count) q ∙ counts-back rows₀ counts₀ s t.rows-small;
        next-are = u.next-are ∙ ap (λ (n : ℕ). region work (a + n) n) g ∙ c.kept.nexts;
      }

pub parents-back : {parents work : List ℕ} {a : ℕ} {parents₀ : List ℕ} → ParentsKept work a parents₀ → length parents ≡ length parents₀ →
    Taken parents work a → parents ≡ parents₀
parents-back {parents} {work} {a} {parents₀} k e t =
    let m : ℕ = length parents in
    let n : length (region work a m) ≡ m = region-length work a m (omega (arith, k.inside)) in
    ext_get_or 0 parents parents₀ e (λ i h.
    ap (λ (xs : List ℕ). get_or xs i 0) t ∙ get_or-map paired_row (region work a m) i 0 ∙ ap paired_row (region-cell work a m i h) ∙
    k.parents-are i (omega arith))
