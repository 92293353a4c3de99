-- The loops that bring back, each table filled from the front: all parents, and all records in three tables at once. Assumes nothing.
use mathlib.Core.Path.{◌≡◌, sym, ap, ◌∙◌}
use mathlib.Core.List.{List, map}
use Prim.Native.Nat.{ℕ, ◌+◌, ◌*◌, ◌≤◌, ◌<◌}
use native.Mathlib.Omega.{arith}
use lib.ListN.{length, get_or, set, length-map, get_or-map}
use Rattle.lists.proofs.Over.{Filling, filling-start, filling-long, filling-next, filling-end}
use Rattle.workspace.specs.Regions.{cell, region}
use Rattle.workspace.proofs.Regions.{region-length, region-cell}
use Rattle.snapshot.specs.Snapshot.{paired_row, paired_count, CanUnpair, Unpaired, Taken}

-- ---- all parents

-- the first k parents are back
pub record Taking (parents₀ work : List ℕ) (a : ℕ) (parents : List ℕ) (k : ℕ) : Type 0 where
  pub inside : a + length parents₀ ≤ length work
  pub back : Filling (map paired_row (region work a (length parents₀))) parents₀ parents k

pub taking-start : {parents work : List ℕ} {a : ℕ} → a + length parents ≤ length work → Taking parents work a parents 0
taking-start {parents} {work} {a} h =
    let m : ℕ = length parents in
    record { inside = h; back = filling-start (map paired_row (region work a m)) parents (length-map (region work a m) paired_row ∙ region-length work a m h) }

module _ {parents₀ work : List ℕ} {a : ℕ} {parents : List ℕ} {k : ℕ} (t : Taking parents₀ work a parents k) where
  pub taking-long : length parents ≡ length parents₀
  taking-long = filling-long t.back

  pub taking-next : k < length parents₀ → Taking parents₀ work a (set parents k (paired_row (cell work a k))) (k + 1)
  taking-next h =
      let m : ℕ = length parents₀ in
      record {
        inside = t.inside;
        back = filling-next t.back h (get_or-map paired_row (region work a m) k 0 ∙ ap paired_row (region-cell work a m k h));
      }

  pub taking-end : length parents₀ ≤ k → Taken parents work a
  taking-end h = filling-end t.back h ∙ ap (λ (n : ℕ). map paired_row (region work a n)) (sym taking-long)

-- ---- all records

-- the first k records are back
pub record Unpairing (rows₀ counts₀ next₀ work : List ℕ) (a : ℕ) (rows counts next : List ℕ) (k : ℕ) : Type 0 where
  pub can : CanUnpair rows₀ counts₀ next₀ work a
  pub within : k ≤ length next₀
  pub rows_back : Filling (map paired_row (region work a (length next₀))) rows₀ rows k
  pub counts-back : Filling (map paired_count (region work a (length next₀))) counts₀ counts k
  pub next-back : Filling (region work (a + length next₀) (length next₀)) next₀ next k

pub unpairing-start : {rows counts next work : List ℕ} {a : ℕ} → CanUnpair rows counts next work a → Unpairing rows counts next work a rows counts next 0
unpairing-start {rows} {counts} {next} {work} {a} c =
    let f : ℕ = length next in
    let inside : a + 2 * f ≤ length work = c.inside in
    let long : length (region work a f) ≡ f = region-length work a f (omega arith) in
    record {
      can = c;
      within = omega arith;
      rows_back = filling-start (map paired_row (region work a f)) rows (length-map (region work a f) paired_row ∙ long ∙ sym c.rows_long);
      counts-back = filling-start (map paired_count (region work a f)) counts (length-map (region work a f) paired_count ∙ long ∙ sym c.counts-long);
      next-back = filling-start (region work (a + f) f) next (region-length work (a + f) f (omega arith));
    }

module _ {rows₀ counts₀ next₀ work : List ℕ} {a : ℕ} {rows counts next : List ℕ} {k : ℕ} (u : Unpairing rows₀ counts₀ next₀ work a rows counts next k) where
  pub unpairing-next : k < length next₀ →
      Unpairing rows₀ counts₀ next₀ work a (set rows k (paired_row (cell work a k))) (set counts k (paired_count (cell work a k)))
      (set next k (cell work (a + length next₀) k)) (k + 1)
  unpairing-next h =
      let c = u.can in
      let f : ℕ = length next₀ in
      let pair : get_or (region work a f) k 0 ≡ cell work a k = region-cell work a f k h in
      record {
        can = c;
        within = omega arith;
        rows_back = filling-next u.rows_back (omega (arith, c.rows_long)) (get_or-map paired_row (region work a f) k 0 ∙ ap paired_row pair);
        counts-back =
            filling-next u.counts-back (omega (arith, c.counts-long)) (get_or-map paired_count (region work a f) k 0 ∙ ap paired_count pair);
        next-back = filling-next u.next-back h (region-cell work (a + f) f k h);
      }

  pub unpairing-end : length next₀ ≤ k → Unpaired rows counts next work a
  unpairing-end h =
      let c = u.can in
      let e : length next₀ ≡ length next = sym (filling-long u.next-back) in
      record {
        rows_are = filling-end u.rows_back (omega (arith, c.rows_long)) ∙ ap (λ (n : ℕ). map paired_row (region work a n)) e;
        counts-are = filling-end u.counts-back (omega (arith, c.counts-long)) ∙ ap (λ (n : ℕ). map paired_count (region work a n)) e;
        next-are = filling-end u.next-back h ∙ ap (λ (n : ℕ). region work (a + n) n) e;
      }
