-- One chain and the free chain with their entries, changed: the start, a multiplicity written, a free record taken in, a record zeroed and given back
-- (`Rewritten` of specs/Commit.antt, by pool's laws for the nexts). A record stands once in the two chains, so each store is known to miss the others.
-- Assumes nothing.
use mathlib.Core.Path.{◌≡◌, refl, ap, ◌∙◌}
use mathlib.Core.Logic.{inl, inr, ◌≢◌}
use mathlib.Core.List.{List, [], ◌∷◌, ◌++◌}
use Prim.Native.Nat.{ℕ, ◌+◌, ◌≤◌}
use native.Mathlib.Omega.{arith}
use lib.ListN.{length}
use Rattle.lists.specs.Lists.{at, put, times}
use Rattle.lists.proofs.Tests.{eq-or-ne}
use Rattle.lists.proofs.Times.{times-self, times-other, times-cons, times-mid, differs}
use Rattle.lists.proofs.Place.{put-length, at-put-same, at-put-other}
use Rattle.pool.specs.Chains.{chain}
use Rattle.pool.specs.Changes.{Beside, insert_after, unlink_after}
use Rattle.pool.proofs.Chains.{linked-low, linked-high}
use Rattle.pool.proofs.Changes.{changed-start, changed-trans, changed-beside, changed-insert, changed-unlink}
use Rattle.columns.specs.Commit.{ZeroAt, Rewritten}

-- what holds before the first change
pub record Base (rows₀ counts₀ next₀ : List ℕ) (head free₀ : ℕ) : Type 0 where
  pub rows_long : length rows₀ ≡ length next₀
  pub counts-long : length counts₀ ≡ length next₀
  pub beside : Beside next₀ head free₀ (chain next₀ head) (chain next₀ free₀)

module _ {rows₀ counts₀ next₀ : List ℕ} {head free₀ : ℕ} (b : Base rows₀ counts₀ next₀ head free₀) where
  module _ {rows counts next : List ℕ} {free : ℕ} {records rest : List ℕ} (k : Rewritten rows₀ counts₀ next₀ head free₀ rows counts next free records rest) where
    pub rewritten-once : (x : ℕ) → times x records + times x rest ≤ 1
    rewritten-once x = omega (arith, k.changed.once x, b.beside.once x)

    pub rewritten-beside : Beside next head free records rest
    rewritten-beside = changed-beside k.changed b.beside.once

    pub rewritten-low : (x : ℕ) → 1 ≤ times x records → 1 ≤ x
    rewritten-low x n = linked-low next head records x k.changed.linked n

    pub rewritten-high : (x : ℕ) → 1 ≤ times x records → x ≤ length next
    rewritten-high x n = linked-high next head records x k.changed.linked n

    pub free-low : (x : ℕ) → 1 ≤ times x rest → 1 ≤ x
    free-low x n = linked-low next free rest x k.changed.unused n

    -- a record of the two chains is none of the others
    outside : (q : ℕ) → 1 ≤ times q records + times q rest → (x : ℕ) → times x (chain next₀ head) + times x (chain next₀ free₀) ≡ 0 → x ≢ q
    outside q n x z e =
        let here : times x records + times x rest ≡ 0 = omega (arith, k.changed.once x) in
        omega (arith, ap (λ (y : ℕ). times y records + times y rest) e)

    -- ---- a multiplicity written

    pub rewritten-recount : (q v : ℕ) → 1 ≤ times q records → Rewritten rows₀ counts₀ next₀ head free₀ rows (put counts q v) next free records rest
    rewritten-recount q v n =
        let low : 1 ≤ q = rewritten-low q n in
        record {
          changed = k.changed;
          rows_long = k.rows_long;
          counts-long = put-length counts q v ∙ k.counts-long;
          zero = λ x m. ((k.zero x m).0, at-put-other counts q x v low (free-low x m) (differs x q rest m (omega (arith, rewritten-once q))) ∙ (k.zero x m).1);
          frame = λ x l z. ((k.frame x l z).0, at-put-other counts q x v low l (outside q (omega arith) x z) ∙ (k.frame x l z).1);
          keep = k.keep;
        }

  -- ---- the first free record taken in after p, with a row that no record of the chain had

  module _ {rows counts next : List ℕ} (ds : List ℕ) (p : ℕ) (bs : List ℕ) (q : ℕ) (fs : List ℕ)
      (k : Rewritten rows₀ counts₀ next₀ head free₀ rows counts next q (ds ++ (p ∷ bs)) (q ∷ fs)) where
    pub rewritten-insert : (i v : ℕ) → ((x : ℕ) → 1 ≤ times x (chain next₀ head) → at rows₀ x ≢ i) →
        Rewritten rows₀ counts₀ next₀ head free₀ (put rows q i) (put counts q v) (insert_after next p q) (at next q) (ds ++ (p ∷ (q ∷ bs))) fs
    rewritten-insert i v new =
        let self : times q (q ∷ fs) ≡ 1 + times q fs = times-self q fs in
        let one : times q (ds ++ (p ∷ bs)) + times q (q ∷ fs) ≤ 1 = rewritten-once k q in
        let low : 1 ≤ q = free-low k q (omega arith) in
        let high : q ≤ length next = linked-high next q (q ∷ fs) q k.changed.unused (omega arith) in
        let long : q ≤ length rows = omega (arith, k.rows_long, b.rows_long, k.changed.same_length) in
        let free : (x : ℕ) → 1 ≤ times x fs → 1 ≤ times x (q ∷ fs) = λ x m. omega (arith, times-cons x q fs) in
        let other : (x : ℕ) → 1 ≤ times x fs → x ≢ q = λ x m. differs x q fs m (omega arith) in
        record {
          changed = changed-trans k.changed (changed-insert ds p bs q fs (rewritten-beside k));
          rows_long = put-length rows q i ∙ k.rows_long;
          counts-long = put-length counts q v ∙ k.counts-long;
          zero = λ x m. (
            at-put-other rows q x i low (free-low k x (free x m)) (other x m) ∙ (k.zero x (free x m)).0,
            at-put-other counts q x v low (free-low k x (free x m)) (other x m) ∙ (k.zero x (free x m)).1,
          );
          frame = λ x l z. (
            at-put-other rows q x i low l (outside k q (omega arith) x z) ∙ (k.frame x l z).0,
            at-put-other counts q x v low l (outside k q (omega arith) x z) ∙ (k.frame x l z).1,
          );
          keep = λ x y m n e. elim (eq-or-ne y q) [
            | inl d ↦ absurd (new x m (e ∙ ap (at (put rows q i)) d ∙ at-put-same rows q i low long))
            | inr d ↦
                let there : 1 ≤ times y (ds ++ (p ∷ bs)) = omega (arith, times-mid y ds p (q ∷ bs), times-mid y ds p bs, times-other y q bs d) in
                k.keep x y m there (e ∙ at-put-other rows q y i low (rewritten-low k y there) d)
          ];
        }

  -- ---- the record after p zeroed and given back

  module _ {rows counts next : List ℕ} {z : ℕ} (ds : List ℕ) (p q : ℕ) (bs fs : List ℕ)
      (k : Rewritten rows₀ counts₀ next₀ head free₀ rows counts next z (ds ++ (p ∷ (q ∷ bs))) fs) where
    pub rewritten-unlink : Rewritten rows₀ counts₀ next₀ head free₀ (put rows q 0) (put counts q 0) (unlink_after next p q z) q (ds ++ (p ∷ bs)) (q ∷ fs)
    rewritten-unlink =
        let mid : times q (ds ++ (p ∷ (q ∷ bs))) ≡ times q ds + (times q (p ∷ []) + times q (q ∷ bs)) = times-mid q ds p (q ∷ bs) in
        let self : times q (q ∷ bs) ≡ 1 + times q bs = times-self q bs in
        let one : times q (ds ++ (p ∷ (q ∷ bs))) + times q fs ≤ 1 = rewritten-once k q in
        let low : 1 ≤ q = rewritten-low k q (omega arith) in
        let high : q ≤ length next = rewritten-high k q (omega arith) in
        let rows_long : q ≤ length rows = omega (arith, k.rows_long, b.rows_long, k.changed.same_length) in
        let counts-long : q ≤ length counts = omega (arith, k.counts-long, b.counts-long, k.changed.same_length) in
        let gone : times q (ds ++ (p ∷ bs)) ≡ 0 = omega (arith, times-mid q ds p bs) in
        record {
          changed = changed-trans k.changed (changed-unlink ds p q bs fs (rewritten-beside k));
          rows_long = put-length rows q 0 ∙ k.rows_long;
          counts-long = put-length counts q 0 ∙ k.counts-long;
          zero = λ x m. elim (eq-or-ne x q) [
            | inl d ↦ (ap (at (put rows q 0)) d ∙ at-put-same rows q 0 low rows_long, ap (at (put counts q 0)) d ∙ at-put-same counts q 0 low counts-long)
            | inr d ↦
                let there : 1 ≤ times x fs = omega (arith, times-other x q fs d) in (
                  at-put-other rows q x 0 low (free-low k x there) d ∙ (k.zero x there).0,
                  at-put-other counts q x 0 low (free-low k x there) d ∙ (k.zero x there).1,
                )
          ];
          frame = λ x l n. (
            at-put-other rows q x 0 low l (outside k q (omega arith) x n) ∙ (k.frame x l n).0,
            at-put-other counts q x 0 low l (outside k q (omega arith) x n) ∙ (k.frame x l n).1,
          );
          keep = λ x y m n e.
              let there : 1 ≤ times y (ds ++ (p ∷ (q ∷ bs))) = omega (arith, times-mid y ds p (q ∷ bs), times-mid y ds p bs, times-cons y q bs) in
              k.keep x y m there (e ∙ at-put-other rows q y 0 low (rewritten-low k y there) (differs y q (ds ++ (p ∷ bs)) n gone));
        }

  -- ---- the start: free records are zero, and a row stands once

  pub rewritten-start : ZeroAt rows₀ counts₀ (chain next₀ free₀) → ((x y : ℕ) → 1 ≤ times x (chain next₀ head) → 1 ≤ times y (chain next₀ head) → at rows₀ x ≡ at rows₀ y → x ≡ y) →
      Rewritten rows₀ counts₀ next₀ head free₀ rows₀ counts₀ next₀ free₀ (chain next₀ head) (chain next₀ free₀)
  rewritten-start zero keep =
      record { changed = changed-start b.beside; rows_long = refl; counts-long = refl; zero = zero; frame = λ x l z. (refl, refl); keep = keep }
