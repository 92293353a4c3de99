-- The loop that counts the rows of a column's children, as one that gathers (proofs/Gathering.antt): what a turn reads and asks, and that it counts
-- the child's rows. Assumes nothing.
use mathlib.Core.Path.{◌≡◌, refl, ap, subst, ◌∙◌}
use mathlib.Core.Logic.{◌≢◌}
use mathlib.Core.List.{List}
use Prim.Native.Nat.{ℕ, ◌+◌, ◌*◌, ◌-◌, ◌≤◌, ◌<◌}
use native.Mathlib.Omega.{arith}
use lib.ListN.{length, get_or, drop, length-take}
use Rattle.lists.specs.Lists.{times}
use Rattle.lists.proofs.Member.{place-mem}
use Rattle.lists.proofs.Times.{mem-times}
use Rattle.workspace.specs.Layout.{child_head, child_next, stash_start, row_stash}
use Rattle.workspace.specs.Regions.{cell, region}
use Rattle.workspace.proofs.Regions.{region-length, region-cell, region-ext}
use Rattle.book.specs.Tally.{tallied, filled}
use Rattle.book.proofs.Tally.{Tally, tally-of}
use Rattle.counting.specs.Counting.{CanTally}
use Rattle.counting.specs.Given.{stashed, Stashed, CanTallyChildren}
use Rattle.counting.proofs.Gathering.{CanGather, Gathering, gathering-length, gathering-past, gathering-few, gathering-room, gathering-in, gathering-listed}

pub stashed-length : (w : List ℕ) (m f c : ℕ) → length (stashed w m f c) ≤ cell w (stash_start m) c - cell w (stash_start m) (c - 1) - 1
stashed-length w m f c =
    omega (arith, length-take (cell w (stash_start m) c - cell w (stash_start m) (c - 1) - 1) (drop (row_stash m f + cell w (stash_start m) (c - 1) + 1) w))

abbrev pub Children : (w₀ : List ℕ) → (m f j : ℕ) → (w : List ℕ) → (size c : ℕ) → Type 0
Children w₀ m f j w size c = Gathering (child_next m) m (cell w₀ (child_head m) (j - 1)) (stashed w₀ m f) w₀ w size c

-- what a turn reads and asks
pub record ChildFacts (w₀ : List ℕ) (m f : ℕ) (w : List ℕ) (size c : ℕ) : Type 0 where
  pub low : 1 ≤ c
  pub high : c ≤ m
  pub same_length : length w ≡ length w₀
  pub long : 8 * m + 4 * f + 1024 ≤ length w
  pub m-bound : m ≤ 4096
  pub f-bound : f ≤ 1048576
  pub start : get_or w (4 * m + (c - 1)) 0 ≡ cell w₀ (stash_start m) (c - 1)
  pub end : get_or w (4 * m + c) 0 ≡ cell w₀ (stash_start m) c
  pub some : get_or w (4 * m + (c - 1)) 0 < get_or w (4 * m + c) 0
  pub short : get_or w (4 * m + c) 0 ≤ get_or w (4 * m + (c - 1)) 0 + m
  pub within : get_or w (4 * m + c) 0 ≤ f
  pub few : size ≤ 4096

module _ {w₀ : List ℕ} {m f j : ℕ} (pre : CanTallyChildren w₀ m f j) where
  pub children-gathers : CanGather m (child_next m) m 4096 (cell w₀ (child_head m) (j - 1)) (stashed w₀ m f) w₀
  children-gathers =
      record {
        before = omega arith;
        long = omega (arith, pre.sizes.long);
        linked = pre.linked;
        rows_in = λ c n. (pre.each c n).rows_in;
        short = λ c n. omega (arith, stashed-length w₀ m f c, (pre.each c n).short, pre.sizes.m-bound);
      }

  module _ {w : List ℕ} {size c : ℕ} (i : Children w₀ m f j w size c) (more : c ≢ 0) where
    piece : Stashed w₀ m f c
    piece = pre.each c (gathering-listed children-gathers i more)

    pub children-facts : ChildFacts w₀ m f w size c
    children-facts =
        let p : Stashed w₀ m f c = piece in
        let s : (1 ≤ c) × (c ≤ m) = gathering-in children-gathers i more in
        let a : get_or w (4 * m + (c - 1)) 0 ≡ cell w₀ (stash_start m) (c - 1) = gathering-past children-gathers i (4 * m + (c - 1)) (omega arith) in
        let e : get_or w (4 * m + c) 0 ≡ cell w₀ (stash_start m) c = gathering-past children-gathers i (4 * m + c) (omega arith) in
        record {
          low = s.0;
          high = s.1;
          same_length = gathering-length children-gathers i;
          long = omega (arith, gathering-length children-gathers i, pre.sizes.long);
          m-bound = pre.sizes.m-bound;
          f-bound = pre.sizes.f-bound;
          start = a;
          end = e;
          some = omega (arith, p.some);
          short = omega (arith, p.short);
          within = omega (arith, p.within);
          few = omega (arith, gathering-few children-gathers i, pre.sizes.m-bound);
        }

    -- the rows from place a to e - 1 are the child's
    module _ (a e : ℕ) (a-is : a ≡ row_stash m f + get_or w (4 * m + (c - 1)) 0 + 1) (e-is : e ≡ row_stash m f + get_or w (4 * m + c) 0) where
      piece_is : region w a (e - a) ≡ stashed w₀ m f c
      piece_is =
          let t : ChildFacts w₀ m f w size c = children-facts in
          let k : a ≡ row_stash m f + cell w₀ (stash_start m) (c - 1) + 1 = omega arith in
          let n : e - a ≡ cell w₀ (stash_start m) c - cell w₀ (stash_start m) (c - 1) - 1 = omega arith in
          region-ext w₀ w a a (e - a) (omega arith) (omega arith) (λ x h. gathering-past children-gathers i (a + x) (omega arith)) ∙ rw (n, k) refl

      pub children-can : CanTally w a e
      children-can =
          let t : ChildFacts w₀ m f w size c = children-facts in
          let l : ℕ = e - a in
          record {
            m = m;
            before = omega arith;
            long = omega arith;
            rows_in = λ k x y.
                let z : k - a < l = omega arith in
                let u : a + (k - a) ≡ k = omega arith in
                let v : get_or (region w a l) (k - a) 0 ≡ get_or w k 0 = region-cell w a l (k - a) z ∙ ap (λ (n : ℕ). get_or w n 0) u in
                let n : 1 ≤ times (get_or w k 0) (region w a l) =
                subst (λ (b : ℕ). 1 ≤ times b (region w a l)) v (mem-times (place-mem (region w a l) (k - a) 0 (omega (arith, region-length w a l (omega arith))))) in
                piece.rows_in (get_or w k 0) (subst (λ (s : List ℕ). 1 ≤ times (get_or w k 0) s) piece_is n);
            room = λ k x. omega (arith, pre.room k x, gathering-room children-gathers i k);
          }

      pub children-tally : {x : List ℕ} {found : ℕ} → x ≡ tallied w (region w a (e - a)) → found + filled w ≡ filled x → Tally w (stashed w₀ m f c) x found
      children-tally y u = tally-of (y ∙ ap (tallied w) piece_is) u
