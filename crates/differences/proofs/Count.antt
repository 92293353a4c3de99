-- The two steps of counting together: what the first leaves can be merged, and merged it is the whole count. Assumes nothing.
use mathlib.Core.Path.{◌≡◌, refl, sym, ap, ◌∙◌}
use mathlib.Core.Logic.{inl, inr}
use mathlib.Core.Bool.{Bool, true, not}
use mathlib.Core.List.{List, ◌++◌}
use Prim.Native.Nat.{ℕ, ◌+◌, ◌-◌, ◌*◌, ◌≤◌}
use native.Mathlib.Omega.{arith}
use lib.Dec.{eqb}
use lib.ListN.{length, get_or, length-append}
use Rattle.lists.specs.Lists.{one, among, times, at, rises}
use Rattle.lists.proofs.Tests.{zero-or-pos, one-le}
use Rattle.lists.proofs.Member.{mem-either, among-mem}
use Rattle.lists.proofs.Times.{times-append, times-mem, mem-times, among-some, once-length}
use Rattle.lists.proofs.Rising.{rises-in}
use Rattle.workspace.specs.Regions.{region}
use Rattle.workspace.proofs.Regions.{region-ext, region-length, only-join}
use Rattle.differences.specs.Tally.{shifted, difference_at}
use Rattle.differences.specs.Count.{CanCount, Counted, Bumped, CanMerge, Merged}
use Rattle.differences.proofs.Rows.{rises-once}
use Rattle.differences.proofs.Bumping.{counted_same, touched-one, touched_none}

module _ {m : ℕ} {w₀ : List ℕ} {n k : ℕ} {up : Bool} {w : List ℕ} {f : ℕ} (can : CanCount m w₀ n k) (b : Bumped m w₀ n k up w f) where
  long : 3 * m ≤ length w
  long = omega (arith, b.only.same_length, can.touched.long)

  list_same : region w m n ≡ region w₀ m n
  list_same =
      region-ext w₀ w m m n (omega (arith, can.touched.long, can.touched.within)) (omega (arith, long, can.touched.within))
      (λ i h. b.list i (omega (arith, can.touched.within)))

  list-rises : rises 1 m (region w m n) ≡ true
  list-rises = rw list_same can.touched.rising

  -- no row is in both
  once : (i : ℕ) → times i (region w m n) + times i (region w (2 * m) f) ≤ 1
  once i =
      let a : times i (region w m n) ≤ 1 = rises-once 1 m (region w m n) list-rises i in
      let c : times i (region w (2 * m) f) ≤ 1 = rises-once 1 m (region w (2 * m) f) b.buffered.rising i in
      elim (zero-or-pos (times i (region w m n))) [
        | inl z ↦ omega arith
        | inr p ↦
            let t : (1 ≤ i) × (i ≤ m) = rises-in 1 m (times-mem i (region w m n) p) list-rises in
            omega (arith, b.fresh i t.0 t.1, ap (times i) list_same, one-le (not (eqb (at w i) 0)))
      ]

  few : n + f ≤ m
  few =
      omega (
        arith,
        length-append (region w m n) (region w (2 * m) f),
        region-length w m n (omega (arith, long, can.touched.within)),
        region-length w (2 * m) f (omega (arith, long, b.buffered.within)),
        once-length m (region w m n ++ region w (2 * m) f) (λ i. omega (arith, times-append i (region w m n) (region w (2 * m) f), once i))
            (λ i h. elim (mem-either (region w m n) (times-mem i (region w m n ++ region w (2 * m) f) h)) [
              | inl q ↦ rises-in 1 m q list-rises
              | inr q ↦ rises-in 1 m q b.buffered.rising
            ]),
      )

  pub bumped-merge : CanMerge m w n f
  bumped-merge =
      record {
        long = long;
        within = few;
        rising = list-rises;
        rest = λ i h.
            let e : m + n + i ≡ m + (n + i) = omega arith in
            ap (λ (p : ℕ). get_or w p 0) e ∙ b.list (n + i) (omega arith) ∙ sym (ap (λ (p : ℕ). get_or w₀ p 0) e) ∙ can.touched.rest i h;
        buffered = b.buffered;
        apart = once;
      }

  module _ {x : List ℕ} (g : Merged m w n f x) where
    place_same : (i : ℕ) → 1 ≤ i → i ≤ m → at x i ≡ at w i
    place_same i p q = g.only.outside (i - 1) (inl (omega arith))

    members : (i : ℕ) → 1 ≤ i → i ≤ m → times i (region x m (n + f)) ≡ one (not (eqb (at x i) 0))
    members i p q = rw (place_same i p q) (omega (arith, g.members i, b.fresh i p q, ap (times i) list_same))

    pub merged-counted : Counted m w₀ k up x (n + f)
    merged-counted =
        record {
          tally = record {
            touched = record {
              long = omega (arith, g.only.same_length, long);
              within = few;
              rising = g.rising;
              listed = λ i p q. (
                λ t e. omega (arith, mem-times (among-mem i (region x m (n + f)) t), members i p q, touched_none (at x i) e),
                λ d. among-some i (region x m (n + f)) (omega (arith, members i p q, touched-one (at x i) d)),
              );
              rest = g.rest;
            };
            values = λ i p q. refl;
            buffer = g.buffer;
          };
          counted-rows = counted_same up (difference_at w₀) (difference_at w) (difference_at x) m (λ i. among i (region w₀ (2 * m) k)) b.counted-rows
              (λ i p q. ap shifted (place_same i p q));
          only = only-join 0 (3 * m) b.only g.only (omega arith) (omega arith) (omega arith) (omega arith);
        }
