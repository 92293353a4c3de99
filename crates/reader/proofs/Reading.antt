-- One reading: at record 0, past a table, at a free record and at one in use, as the tests of the code have it; then a run of readings, from the end on
-- and from an entry on, cut after k, and as calls of a reader.
-- Assumes nothing.
use Rattle.std.proofs.Common.{Some, None}
use mathlib.Core.Path.{◌≡◌, refl, ap}
use mathlib.Core.Logic.{◌≢◌}
use mathlib.Core.Bool.{Bool, true, false, ◌&&◌, not}
use mathlib.Core.List.{List, ◌∷◌}
use Prim.Native.Nat.{ℕ, zero, suc, ◌+◌, ◌≤◌}
use native.Mathlib.Omega.{arith}
use lib.Dec.{leb, eqb}
use lib.ListN.{length, replicate}
use borrow.Author.Tests.{leb-true, le-leb, eqb-false, ne_eqb, not-true}
use Rattle.lists.specs.Lists.{is_in, at}
use Rattle.lists.proofs.Tests.{and_both, both-and, refute, in-range, range-in}
use Rattle.reader.specs.Reading.{is_read, entry_at, after, readings}
use Rattle.reader.specs.Reader.{calls, moved}
use Rattle.reader.specs.Statements.{ReadsInTurn, CallsRead}

-- ---- one reading

-- a record in use, in all three tables
pub record InUse (xs cs ns : List ℕ) (r : ℕ) : Type 0 where
  pub low : 1 ≤ r
  pub rows : r ≤ length xs
  pub counts : r ≤ length cs
  pub next : r ≤ length ns
  pub some : at xs r ≢ 0

module _ (xs cs ns : List ℕ) (r : ℕ) where
  pub read-use : is_read xs cs ns r ≡ true → InUse xs cs ns r
  read-use e =
      let a : Bool = is_in 1 (length xs) r in
      let b : Bool = leb r (length cs) in
      let c : Bool = leb r (length ns) in
      let t : (((a && b) && c) ≡ true) × (not (eqb (at xs r) 0) ≡ true) = and_both ((a && b) && c) (not (eqb (at xs r) 0)) e in
      let u : ((a && b) ≡ true) × (c ≡ true) = and_both (a && b) c t.0 in
      let v : (a ≡ true) × (b ≡ true) = and_both a b u.0 in
      let w : (1 ≤ r) × (r ≤ length xs) = in-range 1 (length xs) r v.0 in
      record {
        low = w.0;
        rows = w.1;
        counts = leb-true r (length cs) v.1;
        next = leb-true r (length ns) u.1;
        some = eqb-false (at xs r) 0 (not-true (eqb (at xs r) 0) t.1);
      }

  pub entry-end : (InUse xs cs ns r → ⊥) → entry_at xs cs ns r ≡ None
  unfolding entry_at
  entry-end h = let e : is_read xs cs ns r ≡ false = refute (is_read xs cs ns r) (λ e. h (read-use e)) in rw e refl

  pub entry_of : InUse xs cs ns r → entry_at xs cs ns r ≡ Some (record { row = at xs r; count = at cs r; after = record { 0 = at ns r } })
  unfolding entry_at
  entry_of u =
      let e : is_read xs cs ns r ≡ true =
      both-and (both-and (both-and (range-in 1 (length xs) r u.low u.rows) (le-leb r (length cs) u.counts)) (le-leb r (length ns) u.next)) (ap not (ne_eqb (at xs r) 0 u.some)) in
      rw e refl

-- ---- a run of readings

module _ (xs cs ns : List ℕ) where
  pub readings-end : (r : ℕ) → entry_at xs cs ns r ≡ None → (k : ℕ) → readings k xs cs ns r ≡ replicate k None
  unfolding readings
  readings-end r e zero = refl
  readings-end r e (suc k) = rw (e, readings-end 0 (entry-end xs cs ns 0 (λ u. omega (arith, u.low))) k) refl

  pub readings-of : (r k : ℕ) → InUse xs cs ns r → readings (suc k) xs cs ns r ≡ Some (record { row = at xs r; count = at cs r; after = record { 0 = at ns r } }) ∷ readings k xs cs ns (at ns r)
  unfolding readings
  readings-of r k u = rw (entry_of xs cs ns r u) refl

pub reads-in-turn : ReadsInTurn
unfolding readings
reads-in-turn xs cs ns r zero l = refl
reads-in-turn xs cs ns r (suc k) l =
    let q : suc k + l ≡ suc (k + l) = omega arith in
    rw (q, reads-in-turn xs cs ns (after (entry_at xs cs ns r)).0 k l) refl

pub calls-read : CallsRead
unfolding calls readings
calls-read d zero = refl
calls-read d (suc k) = rw (calls-read (moved d) k) refl
