-- The pieces' lengths added along the chain: what holds at each turn, the piece of the next cut added, and the end. Assumes nothing.
use mathlib.Core.Path.{◌≡◌, refl, subst}
use mathlib.Core.Logic.{◌≢◌}
use mathlib.Core.Bool.{false, false≢true}
use mathlib.Core.List.{List}
use Prim.Native.Nat.{ℕ, ◌+◌, ◌-◌, ◌*◌, ◌/◌, ◌%◌, ◌≤◌, ◌<◌}
use native.Mathlib.Omega.{arith}
use lib.Dec.{eqb}
use borrow.Author.Tests.{lt-ltb, le-ltb, eqb-true}
use Rattle.free_chain.specs.Pieces.{Leads, length_of, stand_of, start_of, Pieces, CanAddUp, AddsTo}
use Rattle.free_chain.proofs.Leading.{leads-join}

-- ---- where pieces start

pub start-cut : (c h s : ℕ) → s < c → start_of c h s ≡ 1024 * s + 1
unfolding start_of
start-cut c h s l = rw (lt-ltb s c l) refl

pub start-head : (c h : ℕ) → start_of c h c ≡ h
unfolding start_of
start-head c h = rw (le-ltb c c (omega arith)) refl

-- ---- the sum

-- total steps lead from any head to r, with so many cuts left to pass
pub record Adding (scratch : List ℕ) (cuts total r left : ℕ) : Type 0 where
  pub leads : (rs ns : List ℕ) (h : ℕ) → Pieces rs ns cuts (start_of cuts h) scratch → Leads rs ns total h r
  pub small : total + 1073741824 * left ≤ 1073741824 * (cuts + 1)
  pub within : left ≤ cuts
  pub stand : r ≤ 1024 * cuts

pub adding-start : {w : List ℕ} {c : ℕ} → CanAddUp w c → Adding w c (length_of w c) (stand_of w c) c
adding-start {w} {c} p =
    record {
      leads = λ rs ns h ps. subst (λ (x : ℕ). Leads rs ns (length_of w c) x (stand_of w c)) (start-head c h) (ps c (omega arith)).leads;
      small = omega (arith, p.size c (omega arith), p.room.small);
      within = omega arith;
      stand = omega (arith, p.stand c (omega arith), p.room.above);
    }

module _ {w : List ℕ} {c total r left : ℕ} (p : CanAddUp w c) (i : Adding w c total r left) where
  -- the piece that starts at r
  pub adding-piece : r ≢ 0 → (r - 1) / 1024 < c
  adding-piece some = omega (arith, i.stand)

  -- its length, and the sum with it, are numbers that the code can add
  pub adding-fits : r ≢ 0 → (length_of w ((r - 1) / 1024) ≤ 1073741824) × (total ≤ 1125900000000000000)
  adding-fits some = (omega (arith, p.size ((r - 1) / 1024) (omega (arith, adding-piece some)), p.room.small), omega (arith, i.small, p.room.small, p.room.below))

  pub adding-next : r ≢ 0 → left ≢ 0 → (r - 1) % 1024 ≡ 0 → Adding w c (total + length_of w ((r - 1) / 1024)) (stand_of w ((r - 1) / 1024)) (left - 1)
  adding-next some more cut =
      record {
        leads = λ rs ns h ps. leads-join rs ns total (length_of w s) h r (stand_of w s) (i.leads rs ns h ps) (next rs ns h ps);
        small = omega (arith, p.size s (omega arith), p.room.small, i.small);
        within = omega (arith, i.within);
        stand = omega (arith, p.stand s (omega arith), p.room.above);
      }
    where
      s : ℕ
      s = (r - 1) / 1024

      low : s < c
      low = adding-piece some

      here : (h : ℕ) → start_of c h s ≡ r
      here h = omega (arith, start-cut c h s low)

      next : (rs ns : List ℕ) (h : ℕ) → Pieces rs ns c (start_of c h) w → Leads rs ns (length_of w s) r (stand_of w s)
      next rs ns h ps = subst (λ (x : ℕ). Leads rs ns (length_of w s) x (stand_of w s)) (here h) (ps s (omega arith)).leads

  pub adding-end : (k : ℕ) → r ≡ 0 → AddsTo w c k (eqb total k)
  adding-end k e rs ns h ps a =
      subst (λ (x : ℕ). Leads rs ns x h 0) (eqb-true total k a) (subst (λ (x : ℕ). Leads rs ns total h x) e (i.leads rs ns h ps))

-- nothing is said
pub adds_none : (w : List ℕ) (c k : ℕ) → AddsTo w c k false
adds_none w c k rs ns h ps a = absurd (false≢true a)
