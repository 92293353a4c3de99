-- The loops that empty the queues of j: the invariant over the tables at the loop's start and now, for all columns that the tables suit; the column at hand
-- is a child (`emptying-child`), it is handled and passed on (`child-drained`); at the end the queue's children are handled
-- (`children-handled`, `family-handled`). Assumes nothing.
use mathlib.Core.Path.{◌≡◌, refl, sym, ap, ◌∙◌, subst}
use mathlib.Core.Logic.{◌⊎◌, inl, inr, ◌≢◌}
use mathlib.Core.Bool.{Bool, true, ◌||◌, true≢false}
use mathlib.Core.List.{List}
use Prim.Native.Nat.{ℕ, suc, ◌+◌, ◌-◌, ◌*◌, ◌≤◌}
use native.Mathlib.Omega.{arith}
use lib.Dec.{eqb}
use lib.ListN.{length, get_or, set, length-set}
use borrow.Author.Tests.{eqb-true, eq-eqb}
use Rattle.lists.specs.Lists.{pick}
use Rattle.lists.proofs.Tests.{cases, both_ways, or-either, or_left, or_right}
use Rattle.symbolic.specs.Columns.{Column}
use Rattle.workspace.specs.Regions.{cell}
use Rattle.updown.specs.Queues.{Queues}
use Rattle.updown.specs.Marks.{other_at, passed_on}
use Rattle.updown.specs.Turns.{other_parent, standing, waiting}
use Rattle.updown.specs.SoFar.{nobody, also, children, family}
use Rattle.updown.specs.Walks.{Columns, Parents, Turn, Still, TurnTo, TurnDone, AtChild, Handled}
use Rattle.updown.proofs.Queueing.{queue-empty, links-length, queues-ext, queues-close}
use Rattle.updown.proofs.SoFar.{so-far-ext, so-far-end}
use Rattle.updown.proofs.Standing.{children-wait, lost-wait}
use Rattle.updown.proofs.AtChild.{child-fresh, child-other}
use Rattle.updown.proofs.Draining.{Drain, opened-still, turn-open, drain-open, drain-child, Drained, turn-child}

pub record Emptying (m : ℕ) (R W : List Column) (adding : Bool) (w₀ w : List ℕ) (j used n h cur : ℕ) (H₀ : ℕ → Bool) : Type 0 where
  pub handled : ℕ → Bool
  pub turn : Turn m R W adding w j used n h handled
  pub drain : Drain m w h cur (waiting m R W j handled)
  pub keeps : (c : ℕ) → H₀ c ≡ true → handled c ≡ true
  pub only : (c : ℕ) → 1 ≤ c → c ≤ m → handled c ≡ true → (H₀ c ≡ true) ⊎ (standing m R W j c ≡ h)
  pub same_length : length w ≡ length w₀
  pub still : Still m j w₀ w

pub emptying-start : {m : ℕ} {R W : List Column} {adding : Bool} {w : List ℕ} {j used n h cur : ℕ} {H : ℕ → Bool} → Turn m R W adding w j used n h H →
    Drain m w h cur (waiting m R W j H) → Emptying m R W adding w w j used n h cur H
emptying-start {H = H} t d = record { handled = H; turn = t; drain = d; keeps = λ c e. e; only = λ c a b e. inl e; same_length = refl; still = λ k a b e. refl }

-- ---- one column

pub emptying-child : {heads rows next : List ℕ} {m : ℕ} {R W : List Column} {adding : Bool} {w₀ w : List ℕ} {j used n h c : ℕ} {H₀ : ℕ → Bool} → Columns heads rows next m R W adding →
    (i : Emptying m R W adding w₀ w j used n h c H₀) → c ≢ 0 → (h ≡ j) ⊎ (h ≡ m + j) → AtChild w m R W adding j used n h c i.handled
emptying-child k i s side = drain-child k.narrow k.few i.turn i.drain s side

module _ {m : ℕ} {R W : List Column} {adding : Bool} {w₀ w : List ℕ} {j used n h c : ℕ} {H₀ : ℕ → Bool} (i : Emptying m R W adding w₀ w j used n h c H₀)
    (a : AtChild w m R W adding j used n h c i.handled) where
  -- the next turn of the loop
  pub emptying-next : {w₂ : List ℕ} {n' cur : ℕ} → (h ≡ j) ⊎ (h ≡ m + j) → Drained m R W adding w w₂ j used n' h c cur i.handled → Emptying m R W adding w₀ w₂ j used n' h cur H₀
  emptying-next side d =
      record {
        handled = also i.handled c;
        turn = d.turn;
        drain = d.drain;
        keeps = λ x e. or_left (i.handled x) (eqb x c) (i.keeps x e);
        only = λ x p q e. elim (or-either (i.handled x) (eqb x c) e) [
          | inl y ↦ i.only x p q y
          | inr y ↦ inr (ap (standing m R W j) (eqb-true x c y) ∙ (child-fresh a side).1)
        ];
        same_length = d.same_length ∙ i.same_length;
        still = λ z p q e. d.still z p q e ∙ i.still z p q e;
      }

  -- B or C, by what the calls gave
  pub child-drained : {parents w₁ w₂ : List ℕ} {n' cur o : ℕ} → h ≡ j → Parents parents m R W adding → o ≡ other_at parents w m c adding →
      Handled m R W adding w w₁ n' j c i.handled → cur ≡ cell w₁ (7 * m) (c - 1) → w₂ ≡ passed_on m w₁ c j o → Drained m R W adding w w₂ j used n' h c cur i.handled
  child-drained {w₁ = w₁} {w₂} {n'} {cur} {o} z p e b f g =
      let q : o ≡ other_parent m R c = e ∙ child-other a (inl z) p in
      subst (λ (x : ℕ). Drained m R W adding w w₂ j used n' h c x i.handled) (sym f)
      (subst (λ (x : List ℕ). Drained m R W adding w x j used n' h c (cell w₁ (7 * m) (c - 1)) i.handled) (sym (g ∙ ap (passed_on m w₁ c j) q)) (turn-child a (inl z) i.drain b z))

-- ---- from the open queue to the closed one

-- the same children handled, and all queues
turn-ext : {m : ℕ} {R W : List Column} {adding : Bool} {w : List ℕ} {j used n h : ℕ} {H K : ℕ → Bool} → ((c : ℕ) → 1 ≤ c → c ≤ m → K c ≡ H c) →
    Turn m R W adding w j used n h H → Queues m w j 0 (waiting m R W j H) → Turn m R W adding w j used n 0 K
turn-ext {m} {R} {W} {adding} {w} {j} e t q =
    record {
      low = t.low;
      high = t.high;
      long = t.long;
      plans = t.plans;
      starts = t.starts;
      queues = queues-ext (omega (arith, t.long)) q (λ c a b. ap (λ (z : Bool). pick z (standing m R W (suc j) c) (standing m R W j c)) (e c a b));
      so_far = so-far-ext m R W adding j t.low t.high e t.so_far;
    }

-- who waited in the queue is handled
queue-handled : {m : ℕ} {R W : List Column} {adding : Bool} {w₀ w : List ℕ} {j used n h c : ℕ} {H₀ : ℕ → Bool} (i : Emptying m R W adding w₀ w j used n h c H₀) → c ≡ 0 →
    (x : ℕ) → 1 ≤ x → x ≤ m → (H₀ x || eqb (standing m R W j x) h) ≡ i.handled x
queue-handled {m} {R} {W} {w = w} {j} {h = h} {H₀ = H₀} i z x a b =
    both_ways (H₀ x || eqb (standing m R W j x) h) (i.handled x)
    (λ e. elim (or-either (H₀ x) (eqb (standing m R W j x) h) e) [
      | inl y ↦ i.keeps x y
      | inr y ↦ elim (cases (i.handled x)) [
        | inl u ↦ u
        | inr u ↦
            let v : eqb (waiting m R W j i.handled x) h ≡ true = rw u y in
            absurd (true≢false (sym v ∙ queue-empty z i.drain.here x a (omega (arith, links-length m w (omega (arith, i.turn.long))))))
      ]
    ])
    (λ e. elim (i.only x a b e) [
      | inl y ↦ or_left (H₀ x) (eqb (standing m R W j x) h) y
      | inr y ↦ or_right (H₀ x) (eqb (standing m R W j x) h) (eq-eqb (standing m R W j x) h y)
    ])

emptying-end : {m : ℕ} {R W : List Column} {adding : Bool} {w w₂ : List ℕ} {j used n n' h c : ℕ} {H₀ K : ℕ → Bool} → Turn m R W adding w j used n 0 H₀ → (h ≡ j) ⊎ (h ≡ m + j) →
    Emptying m R W adding (set w (5 * m + (h - 1)) 0) w₂ j used n' h c H₀ → c ≡ 0 → ((x : ℕ) → 1 ≤ x → x ≤ m → K x ≡ (H₀ x || eqb (standing m R W j x) h)) →
    TurnTo m R W adding w w₂ j used n' K
emptying-end {m} {w = w} {w₂} {h = h} t side i z e =
    record {
      turn = turn-ext (λ x a b. e x a b ∙ queue-handled i z x a b) i.turn (queues-close m w₂ (omega (arith, i.turn.long)) i.turn.queues i.drain.empty z i.drain.here 0);
      same_length = i.same_length ∙ length-set w (5 * m + (h - 1)) 0;
      still = λ k a b o. i.still k a b o ∙ opened-still t h side k a b o;
    }

-- B and C are done
pub children-handled : {m : ℕ} {R W : List Column} {adding : Bool} {w w₂ : List ℕ} {j used n n' c : ℕ} → Turn m R W adding w j used n 0 nobody →
    Emptying m R W adding (set w (5 * m + (j - 1)) 0) w₂ j used n' j c nobody → c ≡ 0 → TurnTo m R W adding w w₂ j used n' (children m R W j)
children-handled {m} {R} {W} {j = j} t i z = emptying-end t (inl refl) i z (children-wait m R W j t.low t.high)

-- the queue of lost children by its own places
module _ {m : ℕ} {R W : List Column} {adding : Bool} {w : List ℕ} {j used n : ℕ} (t : Turn m R W adding w j used n 0 (children m R W j)) where
  head-place : 5 * m + (m + j - 1) ≡ 6 * m + (j - 1)
  head-place = omega (arith, t.low)

  pub lost-open : Turn m R W adding (set w (6 * m + (j - 1)) 0) j used n (m + j) (children m R W j)
  lost-open = subst (λ (x : ℕ). Turn m R W adding (set w x 0) j used n (m + j) (children m R W j)) head-place (turn-open t (m + j) (inr refl))

  pub lost-drain : Drain m (set w (6 * m + (j - 1)) 0) (m + j) (cell w (6 * m) (j - 1)) (waiting m R W j (children m R W j))
  lost-drain = subst (λ (x : ℕ). Drain m (set w x 0) (m + j) (get_or w x 0) (waiting m R W j (children m R W j))) head-place (drain-open t (m + j) (inr refl))

  -- D is done
  pub family-handled : {w₂ : List ℕ} {n' c : ℕ} → Emptying m R W adding (set w (6 * m + (j - 1)) 0) w₂ j used n' (m + j) c (children m R W j) → c ≡ 0 →
      TurnDone m R W adding w w₂ j used n'
  family-handled {w₂} {n'} {c} i z =
      let g : TurnTo m R W adding w w₂ j used n' (family m R W j) =
      emptying-end t (inr refl) (subst (λ (x : ℕ). Emptying m R W adding (set w x 0) w₂ j used n' (m + j) c (children m R W j)) (sym head-place) i) z
      (λ x a b. ap (λ (y : Bool). children m R W j x || y) (lost-wait m R W j t.low t.high x a b)) in
      record { goes = g; definition = so-far-end m R W adding j t.low t.high g.turn.so_far }
