-- A loop that follows a list of numbers in the work table and counts the rows that each brings: which numbers are done, and the table as the lent one
-- with their rows counted. Start, what a turn asks, one number more, the end. The measure is the length of the chain that is left. Assumes nothing.
use mathlib.Core.Path.{◌≡◌, refl, sym, ap, subst, ◌∙◌}
use mathlib.Core.Logic.{inl, inr, ◌≢◌}
use mathlib.Core.List.{List, [], ◌∷◌, ◌++◌, append_assoc, append-nil}
use Prim.Native.Nat.{ℕ, suc, ◌+◌, ◌*◌, ◌-◌, ◌≤◌, ◌<◌}
use native.Mathlib.Omega.{arith}
use lib.ListN.{length, get_or, take, length-append}
use Rattle.lists.specs.Lists.{at, times}
use Rattle.lists.proofs.Times.{times-append, times-self, UpTo, times-length}
use Rattle.workspace.specs.Regions.{region}
use Rattle.workspace.proofs.Regions.{region-length, region-cell}
use Rattle.pool.specs.Chains.{chain, Linked}
use Rattle.pool.proofs.Chains.{Step, linked-step, linked-chain, linked-end, linked-short}
use Rattle.book.proofs.Tally.{tallied-cell, Tally, tally-none, tally-length, tally-past, tally-append}
use Rattle.counting.specs.Counting.{gathered}
use Rattle.counting.specs.Given.{Counted}
use Rattle.counting.proofs.Numbers.{gathered-more, gathered-up, gathered-length}
use Rattle.counting.proofs.Tallies.{tallied-front, tally-front, tally-most}

-- the list from number h on, its nexts n places from b on, after the counters; each number brings at most l rows, all of 1 to m
pub record CanGather (m b n l h : ℕ) (g : ℕ → List ℕ) (w₀ : List ℕ) : Type 0 where
  pub before : m ≤ b
  pub long : b + n ≤ length w₀
  pub linked : Linked (region w₀ b n) h (chain (region w₀ b n) h)
  pub rows_in : (c : ℕ) → 1 ≤ times c (chain (region w₀ b n) h) → UpTo m (g c)
  pub short : (c : ℕ) → 1 ≤ times c (chain (region w₀ b n) h) → length (g c) ≤ l

pub record Gathering (b n h : ℕ) (g : ℕ → List ℕ) (w₀ w : List ℕ) (size c : ℕ) : Type 0 where
  pub done : List ℕ
  pub rest : List ℕ
  pub parts : done ++ rest ≡ chain (region w₀ b n) h
  pub linked : Linked (region w₀ b n) c rest
  pub counted : Tally w₀ (gathered g done) w size

module _ {m b n l h : ℕ} {g : ℕ → List ℕ} {w₀ : List ℕ} (pre : CanGather m b n l h g w₀) where
  pub gathering-start : Gathering b n h g w₀ w₀ 0 h
  unfolding gathered
  gathering-start = record { done = []; rest = chain (region w₀ b n) h; parts = refl; linked = pre.linked; counted = tally-none w₀ }

  module _ {w : List ℕ} {size c : ℕ} (i : Gathering b n h g w₀ w size c) where
    is-listed : (x : ℕ) → 1 ≤ times x i.done → 1 ≤ times x (chain (region w₀ b n) h)
    is-listed x k = omega (arith, times-append x i.done i.rest, ap (times x) i.parts)

    done-up : UpTo m (gathered g i.done)
    done-up = gathered-up m g i.done (λ x k. pre.rows_in x (is-listed x k))

    pub gathering-length : length w ≡ length w₀
    gathering-length = tally-length i.counted

    pub gathering-past : (x : ℕ) → m ≤ x → get_or w x 0 ≡ get_or w₀ x 0
    gathering-past x p = tally-past i.counted m x done-up p

    pub gathering-few : size ≤ m
    gathering-few = tally-most i.counted m done-up

    -- how much a counter has, and how many numbers there are
    pub gathering-room : (k : ℕ) → (get_or w k 0 ≤ get_or w₀ k 0 + length i.done * l) × (length i.done + length i.rest ≤ n)
    gathering-room k = (
      omega (
        arith,
        ap (λ (s : List ℕ). get_or s k 0) i.counted.is,
        tallied-cell m w₀ (gathered g i.done) k done-up (omega (arith, pre.before, pre.long)),
        times-length (suc k) (gathered g i.done),
        gathered-length l g i.done (λ x p. pre.short x (is-listed x p)),
      ),
      omega (
        arith,
        length-append i.done i.rest,
        ap length i.parts,
        linked-short (region w₀ b n) h (chain (region w₀ b n) h) pre.linked,
        region-length w₀ b n pre.long,
      ),
    )

    module _ (more : c ≢ 0) where
      step : Step (region w₀ b n) c i.rest
      step = linked-step (region w₀ b n) c i.rest more i.linked

      pub gathering-in : (1 ≤ c) × (c ≤ n)
      gathering-in = (step.low, omega (arith, step.high, region-length w₀ b n pre.long))

      pub gathering-listed : 1 ≤ times c (chain (region w₀ b n) h)
      gathering-listed = omega (arith, times-append c i.done i.rest, ap (times c) i.parts, ap (times c) step.parts, times-self c step.rest)

      -- after the number's rows were counted
      module _ {x : List ℕ} {found : ℕ} (t : Tally w (g c) x found) where
        link-is : get_or x (b + (c - 1)) 0 ≡ at (region w₀ b n) c
        link-is =
            let p : (1 ≤ c) × (c ≤ n) = gathering-in in
            tally-past t m (b + (c - 1)) (pre.rows_in c gathering-listed) (omega (arith, pre.before)) ∙
            gathering-past (b + (c - 1)) (omega (arith, pre.before)) ∙ sym (region-cell w₀ b n (c - 1) (omega arith))

        pub gathering-next : Gathering b n h g w₀ x (size + found) (get_or x (b + (c - 1)) 0)
        gathering-next =
            record {
              done = i.done ++ (c ∷ []);
              rest = step.rest;
              parts = append_assoc i.done (c ∷ []) step.rest ∙ ap (λ (s : List ℕ). i.done ++ s) (sym step.parts) ∙ i.parts;
              linked = subst (λ (r : ℕ). Linked (region w₀ b n) r step.rest) (sym link-is) step.next;
              counted = subst (λ (s : List ℕ). Tally w₀ s x (size + found)) (sym (gathered-more g i.done c)) (tally-append i.counted t);
            }

        pub gathering-less : length (chain (region w₀ b n) (get_or x (b + (c - 1)) 0)) < length (chain (region w₀ b n) c)
        gathering-less =
            rw link-is
            (omega (
              arith,
              ap length (linked-chain (region w₀ b n) c i.rest i.linked),
              ap length (linked-chain (region w₀ b n) (at (region w₀ b n) c) step.rest step.next),
              ap length step.parts,
            ))

    pub gathering-end : c ≡ 0 → Counted m w₀ w (gathered g (chain (region w₀ b n) h)) size
    gathering-end z =
        let e : i.done ≡ chain (region w₀ b n) h =
        sym (append-nil i.done) ∙ ap (λ (s : List ℕ). i.done ++ s) (sym (linked-end (region w₀ b n) c i.rest z i.linked)) ∙ i.parts in
        rw (← e) (record {
          only = record { same_length = gathering-length; outside = λ k s. gathering-past k (elim s [ inl q ↦ absurd (omega arith) | inr q ↦ omega arith ]) };
          counters = ap (take m) i.counted.is ∙ tallied-front m w₀ (gathered g i.done) done-up;
          size_is = tally-front i.counted m done-up;
        })
