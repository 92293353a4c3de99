-- The loop that copies a chain out, in this order: how long the entries are, and those of one record more; the invariant; its start, one turn, its
-- end. What the entries say of the multiplicities that a column holds is in proofs/Holding.antt.
-- Assumes nothing.
use mathlib.Core.Path.{◌≡◌, refl, sym, ap, ◌∙◌}
use mathlib.Core.Logic.{◌≢◌}
use mathlib.Core.List.{List, [], ◌∷◌, ◌++◌, append_assoc, append-nil}
use Prim.Native.Nat.{ℕ, ◌+◌, ◌*◌, ◌≤◌, ◌<◌}
use native.Mathlib.Omega.{arith}
use lib.ListN.{length, set, length-append}
use Rattle.lists.specs.Lists.{at, over}
use Rattle.lists.proofs.Place.{over-push, over-length}
use Rattle.pool.specs.Chains.{chain, Linked}
use Rattle.columns.specs.Search.{entries_at, CanCopy}
use Rattle.columns.proofs.Search.{Here, here, chain-none}

-- ---- entries

pub entries-length : (xs cs rs : List ℕ) → length (entries_at xs cs rs) ≡ 2 * length rs
unfolding entries_at
entries-length xs cs [] = refl
entries-length xs cs (r ∷ rs) = omega (arith, entries-length xs cs rs)

-- one record more
entries-more : (xs cs rs : List ℕ) (r : ℕ) → entries_at xs cs (rs ++ (r ∷ [])) ≡ (entries_at xs cs rs ++ (at xs r ∷ [])) ++ (at cs r ∷ [])
unfolding entries_at
entries-more xs cs [] r = refl
entries-more xs cs (q ∷ rs) r = ap (λ (l : List ℕ). at xs q ∷ at cs q ∷ l) (entries-more xs cs rs r)

-- ---- the invariant: the records done are written, the chain from r is left

pub record Copying (rows counts next list₀ : List ℕ) (head : ℕ) (list : List ℕ) (r k : ℕ) : Type 0 where
  pub done : List ℕ
  pub linked : Linked next r (chain next r)
  pub parts : chain next head ≡ done ++ chain next r
  pub number : length done ≡ k
  pub filled : list ≡ over (entries_at rows counts done) list₀

pub record Turn (rows counts next list₀ : List ℕ) (head : ℕ) (list : List ℕ) (r k : ℕ) : Type 0 where
  pub low : 1 ≤ r
  pub high : r ≤ length next
  pub more : k < length (chain next head)
  pub long : length list ≡ length list₀
  pub shorter : length (chain next (at next r)) < length (chain next r)
  pub again : Copying rows counts next list₀ head (set (set list (2 * k) (at rows r)) (2 * k + 1) (at counts r)) (at next r) (k + 1)

module _ {rows counts next list₀ : List ℕ} {head : ℕ} (can : CanCopy rows counts next list₀ head) where
  pub copying-start : Copying rows counts next list₀ head list₀ head 0
  unfolding entries_at
  copying-start = record { done = []; linked = can.read.linked; parts = refl; number = refl; filled = refl }

  module _ {list : List ℕ} {r k : ℕ} (i : Copying rows counts next list₀ head list r k) where
    within : k + length (chain next r) ≡ length (chain next head)
    within = omega (arith, i.number, ap length i.parts, length-append i.done (chain next r))

    written : length (entries_at rows counts i.done) ≡ 2 * k
    written = omega (arith, entries-length rows counts i.done, i.number)

    pub copying-long : length list ≡ length list₀
    copying-long = ap length i.filled ∙ over-length (entries_at rows counts i.done) list₀ (omega (arith, can.fits, within, written))

    pub copying-turn : r ≢ 0 → Turn rows counts next list₀ head list r k
    copying-turn n =
        let h : Here next r = here next r n i.linked in
        let es : List ℕ = entries_at rows counts i.done in
        let more : k < length (chain next head) = omega (arith, within, h.shorter) in
        let second : length (es ++ (at rows r ∷ [])) ≡ 2 * k + 1 = omega (arith, length-append es (at rows r ∷ []), written) in
        record {
          low = h.low;
          high = h.high;
          more = more;
          long = copying-long;
          shorter = h.shorter;
          again = record {
            done = i.done ++ (r ∷ []);
            linked = h.linked;
            parts = i.parts ∙ ap (λ (l : List ℕ). i.done ++ l) h.parts ∙ sym (append_assoc i.done (r ∷ []) (chain next (at next r)));
            number = omega (arith, length-append i.done (r ∷ []), i.number);
            filled =
                ap (λ (l : List ℕ). set (set l (2 * k) (at rows r)) (2 * k + 1) (at counts r)) i.filled ∙
                ap (λ (l : List ℕ). set l (2 * k + 1) (at counts r)) (over-push es list₀ (2 * k) (at rows r) written (omega (arith, can.fits))) ∙
                over-push (es ++ (at rows r ∷ [])) list₀ (2 * k + 1) (at counts r) second (omega (arith, can.fits)) ∙
                ap (λ (l : List ℕ). over l list₀) (sym (entries-more rows counts i.done r));
          };
        }

    module _ (z : r ≡ 0) where
      all_done : chain next head ≡ i.done
      all_done = i.parts ∙ ap (λ (l : List ℕ). i.done ++ l) (chain-none next r z) ∙ append-nil i.done

      pub copying-number : k ≡ length (chain next head)
      copying-number = omega (arith, i.number, ap length all_done)

      pub copying-written : list ≡ over (entries_at rows counts (chain next head)) list₀
      copying-written = i.filled ∙ ap (λ (l : List ℕ). over (entries_at rows counts l) list₀) (sym all_done)
