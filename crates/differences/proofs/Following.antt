-- Gathering the rows of a chain: those of the records passed stand in the buffer, and with those of the records to come they are the whole chain's.
-- The start, a turn (there is room, and the next record), and the end.
-- Assumes nothing.
use mathlib.Core.Path.{◌≡◌, refl, sym, ap, ◌∙◌}
use mathlib.Core.Logic.{◌≢◌}
use mathlib.Core.List.{List, [], ◌∷◌, ◌++◌, append_assoc, append-nil}
use Prim.Native.Nat.{ℕ, ◌+◌, ◌*◌, ◌<◌}
use native.Mathlib.Omega.{arith}
use lib.ListN.{length, set, length-append}
use Rattle.lists.specs.Lists.{among, at, values_at}
use Rattle.pool.specs.Chains.{chain, Linked}
use Rattle.differences.specs.Gather.{CanGather, ChainRises, Gathered, Gathering}
use Rattle.differences.proofs.Chain.{Onward, chain-onward, chain-over}
use Rattle.differences.proofs.Gather.{gathering-start, gathering-push, gathering-done, list-room}

pub values-front : (xs : List ℕ) (q : ℕ) (qs : List ℕ) → values_at xs (q ∷ qs) ≡ at xs q ∷ values_at xs qs
unfolding values_at
values-front xs q qs = refl

pub values-none : (xs : List ℕ) → values_at xs [] ≡ []
unfolding values_at
values-none xs = refl

pub record Following (m : ℕ) (rows next w₀ : List ℕ) (r : ℕ) (w : List ℕ) (q k : ℕ) : Type 0 where
  pub gone : List ℕ
  pub gathering : Gathering m w₀ w k gone
  pub linked : Linked next q (chain next q)
  pub whole : gone ++ values_at rows (chain next q) ≡ values_at rows (chain next r)

module _ {m : ℕ} {rows next w₀ : List ℕ} {r : ℕ} (table : CanGather m w₀) (column : ChainRises m rows next r) where
  pub following-start : Following m rows next w₀ r w₀ r 0
  following-start = record { gone = []; gathering = gathering-start table; linked = column.linked; whole = refl }

  module _ {w : List ℕ} {q k : ℕ} (f : Following m rows next w₀ r w q k) where
    pub following-length : length w ≡ length w₀
    following-length = f.gathering.only.same_length

    module _ (z : q ≢ 0) where
      pub following-onward : Onward next q
      following-onward = chain-onward next q z f.linked

      here : f.gone ++ (at rows q ∷ values_at rows (chain next (at next q))) ≡ values_at rows (chain next r)
      here =
          ap (λ (xs : List ℕ). f.gone ++ xs) (sym (ap (values_at rows) following-onward.parts ∙ values-front rows q (chain next (at next q)))) ∙ f.whole

      pub following-room : k < m
      following-room =
          omega (
            arith,
            f.gathering.size,
            ap length here,
            length-append f.gone (at rows q ∷ values_at rows (chain next (at next q))),
            list-room m (values_at rows (chain next r)) column.rising,
          )

      pub following-next : Following m rows next w₀ r (set w (2 * m + k) (at rows q)) (at next q) (k + 1)
      following-next =
          record {
            gone = f.gone ++ (at rows q ∷ []);
            gathering = gathering-push f.gathering (at rows q) table.long following-room;
            linked = following-onward.linked;
            whole = append_assoc f.gone (at rows q ∷ []) (values_at rows (chain next (at next q))) ∙ here;
          }

    pub following-done : q ≡ 0 → Gathered m w₀ w k (λ i. among i (values_at rows (chain next r)))
    following-done z =
        let e : f.gone ≡ values_at rows (chain next r) =
        sym (append-nil f.gone) ∙ ap (λ (xs : List ℕ). f.gone ++ xs) (sym (ap (values_at rows) (chain-over next q z f.linked) ∙ values-none rows)) ∙ f.whole in
        gathering-done f.gathering (λ i. among i (values_at rows (chain next r))) (rw e column.rising) (λ i. ap (among i) e)
