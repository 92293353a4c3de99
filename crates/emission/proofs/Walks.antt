-- Passing over records with rows below a bound: nothing yet, one record more, which is counted and may be the first row above the diagonal, and the end,
-- at a record at or above the bound or at the chain's end.
-- Assumes nothing.
use mathlib.Core.Path.{◌≡◌, refl, sym, ap, subst, ◌∙◌}
use mathlib.Core.Logic.{inl, inr, ◌≢◌}
use mathlib.Core.Bool.{true, false≢true}
use mathlib.Core.List.{List, [], ◌∷◌, ◌++◌, append_assoc}
use Prim.Native.Nat.{ℕ, ◌+◌, ◌≤◌, ◌<◌}
use native.Mathlib.Omega.{arith}
use lib.ListN.{length, length-append}
use Rattle.lists.specs.Lists.{among, at, values_at}
use Rattle.lists.proofs.Member.{mem-either, among-mem, mem-among}
use Rattle.lists.proofs.Place.{values-append, values_one}
use Rattle.pool.specs.Chains.{chain, Linked}
use Rattle.differences.proofs.Rows.{only-member, among-nil}
use Rattle.differences.proofs.Chain.{Onward, chain-onward}
use Rattle.emission.specs.Walks.{first_over, first_of, stays, on_to, CanPass, Passed}
use Rattle.emission.specs.declared.Walk.{Walk}

first-push : (j p : ℕ) (xs : List ℕ) (x : ℕ) → first_of j p (xs ++ (x ∷ [])) ≡ first_over j (first_of j p xs) x
unfolding first_of
first-push j p [] x = refl
first-push j p (y ∷ xs) x = first-push j (first_over j p y) xs x

pub record Walking (rows next : List ℕ) (j bound : ℕ) (before now : Walk) : Type 0 where
  pub records : List ℕ
  pub parts : chain next before.at.0 ≡ records ++ chain next now.at.0
  pub linked : Linked next now.at.0 (chain next now.at.0)
  pub below : (i : ℕ) → among i (values_at rows records) ≡ true → i < bound
  pub size : now.size ≡ before.size + length records
  pub behind : now.behind ≡ before.behind + length records
  pub parent : now.parent.0 ≡ first_of j before.parent.0 (values_at rows records)
  pub used : now.used ≡ before.used
  pub avail : now.avail.0 ≡ before.avail.0
  pub fits : now.fits ≡ before.fits

module _ {rows next : List ℕ} {j bound : ℕ} {before : Walk} (can : CanPass rows next before) where
  pub walking_start : Walking rows next j bound before before
  unfolding values_at first_of
  walking_start =
      record {
        records = [];
        parts = refl;
        linked = can.linked;
        below = λ i t. absurd (false≢true (sym (among-nil i) ∙ t));
        size = omega arith;
        behind = omega arith;
        parent = refl;
        used = refl;
        avail = refl;
        fits = refl;
      }

  module _ {now : Walk} (g : Walking rows next j bound before now) where
    module _ (z : now.at.0 ≢ 0) where
      pub walking-onward : Onward next now.at.0
      walking-onward = chain-onward next now.at.0 z g.linked

      pub walking-small : now.size < 4294967295
      walking-small =
          omega (arith, g.size, can.small, ap length g.parts, length-append g.records (chain next now.at.0), ap length walking-onward.parts)

      pub walking-behind : now.behind < 4294967295
      walking-behind =
          omega (arith, g.behind, can.behind-small, ap length g.parts, length-append g.records (chain next now.at.0), ap length walking-onward.parts)

      pub walking-next : at rows now.at.0 < bound → Walking rows next j bound before (on_to (at next now.at.0) (stays j (at rows now.at.0) now))
      walking-next l =
          let r : ℕ = now.at.0 in
          let e : values_at rows (g.records ++ (r ∷ [])) ≡ values_at rows g.records ++ (at rows r ∷ []) =
          values-append rows g.records (r ∷ []) ∙ ap (λ (xs : List ℕ). values_at rows g.records ++ xs) (values_one rows r) in
          record {
            records = g.records ++ (r ∷ []);
            parts = g.parts ∙ ap (λ (xs : List ℕ). g.records ++ xs) walking-onward.parts ∙ sym (append_assoc g.records (r ∷ []) (chain next (at next r)));
            linked = walking-onward.linked;
            below = λ i t. elim (mem-either (values_at rows g.records) (among-mem i _ (subst (λ (xs : List ℕ). among i xs ≡ true) e t))) [
              | inl n ↦ g.below i (mem-among n)
              | inr n ↦ omega (arith, only-member n)
            ];
            size = omega (arith, g.size, length-append g.records (r ∷ []));
            behind = omega (arith, g.behind, length-append g.records (r ∷ []));
            parent = ap (λ (p : ℕ). first_over j p (at rows r)) g.parent ∙ sym (first-push j before.parent.0 (values_at rows g.records) (at rows r)) ∙
                ap (first_of j before.parent.0) (sym e);
            used = g.used;
            avail = g.avail;
            fits = g.fits;
          }

    done : (now.at.0 ≢ 0 → bound ≤ at rows now.at.0) → Passed rows next j bound before now
    done a =
        record {
          records = g.records;
          parts = g.parts;
          linked = g.linked;
          below = g.below;
          above = a;
          size = g.size;
          behind = g.behind;
          parent = g.parent;
          used = g.used;
          avail = g.avail;
          fits = g.fits;
        }

    pub passed-stop : bound ≤ at rows now.at.0 → Passed rows next j bound before now
    passed-stop l = done (λ z. l)

    pub passed-end : now.at.0 ≡ 0 → Passed rows next j bound before now
    passed-end e = done (λ z. absurd (z e))
