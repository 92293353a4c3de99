-- The loops that follow parents up: what is done and what is left of a path make up the whole (`Following`), one turn, and the end; with the rows done
-- written to the front of a list (`Climbing`). Assumes nothing.
use mathlib.Core.Path.{◌≡◌, refl, sym, ap, ◌∙◌}
use mathlib.Core.Logic.{◌≢◌, inl, inr}
use mathlib.Core.List.{List, [], ◌∷◌, ◌++◌, append_assoc, append-nil}
use Prim.Native.Nat.{ℕ, ◌+◌, ◌≤◌, ◌<◌}
use native.Mathlib.Omega.{arith}
use lib.ListN.{length, set, length-append}
use Rattle.lists.specs.Lists.{at, over}
use Rattle.lists.proofs.Tests.{zero-or-pos}
use Rattle.lists.proofs.Place.{over-push, over-length}
use Rattle.symbolic.specs.Columns.{Register, live}
use Rattle.symbolic.specs.Factor.{factor_for, parent_of}
use Rattle.symbolic.proofs.Build.{laws}
use Rattle.symbolic.proofs.Paths.{path-root, path-step, path-length}
use Rattle.calls.specs.Questions.{path_list}
use Rattle.questions.specs.Asked.{ParentsFor}

-- ---- one step up

pub record Up (parents : List ℕ) (r : Register) (q : ℕ) : Type 0 where
  pub parts : path_list r q ≡ q ∷ path_list r (at parents q)
  pub high : at parents q ≤ length parents
  pub shorter : length (path_list r (at parents q)) < length (path_list r q)

module _ {ps : List ℕ} {r : Register} (f : ParentsFor ps r) where
  pub step-up : (q : ℕ) → 1 ≤ q → q ≤ length ps → Up ps r q
  step-up q a b =
      let e : at ps q ≡ parent_of (factor_for r) q = f.parent q a b in
      let p : path_list r q ≡ q ∷ path_list r (at ps q) =
      path-step r.m (live r) q a (omega (arith, f.size)) ∙ ap (λ (x : ℕ). q ∷ path_list r x) (sym e) in
      record {
        parts = p;
        high = elim (zero-or-pos (parent_of (factor_for r) q)) [
          | inl z ↦ omega arith
          | inr z ↦ omega (arith, ((laws r.m (live r)).parent_in q a (omega (arith, f.size)) z).1, f.size)
        ];
        shorter = omega (arith, ap length p);
      }

  pub path-none : path_list r 0 ≡ []
  path-none = path-root (length (factor_for r)) (factor_for r)

  pub path-short : (j : ℕ) → 1 ≤ j → j ≤ length ps → length (path_list r j) ≤ length ps
  path-short j a b = omega (arith, path-length r.m (live r) j a (omega (arith, f.size)), f.size)

-- ---- the invariant: n rows are done, the path of q is left

pub record Following (parents : List ℕ) (r : Register) (j q n : ℕ) : Type 0 where
  pub done : List ℕ
  pub parts : path_list r j ≡ done ++ path_list r q
  pub number : length done ≡ n
  pub high : q ≤ length parents

module _ {ps : List ℕ} {r : Register} (f : ParentsFor ps r) (j : ℕ) (b : j ≤ length ps) where
  pub following-start : Following ps r j j 0
  following-start = record { done = []; parts = refl; number = refl; high = b }

  module _ {q n : ℕ} (i : Following ps r j q n) where
    pub following-within : n + length (path_list r q) ≡ length (path_list r j)
    following-within = omega (arith, i.number, ap length i.parts, length-append i.done (path_list r q))

    pub following-turn : q ≢ 0 → Following ps r j (at ps q) (n + 1)
    following-turn z =
        let u : Up ps r q = step-up f q (omega arith) i.high in
        record {
          done = i.done ++ (q ∷ []);
          parts = i.parts ∙ ap (λ (l : List ℕ). i.done ++ l) u.parts ∙ sym (append_assoc i.done (q ∷ []) (path_list r (at ps q)));
          number = omega (arith, length-append i.done (q ∷ []), i.number);
          high = u.high;
        }

    pub following-all : q ≡ 0 → path_list r j ≡ i.done
    following-all z =
        i.parts ∙ ap (λ (x : ℕ). i.done ++ path_list r x) z ∙ ap (λ (l : List ℕ). i.done ++ l) (path-none f) ∙ append-nil i.done

    pub following-end : q ≡ 0 → n ≡ length (path_list r j)
    following-end z = omega (arith, i.number, ap length (following-all z))

-- ---- with the rows done at the front of a list

pub record Climbing (parents list₀ : List ℕ) (r : Register) (j : ℕ) (list : List ℕ) (q n : ℕ) : Type 0 where
  pub following : Following parents r j q n
  pub written : list ≡ over following.done list₀

module _ {ps list₀ : List ℕ} {r : Register} (f : ParentsFor ps r) (j : ℕ) (b : j ≤ length ps) where
  pub climbing-start : Climbing ps list₀ r j list₀ j 0
  unfolding following-start
  climbing-start = record { following = following-start f j b; written = refl }

  module _ (fits : length (path_list r j) ≤ length list₀) {list : List ℕ} {q n : ℕ} (i : Climbing ps list₀ r j list q n) where
    pub climbing-long : length list ≡ length list₀
    climbing-long =
        ap length i.written ∙ over-length i.following.done list₀ (omega (arith, fits, following-within f j b i.following, i.following.number))

    pub climbing-turn : q ≢ 0 → Climbing ps list₀ r j (set list n q) (at ps q) (n + 1)
    unfolding following-turn
    climbing-turn z =
        let u : Up ps r q = step-up f q (omega arith) i.following.high in
        record {
          following = following-turn f j b i.following z;
          written =
              ap (λ (l : List ℕ). set l n q) i.written ∙
              over-push i.following.done list₀ n q i.following.number (omega (arith, fits, following-within f j b i.following, u.shorter));
        }

    pub climbing-end : q ≡ 0 → list ≡ over (path_list r j) list₀
    climbing-end z = i.written ∙ ap (λ (l : List ℕ). over l list₀) (sym (following-all f j b i.following z))
