-- A part of the work table that was lent and written, from place a up to place e: the rest of the table stays, and the part holds what was written.
-- Assumes nothing.
use mathlib.Core.Path.{◌≡◌, sym, ap, subst, ◌∙◌}
use mathlib.Core.Logic.{inl, inr}
use mathlib.Core.List.{List, ◌++◌}
use Prim.Native.Nat.{ℕ, ◌+◌, ◌-◌, ◌≤◌}
use native.Mathlib.Omega.{arith}
use lib.ListN.{length, get_or, take, get_or-append}
use lib.Seq.{get_or-take, get_or-drop, length-take-le}
use borrow.Rule.Slice.PartMut.{put_mid, post_of, same_len_mid, mid_len, drop_put}
use Rattle.std.proofs.lemmas.Slice.{between-put_mid}
use Rattle.workspace.specs.Regions.{region, OnlyIn}

module _ (w ys : List ℕ) (a e : ℕ) (low : a ≤ e) (high : e ≤ length w) (long : length ys ≡ e - a) where
  pub written-only : OnlyIn a (e - a) w (put_mid a (e - a) w ys)
  written-only =
      record {
        same_length = same_len_mid a (e - a) w ys (long ∙ sym (mid_len a e w high));
        outside = λ k s. elim s [
          | inl h ↦ get_or-append (take a w) (ys ++ post_of a (e - a) w) 0 k (omega (arith, length-take-le a w (omega arith))) ∙ get_or-take a w k 0 h
          | inr h ↦
              let q : e + (k - e) ≡ k = omega arith in
              subst (λ (x : ℕ). get_or (put_mid a (e - a) w ys) x 0 ≡ get_or w x 0) q
              (sym (get_or-drop e (put_mid a (e - a) w ys) (k - e) 0) ∙ ap (λ (l : List ℕ). get_or l (k - e) 0) (drop_put a e w ys low high long) ∙ get_or-drop e w (k - e) 0)
        ];
      }

  pub written-region : region (put_mid a (e - a) w ys) a (e - a) ≡ ys
  written-region = between-put_mid a (e - a) w ys e (omega arith) long
