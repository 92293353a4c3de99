-- The loop that copies a column's rows to the front of a list: its invariant Copying, one turn, its end.
-- What it starts from: a sound book's column has a chain that ends (id-linked), of at most 256 records (id-few).
-- Assumes nothing.
use mathlib.Core.Path.{◌≡◌, sym, ap, subst, ◌∙◌}
use mathlib.Core.Logic.{inl, inr, ◌≢◌}
use mathlib.Core.List.{List, [], ◌∷◌}
use Prim.Native.Nat.{ℕ, suc, ◌+◌, ◌≤◌, ◌<◌}
use native.Mathlib.Omega.{arith}
use native.Mathlib.Numerals.{add-one}
use lib.ListN.{length, get_or, take, drop, set, length-drop}
use lib.Seq.{drop-cons}
use Rattle.lists.specs.Lists.{at, values_at, over}
use Rattle.lists.proofs.Tests.{cases}
use Rattle.lists.proofs.Place.{values_length, values-place}
use Rattle.lists.proofs.Over.{over_none, over-next, over-all, over-taken}
use Rattle.pool.specs.Chains.{chain, Linked}
use Rattle.pool.proofs.Chains.{chain-nil, linked-end, Step, linked-step}
use Rattle.pool.proofs.Whole.{pool-linked}
use Rattle.book.specs.Book.{Book, is_booked, column_for}
use Rattle.book.specs.Entries.{HasId}
use Rattle.book.proofs.Columns.{absent-zero}
use Rattle.book.proofs.Sound.{Sound, sound-of, fitting}

-- ---- what a column of a sound book has

module _ {b : Book} {l : ℕ} (h : HasId b l) where
  pub id-sound : Sound h.m b
  id-sound = sound-of h.m b h.sound

  pub id-linked : Linked b.next (at b.heads l) (chain b.next (at b.heads l))
  id-linked = pool-linked id-sound.pool l h.low h.high

  pub id-few : length (chain b.next (at b.heads l)) ≤ 256
  id-few =
      elim (cases (is_booked b.heads l)) [
        | inl e ↦ omega (arith, (fitting h.m (column_for b l) (id-sound.fits l h.low e)).few, values_length b.rows (chain b.next (at b.heads l)))
        | inr e ↦ omega (arith, ap length (ap (chain b.next) (absent-zero b.heads l e) ∙ chain-nil (length b.next) b.next))
      ]

-- ---- the loop

pub record Copying (rows next list₀ : List ℕ) (head : ℕ) (list : List ℕ) (r n : ℕ) : Type 0 where
  pub within : n ≤ length (chain next head)
  pub linked : Linked next r (drop n (chain next head))
  pub filled : list ≡ over (take n (values_at rows (chain next head))) list₀

pub record CopyTurn (rows next list₀ : List ℕ) (head : ℕ) (list : List ℕ) (r n : ℕ) : Type 0 where
  pub low : 1 ≤ r
  pub high : r ≤ length next
  pub more : n < length (chain next head)
  pub again : Copying rows next list₀ head (set list n (at rows r)) (at next r) (n + 1)

pub copying-start : (rows : List ℕ) {next : List ℕ} (list₀ : List ℕ) {head : ℕ} → Linked next head (chain next head) → Copying rows next list₀ head list₀ head 0
copying-start rows {next} list₀ {head} l = record { within = omega arith; linked = l; filled = over_none (values_at rows (chain next head)) list₀ }

module _ {rows next list₀ : List ℕ} {head : ℕ} (room : length (values_at rows (chain next head)) ≤ length list₀) {list : List ℕ} {r n : ℕ} (i : Copying rows next list₀ head list r n) where
  pub copying-long : length list ≡ length list₀
  copying-long = ap length i.filled ∙ over-taken (values_at rows (chain next head)) list₀ n (omega (arith, i.within, values_length rows (chain next head))) room

  pub copying-turn : r ≢ 0 → CopyTurn rows next list₀ head list r n
  copying-turn p =
      let cs : List ℕ = chain next head in
      let s : Step next r (drop n cs) = linked-step next r (drop n cs) p i.linked in
      let more : n < length cs = omega (arith, length-drop n cs, ap length s.parts) in
      let both : r ∷ s.rest ≡ get_or cs n 0 ∷ drop (suc n) cs = sym s.parts ∙ drop-cons cs n 0 more in
      let first-is : r ≡ get_or cs n 0 = cc in
      let rest-is : s.rest ≡ drop (suc n) cs = cc in
      let v : get_or (values_at rows cs) n 0 ≡ at rows r = values-place rows cs n more ∙ ap (at rows) (sym first-is) in
      record {
        low = s.low;
        high = s.high;
        more = more;
        again = record {
          within = omega arith;
          linked = subst (λ (l : List ℕ). Linked next (at next r) l) (rest-is ∙ ap (λ (k : ℕ). drop k cs) (sym (add-one n))) s.next;
          filled = ap (λ (l : List ℕ). set l n (at rows r)) i.filled ∙ over-next (values_at rows cs) list₀ n (at rows r) (omega (arith, values_length rows cs)) room v;
        };
      }

  pub copying-end : r ≡ 0 → (n ≡ length (values_at rows (chain next head))) × (list ≡ over (values_at rows (chain next head)) list₀)
  copying-end p =
      let e : drop n (chain next head) ≡ [] = linked-end next r (drop n (chain next head)) p i.linked in
      let k : length (chain next head) ≤ n = omega (arith, length-drop n (chain next head), ap length e) in (
        omega (arith, i.within, values_length rows (chain next head)),
        i.filled ∙ over-all (values_at rows (chain next head)) list₀ n (omega (arith, values_length rows (chain next head))),
      )
