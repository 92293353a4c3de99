-- The scan for the ids that a choice takes, group by group: those before id i have gone (`Scanned`). Start, the group that is collected next, and none left. Assumes
-- nothing.
use mathlib.Core.Path.{◌≡◌, sym, ap, ◌∙◌}
use mathlib.Core.Logic.{inl, inr}
use mathlib.Core.Bool.{Bool}
use mathlib.Core.List.{List, []}
use Prim.Native.Nat.{ℕ, ◌+◌, ◌-◌, ◌≤◌, ◌<◌}
use native.Mathlib.Omega.{arith}
use lib.Dec.{eqb}
use lib.ListN.{length, take, drop, length-append, length-drop}
use lib.Seq.{length-take-le, take_at, drop_at, drop-drop}
use borrow.Author.Tests.{eq-eqb, ne_eqb}
use Rattle.lists.proofs.Tests.{zero-or-pos}
use Rattle.windows.specs.Chosen.{ids_from, chosen_ids, ids_on, Collected}
use Rattle.exchange.proofs.Parting.{GroupEnds}

-- how many of the ids that a choice takes stand before id i
abbrev pub gone : (heads : List ℕ) → (choice : ℕ → Bool) → (id : ℕ) → ℕ
gone hs p i = length (chosen_ids hs p) - length (ids_on hs p i)

-- the scan has come to id i: what is left is the list of ids without those that have gone
pub record Scanned (heads : List ℕ) (choice : ℕ → Bool) (id : ℕ) : Type 0 where
  pub low : 1 ≤ id
  pub high : id ≤ length heads + 1
  pub rest : ids_on heads choice id ≡ drop (gone heads choice id) (chosen_ids heads choice)

module _ (hs : List ℕ) (p : ℕ → Bool) where
  -- from id 1 on
  first-all : ids_on hs p 1 ≡ chosen_ids hs p
  first-all = let q : length hs + 1 - 1 ≡ length hs = omega arith in ap (λ (n : ℕ). ids_from hs p 1 n) q

  pub none-gone : gone hs p 1 ≡ 0
  none-gone = omega (arith, ap length first-all)

  pub scanned-start : Scanned hs p 1
  scanned-start =
      record { low = omega arith; high = omega arith; rest = first-all ∙ ap (λ (a : ℕ). drop a (chosen_ids hs p)) (sym none-gone) }

  -- past the last id
  none-past : ids_on hs p (length hs + 1) ≡ []
  unfolding ids_from
  none-past = let q : length hs + 1 - (length hs + 1) ≡ 0 = omega arith in ap (λ (n : ℕ). ids_from hs p (length hs + 1) n) q

module _ {hs : List ℕ} {p : ℕ → Bool} {i : ℕ} (v : Scanned hs p i) {before list : List ℕ} {count next : ℕ} (c : Collected hs p i before list count next) where
  pub part_length : length (take count list) ≡ count
  part_length = length-take-le count list (omega (arith, c.count_fits, c.same_length))

  lengths : length (ids_on hs p i) ≡ count + length (ids_on hs p next)
  lengths = ap length c.ids ∙ length-append (take count list) (ids_on hs p next) ∙ ap (λ (n : ℕ). n + length (ids_on hs p next)) part_length

  -- some are left, or none
  left-within : length (ids_on hs p i) ≤ length (chosen_ids hs p)
  left-within = omega (arith, ap length v.rest, length-drop (gone hs p i) (chosen_ids hs p))

  pub gone-next : gone hs p next ≡ gone hs p i + count
  gone-next = omega (arith, lengths, left-within)

  pub scanned-next : Scanned hs p next
  scanned-next =
      record {
        low = omega (arith, v.low, c.low);
        high = c.high;
        rest = sym (drop_at (take count list) (ids_on hs p next) count part_length) ∙ ap (drop count) (sym c.ids ∙ v.rest) ∙
            drop-drop count (gone hs p i) (chosen_ids hs p) ∙ ap (λ (a : ℕ). drop a (chosen_ids hs p)) (sym gone-next);
      }

  -- the group is the part of the list of ids from here to there
  pub collected-is : take count list ≡ take (gone hs p next - gone hs p i) (drop (gone hs p i) (chosen_ids hs p))
  collected-is =
      let q : count ≡ gone hs p next - gone hs p i = omega (arith, gone-next) in
      sym (take_at (take count list) (ids_on hs p next) count part_length) ∙ ap (take count) (sym c.ids ∙ v.rest) ∙
      ap (λ (k : ℕ). take k (drop (gone hs p i) (chosen_ids hs p))) q

  pub collected-ends : 0 < count → length before ≤ 64 → GroupEnds (gone hs p i) (length (chosen_ids hs p)) (gone hs p next)
  collected-ends h l = record { low = omega (arith, gone-next); high = omega arith; few = omega (arith, gone-next, c.count_fits) }

  -- a group of none: none is left
  pub scanned-end : count ≡ 0 → 0 < length before → length (chosen_ids hs p) ≤ gone hs p i
  scanned-end h l =
      elim c.full [
        | inl e ↦ absurd (omega arith)
        | inr e ↦ omega (arith, lengths, left-within, ap length (none-past hs p), ap (λ (n : ℕ). length (ids_on hs p n)) e)
      ]

-- a list with places that is left empty, from id 1 on: the choice takes none
pub collected-none : {hs : List ℕ} {p : ℕ → Bool} {before list : List ℕ} {count next : ℕ} → Collected hs p 1 before list count next → 0 < length before →
    eqb count 0 ≡ eqb (length (chosen_ids hs p)) 0
collected-none {hs} {p} {count = count} c l =
    let v : Scanned hs p 1 = scanned-start hs p in
    elim (zero-or-pos count) [
      | inl e ↦
          let z : length (chosen_ids hs p) ≡ 0 = omega (arith, scanned-end v c e l, none-gone hs p) in
          eq-eqb count 0 e ∙ sym (eq-eqb (length (chosen_ids hs p)) 0 z)
      | inr e ↦
          let y : count ≡ 0 → ⊥ = λ q. omega arith in
          let z : length (chosen_ids hs p) ≡ 0 → ⊥ = λ q. omega (arith, gone-next v c, none-gone hs p) in
          ne_eqb count 0 y ∙ sym (ne_eqb (length (chosen_ids hs p)) 0 z)
    ]
