-- The loop that reports: the columns up to the j-th are reported (`Reporting`). Start, a turn with a column on a path and one with another, the end; what the places
-- of gathering and the chains say at a column (`AtColumn`). Assumes nothing.
use mathlib.Core.Path.{◌≡◌, refl, sym, ap, ◌∙◌, subst}
use mathlib.Core.Logic.{inl, inr}
use mathlib.Core.Bool.{Bool, true, false}
use mathlib.Core.List.{List, [], ◌∷◌, ◌++◌, append-nil}
use Prim.Native.Nat.{ℕ, suc, ◌+◌, ◌*◌, ◌-◌, ◌≤◌, ◌<◌, max}
use native.Mathlib.Omega.{arith}
use lib.ListN.{length, get_or, set, replicate, length-append, length-replicate, replicate-append-replicate}
use Rattle.lists.specs.Lists.{pick, at, sum_of, over}
use Rattle.lists.proofs.Tests.{cases}
use Rattle.lists.proofs.Rising.{rises-length}
use Rattle.lists.proofs.Sum.{sum-append}
use Rattle.lists.proofs.Place.{over-push, over-length}
use Rattle.symbolic.specs.Columns.{Column}
use Rattle.symbolic.specs.Factor.{FactorColumn, factor_of, column_at, pattern_of, size_of}
use Rattle.symbolic.specs.Batch.{is_exchanged, passing, exchanged, entries_of}
use Rattle.symbolic.proofs.Build.{factor-length}
use Rattle.symbolic.proofs.Passing.{passing-join, passing-short}
use Rattle.symbolic.proofs.Patterns.{pattern-within-rows}
use Rattle.workspace.specs.Regions.{cell}
use Rattle.workspace.specs.Layout.{gather_at}
use Rattle.workspace.specs.Parts.{upper_part}
use Rattle.pool.specs.Chains.{chain}
use Rattle.pool.proofs.Whole.{all-at}
use Rattle.tables.specs.Stored.{Stored, records_of}
use Rattle.tables.proofs.Stored.{sound-facts}
use Rattle.tables.proofs.Reading.{holds-size}
use Rattle.commit.specs.Gather.{CanCount}
use Rattle.exchange.specs.Exchange.{CanReport, Reported}

-- ---- the loop, of any test and any numbers

-- the first j columns are reported
pub record Reporting (m : ℕ) (t : ℕ → Bool) (g : ℕ → ℕ) (touched₀ labels₀ touched labels : List ℕ) (j n entries : ℕ) : Type 0 where
  pub within : j ≤ m
  pub touched-long : m ≤ length touched₀
  pub labels-long : m ≤ length labels₀
  pub touched-is : touched ≡ over (passing t 1 j) touched₀
  pub labels-is : labels ≡ over (replicate n 0) labels₀
  pub count-is : n ≡ length (passing t 1 j)
  pub entries-is : entries ≡ sum_of g (passing t 1 j)
  pub small : entries ≤ 4096 * j

pub reporting-start : {m : ℕ} {t : ℕ → Bool} {g : ℕ → ℕ} {touched labels : List ℕ} → m ≤ length touched → m ≤ length labels →
    Reporting m t g touched labels touched labels 0 0 0
unfolding passing sum_of
reporting-start p q =
    record { within = omega arith; touched-long = p; labels-long = q; touched-is = refl; labels-is = refl; count-is = refl; entries-is = refl; small = omega arith }

-- one column more
passing-one : (t : ℕ → Bool) (j : ℕ) → passing t 1 (j + 1) ≡ passing t 1 j ++ pick (t (1 + j)) ((1 + j) ∷ []) []
unfolding passing
passing-one t j = passing-join t 1 j 1

module _ {m : ℕ} {t : ℕ → Bool} {g : ℕ → ℕ} {touched₀ labels₀ touched labels : List ℕ} {j n entries : ℕ}
    (r : Reporting m t g touched₀ labels₀ touched labels j n entries) where
  pub reporting-count : n ≤ j
  reporting-count = omega (arith, r.count-is, passing-short t 1 j)

  pub reporting-touched : length touched ≡ length touched₀
  reporting-touched = ap length r.touched-is ∙ over-length (passing t 1 j) touched₀ (omega (arith, passing-short t 1 j, r.within, r.touched-long))

  pub reporting-labels : length labels ≡ length labels₀
  reporting-labels =
      ap length r.labels-is ∙
      over-length (replicate n 0) labels₀ (omega (arith, length-replicate {A = ℕ} n 0, reporting-count, r.within, r.labels-long))

  pub reporting-hit : (v : ℕ) → j < m → t (1 + j) ≡ true → v ≡ g (1 + j) → v ≤ 4096 →
      Reporting m t g touched₀ labels₀ (set touched n (j + 1)) (set labels n 0) (j + 1) (n + 1) (entries + v)
  unfolding sum_of
  reporting-hit v h e w s =
      let p : passing t 1 (j + 1) ≡ passing t 1 j ++ ((1 + j) ∷ []) = passing-one t j ∙ ap (λ (b : Bool). passing t 1 j ++ pick b ((1 + j) ∷ []) []) e in
      let q : j + 1 ≡ 1 + j = omega arith in
      record {
        within = omega arith;
        touched-long = r.touched-long;
        labels-long = r.labels-long;
        touched-is =
            ap (λ (l : List ℕ). set l n (j + 1)) r.touched-is ∙
            over-push (passing t 1 j) touched₀ n (j + 1) (sym r.count-is) (omega (arith, reporting-count, r.touched-long)) ∙
            ap (λ (k : ℕ). over (passing t 1 j ++ (k ∷ [])) touched₀) q ∙ ap (λ (l : List ℕ). over l touched₀) (sym p);
        labels-is =
            ap (λ (l : List ℕ). set l n 0) r.labels-is ∙
            over-push (replicate n 0) labels₀ n 0 (length-replicate {A = ℕ} n 0) (omega (arith, reporting-count, r.labels-long)) ∙
            ap (λ (l : List ℕ). over l labels₀) (replicate-append-replicate {A = ℕ} n 1 0);
        count-is = omega (arith, ap length p, length-append (passing t 1 j) ((1 + j) ∷ []), r.count-is);
        entries-is = omega (arith, ap (sum_of g) p, sum-append g (passing t 1 j) ((1 + j) ∷ []), r.entries-is);
        small = omega (arith, r.small);
      }

  pub reporting-miss : j < m → t (1 + j) ≡ false → Reporting m t g touched₀ labels₀ touched labels (j + 1) n entries
  reporting-miss h e =
      let p : passing t 1 (j + 1) ≡ passing t 1 j =
      passing-one t j ∙ ap (λ (b : Bool). passing t 1 j ++ pick b ((1 + j) ∷ []) []) e ∙ append-nil (passing t 1 j) in
      record {
        within = omega arith;
        touched-long = r.touched-long;
        labels-long = r.labels-long;
        touched-is = r.touched-is ∙ ap (λ (l : List ℕ). over l touched₀) (sym p);
        labels-is = r.labels-is;
        count-is = r.count-is ∙ ap length (sym p);
        entries-is = r.entries-is ∙ ap (sum_of g) (sym p);
        small = omega (arith, r.small);
      }

-- ---- of an exchange

-- in the turn of a column: it has a place, and there is room to report it
pub record Turn (m f : ℕ) (work touched labels : List ℕ) (j n entries : ℕ) : Type 0 where
  pub low : j < m
  pub m-bound : m ≤ 4096
  pub f-bound : f ≤ 1048576
  pub room : m ≤ f
  pub long : 8 * m + 4 * f + 1024 ≤ length work
  pub few : n ≤ j
  pub touched-long : m ≤ length touched
  pub labels-long : m ≤ length labels
  pub small : entries ≤ 4096 * j

module _ {s : Stored} {R A B : List Column} {work touched labels : List ℕ} (c : CanReport s R A B work touched labels) where
  abbrev m : ℕ
  m = length s.heads

  abbrev before : List FactorColumn
  before = factor_of (length s.heads) (R ++ A)

  abbrev after : List FactorColumn
  after = factor_of (length s.heads) (R ++ B)

  size_small : (cs : List Column) (j : ℕ) → 1 ≤ j → j ≤ m → size_of (column_at (factor_of m cs) j) ≤ 4096
  size_small cs j a b = omega (arith, rises-length 1 m (pattern_of (column_at (factor_of m cs) j)) (omega arith) (pattern-within-rows m cs j a b), c.m-bound)

  -- the chain of a column, as the tables have it
  pub report-count : (j : ℕ) → 1 ≤ j → j ≤ length s.heads → CanCount s.next (at s.heads j)
  report-count j a b =
      let k = sound-facts (R ++ B) s c.sound in
      record {
        linked = all-at s.next s.heads j a b k.pool.linked;
        short = omega (arith, holds-size (k.column j a b), size_small (R ++ B) j a b);
      }

  -- the same at a place of the heads
  pub report-head : (j : ℕ) → j < length s.heads → CanCount s.next (get_or s.heads j 0)
  report-head j h =
      let q : suc j - 1 ≡ j = omega arith in
      subst (λ (i : ℕ). CanCount s.next (get_or s.heads i 0)) q (report-count (suc j) (omega arith) (omega arith))

  abbrev pub Reports : (touched' labels' : List ℕ) (j n entries : ℕ) → Type 0
  Reports ts ls j n e =
      Reporting (length s.heads) (is_exchanged before after A B) (λ (j : ℕ). max (size_of (column_at before j)) (size_of (column_at after j))) touched labels ts ls j n e

  pub reports-start : Reports touched labels 0 0 0
  reports-start = reporting-start c.touched-long c.labels-long

  module _ {touched' labels' : List ℕ} {j n entries : ℕ} (r : Reports touched' labels' j n entries) (h : j < length s.heads) where
    -- what the place of the column says
    says : upper_part (cell work (gather_at m (length s.next)) j) ≡ pick (is_exchanged before after A B (1 + j)) (1 + size_of (column_at before (1 + j))) 0
    says =
        let q : 1 + j - 1 ≡ j = omega arith in
        ap (λ (i : ℕ). upper_part (cell work (gather_at m (length s.next)) i)) (sym q) ∙ c.gathered (1 + j) (omega arith) (omega arith)

    pub reports-turn : Turn (length s.heads) (length s.next) work touched' labels' j n entries
    reports-turn =
        record {
          low = h;
          m-bound = c.m-bound;
          f-bound = c.f-bound;
          room = c.room;
          long = c.long;
          few = reporting-count r;
          touched-long = omega (arith, reporting-touched r, c.touched-long);
          labels-long = omega (arith, reporting-labels r, c.labels-long);
          small = r.small;
        }

    -- a column on a path, with the larger of its sizes
    module _ {v : ℕ} (z : upper_part (cell work (gather_at (length s.heads) (length s.next)) j) ≡ 0 → ⊥)
        (w : v ≡ max (upper_part (cell work (gather_at (length s.heads) (length s.next)) j) - 1) (length (chain s.next (get_or s.heads j 0)))) where
      abbrev x : ℕ
      x = upper_part (cell work (gather_at m (length s.next)) j)

      hit : is_exchanged before after A B (1 + j) ≡ true
      hit =
          elim (cases (is_exchanged before after A B (1 + j))) [
            | inr f ↦ absurd (z (says ∙ ap (λ (b : Bool). pick b (1 + size_of (column_at before (1 + j))) 0) f))
            | inl y ↦ y
          ]

      value : v ≡ max (size_of (column_at before (1 + j))) (size_of (column_at after (1 + j)))
      value =
          let k = sound-facts (R ++ B) s c.sound in
          let i : length (records_of s (1 + j)) ≡ size_of (column_at after (1 + j)) = holds-size (k.column (1 + j) (omega arith) (omega arith)) in
          let o : x ≡ 1 + size_of (column_at before (1 + j)) = says ∙ ap (λ (b : Bool). pick b (1 + size_of (column_at before (1 + j))) 0) hit in
          let p : x - 1 ≡ size_of (column_at before (1 + j)) = omega arith in
          let q : j ≡ 1 + j - 1 = omega arith in
          w ∙ ap (λ (i : ℕ). max (x - 1) (length (chain s.next (get_or s.heads i 0)))) q ∙ ap (λ (a : ℕ). max a (length (records_of s (1 + j)))) p ∙
          ap (λ (a : ℕ). max (size_of (column_at before (1 + j))) a) i

      pub reports-small : v ≤ 4096
      reports-small = omega (arith, value, size_small (R ++ A) (1 + j) (omega arith) (omega arith), size_small (R ++ B) (1 + j) (omega arith) (omega arith))

      pub reports-hit : Reports (set touched' n (j + 1)) (set labels' n 0) (j + 1) (n + 1) (entries + v)
      reports-hit = reporting-hit r v h hit value reports-small

    pub reports-miss : upper_part (cell work (gather_at (length s.heads) (length s.next)) j) ≡ 0 → Reports touched' labels' (j + 1) n entries
    reports-miss z =
        elim (cases (is_exchanged before after A B (1 + j))) [
          | inr f ↦ reporting-miss r h f
          | inl y ↦
              let o : upper_part (cell work (gather_at m (length s.next)) j) ≡ 1 + size_of (column_at before (1 + j)) =
              says ∙ ap (λ (b : Bool). pick b (1 + size_of (column_at before (1 + j))) 0) y in
              absurd (omega arith)
        ]

  pub reports-end : {touched' labels' : List ℕ} {j n entries : ℕ} → Reports touched' labels' j n entries → length s.heads ≤ j →
      Reported (length s.heads) R A B touched labels touched' labels' n entries
  reports-end {j = j} r h =
      let p : passing (is_exchanged before after A B) 1 j ≡ exchanged before after A B =
      ap (λ (n : ℕ). passing (is_exchanged before after A B) 1 n) (same j r.within h) in
      record {
        touched-is = r.touched-is ∙ ap (λ (l : List ℕ). over l touched) p;
        labels-is = r.labels-is ∙ ap (λ (n : ℕ). over (replicate n 0) labels) (r.count-is ∙ ap length p);
        count-is = r.count-is ∙ ap length p;
        entries-is = r.entries-is ∙ ap (λ (js : List ℕ). entries_of before after js) p;
      }
    where
      same : (j : ℕ) → j ≤ m → m ≤ j → j ≡ length after
      same j a b = omega (arith, factor-length m (R ++ B))
