-- Laws of an exchange on its way: nothing has moved at the start (`moved_none`), what one group leaves is moved (`group-moved`), moves follow one another while R
-- stays (`moved-joins`), and are read with other names for the same touched columns and the same columns (`moved_as`). Assumes nothing.
use mathlib.Core.Path.{◌≡◌, refl, sym, ap, ◌∙◌, subst}
use mathlib.Core.Logic.{inl, inr}
use mathlib.Core.Bool.{Bool, true, false, ◌||◌, true≢false}
use mathlib.Core.List.{List, ◌++◌}
use Prim.Native.Nat.{ℕ, ◌+◌, ◌≤◌}
use native.Mathlib.Omega.{arith}
use lib.Dec.{eqb}
use lib.ListN.{length}
use borrow.Author.Tests.{eq-eqb, ne_eqb}
use Rattle.lists.specs.Lists.{pick, Mem, at, values_at}
use Rattle.lists.proofs.Tests.{zero-or-pos}
use Rattle.lists.proofs.Rising.{rises-in}
use Rattle.lists.proofs.Place.{values-mem, mem-values}
use Rattle.symbolic.specs.Columns.{Column}
use Rattle.symbolic.specs.Factor.{FactorColumn, factor_of, column_at, in_pattern}
use Rattle.symbolic.specs.Change.{Bag}
use Rattle.symbolic.proofs.Patterns.{pattern-within-rows}
use Rattle.symbolic.proofs.Theorems.{growth, order-free}
use Rattle.workspace.proofs.Regions.{only-refl, only-trans}
use Rattle.tables.specs.Stored.{Stored, Sized, records_of, holds_from, is_sound_for}
use Rattle.tables.proofs.Stored.{sound-bag, sound-holds, stored-column, stands-is}
use Rattle.tables.proofs.Revised.{stays-self, stays-joins}
use Rattle.columns.specs.Commit.{Holds}
use Rattle.columns.proofs.Stored as chains
use Rattle.exchange.specs.Stages.{gathered_in, Gathers, GroupDone, Moved}

-- ---- gathering

-- what is gathered after two steps: p before, q between, z after
gathered-twice : (p q z n k : ℕ) (c d : Bool) → q ≡ pick (eqb p 0) (pick c (1 + n) 0) p → z ≡ pick (eqb q 0) (pick d (1 + k) 0) q → (c ≡ false → k ≡ n) →
    z ≡ pick (eqb p 0) (pick (c || d) (1 + n) 0) p
gathered-twice p q z n k c d g h e =
    elim (zero-or-pos p) [
      | inr r ↦
          let o : eqb p 0 ≡ false = ne_eqb p 0 (λ e. omega arith) in
          let v : q ≡ p = rw o at g in
          h ∙ rw (v, o) refl
      | inl r ↦ let o : eqb p 0 ≡ true = eq-eqb p 0 r in rw o (fresh q z n k c d (rw o at g) h e)
    ]
  where
    fresh : (q z n k : ℕ) (c d : Bool) → q ≡ pick c (1 + n) 0 → z ≡ pick (eqb q 0) (pick d (1 + k) 0) q → (c ≡ false → k ≡ n) → z ≡ pick (c || d) (1 + n) 0
    fresh q z n k true d g h e = let o : eqb q 0 ≡ false = ne_eqb q 0 (λ e. omega arith) in h ∙ rw o g
    fresh q z n k false d g h e =
        let o : eqb q 0 ≡ true = eq-eqb q 0 g in h ∙ rw o (ap (λ (x : ℕ). pick d (1 + x) 0) (e refl))

module _ {m f : ℕ} where
  pub gathers-none : {size : ℕ → ℕ} {work : List ℕ} → Gathers m f (λ j. false) size work work
  gathers-none {work = work} = record { only = only-refl; low = λ i h. refl; counts = λ j a b. kept (gathered_in m f work j) }
    where
      kept : (x : ℕ) → x ≡ pick (eqb x 0) 0 x
      kept x = elim (zero-or-pos x) [ inl e ↦ rw (eq-eqb x 0 e) e | inr p ↦ rw (ne_eqb x 0 (λ e. omega arith)) refl ]

  pub gathers-as : {t u : ℕ → Bool} {size : ℕ → ℕ} {before after : List ℕ} → ((j : ℕ) → 1 ≤ j → j ≤ m → t j ≡ u j) →
      Gathers m f t size before after → Gathers m f u size before after
  gathers-as {size = size} {before} e g =
      record {
        only = g.only;
        low = g.low;
        counts = λ j a b. g.counts j a b ∙
            ap (λ (z : Bool). pick (eqb (gathered_in m f before j) 0) (pick z (1 + size j) 0) (gathered_in m f before j)) (e j a b);
      }

  -- of columns that were not touched before, the sizes are those of the start
  pub gathers-join : {t u : ℕ → Bool} {size size' : ℕ → ℕ} {w x y : List ℕ} → Gathers m f t size w x → Gathers m f u size' x y →
      ((j : ℕ) → 1 ≤ j → j ≤ m → t j ≡ false → size' j ≡ size j) → Gathers m f (λ j. t j || u j) size w y
  gathers-join {t} {u} {size} {size'} {w} {x} {y} g h e =
      record {
        only = only-trans g.only h.only;
        low = λ i l. h.low i l ∙ g.low i l;
        counts = λ j a b. gathered-twice (gathered_in m f w j) (gathered_in m f x j) (gathered_in m f y j) (size j) (size' j) (t j) (u j) (g.counts j a b) (h.counts j a b) (e j a b);
      }

-- ---- moves

-- the record of a row that stands in a chain
module _ {m f : ℕ} {R : List Column} where
  pub moved_none : {s : Stored} {columns : List Column} {work : List ℕ} → Sized s → is_sound_for columns s ≡ true → length s.heads ≡ m →
      Moved m f R s (λ j. false) columns s work work
  moved_none {s} {columns} z h e =
      let held : (j : ℕ) → 1 ≤ j → j ≤ m → Holds s j (column_at (factor_of m columns) j).counts = λ j a b.
      let c = stored-column m columns s (subst (λ (n : ℕ). holds_from s (factor_of n columns) 1 n ≡ true) e (sound-holds columns s h)) j a b in
      record { rows = c.rows; counts = c.counts } in
      record {
        sized = z;
        heads = refl;
        long = refl;
        sound = h;
        others = λ j a b n. stays-self s j;
        entries = λ j a b x y k l q n. chains.held-keep (chains.stays-self s j) (held j a b) x y k l q;
        gathers = gathers-none;
      }

  pub group-moved : {s : Stored} {t : ℕ → Bool} {columns : List Column} {after : Stored} {work work' : List ℕ} →
      GroupDone m f s t columns after work work' → Moved m f R s t columns after work work'
  group-moved g =
      record {
        sized = g.sized;
        heads = g.heads;
        long = g.long;
        sound = g.sound;
        others = g.others;
        entries = λ j a b x y h k e n. g.keep j a b x y h k e;
        gathers = g.gathers;
      }

  -- other names for what is touched, and the columns in another order
  pub moved_as : {s : Stored} {t u : ℕ → Bool} {cs ds : List Column} {after : Stored} {work work' : List ℕ} → ((j : ℕ) → 1 ≤ j → j ≤ m → t j ≡ u j) →
      Bag ds cs → Moved m f R s t cs after work work' → Moved m f R s u ds after work work'
  moved_as {cs = cs} {ds} {after} e b v =
      record {
        sized = v.sized;
        heads = v.heads;
        long = v.long;
        sound = sound-bag ds cs after b ∙ v.sound;
        others = λ j p q n. v.others j p q (e j p q ∙ n);
        entries = v.entries;
        gathers = gathers-as e v.gathers;
      }

  module _ {s : Stored} (wide : length s.heads ≡ m) {t u : ℕ → Bool} {cs ds : List Column} {mid after : Stored} {work work' work'' : List ℕ}
      (v : Moved m f R s t cs mid work work') (rest : List Column) (same : Bag cs (R ++ rest)) (w : Moved m f R mid u ds after work' work'') where
    mid-holds : holds_from mid (factor_of m cs) 1 m ≡ true
    mid-holds = subst (λ (n : ℕ). holds_from mid (factor_of n cs) 1 n ≡ true) (ap length v.heads ∙ wide) (sound-holds cs mid v.sound)

    after_holds : holds_from after (factor_of m ds) 1 m ≡ true
    after_holds = subst (λ (n : ℕ). holds_from after (factor_of n ds) 1 n ≡ true) (ap length (w.heads ∙ v.heads) ∙ wide) (sound-holds ds after w.sound)

    -- a row that stands after, and for R, stands between
    stands-between : (i j : ℕ) → 1 ≤ j → j ≤ m → Mem i (values_at after.rows (records_of after j)) → in_pattern (factor_of m R) i j ≡ true →
        Mem i (values_at mid.rows (records_of mid j))
    stands-between i j a b k n =
        let r : (1 ≤ i) × (i ≤ m) =
        rises-in {x = i} 1 m (subst (λ (l : List ℕ). Mem i l) (stored-column m ds after after_holds j a b).rows k) (pattern-within-rows m ds j a b) in
        (stands-is m cs mid mid-holds i j r.0 r.1 a b).1
        (subst (λ (fs : List FactorColumn). in_pattern fs i j ≡ true) (sym (order-free m cs (R ++ rest) same)) (growth m R rest i j r.0 r.1 a b n))

    pub moved-joins : Moved m f R s (λ j. t j || u j) ds after work work''
    moved-joins =
        record {
          sized = w.sized;
          heads = w.heads ∙ v.heads;
          long = w.long ∙ v.long;
          sound = w.sound;
          others = λ j a b n. stays-joins (v.others j a b (off (t j) (u j) n).0) (w.others j a b (off (t j) (u j) n).1);
          entries = λ j a b x y h k e n.
              let i : ℕ = at s.rows x in
              let d : Mem (at after.rows y) (values_at after.rows (records_of after j)) = values-mem after.rows k in
              let z : (z : ℕ) × Mem z (records_of mid j) × (at mid.rows z ≡ i) =
              mem-values mid.rows (records_of mid j)
              (stands-between i j a b (subst (λ (l : ℕ). Mem l (values_at after.rows (records_of after j))) (sym e) d) n) in
              v.entries j a b x z.0 h z.1 (sym z.2) n ∙
              w.entries j a b z.0 y z.1 k (z.2 ∙ e) (subst (λ (l : ℕ). in_pattern (factor_of m R) l j ≡ true) (sym z.2) n);
          gathers = gathers-join v.gathers w.gathers (λ j a b n. ap length (v.others j a b n).records);
        }
      where
        off : (c d : Bool) → (c || d) ≡ false → (c ≡ false) × (d ≡ false)
        off true d n = absurd (true≢false n)
        off false d n = (refl, n)
