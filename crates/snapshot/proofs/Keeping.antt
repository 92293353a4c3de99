-- The loops that keep: how far a list is copied into a region, one value more; all parents, and all records in two regions at once. Assumes nothing.
use mathlib.Core.Path.{◌≡◌, refl, sym, ap, ◌∙◌}
use mathlib.Core.Logic.{inl, inr}
use mathlib.Core.List.{List, ◌∷◌, [], ◌++◌}
use Prim.Native.Nat.{ℕ, ◌+◌, ◌*◌, ◌≤◌, ◌<◌}
use native.Mathlib.Omega.{arith}
use native.Mathlib.Numerals.{add-one}
use lib.ListN.{length, get_or, take, set, length-set}
use lib.Seq.{take-suc, take_all, get_or-take}
use Rattle.workspace.specs.Regions.{cell, region, OnlyIn}
use Rattle.workspace.proofs.Regions.{store-push, store-only, store-leaves-region, region-cell, only-refl, only_store, only-trans, only_wider}
use Rattle.snapshot.specs.Snapshot.{paired, all_paired, CanSaveRecords, RecordsSaved, CanSaveParents, ParentsSaved}
use Rattle.snapshot.proofs.Kept.{all-paired-length, all-paired-at}

-- ---- a list copied into the region from a on

-- one value more
copy-next : (new work : List ℕ) (a k v : ℕ) → region work a k ≡ take k new → a + k < length work → k < length new → v ≡ get_or new k 0 →
    region (set work (a + k) v) a (k + 1) ≡ take (k + 1) new
copy-next new work a k v front h l e =
    store-push work a k v h ∙ ap (λ (xs : List ℕ). xs ++ (v ∷ [])) front ∙ ap (λ (x : ℕ). take k new ++ (x ∷ [])) e ∙
    sym (ap (λ (i : ℕ). take i new) (add-one k) ∙ take-suc new k 0 l)

-- ---- all parents

-- the first k parents are kept
pub record ParentsSaving (parents before : List ℕ) (a : ℕ) (work : List ℕ) (k : ℕ) : Type 0 where
  pub can : CanSaveParents parents before a
  pub within : k ≤ length parents
  pub front : region work a k ≡ take k parents
  pub only : OnlyIn a (length parents) before work

pub parents-saving-start : {parents work : List ℕ} {a : ℕ} → CanSaveParents parents work a → ParentsSaving parents work a work 0
parents-saving-start c = record { can = c; within = omega arith; front = refl; only = only-refl }

module _ {parents before : List ℕ} {a : ℕ} {work : List ℕ} {k : ℕ} (s : ParentsSaving parents before a work k) where
  pub parents-saving-next : k < length parents → ParentsSaving parents before a (set work (a + k) (get_or parents k 0)) (k + 1)
  parents-saving-next h =
      record {
        can = s.can;
        within = omega arith;
        front = copy-next parents work a k (get_or parents k 0) s.front (omega (arith, s.only.same_length, s.can.inside)) h refl;
        only = only_store s.only k (get_or parents k 0) h;
      }

  parents-in : (i : ℕ) → i < k → cell work a i ≡ get_or parents i 0
  parents-in i h = sym (region-cell work a k i h) ∙ ap (λ (xs : List ℕ). get_or xs i 0) s.front ∙ get_or-take k parents i 0 h

  pub parents-saving-end : length parents ≤ k → ParentsSaved parents before work a
  parents-saving-end h =
      record {
        kept =
            record {
              inside = omega (arith, s.only.same_length, s.can.inside);
              parents-are = λ i l. omega (arith, parents-in i (omega arith), s.can.small i);
            };
        low = λ i l. omega (arith, parents-in i (omega arith), s.can.small i);
        only = s.only;
      }

-- ---- all records

-- the first k records are kept
pub record RecordsSaving (rows counts next before : List ℕ) (a : ℕ) (work : List ℕ) (k : ℕ) : Type 0 where
  pub can : CanSaveRecords rows counts next before a
  pub within : k ≤ length next
  pub pairs : region work a k ≡ take k (all_paired rows counts)
  pub nexts : region work (a + length next) k ≡ take k next
  pub only : OnlyIn a (2 * length next) before work

pub records-saving-start : {rows counts next work : List ℕ} {a : ℕ} → CanSaveRecords rows counts next work a → RecordsSaving rows counts next work a work 0
records-saving-start c = record { can = c; within = omega arith; pairs = refl; nexts = refl; only = only-refl }

module _ {rows counts next before : List ℕ} {a : ℕ} {work : List ℕ} {k : ℕ} (s : RecordsSaving rows counts next before a work k) where
  pub records-saving-next : k < length next →
      RecordsSaving rows counts next before a (set (set work (a + k) (paired (get_or rows k 0) (get_or counts k 0))) (a + length next + k) (get_or next k 0)) (k + 1)
  records-saving-next h =
      let t = s.can.can in
      let f : ℕ = length next in
      let x : ℕ = paired (get_or rows k 0) (get_or counts k 0) in
      let y : ℕ = get_or next k 0 in
      let work₁ : List ℕ = set work (a + k) x in
      let l : length work ≡ length before = s.only.same_length in
      let within : a + 2 * f ≤ length before = s.can.inside in
      let same : length rows ≡ length counts = t.rows_long ∙ sym t.counts-long in
      record {
        can = s.can;
        within = omega arith;
        pairs =
            store-leaves-region work₁ (a + f + k) y a (k + 1) (inr (omega arith)) ∙
            copy-next (all_paired rows counts) work a k x s.pairs (omega arith) (omega (arith, all-paired-length rows counts same, t.rows_long))
            (sym (all-paired-at rows counts k (omega (arith, t.rows_long)) (omega (arith, t.counts-long))));
        nexts =
            copy-next next work₁ (a + f) k y (store-leaves-region work (a + k) x (a + f) k (inl (omega arith)) ∙ s.nexts)
            (omega (arith, length-set work (a + k) x)) h refl;
        only = only-trans (only_store s.only k x (omega arith)) (only_wider a (2 * f) (omega arith) (omega arith) (store-only {a = a + f} {n = f} k y h));
      }

  pub records-saving-end : length next ≤ k → RecordsSaved rows counts next before work a
  records-saving-end h =
      let t = s.can.can in
      let e : k ≡ length next = omega (arith, s.within) in
      let same : length rows ≡ length counts = t.rows_long ∙ sym t.counts-long in
      record {
        kept =
            record {
              inside = omega (arith, s.only.same_length, s.can.inside);
              pairs =
                  ap (λ (n : ℕ). region work a n) (sym e) ∙ s.pairs ∙
                  take_all k (all_paired rows counts) (omega (arith, all-paired-length rows counts same, t.rows_long));
              nexts = ap (λ (n : ℕ). region work (a + length next) n) (sym e) ∙ s.nexts ∙ take_all k next h;
            };
        only = s.only;
      }
