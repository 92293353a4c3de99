-- Lists by a value in two regions of the work table: they are those of proofs/Numbers.antt, and one number put at a front makes them those of one
-- number more (link-listed) and leaves the rest of the table (link-only). Then the loop that lists the ids by where they start. Assumes nothing.
use mathlib.Core.Path.{◌≡◌, refl, sym, ap, subst, ◌∙◌}
use mathlib.Core.Logic.{inl, inr, ◌≢◌}
use mathlib.Core.List.{List}
use Prim.Native.Nat.{ℕ, suc, ◌+◌, ◌-◌, ◌≤◌, ◌<◌}
use native.Mathlib.Omega.{arith}
use lib.ListN.{length, set, length-set}
use lib.Seq.{get_or-set_other}
use borrow.Author.Tests.{eq-eqb, ne_eqb}
use Rattle.lists.specs.Lists.{at, put}
use Rattle.lists.proofs.Tests.{eq-or-ne}
use Rattle.workspace.specs.Regions.{cell, region, Outside, IsZero}
use Rattle.workspace.proofs.Regions.{region-length, region-cell, store-region, store-leaves-region}
use Rattle.book.specs.Book.{tables_of}
use Rattle.counting.specs.Counting.{linked_in, CanLink, ListedIn, OnlyTwo, start_at, CanStart, StartsInside, CanList, Listed}
use Rattle.counting.proofs.Numbers.{Lists, lists-start, lists-skip, lists-more}

-- ---- the table as two lists

module _ (w : List ℕ) (a m b l : ℕ) (f : ℕ → ℕ) (n : ℕ) (fits : a + m ≤ length w) where
  pub listed-lists : ListedIn w a m b l f n → Lists (region w b l) (region w a m) f n
  listed-lists h v p q =
      let k : v ≤ m = omega (arith, region-length w a m fits) in
      rw (region-cell w a m (v - 1) (omega arith)) (h v p k)

  pub lists-listed : Lists (region w b l) (region w a m) f n → ListedIn w a m b l f n
  lists-listed h v p q = rw (region-cell w a m (v - 1) (omega arith)) at (h v p (omega (arith, region-length w a m fits)))

-- ---- one number more

pub two-refl : {a n b l : ℕ} {w : List ℕ} → OnlyTwo a n b l w w
two-refl = record { same_length = refl; outside = λ k s t. refl }

pub two-trans : {a n b l : ℕ} {w x y : List ℕ} → OnlyTwo a n b l w x → OnlyTwo a n b l x y → OnlyTwo a n b l w y
two-trans o p = record { same_length = p.same_length ∙ o.same_length; outside = λ k s t. p.outside k s t ∙ o.outside k s t }

-- a place of a region is not outside it
outside-not : (a n i k : ℕ) → i < n → Outside a n k → k ≢ a + i
outside-not a n i k h s e = elim s [ inl p ↦ omega arith | inr p ↦ omega arith ]

pub link-only : (w : List ℕ) (a m b l v i : ℕ) → 1 ≤ i → i ≤ l → v ≤ m → OnlyTwo a m b l w (linked_in w a b v i)
link-only w a m b l v i p q r =
    elim (eq-or-ne v 0) [
      | inl e ↦ rw (eq-eqb v 0 e) two-refl
      | inr e ↦ rw (ne_eqb v 0 e) (record {
        same_length = simp (length-set, length-set) refl;
        outside = λ k s t.
            get_or-set_other (set w (b + (i - 1)) (cell w a (v - 1))) (a + (v - 1)) k i 0 (outside-not a m (v - 1) k (omega arith) s) ∙
            get_or-set_other w (b + (i - 1)) k (cell w a (v - 1)) 0 (outside-not b l (i - 1) k (omega arith) t);
      })
    ]

pub link-listed : (w : List ℕ) (a m b l : ℕ) (f : ℕ → ℕ) (k v i : ℕ) → a + m ≤ b → b + l ≤ length w → i ≡ suc k → i ≤ l → f i ≡ v → v ≤ m → ListedIn w a m b l f k →
    ListedIn (linked_in w a b v i) a m b l f i
link-listed w a m b l f k v i apart long e room value high h =
    elim (eq-or-ne v 0) [
      | inl z ↦
          rw (eq-eqb v 0 z) (lists-listed w a m b l f i (omega arith)
          (subst (Lists (region w b l) (region w a m) f) (sym e) (lists-skip (region w b l) (region w a m) f k (ap f (sym e) ∙ value ∙ z) (listed-lists w a m b l f k (omega arith) h))))
      | inr z ↦
          let x : ℕ = cell w a (v - 1) in
          let w₁ : List ℕ = set w (b + (i - 1)) x in
          let w₂ : List ℕ = set w₁ (a + (v - 1)) i in
          let ns : List ℕ = region w b l in
          let hs : List ℕ = region w a m in
          let y : at hs v ≡ x = region-cell w a m (v - 1) (omega arith) in
          let nexts : region w₂ b l ≡ put ns i (at hs v) =
          store-leaves-region w₁ (a + (v - 1)) i b l (inl (omega arith)) ∙ store-region w b l (i - 1) x (omega arith) ∙ ap (put ns i) (sym y) in
          let heads : region w₂ a m ≡ put hs v i =
          store-region w₁ a m (v - 1) i (omega arith) ∙ ap (λ (t : List ℕ). put t v i) (store-leaves-region w (b + (i - 1)) x a m (inr (omega arith))) in
          let more : Lists (put ns (suc k) (at hs v)) (put hs v (suc k)) f (suc k) =
          lists-more ns hs f k v (omega (arith, region-length w b l long)) (ap f (sym e) ∙ value) (omega arith) (omega (arith, region-length w a m (omega arith)))
          (listed-lists w a m b l f k (omega arith) h) in
          let here : Lists (region w₂ b l) (region w₂ a m) f i =
          rw (nexts, heads) (subst (λ (t : ℕ). Lists (put ns t (at hs v)) (put hs v t) f t) (sym e) more) in
          rw (ne_eqb v 0 z) (lists-listed w₂ a m b l f i (omega (arith, length-set w₁ (a + (v - 1)) i, length-set w (b + (i - 1)) x)) here)
    ]

-- no number yet, where every head is 0
pub listed_start : (w : List ℕ) (a m b l : ℕ) (f : ℕ → ℕ) → a + m ≤ length w → IsZero w a m → ListedIn w a m b l f 0
listed_start w a m b l f long z =
    lists-listed w a m b l f 0 long (lists-start (region w b l) (region w a m) f
    (λ v p q. region-cell w a m (v - 1) (omega (arith, region-length w a m long)) ∙ z (v - 1) (omega (arith, region-length w a m long))))

-- ---- the ids by where they start at a minute

-- those before an id
pub record Linking (heads rows windows work₀ : List ℕ) (minute a m b : ℕ) (work : List ℕ) (id : ℕ) : Type 0 where
  pub low : 1 ≤ id
  pub high : id ≤ length heads + 1
  pub only : OnlyTwo a m b (length heads) work₀ work
  pub lists : (next : List ℕ) → length rows ≡ length next → ListedIn work a m b (length heads) (start_at (tables_of heads rows next) windows minute) (id - 1)

module _ {heads rows windows w₀ : List ℕ} {minute a m b : ℕ} (pre : CanList heads rows windows w₀ minute a m b) where
  pub linking-start : Linking heads rows windows w₀ minute a m b w₀ 1
  linking-start =
      record {
        low = omega arith;
        high = omega arith;
        only = two-refl;
        lists = λ next z. listed_start w₀ a m b (length heads) (start_at (tables_of heads rows next) windows minute) (omega (arith, pre.apart, pre.long)) pre.empty;
      }

  module _ {w : List ℕ} {id : ℕ} (s : Linking heads rows windows w₀ minute a m b w id) where
    pub linking-has : id ≤ length heads → CanStart heads rows windows id
    linking-has h =
        record { has = record { low = s.low; high = h; within = pre.heads-in id s.low h }; few = pre.few; windows-long = pre.windows-long }

    pub linking-can : (v : ℕ) → id ≤ length heads → StartsInside heads rows windows minute id v → CanLink w a b v id
    linking-can v h e =
        record {
          low = s.low;
          head_in = λ p. omega (arith, e pre.next pre.sized, pre.rows_in id s.low h, pre.apart, pre.long, s.only.same_length);
          next-in = omega (arith, s.low, pre.long, s.only.same_length);
        }

    pub linking-next : (v : ℕ) {x : List ℕ} → id ≤ length heads → StartsInside heads rows windows minute id v → x ≡ linked_in w a b v id →
        Linking heads rows windows w₀ minute a m b x (id + 1)
    linking-next v {x} h e y =
        let q : v ≤ m = omega (arith, e pre.next pre.sized, pre.rows_in id s.low h) in
        let before : id ≡ suc (id - 1) = omega (arith, s.low) in
        let after : id ≡ id + 1 - 1 = omega arith in
        record {
          low = omega arith;
          high = omega arith;
          only = two-trans s.only (rw y (link-only w a m b (length heads) v id s.low h q));
          lists = λ next z.
              let f : ℕ → ℕ = start_at (tables_of heads rows next) windows minute in
              subst (ListedIn x a m b (length heads) f) after
              (rw y (link-listed w a m b (length heads) f (id - 1) v id pre.apart (omega (arith, pre.long, s.only.same_length)) before h (sym (e next z)) q (s.lists next z)));
        }

    pub linking-end : length heads < id → Listed heads rows windows w₀ w minute a m b
    linking-end h =
        let e : id - 1 ≡ length heads = omega (arith, s.high) in
        record { only = s.only; lists = λ next z. subst (ListedIn w a m b (length heads) (start_at (tables_of heads rows next) windows minute)) e (s.lists next z) }
