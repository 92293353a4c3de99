-- One chain and the free chain changed, in this order: the leaf operations give Changed (changed-cut, changed-join, changed-insert,
-- changed-unlink), each from a chain and a free chain that share no record (Beside); operations on one chain compose (changed-start,
-- changed-trans, changed-beside); and THE law for all surgery, pool-changed: a pool with one chain and the free chain changed is a pool, and
-- every other chain stays. So a loop over one chain keeps `Changed` from its first table and adds an operation by changed-trans.
-- Assumes nothing.
use mathlib.Core.Path.{◌≡◌, refl, sym, ap, subst, ◌∙◌}
use mathlib.Core.Logic.{◌≢◌}
use mathlib.Core.List.{List, [], ◌∷◌, ◌++◌}
use Prim.Native.Nat.{ℕ, suc, ◌+◌, ◌-◌, ◌≤◌}
use native.Mathlib.Omega.{arith}
use lib.ListN.{length, take, drop, length-append}
use lib.Seq.{split_at, set_split}
use Rattle.lists.specs.Lists.{at, put, times}
use Rattle.lists.proofs.Times.{times-nil, times-self, times-cons, times-append, times-mid, apart, differs}
use Rattle.lists.proofs.Place.{put-length, put_same, at-put-same, at-put-other}
use Rattle.pool.specs.Chains.{chain, Linked}
use Rattle.pool.specs.Whole.{AllLinked, Pool}
use Rattle.pool.specs.Changes.{insert_after, unlink_after, Beside, Changed}
use Rattle.pool.proofs.Chains.{linked-nil, linked-cons, After, linked-after, linked-frame, linked-tail, linked-once, linked-chain, linked-self, one-stays}
use Rattle.pool.proofs.Whole.{chains-mid, chains-mid-length, all_cons, all-parts, all_split, all_join, Stays, all_stay, pool-linked, pool-once, pool-other}

-- ---- a record that stands in the middle stands nowhere else

pub record Alone (ds : List ℕ) (p : ℕ) (bs fs : List ℕ) : Type 0 where
  pub front : times p ds ≡ 0
  pub back : times p bs ≡ 0
  pub free : times p fs ≡ 0

pub alone : (ds : List ℕ) (p : ℕ) (bs fs : List ℕ) → times p (ds ++ (p ∷ bs)) + times p fs ≤ 1 → Alone ds p bs fs
alone ds p bs fs h =
    let m : times p (ds ++ (p ∷ bs)) ≡ times p ds + (times p (p ∷ []) + times p bs) = times-mid p ds p bs in
    let s : times p (p ∷ []) ≡ 1 + times p [] = times-self p [] in
    record { front = omega arith; back = omega arith; free = omega arith }

-- a record that is not there is another
elsewhere : (x p : ℕ) (ds bs : List ℕ) → times x (ds ++ (p ∷ bs)) ≡ 0 → x ≢ p
elsewhere x p ds bs h = apart x p [] (omega (arith, times-mid x ds p bs))

-- ---- the next of one record put

put-beside : (ns : List ℕ) (h : ℕ) (rs : List ℕ) (p v : ℕ) → 1 ≤ p → times p rs ≡ 0 → Linked ns h rs → Linked (put ns p v) h rs
put-beside ns h rs p v low n l =
    linked-frame ns (put ns p v) h rs (put-length ns p v) (λ x a b. at-put-other ns p x v low a (differs x p rs b n)) l

put-tail : (ns : List ℕ) (h : ℕ) (ds : List ℕ) (p : ℕ) (bs : List ℕ) (v : ℕ) (cs : List ℕ) → times p ds ≡ 0 → Linked (put ns p v) v cs → Linked ns h (ds ++ (p ∷ bs)) → Linked (put ns p v) h (ds ++ (p ∷ cs))
put-tail ns h ds p bs v cs n t l =
    let w : After ns p bs = linked-after ns h ds p bs l in
    linked-tail ns (put ns p v) h ds p bs cs (put-length ns p v) (λ x a b. at-put-other ns p x v w.low a (differs x p ds b n)) (rw (at-put-same ns p v w.low w.high) t) l

-- ---- cut: the first records of the free chain, up to p, become a chain

pub changed-cut : (ns : List ℕ) (f : ℕ) (ds : List ℕ) (p : ℕ) (fs : List ℕ) → Linked ns f (ds ++ (p ∷ fs)) → Changed ns (put ns p 0) 0 f f (at ns p) (ds ++ (p ∷ [])) fs
changed-cut ns f ds p fs l =
    let w : After ns p fs = linked-after ns f ds p fs l in
    let a : Alone ds p fs [] = alone ds p fs [] (omega (arith, linked-once ns f (ds ++ (p ∷ fs)) l p, times-nil p)) in
    let none : chain ns 0 ≡ [] = linked-chain ns 0 [] (linked-nil ns) in
    let whole : chain ns f ≡ ds ++ (p ∷ fs) = linked-chain ns f (ds ++ (p ∷ fs)) l in
    record {
      same_length = put-length ns p 0;
      linked = put-tail ns f ds p fs 0 [] a.front (linked-nil (put ns p 0)) l;
      unused = put-beside ns (at ns p) fs p 0 w.low a.back w.tail;
      once = λ x. omega (arith, ap (times x) none, ap (times x) whole, times-nil x, times-mid x ds p fs, times-append x ds (p ∷ []));
      size = omega (arith, ap length none, ap length whole, length-append ds (p ∷ fs), length-append ds (p ∷ []));
      frame = λ x low n. at-put-other ns p x 0 w.low low (elsewhere x p ds fs (omega (arith, ap (times x) whole)));
    }

-- ---- join: a whole chain, with p as its last record, given back before the free chain

pub changed-join : {ns : List ℕ} {h f : ℕ} (ds : List ℕ) (p : ℕ) (fs : List ℕ) → Beside ns h f (ds ++ (p ∷ [])) fs → Changed ns (put ns p f) h f 0 h [] (ds ++ (p ∷ fs))
changed-join {ns} {h} {f} ds p fs b =
    let w : After ns p [] = linked-after ns h ds p [] b.linked in
    let a : Alone ds p [] fs = alone ds p [] fs (b.once p) in
    let mine : chain ns h ≡ ds ++ (p ∷ []) = linked-chain ns h (ds ++ (p ∷ [])) b.linked in
    let free : chain ns f ≡ fs = linked-chain ns f fs b.unused in
    record {
      same_length = put-length ns p f;
      linked = linked-nil (put ns p f);
      unused = put-tail ns h ds p [] f fs a.front (put-beside ns f fs p f w.low a.free b.unused) b.linked;
      once = λ x. omega (arith, ap (times x) mine, ap (times x) free, times-nil x, times-mid x ds p fs, times-append x ds (p ∷ []));
      size = omega (arith, ap length mine, ap length free, length-append ds (p ∷ fs), length-append ds (p ∷ []));
      frame = λ x low n. at-put-other ns p x f w.low low (elsewhere x p ds [] (omega (arith, ap (times x) mine)));
    }

-- ---- insert: the first free record q taken in after p

module _ (ns : List ℕ) (p q : ℕ) (lowp : 1 ≤ p) (lowq : 1 ≤ q) where
  pub insert-length : length (insert_after ns p q) ≡ length ns
  insert-length = put-length (put ns q (at ns p)) p q ∙ put-length ns q (at ns p)

  pub insert-other : (x : ℕ) → 1 ≤ x → x ≢ p → x ≢ q → at (insert_after ns p q) x ≡ at ns x
  insert-other x l np nq = at-put-other (put ns q (at ns p)) p x q lowp l np ∙ at-put-other ns q x (at ns p) lowq l nq

  insert-beside : (h : ℕ) (rs : List ℕ) → times p rs ≡ 0 → times q rs ≡ 0 → Linked ns h rs → Linked (insert_after ns p q) h rs
  insert-beside h rs np nq l =
      linked-frame ns (insert_after ns p q) h rs insert-length (λ x a b. insert-other x a (differs x p rs b np) (differs x q rs b nq)) l

pub changed-insert : {ns : List ℕ} {h f : ℕ} (ds : List ℕ) (p : ℕ) (bs : List ℕ) (q : ℕ) (fs : List ℕ) → Beside ns h f (ds ++ (p ∷ bs)) (q ∷ fs) → Changed ns (insert_after ns p q) h f h (at ns q) (ds ++ (p ∷ (q ∷ bs))) fs
changed-insert {ns} {h} {f} ds p bs q fs b =
    let w : After ns p bs = linked-after ns h ds p bs b.linked in
    let v : After ns q fs = linked-after ns f [] q fs b.unused in
    let a : Alone ds p bs (q ∷ fs) = alone ds p bs (q ∷ fs) (b.once p) in
    let c : Alone [] q fs (ds ++ (p ∷ bs)) = alone [] q fs (ds ++ (p ∷ bs)) (omega (arith, b.once q)) in
    let mid : times q (ds ++ (p ∷ bs)) ≡ times q ds + (times q (p ∷ []) + times q bs) = times-mid q ds p bs in
    let qp : q ≢ p = elsewhere q p ds bs c.free in
    let mine : chain ns h ≡ ds ++ (p ∷ bs) = linked-chain ns h (ds ++ (p ∷ bs)) b.linked in
    let free : chain ns f ≡ q ∷ fs = linked-chain ns f (q ∷ fs) b.unused in
    let long : length (insert_after ns p q) ≡ length ns = insert-length ns p q w.low v.low in
    let at_p : at (insert_after ns p q) p ≡ q = at-put-same (put ns q (at ns p)) p q w.low (omega (arith, w.high, put-length ns q (at ns p))) in
    let at-q : at (insert_after ns p q) q ≡ at ns p = at-put-other (put ns q (at ns p)) p q q w.low v.low qp ∙ at-put-same ns q (at ns p) v.low v.high in
    let tail : Linked (insert_after ns p q) (at ns p) bs = insert-beside ns p q w.low v.low (at ns p) bs a.back (omega (arith, c.free)) w.tail in
    let with-q : Linked (insert_after ns p q) q (q ∷ bs) = linked-cons (insert_after ns p q) q bs v.low (omega (arith, v.high)) (rw at-q tail) in
    record {
      same_length = long;
      linked = linked-tail ns (insert_after ns p q) h ds p bs (q ∷ bs) long
          (λ x low n. insert-other ns p q w.low v.low x low (differs x p ds n a.front) (differs x q ds n (omega (arith, c.free)))) (rw at_p with-q) b.linked;
      unused = insert-beside ns p q w.low v.low (at ns q) fs (omega (arith, a.free, times-cons p q fs)) c.back v.tail;
      once = λ x. omega (arith, ap (times x) mine, ap (times x) free, times-mid x ds p bs, times-mid x ds p (q ∷ bs), times-cons x q bs, times-cons x q fs);
      size = omega (arith, ap length mine, ap length free, length-append ds (p ∷ bs), length-append ds (p ∷ (q ∷ bs)));
      frame = λ x low n. insert-other ns p q w.low v.low x low (elsewhere x p ds bs (omega (arith, ap (times x) mine))) (elsewhere x q [] fs (omega (arith, ap (times x) free)));
    }

-- ---- unlink: the record q after p given back, as the first free record

module _ (ns : List ℕ) (p q f : ℕ) (lowp : 1 ≤ p) (lowq : 1 ≤ q) where
  pub unlink-length : length (unlink_after ns p q f) ≡ length ns
  unlink-length = put-length (put ns p (at ns q)) q f ∙ put-length ns p (at ns q)

  pub unlink-other : (x : ℕ) → 1 ≤ x → x ≢ p → x ≢ q → at (unlink_after ns p q f) x ≡ at ns x
  unlink-other x l np nq = at-put-other (put ns p (at ns q)) q x f lowq l nq ∙ at-put-other ns p x (at ns q) lowp l np

  unlink-beside : (h : ℕ) (rs : List ℕ) → times p rs ≡ 0 → times q rs ≡ 0 → Linked ns h rs → Linked (unlink_after ns p q f) h rs
  unlink-beside h rs np nq l =
      linked-frame ns (unlink_after ns p q f) h rs unlink-length (λ x a b. unlink-other x a (differs x p rs b np) (differs x q rs b nq)) l

pub changed-unlink : {ns : List ℕ} {h f : ℕ} (ds : List ℕ) (p q : ℕ) (bs fs : List ℕ) → Beside ns h f (ds ++ (p ∷ (q ∷ bs))) fs → Changed ns (unlink_after ns p q f) h f h q (ds ++ (p ∷ bs)) (q ∷ fs)
changed-unlink {ns} {h} {f} ds p q bs fs b =
    let w : After ns p (q ∷ bs) = linked-after ns h ds p (q ∷ bs) b.linked in
    let v : After ns q bs = linked-after ns (at ns p) [] q bs w.tail in
    let a : Alone ds p (q ∷ bs) fs = alone ds p (q ∷ bs) fs (b.once p) in
    let mid : times q (ds ++ (p ∷ (q ∷ bs))) ≡ times q ds + (times q (p ∷ []) + times q (q ∷ bs)) = times-mid q ds p (q ∷ bs) in
    let self : times q (q ∷ bs) ≡ 1 + times q bs = times-self q bs in
    let one : times q (ds ++ (p ∷ (q ∷ bs))) + times q fs ≤ 1 = b.once q in
    let qd : times q ds ≡ 0 = omega arith in
    let qb : times q bs ≡ 0 = omega arith in
    let qf : times q fs ≡ 0 = omega arith in
    let pq : p ≢ q = apart p q bs a.back in
    let mine : chain ns h ≡ ds ++ (p ∷ (q ∷ bs)) = linked-chain ns h (ds ++ (p ∷ (q ∷ bs))) b.linked in
    let free : chain ns f ≡ fs = linked-chain ns f fs b.unused in
    let long : length (unlink_after ns p q f) ≡ length ns = unlink-length ns p q f w.low v.low in
    let at_p : at (unlink_after ns p q f) p ≡ at ns q = at-put-other (put ns p (at ns q)) q p f v.low w.low pq ∙ at-put-same ns p (at ns q) w.low w.high in
    let at-q : at (unlink_after ns p q f) q ≡ f = at-put-same (put ns p (at ns q)) q f v.low (omega (arith, v.high, put-length ns p (at ns q))) in
    let tail : Linked (unlink_after ns p q f) (at ns q) bs = unlink-beside ns p q f w.low v.low (at ns q) bs (omega (arith, a.back, times-cons p q bs)) qb v.tail in
    let rest : Linked (unlink_after ns p q f) f fs = unlink-beside ns p q f w.low v.low f fs a.free qf b.unused in
    record {
      same_length = long;
      linked = linked-tail ns (unlink_after ns p q f) h ds p (q ∷ bs) bs long
          (λ x low n. unlink-other ns p q f w.low v.low x low (differs x p ds n a.front) (differs x q ds n qd)) (rw at_p tail) b.linked;
      unused = linked-cons (unlink_after ns p q f) q fs v.low (omega (arith, v.high)) (rw at-q rest);
      once = λ x. omega (arith, ap (times x) mine, ap (times x) free, times-mid x ds p bs, times-mid x ds p (q ∷ bs), times-cons x q bs, times-cons x q fs);
      size = omega (arith, ap length mine, ap length free, length-append ds (p ∷ bs), length-append ds (p ∷ (q ∷ bs)));
      frame = λ x low n.
          let m : times x (ds ++ (p ∷ (q ∷ bs))) ≡ 0 = omega (arith, ap (times x) mine) in
          unlink-other ns p q f w.low v.low x low (elsewhere x p ds (q ∷ bs) m) (apart x q bs (omega (arith, times-mid x ds p (q ∷ bs))));
    }

-- ---- operations on one chain, one after another

pub changed-start : {ns : List ℕ} {h f : ℕ} {rs fs : List ℕ} → Beside ns h f rs fs → Changed ns ns h f h f rs fs
changed-start {ns} {h} {f} {rs} {fs} b =
    let mine : chain ns h ≡ rs = linked-chain ns h rs b.linked in
    let free : chain ns f ≡ fs = linked-chain ns f fs b.unused in
    record {
      same_length = refl;
      linked = b.linked;
      unused = b.unused;
      once = λ x. omega (arith, ap (times x) mine, ap (times x) free);
      size = omega (arith, ap length mine, ap length free);
      frame = λ x low n. refl;
    }

module _ {ns₀ ns : List ℕ} {h₀ f₀ h f : ℕ} {rs fs : List ℕ} (c : Changed ns₀ ns h₀ f₀ h f rs fs) where
  pub changed-chain : chain ns h ≡ rs
  changed-chain = linked-chain ns h rs c.linked

  pub changed-free : chain ns f ≡ fs
  changed-free = linked-chain ns f fs c.unused

  pub changed-trans : {ns₁ : List ℕ} {h₁ f₁ : ℕ} {rs₁ fs₁ : List ℕ} → Changed ns ns₁ h f h₁ f₁ rs₁ fs₁ → Changed ns₀ ns₁ h₀ f₀ h₁ f₁ rs₁ fs₁
  changed-trans d =
      record {
        same_length = d.same_length ∙ c.same_length;
        linked = d.linked;
        unused = d.unused;
        once = λ x. omega (arith, d.once x, c.once x, ap (times x) changed-chain, ap (times x) changed-free);
        size = omega (arith, d.size, c.size, ap length changed-chain, ap length changed-free);
        frame = λ x low n. d.frame x low (omega (arith, c.once x, ap (times x) changed-chain, ap (times x) changed-free)) ∙ c.frame x low n;
      }

  -- a chain and a free chain that shared no record share none after the change
  pub changed-beside : ((x : ℕ) → times x (chain ns₀ h₀) + times x (chain ns₀ f₀) ≤ 1) → Beside ns h f rs fs
  changed-beside once = record { linked = c.linked; unused = c.unused; once = λ x. omega (arith, once x, c.once x) }

-- ---- a pool changed at one chain and the free chain

-- from a pool to one of its chains, by the head's number
pub pool-beside : {ns hs : List ℕ} {f : ℕ} → Pool ns hs f → (k : ℕ) → 1 ≤ k → k ≤ length hs → Beside ns (at hs k) f (chain ns (at hs k)) (chain ns f)
pool-beside p k low high = record { linked = pool-linked p k low high; unused = p.unused; once = pool-once p k low high }

pool-mid : {ns₀ ns : List ℕ} {h₀ f₀ h f : ℕ} {rs fs : List ℕ} (xs ys : List ℕ) → Pool ns₀ (xs ++ (h₀ ∷ ys)) f₀ → Changed ns₀ ns h₀ f₀ h f rs fs → Pool ns (xs ++ (h ∷ ys)) f
pool-mid {ns₀} {ns} {h₀} {f₀} {h} {f} {rs} {fs} xs ys p c =
    let halves : AllLinked ns₀ xs × AllLinked ns₀ (h₀ ∷ ys) = all_split ns₀ xs (h₀ ∷ ys) p.linked in
    let sx : Stays ns₀ ns xs = all_stay ns₀ ns xs c.same_length (λ x l n. c.frame x l (omega (arith, p.once x, chains-mid ns₀ xs h₀ ys x))) halves.0 in
    let sy : Stays ns₀ ns ys = all_stay ns₀ ns ys c.same_length (λ x l n. c.frame x l (omega (arith, p.once x, chains-mid ns₀ xs h₀ ys x))) (all-parts ns₀ h₀ ys halves.1).1 in
    record {
      linked = all_join ns xs (h ∷ ys) sx.linked (all_cons ns h ys (linked-self ns h rs c.linked) sy.linked);
      unused = linked-self ns f fs c.unused;
      once = λ x.
          omega (arith, p.once x, c.once x, chains-mid ns₀ xs h₀ ys x, chains-mid ns xs h ys x, ap (times x) sx.same, ap (times x) sy.same, ap (times x) (changed-chain c), ap (times x) (changed-free c));
      size = omega (arith, p.size, c.size, c.same_length, chains-mid-length ns₀ xs h₀ ys, chains-mid-length ns xs h ys, ap length sx.same, ap length sy.same, ap length (changed-chain c), ap length (changed-free c));
    }

-- the pool after a change of chain k and the free chain; `other-apart` is for tables beside `next`: what changed only at records of chain k and
-- of the free chain stays at the records of every other chain
pub record PoolAfter (ns₀ hs₀ : List ℕ) (f₀ k : ℕ) (ns : List ℕ) (h f : ℕ) (rs fs : List ℕ) : Type 0 where
  pub pool : Pool ns (put hs₀ k h) f
  pub chain-is : chain ns h ≡ rs
  pub free-is : chain ns f ≡ fs
  pub head-is : at (put hs₀ k h) k ≡ h
  pub other-head : (l : ℕ) → 1 ≤ l → l ≢ k → at (put hs₀ k h) l ≡ at hs₀ l
  pub other-same : (l : ℕ) → 1 ≤ l → l ≤ length hs₀ → l ≢ k → chain ns (at hs₀ l) ≡ chain ns₀ (at hs₀ l)
  pub other-apart : (l : ℕ) → 1 ≤ l → l ≤ length hs₀ → l ≢ k → (x : ℕ) → 1 ≤ times x (chain ns₀ (at hs₀ l)) → times x (chain ns₀ (at hs₀ k)) + times x (chain ns₀ f₀) ≡ 0

pub pool-changed : {ns₀ hs₀ : List ℕ} {f₀ : ℕ} {ns : List ℕ} {h f : ℕ} {rs fs : List ℕ} → Pool ns₀ hs₀ f₀ → (k : ℕ) → 1 ≤ k → k ≤ length hs₀ → Changed ns₀ ns (at hs₀ k) f₀ h f rs fs → PoolAfter ns₀ hs₀ f₀ k ns h f rs fs
pool-changed {ns₀} {hs₀} {f₀} {ns} {h} {f} {rs} {fs} p k low high c =
    let j : ℕ = k - 1 in
    let cut : hs₀ ≡ take j hs₀ ++ (at hs₀ k ∷ drop (suc j) hs₀) = split_at hs₀ j 0 (omega arith) in
    let new : put hs₀ k h ≡ take j hs₀ ++ (h ∷ drop (suc j) hs₀) = set_split hs₀ j h (omega arith) in
    let q : Pool ns₀ (take j hs₀ ++ (at hs₀ k ∷ drop (suc j) hs₀)) f₀ = subst (λ (l : List ℕ). Pool ns₀ l f₀) cut p in
    record {
      pool = subst (λ (l : List ℕ). Pool ns l f) (sym new) (pool-mid (take j hs₀) (drop (suc j) hs₀) q c);
      chain-is = changed-chain c;
      free-is = changed-free c;
      head-is = at-put-same hs₀ k h low high;
      other-head = λ l a d. at-put-other hs₀ k l h low a d;
      other-same = λ l a b d. (one-stays ns₀ ns (at hs₀ l) c.same_length (λ x e n. c.frame x e (pool-other p k low high l a b d x n)) (pool-linked p l a b)).0;
      other-apart = pool-other p k low high;
    }

-- the same where the head stays
pub pool-kept : {ns₀ hs : List ℕ} {f₀ : ℕ} {ns : List ℕ} {f : ℕ} {rs fs : List ℕ} → Pool ns₀ hs f₀ → (k : ℕ) → 1 ≤ k → k ≤ length hs → Changed ns₀ ns (at hs k) f₀ (at hs k) f rs fs → Pool ns hs f
pool-kept {ns₀} {hs} {f₀} {ns} {f} p k low high c =
    subst (λ (l : List ℕ). Pool ns l f) (put_same hs k) (pool-changed p k low high c).pool
