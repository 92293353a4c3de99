-- The loop that commits a plan to one chain: its invariant, the move to the last record below the next entry's row (`committing-moved`), the record
-- after it, and what the code may do (`committing-can`). The multiplicities ns are cut where the loop stands: those of the rows passed, before and now,
-- and those of the rows that come, which are as before. Turns, start and end are in proofs/Turns.antt.
-- Assumes nothing.
use mathlib.Core.Path.{◌≡◌, refl, sym, ap, ◌∙◌, subst}
use mathlib.Core.Logic.{◌≢◌}
use mathlib.Core.List.{List, [], ◌∷◌, ◌++◌, append_assoc}
use Prim.Native.Nat.{ℕ, suc, ◌+◌, ◌≤◌, ◌<◌}
use native.Mathlib.Omega.{arith}
use lib.ListN.{length, length-append}
use Rattle.lists.specs.Lists.{at, times}
use Rattle.lists.proofs.Times.{times-self, times-cons, times-append, times-mid}
use Rattle.workspace.specs.Planned.{row_of, multiplicity_of, kind_of}
use Rattle.pool.specs.Chains.{chain, Linked, last_of}
use Rattle.pool.proofs.Chains.{last-split, After, Step, linked-cons, linked-after, linked-step, linked-some, linked-chain, linked-self}
use Rattle.columns.specs.Search.{last_below}
use Rattle.columns.specs.Plan.{KindIs, changed, new, gone, planned, Suits, of_kind}
use Rattle.columns.specs.Apply.{record_before, CanApply}
use Rattle.columns.specs.Commit.{HoldsFrom, CanCommitChain, Rewritten}
use Rattle.columns.proofs.Holding.{Next, absent, present, Cut, holds-append, holds-next, holds-cut}
use Rattle.columns.proofs.Surgery.{Base, rewritten-once, rewritten-low}
use Rattle.columns.proofs.Plan.{Entry, suits-next, at_cut, planned-next, kind-here}

-- ---- the multiplicities, cut where the loop stands

pub record Numbers (ns plan left old now coming : List ℕ) : Type 0 where
  pub parts : ns ≡ old ++ coming
  pub same : length now ≡ length old
  pub result : planned (now ++ coming) left ≡ planned ns plan
  pub suits : Suits ns (suc (length now)) left

-- one entry further
pub numbers-next : (ns plan : List ℕ) (e : ℕ) (es old now : List ℕ) (n : ℕ) (coming : List ℕ) → ns ≡ old ++ (n ∷ coming) → length now ≡ length old → suc (length now) ≡ row_of e →
    planned (now ++ (n ∷ coming)) (e ∷ es) ≡ planned ns plan → Suits ns (suc (row_of e)) es → Numbers ns plan es (old ++ (n ∷ [])) (now ++ (multiplicity_of e ∷ [])) coming
numbers-next ns plan e es old now n coming parts same place result suits =
    let v = multiplicity_of e in
    let long : suc (row_of e) ≡ suc (length (now ++ (v ∷ []))) = omega (arith, length-append now (v ∷ [])) in
    record {
      parts = parts ∙ sym (append_assoc old (n ∷ []) coming);
      same = omega (arith, length-append now (v ∷ []), length-append old (n ∷ []));
      result = sym (planned-next now n coming e es place) ∙ result;
      suits = subst (λ (a : ℕ). Suits ns a es) long suits;
    }

-- ---- the invariant: p is the last record done, left the entries that come

pub record Committing (rows₀ counts₀ next₀ : List ℕ) (head free₀ : ℕ) (ns plan rows counts next : List ℕ) (p free : ℕ) (left : List ℕ) : Type 0 where
  pub passed : List ℕ
  pub ahead : List ℕ
  pub rest : List ℕ
  pub old : List ℕ
  pub now : List ℕ
  pub coming : List ℕ
  pub rewritten : Rewritten rows₀ counts₀ next₀ head free₀ rows counts next free (passed ++ (p ∷ ahead)) rest
  pub numbers : Numbers ns plan left old now coming
  pub front : HoldsFrom rows counts 1 now (passed ++ (p ∷ []))
  pub back : HoldsFrom rows counts (suc (length now)) coming ahead
  pub room : of_kind 1 left ≤ length rest
  pub balance : length rest + of_kind 2 left + of_kind 1 plan ≡ length (chain next₀ free₀) + of_kind 2 plan + of_kind 1 left

-- the same at the last record below the next entry's row
pub record Moved (rows₀ counts₀ next₀ : List ℕ) (head free₀ : ℕ) (ns plan rows counts next : List ℕ) (p free e : ℕ) (es : List ℕ) : Type 0 where
  pub passed : List ℕ
  pub ahead : List ℕ
  pub rest : List ℕ
  pub old : List ℕ
  pub now : List ℕ
  pub count : ℕ
  pub coming : List ℕ
  pub rewritten : Rewritten rows₀ counts₀ next₀ head free₀ rows counts next free (passed ++ (p ∷ ahead)) rest
  pub parts : ns ≡ old ++ (count ∷ coming)
  pub same : length now ≡ length old
  pub place : suc (length now) ≡ row_of e
  pub result : planned (now ++ (count ∷ coming)) (e ∷ es) ≡ planned ns plan
  pub kind : KindIs count (multiplicity_of e) (kind_of e)
  pub suits : Suits ns (suc (row_of e)) es
  pub front : HoldsFrom rows counts 1 now (passed ++ (p ∷ []))
  pub back : HoldsFrom rows counts (row_of e) (count ∷ coming) ahead
  pub room : of_kind 1 (e ∷ es) ≤ length rest
  pub balance : length rest + of_kind 2 (e ∷ es) + of_kind 1 plan ≡ length (chain next₀ free₀) + of_kind 2 plan + of_kind 1 (e ∷ es)

module _ {rows₀ counts₀ next₀ : List ℕ} {head free₀ : ℕ} {ns plan : List ℕ} (can : CanCommitChain rows₀ counts₀ next₀ head free₀ ns plan) where
  pub base : Base rows₀ counts₀ next₀ head free₀
  base = record { rows_long = can.rows_long; counts-long = can.counts-long; beside = can.beside }

  module _ {rows counts next : List ℕ} {p free e : ℕ} {es : List ℕ} (i : Committing rows₀ counts₀ next₀ head free₀ ns plan rows counts next p free (e ∷ es)) where
    entry : Entry ns (suc (length i.now)) e es
    entry = suits-next i.numbers.suits

    after : After next p i.ahead
    after = linked-after next head i.passed p i.ahead i.rewritten.changed.linked

    cut : Cut rows counts (suc (length i.now)) i.coming p i.ahead (row_of e)
    cut =
        holds-cut (suc (length i.now)) i.coming p i.ahead (row_of e) entry.low
        (omega (arith, entry.high, i.numbers.same, ap length i.numbers.parts, length-append i.old i.coming)) i.back

    stop : last_of p cut.passed ≡ record_before rows next p e
    stop = sym (ap (λ (l : List ℕ). last_below rows p l (row_of e)) (linked-chain next (at next p) i.ahead after.tail) ∙ cut.last)

    moved_to : (high : List ℕ) → cut.high ≡ high → Moved rows₀ counts₀ next₀ head free₀ ns plan rows counts next (last_of p cut.passed) free e es
    moved_to [] q =
        absurd (omega (arith, entry.high, cut.long, i.numbers.same, ap length i.numbers.parts, length-append i.old i.coming, ap length cut.counts-are, length-append cut.low cut.high, ap length q))
    moved_to (n ∷ coming) q =
        let s : (init : List ℕ) × (p ∷ cut.passed ≡ init ++ (last_of p cut.passed ∷ [])) = last-split p cut.passed in
        let b : ℕ = last_of p cut.passed in
        let counts-are : i.coming ≡ cut.low ++ (n ∷ coming) = cut.counts-are ∙ ap (λ (l : List ℕ). cut.low ++ l) q in
        let records : i.passed ++ (p ∷ i.ahead) ≡ (i.passed ++ s.0) ++ (b ∷ cut.left) =
        ap (λ (l : List ℕ). i.passed ++ (p ∷ l)) cut.records-are ∙
        ap (λ (l : List ℕ). i.passed ++ (l ++ cut.left)) s.1 ∙ simp append_assoc in
        let front-records : (i.passed ++ (p ∷ [])) ++ cut.passed ≡ (i.passed ++ s.0) ++ (b ∷ []) =
        append_assoc i.passed (p ∷ []) cut.passed ∙ ap (λ (l : List ℕ). i.passed ++ l) s.1 ∙ simp append_assoc in
        let parts : ns ≡ (i.old ++ cut.low) ++ (n ∷ coming) =
        i.numbers.parts ∙ ap (λ (l : List ℕ). i.old ++ l) counts-are ∙ sym (append_assoc i.old cut.low (n ∷ coming)) in
        let count-is : at ns (row_of e) ≡ n =
        ap (λ (l : List ℕ). at l (row_of e)) parts ∙
        at_cut (i.old ++ cut.low) n coming (row_of e) (omega (arith, length-append i.old cut.low, cut.long, i.numbers.same)) in
        let start : suc (length i.now) ≡ 1 + length i.now = omega arith in
        record {
          passed = i.passed ++ s.0;
          ahead = cut.left;
          rest = i.rest;
          old = i.old ++ cut.low;
          now = i.now ++ cut.low;
          count = n;
          coming = coming;
          rewritten = subst (λ (l : List ℕ). Rewritten rows₀ counts₀ next₀ head free₀ rows counts next free l i.rest) records i.rewritten;
          parts = parts;
          same = omega (arith, length-append i.now cut.low, length-append i.old cut.low, i.numbers.same);
          place = omega (arith, length-append i.now cut.low, cut.long);
          result =
              ap (λ (l : List ℕ). planned l (e ∷ es)) (append_assoc i.now cut.low (n ∷ coming) ∙ ap (λ (l : List ℕ). i.now ++ l) (sym counts-are)) ∙
              i.numbers.result;
          kind = subst (λ (x : ℕ). KindIs x (multiplicity_of e) (kind_of e)) count-is entry.kind;
          suits = entry.rest;
          front = subst (λ (l : List ℕ). HoldsFrom rows counts 1 (i.now ++ cut.low) l) front-records (holds-append i.front (subst (λ (a : ℕ). HoldsFrom rows counts a cut.low cut.passed) start cut.front));
          back = subst (λ (l : List ℕ). HoldsFrom rows counts (row_of e) l cut.left) q cut.back;
          room = i.room;
          balance = i.balance;
        }

    pub committing-moved : Moved rows₀ counts₀ next₀ head free₀ ns plan rows counts next (record_before rows next p e) free e es
    committing-moved = subst (λ (x : ℕ). Moved rows₀ counts₀ next₀ head free₀ ns plan rows counts next x free e es) stop (moved_to cut.high refl)

  -- ---- the record after it

  module _ {rows counts next : List ℕ} {p free e : ℕ} {es : List ℕ} (m : Moved rows₀ counts₀ next₀ head free₀ ns plan rows counts next p free e es) where
    pub moved-after : After next p m.ahead
    moved-after = linked-after next head m.passed p m.ahead m.rewritten.changed.linked

    pub front_low : (x : ℕ) → 1 ≤ times x (m.passed ++ (p ∷ [])) → 1 ≤ x
    front_low x n = rewritten-low base m.rewritten x (omega (arith, times-mid x m.passed p m.ahead, times-append x m.passed (p ∷ [])))

    pub ahead-low : (x : ℕ) → 1 ≤ times x m.ahead → 1 ≤ x
    ahead-low x n = rewritten-low base m.rewritten x (omega (arith, times-mid x m.passed p m.ahead))

    -- there is one for a row with a multiplicity, and it stands nowhere else
    pub record Found : Type 0 where
      pub tail : List ℕ
      pub records : m.passed ++ (p ∷ m.ahead) ≡ m.passed ++ (p ∷ (at next p ∷ tail))
      pub row : at rows (at next p) ≡ row_of e
      pub back : HoldsFrom rows counts (suc (row_of e)) m.coming tail
      pub low : 1 ≤ at next p
      pub high : at next p ≤ length next
      pub inside : 1 ≤ times (at next p) (m.passed ++ (p ∷ m.ahead))
      pub not-front : times (at next p) (m.passed ++ (p ∷ [])) ≡ 0
      pub not-tail : times (at next p) tail ≡ 0
      pub tail-low : (x : ℕ) → 1 ≤ times x tail → 1 ≤ x

    pub moved-found : 0 < m.count → Found
    unfolding Linked
    moved-found n = go (holds-next (row_of e) m.count m.coming m.ahead m.back)
      where
        go : Next rows counts (row_of e) m.count m.coming m.ahead → Found
        go (absent z h) = absurd (omega arith)
        go (present r ss d x y k h) =
            let linked : Linked next (at next p) (r ∷ ss) = subst (λ (l : List ℕ). Linked next (at next p) l) d moved-after.tail in
            let q : ℕ = at next p in
            let head-is : q ≡ r = linked.0 in
            let ahead-is : m.ahead ≡ q ∷ ss = d ∙ ap (λ (z : ℕ). z ∷ ss) (sym head-is) in
            let all : (x : ℕ) → times x (m.passed ++ (p ∷ m.ahead)) ≡ times x m.passed + (times x (p ∷ []) + times x m.ahead) = λ x. times-mid x m.passed p m.ahead in
            let tail : (x : ℕ) → times x m.ahead ≡ times x (q ∷ []) + times x ss = λ x. ap (times x) ahead-is ∙ times-cons x q ss in
            let self : times q (q ∷ []) ≡ 1 + times q [] = times-self q [] in
            let one : times q (m.passed ++ (p ∷ m.ahead)) + times q m.rest ≤ 1 = rewritten-once base m.rewritten q in
            record {
              tail = ss;
              records = ap (λ (l : List ℕ). m.passed ++ (p ∷ l)) ahead-is;
              row = ap (at rows) head-is ∙ x;
              back = h;
              low = omega (arith, linked.1);
              high = omega (arith, linked.2);
              inside = omega (arith, all q, tail q);
              not-front = omega (arith, all q, tail q, times-append q m.passed (p ∷ []));
              not-tail = omega (arith, all q, tail q);
              tail-low = λ x n. ahead-low x (omega (arith, tail x));
            }

  -- ---- what the code may do with the next entry

  pub committing-can : {rows counts next : List ℕ} {p free e : ℕ} {es : List ℕ} → Committing rows₀ counts₀ next₀ head free₀ ns plan rows counts next p free (e ∷ es) →
      CanApply rows counts next p free e
  committing-can {rows} {counts} {next} {p} {free} {e} {es} i =
      let a : After next p i.ahead = after i in
      let m : Moved rows₀ counts₀ next₀ head free₀ ns plan rows counts next (record_before rows next p e) free e es = committing-moved i in
      record {
        rows_long = i.rewritten.rows_long ∙ can.rows_long ∙ sym i.rewritten.changed.same_length;
        counts-long = i.rewritten.counts-long ∙ can.counts-long ∙ sym i.rewritten.changed.same_length;
        some = a.low;
        linked = linked-self next p (p ∷ i.ahead) (linked-cons next p i.ahead a.low a.high a.tail);
        fits = (entry i).fits;
        takes = λ k.
            let s : Step next free i.rest = linked-step next free i.rest (linked-some next free i.rest (omega (arith, i.room, kind-here 1 e es k)) i.rewritten.changed.unused) i.rewritten.changed.unused in
            record { low = s.low; high = s.high };
        finds = λ k. let f : Found m = moved-found m (standing m k) in record { low = f.low; high = f.high };
      }
    where
      standing : (m : Moved rows₀ counts₀ next₀ head free₀ ns plan rows counts next (record_before rows next p e) free e es) → kind_of e ≢ 1 → 0 < m.count
      standing m k = elim m.kind [ changed z o n ↦ o | new z o n ↦ absurd (k z) | gone z o n ↦ o ]
