-- Where a pass over the planned columns stands: the columns done, and those that come with their plans (`Standing`). At a column that comes, what its
-- plan says and where the pass stands after it (`Ahead`, `standing-next`); at the end all are done (`standing-end`). The measure of the passes: `left`.
-- Assumes nothing.
use mathlib.Core.Path.{◌≡◌, refl, sym, ap, ◌∙◌, subst}
use mathlib.Core.Logic.{◌⊎◌, inl, inr, ◌≢◌}
use mathlib.Core.Bool.{true, ◌&&◌}
use mathlib.Core.List.{List, [], ◌∷◌, ◌++◌, append_assoc, append-nil}
use Prim.Native.Nat.{ℕ, suc, ◌-◌, ◌≤◌, ◌<◌}
use native.Mathlib.Omega.{arith}
use lib.Dec.{leb, eqb}
use lib.ListN.{length, length-append}
use borrow.Author.Tests.{eq-eqb, ne_eqb}
use Rattle.lists.specs.Lists.{pick, Mem, first, times, rises}
use Rattle.lists.proofs.Tests.{and_both}
use Rattle.lists.proofs.Member.{mem-right, mem-left}
use Rattle.lists.proofs.Times.{times-nil, times-other}
use Rattle.lists.proofs.Rising.{rises-in, rises-length}
use Rattle.symbolic.specs.Factor.{FactorColumn}
use Rattle.workspace.specs.Regions.{cell}
use Rattle.updown.specs.Plans.{ColumnPlan, first_of, PlansFrom}
use Rattle.workspace.specs.Layout.{next_at}
use Rattle.commit.specs.Passes.{end_of}

-- ---- rising lists, cut at a member

rises-behind : (a b : ℕ) (xs : List ℕ) (j : ℕ) (ys : List ℕ) → rises a b (xs ++ (j ∷ ys)) ≡ true → rises (suc j) b ys ≡ true
unfolding rises
rises-behind a b [] j ys h = (and_both (leb a j && leb j b) (rises (suc j) b ys) h).1
rises-behind a b (x ∷ xs) j ys h = rises-behind (suc x) b xs j ys (and_both (leb a x && leb x b) (rises (suc x) b (xs ++ (j ∷ ys))) h).1

rises-ahead : (a b : ℕ) (xs : List ℕ) (j : ℕ) (ys : List ℕ) → rises a b (xs ++ (j ∷ ys)) ≡ true → times j xs ≡ 0
unfolding rises
rises-ahead a b [] j ys h = times-nil j
rises-ahead a b (x ∷ xs) j ys h =
    let t : rises (suc x) b (xs ++ (j ∷ ys)) ≡ true = (and_both (leb a x && leb x b) (rises (suc x) b (xs ++ (j ∷ ys))) h).1 in
    let u : (suc x ≤ j) × (j ≤ b) = rises-in {x = j} (suc x) b (mem-right xs first) t in
    times-other j x xs (λ e. omega arith) ∙ rises-ahead (suc x) b xs j ys t

-- ---- the measure of a pass: how far the column at hand is from the last

abbrev pub left : (m j : ℕ) → ℕ
left m j = pick (eqb j 0) 0 (suc m - j)

pub left_less : (m j after : ℕ) → j ≢ 0 → j ≤ m → (after ≡ 0) ⊎ ((j < after) × (after ≤ m)) → left m after < left m j
left_less m j after n h r =
    elim r [
      | inl e ↦ rw (eq-eqb after 0 e, ne_eqb j 0 n) (omega arith)
      | inr t ↦ rw (ne_eqb after 0 (λ e. omega arith), ne_eqb j 0 n) (omega arith)
    ]

-- ---- where a pass stands

module _ (m : ℕ) (L L' : List FactorColumn) (label : ℕ → ℕ) (work columns : List ℕ) (used : ℕ) where
  -- j is the first of the columns that come, whose plans start at start
  pub record Standing (j : ℕ) (done : List ℕ) (start : ℕ) : Type 0 where
    pub rest : List ℕ
    pub parts : done ++ rest ≡ columns
    pub here : j ≡ first_of rest
    pub plans : PlansFrom m L L' label work rest start used

  -- at column j: its plan, and the pass after it
  pub record Ahead (j : ℕ) (done : List ℕ) (start : ℕ) : Type 0 where
    pub end : ℕ
    pub low : 1 ≤ j
    pub high : j ≤ m
    pub fresh : times j done ≡ 0
    pub few : length done < m
    pub plan : ColumnPlan m L L' label work j start end (cell work (next_at m) (j - 1))
    pub within : end ≤ used
    pub ends : end_of m work (cell work (next_at m) (j - 1)) used ≡ end
    pub after : (cell work (next_at m) (j - 1) ≡ 0) ⊎ ((j < cell work (next_at m) (j - 1)) × (cell work (next_at m) (j - 1) ≤ m))
    pub next : Standing (cell work (next_at m) (j - 1)) (done ++ (j ∷ [])) end

  pub plans-within : (js : List ℕ) (start : ℕ) → PlansFrom m L L' label work js start used → start ≤ used
  unfolding PlansFrom
  plans-within [] start h = omega arith
  plans-within (j ∷ js) start h = omega (arith, h.1.0.rises, plans-within js h.0 h.1.1)

  -- the plan before ends where the next one starts
  plans-end : (js : List ℕ) (end : ℕ) → ((j : ℕ) → Mem j js → 1 ≤ j) → PlansFrom m L L' label work js end used → end_of m work (first_of js) used ≡ end
  unfolding PlansFrom
  plans-end [] end low h = sym h
  plans-end (j ∷ js) end low h = rw (ne_eqb j 0 (λ e. omega (arith, low j first))) h.1.0.starts

  first-after : (j : ℕ) (js : List ℕ) → rises (suc j) m js ≡ true → (first_of js ≡ 0) ⊎ ((j < first_of js) × (first_of js ≤ m))
  first-after j [] h = inl refl
  first-after j (x ∷ js) h = let t : (suc j ≤ x) × (x ≤ m) = rises-in {x = x} (suc j) m (first {xs = js}) h in inr (t.0, t.1)

  module _ (rising : rises 1 m columns ≡ true) where
    ahead : (j : ℕ) (done tail : List ℕ) (start end : ℕ) → done ++ (j ∷ tail) ≡ columns → ColumnPlan m L L' label work j start end (first_of tail) →
        PlansFrom m L L' label work tail end used → Ahead j done start
    ahead j done tail start end p c q =
        let r : rises 1 m (done ++ (j ∷ tail)) ≡ true = rw p rising in
        let b : (1 ≤ j) × (j ≤ m) = rises-in {x = j} 1 m (mem-right done first) r in
        let t : rises (suc j) m tail ≡ true = rises-behind 1 m done j tail r in
        let e : cell work (next_at m) (j - 1) ≡ first_of tail = c.next-is in
        record {
          end = end;
          low = b.0;
          high = b.1;
          fresh = rises-ahead 1 m done j tail r;
          few = omega (arith, rises-length 1 m columns (omega arith) rising, ap length p, length-append done (j ∷ tail));
          plan = subst (λ (x : ℕ). ColumnPlan m L L' label work j start end x) (sym e) c;
          within = plans-within tail end q;
          ends = subst (λ (x : ℕ). end_of m work x used ≡ end) (sym e)
              (plans-end tail end (λ x k. omega (arith, (rises-in {x = x} (suc j) m k t).0)) q);
          after = subst (λ (x : ℕ). (x ≡ 0) ⊎ ((j < x) × (x ≤ m))) (sym e) (first-after j tail t);
          next = record { rest = tail; parts = append_assoc done (j ∷ []) tail ∙ p; here = e; plans = q };
        }

    ahead_of : (j : ℕ) (done rest : List ℕ) (start : ℕ) → done ++ rest ≡ columns → j ≡ first_of rest → j ≢ 0 → PlansFrom m L L' label work rest start used →
        Ahead j done start
    unfolding PlansFrom
    ahead_of j done [] start p h n q = absurd (n h)
    ahead_of j done (x ∷ xs) start p h n q = subst (λ (y : ℕ). Ahead y done start) (sym h) (ahead x done xs start q.0 p q.1.0 q.1.1)

    done_all : (done rest : List ℕ) → done ++ rest ≡ columns → first_of rest ≡ 0 → done ≡ columns
    done_all done [] p h = sym (append-nil done) ∙ p
    done_all done (x ∷ xs) p h =
        let r : rises 1 m (done ++ (x ∷ xs)) ≡ true = rw p rising in
        absurd (omega (arith, (rises-in {x = x} 1 m (mem-right done (first {xs = xs})) r).0))

module _ {m : ℕ} {L L' : List FactorColumn} {label : ℕ → ℕ} {work columns : List ℕ} {used j : ℕ} where
  pub standing-start : j ≡ first_of columns → PlansFrom m L L' label work columns 0 used → Standing m L L' label work columns used j [] 0
  standing-start h p = record { rest = columns; parts = refl; here = h; plans = p }

  module _ {done : List ℕ} {start : ℕ} (rising : rises 1 m columns ≡ true) (s : Standing m L L' label work columns used j done start) where
    pub standing-next : j ≢ 0 → Ahead m L L' label work columns used j done start
    standing-next n = ahead_of m L L' label work columns used rising j done s.rest start s.parts s.here n s.plans

    -- those done are columns
    pub standing-within : (l : ℕ) → Mem l done → (1 ≤ l) × (l ≤ m)
    standing-within l h = rises-in {x = l} 1 m (subst (λ (js : List ℕ). Mem l js) s.parts (mem-left s.rest h)) rising

    pub standing-end : j ≡ 0 → done ≡ columns
    standing-end z = done_all m L L' label work columns used rising done s.rest s.parts (sym s.here ∙ z)
