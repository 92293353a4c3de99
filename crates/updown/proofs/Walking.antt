-- The walk from row to row: a row without a mark is passed (`walking_skip`), at a marked one its turn begins (`walking-begin`), after which
-- the batch columns that start there may be counted (`begun-counted`, `begun-turn`). Assumes nothing.
use mathlib.Core.Path.{◌≡◌, refl, sym, ap, ◌∙◌, subst}
use mathlib.Core.Logic.{◌⊎◌, inl, inr, ◌≢◌}
use mathlib.Core.Bool.{Bool, true, false}
use mathlib.Core.List.{List}
use Prim.Native.Nat.{ℕ, suc, ◌+◌, ◌-◌, ◌*◌, ◌/◌, ◌≤◌, ◌<◌}
use native.Mathlib.Omega.{arith}
use lib.Dec.{eqb}
use lib.ListN.{length, get_or, set, length-set}
use lib.Seq.{get_or-set_same, get_or-set_other}
use borrow.Author.Tests.{eq-eqb, ne_eqb}
use Rattle.lists.specs.Lists.{pick, Mem}
use Rattle.lists.proofs.Tests.{eq-or-ne, lt-or-le}
use Rattle.symbolic.specs.Columns.{Column}
use Rattle.symbolic.specs.Batch.{is_touched}
use Rattle.workspace.specs.Regions.{cell, OnlyIn}
use Rattle.workspace.proofs.Regions.{zero-at}
use Rattle.pool.specs.Chains.{last_of}
use Rattle.updown.specs.Plans.{InPlan}
use Rattle.updown.specs.Marks.{mark_at, begun}
use Rattle.updown.specs.Turns.{larger, before, after, label_at, done, standing, PlansTo}
use Rattle.updown.specs.SoFar.{nobody, SoFar}
use Rattle.updown.specs.Walks.{Turn}
use Rattle.updown.specs.States.{start_of, Busy, differs, plans, marks, queues, flagged, Walking}
use Rattle.updown.proofs.Worked.{Begun}
use Rattle.updown.proofs.Queueing.{queue-none, links-length, queues-ext, queues-fewer, queues-frame}
use Rattle.updown.proofs.Plans.{touched-rising, plans-frame, plans-link, last-in}
use Rattle.updown.proofs.Standing.{stands-untouched, never_here}
use Rattle.updown.proofs.Turning.{plan-places}
use Rattle.updown.proofs.Marked.{mark-touched, touched-mark, marks-skip, marks-frame}
use Rattle.updown.proofs.Stepping.{done-skip, done-in, in-plan-wider, own_in}

module _ {m flags : ℕ} {R W : List Column} {adding : Bool} {work₀ w : List ℕ} where
  -- ---- a row without a mark

  pub walking_skip : {j used : ℕ} → Walking m flags R W adding work₀ w j used → j ≤ m → mark_at m w j ≡ 0 → Walking m flags R W adding work₀ w (suc j) used
  walking_skip {j} {used} h b z =
      let t : is_touched (larger m R W) W j ≡ false = touched-mark m R W h.marks h.low b z in
      let e : done m R W (suc j) ≡ done m R W j = done-skip m R W j h.low t in
      let l : 8 * m ≤ length w = omega (arith, h.room.low, h.room.long) in
      let same : (c : ℕ) → 1 ≤ c → c ≤ m → standing m R W (suc j) c ≡ standing m R W j c = stands-untouched m R W j h.low b t in
      let none : cell w (5 * m) (j - 1) ≡ 0 =
      queue-none (λ c x y. let u : c ≤ m = omega (arith, links-length m w l) in
      ne_eqb (standing m R W j c) j (λ q. (never_here m R W j h.low b c x u).0 (same c x u ∙ q)))
      (h.queues.queue j (omega arith) (omega arith) (omega (arith, h.low))) in
      record {
        low = omega arith;
        high = omega arith;
        room = h.room;
        plan-room = h.plan-room;
        same_length = h.same_length;
        zero = h.zero;
        flags-zero = h.flags-zero;
        plans = subst (λ (x : List ℕ). PlansTo m (before adding m R W) (after adding m R W) (label_at m R W) w x 0 0 used) (sym e) h.plans;
        marks = marks-skip m R W h.marks h.low b t;
        flagged = λ q x y n. h.flagged q (omega arith) y n;
        queues = queues-ext l (queues-fewer h.queues (omega arith) (λ x _ n. n)) same;
        tally = h.tally;
        rest = λ k n. elim (eq-or-ne k (3 * m + (j - 1))) [
          | inl q ↦ ap (λ (x : ℕ). get_or w x 0) q ∙ z ∙ sym (zero-at work₀ 0 (8 * m) k h.zero (omega arith) (omega arith))
          | inr q ↦ elim (eq-or-ne k (5 * m + (j - 1))) [
            | inl p ↦ ap (λ (x : ℕ). get_or w x 0) p ∙ none ∙ sym (zero-at work₀ 0 (8 * m) k h.zero (omega arith) (omega arith))
            | inr p ↦ h.rest k (λ u. n (busier k e q p h.low u))
          ]
        ];
      }
    where
      busier : {js : List ℕ} (k : ℕ) → js ≡ done m R W j → k ≢ 3 * m + (j - 1) → k ≢ 5 * m + (j - 1) → 1 ≤ j → Busy m flags used (done m R W j) j k → Busy m flags used js (suc j) k
      busier k e q p a (differs x) = differs x
      busier k e q p a (plans x) = plans (subst (λ (y : List ℕ). InPlan m used y k) (sym e) x)
      busier k e q p a (marks x y) = marks (omega arith) y
      busier k e q p a (queues x y) = queues (omega arith) y
      busier k e q p a (flagged x y) = flagged x y

  -- ---- a turn begins

  module _ {j used : ℕ} (h : Walking m flags R W adding work₀ w j used) (b : j ≤ m) (n : mark_at m w j ≢ 0) (within : (k : ℕ) → 1 ≤ k → k ≤ length W → start_of W k ≤ m)
      (last : ℕ) (e : last ≡ last_of 0 (done m R W j)) where
    abbrev wb : List ℕ
    wb = begun m w last j used

    abbrev wl : List ℕ
    wl = pick (eqb last 0) w (set w (5 * m + (last - 1)) j)

    touched : is_touched (larger m R W) W j ≡ true
    touched = mark-touched m R W h.marks h.low b n

    last_done : last ≢ 0 → Mem last (done m R W j)
    last_done x = elim (last-in 0 (done m R W j)) [ inl y ↦ absurd (x (e ∙ y)) | inr y ↦ subst (λ (z : ℕ). Mem z (done m R W j)) (sym e) y ]

    last-low : last ≢ 0 → (1 ≤ last) × (last < j)
    last-low x = done-in m R W j h.low (last_done x)

    wl-length : length wl ≡ length w
    wl-length = elim (eq-or-ne last 0) [ inl x ↦ rw (eq-eqb last 0 x) refl | inr x ↦ rw (ne_eqb last 0 x) (length-set w (5 * m + (last - 1)) j) ]

    pub begun-length : length wb ≡ length w
    begun-length = length-set wl (4 * m + (j - 1)) used ∙ wl-length

    wl-other : (k : ℕ) → (last ≢ 0 → k ≢ 5 * m + (last - 1)) → get_or wl k 0 ≡ get_or w k 0
    wl-other k x = elim (eq-or-ne last 0) [
      | inl y ↦ rw (eq-eqb last 0 y) refl
      | inr y ↦ rw (ne_eqb last 0 y) (get_or-set_other w (5 * m + (last - 1)) k j 0 (x y))
    ]

    begun-other : (k : ℕ) → k ≢ 4 * m + (j - 1) → (last ≢ 0 → k ≢ 5 * m + (last - 1)) → get_or wb k 0 ≡ get_or w k 0
    begun-other k x y = get_or-set_other wl (4 * m + (j - 1)) k used 0 x ∙ wl-other k y

    -- places past the list of touched columns
    pub begun-past : (k : ℕ) → k ≢ 4 * m + (j - 1) → (k < 5 * m) ⊎ (5 * m + (j - 1) ≤ k) → get_or wb k 0 ≡ get_or w k 0
    begun-past k x y = begun-other k x (λ z q. elim y [ inl u ↦ omega arith | inr u ↦ omega (arith, last-low z) ])

    pub walking-begin : Begun m flags R W adding work₀ wb j used
    walking-begin =
        record {
          low = h.low;
          high = b;
          touched = touched;
          room = record { m-bound = h.room.m-bound; low = h.room.low; long = omega (arith, h.room.long, begun-length) };
          plan-room = h.plan-room;
          same_length = begun-length ∙ h.same_length;
          zero = h.zero;
          flags-zero = h.flags-zero;
          plans = plans-link m (before adding m R W) (after adding m R W) (label_at m R W) w wb begun-length (done m R W j) 0 0 0 j used m (omega arith)
              (touched-rising (larger m R W) W 1 (j - 1) m (omega (arith, h.low))) h.plans
              (λ k i x. begun-other k (not_start k i) (λ y z. x (z ∙ ap (λ (v : ℕ). 5 * m + (v - 1)) e)))
              (λ x. ap (λ (v : ℕ). cell wb (5 * m) (v - 1)) (sym e) ∙ linked (λ y. x (sym e ∙ y)));
          starts = get_or-set_same wl (4 * m + (j - 1)) used 0 (omega (arith, wl-length, h.room.low, h.room.long, h.low));
          marks = marks-frame m R W h.marks h.low within (λ q x y. begun-past (3 * m + (q - 1)) (omega (arith, h.low)) (inl (omega (arith, h.low))));
          flagged = λ q x y z f. h.flagged q x y (λ u. z (begun-past (3 * m + (q - 1)) (omega arith) (inl (omega arith)) ∙ u))
              (sym (begun-past (flags + (q - 1) / 64) (omega (arith, h.room.low, h.low)) (inr (omega (arith, h.room.low, h.low)))) ∙ f);
          queues = queues-frame m w wb (omega (arith, h.room.low, h.room.long)) begun-length h.queues h.low h.high
              (λ k x y. begun-past k (omega (arith, h.low)) (inr x));
          rest = λ k x. begun-other k (λ y. x (plans (inl (j, (own_in m R W j h.low touched, inr (inl y))))))
              (λ y z. x (plans (in-plan-wider m R W j h.low touched {used = used} {used' = used} {k = k} (omega arith) (inl (last, (last_done y, inr (inr z))))))) ∙
              h.rest k (λ y. x (more y));
        }
      where
        linked : last ≢ 0 → cell wb (5 * m) (last - 1) ≡ j
        linked x =
            get_or-set_other wl (4 * m + (j - 1)) (5 * m + (last - 1)) used 0 (omega (arith, h.low)) ∙
            rw (ne_eqb last 0 x) (get_or-set_same w (5 * m + (last - 1)) j 0 (omega (arith, last-low x, h.room.low, h.room.long)))

        not_start : (k : ℕ) → InPlan m used (done m R W j) k → k ≢ 4 * m + (j - 1)
        not_start k (inr x) q = omega (arith, h.low)
        not_start k (inl x) q =
            let v : (1 ≤ x.0) × (x.0 < j) = done-in m R W j h.low x.1.0 in
            elim x.1.1 [ inl y ↦ omega arith | inr (inl y) ↦ omega arith | inr (inr y) ↦ omega arith ]

        more : {k : ℕ} → Busy m flags used (done m R W j) j k → Busy m flags used (done m R W (suc j)) j k
        more (differs x) = differs x
        more (plans x) = plans (in-plan-wider m R W j h.low touched (omega arith) x)
        more (marks x y) = marks x y
        more (queues x y) = queues x y
        more (flagged x y) = flagged x y

-- ---- the batch columns that start at j counted

module _ {m flags : ℕ} {R W : List Column} {adding : Bool} {work₀ w w' : List ℕ} {j used : ℕ} (b : Begun m flags R W adding work₀ w j used) (o : OnlyIn 0 (3 * m) w w')
    (within : (k : ℕ) → 1 ≤ k → k ≤ length W → start_of W k ≤ m) where
  pub begun-counted : Begun m flags R W adding work₀ w' j used
  begun-counted =
      let same : (k : ℕ) → 3 * m ≤ k → get_or w' k 0 ≡ get_or w k 0 = λ k x. o.outside k (inr (omega arith)) in
      record {
        low = b.low;
        high = b.high;
        touched = b.touched;
        room = record { m-bound = b.room.m-bound; low = b.room.low; long = omega (arith, b.room.long, o.same_length) };
        plan-room = b.plan-room;
        same_length = o.same_length ∙ b.same_length;
        zero = b.zero;
        flags-zero = b.flags-zero;
        plans = plans-frame m (before adding m R W) (after adding m R W) (label_at m R W) w w' o.same_length (done m R W j) 0 j used b.plans
            (λ k i. same k (plan-places m R W j used (omega (arith, b.high)) k i).0);
        starts = same (4 * m + (j - 1)) (omega arith) ∙ b.starts;
        marks = marks-frame m R W b.marks b.low within (λ q x y. same (3 * m + (q - 1)) (omega arith));
        flagged = λ q x y z f. b.flagged q x y (λ u. z (same (3 * m + (q - 1)) (omega arith) ∙ u)) (sym (same (flags + (q - 1) / 64) (omega (arith, b.room.low))) ∙ f);
        queues = queues-frame m w w' (omega (arith, b.room.low, b.room.long)) o.same_length b.queues b.low (omega (arith, b.high)) (λ k x y. same k (omega arith));
        rest = λ k x. elim (lt-or-le k (3 * m)) [ inl y ↦ absurd (x (differs y)) | inr y ↦ same k y ∙ b.rest k x ];
      }

pub begun-turn : {m flags : ℕ} {R W : List Column} {adding : Bool} {work₀ w : List ℕ} {j used n : ℕ} → Begun m flags R W adding work₀ w j used →
    SoFar m R W adding w n j (length W) nobody → Turn m R W adding w j used n 0 nobody
begun-turn b t =
    record {
      low = b.low;
      high = b.high;
      long = omega (arith, b.plan-room, b.room.long);
      plans = b.plans;
      starts = b.starts;
      queues = b.queues;
      so_far = t;
    }
