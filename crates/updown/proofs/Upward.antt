-- One step up from j, as it is stored: the new parent kept in j's mark, the tree parent raised and j in its queue; then the state is that before the next
-- row (`stepped`). Assumes nothing.
use mathlib.Core.Path.{◌≡◌, sym, ap, ◌∙◌}
use mathlib.Core.Logic.{◌⊎◌, inl, inr, ◌≢◌}
use mathlib.Core.Bool.{Bool, true}
use mathlib.Core.List.{List, ◌++◌}
use Prim.Native.Nat.{ℕ, suc, ◌+◌, ◌-◌, ◌*◌, ◌/◌, ◌%◌, ◌≤◌, ◌<◌}
use native.Mathlib.Omega.{arith}
use lib.ListN.{length, get_or, length-set}
use lib.Seq.{get_or-set_same, get_or-set_other}
use borrow.Author.Tests.{eq-eqb, ne_eqb}
use Rattle.lists.proofs.Tests.{eq-or-ne}
use Rattle.symbolic.specs.Columns.{Column}
use Rattle.symbolic.specs.Factor.{parent_of}
use Rattle.symbolic.proofs.Labels.{label-child, touched-label, label-passes}
use Rattle.workspace.specs.Regions.{cell, Outside}
use Rattle.emission.specs.declared.Emission.{Emission}
use Rattle.updown.specs.Marks.{Room, mark_at, flag_at, raised, queued, Flagged, kept, stepped_up}
use Rattle.updown.specs.Queues.{Queues}
use Rattle.updown.specs.Turns.{larger, after, tree_parent, label_at, standing, waiting}
use Rattle.updown.specs.SoFar.{family}
use Rattle.updown.specs.States.{start_of, MarksHold, Walking}
use Rattle.updown.proofs.Worked.{Begun, Worked}
use Rattle.updown.proofs.Queueing.{queues-ext, queues-fewer, queues-frame, queues-push, queued-length, queued-other, moved, moved-self, moved_other}
use Rattle.updown.proofs.Standing.{tree-above, stands_self, family-places, family-own}
use Rattle.updown.proofs.Marked.{marks-past, marks-frame, raised-length, raised-other, raised-mark, raised-flag, raised-own}
use Rattle.updown.proofs.Stepping.{label_same, walk-on}

module _ {next : List ℕ} {m flags : ℕ} {R W : List Column} {adding : Bool} {work₀ w w₁ : List ℕ} {j used avail : ℕ} {e : Emission} (b : Begun m flags R W adding work₀ w j used)
    (d : Worked next w w₁ m R W adding j used avail e) (ok : e.fits ≡ true) (fit : 8 * m + length next ≤ flags) (few : length W ≤ 64)
    (within : (k : ℕ) → 1 ≤ k → k ≤ length W → start_of W k ≤ m) (p : ℕ) (parent : p ≡ parent_of (after adding m R W) j) where
  abbrev up : ℕ
  up = tree_parent m R W j

  abbrev wk : List ℕ
  wk = kept m w₁ j p

  long₁ : flags + 64 ≤ length w₁
  long₁ = omega (arith, b.room.long, d.same_length)

  low-label : label_at m R W j ≤ 64
  low-label = omega (arith, (label-passes (larger m R W) W j (touched-label (larger m R W) W j b.touched)).0)

  kept-other : (k : ℕ) → k ≢ 3 * m + (j - 1) → get_or wk k 0 ≡ get_or w₁ k 0
  kept-other k n = get_or-set_other w₁ (3 * m + (j - 1)) k (mark_at m w₁ j + 262144 * p) 0 n

  kept-own : cell wk (3 * m) (j - 1) ≡ mark_at m w₁ j + 262144 * p
  kept-own = get_or-set_same w₁ (3 * m + (j - 1)) (mark_at m w₁ j + 262144 * p) 0 (omega (arith, long₁, b.room.low, b.high, b.low))

  kept-length : length wk ≡ length w₁
  kept-length = length-set w₁ (3 * m + (j - 1)) (mark_at m w₁ j + 262144 * p)

  -- marks of rows to come, after the plan and after the new parent is kept
  mark-before : (q : ℕ) → j < q → q ≤ m → mark_at m wk q ≡ mark_at m w q
  mark-before q x y =
      kept-other (3 * m + (q - 1)) (omega (arith, b.low)) ∙
      d.still (3 * m + (q - 1)) (omega arith) (inl (omega (arith, b.low))) (omega (arith, b.low, b.high)) (inl (omega (arith, b.low)))

  flag-before : (q : ℕ) → q ≤ m → flag_at flags wk q ≡ flag_at flags w q
  flag-before q y =
      kept-other (flags + (q - 1) / 64) (omega (arith, b.room.low, b.high, b.low)) ∙
      d.still (flags + (q - 1) / 64) (omega (arith, b.room.low)) (inr (omega (arith, b.room.low))) (omega (arith, b.room.low, b.high, b.low))
      (inr (omega (arith, fit, d.planned.used_high, d.planned.used_low)))

  -- no tree parent
  module _ (z : up ≡ 0) where
    marks-root : MarksHold m R W wk (suc j)
    marks-root = marks-frame m R W (marks-past m R W b.marks b.low b.high (λ _. z)) (omega arith) within mark-before

    pub stepped-root : Walking m flags R W adding work₀ wk (suc j) e.used
    stepped-root =
        walk-on b d ok fit wk p kept-length low-label parent kept-own (λ k x _ _ _. kept-other k x) marks-root
        (λ q x y n f. b.flagged q (omega (arith, b.low)) y (λ v. n (mark-before q x y ∙ v)) (sym (flag-before q y) ∙ f))
        (queues-ext (omega (arith, long₁, kept-length, b.room.low))
        (queues-fewer (queues-frame m w₁ wk (omega (arith, long₁, b.room.low)) kept-length d.queues b.low (omega (arith, b.high)) (λ k x y. kept-other k (omega (arith, b.low, b.high))))
        (omega arith) (λ x _ n. n))
        (λ c x y. elim (eq-or-ne c j) [
          | inl q ↦ ap (standing m R W (suc j)) q ∙ stands_self m R W j b.low b.high b.touched ∙ z ∙ sym (ap (waiting m R W j (family m R W j)) q ∙ family-own m R W j b.low b.high)
          | inr q ↦ sym (family-places m R W j b.low b.high c x y q)
        ]))

  -- a tree parent
  module _ (z : up ≢ 0) where
    above : (j < up) × (up ≤ m)
    above = tree-above m R W j b.low b.high (omega arith)

    abbrev l : ℕ
    l = mark_at m w₁ j / 4

    abbrev wr : List ℕ
    wr = raised m flags wk up l

    abbrev wq : List ℕ
    wq = queued m wr j up

    room-k : Room m flags wk
    room-k = record { m-bound = b.room.m-bound; low = b.room.low; long = omega (arith, long₁, kept-length) }

    wr-length : length wr ≡ length w₁
    wr-length = raised-length m flags wk room-k up l (omega (arith, above)) above.1 ∙ kept-length

    wq-length : length wq ≡ length w₁
    wq-length = queued-length m wr j up ∙ wr-length

    raise-other : (k : ℕ) → k ≢ 3 * m + (up - 1) → k ≢ flags + (up - 1) / 64 → get_or wr k 0 ≡ get_or wk k 0
    raise-other = raised-other m flags wk room-k up l (omega (arith, above)) above.1

    all-other : (k : ℕ) → k ≢ 3 * m + (j - 1) → Outside (3 * m + j) (m - j) k → Outside (5 * m + j) (3 * m - j) k → Outside flags 64 k → get_or wq k 0 ≡ get_or w₁ k 0
    all-other k n x y f =
        queued-other m wr j up k (λ g. elim y [ inl v ↦ omega (arith, b.low) | inr v ↦ omega (arith, b.high, b.low) ]) (λ g. elim y [ inl v ↦ omega (arith, above) | inr v ↦ omega (arith, above) ]) ∙
        raise-other k (λ g. elim x [ inl v ↦ omega (arith, above) | inr v ↦ omega (arith, above) ]) (λ g. elim f [ inl v ↦ omega arith | inr v ↦ omega (arith, above, b.room.m-bound) ]) ∙
        kept-other k n

    wq-own : cell wq (3 * m) (j - 1) ≡ mark_at m w₁ j + 262144 * p
    wq-own =
        queued-other m wr j up (3 * m + (j - 1)) (omega (arith, b.high, b.low)) (omega (arith, b.high, above)) ∙
        raise-other (3 * m + (j - 1)) (omega (arith, above, b.low)) (omega (arith, b.room.low, b.high, b.low)) ∙ kept-own

    -- a mark of a row to come in wq is that in wr
    mark-queued : (q : ℕ) → 1 ≤ q → q ≤ m → mark_at m wq q ≡ mark_at m wr q
    mark-queued q x y = queued-other m wr j up (3 * m + (q - 1)) (omega (arith, b.low)) (omega (arith, above))

    mark-else : (q : ℕ) → j < q → q ≤ m → q ≢ up → mark_at m wq q ≡ mark_at m w q
    mark-else q x y n =
        mark-queued q (omega arith) y ∙ raise-other (3 * m + (q - 1)) (omega (arith, above, b.low)) (omega (arith, b.room.low)) ∙ mark-before q x y

    mark-up : (l ≤ mark_at m wr up / 4) × (mark_at m wk up / 4 ≤ mark_at m wr up / 4) × (mark_at m wr up % 4 ≡ mark_at m wk up % 4) ×
        ((mark_at m wr up ≡ mark_at m wk up) ⊎ ((mark_at m wr up / 4 ≡ l) × (0 < l)))
    mark-up = raised-mark m flags wk room-k up l (omega (arith, above)) above.1

    -- the mark of the tree parent, against what it was
    up-queued : mark_at m wq up ≡ mark_at m wr up
    up-queued = mark-queued up (omega (arith, above)) above.1

    up-before : mark_at m wk up ≡ mark_at m w up
    up-before = mark-before up above.0 above.1

    grows : (q : ℕ) → j < q → q ≤ m → (mark_at m w q / 4 ≤ mark_at m wq q / 4) × (mark_at m wq q % 4 ≡ mark_at m w q % 4)
    grows q x y =
        elim (eq-or-ne q up) [
          | inr n ↦ (omega (arith, ap (λ (v : ℕ). v / 4) (mark-else q x y n)), ap (λ (v : ℕ). v % 4) (mark-else q x y n))
          | inl n ↦ (
            omega (arith, mark-up.1, ap (λ (v : ℕ). mark_at m wq v / 4) n, ap (λ (v : ℕ). mark_at m w v / 4) n, ap (λ (v : ℕ). v / 4) up-queued, ap (λ (v : ℕ). v / 4) up-before),
            ap (λ (v : ℕ). mark_at m wq v % 4) n ∙ ap (λ (v : ℕ). v % 4) up-queued ∙ mark-up.2 ∙ ap (λ (v : ℕ). v % 4) up-before ∙ ap (λ (v : ℕ). mark_at m w v % 4) (sym n),
          )
        ]

    marks-up : MarksHold m R W wq (suc j)
    marks-up =
        let h : MarksHold m R W w j = b.marks in
        let lab : l ≡ label_at m R W j = label_same b d in
        record {
          start = λ k x y g. omega (arith, h.start k x y (omega arith), (grows (start_of W k) (omega arith) (within k x y)).0);
          bit = λ k x y g. (grows (start_of W k) (omega arith) (within k x y)).1 ∙ h.bit k x y (omega arith);
          child = λ c x y t g. elim (eq-or-ne c j) [
            | inl q ↦ omega (
              arith,
              lab,
              mark-up.0,
              ap (label_at m R W) q,
              ap (λ (v : ℕ). mark_at m wq (tree_parent m R W v) / 4) q,
              ap (λ (v : ℕ). v / 4) up-queued,
            )
            | inr q ↦
                let v : (c < tree_parent m R W c) × (tree_parent m R W c ≤ m) = tree-above m R W c x (omega (arith, b.high)) (omega arith) in
                omega (arith, h.child c x (omega arith) t (omega arith), (grows (tree_parent m R W c) (omega arith) v.1).0)
          ];
          bound = λ q x y. elim (eq-or-ne q up) [
            | inr n ↦ omega (arith, h.bound q (omega arith) y, ap (λ (v : ℕ). v / 4) (mark-else q (omega arith) y n))
            | inl n ↦
                let rise : label_at m R W j ≤ label_at m R W up = label-child m (R ++ W) W j b.low b.high (omega arith) in
                let same : label_at m R W q ≡ label_at m R W up = ap (label_at m R W) n in
                let here : mark_at m wq q / 4 ≡ mark_at m wr up / 4 = ap (λ (v : ℕ). mark_at m wq v / 4) n ∙ ap (λ (v : ℕ). v / 4) up-queued in
                elim mark-up.3 [
                  | inl u ↦ omega (arith, h.bound up (omega (arith, above)) above.1, ap (λ (v : ℕ). v / 4) (u ∙ up-before))
                  | inr u ↦ omega (arith, u.0, lab)
                ]
          ];
          whole = λ q x y n. elim (eq-or-ne q up) [
            | inr g ↦ omega (arith, h.whole q (omega arith) y (λ v. n (mark-else q (omega arith) y g ∙ v)), mark-else q (omega arith) y g)
            | inl g ↦
                let here : mark_at m wq q ≡ mark_at m wr up = ap (mark_at m wq) g ∙ up-queued in
                elim mark-up.3 [
                  | inl u ↦ omega (arith, h.whole up (omega (arith, above)) above.1 (λ v. n (here ∙ u ∙ up-before ∙ v)), u, up-before)
                  | inr u ↦ omega (arith, u.0, u.1)
                ]
          ];
          cause = λ q x y n. elim (eq-or-ne q up) [
            | inl g ↦ inr (j, b.low, omega arith, b.touched, sym g)
            | inr g ↦ elim (h.cause q (omega arith) y (λ v. n (mark-else q (omega arith) y g ∙ v))) [
              | inl u ↦ inl u
              | inr u ↦ inr (u.0, u.1, omega (arith, u.2), u.3, u.4)
            ]
          ];
        }

    flags-up : Flagged m flags wq j
    flags-up q x y n f =
        let flag-queued : flag_at flags wq q ≡ flag_at flags wr q = queued-other m wr j up (flags + (q - 1) / 64) (omega (arith, b.room.low, b.high, b.low)) (omega (arith, b.room.low, above)) in
        elim (eq-or-ne q up) [
          | inr g ↦
              raised-flag m flags wk room-k up l (omega (arith, above)) above.1 q
              (λ v. b.flagged q (omega (arith, b.low)) y (λ u. n (mark-else q x y g ∙ u)) (sym (flag-before q y) ∙ v)) (sym flag-queued ∙ f)
          | inl g ↦
              raised-own m flags wk room-k up l (omega (arith, above)) above.1 (λ v. n (ap (mark_at m wq) g ∙ up-queued ∙ v))
              (λ u v. b.flagged up (omega (arith, above, b.low)) above.1 (λ t. u (up-before ∙ t)) (sym (flag-before up above.1) ∙ v))
              (ap (flag_at flags wr) (sym g) ∙ sym flag-queued ∙ f)
        ]

    queues-up : Queues m wq (suc j) 0 (standing m R W (suc j))
    queues-up =
        let qr : Queues m wr j 0 (waiting m R W j (family m R W j)) =
        queues-frame m w₁ wr (omega (arith, long₁, b.room.low)) wr-length d.queues b.low (omega (arith, b.high))
        (λ k x y. raise-other k (omega (arith, above, b.low)) (omega (arith, b.room.low)) ∙ kept-other k (omega (arith, b.low, b.high))) in
        queues-ext (omega (arith, long₁, wq-length, b.room.low))
        (queues-fewer (queues-push m wr (omega (arith, long₁, wr-length, b.room.low)) qr j up b.low b.high (family-own m R W j b.low b.high) b.low (omega (arith, above)) (omega (arith, above)) z)
        (omega arith) (λ x _ n. n))
        (λ c x y. elim (eq-or-ne c j) [
          | inl q ↦ ap (standing m R W (suc j)) q ∙ stands_self m R W j b.low b.high b.touched ∙ sym (ap (moved (waiting m R W j (family m R W j)) j up) q ∙ moved-self (waiting m R W j (family m R W j)) j up)
          | inr q ↦ sym (family-places m R W j b.low b.high c x y q) ∙ sym (moved_other (waiting m R W j (family m R W j)) j up c q)
        ])

    pub stepped-parent : Walking m flags R W adding work₀ wq (suc j) e.used
    stepped-parent = walk-on b d ok fit wq p wq-length low-label parent wq-own all-other marks-up flags-up queues-up

  -- either way
  pub stepped : (q : ℕ) → q ≡ up → Walking m flags R W adding work₀ (stepped_up m flags w₁ j p q) (suc j) e.used
  stepped q g =
      elim (eq-or-ne up 0) [
        | inl z ↦ rw (g, eq-eqb up 0 z) (stepped-root z)
        | inr z ↦ rw (g, ne_eqb up 0 z) (stepped-parent z)
      ]

  -- the plan stays
  pub stepped-frame : (q : ℕ) → q ≡ up → (k : ℕ) → 8 * m ≤ k → k < flags → get_or (stepped_up m flags w₁ j p q) k 0 ≡ get_or w₁ k 0
  stepped-frame q g k x y =
      elim (eq-or-ne up 0) [
        | inl z ↦ rw (g, eq-eqb up 0 z) (kept-other k (omega (arith, b.high, b.low)))
        | inr z ↦ rw (g, ne_eqb up 0 z) (all-other z k (omega (arith, b.high, b.low)) (inr (omega (arith, b.high))) (inr (omega (arith, b.high))) (inl y))
      ]

  pub step_room : Room m flags w₁ × (1 ≤ j) × (j ≤ m) × (mark_at m w₁ j < 260)
  step_room =
      (record { m-bound = b.room.m-bound; low = b.room.low; long = long₁ }, b.low, b.high, omega (arith, low-label, label_same b d))
