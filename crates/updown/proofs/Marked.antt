-- Marks during the walk: the mark of the next row says whether it is touched and what its label is (`mark-touched`, `touched-mark`, `mark-label`); the marks
-- stay where their places stay (`marks-frame`), past a row that has no tree parent (`marks-past`) or is not touched (`marks-skip`); and a tree parent raised
-- (`raised-mark`, `raised-flag`). Assumes nothing.
use mathlib.Core.Path.{◌≡◌, refl, sym, ap, ◌∙◌}
use mathlib.Core.Logic.{◌⊎◌, inl, inr, ◌≢◌}
use mathlib.Core.Bool.{Bool, true, false, true≢false}
use mathlib.Core.List.{List, ◌++◌}
use Prim.Native.Nat.{ℕ, suc, ◌+◌, ◌-◌, ◌*◌, ◌/◌, ◌%◌, ◌≤◌, ◌<◌}
use native.Mathlib.Omega.{arith}
use lib.ListN.{length, get_or, set, length-set}
use lib.Seq.{get_or-set_same, get_or-set_other}
use borrow.Author.Tests.{lt-ltb, le-ltb}
use Rattle.lists.proofs.Tests.{eq-or-ne, lt-or-le, refute}
use Rattle.symbolic.specs.Columns.{Column}
use Rattle.symbolic.specs.Batch.{is_touched}
use Rattle.symbolic.proofs.Paths.{parent-outside}
use Rattle.symbolic.proofs.Labels.{label-cases, label-touched, touched-label, label-passes}
use Rattle.updown.specs.Marks.{Room, mark_at, flag_at, raised}
use Rattle.updown.specs.Turns.{larger, tree_parent, label_at}
use Rattle.updown.specs.States.{start_of, MarksHold}
use Rattle.updown.proofs.Standing.{tree-above}

module _ (m : ℕ) (R W : List Column) where
  abbrev T : ℕ → Bool
  T c = is_touched (larger m R W) W c

  -- the label of a touched row comes from a start there or from a done child
  pub label-from : (j : ℕ) → 1 ≤ j → j ≤ m → T j ≡ true → (0 < label_at m R W j) × (label_at m R W j ≤ length W) ×
      ((start_of W (label_at m R W j) ≡ j) ⊎ ((c : ℕ) × (1 ≤ c) × (c < j) × (tree_parent m R W c ≡ j) × (label_at m R W c ≡ label_at m R W j)))
  label-from j a b t =
      let p : 0 < label_at m R W j = touched-label (larger m R W) W j t in
      (p, (label-passes (larger m R W) W j p).0, label-cases m (R ++ W) W j a b p)

  module _ {work : List ℕ} {j : ℕ} (h : MarksHold m R W work j) (a : 1 ≤ j) (b : j ≤ m) where
    pub mark-touched : mark_at m work j ≢ 0 → T j ≡ true
    mark-touched n = label-touched (larger m R W) W j (omega (arith, h.whole j (omega arith) b n, h.bound j (omega arith) b))

    at_least : T j ≡ true → label_at m R W j ≤ mark_at m work j / 4
    at_least t =
        let f : (0 < label_at m R W j) × (label_at m R W j ≤ length W) ×
        ((start_of W (label_at m R W j) ≡ j) ⊎ ((c : ℕ) × (1 ≤ c) × (c < j) × (tree_parent m R W c ≡ j) × (label_at m R W c ≡ label_at m R W j))) = label-from j a b t in
        elim f.2 [
          | inl e ↦ omega (arith, h.start (label_at m R W j) f.0 f.1 (omega arith), ap (λ (x : ℕ). mark_at m work x / 4) e)
          | inr e ↦ omega (
            arith,
            e.4,
            h.child e.0 e.1 e.2 (label-touched (larger m R W) W e.0 (omega (arith, e.4))) (omega (arith, e.3)),
            ap (λ (x : ℕ). mark_at m work x / 4) e.3,
          )
        ]

    pub mark-label : T j ≡ true → mark_at m work j / 4 ≡ label_at m R W j
    mark-label t = omega (arith, at_least t, h.bound j (omega arith) b)

    pub touched-mark : mark_at m work j ≡ 0 → T j ≡ false
    touched-mark z = refute (T j) (λ t. omega (arith, at_least t, touched-label (larger m R W) W j t))

    -- a row that has no tree parent or is not touched
    pub marks-past : (T j ≡ true → tree_parent m R W j ≡ 0) → MarksHold m R W work (suc j)
    marks-past z =
        record {
          start = λ k x y l. h.start k x y (omega arith);
          bit = λ k x y l. h.bit k x y (omega arith);
          child = λ c x y t l. elim (eq-or-ne c j) [ inl e ↦ absurd (omega (arith, ap (tree_parent m R W) e, z (sym (ap T e) ∙ t))) | inr e ↦ h.child c x (omega arith) t (omega arith) ];
          bound = λ q x y. h.bound q (omega arith) y;
          whole = λ q x y n. h.whole q (omega arith) y n;
          cause = λ q x y n. elim (h.cause q (omega arith) y n) [ inl e ↦ inl e | inr e ↦ inr (e.0, e.1, omega (arith, e.2), e.3, e.4) ];
        }

    pub marks-skip : T j ≡ false → MarksHold m R W work (suc j)
    marks-skip z = marks-past (λ t. absurd (true≢false (sym t ∙ z)))

  -- marks that stay
  pub marks-frame : {work work' : List ℕ} {j : ℕ} → MarksHold m R W work j → 1 ≤ j → ((k : ℕ) → 1 ≤ k → k ≤ length W → start_of W k ≤ m) →
      ((q : ℕ) → j ≤ q → q ≤ m → mark_at m work' q ≡ mark_at m work q) → MarksHold m R W work' j
  marks-frame {work} {work'} {j} h one within s =
      record {
        start = λ k x y l. omega (arith, h.start k x y l, ap (λ (z : ℕ). z / 4) (s (start_of W k) l (within k x y)));
        bit = λ k x y l. ap (λ (z : ℕ). z % 4) (s (start_of W k) l (within k x y)) ∙ h.bit k x y l;
        child = λ c x y t l. omega (
          arith,
          h.child c x y t l,
          ap (λ (z : ℕ). z / 4) (s (tree_parent m R W c) l (tree-high c x y t l)),
        );
        bound = λ q x y. omega (arith, h.bound q x y, ap (λ (z : ℕ). z / 4) (s q x y));
        whole = λ q x y n. omega (arith, h.whole q x y (λ z. n (s q x y ∙ z)), s q x y);
        cause = λ q x y n. h.cause q x y (λ z. n (s q x y ∙ z));
      }
    where
      tree-high : (c : ℕ) → 1 ≤ c → c < j → T c ≡ true → j ≤ tree_parent m R W c → tree_parent m R W c ≤ m
      tree-high c x y t l = elim (lt-or-le m c) [
        | inl z ↦ let e : tree_parent m R W c ≡ 0 = parent-outside m (R ++ W) c z in absurd (omega arith)
        | inr z ↦ (tree-above m R W c x z (omega arith)).1
      ]

-- ---- a tree parent raised

module _ (m flags : ℕ) (w : List ℕ) (r : Room m flags w) (q l : ℕ) (a : 1 ≤ q) (b : q ≤ m) where
  pub raised-length : length (raised m flags w q l) ≡ length w
  raised-length =
      elim (lt-or-le (mark_at m w q / 4) l) [
        | inl x ↦ rw (lt-ltb (mark_at m w q / 4) l x)
            (length-set (set w (3 * m + (q - 1)) (4 * l + mark_at m w q % 4)) (flags + (q - 1) / 64) 1 ∙ length-set w (3 * m + (q - 1)) (4 * l + mark_at m w q % 4))
        | inr x ↦ rw (le-ltb (mark_at m w q / 4) l x) refl
      ]

  -- only the mark and the flag of q's block may change
  pub raised-other : (k : ℕ) → k ≢ 3 * m + (q - 1) → k ≢ flags + (q - 1) / 64 → get_or (raised m flags w q l) k 0 ≡ get_or w k 0
  raised-other k x y =
      elim (lt-or-le (mark_at m w q / 4) l) [
        | inl z ↦ rw (lt-ltb (mark_at m w q / 4) l z)
            (get_or-set_other (set w (3 * m + (q - 1)) (4 * l + mark_at m w q % 4)) (flags + (q - 1) / 64) k 1 0 y ∙ get_or-set_other w (3 * m + (q - 1)) k (4 * l + mark_at m w q % 4) 0 x)
        | inr z ↦ rw (le-ltb (mark_at m w q / 4) l z) refl
      ]

  -- the mark: at least the label, what it was where that is larger; its lowest bits stay
  pub raised-mark : (l ≤ mark_at m (raised m flags w q l) q / 4) × (mark_at m w q / 4 ≤ mark_at m (raised m flags w q l) q / 4) ×
      (mark_at m (raised m flags w q l) q % 4 ≡ mark_at m w q % 4) × ((mark_at m (raised m flags w q l) q ≡ mark_at m w q) ⊎ ((mark_at m (raised m flags w q l) q / 4 ≡ l) × (0 < l)))
  raised-mark =
      elim (lt-or-le (mark_at m w q / 4) l) [
        | inr z ↦ rw (le-ltb (mark_at m w q / 4) l z) (z, omega arith, refl, inl refl)
        | inl z ↦
            let e : mark_at m (raised m flags w q l) q ≡ 4 * l + mark_at m w q % 4 =
            rw (lt-ltb (mark_at m w q / 4) l z)
            (get_or-set_other (set w (3 * m + (q - 1)) (4 * l + mark_at m w q % 4)) (flags + (q - 1) / 64) (3 * m + (q - 1)) 1 0 (omega (arith, r.low)) ∙
            get_or-set_same w (3 * m + (q - 1)) (4 * l + mark_at m w q % 4) 0 (omega (arith, r.low, r.long))) in
            (omega arith, omega arith, omega arith, inr (omega arith, omega arith))
      ]

  -- a mark that is there has its flag
  pub raised-flag : (x : ℕ) → flag_at flags w x ≢ 0 → flag_at flags (raised m flags w q l) x ≢ 0
  raised-flag x n =
      elim (lt-or-le (mark_at m w q / 4) l) [
        | inr z ↦ rw (le-ltb (mark_at m w q / 4) l z) n
        | inl z ↦ rw (lt-ltb (mark_at m w q / 4) l z) (elim (eq-or-ne ((x - 1) / 64) ((q - 1) / 64)) [
          | inl e ↦ λ y. omega (
            arith,
            y,
            ap (λ (k : ℕ). get_or (set (set w (3 * m + (q - 1)) (4 * l + mark_at m w q % 4)) (flags + (q - 1) / 64) 1) (flags + k) 0) e,
            get_or-set_same (set w (3 * m + (q - 1)) (4 * l + mark_at m w q % 4)) (flags + (q - 1) / 64) 1 0 (simp length-set (omega (arith, r.long, r.m-bound))),
          )
          | inr e ↦ λ y. n (
              sym (get_or-set_other (set w (3 * m + (q - 1)) (4 * l + mark_at m w q % 4)) (flags + (q - 1) / 64) (flags + (x - 1) / 64) 1 0 (omega arith) ∙
              get_or-set_other w (3 * m + (q - 1)) (flags + (x - 1) / 64) (4 * l + mark_at m w q % 4) 0 (omega (arith, r.low))) ∙ y
              )
        ])
      ]

  pub raised-own : mark_at m (raised m flags w q l) q ≢ 0 → (mark_at m w q ≢ 0 → flag_at flags w q ≢ 0) → flag_at flags (raised m flags w q l) q ≢ 0
  raised-own n h =
      elim (lt-or-le (mark_at m w q / 4) l) [
        | inr z ↦
            let e : raised m flags w q l ≡ w = rw (le-ltb (mark_at m w q / 4) l z) refl in
            raised-flag q (h (λ y. n (ap (λ (v : List ℕ). mark_at m v q) e ∙ y)))
        | inl z ↦ rw (lt-ltb (mark_at m w q / 4) l z) (λ y. omega (
          arith,
          y,
          get_or-set_same (set w (3 * m + (q - 1)) (4 * l + mark_at m w q % 4)) (flags + (q - 1) / 64) 1 0 (simp length-set (omega (arith, r.long, r.m-bound))),
        ))
      ]
