-- The walk's loop: from the state between two turns to the next marked row or the walk's end (`taken_none`), the turn begun there and its batch columns handled
-- (`turning-from`), what the loop's calls ask, and that each turn leaves fewer rows (`rows-fewer`). Assumes nothing.
use mathlib.Core.Path.{◌≡◌, refl, sym, ap, ◌∙◌, subst}
use mathlib.Core.Logic.{◌⊎◌, inl, inr, ◌≢◌}
use mathlib.Core.Bool.{Bool, true, false}
use mathlib.Core.List.{List}
use Prim.Native.Nat.{ℕ, zero, suc, ◌+◌, ◌-◌, ◌*◌, ◌%◌, ◌≤◌, ◌<◌}
use native.Mathlib.Omega.{arith}
use lib.ListN.{length, get_or}
use Rattle.lists.specs.Lists.{pick, sum_of, all}
use Rattle.symbolic.specs.Columns.{Column, fits_rows}
use Rattle.symbolic.specs.Batch.{touched_from, size_sum_of, entries_of}
use Rattle.workspace.specs.Regions.{region}
use Rattle.pool.specs.Chains.{chain, last_of, Linked}
use Rattle.columns.specs.Plan.{of_kind}
use Rattle.updown.specs.Marks.{Room, mark_at, Flagged, Taken}
use Rattle.updown.specs.Turns.{before, after, done}
use Rattle.updown.specs.States.{start_of, Numbers, Walking, Setting, Between}
use Rattle.updown.proofs.Worked.{Begun}
use Rattle.updown.specs.Starts.{CanStart, Started}
use Rattle.updown.proofs.Plans.{region-same}
use Rattle.updown.proofs.Marked.{touched-mark}
use Rattle.updown.proofs.Stepping.{done-skip}
use Rattle.updown.proofs.Walking.{walking_skip, walking-begin, begun-length, begun-past, begun-counted}
use Rattle.updown.proofs.SoFar.{so-far-start}
use Rattle.updown.proofs.Turning.{tally-frame}
use Rattle.updown.proofs.Turned.{Turning}

-- before the first row, with the numbers that walk_from gives
pub between_start : {next work₀ w : List ℕ} {m flags : ℕ} {R W : List Column} {adding ok : Bool} {f l c k used avail : ℕ} (free : ℕ) →
    (ok ≡ true) × (f ≡ 0) × (l ≡ 0) × (c ≡ 0) × (k ≡ 0) × (used ≡ 0) × (avail ≡ free) → Walking m flags R W adding work₀ w 1 0 → Linked next free (chain next free) →
    Between next work₀ w m flags R W adding (length (chain next free)) (suc l) f l c k used avail
unfolding touched_from last_of sum_of of_kind
between_start free e h x =
    rw (e.1, e.2, e.3, e.4, e.5, e.6) (record {
      walking = h;
      numbers = record { first-is = refl; last-is = refl; count-is = refl; entries-is = refl; linked = x; taken = omega arith; room = omega arith; grown = λ y. refl };
    })

module _ {next work₀ w : List ℕ} {m flags : ℕ} {R W : List Column} {adding : Bool} {free f l c k used avail : ℕ} where
  between-skip : {j : ℕ} → Between next work₀ w m flags R W adding free j f l c k used avail → j ≤ m → mark_at m w j ≡ 0 →
      Between next work₀ w m flags R W adding free (suc j) f l c k used avail
  between-skip {j} h b z =
      let e : done m R W (suc j) ≡ done m R W j = done-skip m R W j h.walking.low (touched-mark m R W h.walking.marks h.walking.low b z) in
      let n : Numbers next w m R W adding free j f l c k used avail = h.numbers in
      record {
        walking = walking_skip h.walking b z;
        numbers = record {
          first-is = n.first-is ∙ ap (λ (x : List ℕ). get_or x 0 0) (sym e);
          last-is = n.last-is ∙ ap (last_of 0) (sym e);
          count-is = n.count-is ∙ ap length (sym e);
          entries-is = n.entries-is ∙ ap (entries_of (before adding m R W) (after adding m R W)) (sym e);
          linked = n.linked;
          taken = n.taken;
          room = omega (arith, n.room, ap (size_sum_of (before adding m R W)) e);
          grown = λ x. omega (arith, n.grown x, ap (size_sum_of (before adding m R W)) e, ap (size_sum_of (after adding m R W)) e);
        };
      }

  between-to : (n : ℕ) {j : ℕ} → Between next work₀ w m flags R W adding free j f l c k used avail → j + n ≤ suc m → ((q : ℕ) → j ≤ q → q < j + n → mark_at m w q ≡ 0) →
      Between next work₀ w m flags R W adding free (j + n) f l c k used avail
  between-to zero {j} h b z = let e : j ≡ j + 0 = omega arith in subst (λ (x : ℕ). Between next work₀ w m flags R W adding free x f l c k used avail) e h
  between-to (suc n) {j} h b z =
      let e : suc j + n ≡ j + suc n = omega arith in
      subst (λ (x : ℕ). Between next work₀ w m flags R W adding free x f l c k used avail) e
      (between-to n (between-skip h (omega arith) (z j (omega arith) (omega arith))) (omega arith) (λ q x y. z q (omega arith) (omega arith)))

-- ---- one turn of the loop, up to A

-- what take_column asks
pub seeking-take : {heads parents rows counts next : List ℕ} {m flags : ℕ} {R W : List Column} {adding : Bool} {free : ℕ} → Setting heads parents rows counts next m flags R W adding free →
    {work₀ w : List ℕ} {f l c k used avail : ℕ} → Between next work₀ w m flags R W adding free (suc l) f l c k used avail →
    Room m flags w × Flagged m flags w l × (l ≤ m) × (used ≤ 1048576)
seeking-take {m = m} {flags} s {w = w} {l = l} h =
    let e : suc l - 1 ≡ l = omega arith in (
      h.walking.room,
      subst (λ (x : ℕ). Flagged m flags w x) e h.walking.flagged,
      omega (arith, h.walking.high),
      omega (arith, h.numbers.room, s.fitting (suc l) h.walking.low h.walking.high, s.records),
    )

-- no row is marked any more
pub taken_none : {next work₀ w : List ℕ} {m flags : ℕ} {R W : List Column} {adding : Bool} {free f l c k used avail : ℕ} →
    Between next work₀ w m flags R W adding free (suc l) f l c k used avail → {w' : List ℕ} {j : ℕ} → Taken m w w' l used j → j ≡ 0 →
    Between next work₀ w' m flags R W adding free (suc m) f l c k used avail
taken_none {next} {work₀} {w} {m} {flags} {R} {W} {adding} {free} {f} {l} {c} {k} {used} {avail} h t z =
    let e : suc l + (m - l) ≡ suc m = omega (arith, h.walking.high) in
    subst (λ (x : List ℕ). Between next work₀ x m flags R W adding free (suc m) f l c k used avail) (sym (t.ends z))
    (subst (λ (x : ℕ). Between next work₀ w m flags R W adding free x f l c k used avail) e
    (between-to (m - l) h (omega (arith, h.walking.high)) (λ q x y. t.next.passed q (omega arith) (omega (arith, h.walking.high)) (λ v. absurd (v z)))))

-- row j is the next marked one
module _ {heads parents rows counts next : List ℕ} {m flags : ℕ} {R W : List Column} {adding : Bool} {free : ℕ} (s : Setting heads parents rows counts next m flags R W adding free)
    {work₀ w : List ℕ} {f l c k used avail : ℕ} (h : Between next work₀ w m flags R W adding free (suc l) f l c k used avail) {wb : List ℕ} {j : ℕ} (t : Taken m w wb l used j) (z : j ≢ 0) where
  taken-row : (l < j) × (j ≤ m) × (mark_at m w j ≢ 0)
  taken-row = let u : (l < j) × ((j ≤ m) × (mark_at m w j ≢ 0)) = t.next.found z in (u.0, u.1.0, u.1.1)

  here : Between next work₀ w m flags R W adding free j f l c k used avail
  here =
      let e : suc l + (j - suc l) ≡ j = omega (arith, taken-row) in
      subst (λ (x : ℕ). Between next work₀ w m flags R W adding free x f l c k used avail) e
      (between-to (j - suc l) h (omega (arith, taken-row)) (λ q x y. t.next.passed q (omega arith) (omega (arith, taken-row)) (λ _. omega (arith, taken-row))))

  within : (i : ℕ) → 1 ≤ i → i ≤ length W → start_of W i ≤ m
  within = s.starts

  pub taken-begun : Begun m flags R W adding work₀ wb j used
  taken-begun =
      subst (λ (x : List ℕ). Begun m flags R W adding work₀ x j used) (sym (t.begins z))
      (walking-begin here.walking taken-row.1 taken-row.2 within l here.numbers.last-is)

  same-past : (i : ℕ) → (i < 3 * m) ⊎ (8 * m ≤ i) → get_or wb i 0 ≡ get_or w i 0
  same-past i x =
      ap (λ (v : List ℕ). get_or v i 0) (t.begins z) ∙ begun-past here.walking taken-row.1 taken-row.2 within l here.numbers.last-is i
      (elim x [ inl y ↦ omega (arith, taken-row) | inr y ↦ omega (arith, taken-row) ])
      (elim x [ inl y ↦ inl (omega arith) | inr y ↦ inr (omega (arith, taken-row)) ])

  long-b : length wb ≡ length w
  long-b = ap length (t.begins z) ∙ begun-length here.walking taken-row.1 taken-row.2 within l here.numbers.last-is

  -- what A asks
  pub seeking-start : all (fits_rows m) W ≡ true → CanStart m R W adding wb j × (4 * m ≤ length wb)
  seeking-start fits =
      let tally = tally-frame long-b (λ i x. same-past i (inl x)) here.walking.tally in (
        record {
          low = taken-begun.low;
          high = taken-begun.high;
          narrow = s.columns.narrow;
          few = s.columns.few;
          fits = fits;
          so_far = so-far-start m R W adding j taken-begun.low taken-begun.high tally;
        },
        omega (arith, taken-begun.room.low, taken-begun.room.long),
      )

  -- the mark says whether a batch column starts at j
  pub seeking-bits : (i : ℕ) → 1 ≤ i → i ≤ length W → start_of W i ≡ j → mark_at m wb j % 4 ≡ 2
  seeking-bits i x y g = ap (λ (v : ℕ). mark_at m wb v % 4) (sym g) ∙ taken-begun.marks.bit i x y (omega arith)

  pub turning-from : {w' : List ℕ} {n : ℕ} → Started m R W adding wb w' n j → Turning next work₀ w' m flags R W adding free n j f l c k used avail
  turning-from {w'} a =
      let nums : Numbers next w m R W adding free j f l c k used avail = here.numbers in
      let r : region w' (8 * m) used ≡ region w (8 * m) used =
      region-same w w' (8 * m) used (a.only.same_length ∙ long-b) (λ i x. a.only.outside (8 * m + i) (inr (omega arith)) ∙ same-past (8 * m + i) (inr (omega arith))) in
      record {
        begun = begun-counted taken-begun a.only within;
        so_far = a.so_far;
        numbers = record {
          first-is = nums.first-is;
          last-is = nums.last-is;
          count-is = nums.count-is;
          entries-is = nums.entries-is;
          linked = nums.linked;
          taken = ap (λ (x : List ℕ). of_kind 1 x + length (chain next avail)) r ∙ nums.taken;
          room = nums.room;
          grown = λ x. omega (arith, nums.grown x, ap (of_kind 1) r);
        };
      }

-- ---- each turn ends the walk or leaves fewer rows

-- how many rows are left after the last touched column, 0 where the walk ended
abbrev pub rows_left : (m : ℕ) (fits : Bool) (last : ℕ) → ℕ
rows_left m fits l = pick fits (suc m - l) 0

pub rows-fewer : {m l l' j used : ℕ} {w w' : List ℕ} (ok ok' : Bool) → ok ≡ true → Taken m w w' l used j → j ≢ 0 → (ok' ≡ true → l' ≡ j) → rows_left m ok' l' < rows_left m ok l
rows-fewer ok true h t z e = rw h (omega (arith, t.next.found z, e refl))
rows-fewer ok false h t z e = rw h (omega (arith, t.next.found z))
