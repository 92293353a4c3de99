-- The queues of j emptied in its turn: opened into a local head (`turn-open`), a handled child passed on (`turn-child`: B or C) or taken out (`turn-lost`:
-- D); the chain from the local head gets shorter (`drained-less`). Assumes nothing.
use mathlib.Core.Path.{◌≡◌, refl, sym, ap, ◌∙◌, subst}
use mathlib.Core.Logic.{◌⊎◌, inl, inr, ◌≢◌}
use mathlib.Core.Bool.{Bool, true, ◌&&◌, not}
use mathlib.Core.List.{List}
use Prim.Native.Nat.{ℕ, suc, ◌+◌, ◌-◌, ◌*◌, ◌≤◌, ◌<◌}
use native.Mathlib.Omega.{arith}
use lib.Dec.{eqb}
use lib.ListN.{length, get_or, set, length-set}
use lib.Seq.{get_or-set_same, get_or-set_other, set-set}
use borrow.Author.Tests.{eqb-false, ne_eqb, not-true}
use Rattle.lists.specs.Lists.{pick, one, among, count, Mem}
use Rattle.lists.proofs.Tests.{cases, both_ways, one-pos, pos-one, and_both}
use Rattle.lists.proofs.Times.{mem-times, times-mem, among-count, UpTo}
use Rattle.lists.proofs.Member.{among-mem, mem-among}
use Rattle.lists.proofs.Count.{count-ext, count_at}
use Rattle.symbolic.specs.Columns.{Column}
use Rattle.symbolic.specs.Batch.{is_touched}
use Rattle.workspace.specs.Regions.{cell, Outside, OnlyIn}
use Rattle.workspace.specs.Layout.{children_at}
use Rattle.pool.specs.Chains.{chain}
use Rattle.pool.proofs.Chains.{linked-chain, linked-once, linked-in}
use Rattle.updown.specs.Plans.{InPlan}
use Rattle.updown.specs.Marks.{queued, passed_on}
use Rattle.updown.specs.Queues.{links, Queue, Queues}
use Rattle.updown.specs.Turns.{larger, before, after, tree_parent, other_parent, label_at, done, standing, PlansTo, waiting}
use Rattle.updown.specs.SoFar.{also}
use Rattle.updown.specs.Walks.{Turn, Still, AtChild, Handled}
use Rattle.updown.proofs.Queueing.{queue-frame, queue-first, links-length, link-frame, queues-ext, queues-frame, queues-open, local-open, local-first, queues-pop, local-pop, queued-length, queued-other, queues-push, local-push, moved, moved-self, moved_other, moved-again}
use Rattle.updown.proofs.Plans.{in-touched, plans-frame}
use Rattle.updown.proofs.Standing.{never_here, waits-child, moves-child, moves-lost, other-above, waiting-also}
use Rattle.updown.proofs.Turning.{so-far-frame, plan-places}
use Rattle.updown.proofs.AtChild.{child-fresh}

-- queue h is emptied, from cur on
pub record Drain (m : ℕ) (work : List ℕ) (h cur : ℕ) (place : ℕ → ℕ) : Type 0 where
  pub here : Queue (links m work) cur (λ c. eqb (place c) h)
  pub empty : cell work (children_at m) (h - 1) ≡ 0

-- ---- how many wait

queue-length : (ns : List ℕ) (h : ℕ) (f : ℕ → Bool) → Queue ns h f → length (chain ns h) ≡ count f (length ns)
queue-length ns h f q =
    let e : chain ns h ≡ q.members = linked-chain ns h q.members q.linked in
    let u : UpTo (length ns) q.members = linked-in ns h q.members q.linked in
    ap length e ∙ sym (among-count (length ns) q.members (linked-once ns h q.members q.linked) u) ∙
    count-ext (λ c. among c q.members) f (length ns) (λ c a b. both_ways (among c q.members) (f c)
    (λ t. one-pos (f c) (omega (arith, q.holds c a b, mem-times (among-mem c q.members t))))
    (λ t. mem-among (times-mem c q.members (omega (arith, q.holds c a b, pos-one (f c) t)))))

-- one column that leaves makes the chain shorter
drain-less : (m : ℕ) (w w' : List ℕ) → 8 * m ≤ length w → length w' ≡ length w → (h c d : ℕ) (place place' : ℕ → ℕ) → Drain m w h c place → c ≢ 0 → place' c ≢ h →
    ((x : ℕ) → x ≢ c → place' x ≡ place x) → Drain m w' h d place' → length (chain (links m w') d) < length (chain (links m w) c)
drain-less m w w' l l' h c d place place' r n k e s =
    let t : (1 ≤ c) × (c ≤ length (links m w)) × (eqb (place c) h ≡ true) = queue-first n r.here in
    let p : length (links m w) ≡ m = links-length m w l in
    let p' : length (links m w') ≡ m = links-length m w' (omega arith) in
    let f : ℕ → Bool = λ x. eqb (place x) h in
    let g : ℕ → Bool = λ x. eqb (place' x) h in
    omega (
      arith,
      queue-length (links m w) c f r.here,
      queue-length (links m w') d g s.here,
      ap (count f) p,
      ap (count g) p',
      count_at f g m c t.0 (omega arith) (λ x _ _ o. ap (λ (z : ℕ). eqb z h) (sym (e x o))),
      ap one t.2,
      ap one (ne_eqb (place' c) h k),
    )

-- ---- what a change of some places leaves of a turn

module _ {m : ℕ} {R W : List Column} {adding : Bool} {w : List ℕ} {j used n except : ℕ} {H : ℕ → Bool} (t : Turn m R W adding w j used n except H) where
  wide : 8 * m ≤ length w
  wide = omega (arith, t.long)

  -- the plans stay, where only queues, links and differences change
  plans-stay : (w' : List ℕ) → length w' ≡ length w → ((k : ℕ) → 3 * m ≤ k → Outside (6 * m) (2 * m) k → k ≢ 5 * m + (j - 1) → get_or w' k 0 ≡ get_or w k 0) →
      PlansTo m (before adding m R W) (after adding m R W) (label_at m R W) w' (done m R W j) 0 j used
  plans-stay w' l h =
      plans-frame m (before adding m R W) (after adding m R W) (label_at m R W) w w' l (done m R W j) 0 j used t.plans (λ k i.
      let p : (3 * m ≤ k) × ((k < 6 * m) ⊎ (8 * m ≤ k)) = plan-places m R W j used (omega (arith, t.high)) k i in
      h k p.0 (elim p.1 [ inl x ↦ inl x | inr x ↦ inr (omega arith) ]) (away k i))
    where
      use-touched : {c : ℕ} → Mem c (done m R W j) → (1 ≤ c) × (c < j)
      use-touched {c} x = let v : (1 ≤ c) × (c < 1 + (j - 1)) × (is_touched (larger m R W) W c ≡ true) = in-touched (larger m R W) W 1 (j - 1) c x in omega (arith, t.low)

      away : (k : ℕ) → InPlan m used (done m R W j) k → k ≢ 5 * m + (j - 1)
      away k (inr x) e = omega (arith, t.low, t.high)
      away k (inl x) e =
          let v : (1 ≤ x.0) × (x.0 < j) = use-touched x.1.0 in
          elim x.1.1 [
            | inl y ↦ omega (arith, t.high)
            | inr (inl y) ↦ omega (arith, t.high)
            | inr (inr y) ↦ omega arith
          ]

-- ---- opened

module _ {m : ℕ} {R W : List Column} {adding : Bool} {w : List ℕ} {j used n : ℕ} {H : ℕ → Bool} (t : Turn m R W adding w j used n 0 H) (h : ℕ) (side : (h ≡ j) ⊎ (h ≡ m + j)) where
  range : (j ≤ h) × (h ≤ 2 * m)
  range = elim side [ inl e ↦ omega (arith, t.high) | inr e ↦ omega (arith, t.high) ]

  pub opened-still : Still m j w (set w (5 * m + (h - 1)) 0)
  opened-still k a b d =
      get_or-set_other w (5 * m + (h - 1)) k 0 0 (λ e. elim side [
        | inl x ↦ d (omega arith)
        | inr x ↦ elim b [ inl y ↦ omega (arith, t.low) | inr y ↦ omega (arith, t.high) ]
      ])

  pub turn-open : Turn m R W adding (set w (5 * m + (h - 1)) 0) j used n h H
  turn-open =
      let l : length (set w (5 * m + (h - 1)) 0) ≡ length w = length-set w (5 * m + (h - 1)) 0 in
      record {
        low = t.low;
        high = t.high;
        long = omega (arith, t.long);
        plans = plans-stay t (set w (5 * m + (h - 1)) 0) l opened-still;
        starts = get_or-set_other w (5 * m + (h - 1)) (4 * m + (j - 1)) 0 0 (omega (arith, range, t.low, t.high)) ∙ t.starts;
        queues = queues-open m w (wide t) t.queues t.low h range.0 range.1;
        so_far = so-far-frame l (λ k x. get_or-set_other w (5 * m + (h - 1)) k 0 0 (omega arith)) t.low t.high t.so_far;
      }

  pub drain-open : Drain m (set w (5 * m + (h - 1)) 0) h (cell w (5 * m) (h - 1)) (waiting m R W j H)
  drain-open =
      record {
        here = local-open m w (wide t) t.queues t.low h range.0 range.1;
        empty = get_or-set_same w (5 * m + (h - 1)) 0 0 (omega (arith, range, t.low, t.long));
      }

-- ---- one column out of a queue of j

-- the next column in the queue
pub drain-child : {m : ℕ} {R W : List Column} {adding : Bool} {w : List ℕ} {j used n h c : ℕ} {H : ℕ → Bool} → m ≤ 4096 → length R + length W ≤ 60000 →
    Turn m R W adding w j used n h H → Drain m w h c (waiting m R W j H) → c ≢ 0 → (h ≡ j) ⊎ (h ≡ m + j) → AtChild w m R W adding j used n h c H
drain-child {m} {R} {W} {w = w} {j} {h = h} {c} {H} narrow few t d s side =
    let f : (1 ≤ c) × (c ≤ m) × (waiting m R W j H c ≡ h) =
    local-first m w (wide t) t.queues c s d.here t.low (elim side [ inl e ↦ omega (arith, t.low) | inr e ↦ omega (arith, t.low) ]) in
    record { narrow = narrow; few = few; turn = t; low = f.0; high = f.1; waits = f.2 }

-- what the steps of a queue's emptying carry along
pub record Drained (m : ℕ) (R W : List Column) (adding : Bool) (w w' : List ℕ) (j used n h c cur : ℕ) (handled : ℕ → Bool) : Type 0 where
  pub turn : Turn m R W adding w' j used n h (also handled c)
  pub drain : Drain m w' h cur (waiting m R W j (also handled c))
  pub same_length : length w' ≡ length w
  pub still : Still m j w w'

module _ {m : ℕ} {R W : List Column} {adding : Bool} {w : List ℕ} {j used n h c : ℕ} {H : ℕ → Bool} (a : AtChild w m R W adding j used n h c H)
    (side : (h ≡ j) ⊎ (h ≡ m + j)) (d : Drain m w h c (waiting m R W j H)) where
  abbrev t : Turn m R W adding w j used n h H
  t = a.turn

  abbrev place : ℕ → ℕ
  place = waiting m R W j H

  abbrev target : ℕ
  target = standing m R W (suc j) c

  head-range : (1 ≤ h) × (5 * m + (h - 1) < 7 * m)
  head-range = elim side [ inl e ↦ omega (arith, t.low, t.high) | inr e ↦ omega (arith, t.low, t.high) ]

  some : c ≢ 0
  some = omega (arith, a.low)

  target-away : target ≢ h
  target-away e =
      let n : (target ≢ j) × (target ≢ m + j) = never_here m R W j t.low t.high c a.low a.high in
      elim side [ inl x ↦ n.0 (e ∙ x) | inr x ↦ n.1 (e ∙ x) ]

  -- handled, then taken out of its queue and, where it has another parent to come, put into that one's
  module _ {w₁ : List ℕ} {n' : ℕ} (b : Handled m R W adding w w₁ n' j c H) (w₂ : List ℕ) (l : length w₂ ≡ length w₁) (h₂ : (k : ℕ) → Outside (6 * m) (2 * m) k → get_or w₂ k 0 ≡ get_or w₁ k 0)
      (place' : ℕ → ℕ) (goes : (x : ℕ) → moved place c target x ≡ place' x) (q : Queues m w₂ j h place') {cur : ℕ} (r : Queue (links m w₂) cur (λ x. eqb (place' x) h))
      (e₂ : cell w₂ (5 * m) (h - 1) ≡ 0) where
    long_same : length w₂ ≡ length w
    long_same = l ∙ b.only.same_length

    all-still : Still m j w w₂
    all-still k x y e = h₂ k y ∙ b.only.outside k (inr (omega arith))

    now : (x : ℕ) → waiting m R W j (also H c) x ≡ place' x
    now x = waiting-also m R W j t.low t.high H c x ∙ goes x

    step-made : Drained m R W adding w w₂ j used n' h c cur H
    step-made =
        record {
          turn = record {
            low = t.low;
            high = t.high;
            long = omega (arith, t.long, long_same);
            plans = plans-stay t w₂ long_same all-still;
            starts = all-still (4 * m + (j - 1)) (omega arith) (inl (omega (arith, t.low, t.high))) (omega (arith, t.low, t.high)) ∙ t.starts;
            queues = queues-ext (omega (arith, wide t, long_same)) q (λ x _ _. now x);
            so_far = so-far-frame l (λ k x. h₂ k (inl (omega arith))) t.low t.high b.so_far;
          };
          drain = record {
            here = queue-frame r refl (λ x _ _ _. refl) (λ x _ _. ap (λ (y : ℕ). eqb y h) (now x));
            empty = e₂;
          };
          same_length = long_same;
          still = all-still;
        }

  -- the queues after the differences changed
  module _ {w₁ : List ℕ} {n' : ℕ} (b : Handled m R W adding w w₁ n' j c H) where
    abbrev only : OnlyIn 0 (3 * m) w w₁
    only = b.only

    long₁ : 8 * m ≤ length w₁
    long₁ = omega (arith, wide t, only.same_length)

    queues₁ : Queues m w₁ j h place
    queues₁ = queues-frame m w w₁ (wide t) only.same_length t.queues t.low (omega (arith, t.high)) (λ k u v. only.outside k (inr (omega arith)))

    here₁ : Queue (links m w₁) c (λ x. eqb (place x) h)
    here₁ =
        link-frame m w w₁ (wide t) only.same_length d.here refl
        (λ x _ _ _. only.outside (7 * m + (x - 1)) (inr (omega arith))) (λ x _ _. refl)

    abbrev popped : List ℕ
    popped = set w₁ (7 * m + (c - 1)) 0

    popped-still : (k : ℕ) → Outside (6 * m) (2 * m) k → get_or popped k 0 ≡ get_or w₁ k 0
    popped-still k o = get_or-set_other w₁ (7 * m + (c - 1)) k 0 0 (λ e. elim o [ inl y ↦ omega arith | inr y ↦ omega (arith, a.low, a.high) ])

    popped-empty : cell popped (5 * m) (h - 1) ≡ 0
    popped-empty = get_or-set_other w₁ (7 * m + (c - 1)) (5 * m + (h - 1)) 0 0 (omega (arith, head-range)) ∙ only.outside (5 * m + (h - 1)) (inr (omega arith)) ∙ d.empty

    popped-queues : Queues m popped j h (moved place c 0)
    popped-queues = queues-pop m w₁ long₁ queues₁ c some here₁ t.low head-range.0

    popped-here : Queue (links m popped) (cell w₁ (7 * m) (c - 1)) (λ x. eqb (moved place c 0 x) h)
    popped-here = local-pop m w₁ long₁ queues₁ c some here₁ t.low head-range.0

    -- out of the queue alone
    step-pop : target ≡ 0 → Drained m R W adding w popped j used n' h c (cell w₁ (7 * m) (c - 1)) H
    step-pop z =
        step-made b popped (length-set w₁ (7 * m + (c - 1)) 0) popped-still (moved place c 0) (λ x. ap (λ (y : ℕ). moved place c y x) z) popped-queues popped-here popped-empty

    -- and into that of the other parent
    module _ (o : ℕ) (p : j < o) (p' : o ≤ m) where
      pushing-is : queued m popped c (m + o) ≡ set (set w₁ (7 * m + (c - 1)) (cell w₁ (6 * m) (o - 1))) (6 * m + (o - 1)) c
      pushing-is =
          let i : 5 * m + (m + o - 1) ≡ 6 * m + (o - 1) = omega arith in
          ap (λ (y : ℕ). set (set popped (7 * m + (c - 1)) (get_or popped y 0)) y c) i ∙
          ap (λ (y : ℕ). set (set popped (7 * m + (c - 1)) y) (6 * m + (o - 1)) c) (get_or-set_other w₁ (7 * m + (c - 1)) (6 * m + (o - 1)) 0 0 (omega arith)) ∙
          ap (λ (y : List ℕ). set y (6 * m + (o - 1)) c) (set-set w₁ (7 * m + (c - 1)) 0 (cell w₁ (6 * m) (o - 1)))

      step_push : target ≡ m + o → Drained m R W adding w (set (set w₁ (7 * m + (c - 1)) (cell w₁ (6 * m) (o - 1))) (6 * m + (o - 1)) c) j used n' h c (cell w₁ (7 * m) (c - 1)) H
      step_push z =
          let ne : m + o ≢ h = λ e. elim side [ inl y ↦ omega (arith, t.high) | inr y ↦ omega arith ] in
          let l : 8 * m ≤ length popped = omega (arith, long₁, length-set w₁ (7 * m + (c - 1)) 0) in
          let none : moved place c 0 c ≡ 0 = moved-self place c 0 in
          subst (λ (v : List ℕ). Drained m R W adding w v j used n' h c (cell w₁ (7 * m) (c - 1)) H) pushing-is
          (step-made b (queued m popped c (m + o)) (queued-length m popped c (m + o) ∙ length-set w₁ (7 * m + (c - 1)) 0)
          (λ k u. queued-other m popped c (m + o) k (λ y. elim u [ inl v ↦ omega arith | inr v ↦ omega (arith, a.low, a.high) ]) (λ y. elim u [ inl v ↦ omega arith | inr v ↦ omega arith ]) ∙ popped-still k u)
          (moved (moved place c 0) c (m + o)) (λ x. ap (λ (y : ℕ). moved place c y x) z ∙ moved-again place c 0 (m + o) x)
          (queues-push m popped l popped-queues c (m + o) a.low a.high none t.low (omega (arith, t.high)) (omega arith) ne)
          (local-push m popped l popped-queues c (m + o) a.low a.high none t.low (omega (arith, t.high)) (omega arith) ne head-range.0 popped-here)
          (queued-other m popped c (m + o) (5 * m + (h - 1)) (omega (arith, head-range)) (omega (arith, head-range, ne)) ∙ popped-empty))

    -- B and C: what pass_on stores
    pub turn-child : h ≡ j → Drained m R W adding w (passed_on m w₁ c j (other_parent m R c)) j used n' h c (cell w₁ (7 * m) (c - 1)) H
    turn-child e =
        let o : ℕ = other_parent m R c in
        let g : Bool = not (eqb o j) && not (eqb o 0) in
        let k : target ≡ pick g (m + o) 0 = moves-child m R W j t.low t.high c a.low a.high ((child-fresh a side).1 ∙ e) in
        elim (cases g) [
          | inl x ↦
              let v : (not (eqb o j) ≡ true) × (not (eqb o 0) ≡ true) = and_both (not (eqb o j)) (not (eqb o 0)) x in
              let o≢j : o ≢ j = eqb-false o j (not-true (eqb o j) v.0) in
              let o≢0 : o ≢ 0 = eqb-false o 0 (not-true (eqb o 0) v.1) in
              let u : (0 < tree_parent m R W c) × (tree_parent m R W c ≤ o) × (c < o) × (o ≤ m) = other-above m R W c a.low a.high (omega arith) in
              let y : (is_touched (larger m R W) W c ≡ true) × (c < j) × (tree_parent m R W c ≡ j) = waits-child m R W j t.low t.high c ((child-fresh a side).1 ∙ e) in
              rw x (step_push o (omega arith) u.3 (k ∙ rw x refl))
          | inr x ↦ rw x (step-pop (k ∙ rw x refl))
        ]

    -- D
    pub turn-lost : h ≡ m + j → Drained m R W adding w popped j used n' h c (cell w₁ (7 * m) (c - 1)) H
    turn-lost e = step-pop (moves-lost m R W j t.low t.high c a.low a.high ((child-fresh a side).1 ∙ e))

  -- the chain gets shorter
  pub drained-less : {w₂ : List ℕ} {n' cur : ℕ} → Drained m R W adding w w₂ j used n' h c cur H → length (chain (links m w₂) cur) < length (chain (links m w) c)
  drained-less {w₂} {cur = cur} s =
      let v : (x : ℕ) → waiting m R W j (also H c) x ≡ moved place c target x = waiting-also m R W j t.low t.high H c in
      drain-less m w w₂ (wide t) s.same_length h c cur place (waiting m R W j (also H c)) d some (λ e. target-away (sym (moved-self place c target) ∙ sym (v c) ∙ e))
      (λ x n. v x ∙ moved_other place c target x n) s.drain
