-- The whole walk: what is cleared, what progress is made, and that nothing else changed; a turn that plans the next listed row, a turn once the plan does not
-- fit, and the end, where the rest of the chain is counted. Assumes nothing.
use mathlib.Core.Path.{◌≡◌, refl, sym, ap, subst, ◌∙◌}
use mathlib.Core.Logic.{inl, inr, ◌≢◌}
use mathlib.Core.Bool.{true, false, true≢false}
use mathlib.Core.List.{List, []}
use Prim.Native.Nat.{ℕ, suc, ◌+◌, ◌-◌, ◌*◌, ◌≤◌, ◌<◌, max}
use native.Mathlib.Omega.{arith}
use lib.Dec.{eqb}
use lib.ListN.{length, get_or, drop, set, length-append, length-drop}
use borrow.Author.Tests.{ne_eqb, le-leb, lt-leb}
use Rattle.lists.specs.Lists.{Mem, at, values_at}
use Rattle.lists.proofs.Tests.{cases}
use Rattle.lists.proofs.Member.{mem-left}
use Rattle.lists.proofs.Place.{values-append, values_length}
use Rattle.lists.proofs.Rising.{rises-in}
use Rattle.symbolic.specs.Factor.{pattern_from}
use Rattle.symbolic.proofs.Patterns.{pattern-rises, pattern-short}
use Rattle.workspace.specs.Regions.{cell, Outside}
use Rattle.workspace.proofs.Regions.{region-ext}
use Rattle.pool.specs.Chains.{chain}
use Rattle.pool.proofs.Chains.{linked-head}
use Rattle.columns.specs.Plan.{of_kind}
use Rattle.differences.specs.Tally.{base, shifted, difference_at}
use Rattle.differences.specs.Gather.{plan_part}
use Rattle.differences.proofs.Parts.{part_none}
use Rattle.emission.specs.Plans.{plan_from}
use Rattle.emission.specs.Walks.{CanPass, Passed, stored_at, counting, advanced, CanPlan, Planned, same, stored, fresh, spent}
use Rattle.emission.specs.Emit.{CanEmit, Plan, Emitted}
use Rattle.emission.specs.declared.Walk.{Walk}
use Rattle.emission.specs.declared.Emission.{Emission}
use Rattle.emission.proofs.Plans.{plan-suits, plan-becomes, kind-none}
use Rattle.emission.proofs.Left.{left-start, left_end}
use Rattle.emission.proofs.Clearing.{Clearing, clearing-start, between, beyond, row_is, row_low, row-high, row-above, place_is, place-some, after-past, clearing-next, clearing-frame, clearing-done}
use Rattle.emission.proofs.Turning.{Fields, fields, Going, Progress, Turned, going-short, going-pass}
use Rattle.emission.proofs.Planning.{value-is, turn_inside, turn-plan, planned-turned}

pub record Emitting (rows counts next w₀ : List ℕ) (m n j used avail : ℕ) (old new : List ℕ) (w : List ℕ) (walk : Walk) (i : ℕ) : Type 0 where
  pub row : ℕ
  pub clearing : Clearing m w₀ n w i row
  pub progress : Progress rows counts next m j used avail old new row w walk
  pub frame : (k : ℕ) → 2 * m ≤ k → Outside (8 * m + used) (walk.used - used) k → get_or w k 0 ≡ get_or w₀ k 0

-- the plan that was made does not depend on the rest of the table
going-table : {rows counts next : List ℕ} {m j used avail : ℕ} {old new : List ℕ} {t : ℕ} {w x : List ℕ} {walk : Walk} → Going rows counts next m j used avail old new t w walk →
    plan_part m x used walk.used ≡ plan_part m w used walk.used → Going rows counts next m j used avail old new t x walk
going-table g e =
    record {
      left = rw e g.left;
      linked = g.linked;
      free = g.free;
      taken = g.taken;
      parts = g.parts;
      taken-size = rw e g.taken-size;
      used_low = g.used_low;
      behind = g.behind;
      room = g.room;
    }

module _ {rows counts next w₀ : List ℕ} {m n j head used avail : ℕ} {old new : List ℕ} (can : CanEmit rows counts next w₀ m n j head used avail old new) where
  chain-short : length (chain next head) ≡ length (pattern_from 1 old)
  chain-short = sym (values_length rows (chain next head)) ∙ ap length can.old-rows

  abbrev first_walk : Walk
  first_walk = record { at = record { 0 = head }; behind = 0; used = used; size = 0; parent = record { 0 = 0 }; avail = record { 0 = avail }; fits = true }

  start-going : Going rows counts next m j used avail old new 0 w₀ first_walk
  start-going =
      let none : plan_part m w₀ used used ≡ [] = part_none m w₀ used in
      record {
        left = rw none (left-start (chain next head) can.old-rows can.old-counts);
        linked = can.linked;
        free = can.free;
        taken = [];
        parts = refl;
        taken-size = sym (ap (of_kind 1) none ∙ kind-none 1);
        used_low = omega arith;
        behind = omega (arith, chain-short);
        room = omega (arith, chain-short, can.room);
      }

  pub emitting-start : Emitting rows counts next w₀ m n j used avail old new w₀ first_walk 0
  emitting-start =
      record {
        row = 0;
        clearing = clearing-start can.tally;
        progress = record {
          linked = can.linked;
          small = omega (arith, going-short can start-going);
          behind = start-going.behind;
          used_low = omega arith;
          used_high = omega (arith, can.room);
          going = λ e. start-going;
          short = λ e. absurd (true≢false e);
        };
        frame = λ k a b. refl;
      }

  module _ {w : List ℕ} {walk : Walk} {i : ℕ} (g : Emitting rows counts next w₀ m n j used avail old new w walk i) where
    pub emitting-length : length w ≡ length w₀
    emitting-length = g.clearing.same_length

    -- the records to come can be passed over
    pub emitting-pass : CanPass rows next walk
    emitting-pass = record { linked = g.progress.linked; rows_long = can.rows_long; small = g.progress.small; behind-small = behind-short }
      where
        behind-short : walk.behind + length (chain next walk.at.0) < 4294967296
        behind-short = omega (arith, g.progress.behind, pattern-short 1 old, can.old-long, can.narrow)

    module _ (h : i < n) where
      abbrev row_here : ℕ
      row_here = cell w m i

      pub row-some : 1 ≤ row_here
      row-some = row_low can.tally g.clearing h

      pub row_within : row_here ≤ m
      row_within = row-high can.tally g.clearing h

      -- its places cleared
      abbrev bare : List ℕ
      bare = set (set w (row_here - 1) 0) (m + i) 0

      bare-clearing : Clearing m w₀ n bare (i + 1) row_here
      bare-clearing = clearing-next can.tally g.clearing h

      bare-plan : plan_part m bare used walk.used ≡ plan_part m w used walk.used
      bare-plan =
          region-ext w bare (8 * m + used) (8 * m + used) (walk.used - used) (omega (arith, emitting-length, can.plan-long, g.progress.used_low, g.progress.used_high))
          (omega (arith, bare-clearing.same_length, can.plan-long, g.progress.used_low, g.progress.used_high))
          (λ k l. after-past can.tally g.clearing h (8 * m + used + k) (omega arith))

      -- the plan does not fit: the row is only cleared
      pub emitting-skip : walk.fits ≡ false → Emitting rows counts next w₀ m n j used avail old new bare walk (i + 1)
      emitting-skip z =
          record {
            row = row_here;
            clearing = bare-clearing;
            progress = record {
              linked = g.progress.linked;
              small = g.progress.small;
              behind = g.progress.behind;
              used_low = g.progress.used_low;
              used_high = g.progress.used_high;
              going = λ e. absurd (true≢false (sym e ∙ z));
              short = g.progress.short;
            };
            frame = λ k a b. after-past can.tally g.clearing h k a ∙ g.frame k a b;
          }

      -- it fits: rows before this one do not change
      module _ (y : walk.fits ≡ true) {next-walk : Walk} (p : Passed rows next j row_here walk next-walk) where
        abbrev s : ℕ
        s = row_here - 1

        s-is : suc s ≡ row_here
        s-is = omega (arith, row-some)

        untouched : (u : ℕ) → g.row ≤ u → u < s → get_or old u 0 ≡ get_or new u 0
        untouched u a b =
            let e : suc u - 1 ≡ u = omega arith in
            let z : at w₀ (suc u) ≡ 0 = between can.tally g.clearing h (suc u) (omega arith) (omega (arith, row_is can.tally g.clearing h)) in
            let d : difference_at w₀ (suc u) ≡ base = rw z refl in
            omega (arith, can.moved (suc u) (omega arith) (omega (arith, row_within)), d, ap (λ (k : ℕ). get_or old k 0) e, ap (λ (k : ℕ). get_or new k 0) e)

        passed-going : Going rows counts next m j used avail old new s bare next-walk
        passed-going =
            going-pass can (going-table (g.progress.going y) bare-plan) p s (omega (arith, row-above can.tally g.clearing h)) (omega (arith, row_within))
            (omega (arith, row-some)) (λ k a b. omega arith) untouched

        in_rows : s < m
        in_rows = omega (arith, row-some, row_within)

        pub old_value : stored_at rows counts next-walk.at.0 row_here ≡ get_or old s 0
        old_value = ap (stored_at rows counts next-walk.at.0) (sym s-is) ∙ value-is can passed-going in_rows

        -- the difference makes the new one of the old one
        pub new-value : get_or new s 0 + base ≡ get_or old s 0 + at w row_here
        new-value =
            let d : difference_at w₀ row_here ≡ at w row_here =
            ap shifted (sym (place_is can.tally g.clearing h)) ∙ itself (at w row_here) (place-some can.tally g.clearing h) in
            omega (arith, can.moved row_here row-some row_within, d)
          where
            itself : (x : ℕ) → x ≢ 0 → shifted x ≡ x
            itself x q = rw (ne_eqb x 0 q) refl

        pub new-fits : get_or new s 0 < 65536
        new-fits = can.small row_here

        pub walk_inside : next-walk.at.0 ≤ length next
        walk_inside = linked-head next next-walk.at.0 (chain next next-walk.at.0) p.linked

        -- a row that was there has a record at hand, and there are few behind it
        pub record-inside : get_or old s 0 ≢ 0 → (1 ≤ next-walk.at.0) × (next-walk.at.0 ≤ length next) × (next-walk.behind < 4294967295)
        record-inside z =
            let t : (1 ≤ next-walk.at.0) × (next-walk.at.0 ≤ length next) = turn_inside can passed-going in_rows z in
            (t.0, t.1, omega (arith, passed-going.behind, pattern-short 1 old, can.old-long, can.narrow))

        pub advanced-small : (o : ℕ) → (advanced next o next-walk).size < 4294967295
        advanced-small o =
            elim (cases (eqb o 0)) [
              | inl q ↦ rw q (omega (arith, going-short can passed-going))
              | inr q ↦ rw q (omega (arith, going-short can passed-going))
            ]

        -- what the code computed is these
        module _ {o o' : ℕ} {on v : Walk} (a : o ≡ stored_at rows counts next-walk.at.0 row_here) (b : o' ≡ o + at w row_here - base)
            (on-is : on ≡ advanced next o next-walk) (c : v ≡ counting j row_here o' on) where
          o_is : o ≡ get_or old s 0
          o_is = a ∙ old_value

          o'-is : o' ≡ get_or new s 0
          o'-is = omega (arith, b, o_is, new-value)

          v-fields : Fields next j (suc s) (get_or old s 0) (get_or new s 0) next-walk v
          v-fields =
              let x : ℕ = get_or old s 0 in
              let x' : ℕ = get_or new s 0 in
              let v-is : v ≡ counting j (suc s) x' (advanced next x next-walk) =
              c ∙ ap (λ (x : Walk). counting j row_here o' x) on-is ∙ ap (λ (r : ℕ). counting j r o' (advanced next o next-walk)) (sym s-is) ∙ ap (λ (k : ℕ). counting j (suc s) k (advanced next o next-walk)) o'-is ∙
              ap (λ (k : ℕ). counting j (suc s) x' (advanced next k next-walk)) o_is in
              subst (λ (z : Walk). Fields next j (suc s) x x' next-walk z) (sym v-is) (fields next j (suc s) x x' next-walk)

          bare-long : 8 * m + length next ≤ length bare
          bare-long = omega (arith, bare-clearing.same_length, can.plan-long)

          pub emitting-plan : CanPlan next bare m row_here o o' v
          emitting-plan =
              subst (λ (r : ℕ). CanPlan next bare m r o o' v) s-is
              (rw (o_is, o'-is) (turn-plan can passed-going in_rows v-fields bare-long))

          pub emitting-turn : {u : List ℕ} {after : Walk} → Planned next bare m row_here o o' v u after → Emitting rows counts next w₀ m n j used avail old new u after (i + 1)
          emitting-turn {u} {after} q =
              let q₁ : Planned next bare m (suc s) (get_or old s 0) (get_or new s 0) v u after =
              subst (λ (r : ℕ). Planned next bare m r (get_or old s 0) (get_or new s 0) v u after) (sym s-is)
              (subst (λ (k : ℕ). Planned next bare m row_here (get_or old s 0) k v u after) o'-is
              (subst (λ (k : ℕ). Planned next bare m row_here k o' v u after) o_is q)) in
              let t : Turned rows counts next m j used avail old new (suc s) bare u after =
              planned-turned can passed-going in_rows v-fields bare-long (p.fits ∙ y) q₁ in
              record {
                row = row_here;
                clearing = clearing-frame can.tally bare-clearing u t.same_length (λ k l. t.frame k (inl (omega arith)));
                progress = subst (λ (r : ℕ). Progress rows counts next m j used avail old new r u after) s-is t.progress;
                frame = λ k l out. t.frame k out ∙ after-past can.tally g.clearing h k l ∙ g.frame k l (within k out (longer-used q₁));
              }
            where
              within : (k : ℕ) → Outside (8 * m + used) (after.used - used) k → walk.used ≤ after.used → Outside (8 * m + used) (walk.used - used) k
              within k out l = elim out [ inl x ↦ inl x | inr x ↦ inr (omega arith) ]

              longer-used : Planned next bare m (suc s) (get_or old s 0) (get_or new s 0) v u after → walk.used ≤ after.used
              longer-used (same x wx ax) = omega (arith, ap (λ (z : Walk). z.used) ax, v-fields.used-is, p.used)
              longer-used (stored x z wx ax) = omega (arith, ap (λ (z : Walk). z.used) ax, v-fields.used-is, p.used)
              longer-used (fresh x z q wx ax) = omega (arith, ap (λ (z : Walk). z.used) ax, v-fields.used-is, p.used)
              longer-used (spent x z q wx ax) = omega (arith, ap (λ (z : Walk). z.used) ax, v-fields.used-is, p.used)

    -- ---- the end

    module _ (h : n ≤ i) {last : Walk} (p : Passed rows next j 4097 walk last) {larger : ℕ} (larger-is : larger ≡ max last.behind last.size) where
      abbrev e : Emission
      e = record { fits = last.fits; used = last.used; larger = larger; parent = last.parent; avail = last.avail }

      -- the rest of the chain does not change
      last-going : walk.fits ≡ true → Going rows counts next m j used avail old new m w last
      last-going y =
          going-pass can (g.progress.going y) p m g.clearing.t-high (omega arith) (omega (arith, can.narrow))
          (λ k a b. omega (arith, top k b, length-drop t old, can.old-long, g.clearing.t-high)) rest-same
        where
          t : ℕ
          t = g.row

          top : (k : ℕ) → Mem k (values_at rows p.records) → k ≤ t + length (drop t old)
          top k q =
              (rises-in (suc t) (t + length (drop t old))
              (subst (λ (xs : List ℕ). Mem k xs) (sym (values-append rows p.records (chain next last.at.0)) ∙ ap (values_at rows) (sym p.parts) ∙ (g.progress.going y).left.rows_left)
              (mem-left (values_at rows (chain next last.at.0)) q)) (pattern-rises (suc t) (drop t old) (t + length (drop t old)) (omega arith))).1

          rest-same : (u : ℕ) → t ≤ u → u < m → get_or old u 0 ≡ get_or new u 0
          rest-same u a b =
              let q : suc u - 1 ≡ u = omega arith in
              let z : at w₀ (suc u) ≡ 0 = beyond can.tally g.clearing h (suc u) (omega arith) (omega arith) in
              let d : difference_at w₀ (suc u) ≡ base = rw z refl in
              omega (arith, can.moved (suc u) (omega arith) (omega arith), d, ap (λ (k : ℕ). get_or old k 0) q, ap (λ (k : ℕ). get_or new k 0) q)

      plan-made : last.fits ≡ true → Plan next m j used avail old new w e
      plan-made y =
          let l : Going rows counts next m j used avail old new m w last = last-going (sym p.fits ∙ y) in
          let d = left_end l.left (omega (arith, can.old-long)) (omega (arith, can.new-long)) in
          let small : (k : ℕ) → get_or new k 0 < 65536 = (λ k. let q : suc k - 1 ≡ k = omega arith in subst (λ (x : ℕ). get_or new x 0 < 65536) q (can.small (suc k))) in
          let same-long : length old ≡ length new = can.old-long ∙ sym can.new-long in
          let short : length old ≤ 4096 = omega (arith, can.old-long, can.narrow) in
          record {
            entries = d.plan-is;
            suits = rw d.plan-is (plan-suits old new same-long short small j (λ k a. below-zero k a));
            becomes = rw d.plan-is (plan-becomes old new same-long short small);
            larger = larger-is ∙ (λ i. max (all-behind l i) (d.size_is i));
            parent = d.parent_is;
            taken = l.taken;
            free-parts = l.parts;
            taken-size = l.taken-size;
            free = l.free;
          }
        where
          -- no record is left to come
          all-behind : Going rows counts next m j used avail old new m w last → last.behind ≡ length (pattern_from 1 old)
          all-behind l =
              omega (
                arith,
                l.behind,
                values_length rows (chain next last.at.0),
                ap length l.left.rows_left,
                pattern-short (suc m) (drop m old),
                length-drop m old,
                can.old-long,
              )

          below-zero : (k : ℕ) → suc k < j → (get_or old k 0 ≡ 0) × (get_or new k 0 ≡ 0)
          below-zero k a =
              let q : suc k - 1 ≡ k = omega arith in
              (ap (λ (x : ℕ). get_or old x 0) (sym q) ∙ (can.below (suc k) (omega arith) a).0, ap (λ (x : ℕ). get_or new x 0) (sym q) ∙ (can.below (suc k) (omega arith) a).1)

      pub emitting-done : Emitted next w₀ m j used avail old new w e
      emitting-done =
          record {
            tally = clearing-done can.tally g.clearing h
                (λ k l. g.frame (2 * m + k) (omega arith) (inl (omega arith)) ∙ can.tally.buffer k l);
            used_low = omega (arith, p.used, g.progress.used_low);
            used_high = omega (arith, p.used, g.progress.used_high);
            same_length = emitting-length;
            frame = λ k a b. g.frame k (elim a [ inl x ↦ absurd (omega arith) | inr x ↦ omega arith ])
                (subst (λ (x : ℕ). Outside (8 * m + used) (x - used) k) p.used b);
            fits = elim (cases last.fits) [
              | inl y ↦ y ∙ sym (le-leb (of_kind 1 (plan_from 1 old new)) (length (chain next avail)) (enough y))
              | inr y ↦ y ∙ sym (lt-leb (of_kind 1 (plan_from 1 old new)) (length (chain next avail)) (g.progress.short (sym p.fits ∙ y)))
            ];
            plan = plan-made;
          }
        where
          enough : last.fits ≡ true → of_kind 1 (plan_from 1 old new) ≤ length (chain next avail)
          enough y =
              let l : Plan next m j used avail old new w e = plan-made y in
              omega (arith, ap length l.free-parts, length-append l.taken (chain next last.avail.0), l.taken-size, ap (of_kind 1) l.entries)
