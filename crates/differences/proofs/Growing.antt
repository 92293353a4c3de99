-- Gathering a plan's rows of one kind, alone or together with the rows of a chain. Together, rows up to b stand in the buffer, those of the chain and of
-- the plan to come are above b, and each row is in one of the three as often as it is in the chain and the plan. Assumes nothing.
use mathlib.Core.Path.{◌≡◌, refl, sym, ap, subst, ◌∙◌}
use mathlib.Core.Logic.{inl, inr, ◌≢◌}
use mathlib.Core.Bool.{true, ◌||◌}
use mathlib.Core.List.{List, [], ◌∷◌, ◌++◌}
use Prim.Native.Nat.{ℕ, suc, ◌+◌, ◌-◌, ◌*◌, ◌≤◌, ◌<◌}
use native.Mathlib.Omega.{arith}
use lib.ListN.{length, set, length-append}
use Rattle.lists.specs.Lists.{Mem, among, times, at, values_at, rises}
use Rattle.lists.proofs.Tests.{lt-or-le, zero-or-pos}
use Rattle.lists.proofs.Member.{mem-either, mem-among}
use Rattle.lists.proofs.Times.{times-nil, times-append, times-cons, times-self, mem-times, times-mem, among-some, none-among, once-length}
use Rattle.lists.proofs.Rising.{rises-in}
use Rattle.workspace.specs.Regions.{cell, region}
use Rattle.workspace.specs.Planned.{row_of}
use Rattle.workspace.proofs.Regions.{zero-part}
use Rattle.workspace.proofs.Planned.{row-bounds}
use Rattle.pool.specs.Chains.{chain, Linked}
use Rattle.differences.specs.Gather.{rows_in, rows_of_kind, plan_part, CanGather, PlanRises, CanGrow, Gathered, Gathering, CanReach, Reached}
use Rattle.differences.proofs.Rows.{Front, rises-front, rises-nil, rises-cons, rises-within, rises-join, rises-left, rises-right, rises-once, among-sum}
use Rattle.differences.proofs.Chain.{Onward, chain-onward, chain-over}
use Rattle.differences.proofs.Parts.{part_join, rows_append, kind-append, kind_row, kind-rises, part-above}
use Rattle.differences.proofs.Gather.{gathering-start, gathering-push, gathering-done, gathering-cell, gathering-part, gathering-trans, list-room}
use Rattle.differences.proofs.Following.{values-front, values-none}

-- no row is above 4,096, so a part passed up to 4,097 is passed whole
pub reached-all : {m : ℕ} {w x : List ℕ} {k from to kind l stop : ℕ} → Reached m w x k from to kind 4097 l stop → stop ≡ to
reached-all {m} {w} {x} {k} {from} {to} {kind} {l} {stop} r =
    elim (lt-or-le stop to) [
      | inl h ↦ absurd (omega (arith, r.passed.above h, row-bounds (cell w (8 * m) stop)))
      | inr h ↦ omega (arith, r.passed.high)
    ]

-- ---- a plan's rows of one kind

module _ {m : ℕ} {w : List ℕ} {from to : ℕ} (kind : ℕ) (table : CanGather m w) (plan : PlanRises m w from to) where
  rising-kind : rises 1 m (rows_of_kind kind (plan_part m w from to)) ≡ true
  rising-kind = kind-rises 1 m kind (plan_part m w from to) plan.rising

  pub plan-reach : CanReach m w 0 from to kind
  plan-reach =
      record {
        pass = record { order = plan.order; long = plan.long };
        long = table.long;
        rest = zero-part w (2 * m) m (2 * m + 0) (m - 0) table.empty (omega arith) (omega arith);
        room = omega (arith, list-room m (rows_of_kind kind (plan_part m w from to)) rising-kind);
      }

  pub plan-done : {x : List ℕ} {k stop : ℕ} → Reached m w x 0 from to kind 4097 k stop → Gathered m w x k (λ i. among i (rows_of_kind kind (plan_part m w from to)))
  plan-done {x} {k} r =
      gathering-done (subst (λ (e : ℕ). Gathering m w x k (rows_of_kind kind (plan_part m w from e))) (reached-all r) r.gathering)
      (λ i. among i (rows_of_kind kind (plan_part m w from to))) rising-kind (λ i. refl)

-- ---- together with the rows of a chain

module _ {m : ℕ} {rows next w₀ : List ℕ} {r from to : ℕ} (can : CanGrow m rows next w₀ r from to) where
  abbrev old : List ℕ
  old = values_at rows (chain next r)

  abbrev new : List ℕ
  new = rows_of_kind 1 (plan_part m w₀ from to)

  new-rises : rises 1 m new ≡ true
  new-rises = kind-rises 1 m 1 (plan_part m w₀ from to) can.plan.rising

  pub grow-once : (i : ℕ) → times i old + times i new ≤ 1
  grow-once i =
      let a : times i old ≤ 1 = rises-once 1 m old can.column.rising i in
      let b : times i new ≤ 1 = rises-once 1 m new new-rises i in
      elim (zero-or-pos (times i old)) [
        | inl z ↦ omega arith
        | inr p ↦ omega (arith, none-among i new (can.apart i (among-some i old p)))
      ]

  grow-room : length old + length new ≤ m
  grow-room =
      omega (
        arith,
        length-append old new,
        once-length m (old ++ new) (λ i. omega (arith, times-append i old new, grow-once i))
            (λ i h. elim (mem-either old (times-mem i (old ++ new) h)) [
              | inl n ↦ rises-in 1 m n can.column.rising
              | inr n ↦ rises-in 1 m n new-rises
            ]),
      )

pub record Growing (m : ℕ) (rows next w₀ : List ℕ) (r from to : ℕ) (w : List ℕ) (q k a : ℕ) : Type 0 where
  pub gone : List ℕ
  pub gathering : Gathering m w₀ w k gone
  pub linked : Linked next q (chain next q)
  pub low : from ≤ a
  pub high : a ≤ to
  pub last : ℕ
  pub last-high : last ≤ m
  pub before : rises 1 last gone ≡ true
  pub column : rises (suc last) m (values_at rows (chain next q)) ≡ true
  pub fresh : rises (suc last) m (rows_of_kind 1 (plan_part m w₀ a to)) ≡ true
  pub sum : (i : ℕ) → times i gone + (times i (values_at rows (chain next q)) + times i (rows_of_kind 1 (plan_part m w₀ a to))) ≡
      times i (values_at rows (chain next r)) + times i (rows_of_kind 1 (plan_part m w₀ from to))
  pub size : k + (length (values_at rows (chain next q)) + length (rows_of_kind 1 (plan_part m w₀ a to))) ≤ m

module _ {m : ℕ} {rows next w₀ : List ℕ} {r from to : ℕ} (can : CanGrow m rows next w₀ r from to) where
  pub growing-start : Growing m rows next w₀ r from to w₀ r 0 from
  growing-start =
      record {
        gone = [];
        gathering = gathering-start can.table;
        linked = can.column.linked;
        low = omega arith;
        high = can.plan.order;
        last = 0;
        last-high = omega arith;
        before = rises-nil 1 0;
        column = can.column.rising;
        fresh = new-rises can;
        sum = λ i. omega (arith, times-nil i);
        size = omega (arith, grow-room can);
      }

  module _ {w : List ℕ} {q k a : ℕ} (g : Growing m rows next w₀ r from to w q k a) where
    pub growing-length : length w ≡ length w₀
    growing-length = g.gathering.only.same_length

    -- the plan's rows can be gathered on, up to any bound
    pub growing-reach : CanReach m w k a to 1
    growing-reach =
        record {
          pass = record { order = g.high; long = omega (arith, growing-length, can.plan.long) };
          long = omega (arith, growing-length, can.table.long);
          rest = g.gathering.rest;
          room = omega (arith, g.size, ap (λ (es : List ℕ). length (rows_of_kind 1 es)) (gathering-part g.gathering a to));
        }

    -- what was gathered, and what is to come
    module _ {x : List ℕ} {bound l stop : ℕ} (t : Reached m w x k a to 1 bound l stop) where
      abbrev got : List ℕ
      got = rows_of_kind 1 (plan_part m w₀ a stop)

      abbrev left : List ℕ
      left = rows_of_kind 1 (plan_part m w₀ stop to)

      parts : rows_of_kind 1 (plan_part m w₀ a to) ≡ got ++ left
      parts = ap (rows_of_kind 1) (part_join m w₀ a stop to t.passed.low t.passed.high) ∙ kind-append 1 (plan_part m w₀ a stop) (plan_part m w₀ stop to)

      both : Gathering m w₀ x l (g.gone ++ got)
      both =
          gathering-trans got g.gathering
          (subst (λ (es : List ℕ). Gathering m w x l (region w (2 * m) k ++ rows_of_kind 1 es)) (gathering-part g.gathering a stop) t.gathering)

      got-rises : rises (suc g.last) m got ≡ true
      got-rises = rises-left (suc g.last) m got left (subst (λ (xs : List ℕ). rises (suc g.last) m xs ≡ true) parts g.fresh)

      left-rises : rises (suc g.last) m left ≡ true
      left-rises = rises-right (suc g.last) m got left (subst (λ (xs : List ℕ). rises (suc g.last) m xs ≡ true) parts g.fresh)

      got-below : (i : ℕ) → Mem i got → i < bound
      got-below i n =
          t.passed.below i (subst (λ (es : List ℕ). among i (rows_in es) ≡ true) (sym (gathering-part g.gathering a stop)) (mem-among (kind_row 1 (plan_part m w₀ a stop) n)))

      left-above : (i : ℕ) → Mem i left → bound ≤ i
      left-above i n =
          let e : rows_in (plan_part m w₀ from to) ≡ rows_in (plan_part m w₀ from stop) ++ rows_in (plan_part m w₀ stop to) =
          ap rows_in (part_join m w₀ from stop to (omega (arith, g.low, t.passed.low)) t.passed.high) ∙ rows_append (plan_part m w₀ from stop) (plan_part m w₀ stop to) in
          part-above m w₀ stop to bound can.plan.long
          (rises-right 1 m (rows_in (plan_part m w₀ from stop)) (rows_in (plan_part m w₀ stop to)) (subst (λ (xs : List ℕ). rises 1 m xs ≡ true) e can.plan.rising))
          (λ h. omega (arith, t.passed.above h, ap row_of (gathering-cell g.gathering stop))) (kind_row 1 (plan_part m w₀ stop to) n)

      -- a row of the chain after them
      module _ (z : q ≢ 0) (here : bound ≡ at rows q) where
        onward : Onward next q
        onward = chain-onward next q z g.linked

        abbrev tail : List ℕ
        tail = values_at rows (chain next (at next q))

        front-is : values_at rows (chain next q) ≡ at rows q ∷ tail
        front-is = ap (values_at rows) onward.parts ∙ values-front rows q (chain next (at next q))

        front : Front (suc g.last) m (at rows q) tail
        front = rises-front (suc g.last) m (at rows q) tail (subst (λ (xs : List ℕ). rises (suc g.last) m xs ≡ true) front-is g.column)

        counts : (i : ℕ) → times i (values_at rows (chain next q)) ≡ times i (at rows q ∷ []) + times i tail
        counts i = ap (times i) front-is ∙ times-cons i (at rows q) tail

        news : (i : ℕ) → times i (rows_of_kind 1 (plan_part m w₀ a to)) ≡ times i got + times i left
        news i = ap (times i) parts ∙ times-append i got left

        lengths : length (g.gone ++ got) + (suc (length tail) + length left) ≤ m
        lengths =
            omega (arith, g.size, g.gathering.size, ap length front-is, ap length parts, length-append got left, length-append g.gone got)

        pub growing-room : l < m
        growing-room = omega (arith, both.size, lengths)

        differs-here : (i : ℕ) → Mem i left → i ≢ at rows q
        differs-here i n e =
            omega (
              arith,
              mem-times (subst (λ (y : ℕ). Mem y left) e n),
              grow-once can (at rows q),
              g.sum (at rows q),
              counts (at rows q),
              news (at rows q),
              times-self (at rows q) [],
              times-nil (at rows q),
            )

        pub growing-next : Growing m rows next w₀ r from to (set x (2 * m + l) (at rows q)) (at next q) (l + 1) stop
        growing-next =
            let b : rises 1 (at rows q - 1) (g.gone ++ got) ≡ true =
            rises-join 1 g.last (at rows q - 1) g.gone got (omega arith) (omega (arith, front.low)) g.before
            (rises-within (suc g.last) m (suc g.last) (at rows q - 1) got got-rises (λ i n. ((rises-in (suc g.last) m n got-rises).0, omega (arith, got-below i n)))) in
            record {
              gone = (g.gone ++ got) ++ (at rows q ∷ []);
              gathering = gathering-push both (at rows q) can.table.long growing-room;
              linked = onward.linked;
              low = omega (arith, g.low, t.passed.low);
              high = t.passed.high;
              last = at rows q;
              last-high = front.high;
              before = rises-join 1 (at rows q - 1) (at rows q) (g.gone ++ got) (at rows q ∷ []) (omega arith) (omega arith) b
                  (rises-cons (suc (at rows q - 1)) (at rows q) (at rows q) [] (omega (arith, front.low)) (omega arith) (rises-nil (suc (at rows q)) (at rows q)));
              column = front.tail;
              fresh = rises-within (suc g.last) m (suc (at rows q)) m left left-rises
                  (λ i n. (omega (arith, left-above i n, differs-here i n), (rises-in (suc g.last) m n left-rises).1));
              sum = λ i. omega (arith, g.sum i, counts i, news i, times-append i (g.gone ++ got) (at rows q ∷ []), times-append i g.gone got);
              size = omega (arith, both.size, lengths);
            }

    -- the end of the chain, and of the plan
    pub growing-done : q ≡ 0 → {x : List ℕ} {l stop : ℕ} → Reached m w x k a to 1 4097 l stop →
        Gathered m w₀ x l (λ i. among i (values_at rows (chain next r)) || among i (rows_of_kind 1 (plan_part m w₀ from to)))
    growing-done z {x} {l} {stop} t =
        let none : values_at rows (chain next q) ≡ [] = ap (values_at rows) (chain-over next q z g.linked) ∙ values-none rows in
        let e : rows_of_kind 1 (plan_part m w₀ a stop) ≡ rows_of_kind 1 (plan_part m w₀ a to) = ap (λ (s : ℕ). rows_of_kind 1 (plan_part m w₀ a s)) (reached-all t) in
        gathering-done (both t) (λ i. among i (values_at rows (chain next r)) || among i (rows_of_kind 1 (plan_part m w₀ from to)))
        (rises-join 1 g.last m g.gone (rows_of_kind 1 (plan_part m w₀ a stop)) (omega arith) g.last-high g.before (rw e g.fresh))
        (λ i. among-sum i (g.gone ++ rows_of_kind 1 (plan_part m w₀ a stop)) (values_at rows (chain next r)) (rows_of_kind 1 (plan_part m w₀ from to))
        (omega (arith, g.sum i, ap (times i) none, times-nil i, ap (times i) e, times-append i g.gone (rows_of_kind 1 (plan_part m w₀ a stop)))))
