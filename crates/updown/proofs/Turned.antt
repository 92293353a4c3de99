-- A whole turn after A: what B and C ask, then D, the plan and the step up (`turning-ready`, `family-ready`, `plan-ready`, `step-ready`), and the walk's state
-- and numbers after it (`turned`). Assumes nothing.
use mathlib.Core.Path.{◌≡◌, sym, ap, ◌∙◌, subst}
use mathlib.Core.Logic.{inl, inr}
use mathlib.Core.Bool.{Bool, true, false}
use mathlib.Core.List.{List, [], ◌∷◌, ◌++◌}
use Prim.Native.Nat.{ℕ, suc, ◌+◌, ◌≤◌, ◌<◌}
use native.Mathlib.Omega.{arith}
use lib.Dec.{eqb, leb}
use lib.ListN.{length, get_or}
use Rattle.lists.specs.Lists.{pick, sum_of, at}
use Rattle.lists.proofs.Tests.{zero-or-pos}
use Rattle.symbolic.specs.Columns.{Column}
use Rattle.symbolic.specs.Factor.{factor_of, column_at, parent_of, size_of, first_above}
use Rattle.symbolic.specs.Batch.{size_sum_of}
use Rattle.symbolic.proofs.Build.{laws, parent_is}
use Rattle.pool.specs.Chains.{chain}
use Rattle.columns.specs.Plan.{of_kind}
use Rattle.emission.specs.Plans.{plan_from}
use Rattle.emission.specs.declared.Emission.{Emission}
use Rattle.updown.specs.Marks.{Room, mark_at, stepped_up, up_at, CanStep, SteppedTo}
use Rattle.updown.specs.Turns.{before, after, tree_parent, done}
use Rattle.updown.specs.SoFar.{nobody, children, SoFar, IsDefinition}
use Rattle.updown.specs.Walks.{Columns, Parents, Turn, TurnTo, TurnDone, SomeTurn, SomeTurnD}
use Rattle.updown.specs.States.{Multiplicities, start_of, Numbers, Walking, Planned, SomePlanned, Halted, Setting, Between}
use Rattle.updown.proofs.Worked.{Begun, Worked, worked}
use Rattle.updown.proofs.Plans.{sizes-append}
use Rattle.updown.proofs.Stepping.{done_next}
use Rattle.updown.proofs.Halting.{halted}
use Rattle.updown.proofs.Upward.{stepped, stepped-frame, step_room}
use Rattle.updown.proofs.Walking.{begun-turn}
use Rattle.updown.proofs.Numbering.{count-bound, entries-small, larger-small, numbers-next}

-- the turn of j after A, and the numbers before it
pub record Turning (next work₀ work : List ℕ) (m flags : ℕ) (R W : List Column) (adding : Bool) (free n j first last count entries used avail : ℕ) : Type 0 where
  pub begun : Begun m flags R W adding work₀ work j used
  pub so_far : SoFar m R W adding work n j (length W) nobody
  pub numbers : Numbers next work m R W adding free j first last count entries used avail

-- the turn of j fits exactly if there are free records for its new rows, and then the walk goes on from j, its last column
pub record Turned (next work₀ work : List ℕ) (m flags : ℕ) (R W : List Column) (adding : Bool) (free j avail₀ : ℕ) (fits : Bool) (first last count entries used avail : ℕ) : Type 0 where
  pub fits-is : fits ≡ leb (of_kind 1 (plan_from 1 (column_at (before adding m R W) j).counts (column_at (after adding m R W) j).counts)) (length (chain next avail₀))
  pub onward : fits ≡ true → Between next work₀ work m flags R W adding free (suc last) first last count entries used avail
  pub halted : fits ≡ false → Halted m (length next) flags work₀ work used

module _ {heads parents rows counts next : List ℕ} {m flags : ℕ} {R W : List Column} {adding : Bool} {free : ℕ} (s : Setting heads parents rows counts next m flags R W adding free)
    {work₀ w : List ℕ} {n j f l c k used avail : ℕ} (t : Turning next work₀ w m flags R W adding free n j f l c k used avail) where
  turning-turn : Turn m R W adding w j used n 0 nobody
  turning-turn = begun-turn t.begun t.so_far

  turning-room : used + size_of (column_at (before adding m R W) j) + length (chain next avail) ≤ length next
  unfolding sum_of
  turning-room =
      let b : Begun m flags R W adding work₀ w j used = t.begun in
      omega (
        arith,
        t.numbers.room,
        s.fitting (suc j) (omega arith) (omega (arith, b.high)),
        ap (size_sum_of (before adding m R W)) (done_next m R W j b.low b.touched),
        sizes-append (before adding m R W) (done m R W j) (j ∷ []),
      )

  -- ---- the step up, after the plan

  module _ {w₁ : List ℕ} {e : Emission} (d : Worked next w w₁ m R W adding j used avail e) (ok : e.fits ≡ true) where
    abbrev up : ℕ
    up = up_at parents j e.parent.0 adding

    new-parent : e.parent.0 ≡ parent_of (after adding m R W) j
    new-parent = (d.planned.plan ok).parent ∙ sym (go adding)
      where
        go : (z : Bool) → parent_of (after z m R W) j ≡ first_above j 1 (column_at (after z m R W) j).counts
        go true = parent_is m (R ++ W) j t.begun.low t.begun.high
        go false = parent_is m R j t.begun.low t.begun.high

    tree_is : up ≡ tree_parent m R W j
    tree_is = go adding new-parent (s.parents-hold.are j t.begun.low t.begun.high)
      where
        go : (z : Bool) → e.parent.0 ≡ parent_of (after z m R W) j → at parents j ≡ parent_of (before z m R W) j → up_at parents j e.parent.0 z ≡ tree_parent m R W j
        go true y u = y
        go false y u = u

    high-of : (cs : List Column) (p : ℕ) → p ≡ parent_of (factor_of m cs) j → p ≤ m
    high-of cs p x = elim (zero-or-pos p) [ inl z ↦ omega arith | inr z ↦ omega (arith, x, ((laws m cs).parent_in j t.begun.low t.begun.high (omega (arith, x))).1) ]

    parent-high : e.parent.0 ≤ m
    parent-high = go adding new-parent
      where
        go : (z : Bool) → e.parent.0 ≡ parent_of (after z m R W) j → e.parent.0 ≤ m
        go true y = high-of (R ++ W) e.parent.0 y
        go false y = high-of R e.parent.0 y

    within : (i : ℕ) → 1 ≤ i → i ≤ length W → start_of W i ≤ m
    within = s.starts

    can-step : CanStep parents w₁ m flags j e.parent.0 adding c k e.larger
    can-step =
        let b : Begun m flags R W adding work₀ w j used = t.begun in
        let r : Room m flags w₁ × (1 ≤ j) × (j ≤ m) × (mark_at m w₁ j < 260) = step_room b d ok s.fit s.positions within e.parent.0 new-parent in
        record {
          room = r.0;
          low = r.1;
          high = r.2;
          parents-long = s.parents-hold.long;
          parent-high = parent-high;
          up-high = high-of (R ++ W) up tree_is;
          mark-small = r.3;
          count_small = omega (arith, t.numbers.count-is, count-bound m R W adding j b.low b.high s.columns.narrow, b.high, s.columns.narrow);
          entries-small = omega (arith, t.numbers.entries-is, entries-small m R W adding j b.low b.high s.columns.narrow);
          larger-small = omega (arith, (d.planned.plan ok).larger, larger-small m R W adding j b.low b.high s.columns.narrow);
        }

    stepped-on : {w₂ : List ℕ} → w₂ ≡ stepped_up m flags w₁ j e.parent.0 up → {f' l' c' k' used' avail' : ℕ} →
        f' ≡ pick (eqb f 0) j f → l' ≡ j → c' ≡ c + 1 → k' ≡ k + e.larger → used' ≡ e.used → avail' ≡ e.avail.0 →
        Between next work₀ w₂ m flags R W adding free (suc l') f' l' c' k' used' avail'
    stepped-on {w₂} y {f'} {l'} {c'} {k'} {used'} {avail'} ef el ec ek eu ea =
        let b : Begun m flags R W adding work₀ w j used = t.begun in
        let h : Walking m flags R W adding work₀ w₂ (suc j) e.used =
        subst (λ (v : List ℕ). Walking m flags R W adding work₀ v (suc j) e.used) (sym y) (stepped b d ok s.fit s.positions within e.parent.0 new-parent up tree_is) in
        let nums : Numbers next w₂ m R W adding free (suc j) f' l' c' k' e.used e.avail.0 =
        numbers-next t.numbers b.low b.high s.columns.narrow s.columns.few b.touched d.planned.used_low (d.planned.plan ok) d.same_length
        (omega (arith, d.planned.used_high, s.fit, b.room.long, d.same_length))
        (λ i p q. d.still i (omega arith) (inr (omega arith)) (omega (arith, b.high, b.low)) (inl (omega arith)))
        (h.same_length ∙ sym (d.same_length ∙ b.same_length))
        (λ i p q. ap (λ (v : List ℕ). get_or v i 0) y ∙ stepped-frame b d ok s.fit s.positions within e.parent.0 new-parent up tree_is i p (omega (arith, d.planned.used_high, s.fit)))
        ef el ec ek in
        subst (λ (v : ℕ). Between next work₀ w₂ m flags R W adding free (suc v) f' l' c' k' used' avail') (sym el)
        (subst (λ (v : ℕ). Between next work₀ w₂ m flags R W adding free (suc j) f' l' c' k' v avail') (sym eu)
        (subst (λ (v : ℕ). Between next work₀ w₂ m flags R W adding free (suc j) f' l' c' k' e.used v) (sym ea) (record { walking = h; numbers = nums })))

  -- ---- from call to call, each with the promises of those before it

  pub turning-ready : SomeTurn heads parents rows next w m j n adding
  turning-ready = record { R = R; W = W; used = used; columns = s.columns; parents-hold = s.parents-hold; turn = turning-turn }

  -- B and C
  module _ {wc : List ℕ} {nc : ℕ} (with-children : (R W : List Column) (used : ℕ) → Columns heads rows next m R W adding → Parents parents m R W adding →
      Turn m R W adding w j used n 0 nobody → TurnTo m R W adding w wc j used nc (children m R W j)) where
    has-children : TurnTo m R W adding w wc j used nc (children m R W j)
    has-children = with-children R W used s.columns s.parents-hold turning-turn

    pub family-ready : SomeTurnD heads rows next wc m j nc adding
    family-ready = record { R = R; W = W; used = used; columns = s.columns; turn = has-children.turn }

    -- D
    module _ {wd : List ℕ} {nd : ℕ} (with-family : (R W : List Column) (used : ℕ) → Columns heads rows next m R W adding →
        Turn m R W adding wc j used nc 0 (children m R W j) → TurnDone m R W adding wc wd j used nd) where
      has-family : TurnDone m R W adding wc wd j used nd
      has-family = with-family R W used s.columns has-children.turn

      pub plan-ready : SomePlanned heads rows counts next wd m nd j used avail
      plan-ready =
          record {
            R = R;
            W = W;
            adding = adding;
            columns = s.columns;
            multiplicities = s.multiplicities;
            low = t.begun.low;
            high = t.begun.high;
            definition = has-family.definition;
            linked = t.numbers.linked;
            room = turning-room;
            long = omega (arith, s.fit, t.begun.room.long, has-children.same_length, has-family.goes.same_length);
          }

      -- the plan
      module _ {wp : List ℕ} {e : Emission} (with-plan : (R W : List Column) (adding : Bool) → Columns heads rows next m R W adding → Multiplicities heads counts next m R W adding →
          IsDefinition m R W adding wd nd j → used + size_of (column_at (before adding m R W) j) + length (chain next avail) ≤ length next →
          Planned next wd wp m R W adding j used avail e) where
        has-plan : Worked next w wp m R W adding j used avail e
        has-plan = worked has-children has-family (with-plan R W adding s.columns s.multiplicities has-family.definition turning-room)

        pub step-ready : e.fits ≡ true → CanStep parents wp m flags j e.parent.0 adding c k e.larger
        step-ready = can-step has-plan

        -- the step up
        pub turned : {w' : List ℕ} {fits : Bool} {f' l' c' k' used' avail' : ℕ} →
            SteppedTo parents wp w' m flags j adding e f c k fits f' l' c' k' used' avail' →
            Turned next work₀ w' m flags R W adding free j avail fits f' l' c' k' used' avail'
        turned {w'} {used' = used'} h =
            record {
              fits-is = h.fits-is ∙ has-plan.planned.fits;
              onward = λ x. let ok : e.fits ≡ true = sym h.fits-is ∙ x in
                  stepped-on has-plan ok (h.stored ok) (h.first-is ok) (h.last-is ok) (h.count-is ok) (h.entries-is ok) h.used-is (h.avail-is ok);
              halted = λ x.
                  subst (λ (v : List ℕ). Halted m (length next) flags work₀ v used') (sym (h.stays (sym h.fits-is ∙ x)))
                  (subst (λ (v : ℕ). Halted m (length next) flags work₀ wp v) (sym h.used-is) (halted t.begun has-plan s.fit));
            }
