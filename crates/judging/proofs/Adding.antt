-- An addition found and planned: the batch's columns stand in the lists as they are lent, one outside its window with a start of 0 (`lines-listed`), an addition
-- that 7 to 15 and 21 do not refuse can be planned (`add-can`), and search and plan together are the call's verdict (`add-refused`, `add-planned`,
-- `add-full`). Assumes nothing.
use mathlib.Core.Path.{◌≡◌, refl, sym, ap, ◌∙◌, subst}
use mathlib.Core.Bool.{Bool, true, false}
use mathlib.Core.List.{List, [], ◌∷◌}
use Prim.Native.Nat.{ℕ, ◌+◌, ◌≤◌}
use native.Mathlib.Omega.{arith}
use lib.Dec.{leb}
use lib.ListN.{length, get_or, take, drop, length-drop}
use Rattle.lists.specs.Lists.{rises, all, sum_of}
use Rattle.lists.proofs.Tests.{and_both}
use Rattle.symbolic.specs.Columns.{Column, fits_rows, is_inside, in_window, counted_by, with_minutes, Register, live}
use Rattle.symbolic.specs.Factor.{FactorColumn, factor_for, size_sum}
use Rattle.symbolic.specs.Batch.{label_of, touched}
use Rattle.symbolic.specs.Change.{added}
use Rattle.symbolic.specs.Grades.{Limits}
use Rattle.symbolic.proofs.Minutes.{minutes-length, minutes-all}
use Rattle.symbolic.proofs.Live.{live-length, live-fits, live-is}
use Rattle.pool.specs.Chains.{chain}
use Rattle.windows.specs.Windowed.{listed_inside}
use Rattle.tables.specs.Tables.{Tables}
use Rattle.tables.proofs.Tables.{fits-rows}
use Rattle.calls.specs.Refusals.{Refusal, refusal, is_accepted, or_else, unless, batch_of, lines_of, add_refusal}
use Rattle.calls.specs.Calls.{adding}
use Rattle.calls.specs.Changes.{effect}
use Rattle.calls.specs.Steps.{booked_in}
use Rattle.calls.proofs.Changes.{touched-adding, addition-factor}
use Rattle.calls.proofs.Choices.{or-first, or-second, unless-true, unless-false}
use Rattle.refusals.specs.Offsets.{offset_of}
use Rattle.early_refusals.proofs.Tests.{number-some}
use Rattle.refusals.specs.declared.Refused.{Refused}
use Rattle.refusals.specs.Found.{found as refusal_of, add_found}
use Rattle.updown.specs.declared.Plan.{Plan}
use Rattle.std.specs.Prelude.{Ok, Err}
use Rattle.refusals.proofs.Accepted.{AddReady, add-ready, add-refusal, ready-length}
use Rattle.updown.specs.Plans.{PlanIs}
use Rattle.updown.specs.Entries.{Listed, listed_starts, CanAdd, AddPlanned}
use Rattle.steps.specs.Outcome.{cut_sizes, cut_world, stored_whole, book_whole, number_for, CanFind}
use Rattle.steps.proofs.Cut.{register-cut}
use Rattle.judging.specs.Judging.{Judged}
use Rattle.judging.proofs.Planning.{inside-rows, inside-start, plan-can}
use Rattle.judging.proofs.Verdicts.{refused-judged, planned-judged}

-- ---- the columns of a batch, as they are lent

lines-listed : (m t : ℕ) (is ns rs ps qs : List ℕ) → length ns ≡ length is → offset_of ns (length is) ≤ length rs → all (fits_rows m) (batch_of is ns rs) ≡ true →
    Listed (listed_inside t ps qs (listed_starts ns rs)) ns rs (counted_by (in_window t) (lines_of is ns rs ps qs))
unfolding Listed listed_inside listed_starts counted_by with_minutes batch_of offset_of all
lines-listed m t [] [] rs ps qs e h f = tt
lines-listed m t [] (n ∷ ns) rs ps qs e h f = absurd (omega arith)
lines-listed m t (i ∷ is) [] rs ps qs e h f = absurd (omega arith)
lines-listed m t (i ∷ is) (n ∷ ns) rs ps qs e h f =
    let g : (rises 1 m (take n rs) ≡ true) × (all (fits_rows m) (batch_of is ns (drop n rs)) ≡ true) =
    and_both (rises 1 m (take n rs)) (all (fits_rows m) (batch_of is ns (drop n rs))) f in
    let z : Bool = is_inside (get_or ps 0 0) (get_or qs 0 0) t in (
      inside-rows m (take n rs) z g.0,
      inside-start (take n rs) z,
      omega arith,
      lines-listed m t is ns (drop n rs) (drop 1 ps) (drop 1 qs) (omega arith) (omega (arith, length-drop n rs)) g.1,
    )

-- the counts together are the rows before the end
pub counts-sum : (ns : List ℕ) → sum_of (λ n. n) ns ≡ offset_of ns (length ns)
unfolding sum_of offset_of
counts-sum [] = refl
counts-sum (n ∷ ns) = ap (λ (k : ℕ). n + k) (counts-sum ns)

-- ---- the verdict

module _ {t : Tables} {lim : Limits} {o f g : ℕ} {w : List ℕ} (can : CanFind (cut_world t lim o f g) w) (is ns rs ps qs : List ℕ) where
  abbrev r : Register
  r = booked_in (cut_world t lim o f g)

  abbrev W : List Column
  W = (effect (booked_in (cut_world t lim o f g)) (adding is ns rs ps qs)).enter

  abbrev m : ℕ
  m = length t.heads

  -- 16, where 7 to 15 and 21 do not apply
  abbrev pub add-rest : Refusal
  add-rest = unless (leb (size_sum (factor_for (added (booked_in (cut_world t lim o f g)) (lines_of is ns rs ps qs)))) (length t.next)) 16 0

  pub add-number : number_for (cut_world t lim o f g) (adding is ns rs ps qs) ≡ or_else (add_found m (book_whole t g) is ns rs ps qs) add-rest
  add-number =
      let rest : Register → Refusal = λ x. unless (leb (size_sum (factor_for (added x (lines_of is ns rs ps qs)))) (length t.next)) 16 0 in
      ap (λ (x : Register). add_refusal (cut_sizes t) x is ns rs ps qs) (register-cut can) ∙
      add-refusal (cut_sizes t) m o (book_whole t g) t.windows is ns rs ps qs refl refl ∙
      ap (λ (x : Register). or_else (add_found m (book_whole t g) is ns rs ps qs) (rest x)) (sym (register-cut can))

  -- refused by 7 to 15 or 21
  pub add-refused : (x : Refused) → refusal_of x ≡ add_found (length t.heads) (book_whole t g) is ns rs ps qs →
      Judged (cut_world t lim o f g) (adding is ns rs ps qs) w w (Err x)
  add-refused x e =
      refused-judged x (sym (add-number ∙ ap (λ (y : Refusal). or_else y add-rest) (sym e) ∙ or-first (refusal_of x) add-rest (number-some x.refusal))) refl

  -- ---- not refused by 7 to 15 and 21

  module _ (found : is_accepted (add_found (length t.heads) (book_whole t g) is ns rs ps qs) ≡ true) where
    ready : AddReady (length t.heads) (book_whole t g) is ns rs ps qs
    ready = add-ready m (book_whole t g) is ns rs ps qs found

    -- its positions are few, their rows lie within the list, and they have two minutes each
    pub add-few : (length ns ≤ 64) × (sum_of (λ n. n) ns ≤ length rs) × (length ps ≡ length ns) × (length qs ≡ length ns)
    add-few =
        omega (
          arith,
          ready.few,
          ready.counted,
          ready.firsts-length,
          ready.seconds-length,
          counts-sum ns,
          ap (λ (n : ℕ). offset_of ns n) ready.counted,
          ready.used,
        )

    pub add-can : {starts : List ℕ} → starts ≡ listed_inside o ps qs (listed_starts ns rs) →
        CanAdd (stored_whole t f) starts ns rs w (live (booked_in (cut_world t lim o f g))) (effect (booked_in (cut_world t lim o f g)) (adding is ns rs ps qs)).enter
    add-can e =
        let a = ready in
        let B : List Column = lines_of is ns rs ps qs in
        let rows : all (fits_rows m) (batch_of is ns rs) ≡ true = fits-rows m (batch_of is ns rs) a.batch-fits in
        let fits : all (fits_rows m) B ≡ true = minutes-all (fits_rows m) (λ c x y. refl) ps qs (batch_of is ns rs) ∙ rows in
        let long : length W ≡ length is = live-length (added r B) B ∙ minutes-length ps qs (batch_of is ns rs) ∙ ready-length a in
        record {
          can = plan-can can W (live-fits (added r B) m B fits) (omega (arith, a.some)) (omega (arith, a.few));
          listed = subst (λ (xs : List ℕ). Listed xs ns rs W) (sym e)
              (subst (λ (ws : List Column). Listed (listed_inside o ps qs (listed_starts ns rs)) ns rs ws) (sym (live-is (added r B) B))
              (lines-listed m o is ns rs ps qs a.counted (omega (arith, a.used)) rows));
        }

    number-full : number_for (cut_world t lim o f g) (adding is ns rs ps qs) ≡ add-rest
    number-full = add-number ∙ or-second (add_found m (book_whole t g) is ns rs ps qs) add-rest found

    module _ {w' : List ℕ} (x : Plan)
        (p : AddPlanned (stored_whole t f) (live (booked_in (cut_world t lim o f g))) (effect (booked_in (cut_world t lim o f g)) (adding is ns rs ps qs)).enter w w' x.fits x.first.0 x.count x.entries x.used) where
      fits-is : x.fits ≡ leb (size_sum (factor_for (added (booked_in (cut_world t lim o f g)) (lines_of is ns rs ps qs)))) (length t.next)
      fits-is = p.fits-is ∙ ap (λ (fs : List FactorColumn). leb (size_sum fs) (length t.next)) (sym (addition-factor r is ns rs ps qs))

      -- it fits
      pub add-planned : x.fits ≡ true → Judged (cut_world t lim o f g) (adding is ns rs ps qs) w w' (Ok x)
      add-planned h =
          planned-judged x (sym (number-full ∙ unless-true (leb (size_sum (factor_for (added r (lines_of is ns rs ps qs)))) (length t.next)) 16 0 (sym fits-is ∙ h)))
          (record {
            room = length (chain t.next f);
            room_fits = omega arith;
            plan = rw (touched-adding r is ns rs ps qs)
                (subst (λ (F : List FactorColumn). PlanIs m (length t.next) (length (chain t.next f)) (factor_for r) F (label_of F W) (touched F W) w w' x.first.0 x.count x.entries x.used)
                (sym (addition-factor r is ns rs ps qs)) (p.plan h));
          })

      -- it does not: 16
      pub add-full : x.fits ≡ false → (y : Refused) → refusal_of y ≡ refusal 16 0 → Judged (cut_world t lim o f g) (adding is ns rs ps qs) w w' (Err y)
      add-full h y e =
          refused-judged y (e ∙ sym (number-full ∙ unless-false (leb (size_sum (factor_for (added r (lines_of is ns rs ps qs)))) (length t.next)) 16 0 (sym fits-is ∙ h)))
          (p.unchanged h)
