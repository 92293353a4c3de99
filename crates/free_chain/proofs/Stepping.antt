-- One step of a piece: where nothing is written it is as it was, and otherwise a run and the step after it lead on. Every piece that stood still stands, and
-- the queue stays. Assumes nothing.
use mathlib.Core.Path.{◌≡◌, refl, sym, ap, subst, ◌∙◌}
use mathlib.Core.Logic.{inl, inr, ◌≢◌}
use mathlib.Core.List.{List}
use Prim.Native.Nat.{ℕ, ◌+◌, ◌-◌, ◌*◌, ◌≤◌, ◌<◌}
use native.Mathlib.Omega.{arith}
use lib.ListN.{length, get_or, set, length-set}
use lib.Seq.{get_or-set_same, get_or-set_other, set-get_or}
use Rattle.lists.specs.Lists.{at}
use Rattle.lists.proofs.Tests.{eq-or-ne}
use Rattle.free_chain.specs.Pieces.{Leads, RunsTo, length_of, stand_of, with_piece, Stands, CanStep, Stepped, Kept, queue_of, Queued}
use Rattle.free_chain.proofs.Leading.{leads-none, leads_one, leads-join, leads-run}

-- ---- what a step of the code does

module _ {rs ns w : List ℕ} {s : ℕ} (p : CanStep rs ns w s) where
  -- nothing
  pub stepped-still : Stepped rs ns w w s
  stepped-still =
      record {
        steps = 0;
        stop = stand_of w s;
        leads = leads-none rs ns (stand_of w s);
        size = omega (arith, p.size);
        stand = p.stand;
        written = same;
      }
    where
      none : (n : ℕ) → n + 0 ≡ n
      none n = omega arith

      same : w ≡ with_piece w s (length_of w s + 0) (stand_of w s)
      same = rw (none (length_of w s), set-get_or w (2 * s) 0, set-get_or w (2 * s + 1) 0) refl

  -- a run to place e, and on to what follows there
  pub stepped-on : (e a : ℕ) → stand_of w s ≢ 0 → RunsTo ns (stand_of w s - 1) e → get_or ns e 0 ≡ a → (a ≡ 0 → get_or rs e 0 ≡ 0) →
      length_of w s + (e - (stand_of w s - 1) + 1) ≤ length ns → a ≤ length ns → Stepped rs ns w (with_piece w s (length_of w s + (e - (stand_of w s - 1) + 1)) a) s
  stepped-on e a some run next zero fits high =
      record {
        steps = e - (stand_of w s - 1) + 1;
        stop = a;
        leads = leads-join rs ns (e - (stand_of w s - 1)) 1 (stand_of w s) (e + 1) a along after;
        size = fits;
        stand = high;
        written = refl;
      }
    where
      first : stand_of w s - 1 + 1 ≡ stand_of w s
      first = omega arith

      along : Leads rs ns (e - (stand_of w s - 1)) (stand_of w s) (e + 1)
      along = subst (λ (x : ℕ). Leads rs ns (e - (stand_of w s - 1)) x (e + 1)) first (leads-run rs ns run)

      place : (x : ℕ) → x ≡ x + 1 - 1
      place x = omega arith

      here : at ns (e + 1) ≡ a
      here = subst (λ (x : ℕ). get_or ns x 0 ≡ a) (place e) next

      row : a ≡ 0 → at rs (e + 1) ≡ 0
      row q = subst (λ (x : ℕ). get_or rs x 0 ≡ 0) (place e) (zero q)

      after : Leads rs ns 1 (e + 1) a
      after = subst (λ (x : ℕ). Leads rs ns 1 (e + 1) x) here (leads_one rs ns (e + 1) (omega arith) (omega (arith, run.within)) (λ q. row (sym here ∙ q)))

-- ---- a piece written

module _ (w : List ℕ) (s n a : ℕ) where
  pub piece-size : length (with_piece w s n a) ≡ length w
  piece-size = length-set (set w (2 * s) n) (2 * s + 1) a ∙ length-set w (2 * s) n

  pub piece-length : 2 * s + 1 < length w → length_of (with_piece w s n a) s ≡ n
  piece-length h = get_or-set_other (set w (2 * s) n) (2 * s + 1) (2 * s) a 0 (λ e. omega arith) ∙ get_or-set_same w (2 * s) n 0 (omega arith)

  pub piece-stand : 2 * s + 1 < length w → stand_of (with_piece w s n a) s ≡ a
  piece-stand h = get_or-set_same (set w (2 * s) n) (2 * s + 1) a 0 (omega (arith, length-set w (2 * s) n))

  pub piece-other : (j : ℕ) → j ≢ 2 * s → j ≢ 2 * s + 1 → get_or (with_piece w s n a) j 0 ≡ get_or w j 0
  piece-other j p q = get_or-set_other (set w (2 * s) n) (2 * s + 1) j a 0 q ∙ get_or-set_other w (2 * s) j n 0 p

-- a piece that has this length and stands here
pub stands-with : (rs ns w : List ℕ) (start s n a : ℕ) → Leads rs ns n start a → n ≤ length ns → a ≤ length ns → length_of w s ≡ n → stand_of w s ≡ a → Stands rs ns w start s
stands-with rs ns w start s n a l p q d e =
    record {
      leads = subst (λ (x : ℕ). Leads rs ns x start (stand_of w s)) (sym d) (subst (λ (x : ℕ). Leads rs ns n start x) (sym e) l);
      size = omega arith;
      stand = omega arith;
    }

-- a piece that stays as it was
pub stands_same : {rs ns w₀ : List ℕ} {start s : ℕ} (w : List ℕ) → Stands rs ns w₀ start s → length_of w s ≡ length_of w₀ s → stand_of w s ≡ stand_of w₀ s → Stands rs ns w start s
stands_same {rs} {ns} {w₀} {start} {s} w t d e = stands-with rs ns w start s (length_of w₀ s) (stand_of w₀ s) t.leads t.size t.stand d e

-- ---- what a step leaves

module _ {rs ns w₀ w : List ℕ} {s : ℕ} (t : Stepped rs ns w₀ w s) (c : ℕ) (low : s ≤ c) where
  pub stepped-length : length w ≡ length w₀
  stepped-length = ap length t.written ∙ piece-size w₀ s (length_of w₀ s + t.steps) t.stop

  other : (j : ℕ) → j ≢ 2 * s → j ≢ 2 * s + 1 → get_or w j 0 ≡ get_or w₀ j 0
  other j p q = rw t.written (piece-other w₀ s (length_of w₀ s + t.steps) t.stop j p q)

  -- every piece that stood
  pub kept_step : queue_of c ≤ length w₀ → Kept rs ns c w₀ w
  kept_step long f ps x h =
      elim (eq-or-ne x s) [
        | inl e ↦ subst (λ (y : ℕ). Stands rs ns w (f y) y) (sym e) here
        | inr e ↦ stands_same w (ps x h) (other (2 * x) (λ q. e (omega arith)) (λ q. omega arith)) (other (2 * x + 1) (λ q. omega arith) (λ q. e (omega arith)))
      ]
    where
      stood : Stands rs ns w₀ (f s) s
      stood = ps s low

      here : Stands rs ns w (f s) s
      here =
          stands-with
          rs
          ns
          w
          (f s)
          s
          (length_of w₀ s + t.steps)
          t.stop
          (leads-join rs ns (length_of w₀ s) t.steps (f s) (stand_of w₀ s) t.stop stood.leads t.leads)
          t.size
          t.stand
          (rw t.written (piece-length w₀ s (length_of w₀ s + t.steps) t.stop (omega arith)))
          (rw t.written (piece-stand w₀ s (length_of w₀ s + t.steps) t.stop (omega arith)))

  -- and the queue
  pub queue-step : {n : ℕ} → Queued w₀ c n → Queued w c n
  queue-step u =
      record {
        few = u.few;
        pieces = λ q h. subst (λ (x : ℕ). x ≤ c) (sym (other (queue_of c + q) (λ e. omega arith) (λ e. omega arith))) (u.pieces q h);
      }
