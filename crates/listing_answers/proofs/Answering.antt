-- What a line answers, by its command: the answer of the function that was called is that of the line (`opens`, `adds`, `drops`, `shows`, `unknown`).
-- Assumes nothing.
use mathlib.Core.Path.{◌≡◌, refl, sym, ap, subst}
use mathlib.Core.Logic.{inl, inr}
use mathlib.Core.List.{List, [], ◌∷◌}
use Prim.Native.Nat.{ℕ, ◌≤◌}
use native.Mathlib.Omega.{arith}
use lib.ListN.{length}
use Rattle.tables.specs.Tables.{Tables, Sizes, State}
use Rattle.calls.specs.Calls.{adding}
use Rattle.symbolic.specs.Grades.{limits_of}
use Rattle.factor.specs.Entries.{state_of, Opening, opening_answer, OpenStep}
use Rattle.factor.specs.declared.Factor.{Factor}
use Rattle.std.specs.Prelude.{Ok, Err}
use Rattle.continuing.proofs.Continuing.{opened-can, opened-fits, refused-number, refused-tables, refused-work}
use Rattle.listing_text.specs.Command.{command_of, rows_of}
use Rattle.listing_text.specs.Text.{no_line, Written}
use Rattle.listing_text.specs.declared.command.Command.{Command}
use Rattle.listing_text.specs.declared.command.Command.TheVariants.{Open, Add, Show, Unknown}
use Rattle.listing_show.specs.Showing.{shown_by, CanShowAll}
use Rattle.listing_memory.specs.Memory.{Memory, memory_of, Lengths, opening_line, numbered, OpeningPrinted}
use Rattle.listing_answers.specs.Listing.{IsReady, Ready, OpenAnswered, CommandAnswered, Answered, BatchAnswered, OpenPrinted, Answers}
use Rattle.listing_memory.specs.declared.Printed.{Printed}
use Rattle.listing_answers.proofs.Changes.{no_answer}

-- an answer to the command is one to the line
pub by-command : {k : Command} (line : List ℕ) (u : Memory) {out₀ out : List ℕ} {x : Printed} {v : Memory} → command_of line ≡ k →
    Answers (CommandAnswered k (rows_of line) u) out₀ out x v → Answers (Answered u line) out₀ out x v
by-command line u {out₀} {out} {x} {v} e a = subst (λ (k : Command). Answers (CommandAnswered k (rows_of line) u) out₀ out x v) (sym e) a

-- ---- no command, and show

pub unknown : (line : List ℕ) (u : Memory) {out₀ out : List ℕ} {x : Printed} → command_of line ≡ Unknown → IsReady u → Written out₀ 0 (no_line 19 0) out x.end →
    Answers (Answered u line) out₀ out x u
unknown line u e r w = by-command line u e (record { bytes = no_line 19 0; says = (refl, refl); written = w; usable = r })

pub shows : (line : List ℕ) (u : Memory) {out₀ out : List ℕ} {x : Printed} → command_of line ≡ Show → IsReady u → Written out₀ 0 (shown_by u.world) out x.end →
    Answers (Answered u line) out₀ out x u
shows line u e r w = by-command line u e (record { bytes = shown_by u.world; says = (refl, refl); written = w; usable = r })

pub can-show : (x : Factor) (t : Tables) (w a b : List ℕ) {places room : ℕ} → Ready (memory_of x t w a b) → 1000 ≤ places → 91520 ≤ room → CanShowAll (state_of x) t places room
can-show x t w a b r p q =
    elim r.usable [
      | inl e ↦ record { usable = inl e; few = omega (arith, ap (λ (s : State). s.sizes.m) e); entries = omega arith; fits = q }
      | inr c ↦ record { usable = inr c.can-use.usable; few = omega (arith, c.touched-long, r.lengths.touched); entries = omega arith; fits = q }
    ]

-- ---- add

pub adds : (line : List ℕ) (u : Memory) (i n : ℕ) (rows : List ℕ) {out₀ out : List ℕ} {x : Printed} {v : Memory} → command_of line ≡ Add i n → rows ≡ rows_of line →
    Answers (BatchAnswered u (adding (i ∷ []) (n ∷ []) rows (0 ∷ []) (0 ∷ []))) out₀ out x v → Answers (Answered u line) out₀ out x v
adds line u i n rows {out₀} {out} {x} {v} e f a =
    by-command line u e
    (subst (λ (rs : List ℕ). Answers (BatchAnswered u (adding (i ∷ []) (n ∷ []) rs (0 ∷ []) (0 ∷ []))) out₀ out x v) f a)

-- ---- open

module _ (l : Sizes) (t : Tables) (w : List ℕ) (x₀ : Factor) (a b out₀ : List ℕ) (t' : Tables) (w' out : List ℕ) (ready : Ready (memory_of x₀ t w a b)) where
  by-opening : (o : Opening) (x : Printed) → OpenStep l (limits_of 0 0 0) t w o t' w' → OpeningPrinted x₀ (numbered o) out₀ out x →
      Answers (λ bs v. OpenAnswered (memory_of x₀ t w a b) l bs v) out₀ out x (memory_of x.factor t' w' a b)
  by-opening (Ok y) x s p =
      subst (λ (f : Factor). Answers (λ bs v. OpenAnswered (memory_of x₀ t w a b) l bs v) out₀ out x (memory_of f t' w' a b)) (sym p.factor-is)
      (record {
        bytes = opening_line (numbered (Ok y));
        says = record { answer = opening_answer (Ok y); step = s (state_of x₀); printed = refl; touched = refl; labels = refl };
        written = p.line;
        usable =
            let h : y.m ≤ length t.heads = opened-fits l (limits_of 0 0 0) t w y t' w' s in
            let g : Lengths (memory_of x₀ t w a b) = ready.lengths in
            inr (opened-can l (limits_of 0 0 0) t w y t' w' s a b (omega (arith, g.heads, g.touched)) (omega (arith, g.heads, g.labels)));
      })
  by-opening (Err n) x s p =
      subst (λ (f : Factor). Answers (λ bs v. OpenAnswered (memory_of x₀ t w a b) l bs v) out₀ out x (memory_of f t' w' a b)) (sym p.factor-is)
      (record {
        bytes = opening_line (numbered (Err n));
        says = record {
          answer = opening_answer (Err n);
          step = s (state_of x₀);
          printed = no_answer (opening_answer (Err n)) (refused-number l (limits_of 0 0 0) t w n t' w' s);
          touched = refl;
          labels = refl;
        };
        written = p.line;
        usable =
            subst (λ (y : Tables). IsReady (memory_of x₀ y w' a b)) (sym (refused-tables l (limits_of 0 0 0) t w n t' w' s))
            (subst (λ (y : List ℕ). IsReady (memory_of x₀ t y a b)) (sym (refused-work l (limits_of 0 0 0) t w n t' w' s)) ready.usable);
      })

  pub opens : (line : List ℕ) (x : Printed) → OpenPrinted l t w x₀ out₀ t' w' out x → command_of line ≡ Open l.m l.n l.f l.c →
      Answers (Answered (memory_of x₀ t w a b) line) out₀ out x (memory_of x.factor t' w' a b)
  opens line x o e = by-command line (memory_of x₀ t w a b) e (by-opening o.opened x o.step o.printed)
