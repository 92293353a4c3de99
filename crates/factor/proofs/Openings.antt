-- The step of an opening: its 1 to 5 and 20 with the default F and limits (`open-early`), refused (`open-refused`), and done (`open_done`). Assumes nothing.
use mathlib.Core.Path.{◌≡◌, refl, sym, ap, ◌∙◌}
use mathlib.Core.Logic.{inl, inr}
use mathlib.Core.Bool.{Bool, true, false}
use mathlib.Core.List.{List}
use Prim.Native.Nat.{ℕ, ◌≤◌, ◌<◌}
use native.Mathlib.Omega.{arith}
use borrow.Author.Tests.{eq-eqb, ne_eqb}
use Rattle.lists.specs.Lists.{pick, is_in}
use Rattle.lists.proofs.Tests.{lt-or-le, refute, in-range}
use Rattle.workspace.specs.Regions.{zero_first}
use Rattle.symbolic.specs.Grades.{Limits, are_limits, limits_for}
use Rattle.tables.specs.Tables.{Tables, Sizes, sizes_of}
use Rattle.tables.specs.Opening.{opened_state, opened_tables}
use Rattle.calls.specs.Refusals.{Refusal, accepted, is_accepted, or_else, unless, bounds, sizes_refusal, work_for, short_refusal, early_refusal}
use Rattle.calls.specs.Calls.{opening, work_only, call_of, with_default}
use Rattle.calls.specs.Numbers.{refusal_of}
use Rattle.calls.specs.Steps.{refused_by, World}
use Rattle.calls.proofs.Choices.{or-first}
use Rattle.calls.proofs.Refusals.{HasRoom, sizes-facts, early-passed}
use Rattle.calls.proofs.Steps.{accepted-step, refused-step}
use Rattle.early_refusals.specs.Early.{records_for}
use Rattle.early_refusals.proofs.Early.{default-allowed, default-refusal}
use Rattle.factor.specs.Entries.{state_of, opening_answer, OpenStep}
use Rattle.admission.specs.Admission.{HasPlaces}
use Rattle.opening.specs.Written.{OpeningWritten}
use Rattle.factor.specs.declared.Factor.{Factor}
use Rattle.std.specs.Prelude.{Ok, Err}
use Rattle.early_refusals.specs.declared.refusal.Refusal as reasons
use Rattle.early_refusals.specs.Refusal.{number_of}
use Rattle.early_refusals.proofs.Tests.{number-not0}
use Rattle.factor.proofs.Asking.{flat-early, refused-flat}

module _ (m n f c : ℕ) (g : Limits) (t : Tables) (w : List ℕ) {r : ℕ} (by : r ≡ records_for m f) {h : Limits} (limits : h ≡ limits_for g) {rule : Bool} (kept : rule ≡ are_limits h) where
  -- as asked, and with the default F
  abbrev asked : Sizes
  asked = sizes_of m n f c

  abbrev given : Sizes
  given = sizes_of m n r c

  given_is : given ≡ sizes_of m n (records_for m f) c
  given_is = ap (λ (x : ℕ). sizes_of m n x c) by

  -- an m above 4,096 is refused by 1 whatever F is
  sizes-large : 4096 < m → (l : Sizes) → l.m ≡ m → is_accepted (sizes_refusal bounds l) ≡ false
  sizes-large h l e =
      let q : is_in 1 4096 l.m ≡ false = refute (is_in 1 4096 l.m) (λ z. omega (arith, in-range 1 4096 l.m z)) in
      ap (λ (b : Bool). is_accepted (or_else (unless b 1 0) (past l))) q
    where
      past : Sizes → Refusal
      past l = or_else (unless (is_in 1 16384 l.n) 2 0) (or_else (unless (is_in l.m 1048576 l.f) 3 0) (unless (is_in 1 262144 l.c) 4 0))

  pub open-early : early_refusal given rule t w true ≡ early_refusal (with_default asked) (are_limits (limits_for g)) t w true
  open-early =
      let b : Bool = are_limits (limits_for g) in
      let rest : Sizes → Refusal = λ l. or_else (unless b 20 0) (or_else (short_refusal l t w) (unless true 5 0)) in
      ap (λ (z : Bool). early_refusal given z t w true) (kept ∙ ap are_limits limits) ∙
      elim (lt-or-le 4096 m) [
        | inl h ↦
            or-first (sizes_refusal bounds given) (rest given) (sizes-large h given refl) ∙ ap (sizes_refusal bounds) given_is ∙ default-refusal m n f c ∙
            sym (or-first (sizes_refusal bounds (with_default asked)) (rest (with_default asked)) (sizes-large h (with_default asked) refl))
        | inr h ↦ ap (λ (l : Sizes). early_refusal l b t w true) (given_is ∙ default-allowed m n f c h)
      ]

  pub open-refused : (k : reasons.Refusal) → number_of k ≡ (early_refusal given rule t w true).number → OpenStep asked g t w (Err k) t w
  open-refused k e s =
      let u : World = record { state = s; tables = t } in
      let x : Refusal = early_refusal given rule t w true in
      let q : is_accepted x ≡ false = ne_eqb x.number 0 (λ z. number-not0 k (e ∙ z)) in
      let p : refusal_of s t (call_of (opening asked g) (work_only w)) ≡ x = ap (λ (y : Refusal). or_else y accepted) (sym open-early) ∙ or-first x accepted q in
      refused-step u (call_of (opening asked g) (work_only w)) (opening_answer (Err k)) (work_only w) u
      (record {
        number = ap is_accepted p ∙ q;
        answer = refused-flat x e (flat-early given rule t w true) ∙ ap refused_by (sym p);
        lists = ap work_only (sym (ap (λ (y : Refusal). pick (is_accepted y) (zero_first (work_for (with_default asked)) w) w) (sym open-early) ∙
            ap (λ (b : Bool). pick b (zero_first (work_for (with_default asked)) w) w) q));
        world = refl;
      })

  module _ (e : 0 ≡ (early_refusal given rule t w true).number) where
    passed : is_accepted (early_refusal given rule t w true) ≡ true
    passed = eq-eqb (early_refusal given rule t w true).number 0 (sym e)

    pub open-writes : HasPlaces given t w
    open-writes =
        let p : (sizes_refusal bounds given ≡ accepted) × (rule ≡ true) × HasRoom given t w × (true ≡ true) = early-passed given rule t w true passed in
        record { sizes = p.0; long = p.2.tables; room = p.2.work }

    allowed : m ≤ 4096
    allowed = (sizes-facts given (ap is_accepted open-writes.sizes)).m-high

    pub open_done : {t' : Tables} {w' : List ℕ} {free book_free : ℕ} → OpeningWritten given t w t' w' free book_free →
        OpenStep asked g t w (Ok (record { m = m; n = n; f = r; c = c; free = free; book_free = book_free; grade2 = h.grade2; grade3 = h.grade3; grade4 = h.grade4; clock = 0 })) t' w'
    open_done {t'} {w'} {free} {book_free} o s =
        let u : World = record { state = s; tables = t } in
        let l : Sizes = with_default asked in
        let q : given ≡ l = given_is ∙ default-allowed m n f c allowed in
        let b : Bool = are_limits (limits_for g) in
        let z : is_accepted (early_refusal l b t w true) ≡ true = ap is_accepted (sym open-early) ∙ passed in
        let x : Factor = record { m = m; n = n; f = r; c = c; free = free; book_free = book_free; grade2 = h.grade2; grade3 = h.grade3; grade4 = h.grade4; clock = 0 } in
        let st : state_of x ≡ opened_state given (limits_for g) = λ i. record { sizes = given; limits = limits i; free = o.free-is i; book_free = o.book-free-is i; clock = 0 } in
        accepted-step u (call_of (opening asked g) (work_only w)) (opening_answer (Ok x)) (work_only w') (record { state = state_of x; tables = t' })
        (record {
          number = ap (λ (y : Bool). is_accepted (pick y accepted (early_refusal l b t w true))) z;
          answer = refl;
          lists = ap work_only (o.left ∙ ap (λ (y : Sizes). zero_first (work_for y) w) q ∙ sym (ap (λ (y : Bool). pick y (zero_first (work_for l) w) w) z));
          world = (st ∙ ap (λ (y : Sizes). opened_state y (limits_for g)) q, o.tables ∙ ap (λ (y : Sizes). opened_tables y t) q);
        })
