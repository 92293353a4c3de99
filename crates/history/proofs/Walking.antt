-- Questions for the next row by calls. On sound tables one in range is accepted (`next-taken`). An accepted one on any tables answers the column's next row, against
-- what the tables hold (`next-answered`), and for row j + 1 in column j the parent (`parent-answered`). Calls that walk a column are given what its reader gives
-- (`walk-answered`) and change nothing (`walk-stays`); every column has such calls (`walk_ends`). Assumes nothing.
use mathlib.Core.Path.{◌≡◌, refl, sym, ap, ◌∙◌, subst}
use mathlib.Core.Logic.{◌≢◌, inl, inr}
use mathlib.Core.Bool.{true, ◌&&◌, true≢false}
use mathlib.Core.List.{List, [], ◌∷◌, ◌++◌}
use Prim.Native.Nat.{ℕ, suc, ◌+◌, ◌≤◌, ◌<◌}
use native.Mathlib.Omega.{arith}
use lib.Dec.{leb}
use lib.ListN.{length, replicate}
use borrow.Author.Tests.{le-leb, eq-eqb, ne_eqb}
use Rattle.lists.specs.Lists.{is_in, Mem, first, later}
use Rattle.lists.proofs.Tests.{in-range, range-in, both-and}
use Rattle.symbolic.specs.Columns.{Column, Register, live}
use Rattle.symbolic.specs.Factor.{FactorColumn, factor_of, factor_for, column_at, multiplicity, parent_of, pattern_of, multiplicities_of}
use Rattle.symbolic.specs.NextRow.{ColumnEntry, next_row, IsNext, column_entries, IsWalk}
use Rattle.symbolic.proofs.NextRow.{keeps-step}
use Rattle.symbolic.proofs.Theorems.{defined, unique, next-is, next-is-diagonal, next-is-parent, walk-is-column}
use Rattle.tables.specs.Stored.{Stored}
use Rattle.tables.specs.Tables.{Sizes, long_enough, stored_in}
use Rattle.tables.proofs.Stored.{Holds, stored-column}
use Rattle.reader.specs.Reading.{end, as_read}
use Rattle.reader.proofs.Column.{reads-tables}
use Rattle.calls.specs.Refusals.{accepted, is_accepted, or_else, bounds, sizes_refusal, limits_refusal, work_for, short_refusal, row_refusal, room_for}
use Rattle.calls.specs.Calls.{ask_next_row, Entry, asking, Lent, work_only, Call, call_of}
use Rattle.calls.specs.Numbers.{call_early, call_refusal, refusal_of}
use Rattle.calls.specs.Steps.{accepted_by, lists_after, work_after, World, booked_in, Transition}
use Rattle.calls.proofs.Choices.{or-both, both-or, unless-true}
use Rattle.calls.proofs.Refusals.{row-facts}
use Rattle.calls.proofs.Numbers.{sound-number}
use Rattle.calls.proofs.Steps.{step-cases, accepted-step, taken-zero}
use Rattle.history.specs.Runs.{Event, Run}
use Rattle.history.specs.Statements.{held_rows, held_count, held_parent, Consistent, plain_of}
use Rattle.history.specs.NextRow.{SoundWorld, NextTaken, AsksNext, entry_by, NextStands, NextIsParent, EndsWalk, Walks, walked, CallsOn, WalkIsColumn, WalkStays}
use Rattle.history.proofs.Asking.{Asked, asked, none_written}

-- ---- one question

-- what an accepted question for the next row has found and answers
record Next (u : World) (e : Event) (v : World) (i j : ℕ) : Type 0 where
  consistent : Consistent (plain_of u) u
  world : v ≡ u
  row_in : (1 ≤ i) × (i ≤ u.state.sizes.m)
  column-in : (1 ≤ j) × (j ≤ u.state.sizes.m)
  found : entry_by e ≡ next_row (factor_for (booked_in u)) i j
  list : e.left.list ≡ e.call.lent.list

next : (u : World) (e : Event) (v : World) (i j : ℕ) → Transition u e.call e.answer e.left v → AsksNext e i j → Next u e v i j
next u e v i j s a =
    let m : ℕ = u.state.sizes.m in
    let t : Asked u e v (ask_next_row i j) a.place = asked u e v (ask_next_row i j) a.place s a.asks a.taken in
    let b : (is_accepted (row_refusal m i) ≡ true) × (is_accepted (row_refusal m j) ≡ true) = or-both (row_refusal m i) (row_refusal m j) t.own in
    record {
      consistent = t.consistent;
      world = t.world;
      row_in = row-facts m i b.0;
      column-in = row-facts m j b.1;
      found = λ k. record { row = t.row k; count = t.value k };
      list = t.list ∙ none_written a.place e.call.lent.list;
    }

pub next-answered : NextStands
next-answered u e v i j s a =
    let r : Register = booked_in u in
    let m : ℕ = u.state.sizes.m in
    let t : Next u e v i j = next u e v i j s a in (
      t.consistent,
      t.world,
      record {
        row = range-in 1 m i t.row_in.0 t.row_in.1;
        column = range-in 1 m j t.column-in.0 t.column-in.1;
        first = subst (λ (x : ColumnEntry). IsNext m (held_count u) i j x) (sym t.found)
            (next-is m (live r) (held_count u) (held_parent u) t.consistent.factor i j t.row_in.0 t.column-in.0 t.column-in.1);
        diagonal = λ h. ap (λ (x : ColumnEntry). x.row) t.found ∙ next-is-diagonal m (live r) i j t.column-in.0 t.column-in.1 h;
        list-stays = t.list;
      },
    )

pub parent-answered : NextIsParent
parent-answered u e v j s a =
    let r : Register = booked_in u in
    let m : ℕ = u.state.sizes.m in
    let t : Next u e v (suc j) j = next u e v (suc j) j s a in
    let low : 1 ≤ j = t.column-in.0 in
    let below : j < m = t.row_in.1 in (
      below,
      ap (λ (x : ColumnEntry). x.row) t.found ∙ next-is-parent m (live r) j low below ∙
          sym (unique m (live r) (held_count u) (held_parent u) t.consistent.factor j j low t.column-in.1 low t.column-in.1).1,
    )

-- ---- what is accepted

next-passes : (u : World) (i j p : ℕ) (x : Lent) → SoundWorld u → is_in 1 u.state.sizes.m i ≡ true → is_in 1 u.state.sizes.m j ≡ true →
    work_for u.state.sizes ≤ length x.work → p ≤ length x.list → is_accepted (refusal_of u.state u.tables (call_of (asking (ask_next_row i j) p) x)) ≡ true
next-passes u i j p x c a b h l =
    let n : Sizes = u.state.sizes in
    let k : Call = call_of (asking (ask_next_row i j) p) x in
    let room : p + 0 ≤ length x.list = omega arith in
    let early : is_accepted (call_early n u.tables k) ≡ true =
    both-or (sizes_refusal bounds n) (or_else (limits_refusal true) (or_else (short_refusal n u.tables x.work) accepted)) (ap is_accepted c.in-range)
    (both-or (short_refusal n u.tables x.work) accepted
    (ap is_accepted (unless-true (long_enough n u.tables && leb (work_for n) (length x.work)) 5 0 (both-and c.long (le-leb (work_for n) (length x.work) h)))) refl) in
    let own : is_accepted (call_refusal n (booked_in u) k) ≡ true =
    both-or (or_else (row_refusal n.m i) (row_refusal n.m j)) (room_for x.list p 0)
    (both-or (row_refusal n.m i) (row_refusal n.m j) (ap is_accepted (unless-true (is_in 1 n.m i) 17 0 a)) (ap is_accepted (unless-true (is_in 1 n.m j) 17 0 b)))
    (ap is_accepted (unless-true (leb (p + 0) (length x.list)) 18 0 (le-leb (p + 0) (length x.list) room))) in
    ap is_accepted (sound-number u.state u.tables k c.sound) ∙ both-or (call_early n u.tables k) (call_refusal n (booked_in u) k) early own

pub next-taken : NextTaken
next-taken u e v i j p s q c a b h l =
    let z : is_accepted (refusal_of u.state u.tables e.call) ≡ true =
    subst (λ (n : Entry). is_accepted (refusal_of u.state u.tables (call_of n e.call.lent)) ≡ true) (sym q) (next-passes u i j p e.call.lent c a b h l) in
    elim (step-cases u e.call e.answer e.left v s) [
      | inl t ↦ taken-zero t
      | inr t ↦ absurd (true≢false (sym z ∙ t.number))
    ]

-- ---- a walk

-- what its calls have found and give
record Walked (u : World) (es : List Event) (j i : ℕ) : Type 0 where
  consistent : Consistent (plain_of u) u
  column-in : (1 ≤ j) × (j ≤ u.state.sizes.m)
  walk : IsWalk u.state.sizes.m (λ k. next_row (factor_for (booked_in u)) k j) i (walked es)

walk-last : (u : World) (e : Event) (v : World) (j i : ℕ) → Next u e v i j → EndsWalk u.state.sizes.m e → Walked u (e ∷ []) j i
unfolding walked IsWalk
walk-last u e v j i t d =
    record {
      consistent = t.consistent;
      column-in = t.column-in;
      walk = elim d [
        | inl z ↦ rw (eq-eqb e.answer.row 0 z) (sym (ap (λ (x : ColumnEntry). x.row) t.found) ∙ z)
        | inr z ↦
            let n : e.answer.row ≢ 0 = λ q. omega (arith, t.column-in.0, t.column-in.1) in
            rw (ne_eqb e.answer.row 0 n) (t.found, n, inl (z, refl))
      ];
    }

walk-on : (u : World) (e : Event) (es : List Event) (v : World) (j i : ℕ) → Next u e v i j → (EndsWalk u.state.sizes.m e → ⊥) →
    Walked u es j (suc e.answer.row) → Walked u (e ∷ es) j i
unfolding walked IsWalk
walk-on u e es v j i t d w =
    let n : e.answer.row ≢ 0 = λ z. d (inl z) in
    record { consistent = w.consistent; column-in = w.column-in; walk = rw (ne_eqb e.answer.row 0 n) (t.found, n, inr (λ z. d (inr z), w.walk)) }

walk_from : (u : World) (es : List Event) (j i : ℕ) → CallsOn u es → Walks u.state.sizes.m j i es → Walked u es j i
unfolding Walks
walk_from u [] j i f w = absurd w
walk_from u (e ∷ es) j i f w =
    let s : (v : World) × Transition u e.call e.answer e.left v = f e first in
    let t : Next u e s.0 i j = next u e s.0 i j s.1 w.0 in
    elim w.1 [
      | inl d ↦ subst (λ (l : List Event). Walked u (e ∷ l) j i) (sym d.1) (walk-last u e s.0 j i t d.0)
      | inr d ↦ walk-on u e es s.0 j i t d.0 (walk_from u es j (suc e.answer.row) (λ x m. f x (later m)) d.1)
    ]

-- ---- beside the reader

entries-length : (xs ns : List ℕ) → length xs ≡ length ns → length (column_entries xs ns) ≡ length xs
unfolding column_entries
entries-length [] ns e = refl
entries-length (x ∷ xs) [] e = absurd (omega arith)
entries-length (x ∷ xs) (n ∷ ns) e = ap suc (entries-length xs ns (omega arith))

pub walk-answered : WalkIsColumn
walk-answered u es j r w =
    let m : ℕ = u.state.sizes.m in
    let cs : Register = booked_in u in
    let s : Stored = stored_in u.state u.tables in
    let f : FactorColumn = column_at (factor_for cs) j in
    let t : Walked u es j 1 = walk_from u es j 1 r w in
    let c : Consistent (plain_of u) u = t.consistent in
    let h : Holds s j f = stored-column m (live cs) s c.stored j t.column-in.0 t.column-in.1 in
    let given : walked es ≡ column_entries (pattern_of f) (multiplicities_of f) = (walk-is-column m (live cs) j t.column-in.0 t.column-in.1 (walked es)).0 t.walk in
    let size : length (walked es) ≡ length (pattern_of f) = ap length given ∙ entries-length (pattern_of f) (multiplicities_of f) (keeps-step 1 f.counts) in (
      c,
      record {
        entries = given ∙ ap (λ (xs : List ℕ). column_entries xs (multiplicities_of f)) (sym h.rows) ∙ ap (column_entries (held_rows u j)) (sym h.counts);
        reader = λ k.
            rw size (reads-tables u.state u.tables c.long c.sound j t.column-in.0 t.column-in.1 k) ∙
            ap (λ (xs : List ColumnEntry). as_read xs ++ replicate k end) (sym given);
      },
    )

-- ---- in a run

pub walk-stays : WalkStays
unfolding Run Walks
walk-stays u [] v m j i r w = absurd w
walk-stays u (e ∷ es) v m j i r w =
    let x : World = r.0 in
    let q : x ≡ u = (next u e x i j r.1.0 w.0).world in
    let rest : Run u es v = subst (λ (y : World). Run y es v) q r.1.1 in
    elim w.1 [
      | inl d ↦ (subst (λ (l : List Event). Run u l v) d.1 rest, λ y k. only (subst (λ (l : List Event). Mem y (e ∷ l)) d.1 k))
      | inr d ↦ let t = walk-stays u es v m j (suc e.answer.row) rest d.1 in (t.0, λ y k. either k t.1)
    ]
  where
    Step : Event → Type 0
    Step y = (z : World) × Transition u y.call y.answer y.left z

    only : {y : Event} → Mem y (e ∷ []) → Step y
    only first = (r.0, r.1.0)
    only (later k) = elim k [ ]

    either : {y : Event} → Mem y (e ∷ es) → CallsOn u es → Step y
    either first f = (r.0, r.1.0)
    either (later k) f = f _ k

-- ---- every column has one

module _ (u : World) (j : ℕ) (w : List ℕ) (c : SoundWorld u) (b : is_in 1 u.state.sizes.m j ≡ true) (h : work_for u.state.sizes ≤ length w) where
  abbrev m : ℕ
  m = u.state.sizes.m

  abbrev call : ℕ → Call
  call i = call_of (asking (ask_next_row i j) 0) (work_only w)

  abbrev event : ℕ → Event
  event i =
      record {
        call = call i;
        answer = accepted_by u.state.limits (booked_in u) (call i).entry;
        left = lists_after (booked_in u) (call i) (work_after u.state.sizes u.tables (call i));
      }

  step : (i : ℕ) → is_in 1 m i ≡ true → Transition u (event i).call (event i).answer (event i).left u
  step i a =
      accepted-step u (event i).call (event i).answer (event i).left u
      (record { number = next-passes u i j 0 (work_only w) c a b h (omega arith); answer = refl; lists = refl; world = refl })

  asks : (i : ℕ) → AsksNext (event i) i j
  asks i = record { place = 0; asks = refl; taken = refl }

  -- the calls of a walk from row i on
  abbrev Has : ℕ → List Event → Type 0
  Has i es = Run u es u × Walks m j i es × ((e : Event) → Mem e es → e.call.lent ≡ work_only w)

  lent-in : (i : ℕ) (es : List Event) → ((e : Event) → Mem e es → e.call.lent ≡ work_only w) → (e : Event) → Mem e (event i ∷ es) → e.call.lent ≡ work_only w
  lent-in i es f e first = refl
  lent-in i es f e (later k) = f e k

  one-call : (i : ℕ) → is_in 1 m i ≡ true → EndsWalk m (event i) → Has i (event i ∷ [])
  unfolding Run Walks
  one-call i a d = ((u, (step i a, refl)), (asks i, inl (d, refl)), lent-in i [] (λ e k. elim k [ ]))

  calls-from : (i : ℕ) (xs : List ColumnEntry) → is_in 1 m i ≡ true → IsWalk m (λ k. next_row (factor_for (booked_in u)) k j) i xs → (es : List Event) × Has i es
  unfolding Run Walks IsWalk
  calls-from i [] a z = (event i ∷ [], one-call i a (inl z))
  calls-from i (x ∷ xs) a z =
      let row : x.row ≡ (event i).answer.row = ap (λ (y : ColumnEntry). y.row) z.0 in
      let low : 1 ≤ i = (in-range 1 m i a).0 in
      let r : (1 ≤ j) × (j ≤ m) = in-range 1 m j b in
      let cs : List Column = live (booked_in u) in
      let stands : IsNext m (multiplicity (factor_of m cs)) i j (next_row (factor_of m cs) i j) =
      next-is m cs (multiplicity (factor_of m cs)) (parent_of (factor_of m cs)) (defined m cs) i j low r.0 r.1 in
      let high : (event i).answer.row ≤ m = (stands.stands (omega (arith, z.1, row))).1 in
      elim z.2 [
        | inl d ↦ (event i ∷ [], one-call i a (inr (sym row ∙ d.0)))
        | inr d ↦
            let on : is_in 1 m (suc (event i).answer.row) ≡ true = range-in 1 m (suc (event i).answer.row) (omega arith) (omega (arith, high, row, d.0)) in
            let t : (es : List Event) × Has (suc (event i).answer.row) es =
            calls-from (suc (event i).answer.row) xs on
            (subst (λ (k : ℕ). IsWalk m (λ k. next_row (factor_for (booked_in u)) k j) (suc k) xs) row d.1) in (
              event i ∷ t.0,
              (
                (u, (step i a, t.1.0)),
                (asks i, inr (λ e. elim e [ inl q ↦ z.1 (row ∙ q) | inr q ↦ d.0 (row ∙ q) ], t.1.1)),
                lent-in i t.0 t.1.2,
              ),
            )
      ]

  pub walk_ends : (es : List Event) × (Run u es u × Walks u.state.sizes.m j 1 es × ((e : Event) → Mem e es → e.call.lent ≡ work_only w))
  walk_ends =
      let r : (1 ≤ j) × (j ≤ m) = in-range 1 m j b in
      let f : FactorColumn = column_at (factor_for (booked_in u)) j in
      let xs : List ColumnEntry = column_entries (pattern_of f) (multiplicities_of f) in
      calls-from 1 xs (range-in 1 m 1 (omega arith) (omega arith)) ((walk-is-column m (live (booked_in u)) j r.0 r.1 xs).1 refl)
