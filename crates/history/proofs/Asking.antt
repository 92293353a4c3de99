-- Accepted questions on any tables: what such a call has found, answers and leaves (`asked`), from which the columns that meet a row are those whose chain holds
-- it (`meets-filled`) and the common row is that of the parents in the tables (`common-answered`). First, the places that a written list fills and leaves.
-- Assumes nothing.
use mathlib.Core.Path.{◌≡◌, refl, sym, ap, ◌∙◌, subst}
use mathlib.Core.Logic.{◌↔◌}
use mathlib.Core.Bool.{true, false}
use mathlib.Core.List.{List, [], ◌∷◌, ◌++◌, append_assoc}
use Prim.Native.Nat.{ℕ, ◌+◌, ◌≤◌, ◌<◌}
use native.Mathlib.Omega.{arith}
use lib.ListN.{length, take, drop, take-append-drop, length-append, length-drop}
use lib.Seq.{length-take-le, take_at, drop_at}
use Rattle.lists.specs.Lists.{is_in, Mem, all, among, rises, written_at}
use Rattle.lists.proofs.Tests.{in-range, range-in}
use Rattle.lists.proofs.Member.{among-mem, mem-among}
use Rattle.symbolic.specs.Columns.{Register, live}
use Rattle.symbolic.specs.Factor.{factor_for, multiplicity, parent_of, in_pattern}
use Rattle.symbolic.specs.Meeting.{IsCommon}
use Rattle.symbolic.proofs.Patterns.{in-pattern, pattern-in}
use Rattle.symbolic.proofs.Theorems.{defined, meeting-is, meeting-rises, meeting-ends, common-is}
use Rattle.tables.specs.Tables.{stored_in}
use Rattle.tables.proofs.Stored.{stands-is}
use Rattle.calls.specs.Refusals.{Refusal, is_accepted, or_else, unless, room_for}
use Rattle.calls.specs.Calls.{Question, ask_meets, ask_common, Entry, asking, Lent, is_opening}
use Rattle.calls.specs.Questions.{response, meets_list}
use Rattle.calls.specs.Numbers.{call_early, sound_refusal, own_refusal, call_refusal, ask_refusal}
use Rattle.calls.specs.Steps.{Answer, result_of, World, booked_in, AcceptedWorld, Transition}
use Rattle.calls.proofs.Choices.{or-both, unless_holds}
use Rattle.calls.proofs.Refusals.{row-facts, room-facts}
use Rattle.calls.proofs.Numbers.{accepted-found}
use Rattle.calls.proofs.Steps.{Accepted, step-taken}
use Rattle.history.specs.Runs.{Event}
use Rattle.history.specs.Statements.{Stands, held_count, held_parent, Consistent, plain_of, filled, FilledJust, CommonJust}
use Rattle.history.proofs.Invariant.{inv-found, inv-consistent}

-- ---- a list written over another from a place on, where it has room

module _ (p : ℕ) (new old : List ℕ) (room : p + length new ≤ length old) where
  front_length : length (take p old) ≡ p
  front_length = length-take-le p old (omega arith)

  written-front : take p (written_at p new old) ≡ take p old
  written-front = take_at (take p old) (new ++ drop (p + length new) old) p front_length

  written_behind : drop p (written_at p new old) ≡ new ++ drop (p + length new) old
  written_behind = drop_at (take p old) (new ++ drop (p + length new) old) p front_length

  written-filled : take (length new) (drop p (written_at p new old)) ≡ new
  written-filled = ap (take (length new)) written_behind ∙ take_at new (drop (p + length new) old) (length new) refl

  written-rest : drop (p + length new) (written_at p new old) ≡ drop (p + length new) old
  written-rest =
      ap (drop (p + length new)) (sym (append_assoc (take p old) new (drop (p + length new) old))) ∙
      drop_at (take p old ++ new) (drop (p + length new) old) (p + length new) (omega (arith, length-append (take p old) new, front_length))

  written-length : length (written_at p new old) ≡ length old
  written-length =
      omega (
        arith,
        length-append (take p old) (new ++ drop (p + length new) old),
        length-append new (drop (p + length new) old),
        front_length,
        length-drop (p + length new) old,
      )

-- a list over which nothing is written
pub none_written : (p : ℕ) (xs : List ℕ) → written_at p [] xs ≡ xs
none_written p xs = let e : p + 0 ≡ p = omega arith in ap (λ (k : ℕ). take p xs ++ drop k xs) e ∙ take-append-drop p xs

-- ---- an accepted question

-- what it has found, answers and leaves
pub record Asked (u : World) (e : Event) (v : World) (k : Question) (p : ℕ) : Type 0 where
  pub consistent : Consistent (plain_of u) u
  pub world : v ≡ u
  pub own : is_accepted (response (booked_in u) k).refusal ≡ true
  pub room : p + length (response (booked_in u) k).list ≤ length e.call.lent.list
  pub row : e.answer.row ≡ (response (booked_in u) k).row
  pub value : e.answer.value ≡ (response (booked_in u) k).value
  pub list : e.left.list ≡ written_at p (response (booked_in u) k).list e.call.lent.list

pub asked : (u : World) (e : Event) (v : World) (k : Question) (p : ℕ) → Transition u e.call e.answer e.left v → e.call.entry ≡ asking k p →
    e.answer.number ≡ 0 → Asked u e v k p
asked u e v k p s q n =
    let r : Register = booked_in u in
    let xs : List ℕ = e.call.lent.list in
    let t : Accepted u e.call e.answer e.left v = step-taken u e.call e.answer e.left v s n in
    let x : Refusal = sound_refusal u.state u.tables e.call.entry in
    let y : Refusal = call_refusal u.state.sizes r e.call in
    let late : is_accepted (or_else x y) ≡ true = (or-both (call_early u.state.sizes u.tables e.call) (or_else x y) t.number).1 in
    let mine : is_accepted (ask_refusal r k p xs) ≡ true =
    subst (λ (i : Entry). is_accepted (own_refusal u.state.sizes r i xs) ≡ true) q (or-both x y late).1 in
    let both : (is_accepted (response r k).refusal ≡ true) × (is_accepted (room_for xs p (length (response r k).list)) ≡ true) =
    or-both (response r k).refusal (room_for xs p (length (response r k).list)) mine in
    record {
      consistent = inv-consistent (inv-found u (accepted-found u.state u.tables e.call
          (subst (λ (i : Entry). is_opening i ≡ false) (sym q) refl) t.number));
      world = subst (λ (i : Entry). AcceptedWorld u i v) q t.world;
      own = both.0;
      room = room-facts xs p (length (response r k).list) both.1;
      row = ap (λ (a : Answer). a.row) t.answer ∙ ap (λ (i : Entry). (result_of r i).row) q;
      value = ap (λ (a : Answer). a.value) t.answer ∙ ap (λ (i : Entry). (result_of r i).value) q;
      list = ap (λ (l : Lent). l.list) t.lists ∙ ap (λ (i : Entry). written_at (result_of r i).place (result_of r i).list xs) q;
    }

-- ---- the columns that meet a row

-- the list of the definition is what the tables' chains hold
meets-stands : (u : World) → Consistent (plain_of u) u → (i j : ℕ) → 1 ≤ i → i ≤ u.state.sizes.m → 1 ≤ j → j ≤ u.state.sizes.m →
    Mem j (meets_list (booked_in u) i) ↔ Stands u i j
meets-stands u c i j a b x y =
    let r : Register = booked_in u in
    let m : ℕ = u.state.sizes.m in
    let t : (among j (meets_list r i) ≡ true) ↔ ((1 ≤ j) × (j ≤ m) × (0 < multiplicity (factor_for r) i j)) =
    meeting-is m (live r) (multiplicity (factor_for r)) (parent_of (factor_for r)) (defined m (live r)) i j a b in
    let k : Stands u i j ↔ (in_pattern (factor_for r) i j ≡ true) = stands-is m (live r) (stored_in u.state u.tables) c.stored i j a b x y in (
      λ h. k.1 (in-pattern (factor_for r) i j (t.0 (mem-among h)).2),
      λ h. among-mem j (meets_list r i) (t.1 (x, y, pattern-in (factor_for r) i j (k.0 h))),
    )

pub meets-filled : (u : World) (e : Event) (v : World) (i p : ℕ) → Transition u e.call e.answer e.left v → e.call.entry ≡ asking (ask_meets i) p →
    e.answer.number ≡ 0 → Consistent (plain_of u) u × (v ≡ u) × FilledJust u e i p
meets-filled u e v i p s q n =
    let r : Register = booked_in u in
    let m : ℕ = u.state.sizes.m in
    let xs : List ℕ = e.call.lent.list in
    let js : List ℕ = meets_list r i in
    let t : Asked u e v (ask_meets i) p = asked u e v (ask_meets i) p s q n in
    let b : (1 ≤ i) × (i ≤ m) = row-facts m i t.own in
    let f : filled e p ≡ js =
    ap (λ (k : ℕ). take k (drop p e.left.list)) t.value ∙ ap (λ (l : List ℕ). take (length js) (drop p l)) t.list ∙ written-filled p js xs t.room in
    let d : (ks : List ℕ) × (js ≡ ks ++ (i ∷ [])) = meeting-ends m (live r) i b.0 b.1 in (
      t.consistent,
      t.world,
      record {
        row = range-in 1 m i b.0 b.1;
        counted = ap length f ∙ sym t.value;
        ascending = ap (λ (l : List ℕ). rises 1 i l) f ∙ meeting-rises m (live r) i b.0 b.1;
        own-last = (d.0, f ∙ d.1);
        exactly = λ j x y. subst (λ (l : List ℕ). Mem j l ↔ Stands u i j) (sym f) (meets-stands u t.consistent i j b.0 b.1 x y);
        length-stays = ap length t.list ∙ written-length p js xs t.room;
        front-stays = ap (take p) t.list ∙ written-front p js xs t.room;
        rest-stays = subst (λ (k : ℕ). drop (p + k) e.left.list ≡ drop (p + k) xs) (sym t.value) (ap (drop (p + length js)) t.list ∙ written-rest p js xs t.room);
      },
    )

-- ---- the common row of some rows

pub common-answered : (u : World) (e : Event) (v : World) (is : List ℕ) (p : ℕ) → Transition u e.call e.answer e.left v → e.call.entry ≡ asking (ask_common is) p →
    e.answer.number ≡ 0 → Consistent (plain_of u) u × (v ≡ u) × CommonJust u e is
common-answered u e v is p s q n =
    let r : Register = booked_in u in
    let m : ℕ = u.state.sizes.m in
    let t : Asked u e v (ask_common is) p = asked u e v (ask_common is) p s q n in
    let b : (is_accepted (unless (is_in 1 64 (length is)) 7 0) ≡ true) × (is_accepted (unless (all (is_in 1 m) is) 17 0) ≡ true) =
    or-both (unless (is_in 1 64 (length is)) 7 0) (unless (all (is_in 1 m) is) 17 0) t.own in
    let few : is_in 1 64 (length is) ≡ true = unless_holds (is_in 1 64 (length is)) 7 0 refl b.0 in
    let fit : all (is_in 1 m) is ≡ true = unless_holds (all (is_in 1 m) is) 17 0 refl b.1 in (
      t.consistent,
      t.world,
      record {
        few = few;
        in-range = fit;
        smallest-on-all = subst (λ (x : ℕ). IsCommon (held_parent u) is x) (sym t.value)
            (common-is m (live r) (held_count u) (held_parent u) t.consistent.factor is (in-range 1 64 (length is) few).0 fit);
        list-stays = t.list ∙ none_written p e.call.lent.list;
      },
    )
