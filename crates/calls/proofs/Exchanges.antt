-- What an accepted change must leave in record and tables (`Exchanged`): that an addition or a removal so keeps the record of every entry that stands before
-- and after it (`exchanged-keeps`); and all of it as one test on given worlds, with the law that a change that passes it meets it (`exchange-passed`). The
-- sizes and the columns are compared apart: they are equal as they stand. How a stored example is held to the promise. Assumes nothing.
use mathlib.Core.Path.{◌≡◌, refl, sym, ap, ◌∙◌, subst}
use mathlib.Core.Logic.{inl, inr}
use mathlib.Core.Bool.{Bool, true, false, ◌&&◌, ◌||◌, true≢false}
use mathlib.Core.List.{List, []}
use Prim.Native.Nat.{ℕ, ◌*◌, ◌≤◌}
use native.Mathlib.Omega.{arith}
use Rattle.lists.specs.Lists.{Mem, all, among, at, values_at, sum_of, up_from}
use Rattle.lists.proofs.Tests.{and_both, or-either}
use Rattle.lists.proofs.Member.{all-at}
use Rattle.lists.proofs.Place.{values-mem}
use Rattle.lists.proofs.Rising.{up-from, rises-in}
use Rattle.symbolic.specs.Columns.{Column, live}
use Rattle.symbolic.specs.Factor.{FactorColumn, factor_of, factor_for, in_pattern}
use Rattle.symbolic.specs.Change.{removed, Bag}
use Rattle.symbolic.proofs.Patterns.{pattern-within-rows}
use Rattle.symbolic.proofs.Theorems.{order-free}
use Rattle.symbolic.proofs.Live.{live-order}
use Rattle.tables.specs.Stored.{records_of, holds_from}
use Rattle.tables.specs.Tables.{Tables, Sizes, State, long_enough, stored_in, book_in, windows_in, register_of, is_sound}
use Rattle.tables.specs.Stays.{EntriesKeep, TailsStay}
use Rattle.tables.proofs.Stored.{stored-column, stands-is}
use Rattle.tables.proofs.Tables.{tails-long, sound-factor}
use Rattle.tables.proofs.Stays.{stays_test, keeps_test, stays-passed, keeps-passed, beyond_test, beyond-passed, book_test, book-passed, minutes_test, minutes-passed}
use Rattle.calls.specs.Calls.{Change, adding, removing, setting, is_batch}
use Rattle.calls.specs.Changes.{effect, touched_by}
use Rattle.calls.specs.Steps.{World, booked_in, SameBook, Exchanged}

-- ---- entries that stand before and after

module _ {u : World} {c : Change} {v : World} (x : Exchanged u c v) where
  abbrev m : ℕ
  m = u.state.sizes.m

  -- a record of a sound world holds a row of its column's pattern
  stands-before : (s : State) (t : Tables) → long_enough s.sizes t ≡ true → is_sound s t ≡ true → (cs : List Column) → factor_for (register_of s t) ≡ factor_of s.sizes.m cs →
      (j : ℕ) → 1 ≤ j → j ≤ s.sizes.m → {y : ℕ} → Mem y (records_of (stored_in s t) j) → in_pattern (factor_of s.sizes.m cs) (at (stored_in s t).rows y) j ≡ true
  stands-before s t long sound cs e j a b {y} n =
      let f : holds_from (stored_in s t) (factor_of s.sizes.m cs) 1 s.sizes.m ≡ true =
      ap (λ (fs : List FactorColumn). holds_from (stored_in s t) fs 1 s.sizes.m) (sym e) ∙ sound-factor s t long sound in
      let i : ℕ = at (stored_in s t).rows y in
      let k : Mem i (values_at (stored_in s t).rows (records_of (stored_in s t) j)) = values-mem (stored_in s t).rows n in
      let p : (1 ≤ i) × (i ≤ s.sizes.m) =
      rises-in 1 s.sizes.m (subst (λ (l : List ℕ). Mem i l) (stored-column s.sizes.m cs (stored_in s t) f j a b).rows k) (pattern-within-rows s.sizes.m cs j a b) in
      (stands-is s.sizes.m cs (stored_in s t) f i j p.0 p.1 a b).0 k

  -- "An entry that stands in a column before and after a batch keeps its record": it stands for the columns that stay too
  pub exchanged-keeps : is_batch c ≡ true → long_enough u.state.sizes u.tables ≡ true → is_sound u.state u.tables ≡ true → (j : ℕ) → 1 ≤ j → j ≤ u.state.sizes.m →
      EntriesKeep (stored_in u.state u.tables) (stored_in v.state v.tables) j
  exchanged-keeps batch long sound j a b y z p q e = x.entries j a b y z p q e (stays c refl)
    where
      stays : (d : Change) → c ≡ d → in_pattern (factor_of u.state.sizes.m (effect (booked_in u) c).stay) (at (stored_in u.state u.tables).rows y) j ≡ true
      stays (adding is ns rs ps qs) h =
          subst (λ (k : Change). in_pattern (factor_of m (effect (booked_in u) k).stay) (at (stored_in u.state u.tables).rows y) j ≡ true) (sym h)
          (stands-before u.state u.tables long sound (live (booked_in u)) refl j a b p)
      stays (removing is) h =
          let w : List Column = live (removed (booked_in u) is) in
          let bag : Bag (live (booked_in v)) w =
          live-order (booked_in v) (removed (booked_in u) is) (x.clock ∙ ap (λ (k : Change). (effect (booked_in u) k).register.clock) h) (subst (λ (k : Change). Bag (booked_in v).columns (effect (booked_in u) k).register.columns) h x.columns) in
          let f : factor_for (booked_in v) ≡ factor_of v.state.sizes.m w = order-free v.state.sizes.m (live (booked_in v)) w bag in
          let g : in_pattern (factor_of v.state.sizes.m w) (at (stored_in v.state v.tables).rows z) j ≡ true =
          stands-before v.state v.tables (ap (λ (l : Sizes). long_enough l v.tables) x.sizes ∙ tails-long u.state.sizes u.tables v.tables x.tails long) x.sound w f j a
          (subst (λ (l : Sizes). j ≤ l.m) (sym x.sizes) b) q in
          subst (λ (k : Change). in_pattern (factor_of m (effect (booked_in u) k).stay) (at (stored_in u.state u.tables).rows y) j ≡ true) (sym h)
          (subst (λ (i : ℕ). in_pattern (factor_of m w) i j ≡ true) (sym e) (subst (λ (l : Sizes). in_pattern (factor_of l.m w) (at (stored_in v.state v.tables).rows z) j ≡ true) x.sizes g))
      stays (setting t) h = absurd (true≢false (sym (subst (λ (k : Change). is_batch k ≡ true) h batch)))

-- ---- the places beyond the sizes

abbrev pub tails_test : Sizes → (before after : Tables) → Bool
tails_test l t u =
    beyond_test l.m t.heads u.heads && (beyond_test l.m t.parents u.parents && (beyond_test l.f t.rows u.rows &&
    (beyond_test l.f t.counts u.counts && (beyond_test l.f t.next u.next && (beyond_test l.n t.book_heads u.book_heads &&
    (beyond_test l.c t.book_rows u.book_rows && (beyond_test l.c t.book_next u.book_next && beyond_test (2 * l.n) t.windows u.windows)))))))

pub tails-passed : (l : Sizes) (t u : Tables) → tails_test l t u ≡ true → TailsStay l t u
tails-passed l t u z =
    let a : Bool = beyond_test l.m t.heads u.heads in
    let b : Bool = beyond_test l.m t.parents u.parents in
    let c : Bool = beyond_test l.f t.rows u.rows in
    let d : Bool = beyond_test l.f t.counts u.counts in
    let e : Bool = beyond_test l.f t.next u.next in
    let f : Bool = beyond_test l.n t.book_heads u.book_heads in
    let g : Bool = beyond_test l.c t.book_rows u.book_rows in
    let h : Bool = beyond_test l.c t.book_next u.book_next in
    let k : Bool = beyond_test (2 * l.n) t.windows u.windows in
    let p : (a ≡ true) × ((b && (c && (d && (e && (f && (g && (h && k))))))) ≡ true) = and_both a (b && (c && (d && (e && (f && (g && (h && k))))))) z in
    let q : (b ≡ true) × ((c && (d && (e && (f && (g && (h && k)))))) ≡ true) = and_both b (c && (d && (e && (f && (g && (h && k)))))) p.1 in
    let r : (c ≡ true) × ((d && (e && (f && (g && (h && k))))) ≡ true) = and_both c (d && (e && (f && (g && (h && k))))) q.1 in
    let s : (d ≡ true) × ((e && (f && (g && (h && k)))) ≡ true) = and_both d (e && (f && (g && (h && k)))) r.1 in
    let v : (e ≡ true) × ((f && (g && (h && k))) ≡ true) = and_both e (f && (g && (h && k))) s.1 in
    let w : (f ≡ true) × ((g && (h && k)) ≡ true) = and_both f (g && (h && k)) v.1 in
    let x : (g ≡ true) × ((h && k) ≡ true) = and_both g (h && k) w.1 in
    let y : (h ≡ true) × (k ≡ true) = and_both h k x.1 in
    record {
      heads = beyond-passed l.m t.heads u.heads p.0;
      parents = beyond-passed l.m t.parents u.parents q.0;
      rows = beyond-passed l.f t.rows u.rows r.0;
      counts = beyond-passed l.f t.counts u.counts s.0;
      next = beyond-passed l.f t.next u.next v.0;
      book_heads = beyond-passed l.n t.book_heads u.book_heads w.0;
      book_rows = beyond-passed l.c t.book_rows u.book_rows x.0;
      book_next = beyond-passed l.c t.book_next u.book_next y.0;
      windows = beyond-passed (2 * l.n) t.windows u.windows y.1;
    }

-- ---- all of it

module _ (u : World) (k : Change) (v : World) where
  abbrev pub others_test : (j : ℕ) → Bool
  others_test j =
      among j (touched_by (booked_in u) k) || stays_test (stored_in u.state u.tables) (stored_in v.state v.tables) j

  abbrev pub entries_test : (j : ℕ) → Bool
  entries_test j = keeps_test (stored_in u.state u.tables) (stored_in v.state v.tables) j

  abbrev pub ids_test : (i : ℕ) → Bool
  ids_test i =
      among i (effect (booked_in u) k).ids || (book_test (book_in u.state u.tables) (book_in v.state v.tables) i &&
      minutes_test u.state.sizes.n (windows_in u.state u.tables) (windows_in v.state v.tables) i)

  abbrev pub exchange_test : Bool
  exchange_test =
      is_sound v.state v.tables && (all others_test (up_from 1 u.state.sizes.m) && (all entries_test (up_from 1 u.state.sizes.m) &&
      (all ids_test (up_from 1 u.state.sizes.n) && tails_test u.state.sizes u.tables v.tables)))

  -- from a test that lets some pass, one that those pass that are not among them
  either : (a b : Bool) → (a || b) ≡ true → a ≡ false → b ≡ true
  either a b h e = elim (or-either a b h) [ inl q ↦ absurd (true≢false (sym q ∙ e)) | inr q ↦ q ]

  at-number : (f : ℕ → Bool) (n : ℕ) → all f (up_from 1 n) ≡ true → (i : ℕ) → 1 ≤ i → i ≤ n → f i ≡ true
  at-number f n h i a b = all-at f (up-from 1 n i a (omega arith)) h

  pub exchange-passed : v.state.sizes ≡ u.state.sizes → v.state.limits ≡ u.state.limits → v.state.clock ≡ (effect (booked_in u) k).register.clock →
      (booked_in v).columns ≡ (effect (booked_in u) k).register.columns → ((effect (booked_in u) k).ids ≡ [] → SameBook u v) → exchange_test ≡ true → Exchanged u k v
  exchange-passed l g o c still z =
      let m : ℕ = u.state.sizes.m in
      let n : ℕ = u.state.sizes.n in
      let A : Bool = is_sound v.state v.tables in
      let B : Bool = all others_test (up_from 1 m) in
      let C : Bool = all entries_test (up_from 1 m) in
      let D : Bool = all ids_test (up_from 1 n) in
      let E : Bool = tails_test u.state.sizes u.tables v.tables in
      let p : (A ≡ true) × ((B && (C && (D && E))) ≡ true) = and_both A (B && (C && (D && E))) z in
      let q : (B ≡ true) × ((C && (D && E)) ≡ true) = and_both B (C && (D && E)) p.1 in
      let r : (C ≡ true) × ((D && E) ≡ true) = and_both C (D && E) q.1 in
      let s : (D ≡ true) × (E ≡ true) = and_both D E r.1 in
      let apart : (i : ℕ) → 1 ≤ i → i ≤ n → among i (effect (booked_in u) k).ids ≡ false →
      (book_test (book_in u.state u.tables) (book_in v.state v.tables) i ≡ true) ×
      (minutes_test n (windows_in u.state u.tables) (windows_in v.state v.tables) i ≡ true) =
      λ i a b t. and_both (book_test (book_in u.state u.tables) (book_in v.state v.tables) i)
      (minutes_test n (windows_in u.state u.tables) (windows_in v.state v.tables) i)
      (either (among i (effect (booked_in u) k).ids)
      (book_test (book_in u.state u.tables) (book_in v.state v.tables) i && minutes_test n (windows_in u.state u.tables) (windows_in v.state v.tables) i)
      (at-number ids_test n s.0 i a b) t) in
      record {
        sizes = l;
        limits = g;
        clock = o;
        sound = p.0;
        columns = λ f. ap (λ (cs : List Column). sum_of f cs) c;
        others = λ j a b t. stays-passed (stored_in u.state u.tables) (stored_in v.state v.tables) j
            (either (among j (touched_by (booked_in u) k)) (stays_test (stored_in u.state u.tables) (stored_in v.state v.tables) j)
            (at-number others_test m q.0 j a b) t);
        entries = λ j a b x y p q e h. keeps-passed (stored_in u.state u.tables) (stored_in v.state v.tables) j (at-number entries_test m r.0 j a b) x y p q e;
        book = λ i a b t. book-passed (book_in u.state u.tables) (book_in v.state v.tables) i (apart i a b t).0;
        minutes = λ i a b t. minutes-passed n (windows_in u.state u.tables) (windows_in v.state v.tables) i (apart i a b t).1;
        still = still;
        tails = tails-passed u.state.sizes u.tables v.tables s.1;
      }
