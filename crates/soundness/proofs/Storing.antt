-- What is stored after a column's chain fitted and its parent was found the same: the column is linked to its parent, the end of its rows is stored and its
-- last record named. Each part of the state of one column more, in this order: what the stores leave, counters and lists, the stash, the chains and
-- their last records; then the whole (closing-state). Assumes nothing.
use mathlib.Core.Path.{◌≡◌, sym, ap, subst, ◌∙◌}
use mathlib.Core.Logic.{inl, inr, ◌≢◌}
use mathlib.Core.Bool.{true}
use mathlib.Core.List.{List, [], ◌∷◌, ◌++◌}
use Prim.Native.Nat.{ℕ, suc, ◌+◌, ◌*◌, ◌-◌, ◌≤◌, ◌<◌}
use native.Mathlib.Omega.{arith}
use Rattle.std.specs.Prelude.{Option, Some}
use lib.ListN.{length, get_or, take, set, length-set, length-append}
use lib.Seq.{get_or-set_same, get_or-set_other, take-suc}
use borrow.Author.Tests.{eq-eqb}
use Rattle.lists.specs.Lists.{at, values_at}
use Rattle.lists.proofs.Tests.{eq-or-ne, both-and}
use Rattle.workspace.specs.Layout.{column_head, stash_start, lasts_at, names_at, row_stash, column_next}
use Rattle.workspace.specs.Regions.{cell, region, Outside, IsZero}
use Rattle.workspace.proofs.Regions.{region-ext}
use Rattle.symbolic.specs.Factor.{FactorColumn, factor_of, column_at, parent_of}
use Rattle.pool.specs.declared.Rec.{Rec}
use Rattle.pool.specs.Chains.{chain}
use Rattle.pool.specs.Whole.{chains, AllLinked}
use Rattle.pool.specs.Ends.{last_from, lasts}
use Rattle.pool.proofs.Whole.{chains-append, chains_cons, chains-nil, all_nil, all_cons, all_join}
use Rattle.pool.proofs.Apart.{lasts-nil, lasts-cons, lasts-append}
use Rattle.ends.specs.Naming.{CanName, named_in, Named}
use Rattle.ends.proofs.Naming.{NamedOnly, named-only, named_keep, named-next, named-region}
use Rattle.book.specs.Book as book
use Rattle.tables.specs.Stored.{Stored, records_of, holds_column}
use Rattle.counting.specs.Counting.{linked_in, ListedIn, start_at, OnlyTwo}
use Rattle.counting.specs.Given.{Counted, given_in}
use Rattle.counting.proofs.Linking.{link-only, link-listed}
use Rattle.soundness.specs.Checking.{Checked}
use Rattle.soundness.specs.State.{live_in, walked, Walked, Stash, State, WithinWork, ColumnsRead}
use Rattle.soundness.proofs.Column.{Found}
use Rattle.soundness.proofs.Closing.{chain-read, closing-within, closing-length, closing-facts}

-- ---- lists that a change leaves

pub listed-keep : (w x : List ℕ) (a m b l : ℕ) (f : ℕ → ℕ) (n : ℕ) → region x b l ≡ region w b l → ((i : ℕ) → i < m → cell x a i ≡ cell w a i) → ListedIn w a m b l f n → ListedIn x a m b l f n
listed-keep w x a m b l f n e h t v p q = rw (e, h (v - 1) (omega arith)) (t v p q)

-- ---- one head more

module _ (ns xs : List ℕ) (h : ℕ) where
  chains-more : length (chains ns (xs ++ (h ∷ []))) ≡ length (chains ns xs) + length (chain ns h)
  chains-more =
      omega (
        arith,
        ap length (chains-append ns xs (h ∷ [])),
        length-append (chains ns xs) (chains ns (h ∷ [])),
        ap length (chains_cons ns h []),
        length-append (chain ns h) (chains ns []),
        ap length (chains-nil ns),
      )

  lasts-more : lasts ns (xs ++ (h ∷ [])) ≡ lasts ns xs ++ (last_from ns h ∷ [])
  lasts-more = lasts-append ns xs (h ∷ []) ∙ ap (λ (l : List ℕ). lasts ns xs ++ l) (lasts-cons ns h [] ∙ ap (λ (l : List ℕ). last_from ns h ∷ l) (lasts-nil ns))

-- ---- what the stores leave

module _ {s : Stored} {b : book.Book} {windows : List ℕ} {clock : ℕ} {w : List ℕ} {j met : ℕ} (st : State s b windows clock w j met) (inside : j ≤ length s.heads) {w₁ : List ℕ} {n last : ℕ} (found : Found s b windows clock w₁ j met n last)
    {size : ℕ} (d : Counted (length s.heads) w w₁ (given_in b.heads b.rows b.next w (length s.heads) (length s.next) j) size)
    {w₂ : List ℕ} {a : Option (ℕ × Rec)} (k : Checked s.rows s.counts s.next w₁ w₂ (length s.heads) met (at s.heads j) a) where
  abbrev m : ℕ
  m = length s.heads

  abbrev f : ℕ
  f = length s.next

  abbrev L : List FactorColumn
  L = factor_of (length s.heads) (live_in s b windows clock)

  two-length : length w₂ ≡ length w
  two-length = closing-length st inside found d k

  parent_in : parent_of L j ≤ m
  parent_in = closing-within st inside found

  -- a place that neither the counting nor the walk wrote
  two-place : (x : ℕ) → m ≤ x → Outside (row_stash m f) f x → get_or w₂ x 0 ≡ get_or w x 0
  two-place x p q = k.only.outside x (inr (omega arith)) q ∙ d.only.outside x (inr (omega arith))

  module _ (p : ℕ) (p-is : p ≡ parent_of L j) (same-parent : at s.parents j ≡ p) {w₃ : List ℕ} (link-is : w₃ ≡ linked_in w₂ m (2 * m) p j)
      {w₄ : List ℕ} (Store-is : w₄ ≡ set w₃ (4 * m + j) n) where
    linked-only : OnlyTwo m m (2 * m) m w₂ w₃
    linked-only = rw link-is (link-only w₂ m m (2 * m) m p j st.low inside (omega (arith, parent_in)))

    four-length : length w₄ ≡ length w
    four-length = ap length Store-is ∙ length-set w₃ (4 * m + j) n ∙ linked-only.same_length ∙ two-length

    -- a place that the link and the store left
    four-place : (x : ℕ) → Outside m (2 * m) x → x ≢ 4 * m + j → get_or w₄ x 0 ≡ get_or w₂ x 0
    four-place x q e =
        ap (λ (z : List ℕ). get_or z x 0) Store-is ∙ get_or-set_other w₃ (4 * m + j) x n 0 e ∙
        linked-only.outside x (elim q [ inl h ↦ inl (omega arith) | inr h ↦ inr (omega arith) ]) (elim q [ inl h ↦ inl (omega arith) | inr h ↦ inr (omega arith) ])

    four-far : (x : ℕ) → 3 * m ≤ x → x ≢ 4 * m + j → Outside (row_stash m f) f x → get_or w₄ x 0 ≡ get_or w x 0
    four-far x h e q = four-place x (inr (omega arith)) e ∙ two-place x (omega arith) q

    -- any record of the pool can be named, and 0
    pub closing-name : {e : ℕ} → e ≤ length s.next → CanName w₄ (6 * length s.heads) (8 * length s.heads) j e
    closing-name h =
        record { low = st.low; last-in = omega (arith, st.sizes.long, four-length); name_in = λ p. omega (arith, st.sizes.long, four-length) }

    last-few : last ≤ f
    last-few = (closing-facts st inside found d k).last-in

    module _ {w₅ : List ℕ} (name-is : w₅ ≡ named_in w₄ (6 * m) (8 * m) j last) where
      five-only : NamedOnly (6 * m) (8 * m) j f w₄ w₅
      five-only = rw name-is (named-only w₄ (6 * m) (8 * m) j last f st.low last-few)

      five-length : length w₅ ≡ length w
      five-length = five-only.same_length ∙ four-length

      -- places before the last records, and past the names
      near : (x : ℕ) → x < 6 * m → get_or w₅ x 0 ≡ get_or w₄ x 0
      near x h = five-only.outside x (λ z. omega arith) (inl (omega arith))

      past : (x : ℕ) → 8 * m + f ≤ x → get_or w₅ x 0 ≡ get_or w₄ x 0
      past x h = five-only.outside x (λ z. omega (arith, inside, st.low)) (inr h)

      -- ---- counters and lists

      next-zero : IsZero w₅ 0 m
      next-zero i h = near (0 + i) (omega arith) ∙ four-place (0 + i) (inl (omega arith)) (λ e. omega arith) ∙ (chain-read st inside found d k).zero i h

      next-columns : ListedIn w₅ (column_head m) m (column_next m f (length b.next)) (length b.heads) (start_at b windows clock) (length b.heads)
      next-columns =
          let c : ℕ = column_next m f (length b.next) in
          listed-keep w w₅ (column_head m) m c (length b.heads) (start_at b windows clock) (length b.heads)
          (region-ext w w₅ c c (length b.heads) (omega (arith, st.sizes.long)) (omega (arith, st.sizes.long, five-length))
          (λ i h. past (c + i) (omega arith) ∙ four-far (c + i) (omega arith) (λ e. omega arith) (inr (omega arith))))
          (λ i h. near (column_head m + i) (omega arith) ∙ four-far (column_head m + i) (omega arith) (λ e. omega arith) (inl (omega arith))) st.columns

      two-children : ListedIn w₂ m m (2 * m) m (at s.parents) (j - 1)
      two-children =
          listed-keep w w₂ m m (2 * m) m (at s.parents) (j - 1)
          (region-ext w w₂ (2 * m) (2 * m) m (omega (arith, st.sizes.long)) (omega (arith, st.sizes.long, two-length))
          (λ i h. two-place (2 * m + i) (omega arith) (inl (omega arith))))
          (λ i h. two-place (m + i) (omega arith) (inl (omega arith))) st.children

      next-children : ListedIn w₅ m m (2 * m) m (at s.parents) (j + 1 - 1)
      next-children =
          let q : j + 1 - 1 ≡ j = omega arith in
          let e : j ≡ suc (j - 1) = omega (arith, st.low) in
          let t : ListedIn w₃ m m (2 * m) m (at s.parents) j =
          rw link-is (link-listed w₂ m m (2 * m) m (at s.parents) (j - 1) p j (omega arith) (omega (arith, st.sizes.long, two-length)) e inside same-parent (omega (arith, parent_in)) two-children) in
          rw q (listed-keep w₃ w₅ m m (2 * m) m (at s.parents) j
          (region-ext w₃ w₅ (2 * m) (2 * m) m (omega (arith, st.sizes.long, two-length, linked-only.same_length)) (omega (arith, st.sizes.long, five-length)) (λ i h. stored (2 * m + i) (omega arith)))
          (λ i h. stored (m + i) (omega arith)) t)
        where
          stored : (x : ℕ) → x < 4 * m → get_or w₅ x 0 ≡ get_or w₃ x 0
          stored x h = near x (omega arith) ∙ ap (λ (z : List ℕ). get_or z x 0) Store-is ∙ get_or-set_other w₃ (4 * m + j) x n 0 (λ e. omega arith)

      -- ---- the stash

      starts-keep : (c : ℕ) → c < j → cell w₅ (stash_start m) c ≡ cell w (stash_start m) c
      starts-keep c h =
          near (stash_start m + c) (omega arith) ∙ four-far (stash_start m + c) (omega arith) (λ e. omega arith) (inl (omega arith))

      start-new : cell w₅ (stash_start m) j ≡ n
      start-new =
          near (stash_start m + j) (omega (arith, st.sizes.some)) ∙ ap (λ (z : List ℕ). get_or z (stash_start m + j) 0) Store-is ∙
          get_or-set_same w₃ (4 * m + j) n 0 (omega (arith, st.sizes.long, two-length, linked-only.same_length, st.sizes.some))

      next-stash : Stash s w₅ (j + 1) n
      next-stash =
          record {
            here = (let q : j + 1 - 1 ≡ j = omega arith in ap (cell w₅ (stash_start m)) q ∙ start-new);
            start = λ c g h.
                elim (eq-or-ne c j) [
                  | inl e ↦
                      subst (λ (z : ℕ). cell w₅ (stash_start m) z ≡ cell w₅ (stash_start m) (z - 1) + length (records_of s z)) (sym e)
                      (omega (arith, start-new, starts-keep (j - 1) (omega (arith, st.low)), st.stash.here, found.count))
                  | inr e ↦ omega (arith, starts-keep c (omega arith), starts-keep (c - 1) (omega arith), st.stash.start c g (omega arith))
                ];
            below = λ c g h.
                elim (eq-or-ne c j) [
                  | inl e ↦ subst (λ (z : ℕ). cell w₅ (stash_start m) z ≤ n) (sym e) (omega (arith, start-new))
                  | inr e ↦ omega (arith, starts-keep c (omega arith), st.stash.below c g (omega arith), found.count)
                ];
            rows_are = λ c g h. elim (eq-or-ne c j) [ inl e ↦ subst Rows (sym e) new-rows | inr e ↦ old-rows c g (omega arith) ];
          }
        where
          Rows : ℕ → Type 0
          Rows c = region w₅ (row_stash m f + cell w₅ (stash_start m) (c - 1)) (length (records_of s c)) ≡ values_at s.rows (records_of s c)

          fits_all : row_stash m f + n ≤ length w
          fits_all = omega (arith, found.within, st.sizes.long)

          -- the stash after the walk
          stashed : (x : ℕ) → row_stash m f ≤ x → get_or w₅ x 0 ≡ get_or w₂ x 0
          stashed x h = past x h ∙ four-place x (inr (omega arith)) (λ z. omega arith)

          new-rows : Rows j
          new-rows =
              let e : cell w₅ (stash_start m) (j - 1) ≡ met = starts-keep (j - 1) (omega (arith, st.low)) ∙ st.stash.here in
              rw e
              (region-ext w₂ w₅ (row_stash m f + met) (row_stash m f + met) (length (records_of s j)) (omega (arith, fits_all, found.count, two-length)) (omega (arith, fits_all, found.count, five-length))
              (λ i h. stashed (row_stash m f + met + i) (omega arith)) ∙ (chain-read st inside found d k).stash)

          old-rows : (c : ℕ) → 1 ≤ c → c < j → Rows c
          old-rows c g h =
              let e : cell w₅ (stash_start m) (c - 1) ≡ cell w (stash_start m) (c - 1) = starts-keep (c - 1) (omega arith) in
              let y : cell w (stash_start m) (c - 1) + length (records_of s c) ≤ met = omega (arith, st.stash.start c g h, st.stash.below c g h) in
              let x : ℕ = row_stash m f + cell w (stash_start m) (c - 1) in
              rw e
              (region-ext w w₅ x x (length (records_of s c)) (omega (arith, fits_all, found.count)) (omega (arith, fits_all, found.count, five-length))
              (λ i q.
              (let z : cell w (stash_start m) (c - 1) + i < met = omega arith in
              let u : x + i ≡ row_stash m f + (cell w (stash_start m) (c - 1) + i) = omega arith in
              stashed (x + i) (omega arith) ∙ ap (λ (v : ℕ). get_or w₂ v 0) u ∙ (chain-read st inside found d k).stash-before (cell w (stash_start m) (c - 1) + i) z ∙
              ap (λ (v : ℕ). get_or w₁ v 0) (sym u) ∙ d.only.outside (x + i) (inr (omega arith)))) ∙ st.stash.rows_are c g h)

      -- ---- the chains and their last records

      heads-more : walked s (j + 1) ≡ walked s j ++ (at s.heads j ∷ [])
      heads-more =
          let q : j + 1 - 1 ≡ suc (j - 1) = omega (arith, st.low) in
          ap (λ (x : ℕ). take x s.heads) q ∙ take-suc s.heads (j - 1) 0 (omega (arith, st.low))

      -- the last records and names before this one's
      names-kept : Named w₄ (lasts_at m) (j - 1) (names_at m) f
      names-kept =
          named_keep st.chains-walked.named
          (λ i h. four-far (lasts_at m + i) (omega arith) (λ e. omega (arith, st.sizes.some)) (inl (omega arith)))
          (λ i h. four-far (names_at m + i) (omega arith) (λ e. omega (arith, st.sizes.some)) (inl (omega arith)))

      lasts-kept : region w₄ (lasts_at m) (j - 1) ≡ lasts s.next (walked s j)
      lasts-kept =
          region-ext w w₄ (lasts_at m) (lasts_at m) (j - 1) (omega (arith, st.sizes.long)) (omega (arith, st.sizes.long, four-length))
          (λ i h. four-far (lasts_at m + i) (omega arith) (λ e. omega (arith, st.sizes.some)) (inl (omega arith))) ∙ st.chains-walked.lasts_are

      -- with this one's, in the table before the number j is rewritten
      named_new : (i : ℕ) → j ≡ suc i → (region w₅ (lasts_at m) (suc i) ≡ region w₄ (lasts_at m) i ++ (last ∷ [])) × Named w₅ (lasts_at m) (suc i) (names_at m) f
      named_new i e =
          let d : Named w₄ (6 * m) i (8 * m) f = (let q : j - 1 ≡ i = omega arith in subst (λ (x : ℕ). Named w₄ (6 * m) x (8 * m) f) q names-kept) in
          let t : w₅ ≡ named_in w₄ (6 * m) (8 * m) (suc i) last = name-is ∙ ap (λ (x : ℕ). named_in w₄ (6 * m) (8 * m) x last) e in
          let r : 6 * m + i < length w₄ = omega (arith, st.sizes.long, four-length) in
          let v : 1 ≤ last → 8 * m + (last - 1) < length w₄ = λ h. omega (arith, st.sizes.long, four-length, last-few) in (
            ap (λ (l : List ℕ). region l (6 * m) (suc i)) t ∙ named-region last d last-few (inl (omega arith)) r v,
            subst (λ (l : List ℕ). Named l (6 * m) (suc i) (8 * m) f) (sym t) (named-next last d last-few (inl (omega arith)) r v),
          )

      next-walked : Walked s w₅ (j + 1) n
      next-walked =
          let q : j + 1 - 1 ≡ suc (j - 1) = omega (arith, st.low) in
          let new : (region w₅ (lasts_at m) (suc (j - 1)) ≡ region w₄ (lasts_at m) (j - 1) ++ (last ∷ [])) × Named w₅ (lasts_at m) (suc (j - 1)) (names_at m) f = named_new (j - 1) (omega (arith, st.low)) in
          record {
            linked = subst (AllLinked s.next) (sym heads-more)
                (all_join s.next (walked s j) (at s.heads j ∷ []) st.chains-walked.linked (all_cons s.next (at s.heads j) [] found.linked (all_nil s.next)));
            counted = omega (arith, found.count, st.chains-walked.counted, ap (λ (l : List ℕ). length (chains s.next l)) heads-more, chains-more s.next (walked s j) (at s.heads j));
            within = found.within;
            lasts_are =
                ap (region w₅ (lasts_at m)) q ∙ new.0 ∙ ap (λ (l : List ℕ). l ++ (last ∷ [])) lasts-kept ∙
                ap (λ (x : ℕ). lasts s.next (walked s j) ++ (x ∷ [])) found.last-is ∙ sym (ap (lasts s.next) heads-more ∙ lasts-more s.next (walked s j) (at s.heads j));
            named = subst (λ (x : ℕ). Named w₅ (lasts_at m) x (names_at m) f) (sym q) new.1;
          }

      pub closing-only : WithinWork s b w w₅
      closing-only =
          record {
            same_length = five-length;
            outside = λ x o. elim o [
              | inl h ↦ absurd (omega arith)
              | inr h ↦ past x (omega arith) ∙ four-far x (omega arith) (λ e. omega (arith, st.sizes.some)) (inr (omega arith))
            ];
          }

      pub closing-state : State s b windows clock w₅ (j + 1) n
      closing-state =
          record {
            sizes = record {
              stored = st.sizes.stored;
              booked = st.sizes.booked;
              some = st.sizes.some;
              m-bound = st.sizes.m-bound;
              n-bound = st.sizes.n-bound;
              f-bound = st.sizes.f-bound;
              c-bound = st.sizes.c-bound;
              long = omega (arith, st.sizes.long, five-length);
            };
            low = omega arith;
            high = omega arith;
            sound = st.sound;
            chains-walked = next-walked;
            zero = next-zero;
            children = next-children;
            columns = next-columns;
            stash = next-stash;
            holds = λ c g h.
                elim (eq-or-ne c j) [
                  | inl e ↦
                      subst (λ (z : ℕ). holds_column s z (column_at L z) ≡ true) (sym e) (both-and found.held (eq-eqb (at s.parents j) (parent_of L j) (same-parent ∙ p-is)))
                  | inr e ↦ st.holds c g (omega arith)
                ];
          }

-- the column was read, for whatever windows and clock the state was known
pub closing_end : {s : Stored} {b : book.Book} {w : List ℕ} {j met : ℕ} {w₅ : List ℕ} {n : ℕ} → WithinWork s b w w₅ →
    ((windows : List ℕ) (clock : ℕ) → State s b windows clock w j met → State s b windows clock w₅ (j + 1) n) → ColumnsRead s b w j met w₅ (j + 1) (Some n)
closing_end {s} {b} {w} {j} {met} {w₅} {n} only h =
    record {
      only = only;
      cut = λ e. absurd (let z : ◌≡◌ {A = ℕ} 0 1 = cc in omega arith);
      next = λ l e windows clock st. (let q : n ≡ l = cc in subst (State s b windows clock w₅ (j + 1)) q (h windows clock st));
    }
