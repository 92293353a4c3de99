-- The turns of the loop that commits a plan: an entry with a new multiplicity, a new entry, one that is gone (`committing-applied` has all three); then
-- the start, with and without an entry for the first row (`committing-begun`), and the end; last the same by the plan's place k, as the code has it.
-- Assumes nothing.
use mathlib.Core.Path.{◌≡◌, refl, sym, ap, ◌∙◌, subst}
use mathlib.Core.Logic.{◌≢◌}
use mathlib.Core.List.{List, [], ◌∷◌, ◌++◌, append_assoc, append-nil}
use Prim.Native.Nat.{ℕ, suc, ◌+◌, ◌-◌, ◌≤◌, ◌<◌}
use native.Mathlib.Omega.{arith}
use native.Mathlib.Numerals.{add-one}
use lib.ListN.{length, get_or, take, drop, length-append, length-take, length-drop, drop_of_length-le}
use lib.Seq.{drop-cons, get_or-take, get_or-drop}
use Rattle.lists.specs.Lists.{at, put, times}
use Rattle.lists.proofs.Times.{times-nil, times-self, times-cons, times-append, times-mid, times-mem}
use Rattle.lists.proofs.Place.{put_same, at-put-same}
use Rattle.workspace.specs.Planned.{row_of, multiplicity_of, kind_of}
use Rattle.pool.specs.Chains.{chain}
use Rattle.pool.specs.Changes.{insert_after, unlink_after}
use Rattle.pool.proofs.Chains.{Step, linked-step, linked-some}
use Rattle.columns.specs.Plan.{changed, new, gone, planned, Suits, of_kind}
use Rattle.columns.specs.Apply.{CanApply, Applied, recounted, inserted, unlinked, CanBegin, Begun, first-planned, first-stays}
use Rattle.columns.specs.Commit.{HoldsFrom, CanCommitChain, Rewritten, CommittedChain}
use Rattle.columns.proofs.Search.{Here, here}
use Rattle.columns.proofs.Holding.{Next, absent, present, First, holds-nil, holds-skip, holds-cons, holds-append, holds-next, holds-first, holds_row, holds-rises, rises-once, holds-count-put, holds-put}
use Rattle.columns.proofs.Surgery.{rewritten-once, rewritten-low, rewritten-recount, rewritten-insert, rewritten-unlink, rewritten-start}
use Rattle.columns.proofs.Plan.{Entry, suits-next, suits-above, at_cut, planned-none, planned_below, kind-none, kind-here, kind-other}
use Rattle.columns.proofs.Committing.{Numbers, numbers-next, Committing, Moved, base, committing-moved, committing-can, Found, moved-found, front_low, ahead-low}

module _ {rows₀ counts₀ next₀ : List ℕ} {head free₀ : ℕ} {ns plan : List ℕ} (can : CanCommitChain rows₀ counts₀ next₀ head free₀ ns plan) where
  module _ {rows counts next : List ℕ} {p free e : ℕ} {es : List ℕ} (m : Moved rows₀ counts₀ next₀ head free₀ ns plan rows counts next p free e es) where
    numbers : Numbers ns plan es (m.old ++ (m.count ∷ [])) (m.now ++ (multiplicity_of e ∷ [])) m.coming
    numbers = numbers-next ns plan e es m.old m.now m.count m.coming m.parts m.same m.place m.result m.suits

    further : suc (row_of e) ≡ suc (length (m.now ++ (multiplicity_of e ∷ [])))
    further = omega (arith, length-append m.now (multiplicity_of e ∷ []), m.place)

    -- ---- a new multiplicity

    recount : kind_of e ≡ 0 → Found can m → 0 < multiplicity_of e → Committing rows₀ counts₀ next₀ head free₀ ns plan rows (put counts (at next p) (multiplicity_of e)) next (at next p) free es
    recount k f pos =
        let q : ℕ = at next p in
        let v : ℕ = multiplicity_of e in
        let wide : q ≤ length counts = omega (arith, f.high, m.rewritten.counts-long, can.counts-long, m.rewritten.changed.same_length) in
        let records : m.passed ++ (p ∷ m.ahead) ≡ (m.passed ++ (p ∷ [])) ++ (q ∷ f.tail) = f.records ∙ sym (append_assoc m.passed (p ∷ []) (q ∷ f.tail)) in
        record {
          passed = m.passed ++ (p ∷ []);
          ahead = f.tail;
          rest = m.rest;
          old = m.old ++ (m.count ∷ []);
          now = m.now ++ (v ∷ []);
          coming = m.coming;
          rewritten = subst (λ (l : List ℕ). Rewritten rows₀ counts₀ next₀ head free₀ rows (put counts q v) next free l m.rest) records (rewritten-recount (base can) m.rewritten q v f.inside);
          numbers = numbers;
          front =
              holds-append (holds-count-put q f.low (front_low can m) f.not-front m.front v)
              (holds-cons q v (omega (arith, f.row, m.place)) (at-put-same counts q v f.low wide) pos (holds-nil (suc (1 + length m.now))));
          back =
              subst (λ (a : ℕ). HoldsFrom rows (put counts q v) a m.coming f.tail) further (holds-count-put q f.low f.tail-low f.not-tail f.back v);
          room = omega (arith, m.room, kind-other 1 e es (λ z. omega arith));
          balance = omega (arith, m.balance, kind-other 1 e es (λ z. omega arith), kind-other 2 e es (λ z. omega arith));
        }

    -- ---- a new entry, in the first free record

    no_row : m.count ≡ 0 → (x : ℕ) → 1 ≤ times x (chain next₀ head) → at rows₀ x ≢ row_of e
    no_row z x n q =
        let t : (k : ℕ) × (at rows₀ x ≡ 1 + k) × (k < length ns) × (0 < get_or ns k 0) = holds_row can.holds x (times-mem x (chain next₀ head) n) in
        let k-is : t.0 ≡ row_of e - 1 = omega arith in
        let count-is : at ns (row_of e) ≡ m.count = ap (λ (l : List ℕ). at l (row_of e)) m.parts ∙ at_cut m.old m.count m.coming (row_of e) (omega (arith, m.place, m.same)) in
        omega (arith, ap (λ (k : ℕ). get_or ns k 0) k-is)

    insert : kind_of e ≡ 1 → m.count ≡ 0 → 0 < multiplicity_of e → Step next free m.rest → HoldsFrom rows counts (suc (row_of e)) m.coming m.ahead →
        Committing rows₀ counts₀ next₀ head free₀ ns plan (put rows free (row_of e)) (put counts free (multiplicity_of e)) (insert_after next p free) free (at next free) es
    insert k z pos s back =
        let i : ℕ = row_of e in
        let v : ℕ = multiplicity_of e in
        let rewritten : Rewritten rows₀ counts₀ next₀ head free₀ rows counts next free (m.passed ++ (p ∷ m.ahead)) (free ∷ s.rest) =
        subst (λ (l : List ℕ). Rewritten rows₀ counts₀ next₀ head free₀ rows counts next free (m.passed ++ (p ∷ m.ahead)) l) s.parts m.rewritten in
        let one : times free (m.passed ++ (p ∷ m.ahead)) + times free m.rest ≤ 1 = rewritten-once (base can) m.rewritten free in
        let self : times free m.rest ≡ 1 + times free s.rest = ap (times free) s.parts ∙ times-self free s.rest in
        let mid : times free (m.passed ++ (p ∷ m.ahead)) ≡ times free m.passed + (times free (p ∷ []) + times free m.ahead) = times-mid free m.passed p m.ahead in
        let not-front : times free (m.passed ++ (p ∷ [])) ≡ 0 = omega (arith, times-append free m.passed (p ∷ [])) in
        let rows-wide : free ≤ length rows = omega (arith, s.high, m.rewritten.rows_long, can.rows_long, m.rewritten.changed.same_length) in
        let counts-wide : free ≤ length counts = omega (arith, s.high, m.rewritten.counts-long, can.counts-long, m.rewritten.changed.same_length) in
        record {
          passed = m.passed ++ (p ∷ []);
          ahead = m.ahead;
          rest = s.rest;
          old = m.old ++ (m.count ∷ []);
          now = m.now ++ (v ∷ []);
          coming = m.coming;
          rewritten =
              subst (λ (l : List ℕ). Rewritten rows₀ counts₀ next₀ head free₀ (put rows free i) (put counts free v) (insert_after next p free) (at next free) l s.rest)
              (sym (append_assoc m.passed (p ∷ []) (free ∷ m.ahead))) (rewritten-insert (base can) m.passed p m.ahead free s.rest rewritten i v (no_row z));
          numbers = numbers;
          front =
              holds-append (holds-put free s.low (front_low can m) not-front m.front i v)
              (holds-cons free v (at-put-same rows free i s.low rows-wide ∙ sym m.place ∙ next-is) (at-put-same counts free v s.low counts-wide) pos (holds-nil (suc (1 + length m.now))));
          back = subst (λ (a : ℕ). HoldsFrom (put rows free i) (put counts free v) a m.coming m.ahead) further (holds-put free s.low (ahead-low can m) (omega arith) back i v);
          room = omega (arith, m.room, kind-here 1 e es k, ap length s.parts);
          balance = omega (arith, m.balance, kind-here 1 e es k, kind-other 2 e es (λ z. omega arith), ap length s.parts);
        }
      where
        next-is : suc (length m.now) ≡ 1 + length m.now
        next-is = omega arith

    -- ---- an entry that is gone

    unlink : kind_of e ≡ 2 → Found can m → multiplicity_of e ≡ 0 →
        Committing rows₀ counts₀ next₀ head free₀ ns plan (put rows (at next p) 0) (put counts (at next p) 0) (unlink_after next p (at next p) free) p (at next p) es
    unlink k f z =
        let q : ℕ = at next p in
        let v : ℕ = multiplicity_of e in
        let rewritten : Rewritten rows₀ counts₀ next₀ head free₀ rows counts next free (m.passed ++ (p ∷ (q ∷ f.tail))) m.rest =
        subst (λ (l : List ℕ). Rewritten rows₀ counts₀ next₀ head free₀ rows counts next free l m.rest) f.records m.rewritten in
        record {
          passed = m.passed;
          ahead = f.tail;
          rest = q ∷ m.rest;
          old = m.old ++ (m.count ∷ []);
          now = m.now ++ (v ∷ []);
          coming = m.coming;
          rewritten = rewritten-unlink (base can) m.passed p q f.tail m.rest rewritten;
          numbers = numbers;
          front =
              subst (λ (l : List ℕ). HoldsFrom (put rows q 0) (put counts q 0) 1 (m.now ++ (v ∷ [])) l) (append-nil (m.passed ++ (p ∷ [])))
              (holds-append (holds-put q f.low (front_low can m) f.not-front m.front 0 0) (holds-skip v z (holds-nil (suc (1 + length m.now)))));
          back = subst (λ (a : ℕ). HoldsFrom (put rows q 0) (put counts q 0) a m.coming f.tail) further (holds-put q f.low f.tail-low f.not-tail f.back 0 0);
          room = omega (arith, m.room, kind-other 1 e es (λ z. omega arith));
          balance = omega (arith, m.balance, kind-other 1 e es (λ z. omega arith), kind-here 2 e es k);
        }

    -- ---- by what the code did

    pub moved-recount : kind_of e ≡ 0 → Committing rows₀ counts₀ next₀ head free₀ ns plan rows (put counts (at next p) (multiplicity_of e)) next (at next p) free es
    moved-recount k =
        elim m.kind [
          | changed z o n ↦ recount k (moved-found can m o) n
          | new z o n ↦ absurd (omega arith)
          | gone z o n ↦ absurd (omega arith)
        ]

    pub moved-insert : kind_of e ≡ 1 → Committing rows₀ counts₀ next₀ head free₀ ns plan (put rows free (row_of e)) (put counts free (multiplicity_of e)) (insert_after next p free) free (at next free) es
    moved-insert k =
        elim m.kind [
          | changed z o n ↦ absurd (omega arith)
          | new z o n ↦ insert k o n free_step (behind (holds-next (row_of e) m.count m.coming m.ahead m.back) o)
          | gone z o n ↦ absurd (omega arith)
        ]
      where
        free_step : Step next free m.rest
        free_step = linked-step next free m.rest (linked-some next free m.rest (omega (arith, m.room, kind-here 1 e es k)) m.rewritten.changed.unused) m.rewritten.changed.unused

        behind : Next rows counts (row_of e) m.count m.coming m.ahead → m.count ≡ 0 → HoldsFrom rows counts (suc (row_of e)) m.coming m.ahead
        behind (absent z h) o = h
        behind (present r ss d x y n h) o = absurd (omega arith)

    pub moved-unlink : kind_of e ≢ 0 → kind_of e ≢ 1 → Committing rows₀ counts₀ next₀ head free₀ ns plan (put rows (at next p) 0) (put counts (at next p) 0) (unlink_after next p (at next p) free) p (at next p) es
    moved-unlink k l =
        elim m.kind [
          | changed z o n ↦ absurd (k z)
          | new z o n ↦ absurd (l z)
          | gone z o n ↦ unlink z (moved-found can m o) n
        ]

  pub committing-applied : {rows counts next : List ℕ} {p free e : ℕ} {es rows₁ counts₁ next₁ : List ℕ} {p₁ free₁ : ℕ} →
      Committing rows₀ counts₀ next₀ head free₀ ns plan rows counts next p free (e ∷ es) → Applied rows counts next p free e rows₁ counts₁ next₁ p₁ free₁ →
      Committing rows₀ counts₀ next₀ head free₀ ns plan rows₁ counts₁ next₁ p₁ free₁ es
  committing-applied i (recounted k a b c d f) = rw (a, b, c, d, f) (moved-recount (committing-moved can i) k)
  committing-applied i (inserted k a b c d f) = rw (a, b, c, d, f) (moved-insert (committing-moved can i) k)
  committing-applied i (unlinked k l a b c d f) = rw (a, b, c, d, f) (moved-unlink (committing-moved can i) k l)

  -- ---- the start

  chain_head : Here next₀ head
  chain_head = here next₀ head (λ z. omega (arith, can.some)) can.beside.linked

  diagonal : First rows₀ counts₀ 1 ns head (chain next₀ (at next₀ head))
  diagonal = holds-first 1 ns head (chain next₀ (at next₀ head)) (subst (λ (l : List ℕ). HoldsFrom rows₀ counts₀ 1 ns l) chain_head.parts can.holds)

  rewritten-first : Rewritten rows₀ counts₀ next₀ head free₀ rows₀ counts₀ next₀ free₀ (head ∷ chain next₀ (at next₀ head)) (chain next₀ free₀)
  rewritten-first =
      subst (λ (l : List ℕ). Rewritten rows₀ counts₀ next₀ head free₀ rows₀ counts₀ next₀ free₀ l (chain next₀ free₀)) chain_head.parts
      (rewritten-start (base can) can.zero (λ x y a b e.
      rises-once rows₀ 1 (length ns) (chain next₀ head) (holds-rises (length ns) (omega arith) can.holds) (times-mem x (chain next₀ head) a) (times-mem y (chain next₀ head) b) e))

  -- the first row's multiplicity, from its entry or as it is
  begin : (v : ℕ) (left counts : List ℕ) → 0 < v → Numbers ns plan left (diagonal.skipped ++ (diagonal.count ∷ [])) (diagonal.skipped ++ (v ∷ [])) diagonal.after →
      of_kind 1 left ≡ of_kind 1 plan → of_kind 2 left ≡ of_kind 2 plan → counts ≡ put counts₀ head v → Committing rows₀ counts₀ next₀ head free₀ ns plan rows₀ counts next₀ head free₀ left
  begin v left counts pos numbers one two q =
      let d = diagonal in
      let h = chain_head in
      let tail : List ℕ = chain next₀ (at next₀ head) in
      let self : times head (head ∷ tail) ≡ 1 + times head tail = times-self head tail in
      let once : times head (head ∷ tail) + times head (chain next₀ free₀) ≤ 1 = rewritten-once (base can) rewritten-first head in
      let low : (x : ℕ) → 1 ≤ times x tail → 1 ≤ x = λ x n. rewritten-low (base can) rewritten-first x (omega (arith, times-cons x head tail)) in
      let start : suc (1 + length d.skipped) ≡ suc (length (d.skipped ++ (v ∷ []))) = omega (arith, length-append d.skipped (v ∷ [])) in
      rw q (record {
        passed = [];
        ahead = tail;
        rest = chain next₀ free₀;
        old = d.skipped ++ (d.count ∷ []);
        now = d.skipped ++ (v ∷ []);
        coming = d.after;
        rewritten = rewritten-recount (base can) rewritten-first head v (omega arith);
        numbers = numbers;
        front =
            holds-append (holds-count-put head h.low (λ x n. absurd (omega (arith, times-nil x))) (times-nil head) d.none v)
            (holds-cons head v d.row (at-put-same counts₀ head v h.low (omega (arith, h.high, can.counts-long))) pos (holds-nil (suc (1 + length d.skipped))));
        back = subst (λ (a : ℕ). HoldsFrom rows₀ (put counts₀ head v) a d.after tail) start (holds-count-put head h.low low (omega arith) d.back v);
        room = omega (arith, can.room);
        balance = omega arith;
      })

  -- an entry for the first row: it changes the multiplicity, since that row stays
  begin-planned : 1 ≤ length plan → row_of (get_or plan 0 0) ≡ at rows₀ head →
      Committing rows₀ counts₀ next₀ head free₀ ns plan rows₀ (put counts₀ head (multiplicity_of (get_or plan 0 0))) next₀ head free₀ (drop 1 plan)
  unfolding planned
  begin-planned some same =
      let d = diagonal in
      let e : ℕ = get_or plan 0 0 in
      let es : List ℕ = drop 1 plan in
      let v : ℕ = multiplicity_of e in
      let parts : plan ≡ e ∷ es = drop-cons plan 0 0 some in
      let t : Entry ns (at rows₀ head) e es = suits-next (subst (λ (l : List ℕ). Suits ns (at rows₀ head) l) parts can.suits) in
      let place : suc (length d.skipped) ≡ row_of e = omega (arith, d.row) in
      let was : at ns (row_of e) ≡ d.count = ap (λ (l : List ℕ). at l (row_of e)) d.counts-are ∙ at_cut d.skipped d.count d.after (row_of e) place in
      let is : at (planned ns plan) (at rows₀ head) ≡ v =
      ap (at (planned ns plan)) (sym same) ∙ ap (λ (l : List ℕ). at (planned ns l) (row_of e)) parts ∙
      planned_below ns (put ns (row_of e) v) (suc (row_of e)) es (row_of e) t.rest (omega arith) (omega arith) ∙ at-put-same ns (row_of e) v (omega arith) t.high in
      let pos : 0 < v = omega (arith, can.stays) in
      let kind : kind_of e ≡ 0 = elim t.kind [ changed z o n ↦ z | new z o n ↦ absurd (omega (arith, d.some)) | gone z o n ↦ absurd (omega arith) ] in
      begin v es (put counts₀ head v) pos
      (numbers-next ns plan e es d.skipped d.skipped d.count d.after d.counts-are refl place (rw (← d.counts-are, ← parts) refl) t.rest)
      (sym (kind-other 1 e es (λ z. omega arith)) ∙ ap (of_kind 1) (sym parts)) (sym (kind-other 2 e es (λ z. omega arith)) ∙ ap (of_kind 2) (sym parts)) refl

  begin-other : (1 ≤ length plan → row_of (get_or plan 0 0) ≢ at rows₀ head) → Committing rows₀ counts₀ next₀ head free₀ ns plan rows₀ counts₀ next₀ head free₀ plan
  begin-other other =
      let d = diagonal in
      let parts : ns ≡ (d.skipped ++ (d.count ∷ [])) ++ d.after = d.counts-are ∙ sym (append_assoc d.skipped (d.count ∷ []) d.after) in
      let place : suc (at rows₀ head) ≡ suc (length (d.skipped ++ (d.count ∷ []))) = omega (arith, d.row, length-append d.skipped (d.count ∷ [])) in
      begin d.count plan counts₀ d.some
      (record {
        parts = parts;
        same = refl;
        result = ap (λ (l : List ℕ). planned l plan) (sym parts);
        suits = subst (λ (a : ℕ). Suits ns a plan) place (suits-above ns (at rows₀ head) plan other can.suits);
      }) refl refl (sym (put_same counts₀ head) ∙ ap (put counts₀ head) d.value)

  pub committing-begun : {counts : List ℕ} {k : ℕ} → Begun rows₀ counts₀ plan head counts k →
      Committing rows₀ counts₀ next₀ head free₀ ns plan rows₀ counts next₀ head free₀ (drop k plan)
  committing-begun (first-planned some same c k) = rw (c, k) (begin-planned some same)
  committing-begun (first-stays other c k) = rw (c, k) (begin-other other)

  pub committing-can-begin : CanBegin rows₀ counts₀ plan head
  committing-can-begin =
      let h = chain_head in
      record {
        some = can.some;
        in_rows = omega (arith, h.high, can.rows_long);
        in-counts = omega (arith, h.high, can.counts-long);
        fits = λ some. (suits-next (subst (λ (l : List ℕ). Suits ns (at rows₀ head) l) (drop-cons plan 0 0 some) can.suits)).fits;
      }

  -- ---- the end

  pub committing-end : {rows counts next : List ℕ} {p free : ℕ} → Committing rows₀ counts₀ next₀ head free₀ ns plan rows counts next p free [] →
      CommittedChain rows₀ counts₀ next₀ head free₀ ns plan rows counts next free
  committing-end {rows} {counts} {next} {p} {free} i =
      let start : suc (length i.now) ≡ 1 + length i.now = omega arith in
      let whole : HoldsFrom rows counts 1 (i.now ++ i.coming) ((i.passed ++ (p ∷ [])) ++ i.ahead) =
      holds-append i.front (subst (λ (a : ℕ). HoldsFrom rows counts a i.coming i.ahead) start i.back) in
      record {
        records = i.passed ++ (p ∷ i.ahead);
        rest = i.rest;
        rewritten = i.rewritten;
        holds = rw (← i.numbers.result, planned-none (i.now ++ i.coming), ← append_assoc i.passed (p ∷ []) i.ahead) whole;
        free-left = omega (arith, i.balance, kind-none 1, kind-none 2);
      }

  -- ---- by the plan's place k

  module _ {rows counts next : List ℕ} {p free k : ℕ} (i : Committing rows₀ counts₀ next₀ head free₀ ns plan rows counts next p free (drop k plan)) where
    at_entry : k < length plan → Committing rows₀ counts₀ next₀ head free₀ ns plan rows counts next p free (get_or plan k 0 ∷ drop (k + 1) plan)
    at_entry more = rw (add-one k) (subst (λ (l : List ℕ). Committing rows₀ counts₀ next₀ head free₀ ns plan rows counts next p free l) (drop-cons plan k 0 more) i)

    pub committing-safe : k < length plan → CanApply rows counts next p free (get_or plan k 0)
    committing-safe more = committing-can can (at_entry more)

    pub committing-turn : k < length plan → {rows₁ counts₁ next₁ : List ℕ} {p₁ free₁ : ℕ} → Applied rows counts next p free (get_or plan k 0) rows₁ counts₁ next₁ p₁ free₁ →
        Committing rows₀ counts₀ next₀ head free₀ ns plan rows₁ counts₁ next₁ p₁ free₁ (drop (k + 1) plan)
    committing-turn more a = committing-applied (at_entry more) a

    pub committing-finish : length plan ≤ k → CommittedChain rows₀ counts₀ next₀ head free₀ ns plan rows counts next free
    committing-finish all = committing-end (subst (λ (l : List ℕ). Committing rows₀ counts₀ next₀ head free₀ ns plan rows counts next p free l) (drop_of_length-le plan all) i)

-- ---- the entries from place k on, as a list of their own

pub rest_at : (plan : List ℕ) (k i : ℕ) → i < length (take (length plan - k) (drop k plan)) →
    (k + i < length plan) × (get_or (take (length plan - k) (drop k plan)) i 0 ≡ get_or plan (k + i) 0)
rest_at plan k i h =
    let low : i < length plan - k = omega (arith, length-take (length plan - k) (drop k plan), length-drop k plan) in
    (omega arith, get_or-take (length plan - k) (drop k plan) i 0 low ∙ get_or-drop k plan i 0)

pub rest-end : (plan : List ℕ) (k i : ℕ) → length (take (length plan - k) (drop k plan)) ≤ i → length plan ≤ k + i
rest-end plan k i h = omega (arith, length-take (length plan - k) (drop k plan), length-drop k plan)
