-- The loop that walks all columns, in this order: its invariant Through, which is `Walked` of the first places; one place more; the loop's start, a place
-- with no column, a place whose column was walked; a column that was cut short, so that the book is not sound. Assumes nothing.
use mathlib.Core.Path.{◌≡◌, refl, sym, ap, subst, ◌∙◌}
use mathlib.Core.Logic.{inl, inr, ◌≢◌}
use mathlib.Core.Bool.{true}
use mathlib.Core.List.{List, [], ◌∷◌, ◌++◌}
use Prim.Native.Nat.{ℕ, suc, ◌+◌, ◌≤◌, ◌<◌}
use native.Mathlib.Omega.{arith}
use native.Mathlib.Numerals.{add-one}
use lib.ListN.{length, get_or, take, drop}
use lib.Seq.{take-suc, split_at}
use Rattle.std.specs.Prelude.{Some, None}
use Rattle.lists.proofs.Tests.{eq-or-ne, refute}
use Rattle.workspace.specs.Regions.{Apart}
use Rattle.pool.specs.declared.Rec.{Rec}
use Rattle.pool.specs.Chains.{chain, last_of, Linked}
use Rattle.pool.specs.Whole.{chains, AllLinked}
use Rattle.pool.specs.Ends.{last_from, lasts}
use Rattle.pool.proofs.Chains.{chain-nil, linked-nil}
use Rattle.pool.proofs.Whole.{chains-nil, chains-mid-length, all_nil, all_cons, all-parts, all_split, all_join}
use Rattle.pool.proofs.Apart.{last_within, lasts-nil, lasts-cons, lasts-append}
use Rattle.ends.specs.Naming.{CanName, named_in}
use Rattle.ends.proofs.Naming.{named-length, named_start, named-next, named-region}
use Rattle.book.specs.Book.{book_of, tables_of, is_booked, column_for, column_fits, is_sound}
use Rattle.book.specs.Walks.{ColumnWalked, CanReadThrough, Walked, ColumnsWalked}
use Rattle.book.proofs.Columns.{head_at, booked-some, some-booked}
use Rattle.book.proofs.Sound.{Sound, sound-of}
use Rattle.book.proofs.Walks.{Walks, cut-walks, ended-walks}

-- the first i places were walked, in a table as long as it was lent
pub record Through (heads rows next scratch₀ : List ℕ) (m : ℕ) (scratch : List ℕ) (met i : ℕ) : Type 0 where
  pub within : i ≤ length heads
  pub long : length scratch ≡ length scratch₀
  pub walked : Walked heads rows next scratch m met i

-- ---- one place more: its chain ends, and its last record is named

module _ {hs rs ns w : List ℕ} {m met i : ℕ} (more : i < length hs) (room : length ns + length hs ≤ length w) (t : Walked hs rs ns w m met i) where
  walked_more : (e met' : ℕ) → Linked ns (get_or hs i 0) (chain ns (get_or hs i 0)) → met' ≡ met + length (chain ns (get_or hs i 0)) → met' ≤ length ns → e ≡ last_from ns (get_or hs i 0) →
      (is_booked hs (suc i) ≡ true → column_fits m (column_for (tables_of hs rs ns) (suc i)) ≡ true) → Walked hs rs ns (named_in w (length ns) 0 (suc i) e) m met' (suc i)
  walked_more e met' l counted within last fits =
      let h : ℕ = get_or hs i 0 in
      let parts : take (suc i) hs ≡ take i hs ++ (h ∷ []) = take-suc hs i 0 more in
      let few : e ≤ length ns = omega (arith, last_within ns h (chain ns h) l) in
      let apart : Apart (length ns) (suc i) 0 (length ns) = inr (omega arith) in
      record {
        linked = subst (AllLinked ns) (sym parts) (all_join ns (take i hs) (h ∷ []) t.linked (all_cons ns h [] l (all_nil ns)));
        counted = omega (arith, t.counted, ap (λ (x : List ℕ). length (chains ns x)) parts, chains-mid-length ns (take i hs) h [], ap length (chains-nil ns));
        within = within;
        fits = λ j p k b.
            elim (eq-or-ne j (suc i)) [
              | inl z ↦ subst (λ (y : ℕ). is_booked hs y ≡ true → column_fits m (column_for (tables_of hs rs ns) y) ≡ true) (sym z) fits b
              | inr z ↦ t.fits j p (omega arith) b
            ];
        lasts_are =
            named-region e t.named few apart (omega arith) (λ p. omega arith) ∙ ap (λ (x : List ℕ). x ++ (e ∷ [])) t.lasts_are ∙
            sym (ap (lasts ns) parts ∙ lasts-append ns (take i hs) (h ∷ []) ∙ rw (lasts-cons ns h [], lasts-nil ns, last) refl);
        named = named-next e t.named few apart (omega arith) (λ p. omega arith);
      }

-- ---- the loop's start and turns

module _ {hs rs ns w₀ : List ℕ} {m : ℕ} where
  pub through-start : Through hs rs ns w₀ m w₀ 0 0
  through-start =
      record {
        within = omega arith;
        long = refl;
        walked = record {
          linked = all_nil ns;
          counted = sym (ap length (chains-nil ns));
          within = omega arith;
          fits = λ i p q. absurd (omega arith);
          lasts_are = sym (lasts-nil ns);
          named = named_start w₀ (length ns) 0 (length ns);
        };
      }

  module _ {w : List ℕ} {met i : ℕ} (q : CanReadThrough hs rs ns w₀) (t : Through hs rs ns w₀ m w met i) (more : i < length hs) where
    -- there is a place for its last record and its name
    pub naming : {e : ℕ} → e ≤ length ns → CanName w (length ns) 0 (i + 1) e
    naming few = record { low = omega arith; last-in = omega (arith, q.room, t.long); name_in = λ p. omega (arith, q.room, t.long) }

    -- the last record of a column that was walked is of the pool
    pub last-few : {met' : ℕ} {e : Rec} → ColumnWalked hs rs ns i met m (Some (met', e)) → e.0 ≤ length ns
    last-few {met'} {e} c =
        let h : ℕ = get_or hs i 0 in
        let d : Walks hs rs ns i met m × (met' ≡ met + length (chain ns h)) × (e.0 ≡ last_from ns h) = ended-walks c in
        omega (arith, d.2, last_within ns h (chain ns h) d.0.linked)

    through-more : {v : List ℕ} {met' : ℕ} (e : ℕ) → Walked hs rs ns (named_in w (length ns) 0 (suc i) e) m met' (suc i) → v ≡ named_in w (length ns) 0 (i + 1) e →
        Through hs rs ns w₀ m v met' (i + 1)
    through-more {v} {met'} e d named =
        rw (named, add-one i)
        (record { within = omega arith; long = named-length w (length ns) 0 (suc i) e ∙ t.long; walked = d })

    -- a place with no column
    pub through-none : {v : List ℕ} → get_or hs i 0 ≡ 0 → v ≡ named_in w (length ns) 0 (i + 1) 0 → Through hs rs ns w₀ m v met (i + 1)
    unfolding last_of
    through-none z named =
        let c : chain ns (get_or hs i 0) ≡ [] = ap (chain ns) z ∙ chain-nil (length ns) ns in
        let l : Linked ns (get_or hs i 0) (chain ns (get_or hs i 0)) = rw (c, z) (linked-nil ns) in
        through-more 0 (walked_more more (omega (arith, q.room, t.long)) t.walked 0 met l (omega (arith, ap length c)) t.walked.within (sym (ap (last_of 0) c))
        (λ b. absurd (booked-some hs (suc i) b (head_at hs i ∙ z)))) named

    -- a place whose column was walked
    pub through-next : {v : List ℕ} {met' : ℕ} {e : Rec} → ColumnWalked hs rs ns i met m (Some (met', e)) → v ≡ named_in w (length ns) 0 (i + 1) e.0 →
        Through hs rs ns w₀ m v met' (i + 1)
    through-next {v} {met'} {e} c named =
        let d : Walks hs rs ns i met m × (met' ≡ met + length (chain ns (get_or hs i 0))) × (e.0 ≡ last_from ns (get_or hs i 0)) = ended-walks c in
        through-more e.0 (walked_more more (omega (arith, q.room, t.long)) t.walked e.0 met' d.0.linked d.1 (omega (arith, d.0.room, d.1)) d.2 (λ b. d.0.fits)) named

  -- ---- a column cut short

  module _ {w : List ℕ} {met i : ℕ} (t : Through hs rs ns w₀ m w met i) where
    -- where the book is sound, the column walks
    sound-walks : (free : ℕ) → i < length hs → get_or hs i 0 ≢ 0 → is_sound m (book_of hs rs ns free) ≡ true → Walks hs rs ns i met m
    sound-walks free more some e =
        let s : Sound m (book_of hs rs ns free) = sound-of m (book_of hs rs ns free) e in
        let h : ℕ = get_or hs i 0 in
        let parts : hs ≡ take i hs ++ (h ∷ drop (suc i) hs) = split_at hs i 0 more in
        let l : AllLinked ns (take i hs) × AllLinked ns (h ∷ drop (suc i) hs) = all_split ns (take i hs) (h ∷ drop (suc i) hs) (subst (AllLinked ns) parts s.pool.linked) in
        record {
          linked = (all-parts ns h (drop (suc i) hs) l.1).0;
          fits = s.fits (suc i) (omega arith) (some-booked hs (suc i) (λ z. some (sym (head_at hs i) ∙ z)));
          room = omega (arith, s.pool.size, t.walked.counted, ap (λ (x : List ℕ). length (chains ns x)) parts, chains-mid-length ns (take i hs) h (drop (suc i) hs));
        }

    pub through-cut : {v : List ℕ} → i < length hs → get_or hs i 0 ≢ 0 → ColumnWalked hs rs ns i met m None → ColumnsWalked hs rs ns v m None
    through-cut {v} more some c =
        record {
          cut = λ e free. refute (is_sound m (book_of hs rs ns free)) (λ b. cut-walks c (sound-walks free more some b));
          walked = λ n e. absurd (let z : ◌≡◌ {A = ℕ} 0 1 = cc in omega arith);
        }
