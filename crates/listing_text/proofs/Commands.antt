-- Commands: what the numbers of an open, an add and a drop line make, by their number (how each rest of a line answers), and what a line
-- means by its first word (how the parser answers). Assumes nothing.
use mathlib.Core.Path.{◌≡◌, refl, sym, ap, ◌∙◌}
use mathlib.Core.Bool.{Bool, true, false}
use mathlib.Core.Logic.{inl, inr, ◌≢◌}
use mathlib.Core.List.{List, []}
use Prim.Native.Nat.{ℕ, ◌+◌, ◌-◌, ◌≤◌, ◌<◌}
use native.Mathlib.Omega.{arith}
use lib.Dec.{eqb, leb}
use lib.ListN.{length, get_or, take, drop, get_or-append}
use borrow.Author.Tests.{lt-ltb, le-ltb, le-leb, lt-leb, eq-eqb, ne_eqb}
use Rattle.lists.specs.Lists.{same, over}
use Rattle.lists.proofs.Tests.{cases}
use Rattle.lists.proofs.Member.{same-eq}
use Rattle.listing_text.specs.declared.command.Command.{Command}
use Rattle.listing_text.specs.declared.command.Command.TheVariants.{Open, Add, Drop, Show, Unknown}
use Rattle.listing_text.specs.Command.{first_word, later_words, value_of, numbers_of, open_of, add_of, added_rows, drop_of, show_of, open_word, add_word, drop_word, show_word, command_of, rows_of, EndsWord, Numbers, AddRoom, Added, Parsed}
use Rattle.listing_text.proofs.Words.{between, word_next, later-end, later-most, Front}
use Rattle.listing_text.proofs.Reading.{numbers-good, numbers-length, First}

-- ---- open

pub open-other : (ns : List ℕ) (k : ℕ) → k ≡ length ns → k ≢ 4 → Unknown ≡ open_of ns
unfolding open_of
open-other ns k e n = rw (ne_eqb (length ns) 4 (λ f. n (e ∙ f))) refl

-- four numbers, written over the front of a list
pub open-four : (ns old sizes : List ℕ) → 4 ≡ length ns → sizes ≡ over ns old → Open (get_or sizes 0 0) (get_or sizes 1 0) (get_or sizes 2 0) (get_or sizes 3 0) ≡ open_of ns
unfolding open_of
open-four ns old sizes e s =
    let g : (i : ℕ) → i < length ns → get_or sizes i 0 ≡ get_or ns i 0 = λ i h. ap (λ (l : List ℕ). get_or l i 0) s ∙ get_or-append ns (drop (length ns) old) 0 i h in
    rw (g 0 (omega arith), g 1 (omega arith), g 2 (omega arith), g 3 (omega arith), eq-eqb (length ns) 4 (sym e)) refl

pub open-room : (line : List ℕ) (at : ℕ) → EndsWord line at → 4 ≡ length (numbers_of (drop at line)) → Numbers line at 4
open-room line at w e =
    let g = numbers-good (drop at line) (omega arith) in
    record { ends = w; good = g; fits = omega (arith, numbers-length (drop at line) g) }

-- ---- drop

pub drop-other : (ns : List ℕ) (k : ℕ) → k ≡ length ns → k ≢ 1 → Unknown ≡ drop_of ns
unfolding drop_of
drop-other ns k e n = rw (ne_eqb (length ns) 1 (λ f. n (e ∙ f))) refl

pub drop-one : {line : List ℕ} {at end : ℕ} (k : ℕ) → First line at end → k ≡ length (numbers_of (drop at line)) → k ≡ 1 → Drop (value_of (between line at end)) ≡ drop_of (numbers_of (drop at line))
unfolding drop_of
drop-one {line} {at} {end} k f e o = rw (eq-eqb (length (numbers_of (drop at line))) 1 (sym e ∙ o), f.numbers) refl

-- ---- add

pub add-few : (ns rows : List ℕ) (k : ℕ) → k ≡ length ns → k < 2 → Added ns rows rows Unknown
unfolding add_of added_rows
add-few ns rows k e h =
    let t : leb 2 (length ns) ≡ false = lt-leb 2 (length ns) (omega arith) in
    record { command = rw t refl; rows_are = rw t refl }

pub record Rows (line : List ℕ) (at end room : ℕ) : Type 0 where
  pub numbers : Numbers line end room
  pub count : length (numbers_of (drop at line)) ≤ 1999

pub add-rows : {line : List ℕ} {at end room : ℕ} → AddRoom line at room → First line at end → 0 < length (numbers_of (drop at line)) → Rows line at end room
add-rows {line} {at} {end} p f h =
    let g = numbers-good (drop at line) h in
    record {
      numbers = record { ends = f.next.ends; good = f.good; fits = omega (arith, later-most line end f.good, p.short, p.enough) };
      count = omega (arith, later-most line at g, numbers-length (drop at line) g, p.short);
    }

pub add-more : {line : List ℕ} {at end : ℕ} (rows₀ rows : List ℕ) (k id : ℕ) → First line at end → k ≡ length (numbers_of (drop at line)) → 2 ≤ k
    → id ≡ value_of (between line at end) → rows ≡ over (numbers_of (drop end line)) rows₀ → Added (numbers_of (drop at line)) rows₀ rows (Add id (k - 1))
unfolding add_of added_rows
add-more {line} {at} {end} rows₀ rows k id f e h i o =
    let ns : List ℕ = numbers_of (drop at line) in
    let t : leb 2 (length ns) ≡ true = le-leb 2 (length ns) (omega arith) in
    let g : get_or ns 0 0 ≡ id = ap (λ (l : List ℕ). get_or l 0 0) f.numbers ∙ sym i in
    let d : drop 1 ns ≡ numbers_of (drop end line) = ap (λ (l : List ℕ). drop 1 l) f.numbers in
    record { command = rw (t, g, e) refl; rows_are = rw (t, d) o }

-- ---- a line, by its first word

numbers-same : (a b : List ℕ) → later_words a ≡ later_words b → numbers_of a ≡ numbers_of b
unfolding numbers_of
numbers-same a b e = rw e refl

pub parsed-long : (line rows : List ℕ) → 1999 < length line → Parsed line rows rows Unknown
unfolding command_of rows_of
parsed-long line rows h = record { command = rw (lt-ltb 1999 (length line) h) refl; rows_are = rw (lt-leb (length line) 1999 h) refl }

-- no rows where the first word is another name
rows_none : (line word : List ℕ) → first_word line ≡ word → same word add_word ≡ false → rows_of line ≡ []
unfolding rows_of
rows_none line word e n = rw (e, n) (elim (cases (leb (length line) 1999)) [ inl t ↦ rw t refl | inr t ↦ rw t refl ])

module _ {line : List ℕ} {end : ℕ} (short : length line ≤ 1999) (f : Front line end) where
  test : (name : List ℕ) (b : Bool) → same (take end line) name ≡ b → same (first_word line) name ≡ b
  test name b e = ap (λ (w : List ℕ). same w name) (sym f.part) ∙ e

  after : numbers_of (drop end line) ≡ numbers_of line
  after = numbers-same (drop end line) line f.later

  pub parsed-open : (rows : List ℕ) (r : Command) → same (take end line) open_word ≡ true → r ≡ open_of (numbers_of (drop end line)) → Parsed line rows rows r
  unfolding command_of same
  parsed-open rows r o e =
      record {
        command = rw (le-ltb 1999 (length line) short, test open_word true o) (e ∙ ap open_of after);
        rows_are = rw (rows_none line open_word (same-eq (first_word line) open_word (test open_word true o)) refl) refl;
      }

  module _ (o : same (take end line) open_word ≡ false) where
    pub parsed-add : (rows₀ rows : List ℕ) (r : Command) → same (take end line) add_word ≡ true → Added (numbers_of (drop end line)) rows₀ rows r → Parsed line rows₀ rows r
    unfolding command_of rows_of
    parsed-add rows₀ rows r a d =
        record {
          command = rw (le-ltb 1999 (length line) short, test open_word false o, test add_word true a) (d.command ∙ ap add_of after);
          rows_are = rw (le-leb (length line) 1999 short, test add_word true a) (d.rows_are ∙ ap (λ (ns : List ℕ). over (added_rows ns) rows₀) after);
        }

    module _ (a : same (take end line) add_word ≡ false) where
      rows_same : (rows : List ℕ) → rows ≡ over (rows_of line) rows
      unfolding rows_of
      rows_same rows = rw (le-leb (length line) 1999 short, test add_word false a) refl

      pub parsed-drop : (rows : List ℕ) (r : Command) → same (take end line) drop_word ≡ true → r ≡ drop_of (numbers_of (drop end line)) → Parsed line rows rows r
      unfolding command_of
      parsed-drop rows r d e =
          record {
            command = rw (le-ltb 1999 (length line) short, test open_word false o, test add_word false a, test drop_word true d) (e ∙ ap drop_of after);
            rows_are = rows_same rows;
          }

      module _ (d : same (take end line) drop_word ≡ false) where
        pub parsed-show : (rows : List ℕ) → same (take end line) show_word ≡ true → length line ≤ end → Parsed line rows rows Show
        unfolding command_of show_of
        parsed-show rows s h =
            let z : later_words line ≡ [] = sym f.later ∙ later-end line end h in
            record {
              command = rw (le-ltb 1999 (length line) short, test open_word false o, test add_word false a, test drop_word false d, test show_word true s, z) refl;
              rows_are = rows_same rows;
            }

        -- show, with words after it
        pub parsed-more : (rows : List ℕ) → same (take end line) show_word ≡ true → end < length line → Parsed line rows rows Unknown
        unfolding command_of show_of
        parsed-more rows s h =
            let n = word_next line end (end + 1 + length (first_word (drop (end + 1) line))) f.ends h refl in
            let z : eqb (length (later_words line)) 0 ≡ false = ne_eqb (length (later_words line)) 0 (λ e. omega (arith, ap length f.later, ap length n.later)) in
            record {
              command = rw (le-ltb 1999 (length line) short, test open_word false o, test add_word false a, test drop_word false d, test show_word true s, z) refl;
              rows_are = rows_same rows;
            }

        pub parsed-other : (rows : List ℕ) → same (take end line) show_word ≡ false → Parsed line rows rows Unknown
        unfolding command_of
        parsed-other rows s =
            record {
              command = rw (le-ltb 1999 (length line) short, test open_word false o, test add_word false a, test drop_word false d, test show_word false s) refl;
              rows_are = rows_same rows;
            }
