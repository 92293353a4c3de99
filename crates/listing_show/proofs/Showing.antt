-- Lines written one after another: the pairs of a column (`Pairing`), the line of a column from its parts (`line-whole`), the lines of columns 1 to j (`Lines`).
-- Assumes nothing.
use mathlib.Core.Path.{◌≡◌, refl, sym, ap, ◌∙◌, subst}
use mathlib.Core.List.{List, [], ◌++◌}
use Prim.Native.Nat.{ℕ, ◌+◌, ◌*◌, ◌^◌, ◌≤◌, ◌<◌}
use native.Mathlib.Omega.{arith}
use native.Mathlib.Numerals.{add-one}
use lib.ListN.{length, get_or, take, drop, take-append-drop}
use Rattle.symbolic.specs.Columns.{Register}
use Rattle.tables.specs.Tables.{Tables, State, register_of}
use Rattle.calls.specs.Refusals.{is_accepted}
use Rattle.calls.proofs.Refusals.{sizes-facts}
use Rattle.admission.specs.Admission.{Usable}
use Rattle.listing_text.specs.Text.{newline, ok_line, no_line, show_head, show_pair, show_pairs, show_line, Room, Written}
use Rattle.listing_text.proofs.Printing.{written-join, pairs-push, ok-room, no_room, head-room, pair-room}
use mathlib.Core.Logic.{inl, inr}
use Rattle.listing_show.specs.Showing.{shown_line, shown_to, shown_by, no_state, PairsRoom, CanShowAll, LineWritten}

-- nothing is written
pub written_none : (out : List ℕ) (at : ℕ) → at ≤ length out → Written out at [] out at
written_none out at h =
    let q : at ≡ at + 0 = omega arith in
    record { out-is = sym (take-append-drop at out) ∙ ap (λ (n : ℕ). take at out ++ drop n out) q; next-is = q }

-- ---- room for a line, whatever its numbers

pub ok-fits : {out : List ℕ} {t e g : ℕ} → t < 2 ^ 32 → e < 2 ^ 32 → g < 2 ^ 32 → 40 ≤ length out → Room out 0 (ok_line t e g)
ok-fits {out} {t} {e} {g} p q r h = record { room = omega (arith, ok-room t e g p q r) }

pub no-fits : {out : List ℕ} {n k : ℕ} → n < 2 ^ 32 → k < 2 ^ 32 → 40 ≤ length out → Room out 0 (no_line n k)
no-fits {out} {n} {k} p q h = record { room = omega (arith, no_room n k p q) }

pub head-fits : {out : List ℕ} {at j k : ℕ} → j < 2 ^ 32 → k < 2 ^ 32 → at + 21 ≤ length out → Room out at (show_head j k)
head-fits {out} {at} {j} {k} p q h = record { room = omega (arith, head-room j k p q) }

pub head-within : {out₀ out : List ℕ} {at next j k : ℕ} → Written out₀ at (show_head j k) out next → j < 2 ^ 32 → k < 2 ^ 32 → next ≤ at + 21
head-within {j = j} {k = k} w p q = omega (arith, w.next-is, head-room j k p q)

-- ---- the pairs of a column

pub record Pairing (out₀ entries : List ℕ) (at count : ℕ) (out : List ℕ) (end i : ℕ) : Type 0 where
  pub done : Written out₀ at (show_pairs (take (2 * i) entries)) out end
  pub short : end ≤ at + 22 * i
  pub long : length out ≡ length out₀
  pub most : i ≤ count

no_pairs : (entries : List ℕ) → show_pairs (take (2 * 0) entries) ≡ []
unfolding show_pairs
no_pairs entries = refl

module _ {out₀ entries : List ℕ} {at count : ℕ} (room : PairsRoom (length out₀) (length entries) at count) where
  pub pairing-start : Pairing out₀ entries at count out₀ at 0
  pairing-start =
      record {
        done = subst (λ (bs : List ℕ). Written out₀ at bs out₀ at) (sym (no_pairs entries)) (written_none out₀ at (omega (arith, room.fits)));
        short = omega arith;
        long = refl;
        most = omega arith;
      }

  module _ {out : List ℕ} {end i : ℕ} (p : Pairing out₀ entries at count out end i) where
    module _ (h : i < count) (a : get_or entries (2 * i) 0 < 2 ^ 32) (b : get_or entries (2 * i + 1) 0 < 2 ^ 32) where
      pair-most : length (show_pair (get_or entries (2 * i) 0) (get_or entries (2 * i + 1) 0)) ≤ 22
      pair-most = pair-room (get_or entries (2 * i) 0) (get_or entries (2 * i + 1) 0) a b

      pub pairing-room : end + length (show_pair (get_or entries (2 * i) 0) (get_or entries (2 * i + 1) 0)) ≤ length out
      pairing-room = omega (arith, pair-most, p.short, p.long, room.fits)

      pub pairing-keep : {out' : List ℕ} {end' : ℕ} → Written out end (show_pair (get_or entries (2 * i) 0) (get_or entries (2 * i + 1) 0)) out' end' →
          length out' ≡ length out → Pairing out₀ entries at count out' end' (i + 1)
      pairing-keep {out'} {end'} w l =
          let q : 2 * (i + 1) ≡ 2 * i + 2 = omega arith in
          let s : show_pairs (take (2 * i) entries) ++ show_pair (get_or entries (2 * i) 0) (get_or entries (2 * i + 1) 0) ≡ show_pairs (take (2 * (i + 1)) entries) =
          sym (ap (λ (n : ℕ). show_pairs (take n entries)) q ∙ pairs-push entries i (omega (arith, room.entries))) in
          record {
            done = subst (λ (bs : List ℕ). Written out₀ at bs out' end') s (written-join (omega (arith, p.short, room.fits)) p.done w);
            short = omega (arith, p.short, pair-most, w.next-is);
            long = l ∙ p.long;
            most = omega arith;
          }

-- ---- the line of a column: head, pairs, newline

pub line-whole : {out₀ out₁ out₂ out₃ : List ℕ} {at next end last : ℕ} (j p : ℕ) (es : List ℕ) → Written out₀ at (show_head j p) out₁ next →
    Written out₁ next (show_pairs es) out₂ end → Written out₂ end newline out₃ last → end ≤ length out₀ → length out₁ ≡ length out₀ →
    Written out₀ at (show_line j p es) out₃ last
unfolding show_line
line-whole j p es a b d h l =
    written-join h (written-join (omega (arith, b.next-is)) a b) d

-- ---- the lines of all columns

pub record Lines (r : Register) (out₀ out : List ℕ) (end j : ℕ) : Type 0 where
  pub done : Written out₀ 0 (shown_to r j) out end
  pub short : end ≤ 1430 * j
  pub long : length out ≡ length out₀

pub lines_start : (r : Register) (out : List ℕ) → Lines r out out 0 0
unfolding shown_to
lines_start r out = record { done = written_none out 0 (omega arith); short = omega arith; long = refl }

pub lines_keep : {s : State} {t : Tables} {out₀ out out' : List ℕ} {end j end' : ℕ} → Lines (register_of s t) out₀ out end j → end ≤ length out₀ →
    LineWritten s t out (j + 1) end out' end' → length out' ≡ length out → Lines (register_of s t) out₀ out' end' (j + 1)
unfolding shown_to
lines_keep {s} {t} {out₀} {out} {out'} {end} {j} {end'} p h w l =
    let r : Register = register_of s t in
    let e : shown_to r j ++ shown_line r (j + 1) ≡ shown_to r (j + 1) =
    ap (λ (k : ℕ). shown_to r j ++ shown_line r k) (add-one j) ∙ ap (λ (k : ℕ). shown_to r k) (sym (add-one j)) in
    record {
      done = subst (λ (bs : List ℕ). Written out₀ 0 bs out' end') e (written-join h p.done w.line);
      short = omega (arith, p.short, w.short);
      long = l ∙ p.long;
    }

-- ---- no factor is open, or one whose tables are usable

pub shown-closed : (s : State) (t : Tables) → s ≡ no_state → no_line 1 0 ≡ shown_by (record { state = s; tables = t })
shown-closed s t e = sym (ap (λ (x : State). shown_by (record { state = x; tables = t })) e)

pub usable-some : {s : State} {t : Tables} → Usable s t → 1 ≤ s.sizes.m
usable-some {s} u = (sizes-facts s.sizes (ap is_accepted u.sizes)).m-low

-- none is where m is 0
pub shows-none : {s : State} {t : Tables} {n k : ℕ} → CanShowAll s t n k → s.sizes.m ≡ 0 → s ≡ no_state
shows-none c e = elim c.usable [ inl q ↦ q | inr u ↦ absurd (omega (arith, usable-some u)) ]
