-- The next line, step by step: taken as far as a place of the piece (`Taking`), from its start (`taking-start`); a newline ends it (`taking-line`); the piece is used up,
-- and the next one is read (`taking-piece`); no read gives any more (`taking-end`). Assumes nothing.
use mathlib.Core.Path.{◌≡◌, refl, sym, ap, subst, ◌∙◌}
use mathlib.Core.Logic.{inl, inr}
use mathlib.Core.Bool.{Bool, true, false}
use mathlib.Core.List.{List, [], ◌∷◌, ◌++◌, append_assoc, append-nil}
use Prim.Native.Nat.{ℕ, ◌+◌, ◌≤◌, ◌<◌}
use native.Mathlib.Omega.{arith}
use lib.Dec.{ltb}
use lib.ListN.{length, take, drop, length-append}
use lib.Seq.{length-take-le}
use borrow.Author.Tests.{lt-ltb, le-ltb}
use Rattle.std.proofs.Common.{Option, Some, None, IfSome}
use Rattle.std.specs.Bool.{then_some}
use Rattle.std.specs.Option.{is_some}
use Rattle.lists.specs.Lists.{pick, one}
use Rattle.lists.proofs.Tests.{lt-or-le}
use Rattle.listing_lines.specs.Lines.{before_newline, Grown, lines_from, lines_of}
use Rattle.listing_lines.specs.declared.Taken.{Taken}
use Rattle.listing_lines.proofs.Lines.{grown-within, grown-ended}
use Rattle.listing_lines.proofs.Texts.{grown-held, grown-line, grown-part, grown-all, held-some, lines_end}
use Rattle.streams.specs.Passing.{Finished, reads_left, Read, Wrote, Issued, Flushed}
use Rattle.streams.specs.declared.Streams.{Streams}
use Rattle.streams.specs.declared.Reading.{Reading}
use Rattle.streams.specs.declared.Waiting.{Waiting}
use Rattle.streams.proofs.Passing.{issued-written, issued-none}
use Rattle.listing_input.specs.Input.{CanCome, Holds, ahead, PieceRead, Between, line_found, NextLine}
use Rattle.listing_input.specs.declared.Input.{Input}

-- a write, then a read
pub piece-read : {s after : Streams} {out piece : List ℕ} {waiting : ℕ} {r : Reading} → Wrote s (take waiting out) after → Read after piece r → PieceRead s out waiting piece r
piece-read {after = after} w q =
    record {
      within = q.within;
      issued = λ i o p. issued-none (q.passed i o (issued-written after w p));
      none = q.none;
      later = λ f. q.later (w.later f);
      most = omega (arith, q.most, w.same);
      less = λ h. omega (arith, q.less h, w.same);
    }

-- some bytes of the line are taken; the others are left in the piece or come with the reads
pub record Taking (piece₀ out : List ℕ) (s₀ : Streams) (place₀ count₀ waiting₀ : ℕ) (piece line : List ℕ) (s : Streams) (place count waiting filled : ℕ) : Type 0 where
  pub got : List ℕ
  pub bytes : List ℕ
  pub held : Holds line filled bytes
  pub issued : (i o : List ℕ) → Issued s₀ out waiting₀ i o → Issued s out waiting (i ++ got) o
  pub first : (rest : List ℕ) → lines_of (drop place₀ (take count₀ piece₀) ++ (got ++ rest)) ≡ lines_from bytes (drop place (take count piece) ++ rest)
  pub later : (rest : List ℕ) → CanCome s rest → CanCome s₀ (got ++ rest)
  pub within : place ≤ count
  pub fits : count ≤ length piece
  pub cut : filled ≤ 2000
  pub waits : waiting ≤ length out
  pub piece-long : length piece ≡ 4096
  pub line-long : length line ≡ 2000
  pub spent : length bytes + ahead s place count ≤ ahead s₀ place₀ count₀

pub taking-start : {piece line out : List ℕ} {x : Input} {added : ℕ} → Between piece line out x added → (waiting : ℕ) → waiting ≤ length out →
    Taking piece out x.streams x.place x.count waiting piece line x.streams x.place x.count waiting 0
taking-start {out = out} {x} b waiting waits =
    record {
      got = [];
      bytes = [];
      held = refl;
      issued = λ i o q. subst (λ (l : List ℕ). Issued x.streams out waiting l o) (sym (append-nil i)) q;
      first = λ rest. refl;
      later = λ rest c. c;
      within = b.within;
      fits = b.fits;
      cut = omega arith;
      waits = waits;
      piece-long = b.piece-long;
      line-long = b.line-long;
      spent = omega arith;
    }

module _ {piece₀ out : List ℕ} {s₀ : Streams} {place₀ count₀ waiting₀ : ℕ} {piece line : List ℕ} {s : Streams} {place count waiting filled : ℕ} (a : Taking piece₀ out s₀ place₀ count₀ waiting₀ piece line s place count waiting filled) where
  -- the bytes read of the piece
  pub count_long : length (take count piece) ≡ count
  count_long = length-take-le count piece a.fits

  module _ {line' : List ℕ} {t : Taken} (g : Grown (take count piece) line place filled line' t) where
    abbrev bytes : List ℕ
    bytes = before_newline (drop place (take count piece))

    held_more : Holds line' t.length (a.bytes ++ bytes)
    held_more =
        grown-held g a.bytes (a.held ∙ ap (λ (n : ℕ). take n a.bytes) (sym a.line-long)) ∙ ap (λ (n : ℕ). take n (a.bytes ++ bytes)) a.line-long

    -- the piece is used up, and the next one is read
    module _ {piece' : List ℕ} {r : Reading} (e : t.after ≡ None) (p : PieceRead s out waiting piece' r) (long : length piece' ≡ length piece) (line_same : length line' ≡ length line) where
      abbrev new : List ℕ
      new = take r.count piece'

      -- after the end nothing comes
      new-later : (rest : List ℕ) → CanCome r.streams rest → CanCome s (new ++ rest)
      new-later rest c f = ap (λ (n : ℕ). take n piece' ++ rest) (p.later f).0 ∙ c (p.later f).1

      -- as many bytes are held as the piece had, and a read that gives some leaves one less
      new-spent : length (a.bytes ++ bytes) + ahead r.streams 0 r.count ≤ ahead s₀ place₀ count₀
      new-spent =
          let b : length (a.bytes ++ bytes) ≡ length a.bytes + length bytes = length-append a.bytes bytes in
          let all : length bytes + place ≡ count = grown-all g e (omega (arith, a.within, count_long)) ∙ count_long in
          let most : r.count ≤ 4096 = omega (arith, p.within, long, a.piece-long) in
          elim (lt-or-le 0 r.count) [
            | inl h ↦ let l : reads_left r.streams < reads_left s = p.less h in omega (arith, a.spent)
            | inr h ↦ omega (arith, a.spent, p.most)
          ]

      pub taking-piece : Taking piece₀ out s₀ place₀ count₀ waiting₀ piece' line' r.streams 0 r.count 0 t.length
      taking-piece =
          record {
            got = a.got ++ new;
            bytes = a.bytes ++ bytes;
            held = held_more;
            issued = λ i o q. subst (λ (l : List ℕ). Issued r.streams out 0 l o) (append_assoc i a.got new) (p.issued (i ++ a.got) o (a.issued i o q));
            first = λ rest.
                ap (λ (l : List ℕ). lines_of (drop place₀ (take count₀ piece₀) ++ l)) (append_assoc a.got new rest) ∙ a.first (new ++ rest) ∙ grown-part g e a.bytes (new ++ rest);
            later = λ rest c f. append_assoc a.got new rest ∙ a.later (new ++ rest) (new-later rest c) f;
            within = omega arith;
            fits = p.within;
            cut = omega (arith, g.fits, a.line-long);
            waits = omega arith;
            piece-long = long ∙ a.piece-long;
            line-long = line_same ∙ a.line-long;
            spent = new-spent;
          }

module _ {piece₀ out : List ℕ} (x₀ : Input) (added : ℕ) {piece line : List ℕ} {s : Streams} {place count waiting filled : ℕ} (a : Taking piece₀ out x₀.streams x₀.place x₀.count (x₀.waiting + added) piece line s place count waiting filled) where
  -- a newline ends the line
  pub taking-line : {line' : List ℕ} {t : Taken} {w : Waiting} {after : ℕ} → Grown (take count piece) line place filled line' t → t.after ≡ Some after → Flushed s out waiting 91520 w →
      NextLine piece₀ out x₀ added piece line' (record { streams = w.streams; place = after; count = count; waiting = w.count; line = Some t.length })
  taking-line {after = after} g e f =
      let within : after ≤ count = omega (arith, grown-within g e (omega (arith, a.within, count_long a)), count_long a) in
      record {
        got = a.got;
        bytes = a.bytes ++ before_newline (drop place (take count piece));
        issued = λ i o q. f.issued (i ++ a.got) o (a.issued i o q);
        first = λ rest c. a.first rest ∙ grown-line g e a.bytes rest;
        held = held_more a g;
        none = λ n. absurd cc;
        later = λ rest c. a.later rest (λ h. c (f.later h));
        within = within;
        fits = a.fits;
        cut = omega (arith, g.fits, a.line-long);
        room = f.room;
        less = omega (arith, a.spent, a.within, within, (grown-ended g e).place_is, f.same);
      }

module _ {piece₀ out : List ℕ} (x₀ : Input) (added : ℕ) {piece line : List ℕ} {s : Streams} {count filled : ℕ} (a : Taking piece₀ out x₀.streams x₀.place x₀.count (x₀.waiting + added) piece line s 0 count 0 filled) where
  -- no read gives any more, and the last line, if there is one, is what is held
  ended : (found : Option ℕ) → Finished s → count ≡ 0 → 91520 ≤ length out
      → ((rest : List ℕ) → CanCome s rest → lines_of (drop x₀.place (take x₀.count piece₀) ++ (a.got ++ rest)) ≡ line_found found a.bytes ++ lines_of rest)
      → IfSome found (λ n. Holds line n a.bytes) → IfSome found (λ n. n ≤ 2000) → one (is_some found) ≤ length a.bytes
      → NextLine piece₀ out x₀ added piece line (record { streams = s; place = 0; count = 0; waiting = 0; line = found })
  ended found f z room first held cut less =
      record {
        got = a.got;
        bytes = a.bytes;
        issued = a.issued;
        first = first;
        held = held;
        none = λ e. (f, (refl, refl));
        later = a.later;
        within = omega arith;
        fits = omega arith;
        cut = cut;
        room = room;
        less = omega (arith, a.spent, less);
      }

  -- it is not empty
  pub taking-end : Finished s → count ≡ 0 → 91520 ≤ length out →
      NextLine piece₀ out x₀ added piece line (record { streams = s; place = 0; count = 0; waiting = 0; line = then_some (ltb 0 filled) filled })
  taking-end f z room =
      let none : take count piece ≡ [] = ap (λ (n : ℕ). take n piece) z in
      let long : filled ≤ length line = omega (arith, a.cut, a.line-long) in
      let first : (rest : List ℕ) → CanCome s rest → lines_of (drop x₀.place (take x₀.count piece₀) ++ (a.got ++ rest)) ≡ pick (ltb 0 filled) (a.bytes ∷ []) [] ++ lines_of rest = λ rest c.
      let e : rest ≡ [] = c f in
      a.first rest ∙ ap (λ (l : List ℕ). lines_from a.bytes (l ++ rest)) none ∙ ap (λ (l : List ℕ). lines_from a.bytes l) e ∙ lines_end line a.bytes filled long a.held ∙
      ap (λ (l : List ℕ). pick (ltb 0 filled) (a.bytes ∷ []) [] ++ lines_of l) (sym e) in
      elim (lt-or-le 0 filled) [
        | inl h ↦
            let t : ltb 0 filled ≡ true = lt-ltb 0 filled h in
            rw t (ended (Some filled) f z room (λ rest c. first rest c ∙ ap (λ (b : Bool). pick b (a.bytes ∷ []) [] ++ lines_of rest) t) a.held a.cut (held-some line a.bytes filled long a.held h))
        | inr h ↦
            let t : ltb 0 filled ≡ false = le-ltb 0 filled h in
            rw t (ended None f z room (λ rest c. first rest c ∙ ap (λ (b : Bool). pick b (a.bytes ∷ []) [] ++ lines_of rest) t) tt tt (omega arith))
      ]
