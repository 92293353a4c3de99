-- The listing program line by line: the next line is found (`Found`), answered behind what waits (`Given`), and the next one is found; where there is none, all lines are
-- answered. Assumes nothing.
use mathlib.Core.Path.{◌≡◌, refl, sym, ap, subst, ◌∙◌}
use Rattle.std.proofs.Common.{Option, Some, None, IfSome}
use mathlib.Core.List.{List, [], ◌∷◌, ◌++◌, append_assoc, append-nil}
use Prim.Native.Nat.{ℕ, ◌+◌, ◌-◌, ◌≤◌}
use native.Mathlib.Omega.{arith}
use lib.ListN.{length, take, drop}
use borrow.Rule.Slice.PartMut.{put_mid, same_len_mid}
use Rattle.listing_text.specs.Text.{Written}
use Rattle.listing_lines.specs.Lines.{lines_from, lines_of}
use Rattle.listing_show.specs.Showing.{no_state}
use Rattle.listing_memory.specs.Memory.{Memory, Lengths}
use Rattle.listing_memory.specs.declared.Printed.{Printed}
use Rattle.listing_answers.specs.Listing.{Ready, Answered, Answers}
use Rattle.streams.specs.Passing.{Passed, Finished, Issued}
use Rattle.streams.specs.declared.Streams.{Streams}
use Rattle.streams.proofs.Passing.{issued-none, issued-more}
use Rattle.listing_input.specs.Input.{left_of, CanCome, Holds, line_found, NextLine}
use Rattle.listing_input.specs.declared.Input.{Input}
use Rattle.listing_loop.specs.Running.{AnsweredInTurn, AllAnswered, Listed}
use Rattle.listing_loop.proofs.Cutting.{cut-answered}
use Rattle.listing_loop.proofs.Behind.{waits-more, written_behind}

-- ---- lines in turn

turn-joins : (ls ms : List (List ℕ)) (u v w : Memory) (bs cs : List ℕ) → AnsweredInTurn ls u bs v → AnsweredInTurn ms v cs w → AnsweredInTurn (ls ++ ms) u (bs ++ cs) w
unfolding AnsweredInTurn
turn-joins [] ms u v w bs cs a b =
    subst (λ (x : List ℕ). AnsweredInTurn ms u (x ++ cs) w) (sym a.0) (subst (λ (x : Memory). AnsweredInTurn ms x cs w) (sym a.1) b)
turn-joins (l ∷ ls) ms u v w bs cs (x, (first, (rest, (e, (p, q))))) b = (
  x,
  (first, (rest ++ cs, (ap (λ (z : List ℕ). z ++ cs) e ∙ append_assoc first rest cs, (p, turn-joins ls ms x v w rest cs q b)))),
)

one-turn : (u v : Memory) (bs l : List ℕ) → Answered u l bs v → AnsweredInTurn (l ∷ []) u bs v
unfolding AnsweredInTurn
one-turn u v bs l a = (v, (bs, ([], (sym (append-nil bs), (a, (refl, refl))))))

no-turn : (u : Memory) → AnsweredInTurn [] u [] u
unfolding AnsweredInTurn
no-turn u = (refl, refl)

no_lines : lines_of [] ≡ []
unfolding lines_from
no_lines = refl

-- a line that is held is answered as the whole line is
held-answered : (u v : Memory) (xs line bytes : List ℕ) → xs ≡ take 2000 line → Answered u xs bytes v → Answered u line bytes v
held-answered u v xs line bs e a = subst (λ (A : Type 0). A) (cut-answered u line bs v) (subst (λ (l : List ℕ). Answered u l bs v) e a)

-- ---- what the loop keeps

-- beside what is answered: the state between lines, and the lengths of the lists beside it
pub record Keeping (u : Memory) (list₀ out₀ list out line piece : List ℕ) : Type 0 where
  pub ready : Ready u
  pub list-long : length list ≡ length list₀
  pub out-long : length out ≡ length out₀
  pub line-long : length line ≡ 2000
  pub piece-long : length piece ≡ 4096

-- the lines so far are answered, by bytes that are written or wait; the others are those of what is left and what comes
pub record Given (u : Memory) (x : Input) (added : ℕ) (piece out : List ℕ) (v : Memory) : Type 0 where
  pub text : List ℕ
  pub lines : List (List ℕ)
  pub bytes : List ℕ
  pub issued : Issued x.streams out (x.waiting + added) text bytes
  pub answered : AnsweredInTurn lines u bytes v
  pub to-come : (more : List ℕ) → CanCome x.streams more → lines_of (text ++ more) ≡ lines ++ lines_of (left_of piece x ++ more)

-- and the next line is found, or there is none
pub record Found (u : Memory) (piece line out : List ℕ) (x : Input) (v : Memory) : Type 0 where
  pub text : List ℕ
  pub lines : List (List ℕ)
  pub bytes : List ℕ
  pub next : List ℕ
  pub issued : Issued x.streams out x.waiting text bytes
  pub answered : AnsweredInTurn lines u bytes v
  pub to-come : (more : List ℕ) → CanCome x.streams more → lines_of (text ++ more) ≡ lines ++ (line_found x.line next ++ lines_of (left_of piece x ++ more))
  pub held : IfSome x.line (λ n. Holds line n next)
  pub none : x.line ≡ None → Finished x.streams × ((x.waiting ≡ 0) × (left_of piece x ≡ []))
  pub within : x.place ≤ x.count
  pub fits : x.count ≤ length piece
  pub cut : IfSome x.line (λ n. n ≤ 2000)
  pub room : x.waiting + 91520 ≤ length out

-- nothing is read yet
pub given-start : {s : Streams} → Passed s [] [] → (piece out : List ℕ) (u : Memory) →
    Given u (record { streams = s; place = 0; count = 0; waiting = 0; line = None }) 0 piece out u
given-start p piece out u =
    record { text = []; lines = []; bytes = []; issued = issued-none p; answered = no-turn u; to-come = λ more c. refl }

-- a line is found
pub given-next : {u v : Memory} {x₀ x : Input} {added : ℕ} {piece₀ piece line out : List ℕ} → Given u x₀ added piece₀ out v → NextLine piece₀ out x₀ added piece line x →
    Found u piece line out x v
given-next g n =
    record {
      text = g.text ++ n.got;
      lines = g.lines;
      bytes = g.bytes;
      next = n.bytes;
      issued = n.issued g.text g.bytes g.issued;
      answered = g.answered;
      to-come = λ more c.
          ap lines_of (append_assoc g.text n.got more) ∙ g.to-come (n.got ++ more) (n.later more c) ∙ ap (λ (ls : List (List ℕ)). g.lines ++ ls) (n.first more c);
      held = n.held;
      none = n.none;
      within = n.within;
      fits = n.fits;
      cut = n.cut;
      room = n.room;
    }

-- a line found is the one that its list holds
module _ {u : Memory} {piece line out : List ℕ} {x : Input} {v : Memory} (f : Found u piece line out x v) {n : ℕ} (e : x.line ≡ Some n) where
  found-held : Holds line n f.next
  found-held = rw e at f.held

module _ {u : Memory} {piece line out : List ℕ} {x : Input} {v : Memory} (f : Found u piece line out x v) where
  -- what waits lies within the list
  pub found-waits : x.waiting ≤ length out
  found-waits = omega (arith, f.room)

  -- an answer put there leaves the list as long
  pub found-same : (part : List ℕ) → length part ≡ length (take (length out - x.waiting) (drop x.waiting out)) → length (put_mid x.waiting (length out - x.waiting) out part) ≡ length out
  found-same part e = same_len_mid x.waiting (length out - x.waiting) out part e

  -- it is answered behind what waits
  pub found-given : {part : List ℕ} {y : Printed} {w : Memory} {n : ℕ} → x.line ≡ Some n →
      Answers (Answered v (take n line)) (take (length out - x.waiting) (drop x.waiting out)) part y w →
      Given u x y.end piece (put_mid x.waiting (length out - x.waiting) out part) w
  found-given {part} {y} {w} {n} e a =
      let written : Written out x.waiting a.bytes (put_mid x.waiting (length out - x.waiting) out part) (x.waiting + y.end) =
      written_behind out part a.bytes x.waiting y.end found-waits a.written in
      record {
        text = f.text;
        lines = f.lines ++ (f.next ∷ []);
        bytes = f.bytes ++ a.bytes;
        issued = issued-more a.bytes (waits-more found-waits written) f.issued;
        answered = turn-joins f.lines (f.next ∷ []) u v w f.bytes a.bytes f.answered
            (one-turn v w a.bytes f.next (held-answered v w (take n line) f.next a.bytes (found-held f e) a.says));
        to-come = λ more c.
            f.to-come more c ∙ ap (λ (o : Option ℕ). f.lines ++ (line_found o f.next ++ lines_of (left_of piece x ++ more))) e ∙
            sym (append_assoc f.lines (f.next ∷ []) (lines_of (left_of piece x ++ more)));
      }

  -- there is none: all lines are answered, and the answers written
  pub found-end : x.line ≡ None → AllAnswered u x.streams
  found-end e =
      let o = f.none e in
      let i : Issued x.streams out 0 f.text f.bytes = subst (λ (n : ℕ). Issued x.streams out n f.text f.bytes) o.1.0 f.issued in
      let last : f.lines ++ (line_found x.line f.next ++ lines_of (left_of piece x ++ [])) ≡ f.lines =
      ap (λ (o : Option ℕ). f.lines ++ (line_found o f.next ++ lines_of (left_of piece x ++ []))) e ∙ ap (λ (l : List ℕ). f.lines ++ lines_of (l ++ [])) o.1.1 ∙
      ap (λ (ls : List (List ℕ)). f.lines ++ ls) no_lines ∙ append-nil f.lines in
      let all : lines_of f.text ≡ f.lines = ap lines_of (sym (append-nil f.text)) ∙ f.to-come [] (λ h. refl) ∙ last in
      record {
        text = f.text;
        bytes = f.bytes;
        last = v;
        finished = o.0;
        passed = subst (λ (l : List ℕ). Passed x.streams f.text l) (sym (i.all ∙ append-nil i.sent)) i.passed;
        answered = subst (λ (ls : List (List ℕ)). AnsweredInTurn ls u f.bytes v) (sym all) f.answered;
      }

-- ---- the whole program

pub listed : {u : Memory} {r : Streams} → AllAnswered u r → Lengths u → u.world.state ≡ no_state → Listed r
listed {u} a l e = record { first = u; lengths = l; closed = e; all = a }
