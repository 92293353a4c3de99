-- An answer at the front of a part of a list stands behind what is before the part (`written_behind`), and waits there (`waits-more`). Assumes nothing.
use mathlib.Core.Path.{◌≡◌, sym, ap, ◌∙◌}
use mathlib.Core.List.{List, [], ◌++◌, append_assoc, append-nil}
use Prim.Native.Nat.{ℕ, ◌+◌, ◌-◌, ◌≤◌}
use native.Mathlib.Omega.{arith}
use lib.ListN.{length, take, drop, length-append}
use lib.Seq.{length-take-le, take_all, take-append-le, drop-drop, drop-length}
use borrow.Author.Rules.{part_to_end}
use borrow.Rule.Slice.PartMut.{put_mid}
use Rattle.listing_text.specs.Text.{Written}

-- what waits after an answer is written behind what waited
pub waits-more : {out₀ out bs : List ℕ} {waiting₀ waiting : ℕ} → waiting₀ ≤ length out₀ → Written out₀ waiting₀ bs out waiting → take waiting out ≡ take waiting₀ out₀ ++ bs
waits-more {out₀} {out} {bs} {waiting₀} {waiting} h w =
    let front : List ℕ = take waiting₀ out₀ ++ bs in
    let long : length front ≡ waiting = omega (arith, length-append (take waiting₀ out₀) bs, length-take-le waiting₀ out₀ h, w.next-is) in
    ap (λ (x : List ℕ). take waiting x) (w.out-is ∙ sym (append_assoc (take waiting₀ out₀) bs (drop (waiting₀ + length bs) out₀))) ∙
    take-append-le waiting front (drop (waiting₀ + length bs) out₀) (omega arith) ∙ take_all waiting front (omega arith)

-- written at the part's front it stands behind what is before the part
pub written_behind : (out part bs : List ℕ) (k e : ℕ) → k ≤ length out → Written (take (length out - k) (drop k out)) 0 bs part e → Written out k bs (put_mid k (length out - k) out part) (k + e)
written_behind out part bs k e h w =
    let n : k + (length out - k) ≡ length out = omega arith in
    let rest : drop (length out - k) (drop k out) ≡ [] = drop-drop (length out - k) k out ∙ ap (λ (m : ℕ). drop m out) n ∙ drop-length out in
    let z : 0 + length bs ≡ length bs = omega arith in
    let part-is : part ≡ bs ++ drop (k + length bs) out =
    w.out-is ∙ ap (λ (m : ℕ). bs ++ drop m (take (length out - k) (drop k out))) z ∙ ap (λ (l : List ℕ). bs ++ drop (length bs) l) (part_to_end out k) ∙ ap (λ (l : List ℕ). bs ++ l) (drop-drop (length bs) k out) in
    record {
      out-is = ap (λ (l : List ℕ). take k out ++ (part ++ l)) rest ∙ ap (λ (l : List ℕ). take k out ++ l) (append-nil part ∙ part-is);
      next-is = omega (arith, w.next-is);
    }
