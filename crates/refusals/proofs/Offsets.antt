-- Where the rows of each column of a batch stand: the offsets place by place, and the columns of `batch_of` by place. That the rows lie within the list
-- is a matter of accepted batches: Accepted.antt.
-- Assumes nothing.
use mathlib.Core.Path.{◌≡◌, refl, ap, ◌∙◌}
use mathlib.Core.List.{List, [], ◌∷◌}
use Prim.Native.Nat.{ℕ, zero, suc, ◌+◌, ◌<◌}
use native.Mathlib.Omega.{arith}
use lib.ListN.{length, get_or, take, drop}
use lib.Seq.{drop-drop}
use Rattle.symbolic.specs.Columns.{Column, column_with}
use Rattle.calls.specs.Refusals.{batch_of}
use Rattle.refusals.specs.Offsets.{offset_of, column_lent}

-- ---- offsets

pub offset-first : (ns : List ℕ) → offset_of ns 0 ≡ 0
unfolding offset_of
offset-first [] = refl
offset-first (n ∷ ns) = refl

pub offset-next : (ns : List ℕ) (k : ℕ) → k < length ns → offset_of ns (suc k) ≡ offset_of ns k + get_or ns k 0
unfolding offset_of
offset-next [] k h = absurd (omega arith)
offset-next (n ∷ ns) zero h = omega (arith, offset-first ns)
offset-next (n ∷ ns) (suc k) h = omega (arith, offset-next ns k (omega arith))

-- ---- the columns of a batch, by place

pub batch-length : (is ns rs : List ℕ) → length ns ≡ length is → length (batch_of is ns rs) ≡ length is
unfolding batch_of
batch-length [] ns rs e = refl
batch-length (i ∷ is) [] rs e = absurd (omega arith)
batch-length (i ∷ is) (n ∷ ns) rs e = ap suc (batch-length is ns (drop n rs) (omega arith))

pub batch-at : (is ns rs : List ℕ) (k : ℕ) (d : Column) → length ns ≡ length is → k < length is → get_or (batch_of is ns rs) k d ≡ column_lent is ns rs k
unfolding batch_of offset_of
batch-at [] ns rs k d e h = absurd (omega arith)
batch-at (i ∷ is) [] rs k d e h = absurd (omega arith)
batch-at (i ∷ is) (n ∷ ns) rs zero d e h = refl
batch-at (i ∷ is) (n ∷ ns) rs (suc k) d e h =
    batch-at is ns (drop n rs) k d (omega arith) (omega arith) ∙
    ap (λ (xs : List ℕ). column_with (get_or is k 0) (take (get_or ns k 0) xs)) (drop-drop (offset_of ns k) n rs)
