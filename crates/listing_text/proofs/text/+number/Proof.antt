-- `number` meets its contract, the one member of its cycle of calls: the digits but the last are written by the call, then the last. The
-- measure is the number. Assumes nothing.
use mathlib.Core.Path.{refl}
use native.Mathlib.Omega.{arith}
use lib.ListN.{length-set}
use Rattle.listing_text.proofs.Printing.{number_small, number-rest, Last, number-last}
use Prim.Native.Nat.{ℕ, ◌<◌}
use borrow.Fn.Kinds.{In}
use borrow.Fn.PlainCycle.{Measures, is, falls, and}
use Rattle.listing_text.proofs.text.number.Reads as number
use Rattle.listing_text.proofs.text.number.Kinds as number-kinds
use Rattle.listing_text.proofs.text.+number.Lts-number as number-lts
use Rattle.listing_text.proofs.text.+number.{statement}
use Rattle.listing_text.proofs.text.+number.Tie.{close}

abbrev μ-number : Measures 1 number-kinds.ps ℕ
μ-number κs a = a.1.1.0

abbrev number_at : ℕ → In 1 number-kinds.ps
number_at t = and 1 number-kinds.ps (is 1 number-kinds.ps μ-number t) number.Pre

abbrev number-below : ℕ → In 1 number-kinds.ps
number-below t = and 1 number-kinds.ps (falls 1 number-kinds.ps ◌<◌ μ-number t) number.Pre

-- after the call: the digits but the last
last : (t : ℕ) (c : number-lts.After-number-end (number-below t, number.Post) (number_at t) number.Post)
    → Last c.before.before.before.before.args.out.now c.before.before.before.before.args.at c.before.before.before.before.args.n c.number-end.new.out c.number-end.result
last t c = number-last c.before.before.before.before.requires.1 c.before.before.if-n-lt10.false c.number-end.ensures

number-cast-out :
    (t : ℕ) → number-lts.Need-overflow_cast-out (number-below t, number.Post) (number_at t) number.Post
number-cast-out t c = omega arith

number-add-out :
    (t : ℕ) → number-lts.Need-overflow_add-out (number-below t, number.Post) (number_at t) number.Post
number-add-out t c = omega arith

number-slice-write-out :
    (t : ℕ) →
    number-lts.Need-bounds-out-at (number-below t, number.Post) (number_at t) number.Post
number-slice-write-out t c = (number_small c.before.before.requires.1 c.if-n-lt10.true).0

number-add-result :
    (t : ℕ) → number-lts.Need-overflow_add-result (number-below t, number.Post) (number_at t) number.Post
number-add-result t c =
    let b = (number_small c.before.before.requires.1 c.if-n-lt10.true).0 in
    omega (arith, c.before.before.well_formed.0.0)

number-same-length :
    (t : ℕ) → number-lts.Need-shape_of-out-then-n-lt10 (number-below t, number.Post) (number_at t) number.Post
number-same-length t c = simp length-set refl

number-returns :
    (t : ℕ) → number-lts.Need-returns-then-n-lt10 (number-below t, number.Post) (number_at t) number.Post
number-returns t c = (number_small c.before.before.requires.1 c.if-n-lt10.true).1

number-number-requires :
    (t : ℕ) →
    number-lts.Need-number-end-requires (number-below t, number.Post) (number_at t) number.Post
number-number-requires t c κs =
    let s = c.before.before.before in
    (omega (arith, s.requires.0), number-rest s.requires.1 c.before.if-n-lt10.false)

number-cast-out-2 :
    (t : ℕ) → number-lts.Need-overflow_cast-out-2 (number-below t, number.Post) (number_at t) number.Post
number-cast-out-2 t c = omega arith

number-add-out-2 :
    (t : ℕ) → number-lts.Need-overflow_add-out-2 (number-below t, number.Post) (number_at t) number.Post
number-add-out-2 t c = omega arith

number-slice-write-out-2 : (t : ℕ) → number-lts.Need-bounds-out-end (
  number-below t,
  number.Post,
) (number_at t) number.Post
number-slice-write-out-2 t c =
    let l = last t c.before.before in
    omega (arith, c.before.before.number-end.ensures.next-is)

number-add-result-2 :
    (t : ℕ) → number-lts.Need-overflow_add-result-2 (number-below t, number.Post) (number_at t) number.Post
number-add-result-2 t c =
    let l = last t c.before.before in
    omega (arith, c.before.before.before.before.before.before.well_formed.0.0)

number-same-length-2 :
    (t : ℕ) →
    number-lts.Need-shape_of-out (number-below t, number.Post) (number_at t) number.Post
number-same-length-2 t c = simp length-set (last t c.before.before).long

number-returns-2 :
    (t : ℕ) → number-lts.Need-returns (number-below t, number.Post) (number_at t) number.Post
number-returns-2 t c = (last t c.before.before).after

pub +number_spec : {M : Type 1} → statement M
+number_spec =
    close
    μ-number
    λ t. number-lts.spec
    (number-below t, number.Post)
    (number_at t)
    number.Post
    (number-cast-out t)
    (number-add-out t)
    (number-slice-write-out t)
    (number-add-result t)
    (number-same-length t)
    (number-returns t)
    (number-number-requires t)
    (number-cast-out-2 t)
    (number-add-out-2 t)
    (number-slice-write-out-2 t)
    (number-add-result-2 t)
    (number-same-length-2 t)
    (number-returns-2 t)
