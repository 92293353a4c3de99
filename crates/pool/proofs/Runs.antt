-- A run from a head through records to the next one, as a loop that walks a chain goes: its start, one record more, what is linked from its end on;
-- then how it ends. A walk keeps `Runs next head records r`. At r = 0 the chain is `records` (runs-end); past the pool the chain does not end (runs-out); a
-- test of its own fails at r: were the chain to end, it would go on through r (runs-split). Assumes nothing.
use mathlib.Core.Path.{◌≡◌, refl, sym, ap, subst, ◌∙◌}
use mathlib.Core.Bool.{false}
use mathlib.Core.List.{List, [], ◌∷◌, ◌++◌, append-nil}
use Prim.Native.Nat.{ℕ, ◌≤◌, ◌<◌}
use native.Mathlib.Omega.{arith}
use lib.ListN.{length}
use Rattle.lists.specs.Lists.{at}
use Rattle.lists.proofs.Tests.{refute}
use Rattle.pool.specs.Chains.{chain, last_of, ends, Linked}
use Rattle.pool.proofs.Chains.{last-append, linked-nil, linked-head, linked-chain, chain-linked}

-- ---- a run, one record more, and what is linked from its end on

unfoldable pub Runs : (next : List ℕ) → (head : ℕ) → (records : List ℕ) → (r : ℕ) → Type 0
Runs ns h [] r = h ≡ r
Runs ns h (d ∷ ds) r = (h ≡ d) × (1 ≤ d) × (d ≤ length ns) × Runs ns (at ns d) ds r

pub runs-start : (ns : List ℕ) (h : ℕ) → Runs ns h [] h
unfolding Runs
runs-start ns h = refl

pub runs-more : (ns : List ℕ) (h : ℕ) (ds : List ℕ) (r : ℕ) → 1 ≤ r → r ≤ length ns → Runs ns h ds r → Runs ns h (ds ++ (r ∷ [])) (at ns r)
unfolding Runs
runs-more ns h [] r p q l = (l, p, q, refl)
runs-more ns h (d ∷ ds) r p q l = (l.0, l.1, l.2, runs-more ns (at ns d) ds r p q l.3)

-- what is linked from there on is linked from the head, and back
pub runs-linked : (ns : List ℕ) (h : ℕ) (ds : List ℕ) (r : ℕ) (rs : List ℕ) → Runs ns h ds r → Linked ns r rs → Linked ns h (ds ++ rs)
unfolding Runs Linked
runs-linked ns h [] r rs l k = subst (λ (x : ℕ). Linked ns x rs) (sym l) k
runs-linked ns h (d ∷ ds) r rs l k = (l.0, l.1, l.2, runs-linked ns (at ns d) ds r rs l.3 k)

-- ---- how a run ends

-- a chain that ends goes through the run's records, and on from r
pub runs-split : (ns : List ℕ) (h : ℕ) (ds : List ℕ) (r : ℕ) (rs : List ℕ) → Runs ns h ds r → Linked ns h rs → (ts : List ℕ) × (rs ≡ ds ++ ts) × Linked ns r ts
unfolding Runs Linked
runs-split ns h [] r rs l k = (rs, refl, subst (λ (x : ℕ). Linked ns x rs) l k)
runs-split ns h (d ∷ ds) r [] l k = absurd (omega (arith, l.0, l.1, k))
runs-split ns h (d ∷ ds) r (s ∷ ss) l k =
    let e : s ≡ d = sym k.0 ∙ l.0 in
    let t : (ts : List ℕ) × (ss ≡ ds ++ ts) × Linked ns r ts = runs-split ns (at ns d) ds r ss l.3 (subst (λ (x : ℕ). Linked ns (at ns x) ss) e k.3) in
    (t.0, ap (λ (x : ℕ). x ∷ ss) e ∙ ap (λ (l : List ℕ). d ∷ l) t.1, t.2)

-- at 0 the records are the chain
pub runs-end : (ns : List ℕ) (h : ℕ) (ds : List ℕ) → Runs ns h ds 0 → Linked ns h ds
runs-end ns h ds l = subst (λ (t : List ℕ). Linked ns h t) (append-nil ds) (runs-linked ns h ds 0 [] l (linked-nil ns))

pub runs-chain : (ns : List ℕ) (h : ℕ) (ds : List ℕ) → Runs ns h ds 0 → chain ns h ≡ ds
runs-chain ns h ds l = linked-chain ns h ds (runs-end ns h ds l)

-- out of the pool it does not end
pub runs-out : (ns : List ℕ) (h : ℕ) (ds : List ℕ) (r : ℕ) → Runs ns h ds r → length ns < r → ends ns h ≡ false
runs-out ns h ds r l p =
    refute (ends ns h) (λ e.
    (let t : (ts : List ℕ) × (chain ns h ≡ ds ++ ts) × Linked ns r ts = runs-split ns h ds r (chain ns h) l (chain-linked ns h e) in
    omega (arith, linked-head ns r t.0 t.2)))

-- the last record met
pub runs_last : (ds : List ℕ) (r : ℕ) → last_of 0 (ds ++ (r ∷ [])) ≡ r
unfolding last_of
runs_last ds r = last-append 0 ds r []
