-- Laws of a whole pool, in this order: the records of all chains, of lists of heads joined and of one head or two at their numbers; AllLinked
-- likewise, and where the `next` table changes; what a pool gives of each chain: it is linked, it shares no record with the free chain or
-- with another; the test `is_whole` and the record Pool say
-- the same (whole-pool, pool-whole). Assumes nothing.
use mathlib.Core.Path.{◌≡◌, refl, sym, ap, ◌∙◌}
use mathlib.Core.Logic.{◌⊎◌, inl, inr, ◌≢◌}
use mathlib.Core.Bool.{Bool, true, ◌&&◌}
use mathlib.Core.List.{List, [], ◌∷◌, ◌++◌, append_assoc}
use Prim.Native.Nat.{ℕ, zero, suc, ◌+◌, ◌-◌, ◌≤◌, ◌<◌}
use native.Mathlib.Omega.{arith}
use lib.Dec.{eqb}
use lib.ListN.{length, get_or, length-append}
use borrow.Author.Tests.{eq-eqb, eqb-true}
use Rattle.lists.specs.Lists.{at, times, all, no_repeats}
use Rattle.lists.proofs.Tests.{and_both, both-and}
use Rattle.lists.proofs.Times.{times-nil, times-append, once-of, of-once, UpTo}
use Rattle.pool.specs.Chains.{chain, ends, Linked}
use Rattle.pool.specs.Whole.{chains, is_whole, AllLinked, Pool}
use Rattle.pool.proofs.Chains.{chain-linked, linked-ends, linked-in, one-stays}

-- ---- the records of all chains

pub chains-nil : (ns : List ℕ) → chains ns [] ≡ []
unfolding chains
chains-nil ns = refl

pub chains_cons : (ns : List ℕ) (h : ℕ) (hs : List ℕ) → chains ns (h ∷ hs) ≡ chain ns h ++ chains ns hs
unfolding chains
chains_cons ns h hs = refl

pub chains-append : (ns xs ys : List ℕ) → chains ns (xs ++ ys) ≡ chains ns xs ++ chains ns ys
unfolding chains
chains-append ns [] ys = refl
chains-append ns (h ∷ hs) ys =
    ap (λ (l : List ℕ). chain ns h ++ l) (chains-append ns hs ys) ∙ sym (append_assoc (chain ns h) (chains ns hs) (chains ns ys))

pub chains-times : (ns : List ℕ) (h : ℕ) (hs : List ℕ) (x : ℕ) → times x (chains ns (h ∷ hs)) ≡ times x (chain ns h) + times x (chains ns hs)
chains-times ns h hs x = ap (times x) (chains_cons ns h hs) ∙ times-append x (chain ns h) (chains ns hs)

pub chains-length : (ns : List ℕ) (h : ℕ) (hs : List ℕ) → length (chains ns (h ∷ hs)) ≡ length (chain ns h) + length (chains ns hs)
chains-length ns h hs = ap length (chains_cons ns h hs) ∙ length-append (chain ns h) (chains ns hs)

-- a list of heads cut at one: how often, and how many
pub chains-mid : (ns xs : List ℕ) (h : ℕ) (ys : List ℕ) (x : ℕ) → times x (chains ns (xs ++ (h ∷ ys))) ≡ times x (chains ns xs) + (times x (chain ns h) + times x (chains ns ys))
chains-mid ns xs h ys x =
    ap (times x) (chains-append ns xs (h ∷ ys)) ∙ times-append x (chains ns xs) (chains ns (h ∷ ys)) ∙ ap (λ (n : ℕ). times x (chains ns xs) + n) (chains-times ns h ys x)

pub chains-mid-length : (ns xs : List ℕ) (h : ℕ) (ys : List ℕ) → length (chains ns (xs ++ (h ∷ ys))) ≡ length (chains ns xs) + (length (chain ns h) + length (chains ns ys))
chains-mid-length ns xs h ys =
    ap length (chains-append ns xs (h ∷ ys)) ∙ length-append (chains ns xs) (chains ns (h ∷ ys)) ∙ ap (λ (n : ℕ). length (chains ns xs) + n) (chains-length ns h ys)

-- ---- one head, or two, among the heads, by place

pub place-times : (ns hs : List ℕ) (j x : ℕ) → j < length hs → times x (chain ns (get_or hs j 0)) ≤ times x (chains ns hs)
place-times ns [] j x h = absurd (omega arith)
place-times ns (y ∷ hs) zero x h = omega (arith, chains-times ns y hs x)
place-times ns (y ∷ hs) (suc j) x h = omega (arith, chains-times ns y hs x, place-times ns hs j x (omega arith))

pub place-two : (ns hs : List ℕ) (j i x : ℕ) → j < length hs → i < length hs → j ≢ i → times x (chain ns (get_or hs j 0)) + times x (chain ns (get_or hs i 0)) ≤ times x (chains ns hs)
place-two ns [] j i x p q d = absurd (omega arith)
place-two ns (y ∷ hs) zero zero x p q d = absurd (d refl)
place-two ns (y ∷ hs) zero (suc i) x p q d = omega (arith, chains-times ns y hs x, place-times ns hs i x (omega arith))
place-two ns (y ∷ hs) (suc j) zero x p q d = omega (arith, chains-times ns y hs x, place-times ns hs j x (omega arith))
place-two ns (y ∷ hs) (suc j) (suc i) x p q d = omega (arith, chains-times ns y hs x, place-two ns hs j i x (omega arith) (omega arith) (λ e. d (ap suc e)))

pub place-linked : (ns hs : List ℕ) (j : ℕ) → j < length hs → AllLinked ns hs → Linked ns (get_or hs j 0) (chain ns (get_or hs j 0))
unfolding AllLinked
place-linked ns [] j h l = absurd (omega arith)
place-linked ns (x ∷ hs) zero h l = l.0
place-linked ns (x ∷ hs) (suc j) h l = place-linked ns hs j (omega arith) l.1

-- ---- every head's chain linked

pub all_nil : (ns : List ℕ) → AllLinked ns []
unfolding AllLinked
all_nil ns = tt

pub all_cons : (ns : List ℕ) (h : ℕ) (hs : List ℕ) → Linked ns h (chain ns h) → AllLinked ns hs → AllLinked ns (h ∷ hs)
unfolding AllLinked
all_cons ns h hs l k = (l, k)

pub all-parts : (ns : List ℕ) (h : ℕ) (hs : List ℕ) → AllLinked ns (h ∷ hs) → Linked ns h (chain ns h) × AllLinked ns hs
unfolding AllLinked
all-parts ns h hs l = l

pub all_split : (ns xs ys : List ℕ) → AllLinked ns (xs ++ ys) → AllLinked ns xs × AllLinked ns ys
unfolding AllLinked
all_split ns [] ys l = (tt, l)
all_split ns (h ∷ hs) ys l = let r : AllLinked ns hs × AllLinked ns ys = all_split ns hs ys l.1 in ((l.0, r.0), r.1)

pub all_join : (ns xs ys : List ℕ) → AllLinked ns xs → AllLinked ns ys → AllLinked ns (xs ++ ys)
unfolding AllLinked
all_join ns [] ys l k = k
all_join ns (h ∷ hs) ys l k = (l.0, all_join ns hs ys l.1 k)

pub all-at : (ns hs : List ℕ) (k : ℕ) → 1 ≤ k → k ≤ length hs → AllLinked ns hs → Linked ns (at hs k) (chain ns (at hs k))
all-at ns hs k p q l = place-linked ns hs (k - 1) (omega arith) l

-- every record of the chains is of the pool
pub all_in : (ns hs : List ℕ) → AllLinked ns hs → UpTo (length ns) (chains ns hs)
unfolding AllLinked
all_in ns [] l x n = absurd (omega (arith, ap (times x) (chains-nil ns), times-nil x))
all_in ns (h ∷ hs) l x n =
    elim (some x (chain ns h) (chains ns hs) (omega (arith, chains-times ns h hs x))) [
      | inl e ↦ linked-in ns h (chain ns h) l.0 x e
      | inr e ↦ all_in ns hs l.1 x e
    ]
  where
    some : (x : ℕ) (xs ys : List ℕ) → 1 ≤ times x xs + times x ys → (1 ≤ times x xs) ⊎ (1 ≤ times x ys)
    some x xs ys h = either (times x xs) (times x ys) h
      where
        either : (a b : ℕ) → 1 ≤ a + b → (1 ≤ a) ⊎ (1 ≤ b)
        either zero b h = inr (omega arith)
        either (suc a) b h = inl (omega arith)

-- chains whose records keep their nexts stay
pub record Stays (ns₀ ns hs : List ℕ) : Type 0 where
  pub same : chains ns hs ≡ chains ns₀ hs
  pub linked : AllLinked ns hs

pub all_stay : (ns₀ ns hs : List ℕ) → length ns ≡ length ns₀ → ((x : ℕ) → 1 ≤ x → 1 ≤ times x (chains ns₀ hs) → at ns x ≡ at ns₀ x) → AllLinked ns₀ hs → Stays ns₀ ns hs
unfolding chains AllLinked
all_stay ns₀ ns [] e same l = record { same = refl; linked = tt }
all_stay ns₀ ns (h ∷ hs) e same l =
    let one : (chain ns h ≡ chain ns₀ h) × Linked ns h (chain ns h) = one-stays ns₀ ns h e (λ x p q. same x p (omega (arith, chains-times ns₀ h hs x))) l.0 in
    let rest : Stays ns₀ ns hs = all_stay ns₀ ns hs e (λ x p q. same x p (omega (arith, chains-times ns₀ h hs x))) l.1 in
    record { same = rw (one.0, rest.same) refl; linked = (one.1, rest.linked) }

-- ---- what a pool gives of its chains

module _ {ns hs : List ℕ} {f : ℕ} (p : Pool ns hs f) where
  module _ (k : ℕ) (low : 1 ≤ k) (high : k ≤ length hs) where
    pub pool-linked : Linked ns (at hs k) (chain ns (at hs k))
    pool-linked = all-at ns hs k low high p.linked

    -- it shares no record with the free chain
    pub pool-once : (x : ℕ) → times x (chain ns (at hs k)) + times x (chain ns f) ≤ 1
    pool-once x = omega (arith, p.once x, place-times ns hs (k - 1) x (omega arith))

    -- nor with another
    pub pool-apart : (l : ℕ) → 1 ≤ l → l ≤ length hs → l ≢ k → (x : ℕ) → times x (chain ns (at hs l)) + times x (chain ns (at hs k)) + times x (chain ns f) ≤ 1
    pool-apart l a b d x = omega (arith, p.once x, place-two ns hs (l - 1) (k - 1) x (omega arith) (omega arith) (λ e. d (omega arith)))

    -- so a record of another chain stands neither here nor free
    pub pool-other : (l : ℕ) → 1 ≤ l → l ≤ length hs → l ≢ k → (x : ℕ) → 1 ≤ times x (chain ns (at hs l)) → times x (chain ns (at hs k)) + times x (chain ns f) ≡ 0
    pool-other l a b d x n = omega (arith, pool-apart l a b d x)

-- ---- the test and the record

all-ends : (ns hs : List ℕ) → all (ends ns) hs ≡ true → AllLinked ns hs
unfolding all AllLinked
all-ends ns [] e = tt
all-ends ns (h ∷ hs) e =
    let t : (ends ns h ≡ true) × (all (ends ns) hs ≡ true) = and_both (ends ns h) (all (ends ns) hs) e in
    (chain-linked ns h t.0, all-ends ns hs t.1)

ends-all : (ns hs : List ℕ) → AllLinked ns hs → all (ends ns) hs ≡ true
unfolding all AllLinked
ends-all ns [] l = refl
ends-all ns (h ∷ hs) l = both-and (linked-ends ns h (chain ns h) l.0) (ends-all ns hs l.1)

pub whole-pool : (ns hs : List ℕ) (f : ℕ) → is_whole ns hs f ≡ true → Pool ns hs f
whole-pool ns hs f e =
    let a : Bool = all (ends ns) (f ∷ hs) in
    let b : Bool = eqb (length (chains ns (f ∷ hs))) (length ns) in
    let t : ((a && b) ≡ true) × (no_repeats (chains ns (f ∷ hs)) ≡ true) = and_both (a && b) (no_repeats (chains ns (f ∷ hs))) e in
    let u : (a ≡ true) × (b ≡ true) = and_both a b t.0 in
    let l : Linked ns f (chain ns f) × AllLinked ns hs = all-parts ns f hs (all-ends ns (f ∷ hs) u.0) in
    record {
      linked = l.1;
      unused = l.0;
      once = λ x. omega (arith, once-of (chains ns (f ∷ hs)) t.1 x, chains-times ns f hs x);
      size = omega (arith, eqb-true (length (chains ns (f ∷ hs))) (length ns) u.1, chains-length ns f hs);
    }

pub pool-whole : (ns hs : List ℕ) (f : ℕ) → Pool ns hs f → is_whole ns hs f ≡ true
pool-whole ns hs f p =
    both-and (both-and (ends-all ns (f ∷ hs) (all_cons ns f hs p.unused p.linked)) (eq-eqb (length (chains ns (f ∷ hs))) (length ns) (omega (arith, p.size, chains-length ns f hs))))
    (of-once (chains ns (f ∷ hs)) (λ x. omega (arith, p.once x, chains-times ns f hs x)))
