-- Values put along a chain: what is there after (put_all), and the two loops that do it, each by "what is left to put gives the same table as the
-- whole": Writing puts the rows of a list along the front of a chain, Clearing puts 0 along a whole chain. Assumes nothing.
use mathlib.Core.Path.{◌≡◌, refl, sym, ap, subst, ◌∙◌}
use mathlib.Core.Logic.{inl, inr, ◌≢◌}
use mathlib.Core.List.{List, [], ◌∷◌}
use Prim.Native.Nat.{ℕ, zero, suc, ◌+◌, ◌-◌, ◌≤◌, ◌<◌}
use native.Mathlib.Omega.{arith}
use native.Mathlib.Numerals.{add-one}
use lib.ListN.{length, get_or, take, drop, replicate, length-drop}
use lib.Seq.{drop-cons}
use Rattle.lists.specs.Lists.{at, put, times, values_at}
use Rattle.lists.proofs.Tests.{eq-or-ne, zero-or-pos}
use Rattle.lists.proofs.Times.{times-nil, times-self, times-other, times-cons, apart, UpTo}
use Rattle.lists.proofs.Place.{put-length, at-put-same, at-put-other}
use Rattle.pool.specs.Chains.{chain, last_of, Linked}
use Rattle.pool.proofs.Chains.{linked-chain, linked-self, linked-end, Step, linked-step, linked-some}
use Rattle.book.specs.Records.{put_all, clear_all, HasChain, CanWrite, RowsWritten, Cleared}

-- ---- put_all

pub put-all-nil : (xs rs : List ℕ) → put_all xs rs [] ≡ xs
unfolding put_all
put-all-nil xs [] = refl
put-all-nil xs (r ∷ rs) = refl

pub put-all-cons : (xs : List ℕ) (r : ℕ) (rs : List ℕ) (v : ℕ) (vs : List ℕ) → put_all xs (r ∷ rs) (v ∷ vs) ≡ put_all (put xs r v) rs vs
unfolding put_all
put-all-cons xs r rs v vs = refl

pub put-all-length : (xs rs vs : List ℕ) → length (put_all xs rs vs) ≡ length xs
unfolding put_all
put-all-length xs [] vs = refl
put-all-length xs (r ∷ rs) [] = refl
put-all-length xs (r ∷ rs) (v ∷ vs) = put-all-length (put xs r v) rs vs ∙ put-length xs r v

times-take : (x n : ℕ) (rs : List ℕ) → times x (take n rs) ≤ times x rs
times-take x zero rs = omega (arith, times-nil x)
times-take x (suc n) [] = omega (arith, times-nil x)
times-take x (suc n) (r ∷ rs) = omega (arith, times-take x n rs, times-cons x r (take n rs), times-cons x r rs)

-- the records after the first are of the table with one value put
within-rest : (xs : List ℕ) (r : ℕ) (rs : List ℕ) (v : ℕ) → UpTo (length xs) (r ∷ rs) → UpTo (length (put xs r v)) rs
within-rest xs r rs v w x n =
    let t : (1 ≤ x) × (x ≤ length xs) = w x (omega (arith, times-cons x r rs)) in omega (arith, put-length xs r v)

-- a number that no value is put at
pub put-all-other : (xs rs vs : List ℕ) (x : ℕ) → UpTo (length xs) rs → 1 ≤ x → times x (take (length vs) rs) ≡ 0 → at (put_all xs rs vs) x ≡ at xs x
unfolding put_all
put-all-other xs [] vs x w p n = refl
put-all-other xs (r ∷ rs) [] x w p n = refl
put-all-other xs (r ∷ rs) (v ∷ vs) x w p n =
    put-all-other (put xs r v) rs vs x (within-rest xs r rs v w) p (omega (arith, times-cons x r (take (length vs) rs))) ∙
    at-put-other xs r x v (w r (omega (arith, times-self r rs))).0 p (apart x r (take (length vs) rs) n)

-- the values stand at the first records
pub put-all-values : (xs rs vs : List ℕ) → UpTo (length xs) rs → ((x : ℕ) → times x rs ≤ 1) → length vs ≤ length rs → values_at (put_all xs rs vs) (take (length vs) rs) ≡ vs
unfolding put_all values_at
put-all-values xs rs [] w once h = refl
put-all-values xs [] (v ∷ vs) w once h = absurd (omega arith)
put-all-values xs (r ∷ rs) (v ∷ vs) w once h =
    let in-r : (1 ≤ r) × (r ≤ length xs) = w r (omega (arith, times-self r rs)) in
    let gone : times r (take (length vs) rs) ≡ 0 = omega (arith, once r, times-self r rs, times-take r (length vs) rs) in
    let here : at (put_all (put xs r v) rs vs) r ≡ v =
    put-all-other (put xs r v) rs vs r (within-rest xs r rs v w) in-r.0 gone ∙ at-put-same xs r v in-r.0 in-r.1 in
    let rest : values_at (put_all (put xs r v) rs vs) (take (length vs) rs) ≡ vs =
    put-all-values (put xs r v) rs vs (within-rest xs r rs v w) (λ x. omega (arith, once x, times-cons x r rs)) (omega arith) in
    rw (here, rest) refl

-- ---- clear_all

pub clear-length : (xs rs : List ℕ) → length (clear_all xs rs) ≡ length xs
clear-length xs rs = put-all-length xs rs (replicate (length rs) 0)

pub clear-other : (xs rs : List ℕ) (x : ℕ) → UpTo (length xs) rs → 1 ≤ x → times x rs ≡ 0 → at (clear_all xs rs) x ≡ at xs x
clear-other xs rs x w p n =
    put-all-other xs rs (replicate (length rs) 0) x w p (omega (arith, times-take x (length (replicate {A = ℕ} (length rs) 0)) rs))

pub clear_zero : (xs rs : List ℕ) (x : ℕ) → UpTo (length xs) rs → 1 ≤ times x rs → at (clear_all xs rs) x ≡ 0
unfolding put_all
clear_zero xs [] x w n = absurd (omega (arith, times-nil x))
clear_zero xs (r ∷ rs) x w n =
    elim (zero-or-pos (times x rs)) [
      | inr q ↦ clear_zero (put xs r 0) rs x (within-rest xs r rs 0 w) q
      | inl q ↦ elim (eq-or-ne x r) [
        | inr e ↦ absurd (omega (arith, times-other x r rs e))
        | inl e ↦
            let t : (1 ≤ x) × (x ≤ length xs) = w x n in
            clear-other (put xs r 0) rs x (within-rest xs r rs 0 w) t.0 q ∙ ap (λ (k : ℕ). at (put xs k 0) x) (sym e) ∙ at-put-same xs x 0 t.0 t.1
      ]
    ]

-- ---- the loop that writes a list along a chain

pub record Writing (rows₀ next list : List ℕ) (head : ℕ) (rows : List ℕ) (r last k : ℕ) : Type 0 where
  pub within : k ≤ length list
  pub long : length rows ≡ length rows₀
  pub linked : Linked next r (drop k (chain next head))
  pub last-is : 1 ≤ k → last ≡ at (chain next head) k
  pub same : put_all rows (drop k (chain next head)) (drop k list) ≡ put_all rows₀ (chain next head) list

pub record WriteTurn (rows₀ next list : List ℕ) (head : ℕ) (rows : List ℕ) (r k : ℕ) : Type 0 where
  pub low : 1 ≤ r
  pub high : r ≤ length next
  pub again : Writing rows₀ next list head (put rows r (get_or list k 0)) (at next r) r (k + 1)

module _ {rows₀ next list : List ℕ} {head : ℕ} (pre : CanWrite rows₀ next list head) where
  pub writing_start : Writing rows₀ next list head rows₀ head head 0
  writing_start = record { within = omega arith; long = refl; linked = pre.has.linked; last-is = λ p. absurd (omega arith); same = refl }

  pub writing-turn : {rows : List ℕ} {r last k : ℕ} → Writing rows₀ next list head rows r last k → k < length list → WriteTurn rows₀ next list head rows r k
  writing-turn {rows} {r} {last} {k} i h =
      let cs : List ℕ = chain next head in
      let room : k < length cs = omega (arith, pre.room) in
      let s : Step next r (drop k cs) = linked-step next r (drop k cs) (linked-some next r (drop k cs) (omega (arith, length-drop k cs)) i.linked) i.linked in
      let both : r ∷ s.rest ≡ get_or cs k 0 ∷ drop (suc k) cs = sym s.parts ∙ drop-cons cs k 0 room in
      let first-is : r ≡ get_or cs k 0 = cc in
      let rest-is : s.rest ≡ drop (suc k) cs = cc in
      let more : drop k list ≡ get_or list k 0 ∷ drop (suc k) list = drop-cons list k 0 h in
      let j : k + 1 - 1 ≡ k = omega arith in
      record {
        low = s.low;
        high = s.high;
        again = record {
          within = omega arith;
          long = put-length rows r (get_or list k 0) ∙ i.long;
          linked = subst (λ (l : List ℕ). Linked next (at next r) l) (rest-is ∙ ap (λ (n : ℕ). drop n cs) (sym (add-one k))) s.next;
          last-is = λ p. first-is ∙ ap (λ (n : ℕ). get_or cs n 0) (sym j);
          same =
              ap (λ (n : ℕ). put_all (put rows r (get_or list k 0)) (drop n cs) (drop n list)) (add-one k) ∙
              ap (λ (l : List ℕ). put_all (put rows r (get_or list k 0)) l (drop (suc k) list)) (sym rest-is) ∙
              sym (put-all-cons rows r s.rest (get_or list k 0) (drop (suc k) list)) ∙
              ap (put_all rows (r ∷ s.rest)) (sym more) ∙ ap (λ (l : List ℕ). put_all rows l (drop k list)) (sym s.parts) ∙ i.same;
        };
      }

  pub writing-end : {rows : List ℕ} {r last k : ℕ} → Writing rows₀ next list head rows r last k → length list ≤ k → RowsWritten rows₀ rows next list head last
  writing-end {rows} {r} {last} {k} i h =
      let e : k ≡ length list = omega (arith, i.within) in
      let none : drop k list ≡ [] = ap (λ (n : ℕ). drop n list) e ∙ drop-length-nil list in
      record {
        last-is = i.last-is (omega (arith, pre.some)) ∙ ap (at (chain next head)) e;
        rows_are = sym (put-all-nil rows (drop k (chain next head))) ∙ ap (put_all rows (drop k (chain next head))) (sym none) ∙ i.same;
      }
    where
      drop-length-nil : (l : List ℕ) → drop (length l) l ≡ []
      drop-length-nil [] = refl
      drop-length-nil (x ∷ xs) = drop-length-nil xs

-- ---- the loop that clears a chain

pub record Clearing (rows₀ next : List ℕ) (head : ℕ) (rows : List ℕ) (r last : ℕ) : Type 0 where
  pub long : length rows ≡ length rows₀
  pub linked : Linked next r (chain next r)
  pub last-is : last_of last (chain next r) ≡ last_of head (chain next head)
  pub same : clear_all rows (chain next r) ≡ clear_all rows₀ (chain next head)

last-place : (r : ℕ) (rs : List ℕ) → last_of r rs ≡ get_or (r ∷ rs) (length rs) 0
unfolding last_of
last-place r [] = refl
last-place r (x ∷ xs) = last-place x xs

last_cons : (r x : ℕ) (xs : List ℕ) → last_of r (x ∷ xs) ≡ last_of x xs
unfolding last_of
last_cons r x xs = refl

-- the last of a chain, by place
last-at : (h : ℕ) (rs ss : List ℕ) → rs ≡ h ∷ ss → last_of h rs ≡ at rs (length rs)
last-at h rs ss e =
    let j : suc (length ss) - 1 ≡ length ss = omega arith in
    rw e (last_cons h h ss ∙ last-place h ss ∙ ap (λ (n : ℕ). get_or (h ∷ ss) n 0) (sym j))

pub record ClearTurn (rows₀ next : List ℕ) (head : ℕ) (rows : List ℕ) (r : ℕ) : Type 0 where
  pub low : 1 ≤ r
  pub high : r ≤ length next
  pub less : length (chain next (at next r)) < length (chain next r)
  pub again : Clearing rows₀ next head (put rows r 0) (at next r) r

module _ {rows₀ next : List ℕ} {head : ℕ} (pre : HasChain rows₀ next head) where
  pub clearing-start : Clearing rows₀ next head rows₀ head head
  clearing-start = record { long = refl; linked = pre.linked; last-is = refl; same = refl }

  pub clearing-turn : {rows : List ℕ} {r last : ℕ} → Clearing rows₀ next head rows r last → r ≢ 0 → ClearTurn rows₀ next head rows r
  unfolding put_all last_of
  clearing-turn {rows} {r} {last} i p =
      let s : Step next r (chain next r) = linked-step next r (chain next r) p i.linked in
      let e : chain next (at next r) ≡ s.rest = linked-chain next (at next r) s.rest s.next in
      let a : last_of last (r ∷ s.rest) ≡ last_of head (chain next head) = ap (last_of last) (sym s.parts) ∙ i.last-is in
      let b : clear_all rows (r ∷ s.rest) ≡ clear_all rows₀ (chain next head) = ap (clear_all rows) (sym s.parts) ∙ i.same in
      record {
        low = s.low;
        high = s.high;
        less = omega (arith, ap length e, ap length s.parts);
        again = record {
          long = put-length rows r 0 ∙ i.long;
          linked = linked-self next (at next r) s.rest s.next;
          last-is = ap (last_of r) e ∙ a;
          same = ap (clear_all (put rows r 0)) e ∙ b;
        };
      }

  pub clearing-end : {rows : List ℕ} {r last : ℕ} → head ≢ 0 → Clearing rows₀ next head rows r last → r ≡ 0 → Cleared rows₀ rows next head last
  unfolding put_all last_of
  clearing-end {rows} {r} {last} some i p =
      let e : chain next r ≡ [] = linked-end next r (chain next r) p i.linked in
      let s : Step next head (chain next head) = linked-step next head (chain next head) some pre.linked in
      let a : last ≡ last_of head (chain next head) = ap (last_of last) (sym e) ∙ i.last-is in
      let b : rows ≡ clear_all rows₀ (chain next head) = ap (clear_all rows) (sym e) ∙ i.same in
      record { last-is = a ∙ last-at head (chain next head) s.rest s.parts; rows_are = b }
