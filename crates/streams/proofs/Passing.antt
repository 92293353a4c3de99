-- Bytes that went through: none at first, a read adds to the input, a write to the output unless one failed before. Then the bytes that wait at the front of a
-- list: written ones wait no more, and added ones wait behind the others. Assumes nothing.
use Rattle.std.proofs.Common.{◌≡◌, ◌≢◌, ℕ, ◌+◌, ◌/◌, ◌%◌, ◌^◌, ◌≤◌, ◌<◌, Bool, true, false, ◌⊎◌, List, [], ◌++◌, length, take, sym, refl, ap, ◌∙◌, subst, inl, inr, true≢false, append_assoc, append-nil, arith, length-append, length-take-le}
use Rattle.streams.specs.Passing.{CountOf, Passed, Finished, Read, Wrote, Issued}
use Rattle.std.specs.declared.io.Stdin.{Stdin}
use Rattle.std.specs.declared.io.Stdout.{Stdout}
use Rattle.streams.specs.declared.Source.{Source}
use Rattle.streams.specs.declared.Source.TheVariants.{Open, Ended, Broken}
use Rattle.streams.specs.declared.Streams.{Streams}

-- ---- counts

count-more : (c n b : ℕ) → CountOf c n → CountOf ((c + b) % 2 ^ 64) (n + b)
count-more c n b q = ((c + b) / 2 ^ 64 + q.0, omega (arith, q.1))

-- ---- reads and writes

pub passed_start : (i : Stdin) (o : Stdout) → Passed (record { stdin = i; stdout = o; read = 0; written = 0; reads = 0; source = Open; failed = false }) [] []
passed_start i o = record { handed = 0; read = (0, refl); written = (0, refl); front = omega arith; whole = λ e. refl }

pub passed-read : {s : Streams} {i o : List ℕ} (bs : List ℕ) (k : ℕ) (d : Source) {n : ℕ} → n ≡ (s.read + length bs) % 2 ^ 64 → s.failed ≡ false → Passed s i o →
    Passed (record { stdin = s.stdin; stdout = s.stdout; read = n; written = s.written; reads = k; source = d; failed = s.failed }) (i ++ bs) o
passed-read {s} {i} {o} bs k d {n} q e p =
    record {
      handed = p.handed;
      read = subst (λ (c : ℕ). CountOf c (length (i ++ bs))) (sym q)
          (subst (λ (l : ℕ). CountOf ((s.read + length bs) % 2 ^ 64) l) (sym (length-append i bs)) (count-more s.read (length i) (length bs) p.read));
      written = p.written;
      front = p.front;
      whole = λ f. p.whole e;
    }

pub passed-write : {s : Streams} {i o : List ℕ} (bs : List ℕ) (f : Bool) {n : ℕ} → n ≡ (s.written + length bs) % 2 ^ 64 → s.failed ≡ false → Passed s i o →
    Passed (record { stdin = s.stdin; stdout = s.stdout; read = s.read; written = n; reads = s.reads; source = s.source; failed = f }) i (o ++ bs)
passed-write {s} {i} {o} bs f {n} q e p =
    record {
      handed = length (o ++ bs);
      read = p.read;
      written = subst (λ (c : ℕ). CountOf c (length (o ++ bs))) (sym q)
          (subst (λ (l : ℕ). CountOf ((s.written + length bs) % 2 ^ 64) l) (ap (λ (l : ℕ). l + length bs) (p.whole e) ∙ sym (length-append o bs))
          (count-more s.written p.handed (length bs) p.written));
      front = omega arith;
      whole = λ h. refl;
    }

-- after a failed write
pub passed-failed : {s : Streams} {i o : List ℕ} (bs : List ℕ) → s.failed ≡ true → Passed s i o → Passed s i (o ++ bs)
passed-failed {s} {i} {o} bs e p =
    record {
      handed = p.handed;
      read = p.read;
      written = p.written;
      front = omega (arith, p.front, length-append o bs);
      whole = λ q. absurd (true≢false (sym e ∙ q));
    }

-- ---- no read gives any more

-- none of the three reasons
pub not-finished : (s : Streams) → s.source ≡ Open → s.failed ≡ false → (s.reads ≡ 18446744073709551615 → ⊥) → Finished s → ⊥
not-finished s e f m h =
    elim h [
      | inl a ↦ a e
      | inr h' ↦ elim h' [ inl b ↦ true≢false (sym b ∙ f) | inr k ↦ m k ]
    ]

-- what a read that was made found: some bytes, the end, or a failure
pub record Found (piece : List ℕ) (n : ℕ) (x : Source) : Type 0 where
  pub within : n ≤ length piece
  pub none : n ≡ 0 → x ≢ Open
  pub some : 1 ≤ n → x ≡ Open

pub found-end : {piece : List ℕ} → Found piece 0 Ended
found-end = record { within = omega arith; none = λ h e. cc; some = λ h. absurd (omega arith) }

pub found-failure : {piece : List ℕ} → Found piece 0 Broken
found-failure = record { within = omega arith; none = λ h e. cc; some = λ h. absurd (omega arith) }

pub found-bytes : {piece : List ℕ} {n : ℕ} → n ≤ length piece → (n ≡ 0 → ⊥) → Found piece n Open
found-bytes w h = record { within = w; none = λ z. absurd (h z); some = λ _. refl }

pub read-made : (s : Streams) {piece : List ℕ} {n : ℕ} {x : Source} → Found piece n x → s.source ≡ Open → s.failed ≡ false → s.reads < 18446744073709551615 →
    Read s piece (record {
      streams = record { stdin = s.stdin; stdout = s.stdout; read = (s.read + n) % 18446744073709551616; written = s.written; reads = s.reads + 1; source = x; failed = s.failed };
      count = n;
    })
read-made s {piece} {n} g e f fewer =
    record {
      within = g.within;
      passed = λ i o p. passed-read (take n piece) _ _ (ap (λ (l : ℕ). (s.read + l) % 2 ^ 64) (sym (length-take-le n piece g.within))) f p;
      none = λ h z. inl (g.none z);
      later = λ h. absurd (not-finished s e f (λ k. omega (arith, k, fewer)) h);
      most = omega (arith, fewer);
      less = λ h. omega (arith, fewer);
      goes_on = λ h. (g.some h, (f, refl));
    }

-- a write reads nothing
pub finished-write : (s : Streams) (f : Bool) → s.failed ≡ false → Finished s → (s.source ≢ Open) ⊎ ((f ≡ true) ⊎ (s.reads ≡ 18446744073709551615))
finished-write s f e h =
    elim h [
      | inl a ↦ inl a
      | inr h' ↦ elim h' [ inl b ↦ absurd (true≢false (sym b ∙ e)) | inr k ↦ inr (inr k) ]
    ]

-- ---- bytes that wait

-- those that waited are written
pub issued-written : {s : Streams} (r : Streams) {list i o : List ℕ} {count : ℕ} → Wrote s (take count list) r → Issued s list count i o → Passed r i o
issued-written r {i = i} w q = subst (λ (x : List ℕ). Passed r i x) (sym q.all) (w.passed i q.sent q.passed)

-- none waits
pub issued-none : {s : Streams} {list i o : List ℕ} → Passed s i o → Issued s list 0 i o
issued-none {o = o} p = record { sent = o; passed = p; all = sym (append-nil o) }

-- some more wait behind them
pub issued-more : {s : Streams} {list list' i o : List ℕ} {count count' : ℕ} (bs : List ℕ) → take count' list' ≡ take count list ++ bs → Issued s list count i o → Issued s list' count' i (o ++ bs)
issued-more {list = list} {count = count} bs e q =
    record { sent = q.sent; passed = q.passed; all = ap (λ (x : List ℕ). x ++ bs) q.all ∙ append_assoc q.sent (take count list) bs ∙ ap (λ (x : List ℕ). q.sent ++ x) (sym e) }
