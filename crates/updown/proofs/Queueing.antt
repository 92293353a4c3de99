-- Laws of the queues: one queue framed, pushed, popped; all queues while one of them is emptied into a local head, as a turn does it: opened, popped, the
-- column passed on, closed; a column queued. Premises are indices for omega. Assumes nothing.
use mathlib.Core.Path.{◌≡◌, refl, sym, ap, ◌∙◌, subst}
use mathlib.Core.Logic.{inl, inr, ◌≢◌}
use mathlib.Core.Bool.{Bool, true, false, true≢false}
use mathlib.Core.List.{List, [], ◌∷◌}
use Prim.Native.Nat.{ℕ, suc, ◌+◌, ◌-◌, ◌*◌, ◌≤◌, ◌<◌}
use native.Mathlib.Omega.{arith}
use lib.Dec.{eqb}
use lib.ListN.{length, get_or, set, length-set}
use lib.Seq.{get_or-set_same, get_or-set_other}
use borrow.Author.Tests.{eqb-true, eq-eqb, ne_eqb}
use Rattle.lists.specs.Lists.{pick, one, at, times}
use Rattle.lists.proofs.Tests.{eq-or-ne, one-pos, pos-one, refute}
use Rattle.lists.proofs.Times.{times-self, times-other, times-nil}
use Rattle.workspace.specs.Regions.{cell}
use Rattle.workspace.proofs.Regions.{region-length, region-cell}
use Rattle.pool.specs.Chains.{Linked}
use Rattle.pool.proofs.Chains.{Step, linked-frame, linked-cons, linked-step, linked-end, linked-low, linked-high, linked-once}
use Rattle.updown.specs.Marks.{queued}
use Rattle.updown.specs.Queues.{links, Queue, Queues}

-- ---- one queue

waits_in : {ns : List ℕ} {h : ℕ} {f : ℕ → Bool} (q : Queue ns h f) (c : ℕ) → 1 ≤ times c q.members → (1 ≤ c) × (c ≤ length ns) × (f c ≡ true)
waits_in {ns} {h} {f} q c p =
    let a : 1 ≤ c = linked-low ns h q.members c q.linked p in
    let b : c ≤ length ns = linked-high ns h q.members c q.linked p in
    (a, b, one-pos (f c) (omega (arith, q.holds c a b)))

pub queue-frame : {ns ns' : List ℕ} {h : ℕ} {f g : ℕ → Bool} → Queue ns h f → length ns' ≡ length ns →
    ((c : ℕ) → 1 ≤ c → c ≤ length ns → f c ≡ true → at ns' c ≡ at ns c) → ((c : ℕ) → 1 ≤ c → c ≤ length ns → g c ≡ f c) → Queue ns' h g
queue-frame {ns} {ns'} {h} {f} {g} q l s e =
    record {
      members = q.members;
      linked = linked-frame ns ns' h q.members l (λ c a p. let t : (1 ≤ c) × (c ≤ length ns) × (f c ≡ true) = waits_in q c p in s c a t.1 t.2) q.linked;
      holds = λ c a b. q.holds c a (omega arith) ∙ ap one (sym (e c a (omega arith)));
    }

pub queue-push : {ns ns' : List ℕ} {h : ℕ} {f g : ℕ → Bool} (c : ℕ) → Queue ns h f → length ns' ≡ length ns → 1 ≤ c → c ≤ length ns → f c ≡ false →
    at ns' c ≡ h → ((d : ℕ) → 1 ≤ d → d ≤ length ns → d ≢ c → at ns' d ≡ at ns d) → g c ≡ true → ((d : ℕ) → 1 ≤ d → d ≤ length ns → d ≢ c → g d ≡ f d) → Queue ns' c g
queue-push {ns} {ns'} {h} {f} {g} c q l a b n e s gc gd =
    let k : Queue ns' h f = queue-frame q l (λ d x y t. s d x y (λ z. true≢false (sym t ∙ ap f z ∙ n))) (λ d x y. refl) in
    record {
      members = c ∷ k.members;
      linked = linked-cons ns' c k.members a (omega arith) (subst (λ (y : ℕ). Linked ns' y k.members) (sym e) k.linked);
      holds = λ d x y. elim (eq-or-ne d c) [
        | inl z ↦ omega (arith, ap one (ap g z ∙ gc), ap one (ap f z ∙ n), k.holds d x y, times-self c k.members, ap (λ (t : ℕ). times t (c ∷ k.members)) z, ap (λ (t : ℕ). times t k.members) z)
        | inr z ↦ times-other d c k.members z ∙ k.holds d x y ∙ ap one (sym (gd d x (omega arith) z))
      ];
    }

pub queue-first : {ns : List ℕ} {c : ℕ} {f : ℕ → Bool} → c ≢ 0 → Queue ns c f → (1 ≤ c) × (c ≤ length ns) × (f c ≡ true)
queue-first {ns} {c} {f} n q =
    let t : Step ns c q.members = linked-step ns c q.members n q.linked in
    waits_in q c (omega (arith, ap (λ (l : List ℕ). times c l) t.parts, times-self c t.rest))

pub queue-pop : {ns : List ℕ} {c : ℕ} {f g : ℕ → Bool} → c ≢ 0 → Queue ns c f → g c ≡ false → ((d : ℕ) → 1 ≤ d → d ≤ length ns → d ≢ c → g d ≡ f d) → Queue ns (at ns c) g
queue-pop {ns} {c} {f} {g} n q gc gd =
    let t : Step ns c q.members = linked-step ns c q.members n q.linked in
    record {
      members = t.rest;
      linked = t.next;
      holds = λ d x y. elim (eq-or-ne d c) [
        | inl z ↦ omega (
          arith,
          ap one (ap g z ∙ gc),
          linked-once ns c q.members q.linked c,
          ap (λ (l : List ℕ). times c l) t.parts,
          times-self c t.rest,
          ap (λ (y : ℕ). times y t.rest) z,
        )
        | inr z ↦ omega (
          arith,
          ap (λ (l : List ℕ). times d l) t.parts,
          times-other d c t.rest z,
          q.holds d x y,
          ap one (gd d x y z),
        )
      ];
    }

-- a head of 0: nobody waits; and where nobody waits the head is 0
pub queue-empty : {ns : List ℕ} {h : ℕ} {f : ℕ → Bool} → h ≡ 0 → Queue ns h f → (c : ℕ) → 1 ≤ c → c ≤ length ns → f c ≡ false
queue-empty {ns} {h} {f} z q c a b =
    refute (f c) (λ t. let e : q.members ≡ [] = linked-end ns h q.members z q.linked in
    omega (arith, q.holds c a b, pos-one (f c) t, ap (λ (l : List ℕ). times c l) e, times-nil c))

pub queue-none : {ns : List ℕ} {h : ℕ} {f : ℕ → Bool} → ((c : ℕ) → 1 ≤ c → c ≤ length ns → f c ≡ false) → Queue ns h f → h ≡ 0
queue-none {ns} {h} {f} z q =
    elim (eq-or-ne h 0) [
      | inl e ↦ e
      | inr n ↦ let t : (1 ≤ h) × (h ≤ length ns) × (f h ≡ true) = queue-first n q in absurd (true≢false (sym t.2 ∙ z h t.0 t.1))
    ]

-- ---- places

-- where each column waits once one has moved
abbrev pub moved : (place : ℕ → ℕ) (c x : ℕ) → ℕ → ℕ
moved place c x d = pick (eqb d c) x (place d)

pub moved-self : (place : ℕ → ℕ) (c x : ℕ) → moved place c x c ≡ x
moved-self place c x = rw (eq-eqb c c refl)

pub moved_other : (place : ℕ → ℕ) (c x d : ℕ) → d ≢ c → moved place c x d ≡ place d
moved_other place c x d n = rw (ne_eqb d c n)

pub moved-again : (place : ℕ → ℕ) (c x y d : ℕ) → moved place c y d ≡ moved (moved place c x) c y d
moved-again place c x y d = elim (eq-or-ne d c) [ inl e ↦ rw (eq-eqb d c e) refl | inr e ↦ rw (ne_eqb d c e) refl ]

-- ---- all queues

pub links-length : (m : ℕ) (w : List ℕ) → 8 * m ≤ length w → length (links m w) ≡ m
links-length m w h = region-length w (7 * m) m (omega arith)

pub link_at : (m : ℕ) (w : List ℕ) (c : ℕ) → 1 ≤ c → c ≤ m → at (links m w) c ≡ cell w (7 * m) (c - 1)
link_at m w c a b = region-cell w (7 * m) m (c - 1) (omega arith)

pub queues-ext : {m : ℕ} {w : List ℕ} {from except : ℕ} {place place' : ℕ → ℕ} → 8 * m ≤ length w → Queues m w from except place →
    ((c : ℕ) → 1 ≤ c → c ≤ m → place' c ≡ place c) → Queues m w from except place'
queues-ext {m} {w} l q e =
    record {
      queue = λ x a b n. queue-frame (q.queue x a b n) refl (λ c p r t. refl)
          (λ c p r. ap (λ (y : ℕ). eqb y x) (e c p (omega (arith, links-length m w l))));
      idle = λ c a b z. q.idle c a b (sym (e c a b) ∙ z);
    }

-- fewer queues
pub queues-fewer : {m : ℕ} {w : List ℕ} {from except from' except' : ℕ} {place : ℕ → ℕ} → Queues m w from except place → from ≤ from' →
    ((x : ℕ) → from' ≤ x → x ≢ except' → x ≢ except) → Queues m w from' except' place
queues-fewer q l n = record { queue = λ x a b d. q.queue x (omega arith) b (n x a d); idle = q.idle }

module _ (m : ℕ) (w w' : List ℕ) (l : 8 * m ≤ length w) (l' : length w' ≡ length w) where
  links-same : length (links m w') ≡ length (links m w)
  links-same = links-length m w' (omega arith) ∙ sym (links-length m w l)

  -- one queue, where the links of its columns stay
  pub link-frame : {h h' : ℕ} {f g : ℕ → Bool} → Queue (links m w) h f → h' ≡ h → ((c : ℕ) → 1 ≤ c → c ≤ m → f c ≡ true → cell w' (7 * m) (c - 1) ≡ cell w (7 * m) (c - 1)) →
      ((c : ℕ) → 1 ≤ c → c ≤ m → g c ≡ f c) → Queue (links m w') h' g
  link-frame {g = g} q e s t =
      subst (λ (h : ℕ). Queue (links m w') h g) (sym e)
      (queue-frame q links-same
      (λ c p r z. let u : c ≤ m = omega (arith, links-length m w l) in link_at m w' c p u ∙ s c p u z ∙ sym (link_at m w c p u))
      (λ c p r. t c p (omega (arith, links-length m w l))))

  -- what leaves the queues' places leaves the queues
  pub queues-frame : {from except : ℕ} {place : ℕ → ℕ} → Queues m w from except place → 1 ≤ from → from ≤ suc m →
      ((k : ℕ) → 5 * m + (from - 1) ≤ k → k < 8 * m → get_or w' k 0 ≡ get_or w k 0) → Queues m w' from except place
  queues-frame q f g s =
      record {
        queue = λ x a b n. link-frame (q.queue x a b n) (s (5 * m + (x - 1)) (omega arith) (omega arith))
            (λ c p r t. s (7 * m + (c - 1)) (omega arith) (omega arith)) (λ c p r. refl);
        idle = λ c a b z. s (7 * m + (c - 1)) (omega arith) (omega arith) ∙ q.idle c a b z;
      }

-- a queue is emptied into a local head
module _ (m : ℕ) (w : List ℕ) (l : 8 * m ≤ length w) {from : ℕ} {place : ℕ → ℕ} (q : Queues m w from 0 place) (f : 1 ≤ from) (h : ℕ) (a : from ≤ h) (b : h ≤ 2 * m) where
  abbrev opened : List ℕ
  opened = set w (5 * m + (h - 1)) 0

  opened-other : (k : ℕ) → k ≢ 5 * m + (h - 1) → get_or opened k 0 ≡ get_or w k 0
  opened-other k n = get_or-set_other w (5 * m + (h - 1)) k 0 0 n

  pub queues-open : Queues m opened from h place
  queues-open =
      record {
        queue = λ x c d n. link-frame m w opened l (length-set w (5 * m + (h - 1)) 0) (q.queue x c d (omega arith))
            (opened-other (5 * m + (x - 1)) (omega arith)) (λ c p r t. opened-other (7 * m + (c - 1)) (omega arith)) (λ c p r. refl);
        idle = λ c x y z. opened-other (7 * m + (c - 1)) (omega arith) ∙ q.idle c x y z;
      }

  pub local-open : Queue (links m opened) (cell w (5 * m) (h - 1)) (λ c. eqb (place c) h)
  local-open =
      link-frame m w opened l (length-set w (5 * m + (h - 1)) 0) (q.queue h a b (omega arith)) refl
      (λ c p r t. opened-other (7 * m + (c - 1)) (omega arith)) (λ c p r. refl)

-- its first column leaves it
module _ (m : ℕ) (w : List ℕ) (l : 8 * m ≤ length w) {from h : ℕ} {place : ℕ → ℕ} (q : Queues m w from h place) (c : ℕ) (n : c ≢ 0) (k : Queue (links m w) c (λ d. eqb (place d) h)) (f : 1 ≤ from) (p : 1 ≤ h) where
  pub local-first : (1 ≤ c) × (c ≤ m) × (place c ≡ h)
  local-first =
      let t : (1 ≤ c) × (c ≤ length (links m w)) × (eqb (place c) h ≡ true) = queue-first n k in
      (t.0, omega (arith, links-length m w l), eqb-true (place c) h t.2)

  abbrev popped : List ℕ
  popped = set w (7 * m + (c - 1)) 0

  popped-other : (x : ℕ) → x ≢ 7 * m + (c - 1) → get_or popped x 0 ≡ get_or w x 0
  popped-other x d = get_or-set_other w (7 * m + (c - 1)) x 0 0 d

  -- its columns but c are those that wait in x
  moved-test : (y x d : ℕ) → d ≢ c → eqb (moved place c y d) x ≡ eqb (place d) x
  moved-test y x d e = ap (λ (z : ℕ). eqb z x) (moved_other place c y d e)

  pub queues-pop : Queues m popped from h (moved place c 0)
  queues-pop =
      let t : (1 ≤ c) × (c ≤ m) × (place c ≡ h) = local-first in
      record {
        queue = λ x a b e. link-frame m w popped l (length-set w (7 * m + (c - 1)) 0) (q.queue x a b e) (popped-other (5 * m + (x - 1)) (omega arith))
            (λ d y z u. popped-other (7 * m + (d - 1)) (λ v.
            let g : d ≡ c = omega arith in
            let i : place d ≡ x = eqb-true (place d) x u in
            let o : place d ≡ place c = ap place g in
            e (omega arith)))
            (λ d y z. elim (eq-or-ne d c) [
              | inr v ↦ moved-test 0 x d v
              | inl v ↦
                  let o : place d ≡ place c = ap place v in
                  ap (λ (y : ℕ). eqb y x) (ap (moved place c 0) v ∙ moved-self place c 0) ∙ ne_eqb 0 x (omega arith) ∙ sym (ne_eqb (place d) x (λ i. e (omega arith)))
            ]);
        idle = λ d a b z. elim (eq-or-ne d c) [
          | inl v ↦ ap (λ (y : ℕ). cell popped (7 * m) (y - 1)) v ∙ get_or-set_same w (7 * m + (c - 1)) 0 0 (omega arith)
          | inr v ↦ popped-other (7 * m + (d - 1)) (omega arith) ∙ q.idle d a b (sym (moved_other place c 0 d v) ∙ z)
        ];
      }

  pub local-pop : Queue (links m popped) (cell w (7 * m) (c - 1)) (λ d. eqb (moved place c 0 d) h)
  local-pop =
      let t : (1 ≤ c) × (c ≤ m) × (place c ≡ h) = local-first in
      let gone : eqb (moved place c 0 c) h ≡ false = ap (λ (y : ℕ). eqb y h) (moved-self place c 0) ∙ ne_eqb 0 h (omega arith) in
      let r : Queue (links m w) (at (links m w) c) (λ d. eqb (moved place c 0 d) h) = queue-pop n k gone (λ d x y e. moved-test 0 h d e) in
      link-frame m w popped l (length-set w (7 * m + (c - 1)) 0) r (sym (link_at m w c t.0 t.1))
      (λ d x y u. popped-other (7 * m + (d - 1)) (λ v.
      let g : d ≡ c = omega arith in true≢false (sym u ∙ ap (λ (y : ℕ). eqb (moved place c 0 y) h) g ∙ gone)))
      (λ d x y. refl)

-- what a column that is put into a queue leaves
pub queued-length : (m : ℕ) (w : List ℕ) (c x : ℕ) → length (queued m w c x) ≡ length w
queued-length m w c x = length-set (set w (7 * m + (c - 1)) (cell w (5 * m) (x - 1))) (5 * m + (x - 1)) c ∙ length-set w (7 * m + (c - 1)) (cell w (5 * m) (x - 1))

pub queued-other : (m : ℕ) (w : List ℕ) (c x y : ℕ) → y ≢ 7 * m + (c - 1) → y ≢ 5 * m + (x - 1) → get_or (queued m w c x) y 0 ≡ get_or w y 0
queued-other m w c x y d g =
    get_or-set_other (set w (7 * m + (c - 1)) (cell w (5 * m) (x - 1))) (5 * m + (x - 1)) y c 0 g ∙ get_or-set_other w (7 * m + (c - 1)) y (cell w (5 * m) (x - 1)) 0 d

-- a column that waits nowhere enters queue x
module _ (m : ℕ) (w : List ℕ) (l : 8 * m ≤ length w) {from h : ℕ} {place : ℕ → ℕ} (q : Queues m w from h place) (c x : ℕ) (i : 1 ≤ c) (j : c ≤ m) (z : place c ≡ 0) (f : 1 ≤ from) (a : from ≤ x) (b : x ≤ 2 * m) (e : x ≢ h) where
  abbrev pushed : List ℕ
  pushed = queued m w c x

  pushed-link : cell pushed (7 * m) (c - 1) ≡ cell w (5 * m) (x - 1)
  pushed-link =
      get_or-set_other (set w (7 * m + (c - 1)) (cell w (5 * m) (x - 1))) (5 * m + (x - 1)) (7 * m + (c - 1)) c 0 (omega arith) ∙
      get_or-set_same w (7 * m + (c - 1)) (cell w (5 * m) (x - 1)) 0 (omega arith)

  pushed-head : cell pushed (5 * m) (x - 1) ≡ c
  pushed-head =
      get_or-set_same (set w (7 * m + (c - 1)) (cell w (5 * m) (x - 1))) (5 * m + (x - 1)) c 0 (simp length-set (omega arith))

  links-pushed : length (links m pushed) ≡ length (links m w)
  links-pushed = links-same m w pushed l (queued-length m w c x)

  -- a queue other than x
  stays : (y g : ℕ) → 1 ≤ y → y ≢ x → Queue (links m w) g (λ d. eqb (place d) y) → (h' : ℕ) → h' ≡ g → Queue (links m pushed) h' (λ d. eqb (moved place c x d) y)
  stays y g v u k h' s =
      link-frame m w pushed l (queued-length m w c x) k s
      (λ d o p t. queued-other m w c x (7 * m + (d - 1)) (λ r.
      let eq : d ≡ c = omega arith in
      let at_y : place d ≡ y = eqb-true (place d) y t in
      let same : place d ≡ place c = ap place eq in
      omega arith) (omega arith))
      (λ d o p. elim (eq-or-ne d c) [
        | inr r ↦ ap (λ (t : ℕ). eqb t y) (moved_other place c x d r)
        | inl r ↦
            let same : place d ≡ place c = ap place r in
            ap (λ (t : ℕ). eqb t y) (ap (moved place c x) r ∙ moved-self place c x) ∙ ne_eqb x y (omega arith) ∙ sym (ne_eqb (place d) y (omega arith))
      ])

  pub queues-push : Queues m pushed from h (moved place c x)
  queues-push =
      record {
        queue = λ y o p d. elim (eq-or-ne y x) [
          | inr r ↦ stays y (cell w (5 * m) (y - 1)) (omega arith) r (q.queue y o p d) (cell pushed (5 * m) (y - 1)) (queued-other m w c x (5 * m + (y - 1)) (omega arith) (omega arith))
          | inl r ↦
              subst (λ (t : ℕ). Queue (links m pushed) (cell pushed (5 * m) (t - 1)) (λ d. eqb (moved place c x d) t)) (sym r)
              (subst (λ (t : ℕ). Queue (links m pushed) t (λ d. eqb (moved place c x d) x)) (sym pushed-head) into)
        ];
        idle = λ d o p y. elim (eq-or-ne d c) [
          | inl r ↦ absurd (omega (arith, ap (moved place c x) r, moved-self place c x))
          | inr r ↦ queued-other m w c x (7 * m + (d - 1)) (omega arith) (omega arith) ∙ q.idle d o p (sym (moved_other place c x d r) ∙ y)
        ];
      }
    where
      into : Queue (links m pushed) c (λ d. eqb (moved place c x d) x)
      into =
          queue-push c (q.queue x a b e) links-pushed i (omega (arith, links-length m w l)) (ne_eqb (place c) x (omega arith))
          (link_at m pushed c i j ∙ pushed-link)
          (λ d o p r. let u : d ≤ m = omega (arith, links-length m w l) in
          link_at m pushed d o u ∙ queued-other m w c x (7 * m + (d - 1)) (omega arith) (omega arith) ∙ sym (link_at m w d o u))
          (ap (λ (t : ℕ). eqb t x) (moved-self place c x) ∙ eq-eqb x x refl)
          (λ d o p r. ap (λ (t : ℕ). eqb t x) (moved_other place c x d r))

  -- the local head stays
  pub local-push : {g : ℕ} → 1 ≤ h → Queue (links m w) g (λ d. eqb (place d) h) → Queue (links m pushed) g (λ d. eqb (moved place c x d) h)
  local-push {g} v k = stays h g v (λ r. e (sym r)) k g refl

-- the local head is 0: the queue is empty again
pub queues-close : (m : ℕ) (w : List ℕ) → 8 * m ≤ length w → {from h : ℕ} {place : ℕ → ℕ} → Queues m w from h place → cell w (5 * m) (h - 1) ≡ 0 → {g : ℕ} → g ≡ 0 →
    Queue (links m w) g (λ c. eqb (place c) h) → (except : ℕ) → Queues m w from except place
queues-close m w l {from} {h} {place} q z {g} e k except =
    record {
      queue = λ x a b n. elim (eq-or-ne x h) [
        | inr r ↦ q.queue x a b r
        | inl r ↦
            subst (λ (t : ℕ). Queue (links m w) (cell w (5 * m) (t - 1)) (λ c. eqb (place c) t)) (sym r)
            (subst (λ (t : ℕ). Queue (links m w) t (λ c. eqb (place c) h)) (e ∙ sym z) k)
      ];
      idle = q.idle;
    }
