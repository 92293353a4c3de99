-- One call taken apart and put together: it was accepted, or refused with record and tables as before (`Accepted`, `Refused`); its number says which
-- (`step-taken`, `step-refused`); what an accepted question, check or batch leaves.
-- Assumes nothing.
use mathlib.Core.Path.{◌≡◌, refl, sym, ap, ◌∙◌, subst}
use mathlib.Core.Logic.{◌⊎◌, inl, inr, ◌≢◌}
use mathlib.Core.Bool.{Bool, true, false, ◌||◌, true≢false, false≢true}
use borrow.Author.Tests.{eq-eqb}
use Rattle.calls.specs.Refusals.{is_accepted}
use Rattle.calls.specs.Calls.{Change, Entry, opening, changing, checking, asking, Lent, with_work, Call, is_opening, is_change}
use Rattle.calls.specs.Numbers.{refusal_of}
use Rattle.calls.specs.Steps.{Answer, refused_by, accepted_by, lists_after, work_after, World, booked_in, Exchanged, AcceptedWorld, OutcomeFor, Transition}

-- an accepted call
pub record Accepted (u : World) (k : Call) (a : Answer) (x : Lent) (v : World) : Type 0 where
  pub number : is_accepted (refusal_of u.state u.tables k) ≡ true
  pub answer : a ≡ accepted_by u.state.limits (booked_in u) k.entry
  pub lists : x ≡ lists_after (booked_in u) k (work_after u.state.sizes u.tables k)
  pub world : AcceptedWorld u k.entry v

-- a refused call: "nothing lent changes except" the work table
pub record Refused (u : World) (k : Call) (a : Answer) (x : Lent) (v : World) : Type 0 where
  pub number : is_accepted (refusal_of u.state u.tables k) ≡ false
  pub answer : a ≡ refused_by (refusal_of u.state u.tables k)
  pub lists : x ≡ with_work k.lent (work_after u.state.sizes u.tables k)
  pub world : v ≡ u

module _ {u : World} {k : Call} {a : Answer} {x : Lent} {v : World} where
  outcome : (z : Bool) → is_accepted (refusal_of u.state u.tables k) ≡ z → OutcomeFor z u k a x v → Accepted u k a x v ⊎ Refused u k a x v
  outcome true e o = inl (record { number = e; answer = o.0; lists = o.1; world = o.2 })
  outcome false e o = inr (record { number = e; answer = o.0; lists = o.1; world = o.2 })

pub step-cases : (u : World) (k : Call) (a : Answer) (x : Lent) (v : World) → Transition u k a x v → Accepted u k a x v ⊎ Refused u k a x v
step-cases u k a x v s = outcome (is_accepted (refusal_of u.state u.tables k)) refl s

-- and put together
module _ (u : World) (k : Call) (a : Answer) (x : Lent) (v : World) where
  pub accepted-step : Accepted u k a x v → Transition u k a x v
  accepted-step s = subst (λ (z : Bool). OutcomeFor z u k a x v) (sym s.number) (s.answer, s.lists, s.world)

  pub refused-step : Refused u k a x v → Transition u k a x v
  refused-step s = subst (λ (z : Bool). OutcomeFor z u k a x v) (sym s.number) (s.answer, s.lists, s.world)

-- "Accepted is 0"
module _ {u : World} {k : Call} {a : Answer} {x : Lent} {v : World} where
  pub taken-zero : Accepted u k a x v → a.number ≡ 0
  taken-zero s = ap (λ (y : Answer). y.number) s.answer

  pub refused-some : Refused u k a x v → a.number ≢ 0
  refused-some s e =
      true≢false (sym (eq-eqb (refusal_of u.state u.tables k).number 0 (ap (λ (y : Answer). y.number) (sym s.answer) ∙ e)) ∙ s.number)

module _ (u : World) (k : Call) (a : Answer) (x : Lent) (v : World) (s : Transition u k a x v) where
  -- number 0: it was accepted
  pub step-taken : a.number ≡ 0 → Accepted u k a x v
  step-taken e = elim (step-cases u k a x v s) [ inl t ↦ t | inr t ↦ absurd (refused-some t e) ]

-- ---- what an accepted call leaves

-- a check or a question leaves record and tables
pub quiet-world : (u : World) (e : Entry) (v : World) → (is_change e || is_opening e) ≡ false → AcceptedWorld u e v → v ≡ u
quiet-world u (opening l g) v q s = absurd (true≢false q)
quiet-world u (changing c) v q s = absurd (true≢false q)
quiet-world u checking v q s = s
quiet-world u (asking k p) v q s = s

-- which change it is
pub change-of : (e : Entry) → is_change e ≡ true → (c : Change) × (e ≡ changing c)
change-of (opening l g) q = absurd (false≢true q)
change-of (changing c) q = (c, refl)
change-of checking q = absurd (false≢true q)
change-of (asking k p) q = absurd (false≢true q)

pub change-world : {u : World} {e : Entry} {v : World} {c : Change} → e ≡ changing c → AcceptedWorld u e v → Exchanged u c v
change-world {u} {e} {v} q s = subst (λ (i : Entry). AcceptedWorld u i v) q s
