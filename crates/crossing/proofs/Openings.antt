-- How a host reads an opening's answer off its struct: no refusal has number 0. Assumes nothing.
use Rattle.std.proofs.Common.{◌≡◌, sym, ap, ◌∙◌}
use Rattle.std.specs.Prelude.{Ok, Err}
use Rattle.early_refusals.proofs.Tests.{number-not0}
use Rattle.factor.specs.Entries.{Opening}
use Rattle.crossing.specs.Crossing.{opened_from, numbered}
use Rattle.crossing.specs.declared.Opened.{Opened}

pub opened-accepted : (x : Opening) (r : Opened) → r ≡ opened_from (numbered x) → r.number ≡ 0 → x ≡ Ok r.factor
opened-accepted (Ok y) r e z = ap (λ (w : Opened). Ok w.factor) (sym e)
opened-accepted (Err w) r e z = absurd (number-not0 w (sym (ap (λ (o : Opened). o.number) e) ∙ z))
