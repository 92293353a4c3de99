-- `nigvalds::nigvalds_open_0_7` meets its contract: the entry's opening, as a struct. Assumes nothing.
use Rattle.std.proofs.Common.{◌≡◌, ap, ◌∙◌}
use Rattle.crossing.specs.Crossing.{opened_from, numbered}
use Rattle.crossing.proofs.Openings.{opened-accepted}
use Rattle.nigvalds.proofs.nigvalds_open_0_7.Goals as goal

plain : (c : goal.After-opened_from) → c.opened_from.result ≡ opened_from (numbered c.open-x.result)
plain c = c.opened_from.ensures ∙ ap opened_from c.numbered.ensures

pub returns : goal.returns
returns c =
    record {
      answer = c.open-x.result;
      step = c.open-x.ensures;
      plain = plain c;
      accepted = opened-accepted c.open-x.result _ (plain c);
    }
