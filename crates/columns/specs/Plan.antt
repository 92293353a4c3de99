-- A column's plan: packed entries of row, new multiplicity and kind, rising by row, only for what changes. What a plan makes of a column's
-- multiplicities, and when it suits them. Laws: proofs/Plan.antt.
-- Assumes nothing: these are definitions.
use Rattle.std.specs.Prelude.{◌≡◌, List, [], ◌∷◌, ℕ, suc, ◌+◌, ◌≤◌, ◌<◌, eqb, length}
use Rattle.lists.specs.Lists.{one, at, put}
use Rattle.workspace.specs.Planned.{row_of, multiplicity_of, kind_of, changed_kind, new_kind, gone_kind}

-- the kind says what becomes of the row
pub data KindIs (old new kind : ℕ) : Type 0 where
  changed : kind ≡ changed_kind → 0 < old → 0 < new → KindIs old new kind
  new : kind ≡ new_kind → old ≡ 0 → 0 < new → KindIs old new kind
  gone : kind ≡ gone_kind → 0 < old → new ≡ 0 → KindIs old new kind

-- multiplicities of rows 1 to m with a plan's put in
unfoldable pub planned : (counts plan : List ℕ) → List ℕ
planned ns [] = ns
planned ns (e ∷ es) = planned (put ns (row_of e) (multiplicity_of e)) es

-- a plan suits multiplicities: rows rise from a least one on, within them; each entry's kind says what it does; 16 bits hold the new multiplicity
unfoldable pub Suits : (counts : List ℕ) → (least : ℕ) → (plan : List ℕ) → Type 0
Suits ns a [] = Unit {0}
Suits ns a (e ∷ es) =
    (a ≤ row_of e) × (row_of e ≤ length ns) × (multiplicity_of e < 65536) × KindIs (at ns (row_of e)) (multiplicity_of e) (kind_of e) ×
    Suits ns (suc (row_of e)) es

-- how many entries are of a kind
unfoldable pub of_kind : (kind : ℕ) → (plan : List ℕ) → ℕ
of_kind k [] = 0
of_kind k (e ∷ es) = one (eqb (kind_of e) k) + of_kind k es
