-- From pieces laid out to the chain's length: they can be walked, then added, and a sum that comes to the end says that the free chain has k records. Assumes
-- nothing.
use mathlib.Core.Path.{◌≡◌}
use mathlib.Core.Bool.{Bool, true}
use mathlib.Core.List.{List}
use Prim.Native.Nat.{ℕ, ◌+◌, ◌*◌, ◌/◌, ◌≤◌}
use native.Mathlib.Omega.{arith}
use lib.ListN.{length}
use Rattle.pool.specs.Free.{FreeHas}
use Rattle.free_chain.specs.Pieces.{OnePool, start_of, Pieces, Kept, Room, Laid, CanRound, CanAddUp, AddsTo}
use Rattle.free_chain.proofs.Leading.{leads-free}
use Rattle.free_chain.proofs.Laying.{laid-stands}

-- scratch that is long enough has room
pub cuts-room : (size : ℕ) (w : List ℕ) → size ≤ 1073741824 → 3 * ((size + 1023) / 1024 + 1) ≤ length w → Room size w ((size + 1023) / 1024)
cuts-room size w small long = record { small = small; above = omega arith; below = omega arith; long = long }

-- scratch of the same length has the same room
pub room-same : {size c : ℕ} {w₀ w : List ℕ} → Room size w₀ c → length w ≡ length w₀ → Room size w c
room-same r e = record { small = r.small; above = r.above; below = r.below; long = omega (arith, r.long) }

module _ {rs ns w : List ℕ} {c h n : ℕ} (p : OnePool rs ns) (room : Room (length ns) w c) (l : Laid c h w n) (high : h ≤ length ns) where
  pub laid-round : CanRound rs ns w c n
  laid-round = record { can = p; room = room; starts = start_of c h; pieces = laid-stands rs ns l high room.below; queue = l.queue }

  module _ {w₁ : List ℕ} (k : Kept rs ns c w w₁) where
    pub round-pieces : Pieces rs ns c (start_of c h) w₁
    round-pieces = k (start_of c h) (laid-stands rs ns l high room.below)

    pub pieces-add : length w₁ ≡ length w → CanAddUp w₁ c
    pieces-add e =
        record {
          records = length ns;
          room = room-same room e;
          size = λ s b. (round-pieces s b).size;
          stand = λ s b. (round-pieces s b).stand;
        }

    pub adds-free : (steps : ℕ) (a : Bool) → AddsTo w₁ c steps a → a ≡ true → FreeHas rs ns h steps
    adds-free steps a f e = leads-free rs ns steps h (f rs ns h round-pieces e)
