-- A loop over n positions, 256 of them a turn: turn k takes m from 256 k, up to where the next begins or to n. Assumes nothing.
use Prim.Native.Nat.{ℕ, min, ◌+◌, ◌-◌, ◌*◌, ◌≤◌, ◌<◌}
use native.Mathlib.Omega.{arith}
use mathlib.Core.Path.{◌≡◌}
use Rattle.std.specs.Int.{div_ceil}

pub record Turn (n k m : ℕ) : Type 0 where
  pub begins : min (k * 256) n ≡ k * 256
  pub few : m ≤ 256
  pub within : k * 256 + m ≤ n
  pub ends : k * 256 + m ≡ min ((k + 1) * 256) n

pub turn_of : (n k e m : ℕ) → e ≡ div_ceil n 256 → k < e → m ≡ min 256 (n - k * 256) → Turn n k m
turn_of n k e m p h q = record { begins = omega arith; few = omega arith; within = omega arith; ends = omega arith }

pub turns_start : (n : ℕ) → min (0 * 256) n ≡ 0
turns_start n = omega arith

pub turns_end : (n k e : ℕ) → e ≡ div_ceil n 256 → e ≤ k → n ≤ min (k * 256) n
turns_end n k e p h = omega arith
