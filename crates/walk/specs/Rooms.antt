-- The walk's work buffers: 1,664 words hold any shape's block, and 22,801 modules any grid.
-- Assumes nothing.
use Rattle.std.specs.Prelude.{List, ℕ, ◌*◌, ◌≤◌, length}
use Rattle.std.proofs.Common.{le_trans, mul-le-mul, arith}

pub record Rooms (received unread found : List ℕ) : Type 0 where
  pub received-room : 1664 ≤ length received
  pub unread-room : 1664 ≤ length unread
  pub found-room : 1664 ≤ length found

pub area-most : (n : ℕ) → n ≤ 151 → n * n ≤ 22801
area-most n h = le_trans (mul-le-mul {n₁ = n} {m₁ = n} {n₂ = 151} {m₂ = 151} h h) (omega arith)
