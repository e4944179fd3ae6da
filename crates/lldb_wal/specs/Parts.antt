-- A log that is read in parts.
use Rattle.std.specs.Prelude.{◌≡◌, ℕ, ◌≤◌, min, List, length, take, drop}

-- a front of bytes: all of them, or as many as a longest piece takes
pub record IsFront (front rest : List ℕ) : Type 0 where
  pub is : front ≡ take (length front) rest
  pub enough : min 65548 (length rest) ≤ length front

-- bytes are a part of a log, from a place on
pub record IsPart (log part : List ℕ) (from : ℕ) : Type 0 where
  pub is : part ≡ take (length part) (drop from log)

-- `rest` are the first bytes that stand from a place of a log on
pub record IsRest (log rest : List ℕ) (at : ℕ) : Type 0 where
  pub within : at ≤ length log
  pub front : IsFront rest (drop at log)
