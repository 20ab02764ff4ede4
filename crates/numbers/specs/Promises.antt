-- What is promised of numbers in bytes: written and read, they stay what they are, at any place and over any width.
-- Assumes nothing.
use Rattle.std.specs.Prelude.{ℕ, ◌+◌, ◌^◌, ◌≤◌, ◌<◌, ◌≡◌, List, length}
use Rattle.numbers.specs.BigEndian.{number_at, with_number_at, Bytes}

-- A number that fits its width, written within the bytes, is read back as it was written.
abbrev pub WriteThenRead : Type 0
WriteThenRead = (bytes : List ℕ) (at width number : ℕ) → at + width ≤ length bytes → number < 256 ^ width → number_at (with_number_at bytes at width number) at width ≡ number

-- A number that is written back where it was read leaves the bytes as they were.
abbrev pub ReadThenWrite : Type 0
ReadThenWrite = (bytes : List ℕ) → Bytes bytes → (at width : ℕ) → with_number_at bytes at width (number_at bytes at width) ≡ bytes
