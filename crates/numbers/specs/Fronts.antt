-- Bytes written to the front of a buffer.
-- Assumes nothing.
use Rattle.std.specs.Prelude.{ℕ, List, ◌++◌, length, drop}

-- The rest of the buffer stays as it was.
abbrev pub with_front : (buffer front : List ℕ) → List ℕ
with_front buffer front = front ++ drop (length front) buffer
