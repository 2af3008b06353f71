-- An area of bytes, a part of it, and bytes put into it.
-- Assumes nothing.
use Rattle.std.specs.Prelude.{ℕ, ◌+◌, List, ◌++◌, length, take, drop}

-- the n bytes from a place on, as far as there are any
abbrev pub piece : List ℕ → ℕ → ℕ → List ℕ
piece area at n = take n (drop at area)

-- the area with the bytes put in from a place on, and all else as it was
abbrev pub put_in : List ℕ → ℕ → List ℕ → List ℕ
put_in area at bytes = take at area ++ (bytes ++ drop (at + length bytes) area)
