-- A text of a document as bytes. Cited by the definitions of `refusal_words`, `lesson_words` and `bench`.
-- Assumes nothing.
use Rattle.std.specs.Prelude.{List, [], ◌∷◌, ℕ}
use Prim.Native.String.{String, [] as nil, ◌∷◌ as ◌then◌}
use Prim.Native.Char.{code}

-- byte by byte: its characters are all ASCII
abbrev pub bytes : String → List ℕ
bytes nil = []
bytes (c then rest) = code c ∷ bytes rest
