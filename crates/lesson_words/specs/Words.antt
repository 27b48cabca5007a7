-- docs/LESSONS.md, "Lines": what a line's words are. Cited by the promises of `words` and by the crate `bench`.
-- Assumes nothing.
use Rattle.std.specs.Prelude.{Bool, true, false, not, ◌&&◌, ◌||◌, cond, List, [], ◌∷◌, ℕ, suc, eqb, take, drop}
use Prim.Native.String.{String}
use Rattle.laws.specs.Text.{bytes}

-- one byte: LF is 10, "#" is 35
unfoldable pub is_byte : ℕ → ℕ → Bool
is_byte x b = eqb b x

-- "blanks: space, tab and CR"
unfoldable pub is_blank_byte : ℕ → Bool
is_blank_byte b = eqb b 32 || (eqb b 9 || eqb b 13)

-- what a word is made of
unfoldable pub is_ink : ℕ → Bool
is_ink b = not (is_blank_byte b)

-- how many stand before the first that meets the test; all, where none does
unfoldable pub until : (ℕ → Bool) → List ℕ → ℕ
until p [] = 0
until p (b ∷ l) = cond (p b) 0 (suc (until p l))

-- "Words are parted by blanks": a text from its first word on
unfoldable pub ink_of : List ℕ → List ℕ
ink_of l = drop (until is_ink l) l

-- its first word, empty where it has none
unfoldable pub word_in : List ℕ → List ℕ
word_in l = take (until is_blank_byte (ink_of l)) (ink_of l)

-- what stands behind that
unfoldable pub rest_of : List ℕ → List ℕ
rest_of l = drop (until is_blank_byte (ink_of l)) (ink_of l)

-- byte for byte
unfoldable pub same_text : List ℕ → List ℕ → Bool
same_text [] [] = true
same_text [] (c ∷ m) = false
same_text (b ∷ l) [] = false
same_text (b ∷ l) (c ∷ m) = eqb b c && same_text l m

-- a word is this one
unfoldable pub is_text : String → List ℕ → Bool
is_text text word = same_text word (bytes text)
