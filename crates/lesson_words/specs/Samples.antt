-- docs/LESSONS.md, `hear`: what a sample is, and the floats that are handed in. Cited by the promises of `samples`.
-- Assumes nothing.
use Rattle.std.specs.Prelude.{Bool, false, not, ◌&&◌, ◌||◌, cond, List, [], ◌∷◌, ℕ, zero, suc, eqb, leb, pos, Float, length, drop, Option, Some, None, is_some, unwrap_or}
use Rattle.std.specs.Float.{binary32}
use Rattle.std.specs.Float.Ieee.{neg, of_int}
use Rattle.laws.specs.Lists.{every}
use Rattle.lesson_words.specs.Words.{word_in, rest_of}
use Rattle.lesson_words.specs.Numbers.{is_digit, value_from, is_none, value_if}
use Rattle.lesson_words.specs.declared.samples.Sample.{Sample}

-- "1 to 6 digits"
unfoldable pub is_size : List ℕ → Bool
is_size l = not (is_none l) && (every is_digit l && leb (length l) 6)

unfoldable pub size_of : List ℕ → Option ℕ
size_of l = value_if (is_size l) (value_from 0 l)

-- "an optional minus sign": the word begins with one
unfoldable pub has_minus : List ℕ → Bool
has_minus [] = false
has_minus (b ∷ l) = eqb b 45

-- what stands behind it
unfoldable pub unsigned : List ℕ → List ℕ
unsigned w = cond (has_minus w) (drop 1 w) w

-- how large it is, 0 where that is no size, and whether it has a minus sign
unfoldable pub signed_word : List ℕ → Sample
signed_word w = record { size = unwrap_or (size_of (unsigned w)) 0; minus = has_minus w }

-- "Each is an optional minus sign and 1 to 6 digits"
unfoldable pub sample_word : List ℕ → Option Sample
sample_word w = cond (is_some (size_of (unsigned w))) (Some (signed_word w)) None

-- "and `-0` is handed in as a minus zero"
unfoldable pub float_of : Sample → Float
float_of s = cond s.minus (neg (of_int binary32 (pos s.size))) (of_int binary32 (pos s.size))

-- every word of a text is a sample, and there are at most so many: "none at all too"
unfoldable pub are_samples : ℕ → List ℕ → Bool
are_samples zero l = is_none (word_in l)
are_samples (suc n) l = is_none (word_in l) || (is_some (sample_word (word_in l)) && are_samples n (rest_of l))

-- what is handed in for them, in their order
unfoldable pub samples_of : ℕ → List ℕ → List Float
samples_of zero l = []
samples_of (suc n) l = cond (is_none (word_in l)) [] (float_of (signed_word (word_in l)) ∷ samples_of n (rest_of l))
