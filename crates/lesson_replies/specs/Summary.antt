-- docs/LESSONS.md, `summary SEAT SLOT`: the reply as a line of the form in `summary_calls::summary`, counted from 0, and the numbers in it: the leaves' digits, and N.
-- Cited by the promises of `summary_calls`. Assumes nothing.
use Rattle.std.specs.Prelude.{ℕ, ◌/◌, ◌%◌, ◌^◌, List, [], ◌∷◌, ◌++◌, map}
use Rattle.refusals.specs.Refusals.{Answer, refused, answered}
use Rattle.leaves.specs.Leaves.{the_leaves}
use Rattle.slots.specs.Slots.{way_number}
use Rattle.classbook.specs.declared.Book.{Book}
use Rattle.summaries.specs.declared.Glance.{Glance}
use Rattle.summaries.specs.Summaries.{summary_answer}
use Rattle.lesson_words.specs.declared.numbers.Values.{Values}
use Rattle.lesson_replies.specs.declared.summary_calls.SummaryLine.{SummaryLine}

-- a leaf's digit: leaf l is bit 2^l. That it is "1 where one of the seat's bookings in that timeslot covers it, else 0" is a law (proofs/LeafDigits.antt: digit_covered)
unfoldable pub leaf_digit : ℕ → ℕ → ℕ
leaf_digit leaves l = leaves / 2 ^ l % 2

-- "LEAVES has a digit for each of the 16 leaves, leaf 0 first"
unfoldable pub leaf_digits : ℕ → List ℕ
leaf_digits leaves = map (leaf_digit leaves) the_leaves

-- "Behind them stand the direction of those bookings, or `none` where there are none, and their number N": `up` is line 0, `down` line 1, `none` line 2
unfoldable pub glance_line : Glance → SummaryLine
glance_line g = record { form = way_number g.way; numbers = leaf_digits g.leaves ++ (g.count ∷ []) }

-- "The refusals are 5, 12, 13 and 14": one of them, or the line
unfoldable pub summary_reply : Answer Glance → Answer SummaryLine
summary_reply (refused n) = refused n
summary_reply (answered g) = answered (glance_line g)

-- "`summary SEAT SLOT`"
unfoldable pub summary_asked : Values → Book → Answer SummaryLine
summary_asked v b = summary_reply (summary_answer b v.first v.second)
