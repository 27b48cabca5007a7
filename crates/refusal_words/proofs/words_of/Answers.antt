-- `refusal_words::words_of` meets its promise: the texts of the code are those of the definition, by computation.
-- Assumes nothing.
use borrow.Author.Rules.{rules}
use Rattle.refusal_words.specs.Words.{conditions}
use Rattle.refusal_words.proofs.Listed.{texts, listed, none_listed}
use Rattle.refusal_words.proofs.words_of.Goals as goal

pub returns-then-i-lt25-clause-words : goal.returns-then-i-lt25-clause-words
unfolding texts conditions
returns-then-i-lt25-clause-words c = search (rules, listed)

pub returns-else-i-lt25-clause-words : goal.returns-else-i-lt25-clause-words
returns-else-i-lt25-clause-words c = none_listed _ c.if-i-lt25.false
