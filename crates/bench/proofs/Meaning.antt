-- What a line does to the book, from what the parts of the program promise. Cited by the proofs of `calls` and `lines`.
-- Assumes nothing.
use Rattle.std.proofs.Common.{◌≡◌, ℕ, suc, ◌+◌, ◌-◌, ◌<◌, ◌≤◌, Bool, true, false, cond, List, length, take, drop, sym, refl, ap, ◌∙◌, arith, length-drop, length-take-le, take_all, le-ltb, lt-ltb}
use Rattle.laws.specs.Text.{bytes}
use Rattle.laws.proofs.Parts.{length_none}
use Rattle.classbook.specs.declared.Book.{Book}
use Rattle.classbook.specs.Calls.{BookAnswer}
use Rattle.lesson_words.specs.Words.{is_byte, until, is_blank_byte, is_ink, ink_of, word_in, rest_of, same_text, is_text}
use Rattle.lesson_words.specs.declared.numbers.Values.{Values}
use Rattle.lesson_words.specs.Numbers.{fits, values_of}
use Rattle.lesson_words.specs.Inside.{number_in, kinds_in}
use Rattle.lesson_book.specs.Asked.{asked_by}
use Rattle.bench.specs.Lines.{made_line, named_line, bare, book_after_line, gathered_line}
use Rattle.bench.specs.Inside.{made_by, worded_by, tabled_by}

same_both : (t : Bool) (b : Book) → b ≡ cond t b b
same_both true b = refl
same_both false b = refl

-- one of the four calls that change the book, and any other
module _ (call : ℕ) (v : Values) (b r : Book) where
  pub made_one : (a : BookAnswer) → call < 4 → a ≡ asked_by call v b → r ≡ a.book → r ≡ made_by call v b
  unfolding made_by
  made_one a h e q = q ∙ ap (λ (x : BookAnswer). x.book) e ∙ sym (ap (λ (t : Bool). cond t (asked_by call v b).book b) (lt-ltb _ _ h))

  pub made_other : 4 ≤ call → r ≡ b → r ≡ made_by call v b
  unfolding made_by
  made_other h q = q ∙ sym (ap (λ (t : Bool). cond t (asked_by call v b).book b) (le-ltb _ _ h))

-- a line whose words are those of its call, and one whose words are not
module _ (call : ℕ) (kinds rest : List ℕ) (b r : Book) where
  pub worded_on : (v : Values) → fits kinds rest ≡ true → v ≡ values_of kinds rest → r ≡ made_by call v b → r ≡ worded_by call kinds rest b
  unfolding worded_by
  worded_on v t q m =
      m ∙ ap (λ (x : Values). made_by call x b) q ∙ sym (ap (λ (k : Bool). cond k (made_by call (values_of kinds rest) b) b) t)

  pub worded_off : fits kinds rest ≡ false → r ≡ b → r ≡ worded_by call kinds rest b
  unfolding worded_by
  worded_off t q = q ∙ sym (ap (λ (k : Bool). cond k (made_by call (values_of kinds rest) b) b) t)

-- a call above the four leaves the book
worded_above : (call : ℕ) (kinds rest : List ℕ) (b : Book) → 4 ≤ call → b ≡ worded_by call kinds rest b
unfolding worded_by
worded_above call kinds rest b h =
    same_both (fits kinds rest) b ∙ ap (λ (x : Book). cond (fits kinds rest) x b) (made_other call (values_of kinds rest) b b h refl)

pub worded_other : (call : ℕ) (kinds rest : List ℕ) (b : Book) (k : ℕ) → 4 ≤ k → call ≡ k → b ≡ worded_by call kinds rest b
worded_other call kinds rest b k h e = worded_above call kinds rest b (omega (arith, h, e))

-- a call of the table, and a name that it does not have
module _ (table name rest : List ℕ) (b r : Book) where
  pub tabled_none : number_in 20 name table ≡ 20 → r ≡ b → r ≡ tabled_by table name rest b
  unfolding tabled_by
  tabled_none h e = e ∙ worded_above (number_in 20 name table) (kinds_in 20 name table) rest b (omega (arith, h))

  pub tabled_one : (number : ℕ) (kinds : List ℕ) → number ≡ number_in 20 name table → kinds ≡ kinds_in 20 name table → r ≡ worded_by number kinds rest b → r ≡ tabled_by table name rest b
  unfolding tabled_by
  tabled_one number kinds n k e = e ∙ ap (λ (i : ℕ). worded_by i kinds rest b) n ∙ ap (λ (l : List ℕ). worded_by (number_in 20 name table) l rest b) k

-- the table's first entry is the one, or the next is asked
entry : (n i : ℕ) (name rest : List ℕ) (b : Book) (table word kinds next : List ℕ) → word_in table ≡ word → word_in (rest_of table) ≡ kinds → rest_of (rest_of table) ≡ next
    → worded_by (i + number_in (suc n) name table) (kinds_in (suc n) name table) rest b
    ≡ cond (same_text name word) (worded_by i kinds rest b) (worded_by (i + 1 + number_in n name next) (kinds_in n name next) rest b)
unfolding number_in kinds_in
entry n i name rest b table word kinds next e k m =
    ap (λ (t : Bool). worded_by (i + cond t 0 (suc (number_in n name (rest_of (rest_of table))))) (cond t (word_in (rest_of table)) (kinds_in n name (rest_of (rest_of table)))) rest b) (ap (same_text name) e)
    ∙ ap (λ (l : List ℕ). worded_by (i + cond (same_text name word) 0 (suc (number_in n name (rest_of (rest_of table))))) (cond (same_text name word) l (kinds_in n name (rest_of (rest_of table)))) rest b) k
    ∙ ap (λ (l : List ℕ). worded_by (i + cond (same_text name word) 0 (suc (number_in n name l))) (cond (same_text name word) kinds (kinds_in n name l)) rest b) m
    ∙ by (same_text name word)
  where
    by : (t : Bool) → worded_by (i + cond t 0 (suc (number_in n name next))) (cond t kinds (kinds_in n name next)) rest b
        ≡ cond t (worded_by i kinds rest b) (worded_by (i + 1 + number_in n name next) (kinds_in n name next) rest b)
    by true = let z : i + 0 ≡ i = omega arith in ap (λ (c : ℕ). worded_by c kinds rest b) z
    by false = let z : i + suc (number_in n name next) ≡ i + 1 + number_in n name next = omega arith in ap (λ (c : ℕ). worded_by c (kinds_in n name next) rest b) z

-- the program's table, and what follows its first, second, third and fourth entry
abbrev table : List ℕ
table = bytes "open nnnnnn book nndnnnnnn cancel nnnn close n list n summary nn chip nnnnn midamble nnnn block nnnnnn pair nnnnnn pairs nnnnn hear nnn parts ndnnn at ndnnnn beacon nn indicator nnnn page nnr read nnr owner nnn help"

abbrev after1 : List ℕ
after1 = rest_of (rest_of table)

abbrev after2 : List ℕ
after2 = rest_of (rest_of after1)

abbrev after3 : List ℕ
after3 = rest_of (rest_of after2)

abbrev after4 : List ℕ
after4 = rest_of (rest_of after3)

module _ (name rest : List ℕ) (b : Book) where
  -- one of its calls, from entry i on
  abbrev at_call : ℕ → List ℕ → ℕ → Book
  at_call n l i = worded_by (i + number_in n name l) (kinds_in n name l) rest b

  first : at_call 20 table 0 ≡ cond (is_text "open" name) (worded_by 0 (bytes "nnnnnn") rest b) (at_call 19 after1 1)
  unfolding is_text word_in rest_of ink_of until is_ink is_blank_byte
  first = entry 19 0 name rest b table _ _ _ refl refl refl

  second : at_call 19 after1 1 ≡ cond (is_text "book" name) (worded_by 1 (bytes "nndnnnnnn") rest b) (at_call 18 after2 2)
  unfolding is_text word_in rest_of ink_of until is_ink is_blank_byte
  second = entry 18 1 name rest b after1 _ _ _ refl refl refl

  third : at_call 18 after2 2 ≡ cond (is_text "cancel" name) (worded_by 2 (bytes "nnnn") rest b) (at_call 17 after3 3)
  unfolding is_text word_in rest_of ink_of until is_ink is_blank_byte
  third = entry 17 2 name rest b after2 _ _ _ refl refl refl

  fourth : at_call 17 after3 3 ≡ cond (is_text "close" name) (worded_by 3 (bytes "n") rest b) (at_call 16 after4 4)
  unfolding is_text word_in rest_of ink_of until is_ink is_blank_byte
  fourth = entry 16 3 name rest b after3 _ _ _ refl refl refl

  -- a line by its first word
  pub named_table : tabled_by table name rest b ≡ named_line name rest b
  unfolding tabled_by named_line made_line worded_by made_by asked_by
  named_table =
      let z : number_in 20 name table ≡ 0 + number_in 20 name table = omega arith in
      let others : at_call 16 after4 4 ≡ b = sym (worded_above (4 + number_in 16 name after4) (kinds_in 16 name after4) rest b (omega arith)) in
      ap (λ (i : ℕ). worded_by i (kinds_in 20 name table) rest b) z ∙ first
      ∙ ap (λ (x : Book). cond (is_text "open" name) (worded_by 0 (bytes "nnnnnn") rest b) x)
      (second ∙ ap (λ (x : Book). cond (is_text "book" name) (worded_by 1 (bytes "nndnnnnnn") rest b) x)
      (third ∙ ap (λ (x : Book). cond (is_text "cancel" name) (worded_by 2 (bytes "nnnn") rest b) x)
      (fourth ∙ ap (λ (x : Book). cond (is_text "close" name) (worded_by 3 (bytes "n") rest b) x) others)))

-- a line without words
pub named_none : (name rest : List ℕ) (b : Book) → length name ≡ 0 → b ≡ named_line name rest b
unfolding named_line is_text same_text
named_none name rest b h = ap (λ (n : List ℕ). named_line n rest b) (sym (length_none name h))

-- the text of a line is what stands before its comment
pub at_bare : (line : List ℕ) (k : ℕ) (b r : Book) → k ≡ 0 + until (is_byte 35) (drop 0 line) → r ≡ named_line (word_in (take k line)) (rest_of (take k line)) b → r ≡ book_after_line line b
unfolding book_after_line bare
at_bare line k b r e q =
    let s : k ≡ until (is_byte 35) line = omega (arith, e) in
    q ∙ ap (λ (n : ℕ). named_line (word_in (take n line)) (rest_of (take n line)) b) s

module _ (text : List ℕ) (from to : ℕ) (b r : Book) (word : take (to - from) (drop from text) ≡ word_in text) (behind : drop to text ≡ rest_of text) where
  pub word_none : from ≤ to → to ≤ length text → from ≡ to → r ≡ b → r ≡ named_line (word_in text) (rest_of text) b
  word_none h l e q =
      let d : length (drop from text) ≡ length text - from = length-drop from text in
      let n : length (take (to - from) (drop from text)) ≡ to - from = length-take-le (to - from) (drop from text) (omega (arith, d)) in
      let s : length (take (to - from) (drop from text)) ≡ length (word_in text) = ap length word in
      q ∙ named_none (word_in text) (rest_of text) b (omega (arith, n, s, e))

  pub word_one : r ≡ named_line (take (to - from) (drop from text)) (take (length text - to) (drop to text)) b → r ≡ named_line (word_in text) (rest_of text) b
  word_one q =
      let d : length (drop to text) ≡ length text - to = length-drop to text in
      q ∙ ap (λ (n : List ℕ). named_line n (take (length text - to) (drop to text)) b) word
      ∙ ap (λ (l : List ℕ). named_line (word_in text) l b) (take_all (length text - to) (drop to text) (omega (arith, d)) ∙ behind)

-- a line that is gathered whole, and one that is too long
module _ (held : ℕ) (line : List ℕ) (b r : Book) where
  pub gathered_whole : held < length line → r ≡ book_after_line (take held line) b → r ≡ gathered_line held line b
  unfolding gathered_line
  gathered_whole h e = e ∙ sym (ap (λ (t : Bool). cond t (book_after_line (take held line) b) b) (lt-ltb _ _ h))

  pub gathered_long : length line ≤ held → r ≡ b → r ≡ gathered_line held line b
  unfolding gathered_line
  gathered_long h e = e ∙ sym (ap (λ (t : Bool). cond t (book_after_line (take held line) b) b) (le-ltb _ _ h))
