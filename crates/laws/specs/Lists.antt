-- Tests, sums and places over plain lists: used by the definitions of beacon timeslots and of the class book.
-- Assumes nothing.
use Rattle.std.specs.Prelude.{Bool, true, false, ◌&&◌, ◌||◌, cond, List, [], ◌∷◌, ◌++◌, ℕ, ◌+◌, eqb, take, drop}

-- 1 where the test holds, else 0
abbrev pub one : Bool → ℕ
one b = cond b 1 0

-- n is one of these numbers
unfoldable pub member : ℕ → List ℕ → Bool
member n [] = false
member n (x ∷ l) = eqb n x || member n l

module _ {A : Type 0} where
  -- the test holds of each
  unfoldable pub every : (A → Bool) → List A → Bool
  every p [] = true
  every p (x ∷ l) = p x && every p l

  -- the test holds of one at least
  unfoldable pub some : (A → Bool) → List A → Bool
  some p [] = false
  some p (x ∷ l) = p x || some p l

  -- each stands in the relation to every later one
  unfoldable pub pairs : (A → A → Bool) → List A → Bool
  pairs r [] = true
  pairs r (x ∷ l) = every (r x) l && pairs r l

  -- each stands in the relation to its neighbour
  unfoldable pub chain : (A → A → Bool) → List A → Bool
  chain r [] = true
  chain r (x ∷ []) = true
  chain r (x ∷ y ∷ l) = r x y && chain r (y ∷ l)

  -- two lists as long as each other, each of the one in the relation to that at its place in the other
  unfoldable pub matches : (A → A → Bool) → List A → List A → Bool
  matches r [] [] = true
  matches r [] (y ∷ m) = false
  matches r (x ∷ l) [] = false
  matches r (x ∷ l) (y ∷ m) = r x y && matches r l m

  -- the sum of what each counts
  unfoldable pub total : (A → ℕ) → List A → ℕ
  total f [] = 0
  total f (x ∷ l) = f x + total f l

  -- x put in at place p
  abbrev pub insert_at : ℕ → A → List A → List A
  insert_at p x l = take p l ++ x ∷ drop p l

  -- without the one at place p
  abbrev pub remove_at : ℕ → List A → List A
  remove_at p l = take p l ++ drop (p + 1) l
