-- Loops over the first n elements of a row, and one element carried along it. Cited by the proofs of the class book.
-- Assumes nothing.
use mathlib.Core.Path.{◌≡◌, refl, sym, ◌∙◌, ap}
use mathlib.Core.List.{List, [], ◌∷◌, ◌++◌, append_assoc}
use mathlib.Core.Bool.{Bool, true, false, ◌&&◌, and_assoc, and-true}
use Prim.Native.Nat.{ℕ, zero, suc, ◌+◌, ◌≤◌, ◌<◌}
use native.Mathlib.Numerals.{add-one}
use native.Mathlib.Omega.{arith}
use native.Mathlib.Nat.{not-suc-le-zero, le_of_suc-le-suc, le_refl, lt-suc_self}
use Rattle.laws.specs.Lists.{total, one, insert_at, remove_at}
use Rattle.laws.proofs.Bools.{true_false}
use lib.ListN.{length, take, drop, set, get_or, length-take, drop_of_length-le, length-set, take-append-drop}
use lib.Seq.{drop-cons, get_or-take, length-take-le, take-suc-set, drop-set-lt, take_all, take-append_seam, take-set-le, take-suc, get_or-set_same, drop-drop, drop_at, take_at}

module _ {A : Type 0} (xs : List A) (n i : ℕ) where
  -- nothing is left
  pub left_none : n ≤ i → drop i (take n xs) ≡ []
  left_none h = drop_of_length-le (take n xs) {i = i} (simp length-take (omega arith))

  -- one is passed
  pub left_one : (d : A) → i < n → n ≤ length xs → drop i (take n xs) ≡ get_or xs i d ∷ drop (i + 1) (take n xs)
  left_one d h fit =
      let l : i < length (take n xs) = simp length-take-le (omega arith) in
      drop-cons (take n xs) i d l ∙ rw (add-one, get_or-take)

  -- A loop that asks a test P of the first n: what was passed held, and the rest is to be tested.
  -- P of x and the rest is hd of them and P of the rest.
  module _ (P : List A → Bool) (hd : A → List A → Bool) where
    pub turn : ((x : A) (l : List A) → P (x ∷ l) ≡ (hd x l && P l)) → (d : A) (ok h w : Bool) → i < n → n ≤ length xs
        → (ok && P (drop i (take n xs))) ≡ w → h ≡ hd (get_or xs i d) (drop (i + 1) (take n xs))
        → ((ok && h) && P (drop (i + 1) (take n xs))) ≡ w
    turn eq d ok h w lt fit inv e =
        and_assoc ok h _ ∙ ap (λ (b : Bool). ok && (b && P (drop (i + 1) (take n xs)))) e
        ∙ ap (λ (b : Bool). ok && b) (sym (eq _ _)) ∙ ap (λ (l : List A). ok && P l) (sym (left_one d lt fit)) ∙ inv

  -- A loop that adds up what each of the first n counts.
  pub turn_sum : (f : A → ℕ) (d : A) (at h w : ℕ) → i < n → n ≤ length xs
      → at + total f (drop i (take n xs)) ≡ w → h ≡ f (get_or xs i d) → (at + h) + total f (drop (i + 1) (take n xs)) ≡ w
  unfolding total
  turn_sum f d at h w lt fit inv e =
      let g : total f (drop i (take n xs)) ≡ f (get_or xs i d) + total f (drop (i + 1) (take n xs)) = ap (total f) (left_one d lt fit) in
      omega (arith, g)

  pub ended_sum : (f : A → ℕ) (at w : ℕ) → n ≤ i → at + total f (drop i (take n xs)) ≡ w → at ≡ w
  unfolding total
  ended_sum f at w le inv =
      let g : total f (drop i (take n xs)) ≡ 0 = ap (total f) (left_none le) in
      omega (arith, g)

  pub ended : (P : List A → Bool) → P [] ≡ true → (ok w : Bool) → n ≤ i → (ok && P (drop i (take n xs))) ≡ w → ok ≡ w
  ended P eq ok w le inv =
      sym (and-true ok) ∙ ap (λ (b : Bool). ok && b) (sym eq) ∙ ap (λ (l : List A). ok && P l) (sym (left_none le)) ∙ inv

pub one_le : (b : Bool) → one b ≤ 1
one_le true = omega arith
one_le false = omega arith

module _ {A : Type 0} (xs : List A) (j : ℕ) (h : A) where
  -- what was held goes in, and what stood there is held
  pub carry : (d : A) → j < length xs → insert_at (j + 1) (get_or xs j d) (set xs j h) ≡ insert_at j h xs
  carry d lt =
      let s : j < j + 1 = omega arith in
      rw (drop-set-lt (j + 1) xs j h s, drop-cons xs j d lt, add-one j, take-suc-set xs j h lt, append_assoc)

  -- at the end the one that is held falls off
  pub carried : length xs ≤ j → take (length xs) (insert_at j h xs) ≡ xs
  carried le = rw (take_all j xs le, take-append_seam)

-- within the list an element is the same, whatever the default
pub get_d_any : {A : Type 0} (l : List A) (i : ℕ) (d e : A) → i < length l → get_or l i d ≡ get_or l i e
get_d_any [] i d e h = absurd (not-suc-le-zero h)
get_d_any (x ∷ l) zero d e h = refl
get_d_any (x ∷ l) (suc i) d e h = get_d_any l i d e (le_of_suc-le-suc h)

-- as many at most pass a test as there are
pub count_le : {A : Type 0} (p : A → Bool) (l : List A) → total (λ x. one (p x)) l ≤ length l
unfolding total
count_le p [] = omega arith
count_le p (x ∷ l) = omega (arith, count_le p l, one_le (p x))

module _ {A : Type 0} (xs : List A) (j : ℕ) (h : A) where
  -- downwards: what was held goes in, and what stood there is held
  pub carry_down : (d : A) → j < length xs → insert_at j (get_or xs j d) (set xs j h) ≡ insert_at (j + 1) h xs
  carry_down d lt =
      rw (take-set-le j xs j h (le_refl j), add-one j, take-suc xs j d lt, append_assoc)
      (ap (λ (l : List A). take j xs ++ get_or xs j d ∷ l) (drop-cons (set xs j h) j h (simp length-set lt) ∙ rw (get_or-set_same xs j h h lt, drop-set-lt (suc j) xs j h (lt-suc_self j))))

  -- the one that is held at the end is the one that is out
  pub out_again : j ≤ length xs → remove_at j (insert_at j h xs) ≡ xs
  out_again le =
      let lt : length (take j xs) ≡ j = length-take-le j xs le in
      let e : drop (j + 1) (insert_at j h xs) ≡ drop j xs = rw (← drop-drop 1 j (insert_at j h xs), drop_at (take j xs) (h ∷ drop j xs) j lt) in
      rw (e, take_at (take j xs) (h ∷ drop j xs) j lt, take-append-drop)

-- A loop that asks a test P of all that is left of a row, from a place on.
module _ {A : Type 0} (xs : List A) (i : ℕ) (P : List A → Bool) where
  pub left_turn : (hd : A → List A → Bool) → ((x : A) (l : List A) → P (x ∷ l) ≡ (hd x l && P l)) → (d : A) (ok h w : Bool) → i < length xs
      → (ok && P (drop i xs)) ≡ w → h ≡ hd (get_or xs i d) (drop (i + 1) xs) → ((ok && h) && P (drop (i + 1) xs)) ≡ w
  left_turn hd eq d ok h w lt inv e =
      let one_more : drop i xs ≡ get_or xs i d ∷ drop (i + 1) xs = drop-cons xs i d lt ∙ rw add-one in
      and_assoc ok h _ ∙ ap (λ (b : Bool). ok && (b && P (drop (i + 1) xs))) e
      ∙ ap (λ (b : Bool). ok && b) (sym (eq _ _)) ∙ ap (λ (l : List A). ok && P l) (sym one_more) ∙ inv

  pub left_ended : P [] ≡ true → (ok w : Bool) → length xs ≤ i → (ok && P (drop i xs)) ≡ w → ok ≡ w
  left_ended eq ok w le inv =
      sym (and-true ok) ∙ ap (λ (b : Bool). ok && b) (sym eq) ∙ ap (λ (l : List A). ok && P l) (sym (drop_of_length-le xs {i = i} le)) ∙ inv

-- A loop that ends at the first that fails: one that passed leaves the rest to be tested, and one that failed decides.
pub goes_on : (h q w : Bool) → ((true && h) && q) ≡ w → h ≡ true → q ≡ w
goes_on true q w e t = e
goes_on false q w e t = true_false (sym t)

pub stops : (h q w : Bool) → ((true && h) && q) ≡ w → h ≡ false → false ≡ w
stops true q w e f = true_false f
stops false q w e f = e
