-- Document 01, "Paging bits (clause 5.3.7)", of where an indicator sits and who owns a bit: L is the length of an indicator's runs, H half the carrying bits,
-- PI an indicator's number, q its number in its frame, p a place in time order. The bits of a frame: crate `paging_bits`. Cited by the promises of `paging`. Assumes nothing.
use Rattle.std.specs.Prelude.{cond, ℕ, ◌+◌, ◌-◌, ◌/◌, ◌%◌, eqb, ltb}
use Rattle.paging_bits.specs.Bits.{per_frame, first_run, second_run}

-- "240 bits carry indicators for type 1, 272 for type 2"
unfoldable pub carrying_of : ℕ → ℕ
carrying_of burst = cond (eqb burst 1) 240 272

unfoldable pub half_of : ℕ → ℕ
half_of burst = carrying_of burst / 2

-- `L bitsFrom b`: L carrying bits from bit b
infix 20 ◌bitsFrom◌
pub data Bits : Type 0 where
  ◌bitsFrom◌ : ℕ → ℕ → Bits

-- where an indicator sits: its frame, its q, and its two runs
pub data Place : Type 0 where
  place : ℕ → ℕ → Bits → Bits → Place

-- "Indicator number PI, below N times F, sits in frame PI div N as q = PI mod N"
unfoldable pub place_of : ℕ → ℕ → ℕ → Place
place_of L H PI =
    let N = per_frame L H in
    let q = PI % N in
    place (PI / N) q (L bitsFrom (first_run L q)) (L bitsFrom (second_run L H q))

-- "Of a single bit, named by its place in time order from 0, the bench says which q owns it, or that it is reserved."
pub data Owner : Type 0 where
  reserved : Owner
  owned : ℕ → Owner

-- in time order: runs of L bits in the first half, the reserved four, runs of L bits in the second half
unfoldable pub owner_at : ℕ → ℕ → ℕ → Owner
owner_at L H p = cond (ltb p H) (owned (p / L)) (cond (ltb p (H + 4)) reserved (owned ((p - (H + 4)) / L)))
