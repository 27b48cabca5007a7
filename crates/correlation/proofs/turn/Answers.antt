-- `correlation::turn` meets its contract: four samples a turn of the loop, turned back once, twice, three times and not at all. Assumes nothing.
use borrow.Author.Count.{below_none}
use mathlib.Core.Path.{◌≡◌, refl, subst}
use Prim.Native.Nat.{ℕ, ◌+◌, ◌*◌, ◌%◌, ◌≤◌}
use native.Mathlib.Omega.{arith}
use Rattle.correlation.specs.Inside.{Turned}
use Rattle.correlation.proofs.Turning.{four_lengths, real_turn, imaginary_turn}
use Rattle.correlation.proofs.turn.Goals as goal

pub loop-q-init : goal.loop-q-init
loop-q-init c = (refl, refl, record { real = below_none _; imaginary = below_none _ })

pub loop-q-preserved : goal.loop-q-preserved
loop-q-preserved c =
    let inv = c.loop-q.invariant in
    let row = c.args.row.now in
    let good = c.requires.count_in_bounds.1 in
    let i = 4 * c.loop-q.q in
    let fours : i % 4 ≡ 0 = omega arith in
    let room : i + 4 ≤ c.args.count = omega arith in
    let next : i + 4 ≡ 4 * (c.loop-q.q + 1) = omega arith in (
      four_lengths c.loop-q.re _ _ _ _ _ _ _ _ _ inv.0,
      four_lengths c.loop-q.im _ _ _ _ _ _ _ _ _ inv.1,
      record {
        real = λ m h. real_turn row c.args.count good i fours room c.loop-q.re (omega arith) inv.2.real m (omega arith);
        imaginary = λ m h. imaginary_turn row c.args.count good i fours room c.loop-q.im (omega arith) inv.2.imaginary m (omega arith);
      },
    )

pub shape_of-re : goal.shape_of-re
shape_of-re c = c.loop-q.invariant.0

pub shape_of-im : goal.shape_of-im
shape_of-im c = c.loop-q.invariant.1

pub returns : goal.returns
returns c =
    let all : 4 * c.loop-q.q ≡ c.args.count = omega arith in
    subst (λ (n : ℕ). Turned c.args.row.now n c.loop-q.re c.loop-q.im) all c.loop-q.invariant.2
