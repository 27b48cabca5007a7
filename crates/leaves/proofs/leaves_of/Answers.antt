-- `leaves::leaves_of` meets its contract: up to 16 by computation, and above it 16 divided is 0; 16 divided by 0 is 0 in the definition too.
-- Assumes nothing.
use mathlib.Core.Path.{◌≡◌}
use Prim.Native.Nat.{ℕ, ◌+◌, ◌*◌, ◌/◌, ◌≤◌, ◌<◌}
use native.Mathlib.Nat.{div-lt_iff_lt-mul}
use native.Mathlib.Omega.{arith}
use Rattle.leaves.specs.Leaves.{leaves_of}
use Rattle.leaves.proofs.leaves_of.Goals as goal

at_least : (q : ℕ) → 0 ≤ q
at_least q = omega arith

up : (n q : ℕ) → n ≤ q → (q ≡ n → ⊥) → n + 1 ≤ q
up n q h other = omega (arith, other)

none_left : (q : ℕ) → 17 ≤ q → (0 ≡ leaves_of q) × (0 ≤ 16)
unfolding leaves_of
none_left q h =
    let high : 16 < 1 * q = omega arith in
    let low : 0 < q = omega arith in
    let none : 16 / q < 1 = (div-lt_iff_lt-mul low).1 high in
    (omega (arith, none), omega arith)

pub returns-in-0 : goal.returns-in-0
unfolding leaves_of
returns-in-0 c = (rw c.in-0.is, omega arith)

pub returns-in-1 : goal.returns-in-1
unfolding leaves_of
returns-in-1 c = (rw c.in-1.is, omega arith)

pub returns-in-2 : goal.returns-in-2
unfolding leaves_of
returns-in-2 c = (rw c.in-2.is, omega arith)

pub returns-in-3 : goal.returns-in-3
unfolding leaves_of
returns-in-3 c = (rw c.in-3.is, omega arith)

pub returns-in-4 : goal.returns-in-4
unfolding leaves_of
returns-in-4 c = (rw c.in-4.is, omega arith)

pub returns-in-5 : goal.returns-in-5
unfolding leaves_of
returns-in-5 c = (rw c.in-5.is, omega arith)

pub returns-in-6 : goal.returns-in-6
unfolding leaves_of
returns-in-6 c = (rw c.in-6.is, omega arith)

pub returns-in-7 : goal.returns-in-7
unfolding leaves_of
returns-in-7 c = (rw c.in-7.is, omega arith)

pub returns-in-8 : goal.returns-in-8
unfolding leaves_of
returns-in-8 c = (rw c.in-8.is, omega arith)

pub returns-in-9 : goal.returns-in-9
unfolding leaves_of
returns-in-9 c = (rw c.in-9.is, omega arith)

pub returns-in-10 : goal.returns-in-10
unfolding leaves_of
returns-in-10 c = (rw c.in-10.is, omega arith)

pub returns-in-11 : goal.returns-in-11
unfolding leaves_of
returns-in-11 c = (rw c.in-11.is, omega arith)

pub returns-in-12 : goal.returns-in-12
unfolding leaves_of
returns-in-12 c = (rw c.in-12.is, omega arith)

pub returns-in-13 : goal.returns-in-13
unfolding leaves_of
returns-in-13 c = (rw c.in-13.is, omega arith)

pub returns-in-14 : goal.returns-in-14
unfolding leaves_of
returns-in-14 c = (rw c.in-14.is, omega arith)

pub returns-in-15 : goal.returns-in-15
unfolding leaves_of
returns-in-15 c = (rw c.in-15.is, omega arith)

pub returns-in-16 : goal.returns-in-16
unfolding leaves_of
returns-in-16 c = (rw c.in-16.is, omega arith)

pub returns-in_default : goal.returns-in_default
unfolding leaves_of
returns-in_default c =
    let q = c.args.factor in
    let r = c.in_default.in_default-own.rest in
    let z : 0 ≤ q = at_least q in
    none_left q (up 16 q (up 15 q (up 14 q (up 13 q (up 12 q (up 11 q (up 10 q (up 9 q (up 8 q (up 7 q (up 6 q (up 5 q (up 4 q (up 3 q (up 2 q (up 1 q (up 0 q z r.0.0.0.0.0.0.0.0.0.0.0.0.0.0.0.0.1) r.0.0.0.0.0.0.0.0.0.0.0.0.0.0.0.1) r.0.0.0.0.0.0.0.0.0.0.0.0.0.0.1) r.0.0.0.0.0.0.0.0.0.0.0.0.0.1) r.0.0.0.0.0.0.0.0.0.0.0.0.1) r.0.0.0.0.0.0.0.0.0.0.0.1) r.0.0.0.0.0.0.0.0.0.0.1) r.0.0.0.0.0.0.0.0.0.1) r.0.0.0.0.0.0.0.0.1) r.0.0.0.0.0.0.0.1) r.0.0.0.0.0.0.1) r.0.0.0.0.0.1) r.0.0.0.0.1) r.0.0.0.1) r.0.0.1) r.0.1) r.1)
