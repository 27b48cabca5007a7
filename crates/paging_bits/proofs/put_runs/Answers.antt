-- `paging_bits::put_runs` meets its contract: one run a turn, from the front.
-- Assumes nothing.
use mathlib.Core.Path.{◌≡◌, sym, ap, ◌∙◌}
use Prim.Native.Nat.{ℕ, ◌+◌, ◌-◌, ◌*◌, ◌<◌, ◌≤◌}
use native.Mathlib.Nat.{zero-mul, mul-le-mul_right}
use lib.ListN.{drop, replicate, length-take}
use lib.Seq.{get_or-take}
use Rattle.std.proofs.lemmas.List.Edits.{length-between}
use native.Mathlib.Omega.{arith}
use Rattle.paging_bits.specs.Bits.{as_bit, runs_of}
use Rattle.paging_bits.proofs.Runs.{run_next, runs_turn}
use Rattle.paging_bits.proofs.put_runs.Goals as goal

pub loop-q-init : goal.loop-q-init
unfolding runs_of
loop-q-init c = ap (λ (n : ℕ). drop n c.args.out.now) (sym (zero-mul c.args.length))

pub loop-q-preserved : goal.loop-q-preserved
loop-q-preserved c =
    let l = c.loop-q in
    let a = c.args in
    let from = l.q * a.length in
    let within : l.q < a.per = omega (arith, length-take a.per a.settings.now) in
    let room : (l.q + 1) * a.length ≤ a.per * a.length = mul-le-mul_right a.length (omega arith) in
    let next : from + a.length ≡ (l.q + 1) * a.length = sym (run_next a.length l.q) in
    let one : from + a.length - from ≡ a.length = omega arith in
    let bit = c.as_bit.ensures ∙ ap as_bit (get_or-take a.per a.settings.now l.q 0 within) in
    let run = c.fill.ensures.after (λ y e. e) ∙ ap (λ (n : ℕ). replicate n c.as_bit.result) (length-between l.out from (from + a.length) (omega arith) ∙ one) in
    runs_turn a.length a.settings.now l.q _ c.as_bit.result a.out.now l.out _ l.invariant one bit run
