-- `paging_bits::fill` meets its contract: the first half, the reserved four, the first half once more, each behind the other.
-- Assumes nothing.
use mathlib.Core.Path.{◌≡◌, ap, ◌∙◌}
use Prim.Native.Nat.{ℕ, ◌+◌, ◌-◌}
use native.Mathlib.Omega.{arith}
use lib.ListN.{replicate}
use Rattle.std.proofs.lemmas.List.Edits.{length-between}
use Rattle.paging_bits.proofs.Runs.{burst_put}
use Rattle.paging_bits.proofs.fill.Goals as goal

pub returns : goal.returns
returns c =
    let a = c.args in
    let four : a.half + 4 - a.half ≡ 4 = omega arith in
    let long = length-between c.put_runs.new.out a.half (a.half + 4) (omega arith) ∙ four in
    let zeros : c.fill.new.self ≡ replicate 4 0 = c.fill.ensures.after (λ y e. e) ∙ ap (λ (n : ℕ). replicate n 0) long in
    let made = burst_put a.length a.settings.now a.per a.half (a.half + 4 - a.half) a.out.now c.put_runs.new.out c.fill.new.self c.requires.0.whole four c.put_runs.ensures zeros in
    c.copy_within.ensures.after ∙ made
