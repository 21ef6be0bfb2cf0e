use Rattle.std.proofs.Common.{◌≡◌, ◌^◌, ◌<◌, drop}
use Rattle.text.specs.Numbers.{decimal}
use Rattle.text.proofs.numbers.value_of.Given as goal

abbrev pub invariant-loop-digit : goal.invariant-loop-digit
invariant-loop-digit l = (decimal l.value (drop l.digit-index l.run) ≡ decimal 0 l.run) × (l.value < 10 ^ l.digit-index)
