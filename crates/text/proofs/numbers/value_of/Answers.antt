use Rattle.std.proofs.Common.{◌≡◌, ◌+◌, ◌-◌, ◌*◌, ◌^◌, get_or, drop, sym, ap, ◌∙◌, pow-suc, add-one, arith, rules}
use Rattle.std.proofs.lemmas.List.{drop_more}
use Rattle.text.specs.Numbers.{decimal}
use Rattle.text.proofs.numbers.value_of.Goals as goal

pub overflow_sub-digit : goal.overflow_sub-digit
overflow_sub-digit c = (c.requires.digits c.loop-digit.digit-index (omega arith)).0

pub loop-digit-preserved : goal.loop-digit-preserved
loop-digit-preserved c =
    let i = c.loop-digit.digit-index in
    let xs = c.args.run.now in
    let d = c.requires.digits i (omega arith) in
    let add : c.from.result ≡ get_or xs i 0 - 48 = search rules in
    let ten : 10 ^ (i + 1) ≡ 10 ^ i * 10 = ap (λ k. 10 ^ k) (add-one i) ∙ pow-suc 10 i in (
      ap (λ n. decimal (c.loop-digit.value * 10 + n) (drop (i + 1) xs)) add ∙ sym (ap (decimal c.loop-digit.value) (drop_more xs i 0 (omega arith))) ∙ c.loop-digit.invariant.0,
      omega (arith, ten, d.1),
    )
