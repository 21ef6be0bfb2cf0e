use Rattle.std.proofs.Common.{◌≡◌, ◌%◌, ◌+◌, ◌<◌, ◌∷◌, [], subst, arith}
use Rattle.std.proofs.lemmas.Fmt.{decimal_digit, decimal_step}
use Rattle.pla.specs.declared.writer.Writer.{Writer}
use Rattle.pla.specs.Writing.{Wrote}
use Rattle.pla.proofs.Writing.{wrote_more}
use Rattle.pla.proofs.writer.Writer.+write_number.Goals as goal
use Rattle.pla.proofs.writer.Writer.+write_number.Goals.{then-number-ge10, else-number-ge10}

pub returns : goal.returns
returns t c =
    let number = c.args.number in
    let Writes = λ (front : Writer). Wrote front ((48 + number % 10) ∷ []) c.push.new.self in
    elim c.if-number-ge10.branch [
      | then-number-ge10 w ↦ rw (decimal_step number (omega arith) (omega arith)) (wrote_more w.write_number.ensures (subst Writes w.self-is c.push.ensures))
      | else-number-ge10 w ↦
          let small : number < 10 = omega arith in
          let last : number % 10 ≡ number = omega arith in
          rw (decimal_digit number small, ← last) (subst Writes w.self-is c.push.ensures)
    ]
