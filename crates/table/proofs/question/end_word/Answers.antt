use Rattle.std.proofs.Common.{arith, pow_pos}
use Rattle.std.proofs.lemmas.Nat.{one_shl}
use Rattle.circuit.proofs.WordRows.{rows_in_words}
use Rattle.table.proofs.Questions.{within_most}
use Rattle.table.proofs.question.end_word.Goals as goal

pub returns : goal.returns
returns c =
    let n = c.args.n in
    let some = pow_pos n in
    let last = simp (one_shl n 32 (omega arith), c.value.ensures, c.care.ensures) at c.min.ensures in
    record {
      room = omega (arith, rows_in_words n);
      past = λ row lt h. omega (arith, within_most n c.args.cube.care c.args.cube.value row lt h);
    }
