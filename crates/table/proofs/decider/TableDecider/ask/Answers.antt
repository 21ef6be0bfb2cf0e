use Rattle.std.proofs.Common.{◌<◌, refl, mod-eq_of_lt, arith, lt-ltb}
use Rattle.cubes.proofs.Questions.{same_answer}
use Rattle.table.specs.Tables.{table_rows, rows_of}
use Rattle.table.proofs.decider.TableDecider.ask.Goals as goal

pub returns-else-self-eq0-clause-answer : goal.returns-else-self-eq0-clause-answer
returns-else-self-eq0-clause-answer c =
    let n = c.args.self.now.inputs in
    let ws = c.args.self.now.bits.now in
    let some : 0 < n = omega arith in
    same_answer n _ _ (table_rows ws) (rows_of n ws) _ _ _ _ (λ row l. refl) (λ row l. rw (lt-ltb 0 n some, mod-eq_of_lt l)) _ c.first-else-self-eq0.ensures
