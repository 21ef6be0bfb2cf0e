use Rattle.std.proofs.Common.{eqb, take, arith}
use Rattle.std.proofs.lemmas.List.Sums.{count_by-le-length}
use Rattle.std.proofs.lemmas.List.{length-take}
use Rattle.aiger.proofs.file.File.line_at.Goals as goal

pub overflow_cast-result : goal.overflow_cast-result
overflow_cast-result c = omega (arith, count_by-le-length (λ b. eqb b 10) (take c.args.place c.args.self.bytes.now), length-take c.args.place c.args.self.bytes.now, c.line_of.ensures)
