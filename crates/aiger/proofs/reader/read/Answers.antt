use Rattle.std.proofs.Common.{◌≡◌, length, rules}
use Rattle.aiger.specs.Reads.{Answer, read_of}
use Rattle.aiger.proofs.Exact.{exact}
use Rattle.aiger.proofs.MalformedTold.{answer_told}
use Rattle.aiger.proofs.reader.read.Goals as goal

pub returns-then-is_err-clause-written : goal.returns-then-is_err-clause-written
returns-then-is_err-clause-written c =
    let v : ◌≡◌ {A = Answer} (c.fill-then-is_err.new.self, c.read_into-answer.result) (read_of c.args.file.now (length c.args.table.now)) = search rules in
    exact c.args.file.now (length c.args.table.now) _ _ v

pub returns-then-is_err-clause-told : goal.returns-then-is_err-clause-told
returns-then-is_err-clause-told c =
    let v : ◌≡◌ {A = Answer} (c.fill-then-is_err.new.self, c.read_into-answer.result) (read_of c.args.file.now (length c.args.table.now)) = search rules in
    answer_told c.args.file.now (length c.args.table.now) _ _ v

pub returns-else-is_err-clause-written : goal.returns-else-is_err-clause-written
returns-else-is_err-clause-written c =
    let v : ◌≡◌ {A = Answer} (c.read_into-answer.new.table, c.read_into-answer.result) (read_of c.args.file.now (length c.args.table.now)) = search rules in
    exact c.args.file.now (length c.args.table.now) _ _ v

pub returns-else-is_err-clause-told : goal.returns-else-is_err-clause-told
returns-else-is_err-clause-told c =
    let v : ◌≡◌ {A = Answer} (c.read_into-answer.new.table, c.read_into-answer.result) (read_of c.args.file.now (length c.args.table.now)) = search rules in
    answer_told c.args.file.now (length c.args.table.now) _ _ v
