use Rattle.std.proofs.Common.{◌≡◌, ◌∙◌, ap₂, rules}
use Rattle.table.specs.Tables.{rows_of}
use Rattle.table.proofs.decider.Table.make.Goals as goal

pub returns-in-Ok-clause-rows : goal.returns-in-Ok-clause-rows
returns-in-Ok-clause-rows c =
    let same : c.over.result.inputs ≡ c.args.circuit.now.inputs = search rules in
    ap₂ rows_of same c.over.ensures.bits ∙ c.in-Ok.ensures.rows

pub invariant_of-result : goal.invariant_of-result
invariant_of-result c = search rules

pub returns-in-Err-clause-inputs : goal.returns-in-Err-clause-inputs
returns-in-Err-clause-inputs c = search rules

pub returns-in-Err-clause-rows : goal.returns-in-Err-clause-rows
returns-in-Err-clause-rows c = search rules
