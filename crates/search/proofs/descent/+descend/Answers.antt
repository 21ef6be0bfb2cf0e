use Rattle.circuit.specs.Netlists.{netlist}
use Rattle.circuit.specs.Solutions.{solves}
use Rattle.search.proofs.Halves.{first_half, second_half}
use Rattle.search.proofs.Opens.{open_bit}
use Rattle.search.proofs.descent.+descend.Goals as goal

pub returns-in-Some : goal.returns-in-Some
returns-in-Some t c =
    let b = c.args.branch in
    let place = c.in_ok-place.place in
    first_half b.inputs (solves (netlist c.args.circuit.now)) c.args.question.wanted c.args.question.barred.now
    b.care b.value place b.inside (open_bit b.inputs b.care place c.in_ok-place.ensures)
    c.in-Some.row _ _ _ c.half.ensures.inputs c.half.ensures.care c.half.ensures.value c.in-Some.ensures

pub returns : goal.returns
returns t c =
    let b = c.args.branch in
    let place = c.in_ok-place.place in
    second_half b.inputs (solves (netlist c.args.circuit.now)) c.args.question.wanted c.args.question.barred.now
    b.care b.value place b.inside (open_bit b.inputs b.care place c.in_ok-place.ensures)
    c.descend-2.result _ _ _ _ _ _ c.half.ensures.inputs c.half.ensures.care c.half.ensures.value
    c.half-2.ensures.inputs c.half-2.ensures.care c.half-2.ensures.value c.in_default.ensures c.descend-2.ensures
