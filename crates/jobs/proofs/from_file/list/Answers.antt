use Rattle.std.proofs.Common.{◌<◌, ◌≤◌, false, not, ◌&&◌, leb, is_ok, sym, ap, ◌∙◌, arith, refl, rules}
use Rattle.std.proofs.lemmas.Bool.{lt-leb}
use Rattle.circuit.specs.Netlists.{netlist}
use Rattle.circuit.specs.Limits.{max_table_inputs}
use Rattle.search.specs.Searches.{made_of}
use Rattle.jobs.specs.Afterwards.{tabulated}
use Rattle.jobs.specs.Lists.{room_of}
use Rattle.jobs.proofs.Compare.{compared}
use Rattle.jobs.proofs.Stages.{few_making, many_making, file_text, no_table, file_register, file_after}
use Rattle.jobs.proofs.Suffices.{suffices}
use Rattle.jobs.proofs.Tellings.{fits, told}
use Rattle.jobs.proofs.from_file.list.Goals as goal

-- ---- where the reading refuses

-- Asked of `search` alone: what the prover tries by itself after it finds nothing of a wrong body either, and takes long.
pub returns-in_err-reading-clause-value : goal.returns-in_err-reading-clause-value
returns-in_err-reading-clause-value c = search rules

pub returns-in_err-reading-clause-refused : goal.returns-in_err-reading-clause-refused
returns-in_err-reading-clause-refused c = search rules

pub returns-in_err-reading-clause-gates : goal.returns-in_err-reading-clause-gates
returns-in_err-reading-clause-gates c = search rules

pub returns-in_err-reading-clause-bits : goal.returns-in_err-reading-clause-bits
returns-in_err-reading-clause-bits c = search rules

pub returns-in_err-reading-clause-register : goal.returns-in_err-reading-clause-register
returns-in_err-reading-clause-register c = search rules

pub returns-in_err-reading-clause-compared : goal.returns-in_err-reading-clause-compared
returns-in_err-reading-clause-compared c = compared

pub returns-in_err-reading-clause-suffices : goal.returns-in_err-reading-clause-suffices
returns-in_err-reading-clause-suffices c = suffices

-- ---- by a table

pub returns-then-inputs-le-MAX_TABLE_INPUTS-clause-value : goal.returns-then-inputs-le-MAX_TABLE_INPUTS-clause-value
returns-then-inputs-le-MAX_TABLE_INPUTS-clause-value c =
    let room = room_of c.args.workspace in
    let circuit = netlist c.take_up-circuit.result in
    let few : circuit.inputs ≤ max_table_inputs = omega (arith, c.inputs.ensures, c.if-inputs-le-MAX_TABLE_INPUTS.true) in
    file_text room circuit c.args.file.now _ c.in_ok-reading.reading c.in_ok-reading.ensures.value c.take_up-circuit.ensures c.args.mode c.args.register.now _ (few_making room circuit few) c.args.text.now _ c.by_table.ensures.value

pub returns-then-inputs-le-MAX_TABLE_INPUTS-clause-fits : goal.returns-then-inputs-le-MAX_TABLE_INPUTS-clause-fits
returns-then-inputs-le-MAX_TABLE_INPUTS-clause-fits c = fits c.args.file.now c.args.mode (room_of c.args.workspace) c.args.register.now c.args.text.now _ (returns-then-inputs-le-MAX_TABLE_INPUTS-clause-value c)

pub returns-then-inputs-le-MAX_TABLE_INPUTS-clause-told : goal.returns-then-inputs-le-MAX_TABLE_INPUTS-clause-told
returns-then-inputs-le-MAX_TABLE_INPUTS-clause-told c = told _ _ _ _ _ _ (returns-then-inputs-le-MAX_TABLE_INPUTS-clause-value c)

pub returns-then-inputs-le-MAX_TABLE_INPUTS-clause-compared : goal.returns-then-inputs-le-MAX_TABLE_INPUTS-clause-compared
returns-then-inputs-le-MAX_TABLE_INPUTS-clause-compared c = compared

pub returns-then-inputs-le-MAX_TABLE_INPUTS-clause-suffices : goal.returns-then-inputs-le-MAX_TABLE_INPUTS-clause-suffices
returns-then-inputs-le-MAX_TABLE_INPUTS-clause-suffices c = suffices

pub returns-then-inputs-le-MAX_TABLE_INPUTS-clause-register : goal.returns-then-inputs-le-MAX_TABLE_INPUTS-clause-register
returns-then-inputs-le-MAX_TABLE_INPUTS-clause-register c =
    let room = room_of c.args.workspace in
    let circuit = netlist c.take_up-circuit.result in
    let few : circuit.inputs ≤ max_table_inputs = omega (arith, c.inputs.ensures, c.if-inputs-le-MAX_TABLE_INPUTS.true) in
    file_register room circuit c.args.file.now _ c.in_ok-reading.reading c.in_ok-reading.ensures.value c.take_up-circuit.ensures c.args.mode c.args.register.now _ (few_making room circuit few) _ c.by_table.ensures.register

pub returns-then-inputs-le-MAX_TABLE_INPUTS-clause-signals : goal.returns-then-inputs-le-MAX_TABLE_INPUTS-clause-signals
returns-then-inputs-le-MAX_TABLE_INPUTS-clause-signals c = λ no. refl

-- ---- by a search

pub returns-clause-value : goal.returns-clause-value
returns-clause-value c =
    let room = room_of c.args.workspace in
    let circuit = netlist c.take_up-circuit.result in
    let many : max_table_inputs < circuit.inputs = omega (arith, c.inputs.ensures, c.if-inputs-le-MAX_TABLE_INPUTS.false) in
    file_text room circuit c.args.file.now _ c.in_ok-reading.reading c.in_ok-reading.ensures.value c.take_up-circuit.ensures c.args.mode c.args.register.now _ (many_making room circuit many) c.args.text.now _ c.by_search.ensures.value

pub returns-clause-fits : goal.returns-clause-fits
returns-clause-fits c = fits c.args.file.now c.args.mode (room_of c.args.workspace) c.args.register.now c.args.text.now _ (returns-clause-value c)

pub returns-clause-told : goal.returns-clause-told
returns-clause-told c = told _ _ _ _ _ _ (returns-clause-value c)

pub returns-clause-compared : goal.returns-clause-compared
returns-clause-compared c = compared

pub returns-clause-suffices : goal.returns-clause-suffices
returns-clause-suffices c = suffices

pub returns-clause-register : goal.returns-clause-register
returns-clause-register c =
    let room = room_of c.args.workspace in
    let circuit = netlist c.take_up-circuit.result in
    let many : max_table_inputs < circuit.inputs = omega (arith, c.inputs.ensures, c.if-inputs-le-MAX_TABLE_INPUTS.false) in
    file_register room circuit c.args.file.now _ c.in_ok-reading.reading c.in_ok-reading.ensures.value c.take_up-circuit.ensures c.args.mode c.args.register.now _ (many_making room circuit many) _ c.by_search.ensures.register

pub returns-clause-bits : goal.returns-clause-bits
returns-clause-bits c =
    let room = room_of c.args.workspace in
    let circuit = netlist c.take_up-circuit.result in
    let many : max_table_inputs < circuit.inputs = omega (arith, c.inputs.ensures, c.if-inputs-le-MAX_TABLE_INPUTS.false) in
    let bits = c.args.workspace.bits.now in
    sym (no_table room circuit many room.words bits)
    ∙ file_after room circuit c.args.file.now _ c.in_ok-reading.reading c.in_ok-reading.ensures.value c.take_up-circuit.ensures bits (λ d. tabulated d room.words bits)

pub returns-clause-words : goal.returns-clause-words
returns-clause-words c = λ no. refl

pub returns-clause-signals : goal.returns-clause-signals
returns-clause-signals c =
    let room = room_of c.args.workspace in
    let circuit = netlist c.take_up-circuit.result in
    let many : max_table_inputs < circuit.inputs = omega (arith, c.inputs.ensures, c.if-inputs-le-MAX_TABLE_INPUTS.false) in
    let made = is_ok (made_of circuit room.signals) in
    λ no. c.by_search.ensures.signals
    (sym (ap (λ few. not few && made) (lt-leb circuit.inputs max_table_inputs many))
    ∙ file_after room circuit c.args.file.now _ c.in_ok-reading.reading c.in_ok-reading.ensures.value c.take_up-circuit.ensures false (λ d. not (leb d.inputs max_table_inputs) && is_ok (made_of d room.signals)) ∙ no)
