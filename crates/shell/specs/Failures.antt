-- What a program says on standard error of why it fails. Assumes nothing.
use Rattle.std.specs.Prelude.{◌≡◌, ℕ, ◌⊎◌, List, Err, Result, codes}
use Rattle.shell.specs.declared.failure.Failure.{Failure}
use Rattle.shell.specs.declared.failure.Failure.TheVariants.{Usage, Refused, Memory, Stream}

abbrev pub failure_text : Failure → List ℕ
failure_text Usage = codes "usage: takes no argument; a circuit in ASCII AIGER on standard input"
failure_text Refused = codes "refused"
failure_text Memory = codes "not enough memory"
failure_text Stream = codes "standard input or output failed"

-- this result, unless what was to be said of it could not be printed
abbrev pub OrStream : {X : Type 0} → Result X Failure → Result X Failure → Type 0
OrStream result res = (result ≡ res) ⊎ (result ≡ Err Stream)
