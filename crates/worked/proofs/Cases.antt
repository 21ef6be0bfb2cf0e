-- Every worked case, by computation.
use Rattle.std.proofs.Common.{refl}
use native.Mathlib.Decide.{dec_le}
use lib.Count.{ones}
use Rattle.listing.specs.Widest.{least, widened}
use Rattle.worked.specs.Worked.{WorkedCases}

pub cases : WorkedCases
unfolding dec_le ones least widened
cases =
    record {
      separate_cubes = refl;
      words_of_the_register = refl;
      shared_rows = refl;
      three_separate_cubes = refl;
      shared_rows_of_three_inputs = refl;
      opened_beyond_signals = (refl, refl);
      unknown_signal = refl;
      same_list_without_gates = (refl, refl);
      known_signal_without_gates = refl;
      no_solution = (refl, refl);
      every_row_a_solution = (refl, refl);
      one_row_waived = refl;
      every_row_waived = refl;
      register_full = refl;
    }
