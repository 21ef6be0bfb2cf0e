-- Worked cases: a file, a mode, waivers and the length of a register, and how that run ends. Assumes nothing.
--
-- separate, shared: the modes 1, where no two cubes hold one row, and 2, where cubes may share rows
-- finished k r t: the k-th next finishes the listing, the register is r then, and its total t
-- refused k r report: the k-th next is refused, the register is r then, and the report says why
-- listed, waivers: the entries of cubes that are written as text
use Rattle.std.specs.Prelude.{◌≡◌, ℕ, List, [], ◌∷◌, ◌++◌, Ok}
use Rattle.faults.specs.declared.report.Layer.TheVariants.{Listing}
use Rattle.faults.specs.Reports.{told}
use Rattle.circuit.specs.declared.ternary.Ternary.TheVariants.{One, Unknown}
use Rattle.cubes.specs.declared.entry.Entry.{Entry}
use Rattle.worked.specs.Runs.{file, listed, waivers, three_valued, Outcome, finished, refused, run}

abbrev pub separate : ℕ
separate = 1

abbrev pub shared : ℕ
shared = 2

-- ---- the files

-- input 1 or input 2
abbrev pub either : List ℕ
either = file ("aag 3 2 0 1 1" ∷ "2" ∷ "4" ∷ "7" ∷ "6 5 3" ∷ [])

-- input 1, or input 3 without input 2
abbrev pub first_or_lone : List ℕ
first_or_lone = file ("aag 5 3 0 1 2" ∷ "2" ∷ "4" ∷ "6" ∷ "11" ∷ "8 6 5" ∷ "10 9 3" ∷ [])

-- input 1 with input 2, or input 1 without it
abbrev pub first_by_cases : List ℕ
first_by_cases = file ("aag 5 2 0 1 3" ∷ "2" ∷ "4" ∷ "11" ∷ "6 4 2" ∷ "8 5 2" ∷ "10 9 7" ∷ [])

-- input 1
abbrev pub first : List ℕ
first = file ("aag 2 2 0 1 0" ∷ "2" ∷ "4" ∷ "2" ∷ [])

abbrev pub never : List ℕ
never = file ("aag 1 1 0 1 0" ∷ "2" ∷ "0" ∷ [])

abbrev pub always : List ℕ
always = file ("aag 1 1 0 1 0" ∷ "2" ∷ "1" ∷ [])

-- ---- the cases

abbrev pub entry : ℕ → ℕ → Entry
entry care value = record { care = care; value = value }

-- the run without waivers ends so in both modes
abbrev pub InBothModes : List ℕ → ℕ → Outcome → Type 0
InBothModes bytes entries outcome = (run bytes separate [] entries ≡ outcome) × (run bytes shared [] entries ≡ outcome)

pub record WorkedCases : Type 0 where
  -- two entries are enough for two cubes: the third next finishes
  pub separate_cubes : run either separate [] 2 ≡ finished 3 (listed ("-1" ∷ "10" ∷ [])) 3
  pub words_of_the_register : run either separate [] 2 ≡ finished 3 (entry 0x80000001 0xC0000001 ∷ entry 0x80000003 0xC0000002 ∷ []) 3
  pub shared_rows : run either shared [] 2 ≡ finished 3 (listed ("-1" ∷ "1-" ∷ [])) 4
  pub three_separate_cubes : run first_or_lone separate [] 3 ≡ finished 4 (listed ("-01" ∷ "1-0" ∷ "111" ∷ [])) 5
  pub shared_rows_of_three_inputs : run first_or_lone shared [] 2 ≡ finished 3 (listed ("-01" ∷ "1--" ∷ [])) 6
  -- the cube is listed though its open input leaves the signals of the gates unknown
  pub opened_beyond_signals : InBothModes first_by_cases 1 (finished 2 (listed ("1-" ∷ [])) 2)
  pub unknown_signal : three_valued first_by_cases "1-" ≡ Ok Unknown
  -- the same solutions by other gates: the same list
  pub same_list_without_gates : InBothModes first 1 (finished 2 (listed ("1-" ∷ [])) 2)
  pub known_signal_without_gates : three_valued first "1-" ≡ Ok One
  pub no_solution : InBothModes never 0 (finished 1 [] 0)
  pub every_row_a_solution : InBothModes always 1 (finished 2 (listed ("-" ∷ [])) 2)
  pub one_row_waived : run either separate ("11" ∷ []) 3 ≡ finished 3 (waivers ("11" ∷ []) ++ listed ("01" ∷ "10" ∷ [])) 2
  pub every_row_waived : run either separate ("--" ∷ []) 1 ≡ finished 1 (waivers ("--" ∷ [])) 0
  -- one entry only: the second next finds the register full and leaves it as it was
  pub register_full : run either separate [] 1 ≡ refused 2 (listed ("-1" ∷ [])) (told 18 Listing 1 0)

-- how many they are
abbrev pub case_count : ℕ
case_count = 14
