-- What is printed where a text tells no IDs.
use Rattle.std.specs.Prelude.{ℕ, List, ◌++◌, codes, decimal}
use Rattle.survey_texts.specs.declared.expect_fault.ExpectFault.{ExpectFault}
use Rattle.survey_texts.specs.declared.expect_fault.ExpectFault.TheVariants.{Line, Memory}

abbrev pub fault_text : ExpectFault → List ℕ
fault_text (Line line) = codes "line " ++ (decimal line ++ codes " is not a line of a survey")
fault_text Memory = codes "out of memory"
