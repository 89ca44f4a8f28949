-- What is printed where a file has no survey of a clean cluster.
use Rattle.std.specs.Prelude.{◌≡◌, ◌⊎◌, ℕ, List, ◌++◌, Result, Err, codes, decimal}
use Rattle.survey_files.specs.declared.file_fault.FileFault.{FileFault}
use Rattle.survey_files.specs.declared.file_fault.FileFault.TheVariants.{BeyondMasters, Line, Memory, MissingNode}
use Rattle.survey_files.specs.declared.file_fault.FileFault.TheVariants.{Nobody, NoEnd, Open, SameId, TooMany, Twice}
use Rattle.survey_files.specs.declared.file_fault.FileFault.TheVariants.{Unlisted}

abbrev pub fault_text : FileFault → List ℕ
fault_text Memory = codes "out of memory"
fault_text (Line line) = codes "line " ++ (decimal line ++ codes " is not a line of a survey")
fault_text Open = codes "the survey is of an open cluster"
fault_text NoEnd = codes "the last line of the survey is not clean"
fault_text (SameId line) = codes "line " ++ (decimal line ++ codes " is a node with the ID of another")
fault_text (TooMany line) = codes "line " ++ (decimal line ++ codes " lists more slots than its node owns")
fault_text (Unlisted n) = codes "not all slots of n" ++ (decimal n ++ codes " are listed, as survey --full lists them")
fault_text (MissingNode n name) =
    codes "n" ++ (decimal n ++ (codes " of the plan is " ++ (name ++ codes ", which the survey does not have")))
fault_text (BeyondMasters n masters) = codes "n" ++ (decimal n ++ (codes " of the plan is beyond the "
    ++ (decimal masters ++ codes " masters of the survey: plan again")))
fault_text (Twice s m n) =
    codes "slot " ++ (decimal s ++ (codes " is listed at n" ++ (decimal m ++ (codes " and again at n" ++ decimal n))))
fault_text (Nobody s) = codes "slot " ++ (decimal s ++ codes " is owned by nobody")

-- it is the one that is meant, or memory ran out
abbrev pub IsFaultOf : {A : Type 0} → Result A FileFault → FileFault → Type 0
IsFaultOf meaning e = (e ≡ Memory) ⊎ (meaning ≡ Err e)
