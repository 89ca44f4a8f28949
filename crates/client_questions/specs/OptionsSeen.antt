-- What the program knows of HELLO's options, as the definitions have it.
use Rattle.std.specs.Prelude.{ℕ, List, Option, option_map}
use Rattle.std.specs.Borrow.{Bor}
use Rattle.client_questions.specs.Hello.{OptionsEnd, ends}
use Rattle.client_questions.specs.declared.hello.OptionsEnd as program

abbrev pub shown_name : Option (Bor (List ℕ)) → Option (List ℕ)
shown_name name = option_map (λ t. t.now) name

abbrev pub shown_end : program.OptionsEnd → OptionsEnd
shown_end e = ends (shown_name e.name) e.refusal
