-- The flags of commands, as COMMAND names them (the page of COMMAND).
use Rattle.std.specs.Prelude.{ℕ, List, [], ◌∷◌, codes}
use Rattle.client_commands.specs.declared.flag.Flag.{Flag}
use Rattle.client_commands.specs.declared.flag.Flag.TheVariants.{Write, ReadOnly, DenyOom, Fast, NoScript, Loading}
use Rattle.client_commands.specs.declared.flag.Flag.TheVariants.{Stale, NoAuth, AllowBusy}

abbrev pub flag_text : Flag → List ℕ
flag_text Write = codes "write"
flag_text ReadOnly = codes "readonly"
flag_text DenyOom = codes "denyoom"
flag_text Fast = codes "fast"
flag_text NoScript = codes "noscript"
flag_text Loading = codes "loading"
flag_text Stale = codes "stale"
flag_text NoAuth = codes "no_auth"
flag_text AllowBusy = codes "allow_busy"

-- ---- the flags of commands of clients

abbrev pub reads : List Flag
reads = ReadOnly ∷ []

abbrev pub reads_fast : List Flag
reads_fast = ReadOnly ∷ Fast ∷ []

abbrev pub writes : List Flag
writes = Write ∷ []

abbrev pub writes_fast : List Flag
writes_fast = Write ∷ Fast ∷ []

abbrev pub grows : List Flag
grows = Write ∷ DenyOom ∷ []

abbrev pub grows_fast : List Flag
grows_fast = Write ∷ DenyOom ∷ Fast ∷ []
