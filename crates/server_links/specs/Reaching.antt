-- Why there is no connection to a server.
use Rattle.std.specs.Prelude.{◌==◌, ◌||◌, cond, Option, Some, None, ℤ, pos, negsuc}
use Rattle.server_links.specs.declared.unreached.Unreached.{Unreached}
use Rattle.server_links.specs.declared.unreached.Unreached.TheVariants.{NoDescriptor, Silent}

-- the system's error 24 is that the process has too many files open, and 23 that all processes have
abbrev pub unreached_by : Option ℤ → Unreached
unreached_by None = Silent
unreached_by (Some (negsuc n)) = Silent
unreached_by (Some (pos n)) = cond (n == 24 || n == 23) NoDescriptor Silent
