-- How much memory a server uses, in KB, MB or GB.
use Rattle.std.specs.Prelude.{ℕ, zero, suc, ◌/◌, cond, nat_lt, List, [], ◌∷◌, ◌++◌, Option, None, Some, codes, decimal}
use Rattle.plan_outlines.specs.declared.nodes.NodeServer.{NodeServer}

-- `1205 KB`, in the largest unit of which there are ten at least, or else in KB: 1,024 bytes, and so on
unfoldable pub size_text : ℕ → List ℕ
size_text m =
    cond (nat_lt m 10485760) (decimal (m / 1024) ++ codes " KB")
    (cond (nat_lt m 10737418240) (decimal (m / 1048576) ++ codes " MB") (decimal (m / 1073741824) ++ codes " GB"))

-- ` of at most 1953 KB`, where there is a limit
unfoldable pub limit_size : Option ℕ → List ℕ
limit_size None = []
limit_size (Some zero) = []
limit_size (Some (suc m)) = codes " of at most " ++ size_text (suc m)

-- `     1205 KB used of at most 1953 KB`
unfoldable pub used_line : (used : ℕ) → (limit : Option ℕ) → List ℕ
used_line m limit = codes "     " ++ (size_text m ++ (codes " used" ++ (limit_size limit ++ 10 ∷ [])))

-- where the server tells what it uses
abbrev pub sizes_of : (used limit : Option ℕ) → List ℕ
sizes_of None limit = []
sizes_of (Some m) limit = used_line m limit

abbrev pub sizes_line : NodeServer → List ℕ
sizes_line s = sizes_of s.used_memory s.max_memory
