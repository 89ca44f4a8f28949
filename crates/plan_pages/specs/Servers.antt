-- The section of the servers: what each tells of itself.
use Rattle.std.specs.Prelude.{ℕ, zero, suc, List, [], ◌∷◌, ◌++◌, Option, None, Some, codes, decimal}
use Rattle.std.specs.List.{flat_map}
use Rattle.plan_outlines.specs.declared.nodes.NodeServer.{NodeServer}
use Rattle.plan_pages.specs.Sizes.{sizes_line}
use Rattle.plan_pages.specs.Words.{key_word, node_text}

unfoldable pub servers_heading : List ℕ
servers_heading = codes "\nservers\n"

-- `  n0 127.0.0.1:7000`
unfoldable pub address_line : NodeServer → List ℕ
address_line s = codes "  " ++ (node_text s.node ++ (32 ∷ s.host ++ (58 ∷ decimal s.port ++ 10 ∷ [])))

-- `     id 07c37dfeb235213a872192d90877d0cd55635b91`
unfoldable pub id_line : NodeServer → List ℕ
id_line s = codes "     id " ++ (s.name ++ 10 ∷ [])

-- `123456 keys`
unfoldable pub keys_told : Option ℕ → List ℕ
keys_told None = codes "keys unknown"
keys_told (Some k) = decimal k ++ key_word k

-- `1234567 bytes used`
unfoldable pub memory_told : Option ℕ → List ℕ
memory_told None = codes "bytes used unknown"
memory_told (Some m) = decimal m ++ codes " bytes used"

-- ` of at most 2000000`
unfoldable pub limit_told : Option ℕ → List ℕ
limit_told None = codes ", limit unknown"
limit_told (Some zero) = codes " without a limit"
limit_told (Some (suc m)) = codes " of at most " ++ decimal (suc m)

-- `     123456 keys, 1234567 bytes used of at most 2000000`
unfoldable pub figures_line : NodeServer → List ℕ
figures_line s = codes "     " ++ (keys_told s.keys ++ (codes ", " ++ (memory_told s.used_memory
    ++ (limit_told s.max_memory ++ 10 ∷ []))))

abbrev pub server_lines : NodeServer → List ℕ
server_lines s = address_line s ++ (id_line s ++ (figures_line s ++ sizes_line s))

-- what a server is called: its host and its ID, one after the other
abbrev pub names_of : NodeServer → List ℕ
names_of s = s.host ++ s.name

abbrev pub names : List NodeServer → List ℕ
names ss = flat_map names_of ss

-- nothing where no servers were asked
abbrev pub servers_section : List NodeServer → List ℕ
servers_section [] = []
servers_section (s ∷ ss) = servers_heading ++ flat_map server_lines (s ∷ ss)
