-- The servers of a book by their IDs, as they are kept to be looked up, and what a server's lines tell of each of them.
use Rattle.std.specs.Prelude.{◌≡◌, ℕ, ◌<◌, cond, ◌==◌, List, Option, Some, None, length, option_map, slice_index_or}
use Rattle.std.specs.BTreeMap.{BTreeMap, get_by}
use Rattle.std.specs.Cmp.Lexicographic.{slice_cmp}
use Rattle.std.specs.Ordering.{nat_cmp}
use Rattle.std.specs.declared.alloc.Global.{Global}
use Rattle.std.specs.declared.vec.Vec.{Vec}
use Rattle.listed_nodes.specs.declared.node_line.NodeLine.{NodeLine}
use Rattle.cluster_views.specs.Numbers.{first_given}
use Rattle.cluster_views.specs.Views.{line_about, number_of}
use Rattle.server_commands.specs.declared.book.Server.{Server}

-- numbers at IDs
abbrev pub Numbers : Type 0
Numbers = BTreeMap (Vec ℕ Global) ℕ

abbrev pub number_at : Numbers → (name : List ℕ) → Option ℕ
number_at m name = get_by (λ k. slice_cmp nat_cmp name k.items) m

-- at each ID stands the number of the server with this ID
abbrev pub AreNumbersOf : List Server → Numbers → Type 0
AreNumbersOf b m = (name : List ℕ) → number_at m name ≡ number_of b name

-- ---- what is told of each server

-- the config epoch that the lines tell of the server, if they list it as a master
abbrev pub epoch_told : Server → List NodeLine → Option ℕ
epoch_told s ls = option_map (λ l. l.epoch) (line_about s ls)

-- it, if this is a number, and that of the server k
abbrev pub told_if : (k epoch : ℕ) → Option ℕ → Option ℕ
told_if k epoch None = None
told_if k epoch (Some m) = cond (k == m) (Some epoch) None

-- the config epoch that the line tells of the server k, if it is a master's
abbrev pub told_by : List Server → (k : ℕ) → NodeLine → Option ℕ
told_by b k l = cond l.is_master (told_if k l.epoch (number_of b l.name)) None

-- so the lines tell of each server, from n0 on; of several with one ID, of the first
pub record AreToldIn (b : List Server) (ls : List NodeLine) (row : List (Option ℕ)) : Type 0 where
  pub width : length row ≡ length b
  pub epochs : (k : ℕ) → k < length b → slice_index_or row k None ≡ first_given (told_by b k) ls
