-- How wide the lines of a page are, in bytes.
use Rattle.std.specs.Prelude.{◌≡◌, ℕ, ◌+◌, ◌*◌, ◌^◌, ◌<◌, ◌≤◌, Bool, false, ◌==◌, List, ◌++◌, IfSome, length}
use Rattle.std.specs.List.{All, list_any}
use Rattle.plan_outlines.specs.declared.counts.CommandCounts.{CommandCounts}
use Rattle.plan_outlines.specs.declared.counts.KeyLoad.{KeyLoad}
use Rattle.plan_outlines.specs.declared.nodes.NodeChange.{NodeChange}
use Rattle.plan_outlines.specs.declared.nodes.NodeServer.{NodeServer}
use Rattle.plan_outlines.specs.declared.outline.PlanOutline.{PlanOutline}
use Rattle.plan_outlines.specs.declared.pairs.PairChange.{PairChange}
use Rattle.plan_outlines.specs.declared.ranges.RangeChange.{RangeChange}
use Rattle.plan_outlines.specs.declared.ranges.SlotRun.{SlotRun}
use Rattle.plan_pages.specs.Pages.{page_text}

abbrev pub is_break : ℕ → Bool
is_break c = c == 10

-- no stretch of the text without a line break is wider
abbrev pub IsNarrow : (width : ℕ) → List ℕ → Type 0
IsNarrow width text = (before line after : List ℕ) → text ≡ before ++ (line ++ after)
    → list_any is_break line ≡ false → length line ≤ width

-- ---- the numbers, as their types have them

abbrev pub IsPair : PairChange → Type 0
IsPair p = (p.source < 255) × (p.target < 255) × (p.slots < 2 ^ 32) × (p.keys < 2 ^ 64)

abbrev pub IsNode : NodeChange → Type 0
IsNode c = (c.node < 255) × (c.before < 2 ^ 32) × (c.after < 2 ^ 32)

abbrev pub IsRange : RangeChange → Type 0
IsRange r = (r.first < 16384) × (r.last < 16384) × (r.before < 255) × (r.after < 255)

abbrev pub IsRun : SlotRun → Type 0
IsRun r = (r.first < 16384) × (r.last < 16384)

abbrev pub AreCounts : CommandCounts → Type 0
AreCounts c = (c.importing < 2 ^ 32) × (c.migrating < 2 ^ 32) × (c.drain < 2 ^ 32) × (c.node < 2 ^ 32)
    × (c.stable < 2 ^ 32)

abbrev pub IsLoad : KeyLoad → Type 0
IsLoad l = l.calls < 2 ^ 64

pub record HasNumbers (o : PlanOutline) : Type 0 where
  pub pairs : All IsPair o.pairs.items
  pub nodes : All IsNode o.nodes.items
  pub ranges : All IsRange o.ranges.items
  pub counts : AreCounts o.counts
  pub least : o.least_batch < 2 ^ 16
  pub most : o.most_batch < 2 ^ 16
  pub again : All IsRun o.moved_again.items
  pub back : All IsRun o.moved_back.items
  pub at_once : o.most_open < 2 ^ 32
  pub load : IfSome o.load IsLoad

-- ---- what may be wider

-- a figure of a server of at most so many digits
abbrev pub HasDigits : (digits : ℕ) → ℕ → Type 0
HasDigits d k = (k < 10 ^ d) × (k < 2 ^ 64)

-- a server whose host, ID and figures have room on such a line
pub record HasRoom (width : ℕ) (s : NodeServer) : Type 0 where
  pub node : s.node < 255
  pub port : s.port < 2 ^ 16
  pub host : 13 + length s.host ≤ width
  pub name : 8 + length s.name ≤ width
  pub digits : ℕ
  pub some : 7 ≤ digits
  pub few : 3 * digits + 35 ≤ width
  pub keys : IfSome s.keys (HasDigits digits)
  pub used : IfSome s.used_memory (HasDigits digits)
  pub limit : IfSome s.max_memory (HasDigits digits)

-- No line of a page is wider than 80 columns, or than what its servers and the command that continues take. Figures of
-- 15 digits have room in 80 columns, and all that there can be in 95.
abbrev pub PagesAreNarrow : Type 0
PagesAreNarrow = (width : ℕ) (o : PlanOutline) (servers : List NodeServer) (resume : List ℕ) → 80 ≤ width
    → HasNumbers o → All (HasRoom width) servers → 2 + length resume ≤ width
    → IsNarrow width (page_text o servers resume)
