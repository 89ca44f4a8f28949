-- The lines of a page are narrow.
use Rattle.std.proofs.Common.{◌≡◌, ℕ, zero, suc, ◌+◌, ◌-◌, ◌*◌, ◌/◌, ◌%◌, ◌^◌, ◌<◌, ◌≤◌, Bool, true, false, cond, ◌==◌}
use Rattle.std.proofs.Common.{List, [], ◌∷◌, ◌++◌, length, nat_lt}
use Rattle.std.proofs.Common.{Option, None, Some, IfSome, All, codes, decimal, is_some, sym, refl, ap, ◌∙◌, subst}
use Rattle.std.proofs.Common.{arith, length-append, append_assoc, append-nil}
use Rattle.std.specs.List.{flat_map}
use Rattle.std.proofs.lemmas.Bool.Decides.{nat_tests}
use Rattle.std.proofs.lemmas.Fmt.{length-decimal-le}
use Rattle.std.proofs.lemmas.List.{length-replicate}
use Rattle.std.proofs.lemmas.List.Elements.{All-head, All-tail, All-weaker}
use Rattle.plan_outlines.specs.declared.counts.CommandCounts.{CommandCounts}
use Rattle.plan_outlines.specs.declared.counts.KeyLoad.{KeyLoad}
use Rattle.plan_outlines.specs.declared.nodes.NodeChange.{NodeChange}
use Rattle.plan_outlines.specs.declared.nodes.NodeServer.{NodeServer}
use Rattle.plan_outlines.specs.declared.outline.PlanOutline.{PlanOutline}
use Rattle.plan_outlines.specs.declared.pairs.PairChange.{PairChange}
use Rattle.plan_outlines.specs.declared.ranges.RangeChange.{RangeChange}
use Rattle.plan_outlines.specs.declared.ranges.SlotRun.{SlotRun}
use Rattle.plan_pages.specs.Commands.{batches_part, batches_text, batches_word, calls_line, commands_heading}
use Rattle.plan_pages.specs.Commands.{commands_of, commands_section, count_line, drains_line, importing_word}
use Rattle.plan_pages.specs.Commands.{known_word, migrating_word, most_part, node_word, stable_word, unknown_word}
use Rattle.plan_pages.specs.Moves.{last_part, move_line, move_part, moves, moves_heading, moves_section, range_column}
use Rattle.plan_pages.specs.Moves.{slots_of}
use Rattle.plan_pages.specs.Nodes.{is_emptied, loses_line, loses_words, node_row, nodes_heading, nodes_section}
use Rattle.plan_pages.specs.Nodes.{percent_column, share_column}
use Rattle.plan_pages.specs.Pages.{page_text}
use Rattle.plan_pages.specs.Pairs.{keys_column, keys_part, pair_line, pairs_heading, pairs_section}
use Rattle.plan_pages.specs.Runs.{again_heading, back_heading, fits, gap, more_runs, room_after, run_text, runs_section}
use Rattle.plan_pages.specs.Runs.{runs_text}
use Rattle.plan_pages.specs.Servers.{address_line, figures_line, id_line, keys_told, limit_told, memory_told}
use Rattle.plan_pages.specs.Servers.{server_lines, servers_heading, servers_section}
use Rattle.plan_pages.specs.Sizes.{limit_size, size_text, sizes_line, sizes_of, used_line}
use Rattle.plan_pages.specs.Stops.{open_words, stand_word, stop_heading, stop_section}
use Rattle.plan_pages.specs.Widths.{AreCounts, HasDigits, HasNumbers, HasRoom, IsLoad, IsNode, IsPair, IsRange, IsRun}
use Rattle.plan_pages.specs.Widths.{PagesAreNarrow}
use Rattle.plan_pages.specs.Words.{key_word, left, node_text, none_line, or_none, pair_text, right, slot_word}
use Rattle.plan_pages.specs.Words.{slots_column, spaces}
use Rattle.plan_pages.proofs.Lines.{AreLines, Ends, Fits, are_narrow, blank, broken, each_line, no_lines, one_line}
use Rattle.plan_pages.proofs.Lines.{over, put_before, then_lines}

-- ---- how long words and numbers are

two_long : (a b : List ℕ) (m n : ℕ) → length a ≤ m → length b ≤ n → length (a ++ b) ≤ m + n
two_long a b m n f g = let all = length-append a b in omega (arith, f, g, all)

either_long : (b : Bool) (s t : List ℕ) (n : ℕ) → length s ≤ n → length t ≤ n → length (cond b s t) ≤ n
either_long true s t n f g = f
either_long false s t n f g = g

right_long : (w : ℕ) (t : List ℕ) (n : ℕ) → length t ≤ n → w ≤ n → length (right w t) ≤ n
right_long w t n f g =
    let all = length-append (spaces (w - length t)) t in
    let blanks : length (spaces (w - length t)) ≡ w - length t = length-replicate {A = ℕ} (w - length t) 32 in
    omega (arith, f, g, all, blanks)

left_long : (w : ℕ) (t : List ℕ) (n : ℕ) → length t ≤ n → w ≤ n → length (left w t) ≤ n
left_long w t n f g =
    let all = length-append t (spaces (w - length t)) in
    let blanks : length (spaces (w - length t)) ≡ w - length t = length-replicate {A = ℕ} (w - length t) 32 in
    omega (arith, f, g, all, blanks)

-- a slot, a number of 16 bits, of 32 and of 64
slot_long : (n : ℕ) → n < 16384 → length (decimal n) ≤ 5
slot_long n lt = length-decimal-le 5 n (omega arith) (omega (arith, lt)) (omega (arith, lt))

short_long : (n : ℕ) → n < 2 ^ 16 → length (decimal n) ≤ 5
short_long n lt = length-decimal-le 5 n (omega arith) (omega (arith, lt)) (omega (arith, lt))

word_long : (n : ℕ) → n < 2 ^ 32 → length (decimal n) ≤ 10
word_long n lt = length-decimal-le 10 n (omega arith) (omega (arith, lt)) (omega (arith, lt))

long_long : (n : ℕ) → n < 2 ^ 64 → length (decimal n) ≤ 20
long_long n lt = length-decimal-le 20 n (omega arith) (omega (arith, lt)) lt

node_long : (n : ℕ) → n < 255 → length (node_text n) ≤ 4
node_long n lt =
    let few : length (decimal n) ≤ 3 = length-decimal-le 3 n (omega arith) (omega (arith, lt)) (omega (arith, lt)) in
    omega (arith, few)

pair_long : (s t : ℕ) → s < 255 → t < 255 → length (pair_text s t) ≤ 12
pair_long s t f g =
    two_long (node_text s) (codes " -> " ++ node_text t) 4 8 (node_long s f)
    (two_long (codes " -> ") (node_text t) 4 4 (omega arith) (node_long t g))

slot_word_long : (n : ℕ) → length (slot_word n) ≤ 6
slot_word_long n = either_long (n == 1) (codes " slot") (codes " slots") 6 (omega arith) (omega arith)

key_word_long : (n : ℕ) → length (key_word n) ≤ 5
key_word_long n = either_long (n == 1) (codes " key") (codes " keys") 5 (omega arith) (omega arith)

slots_long : (w n : ℕ) → w ≤ 15 → n < 2 ^ 32 → length (slots_column w n) ≤ 21
unfolding slots_column
slots_long w n le lt =
    two_long (right (w - length (slot_word n)) (decimal n)) (slot_word n) 15 6
    (right_long (w - length (slot_word n)) (decimal n) 15 (less (word_long n lt)) (omega (arith, le)))
    (slot_word_long n)
  where
    less : {k : ℕ} → k ≤ 10 → k ≤ 15
    less h = omega (arith, h)

module _ (w : ℕ) (wide : 80 ≤ w) where
  -- the line ends
  ended : Ends w 0 (10 ∷ [])
  ended = broken w (no_lines w)

  line : {n : ℕ} {t : List ℕ} → Ends w n t → n ≤ 80 → AreLines w t
  line e le = one_line w e (omega (arith, le, wide))

  lines_if : (b : Bool) (t : List ℕ) → AreLines w t → AreLines w (cond b t [])
  lines_if true t f = f
  lines_if false t f = no_lines w

  some_lines : (t : List ℕ) → AreLines w t → AreLines w (or_none t)
  unfolding none_line
  some_lines [] f = line (put_before w (codes "  none") 6 (omega arith) ended) (omega arith)
  some_lines (b ∷ t) f = f

  -- ---- the pairs

  keys_long : (has : Bool) (p : PairChange) → p.keys < 2 ^ 64 → length (keys_part has p) ≤ 27
  unfolding keys_column
  keys_long has p lt =
      either_long has (keys_column p.keys) [] 27
      (two_long (codes ", ") (right 10 (decimal p.keys) ++ key_word p.keys) 2 25 (omega arith)
      (two_long (right 10 (decimal p.keys)) (key_word p.keys) 20 5
      (right_long 10 (decimal p.keys) 20 (long_long p.keys lt) (omega arith)) (key_word_long p.keys))) (omega arith)

  pair_narrow : (has : Bool) (p : PairChange) → IsPair p → AreLines w (pair_line has p)
  unfolding pair_line
  pair_narrow has p is =
      line
      (put_before w (codes "  ") 2 (omega arith)
      (put_before w (left 12 (pair_text p.source p.target)) 12
      (left_long 12 (pair_text p.source p.target) 12 (pair_long p.source p.target is.0 is.1) (omega arith))
      (put_before w (slots_column 12 p.slots) 21 (slots_long 12 p.slots (omega arith) is.2)
      (put_before w (keys_part has p) 27 (keys_long has p is.3) ended)))) (omega arith)

  pairs_narrow : (has : Bool) (ps : List PairChange) → All IsPair ps → AreLines w (pairs_section has ps)
  unfolding pairs_heading
  pairs_narrow has ps all =
      then_lines w
      (line (put_before w (codes "slots by pair of nodes") 22 (omega arith) ended) (omega arith))
      (some_lines (flat_map (pair_line has) ps) (each_line w (pair_line has) ps
      (All-weaker IsPair (λ p. AreLines w (pair_line has p)) (pair_narrow has) ps all)))

  -- ---- the nodes

  less : (n : ℕ) → n < 2 ^ 32 → (n * 10000 / 16384) / 100 < 10 ^ 14
  less n lt = omega (arith, lt)

  percent_long : (h : ℕ) → h / 100 < 10 ^ 14 → length (percent_column h) ≤ 19
  unfolding percent_column
  percent_long h lt =
      two_long (right 5 (decimal (h / 100))) (46 ∷ decimal (h / 10 % 10) ++ (decimal (h % 10) ++ codes " %")) 14 5
      (right_long 5 (decimal (h / 100)) 14
      (length-decimal-le 14 (h / 100) (omega arith) lt (omega (arith, lt))) (omega arith))
      (two_long (46 ∷ decimal (h / 10 % 10)) (decimal (h % 10) ++ codes " %") 2 3 (one_more (one (h / 10)))
      (two_long (decimal (h % 10)) (codes " %") 1 2 (one h) (omega arith)))
    where
      one : (k : ℕ) → length (decimal (k % 10)) ≤ 1
      one k = length-decimal-le 1 (k % 10) (omega arith) (omega arith) (omega arith)

      one_more : {k : ℕ} → k ≤ 1 → suc k ≤ 2
      one_more h = omega (arith, h)

  node_narrow : (c : NodeChange) → IsNode c → AreLines w (node_row c)
  unfolding node_row
  node_narrow c is =
      line
      (put_before w (codes "  ") 2 (omega arith)
      (put_before w (left 8 (node_text c.node)) 8
      (left_long 8 (node_text c.node) 8 (more (node_long c.node is.0)) (omega arith))
      (put_before w (right 12 (decimal c.before)) 12
      (right_long 12 (decimal c.before) 12 (more_still (word_long c.before is.1)) (omega arith))
      (put_before w (share_column c.before) 19 (percent_long (c.before * 10000 / 16384) (less c.before is.1))
      (put_before w (right 10 (decimal c.after)) 10
      (right_long 10 (decimal c.after) 10 (word_long c.after is.2) (omega arith))
      (put_before w (share_column c.after) 19 (percent_long (c.after * 10000 / 16384) (less c.after is.2)) ended))))))
      (omega arith)
    where
      more : {k : ℕ} → k ≤ 4 → k ≤ 8
      more h = omega (arith, h)

      more_still : {k : ℕ} → k ≤ 10 → k ≤ 12
      more_still h = omega (arith, h)

  loss_narrow : (c : NodeChange) → IsNode c → AreLines w (loses_line c)
  unfolding loses_line loses_words
  loss_narrow c is =
      lines_if (is_emptied c) (node_text c.node ++ loses_words)
      (line (put_before w (node_text c.node) 4 (node_long c.node is.0)
      (put_before w (codes " loses its last slot: its replicas may follow another master, and it may") 73 (omega arith)
      (broken w (line (put_before w (codes "become a replica.") 17 (omega arith) ended) (omega arith))))) (omega arith))

  nodes_narrow : (cs : List NodeChange) → All IsNode cs → AreLines w (nodes_section cs)
  unfolding nodes_heading
  nodes_narrow cs all =
      then_lines w
      (blank w
      (line (put_before w (codes "nodes                     before               after") 53 (omega arith) ended)
      (omega arith)))
      (then_lines w
      (each_line w node_row cs (All-weaker IsNode (λ c. AreLines w (node_row c)) node_narrow cs all))
      (each_line w loses_line cs (All-weaker IsNode (λ c. AreLines w (loses_line c)) loss_narrow cs all)))

  -- ---- the ranges

  last_long : (a b : ℕ) → b < 16384 → length (last_part a b) ≤ 6
  last_long a b lt = either_long (a == b) [] (45 ∷ decimal b) 6 (omega arith) (one_more (slot_long b lt))
    where
      one_more : {k : ℕ} → k ≤ 5 → suc k ≤ 6
      one_more h = omega (arith, h)

  range_long : (a b : ℕ) → a < 16384 → b < 16384 → length (range_column a b) ≤ 13
  unfolding range_column
  range_long a b f g =
      two_long (right 7 (decimal a)) (left 6 (last_part a b)) 7 6
      (right_long 7 (decimal a) 7 (more (slot_long a f)) (omega arith))
      (left_long 6 (last_part a b) 6 (last_long a b g) (omega arith))
    where
      more : {k : ℕ} → k ≤ 5 → k ≤ 7
      more h = omega (arith, h)

  range_narrow : (r : RangeChange) → IsRange r → AreLines w (move_line r)
  unfolding move_line
  range_narrow r is =
      line
      (put_before w (range_column r.first r.last) 13 (range_long r.first r.last is.0 is.1)
      (put_before w (slots_column 15 (slots_of r)) 21 (slots_long 15 (slots_of r) (omega arith) few)
      (put_before w (codes "   ") 3 (omega arith)
      (put_before w (pair_text r.before r.after) 12 (pair_long r.before r.after is.2 is.3) ended)))) (omega arith)
    where
      few : slots_of r < 2 ^ 32
      few = let high : r.last < 16384 = is.1 in omega (arith, high)

  move_narrow : (r : RangeChange) → IsRange r → AreLines w (move_part r)
  unfolding move_part
  move_narrow r is = lines_if (moves r) (move_line r) (range_narrow r is)

  moves_narrow : (rs : List RangeChange) → All IsRange rs → AreLines w (moves_section rs)
  unfolding moves_heading
  moves_narrow rs all =
      then_lines w
      (blank w (line (put_before w (codes "what goes where") 15 (omega arith) ended) (omega arith)))
      (some_lines (flat_map move_part rs)
      (each_line w move_part rs (All-weaker IsRange (λ r. AreLines w (move_part r)) move_narrow rs all)))

  -- ---- the commands

  count_narrow : (n : ℕ) (word : List ℕ) (columns : ℕ) → n < 2 ^ 64 → columns ≤ 60 → Ends w columns word
      → AreLines w (count_line n word)
  unfolding count_line
  count_narrow n word columns lt le e =
      one_line w (put_before w (right 9 (decimal n)) 20
      (right_long 9 (decimal n) 20 (long_long n lt) (omega arith)) e) (omega (arith, wide, le))

  far : (n : ℕ) → n < 2 ^ 32 → n < 2 ^ 64
  far n lt = omega (arith, lt)

  most_long : (a b : ℕ) → b < 2 ^ 16 → length (most_part a b) ≤ 9
  most_long a b lt =
      either_long (a == b) [] (codes " to " ++ decimal b) 9 (omega arith)
      (two_long (codes " to ") (decimal b) 4 5 (omega arith) (short_long b lt))

  batches_long : (n a b : ℕ) → a < 2 ^ 16 → b < 2 ^ 16 → length (batches_part n a b) ≤ 35
  unfolding batches_text batches_word
  batches_long n a b f g =
      either_long (n == 0) [] (batches_text a b) 35 (omega arith)
      (two_long batches_word (decimal a ++ (most_part a b ++ key_word b)) 16 19 (omega arith)
      (two_long (decimal a) (most_part a b ++ key_word b) 5 14 (short_long a f)
      (two_long (most_part a b) (key_word b) 9 5 (most_long a b g) (key_word_long b))))

  drains_narrow : (n a b : ℕ) → n < 2 ^ 32 → a < 2 ^ 16 → b < 2 ^ 16 → AreLines w (drains_line n a b)
  unfolding drains_line
  drains_narrow n a b lt f g =
      line
      (put_before w (right 9 (decimal n)) 10 (right_long 9 (decimal n) 10 (word_long n lt) (omega arith))
      (put_before w (codes " drains") 7 (omega arith)
      (put_before w (batches_part n a b) 35 (batches_long n a b f g) ended))) (omega arith)

  calls_narrow : (c : CommandCounts) (load : Option KeyLoad) → AreCounts c → IfSome load IsLoad
      → AreLines w (calls_line c load)
  unfolding known_word unknown_word
  calls_narrow c None is known =
      count_narrow (commands_of c) unknown_word 40 (few c is) (omega arith)
      (put_before w (codes " calls at most where slots hold no keys;") 40 (omega arith)
      (broken w (line (put_before w (codes "          each batch of keys takes two more") 43 (omega arith) ended)
      (omega arith))))
    where
      few : (c : CommandCounts) → AreCounts c → commands_of c < 2 ^ 64
      few c is = omega (arith, is.0, is.1, is.2, is.3, is.4)
  calls_narrow c (Some l) is known =
      count_narrow l.calls known_word 51 known (omega arith)
      (put_before w (codes " calls at most, if no slot holds more keys than now") 51 (omega arith)
      (broken w (line (put_before w (codes "          when its move begins") 30 (omega arith) ended) (omega arith))))

  commands_narrow : (o : PlanOutline) → HasNumbers o → AreLines w (commands_section o)
  unfolding commands_section commands_heading importing_word migrating_word node_word stable_word
  commands_narrow o has =
      then_lines w (blank w (line (put_before w (codes "commands") 8 (omega arith) ended) (omega arith)))
      (then_lines w
      (count_narrow o.counts.importing importing_word 18 (far o.counts.importing has.counts.0) (omega arith)
      (put_before w (codes " SETSLOT IMPORTING") 18 (omega arith) ended))
      (then_lines w
      (count_narrow o.counts.migrating migrating_word 18 (far o.counts.migrating has.counts.1) (omega arith)
      (put_before w (codes " SETSLOT MIGRATING") 18 (omega arith) ended))
      (then_lines w
      (drains_narrow o.counts.drain o.least_batch o.most_batch has.counts.2 has.least has.most)
      (then_lines w
      (count_narrow o.counts.node node_word 13 (far o.counts.node has.counts.3) (omega arith)
      (put_before w (codes " SETSLOT NODE") 13 (omega arith) ended))
      (then_lines w
      (count_narrow o.counts.stable stable_word 15 (far o.counts.stable has.counts.4) (omega arith)
      (put_before w (codes " SETSLOT STABLE") 15 (omega arith) ended))
      (calls_narrow o.counts o.load has.counts has.load))))))

  -- ---- the stop

  stop_narrow : (n : ℕ) (resume : List ℕ) → n < 2 ^ 32 → 2 + length resume ≤ w → AreLines w (stop_section n resume)
  unfolding stop_section stop_heading open_words
  stop_narrow n resume lt le =
      blank w (line (put_before w (codes "stopped half way") 16 (omega arith)
      (broken w (line
      (put_before w (codes "  ") 2 (omega arith)
      (put_before w (decimal n) 10 (word_long n lt)
      (put_before w (stand_word n) 13
      (either_long (n == 1) (codes " slot stands") (codes " slots stand") 13 (omega arith) (omega arith))
      (put_before w (codes " open at most, at any time. This goes on:") 41 (omega arith)
      (broken w (one_line w
      (put_before w (codes "  ") 2 (omega arith) (put_before w resume (length resume) (omega arith) ended))
      (omega (arith, le)))))))) (omega arith)))) (omega arith))

  -- ---- the servers

  digits_long : (d n : ℕ) → 7 ≤ d → HasDigits d n → length (decimal n) ≤ d
  digits_long d n some is = length-decimal-le d n (omega (arith, some)) is.0 is.1

  keys_told_long : (d : ℕ) (o : Option ℕ) → 7 ≤ d → IfSome o (HasDigits d) → length (keys_told o) ≤ d + 5
  unfolding keys_told
  keys_told_long d None some is = omega (arith, some)
  keys_told_long d (Some k) some is =
      two_long (decimal k) (key_word k) d 5 (digits_long d k some is) (key_word_long k)

  memory_told_long : (d : ℕ) (o : Option ℕ) → 7 ≤ d → IfSome o (HasDigits d) → length (memory_told o) ≤ d + 11
  unfolding memory_told
  memory_told_long d None some is = omega (arith, some)
  memory_told_long d (Some k) some is =
      two_long (decimal k) (codes " bytes used") d 11 (digits_long d k some is) (omega arith)

  limit_told_long : (d : ℕ) (o : Option ℕ) → 7 ≤ d → IfSome o (HasDigits d) → length (limit_told o) ≤ 12 + d
  unfolding limit_told
  limit_told_long d None some is = omega (arith, some)
  limit_told_long d (Some zero) some is = omega (arith, some)
  limit_told_long d (Some (suc m)) some is =
      two_long (codes " of at most ") (decimal (suc m)) 12 d (omega arith) (digits_long d (suc m) some is)

  figures_narrow : (s : NodeServer) → HasRoom w s → AreLines w (figures_line s)
  unfolding figures_line
  figures_narrow s has =
      let d : ℕ = has.digits in
      let few : 3 * has.digits + 35 ≤ w = has.few in
      one_line w
      (put_before w (codes "     ") 5 (omega arith)
      (put_before w (keys_told s.keys) (has.digits + 5) (keys_told_long has.digits s.keys has.some has.keys)
      (put_before w (codes ", ") 2 (omega arith)
      (put_before w (memory_told s.used_memory) (has.digits + 11)
      (memory_told_long has.digits s.used_memory has.some has.used)
      (put_before w (limit_told s.max_memory) (12 + has.digits)
      (limit_told_long has.digits s.max_memory has.some has.limit) ended))))) (omega (arith, few))

  unit_long : (k : ℕ) → k < 2 ^ 64 → (t : List ℕ) → length t ≡ 3 → length (decimal k ++ t) ≤ 23
  unit_long k lt t three = two_long (decimal k) t 20 3 (long_long k lt) (omega (arith, three))

  size_long : (m : ℕ) → m < 2 ^ 64 → length (size_text m) ≤ 23
  unfolding size_text
  size_long m lt =
      either_long (nat_lt m 10485760) (decimal (m / 1024) ++ codes " KB") _ 23
      (unit_long (m / 1024) (omega (arith, lt)) (codes " KB") refl)
      (either_long (nat_lt m 10737418240) (decimal (m / 1048576) ++ codes " MB") _ 23
      (unit_long (m / 1048576) (omega (arith, lt)) (codes " MB") refl)
      (unit_long (m / 1073741824) (omega (arith, lt)) (codes " GB") refl))

  limit_size_long : (d : ℕ) (o : Option ℕ) → IfSome o (HasDigits d) → length (limit_size o) ≤ 35
  unfolding limit_size
  limit_size_long d None is = omega arith
  limit_size_long d (Some zero) is = omega arith
  limit_size_long d (Some (suc m)) is =
      two_long (codes " of at most ") (size_text (suc m)) 12 23 (omega arith) (size_long (suc m) is.1)

  used_narrow : (d m : ℕ) (limit : Option ℕ) → HasDigits d m → IfSome limit (HasDigits d) → 80 ≤ w
      → AreLines w (used_line m limit)
  unfolding used_line
  used_narrow d m limit is bound wide =
      one_line w
      (put_before w (codes "     ") 5 (omega arith)
      (put_before w (size_text m) 23 (size_long m is.1)
      (put_before w (codes " used") 5 (omega arith)
      (put_before w (limit_size limit) 35 (limit_size_long d limit bound) ended)))) (omega (arith, wide))

  sizes_of_narrow : (d : ℕ) (used limit : Option ℕ) → IfSome used (HasDigits d) → IfSome limit (HasDigits d) → 80 ≤ w
      → AreLines w (sizes_of used limit)
  sizes_of_narrow d None limit is bound wide = no_lines w
  sizes_of_narrow d (Some m) limit is bound wide = used_narrow d m limit is bound wide

  sizes_narrow : (s : NodeServer) → HasRoom w s → AreLines w (sizes_line s)
  sizes_narrow s has = sizes_of_narrow has.digits s.used_memory s.max_memory has.used has.limit wide

  address_narrow : (s : NodeServer) → HasRoom w s → AreLines w (address_line s)
  unfolding address_line
  address_narrow s has =
      let room : 13 + length s.host ≤ w = has.host in
      one_line w
      (put_before w (codes "  ") 2 (omega arith)
      (put_before w (node_text s.node) 4 (node_long s.node has.node)
      (put_before w (32 ∷ s.host) (1 + length s.host) (omega arith)
      (put_before w (58 ∷ decimal s.port) 6 (one_more (short_long s.port has.port)) ended)))) (omega (arith, room))
    where
      one_more : {k : ℕ} → k ≤ 5 → suc k ≤ 6
      one_more h = omega (arith, h)

  id_narrow : (s : NodeServer) → HasRoom w s → AreLines w (id_line s)
  unfolding id_line
  id_narrow s has =
      let room : 8 + length s.name ≤ w = has.name in
      one_line w
      (put_before w (codes "     id ") 8 (omega arith)
      (put_before w s.name (length s.name) (omega arith) ended)) (omega (arith, room))

  server_narrow : (s : NodeServer) → HasRoom w s → AreLines w (server_lines s)
  server_narrow s has =
      then_lines w (address_narrow s has)
      (then_lines w (id_narrow s has) (then_lines w (figures_narrow s has) (sizes_narrow s has)))

  servers_narrow : (ss : List NodeServer) → All (HasRoom w) ss → AreLines w (servers_section ss)
  unfolding servers_heading
  servers_narrow [] all = no_lines w
  servers_narrow (s ∷ ss) all =
      then_lines w (blank w (line (put_before w (codes "servers") 7 (omega arith) ended) (omega arith)))
      (each_line w server_lines (s ∷ ss)
      (All-weaker (HasRoom w) (λ q. AreLines w (server_lines q)) server_narrow (s ∷ ss) all))

  -- ---- the runs

  run_long : (r : SlotRun) → IsRun r → length (run_text r) ≤ 11
  unfolding run_text
  run_long r is =
      two_long (decimal r.first) (last_part r.first r.last) 5 6 (slot_long r.first is.0) (last_long r.first r.last is.1)

  -- after so many columns the list continues, and ends its line
  abbrev GoesOn : (column room : ℕ) → List SlotRun → Type 0
  GoesOn column room rs = (rest : List ℕ) → Fits w 0 rest → Fits w column (more_runs room rs ++ (10 ∷ rest))

  -- a run, and the list after it
  run_on : (t : List ℕ) (column room : ℕ) (rs : List SlotRun) → GoesOn (column + length t) room rs
      → (rest : List ℕ) → Fits w 0 rest → Fits w column ((t ++ more_runs room rs) ++ (10 ∷ rest))
  run_on t column room rs f rest h =
      subst (Fits w column) (sym (append_assoc t (more_runs room rs) (10 ∷ rest)))
      (over w t column (more_runs room rs ++ (10 ∷ rest)) (f rest h))

  -- there is room for so many columns more
  more_narrow : (rs : List SlotRun) (room column : ℕ) → All IsRun rs → 1 ≤ room → column + room ≤ 80
      → GoesOn column room rs
  more_narrow [] room column all some few rest h = (omega (arith, wide, few), h)
  more_narrow (r ∷ rs) room column all some few rest h =
      by (fits room (run_text r)) refl (run_long r (All-head IsRun r rs all))
      (more_narrow rs (room - 2 - length (run_text r)) (column + 1 + 1 + length (run_text r)) (All-tail IsRun r rs all))
      (more_narrow rs (78 - length (run_text r)) (2 + length (run_text r)) (All-tail IsRun r rs all))
    where
      by : (b : Bool) → fits room (run_text r) ≡ b → length (run_text r) ≤ 11
          → (1 ≤ room - 2 - length (run_text r)
          → column + 1 + 1 + length (run_text r) + (room - 2 - length (run_text r)) ≤ 80
          → GoesOn (column + 1 + 1 + length (run_text r)) (room - 2 - length (run_text r)) rs)
          → (1 ≤ 78 - length (run_text r) → 2 + length (run_text r) + (78 - length (run_text r)) ≤ 80
          → GoesOn (2 + length (run_text r)) (78 - length (run_text r)) rs)
          → Fits w column ((gap b ++ (run_text r
          ++ more_runs (cond b (room - 2 - length (run_text r)) (78 - length (run_text r))) rs)) ++ (10 ∷ rest))
      by true e short f g =
          let room_left : length (run_text r) < room - 2 = grind (arith, nat_tests) in
          let one : column + 1 ≤ 80 = omega (arith, few, room_left) in (
            omega (arith, wide, one),
            (
              omega (arith, wide, one),
              run_on (run_text r) (column + 1 + 1) (room - 2 - length (run_text r)) rs
                  (f (omega (arith, room_left)) (omega (arith, few, room_left))) rest h,
            ),
          )
      by false e short f g = (
        omega (arith, wide, few, some),
        (
          omega (arith, wide, few, some),
          (
            omega arith,
            (
              omega (arith, wide),
              run_on (run_text r) 2 (78 - length (run_text r)) rs
                  (g (omega (arith, short)) (omega (arith, short))) rest h,
            ),
          ),
        ),
      )

  -- a list after the words of its line, with room for so many columns
  list_narrow : (front : List ℕ) (room : ℕ) (rs : List SlotRun) → length front + room ≤ 80 → 12 ≤ room → All IsRun rs
      → AreLines w (front ++ (runs_text room rs ++ 10 ∷ []))
  list_narrow front room [] few some all =
      one_line w (put_before w front (length front) (omega arith) (put_before w (codes "none") 4 (omega arith) ended))
      (omega (arith, wide, few, some))
  list_narrow front room (r ∷ rs) few some all = record {
    on = λ rest h.
        let t : List ℕ = run_text r in
        let short : length (run_text r) ≤ 11 = run_long r (All-head IsRun r rs all) in
        subst (Fits w 0) (sym (ends_last rest))
        (over w front 0 ((run_text r ++ more_runs (room - length (run_text r)) rs) ++ (10 ∷ rest))
        (run_on (run_text r) (0 + length front) (room - length (run_text r)) rs
        (more_narrow rs (room - length (run_text r)) (0 + length front + length (run_text r)) (All-tail IsRun r rs all)
        (omega (arith, some, short)) (omega (arith, few, some, short))) rest h));
  }
    where
      ends_last : (rest : List ℕ)
          → (front ++ ((run_text r ++ more_runs (room - length (run_text r)) rs) ++ 10 ∷ [])) ++ rest
          ≡ front ++ ((run_text r ++ more_runs (room - length (run_text r)) rs) ++ (10 ∷ rest))
      ends_last rest =
          append_assoc front ((run_text r ++ more_runs (room - length (run_text r)) rs) ++ 10 ∷ []) rest
          ∙ ap (λ (l : List ℕ). front ++ l)
          (append_assoc (run_text r ++ more_runs (room - length (run_text r)) rs) (10 ∷ []) rest)

  runs_narrow : (again back : List SlotRun) → All IsRun again → All IsRun back → AreLines w (runs_section again back)
  unfolding again_heading back_heading
  runs_narrow again back f g =
      subst (AreLines w) (sym parted)
      (then_lines w
      (blank w (list_narrow (codes "slots that move more than once: ") 48 again (omega arith) (omega arith) f))
      (list_narrow (codes "slots that move and come back: ") 49 back (omega arith) (omega arith) g))
    where
      parted : runs_section again back
          ≡ (again_heading ++ (runs_text 48 again ++ 10 ∷ [])) ++ (back_heading ++ (runs_text 49 back ++ 10 ∷ []))
      parted =
          ap (λ (l : List ℕ). again_heading ++ l)
          (sym (append_assoc (runs_text 48 again) (10 ∷ []) (back_heading ++ (runs_text 49 back ++ 10 ∷ []))))
          ∙ sym (append_assoc again_heading (runs_text 48 again ++ 10 ∷ [])
          (back_heading ++ (runs_text 49 back ++ 10 ∷ [])))

  -- ---- the page

  page_narrow : (o : PlanOutline) (servers : List NodeServer) (resume : List ℕ) → HasNumbers o
      → All (HasRoom w) servers → 2 + length resume ≤ w → AreLines w (page_text o servers resume)
  page_narrow o servers resume has room le =
      then_lines w (pairs_narrow (is_some o.load) o.pairs.items has.pairs)
      (then_lines w (nodes_narrow o.nodes.items has.nodes)
      (then_lines w (servers_narrow servers room)
      (then_lines w (moves_narrow o.ranges.items has.ranges)
      (then_lines w (commands_narrow o has)
      (then_lines w (runs_narrow o.moved_again.items o.moved_back.items has.again has.back)
      (stop_narrow o.most_open resume has.at_once le))))))

pub pages_are_narrow : PagesAreNarrow
pages_are_narrow w o servers resume wide has room le =
    let all : Fits w 0 (page_text o servers resume ++ []) =
    (page_narrow w wide o servers resume has room le).on [] (omega arith) in
    are_narrow w (page_text o servers resume)
    (subst (Fits w 0) (append-nil (page_text o servers resume)) all)
