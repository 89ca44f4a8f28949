-- Servers that are looked up by their IDs, and what lines tell of each of them.
use Rattle.std.proofs.Common.{◌≡◌, ◌≢◌, ℕ, ◌+◌, ◌<◌, ◌≤◌, min, nat_lt, eqb, ◌==◌, Bool, true, false, cond, ◌&&◌}
use Rattle.std.proofs.Common.{List, [], ◌∷◌, ◌++◌, length, take, get_or, map, position, Bor, Vec, Global}
use Rattle.std.proofs.Common.{Option, None, Some, IfSome, is_none, is_some, option_copied, option_map}
use Rattle.std.proofs.Common.{refl, sym, ap, ◌∙◌, arith}
use Rattle.std.specs.BTreeMap.{insert_entry, is_at}
use Rattle.std.specs.Cmp.{eq_by_cmp_equiv}
use Rattle.std.specs.Cmp.Lexicographic.{nat_list_cmp_total, same_text, slice_cmp, texts_ties}
use Rattle.std.specs.FinMap.{find, put}
use Rattle.std.specs.FinMap.Entries.{by_order, find-put}
use Rattle.std.specs.List.{position_or_len}
use Rattle.std.specs.Map.{lookup}
use Rattle.std.specs.Option.{option_or}
use Rattle.std.specs.Ordering.{eq_by_cmp, is_eq, match_ordering, nat_cmp}
use Rattle.std.specs.Prelude.{unwrap_or}
use Rattle.std.specs.declared.cmp.Ordering.{Ordering}
use Rattle.std.specs.declared.cmp.Ordering.TheVariants.{Less, Equal, Greater}
use Rattle.std.proofs.lemmas.Bool.{eq-eqb, ne_eqb}
use Rattle.std.proofs.lemmas.Bool.Decides.{nat_tests}
use Rattle.std.proofs.lemmas.List.{get_or_default, length-append, length-take, take_more}
use Rattle.std.proofs.lemmas.List.Folds.{position_or_len_push}
use Rattle.std.proofs.lemmas.List.FromFn.{get_or-map-range_with_len, length-map-range_with_len}
use Rattle.std.proofs.lemmas.List.Quantifiers.{position-Some}
use Rattle.std.proofs.lemmas.List.Sums.{fails_before_first, prefix_len-le-length}
use Rattle.byte_texts.specs.Words.{is}
use Rattle.listed_nodes.specs.declared.node_line.NodeLine.{NodeLine}
use Rattle.server_commands.specs.Servers.{nobody, server_at}
use Rattle.server_commands.specs.declared.book.Server.{Server}
use Rattle.cluster_views.specs.Naming.{AreToldIn, Numbers, epoch_told, number_at, told_by, told_if}
use Rattle.cluster_views.specs.Numbers.{first_given, numbers_to}
use Rattle.cluster_views.specs.Surveying.{Views, epoch_at, epoch_in, epochs_of, other_epoch, same_epoch, view_at}
use Rattle.cluster_views.specs.Views.{line_about, number_of, unaware_fault}
use Rattle.cluster_views.specs.declared.fault.SurveyFault.{SurveyFault}
use Rattle.cluster_views.specs.declared.fault.SurveyFault.TheVariants.{OtherEpoch, SameEpoch, Unaware}

-- ---- the map of numbers by IDs

abbrev order : List ℕ → List ℕ → Ordering
order = slice_cmp nat_cmp

abbrev pub key_order : Vec ℕ Global → Vec ℕ Global → Ordering
key_order x y = slice_cmp nat_cmp x.items y.items

abbrev Entries : Type 0
Entries = List (Vec ℕ Global × ℕ)

abbrev pairs_of : Entries → List (List ℕ × ℕ)
pairs_of es = map (λ e. (e.0.items, e.1)) es

at_text : (q : List ℕ) (es : Entries)
    → find order q (pairs_of es) ≡ lookup (is_at (λ k. slice_cmp nat_cmp q k.items)) es
at_text q [] = refl
at_text q (e ∷ es) = ap (cond (is_eq (order q e.0.items)) (Some e.1)) (at_text q es)

put_pair : (es : Entries) (k : Vec ℕ Global) (v : ℕ)
    → pairs_of (insert_entry key_order es k v) ≡ put order k.items v (pairs_of es)
put_pair [] k v = refl
put_pair (e ∷ es) k v =
    elim (order k.items e.0.items)
    as (λ r. pairs_of (match_ordering r ((k, v) ∷ e ∷ es) ((e.0, v) ∷ es) (e ∷ insert_entry key_order es k v))
    ≡ by_order r ((k.items, v) ∷ (e.0.items, e.1) ∷ pairs_of es) ((e.0.items, v) ∷ pairs_of es)
    ((e.0.items, e.1) ∷ put order k.items v (pairs_of es)))
    [ Less ↦ refl | Equal ↦ refl | Greater ↦ ap (λ r. (e.0.items, e.1) ∷ r) (put_pair es k v) ]

same_test : (xs ys : List ℕ) → eq_by_cmp order xs ys ≡ is xs ys
same_test xs ys = (eq_by_cmp_equiv nat_list_cmp_total).symm xs ys ∙ sym (texts_ties ys xs)

-- what stands at an ID, once a number was put at another or the same
pub number_put : (m n : Numbers) (k : Vec ℕ Global) (v : ℕ) (name : List ℕ)
    → n.entries ≡ insert_entry key_order m.entries k v → k.items ≡ name → (other : List ℕ)
    → number_at n other ≡ cond (is other name) (Some v) (number_at m other)
number_put m n k v name put same other =
    sym (at_text other n.entries)
    ∙ ap (λ (es : Entries). find order other (pairs_of es)) put
    ∙ ap (find order other) (put_pair m.entries k v)
    ∙ find-put order nat_list_cmp_total other k.items v (pairs_of m.entries)
    ∙ ap (cond (eq_by_cmp order other k.items) (Some v)) (at_text other m.entries)
    ∙ ap (λ b. cond b (Some v) (number_at m other)) (same_test other k.items ∙ ap (is other) same)

is_itself : (name : List ℕ) → is name name ≡ true
is_itself name = sym (same_test name name) ∙ (eq_by_cmp_equiv nat_list_cmp_total).refl name

put_first : (o : Option ℕ) (b : Bool) (v : ℕ) → (b ≡ true → o ≡ None)
    → cond b (Some v) o ≡ option_or o (cond b (Some v) None)
put_first o true v none = rw (none refl) refl
put_first None false v none = refl
put_first (Some m) false v none = refl

is_nothing : (o : Option ℕ) → is_none o ≡ true → o ≡ None
is_nothing None e = refl
is_nothing (Some m) e = absurd cc

-- what `get` gave
pub nothing_got : (r : Option (Bor ℕ)) (o : Option ℕ) → option_copied r ≡ o → is_some r ≡ false → is_none o ≡ true
nothing_got None o got none = ap is_none (sym got)
nothing_got (Some x) o got none = absurd cc

-- where nothing stood at the ID, its number stands there now
pub noted : (m n : Numbers) (k : Vec ℕ Global) (v : ℕ) (name : List ℕ)
    → n.entries ≡ insert_entry key_order m.entries k v → k.items ≡ name → is_none (number_at m name) ≡ true
    → (other : List ℕ) → number_at n other ≡ option_or (number_at m other) (cond (is other name) (Some v) None)
noted m n k v name put same none other =
    number_put m n k v name put same other
    ∙ put_first (number_at m other) (is other name) v
    (λ e. ap (number_at m) (sym (same_text name other (sym e))) ∙ is_nothing (number_at m name) none)

-- ---- the first server with an ID

position_push : {A : Type 0} (f : A → Bool) (xs : List A) (y : A)
    → position f (xs ++ y ∷ []) ≡ option_or (position f xs) (cond (f y) (Some (length xs)) None)
position_push f xs y =
    by (position_or_len f xs) (f y) (position_or_len f (xs ++ y ∷ [])) (length (xs ++ y ∷ []))
    (prefix_len-le-length _ xs) (length-append xs (y ∷ [])) (position_or_len_push f xs y)
  where
    by : (p : ℕ) (b : Bool) (q m : ℕ) → p ≤ length xs → m ≡ length xs + 1
        → q ≡ cond (eqb p (length xs)) (length xs + cond b 0 1) p
        → cond (nat_lt q m) (Some q) None
        ≡ option_or (cond (nat_lt p (length xs)) (Some p) None) (cond b (Some (length xs)) None)
    by p b q m le count is = grind (arith, nat_tests)

-- the server i is the next one
number_more : (b : List Server) (i : ℕ) (s : Server) (name : List ℕ) → i < length b → s ≡ server_at b i
    → number_of (take (i + 1) b) name ≡ option_or (number_of (take i b) name) (cond (is name s.name) (Some i) None)
number_more b i s name lt here =
    let f : Server → Bool = λ x. is name x.name in
    let len : length (take i b) ≡ i = length-take i b ∙ least i (length b) lt in
    ap (position f) (take_more b i s lt ∙ ap (λ x. take i b ++ x ∷ []) (get_or_default b i s nobody lt ∙ sym here))
    ∙ position_push f (take i b) s
    ∙ ap (λ n. option_or (number_of (take i b) name) (cond (is name s.name) (Some n) None)) len
  where
    least : (i n : ℕ) → i < n → min i n ≡ i
    least i n lt = omega arith

-- as the program goes over the servers
pub next_noted : (b : List Server) (i node : ℕ) (s : Server) (key : List ℕ) (old new : Option ℕ) (name : List ℕ)
    → i < length b → node ≡ i → s ≡ server_at b node → key ≡ s.name → old ≡ number_of (take i b) name
    → new ≡ option_or old (cond (is name key) (Some node) None) → new ≡ number_of (take (i + 1) b) name
next_noted b i node s key old new name lt same here its before put =
    put
    ∙ ap (λ o. option_or o (cond (is name key) (Some node) None)) before
    ∙ ap (λ t. option_or (number_of (take i b) name) (cond (is name t) (Some node) None)) its
    ∙ ap (λ n. option_or (number_of (take i b) name) (cond (is name s.name) (Some n) None)) same
    ∙ sym (number_more b i s name lt (here ∙ ap (server_at b) same))

pub within_book : (b : List Server) (name : List ℕ) (o : Option ℕ) → o ≡ number_of b name
    → IfSome o (λ m. m < length b)
within_book b name None e = tt
within_book b name (Some m) e = (position-Some (λ s. is name s.name) b m nobody (sym e)).0

-- its ID is that of the server which is found by it
found_name : (b : List Server) (name : List ℕ) (k : ℕ) → number_of b name ≡ Some k → (server_at b k).name ≡ name
found_name b name k e =
    same_text (server_at b k).name name (sym (position-Some (λ s. is name s.name) b k nobody e).1)

-- each server is found by its own ID, or the first with the same
own_number : (b : List Server) (m : ℕ) → m < length b → number_of b (server_at b m).name ≢ None
own_number b m lt e =
    let name = (server_at b m).name in
    let far : length b ≤ position_or_len (λ (s : Server). is name s.name) b = grind (arith, nat_tests) in
    let none : is name name ≡ false = fails_before_first (λ (s : Server). is name s.name) b m nobody (omega arith) in
    let some : is name name ≡ true = is_itself name in
    absurd cc

pub no_number : (b : List Server) (m : ℕ) (s : Server) (name : List ℕ) → m < length b → s ≡ server_at b m
    → name ≡ s.name → None ≡ number_of b name → ⊥
no_number b m s name lt here its none =
    own_number b m lt (ap (number_of b) (sym (its ∙ ap (λ (x : Server). x.name) here)) ∙ sym none)

-- ---- the first line about a server

-- the line is one about the server exactly if its ID leads to the same number
told_line : (b : List Server) (name : List ℕ) (k : ℕ) (l : NodeLine) → number_of b name ≡ Some k
    → told_by b k l ≡ cond (l.is_master && is l.name name) (Some l.epoch) None
told_line b name k l e = by l.is_master (is l.name name) (number_of b l.name) refl refl
  where
    same : is l.name name ≡ true → number_of b l.name ≡ Some k
    same t = ap (number_of b) (sym (same_text name l.name (sym t))) ∙ e

    by : (master t : Bool) (o : Option ℕ) → is l.name name ≡ t → number_of b l.name ≡ o
        → cond master (told_if k l.epoch o) None ≡ cond (master && t) (Some l.epoch) None
    by false t o one two = refl
    by true true o one two =
        ap (told_if k l.epoch) (sym two ∙ same one) ∙ ap (λ c. cond c (Some l.epoch) None) (eq-eqb k k refl)
    by true false None one two = refl
    by true false (Some j) one two = ap (λ c. cond c (Some l.epoch) None) (ne_eqb k j (λ (i : k ≡ j).
        let names : name ≡ l.name = sym (found_name b name k e) ∙ ap (λ n. (server_at b n).name) i
        ∙ found_name b l.name j two in
        let t : is l.name name ≡ true = ap (is l.name) names ∙ is_itself l.name in
        absurd cc))

epoch_if : (c : Bool) (l : NodeLine) (o : Option NodeLine)
    → option_or (cond c (Some l.epoch) None) (option_map (λ (x : NodeLine). x.epoch) o)
    ≡ option_map (λ (x : NodeLine). x.epoch) (cond c (Some l) o)
epoch_if true l o = refl
epoch_if false l o = refl

told_of : (b : List Server) (s : Server) (k : ℕ) → number_of b s.name ≡ Some k → (ls : List NodeLine)
    → first_given (told_by b k) ls ≡ epoch_told s ls
told_of b s k e [] = refl
told_of b s k e (l ∷ ls) =
    ap (λ o. option_or o (first_given (told_by b k) ls)) (told_line b s.name k l e)
    ∙ ap (option_or (cond (l.is_master && is l.name s.name) (Some l.epoch) None)) (told_of b s k e ls)
    ∙ epoch_if (l.is_master && is l.name s.name) l (line_about s ls)

-- what is read of the node's place is what the lines tell of it
pub read_told : (b : List Server) (m k j : ℕ) (s : Server) (name : List ℕ) (ls : List NodeLine) (row : List (Option ℕ))
    → AreToldIn b ls row → s ≡ server_at b m → name ≡ s.name → Some k ≡ number_of b name → j ≡ k
    → get_or row j None ≡ epoch_told (server_at b m) ls
read_told b m k j s name ls row told here its found same =
    let e : number_of b (server_at b m).name ≡ Some k =
    ap (number_of b) (sym (its ∙ ap (λ (x : Server). x.name) here)) ∙ sym found in
    ap (λ i. get_or row i None) same
    ∙ told.epochs k (position-Some (λ x. is (server_at b m).name x.name) b k nobody e).0
    ∙ told_of b (server_at b m) k e ls

-- ---- what stands in the faults

none_told : (o : Option NodeLine) → is_none (option_map (λ (l : NodeLine). l.epoch) o) ≡ is_none o
none_told None = refl
none_told (Some l) = refl

pub unaware_is : (b : List Server) (at node : ℕ) (ls : List NodeLine) (told : Option ℕ) (o : Option SurveyFault)
    → told ≡ epoch_told (server_at b node) ls → o ≡ cond (is_none told) (Some (Unaware at node)) None
    → o ≡ unaware_fault b at ls node
unaware_is b at node ls told o same gives =
    gives ∙ ap (λ c. cond c (Some (Unaware at node)) None)
    (ap is_none same ∙ none_told (line_about (server_at b node) ls))

epoch_or : (o : Option NodeLine) → unwrap_or (option_map (λ (l : NodeLine). l.epoch) o) 0 ≡ epoch_in o
epoch_or None = refl
epoch_or (Some l) = refl

-- there is an epoch of each node
pub epochs_count : (b : List Server) (views : Views) (epochs : List ℕ) → epochs ≡ epochs_of b views
    → length epochs ≡ length b
unfolding numbers_to
epochs_count b views epochs e =
    ap length e ∙ length-map-range_with_len (λ m. epoch_at b views m m) 0 (length b)

own_read : (b : List Server) (views : Views) (epochs : List ℕ) (j node : ℕ) → epochs ≡ epochs_of b views
    → node < length b → j ≡ node → get_or epochs j 0 ≡ epoch_at b views node node
unfolding numbers_to
own_read b views epochs j node e lt same =
    ap (λ (xs : List ℕ). get_or xs j 0) e
    ∙ ap (λ k. get_or (epochs_of b views) k 0) same
    ∙ get_or-map-range_with_len (λ m. epoch_at b views m m) 0 (length b) node node 0 lt (omega arith)

pub other_is : (b : List Server) (views : Views) (epochs : List ℕ) (at node j : ℕ) (told : Option ℕ)
    (o : Option SurveyFault) → epochs ≡ epochs_of b views → node < length b → j ≡ node
    → told ≡ epoch_told (server_at b node) (view_at views at)
    → o ≡ cond (unwrap_or told 0 == get_or epochs j 0) None (Some (OtherEpoch at node))
    → o ≡ other_epoch b views at node
other_is b views epochs at node j told o e lt same is_told gives =
    gives
    ∙ ap (λ x. cond (x == get_or epochs j 0) None (Some (OtherEpoch at node)))
    (ap (λ t. unwrap_or t 0) is_told ∙ epoch_or (line_about (server_at b node) (view_at views at)))
    ∙ ap (λ x. cond (epoch_at b views at node == x) None (Some (OtherEpoch at node)))
    (own_read b views epochs j node e lt same)

pub same_is : (b : List Server) (views : Views) (epochs : List ℕ) (other node i j : ℕ) (o : Option SurveyFault)
    → epochs ≡ epochs_of b views → other < length b → node < length b → i ≡ other → j ≡ node
    → o ≡ cond (nat_lt node other && get_or epochs j 0 == get_or epochs i 0) (Some (SameEpoch node other)) None
    → o ≡ same_epoch b views other node
same_is b views epochs other node i j o e lto ltn same_o same_n gives =
    gives
    ∙ ap (λ x. cond (nat_lt node other && x == get_or epochs i 0) (Some (SameEpoch node other)) None)
    (own_read b views epochs j node e ltn same_n)
    ∙ ap (λ x. cond (nat_lt node other && epoch_at b views node node == x) (Some (SameEpoch node other)) None)
    (own_read b views epochs i other e lto same_o)
