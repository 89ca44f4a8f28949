-- The program's tables are the definition's, and their texts are short.
use Rattle.std.proofs.Common.{◌≡◌, ℕ, ◌+◌, ◌<◌, ◌≤◌, Bool, true, false, ◌&&◌, cond, List, [], ◌∷◌, ◌++◌, map, length}
use Rattle.std.proofs.Common.{get_or, zero, suc, take, Option, Some, None, option_map, refl, ap, ◌∙◌, sym, arith}
use Rattle.std.proofs.lemmas.List.{take_all, length-map, length-append, map-append}
use Rattle.std.proofs.lemmas.Bool.{leb-true, and_parts}
use Rattle.std.proofs.Math.Dec.{leb}
use Rattle.std.proofs.lemmas.List.Concat.{flat_map-append}
use Rattle.std.proofs.lemmas.List.Folds.{flat_map-map, find-append}
use Rattle.std.proofs.lemmas.Simd.{map-map}
use Rattle.std.specs.Prelude.{IfSome}
use Rattle.std.specs.Borrow.{Bor}
use Rattle.std.specs.List.{find, flat_map, list_all}
use Rattle.std.specs.Option.{option_copied, option_or}
use Rattle.std.specs.Str.{str_eq_ignore_ascii_case}
use Rattle.client_commands.specs.Rows.{row}
use Rattle.client_commands.specs.Table.{Row, rows, row_of}
use Rattle.client_commands.specs.declared.table.CommandRow as client
use Rattle.command_list.specs.Entries.{Entry}
use Rattle.command_list.specs.Listing.{command, questions, by_itself, listed, entry_of}
use Rattle.resp2_wire.specs.View.{trees}
use Rattle.resp2_wire.specs.declared.reply.Reply.{Reply}
use Rattle.resp2_wire.specs.declared.reply.Reply.TheVariants.{Array}
use Rattle.command_list.specs.Replies.{entry, command_reply, page_of, all_pages}
use Rattle.command_list.specs.Shown.{of_command, shown, first_named, IsShort}
use Rattle.command_list.specs.declared.listed.Listed as program

abbrev is_short_text : List ℕ → Bool
is_short_text t = leb (length t) 1000

abbrev is_short : Entry → Bool
is_short e =
    is_short_text e.text && (is_short_text e.page.group && (is_short_text e.page.since && is_short_text e.page.summary))

all_short : list_all is_short listed ≡ true
unfolding listed rows
all_short = refl

clients_short : list_all is_short (map command rows) ≡ true
unfolding rows
clients_short = refl

questions_short : list_all is_short (questions ++ by_itself) ≡ true
questions_short = refl

short : (e : Entry) → is_short e ≡ true → IsShort e
short e h =
    let t = and_parts (is_short_text e.text) _ h in
    let g = and_parts (is_short_text e.page.group) _ t.1 in
    let s = and_parts (is_short_text e.page.since) (is_short_text e.page.summary) g.1 in
    record {
      text = leb-true _ _ t.0;
      group = leb-true _ _ g.0;
      since = leb-true _ _ s.0;
      summary = leb-true _ _ s.1;
    }

-- what all entries pass, one that is read passes, and one that is found
at_place : {A : Type 0} (f : A → Entry) (p : Entry → Bool) (xs : List A) (i : ℕ) (d : A) → list_all p (map f xs) ≡ true
    → i < length xs → p (f (get_or xs i d)) ≡ true
at_place f p [] i d all within = absurd (omega arith)
at_place f p (x ∷ xs) zero d all within = (and_parts (p (f x)) _ all).0
at_place f p (x ∷ xs) (suc i) d all within = at_place f p xs i d (and_parts (p (f x)) _ all).1 (omega arith)

found : (p q : Entry → Bool) (es : List Entry) → list_all p es ≡ true → IfSome (find q es) (λ e. p e ≡ true)
found p q [] all = tt
found p q (e ∷ es) all = chosen (q e) (and_parts (p e) _ all).0 (found p q es (and_parts (p e) _ all).1)
  where
    chosen : (b : Bool) → p e ≡ true → IfSome (find q es) (λ e. p e ≡ true)
        → IfSome (cond b (Some e) (find q es)) (λ e. p e ≡ true)
    chosen true here rest = here
    chosen false here rest = rest

-- the rows of the commands of clients are told as the definition tells them
of_rows : (xs : List client.CommandRow) → map row xs ≡ rows → map of_command xs ≡ map command rows
of_rows xs same = sym (map-map command row xs) ∙ ap (map command) same

pub short_client : (xs : List client.CommandRow) (i : ℕ) (d : client.CommandRow) → map row xs ≡ rows → i < length xs
    → IsShort (of_command (get_or xs i d))
short_client xs i d same within =
    let all : list_all is_short (map of_command xs) ≡ true = ap (list_all is_short) (of_rows xs same) ∙ clients_short in
    short (of_command (get_or xs i d)) (at_place of_command is_short xs i d all within)

pub short_question : (xs : List program.Listed) (i : ℕ) (d : program.Listed) → map shown xs ≡ questions ++ by_itself
    → i < length xs → IsShort (shown (get_or xs i d))
short_question xs i d same within =
    let all : list_all is_short (map shown xs) ≡ true = ap (list_all is_short) same ∙ questions_short in
    short (shown (get_or xs i d)) (at_place shown is_short xs i d all within)

pub count : (xs : List client.CommandRow) (ys : List program.Listed) → map row xs ≡ rows
    → map shown ys ≡ questions ++ by_itself → length xs + length ys ≡ length listed
unfolding listed
count xs ys same asked =
    let n : length xs ≡ length (map command rows) = sym (length-map xs of_command) ∙ ap length (of_rows xs same) in
    let m : length ys ≡ length (questions ++ by_itself) = sym (length-map ys shown) ∙ ap length asked in
    let all = length-append (map command rows) (questions ++ by_itself) in
    omega (arith, n, m, all)

pub total : length listed ≡ 47
unfolding listed rows
total = refl

-- ---- the command of a name

find_mapped : {A : Type 0} (f : A → Entry) (p : Entry → Bool) (xs : List A)
    → find p (map f xs) ≡ option_map f (find (λ x. p (f x)) xs)
find_mapped f p [] = refl
find_mapped f p (x ∷ xs) = chosen (p (f x)) (find_mapped f p xs)
  where
    chosen : (b : Bool) → find p (map f xs) ≡ option_map f (find (λ x. p (f x)) xs)
        → cond b (Some (f x)) (find p (map f xs)) ≡ option_map f (cond b (Some x) (find (λ x. p (f x)) xs))
    chosen true rest = refl
    chosen false rest = rest

abbrev asked_named : List ℕ → Option Entry
asked_named word = find (λ e. str_eq_ignore_ascii_case word e.text) (questions ++ by_itself)

-- it is a client's, or else a question
parted : (word : List ℕ) → entry_of word ≡ option_or (option_map command (row_of word)) (asked_named word)
unfolding entry_of listed row_of
parted word =
    find-append (λ e. str_eq_ignore_ascii_case word e.text) (map command rows) (questions ++ by_itself)
    ∙ ap (λ o. option_or o (asked_named word)) (find_mapped command (λ e. str_eq_ignore_ascii_case word e.text) rows)

copied : (q : Option (Bor program.Listed)) → option_copied q ≡ option_map (λ r. r.now) q
copied None = refl
copied (Some r) = refl

pub named_client : (word : List ℕ) (o : Option (Bor client.CommandRow)) (r : Bor client.CommandRow)
    → option_map (λ r. row r.now) o ≡ row_of word → o ≡ Some r → Some (of_command r.now) ≡ entry_of word
named_client word o r is some =
    let here : row_of word ≡ Some (row r.now) = sym is ∙ ap (option_map (λ r. row r.now)) some in
    sym (parted word ∙ ap (λ o. option_or (option_map command o) (asked_named word)) here)

pub named_question : (word : List ℕ) (o : Option (Bor client.CommandRow)) (xs : List program.Listed)
    (q : Option (Bor program.Listed)) → option_map (λ r. row r.now) o ≡ row_of word → o ≡ None
    → map shown xs ≡ questions ++ by_itself → option_map (λ r. r.now) q ≡ first_named word xs
    → option_map shown (option_copied q) ≡ entry_of word
unfolding first_named
named_question word o xs q is none same found =
    let gone : row_of word ≡ None = sym is ∙ ap (option_map (λ r. row r.now)) none in
    ap (option_map shown) (copied q ∙ found) ∙ sym (find_mapped shown (λ e. str_eq_ignore_ascii_case word e.text) xs)
    ∙ ap (find (λ e. str_eq_ignore_ascii_case word e.text)) same
    ∙ sym (parted word ∙ ap (λ o. option_or (option_map command o) (asked_named word)) gone)

all_found : (word : List ℕ) → IfSome (entry_of word) (λ e. is_short e ≡ true)
unfolding entry_of
all_found word = found is_short (λ e. str_eq_ignore_ascii_case word e.text) listed all_short

short_some : (o : Option program.Listed) (e : Option Entry) → option_map shown o ≡ e
    → IfSome e (λ x. is_short x ≡ true) → IfSome o (λ r. IsShort (shown r))
short_some None e same all = tt
short_some (Some r) None same all = absurd (cc)
short_some (Some r) (Some x) same all = short (shown r) (let same' : shown r ≡ x = cc in ap is_short same' ∙ all)

pub short_found : (word : List ℕ) (o : Option program.Listed) → option_map shown o ≡ entry_of word
    → IfSome o (λ r. IsShort (shown r))
short_found word o same = short_some o (entry_of word) same (all_found word)

-- ---- the loops over the tables

pub client_entries : (xs : List client.CommandRow) (items : List Reply) (n : ℕ) → map row xs ≡ rows → length xs ≤ n
    → items ≡ map (λ r. entry (of_command r)) (take n xs) → items ≡ map entry (map command rows)
client_entries xs items n same past is =
    is ∙ ap (map (λ r. entry (of_command r))) (take_all n xs past) ∙ sym (map-map entry of_command xs)
    ∙ ap (map entry) (of_rows xs same)

pub all_entries : (xs : List program.Listed) (items : List Reply) (n : ℕ) → map shown xs ≡ questions ++ by_itself
    → length xs ≤ n → items ≡ map entry (map command rows) ++ map (λ r. entry (shown r)) (take n xs)
    → Array (trees items) ≡ command_reply
unfolding command_reply listed
all_entries xs items n same past is =
    let asked : map (λ r. entry (shown r)) (take n xs) ≡ map entry (questions ++ by_itself) =
    ap (map (λ r. entry (shown r))) (take_all n xs past) ∙ sym (map-map entry shown xs) ∙ ap (map entry) same in
    let told : items ≡ map entry listed =
    is ∙ ap (λ es. map entry (map command rows) ++ es) asked
    ∙ sym (map-append entry (map command rows) (questions ++ by_itself)) in
    ap (λ rs. Array (trees rs)) told

pub client_pages : (xs : List client.CommandRow) (items : List Reply) (n : ℕ) → map row xs ≡ rows → length xs ≤ n
    → items ≡ flat_map (λ r. page_of (of_command r)) (take n xs) → items ≡ flat_map page_of (map command rows)
client_pages xs items n same past is =
    is ∙ ap (flat_map (λ r. page_of (of_command r))) (take_all n xs past) ∙ sym (flat_map-map page_of of_command xs)
    ∙ ap (flat_map page_of) (of_rows xs same)

pub all_told : (xs : List program.Listed) (items : List Reply) (n : ℕ) → map shown xs ≡ questions ++ by_itself
    → length xs ≤ n → items ≡ flat_map page_of (map command rows) ++ flat_map (λ r. page_of (shown r)) (take n xs)
    → Array (trees items) ≡ all_pages
unfolding all_pages listed
all_told xs items n same past is =
    let asked : flat_map (λ r. page_of (shown r)) (take n xs) ≡ flat_map page_of (questions ++ by_itself) =
    ap (flat_map (λ r. page_of (shown r))) (take_all n xs past) ∙ sym (flat_map-map page_of shown xs)
    ∙ ap (flat_map page_of) same in
    let told : items ≡ flat_map page_of listed =
    is ∙ ap (λ ps. flat_map page_of (map command rows) ++ ps) asked
    ∙ sym (flat_map-append page_of (map command rows) (questions ++ by_itself)) in
    ap (λ rs. Array (trees rs)) told
