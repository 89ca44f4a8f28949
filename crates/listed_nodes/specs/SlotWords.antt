-- The slots of a node, and the marks of the server that answers.
use Rattle.std.specs.Prelude.{ℕ, cond, ◌==◌, nat_lt, List, [], ◌∷◌, Option, None, Some, codes}
use Rattle.byte_texts.specs.Parts.{parts}
use Rattle.byte_texts.specs.Words.{is}
use Rattle.key_slots.specs.Numbers.{slot_in}
use Rattle.listed_nodes.specs.Names.{closed_name_in, if_there}
use Rattle.listed_nodes.specs.declared.slot_word.SlotWord.{SlotWord}
use Rattle.listed_nodes.specs.declared.slot_word.SlotWord.TheVariants.{Slots, Migrating, Importing}

abbrev pub opened_slot_in : List ℕ → Option ℕ
opened_slot_in [] = None
opened_slot_in (b ∷ t) = cond (b == 91) (slot_in t) None

abbrev pub mark_of : (arrow : List ℕ) (slot : ℕ) (name : List ℕ) → Option SlotWord
mark_of arrow slot name =
    cond (is (codes ">") arrow) (Some (Migrating slot name))
    (cond (is (codes "<") arrow) (Some (Importing slot name)) None)

-- `S`, `S-S` with the lower one first, `[S->-ID]` or `[S-<-ID]`, of which these are the parts between the `-`
abbrev pub slot_word_in : List (List ℕ) → Option SlotWord
slot_word_in [] = None
slot_word_in (one ∷ []) = if_there (slot_in one) (λ s. Some (Slots s s))
slot_word_in (first ∷ (last ∷ [])) =
    if_there (slot_in first) (λ a. if_there (slot_in last) (λ b. cond (nat_lt a b) (Some (Slots a b)) None))
slot_word_in (slot ∷ (arrow ∷ (name ∷ []))) =
    if_there (opened_slot_in slot) (λ s. if_there (closed_name_in name) (λ n. mark_of arrow s n))
slot_word_in (a ∷ (b ∷ (c ∷ (d ∷ more)))) = None

abbrev pub slot_words_in : List (List ℕ) → Option (List SlotWord)
slot_words_in [] = Some []
slot_words_in (w ∷ ws) =
    if_there (slot_word_in (parts 45 w)) (λ first. if_there (slot_words_in ws) (λ rest. Some (first ∷ rest)))
