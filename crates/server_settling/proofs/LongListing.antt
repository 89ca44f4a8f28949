-- A long list of keys is the listing that the array of its keys is.
use Rattle.std.proofs.Common.{◌≡◌, ◌∙◌, ℕ, List, [], ◌∷◌, Option, Some, None, Ok, Err, ap, sym, subst, refl, inl}
use Rattle.std.specs.Prelude.{IsPermutation, IsSorted, option_map}
use Rattle.std.specs.Ordering.{nat_cmp}
use Rattle.std.specs.Cmp.Lexicographic.{slice_cmp}
use Rattle.cluster_admin.specs.declared.admin.AdminReply.TheVariants as admin
use Rattle.resp2_wire.specs.declared.reply.Reply.TheVariants as reply
use Rattle.server_commands.specs.Answers.{IsListed, texts_of}
use Rattle.server_commands.specs.declared.answers.Answered.TheVariants as told
use Rattle.server_links.specs.LongLists.{bulks}
use Rattle.server_settling.specs.Listing.{Lists, few_in}
use Rattle.server_settling.specs.Stops.{stop_by}
use Rattle.server_settling.specs.declared.fault.SettleFault.TheVariants as fault

texts_of-bulks : (ts : List (List ℕ)) → texts_of (bulks ts) ≡ Some ts
texts_of-bulks [] = refl
texts_of-bulks (t ∷ ts) = ap (λ o. option_map (λ us. t ∷ us) o) (texts_of-bulks ts)

told_keys : (ts ks : List (List ℕ)) → IsPermutation ts ks → IsSorted (slice_cmp nat_cmp) ks
    → IsListed (texts_of (bulks ts)) (told.Reply (admin.Keys ks))
told_keys ts ks same ascending =
    subst (λ o. IsListed o (told.Reply (admin.Keys ks))) (sym (texts_of-bulks ts)) (same, ascending)

pub few_listed : (n slot most : ℕ) (ts ks found : List (List ℕ)) → IsPermutation ts ks → IsSorted (slice_cmp nat_cmp) ks
    → few_in most ks ≡ Some found → Lists n slot most (reply.Array (bulks ts)) (Ok found)
few_listed n slot most ts ks found same ascending few =
    (told.Reply (admin.Keys ks), told_keys ts ks same ascending, few)

pub too_many_listed : (n slot most : ℕ) (ts ks : List (List ℕ)) → IsPermutation ts ks → IsSorted (slice_cmp nat_cmp) ks
    → few_in most ks ≡ None → Lists n slot most (reply.Array (bulks ts)) (Err (stop_by (fault.Strange n)))
too_many_listed n slot most ts ks same ascending few =
    inl (told.Reply (admin.Keys ks), told_keys ts ks same ascending, few, refl)
