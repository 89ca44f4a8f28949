-- HELLO (the page of HELLO): only version 2 of the protocol is spoken, and there is no user but `default`, whose
-- password is any.
use Rattle.std.specs.Prelude.{ℕ, ◌==◌, Bool, false, cond, List, [], ◌∷◌, ◌++◌, Option, Some, None, ℤ, pos, negsuc}
use Rattle.std.specs.Prelude.{codes, unwrap_or}
use Rattle.byte_texts.specs.Words.{is}
use Rattle.resp2_wire.specs.Stream.{Words}
use Rattle.resp2_wire.specs.View.{trees}
use Rattle.resp2_wire.specs.declared.reply.Reply.{Reply}
use Rattle.resp2_wire.specs.declared.reply.Reply.TheVariants.{Error, Number, Bulk, Array}
use Rattle.typed_values.specs.Numbers.{number}
use Rattle.client_questions.specs.Refusals.{is_word, quoted}
use Rattle.client_questions.specs.Client.{is_name, bad_name, told_id}

abbrev pub wrong_password : Reply
wrong_password = Error (codes "WRONGPASS invalid username-password pair or user is disabled.")

abbrev pub not_a_version : Reply
not_a_version = Error (codes "ERR Protocol version is not an integer or out of range")

abbrev pub no_protocol : Reply
no_protocol = Error (codes "NOPROTO unsupported protocol version")

unfoldable pub syntax_in : List ℕ → Reply
syntax_in option = Error (codes "ERR Syntax error in HELLO option '" ++ quoted 960 option ++ codes "'")

-- what the options come to: the last name that was set, and the refusal of the first option that is wrong
pub record OptionsEnd : Type 0 where
  pub name : Option (List ℕ)
  pub refusal : Option Reply

abbrev pub ends : Option (List ℕ) → Option Reply → OptionsEnd
ends n r = record { name = n; refusal = r }

unfoldable pub options_end : Option (List ℕ) → Words → OptionsEnd
options_end name [] = ends name None
options_end name (option ∷ []) = ends name (Some (syntax_in option))
options_end name (option ∷ a ∷ []) =
    cond (is_word option (codes "auth")) (ends name (Some (syntax_in option)))
    (cond (is_word option (codes "setname"))
    (cond (is_name a) (ends (Some a) None) (ends name (Some bad_name))) (ends name (Some (syntax_in option))))
options_end name (option ∷ a ∷ b ∷ more) =
    cond (is_word option (codes "auth"))
    (cond (is (codes "default") a) (options_end name more) (ends name (Some wrong_password)))
    (cond (is_word option (codes "setname"))
    (cond (is_name a) (options_end (Some a) (b ∷ more)) (ends name (Some bad_name)))
    (ends name (Some (syntax_in option))))

unfoldable pub greeting : ℕ → Reply
greeting id =
    Array (trees (
    Bulk (codes "server") ∷ Bulk (codes "redis") ∷ Bulk (codes "version") ∷ Bulk (codes "7.0.15") ∷
    Bulk (codes "proto") ∷ Number (pos 2) ∷ Bulk (codes "id") ∷ told_id id ∷ Bulk (codes "mode") ∷
    Bulk (codes "cluster") ∷ Bulk (codes "role") ∷ Bulk (codes "master") ∷ Bulk (codes "modules")
    ∷ Array (trees []) ∷ []))

abbrev pub or_greeting : ℕ → Option Reply → Reply
or_greeting id None = greeting id
or_greeting id (Some reply) = reply

abbrev is_two : ℤ → Bool
is_two (pos n) = n == 2
is_two (negsuc n) = false

-- why a version is not spoken, if it is none that is
abbrev pub version_refusal : Option ℤ → Option Reply
version_refusal None = Some not_a_version
version_refusal (Some z) = cond (is_two z) None (Some no_protocol)

abbrev end_or : Option Reply → OptionsEnd → OptionsEnd
end_or None e = e
end_or (Some refusal) e = ends None (Some refusal)

-- with no words HELLO asks for the version that is spoken
unfoldable pub hello_end : Words → OptionsEnd
hello_end [] = ends None None
hello_end (version ∷ options) = end_or (version_refusal (number version)) (options_end None options)

abbrev pub hello_reply : (id : ℕ) → Words → Reply
hello_reply id words = or_greeting id (hello_end words).refusal

-- a name that was set before a wrong option stays
abbrev pub name_after_hello : List ℕ → Words → List ℕ
name_after_hello old words = unwrap_or (hello_end words).name old
