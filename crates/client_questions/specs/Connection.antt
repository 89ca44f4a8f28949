-- SELECT, ECHO, READONLY, READWRITE and AUTH (the pages of these commands): a cluster has the one database 0.
use Rattle.std.specs.Prelude.{ℕ, ◌==◌, nat_lt, Bool, false, cond, List, [], ◌∷◌, ◌++◌, Option, Some, None, ℤ, pos}
use Rattle.std.specs.Prelude.{codes, negsuc}
use Rattle.byte_texts.specs.Words.{is}
use Rattle.resp2_wire.specs.Stream.{Words}
use Rattle.resp2_wire.specs.declared.reply.Reply.{Reply}
use Rattle.resp2_wire.specs.declared.reply.Reply.TheVariants.{Error, Bulk}
use Rattle.typed_values.specs.Numbers.{number}
use Rattle.client_questions.specs.Refusals.{ok, wrong_count, not_an_integer}
use Rattle.client_questions.specs.Hello.{wrong_password}

abbrev pub beyond_range : Reply
beyond_range = Error (codes "ERR value is out of range, value must between -2147483648 and 2147483647")

abbrev pub no_database : Reply
no_database = Error (codes "ERR SELECT is not allowed in cluster mode")

abbrev pub fits_i32 : ℤ → Bool
fits_i32 (pos n) = nat_lt n 2147483648
fits_i32 (negsuc n) = nat_lt n 2147483648

abbrev pub is_zero : ℤ → Bool
is_zero (pos n) = n == 0
is_zero (negsuc n) = false

abbrev pub database_reply : Option ℤ → Reply
database_reply None = not_an_integer
database_reply (Some z) = cond (is_zero z) ok (cond (fits_i32 z) no_database beyond_range)

abbrev pub select_reply : Words → Reply
select_reply [] = wrong_count (codes "select")
select_reply (word ∷ []) = database_reply (number word)
select_reply (a ∷ b ∷ ws) = wrong_count (codes "select")

abbrev pub echo_reply : Words → Reply
echo_reply [] = wrong_count (codes "echo")
echo_reply (text ∷ []) = Bulk text
echo_reply (a ∷ b ∷ ws) = wrong_count (codes "echo")

-- READONLY and READWRITE: every node is a master
abbrev pub alone_reply : List ℕ → Words → Reply
alone_reply name [] = ok
alone_reply name (w ∷ ws) = wrong_count name

abbrev pub no_password : Reply
no_password =
    Error (codes "ERR AUTH <password> called without any password configured for the default user. "
    ++ codes "Are you sure your configuration is correct?")

abbrev pub syntax_error : Reply
syntax_error = Error (codes "ERR syntax error")

abbrev pub user_reply : List ℕ → Reply
user_reply user = cond (is (codes "default") user) ok wrong_password

-- there is no user but `default`, whose password is any
abbrev pub auth_reply : Words → Reply
auth_reply [] = wrong_count (codes "auth")
auth_reply (password ∷ []) = no_password
auth_reply (user ∷ password ∷ []) = user_reply user
auth_reply (a ∷ b ∷ c ∷ ws) = syntax_error
