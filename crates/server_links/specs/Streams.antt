-- What goes over connections.
use Rattle.std.specs.Prelude.{ℕ, List}

-- what a reader gives, and what a writer takes
pub record Streams (I O : Type 0) : Type 1 where
  pub gave : I → ℕ → List ℕ → I → Type 0
  pub took : O → List ℕ → O → Type 0

-- a reader, and what it gave that is not read yet
pub record Source (I : Type 0) : Type 0 where
  pub reader : I
  pub unread : List ℕ

-- what is asked: a request, and how many bytes the reply to it may have
pub record Question : Type 0 where
  pub request : List ℕ
  pub limit : ℕ
