-- The views of all servers, one after the other, and the rows that they tell.
use Rattle.std.proofs.Common.{◌≡◌, ℕ, ◌+◌, ◌<◌, ◌≤◌, List, [], ◌∷◌, ◌++◌, length, Option, None, Some, sym, subst, ap}
use Rattle.std.proofs.Common.{◌∙◌, arith}
use Rattle.std.proofs.lemmas.List.{length-append, length-map}
use Rattle.std.specs.Option.{option_or}
use Rattle.listed_nodes.specs.declared.node_line.NodeLine.{NodeLine}
use Rattle.server_commands.specs.declared.book.Server.{Server}
use Rattle.cluster_views.specs.Numbers.{first_given}
use Rattle.cluster_views.specs.Rows.{AreRows, IsWhole, kept_at, row_of, survey_by}
use Rattle.cluster_views.specs.Surveying.{IsTold, Views, view_at, views_fault}
use Rattle.cluster_views.specs.Views.{IsRowOf, view_fault}
use Rattle.cluster_views.specs.declared.fault.SurveyFault.{SurveyFault}
use Rattle.cluster_views.specs.declared.server_row.ServerRow.{ServerRow}
use Rattle.cluster_views.proofs.Firsts.{from_last, from_next, number_first, numbers_from}
use Rattle.cluster_views.proofs.Kept.{one_kept, row_shown}

abbrev fault_at : List Server → Views → ℕ → Option SurveyFault
fault_at b views n = view_fault b n (view_at views n)

-- the views before i are fine, and tell these rows
pub record Tells (b : List Server) (views : Views) (i : ℕ) (rs : List ServerRow) : Type 0 where
  pub count : length rs ≡ i
  pub fine : views_fault b views ≡ first_given (fault_at b views) (numbers_from (length b) i)
  pub rows : (n : ℕ) → n < i → IsRowOf b (view_at views n) (row_of (kept_at rs n))
  pub whole : (n : ℕ) → n < i → IsWhole (length b) (kept_at rs n)

pub none_told : (b : List Server) (views : Views) (rs : List ServerRow) → rs ≡ [] → Tells b views 0 rs
none_told b views rs e = record {
  count = ap length e;
  fine = number_first (fault_at b views) (length b);
  rows = λ n lt. absurd (omega arith);
  whole = λ n lt. absurd (omega arith);
}

-- by the number of the server, and the view, as they are called by
pub one_told : (b : List Server) (views : Views) (i : ℕ) (rs rs' : List ServerRow) (r : ServerRow) (n : ℕ)
    (ls : List NodeLine) → Tells b views i rs → i < length b → rs' ≡ rs ++ r ∷ [] → n ≡ i → ls ≡ view_at views n
    → view_fault b n ls ≡ None → IsRowOf b ls (row_of r) → IsWhole (length b) r → Tells b views (i + 1) rs'
one_told b views i rs rs' r n ls told lt is same view none shows whole =
    let view_is : ls ≡ view_at views i = view ∙ ap (view_at views) same in
    let none_is : fault_at b views i ≡ None =
    ap (view_fault b i) (sym view_is) ∙ ap (λ k. view_fault b k ls) (sym same) ∙ none in
    record {
      count = ap length is ∙ omega (arith, length-append rs (r ∷ []), told.count);
      fine = told.fine
          ∙ ap (first_given (fault_at b views)) (from_next (length b) i lt)
          ∙ ap (λ o. option_or o (first_given (fault_at b views) (numbers_from (length b) (i + 1)))) none_is;
      rows = one_kept (λ k x. IsRowOf b (view_at views k) (row_of x)) rs rs' r i is told.count told.rows
          (subst (λ l. IsRowOf b l (row_of r)) view_is shows);
      whole = one_kept (λ k x. IsWhole (length b) x) rs rs' r i is told.count told.whole whole;
    }

pub one_refused : (b : List Server) (views : Views) (i : ℕ) (rs : List ServerRow) (n : ℕ) (ls : List NodeLine)
    (e : SurveyFault) → Tells b views i rs → i < length b → n ≡ i → ls ≡ view_at views n → view_fault b n ls ≡ Some e
    → views_fault b views ≡ Some e
one_refused b views i rs n ls e told lt same view is =
    let view_is : ls ≡ view_at views i = view ∙ ap (view_at views) same in
    told.fine
    ∙ ap (first_given (fault_at b views)) (from_next (length b) i lt)
    ∙ ap (λ o. option_or o (first_given (fault_at b views) (numbers_from (length b) (i + 1))))
    (ap (view_fault b i) (sym view_is) ∙ ap (λ k. view_fault b k ls) (sym same) ∙ is)

pub all_fine : (b : List Server) (views : Views) (i : ℕ) (rs : List ServerRow) → Tells b views i rs → i ≡ length b
    → views_fault b views ≡ None
all_fine b views i rs told all =
    told.fine ∙ ap (first_given (fault_at b views)) (from_last (length b) i (omega arith))

pub are_rows : (b : List Server) (views : Views) (i : ℕ) (rs : List ServerRow) → Tells b views i rs → i ≡ length b
    → 1 ≤ length b → length b ≤ 255 → AreRows rs
are_rows b views i rs told all least most =
    let count : length rs ≡ length b = told.count ∙ all in
    record {
      each = λ n lt. subst (λ k. IsWhole k (kept_at rs n)) (sym count) (told.whole n (omega arith));
      least = omega arith;
      most = omega arith;
    }

pub is_told : (b : List Server) (views : Views) (i : ℕ) (rs : List ServerRow) → Tells b views i rs → i ≡ length b
    → IsTold b views (survey_by rs)
is_told b views i rs told all = record {
  count = length-map rs row_of ∙ told.count ∙ all;
  rows = λ n lt. subst (IsRowOf b (view_at views n)) (sym (row_shown rs n)) (told.rows n (omega arith));
}
