-- Why there is nothing to show, and what is shown.
use Rattle.std.proofs.Common.{◌≡◌, ◌⊎◌, ℕ, List, [], Option, None, Some, Result, Ok, Err, inl, inr, subst, sym}
use Rattle.std.specs.Prelude.{IfErr, MatchOption}
use Rattle.byte_streams.specs.Inputs.{IsWholeInput}
use Rattle.byte_streams.specs.Streams.{Input}
use Rattle.cluster_inspection.specs.Refusals.{IsNoClusterOf, IsNoPlanIn, plan_from}
use Rattle.cluster_inspection.specs.Starts.{AreCleanOwners, IsUnfound, IsUnstarted, SaysNoStart, StartsFrom}
use Rattle.cluster_inspection.specs.Starts.{names_listed}
use Rattle.cluster_inspection.specs.declared.no_cluster.NoCluster.{NoCluster}
use Rattle.cluster_inspection.specs.declared.no_cluster.NoCluster.TheVariants as none
use Rattle.cluster_inspection.specs.declared.refusal.Refusal.{Refusal}
use Rattle.cluster_inspection.specs.declared.refusal.Refusal.TheVariants as refusal
use Rattle.command_words.specs.declared.usage.ClusterWords.{ClusterWords}
use Rattle.command_words.specs.declared.usage.Start.{Start}
use Rattle.command_words.specs.declared.usage.Start.TheVariants.{Cluster, Even}
use Rattle.key_slots.specs.Owners.{Owners}
use Rattle.transcripts.specs.PlanVerdicts.{SaysFault}
use Rattle.plan_language.specs.PlanView.{PlanView}
use Rattle.plan_language.specs.Texts.{Parsed, any_plan_of_text}
use Rattle.server_commands.specs.declared.book.Server.{Server}
use Rattle.plan_previews.specs.Counted.{IsUncounted}
use Rattle.plan_previews.specs.Previews.{IsCountedIn, IsPlainIn, IsPreview, IsPreviewAt, IsUnshown, TellsFault, TellsFaultAt}
use Rattle.plan_previews.specs.declared.preview.Preview.{Preview}
use Rattle.transcripts.specs.declared.transcript.Transcript.{Transcript}

-- the plan that was read
abbrev pub IsRead : {R : Type 0} → (plan_of : List ℕ → Parsed) → Input R → PlanView → Type 0
IsRead plan_of i plan = (input : List ℕ) × IsWholeInput i.gave i.ends i.before i.after input × (plan_of input ≡ Ok plan)

module _ {R : Type 0} (i : Input R) where
  pub no_plan : (start : Start) (r : Refusal) → IsNoPlanIn (plan_from start) i r → IsUnshown start i r
  no_plan start refusal.Memory h = tt
  no_plan start refusal.Unread h = tt
  no_plan start (refusal.Answer t) h = inl h

  pub no_start : (start : Start) (u : NoCluster) (r : Refusal) → IsUnstarted start u → IsNoClusterOf u r → IsUnshown start i r
  no_start start none.Memory r why is = subst (IsUnshown start i) (sym is) tt
  no_start start (none.Answer t) r why is = subst (IsUnshown start i) (sym is) (inr (inl why))

  pub not_found : (g : ClusterWords) (u : NoCluster) (r : Refusal) → IsUnfound u → IsNoClusterOf u r → IsUnshown (Cluster g) i r
  not_found g none.Memory r why is = subst (IsUnshown (Cluster g) i) (sym is) tt
  not_found g (none.Answer t) r why is = subst (IsUnshown (Cluster g) i) (sym is) (inr (inl why))

  pub at_fault : (start : Start) (book : Option (List Server)) (o : Owners) (plan : PlanView) (r : Refusal) → IsRead (plan_from start) i plan
      → StartsFrom start (names_listed plan) book o → TellsFault o plan r → IsUnshown start i r
  at_fault start book o plan refusal.Memory read from h = tt
  at_fault start book o plan refusal.Unread read from h = absurd h
  at_fault start book o plan (refusal.Answer t) read from h =
      inr (inr (read.0, read.1, (plan, read.2, (o, (book, from), h))))

  pub at_cluster_fault : (g : ClusterWords) (plan : PlanView) (r : Refusal) → IsRead any_plan_of_text i plan → TellsFaultAt plan r
      → IsUnshown (Cluster g) i r
  at_cluster_fault g plan refusal.Memory read h = tt
  at_cluster_fault g plan refusal.Unread read h = absurd h
  at_cluster_fault g plan (refusal.Answer t) read (inl none) = inr (inl none)
  at_cluster_fault g plan (refusal.Answer t) read (inr h) =
      inr (inr (read.0, read.1, (plan, read.2, (h.0, (Some h.1.0, h.1.1), h.2))))

  pub plain_shown : (start : Start) (book : Option (List Server)) (o : Owners) (plan : PlanView) (p : Preview)
      → IsRead (plan_from start) i plan → StartsFrom start (names_listed plan) book o
      → IsPreview o plan None p → p.servers.items ≡ [] → IsPlainIn start i p
  plain_shown start book o plan p read from preview servers =
      (read.0, read.1, (plan, read.2, (o, (book, from), preview, servers)))

  pub counted_shown : (plan : PlanView) (p : Preview) → IsRead any_plan_of_text i plan → IsPreviewAt plan p → IsCountedIn i p
  counted_shown plan p read at = (read.0, read.1, (plan, read.2, at))

-- ---- at the servers of a cluster

pub clean_fault : (o : Owners) (plan : PlanView) (r : Refusal) → AreCleanOwners (names_listed plan) o → TellsFault o plan r
    → TellsFaultAt plan r
clean_fault o plan refusal.Memory clean h = tt
clean_fault o plan refusal.Unread clean h = absurd h
clean_fault o plan (refusal.Answer t) clean h = inr (o, clean, h)

pub uncounted : (plan : PlanView) (r : Refusal) → IsUncounted r → TellsFaultAt plan r
uncounted plan refusal.Memory h = tt
uncounted plan refusal.Unread h = absurd h
uncounted plan (refusal.Answer t) h = inl h

pub no_answer : (u : NoCluster) (r : Refusal) → IsUnfound u → IsNoClusterOf u r → IsUncounted r
no_answer none.Memory r why is = subst IsUncounted (sym is) tt
no_answer (none.Answer t) r why is = subst IsUncounted (sym is) why

pub fault_told : {A : Type 0} (Q : A → Type 0) (o : Owners) (plan copy : PlanView) (found : Option A) (t : Transcript) → found ≡ None
    → copy ≡ plan → MatchOption found (SaysFault o copy t.status t.printed.items) Q → SaysFault o plan t.status t.printed.items
fault_told Q o plan copy found t none same says =
    subst (λ p. SaysFault o p t.status t.printed.items) same
    (subst (λ f. MatchOption f (SaysFault o copy t.status t.printed.items) Q) none says)

pub err_weaker : {A E : Type 0} (r : Result A E) (P Q : E → Type 0) → ((e : E) → P e → Q e) → IfErr r P → IfErr r Q
err_weaker (Ok a) P Q then h = tt
err_weaker (Err e) P Q then h = then e h
