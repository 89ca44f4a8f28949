-- A run of which others are told in one go: its calls are the plan's own, whatever servers answered.
use Rattle.std.proofs.Common.{◌≡◌, ◌⊎◌, ℕ, ◌+◌, Bool, true, false, List, [], ◌∷◌, ◌++◌, length, map, Option, Some, None}
use Rattle.std.proofs.Common.{Result, Ok, Err, sym, refl, ap, ◌∙◌, subst, inl, inr, zero-add}
use Rattle.cluster_admin.specs.declared.admin.AdminReply.TheVariants as reply
use Rattle.cluster_admin.specs.Surveys.{Survey}
use Rattle.cluster_admin.specs.declared.call.AdminCall.{AdminCall}
use Rattle.cluster_admin.specs.declared.port_fault.PortFault.{PortFault}
use Rattle.plan_language.specs.PlanView.{PlanView}
use Rattle.plan_runner.specs.Advancing.{Goes, runs_on}
use Rattle.plan_runner.specs.ProgressView.{Progress}
use Rattle.plan_runner.specs.Verifying.{commands_of}
use Rattle.plan_runner.specs.declared.plan_state.PlanState.{PlanState}
use Rattle.plan_runner.specs.declared.plan_state.PlanState.TheVariants as states
use Rattle.plan_runner.specs.declared.stop_cause.StopCause.{StopCause}
use Rattle.plan_runner.proofs.Spelling.{done_spelt}
use Rattle.plan_semantics.specs.Unrolling.{Unrolls}
use Rattle.plan_semantics.proofs.Unrolling.{whole_by_spelled}
use Rattle.redis_servers.specs.Calls.{Given}
use Rattle.redis_servers.specs.declared.port.ServersPort as port
use Rattle.server_links.specs.Streams.{Streams}
use Rattle.server_runs.proofs.Beginnings.{next_beginning}
use Rattle.server_runs.proofs.Listing.{ran_keys}
use Rattle.server_runs.proofs.Takings.{takes_counted, takes_goes, takes_next, takes_on}
use Rattle.server_runs.specs.InOneGo.{AreToldOnce, EndsBehind, LastTold, RunsInOneGo, Takes, Watching, calls_in}
use Rattle.server_runs.specs.InOneGo.{end_after, first_undone, state_of, told_call}
use Rattle.server_runs.specs.ServersInOneGo.{AreToldNext, IsRunInOneGo, StopsInOneGo}
use Rattle.server_runs.specs.PlanCalls.{replies_in, start_of}
use Rattle.server_runs.specs.declared.run_end.RunEnd.{RunEnd}
use Rattle.server_runs.specs.declared.run_end.RunEnd.TheVariants.{Done, Stopped}
use Rattle.server_runs.specs.declared.slot_owner.SlotOwner.{SlotOwner}
use Rattle.plan_semantics.specs.Tellings.{LastTells}

not_done : (c : StopCause) (m n : ℕ) → Stopped c m ≡ Done n → ⊥
not_done c m n e = cc

no_end_left : (e : RunEnd) → Some e ≡ None → ⊥
no_end_left e u = cc

same_end : {a b : RunEnd} → Some a ≡ Some b → a ≡ b
same_end e = cc

-- answers never end a run as done
end_not_done : (m n k : ℕ) (o : Option Given) (answers : List Given) → Some (Done n) ≡ end_after m o answers → ⊥
end_not_done m n k None answers e = no_end_left (Done n) e
end_not_done m n k (Some (Ok (reply.Refused f))) answers e = not_done _ _ n (sym (same_end e))
end_not_done m n k (Some (Ok reply.Ok)) answers e = not_done _ _ n (sym (same_end e))
end_not_done m n k (Some (Ok reply.NoKey)) answers e = not_done _ _ n (sym (same_end e))
end_not_done m n k (Some (Ok (reply.Keys ks))) answers e = not_done _ _ n (sym (same_end e))
end_not_done m n k (Some (Err f)) answers e = not_done _ _ n (sym (same_end e))

state_done : (e : RunEnd) (n : ℕ) → state_of e ≡ states.Done n → e ≡ Done n
state_done (Done m) n h = cc
state_done (Stopped c m) n h = absurd (by h)
  where
    by : states.Stopped c m ≡ states.Done n → ⊥
    by u = cc

done_state : (m n : ℕ) → Done m ≡ Done n → states.Done m ≡ states.Done n
done_state m n e = cc

stop_state : (c : StopCause) (m n : ℕ) → states.Done n ≡ states.Stopped c m → ⊥
stop_state c m n e = cc

done_is : {m n : ℕ} → states.Done m ≡ states.Done n → m ≡ n
done_is e = cc

-- where a run is done, its calls have brought the plan to its end
module _ {I O P W : Type 0} (streams : Streams I O) (by : Watching W) (p : Progress) where
  done_goes : (cs : List AdminCall) (told : Option SlotOwner) (at last : port.ServersPort I O P × W) (left : PlanState)
      (end : RunEnd) (n : ℕ) → Takes p cs left → EndsBehind streams by told at last left end → end ≡ Done n
      → Goes p cs (states.Done n)
  done_goes cs told at last (states.Running q) end n takes (inl none) is =
      takes_goes p cs (states.Running q) (states.Done n) takes
      (inl (none.rest, sym (ap state_of is) ∙ ap state_of none.is))
  done_goes cs told at last (states.Running q) end n takes (inr (inl up)) is =
      absurd (not_done _ _ n (sym up.is ∙ is))
  done_goes cs told at last (states.Running q) end n takes (inr (inr (inl failed))) is =
      absurd (not_done _ _ n (sym failed.is ∙ is))
  done_goes cs told at last (states.Running q) end n takes (inr (inr (inr stopped))) is =
      absurd (end_not_done q.spent n n (first_undone stopped.answers) stopped.answers
      (ap Some (sym is) ∙ stopped.is))
  done_goes cs told at last (states.Done m) end n takes ended is =
      takes_goes p cs (states.Done m) (states.Done n) takes (sym (ap state_of is) ∙ ended.0)
  done_goes cs told at last (states.Stopped c m) end n takes ended is =
      absurd (stop_state c m n (sym (ap state_of is) ∙ ended.0))

-- ---- the whole run

told_next : (plan : PlanView) (v : Survey) (cs : List AdminCall) (told : Option SlotOwner) (q : Progress) (x : SlotOwner) (nodes : List ℕ)
    (j : PlanState) → LastTold told cs → told ≡ Some x → AreToldOnce x nodes
    → Takes (start_of plan v) cs (states.Running q) → Takes q (map (told_call x) nodes) j
    → AreToldNext plan v cs x nodes
told_next plan v cs told q x nodes j last is once takes ahead = record {
  others = once;
  last = subst (λ (o : Option SlotOwner). LastTold o cs) is last;
  next =
      takes_next (start_of plan v) (cs ++ map (told_call x) nodes) j
      (takes_on (start_of plan v) q cs (map (told_call x) nodes) j takes ahead);
}

module _ {I O P W : Type 0} (streams : Streams I O) (by : Watching W) (plan : PlanView) (v : Survey) where
  counted : (cs : List AdminCall) (told : Option SlotOwner) (at last : port.ServersPort I O P × W) (left : PlanState)
      (end : RunEnd) → LastTold told cs → Takes (start_of plan v) cs left
      → EndsBehind streams by told at last left end
      → (replies_in (state_of end) ≡ length cs) ⊎ StopsInOneGo streams plan v at.0 cs end
  counted cs told at last (states.Running q) end tells takes (inl none) =
      inl (ap (λ e. replies_in (state_of e)) none.is ∙ takes_counted (start_of plan v) cs (states.Running q) takes
      ∙ zero-add (length cs))
  counted cs told at last (states.Running q) end tells takes (inr (inl up)) =
      inl (ap (λ e. replies_in (state_of e)) up.is ∙ takes_counted (start_of plan v) cs (states.Running q) takes
      ∙ zero-add (length cs))
  counted cs told at last (states.Running q) end tells takes (inr (inr (inl failed))) =
      inl (ap (λ e. replies_in (state_of e)) failed.is ∙ takes_counted (start_of plan v) cs (states.Running q) takes
      ∙ zero-add (length cs))
  counted cs told at last (states.Running q) end tells takes (inr (inr (inr stopped))) =
      let spent : q.spent ≡ length cs =
      takes_counted (start_of plan v) cs (states.Running q) takes ∙ zero-add (length cs) in
      inr (record {
        owned = stopped.owned;
        nodes = stopped.node ∷ stopped.nodes;
        next =
            told_next plan v cs told q stopped.owned (stopped.node ∷ stopped.nodes) stopped.state tells stopped.behind
            stopped.others takes stopped.next;
        answers = stopped.answers;
        last = last.0;
        tells = stopped.tells;
        is = stopped.is ∙ ap (λ n. end_after n (first_undone stopped.answers) stopped.answers) spent;
      })
  counted cs told at last (states.Done m) end tells takes ended =
      inl (ap replies_in ended.0 ∙ takes_counted (start_of plan v) cs (states.Done m) takes ∙ zero-add (length cs))
  counted cs told at last (states.Stopped c m) end tells takes ended =
      inl (ap replies_in ended.0 ∙ takes_counted (start_of plan v) cs (states.Stopped c m) takes ∙ zero-add (length cs))

  pub is_run : (first last : port.ServersPort I O P × W) (end : RunEnd)
      → RunsInOneGo streams by first last (start_of plan v) end → IsRunInOneGo streams plan v first.0 end
  is_run first last end runs =
      let cs = calls_in runs.groups in
      let takes = runs.has_run.takes in
      let next = takes_next (start_of plan v) cs runs.left takes in
      let keys = ran_keys streams first.0 runs.at.0 cs runs.has_run.ran in
      let beginning = next_beginning plan v cs next keys in
      record {
        groups = runs.groups;
        grouped = runs.has_run.grouped;
        at = runs.at.0;
        ran = runs.has_run.ran;
        next = next;
        prefix = beginning.0;
        stops = beginning.1;
        done = λ n is. whole_by_spelled (commands_of plan v) cs
            (done_spelt (start_of plan v) cs n tt
            (done_goes streams by (start_of plan v) cs runs.told runs.at last runs.left end n takes runs.ends is));
        counted = counted cs runs.told runs.at last runs.left end runs.last_told takes runs.ends;
      }
