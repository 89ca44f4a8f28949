-- The headline of calls that are a plan's own, as servers saw them, where others were told in one go.
use Rattle.std.proofs.Common.{◌≡◌, ◌⊎◌, ℕ, List, [], ◌∷◌, ◌++◌, map, sym, refl, ap, ◌∙◌, subst, inl, inr, append_assoc}
use Rattle.std.proofs.Common.{append-nil}
use Rattle.cluster_admin.specs.declared.admin.AdminCommand.TheVariants.{SetNode}
use Rattle.cluster_admin.specs.declared.admin.AdminReply.{AdminReply}
use Rattle.cluster_admin.specs.Surveys.{Survey}
use Rattle.cluster_admin.specs.declared.call.AdminCall.{AdminCall}
use Rattle.plan_language.specs.PlanView.{PlanView}
use Rattle.plan_language.specs.declared.plan_command.PlanCommand.{PlanCommand}
use Rattle.plan_language.specs.declared.plan_command.PlanCommand.TheVariants as planned
use Rattle.plan_runner.specs.Verifying.{commands_of}
use Rattle.plan_semantics.specs.Driving.{called}
use Rattle.cluster_world.specs.AdminCalls.{calls}
use Rattle.plan_semantics.specs.Plans.{tell}
use Rattle.plan_semantics.specs.Unrolling.{IsPrefix, Unrolls}
use Rattle.plan_semantics.specs.declared.order.Order.{Order}
use Rattle.reshard_theorem.proofs.Clauses.{headline_holds}
use Rattle.reshard_theorem.proofs.HonestRuns.{leaves_open}
use Rattle.reshard_theorem.proofs.Prefixes.{prefixes_are_driven}
use Rattle.server_runs.proofs.Beginnings.{AreBeginning, next_beginning}
use Rattle.server_headlines.proofs.Headlines.{starts}
use Rattle.server_runs.proofs.Listing.{AllListKeys, ListsKeys, ran_keys}
use Rattle.server_headlines.proofs.Listing.{served_keys}
use Rattle.server_runs.proofs.OwnCalls.{next_more}
use Rattle.server_runs.specs.InOneGo.{state_of, told_call, calls_in}
use Rattle.server_headlines.specs.ServersInOneGo.{AreSeenInAnyOrder, HasHeadlineInAnyOrder, RunsInOneGoHaveTheHeadline}
use Rattle.server_runs.specs.ServersInOneGo.{AreToldNext}
use Rattle.server_runs.specs.PlanCalls.{AreNext, start_of}
use Rattle.server_headlines.specs.ServersRuns.{IsLost}
use Rattle.server_runs.specs.declared.run_end.RunEnd.{RunEnd}
use Rattle.server_runs.specs.declared.slot_owner.SlotOwner.{SlotOwner}
use Rattle.telling_order.specs.OneGo.{AreToldInOneGo}
use Rattle.telling_order.specs.SeenCalls.{AreReordered, AreSeenInOneGo, AreSeenReordered}
use Rattle.telling_order.proofs.SeenCalls.{seen_calls_hold}
use Rattle.telling_order.proofs.Swaps.{next_tells, parts_at, reordered_before}
use Rattle.telling_order.proofs.Unrollings.{unrolls_join}
use Rattle.server_links.specs.Streams.{Streams}

-- ---- keys that are listed

keys_join : (cs ds : List AdminCall) → AllListKeys cs → AllListKeys ds → AllListKeys (cs ++ ds)
keys_join [] ds h g = g
keys_join (c ∷ cs) ds h g = (h.0, keys_join cs ds h.1 g)

keys_last : (cs : List AdminCall) (c : AdminCall) → AllListKeys (cs ++ c ∷ []) → ListsKeys c.command c.reply
keys_last [] c h = h.0
keys_last (d ∷ cs) c h = keys_last cs c h.1

tells_list_keys : (x : SlotOwner) (nodes : List ℕ) → AllListKeys (map (told_call x) nodes)
tells_list_keys x [] = tt
tells_list_keys x (n ∷ ns) = (tt, tells_list_keys x ns)

-- ---- nodes that are told next

-- what tells these nodes first tells them in the plan
tells_first : (x : SlotOwner) (nodes : List ℕ) (plan : List PlanCommand) (more : List AdminCall)
    → Unrolls plan (map (told_call x) nodes ++ more)
    → (back : List PlanCommand) × (plan ≡ tell x.slot x.owner nodes ++ back)
tells_first x [] plan more u = (plan, refl)
tells_first x (n ∷ ns) plan more u =
    let a = next_tells x.slot x.owner plan (told_call x n) (map (told_call x) ns ++ more) refl u in
    let r = tells_first x ns a.0 more a.2 in
    (r.0, a.1 ∙ ap (λ l. planned.SetNode x.slot x.owner n ∷ l) r.1)

spells_one : (x : SlotOwner) (c : AdminCall) → c.command ≡ SetNode x.slot x.owner
    → Unrolls (planned.SetNode x.slot x.owner c.node ∷ []) (c ∷ [])
spells_one x c tells =
    (c.reply, [], ap (λ k. record { node = c.node; command = k; reply = c.reply } ∷ []) tells, refl)

module _ (plan : PlanView) (v : Survey) (cs : List AdminCall) (end : RunEnd) (next : AreNext (start_of plan v) cs)
    (beginning : AreBeginning (commands_of plan v) cs) (keys : AllListKeys cs) where
  abbrev IsSeen : List AdminCall → Type 0
  IsSeen seen = AreSeenReordered (commands_of plan v) seen ⊎ AreSeenInOneGo (commands_of plan v) seen

  seen_lost : (between : List (List AdminCall)) (other : List AdminCall) → AreReordered cs between other → (s : Order)
      (reply : AdminReply) → IsLost (start_of plan v) cs (state_of end) s → (seen : List AdminCall) → AllListKeys seen
      → seen ≡ other ++ called s.node s.command reply ∷ [] → IsSeen seen
  seen_lost between other reorders s reply lost seen seen_keys is =
      let c = called s.node s.command reply in
      let last_keys = keys_last other c (subst AllListKeys is seen_keys) in
      let all = next_beginning plan v (cs ++ c ∷ []) (next_more (start_of plan v) cs s reply next lost.1)
      (keys_join cs (c ∷ []) keys (last_keys, tt)) in
      inl (record {
        sent = cs ++ c ∷ [];
        prefix = all.0;
        between = map (λ l. l ++ c ∷ []) between;
        other = other ++ c ∷ [];
        reorders = reordered_before (c ∷ []) cs between other reorders;
        later = [];
        is = sym is ∙ sym (append-nil seen);
      })

  seen_told : (between : List (List AdminCall)) (other : List AdminCall) → AreReordered cs between other
      → (x : SlotOwner) (nodes : List ℕ) (told : List AdminCall) → AreToldNext plan v cs x nodes
      → AreToldInOneGo x.slot x.owner nodes told → (seen : List AdminCall) → seen ≡ other ++ told → IsSeen seen
  seen_told between other reorders x nodes told ahead are_told seen is =
      let earlier = ahead.last.earlier in
      let one = ahead.last.told in
      let tells = map (told_call x) nodes in
      let begun = next_beginning plan v (cs ++ tells) ahead.next (keys_join cs tells keys (tells_list_keys x nodes)) in
      let more = begun.0.0 in
      let whole : (cs ++ tells) ++ more ≡ earlier ++ one ∷ (tells ++ more) =
      append_assoc cs tells more ∙ ap (λ l. l ++ (tells ++ more)) ahead.last.is
      ∙ append_assoc earlier (one ∷ []) (tells ++ more) in
      let p = parts_at x.slot x.owner (commands_of plan v) earlier one (tells ++ more) ahead.last.tells.tells
      (subst (Unrolls (commands_of plan v)) whole begun.0.1) in
      let last : PlanCommand = planned.SetNode x.slot x.owner one.node in
      let b = tells_first x nodes p.back more p.still in
      let carried : Unrolls (p.front ++ last ∷ []) (earlier ++ one ∷ []) =
      unrolls_join p.front (last ∷ []) earlier (one ∷ []) p.so_far (spells_one x one ahead.last.tells.tells) in
      inr (record {
        s = x.slot;
        target = x.owner;
        front = p.front ++ last ∷ [];
        back = b.0;
        nodes = nodes;
        is = p.is ∙ ap (λ l. p.front ++ last ∷ l) b.1
            ∙ sym (append_assoc p.front (last ∷ []) (tell x.slot x.owner nodes ++ b.0));
        before = cs;
        carried_out = subst (Unrolls (p.front ++ last ∷ [])) (sym ahead.last.is) carried;
        last = ahead.last;
        between = between;
        before' = other;
        reorders = reorders;
        in_one_go = told;
        are_told = are_told;
        seen_is = is;
      })

  pub seen_so : (seen : List AdminCall) → AllListKeys seen
      → AreSeenInAnyOrder cs (IsLost (start_of plan v) cs (state_of end)) (AreToldNext plan v cs) seen → IsSeen seen
  seen_so seen seen_keys (between, other, reorders, inl (later, is)) = inl (record {
    sent = cs;
    prefix = beginning.0;
    between = between;
    other = other;
    reorders = reorders;
    later = later;
    is = is;
  })
  seen_so seen seen_keys (between, other, reorders, inr (inl (s, reply, lost, is))) =
      seen_lost between other reorders s reply lost seen seen_keys is
  seen_so seen seen_keys (between, other, reorders, inr (inr (x, nodes, told, ahead, are_told, is))) =
      seen_told between other reorders x nodes told ahead are_told seen is

pub has_headline_in_any_order : (plan : PlanView) (v : Survey) (cs : List AdminCall) (end : RunEnd)
    → AreNext (start_of plan v) cs → AreBeginning (commands_of plan v) cs → AllListKeys cs
    → HasHeadlineInAnyOrder plan v cs end
has_headline_in_any_order plan v cs end next beginning keys reshard events last verified surveyed run honest seen =
    seen_calls_hold headline_holds prefixes_are_driven leaves_open reshard events last
    (starts reshard plan v surveyed verified) run honest
    (subst (λ l. AreSeenReordered l (calls events) ⊎ AreSeenInOneGo l (calls events)) (sym surveyed.commands)
    (seen_so plan v cs end next beginning keys (calls events) (served_keys events reshard.first last run) seen))

-- ---- of every run

pub runs_have_the_headline : {I O : Type 0} (by : Streams I O) (P : Type 0) → RunsInOneGoHaveTheHeadline by P
runs_have_the_headline by P plan v first end run =
    has_headline_in_any_order plan v (calls_in run.groups) end run.next (run.prefix, run.stops)
    (ran_keys by first run.at (calls_in run.groups) run.ran)
