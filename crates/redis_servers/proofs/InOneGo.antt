-- Several nodes are told in one go.
use Rattle.std.proofs.Common.{◌≡◌, ◌≢◌, ◌∙◌, ℕ, ◌<◌, Bool, true, false, cond, not, ◌&&◌, List, [], ◌∷◌, ◌++◌, map, length}
use Rattle.std.proofs.Common.{reverse, drop, take, get_or, ◌-◌, ◌≤◌, arith, Option, Some, None, Ok, Err, refl, sym, ap, subst, inl, append_assoc, ne_eqb}
use Rattle.std.specs.Prelude.{◌==◌, is_some, slice_set, Result}
use Rattle.std.specs.FinMap as finite
use Rattle.std.specs.List.{list_all}
use Rattle.std.proofs.lemmas.Bool.{and_parts, lt-ltb}
use Rattle.std.proofs.lemmas.List.{reverse-append, reverse-reverse, take_all}
use Rattle.cluster_admin.specs.declared.admin.AdminCommand.{AdminCommand}
use Rattle.cluster_admin.specs.declared.admin.AdminCommand.TheVariants.{SetNode}
use Rattle.cluster_admin.specs.declared.admin.AdminFault.TheVariants.{UnknownNode}
use Rattle.cluster_admin.specs.declared.admin.AdminReply.TheVariants as admin
use Rattle.cluster_admin.specs.Phases.{IsDistinct}
use Rattle.server_commands.specs.Spelling.{request_of}
use Rattle.server_links.specs.Streams.{Streams}
use Rattle.server_links.specs.declared.link.Link as link
use Rattle.redis_servers.proofs.Apart.{around, command_length}
use Rattle.redis_servers.specs.Asking.{AsksNode, HearsFrom, SendsTo}
use Rattle.redis_servers.specs.Calls.{Answers, AnswersBy, Commands, Given, Sends}
use Rattle.redis_servers.specs.RunHistories.{RunHistory, source_of}
use Rattle.redis_servers.specs.Duties.{master_if, news_at, taken_if}
use Rattle.redis_servers.specs.Hearers.{hearers_from}
use Rattle.redis_servers.specs.Meeting.{HearsAll, MeetsAll}
use Rattle.redis_servers.specs.InOneGo.{AreOthers, Finishes, TellingsAreRuns, TellsEach, TellsInOneGo, TellsOn, as_told, is_done}
use Rattle.redis_servers.specs.InOneGo.{is_fault, said_of, stops_by, telling, told_calls, told_of}
use Rattle.redis_servers.specs.Ports.{Moves}
use Rattle.redis_servers.specs.Unheard.{one_more}
use Rattle.redis_servers.specs.Runs.{Runs}
use Rattle.redis_servers.specs.Saying.{or_lost}
use Rattle.redis_servers.specs.declared.commanding.Outcome.{Outcome}
use Rattle.redis_servers.specs.declared.port_stop.PortStop.{PortStop}
use Rattle.redis_servers.specs.declared.port.ServersPort as port
use Rattle.redis_servers.specs.declared.setup.PortSetup.{PortSetup}
use Rattle.redis_servers.specs.declared.telling.Telling.{Telling}

-- ---- what is told

none_later : (b all : Bool) → false ≡ not all → not b ≡ not (b && all)
none_later true true e = refl
none_later false true e = refl
none_later b false e = absurd cc

some_later : (t later : Telling) (b all : Bool) → t.is_done ≡ b → not later.is_done ≡ not all
    → not (cond b later t).is_done ≡ not (b && all)
some_later t later true all is e = e
some_later t later false all is e = ap not is

stops_first : (t : Telling) (later : Option Telling) (all : Bool) → stops_by later ≡ not all
    → stops_by (Some (told_of t later)) ≡ not (t.is_done && all)
stops_first t None all e = none_later t.is_done all e
stops_first t (Some later) all e = some_later t later t.is_done all refl e

pub stops_is : (os : List Outcome) → stops_by (telling os) ≡ not (list_all is_done (map (λ o. o.given) os))
stops_is [] = refl
stops_is (o ∷ os) = stops_first (as_told o) (telling os) (list_all is_done (map (λ o. o.given) os)) (stops_is os)

pub done_is : (g : Given) → is_done g ≡ true → g ≡ Ok admin.Ok
done_is (Ok admin.Ok) e = refl
done_is (Ok admin.NoKey) e = absurd cc
done_is (Ok (admin.Keys ks)) e = absurd cc
done_is (Ok (admin.Refused f)) e = absurd cc
done_is (Err f) e = absurd cc

-- ---- one node more

-- what stands after the first node, as the program parts them
abbrev pub later_nodes : List ℕ → List ℕ
later_nodes nodes = take (length nodes - 1) (drop 1 nodes)

pub first_is : (nodes : List ℕ) (n : ℕ) → 1 ≤ length nodes → n ≡ get_or nodes 0 n → nodes ≡ n ∷ later_nodes nodes
first_is [] n some is = absurd (omega (arith, some))
first_is (m ∷ ms) n some is =
    ap (λ k. k ∷ ms) (sym is) ∙ ap (λ (xs : List ℕ). n ∷ xs) (sym (take_all (length (m ∷ ms) - 1) ms (omega arith)))

module _ {I O : Type 0} (by : Streams I O) where
  abbrev Links : Type 0
  Links = List (link.Link I O)

  pub told_on : (setup : PortSetup) (history : RunHistory) (request : List ℕ) (c : AdminCommand) (links mid later later' : Links) (n : ℕ)
      (ns : List ℕ) (sent : Result (Unit {0}) PortStop) (o : Outcome) (before middle after : List Given) (own : Telling)
      (told : Option Telling) → IsDistinct (n ∷ ns) → SendsTo by request links n sent mid
      → TellsOn (AsksNode by) setup history request c mid ns before middle told later
      → Finishes (HearsFrom by) setup history n c sent later o.given o.said later' → own ≡ as_told o
      → after ≡ middle ++ o.given ∷ []
      → TellsOn (AsksNode by) setup history request c links (n ∷ ns) before after (Some (told_of own told)) later'
  told_on setup history request c links mid later later' n ns sent o before middle after own told distinct sends tells finishes is put = (
    o ∷ tells.0,
    around by setup history request c links mid later later' n ns sent o tells.0 distinct.0 sends tells.1 finishes,
    put ∙ ap (λ (xs : List Given). xs ++ o.given ∷ []) tells.2
        ∙ append_assoc before (reverse (map (λ o. o.given) tells.0)) (o.given ∷ [])
        ∙ ap (λ (xs : List Given). before ++ xs) (sym (reverse-append (o.given ∷ []) (map (λ o. o.given) tells.0))),
    ap (λ (t : Telling). Some (told_of t told)) is ∙ ap (λ (t : Option Telling). Some (told_of (as_told o) t)) tells.3,
  )

  -- ---- one call

  abbrev asks_by : PortSetup → RunHistory → ℕ → ℕ → Links → (node : ℕ) → Given → Option (List ℕ) → Links → Type 0
  asks_by x history slot owner links n given said links' =
      Commands (AsksNode by) x history (request_of x.book x.timeout x.credentials (SetNode slot owner)) n
      (SetNode slot owner) links given said links'

  sends : (x : PortSetup) (history : RunHistory) (slot owner n : ℕ) (links links' : Links) (said : Option (List ℕ)) → n ≢ owner
      → asks_by x history slot owner links n (Ok admin.Ok) said links'
      → Sends (AsksNode by) x history n (SetNode slot owner) links (Ok admin.Ok) said links'
  sends x history slot owner n links links' said other way = inl (
    links,
    record { given = Ok admin.Ok; said = said },
    links',
    subst (λ (b : Bool). MeetsAll (AsksNode by) x history (cond b (news_at history n ++ master_if (length x.survey.rows) n (source_of history x.survey slot)) []) links (Ok tt) links)
        (sym (ne_eqb owner n (λ e. other (sym e)))) refl,
    way,
    inl (
      links',
      subst (λ (b : Bool). MeetsAll (AsksNode by) x history
          (cond b (taken_if (length x.survey.rows) n slot (source_of history x.survey slot)) []) links' (Ok tt) links')
          (sym apart) refl,
      (Ok None, nobody x.waits_for_news (owner == n) apart, (refl, refl)),
    ),
  )
    where
      apart : (owner == n) ≡ false
      apart = ne_eqb owner n (λ e. other (sym e))

      nobody : (waits b : Bool) → b ≡ false
          → HearsAll (AsksNode by) x history (cond (waits && b) (hearers_from slot n 0 x.survey.rows) []) links' (Ok None) links'
      nobody true b is = subst (λ (c : Bool). HearsAll (AsksNode by) x history (cond c (hearers_from slot n 0 x.survey.rows) []) links' (Ok None) links')
          (sym is) (refl, refl)
      nobody false b is = (refl, refl)

  answers_by : (x : PortSetup) (history : RunHistory) (slot owner n : ℕ) (links links' : Links) (said : Option (List ℕ))
      → owner < length x.book → n ≢ owner → asks_by x history slot owner links n (Ok admin.Ok) said links'
      → Answers (AsksNode by) x history n (SetNode slot owner) links (Ok admin.Ok) said links'
  answers_by x history slot owner n links links' said there other way =
      subst (λ (b : Bool). AnswersBy (AsksNode by) (cond b None (Some UnknownNode)) x history n (SetNode slot owner) links (Ok admin.Ok) said links')
      (sym (lt-ltb owner (length x.book) there)) (sends x history slot owner n links links' said other way)

  last_said : (o : Outcome) (g : Given) → o.given ≡ g → g ≡ Ok admin.Ok → said_of (Some (as_told o)) ≡ o.said
  last_said o g same is = ap (λ (x : Given). cond (is_fault x) (Some (or_lost o.said)) o.said) (same ∙ is)

  later_said : (o : Outcome) (rest others : List Outcome) (next : Outcome) → is_done o.given ≡ true → rest ≡ next ∷ others
      → said_of (telling (o ∷ rest)) ≡ said_of (telling rest)
  later_said o rest others next is more =
      let later : Telling = told_of (as_told next) (telling others) in
      ap (λ (xs : List Outcome). said_of (telling (o ∷ xs))) more
      ∙ ap (λ (b : Bool). said_of (Some (cond b later (as_told o)))) is
      ∙ ap (λ (xs : List Outcome). said_of (telling xs)) (sym more)

  -- ---- the port

  module _ {P : Type 0} where
    pub told_all : (slot owner : ℕ) (nodes request : List ℕ) (p q : port.ServersPort I O P) (before after answers : List Given)
        (told : Option Telling) → p.has_stopped ≡ false
        → request ≡ request_of p.setup.book p.setup.timeout p.setup.credentials (SetNode slot owner) → before ≡ []
        → TellsOn (AsksNode by) p.setup p.history request (SetNode slot owner) p.links.items nodes before after told q.links.items
        → answers ≡ reverse after → q.said ≡ said_of told → q.setup ≡ p.setup → q.history ≡ p.history
        → q.has_stopped ≡ stops_by told → q.unheard ≡ p.unheard → TellsInOneGo by slot owner nodes p answers q
    told_all slot owner nodes request p q before after answers told opened spelled blank tells turned said setup history stops
        unheard =
        let given : List Given = map (λ o. o.given) tells.0 in
        let same : answers ≡ given =
        turned ∙ ap reverse (tells.2 ∙ ap (λ (xs : List Given). xs ++ reverse given) blank) ∙ reverse-reverse given in
        record {
          open_before = opened;
          outcomes = tells.0;
          each = subst (λ (t : List ℕ). TellsEach (AsksNode by) p.setup p.history t (SetNode slot owner) p.links.items nodes tells.0 q.links.items)
              spelled tells.1;
          answers_are = same;
          said = said ∙ ap said_of tells.3;
          setup = setup;
          history = history;
          stopped = stops ∙ ap stops_by tells.3 ∙ stops_is tells.0 ∙ ap (λ (xs : List Given). not (list_all is_done xs)) (sym same);
          unheard = unheard;
        }

    -- ---- a run

    moved : (slot owner n : ℕ) (p q : port.ServersPort I O P) (o : Outcome) (links' : Links) → owner < length p.setup.book
        → n ≢ owner → is_done o.given ≡ true → asks_by p.setup p.history slot owner p.links.items n o.given o.said links'
        → q.links.items ≡ links' → q.said ≡ o.said → q.setup ≡ p.setup → q.history ≡ p.history → p.has_stopped ≡ false
        → q.has_stopped ≡ false → q.unheard ≡ p.unheard
        → Moves by p (record { node = n; command = SetNode slot owner; reply = admin.Ok }) q
    moved slot owner n p q o links' there other is way same said setup history opened goes unheard = record {
      open_before = opened;
      answers = subst (λ (ls : Links). Answers (AsksNode by) p.setup p.history n (SetNode slot owner) p.links.items (Ok admin.Ok) q.said ls) (sym same)
          (subst (λ (t : Option (List ℕ)). Answers (AsksNode by) p.setup p.history n (SetNode slot owner) p.links.items (Ok admin.Ok) t links') (sym said)
          (answers_by p.setup p.history slot owner n p.links.items links' o.said there other
          (subst (λ (g : Given). asks_by p.setup p.history slot owner p.links.items n g o.said links') (done_is o.given is) way)));
      setup = setup;
      history = subst (λ (b : Bool). q.history ≡ record { receivers = cond b (slice_set p.history.receivers n true) p.history.receivers; givers = p.history.givers; sources = p.history.sources; owners = cond b (finite.insert p.history.owners slot n) p.history.owners })
          (sym (ne_eqb owner n (λ e. other (sym e)))) history;
      stopped = goes;
      unheard = unheard ∙ ap (λ (b : Bool). cond (b && is_some q.said) (one_more p.unheard) p.unheard)
          (sym (ne_eqb owner n (λ e. other (sym e))));
    }

    -- the same port with other connections, after the last words
    abbrev with_links : (p : port.ServersPort I O P) → (links : Links) → length links ≡ length p.links.items → Option (List ℕ)
        → port.ServersPort I O P
    with_links p links same said = record {
      setup = p.setup;
      links = record {
        ptr = p.links.ptr;
        len = p.links.len;
        cap = p.links.cap;
        alloc = p.links.alloc;
        items = links;
        ok = (p.links.ok.0 ∙ sym same, p.links.ok.1);
        small = p.links.small;
      };
      history = p.history;
      pause = p.pause;
      said = said;
      has_stopped = false;
      unheard = p.unheard;
      links_named = p.links_named;
      rows = p.rows;
      receivers = p.receivers;
      givers = p.givers;
    }

    told_run : (slot owner : ℕ) (nodes : List ℕ) (p q : port.ServersPort I O P) (os : List Outcome)
        → owner < length p.setup.book → AreOthers (length p.setup.book) owner nodes → (nodes ≡ [] → q ≡ p)
        → TellsEach (AsksNode by) p.setup p.history
        (request_of p.setup.book p.setup.timeout p.setup.credentials (SetNode slot owner)) (SetNode slot owner)
        p.links.items nodes os q.links.items → list_all is_done (map (λ o. o.given) os) ≡ true
        → q.said ≡ said_of (telling os) → q.setup ≡ p.setup → q.history ≡ p.history → p.has_stopped ≡ false
        → q.has_stopped ≡ false → q.unheard ≡ p.unheard → Runs by p (told_calls slot owner nodes) q
    told_run slot owner [] p q os there others blank each done said setup history opened goes unheard = blank refl
    told_run slot owner (n ∷ []) p q os there others blank each done said setup history opened goes unheard =
        let o : Outcome = each.0 in
        let whole : os ≡ o ∷ [] = each.3 ∙ ap (λ (xs : List Outcome). o ∷ xs) each.5.0 in
        let is : is_done o.given ≡ true =
        (and_parts (is_done o.given) true (ap (λ (xs : List Outcome). list_all is_done (map (λ o. o.given) xs)) (sym whole) ∙ done)).0 in (
          q,
          moved slot owner n p q o each.2 there others.0.1 is each.4 each.5.1
              (said ∙ ap (λ (xs : List Outcome). said_of (telling xs)) whole ∙ last_said o o.given refl (done_is o.given is))
              setup history opened goes unheard,
          refl,
        )
    told_run slot owner (n ∷ (next ∷ ns)) p q os there others blank each done said setup history opened goes unheard =
        let o : Outcome = each.0 in
        let rest : List Outcome = each.1 in
        let all = and_parts (is_done o.given) (list_all is_done (map (λ o. o.given) rest))
        (ap (λ (xs : List Outcome). list_all is_done (map (λ o. o.given) xs)) (sym each.3) ∙ done) in
        let same : length each.2 ≡ length p.links.items =
        command_length by p.setup p.history (request_of p.setup.book p.setup.timeout p.setup.credentials (SetNode slot owner))
        (SetNode slot owner) p.links.items each.2 n o.given o.said each.4 in
        let mid : port.ServersPort I O P = with_links p each.2 same o.said in (
          mid,
          moved slot owner n p mid o each.2 there others.0.1 all.0 each.4 refl refl refl refl opened refl refl,
          told_run slot owner (next ∷ ns) mid q rest there others.1 (λ e. absurd (filled e)) each.5 all.1
              (said ∙ ap (λ (xs : List Outcome). said_of (telling xs)) each.3 ∙ later_said o rest each.5.1 each.5.0 all.0 each.5.3)
              setup history refl goes unheard,
        )
      where
        filled : next ∷ ns ≡ [] → ⊥
        filled e = cc

  pub tellings_run : (P : Type 0) → TellingsAreRuns by P
  tellings_run P slot owner nodes p q given there others blank tells done =
      told_run slot owner nodes p q tells.outcomes there others blank tells.each
      (ap (λ (xs : List Given). list_all is_done xs) (sym tells.answers_are) ∙ done) tells.said tells.setup tells.history
      tells.open_before (tells.stopped ∙ ap not done) tells.unheard
