use Rattle.std.proofs.Common.{◌≡◌, ◌++◌, ◌∷◌, [], cond, length, inl, inr, refl, sym, subst, ap, ◌∙◌, arith}
use Rattle.std.proofs.lemmas.Result.{err_from_is_err_and}
use Rattle.server_links.specs.Links.{Exchanges}
use Rattle.server_commands.specs.Spelling.{nodes_request}
use Rattle.cluster_views.specs.Surveying.{Views}
use Rattle.cluster_survey.proofs.Asked.{Asked, answered, none_asked, one_asked, one_stopped}
use Rattle.cluster_survey.proofs.asking.survey.Goals as goal

pub loop-number-init : goal.loop-number-init
loop-number-init g c =
    none_asked (Exchanges (record { gave = g.I.ByteIn.gave; took = g.O.ByteOut.took }) nodes_request) c.args.links.now.items c.new-views.result.items
    c.new-views.ensures.items

pub loop-number-preserved : goal.loop-number-preserved
loop-number-preserved g c =
    let views = c.loop-number.views.items in
    let put : c.push.new.self.items ≡ views ++ c.in_ok-view.view ∷ [] =
    c.push.ensures.items ∙ ap (λ b. cond b (views ++ c.in_ok-view.view ∷ []) views) c.if-is_err.ensures.negation in
    one_asked (Exchanges (record { gave = g.I.ByteIn.gave; took = g.O.ByteOut.took }) nodes_request) c.args.links.now.items c.loop-number.links.items _
    views c.push.new.self.items c.loop-number.number c.of-node.result c.from.result c.index_mut.result.now
    c.view_of.new.link c.in_ok-view.view c.loop-number.invariant (omega arith) c.of-node.ensures c.from.ensures
    c.index_mut.ensures.value refl put c.in_ok-view.ensures

pub returns-in_err-view : goal.returns-in_err-view
returns-in_err-view g c =
    let p = err_from_is_err_and c.from_residual.result c.from_residual.ensures.1 in
    rw (p.1, p.2) (inl (
    one_stopped (Exchanges (record { gave = g.I.ByteIn.gave; took = g.O.ByteOut.took }) nodes_request) c.args.links.now.items c.loop-number.links.items _
    c.loop-number.views.items c.loop-number.number c.of-node.result c.from.result c.index_mut.result.now
    c.view_of.new.link c.in_err-view.field-0.0 c.loop-number.invariant (omega arith) c.of-node.ensures c.from.ensures
    c.index_mut.ensures.value refl c.in_err-view.ensures))

pub returns-then-is_err : goal.returns-then-is_err
returns-then-is_err g c =
    let views = c.loop-number.views.items in
    let asked =
    one_asked (Exchanges (record { gave = g.I.ByteIn.gave; took = g.O.ByteOut.took }) nodes_request) c.args.links.now.items c.loop-number.links.items _
    views (views ++ c.in_ok-view.view ∷ []) c.loop-number.number c.of-node.result c.from.result
    c.index_mut.result.now c.view_of.new.link c.in_ok-view.view c.loop-number.invariant (omega arith)
    c.of-node.ensures c.from.ensures c.index_mut.ensures.value refl refl c.in_ok-view.ensures in
    inr (views ++ c.in_ok-view.view ∷ [], asked.are, inl refl)

pub survey_of-requires : goal.survey_of-requires
survey_of-requires g c = ap length c.as_slice.ensures.value ∙ c.loop-number.invariant.many ∙ omega arith

pub returns : goal.returns
returns g c =
    let exchanges = Exchanges (record { gave = g.I.ByteIn.gave; took = g.O.ByteOut.took }) nodes_request in
    answered exchanges c.args.book.now c.args.links.now.items c.loop-number.links.items c.as_slice.result.now
    c.loop-number.number c.survey_of.result
    (subst (λ (vs : Views). Asked exchanges c.args.links.now.items c.loop-number.number vs c.loop-number.links.items)
    (sym c.as_slice.ensures.value) c.loop-number.invariant)
    (omega arith) c.survey_of.ensures.survey c.survey_of.ensures.epochs
